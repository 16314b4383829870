use Rattle.std.proofs.Common.{◌≡◌, rules, true, ap, subst, ◌∙◌, arith}
use Rattle.store_rules.specs.Graph.{graph_of}
use Rattle.traversal_run.specs.Feeding.{Feeds}
use Rattle.traversal_run.specs.Held.{IsBatch, is_hop, is_plain}
use Rattle.traversal_run.specs.HopRun.{FeedsHop}
use Rattle.traversal_run.specs.Owing.{Spends, feed_owes, stage_reads}
use Rattle.traversal_run.specs.Stage.{is_count, limit_left}
use Rattle.traversal_run.specs.declared.stage.Stage.{Stage}
use Rattle.traversal_run.proofs.Causes.{fault_stop_cause, fault_stop_has, fault_stops}
use Rattle.traversal_run.proofs.FedReads.{spends_count, spends_source}
use Rattle.traversal_run.proofs.feeding.feed.Goals.{in-Mapped+in-Neighbours-1, in-Dedup-1, then-fits, else-fits}
use Rattle.rec_bytes.proofs.Causes.{never_ok, ok_cause}
use Rattle.traversal_run.proofs.feeding.feed.Goals as goal
use Rattle.traversal_run.proofs.Spending.{spends_err}

pub returns : goal.returns
returns g c =
    let graph = graph_of (g.R.Reads.state c.args.space.now).records in
    let fed = c.in_ok-outs-3.ensures in
    let outs = c.in_ok-outs-3.outs in
    let stays : c.match-stage-2.stage ≡ c.args.stage.now = elim c.match-stage-2.branch
    [ in-Mapped+in-Neighbours-1 w ↦ search rules | in-Dedup-1 w ↦ w.stage-is ] in
    record {
      feeds = λ tells store. subst (λ (stage : Stage). Feeds graph c.args.source.now stage outs c.feed_vertices.new.source c.feed_vertices.new.stage) stays
          (fed.feeds tells store);
      stops = λ tells store. tt;
      damaged = λ tells. tt;
      limits = fed.limits ∙ ap limit_left stays;
      counts = fed.counts ∙ ap is_count stays;
      hops = fed.hops ∙ ap is_hop stays;
      plain = fed.plain ∙ ap is_plain stays;
      few = λ tells store d degrees plain. subst (λ hop. IsBatch d hop outs) (ap is_hop stays) (fed.few tells store d degrees (ap is_plain stays ∙ plain));
      hop = λ vertices hop. subst (λ (stage : Stage). FeedsHop g.R.Reads c.args.names.now.names stage c.args.space.now c.feed_vertices.new.space
          c.args.source.now c.feed_vertices.new.source) stays fed.hop;
      asks = λ records item. fed.asks records item ∙ ap (λ (stage : Stage). stage_reads records stage item) stays;
      owes = λ tells store. subst (λ (stage : Stage). Spends (g.R.Reads.state c.args.space.now) (g.R.Reads.state c.feed_vertices.new.space)
          (feed_owes (g.R.Reads.state c.args.space.now).records c.args.source.now stage)
          (feed_owes (g.R.Reads.state c.args.space.now).records c.feed_vertices.new.source c.feed_vertices.new.stage)) stays (fed.owes tells store);
      read = fed.read;
      cause = search rules;
    }

pub returns-in_err-fits-clause-feeds : goal.returns-in_err-fits-clause-feeds
returns-in_err-fits-clause-feeds g c _ _ = never_ok c.from_residual.result _ _ c.from_residual.ensures.1

pub returns-in_err-fits-clause-limits : goal.returns-in_err-fits-clause-limits
returns-in_err-fits-clause-limits g c = never_ok c.from_residual.result _ _ c.from_residual.ensures.1

pub returns-in_err-fits-clause-few : goal.returns-in_err-fits-clause-few
returns-in_err-fits-clause-few g c _ _ _ _ _ = never_ok c.from_residual.result _ _ c.from_residual.ensures.1

pub returns-in_err-outs-clause-feeds : goal.returns-in_err-outs-clause-feeds
returns-in_err-outs-clause-feeds g c _ _ = never_ok c.from_residual-in_err-outs.result _ _ c.from_residual-in_err-outs.ensures.1

pub returns-in_err-outs-clause-limits : goal.returns-in_err-outs-clause-limits
returns-in_err-outs-clause-limits g c = never_ok c.from_residual-in_err-outs.result _ _ c.from_residual-in_err-outs.ensures.1

pub returns-in_err-outs-clause-few : goal.returns-in_err-outs-clause-few
returns-in_err-outs-clause-few g c _ _ _ _ _ = never_ok c.from_residual-in_err-outs.result _ _ c.from_residual-in_err-outs.ensures.1

pub returns-in_err-outs-2-clause-feeds : goal.returns-in_err-outs-2-clause-feeds
returns-in_err-outs-2-clause-feeds g c _ _ = never_ok c.from_residual-in_err-outs-2.result _ _ c.from_residual-in_err-outs-2.ensures.1

pub returns-in_err-outs-2-clause-limits : goal.returns-in_err-outs-2-clause-limits
returns-in_err-outs-2-clause-limits g c = never_ok c.from_residual-in_err-outs-2.result _ _ c.from_residual-in_err-outs-2.ensures.1

pub returns-in_err-outs-2-clause-few : goal.returns-in_err-outs-2-clause-few
returns-in_err-outs-2-clause-few g c _ _ _ _ _ = never_ok c.from_residual-in_err-outs-2.result _ _ c.from_residual-in_err-outs-2.ensures.1

pub returns-in_err-outs-3-clause-feeds : goal.returns-in_err-outs-3-clause-feeds
returns-in_err-outs-3-clause-feeds g c _ _ = never_ok c.from_residual-in_err-outs-3.result _ _ c.from_residual-in_err-outs-3.ensures.1

pub returns-in_err-outs-3-clause-limits : goal.returns-in_err-outs-3-clause-limits
returns-in_err-outs-3-clause-limits g c = never_ok c.from_residual-in_err-outs-3.result _ _ c.from_residual-in_err-outs-3.ensures.1

pub returns-in_err-outs-3-clause-few : goal.returns-in_err-outs-3-clause-few
returns-in_err-outs-3-clause-few g c _ _ _ _ _ = never_ok c.from_residual-in_err-outs-3.result _ _ c.from_residual-in_err-outs-3.ensures.1

pub returns-in_err-fits-clause-damaged : goal.returns-in_err-fits-clause-damaged
returns-in_err-fits-clause-damaged g c tells =
    fault_stops _ _ c.from_residual.result c.in_err-fits.field-0.0 c.from_residual.ensures.1 (c.in_err-fits.ensures.damaged tells)

pub returns-in_err-fits-clause-stops : goal.returns-in_err-fits-clause-stops
returns-in_err-fits-clause-stops g c _ _ =
    fault_stop_has _ tt tt (λ _. tt) c.from_residual.result c.in_err-fits.field-0.0 c.from_residual.ensures.1

pub returns-in_err-fits-clause-read : goal.returns-in_err-fits-clause-read
returns-in_err-fits-clause-read g c = c.in_err-fits.ensures.read

pub returns-in_err-fits-clause-cause : goal.returns-in_err-fits-clause-cause
returns-in_err-fits-clause-cause g c =
    fault_stop_cause _ _ _ c.from_residual.result c.in_err-fits.field-0.0 (omega arith) c.in_err-fits.ensures.cause c.from_residual.ensures.1

pub returns-in_err-outs-clause-damaged : goal.returns-in_err-outs-clause-damaged
returns-in_err-outs-clause-damaged g c tells =
    fault_stops _ _ c.from_residual-in_err-outs.result c.in_err-outs.field-0.0 c.from_residual-in_err-outs.ensures.1 (c.in_err-outs.ensures.damaged tells)

pub returns-in_err-outs-clause-stops : goal.returns-in_err-outs-clause-stops
returns-in_err-outs-clause-stops g c _ _ =
    fault_stop_has _ tt tt (λ _. tt) c.from_residual-in_err-outs.result c.in_err-outs.field-0.0 c.from_residual-in_err-outs.ensures.1

pub returns-in_err-outs-clause-read : goal.returns-in_err-outs-clause-read
returns-in_err-outs-clause-read g c = c.in_err-outs.ensures.read

pub returns-in_err-outs-clause-cause : goal.returns-in_err-outs-clause-cause
returns-in_err-outs-clause-cause g c =
    fault_stop_cause _ _ _ c.from_residual-in_err-outs.result c.in_err-outs.field-0.0 (omega arith) c.in_err-outs.ensures.cause
    c.from_residual-in_err-outs.ensures.1

pub returns-in_err-outs-2-clause-damaged : goal.returns-in_err-outs-2-clause-damaged
returns-in_err-outs-2-clause-damaged g c tells =
    fault_stops _ _ c.from_residual-in_err-outs-2.result c.in_err-outs-2.field-0.0 c.from_residual-in_err-outs-2.ensures.1
    (c.in_err-outs-2.ensures.damaged tells)

pub returns-in_err-outs-2-clause-stops : goal.returns-in_err-outs-2-clause-stops
returns-in_err-outs-2-clause-stops g c _ _ =
    fault_stop_has _ tt tt (λ _. tt) c.from_residual-in_err-outs-2.result c.in_err-outs-2.field-0.0 c.from_residual-in_err-outs-2.ensures.1

pub returns-in_err-outs-2-clause-read : goal.returns-in_err-outs-2-clause-read
returns-in_err-outs-2-clause-read g c = c.in_err-outs-2.ensures.read

pub returns-in_err-outs-2-clause-cause : goal.returns-in_err-outs-2-clause-cause
returns-in_err-outs-2-clause-cause g c =
    fault_stop_cause _ _ _ c.from_residual-in_err-outs-2.result c.in_err-outs-2.field-0.0 (omega arith) c.in_err-outs-2.ensures.cause
    c.from_residual-in_err-outs-2.ensures.1

pub returns-in_err-outs-3-clause-damaged : goal.returns-in_err-outs-3-clause-damaged
returns-in_err-outs-3-clause-damaged g c tells =
    fault_stops _ _ c.from_residual-in_err-outs-3.result c.in_err-outs-3.field-0.0 c.from_residual-in_err-outs-3.ensures.1
    (c.in_err-outs-3.ensures.damaged tells)

pub returns-in_err-outs-3-clause-stops : goal.returns-in_err-outs-3-clause-stops
returns-in_err-outs-3-clause-stops g c _ _ =
    fault_stop_has _ tt tt (λ _. tt) c.from_residual-in_err-outs-3.result c.in_err-outs-3.field-0.0 c.from_residual-in_err-outs-3.ensures.1

pub returns-in_err-outs-3-clause-read : goal.returns-in_err-outs-3-clause-read
returns-in_err-outs-3-clause-read g c = c.in_err-outs-3.ensures.read

pub returns-in_err-outs-3-clause-cause : goal.returns-in_err-outs-3-clause-cause
returns-in_err-outs-3-clause-cause g c =
    fault_stop_cause _ _ _ c.from_residual-in_err-outs-3.result c.in_err-outs-3.field-0.0 (omega arith) c.in_err-outs-3.ensures.cause
    c.from_residual-in_err-outs-3.ensures.1

pub returns-in_err-outs-3-clause-hop : goal.returns-in_err-outs-3-clause-hop
returns-in_err-outs-3-clause-hop g c = λ vertices hop.
    let stays : c.match-stage-2.stage ≡ c.args.stage.now = elim c.match-stage-2.branch
    [ in-Mapped+in-Neighbours-1 w ↦ search rules | in-Dedup-1 w ↦ w.stage-is ] in
    subst (λ (stage : Stage). FeedsHop g.R.Reads c.args.names.now.names stage c.args.space.now c.feed_vertices.new.space c.args.source.now
    c.feed_vertices.new.source) stays c.in_err-outs-3.ensures.hop

pub returns-in_err-fits-clause-owes : goal.returns-in_err-fits-clause-owes
returns-in_err-fits-clause-owes g c = λ tells store.
    let s = g.R.Reads.state c.args.space.now in
    spends_err c.from_residual.result _ s (g.R.Reads.state c.count.new.space) _ 0 _ c.from_residual.ensures.1
    (spends_source s.records (stage_reads s.records c.args.stage.now) c.args.source.now s (g.R.Reads.state c.count.new.space) 0 c.in_err-fits.ensures.owes)

pub returns-in_err-outs-clause-owes : goal.returns-in_err-outs-clause-owes
returns-in_err-outs-clause-owes g c = λ tells store.
    spends_err c.from_residual-in_err-outs.result _ (g.R.Reads.state c.args.space.now) (g.R.Reads.state c.feed_edges.new.space) _ 0 _
    c.from_residual-in_err-outs.ensures.1 (c.in_err-outs.ensures.owes tells store)

pub returns-in_err-outs-3-clause-asks : goal.returns-in_err-outs-3-clause-asks
returns-in_err-outs-3-clause-asks g c = λ records item.
    let stays : c.match-stage-2.stage ≡ c.args.stage.now = elim c.match-stage-2.branch
    [ in-Mapped+in-Neighbours-1 w ↦ search rules | in-Dedup-1 w ↦ w.stage-is ] in
    c.in_err-outs-3.ensures.asks records item ∙ ap (λ (stage : Stage). stage_reads records stage item) stays

pub returns-in_err-outs-3-clause-owes : goal.returns-in_err-outs-3-clause-owes
returns-in_err-outs-3-clause-owes g c = λ tells store.
    let s = g.R.Reads.state c.args.space.now in
    let t = g.R.Reads.state c.feed_vertices.new.space in
    let stays : c.match-stage-2.stage ≡ c.args.stage.now = elim c.match-stage-2.branch
    [ in-Mapped+in-Neighbours-1 w ↦ search rules | in-Dedup-1 w ↦ w.stage-is ] in
    spends_err c.from_residual-in_err-outs-3.result _ s t _ 0 _ c.from_residual-in_err-outs-3.ensures.1
    (subst (λ (stage : Stage). Spends s t (feed_owes s.records c.args.source.now stage) 0) stays (c.in_err-outs-3.ensures.owes tells store))

pub returns-then-given-clause-owes : goal.returns-then-given-clause-owes
returns-then-given-clause-owes g c = λ tells store.
    let s = g.R.Reads.state c.args.space.now in
    let counts : is_count c.if-fits.stage ≡ true = elim c.if-fits.branch [ then-fits w ↦ ap is_count w.stage-is | else-fits w ↦ ap is_count w.stage-is ] in
    spends_count s.records c.args.source.now c.count.new.self c.args.stage.now c.if-fits.stage s (g.R.Reads.state c.count.new.space)
    (ap is_count c.in-Count.is) counts c.in_ok-fits.ensures.owes

pub returns-then-source-clause-feeds : goal.returns-then-source-clause-feeds
returns-then-source-clause-feeds g c = c.in_ok-outs.ensures.feeds

pub returns-then-source-clause-limits : goal.returns-then-source-clause-limits
returns-then-source-clause-limits g c = c.in_ok-outs.ensures.limits

pub returns-then-source-clause-counts : goal.returns-then-source-clause-counts
returns-then-source-clause-counts g c = c.in_ok-outs.ensures.counts

pub returns-then-source-clause-hops : goal.returns-then-source-clause-hops
returns-then-source-clause-hops g c = c.in_ok-outs.ensures.hops

pub returns-then-source-clause-plain : goal.returns-then-source-clause-plain
returns-then-source-clause-plain g c = c.in_ok-outs.ensures.plain

pub returns-then-source-clause-asks : goal.returns-then-source-clause-asks
returns-then-source-clause-asks g c = c.in_ok-outs.ensures.asks

pub returns-then-source-clause-few : goal.returns-then-source-clause-few
returns-then-source-clause-few g c = c.in_ok-outs.ensures.few

pub returns-then-source-clause-owes : goal.returns-then-source-clause-owes
returns-then-source-clause-owes g c = c.in_ok-outs.ensures.owes

pub returns-then-source-clause-read : goal.returns-then-source-clause-read
returns-then-source-clause-read g c = c.in_ok-outs.ensures.read

pub returns-then-source-clause-cause : goal.returns-then-source-clause-cause
returns-then-source-clause-cause g c = ok_cause _ _ _ _ c.in_ok-outs.ensures.cause.later

pub returns-in_err-outs-3-clause-counts : goal.returns-in_err-outs-3-clause-counts
returns-in_err-outs-3-clause-counts g c =
    let stays : c.match-stage-2.stage ≡ c.args.stage.now = elim c.match-stage-2.branch
    [ in-Mapped+in-Neighbours-1 w ↦ search rules | in-Dedup-1 w ↦ w.stage-is ] in
    c.in_err-outs-3.ensures.counts ∙ ap is_count stays

pub returns-in_err-outs-3-clause-hops : goal.returns-in_err-outs-3-clause-hops
returns-in_err-outs-3-clause-hops g c =
    let stays : c.match-stage-2.stage ≡ c.args.stage.now = elim c.match-stage-2.branch
    [ in-Mapped+in-Neighbours-1 w ↦ search rules | in-Dedup-1 w ↦ w.stage-is ] in
    c.in_err-outs-3.ensures.hops ∙ ap is_hop stays

pub returns-in_err-outs-3-clause-plain : goal.returns-in_err-outs-3-clause-plain
returns-in_err-outs-3-clause-plain g c =
    let stays : c.match-stage-2.stage ≡ c.args.stage.now = elim c.match-stage-2.branch
    [ in-Mapped+in-Neighbours-1 w ↦ search rules | in-Dedup-1 w ↦ w.stage-is ] in
    c.in_err-outs-3.ensures.plain ∙ ap is_plain stays
