use Rattle.std.proofs.Common.{Option, ap, subst, sym, ◌∙◌, ◌∷◌, ◌≡◌}
use Rattle.plain_graph.specs.declared.item.Item.{Item}
use Rattle.rec_bytes.specs.Space.{State}
use Rattle.store_rules.specs.Graph.{graph_of}
use Rattle.traversal_run.specs.Finding.{element_mark}
use Rattle.traversal_run.specs.Owing.{Spends, source_owes, stage_reads}
use Rattle.traversal_run.specs.Source.{GivesFirst, left_of}
use Rattle.traversal_run.specs.Held.{IsBatch, is_hop}
use Rattle.traversal_run.specs.Stage.{Takes, limit_left}
use Rattle.traversal_run.proofs.Fed.{feeds_end, feeds_more, feeds_on, limit_stays, none_left}
use Rattle.traversal_run.proofs.FedReads.{spends_end, spends_next, spends_source, spends_stage}
use Rattle.traversal_run.proofs.HeldSteps.{few_at, takes_batch}
use Rattle.traversal_run.proofs.OnlyReads.{is_read-on, named-read}
use Rattle.traversal_run.proofs.Causes.{cause_passed, later_on}
use Rattle.std.proofs.lemmas.Result.{err_from_is_err_and}
use Rattle.prop_store.specs.Fault.{BlamesBroken}
use Rattle.rec_bytes.proofs.Causes.{never_ok, ok_cause}
use Rattle.traversal_run.proofs.Exits.{few_none, limit_none}
use Rattle.traversal_run.proofs.feeding.feed_edges.Goals as goal
use Rattle.traversal_run.proofs.Spending.{spends_err, spends_less, spends_on}

pub next-requires : goal.next-requires
next-requires g c =
    let same = ap (λ (t : State). t.records) c.loop.invariant.read.same in
    c.mark-mark.ensures ∙ (λ i. element_mark (sym same i) (sym c.loop.invariant.edges i))

pub returns-in_default-clause-feeds : goal.returns-in_default-clause-feeds
returns-in_default-clause-feeds g c = λ tells store.
    let space = g.R.Reads in
    let graph = graph_of (space.state c.args.space.now).records in
    let inv = c.loop.invariant in
    let first = subst (λ (t : State). GivesFirst (graph_of t.records) c.loop.source c.in_ok-item.field-0 c.next.new.self) inv.read.same
    (c.in_ok-item.ensures.first tells (named-read space c.args.space.now c.loop.space c.args.names.now.names inv.read store)) in
    let none = none_left graph c.loop.source c.next.new.self c.end.new.self c.in_ok-item.field-0 c.in_default.is first c.end.ensures in
    feeds_end graph c.args.source.now c.loop.source c.end.new.self c.args.stage.now c.loop.stage c.new.result c.new.ensures (inv.feeds tells store) none.0
    none.1

pub returns-then-not-is_empty-clause-feeds : goal.returns-then-not-is_empty-clause-feeds
returns-then-not-is_empty-clause-feeds g c = λ tells store.
    let space = g.R.Reads in
    let graph = graph_of (space.state c.args.space.now).records in
    let inv = c.loop.invariant in
    let read = is_read-on space g.met.R.Reads.further_onward c.args.space.now c.loop.space c.next.new.space inv.read c.in_ok-item.ensures.read in
    let first = subst (λ (t : State). GivesFirst (graph_of t.records) c.loop.source c.in_ok-item.field-0 c.next.new.self) inv.read.same
    (c.in_ok-item.ensures.first tells (named-read space c.args.space.now c.loop.space c.args.names.now.names inv.read store)) in
    let gives : left_of graph c.loop.source ≡ c.in-Some.item ∷ left_of graph c.next.new.self
    = subst (λ (o : Option Item). GivesFirst graph c.loop.source o c.next.new.self) c.in-Some.is first in
    let takes = subst (λ (t : State). Takes (graph_of t.records) c.loop.stage c.in-Some.item c.in_ok-outs.outs c.take.new.self) read.same
    (c.in_ok-outs.ensures.takes tells (named-read space c.args.space.now c.next.new.space c.args.names.now.names read store)) in
    feeds_more graph c.args.source.now c.loop.source c.next.new.self c.args.stage.now c.loop.stage c.take.new.self c.in-Some.item c.in_ok-outs.outs
    (inv.feeds tells store) gives takes

pub loop-preserved : goal.loop-preserved
loop-preserved g c =
    let space = g.R.Reads in
    let s = space.state c.args.space.now in
    let graph = graph_of s.records in
    let inv = c.loop.invariant in
    let read = is_read-on space g.met.R.Reads.further_onward c.args.space.now c.loop.space c.next.new.space inv.read c.in_ok-item.ensures.read in
    let nothing = c.is_empty.ensures.yes c.if-not-is_empty.false in
    record {
      feeds = λ tells store.
          let first = subst (λ (t : State). GivesFirst (graph_of t.records) c.loop.source c.in_ok-item.field-0 c.next.new.self) inv.read.same
          (c.in_ok-item.ensures.first tells (named-read space c.args.space.now c.loop.space c.args.names.now.names inv.read store)) in
          let gives : left_of graph c.loop.source ≡ c.in-Some.item ∷ left_of graph c.next.new.self
          = subst (λ (o : Option Item). GivesFirst graph c.loop.source o c.next.new.self) c.in-Some.is first in
          let takes = subst (λ (t : State). Takes (graph_of t.records) c.loop.stage c.in-Some.item c.in_ok-outs.outs c.take.new.self) read.same
          (c.in_ok-outs.ensures.takes tells (named-read space c.args.space.now c.next.new.space c.args.names.now.names read store)) in
          feeds_on graph c.args.source.now c.next.new.self c.args.stage.now c.take.new.self c.in_ok-outs.outs nothing
          (feeds_more graph c.args.source.now c.loop.source c.next.new.self c.args.stage.now c.loop.stage c.take.new.self c.in-Some.item c.in_ok-outs.outs
          (inv.feeds tells store) gives takes);
      limits = limit_stays _ _ c.in_ok-outs.outs nothing c.in_ok-outs.ensures.limits ∙ inv.limits;
      counts = c.take.ensures.counts ∙ inv.counts;
      hops = c.take.ensures.hops ∙ inv.hops;
      plain = c.take.ensures.plain ∙ inv.plain;
      asks = λ records other. c.take.ensures.asks records other ∙ inv.asks records other;
      owes = λ tells store.
          let item = c.in-Some.item in
          let first = subst (λ (t : State). GivesFirst (graph_of t.records) c.loop.source c.in_ok-item.field-0 c.next.new.self) inv.read.same
          (c.in_ok-item.ensures.first tells (named-read space c.args.space.now c.loop.space c.args.names.now.names inv.read store)) in
          let gives : left_of (graph_of s.records) c.loop.source ≡ item ∷ left_of (graph_of s.records) c.next.new.self
          = subst (λ (o : Option Item). GivesFirst (graph_of s.records) c.loop.source o c.next.new.self) c.in-Some.is first in
          let paid = subst (λ (t : State). Spends (space.state c.loop.space) (space.state c.next.new.space) (source_owes t.records c.loop.source)
          (source_owes t.records c.next.new.self)) inv.read.same c.in_ok-item.ensures.owes in
          let asks = ap (λ (t : State). stage_reads t.records c.loop.stage item) read.same ∙ inv.asks s.records item in
          let costs = c.take.ensures.reads tells (named-read space c.args.space.now c.next.new.space c.args.names.now.names read store) in
          let spends = spends_on s (space.state c.loop.space) (space.state c.take.new.space) _ _ _ (inv.owes tells store)
          (spends_next s.records (stage_reads s.records c.args.stage.now) c.loop.source (space.state c.loop.space) (space.state c.next.new.space)
          c.next.new.self (space.state c.take.new.space) item (stage_reads (space.state c.next.new.space).records c.loop.stage item) asks paid costs gives) in
          spends;
      edges = c.next.ensures.edges ∙ inv.edges;
      read = is_read-on space g.met.R.Reads.further_onward c.args.space.now c.next.new.space c.take.new.space read c.in_ok-outs.ensures.read;
    }

pub returns-then-not-is_empty-clause-few : goal.returns-then-not-is_empty-clause-few
returns-then-not-is_empty-clause-few g c = λ tells store d degrees plain.
    let space = g.R.Reads in
    let s = space.state c.args.space.now in
    let inv = c.loop.invariant in
    let read = is_read-on space g.met.R.Reads.further_onward c.args.space.now c.loop.space c.next.new.space inv.read c.in_ok-item.ensures.read in
    let takes = subst (λ (t : State). Takes (graph_of t.records) c.loop.stage c.in-Some.item c.in_ok-outs.outs c.take.new.self) read.same
    (c.in_ok-outs.ensures.takes tells (named-read space c.args.space.now c.next.new.space c.args.names.now.names read store)) in
    subst (λ b. IsBatch d b c.in_ok-outs.outs) inv.hops
    (takes_batch (graph_of s.records) d (few_at s.records s.shape store.store d degrees) c.loop.stage c.take.new.self c.in-Some.item c.in_ok-outs.outs
    (inv.plain ∙ plain) c.take.ensures.plain takes)

pub returns-then-not-is_empty-clause-owes : goal.returns-then-not-is_empty-clause-owes
returns-then-not-is_empty-clause-owes g c = λ tells store.
    let space = g.R.Reads in
    let s = space.state c.args.space.now in
    let inv = c.loop.invariant in
    let read = is_read-on space g.met.R.Reads.further_onward c.args.space.now c.loop.space c.next.new.space inv.read c.in_ok-item.ensures.read in
    let item = c.in-Some.item in
    let first = subst (λ (t : State). GivesFirst (graph_of t.records) c.loop.source c.in_ok-item.field-0 c.next.new.self) inv.read.same
    (c.in_ok-item.ensures.first tells (named-read space c.args.space.now c.loop.space c.args.names.now.names inv.read store)) in
    let gives : left_of (graph_of s.records) c.loop.source ≡ item ∷ left_of (graph_of s.records) c.next.new.self
    = subst (λ (o : Option Item). GivesFirst (graph_of s.records) c.loop.source o c.next.new.self) c.in-Some.is first in
    let paid = subst (λ (t : State). Spends (space.state c.loop.space) (space.state c.next.new.space) (source_owes t.records c.loop.source)
    (source_owes t.records c.next.new.self)) inv.read.same c.in_ok-item.ensures.owes in
    let asks = ap (λ (t : State). stage_reads t.records c.loop.stage item) read.same ∙ inv.asks s.records item in
    let costs = c.take.ensures.reads tells (named-read space c.args.space.now c.next.new.space c.args.names.now.names read store) in
    let spends = spends_on s (space.state c.loop.space) (space.state c.take.new.space) _ _ _ (inv.owes tells store)
    (spends_next s.records (stage_reads s.records c.args.stage.now) c.loop.source (space.state c.loop.space) (space.state c.next.new.space)
    c.next.new.self (space.state c.take.new.space) item (stage_reads (space.state c.next.new.space).records c.loop.stage item) asks paid costs gives) in
    spends_stage s.records c.next.new.self c.args.stage.now c.take.new.self s (space.state c.take.new.space) _
    (λ other. c.take.ensures.asks s.records other ∙ inv.asks s.records other) spends

pub returns-then-not-is_empty-clause-asks : goal.returns-then-not-is_empty-clause-asks
returns-then-not-is_empty-clause-asks g c = λ records other. c.take.ensures.asks records other ∙ c.loop.invariant.asks records other

pub returns-in_err-outs-clause-asks : goal.returns-in_err-outs-clause-asks
returns-in_err-outs-clause-asks g c = λ records other. c.take.ensures.asks records other ∙ c.loop.invariant.asks records other

pub returns-in_err-outs-clause-owes : goal.returns-in_err-outs-clause-owes
returns-in_err-outs-clause-owes g c = λ tells store.
    let space = g.R.Reads in
    let s = space.state c.args.space.now in
    let inv = c.loop.invariant in
    let read = is_read-on space g.met.R.Reads.further_onward c.args.space.now c.loop.space c.next.new.space inv.read c.in_ok-item.ensures.read in
    let item = c.in-Some.item in
    let first = subst (λ (t : State). GivesFirst (graph_of t.records) c.loop.source c.in_ok-item.field-0 c.next.new.self) inv.read.same
    (c.in_ok-item.ensures.first tells (named-read space c.args.space.now c.loop.space c.args.names.now.names inv.read store)) in
    let gives : left_of (graph_of s.records) c.loop.source ≡ item ∷ left_of (graph_of s.records) c.next.new.self
    = subst (λ (o : Option Item). GivesFirst (graph_of s.records) c.loop.source o c.next.new.self) c.in-Some.is first in
    let paid = subst (λ (t : State). Spends (space.state c.loop.space) (space.state c.next.new.space) (source_owes t.records c.loop.source)
    (source_owes t.records c.next.new.self)) inv.read.same c.in_ok-item.ensures.owes in
    let asks = ap (λ (t : State). stage_reads t.records c.loop.stage item) read.same ∙ inv.asks s.records item in
    let costs = c.take.ensures.reads tells (named-read space c.args.space.now c.next.new.space c.args.names.now.names read store) in
    let spends = spends_on s (space.state c.loop.space) (space.state c.take.new.space) _ _ _ (inv.owes tells store)
    (spends_next s.records (stage_reads s.records c.args.stage.now) c.loop.source (space.state c.loop.space) (space.state c.next.new.space)
    c.next.new.self (space.state c.take.new.space) item (stage_reads (space.state c.next.new.space).records c.loop.stage item) asks paid costs gives) in
    spends_err c.from_residual-in_err-outs.result _ s (space.state c.take.new.space) _ _ _ c.from_residual-in_err-outs.ensures.1 spends

pub returns-in_err-item-clause-asks : goal.returns-in_err-item-clause-asks
returns-in_err-item-clause-asks g c = c.loop.invariant.asks

pub returns-in_err-item-clause-owes : goal.returns-in_err-item-clause-owes
returns-in_err-item-clause-owes g c = λ tells store.
    let space = g.R.Reads in
    let s = space.state c.args.space.now in
    let inv = c.loop.invariant in
    let paid = subst (λ (t : State). Spends (space.state c.loop.space) (space.state c.next.new.space) (source_owes t.records c.loop.source) 0)
    inv.read.same c.in_err-item.ensures.owes in
    spends_err c.from_residual.result _ s (space.state c.next.new.space) _ 0 _ c.from_residual.ensures.1
    (spends_on s (space.state c.loop.space) (space.state c.next.new.space) _ _ 0 (inv.owes tells store)
    (spends_source s.records (stage_reads s.records c.args.stage.now) c.loop.source (space.state c.loop.space) (space.state c.next.new.space) 0 paid))

pub returns-in_default-clause-asks : goal.returns-in_default-clause-asks
returns-in_default-clause-asks g c = c.loop.invariant.asks

pub returns-in_default-clause-owes : goal.returns-in_default-clause-owes
returns-in_default-clause-owes g c = λ tells store.
    let space = g.R.Reads in
    let s = space.state c.args.space.now in
    let inv = c.loop.invariant in
    let paid = subst (λ (t : State). Spends (space.state c.loop.space) (space.state c.next.new.space) (source_owes t.records c.loop.source)
    (source_owes t.records c.next.new.self)) inv.read.same c.in_ok-item.ensures.owes in
    let over = spends_on s (space.state c.loop.space) (space.state c.next.new.space) _ _ 0 (inv.owes tells store)
    (spends_source s.records (stage_reads s.records c.args.stage.now) c.loop.source (space.state c.loop.space) (space.state c.next.new.space) _ paid) in
    spends_end s.records (stage_reads s.records c.loop.stage) c.next.new.self c.end.new.self s (space.state c.next.new.space) _ 0 c.end.ensures over

pub returns-clause-asks : goal.returns-clause-asks
returns-clause-asks g c = c.loop.invariant.asks

pub returns-clause-owes : goal.returns-clause-owes
returns-clause-owes g c = λ tells store.
    spends_less (g.R.Reads.state c.args.space.now) (g.R.Reads.state c.loop.space) _ _ (c.loop.invariant.owes tells store)

pub returns-in_err-item-clause-read : goal.returns-in_err-item-clause-read
returns-in_err-item-clause-read g c =
    is_read-on g.R.Reads g.met.R.Reads.further_onward _ _ _ c.loop.invariant.read c.in_err-item.ensures.read

pub returns-in_err-item-clause-cause : goal.returns-in_err-item-clause-cause
returns-in_err-item-clause-cause g c =
    cause_passed _ _ _ c.from_residual.result c.in_err-item.field-0.0
    c.loop.invariant.read.later c.in_err-item.ensures.cause c.from_residual.ensures.1

pub returns-in_err-item-clause-damaged : goal.returns-in_err-item-clause-damaged
returns-in_err-item-clause-damaged g c = λ tells.
    let p = err_from_is_err_and c.from_residual.result c.from_residual.ensures.1 in
    rw (p.1, p.2)
    (subst (λ (t : State). BlamesBroken t.records t.shape c.in_err-item.field-0.0) c.loop.invariant.read.same (c.in_err-item.ensures.damaged tells))

pub returns-in_err-outs-clause-read : goal.returns-in_err-outs-clause-read
returns-in_err-outs-clause-read g c =
    is_read-on g.R.Reads g.met.R.Reads.further_onward _ _ _
    (is_read-on g.R.Reads g.met.R.Reads.further_onward _ _ _ c.loop.invariant.read c.in_ok-item.ensures.read)
    c.in_err-outs.ensures.read

pub returns-in_err-outs-clause-cause : goal.returns-in_err-outs-clause-cause
returns-in_err-outs-clause-cause g c =
    cause_passed _ _ _ c.from_residual-in_err-outs.result c.in_err-outs.field-0.0
    (later_on c.loop.invariant.read.later c.in_ok-item.ensures.cause.later) c.in_err-outs.ensures.cause c.from_residual-in_err-outs.ensures.1

pub returns-in_err-outs-clause-damaged : goal.returns-in_err-outs-clause-damaged
returns-in_err-outs-clause-damaged g c = λ tells.
    let p = err_from_is_err_and c.from_residual-in_err-outs.result c.from_residual-in_err-outs.ensures.1 in
    let read = is_read-on g.R.Reads g.met.R.Reads.further_onward c.args.space.now c.loop.space c.next.new.space
    c.loop.invariant.read c.in_ok-item.ensures.read in
    rw (p.1, p.2)
    (subst (λ (t : State). BlamesBroken t.records t.shape c.in_err-outs.field-0.0) read.same (c.in_err-outs.ensures.damaged tells))

pub returns-then-not-is_empty-clause-read : goal.returns-then-not-is_empty-clause-read
returns-then-not-is_empty-clause-read g c =
    is_read-on g.R.Reads g.met.R.Reads.further_onward _ _ _
    (is_read-on g.R.Reads g.met.R.Reads.further_onward _ _ _ c.loop.invariant.read c.in_ok-item.ensures.read)
    c.in_ok-outs.ensures.read

pub returns-in_default-clause-read : goal.returns-in_default-clause-read
returns-in_default-clause-read g c =
    is_read-on g.R.Reads g.met.R.Reads.further_onward _ _ _ c.loop.invariant.read c.in_ok-item.ensures.read

pub returns-in_err-item-clause-feeds : goal.returns-in_err-item-clause-feeds
returns-in_err-item-clause-feeds g c _ _ = never_ok c.from_residual.result _ _ c.from_residual.ensures.1

pub returns-in_err-item-clause-limits : goal.returns-in_err-item-clause-limits
returns-in_err-item-clause-limits g c = never_ok c.from_residual.result _ _ c.from_residual.ensures.1

pub returns-in_err-item-clause-few : goal.returns-in_err-item-clause-few
returns-in_err-item-clause-few g c _ _ _ _ _ = never_ok c.from_residual.result _ _ c.from_residual.ensures.1

pub returns-in_err-outs-clause-feeds : goal.returns-in_err-outs-clause-feeds
returns-in_err-outs-clause-feeds g c _ _ = never_ok c.from_residual-in_err-outs.result _ _ c.from_residual-in_err-outs.ensures.1

pub returns-in_err-outs-clause-limits : goal.returns-in_err-outs-clause-limits
returns-in_err-outs-clause-limits g c = never_ok c.from_residual-in_err-outs.result _ _ c.from_residual-in_err-outs.ensures.1

pub returns-in_err-outs-clause-few : goal.returns-in_err-outs-clause-few
returns-in_err-outs-clause-few g c _ _ _ _ _ = never_ok c.from_residual-in_err-outs.result _ _ c.from_residual-in_err-outs.ensures.1

pub returns-then-not-is_empty-clause-cause : goal.returns-then-not-is_empty-clause-cause
returns-then-not-is_empty-clause-cause g c =
    ok_cause _ _ _ _ (later_on (later_on c.loop.invariant.read.later c.in_ok-item.ensures.cause.later) c.in_ok-outs.ensures.cause.later)

pub returns-in_default-clause-cause : goal.returns-in_default-clause-cause
returns-in_default-clause-cause g c = ok_cause _ _ _ _ (later_on c.loop.invariant.read.later c.in_ok-item.ensures.cause.later)

pub returns-then-not-is_empty-clause-limits : goal.returns-then-not-is_empty-clause-limits
returns-then-not-is_empty-clause-limits g c = c.in_ok-outs.ensures.limits ∙ c.loop.invariant.limits

pub returns-in_default-clause-limits : goal.returns-in_default-clause-limits
returns-in_default-clause-limits g c = limit_none (limit_left c.loop.stage) c.new.result c.new.ensures ∙ c.loop.invariant.limits

pub returns-in_default-clause-few : goal.returns-in_default-clause-few
returns-in_default-clause-few g c = λ tells store d degrees plain. few_none d (is_hop c.args.stage.now) c.new.result c.new.ensures

pub returns-then-not-is_empty-clause-counts : goal.returns-then-not-is_empty-clause-counts
returns-then-not-is_empty-clause-counts g c = c.take.ensures.counts ∙ c.loop.invariant.counts

pub returns-then-not-is_empty-clause-hops : goal.returns-then-not-is_empty-clause-hops
returns-then-not-is_empty-clause-hops g c = c.take.ensures.hops ∙ c.loop.invariant.hops

pub returns-then-not-is_empty-clause-plain : goal.returns-then-not-is_empty-clause-plain
returns-then-not-is_empty-clause-plain g c = c.take.ensures.plain ∙ c.loop.invariant.plain
