use Rattle.std.proofs.Common.{ap, false, subst, sym, ◌∙◌, ◌∷◌}
use Rattle.plain_graph.specs.declared.item.Item.{Item}
use Rattle.plain_graph.specs.declared.item.Item.TheVariants as items
use Rattle.rec_bytes.specs.Space.{State}
use Rattle.store_rules.specs.Graph.{graph_of}
use Rattle.traversal_run.specs.Finding.{element_at, element_mark}
use Rattle.traversal_run.specs.Held.{IsBatch, is_hop}
use Rattle.traversal_run.specs.Source.{HasNoneBelow, left_of}
use Rattle.traversal_run.specs.Stage.{Takes, limit_left}
use Rattle.traversal_run.specs.declared.source.Source.{Source}
use Rattle.traversal_run.proofs.Fed.{ended, feeds_end, feeds_more, feeds_on, feeds_past, gives_none, gives_vertex, limit_stays}
use Rattle.traversal_run.proofs.HeldSteps.{few_at, takes_batch}
use Rattle.traversal_run.proofs.FedReads.{spends_end, spends_past, spends_row, spends_stage, spends_taken, taken_pays}
use Rattle.traversal_run.proofs.LeftRows.{left-none}
use Rattle.traversal_run.proofs.OnlyReads.{is_read-on, named-read}
use Rattle.traversal_run.proofs.Causes.{cause_passed, later_on}
use Rattle.std.proofs.lemmas.Result.{err_from_is_err_and}
use Rattle.prop_store.specs.Fault.{BlamesBroken}
use Rattle.rec_bytes.proofs.Causes.{never_ok, ok_cause}
use Rattle.traversal_run.proofs.HopRuns.{fed_took, feeds_over, feeds_took, ended_none, took_row, took_step}
use Rattle.traversal_run.specs.Owing.{stage_reads}
use Rattle.prop_store.specs.Reading.{ReadsAtMost}
use Rattle.traversal_run.proofs.Exits.{few_none, limit_none}
use Rattle.traversal_run.specs.Elements.{IsRowOf}
use Rattle.traversal_run.proofs.feeding.feed_vertices.Goals as goal
use Rattle.traversal_run.proofs.Spending.{spends_err, spends_on}

pub returns-then-not-is_empty-clause-feeds : goal.returns-then-not-is_empty-clause-feeds
returns-then-not-is_empty-clause-feeds g c = λ tells store.
    let space = g.R.Reads in
    let s = space.state c.args.space.now in
    let graph = graph_of s.records in
    let inv = c.loop-id.invariant in
    let now = c.loop-id.source in
    let rest : Source = record { edges = now.edges; left = c.take_first.new.self } in
    let read = is_read-on space g.met.R.Reads.further_onward c.args.space.now c.loop-id.space c.vertex_row.new.space inv.read c.in_ok-row.ensures.read in
    let takes = subst (λ (t : State). Takes (graph_of t.records) c.loop-id.stage c.vertex.result c.in_ok-outs.outs c.take.new.self) read.same
    (c.in_ok-outs.ensures.takes tells (named-read space c.args.space.now c.vertex_row.new.space c.args.names.now.names read store)) in
    let gives = gives_vertex s.records now c.take_first.new.self c.in-Some.id c.in_ok-row.row (inv.edges ∙ c.requires.vertices) c.in-Some.ensures.some
    (sym (ap (λ (t : State). element_at t.records false c.in-Some.id) inv.read.same) ∙ c.in_ok-row.ensures.is tells)
    (sym c.is_some.ensures ∙ c.if-is_some.true) in
    feeds_more graph c.args.source.now now rest c.args.stage.now c.loop-id.stage c.take.new.self c.vertex.result c.in_ok-outs.outs (inv.feeds tells store)
    (gives ∙ ap (λ (item : Item). item ∷ left_of graph rest) (sym c.vertex.ensures)) takes

pub returns-then-not-is_empty-clause-few : goal.returns-then-not-is_empty-clause-few
returns-then-not-is_empty-clause-few g c = λ tells store d degrees plain.
    let space = g.R.Reads in
    let s = space.state c.args.space.now in
    let graph = graph_of s.records in
    let inv = c.loop-id.invariant in
    let now = c.loop-id.source in
    let read = is_read-on space g.met.R.Reads.further_onward c.args.space.now c.loop-id.space c.vertex_row.new.space inv.read c.in_ok-row.ensures.read in
    let takes = subst (λ (t : State). Takes (graph_of t.records) c.loop-id.stage c.vertex.result c.in_ok-outs.outs c.take.new.self) read.same
    (c.in_ok-outs.ensures.takes tells (named-read space c.args.space.now c.vertex_row.new.space c.args.names.now.names read store)) in
    subst (λ b. IsBatch d b c.in_ok-outs.outs) inv.hops
    (takes_batch graph d (few_at s.records s.shape store.store d degrees) c.loop-id.stage c.take.new.self c.vertex.result c.in_ok-outs.outs (inv.plain ∙ plain)
    c.take.ensures.plain takes)

pub loop-id-preserved-then-is_some : goal.loop-id-preserved-then-is_some
loop-id-preserved-then-is_some g c =
    let space = g.R.Reads in
    let s = space.state c.args.space.now in
    let graph = graph_of s.records in
    let inv = c.loop-id.invariant in
    let now = c.loop-id.source in
    let rest : Source = record { edges = now.edges; left = c.take_first.new.self } in
    let read = is_read-on space g.met.R.Reads.further_onward c.args.space.now c.loop-id.space c.vertex_row.new.space inv.read c.in_ok-row.ensures.read in
    let nothing = c.is_empty.ensures.yes c.if-not-is_empty.false in
    record {
      feeds = λ tells store.
          let takes = subst (λ (t : State). Takes (graph_of t.records) c.loop-id.stage c.vertex.result c.in_ok-outs.outs c.take.new.self) read.same
          (c.in_ok-outs.ensures.takes tells (named-read space c.args.space.now c.vertex_row.new.space c.args.names.now.names read store)) in
          let gives = gives_vertex s.records now c.take_first.new.self c.in-Some.id c.in_ok-row.row (inv.edges ∙ c.requires.vertices) c.in-Some.ensures.some
          (sym (ap (λ (t : State). element_at t.records false c.in-Some.id) inv.read.same) ∙ c.in_ok-row.ensures.is tells)
          (sym c.is_some.ensures ∙ c.if-is_some.true) in
          feeds_on graph c.args.source.now rest c.args.stage.now c.take.new.self c.in_ok-outs.outs nothing
          (feeds_more graph c.args.source.now now rest c.args.stage.now c.loop-id.stage c.take.new.self c.vertex.result c.in_ok-outs.outs
          (inv.feeds tells store)
          (gives ∙ ap (λ (item : Item). item ∷ left_of graph rest) (sym c.vertex.ensures)) takes);
      limits = limit_stays _ _ c.in_ok-outs.outs nothing c.in_ok-outs.ensures.limits ∙ inv.limits;
      counts = c.take.ensures.counts ∙ inv.counts;
      hops = c.take.ensures.hops ∙ inv.hops;
      plain = c.take.ensures.plain ∙ inv.plain;
      asks = λ records other. c.take.ensures.asks records other ∙ inv.asks records other;
      owes = λ tells store.
          let item = items.Vertex c.in-Some.id in
          let gives = gives_vertex s.records now c.take_first.new.self c.in-Some.id c.in_ok-row.row (inv.edges ∙ c.requires.vertices) c.in-Some.ensures.some
          (sym (ap (λ (t : State). element_at t.records false c.in-Some.id) inv.read.same) ∙ c.in_ok-row.ensures.is tells)
          (sym c.is_some.ensures ∙ c.if-is_some.true) in
          let asks = ap (λ (t : State). stage_reads t.records c.loop-id.stage item) read.same ∙ inv.asks s.records item in
          let costs = subst (λ (i : Item). ReadsAtMost (stage_reads (space.state c.vertex_row.new.space).records c.loop-id.stage i)
          (space.state c.vertex_row.new.space) (space.state c.take.new.space)) c.vertex.ensures
          (c.take.ensures.reads tells (named-read space c.args.space.now c.vertex_row.new.space c.args.names.now.names read store)) in
          let spends = spends_on s (space.state c.loop-id.space) (space.state c.take.new.space) _ _ _ (inv.owes tells store)
          (spends_taken s.records (stage_reads s.records c.args.stage.now) now rest (space.state c.loop-id.space) (space.state c.vertex_row.new.space)
          c.in_ok-row.ensures.gets (taken_pays s.records now c.take_first.new.self c.mark-mark.result (inv.mark ∙ ap (element_mark s.records) (sym inv.edges))
          c.in-Some.ensures.fewer) (space.state c.take.new.space) item (stage_reads (space.state c.vertex_row.new.space).records c.loop-id.stage item)
          asks costs gives) in
          spends;
      edges = inv.edges;
      mark = inv.mark;
      hop = fed_took space c.args.names.now.names c.args.stage.now c.args.space.now c.args.source.now.left c.take.new.self c.take.new.space
          c.take_first.new.self
          (took_step space c.args.names.now.names c.args.stage.now c.args.space.now c.args.source.now.left c.loop-id.stage c.loop-id.space
          c.vertex_row.new.space c.take.new.space now.left c.take_first.new.self c.in-Some.id inv.hop c.in-Some.ensures.some c.in_ok-row.ensures.gets read
          (λ tells store. subst (λ (item : Item). ReadsAtMost (stage_reads (space.state c.vertex_row.new.space).records c.loop-id.stage item)
          (space.state c.vertex_row.new.space) (space.state c.take.new.space)) c.vertex.ensures (c.take.ensures.reads tells store)));
      read = is_read-on space g.met.R.Reads.further_onward c.args.space.now c.vertex_row.new.space c.take.new.space read c.in_ok-outs.ensures.read;
    }

pub loop-id-preserved : goal.loop-id-preserved
loop-id-preserved g c =
    let space = g.R.Reads in
    let s = space.state c.args.space.now in
    let graph = graph_of s.records in
    let inv = c.loop-id.invariant in
    let now = c.loop-id.source in
    let rest : Source = record { edges = now.edges; left = c.take_first.new.self } in
    let read = is_read-on space g.met.R.Reads.further_onward c.args.space.now c.loop-id.space c.vertex_row.new.space inv.read c.in_ok-row.ensures.read in
    record {
      feeds = λ tells store. feeds_past graph c.args.source.now now rest c.args.stage.now c.loop-id.stage
          (gives_none s.records now c.take_first.new.self c.in-Some.id c.in_ok-row.row (inv.edges ∙ c.requires.vertices) c.in-Some.ensures.some
          (sym (ap (λ (t : State). element_at t.records false c.in-Some.id) inv.read.same) ∙ c.in_ok-row.ensures.is tells) (sym c.is_some.ensures
          ∙ c.if-is_some.false)) (inv.feeds tells store);
      limits = inv.limits;
      counts = inv.counts;
      hops = inv.hops;
      plain = inv.plain;
      asks = inv.asks;
      owes = λ tells store.
          spends_on s (space.state c.loop-id.space) (space.state c.vertex_row.new.space) _ _ _ (inv.owes tells store)
          (spends_past s.records (stage_reads s.records c.args.stage.now) now rest (space.state c.loop-id.space) (space.state c.vertex_row.new.space)
          c.in_ok-row.ensures.gets
          (taken_pays s.records now c.take_first.new.self c.mark-mark.result (inv.mark ∙ ap (element_mark s.records) (sym inv.edges)) c.in-Some.ensures.fewer)
          (gives_none s.records now c.take_first.new.self c.in-Some.id c.in_ok-row.row (inv.edges ∙ c.requires.vertices) c.in-Some.ensures.some
          (sym (ap (λ (t : State). element_at t.records false c.in-Some.id) inv.read.same) ∙ c.in_ok-row.ensures.is tells)
          (sym c.is_some.ensures ∙ c.if-is_some.false)));
      edges = inv.edges;
      mark = inv.mark;
      hop = fed_took space c.args.names.now.names c.args.stage.now c.args.space.now c.args.source.now.left c.loop-id.stage c.vertex_row.new.space
          c.take_first.new.self
          (took_row space c.args.names.now.names c.args.stage.now c.args.space.now c.args.source.now.left c.loop-id.stage c.loop-id.space c.vertex_row.new.space
          now.left c.take_first.new.self c.in-Some.id inv.hop c.in-Some.ensures.some c.in_ok-row.ensures.gets);
      read = read;
    }

pub returns-clause-feeds : goal.returns-clause-feeds
returns-clause-feeds g c = λ tells store.
    let s = g.R.Reads.state c.args.space.now in
    let graph = graph_of s.records in
    let inv = c.loop-id.invariant in
    let now = c.loop-id.source in
    let mark = inv.mark ∙ ap (element_mark s.records) (sym inv.edges) in
    let none = left-none s.records now.edges now.left (subst (λ n. HasNoneBelow n now.left) mark c.in_default.ensures.none.0) in
    feeds_end graph c.args.source.now now c.end.new.self c.args.stage.now c.loop-id.stage c.new.result c.new.ensures (inv.feeds tells store) none
    (ended graph now c.end.new.self c.end.ensures)

pub returns-then-not-is_empty-clause-owes : goal.returns-then-not-is_empty-clause-owes
returns-then-not-is_empty-clause-owes g c = λ tells store.
    let space = g.R.Reads in
    let s = space.state c.args.space.now in
    let inv = c.loop-id.invariant in
    let now = c.loop-id.source in
    let rest : Source = record { edges = now.edges; left = c.take_first.new.self } in
    let read = is_read-on space g.met.R.Reads.further_onward c.args.space.now c.loop-id.space c.vertex_row.new.space inv.read c.in_ok-row.ensures.read in
    let item = items.Vertex c.in-Some.id in
    let gives = gives_vertex s.records now c.take_first.new.self c.in-Some.id c.in_ok-row.row (inv.edges ∙ c.requires.vertices) c.in-Some.ensures.some
    (sym (ap (λ (t : State). element_at t.records false c.in-Some.id) inv.read.same) ∙ c.in_ok-row.ensures.is tells)
    (sym c.is_some.ensures ∙ c.if-is_some.true) in
    let asks = ap (λ (t : State). stage_reads t.records c.loop-id.stage item) read.same ∙ inv.asks s.records item in
    let costs = subst (λ (i : Item). ReadsAtMost (stage_reads (space.state c.vertex_row.new.space).records c.loop-id.stage i)
    (space.state c.vertex_row.new.space) (space.state c.take.new.space)) c.vertex.ensures
    (c.take.ensures.reads tells (named-read space c.args.space.now c.vertex_row.new.space c.args.names.now.names read store)) in
    let spends = spends_on s (space.state c.loop-id.space) (space.state c.take.new.space) _ _ _ (inv.owes tells store)
    (spends_taken s.records (stage_reads s.records c.args.stage.now) now rest (space.state c.loop-id.space) (space.state c.vertex_row.new.space)
    c.in_ok-row.ensures.gets (taken_pays s.records now c.take_first.new.self c.mark-mark.result (inv.mark ∙ ap (element_mark s.records) (sym inv.edges))
    c.in-Some.ensures.fewer) (space.state c.take.new.space) item (stage_reads (space.state c.vertex_row.new.space).records c.loop-id.stage item)
    asks costs gives) in
    spends_stage s.records rest c.args.stage.now c.take.new.self s (space.state c.take.new.space) _
    (λ other. c.take.ensures.asks s.records other ∙ inv.asks s.records other) spends

pub returns-then-not-is_empty-clause-asks : goal.returns-then-not-is_empty-clause-asks
returns-then-not-is_empty-clause-asks g c = λ records other. c.take.ensures.asks records other ∙ c.loop-id.invariant.asks records other

pub returns-in_err-outs-clause-asks : goal.returns-in_err-outs-clause-asks
returns-in_err-outs-clause-asks g c = λ records other. c.take.ensures.asks records other ∙ c.loop-id.invariant.asks records other

pub returns-in_err-outs-clause-owes : goal.returns-in_err-outs-clause-owes
returns-in_err-outs-clause-owes g c = λ tells store.
    let space = g.R.Reads in
    let s = space.state c.args.space.now in
    let inv = c.loop-id.invariant in
    let now = c.loop-id.source in
    let rest : Source = record { edges = now.edges; left = c.take_first.new.self } in
    let read = is_read-on space g.met.R.Reads.further_onward c.args.space.now c.loop-id.space c.vertex_row.new.space inv.read c.in_ok-row.ensures.read in
    let item = items.Vertex c.in-Some.id in
    let gives = gives_vertex s.records now c.take_first.new.self c.in-Some.id c.in_ok-row.row (inv.edges ∙ c.requires.vertices) c.in-Some.ensures.some
    (sym (ap (λ (t : State). element_at t.records false c.in-Some.id) inv.read.same) ∙ c.in_ok-row.ensures.is tells)
    (sym c.is_some.ensures ∙ c.if-is_some.true) in
    let asks = ap (λ (t : State). stage_reads t.records c.loop-id.stage item) read.same ∙ inv.asks s.records item in
    let costs = subst (λ (i : Item). ReadsAtMost (stage_reads (space.state c.vertex_row.new.space).records c.loop-id.stage i)
    (space.state c.vertex_row.new.space) (space.state c.take.new.space)) c.vertex.ensures
    (c.take.ensures.reads tells (named-read space c.args.space.now c.vertex_row.new.space c.args.names.now.names read store)) in
    let spends = spends_on s (space.state c.loop-id.space) (space.state c.take.new.space) _ _ _ (inv.owes tells store)
    (spends_taken s.records (stage_reads s.records c.args.stage.now) now rest (space.state c.loop-id.space) (space.state c.vertex_row.new.space)
    c.in_ok-row.ensures.gets (taken_pays s.records now c.take_first.new.self c.mark-mark.result (inv.mark ∙ ap (element_mark s.records) (sym inv.edges))
    c.in-Some.ensures.fewer) (space.state c.take.new.space) item (stage_reads (space.state c.vertex_row.new.space).records c.loop-id.stage item)
    asks costs gives) in
    spends_err c.from_residual-in_err-outs.result _ s (space.state c.take.new.space) _ _ _ c.from_residual-in_err-outs.ensures.1 spends

pub returns-in_err-row-clause-owes : goal.returns-in_err-row-clause-owes
returns-in_err-row-clause-owes g c = λ tells store.
    let space = g.R.Reads in
    let s = space.state c.args.space.now in
    let inv = c.loop-id.invariant in
    let now = c.loop-id.source in
    let rest : Source = record { edges = now.edges; left = c.take_first.new.self } in
    spends_err c.from_residual.result _ s (space.state c.vertex_row.new.space) _ 0 _ c.from_residual.ensures.1
    (spends_on s (space.state c.loop-id.space) (space.state c.vertex_row.new.space) _ _ 0 (inv.owes tells store)
    (spends_row s.records (stage_reads s.records c.args.stage.now) now rest (space.state c.loop-id.space) (space.state c.vertex_row.new.space)
    c.in_err-row.ensures.gets
    (taken_pays s.records now c.take_first.new.self c.mark-mark.result (inv.mark ∙ ap (element_mark s.records) (sym inv.edges)) c.in-Some.ensures.fewer)))

pub returns-clause-asks : goal.returns-clause-asks
returns-clause-asks g c = c.loop-id.invariant.asks

pub returns-clause-owes : goal.returns-clause-owes
returns-clause-owes g c = λ tells store.
    let s = g.R.Reads.state c.args.space.now in
    spends_end s.records (stage_reads s.records c.loop-id.stage) c.loop-id.source c.end.new.self s
    (g.R.Reads.state c.loop-id.space) _ _ c.end.ensures (c.loop-id.invariant.owes tells store)

pub returns-in_err-row-clause-read : goal.returns-in_err-row-clause-read
returns-in_err-row-clause-read g c =
    is_read-on g.R.Reads g.met.R.Reads.further_onward _ _ _ c.loop-id.invariant.read c.in_err-row.ensures.read

pub returns-in_err-row-clause-cause : goal.returns-in_err-row-clause-cause
returns-in_err-row-clause-cause g c =
    cause_passed _ _ _ c.from_residual.result c.in_err-row.field-0.0
    c.loop-id.invariant.read.later c.in_err-row.ensures.cause c.from_residual.ensures.1

pub returns-in_err-row-clause-damaged : goal.returns-in_err-row-clause-damaged
returns-in_err-row-clause-damaged g c = λ tells.
    let p = err_from_is_err_and c.from_residual.result c.from_residual.ensures.1 in
    rw (p.1, p.2)
    (subst (λ (t : State). BlamesBroken t.records t.shape c.in_err-row.field-0.0) c.loop-id.invariant.read.same (c.in_err-row.ensures.damaged tells))

pub returns-in_err-outs-clause-read : goal.returns-in_err-outs-clause-read
returns-in_err-outs-clause-read g c =
    is_read-on g.R.Reads g.met.R.Reads.further_onward _ _ _
    (is_read-on g.R.Reads g.met.R.Reads.further_onward _ _ _ c.loop-id.invariant.read c.in_ok-row.ensures.read)
    c.in_err-outs.ensures.read

pub returns-in_err-outs-clause-cause : goal.returns-in_err-outs-clause-cause
returns-in_err-outs-clause-cause g c =
    cause_passed _ _ _ c.from_residual-in_err-outs.result c.in_err-outs.field-0.0
    (later_on c.loop-id.invariant.read.later c.in_ok-row.ensures.cause.later) c.in_err-outs.ensures.cause c.from_residual-in_err-outs.ensures.1

pub returns-in_err-outs-clause-damaged : goal.returns-in_err-outs-clause-damaged
returns-in_err-outs-clause-damaged g c = λ tells.
    let p = err_from_is_err_and c.from_residual-in_err-outs.result c.from_residual-in_err-outs.ensures.1 in
    let read = is_read-on g.R.Reads g.met.R.Reads.further_onward c.args.space.now c.loop-id.space c.vertex_row.new.space
    c.loop-id.invariant.read c.in_ok-row.ensures.read in
    rw (p.1, p.2)
    (subst (λ (t : State). BlamesBroken t.records t.shape c.in_err-outs.field-0.0) read.same (c.in_err-outs.ensures.damaged tells))

pub returns-then-not-is_empty-clause-read : goal.returns-then-not-is_empty-clause-read
returns-then-not-is_empty-clause-read g c =
    is_read-on g.R.Reads g.met.R.Reads.further_onward _ _ _
    (is_read-on g.R.Reads g.met.R.Reads.further_onward _ _ _ c.loop-id.invariant.read c.in_ok-row.ensures.read)
    c.in_ok-outs.ensures.read

pub returns-in_err-row-clause-feeds : goal.returns-in_err-row-clause-feeds
returns-in_err-row-clause-feeds g c _ _ = never_ok c.from_residual.result _ _ c.from_residual.ensures.1

pub returns-in_err-row-clause-limits : goal.returns-in_err-row-clause-limits
returns-in_err-row-clause-limits g c = never_ok c.from_residual.result _ _ c.from_residual.ensures.1

pub returns-in_err-row-clause-few : goal.returns-in_err-row-clause-few
returns-in_err-row-clause-few g c _ _ _ _ _ = never_ok c.from_residual.result _ _ c.from_residual.ensures.1

pub returns-in_err-outs-clause-feeds : goal.returns-in_err-outs-clause-feeds
returns-in_err-outs-clause-feeds g c _ _ = never_ok c.from_residual-in_err-outs.result _ _ c.from_residual-in_err-outs.ensures.1

pub returns-in_err-outs-clause-limits : goal.returns-in_err-outs-clause-limits
returns-in_err-outs-clause-limits g c = never_ok c.from_residual-in_err-outs.result _ _ c.from_residual-in_err-outs.ensures.1

pub returns-in_err-outs-clause-few : goal.returns-in_err-outs-clause-few
returns-in_err-outs-clause-few g c _ _ _ _ _ = never_ok c.from_residual-in_err-outs.result _ _ c.from_residual-in_err-outs.ensures.1

pub returns-in_err-row-clause-hop : goal.returns-in_err-row-clause-hop
returns-in_err-row-clause-hop g c =
    let space = g.R.Reads in
    let inv = c.loop-id.invariant in
    let now = c.loop-id.source in
    let rest : Source = record { edges = now.edges; left = c.take_first.new.self } in
    feeds_took space c.args.names.now.names c.args.stage.now c.args.space.now c.args.source.now c.vertex_row.new.space rest inv.edges
    (took_row space c.args.names.now.names c.args.stage.now c.args.space.now c.args.source.now.left c.loop-id.stage c.loop-id.space c.vertex_row.new.space
    now.left c.take_first.new.self c.in-Some.id inv.hop c.in-Some.ensures.some c.in_err-row.ensures.gets)

pub returns-in_err-outs-clause-hop : goal.returns-in_err-outs-clause-hop
returns-in_err-outs-clause-hop g c =
    let space = g.R.Reads in
    let inv = c.loop-id.invariant in
    let now = c.loop-id.source in
    let read = is_read-on space g.met.R.Reads.further_onward c.args.space.now c.loop-id.space c.vertex_row.new.space inv.read c.in_ok-row.ensures.read in
    let rest : Source = record { edges = now.edges; left = c.take_first.new.self } in
    feeds_took space c.args.names.now.names c.args.stage.now c.args.space.now c.args.source.now c.take.new.space rest inv.edges
    (took_step space c.args.names.now.names c.args.stage.now c.args.space.now c.args.source.now.left c.loop-id.stage c.loop-id.space c.vertex_row.new.space
    c.take.new.space now.left c.take_first.new.self c.in-Some.id inv.hop c.in-Some.ensures.some c.in_ok-row.ensures.gets read
    (λ tells store. subst (λ (item : Item). ReadsAtMost (stage_reads (space.state c.vertex_row.new.space).records c.loop-id.stage item)
    (space.state c.vertex_row.new.space) (space.state c.take.new.space)) c.vertex.ensures (c.take.ensures.reads tells store)))

pub returns-then-not-is_empty-clause-hop : goal.returns-then-not-is_empty-clause-hop
returns-then-not-is_empty-clause-hop g c =
    let space = g.R.Reads in
    let inv = c.loop-id.invariant in
    let now = c.loop-id.source in
    let read = is_read-on space g.met.R.Reads.further_onward c.args.space.now c.loop-id.space c.vertex_row.new.space inv.read c.in_ok-row.ensures.read in
    let rest : Source = record { edges = now.edges; left = c.take_first.new.self } in
    feeds_took space c.args.names.now.names c.args.stage.now c.args.space.now c.args.source.now c.take.new.space rest inv.edges
    (took_step space c.args.names.now.names c.args.stage.now c.args.space.now c.args.source.now.left c.loop-id.stage c.loop-id.space c.vertex_row.new.space
    c.take.new.space now.left c.take_first.new.self c.in-Some.id inv.hop c.in-Some.ensures.some c.in_ok-row.ensures.gets read
    (λ tells store. subst (λ (item : Item). ReadsAtMost (stage_reads (space.state c.vertex_row.new.space).records c.loop-id.stage item)
    (space.state c.vertex_row.new.space) (space.state c.take.new.space)) c.vertex.ensures (c.take.ensures.reads tells store)))

pub returns-clause-hop : goal.returns-clause-hop
returns-clause-hop g c =
    let space = g.R.Reads in
    let inv = c.loop-id.invariant in
    let now = c.loop-id.source in
    feeds_over space c.args.names.now.names c.args.stage.now c.args.space.now c.args.source.now c.loop-id.stage c.loop-id.space now.left c.end.new.self
    (ap (λ (source : Source). source.edges) c.end.ensures ∙ inv.edges)
    (ended_none now c.end.new.self c.end.ensures) inv.hop

pub returns-then-not-is_empty-clause-cause : goal.returns-then-not-is_empty-clause-cause
returns-then-not-is_empty-clause-cause g c =
    ok_cause _ _ _ _ (later_on (later_on c.loop-id.invariant.read.later c.in_ok-row.ensures.cause.later) c.in_ok-outs.ensures.cause.later)

pub returns-clause-cause : goal.returns-clause-cause
returns-clause-cause g c = ok_cause _ _ _ _ c.loop-id.invariant.read.later

pub returns-then-not-is_empty-clause-limits : goal.returns-then-not-is_empty-clause-limits
returns-then-not-is_empty-clause-limits g c = c.in_ok-outs.ensures.limits ∙ c.loop-id.invariant.limits

pub returns-clause-limits : goal.returns-clause-limits
returns-clause-limits g c = limit_none (limit_left c.loop-id.stage) c.new.result c.new.ensures ∙ c.loop-id.invariant.limits

pub returns-clause-few : goal.returns-clause-few
returns-clause-few g c = λ tells store d degrees plain. few_none d (is_hop c.args.stage.now) c.new.result c.new.ensures

pub returns-then-not-is_empty-clause-counts : goal.returns-then-not-is_empty-clause-counts
returns-then-not-is_empty-clause-counts g c = c.take.ensures.counts ∙ c.loop-id.invariant.counts

pub returns-then-not-is_empty-clause-hops : goal.returns-then-not-is_empty-clause-hops
returns-then-not-is_empty-clause-hops g c = c.take.ensures.hops ∙ c.loop-id.invariant.hops

pub returns-then-not-is_empty-clause-plain : goal.returns-then-not-is_empty-clause-plain
returns-then-not-is_empty-clause-plain g c = c.take.ensures.plain ∙ c.loop-id.invariant.plain

pub returns-in_err-outs-clause-counts : goal.returns-in_err-outs-clause-counts
returns-in_err-outs-clause-counts g c = c.take.ensures.counts ∙ c.loop-id.invariant.counts

pub returns-in_err-outs-clause-hops : goal.returns-in_err-outs-clause-hops
returns-in_err-outs-clause-hops g c = c.take.ensures.hops ∙ c.loop-id.invariant.hops

pub returns-in_err-outs-clause-plain : goal.returns-in_err-outs-clause-plain
returns-in_err-outs-clause-plain g c = c.take.ensures.plain ∙ c.loop-id.invariant.plain

pub take-requires-clause-row : goal.take-requires-clause-row
take-requires-clause-row g c =
    subst (λ (item : Item). IsRowOf g.R.Reads.tells (g.R.Reads.state c.vertex_row.new.space).records item c.in_ok-row.row) (sym c.vertex.ensures)
    c.in_ok-row.ensures.row

pub take-requires-clause-counts : goal.take-requires-clause-counts
take-requires-clause-counts g c = c.loop-id.invariant.counts ∙ c.requires.counts
