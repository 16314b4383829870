use Rattle.std.proofs.Common.{[], ap, cond, false, refl, subst, sym, ◌∙◌, ◌∷◌, List, length, ◌≤◌}
use Rattle.plain_graph.specs.Meaning.{passes}
use Rattle.plain_graph.specs.declared.item.Item.{Item}
use Rattle.plain_graph.specs.declared.item.Item.TheVariants as items
use Rattle.rec_bytes.specs.Space.{State}
use Rattle.store_rules.specs.Graph.{graph_of}
use Rattle.traversal_run.specs.Feeding.{filter_stage}
use Rattle.traversal_run.specs.Finding.{element_at, element_mark}
use Rattle.traversal_run.specs.Owing.{filter_reads, stage_reads}
use Rattle.traversal_run.specs.Source.{HasNoneBelow}
use Rattle.traversal_run.specs.declared.source.Source.{Source}
use Rattle.traversal_run.proofs.Fed.{ended, feeds_end, feeds_more, feeds_past, filter_takes, gives_none, gives_vertex}
use Rattle.traversal_run.proofs.FedReads.{spends_end, spends_past, spends_row, spends_taken, taken_pays}
use Rattle.traversal_run.proofs.LeftRows.{left-none}
use Rattle.traversal_run.proofs.OnlyReads.{is_read-on, named-read}
use Rattle.traversal_run.proofs.Causes.{cause_passed, later_on}
use Rattle.std.proofs.lemmas.Result.{err_from_is_err_and}
use Rattle.prop_store.specs.Fault.{BlamesBroken}
use Rattle.rec_bytes.proofs.Causes.{never_ok, ok_cause}
use Rattle.std.proofs.Math.Nat.{le_refl}
use Rattle.traversal_run.proofs.feeding.first_passing.Goals as goal
use Rattle.traversal_run.proofs.Spending.{spends_err, spends_on}

pub returns-then-passed-clause-feeds : goal.returns-then-passed-clause-feeds
returns-then-passed-clause-feeds g c = λ tells store.
    let space = g.R.Reads in
    let s = space.state c.args.space.now in
    let graph = graph_of s.records in
    let inv = c.loop-id.invariant in
    let now = c.loop-id.source in
    let rest : Source = record { edges = now.edges; left = c.take_first.new.self } in
    let read = is_read-on space g.met.R.Reads.further_onward c.args.space.now c.loop-id.space c.vertex_row.new.space inv.read c.in_ok-row.ensures.read in
    let f = c.args.filter.now in
    let item = items.Vertex c.in-Some.id in
    let is = c.in_ok-passed.ensures.found tells (named-read space c.args.space.now c.vertex_row.new.space c.args.names.now.names read store)
    ∙ ap (λ (t : State). passes (graph_of t.records) f item) read.same in
    let gives = gives_vertex s.records now c.take_first.new.self c.in-Some.id c.in_ok-row.row (inv.edges ∙ c.requires) c.in-Some.ensures.some
    (sym (ap (λ (t : State). element_at t.records false c.in-Some.id) inv.read.same) ∙ c.in_ok-row.ensures.is tells)
    (sym c.is_some.ensures ∙ c.if-is_some.true) in
    feeds_more graph c.args.source.now now rest (filter_stage f) (filter_stage f) (filter_stage f) item c.one.result (inv.feeds tells store) gives
    (filter_takes graph f item c.one.result c.in_ok-passed.passed is (c.one.ensures ∙ ap (λ (i : Item). i ∷ []) c.vertex.ensures ∙ ap (λ b. cond b (item ∷ [])
    []) (sym c.if-passed.true)))

pub loop-id-preserved-else-passed : goal.loop-id-preserved-else-passed
loop-id-preserved-else-passed g c =
    let space = g.R.Reads in
    let s = space.state c.args.space.now in
    let graph = graph_of s.records in
    let inv = c.loop-id.invariant in
    let now = c.loop-id.source in
    let rest : Source = record { edges = now.edges; left = c.take_first.new.self } in
    let read = is_read-on space g.met.R.Reads.further_onward c.args.space.now c.loop-id.space c.vertex_row.new.space inv.read c.in_ok-row.ensures.read in
    record {
      feeds = λ tells store.
          let f = c.args.filter.now in
          let item = items.Vertex c.in-Some.id in
          let is = c.in_ok-passed.ensures.found tells (named-read space c.args.space.now c.vertex_row.new.space c.args.names.now.names read store)
          ∙ ap (λ (t : State). passes (graph_of t.records) f item) read.same in
          let gives = gives_vertex s.records now c.take_first.new.self c.in-Some.id c.in_ok-row.row (inv.edges ∙ c.requires) c.in-Some.ensures.some
          (sym (ap (λ (t : State). element_at t.records false c.in-Some.id) inv.read.same) ∙ c.in_ok-row.ensures.is tells)
          (sym c.is_some.ensures ∙ c.if-is_some.true) in
          feeds_more graph c.args.source.now now rest (filter_stage f) (filter_stage f) (filter_stage f) item [] (inv.feeds tells store) gives
          (filter_takes graph f item [] c.in_ok-passed.passed is (ap (λ b. cond b (item ∷ []) []) (sym c.if-passed.false)));
      owes = λ tells store.
          let cost = stage_reads s.records (filter_stage c.args.filter.now) in
          let gives = gives_vertex s.records now c.take_first.new.self c.in-Some.id c.in_ok-row.row (inv.edges ∙ c.requires) c.in-Some.ensures.some
          (sym (ap (λ (t : State). element_at t.records false c.in-Some.id) inv.read.same) ∙ c.in_ok-row.ensures.is tells)
          (sym c.is_some.ensures ∙ c.if-is_some.true) in
          let pays = taken_pays s.records now c.take_first.new.self c.mark-mark.result (inv.mark ∙ ap (element_mark s.records) (sym inv.edges))
          c.in-Some.ensures.fewer in
          spends_on s (space.state c.loop-id.space) (space.state c.passes_at.new.space) _ _ _ (inv.owes tells store)
          (spends_taken s.records cost now rest (space.state c.loop-id.space) (space.state c.vertex_row.new.space) c.in_ok-row.ensures.gets pays
          (space.state c.passes_at.new.space) (items.Vertex c.in-Some.id) (filter_reads c.args.filter.now) refl c.in_ok-passed.ensures.at_most gives);
      edges = inv.edges;
      mark = inv.mark;
      read = is_read-on space g.met.R.Reads.further_onward c.args.space.now c.vertex_row.new.space c.passes_at.new.space read c.in_ok-passed.ensures.read;
    }

pub loop-id-preserved : goal.loop-id-preserved
loop-id-preserved g c =
    let space = g.R.Reads in
    let s = space.state c.args.space.now in
    let graph = graph_of s.records in
    let inv = c.loop-id.invariant in
    let now = c.loop-id.source in
    let rest : Source = record { edges = now.edges; left = c.take_first.new.self } in
    let read = is_read-on space g.met.R.Reads.further_onward c.args.space.now c.loop-id.space c.vertex_row.new.space inv.read c.in_ok-row.ensures.read in
    record {
      feeds = λ tells store.
          let f = c.args.filter.now in
          feeds_past graph c.args.source.now now rest (filter_stage f) (filter_stage f)
          (gives_none s.records now c.take_first.new.self c.in-Some.id c.in_ok-row.row (inv.edges ∙ c.requires) c.in-Some.ensures.some
          (sym (ap (λ (t : State). element_at t.records false c.in-Some.id) inv.read.same) ∙ c.in_ok-row.ensures.is tells) (sym c.is_some.ensures
          ∙ c.if-is_some.false)) (inv.feeds tells store);
      owes = λ tells store.
          let cost = stage_reads s.records (filter_stage c.args.filter.now) in
          let pays = taken_pays s.records now c.take_first.new.self c.mark-mark.result (inv.mark ∙ ap (element_mark s.records) (sym inv.edges))
          c.in-Some.ensures.fewer in
          spends_on s (space.state c.loop-id.space) (space.state c.vertex_row.new.space) _ _ _ (inv.owes tells store)
          (spends_past s.records cost now rest (space.state c.loop-id.space) (space.state c.vertex_row.new.space) c.in_ok-row.ensures.gets pays
          (gives_none s.records now c.take_first.new.self c.in-Some.id c.in_ok-row.row (inv.edges ∙ c.requires) c.in-Some.ensures.some
          (sym (ap (λ (t : State). element_at t.records false c.in-Some.id) inv.read.same) ∙ c.in_ok-row.ensures.is tells)
          (sym c.is_some.ensures ∙ c.if-is_some.false)));
      edges = inv.edges;
      mark = inv.mark;
      read = read;
    }

pub returns-clause-feeds : goal.returns-clause-feeds
returns-clause-feeds g c = λ tells store.
    let s = g.R.Reads.state c.args.space.now in
    let graph = graph_of s.records in
    let inv = c.loop-id.invariant in
    let now = c.loop-id.source in
    let mark = inv.mark ∙ ap (element_mark s.records) (sym inv.edges) in
    let none = left-none s.records now.edges now.left (subst (λ n. HasNoneBelow n now.left) mark c.in_default.ensures.none.0) in
    feeds_end graph c.args.source.now now c.end.new.self (filter_stage c.args.filter.now) (filter_stage c.args.filter.now) c.new.result c.new.ensures
    (inv.feeds tells store) none (ended graph now c.end.new.self c.end.ensures)

pub returns-then-passed-clause-owes : goal.returns-then-passed-clause-owes
returns-then-passed-clause-owes g c = λ tells store.
    let space = g.R.Reads in
    let s = space.state c.args.space.now in
    let inv = c.loop-id.invariant in
    let now = c.loop-id.source in
    let rest : Source = record { edges = now.edges; left = c.take_first.new.self } in
    let cost = stage_reads s.records (filter_stage c.args.filter.now) in
    let gives = gives_vertex s.records now c.take_first.new.self c.in-Some.id c.in_ok-row.row (inv.edges ∙ c.requires) c.in-Some.ensures.some
    (sym (ap (λ (t : State). element_at t.records false c.in-Some.id) inv.read.same) ∙ c.in_ok-row.ensures.is tells)
    (sym c.is_some.ensures ∙ c.if-is_some.true) in
    let pays = taken_pays s.records now c.take_first.new.self c.mark-mark.result (inv.mark ∙ ap (element_mark s.records) (sym inv.edges))
    c.in-Some.ensures.fewer in
    spends_on s (space.state c.loop-id.space) (space.state c.passes_at.new.space) _ _ _ (inv.owes tells store)
    (spends_taken s.records cost now rest (space.state c.loop-id.space) (space.state c.vertex_row.new.space) c.in_ok-row.ensures.gets pays
    (space.state c.passes_at.new.space) (items.Vertex c.in-Some.id) (filter_reads c.args.filter.now) refl c.in_ok-passed.ensures.at_most gives)

pub returns-in_err-passed-clause-owes : goal.returns-in_err-passed-clause-owes
returns-in_err-passed-clause-owes g c = λ tells store.
    let space = g.R.Reads in
    let s = space.state c.args.space.now in
    let inv = c.loop-id.invariant in
    let now = c.loop-id.source in
    let rest : Source = record { edges = now.edges; left = c.take_first.new.self } in
    let cost = stage_reads s.records (filter_stage c.args.filter.now) in
    let gives = gives_vertex s.records now c.take_first.new.self c.in-Some.id c.in_ok-row.row (inv.edges ∙ c.requires) c.in-Some.ensures.some
    (sym (ap (λ (t : State). element_at t.records false c.in-Some.id) inv.read.same) ∙ c.in_ok-row.ensures.is tells)
    (sym c.is_some.ensures ∙ c.if-is_some.true) in
    let pays = taken_pays s.records now c.take_first.new.self c.mark-mark.result (inv.mark ∙ ap (element_mark s.records) (sym inv.edges))
    c.in-Some.ensures.fewer in
    spends_err c.from_residual-in_err-passed.result _ s (space.state c.passes_at.new.space) _ _ _ c.from_residual-in_err-passed.ensures.1
    (spends_on s (space.state c.loop-id.space) (space.state c.passes_at.new.space) _ _ _ (inv.owes tells store)
    (spends_taken s.records cost now rest (space.state c.loop-id.space) (space.state c.vertex_row.new.space) c.in_ok-row.ensures.gets pays
    (space.state c.passes_at.new.space) (items.Vertex c.in-Some.id) (filter_reads c.args.filter.now) refl c.in_err-passed.ensures.at_most gives))

pub returns-in_err-row-clause-owes : goal.returns-in_err-row-clause-owes
returns-in_err-row-clause-owes g c = λ tells store.
    let space = g.R.Reads in
    let s = space.state c.args.space.now in
    let inv = c.loop-id.invariant in
    let now = c.loop-id.source in
    let rest : Source = record { edges = now.edges; left = c.take_first.new.self } in
    let cost = stage_reads s.records (filter_stage c.args.filter.now) in
    let pays = taken_pays s.records now c.take_first.new.self c.mark-mark.result (inv.mark ∙ ap (element_mark s.records) (sym inv.edges))
    c.in-Some.ensures.fewer in
    spends_err c.from_residual.result _ s (space.state c.vertex_row.new.space) _ 0 _ c.from_residual.ensures.1
    (spends_on s (space.state c.loop-id.space) (space.state c.vertex_row.new.space) _ _ 0 (inv.owes tells store)
    (spends_row s.records cost now rest (space.state c.loop-id.space) (space.state c.vertex_row.new.space) c.in_err-row.ensures.gets pays))

pub returns-clause-owes : goal.returns-clause-owes
returns-clause-owes g c = λ tells store.
    let s = g.R.Reads.state c.args.space.now in
    spends_end s.records (stage_reads s.records (filter_stage c.args.filter.now)) c.loop-id.source c.end.new.self s
    (g.R.Reads.state c.loop-id.space) _ _ c.end.ensures (c.loop-id.invariant.owes tells store)

pub returns-in_err-row-clause-read : goal.returns-in_err-row-clause-read
returns-in_err-row-clause-read g c =
    is_read-on g.R.Reads g.met.R.Reads.further_onward _ _ _ c.loop-id.invariant.read c.in_err-row.ensures.read

pub returns-in_err-row-clause-cause : goal.returns-in_err-row-clause-cause
returns-in_err-row-clause-cause g c =
    cause_passed _ _ _ c.from_residual.result c.in_err-row.field-0.0
    c.loop-id.invariant.read.later c.in_err-row.ensures.cause c.from_residual.ensures.1

pub returns-in_err-row-clause-damaged : goal.returns-in_err-row-clause-damaged
returns-in_err-row-clause-damaged g c = λ tells.
    let p = err_from_is_err_and c.from_residual.result c.from_residual.ensures.1 in
    rw (p.1, p.2)
    (subst (λ (t : State). BlamesBroken t.records t.shape c.in_err-row.field-0.0) c.loop-id.invariant.read.same (c.in_err-row.ensures.damaged tells))

pub returns-in_err-passed-clause-read : goal.returns-in_err-passed-clause-read
returns-in_err-passed-clause-read g c =
    is_read-on g.R.Reads g.met.R.Reads.further_onward _ _ _
    (is_read-on g.R.Reads g.met.R.Reads.further_onward _ _ _ c.loop-id.invariant.read c.in_ok-row.ensures.read)
    c.in_err-passed.ensures.read

pub returns-in_err-passed-clause-cause : goal.returns-in_err-passed-clause-cause
returns-in_err-passed-clause-cause g c =
    cause_passed _ _ _ c.from_residual-in_err-passed.result c.in_err-passed.field-0.0
    (later_on c.loop-id.invariant.read.later c.in_ok-row.ensures.cause.later) c.in_err-passed.ensures.cause c.from_residual-in_err-passed.ensures.1

pub returns-in_err-passed-clause-damaged : goal.returns-in_err-passed-clause-damaged
returns-in_err-passed-clause-damaged g c = λ tells.
    let p = err_from_is_err_and c.from_residual-in_err-passed.result c.from_residual-in_err-passed.ensures.1 in
    let read = is_read-on g.R.Reads g.met.R.Reads.further_onward c.args.space.now c.loop-id.space c.vertex_row.new.space
    c.loop-id.invariant.read c.in_ok-row.ensures.read in
    rw (p.1, p.2)
    (subst (λ (t : State). BlamesBroken t.records t.shape c.in_err-passed.field-0.0) read.same (c.in_err-passed.ensures.damaged tells))

pub returns-then-passed-clause-read : goal.returns-then-passed-clause-read
returns-then-passed-clause-read g c =
    is_read-on g.R.Reads g.met.R.Reads.further_onward _ _ _
    (is_read-on g.R.Reads g.met.R.Reads.further_onward _ _ _ c.loop-id.invariant.read c.in_ok-row.ensures.read)
    c.in_ok-passed.ensures.read

pub returns-in_err-row-clause-feeds : goal.returns-in_err-row-clause-feeds
returns-in_err-row-clause-feeds g c _ _ = never_ok c.from_residual.result _ _ c.from_residual.ensures.1

pub returns-in_err-row-clause-few : goal.returns-in_err-row-clause-few
returns-in_err-row-clause-few g c = never_ok c.from_residual.result _ _ c.from_residual.ensures.1

pub returns-in_err-passed-clause-feeds : goal.returns-in_err-passed-clause-feeds
returns-in_err-passed-clause-feeds g c _ _ = never_ok c.from_residual-in_err-passed.result _ _ c.from_residual-in_err-passed.ensures.1

pub returns-in_err-passed-clause-few : goal.returns-in_err-passed-clause-few
returns-in_err-passed-clause-few g c = never_ok c.from_residual-in_err-passed.result _ _ c.from_residual-in_err-passed.ensures.1

pub returns-then-passed-clause-cause : goal.returns-then-passed-clause-cause
returns-then-passed-clause-cause g c =
    ok_cause _ _ _ _ (later_on (later_on c.loop-id.invariant.read.later c.in_ok-row.ensures.cause.later) c.in_ok-passed.ensures.cause.later)

pub returns-then-passed-clause-few : goal.returns-then-passed-clause-few
returns-then-passed-clause-few g c = subst (λ (outs : List Item). length outs ≤ 1) (sym c.one.ensures) (le_refl 1)
