use Rattle.std.proofs.Common.{All, ap, false, refl, subst, sym, ◌∙◌}
use Rattle.std.proofs.lemmas.Result.{err_from_is_err_and}
use Rattle.plain_graph.specs.Meaning.{is_some_and}
use Rattle.prop_store.specs.Fault.{BlamesBroken}
use Rattle.prop_store.specs.Reading.{ReadsAtMost}
use Rattle.rec_bytes.specs.Space.{State}
use Rattle.rec_bytes.proofs.Causes.{never_ok, ok_cause}
use Rattle.store_rules.specs.Graph.{graph_of}
use Rattle.store_rules.specs.Rules.{IsWellFormed}
use Rattle.traversal_run.specs.Finding.{element_at, element_mark}
use Rattle.traversal_run.specs.NumberedFilter.{IsNumbered, passes_numbered}
use Rattle.traversal_run.specs.Owing.{vertex_reads}
use Rattle.traversal_run.specs.Source.{HasNoneBelow, left_of}
use Rattle.traversal_run.specs.declared.source.Source.{Source}
use Rattle.traversal_run.proofs.Causes.{cause_passed, later_on}
use Rattle.traversal_run.proofs.Fed.{ended}
use Rattle.traversal_run.proofs.FedReads.{taken_pays}
use Rattle.traversal_run.proofs.FilterReads.{spends_vertex}
use Rattle.traversal_run.proofs.FilteredCounts.{count_end, count_on, count_over}
use Rattle.traversal_run.proofs.LeftRows.{left-none, left-takes}
use Rattle.traversal_run.proofs.OnlyReads.{is_read-on}
use Rattle.traversal_run.proofs.feeding.count_numbered.Goals as goal
use Rattle.traversal_run.proofs.Spending.{spends_less, spends_on}

pub returns-then-not-add-clause-counts : goal.returns-then-not-add-clause-counts
returns-then-not-add-clause-counts g c = λ tells store numbered.
    let s = g.R.Reads.state c.args.space.now in
    let graph = graph_of s.records in
    let inv = c.loop-id.invariant in
    let now = c.loop-id.source in
    let rest : Source = record { edges = now.edges; left = c.take_first.new.self } in
    let p = passes_numbered graph c.args.filters.now in
    let same = inv.read.same in
    let is = c.in_ok-passed.ensures.found tells (subst (λ (t : State). IsWellFormed t.records t.shape) (sym same) store)
    (subst (λ (t : State). All (IsNumbered t.records) c.args.filters.now) (sym same) numbered)
    ∙ ap (λ (t : State). is_some_and (element_at t.records false c.in-Some.id) (passes_numbered (graph_of t.records) c.args.filters.now)) same
    ∙ ap (λ e. is_some_and (element_at s.records e c.in-Some.id) p) (sym (inv.edges ∙ c.requires)) in
    count_over p (left_of graph c.args.source.now) (left_of graph now) (left_of graph rest) (element_at s.records now.edges c.in-Some.id) c.in_ok-passed.passed
    c.args.so_far.now c.loop-id.so_far c.from.result
    (inv.counted tells store numbered) (left-takes s.records now.edges now.left c.take_first.new.self c.in-Some.id c.in-Some.ensures.some) is c.from.ensures
    (c.if-not-add.ensures.past refl)

pub loop-id-preserved : goal.loop-id-preserved
loop-id-preserved g c =
    let space = g.R.Reads in
    let s = space.state c.args.space.now in
    let graph = graph_of s.records in
    let inv = c.loop-id.invariant in
    let now = c.loop-id.source in
    let rest : Source = record { edges = now.edges; left = c.take_first.new.self } in
    let p = passes_numbered graph c.args.filters.now in
    let same = inv.read.same in
    record {
      counted = λ tells store numbered.
          let is = c.in_ok-passed.ensures.found tells (subst (λ (t : State). IsWellFormed t.records t.shape) (sym same) store)
          (subst (λ (t : State). All (IsNumbered t.records) c.args.filters.now) (sym same) numbered)
          ∙ ap (λ (t : State). is_some_and (element_at t.records false c.in-Some.id) (passes_numbered (graph_of t.records) c.args.filters.now)) same
          ∙ ap (λ e. is_some_and (element_at s.records e c.in-Some.id) p) (sym (inv.edges ∙ c.requires)) in
          count_on p (left_of graph c.args.source.now) (left_of graph now) (left_of graph rest) (element_at s.records now.edges c.in-Some.id)
          c.in_ok-passed.passed c.args.so_far.now c.loop-id.so_far c.from.result
          (inv.counted tells store numbered) (left-takes s.records now.edges now.left c.take_first.new.self c.in-Some.id c.in-Some.ensures.some) is
          c.from.ensures c.add.new.self (c.add.ensures.counted c.if-not-add.false);
      owes = λ tells store numbered.
          let same = inv.read.same in
          let reads = subst (λ (t : State). ReadsAtMost (vertex_reads t.records c.args.filters.now c.in-Some.id) (space.state c.loop-id.space)
          (space.state c.vertex_passes.new.space)) same
          (c.vertex_passes.ensures.reads tells (subst (λ (t : State). IsWellFormed t.records t.shape) (sym same) store)
          (subst (λ (t : State). All (IsNumbered t.records) c.args.filters.now) (sym same) numbered)) in
          let spends = spends_on s (space.state c.loop-id.space) (space.state c.vertex_passes.new.space) _ _ _ (inv.owes tells store numbered)
          (spends_vertex s.records c.args.filters.now now c.take_first.new.self c.in-Some.id (inv.edges ∙ c.requires) c.in-Some.ensures.some
          (taken_pays s.records now c.take_first.new.self c.mark-mark.result (inv.mark ∙ ap (element_mark s.records) (sym inv.edges)) c.in-Some.ensures.fewer)
          (space.state c.loop-id.space) (space.state c.vertex_passes.new.space) reads) in
          spends;
      edges = inv.edges;
      mark = inv.mark;
      read = is_read-on g.R.Reads g.met.R.Reads.further_onward c.args.space.now c.loop-id.space c.vertex_passes.new.space inv.read c.in_ok-passed.ensures.read;
    }

pub returns-clause-counts : goal.returns-clause-counts
returns-clause-counts g c = λ tells store numbered.
    let s = g.R.Reads.state c.args.space.now in
    let graph = graph_of s.records in
    let inv = c.loop-id.invariant in
    let now = c.loop-id.source in
    let mark = inv.mark ∙ ap (element_mark s.records) (sym inv.edges) in
    count_end (passes_numbered graph c.args.filters.now) (left_of graph c.args.source.now) (left_of graph now) c.args.so_far.now c.loop-id.so_far
    (inv.counted tells store numbered)
    (left-none s.records now.edges now.left (subst (λ n. HasNoneBelow n now.left) mark c.in_default.ensures.none.0))

pub returns-then-not-add-clause-owes : goal.returns-then-not-add-clause-owes
returns-then-not-add-clause-owes g c = λ tells store numbered.
    let space = g.R.Reads in
    let s = space.state c.args.space.now in
    let inv = c.loop-id.invariant in
    let now = c.loop-id.source in
    let same = inv.read.same in
    let reads = subst (λ (t : State). ReadsAtMost (vertex_reads t.records c.args.filters.now c.in-Some.id) (space.state c.loop-id.space)
    (space.state c.vertex_passes.new.space)) same
    (c.vertex_passes.ensures.reads tells (subst (λ (t : State). IsWellFormed t.records t.shape) (sym same) store)
    (subst (λ (t : State). All (IsNumbered t.records) c.args.filters.now) (sym same) numbered)) in
    let spends = spends_on s (space.state c.loop-id.space) (space.state c.vertex_passes.new.space) _ _ _ (inv.owes tells store numbered)
    (spends_vertex s.records c.args.filters.now now c.take_first.new.self c.in-Some.id (inv.edges ∙ c.requires) c.in-Some.ensures.some
    (taken_pays s.records now c.take_first.new.self c.mark-mark.result (inv.mark ∙ ap (element_mark s.records) (sym inv.edges)) c.in-Some.ensures.fewer)
    (space.state c.loop-id.space) (space.state c.vertex_passes.new.space) reads) in
    spends_less s (space.state c.vertex_passes.new.space) _ _ spends

pub returns-in_err-passed-clause-owes : goal.returns-in_err-passed-clause-owes
returns-in_err-passed-clause-owes g c = λ tells store numbered.
    let space = g.R.Reads in
    let s = space.state c.args.space.now in
    let inv = c.loop-id.invariant in
    let now = c.loop-id.source in
    let same = inv.read.same in
    let reads = subst (λ (t : State). ReadsAtMost (vertex_reads t.records c.args.filters.now c.in-Some.id) (space.state c.loop-id.space)
    (space.state c.vertex_passes.new.space)) same
    (c.vertex_passes.ensures.reads tells (subst (λ (t : State). IsWellFormed t.records t.shape) (sym same) store)
    (subst (λ (t : State). All (IsNumbered t.records) c.args.filters.now) (sym same) numbered)) in
    let spends = spends_on s (space.state c.loop-id.space) (space.state c.vertex_passes.new.space) _ _ _ (inv.owes tells store numbered)
    (spends_vertex s.records c.args.filters.now now c.take_first.new.self c.in-Some.id (inv.edges ∙ c.requires) c.in-Some.ensures.some
    (taken_pays s.records now c.take_first.new.self c.mark-mark.result (inv.mark ∙ ap (element_mark s.records) (sym inv.edges)) c.in-Some.ensures.fewer)
    (space.state c.loop-id.space) (space.state c.vertex_passes.new.space) reads) in
    spends_less s (space.state c.vertex_passes.new.space) _ _ spends

pub returns-clause-owes : goal.returns-clause-owes
returns-clause-owes g c = λ tells store numbered.
    spends_less (g.R.Reads.state c.args.space.now) (g.R.Reads.state c.loop-id.space) _ _ (c.loop-id.invariant.owes tells store numbered)

pub returns-clause-over : goal.returns-clause-over
returns-clause-over g c = λ graph. ended graph c.loop-id.source c.end-2.new.self c.end-2.ensures

pub returns-then-not-add-clause-over : goal.returns-then-not-add-clause-over
returns-then-not-add-clause-over g c = λ graph. ended graph c.loop-id.source c.end.new.self c.end.ensures

pub returns-then-not-add-clause-read : goal.returns-then-not-add-clause-read
returns-then-not-add-clause-read g c =
    is_read-on g.R.Reads g.met.R.Reads.further_onward _ _ _ c.loop-id.invariant.read c.in_ok-passed.ensures.read

pub returns-in_err-passed-clause-read : goal.returns-in_err-passed-clause-read
returns-in_err-passed-clause-read g c =
    is_read-on g.R.Reads g.met.R.Reads.further_onward _ _ _ c.loop-id.invariant.read c.in_err-passed.ensures.read

pub returns-in_err-passed-clause-cause : goal.returns-in_err-passed-clause-cause
returns-in_err-passed-clause-cause g c =
    cause_passed _ _ _ c.from_residual.result c.in_err-passed.field-0.0
    c.loop-id.invariant.read.later c.in_err-passed.ensures.cause c.from_residual.ensures.1

pub returns-in_err-passed-clause-damaged : goal.returns-in_err-passed-clause-damaged
returns-in_err-passed-clause-damaged g c = λ tells.
    let p = err_from_is_err_and c.from_residual.result c.from_residual.ensures.1 in
    rw (p.1, p.2)
    (subst (λ (t : State). BlamesBroken t.records t.shape c.in_err-passed.field-0.0) c.loop-id.invariant.read.same (c.in_err-passed.ensures.damaged tells))

pub returns-in_err-passed-clause-counts : goal.returns-in_err-passed-clause-counts
returns-in_err-passed-clause-counts g c _ _ _ = never_ok c.from_residual.result _ _ c.from_residual.ensures.1

pub returns-in_err-passed-clause-over : goal.returns-in_err-passed-clause-over
returns-in_err-passed-clause-over g c = never_ok c.from_residual.result _ _ c.from_residual.ensures.1

pub returns-then-not-add-clause-cause : goal.returns-then-not-add-clause-cause
returns-then-not-add-clause-cause g c = ok_cause _ _ _ _ (later_on c.loop-id.invariant.read.later c.in_ok-passed.ensures.cause.later)
