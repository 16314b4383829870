use Rattle.std.proofs.Common.{◌≡◌, All, Bool, IfOk, List, ap, arith, subst, sym, ◌∙◌}
use Rattle.std.specs.List.{filter}
use Rattle.plain_graph.specs.declared.item.Item.{Item}
use Rattle.rec_bytes.proofs.Causes.{never_ok}
use Rattle.store_rules.specs.Graph.{graph_of}
use Rattle.traversal_run.specs.Feeding.{IsCountOf, passes_rows}
use Rattle.traversal_run.specs.NumberedFilter.{IsNumbered, passes_numbered, stages_numbered}
use Rattle.traversal_run.specs.Owing.{Spends}
use Rattle.traversal_run.specs.Source.{left_of}
use Rattle.traversal_run.specs.declared.numbered_filter.NumberedFilter.{NumberedFilter}
use Rattle.traversal_run.proofs.Causes.{memory_cause}
use Rattle.traversal_run.proofs.FilterReads.{filters_all, filters_owe}
use Rattle.traversal_run.proofs.feeding.count_passing.Goals as goal

pub returns-clause-counts : goal.returns-clause-counts
returns-clause-counts g c = λ tells store.
    let s = g.R.Reads.state c.args.space.now in
    let graph = graph_of s.records in
    let list = left_of graph c.args.source.now in
    let filters = c.deref.ensures.value in
    let numbered = subst (λ (xs : List NumberedFilter). All (IsNumbered s.records) xs) (sym filters) (c.in_ok-filters.ensures.numbered store) in
    let same : passes_numbered graph c.deref.result.now ≡ passes_rows graph c.args.rows.now = ap (passes_numbered graph) filters
    ∙ (λ i item. c.in_ok-filters.ensures.same graph item i) in
    subst (λ (p : Item → Bool). IfOk c.count_numbered.result (λ fits. IsCountOf (filter p list) c.args.so_far.now fits c.count_numbered.new.so_far)) same
    (c.count_numbered.ensures.counts tells store.store numbered)

pub returns-in_err-filters-clause-counts : goal.returns-in_err-filters-clause-counts
returns-in_err-filters-clause-counts g c _ _ = never_ok c.from_residual.result _ _ c.from_residual.ensures.1

pub returns-in_err-filters-clause-over : goal.returns-in_err-filters-clause-over
returns-in_err-filters-clause-over g c = never_ok c.from_residual.result _ _ c.from_residual.ensures.1

pub returns-in_err-filters-clause-cause : goal.returns-in_err-filters-clause-cause
returns-in_err-filters-clause-cause g c = memory_cause _ _ c.from_residual.result (omega arith) c.from_residual.ensures.1

pub returns-clause-owes : goal.returns-clause-owes
returns-clause-owes g c = λ tells store are idle.
    let s = g.R.Reads.state c.args.space.now in
    let t = g.R.Reads.state c.count_numbered.new.space in
    let filters = c.deref.ensures.value in
    let numbered = subst (λ (xs : List NumberedFilter). All (IsNumbered s.records) xs) (sym filters) (c.in_ok-filters.ensures.numbered store) in
    let same = ap stages_numbered filters ∙ c.in_ok-filters.ensures.stages ∙ filters_all c.args.rows.now are in
    subst (λ n. Spends s t n 0) (sym (filters_owe s.records c.deref.result.now c.args.rows.now c.args.source.now same idle))
    (c.count_numbered.ensures.owes tells store.store numbered)

pub returns-in_err-filters-clause-owes : goal.returns-in_err-filters-clause-owes
returns-in_err-filters-clause-owes g c _ _ _ _ = omega arith
