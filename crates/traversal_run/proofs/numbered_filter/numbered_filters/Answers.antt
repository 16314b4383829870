use Rattle.std.proofs.Common.{[], ◌∷◌, ◌++◌, ◌≡◌, All, Global, List, Vec, ap, subst, sym, ◌∙◌}
use Rattle.std.proofs.lemmas.List.Elements.{All-push}
use Rattle.traversal_run.specs.NumberedFilter.{IsNumbered, passes_numbered, stages_numbered}
use Rattle.traversal_run.specs.declared.numbered_filter.NumberedFilter.{NumberedFilter}
use Rattle.traversal_run.proofs.FilteredCounts.{numbered_more, numbered_past}
use Rattle.traversal_run.proofs.FilterReads.{filters_past, filters_taken}
use Rattle.traversal_run.proofs.numbered_filter.numbered_filters.Goals as goal
use Rattle.traversal_run.proofs.numbered_filter.numbered_filters.Goals.{in-Some+in_ok-numbered+in_ok-push, in_default}

pub loop-row-preserved : goal.loop-row-preserved
loop-row-preserved g c =
    let s = g.R.Reads.state c.args.space.now in
    let i = c.loop-row.row-index in
    let rows = c.args.rows.now in
    let row = c.row-item.result in
    let old = c.loop-row.filters.items in
    let inv = c.loop-row.invariant in
    elim c.match-as_filter.branch [
      | in-Some+in_ok-numbered+in_ok-push w ↦
          let items : c.match-as_filter.filters.items ≡ old ++ w.in_ok-numbered.numbered ∷ [] =
          ap (λ (list : Vec NumberedFilter Global). list.items) w.filters-is ∙ w.in_ok-push.ensures.items in
          record {
            same = λ graph item.
                ap (λ (list : List NumberedFilter). passes_numbered graph list item) items
                ∙ numbered_more graph item old rows i row c.loop-row-test.true c.row-item.is (inv.same graph item) w.in_ok-numbered.numbered
                w.in-Some.filter.now w.in-Some.ensures.some w.in_ok-numbered.ensures.filter;
            stages = ap stages_numbered items
                ∙ filters_taken old rows i row c.loop-row-test.true c.row-item.is inv.stages w.in_ok-numbered.numbered w.in-Some.filter.now
                w.in-Some.ensures.some w.in_ok-numbered.ensures.filter;
            numbered = λ store.
                subst (All (IsNumbered s.records)) (sym items) (All-push (IsNumbered s.records) old w.in_ok-numbered.numbered (inv.numbered store)
                (w.in_ok-numbered.ensures.numbered store));
          }
      | in_default w ↦
          let items : c.match-as_filter.filters.items ≡ old = ap (λ (list : Vec NumberedFilter Global). list.items) w.filters-is in
          record {
            same = λ graph item.
                ap (λ (list : List NumberedFilter). passes_numbered graph list item) items
                ∙ numbered_past graph item old rows i row c.loop-row-test.true c.row-item.is (inv.same graph item) w.in_default.ensures.none;
            stages = ap stages_numbered items ∙ filters_past old rows i row c.loop-row-test.true c.row-item.is inv.stages w.in_default.ensures.none;
            numbered = λ store. subst (All (IsNumbered s.records)) (sym items) (inv.numbered store);
          }
    ]
