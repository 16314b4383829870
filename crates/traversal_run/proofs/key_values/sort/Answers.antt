use Rattle.std.proofs.Common.{rules}
use Rattle.std.proofs.lemmas.List.Sorted.{answers_always}
use Rattle.traversal_run.specs.KeyValues.{row_below}
use Rattle.traversal_run.proofs.Sorting.{stable_sort_is}
use Rattle.traversal_run.proofs.ValueOrder.{rows_order}
use Rattle.rec_bytes.proofs.Causes.{never_ok}
use Rattle.traversal_run.proofs.key_values.sort.Goals as goal

pub returns : goal.returns
returns c = stable_sort_is row_below rows_order c.args.rows.now.items c.sort_by.new.self.items
    (c.in_ok-sort_by.ensures.sorted row_below rows_order (answers_always _ _ _ (λ f a r q k. search rules)))
    (c.in_ok-sort_by.ensures.stable row_below rows_order (answers_always _ _ _ (λ f a r q k. search rules)))

pub returns-in_err-sort_by : goal.returns-in_err-sort_by
returns-in_err-sort_by c = never_ok c.from_residual.result _ _ c.from_residual.ensures.1
