use Rattle.std.proofs.Common.{rules, true, false}
use Rattle.std.proofs.lemmas.List.Sorted.{answers_always}
use Rattle.traversal_run.specs.Kept.{number_ranks_below}
use Rattle.traversal_run.proofs.Orders.{numbers_order}
use Rattle.traversal_run.proofs.Sorting.{stable_sort_is}
use Rattle.rec_bytes.proofs.Causes.{never_ok}
use Rattle.traversal_run.proofs.kept.sort_numbers.Goals as goal

pub returns-in_ok-sort_by : goal.returns-in_ok-sort_by
returns-in_ok-sort_by c =
    rw c.if-descending.true (stable_sort_is (number_ranks_below true) (numbers_order true) c.args.numbers.now.items c.sort_by.new.self.items
    (c.in_ok-sort_by.ensures.sorted (number_ranks_below true) (numbers_order true) (answers_always _ _ _ (λ f a r q k. search rules)))
    (c.in_ok-sort_by.ensures.stable (number_ranks_below true) (numbers_order true) (answers_always _ _ _ (λ f a r q k. search rules))))

pub returns-in_ok-sort_by-2 : goal.returns-in_ok-sort_by-2
returns-in_ok-sort_by-2 c =
    rw c.if-descending.false (stable_sort_is (number_ranks_below false) (numbers_order false) c.args.numbers.now.items c.sort_by-else-descending.new.self.items
    (c.in_ok-sort_by-2.ensures.sorted (number_ranks_below false) (numbers_order false) (answers_always _ _ _ (λ f a r q k. search rules)))
    (c.in_ok-sort_by-2.ensures.stable (number_ranks_below false) (numbers_order false) (answers_always _ _ _ (λ f a r q k. search rules))))

pub returns-in_err-sort_by : goal.returns-in_err-sort_by
returns-in_err-sort_by c = never_ok c.from_residual.result _ _ c.from_residual.ensures.1

pub returns-in_err-sort_by-2 : goal.returns-in_err-sort_by-2
returns-in_err-sort_by-2 c = never_ok c.from_residual-in_err-sort_by-2.result _ _ c.from_residual-in_err-sort_by-2.ensures.1
