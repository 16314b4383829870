use Rattle.std.proofs.Common.{rules}
use Rattle.std.proofs.lemmas.List.Sorted.{IsNonDecreasingBy-from_sort_by_key, IsPermutation-trans}
use Rattle.rec_bytes.proofs.Causes.{never_ok}
use Rattle.expand.specs.Matching.{id_of}
use Rattle.expand.proofs.matching.in_order.Goals as goal

pub returns-clause-moved : goal.returns-clause-moved
returns-clause-moved c = IsPermutation-trans _ _ _ c.reverse.ensures.permutation c.sort_by_key.ensures.permutation

pub returns-clause-sorted : goal.returns-clause-sorted
returns-clause-sorted c = IsNonDecreasingBy-from_sort_by_key id_of _ c.in_ok-sort_by_key.ensures.sorted (λ a r q k. search rules)

pub returns-in_err-sort_by_key-clause-moved : goal.returns-in_err-sort_by_key-clause-moved
returns-in_err-sort_by_key-clause-moved c = never_ok c.from_residual.result _ _ c.from_residual.ensures.1

pub returns-in_err-sort_by_key-clause-sorted : goal.returns-in_err-sort_by_key-clause-sorted
returns-in_err-sort_by_key-clause-sorted c = never_ok c.from_residual.result _ _ c.from_residual.ensures.1
