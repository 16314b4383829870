use Rattle.std.proofs.Common.{rules, arith, ℕ, length, refl, sym}
use Rattle.std.proofs.lemmas.Bool.{true≢false}
use Rattle.std.proofs.lemmas.List.Sorted.{IsNonDecreasingBy-from_sort}
use Rattle.record_lists.proofs.DistinctLaws.{Rises, distinct_old, distinct_new, rises_distinct, same_not_distinct}
use Rattle.record_lists.proofs.distinct.are_distinct.Goals as goal

pub returns-then-numbers-i : goal.returns-then-numbers-i
returns-then-numbers-i c =
    let new = c.sort_unstable.new.self in
    let bad = same_not_distinct new c.loop-i.i (omega arith) (omega arith) (search rules) in
    ((λ e. absurd (true≢false (sym e))), (λ h. absurd (bad (distinct_new c.args.numbers.now new c.sort_unstable.ensures.permutation h))))

pub returns : goal.returns
returns c =
    let new = c.sort_unstable.new.self in
    let all : Rises new (length new) = record { each = λ k d low lt. c.loop-i.invariant.each k d low (omega arith) } in
    let up = IsNonDecreasingBy-from_sort (λ (x : ℕ). x) new c.sort_unstable.ensures.sorted in
    ((λ _. distinct_old c.args.numbers.now new c.sort_unstable.ensures.permutation (rises_distinct new up all)), (λ _. refl))
