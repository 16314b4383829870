-- Identifiers by ascending number, each once.
use Rattle.std.proofs.Common.{◌≡◌, ◌<◌, ◌≤◌, ℕ, suc, Bool, true, false, cond, nat_eq, List, [], ◌∷◌, length, get_or, refl, sym, arith}
use borrow.Author.Tests.{eqb-true}
use Rattle.std.specs.List.{AllByRecursion, AllPairs, Contains, dedup, list_any}
use Rattle.std.specs.List.Sorted.{IsPermutation, IsSorted}
use Rattle.std.specs.Ordering.{nat_cmp}
use Rattle.std.proofs.lemmas.Cmp.{nat_eq_equiv}
use Rattle.std.proofs.lemmas.List.Kept.{AllPairs-from_increasing, Contains-dedup_nat, Contains-from_dedup}
use Rattle.std.proofs.lemmas.List.Sorted.{Contains-permutation, IsPermutation-sym}
use Rattle.std.proofs.lemmas.Map.Keys.{IsStrictlyIncreasing-dedup}
use Rattle.std.proofs.lemmas.Map.Views.{Contains-from_any, list_any-from_Contains}
use Rattle.traversal_run.specs.AskedIds.{Ascends}

above : (x : ℕ) (xs : List ℕ) → ((j : ℕ) → j < length xs → x < get_or xs j 0) → AllByRecursion (λ later. x < later) xs
above x [] far = tt
above x (y ∷ ys) far = (far 0 (omega arith), above x ys (λ j lt. far (suc j) (omega arith)))

-- pairs in order, and one after the other
ascends_pairs : (xs : List ℕ) → AllPairs (λ x y. x < y) xs → Ascends xs
ascends_pairs [] pairs = tt
ascends_pairs (x ∷ xs) pairs = (
  above x xs (λ j lt. pairs 0 (suc j) 0 (omega arith) (omega arith)),
  ascends_pairs xs (λ i j d low high. pairs (suc i) (suc j) d
      (omega arith) (omega arith)),
)

-- so it is after a sort and a dedup
pub ascends-dedup : (xs : List ℕ) → IsSorted nat_cmp xs → Ascends (dedup nat_eq xs)
ascends-dedup xs sorted = ascends_pairs (dedup nat_eq xs) (AllPairs-from_increasing (dedup nat_eq xs) (IsStrictlyIncreasing-dedup xs sorted))

-- a list has a number where a test finds it
any_contains : (x : ℕ) (xs : List ℕ) → list_any (nat_eq x) xs ≡ true → Contains xs x
any_contains x xs e = Contains-from_any (λ a b h. eqb-true a b h) x xs e

contains_any : (x : ℕ) (xs : List ℕ) → Contains xs x → list_any (nat_eq x) xs ≡ true
contains_any x xs has = list_any-from_Contains nat_eq_equiv x xs has

pub same_tests : (a b : Bool) → (a ≡ true → b ≡ true) → (b ≡ true → a ≡ true) → a ≡ b
same_tests true b to back = sym (to refl)
same_tests false true to back = back refl
same_tests false false to back = refl

-- two lists with the same members
same_any : (xs ys : List ℕ) → ((x : ℕ) → Contains xs x → Contains ys x) → ((x : ℕ) → Contains ys x → Contains xs x) → (x : ℕ)
    → list_any (nat_eq x) xs ≡ list_any (nat_eq x) ys
same_any xs ys to back x = same_tests (list_any (nat_eq x) xs) (list_any (nat_eq x) ys)
    (λ e. contains_any x ys (to x (any_contains x xs e))) (λ e. contains_any x xs (back x (any_contains x ys e)))

-- a sort and a dedup leave the same numbers
pub asked-dedup : (asked sorted : List ℕ) → IsPermutation asked sorted → (x : ℕ) → list_any (nat_eq x) (dedup nat_eq sorted) ≡ list_any (nat_eq x) asked
asked-dedup asked sorted moved = same_any (dedup nat_eq sorted) asked
    (λ x has. Contains-permutation sorted asked x (IsPermutation-sym asked sorted moved) (Contains-from_dedup nat_eq sorted x has))
    (λ x has. Contains-dedup_nat sorted x (Contains-permutation asked sorted x moved has))

-- and no more of them
from_few : (last : ℕ) (xs : List ℕ) → length (dedup nat_eq (last ∷ xs)) ≤ suc (length xs)
from_few last [] = omega arith
from_few last (x ∷ xs) = by (nat_eq x last) (from_few last xs) (from_few x xs)
  where
    by : (b : Bool) → length (dedup nat_eq (last ∷ xs)) ≤ suc (length xs) → length (dedup nat_eq (x ∷ xs)) ≤ suc (length xs)
        → length (cond b (dedup nat_eq (last ∷ xs)) (last ∷ dedup nat_eq (x ∷ xs))) ≤ suc (suc (length xs))
    by true without further = omega (arith, without)
    by false without further = omega (arith, further)

pub dedup-few : (xs : List ℕ) → length (dedup nat_eq xs) ≤ length xs
dedup-few [] = omega arith
dedup-few (x ∷ xs) = from_few x xs
