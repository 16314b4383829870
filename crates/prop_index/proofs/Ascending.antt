-- Identifiers by ascending number are one list, whatever the order in which they were met.
use Rattle.std.proofs.Common.{◌≡◌, ◌≢◌, ℕ, ◌<◌, suc, nat_eq, List, [], ◌∷◌, refl, sym, subst, ⊎_elim, arith}
use Rattle.std.specs.List.{AllPairs, Contains}
use Rattle.std.specs.List.Sorted.{IsNonDecreasing, IsPermutation}
use Rattle.std.proofs.lemmas.Bool.{eqb-false}
use Rattle.std.proofs.lemmas.Bool.Decides.{nat_tests}
use Rattle.std.proofs.lemmas.List.Sorted.{Contains-permutation, IsPermutation-sym}
use Rattle.std.proofs.lemmas.Map.Keys.{IsDistinct-IsPermutation, IsDistinct-from_apart, apart_from_distinct}
use Rattle.store_rules.proofs.NumberLaws.{eq_false}
use Rattle.store_rules.proofs.Members.{contains_cases, contains_first, contains_later, pairs_rest}

abbrev pub Before : ℕ → ℕ → Type 0
Before a b = a < b

abbrev pub Differs : ℕ → ℕ → Type 0
Differs a b = a ≢ b

-- the first is before each of the rest
above_first : (x z : ℕ) (xs : List ℕ) → AllPairs Before (x ∷ xs) → Contains xs z → x < z
above_first x z xs up (k, lt, is) = subst (λ y. x < y) is (up 0 (suc k) z (omega arith) (omega arith))

one_first : (a b : ℕ) (xs ys : List ℕ) → AllPairs Before (a ∷ xs) → AllPairs Before (b ∷ ys) → Contains (b ∷ ys) a → Contains (a ∷ xs) b → a ≡ b
one_first a b xs ys up rise a_in b_in =
    ⊎_elim (λ (same : a ≡ b). same) (λ (a_later : Contains ys a).
    ⊎_elim (λ (same : b ≡ a). sym same) (λ (b_later : Contains xs b).
    let over = above_first b a ys rise a_later in
    let under = above_first a b xs up b_later in
    absurd (omega (arith, over, under))) (contains_cases a xs b b_in)) (contains_cases b ys a a_in)

in_rest : (a b z : ℕ) (xs ys : List ℕ) → a ≡ b → AllPairs Before (a ∷ xs) → Contains xs z → Contains (b ∷ ys) z → Contains ys z
in_rest a b z xs ys same up is there =
    ⊎_elim (λ (here : z ≡ b). let over = above_first a z xs up is in absurd (omega (arith, over))) (λ (later : Contains ys z). later)
    (contains_cases b ys z there)

-- two ascending lists with the same members
pub one_ascending : (xs ys : List ℕ) → AllPairs Before xs → AllPairs Before ys → ((z : ℕ) → Contains xs z → Contains ys z)
    → ((z : ℕ) → Contains ys z → Contains xs z) → xs ≡ ys
one_ascending [] [] up rise onto back = refl
one_ascending [] (b ∷ ys) up rise onto back = let none = (back b (contains_first b ys)).1 in absurd (omega arith)
one_ascending (a ∷ xs) [] up rise onto back = let none = (onto a (contains_first a xs)).1 in absurd (omega arith)
one_ascending (a ∷ xs) (b ∷ ys) up rise onto back =
    let first : a ≡ b = one_first a b xs ys up rise (onto a (contains_first a xs)) (back b (contains_first b ys)) in
    let rest : xs ≡ ys = one_ascending xs ys (pairs_rest Before a xs up) (pairs_rest Before b ys rise)
    (λ z is. in_rest a b z xs ys first up is (onto z (contains_later a xs z is)))
    (λ z is. in_rest b a z ys xs (sym first) rise is (back z (contains_later b ys z is))) in
    λ i. first i ∷ rest i

flips : (a b : ℕ) → nat_eq a b ≡ nat_eq b a
flips a b = grind (arith, nat_tests)

-- distinct identifiers that were sorted
pub ascends_sorted : (xs found : List ℕ) → AllPairs Differs xs → IsPermutation xs found → IsNonDecreasing found → AllPairs Before found
ascends_sorted xs found distinct moved sorted = λ i j d lt low.
    let apart = IsDistinct-IsPermutation nat_eq flips xs found moved (IsDistinct-from_apart nat_eq xs (λ i j d lt low. eq_false _ _ (distinct i j d lt low))) in
    let differs = eqb-false _ _ (apart_from_distinct nat_eq found i j d apart lt low) in
    let le = sorted i j d (omega arith) low in
    omega (arith, differs, le)

-- sorted, they are what has their members in ascending order
pub sorted_is : (xs found ids : List ℕ) → AllPairs Differs xs → IsPermutation xs found → IsNonDecreasing found → AllPairs Before ids
    → ((z : ℕ) → Contains xs z → Contains ids z) → ((z : ℕ) → Contains ids z → Contains xs z) → found ≡ ids
sorted_is xs found ids distinct moved sorted up onto back =
    one_ascending found ids (ascends_sorted xs found distinct moved sorted) up
    (λ z is. onto z (Contains-permutation found xs z (IsPermutation-sym xs found moved) is))
    (λ z is. Contains-permutation xs found z moved (back z is))
