-- Rows by ascending identifier are one list, whatever the order in which they were met.
use Rattle.std.proofs.Common.{◌≡◌, ◌≢◌, ◌<◌, suc, nat_eq, Bool, true, List, [], ◌∷◌, refl, sym, ap, ◌∙◌, subst, ⊎_elim, arith}
use Rattle.std.specs.List.{AllPairs, Contains, filter}
use Rattle.std.specs.List.Sorted.{IsNonDecreasingBy, IsPermutation}
use Rattle.std.proofs.lemmas.Bool.{eqb-false}
use Rattle.std.proofs.lemmas.Bool.Decides.{nat_tests}
use Rattle.std.proofs.lemmas.List.Kept.{AllPairs-filter}
use Rattle.std.proofs.lemmas.List.Sorted.{Contains-permutation, IsPermutation-sym}
use Rattle.std.proofs.lemmas.Map.Keys.{IsDistinct-IsPermutation, IsDistinct-from_apart, apart_from_distinct}
use Rattle.store_rules.proofs.NumberLaws.{eq_false}
use Rattle.rel_store.specs.declared.edge_row.EdgeRow.{EdgeRow}
use Rattle.expand.specs.Matching.{IsPart, id_of}
use Rattle.store_rules.proofs.Members.{contains_cases, contains_filter, contains_first, contains_later, filter_contains, pairs_rest}

-- ---- one ascending list

-- the one has the lower identifier
abbrev IsBefore : EdgeRow → EdgeRow → Type 0
IsBefore a b = id_of a < id_of b

-- the two have two identifiers
abbrev pub Differs : EdgeRow → EdgeRow → Type 0
Differs a b = id_of a ≢ id_of b

-- each is before all later ones
abbrev Ascends : List EdgeRow → Type 0
Ascends rows = AllPairs IsBefore rows

-- the first is before each of the rest
above_first : (x z : EdgeRow) (xs : List EdgeRow) → Ascends (x ∷ xs) → Contains xs z → id_of x < id_of z
above_first x z xs up (k, lt, is) = subst (λ y. id_of x < id_of y) is (up 0 (suc k) z (omega arith) (omega arith))

-- two ascending lists with the same members have the same first one
one_first : (a b : EdgeRow) (xs ys : List EdgeRow) → Ascends (a ∷ xs) → Ascends (b ∷ ys) → Contains (b ∷ ys) a → Contains (a ∷ xs) b → a ≡ b
one_first a b xs ys up rise a_in b_in =
    ⊎_elim (λ (same : a ≡ b). same) (λ (a_later : Contains ys a).
    ⊎_elim (λ (same : b ≡ a). sym same) (λ (b_later : Contains xs b).
    let over = above_first b a ys rise a_later in
    let under = above_first a b xs up b_later in
    absurd (omega (arith, over, under))) (contains_cases a xs b b_in)) (contains_cases b ys a a_in)

-- what comes after the first of one list is none but in the rest of the other
in_rest : (a b z : EdgeRow) (xs ys : List EdgeRow) → a ≡ b → Ascends (a ∷ xs) → Contains xs z → Contains (b ∷ ys) z → Contains ys z
in_rest a b z xs ys same up is there =
    ⊎_elim (λ (here : z ≡ b).
    let over = above_first a z xs up is in
    let ids : id_of z ≡ id_of a = ap id_of (here ∙ sym same) in
    absurd (omega (arith, over, ids))) (λ (later : Contains ys z). later) (contains_cases b ys z there)

-- two ascending lists with the same members
one_ascending : (xs ys : List EdgeRow) → Ascends xs → Ascends ys → ((z : EdgeRow) → Contains xs z → Contains ys z)
    → ((z : EdgeRow) → Contains ys z → Contains xs z) → xs ≡ ys
one_ascending [] [] up rise onto back = refl
one_ascending [] (b ∷ ys) up rise onto back = let none = (back b (contains_first b ys)).1 in absurd (omega arith)
one_ascending (a ∷ xs) [] up rise onto back = let none = (onto a (contains_first a xs)).1 in absurd (omega arith)
one_ascending (a ∷ xs) (b ∷ ys) up rise onto back =
    let first : a ≡ b = one_first a b xs ys up rise (onto a (contains_first a xs)) (back b (contains_first b ys)) in
    let rest : xs ≡ ys = one_ascending xs ys (pairs_rest IsBefore a xs up) (pairs_rest IsBefore b ys rise)
    (λ z is. in_rest a b z xs ys first up is (onto z (contains_later a xs z is)))
    (λ z is. in_rest b a z ys xs (sym first) rise is (back z (contains_later b ys z is))) in
    λ i. first i ∷ rest i

-- ---- what a sort leaves

-- the two have one identifier
abbrev pub same_id : EdgeRow → EdgeRow → Bool
same_id a b = nat_eq (id_of a) (id_of b)

-- the test does not depend on the order
pub flips : (a b : EdgeRow) → same_id a b ≡ same_id b a
flips a b = grind (arith, nat_tests)

-- distinct rows that were sorted
ascends_sorted : (rows found : List EdgeRow) → AllPairs Differs rows → IsPermutation rows found → IsNonDecreasingBy id_of found → Ascends found
ascends_sorted rows found distinct moved sorted = λ i j d lt low.
    let apart = IsDistinct-IsPermutation same_id flips rows found moved
    (IsDistinct-from_apart same_id rows (λ i j d lt low. eq_false _ _ (distinct i j d lt low))) in
    let differs = eqb-false _ _ (apart_from_distinct same_id found i j d apart lt low) in
    let le = sorted i j d (omega arith) low in
    omega (arith, differs, le)

-- The rows that pass a test, sorted, are the edges that pass it.
pub sorted_part : (wide test : EdgeRow → Bool) (rows edges found : List EdgeRow) → IsPart wide rows edges
    → ((row : EdgeRow) → test row ≡ true → wide row ≡ true)
    → IsPermutation (filter test rows) found → IsNonDecreasingBy id_of found → found ≡ filter test edges
sorted_part wide test rows edges found part narrower moved sorted =
    one_ascending found (filter test edges)
    (ascends_sorted (filter test rows) found (AllPairs-filter Differs test rows part.distinct) moved sorted)
    (AllPairs-filter IsBefore test edges part.ascends)
    (λ z is. let kept = contains_filter test rows z (Contains-permutation found (filter test rows) z (IsPermutation-sym (filter test rows) found moved) is) in
    filter_contains test edges z (part.only z kept.0) kept.1)
    (λ z is. let kept = contains_filter test edges z is in Contains-permutation (filter test rows) found z moved (filter_contains test rows z
    (part.all z kept.0 (narrower z kept.1)) kept.1))
