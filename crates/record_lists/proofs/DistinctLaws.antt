-- Numbers that are distinct, by their order.
use Rattle.std.proofs.Common.{◌≡◌, ◌≢◌, ℕ, ◌-◌, ◌<◌, ◌≤◌, true, false, List, length, get_or, nat_eq, sym, ◌∙◌, ⊎_elim, arith}
use Rattle.std.specs.List.{IsDistinct}
use Rattle.std.specs.List.Sorted.{IsPermutation, IsNonDecreasingBy}
use Rattle.std.proofs.lemmas.List.Sorted.{IsPermutation-sym}
use Rattle.std.proofs.lemmas.Map.Keys.{IsDistinct-from_apart, IsDistinct-IsPermutation, apart_from_distinct}
use Rattle.std.proofs.lemmas.Bool.{ne_eqb, eq-eqb, true≢false, cases_Bool, eqb-true, eqb-false}

-- each of the first n is below the one behind it
pub record Rises (xs : List ℕ) (n : ℕ) : Type 0 where
  pub each : (k d : ℕ) → 1 ≤ k → k < n → get_or xs (k - 1) d ≢ get_or xs k d

eq_flips : (x y : ℕ) → nat_eq x y ≡ nat_eq y x
eq_flips x y = ⊎_elim
    (λ (t : nat_eq x y ≡ true). t ∙ sym (eq-eqb y x (sym (eqb-true x y t))))
    (λ (f : nat_eq x y ≡ false). f ∙ sym (ne_eqb y x (λ e. eqb-false x y f (sym e))))
    (cases_Bool (nat_eq x y))

pub distinct_old : (old new : List ℕ) → IsPermutation old new → IsDistinct nat_eq new → IsDistinct nat_eq old
distinct_old old new p h = IsDistinct-IsPermutation nat_eq eq_flips new old (IsPermutation-sym old new p) h

pub distinct_new : (old new : List ℕ) → IsPermutation old new → IsDistinct nat_eq old → IsDistinct nat_eq new
distinct_new old new p h = IsDistinct-IsPermutation nat_eq eq_flips old new p h

pub rises_distinct : (xs : List ℕ) → IsNonDecreasingBy (λ x. x) xs → Rises xs (length xs) → IsDistinct nat_eq xs
rises_distinct xs up r = IsDistinct-from_apart nat_eq xs (λ i j d lt within.
    let low : get_or xs i d ≤ get_or xs (j - 1) d = up i (j - 1) d (omega arith) (omega arith) in
    let step : get_or xs (j - 1) d ≤ get_or xs j d = up (j - 1) j d (omega arith) within in
    let apart : get_or xs (j - 1) d ≢ get_or xs j d = r.each j d (omega arith) within in
    ne_eqb (get_or xs i d) (get_or xs j d) (λ e. apart (omega arith)))

pub same_not_distinct : (xs : List ℕ) (i : ℕ) → 1 ≤ i → i < length xs → get_or xs (i - 1) 0 ≡ get_or xs i 0 → IsDistinct nat_eq xs → ⊥
same_not_distinct xs i low within e h = true≢false (sym (eq-eqb (get_or xs (i - 1) 0) (get_or xs i 0) e) ∙ apart_from_distinct nat_eq xs (i - 1) i 0 h
    (omega arith) within)
