-- The list of names, as the rows of their file.
use Rattle.std.proofs.Common.{◌≡◌, ℕ, zero, suc, ◌-◌, ◌<◌, ◌≤◌, Some, List, [], ◌∷◌, ◌++◌, length, get_or, sym, ap, ◌∙◌, ⊎_elim, arith, refl}
use Rattle.std.specs.List.{Contains}
use Rattle.std.proofs.lemmas.Bool.{cases_lt}
use Rattle.std.proofs.lemmas.List.{length-append, get_or_append_left, get_or-append_right}
use Rattle.store_rules.specs.Rows.{collect}

module _ {E : Type 0} (row : ℕ → E) where
  abbrev pub all_rows : ℕ → List E
  all_rows n = collect (λ x. Some (row x)) n

  pub length-rows : (n : ℕ) → length (all_rows n) ≡ n
  length-rows zero = refl
  length-rows (suc n) = let e = length-rows n in omega (arith, length-append (all_rows n) (row n ∷ []))

  pub row_at : (n x : ℕ) (d : E) → x < n → get_or (all_rows n) x d ≡ row x
  row_at zero x d lt = absurd (omega arith)
  row_at (suc n) x d lt =
      let long = length-rows n in
      ⊎_elim (λ (k : x < n). get_or_append_left (all_rows n) (row n ∷ []) d x (omega arith) ∙ row_at n x d k)
      (λ (k : n ≤ x). let e : x ≡ n = omega arith in let z : x - length (all_rows n) ≡ 0 = omega arith in get_or-append_right (all_rows n) (row n ∷ [])
      (length (all_rows n)) x d refl (omega arith) ∙ ap (λ m. get_or (row n ∷ []) m d) z ∙ ap row (sym e)) (cases_lt x n)

  pub contains_row : (n x : ℕ) → x < n → Contains (all_rows n) (row x)
  contains_row n x lt = (x, let long = length-rows n in omega arith, row_at n x (row x) lt)

pub rows_same : {E : Type 0} → (row now : ℕ → E) (n : ℕ) → ((x : ℕ) → x < n → now x ≡ row x) → all_rows now n ≡ all_rows row n
rows_same row now zero h = refl
rows_same row now (suc n) h = ap (λ xs. xs ++ now n ∷ []) (rows_same row now n (λ x lt. h x (omega arith)))
    ∙ ap (λ e. all_rows row n ++ e ∷ []) (h n (omega arith))
