-- How many numbers below a mark pass a test.
use Rattle.std.specs.Prelude.{is_some}
use Rattle.std.proofs.Common.{◌≡◌, ◌≢◌, ◌⊎◌, ℕ, zero, suc, ◌+◌, ◌<◌, ◌≤◌, Bool, true, false, cond, Option, None, Some}
use Rattle.std.proofs.Common.{List, [], ◌∷◌, ◌++◌, length, sym, ap, ◌∙◌, subst, inl, inr, ⊎_elim, arith, refl}
use Rattle.std.specs.List.{filter, sum_by}
use Rattle.std.proofs.lemmas.Bool.{cases_lt}
use Rattle.std.proofs.lemmas.List.Elements.{filter-append}
use Rattle.std.proofs.lemmas.List.Sums.{sum_by-append}
use Rattle.store_rules.specs.Chains.{In}
use Rattle.store_rules.specs.Properties.{AreOnce}
use Rattle.store_rules.specs.Rows.{option_list, collect, if_test, ids}
use Rattle.store_rules.proofs.OnceLaws.{in_left, in_parts, in_right, once_both}
use Rattle.store_rules.proofs.RowLaws.{append_none, collect_same, collect_with, length-with_row}

length-both : {A : Type 0} (xs ys : List A) → length (xs ++ ys) ≡ length xs + length ys
length-both [] ys = omega arith
length-both (x ∷ xs) ys = let e = length-both xs ys in omega arith

pub length-ids : (test : ℕ → Bool) (n : ℕ) → length (ids test n) ≤ n
length-ids test zero = omega arith
length-ids test (suc n) = let le = length-ids test n in on (test n) (ids test n) le
  where
    on : (t : Bool) (xs : List ℕ) → length xs ≤ n → length (xs ++ option_list (cond t (Some n) None)) ≤ suc n
    on true xs le = let e = length-both xs (n ∷ []) in omega arith
    on false xs le = let e = length-both xs [] in omega arith

-- a test of one more
pub ids_with : (old now : ℕ → Bool) (n m id : ℕ) → old id ≡ false → now id ≡ true → ((x : ℕ) → x ≢ id → now x ≡ old x) → id < m → (m ≡ n)
    ⊎ ((id ≡ n) × (m ≡ n + 1))
    → length (ids now m) ≡ length (ids old n) + 1
ids_with old now n m id out here same lt way = ⊎_elim
    (λ (e : m ≡ n). subst (λ k. length (ids now m) ≡ length (ids old k) + 1) e (one m lt))
    (λ (k : (id ≡ n) × (m ≡ n + 1)). one m lt ∙ ap (λ xs. length xs + 1) (ap (ids old) (k.1 ∙ add n) ∙ gone n (subst (λ z. old z ≡ false) k.0 out)))
    way
  where
    add : (n : ℕ) → n + 1 ≡ suc n
    add n = omega arith

    gone : (n : ℕ) → old n ≡ false → ids old (suc n) ≡ ids old n
    gone n e = rw e (append_none (ids old n))

    numbered : (test : ℕ → Bool) (x e : ℕ) → if_test test x ≡ Some e → e ≡ x
    numbered test x e h = on (test x) h
      where
        on : (t : Bool) → cond t (Some x) None ≡ Some e → e ≡ x
        on true h = cc
        on false h = absurd cc

    one : (m : ℕ) → id < m → length (ids now m) ≡ length (ids old m) + 1
    one m lt = ap length (collect_with (λ e. e) (if_test old) (if_test now) m id id (numbered old) refl (rw out refl) (rw here refl) (λ x b ne. rw (same x ne)
        refl) lt) ∙ length-with_row (λ e. e) id (ids old m)

-- a test that the new number fails counts as many
pub ids_kept : (old now : ℕ → Bool) (n m id : ℕ) → ((x : ℕ) → now x ≡ old x) → old id ≡ false → (m ≡ n) ⊎ ((id ≡ n) × (m ≡ n + 1)) → ids now m ≡ ids old n
ids_kept old now n m id same out way = all m ∙ ⊎_elim
    (λ (e : m ≡ n). ap (ids old) e)
    (λ (k : (id ≡ n) × (m ≡ n + 1)). ap (ids old) (k.1 ∙ add n) ∙ gone n (subst (λ z. old z ≡ false) k.0 out)) way
  where
    add : (n : ℕ) → n + 1 ≡ suc n
    add n = omega arith

    gone : (n : ℕ) → old n ≡ false → ids old (suc n) ≡ ids old n
    gone n e = rw e (append_none (ids old n))

    all : (m : ℕ) → ids now m ≡ ids old m
    all m = collect_same (λ (e : ℕ). e) (if_test old) (if_test now) m (λ x _. ap (λ b. cond b (Some x) None) (same x))

-- a test that never holds
pub ids_none : (test : ℕ → Bool) (n : ℕ) → ((x : ℕ) → test x ≡ false) → ids test n ≡ []
ids_none test zero h = refl
ids_none test (suc n) h = rw (h n) (append_none (ids test n) ∙ ids_none test n h)

-- where none is counted, none is there
pub ids_empty : (test : ℕ → Bool) (n : ℕ) → length (ids test n) ≡ 0 → (x : ℕ) → x < n → test x ≡ false
ids_empty test zero h x lt = absurd (omega arith)
ids_empty test (suc n) h x lt =
    let both = parts (ids test n) (option_list (if_test test n)) h in
    ⊎_elim (λ (l : x < n). ids_empty test n both.0 x l) (λ (ge : n ≤ x). let e : n ≡ x = omega arith in subst (λ z. test z ≡ false) e (last (test n) both.1))
    (cases_lt x n)
  where
    parts : (xs ys : List ℕ) → length (xs ++ ys) ≡ 0 → (length xs ≡ 0) × (length ys ≡ 0)
    parts xs ys e = let f = length-both xs ys in (omega arith, omega arith)

    last : (b : Bool) → length (option_list (cond b (Some n) None)) ≡ 0 → b ≡ false
    last true e = absurd (let z : 1 ≡ 0 = e in omega arith)
    last false e = refl

-- where all below the mark pass the count is the mark
pub ids_all : (test : ℕ → Bool) (n : ℕ) → ((x : ℕ) → x < n → test x ≡ true) → length (ids test n) ≡ n
ids_all test zero h = refl
ids_all test (suc n) h = let e = ids_all test n (λ x lt. h x (omega arith)) in one (ids test n) (test n) (h n (omega arith)) e
  where
    one : (xs : List ℕ) (t : Bool) → t ≡ true → length xs ≡ n → length (xs ++ option_list (cond t (Some n) None)) ≡ suc n
    one xs true k e = let f = length-both xs (n ∷ []) in omega arith
    one xs false k e = absurd cc

-- where one fails fewer pass
pub ids_fewer : (test : ℕ → Bool) (n x : ℕ) → x < n → test x ≡ false → length (ids test n) < n
ids_fewer test zero x lt out = absurd (omega arith)
ids_fewer test (suc n) x lt out = ⊎_elim
    (λ (k : x < n). more (ids test n) (test n) (ids_fewer test n x k out))
    (λ (k : n ≤ x). let e : x ≡ n = omega arith in none (ids test n) (test n) (subst (λ z. test z ≡ false) e out) (length-ids test n)) (cases_lt x n)
  where
    more : (xs : List ℕ) (t : Bool) → length xs < n → length (xs ++ option_list (cond t (Some n) None)) < suc n
    more xs true lt = let f = length-both xs (n ∷ []) in omega arith
    more xs false lt = let f = length-both xs [] in omega arith

    none : (xs : List ℕ) (t : Bool) → t ≡ false → length xs ≤ n → length (xs ++ option_list (cond t (Some n) None)) < suc n
    none xs true k le = absurd cc
    none xs false k le = let f = length-both xs [] in omega arith

-- as many rows as numbers that pass a test
pub length-collect : (E : Type 0) (row : ℕ → Option E) (test : ℕ → Bool) (n : ℕ) → ((x : ℕ) → is_some (row x) ≡ test x)
    → length (collect row n) ≡ length (ids test n)
length-collect E row test zero h = refl
length-collect E row test (suc n) h = both (collect row n) (ids test n) (length-collect E row test n h) (row n) (test n) (h n)
  where
    both : (xs : List E) (ys : List ℕ) → length xs ≡ length ys → (o : Option E) (t : Bool) → is_some o ≡ t
        → length (xs ++ option_list o) ≡ length (ys ++ option_list (cond t (Some n) None))
    both xs ys e None true k = absurd cc
    both xs ys e None false k = length-both xs [] ∙ ap (λ m. m + 0) e ∙ sym (length-both ys [])
    both xs ys e (Some r) true k = length-both xs (r ∷ []) ∙ ap (λ m. m + 1) e ∙ sym (length-both ys (n ∷ []))
    both xs ys e (Some r) false k = absurd cc

-- the row is there and passes the test
abbrev pub row_passes : {E : Type 0} → (E → Bool) → Option E → Bool
row_passes test None = false
row_passes test (Some e) = test e

-- as many rows that pass a test as numbers that pass another
pub length-filter : (E : Type 0) (row : ℕ → Option E) (test : E → Bool) (now : ℕ → Bool) (n : ℕ) → ((x : ℕ) → row_passes test (row x) ≡ now x)
    → length (filter test (collect row n)) ≡ length (ids now n)
length-filter E row test now zero h = refl
length-filter E row test now (suc n) h =
    ap length (filter-append test (collect row n) (option_list (row n)))
    ∙ length-both (filter test (collect row n)) (filter test (option_list (row n)))
    ∙ ap (λ m. m + length (filter test (option_list (row n)))) (length-filter E row test now n h)
    ∙ ap (λ m. length (ids now n) + m) (last (row n) (now n) (h n))
    ∙ sym (length-both (ids now n) (option_list (if_test now n)))
  where
    last : (o : Option E) (b : Bool) → row_passes test o ≡ b → length (filter test (option_list o)) ≡ length (option_list (cond b (Some n) None))
    last None true k = absurd cc
    last None false k = refl
    last (Some e) true k = rw k refl
    last (Some e) false k = rw k refl

-- ---- which numbers they are

-- a number below the mark that passes the test is one of them
pub in_ids : (test : ℕ → Bool) (n x : ℕ) → x < n → test x ≡ true → In x (ids test n)
in_ids test zero x lt pass = absurd (omega arith)
in_ids test (suc n) x lt pass = ⊎_elim
    (λ (k : x < n). in_left x (ids test n) (option_list (if_test test n)) (in_ids test n x k pass))
    (λ (k : n ≤ x). let e : x ≡ n = omega arith in in_right x (ids test n) (option_list (if_test test n)) (last (test n) (subst (λ z. test z ≡ true) e pass) e))
    (cases_lt x n)
  where
    last : (b : Bool) → b ≡ true → x ≡ n → In x (option_list (cond b (Some n) None))
    last true k e = inl e
    last false k e = absurd cc

-- and one of them is below the mark and passes the test
pub ids_in : (test : ℕ → Bool) (n x : ℕ) → In x (ids test n) → (x < n) × (test x ≡ true)
ids_in test zero x i = elim i [ ]
ids_in test (suc n) x i = ⊎_elim
    (λ k. let r = ids_in test n x k in (omega (arith, r.0), r.1))
    (λ k. let r = last (test n) k in let e = r.0 in (omega arith, ap test e ∙ r.1)) (in_parts x (ids test n) (option_list (if_test test n)) i)
  where
    last : (b : Bool) → In x (option_list (cond b (Some n) None)) → (x ≡ n) × (b ≡ true)
    last true (inl e) = (e, refl)
    last true (inr k) = elim k [ ]
    last false k = elim k [ ]

-- none comes twice
pub once_ids : (test : ℕ → Bool) (n : ℕ) → AreOnce (ids test n)
once_ids test zero = tt
once_ids test (suc n) = once_both (ids test n) (option_list (if_test test n)) (once_ids test n) (alone (test n))
    (λ x i j. let low = (ids_in test n x i).0 in let e = last x (test n) j in omega arith)
  where
    alone : (b : Bool) → AreOnce (option_list (cond b (Some n) None))
    alone true = ((λ i. i), tt)
    alone false = tt

    last : (x : ℕ) (b : Bool) → In x (option_list (cond b (Some n) None)) → x ≡ n
    last x true (inl e) = e
    last x true (inr k) = elim k [ ]
    last x false k = elim k [ ]

-- a sum over rows is one over the numbers that have them
pub sum_by-collect : {E : Type 0} (row : ℕ → Option E) (test : ℕ → Bool) (f : E → ℕ) (g : ℕ → ℕ) (n : ℕ)
    → ((x : ℕ) → sum_by f (option_list (row x)) ≡ sum_by g (option_list (if_test test x)))
    → sum_by f (collect row n) ≡ sum_by g (ids test n)
sum_by-collect row test f g zero each = refl
sum_by-collect row test f g (suc n) each =
    sum_by-append f (collect row n) (option_list (row n)) ∙ (λ i. sum_by-collect row test f g n each i + each n i)
    ∙ sym (sum_by-append g (ids test n) (option_list (if_test test n)))
