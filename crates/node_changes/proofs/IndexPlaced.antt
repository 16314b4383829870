-- An index that is made has its place in the graph.
use Rattle.std.proofs.Common.{◌≡◌, ◌≢◌, ◌⊎◌, ⊎_elim, inl, inr, ℕ, zero, suc, ◌<◌, ◌≤◌, Bool, true, false, cond, Option}
use Rattle.std.proofs.Common.{None, Some, List, [], ◌∷◌, ◌++◌, ap, sym, ◌∙◌, subst, arith, refl}
use Rattle.std.specs.List.{flat_map}
use Rattle.std.proofs.lemmas.Grind.{flat_map-append}
use Rattle.plain_graph.specs.Graph.{Index}
use Rattle.plain_graph.specs.Indexes.{is_before, with_index}
use Rattle.store_rules.specs.Rows.{collect, ids, option_list}
use Rattle.store_rules.proofs.NumberLaws.{nat_cases}

-- ---- one more among indexes

module _ (names : List (List ℕ)) (one : Index) where
  -- it stands before each of these, or before none
  abbrev each : Bool → List Index → Type 0
  each b [] = Unit {0}
  each b (x ∷ xs) = (is_before names one x ≡ b) × each b xs

  each_both : (b : Bool) (xs ys : List Index) → each b xs → each b ys → each b (xs ++ ys)
  each_both b [] ys h k = k
  each_both b (x ∷ xs) ys h k = (h.0, each_both b xs ys h.1 k)

  after : (xs ys : List Index) → each false xs → with_index names one (xs ++ ys) ≡ xs ++ with_index names one ys
  after [] ys e = refl
  after (x ∷ xs) ys e = ap (λ b. cond b (one ∷ x ∷ (xs ++ ys)) (x ∷ with_index names one (xs ++ ys))) e.0 ∙ ap (λ zs. x ∷ zs) (after xs ys e.1)

  first : (ys : List Index) → each true ys → with_index names one ys ≡ one ∷ ys
  first [] e = refl
  first (y ∷ ys) e = ap (λ b. cond b (one ∷ y ∷ ys) (y ∷ with_index names one ys)) e.0

  front : (xs ys : List Index) → each true ys → with_index names one (xs ++ ys) ≡ with_index names one xs ++ ys
  front [] ys e = first ys e
  front (x ∷ xs) ys e = by (is_before names one x) (front xs ys e)
    where
      by : (b : Bool) → with_index names one (xs ++ ys) ≡ with_index names one xs ++ ys
          → cond b (one ∷ x ∷ (xs ++ ys)) (x ∷ with_index names one (xs ++ ys)) ≡ cond b (one ∷ x ∷ xs) (x ∷ with_index names one xs) ++ ys
      by true rest = refl
      by false rest = ap (λ zs. x ∷ zs) rest

  each_collect : (row : ℕ → Option Index) (b : Bool) (m : ℕ) → ((y : ℕ) (e : Index) → y < m → row y ≡ Some e → is_before names one e ≡ b)
      → each b (collect row m)
  each_collect row b zero all = tt
  each_collect row b (suc m) all = each_both b (collect row m) (option_list (row m)) (each_collect row b m (λ y e lt is. all y e (omega arith) is))
      (last (row m) refl)
    where
      last : (o : Option Index) → row m ≡ o → each b (option_list o)
      last None is = tt
      last (Some e) is = (all m e (omega arith) is, tt)

  -- ---- in a table of rows

  module _ (old now : ℕ → ℕ → Option Index) (l k n : ℕ)
      (same : (a b : ℕ) → (a ≢ l) ⊎ (b ≢ k) → now a b ≡ old a b) (lacked : old l k ≡ None) (made : now l k ≡ Some one)
      (lower : (a b : ℕ) (e : Index) → a < n → b < n → old a b ≡ Some e → (a < l) ⊎ ((a ≡ l) × (b < k)) → is_before names one e ≡ false)
      (higher : (a b : ℕ) (e : Index) → a < n → b < n → old a b ≡ Some e → (l < a) ⊎ ((a ≡ l) × (k < b)) → is_before names one e ≡ true) where
    other_row : (a : ℕ) → a ≢ l → (m : ℕ) → collect (now a) m ≡ collect (old a) m
    other_row a ne zero = refl
    other_row a ne (suc m) = λ i. other_row a ne m i ++ option_list (same a m (inl ne) i)

    low_row : (m : ℕ) → m ≤ k → collect (now l) m ≡ collect (old l) m
    low_row zero le = refl
    low_row (suc m) le = λ i. low_row m (omega arith) i ++ option_list (same l m (inr (λ e. omega (arith, e, le))) i)

    placed_row : l < n → (m : ℕ) → k ≤ m → m < n → collect (now l) (suc m) ≡ with_index names one (collect (old l) (suc m))
    placed_row in_l zero le lt =
        let zero_k : k ≡ 0 = omega arith in
        ap (λ j. option_list (now l j)) (sym zero_k) ∙ ap option_list made
        ∙ sym (ap (with_index names one) (ap (λ j. option_list (old l j)) (sym zero_k) ∙ ap option_list lacked))
    placed_row in_l (suc m) le lt = ⊎_elim
        (λ (e : k ≡ suc m).
        let gone : old l (suc m) ≡ None = ap (old l) (sym e) ∙ lacked in
        let come : now l (suc m) ≡ Some one = ap (now l) (sym e) ∙ made in
        (λ i. low_row (suc m) (omega (arith, e)) i ++ option_list (come i))
        ∙ sym (after (collect (old l) (suc m)) [] (each_collect (old l) false (suc m) (λ y x low is. lower l y x in_l (omega arith) is
        (inr (refl, omega (arith, low, e))))))
        ∙ ap (λ o. with_index names one (collect (old l) (suc m) ++ option_list o)) (sym gone))
        (λ (ne : k ≢ suc m).
        (λ i. placed_row in_l m (omega (arith, le, ne)) (omega arith) i ++ option_list (same l (suc m) (inr (λ e. ne (sym e))) i))
        ∙ sym (front (collect (old l) (suc m)) (option_list (old l (suc m))) (last (old l (suc m)) refl (omega (arith, le, ne)))))
        (nat_cases k (suc m))
      where
        last : (o : Option Index) → old l (suc m) ≡ o → k < suc m → each true (option_list o)
        last None is past = tt
        last (Some e) is past = (higher l (suc m) e in_l lt is (inr (refl, past)), tt)

    abbrev every : ℕ → List ℕ
    every m = ids (λ a. true) m

    abbrev old_rows : ℕ → List Index
    old_rows m = flat_map (λ a. collect (old a) n) (every m)

    abbrev now_rows : ℕ → List Index
    now_rows m = flat_map (λ a. collect (now a) n) (every m)

    low_rows : (m : ℕ) → m ≤ l → now_rows m ≡ old_rows m
    low_rows zero le = refl
    low_rows (suc m) le =
        flat_map-append (λ a. collect (now a) n) (every m) (m ∷ [])
        ∙ (λ i. low_rows m (omega arith) i ++ (other_row m (λ e. omega (arith, e, le)) n i ++ []))
        ∙ sym (flat_map-append (λ a. collect (old a) n) (every m) (m ∷ []))

    each_low : (m : ℕ) → m ≤ l → m ≤ n → each false (old_rows m)
    each_low zero le lt = tt
    each_low (suc m) le lt = subst (each false) (sym (flat_map-append (λ a. collect (old a) n) (every m) (m ∷ [])))
        (each_both false (old_rows m) (collect (old m) n ++ []) (each_low m (omega arith) (omega arith))
        (each_both false (collect (old m) n) [] (each_collect (old m) false n (λ y e low is. lower m y e (omega arith) low is (inl (omega arith)))) tt))

    whole_row : l < n → k < n → collect (now l) n ≡ with_index names one (collect (old l) n)
    whole_row in_l in_k = by n refl
      where
        by : (j : ℕ) → n ≡ j → collect (now l) j ≡ with_index names one (collect (old l) j)
        by zero e = absurd (omega (arith, e, in_l))
        by (suc j) e = placed_row in_l j (omega (arith, e, in_k)) (omega (arith, e))

    -- the rows up to that of the label
    this_rows : l < n → k < n → now_rows (suc l) ≡ with_index names one (old_rows (suc l))
    this_rows in_l in_k =
        flat_map-append (λ a. collect (now a) n) (every l) (l ∷ [])
        ∙ (λ i. low_rows l (omega arith) i ++ (whole_row in_l in_k i ++ []))
        ∙ ap (λ xs. old_rows l ++ xs) (sym (front (collect (old l) n) [] tt))
        ∙ sym (after (old_rows l) (collect (old l) n ++ []) (each_low l (omega arith) (omega (arith, in_l))))
        ∙ ap (with_index names one) (sym (flat_map-append (λ a. collect (old a) n) (every l) (l ∷ [])))

    -- and one more
    next_rows : (m : ℕ) → l < m → m < n → now_rows m ≡ with_index names one (old_rows m) → now_rows (suc m) ≡ with_index names one (old_rows (suc m))
    next_rows m gt lt before =
        flat_map-append (λ a. collect (now a) n) (every m) (m ∷ [])
        ∙ (λ i. before i ++ (other_row m (λ e. omega (arith, e, gt)) n i ++ []))
        ∙ sym (front (old_rows m) (collect (old m) n ++ []) (each_both true (collect (old m) n) [] (each_collect (old m) true n
        (λ y e low is. higher m y e lt low is (inl gt))) tt))
        ∙ ap (with_index names one) (sym (flat_map-append (λ a. collect (old a) n) (every m) (m ∷ [])))

    placed_rows : l < n → k < n → (m : ℕ) → l < m → m ≤ n → now_rows m ≡ with_index names one (old_rows m)
    placed_rows in_l in_k zero gt le = absurd (omega (arith, gt))
    placed_rows in_l in_k (suc m) gt le = ⊎_elim
        (λ (e : l ≡ m). subst (λ j. now_rows (suc j) ≡ with_index names one (old_rows (suc j))) e (this_rows in_l in_k))
        (λ (ne : l ≢ m). next_rows m (omega (arith, gt, ne)) (omega (arith, le)) (placed_rows in_l in_k m (omega (arith, gt, ne)) (omega (arith, le))))
        (nat_cases l m)

    pub table_placed : l < n → k < n → now_rows n ≡ with_index names one (old_rows n)
    table_placed in_l in_k = placed_rows in_l in_k n in_l (omega arith)
