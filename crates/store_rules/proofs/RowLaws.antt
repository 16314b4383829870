-- One row more, one row less.
use Rattle.std.proofs.Common.{◌≡◌, ◌≢◌, ◌⊎◌, ℕ, zero, suc, ◌+◌, ◌<◌, ◌≤◌, nat_lt, nat_eq, Bool, true, false, not, cond}
use Rattle.std.proofs.Common.{◌||◌, Option, None, Some, List, [], ◌∷◌, ◌++◌, length, sym, ap, ◌∙◌, subst, ⊎_elim, arith}
use Rattle.std.proofs.Common.{refl}
use Rattle.std.specs.List.{filter, list_any}
use Rattle.std.proofs.lemmas.Bool.Decides.{nat_tests}
use Rattle.plain_graph.specs.Graph.{with_row}
use Rattle.store_rules.specs.Rows.{option_list, collect}
use Rattle.store_rules.proofs.NumberLaws.{eq_true, nat_cases, lt_true, lt_false}

pub append_none : {E : Type 0} (xs : List E) → xs ++ [] ≡ xs
append_none [] = refl
append_none (x ∷ xs) = ap (λ ys. x ∷ ys) (append_none xs)

module _ {E : Type 0} (of : E → ℕ) where
  -- each of the list is below a number
  abbrev pub Below : ℕ → List E → Type 0
  Below n [] = Unit {0}
  Below n (x ∷ xs) = (of x < n) × Below n xs

  insert_last : (e : E) (xs : List E) → Below (of e) xs → with_row of e xs ≡ xs ++ e ∷ []
  insert_last e [] h = refl
  insert_last e (x ∷ xs) h = rw (lt_false (of e) (of x) (omega (arith, h.0))) (ap (λ ys. x ∷ ys) (insert_last e xs h.1))

  insert_before : (e f : E) (xs : List E) → of e < of f → with_row of e (xs ++ f ∷ []) ≡ with_row of e xs ++ f ∷ []
  insert_before e f [] lt = rw (lt_true (of e) (of f) lt) refl
  insert_before e f (x ∷ xs) lt = on (nat_lt (of e) (of x)) (insert_before e f xs lt)
    where
      on : (t : Bool) → with_row of e (xs ++ f ∷ []) ≡ with_row of e xs ++ f ∷ []
          → cond t (e ∷ x ∷ (xs ++ f ∷ [])) (x ∷ with_row of e (xs ++ f ∷ [])) ≡ cond t (e ∷ x ∷ xs) (x ∷ with_row of e xs) ++ f ∷ []
      on true h = refl
      on false h = ap (λ ys. x ∷ ys) h

  below_more : (n m : ℕ) (xs : List E) → n ≤ m → Below n xs → Below m xs
  below_more n m [] le h = tt
  below_more n m (x ∷ xs) le h = (omega (arith, h.0), below_more n m xs le h.1)

  below_both : (n : ℕ) (xs ys : List E) → Below n xs → Below n ys → Below n (xs ++ ys)
  below_both n [] ys h k = k
  below_both n (x ∷ xs) ys h k = (h.0, below_both n xs ys h.1 k)

  -- each row has its own number
  abbrev pub AreNumbered : (ℕ → Option E) → Type 0
  AreNumbered row = (x : ℕ) (e : E) → row x ≡ Some e → of e ≡ x

  below_option : (n : ℕ) (o : Option E) → ((e : E) → o ≡ Some e → of e ≡ n) → Below (n + 1) (option_list o)
  below_option n None h = tt
  below_option n (Some e) h = (let is = h e refl in omega arith, tt)

  pub below_collect : (row : ℕ → Option E) (n : ℕ) → AreNumbered row → Below n (collect row n)
  below_collect row zero h = tt
  below_collect row (suc n) h = below_both (suc n) (collect row n) (option_list (row n))
      (below_more n (suc n) (collect row n) (omega arith) (below_collect row n h))
      (let b = below_option n (row n) (λ e k. h n e k) in below_more (n + 1) (suc n) (option_list (row n)) (omega arith) b)

  pub collect_same : (row now : ℕ → Option E) (n : ℕ) → ((x : ℕ) → x < n → now x ≡ row x) → collect now n ≡ collect row n
  collect_same row now zero h = refl
  collect_same row now (suc n) h = ap (λ xs. xs ++ option_list (now n)) (collect_same row now n (λ x lt. h x (omega arith)))
      ∙ ap (λ o. collect row n ++ option_list o) (h n (omega arith))

  -- one more row
  pub collect_with : (row now : ℕ → Option E) (n id : ℕ) (e : E) → AreNumbered row → of e ≡ id → row id ≡ None → now id ≡ Some e
      → ((x : ℕ) → x < n → x ≢ id → now x ≡ row x) → id < n
      → collect now n ≡ with_row of e (collect row n)
  collect_with row now zero id e num is none some same lt = absurd (omega arith)
  collect_with row now (suc n) id e num is none some same lt = ⊎_elim
      (λ (k : id ≡ n).
      let there : now n ≡ Some e = subst (λ z. now z ≡ Some e) k some in
      let gone : row n ≡ None = subst (λ z. row z ≡ None) k none in
      ap (λ o. collect now n ++ option_list o) there
      ∙ ap (λ xs. xs ++ e ∷ []) (collect_same row now n (λ x b. same x (omega arith) (λ q. omega arith)))
      ∙ sym (insert_last e (collect row n) (subst (λ m. Below m (collect row n)) (sym (is ∙ k)) (below_collect row n num)))
      ∙ ap (with_row of e) (sym (append_none (collect row n)) ∙ ap (λ o. collect row n ++ option_list o) (sym gone)))
      (λ (k : id ≢ n).
      let here : now n ≡ row n = same n (omega arith) (λ q. k (sym q)) in
      ap (λ o. collect now n ++ option_list o) here
      ∙ ap (λ xs. xs ++ option_list (row n)) (collect_with row now n id e num is none some (λ x b ne. same x (omega arith) ne) (omega arith))
      ∙ last (row n) (λ f q. num n f q) (omega arith))
      (nat_cases id n)
    where
      last : (o : Option E) → ((f : E) → o ≡ Some f → of f ≡ n) → id < n
          → with_row of e (collect row n) ++ option_list o ≡ with_row of e (collect row n ++ option_list o)
      last None h b = append_none (with_row of e (collect row n)) ∙ ap (with_row of e) (sym (append_none (collect row n)))
      last (Some f) h b = sym (insert_before e f (collect row n) (let p = h f refl in omega arith))

  any_both : (test : E → Bool) (xs ys : List E) → list_any test xs ≡ false → list_any test ys ≡ false → list_any test (xs ++ ys) ≡ false
  any_both test [] ys h k = k
  any_both test (x ∷ xs) ys h k = on (test x) (λ q. any_both test xs ys q k) h
    where
      on : (t : Bool) → (list_any test xs ≡ false → list_any test (xs ++ ys) ≡ false) → (t || list_any test xs) ≡ false
          → (t || list_any test (xs ++ ys)) ≡ false
      on true f h = h
      on false f h = f h

  filter_both : (test : E → Bool) (xs ys : List E) → filter test (xs ++ ys) ≡ filter test xs ++ filter test ys
  filter_both test [] ys = refl
  filter_both test (x ∷ xs) ys = on (test x) (filter_both test xs ys)
    where
      on : (t : Bool) → filter test (xs ++ ys) ≡ filter test xs ++ filter test ys
          → cond t (x ∷ filter test (xs ++ ys)) (filter test (xs ++ ys)) ≡ cond t (x ∷ filter test xs) (filter test xs) ++ filter test ys
      on true h = ap (λ zs. x ∷ zs) h
      on false h = h

  abbrev pub is_other : ℕ → E → Bool
  is_other id e = not (nat_eq (of e) id)

  filter_below : (id : ℕ) (xs : List E) → Below id xs → filter (is_other id) xs ≡ xs
  filter_below id [] h = refl
  filter_below id (x ∷ xs) h = rw (other (of x) h.0) (ap (λ ys. x ∷ ys) (filter_below id xs h.1))
    where
      other : (a : ℕ) → a < id → nat_eq a id ≡ false
      other a lt = grind (arith, nat_tests)

  -- one row less
  pub collect_without : (row now : ℕ → Option E) (n id : ℕ) → AreNumbered row → now id ≡ None → ((x : ℕ) → x < n → x ≢ id → now x ≡ row x) → id < n
      → collect now n ≡ filter (is_other id) (collect row n)
  collect_without row now zero id num none same lt = absurd (omega arith)
  collect_without row now (suc n) id num none same lt = ⊎_elim
      (λ (k : id ≡ n).
      let gone : now n ≡ None = subst (λ z. now z ≡ None) k none in
      ap (λ o. collect now n ++ option_list o) gone ∙ append_none (collect now n)
      ∙ collect_same row now n (λ x b. same x (omega arith) (λ q. omega arith))
      ∙ sym (filter_below id (collect row n) (subst (λ m. Below m (collect row n)) (sym k) (below_collect row n num)))
      ∙ sym (append_none (filter (is_other id) (collect row n)))
      ∙ ap (λ xs. filter (is_other id) (collect row n) ++ xs) (sym (dropped (row n) (λ f q. num n f q ∙ sym k)))
      ∙ sym (filter_both (is_other id) (collect row n) (option_list (row n))))
      (λ (k : id ≢ n).
      let here : now n ≡ row n = same n (omega arith) (λ q. k (sym q)) in
      ap (λ o. collect now n ++ option_list o) here
      ∙ ap (λ xs. xs ++ option_list (row n)) (collect_without row now n id num none (λ x b ne. same x (omega arith) ne) (omega arith))
      ∙ ap (λ xs. filter (is_other id) (collect row n) ++ xs) (sym (kept (row n) (λ f q. num n f q) (omega arith)))
      ∙ sym (filter_both (is_other id) (collect row n) (option_list (row n))))
      (nat_cases id n)
    where
      same_eq : (a : ℕ) → a ≡ id → nat_eq a id ≡ true
      same_eq a e = grind (arith, nat_tests)

      other_eq : (a : ℕ) → id < a → nat_eq a id ≡ false
      other_eq a e = grind (arith, nat_tests)

      dropped : (o : Option E) → ((f : E) → o ≡ Some f → of f ≡ id) → filter (is_other id) (option_list o) ≡ []
      dropped None h = refl
      dropped (Some f) h = rw (same_eq (of f) (h f refl)) refl

      kept : (o : Option E) → ((f : E) → o ≡ Some f → of f ≡ n) → id < n → filter (is_other id) (option_list o) ≡ option_list o
      kept None h b = refl
      kept (Some f) h b = rw (other_eq (of f) (let p = h f refl in omega arith)) refl

  pub length-with_row : (e : E) (xs : List E) → length (with_row of e xs) ≡ length xs + 1
  length-with_row e [] = refl
  length-with_row e (x ∷ xs) = on (nat_lt (of e) (of x)) (length-with_row e xs)
    where
      on : (t : Bool) → length (with_row of e xs) ≡ length xs + 1 → length (cond t (e ∷ x ∷ xs) (x ∷ with_row of e xs)) ≡ length (x ∷ xs) + 1
      on true h = omega arith
      on false h = omega (arith, h)

  -- a row that comes at the mark or below it
  pub rows_with : (row now : ℕ → Option E) (n m id : ℕ) (e : E) → AreNumbered row → of e ≡ id → row id ≡ None → now id ≡ Some e
      → ((x : ℕ) → x ≢ id → now x ≡ row x) → id < m
      → (m ≡ n) ⊎ ((id ≡ n) × (m ≡ n + 1)) → collect now m ≡ with_row of e (collect row n)
  rows_with row now n m id e num is none some same lt way = ⊎_elim
      (λ (k : m ≡ n). subst (λ q. collect now m ≡ with_row of e (collect row q)) k (one m lt))
      (λ (k : (id ≡ n) × (m ≡ n + 1)). one m lt ∙ ap (with_row of e) (ap (collect row) (k.1 ∙ add n) ∙ gone n (subst (λ z. row z ≡ None) k.0 none)))
      way
    where
      add : (n : ℕ) → n + 1 ≡ suc n
      add n = omega arith

      gone : (n : ℕ) → row n ≡ None → collect row (suc n) ≡ collect row n
      gone n e = ap (λ o. collect row n ++ option_list o) e ∙ append_none (collect row n)

      one : (m : ℕ) → id < m → collect now m ≡ with_row of e (collect row m)
      one m lt = collect_with row now m id e num is none some (λ x b ne. same x ne) lt

  -- a number without a row is none of the list's
  pub fresh_collect : (row : ℕ → Option E) (n id : ℕ) → AreNumbered row → row id ≡ None → list_any (λ e. nat_eq (of e) id) (collect row n) ≡ false
  fresh_collect row zero id num none = refl
  fresh_collect row (suc n) id num none = either (collect row n) (option_list (row n)) (fresh_collect row n id num none)
      (on (row n) (λ e k. num n e k) (λ k. none_at k))
    where
      none_at : n ≡ id → row n ≡ None
      none_at k = subst (λ z. row z ≡ None) (sym k) none

      either : (xs ys : List E) → list_any (λ e. nat_eq (of e) id) xs ≡ false → list_any (λ e. nat_eq (of e) id) ys ≡ false
          → list_any (λ e. nat_eq (of e) id) (xs ++ ys) ≡ false
      either xs ys h k = any_both (λ e. nat_eq (of e) id) xs ys h k

      on : (o : Option E) → ((e : E) → o ≡ Some e → of e ≡ n) → (n ≡ id → o ≡ None) → list_any (λ e. nat_eq (of e) id) (option_list o) ≡ false
      on None h g = refl
      on (Some f) h g = rw (other (of f) (λ q. absurd (let p = h f refl in let z = g (sym p ∙ q) in cc))) refl
        where
          other : (a : ℕ) → a ≢ id → nat_eq a id ≡ false
          other a ne = grind (arith, nat_tests, ne)

  -- a row is among the list's
  pub there_collect : (row : ℕ → Option E) (n id : ℕ) (e : E) → of e ≡ id → row id ≡ Some e → id < n → list_any (λ x. nat_eq (of x) id) (collect row n) ≡ true
  there_collect row zero id e num some lt = absurd (omega arith)
  there_collect row (suc n) id e num some lt = ⊎_elim
      (λ (k : id ≡ n). right (collect row n) (option_list (row n)) (subst (λ o. list_any (λ x. nat_eq (of x) id) (option_list o) ≡ true)
      (sym (subst (λ z. row z ≡ Some e) k some)) (rw (eq_true (of e) id num) refl)))
      (λ (k : id ≢ n). left (collect row n) (option_list (row n)) (there_collect row n id e num some (omega arith)))
      (nat_cases id n)
    where
      left : (xs ys : List E) → list_any (λ x. nat_eq (of x) id) xs ≡ true → list_any (λ x. nat_eq (of x) id) (xs ++ ys) ≡ true
      left [] ys h = absurd cc
      left (x ∷ xs) ys h = on (nat_eq (of x) id) (left xs ys) h
        where
          on : (t : Bool) → (list_any (λ y. nat_eq (of y) id) xs ≡ true → list_any (λ y. nat_eq (of y) id) (xs ++ ys) ≡ true)
              → (t || list_any (λ y. nat_eq (of y) id) xs) ≡ true → (t || list_any (λ y. nat_eq (of y) id) (xs ++ ys)) ≡ true
          on true f h = refl
          on false f h = f h

      right : (xs ys : List E) → list_any (λ x. nat_eq (of x) id) ys ≡ true → list_any (λ x. nat_eq (of x) id) (xs ++ ys) ≡ true
      right [] ys h = h
      right (x ∷ xs) ys h = on (nat_eq (of x) id) (right xs ys h)
        where
          on : (t : Bool) → list_any (λ y. nat_eq (of y) id) (xs ++ ys) ≡ true → (t || list_any (λ y. nat_eq (of y) id) (xs ++ ys)) ≡ true
          on true h = refl
          on false h = h
