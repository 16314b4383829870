-- One row changed in place, and one row found.
use Rattle.std.proofs.Common.{◌≡◌, ◌≢◌, ℕ, zero, suc, ◌<◌, ◌≤◌, nat_eq, Bool, true, false, cond, Option, None, Some}
use Rattle.std.proofs.Common.{List, [], ◌∷◌, ◌++◌, find, option_map, sym, ap, ◌∙◌, ⊎_elim, arith, refl}
use Rattle.std.proofs.lemmas.List.{map-append}
use Rattle.plain_graph.specs.Graph.{with_change}
use Rattle.store_rules.specs.Rows.{option_list, collect}
use Rattle.store_rules.proofs.NumberLaws.{eq_false, eq_true, nat_cases}
use Rattle.store_rules.proofs.RowLaws.{AreNumbered}

module _ {E : Type 0} (of : E → ℕ) where
  -- the rows with one changed are the changed rows
  pub collect_changed : (row now : ℕ → Option E) (n id : ℕ) (change : E → E) → AreNumbered of row → now id ≡ option_map change (row id)
      → ((x : ℕ) → x ≢ id → now x ≡ row x)
      → collect now n ≡ with_change of id change (collect row n)
  collect_changed row now zero id change num here other = refl
  collect_changed row now (suc n) id change num here other =
      ap (λ xs. xs ++ option_list (now n)) (collect_changed row now n id change num here other)
      ∙ ap (λ xs. with_change of id change (collect row n) ++ xs) last
      ∙ sym (map-append (λ e. cond (nat_eq (of e) id) (change e) e) (collect row n) (option_list (row n)))
    where
      same : (o : Option E) → ((e : E) → o ≡ Some e → of e ≢ id) → option_list o ≡ with_change of id change (option_list o)
      same None apart = refl
      same (Some e) apart = rw (eq_false (of e) id (apart e refl)) refl

      changed : (o : Option E) → ((e : E) → o ≡ Some e → of e ≡ id) → option_list (option_map change o) ≡ with_change of id change (option_list o)
      changed None is = refl
      changed (Some e) is = rw (eq_true (of e) id (is e refl)) refl

      last : option_list (now n) ≡ with_change of id change (option_list (row n))
      last = ⊎_elim
          (λ (k : n ≡ id). ap option_list (ap now k ∙ here ∙ ap (λ z. option_map change (row z)) (sym k)) ∙ changed (row n) (λ e q. num n e q ∙ k))
          (λ (k : n ≢ id). ap option_list (other n k) ∙ same (row n) (λ e q z. k (sym (num n e q) ∙ z))) (nat_cases n id)

  -- the first of two that is there
  abbrev one_of : Option E → Option E → Option E
  one_of None o = o
  one_of (Some e) o = Some e

  -- what is found in two lists is found in the first of them, or in the second
  find-append : (test : E → Bool) (xs ys : List E) → find test (xs ++ ys) ≡ one_of (find test xs) (find test ys)
  find-append test [] ys = refl
  find-append test (x ∷ xs) ys = on (test x) (find-append test xs ys)
    where
      on : (b : Bool) → find test (xs ++ ys) ≡ one_of (find test xs) (find test ys)
          → cond b (Some x) (find test (xs ++ ys)) ≡ one_of (cond b (Some x) (find test xs)) (find test ys)
      on true h = refl
      on false h = h

  -- a number at the mark or past it is none of the rows
  find_past : (row : ℕ → Option E) (n id : ℕ) → AreNumbered of row → n ≤ id → find (λ e. nat_eq (of e) id) (collect row n) ≡ None
  find_past row zero id num le = refl
  find_past row (suc n) id num le = find-append (λ e. nat_eq (of e) id) (collect row n) (option_list (row n))
      ∙ ap (λ o. one_of o (find (λ e. nat_eq (of e) id) (option_list (row n)))) (find_past row n id num (omega arith)) ∙ last (row n) (λ e q. num n e q)
    where
      last : (o : Option E) → ((e : E) → o ≡ Some e → of e ≡ n) → find (λ e. nat_eq (of e) id) (option_list o) ≡ None
      last None is = refl
      last (Some e) is = rw (eq_false (of e) id (let k = is e refl in λ z. omega arith)) refl

  -- the row of a number below the mark is the one that is found
  pub find_collect : (row : ℕ → Option E) (n id : ℕ) → AreNumbered of row → id < n → find (λ e. nat_eq (of e) id) (collect row n) ≡ row id
  find_collect row zero id num lt = absurd (omega arith)
  find_collect row (suc n) id num lt = find-append (λ e. nat_eq (of e) id) (collect row n) (option_list (row n)) ∙ ⊎_elim
      (λ (k : id ≡ n). ap (λ o. one_of o (find (λ e. nat_eq (of e) id) (option_list (row n)))) (find_past row n id num (omega arith)) ∙ here (row n)
      (λ e q. num n e q ∙ sym k) ∙ ap row (sym k))
      (λ (k : id ≢ n). ap (λ o. one_of o (find (λ e. nat_eq (of e) id) (option_list (row n)))) (find_collect row n id num (omega arith)) ∙ there (row id)
      (row n) (λ e q z. k (sym z ∙ num n e q)))
      (nat_cases id n)
    where
      here : (o : Option E) → ((e : E) → o ≡ Some e → of e ≡ id) → find (λ e. nat_eq (of e) id) (option_list o) ≡ o
      here None is = refl
      here (Some e) is = rw (eq_true (of e) id (is e refl)) refl

      there : (o last : Option E) → ((e : E) → last ≡ Some e → of e ≢ id) → one_of o (find (λ e. nat_eq (of e) id) (option_list last)) ≡ o
      there (Some e) last apart = refl
      there None None apart = refl
      there None (Some e) apart = rw (eq_false (of e) id (apart e refl)) refl
