use Rattle.std.proofs.Common.{◌≡◌, ◌∙◌, ℕ, nat_eq, Bool, true, false, ◌||◌, List, [], ◌∷◌, inl, inr, ⊎_elim, refl, sym, arith}
use Rattle.std.proofs.lemmas.Bool.Decides.{nat_tests}
use Rattle.std.specs.List.{list_any}
use Rattle.store_rules.specs.Chains.{In}
use Rattle.store_rules.proofs.NumberLaws.{eq_true}
use Rattle.group_store.proofs.moved.has.Goals as goal

same_number : (a b : ℕ) → nat_eq a b ≡ true → a ≡ b
same_number a b e = grind (arith, nat_tests)

is_in : (x : ℕ) (xs : List ℕ) → list_any (λ y. nat_eq y x) xs ≡ true → In x xs
is_in x [] e = absurd cc
is_in x (y ∷ ys) e = by (nat_eq y x) refl (λ k. is_in x ys k) e
  where
    by : (b : Bool) → nat_eq y x ≡ b → (list_any (λ z. nat_eq z x) ys ≡ true → In x ys) → (b || list_any (λ z. nat_eq z x) ys) ≡ true → In x (y ∷ ys)
    by true same later k = inl (sym (same_number y x same))
    by false same later k = inr (later k)

is_any : (x : ℕ) (xs : List ℕ) → In x xs → list_any (λ y. nat_eq y x) xs ≡ true
is_any x [] i = absurd i
is_any x (y ∷ ys) i = by (nat_eq y x) refl (λ j. is_any x ys j)
  where
    by : (b : Bool) → nat_eq y x ≡ b → (In x ys → list_any (λ z. nat_eq z x) ys ≡ true) → (b || list_any (λ z. nat_eq z x) ys) ≡ true
    by true same later = refl
    by false same later = ⊎_elim (λ e. absurd (let k : true ≡ false = sym (eq_true y x (sym e)) ∙ same in cc)) later i

pub returns : goal.returns
returns c = (
  λ e. is_in c.args.id c.args.ids.now (sym c.contains.ensures.value ∙ e),
  λ i. c.contains.ensures.value ∙ is_any c.args.id c.args.ids.now i,
)
