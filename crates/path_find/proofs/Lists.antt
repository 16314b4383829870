-- Numbers and lists.
use Rattle.std.proofs.Common.{◌≡◌, ◌<◌, ◌⊎◌, inl, inr, ℕ, List, length, get_or, Contains, sym, ap, ◌∙◌, arith}
use Rattle.std.proofs.lemmas.Bool.{cases_lt}
use Rattle.std.proofs.lemmas.List.Elements.{at_from_Contains}

pub three_ways : (i j : ℕ) → (i < j) ⊎ ((i ≡ j) ⊎ (j < i))
three_ways i j = elim (cases_lt i j) [
  | inl lt ↦ inl lt
  | inr ge ↦ inr (elim (cases_lt j i) [ inl lt ↦ inr lt | inr le ↦ inl (omega arith) ])
]

-- elements of a list stand at one place, or at two
pub places : {X : Type 0} (P : Type 0) (xs : List X) (x y : X) → Contains xs x → Contains xs y
    → ((i j : ℕ) → i < j → j < length xs → ((d : X) → get_or xs i d ≡ x) → ((d : X) → get_or xs j d ≡ y) → P)
    → ((i j : ℕ) → i < j → j < length xs → ((d : X) → get_or xs i d ≡ y) → ((d : X) → get_or xs j d ≡ x) → P)
    → (x ≡ y → P) → P
places P xs x y first second before after same = by (at_from_Contains xs x first) (at_from_Contains xs y second)
  where
    by : (k : ℕ) × (k < length xs) × ((d : _) → get_or xs k d ≡ x) → (k : ℕ) × (k < length xs) × ((d : _) → get_or xs k d ≡ y) → P
    by a b = elim (three_ways a.0 b.0) [
      | inl lt ↦ before a.0 b.0 lt b.1 a.2 b.2
      | inr other ↦ elim other [
        | inl eq ↦ same (sym (a.2 x) ∙ ap (λ k. get_or xs k x) eq ∙ b.2 x)
        | inr gt ↦ after b.0 a.0 gt a.1 b.2 a.2
      ]
    ]
