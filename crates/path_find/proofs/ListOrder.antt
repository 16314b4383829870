-- Lists of numbers by the first place at which they differ.
use Rattle.std.proofs.Common.{◌≡◌, ◌<◌, ◌⊎◌, inl, inr, ℕ, List, [], ◌∷◌, ◌++◌, length, refl, ◌∙◌, arith}
use Rattle.plain_graph.specs.Walks.{IsNotAfter}

-- at that place the first list has the lesser number
abbrev pub IsEarlier : List ℕ → List ℕ → Type 0
IsEarlier [] other = ⊥
IsEarlier (x ∷ xs) [] = ⊥
IsEarlier (x ∷ xs) (y ∷ ys) = (x < y) ⊎ ((x ≡ y) × IsEarlier xs ys)

pub earlier-push : (xs ys : List ℕ) (x y : ℕ) → IsEarlier xs ys → IsEarlier (xs ++ x ∷ []) (ys ++ y ∷ [])
earlier-push [] ys x y h = absurd h
earlier-push (a ∷ xs) [] x y h = absurd h
earlier-push (a ∷ xs) (b ∷ ys) x y h = elim h [ inl lt ↦ inl lt | inr rest ↦ inr (rest.0, earlier-push xs ys x y rest.1) ]

pub earlier-last : (xs : List ℕ) (x y : ℕ) → x < y → IsEarlier (xs ++ x ∷ []) (xs ++ y ∷ [])
earlier-last [] x y lt = inl lt
earlier-last (a ∷ xs) x y lt = inr (refl, earlier-last xs x y lt)

pub not_after-push : (xs ys : List ℕ) (x : ℕ) → length xs ≡ length ys → IsNotAfter xs ys → IsNotAfter (xs ++ x ∷ []) (ys ++ x ∷ [])
not_after-push [] [] x same h = inr (refl, tt)
not_after-push [] (b ∷ ys) x same h = absurd (omega arith)
not_after-push (a ∷ xs) [] x same h = absurd h
not_after-push (a ∷ xs) (b ∷ ys) x same h = elim h [ inl lt ↦ inl lt | inr rest ↦ inr (rest.0, not_after-push xs ys x (omega arith) rest.1) ]

pub not_after-earlier : (xs ys zs : List ℕ) → IsEarlier xs ys → IsNotAfter ys zs → IsNotAfter xs zs
not_after-earlier [] ys zs h k = absurd h
not_after-earlier (x ∷ xs) [] zs h k = absurd h
not_after-earlier (x ∷ xs) (y ∷ ys) [] h k = absurd k
not_after-earlier (x ∷ xs) (y ∷ ys) (z ∷ zs) h k = elim h [
  | inl lt ↦ elim k [ inl below ↦ inl (omega arith) | inr rest ↦ let e = rest.0 in inl (omega (arith, e)) ]
  | inr first ↦ let same = first.0 in elim k [
    | inl below ↦ inl (omega (arith, same))
    | inr rest ↦ inr (first.0 ∙ rest.0, not_after-earlier xs ys zs first.1 rest.1)
  ]
]

-- lists in two parts, of which the first are as long
pub not_after-join : (xs ys us vs : List ℕ) → length xs ≡ length ys → IsNotAfter xs ys → (xs ≡ ys → IsNotAfter us vs) → IsNotAfter (xs ++ us) (ys ++ vs)
not_after-join [] [] us vs same h rest = rest refl
not_after-join [] (y ∷ ys) us vs same h rest = absurd (omega (arith, same))
not_after-join (x ∷ xs) [] us vs same h rest = absurd h
not_after-join (x ∷ xs) (y ∷ ys) us vs same h rest = elim h [
  | inl lt ↦ inl lt
  | inr first ↦ inr (first.0, not_after-join xs ys us vs (omega (arith, same)) first.1 (λ e. rest (λ i. first.0 i ∷ e i)))
]
