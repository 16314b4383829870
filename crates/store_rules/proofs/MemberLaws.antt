-- Laws of what is in a list, and of the numbers that its elements have.
use Rattle.std.proofs.Common.{◌≡◌, ◌≢◌, ◌⊎◌, ℕ, List, [], ◌∷◌, ◌++◌, map, ap, subst, inl, inr, ⊎_elim, refl}
use Rattle.std.specs.List.{flat_map}
use Rattle.store_rules.specs.Chains.{In}
use Rattle.store_rules.specs.Properties.{AreOnce}
use Rattle.store_rules.proofs.NumberLaws.{nat_cases}
use Rattle.store_rules.proofs.OnceLaws.{in_left, in_parts, in_right}

-- a number is in a list, or isn't
pub in_cases : (x : ℕ) (xs : List ℕ) → In x xs ⊎ (¬ In x xs)
in_cases x [] = inr (λ i. i)
in_cases x (y ∷ ys) = ⊎_elim
    (λ (e : x ≡ y). inl (inl e))
    (λ (ne : x ≢ y). ⊎_elim (λ (i : In x ys). inl (inr i)) (λ (out : ¬ In x ys). inr (λ i. ⊎_elim ne out i)) (in_cases x ys)) (nat_cases x y)

module _ {E : Type 0} where
  -- the element is one of the list
  abbrev pub Among : E → List E → Type 0
  Among e [] = ⊥
  Among e (f ∷ fs) = (e ≡ f) ⊎ Among e fs

  -- its number is one of their numbers
  pub in_map : (of : E → ℕ) (e : E) (es : List E) → Among e es → In (of e) (map of es)
  in_map of e [] i = elim i [ ]
  in_map of e (d ∷ es) (inl k) = inl (ap of k)
  in_map of e (d ∷ es) (inr i) = inr (in_map of e es i)

  -- a number among theirs is that of one of them
  pub map_in : (of : E → ℕ) (x : ℕ) (es : List E) → In x (map of es) → (e : E) × Among e es × (x ≡ of e)
  map_in of x [] i = elim i [ ]
  map_in of x (d ∷ es) (inl k) = (d, inl refl, k)
  map_in of x (d ∷ es) (inr i) = let r = map_in of x es i in (r.0, inr r.1, r.2)

  -- and what it lists is among what they list
  pub in_flat_map : (of : E → List ℕ) (x : ℕ) (e : E) (es : List E) → Among e es → In x (of e) → In x (flat_map of es)
  in_flat_map of x e [] k i = elim k [ ]
  in_flat_map of x e (d ∷ es) (inl k) i = in_left x (of d) (flat_map of es) (subst (λ z. In x (of z)) k i)
  in_flat_map of x e (d ∷ es) (inr k) i = in_right x (of d) (flat_map of es) (in_flat_map of x e es k i)

  -- what is among what they list is in the list of one of them
  pub flat_map_in : (of : E → List ℕ) (x : ℕ) (es : List E) → In x (flat_map of es) → (e : E) × Among e es × In x (of e)
  flat_map_in of x [] i = elim i [ ]
  flat_map_in of x (d ∷ es) i = ⊎_elim (λ k. (d, inl refl, k)) (λ k. let r = flat_map_in of x es k in (r.0, inr r.1, r.2))
      (in_parts x (of d) (flat_map of es) i)

-- what no number comes twice in has none in both its parts
pub once_apart : (x : ℕ) (xs ys : List ℕ) → AreOnce (xs ++ ys) → In x xs → In x ys → ⊥
once_apart x [] ys h i j = elim i [ ]
once_apart x (y ∷ xs) ys h (inl e) j = h.0 (subst (λ z. In z (xs ++ ys)) e (in_right x xs ys j))
once_apart x (y ∷ xs) ys h (inr i) j = once_apart x xs ys h.1 i j

-- and no number comes twice in the second part
pub once_right : (xs ys : List ℕ) → AreOnce (xs ++ ys) → AreOnce ys
once_right [] ys h = h
once_right (x ∷ xs) ys h = once_right xs ys h.1
