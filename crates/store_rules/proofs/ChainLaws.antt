-- Laws of walks and chains.
use Rattle.std.proofs.Common.{◌≡◌, ◌≢◌, ℕ, zero, suc, ◌≤◌, List, [], ◌∷◌, length, sym, ap, ◌∙◌, subst, inl, inr, arith, refl}
use Rattle.rec_bytes.specs.Format.{nil}
use Rattle.store_rules.specs.Chains.{IsWalk, IsChain, In}
use Rattle.store_rules.specs.Properties.{followed}
use Rattle.store_rules.proofs.NumberLaws.{eq_false, eq_true}

-- a chain is a walk
pub walk_of_chain : (next prev : ℕ → ℕ) (b f : ℕ) (xs : List ℕ) → IsChain next prev b f xs → IsWalk next f xs
walk_of_chain next prev b f [] h = h
walk_of_chain next prev b f (x ∷ xs) h = (h.0, h.1, walk_of_chain next prev x (next x) xs h.3)

-- what is met from one on is determined
pub walk_same : (next : ℕ → ℕ) (f : ℕ) (xs ys : List ℕ) → IsWalk next f xs → IsWalk next f ys → length xs ≡ length ys
walk_same next f [] [] h k = refl
walk_same next f [] (y ∷ ys) h k = absurd (k.1 (sym k.0 ∙ h))
walk_same next f (x ∷ xs) [] h k = absurd (h.1 (sym h.0 ∙ k))
walk_same next f (x ∷ xs) (y ∷ ys) h k =
    let same : x ≡ y = sym h.0 ∙ k.0 in
    ap suc (walk_same next (next x) xs ys h.2 (subst (λ z. IsWalk next (next z) ys) (sym same) k.2))

-- the rest of a walk, from a member on
rest_from : (next : ℕ → ℕ) (f : ℕ) (xs : List ℕ) (x : ℕ) → IsWalk next f xs → In x xs → (zs : List ℕ) × IsWalk next x zs × (length zs ≤ length xs)
rest_from next f [] x h i = elim i [ ]
rest_from next f (y ∷ ys) x h (inl e) = (y ∷ ys, (e, h.1, h.2), omega arith)
rest_from next f (y ∷ ys) x h (inr i) = let r = rest_from next (next y) ys x h.2 i in (r.0, r.1, omega (arith, r.2))

-- no member comes again
pub head_once : (next : ℕ → ℕ) (x : ℕ) (xs : List ℕ) → x ≢ nil → IsWalk next (next x) xs → In x xs → ⊥
head_once next x xs there h i =
    let r = rest_from next (next x) xs x h i in
    let same = walk_same next x (x ∷ xs) r.0 (refl, there, h) r.1 in
    omega (arith, r.2)

-- a chain whose links stay stays
pub chain_stays : (next prev next' prev' : ℕ → ℕ) (b f : ℕ) (xs : List ℕ)
    → ((x : ℕ) → In x xs → next' x ≡ next x) → ((x : ℕ) → In x xs → prev' x ≡ prev x)
    → IsChain next prev b f xs → IsChain next' prev' b f xs
chain_stays next prev next' prev' b f [] n p h = h
chain_stays next prev next' prev' b f (x ∷ xs) n p h =
    let rest = chain_stays next prev next' prev' x (next x) xs (λ y i. n y (inr i)) (λ y i. p y (inr i)) h.3 in
    (h.0, h.1, p x (inl refl) ∙ h.2, subst (λ from. IsChain next' prev' x from xs) (sym (n x (inl refl))) rest)

-- a walk whose links stay stays
pub walk_stays : (next next' : ℕ → ℕ) (f : ℕ) (xs : List ℕ) → ((x : ℕ) → In x xs → next' x ≡ next x) → IsWalk next f xs → IsWalk next' f xs
walk_stays next next' f [] n h = h
walk_stays next next' f (x ∷ xs) n h = (
  h.0,
  h.1,
  subst (λ from. IsWalk next' from xs) (sym (n x (inl refl))) (walk_stays next next' (next x) xs
      (λ y i. n y (inr i)) h.2),
)

-- the links that a walk follows lead through it, where it is no longer than what is asked
pub followed-walk : (n : ℕ) (next : ℕ → ℕ) (from : ℕ) (xs : List ℕ) → IsWalk next from xs → length xs ≤ n → followed n next from ≡ xs
unfolding followed
followed-walk zero next from [] walk few = refl
followed-walk zero next from (x ∷ xs) walk few = absurd (omega arith)
followed-walk (suc n) next from [] walk few = rw (eq_true from nil walk) refl
followed-walk (suc n) next from (x ∷ xs) walk few =
    rw (eq_false from nil (λ e. walk.1 (sym walk.0 ∙ e))) (λ i. walk.0 i ∷ (ap (λ z. followed n next (next z)) walk.0 ∙ followed-walk n next (next x) xs walk.2
    (omega arith)) i)
