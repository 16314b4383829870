-- Laws of membership, and of lists in which no number comes twice.
use Rattle.std.proofs.Common.{◌≡◌, ◌≢◌, ◌⊎◌, ℕ, suc, ◌≤◌, nat_eq, cond, List, [], ◌∷◌, ◌++◌, length, map, sym, ap, ◌∙◌, subst, inl, inr, ⊎_elim, arith, refl}
use Rattle.std.specs.List.{flat_map}
use Rattle.store_rules.specs.Chains.{In, IsWalk}
use Rattle.store_rules.specs.Properties.{AreOnce}
use Rattle.store_rules.proofs.ChainLaws.{head_once}
use Rattle.store_rules.proofs.NumberLaws.{eq_false, eq_true, nat_cases}

-- ---- membership

-- a member of a list is one of the two lists together
pub in_left : (x : ℕ) (xs ys : List ℕ) → In x xs → In x (xs ++ ys)
in_left x [] ys i = elim i [ ]
in_left x (y ∷ xs) ys (inl e) = inl e
in_left x (y ∷ xs) ys (inr i) = inr (in_left x xs ys i)

pub in_right : (x : ℕ) (xs ys : List ℕ) → In x ys → In x (xs ++ ys)
in_right x [] ys i = i
in_right x (y ∷ xs) ys i = inr (in_right x xs ys i)

-- and a member of the two together is one of either
pub in_parts : (x : ℕ) (xs ys : List ℕ) → In x (xs ++ ys) → In x xs ⊎ In x ys
in_parts x [] ys i = inr i
in_parts x (y ∷ xs) ys (inl e) = inl (inl e)
in_parts x (y ∷ xs) ys (inr i) = ⊎_elim (λ k. inl (inr k)) (λ k. inr k) (in_parts x xs ys i)

-- a member of a list that a function made comes from one
pub map_in : (f : ℕ → ℕ) (x : ℕ) (ps : List ℕ) → In x (map f ps) → (p : ℕ) × In p ps × (x ≡ f p)
map_in f x [] i = elim i [ ]
map_in f x (q ∷ ps) (inl e) = (q, inl refl, e)
map_in f x (q ∷ ps) (inr i) = let r = map_in f x ps i in (r.0, inr r.1, r.2)

-- what a list of a member has is among what all have
pub in_flat_map : (f : ℕ → List ℕ) (x p : ℕ) (ps : List ℕ) → In p ps → In x (f p) → In x (flat_map f ps)
in_flat_map f x p [] k i = elim k [ ]
in_flat_map f x p (q ∷ ps) (inl e) i = in_left x (f q) (flat_map f ps) (subst (λ z. In x (f z)) e i)
in_flat_map f x p (q ∷ ps) (inr k) i = in_right x (f q) (flat_map f ps) (in_flat_map f x p ps k i)

-- and what all have is in the list of a member
pub flat_map_in : (f : ℕ → List ℕ) (x : ℕ) (ps : List ℕ) → In x (flat_map f ps) → (p : ℕ) × In p ps × In x (f p)
flat_map_in f x [] i = elim i [ ]
flat_map_in f x (q ∷ ps) i = ⊎_elim (λ k. (q, inl refl, k)) (λ k. let r = flat_map_in f x ps k in (r.0, inr r.1, r.2)) (in_parts x (f q) (flat_map f ps) i)

-- ---- no number comes twice

-- of two lists that have nothing in common
pub once_both : (xs ys : List ℕ) → AreOnce xs → AreOnce ys → ((x : ℕ) → In x xs → In x ys → ⊥) → AreOnce (xs ++ ys)
once_both [] ys a b apart = b
once_both (x ∷ xs) ys a b apart =
    ((λ i. ⊎_elim a.0 (λ k. apart x (inl refl) k) (in_parts x xs ys i)), once_both xs ys a.1 b (λ z i j. apart z (inr i) j))

-- of a list that a function made, which tells its members apart
pub once_map : (f : ℕ → ℕ) (ps : List ℕ) → AreOnce ps → ((p q : ℕ) → In p ps → In q ps → f p ≡ f q → p ≡ q) → AreOnce (map f ps)
once_map f [] a same = tt
once_map f (p ∷ ps) a same = (
  (λ i. let r = map_in f (f p) ps i in a.0 (subst (λ z. In z ps) (sym (same p r.0 (inl refl) (inr r.1) r.2)) r.1)),
  once_map f ps a.1
      (λ q z i j. same q z (inr i) (inr j)),
)

-- of lists that have nothing in common, one after the other
pub once_flat_map : (f : ℕ → List ℕ) (ps : List ℕ) → AreOnce ps → ((p : ℕ) → In p ps → AreOnce (f p))
    → ((p q x : ℕ) → In p ps → In q ps → In x (f p) → In x (f q) → p ≡ q) → AreOnce (flat_map f ps)
once_flat_map f [] a each same = tt
once_flat_map f (p ∷ ps) a each same = once_both (f p) (flat_map f ps) (each p (inl refl))
    (once_flat_map f ps a.1 (λ q i. each q (inr i)) (λ q z x i j. same q z x (inr i) (inr j)))
    (λ x i j. let r = flat_map_in f x ps j in a.0 (subst (λ z. In z ps) (sym (same p r.0 x (inl refl) (inr r.1) i r.2)) r.1))

-- a walk that ends meets no number twice
pub once_walk : (next : ℕ → ℕ) (from : ℕ) (xs : List ℕ) → IsWalk next from xs → AreOnce xs
once_walk next from [] walk = tt
once_walk next from (x ∷ xs) walk = ((λ i. head_once next x xs walk.1 walk.2 i), once_walk next (next x) xs walk.2)

-- ---- how many there are

-- the list without the first place of a number
abbrev less_one : ℕ → List ℕ → List ℕ
less_one x [] = []
less_one x (y ∷ ys) = cond (nat_eq x y) ys (y ∷ less_one x ys)

-- it is shorter by one
length-less_one : (x : ℕ) (ys : List ℕ) → In x ys → suc (length (less_one x ys)) ≡ length ys
length-less_one x [] i = elim i [ ]
length-less_one x (y ∷ ys) i = ⊎_elim
    (λ (e : x ≡ y). rw (eq_true x y e) refl)
    (λ (ne : x ≢ y). rw (eq_false x y ne) (ap suc (length-less_one x ys (⊎_elim (λ e. absurd (ne e)) (λ k. k) i)))) (nat_cases x y)

-- and the other members are still there
in_less_one : (x z : ℕ) (ys : List ℕ) → In z ys → z ≢ x → In z (less_one x ys)
in_less_one x z [] i ne = i
in_less_one x z (y ∷ ys) i ne = ⊎_elim
    (λ (e : x ≡ y). rw (eq_true x y e) (⊎_elim (λ k. absurd (ne (k ∙ sym e))) (λ k. k) i))
    (λ (other : x ≢ y). rw (eq_false x y other) (⊎_elim (λ k. inl k) (λ k. inr (in_less_one x z ys k ne)) i)) (nat_cases x y)

-- A list in which no number comes twice is no longer than one that has its members.
pub length_once : (xs ys : List ℕ) → AreOnce xs → ((x : ℕ) → In x xs → In x ys) → length xs ≤ length ys
length_once [] ys a all = omega arith
length_once (x ∷ xs) ys a all =
    let rest = length_once xs (less_one x ys) a.1 (λ z i. in_less_one x z ys (all z (inr i)) (λ e. a.0 (subst (λ q. In q xs) e i))) in
    let e = length-less_one x ys (all x (inl refl)) in
    omega arith

-- Two of them with the same members are equally long.
pub length_same : (xs ys : List ℕ) → AreOnce xs → AreOnce ys → ((x : ℕ) → In x xs → In x ys) → ((x : ℕ) → In x ys → In x xs) → length xs ≡ length ys
length_same xs ys a b there back = let l = length_once xs ys a there in let r = length_once ys xs b back in omega arith
