-- Members of lists of identifiers, and lists in which none comes twice.
use Rattle.std.proofs.Common.{◌≡◌, ◌<◌, ◌+◌, ◌++◌, ◌⊎◌, ⊎_elim, inl, inr, ℕ, zero, suc, List, [], ◌∷◌, get_or, length}
use Rattle.std.proofs.Common.{drop, ap, ◌∙◌, append_assoc, arith, subst, refl}
use Rattle.store_rules.specs.Chains.{In}
use Rattle.store_rules.specs.Properties.{AreOnce}
use Rattle.prop_store.specs.BlockList.{AreBelow}

-- ---- members

pub in_left : (x : ℕ) (xs ys : List ℕ) → In x xs → In x (xs ++ ys)
in_left x [] ys i = elim i [ ]
in_left x (y ∷ xs) ys i = ⊎_elim (λ e. inl e) (λ j. inr (in_left x xs ys j)) i

pub in_right : (x : ℕ) (xs ys : List ℕ) → In x ys → In x (xs ++ ys)
in_right x [] ys i = i
in_right x (y ∷ xs) ys i = inr (in_right x xs ys i)

pub in_either : (x : ℕ) (xs ys : List ℕ) → In x (xs ++ ys) → In x xs ⊎ In x ys
in_either x [] ys i = inr i
in_either x (y ∷ xs) ys i = ⊎_elim (λ e. inl (inl e)) (λ j. ⊎_elim (λ k. inl (inr k)) (λ k. inr k) (in_either x xs ys j)) i

-- the element at an index
pub in_at : (xs : List ℕ) (i : ℕ) → i < length xs → In (get_or xs i 0) xs
in_at [] i lt = absurd (omega (arith, lt))
in_at (x ∷ xs) zero lt = inl refl
in_at (x ∷ xs) (suc i) lt = inr (in_at xs i (omega (arith, lt)))

-- what is left from an index on
pub drop_step : (xs : List ℕ) (i j : ℕ) → j ≡ i + 1 → i < length xs → drop i xs ≡ get_or xs i 0 ∷ drop j xs
drop_step xs i j e lt = let same : suc i ≡ j = omega (arith, e) in subst (λ k. drop i xs ≡ get_or xs i 0 ∷ drop k xs) same (next xs i lt)
  where
    next : (xs : List ℕ) (i : ℕ) → i < length xs → drop i xs ≡ get_or xs i 0 ∷ drop (suc i) xs
    next [] i lt = absurd (omega (arith, lt))
    next (x ∷ xs) zero lt = refl
    next (x ∷ xs) (suc i) lt = next xs i (omega (arith, lt))

-- ---- all below a mark

pub below_more : (mark : ℕ) (xs ys : List ℕ) (at : ℕ) → AreBelow mark xs → at < mark → ys ≡ xs ++ at ∷ [] → AreBelow mark ys
below_more mark xs ys at h small e x i = ⊎_elim (λ j. h x j) (λ j. ⊎_elim (λ (q : x ≡ at). omega (arith, q, small)) (λ k. elim k [ ]) j)
    (in_either x xs (at ∷ []) (subst (λ z. In x z) e i))

-- ---- none twice

pub record Once (xs ys : List ℕ) : Type 0 where
  pub left : AreOnce xs
  pub right : AreOnce ys
  pub apart : (x : ℕ) → In x xs → In x ys → ⊥

pub once_split : (xs ys : List ℕ) → AreOnce (xs ++ ys) → Once xs ys
once_split [] ys h = record { left = tt; right = h; apart = λ x i j. i }
once_split (x ∷ xs) ys h =
    let r = once_split xs ys h.1 in
    record {
      left = ((λ i. h.0 (in_left x xs ys i)), r.left);
      right = r.right;
      apart = λ y i j. ⊎_elim
          (λ (e : y ≡ x). h.0 (in_right x xs ys (subst (λ z. In z ys) e j))) (λ k. r.apart y k j) i;
    }

pub once_join : (xs ys : List ℕ) → AreOnce xs → AreOnce ys → ((x : ℕ) → In x xs → In x ys → ⊥) → AreOnce (xs ++ ys)
once_join [] ys h k apart = k
once_join (x ∷ xs) ys h k apart = (
  (λ i. ⊎_elim (λ j. h.0 j) (λ j. apart x (inl refl) j) (in_either x xs ys i)),
  once_join xs ys h.1 k (λ y i j. apart y (inr i)
      j),
)

-- the middle of a list left out
pub once_without : (xs ys zs : List ℕ) → AreOnce (xs ++ (ys ++ zs)) → AreOnce (xs ++ zs)
once_without xs ys zs h =
    let s = once_split xs (ys ++ zs) h in
    let t = once_split ys zs s.right in
    once_join xs zs s.left t.right (λ x i j. s.apart x i (in_right x ys zs j))

-- one more after some, and what comes after both
pub append_one : (xs : List ℕ) (x : ℕ) (ys zs whole : List ℕ) → zs ≡ xs ++ x ∷ [] → xs ++ x ∷ ys ≡ whole → zs ++ ys ≡ whole
append_one xs x ys zs whole e h = ap (λ z. z ++ ys) e ∙ append_assoc xs (x ∷ []) ys ∙ h
