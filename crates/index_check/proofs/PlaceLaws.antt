-- Places in a list of definitions, and numbers that stand for a definition and one of its lists.
use Rattle.std.proofs.Common.{◌≡◌, ℕ, zero, suc, ◌+◌, ◌*◌, ◌/◌, ◌%◌, ◌<◌, List, [], ◌∷◌, length, get_or, sym, ap, subst, inl, inr, arith, refl}
use Rattle.store_rules.specs.Chains.{In}
use Rattle.store_rules.specs.Properties.{AreOnce}

-- what stands at a place is a member
pub in_place : (xs : List ℕ) (i : ℕ) → i < length xs → In (get_or xs i 0) xs
in_place [] i lt = absurd (omega arith)
in_place (x ∷ xs) zero lt = inl refl
in_place (x ∷ xs) (suc i) lt = inr (in_place xs i (omega arith))

-- a member stands at a place
pub record HasPlace (x : ℕ) (xs : List ℕ) : Type 0 where
  pub place : ℕ
  pub low : place < length xs
  pub is : get_or xs place 0 ≡ x

pub place_of : (x : ℕ) (xs : List ℕ) → In x xs → HasPlace x xs
place_of x [] i = elim i [ ]
place_of x (y ∷ ys) (inl e) = record { place = 0; low = omega arith; is = sym e }
place_of x (y ∷ ys) (inr i) = let h = place_of x ys i in let low = h.low in record { place = suc h.place; low = omega arith; is = h.is }

-- of numbers none of which comes twice it is one place
pub place_once : (xs : List ℕ) → AreOnce xs → (i j : ℕ) → i < length xs → j < length xs → get_or xs i 0 ≡ get_or xs j 0 → i ≡ j
place_once [] once i j lt low e = absurd (omega arith)
place_once (x ∷ xs) once zero zero lt low e = refl
place_once (x ∷ xs) once zero (suc j) lt low e = absurd (once.0 (subst (λ z. In z xs) (sym e) (in_place xs j (omega arith))))
place_once (x ∷ xs) once (suc i) zero lt low e = absurd (once.0 (subst (λ z. In z xs) e (in_place xs i (omega arith))))
place_once (x ∷ xs) once (suc i) (suc j) lt low e = ap suc (place_once xs once.1 i j (omega arith) (omega arith) e)

-- ---- twelve numbers for each place, and 180

pub record IsSpread (m n k i c : ℕ) : Type 0 where
  pub below : k < m * n
  pub place : k / m ≡ i
  pub rest : k % m ≡ c

pub twelve_of : (n i c : ℕ) → i < n → c < 12 → IsSpread 12 n (12 * i + c) i c
twelve_of n i c lt low = record { below = omega arith; place = omega arith; rest = omega arith }

pub many_of : (n i c : ℕ) → i < n → c < 180 → IsSpread 180 n (180 * i + c) i c
many_of n i c lt low = record { below = omega arith; place = omega arith; rest = omega arith }

pub twelve_place : (n k : ℕ) → k < 12 * n → (k / 12 < n) × (k % 12 < 12)
twelve_place n k lt = (omega arith, omega arith)

pub many_place : (n k : ℕ) → k < 180 * n → (k / 180 < n) × (k % 180 < 180)
many_place n k lt = (omega arith, omega arith)

-- a number is told by its place and the rest
pub twelve_same : (k l : ℕ) → k / 12 ≡ l / 12 → k % 12 ≡ l % 12 → k ≡ l
twelve_same k l p q = omega arith

pub many_same : (k l : ℕ) → k / 180 ≡ l / 180 → k % 180 ≡ l % 180 → k ≡ l
many_same k l p q = omega arith
