-- A walk of a list, so far: some members were passed, and the others are left.
use Rattle.std.proofs.Common.{◌≡◌, ◌≢◌, ℕ, ◌+◌, ◌≤◌, List, [], ◌∷◌, ◌++◌, length, refl, ap, sym, ◌∙◌, subst, inl, inr}
use Rattle.std.proofs.Common.{arith, append_assoc, append-nil, length-append}
use Rattle.rec_bytes.specs.Format as format
use Rattle.store_rules.specs.Chains.{In, IsWalk}

pub record IsWalked (next : ℕ → ℕ) (all : List ℕ) (at : ℕ) (passed : List ℕ) : Type 0 where
  pub rest : List ℕ
  pub walk : IsWalk next at rest
  pub parts : all ≡ passed ++ rest

-- at first all are left
pub walk_begins : (next : ℕ → ℕ) (all : List ℕ) (at : ℕ) → IsWalk next at all → IsWalked next all at []
walk_begins next all at walk = record { rest = all; walk = walk; parts = refl }

in_later : (x : ℕ) (xs ys : List ℕ) → In x ys → In x (xs ++ ys)
in_later x [] ys i = i
in_later x (y ∷ xs) ys i = inr (in_later x xs ys i)

module _ (next : ℕ → ℕ) (all : List ℕ) (at : ℕ) (passed : List ℕ) (h : IsWalked next all at passed) where
  -- none is left at the end
  pub walk_over : at ≡ format.nil → passed ≡ all
  walk_over end = by h.rest h.walk h.parts
    where
      by : (rest : List ℕ) → IsWalk next at rest → all ≡ passed ++ rest → passed ≡ all
      by [] walk parts = sym (parts ∙ append-nil passed)
      by (y ∷ ys) walk parts = absurd (walk.1 (sym walk.0 ∙ end))

  -- else the next one is one of them
  pub walk_here : at ≢ format.nil → In at all × (length passed + 1 ≤ length all)
  walk_here some = by h.rest h.walk h.parts
    where
      by : (rest : List ℕ) → IsWalk next at rest → all ≡ passed ++ rest → In at all × (length passed + 1 ≤ length all)
      by [] walk parts = absurd (some walk)
      by (y ∷ ys) walk parts =
          let lengths : length all ≡ length passed + length (y ∷ ys) = ap length parts ∙ length-append passed (y ∷ ys) in
          (subst (In at) (sym parts) (in_later at passed (y ∷ ys) (inl walk.0)), omega (arith, lengths))

  -- and it is passed
  pub walk_on : (to : ℕ) → at ≢ format.nil → to ≡ next at → IsWalked next all to (passed ++ at ∷ [])
  walk_on to some after = by h.rest h.walk h.parts
    where
      by : (rest : List ℕ) → IsWalk next at rest → all ≡ passed ++ rest → IsWalked next all to (passed ++ at ∷ [])
      by [] walk parts = absurd (some walk)
      by (y ∷ ys) walk parts = record {
        rest = ys;
        walk = subst (λ n. IsWalk next n ys) (ap next (sym walk.0) ∙ sym after) walk.2;
        parts = parts ∙ ap (λ z. passed ++ z ∷ ys) (sym walk.0) ∙ sym (append_assoc passed (at ∷ []) ys);
      }

  -- where as many were passed as there are, the walk has ended
  pub walk_ends : length all ≤ length passed → at ≡ format.nil
  walk_ends many = by h.rest h.walk h.parts
    where
      by : (rest : List ℕ) → IsWalk next at rest → all ≡ passed ++ rest → at ≡ format.nil
      by [] walk parts = walk
      by (y ∷ ys) walk parts =
          let lengths : length all ≡ length passed + length (y ∷ ys) = ap length parts ∙ length-append passed (y ∷ ys) in
          absurd (omega (arith, lengths))
