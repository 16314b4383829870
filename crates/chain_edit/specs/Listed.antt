-- Heads whose chains together list what stands at each.
use Rattle.std.specs.Prelude.{◌≡◌, ◌≢◌, ◌⊎◌, ℕ}
use Rattle.store_rules.specs.Rules.{Head}
use Rattle.chain_edit.specs.Heads.{IsPlace}

-- heads are places, and each has one node
pub record AreHeads (owns : Head → ℕ → Type 0) : Type 0 where
  pub place : (head : Head) (node : ℕ) → owns head node → IsPlace head
  pub one_node : (head : Head) (n m : ℕ) → owns head n → owns head m → n ≡ m

-- one more stands at a head
abbrev pub with_one : (Head → ℕ → Type 0) → Head → ℕ → Head → ℕ → Type 0
with_one at head rel h x = at h x ⊎ ((h ≡ head) × (x ≡ rel))

-- one less stands at a head
abbrev pub without_one : (Head → ℕ → Type 0) → Head → ℕ → Head → ℕ → Type 0
without_one at head rel h x = at h x × (h ≡ head → x ≢ rel)
