-- Counts that stand still at the end of their type, and the cause of a fault.
use Rattle.std.specs.Prelude.{ℕ, ◌+◌, ◌-◌, ◌^◌, ◌≤◌, min, Result, OnErr}

-- a count with one more, which stays at its last value
abbrev pub raised : ℕ → ℕ
raised count = min (count + 1) (2 ^ 64 - 1)

-- The count rose in a call, or it stood at its last value already.
abbrev pub Rose : ℕ → ℕ → Type 0
Rose before now = raised before ≤ now

-- A call doesn't lower its object's count of faults, and fails only where that count rose.
pub record HasCause {T E : Type 0} (before now : ℕ) (result : Result T E) : Type 0 where
  pub later : before ≤ now
  pub failed : OnErr result (Rose before now)
