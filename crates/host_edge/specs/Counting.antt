-- When a call counts a fault.
use Rattle.std.specs.Prelude.{◌≡◌, ℕ, Result, OnOk, OnErr}
use Rattle.fault_count.specs.Cause.{raised}

-- The count of faults is raised where the call failed, and stays where it succeeded.
pub record CountsFailure {T E : Type 0} (before now : ℕ) (result : Result T E) : Type 0 where
  pub ok : OnOk result (now ≡ before)
  pub err : OnErr result (now ≡ raised before)
