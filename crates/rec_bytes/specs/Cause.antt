-- What is true of a disk that is blamed.
use Rattle.std.specs.Prelude.{ℕ, ◌≤◌, Result, IsErrOf}
use Rattle.fault_count.specs.Cause.{Rose}

-- The disk is blamed only where it failed, by whichever fault says so.
pub record HasDiskCause {T F : Type 0} (disk_fault : F) (before now : ℕ) (result : Result T F)
    : Type 0 where
  pub later : before ≤ now
  pub disk : IsErrOf result disk_fault → Rose before now
