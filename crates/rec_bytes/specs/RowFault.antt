-- Why a row is not read.
use Rattle.std.specs.Prelude.{ℕ, Result, Ok, Err}
use Rattle.rec_bytes.specs.Cause.{HasDiskCause}
use Rattle.rec_bytes.specs.declared.row_fault.RowFault.{RowFault}
use Rattle.rec_bytes.specs.declared.row_fault.RowFault.TheVariants.{Disk, Damaged}

-- the disk is blamed only where it failed
abbrev pub HasRowCause : {T : Type 0} → ℕ → ℕ → Result T RowFault → Type 0
HasRowCause before now result = HasDiskCause Disk before now result

-- no record is said to be damaged
abbrev pub NotDamaged : {T : Type 0} → Result T RowFault → Type 0
NotDamaged (Ok value) = Unit {0}
NotDamaged (Err Disk) = Unit {0}
NotDamaged (Err (Damaged damage)) = ⊥
