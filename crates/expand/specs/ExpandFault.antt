-- Why the edges of a node are not known.
use Rattle.std.specs.Prelude.{ℕ, Result}
use Rattle.rec_bytes.specs.declared.row_fault.RowFault.{RowFault}
use Rattle.rec_bytes.specs.declared.row_fault.RowFault.TheVariants as row
use Rattle.rec_bytes.specs.Cause.{HasDiskCause}
use Rattle.rec_bytes.specs.declared.fault.Fault.{Fault}
use Rattle.rec_bytes.specs.declared.fault.Fault.TheVariants as fault
use Rattle.expand.specs.declared.expand_fault.ExpandFault.{ExpandFault}
use Rattle.expand.specs.declared.expand_fault.ExpandFault.TheVariants.{Memory, Disk}
use Rattle.expand.specs.declared.expand_fault.ExpandFault.TheVariants.{Damaged}

-- faults of the crates below as one of this crate
abbrev pub of_row : RowFault → ExpandFault
of_row row.Disk = Disk
of_row (row.Damaged damage) = Damaged damage

abbrev pub of_fault : Fault → ExpandFault
of_fault fault.Memory = Memory
of_fault fault.Disk = Disk
of_fault (fault.Damaged damage) = Damaged damage

abbrev pub of_memory : ExpandFault
of_memory = Memory

-- the disk is blamed only where it failed
abbrev pub HasExpandCause : {T : Type 0} → ℕ → ℕ → Result T ExpandFault → Type 0
HasExpandCause before now result = HasDiskCause Disk before now result
