-- Why a name gets no number.
use Rattle.std.specs.Prelude.{ℕ, Result}
use Rattle.rec_bytes.specs.Cause.{HasDiskCause}
use Rattle.rec_bytes.specs.declared.space.SpaceFault.{SpaceFault}
use Rattle.rec_bytes.specs.declared.space.SpaceFault.TheVariants as spaces
use Rattle.name_store.specs.declared.intern_fault.InternFault.{InternFault}
use Rattle.name_store.specs.declared.intern_fault.InternFault.TheVariants.{Memory, Disk}

-- the fault of a space
abbrev pub fault_of : SpaceFault → InternFault
fault_of spaces.Memory = Memory
fault_of spaces.Disk = Disk

-- the disk is blamed only where it failed
abbrev pub HasInternCause : {T : Type 0} → ℕ → ℕ → Result T InternFault → Type 0
HasInternCause before now result = HasDiskCause Disk before now result
