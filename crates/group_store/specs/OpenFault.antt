-- Why a head isn't opened, or a group isn't made.
use Rattle.std.specs.Prelude.{◌≡◌, ℕ, ◌+◌, ◌<◌, IfErr, Result}
use Rattle.rec_bytes.specs.Cause.{HasDiskCause}
use Rattle.rec_bytes.specs.declared.damage.Damage.{Damage}
use Rattle.rec_bytes.specs.declared.fault.Fault.{Fault}
use Rattle.rec_bytes.specs.declared.fault.Fault.TheVariants as faults
use Rattle.rec_bytes.specs.declared.row_fault.RowFault.{RowFault}
use Rattle.rec_bytes.specs.declared.space.SpaceFault.{SpaceFault}
use Rattle.rec_bytes.specs.Fault as fault_of
use Rattle.rec_bytes.specs.Format as format
use Rattle.rec_bytes.specs.RecordFiles.{room_of}
use Rattle.rec_bytes.specs.Space.{State, meta_of}
use Rattle.id_freelist.specs.declared.take_fault.TakeFault.{TakeFault}
use Rattle.id_freelist.specs.declared.take_fault.TakeFault.TheVariants as takes
use Rattle.group_store.specs.declared.open_fault.OpenFault.{OpenFault}
use Rattle.group_store.specs.declared.open_fault.OpenFault.TheVariants.{Full, Memory, Disk}
use Rattle.group_store.specs.declared.open_fault.OpenFault.TheVariants.{Damaged}

-- a fault of a call that makes no group, and those of a space, of a row and of an identifier that
-- is taken
abbrev pub of_fault : Fault → OpenFault
of_fault faults.Memory = Memory
of_fault faults.Disk = Disk
of_fault (faults.Damaged damage) = Damaged damage

abbrev pub of_space : SpaceFault → OpenFault
of_space fault = of_fault (fault_of.of_space fault)

abbrev pub of_row : RowFault → OpenFault
of_row fault = of_fault (fault_of.of_row fault)

abbrev pub of_take : TakeFault → OpenFault
of_take (takes.Full file live) = Full live
of_take takes.Memory = Memory
of_take takes.Disk = Disk
of_take (takes.Damaged damage) = Damaged damage

-- the disk is blamed only where it failed
abbrev pub HasOpenCause : {T : Type 0} → ℕ → ℕ → Result T OpenFault → Type 0
HasOpenCause before now result = HasDiskCause Disk before now result

-- what holds of a record that is said to be damaged
abbrev pub IfDamage : (Damage → Type 0) → OpenFault → Type 0
IfDamage P (Full live) = Unit {0}
IfDamage P Memory = Unit {0}
IfDamage P Disk = Unit {0}
IfDamage P (Damaged damage) = P damage

-- what holds where a record is said to be damaged, or the file to be full
abbrev pub IfRefuses : Type 0 → OpenFault → Type 0
IfRefuses P (Full live) = P
IfRefuses P Memory = Unit {0}
IfRefuses P Disk = Unit {0}
IfRefuses P (Damaged damage) = P

abbrev pub OnRefusal : {T : Type 0} → Result T OpenFault → Type 0 → Type 0
OnRefusal result P = IfErr result (IfRefuses P)

-- neither is said
abbrev pub NotRefused : {T : Type 0} → Result T OpenFault → Type 0
NotRefused result = OnRefusal result ⊥

-- so many groups are live, which is as many as their file has room for
abbrev pub IsFullOfGroups : State → ℕ → Type 0
IsFullOfGroups s live = (live ≡ (meta_of s format.groups_file).live)
    × (live ≡ room_of s.shape format.groups_file)

-- So it is of the space as it is left, and there was room for fewer groups more than this before.
pub record IsShort (s t : State) (needed live : ℕ) : Type 0 where
  pub full : IsFullOfGroups t live
  pub lacks : room_of s.shape format.groups_file < (meta_of s format.groups_file).live + needed
