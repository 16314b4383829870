-- Why a property is not set.
use Rattle.std.specs.Prelude.{◌≡◌, ◌⊎◌, ◌<◌, ℕ, Result}
use Rattle.rec_bytes.specs.Cause.{HasDiskCause}
use Rattle.rec_bytes.specs.Format as format
use Rattle.rec_bytes.specs.RecordFiles.{room_of}
use Rattle.rec_bytes.specs.Space.{State, meta_of}
use Rattle.rec_bytes.specs.declared.space.SpaceFault.{SpaceFault}
use Rattle.rec_bytes.specs.declared.space.SpaceFault.TheVariants as spaces
use Rattle.id_freelist.specs.declared.take_fault.TakeFault.{TakeFault}
use Rattle.id_freelist.specs.declared.take_fault.TakeFault.TheVariants as takes
use Rattle.rec_bytes.specs.declared.fault.Fault.{Fault}
use Rattle.rec_bytes.specs.declared.fault.Fault.TheVariants as faults
use Rattle.prop_store.specs.declared.set_fault.SetFault.{SetFault}
use Rattle.prop_store.specs.declared.set_fault.SetFault.TheVariants.{PropsFull, Full, Memory, Disk}
use Rattle.prop_store.specs.declared.set_fault.SetFault.TheVariants.{Damaged}

-- a fault of a read, and one of a space
abbrev pub of_fault : Fault → SetFault
of_fault faults.Memory = Memory
of_fault faults.Disk = Disk
of_fault (faults.Damaged damage) = Damaged damage

abbrev pub of_space : SpaceFault → SetFault
of_space spaces.Memory = Memory
of_space spaces.Disk = Disk

-- and one of a take
abbrev pub of_take : TakeFault → SetFault
of_take (takes.Full file live) = Full file live
of_take takes.Memory = Memory
of_take takes.Disk = Disk
of_take (takes.Damaged damage) = Damaged damage

-- the disk is blamed only where it failed
abbrev pub HasSetCause : {T : Type 0} → ℕ → ℕ → Result T SetFault → Type 0
HasSetCause before now result = HasDiskCause Disk before now result

-- so many records of the file are live as it has room for
abbrev pub IsFullFile : State → ℕ → ℕ → Type 0
IsFullFile t file live = (live ≡ (meta_of t file).live) × (live ≡ room_of t.shape file)

-- Why so many blocks aren't taken, by the space as it is left: some are needed, and their file is
-- full.
abbrev pub IsTextCause : State → ℕ → TakeFault → Type 0
IsTextCause t blocks (takes.Full file live) =
    IsFullFile t file live × ((file ≡ format.strings_file) × (0 < blocks))
IsTextCause t blocks takes.Memory = Unit {0}
IsTextCause t blocks takes.Disk = Unit {0}
IsTextCause t blocks (takes.Damaged damage) = Unit {0}

-- a record of the file is needed: one of a property that is new, or one of so many blocks
abbrev pub IsNeeded : Type 0 → ℕ → ℕ → Type 0
IsNeeded new blocks file = ((file ≡ format.properties_file) × new)
    ⊎ ((file ≡ format.strings_file) × (0 < blocks))

-- Why a value isn't set, over any records, by the space as it is left: the element is crowded, or a
-- file is full of which a record is needed. A record that is called damaged has a clause of its
-- own.
abbrev pub IsSetCause : Type 0 → Type 0 → ℕ → State → SetFault → Type 0
IsSetCause crowded new blocks t (PropsFull count) = (count ≡ 32) × crowded
IsSetCause crowded new blocks t (Full file live) =
    IsFullFile t file live × IsNeeded new blocks file
IsSetCause crowded new blocks t Memory = Unit {0}
IsSetCause crowded new blocks t Disk = Unit {0}
IsSetCause crowded new blocks t (Damaged damage) = Unit {0}
