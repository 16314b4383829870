-- Why no index is made.
use Rattle.std.specs.Prelude.{◌≡◌, ℕ, ◌<◌, Result, length}
use Rattle.rec_bytes.specs.Cause.{HasDiskCause}
use Rattle.rec_bytes.specs.Format as format
use Rattle.rec_bytes.specs.declared.fault.Fault.{Fault}
use Rattle.rec_bytes.specs.declared.fault.Fault.TheVariants as faults
use Rattle.id_freelist.specs.declared.take_fault.TakeFault.{TakeFault}
use Rattle.id_freelist.specs.declared.take_fault.TakeFault.TheVariants as takes
use Rattle.rec_bytes.specs.declared.shape.Shape.{Shape}
use Rattle.store_rules.specs.Breaking.{BreaksAny}
use Rattle.store_rules.specs.Views.{Records, high}
use Rattle.prop_index.specs.Collecting.{contents_in}
use Rattle.prop_index.specs.declared.make_fault.MakeFault.{MakeFault}
use Rattle.prop_index.specs.declared.make_fault.MakeFault.TheVariants as makes

-- a fault of records that are read, and one of an identifier that is taken, as one of this call
abbrev pub of_fault : Fault → MakeFault
of_fault faults.Memory = makes.Memory
of_fault faults.Disk = makes.Disk
of_fault (faults.Damaged damage) = makes.Damaged damage

abbrev pub of_take : TakeFault → MakeFault
of_take (takes.Full file live) = makes.Full live
of_take takes.Memory = makes.Memory
of_take takes.Disk = makes.Disk
of_take (takes.Damaged damage) = makes.Damaged damage

-- the disk is blamed only where it failed
abbrev pub HasMakeCause : {T : Type 0} → ℕ → ℕ → Result T MakeFault → Type 0
HasMakeCause before now result = HasDiskCause makes.Disk before now result

-- more nodes of the label have the key than an index is made for, or memory or the disk is to blame
abbrev pub IsCollectFault : Records → ℕ → ℕ → MakeFault → Type 0
IsCollectFault records label key makes.There = ⊥
IsCollectFault records label key makes.Many = ⊥
IsCollectFault records label key (makes.TooLarge count) =
    (count ≡ length (contents_in records label key (high records format.nodes_file)))
    × (1024 < count)
IsCollectFault records label key (makes.Full live) = ⊥
IsCollectFault records label key makes.Memory = Unit {0}
IsCollectFault records label key makes.Disk = Unit {0}
IsCollectFault records label key (makes.Damaged damage) = ⊥

-- a record that is blamed breaks the rule
abbrev pub BlamesBroken : Records → Shape → MakeFault → Type 0
BlamesBroken records shape makes.There = Unit {0}
BlamesBroken records shape makes.Many = Unit {0}
BlamesBroken records shape (makes.TooLarge count) = Unit {0}
BlamesBroken records shape (makes.Full live) = Unit {0}
BlamesBroken records shape makes.Memory = Unit {0}
BlamesBroken records shape makes.Disk = Unit {0}
BlamesBroken records shape (makes.Damaged damage) = BreaksAny records shape damage

-- It is the count that is told of nodes with the key, or not one of the reasons.
abbrev pub IsCollectCause : Records → ℕ → ℕ → MakeFault → Type 0
IsCollectCause records label key makes.There = ⊥
IsCollectCause records label key makes.Many = ⊥
IsCollectCause records label key (makes.TooLarge count) =
    (count ≡ length (contents_in records label key (high records format.nodes_file)))
    × (1024 < count)
IsCollectCause records label key (makes.Full live) = ⊥
IsCollectCause records label key makes.Memory = Unit {0}
IsCollectCause records label key makes.Disk = Unit {0}
IsCollectCause records label key (makes.Damaged damage) = Unit {0}
