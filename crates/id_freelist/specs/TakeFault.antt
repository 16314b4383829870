-- Why no identifier was taken.
use Rattle.std.specs.Prelude.{ℕ, ◌≤◌, Result, Ok, Err, IsErrOf}
use Rattle.fault_count.specs.Cause.{Rose}
use Rattle.rec_bytes.specs.declared.shape.Shape.{Shape}
use Rattle.rec_bytes.specs.declared.space.SpaceFault.{SpaceFault}
use Rattle.rec_bytes.specs.declared.space.SpaceFault.TheVariants as space
use Rattle.store_rules.specs.Breaking.{Breaks}
use Rattle.store_rules.specs.Views.{Records}
use Rattle.id_freelist.specs.declared.take_fault.TakeFault.{TakeFault}
use Rattle.id_freelist.specs.declared.take_fault.TakeFault.TheVariants.{Full, Memory, Disk, Damaged}

-- a space's fault as one of this crate
abbrev pub of_space : SpaceFault → TakeFault
of_space space.Memory = Memory
of_space space.Disk = Disk

-- the disk is blamed only where it failed
pub record HasTakeCause {T : Type 0} (before now : ℕ) (result : Result T TakeFault) : Type 0 where
  pub later : before ≤ now
  pub disk : IsErrOf result Disk → Rose before now

-- no record is said to be damaged
abbrev pub NotDamaged : {T : Type 0} → Result T TakeFault → Type 0
NotDamaged (Ok value) = Unit {0}
NotDamaged (Err (Full file live)) = Unit {0}
NotDamaged (Err Memory) = Unit {0}
NotDamaged (Err Disk) = Unit {0}
NotDamaged (Err (Damaged damage)) = ⊥

-- a record that is blamed breaks the rule
abbrev pub BlamesBroken : Records → Shape → TakeFault → Type 0
BlamesBroken records shape (Full file live) = Unit {0}
BlamesBroken records shape Memory = Unit {0}
BlamesBroken records shape Disk = Unit {0}
BlamesBroken records shape (Damaged damage) = Breaks records shape damage
