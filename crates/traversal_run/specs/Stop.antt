-- Why a run gives nothing more.
use Rattle.std.specs.Prelude.{ℕ, Result}
use Rattle.rec_bytes.specs.Cause.{HasDiskCause}
use Rattle.rec_bytes.specs.declared.fault.Fault.{Fault}
use Rattle.rec_bytes.specs.declared.fault.Fault.TheVariants as faults
use Rattle.rec_bytes.specs.declared.shape.Shape.{Shape}
use Rattle.store_rules.specs.Breaking.{Breaks}
use Rattle.store_rules.specs.Views.{Records}
use Rattle.traversal_run.specs.declared.stop.Stop.{Stop}
use Rattle.traversal_run.specs.declared.stop.Stop.TheVariants.{End, Memory, Disk, Damaged}
use Rattle.traversal_run.specs.declared.stop.Stop.TheVariants.{PastCount}

abbrev pub of_fault : Fault → Stop
of_fault faults.Memory = Memory
of_fault faults.Disk = Disk
of_fault (faults.Damaged damage) = Damaged damage

abbrev pub of_memory : Stop
of_memory = Memory

-- What is known where a run stops: that all was given, or that a count passes.
abbrev pub MayStop : Type 0 → Type 0 → Stop → Type 0
MayStop ended past End = ended
MayStop ended past Memory = Unit {0}
MayStop ended past Disk = Unit {0}
MayStop ended past (Damaged damage) = Unit {0}
MayStop ended past PastCount = past

-- the disk is blamed only where it failed
abbrev pub HasStopCause : {T : Type 0} → ℕ → ℕ → Result T Stop → Type 0
HasStopCause before now result = HasDiskCause Disk before now result

-- a record that is said to be damaged breaks the rule that is named
abbrev pub StopsAtBroken : Records → Shape → Stop → Type 0
StopsAtBroken records shape End = Unit {0}
StopsAtBroken records shape Memory = Unit {0}
StopsAtBroken records shape Disk = Unit {0}
StopsAtBroken records shape (Damaged damage) = Breaks records shape damage
StopsAtBroken records shape PastCount = Unit {0}
