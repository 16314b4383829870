-- Which records a fault of properties names.
use Rattle.rec_bytes.specs.declared.damage.Damage.{Damage}
use Rattle.rec_bytes.specs.declared.fault.Fault.{Fault}
use Rattle.rec_bytes.specs.declared.fault.Fault.TheVariants.{Memory, Disk, Damaged}
use Rattle.rec_bytes.specs.declared.shape.Shape.{Shape}
use Rattle.store_rules.specs.Breaking.{Breaks}
use Rattle.store_rules.specs.Views.{Records}

-- a record that is blamed breaks the rule
abbrev pub BlamesBroken : Records → Shape → Fault → Type 0
BlamesBroken records shape Memory = Unit {0}
BlamesBroken records shape Disk = Unit {0}
BlamesBroken records shape (Damaged damage) = Breaks records shape damage
