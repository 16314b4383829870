-- Damage that breaks a rule.
use Rattle.rec_bytes.specs.declared.fault.Fault.{Fault}
use Rattle.rec_bytes.specs.declared.fault.Fault.TheVariants.{Memory, Disk, Damaged}
use Rattle.rec_bytes.specs.Space.{State}
use Rattle.store_rules.specs.Breaking.{Breaks}

-- the record that is said to be damaged breaks the rule
abbrev pub IsBreakFault : State → Fault → Type 0
IsBreakFault s Memory = Unit {0}
IsBreakFault s Disk = Unit {0}
IsBreakFault s (Damaged damage) = Breaks s.records s.shape damage
