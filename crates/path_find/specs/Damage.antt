-- What is true of a record that a search says is damaged.
use Rattle.std.specs.Prelude.{IfSome}
use Rattle.rec_bytes.specs.Fault.{damage_of}
use Rattle.rec_bytes.specs.Space.{State}
use Rattle.rec_bytes.specs.declared.fault.Fault.{Fault}
use Rattle.store_rules.specs.Breaking.{Breaks}

-- it breaks the rule that is named
abbrev pub BlamesBroken : State → Fault → Type 0
BlamesBroken s fault = IfSome (damage_of fault) (Breaks s.records s.shape)
