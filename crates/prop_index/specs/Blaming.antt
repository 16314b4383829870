-- Which records a search of the indexes blames.
use Rattle.std.specs.Prelude.{◌≡◌, ◌≢◌, ◌⊎◌, ℕ, ◌≤◌}
use Rattle.rec_bytes.specs.declared.damage.Damage.{Damage}
use Rattle.rec_bytes.specs.declared.fault.Fault.{Fault}
use Rattle.rec_bytes.specs.declared.fault.Fault.TheVariants as faults
use Rattle.rec_bytes.specs.Format as format
use Rattle.rec_bytes.specs.Space.{State}
use Rattle.id_freelist.specs.declared.take_fault.TakeFault.{TakeFault}
use Rattle.id_freelist.specs.declared.take_fault.TakeFault.TheVariants as takes
use Rattle.rec_bytes.specs.declared.shape.Shape.{Shape}
use Rattle.store_rules.specs.Breaking.{Breaks, BreaksAny}
use Rattle.store_rules.specs.IndexBreaking.{LeadsToDefinition, LeadsToEntry}
use Rattle.store_rules.specs.Views.{Records, high}

-- a record that is blamed breaks one of all eight rules
abbrev pub BlamesBroken : Records → Shape → Fault → Type 0
BlamesBroken records shape faults.Memory = Unit {0}
BlamesBroken records shape faults.Disk = Unit {0}
BlamesBroken records shape (faults.Damaged damage) = BreaksAny records shape damage

abbrev pub TakeBlamesBroken : Records → Shape → TakeFault → Type 0
TakeBlamesBroken records shape (takes.Full file live) = Unit {0}
TakeBlamesBroken records shape takes.Memory = Unit {0}
TakeBlamesBroken records shape takes.Disk = Unit {0}
TakeBlamesBroken records shape (takes.Damaged damage) = BreaksAny records shape damage

-- The chain of the definitions leads here, unless it ends. Past the mark, the record that is named
-- breaks the rule.
pub record IsDefinitionAt (s : State) (at : ℕ) (named : Damage) : Type 0 where
  pub leads : at ≢ format.nil → LeadsToDefinition s.records at
  pub past : at ≢ format.nil → high s.records format.index_file ≤ at
      → Breaks s.records s.shape named

-- So does a bucket, after so many entries.
pub record IsEntryAt (s : State) (d b count at : ℕ) (named : Damage) : Type 0 where
  pub leads : at ≢ format.nil → LeadsToEntry s.records d b count at
  pub past : at ≢ format.nil → high s.records format.index_file ≤ at
      → Breaks s.records s.shape named

-- The record is one of the indexes, or their meta record.
abbrev pub IsOfIndexes : Damage → Type 0
IsOfIndexes damage =
    (damage.file ≡ format.index_file)
    ⊎ ((damage.file ≡ format.meta_file) × (damage.id ≡ format.index_file))

-- so is one that is blamed
abbrev pub NamesIndexes : Fault → Type 0
NamesIndexes faults.Memory = Unit {0}
NamesIndexes faults.Disk = Unit {0}
NamesIndexes (faults.Damaged damage) = IsOfIndexes damage

abbrev pub TakeNamesIndexes : TakeFault → Type 0
TakeNamesIndexes (takes.Full file live) = Unit {0}
TakeNamesIndexes takes.Memory = Unit {0}
TakeNamesIndexes takes.Disk = Unit {0}
TakeNamesIndexes (takes.Damaged damage) = IsOfIndexes damage
