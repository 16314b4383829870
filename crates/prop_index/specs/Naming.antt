-- The index that is named where one of its buckets is no list, and what a change of an entry names.
use Rattle.std.specs.Prelude.{◌≡◌, ◌≢◌, ◌⊎◌, ℕ, List}
use Rattle.id_freelist.specs.ListDamage.{IsListDamage}
use Rattle.id_freelist.specs.Taking.{IsRanged}
use Rattle.id_freelist.specs.declared.take_fault.TakeFault.{TakeFault}
use Rattle.id_freelist.specs.declared.take_fault.TakeFault.TheVariants as takes
use Rattle.prop_index.specs.Finding.{IsPair}
use Rattle.prop_index.specs.Reading.{damage_of}
use Rattle.rec_bytes.specs.declared.damage.Damage.{Damage}
use Rattle.rec_bytes.specs.declared.fault.Fault.{Fault}
use Rattle.rec_bytes.specs.declared.fault.Fault.TheVariants as faults
use Rattle.rec_bytes.specs.Format as format
use Rattle.rec_bytes.specs.RecordFiles.{room_of}
use Rattle.rec_bytes.specs.Space.{State, meta_of}
use Rattle.store_rules.specs.Breaking.{BreaksAny}
use Rattle.store_rules.specs.Chains.{In}
use Rattle.store_rules.specs.IndexBreaking.{AreDefinitions, DefinitionKeeps, IsBucketList}
use Rattle.store_rules.specs.Indexes.{heads_of}
use Rattle.store_rules.specs.Views.{Records, kind_at}

-- The mark of the indexes or their first free identifier can't stand there, and their meta record
-- is damaged.
pub record IsMarkDamage (s : State) (damage : Damage) : Type 0 where
  pub is : damage ≡ damage_of format.meta_file format.index_file 1
  pub bad : ¬ IsRanged (meta_of s format.index_file) (room_of s.shape format.index_file)

-- so it is where a record is blamed
abbrev pub BlamesMark : State → Fault → Type 0
BlamesMark s faults.Memory = Unit {0}
BlamesMark s faults.Disk = Unit {0}
BlamesMark s (faults.Damaged damage) = IsMarkDamage s damage

-- The record of heads of this number is none where a record of the index is blamed. Else the meta
-- record is.
abbrev pub BlamesHead : State → ℕ → ℕ → Fault → Type 0
BlamesHead s d c faults.Memory = Unit {0}
BlamesHead s d c faults.Disk = Unit {0}
BlamesHead s d c (faults.Damaged damage) =
    IsMarkDamage s damage ⊎ ((damage.file ≡ format.index_file)
    × (kind_at s.records format.index_file (heads_of s.records d c) ≢ format.heads))

-- a bucket of this number is no list
abbrev pub LacksBucket : Records → ℕ → ℕ → Type 0
LacksBucket records d b = (members : List ℕ) → ¬ IsBucketList records d b members

-- So it is where a record of the index is blamed. Else the mark is damaged.
abbrev pub BlamesBucket : State → ℕ → ℕ → Fault → Type 0
BlamesBucket s d b faults.Memory = Unit {0}
BlamesBucket s d b faults.Disk = Unit {0}
BlamesBucket s d b (faults.Damaged damage) =
    IsMarkDamage s damage ⊎ ((damage.file ≡ format.index_file) × LacksBucket s.records d b)

-- One of these definitions has the label and the key, and breaks the eighth rule.
pub record HasWrongIndex (records : Records) (ds : List ℕ) (label key : ℕ) : Type 0 where
  pub id : ℕ
  pub listed : In id ds
  pub pair : IsPair records label key id
  pub wrong : ¬ DefinitionKeeps records id

-- So it is where a record of the index is blamed and the definitions are a list. Else the meta
-- record is.
abbrev pub BlamesIndex : State → ℕ → ℕ → Fault → Type 0
BlamesIndex s label key faults.Memory = Unit {0}
BlamesIndex s label key faults.Disk = Unit {0}
BlamesIndex s label key (faults.Damaged damage) =
    (ds : List ℕ) → AreDefinitions s.records ds → IsMarkDamage s damage
    ⊎ ((damage.file ≡ format.index_file) × HasWrongIndex s.records ds label key)

-- the record is a definition
pub record IsDefinition (s : State) (damage : Damage) : Type 0 where
  pub file : damage.file ≡ format.index_file
  pub defines : kind_at s.records format.index_file damage.id ≡ format.definition

-- It is one, or the damage is one of the free list of the indexes.
abbrev pub IsDefinitionOrList : State → Damage → Type 0
IsDefinitionOrList s damage =
    IsDefinition s damage ⊎ IsListDamage s.records s.shape format.index_file damage

-- so it is where a record is blamed
abbrev pub BlamesDefinition : State → Fault → Type 0
BlamesDefinition s faults.Memory = Unit {0}
BlamesDefinition s faults.Disk = Unit {0}
BlamesDefinition s (faults.Damaged damage) = IsDefinitionOrList s damage

abbrev pub TakeBlamesDefinition : State → TakeFault → Type 0
TakeBlamesDefinition s (takes.Full file live) = Unit {0}
TakeBlamesDefinition s takes.Memory = Unit {0}
TakeBlamesDefinition s takes.Disk = Unit {0}
TakeBlamesDefinition s (takes.Damaged damage) = IsDefinitionOrList s damage

-- a record of no index that is blamed breaks a rule
abbrev pub BlamesOther : State → Fault → Type 0
BlamesOther s faults.Memory = Unit {0}
BlamesOther s faults.Disk = Unit {0}
BlamesOther s (faults.Damaged damage) =
    damage.file ≢ format.index_file → BreaksAny s.records s.shape damage
