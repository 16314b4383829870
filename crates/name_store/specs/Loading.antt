-- What a load of names finds.
use Rattle.std.specs.Prelude.{◌≡◌, ℕ, ◌<◌, ◌≤◌, min, List, None, Some, length, slice_get}
use Rattle.plain_graph.specs.Names.{IsShortName}
use Rattle.rec_bytes.specs.declared.damage.Damage.{Damage}
use Rattle.rec_bytes.specs.Format as format
use Rattle.rec_bytes.specs.Space.{State, after_gets}
use Rattle.store_rules.specs.Ranges.{layout_of}
use Rattle.store_rules.specs.Rules.{AreNames}
use Rattle.store_rules.specs.Views.{Records, high, rec_at, text_of}
use Rattle.rec_bytes.specs.declared.fault.Fault.{Fault}
use Rattle.rec_bytes.specs.declared.fault.Fault.TheVariants.{Memory, Disk, Damaged}

-- the text in the record of a name
abbrev pub text_at : Records → ℕ → List ℕ
text_at records id = text_of (rec_at records format.names_file id)

-- how many names the store says were given out
abbrev pub name_mark : Records → ℕ
name_mark records = high records format.names_file

abbrev pub mark_damage : Damage
mark_damage = record { file = format.meta_file; id = format.names_file; rule = 1 }

abbrev pub name_damage : ℕ → ℕ → Damage
name_damage id rule = record { file = format.names_file; id = id; rule = rule }

-- the kind or the length of a name's record is none of its file
abbrev pub HasNoForm : Records → ℕ → Type 0
HasNoForm records id = layout_of format.names_file (rec_at records format.names_file id) ≡ None

-- The record that is said to be damaged breaks the rule that is named. By the first rule the meta
-- record counts no more names than there may be, and a name's record has a kind and a length of its
-- file. By the sixth the text of one that has them is a name, and no earlier record has it.
pub data IsNameDamage (records : Records) : Damage → Type 0 where
  HighMark : format.most_names < name_mark records → IsNameDamage records mark_damage
  WrongForm : (id : ℕ) → id < name_mark records → HasNoForm records id
      → IsNameDamage records (name_damage id 1)
  WrongText : (id : ℕ) → id < name_mark records → ¬ HasNoForm records id
      → ¬ IsShortName (text_at records id) → IsNameDamage records (name_damage id 6)
  SameText : (id earlier : ℕ) → id < name_mark records → ¬ HasNoForm records id → earlier < id
      → text_at records earlier ≡ text_at records id → IsNameDamage records (name_damage id 6)

abbrev pub IsLoadFault : Records → Fault → Type 0
IsLoadFault records Memory = Unit {0}
IsLoadFault records Disk = Unit {0}
IsLoadFault records (Damaged damage) = IsNameDamage records damage

-- the names' records keep the first and the sixth rule, as far as a load reads them
pub record AreLoadable (records : Records) : Type 0 where
  pub mark : name_mark records ≤ format.most_names
  pub form : (id : ℕ) → id < name_mark records → ¬ HasNoForm records id
  pub names : AreNames (rec_at records format.names_file) (name_mark records)

-- the records of the first n names keep them
pub record AreLoadableTo (records : Records) (n : ℕ) : Type 0 where
  pub form : (id : ℕ) → id < n → ¬ HasNoForm records id
  pub names : AreNames (rec_at records format.names_file) n

-- a name's record that is said to be damaged is the first that is
abbrev pub IsFirstDamage : Records → Fault → Type 0
IsFirstDamage records Memory = Unit {0}
IsFirstDamage records Disk = Unit {0}
IsFirstDamage records (Damaged damage) =
    damage.file ≡ format.names_file → AreLoadableTo records damage.id

-- what is said to be damaged is the record of this number
abbrev pub IsDamageAt : ℕ → Fault → Type 0
IsDamageAt n Memory = Unit {0}
IsDamageAt n Disk = Unit {0}
IsDamageAt n (Damaged damage) = damage.id ≡ n

-- these are the first names of the records
abbrev pub HoldsFirst : Records → List (List ℕ) → Type 0
HoldsFirst records names =
    (id : ℕ) → id < length names → slice_get names id ≡ Some (text_at records id)

-- at most so many reads, and nothing else
pub record ReadsAtMost (most : ℕ) (old new : State) : Type 0 where
  pub count : ℕ
  pub within : count ≤ most
  pub is : new ≡ after_gets count old

-- the space after each of its names was read once
abbrev pub after_names : State → State
after_names s = after_gets (name_mark s.records) s

-- a load reads each name once, and never more than there may be
abbrev pub most_reads : State → ℕ
most_reads s = min (name_mark s.records) format.most_names
