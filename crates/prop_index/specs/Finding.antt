-- The definition of a label and a key.
use Rattle.std.specs.Prelude.{◌≡◌, ℕ, ◌≤◌, List, length, Option, Some, None}
use Rattle.rec_bytes.specs.declared.record.Rec.{Rec}
use Rattle.rec_bytes.specs.Format as format
use Rattle.store_rules.specs.Chains.{In, IsWalk}
use Rattle.store_rules.specs.IndexBreaking.{LeadsToDefinition}
use Rattle.store_rules.specs.Indexes.{first_definition, index_rec, indexed_key, indexed_label}
use Rattle.store_rules.specs.Indexes.{next_definition}
use Rattle.store_rules.specs.Views.{Records, kind_at}

-- the definition is that of the label and the key
abbrev pub IsPair : Records → ℕ → ℕ → ℕ → Type 0
IsPair records label key d = (indexed_label records d ≡ label) × (indexed_key records d ≡ key)

-- The record is that of a definition of the label and the key, to which the chain leads.
pub record IsOfPair (records : Records) (label key id : ℕ) (rec : Rec) : Type 0 where
  pub rec_is : rec ≡ index_rec records id
  pub leads : LeadsToDefinition records id
  pub used : kind_at records format.index_file id ≡ format.definition
  pub pair : IsPair records label key id

-- none of these definitions has the label and the key
abbrev pub AreOfOthers : Records → List ℕ → ℕ → ℕ → Type 0
AreOfOthers records ds label key = (d : ℕ) → In d ds → ¬ IsPair records label key d

-- None of the definitions to which the chain leads, each in use, has the label and the key.
pub record LeadsToNone (records : Records) (label key : ℕ) : Type 0 where
  pub definitions : List ℕ
  pub walk : IsWalk (next_definition records) (first_definition records) definitions
  pub defined : (d : ℕ) → In d definitions
      → kind_at records format.index_file d ≡ format.definition
  pub few : length definitions ≤ 16
  pub none : AreOfOthers records definitions label key

abbrev pub IsDefined : Records → ℕ → ℕ → Rec → Option ℕ → Type 0
IsDefined records label key rec None = LeadsToNone records label key
IsDefined records label key rec (Some id) = IsOfPair records label key id rec

-- it is one of these, or none of them has the label and the key
abbrev pub IsFound : Records → List ℕ → ℕ → ℕ → Option ℕ → Type 0
IsFound records ds label key None = AreOfOthers records ds label key
IsFound records ds label key (Some id) = In id ds
