-- Records that are added to the index, and a definition of them.
use Rattle.std.specs.Prelude.{◌≡◌, ◌≢◌, ℕ, ◌+◌, ◌<◌, ◌≤◌}
use Rattle.rec_bytes.specs.declared.key.Key.{Key}
use Rattle.rec_bytes.specs.declared.record.Rec.{Rec}
use Rattle.rec_bytes.specs.Format as format
use Rattle.rec_bytes.specs.Record.{field}
use Rattle.rec_bytes.specs.RecordFiles.{meta_key_of, room_of}
use Rattle.rec_bytes.specs.Space.{State, meta_of}
use Rattle.store_rules.specs.IndexChange.{IsDefinitionMade}
use Rattle.store_rules.specs.Indexes.{first_definition, index_rec, indexed_key, indexed_label}
use Rattle.store_rules.specs.Ranges.{Fits}
use Rattle.store_rules.specs.Views.{Records, high, kind_at}
use Rattle.id_freelist.specs.ListDamage.{KeepsInUse}
use Rattle.prop_index.specs.DefinitionRecord.{empty_heads, head_of}
use Rattle.prop_index.specs.declared.finding.Definition.{Definition}
use Rattle.store_rules.specs.Rules.{IsWhole}

-- the label and the key are numbers of names
pub record AreNamesOf (records : Records) (label key : ℕ) : Type 0 where
  pub label_low : label < high records format.names_file
  pub key_low : key < high records format.names_file

-- there is room for so many records more
abbrev pub HasLeft : State → ℕ → Type 0
HasLeft s n = (meta_of s format.index_file).live + n ≤ room_of s.shape format.index_file

-- all but the records of the index is as it was
abbrev pub SameElsewhere : Records → Records → Type 0
SameElsewhere s t =
    (q : Key) → q.file ≢ format.index_file → q ≢ meta_key_of format.index_file → t q ≡ s q

-- So many records more are in use. The first definition is what it was, and so is all else.
pub record GrowsBy (s t : State) (count : ℕ) : Type 0 where
  pub first : first_definition t.records ≡ first_definition s.records
  pub more : high s.records format.index_file ≤ high t.records format.index_file
  pub live : (meta_of t format.index_file).live ≡ (meta_of s format.index_file).live + count
  pub shape : t.shape ≡ s.shape
  pub others : SameElsewhere s.records t.records

-- The record is in use that was free. Where it fits its file, the rules but the eighth hold.
pub record IsRecordAdded (s t : State) (rec : Rec) (id : ℕ) : Type 0 where
  pub fresh : kind_at s.records format.index_file id ≡ format.free_kind
  pub here : index_rec t.records id ≡ rec
  pub kind : kind_at t.records format.index_file id ≡ field 1 rec format.kind
  pub low : id < high t.records format.index_file
  pub kinds : (y : ℕ) → y ≢ id
      → kind_at t.records format.index_file y ≡ kind_at s.records format.index_file y
  pub records : (y : ℕ) → y ≢ id → index_rec t.records y ≡ index_rec s.records y
  pub grows : GrowsBy s t 1
  pub kept : Fits (high t.records) format.index_file rec
      → (field 1 rec format.kind ≡ format.definition → AreNamesOf s.records
      (field 4 rec format.definition_label) (field 4 rec format.definition_key)) → IsWhole t

-- The first heads that the record of a definition names are in use, with empty buckets, and were
-- free. What stands before them in it is what it was.
pub record AreHeadsAdded (s t : State) (start : Rec) (count : ℕ) (rec : Rec) : Type 0 where
  pub front : (n at : ℕ) → at + n ≤ format.definition_heads → field n rec at ≡ field n start at
  pub fresh : (c : ℕ) → c < count
      → kind_at s.records format.index_file (head_of rec c) ≡ format.free_kind
  pub here : (c : ℕ) → c < count → index_rec t.records (head_of rec c) ≡ empty_heads
  pub kind : (c : ℕ) → c < count
      → kind_at t.records format.index_file (head_of rec c) ≡ format.heads
  pub low : (c : ℕ) → c < count → head_of rec c < high t.records format.index_file
  pub once : (c k : ℕ) → c < count → k < count → head_of rec c ≡ head_of rec k → c ≡ k
  pub kinds : (y : ℕ) → ((c : ℕ) → c < count → y ≢ head_of rec c)
      → kind_at t.records format.index_file y ≡ kind_at s.records format.index_file y
  pub records : (y : ℕ) → ((c : ℕ) → c < count → y ≢ head_of rec c)
      → index_rec t.records y ≡ index_rec s.records y
  pub grows : GrowsBy s t count
  pub kept : IsWhole t

-- A definition of the pair is in front of the others, with empty buckets.
pub record IsDefinitionAdded (s t : State) (label key : ℕ) (definition : Definition)
    : Type 0 where
  pub made : IsDefinitionMade s.records t.records definition.id label key
  pub rec_is : definition.rec ≡ index_rec t.records definition.id
  pub live : (meta_of t format.index_file).live ≡ (meta_of s format.index_file).live + 13
  pub shape : t.shape ≡ s.shape
  pub others : SameElsewhere s.records t.records
  pub kept : IsWhole t

-- So many records more are counted, of a store of the same shape.
pub record CountsMore (s t : State) (count : ℕ) : Type 0 where
  pub live : (meta_of t format.index_file).live ≡ (meta_of s format.index_file).live + count
  pub shape : t.shape ≡ s.shape

-- The record is in use, and so is what was. Nothing more is wrong with the free list.
pub record PutsInUse (s t : State) (id : ℕ) : Type 0 where
  pub keeps : KeepsInUse s t format.index_file
  pub used : kind_at t.records format.index_file id ≢ format.free_kind

-- the first heads that the record of a definition names are in use
abbrev pub AreHeadsUsed : State → ℕ → Rec → Type 0
AreHeadsUsed s count rec =
    (c : ℕ) → c < count
    → kind_at s.records format.index_file (head_of rec c) ≢ format.free_kind

-- So they are, and so is what was. Nothing more is wrong with the free list.
pub record PutsHeads (s t : State) (count : ℕ) (rec : Rec) : Type 0 where
  pub keeps : KeepsInUse s t format.index_file
  pub used : AreHeadsUsed t count rec

-- a definition has the label and the key
abbrev pub HasPair : Records → ℕ → ℕ → Type 0
HasPair records label key =
    (d : ℕ) × (kind_at records format.index_file d ≡ format.definition)
    × (indexed_label records d ≡ label) × (indexed_key records d ≡ key)

-- The record of the definition is in use, is none of its heads, and has the label and the key.
pub record IsDefined (t : State) (label key : ℕ) (definition : Definition) : Type 0 where
  pub used : kind_at t.records format.index_file definition.id ≢ format.free_kind
  pub here : index_rec t.records definition.id ≡ definition.rec
  pub apart : (c : ℕ) → c < 12 → definition.id ≢ head_of definition.rec c
  pub kind : field 1 definition.rec format.kind ≡ format.definition
  pub label_is : field 4 definition.rec format.definition_label ≡ label
  pub key_is : field 4 definition.rec format.definition_key ≡ key

-- Each record in use but these heads is still in use, and is as it was.
abbrev pub KeepsBeside : State → State → Rec → Type 0
KeepsBeside s t rec =
    (x : ℕ) → kind_at s.records format.index_file x ≢ format.free_kind
    → ((c : ℕ) → c < 12 → x ≢ head_of rec c)
    → (kind_at t.records format.index_file x ≢ format.free_kind)
    × (index_rec t.records x ≡ index_rec s.records x)
