-- An entry that is sought, and what becomes of the records when it is taken out.
use Rattle.std.specs.Prelude.{◌≡◌, ◌≢◌, ◌⊎◌, ℕ, List, Option, None, Some}
use Rattle.rec_bytes.specs.Format as format
use Rattle.rec_bytes.specs.Meta.{IsLinkBelow}
use Rattle.rec_bytes.specs.Record.{field}
use Rattle.rec_bytes.specs.Space.{State, meta_of}
use Rattle.store_rules.specs.Chains.{In, IsChain}
use Rattle.store_rules.specs.IndexBreaking.{LeadsToEntry}
use Rattle.store_rules.specs.Indexes.{entry_hash, entry_node, first_entry, index_rec, next_entry}
use Rattle.store_rules.specs.Indexes.{previous_entry}
use Rattle.store_rules.specs.IndexChange.{IsEntryGone}
use Rattle.store_rules.specs.Views.{Records, kind_at}
use Rattle.prop_index.specs.declared.entry_row.Content.{Content}
use Rattle.prop_index.specs.declared.entry_row.EntryRow.{EntryRow}
use Rattle.prop_index.specs.declared.heads.Slot.{Slot}

-- the entries of a bucket, from the first one on
pub record IsBucketChain (records : Records) (first : ℕ) (xs : List ℕ) : Type 0 where
  pub chain : IsChain (next_entry records) (previous_entry records) format.nil first xs
  pub kind : (x : ℕ) → In x xs → kind_at records format.index_file x ≡ format.indexed

-- an entry says this
abbrev pub SaysContent : Records → Content → ℕ → Type 0
SaysContent records content x =
    (entry_node records x ≡ content.node) × (entry_hash records x ≡ content.hash)

-- none of them says this
abbrev pub IsNoneOf : Records → List ℕ → Content → Type 0
IsNoneOf records xs content =
    (x : ℕ) → In x xs → ¬ SaysContent records content x

-- it is one of these, and says this
pub record IsRowOf (records : Records) (xs : List ℕ) (content : Content) (row : EntryRow)
    : Type 0 where
  pub member : In row.id xs
  pub rec_is : row.rec ≡ index_rec records row.id
  pub says : SaysContent records content row.id

-- the record is that of an entry in use
pub record IsEntryRow (records : Records) (row : EntryRow) : Type 0 where
  pub rec_is : row.rec ≡ index_rec records row.id
  pub used : kind_at records format.index_file row.id ≡ format.indexed

-- The bucket leads to the entry, and from it to this one.
pub record IsEntryBefore (records : Records) (d b before x : ℕ) : Type 0 where
  pub count : ℕ
  pub leads : LeadsToEntry records d b count before
  pub used : kind_at records format.index_file before ≡ format.indexed
  pub next : next_entry records before ≡ x

-- The bucket leads to the entry, from its head or from the entry before it.
pub record IsLedTo (records : Records) (d b before x : ℕ) : Type 0 where
  pub count : ℕ
  pub leads : LeadsToEntry records d b count x
  pub from : ((before ≡ format.nil) × (first_entry records d b ≡ x))
      ⊎ IsEntryBefore records d b before x

-- The entries beside one that is taken out are other entries, and the first free identifier can
-- stand in the meta record.
pub record IsBetween (s : State) (row : EntryRow) : Type 0 where
  pub before : field 4 row.rec format.indexed_previous ≢ format.nil
      → kind_at s.records format.index_file (field 4 row.rec format.indexed_previous)
      ≡ format.indexed
  pub after : field 4 row.rec format.indexed_next ≢ format.nil
      → kind_at s.records format.index_file (field 4 row.rec format.indexed_next)
      ≡ format.indexed
  pub other : field 4 row.rec format.indexed_previous ≢ row.id
  pub another : field 4 row.rec format.indexed_next ≢ row.id
  pub free : IsLinkBelow (meta_of s format.index_file).free (meta_of s format.index_file).high

-- so it is, or none of them does
abbrev pub IsEntrySought : Records → List ℕ → Content → Option EntryRow → Type 0
IsEntrySought records xs content None = IsNoneOf records xs content
IsEntrySought records xs content (Some row) = IsRowOf records xs content row

-- None of the entries said this and nothing changed, or one did, and it is gone.
pub data IsDropped (s t : Records) (xs : List ℕ) (slot : Slot) (content : Content) : Type 0 where
  NoneThere : IsNoneOf s xs content → t ≡ s → IsDropped s t xs slot content
  OneGone : (x : ℕ) → In x xs → SaysContent s content x → IsEntryGone s t x slot.id slot.place
      → IsDropped s t xs slot content
