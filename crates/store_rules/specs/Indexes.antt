-- The eighth rule: an index of a label and a key has one entry for each node of the label that has
-- the key, in the bucket of its value's hash. What the entries stand for is a parameter, since in
-- the middle of a change they stand for values that a node had, or will have.
use Rattle.std.specs.Prelude.{◌≡◌, ℕ, ◌+◌, ◌*◌, ◌/◌, ◌%◌, ◌<◌, ◌≤◌, nat_eq, Bool, true, false}
use Rattle.std.specs.Prelude.{◌&&◌, ◌||◌, cond, not, Option, None, Some, List, [], ◌∷◌, length, map}
use Rattle.std.specs.Ordering.{is_eq}
use Rattle.plain_graph.specs.Values.{value_cmp}
use Rattle.plain_graph.specs.declared.value.Value.{Value}
use Rattle.rec_bytes.specs.declared.record.Rec.{Rec}
use Rattle.rec_bytes.specs.declared.shape.Shape.{Shape}
use Rattle.rec_bytes.specs.Format as format
use Rattle.rec_bytes.specs.Record.{field}
use Rattle.rec_bytes.specs.RecordFiles.{meta_key_of}
use Rattle.store_rules.specs.Chains.{In, IsChain, IsWalk}
use Rattle.store_rules.specs.Hashes.{bucket_of, hash_of}
use Rattle.store_rules.specs.Properties.{Property, PropertyRecords, property_at, property_ids}
use Rattle.store_rules.specs.Properties.{property_records}
use Rattle.store_rules.specs.Rules.{IsWellFormed}
use Rattle.store_rules.specs.Views.{NodeRow, Records, is_live, kind_at, node_at, rec_at}

-- ---- what the records of the indexes say

abbrev pub index_rec : Records → ℕ → Rec
index_rec records x = rec_at records format.index_file x

-- definitions
abbrev pub first_definition : Records → ℕ
first_definition records = field 4 (records (meta_key_of format.index_file)) format.meta_definition

abbrev pub next_definition : Records → ℕ → ℕ
next_definition records d = field 4 (index_rec records d) format.definition_next

abbrev pub indexed_label : Records → ℕ → ℕ
indexed_label records d = field 4 (index_rec records d) format.definition_label

abbrev pub indexed_key : Records → ℕ → ℕ
indexed_key records d = field 4 (index_rec records d) format.definition_key

-- the twelve records of heads of a definition, by number
abbrev pub heads_of : Records → ℕ → ℕ → ℕ
heads_of records d c = field 4 (index_rec records d) (format.definition_heads + 4 * c)

-- the first entry of a bucket: fifteen buckets have their first entries in one record
abbrev pub first_entry : Records → ℕ → ℕ → ℕ
first_entry records d b =
    field 4 (index_rec records (heads_of records d (b / 15))) (format.heads_first + 4 * (b % 15))

-- entries
abbrev pub entry_node : Records → ℕ → ℕ
entry_node records x = field 4 (index_rec records x) format.indexed_node

abbrev pub entry_hash : Records → ℕ → ℕ
entry_hash records x = field 8 (index_rec records x) format.indexed_hash

abbrev pub next_entry : Records → ℕ → ℕ
next_entry records x = field 4 (index_rec records x) format.indexed_next

abbrev pub previous_entry : Records → ℕ → ℕ
previous_entry records x = field 4 (index_rec records x) format.indexed_previous

-- ---- what entries stand for

-- a node of this label has this key, with a value of this hash
pub record Entry : Type 0 where
  pub label : ℕ
  pub key : ℕ
  pub node : ℕ
  pub hash : ℕ

-- the entries that the indexes are to have
abbrev pub Entries : Type 0
Entries = Entry → Bool

abbrev pub is_entry : Entry → Entry → Bool
is_entry a b =
    nat_eq a.label b.label && (nat_eq a.key b.key && (nat_eq a.node b.node && nat_eq a.hash b.hash))

-- one more, and one less
abbrev pub with_entry : Entries → Entry → Entries
with_entry wanted one e = is_entry e one || wanted e

abbrev pub without_entry : Entries → Entry → Entries
without_entry wanted one e = not (is_entry e one) && wanted e

-- ---- the rule

-- what an entry's record says, in the index of a definition
abbrev pub entry_in : Records → ℕ → ℕ → Entry
entry_in records d x = record {
  label = indexed_label records d;
  key = indexed_key records d;
  node = entry_node records x;
  hash = entry_hash records x;
}

-- A bucket of a definition is the chain of these entries. Each is wanted, and has a hash of the
-- bucket.
pub record IsBucket (records : Records) (wanted : Entries) (d b : ℕ) (xs : List ℕ) : Type 0 where
  pub chain : IsChain (next_entry records) (previous_entry records) format.nil
      (first_entry records d b) xs
  pub kind : (x : ℕ) → In x xs → kind_at records format.index_file x ≡ format.indexed
  pub hash : (x : ℕ) → In x xs → bucket_of (entry_hash records x) ≡ b
  pub wanted_is : (x : ℕ) → In x xs → wanted (entry_in records d x) ≡ true

-- A wanted entry of a definition is in its bucket.
pub record HasEntry (records : Records) (d : ℕ) (e : Entry) (xs : List ℕ) : Type 0 where
  pub id : ℕ
  pub member : In id xs
  pub is : entry_in records d id ≡ e

-- the record is a definition, or a head or an entry of one
pub data IsOfIndex (records : Records) (definitions : List ℕ) (lists : ℕ → ℕ → List ℕ) (x : ℕ)
    : Type 0 where
  IsDefinition : In x definitions → IsOfIndex records definitions lists x
  IsHeads : (d c : ℕ) → In d definitions → c < 12 → heads_of records d c ≡ x
      → IsOfIndex records definitions lists x
  IsEntry : (d b : ℕ) → In d definitions → b < 180 → In x (lists d b)
      → IsOfIndex records definitions lists x

-- At most 16 definitions, no two of one label and key, each with twelve records of heads. Their
-- buckets have just one entry for each that is wanted. Each record in use is one of these, of just
-- one definition.
pub record AreIndexed (records : Records) (wanted : Entries) : Type 0 where
  pub definitions : List ℕ
  pub walk : IsWalk (next_definition records) (first_definition records) definitions
  pub few : length definitions ≤ 16
  pub defined : (d : ℕ) → In d definitions
      → kind_at records format.index_file d ≡ format.definition
  pub distinct : (d e : ℕ) → In d definitions → In e definitions
      → indexed_label records d ≡ indexed_label records e
      → indexed_key records d ≡ indexed_key records e → d ≡ e
  pub heads : (d c : ℕ) → In d definitions → c < 12
      → kind_at records format.index_file (heads_of records d c) ≡ format.heads
  pub heads_once : (d c e k : ℕ) → In d definitions → In e definitions → c < 12 → k < 12
      → heads_of records d c ≡ heads_of records e k → (d ≡ e) × (c ≡ k)
  pub lists : ℕ → ℕ → List ℕ
  pub buckets : (d b : ℕ) → In d definitions → b < 180 → IsBucket records wanted d b (lists d b)
  pub all : (d : ℕ) (e : Entry) → In d definitions → e.label ≡ indexed_label records d
      → e.key ≡ indexed_key records d → wanted e ≡ true
      → HasEntry records d e (lists d (bucket_of e.hash))
  pub once : (d b x y : ℕ) → In d definitions → b < 180 → In x (lists d b) → In y (lists d b)
      → entry_node records x ≡ entry_node records y → entry_hash records x ≡ entry_hash records y
      → x ≡ y
  pub one : (d b e c x : ℕ) → In d definitions → In e definitions → b < 180 → c < 180
      → In x (lists d b) → In x (lists e c) → d ≡ e
  pub held : (x : ℕ) → is_live records format.index_file x ≡ true
      → IsOfIndex records definitions lists x

-- ---- what the nodes have

-- the value of a key among properties
abbrev pub value_in : List Property → ℕ → Option Value
value_in [] key = None
value_in (e ∷ es) key = cond (nat_eq e.key key) (Some e.value) (value_in es key)

-- the properties that an element's records lead through
abbrev pub listed_from : PropertyRecords → ℕ → List Property
listed_from files first = map (property_at files) (property_ids files.properties first)

abbrev pub row_value : PropertyRecords → ℕ → ℕ → Option NodeRow → Option Value
row_value files label key None = None
row_value files label key (Some row) =
    cond (nat_eq row.label label) (value_in (listed_from files row.property) key) None

-- the value of a key at a node of a label
abbrev pub node_value : Records → ℕ → ℕ → ℕ → Option Value
node_value records label key n =
    row_value (property_records records) label key (node_at records n)

abbrev pub has_hash : ℕ → Option Value → Bool
has_hash hash None = false
has_hash hash (Some value) = nat_eq (hash_of value) hash

-- an entry for each node with label and key
abbrev pub wanted_in : Records → Entries
wanted_in records e = has_hash e.hash (node_value records e.label e.key e.node)

-- no record of the index is in use
abbrev pub HasNoIndex : Records → Type 0
HasNoIndex records = (x : ℕ) → kind_at records format.index_file x ≡ format.free_kind

-- the value is this one
abbrev pub has_value : Value → Option Value → Bool
has_value value None = false
has_value value (Some other) = is_eq (value_cmp other value)

-- ---- all eight rules

-- the records of a store of this shape, with indexes of what its nodes have
pub record IsIndexed (records : Records) (shape : Shape) : Type 0 where
  pub store : IsWellFormed records shape
  pub indexes : AreIndexed records (wanted_in records)
