-- A change of the value that one key has at one node, and the entries that go with it.
use Rattle.std.specs.Prelude.{◌≡◌, ◌≢◌, ◌⊎◌, ℕ, ◌+◌, ◌*◌, ◌<◌, ◌≤◌, ◌^◌, Option, None, Some}
use Rattle.plain_graph.specs.declared.value.Value.{Value}
use Rattle.rec_bytes.specs.Format as format
use Rattle.rec_bytes.specs.Record.{field, with_field}
use Rattle.store_rules.specs.Hashes.{hash_of}
use Rattle.store_rules.specs.Indexes.{Entries, entry_hash, entry_node, first_definition, has_hash}
use Rattle.store_rules.specs.Indexes.{heads_of, index_rec, indexed_key, indexed_label}
use Rattle.store_rules.specs.Indexes.{next_definition, next_entry, node_value, previous_entry}
use Rattle.store_rules.specs.Indexes.{with_entry, without_entry}
use Rattle.store_rules.specs.Views.{Records, high, kind_at}

-- the entries without that of a value, and with that of one, where there is one
abbrev pub without_value : Entries → ℕ → ℕ → ℕ → Option Value → Entries
without_value wanted label key n None = wanted
without_value wanted label key n (Some value) =
    without_entry wanted (record { label = label; key = key; node = n; hash = hash_of value })

abbrev pub with_value : Entries → ℕ → ℕ → ℕ → Option Value → Entries
with_value wanted label key n None = wanted
with_value wanted label key n (Some value) =
    with_entry wanted (record { label = label; key = key; node = n; hash = hash_of value })

-- of these entries, the node has the one of this value for the key, if any, and no other
abbrev pub WantsValue : Entries → ℕ → ℕ → ℕ → Option Value → Type 0
WantsValue wanted label key n value =
    (hash : ℕ) → wanted (record { label = label; key = key; node = n; hash = hash })
    ≡ has_hash hash value

-- A node of this label had this value of the key, if any, and has that one. No other value of a
-- node changed.
pub record ChangesValue (s t : Records) (label key n : ℕ) (old new : Option Value) : Type 0 where
  pub was : node_value s label key n ≡ old
  pub now : node_value t label key n ≡ new
  pub others : (l k m : ℕ) → (l ≢ label) ⊎ ((k ≢ key) ⊎ (m ≢ n))
      → node_value t l k m ≡ node_value s l k m

-- ---- records of entries that changed

-- The entry leads to the one that stood first in the bucket, which leads back to it, and the head
-- leads to it. Its record was free, and no other record of the indexes changed.
pub record IsEntryMade (s t : Records) (x hid place node hash : ℕ) : Type 0 where
  pub fresh : kind_at s format.index_file x ≡ format.free_kind
  pub some : x ≢ format.nil
  pub small : x < 2 ^ 32
  pub grows : high s format.index_file ≤ high t format.index_file
  pub only : (y : ℕ) → y ≢ x → y < high t format.index_file → y < high s format.index_file
  pub first : first_definition t ≡ first_definition s
  pub kind : kind_at t format.index_file x ≡ format.indexed
  pub node_is : entry_node t x ≡ node
  pub hash_is : entry_hash t x ≡ hash
  pub next : next_entry t x ≡ field 4 (index_rec s hid) place
  pub previous : previous_entry t x ≡ format.nil
  pub after : field 4 (index_rec s hid) place ≢ format.nil
      → index_rec t (field 4 (index_rec s hid) place)
      ≡ with_field 4 (index_rec s (field 4 (index_rec s hid) place)) format.indexed_previous x
  pub head : index_rec t hid ≡ with_field 4 (index_rec s hid) place x
  pub others : (y : ℕ) → y ≢ x → y ≢ field 4 (index_rec s hid) place → y ≢ hid
      → index_rec t y ≡ index_rec s y

-- The entry's neighbours, or the head and the one after it, lead to each other. Its record is free,
-- and no other record of the indexes changed.
pub record IsEntryGone (s t : Records) (x hid place : ℕ) : Type 0 where
  pub mark : high t format.index_file ≡ high s format.index_file
  pub first : first_definition t ≡ first_definition s
  pub gone : kind_at t format.index_file x ≡ format.free_kind
  pub after : next_entry s x ≢ format.nil
      → index_rec t (next_entry s x)
      ≡ with_field 4 (index_rec s (next_entry s x)) format.indexed_previous (previous_entry s x)
  pub before : previous_entry s x ≢ format.nil
      → index_rec t (previous_entry s x)
      ≡ with_field 4 (index_rec s (previous_entry s x)) format.indexed_next (next_entry s x)
  pub head : previous_entry s x ≡ format.nil
      → index_rec t hid ≡ with_field 4 (index_rec s hid) place (next_entry s x)
  pub others : (y : ℕ) → y ≢ x → y ≢ next_entry s x → y ≢ previous_entry s x
      → (previous_entry s x ≡ format.nil → y ≢ hid) → index_rec t y ≡ index_rec s y

-- A definition of the pair came in front of the others, with twelve records of heads whose buckets
-- are empty. These thirteen records were free, and no other record of the indexes changed.
pub record IsDefinitionMade (s t : Records) (d label key : ℕ) : Type 0 where
  pub fresh : kind_at s format.index_file d ≡ format.free_kind
  pub kind : kind_at t format.index_file d ≡ format.definition
  pub label_is : indexed_label t d ≡ label
  pub key_is : indexed_key t d ≡ key
  pub first : first_definition t ≡ d
  pub next : next_definition t d ≡ first_definition s
  pub heads_fresh : (c : ℕ) → c < 12
      → kind_at s format.index_file (heads_of t d c) ≡ format.free_kind
  pub heads : (c : ℕ) → c < 12 → kind_at t format.index_file (heads_of t d c) ≡ format.heads
  pub heads_once : (c k : ℕ) → c < 12 → k < 12 → heads_of t d c ≡ heads_of t d k → c ≡ k
  pub empty : (c place : ℕ) → c < 12 → place < 15
      → field 4 (index_rec t (heads_of t d c)) (format.heads_first + 4 * place) ≡ format.nil
  pub kinds : (y : ℕ) → y ≢ d → ((c : ℕ) → c < 12 → y ≢ heads_of t d c)
      → kind_at t format.index_file y ≡ kind_at s format.index_file y
  pub others : (y : ℕ) → y ≢ d → ((c : ℕ) → c < 12 → y ≢ heads_of t d c)
      → index_rec t y ≡ index_rec s y
