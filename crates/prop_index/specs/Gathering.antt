-- The nodes of a bucket that have a value.
use Rattle.std.specs.Prelude.{◌≡◌, ◌≢◌, ℕ, ◌<◌, ◌≤◌, nat_eq, Bool, ◌&&◌, List, length, map}
use Rattle.std.specs.List.{filter}
use Rattle.plain_graph.specs.declared.value.Value.{Value}
use Rattle.rec_bytes.specs.declared.damage.Damage.{Damage}
use Rattle.rec_bytes.specs.declared.record.Rec.{Rec}
use Rattle.rec_bytes.specs.Format as format
use Rattle.rec_bytes.specs.RecordFiles.{room_of}
use Rattle.rec_bytes.specs.Space.{State}
use Rattle.store_rules.specs.Chains.{In, IsWalk}
use Rattle.store_rules.specs.IndexBreaking.{LeadsToEntry}
use Rattle.store_rules.specs.Indexes.{entry_hash, entry_node, has_value, index_rec, next_entry}
use Rattle.store_rules.specs.Indexes.{value_in}
use Rattle.store_rules.specs.Properties.{Property}
use Rattle.store_rules.specs.Views.{Records, high, key_in, kind_at}
use Rattle.prop_index.specs.Reading.{HasRoom, damage_of}
use Rattle.prop_store.specs.Owner.{HasProperties}
use Rattle.prop_store.specs.Reading.{properties_met}
use Rattle.prop_store.specs.declared.owner.Owner.{Owner}

abbrev pub node_owner : ℕ → Owner
node_owner n = record { key = key_in format.nodes_file n; field = format.node_first_property }

-- the node is in use, and has properties that can be read
pub record IsListedNode (s : State) (n : ℕ) : Type 0 where
  pub room : HasRoom s format.nodes_file
  pub low : n < high s.records format.nodes_file
  pub used : kind_at s.records format.nodes_file n ≢ format.free_kind
  pub properties : List Property
  pub has : HasProperties s.records (node_owner n) properties

-- the entry has the hash, and so has its node the value
abbrev pub is_hashed : Records → ℕ → ℕ → Bool
is_hashed records hash x = nat_eq (entry_hash records x) hash

abbrev pub is_picked : Records → ℕ → ℕ → Value → ℕ → Bool
is_picked records key hash value x =
    is_hashed records hash x
    && has_value value (value_in (properties_met records (node_owner (entry_node records x))) key)

-- the nodes of the entries of a chain that are so
abbrev pub nodes_with : Records → ℕ → ℕ → Value → List ℕ → List ℕ
nodes_with records key hash value xs =
    map (entry_node records) (filter (is_picked records key hash value) xs)

-- how many have the hash
abbrev pub count_hashed : Records → ℕ → List ℕ → ℕ
count_hashed records hash xs = length (filter (is_hashed records hash) xs)

-- the entries from one on, no more than were given out
pub record AreEntries (s : State) (first : ℕ) (xs : List ℕ) : Type 0 where
  pub walk : IsWalk (next_entry s.records) first xs
  pub few : length xs ≤ high s.records format.index_file
  pub kind : (x : ℕ) → In x xs → kind_at s.records format.index_file x ≡ format.indexed

-- besides, the nodes of those with the hash can be read
pub record AreReadable (s : State) (hash : ℕ) (xs : List ℕ) : Type 0 where
  pub room : HasRoom s format.index_file
  pub nodes : (x : ℕ) → In x xs → entry_hash s.records x ≡ hash
      → IsListedNode s (entry_node s.records x)

-- No node of the number was given out, and the record that names it is damaged. Or the nodes' mark
-- is above the room, and their meta record is.
pub data IsOwnerDamage (s : State) (node : ℕ) (named : Damage) : Damage → Type 0 where
  NamesNone : high s.records format.nodes_file ≤ node → IsOwnerDamage s node named named
  HighNodes : room_of s.shape format.nodes_file < high s.records format.nodes_file
      → IsOwnerDamage s node named (damage_of format.meta_file format.nodes_file 1)

-- The record of an entry to which a bucket leads.
pub record IsEntryMet (records : Records) (d b count x : ℕ) (rec : Rec) : Type 0 where
  pub leads : LeadsToEntry records d b count x
  pub used : kind_at records format.index_file x ≡ format.indexed
  pub rec_is : rec ≡ index_rec records x
