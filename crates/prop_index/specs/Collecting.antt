-- The nodes of a label that have a key, and what their entries say.
use Rattle.std.specs.Prelude.{◌≢◌, ℕ, Option, List}
use Rattle.std.specs.Option.{option_map}
use Rattle.rec_bytes.specs.Format as format
use Rattle.rec_bytes.specs.Space.{State}
use Rattle.store_rules.specs.Hashes.{hash_of}
use Rattle.store_rules.specs.Indexes.{node_value}
use Rattle.store_rules.specs.Rows.{collect}
use Rattle.store_rules.specs.Views.{Records, kind_at}
use Rattle.prop_index.specs.Gathering.{IsListedNode}
use Rattle.prop_index.specs.Reading.{HasRoom}
use Rattle.prop_index.specs.declared.entry_row.Content.{Content}

-- the hash of the value of the key, where the node has the label and the key
abbrev pub hash_at : Records → ℕ → ℕ → ℕ → Option ℕ
hash_at records label key n = option_map hash_of (node_value records label key n)

abbrev pub content_of : ℕ → ℕ → Content
content_of n hash = record { node = n; hash = hash }

abbrev pub content_at : Records → ℕ → ℕ → ℕ → Option Content
content_at records label key n = option_map (content_of n) (hash_at records label key n)

-- those of the nodes below a mark, by ascending node
abbrev pub contents_in : Records → ℕ → ℕ → ℕ → List Content
contents_in records label key mark = collect (content_at records label key) mark

-- each node in use can be read
pub record AreNodesReadable (s : State) : Type 0 where
  pub room : HasRoom s format.nodes_file
  pub each : (n : ℕ) → kind_at s.records format.nodes_file n ≢ format.free_kind → IsListedNode s n
