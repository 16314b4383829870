-- Nodes whose properties can be read.
use Rattle.std.specs.Prelude.{◌≢◌, ℕ, List}
use Rattle.prop_index.specs.Gathering.{node_owner}
use Rattle.prop_store.specs.Owner.{HasProperties}
use Rattle.rec_bytes.specs.Format as format
use Rattle.store_rules.specs.Properties.{Property}
use Rattle.store_rules.specs.Views.{Records, kind_at}

-- each node in use has properties
abbrev pub AreReadable : Records → Type 0
AreReadable records =
    (n : ℕ) → kind_at records format.nodes_file n ≢ format.free_kind
    → (es : List Property) × HasProperties records (node_owner n) es
