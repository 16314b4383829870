-- A node that is added.
use Rattle.std.specs.Prelude.{◌≡◌, ◌≢◌, ℕ, ◌<◌, false, List, Some, length, slice_get}
use Rattle.plain_graph.specs.Graph.{has_node, node_number, with_row}
use Rattle.plain_graph.specs.Properties.{no_properties}
use Rattle.rec_bytes.specs.Format as format
use Rattle.rec_bytes.specs.Space.{State, meta_of}
use Rattle.rec_bytes.specs.Record.{field}
use Rattle.store_rules.specs.Indexes.{wanted_in}
use Rattle.store_rules.specs.RuleList.{IsSameFile}
use Rattle.store_rules.specs.Views.{Records, kind_at, rec_at}
use Rattle.node_store.specs.declared.node_row.NodeRow.{NodeRow}
use Rattle.node_changes.specs.Entries.{LacksEntries}
use Rattle.change_parts.specs.Store.{IsMidway, KeepsIndexes}
use Rattle.store_rules.specs.Graph.{graph_in}

-- as many nodes as the store has room for
abbrev pub IsFullOfNodes : State → Type 0
IsFullOfNodes s = length (graph_in s).nodes ≡ s.shape.limit

-- Whatever else the records are, a node of this number is in use, its first link is to a
-- relationship, and it has the label of this number.
pub record IsNodeOf (records : Records) (id label : ℕ) : Type 0 where
  pub sparse : kind_at records format.nodes_file id ≡ format.sparse
  pub label_is : field 4 (rec_at records format.nodes_file id) format.node_label ≡ label

-- so it is, and the number is that of this label among the names
abbrev pub IsNodeLabelled : Records → List (List ℕ) → ℕ → List ℕ → Type 0
IsNodeLabelled records names id label =
    (number : ℕ) × (slice_get names number ≡ Some label) × IsNodeOf records id number

-- a node without relationships and properties
abbrev pub new_row : ℕ → ℕ → NodeRow
new_row id label = record {
  id = id;
  label = label;
  dense = false;
  first = format.nil;
  props = format.nil;
  degree = 0;
}

-- The store has one more node, of this label, without relationships and properties, and so without
-- an entry. The number is the label's among the names.
pub record PutsNode (s t : State) (names : List (List ℕ)) (number : ℕ) (label : List ℕ) (id : ℕ)
    : Type 0 where
  pub store : IsMidway t names
  pub keeps : KeepsIndexes s t
  pub indexes : (graph_in t).indexes ≡ (graph_in s).indexes
  pub below : id < s.shape.limit
  pub fresh : has_node (graph_in s) id ≡ false
  pub nodes : (graph_in t).nodes
      ≡ with_row node_number (record { id = id; label = label; properties = no_properties })
      (graph_in s).nodes
  pub edges : (graph_in t).edges ≡ (graph_in s).edges
  pub numbered : field 4 (rec_at t.records format.nodes_file id) format.node_label ≡ number
  pub file : IsSameFile s.records t.records format.index_file
  pub lacks : LacksEntries (wanted_in t.records) id
  pub metas : (file : ℕ) → file ≢ format.nodes_file → meta_of t file ≡ meta_of s file
