-- The graph of the records of a well-formed store: its records in use, by ascending identifier,
-- with the properties of each. No chain of relationships is followed.
use Rattle.std.specs.Prelude.{ℕ, nat_eq, nat_lt, Bool, true, ◌&&◌, if◌then◌else◌, Option, None}
use Rattle.std.specs.Prelude.{Some, List, length, flat_map}
use Rattle.plain_graph.specs.Graph.{Edge, Graph, Index, Node}
use Rattle.rec_bytes.specs.declared.record.Rec.{Rec}
use Rattle.rec_bytes.specs.Format as format
use Rattle.rec_bytes.specs.Record.{field}
use Rattle.store_rules.specs.Properties.{PropertyRecords, properties_from, property_records}
use Rattle.store_rules.specs.Rows.{collect, ids}
use Rattle.store_rules.specs.Views.{NodeRow, Records, RelRow, high, kind_at, node_at, rec_at}
use Rattle.store_rules.specs.Views.{rel_at}
use Rattle.store_rules.specs.Views.{text_of}
use Rattle.rec_bytes.specs.Space.{State}

abbrev pub node_from : (ℕ → Rec) → PropertyRecords → Option NodeRow → Option Node
node_from name_file files None = None
node_from name_file files (Some row) =
    Some (record {
      id = row.id;
      label = text_of (name_file row.label);
      properties = properties_from name_file files row.property;
    })

-- the node of this identifier, where it is in use
abbrev pub node_of : Records → ℕ → Option Node
node_of records x =
    node_from (rec_at records format.names_file) (property_records records) (node_at records x)

abbrev pub edge_from : (ℕ → Rec) → PropertyRecords → Option RelRow → Option Edge
edge_from name_file files None = None
edge_from name_file files (Some row) = Some (record {
  id = row.id;
  label = text_of (name_file row.label);
  from = row.from;
  to = row.to;
  properties = properties_from name_file files row.property;
})

-- the edge of this identifier, where it is in use
abbrev pub edge_of : Records → ℕ → Option Edge
edge_of records x =
    edge_from (rec_at records format.names_file) (property_records records) (rel_at records x)

abbrev pub names_of : Records → List (List ℕ)
names_of records =
    collect (λ x. Some (text_of (rec_at records format.names_file x)))
    (high records format.names_file)

-- a definition in use has this label and this key, by the kinds and the records of the index
abbrev pub is_definition_of : (ℕ → ℕ) → (ℕ → Rec) → ℕ → ℕ → ℕ → Bool
is_definition_of kind index label key d =
    nat_eq (kind d) format.definition
    && (nat_eq (field 4 (index d) format.definition_label) label
    && nat_eq (field 4 (index d) format.definition_key) key)

-- the index of a label and a key, where one of the definitions below the mark has them
abbrev pub index_from : (ℕ → ℕ) → (ℕ → Rec) → ℕ → (ℕ → Rec) → ℕ → ℕ → Option Index
index_from kind index mark name_file label key =
    if nat_lt 0 (length (ids (is_definition_of kind index label key) mark))
    then Some (record { label = text_of (name_file label); key = text_of (name_file key) })
    else None

-- the indexes by the numbers of label and key, of so many names
abbrev pub indexes_from : (ℕ → ℕ) → (ℕ → Rec) → ℕ → (ℕ → Rec) → ℕ → List Index
indexes_from kind index mark name_file names =
    flat_map (λ label. collect (index_from kind index mark name_file label) names)
    (ids (λ label. true) names)

abbrev pub indexes_of : Records → List Index
indexes_of records =
    indexes_from (kind_at records format.index_file) (rec_at records format.index_file)
    (high records format.index_file) (rec_at records format.names_file)
    (high records format.names_file)

abbrev pub graph_of : Records → Graph
graph_of records = record {
  nodes = collect (node_of records) (high records format.nodes_file);
  edges = collect (edge_of records) (high records format.relationships_file);
  names = names_of records;
  indexes = indexes_of records;
}

-- the graph of the records of a space
abbrev pub graph_in : State → Graph
graph_in s = graph_of s.records
