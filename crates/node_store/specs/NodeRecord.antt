-- The record of a node, and the row that it is.
use Rattle.std.specs.Prelude.{ℕ, Bool, ◌||◌, nat_eq, if◌then◌else◌, [], ◌∷◌}
use Rattle.rec_bytes.specs.declared.key.Key.{Key}
use Rattle.rec_bytes.specs.declared.record.Rec.{Rec}
use Rattle.rec_bytes.specs.Format as format
use Rattle.rec_bytes.specs.Record.{field, zeros}
use Rattle.rec_bytes.specs.Tables.{Fields, with_fields}
use Rattle.node_store.specs.declared.node_row.NodeRow.{NodeRow}

abbrev pub node_key : ℕ → Key
node_key id = record { file = format.nodes_file; id = id }

abbrev pub kind_of : Bool → ℕ
kind_of dense = if dense then format.dense else format.sparse

-- the numbers of the record, each with its place and its width
abbrev pub node_fields : NodeRow → Fields
node_fields row =
    (format.kind, 1, kind_of row.dense) ∷ (format.node_label, 4, row.label)
    ∷ (format.node_first_link, 4, row.first) ∷ (format.node_first_property, 4, row.props)
    ∷ (format.node_degree, 4, row.degree) ∷ []

abbrev pub node_record : NodeRow → Rec
node_record row = with_fields zeros (node_fields row)

-- the fields of the record of a node in use
abbrev pub row_of : Rec → ℕ → NodeRow
row_of rec id = record {
  id = id;
  label = field 4 rec format.node_label;
  dense = nat_eq (field 1 rec format.kind) format.dense;
  first = field 4 rec format.node_first_link;
  props = field 4 rec format.node_first_property;
  degree = field 4 rec format.node_degree;
}

-- the kinds of a node
abbrev pub is_node_kind : ℕ → Bool
is_node_kind kind = nat_eq kind format.sparse || nat_eq kind format.dense
