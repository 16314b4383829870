-- The value of a key of a node, by what its record says.
use Rattle.std.proofs.Common.{◌≡◌, ◌≢◌, ℕ, ◌<◌, nat_eq, false, None, Some, cond, sym, ap, ◌∙◌, inl, arith, refl}
use Rattle.plain_graph.specs.declared.value.Value.{Value}
use Rattle.rec_bytes.specs.Format as format
use Rattle.rec_bytes.specs.Record.{field}
use Rattle.rec_bytes.specs.Space.{State}
use Rattle.rec_bytes.specs.declared.shape.Shape.{Shape}
use Rattle.store_rules.specs.Indexes.{listed_from, node_value, row_value, value_in}
use Rattle.store_rules.specs.Properties.{property_records}
use Rattle.store_rules.specs.Ranges.{AreInRange}
use Rattle.store_rules.specs.Rules.{IsWellFormed}
use Rattle.store_rules.specs.Views.{NodeRow, Records, high, kind_at, node_in, rec_at}
use Rattle.store_rules.proofs.NumberLaws.{eq_false, eq_true}
use Rattle.store_rules.proofs.Shapes.{high_most}
use Rattle.store_rules.proofs.ViewLaws.{kind_below, row_none, row_some}
use Rattle.prop_store.specs.Changing.{HasElement}
use Rattle.prop_store.specs.Finding.{value_of}
use Rattle.prop_store.specs.Owner.{IsOwner}
use Rattle.prop_store.specs.Reading.{properties_met}
use Rattle.prop_store.proofs.ElementChanges.{has_properties}
use Rattle.prop_store.proofs.ElementGraphs.{listed_at, owns_listed}
use Rattle.prop_index.specs.Gathering.{node_owner}
use Rattle.prop_index.proofs.Values.{value_in-is}
use Rattle.index_check.specs.Values.{AreReadable}

module _ (records : Records) (label key n : ℕ) where
  abbrev row : NodeRow
  row = node_in (rec_at records format.nodes_file n) n

  -- none of what is no node
  pub value_free : kind_at records format.nodes_file n ≡ 0 → node_value records label key n ≡ None
  value_free free = ap (row_value (property_records records) label key) (row_none (kind_at records format.nodes_file n) row free)

  used : kind_at records format.nodes_file n ≢ 0 → node_value records label key n ≡ cond (nat_eq row.label label)
      (value_in (listed_from (property_records records) row.property) key) None
  used some = ap (row_value (property_records records) label key) (row_some (kind_at records format.nodes_file n) row some)

  -- none of a node of another label
  pub value_other : kind_at records format.nodes_file n ≢ 0 → field 4 (rec_at records format.nodes_file n) format.node_label ≢ label
      → node_value records label key n ≡ None
  value_other some other = used some ∙ ap (λ b. cond b (value_in (listed_from (property_records records) row.property) key) None)
      (eq_false row.label label other)

  -- and of one of this label what its properties say
  pub value_met : kind_at records format.nodes_file n ≢ 0 → field 4 (rec_at records format.nodes_file n) format.node_label ≡ label
      → node_value records label key n ≡ value_of (properties_met records (node_owner n)) key
  value_met some same =
      used some ∙ ap (λ b. cond b (value_in (listed_from (property_records records) row.property) key) None) (eq_true row.label label same)
      ∙ value_in-is (listed_from (property_records records) row.property) key

  -- what has a value is below the mark
  pub value_low : (value : Value) → node_value records label key n ≡ Some value → n < high records format.nodes_file
  value_low value is = kind_below (high records format.nodes_file) (rec_at records format.nodes_file n) n
      (λ z. let none : None ≡ Some value = sym (value_free z) ∙ is in cc)

-- the properties of a store's nodes can be read
pub readable_of : (records : Records) (shape : Shape) → IsWellFormed records shape → AreReadable records
readable_of records shape store n some =
    let ranges : AreInRange records shape = store.ranges in
    let low : n < high records format.nodes_file = kind_below (high records format.nodes_file) (rec_at records format.nodes_file n) n some in
    let most = high_most records shape format.nodes_file ranges refl in
    let is : IsOwner (node_owner n) = record { key = record { file = refl; id = omega arith }; file = inl refl; place = refl } in
    let state : State = record { records = records; written = λ _. false; reads = 0; shape = shape } in
    let has : HasElement state (node_owner n) = record { store = store; used = some } in
    let es = listed_at state (node_owner n) is has in
    let owned = has_properties state (node_owner n) es (owns_listed state (node_owner n) is has) in
    (es, record { are = owned.are; ids_low = owned.ids_low; blocks_low = owned.blocks_low })
