-- What a load of an element says of its item.
use Rattle.std.proofs.Common.{◌≡◌, ◌≢◌, ◌⊎◌, ℕ, Bool, true, false, ◌||◌, cond, nat_eq, None, Some, List, [], ◌∷◌}
use Rattle.std.proofs.Common.{find, inl, inr, refl, sym, ap, ◌∙◌, subst, ⊎_elim}
use Rattle.std.specs.List.{list_any}
use Rattle.std.specs.Option.{option_map}
use Rattle.std.specs.FinMap as maps
use Rattle.std.specs.FinMap.{get-empty}
use Rattle.plain_graph.specs.Graph.{Node, edge_number, edge_properties, node_number, node_properties, properties_at}
use Rattle.plain_graph.specs.Meaning.{label_of, properties_of}
use Rattle.plain_graph.specs.Properties.{no_properties}
use Rattle.plain_graph.specs.Values.{is_text}
use Rattle.plain_graph.specs.declared.command.Target.TheVariants as targets
use Rattle.plain_graph.specs.declared.item.Item.{Item}
use Rattle.plain_graph.specs.declared.item.Item.TheVariants as items
use Rattle.plain_graph.proofs.PropertyLaws.{order}
use Rattle.rec_bytes.specs.Format as format
use Rattle.rec_bytes.specs.Space.{State}
use Rattle.store_rules.specs.Graph.{graph_of, node_of}
use Rattle.store_rules.specs.Properties.{Property}
use Rattle.store_rules.specs.PropertyChange.{property_from, target_in}
use Rattle.store_rules.specs.Rules.{IsWellFormed}
use Rattle.store_rules.specs.Views.{Records, high, kind_at, rec_at}
use Rattle.store_rules.proofs.ElementProperties.{node_used}
use Rattle.store_rules.proofs.GraphRows.{no_edge, no_node}
use Rattle.store_rules.proofs.NodeChange.{nodes_numbered}
use Rattle.store_rules.proofs.RowChange.{find_collect}
use Rattle.store_rules.proofs.NumberLaws.{nat_cases}
use Rattle.store_rules.proofs.PropertyLists.{key_known, listed, owner_in-used, properties_right}
use Rattle.store_rules.proofs.PropertySteps.{value_lacked}
use Rattle.store_rules.proofs.ViewLaws.{kind_below, row_some}
use Rattle.node_store.specs.declared.node_row.NodeRow.{NodeRow}
use Rattle.node_store.specs.Loading as nodes
use Rattle.node_store.proofs.Rows as node_rows
use Rattle.rel_store.specs.Loading as rels
use Rattle.rel_store.specs.RelRecord.{row_of}
use Rattle.rel_store.specs.declared.rel_row.RelRow.{RelRow}
use Rattle.rel_store.proofs.Rows as rel_rows
use Rattle.traversal_run.specs.Elements.{IsOwnerOf, owned_edge}
use Rattle.traversal_run.specs.declared.elements.Owned.{Owned}
use Rattle.traversal_run.specs.Naming.{FindsName, name_at}
use Rattle.traversal_run.proofs.NamesKnown.{is_text-itself}

-- what no element passes is not found
pub find-none : {E : Type 0} (test : E → Bool) (xs : List E) → list_any test xs ≡ false → find test xs ≡ None
find-none test [] none = refl
find-none test (x ∷ xs) none = by (test x) (find-none test xs) none
  where
    by : (b : Bool) → (list_any test xs ≡ false → find test xs ≡ None) → b || list_any test xs ≡ false → cond b (Some x) (find test xs) ≡ None
    by true later e = absurd cc
    by false later e = later e

-- a node that isn't in use has no properties and no label
pub node_not_found : (s : Records) (id : ℕ) → kind_at s format.nodes_file id ≡ format.free_kind
    → find (λ node. nat_eq (node_number node) id) (graph_of s).nodes ≡ None
node_not_found s id free = find-none (λ node. nat_eq (node_number node) id) (graph_of s).nodes (no_node s id free)

no_node_properties : (s : Records) (id : ℕ) → kind_at s format.nodes_file id ≡ format.free_kind → properties_at (graph_of s) (targets.Node id) ≡ no_properties
no_node_properties s id free = ap node_properties (node_not_found s id free)

-- nor has an edge that isn't in use properties
no_edge_properties : (s : Records) (id : ℕ) → kind_at s format.relationships_file id ≡ format.free_kind
    → properties_at (graph_of s) (targets.Edge id) ≡ no_properties
no_edge_properties s id free = ap edge_properties (find-none (λ edge. nat_eq (edge_number edge) id) (graph_of s).edges (no_edge s id free))

-- no row of a relationship: it isn't in use
rel_free : (s : Records) (id : ℕ) → rels.row_at s id ≡ None → kind_at s format.relationships_file id ≡ format.free_kind
rel_free s id none = ⊎_elim (λ (e : kind ≡ 0). e) (λ (used : kind ≢ 0). absurd (let row = row_some kind (row_of (rec_at s format.relationships_file id) id)
    used in cc)) (nat_cases kind 0)
  where
    kind : ℕ
    kind = kind_at s format.relationships_file id

-- what is loaded tells of the owner
pub node_unowned : (s : State) (id : ℕ) → None ≡ nodes.row_at s.records id → IsOwnerOf s (items.Vertex id) None
node_unowned s id none = no_node_properties s.records id (node_rows.kind-row_at-None s.records id (sym none))

pub edge_unowned : (s : State) (id : ℕ) (label : List ℕ) (from to : ℕ) → None ≡ rels.row_at s.records id → IsOwnerOf s (items.Edge id label from to) None
edge_unowned s id label from to none = no_edge_properties s.records id (rel_free s.records id (sym none))

-- what was loaded owns the item's properties
abbrev pub node_owner : ℕ → NodeRow → Owned
node_owner id row = record { owner = record { key = record { file = format.nodes_file; id = id }; field = format.node_first_property }; first = row.props }

pub node_owned : (s : State) (id : ℕ) (row : NodeRow) → Some row ≡ nodes.row_at s.records id → IsOwnerOf s (items.Vertex id) (Some (node_owner id row))
node_owned s id row found =
    let is = node_rows.kind-row_at-Some s.records id row (sym found) in
    record { used = is.0; are = refl; first = ap (λ (r : NodeRow). r.props) is.1 }

pub edge_owned : (s : State) (id : ℕ) (label : List ℕ) (from to : ℕ) (row : RelRow) → Some row ≡ rels.row_at s.records id
    → IsOwnerOf s (items.Edge id label from to) (Some (owned_edge id row))
edge_owned s id label from to row found =
    let is = rel_rows.kind-row_at-Some s.records id row (sym found) in
    record { used = is.0; are = refl; first = sym (ap (λ (r : RelRow). r.property) is.1) }

pub no_node_label : (s : Records) (id : ℕ) → None ≡ nodes.row_at s id → label_of (graph_of s) (items.Vertex id) ≡ None
no_node_label s id none = ap (option_map (λ (node : Node). node.label)) (node_not_found s id (node_rows.kind-row_at-None s id (sym none)))

-- the label of a node in use is the name of its record's number
pub node_label-is : (s : Records) (id : ℕ) (row : NodeRow) → Some row ≡ nodes.row_at s id → label_of (graph_of s) (items.Vertex id) ≡ Some (name_at s row.label)
node_label-is s id row found =
    let is = node_rows.kind-row_at-Some s id row (sym found) in
    ap (option_map (λ (node : Node). node.label)) (find_collect node_number (node_of s) (high s format.nodes_file) id (nodes_numbered s)
    (kind_below (high s format.nodes_file) (rec_at s format.nodes_file id) id is.0) ∙ node_used s id is.0)
    ∙ ap (λ (r : NodeRow). Some (name_at s r.label)) (sym is.1)

-- ---- a text that is no name

module _ (s : State) (store : IsWellFormed s.records s.shape) (text : List ℕ) (none : FindsName s.records None text) where
  -- an element in use has no value of it
  lacks_value : (file x : ℕ) → (file ≡ format.nodes_file) ⊎ (file ≡ format.relationships_file) → kind_at s.records file x ≢ format.free_kind
      → maps.get (properties_at (graph_of s.records) (target_in file x)) text ≡ None
  lacks_value file x element used =
      let es : List Property = listed s.records s.shape store file x in
      let first = property_from s.records file x in
      let owned = owner_in-used s.records file x element used in
      let are = properties_right s.records s.shape store file x first owned in
      value_lacked s.records s.shape store file x element used es text are (λ k i e.
      absurd (let no = none k (key_known s.records s.shape store file x first es owned are k i) in let yes = subst (λ t. is_text text t ≡ true) (sym e)
      (is_text-itself text) in cc))

  none_of_none : maps.get no_properties text ≡ None
  none_of_none = get-empty order text

  -- nor has any item
  pub no_name_no_value : (item : Item) → maps.get (properties_of (graph_of s.records) item) text ≡ None
  no_name_no_value (items.Vertex id) = ⊎_elim
      (λ (free : kind_at s.records format.nodes_file id ≡ 0). ap (λ m. maps.get m text) (no_node_properties s.records id free) ∙ none_of_none)
      (λ (used : kind_at s.records format.nodes_file id ≢ 0). lacks_value format.nodes_file id (inl refl) used)
      (nat_cases (kind_at s.records format.nodes_file id) 0)
  no_name_no_value (items.Edge id label from to) = ⊎_elim
      (λ (free : kind_at s.records format.relationships_file id ≡ 0). ap (λ m. maps.get m text) (no_edge_properties s.records id free) ∙ none_of_none)
      (λ (used : kind_at s.records format.relationships_file id ≢ 0). lacks_value format.relationships_file id (inr refl) used)
      (nat_cases (kind_at s.records format.relationships_file id) 0)
  no_name_no_value (items.Value value) = none_of_none
