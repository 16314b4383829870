-- What a line that views an element is answered with, by what was loaded.
use Rattle.std.proofs.Common.{◌≡◌, ◌∙◌, ℕ, ◌+◌, true, false, Option, None, Some, List, [], ◌∷◌, find, length, map, refl, sym, ap, subst, nat_eq, arith}
use Rattle.std.specs.FinMap.{get-empty}
use Rattle.std.specs.List.{cons_option, filter_map}
use Rattle.std.specs.Option.{option_map}
use Rattle.std.specs.Prelude.{Err, Ok, OnOk, Result, is_some}
use Rattle.plain_graph.specs.ElementMaps.{element_map, pair_of, pairs_of}
use Rattle.plain_graph.specs.Graph.{Node, node_number, node_properties, properties_at}
use Rattle.plain_graph.specs.Meaning.{properties_of, texts_once, vertex_of}
use Rattle.plain_graph.specs.Properties.{Properties, no_properties}
use Rattle.plain_graph.specs.declared.command.Target.TheVariants as targets
use Rattle.plain_graph.specs.declared.element_map.ElementMap.{ElementMap}
use Rattle.plain_graph.specs.declared.item.Item.{Item}
use Rattle.plain_graph.specs.declared.item.Item.TheVariants as items
use Rattle.plain_graph.specs.declared.pairs.Pair.{Pair}
use Rattle.plain_graph.specs.declared.value.Value.{Value}
use Rattle.plain_graph.proofs.PropertyLaws.{order}
use Rattle.node_store.specs.declared.node_row.NodeRow.{NodeRow}
use Rattle.prop_store.specs.Reading.{ReadsAtMost, block_total}
use Rattle.prop_store.specs.declared.prop.Prop.{Prop}
use Rattle.prop_store.proofs.ReadCounts.{reads_then}
use Rattle.rec_bytes.specs.Space.{SameButReads, State}
use Rattle.rel_store.specs.Loading.{row_at}
use Rattle.rel_store.specs.declared.rel_row.RelRow.{RelRow}
use Rattle.rel_store.proofs.Rows.{kind-row_at-Some}
use Rattle.store_rules.specs.Graph.{graph_of}
use Rattle.store_rules.specs.Rules.{IsWellFormed}
use Rattle.store_rules.specs.Views.{Records}
use Rattle.traversal_run.specs.Elements.{Owns, owned_edge, owner_reads}
use Rattle.traversal_run.specs.Finding.{element_at, typed_edge, vertex_if}
use Rattle.traversal_run.specs.KeyValues.{AreRead, entries_of, entry_at}
use Rattle.traversal_run.specs.Naming.{name_at}
use Rattle.traversal_run.specs.Viewing.{property_reads, view_of, view_reads}
use Rattle.traversal_run.specs.declared.elements.Owned.{Owned}
use Rattle.traversal_run.proofs.Loaded.{edge_owned}
use Rattle.traversal_run.proofs.MapRows.{read_cost}
use Rattle.traversal_run.proofs.Owned.{owns_read}
use Rattle.traversal_run.proofs.TakenRows.{pairs-rows}
use Rattle.traversal_run.proofs.ValueOrder.{entries-from_entries}
use Rattle.traversal_run.proofs.ViewedElements.{element-typed, item_at-edge, item_at-node}

-- a node whose row was loaded
pub view-node : (s : Records) (id : ℕ) (row : Option NodeRow) (own : ElementMap) → element_at s false id ≡ vertex_if id row → is_some row ≡ true
    → own ≡ element_map (graph_of s) [] (items.Vertex id)
    → Some (items.Vertex id, own) ≡ view_of (graph_of s) (targets.Node id)
view-node s id None own is some same = absurd cc
view-node s id (Some row) own is some same =
    (λ i. Some (items.Vertex id, same i)) ∙ ap (option_map (λ (item : Item). (item, element_map (graph_of s) [] item))) (sym (item_at-node s id ∙ is))

pub view-no_node : (s : Records) (id : ℕ) (row : Option NodeRow) → element_at s false id ≡ vertex_if id row → is_some row ≡ false
    → None ≡ view_of (graph_of s) (targets.Node id)
view-no_node s id None is none = ap (option_map (λ (item : Item). (item, element_map (graph_of s) [] item))) (sym (item_at-node s id ∙ is))
view-no_node s id (Some row) is none = absurd cc

-- its owner needs no read
pub after_row : (n : ℕ) (s z t : State) (row : Option NodeRow) → is_some row ≡ true → ReadsAtMost 1 s z → ReadsAtMost (owner_reads row + n) z t
    → ReadsAtMost (1 + n) s t
after_row n s z t None some one later = absurd cc
after_row n s z t (Some row) some one later = reads_then 1 (0 + n) (1 + n) s z t (omega arith) one later

-- nor in what is left after reads
pub after_row-same : (properties : Records → Properties) (s z t : State) (row : Option NodeRow) → is_some row ≡ true → SameButReads s z → ReadsAtMost 1 s z
    → ReadsAtMost (owner_reads row + property_reads (properties z.records)) z t → ReadsAtMost (view_reads (properties s.records)) s t
after_row-same properties s z t row some same one later =
    after_row (property_reads (properties s.records)) s z t row some one
    (subst (λ (w : State). ReadsAtMost (owner_reads row + property_reads (properties w.records)) z t) same later)

-- what follows from what holds where there is a result
pub on_ok : {T E : Type 0} {P Q : Type 0} (r : Result T E) → (P → Q) → OnOk r P → OnOk r Q
on_ok (Ok x) more holds = more holds
on_ok (Err e) more holds = tt

-- ---- nodes that are not there

not_found : (node : Option Node) → option_map vertex_of node ≡ None → node ≡ None
not_found None none = refl
not_found (Some node) none = absurd cc

-- no properties, no pairs
no_pairs : (keys : List (List ℕ)) → pairs_of no_properties keys ≡ []
no_pairs keys = sym (pairs-rows no_properties keys) ∙ ap (map pair_of) (none (texts_once [] keys))
  where
    lacking : (keys : List (List ℕ)) → filter_map (entry_at no_properties) keys ≡ []
    lacking [] = refl
    lacking (key ∷ keys) =
        ap (λ (value : Option Value). cons_option (option_map (λ value. (key, value)) value) (filter_map (entry_at no_properties) keys)) (get-empty order key)
        ∙ lacking keys

    none : (keys : List (List ℕ)) → entries_of no_properties keys ≡ []
    none [] = entries-from_entries [] tt
    none (key ∷ keys) = lacking (key ∷ keys)

-- the map of a vertex that is no node is empty
pub map-no_node : (s : Records) (id : ℕ) (row : Option NodeRow) (keys : List (List ℕ)) (pairs : List Pair) → element_at s false id ≡ vertex_if id row
    → is_some row ≡ false → pairs ≡ [] → record { label = None; pairs = pairs } ≡ element_map (graph_of s) keys (items.Vertex id)
map-no_node s id None keys pairs is none empty =
    let lacks = not_found (find (λ node. nat_eq (node_number node) id) (graph_of s).nodes) (item_at-node s id ∙ is) in
    λ i. record {
      label = option_map (λ (node : Node). node.label) (sym lacks i);
      pairs = (empty ∙ sym (no_pairs keys) ∙ ap (λ (node : Option Node). pairs_of (node_properties node) keys) (sym lacks)) i;
    }
map-no_node s id (Some row) keys pairs is none empty = absurd cc

-- ---- edges

-- the edge of a row that was loaded by its identifier
abbrev pub edge_shown : Records → ℕ → RelRow → Item
edge_shown s id row = items.Edge id (name_at s row.label) row.from row.to

-- an edge that was loaded
pub view-edge : (s : Records) (id : ℕ) (item : Item) (own : ElementMap) → element_at s true id ≡ Some item → own ≡ element_map (graph_of s) [] item
    → Some (item, own) ≡ view_of (graph_of s) (targets.Edge id)
view-edge s id item own is same =
    (λ i. Some (item, same i)) ∙ ap (option_map (λ (item : Item). (item, element_map (graph_of s) [] item))) (sym (item_at-edge s id ∙ is))

pub view-no_edge : (s : Records) (id : ℕ) → element_at s true id ≡ None → None ≡ view_of (graph_of s) (targets.Edge id)
view-no_edge s id is = ap (option_map (λ (item : Item). (item, element_map (graph_of s) [] item))) (sym (item_at-edge s id ∙ is))

-- the owner of the properties of an edge that was loaded
pub edge_owns : (s z : State) (id : ℕ) (row : RelRow) (owned : Owned) → row_at s.records id ≡ Some row → owned ≡ owned_edge id row → SameButReads s z
    → Owns z (edge_shown s.records id row) owned
edge_owns s z id row owned found is same =
    owns_read s z (edge_shown s.records id row) owned same
    (subst (λ (owned : Owned). Owns s (edge_shown s.records id row) owned) (sym is)
    (edge_owned s id (name_at s.records row.label) row.from row.to row (sym found)))

-- what was read of its owner are its properties
pub edge_are : (s z : State) (id : ℕ) (row : RelRow) (owned : Owned) (props : List Prop) → row_at s.records id ≡ Some row → owned ≡ owned_edge id row
    → SameButReads s z
    → ((item : Item) → Owns z item owned → AreRead z.records props (properties_of (graph_of z.records) item))
    → AreRead s.records props (properties_at (graph_of s.records) (targets.Edge id))
edge_are s z id row owned props found is same read =
    subst (λ (w : State). AreRead w.records props (properties_at (graph_of w.records) (targets.Edge id))) same
    (read (edge_shown s.records id row) (edge_owns s z id row owned found is same))

-- an edge with its label and its pairs, as they were read
pub edge-mapped : (s : Records) (id : ℕ) (row : RelRow) (item : Item) (own : ElementMap) (text : List ℕ) → row_at s id ≡ Some row → item ≡ typed_edge s row
    → text ≡ name_at s row.label → own.label ≡ Some text
    → own.pairs ≡ pairs_of (properties_at (graph_of s) (targets.Edge id)) [] → Some (item, own) ≡ view_of (graph_of s) (targets.Edge id)
edge-mapped s id row item own text found is named label pairs =
    let number : id ≡ row.id = ap (λ (r : RelRow). r.id) (kind-row_at-Some s id row found).1 in
    let all = pairs ∙ ap (λ (n : ℕ). pairs_of (properties_at (graph_of s) (targets.Edge n)) []) number in
    view-edge s id item own (element-typed s id row found ∙ ap (λ (edge : Item). Some edge) (sym is))
    ((λ i. record { label = (label ∙ ap (λ (name : List ℕ). Some name) named) i; pairs = all i }) ∙ ap (element_map (graph_of s) []) (sym is))

-- the reads of an edge and of its properties
pub edge-cost : (s z t : State) (props : List Prop) (properties : Properties) → IsWellFormed s.records s.shape → AreRead s.records props properties
    → ReadsAtMost 1 s z → ReadsAtMost (length props + block_total props) z t
    → ReadsAtMost (view_reads properties) s t
edge-cost s z t props properties store are one later =
    reads_then 1 (property_reads properties) (view_reads properties) s z t (omega arith) one
    (subst (λ (n : ℕ). ReadsAtMost n z t) (read_cost s.records s.shape store props properties are) later)
