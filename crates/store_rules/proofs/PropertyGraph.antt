-- A change of one element's properties is that change of the graph.
use Rattle.std.proofs.Common.{◌≡◌, ◌≢◌, ℕ, ◌+◌, ◌≤◌, Option, None, Some, List, option_map, sym, ap, ◌∙◌, subst, inl, ⊎_elim, arith, refl}
use Rattle.plain_graph.specs.Graph.{change_edge, change_node, edge_number, node_number, with_change, with_properties}
use Rattle.plain_graph.specs.Properties.{Properties}
use Rattle.rec_bytes.specs.declared.record.Rec.{Rec}
use Rattle.rec_bytes.specs.declared.shape.Shape.{Shape}
use Rattle.rec_bytes.specs.Format as format
use Rattle.rec_bytes.specs.Record.{field}
use Rattle.store_rules.specs.Graph.{edge_from, edge_of, graph_of, indexes_from, indexes_of, names_of, node_from, node_of}
use Rattle.store_rules.specs.Properties.{Property, PropertyRecords, map_of, properties_from, property_records}
use Rattle.store_rules.specs.Rows.{collect}
use Rattle.store_rules.specs.Rules.{KeepsRules, node_first, rel_first}
use Rattle.store_rules.specs.Views.{NodeRow, Records, RelRow, high, kind_at, node_at, rec_at, rel_at, text_of}
use Rattle.store_rules.proofs.ElementProperties.{edge_used, node_used}
use Rattle.store_rules.proofs.GraphRows.{edges_numbered}
use Rattle.store_rules.proofs.NodeChange.{nodes_numbered}
use Rattle.store_rules.specs.PropertyChange.{ChangesProperties, property_from, target_in}
use Rattle.store_rules.proofs.PropertyFrames as fr
use Rattle.store_rules.proofs.PropertyLists as lists
use Rattle.store_rules.proofs.PropertyLists.{owner_in, owner_in-used, properties_from-is}
use Rattle.store_rules.proofs.PropertyStays.{properties_stay}
use Rattle.store_rules.proofs.RowChange.{collect_changed}

module _ (s t : Records) (shape : Shape) (file x : ℕ) (old new : List Property) (h : ChangesProperties s t shape file x old new) {most : ℕ} {empty : List ℕ}
    (well : KeepsRules s shape most empty) where
  -- what names are read from
  abbrev names : ℕ → Rec
  names = rec_at s format.names_file

  -- what properties were read from, and are now
  abbrev was : PropertyRecords
  was = property_records s

  abbrev now : PropertyRecords
  now = property_records t

  -- ---- other elements
  -- the properties of another element stay
  properties_other : (f y first : ℕ) → (f ≡ file → y ≢ x) → owner_in s f y ≡ Some first → properties_from names now first ≡ properties_from names was first
  properties_other f y first ne owned =
      let es = lists.listed s shape well f y in
      let are = lists.properties_right s shape well f y first owned in
      let mine = owner_in-used s file x h.element h.used in
      let stay = properties_stay was now first es
      (λ p i. (h.properties.kept p (lists.property_live s shape well f y first es owned are p i)
      (λ o. let k = lists.property_owned_once s shape well f y first file x (property_from s file x) es old owned mine are h.was p i o in ne k.0 k.1)).1)
      (λ b i. (h.strings.kept b (lists.block_live s shape well f y first es owned are b i)
      (λ o. let k = lists.block_owned_once s shape well f y first file x (property_from s file x) es old owned mine are h.was b i o in ne k.0 k.1)).1) are in
      properties_from-is now names first es stay ∙ sym (properties_from-is was names first es are)

  -- another node of the graph stays
  node_other : (y : ℕ) → (format.nodes_file ≡ file → y ≢ x) → node_of t y ≡ node_of s y
  node_other y ne = (λ i. node_from (fr.name_file s t shape file x old new h i) now (fr.node_other s t shape file x old new h y ne i))
      ∙ on (node_at s y) (λ row e. properties_other format.nodes_file y row.property ne (ap node_first e))
    where
      on : (o : Option NodeRow) → ((row : NodeRow) → o ≡ Some row → properties_from names now row.property ≡ properties_from names was row.property)
          → node_from names now o ≡ node_from names was o
      on None same = refl
      on (Some row) same = λ i. Some (record { id = row.id; label = text_of (names row.label); properties = same row refl i })

  -- another edge stays
  edge_other : (y : ℕ) → (format.relationships_file ≡ file → y ≢ x) → edge_of t y ≡ edge_of s y
  edge_other y ne = (λ i. edge_from (fr.name_file s t shape file x old new h i) now (fr.rel_other s t shape file x old new h y ne i))
      ∙ on (rel_at s y) (λ row e. properties_other format.relationships_file y row.property ne (ap rel_first e))
    where
      on : (o : Option RelRow) → ((row : RelRow) → o ≡ Some row → properties_from names now row.property ≡ properties_from names was row.property)
          → edge_from names now o ≡ edge_from names was o
      on None same = refl
      on (Some row) same = λ i. Some (record { id = row.id; label = text_of (names row.label); from = row.from; to = row.to; properties = same row refl i })

  -- as many nodes and edges may be in use
  mark_nodes : high t format.nodes_file ≡ high s format.nodes_file
  mark_nodes = fr.mark_same s t shape file x old new h format.nodes_file (λ e. omega arith) (λ e. omega arith)

  mark_edges : high t format.relationships_file ≡ high s format.relationships_file
  mark_edges = fr.mark_same s t shape file x old new h format.relationships_file (λ e. omega arith) (λ e. omega arith)

  -- the nodes stay where an edge changed
  nodes_stay : file ≡ format.relationships_file → (graph_of t).nodes ≡ (graph_of s).nodes
  nodes_stay e = λ i. collect (λ y. node_other y (λ k. absurd (omega arith)) i) (mark_nodes i)

  -- the edges stay where a node changed
  edges_stay : file ≡ format.nodes_file → (graph_of t).edges ≡ (graph_of s).edges
  edges_stay e = λ i. collect (λ y. edge_other y (λ k. absurd (omega arith)) i) (mark_edges i)

  -- the names stay
  names_stay : names_of t ≡ names_of s
  names_stay = λ i. collect (λ y. Some (text_of (fr.name_file s t shape file x old new h i y))) (fr.name_mark s t shape file x old new h i)

  -- and so do the indexes
  indexes_stay : indexes_of t ≡ indexes_of s
  indexes_stay = λ i. indexes_from (kinds i) (index i) (mark i) (fr.name_file s t shape file x old new h i) (fr.name_mark s t shape file x old new h i)
    where
      kinds : kind_at t format.index_file ≡ kind_at s format.index_file
      kinds = λ i y. fr.kind_same s t shape file x old new h format.index_file y refl (λ e. omega arith) (λ e. omega arith) i

      index : rec_at t format.index_file ≡ rec_at s format.index_file
      index = λ i y. fr.record_same s t shape file x old new h format.index_file y refl (λ e. omega arith) (λ e. omega arith) (λ e. omega (arith, h.element)) i

      mark : high t format.index_file ≡ high s format.index_file
      mark = fr.mark_same s t shape file x old new h format.index_file (λ e. omega arith) (λ e. omega arith)

  -- ---- the element itself, by a change that makes its new properties of its old ones
  module _ (change : Properties → Properties) (is : change (map_of names old) ≡ map_of names new) where
    -- its properties are the changed ones
    own_properties : (f : ℕ) → file ≡ f → properties_from (rec_at t format.names_file) now (property_from t f x) ≡ change
        (properties_from names was (property_from s f x))
    own_properties f e = (λ i. properties_from (fr.name_file s t shape file x old new h i) now (property_from t (sym e i) x))
        ∙ properties_from-is now names (property_from t file x) new h.now ∙ sym is
        ∙ ap change (sym (properties_from-is was names (property_from s file x) old h.was))
        ∙ ap (λ g. change (properties_from names was (property_from s g x))) e

    -- it is in use before and now
    used_both : (f : ℕ) → file ≡ f → (kind_at s f x ≢ format.free_kind) × (kind_at t f x ≢ format.free_kind)
    used_both f e = subst (λ g. (kind_at s g x ≢ format.free_kind) × (kind_at t g x ≢ format.free_kind)) e (h.used, fr.used_now s t shape file x old new h)

    -- as a node it is the changed one
    own_node : file ≡ format.nodes_file → node_of t x ≡ option_map (change_node change) (node_of s x)
    own_node e = node_used t x (used_both format.nodes_file e).1
        ∙ (λ i. Some (record {
          id = x;
          label = text_of (fr.name_file s t shape file x old new h i (fr.node_field s t shape file x old new h x format.node_label (inl (omega arith))
              (omega arith) i));
          properties = own_properties format.nodes_file e i;
        }))
        ∙ sym (ap (option_map (change_node change)) (node_used s x (used_both format.nodes_file e).0))

    -- as a relationship it has the ends and the type that it had
    rel_number : (at : ℕ) → (at + 4 ≤ 32) → field 4 (rec_at t format.relationships_file x) at ≡ field 4 (rec_at s format.relationships_file x) at
    rel_number at low = fr.rel_field s t shape file x old new h x at (inl low) (omega arith)

    -- as an edge it is the changed one
    own_edge : file ≡ format.relationships_file → edge_of t x ≡ option_map (change_edge change) (edge_of s x)
    own_edge e = edge_used t x (used_both format.relationships_file e).1
        ∙ (λ i. Some (record {
          id = x;
          label = text_of (fr.name_file s t shape file x old new h i (rel_number format.relationship_type (omega arith) i));
          from = rel_number format.relationship_source (omega arith) i;
          to = rel_number format.relationship_target (omega arith) i;
          properties = own_properties format.relationships_file e i;
        }))
        ∙ sym (ap (option_map (change_edge change)) (edge_used s x (used_both format.relationships_file e).0))

    -- so the nodes are those with the change
    nodes_changed : file ≡ format.nodes_file → (graph_of t).nodes ≡ with_change node_number x (change_node change) (graph_of s).nodes
    nodes_changed e = ap (collect (node_of t)) mark_nodes
        ∙ collect_changed node_number (node_of s) (node_of t) (high s format.nodes_file) x (change_node change) (nodes_numbered s) (own_node e)
        (λ y ne. node_other y (λ _. ne))

    -- or the edges
    edges_changed : file ≡ format.relationships_file → (graph_of t).edges ≡ with_change edge_number x (change_edge change) (graph_of s).edges
    edges_changed e = ap (collect (edge_of t)) mark_edges
        ∙ collect_changed edge_number (edge_of s) (edge_of t) (high s format.relationships_file) x (change_edge change) (edges_numbered s) (own_edge e)
        (λ y ne. edge_other y (λ _. ne))

    -- the graph is the old one with that change
    pub graph_changed : graph_of t ≡ with_properties (graph_of s) (target_in file x) change
    graph_changed = ⊎_elim
        (λ (e : file ≡ format.nodes_file). (λ i. record { nodes = nodes_changed e i; edges = edges_stay e i; names = names_stay i; indexes = indexes_stay i })
        ∙ ap (λ f. with_properties (graph_of s) (target_in f x) change) (sym e))
        (λ (e : file ≡ format.relationships_file). (λ i. record {
          nodes = nodes_stay e i;
          edges = edges_changed e i;
          names = names_stay i;
          indexes =
              indexes_stay i;
        }) ∙ ap (λ f. with_properties (graph_of s) (target_in f x) change) (sym e))
        h.element
