-- The properties that an element in use has in the graph.
use Rattle.std.proofs.Common.{◌≡◌, ◌≢◌, ◌⊎◌, ℕ, true, Some, List, option_map, sym, ap, ◌∙◌, subst, ⊎_elim, refl}
use Rattle.plain_graph.specs.Graph.{Edge, Node, change_edge, change_node, edge_number, edge_properties, has_element}
use Rattle.plain_graph.specs.Graph.{node_number, node_properties, properties_at, with_properties}
use Rattle.plain_graph.specs.Properties.{Properties}
use Rattle.plain_graph.specs.declared.command.Target.TheVariants as targets
use Rattle.rec_bytes.specs.declared.record.Rec.{Rec}
use Rattle.rec_bytes.specs.Format as format
use Rattle.store_rules.specs.Graph.{edge_from, edge_of, graph_of, node_from, node_of}
use Rattle.store_rules.specs.Properties.{AreProperties, Property, map_of, properties_from, property_records}
use Rattle.store_rules.specs.Views.{Records, high, kind_at, node_in, rec_at, rel_in, text_of}
use Rattle.store_rules.proofs.GraphRows.{edge_there, edges_numbered, node_there}
use Rattle.store_rules.proofs.NodeChange.{nodes_numbered}
use Rattle.store_rules.specs.PropertyChange.{property_from, target_in}
use Rattle.store_rules.proofs.PropertyLists.{properties_from-is}
use Rattle.store_rules.proofs.RowChange.{collect_changed, find_collect}
use Rattle.store_rules.proofs.ViewLaws.{kind_below, row_some}

module _ (s : Records) (x : ℕ) where
  -- the records of names
  abbrev pub names : ℕ → Rec
  names = rec_at s format.names_file

  -- the node that the record of an identifier says
  abbrev pub node_here : Node
  node_here = let row = node_in (rec_at s format.nodes_file x) x in record
      { id = x; label = text_of (names row.label); properties = properties_from names (property_records s) row.property }

  -- it is one of the graph where the record is in use
  pub node_used : kind_at s format.nodes_file x ≢ format.free_kind → node_of s x ≡ Some node_here
  node_used used = ap (node_from names (property_records s)) (row_some (kind_at s format.nodes_file x) (node_in (rec_at s format.nodes_file x) x) used)

  -- the edge that the record of an identifier says
  abbrev pub edge_here : Edge
  edge_here =
      let row = rel_in (rec_at s format.relationships_file x) x in
      record { id = x; label = text_of (names row.label); from = row.from; to = row.to; properties = properties_from names (property_records s) row.property }

  -- it is one of the graph where the record is in use
  pub edge_used : kind_at s format.relationships_file x ≢ format.free_kind → edge_of s x ≡ Some edge_here
  edge_used used = ap (edge_from names (property_records s)) (row_some (kind_at s format.relationships_file x) (rel_in (rec_at s format.relationships_file x) x)
      used)

  -- a node has the properties that its record leads to
  node_at-properties : kind_at s format.nodes_file x ≢ format.free_kind
      → properties_at (graph_of s) (targets.Node x) ≡ properties_from names (property_records s) (property_from s format.nodes_file x)
  node_at-properties used = ap node_properties
      (find_collect node_number (node_of s) (high s format.nodes_file) x (nodes_numbered s) (kind_below (high s format.nodes_file)
      (rec_at s format.nodes_file x) x used) ∙ node_used used)

  -- and so has an edge
  edge_at-properties : kind_at s format.relationships_file x ≢ format.free_kind
      → properties_at (graph_of s) (targets.Edge x) ≡ properties_from names (property_records s) (property_from s format.relationships_file x)
  edge_at-properties used = ap edge_properties
      (find_collect edge_number (edge_of s) (high s format.relationships_file) x (edges_numbered s) (kind_below (high s format.relationships_file)
      (rec_at s format.relationships_file x) x used) ∙ edge_used used)

-- an element in use is one of the graph
pub has_element-used : (s : Records) (file x : ℕ) → (file ≡ format.nodes_file) ⊎ (file ≡ format.relationships_file) → kind_at s file x ≢ format.free_kind
    → has_element (graph_of s) (target_in file x) ≡ true
has_element-used s file x element used = ⊎_elim
    (λ (e : file ≡ format.nodes_file). ap (λ f. has_element (graph_of s) (target_in f x)) e ∙ node_there s x (subst (λ f. kind_at s f x ≢ format.free_kind)
    e used))
    (λ (e : file ≡ format.relationships_file). ap (λ f. has_element (graph_of s) (target_in f x)) e ∙ edge_there s x
    (subst (λ f. kind_at s f x ≢ format.free_kind) e used)) element

-- and has the properties that its records have
pub properties_at-is : (s : Records) (file x : ℕ) (es : List Property) → (file ≡ format.nodes_file) ⊎ (file ≡ format.relationships_file)
    → kind_at s file x ≢ format.free_kind
    → AreProperties (property_records s) (property_from s file x) es → properties_at (graph_of s) (target_in file x) ≡ map_of (rec_at s format.names_file) es
properties_at-is s file x es element used are = ⊎_elim
    (λ (e : file ≡ format.nodes_file). ap (λ f. properties_at (graph_of s) (target_in f x)) e ∙ node_at-properties s x
    (subst (λ f. kind_at s f x ≢ format.free_kind) e used) ∙ read format.nodes_file e)
    (λ (e : file ≡ format.relationships_file). ap (λ f. properties_at (graph_of s) (target_in f x)) e ∙ edge_at-properties s x
    (subst (λ f. kind_at s f x ≢ format.free_kind) e used) ∙ read format.relationships_file e) element
  where
    read : (f : ℕ) → file ≡ f → properties_from (rec_at s format.names_file) (property_records s) (property_from s f x) ≡ map_of (rec_at s format.names_file) es
    read f e = ap (λ g. properties_from (rec_at s format.names_file) (property_records s) (property_from s g x)) (sym e)
        ∙ properties_from-is (property_records s) (rec_at s format.names_file) (property_from s file x) es are

-- a change that leaves them leaves the graph
pub graph_kept : (s : Records) (file x : ℕ) (es : List Property) → (file ≡ format.nodes_file) ⊎ (file ≡ format.relationships_file)
    → kind_at s file x ≢ format.free_kind
    → AreProperties (property_records s) (property_from s file x) es → (change : Properties → Properties)
    → change (map_of (rec_at s format.names_file) es) ≡ map_of (rec_at s format.names_file) es
    → with_properties (graph_of s) (target_in file x) change ≡ graph_of s
graph_kept s file x es element used are change same = ⊎_elim
    (λ (e : file ≡ format.nodes_file). ap (λ f. with_properties (graph_of s) (target_in f x) change) e ∙ (λ i. record (graph_of s) {
      nodes = sym (collect_changed node_number (node_of s) (node_of s) (high s format.nodes_file) x (change_node change) (nodes_numbered s)
          (node_used s x (used_at format.nodes_file e) ∙ (λ j. Some (record (node_here s x) { properties = sym (kept format.nodes_file e) j }))
          ∙ sym (ap (option_map (change_node change)) (node_used s x (used_at format.nodes_file e)))) (λ y ne. refl)) i;
    }))
    (λ (e : file ≡ format.relationships_file). ap (λ f. with_properties (graph_of s) (target_in f x) change) e ∙ (λ i. record (graph_of s) {
      edges = sym (collect_changed edge_number (edge_of s) (edge_of s) (high s format.relationships_file) x (change_edge change) (edges_numbered s)
          (edge_used s x (used_at format.relationships_file e) ∙ (λ j. Some (record (edge_here s x) { properties = sym (kept format.relationships_file e) j }))
          ∙ sym (ap (option_map (change_edge change)) (edge_used s x (used_at format.relationships_file e)))) (λ y ne. refl)) i;
    })) element
  where
    used_at : (f : ℕ) → file ≡ f → kind_at s f x ≢ format.free_kind
    used_at f e = subst (λ g. kind_at s g x ≢ format.free_kind) e used

    kept : (f : ℕ) → file ≡ f → change (properties_from (rec_at s format.names_file) (property_records s) (property_from s f x)) ≡ properties_from
        (rec_at s format.names_file) (property_records s) (property_from s f x)
    kept f e =
        let read = ap (λ g. properties_from (rec_at s format.names_file) (property_records s) (property_from s g x)) (sym e)
        ∙ properties_from-is (property_records s) (rec_at s format.names_file) (property_from s file x) es are in
        ap change read ∙ same ∙ sym read
