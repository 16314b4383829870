-- The nodes and the edges of the graph, as the rows of their files.
use Rattle.std.specs.Prelude.{is_some}
use Rattle.std.proofs.Common.{List, ◌≡◌, ◌≢◌, ℕ, ◌≤◌, Bool, true, false, not, cond, nat_eq, Option, None, Some, length, sym, ap, ◌∙◌, arith, refl}
use Rattle.plain_graph.specs.Graph as plain
use Rattle.plain_graph.specs.Graph.{Edge, Node, degree_in, edge_number, has_edge, has_node, node_number}
use Rattle.rec_bytes.specs.declared.shape.Shape.{Shape}
use Rattle.rec_bytes.specs.Format as format
use Rattle.rec_bytes.specs.Space.{meta_in}
use Rattle.store_rules.specs.Graph.{edge_from, edge_of, graph_of, node_from, node_of}
use Rattle.store_rules.specs.Properties.{properties_from, property_records}
use Rattle.store_rules.specs.Rules.{KeepsRules, degree_of, stands_in}
use Rattle.store_rules.specs.Views.{Records, RelRow, degree, high, is_live, kind_at, node_in, rec_at, rel_at, rel_in, text_of}
use Rattle.store_rules.proofs.Counts.{length-collect, length-filter, length-ids, row_passes}
use Rattle.store_rules.proofs.NodeChange.{nodes_numbered}
use Rattle.store_rules.proofs.RowLaws.{fresh_collect, there_collect}
use Rattle.store_rules.proofs.Shapes.{high_most}
use Rattle.store_rules.proofs.ViewLaws.{kind_below, row_none, row_some}

-- ---- nodes

abbrev node_made : Records → ℕ → Node
node_made s id =
    let row = node_in (rec_at s format.nodes_file id) id in
    record {
      id = id;
      label = text_of (rec_at s format.names_file row.label);
      properties = properties_from (rec_at s format.names_file) (property_records s)
          row.property;
    }

-- an identifier in use is a node's
pub node_there : (s : Records) (id : ℕ) → kind_at s format.nodes_file id ≢ format.free_kind → has_node (graph_of s) id ≡ true
node_there s id used = there_collect node_number (node_of s) (high s format.nodes_file) id (node_made s id) refl
    (ap (node_from (rec_at s format.names_file) (property_records s)) (row_some (kind_at s format.nodes_file id) (node_in (rec_at s format.nodes_file id) id)
    used)) (kind_below (high s format.nodes_file) (rec_at s format.nodes_file id) id used)

-- an identifier that isn't in use is no node's
pub no_node : (s : Records) (id : ℕ) → kind_at s format.nodes_file id ≡ format.free_kind → has_node (graph_of s) id ≡ false
no_node s id free = fresh_collect node_number (node_of s) (high s format.nodes_file) id (nodes_numbered s)
    (ap (node_from (rec_at s format.names_file) (property_records s)) (row_none (kind_at s format.nodes_file id) (node_in (rec_at s format.nodes_file id) id)
    free))

-- ---- edges

-- each row of the edges has its own number
pub edges_numbered : (s : Records) (x : ℕ) (e : Edge) → edge_of s x ≡ Some e → edge_number e ≡ x
edges_numbered s x e h = on (nat_eq (kind_at s format.relationships_file x) 0) h
  where
    on : (b : Bool) → edge_from (rec_at s format.names_file) (property_records s) (cond b None (Some (rel_in (rec_at s format.relationships_file x) x))) ≡ Some
        e → e.id ≡ x
    on true h = absurd cc
    on false h = ap (λ (n : Edge). n.id) (inner _ e (sym h))
      where
        inner : (a b : Edge) → Some b ≡ Some a → b ≡ a
        inner a b e = cc

-- the count of edges is that of their file
pub count_edges : (s : Records) (shape : Shape) {most : ℕ} {empty : List ℕ} → KeepsRules s shape most empty
    → (meta_in s format.relationships_file).live ≡ length (graph_of s).edges
count_edges s shape keeps = (keeps.split format.relationships_file refl).1.exact
    ∙ sym (length-collect Edge (edge_of s) (is_live s format.relationships_file) (high s format.relationships_file)
    (λ x. on x (nat_eq (kind_at s format.relationships_file x) 0)))
  where
    on : (x : ℕ) (b : Bool) → is_some (edge_from (rec_at s format.names_file) (property_records s)
        (cond b None (Some (rel_in (rec_at s format.relationships_file x) x)))) ≡ not b
    on x true = refl
    on x false = refl

abbrev edge_made : Records → ℕ → Edge
edge_made s id =
    let row = rel_in (rec_at s format.relationships_file id) id in
    record {
      id = id;
      label = text_of (rec_at s format.names_file row.label);
      from = row.from;
      to = row.to;
      properties = properties_from (rec_at s format.names_file) (property_records s) row.property;
    }

-- an identifier in use is an edge's
pub edge_there : (s : Records) (id : ℕ) → kind_at s format.relationships_file id ≢ format.free_kind → has_edge (graph_of s) id ≡ true
edge_there s id used = there_collect edge_number (edge_of s) (high s format.relationships_file) id (edge_made s id) refl
    (ap (edge_from (rec_at s format.names_file) (property_records s)) (row_some (kind_at s format.relationships_file id)
    (rel_in (rec_at s format.relationships_file id) id) used)) (kind_below (high s format.relationships_file) (rec_at s format.relationships_file id)
    id used)

-- an identifier that isn't in use is no edge's
pub no_edge : (s : Records) (id : ℕ) → kind_at s format.relationships_file id ≡ format.free_kind → has_edge (graph_of s) id ≡ false
no_edge s id free = fresh_collect edge_number (edge_of s) (high s format.relationships_file) id (edges_numbered s)
    (ap (edge_from (rec_at s format.names_file) (property_records s)) (row_none (kind_at s format.relationships_file id)
    (rel_in (rec_at s format.relationships_file id) id) free))

-- ---- degrees

-- as many edges at a node as relationships
pub degree_in-rows : (s : Records) (n : ℕ) → degree_in (graph_of s) n ≡ degree_of (rel_at s) (high s format.relationships_file) n
degree_in-rows s n = length-filter Edge (edge_of s) (plain.is_at n) (λ x. stands_in n (rel_at s x)) (high s format.relationships_file) (λ x. on (rel_at s x))
  where
    on : (o : Option RelRow) → row_passes (plain.is_at n) (edge_from (rec_at s format.names_file) (property_records s) o) ≡ stands_in n o
    on None = refl
    on (Some row) = refl

-- so the degree that a node's record has is the graph's
pub degree_in-degree : (s : Records) (shape : Shape) {most : ℕ} {empty : List ℕ} → KeepsRules s shape most empty → (n : ℕ)
    → kind_at s format.nodes_file n ≢ format.free_kind → degree_in (graph_of s) n ≡ degree s n
degree_in-degree s shape keeps n used = degree_in-rows s n ∙ sym (keeps.degrees.each n used)

-- and a node has no more relationships than a file may have identifiers
pub degree_most : (s : Records) (shape : Shape) {most : ℕ} {empty : List ℕ} → KeepsRules s shape most empty → (n : ℕ)
    → kind_at s format.nodes_file n ≢ format.free_kind → degree s n ≤ format.most_ids
degree_most s shape keeps n used =
    let is = keeps.degrees.each n used in
    let few = length-ids (λ x. stands_in n (rel_at s x)) (high s format.relationships_file) in
    let most = high_most s shape format.relationships_file keeps.ranges refl in
    omega arith
