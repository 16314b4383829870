-- The neighbours of a node by the rows of a store are those of its graph.
use Rattle.std.proofs.Common.{◌≡◌, ℕ, Bool, true, false, nat_eq, cond, List, [], ◌∷◌, ◌++◌, map, Contains, refl, sym, subst, ⊎_elim}
use Rattle.std.specs.List.{filter}
use Rattle.std.specs.List.Sorted.{IsPermutation}
use Rattle.std.proofs.lemmas.List.Elements.{Contains-append_cases}
use Rattle.std.proofs.lemmas.List.Sorted.{Contains-permutation, IsPermutation-sym}
use Rattle.plain_graph.specs.Graph.{Edge, has_node}
use Rattle.plain_graph.specs.declared.direction.Direction.{Direction}
use Rattle.plain_graph.specs.declared.direction.Direction.TheVariants as directions
use Rattle.rec_bytes.specs.Format as format
use Rattle.rec_bytes.specs.Space.{State}
use Rattle.rel_store.specs.declared.edge_row.EdgeRow.{EdgeRow}
use Rattle.store_rules.specs.Views.{Records, high, kind_at, rec_at, rel_in}
use Rattle.store_rules.proofs.GraphRows.{node_there}
use Rattle.store_rules.proofs.ViewLaws.{row_some, some_row}
use Rattle.chain_edit.specs.Walking.{edge_at}
use Rattle.expand.specs.Expanding.{AreRowsOf, edge_row_at, rows_of}
use Rattle.expand.specs.Matching.{rows_at}
use Rattle.store_rules.proofs.Members.{contains_collect, contains_filter, contains_image}
use Rattle.expand.proofs.ModelEdges.{rows_at_are}
use Rattle.plain_graph.specs.Adjacency.{far_end}
use Rattle.path_find.specs.Ends.{row_end}
use Rattle.path_find.specs.Reads.{StandFor, adjacency_of, neighbours_at}
use Rattle.path_find.specs.Tree.{AreNeighbours}
use Rattle.store_rules.specs.Rules.{IsWhole}
use Rattle.store_rules.specs.Graph.{graph_in}

-- rows and their edges have the same ends
ends-rows : (s : Records) (node : ℕ) (rows : List EdgeRow) (edges : List Edge) → AreRowsOf s rows edges → map (row_end node) rows ≡ map (far_end node) edges
ends-rows s node [] [] are = refl
ends-rows s node [] (edge ∷ edges) are = absurd are
ends-rows s node (row ∷ rows) [] are = absurd are
ends-rows s node (row ∷ rows) (edge ∷ edges) are =
    let is = are.0 in
    λ i. cond (nat_eq (is.from i) node) (is.to i) (is.from i) ∷ ends-rows s node rows edges are.1 i

in_both : (p q : EdgeRow → Bool) (rows : List EdgeRow) (row : EdgeRow) → Contains (filter p rows ++ filter q rows) row → Contains rows row
in_both p q rows row has =
    ⊎_elim (λ (first : Contains (filter p rows) row). (contains_filter p rows row first).0)
    (λ (second : Contains (filter q rows) row). (contains_filter q rows row second).0)
    (Contains-append_cases (filter p rows) (filter q rows) row has)

module _ (s : State) (store : IsWhole s) where
  -- the neighbours by rows are the graph's
  pub neighbours_are : (direction : Direction) (labels : List ℕ) (types : List (List ℕ)) → StandFor s.records labels types
      → neighbours_at s direction labels ≡ adjacency_of s direction types
  neighbours_are direction labels types stand =
      λ i. record {
        is_node = has_node (graph_in s);
        next = λ node. ends-rows s.records node (rows_at direction labels node (rows_of s.records)) _
            (rows_at_are s.records s.shape store labels types stand node direction) i;
      }

  -- the ends of a row are nodes
  row_nodes : (row : EdgeRow) → Contains (rows_of s.records) row → (has_node (graph_in s) row.from ≡ true) × (has_node (graph_in s) row.to ≡ true)
  row_nodes row has =
      let there = contains_collect (edge_row_at s.records) (high s.records format.relationships_file) row has in
      let x = there.0 in
      let used = some_row (kind_at s.records format.relationships_file x) (edge_at s.records x) row there.2 in
      let both = store.linked.ends x _ (row_some (kind_at s.records format.relationships_file x) (rel_in (rec_at s.records format.relationships_file x) x)
      used.0) in (
        subst (λ (r : EdgeRow). has_node (graph_in s) r.from ≡ true) used.1 (node_there s.records (edge_at s.records x).from both.from),
        subst (λ (r : EdgeRow). has_node (graph_in s) r.to ≡ true) used.1 (node_there s.records (edge_at s.records x).to both.to),
      )

  at_a_node : (direction : Direction) (labels : List ℕ) (node : ℕ) (row : EdgeRow) → Contains (rows_at direction labels node (rows_of s.records)) row
      → Contains (rows_of s.records) row
  at_a_node directions.Outgoing labels node row has = (contains_filter _ (rows_of s.records) row has).0
  at_a_node directions.Incoming labels node row has = (contains_filter _ (rows_of s.records) row has).0
  at_a_node directions.Both labels node row has = in_both _ _ (rows_of s.records) row has

  -- neighbours are nodes
  pub neighbour_there : (direction : Direction) (labels : List ℕ) (node end : ℕ) → Contains ((neighbours_at s direction labels).next node) end
      → has_node (graph_in s) end ≡ true
  neighbour_there direction labels node end has =
      let image = contains_image (row_end node) (rows_at direction labels node (rows_of s.records)) end has in
      let row = image.0 in
      let both = row_nodes row (at_a_node direction labels node row image.1) in
      subst (λ n. has_node (graph_in s) n ≡ true) (sym image.2) (either (nat_eq row.from node) row both.0 both.1)
    where
      either : (b : Bool) (row : EdgeRow) → has_node (graph_in s) row.from ≡ true → has_node (graph_in s) row.to ≡ true
          → has_node (graph_in s) (cond b row.to row.from) ≡ true
      either true row from to = to
      either false row from to = from

  -- the ends of the rows at a node, in any order
  pub are_neighbours : (direction : Direction) (labels : List ℕ) (node : ℕ) (rows : List EdgeRow) (found : List ℕ)
      → rows ≡ rows_at direction labels node (rows_of s.records) → IsPermutation (map (row_end node) rows) found
      → AreNeighbours (neighbours_at s direction labels) node found
  are_neighbours direction labels node rows found is moved =
      let all = subst (λ (r : List EdgeRow). IsPermutation (map (row_end node) r) found) is moved in
      let back = λ (end : ℕ) (has : Contains found end). Contains-permutation found ((neighbours_at s direction labels).next node) end
      (IsPermutation-sym ((neighbours_at s direction labels).next node) found all) has in
      record {
        only = back;
        all = λ end has. Contains-permutation ((neighbours_at s direction labels).next node) found end all has;
        nodes = λ end has. neighbour_there direction labels node end (back end has);
      }
