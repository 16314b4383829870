-- A node with more edges than a sparse one may have is dense.
use Rattle.std.proofs.Common.{◌≡◌, ◌≢◌, ◌<◌, ◌+◌, ℕ, true, cond, List, get_or, sym, ap, subst, ⊎_elim, arith}
use Rattle.std.specs.List.{filter}
use Rattle.std.proofs.lemmas.List.Elements.{Contains-get_or}
use Rattle.plain_graph.specs.Graph.{degree_in}
use Rattle.plain_graph.specs.declared.direction.Direction.{Direction}
use Rattle.rec_bytes.specs.Format as format
use Rattle.rec_bytes.specs.Space.{State}
use Rattle.store_rules.specs.Views.{high, kind_at, rec_at, rel_in}
use Rattle.store_rules.proofs.GraphRows.{degree_in-degree}
use Rattle.store_rules.proofs.NumberLaws.{eq_true, nat_cases}
use Rattle.store_rules.proofs.ViewLaws.{row_some, some_row}
use Rattle.rel_store.specs.declared.edge_row.EdgeRow.{EdgeRow}
use Rattle.chain_edit.specs.Walking.{edge_at}
use Rattle.group_store.proofs.ChainHeads.{sparse_unless}
use Rattle.expand.specs.Costs.{dense_reads, most_reads}
use Rattle.expand.specs.Expanding.{edge_row_at, rows_of}
use Rattle.expand.specs.Matching.{is_at}
use Rattle.expand.proofs.GroupHeads.{end_at}
use Rattle.store_rules.proofs.Members.{contains_collect, contains_filter}
use Rattle.expand.proofs.ModelEdges.{length-at_node}
use Rattle.store_rules.specs.Rules.{IsWhole}
use Rattle.store_rules.specs.Graph.{graph_in}

module _ (s : State) (store : IsWhole s) (n : ℕ) (many : s.shape.threshold < degree_in (graph_in s) n) where
  -- it has an edge, whose ends are nodes
  used : kind_at s.records format.nodes_file n ≢ 0
  used =
      let rows = filter (is_at n) (rows_of s.records) in
      let none : EdgeRow = record { id = 0; label = 0; from = 0; to = 0 } in
      let long = length-at_node s.records s.shape store n in
      let one = contains_filter (is_at n) (rows_of s.records) (get_or rows 0 none) (Contains-get_or rows 0 none (omega arith)) in
      let found = contains_collect (edge_row_at s.records) (high s.records format.relationships_file) (get_or rows 0 none) one.0 in
      let is = some_row (kind_at s.records format.relationships_file found.0) (edge_at s.records found.0) (get_or rows 0 none) found.2 in
      let row = rel_in (rec_at s.records format.relationships_file found.0) found.0 in
      let ends = store.linked.ends found.0 row (row_some (kind_at s.records format.relationships_file found.0) row is.0) in
      ⊎_elim
      (λ (from : row.from ≡ n). subst (λ x. kind_at s.records format.nodes_file x ≢ 0) from ends.from)
      (λ (to : row.to ≡ n). subst (λ x. kind_at s.records format.nodes_file x ≢ 0) to ends.to)
      (end_at n (edge_at s.records found.0) (subst (λ (r : EdgeRow). is_at n r ≡ true) (sym is.1) one.1))

  dense : kind_at s.records format.nodes_file n ≡ format.dense
  dense = ⊎_elim (λ is. is) (λ ne.
      let few = store.degrees.few n (sparse_unless s.records s.shape n store.ranges used ne) in
      let same = degree_in-degree s.records s.shape store n used in
      absurd (omega (arith, few, same, many))) (nat_cases (kind_at s.records format.nodes_file n) format.dense)

  pub most_is_dense : (direction : Direction) (labels : List ℕ) → most_reads s direction labels n ≡ dense_reads s direction labels n
  most_is_dense direction labels = ap (λ t. cond t (dense_reads s direction labels n) (degree_in (graph_in s) n + 1)) (eq_true _ _ dense)
