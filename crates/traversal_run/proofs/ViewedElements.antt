-- The elements of a store that a line names, by what was loaded of them.
use Rattle.std.proofs.Common.{◌≡◌, ◌≢◌, ◌∙◌, ℕ, true, false, Option, None, Some, nat_eq, sym, ap, ⊎_elim}
use Rattle.std.specs.Option.{option_map}
use Rattle.plain_graph.specs.Graph.{edge_number, node_number}
use Rattle.plain_graph.specs.Lines.{item_at}
use Rattle.plain_graph.specs.Meaning.{edge_item, vertex_of}
use Rattle.plain_graph.specs.declared.command.Target.TheVariants as targets
use Rattle.rec_bytes.specs.Format as format
use Rattle.rec_bytes.specs.declared.record.Rec.{Rec}
use Rattle.rel_store.specs.Loading.{row_at}
use Rattle.rel_store.specs.declared.rel_row.RelRow.{RelRow}
use Rattle.rel_store.proofs.Rows.{rel_at-None, rel_at-Some}
use Rattle.store_rules.specs.Graph.{edge_from, edge_of, graph_of, node_from, node_of}
use Rattle.store_rules.specs.Properties.{property_records}
use Rattle.store_rules.specs.Views as views
use Rattle.store_rules.specs.Views.{Records, high, kind_at, node_in, rec_at, rel_in}
use Rattle.store_rules.proofs.GraphRows.{edges_numbered, no_edge}
use Rattle.store_rules.proofs.NodeChange.{nodes_numbered}
use Rattle.store_rules.proofs.NumberLaws.{nat_cases}
use Rattle.store_rules.proofs.RowChange.{find_collect}
use Rattle.store_rules.proofs.ViewLaws.{kind_below, row_none}
use Rattle.traversal_run.specs.Finding.{element_at, typed_edge}
use Rattle.traversal_run.proofs.Loaded.{find-none, node_not_found}

module _ (s : Records) (id : ℕ) where
  abbrev names : ℕ → Rec
  names = rec_at s format.names_file

  -- a node that a line names is the vertex that is read
  pub item_at-node : item_at (graph_of s) (targets.Node id) ≡ element_at s false id
  item_at-node = ⊎_elim
      (λ (free : kind ≡ 0). ap (option_map vertex_of) (node_not_found s id free) ∙ ap (λ (row : Option views.NodeRow). option_map vertex_of
      (node_from names (property_records s) row)) (sym (row_none kind (node_in (rec_at s format.nodes_file id) id) free)))
      (λ (used : kind ≢ 0). ap (option_map vertex_of) (find_collect node_number (node_of s) (high s format.nodes_file) id (nodes_numbered s)
      (kind_below (high s format.nodes_file) (rec_at s format.nodes_file id) id used)))
      (nat_cases kind 0)
    where
      kind : ℕ
      kind = kind_at s format.nodes_file id

  -- and so it is with edges
  pub item_at-edge : item_at (graph_of s) (targets.Edge id) ≡ element_at s true id
  item_at-edge = ⊎_elim
      (λ (free : kind ≡ 0). ap (option_map edge_item) (find-none (λ edge. nat_eq (edge_number edge) id) (graph_of s).edges (no_edge s id free))
      ∙ ap (λ (row : Option views.RelRow). option_map edge_item (edge_from names (property_records s) row))
      (sym (row_none kind (rel_in (rec_at s format.relationships_file id) id) free)))
      (λ (used : kind ≢ 0). ap (option_map edge_item) (find_collect edge_number (edge_of s) (high s format.relationships_file) id (edges_numbered s)
      (kind_below (high s format.relationships_file) (rec_at s format.relationships_file id) id used)))
      (nat_cases kind 0)
    where
      kind : ℕ
      kind = kind_at s format.relationships_file id

  -- the edge of a row that was loaded
  pub element-typed : (row : RelRow) → row_at s id ≡ Some row → element_at s true id ≡ Some (typed_edge s row)
  element-typed row found = ap (λ (row : Option views.RelRow). option_map edge_item (edge_from names (property_records s) row)) (rel_at-Some s id row found)

  pub element-none : row_at s id ≡ None → element_at s true id ≡ None
  element-none none = ap (λ (row : Option views.RelRow). option_map edge_item (edge_from names (property_records s) row)) (rel_at-None s id none)
