-- What the edges of a hop's types cost, by their numbers and by their texts.
use Rattle.std.proofs.Common.{◌≡◌, ◌<◌, ℕ, ◌+◌, true, false, not, ◌&&◌, ◌||◌, nat_eq, if◌then◌else◌, List, [], ◌∷◌, length, map, refl, sym, ap, ◌∙◌}
use Rattle.std.proofs.Common.{subst, arith}
use Rattle.std.specs.List.{filter, list_any}
use Rattle.std.proofs.lemmas.Cmp.{nat_eq_equiv}
use Rattle.std.proofs.lemmas.List.Folds.{list_any_at}
use Rattle.std.proofs.lemmas.Slice.Zip.{AllZip-long}
use Rattle.expand.specs.Costs.{are_unknown, is_met_edge, met_count, most_reads, type_count}
use Rattle.expand.specs.Expanding.{IsRowOf, name_of, rows_of}
use Rattle.expand.specs.Matching.{is_met, is_wanted}
use Rattle.expand.proofs.ModelEdges.{StandFor, names_stand, rows_are, zip_filter}
use Rattle.plain_graph.specs.Graph.{Edge, degree_in}
use Rattle.plain_graph.specs.Meaning.{is_named}
use Rattle.plain_graph.specs.declared.direction.Direction.{Direction}
use Rattle.plain_graph.specs.declared.direction.Direction.TheVariants as directions
use Rattle.plain_graph.specs.declared.query.Hop.{Hop}
use Rattle.prop_store.specs.Reading.{ReadsAtMost}
use Rattle.rec_bytes.specs.Format as format
use Rattle.rec_bytes.specs.Space.{State}
use Rattle.rec_bytes.specs.declared.shape.Shape.{Shape}
use Rattle.rel_store.specs.declared.edge_row.EdgeRow.{EdgeRow}
use Rattle.store_rules.specs.Graph.{graph_of, names_of}
use Rattle.store_rules.proofs.NameRows.{length-rows, row_at}
use Rattle.store_rules.specs.Rules.{IsWellFormed}
use Rattle.store_rules.specs.Views.{Records, kind_at}
use Rattle.traversal_run.specs.Hopping.{AreTypeNumbers, reads_at_vertex, walk_reads}
use Rattle.traversal_run.specs.Naming.{name_at, name_count}
use Rattle.traversal_run.proofs.HopEdges.{stand_for}

module _ (s : Records) (shape : Shape) (store : IsWellFormed s shape) where
  -- as many rows are met, by numbers, as edges, by their texts
  met_rows : (labels : List ℕ) (names : List (List ℕ)) → StandFor s labels names → (direction : Direction) (n : ℕ)
      → length (filter (is_met direction labels n) (rows_of s)) ≡ met_count (graph_of s) direction names n
  met_rows labels names stand direction n =
      sym (AllZip-long (IsRowOf s) (filter (is_met direction labels n) (rows_of s)) (filter (is_met_edge direction names n) (graph_of s).edges)
      (zip_filter (IsRowOf s) (is_met direction labels n) (is_met_edge direction names n) (agree direction) (rows_of s) (graph_of s).edges
      (rows_are s shape store)))
    where
      typed : (row : EdgeRow) (edge : Edge) → IsRowOf s row edge → is_wanted labels row.label ≡ is_named names edge.label
      typed row edge is = stand row.label is.known ∙ ap (is_named names) is.label

      agree : (direction : Direction) (row : EdgeRow) (edge : Edge) → IsRowOf s row edge → is_met direction labels n row ≡ is_met_edge direction names n edge
      agree directions.Outgoing row edge is = λ i. nat_eq (is.from i) n && typed row edge is i
      agree directions.Incoming row edge is = λ i. nat_eq (is.to i) n && typed row edge is i
      agree directions.Both row edge is = λ i. (nat_eq (is.from i) n && typed row edge is i) || (nat_eq (is.to i) n && typed row edge is i)

  met_types : (numbers : List ℕ) (texts : List (List ℕ)) → AreTypeNumbers s numbers texts → (direction : Direction) (n : ℕ)
      → met_count (graph_of s) direction (map (name_of s) numbers) n ≡ met_count (graph_of s) direction texts n
  met_types numbers texts types direction n =
      sym (met_rows numbers (map (name_of s) numbers) (names_stand s shape store numbers types.below) direction n)
      ∙ met_rows numbers texts (stand_for s numbers texts types.finds types.below types.none) direction n

-- a text that is the name of a number is among the names of the store
name_known : (s : Records) (texts : List (List ℕ)) (number : ℕ) → number < name_count s → is_named texts (name_at s number) ≡ true
    → list_any (is_named texts) (names_of s) ≡ true
name_known s texts number lt named =
    let at = row_at (λ x. name_at s x) (name_count s) number (name_at s number) lt in
    let long = length-rows (λ x. name_at s x) (name_count s) in
    list_any_at (is_named texts) (names_of s) number (name_at s number) (omega arith)
    (ap (is_named texts) at ∙ named)

-- where a number is found of a text, one of the texts is a name of the store
pub types_known : (s : Records) (numbers : List ℕ) (texts : List (List ℕ)) → AreTypeNumbers s numbers texts → are_unknown s texts ≡ false
types_known s numbers [] types = refl
types_known s [] (text ∷ texts) types = absurd (clash (types.none refl))
  where
    clash : text ∷ texts ≡ [] → ⊥
    clash e = cc
types_known s (number ∷ numbers) (text ∷ texts) types =
    let low = types.below 0 number (omega arith) in
    let first : list_any (nat_eq number) (number ∷ numbers) ≡ true = ap (λ b. b || list_any (nat_eq number) numbers) (nat_eq_equiv.refl number) in
    ap not (name_known s (text ∷ texts) number low (sym (types.finds number low) ∙ first))

-- the numbers of a hop's types cost what the hop does
pub hop_costs : (s t : State) → IsWellFormed s.records s.shape → (hop : Hop) (numbers : List ℕ) (id : ℕ) → AreTypeNumbers s.records numbers hop.labels
    → ReadsAtMost (most_reads s hop.direction numbers id) s t → ReadsAtMost (reads_at_vertex s.records hop id) s t
hop_costs s t store hop numbers id types reads =
    subst (λ n. ReadsAtMost n s t)
    (ap (λ n. if nat_eq (kind_at s.records format.nodes_file id) format.dense then type_count (graph_of s.records) id + n + 1 else degree_in
    (graph_of s.records) id + 1)
    (met_types s.records s.shape store numbers hop.labels types hop.direction id)
    ∙ ap (λ b. if b then 0 else walk_reads s.records hop id) (sym (types_known s.records numbers hop.labels types))) reads
