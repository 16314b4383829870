-- The edges that a hop takes at a vertex.
use Rattle.std.proofs.Common.{◌≡◌, ◌≢◌, ◌<◌, ◌⊎◌, ℕ, zero, suc, Bool, true, false, ◌&&◌, ◌||◌, nat_eq, cond, Option}
use Rattle.std.proofs.Common.{None, Some, List, [], ◌∷◌, ◌++◌, length, map, All, inl, inr, refl, sym, ap, ◌∙◌, subst}
use Rattle.std.proofs.Common.{arith}
use Rattle.std.specs.List.{filter, list_any}
use Rattle.std.proofs.lemmas.Cmp.{nat_eq_equiv}
use Rattle.std.proofs.lemmas.List.{map-append}
use borrow.Author.Tests.{eqb-true}
use Rattle.expand.specs.Expanding.{AreRowsOf, IsRowOf}
use Rattle.expand.proofs.ModelEdges.{StandFor}
use Rattle.plain_graph.specs.Graph.{Edge, Graph, has_node}
use Rattle.plain_graph.specs.Meaning.{edge_item, edges_at, entering, enters_by, heads_of, is_named, leaves_by, leaving, neighbours_at, tails_of}
use Rattle.plain_graph.specs.declared.direction.Direction.{Direction}
use Rattle.plain_graph.specs.declared.direction.Direction.TheVariants as directions
use Rattle.plain_graph.specs.declared.item.Item.TheVariants as items
use Rattle.rec_bytes.specs.Format as format
use Rattle.rec_bytes.specs.declared.record.Rec.{Rec}
use Rattle.rec_bytes.specs.declared.shape.Shape.{Shape}
use Rattle.rel_store.specs.declared.edge_row.EdgeRow.{EdgeRow}
use Rattle.store_rules.specs.Graph.{edge_from, edge_of, graph_of}
use Rattle.store_rules.specs.Properties.{PropertyRecords, property_records}
use Rattle.store_rules.specs.Rules.{IsWellFormed}
use Rattle.store_rules.specs.Views.{Records, RelRow, high, kind_at, rec_at, rel_at, text_of}
use Rattle.store_rules.proofs.GraphRows.{node_there}
use Rattle.store_rules.proofs.NumberLaws.{and_parts, eq_false, eq_true, nat_cases}
use Rattle.traversal_run.specs.EdgeItems.{AreTyped, end_item, other_end, row_item}
use Rattle.traversal_run.specs.Naming.{FindsNames, name_count}
use Rattle.traversal_run.proofs.LeftRows.{collect_none}

-- an edge is a relationship in use
record IsEdgeOf (names : ℕ → Rec) (o : Option RelRow) (e : Edge) : Type 0 where
  row : RelRow
  is : o ≡ Some row
  label : e.label ≡ text_of (names row.label)
  from : e.from ≡ row.from
  to : e.to ≡ row.to

edge_parts : (names : ℕ → Rec) (files : PropertyRecords) (o : Option RelRow) (e : Edge) → edge_from names files o ≡ Some e → IsEdgeOf names o e
edge_parts names files None e is = absurd cc
edge_parts names files (Some row) e is = record {
  row = row;
  is = refl;
  label = ap (λ (edge : Edge). edge.label) (sym (same is));
  from = ap (λ (edge : Edge). edge.from) (sym (same is));
  to = ap (λ (edge : Edge). edge.to) (sym (same is));
}
  where
    same : {a b : Edge} → Some a ≡ Some b → a ≡ b
    same h = cc

and_false : (b : Bool) → b && false ≡ false
and_false true = refl
and_false false = refl

module _ (s : Records) (shape : Shape) (store : IsWellFormed s shape) where
  edge_is : (x : ℕ) (e : Edge) → edge_of s x ≡ Some e → IsEdgeOf (rec_at s format.names_file) (rel_at s x) e
  edge_is x e is = edge_parts (rec_at s format.names_file) (property_records s) (rel_at s x) e is

  -- no edge leaves or enters
  nothing_at : (texts : List (List ℕ)) (id : ℕ) → ((x : ℕ) (e : Edge) → edge_of s x ≡ Some e → leaves_by texts id e ≡ false)
      → ((x : ℕ) (e : Edge) → edge_of s x ≡ Some e → enters_by texts id e ≡ false)
      → (direction : Direction) → edges_at (graph_of s) direction texts id ≡ []
  nothing_at texts id leave enter direction = by direction (collect_none (edge_of s) (leaves_by texts id) (high s format.relationships_file)
      (λ x e lt is. leave x e is)) (collect_none (edge_of s) (enters_by texts id) (high s format.relationships_file) (λ x e lt is. enter x e is))
    where
      by : (direction : Direction) → filter (leaves_by texts id) (graph_of s).edges ≡ [] → filter (enters_by texts id) (graph_of s).edges ≡ []
          → edges_at (graph_of s) direction texts id ≡ []
      by directions.Outgoing leaving entering = leaving
      by directions.Incoming leaving entering = entering
      by directions.Both leaving entering = λ i. leaving i ++ entering i

  -- no edge has one of these types, none of which is a name
  pub edges_at-untyped : (texts : List (List ℕ)) (id : ℕ) (direction : Direction) → FindsNames s [] texts → texts ≢ []
      → edges_at (graph_of s) direction texts id ≡ []
  edges_at-untyped [] id direction finds some = absurd (some refl)
  edges_at-untyped (text ∷ texts) id direction finds some =
      nothing_at (text ∷ texts) id (λ x e is. ap (λ b. nat_eq e.from id && b) (unnamed x e is) ∙ and_false (nat_eq e.from id))
      (λ x e is. ap (λ b. nat_eq e.to id && b) (unnamed x e is) ∙ and_false (nat_eq e.to id)) direction
    where
      unnamed : (x : ℕ) (e : Edge) → edge_of s x ≡ Some e → is_named (text ∷ texts) e.label ≡ false
      unnamed x e is =
          let edge = edge_is x e is in
          ap (is_named (text ∷ texts)) edge.label ∙ sym (finds edge.row.label (store.named.rels_named x edge.row edge.is))

  -- an end is a node
  not_here : (id : ℕ) → has_node (graph_of s) id ≡ false → (n end : ℕ) → end ≡ n → kind_at s format.nodes_file n ≢ format.free_kind → nat_eq end id ≡ false
  not_here id gone n end is used = eq_false end id (λ same. clash (sym (subst (λ m. has_node (graph_of s) m ≡ true) (sym is ∙ same) (node_there s n used))
      ∙ gone))
    where
      clash : true ≡ false → ⊥
      clash e = cc

  -- no edge is at what is no node
  pub edges_at-no_node : (texts : List (List ℕ)) (id : ℕ) (direction : Direction) → has_node (graph_of s) id ≡ false
      → edges_at (graph_of s) direction texts id ≡ []
  edges_at-no_node texts id direction gone =
      nothing_at texts id
      (λ x e is. let edge = edge_is x e is in ap (λ b. b && is_named texts e.label) (not_here id gone edge.row.from e.from edge.from
      (store.linked.ends x edge.row edge.is).from))
      (λ x e is. let edge = edge_is x e is in ap (λ b. b && is_named texts e.label) (not_here id gone edge.row.to e.to edge.to
      (store.linked.ends x edge.row edge.is).to)) direction

-- the numbers of some texts stand for them, where some number is known or no text is written
pub stand_for : (s : Records) (labels : List ℕ) (texts : List (List ℕ)) → FindsNames s labels texts → All (λ label. label < name_count s) labels
    → (labels ≡ [] → texts ≡ []) → StandFor s labels texts
stand_for s [] [] finds below none = λ x lt. refl
stand_for s [] (text ∷ texts) finds below none = absurd (clash (none refl))
  where
    clash : text ∷ texts ≡ [] → ⊥
    clash e = cc
stand_for s (label ∷ labels) [] finds below none = absurd (clash (sym (ap (λ b. b || list_any (nat_eq label) labels) (nat_eq_equiv.refl label)) ∙ finds label
    (below 0 label (omega arith))))
  where
    clash : true ≡ false → ⊥
    clash e = cc
stand_for s (label ∷ labels) (text ∷ texts) finds below none = finds

-- no rows of no edges
pub are_none : (s : Records) (rows : List EdgeRow) (edges : List Edge) → rows ≡ [] → edges ≡ [] → AreRowsOf s rows edges
are_none s rows edges none nothing = subst (λ list. AreRowsOf s list edges) (sym none) (subst (λ list. AreRowsOf s [] list) (sym nothing) tt)

-- a list is empty where its length is zero
pub no_length : {E : Type 0} (list : List E) → nat_eq (length list) 0 ≡ true → list ≡ []
no_length [] e = refl
no_length (first ∷ list) e = let same = eqb-true (length (first ∷ list)) 0 e in absurd (omega (arith, same))

pub some_length : {E : Type 0} (list : List E) → nat_eq (length list) 0 ≡ false → list ≢ []
some_length list e none = clash (sym e ∙ ap (λ (other : List _). nat_eq (length other) 0) none)
  where
    clash : false ≡ true → ⊥
    clash h = cc

-- ---- items

-- Rows of some edges, and then of others.
record AreBoth (s : Records) (some others : List Edge) (rows : List EdgeRow) : Type 0 where
  first : List EdgeRow
  second : List EdgeRow
  is : rows ≡ first ++ second
  firsts : AreRowsOf s first some
  seconds : AreRowsOf s second others

rows_of_both : (s : Records) (some others : List Edge) (rows : List EdgeRow) → AreRowsOf s rows (some ++ others) → AreBoth s some others rows
rows_of_both s [] others rows are = record { first = []; second = rows; is = refl; firsts = tt; seconds = are }
rows_of_both s (edge ∷ some) others [] are = absurd are
rows_of_both s (edge ∷ some) others (row ∷ rows) are =
    let rest = rows_of_both s some others rows are.1 in
    record { first = row ∷ rest.first; second = rest.second; is = ap (λ list. row ∷ list) rest.is; firsts = (are.0, rest.firsts); seconds = rest.seconds }

module _ (s : Records) where
  pub rows-typed : (rows : List EdgeRow) (edges : List Edge) → AreRowsOf s rows edges → AreTyped s rows
  rows-typed [] [] are = λ k d lt. absurd (omega arith)
  rows-typed [] (edge ∷ edges) are = absurd are
  rows-typed (row ∷ rows) [] are = absurd are
  rows-typed (row ∷ rows) (edge ∷ edges) are = at (rows-typed rows edges are.1)
    where
      at : AreTyped s rows → AreTyped s (row ∷ rows)
      at later zero d lt = are.0.known
      at later (suc k) d lt = later k d (omega arith)

  -- rows give the items of their edges
  pub rows-items : (rows : List EdgeRow) (edges : List Edge) → AreRowsOf s rows edges → map (row_item s) rows ≡ map edge_item edges
  rows-items [] [] are = refl
  rows-items [] (edge ∷ edges) are = absurd are
  rows-items (row ∷ rows) [] are = absurd are
  rows-items (row ∷ rows) (edge ∷ edges) are =
      let is = are.0 in
      λ i. items.Edge (is.id i) (is.label i) (is.from i) (is.to i) ∷ rows-items rows edges are.1 i

  -- each edge is at the vertex by this end, and this is the other one
  ends_by : (id : ℕ) (test : Edge → Bool) (other : Edge → ℕ) → ((row : EdgeRow) (edge : Edge) → IsRowOf s row edge → test edge ≡ true → other_end id row ≡ other
      edge)
      → (edges : List Edge) (rows : List EdgeRow) → AreRowsOf s rows (filter test edges)
      → map (end_item id) rows ≡ map (λ (edge : Edge). items.Vertex (other edge)) (filter test edges)
  ends_by id test other each [] [] are = refl
  ends_by id test other each [] (row ∷ rows) are = absurd are
  ends_by id test other each (edge ∷ edges) rows are = by (ends_by id test other each edges) (test edge) refl rows are
    where
      by : ((rows : List EdgeRow) → AreRowsOf s rows (filter test edges) → map (end_item id) rows ≡ map (λ (edge : Edge). items.Vertex (other edge))
          (filter test edges))
          → (passes : Bool) → test edge ≡ passes → (rows : List EdgeRow) → AreRowsOf s rows (cond passes (edge ∷ filter test edges) (filter test edges))
          → map (end_item id) rows ≡ map (λ (edge : Edge). items.Vertex (other edge)) (cond passes (edge ∷ filter test edges) (filter test edges))
      by later true is [] are = absurd are
      by later true is (row ∷ rows) are = let head = each row edge are.0 is in λ i. items.Vertex (head i) ∷ later rows are.1 i
      by later false is rows are = later rows are

  end_from : (id : ℕ) (row : EdgeRow) → row.from ≡ id → other_end id row ≡ row.to
  end_from id row is = rw (eq_true row.from id is) refl

  end_to : (id : ℕ) (row : EdgeRow) → row.to ≡ id → other_end id row ≡ row.from
  end_to id row is = by (nat_cases row.from id)
    where
      by : (row.from ≡ id) ⊎ (row.from ≢ id) → other_end id row ≡ row.from
      by (inl same) = end_from id row same ∙ is ∙ sym same
      by (inr other) = rw (eq_false row.from id other) refl

  module _ (graph : Graph) (texts : List (List ℕ)) (id : ℕ) where
    heads : (rows : List EdgeRow) → AreRowsOf s rows (leaving graph texts id) → map (end_item id) rows ≡ heads_of (leaving graph texts id)
    heads rows are = ends_by id (leaves_by texts id) (λ edge. edge.to)
        (λ row edge is passes. end_from id row (is.from ∙ eqb-true edge.from id (and_parts (nat_eq edge.from id) (is_named texts edge.label) passes).0) ∙ is.to)
        graph.edges rows are

    tails : (rows : List EdgeRow) → AreRowsOf s rows (entering graph texts id) → map (end_item id) rows ≡ tails_of (entering graph texts id)
    tails rows are = ends_by id (enters_by texts id) (λ edge. edge.from)
        (λ row edge is passes. end_to id row (is.to ∙ eqb-true edge.to id (and_parts (nat_eq edge.to id) (is_named texts edge.label) passes).0) ∙ is.from)
        graph.edges rows are

    -- rows at a vertex give its neighbours
    pub rows-ends : (direction : Direction) (rows : List EdgeRow) → AreRowsOf s rows (edges_at graph direction texts id)
        → map (end_item id) rows ≡ neighbours_at graph direction texts id
    rows-ends directions.Outgoing rows are = heads rows are
    rows-ends directions.Incoming rows are = tails rows are
    rows-ends directions.Both rows are =
        let parts = rows_of_both s (leaving graph texts id) (entering graph texts id) rows are in
        ap (map (end_item id)) parts.is ∙ map-append (end_item id) parts.first parts.second
        ∙ (λ i. heads parts.first parts.firsts i ++ tails parts.second parts.seconds i)
