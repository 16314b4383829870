-- A dense node has as many groups as its edges have types.
use Rattle.std.proofs.Common.{◌≡◌, ◌≢◌, ◌<◌, ◌≤◌, ℕ, nat_eq, Bool, true, false, ◌||◌, cond, List, [], ◌∷◌, length, map}
use Rattle.std.proofs.Common.{refl, sym, ap, ◌∙◌, subst, ⊎_elim, arith}
use Rattle.std.specs.Bool.{Decides}
use Rattle.std.specs.Cmp.{IsEquivalence}
use Rattle.std.specs.List.{Contains, filter, list_any}
use Rattle.std.specs.Set.{distinct_count, is_member}
use Rattle.std.proofs.lemmas.Bool.{and_parts, eqb-true, or_cases, or_left, or_right}
use Rattle.std.proofs.lemmas.Bool.Decides.{Decides-like, same_from_decides}
use Rattle.std.proofs.lemmas.Cmp.{nat_list_eq_equiv}
use Rattle.std.proofs.lemmas.List.{length-map}
use Rattle.std.proofs.lemmas.Map.Made.{IsDistinct-from_AllPairs, is_member-Decides, length-from_keys}
use Rattle.std.proofs.lemmas.Map.Text.{is_eq-slice_cmp}
use Rattle.std.proofs.lemmas.Slice.Eq.{bytes_eq-Decides}
use Rattle.plain_graph.specs.Graph as plain
use Rattle.plain_graph.specs.Graph.{Edge}
use Rattle.plain_graph.specs.Meaning as meaning
use Rattle.plain_graph.specs.Values.{is_text}
use Rattle.plain_graph.specs.declared.direction.Direction.{Direction}
use Rattle.plain_graph.specs.declared.direction.Direction.TheVariants as directions
use Rattle.rec_bytes.specs.declared.shape.Shape.{Shape}
use Rattle.rec_bytes.specs.Format as format
use Rattle.store_rules.specs.Chains.{In}
use Rattle.store_rules.specs.Graph.{graph_of}
use Rattle.store_rules.specs.Rules.{IsWellFormed}
use Rattle.store_rules.specs.Views.{Records, high, kind_at, rec_at, rel_in}
use Rattle.store_rules.proofs.NumberLaws.{eq_true}
use Rattle.store_rules.proofs.ViewLaws.{kind_below, row_some, some_row}
use Rattle.rel_store.specs.declared.edge_row.EdgeRow.{EdgeRow}
use Rattle.chain_edit.specs.Walking.{edge_at}
use Rattle.group_store.specs.GroupChain.{type_of}
use Rattle.expand.specs.declared.matching.End.TheVariants as ends
use Rattle.expand.specs.Costs.{is_met_edge, met_count, type_count}
use Rattle.expand.specs.Expanding.{AreRowsOf, IsRowOf, edge_row_at, name_of, rows_of}
use Rattle.expand.specs.Matching.{is_at, is_met, is_met_at, is_wanted}
use Rattle.expand.proofs.GroupHeads as heads
use Rattle.store_rules.proofs.Members.{collect_contains, contains_collect, contains_filter, contains_image}
use Rattle.store_rules.proofs.Members.{contains_map, filter_contains, image_contains, map_contains, pairs_map}
use Rattle.store_rules.proofs.Members.{pairs_once}
use Rattle.expand.proofs.ModelEdges.{rows_are, zip_filter}

-- ---- texts

texts_equal : IsEquivalence is_text
texts_equal = subst IsEquivalence (λ i a b. sym (is_eq-slice_cmp a b) i) nat_list_eq_equiv

text_decides : (a b : List ℕ) → Decides (is_text a b) (a ≡ b)
text_decides a b = subst (λ t. Decides t (a ≡ b)) (sym (is_eq-slice_cmp a b)) (bytes_eq-Decides a b)

same_text : (a : List ℕ) → is_text a a ≡ true
same_text a = texts_equal.refl a

-- ---- rows and edges

-- the texts of the types of rows are those of their edges
types_are : (s : Records) (rows : List EdgeRow) (edges : List Edge) → AreRowsOf s rows edges
    → map (λ (edge : Edge). edge.label) edges ≡ map (λ (row : EdgeRow). name_of s row.label) rows
types_are s [] [] are = refl
types_are s [] (edge ∷ edges) are = absurd are
types_are s (row ∷ rows) [] are = absurd are
types_are s (row ∷ rows) (edge ∷ edges) are = λ i. sym (are.0.label) i ∷ types_are s rows edges are.1 i

-- where what passes one test passes the other, no fewer do
zip_fewer : (s : Records) (p : EdgeRow → Bool) (q : Edge → Bool) → ((row : EdgeRow) (edge : Edge) → IsRowOf s row edge → p row ≡ true → q edge ≡ true)
    → (rows : List EdgeRow) (edges : List Edge) → AreRowsOf s rows edges
    → length (filter p rows) ≤ length (filter q edges)
zip_fewer s p q passes [] [] are = omega arith
zip_fewer s p q passes [] (edge ∷ edges) are = absurd are
zip_fewer s p q passes (row ∷ rows) [] are = absurd are
zip_fewer s p q passes (row ∷ rows) (edge ∷ edges) are = by (p row) (q edge) (passes row edge are.0) (zip_fewer s p q passes rows edges are.1)
  where
    by : (a b : Bool) → (a ≡ true → b ≡ true) → length (filter p rows) ≤ length (filter q edges)
        → length (cond a (row ∷ filter p rows) (filter p rows)) ≤ length (cond b (edge ∷ filter q edges) (filter q edges))
    by true true h le = omega arith
    by true false h le = absurd (let e = h refl in absurd cc)
    by false true h le = omega arith
    by false false h le = omega arith

-- a type that is wanted has one of the texts
wanted_named : (s : Records) (labels : List ℕ) (x : ℕ) → is_wanted labels x ≡ true → meaning.is_named (map (name_of s) labels) (name_of s x) ≡ true
wanted_named s [] x is = refl
wanted_named s (label ∷ labels) x is = any (label ∷ labels) is
  where
    any : (numbers : List ℕ) → list_any (nat_eq x) numbers ≡ true → list_any (λ other. is_text other (name_of s x)) (map (name_of s) numbers) ≡ true
    any [] h = absurd cc
    any (y ∷ ys) h = ⊎_elim
        (λ (e : nat_eq x y ≡ true). or_left _ _ (subst (λ z. is_text (name_of s z) (name_of s x) ≡ true) (eqb-true x y e) (same_text (name_of s x))))
        (λ (k : list_any (nat_eq x) ys ≡ true). or_right _ _ (any ys k))
        (or_cases (nat_eq x y) (list_any (nat_eq x) ys) h)

-- an edge is met where its row is
met_edge : (s : Records) (direction : Direction) (labels : List ℕ) (n : ℕ) (row : EdgeRow) (edge : Edge) → IsRowOf s row edge
    → is_met direction labels n row ≡ true → is_met_edge direction (map (name_of s) labels) n edge ≡ true
met_edge s direction labels n row edge is met = by direction met
  where
    named : is_wanted labels row.label ≡ true → meaning.is_named (map (name_of s) labels) edge.label ≡ true
    named wanted = subst (λ text. meaning.is_named (map (name_of s) labels) text ≡ true) is.label (wanted_named s labels row.label wanted)

    leaves : is_met_at ends.Source labels n row ≡ true → meaning.leaves_by (map (name_of s) labels) n edge ≡ true
    leaves h = let k = and_parts (nat_eq row.from n) (is_wanted labels row.label) h in
        rw (eq_true edge.from n (sym is.from ∙ eqb-true row.from n k.0), named k.1) refl

    enters : is_met_at ends.Target labels n row ≡ true → meaning.enters_by (map (name_of s) labels) n edge ≡ true
    enters h = let k = and_parts (nat_eq row.to n) (is_wanted labels row.label) h in
        rw (eq_true edge.to n (sym is.to ∙ eqb-true row.to n k.0), named k.1) refl

    by : (direction : Direction) → is_met direction labels n row ≡ true → is_met_edge direction (map (name_of s) labels) n edge ≡ true
    by directions.Outgoing h = leaves h
    by directions.Incoming h = enters h
    by directions.Both h = ⊎_elim
        (λ (k : is_met_at ends.Source labels n row ≡ true). or_left _ _ (leaves k))
        (λ (k : is_met_at ends.Target labels n row ≡ true). or_right _ _ (enters k))
        (or_cases (is_met_at ends.Source labels n row) (is_met_at ends.Target labels n row) h)

module _ (s : Records) (shape : Shape) (store : IsWellFormed s shape) where
  -- no more rows are met than edges
  pub met_le : (direction : Direction) (labels : List ℕ) (n : ℕ) → length (filter (is_met direction labels n) (rows_of s)) ≤ met_count (graph_of s) direction
      (map (name_of s) labels) n
  met_le direction labels n = zip_fewer s (is_met direction labels n) (is_met_edge direction (map (name_of s) labels) n) (met_edge s direction labels n)
      (rows_of s) (graph_of s).edges (rows_are s shape store)

  -- the texts of the types at a node, by the rows
  row_types : ℕ → List (List ℕ)
  row_types n = map (λ (row : EdgeRow). name_of s row.label) (filter (is_at n) (rows_of s))

  types_at : (n : ℕ) → type_count (graph_of s) n ≡ distinct_count is_text (row_types n)
  unfolding row_types
  types_at n = ap (distinct_count is_text) (types_are s (filter (is_at n) (rows_of s)) (filter (plain.is_at n) (graph_of s).edges)
      (zip_filter (IsRowOf s) (is_at n) (plain.is_at n) (λ row edge is. λ i. nat_eq (is.from i) n || nat_eq (is.to i) n) (rows_of s) (graph_of s).edges
      (rows_are s shape store)))

  module _ (n : ℕ) (dense : kind_at s format.nodes_file n ≡ format.dense) where
    abbrev groups : List ℕ
    groups = heads.groups s shape store n dense

    -- the text of a group's type
    abbrev text_in : ℕ → List ℕ
    text_in g = name_of s (type_of s g)

    -- a group has a relationship at the node, of its type
    filled : (g : ℕ) → In g groups → (x : ℕ) × (kind_at s format.relationships_file x ≢ 0) × (is_at n (edge_at s x) ≡ true)
        × ((edge_at s x).label ≡ type_of s g)
    filled g i = heads.has_one s shape store n dense g i

    -- so its type is a name
    named : (g : ℕ) → In g groups → type_of s g < high s format.names_file
    named g i =
        let one = filled g i in
        let row = rel_in (rec_at s format.relationships_file one.0) one.0 in
        subst (λ label. label < high s format.names_file) one.3 (store.named.rels_named one.0 row (row_some (kind_at s format.relationships_file one.0)
        row one.1))

    group_types : List (List ℕ)
    group_types = map text_in groups

    types_apart : (g k : ℕ) → In g groups → In k groups → g ≢ k → text_in g ≢ text_in k
    types_apart g k i j ne same = ne ((store.grouped.each n dense).once g k i j (store.names.distinct (type_of s g) (type_of s k) (named g i) (named k j) same))

    onto : (q : List ℕ) → Contains group_types q → Contains (row_types n) q
    unfolding group_types row_types
    onto q is =
        let g = contains_map text_in groups q is in
        let one = filled g.0 g.1 in
        let row = edge_at s one.0 in
        let some = row_some (kind_at s format.relationships_file one.0) row one.1 in
        let there = collect_contains (edge_row_at s) (high s format.relationships_file) one.0 row
        (kind_below (high s format.relationships_file) (rec_at s format.relationships_file one.0) one.0 one.1) some in
        subst (Contains (map (λ (row : EdgeRow). name_of s row.label) (filter (is_at n) (rows_of s)))) (ap (name_of s) one.3 ∙ sym g.2)
        (image_contains (λ (row : EdgeRow). name_of s row.label) (filter (is_at n) (rows_of s)) row (filter_contains (is_at n) (rows_of s) row there one.2))

    back : (q : List ℕ) → Contains (row_types n) q → Contains group_types q
    unfolding group_types row_types
    back q is =
        let found = contains_image (λ (row : EdgeRow). name_of s row.label) (filter (is_at n) (rows_of s)) q is in
        let kept = contains_filter (is_at n) (rows_of s) found.0 found.1 in
        let x = contains_collect (edge_row_at s) (high s format.relationships_file) found.0 kept.0 in
        let has = some_row (kind_at s format.relationships_file x.0) (edge_at s x.0) found.0 x.2 in
        let at : is_at n (edge_at s x.0) ≡ true = subst (λ (row : EdgeRow). is_at n row ≡ true) (sym has.1) kept.1 in
        let g = heads.own_group s shape store n dense x.0 has.0 (heads.end_at n (edge_at s x.0) at) in
        subst (Contains (map text_in groups)) (ap (name_of s) (g.2 ∙ ap (λ (row : EdgeRow). row.label) has.1) ∙ sym found.2)
        (map_contains text_in groups g.0 g.1)

    -- as many groups as types
    pub groups_count : length groups ≡ type_count (graph_of s) n
    unfolding group_types
    groups_count =
        sym (length-map groups text_in)
        ∙ length-from_keys texts_equal group_types (row_types n)
        (IsDistinct-from_AllPairs text_decides group_types (pairs_map (λ a b. a ≢ b) text_in groups (pairs_once (λ g k. text_in g ≢ text_in k) groups
        (heads.groups_once s shape store n dense) types_apart)))
        (λ q. same_from_decides (is_member is_text group_types q) (is_member is_text (row_types n) q) (is_member-Decides text_decides group_types q)
        (Decides-like (is_member is_text (row_types n) q) (back q) (onto q) (is_member-Decides text_decides (row_types n) q)))
        ∙ sym (types_at n)
