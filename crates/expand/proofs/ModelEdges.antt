-- The rows of a store are those of its graph's edges, and so are those at a node.
use Rattle.std.proofs.Common.{◌≡◌, ◌<◌, ℕ, zero, suc, nat_eq, Bool, true, false, ◌||◌, ◌&&◌, cond, Option, None, Some}
use Rattle.std.proofs.Common.{List, [], ◌∷◌, ◌++◌, length, map, refl, sym, ap, ◌∙◌, arith}
use Rattle.std.specs.List.{AllZip, filter, list_any}
use Rattle.std.proofs.lemmas.Bool.{eqb-false}
use Rattle.std.proofs.lemmas.Bool.Decides.{Decides-eqb, Decides-like, same_from_decides}
use Rattle.std.proofs.lemmas.Map.Text.{is_eq-slice_cmp}
use Rattle.std.proofs.lemmas.Slice.Eq.{bytes_eq-Decides}
use Rattle.std.proofs.lemmas.Slice.Zip.{AllZip-long}
use Rattle.std.specs.Str.{bytes_eq}
use Rattle.plain_graph.specs.Graph as plain
use Rattle.plain_graph.specs.Graph.{Edge, degree_in}
use Rattle.plain_graph.specs.Meaning as meaning
use Rattle.plain_graph.specs.Values.{is_text}
use Rattle.plain_graph.specs.declared.direction.Direction.{Direction}
use Rattle.plain_graph.specs.declared.direction.Direction.TheVariants as directions
use Rattle.rec_bytes.specs.declared.shape.Shape.{Shape}
use Rattle.rec_bytes.specs.Format as format
use Rattle.store_rules.specs.Graph.{edge_from, edge_of, graph_of}
use Rattle.store_rules.specs.Properties.{property_records}
use Rattle.store_rules.specs.Rows.{collect, option_list}
use Rattle.store_rules.specs.Rules.{KeepsRules}
use Rattle.store_rules.specs.Views.{Records, high, kind_at, rec_at, rel_in}
use Rattle.store_rules.proofs.ViewLaws.{row_some}
use Rattle.rel_store.specs.declared.edge_row.EdgeRow.{EdgeRow}
use Rattle.chain_edit.specs.Walking.{edge_at}
use Rattle.expand.specs.declared.matching.End.TheVariants as ends
use Rattle.expand.specs.Expanding.{AreNameNumbers, AreRowsOf, IsRowOf, edge_row_at, name_of, rows_of}
use Rattle.expand.specs.Matching.{is_at, is_met_at, is_wanted, rows_at}

-- ---- two lists, place by place

module _ {A B : Type 0} (R : A → B → Type 0) where
  -- two pairs of lists, one after the other
  zip_append : (xs xs' : List A) (ys ys' : List B) → AllZip R xs ys → AllZip R xs' ys' → AllZip R (xs ++ xs') (ys ++ ys')
  zip_append [] xs' [] ys' front back = back
  zip_append [] xs' (y ∷ ys) ys' front back = absurd front
  zip_append (x ∷ xs) xs' [] ys' front back = absurd front
  zip_append (x ∷ xs) xs' (y ∷ ys) ys' front back = (front.0, zip_append xs xs' ys ys' front.1 back)

  -- tests that agree on related items keep related items
  pub zip_filter : (p : A → Bool) (q : B → Bool) → ((x : A) (y : B) → R x y → p x ≡ q y) → (xs : List A) (ys : List B) → AllZip R xs ys
      → AllZip R (filter p xs) (filter q ys)
  zip_filter p q agree [] [] all = tt
  zip_filter p q agree [] (y ∷ ys) all = absurd all
  zip_filter p q agree (x ∷ xs) [] all = absurd all
  zip_filter p q agree (x ∷ xs) (y ∷ ys) all = kept (p x) (q y) (agree x y all.0) all.0 (zip_filter p q agree xs ys all.1)
    where
      kept : (a b : Bool) → a ≡ b → R x y → AllZip R (filter p xs) (filter q ys)
          → AllZip R (cond a (x ∷ filter p xs) (filter p xs)) (cond b (y ∷ filter q ys) (filter q ys))
      kept true true same first rest = (first, rest)
      kept true false same first rest = absurd cc
      kept false true same first rest = absurd cc
      kept false false same first rest = rest

  -- rows that are related number by number
  zip_collect : (row : ℕ → Option A) (other : ℕ → Option B) (n : ℕ) → ((x : ℕ) → x < n → AllZip R (option_list (row x)) (option_list (other x)))
      → AllZip R (collect row n) (collect other n)
  zip_collect row other zero each = tt
  zip_collect row other (suc n) each =
      zip_append (collect row n) (option_list (row n)) (collect other n) (option_list (other n))
      (zip_collect row other n (λ x lt. each x (omega arith))) (each n (omega arith))

-- ---- rows and edges

-- a name of the store is among the numbers just where its text is among the texts
abbrev pub StandFor : Records → List ℕ → List (List ℕ) → Type 0
StandFor s labels names = (x : ℕ) → x < high s format.names_file → is_wanted labels x ≡ meaning.is_named names (name_of s x)

module _ (s : Records) (shape : Shape) {most : ℕ} {empty : List ℕ} (keeps : KeepsRules s shape most empty) where
  -- the rows of the store are those of the graph's edges
  pub rows_are : AreRowsOf s (rows_of s) (graph_of s).edges
  rows_are = zip_collect (IsRowOf s) (edge_row_at s) (edge_of s) (high s format.relationships_file)
      (λ x lt. one x (nat_eq (kind_at s format.relationships_file x) 0) refl (λ some. keeps.named.rels_named x _
      (row_some _ (rel_in (rec_at s format.relationships_file x) x) (eqb-false _ _ some))))
    where
      one : (x : ℕ) (free : Bool) → nat_eq (kind_at s format.relationships_file x) 0 ≡ free
          → ((nat_eq (kind_at s format.relationships_file x) 0 ≡ false) → (edge_at s x).label < high s format.names_file)
          → AllZip (IsRowOf s) (option_list (cond free None (Some (edge_at s x))))
          (option_list (edge_from (rec_at s format.names_file) (property_records s) (cond free None (Some (rel_in (rec_at s format.relationships_file x) x)))))
      one x true is named = tt
      one x false is named = (record { id = refl; from = refl; to = refl; known = named is; label = refl }, tt)

  -- as many rows at a node as edges
  pub length-at_node : (n : ℕ) → length (filter (is_at n) (rows_of s)) ≡ degree_in (graph_of s) n
  length-at_node n =
      sym (AllZip-long (IsRowOf s) (filter (is_at n) (rows_of s)) (filter (plain.is_at n) (graph_of s).edges)
      (zip_filter (IsRowOf s) (is_at n) (plain.is_at n) (λ row edge is. λ i. nat_eq (is.from i) n || nat_eq (is.to i) n) (rows_of s) (graph_of s).edges
      rows_are))

  -- ---- numbers of types and their texts

  -- numbers of names are equal where their texts are
  nat_eq-name_of : (a b : ℕ) → a < high s format.names_file → b < high s format.names_file → nat_eq a b ≡ is_text (name_of s b) (name_of s a)
  nat_eq-name_of a b a_low b_low =
      same_from_decides _ _ (Decides-eqb a b)
      (Decides-like (bytes_eq (name_of s b) (name_of s a)) (λ same. sym (keeps.names.distinct b a b_low a_low same)) (λ same. ap (name_of s) (sym same))
      (bytes_eq-Decides (name_of s b) (name_of s a)))
      ∙ sym (is_eq-slice_cmp (name_of s b) (name_of s a))

  -- numbers of names stand for their texts
  pub names_stand : (labels : List ℕ) → AreNameNumbers s labels → StandFor s labels (map (name_of s) labels)
  names_stand [] all = λ x lt. refl
  names_stand (label ∷ labels) all = λ x lt. any_is x lt (label ∷ labels) all
    where
      any_is : (x : ℕ) → x < high s format.names_file → (numbers : List ℕ) → AreNameNumbers s numbers
          → list_any (nat_eq x) numbers ≡ list_any (λ other. is_text other (name_of s x)) (map (name_of s) numbers)
      any_is x lt [] all = refl
      any_is x lt (y ∷ ys) all =
          let first = nat_eq-name_of x y lt (all 0 y (omega arith)) in
          let rest = any_is x lt ys (λ k d low. all (suc k) d (omega arith)) in
          λ i. first i || rest i

  -- the rows at a node are those of the model's edges, for any numbers and texts that stand for each other
  module _ (labels : List ℕ) (names : List (List ℕ)) (stand : StandFor s labels names) (n : ℕ) where
    -- the types of a row and its edge pass alike
    typed : (row : EdgeRow) (edge : Edge) → IsRowOf s row edge → is_wanted labels row.label ≡ meaning.is_named names edge.label
    typed row edge is = stand row.label is.known ∙ ap (meaning.is_named names) is.label

    -- those that leave the node
    leave : AreRowsOf s (filter (is_met_at ends.Source labels n) (rows_of s)) (meaning.leaving (graph_of s) names n)
    leave = zip_filter (IsRowOf s) (is_met_at ends.Source labels n) (meaning.leaves_by names n)
        (λ row edge is. λ i. nat_eq (is.from i) n && typed row edge is i) (rows_of s) (graph_of s).edges rows_are

    -- those that enter it
    enter : AreRowsOf s (filter (is_met_at ends.Target labels n) (rows_of s)) (meaning.entering (graph_of s) names n)
    enter = zip_filter (IsRowOf s) (is_met_at ends.Target labels n) (meaning.enters_by names n)
        (λ row edge is. λ i. nat_eq (is.to i) n && typed row edge is i) (rows_of s) (graph_of s).edges rows_are

    -- those of a direction
    pub rows_at_are : (direction : Direction) → AreRowsOf s (rows_at direction labels n (rows_of s)) (meaning.edges_at (graph_of s) direction names n)
    rows_at_are directions.Outgoing = leave
    rows_at_are directions.Incoming = enter
    rows_at_are directions.Both = zip_append (IsRowOf s) _ _ _ _ leave enter
