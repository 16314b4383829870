-- An element whose properties change, one change after another, and a new element that gets its properties.
use Rattle.std.specs.List.{list_any}
use Rattle.std.proofs.Common.{◌≡◌, ℕ, nat_eq, nat_lt, Bool, true, false, ◌||◌, cond, None, Some, option_map, List, [], ◌∷◌, find, sym, ap, ◌∙◌, refl, not}
use Rattle.plain_graph.specs.Graph.{Edge, Graph, Node, change_edge, change_node, edge_number, edge_properties, has_element, node_number, node_properties}
use Rattle.plain_graph.specs.Graph.{properties_at, with_change, with_properties, with_row, without_row}
use Rattle.plain_graph.specs.Properties.{Properties}
use Rattle.plain_graph.specs.declared.command.Target.{Target}
use Rattle.plain_graph.specs.declared.command.Target.TheVariants as targets
use Rattle.store_rules.proofs.NumberLaws.{eq_true}

-- ---- rows
module _ {E : Type 0} (of : E → ℕ) (id : ℕ) where
  abbrev test : E → Bool
  test e = nat_eq (of e) id

  -- a change that keeps the numbers keeps which are there
  any_changed : (change : E → E) → ((e : E) → of (change e) ≡ of e) → (rows : List E) → list_any test (with_change of id change rows) ≡ list_any test rows
  any_changed change same [] = refl
  any_changed change same (e ∷ rows) = by (test e) (any_changed change same rows)
    where
      by : (b : Bool) → list_any test (with_change of id change rows) ≡ list_any test rows
          → (test (cond b (change e) e) || list_any test (with_change of id change rows)) ≡ (test e || list_any test rows)
      by true rest = λ i. nat_eq (same e i) id || rest i
      by false rest = ap (λ b. test e || b) rest

  -- two changes of a row are one
  both_changed : (one two : E → E) → ((e : E) → of (one e) ≡ of e) → (rows : List E)
      → with_change of id two (with_change of id one rows) ≡ with_change of id (λ e. two (one e)) rows
  both_changed one two same [] = refl
  both_changed one two same (e ∷ rows) = by (test e) refl (both_changed one two same rows)
    where
      by : (b : Bool) → test e ≡ b → with_change of id two (with_change of id one rows) ≡ with_change of id (λ e. two (one e)) rows
          → cond (test (cond b (one e) e)) (two (cond b (one e) e)) (cond b (one e) e) ∷ with_change of id two (with_change of id one rows) ≡ cond b
          (two (one e)) e ∷ with_change of id (λ e. two (one e)) rows
      by true here rest = λ i. cond ((ap (λ n. nat_eq n id) (same e) ∙ here) i) (two (one e)) (one e) ∷ rest i
      by false here rest = λ i. cond (here i) (two e) e ∷ rest i

  -- no change leaves the rows
  none_changed : (rows : List E) → with_change of id (λ e. e) rows ≡ rows
  none_changed [] = refl
  none_changed (e ∷ rows) = λ i. by (test e) i ∷ none_changed rows i
    where
      by : (b : Bool) → cond b e e ≡ e
      by true = refl
      by false = refl

  -- the row that is found afterwards is the changed one
  find_changed : (change : E → E) → ((e : E) → of (change e) ≡ of e) → (rows : List E)
      → find test (with_change of id change rows) ≡ option_map change (find test rows)
  find_changed change same [] = refl
  find_changed change same (e ∷ rows) = by (test e) refl (find_changed change same rows)
    where
      by : (b : Bool) → test e ≡ b → find test (with_change of id change rows) ≡ option_map change (find test rows)
          → cond (test (cond b (change e) e)) (Some (cond b (change e) e)) (find test (with_change of id change rows)) ≡ option_map change
          (cond b (Some e) (find test rows))
      by true here rest = λ i. cond ((ap (λ n. nat_eq n id) (same e) ∙ here) i) (Some (change e)) (find test (with_change of id change rows))
      by false here rest = ap (λ b. cond b (Some e) (find test (with_change of id change rows))) here ∙ rest

  -- where a row of the number is there, one is found
  found : (rows : List E) → list_any test rows ≡ true → (e : E) × (find test rows ≡ Some e)
  found [] there = absurd cc
  found (e ∷ rows) there = by (test e) there (found rows)
    where
      by : (b : Bool) → (b || list_any test rows) ≡ true → (list_any test rows ≡ true → (d : E) × (find test rows ≡ Some d)) → (d : E)
          × (cond b (Some e) (find test rows) ≡ Some d)
      by true h rest = (e, refl)
      by false h rest = rest h

  -- rows of other numbers stay
  fresh_changed : (change : E → E) (rows : List E) → list_any test rows ≡ false → with_change of id change rows ≡ rows
  fresh_changed change [] out = refl
  fresh_changed change (e ∷ rows) out = by (test e) out (fresh_changed change rows)
    where
      by : (b : Bool) → (b || list_any test rows) ≡ false → (list_any test rows ≡ false → with_change of id change rows ≡ rows)
          → cond b (change e) e ∷ with_change of id change rows ≡ e ∷ rows
      by true h rest = absurd cc
      by false h rest = ap (λ l. e ∷ l) (rest h)

  -- a new row that changes afterwards
  with_row_changed : (change : E → E) (new : E) → of new ≡ id → of (change new) ≡ of new → (rows : List E) → list_any test rows ≡ false
      → with_change of id change (with_row of new rows) ≡ with_row of (change new) rows
  with_row_changed change new here same [] out = λ i. cond ((ap (λ n. nat_eq n id) here ∙ eq_true id id refl) i) (change new) new ∷ []
  with_row_changed change new here same (e ∷ rows) out =
      by (nat_lt (of new) (of e)) (test e) out refl (λ h. with_row_changed change new here same rows h) (λ h. fresh_changed change rows h)
      ∙ ap (λ n. cond (nat_lt n (of e)) (change new ∷ e ∷ rows) (e ∷ with_row of (change new) rows)) (sym same)
    where
      is : test new ≡ true
      is = ap (λ n. nat_eq n id) here ∙ eq_true id id refl

      by : (lt b : Bool) → (b || list_any test rows) ≡ false → test e ≡ b
          → (list_any test rows ≡ false → with_change of id change (with_row of new rows) ≡ with_row of (change new) rows)
          → (list_any test rows ≡ false → with_change of id change rows ≡ rows)
          → with_change of id change (cond lt (new ∷ e ∷ rows) (e ∷ with_row of new rows)) ≡ cond lt (change new ∷ e ∷ rows) (e ∷ with_row of (change new) rows)
      by lt true h t rest stay = absurd cc
      by true false h t rest stay = λ i. cond ((ap (λ n. nat_eq n id) here ∙ eq_true id id refl) i) (change new) new ∷ cond (t i) (change e) e ∷ stay h i
      by false false h t rest stay = λ i. cond (t i) (change e) e ∷ rest h i

  -- a new row is there, and is the one that is found
  any_with_row : (new : E) → of new ≡ id → (rows : List E) → list_any test (with_row of new rows) ≡ true
  any_with_row new here [] = ap (λ b. b || false) (ap (λ n. nat_eq n id) here ∙ eq_true id id refl)
  any_with_row new here (e ∷ rows) = by (nat_lt (of new) (of e)) (any_with_row new here rows)
    where
      right : (b : Bool) → (b || true) ≡ true
      right true = refl
      right false = refl

      by : (lt : Bool) → list_any test (with_row of new rows) ≡ true → list_any test (cond lt (new ∷ e ∷ rows) (e ∷ with_row of new rows)) ≡ true
      by true rest = ap (λ b. b || list_any test (e ∷ rows)) (ap (λ n. nat_eq n id) here ∙ eq_true id id refl)
      by false rest = ap (λ b. test e || b) rest ∙ right (test e)

  find_with_row : (new : E) → of new ≡ id → (rows : List E) → list_any test rows ≡ false → find test (with_row of new rows) ≡ Some new
  find_with_row new here [] out = ap (λ b. cond b (Some new) None) (ap (λ n. nat_eq n id) here ∙ eq_true id id refl)
  find_with_row new here (e ∷ rows) out = by (nat_lt (of new) (of e)) (test e) out refl (λ h. find_with_row new here rows h)
    where
      by : (lt b : Bool) → (b || list_any test rows) ≡ false → test e ≡ b → (list_any test rows ≡ false → find test (with_row of new rows) ≡ Some new)
          → find test (cond lt (new ∷ e ∷ rows) (e ∷ with_row of new rows)) ≡ Some new
      by lt true h t rest = absurd cc
      by true false h t rest = ap (λ b. cond b (Some new) (find test (e ∷ rows))) (ap (λ n. nat_eq n id) here ∙ eq_true id id refl)
      by false false h t rest = ap (λ b. cond b (Some e) (find test (with_row of new rows))) t ∙ rest h

-- ---- elements of a graph

-- the element is there as before
pub has_element-with_properties : (g : Graph) (target : Target) (change : Properties → Properties)
    → has_element (with_properties g target change) target ≡ has_element g target
has_element-with_properties g (targets.Node id) change = any_changed node_number id (change_node change) (λ e. refl) g.nodes
has_element-with_properties g (targets.Edge id) change = any_changed edge_number id (change_edge change) (λ e. refl) g.edges

-- the names stay
pub names-with_properties : (g : Graph) (target : Target) (change : Properties → Properties) → (with_properties g target change).names ≡ g.names
names-with_properties g (targets.Node id) change = refl
names-with_properties g (targets.Edge id) change = refl

-- no change leaves the graph
pub with_properties_same : (g : Graph) (target : Target) → with_properties g target (λ properties. properties) ≡ g
with_properties_same g (targets.Node id) = λ i. record g { nodes = none_changed node_number id g.nodes i }
with_properties_same g (targets.Edge id) = λ i. record g { edges = none_changed edge_number id g.edges i }

-- two changes are one
pub with_properties_twice : (g : Graph) (target : Target) (one two : Properties → Properties)
    → with_properties (with_properties g target one) target two ≡ with_properties g target (λ properties. two (one properties))
with_properties_twice g (targets.Node id) one two = λ i. record g {
  nodes = both_changed node_number id (change_node one) (change_node two) (λ e. refl)
      g.nodes i;
}
with_properties_twice g (targets.Edge id) one two = λ i. record g {
  edges = both_changed edge_number id (change_edge one) (change_edge two) (λ e. refl)
      g.edges i;
}

-- an element that is there has the changed properties
pub properties_at-with_properties : (g : Graph) (target : Target) (change : Properties → Properties) → has_element g target ≡ true
    → properties_at (with_properties g target change) target ≡ change (properties_at g target)
properties_at-with_properties g (targets.Node id) change there =
    let row = found node_number id g.nodes there in
    ap node_properties (find_changed node_number id (change_node change) (λ e. refl) g.nodes ∙ ap (option_map (change_node change)) row.1)
    ∙ sym (ap (λ o. change (node_properties o)) row.1)
properties_at-with_properties g (targets.Edge id) change there =
    let row = found edge_number id g.edges there in
    ap edge_properties (find_changed edge_number id (change_edge change) (λ e. refl) g.edges ∙ ap (option_map (change_edge change)) row.1)
    ∙ sym (ap (λ o. change (edge_properties o)) row.1)

-- a new node that gets properties
pub new_node_changed : (change : Properties → Properties) (node : Node) (nodes : List Node) → list_any (λ e. nat_eq (node_number e) node.id) nodes ≡ false
    → with_change node_number node.id (change_node change) (with_row node_number node nodes) ≡ with_row node_number (change_node change node) nodes
new_node_changed change node nodes fresh = with_row_changed node_number node.id (change_node change) node refl refl nodes fresh

-- a new edge that does
pub new_edge_changed : (change : Properties → Properties) (edge : Edge) (edges : List Edge) → list_any (λ e. nat_eq (edge_number e) edge.id) edges ≡ false
    → with_change edge_number edge.id (change_edge change) (with_row edge_number edge edges) ≡ with_row edge_number (change_edge change edge) edges
new_edge_changed change edge edges fresh = with_row_changed edge_number edge.id (change_edge change) edge refl refl edges fresh

-- a new element is there, with the properties that it came with
pub new_node_there : (node : Node) (nodes : List Node) → list_any (λ e. nat_eq (node_number e) node.id) (with_row node_number node nodes) ≡ true
new_node_there node nodes = any_with_row node_number node.id node refl nodes

pub new_node_properties : (node : Node) (nodes : List Node) → list_any (λ e. nat_eq (node_number e) node.id) nodes ≡ false
    → node_properties (find (λ e. nat_eq (node_number e) node.id) (with_row node_number node nodes)) ≡ node.properties
new_node_properties node nodes fresh = ap node_properties (find_with_row node_number node.id node refl nodes fresh)

pub new_edge_there : (edge : Edge) (edges : List Edge) → list_any (λ e. nat_eq (edge_number e) edge.id) (with_row edge_number edge edges) ≡ true
new_edge_there edge edges = any_with_row edge_number edge.id edge refl edges

pub new_edge_properties : (edge : Edge) (edges : List Edge) → list_any (λ e. nat_eq (edge_number e) edge.id) edges ≡ false
    → edge_properties (find (λ e. nat_eq (edge_number e) edge.id) (with_row edge_number edge edges)) ≡ edge.properties
new_edge_properties edge edges fresh = ap edge_properties (find_with_row edge_number edge.id edge refl edges fresh)

pub without_changed : {E : Type 0} (of : E → ℕ) (id : ℕ) (change : E → E) → ((e : E) → of (change e) ≡ of e) → (rows : List E)
    → without_row of id (with_change of id change rows) ≡ without_row of id rows
without_changed of id change same [] = refl
without_changed {E} of id change same (e ∷ rows) = by (nat_eq (of e) id) refl (without_row of id (with_change of id change rows)) (without_row of id rows)
    (without_changed of id change same rows)
  where
    by : (b : Bool) → nat_eq (of e) id ≡ b → (now old : List E) → now ≡ old
        → cond (not (nat_eq (of (cond b (change e) e)) id)) (cond b (change e) e ∷ now) now ≡ cond (not b) (e ∷ old) old
    by true is now old rest = ap (λ c. cond (not c) (change e ∷ now) now) (ap (λ n. nat_eq n id) (same e) ∙ is) ∙ rest
    by false is now old rest = ap (λ c. cond (not c) (e ∷ now) now) is ∙ ap (λ l. e ∷ l) rest
