-- How the numbers of properties and of blocks change with the properties of one element.
use Rattle.std.proofs.Common.{◌≡◌, ℕ, zero, suc, ◌+◌, ◌<◌, nat_eq, Bool, true, false, ◌||◌, cond, Option, None, Some}
use Rattle.std.proofs.Common.{List, [], ◌∷◌, map, find, sym, ap, ◌∙◌, subst, inl, inr, ⊎_elim, arith, refl}
use Rattle.std.specs.List.{list_any, sum_by}
use Rattle.std.specs.FinMap as maps
use Rattle.std.proofs.lemmas.Bool.{eqb-true}
use Rattle.std.proofs.lemmas.List.{map-append}
use Rattle.std.proofs.lemmas.List.Sums.{sum_by-cons}
use Rattle.plain_graph.specs.Graph.{Edge, Graph, Node, block_count, change_edge, change_node, edge_number}
use Rattle.plain_graph.specs.Graph.{edge_properties, has_element, node_number, node_properties, properties_at}
use Rattle.plain_graph.specs.Graph.{property_count, with_change, with_properties}
use Rattle.plain_graph.specs.Properties.{Properties, blocks_at, blocks_in, blocks_of}
use Rattle.plain_graph.specs.declared.command.Target.{Target}
use Rattle.plain_graph.specs.declared.command.Target.TheVariants as targets
use Rattle.plain_graph.specs.declared.value.Value.{Value}
use Rattle.plain_graph.proofs.PropertyLaws.{blocks_in-insert, len-insert}
use Rattle.rec_bytes.specs.Format as format
use Rattle.rec_bytes.specs.Space.{State, meta_in}
use Rattle.store_rules.specs.Chains.{In}
use Rattle.store_rules.specs.Graph.{edge_of, graph_of, node_of}
use Rattle.store_rules.specs.Properties.{AreOnce}
use Rattle.store_rules.specs.Rows.{collect, option_list}
use Rattle.store_rules.specs.Views.{Records, high}
use Rattle.store_rules.proofs.ElementProperties.{has_element-used}
use Rattle.store_rules.proofs.GraphRows.{edges_numbered}
use Rattle.store_rules.proofs.NodeChange.{nodes_numbered}
use Rattle.store_rules.proofs.OnceLaws.{in_parts, once_both}
use Rattle.store_rules.proofs.PropertyCounts.{count_blocks, count_properties}
use Rattle.store_rules.proofs.RowLaws.{AreNumbered}
use Rattle.prop_store.specs.Changing.{HasElement, blocks_with, properties_of, properties_with, target_of, text_at}
use Rattle.prop_store.specs.Owner.{IsOwner}
use Rattle.prop_store.specs.declared.owner.Owner.{Owner}

-- ---- one row of several

module _ {E : Type 0} (of : E → ℕ) (id : ℕ) where
  -- the row has the number
  abbrev test : E → Bool
  test e = nat_eq (of e) id

  -- rows of other numbers stay
  others_stay : (change : E → E) (rows : List E) → ¬ In id (map of rows) → with_change of id change rows ≡ rows
  others_stay change [] out = refl
  others_stay change (e ∷ rows) out = by (test e) (λ h. out (inl (sym (eqb-true (of e) id h)))) (others_stay change rows (λ i. out (inr i)))
    where
      by : (b : Bool) → (b ≡ true → ⊥) → with_change of id change rows ≡ rows → cond b (change e) e ∷ with_change of id change rows ≡ e ∷ rows
      by true f later = absurd (f refl)
      by false f later = ap (λ es. e ∷ es) later

  -- a row that is there is found
  found : (rows : List E) → list_any test rows ≡ true → (e : E) × (find test rows ≡ Some e)
  found [] h = absurd cc
  found (e ∷ rows) h = by (test e) h (found rows)
    where
      by : (b : Bool) → (b || list_any test rows) ≡ true → (list_any test rows ≡ true → (d : E) × (find test rows ≡ Some d)) → (d : E)
          × (cond b (Some e) (find test rows) ≡ Some d)
      by true k later = (e, refl)
      by false k later = later k

  -- in a sum over the rows, the changed row counts in place of the one that was found
  sum_changed : (measure : E → ℕ) (change : E → E) (rows : List E) (e : E) → AreOnce (map of rows) → find test rows ≡ Some e
      → sum_by measure (with_change of id change rows) + measure e ≡ sum_by measure rows + measure (change e)
  sum_changed measure change [] e once is = absurd cc
  sum_changed measure change (d ∷ rows) e once is = by (test d) (λ h. eqb-true (of d) id h) (sum_changed measure change rows e once.1) is
    where
      by : (b : Bool) → (b ≡ true → of d ≡ id) → (find test rows ≡ Some e → sum_by measure (with_change of id change rows) + measure e ≡ sum_by measure rows +
          measure (change e)) → cond b (Some d) (find test rows) ≡ Some e
          → sum_by measure (cond b (change d) d ∷ with_change of id change rows) + measure e ≡ sum_by measure (d ∷ rows) + measure (change e)
      by true f rest k =
          let same : d ≡ e = cc in
          let stay = ap (sum_by measure) (others_stay change rows (λ i. once.0 (subst (λ z. In z (map of rows)) (sym (f refl)) i))) in
          let a = sum_by-cons measure (change d) (with_change of id change rows) in
          let b = sum_by-cons measure d rows in
          let c = ap measure same in
          let c' = ap (λ z. measure (change z)) same in
          omega arith
      by false f rest k =
          let later = rest k in
          let a = sum_by-cons measure d (with_change of id change rows) in
          let b = sum_by-cons measure d rows in
          omega arith

-- ---- one element of a graph

-- the sum over all elements
abbrev pub sum_over : (Properties → ℕ) → Graph → ℕ
sum_over measure g = sum_by (λ (node : Node). measure node.properties) g.nodes + sum_by (λ (edge : Edge). measure edge.properties) g.edges

-- no two nodes have one identifier, and no two edges
pub record AreDistinct (g : Graph) : Type 0 where
  pub nodes : AreOnce (map node_number g.nodes)
  pub edges : AreOnce (map edge_number g.edges)

-- In a sum over all elements, the changed properties of one count in place of those that it had.
pub sum_over-with_properties : (measure : Properties → ℕ) (g : Graph) (target : Target) (change : Properties → Properties) → AreDistinct g
    → has_element g target ≡ true
    → sum_over measure (with_properties g target change) + measure (properties_at g target) ≡ sum_over measure g + measure (change (properties_at g target))
sum_over-with_properties measure g (targets.Node id) change distinct there =
    let node = found node_number id g.nodes there in
    let sum = sum_changed node_number id (λ (node : Node). measure node.properties) (change_node change) g.nodes node.0 distinct.nodes node.1 in
    let was = ap (λ o. measure (node_properties o)) node.1 in
    let now = ap (λ o. measure (change (node_properties o))) node.1 in
    omega arith
sum_over-with_properties measure g (targets.Edge id) change distinct there =
    let edge = found edge_number id g.edges there in
    let sum = sum_changed edge_number id (λ (edge : Edge). measure edge.properties) (change_edge change) g.edges edge.0 distinct.edges edge.1 in
    let was = ap (λ o. measure (edge_properties o)) edge.1 in
    let now = ap (λ o. measure (change (edge_properties o))) edge.1 in
    omega arith

-- as many properties more or fewer as the element has
pub property_count-with_properties : (g : Graph) (target : Target) (change : Properties → Properties) → AreDistinct g → has_element g target ≡ true
    → property_count (with_properties g target change) + maps.len (properties_at g target) ≡ property_count g + maps.len (change (properties_at g target))
property_count-with_properties g target change distinct there = sum_over-with_properties (λ properties. maps.len properties) g target change distinct there

-- and as many blocks
pub block_count-with_properties : (g : Graph) (target : Target) (change : Properties → Properties) → AreDistinct g → has_element g target ≡ true
    → block_count (with_properties g target change) + blocks_in (properties_at g target) ≡ block_count g + blocks_in (change (properties_at g target))
block_count-with_properties g target change distinct there = sum_over-with_properties blocks_in g target change distinct there

-- ---- one element of a store

module _ {E : Type 0} (of : E → ℕ) where
  option_in : (n x : ℕ) (o : Option E) → ((e : E) → o ≡ Some e → of e ≡ n) → In x (map of (option_list o)) → x ≡ n
  option_in n x None is i = elim i [ ]
  option_in n x (Some e) is i = ⊎_elim (λ k. k ∙ is e refl) (λ (j : ⊥). absurd j) i

  option_once : (o : Option E) → AreOnce (map of (option_list o))
  option_once None = tt
  option_once (Some e) = ((λ i. i), tt)

  collect_low : (row : ℕ → Option E) (n x : ℕ) → AreNumbered of row → In x (map of (collect row n)) → x < n
  collect_low row zero x num i = elim i [ ]
  collect_low row (suc n) x num i = ⊎_elim (λ k. let l = collect_low row n x num k in omega arith) (λ k. let e = option_in n x (row n) (num n) k in omega arith)
      (in_parts x (map of (collect row n)) (map of (option_list (row n))) (subst (In x) (map-append of (collect row n) (option_list (row n))) i))

  -- rows by number have each number once
  once_collect : (row : ℕ → Option E) (n : ℕ) → AreNumbered of row → AreOnce (map of (collect row n))
  once_collect row zero num = tt
  once_collect row (suc n) num = subst AreOnce (sym (map-append of (collect row n) (option_list (row n))))
      (once_both (map of (collect row n)) (map of (option_list (row n))) (once_collect row n num) (option_once (row n)) (λ x i j. let l = collect_low row n x
      num i in let e = option_in n x (row n) (num n) j in omega arith))

-- the identifiers of a store's elements
pub distinct_in_store : (s : Records) → AreDistinct (graph_of s)
distinct_in_store s = record {
  nodes = once_collect node_number (node_of s) (high s format.nodes_file) (nodes_numbered s);
  edges = once_collect edge_number (edge_of s) (high s format.relationships_file) (edges_numbered s);
}

module _ (s : State) (owner : Owner) (is : IsOwner owner) (h : HasElement s owner) where
  pub has_target : has_element (graph_of s.records) (target_of owner) ≡ true
  has_target = has_element-used s.records owner.key.file owner.key.id is.file h.used

  -- The numbers of live records after a change of the element's properties.
  pub live_properties : (change : Properties → Properties) → property_count (with_properties (graph_of s.records) (target_of owner) change) + maps.len
      (properties_of s owner) ≡ (meta_in s.records format.properties_file).live + maps.len (change (properties_of s owner))
  live_properties change =
      let all = property_count-with_properties (graph_of s.records) (target_of owner) change (distinct_in_store s.records) has_target in
      let count = count_properties s.records s.shape h.store in
      omega arith

  pub live_blocks : (change : Properties → Properties) → block_count (with_properties (graph_of s.records) (target_of owner) change) + blocks_in
      (properties_of s owner) ≡ (meta_in s.records format.strings_file).live + blocks_in (change (properties_of s owner))
  live_blocks change =
      let all = block_count-with_properties (graph_of s.records) (target_of owner) change (distinct_in_store s.records) has_target in
      let count = count_blocks s.records s.shape h.store in
      omega arith

  -- One property more where the key is new.
  pub properties_with-live : (key : ℕ) (value : Value) → properties_with s owner key value ≡ (meta_in s.records format.properties_file).live + cond
      (maps.contains_key (properties_of s owner) (text_at s key)) 0 1
  properties_with-live key value = by (maps.contains_key (properties_of s owner) (text_at s key)) (len-insert (properties_of s owner) (text_at s key) value)
    where
      by : (b : Bool) → maps.len (maps.insert (properties_of s owner) (text_at s key) value) ≡ cond b (maps.len (properties_of s owner))
          (maps.len (properties_of s owner) + 1) → properties_with s owner key value ≡ (meta_in s.records format.properties_file).live + cond b 0 1
      by true e = let all = live_properties (λ properties. maps.insert properties (text_at s key) value) in omega arith
      by false e = let all = live_properties (λ properties. maps.insert properties (text_at s key) value) in omega arith

  -- The blocks of the value that the key had make room for those of the new one.
  pub blocks_with-live : (key : ℕ) (value : Value) → blocks_with s owner key value + blocks_at (properties_of s owner)
      (text_at s key) ≡ (meta_in s.records format.strings_file).live + blocks_of value
  blocks_with-live key value =
      let all = live_blocks (λ properties. maps.insert properties (text_at s key) value) in
      let one = blocks_in-insert (properties_of s owner) (text_at s key) value in
      omega arith
