-- A node that gets a key of which its label has an index: the indexes take more records.
use Rattle.std.specs.FinMap as maps
use Rattle.std.specs.FinMap.{get-insert}
use Rattle.std.specs.Cmp.Lexicographic.{nat_list_cmp_total}
use Rattle.std.specs.Ordering.{eq_by_cmp}
use Rattle.std.specs.Cmp.{eq_by_cmp_equiv}
use Rattle.std.specs.Prelude.{is_some}
use Rattle.std.specs.List.{filter, sum_by}
use Rattle.std.proofs.Common.{◌≡◌, inl, inr, ℕ, ◌+◌, ◌<◌, ◌≤◌, nat_eq, Bool, true, false, ◌&&◌, if◌then◌else◌, cond}
use Rattle.std.proofs.Common.{find, Option, None, Some, List, [], ◌∷◌, length, map, ap, sym, ◌∙◌, subst, arith, refl}
use Rattle.std.proofs.lemmas.Bool.{false≢true, true≢false}
use Rattle.std.proofs.lemmas.List.Sums.{sum_by-cons}
use Rattle.plain_graph.specs.Graph.{Graph, Index, Node, change_node, node_number, node_properties, with_value}
use Rattle.plain_graph.specs.Indexes.{has_key, index_records}
use Rattle.plain_graph.specs.Properties.{Properties}
use Rattle.plain_graph.specs.Values.{is_text}
use Rattle.plain_graph.specs.declared.command.Target.TheVariants as targets
use Rattle.plain_graph.specs.declared.value.Value.{Value}
use Rattle.plain_graph.proofs.PropertyLaws.{order}
use Rattle.rec_bytes.specs.Format as format
use Rattle.rec_bytes.specs.Space.{State}
use Rattle.store_rules.specs.Chains.{In}
use Rattle.store_rules.specs.Graph.{graph_of}
use Rattle.store_rules.specs.Indexes.{IsIndexed, indexed_key, indexed_label, node_value, wanted_in}
use Rattle.store_rules.specs.Views.{high, kind_at, node_in, rec_at}
use Rattle.store_rules.proofs.NumberLaws.{and_parts, eq_true}
use Rattle.store_rules.proofs.ViewLaws.{row_some}
use Rattle.prop_store.specs.Owner.{IsOwner}
use Rattle.change_parts.specs.Owners.{owner_of}
use Rattle.change_parts.proofs.GraphPairs.{any_in, has_pair, index_at, is_among, of_definition, pair_is, sum_indexes, text}
use Rattle.node_changes.proofs.NodeWeights.{key_held}
use Rattle.change_parts.proofs.PairsPut.{label_at}
use Rattle.node_changes.proofs.PairWeights.{text_test}
use Rattle.node_changes.proofs.ValueWeights.{node_is}
use Rattle.prop_store.specs.Changing.{HasElement}

-- ---- sums of which one part is more

sum_most : (f g : ℕ → ℕ) → ((x : ℕ) → f x ≤ g x) → (xs : List ℕ) → sum_by f xs ≤ sum_by g xs
sum_most f g most [] = omega arith
sum_most f g most (x ∷ xs) =
    let one = sum_by-cons f x xs in
    let other = sum_by-cons g x xs in
    let rest = sum_most f g most xs in
    let here = most x in
    omega (arith, one, other, rest, here)

sum_less : (f g : ℕ → ℕ) → ((x : ℕ) → f x ≤ g x) → (d : ℕ) → f d < g d → (xs : List ℕ) → In d xs → sum_by f xs < sum_by g xs
sum_less f g most d less [] i = elim i [ ]
sum_less f g most d less (x ∷ xs) (inl e) =
    let one = sum_by-cons f x xs in
    let other = sum_by-cons g x xs in
    let rest = sum_most f g most xs in
    let here : f x < g x = subst (λ z. f z < g z) e less in
    omega (arith, one, other, rest, here)
sum_less f g most d less (x ∷ xs) (inr i) =
    let one = sum_by-cons f x xs in
    let other = sum_by-cons g x xs in
    let rest = sum_less f g most d less xs i in
    let here = most x in
    omega (arith, one, other, rest, here)

-- ---- rows that pass a test

abbrev node_or : Node → Option Node → Node
node_or other None = other
node_or other (Some node) = node

module _ (pass : Node → Bool) (put : Node → Node) (keeps : (r : Node) → pass r ≡ true → pass (put r) ≡ true) where
  count_most : (rs : List Node) → length (filter pass rs) ≤ length (filter pass (map put rs))
  count_most [] = omega arith
  count_most (r ∷ rs) = by (pass r) (pass (put r)) (keeps r) (count_most rs)
    where
      by : (a b : Bool) → (a ≡ true → b ≡ true) → length (filter pass rs) ≤ length (filter pass (map put rs))
          → length (cond a (r ∷ filter pass rs) (filter pass rs)) ≤ length (cond b (put r ∷ filter pass (map put rs)) (filter pass (map put rs)))
      by true true k rest = omega (arith, rest)
      by true false k rest = absurd (false≢true (k refl))
      by false true k rest = omega (arith, rest)
      by false false k rest = rest

  count_less : (is : Node → Bool) (node : Node) → pass node ≡ false → pass (put node) ≡ true → (rs : List Node) → find is rs ≡ Some node
      → length (filter pass rs) < length (filter pass (map put rs))
  count_less is node lacks has [] found = absurd cc
  count_less is node lacks has (r ∷ rs) found = by (is r) (λ later. count_less is node lacks has rs later) found
    where
      here : (a b : Bool) → a ≡ false → b ≡ true → length (filter pass rs) ≤ length (filter pass (map put rs))
          → length (cond a (r ∷ filter pass rs) (filter pass rs)) < length (cond b (put r ∷ filter pass (map put rs)) (filter pass (map put rs)))
      here true b p q rest = absurd (true≢false p)
      here false false p q rest = absurd (false≢true q)
      here false true p q rest = omega (arith, rest)

      more : (a b : Bool) → (a ≡ true → b ≡ true) → length (filter pass rs) < length (filter pass (map put rs))
          → length (cond a (r ∷ filter pass rs) (filter pass rs)) < length (cond b (put r ∷ filter pass (map put rs)) (filter pass (map put rs)))
      more true true k rest = omega (arith, rest)
      more true false k rest = absurd (false≢true (k refl))
      more false true k rest = omega (arith, rest)
      more false false k rest = rest

      by : (b : Bool) → (find is rs ≡ Some node → length (filter pass rs) < length (filter pass (map put rs))) → (if b then Some r else find is rs) ≡ Some node
          → length (cond (pass r) (r ∷ filter pass rs) (filter pass rs)) < length
          (cond (pass (put r)) (put r ∷ filter pass (map put rs)) (filter pass (map put rs)))
      by true later found = let e : r ≡ node = ap (node_or node) found in
          here (pass r) (pass (put r)) (ap pass e ∙ lacks) (ap (λ z. pass (put z)) e ∙ has) (count_most rs)
      by false later found = more (pass r) (pass (put r)) (keeps r) (later found)

-- ---- a node with one more key

module _ (id : ℕ) (key : List ℕ) (value : Value) where
  abbrev put_key : Node → Node
  put_key node = if nat_eq (node_number node) id then change_node (λ m. maps.insert m key value) node else node

  abbrev in_index : Index → Node → Bool
  in_index index node = is_text index.label node.label && has_key node.properties index.key

  key_kept : (index : Index) (r : Node) → in_index index r ≡ true → in_index index (put_key r) ≡ true
  key_kept index r holds = by (nat_eq (node_number r) id)
    where
      or_there : (b : Bool) → is_some (maps.get r.properties index.key) ≡ true → is_some (cond b (Some value) (maps.get r.properties index.key)) ≡ true
      or_there true there = refl
      or_there false there = there

      by : (b : Bool) → in_index index (if b then change_node (λ m. maps.insert m key value) r else r) ≡ true
      by false = holds
      by true =
          let both = and_parts (is_text index.label r.label) (has_key r.properties index.key) holds in
          ap (λ c. c && has_key (maps.insert r.properties key value) index.key) both.0
          ∙ ap is_some (get-insert nat_list_cmp_total r.properties key value index.key) ∙ or_there (eq_by_cmp order index.key key) both.1

module _ (s : State) (id : ℕ) (store : IsIndexed s.records s.shape) (owned : IsOwner (owner_of (targets.Node id)))
    (has : HasElement s (owner_of (targets.Node id))) (number : ℕ) (low : number < high s.records format.names_file) (value : Value)
    (lacks : node_value s.records (label_at s.records id) number id ≡ None)
    (listed : is_among s.records store.indexes.definitions (label_at s.records id) number ≡ true) where
  abbrev g : Graph
  g = graph_of s.records

  abbrev key : List ℕ
  key = text s.records number

  abbrev label : ℕ
  label = label_at s.records id

  abbrev before : Index → ℕ
  before index = 13 + length (filter (in_index id key value index) g.nodes)

  abbrev after : Index → ℕ
  after index = 13 + length (filter (in_index id key value index) (map (put_key id key value) g.nodes))

  each : (d : ℕ) → of_definition s.records before d ≤ of_definition s.records after d
  each d =
      let index = index_at s.records (indexed_label s.records d) (indexed_key s.records d) in
      let most = count_most (in_index id key value index) (put_key id key value) (key_kept id key value index) g.nodes in
      omega (arith, most)

  -- the node, as the graph has it
  abbrev node : Node
  node = node_or (record { id = 0; label = []; properties = maps.empty }) (find (λ n. nat_eq (node_number n) id) g.nodes)

  found : find (λ n. nat_eq (node_number n) id) g.nodes ≡ Some node
  found = node_is s.records id has.used ∙ ap (λ o. Some (node_or (record { id = 0; label = []; properties = maps.empty }) o))
      (sym (node_is s.records id has.used))

  id_is : node.id ≡ id
  id_is = ap (λ o. (node_or (record { id = 0; label = []; properties = maps.empty }) o).id) (node_is s.records id has.used)

  label_is : node.label ≡ text s.records label
  label_is = ap (λ o. (node_or (record { id = 0; label = []; properties = maps.empty }) o).label) (node_is s.records id has.used)

  lacks_key : has_key node.properties key ≡ false
  lacks_key = ap (λ (m : Properties). has_key m key) (ap node_properties (sym found)) ∙ key_held s id store owned has number low ∙ ap is_some lacks

  label_low : label < high s.records format.names_file
  label_low = store.store.named.nodes_named id (node_in (rec_at s.records format.nodes_file id) id)
      (row_some (kind_at s.records format.nodes_file id) (node_in (rec_at s.records format.nodes_file id) id) has.used)

  same_label : is_text (text s.records label) node.label ≡ true
  same_label = ap (is_text (text s.records label)) label_is ∙ text_test (rec_at s.records format.names_file) (high s.records format.names_file)
      store.store.names label label label_low label_low ∙ eq_true label label refl

  out_before : in_index id key value (index_at s.records label number) node ≡ false
  out_before = ap (λ b. b && has_key node.properties key) same_label ∙ lacks_key

  in_after : in_index id key value (index_at s.records label number) (put_key id key value node) ≡ true
  in_after = ap (λ b. in_index id key value (index_at s.records label number) (if b then change_node (λ m. maps.insert m key value) node else node))
      (eq_true node.id id id_is)
      ∙ ap (λ b. b && has_key (maps.insert node.properties key value) key) same_label
      ∙ ap is_some (get-insert nat_list_cmp_total node.properties key value key)
      ∙ ap (λ b. is_some (cond b (Some value) (maps.get node.properties key))) ((eq_by_cmp_equiv nat_list_cmp_total).refl key)

  own : before (index_at s.records label number) < after (index_at s.records label number)
  own =
      let less = count_less (in_index id key value (index_at s.records label number)) (put_key id key value)
      (key_kept id key value (index_at s.records label number)) (λ n. nat_eq (node_number n) id) node out_before in_after g.nodes found in
      omega (arith, less)

  pub records_more : index_records g < index_records (with_value g (targets.Node id) key value)
  records_more =
      let there = any_in (has_pair s.records label number) store.indexes.definitions listed in
      let pair = pair_is s.records label number there.0 there.2 in
      let one : index_records g ≡ sum_by (of_definition s.records before) store.indexes.definitions =
      sum_indexes s.records store.store.defined (wanted_in s.records) store.indexes before in
      let other : index_records (with_value g (targets.Node id) key value) ≡ sum_by (of_definition s.records after) store.indexes.definitions =
      sum_indexes s.records store.store.defined (wanted_in s.records) store.indexes after in
      let at : of_definition s.records before there.0 < of_definition s.records after there.0
      = subst (λ x. before (index_at s.records x (indexed_key s.records there.0)) < after (index_at s.records x (indexed_key s.records there.0))) (sym pair.0)
      (subst (λ y. before (index_at s.records label y) < after (index_at s.records label y)) (sym pair.1) own) in
      let less = sum_less (of_definition s.records before) (of_definition s.records after) each there.0 at store.indexes.definitions there.1 in
      omega (arith, one, other, less)
