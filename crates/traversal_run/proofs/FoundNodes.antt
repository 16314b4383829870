-- The nodes that an index finds are those that the query over all nodes gives.
use Rattle.std.proofs.Common.{◌≡◌, ◌<◌, ◌≤◌, ◌∙◌, ℕ, zero, suc, nat_eq, Bool, true, false, ◌&&◌, ◌||◌, cond, Option}
use Rattle.std.proofs.Common.{None, Some, List, [], ◌∷◌, ◌++◌, find, map, refl, sym, ap, subst, arith}
use Rattle.std.specs.FinMap as maps
use Rattle.std.specs.List.{filter, list_any}
use Rattle.std.specs.Option.{option_map}
use Rattle.std.proofs.lemmas.List.{map-append}
use Rattle.std.proofs.lemmas.List.Elements.{filter-append}
use Rattle.plain_graph.specs.Graph.{Node, node_number, node_properties}
use Rattle.plain_graph.specs.Indexes.{scan}
use Rattle.plain_graph.specs.Meaning.{is_some_and, meaning, passes, vertex_of}
use Rattle.plain_graph.specs.Values.{is_related, is_text}
use Rattle.plain_graph.specs.declared.filter.Filter.TheVariants as filters
use Rattle.plain_graph.specs.declared.item.Item.{Item}
use Rattle.plain_graph.specs.declared.item.Item.TheVariants as items
use Rattle.plain_graph.specs.declared.filter.Relation.TheVariants as relations
use Rattle.plain_graph.specs.declared.value.Value.{Value}
use Rattle.rec_bytes.specs.Format as format
use Rattle.store_rules.specs.Graph.{graph_of, node_of}
use Rattle.store_rules.specs.Indexes.{has_value}
use Rattle.store_rules.specs.Rows.{collect, option_list}
use Rattle.store_rules.specs.Views.{Records, high}
use Rattle.store_rules.proofs.NodeChange.{nodes_numbered}
use Rattle.store_rules.proofs.RowChange.{find_collect}
use Rattle.prop_index.specs.Looking.{has_labelled, nodes_having}
use Rattle.traversal_run.proofs.Asked.{same_tests}
use Rattle.traversal_run.proofs.NamesKnown.{is_text-itself, is_text-same}

-- a text is another where that is the one
is_text-turned : (a b : List ℕ) → is_text a b ≡ is_text b a
is_text-turned a b = same_tests (is_text a b) (is_text b a)
    (λ e. subst (λ t. is_text t a ≡ true) (is_text-same a b e) (is_text-itself a))
    (λ e. subst (λ t. is_text t b ≡ true) (is_text-same b a e) (is_text-itself b))

or_none : (a : Bool) → (a || false) ≡ a
or_none true = refl
or_none false = refl

module _ (s : Records) (label key : List ℕ) (value : Value) where
  abbrev mark : ℕ
  mark = high s format.nodes_file

  abbrev has_label : Item → Bool
  has_label = passes (graph_of s) (filters.HasLabel (label ∷ []))

  abbrev holds : Item → Bool
  holds = passes (graph_of s) (filters.HasValue key relations.Eq value)

  abbrev test : Node → Bool
  test = has_labelled label key value

  abbrev scanned : List Node → List Item
  scanned nodes = filter holds (filter has_label (map vertex_of (filter (λ (node : Node). true) nodes)))

  abbrev having : List Node → List Item
  having nodes = map items.Vertex (map node_number (filter test nodes))

  -- a node is found by its identifier
  node_found : (x : ℕ) (e : Node) → x < mark → node_of s x ≡ Some e → find (λ node. nat_eq (node_number node) e.id) (graph_of s).nodes ≡ Some e
  node_found x e low is =
      ap (λ (id : ℕ). find (λ node. nat_eq (node_number node) id) (graph_of s).nodes) (nodes_numbered s x e is)
      ∙ find_collect node_number (node_of s) mark x (nodes_numbered s) low ∙ is

  same_value : (o : Option Value) → is_some_and o (λ other. is_related relations.Eq other value) ≡ has_value value o
  same_value None = refl
  same_value (Some other) = refl

  one_node : (x : ℕ) → x < mark → scanned (option_list (node_of s x)) ≡ having (option_list (node_of s x))
  one_node x low = by (node_of s x) refl
    where
      by : (o : Option Node) → node_of s x ≡ o → scanned (option_list o) ≡ having (option_list o)
      by None is = refl
      by (Some e) is =
          let found = node_found x e low is in
          let labels : has_label (vertex_of e) ≡ is_text e.label label
          = ap (λ (o : Option Node). is_some_and (option_map (λ (node : Node). node.label) o) (λ own. list_any (λ name. is_text name own) (label ∷ []))) found
          ∙ or_none (is_text label e.label) ∙ is_text-turned label e.label in
          let values : holds (vertex_of e) ≡ has_value value (maps.get e.properties key)
          = ap (λ (o : Option Node). is_some_and (maps.get (node_properties o) key) (λ other. is_related relations.Eq other value)) found
          ∙ same_value (maps.get e.properties key) in
          ap (λ (b : Bool). filter holds (cond b (vertex_of e ∷ []) [])) labels
          ∙ pick (is_text e.label label) (has_value value (maps.get e.properties key)) values
        where
          pick : (b c : Bool) → holds (vertex_of e) ≡ c → filter holds (cond b (vertex_of e ∷ []) []) ≡ map items.Vertex
              (map node_number (cond (b && c) (e ∷ []) []))
          pick false c is = refl
          pick true c is = ap (λ (t : Bool). cond t (vertex_of e ∷ []) []) is ∙ on c
            where
              on : (t : Bool) → cond t (vertex_of e ∷ []) [] ≡ map items.Vertex (map node_number (cond t (e ∷ []) []))
              on true = refl
              on false = refl

  scanned-append : (xs ys : List Node) → scanned (xs ++ ys) ≡ scanned xs ++ scanned ys
  scanned-append xs ys =
      ap (λ (nodes : List Node). filter holds (filter has_label (map vertex_of nodes))) (filter-append (λ (node : Node). true) xs ys)
      ∙ ap (λ (found : List Item). filter holds (filter has_label found))
      (map-append vertex_of (filter (λ (node : Node). true) xs) (filter (λ (node : Node). true) ys))
      ∙ ap (filter holds) (filter-append has_label (map vertex_of (filter (λ (node : Node). true) xs)) (map vertex_of (filter (λ (node : Node). true) ys)))
      ∙ filter-append holds (filter has_label (map vertex_of (filter (λ (node : Node). true) xs)))
      (filter has_label (map vertex_of (filter (λ (node : Node). true) ys)))

  having-append : (xs ys : List Node) → having (xs ++ ys) ≡ having xs ++ having ys
  having-append xs ys =
      ap (λ (nodes : List Node). map items.Vertex (map node_number nodes)) (filter-append test xs ys)
      ∙ ap (map items.Vertex) (map-append node_number (filter test xs) (filter test ys))
      ∙ map-append items.Vertex (map node_number (filter test xs)) (map node_number (filter test ys))

  below : (n : ℕ) → n ≤ mark → scanned (collect (node_of s) n) ≡ having (collect (node_of s) n)
  below zero le = refl
  below (suc n) le =
      scanned-append (collect (node_of s) n) (option_list (node_of s n)) ∙ (λ i. below n (omega (arith, le)) i ++ one_node n (omega (arith, le)) i)
      ∙ sym (having-append (collect (node_of s) n) (option_list (node_of s n)))

  -- the meaning of the query
  pub scan-having : meaning (graph_of s) (scan label key value) ≡ map items.Vertex (nodes_having (graph_of s) label key value)
  scan-having = below mark (omega arith)
