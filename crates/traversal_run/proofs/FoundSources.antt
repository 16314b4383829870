-- The vertices of the identifiers that an index finds are those that the query begins with.
use Rattle.std.proofs.Common.{◌≡◌, ◌∙◌, ℕ, nat_eq, Bool, true, false, ◌&&◌, ◌||◌, cond, List, [], ◌∷◌, map, refl, sym, ap}
use Rattle.std.specs.List.{AllByRecursion, filter, list_any}
use borrow.Author.Tests.{eqb-true}
use Rattle.std.proofs.lemmas.Cmp.{nat_eq_equiv}
use Rattle.plain_graph.specs.Graph.{Graph, Node}
use Rattle.plain_graph.specs.Indexes.{scan}
use Rattle.plain_graph.specs.Meaning.{meaning, passes, source_of, vertex_of}
use Rattle.plain_graph.specs.declared.filter.Filter.TheVariants as filters
use Rattle.plain_graph.specs.declared.filter.Relation.TheVariants as relations
use Rattle.plain_graph.specs.declared.item.Item.{Item}
use Rattle.plain_graph.specs.declared.item.Item.TheVariants as items
use Rattle.plain_graph.specs.declared.query.Source.TheVariants as sources
use Rattle.plain_graph.specs.declared.value.Value.{Value}
use Rattle.traversal_run.specs.Source.{elements_left, is_left}
use Rattle.traversal_run.specs.declared.source.Left.{Left}

-- the item is the vertex of this identifier
abbrev is_vertex : ℕ → Item → Bool
is_vertex id (items.Vertex other) = nat_eq id other
is_vertex id (items.Edge other label from to) = false
is_vertex id (items.Value value) = false

any_vertex : (id : ℕ) (ids : List ℕ) → list_any (nat_eq id) ids ≡ list_any (is_vertex id) (map items.Vertex ids)
any_vertex id [] = refl
any_vertex id (other ∷ ids) = ap (λ (b : Bool). nat_eq id other || b) (any_vertex id ids)

-- tests that agree on each element of a list leave the same
filter_same : {X : Type 0} (p q : X → Bool) (xs : List X) → AllByRecursion (λ x. p x ≡ q x) xs → filter p xs ≡ filter q xs
filter_same p q [] same = refl
filter_same p q (x ∷ xs) same = (λ i. cond (same.0 i) (x ∷ filter_same p q xs same.1 i) (filter_same p q xs same.1 i))

module _ (p : Item → Bool) where
  -- the vertex of an identifier is among those of some nodes that pass, where it is that of a node and passes
  picked : (id : ℕ) (nodes : List Node) → list_any (is_vertex id) (filter p (map vertex_of nodes)) ≡ list_any (λ (node : Node). nat_eq id node.id) nodes
      && p (items.Vertex id)
  picked id [] = refl
  picked id (node ∷ nodes) = by (nat_eq id node.id) refl (p (vertex_of node)) refl (picked id nodes)
    where
      by : (e : Bool) → nat_eq id node.id ≡ e → (b : Bool) → p (vertex_of node) ≡ b
          → list_any (is_vertex id) (filter p (map vertex_of nodes)) ≡ list_any (λ (node : Node). nat_eq id node.id) nodes && p (items.Vertex id)
          → list_any (is_vertex id) (cond b (vertex_of node ∷ filter p (map vertex_of nodes)) (filter p (map vertex_of nodes)))
          ≡ (e || list_any (λ (node : Node). nat_eq id node.id) nodes) && p (items.Vertex id)
      by true here true passed later = ap (λ (b : Bool). b || list_any (is_vertex id) (filter p (map vertex_of nodes))) here
          ∙ sym (ap (λ (n : ℕ). p (items.Vertex n)) (eqb-true id node.id here) ∙ passed)
      by true here false passed later = later ∙ ap (λ (b : Bool). list_any (λ (node : Node). nat_eq id node.id) nodes && b) none
          ∙ never (list_any (λ (node : Node). nat_eq id node.id) nodes) ∙ sym none
        where
          none : p (items.Vertex id) ≡ false
          none = ap (λ (n : ℕ). p (items.Vertex n)) (eqb-true id node.id here) ∙ passed

          never : (b : Bool) → b && false ≡ false
          never true = refl
          never false = refl
      by false here true passed later = ap (λ (b : Bool). b || list_any (is_vertex id) (filter p (map vertex_of nodes))) here ∙ later
      by false here false passed later = later

  -- each node of a list is among them
  abbrev AreAmong : List Node → List Node → Type 0
  AreAmong all nodes = AllByRecursion (λ (node : Node). list_any (λ (other : Node). nat_eq node.id other.id) all ≡ true) nodes

  one_more : (first : Node) (all nodes : List Node) → AreAmong all nodes → AreAmong (first ∷ all) nodes
  one_more first all [] among = tt
  one_more first all (node ∷ nodes) among = (either (nat_eq node.id first.id) among.0, one_more first all nodes among.1)
    where
      either : (b : Bool) → list_any (λ (other : Node). nat_eq node.id other.id) all ≡ true
          → b || list_any (λ (other : Node). nat_eq node.id other.id) all ≡ true
      either true is = refl
      either false is = is

  are_among : (nodes : List Node) → AreAmong nodes nodes
  are_among [] = tt
  are_among (node ∷ nodes) = (
    ap (λ (b : Bool). b || list_any (λ (other : Node). nat_eq node.id other.id) nodes) (nat_eq_equiv.refl node.id),
    one_more node
        nodes nodes (are_among nodes),
  )

  -- so to be among those that pass is to pass
  same_test : (test : ℕ → Bool) (all : List Node) → ((id : ℕ) → test id ≡ list_any (is_vertex id) (filter p (map vertex_of all))) → (nodes : List Node)
      → AreAmong all nodes
      → AllByRecursion (λ (node : Node). test node.id ≡ p (vertex_of node)) nodes
  same_test test all is [] among = tt
  same_test test all is (node ∷ nodes) among = (
    is node.id ∙ picked node.id all ∙ ap (λ (b : Bool). b && p (vertex_of node)) among.0,
    same_test test all is
        nodes among.1,
  )

  vertices_passing : (nodes : List Node) → map vertex_of (filter (λ (node : Node). p (vertex_of node)) nodes) ≡ filter p (map vertex_of nodes)
  vertices_passing [] = refl
  vertices_passing (node ∷ nodes) = by (p (vertex_of node)) ∙ ap (λ (rest : List Item). cond (p (vertex_of node)) (vertex_of node ∷ rest) rest)
      (vertices_passing nodes)
    where
      by : (b : Bool) → map vertex_of (cond b (node ∷ filter (λ (node : Node). p (vertex_of node)) nodes) (filter (λ (node : Node). p (vertex_of node)) nodes))
          ≡ cond b (vertex_of node ∷ map vertex_of (filter (λ (node : Node). p (vertex_of node)) nodes))
          (map vertex_of (filter (λ (node : Node). p (vertex_of node)) nodes))
      by true = refl
      by false = refl

-- one test after another is both
filter_both : {X : Type 0} (p q : X → Bool) (xs : List X) → filter q (filter p xs) ≡ filter (λ x. p x && q x) xs
filter_both p q [] = refl
filter_both p q (x ∷ xs) = by (p x) (filter_both p q xs)
  where
    by : (b : Bool) → filter q (filter p xs) ≡ filter (λ x. p x && q x) xs
        → filter q (cond b (x ∷ filter p xs) (filter p xs)) ≡ cond (b && q x) (x ∷ filter (λ x. p x && q x) xs) (filter (λ x. p x && q x) xs)
    by true later = ap (λ (rest : List _). cond (q x) (x ∷ rest) rest) later
    by false later = later

filter_all : {X : Type 0} (xs : List X) → filter (λ x. true) xs ≡ xs
filter_all [] = refl
filter_all (x ∷ xs) = ap (λ (rest : List _). x ∷ rest) (filter_all xs)

-- where what was found is what the scan means, the vertices that are left are those of the source
pub found-left : (graph : Graph) (label key : List ℕ) (value : Value) (ids : List ℕ) (left : Left) → map items.Vertex ids ≡ meaning graph (scan label key value)
    → ((id : ℕ) → is_left left id ≡ list_any (nat_eq id) ids)
    → elements_left graph false left ≡ source_of graph (sources.Found label key value)
found-left graph label key value ids left found among =
    let has_label = passes graph (filters.HasLabel (label ∷ [])) in
    let holds = passes graph (filters.HasValue key relations.Eq value) in
    let p : Item → Bool = λ (item : Item). has_label item && holds item in
    let both : meaning graph (scan label key value) ≡ filter p (map vertex_of graph.nodes)
    = ap (λ (nodes : List Node). filter holds (filter has_label (map vertex_of nodes))) (filter_all graph.nodes)
    ∙ filter_both has_label holds (map vertex_of graph.nodes) in
    let test : (id : ℕ) → is_left left id ≡ list_any (is_vertex id) (filter p (map vertex_of graph.nodes))
    = λ id. among id ∙ any_vertex id ids ∙ ap (list_any (is_vertex id)) (found ∙ both) in
    ap (map vertex_of) (filter_same (λ (node : Node). is_left left node.id) (λ (node : Node). p (vertex_of node)) graph.nodes (same_test p (is_left left)
    graph.nodes test graph.nodes (are_among p graph.nodes)))
    ∙ vertices_passing p graph.nodes ∙ sym both
