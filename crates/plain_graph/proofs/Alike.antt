-- Changes have one outcome, but for the identifiers of new edges, on which no refusal and no weight depends.
use Rattle.std.specs.FinMap as maps
use Rattle.std.proofs.Common.{◌≡◌, ◌∙◌, ℕ, ◌+◌, ◌*◌, nat_lt, nat_eq, Bool, true, false, cond, if◌then◌else◌, List, []}
use Rattle.std.proofs.Common.{◌∷◌, length, inl, inr, sym, ap, subst, arith, refl}
use Rattle.std.specs.List.{sum_by}
use Rattle.std.proofs.lemmas.List.Sums.{length-filter, sum_by-cons}
use Rattle.plain_graph.specs.Changes.{Changes, Weighs, end_weight, ends_weight}
use Rattle.plain_graph.specs.Graph.{AddsEdge, Edge, Graph, NeedsNames, Node, UsesName, UsesNames, block_count}
use Rattle.plain_graph.specs.Graph.{degree_in, edge_number, has_node, is_at, properties_at, property_count, with_row}
use Rattle.plain_graph.specs.Indexes.{element_weight}
use Rattle.plain_graph.specs.Properties.{blocks_at, blocks_in, blocks_of, keys_in, no_properties, with_pairs}
use Rattle.plain_graph.specs.Refusals.{FirstReason, NoReason, change_reasons, lacks_room}
use Rattle.plain_graph.specs.Reply.{Reply}
use Rattle.plain_graph.specs.declared.command.Command.{Command}
use Rattle.plain_graph.specs.declared.command.Command.TheVariants as commands
use Rattle.plain_graph.specs.declared.command.Target.TheVariants as targets
use Rattle.plain_graph.specs.declared.pairs.Pair.{Pair}
use Rattle.plain_graph.specs.declared.refusal.Refusal.{Refusal}
use Rattle.plain_graph.specs.declared.refusal.Refusal.TheVariants as refusals
use Rattle.plain_graph.specs.Values.{is_text}
use Rattle.plain_graph.proofs.Making.{Carries, HoldAlike, reasons_apart, reasons_same}

-- ---- names

name_once : (old : List (List ℕ)) (name : List ℕ) (a b : List (List ℕ)) → UsesName old name a → UsesName old name b → a ≡ b
name_once old name a b (inl h) (inl k) = h.1 ∙ sym k.1
name_once old name a b (inl h) (inr k) = absurd (k.0 h.0)
name_once old name a b (inr h) (inl k) = absurd (h.0 k.0)
name_once old name a b (inr h) (inr k) = h.1 ∙ sym k.1

names_once : (old line a b : List (List ℕ)) → UsesNames old line a → UsesNames old line b → a ≡ b
names_once old [] a b h k = h ∙ sym k
names_once old (name ∷ later) a b h k = names_once k.0 later a b (subst (λ (known : List (List ℕ)). UsesNames known later a)
    (name_once old name h.0 k.0 h.1 k.1) h.2) k.2

needs_once : (names line : List (List ℕ)) (a b : ℕ) → NeedsNames names line a → NeedsNames names line b → a ≡ b
needs_once names line a b h k =
    let same = ap length (names_once names line h.0 k.0 h.1 k.1) in
    let one = h.2 in
    let other = k.2 in
    omega (arith, same, one, other)

-- ---- changes with one outcome

-- a change of an element that is there
abbrev pub IsOfElement : Command → Type 0
IsOfElement (commands.Set target key value) = Unit {0}
IsOfElement (commands.Delete target) = Unit {0}
IsOfElement _ = ⊥

graph_same : (a b : Graph) → a.nodes ≡ b.nodes → a.edges ≡ b.edges → a.names ≡ b.names → a.indexes ≡ b.indexes → a ≡ b
graph_same a b nodes edges names indexes = λ i. record { nodes = nodes i; edges = edges i; names = names i; indexes = indexes i }

one_outcome : (limit : ℕ) (command : Command) (g new other : Graph) (reply told : Reply) → IsOfElement command → Changes limit g command reply new
    → Changes limit g command told other → new ≡ other
one_outcome limit (commands.Set target key value) g new other reply told is h k =
    graph_same new other (h.1.nodes ∙ sym k.1.nodes) (h.1.edges ∙ sym k.1.edges) (name_once g.names key new.names other.names h.1.names k.1.names)
    (h.1.indexes ∙ sym k.1.indexes)
one_outcome limit (commands.Delete (targets.Node id)) g new other reply told is h k =
    graph_same new other (h.1.nodes ∙ sym k.1.nodes) (h.1.edges ∙ sym k.1.edges) (h.1.names ∙ sym k.1.names) (h.1.indexes ∙ sym k.1.indexes)
one_outcome limit (commands.Delete (targets.Edge id)) g new other reply told is h k =
    graph_same new other (h.1.nodes ∙ sym k.1.nodes) (h.1.edges ∙ sym k.1.edges) (h.1.names ∙ sym k.1.names) (h.1.indexes ∙ sym k.1.indexes)
one_outcome limit _ g new other reply told is h k = absurd is

one_weight : (threshold : ℕ) (command : Command) (g : Graph) (a b : ℕ) → IsOfElement command → Weighs threshold g command a → Weighs threshold g command b
    → a ≡ b
one_weight threshold (commands.Set target key value) g a b is h k =
    let weigh : ℕ → ℕ = λ (n : ℕ). 2 + blocks_of value + blocks_at (properties_at g target) key + n + element_weight g target (is_text key)
    (maps.insert (properties_at g target) key value) in
    h.2 ∙ ap weigh (needs_once g.names (key ∷ []) h.0 k.0 h.1 k.1) ∙ sym k.2
one_weight threshold (commands.Delete (targets.Node id)) g a b is h k = h ∙ sym k
one_weight threshold (commands.Delete (targets.Edge id)) g a b is h k = h ∙ sym k
one_weight threshold _ g a b is h k = absurd is

pub element_carries : (limit threshold : ℕ) → Carries limit threshold IsOfElement (λ g h. g ≡ h)
element_carries limit threshold = record {
  on = λ command g h new other reply told is same made more. one_outcome limit command g new other reply told is made
      (subst (λ (z : Graph). Changes limit z command told other) (sym same) more);
  apart = λ command g h why is same none first. reasons_apart change_reasons limit g g command why (reasons_same change_reasons limit g command) none
      (subst (λ (z : Graph). FirstReason change_reasons limit z command why) (sym same) first);
  same = λ command g h a b is same x y. one_weight threshold command g a b is x (subst (λ (z : Graph). Weighs threshold z command b) (sym same) y);
}

-- ---- new edges

-- What a new edge's refusals and weight look at: all but the edges themselves.
pub record AreAlike (g h : Graph) : Type 0 where
  pub nodes : h.nodes ≡ g.nodes
  pub names : h.names ≡ g.names
  pub indexes : h.indexes ≡ g.indexes
  pub edges : length h.edges ≡ length g.edges
  pub properties : property_count h ≡ property_count g
  pub blocks : block_count h ≡ block_count g
  pub degrees : (node : ℕ) → degree_in h node ≡ degree_in g node

pub alike_self : (g : Graph) → AreAlike g g
alike_self g = record { nodes = refl; names = refl; indexes = refl; edges = refl; properties = refl; blocks = refl; degrees = λ node. refl }

-- a change that makes an edge
abbrev pub IsNewEdge : Command → Type 0
IsNewEdge (commands.Edge from label to pairs) = Unit {0}
IsNewEdge _ = ⊥

sum_with_row : (f : Edge → ℕ) (e : Edge) (xs : List Edge) → sum_by f (with_row edge_number e xs) ≡ f e + sum_by f xs
sum_with_row f e [] = sum_by-cons f e []
sum_with_row f e (x ∷ xs) = on (nat_lt (edge_number e) (edge_number x)) (sum_with_row f e xs)
  where
    on : (t : Bool) → sum_by f (with_row edge_number e xs) ≡ f e + sum_by f xs
        → sum_by f (cond t (e ∷ x ∷ xs) (x ∷ with_row edge_number e xs)) ≡ f e + sum_by f (x ∷ xs)
    on true h = sum_by-cons f e (x ∷ xs)
    on false h = let a = sum_by-cons f x (with_row edge_number e xs) in let b = sum_by-cons f x xs in omega (arith, h, a, b)

length_with_row : (e : Edge) (xs : List Edge) → length (with_row edge_number e xs) ≡ length xs + 1
length_with_row e [] = refl
length_with_row e (x ∷ xs) = on (nat_lt (edge_number e) (edge_number x)) (length_with_row e xs)
  where
    on : (t : Bool) → length (with_row edge_number e xs) ≡ length xs + 1 → length (cond t (e ∷ x ∷ xs) (x ∷ with_row edge_number e xs)) ≡ length (x ∷ xs) + 1
    on true h = omega arith
    on false h = omega (arith, h)

-- the number of a new edge and its place among the others don't matter
module _ (limit : ℕ) (g h new other : Graph) (from : ℕ) (label : List ℕ) (to : ℕ) (pairs : List Pair) (id told : ℕ) (alike : AreAlike g h)
    (made : AddsEdge limit g from label to pairs id new)
    (more : AddsEdge limit h from label to pairs told other) where
  abbrev edge : ℕ → Edge
  edge number = record { id = number; label = label; from = from; to = to; properties = with_pairs no_properties pairs }

  sums : (f : Edge → ℕ) → f (edge told) ≡ f (edge id) → sum_by f h.edges ≡ sum_by f g.edges → sum_by f other.edges ≡ sum_by f new.edges
  sums f head tail =
      let a = ap (λ (es : List Edge). sum_by f es) more.edges ∙ sum_with_row f (edge told) h.edges in
      let b = ap (λ (es : List Edge). sum_by f es) made.edges ∙ sum_with_row f (edge id) g.edges in
      omega (arith, a, b, head, tail)

  -- of two sums whose first parts are the same the second parts are
  rest_same : (f : Node → ℕ) (a b : ℕ) → sum_by f h.nodes + b ≡ sum_by f g.nodes + a → b ≡ a
  rest_same f a b e = let n = ap (λ (ns : List Node). sum_by f ns) alike.nodes in omega (arith, e, n)

  both_same : (f : Node → ℕ) (a b : ℕ) → b ≡ a → sum_by f other.nodes + b ≡ sum_by f new.nodes + a
  both_same f a b e = let n = ap (λ (ns : List Node). sum_by f ns) (more.nodes ∙ alike.nodes ∙ sym made.nodes) in omega (arith, e, n)

  abbrev node_properties : Node → ℕ
  node_properties node = maps.len node.properties

  abbrev edge_properties : Edge → ℕ
  edge_properties edge = maps.len edge.properties

  abbrev node_blocks : Node → ℕ
  node_blocks node = blocks_in node.properties

  abbrev edge_blocks : Edge → ℕ
  edge_blocks edge = blocks_in edge.properties

  abbrev at : ℕ → Edge → ℕ
  at node edge = cond (is_at node edge) 1 0

  degrees_same : (node : ℕ) → degree_in other node ≡ degree_in new node
  degrees_same node =
      length-filter (is_at node) other.edges ∙ sums (at node) refl (sym (length-filter (is_at node) h.edges) ∙ alike.degrees node ∙ length-filter (is_at node)
      g.edges) ∙ sym (length-filter (is_at node) new.edges)

  edge_on : AreAlike new other
  edge_on = record {
    nodes = more.nodes ∙ alike.nodes ∙ sym made.nodes;
    names = sym (names_once g.names (label ∷ keys_in pairs) new.names other.names made.names (subst (λ (known : List (List ℕ)). UsesNames known
        (label ∷ keys_in pairs) other.names) alike.names more.names));
    indexes = more.indexes ∙ alike.indexes ∙ sym made.indexes;
    edges =
        let a = ap length more.edges ∙ length_with_row (edge told) h.edges in
        let b = ap length made.edges ∙ length_with_row (edge id) g.edges in
        let e = alike.edges in
        omega (arith, a, b, e);
    properties = both_same node_properties _ _ (sums edge_properties refl (rest_same node_properties _ _ alike.properties));
    blocks = both_same node_blocks _ _ (sums edge_blocks refl (rest_same node_blocks _ _ alike.blocks));
    degrees = degrees_same;
  }

module _ (limit : ℕ) (g h : Graph) (from : ℕ) (label : List ℕ) (to : ℕ) (pairs : List Pair) (alike : AreAlike g h) where
  edge_reasons : HoldAlike change_reasons limit g h (commands.Edge from label to pairs)
  edge_reasons = (
    λ why holds. holds,
    (
      λ why holds. (ap (λ ns. has_node (record g { nodes = ns }) from) (sym alike.nodes) ∙ holds.0, holds.1),
      (
        λ why holds. (ap (λ ns. has_node (record g { nodes = ns }) to) (sym alike.nodes) ∙ holds.0, holds.1),
        (
          λ why holds. (sym alike.edges ∙ holds.0, holds.1),
          (
            λ why holds. holds,
            (
              λ why holds. holds,
              (
                λ why holds. holds,
                (
                  λ why holds. holds,
                  (
                    λ why holds. holds,
                    (
                      λ why holds. holds,
                      (
                        λ why holds. (
                          holds.0,
                          subst (λ (known : List (List ℕ)). UsesNames known (label ∷ keys_in pairs) holds.0) alike.names holds.1,
                          holds.2,
                          holds.3,
                        ),
                        (
                          λ why holds. holds,
                          (
                            λ why holds. subst (λ (n : ℕ). lacks_room limit (n + maps.len (with_pairs no_properties pairs)) refusals.FullProperties why)
                                alike.properties holds,
                            (
                              λ why holds. subst (λ (n : ℕ). lacks_room limit (n + blocks_in (with_pairs no_properties pairs)) refusals.FullStrings why)
                                  alike.blocks holds,
                              (λ why holds. holds, (λ why holds. holds, tt)),
                            ),
                          ),
                        ),
                      ),
                    ),
                  ),
                ),
              ),
            ),
          ),
        ),
      ),
    ),
  )

ends_same : (threshold : ℕ) (g h : Graph) (from to : ℕ) → AreAlike g h → ends_weight threshold g from to ≡ ends_weight threshold h from to
ends_same threshold g h from to alike =
    let one : (node : ℕ) → end_weight threshold g node ≡ end_weight threshold h node = λ node.
    ap (λ (n : ℕ). if nat_eq n threshold then 2 * (threshold + 1) else 0) (sym (alike.degrees node)) in
    ap (λ (n : ℕ). n + (if nat_eq from to then 0 else end_weight threshold g to)) (one from)
    ∙ ap (λ (n : ℕ). end_weight threshold h from + (if nat_eq from to then 0 else n)) (one to)

edge_weight : (threshold : ℕ) (g h : Graph) (from : ℕ) (label : List ℕ) (to : ℕ) (pairs : List Pair) (a b : ℕ) → AreAlike g h
    → Weighs threshold g (commands.Edge from label to pairs) a → Weighs threshold h (commands.Edge from label to pairs) b → a ≡ b
edge_weight threshold g h from label to pairs a b alike x y =
    let line = label ∷ keys_in pairs in
    let count : x.0 ≡ y.0 = needs_once g.names line x.0 y.0 x.1 (subst (λ (known : List (List ℕ)). NeedsNames known line y.0) alike.names y.1) in
    let ends = ends_same threshold g h from to alike in
    let one = x.2 in
    let other = y.2 in
    omega (arith, count, ends, one, other)

edge_alike : (limit : ℕ) (command : Command) (g h new other : Graph) (reply told : Reply) → IsNewEdge command → AreAlike g h → Changes limit g command reply new
    → Changes limit h command told other → AreAlike new other
edge_alike limit (commands.Edge from label to pairs) g h new other reply told is alike made more =
    edge_on limit g h new other from label to pairs made.0 more.0 alike made.2 more.2
edge_alike limit _ g h new other reply told is alike made more = absurd is

edge_apart : (limit : ℕ) (command : Command) (g h : Graph) (why : Refusal) → IsNewEdge command → AreAlike g h → NoReason change_reasons limit g command
    → ¬ FirstReason change_reasons limit h command why
edge_apart limit (commands.Edge from label to pairs) g h why is alike none =
    reasons_apart change_reasons limit g h (commands.Edge from label to pairs) why (edge_reasons limit g h from label to pairs alike) none
edge_apart limit _ g h why is alike none = absurd is

edge_once : (threshold : ℕ) (command : Command) (g h : Graph) (a b : ℕ) → IsNewEdge command → AreAlike g h → Weighs threshold g command a
    → Weighs threshold h command b → a ≡ b
edge_once threshold (commands.Edge from label to pairs) g h a b is alike x y = edge_weight threshold g h from label to pairs a b alike x y
edge_once threshold _ g h a b is alike x y = absurd is

pub edge_carries : (limit threshold : ℕ) → Carries limit threshold IsNewEdge AreAlike
edge_carries limit threshold = record {
  on = λ command g h new other reply told is alike made more. edge_alike limit command g h new other reply told is alike made more;
  apart = λ command g h why is alike none first. edge_apart limit command g h why is alike none first;
  same = λ command g h a b is alike x y. edge_once threshold command g h a b is alike x y;
}

-- ---- a new node

pub node_once : (threshold : ℕ) (g : Graph) (label : List ℕ) (pairs : List Pair) (a b : ℕ) → Weighs threshold g (commands.Node label pairs) a
    → Weighs threshold g (commands.Node label pairs) b → a ≡ b
node_once threshold g label pairs a b x y =
    let count = needs_once g.names (label ∷ keys_in pairs) x.0 y.0 x.1 y.1 in
    let one = x.2 in
    let other = y.2 in
    omega (arith, count, one, other)
