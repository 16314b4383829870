-- The plain property graph: lists, and nothing of records, chains or logs.
use Rattle.std.specs.Prelude.{◌≡◌, ◌⊎◌, ℕ, ◌+◌, ◌<◌, nat_eq, nat_lt, Bool, true, false, ◌||◌, not}
use Rattle.std.specs.Prelude.{cond, if◌then◌else◌, Option, None, Some, List, [], ◌∷◌, ◌++◌, length}
use Rattle.std.specs.Prelude.{map, find, Contains}
use Rattle.std.specs.List.{filter, list_any, sum_by}
use Rattle.std.specs.FinMap as maps
use Rattle.plain_graph.specs.Properties.{Properties, blocks_in, keys_in, no_properties, with_pairs}
use Rattle.plain_graph.specs.declared.command.Target.{Target}
use Rattle.plain_graph.specs.declared.command.Target.TheVariants as targets
use Rattle.plain_graph.specs.declared.pairs.Pair.{Pair}
use Rattle.plain_graph.specs.declared.value.Value.{Value}

-- a node, with its label's bytes
pub record Node : Type 0 where
  pub id : ℕ
  pub label : List ℕ
  pub properties : Properties

-- an edge, with its type's bytes, from the node that it leaves to the one that it enters
pub record Edge : Type 0 where
  pub id : ℕ
  pub label : List ℕ
  pub from : ℕ
  pub to : ℕ
  pub properties : Properties

-- an index of the nodes of a label by the value of a key
pub record Index : Type 0 where
  pub label : List ℕ
  pub key : List ℕ

-- The nodes and the edges by ascending identifier, the names in the order of their first use, and
-- the indexes by the places of label and key among the names.
pub record Graph : Type 0 where
  pub nodes : List Node
  pub edges : List Edge
  pub names : List (List ℕ)
  pub indexes : List Index

abbrev pub empty_graph : Graph
empty_graph = record { nodes = []; edges = []; names = []; indexes = [] }

-- the row at its place among rows of ascending numbers
abbrev pub with_row : {E : Type 0} → (E → ℕ) → E → List E → List E
with_row of e [] = e ∷ []
with_row of e (first ∷ later) =
    cond (nat_lt (of e) (of first)) (e ∷ first ∷ later) (first ∷ with_row of e later)

-- the rows without those of a number
abbrev pub without_row : {E : Type 0} → (E → ℕ) → ℕ → List E → List E
without_row of id rows = filter (λ e. not (nat_eq (of e) id)) rows

-- the rows with those of a number changed
abbrev pub with_change : {E : Type 0} → (E → ℕ) → ℕ → (E → E) → List E → List E
with_change of id change rows = map (λ e. if nat_eq (of e) id then change e else e) rows

abbrev pub node_number : Node → ℕ
node_number node = node.id

-- a node of the graph has this identifier
abbrev pub has_node : Graph → ℕ → Bool
has_node graph id = list_any (λ node. nat_eq (node_number node) id) graph.nodes

abbrev pub edge_number : Edge → ℕ
edge_number edge = edge.id

-- an edge of the graph has this identifier
abbrev pub has_edge : Graph → ℕ → Bool
has_edge graph id = list_any (λ edge. nat_eq (edge_number edge) id) graph.edges

-- the edge leaves the node or enters it
abbrev pub is_at : ℕ → Edge → Bool
is_at node edge = nat_eq edge.from node || nat_eq edge.to node

-- how many edges are at the node; a loop counts once
abbrev pub degree_in : Graph → ℕ → ℕ
degree_in graph node = length (filter (is_at node) graph.edges)

-- an element of the graph has this kind and identifier
abbrev pub has_element : Graph → Target → Bool
has_element graph (targets.Node id) = has_node graph id
has_element graph (targets.Edge id) = has_edge graph id

abbrev pub node_properties : Option Node → Properties
node_properties None = no_properties
node_properties (Some node) = node.properties

abbrev pub edge_properties : Option Edge → Properties
edge_properties None = no_properties
edge_properties (Some edge) = edge.properties

-- the properties of an element, and none where it isn't there
abbrev pub properties_at : Graph → Target → Properties
properties_at graph (targets.Node id) =
    node_properties (find (λ node. nat_eq (node_number node) id) graph.nodes)
properties_at graph (targets.Edge id) =
    edge_properties (find (λ edge. nat_eq (edge_number edge) id) graph.edges)

abbrev pub change_node : (Properties → Properties) → Node → Node
change_node change node = record node { properties = change node.properties }

abbrev pub change_edge : (Properties → Properties) → Edge → Edge
change_edge change edge = record edge { properties = change edge.properties }

-- the graph with the properties of an element changed
abbrev pub with_properties : Graph → Target → (Properties → Properties) → Graph
with_properties graph (targets.Node id) change =
    record graph { nodes = with_change node_number id (change_node change) graph.nodes }
with_properties graph (targets.Edge id) change =
    record graph { edges = with_change edge_number id (change_edge change) graph.edges }

-- the graph with a value set for a key of an element
abbrev pub with_value : Graph → Target → List ℕ → Value → Graph
with_value graph target key value =
    with_properties graph target (λ properties. maps.insert properties key value)

-- the graph with no value for it
abbrev pub without_value : Graph → Target → List ℕ → Graph
without_value graph target key =
    with_properties graph target (λ properties. maps.remove properties key)

-- how many properties there are
abbrev pub property_count : Graph → ℕ
property_count graph =
    sum_by (λ (node : Node). maps.len node.properties) graph.nodes
    + sum_by (λ (edge : Edge). maps.len edge.properties) graph.edges

-- how many blocks of long texts there are
abbrev pub block_count : Graph → ℕ
block_count graph =
    sum_by (λ (node : Node). blocks_in node.properties) graph.nodes
    + sum_by (λ (edge : Edge). blocks_in edge.properties) graph.edges

-- A name that is known is used again, and a new one goes to the end.
abbrev pub UsesName : List (List ℕ) → List ℕ → List (List ℕ) → Type 0
UsesName old name new =
    (Contains old name × (new ≡ old)) ⊎ ((¬ Contains old name) × (new ≡ old ++ name ∷ []))

-- the names of a line, one after the other
abbrev pub UsesNames : List (List ℕ) → List (List ℕ) → List (List ℕ) → Type 0
UsesNames old [] new = new ≡ old
UsesNames old (name ∷ later) new =
    (with_name : List (List ℕ)) × UsesName old name with_name × UsesNames with_name later new

-- so many of the names of a line are new
abbrev pub NeedsNames : List (List ℕ) → List (List ℕ) → ℕ → Type 0
NeedsNames old line count =
    (new : List (List ℕ)) × UsesNames old line new × (length new ≡ length old + count)

-- The new graph has one more node. Its identifier is one below the limit that no node has.
pub record AddsNode (limit : ℕ) (old : Graph) (label : List ℕ) (pairs : List Pair) (id : ℕ)
    (new : Graph) : Type 0 where
  pub below : id < limit
  pub fresh : has_node old id ≡ false
  pub nodes : new.nodes ≡ with_row node_number (record {
    id = id;
    label = label;
    properties = with_pairs no_properties pairs;
  }) old.nodes
  pub edges : new.edges ≡ old.edges
  pub names : UsesNames old.names (label ∷ keys_in pairs) new.names
  pub indexes : new.indexes ≡ old.indexes

-- The new graph has one more edge, between two of its nodes. Its identifier is one below the limit
-- that no edge has.
pub record AddsEdge (limit : ℕ) (old : Graph) (from : ℕ) (label : List ℕ) (to : ℕ)
    (pairs : List Pair) (id : ℕ) (new : Graph) : Type 0 where
  pub leaves : has_node old from ≡ true
  pub enters : has_node old to ≡ true
  pub below : id < limit
  pub fresh : has_edge old id ≡ false
  pub nodes : new.nodes ≡ old.nodes
  pub edges : new.edges ≡ with_row edge_number (record {
    id = id;
    label = label;
    from = from;
    to = to;
    properties = with_pairs no_properties pairs;
  }) old.edges
  pub names : UsesNames old.names (label ∷ keys_in pairs) new.names
  pub indexes : new.indexes ≡ old.indexes

-- The new graph has this value for a key of an element. A value that the key had is gone.
pub record SetsProperty (old : Graph) (target : Target) (key : List ℕ) (value : Value)
    (new : Graph) : Type 0 where
  pub there : has_element old target ≡ true
  pub nodes : new.nodes ≡ (with_value old target key value).nodes
  pub edges : new.edges ≡ (with_value old target key value).edges
  pub names : UsesName old.names key new.names
  pub indexes : new.indexes ≡ old.indexes

-- The new graph has no value for a key of an element. Names and indexes stay.
pub record UnsetsProperty (old : Graph) (target : Target) (key : List ℕ) (new : Graph)
    : Type 0 where
  pub there : has_element old target ≡ true
  pub nodes : new.nodes ≡ (without_value old target key).nodes
  pub edges : new.edges ≡ (without_value old target key).edges
  pub names : new.names ≡ old.names
  pub indexes : new.indexes ≡ old.indexes

-- The new graph lacks the node of this identifier, which no edge was at, with its properties. Names
-- stay.
pub record RemovesNode (old : Graph) (id : ℕ) (new : Graph) : Type 0 where
  pub there : has_node old id ≡ true
  pub lone : degree_in old id ≡ 0
  pub nodes : new.nodes ≡ without_row node_number id old.nodes
  pub edges : new.edges ≡ old.edges
  pub names : new.names ≡ old.names
  pub indexes : new.indexes ≡ old.indexes

-- The new graph lacks the edge of this identifier, with its properties. Nodes and names stay.
pub record RemovesEdge (old : Graph) (id : ℕ) (new : Graph) : Type 0 where
  pub there : has_edge old id ≡ true
  pub nodes : new.nodes ≡ old.nodes
  pub edges : new.edges ≡ without_row edge_number id old.edges
  pub names : new.names ≡ old.names
  pub indexes : new.indexes ≡ old.indexes
