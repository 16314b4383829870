-- What a query gives, as a list made of the list before it, step by step.
use Rattle.std.specs.Prelude.{ℕ, zero, suc, pos, nat_eq, nat_lt, cond, Bool, true, false, ◌&&◌}
use Rattle.std.specs.Prelude.{◌||◌, Option, Some, None, List, [], ◌∷◌, ◌++◌, find, length, map}
use Rattle.std.specs.Prelude.{take}
use Rattle.std.specs.FinMap as maps
use Rattle.std.specs.List.{filter, filter_map, flat_map, list_any}
use Rattle.std.specs.Option.{option_map, option_to_list}
use Rattle.std.specs.Ordering.{is_eq, is_lt}
use Rattle.plain_graph.specs.Graph.{Edge, Graph, Node, node_number, properties_at}
use Rattle.plain_graph.specs.Properties.{Properties, no_properties}
use Rattle.plain_graph.specs.Sorting.{sorted}
use Rattle.plain_graph.specs.Values.{is_related, is_text, value_cmp}
use Rattle.plain_graph.specs.declared.command.Target.TheVariants as targets
use Rattle.plain_graph.specs.declared.direction.Direction.{Direction}
use Rattle.plain_graph.specs.declared.direction.Direction.TheVariants as directions
use Rattle.plain_graph.specs.declared.filter.Filter.{Filter}
use Rattle.plain_graph.specs.declared.filter.Filter.TheVariants as filters
use Rattle.plain_graph.specs.declared.filter.Relation.TheVariants as relations
use Rattle.plain_graph.specs.declared.item.Item.{Item}
use Rattle.plain_graph.specs.declared.item.Item.TheVariants as items
use Rattle.plain_graph.specs.declared.query.BodyStep.{BodyStep}
use Rattle.plain_graph.specs.declared.query.BodyStep.TheVariants as bodies
use Rattle.plain_graph.specs.declared.query.Hop.{Hop}
use Rattle.plain_graph.specs.declared.query.Query.{Query}
use Rattle.plain_graph.specs.declared.query.Source.{Source}
use Rattle.plain_graph.specs.declared.query.Source.TheVariants as sources
use Rattle.plain_graph.specs.declared.query.Step.{Step}
use Rattle.plain_graph.specs.declared.query.Step.TheVariants as steps
use Rattle.plain_graph.specs.declared.value.Value.{Value}
use Rattle.plain_graph.specs.declared.value.Value.TheVariants as values

abbrev pub vertex_of : Node → Item
vertex_of node = items.Vertex node.id

abbrev pub edge_item : Edge → Item
edge_item edge = items.Edge edge.id edge.label edge.from edge.to

-- ---- edges at a vertex

-- the name is one of these, or none is written
abbrev pub is_named : List (List ℕ) → List ℕ → Bool
is_named [] name = true
is_named (first ∷ names) name = list_any (λ other. is_text other name) (first ∷ names)

abbrev pub leaves_by : List (List ℕ) → ℕ → Edge → Bool
leaves_by labels id edge = nat_eq edge.from id && is_named labels edge.label

abbrev pub enters_by : List (List ℕ) → ℕ → Edge → Bool
enters_by labels id edge = nat_eq edge.to id && is_named labels edge.label

abbrev pub leaving : Graph → List (List ℕ) → ℕ → List Edge
leaving graph labels id = filter (leaves_by labels id) graph.edges

abbrev pub entering : Graph → List (List ℕ) → ℕ → List Edge
entering graph labels id = filter (enters_by labels id) graph.edges

-- The edges of these types at a vertex, by ascending identifier. A loop leaves it and enters it.
abbrev pub edges_at : Graph → Direction → List (List ℕ) → ℕ → List Edge
edges_at graph directions.Outgoing labels id = leaving graph labels id
edges_at graph directions.Incoming labels id = entering graph labels id
edges_at graph directions.Both labels id = leaving graph labels id ++ entering graph labels id

abbrev pub heads_of : List Edge → List Item
heads_of edges = map (λ (edge : Edge). items.Vertex edge.to) edges

abbrev pub tails_of : List Edge → List Item
tails_of edges = map (λ (edge : Edge). items.Vertex edge.from) edges

-- the vertices at the other ends of these edges
abbrev pub neighbours_at : Graph → Direction → List (List ℕ) → ℕ → List Item
neighbours_at graph directions.Outgoing labels id = heads_of (leaving graph labels id)
neighbours_at graph directions.Incoming labels id = tails_of (entering graph labels id)
neighbours_at graph directions.Both labels id =
    heads_of (leaving graph labels id) ++ tails_of (entering graph labels id)

-- ---- what a step makes of one item

abbrev pub neighbours : Graph → Hop → Item → List Item
neighbours graph hop (items.Vertex id) = neighbours_at graph hop.direction hop.labels id
neighbours graph hop (items.Edge id label from to) = []
neighbours graph hop (items.Value value) = []

abbrev pub incident : Graph → Hop → Item → List Item
incident graph hop (items.Vertex id) = map edge_item (edges_at graph hop.direction hop.labels id)
incident graph hop (items.Edge id label from to) = []
incident graph hop (items.Value value) = []

abbrev pub out_vertex : Item → List Item
out_vertex (items.Vertex id) = []
out_vertex (items.Edge id label from to) = items.Vertex from ∷ []
out_vertex (items.Value value) = []

abbrev pub in_vertex : Item → List Item
in_vertex (items.Vertex id) = []
in_vertex (items.Edge id label from to) = items.Vertex to ∷ []
in_vertex (items.Value value) = []

-- the properties of an element; a value has none
abbrev pub properties_of : Graph → Item → Properties
properties_of graph (items.Vertex id) = properties_at graph (targets.Node id)
properties_of graph (items.Edge id label from to) = properties_at graph (targets.Edge id)
properties_of graph (items.Value value) = no_properties

-- the label of a node, the type of an edge; a value has none, and no vertex that is no node
abbrev pub label_of : Graph → Item → Option (List ℕ)
label_of graph (items.Vertex id) =
    option_map (λ (node : Node). node.label)
    (find (λ node. nat_eq (node_number node) id) graph.nodes)
label_of graph (items.Edge id label from to) = Some label
label_of graph (items.Value value) = None

abbrev pub is_some_and : {A : Type 0} → Option A → (A → Bool) → Bool
is_some_and None test = false
is_some_and (Some value) test = test value

-- the item has the key, or its value compares so, or its label is one of these
abbrev pub passes : Graph → Filter → Item → Bool
passes graph (filters.Has key) item =
    is_some_and (maps.get (properties_of graph item) key) (λ value. true)
passes graph (filters.HasValue key relation written) item =
    is_some_and (maps.get (properties_of graph item) key)
    (λ value. is_related relation value written)
passes graph (filters.HasLabel labels) item =
    is_some_and (label_of graph item) (λ own. list_any (λ label. is_text label own) labels)

-- texts, each once, where it first stands
abbrev pub texts_once : List (List ℕ) → List (List ℕ) → List (List ℕ)
texts_once seen [] = []
texts_once seen (text ∷ texts) =
    cond (list_any (is_text text) seen) (texts_once seen texts)
    (text ∷ texts_once (text ∷ seen) texts)

-- the values of these keys, in the order written, or where none is written of all keys in their own
-- order
abbrev pub values_of : Properties → List (List ℕ) → List Value
values_of properties [] = maps.values properties
values_of properties (key ∷ keys) = filter_map (maps.get properties) (texts_once [] (key ∷ keys))

abbrev pub key_values : Graph → List (List ℕ) → Item → List Item
key_values graph keys item = map items.Value (values_of (properties_of graph item) keys)

abbrev pub identifier : Item → List Item
identifier (items.Vertex id) = items.Value (values.Int (pos id)) ∷ []
identifier (items.Edge id label from to) = items.Value (values.Int (pos id)) ∷ []
identifier (items.Value value) = []

abbrev pub label_value : Graph → Item → List Item
label_value graph item =
    map (λ text. items.Value (values.Text text)) (option_to_list (label_of graph item))

-- ---- what a step makes of the whole list

-- elements are the same by their identifier, values by type and content
abbrev pub is_same : Item → Item → Bool
is_same (items.Vertex id) (items.Vertex other) = nat_eq id other
is_same (items.Vertex id) (items.Edge other label from to) = false
is_same (items.Vertex id) (items.Value value) = false
is_same (items.Edge id label from to) (items.Vertex other) = false
is_same (items.Edge id label from to) (items.Edge other name source target) = nat_eq id other
is_same (items.Edge id label from to) (items.Value value) = false
is_same (items.Value value) (items.Vertex id) = false
is_same (items.Value value) (items.Edge id label from to) = false
is_same (items.Value value) (items.Value other) = is_eq (value_cmp value other)

-- the items that are none of those seen, and of the same ones the first
abbrev pub unseen : List Item → List Item → List Item
unseen seen [] = []
unseen seen (item ∷ later) =
    cond (list_any (is_same item) seen) (unseen seen later)
    (item ∷ unseen (seen ++ item ∷ []) later)

-- an item, and the value that gives its place in an order
pub record Ranked : Type 0 where
  pub rank : Value
  pub item : Item

-- elements by identifier, values by themselves
abbrev pub own_rank : Item → Value
own_rank (items.Vertex id) = values.Int (pos id)
own_rank (items.Edge id label from to) = values.Int (pos id)
own_rank (items.Value value) = value

abbrev pub ranked_if : Option Value → Item → Option Ranked
ranked_if None item = None
ranked_if (Some rank) item = Some (record { rank = rank; item = item })

-- by the value of a key, where one is written; an element without it has no place
abbrev pub ranked : Graph → Option (List ℕ) → Item → Option Ranked
ranked graph None item = Some (record { rank = own_rank item; item = item })
ranked graph (Some key) item = ranked_if (maps.get (properties_of graph item) key) item

abbrev pub ranks_below : Bool → Ranked → Ranked → Bool
ranks_below false a b = is_lt (value_cmp a.rank b.rank)
ranks_below true a b = is_lt (value_cmp b.rank a.rank)

abbrev pub ordered : Graph → Option (List ℕ) → Bool → List Item → List Item
ordered graph key descending before =
    map (λ (r : Ranked). r.item)
    (sorted (ranks_below descending) (filter_map (ranked graph key) before))

-- ---- steps

abbrev pub after_body : Graph → BodyStep → List Item → List Item
after_body graph (bodies.Neighbours hop) before = flat_map (neighbours graph hop) before
after_body graph (bodies.Filter test) before = filter (passes graph test) before

abbrev pub after_bodies : Graph → List BodyStep → List Item → List Item
after_bodies graph [] before = before
after_bodies graph (step ∷ later) before = after_bodies graph later (after_body graph step before)

abbrev pub repeated : Graph → List BodyStep → ℕ → List Item → List Item
repeated graph body zero before = before
repeated graph body (suc times) before = repeated graph body times (after_bodies graph body before)

-- what a step makes of the list that comes to it
abbrev pub after_step : Graph → Step → List Item → List Item
after_step graph (steps.Neighbours hop) before = flat_map (neighbours graph hop) before
after_step graph (steps.Incident hop) before = flat_map (incident graph hop) before
after_step graph steps.OutV before = flat_map out_vertex before
after_step graph steps.InV before = flat_map in_vertex before
after_step graph (steps.Filter test) before = filter (passes graph test) before
after_step graph (steps.Values keys) before = flat_map (key_values graph keys) before
after_step graph steps.Id before = flat_map identifier before
after_step graph steps.Label before = flat_map (label_value graph) before
after_step graph steps.Dedup before = unseen [] before
after_step graph steps.Count before = items.Value (values.Int (pos (length before))) ∷ []
after_step graph (steps.Limit most) before = take most before
after_step graph (steps.Order key descending) before = ordered graph key descending before
after_step graph (steps.Repeat body times) before = repeated graph body times before

abbrev pub after_steps : Graph → List Step → List Item → List Item
after_steps graph [] before = before
after_steps graph (step ∷ later) before = after_steps graph later (after_step graph step before)

abbrev pub is_asked : List ℕ → ℕ → Bool
is_asked [] id = true
is_asked (first ∷ ids) id = list_any (nat_eq id) (first ∷ ids)

abbrev pub vertices_in : Graph → List ℕ → List Item
vertices_in graph ids =
    map vertex_of (filter (λ (node : Node). is_asked ids node.id) graph.nodes)

abbrev pub edges_in : Graph → List ℕ → List Item
edges_in graph ids =
    map edge_item (filter (λ (edge : Edge). is_asked ids edge.id) graph.edges)

-- all vertices or all edges, or those of the identifiers that are written, or those of a label
-- whose key has a value, by ascending identifier
abbrev pub source_of : Graph → Source → List Item
source_of graph (sources.Vertices ids) = vertices_in graph ids
source_of graph (sources.Edges ids) = edges_in graph ids
source_of graph (sources.Found label key value) =
    filter (passes graph (filters.HasValue key relations.Eq value))
    (filter (passes graph (filters.HasLabel (label ∷ []))) (vertices_in graph []))

abbrev pub meaning : Graph → Query → List Item
meaning graph query = after_steps graph query.steps (source_of graph query.source)

-- ---- counts

-- more results come to the count than a number of a value holds
abbrev pub counts_past : Step → List Item → Bool
counts_past (steps.Neighbours hop) before = false
counts_past (steps.Incident hop) before = false
counts_past steps.OutV before = false
counts_past steps.InV before = false
counts_past (steps.Filter test) before = false
counts_past (steps.Values keys) before = false
counts_past steps.Id before = false
counts_past steps.Label before = false
counts_past steps.Dedup before = false
counts_past steps.Count before = nat_lt 9223372036854775807 (length before)
counts_past (steps.Limit most) before = false
counts_past (steps.Order key descending) before = false
counts_past (steps.Repeat body times) before = false

-- so at some count of the steps
abbrev pub counts_past_in : Graph → List Step → List Item → Bool
counts_past_in graph [] before = false
counts_past_in graph (step ∷ later) before =
    counts_past step before || counts_past_in graph later (after_step graph step before)

abbrev pub has_past_count : Graph → Query → Bool
has_past_count graph query =
    counts_past_in graph query.steps (source_of graph query.source)
