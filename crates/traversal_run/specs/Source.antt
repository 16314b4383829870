-- The elements that a query begins with, as far as they are still to come.
use Rattle.std.specs.Prelude.{◌≡◌, ℕ, ◌-◌, ◌<◌, nat_eq, nat_le, Bool, true, false, ◌||◌, length}
use Rattle.std.specs.Prelude.{Option, None, Some, List, [], ◌∷◌, map}
use Rattle.std.specs.List.{filter, list_any}
use Rattle.plain_graph.specs.Graph.{Edge, Graph, Node}
use Rattle.plain_graph.specs.Meaning.{edge_item, vertex_of}
use Rattle.plain_graph.specs.declared.item.Item.{Item}
use Rattle.traversal_run.specs.declared.source.Left.{Left}
use Rattle.traversal_run.specs.declared.source.Left.TheVariants.{Among, From, Nothing}
use Rattle.traversal_run.specs.declared.source.Source.{Source}

-- the identifier is still to come
abbrev pub is_left : Left → ℕ → Bool
is_left (From from) id = nat_le from id
is_left (Among ids) id = list_any (nat_eq id) ids
is_left Nothing id = false

-- the vertices or the edges of the identifiers that are still to come, by ascending identifier
abbrev pub elements_left : Graph → Bool → Left → List Item
elements_left graph false left =
    map vertex_of (filter (λ (node : Node). is_left left node.id) graph.nodes)
elements_left graph true left =
    map edge_item (filter (λ (edge : Edge). is_left left edge.id) graph.edges)

abbrev pub left_of : Graph → Source → List Item
left_of graph source = elements_left graph source.edges source.left

-- The source gives this element, the first that was to come, and goes on as the new one; or none
-- was to come.
abbrev pub GivesFirst : Graph → Source → Option Item → Source → Type 0
GivesFirst graph old None new = (left_of graph old ≡ []) × (left_of graph new ≡ [])
GivesFirst graph old (Some item) new = left_of graph old ≡ item ∷ left_of graph new

-- no identifier is still to come
abbrev pub is_over : Left → Bool
is_over (From from) = false
is_over (Among ids) = false
is_over Nothing = true

-- The identifier is the first that is still to come, and after it the others are.
pub record TakesId (old : Left) (id : ℕ) (new : Left) : Type 0 where
  pub among : (other : ℕ) → is_left old other ≡ nat_eq other id || is_left new other
  pub first : (other : ℕ) → is_left new other ≡ true → id < other

-- no identifier below the mark is still to come
abbrev pub HasNoneBelow : ℕ → Left → Type 0
HasNoneBelow mark left = (id : ℕ) → id < mark → is_left left id ≡ false

-- how many identifiers may still be taken
abbrev pub left_count : ℕ → Left → ℕ
left_count mark (From from) = mark - from
left_count mark (Among ids) = length ids
left_count mark Nothing = 0

-- how many are asked for: all below the mark where none is written
abbrev pub asked_count : ℕ → List ℕ → ℕ
asked_count mark [] = mark
asked_count mark (id ∷ ids) = length (id ∷ ids)
