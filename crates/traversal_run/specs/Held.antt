-- How many vertices and edges a run holds, and how many it may.
use Rattle.std.specs.Prelude.{◌≡◌, ◌⊎◌, ℕ, ◌+◌, ◌*◌, ◌-◌, ◌^◌, ◌≤◌, min, Bool, true, false, cond}
use Rattle.std.specs.Prelude.{List, [], ◌∷◌, length, count_by, sum_by}
use Rattle.plain_graph.specs.Graph.{Graph, degree_in, has_node}
use Rattle.plain_graph.specs.declared.item.Item.{Item}
use Rattle.plain_graph.specs.declared.item.Item.TheVariants as items
use Rattle.plain_graph.specs.declared.query.BodyStep.{BodyStep}
use Rattle.plain_graph.specs.declared.query.BodyStep.TheVariants as bodies
use Rattle.plain_graph.specs.declared.query.Step.{Step}
use Rattle.plain_graph.specs.declared.query.Step.TheVariants as steps
use Rattle.traversal_run.specs.Mapping.{gives_edges}
use Rattle.traversal_run.specs.Row.{AreIdle}
use Rattle.traversal_run.specs.declared.row.Row.{Row}
use Rattle.traversal_run.specs.declared.run.Run.{Run}
use Rattle.traversal_run.specs.declared.stage.Stage.{Stage}
use Rattle.traversal_run.specs.declared.stage.Stage.TheVariants as stages

-- the item is a vertex or an edge
abbrev pub is_element : Item → Bool
is_element (items.Vertex id) = true
is_element (items.Edge id label from to) = true
is_element (items.Value value) = false

-- the vertices and edges among these
abbrev pub elements_in : List Item → ℕ
elements_in list = count_by is_element list

-- those that wait for each step, and those that are ready
abbrev pub held : Run → ℕ
held run = sum_by (λ (row : Row). elements_in row.waiting) run.rows.items + elements_in run.ready

-- a count as far as a number of the machine says it
abbrev pub as_size : ℕ → ℕ
as_size count = min count (2 ^ 64 - 1)

-- ---- steps

-- the step gives neighbours or edges
abbrev pub is_hop : Stage → Bool
is_hop (stages.Mapped mapping) = gives_edges mapping
is_hop stage = false

-- how many of the steps do
abbrev pub hops_in : List Row → ℕ
hops_in rows = count_by (λ (row : Row). is_hop row.stage) rows

-- the step is no order, no dedup and no count
abbrev pub is_plain : Stage → Bool
is_plain (stages.Order key descending kept given) = false
is_plain (stages.Dedup seen) = false
is_plain (stages.Count so_far given) = false
is_plain stage = true

abbrev pub ArePlain : List Row → Type 0
ArePlain [] = Unit {0}
ArePlain (row ∷ rows) = (is_plain row.stage ≡ true) × ArePlain rows

-- the same of the steps of a query; a repeat has those of its body each time
abbrev pub is_body_hop : BodyStep → Bool
is_body_hop (bodies.Neighbours hop) = true
is_body_hop (bodies.Filter test) = false

abbrev pub hops_of_step : Step → ℕ
hops_of_step (steps.Neighbours hop) = 1
hops_of_step (steps.Incident hop) = 1
hops_of_step (steps.Repeat body times) = times * count_by is_body_hop body
hops_of_step step = 0

abbrev pub hops_of : List Step → ℕ
hops_of list = sum_by hops_of_step list

abbrev pub is_plain_step : Step → Bool
is_plain_step (steps.Order key descending) = false
is_plain_step steps.Dedup = false
is_plain_step steps.Count = false
is_plain_step step = true

abbrev pub ArePlainSteps : List Step → Type 0
ArePlainSteps [] = Unit {0}
ArePlainSteps (step ∷ list) = (is_plain_step step ≡ true) × ArePlainSteps list

-- ---- bounds

-- no node has more edges at it, a loop counted once
abbrev pub HasDegreesUpTo : Graph → ℕ → Type 0
HasDegreesUpTo graph d = (id : ℕ) → has_node graph id ≡ true → degree_in graph id ≤ d

-- how many may wait behind a step: both ends of each edge of one vertex, if it gives neighbours or
-- edges
abbrev pub room_behind : ℕ → Bool → ℕ
room_behind d is_behind_hop = cond is_behind_hop (2 * d) 0

-- no more wait for these steps, and are ready behind the last
abbrev pub AreWithin : ℕ → Bool → List Row → List Item → Type 0
AreWithin d is_behind_hop [] ready = elements_in ready ≤ room_behind d is_behind_hop
AreWithin d is_behind_hop (row ∷ rows) ready =
    (elements_in row.waiting ≤ room_behind d is_behind_hop)
    × AreWithin d (is_hop row.stage) rows ready

-- The steps are plain, and at most so many give neighbours or edges. For each of those no more than
-- twice d elements are held.
pub record IsWithin (d most : ℕ) (run : Run) : Type 0 where
  pub plain : ArePlain run.rows.items
  pub hops : hops_in run.rows.items ≤ most
  pub rows : AreWithin d false run.rows.items run.ready
  pub bound : held run ≤ 2 * most * d

-- ---- amid a call

-- what a step gives for one item: no more than may wait behind it, or one item
abbrev pub IsBatch : ℕ → Bool → List Item → Type 0
IsBatch d is_behind_hop list =
    (elements_in list ≤ room_behind d is_behind_hop) ⊎ (length list ≤ 1)

-- no more wait than may, but for the last row where some do, which may have one item
abbrev pub AreNear : ℕ → Bool → List Row → List Item → Type 0
AreNear d is_behind_hop [] ready = IsBatch d is_behind_hop ready
AreNear d is_behind_hop (row ∷ rows) ready =
    ((elements_in row.waiting ≤ room_behind d is_behind_hop)
    × AreNear d (is_hop row.stage) rows ready)
    ⊎ ((length row.waiting ≤ 1) × AreIdle rows × (ready ≡ []))

pub record IsNear (d most : ℕ) (rows : List Row) (ready : List Item) : Type 0 where
  pub plain : ArePlain rows
  pub hops : hops_in rows ≤ most
  pub near : AreNear d false rows ready
