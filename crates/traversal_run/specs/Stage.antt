-- A step under way, and what it makes of the items that are still to come to it.
use Rattle.std.specs.Prelude.{◌≡◌, ℕ, ◌+◌, pos, Bool, true, false, not, ◌&&◌, nat_lt, nat_eq}
use Rattle.std.specs.Prelude.{Option, Some, None, List, [], ◌∷◌, ◌++◌, length, take, map}
use Rattle.std.specs.FinMap as maps
use Rattle.std.specs.List.{filter_map, flat_map}
use Rattle.plain_graph.specs.Graph.{Graph}
use Rattle.plain_graph.specs.Meaning.{Ranked, own_rank, properties_of, ranked, ranks_below}
use Rattle.plain_graph.specs.Meaning.{unseen}
use Rattle.plain_graph.specs.Sorting.{sorted}
use Rattle.plain_graph.specs.declared.item.Item.{Item}
use Rattle.plain_graph.specs.declared.item.Item.TheVariants as items
use Rattle.plain_graph.specs.declared.value.Value.{Value}
use Rattle.plain_graph.specs.declared.value.Value.TheVariants as values
use Rattle.traversal_run.specs.Mapping.{mapped}
use Rattle.traversal_run.specs.declared.stage.Stage.{Stage}
use Rattle.traversal_run.specs.declared.stage.Stage.TheVariants as stages

-- a count gives its number once
abbrev pub counted : Bool → ℕ → List Item
counted true n = []
counted false n = items.Value (values.Int (pos n)) ∷ []

-- the items that are kept are given once, in order
abbrev pub given_in_order : Bool → Bool → List Ranked → List Item
given_in_order true descending kept = []
given_in_order false descending kept =
    map (λ (r : Ranked). r.item) (sorted (ranks_below descending) kept)

-- what a step under way makes of the items that are still to come to it
abbrev pub after_stage : Graph → Stage → List Item → List Item
after_stage graph (stages.Mapped mapping) coming = flat_map (mapped graph mapping) coming
after_stage graph (stages.Dedup seen) coming = unseen seen coming
after_stage graph (stages.Count so_far given) coming = counted given (so_far + length coming)
after_stage graph (stages.Limit left) coming = take left coming
after_stage graph (stages.Order key descending kept given) coming =
    given_in_order given descending (kept ++ filter_map (ranked graph key) coming)

-- the step counts more than the greatest number of a value: what it has counted, and what is still
-- to come to it
abbrev pub counts_past : Stage → List Item → Bool
counts_past (stages.Mapped mapping) coming = false
counts_past (stages.Dedup seen) coming = false
counts_past (stages.Count so_far given) coming =
    not given && nat_lt 9223372036854775807 (so_far + length coming)
counts_past (stages.Limit left) coming = false
counts_past (stages.Order key descending kept given) coming = false

-- For one more item the step gives these, and goes on as the new one.
abbrev pub Takes : Graph → Stage → Item → List Item → Stage → Type 0
Takes graph old item outs new = (coming : List Item)
    → (after_stage graph old (item ∷ coming) ≡ outs ++ after_stage graph new coming)
    × (counts_past old (item ∷ coming) ≡ counts_past new coming)

-- Where nothing more comes to it, the step gives these, and goes on as the new one.
abbrev pub Finishes : Graph → Stage → List Item → Stage → Type 0
Finishes graph old outs new = (after_stage graph old [] ≡ outs ++ after_stage graph new [])
    × (counts_past old [] ≡ counts_past new [])

-- the step gives more once nothing more comes to it
abbrev pub is_open : Stage → Bool
is_open (stages.Mapped mapping) = false
is_open (stages.Dedup seen) = false
is_open (stages.Count so_far given) = not given
is_open (stages.Limit left) = false
is_open (stages.Order key descending kept given) = not given

-- how many items a limit still lets through
abbrev pub limit_left : Stage → Option ℕ
limit_left (stages.Mapped mapping) = None
limit_left (stages.Dedup seen) = None
limit_left (stages.Count so_far given) = None
limit_left (stages.Limit left) = Some left
limit_left (stages.Order key descending kept given) = None

-- the same for a limit that has let through so many more
abbrev pub with_more : Option ℕ → ℕ → Option ℕ
with_more None n = None
with_more (Some left) n = Some (left + n)

abbrev pub is_zero : Option ℕ → Bool
is_zero None = false
is_zero (Some n) = nat_eq n 0

-- a limit that lets nothing more through
abbrev pub is_spent : Stage → Bool
is_spent stage = is_zero (limit_left stage)

abbrev pub is_count : Stage → Bool
is_count (stages.Mapped mapping) = false
is_count (stages.Dedup seen) = false
is_count (stages.Count so_far given) = true
is_count (stages.Limit left) = false
is_count (stages.Order key descending kept given) = false

-- what is ranked by: an item's own rank, or the value of a key where one is written
abbrev pub rank_in : Graph → Option (List ℕ) → Item → Option Value
rank_in graph None item = Some (own_rank item)
rank_in graph (Some key) item = maps.get (properties_of graph item) key
