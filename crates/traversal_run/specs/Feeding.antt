-- What a source still has, given to a step.
use Rattle.std.specs.Prelude.{◌≡◌, ◌<◌, ℕ, ◌+◌, Bool, true, false, List, ◌++◌, [], length}
use Rattle.std.specs.List.{filter, list_all}
use Rattle.plain_graph.specs.Graph.{Graph}
use Rattle.plain_graph.specs.Meaning.{passes}
use Rattle.plain_graph.specs.declared.filter.Filter.{Filter}
use Rattle.plain_graph.specs.declared.item.Item.{Item}
use Rattle.traversal_run.specs.Source.{left_of}
use Rattle.traversal_run.specs.Stage.{after_stage, counts_past}
use Rattle.traversal_run.specs.declared.mapping.Mapping.TheVariants as mappings
use Rattle.traversal_run.specs.declared.row.Row.{Row}
use Rattle.traversal_run.specs.declared.source.Source.{Source}
use Rattle.traversal_run.specs.declared.stage.Stage.{Stage}
use Rattle.traversal_run.specs.declared.stage.Stage.TheVariants as stages

-- For some of the items of the source the step gives these, and both go on as the new ones.
abbrev pub Feeds : Graph → Source → Stage → List Item → Source → Stage → Type 0
Feeds graph source old outs rest new =
    (after_stage graph old (left_of graph source)
    ≡ outs ++ after_stage graph new (left_of graph rest))
    × (counts_past old (left_of graph source) ≡ counts_past new (left_of graph rest))

-- a filter under way
abbrev pub filter_stage : Filter → Stage
filter_stage test = stages.Mapped (mappings.Filter test)

-- All items of the source were counted, or they are too many for a value.
abbrev pub Counts : Graph → Source → ℕ → Bool → Source → ℕ → Type 0
Counts graph source before true rest after =
    (after ≡ before + length (left_of graph source)) × (left_of graph rest ≡ [])
Counts graph source before false rest after =
    9223372036854775807 < before + length (left_of graph source)

-- All of these items were counted, or they are too many for a value.
abbrev pub IsCountOf : List Item → ℕ → Bool → ℕ → Type 0
IsCountOf list before true after = after ≡ before + length list
IsCountOf list before false after = 9223372036854775807 < before + length list

-- ---- filters before a count

abbrev pub is_filter : Stage → Bool
is_filter (stages.Mapped (mappings.Filter test)) = true
is_filter stage = false

abbrev pub are_filters : List Row → Bool
are_filters rows = list_all (λ (row : Row). is_filter row.stage) rows

-- the item passes the step, where that is a filter
abbrev pub passes_stage : Graph → Stage → Item → Bool
passes_stage graph (stages.Mapped (mappings.Filter test)) item = passes graph test item
passes_stage graph stage item = true

-- it passes each of these rows that is a filter
abbrev pub passes_rows : Graph → List Row → Item → Bool
passes_rows graph rows item = list_all (λ (row : Row). passes_stage graph row.stage item) rows

-- what these rows let through of what a source still has, where they are filters
abbrev pub passing : Graph → List Row → Source → List Item
passing graph rows source = filter (passes_rows graph rows) (left_of graph source)
