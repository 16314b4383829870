-- The rows of steps with which a run begins.
use Rattle.std.specs.Prelude.{ℕ, zero, suc, Bool, true, false, cond, Option, None, Some, List, []}
use Rattle.std.specs.Prelude.{◌∷◌, ◌++◌, map}
use Rattle.std.specs.List.{flat_map}
use Rattle.plain_graph.specs.Meaning.{texts_once}
use Rattle.plain_graph.specs.declared.query.BodyStep.{BodyStep}
use Rattle.plain_graph.specs.declared.query.BodyStep.TheVariants as bodies
use Rattle.plain_graph.specs.declared.query.Step.{Step}
use Rattle.plain_graph.specs.declared.query.Step.TheVariants as steps
use Rattle.traversal_run.specs.declared.mapping.Mapping.{Mapping}
use Rattle.traversal_run.specs.declared.mapping.Mapping.TheVariants as mappings
use Rattle.traversal_run.specs.declared.row.Row.{Row}
use Rattle.traversal_run.specs.declared.stage.Stage.{Stage}
use Rattle.traversal_run.specs.declared.stage.Stage.TheVariants as stages

-- no item has come to the step
abbrev pub fresh : Stage → Row
fresh stage = record { stage = stage; waiting = [] }

abbrev pub each : Mapping → Row
each mapping = fresh (stages.Mapped mapping)

abbrev pub body_row : BodyStep → Row
body_row (bodies.Neighbours hop) = each (mappings.Neighbours hop)
body_row (bodies.Filter test) = each (mappings.Filter test)

abbrev pub repeat_rows : ℕ → List Row → List Row
repeat_rows zero rows = []
repeat_rows (suc times) rows = rows ++ repeat_rows times rows

-- a repeat is written out
abbrev pub rows_of_step : Step → List Row
rows_of_step (steps.Neighbours hop) = each (mappings.Neighbours hop) ∷ []
rows_of_step (steps.Incident hop) = each (mappings.Incident hop) ∷ []
rows_of_step steps.OutV = each mappings.OutV ∷ []
rows_of_step steps.InV = each mappings.InV ∷ []
rows_of_step (steps.Filter test) = each (mappings.Filter test) ∷ []
rows_of_step (steps.Values keys) = each (mappings.Values (texts_once [] keys)) ∷ []
rows_of_step steps.Id = each mappings.Id ∷ []
rows_of_step steps.Label = each mappings.Label ∷ []
rows_of_step steps.Dedup = fresh (stages.Dedup []) ∷ []
rows_of_step steps.Count = fresh (stages.Count 0 false) ∷ []
rows_of_step (steps.Limit most) = fresh (stages.Limit most) ∷ []
rows_of_step (steps.Order key descending) = fresh (stages.Order key descending [] false) ∷ []
rows_of_step (steps.Repeat body times) = repeat_rows times (map body_row body)

abbrev pub rows_of : List Step → List Row
rows_of list = flat_map rows_of_step list

-- the number of a limit
abbrev pub step_limit : Step → Option ℕ
step_limit (steps.Neighbours hop) = None
step_limit (steps.Incident hop) = None
step_limit steps.OutV = None
step_limit steps.InV = None
step_limit (steps.Filter test) = None
step_limit (steps.Values keys) = None
step_limit steps.Id = None
step_limit steps.Label = None
step_limit steps.Dedup = None
step_limit steps.Count = None
step_limit (steps.Limit most) = Some most
step_limit (steps.Order key descending) = None
step_limit (steps.Repeat body times) = None

abbrev pub is_counting : Step → Bool
is_counting (steps.Neighbours hop) = false
is_counting (steps.Incident hop) = false
is_counting steps.OutV = false
is_counting steps.InV = false
is_counting (steps.Filter test) = false
is_counting (steps.Values keys) = false
is_counting steps.Id = false
is_counting steps.Label = false
is_counting steps.Dedup = false
is_counting steps.Count = true
is_counting (steps.Limit most) = false
is_counting (steps.Order key descending) = false
is_counting (steps.Repeat body times) = false

-- the number of the limit that is the last step, where no step counts
abbrev pub limit_of : List Step → Option ℕ
limit_of [] = None
limit_of (step ∷ []) = step_limit step
limit_of (step ∷ next ∷ later) = cond (is_counting step) None (limit_of (next ∷ later))
