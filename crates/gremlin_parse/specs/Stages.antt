-- What comes to a step of a query, and the fault that the name of a step has there.
use Rattle.std.specs.Prelude.{ℕ, ◌+◌, Bool, true, false, cond, nat_lt, if◌then◌else◌, not}
use Rattle.std.specs.Prelude.{Option, Some, None, List, [], ◌∷◌, length}
use Rattle.plain_graph.specs.declared.query.Query.{Query}
use Rattle.plain_graph.specs.declared.query.Source.{Source}
use Rattle.plain_graph.specs.declared.query.Source.TheVariants as origins
use Rattle.plain_graph.specs.declared.query.Step.{Step}
use Rattle.plain_graph.specs.declared.query.Step.TheVariants as steps
use Rattle.gremlin_parse.specs.OrderKeys.{has_key}
use Rattle.gremlin_parse.specs.declared.bad_token.BadToken.{BadToken}
use Rattle.gremlin_parse.specs.declared.bad_token.BadToken.TheVariants.{UnfitStep, LateStep}
use Rattle.gremlin_parse.specs.declared.stage.Items.{Items}
use Rattle.gremlin_parse.specs.declared.stage.Items.TheVariants as items
use Rattle.gremlin_parse.specs.declared.stage.Stage.{Stage}
use Rattle.gremlin_parse.specs.declared.step_word.BareStep.TheVariants as bare
use Rattle.gremlin_parse.specs.declared.step_word.BodyWord.TheVariants as of_body
use Rattle.gremlin_parse.specs.declared.step_word.ChangeWord.TheVariants as changes
use Rattle.gremlin_parse.specs.declared.step_word.NamesStep.TheVariants as of_names
use Rattle.gremlin_parse.specs.declared.step_word.StepWord.{StepWord}
use Rattle.gremlin_parse.specs.declared.step_word.StepWord.TheVariants as words

abbrev pub are_vertices : Items → Bool
are_vertices items.Vertices = true
are_vertices items.Edges = false
are_vertices items.Values = false
are_vertices items.Maps = false

abbrev pub are_edges : Items → Bool
are_edges items.Vertices = false
are_edges items.Edges = true
are_edges items.Values = false
are_edges items.Maps = false

-- vertices or edges
abbrev pub are_elements : Items → Bool
are_elements items.Vertices = true
are_elements items.Edges = true
are_elements items.Values = false
are_elements items.Maps = false

-- elements that are shown as maps
abbrev pub are_maps : Items → Bool
are_maps items.Maps = true
are_maps _ = false

-- The step whose name begins the bytes may be done with these items.
abbrev pub fits : Items → StepWord → List ℕ → Bool
fits these (words.Body (of_body.Neighbours direction)) bytes = are_vertices these
fits these (words.Body of_body.HasLabel) bytes = are_elements these
fits these (words.Body of_body.Has) bytes = are_elements these
fits these (words.Names (of_names.Incident direction)) bytes = are_vertices these
fits these (words.Names of_names.Values) bytes = are_elements these
fits these words.ElementMap bytes = are_elements these
fits these words.Repeat bytes = are_vertices these
fits these (words.Change changes.AddE) bytes = are_vertices these
fits these (words.Change changes.Property) bytes = are_elements these
fits these (words.Change changes.Drop) bytes = are_elements these
fits these (words.Bare bare.OutV) bytes = are_edges these
fits these (words.Bare bare.InV) bytes = are_edges these
fits these (words.Bare bare.Id) bytes = are_elements these
fits these (words.Bare bare.Label) bytes = are_elements these
fits these (words.Bare bare.Dedup) bytes = not (are_maps these)
fits these (words.Bare bare.Count) bytes = true
fits these words.Limit bytes = true
fits these words.Order bytes =
    if has_key bytes then are_elements these else not (are_maps these)
fits these words.By bytes = true

-- what a query begins with
abbrev pub first_items : Source → Items
first_items (origins.Vertices ids) = items.Vertices
first_items (origins.Edges ids) = items.Edges
first_items (origins.Found label key value) = items.Vertices

-- what a step gives where these items come to it
abbrev pub items_after : Items → Step → Items
items_after these (steps.Neighbours hop) = items.Vertices
items_after these (steps.Incident hop) = items.Edges
items_after these steps.OutV = items.Vertices
items_after these steps.InV = items.Vertices
items_after these (steps.Filter filter) = these
items_after these (steps.Values keys) = items.Values
items_after these steps.Id = items.Values
items_after these steps.Label = items.Values
items_after these steps.Dedup = these
items_after these steps.Count = items.Values
items_after these (steps.Limit most) = these
items_after these (steps.Order key descending) = these
items_after these (steps.Repeat body times) = items.Vertices

-- what the steps give, one after the other
abbrev pub items_from : Items → List Step → Items
items_from these [] = these
items_from these (step ∷ list) = items_from (items_after these step) list

-- how many steps a step counts: a repeat, and each step of its body
abbrev pub step_count : Step → ℕ
step_count (steps.Repeat body times) = 1 + length body
step_count _ = 1

-- how many steps are in the list, with those of bodies
abbrev pub steps_in : List Step → ℕ
steps_in [] = 0
steps_in (step ∷ list) = step_count step + steps_in list

-- how many steps ask for maps
abbrev pub maps_count : Option (List (List ℕ)) → ℕ
maps_count None = 0
maps_count (Some keys) = 1

-- how many steps the query has so far, with the one that asks for maps
abbrev pub steps_of : Query → ℕ
steps_of query = steps_in query.steps + maps_count query.maps

-- what comes to the next step: where maps are asked for, elements are maps
abbrev pub mapped : Option (List (List ℕ)) → Items → Items
mapped None these = these
mapped (Some keys) these = cond (are_elements these) items.Maps these

-- what comes after the query so far
abbrev pub stage_of : Query → Stage
stage_of query = record {
  items = mapped query.maps (items_from (first_items query.source) query.steps);
  steps = steps_of query;
}

-- the fault of the name of a step with so many steps before it, if 32 or more are
abbrev pub late_fault : ℕ → Option BadToken
late_fault before = if nat_lt before 32 then None else Some LateStep

-- `by` is no step: it belongs to the order before it.
abbrev pub is_by : StepWord → Bool
is_by words.By = true
is_by _ = false

-- how many steps a name counts: `by` is no step
abbrev pub name_count : StepWord → ℕ
name_count word = cond (is_by word) 0 1

-- how many steps the step of this word adds to the others: the order of a `by` counts already
abbrev pub added_count : StepWord → Step → ℕ
added_count word step = cond (is_by word) 0 (step_count step)

-- the fault of the name that begins the bytes: the step does not fit what comes to it, or 32 steps
-- are before it
abbrev pub step_fault : Stage → StepWord → List ℕ → Option BadToken
step_fault stage word bytes =
    if is_by word then None
    else (if fits stage.items word bytes then late_fault stage.steps else Some UnfitStep)
