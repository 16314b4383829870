-- The query that is read: the steps so far, and what comes after them.
use Rattle.std.specs.Prelude.{◌≡◌, ℕ, ◌+◌, ◌≤◌, true, List, [], ◌∷◌, ◌++◌}
use Rattle.plain_graph.specs.declared.query.Query.{Query}
use Rattle.plain_graph.specs.declared.query.Source.{Source}
use Rattle.plain_graph.specs.declared.query.Step.{Step}
use Rattle.gremlin_parse.specs.Queries.{LeadsTo, Place, StopsFrom, is_order, opened, plain_order}
use Rattle.gremlin_parse.specs.Queries.{put_step, query_of, steps_place}
use Rattle.gremlin_parse.specs.Stages.{added_count, first_items, items_after, items_from, mapped}
use Rattle.gremlin_parse.specs.Stages.{maps_count, steps_in}
use Rattle.gremlin_parse.specs.declared.draft.Draft.{Draft}
use Rattle.gremlin_parse.specs.declared.stage.Stage.{Stage}
use Rattle.gremlin_parse.specs.declared.step_word.StepWord.{StepWord}
use Rattle.gremlin_parse.specs.declared.stop.Stop.{Stop}

-- the query of this source with the steps so far
abbrev pub drafted : Source → Draft → Query
drafted source draft = query_of source draft.steps.items draft.maps

-- how many steps are before the next one, with the one that asks for maps
abbrev pub draft_steps : Draft → ℕ
draft_steps draft = draft.count + maps_count draft.maps

-- what comes to the next step
abbrev pub draft_stage : Draft → Stage
draft_stage draft = record { items = mapped draft.maps draft.items; steps = draft_steps draft }

-- the place after the steps
abbrev pub draft_place : Source → Draft → Place
draft_place source draft = steps_place draft.is_ordered (drafted source draft)

-- What is told of the steps is so where they begin with this source.
pub record IsDraft (source : Source) (draft : Draft) : Type 0 where
  pub items_are : draft.items ≡ items_from (first_items source) draft.steps.items
  pub counted : draft.count ≡ steps_in draft.steps.items
  pub early : draft_steps draft ≤ 32
  pub order_last :
      draft.is_ordered ≡ true
      → (before : List Step) × (draft.steps.items ≡ before ++ plain_order ∷ [])

-- The arguments of the word, from its parenthesis on, lead from the one draft to the other.
pub record ReadsStep (source : Source) (draft : Draft) (word : StepWord) (bytes : List ℕ)
    (after : Draft) (rest : List ℕ) : Type 0 where
  pub is : IsDraft source after
  pub leads : LeadsTo (opened (drafted source draft) word) bytes (draft_place source after) rest

-- The step of the word is put after the others.
pub record PutsStep (draft : Draft) (word : StepWord) (step : Step) (after : Draft) : Type 0 where
  pub steps_are : after.steps.items ≡ put_step word draft.steps.items step
  pub maps_are : after.maps ≡ draft.maps
  pub items_are : after.items ≡ items_after draft.items step
  pub counted : after.count ≡ draft.count + added_count word step
  pub ordered : after.is_ordered ≡ is_order word

-- Reading stops in the arguments of the word.
abbrev pub StopsInStep : Source → Draft → StepWord → List ℕ → Stop → Type 0
StopsInStep source draft word bytes stop =
    StopsFrom (opened (drafted source draft) word) bytes stop
