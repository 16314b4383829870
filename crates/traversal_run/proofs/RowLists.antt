-- One more step of a list has its rows.
use Rattle.std.proofs.Common.{◌≡◌, ◌<◌, ◌+◌, ℕ, List, [], ◌∷◌, ◌++◌, length, take, get_or, map, sym, ap, ◌∙◌, append_assoc}
use Rattle.std.specs.List.{flat_map}
use Rattle.std.proofs.lemmas.List.{flat_map_more, map_more, take_more}
use Rattle.plain_graph.specs.declared.query.BodyStep.{BodyStep}
use Rattle.plain_graph.specs.declared.query.Step.{Step}
use Rattle.traversal_run.specs.Starting.{body_row, rows_of, rows_of_step}
use Rattle.traversal_run.specs.declared.row.Row.{Row}

-- of the steps of a body
pub body_more : (before old new : List Row) (body : List BodyStep) (i : ℕ) (step : BodyStep) → i < length body → step ≡ get_or body i step
    → old ≡ before ++ map body_row (take i body)
    → new ≡ old ++ body_row step ∷ [] → new ≡ before ++ map body_row (take (i + 1) body)
body_more before old new body i step lt is are more =
    more ∙ ap (λ (rows : List Row). rows ++ body_row step ∷ []) are ∙ append_assoc before (map body_row (take i body)) (body_row step ∷ [])
    ∙ ap (λ (each : BodyStep). before ++ (map body_row (take i body) ++ body_row each ∷ [])) is
    ∙ ap (λ (rows : List Row). before ++ rows) (sym (map_more body_row body i step lt))

-- of the steps of a query
pub rows_more : (old new : List Row) (list : List Step) (i : ℕ) (step : Step) → i < length list → step ≡ get_or list i step → old ≡ rows_of (take i list)
    → new ≡ old ++ rows_of_step step → new ≡ rows_of (take (i + 1) list)
rows_more old new list i step lt is are more =
    more ∙ ap (λ (rows : List Row). rows ++ rows_of_step step) are ∙ flat_map_more rows_of_step [] (take i list) step
    ∙ ap (λ (each : Step). flat_map rows_of_step (take i list ++ each ∷ [])) is ∙ ap (flat_map rows_of_step) (sym (take_more list i step lt))
