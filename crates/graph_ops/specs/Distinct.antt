-- Elements that were met, by their identifiers.
use Rattle.std.specs.Prelude.{◌≡◌, ℕ, nat_eq, cond, Bool, Option, Some, None, List, [], ◌∷◌, ◌++◌}
use Rattle.std.specs.List.{list_any}
use Rattle.plain_graph.specs.declared.command.Target.{Target}
use Rattle.plain_graph.specs.declared.command.Target.TheVariants as targets
use Rattle.plain_graph.specs.Mutations.{is_target}

-- the element is one of these nodes or of these edges
abbrev pub is_met : List ℕ → List ℕ → Target → Bool
is_met nodes edges (targets.Node id) = list_any (nat_eq id) nodes
is_met nodes edges (targets.Edge id) = list_any (nat_eq id) edges

-- These are the nodes and the edges of the list.
abbrev pub Agree : List ℕ → List ℕ → List Target → Type 0
Agree nodes edges distinct =
    (target : Target) → is_met nodes edges target ≡ list_any (is_target target) distinct

-- the list with an element at its end, where it isn't there yet
abbrev pub with_target : List Target → Target → List Target
with_target distinct target =
    cond (list_any (is_target target) distinct) distinct (distinct ++ target ∷ [])

abbrev pub with_item : List Target → Option Target → List Target
with_item distinct None = distinct
with_item distinct (Some target) = with_target distinct target
