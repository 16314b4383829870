-- Worked places of queries that change the graph.
use Rattle.std.proofs.Common.{◌≡◌, ℕ, zero, suc, ◌+◌, true, false, List, [], ◌∷◌, length, refl}
use Rattle.std.specs.Prelude.{Some, None, codes}
use Rattle.plain_graph.specs.declared.command.Command.TheVariants as commands
use Rattle.plain_graph.specs.declared.mutation.Mutation.TheVariants as mutations
use Rattle.plain_graph.specs.declared.pairs.Pair.{Pair}
use Rattle.plain_graph.specs.declared.query.Query.{Query}
use Rattle.plain_graph.specs.declared.query.Source.TheVariants as origins
use Rattle.plain_graph.specs.declared.query.Step.{Step}
use Rattle.plain_graph.specs.declared.query.Step.TheVariants as steps
use Rattle.plain_graph.specs.declared.value.Value.TheVariants as values
use Rattle.gremlin_parse.specs.Queries.{Changed, DropCloses, Elements, NewEdges, NewVertex, opened, query_of, steps_before, turn, with_pair}
use Rattle.gremlin_parse.specs.Stages.{stage_of, step_fault}
use Rattle.gremlin_parse.specs.declared.bad_token.BadToken.TheVariants.{LateStep, UnfitStep}
use Rattle.gremlin_parse.specs.declared.step_word.ChangeWord.TheVariants as changes
use Rattle.gremlin_parse.specs.declared.step_word.StepWord.TheVariants as words

-- steps of a query so often
abbrev repeated_step : ℕ → Step → List Step
repeated_step zero step = []
repeated_step (suc n) step = step ∷ repeated_step n step

-- queries of all vertices, or of all edges
abbrev vertices_with : List Step → Query
vertices_with list = query_of (origins.Vertices []) list None

abbrev edges_with : List Step → Query
edges_with list = query_of (origins.Edges []) list None

-- `addE` takes no edges, but `drop` does
edges_get_none : step_fault (stage_of (edges_with [])) (words.Change changes.AddE) [] ≡ Some UnfitStep
edges_get_none = refl

edges_drop : step_fault (stage_of (edges_with [])) (words.Change changes.Drop) [] ≡ None
edges_drop = refl

-- no step that changes the graph takes a number
counts_keep : step_fault (stage_of (vertices_with (steps.Count ∷ []))) (words.Change changes.Property) [] ≡ Some UnfitStep
counts_keep = refl

-- the 33rd step is one too many; of its kind and its place the kind counts first
last_drops : step_fault (stage_of (vertices_with (repeated_step 31 steps.Dedup))) (words.Change changes.Drop) [] ≡ None
last_drops = refl

late_drops : step_fault (stage_of (vertices_with (repeated_step 32 steps.Dedup))) (words.Change changes.Drop) [] ≡ Some LateStep
late_drops = refl

late_edges : step_fault (stage_of (edges_with (repeated_step 32 steps.Dedup))) (words.Change changes.AddE) [] ≡ Some UnfitStep
late_edges = refl

-- `addV` counts no step, `addE` one with its `to`, and each `property` one
abbrev one_pair : List Pair
one_pair = with_pair [] (codes "k") (values.Bool true)

vertex_counts : steps_before (NewVertex (codes "a")) + length one_pair ≡ 1
vertex_counts = refl

edge_counts : steps_before (NewEdges (vertices_with (steps.Dedup ∷ [])) (codes "t") 3) + length one_pair ≡ 3
edge_counts = refl

-- `drop` has no argument
drop_opens : (query : Query) → opened query (words.Change changes.Drop) ≡ DropCloses query
drop_opens query = refl

-- a line may end after each `property`, and pairs stand in the order in which they are written
ends_there : (query : Query) → (turn (Changed (Elements query) (with_pair one_pair (codes "l") (values.Bool false)))).ends ≡ Some
    (commands.Mutate (Some query) (mutations.Property (record { key = codes "k"; value = values.Bool true } ∷ record {
      key = codes "l";
      value = values.Bool
          false;
    } ∷ [])))
ends_there query = refl
