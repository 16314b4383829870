-- What a hop at one vertex reads.
use Rattle.std.specs.Prelude.{◌≡◌, ◌⊎◌, ℕ, ◌+◌, nat_eq, true, false, None, List, [], ◌∷◌}
use Rattle.plain_graph.specs.declared.query.Hop.{Hop}
use Rattle.plain_graph.specs.declared.query.Query.{Query}
use Rattle.plain_graph.specs.declared.query.Source.TheVariants as sources
use Rattle.plain_graph.specs.declared.query.Step.TheVariants as steps
use Rattle.prop_store.specs.Reading.{ReadsAtMost}
use Rattle.rec_bytes.specs.declared.space.Reads.{Ghosts as SpaceGhosts}
use Rattle.store_rules.specs.Views.{Records}
use Rattle.traversal_run.specs.Held.{is_hop}
use Rattle.traversal_run.specs.Hopping.{reads_at_vertex}
use Rattle.traversal_run.specs.Reading.{IsNamedStore}
use Rattle.traversal_run.specs.Source.{is_left}
use Rattle.traversal_run.specs.declared.mapping.Mapping.TheVariants as mappings
use Rattle.traversal_run.specs.declared.row.Row.{Row}
use Rattle.traversal_run.specs.declared.run.Run.{Run}
use Rattle.traversal_run.specs.declared.source.Left.{Left}
use Rattle.traversal_run.specs.declared.source.Source.{Source}
use Rattle.traversal_run.specs.declared.stage.Stage.{Stage}
use Rattle.traversal_run.specs.declared.stage.Stage.TheVariants as stages

-- The query is a hop at the vertex of an identifier, alone.
pub record IsHopQuery (query : Query) (id : ℕ) (hop : Hop) : Type 0 where
  pub source : query.source ≡ sources.Vertices (id ∷ [])
  pub steps : (query.steps ≡ steps.Neighbours hop ∷ []) ⊎ (query.steps ≡ steps.Incident hop ∷ [])

-- a read for the vertex, and those of the hop at it
abbrev pub reads_for_hop : Records → Hop → ℕ → ℕ
reads_for_hop records hop id = 1 + reads_at_vertex records hop id

-- the step makes this hop at each item
abbrev pub MakesHop : Stage → Hop → Type 0
MakesHop stage hop =
    (stage ≡ stages.Mapped (mappings.Neighbours hop))
    ⊎ (stage ≡ stages.Mapped (mappings.Incident hop))

-- this identifier is still to come, and no other
abbrev pub HasOnly : Left → ℕ → Type 0
HasOnly left id = (other : ℕ) → is_left left other ≡ nat_eq other id

-- no identifier is still to come
abbrev pub HasNone : Left → Type 0
HasNone left = (other : ℕ) → is_left left other ≡ false

-- The only step gives neighbours or edges, and no item waits for it.
pub record IsHopAlone (rows : List Row) : Type 0 where
  pub row : Row
  pub is : rows ≡ row ∷ []
  pub idle : row.waiting ≡ []
  pub hop : is_hop row.stage ≡ true

-- The run is to make this hop at the vertex of an identifier, and nothing else.
pub record IsHop (run : Run) (id : ℕ) (hop : Hop) : Type 0 where
  pub vertices : run.source.edges ≡ false
  pub only : HasOnly run.source.left id
  pub alone : IsHopAlone run.rows.items
  pub makes : MakesHop alone.row.stage hop
  pub ready : run.ready ≡ []
  pub going : run.stopped ≡ None

-- The run has made its hop: what it still gives is ready.
pub record IsReady (run : Run) : Type 0 where
  pub vertices : run.source.edges ≡ false
  pub none : HasNone run.source.left
  pub alone : IsHopAlone run.rows.items
  pub going : run.stopped ≡ None

-- ---- amid a call

-- The step was given vertices of the source. Where one was left, a hop there reads no more than
-- that, and none is left. Where none was, nothing is read.
pub record FeedsHop {R : Type 0} (space : SpaceGhosts R) (names : List (List ℕ)) (stage : Stage)
    (old new : R) (before after : Source) : Type 0 where
  pub edges : after.edges ≡ before.edges
  pub one : (id : ℕ) (hop : Hop) → MakesHop stage hop → HasOnly before.left id
      → HasNone after.left × (space.tells
      → IsNamedStore (space.state old).records (space.state old).shape names
      → ReadsAtMost (reads_for_hop (space.state old).records hop id)
      (space.state old) (space.state new))
  pub none : HasNone before.left → HasNone after.left × (new ≡ old)
