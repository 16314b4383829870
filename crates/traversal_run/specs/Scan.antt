-- What a limit over all vertices reads.
use Rattle.std.specs.Prelude.{◌≡◌, ◌⊎◌, ℕ, ◌+◌, ◌-◌, ◌≤◌, true, false, None, Some}
use Rattle.std.specs.Prelude.{List, [], ◌∷◌}
use Rattle.plain_graph.specs.declared.item.Item.{Item}
use Rattle.plain_graph.specs.declared.item.Item.TheVariants as items
use Rattle.traversal_run.specs.Run.{still_allowed}
use Rattle.traversal_run.specs.Source.{is_over}
use Rattle.traversal_run.specs.declared.row.Row.{Row}
use Rattle.traversal_run.specs.declared.run.Run.{Run}
use Rattle.traversal_run.specs.declared.source.Left.TheVariants.{From}
use Rattle.traversal_run.specs.declared.source.Source.{Source}
use Rattle.traversal_run.specs.declared.stage.Stage.TheVariants as stages

-- all vertices from this identifier on
abbrev pub vertices_from : ℕ → Source
vertices_from at = record { edges = false; left = From at }

-- a limit that lets so many more through
abbrev pub limit_row : ℕ → List Item → Row
limit_row most waiting = record { stage = stages.Limit most; waiting = waiting }

-- The run gives the vertices from this identifier on, through a limit alone.
pub record IsScanWith (run : Run) (at most : ℕ) (waiting given : List Item) : Type 0 where
  pub source : run.source ≡ vertices_from at
  pub rows : run.rows.items ≡ limit_row most waiting ∷ []
  pub ready : run.ready ≡ given

-- So, with no item on its way, and no stop.
pub record IsScan (run : Run) (at : ℕ) : Type 0 where
  pub most : ℕ
  pub is : IsScanWith run at most [] []
  pub going : run.stopped ≡ None

-- A scan from an identifier on gave a vertex, with a read for each identifier that it passed and
-- one for the vertex. It goes on behind it, unless the limit lets nothing more through.
pub record IsScanned (at before after : ℕ) (item : Item) (run : Run) : Type 0 where
  pub id : ℕ
  pub is : item ≡ items.Vertex id
  pub from : at ≤ id
  pub reads : after ≤ before + (id + 1 - at)
  pub on : IsScan run (id + 1) ⊎ (still_allowed run ≡ Some 0)

-- ---- amid a call

-- the source gave a vertex, and is behind it
pub record TakesVertex (at before after : ℕ) (item : Item) (source : Source) : Type 0 where
  pub id : ℕ
  pub is : item ≡ items.Vertex id
  pub from : at ≤ id
  pub behind : source ≡ vertices_from (id + 1)
  pub reads : after ≤ before + (id + 1 - at)

-- nothing is to come but this item
pub record IsLast (run : Run) (item : Item) : Type 0 where
  pub rows : run.rows.items ≡ []
  pub over : is_over run.source.left ≡ true
  pub ready : run.ready ≡ item ∷ []

-- the item is ready, and maybe the scan goes on behind it
abbrev pub IsScanReady : Run → ℕ → ℕ → Item → Type 0
IsScanReady run from most item = IsScanWith run from most [] (item ∷ []) ⊎ IsLast run item
