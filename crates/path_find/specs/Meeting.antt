-- Two searches, of which one goes back from the target.
use Rattle.std.specs.Prelude.{◌≡◌, ℕ, suc, ◌+◌, ◌<◌, ◌≤◌, true, List, [], ◌∷◌, ◌++◌, length}
use Rattle.std.specs.Prelude.{Contains, slice_index}
use Rattle.plain_graph.specs.Adjacency.{Adjacency}
use Rattle.plain_graph.specs.declared.direction.Direction.{Direction}
use Rattle.plain_graph.specs.declared.direction.Direction.TheVariants as directions
use Rattle.path_find.specs.Reach.{AreLayers}
use Rattle.path_find.specs.Tree.{Rows, level_at, node_at, row_count, way_to}

-- the edges of a direction, seen from their other ends
abbrev pub reversed : Direction → Direction
reversed directions.Outgoing = directions.Incoming
reversed directions.Incoming = directions.Outgoing
reversed directions.Both = directions.Both

-- ---- nodes that both have found

-- a row's node is among the others
abbrev pub IsShared : Rows → Rows → ℕ → Type 0
IsShared rows other row = Contains other.nodes (node_at rows row)

-- none of these rows' is
abbrev pub AreApartFrom : Rows → ℕ → ℕ → Rows → Type 0
AreApartFrom rows first end other =
    (row : ℕ) → first ≤ row → row < end → ¬ IsShared rows other row

abbrev pub AreApart : Rows → Rows → Type 0
AreApart ahead behind = (row : ℕ) → row < row_count ahead → ¬ IsShared ahead behind row

pub record HaveMet (ahead behind : Rows) : Type 0 where
  pub row : ℕ
  pub low : row < row_count ahead
  pub shared : IsShared ahead behind row

-- By one level more both have one more together, each from the node that it was from.
pub record AreCloser (old_ahead old_behind ahead behind : Rows) (ahead_done behind_done : ℕ)
    (depth : ℕ) : Type 0 where
  pub ahead_depth : ℕ
  pub behind_depth : ℕ
  pub ahead_layers : AreLayers ahead ahead_done ahead_depth
  pub behind_layers : AreLayers behind behind_done behind_depth
  pub deep : ahead_depth + behind_depth ≡ depth + 1
  pub from : node_at ahead 0 ≡ node_at old_ahead 0
  pub to : node_at behind 0 ≡ node_at old_behind 0

-- ---- the way on, from a node to the first of a search back

-- a row has this level, and this node
pub record IsAtLevel (rows : Rows) (level node row : ℕ) : Type 0 where
  pub low : row < row_count rows
  pub exact : level_at rows row ≡ level
  pub is : node_at rows row ≡ node

-- of these nodes the first that has a row of a level
pub record IsFirstAtLevel (rows : Rows) (level : ℕ) (ends : List ℕ) (row : ℕ) : Type 0 where
  pub place : ℕ
  pub short : place < length ends
  pub is : IsAtLevel rows level (slice_index ends place) row
  pub before : (k : ℕ) → k < place → (other : ℕ)
      → ¬ IsAtLevel rows level (slice_index ends k) other

-- some has one
pub record SomeAtLevel (rows : Rows) (level : ℕ) (ends : List ℕ) : Type 0 where
  pub place : ℕ
  pub short : place < length ends
  pub row : ℕ
  pub is : IsAtLevel rows level (slice_index ends place) row

-- of the neighbours of a row's node that have a level, this is the row of the least
pub record IsNextRow (near : Adjacency) (rows : Rows) (at level row : ℕ) : Type 0 where
  pub low : row < row_count rows
  pub edge : Contains (near.next (node_at rows at)) (node_at rows row)
  pub exact : level_at rows row ≡ level
  pub least : (other : ℕ) → other < row_count rows
      → Contains (near.next (node_at rows at)) (node_at rows other) → level_at rows other ≡ level
      → node_at rows row ≤ node_at rows other

-- a row's node is one, and a neighbour of it has a level
pub record HasNearer (near : Adjacency) (rows : Rows) (at level : ℕ) : Type 0 where
  pub there : near.is_node (node_at rows at) ≡ true
  pub row : ℕ
  pub low : row < row_count rows
  pub edge : Contains (near.next (node_at rows at)) (node_at rows row)
  pub exact : level_at rows row ≡ level

-- from each row but the first there is one a level lower
abbrev pub CanDescend : Adjacency → Rows → Type 0
CanDescend near rows = (at level : ℕ) → at < row_count rows → level_at rows at ≡ suc level
    → HasNearer near rows at level

-- the nodes after a row's, each the least that is a level lower
abbrev pub IsDescent : Adjacency → Rows → ℕ → List ℕ → Type 0
IsDescent near rows at [] = Unit {0}
IsDescent near rows at (node ∷ later) =
    (row : ℕ) × (node_at rows row ≡ node) × IsNextRow near rows at (length later) row
    × IsDescent near rows row later

-- ---- a walk that is joined of both

-- The way to the first row that is shared, and from there the way on.
pub record AreJoined (near : Adjacency) (ahead behind : Rows) (walk : List ℕ) : Type 0 where
  pub row : ℕ
  pub low : row < row_count ahead
  pub last : ℕ
  pub last_low : last < row_count behind
  pub shared : node_at behind last ≡ node_at ahead row
  pub before : AreApartFrom ahead 0 row behind
  pub way : List ℕ
  pub descends : IsDescent near behind last way
  pub long : length way ≡ level_at behind last
  pub is : walk ≡ node_at ahead 0 ∷ (way_to ahead (level_at ahead row) row ++ way)
