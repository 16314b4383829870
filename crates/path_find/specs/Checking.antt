-- What is tested of a walk and of levels.
use Rattle.std.specs.Prelude.{◌≡◌, ◌≢◌, ℕ, ◌+◌, ◌<◌, ◌≤◌, nat_le, nat_lt, Bool, true, false, Option}
use Rattle.std.specs.Prelude.{None, Some, List, [], ◌∷◌, length, AllPairs, Contains}
use Rattle.plain_graph.specs.Adjacency.{Adjacency}
use Rattle.plain_graph.specs.Levels.{HasLevel, HasLevelUpTo, level_of}
use Rattle.plain_graph.specs.Walks.{IsWalk}
use Rattle.plain_graph.specs.declared.node_level.NodeLevel.{NodeLevel}

-- no node stands twice
abbrev pub AreDistinct : List NodeLevel → Type 0
AreDistinct levels = AllPairs (λ a b. a.node ≢ b.node) levels

-- the number of edges of a walk, and none where no walk is given
abbrev pub edges_of : List ℕ → Option ℕ
edges_of [] = None
edges_of (first ∷ later) = Some (length later)

-- The ends have the levels that the rules ask for: 0 and the number of edges, or without a walk the
-- first has any and the last none.
abbrev pub HaveEnds : List NodeLevel → ℕ → ℕ → Option ℕ → Type 0
HaveEnds levels from to None = HasLevel levels from × ¬ HasLevel levels to
HaveEnds levels from to (Some edges) =
    Contains levels (level_of from 0) × Contains levels (level_of to edges)

-- a walk, where one is given
abbrev pub IsWalkOrNone : Adjacency → ℕ → ℕ → List ℕ → Type 0
IsWalkOrNone near from to [] = Unit {0}
IsWalkOrNone near from to (first ∷ later) = IsWalk near from to (first ∷ later)

-- a node, and a neighbour of it
pub record IsStep (near : Adjacency) (node next : ℕ) : Type 0 where
  pub there : near.is_node node ≡ true
  pub edge : Contains (near.next node) next

-- the row's level is at most the number of edges
abbrev pub IsWithin : Option ℕ → NodeLevel → Type 0
IsWithin None row = Unit {0}
IsWithin (Some edges) row = row.level ≤ edges

-- These nodes, the neighbours of a row's node, are in the levels: of one below the last level with
-- at most one more, or without a walk with any.
abbrev pub AreIn : List NodeLevel → Option ℕ → NodeLevel → List ℕ → Type 0
AreIn levels None row ends = (end : ℕ) → Contains ends end → HasLevel levels end
AreIn levels (Some edges) row ends =
    row.level < edges → (end : ℕ) → Contains ends end → HasLevelUpTo levels end (row.level + 1)

-- the row is a node's, its level is allowed, and its neighbours are in the levels
pub record IsSpreadAt (near : Adjacency) (levels : List NodeLevel) (edges : Option ℕ)
    (row : NodeLevel) : Type 0 where
  pub node : near.is_node row.node ≡ true
  pub within : IsWithin edges row
  pub spread : AreIn levels edges row (near.next row.node)

-- so for all rows
abbrev pub AllSpread : Adjacency → List NodeLevel → Option ℕ → Type 0
AllSpread near levels edges =
    (row : NodeLevel) → Contains levels row → IsSpreadAt near levels edges row

-- all that is tested
pub record IsChecked (near : Adjacency) (from to : ℕ) (walk : List ℕ) (levels : List NodeLevel)
    : Type 0 where
  pub distinct : AreDistinct levels
  pub ends : HaveEnds levels from to (edges_of walk)
  pub leads : IsWalkOrNone near from to walk
  pub spread : AllSpread near levels (edges_of walk)

-- the row has the last level or one past it
abbrev pub is_last : NodeLevel → Option ℕ → Bool
is_last row None = false
is_last row (Some edges) = nat_le edges row.level

-- it has one past it
abbrev pub is_past : NodeLevel → Option ℕ → Bool
is_past row None = false
is_past row (Some edges) = nat_lt edges row.level
