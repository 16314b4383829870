-- Levels of nodes: what proves that no walk is shorter, or that there is none.
use Rattle.std.specs.Prelude.{◌≡◌, ◌≢◌, ℕ, ◌+◌, ◌<◌, ◌≤◌, true, List, [], ◌∷◌, length}
use Rattle.std.specs.Prelude.{All, AllPairs, Contains}
use Rattle.plain_graph.specs.Adjacency.{Adjacency}
use Rattle.plain_graph.specs.Walks.{HasNoWalk, IsShortest, IsWalk}
use Rattle.plain_graph.specs.declared.node_level.NodeLevel.{NodeLevel}

abbrev pub level_of : ℕ → ℕ → NodeLevel
level_of node level = record { node = node; level = level }

-- the node has a level
abbrev pub HasLevel : List NodeLevel → ℕ → Type 0
HasLevel levels node = (level : ℕ) × Contains levels (level_of node level)

-- it has one of at most so many
abbrev pub HasLevelUpTo : List NodeLevel → ℕ → ℕ → Type 0
HasLevelUpTo levels node most = (level : ℕ) × Contains levels (level_of node level) × (level ≤ most)

-- distinct nodes, each with a number
pub record AreLevels (near : Adjacency) (levels : List NodeLevel) : Type 0 where
  pub distinct : AllPairs (λ a b. a.node ≢ b.node) levels
  pub nodes : All (λ row. near.is_node row.node ≡ true) levels

-- Levels for so many edges: the first node has 0 and the last one that number, which none passes.
-- A neighbour of a node below it has a level of at most one more.
pub record AreLevelsFor (near : Adjacency) (from to edges : ℕ) (levels : List NodeLevel)
    : Type 0 where
  pub are : AreLevels near levels
  pub start : Contains levels (level_of from 0)
  pub end : Contains levels (level_of to edges)
  pub within : All (λ row. row.level ≤ edges) levels
  pub spread : (row : NodeLevel) → Contains levels row → row.level < edges
      → (node : ℕ) → Contains (near.next row.node) node → HasLevelUpTo levels node (row.level + 1)

-- Levels of no walk: they hold the first node and each neighbour of their nodes, and not the last.
pub record AreLevelsOfNoWalk (near : Adjacency) (from to : ℕ) (levels : List NodeLevel)
    : Type 0 where
  pub are : AreLevels near levels
  pub start : HasLevel levels from
  pub end : ¬ HasLevel levels to
  pub spread : (row : NodeLevel) → Contains levels row
      → (node : ℕ) → Contains (near.next row.node) node → HasLevel levels node

-- The levels prove that no walk is shorter, or where no walk is given, that there is none.
abbrev pub IsCertified : Adjacency → ℕ → ℕ → List ℕ → List NodeLevel → Type 0
IsCertified near from to [] levels = AreLevelsOfNoWalk near from to levels
IsCertified near from to (first ∷ later) levels =
    IsWalk near from to (first ∷ later) × AreLevelsFor near from to (length later) levels

-- a shortest walk, or none where there is none
abbrev pub IsShortestOrNone : Adjacency → ℕ → ℕ → List ℕ → Type 0
IsShortestOrNone near from to [] = HasNoWalk near from to
IsShortestOrNone near from to (first ∷ later) = IsShortest near from to (first ∷ later)
