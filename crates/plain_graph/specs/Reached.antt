-- Which nodes a walk reaches, and with which least walk and levels a search ends.
use Rattle.std.specs.Prelude.{◌≡◌, ℕ, ◌+◌, ◌<◌, ◌≤◌, List, [], ◌∷◌, length, AllPairs, Contains}
use Rattle.plain_graph.specs.Adjacency.{Adjacency}
use Rattle.plain_graph.specs.Levels.{HasLevel}
use Rattle.plain_graph.specs.Walks.{HasNoWalk, IsDistance, IsLeastShortest, IsWalk}
use Rattle.plain_graph.specs.declared.node_level.NodeLevel.{NodeLevel}

-- The levels hold each node that a walk of an allowed number of edges reaches, with the least such
-- number, by ascending identifier.
pub record HoldReached (near : Adjacency) (from : ℕ) (IsAllowed : ℕ → Type 0)
    (levels : List NodeLevel) : Type 0 where
  pub ascend : AllPairs (λ a b. a.node < b.node) levels
  pub each : (row : NodeLevel) → Contains levels row
      → IsAllowed row.level × IsDistance near from row.node row.level
  pub all : (node edges : ℕ) (walk : List ℕ) → IsWalk near from node walk
      → length walk ≡ edges + 1 → IsAllowed edges → HasLevel levels node

-- With a walk the levels hold what no more edges reach, without one all that any number does.
abbrev pub IsAnswer : Adjacency → ℕ → ℕ → List ℕ → List NodeLevel → Type 0
IsAnswer near from to [] levels =
    HasNoWalk near from to × HoldReached near from (λ edges. Unit {0}) levels
IsAnswer near from to (first ∷ later) levels =
    IsLeastShortest near from to (first ∷ later)
    × HoldReached near from (λ edges. edges ≤ length later) levels

-- the least walk of the shortest, or none where there is none
abbrev pub IsLeastOrNone : Adjacency → ℕ → ℕ → List ℕ → Type 0
IsLeastOrNone near from to [] = HasNoWalk near from to
IsLeastOrNone near from to (first ∷ later) = IsLeastShortest near from to (first ∷ later)
