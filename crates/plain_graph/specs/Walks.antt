-- Walks from a node to another, and the least of the shortest.
use Rattle.std.specs.Prelude.{◌≡◌, ◌⊎◌, ℕ, ◌+◌, ◌<◌, ◌≤◌, true, List, [], ◌∷◌, length, Contains}
use Rattle.plain_graph.specs.Adjacency.{Adjacency}

-- From a node through these to another. All are nodes, and each next one is a neighbour of the one
-- before.
abbrev pub LeadsTo : Adjacency → ℕ → List ℕ → ℕ → Type 0
LeadsTo near at [] to = (near.is_node at ≡ true) × (at ≡ to)
LeadsTo near at (node ∷ later) to =
    (near.is_node at ≡ true) × Contains (near.next at) node × LeadsTo near node later to

-- The nodes of a walk from a node to another. It has an edge less than nodes.
abbrev pub IsWalk : Adjacency → ℕ → ℕ → List ℕ → Type 0
IsWalk near from to [] = ⊥
IsWalk near from to (first ∷ later) = (first ≡ from) × LeadsTo near first later to

-- none leads there
abbrev pub HasNoWalk : Adjacency → ℕ → ℕ → Type 0
HasNoWalk near from to = (walk : List ℕ) → ¬ IsWalk near from to walk

-- a walk, and each has at least as many edges
pub record IsShortest (near : Adjacency) (from to : ℕ) (walk : List ℕ) : Type 0 where
  pub leads : IsWalk near from to walk
  pub least : (other : List ℕ) → IsWalk near from to other → length walk ≤ length other

-- At the first place at which the numbers differ the first list has the lesser one, or they differ
-- at none.
abbrev pub IsNotAfter : List ℕ → List ℕ → Type 0
IsNotAfter [] other = Unit {0}
IsNotAfter (x ∷ xs) [] = ⊥
IsNotAfter (x ∷ xs) (y ∷ ys) = (x < y) ⊎ ((x ≡ y) × IsNotAfter xs ys)

-- of the shortest walks the one whose list of identifiers is least
pub record IsLeastShortest (near : Adjacency) (from to : ℕ) (walk : List ℕ) : Type 0 where
  pub shortest : IsShortest near from to walk
  pub first : (other : List ℕ) → IsWalk near from to other → length other ≡ length walk
      → IsNotAfter walk other

-- the least length of a walk to a node is so many edges
pub record IsDistance (near : Adjacency) (from node edges : ℕ) : Type 0 where
  pub walk : List ℕ
  pub shortest : IsShortest near from node walk
  pub long : length walk ≡ edges + 1
