-- How the rows of a search grow by the neighbours of a node.
use Rattle.std.specs.Prelude.{◌≡◌, ℕ, ◌+◌, ◌<◌, ◌≤◌, List, length, slice_index}
use Rattle.plain_graph.specs.Adjacency.{Adjacency}
use Rattle.path_find.specs.Tree.{IsFoundBy, IsTree, Rows, Spans, level_at, node_at}
use Rattle.path_find.specs.Tree.{parent_at, row_count}

-- The node of a row has given some of its neighbours, and what is left of them comes after those.
pub record IsGrowing (rows : Rows) (at : ℕ) (ends : List ℕ) (given : ℕ) : Type 0 where
  pub tree : IsTree rows (at + 1)
  pub low : at < row_count rows
  pub before : (i : ℕ) → 0 < i → i < row_count rows → parent_at rows i ≡ at
      → (j : ℕ) → given ≤ j → j < length ends → node_at rows i ≤ slice_index ends j

-- and what it has given is found
pub record IsSpanning (near : Adjacency) (rows : Rows) (at : ℕ) (ends : List ℕ) (given : ℕ)
    : Type 0 where
  pub spans : Spans near rows at
  pub found : (j : ℕ) → j < given → IsFoundBy rows at (slice_index ends j)

-- The rows stay, and those after them were found from a row.
pub record Extends (old new : Rows) (at : ℕ) : Type 0 where
  pub more : row_count old ≤ row_count new
  pub nodes : (i : ℕ) → i < row_count old → node_at new i ≡ node_at old i
  pub parents : (i : ℕ) → i < row_count old → parent_at new i ≡ parent_at old i
  pub levels : (i : ℕ) → i < row_count old → level_at new i ≡ level_at old i
  pub later : (i : ℕ) → row_count old ≤ i → i < row_count new → parent_at new i ≡ at
