-- What a search by breadth leaves.
use Rattle.std.specs.Prelude.{◌≡◌, ℕ, ◌<◌, ◌≤◌}
use Rattle.plain_graph.specs.Adjacency.{Adjacency}
use Rattle.path_find.specs.Tree.{IsTree, Rows, Spans, level_at, node_at, row_count}

-- the target was found, in at most so many edges
pub record IsFoundWithin (rows : Rows) (to most : ℕ) : Type 0 where
  pub row : ℕ
  pub low : row < row_count rows
  pub is : node_at rows row ≡ to
  pub within : level_at rows row ≤ most

-- so many first rows are nearer than the target
abbrev pub AreNearer : Rows → ℕ → ℕ → Type 0
AreNearer rows done to = (target i : ℕ) → target < row_count rows → node_at rows target ≡ to
    → i < done → i < row_count rows → level_at rows i < level_at rows target

-- The neighbours of all rows are found, but of those as far as the target.
pub record IsSearched (rows : Rows) (from to : ℕ) : Type 0 where
  pub done : ℕ
  pub tree : IsTree rows done
  pub first : node_at rows 0 ≡ from
  pub nearer : AreNearer rows done to
  pub left : (i : ℕ) → done ≤ i → i < row_count rows → IsFoundWithin rows to (level_at rows i)

-- so by the neighbours of a graph
pub record HasSearched (near : Adjacency) (rows : Rows) (from to : ℕ) : Type 0 where
  pub searched : IsSearched rows from to
  pub spans : Spans near rows searched.done
