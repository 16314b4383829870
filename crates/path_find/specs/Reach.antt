-- A search by breadth by whole levels.
use Rattle.std.specs.Prelude.{◌≡◌, ℕ, ◌<◌, ◌≤◌}
use Rattle.path_find.specs.Tree.{IsTree, Rows, level_at, node_at, one_row, parent_at, row_count}
use Rattle.path_find.specs.declared.reach.Reach.{Reach}

-- The neighbours of these first rows are found, which are those below the last level.
pub record AreLayers (rows : Rows) (done depth : ℕ) : Type 0 where
  pub tree : IsTree rows done
  pub within : done ≤ row_count rows
  pub most : (i : ℕ) → i < row_count rows → level_at rows i ≤ depth
  pub below : (i : ℕ) → i < done → level_at rows i < depth
  pub complete : (i : ℕ) → i < row_count rows → level_at rows i < depth → i < done

-- the rows have levels up to some, of which the last may grow
pub record HasLayers (rows : Rows) (done : ℕ) : Type 0 where
  pub depth : ℕ
  pub layers : AreLayers rows done depth

-- a search that begins at a node
abbrev pub begun : ℕ → Reach
begun node = record { tree = one_row node; done = 0 }

-- The rows stay, and those after them were found from others than so many first ones.
pub record GrowsFrom (old new : Rows) (done : ℕ) : Type 0 where
  pub more : row_count old ≤ row_count new
  pub nodes : (i : ℕ) → i < row_count old → node_at new i ≡ node_at old i
  pub levels : (i : ℕ) → i < row_count old → level_at new i ≡ level_at old i
  pub later : (i : ℕ) → row_count old ≤ i → i < row_count new → done ≤ parent_at new i
