-- What is told of the rows of a search.
use Rattle.std.specs.Prelude.{◌≡◌, ℕ, ◌<◌, List, AllPairs, Contains, length}
use Rattle.std.specs.Prelude.{slice_index_or}
use Rattle.plain_graph.specs.Levels.{level_of}
use Rattle.path_find.specs.Tree.{IsTree, Rows, level_at, node_at, row_count}
use Rattle.plain_graph.specs.declared.node_level.NodeLevel.{NodeLevel}

-- the rows are a search's, however far it has come
pub record IsSomeTree (rows : Rows) : Type 0 where
  pub done : ℕ
  pub tree : IsTree rows done

-- the levels of all rows, in the order of the rows
pub record AreLevelsInOrder (rows : Rows) (count : ℕ) (levels : List NodeLevel) : Type 0 where
  pub long : length levels ≡ count
  pub each : (i : ℕ) (d : NodeLevel) → i < count
      → slice_index_or levels i d ≡ level_of (node_at rows i) (level_at rows i)

abbrev pub node_of : NodeLevel → ℕ
node_of level = level.node

-- a row of this node and level
pub record IsRow (rows : Rows) (level : NodeLevel) : Type 0 where
  pub row : ℕ
  pub low : row < row_count rows
  pub node : node_at rows row ≡ level.node
  pub is : level_at rows row ≡ level.level

-- the levels of the rows, by ascending identifier
pub record AreLevelsOf (rows : Rows) (levels : List NodeLevel) : Type 0 where
  pub ascend : AllPairs (λ a b. a.node < b.node) levels
  pub only : (level : NodeLevel) → Contains levels level → IsRow rows level
  pub all : (i : ℕ) → i < row_count rows
      → Contains levels (level_of (node_at rows i) (level_at rows i))
