-- The nodes that a search by breadth has found.
use Rattle.std.specs.Prelude.{◌≡◌, ◌≢◌, ◌⊎◌, ℕ, zero, suc, ◌<◌, ◌≤◌, true, List, [], ◌∷◌, ◌++◌}
use Rattle.std.specs.Prelude.{length, Contains, slice_index, cond, nat_eq}
use Rattle.std.specs.List.{list_any}
use Rattle.plain_graph.specs.Adjacency.{Adjacency}

-- Rows of nodes in the order in which they were found: of each the row of the node that it was
-- found from, and how many edges are on the way to it.
pub record Rows : Type 0 where
  pub nodes : List ℕ
  pub parents : List ℕ
  pub levels : List ℕ

abbrev pub node_at : Rows → ℕ → ℕ
node_at rows i = slice_index rows.nodes i

abbrev pub parent_at : Rows → ℕ → ℕ
parent_at rows i = slice_index rows.parents i

abbrev pub level_at : Rows → ℕ → ℕ
level_at rows i = slice_index rows.levels i

abbrev pub row_count : Rows → ℕ
row_count rows = length rows.nodes

-- with one more row
abbrev pub with_row : Rows → ℕ → ℕ → ℕ → Rows
with_row rows node parent level = record {
  nodes = rows.nodes ++ node ∷ [];
  parents = rows.parents ++ parent ∷ [];
  levels = rows.levels ++ level ∷ [];
}

-- unless the node has one
abbrev pub with_node : Rows → ℕ → ℕ → ℕ → Rows
with_node rows node parent level =
    cond (list_any (nat_eq node) rows.nodes) rows (with_row rows node parent level)

-- a node alone
abbrev pub one_row : ℕ → Rows
one_row node = record { nodes = node ∷ []; parents = 0 ∷ []; levels = 0 ∷ [] }

-- a row was found from an earlier one, by one edge more
pub record IsGrown (rows : Rows) (i : ℕ) : Type 0 where
  pub earlier : parent_at rows i < i
  pub level : level_at rows i ≡ suc (level_at rows (parent_at rows i))

-- Rows from the same one ascend by node, and others as the rows that they were found from.
abbrev pub IsBefore : Rows → ℕ → ℕ → Type 0
IsBefore rows i j =
    (parent_at rows i < parent_at rows j)
    ⊎ ((parent_at rows i ≡ parent_at rows j) × (node_at rows i < node_at rows j))

-- Distinct nodes, the first one's level 0, and each other found from an earlier one, in order, and
-- from one of the first rows.
pub record IsTree (rows : Rows) (done : ℕ) : Type 0 where
  pub some : 0 < row_count rows
  pub parents : length rows.parents ≡ row_count rows
  pub levels : length rows.levels ≡ row_count rows
  pub root : level_at rows 0 ≡ 0
  pub distinct : (i j : ℕ) → i < j → j < row_count rows → node_at rows i ≢ node_at rows j
  pub grown : (i : ℕ) → 0 < i → i < row_count rows → IsGrown rows i
  pub order : (i j : ℕ) → 0 < i → i < j → j < row_count rows → IsBefore rows i j
  pub early : (i : ℕ) → 0 < i → i < row_count rows → parent_at rows i < done

-- a node was found, as the first or from one of the first rows
pub record IsFoundBy (rows : Rows) (last node : ℕ) : Type 0 where
  pub row : ℕ
  pub low : row < row_count rows
  pub is : node_at rows row ≡ node
  pub by : (row ≡ 0) ⊎ (parent_at rows row ≤ last)

-- The rows are of nodes, each a neighbour of the one that it was found from, and the neighbours of
-- the first rows are found.
pub record Spans (near : Adjacency) (rows : Rows) (done : ℕ) : Type 0 where
  pub nodes : (i : ℕ) → i < row_count rows → near.is_node (node_at rows i) ≡ true
  pub edges : (i : ℕ) → 0 < i → i < row_count rows
      → Contains (near.next (node_at rows (parent_at rows i))) (node_at rows i)
  pub found : (i node : ℕ) → i < done → Contains (near.next (node_at rows i)) node
      → IsFoundBy rows i node

-- these are the neighbours of a node, and nodes
pub record AreNeighbours (near : Adjacency) (node : ℕ) (ends : List ℕ) : Type 0 where
  pub only : (end : ℕ) → Contains ends end → Contains (near.next node) end
  pub all : (end : ℕ) → Contains (near.next node) end → Contains ends end
  pub nodes : (end : ℕ) → Contains ends end → near.is_node end ≡ true

-- the nodes on the way to a row, from the one after the first on
abbrev pub way_to : Rows → ℕ → ℕ → List ℕ
way_to rows zero i = []
way_to rows (suc level) i = way_to rows level (parent_at rows i) ++ node_at rows i ∷ []
