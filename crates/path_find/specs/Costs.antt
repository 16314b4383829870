-- What searches for a walk read.
use Rattle.std.specs.Prelude.{◌≡◌, ◌≢◌, ℕ, ◌+◌, ◌-◌, ◌≤◌, Bool, not, Option, IfSome, List, ◌∷◌}
use Rattle.std.specs.Prelude.{length, map, take, drop, if◌then◌else◌, All, AllPairs}
use Rattle.std.specs.List.{filter, sum_by}
use Rattle.rec_bytes.specs.Space.{State}
use Rattle.plain_graph.specs.Adjacency.{Adjacency}
use Rattle.plain_graph.specs.Walks.{IsWalk}
use Rattle.plain_graph.specs.declared.direction.Direction.{Direction}
use Rattle.plain_graph.specs.declared.node_level.NodeLevel.{NodeLevel}
use Rattle.chain_edit.specs.Walking.{ReadsAtMost}
use Rattle.expand.specs.Costs.{most_reads}
use Rattle.expand.specs.declared.expand_fault.ExpandFault.{ExpandFault}
use Rattle.expand.specs.declared.expand_fault.ExpandFault.TheVariants.{NoNode, Memory, Disk}
use Rattle.expand.specs.declared.expand_fault.ExpandFault.TheVariants.{Damaged}
use Rattle.path_find.specs.Checking.{edges_of, is_last}
use Rattle.path_find.specs.Meeting.{reversed}
use Rattle.path_find.specs.Reading.{node_of}
use Rattle.path_find.specs.Tree.{Rows}
use Rattle.path_find.specs.declared.reach.Reach.{Reach}
use Rattle.path_find.specs.declared.walk_search.WalkSearch.{WalkSearch}

-- what `expand` reads at these nodes, once at each
abbrev pub nodes_reads : State → Direction → List ℕ → List ℕ → ℕ
nodes_reads s direction labels nodes = sum_by (most_reads s direction labels) nodes

-- Of a node that is missing no more is read than the two that are given.
abbrev pub ReadsEnds : State → State → ExpandFault → Type 0
ReadsEnds old new (NoNode id) = ReadsAtMost 2 old new
ReadsEnds old new Memory = Unit {0}
ReadsEnds old new Disk = Unit {0}
ReadsEnds old new (Damaged damage) = Unit {0}

-- ---- a walk with its levels

-- the row is nearer than the target, or there is no walk to it
abbrev pub is_nearer : Option ℕ → NodeLevel → Bool
is_nearer edges row = not (is_last row edges)

-- the nodes of such rows
abbrev pub nearer_nodes : List ℕ → List NodeLevel → List ℕ
nearer_nodes walk levels = map node_of (filter (is_nearer (edges_of walk)) levels)

-- a read for each of the two nodes, and what is read at those that are nearer than the target
abbrev pub path_reads : State → Direction → List ℕ → List ℕ → List NodeLevel → ℕ
path_reads s direction labels walk levels =
    nodes_reads s direction labels (nearer_nodes walk levels) + 2

-- ---- a walk by searches from both of its ends

-- a walk of fewer edges than so many leads to the node
pub record IsReachedBelow (near : Adjacency) (from depth node : ℕ) : Type 0 where
  pub walk : List ℕ
  pub leads : IsWalk near from node walk
  pub few : length walk ≤ depth

-- so it is of each of these, and none stands twice
pub record AreReachedBelow (near : Adjacency) (from depth : ℕ) (nodes : List ℕ) : Type 0 where
  pub distinct : AllPairs (λ a b. a ≢ b) nodes
  pub each : All (IsReachedBelow near from depth) nodes

-- The nodes whose neighbours a search from the first node finds, and those of a search back from
-- the last one. Where there is a walk, both have its edges together, and the way on has its nodes
-- from where they meet, but the last.
pub record TwoSearches (near back : Adjacency) (from to : ℕ) (walk : List ℕ) : Type 0 where
  pub ahead_depth : ℕ
  pub behind_depth : ℕ
  pub ahead : List ℕ
  pub behind : List ℕ
  pub way : List ℕ
  pub from_first : AreReachedBelow near from ahead_depth ahead
  pub from_last : AreReachedBelow back to behind_depth behind
  pub meet : IfSome (edges_of walk) (λ edges. ahead_depth + behind_depth ≡ edges)
  pub on : way ≡ take behind_depth (drop ahead_depth walk)

-- what both read, and once more what is read on the way on
abbrev pub searches_reads : {near back : Adjacency} {from to : ℕ} {walk : List ℕ} → State
    → Direction → List ℕ → TwoSearches near back from to walk → ℕ
searches_reads s direction labels searches =
    nodes_reads s direction labels searches.ahead
    + nodes_reads s (reversed direction) labels searches.behind
    + nodes_reads s direction labels searches.way

-- ---- a test of levels

-- the nodes of a walk but the last
abbrev pub left_nodes : List ℕ → List ℕ
left_nodes walk = take (length walk - 1) walk

-- what `expand` reads at the node of a row that is nearer than the target, or a read for the node
abbrev pub row_reads : State → Direction → List ℕ → Option ℕ → NodeLevel → ℕ
row_reads s direction labels edges row =
    if is_last row edges then 1 else most_reads s direction labels row.node

-- so it is for all rows, beside what is read at the nodes of the walk
abbrev pub check_reads : State → Direction → List ℕ → List ℕ → List NodeLevel → ℕ
check_reads s direction labels walk levels =
    nodes_reads s direction labels (left_nodes walk) + 1
    + sum_by (row_reads s direction labels (edges_of walk)) levels

-- ---- amid a search

-- what is read at the nodes of so many first rows
abbrev pub rows_reads : State → Direction → List ℕ → Rows → ℕ → ℕ
rows_reads s direction labels rows count = nodes_reads s direction labels (take count rows.nodes)

-- what two searches have read, of which one goes back
abbrev pub reach_reads : State → WalkSearch → Reach → Reach → ℕ
reach_reads s sought ahead behind =
    rows_reads s sought.direction sought.labels.now ahead.tree ahead.done
    + rows_reads s (reversed sought.direction) sought.labels.now behind.tree behind.done

-- at most as much was read as one bound is above the other
pub record ReadsBetween (low high : ℕ) (old new : State) : Type 0 where
  pub most : ℕ
  pub reads : ReadsAtMost most old new
  pub is : low + most ≡ high

-- the nodes of a way from one on, but the last
abbrev pub but_last : ℕ → List ℕ → List ℕ
but_last first later = take (length later) (first ∷ later)
