-- What a search of a store's rows says of its graph.
use Rattle.std.proofs.Common.{◌≡◌, ℕ, Bool, true, List, Err, Contains, sym, subst, ◌∙◌}
use Rattle.rec_bytes.specs.Space.{SameButReads, State}
use Rattle.rec_bytes.specs.declared.row_fault.RowFault.{RowFault}
use Rattle.rec_bytes.specs.declared.row_fault.RowFault.TheVariants as row
use Rattle.rec_bytes.specs.Fault as faults
use Rattle.rec_bytes.specs.declared.fault.Fault.{Fault}
use Rattle.rec_bytes.specs.declared.fault.Fault.TheVariants.{Memory, Disk, Damaged}
use Rattle.node_store.specs.Loading.{IsNodeFault}
use Rattle.plain_graph.specs.Graph.{has_node}
use Rattle.plain_graph.specs.declared.direction.Direction.{Direction}
use Rattle.expand.specs.ExpandFault as expand
use Rattle.expand.proofs.LoadedRows.{row_fault}
use Rattle.plain_graph.specs.Adjacency.{Adjacency}
use Rattle.plain_graph.specs.Reached.{IsAnswer}
use Rattle.chain_edit.specs.Walking.{ReadsAtMost}
use Rattle.path_find.specs.Costs.{TwoSearches, searches_reads}
use Rattle.path_find.specs.Meeting.{reversed}
use Rattle.path_find.specs.Damage.{BlamesBroken}
use Rattle.plain_graph.specs.Reached.{IsLeastOrNone}
use Rattle.path_find.specs.Finding.{IsPathFault, TellsEnds}
use Rattle.path_find.specs.Reads.{StandFor, adjacency_of, neighbours_at}
use Rattle.path_find.specs.Search.{HasSearched}
use Rattle.path_find.specs.Tree.{Rows}
use Rattle.plain_graph.specs.declared.node_level.NodeLevel.{NodeLevel}
use Rattle.path_find.proofs.NeighbourLaws.{neighbour_there, neighbours_are}
use Rattle.store_rules.specs.Rules.{IsWhole}
use Rattle.store_rules.specs.Graph.{graph_in}

-- what a load of a node or a search says is damaged breaks a rule
pub node_fault : (s : State) (from to id : ℕ) (fault : RowFault) → IsNodeFault s id fault → IsPathFault s from to (expand.of_row fault)
node_fault s from to id row.Disk told = tt
node_fault s from to id (row.Damaged damage) told = row_fault s id (row.Damaged damage) told

pub load_fault : (s : State) (id : ℕ) (fault : RowFault) → IsNodeFault s id fault → BlamesBroken s (faults.of_row fault)
load_fault s id row.Disk told = tt
load_fault s id (row.Damaged damage) told = row_fault s id (row.Damaged damage) told

pub search_fault : (s : State) (from to : ℕ) (fault : Fault) → BlamesBroken s fault → IsPathFault s from to (expand.of_fault fault)
search_fault s from to Memory told = tt
search_fault s from to Disk told = tt
search_fault s from to (Damaged damage) told = told

-- nor is a node said to be missing, and none is where both were looked up
pub search_tells : (T : Type 0) (from to : ℕ) (there to_there : Bool) (fault : Fault) → (there ≡ true) × (to_there ≡ true)
    → TellsEnds {T = T} (Err (expand.of_fault fault)) from to there to_there
search_tells T from to there to_there Memory both = both
search_tells T from to there to_there Disk both = tt
search_tells T from to there to_there (Damaged damage) both = tt

pub ends_there : (s t : State) → SameButReads s t → IsWhole s → (from to : ℕ) (first second : Bool) → first ≡ has_node (graph_in s) from → first ≡ true
    → (IsWhole t → second ≡ has_node (graph_in t) to) → second ≡ true
    → (has_node (graph_in s) from ≡ true) × (has_node (graph_in s) to ≡ true)
ends_there s t same store from to first second is held told also = (
  sym is ∙ held,
  subst (λ (u : State). has_node (graph_in u) to ≡ true) same (sym (told (subst IsWhole (sym same) store)) ∙ also),
)

module _ (s : State) (store : IsWhole s) (direction : Direction) (labels : List ℕ) (types : List (List ℕ)) (stand : StandFor s.records labels types) where
  -- the neighbours by the graph are nodes
  pub closed_graph : (node end : ℕ) → Contains ((adjacency_of s direction types).next node) end → has_node (graph_in s) end ≡ true
  closed_graph = subst (λ (near : Adjacency). (node end : ℕ) → Contains (near.next node) end → has_node (graph_in s) end ≡ true)
      (neighbours_are s store direction labels types stand) (neighbour_there s store direction labels)

  pub answered : (t : State) → SameButReads s t → (from to : ℕ) → has_node (graph_in s) from ≡ true → (rows : Rows) (walk : List ℕ) (levels : List NodeLevel)
      → (IsWhole t → has_node (graph_in t) from ≡ true → HasSearched (neighbours_at t direction labels) rows from to)
      → ((near : Adjacency) (first : ℕ) → HasSearched near rows first to → IsAnswer near first to walk levels)
      → IsAnswer (adjacency_of s direction types) from to walk levels
  answered t same from to there rows walk levels searched answer =
      let has = searched (subst IsWhole (sym same) store) (subst (λ (u : State). has_node (graph_in u) from ≡ true) (sym same) there) in
      let at_s = subst (λ (u : State). HasSearched (neighbours_at u direction labels) rows from to) same has in
      subst (λ (near : Adjacency). IsAnswer near from to walk levels) (neighbours_are s store direction labels types stand)
      (answer (neighbours_at s direction labels) from at_s)

  -- so with the walk alone
  pub walked : (t : State) → SameButReads s t → (from to : ℕ) → has_node (graph_in s) from ≡ true → has_node (graph_in s) to ≡ true → (walk : List ℕ)
      → (IsWhole t → has_node (graph_in t) from ≡ true → has_node (graph_in t) to ≡ true → IsLeastOrNone (neighbours_at t direction labels) from to walk)
      → IsLeastOrNone (adjacency_of s direction types) from to walk
  walked t same from to there to_there walk found =
      let at_t = found (subst IsWhole (sym same) store) (subst (λ (u : State). has_node (graph_in u) from ≡ true) (sym same) there)
      (subst (λ (u : State). has_node (graph_in u) to ≡ true) (sym same) to_there) in
      let at_s = subst (λ (u : State). IsLeastOrNone (neighbours_at u direction labels) from to walk) same at_t in
      subst (λ (near : Adjacency). IsLeastOrNone near from to walk) (neighbours_are s store direction labels types stand) at_s

  -- and what was read for it
  pub costs_walk : (t : State) → SameButReads s t → (from to : ℕ) → has_node (graph_in s) from ≡ true → has_node (graph_in s) to ≡ true → (walk : List ℕ)
      → (new : State) → (IsWhole t → has_node (graph_in t) from ≡ true → has_node (graph_in t) to ≡ true
      → (searches : TwoSearches (neighbours_at t direction labels) (neighbours_at t (reversed direction) labels) from to walk)
      × ReadsAtMost (searches_reads t direction labels searches) t new)
      → (searches : TwoSearches (adjacency_of s direction types) (adjacency_of s (reversed direction) types) from to walk)
      × ReadsAtMost (searches_reads s direction labels searches) t new
  costs_walk t same from to there to_there walk new cost =
      let at_t = cost (subst IsWhole (sym same) store) (subst (λ (u : State). has_node (graph_in u) from ≡ true) (sym same) there)
      (subst (λ (u : State). has_node (graph_in u) to ≡ true) (sym same) to_there) in
      let at_s = subst (λ (u : State). (searches : TwoSearches (neighbours_at u direction labels) (neighbours_at u (reversed direction) labels) from to walk)
      × ReadsAtMost (searches_reads u direction labels searches) t new) same at_t in
      let near = subst (λ (near : Adjacency). (searches : TwoSearches near (neighbours_at s (reversed direction) labels) from to walk)
      × ReadsAtMost (searches_reads s direction labels searches) t new) (neighbours_are s store direction labels types stand) at_s in
      subst (λ (back : Adjacency). (searches : TwoSearches (adjacency_of s direction types) back from to walk)
      × ReadsAtMost (searches_reads s direction labels searches) t new) (neighbours_are s store (reversed direction) labels types stand) near
