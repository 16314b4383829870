-- What is found of the edges of a node, and what it costs.
use Rattle.std.specs.Prelude.{◌≡◌, ◌<◌, ℕ, ◌+◌, Bool, true, false, Option, None, List}
use Rattle.std.specs.Prelude.{length, map}
use Rattle.std.specs.Prelude.{Result, Ok, Err, All}
use Rattle.std.specs.List.{AllZip}
use Rattle.plain_graph.specs.Graph.{Edge, Graph}
use Rattle.plain_graph.specs.declared.direction.Direction.{Direction}
use Rattle.rec_bytes.specs.Format as format
use Rattle.rec_bytes.specs.Format.{names_file, relationships_file}
use Rattle.rec_bytes.specs.Space.{State, after_gets}
use Rattle.store_rules.specs.Breaking.{Breaks}
use Rattle.store_rules.specs.Graph.{graph_of}
use Rattle.store_rules.specs.Rows.{collect}
use Rattle.store_rules.specs.Rules.{IsWellFormed}
use Rattle.store_rules.specs.Views.{Records, first_link, high, kind_at, rec_at, row_if, text_of}
use Rattle.node_store.specs.declared.node_row.NodeRow.{NodeRow}
use Rattle.node_store.specs.Loading.{row_at}
use Rattle.rel_store.specs.declared.edge_row.EdgeRow.{EdgeRow}
use Rattle.rel_store.specs.Loading.{rel_mark}
use Rattle.chain_edit.specs.Walking.{edge_at}
use Rattle.group_store.specs.declared.group_row.GroupRow.{GroupRow}
use Rattle.group_store.specs.Walking.{HasGroupRows, IsWalkable, group_row_at}
use Rattle.expand.specs.declared.expand_fault.ExpandFault.{ExpandFault}
use Rattle.expand.specs.declared.expand_fault.ExpandFault.TheVariants.{NoNode, Memory, Disk}
use Rattle.expand.specs.declared.expand_fault.ExpandFault.TheVariants.{Damaged}
use Rattle.expand.specs.FirstLinks.{first_numbers}
use Rattle.expand.specs.Walking.{AreSoundWalks, HaveWalked}

-- ---- rows and edges

-- the row of a relationship in use, and none where the identifier isn't live
abbrev pub edge_row_at : Records → ℕ → Option EdgeRow
edge_row_at records x = row_if (kind_at records relationships_file x) (edge_at records x)

-- the rows of all relationships in use, by ascending identifier
abbrev pub rows_of : Records → List EdgeRow
rows_of records = collect (edge_row_at records) (high records relationships_file)

-- the text of a name's number
abbrev pub name_of : Records → ℕ → List ℕ
name_of records x = text_of (rec_at records names_file x)

-- each number is a name's
abbrev pub AreNameNumbers : Records → List ℕ → Type 0
AreNameNumbers records labels = All (λ label. label < high records names_file) labels

-- the row has the edge's numbers, and in place of its type's name the number of that name
pub record IsRowOf (records : Records) (row : EdgeRow) (edge : Edge) : Type 0 where
  pub id : row.id ≡ edge.id
  pub from : row.from ≡ edge.from
  pub to : row.to ≡ edge.to
  pub known : row.label < high records names_file
  pub label : name_of records row.label ≡ edge.label

-- the rows are those of the edges, one for each, in this order
abbrev pub AreRowsOf : Records → List EdgeRow → List Edge → Type 0
AreRowsOf records rows edges = AllZip (IsRowOf records) rows edges

-- ---- faults

-- What an answer says of whether the node is there. A failure of the disk says nothing.
abbrev pub TellsNode : {T : Type 0} → Result T ExpandFault → ℕ → Bool → Type 0
TellsNode (Ok value) node there = there ≡ true
TellsNode (Err (NoNode id)) node there = (id ≡ node) × (there ≡ false)
TellsNode (Err Memory) node there = there ≡ true
TellsNode (Err Disk) node there = Unit {0}
TellsNode (Err (Damaged damage)) node there = Unit {0}

-- The rows are those of what is met in chains of a dense node's groups, with a read for each group
-- and each relationship.
pub record HasDenseRows (s t : State) (row : NodeRow) (direction : Direction) (labels : List ℕ)
    (rows : List EdgeRow) : Type 0 where
  pub groups : List GroupRow
  pub listed : HasGroupRows s.records row.id row.first groups
  pub walked : HaveWalked s row.id (first_numbers direction labels groups) rows
  pub read : t ≡ after_gets (length groups + length rows) s

-- the links lead through these groups of the dense node, and in chains of them through these
-- relationships
pub record CanWalkGroups (s : State) (row : NodeRow) (direction : Direction) (labels : List ℕ)
    (groups members : List ℕ) : Type 0 where
  pub walkable : IsWalkable s row.id row.first groups
  pub sound : AreSoundWalks s row.id
      (first_numbers direction labels (map (group_row_at s.records) groups)) (rel_mark s) members

-- the row is that of the dense node
pub record IsDenseRow (s : State) (row : NodeRow) : Type 0 where
  pub dense : kind_at s.records format.nodes_file row.id ≡ format.dense
  pub first : row.first ≡ first_link s.records row.id

-- A record that is said to be damaged breaks the rule that is named. No node is said to be missing.
abbrev pub Blames : State → ExpandFault → Type 0
Blames s (NoNode id) = ⊥
Blames s Memory = Unit {0}
Blames s Disk = Unit {0}
Blames s (Damaged damage) = Breaks s.records s.shape damage

-- The same, or the node is missing.
abbrev pub IsExpandFault : State → ℕ → ExpandFault → Type 0
IsExpandFault s node (NoNode id) = (id ≡ node) × (row_at s.records node ≡ None)
IsExpandFault s node Memory = Unit {0}
IsExpandFault s node Disk = Unit {0}
IsExpandFault s node (Damaged damage) = Breaks s.records s.shape damage
