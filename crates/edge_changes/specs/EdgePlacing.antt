-- What a new edge writes.
use Rattle.std.specs.Prelude.{◌≡◌, ◌≢◌, ℕ, ◌+◌, ◌<◌, true, false, List, Some, slice_get}
use Rattle.plain_graph.specs.Graph.{edge_number, has_edge, has_node, with_row}
use Rattle.plain_graph.specs.Properties.{no_properties}
use Rattle.rec_bytes.specs.Format as format
use Rattle.rec_bytes.specs.Record.{field}
use Rattle.rec_bytes.specs.RecordFiles.{room_of}
use Rattle.rec_bytes.specs.Space.{State, meta_in, meta_of}
use Rattle.id_freelist.specs.FreeLists.{IsFreeList}
use Rattle.id_freelist.specs.Taking.{mark_after, rest_of}
use Rattle.prop_store.specs.SetFault.{IsFullFile}
use Rattle.store_rules.specs.Ends.{IsEndHead}
use Rattle.store_rules.specs.Rules.{Head, first_of, next_free}
use Rattle.store_rules.specs.Views.{Records, RelRow, high, kind_at, rec_at, rel_at}
use Rattle.group_store.specs.Opening.{IsCountedHead}
use Rattle.change_parts.specs.ChangeFault.{IsFailure}
use Rattle.change_parts.specs.Store.{IsMidway, KeepsIndexes}
use Rattle.change_parts.specs.declared.change_fault.ChangeFault.{ChangeFault}
use Rattle.change_parts.specs.declared.change_fault.ChangeFault.TheVariants.{Full}
use Rattle.store_rules.specs.Graph.{graph_in}

-- Groups of nodes are other ones at most, which no graph shows.
pub record KeepsGraph (s t : State) : Type 0 where
  pub shape : t.shape ≡ s.shape
  pub graph : graph_in t ≡ graph_in s
  pub indexes : KeepsIndexes s t
  pub metas : (file : ℕ) → file ≢ format.groups_file → meta_of t file ≡ meta_of s file

-- The relationship is the first in the chain of the node where its like stand. A group that the
-- chain is in has counts.
pub record IsFirstAt (records : Records) (id node : ℕ) (row : RelRow) : Type 0 where
  pub head : Head
  pub end : IsEndHead records head node row
  pub first : first_of records head ≡ id
  pub counted : IsCountedHead records head

-- The relationship leaves one node for another, and is the first in a chain of each. A loop is in
-- one chain, by the links of its source, and those of its target are none.
pub record IsFirst (records : Records) (id from to : ℕ) : Type 0 where
  pub row : RelRow
  pub there : rel_at records id ≡ Some row
  pub from_is : row.from ≡ from
  pub to_is : row.to ≡ to
  pub source : IsFirstAt records id from row
  pub target : IsFirstAt records id to row
  pub previous : from ≡ to → field 4 (rec_at records format.relationships_file id)
      format.relationship_target_previous ≡ format.nil
  pub next : from ≡ to → field 4 (rec_at records format.relationships_file id)
      format.relationship_target_next ≡ format.nil

-- Whatever else the records are, a relationship of this number is in use, leads from one node to
-- the other, and has the type of this number.
pub record IsEdgeBetween (records : Records) (id from type to : ℕ) : Type 0 where
  pub used : kind_at records format.relationships_file id ≢ format.free_kind
  pub from_is : field 4 (rec_at records format.relationships_file id) format.relationship_source
      ≡ from
  pub type_is : field 4 (rec_at records format.relationships_file id) format.relationship_type
      ≡ type
  pub to_is : field 4 (rec_at records format.relationships_file id) format.relationship_target
      ≡ to

-- so it is, and the number is that of this type among the names
abbrev pub IsEdgeLabelled : Records → List (List ℕ) → ℕ → ℕ → List ℕ → ℕ → Type 0
IsEdgeLabelled records names id from label to =
    (type : ℕ) × (slice_get names type ≡ Some label) × IsEdgeBetween records id from type to

-- The store has one more edge, of this type, without properties.
pub record PutsEdge (s t : State) (names : List (List ℕ)) (from : ℕ) (label : List ℕ) (to id : ℕ)
    : Type 0 where
  pub store : IsMidway t names
  pub keeps : KeepsIndexes s t
  pub indexes : (graph_in t).indexes ≡ (graph_in s).indexes
  pub leaves : has_node (graph_in s) from ≡ true
  pub enters : has_node (graph_in s) to ≡ true
  pub below : id < s.shape.limit
  pub fresh : has_edge (graph_in s) id ≡ false
  pub nodes : (graph_in t).nodes ≡ (graph_in s).nodes
  pub edges : (graph_in t).edges
      ≡ with_row edge_number
      (record { id = id; label = label; from = from; to = to; properties = no_properties })
      (graph_in s).edges
  pub first : IsFirst t.records id from to
  pub metas : (file : ℕ) → file ≢ format.relationships_file → file ≢ format.groups_file
      → meta_of t file ≡ meta_of s file

-- ---- which identifiers are free

-- The free list of the relationships and their mark are as they were.
pub record KeepsFreeEdges (s t : Records) : Type 0 where
  pub meta : meta_in t format.relationships_file ≡ meta_in s format.relationships_file
  pub next : (x : ℕ) → next_free t format.relationships_file x
      ≡ next_free s format.relationships_file x

-- The first identifier on the file's free list was taken, or else the mark. The others are free
-- still, in the same order.
abbrev pub TakesFirst : Records → Records → ℕ → Type 0
TakesFirst old new file = (free : List ℕ) → IsFreeList old file free
    → IsFreeList new file (rest_of free) × (high new file ≡ mark_after free (high old file))

-- ---- a full file of groups

-- A failure of the machine, or a damaged record. Or the file of groups is full, by the space as it
-- is left.
abbrev pub IsPutFault : State → ChangeFault → Type 0
IsPutFault t (Full file live) = (file ≡ format.groups_file) × IsFullFile t file live
IsPutFault t fault = IsFailure fault

-- Where the fault is that the file of groups is full, it had room for fewer groups than this.
abbrev pub HadFewGroups : State → ℕ → ChangeFault → Type 0
HadFewGroups s needed fault = (live : ℕ) → fault ≡ Full format.groups_file live
    → room_of s.shape format.groups_file < (meta_of s format.groups_file).live + needed
