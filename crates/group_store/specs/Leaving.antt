-- What a change of a node's groups leaves of all other records.
use Rattle.std.specs.Prelude.{◌≡◌, ◌≢◌, ◌⊎◌, ℕ, ◌+◌, ◌<◌, ◌≤◌, false, List, Some}
use Rattle.rec_bytes.specs.declared.key.Key.{Key}
use Rattle.rec_bytes.specs.declared.record.Rec.{Rec}
use Rattle.rec_bytes.specs.Format as format
use Rattle.rec_bytes.specs.Record.{field}
use Rattle.rec_bytes.specs.RecordFiles.{meta_key_of}
use Rattle.rec_bytes.specs.Space.{State}
use Rattle.store_rules.specs.Breaking.{IsHeadOf}
use Rattle.store_rules.specs.Chains.{In, place_of}
use Rattle.store_rules.specs.Rules.{Head, first_of}
use Rattle.store_rules.specs.Views.{GroupRow, Records, group_at, high, is_group_kind, is_live}
use Rattle.store_rules.specs.Views.{kind_at, rec_at}
use Rattle.node_store.specs.NodeRecord.{node_key}
use Rattle.group_store.specs.GroupChain.{is_group_of}
use Rattle.group_store.specs.GroupRecord.{group_key}

-- the record names the node as its source or its target
abbrev pub IsEndIn : Rec → ℕ → Type 0
IsEndIn r node =
    (field 4 r format.relationship_source ≡ node) ⊎ (field 4 r format.relationship_target ≡ node)

-- If the relationship is at the node, the n bytes from a place on stand apart from the two links
-- that a chain of the node uses.
abbrev pub IsBesideLinks : Rec → ℕ → ℕ → ℕ → Type 0
IsBesideLinks r node n at =
    IsEndIn r node → (at + n ≤ place_of r node) ⊎ (place_of r node + 8 ≤ at)

-- Of the node only its kind and its first link may have changed, of its relationships only the
-- links in its chains, and of groups only its own. Besides, the meta record of the groups may have.
pub record LeavesOthers (s t : State) (node : ℕ) : Type 0 where
  pub files : (key : Key) → key.file ≢ format.nodes_file → key.file ≢ format.relationships_file
      → key.file ≢ format.groups_file → key ≢ meta_key_of format.groups_file
      → t.records key ≡ s.records key
  pub nodes : (x n at : ℕ) → at + n ≤ format.record_bytes → x ≢ node
      → field n (rec_at t.records format.nodes_file x) at
      ≡ field n (rec_at s.records format.nodes_file x) at
  pub here : (n at : ℕ) → at + n ≤ format.record_bytes → 1 ≤ at
      → (at + n ≤ format.node_first_link) ⊎ (format.node_first_property ≤ at)
      → field n (rec_at t.records format.nodes_file node) at
      ≡ field n (rec_at s.records format.nodes_file node) at
  pub rels : (x n at : ℕ) → x ≢ format.nil → at + n ≤ format.record_bytes
      → IsBesideLinks (rec_at s.records format.relationships_file x) node n at
      → field n (rec_at t.records format.relationships_file x) at
      ≡ field n (rec_at s.records format.relationships_file x) at
  pub groups : (g : ℕ) (group : GroupRow) → group_at s.records g ≡ Some group
      → group.owner ≢ node → (n at : ℕ) → at + n ≤ format.record_bytes
      → field n (rec_at t.records format.groups_file g) at
      ≡ field n (rec_at s.records format.groups_file g) at

-- Whatever the records are: of the node only its kind and its first link are other, and of
-- relationships only links. Besides, groups that are the node's then may be, and the meta record of
-- the groups.
pub record LeavesBeside (s t : Records) (node : ℕ) : Type 0 where
  pub others : (key : Key) → key.file ≢ format.relationships_file
      → key.file ≢ format.groups_file → key ≢ meta_key_of format.groups_file
      → key ≢ node_key node → t key ≡ s key
  pub here : (n at : ℕ) → at + n ≤ format.record_bytes → 1 ≤ at
      → (at + n ≤ format.node_first_link) ⊎ (format.node_first_property ≤ at)
      → field n (rec_at t format.nodes_file node) at
      ≡ field n (rec_at s format.nodes_file node) at
  pub rels : (x n at : ℕ) → at + n ≤ format.record_bytes
      → (at + n ≤ format.relationship_source_previous)
      ⊎ (format.relationship_first_property ≤ at)
      → field n (rec_at t format.relationships_file x) at
      ≡ field n (rec_at s format.relationships_file x) at
  pub groups : (g : ℕ) → is_group_of (t (group_key g)) node ≡ false
      → t (group_key g) ≡ s (group_key g)

-- Whatever the records are: of relationships only these are other, and of them only the two links
-- that a chain of the node uses. Of groups only those are.
pub record LeavesApart (s t : Records) (node : ℕ) (rels groups : List ℕ) : Type 0 where
  pub others : (x n at : ℕ) → x ≢ format.nil → ¬ In x rels → at + n ≤ format.record_bytes
      → field n (rec_at t format.relationships_file x) at
      ≡ field n (rec_at s format.relationships_file x) at
  pub links : (x n at : ℕ) → at + n ≤ format.record_bytes
      → (at + n ≤ place_of (rec_at s format.relationships_file x) node)
      ⊎ (place_of (rec_at s format.relationships_file x) node + 8 ≤ at)
      → field n (rec_at t format.relationships_file x) at
      ≡ field n (rec_at s format.relationships_file x) at
  pub groups_stay : (g n at : ℕ) → g ≢ format.nil → ¬ In g groups → at + n ≤ format.record_bytes
      → field n (rec_at t format.groups_file g) at ≡ field n (rec_at s format.groups_file g) at

-- Whatever the records are: of a group only its kind and its numbers are other. Each is in use, and
-- of a kind that groups have, as it was. No record of another file is other.
pub record LeavesCounted (s t : Records) : Type 0 where
  pub others : (key : Key) → key.file ≢ format.groups_file → t key ≡ s key
  pub groups : (g n at : ℕ) → 1 ≤ at → at + n ≤ format.group_out_count
      → field n (rec_at t format.groups_file g) at ≡ field n (rec_at s format.groups_file g) at
  pub used : (g : ℕ) → is_group_kind (kind_at t format.groups_file g)
      ≡ is_group_kind (kind_at s format.groups_file g)
  pub live : (g : ℕ) → is_live t format.groups_file g ≡ is_live s format.groups_file g

-- the link is none, or it leads to a relationship that was given out
abbrev pub IsLowLink : Records → ℕ → Type 0
IsLowLink records x = (x ≡ format.nil) ⊎ (x < high records format.relationships_file)

-- The record of the head is as it was, or its chain begins at a relationship that was given out, or
-- is empty.
abbrev pub KeepsOrLeads : Records → Records → Head → Type 0
KeepsOrLeads s t head = (t head.key ≡ s head.key) ⊎ IsLowLink t (first_of t head)

-- Each node has the heads that it had.
abbrev pub KeepsHeads : State → State → Type 0
KeepsHeads s t = (h : Head) (n : ℕ) → IsHeadOf s.records h n → IsHeadOf t.records h n

-- So has each node but this one.
abbrev pub KeepsOtherHeads : State → State → ℕ → Type 0
KeepsOtherHeads s t node =
    (h : Head) (n : ℕ) → n ≢ node → IsHeadOf s.records h n → IsHeadOf t.records h n
