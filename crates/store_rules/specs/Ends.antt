-- Where the end of a relationship stands, and changes of groups that no graph shows.
use Rattle.std.specs.Prelude.{◌≡◌, ◌≢◌, ℕ, nat_eq, cond, List, [], ◌∷◌, Some}
use Rattle.rec_bytes.specs.declared.key.Key.{Key}
use Rattle.rec_bytes.specs.Format as format
use Rattle.rec_bytes.specs.RecordFiles.{meta_key_of}
use Rattle.rec_bytes.specs.Space.{State, meta_of}
use Rattle.store_rules.specs.Graph.{graph_of}
use Rattle.store_rules.specs.Rules.{Head, IsOn, Owns}
use Rattle.store_rules.specs.Views.{GroupRow, Records, RelRow, degree, group_at, kind_at, node_at}
use Rattle.store_rules.specs.Views.{rel_at}

-- the head is the node's, and a relationship of this row stands at it
pub record IsEndHead (records : Records) (h : Head) (n : ℕ) (row : RelRow) : Type 0 where
  pub owns : Owns (kind_at records format.nodes_file) (group_at records) h n
  pub on : IsOn (group_at records) h row

-- the group of a head, unless it is a node's own
abbrev pub group_of_head : Head → List ℕ
group_of_head h = cond (nat_eq h.key.file format.groups_file) (h.key.id ∷ []) []

-- Groups of a node were made, given back or filled, and nothing else: the graph stays, and so does
-- what other nodes own.
pub record Regroups (s t : State) (n : ℕ) : Type 0 where
  pub shape : t.shape ≡ s.shape
  pub graph : graph_of t.records ≡ graph_of s.records
  pub nodes : (x : ℕ) → node_at t.records x ≡ node_at s.records x
  pub rels : (x : ℕ) → rel_at t.records x ≡ rel_at s.records x
  pub degrees : (x : ℕ) → degree t.records x ≡ degree s.records x
  pub kinds : (m : ℕ) → m ≢ n
      → kind_at t.records format.nodes_file m ≡ kind_at s.records format.nodes_file m
  pub groups : (g : ℕ) (row : GroupRow) → group_at s.records g ≡ Some row → row.owner ≢ n
      → group_at t.records g ≡ Some row
  pub metas : (file : ℕ) → file ≢ format.groups_file → meta_of t file ≡ meta_of s file
  pub others : (key : Key) → key.file ≢ format.nodes_file → key.file ≢ format.relationships_file
      → key.file ≢ format.groups_file → key ≢ meta_key_of format.groups_file
      → t.records key ≡ s.records key
