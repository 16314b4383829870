-- A head that lost a relationship.
use Rattle.std.specs.Prelude.{◌≡◌, ◌≢◌, ◌⊎◌, ℕ, ◌<◌, List, ◌++◌, Some}
use Rattle.rec_bytes.specs.declared.key.Key.{Key}
use Rattle.rec_bytes.specs.Format as format
use Rattle.rec_bytes.specs.Record.{field}
use Rattle.rec_bytes.specs.RecordFiles.{meta_key_of}
use Rattle.rec_bytes.specs.Space.{State}
use Rattle.store_rules.specs.Breaking.{IsOwnedBy}
use Rattle.store_rules.specs.Chains.{In}
use Rattle.store_rules.specs.Ends.{Regroups, group_of_head}
use Rattle.store_rules.specs.Rules.{Head, KeepsRules, Owns}
use Rattle.store_rules.specs.Views.{GroupRow, Records, group_at, kind_at, rec_at}
use Rattle.group_store.specs.Dropping.{IsLinkChain}
use Rattle.group_store.specs.GroupChain.{next_group, previous_group}
use Rattle.group_store.specs.Loading.{group_mark}

-- The head is the node's, and its group may be empty.
pub record CanClose (s : State) (head : Head) (node most : ℕ) (empty : List ℕ) : Type 0 where
  pub keeps : KeepsRules s.records s.shape most (group_of_head head ++ empty)
  pub owns : Owns (kind_at s.records format.nodes_file) (group_at s.records) head node

-- If its group was empty, it is gone. The node stays dense, also without groups.
pub record HasClosed (s t : State) (node most : ℕ) (empty : List ℕ) : Type 0 where
  pub keeps : KeepsRules t.records t.shape most empty
  pub regroups : Regroups s t node
  pub group_kinds : (g : ℕ) (group : GroupRow) → group_at s.records g ≡ Some group
      → group.owner ≢ node
      → kind_at t.records format.groups_file g ≡ kind_at s.records format.groups_file g
  pub kind : kind_at t.records format.nodes_file node ≡ kind_at s.records format.nodes_file node

-- ---- what is left, whatever the records are

-- No record is other but those of nodes and groups, and the meta record of the groups.
abbrev pub KeepsBesideGroups : State → State → Type 0
KeepsBesideGroups s t =
    (key : Key) → key.file ≢ format.nodes_file → key.file ≢ format.groups_file
    → key ≢ meta_key_of format.groups_file → t.records key ≡ s.records key

-- ---- what is left of another node's groups

-- The links of groups lead both ways from the node through just these, and each is its own.
pub record IsOwnChain (records : Records) (node : ℕ) (xs : List ℕ) : Type 0 where
  pub chain : IsLinkChain records node xs
  pub only : (g : ℕ) → In g xs → IsOwnedBy records node g

-- the link is as it was, or it is none, or it leads below the mark
abbrev pub IsSameOrLow : State → ℕ → ℕ → Type 0
IsSameOrLow t link was = (link ≡ was) ⊎ ((link ≡ format.nil) ⊎ (link < group_mark t))

-- A group of the node may have been dropped. The links lead from another node through its own
-- groups as they did. The records of these are of the kinds that they were, and no link of one
-- leads nowhere now that led somewhere.
pub record KeepsOtherChains (s t : State) (node : ℕ) : Type 0 where
  pub shape : t.shape ≡ s.shape
  pub mark : group_mark t ≡ group_mark s
  pub chains : (n : ℕ) (xs : List ℕ) → n ≢ node → IsOwnChain s.records n xs
      → IsLinkChain t.records n xs
  pub kinds : (n g : ℕ) → n ≢ node → IsOwnedBy s.records n g
      → field 1 (rec_at t.records format.groups_file g) format.kind
      ≡ field 1 (rec_at s.records format.groups_file g) format.kind
  pub before : (n g : ℕ) → n ≢ node → IsOwnedBy s.records n g
      → IsSameOrLow t (previous_group t.records g) (previous_group s.records g)
  pub after : (n g : ℕ) → n ≢ node → IsOwnedBy s.records n g
      → IsSameOrLow t (next_group t.records g) (next_group s.records g)
