-- The head of an end's chain, which is found or made.
use Rattle.std.specs.Prelude.{◌≡◌, ◌≢◌, ◌⊎◌, ℕ, ◌+◌, ◌*◌, ◌<◌, ◌≤◌, nat_eq, if◌then◌else◌, length}
use Rattle.std.specs.Prelude.{List, ◌∷◌, ◌++◌, Some}
use Rattle.node_store.specs.Loading.{IsNodeDamage}
use Rattle.node_store.specs.NodeRecord.{node_key}
use Rattle.rec_bytes.specs.declared.damage.Damage.{Damage}
use Rattle.rec_bytes.specs.declared.fault.Fault.{Fault}
use Rattle.rec_bytes.specs.declared.fault.Fault.TheVariants as faults
use Rattle.rec_bytes.specs.declared.key.Key.{Key}
use Rattle.rec_bytes.specs.Format as format
use Rattle.rec_bytes.specs.RecordFiles.{room_of}
use Rattle.rec_bytes.specs.Space.{State, WritesOnly, meta_of}
use Rattle.store_rules.specs.Breaking.{Breaks, IsChainHead}
use Rattle.store_rules.specs.Ends.{IsEndHead, Regroups, group_of_head}
use Rattle.store_rules.specs.Rules.{Head, IsEnd, IsOn, KeepsRules}
use Rattle.store_rules.specs.Views.{GroupRow, Records, RelRow, degree, first_link, group_at}
use Rattle.store_rules.specs.Views.{high, kind_at, rel_at}
use Rattle.store_rules.specs.Writes.{AreOwn, meta_keys}
use Rattle.group_store.specs.GroupChain.{IsDense, IsGroupList, LacksType}
use Rattle.group_store.specs.Leaving.{LeavesOthers}
use Rattle.group_store.specs.OpenFault.{IsFullOfGroups}
use Rattle.group_store.specs.Raising.{IsCountDamage}
use Rattle.group_store.specs.Sides.{side_at}
use Rattle.group_store.specs.Walking.{IsWalkDamage}
use Rattle.group_store.specs.declared.open_fault.OpenFault.{OpenFault}
use Rattle.group_store.specs.declared.open_fault.OpenFault.TheVariants.{Full, Memory, Disk}
use Rattle.group_store.specs.declared.open_fault.OpenFault.TheVariants.{Damaged}
use Rattle.group_store.specs.declared.side.Side.{Side}

-- The relationship is at the node, has this type, and is on this side.
pub record IsAt (node label : ℕ) (side : Side) (row : RelRow) : Type 0 where
  pub end : IsEnd node row
  pub typed : row.label ≡ label
  pub aside : side ≡ side_at node row.from row.to

-- The relationship stands at the head, where a chain of the node begins.
pub record IsPlaced (records : Records) (head : Head) (node : ℕ) (row : RelRow) : Type 0 where
  pub owns : IsChainHead records head node
  pub on : IsOn (group_at records) head row

-- So it is of a relationship in use, in a store that keeps the rules.
pub record IsEndOf (s : State) (node label : ℕ) (side : Side) (most : ℕ) (empty : List ℕ) (x : ℕ)
    (row : RelRow) : Type 0 where
  pub keeps : KeepsRules s.records s.shape most empty
  pub live : rel_at s.records x ≡ Some row
  pub at : IsAt node label side row

-- the file of groups has room for one besides those of each end, and those that are empty
abbrev pub HasGroupRoom : State → List ℕ → Type 0
HasGroupRoom s empty =
    2 * (meta_of s format.relationships_file).live + length empty
    < room_of s.shape format.groups_file

-- The node is dense, and a new relationship at it would have this row.
pub record CanOpenGroup (s : State) (node label : ℕ) (side : Side) (row : RelRow)
    (empty : List ℕ) : Type 0 where
  pub keeps : KeepsRules s.records s.shape s.shape.threshold empty
  pub dense : kind_at s.records format.nodes_file node ≡ format.dense
  pub named : label < high s.records format.names_file
  pub at : IsAt node label side row

-- The node is in use and has this degree, and a new relationship at it would have this row. A
-- sparse node may have so many relationships as the threshold.
pub record CanOpen (s : State) (node degree_is threshold label : ℕ) (side : Side) (row : RelRow)
    (empty : List ℕ) : Type 0 where
  pub limit : threshold ≡ s.shape.threshold
  pub keeps : KeepsRules s.records s.shape s.shape.threshold empty
  pub used : kind_at s.records format.nodes_file node ≢ format.free_kind
  pub counted : degree s.records node ≡ degree_is
  pub named : label < high s.records format.names_file
  pub at : IsAt node label side row

-- a group that has the head has counts
abbrev pub IsCountedHead : Records → Head → Type 0
IsCountedHead records head = head.key.file ≡ format.groups_file
    → kind_at records format.groups_file head.key.id ≡ format.counted

-- The relationship would stand at the head. Its group has counts and may be empty, and a node that
-- is sparse has room for one relationship more. No more than the node's links, those of its
-- relationships and its groups changed.
pub record OpensChain (s t : State) (head : Head) (node : ℕ) (row : RelRow) (empty : List ℕ)
    : Type 0 where
  pub keeps : KeepsRules t.records t.shape t.shape.threshold (group_of_head head ++ empty)
  pub stands : IsEndHead t.records head node row
  pub counted : IsCountedHead t.records head
  pub few : kind_at t.records format.nodes_file node ≡ format.sparse
      → degree t.records node < t.shape.threshold
  pub group_kinds : (g : ℕ) (group : GroupRow) → group_at s.records g ≡ Some group
      → group.owner ≢ node
      → kind_at t.records format.groups_file g ≡ kind_at s.records format.groups_file g
  pub regroups : Regroups s t node
  pub leaves : LeavesOthers s t node

-- The relationship stands at the head, whose group has counts. No node became dense.
pub record FindsChain (s t : State) (head : Head) (node : ℕ) (row : RelRow) (most : ℕ)
    (empty : List ℕ) : Type 0 where
  pub keeps : KeepsRules t.records t.shape most empty
  pub stands : IsEndHead t.records head node row
  pub counted : IsCountedHead t.records head
  pub kinds : (n : ℕ)
      → kind_at t.records format.nodes_file n ≡ kind_at s.records format.nodes_file n
  pub group_kinds : (g : ℕ) (group : GroupRow) → group_at s.records g ≡ Some group
      → group.owner ≢ node
      → kind_at t.records format.groups_file g ≡ kind_at s.records format.groups_file g
  pub regroups : Regroups s t node

-- the relationship is in none of the chains of an end
abbrev pub end_damage : ℕ → Damage
end_damage rel = record { file = format.relationships_file; id = rel; rule = 3 }

-- The dense node's links lead through these groups, none of which has the type.
pub record LacksGroupOn (records : Records) (node label : ℕ) : Type 0 where
  pub dense : IsDense records node
  pub members : List ℕ
  pub list : IsGroupList records node (first_link records node) members
  pub lacks : LacksType records label members

-- Which record a search for a head of the node says to be damaged: the node can't be read, or its
-- links don't lead through its groups, or a group of it can't be counted.
pub data IsSearchDamage (s : State) (node : ℕ) : Damage → Type 0 where
  BadNode : (damage : Damage) → IsNodeDamage s node damage → IsSearchDamage s node damage
  BadGroups : (damage : Damage) → IsDense s.records node
      → IsWalkDamage s node (first_link s.records node) damage → IsSearchDamage s node damage
  Uncounted : (damage : Damage) (g : ℕ) → IsCountDamage node g damage
      → IsSearchDamage s node damage

-- What a search for a head is refused for. The record that is said to be damaged breaks the rule,
-- or it is the relationship, and no group on the chain of the dense node has its type.
abbrev pub IsHeadFault : State → ℕ → ℕ → ℕ → Fault → Type 0
IsHeadFault s node rel label faults.Memory = Unit {0}
IsHeadFault s node rel label faults.Disk = Unit {0}
IsHeadFault s node rel label (faults.Damaged damage) =
    (Breaks s.records s.shape damage × IsSearchDamage s node damage)
    ⊎ ((damage ≡ end_damage rel) × LacksGroupOn s.records node label)

-- at most so many groups more are counted than before
abbrev pub GrowsAtMost : State → State → ℕ → Type 0
GrowsAtMost s t count =
    (meta_of t format.groups_file).live ≤ (meta_of s format.groups_file).live + count

-- Why no group is found or made: the file of groups is full, or the record that is said to be
-- damaged breaks the rule.
abbrev pub IsOpenFault : State → OpenFault → Type 0
IsOpenFault s (Full live) = IsFullOfGroups s live
IsOpenFault s Memory = Unit {0}
IsOpenFault s Disk = Unit {0}
IsOpenFault s (Damaged damage) = Breaks s.records s.shape damage

-- How many records of a node that becomes dense are written besides its own: its relationships' and
-- a group's for each at most, and one of each more, for what may stand first.
abbrev pub moved_writes : ℕ → ℕ → ℕ
moved_writes threshold degree_is =
    if nat_eq degree_is threshold then 2 * (threshold + 1) else 0

-- The record of the node, that of the head, and at most so many others became written, meta records
-- aside.
pub record WritesOpened (old new : State) (node : ℕ) (head : Key) (count : ℕ) : Type 0 where
  pub keys : List Key
  pub few : length keys ≤ count
  pub own : AreOwn keys
  pub only : WritesOnly old new (node_key node ∷ head ∷ keys ++ meta_keys)
