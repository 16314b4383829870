-- What a walk of a node's groups finds.
use Rattle.std.specs.Prelude.{◌≡◌, ℕ, ◌<◌, ◌≤◌, ◌||◌, nat_eq, if◌then◌else◌, List, map}
use Rattle.rec_bytes.specs.declared.damage.Damage.{Damage}
use Rattle.rec_bytes.specs.declared.record.Rec.{Rec}
use Rattle.rec_bytes.specs.Format as format
use Rattle.rec_bytes.specs.Format.{groups_file, nodes_file}
use Rattle.rec_bytes.specs.Record.{field}
use Rattle.rec_bytes.specs.Space.{State}
use Rattle.store_rules.specs.Breaking.{IsOwnedBy}
use Rattle.store_rules.specs.Views.{Records, rec_at}
use Rattle.rec_bytes.specs.declared.fault.Fault.{Fault}
use Rattle.rec_bytes.specs.declared.fault.Fault.TheVariants.{Memory, Disk, Damaged}
use Rattle.group_store.specs.declared.group_row.GroupRow.{GroupRow}
use Rattle.group_store.specs.GroupChain.{IsGroupList, IsOwnedList}
use Rattle.group_store.specs.GroupRecord.{range_damage, row_of}
use Rattle.group_store.specs.Loading.{HasNoKind, group_mark, group_room, mark_damage}

-- the row of a group's record
abbrev pub group_row_at : Records → ℕ → GroupRow
group_row_at records g = row_of (rec_at records groups_file g) g

-- the rows are those of the node's groups from the first on, in this order
pub record HasGroupRows (records : Records) (node first : ℕ) (rows : List GroupRow) : Type 0 where
  pub members : List ℕ
  pub list : IsGroupList records node first members
  pub are : rows ≡ map (group_row_at records) members

-- the groups of the node break the fourth rule
abbrev pub chain_damage : ℕ → Damage
chain_damage node = record { file = nodes_file; id = node; rule = 4 }

-- the damage of a record that is no group of the node: its own, if it is of no kind
abbrev pub member_damage : Rec → ℕ → ℕ → Damage
member_damage rec node id =
    if (nat_eq (field 1 rec format.kind) format.free_kind
    || nat_eq (field 1 rec format.kind) format.grouped)
    || nat_eq (field 1 rec format.kind) format.counted
    then chain_damage node else range_damage id

-- The record that is said to be damaged breaks the rule: the node owns no record in use of the
-- identifier, or the record is of no kind, or the meta record counts more groups than there is room
-- for.
pub data IsMemberDamage (s : State) (node id : ℕ) : Damage → Type 0 where
  NoMember : ¬ IsOwnedBy s.records node id → IsMemberDamage s node id (chain_damage node)
  UnknownMember : id < group_mark s → HasNoKind s.records id
      → IsMemberDamage s node id (range_damage id)
  HighMember : group_room s < group_mark s → IsMemberDamage s node id mark_damage

abbrev pub IsMemberFault : State → ℕ → ℕ → Fault → Type 0
IsMemberFault s node id Memory = Unit {0}
IsMemberFault s node id Disk = Unit {0}
IsMemberFault s node id (Damaged damage) = IsMemberDamage s node id damage

-- The record that is said to be damaged breaks the rule: the links from the first on don't lead
-- through records of the node to an end, or one that they lead to is of no kind, or the meta record
-- counts more than there is room for.
pub data IsWalkDamage (s : State) (node first : ℕ) : Damage → Type 0 where
  NoList : ((xs : List ℕ) → ¬ IsOwnedList s.records node first xs)
      → IsWalkDamage s node first (chain_damage node)
  UnknownGroup : (g : ℕ) → ((xs : List ℕ) → ¬ IsGroupList s.records node first xs)
      → g < group_mark s → HasNoKind s.records g → IsWalkDamage s node first (range_damage g)
  HighMark : group_room s < group_mark s → IsWalkDamage s node first mark_damage

abbrev pub IsWalkFault : State → ℕ → ℕ → Fault → Type 0
IsWalkFault s node first Memory = Unit {0}
IsWalkFault s node first Disk = Unit {0}
IsWalkFault s node first (Damaged damage) = IsWalkDamage s node first damage

-- the links lead through these groups of the node, and there is room for as many as were given out
pub record IsWalkable (s : State) (node first : ℕ) (xs : List ℕ) : Type 0 where
  pub mark : group_mark s ≤ group_room s
  pub list : IsGroupList s.records node first xs
