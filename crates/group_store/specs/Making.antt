-- A group that is made, first on the chain of its node.
use Rattle.std.specs.Prelude.{◌≡◌, ◌≢◌, ◌⊎◌, ℕ, ◌+◌, ◌≤◌, true, List, [], ◌∷◌}
use Rattle.id_freelist.specs.FreeLists.{IsFreeList}
use Rattle.id_freelist.specs.Taking as taking
use Rattle.id_freelist.specs.Taking.{CanTake, IsTakeDamage, first_of, mark_after, rest_of}
use Rattle.id_freelist.specs.Taking.{taken_id}
use Rattle.node_store.specs.Loading.{IsNodeDamage}
use Rattle.node_store.specs.NodeRecord.{node_key}
use Rattle.rec_bytes.specs.declared.damage.Damage.{Damage}
use Rattle.rec_bytes.specs.declared.key.Key.{Key}
use Rattle.rec_bytes.specs.declared.record.Rec.{Rec}
use Rattle.rec_bytes.specs.Format as format
use Rattle.rec_bytes.specs.Record.{field, zeros}
use Rattle.rec_bytes.specs.RecordFiles.{meta_key_of}
use Rattle.rec_bytes.specs.Space.{State, after_get, after_put, after_set, meta_in, meta_of}
use Rattle.rec_bytes.specs.Tables.{Fields, with_fields}
use Rattle.store_rules.specs.Rules as rules
use Rattle.store_rules.specs.Views.{Records, first_link, high, rec_at}
use Rattle.group_store.specs.declared.group_row.GroupRow.{GroupRow}
use Rattle.group_store.specs.GroupChain.{IsDense, IsGroupChain, IsGroupOf, LacksType}
use Rattle.group_store.specs.GroupRecord.{group_key}
use Rattle.group_store.specs.Links.{IsLinkDamage, backed}
use Rattle.group_store.specs.OpenFault.{IsFullOfGroups}
use Rattle.group_store.specs.Sides.{group_head}
use Rattle.group_store.specs.declared.open_fault.OpenFault.{OpenFault}
use Rattle.group_store.specs.declared.open_fault.OpenFault.TheVariants.{Full, Memory, Disk}
use Rattle.group_store.specs.declared.open_fault.OpenFault.TheVariants.{Damaged}
use Rattle.group_store.specs.declared.side.Side.{Side}
use Rattle.group_store.specs.Walking.{chain_damage, group_row_at}

-- the numbers of an empty group's record, with the group after it, each with its place and width
abbrev pub empty_fields : ℕ → ℕ → ℕ → Fields
empty_fields node label next =
    (format.kind, 1, format.counted) ∷ (format.group_type, 4, label)
    ∷ (format.group_owner, 4, node) ∷ (format.group_previous, 4, format.nil)
    ∷ (format.group_next, 4, next) ∷ (format.group_first_out, 4, format.nil)
    ∷ (format.group_first_in, 4, format.nil) ∷ (format.group_first_loop, 4, format.nil)
    ∷ (format.group_out_count, 4, 0) ∷ (format.group_in_count, 4, 0)
    ∷ (format.group_loop_count, 4, 0) ∷ []

abbrev pub empty_group : ℕ → ℕ → ℕ → Rec
empty_group node label next = with_fields zeros (empty_fields node label next)

abbrev pub empty_row : ℕ → ℕ → GroupRow
empty_row id label = record {
  id = id;
  label = label;
  first_out = format.nil;
  first_in = format.nil;
  first_loop = format.nil;
  counted = true;
  out_count = 0;
  in_count = 0;
  loop_count = 0;
}

-- after a group was given its record and stands before the first one of the node
unfoldable pub led : State → ℕ → ℕ → ℕ → Rec → State
led s node first id rec =
    after_set (backed (after_put s (group_key id) rec) first id) (node_key node) 4
    format.node_first_link id

-- after a group was made
unfoldable pub made : State → ℕ → ℕ → State
made s node label =
    let first = first_link s.records node in
    led (taking.taken (after_get s) format.groups_file) node first
    (taken_id (meta_of s format.groups_file)) (empty_group node label first)

-- The list is the dense node's chain, and none on it has the type. The free list can give an
-- identifier.
pub record CanMake (s : State) (node label : ℕ) (free xs : List ℕ) : Type 0 where
  pub chain : IsGroupChain s.records node xs
  pub lacks : LacksType s.records label xs
  pub take : CanTake s format.groups_file free

-- The node's chain has the empty group in front, and each other node's chain is as it was. The
-- identifier was taken, and no record changed but the file's meta record, the node's, the group's
-- and that of the group that stood first, of which only the link to the group before it did.
pub record HasMade (old new : Records) (node label : ℕ) (row : GroupRow) (free xs : List ℕ)
    : Type 0 where
  pub is : row ≡ empty_row row.id label
  pub first_free : row.id ≡ first_of free (high old format.groups_file)
  pub here : group_row_at new row.id ≡ row
  pub chain : IsGroupChain new node (row.id ∷ xs)
  pub others : (m : ℕ) (ys : List ℕ) → m ≢ node → IsGroupChain old m ys → IsGroupChain new m ys
  pub list : IsFreeList new format.groups_file (rest_of free)
  pub mark : high new format.groups_file ≡ mark_after free (high old format.groups_file)
  pub live : (meta_in new format.groups_file).live ≡ (meta_in old format.groups_file).live + 1
  pub stays : (key : Key) → key ≢ meta_key_of format.groups_file → key ≢ node_key node
      → key ≢ group_key row.id → key ≢ group_key (first_link old node) → new key ≡ old key
  pub numbers : (g n at : ℕ) → at + n ≤ format.record_bytes → g ≢ row.id
      → (g ≡ first_link old node → (at + n ≤ format.group_previous) ⊎ (format.group_next ≤ at))
      → field n (rec_at new format.groups_file g) at ≡ field n (rec_at old format.groups_file g) at

-- each chain of the group is empty
abbrev pub HasNoRels : Records → ℕ → Type 0
HasNoRels records g =
    (side : Side) → rules.first_of records (group_head g side) ≡ format.nil

-- a group of the node with empty chains
pub record IsEmptyOf (records : Records) (node g : ℕ) : Type 0 where
  pub group : IsGroupOf records node g
  pub none : HasNoRels records g

-- A group of the node, which is as it was or has empty chains.
pub record IsOwnGroup (old new : Records) (node g : ℕ) : Type 0 where
  pub group : IsGroupOf new node g
  pub kept : (new (group_key g) ≡ old (group_key g)) ⊎ HasNoRels new g

-- the first link of a node leads nowhere
abbrev pub link_damage : ℕ → Damage
link_damage node = record { file = format.nodes_file; id = node; rule = 1 }

-- The record that is said to be damaged breaks the rule: the node's can't be read, isn't dense or
-- leads nowhere, or the file of groups can't give an identifier.
pub data IsMakeDamage (s : State) (node : ℕ) : Damage → Type 0 where
  BadNode : (damage : Damage) → IsNodeDamage s node damage → IsMakeDamage s node damage
  NotDense : ¬ IsDense s.records node → IsMakeDamage s node (chain_damage node)
  BadLink : (damage : Damage) → IsLinkDamage s (first_link s.records node) (link_damage node) damage
      → IsMakeDamage s node damage
  BadFree : (damage : Damage) → IsTakeDamage s format.groups_file damage
      → IsMakeDamage s node damage

-- why a group isn't made: the file of groups is full, or a record is damaged
abbrev pub IsMakeFault : State → ℕ → OpenFault → Type 0
IsMakeFault s node (Full live) = IsFullOfGroups s live
IsMakeFault s node Memory = Unit {0}
IsMakeFault s node Disk = Unit {0}
IsMakeFault s node (Damaged damage) = IsMakeDamage s node damage
