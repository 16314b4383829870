-- An empty group that is taken out of the chain of its node, and given back.
use Rattle.std.specs.Prelude.{◌≡◌, ◌≢◌, ℕ, ◌-◌, ◌<◌, ◌≤◌, nat_eq, if◌then◌else◌, List, ◌∷◌}
use Rattle.id_freelist.specs.FreeLists.{IsFreeList}
use Rattle.id_freelist.specs.Giving.{given}
use Rattle.node_store.specs.NodeRecord.{node_key}
use Rattle.rec_bytes.specs.declared.damage.Damage.{Damage}
use Rattle.rec_bytes.specs.declared.key.Key.{Key}
use Rattle.rec_bytes.specs.declared.record.Rec.{Rec}
use Rattle.rec_bytes.specs.Format as format
use Rattle.rec_bytes.specs.Record.{with_field}
use Rattle.rec_bytes.specs.RecordFiles.{meta_key_of}
use Rattle.rec_bytes.specs.Space.{State, after_get, after_put, after_set, meta_in}
use Rattle.store_rules.specs.Chains.{In, IsChain, without}
use Rattle.store_rules.specs.Views.{Records, first_link, high, kind_at}
use Rattle.rec_bytes.specs.declared.fault.Fault.{Fault}
use Rattle.rec_bytes.specs.declared.fault.Fault.TheVariants.{Memory, Disk, Damaged}
use Rattle.group_store.specs.GroupChain.{IsGroupChain, next_group, previous_group}
use Rattle.group_store.specs.GroupRecord.{group_key, range_damage}
use Rattle.group_store.specs.Links.{IsLinkDamage, backed, link_set}
use Rattle.group_store.specs.Loading.{group_mark, group_room}
use Rattle.group_store.specs.Walking.{IsMemberDamage}

-- what led to a group leads to the one after it
unfoldable pub follows : State → ℕ → ℕ → ℕ → State
follows s node before after =
    if nat_eq before format.nil then after_set s (node_key node) 4 format.node_first_link after
    else link_set s before format.group_next after

-- the key of what leads to a group: of the one before it, or of the node where there is none
abbrev pub lead_key : ℕ → ℕ → Key
lead_key node before = if nat_eq before format.nil then node_key node else group_key before

-- its neighbours, or the node and the one after it, lead to each other, and it is given back
unfoldable pub dropped : State → ℕ → ℕ → State
dropped s node g =
    let before = previous_group s.records g in
    let after = next_group s.records g in
    given (follows (backed (after_get s) after before) node before after) format.groups_file g

-- The list is the node's chain, and the group is on it. The free list has identifiers that aren't
-- in use.
pub record CanDrop (s : State) (node g : ℕ) (free xs : List ℕ) : Type 0 where
  pub chain : IsGroupChain s.records node xs
  pub member : In g xs
  pub list : IsFreeList s.records format.groups_file free
  pub unused : (x : ℕ) → In x free → kind_at s.records format.groups_file x ≡ format.free_kind

-- The list is the node's chain, and the group is on it. There is room for as many groups as were
-- given out.
pub record IsOnChain (s : State) (node g : ℕ) (xs : List ℕ) : Type 0 where
  pub chain : IsGroupChain s.records node xs
  pub member : In g xs
  pub mark : group_mark s ≤ group_room s

-- The node's chain lacks the group, which stands first on the free list, and each other node's
-- chain is as it was. No record changed but the file's meta record, the node's, the group's and
-- those of its neighbours.
pub record HasDropped (old new : Records) (node g : ℕ) (free xs : List ℕ) : Type 0 where
  pub chain : IsGroupChain new node (without g xs)
  pub others : (m : ℕ) (ys : List ℕ) → m ≢ node → IsGroupChain old m ys → IsGroupChain new m ys
  pub gone : kind_at new format.groups_file g ≡ format.free_kind
  pub list : IsFreeList new format.groups_file (g ∷ free)
  pub mark : high new format.groups_file ≡ high old format.groups_file
  pub live : (meta_in new format.groups_file).live ≡ (meta_in old format.groups_file).live - 1
  pub stays : (key : Key) → key ≢ meta_key_of format.groups_file → key ≢ node_key node
      → key ≢ group_key g → key ≢ group_key (previous_group old g)
      → key ≢ group_key (next_group old g) → new key ≡ old key

-- ---- what is beside a group leads to it

-- the links of groups lead both ways from the node through just these
abbrev pub IsLinkChain : Records → ℕ → List ℕ → Type 0
IsLinkChain records node xs =
    IsChain (next_group records) (previous_group records) format.nil (first_link records node) xs

-- what leads to the place after a group: the group's next link, or the node where there is none
abbrev pub leads_to : Records → ℕ → ℕ → ℕ
leads_to records node before =
    if nat_eq before format.nil then first_link records node else next_group records before

-- the group after one leads back to it, and is another than it and than the one before it
pub record IsBehind (records : Records) (g before after : ℕ) : Type 0 where
  pub back : previous_group records after ≡ g
  pub other : after ≢ g
  pub apart : after ≢ before

-- What the group says is before it leads to it, and what it says is after it leads back.
pub record IsLinkedIn (records : Records) (node g : ℕ) : Type 0 where
  pub led : leads_to records node (previous_group records g) ≡ g
  pub behind : next_group records g ≢ format.nil
      → IsBehind records g (previous_group records g) (next_group records g)

-- each of the group's links is none, or leads below the mark
pub record HasLowLinks (s : State) (g : ℕ) : Type 0 where
  pub before : previous_group s.records g ≢ format.nil → previous_group s.records g < group_mark s
  pub after : next_group s.records g ≢ format.nil → next_group s.records g < group_mark s

-- the group breaks the fourth rule
abbrev pub astray_damage : ℕ → Damage
astray_damage g = record { file = format.groups_file; id = g; rule = 4 }

-- The record that is said to be damaged breaks the rule: the node owns no such group, a link of the
-- group leads nowhere, or the group is in no right chain of the node.
pub data IsDropDamage (s : State) (node g : ℕ) : Damage → Type 0 where
  BadMember : (damage : Damage) → IsMemberDamage s node g damage → IsDropDamage s node g damage
  BadPrevious : (damage : Damage)
      → IsLinkDamage s (previous_group s.records g) (range_damage g) damage
      → IsDropDamage s node g damage
  BadNext : (damage : Damage) → IsLinkDamage s (next_group s.records g) (range_damage g) damage
      → IsDropDamage s node g damage
  Astray : ((xs : List ℕ) → IsLinkChain s.records node xs → ¬ In g xs)
      → IsDropDamage s node g (astray_damage g)

abbrev pub IsDropFault : State → ℕ → ℕ → Fault → Type 0
IsDropFault s node g Memory = Unit {0}
IsDropFault s node g Disk = Unit {0}
IsDropFault s node g (Damaged damage) = IsDropDamage s node g damage

-- ---- the steps

-- after a record was read, unless there is none
unfoldable pub seen : State → ℕ → State
seen s x = if nat_eq x format.nil then s else after_get s

-- after a group whose record is at hand got one before it, unless it is none
unfoldable pub put_back : State → ℕ → ℕ → Rec → State
put_back s x to r =
    if nat_eq x format.nil then s
    else after_put s (group_key x) (with_field 4 r format.group_previous to)

-- after what led to a group, whose record is at hand, leads to the one after it
unfoldable pub put_led : State → ℕ → ℕ → ℕ → Rec → State
put_led s node before after r =
    if nat_eq before format.nil
    then after_put s (node_key node) (with_field 4 r format.node_first_link after)
    else after_put s (group_key before) (with_field 4 r format.group_next after)

-- the fault is none of the disk's or of memory's only where this is so
abbrev pub IsAstrayFault : Type 0 → ℕ → Fault → Type 0
IsAstrayFault P g Memory = Unit {0}
IsAstrayFault P g Disk = Unit {0}
IsAstrayFault P g (Damaged damage) = (damage ≡ astray_damage g) × P
