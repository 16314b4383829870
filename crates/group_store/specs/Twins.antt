-- Groups of a node that have one type, of which a chain of groups has no two.
use Rattle.std.specs.Prelude.{◌≡◌, ◌≢◌, ◌⊎◌, ℕ, ◌&&◌, nat_eq, not, Bool, true, false, List}
use Rattle.node_store.specs.Loading.{IsNodeDamage}
use Rattle.rec_bytes.specs.declared.damage.Damage.{Damage}
use Rattle.rec_bytes.specs.declared.fault.Fault.{Fault}
use Rattle.rec_bytes.specs.declared.fault.Fault.TheVariants.{Memory, Disk, Damaged}
use Rattle.rec_bytes.specs.declared.record.Rec.{Rec}
use Rattle.rec_bytes.specs.Format as format
use Rattle.rec_bytes.specs.Record.{field}
use Rattle.rec_bytes.specs.Space.{State}
use Rattle.chain_edit.specs.Unlinking.{IsUnlinkFault}
use Rattle.store_rules.specs.Breaking.{IsOnChain}
use Rattle.store_rules.specs.Chains.{In}
use Rattle.store_rules.specs.Rules.{Head}
use Rattle.store_rules.specs.Views.{Records, first_link}
use Rattle.group_store.specs.GroupChain.{IsDense, IsGroupList, type_of}
use Rattle.group_store.specs.Walking.{IsWalkDamage, chain_damage}

-- the record is of another group than this one, and has the type
abbrev pub is_twin : Rec → ℕ → ℕ → ℕ → Bool
is_twin rec at group label =
    nat_eq (field 4 rec format.group_type) label && not (nat_eq at group)

-- Another group on the chain of the node, where that begins at the first one, has the type.
pub record MeetsTwin (records : Records) (node first group label : ℕ) : Type 0 where
  pub twin : ℕ
  pub other : twin ≢ group
  pub typed : type_of records twin ≡ label
  pub on : first ≡ first_link records node → IsDense records node
      → IsOnChain records node twin

-- The links from the first one on lead through these, and no other of them has the type.
pub record MeetsNoTwin (records : Records) (node first group label : ℕ) : Type 0 where
  pub members : List ℕ
  pub list : IsGroupList records node first members
  pub lone : (g : ℕ) → In g members → type_of records g ≡ label → g ≡ group

abbrev pub IsMet : Records → ℕ → ℕ → ℕ → ℕ → Bool → Type 0
IsMet records node first group label true = MeetsTwin records node first group label
IsMet records node first group label false = MeetsNoTwin records node first group label

-- another group on the group chain of the dense node has the type of this one
pub record HasTwin (records : Records) (node group : ℕ) : Type 0 where
  pub twin : ℕ
  pub other : twin ≢ group
  pub typed : type_of records twin ≡ type_of records group
  pub on : IsOnChain records node twin

-- none has
abbrev pub IsLone : Records → ℕ → ℕ → Type 0
IsLone records node group = (g : ℕ) → IsOnChain records node g
    → type_of records g ≡ type_of records group → g ≡ group

abbrev pub HasTwinIf : Records → ℕ → ℕ → Bool → Type 0
HasTwinIf records node group true = HasTwin records node group
HasTwinIf records node group false = IsLone records node group

-- The node can't be read, or its links don't lead through its groups.
abbrev pub IsGroupsDamage : State → ℕ → Damage → Type 0
IsGroupsDamage s node damage = IsNodeDamage s node damage
    ⊎ (IsDense s.records node × IsWalkDamage s node (first_link s.records node) damage)

abbrev pub IsGroupsFault : State → ℕ → Fault → Type 0
IsGroupsFault s node Memory = Unit {0}
IsGroupsFault s node Disk = Unit {0}
IsGroupsFault s node (Damaged damage) = IsGroupsDamage s node damage

-- a group that has the head is the only one of its type on the chain of the node
abbrev pub IsLoneAt : Records → Head → ℕ → Type 0
IsLoneAt records head node =
    head.key.file ≡ format.groups_file → IsLone records node head.key.id

-- What is said to be damaged at a head in a group breaks its rule whatever else does: the node
-- can't be read, or its links don't lead through its groups, or another group on its chain has the
-- type of the head's.
pub record IsTwinDamage (s : State) (head : Head) (node : ℕ) (damage : Damage) : Type 0 where
  pub group : head.key.file ≡ format.groups_file
  pub broken : IsGroupsDamage s node damage
      ⊎ ((damage ≡ chain_damage node) × HasTwin s.records node head.key.id)

-- What is named where a record is said to be damaged at a head: that record, if the head's group
-- is the only one of its type, and otherwise the node.
abbrev pub IsNamed : State → Head → ℕ → Damage → Damage → Type 0
IsNamed s head node damage named =
    ((named ≡ damage) × IsLoneAt s.records head node) ⊎ IsTwinDamage s head node named

abbrev pub IsTwinFault : State → Head → ℕ → Fault → Type 0
IsTwinFault s head node Memory = Unit {0}
IsTwinFault s head node Disk = Unit {0}
IsTwinFault s head node (Damaged damage) = IsTwinDamage s head node damage

-- Why a relationship isn't taken out of a chain, which names the record that is damaged.
abbrev pub IsPartFault : State → Head → ℕ → ℕ → Fault → Type 0
IsPartFault s head node rel Memory = Unit {0}
IsPartFault s head node rel Disk = Unit {0}
IsPartFault s head node rel (Damaged damage) =
    (IsUnlinkFault s head node rel (Damaged damage) × IsLoneAt s.records head node)
    ⊎ IsTwinDamage s head node damage
