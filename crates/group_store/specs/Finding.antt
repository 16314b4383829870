-- What a search for a node's group of a type finds.
use Rattle.std.specs.Prelude.{◌≡◌, ◌≢◌, ◌⊎◌, ℕ, List, Option, None, Some}
use Rattle.rec_bytes.specs.Format.{nil}
use Rattle.rec_bytes.specs.Space.{State}
use Rattle.node_store.specs.Loading.{IsNodeDamage}
use Rattle.store_rules.specs.Breaking.{IsOnChain}
use Rattle.store_rules.specs.Chains.{In}
use Rattle.store_rules.specs.Views.{Records, first_link}
use Rattle.rec_bytes.specs.declared.fault.Fault.{Fault}
use Rattle.rec_bytes.specs.declared.fault.Fault.TheVariants.{Memory, Disk, Damaged}
use Rattle.group_store.specs.declared.group_row.GroupRow.{GroupRow}
use Rattle.group_store.specs.GroupChain.{IsDense, IsGroupList, IsGroupOf, LacksType, next_group}
use Rattle.group_store.specs.Walking.{IsWalkDamage, group_row_at}

-- The row is that of a group of the node, which has the type. It is on the group chain, where that
-- begins at the first one.
pub record IsGroupFound (records : Records) (node first label : ℕ) (row : GroupRow) : Type 0 where
  pub is : row ≡ group_row_at records row.id
  pub member : IsGroupOf records node row.id
  pub typed : row.label ≡ label
  pub on : first ≡ first_link records node → IsDense records node → IsOnChain records node row.id

-- each list that has the first one, and with a group the next one, has this one
abbrev pub IsReached : Records → ℕ → ℕ → Type 0
IsReached records first x = (groups : List ℕ) → In first groups
    → ((g : ℕ) → In g groups → g ≢ nil → In (next_group records g) groups) → In x groups

-- a group of the type, or none where no group from the first on has it
abbrev pub IsSought : Records → ℕ → ℕ → ℕ → Option GroupRow → Type 0
IsSought records node first label None =
    (xs : List ℕ) × IsGroupList records node first xs × LacksType records label xs
IsSought records node first label (Some row) = IsGroupFound records node first label row

-- a group of the type at a dense node, or none where no group on its chain has it
abbrev pub IsFound : Records → ℕ → ℕ → Option GroupRow → Type 0
IsFound records node label None =
    IsDense records node → IsSought records node (first_link records node) label None
IsFound records node label (Some row) =
    IsDense records node × IsGroupFound records node (first_link records node) label row

abbrev pub IsFindFault : State → ℕ → Fault → Type 0
IsFindFault s node Memory = Unit {0}
IsFindFault s node Disk = Unit {0}
IsFindFault s node (Damaged damage) =
    IsNodeDamage s node damage ⊎ IsWalkDamage s node (first_link s.records node) damage
