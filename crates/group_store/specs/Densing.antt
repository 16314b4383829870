-- A sparse node that becomes dense: its relationships come into groups.
use Rattle.std.specs.Prelude.{◌≡◌, ◌⊎◌, ℕ, ◌+◌, ◌*◌, ◌≤◌, None, List, length}
use Rattle.rec_bytes.specs.declared.damage.Damage.{Damage}
use Rattle.rec_bytes.specs.Format as format
use Rattle.rec_bytes.specs.RecordFiles.{room_of}
use Rattle.rec_bytes.specs.Space.{State, meta_of}
use Rattle.store_rules.specs.Ends.{Regroups}
use Rattle.store_rules.specs.Breaking.{Breaks, IsHeadChain}
use Rattle.store_rules.specs.Chains.{In}
use Rattle.store_rules.specs.Rules.{KeepsRules, node_head}
use Rattle.store_rules.specs.Views.{Records, degree, high, kind_at, rel_at}
use Rattle.group_store.specs.GroupChain.{IsGroupOf}
use Rattle.group_store.specs.Leaving.{LeavesApart, LeavesOthers}
use Rattle.group_store.specs.OpenFault.{IsFullOfGroups}
use Rattle.group_store.specs.Spreading.{CanTakeEach, HasCountedGroups, HasSpread, rels_damage}
use Rattle.group_store.specs.Walking.{chain_damage}
use Rattle.group_store.specs.declared.open_fault.OpenFault.{OpenFault}
use Rattle.group_store.specs.declared.open_fault.OpenFault.TheVariants.{Full, Memory, Disk}
use Rattle.group_store.specs.declared.open_fault.OpenFault.TheVariants.{Damaged}

-- The node is sparse, in a store that keeps the rules, but that these groups may be empty.
pub record CanBecomeDense (s : State) (node most : ℕ) (empty : List ℕ) : Type 0 where
  pub keeps : KeepsRules s.records s.shape most empty
  pub sparse : kind_at s.records format.nodes_file node ≡ format.sparse

-- The node is dense, its groups are counted, and the store keeps the rules as it did. No more than
-- its links, those of its relationships and its groups changed.
pub record BecomesDense (s t : State) (node most : ℕ) (empty : List ℕ) : Type 0 where
  pub keeps : KeepsRules t.records t.shape most empty
  pub dense : kind_at t.records format.nodes_file node ≡ format.dense
  pub counted : HasCountedGroups t.records node
  pub regroups : Regroups s t node
  pub leaves : LeavesOthers s t node

-- The node has at most so many relationships, and the file of groups has room for one at each end
-- of each relationship besides those that are empty.
pub record HasDenseRoom (s : State) (node threshold : ℕ) (empty : List ℕ) : Type 0 where
  pub few : degree s.records node ≤ threshold
  pub room : 2 * (meta_of s format.relationships_file).live + length empty
      ≤ room_of s.shape format.groups_file

-- the node is in use, and its first link is to a relationship
abbrev pub IsSparse : Records → ℕ → Type 0
IsSparse records node = kind_at records format.nodes_file node ≡ format.sparse

-- The sparse node has these relationships on its own chain and no group, and groups can be made.
pub record CanSpread (s : State) (node : ℕ) (members free : List ℕ) : Type 0 where
  pub sparse : IsSparse s.records node
  pub chain : IsHeadChain s.records (node_head node) node members
  pub none : (g : ℕ) → ¬ IsGroupOf s.records node g
  pub take : CanTakeEach s free

-- The degree of the node is the number of these relationships and at most so many. There is room
-- for all nodes and relationships that were given out, and for a group for each of these, which are
-- of the kind that relationships have.
pub record HasSpreadRoom (s : State) (node threshold : ℕ) (members : List ℕ) : Type 0 where
  pub exact : degree s.records node ≡ length members
  pub few : length members ≤ threshold
  pub nodes : high s.records format.nodes_file ≤ room_of s.shape format.nodes_file
  pub rels : high s.records format.relationships_file
      ≤ room_of s.shape format.relationships_file
  pub known : (x : ℕ) → In x members
      → kind_at s.records format.relationships_file x ≡ format.related
  pub room : (meta_of s format.groups_file).live + length members
      ≤ room_of s.shape format.groups_file

-- The node is dense, and its relationships are in the chains of its groups: each in just one, that
-- of its type and its side. The groups were made of records that weren't in use. Of relationships
-- and groups only these changed, and of relationships only their links for the node.
pub record SpreadsChain (s t : State) (node : ℕ) (members : List ℕ) : Type 0 where
  pub groups : List ℕ
  pub spread : HasSpread t.records node groups members
  pub fresh : (g : ℕ) → In g groups
      → kind_at s.records format.groups_file g ≡ format.free_kind
  pub leaves : LeavesApart s.records t.records node members groups

-- Why a relationship doesn't come into its group: what is told is so of the space as it is then, or
-- the relationship isn't there.
abbrev pub IsMoveFault : State → State → ℕ → ℕ → OpenFault → Type 0
IsMoveFault s t node rel (Full live) = IsFullOfGroups t live
IsMoveFault s t node rel Memory = Unit {0}
IsMoveFault s t node rel Disk = Unit {0}
IsMoveFault s t node rel (Damaged damage) =
    Breaks t.records t.shape damage ⊎ ((damage ≡ rels_damage node) × (rel_at s.records rel ≡ None))

-- Which record is said to be damaged where no head is found or made for an end: it breaks the rule
-- in the space as it is then, or it is the node, which isn't in use.
abbrev pub IsEndDamage : State → ℕ → Damage → Type 0
IsEndDamage t node damage =
    Breaks t.records t.shape damage ⊎ ((damage ≡ chain_damage node)
    × (kind_at t.records format.nodes_file node ≡ format.free_kind))

-- why none is: this, or the file of groups is full then
abbrev pub IsEndFault : State → ℕ → OpenFault → Type 0
IsEndFault t node (Full live) = IsFullOfGroups t live
IsEndFault t node Memory = Unit {0}
IsEndFault t node Disk = Unit {0}
IsEndFault t node (Damaged damage) = IsEndDamage t node damage
