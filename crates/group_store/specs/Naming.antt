-- Which records are called damaged where a head of a node is found or made.
use Rattle.std.specs.Prelude.{◌≡◌, ◌≢◌, ◌⊎◌, ℕ, false}
use Rattle.rec_bytes.specs.declared.damage.Damage.{Damage}
use Rattle.rec_bytes.specs.Format as format
use Rattle.rec_bytes.specs.Space.{State}
use Rattle.id_freelist.specs.ListDamage.{IsListDamage}
use Rattle.row_store.specs.Loading.{IsRowDamage}
use Rattle.store_rules.specs.Views.{Records, key_in}
use Rattle.group_store.specs.GroupChain.{is_group_of}
use Rattle.group_store.specs.GroupRecord.{group_key}
use Rattle.group_store.specs.Loading.{HasNoKind}
use Rattle.group_store.specs.OpenFault.{IfDamage, IsShort}
use Rattle.group_store.specs.declared.open_fault.OpenFault.{OpenFault}
use Rattle.group_store.specs.declared.open_fault.OpenFault.TheVariants.{Full, Memory, Disk}
use Rattle.group_store.specs.declared.open_fault.OpenFault.TheVariants.{Damaged}

-- the record is a group, or the meta record of the groups
abbrev pub IsOfGroups : Damage → Type 0
IsOfGroups damage = (damage.file ≡ format.groups_file)
    ⊎ ((damage.file ≡ format.meta_file) × (damage.id ≡ format.groups_file))

-- it is one of these, or the node
abbrev pub IsOfNode : ℕ → Damage → Type 0
IsOfNode node damage =
    IsOfGroups damage ⊎ ((damage.file ≡ format.nodes_file) × (damage.id ≡ node))

-- it is the meta record of the nodes or of the relationships
abbrev pub IsOfMarks : Damage → Type 0
IsOfMarks damage = (damage.file ≡ format.meta_file)
    × ((damage.id ≡ format.nodes_file) ⊎ (damage.id ≡ format.relationships_file))

-- a relationship can't be read
abbrev pub IsUnread : State → Damage → Type 0
IsUnread s damage = (x : ℕ) × IsRowDamage format.relationships_file s x damage

-- The record is the node, or a group, or a meta record of their files or of the relationships. Or
-- it is of a relationship that can't be read.
abbrev pub IsNamedAt : State → ℕ → Damage → Type 0
IsNamedAt s node damage = IsOfNode node damage ⊎ (IsOfMarks damage ⊎ IsUnread s damage)

-- a fault names such a record
abbrev pub NamesAt : State → ℕ → OpenFault → Type 0
NamesAt s node fault = IfDamage (IsNamedAt s node) fault

-- it names no node
abbrev pub NamesNoNode : OpenFault → Type 0
NamesNoNode fault = IfDamage (λ damage. damage.file ≢ format.nodes_file) fault

-- the record that is named is as it was found
abbrev pub IsAsBefore : State → State → Damage → Type 0
IsAsBefore s t damage =
    t.records (key_in damage.file damage.id) ≡ s.records (key_in damage.file damage.id)

-- the record is no group of a node but this one
abbrev pub IsNoOther : Records → ℕ → ℕ → Type 0
IsNoOther records node g =
    (n : ℕ) → n ≢ node → is_group_of (records (group_key g)) n ≡ false

-- Where a fault names a group, this was wrong with the free list of the groups. Or the record is of
-- no kind that groups have, and as it was found.
abbrev pub NamesNoGroup : State → State → OpenFault → Type 0
NamesNoGroup s t fault = IfDamage (λ damage. damage.file ≡ format.groups_file
    → IsListDamage s.records s.shape format.groups_file damage
    ⊎ (HasNoKind s.records damage.id × IsAsBefore s t damage)) fault

-- Where it names a group, this was wrong with their free list, or it is no other node's.
abbrev pub NamesNoOther : State → ℕ → OpenFault → Type 0
NamesNoOther s node fault = IfDamage (λ damage. damage.file ≡ format.groups_file
    → IsListDamage s.records s.shape format.groups_file damage
    ⊎ IsNoOther s.records node damage.id) fault

-- A node or a group that a fault names is as it was found, and the group is no other node's. Or
-- this was wrong with the free list of the groups before.
pub record IsFoundAt (s t : State) (node : ℕ) (damage : Damage) : Type 0 where
  pub nodes : damage.file ≡ format.nodes_file → IsAsBefore s t damage
  pub groups : damage.file ≡ format.groups_file
      → IsListDamage s.records s.shape format.groups_file damage
      ⊎ (IsAsBefore s t damage × IsNoOther s.records node damage.id)

abbrev pub NamesFound : State → State → ℕ → OpenFault → Type 0
NamesFound s t node fault = IfDamage (IsFoundAt s t node) fault

-- it is the meta record of the groups
abbrev pub IsOfGroupMeta : Damage → Type 0
IsOfGroupMeta damage = (damage.file ≡ format.meta_file) × (damage.id ≡ format.groups_file)

-- Where a fault names that meta record, this was wrong with the free list of the groups before.
-- Where it tells their file to be full, it is, and had room for fewer more than this before.
abbrev pub NamesMeta : State → State → ℕ → OpenFault → Type 0
NamesMeta s t needed (Full live) = IsShort s t needed live
NamesMeta s t needed Memory = Unit {0}
NamesMeta s t needed Disk = Unit {0}
NamesMeta s t needed (Damaged damage) = IsOfGroupMeta damage
    → IsListDamage s.records s.shape format.groups_file damage
