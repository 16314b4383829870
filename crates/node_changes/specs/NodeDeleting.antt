-- A node that is deleted.
use Rattle.std.specs.Prelude.{◌≡◌, ◌≢◌, ◌⊎◌, ℕ, None}
use Rattle.rec_bytes.specs.declared.damage.Damage.{Damage}
use Rattle.rec_bytes.specs.Format as format
use Rattle.rec_bytes.specs.Space.{State}
use Rattle.store_rules.specs.Views.{Records, kind_at}
use Rattle.node_store.specs.Loading.{row_at}
use Rattle.change_parts.specs.Damage.{IsAsFound, IsBroken, IsEntryDamage, IsOfIndex}
use Rattle.change_parts.specs.declared.change_fault.ChangeFault.{ChangeFault}
use Rattle.change_parts.specs.declared.change_fault.ChangeFault.TheVariants.{NoNode, NoEdge}
use Rattle.change_parts.specs.declared.change_fault.ChangeFault.TheVariants.{HasRelationships, Full}
use Rattle.change_parts.specs.declared.change_fault.ChangeFault.TheVariants.{IndexThere}
use Rattle.change_parts.specs.declared.change_fault.ChangeFault.TheVariants.{TooManyIndexes}
use Rattle.change_parts.specs.declared.change_fault.ChangeFault.TheVariants.{IndexTooLarge}
use Rattle.change_parts.specs.declared.change_fault.ChangeFault.TheVariants.{NamesFull, PropsFull}
use Rattle.change_parts.specs.declared.change_fault.ChangeFault.TheVariants.{Memory, Disk, Damaged}
use Rattle.change_parts.specs.Degrees.{HasDegree}

-- No node of this number is in use.
abbrev pub IsUnused : Records → ℕ → Type 0
IsUnused records id = kind_at records format.nodes_file id ≡ format.free_kind

-- Other nodes are sparse still, or dense.
abbrev pub KeepsOtherKinds : State → State → ℕ → Type 0
KeepsOtherKinds s t id =
    (n : ℕ) → n ≢ id
    → kind_at t.records format.nodes_file n ≡ kind_at s.records format.nodes_file n

-- Why a node of any records isn't deleted, by what was read of them. Or an entry is changed: a
-- record of the indexes is told by the space as it is left, and it is as it was found.
abbrev pub IsDeleteCause : State → State → ℕ → ChangeFault → Type 0
IsDeleteCause s t id (NoNode missing) = (missing ≡ id) × (row_at s.records id ≡ None)
IsDeleteCause s t id (NoEdge missing) = ⊥
IsDeleteCause s t id (HasRelationships of degree) =
    (of ≡ id) × HasDegree s.records id degree × (degree ≢ 0)
IsDeleteCause s t id IndexThere = ⊥
IsDeleteCause s t id TooManyIndexes = ⊥
IsDeleteCause s t id (IndexTooLarge count) = ⊥
IsDeleteCause s t id (Full file live) = ⊥
IsDeleteCause s t id (NamesFull count) = ⊥
IsDeleteCause s t id (PropsFull count) = ⊥
IsDeleteCause s t id Memory = Unit {0}
IsDeleteCause s t id Disk = Unit {0}
IsDeleteCause s t id (Damaged damage) = IsBroken s damage
    ⊎ (IsEntryDamage t damage × IsAsFound s t damage)

-- The record is one that a deletion of the node may write: the node's own, one of a property, of a
-- block or of the indexes, or the meta record of one of these four files.
abbrev pub IsOfNode : ℕ → Damage → Type 0
IsOfNode id damage =
    ((damage.file ≡ format.nodes_file) × (damage.id ≡ id))
    ⊎ (IsOfIndex damage ⊎ ((damage.file ≡ format.properties_file)
    ⊎ ((damage.file ≡ format.strings_file) ⊎ ((damage.file ≡ format.meta_file)
    × ((damage.id ≡ format.nodes_file)
    ⊎ ((damage.id ≡ format.properties_file) ⊎ (damage.id ≡ format.strings_file)))))))

-- every other record is as it was
abbrev pub KeepsButNode : State → State → ℕ → Type 0
KeepsButNode s t id = (damage : Damage) → IsAsFound s t damage ⊎ IsOfNode id damage
