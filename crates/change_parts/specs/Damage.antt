-- Which records a change calls damaged.
use Rattle.std.specs.Prelude.{◌≡◌, ◌⊎◌}
use Rattle.id_freelist.specs.ListDamage.{IsListDamage}
use Rattle.prop_store.specs.FileChange.{IsSameBeside}
use Rattle.rec_bytes.specs.Format as format
use Rattle.rec_bytes.specs.Space.{State}
use Rattle.rec_bytes.specs.declared.damage.Damage.{Damage}
use Rattle.store_rules.specs.Breaking.{BreaksAny}
use Rattle.store_rules.specs.Views.{key_in}
use Rattle.change_parts.specs.declared.change_fault.ChangeFault.{ChangeFault}
use Rattle.change_parts.specs.declared.change_fault.ChangeFault.TheVariants.{NoNode, NoEdge}
use Rattle.change_parts.specs.declared.change_fault.ChangeFault.TheVariants.{HasRelationships, Full}
use Rattle.change_parts.specs.declared.change_fault.ChangeFault.TheVariants.{IndexThere}
use Rattle.change_parts.specs.declared.change_fault.ChangeFault.TheVariants.{TooManyIndexes}
use Rattle.change_parts.specs.declared.change_fault.ChangeFault.TheVariants.{IndexTooLarge}
use Rattle.change_parts.specs.declared.change_fault.ChangeFault.TheVariants.{NamesFull, PropsFull}
use Rattle.change_parts.specs.declared.change_fault.ChangeFault.TheVariants.{Memory, Disk, Damaged}

-- what is so of a record that is blamed
abbrev pub IfBlames : (Damage → Type 0) → ChangeFault → Type 0
IfBlames told (NoNode id) = Unit {0}
IfBlames told (NoEdge id) = Unit {0}
IfBlames told (HasRelationships id degree) = Unit {0}
IfBlames told IndexThere = Unit {0}
IfBlames told TooManyIndexes = Unit {0}
IfBlames told (IndexTooLarge count) = Unit {0}
IfBlames told (Full file live) = Unit {0}
IfBlames told (NamesFull count) = Unit {0}
IfBlames told (PropsFull count) = Unit {0}
IfBlames told Memory = Unit {0}
IfBlames told Disk = Unit {0}
IfBlames told (Damaged damage) = told damage

-- the record breaks the rule, one of all eight
abbrev pub IsBroken : State → Damage → Type 0
IsBroken s damage = BreaksAny s.records s.shape damage

-- a record that is blamed breaks the rule
abbrev pub BlamesBroken : State → ChangeFault → Type 0
BlamesBroken s fault = IfBlames (IsBroken s) fault

-- the record is one of the indexes, or their meta record
abbrev pub IsOfIndex : Damage → Type 0
IsOfIndex damage = (damage.file ≡ format.index_file)
    ⊎ ((damage.file ≡ format.meta_file) × (damage.id ≡ format.index_file))

-- so it is where an entry is changed, and it breaks the rule in the space as it is left
abbrev pub IsEntryDamage : State → Damage → Type 0
IsEntryDamage t damage = IsOfIndex damage × IsBroken t damage

abbrev pub BlamesEntry : State → ChangeFault → Type 0
BlamesEntry t fault = IfBlames (IsEntryDamage t) fault

-- the record that is named is as it was found
abbrev pub IsAsFound : State → State → Damage → Type 0
IsAsFound s t damage =
    t.records (key_in damage.file damage.id) ≡ s.records (key_in damage.file damage.id)

-- so is one that is blamed
abbrev pub BlamesUntouched : State → State → ChangeFault → Type 0
BlamesUntouched s t fault = IfBlames (IsAsFound s t) fault

-- the records of the indexes are as they were, and so is their meta record
abbrev pub LeavesIndexes : State → State → Type 0
LeavesIndexes s t = (damage : Damage) → IsOfIndex damage → IsAsFound s t damage

-- A record that is blamed where an index is made breaks the rule in the space as it was, or in this
-- one, where the label and the key are names.
abbrev pub BlamesMaking : State → State → ChangeFault → Type 0
BlamesMaking s named fault = IfBlames (λ damage. IsBroken s damage ⊎ IsBroken named damage) fault

-- A record that is blamed where a value is given breaks the rule in the space as it was, or in this
-- one, where the key is a name. Or it is one of the indexes, which are changed last: it is as it
-- was found, and breaks the rule in the space as it is left.
abbrev pub BlamesGiven : State → State → State → ChangeFault → Type 0
BlamesGiven s named t fault =
    IfBlames (λ damage. IsBroken s damage ⊎ (IsBroken named damage
    ⊎ (IsEntryDamage t damage × IsAsFound s t damage))) fault

-- One that is blamed where a value is taken away, or where a node is added or deleted, breaks it in
-- the space as it was. Or it is one of the indexes, which are changed last: it is as it was found,
-- and breaks it in the space as it is left.
abbrev pub BlamesEntries : State → State → ChangeFault → Type 0
BlamesEntries s t fault =
    IfBlames (λ damage. IsBroken s damage ⊎ (IsEntryDamage t damage × IsAsFound s t damage)) fault

-- what is wrong with the free list of the indexes, or a record that is as it was found
abbrev pub IsListOrFound : State → State → Damage → Type 0
IsListOrFound s t damage =
    IsListDamage s.records s.shape format.index_file damage ⊎ IsAsFound s t damage

-- it is what is wrong with the free list of the properties or of the blocks
abbrev pub IsOfLists : State → Damage → Type 0
IsOfLists s damage =
    IsListDamage s.records s.shape format.properties_file damage
    ⊎ IsListDamage s.records s.shape format.strings_file damage

-- no record but those of names, and their meta record, differs
abbrev pub KeepsButNames : State → State → Type 0
KeepsButNames s t = IsSameBeside format.names_file s.records t.records
