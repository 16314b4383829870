-- Which records an entry's change names: a definition, which no change of an entry writes, or what is wrong with the free list.
use Rattle.std.specs.Prelude.{IfSome, Option}
use Rattle.std.proofs.Common.{◌≡◌, ◌⊎◌, ◌<◌, ℕ, true, None, Some, List, [], ◌∷◌, length, ap, sym, ◌∙◌, subst, inl, inr, refl, ⊎_elim, arith}
use Rattle.std.proofs.lemmas.Bool.{true≢false}
use Rattle.id_freelist.specs.ListDamage.{IsListDamage}
use Rattle.id_freelist.specs.declared.take_fault.TakeFault.{TakeFault}
use Rattle.id_freelist.specs.declared.take_fault.TakeFault.TheVariants as takes
use Rattle.id_freelist.proofs.ListSteps.{beside_harms_none, list_broken}
use Rattle.prop_index.specs.Naming.{BlamesDefinition, IsDefinitionOrList, TakeBlamesDefinition}
use Rattle.prop_index.specs.Sparing.{SparesDefinitions}
use Rattle.prop_index.specs.declared.listing.IndexPair.{IndexPair}
use Rattle.prop_index.proofs.Sparing.{named_before, still_definitions}
use Rattle.rec_bytes.specs.declared.damage.Damage.{Damage}
use Rattle.rec_bytes.specs.declared.fault.Fault.{Fault}
use Rattle.rec_bytes.specs.declared.fault.Fault.TheVariants as faults
use Rattle.rec_bytes.specs.declared.record.Rec.{Rec}
use Rattle.rec_bytes.specs.Format as format
use Rattle.rec_bytes.specs.Meta as metas
use Rattle.rec_bytes.specs.Record.{field}
use Rattle.rec_bytes.specs.Space.{State}
use Rattle.store_rules.specs.IndexBreaking.{HasDefinitions}
use Rattle.store_rules.specs.Chains.{IsWalk}
use Rattle.store_rules.specs.Indexes.{first_definition, index_rec, next_definition}
use Rattle.store_rules.specs.Views.{high, key_in, kind_in}
use Rattle.store_rules.proofs.ChainLaws.{walk_stays}
use Rattle.change_parts.specs.ChangeFault.{of_fault, of_take}
use Rattle.change_parts.specs.Damage.{IfBlames, IsAsFound, IsBroken, IsEntryDamage, IsListOrFound, IsOfIndex, LeavesIndexes}
use Rattle.node_changes.specs.Entries.{is_listed}
use Rattle.node_changes.specs.declared.entries.IndexedValue.{IndexedValue}

pub take_named : (s : State) (fault : TakeFault) → TakeBlamesDefinition s fault → IfBlames (IsDefinitionOrList s) (of_take fault)
take_named s (takes.Full file live) told = tt
take_named s takes.Memory told = tt
take_named s takes.Disk told = tt
take_named s (takes.Damaged damage) told = told

pub fault_named : (s : State) (fault : Fault) → BlamesDefinition s fault → IfBlames (IsDefinitionOrList s) (of_fault fault)
fault_named s faults.Memory told = tt
fault_named s faults.Disk told = tt
fault_named s (faults.Damaged damage) told = told

-- after changes that spare the definitions
pub named_found : (s m t : State) (damage : Damage) → SparesDefinitions s m → IsDefinitionOrList m damage → IsAsFound m t damage → IsListOrFound s t damage
named_found s m t damage spared told found = ⊎_elim
    (λ (k : (damage.file ≡ format.index_file) × (index_rec m.records damage.id ≡ index_rec s.records damage.id)).
    inr (found ∙ subst (λ f. m.records (key_in f damage.id) ≡ s.records (key_in f damage.id)) (sym k.0) k.1))
    (λ (list : IsListDamage s.records s.shape format.index_file damage). inl list) (named_before s m spared damage told)

pub still_has : (s m : State) → SparesDefinitions s m → HasDefinitions s.records → HasDefinitions m.records
still_has s m spared has = record { members = has.members; list = still_definitions s m spared has.members has.list }

pub held_still : (s m : State) (held : Option IndexedValue) → SparesDefinitions s m → IfSome held (λ _. HasDefinitions s.records)
    → IfSome held (λ _. HasDefinitions m.records)
held_still s m None spared has = tt
held_still s m (Some h) spared has = still_has s m spared has

pub listed_some : (pairs : List IndexPair) (label key : ℕ) → is_listed pairs label key ≡ true → 0 < length pairs
listed_some [] label key is = absurd (true≢false (sym is))
listed_some (x ∷ xs) label key is = omega arith

-- what is wrong with the list was so before a change that leaves the indexes
leaves_list : (s w : State) (damage : Damage) → LeavesIndexes s w → w.shape ≡ s.shape → IsListDamage w.records w.shape format.index_file damage
    → IsListDamage s.records s.shape format.index_file damage
leaves_list s w damage leaves shape list = beside_harms_none s w format.index_file shape
    (leaves (record { file = format.meta_file; id = format.index_file; rule = 0 }) (inr (refl, refl)))
    (λ x. leaves (record { file = format.index_file; id = x; rule = 0 }) (inl refl)) damage list

pub found_before : (s w t : State) (damage : Damage) → LeavesIndexes s w → w.shape ≡ s.shape → IsEntryDamage t damage → IsListOrFound w t damage
    → IsBroken s damage ⊎ (IsEntryDamage t damage × IsAsFound s t damage)
found_before s w t damage leaves shape told found = ⊎_elim
    (λ (list : IsListDamage w.records w.shape format.index_file damage).
    inl (inl (list_broken s format.index_file (takes.Damaged damage) refl (leaves_list s w damage leaves shape list))))
    (λ (same : IsAsFound w t damage). inr (told, same ∙ leaves damage told.0)) found

-- the definitions stay a list where nothing of the indexes changes
leaves_has : (s t : State) → LeavesIndexes s t → HasDefinitions s.records → HasDefinitions t.records
leaves_has s t leaves has =
    let meta = leaves (record { file = format.meta_file; id = format.index_file; rule = 0 }) (inr (refl, refl)) in
    let each : (x : ℕ) → index_rec t.records x ≡ index_rec s.records x = λ x. leaves (record { file = format.index_file; id = x; rule = 0 }) (inl refl) in
    record {
      members = has.members;
      list = record {
        walk = subst (λ f. IsWalk (next_definition t.records) f has.members) (ap (λ (r : Rec). field 4 r format.meta_definition) (sym meta))
            (walk_stays _ _ (first_definition s.records) has.members (λ x i. ap (λ (r : Rec). field 4 r format.definition_next) (each x)) has.list.walk);
        few = has.list.few;
        defined = λ x i. ap (λ (r : Rec). kind_in (metas.meta_of r).high (index_rec t.records x) x) meta
            ∙ ap (λ (r : Rec). kind_in (high s.records format.index_file) r x) (each x) ∙ has.list.defined x i;
      };
    }

pub held_leaves : (s t : State) (held : Option IndexedValue) → LeavesIndexes s t → IfSome held (λ _. HasDefinitions s.records)
    → IfSome held (λ _. HasDefinitions t.records)
held_leaves s t None leaves has = tt
held_leaves s t (Some h) leaves has = leaves_has s t leaves has

pub some_leaves : (s t : State) (P : Type 0) → LeavesIndexes s t → (P → HasDefinitions s.records) → P → HasDefinitions t.records
some_leaves s t P leaves has p = leaves_has s t leaves (has p)
