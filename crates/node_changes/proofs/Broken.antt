-- A record that is called damaged where a node changes breaks the rule.
use Rattle.std.specs.Cmp.Lexicographic.{pointwise}
use Rattle.std.specs.List.{list_any}
use Rattle.std.proofs.Common.{◌⊎◌, ℕ, nat_eq, Bool, true, false, cond, List, length, sym, subst, inl, inr, refl}
use Rattle.plain_graph.specs.declared.command.Target.{Target}
use Rattle.plain_graph.specs.declared.command.Target.TheVariants as targets
use Rattle.rec_bytes.specs.declared.fault.Fault.{Fault}
use Rattle.rec_bytes.specs.declared.fault.Fault.TheVariants as faults
use Rattle.rec_bytes.specs.declared.row_fault.RowFault.{RowFault}
use Rattle.rec_bytes.specs.declared.row_fault.RowFault.TheVariants as row
use Rattle.rec_bytes.specs.Space.{SameButReads, State}
use Rattle.store_rules.specs.Breaking.{Breaks}
use Rattle.node_store.specs.Loading as nodes
use Rattle.prop_store.specs.Fault as props
use Rattle.prop_store.specs.Setting.{SetBlamesBroken}
use Rattle.prop_store.specs.declared.set_fault.SetFault.{SetFault}
use Rattle.prop_store.specs.declared.set_fault.SetFault.TheVariants as sets
use Rattle.name_store.specs.Interning.{interned, named}
use Rattle.name_store.specs.declared.intern_fault.InternFault.{InternFault}
use Rattle.name_store.specs.declared.intern_fault.InternFault.TheVariants as interns
use Rattle.prop_store.specs.Owner.{IsInUse}
use Rattle.prop_index.specs.Blaming as indexes
use Rattle.change_parts.specs.ChangeFault.{IsFailure, of_fault, of_intern, of_row, of_set}
use Rattle.change_parts.specs.declared.change_fault.ChangeFault.{ChangeFault}
use Rattle.change_parts.specs.declared.change_fault.ChangeFault.TheVariants.{NoNode, NoEdge, HasRelationships, IndexThere, TooManyIndexes, IndexTooLarge, Full}
use Rattle.change_parts.specs.declared.change_fault.ChangeFault.TheVariants.{NamesFull, PropsFull, Memory, Disk, Damaged}
use Rattle.change_parts.specs.Damage.{BlamesBroken, BlamesEntry, BlamesGiven, IfBlames, IsAsFound, IsBroken, IsEntryDamage, IsOfIndex}
use Rattle.node_changes.specs.NodeDeleting.{IsDeleteCause}
use Rattle.change_parts.specs.Owners.{owner_of}
use Rattle.change_parts.proofs.Broken.{blames_more, node_breaks}

pub read_broken : (s m : State) → SameButReads s m → (fault : Fault) → props.BlamesBroken m.records m.shape fault → BlamesBroken s (of_fault fault)
read_broken s m same faults.Memory told = tt
read_broken s m same faults.Disk told = tt
read_broken s m same (faults.Damaged damage) told = inl (subst (λ (z : State). Breaks z.records z.shape damage) same told)

pub index_named : (fault : Fault) → indexes.NamesIndexes fault → IfBlames IsOfIndex (of_fault fault)
index_named faults.Memory told = tt
index_named faults.Disk told = tt
index_named (faults.Damaged damage) told = told

pub index_broken : (s : State) (fault : Fault) → indexes.BlamesBroken s.records s.shape fault → BlamesBroken s (of_fault fault)
index_broken s faults.Memory told = tt
index_broken s faults.Disk told = tt
index_broken s (faults.Damaged damage) told = told

pub node_cause : (s t : State) (id : ℕ) (fault : RowFault) → nodes.IsNodeFault s id fault → IsDeleteCause s t id (of_row fault)
node_cause s t id row.Disk told = tt
node_cause s t id (row.Damaged damage) told = inl (inl (node_breaks s id damage told))

pub drop_cause : (s m t : State) (id : ℕ) → SameButReads s m → (fault : Fault) → props.BlamesBroken m.records m.shape fault
    → IsDeleteCause s t id (of_fault fault)
drop_cause s m t id same faults.Memory told = tt
drop_cause s m t id same faults.Disk told = tt
drop_cause s m t id same (faults.Damaged damage) told = inl (inl (subst (λ (z : State). Breaks z.records z.shape damage) same told))

-- the values that the node has in indexes are read before it goes
pub held_cause : (s t : State) (id : ℕ) (fault : ChangeFault) → IsFailure fault → BlamesBroken s fault → IsDeleteCause s t id fault
held_cause s t id (NoNode missing) fails told = absurd fails
held_cause s t id (NoEdge missing) fails told = absurd fails
held_cause s t id (HasRelationships of degree) fails told = absurd fails
held_cause s t id IndexThere fails told = absurd fails
held_cause s t id TooManyIndexes fails told = absurd fails
held_cause s t id (IndexTooLarge count) fails told = absurd fails
held_cause s t id (Full file live) fails told = absurd fails
held_cause s t id (NamesFull count) fails told = absurd fails
held_cause s t id (PropsFull count) fails told = absurd fails
held_cause s t id Memory fails told = tt
held_cause s t id Disk fails told = tt
held_cause s t id (Damaged damage) fails told = inl told

-- and their entries leave last
pub entry_cause : (s t : State) (id : ℕ) (fault : ChangeFault) → IsFailure fault
    → IfBlames (λ damage. IsBroken s damage ⊎ (IsEntryDamage t damage × IsAsFound s t damage)) fault → IsDeleteCause s t id fault
entry_cause s t id (NoNode missing) fails told = absurd fails
entry_cause s t id (NoEdge missing) fails told = absurd fails
entry_cause s t id (HasRelationships of degree) fails told = absurd fails
entry_cause s t id IndexThere fails told = absurd fails
entry_cause s t id TooManyIndexes fails told = absurd fails
entry_cause s t id (IndexTooLarge count) fails told = absurd fails
entry_cause s t id (Full file live) fails told = absurd fails
entry_cause s t id (NamesFull count) fails told = absurd fails
entry_cause s t id (PropsFull count) fails told = absurd fails
entry_cause s t id Memory fails told = tt
entry_cause s t id Disk fails told = tt
entry_cause s t id (Damaged damage) fails told = told

pub key_blamed : (s named t : State) (fault : InternFault) → BlamesGiven s named t (of_intern fault)
key_blamed s named t (interns.NamesFull count) = tt
key_blamed s named t interns.Memory = tt
key_blamed s named t interns.Disk = tt

-- reads before a key becomes a name are counted after it
pub interned_read : (s m : State) (names : List (List ℕ)) (key : List ℕ) → SameButReads s m → SameButReads (interned s names key) (interned m names key)
unfolding named
interned_read s m names key same = subst (λ (z : State). SameButReads (interned s names key) (interned z names key)) (sym same)
    (by (list_any (pointwise nat_eq key) names))
  where
    by : (b : Bool) → SameButReads (cond b s (named s (length names) key))
        (cond b (record s { reads = m.reads }) (named (record s { reads = m.reads }) (length names) key))
    by true = refl
    by false = refl

-- an element in use is so once a key is a name
pub interned_in_use : (s : State) (names : List (List ℕ)) (key : List ℕ) (target : Target) → IsInUse s.records (owner_of target)
    → IsInUse (interned s names key).records (owner_of target)
unfolding named
interned_in_use s names key (targets.Node id) used = by (list_any (pointwise nat_eq key) names)
  where
    by : (b : Bool) → IsInUse (cond b s (named s (length names) key)).records (owner_of (targets.Node id))
    by true = used
    by false = used
interned_in_use s names key (targets.Edge id) used = by (list_any (pointwise nat_eq key) names)
  where
    by : (b : Bool) → IsInUse (cond b s (named s (length names) key)).records (owner_of (targets.Edge id))
    by true = used
    by false = used

pub value_blamed : (s named t last : State) → SameButReads named t → (fault : SetFault) → SetBlamesBroken t fault
    → BlamesGiven s named last (of_set fault)
value_blamed s named t last same (sets.PropsFull count) told = tt
value_blamed s named t last same (sets.Full file live) told = tt
value_blamed s named t last same sets.Memory told = tt
value_blamed s named t last same sets.Disk told = tt
value_blamed s named t last same (sets.Damaged damage) told = inr (inl (inl (subst (λ (z : State). Breaks z.records z.shape damage) same told)))

pub entry_left : (t : State) (fault : ChangeFault) → BlamesEntry t fault → BlamesBroken t fault
entry_left t fault told = blames_more (IsEntryDamage t) (IsBroken t) (λ damage k. k.1) fault told
