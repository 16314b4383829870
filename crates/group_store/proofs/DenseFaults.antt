-- What is told where a sparse node doesn't become dense.
use Rattle.std.proofs.Common.{◌≡◌, ◌≢◌, ⊎_elim, inl, ℕ, List, None, Result, Ok, Err, IfErr, IfSome, sym, subst}
use Rattle.rec_bytes.specs.declared.fault.Fault.{Fault}
use Rattle.rec_bytes.specs.declared.fault.Fault.TheVariants as faults
use Rattle.rec_bytes.specs.declared.row_fault.RowFault.{RowFault}
use Rattle.rec_bytes.specs.declared.row_fault.RowFault.TheVariants as rows
use Rattle.rec_bytes.specs.Fault.{damage_of, of_row}
use Rattle.rec_bytes.specs.Format as format
use Rattle.rec_bytes.specs.Space.{SameButReads, State, after_get}
use Rattle.rel_store.specs.Loading as rels
use Rattle.store_rules.specs.Breaking.{Breaks}
use Rattle.store_rules.specs.Views as views
use Rattle.store_rules.specs.Views.{kind_at, rel_at}
use Rattle.node_store.specs.Loading as nodes
use Rattle.node_store.proofs.Rows.{kind-row_at-None}
use Rattle.chain_edit.specs.Breaks.{IsBreakFault}
use Rattle.group_store.specs.Densing.{CanBecomeDense, IsEndFault, IsMoveFault, IsSparse}
use Rattle.group_store.specs.OpenFault.{IfRefuses, OnRefusal, of_fault}
use Rattle.group_store.specs.Opening.{IsOpenFault}
use Rattle.group_store.specs.SparseChain.{IsSparseFault, IsStepFault}
use Rattle.group_store.specs.SparseChain.IsStepDamage.{BadRow}
use Rattle.group_store.specs.GroupChain.{IsDense}
use Rattle.group_store.specs.declared.open_fault.OpenFault.{OpenFault}
use Rattle.group_store.specs.declared.open_fault.OpenFault.TheVariants.{Full, Memory, Disk, Damaged}
use Rattle.group_store.proofs.KeptHeads.{node_known}
use Rattle.group_store.proofs.GroupWalks.{IsUndamaged}
use Rattle.group_store.proofs.SparseChains.{no_sparse_damage, rel_breaks}

-- a node that isn't in use has no row
pub none_unused : (s : State) (node : ℕ) → None ≡ nodes.row_at s.records node → kind_at s.records format.nodes_file node ≢ 0 → ⊥
none_unused s node is used = used (kind-row_at-None s.records node (sym is))

-- a store with another count of reads
pub can_of : (s : State) (n node most : ℕ) (empty : List ℕ) → CanBecomeDense s node most empty → CanBecomeDense (record s { reads = n }) node most empty
can_of s n node most empty can = record { keeps = can.keeps; sparse = can.sparse }

-- ---- before anything is written

pub broken_then : (s t : State) (node : ℕ) (fault : Fault) → SameButReads s t → IsBreakFault s fault → IsOpenFault t (of_fault fault)
broken_then s t node faults.Memory same told = tt
broken_then s t node faults.Disk same told = tt
broken_then s t node (faults.Damaged damage) same told = subst (λ (q : State). Breaks q.records q.shape damage) (sym same) told

pub row_told : (s : State) (node before at : ℕ) (fault : RowFault) → rels.IsRelFault s at fault → IsStepFault s node before at (of_row fault)
row_told s node before at rows.Disk told = tt
row_told s node before at (rows.Damaged damage) told = BadRow damage told

pub sparse_undamaged : (s : State) (node count most : ℕ) (empty : List ℕ) → count ≡ views.degree s.records node → CanBecomeDense s node most empty
    → (fault : Fault) → IsSparseFault s node count fault → IsUndamaged fault
sparse_undamaged s node count most empty is can faults.Memory told = tt
sparse_undamaged s node count most empty is can faults.Disk told = tt
sparse_undamaged s node count most empty is can (faults.Damaged damage) told = no_sparse_damage s node can.sparse count most empty is can.keeps damage told

-- ---- a relationship that doesn't come into its group

-- a relationship that can't be read
pub unread : (s l : State) (node rel : ℕ) → SameButReads s l → (fault : RowFault) → rels.IsRelFault s rel fault
    → IsMoveFault s l node rel (of_fault (of_row fault))
unread s l node rel same rows.Disk told = tt
unread s l node rel same (rows.Damaged damage) told = inl (subst (λ (q : State). Breaks q.records q.shape damage) (sym same)
    (rel_breaks s rel damage told))

-- no group for it
pub no_own : (s l m : State) (node rel : ℕ) (fault : OpenFault) → IsOpenFault l fault → IfRefuses (SameButReads l m) fault
    → IsMoveFault s m node rel fault
no_own s l m node rel (Full live) told same = subst (λ (q : State). IsOpenFault q (Full live)) (sym same) told
no_own s l m node rel Memory told same = tt
no_own s l m node rel Disk told same = tt
no_own s l m node rel (Damaged damage) told same = inl (subst (λ (q : State). IsOpenFault q (Damaged damage)) (sym same) told)

-- a first link of the group that leads nowhere
pub no_push : (s t end : State) (node rel : ℕ) (fault : Fault) → IsBreakFault t fault → IfSome (damage_of fault) (λ _. end ≡ after_get t)
    → IsMoveFault s end node rel (of_fault fault)
no_push s t end node rel faults.Memory told same = tt
no_push s t end node rel faults.Disk told same = tt
no_push s t end node rel (faults.Damaged damage) told same = inl (subst (λ (q : State). Breaks q.records q.shape damage) (sym same) told)

-- a relationship that is there
pub unmoved : (now t : State) (node rel : ℕ) (fault : OpenFault) → IsMoveFault now t node rel fault → rel_at now.records rel ≢ None → IsOpenFault t fault
unmoved now t node rel (Full live) told there = told
unmoved now t node rel Memory told there = tt
unmoved now t node rel Disk told there = tt
unmoved now t node rel (Damaged damage) told there = ⊎_elim (λ late. late) (λ k. absurd (there k.1)) told

-- ---- a group of a node that became dense

pub not_opened : {T : Type 0} (z t : State) (r : Result T OpenFault) → IfErr r (IsOpenFault z) → OnRefusal r (SameButReads z t) → IfErr r (IsOpenFault t)
not_opened z t (Ok x) told same = tt
not_opened z t (Err (Full live)) told same = subst (λ (q : State). IsOpenFault q (Full live)) (sym same) told
not_opened z t (Err Memory) told same = tt
not_opened z t (Err Disk) told same = tt
not_opened z t (Err (Damaged damage)) told same = subst (λ (q : State). IsOpenFault q (Damaged damage)) (sym same) told

-- ---- what is told of an end, by the space as it is then

pub end_broken : (s t : State) (node : ℕ) (fault : Fault) → SameButReads s t → IsBreakFault s fault → IsEndFault t node (of_fault fault)
end_broken s t node faults.Memory same told = tt
end_broken s t node faults.Disk same told = tt
end_broken s t node (faults.Damaged damage) same told = inl (subst (λ (q : State). Breaks q.records q.shape damage) (sym same) told)

pub end_late : (t : State) (node : ℕ) (fault : OpenFault) → IsOpenFault t fault → IsEndFault t node fault
end_late t node (Full live) told = told
end_late t node Memory told = tt
end_late t node Disk told = tt
end_late t node (Damaged damage) told = inl told

pub end_opened : {T : Type 0} (z t : State) (node : ℕ) (r : Result T OpenFault) → IfErr r (IsOpenFault z) → OnRefusal r (SameButReads z t)
    → IfErr r (IsEndFault t node)
end_opened z t node (Ok x) told same = tt
end_opened z t node (Err fault) told same = end_late t node fault (not_opened {T = Unit {0}} z t (Err fault) told same)

-- a node in use that was read and isn't dense is sparse
pub sparse_known : (s : State) (id : ℕ) → nodes.IsKnown s id → kind_at s.records format.nodes_file id ≢ 0 → (¬ IsDense s.records id) → IsSparse s.records id
sparse_known s id known used thin = ⊎_elim (λ d. absurd (thin d)) (λ k. k) (node_known s id known used)
