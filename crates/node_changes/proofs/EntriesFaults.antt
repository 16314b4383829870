-- What a fault of an entry's call says.
use Rattle.std.specs.Prelude.{Err, IfSome, slice_get}
use Rattle.std.proofs.Common.{◌≡◌, ◌≢◌, ◌⊎◌, ℕ, zero, suc, ◌<◌, ◌≤◌, Option, None, Some, List, [], ◌∷◌, inl, inr, ⊎_elim, refl, sym, ap, ◌∙◌, subst, arith}
use Rattle.plain_graph.specs.declared.command.Target.{Target}
use Rattle.plain_graph.specs.declared.command.Target.TheVariants as targets
use Rattle.plain_graph.specs.declared.value.Value.{Value}
use Rattle.id_freelist.specs.TakeFault as frees
use Rattle.id_freelist.specs.declared.take_fault.TakeFault.{TakeFault}
use Rattle.id_freelist.specs.declared.take_fault.TakeFault.TheVariants as takes
use Rattle.prop_index.specs.Unwritten.{IfTakeBlames}
use Rattle.prop_index.specs.Blaming.{BlamesBroken, NamesIndexes, TakeBlamesBroken, TakeNamesIndexes}
use Rattle.prop_index.specs.Entering.{IsIndexFull, IsNotFull}
use Rattle.prop_store.specs.FileChange.{IsSameBeside}
use Rattle.prop_store.specs.declared.owner.Owner.{Owner}
use Rattle.rec_bytes.specs.declared.damage.Damage.{Damage}
use Rattle.rec_bytes.specs.declared.key.Key.{Key}
use Rattle.rec_bytes.specs.Fault.{damage_of}
use Rattle.rec_bytes.specs.declared.fault.Fault.{Fault}
use Rattle.rec_bytes.specs.declared.fault.Fault.TheVariants as faults
use Rattle.rec_bytes.specs.declared.row_fault.RowFault.{RowFault}
use Rattle.rec_bytes.specs.declared.row_fault.RowFault.TheVariants as rows
use Rattle.rec_bytes.specs.Format as format
use Rattle.rec_bytes.specs.RecordFiles.{meta_key_of, room_of}
use Rattle.rec_bytes.specs.RowFault as row_faults
use Rattle.rec_bytes.specs.Space.{SameButReads, State, meta_of}
use Rattle.rec_bytes.specs.declared.shape.Shape.{Shape}
use Rattle.change_parts.specs.ChangeFault.{IsFailure, IsOutside, of_fault, of_row, of_take}
use Rattle.store_rules.specs.Views.{key_in}
use Rattle.store_rules.specs.Writes.{ChangesOnly}
use Rattle.change_parts.specs.Damage.{BlamesEntry, BlamesUntouched, IsAsFound, LeavesIndexes}
use Rattle.change_parts.specs.Owners.{owner_of}
use Rattle.node_changes.specs.Entries.{IsEntryFault, IsEntryRefusal, IsEntryUndamaged, old_weight, value_weight}
use Rattle.change_parts.specs.Rooms.{LacksRoom}
use Rattle.node_changes.specs.declared.entries.IndexedValue.{IndexedValue}
use Rattle.change_parts.specs.declared.change_fault.ChangeFault.{ChangeFault}
use Rattle.change_parts.specs.declared.change_fault.ChangeFault.TheVariants.{NoNode, NoEdge, HasRelationships, IndexThere, TooManyIndexes, IndexTooLarge, Full}
use Rattle.change_parts.specs.declared.change_fault.ChangeFault.TheVariants.{NamesFull, PropsFull, Memory, Disk, Damaged}
use Rattle.plain_graph.specs.declared.command.Command.{Command}
use Rattle.change_parts.specs.Causes.{AsksRecord, IsCaused}
use Rattle.change_parts.specs.Change.{IsSetCount}

pub row_outside : (T : Type 0) (fault : RowFault) → row_faults.NotDamaged {T = T} (Err fault) → IsOutside (of_row fault)
row_outside T rows.Disk right = tt
row_outside T (rows.Damaged damage) right = absurd right

-- where there is room, no file is full
pub take_outside : (T : Type 0) (s : State) (fault : TakeFault) → frees.NotDamaged {T = T} (Err fault) → IsIndexFull s fault
    → (meta_of s format.index_file).live < room_of s.shape format.index_file → IsOutside (of_take fault)
take_outside T s (takes.Full file live) right full room = absurd (let a = full.1 in let b = full.2 in omega (arith, a, b, room))
take_outside T s takes.Memory right full room = tt
take_outside T s takes.Disk right full room = tt
take_outside T s (takes.Damaged damage) right full room = absurd right

-- the record that is blamed is one of the indexes, and breaks the rule
pub take_blames : (t : State) (fault : TakeFault) → TakeBlamesBroken t.records t.shape fault → TakeNamesIndexes fault → BlamesEntry t (of_take fault)
take_blames t (takes.Full file live) broken names = tt
take_blames t takes.Memory broken names = tt
take_blames t takes.Disk broken names = tt
take_blames t (takes.Damaged damage) broken names = (names, broken)

pub fault_blames : (t : State) (fault : Fault) → BlamesBroken t.records t.shape fault → NamesIndexes fault → BlamesEntry t (of_fault fault)
fault_blames t faults.Memory broken names = tt
fault_blames t faults.Disk broken names = tt
fault_blames t (faults.Damaged damage) broken names = (names, broken)

-- nothing was written before it was blamed
pub fault_untouched : (s t : State) (fault : Fault) → IfSome (damage_of fault) (λ _. SameButReads s t) → BlamesUntouched s t (of_fault fault)
fault_untouched s t faults.Memory same = tt
fault_untouched s t faults.Disk same = tt
fault_untouched s t (faults.Damaged damage) same = ap (λ (z : State). z.records (key_in damage.file damage.id)) same

pub take_untouched : (s t : State) (fault : TakeFault) → IfTakeBlames (SameButReads s t) fault → BlamesUntouched s t (of_take fault)
take_untouched s t (takes.Full file live) same = tt
take_untouched s t takes.Memory same = tt
take_untouched s t takes.Disk same = tt
take_untouched s t (takes.Damaged damage) same = ap (λ (z : State). z.records (key_in damage.file damage.id)) same

-- ---- what is changed before

pub owner_file : (owner : Owner) (target : Target) → owner ≡ owner_of target → (owner.key.file ≡ format.nodes_file)
    ⊎ (owner.key.file ≡ format.relationships_file)
owner_file owner (targets.Node id) is = inl (ap (λ (o : Owner). o.key.file) is)
owner_file owner (targets.Edge id) is = inr (ap (λ (o : Owner). o.key.file) is)

-- so does a record of another file that is made
pub other_leaves : (s t : State) (file : ℕ) → file ≢ format.index_file → file ≢ format.meta_file → IsSameBeside file s.records t.records → LeavesIndexes s t
other_leaves s t file a b beside damage of = beside (key_in damage.file damage.id)
    (λ e. ⊎_elim (λ (i : damage.file ≡ format.index_file). a (sym e ∙ i)) (λ k. b (sym e ∙ k.0)) of)
    (λ e.
    let m : damage.file ≡ format.meta_file = ap (λ (k : Key). k.file) e in
    let i : damage.id ≡ file = ap (λ (k : Key). k.id) e in
    ⊎_elim (λ (x : damage.file ≡ format.index_file). let z = sym x ∙ m in omega arith) (λ k. a (sym i ∙ k.1)) of)

pub names_leave : (s t : State) → IsSameBeside format.names_file s.records t.records → LeavesIndexes s t
names_leave s t beside = other_leaves s t format.names_file (λ e. omega arith) (λ e. omega arith) beside

pub given_beside : (s t : State) (file id : ℕ) → ChangesOnly s t (key_in file id ∷ meta_key_of file ∷ []) → IsSameBeside file s.records t.records
given_beside s t file id changes q other no_meta = ⊎_elim (λ e. e)
    (λ i. absurd (⊎_elim (λ (e : q ≡ key_in file id). other (ap (λ (k : Key). k.file) e)) (λ j. ⊎_elim no_meta (λ (f : ⊥). f) j) i)) (changes.each q)

pub reads_leave : (s t : State) → SameButReads s t → LeavesIndexes s t
reads_leave s t same damage of = ap (λ (z : State). z.records (key_in damage.file damage.id)) same

-- a file of the indexes that is full has no room for one more
full_lacks : (s : State) (file live : ℕ) → IsIndexFull s (takes.Full file live) → LacksRoom s file 1 (Full file live)
full_lacks s file live full =
    let room = ap (λ (f : ℕ). room_of s.shape f) full.0 in
    let lives = ap (λ (f : ℕ). (meta_of s f).live) full.0 in
    let is = full.1 in
    let most = full.2 in
    record { is = ap (λ (n : ℕ). Full file n) (is ∙ sym lives); lacks = omega (arith, room, lives, is, most) }

pub take_full : (s : State) (fault : TakeFault) → IsIndexFull s fault → IsEntryFault s (of_take fault)
take_full s (takes.Full file live) full = (full.0, full_lacks s file live full, full.2)
take_full s takes.Memory full = tt
take_full s takes.Disk full = tt
take_full s (takes.Damaged damage) full = tt

pub take_undamaged : (T : Type 0) (s : State) (fault : TakeFault) → frees.NotDamaged {T = T} (Err fault) → IsIndexFull s fault
    → IsEntryUndamaged s (of_take fault)
take_undamaged T s (takes.Full file live) right full = (full.0, full_lacks s file live full)
take_undamaged T s takes.Memory right full = tt
take_undamaged T s takes.Disk right full = tt
take_undamaged T s (takes.Damaged damage) right full = absurd right

pub fails_full : (s : State) (fault : ChangeFault) → IsFailure fault → IsEntryFault s fault
fails_full s (NoNode id) why = absurd why
fails_full s (NoEdge id) why = absurd why
fails_full s (HasRelationships id degree) why = absurd why
fails_full s IndexThere why = absurd why
fails_full s TooManyIndexes why = absurd why
fails_full s (IndexTooLarge count) why = absurd why
fails_full s (Full file live) why = absurd why
fails_full s (NamesFull count) why = absurd why
fails_full s (PropsFull count) why = absurd why
fails_full s Memory why = tt
fails_full s Disk why = tt
fails_full s (Damaged damage) why = tt

pub take_fails : (fault : TakeFault) → IsNotFull fault → IsFailure (of_take fault)
take_fails (takes.Full file live) less = absurd less
take_fails takes.Memory less = tt
take_fails takes.Disk less = tt
take_fails (takes.Damaged damage) less = tt

-- where no record is blamed, a failure is one of the machine
pub undamaged_outside : (s : State) (fault : ChangeFault) → IsEntryUndamaged s fault → IsFailure fault → IsOutside fault
undamaged_outside s (NoNode id) right fails = fails
undamaged_outside s (NoEdge id) right fails = fails
undamaged_outside s (HasRelationships id degree) right fails = fails
undamaged_outside s IndexThere right fails = fails
undamaged_outside s TooManyIndexes right fails = fails
undamaged_outside s (IndexTooLarge count) right fails = fails
undamaged_outside s (Full file live) right fails = fails
undamaged_outside s (NamesFull count) right fails = fails
undamaged_outside s (PropsFull count) right fails = fails
undamaged_outside s Memory right fails = tt
undamaged_outside s Disk right fails = tt
undamaged_outside s (Damaged damage) right fails = right

-- Where the file is full once the entry that was held has left, none was held.
pub entry_refusal : (s m : State) (held : Option IndexedValue) → held ≢ None → (old_weight held ≡ 0 → m ≡ s)
    → (0 < old_weight held → (meta_of m format.index_file).live < (meta_of s format.index_file).live)
    → (meta_of s format.index_file).live ≤ room_of s.shape format.index_file → m.shape ≡ s.shape → (fault : ChangeFault) → IsEntryUndamaged m fault
    → IsEntryRefusal s held fault
entry_refusal s m held some calm gone room shape (NoNode id) why = absurd why
entry_refusal s m held some calm gone room shape (NoEdge id) why = absurd why
entry_refusal s m held some calm gone room shape (HasRelationships id degree) why = absurd why
entry_refusal s m held some calm gone room shape IndexThere why = absurd why
entry_refusal s m held some calm gone room shape TooManyIndexes why = absurd why
entry_refusal s m held some calm gone room shape (IndexTooLarge count) why = absurd why
entry_refusal s m held some calm gone room shape (NamesFull count) why = absurd why
entry_refusal s m held some calm gone room shape (PropsFull count) why = absurd why
entry_refusal s m held some calm gone room shape Memory why = inl tt
entry_refusal s m held some calm gone room shape Disk why = inl tt
entry_refusal s m held some calm gone room shape (Damaged damage) why = absurd why
entry_refusal s m None some calm gone room shape (Full file live) why = absurd (some refl)
entry_refusal s m (Some held) some calm gone room shape (Full file live) why = by held.value refl
  where
    at : LacksRoom m file 1 (Full file live) → LacksRoom m format.index_file 1 (Full file live)
    at lacks = subst (λ (f : ℕ). LacksRoom m f 1 (Full file live)) why.0 lacks

    by : (o : Option Value) → held.value ≡ o → IsEntryRefusal s (Some held) (Full file live)
    by None is = inr (is, subst (λ (z : State). LacksRoom z format.index_file 1 (Full file live)) (calm (ap value_weight is)) (at why.1))
    by (Some v) is = absurd (
        let weight = ap value_weight is in
        let less = gone (omega (arith, weight)) in
        let lacks = (at why.1).lacks in
        let same = ap (λ (z : Shape). room_of z format.index_file) shape in
        omega (arith, less, lacks, same, room))

-- so many records are live
abbrev live_told : ChangeFault → ℕ
live_told (Full file live) = live
live_told other = 0

-- the file of the indexes is full, by the space as it is left
pub entry_caused : (command : Command) (s t : State) (names now : List (List ℕ)) → AsksRecord command s.records now format.index_file → (fault : ChangeFault)
    → IsEntryFault t fault → IsCaused command s t names now fault
entry_caused command s t names now asks (NoNode id) why = absurd why
entry_caused command s t names now asks (NoEdge id) why = absurd why
entry_caused command s t names now asks (HasRelationships id degree) why = absurd why
entry_caused command s t names now asks IndexThere why = absurd why
entry_caused command s t names now asks TooManyIndexes why = absurd why
entry_caused command s t names now asks (IndexTooLarge count) why = absurd why
entry_caused command s t names now asks (Full file live) why =
    inr (subst (AsksRecord command s.records now) (sym why.0) asks, (ap live_told why.1.is, subst (λ f. live ≡ room_of t.shape f) (sym why.0) why.2))
entry_caused command s t names now asks (NamesFull count) why = absurd why
entry_caused command s t names now asks (PropsFull count) why = absurd why
entry_caused command s t names now asks Memory why = tt
entry_caused command s t names now asks Disk why = tt
entry_caused command s t names now asks (Damaged damage) why = tt

-- the file of the indexes is full where an entry isn't added
pub entry_exact : (t : State) (fault : ChangeFault) → IsEntryFault t fault → IsSetCount t.shape fault
entry_exact t (NoNode id) why = tt
entry_exact t (NoEdge id) why = tt
entry_exact t (HasRelationships id degree) why = why
entry_exact t IndexThere why = why
entry_exact t TooManyIndexes why = why
entry_exact t (IndexTooLarge count) why = why
entry_exact t (Full file live) why = subst (λ f. live ≡ room_of t.shape f) (sym why.0) why.2
entry_exact t (NamesFull count) why = absurd why
entry_exact t (PropsFull count) why = absurd why
entry_exact t Memory why = tt
entry_exact t Disk why = tt
entry_exact t (Damaged damage) why = tt
