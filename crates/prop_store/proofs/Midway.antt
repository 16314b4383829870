-- What a change that takes identifiers blames.
use Rattle.std.specs.Prelude.{Result, Err, IfErr}
use Rattle.std.specs.Result.{IsErrAnd}
use Rattle.rec_bytes.specs.declared.key.Key.{Key}
use Rattle.rec_bytes.specs.declared.meta.Meta.{Meta}
use Rattle.rec_bytes.specs.Format as format
use Rattle.rec_bytes.specs.Meta as metas
use Rattle.rec_bytes.specs.RecordFiles.{meta_key_of, room_of}
use Rattle.id_freelist.specs.ListDamage.{BlamesList, HarmsNoList}
use Rattle.id_freelist.specs.Taking.{IsTakeFault}
use Rattle.id_freelist.proofs.ListSteps.{beside_harms_none, blames_before, blames_list, reads_harm_none}
use Rattle.id_freelist.proofs.TakeBreaches.{list_breaks}
use Rattle.std.proofs.Common.{◌∙◌, ◌≡◌, ◌≤◌, ℕ, sym, ap, subst, inl, inr, ⊎_elim, arith, ◌<◌, refl}
use Rattle.std.proofs.lemmas.Result.{err_from_is_err_and}
use Rattle.rec_bytes.specs.declared.damage.Damage.{Damage}
use Rattle.rec_bytes.specs.declared.fault.Fault.{Fault}
use Rattle.rec_bytes.specs.declared.fault.Fault.TheVariants as faults
use Rattle.rec_bytes.specs.declared.shape.Shape.{Shape}
use Rattle.rec_bytes.specs.declared.space.SpaceFault.{SpaceFault}
use Rattle.rec_bytes.specs.declared.space.SpaceFault.TheVariants as spaces
use Rattle.rec_bytes.specs.Space.{SameButReads, State, meta_of}
use Rattle.store_rules.specs.Breaking.{Breaks}
use Rattle.store_rules.specs.Views.{Records, key_in, rec_at}
use Rattle.id_freelist.specs.TakeFault as take_faults
use Rattle.id_freelist.specs.declared.take_fault.TakeFault.{TakeFault}
use Rattle.id_freelist.specs.declared.take_fault.TakeFault.TheVariants as takes
use Rattle.prop_store.specs.Fault.{BlamesBroken}
use Rattle.prop_store.specs.FileChange.{IsSameBeside}
use Rattle.prop_store.specs.SetFault.{HasSetCause, IsFullFile, IsSetCause, IsTextCause, of_fault, of_space, of_take}
use Rattle.prop_store.specs.Setting.{BlamesLists, SetBlamesBroken}
use Rattle.prop_store.specs.declared.set_fault.SetFault.{SetFault}
use Rattle.prop_store.specs.declared.set_fault.SetFault.TheVariants.{Damaged, Disk, Full, Memory, PropsFull}

-- ---- what is blamed is wrong with a list

-- of the blocks
pub lists_of_text : (s : State) (fault : TakeFault) → BlamesList s format.strings_file fault → BlamesLists s (of_take fault)
lists_of_text s (takes.Full file live) why = tt
lists_of_text s takes.Memory why = tt
lists_of_text s takes.Disk why = tt
lists_of_text s (takes.Damaged d) why = inr why

-- of the properties
pub lists_of_take : (s : State) (fault : TakeFault) → BlamesList s format.properties_file fault → BlamesLists s (of_take fault)
lists_of_take s (takes.Full file live) why = tt
lists_of_take s takes.Memory why = tt
lists_of_take s takes.Disk why = tt
lists_of_take s (takes.Damaged d) why = inl why

pub lists_of_space : (s : State) (fault : SpaceFault) → BlamesLists s (of_space fault)
lists_of_space s spaces.Memory = tt
lists_of_space s spaces.Disk = tt

-- so it breaks the rule
pub lists_broken : (s : State) (fault : SetFault) → BlamesLists s fault → SetBlamesBroken s fault
lists_broken s (Full file live) why = tt
lists_broken s Memory why = tt
lists_broken s Disk why = tt
lists_broken s (PropsFull count) why = tt
lists_broken s (Damaged d) why = ⊎_elim (list_breaks s.records s.shape format.properties_file refl d) (list_breaks s.records s.shape format.strings_file refl d)
    why

-- the change began with reads
pub lists_read : (s t : State) (fault : SetFault) → SameButReads s t → BlamesLists t fault → BlamesLists s fault
lists_read s t (Full file live) same why = tt
lists_read s t Memory same why = tt
lists_read s t Disk same why = tt
lists_read s t (PropsFull count) same why = tt
lists_read s t (Damaged d) same why = ⊎_elim (λ k. inl (reads_harm_none s t format.properties_file same d k))
    (λ k. inr (reads_harm_none s t format.strings_file same d k)) why

pub set_read : (s t : State) (fault : SetFault) → SameButReads s t → SetBlamesBroken t fault → SetBlamesBroken s fault
set_read s t (Full file live) same why = tt
set_read s t Memory same why = tt
set_read s t Disk same why = tt
set_read s t (PropsFull count) same why = tt
set_read s t (Damaged d) same why = subst (λ (r : Records). Breaks r s.shape d) (ap (λ (z : State). z.records) same)
    (subst (λ (h : Shape). Breaks t.records h d) (ap (λ (z : State). z.shape) same) why)

-- what holds of a fault that is passed on holds of the result
pub set_has : {T : Type 0} (P : SetFault → Type 0) (r : Result T SetFault) (fault : SetFault) → IsErrAnd r (λ f. f ≡ fault) → P fault → IfErr r P
set_has {T} P r fault h has = let p = err_from_is_err_and r h in subst (λ (z : Result T SetFault). IfErr z P) (sym p.1) (subst P (sym p.2) has)

pub take_has : {T : Type 0} (P : TakeFault → Type 0) (r : Result T TakeFault) (fault : TakeFault) → IsErrAnd r (λ f. f ≡ fault) → P fault → IfErr r P
take_has {T} P r fault h has = let p = err_from_is_err_and r h in subst (λ (z : Result T TakeFault). IfErr z P) (sym p.1) (subst P (sym p.2) has)

-- ---- what a refusal carries

pub full_read : (s t : State) (file live : ℕ) → SameButReads s t → IsFullFile s file live → IsFullFile t file live
full_read s t file live same full = subst (λ (z : State). IsFullFile z file live) (sym same) (full.0, full.1)

pub take_full : (s t : State) (file full live : ℕ) → IsTakeFault s file (takes.Full full live) → SameButReads s t → IsFullFile t full live
take_full s t file full live why same =
    full_read s t full live same (why.1 ∙ ap (λ f. (meta_of s f).live) (sym why.0), why.2 ∙ sym (ap (room_of s.shape) why.0))

-- of a block
pub text_caused : (s t : State) (fault : TakeFault) → IsTakeFault s format.strings_file fault → SameButReads s t → IsTextCause t 1 fault
text_caused s t (takes.Full full live) why same = (take_full s t format.strings_file full live why same, (why.0, omega arith))
text_caused s t takes.Memory why same = tt
text_caused s t takes.Disk why same = tt
text_caused s t (takes.Damaged d) why same = tt

pub text_caused_space : (t : State) (blocks : ℕ) (fault : SpaceFault) → IsTextCause t blocks (take_faults.of_space fault)
text_caused_space t blocks spaces.Memory = tt
text_caused_space t blocks spaces.Disk = tt

-- one of them was needed
pub text_caused_more : (t : State) (blocks : ℕ) → 0 < blocks → (fault : TakeFault) → IsTextCause t 1 fault → IsTextCause t blocks fault
text_caused_more t blocks some (takes.Full full live) why = (why.0, (why.1.0, some))
text_caused_more t blocks some takes.Memory why = tt
text_caused_more t blocks some takes.Disk why = tt
text_caused_more t blocks some (takes.Damaged d) why = tt

-- so it is of a value
pub set_caused_text : (crowded new : Type 0) (t : State) (blocks : ℕ) (fault : TakeFault) → IsTextCause t blocks fault
    → IsSetCause crowded new blocks t (of_take fault)
set_caused_text crowded new t blocks (takes.Full file live) why = (why.0, inr why.1)
set_caused_text crowded new t blocks takes.Memory why = tt
set_caused_text crowded new t blocks takes.Disk why = tt
set_caused_text crowded new t blocks (takes.Damaged d) why = tt

pub set_caused_take : (crowded new : Type 0) (s t : State) (blocks : ℕ) (fault : TakeFault)
    → ((meta_of s format.properties_file).live ≡ room_of s.shape format.properties_file → new) → IsTakeFault s format.properties_file fault → SameButReads s t
    → IsSetCause crowded new blocks t (of_take fault)
set_caused_take crowded new s t blocks (takes.Full file live) full why same =
    (take_full s t format.properties_file file live why same, inl (why.0, full (sym why.1 ∙ why.2)))
set_caused_take crowded new s t blocks takes.Memory full why same = tt
set_caused_take crowded new s t blocks takes.Disk full why same = tt
set_caused_take crowded new s t blocks (takes.Damaged d) full why same = tt

pub set_caused_space : (crowded new : Type 0) (t : State) (blocks : ℕ) (fault : SpaceFault) → IsSetCause crowded new blocks t (of_space fault)
set_caused_space crowded new t blocks spaces.Memory = tt
set_caused_space crowded new t blocks spaces.Disk = tt

pub set_caused_fault : (crowded new : Type 0) (t : State) (blocks : ℕ) (fault : Fault) → IsSetCause crowded new blocks t (of_fault fault)
set_caused_fault crowded new t blocks faults.Memory = tt
set_caused_fault crowded new t blocks faults.Disk = tt
set_caused_fault crowded new t blocks (faults.Damaged d) = tt

-- where the element isn't crowded, and a property is new only so
pub set_caused_more : (crowded new then : Type 0) → (new → then) → (t : State) (blocks : ℕ) (fault : SetFault) → IsSetCause ⊥ new blocks t fault
    → IsSetCause crowded then blocks t fault
set_caused_more crowded new then to t blocks (PropsFull count) why = absurd why.1
set_caused_more crowded new then to t blocks (Full file live) why = (why.0, ⊎_elim (λ k. inl (k.0, to k.1)) (λ k. inr k) why.1)
set_caused_more crowded new then to t blocks Memory why = tt
set_caused_more crowded new then to t blocks Disk why = tt
set_caused_more crowded new then to t blocks (Damaged d) why = tt

-- ---- what is blamed is broken still

pub still_read : (s t : State) (d : Damage) → SameButReads s t → Breaks s.records s.shape d → Breaks t.records t.shape d
still_read s t d same broken = subst (λ (z : State). Breaks z.records z.shape d) (sym same) broken

pub take_still : (s t : State) (fault : TakeFault) → take_faults.BlamesBroken s.records s.shape fault → SameButReads s t
    → take_faults.BlamesBroken t.records t.shape fault
take_still s t (takes.Full file live) why same = tt
take_still s t takes.Memory why same = tt
take_still s t takes.Disk why same = tt
take_still s t (takes.Damaged d) why same = still_read s t d same why

pub take_still_space : (t : State) (fault : SpaceFault) → take_faults.BlamesBroken t.records t.shape (take_faults.of_space fault)
take_still_space t spaces.Memory = tt
take_still_space t spaces.Disk = tt

pub set_still_take : (t : State) (fault : TakeFault) → take_faults.BlamesBroken t.records t.shape fault → SetBlamesBroken t (of_take fault)
set_still_take t (takes.Full file live) why = tt
set_still_take t takes.Memory why = tt
set_still_take t takes.Disk why = tt
set_still_take t (takes.Damaged d) why = why

pub set_still_space : (t : State) (fault : SpaceFault) → SetBlamesBroken t (of_space fault)
set_still_space t spaces.Memory = tt
set_still_space t spaces.Disk = tt

pub set_still_fault : (s t : State) (fault : Fault) → BlamesBroken s.records s.shape fault → SameButReads s t → SetBlamesBroken t (of_fault fault)
set_still_fault s t faults.Memory why same = tt
set_still_fault s t faults.Disk why same = tt
set_still_fault s t (faults.Damaged d) why same = still_read s t d same why

-- ---- a take of a property's identifier, after blocks were written

module _ (s a : State) (beside : IsSameBeside format.strings_file s.records a.records) (shape : a.shape ≡ s.shape) where
  abbrev file : ℕ
  file = format.properties_file

  meta_record_stays : a.records (meta_key_of file) ≡ s.records (meta_key_of file)
  meta_record_stays = beside (meta_key_of file) (λ e. absurd (omega (arith, e)))
      (λ e. let k : file ≡ format.strings_file = ap (λ (k : Key). k.id) e in omega arith)

  meta_stays : meta_of a file ≡ meta_of s file
  meta_stays = ap metas.meta_of meta_record_stays

  here : (x : ℕ) → rec_at a.records file x ≡ rec_at s.records file x
  here x = beside (key_in file x) (λ e. absurd (omega (arith, e))) (λ e. let k : file ≡ format.meta_file = ap (λ (k : Key). k.file) e in omega arith)

  -- what is wrong with their list was so before
  pub text_harms_none : HarmsNoList s a file
  text_harms_none = beside_harms_none s a file shape meta_record_stays here

  -- a file that is full now was full before
  pub full_before : (meta_of a file).live ≡ room_of a.shape file → (meta_of s file).live ≡ room_of s.shape file
  full_before full = sym (ap (λ (m : Meta). m.live) meta_stays) ∙ full ∙ ap (λ (h : Shape). room_of h file) shape

  -- and so is what a take of it blames
  pub property_take : (fault : TakeFault) → IsTakeFault a file fault → BlamesLists s (of_take fault)
  property_take fault why = lists_of_take s fault (blames_before s a file fault text_harms_none (blames_list a file fault why))

-- where a record is blamed the disk is not
pub set_cause : {T : Type 0} (before now : ℕ) (r : Result T SetFault) (fault : Fault) (d : Damage) → IsErrAnd r (λ f. f ≡ of_fault fault)
    → fault ≡ faults.Damaged d → before ≤ now → HasSetCause before now r
set_cause {T} before now r fault d h is later =
    let p = err_from_is_err_and r h in
    subst (HasSetCause {T = T} before now) (sym p.1) (subst (λ f. HasSetCause {T = T} before now (Err f)) (sym (p.2 ∙ ap of_fault is))
    (record { later = later; disk = λ e. absurd cc }))
