-- A fault that is passed on where a head is opened or a group is made.
use Rattle.std.specs.Prelude.{Result, Ok, Err, IfErr, IfSome}
use Rattle.std.specs.Result.{IsErrAnd}
use Rattle.std.proofs.Common.{◌≡◌, ◌≤◌, ℕ, sym, subst, refl}
use Rattle.std.proofs.lemmas.Result.{err_from_is_err_and}
use Rattle.rec_bytes.specs.Fault.{HasFaultCause, damage_of}
use Rattle.rec_bytes.specs.RowFault.{HasRowCause}
use Rattle.rec_bytes.specs.Space.{HasCause}
use Rattle.rec_bytes.specs.declared.damage.Damage.{Damage}
use Rattle.rec_bytes.specs.declared.fault.Fault.{Fault}
use Rattle.rec_bytes.specs.declared.fault.Fault.TheVariants as faults
use Rattle.rec_bytes.specs.declared.row_fault.RowFault.{RowFault}
use Rattle.rec_bytes.specs.declared.row_fault.RowFault.TheVariants as rows
use Rattle.rec_bytes.specs.declared.space.SpaceFault.{SpaceFault}
use Rattle.rec_bytes.specs.declared.space.SpaceFault.TheVariants as spaces
use Rattle.rec_bytes.proofs.Causes.{passed}
use Rattle.id_freelist.specs.TakeFault.{HasTakeCause}
use Rattle.id_freelist.specs.declared.take_fault.TakeFault.{TakeFault}
use Rattle.id_freelist.specs.declared.take_fault.TakeFault.TheVariants as takes
use Rattle.group_store.specs.OpenFault.{HasOpenCause, IfRefuses, OnRefusal, of_fault, of_row, of_space, of_take}
use Rattle.group_store.specs.declared.open_fault.OpenFault.{OpenFault}
use Rattle.group_store.specs.declared.open_fault.OpenFault.TheVariants.{Full, Memory, Disk, Damaged}

-- ---- its cause

pub open_cause : {T U : Type 0} (before mid now : ℕ) (r : Result T OpenFault) (fault : OpenFault) → before ≤ mid → HasOpenCause {T = U} mid now (Err fault)
    → IsErrAnd r (λ f. f ≡ fault) → HasOpenCause before now r
open_cause before mid now r fault early cause is = passed (λ f. f) Disk Disk before mid now r fault (λ e. e) early cause is

blames_disk : (fault : Fault) → of_fault fault ≡ Disk → fault ≡ faults.Disk
blames_disk faults.Memory e = absurd cc
blames_disk faults.Disk e = refl
blames_disk (faults.Damaged damage) e = absurd cc

pub fault_cause : {T U : Type 0} (before mid now : ℕ) (r : Result T OpenFault) (fault : Fault) → before ≤ mid → HasFaultCause {T = U} mid now (Err fault)
    → IsErrAnd r (λ f. f ≡ of_fault fault) → HasOpenCause before now r
fault_cause before mid now r fault early cause is = passed of_fault faults.Disk Disk before mid now r fault (blames_disk fault) early cause is

space_blames : (fault : SpaceFault) → of_space fault ≡ Disk → fault ≡ spaces.Disk
space_blames spaces.Memory e = absurd cc
space_blames spaces.Disk e = refl

pub space_cause : {T U : Type 0} (before mid now : ℕ) (r : Result T OpenFault) (fault : SpaceFault) → before ≤ mid → HasCause {T = U} mid now (Err fault)
    → IsErrAnd r (λ f. f ≡ of_space fault) → HasOpenCause before now r
space_cause before mid now r fault early cause is = passed of_space spaces.Disk Disk before mid now r fault (space_blames fault) early cause is

row_blames : (fault : RowFault) → of_row fault ≡ Disk → fault ≡ rows.Disk
row_blames rows.Disk e = refl
row_blames (rows.Damaged damage) e = absurd cc

pub row_cause : {T U : Type 0} (before mid now : ℕ) (r : Result T OpenFault) (fault : RowFault) → before ≤ mid → HasRowCause {T = U} mid now (Err fault)
    → IsErrAnd r (λ f. f ≡ of_row fault) → HasOpenCause before now r
row_cause before mid now r fault early cause is = passed of_row rows.Disk Disk before mid now r fault (row_blames fault) early cause is

-- of an identifier that isn't taken, by its own words
pub take_cause : {T U : Type 0} (before mid now : ℕ) (r : Result T OpenFault) (fault : TakeFault) → before ≤ mid → HasTakeCause {T = U} mid now (Err fault)
    → IsErrAnd r (λ f. f ≡ of_take fault) → HasOpenCause before now r
take_cause before mid now r fault early cause is =
    passed of_take takes.Disk Disk before mid now r fault (by fault) early (record { later = cause.later; disk = cause.disk }) is
  where
    by : (fault : TakeFault) → of_take fault ≡ Disk → fault ≡ takes.Disk
    by (takes.Full file live) e = absurd cc
    by takes.Memory e = absurd cc
    by takes.Disk e = refl
    by (takes.Damaged damage) e = absurd cc

-- damage blames no disk
pub damage_cause : {T : Type 0} (before now : ℕ) (r : Result T OpenFault) (damage : Damage) → before ≤ now → IsErrAnd r (λ f. f ≡ Damaged damage)
    → HasOpenCause before now r
damage_cause {T} before now r damage early is =
    let p = err_from_is_err_and r is in
    let here : HasOpenCause {T = T} before now (Err (Damaged damage)) = record { later = early; disk = λ blamed. absurd cc } in
    subst (HasOpenCause before now) (sym p.1) (subst (λ f. HasOpenCause {T = T} before now (Err f)) (sym p.2) here)

-- ---- what holds where a record is said to be damaged, or the file to be full

pub on_refusal : {T : Type 0} (r : Result T OpenFault) (P : Type 0) → P → OnRefusal r P
on_refusal (Ok value) P p = tt
on_refusal (Err (Full live)) P p = p
on_refusal (Err Memory) P p = tt
on_refusal (Err Disk) P p = tt
on_refusal (Err (Damaged damage)) P p = p

pub if_refuses : (fault : OpenFault) (P Q : Type 0) → (P → Q) → IfRefuses P fault → IfRefuses Q fault
if_refuses (Full live) P Q f h = f h
if_refuses Memory P Q f h = tt
if_refuses Disk P Q f h = tt
if_refuses (Damaged damage) P Q f h = f h

pub if_refusal : {T : Type 0} (r : Result T OpenFault) (P Q : Type 0) → (P → Q) → OnRefusal r P → OnRefusal r Q
if_refusal (Ok value) P Q f h = tt
if_refusal (Err fault) P Q f h = if_refuses fault P Q f h

-- of a call that makes no group
pub refuses : (fault : Fault) (P : Type 0) → IfSome (damage_of fault) (λ _. P) → IfRefuses P (of_fault fault)
refuses faults.Memory P h = tt
refuses faults.Disk P h = tt
refuses (faults.Damaged damage) P h = h

-- a fault of a space has what both of its causes have
pub space_has : {T : Type 0} (P : OpenFault → Type 0) → P Memory → P Disk → (r : Result T OpenFault) (fault : SpaceFault)
    → IsErrAnd r (λ f. f ≡ of_space fault) → IfErr r P
space_has P memory disk r fault is = let p = err_from_is_err_and r is in rw (p.1, p.2) (by fault)
  where
    by : (fault : SpaceFault) → P (of_space fault)
    by spaces.Memory = memory
    by spaces.Disk = disk
