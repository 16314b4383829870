-- A fault that is passed on has its cause.
use Rattle.std.specs.Prelude.{Result, Err}
use Rattle.std.specs.Result.{IsErrAnd}
use Rattle.std.proofs.Common.{◌≡◌, ◌≤◌, ℕ, ⊎_elim, ap, sym, subst, refl, arith}
use Rattle.std.proofs.lemmas.Result.{err_from_is_err_and}
use Rattle.rec_bytes.specs.Cause.{HasDiskCause}
use Rattle.rec_bytes.specs.Fault.{HasFaultCause}
use Rattle.rec_bytes.specs.Format as format
use Rattle.rec_bytes.specs.RowFault.{HasRowCause}
use Rattle.rec_bytes.specs.Space.{HasCause, State}
use Rattle.rec_bytes.specs.declared.fault.Fault.{Fault}
use Rattle.rec_bytes.specs.declared.fault.Fault.TheVariants as faults
use Rattle.rec_bytes.specs.declared.row_fault.RowFault.{RowFault}
use Rattle.rec_bytes.specs.declared.row_fault.RowFault.TheVariants as rows
use Rattle.rec_bytes.specs.declared.space.SpaceFault.{SpaceFault}
use Rattle.rec_bytes.specs.declared.space.SpaceFault.TheVariants as spaces
use Rattle.group_store.specs.OpenFault.{HasOpenCause}
use Rattle.group_store.specs.declared.open_fault.OpenFault.{OpenFault}
use Rattle.group_store.specs.declared.open_fault.OpenFault.TheVariants as opens
use Rattle.name_store.specs.InternFault.{HasInternCause}
use Rattle.name_store.specs.declared.intern_fault.InternFault.{InternFault}
use Rattle.name_store.specs.declared.intern_fault.InternFault.TheVariants as interns
use Rattle.prop_index.specs.MakeFault.{HasMakeCause}
use Rattle.prop_index.specs.declared.make_fault.MakeFault.{MakeFault}
use Rattle.prop_index.specs.declared.make_fault.MakeFault.TheVariants as makes
use Rattle.prop_store.specs.SetFault.{HasSetCause}
use Rattle.prop_store.specs.declared.set_fault.SetFault.{SetFault}
use Rattle.prop_store.specs.declared.set_fault.SetFault.TheVariants as sets
use Rattle.change_parts.specs.Assigning.{IsReserveFault}
use Rattle.change_parts.specs.ChangeFault.{HasChangeCause, of_fault, of_intern, of_make, of_open, of_row, of_set, of_space}
use Rattle.change_parts.specs.Rooms.{HasRoom, LacksRoom}
use Rattle.change_parts.specs.declared.change_fault.ChangeFault.{ChangeFault}
use Rattle.change_parts.specs.declared.change_fault.ChangeFault.TheVariants.{Disk}

-- one call after another
pub later_on : {before mid now : ℕ} → before ≤ mid → mid ≤ now → before ≤ now
later_on one other = omega (arith, one, other)

-- of a call that came after others, where no fault was blamed before
passed : {T U E : Type 0} (into : E → ChangeFault) (one : E) (before mid now : ℕ) (r : Result T ChangeFault) (fault : E) → (into fault ≡ Disk → fault ≡ one)
    → before ≤ mid → HasDiskCause {T = U} one mid now (Err fault) → IsErrAnd r (λ f. f ≡ into fault) → HasChangeCause before now r
passed {T} {U} {E} into one before mid now r fault blames early cause is =
    let p = err_from_is_err_and r is in
    let here : HasChangeCause {T = T} before now (Err (into fault)) = record {
      later = let later = cause.later in omega (arith, early, later);
      disk = λ blamed.
          let same : into fault ≡ Disk = cc in
          let rose = cause.disk (ap Err (blames same)) in
          omega (arith, early, rose);
    } in
    subst (HasChangeCause before now) (sym p.1) (subst (λ f. HasChangeCause {T = T} before now (Err f)) (sym p.2) here)

-- ---- refusals that blame no disk
no_disk : {T : Type 0} (before now : ℕ) (r : Result T ChangeFault) (fault : ChangeFault) → (fault ≡ Disk → ⊥) → before ≤ now → IsErrAnd r (λ f. f ≡ fault)
    → HasChangeCause before now r
no_disk {T} before now r fault other early is =
    let p = err_from_is_err_and r is in
    let here : HasChangeCause {T = T} before now (Err fault) = record {
      later = early;
      disk = λ blamed. let same : fault ≡ Disk = cc in absurd (other same);
    } in
    subst (HasChangeCause before now) (sym p.1) (subst (λ f. HasChangeCause {T = T} before now (Err f)) (sym p.2) here)

lacks_no_disk : (s : State) (file needed : ℕ) (fault : ChangeFault) → LacksRoom s file needed fault → fault ≡ Disk → ⊥
lacks_no_disk s file needed fault lacks blamed = let is = lacks.is in cc

pub room_refusal_cause : {T : Type 0} {s : State} {file needed : ℕ} (before now : ℕ) (r : Result T ChangeFault) (fault : ChangeFault)
    → LacksRoom s file needed fault → before ≤ now → IsErrAnd r (λ f. f ≡ fault) → HasChangeCause before now r
room_refusal_cause {T} {s} {file} {needed} before now r fault lacks early is = no_disk before now r fault (lacks_no_disk s file needed fault lacks) early is

pub reserve_refusal_cause : {T : Type 0} {s : State} {count blocks : ℕ} (before now : ℕ) (r : Result T ChangeFault) (fault : ChangeFault)
    → IsReserveFault s count blocks fault → before ≤ now → IsErrAnd r (λ f. f ≡ fault) → HasChangeCause before now r
reserve_refusal_cause {T} {s} {count} {blocks} before now r fault why early is =
    no_disk before now r fault (⊎_elim (lacks_no_disk s format.properties_file count fault)
    (λ (both : HasRoom s format.properties_file count × LacksRoom s format.strings_file blocks fault). lacks_no_disk s format.strings_file blocks fault
    both.1) why) early is

-- ---- faults that are passed on
pub change_cause_passed : {T U : Type 0} (before mid now : ℕ) (r : Result T ChangeFault) (fault : ChangeFault) → before ≤ mid
    → HasChangeCause {T = U} mid now (Err fault) → IsErrAnd r (λ f. f ≡ fault) → HasChangeCause before now r
change_cause_passed before mid now r fault early cause is = passed (λ f. f) Disk before mid now r fault (λ e. e) early cause is

space_blames : (fault : SpaceFault) → of_space fault ≡ Disk → fault ≡ spaces.Disk
space_blames spaces.Memory e = absurd cc
space_blames spaces.Disk e = refl

pub space_cause_passed : {T U : Type 0} (before mid now : ℕ) (r : Result T ChangeFault) (fault : SpaceFault) → before ≤ mid
    → HasCause {T = U} mid now (Err fault) → IsErrAnd r (λ f. f ≡ of_space fault) → HasChangeCause before now r
space_cause_passed before mid now r fault early cause is = passed of_space spaces.Disk before mid now r fault (space_blames fault) early cause is

row_blames : (fault : RowFault) → of_row fault ≡ Disk → fault ≡ rows.Disk
row_blames rows.Disk e = refl
row_blames (rows.Damaged damage) e = absurd cc

pub row_cause_passed : {T U : Type 0} (before mid now : ℕ) (r : Result T ChangeFault) (fault : RowFault) → before ≤ mid
    → HasRowCause {T = U} mid now (Err fault) → IsErrAnd r (λ f. f ≡ of_row fault) → HasChangeCause before now r
row_cause_passed before mid now r fault early cause is = passed of_row rows.Disk before mid now r fault (row_blames fault) early cause is

fault_blames : (fault : Fault) → of_fault fault ≡ Disk → fault ≡ faults.Disk
fault_blames faults.Memory e = absurd cc
fault_blames faults.Disk e = refl
fault_blames (faults.Damaged damage) e = absurd cc

pub fault_cause_passed : {T U : Type 0} (before mid now : ℕ) (r : Result T ChangeFault) (fault : Fault) → before ≤ mid
    → HasFaultCause {T = U} mid now (Err fault) → IsErrAnd r (λ f. f ≡ of_fault fault) → HasChangeCause before now r
fault_cause_passed before mid now r fault early cause is = passed of_fault faults.Disk before mid now r fault (fault_blames fault) early cause is

open_blames : (fault : OpenFault) → of_open fault ≡ Disk → fault ≡ opens.Disk
open_blames (opens.Full live) e = absurd cc
open_blames opens.Memory e = absurd cc
open_blames opens.Disk e = refl
open_blames (opens.Damaged damage) e = absurd cc

pub open_cause_passed : {T U : Type 0} (before mid now : ℕ) (r : Result T ChangeFault) (fault : OpenFault) → before ≤ mid
    → HasOpenCause {T = U} mid now (Err fault) → IsErrAnd r (λ f. f ≡ of_open fault) → HasChangeCause before now r
open_cause_passed before mid now r fault early cause is = passed of_open opens.Disk before mid now r fault (open_blames fault) early cause is

intern_blames : (fault : InternFault) → of_intern fault ≡ Disk → fault ≡ interns.Disk
intern_blames (interns.NamesFull count) e = absurd cc
intern_blames interns.Memory e = absurd cc
intern_blames interns.Disk e = refl

pub intern_cause_passed : {T U : Type 0} (before mid now : ℕ) (r : Result T ChangeFault) (fault : InternFault) → before ≤ mid
    → HasInternCause {T = U} mid now (Err fault) → IsErrAnd r (λ f. f ≡ of_intern fault) → HasChangeCause before now r
intern_cause_passed before mid now r fault early cause is = passed of_intern interns.Disk before mid now r fault (intern_blames fault) early cause is

set_blames : (fault : SetFault) → of_set fault ≡ Disk → fault ≡ sets.Disk
set_blames (sets.PropsFull count) e = absurd cc
set_blames (sets.Full file live) e = absurd cc
set_blames sets.Memory e = absurd cc
set_blames sets.Disk e = refl
set_blames (sets.Damaged damage) e = absurd cc

pub set_cause_passed : {T U : Type 0} (before mid now : ℕ) (r : Result T ChangeFault) (fault : SetFault) → before ≤ mid
    → HasSetCause {T = U} mid now (Err fault) → IsErrAnd r (λ f. f ≡ of_set fault) → HasChangeCause before now r
set_cause_passed before mid now r fault early cause is = passed of_set sets.Disk before mid now r fault (set_blames fault) early cause is

make_blames : (fault : MakeFault) → of_make fault ≡ Disk → fault ≡ makes.Disk
make_blames makes.There e = absurd cc
make_blames makes.Many e = absurd cc
make_blames (makes.TooLarge count) e = absurd cc
make_blames (makes.Full live) e = absurd cc
make_blames makes.Memory e = absurd cc
make_blames makes.Disk e = refl
make_blames (makes.Damaged damage) e = absurd cc

pub make_cause_passed : {T U : Type 0} (before mid now : ℕ) (r : Result T ChangeFault) (fault : MakeFault) → before ≤ mid
    → HasMakeCause {T = U} mid now (Err fault) → IsErrAnd r (λ f. f ≡ of_make fault) → HasChangeCause before now r
make_cause_passed before mid now r fault early cause is = passed of_make makes.Disk before mid now r fault (make_blames fault) early cause is
