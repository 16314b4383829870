-- A fault that is passed on has its cause.
use Rattle.std.specs.Prelude.{Result, Err}
use Rattle.std.specs.Result.{IsErrAnd}
use Rattle.std.proofs.Common.{◌≡◌, ◌≤◌, ℕ, sym, subst, refl, arith}
use Rattle.std.proofs.lemmas.Result.{err_from_is_err_and}
use Rattle.rec_bytes.specs.Cause.{HasDiskCause}
use Rattle.rec_bytes.specs.Fault.{HasFaultCause, of_row as row_fault}
use Rattle.rec_bytes.specs.declared.fault.Fault.{Fault}
use Rattle.rec_bytes.specs.declared.fault.Fault.TheVariants as faults
use Rattle.rec_bytes.specs.declared.row_fault.RowFault.{RowFault}
use Rattle.rec_bytes.specs.declared.row_fault.RowFault.TheVariants as rows
use Rattle.rec_bytes.proofs.Causes.{passed}

-- one call after another
pub later_on : {before mid now : ℕ} → before ≤ mid → mid ≤ now → before ≤ now
later_on one other = omega (arith, one, other)

pub cause_passed : {T U : Type 0} (before mid now : ℕ) (r : Result T Fault) (fault : Fault) → before ≤ mid → HasFaultCause {T = U} mid now (Err fault)
    → IsErrAnd r (λ f. f ≡ fault) → HasFaultCause before now r
cause_passed before mid now r fault early cause is = passed (λ f. f) faults.Disk faults.Disk before mid now r fault (λ e. e) early cause is

-- a later call's result, where none was blamed before
pub cause_later : {T : Type 0} (before mid now : ℕ) (r : Result T Fault) → before ≤ mid → HasFaultCause mid now r → HasFaultCause before now r
cause_later before mid now r early cause = record {
  later = let later = cause.later in omega (arith, early, later);
  disk = λ blamed. let rose = cause.disk blamed in omega (arith, early, rose);
}

-- want of memory blames no disk
pub memory_cause : {T : Type 0} (before now : ℕ) (r : Result T Fault) → before ≤ now → IsErrAnd r (λ f. f ≡ faults.Memory) → HasFaultCause before now r
memory_cause {T} before now r early is =
    let p = err_from_is_err_and r is in
    let here : HasFaultCause {T = T} before now (Err faults.Memory) = record { later = early; disk = λ blamed. absurd cc } in
    subst (HasFaultCause before now) (sym p.1) (subst (λ f. HasFaultCause {T = T} before now (Err f)) (sym p.2) here)

row_blames : (fault : RowFault) → row_fault fault ≡ faults.Disk → fault ≡ rows.Disk
row_blames rows.Disk e = refl
row_blames (rows.Damaged damage) e = absurd cc

pub row_passed : {T U : Type 0} (before mid now : ℕ) (r : Result T Fault) (fault : RowFault) → before ≤ mid → HasDiskCause {T = U} rows.Disk mid now (Err fault)
    → IsErrAnd r (λ f. f ≡ row_fault fault) → HasFaultCause before now r
row_passed before mid now r fault early cause is = passed row_fault rows.Disk faults.Disk before mid now r fault (row_blames fault) early cause is
