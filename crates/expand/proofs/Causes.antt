-- A fault that is passed on has its cause, and what is said of it holds.
use Rattle.std.specs.Prelude.{Result, Err}
use Rattle.std.specs.Result.{IsErrAnd}
use Rattle.std.proofs.Common.{◌≡◌, ◌≤◌, ℕ, sym, subst, refl}
use Rattle.std.proofs.lemmas.Result.{err_from_is_err_and}
use Rattle.rec_bytes.specs.Cause.{HasDiskCause}
use Rattle.rec_bytes.specs.Fault.{HasFaultCause}
use Rattle.rec_bytes.specs.declared.fault.Fault.{Fault}
use Rattle.rec_bytes.specs.declared.fault.Fault.TheVariants as faults
use Rattle.rec_bytes.specs.declared.row_fault.RowFault.{RowFault}
use Rattle.rec_bytes.specs.declared.row_fault.RowFault.TheVariants as rows
use Rattle.rec_bytes.proofs.Causes.{passed}
use Rattle.expand.specs.ExpandFault.{HasExpandCause, of_fault, of_memory, of_row}
use Rattle.expand.specs.declared.expand_fault.ExpandFault.{ExpandFault}
use Rattle.expand.specs.declared.expand_fault.ExpandFault.TheVariants as expands

pub same_cause_passed : {T U : Type 0} (before mid now : ℕ) (r : Result T ExpandFault) (fault : ExpandFault) → before ≤ mid
    → HasExpandCause {T = U} mid now (Err fault) → IsErrAnd r (λ f. f ≡ fault) → HasExpandCause before now r
same_cause_passed before mid now r fault early cause is = passed (λ f. f) expands.Disk expands.Disk before mid now r fault (λ e. e) early cause is

blames_disk : (fault : Fault) → of_fault fault ≡ expands.Disk → fault ≡ faults.Disk
blames_disk faults.Memory e = absurd cc
blames_disk faults.Disk e = refl
blames_disk (faults.Damaged damage) e = absurd cc

pub expand_cause_passed : {T U : Type 0} (before mid now : ℕ) (r : Result T ExpandFault) (fault : Fault) → before ≤ mid
    → HasFaultCause {T = U} mid now (Err fault) → IsErrAnd r (λ f. f ≡ of_fault fault) → HasExpandCause before now r
expand_cause_passed before mid now r fault early cause is = passed of_fault faults.Disk expands.Disk before mid now r fault (blames_disk fault) early cause is

row_blames_disk : (fault : RowFault) → of_row fault ≡ expands.Disk → fault ≡ rows.Disk
row_blames_disk rows.Disk e = refl
row_blames_disk (rows.Damaged damage) e = absurd cc

pub row_cause_passed : {T U : Type 0} (before mid now : ℕ) (r : Result T ExpandFault) (fault : RowFault) → before ≤ mid
    → HasDiskCause {T = U} rows.Disk mid now (Err fault) → IsErrAnd r (λ f. f ≡ of_row fault) → HasExpandCause before now r
row_cause_passed before mid now r fault early cause is = passed of_row rows.Disk expands.Disk before mid now r fault (row_blames_disk fault) early cause is

pub expand_memory_cause : {T : Type 0} (before now : ℕ) (r : Result T ExpandFault) → before ≤ now → IsErrAnd r (λ f. f ≡ of_memory)
    → HasExpandCause before now r
expand_memory_cause {T} before now r early is =
    let p = err_from_is_err_and r is in
    let here : HasExpandCause {T = T} before now (Err of_memory) = record { later = early; disk = λ blamed. absurd cc } in
    subst (HasExpandCause before now) (sym p.1) (subst (λ f. HasExpandCause {T = T} before now (Err f)) (sym p.2) here)
