-- A fault that is passed on has its cause.
use Rattle.std.specs.Prelude.{Result, Err, IfErr}
use Rattle.std.specs.Result.{IsErrAnd}
use Rattle.std.proofs.Common.{◌≡◌, ◌≤◌, ℕ, sym, subst, refl, arith}
use Rattle.std.proofs.lemmas.Result.{err_from_is_err_and}
use Rattle.rec_bytes.specs.Cause.{HasDiskCause}
use Rattle.rec_bytes.specs.Fault.{HasFaultCause, of_row}
use Rattle.rec_bytes.specs.declared.damage.Damage.{Damage}
use Rattle.rec_bytes.specs.declared.fault.Fault.{Fault}
use Rattle.rec_bytes.specs.declared.fault.Fault.TheVariants as faults
use Rattle.rec_bytes.specs.declared.row_fault.RowFault.{RowFault}
use Rattle.rec_bytes.specs.declared.row_fault.RowFault.TheVariants as rows
use Rattle.rec_bytes.specs.declared.shape.Shape.{Shape}
use Rattle.rec_bytes.proofs.Causes.{passed}
use Rattle.store_rules.specs.Views.{Records}
use Rattle.prop_store.specs.Fault.{BlamesBroken}
use Rattle.traversal_run.specs.Stop.{HasStopCause, StopsAtBroken, of_fault, of_memory}
use Rattle.traversal_run.specs.declared.stop.Stop.{Stop}
use Rattle.traversal_run.specs.declared.stop.Stop.TheVariants as stops

-- one call after another
pub later_on : {before mid now : ℕ} → before ≤ mid → mid ≤ now → before ≤ now
later_on one other = omega (arith, one, other)

pub cause_passed : {T U : Type 0} (before mid now : ℕ) (r : Result T Fault) (fault : Fault) → before ≤ mid → HasFaultCause {T = U} mid now (Err fault)
    → IsErrAnd r (λ f. f ≡ fault) → HasFaultCause before now r
cause_passed before mid now r fault early cause is = passed (λ f. f) faults.Disk faults.Disk before mid now r fault (λ e. e) early cause is

row_blames_disk : (fault : RowFault) → of_row fault ≡ faults.Disk → fault ≡ rows.Disk
row_blames_disk rows.Disk e = refl
row_blames_disk (rows.Damaged damage) e = absurd cc

pub row_cause_passed : {T U : Type 0} (before mid now : ℕ) (r : Result T Fault) (fault : RowFault) → before ≤ mid
    → HasDiskCause {T = U} rows.Disk mid now (Err fault) → IsErrAnd r (λ f. f ≡ of_row fault) → HasFaultCause before now r
row_cause_passed before mid now r fault early cause is = passed of_row rows.Disk faults.Disk before mid now r fault (row_blames_disk fault) early cause is

-- want of memory blames no disk
pub memory_cause : {T : Type 0} (before now : ℕ) (r : Result T Fault) → before ≤ now → IsErrAnd r (λ f. f ≡ faults.Memory) → HasFaultCause before now r
memory_cause {T} before now r early is =
    let p = err_from_is_err_and r is in
    let here : HasFaultCause {T = T} before now (Err faults.Memory) = record { later = early; disk = λ blamed. absurd cc } in
    subst (HasFaultCause before now) (sym p.1) (subst (λ f. HasFaultCause {T = T} before now (Err f)) (sym p.2) here)

pub stop_cause_passed : {T U : Type 0} (before mid now : ℕ) (r : Result T Stop) (stop : Stop) → before ≤ mid → HasStopCause {T = U} mid now (Err stop)
    → IsErrAnd r (λ f. f ≡ stop) → HasStopCause before now r
stop_cause_passed before mid now r stop early cause is = passed (λ f. f) stops.Disk stops.Disk before mid now r stop (λ e. e) early cause is

blames_disk : (fault : Fault) → of_fault fault ≡ stops.Disk → fault ≡ faults.Disk
blames_disk faults.Memory e = absurd cc
blames_disk faults.Disk e = refl
blames_disk (faults.Damaged damage) e = absurd cc

pub fault_stop_cause : {T U : Type 0} (before mid now : ℕ) (r : Result T Stop) (fault : Fault) → before ≤ mid → HasFaultCause {T = U} mid now (Err fault)
    → IsErrAnd r (λ f. f ≡ of_fault fault) → HasStopCause before now r
fault_stop_cause before mid now r fault early cause is = passed of_fault faults.Disk stops.Disk before mid now r fault (blames_disk fault) early cause is

pub memory_stop_cause : {T : Type 0} (before now : ℕ) (r : Result T Stop) → before ≤ now → IsErrAnd r (λ f. f ≡ of_memory) → HasStopCause before now r
memory_stop_cause {T} before now r early is =
    let p = err_from_is_err_and r is in
    let here : HasStopCause {T = T} before now (Err of_memory) = record { later = early; disk = λ blamed. absurd cc } in
    subst (HasStopCause before now) (sym p.1) (subst (λ f. HasStopCause {T = T} before now (Err f)) (sym p.2) here)

-- a stop that is passed on has what it had
pub stop_has : {T : Type 0} (P : Stop → Type 0) (r : Result T Stop) (stop : Stop) → IsErrAnd r (λ s. s ≡ stop) → P stop → IfErr r P
stop_has P r stop is has = let p = err_from_is_err_and r is in rw (p.1, p.2) has

-- one for a fault has what all that come of faults have
pub fault_stop_has : {T : Type 0} (P : Stop → Type 0) → P stops.Memory → P stops.Disk → ((damage : Damage) → P (stops.Damaged damage))
    → (r : Result T Stop) (fault : Fault) → IsErrAnd r (λ s. s ≡ of_fault fault) → IfErr r P
fault_stop_has P memory disk damaged r faults.Memory is = stop_has P r stops.Memory is memory
fault_stop_has P memory disk damaged r faults.Disk is = stop_has P r stops.Disk is disk
fault_stop_has P memory disk damaged r (faults.Damaged damage) is = stop_has P r (stops.Damaged damage) is (damaged damage)

-- and names a record that breaks a rule where the fault does
pub fault_stops : {T : Type 0} (records : Records) (shape : Shape) (r : Result T Stop) (fault : Fault) → IsErrAnd r (λ s. s ≡ of_fault fault)
    → BlamesBroken records shape fault → IfErr r (StopsAtBroken records shape)
fault_stops records shape r faults.Memory is broken = stop_has (StopsAtBroken records shape) r stops.Memory is tt
fault_stops records shape r faults.Disk is broken = stop_has (StopsAtBroken records shape) r stops.Disk is tt
fault_stops records shape r (faults.Damaged damage) is broken = stop_has (StopsAtBroken records shape) r (stops.Damaged damage) is broken
