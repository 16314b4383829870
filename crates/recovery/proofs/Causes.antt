-- Exits of a recovery by a fault of the disk, and what they blame.
use Rattle.std.specs.Prelude.{Result, Ok, Err}
use Rattle.std.specs.Result.{IsErrAnd}
use Rattle.std.proofs.Common.{◌≡◌, ◌≤◌, ℕ, ap, sym, subst, arith}
use Rattle.std.proofs.lemmas.Result.{err_from_is_err_and}
use Rattle.fault_count.specs.Cause as disk
use Rattle.recovery.specs.RecoverFault.{BlamesDisk, HasCause}
use Rattle.recovery.specs.declared.recover_fault.RecoverFault.{RecoverFault}
use Rattle.recovery.specs.declared.recover_fault.RecoverFault.TheVariants.{Disk}

-- where the disk failed in a call after others
pub disk_cause : {T U E : Type 0} (before mid now : ℕ) (r : Result T RecoverFault) (fault : E) → before ≤ mid
    → disk.HasCause {T = U} mid now (Err fault) → HasCause before now r
disk_cause before mid now r fault early cause =
    let later = cause.later in
    let rose = cause.failed in
    record { later = omega (arith, early, later); disk = λ blamed. omega (arith, early, rose) }

-- where a fault of a call after others is passed on
pub fault_cause : {T U : Type 0} (before mid now : ℕ) (r : Result T RecoverFault) (fault : RecoverFault) → before ≤ mid
    → HasCause {T = U} mid now (Err fault) → IsErrAnd r (λ f. f ≡ fault) → HasCause before now r
fault_cause {T} {U} before mid now r fault early cause is =
    let p = err_from_is_err_and r is in
    let here : HasCause {T = T} before now (Err fault) = record {
      later = let later = cause.later in omega (arith, early, later);
      disk = λ blamed.
          let same : fault ≡ Disk = cc in
          let rose = cause.disk (ap Err same) in
          omega (arith, early, rose);
    } in
    subst (HasCause before now) (sym p.1) (subst (λ f. HasCause {T = T} before now (Err f)) (sym p.2) here)

-- an answer blames no disk
pub ok_cause : {T : Type 0} (before now : ℕ) (x : T) → before ≤ now → HasCause {T = T} before now (Ok x)
ok_cause before now x later = record { later = later; disk = λ blamed. absurd cc }

pub only_disk : {T : Type 0} (r : Result T RecoverFault) → IsErrAnd r (λ f. f ≡ Disk) → BlamesDisk r
only_disk (Ok x) is = absurd is
only_disk (Err e) is = is
