-- A fault that is passed on has its cause.
use Rattle.std.specs.Prelude.{Result, Err}
use Rattle.std.specs.Result.{IsErrAnd}
use Rattle.std.proofs.Common.{◌≡◌, ◌≤◌, ℕ, ap, sym, subst, arith}
use Rattle.std.proofs.lemmas.Result.{err_from_is_err_and}
use Rattle.rec_bytes.specs.declared.space.SpaceFault.{SpaceFault}
use Rattle.rec_bytes.specs.declared.space.SpaceFault.TheVariants.{Disk}
use Rattle.rec_bytes.specs.Space.{HasCause}

-- a later call's fault, where none was blamed before
pub cause_passed : {T U : Type 0} (before mid now : ℕ) (r : Result T SpaceFault) (fault : SpaceFault) → before ≤ mid → HasCause {T = U} mid now (Err fault)
    → IsErrAnd r (λ f. f ≡ fault) → HasCause before now r
cause_passed {T} {U} before mid now r fault early cause passed =
    let p = err_from_is_err_and r passed in
    let here : HasCause {T = T} before now (Err fault) = record {
      later = let later = cause.later in omega (arith, early, later);
      disk = λ blamed.
          let is : fault ≡ Disk = cc in
          let rose = cause.disk (ap Err is) in
          omega (arith, early, rose);
    } in
    subst (HasCause before now) (sym p.1) (subst (λ f. HasCause {T = T} before now (Err f)) (sym p.2) here)
