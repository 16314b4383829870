-- A fault that is passed on has its cause.
use Rattle.std.specs.Prelude.{Result, Ok, Err, IfOk}
use Rattle.std.specs.Result.{IsErrAnd}
use Rattle.std.proofs.Common.{◌≡◌, ◌≤◌, ℕ, ap, sym, subst, arith}
use Rattle.std.proofs.lemmas.Result.{err_from_is_err_and}
use Rattle.rec_bytes.specs.Cause.{HasDiskCause}

-- of a call that came after others, where no fault was blamed before
pub passed : {T U E F : Type 0} (into : E → F) (one : E) (other : F) (before mid now : ℕ) (r : Result T F) (fault : E) → (into fault ≡ other → fault ≡ one)
    → before ≤ mid → HasDiskCause {T = U} one mid now (Err fault) → IsErrAnd r (λ f. f ≡ into fault) → HasDiskCause other before now r
passed {T} {U} {E} {F} into one other before mid now r fault blames early cause is =
    let p = err_from_is_err_and r is in
    let here : HasDiskCause {T = T} other before now (Err (into fault)) = record {
      later = let later = cause.later in omega (arith, early, later);
      disk = λ blamed.
          let same : into fault ≡ other = cc in
          let rose = cause.disk (ap Err (blames same)) in
          omega (arith, early, rose);
    } in
    subst (HasDiskCause other before now) (sym p.1) (subst (λ f. HasDiskCause {T = T} other before now (Err f)) (sym p.2) here)

-- what is answered blames no disk
pub ok_cause : {T E : Type 0} (fault : E) (before now : ℕ) (x : T) → before ≤ now → HasDiskCause {T = T} fault before now (Ok x)
ok_cause fault before now x later = record { later = later; disk = λ blamed. absurd cc }

-- an exit by a fault promises nothing of an answer
pub never_ok : {T E : Type 0} (r : Result T E) (P : T → Type 0) (Q : E → Type 0) → IsErrAnd r Q → IfOk r P
never_ok (Ok x) P Q is = absurd is
never_ok (Err e) P Q is = tt
