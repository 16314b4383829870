-- A fault that is passed on has its cause.
use Rattle.std.specs.Prelude.{Result, Err}
use Rattle.std.specs.Result.{IsErrAnd}
use Rattle.std.proofs.Common.{◌≡◌, ◌≤◌, ℕ, sym, subst, refl, arith}
use Rattle.std.proofs.lemmas.Result.{err_from_is_err_and}
use Rattle.rec_bytes.specs.Fault.{HasFaultCause, of_space}
use Rattle.rec_bytes.specs.Space.{HasCause}
use Rattle.rec_bytes.specs.declared.damage.Damage.{Damage}
use Rattle.rec_bytes.specs.declared.fault.Fault.{Fault}
use Rattle.rec_bytes.specs.declared.fault.Fault.TheVariants as faults
use Rattle.rec_bytes.specs.declared.space.SpaceFault.{SpaceFault}
use Rattle.rec_bytes.specs.declared.space.SpaceFault.TheVariants as spaces
use Rattle.rec_bytes.proofs.Causes.{passed}

-- one call after another
pub later_on : {before mid now : ℕ} → before ≤ mid → mid ≤ now → before ≤ now
later_on one other = omega (arith, one, other)

pub cause_passed : {T U : Type 0} (before mid now : ℕ) (r : Result T Fault) (fault : Fault) → before ≤ mid → HasFaultCause {T = U} mid now (Err fault)
    → IsErrAnd r (λ f. f ≡ fault) → HasFaultCause before now r
cause_passed before mid now r fault early cause is = passed (λ f. f) faults.Disk faults.Disk before mid now r fault (λ e. e) early cause is

blames_disk : (fault : SpaceFault) → of_space fault ≡ faults.Disk → fault ≡ spaces.Disk
blames_disk spaces.Memory e = absurd cc
blames_disk spaces.Disk e = refl

pub space_cause_passed : {T U : Type 0} (before mid now : ℕ) (r : Result T Fault) (fault : SpaceFault) → before ≤ mid → HasCause {T = U} mid now (Err fault)
    → IsErrAnd r (λ f. f ≡ of_space fault) → HasFaultCause before now r
space_cause_passed before mid now r fault early cause is = passed of_space spaces.Disk faults.Disk before mid now r fault (blames_disk fault) early cause is

-- want of memory blames no disk
pub memory_cause : {T : Type 0} (before now : ℕ) (r : Result T Fault) → before ≤ now → IsErrAnd r (λ f. f ≡ faults.Memory) → HasFaultCause before now r
memory_cause {T} before now r early is =
    let p = err_from_is_err_and r is in
    let here : HasFaultCause {T = T} before now (Err faults.Memory) = record { later = early; disk = λ blamed. absurd cc } in
    subst (HasFaultCause before now) (sym p.1) (subst (λ f. HasFaultCause {T = T} before now (Err f)) (sym p.2) here)

-- nor does damage
pub damage_cause : {T : Type 0} (before now : ℕ) (r : Result T Fault) (damage : Damage) → before ≤ now → IsErrAnd r (λ f. f ≡ faults.Damaged damage)
    → HasFaultCause before now r
damage_cause {T} before now r damage early is =
    let p = err_from_is_err_and r is in
    let here : HasFaultCause {T = T} before now (Err (faults.Damaged damage)) = record { later = early; disk = λ blamed. absurd cc } in
    subst (HasFaultCause before now) (sym p.1) (subst (λ f. HasFaultCause {T = T} before now (Err f)) (sym p.2) here)

-- of a call whose own fault is a space's
pub space_cause : {T U : Type 0} (before mid now : ℕ) (r : Result T SpaceFault) (fault : SpaceFault) → before ≤ mid → HasCause {T = U} mid now (Err fault)
    → IsErrAnd r (λ f. f ≡ fault) → HasCause before now r
space_cause before mid now r fault early cause is = passed (λ f. f) spaces.Disk spaces.Disk before mid now r fault (λ e. e) early cause is
