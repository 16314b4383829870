-- A fault that is passed on has its cause.
use Rattle.std.specs.Prelude.{Result, Err, IfErr}
use Rattle.std.specs.Result.{IsErrAnd}
use Rattle.std.proofs.Common.{◌≡◌, ◌≤◌, ℕ, sym, subst, refl}
use Rattle.std.proofs.lemmas.Result.{err_from_is_err_and}
use Rattle.rec_bytes.specs.Fault.{HasFaultCause, of_space}
use Rattle.rec_bytes.specs.Space.{HasCause}
use Rattle.rec_bytes.specs.declared.damage.Damage.{Damage}
use Rattle.rec_bytes.specs.declared.fault.Fault.{Fault}
use Rattle.rec_bytes.specs.declared.fault.Fault.TheVariants as faults
use Rattle.rec_bytes.specs.declared.space.SpaceFault.{SpaceFault}
use Rattle.rec_bytes.specs.declared.space.SpaceFault.TheVariants as spaces
use Rattle.rec_bytes.proofs.Causes.{passed}

pub cause_passed : {T U : Type 0} (before mid now : ℕ) (r : Result T Fault) (fault : Fault) → before ≤ mid → HasFaultCause {T = U} mid now (Err fault)
    → IsErrAnd r (λ f. f ≡ fault) → HasFaultCause before now r
cause_passed before mid now r fault early cause is = passed (λ f. f) faults.Disk faults.Disk before mid now r fault (λ e. e) early cause is

blames_disk : (fault : SpaceFault) → of_space fault ≡ faults.Disk → fault ≡ spaces.Disk
blames_disk spaces.Memory e = absurd cc
blames_disk spaces.Disk e = refl

pub space_cause_passed : {T U : Type 0} (before mid now : ℕ) (r : Result T Fault) (fault : SpaceFault) → before ≤ mid → HasCause {T = U} mid now (Err fault)
    → IsErrAnd r (λ f. f ≡ of_space fault) → HasFaultCause before now r
space_cause_passed before mid now r fault early cause is = passed of_space spaces.Disk faults.Disk before mid now r fault (blames_disk fault) early cause is

-- want of memory blames no disk
pub memory_cause : {T : Type 0} (before now : ℕ) (r : Result T Fault) → before ≤ now → IsErrAnd r (λ f. f ≡ faults.Memory) → HasFaultCause before now r
memory_cause {T} before now r early is =
    let p = err_from_is_err_and r is in
    let here : HasFaultCause {T = T} before now (Err faults.Memory) = record { later = early; disk = λ blamed. absurd cc } in
    subst (HasFaultCause before now) (sym p.1) (subst (λ f. HasFaultCause {T = T} before now (Err f)) (sym p.2) here)

-- nor does damage
pub damage_cause : {T : Type 0} (before now : ℕ) (r : Result T Fault) (damage : Damage) → before ≤ now → IsErrAnd r (λ f. f ≡ faults.Damaged damage)
    → HasFaultCause before now r
damage_cause {T} before now r damage early is =
    let p = err_from_is_err_and r is in
    let here : HasFaultCause {T = T} before now (Err (faults.Damaged damage)) = record { later = early; disk = λ blamed. absurd cc } in
    subst (HasFaultCause before now) (sym p.1) (subst (λ f. HasFaultCause {T = T} before now (Err f)) (sym p.2) here)

-- a fault that is passed on has what it had
pub same_has : {T E : Type 0} (P : E → Type 0) (r : Result T E) (fault : E) → IsErrAnd r (λ f. f ≡ fault) → P fault → IfErr r P
same_has P r fault is has = let p = err_from_is_err_and r is in rw (p.1, p.2) has

-- and a fault of a space has what both of its causes have
pub space_has : {T : Type 0} (P : Fault → Type 0) → P faults.Memory → P faults.Disk → (r : Result T Fault) (fault : SpaceFault) → IsErrAnd r
    (λ f. f ≡ of_space fault) → IfErr r P
space_has P memory disk r spaces.Memory is = same_has P r faults.Memory is memory
space_has P memory disk r spaces.Disk is = same_has P r faults.Disk is disk
