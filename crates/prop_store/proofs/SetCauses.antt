-- A fault that is passed on as one of a property that is not set has its cause.
use Rattle.std.specs.Prelude.{Result, Err}
use Rattle.std.specs.Result.{IsErrAnd}
use Rattle.std.proofs.Common.{◌≡◌, ◌≤◌, ℕ, arith, refl}
use Rattle.rec_bytes.specs.Space.{HasCause}
use Rattle.rec_bytes.specs.declared.space.SpaceFault.{SpaceFault}
use Rattle.rec_bytes.specs.declared.space.SpaceFault.TheVariants as spaces
use Rattle.rec_bytes.proofs.Causes.{passed}
use Rattle.id_freelist.specs.TakeFault.{HasTakeCause}
use Rattle.id_freelist.specs.declared.take_fault.TakeFault.{TakeFault}
use Rattle.id_freelist.specs.declared.take_fault.TakeFault.TheVariants as takes
use Rattle.rec_bytes.specs.Fault.{HasFaultCause}
use Rattle.rec_bytes.specs.declared.fault.Fault.{Fault}
use Rattle.rec_bytes.specs.declared.fault.Fault.TheVariants as faults
use Rattle.prop_store.specs.SetFault.{HasSetCause, of_fault, of_space, of_take}
use Rattle.prop_store.specs.declared.set_fault.SetFault.{SetFault}
use Rattle.prop_store.specs.declared.set_fault.SetFault.TheVariants as sets

pub set_cause_passed : {T U : Type 0} (before mid now : ℕ) (r : Result T SetFault) (fault : SetFault)
    → before ≤ mid → HasSetCause {T = U} mid now (Err fault) → IsErrAnd r (λ f. f ≡ fault) → HasSetCause before now r
set_cause_passed before mid now r fault early cause is = passed (λ f. f) sets.Disk sets.Disk before mid now r fault (λ e. e) early cause is

blames_disk : (fault : SpaceFault) → of_space fault ≡ sets.Disk → fault ≡ spaces.Disk
blames_disk spaces.Memory e = absurd cc
blames_disk spaces.Disk e = refl

pub space_set_cause : {T U : Type 0} (before mid now : ℕ) (r : Result T SetFault) (fault : SpaceFault)
    → before ≤ mid → HasCause {T = U} mid now (Err fault) → IsErrAnd r (λ f. f ≡ of_space fault) → HasSetCause before now r
space_set_cause before mid now r fault early cause is = passed of_space spaces.Disk sets.Disk before mid now r fault (blames_disk fault) early cause is

fault_blames_disk : (fault : Fault) → of_fault fault ≡ sets.Disk → fault ≡ faults.Disk
fault_blames_disk faults.Memory e = absurd cc
fault_blames_disk faults.Disk e = refl
fault_blames_disk (faults.Damaged damage) e = absurd cc

pub fault_set_cause : {T U : Type 0} (before mid now : ℕ) (r : Result T SetFault) (fault : Fault)
    → before ≤ mid → HasFaultCause {T = U} mid now (Err fault) → IsErrAnd r (λ f. f ≡ of_fault fault) → HasSetCause before now r
fault_set_cause before mid now r fault early cause is = passed of_fault faults.Disk sets.Disk before mid now r fault (fault_blames_disk fault) early cause is

take_blames_disk : (fault : TakeFault) → of_take fault ≡ sets.Disk → fault ≡ takes.Disk
take_blames_disk (takes.Full file live) e = absurd cc
take_blames_disk takes.Memory e = absurd cc
take_blames_disk takes.Disk e = refl
take_blames_disk (takes.Damaged damage) e = absurd cc

pub take_set_cause : {T U : Type 0} (before mid now : ℕ) (r : Result T SetFault) (fault : TakeFault)
    → before ≤ mid → HasTakeCause {T = U} mid now (Err fault) → IsErrAnd r (λ f. f ≡ of_take fault) → HasSetCause before now r
take_set_cause {U = U} before mid now r fault early cause is =
    passed {U = U} of_take takes.Disk sets.Disk before mid now r fault (take_blames_disk fault) early (record { later = cause.later; disk = cause.disk }) is

-- a call that came after others has its cause also seen from before them
pub set_cause_after : {T : Type 0} (before mid now : ℕ) (r : Result T SetFault) → before ≤ mid → HasSetCause mid now r → HasSetCause before now r
set_cause_after before mid now r early cause = record {
  later = let later = cause.later in omega (arith, early, later);
  disk = λ blamed. let rose = cause.disk blamed in omega (arith, early, rose);
}
