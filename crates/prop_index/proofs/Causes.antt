-- Faults that are passed on as those of a call that takes an identifier, or that makes an index, have their cause. So has damage.
use Rattle.std.specs.Prelude.{Result, Ok, Err}
use Rattle.std.specs.Result.{IsErrAnd}
use Rattle.std.proofs.Common.{◌≡◌, ◌≢◌, ◌≤◌, ℕ, ap, refl, sym, subst, arith}
use Rattle.std.proofs.lemmas.Result.{err_from_is_err_and}
use Rattle.rec_bytes.specs.Fault.{HasFaultCause}
use Rattle.rec_bytes.specs.Space.{HasCause}
use Rattle.rec_bytes.specs.declared.damage.Damage.{Damage}
use Rattle.rec_bytes.specs.declared.fault.Fault.{Fault}
use Rattle.rec_bytes.specs.declared.fault.Fault.TheVariants as faults
use Rattle.rec_bytes.specs.declared.space.SpaceFault.{SpaceFault}
use Rattle.rec_bytes.specs.declared.space.SpaceFault.TheVariants as spaces
use Rattle.rec_bytes.proofs.Causes.{passed}
use Rattle.id_freelist.specs.TakeFault.{HasTakeCause}
use Rattle.id_freelist.specs.TakeFault as takes
use Rattle.id_freelist.specs.declared.take_fault.TakeFault.{TakeFault}
use Rattle.id_freelist.specs.declared.take_fault.TakeFault.TheVariants as take
use Rattle.prop_index.specs.MakeFault.{HasMakeCause, of_fault}
use Rattle.prop_index.specs.declared.make_fault.MakeFault.{MakeFault}
use Rattle.prop_index.specs.declared.make_fault.MakeFault.TheVariants as make

-- ---- where an identifier is taken

pub take_cause_passed : {T U : Type 0} (before mid now : ℕ) (r : Result T TakeFault) (fault : TakeFault)
    → before ≤ mid → HasTakeCause {T = U} mid now (Err fault) → IsErrAnd r (λ f. f ≡ fault) → HasTakeCause before now r
take_cause_passed {T} before mid now r fault early cause is =
    let p = err_from_is_err_and r is in
    let here : HasTakeCause {T = T} before now (Err fault) = record {
      later = let later = cause.later in omega (arith, early, later);
      disk = λ blamed.
          let same : fault ≡ take.Disk = cc in
          let rose = cause.disk (ap Err same) in
          omega (arith, early, rose);
    } in
    subst (HasTakeCause before now) (sym p.1) (subst (λ f. HasTakeCause {T = T} before now (Err f)) (sym p.2) here)

blames_disk : (fault : SpaceFault) → takes.of_space fault ≡ take.Disk → fault ≡ spaces.Disk
blames_disk spaces.Memory e = absurd cc
blames_disk spaces.Disk e = refl

pub space_take_cause : {T U : Type 0} (before mid now : ℕ) (r : Result T TakeFault) (fault : SpaceFault)
    → before ≤ mid → HasCause {T = U} mid now (Err fault) → IsErrAnd r (λ f. f ≡ takes.of_space fault) → HasTakeCause before now r
space_take_cause {T} before mid now r fault early cause is =
    let p = err_from_is_err_and r is in
    let here : HasTakeCause {T = T} before now (Err (takes.of_space fault)) = record {
      later = let later = cause.later in omega (arith, early, later);
      disk = λ blamed.
          let same : takes.of_space fault ≡ take.Disk = cc in
          let rose = cause.disk (ap Err (blames_disk fault same)) in
          omega (arith, early, rose);
    } in
    subst (HasTakeCause before now) (sym p.1) (subst (λ f. HasTakeCause {T = T} before now (Err f)) (sym p.2) here)

pub take_ok_cause : {T : Type 0} (before now : ℕ) (x : T) → before ≤ now → HasTakeCause {T = T} before now (Ok x)
take_ok_cause before now x later = record { later = later; disk = λ blamed. absurd cc }

-- a call that came after others has its cause also seen from before them
pub take_cause_after : {T : Type 0} (before mid now : ℕ) (r : Result T TakeFault) → before ≤ mid → HasTakeCause mid now r → HasTakeCause before now r
take_cause_after before mid now r early cause = record {
  later = let later = cause.later in omega (arith, early, later);
  disk = λ blamed. let rose = cause.disk blamed in omega (arith, early, rose);
}

-- ---- where an index is made

read_blames_disk : (fault : Fault) → of_fault fault ≡ make.Disk → fault ≡ faults.Disk
read_blames_disk faults.Memory e = absurd cc
read_blames_disk faults.Disk e = refl
read_blames_disk (faults.Damaged damage) e = absurd cc

pub make_cause_passed : {T U : Type 0} (before mid now : ℕ) (r : Result T MakeFault) (fault : Fault)
    → before ≤ mid → HasFaultCause {T = U} mid now (Err fault) → IsErrAnd r (λ f. f ≡ of_fault fault) → HasMakeCause before now r
make_cause_passed before mid now r fault early cause is = passed of_fault faults.Disk make.Disk before mid now r fault (read_blames_disk fault) early cause is

pub make_passed : {T U : Type 0} (before mid now : ℕ) (r : Result T MakeFault) (fault : MakeFault)
    → before ≤ mid → HasMakeCause {T = U} mid now (Err fault) → IsErrAnd r (λ f. f ≡ fault) → HasMakeCause before now r
make_passed before mid now r fault early cause is = passed (λ f. f) make.Disk make.Disk before mid now r fault (λ e. e) early cause is

-- want of memory blames no disk
pub make_memory_cause : {T : Type 0} (before now : ℕ) (r : Result T MakeFault) (fault : Fault)
    → before ≤ now → fault ≡ faults.Memory → IsErrAnd r (λ f. f ≡ of_fault fault) → HasMakeCause before now r
make_memory_cause before now r fault early memory is =
    make_cause_passed {U = ℕ} before now now r fault early (record { later = omega arith; disk = λ blamed. absurd cc }) is

-- nor does another reason
pub make_other_cause : {T : Type 0} (before now : ℕ) (fault : MakeFault) → before ≤ now → fault ≢ make.Disk → HasMakeCause {T = T} before now (Err fault)
make_other_cause before now fault early other = record { later = early; disk = λ blamed. absurd (let same : fault ≡ make.Disk = cc in other same) }

-- ---- damage blames no disk

pub damage_cause : {T : Type 0} (before now : ℕ) (r : Result T Fault) (damage : Damage)
    → before ≤ now → IsErrAnd r (λ f. f ≡ faults.Damaged damage) → HasFaultCause before now r
damage_cause {T} before now r damage early is =
    let p = err_from_is_err_and r is in
    let here : HasFaultCause {T = T} before now (Err (faults.Damaged damage)) = record { later = early; disk = λ blamed. absurd cc } in
    subst (HasFaultCause before now) (sym p.1) (subst (λ f. HasFaultCause {T = T} before now (Err f)) (sym p.2) here)

-- what is told of a record here blames no disk
pub told_cause : {T : Type 0} (before now : ℕ) (fault : Fault) (damage : Damage)
    → before ≤ now → fault ≡ faults.Damaged damage → HasFaultCause {T = T} before now (Err fault)
told_cause before now fault damage early is = record { later = early; disk = λ blamed. absurd cc }

-- ---- a fault of the space that stays one

pub space_passed : {T U : Type 0} (before mid now : ℕ) (r : Result T SpaceFault) (fault : SpaceFault)
    → before ≤ mid → HasCause {T = U} mid now (Err fault) → IsErrAnd r (λ f. f ≡ fault) → HasCause before now r
space_passed before mid now r fault early cause is = passed (λ f. f) spaces.Disk spaces.Disk before mid now r fault (λ e. e) early cause is
