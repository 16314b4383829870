-- Faults that are passed on.
use Rattle.std.specs.Prelude.{Result, Err, IfErr, IfSome, ℕ}
use Rattle.std.specs.Result.{IsErrAnd}
use Rattle.std.proofs.Common.{◌≡◌, sym, subst}
use Rattle.std.proofs.lemmas.Result.{err_from_is_err_and}
use Rattle.rec_bytes.specs.declared.space.SpaceFault.{SpaceFault}
use Rattle.rec_bytes.specs.declared.space.SpaceFault.TheVariants.{Memory, Disk}
use Rattle.rec_bytes.specs.Fault.{NotDamaged, damage_of, of_space}
use Rattle.rec_bytes.specs.declared.fault.Fault.{Fault}
use Rattle.rec_bytes.specs.declared.fault.Fault.TheVariants as faults
use Rattle.rec_bytes.specs.Space.{SameButReads, State}
use Rattle.prop_store.proofs.ReadCounts.{same_then}

-- a fault of a space is no damage
space_undamaged : (fault : SpaceFault) → NotDamaged {T = ℕ} (Err (of_space fault))
space_undamaged Memory = tt
space_undamaged Disk = tt

pub space_exit : {T : Type 0} (r : Result T Fault) (fault : SpaceFault) → IsErrAnd r (λ f. f ≡ of_space fault) → NotDamaged r
space_exit r fault h = let p = err_from_is_err_and r h in subst NotDamaged (sym p.1) (subst (λ f. NotDamaged {T = ℕ} (Err f)) (sym p.2) (space_undamaged fault))

-- a fault of a space has what both of its causes have
pub space_has : {T : Type 0} (P : Fault → Type 0) → P faults.Memory → P faults.Disk → (r : Result T Fault) (fault : SpaceFault)
    → IsErrAnd r (λ f. f ≡ of_space fault) → IfErr r P
space_has {T} P memory disk r fault h = let p = err_from_is_err_and r h in subst (λ (z : Result T Fault). IfErr z P) (sym p.1) (subst P (sym p.2) (by fault))
  where
    by : (fault : SpaceFault) → P (of_space fault)
    by Memory = memory
    by Disk = disk

-- and one that is passed on has what it had
pub same_has : {T : Type 0} (P : Fault → Type 0) (r : Result T Fault) (fault : Fault) → IsErrAnd r (λ f. f ≡ fault) → P fault → IfErr r P
same_has {T} P r fault h has = let p = err_from_is_err_and r h in subst (λ (z : Result T Fault). IfErr z P) (sym p.1) (subst P (sym p.2) has)

-- where damage is told nothing is written
pub when_damaged : {P : Type 0} (fault : Fault) → P → IfSome (damage_of fault) (λ _. P)
when_damaged faults.Memory p = tt
when_damaged faults.Disk p = tt
when_damaged (faults.Damaged damage) p = p

-- nor is it by reads before
pub unwritten_after : (s m t : State) (fault : Fault) → SameButReads s m → IfSome (damage_of fault) (λ _. SameButReads m t)
    → IfSome (damage_of fault) (λ _. SameButReads s t)
unwritten_after s m t faults.Memory same later = tt
unwritten_after s m t faults.Disk same later = tt
unwritten_after s m t (faults.Damaged damage) same later = same_then s m t same later
