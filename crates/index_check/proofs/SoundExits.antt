-- A fault that is passed on names no damaged record, where it named none.
use Rattle.std.specs.Prelude.{Result, IfSome}
use Rattle.std.specs.Result.{IsErrAnd}
use Rattle.std.proofs.Common.{◌≡◌}
use Rattle.rec_bytes.specs.Fault.{NotDamaged, damage_of}
use Rattle.rec_bytes.specs.declared.fault.Fault.{Fault}
use Rattle.prop_store.proofs.Exits.{same_has}

pub sound_exit : {T : Type 0} (r : Result T Fault) (fault : Fault) → IsErrAnd r (λ f. f ≡ fault) → IfSome (damage_of fault) (λ _. ⊥) → NotDamaged r
sound_exit r fault is h = same_has (λ f. IfSome (damage_of f) (λ _. ⊥)) r fault is h
