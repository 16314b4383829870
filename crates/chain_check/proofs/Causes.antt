-- Causes of faults, where no fault was blamed before.
use Rattle.std.specs.Prelude.{Result, Err}
use Rattle.std.proofs.Common.{◌≤◌, ℕ, arith}
use Rattle.rec_bytes.specs.declared.space.SpaceFault.{SpaceFault}
use Rattle.rec_bytes.specs.declared.space.SpaceFault.TheVariants.{Memory}
use Rattle.rec_bytes.specs.Space.{HasCause}

-- a later call's result, where no fault was blamed before
pub cause_later : {T : Type 0} (before mid now : ℕ) (r : Result T SpaceFault) → before ≤ mid → HasCause mid now r → HasCause before now r
cause_later before mid now r early cause = record {
  later = let later = cause.later in omega (arith, early, later);
  disk = λ blamed. let rose = cause.disk blamed in omega (arith, early, rose);
}

-- want of memory blames no disk
pub no_memory : {T : Type 0} (before now : ℕ) → before ≤ now → HasCause {T = T} before now (Err Memory)
no_memory before now early = record { later = early; disk = λ blamed. absurd cc }
