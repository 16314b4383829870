-- Why a call over a space gave up, and what each cause says.
use Rattle.std.specs.Prelude.{ℕ, Option, None, Some, IfErr, IfSome, Result}
use Rattle.rec_bytes.specs.Cause.{HasDiskCause}
use Rattle.rec_bytes.specs.declared.damage.Damage.{Damage}
use Rattle.rec_bytes.specs.declared.space.SpaceFault.{SpaceFault}
use Rattle.rec_bytes.specs.declared.space.SpaceFault.TheVariants as space
use Rattle.rec_bytes.specs.declared.row_fault.RowFault.{RowFault}
use Rattle.rec_bytes.specs.declared.row_fault.RowFault.TheVariants as row
use Rattle.rec_bytes.specs.declared.fault.Fault.{Fault}
use Rattle.rec_bytes.specs.declared.fault.Fault.TheVariants.{Memory, Disk, Damaged}

-- the fault of a space, and of a row, as one of any call
abbrev pub of_space : SpaceFault → Fault
of_space space.Memory = Memory
of_space space.Disk = Disk

abbrev pub of_row : RowFault → Fault
of_row row.Disk = Disk
of_row (row.Damaged damage) = Damaged damage

-- the disk is blamed only where it failed
abbrev pub HasFaultCause : {T : Type 0} → ℕ → ℕ → Result T Fault → Type 0
HasFaultCause before now result = HasDiskCause Disk before now result

-- the record that a fault says is damaged
abbrev pub damage_of : Fault → Option Damage
damage_of Memory = None
damage_of Disk = None
damage_of (Damaged damage) = Some damage

-- no record is said to be damaged, by whichever fault
abbrev pub IsUndamaged : {T F : Type 0} → (F → Option Damage) → Result T F → Type 0
IsUndamaged of result = IfErr result (λ fault. IfSome (of fault) (λ _. ⊥))

abbrev pub NotDamaged : {T : Type 0} → Result T Fault → Type 0
NotDamaged result = IsUndamaged damage_of result

-- what holds where a record is said to be damaged
abbrev pub OnDamage : {T : Type 0} → Result T Fault → Type 0 → Type 0
OnDamage result P = IfErr result (λ fault. IfSome (damage_of fault) (λ _. P))
