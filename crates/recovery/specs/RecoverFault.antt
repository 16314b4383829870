-- What a recovery that fails is to be blamed on.
use Rattle.std.specs.Prelude.{◌≡◌, ℕ, ◌≤◌, Result, Err, IfErr}
use Rattle.fault_count.specs.Cause.{Rose}
use Rattle.recovery.specs.declared.recover_fault.RecoverFault.{RecoverFault}
use Rattle.recovery.specs.declared.recover_fault.RecoverFault.TheVariants.{Disk}

-- The disk's count of faults doesn't fall, and the disk is blamed only where it rose.
pub record HasCause {T : Type 0} (before now : ℕ) (result : Result T RecoverFault) : Type 0 where
  pub later : before ≤ now
  pub disk : result ≡ Err Disk → Rose before now

-- the rules that recovery tests: the form of the log's entries, and the range of the meta records
abbrev pub log_rule : ℕ
log_rule = 0

abbrev pub meta_rule : ℕ
meta_rule = 1

-- nothing but the disk is blamed
abbrev pub BlamesDisk : {T : Type 0} → Result T RecoverFault → Type 0
BlamesDisk result = IfErr result (λ fault. fault ≡ Disk)
