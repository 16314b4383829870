-- The records of the meta file as the log's entries leave them.
use Rattle.std.specs.Prelude.{◌≡◌, List}
use Rattle.disk_model.specs.Contents.{Files}
use Rattle.rec_bytes.specs.Format.{log_file}
use Rattle.rec_bytes.specs.declared.damage.Damage.{Damage}
use Rattle.rec_bytes.specs.Pairs.{Pairs}
use Rattle.redo_log.specs.Entries.{HasEntries, IsDamagedLog}
use Rattle.redo_log.specs.Redo.{redone}
use Rattle.record_file.specs.MetaFile.{AreMetasOf}
use Rattle.record_file.specs.Records.{record_at}
use Rattle.recovery.specs.RecoverFault.{log_rule}
use Rattle.recovery.specs.declared.logged_metas.LoggedMetas.{LoggedMetas}
use Rattle.recovery.specs.declared.recover_fault.RecoverFault.{RecoverFault}
use Rattle.recovery.specs.declared.recover_fault.RecoverFault.TheVariants as faults

-- The log has entries up to the tail, and they make these records of the meta file.
pub record HasMetas (content : Files) (logged : LoggedMetas) : Type 0 where
  pub entries : List Pairs
  pub log : HasEntries content entries logged.tail
  pub are : AreMetasOf (redone (record_at content) entries) logged.metas.records

-- an open gate of the log stands over another form than an entry, and the damage names its place
abbrev pub IsLogDamage : Files → Damage → Type 0
IsLogDamage content damage =
    (damage.file ≡ log_file) × (damage.rule ≡ log_rule) × IsDamagedLog content damage.id

-- a fault of the log's form is told only where it is
abbrev pub IsLogFault : Files → RecoverFault → Type 0
IsLogFault content faults.Disk = Unit {0}
IsLogFault content faults.NotAStore = ⊥
IsLogFault content (faults.Damaged damage) = IsLogDamage content damage
