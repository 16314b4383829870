-- What recovering a store again finds, and why it is refused.
use Rattle.std.specs.Prelude.{◌≡◌, ◌⊎◌, ◌<◌, [], IsTrue}
use Rattle.disk_model.specs.Contents.{Files}
use Rattle.disk_model.specs.Spans.{IsAllSettled}
use Rattle.disk_model.specs.declared.disk.Disk.{Ghosts}
use Rattle.rec_bytes.specs.Creation.{own_key}
use Rattle.rec_bytes.specs.Format.{newest_version}
use Rattle.rec_bytes.specs.Shape.{version_of}
use Rattle.rec_bytes.specs.declared.damage.Damage.{Damage}
use Rattle.rec_bytes.specs.declared.key.Key.{Key}
use Rattle.rec_bytes.specs.declared.record.Rec.{Rec}
use Rattle.rec_bytes.specs.declared.shape.Shape.{Shape}
use Rattle.redo_log.specs.Entries.{HasEntries}
use Rattle.record_file.specs.Records.{IsUnmade}
use Rattle.record_file.specs.Redone.{Redoes}
use Rattle.recovery.specs.Finding.{Refuses}
use Rattle.recovery.specs.RecoverFault.{meta_rule}
use Rattle.recovery.specs.declared.recover_fault.RecoverFault.TheVariants as recover
use Rattle.txn_core.specs.Base.{committed, content}
use Rattle.txn_core.specs.Kept.{IsOnDisk}
use Rattle.txn_core.specs.declared.again_fault.AgainFault.{AgainFault}
use Rattle.txn_core.specs.declared.again_fault.AgainFault.TheVariants.{Disk, Damaged}
use Rattle.txn_core.specs.declared.base.Base.{Base}
use Rattle.txn_core.specs.Opening.{HoldsStore}

-- the store's own record breaks the rule of the meta records
abbrev pub own_damage : Damage
own_damage = record { file = own_key.file; id = own_key.id; rule = meta_rule }

-- the store's own record says an older version
abbrev pub IsOld : (Key → Rec) → Type 0
IsOld space = version_of (space own_key) < newest_version

-- the content has no store of this shape and the newest version: none at all, none yet, one of
-- another shape, or one of an older version
abbrev pub IsAnother : Files → Shape → Type 0
IsAnother content shape =
    Refuses content recover.NotAStore
    ⊎ (IsUnmade content ⊎ (((other : Shape) × HoldsStore content other × ¬ (other ≡ shape))
    ⊎ ((space : Key → Rec) × Redoes content space × IsOld space)))

-- Why the store of this shape is not served again.
abbrev pub RefusesAgain : Files → Shape → AgainFault → Type 0
RefusesAgain content shape Disk = Unit {0}
RefusesAgain content shape (Damaged damage) =
    Refuses content (recover.Damaged damage) ⊎ ((damage ≡ own_damage) × IsAnother content shape)

-- What is committed is what the disk had, all of it in the files, with no entry in the log and no
-- byte pending.
pub record IsRecovered {D : Type 0} {g : Ghosts D} (old new : Base D g) : Type 0 where
  pub space : g.tells_reads → (space : Key → Rec) → Redoes (content old) space
      → committed new ≡ space
  pub store : g.tells_reads → HoldsStore (content old) old.shape
  pub newest : g.tells_reads → ¬ IsOld (committed new)
  pub changed : new.changed.pairs ≡ []
  pub tail : new.tail ≡ 0
  pub no_entry : g.tells_reads → HasEntries (content new) [] 0
  pub settled : g.tells_reads → g.tells_images → IsAllSettled g new.disk.now
  pub stored : IsOnDisk g new.disk.now (λ left. Redoes left (committed new))
  pub live : IsTrue new.live
