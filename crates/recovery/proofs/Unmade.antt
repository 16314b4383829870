-- A disk where no store was made stays one while its log is redone.
use Rattle.std.proofs.Common.{◌≡◌, ◌≢◌, ◌∙◌, ap, sym, ℕ, [], refl}
use Rattle.disk_model.specs.Contents.{Files, Same}
use Rattle.disk_model.specs.Spans.{AtEachMoment, IsAllSettled}
use Rattle.disk_model.specs.declared.disk.Disk.{Ghosts}
use Rattle.disk_model.proofs.Spans.{at_each_moment_weaker}
use Rattle.rec_bytes.specs.declared.key.Key.{Key}
use Rattle.rec_bytes.specs.declared.record.Rec.{Rec}
use Rattle.rec_bytes.specs.Format.{log_file}
use Rattle.rec_bytes.specs.RecordFiles.{meta_key_of}
use Rattle.redo_log.specs.Entries.{open_byte}
use Rattle.redo_log.proofs.Appends.{HasEntries-read}
use Rattle.record_file.specs.Records.{IsUnmade, record_at}
use Rattle.record_file.proofs.Redone.{records-settled, settled-log, settled-records}
use Rattle.recovery.specs.Redoing.{IsTornInLogged, SameButLogged}

-- the same log and the same records
unmade_same : (old new : Files) → ((place : ℕ) → new log_file place ≡ old log_file place) → record_at new ≡ record_at old → IsUnmade old → IsUnmade new
unmade_same old new log same unmade = record {
  log = HasEntries-read [] 0 old new unmade.log log;
  blank = λ file is_file. ap (λ (records : Key → Rec). records (meta_key_of file)) same ∙ unmade.blank file is_file;
}

unmade_logged : (old new : Files) → SameButLogged [] old new → IsUnmade old → IsUnmade new
unmade_logged old new same = unmade_same old new same.log (λ i key. same.others key refl i)

-- while no entry's records are written
pub unmade_torn : {D : Type 0} (g : Ghosts D) (first now : D) → IsUnmade (g.reads first) → IsAllSettled g first
    → AtEachMoment g first now (IsTornInLogged (g.may_leave first) []) → AtEachMoment g first now IsUnmade
unmade_torn g first now unmade settled leaves =
    at_each_moment_weaker g first now _ _ leaves
    (λ left torn. unmade_logged torn.0 left torn.2
    (unmade_same (g.reads first) torn.0 (settled-log g first settled torn.0 torn.1) (records-settled (g.reads first) (g.may_leave first)
    (settled-records g first settled) torn.0 torn.1) unmade))

-- the first gate is closed then
pub unmade_gate : (first written synced : Files) → IsUnmade first → SameButLogged [] first written → Same written synced → synced log_file 0 ≢ open_byte
unmade_gate first written synced unmade same kept is_open = (unmade_logged first written same unmade).log.1 (sym (kept log_file 0) ∙ is_open)
