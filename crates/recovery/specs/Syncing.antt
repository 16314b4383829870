-- What a sync of the files of records leaves.
use Rattle.std.specs.Prelude.{◌≡◌, ℕ, true}
use Rattle.disk_model.specs.Disk.{Settled}
use Rattle.disk_model.specs.declared.disk.Disk.{Ghosts}
use Rattle.rec_bytes.specs.RecordFiles.{is_record_file}

-- no file of records has a byte that a crash may change
abbrev pub AreRecordsSettled : {D : Type 0} → Ghosts D → D → Type 0
AreRecordsSettled g disk =
    (file : ℕ) → is_record_file file ≡ true → Settled file (g.reads disk) (g.may_leave disk)
