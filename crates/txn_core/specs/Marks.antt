-- The marks of the files, as they are held in memory.
use Rattle.std.specs.Prelude.{◌≡◌, ℕ, ◌<◌, List, Some}
use Rattle.std.specs.List.{slice_get}
use Rattle.rec_bytes.specs.Format.{meta_records}
use Rattle.rec_bytes.specs.Meta.{meta_of}
use Rattle.rec_bytes.specs.Pairs.{Pairs}
use Rattle.rec_bytes.specs.RecordFiles.{meta_key_of}
use Rattle.rec_bytes.specs.Space.{laid_over}
use Rattle.rec_bytes.specs.declared.key.Key.{Key}
use Rattle.rec_bytes.specs.declared.meta.Meta.{Meta}
use Rattle.rec_bytes.specs.declared.record.Rec.{Rec}
use Rattle.record_file.specs.MetaFile.{with_metas}

-- each is what the meta record of its file says
abbrev pub AreMarksOf : (Key → Rec) → List Meta → Type 0
AreMarksOf records marks =
    (file : ℕ) → file < meta_records
    → slice_get marks file ≡ Some (meta_of (records (meta_key_of file)))

-- They are those of the meta records in memory, with the changed records and the transaction's over
-- them, whatever the files have.
abbrev pub AreMarks : List Rec → Pairs → Pairs → List Meta → Type 0
AreMarks metas changed own marks =
    (records : Key → Rec)
    → AreMarksOf (laid_over (laid_over (with_metas metas records) changed) own) marks
