use Rattle.std.proofs.Common.{◌≡◌, ℕ, ◌<◌, Some, length}
use Rattle.std.specs.List.{slice_get}
use Rattle.rec_bytes.specs.Format.{meta_records}
use Rattle.rec_bytes.specs.Meta.{meta_of}
use Rattle.rec_bytes.specs.RecordFiles.{meta_key_of}
use Rattle.rec_bytes.specs.Space.{laid_over}
use Rattle.rec_bytes.specs.declared.key.Key.{Key}
use Rattle.rec_bytes.specs.declared.record.Rec.{Rec}
use Rattle.record_file.specs.MetaFile.{with_metas}
use Rattle.txn_core.proofs.marks.Marks.over.Given as goal

-- the files so far have theirs
abbrev pub invariant-loop-file : goal.invariant-loop-file
invariant-loop-file l = record {
  whole : length l.marks.of_files ≡ meta_records;
  done : (records : Key → Rec) (k : ℕ) → k < l.file → slice_get l.marks.of_files k
      ≡ Some (meta_of (laid_over (laid_over (with_metas l.metas.records records) l.changed.pairs) l.own.pairs (meta_key_of k)));
}
