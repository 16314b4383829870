use Rattle.std.proofs.Common.{◌≡◌, ℕ, ◌<◌, Some, length}
use Rattle.std.specs.List.{slice_get}
use Rattle.disk_model.specs.Contents.{Files, Holds}
use Rattle.rec_bytes.specs.Format.{meta_file, meta_records}
use Rattle.rec_bytes.specs.RecordFiles.{meta_key_of}
use Rattle.record_file.specs.Records.{record_at}
use Rattle.record_file.proofs.meta_file.MetaFile.of.Given as goal

abbrev pub invariant-loop-id : goal.invariant-loop-id
invariant-loop-id l = record {
  whole : length l.metas.records ≡ meta_records;
  done : (content : Files) → Holds meta_file 0 l.bytes content → (k : ℕ) → k < l.id → slice_get l.metas.records k ≡ Some (record_at content (meta_key_of k));
}
