use Rattle.std.proofs.Common.{◌≡◌, ℕ, ◌<◌, ◌≤◌, Some}
use Rattle.std.specs.List.{slice_get}
use Rattle.rec_bytes.specs.RecordFiles.{meta_key_of}
use Rattle.rec_bytes.specs.Space.{laid_over}
use Rattle.rec_bytes.specs.declared.key.Key.{Key}
use Rattle.rec_bytes.specs.declared.record.Rec.{Rec}
use Rattle.record_file.specs.MetaFile.{AreMetasOf}
use Rattle.record_file.proofs.meta_file.MetaFile.refresh.Given as goal

abbrev pub invariant-loop-id : goal.invariant-loop-id
invariant-loop-id l = record {
  done : (records : Key → Rec) → AreMetasOf records l.fn.self.records → (k : ℕ) → k < l.id
      → slice_get l.self.records k ≡ Some (laid_over records l.written.pairs (meta_key_of k));
  rest : (k : ℕ) → l.id ≤ k → slice_get l.self.records k ≡ slice_get l.fn.self.records k;
}
