use Rattle.std.proofs.Common.{◌≡◌, ℕ, ◌<◌, ◌≤◌, Some}
use Rattle.std.specs.List.{slice_get}
use Rattle.rec_bytes.specs.Meta.{meta_of}
use Rattle.rec_bytes.specs.RecordFiles.{meta_key_of}
use Rattle.rec_bytes.specs.Space.{laid_over}
use Rattle.rec_bytes.specs.declared.key.Key.{Key}
use Rattle.rec_bytes.specs.declared.record.Rec.{Rec}
use Rattle.txn_core.specs.Marks.{AreMarksOf}
use Rattle.txn_core.proofs.marks.Marks.refresh.Given as goal

-- the files so far have theirs, and the rest are as before
abbrev pub invariant-loop-file : goal.invariant-loop-file
invariant-loop-file l = record {
  done : (records : Key → Rec) → AreMarksOf records l.fn.self.of_files → (k : ℕ) → k < l.file
      → slice_get l.self.of_files k ≡ Some (meta_of (laid_over records l.written.pairs (meta_key_of k)));
  rest : (k : ℕ) → l.file ≤ k → slice_get l.self.of_files k ≡ slice_get l.fn.self.of_files k;
}
