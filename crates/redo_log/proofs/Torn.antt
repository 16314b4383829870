-- What a crash leaves while bytes of the log are written in a range.
use Rattle.std.proofs.Common.{ℕ, ◌+◌, ◌≤◌}
use Rattle.disk_model.specs.Contents.{Files}
use Rattle.disk_model.specs.Disk.{Elapses, LeavesOnly, TornIn}
use Rattle.disk_model.proofs.Times.{leaves_then}
use Rattle.rec_bytes.specs.Format.{log_file}
use Rattle.redo_log.specs.Appending.{IsTornFrom}
use Rattle.disk_model.proofs.Contents.{SameOutside-within, SameOutside-then}

-- one write more in the range
pub leaves_torn : (first before now : ℕ) (at_first past since : ℕ → Files → Type 0) (images old new : Files → Type 0) (at n place k : ℕ)
    → LeavesOnly first before at_first past (IsTornFrom images at n) → Elapses before now past since new → TornIn log_file place k old new
    → ((image : Files) → old image → past first image) → at ≤ place → place + k ≤ at + n
    → LeavesOnly first now at_first since (IsTornFrom images at n)
leaves_torn first before now at_first past since images old new at n place k leaves elapses torn counts behind ends =
    leaves_then first before now at_first past since new (IsTornFrom images at n) leaves elapses (λ image is_new.
    let was = torn image is_new in
    let start = leaves.each was.0 (counts was.0 was.1) in
    (start.0, start.1, SameOutside-then log_file at n start.0 was.0 image start.2 (SameOutside-within log_file place k at n was.0 image behind ends was.2)))
