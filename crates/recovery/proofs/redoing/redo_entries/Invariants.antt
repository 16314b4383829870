use Rattle.std.proofs.Common.{◌≡◌, ◌≢◌, ℕ, ◌≤◌, ◌-◌, List, false}
use Rattle.disk_model.specs.Spans.{AtEachMoment, OnlyReads}
use Rattle.rec_bytes.specs.Pairs.{Pairs}
use Rattle.rec_bytes.specs.Format.{log_file}
use Rattle.redo_log.specs.Entries.{HasEntries, open_byte}
use Rattle.redo_log.specs.Reading.{IsPieceOf}
use Rattle.recovery.specs.Redoing.{IsTornInLogged}
use Rattle.recovery.proofs.LogSteps.{IsRedoneTo}
use Rattle.recovery.proofs.redoing.redo_entries.Given as goal

abbrev pub invariant-loop-count : goal.invariant-loop-count
invariant-loop-count g l = let disk = g.D.Disk in record {
  within : l.place ≤ 1048575;
  made : disk.tells_reads → (entries : List Pairs) (tail : ℕ) → HasEntries (disk.reads l.fn.disk) entries tail
      → IsRedoneTo entries tail (disk.reads l.fn.disk) (disk.reads l.disk) l.reader l.place;
  crash : disk.tells_reads → disk.tells_images → (entries : List Pairs) (tail : ℕ) → HasEntries (disk.reads l.fn.disk) entries tail
      → AtEachMoment disk l.fn.disk l.disk (IsTornInLogged (disk.may_leave l.fn.disk) entries);
  closed : disk.tells_reads → disk.reads l.fn.disk log_file 0 ≢ open_byte → OnlyReads disk l.fn.disk l.disk;
  first : l.some ≡ false → l.place ≡ 0;
  untouched : l.some ≡ false → OnlyReads disk l.fn.disk l.disk;
  fresh : disk.tells_reads → l.some ≡ false → IsPieceOf (disk.reads l.disk) l.reader;
  later : disk.faults l.fn.disk ≤ disk.faults l.disk;
}

abbrev pub decreases-loop-count : goal.decreases-loop-count
decreases-loop-count g l = 1048576 - l.place
