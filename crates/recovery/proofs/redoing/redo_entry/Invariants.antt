use Rattle.std.proofs.Common.{◌≤◌}
use Rattle.disk_model.specs.Spans.{AtEachMoment}
use Rattle.redo_log.specs.Entries.{entry_at}
use Rattle.record_file.specs.Records.{IsTornInRecords}
use Rattle.recovery.specs.Redoing.{IsAtEntry}
use Rattle.recovery.proofs.EntrySteps.{IsPartWritten}
use Rattle.recovery.proofs.redoing.redo_entry.Given as goal

abbrev pub invariant-loop-index : goal.invariant-loop-index
invariant-loop-index g l = let disk = g.D.Disk in record {
  part : disk.tells_reads → IsAtEntry (disk.reads l.fn.disk) l.fn.reader l.place l.count
      → IsPartWritten (disk.reads l.fn.disk) (disk.reads l.disk) l.reader l.place l.index l.run;
  crash : disk.tells_reads → disk.tells_images → IsAtEntry (disk.reads l.fn.disk) l.fn.reader l.place l.count
      → AtEachMoment disk l.fn.disk l.disk (IsTornInRecords (disk.may_leave l.fn.disk) (entry_at (disk.reads l.fn.disk) l.place));
  later : disk.faults l.fn.disk ≤ disk.faults l.disk;
}
