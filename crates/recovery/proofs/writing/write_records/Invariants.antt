use Rattle.std.proofs.Common.{◌≤◌}
use Rattle.disk_model.specs.Spans.{AtEachMoment}
use Rattle.rec_bytes.specs.Space.{laid_over}
use Rattle.record_file.specs.Records.{IsTornInRecords, SameButRecords, record_at}
use Rattle.record_file.proofs.Written.{AreAmong, AreWritten}
use Rattle.recovery.proofs.writing.write_records.Given as goal

abbrev pub invariant-loop-i : goal.invariant-loop-i
invariant-loop-i g l = let disk = g.D.Disk in record {
  written : disk.tells_reads → AreWritten (record_at (disk.reads l.fn.disk)) l.written.pairs l.i (laid_over (record_at (disk.reads l.disk)) l.run);
  among : AreAmong l.run l.written.pairs;
  elsewhere : SameButRecords l.written.pairs (disk.reads l.fn.disk) (disk.reads l.disk);
  crash : disk.tells_images → AtEachMoment disk l.fn.disk l.disk (IsTornInRecords (disk.may_leave l.fn.disk) l.written.pairs);
  later : disk.faults l.fn.disk ≤ disk.faults l.disk;
}
