use Rattle.std.proofs.Common.{◌≤◌}
use Rattle.disk_model.specs.Spans.{OnlyReads}
use Rattle.recovery.proofs.Settled.{AreSettledTo}
use Rattle.recovery.proofs.syncing.sync_record_files.Given as goal

abbrev pub invariant-loop-entry : goal.invariant-loop-entry
invariant-loop-entry g l = record {
  settled : g.D.Disk.tells_reads → g.D.Disk.tells_images → AreSettledTo g.D.Disk l.disk l.entry-items l.entry-index;
  only_reads : OnlyReads g.D.Disk l.fn.disk l.disk;
  later : g.D.Disk.faults l.fn.disk ≤ g.D.Disk.faults l.disk;
}
