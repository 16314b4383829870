use Rattle.std.proofs.Common.{◌≤◌, ◌-◌}
use Rattle.disk_model.specs.Spans.{OnlyReads}
use Rattle.redo_log.specs.Reading.{IsPieceOf}
use Rattle.recovery.proofs.Metas.{IsReadTo}
use Rattle.recovery.proofs.logged_metas.find_metas.Given as goal

abbrev pub invariant-loop-count : goal.invariant-loop-count
invariant-loop-count g l = let disk = g.D.Disk in record {
  within : l.place ≤ 1048575;
  kept : disk.tells_reads → IsPieceOf (disk.reads l.disk) l.reader;
  read : disk.tells_reads → IsReadTo (disk.reads l.fn.disk) l.place l.metas.records;
  only_reads : OnlyReads disk l.fn.disk l.disk;
  later : disk.faults l.fn.disk ≤ disk.faults l.disk;
}

abbrev pub decreases-loop-count : goal.decreases-loop-count
decreases-loop-count g l = 1048576 - l.place
