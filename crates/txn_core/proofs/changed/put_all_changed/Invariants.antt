use Rattle.std.proofs.Common.{◌+◌, ◌≤◌, drop, length}
use Rattle.txn_core.specs.Base.{OnlyReadsBase, working}
use Rattle.txn_core.proofs.ChangedRecords.{IsThinned}
use Rattle.txn_core.proofs.changed.put_all_changed.Given as goal

-- of the records so far the changed ones were put, and there is room for the rest
abbrev pub invariant-loop-i : goal.invariant-loop-i
invariant-loop-i g l = record {
  thinned : IsThinned g.D.Disk.tells_reads (working l.fn.base) l.draft.pairs l.changed.pairs (drop l.i l.draft.pairs);
  room : length l.draft.pairs ≤ l.i + l.changed.room;
  onward : OnlyReadsBase l.fn.base l.base;
  later : g.D.Disk.faults l.fn.base.disk.now ≤ g.D.Disk.faults l.base.disk.now;
}
