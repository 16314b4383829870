use Rattle.std.proofs.Common.{◌≡◌, ◌≤◌, ◌+◌, drop, length}
use Rattle.rec_bytes.specs.Pairs.{merged}
use Rattle.redo_log.specs.Appending.{AreWhole}
use Rattle.txn_core.proofs.tapping.copy_into.Given as goal

-- the records that are put with the rest are all, there is room for the rest, and all are whole if it is
abbrev pub invariant-loop-i : goal.invariant-loop-i
invariant-loop-i l = record {
  all : merged l.copy.pairs (drop l.i l.writes.pairs) ≡ l.writes.pairs;
  room : length l.writes.pairs ≤ l.i + l.copy.room;
  whole : AreWhole (drop l.i l.writes.pairs) → AreWhole l.writes.pairs;
}
