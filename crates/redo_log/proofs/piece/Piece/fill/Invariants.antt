use Rattle.std.proofs.Common.{◌≡◌, ◌+◌, ◌-◌, ◌*◌, ◌++◌, length, take, drop}
use Rattle.std.specs.List.{flat_map}
use Rattle.redo_log.specs.Appending.{AreWholeFrom, write_bytes}
use Rattle.redo_log.proofs.piece.Piece.fill.Given as goal

abbrev pub invariant-loop-i : goal.invariant-loop-i
invariant-loop-i l = record {
  added : l.self ≡ l.initial.self ++ flat_map write_bytes (take (l.i - l.from) (drop l.from l.writes.pairs));
  length_is : length l.self ≡ length l.initial.self + 69 * (l.i - l.from);
  whole : AreWholeFrom l.writes.pairs l.from l.i;
}
