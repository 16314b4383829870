use Rattle.std.proofs.Common.{◌≡◌, ◌≤◌, ◌+◌, ◌*◌, ◌++◌, drop, length}
use Rattle.std.specs.Prelude.{flat_map, vec_capacity, vec_len}
use Rattle.redo_log.specs.Appending.{AreWhole, write_bytes}
use Rattle.follower.proofs.shipping.add_writes.Given as goal

-- the bytes with those of the rest are all, there is room for these, and all records are whole if the rest are
abbrev pub invariant-loop-i : goal.invariant-loop-i
invariant-loop-i l = record {
  all : l.bytes.items ++ flat_map write_bytes (drop l.i l.writes.pairs) ≡ l.initial.bytes.items ++ flat_map write_bytes l.writes.pairs;
  room : vec_len l.bytes + 69 * length l.writes.pairs ≤ vec_capacity l.bytes + 69 * l.i;
  whole : AreWhole (drop l.i l.writes.pairs) → AreWhole l.writes.pairs;
}
