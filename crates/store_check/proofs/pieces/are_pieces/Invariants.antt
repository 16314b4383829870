use Rattle.std.proofs.Common.{◌≡◌, ◌≤◌, ◌<◌, ◌+◌, ◌*◌, ℕ, take, get_or, length}
use Rattle.std.specs.List.{sum}
use Rattle.store_check.proofs.pieces.are_pieces.Given as goal

abbrev pub invariant-loop-i : goal.invariant-loop-i
invariant-loop-i l = record {
  total : l.total ≡ sum (take l.i l.lengths);
  low : l.total ≤ 255 * l.i;
  full : (k : ℕ) → k < l.i → k + 1 < length l.lengths → get_or l.lengths k 0 ≡ 48;
}
