use Rattle.std.proofs.Common.{◌-◌, ◌≤◌}
use Rattle.rec_bytes.specs.PairOrder.{no_pair}
use Rattle.rec_bytes.specs.OrderHole.{in_order_around}
use Rattle.rec_bytes.proofs.PairLaws.{IsSearching}
use Rattle.rec_bytes.proofs.place_hints.search.Given as goal

abbrev pub invariant-loop-low : goal.invariant-loop-low
invariant-loop-low l = record {
  searching : IsSearching (in_order_around l.pairs.items l.order.items l.hole) l.key no_pair l.low l.high;
  behind : l.hole.start ≤ l.low;
}

abbrev pub decreases-loop-low : goal.decreases-loop-low
decreases-loop-low l = l.high - l.low
