use Rattle.std.proofs.Common.{◌≡◌, ◌≤◌, ◌<◌, ◌+◌, drop, get_or, length, vec_capacity}
use Rattle.rec_bytes.specs.Pairs.{merged, growth_by}
use Rattle.rec_bytes.specs.PairOrder.{no_pair, in_order}
use Rattle.rec_bytes.specs.OrderHole.{in_order_around, AreBelow, IsOpen}
use Rattle.rec_bytes.proofs.write_set.merge_pass.Given as goal

-- the pairs so far with the rest are all, the hole has a place for each key of the rest that is new,
-- and the next key isn't before it
abbrev pub invariant-loop-i : goal.invariant-loop-i
invariant-loop-i l = record {
  state : IsOpen l.pairs.items l.order.items l.hints.items l.hole;
  all : merged (in_order_around l.pairs.items l.order.items l.hole) (drop l.i l.other.pairs) ≡ merged (in_order l.fn.pairs.items l.fn.order.items)
      l.other.pairs;
  size : growth_by (in_order_around l.pairs.items l.order.items l.hole) (drop l.i l.other.pairs) ≡ l.hole.size;
  below : l.i < length l.other.pairs → AreBelow (in_order_around l.pairs.items l.order.items l.hole) l.hole.start (get_or l.other.pairs l.i no_pair).0;
  room : length l.pairs.items + l.hole.size ≤ vec_capacity l.pairs;
  pairs_capacity : vec_capacity l.fn.pairs ≤ vec_capacity l.pairs;
  order_capacity : vec_capacity l.fn.order ≤ vec_capacity l.order;
}
