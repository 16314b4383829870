use Rattle.std.proofs.Common.{◌≤◌, ◌<◌, ◌+◌, ◌-◌, ◌/◌, sym, ap, ◌∙◌, subst, arith, length}
use Rattle.rec_bytes.specs.declared.record.Rec.{Rec}
use Rattle.rec_bytes.specs.declared.key.Key.{Key}
use Rattle.rec_bytes.specs.Key.{key_cmp}
use Rattle.rec_bytes.specs.PairOrder.{no_pair, in_order}
use Rattle.rec_bytes.specs.OrderHole.{around}
use Rattle.rec_bytes.proofs.PairLaws.{search_from, search_less, search_equal, search_greater, search_end}
use Rattle.rec_bytes.proofs.OrderLaws.{all_at, length-in_order, place_within, read_at}
use Rattle.rec_bytes.proofs.HoleLaws.{length-around, get_or-around}
use Rattle.rec_bytes.proofs.place_hints.search.Goals as goal

pub loop-low-init : goal.loop-low-init
loop-low-init c =
    let order = around c.args.order.now.items c.args.hole in
    let around_long = length-around c.args.order.now.items c.args.hole c.requires.within in
    let long = length-in_order c.args.pairs.now.items order in
    record {
      searching = search_from (in_order c.args.pairs.now.items order) c.args.key no_pair c.args.hole.start _
          (omega (arith, c.len.ensures, c.args.order.now.ok.0, around_long, c.requires.within))
          (omega (arith, c.len.ensures, c.args.order.now.ok.0, around_long, long)) c.requires.below;
      behind = omega arith;
    }

-- the place that is read stands in the order
pub overflow_add-middle-in-loop-low : goal.overflow_add-middle-in-loop-low
overflow_add-middle-in-loop-low c =
    let middle : c.loop-low.low + (c.loop-low.high - c.loop-low.low) / 2 < c.loop-low.high = omega arith in
    let around_long = length-around c.args.order.now.items c.args.hole c.requires.within in
    let long = length-in_order c.args.pairs.now.items (around c.args.order.now.items c.args.hole) in
    omega (arith, middle, around_long, long, c.loop-low.invariant.searching.within, c.args.order.now.ok.0)

pub index-requires : goal.index-requires
index-requires c =
    let middle : c.loop-low.low + (c.loop-low.high - c.loop-low.low) / 2 < c.loop-low.high = omega arith in
    let around_long = length-around c.args.order.now.items c.args.hole c.requires.within in
    let long = length-in_order c.args.pairs.now.items (around c.args.order.now.items c.args.hole) in
    rw (c.args.order.now.ok.0) (omega (arith, middle, around_long, long, c.loop-low.invariant.searching.within))

pub index-requires-in-loop-low : goal.index-requires-in-loop-low
index-requires-in-loop-low c =
    let i = c.loop-low.low + (c.loop-low.high - c.loop-low.low) / 2 in
    let order = around c.args.order.now.items c.args.hole in
    let middle : i < c.loop-low.high = omega arith in
    let behind : c.args.hole.start ≤ i = omega (arith, c.loop-low.invariant.behind) in
    rw (c.args.pairs.now.ok.0) (subst (λ n. n < length c.args.pairs.now.items) (get_or-around c.args.order.now.items c.args.hole i c.index.result.now
    c.requires.within behind ∙ sym c.index.ensures)
    (all_at (λ n. n < length c.args.pairs.now.items) order i c.index.result.now c.requires.ordered.places
    (place_within c.args.pairs.now.items order i (omega (arith, middle, c.loop-low.invariant.searching.within)))))

pub loop-low-preserved-in-Less : goal.loop-low-preserved-in-Less
loop-low-preserved-in-Less c =
    let order = around c.args.order.now.items c.args.hole in
    let ps = in_order c.args.pairs.now.items order in
    let i = c.loop-low.low + (c.loop-low.high - c.loop-low.low) / 2 in
    let middle : i < c.loop-low.high = omega arith in
    let behind : c.args.hole.start ≤ i = omega (arith, c.loop-low.invariant.behind) in
    let placed = c.index.ensures ∙ sym (get_or-around c.args.order.now.items c.args.hole i c.index.result.now c.requires.within behind) in
    let pair = read_at c.args.pairs.now.items order i c.index.result.now c.index-in-loop-low.result.now c.requires.ordered
    (omega (arith, middle, c.loop-low.invariant.searching.within)) placed c.index-in-loop-low.ensures in
    record {
      searching = search_less ps c.args.key no_pair c.loop-low.low c.loop-low.high i c.requires.ordered.rising c.loop-low.invariant.searching middle
          (ap (λ (p : Key × Rec). key_cmp p.0 c.args.key) pair ∙ sym c.in-Less.ensures);
      behind = omega (arith, behind);
    }

pub returns-in-Equal-clause-found : goal.returns-in-Equal-clause-found
returns-in-Equal-clause-found c =
    let order = around c.args.order.now.items c.args.hole in
    let ps = in_order c.args.pairs.now.items order in
    let i = c.loop-low.low + (c.loop-low.high - c.loop-low.low) / 2 in
    let middle : i < c.loop-low.high = omega arith in
    let behind : c.args.hole.start ≤ i = omega (arith, c.loop-low.invariant.behind) in
    let placed = c.index.ensures ∙ sym (get_or-around c.args.order.now.items c.args.hole i c.index.result.now c.requires.within behind) in
    let pair = read_at c.args.pairs.now.items order i c.index.result.now c.index-in-loop-low.result.now c.requires.ordered
    (omega (arith, middle, c.loop-low.invariant.searching.within)) placed c.index-in-loop-low.ensures in
    search_equal ps c.args.key no_pair c.loop-low.low c.loop-low.high i c.requires.ordered.rising c.loop-low.invariant.searching middle
    (ap (λ (p : Key × Rec). key_cmp p.0 c.args.key) pair ∙ sym c.in-Equal.ensures)

pub loop-low-preserved : goal.loop-low-preserved
loop-low-preserved c =
    let order = around c.args.order.now.items c.args.hole in
    let ps = in_order c.args.pairs.now.items order in
    let i = c.loop-low.low + (c.loop-low.high - c.loop-low.low) / 2 in
    let middle : i < c.loop-low.high = omega arith in
    let from : c.loop-low.low ≤ i = omega arith in
    let behind : c.args.hole.start ≤ i = omega (arith, c.loop-low.invariant.behind) in
    let placed = c.index.ensures ∙ sym (get_or-around c.args.order.now.items c.args.hole i c.index.result.now c.requires.within behind) in
    let pair = read_at c.args.pairs.now.items order i c.index.result.now c.index-in-loop-low.result.now c.requires.ordered
    (omega (arith, middle, c.loop-low.invariant.searching.within)) placed c.index-in-loop-low.ensures in
    record {
      searching = search_greater ps c.args.key no_pair c.loop-low.low c.loop-low.high i c.requires.ordered.rising c.loop-low.invariant.searching from middle
          (ap (λ (p : Key × Rec). key_cmp p.0 c.args.key) pair ∙ sym c.in-Greater.ensures);
      behind = c.loop-low.invariant.behind;
    }

pub returns-clause-absent : goal.returns-clause-absent
returns-clause-absent c =
    search_end (in_order c.args.pairs.now.items (around c.args.order.now.items c.args.hole)) c.args.key no_pair c.loop-low.low c.loop-low.high
    c.loop-low.invariant.searching c.loop-low-test.false
