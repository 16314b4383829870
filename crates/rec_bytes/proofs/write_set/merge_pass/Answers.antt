use Rattle.std.proofs.Common.{◌≡◌, ◌<◌, ◌+◌, [], sym, ap, ◌∙◌, subst, arith, length, drop, get_or}
use Rattle.std.specs.declared.cmp.Ordering.TheVariants.{Less}
use Rattle.std.proofs.lemmas.List.{drop_all}
use Rattle.std.proofs.lemmas.Option.{get_or_from_slice_get}
use Rattle.rec_bytes.specs.declared.record.Rec.{Rec}
use Rattle.rec_bytes.specs.declared.key.Key.{Key}
use Rattle.rec_bytes.specs.Key.{key_cmp}
use Rattle.rec_bytes.specs.Pairs.{Pairs, find_pair, merged, growth_by}
use Rattle.rec_bytes.specs.PairOrder.{in_order, no_pair}
use Rattle.rec_bytes.specs.PlaceHints.{IsHinted}
use Rattle.rec_bytes.specs.OrderHole.{around, in_order_around, AreBelow}
use Rattle.rec_bytes.proofs.PairLaws.{next_pair, find_merged, rises}
use Rattle.rec_bytes.proofs.HoleLaws.{around_none}
use Rattle.rec_bytes.proofs.write_set.merge_pass.Goals as goal
use Rattle.rec_bytes.proofs.write_set.merge_pass.Goals.{After-loop-i}

pub loop-i-init : goal.loop-i-init
loop-i-init c =
    let ps = c.args.pairs.now.items in
    let other = c.args.other.now.pairs in
    let places = c.open_hole-hole.ensures.places in
    record {
      state = record {
        hinted = subst (λ o. IsHinted ps o c.args.hints.now.items) (sym places) c.requires.hinted;
        within = omega (arith, c.open_hole-hole.ensures.start, c.open_hole-hole.ensures.size, c.open_hole-hole.ensures.count);
        most = omega (arith, c.open_hole-hole.ensures.size, c.requires.most);
      };
      all = ap (λ o. merged (in_order ps o) other) places;
      size = ap (λ o. growth_by (in_order ps o) other) places ∙ c.requires.fresh ∙ sym c.open_hole-hole.ensures.size;
      below = λ lt k none. absurd (omega (arith, none, c.open_hole-hole.ensures.start));
      room = omega (arith, c.open_hole-hole.ensures.size, c.requires.pairs_room);
      pairs_capacity = omega arith;
      order_capacity = c.open_hole-hole.ensures.capacity;
    }

pub put_behind-hole-requires-clause-below : goal.put_behind-hole-requires-clause-below
put_behind-hole-requires-clause-below c =
    let within : c.loop-i.i < length c.args.other.now.pairs = omega (arith, c.len-i-end.ensures.value) in
    let here = get_or_from_slice_get c.args.other.now.pairs c.loop-i.i c.at.result no_pair c.at.ensures.value in
    subst (λ (p : Key × Rec). AreBelow (in_order_around c.loop-i.pairs.items c.loop-i.order.items c.loop-i.hole) c.loop-i.hole.start p.0) here
    (c.loop-i.invariant.below within)

pub put_behind-hole-requires-clause-size : goal.put_behind-hole-requires-clause-size
put_behind-hole-requires-clause-size c =
    let within : c.loop-i.i < length c.args.other.now.pairs = omega (arith, c.len-i-end.ensures.value) in
    let now = in_order_around c.loop-i.pairs.items c.loop-i.order.items c.loop-i.hole in
    let next = ap (growth_by now) (next_pair c.args.other.now.pairs c.loop-i.i c.at.result c.at.ensures.value within) in
    omega (arith, next, c.loop-i.invariant.size)

pub loop-i-preserved : goal.loop-i-preserved
loop-i-preserved c =
    let other = c.args.other.now.pairs in
    let i = c.loop-i.i in
    let within : i < length other = omega (arith, c.len-i-end.ensures.value) in
    let now = in_order_around c.loop-i.pairs.items c.loop-i.order.items c.loop-i.hole in
    let next = next_pair other i c.at.result c.at.ensures.value within in
    let later = drop (i + 1) other in
    let grown = ap (growth_by now) next in
    let left = ap (λ (p : Pairs). growth_by p later) c.put_behind-hole.ensures.pairs in
    let here = get_or_from_slice_get other i c.at.result no_pair c.at.ensures.value in
    record {
      state = c.put_behind-hole.ensures.state;
      all = ap (λ (p : Pairs). merged p later) c.put_behind-hole.ensures.pairs ∙ sym (ap (merged now) next) ∙ c.loop-i.invariant.all;
      size = omega (arith, grown, left, c.loop-i.invariant.size, c.put_behind-hole.ensures.size);
      below = λ lt. c.put_behind-hole.ensures.below (get_or other (i + 1) no_pair).0
          (subst (λ (p : Key × Rec). key_cmp p.0 (get_or other (i + 1) no_pair).0 ≡ Less) here (rises other i (i + 1) no_pair c.len-i-end.ensures.rising
          (omega arith) lt));
      room = omega (arith, c.loop-i.invariant.room, c.put_behind-hole.ensures.count, c.put_behind-hole.ensures.pairs_capacity);
      pairs_capacity = omega (arith, c.loop-i.invariant.pairs_capacity, c.put_behind-hole.ensures.pairs_capacity);
      order_capacity = omega (arith, c.loop-i.invariant.order_capacity, c.put_behind-hole.ensures.order_capacity);
    }

-- all records are put, and no place of the hole is left
none : (c : After-loop-i) → drop c.loop-i.i c.args.other.now.pairs ≡ []
none c = drop_all c.loop-i.i c.args.other.now.pairs (omega (arith, c.loop-i-test.false, c.len-i-end.ensures.value))

whole : (c : After-loop-i) → around c.loop-i.order.items c.loop-i.hole ≡ c.loop-i.order.items
whole c =
    around_none c.loop-i.order.items c.loop-i.hole
    (sym c.loop-i.invariant.size ∙ ap (growth_by (in_order_around c.loop-i.pairs.items c.loop-i.order.items c.loop-i.hole)) (none c))

pub returns-clause-hinted : goal.returns-clause-hinted
returns-clause-hinted c = subst (λ o. IsHinted c.loop-i.pairs.items o c.loop-i.hints.items) (whole c) c.loop-i.invariant.state.hinted

pub returns-clause-pairs : goal.returns-clause-pairs
returns-clause-pairs c =
    ap (in_order c.loop-i.pairs.items) (sym (whole c))
    ∙ sym (ap (merged (in_order_around c.loop-i.pairs.items c.loop-i.order.items c.loop-i.hole)) (none c)) ∙ c.loop-i.invariant.all

-- the keys of the other set are distinct, so the order of the puts doesn't matter
pub returns-clause-finds : goal.returns-clause-finds
returns-clause-finds c q =
    ap (λ (p : Pairs). find_pair p q) (returns-clause-pairs c)
    ∙ find_merged (in_order c.args.pairs.now.items c.args.order.now.items) c.args.other.now.pairs q c.len-i-end.ensures.rising
