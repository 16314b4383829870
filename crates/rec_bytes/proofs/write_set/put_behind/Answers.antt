use Rattle.std.proofs.Common.{◌≡◌, ◌<◌, ◌+◌, sym, ap, ◌∙◌, subst, arith, length}
use Rattle.std.specs.List.{insert}
use Rattle.rec_bytes.specs.Pairs.{Pairs}
use Rattle.rec_bytes.specs.PairOrder.{in_order}
use Rattle.rec_bytes.specs.OrderHole.{around, IsOpen}
use Rattle.rec_bytes.proofs.PairLaws.{growth_gap}
use Rattle.rec_bytes.proofs.OrderLaws.{gap_within}
use Rattle.rec_bytes.proofs.HintLaws.{hinted_replaced, pair_within}
use Rattle.rec_bytes.proofs.HoleLaws.{length-around, growth_pair, open_set, below_set, open_added, pairs_added, below_added}
use Rattle.rec_bytes.proofs.write_set.put_behind.Goals as goal
use Rattle.rec_bytes.proofs.write_set.put_behind.Goals.{After-fill_hole}

-- ---- where the key is found

pub index_mut-requires : goal.index_mut-requires
index_mut-requires c =
    rw (c.args.pairs.now.ok.0) (pair_within c.args.pairs.now.items (around c.args.order.now.items c.args.hole) c.args.key c.in-Ok.place
    c.requires.state.hinted.ordered c.in-Ok.ensures.found)

pub returns-in-Ok-clause-state : goal.returns-in-Ok-clause-state
returns-in-Ok-clause-state c =
    open_set c.args.pairs.now.items c.args.order.now.items c.args.hints.now.items c.args.hole c.args.key c.args.rec c.in-Ok.place c.requires.state
    c.in-Ok.ensures.found

pub returns-in-Ok-clause-pairs : goal.returns-in-Ok-clause-pairs
returns-in-Ok-clause-pairs c =
    hinted_replaced c.args.pairs.now.items (around c.args.order.now.items c.args.hole) c.args.hints.now.items c.args.key c.args.rec c.in-Ok.place
    c.requires.state.hinted c.in-Ok.ensures.found

pub returns-in-Ok-clause-below : goal.returns-in-Ok-clause-below
returns-in-Ok-clause-below c next less =
    below_set c.args.pairs.now.items c.args.order.now.items c.args.hints.now.items c.args.hole c.args.key next c.args.rec c.in-Ok.place c.requires.state
    c.requires.below
    c.in-Ok.ensures.found less

pub returns-in-Ok-clause-size : goal.returns-in-Ok-clause-size
returns-in-Ok-clause-size c =
    let none = growth_pair c.args.pairs.now.items (around c.args.order.now.items c.args.hole) c.args.key c.in-Ok.place c.in-Ok.ensures.found in
    omega (arith, none)

-- ---- where it is new

pub overflow_add-place : goal.overflow_add-place
overflow_add-place c =
    let one = growth_gap _ c.args.key c.in-Err.i c.in-Err.ensures.absent in
    omega (arith, one, c.requires.size, c.requires.state.most, c.len-place.ensures, c.args.pairs.now.ok.0)

pub push_reserved-requires : goal.push_reserved-requires
push_reserved-requires c =
    let one = growth_gap _ c.args.key c.in-Err.i c.in-Err.ensures.absent in
    omega (arith, one, c.requires.size, c.requires.room, c.args.pairs.now.ok.0)

pub fill_hole-requires-clause-some : goal.fill_hole-requires-clause-some
fill_hole-requires-clause-some c =
    let one = growth_gap _ c.args.key c.in-Err.i c.in-Err.ensures.absent in omega (arith, one, c.requires.size)

pub fill_hole-requires-clause-within : goal.fill_hole-requires-clause-within
fill_hole-requires-clause-within c =
    let reached = gap_within c.args.pairs.now.items (around c.args.order.now.items c.args.hole) c.args.key c.in-Err.i c.in-Err.ensures.absent in
    omega (arith, reached, length-around c.args.order.now.items c.args.hole c.requires.state.within)

filled : (c : After-fill_hole) → around c.fill_hole.new.order.items c.fill_hole.result ≡ insert (around c.args.order.now.items c.args.hole) c.in-Err.i
    (length c.args.pairs.now.items)
filled c =
    c.fill_hole.ensures.places ∙ ap (insert (around c.args.order.now.items c.args.hole) c.in-Err.i) (c.len-place.ensures ∙ c.args.pairs.now.ok.0)

pub returns-in-Err-clause-state : goal.returns-in-Err-clause-state
returns-in-Err-clause-state c =
    let one = growth_gap _ c.args.key c.in-Err.i c.in-Err.ensures.absent in
    let some : 0 < c.args.hole.size = omega (arith, one, c.requires.size) in
    let positive : 0 < c.len-place.result + 1 = omega arith in
    subst (λ (p : Pairs). IsOpen p c.fill_hole.new.order.items c.write_hint.new.hints.items c.fill_hole.result) (sym c.push_reserved.ensures.items)
    (open_added c.args.pairs.now.items c.args.order.now.items c.args.hints.now.items c.fill_hole.new.order.items c.write_hint.new.hints.items c.args.hole
    c.fill_hole.result
    c.args.key c.args.rec c.in-Err.i (c.len-place.result + 1) c.requires.state c.in-Err.ensures.absent c.requires.key some positive c.write_hint.ensures
    c.fill_hole.ensures.start c.fill_hole.ensures.size c.fill_hole.ensures.count (filled c))

pub returns-in-Err-clause-pairs : goal.returns-in-Err-clause-pairs
returns-in-Err-clause-pairs c =
    ap (λ (p : Pairs). in_order p (around c.fill_hole.new.order.items c.fill_hole.result)) c.push_reserved.ensures.items
    ∙ pairs_added c.args.pairs.now.items c.args.order.now.items c.args.hints.now.items c.fill_hole.new.order.items c.args.hole c.fill_hole.result c.args.key
    c.args.rec c.in-Err.i
    c.requires.state c.in-Err.ensures.absent (filled c)

pub returns-in-Err-clause-below : goal.returns-in-Err-clause-below
returns-in-Err-clause-below c next less =
    below_added c.args.pairs.now.items _ c.args.order.now.items c.args.hints.now.items c.args.hole c.args.key next c.args.rec c.in-Err.i
    c.fill_hole.result.start
    c.requires.state c.in-Err.ensures.absent (returns-in-Err-clause-pairs c) c.fill_hole.ensures.start less

pub returns-in-Err-clause-size : goal.returns-in-Err-clause-size
returns-in-Err-clause-size c = let one = growth_gap _ c.args.key c.in-Err.i c.in-Err.ensures.absent in omega (arith, one, c.fill_hole.ensures.size)
