use Rattle.std.proofs.Common.{arith}
use Rattle.rec_bytes.specs.OrderHole.{around}
use Rattle.rec_bytes.proofs.PairLaws.{place_in_range}
use Rattle.rec_bytes.proofs.OrderLaws.{place_within}
use Rattle.rec_bytes.proofs.HintLaws.{pair_at_place}
use Rattle.rec_bytes.proofs.HoleLaws.{length-around, pair_behind}
use Rattle.rec_bytes.proofs.place_hints.look_behind.Goals as goal

pub returns-in-Some-clause-found : goal.returns-in-Some-clause-found
returns-in-Some-clause-found c =
    pair_at_place c.args.pairs.now.items (around c.args.order.now.items c.args.hole) c.args.hints.now.items c.args.key c.in-Some.place c.requires.state.hinted
    c.in-Some.ensures.within c.in-Some.ensures.key

pub overflow_add-i : goal.overflow_add-i
overflow_add-i c =
    let within = place_within c.args.pairs.now.items (around c.args.order.now.items c.args.hole) c.in-Ok.i (place_in_range _ _ _ c.in-Ok.ensures.found) in
    omega (arith, within, length-around c.args.order.now.items c.args.hole c.requires.state.within, c.args.order.now.ok.0)

pub index-requires : goal.index-requires
index-requires c =
    let within = place_within c.args.pairs.now.items (around c.args.order.now.items c.args.hole) c.in-Ok.i (place_in_range _ _ _ c.in-Ok.ensures.found) in
    rw (c.args.order.now.ok.0) (omega (arith, within, length-around c.args.order.now.items c.args.hole c.requires.state.within))

pub returns-in-Ok-clause-found : goal.returns-in-Ok-clause-found
returns-in-Ok-clause-found c =
    pair_behind c.args.pairs.now.items c.args.order.now.items c.args.hints.now.items c.args.hole c.args.key c.in-Ok.i c.index.result.now c.requires.state
    c.requires.below
    c.in-Ok.ensures.found c.index.ensures
