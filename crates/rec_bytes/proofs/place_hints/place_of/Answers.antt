use Rattle.std.proofs.Common.{refl, arith}
use Rattle.rec_bytes.proofs.PairLaws.{find_gap, place_in_range}
use Rattle.rec_bytes.proofs.OrderLaws.{place_within, place_read}
use Rattle.rec_bytes.proofs.HintLaws.{pair_at_place, pair_searched}
use Rattle.rec_bytes.proofs.place_hints.place_of.Goals as goal

pub returns-then-is_at-clause-found : goal.returns-then-is_at-clause-found
returns-then-is_at-clause-found c =
    pair_at_place c.args.pairs.now.items c.args.order.now.items c.args.hints.now.items c.args.key _ c.requires (c.if-is_at.ensures.within refl)
    (c.if-is_at.ensures.key refl)

pub search-requires-clause-below : goal.search-requires-clause-below
search-requires-clause-below c k none = absurd (omega (arith, none))

pub index-requires : goal.index-requires
index-requires c =
    rw (c.args.order.now.ok.0) (place_within c.args.pairs.now.items c.args.order.now.items c.in-Ok.i (place_in_range _ _ _ c.in-Ok.ensures.found))

pub returns-in-Ok-clause-found : goal.returns-in-Ok-clause-found
returns-in-Ok-clause-found c =
    pair_searched c.args.pairs.now.items c.args.order.now.items c.args.key c.in-Ok.i _ c.in-Ok.ensures.found
    (place_read c.args.pairs.now.items c.args.order.now.items c.in-Ok.i c.index.result.now (place_in_range _ _ _ c.in-Ok.ensures.found) c.index.ensures)

pub returns-in-Err-clause-absent : goal.returns-in-Err-clause-absent
returns-in-Err-clause-absent c = find_gap _ c.args.key c.in-Err.field-0 c.in-Err.ensures.absent
