use Rattle.std.proofs.Common.{◌+◌, ◌-◌, set, ap, arith, refl}
use Rattle.rec_bytes.proofs.HoleLaws.{around_filled}
use Rattle.rec_bytes.proofs.order_hole.fill_hole.Goals as goal

pub returns-clause-places : goal.returns-clause-places
returns-clause-places c =
    around_filled c.args.order.now.items _ c.args.hole _ c.args.i c.args.place (c.args.i + c.args.hole.size - (c.args.hole.start + c.args.hole.size))
    c.requires.behind c.requires.some c.requires.within (omega arith) refl refl (ap (λ l. set l c.args.i c.args.place) c.copy_within.ensures.items)
