use Rattle.std.proofs.Common.{inl, inr, refl, arith}
use Rattle.follower.proofs.Slots.{whole_begins}
use Rattle.follower.proofs.shipment.check_write.Goals as goal

pub returns-then-bytes-place-lt-WRITE_BYTES-clause-stops :
    goal.returns-then-bytes-place-lt-WRITE_BYTES-clause-stops
returns-then-bytes-place-lt-WRITE_BYTES-clause-stops c =
    let whole = c.in-Ok.ensures.whole in
    record {
      known = 5;
      few = omega arith;
      from = omega arith;
      all = inr refl;
      within = omega arith;
      short = omega arith;
      begins = whole_begins c.args.slot.now c.args.bytes.now c.args.place c.in-Ok.key c.in-Ok.ensures.key c.in-Ok.ensures.stands;
      stops = inl refl;
    }
