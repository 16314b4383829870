use Rattle.std.proofs.Common.{◌≡◌, ◌∙◌, ◌<◌, ◌+◌, ◌∷◌, arith, drop, length, subst, sym}
use Rattle.rec_bytes.proofs.PairLaws.{next_pair}
use Rattle.txn_core.specs.Shipped.{AllShip}
use Rattle.txn_core.proofs.tapping.all_ship.Goals as goal

pub loop-i-preserved : goal.loop-i-preserved
loop-i-preserved c =
    let writes = c.args.writes.now.pairs in
    let i = c.loop-i.i in
    let within : i < length writes = omega (arith, c.loop-i-test.true, c.len-i-end.ensures.value) in
    let next : drop i writes ≡ c.at.result ∷ drop (i + 1) writes = next_pair writes i c.at.result c.at.ensures.value within in
    let shipped = sym c.is_shipped.ensures ∙ c.if-not-is_shipped.false in
    record {
      all = λ rest. c.loop-i.invariant.all (subst (AllShip c.args.shape) (sym next) (shipped, rest));
      rest = λ all. (subst (AllShip c.args.shape) next (c.loop-i.invariant.rest all)).1;
    }
