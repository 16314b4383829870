use Rattle.std.proofs.Common.{subst, sym}
use Rattle.rec_bytes.specs.Pairs.{Pairs}
use Rattle.txn_core.specs.Shipped.{AllShip}
use Rattle.graph_session.proofs.session.Session.fill.Goals as goal

pub returns-in-Some : goal.returns-in-Some
returns-in-Some g c =
    let s = c.args.self.now in
    let is = c.tap.ensures.pairs in
    rw c.in-Some.is (record {
      is = is;
      few = c.tap.ensures.few;
      rising = c.tap.ensures.rising;
      shipped = subst (λ (pairs : Pairs). AllShip s.store.base.shape pairs) (sym is) s.ships;
      whole = c.tap.ensures.whole;
    })
