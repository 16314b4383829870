use Rattle.std.proofs.Common.{◌≡◌, Err, Ok, Result, sym, subst}
use Rattle.std.specs.Prelude.{OnErr, OnOk}
use Rattle.rec_bytes.specs.Pairs.{Pairs, merged}
use Rattle.rec_bytes.specs.declared.shape.Shape.{Shape}
use Rattle.txn_core.specs.Shipped.{AllShip}
use Rattle.txn_core.proofs.Shipped.{all_ship-merged}
use Rattle.graph_session.proofs.changing.keep.Goals as goal

-- whether the records of the draft were taken or not
ships-kept : {T E : Type 0} (result : Result T E) (shape : Shape) (own draft new : Pairs) → OnOk result (new ≡ merged own draft) → OnErr result (new ≡ own)
    → AllShip shape own → AllShip shape draft → AllShip shape new
ships-kept (Ok done) shape own draft new is same all more = subst (AllShip shape) (sym is) (all_ship-merged shape own draft all more)
ships-kept (Err fault) shape own draft new is same all more = subst (AllShip shape) (sym same) all

pub returns-clause-ships : goal.returns-clause-ships
returns-clause-ships g c =
    let old = c.args.store.now in
    let new = c.keep.new.self in
    subst (λ (shape : Shape). AllShip shape new.base.own.pairs) (sym c.keep.ensures.same.shape)
    (ships-kept c.keep.result old.base.shape old.base.own.pairs old.draft.pairs new.base.own.pairs c.keep.ensures.own c.keep.ensures.refused c.requires.ships
    (c.draft_ships.ensures.0 c.if-not-draft_ships.false))
