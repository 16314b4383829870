use Rattle.std.proofs.Common.{drop}
use Rattle.txn_core.specs.Shipped.{AllShip}
use Rattle.txn_core.proofs.tapping.all_ship.Given as goal

-- a shipment may have all of them if it may have the rest
abbrev pub invariant-loop-i : goal.invariant-loop-i
invariant-loop-i l = record {
  all : AllShip l.shape (drop l.i l.writes.pairs) → AllShip l.shape l.writes.pairs;
  rest : AllShip l.shape l.writes.pairs → AllShip l.shape (drop l.i l.writes.pairs);
}
