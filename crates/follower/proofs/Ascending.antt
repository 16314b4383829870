-- Rising records that a transaction may hand to a follower are in the order of a shipment.
use Rattle.std.proofs.Common.{None, Some, [], ◌∷◌}
use Rattle.rec_bytes.specs.declared.key.Key.{Key}
use Rattle.rec_bytes.specs.declared.shape.Shape.{Shape}
use Rattle.rec_bytes.specs.Pairs.{IsBelow, IsOrdered, Pairs}
use Rattle.txn_core.specs.Shipped.{AllShip}
use Rattle.follower.specs.Shipment.{Ascend}

ascends-behind : (shape : Shape) (last : Key) (pairs : Pairs) → IsBelow last pairs → IsOrdered pairs → AllShip shape pairs → Ascend shape (Some last) pairs
ascends-behind shape last [] below rising all = tt
ascends-behind shape last (pair ∷ later) below rising all = (
  record { shipped = all.0; above = below.0 },
  ascends-behind shape pair.0 later rising.0 rising.1
      all.1,
)

pub ascends : (shape : Shape) (pairs : Pairs) → IsOrdered pairs → AllShip shape pairs → Ascend shape None pairs
ascends shape [] rising all = tt
ascends shape (pair ∷ later) rising all = (record { shipped = all.0; above = tt }, ascends-behind shape pair.0 later rising.0 rising.1 all.1)
