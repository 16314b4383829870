use Rattle.follower.proofs.Beginnings.{HasRecords}
use Rattle.follower.proofs.shipment.check_shipment.Given as goal

-- the records before this one are read
abbrev pub invariant-loop-index : goal.invariant-loop-index
invariant-loop-index l = HasRecords l.shape l.bytes l.last l.index
