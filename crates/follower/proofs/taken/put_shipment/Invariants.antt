use Rattle.std.proofs.Common.{◌≡◌, ◌≤◌, take}
use Rattle.follower.specs.Shipment.{writes_of}
use Rattle.follower.proofs.Puts.{put_all}
use Rattle.follower.proofs.taken.put_shipment.Given as goal

-- the records up to here are put
abbrev pub invariant-loop-index : goal.invariant-loop-index
invariant-loop-index g l = record {
  records : (g.S.Reads.state l.space).records ≡ put_all (g.S.Reads.state l.initial.space).records (take l.index (writes_of l.bytes));
  onward : g.S.Reads.onward l.initial.space l.space;
  later : g.S.Reads.faults l.initial.space ≤ g.S.Reads.faults l.space;
}
