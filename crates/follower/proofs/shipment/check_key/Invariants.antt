use Rattle.std.proofs.Common.{◌≡◌, ◌+◌, ◌^◌, ◌≤◌, ◌<◌, length}
use Rattle.byteorder.specs.Endian.{little_from}
use Rattle.follower.specs.Slot.{BeginsIn}
use Rattle.follower.proofs.shipment.check_key.Given as goal

-- the number as far as it is known, and what its bytes leave open
abbrev pub invariant-loop-known : goal.invariant-loop-known
invariant-loop-known l = record {
  low_is : l.low ≡ little_from (l.place + 1) l.known l.bytes;
  power_is : l.power ≡ 256 ^ l.known;
  below : l.low < l.power;
  within : l.place + 1 + l.known ≤ length l.bytes;
  begins : BeginsIn l.slot l.file l.low l.power;
}
