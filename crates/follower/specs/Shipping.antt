-- The bytes of a shipment, as its sender makes them.
use Rattle.std.specs.Prelude.{ℕ, ◌≤◌, List, ◌++◌, length, None}
use Rattle.byteorder.specs.Endian.{little_bytes}
use Rattle.rec_bytes.specs.declared.shape.Shape.{Shape}
use Rattle.rec_bytes.specs.Pairs.{Pairs}
use Rattle.redo_log.specs.Appending.{AreWhole, payload_bytes}
use Rattle.follower.specs.Shipment.{Ascend, most_shipped}

-- the number, and then what an entry of the log has behind its gate: the count of the records, and
-- each of them
abbrev pub shipment_bytes : ℕ → Pairs → List ℕ
shipment_bytes number writes = little_bytes 8 number ++ payload_bytes writes

-- A shipment may have these records.
pub record AreShipped (shape : Shape) (writes : Pairs) : Type 0 where
  pub few : length writes ≤ most_shipped
  pub ascend : Ascend shape None writes
  pub whole : AreWhole writes
