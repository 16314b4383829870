-- Stores of any version of the format.
use Rattle.rec_bytes.specs.Creation.{raised}
use Rattle.rec_bytes.specs.declared.key.Key.{Key}
use Rattle.rec_bytes.specs.declared.record.Rec.{Rec}
use Rattle.rec_bytes.specs.declared.shape.Shape.{Shape}
use Rattle.recovery.specs.Finding as finding
use Rattle.store_rules.specs.Indexes.{IsIndexed}

-- A store of this shape with its indexes, of whatever version: recovery finds it, and brought to
-- the newest version its records keep all rules.
pub record IsIndexedIn (records : Key → Rec) (shape : Shape) : Type 0 where
  pub made : finding.IsMade records shape
  pub store : IsIndexed (raised shape records) shape
