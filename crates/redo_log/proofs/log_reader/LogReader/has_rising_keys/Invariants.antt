use Rattle.std.proofs.Common.{◌≤◌, ◌+◌, ◌*◌, ◌-◌, None}
use Rattle.std.specs.Prelude.{◌↔◌}
use Rattle.disk_model.specs.Contents.{Files}
use Rattle.redo_log.specs.Entries.{writes_from}
use Rattle.disk_model.specs.Spans.{OnlyReads}
use Rattle.redo_log.specs.Reading.{AreRisingAbove, HasContent}
use Rattle.redo_log.proofs.log_reader.LogReader.has_rising_keys.Given as goal

-- the keys that are left decide
abbrev pub invariant-loop-index : goal.invariant-loop-index
invariant-loop-index g l = record {
  keys : g.D.Disk.tells_reads → (content : Files) → HasContent content (g.D.Disk.reads l.initial.disk) l.initial.self
      → AreRisingAbove l.last (writes_from content (l.start + 69 * l.index) (l.count - l.index)) ↔ AreRisingAbove None (writes_from content l.start l.count);
  keeps : g.D.Disk.tells_reads → (content : Files) → HasContent content (g.D.Disk.reads l.initial.disk) l.initial.self
      → HasContent content (g.D.Disk.reads l.disk) l.self;
  only_reads : OnlyReads g.D.Disk l.initial.disk l.disk;
  later : g.D.Disk.faults l.initial.disk ≤ g.D.Disk.faults l.disk;
}
