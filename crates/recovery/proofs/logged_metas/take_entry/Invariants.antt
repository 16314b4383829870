use Rattle.std.proofs.Common.{◌≤◌}
use Rattle.disk_model.specs.Spans.{OnlyReads}
use Rattle.rec_bytes.specs.declared.key.Key.{Key}
use Rattle.rec_bytes.specs.declared.record.Rec.{Rec}
use Rattle.redo_log.specs.Entries.{entry_at}
use Rattle.redo_log.specs.Reading.{IsPieceOf}
use Rattle.record_file.specs.MetaFile.{AreMetasOf}
use Rattle.recovery.specs.Redoing.{IsAtEntry}
use Rattle.recovery.proofs.Metas.{IsTaken}
use Rattle.recovery.proofs.logged_metas.take_entry.Given as goal

abbrev pub invariant-loop-index : goal.invariant-loop-index
invariant-loop-index g l = let disk = g.D.Disk in record {
  taken : disk.tells_reads → IsAtEntry (disk.reads l.fn.disk) l.fn.reader l.place l.count → (space : Key → Rec) → AreMetasOf space l.fn.metas.records
      → IsTaken l.metas.records space (entry_at (disk.reads l.fn.disk) l.place) l.index;
  keeps : disk.tells_reads → IsPieceOf (disk.reads l.fn.disk) l.fn.reader → IsPieceOf (disk.reads l.disk) l.reader;
  only_reads : OnlyReads disk l.fn.disk l.disk;
  later : disk.faults l.fn.disk ≤ disk.faults l.disk;
}
