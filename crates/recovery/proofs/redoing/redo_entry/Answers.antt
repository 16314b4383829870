use Rattle.std.proofs.Common.{ℕ, ◌∙◌, ◌+◌, arith}
use mathlib.Core.Bool.{false≢true}
use Rattle.disk_model.specs.Contents.{Files, Same}
use Rattle.disk_model.specs.Spans.{AtEachMoment, OnlyReads}
use Rattle.disk_model.proofs.Spans.{Passes, at_each_moment_read}
use Rattle.rec_bytes.specs.declared.key.Key.{Key}
use Rattle.rec_bytes.specs.declared.record.Rec.{Rec}
use Rattle.rec_bytes.specs.Key.{IsKey}
use Rattle.rec_bytes.specs.Pairs.{Pairs}
use Rattle.rec_bytes.specs.Space.{laid_over}
use Rattle.redo_log.specs.Entries.{count_at, entry_at}
use Rattle.redo_log.proofs.Entries.{length-writes_from}
use Rattle.redo_log.specs.Reading.{IsPieceOf, Piece}
use Rattle.record_file.specs.Records.{IsTornInRecords, SameButRecords, record_at}
use Rattle.record_file.proofs.Written.{AreAmong, AreWritten-all, IsKey-get, SameButRecords-among, SameButRecords-same, SameButRecords-then}
use Rattle.record_file.proofs.Written.{torn_in_records_more, torn_in_records_none}
use Rattle.recovery.proofs.Causes.{disk_cause, ok_cause, only_disk}
use Rattle.recovery.proofs.EntrySteps.{IsPartWritten, IsPartWritten-more, IsPartWritten-none, IsPartWritten-read, IsPartWritten-torn, IsPieceOf-same}
use Rattle.recovery.proofs.EntrySteps.{write_is}
use Rattle.recovery.proofs.redoing.redo_entry.Given.{Over}
use Rattle.rec_bytes.proofs.Causes.{never_ok}
use Rattle.recovery.proofs.redoing.redo_entry.Goals as goal

-- with a read of the log and a write of some of the records
crash_more : (g : Over) (first old read now : g.row.D.Denot) (pairs run : Pairs) → AreAmong run pairs → g.D.Disk.tells_images
    → AtEachMoment g.D.Disk first old (IsTornInRecords (g.D.Disk.may_leave first) pairs) → OnlyReads g.D.Disk old read → Passes g.D.Disk read now
    → ((image : Files) → g.D.Disk.may_leave now image → IsTornInRecords (g.D.Disk.may_leave read) run image)
    → AtEachMoment g.D.Disk first now (IsTornInRecords (g.D.Disk.may_leave first) pairs)
crash_more g first old read now pairs run among images before reads time torn =
    torn_in_records_more g.D.Disk first read now pairs run g.met.D.Disk.counts_now images
    (at_each_moment_read g.D.Disk first old read (IsTornInRecords (g.D.Disk.may_leave first) pairs) g.met.D.Disk.counts_now images before reads) time torn among

pub loop-index-init : goal.loop-index-init
loop-index-init g c =
    let first = g.D.Disk.reads c.args.disk.now in
    record {
      part = λ reads at. IsPartWritten-none first c.args.reader.now c.args.place c.args.count c.new-run.result c.new-run.ensures at;
      crash = λ reads images at. torn_in_records_none g.D.Disk c.args.disk.now (entry_at first c.args.place) g.met.D.Disk.only_now images;
      later = omega arith;
    }

pub returns-then-not-is_valid-clause-sound : goal.returns-then-not-is_valid-clause-sound
returns-then-not-is_valid-clause-sound g c reads at =
    let disk = g.D.Disk in
    let write = let w : Key × Rec = (c.in_ok-key.key, c.in_ok-key.rec) in w in
    let is = write_is (disk.reads c.args.disk.now) (disk.reads c.loop-index.disk) c.args.reader.now c.loop-index.reader c.args.place c.args.count
    c.loop-index.index write c.loop-index.run at (c.loop-index.invariant.part reads at) c.loop-index-test.true (c.in_ok-key.ensures.of_entry reads) in
    let is_key : IsKey c.in_ok-key.key = IsKey-get (entry_at (disk.reads c.args.disk.now) c.args.place) c.loop-index.index write at.entry.form.keys is in
    absurd (false≢true (c.if-not-is_valid.ensures.1 is_key))

pub returns-in_err-put-clause-elsewhere : goal.returns-in_err-put-clause-elsewhere
returns-in_err-put-clause-elsewhere g c reads at =
    let disk = g.D.Disk in
    IsPartWritten-torn (disk.reads c.args.disk.now) (disk.reads c.loop-index.disk) (disk.reads c.write_at.new.disk) (disk.reads c.put.new.disk)
    c.loop-index.reader c.args.place c.loop-index.index c.loop-index.run
    (c.loop-index.invariant.part reads at) c.write_at.ensures.only_reads.keeps c.put.ensures.elsewhere

pub returns-in_err-put-clause-crash : goal.returns-in_err-put-clause-crash
returns-in_err-put-clause-crash g c reads images at =
    crash_more g c.args.disk.now c.loop-index.disk c.write_at.new.disk c.put.new.disk (entry_at (g.D.Disk.reads c.args.disk.now) c.args.place) c.loop-index.run
    (c.loop-index.invariant.part reads at).among
    images (c.loop-index.invariant.crash reads images at) c.write_at.ensures.only_reads (c.put.ensures.time images) (c.put.ensures.crash images)

pub loop-index-preserved : goal.loop-index-preserved
loop-index-preserved g c =
    let disk = g.D.Disk in
    let first = disk.reads c.args.disk.now in
    let old = disk.reads c.loop-index.disk in
    let read = disk.reads c.write_at.new.disk in
    let pairs = entry_at first c.args.place in
    let write = let w : Key × Rec = (c.in_ok-key.key, c.in_ok-key.rec) in w in
    record {
      part = λ reads at.
          let was = c.loop-index.invariant.part reads at in
          let is = write_is first old c.args.reader.now c.loop-index.reader c.args.place c.args.count c.loop-index.index write c.loop-index.run at was
          c.loop-index-test.true (c.in_ok-key.ensures.of_entry reads) in
          IsPartWritten-more first read (disk.reads c.put.new.disk) c.write_at.new.self c.args.place c.loop-index.index write c.loop-index.run c.put.new.self
          at.entry
          (IsPartWritten-read first old read c.loop-index.reader c.write_at.new.self c.args.place c.loop-index.index c.loop-index.run was
          c.write_at.ensures.only_reads.keeps (c.write_at.ensures.keeps reads was.kept))
          is (c.in_ok-put.ensures.written reads) c.put.ensures.waits c.put.ensures.elsewhere;
      crash = λ reads images at.
          crash_more g c.args.disk.now c.loop-index.disk c.write_at.new.disk c.put.new.disk pairs c.loop-index.run (c.loop-index.invariant.part reads at).among
          images (c.loop-index.invariant.crash reads images at) c.write_at.ensures.only_reads (c.put.ensures.time images) (c.put.ensures.crash images);
      later = omega (arith, c.loop-index.invariant.later, c.write_at.ensures.cause.later, c.put.ensures.cause.later);
    }

pub returns-in_err-write-clause-crash : goal.returns-in_err-write-clause-crash
returns-in_err-write-clause-crash g c reads images at =
    torn_in_records_more g.D.Disk c.args.disk.now c.loop-index.disk c.write.new.disk (entry_at (g.D.Disk.reads c.args.disk.now) c.args.place) c.loop-index.run
    g.met.D.Disk.counts_now images
    (c.loop-index.invariant.crash reads images at) (c.write.ensures.time images) (c.write.ensures.crash images) (c.loop-index.invariant.part reads at).among

pub returns-clause-crash : goal.returns-clause-crash
returns-clause-crash g c reads images at =
    torn_in_records_more g.D.Disk c.args.disk.now c.loop-index.disk c.write.new.disk (entry_at (g.D.Disk.reads c.args.disk.now) c.args.place) c.loop-index.run
    g.met.D.Disk.counts_now images
    (c.loop-index.invariant.crash reads images at) (c.write.ensures.time images) (c.write.ensures.crash images) (c.loop-index.invariant.part reads at).among

pub returns-clause-written : goal.returns-clause-written
returns-clause-written g c reads at =
    let disk = g.D.Disk in
    let first = disk.reads c.args.disk.now in
    let all = AreWritten-all _ (entry_at first c.args.place) c.loop-index.index (laid_over (record_at (disk.reads c.loop-index.disk)) c.loop-index.run)
    (c.loop-index.invariant.part reads at).written
    (omega (arith, length-writes_from (count_at first c.args.place) (c.args.place + 3) first, at.count_is, c.loop-index-test.false)) in
    c.in_ok-write.ensures.written reads ∙ all

pub returns-in_err-key-clause-written : goal.returns-in_err-key-clause-written
returns-in_err-key-clause-written g c _ _ = never_ok c.from_residual.result _ _ c.from_residual.ensures.1

pub returns-in_err-put-clause-written : goal.returns-in_err-put-clause-written
returns-in_err-put-clause-written g c _ _ = never_ok c.from_residual-in_err-put.result _ _ c.from_residual-in_err-put.ensures.1

pub returns-in_err-write-clause-written : goal.returns-in_err-write-clause-written
returns-in_err-write-clause-written g c _ _ = never_ok c.from_residual-in_err-write.result _ _ c.from_residual-in_err-write.ensures.1

-- ---- where a key was read, and none is written
read_elsewhere : (first old read : Files) (piece : Piece) (place index : ℕ) (run : Pairs) → IsPartWritten first old piece place index run → Same old read
    → SameButRecords (entry_at first place) first read
read_elsewhere first old read piece place index run was kept =
    SameButRecords-then (entry_at first place) first old read was.elsewhere (SameButRecords-same (entry_at first place) old read kept)

pub returns-in_err-key-clause-elsewhere : goal.returns-in_err-key-clause-elsewhere
returns-in_err-key-clause-elsewhere g c reads at =
    read_elsewhere _ _ _ c.loop-index.reader c.args.place c.loop-index.index c.loop-index.run (c.loop-index.invariant.part reads at)
    c.write_at.ensures.only_reads.keeps

pub returns-then-not-is_valid-clause-elsewhere : goal.returns-then-not-is_valid-clause-elsewhere
returns-then-not-is_valid-clause-elsewhere g c reads at =
    read_elsewhere _ _ _ c.loop-index.reader c.args.place c.loop-index.index c.loop-index.run (c.loop-index.invariant.part reads at)
    c.write_at.ensures.only_reads.keeps

pub returns-in_err-key-clause-keeps : goal.returns-in_err-key-clause-keeps
returns-in_err-key-clause-keeps g c reads at = c.write_at.ensures.keeps reads (c.loop-index.invariant.part reads at).kept

pub returns-then-not-is_valid-clause-keeps : goal.returns-then-not-is_valid-clause-keeps
returns-then-not-is_valid-clause-keeps g c reads at = c.write_at.ensures.keeps reads (c.loop-index.invariant.part reads at).kept

pub returns-in_err-key-clause-crash : goal.returns-in_err-key-clause-crash
returns-in_err-key-clause-crash g c reads images at =
    at_each_moment_read g.D.Disk c.args.disk.now c.loop-index.disk c.write_at.new.disk _ g.met.D.Disk.counts_now images
    (c.loop-index.invariant.crash reads images at) c.write_at.ensures.only_reads

pub returns-then-not-is_valid-clause-crash : goal.returns-then-not-is_valid-clause-crash
returns-then-not-is_valid-clause-crash g c reads images at =
    at_each_moment_read g.D.Disk c.args.disk.now c.loop-index.disk c.write_at.new.disk _ g.met.D.Disk.counts_now images
    (c.loop-index.invariant.crash reads images at) c.write_at.ensures.only_reads

pub returns-in_err-key-clause-sound : goal.returns-in_err-key-clause-sound
returns-in_err-key-clause-sound g c _ _ = only_disk c.from_residual.result c.from_residual.ensures.1

pub returns-in_err-key-clause-cause : goal.returns-in_err-key-clause-cause
returns-in_err-key-clause-cause g c =
    disk_cause _ _ _ c.from_residual.result c.in_err-key.field-0.0 c.loop-index.invariant.later c.in_err-key.ensures.cause

pub returns-then-not-is_valid-clause-written : goal.returns-then-not-is_valid-clause-written
returns-then-not-is_valid-clause-written g c reads at = tt

pub returns-then-not-is_valid-clause-cause : goal.returns-then-not-is_valid-clause-cause
returns-then-not-is_valid-clause-cause g c =
    let before = c.loop-index.invariant.later in
    let later = c.write_at.ensures.cause.later in
    let is = c.damaged_entry.ensures in
    record { later = omega (arith, before, later); disk = λ blamed. absurd (cc is) }

-- ---- where a record may be torn
pub returns-in_err-put-clause-keeps : goal.returns-in_err-put-clause-keeps
returns-in_err-put-clause-keeps g c reads at =
    let disk = g.D.Disk in
    let was = c.loop-index.invariant.part reads at in
    IsPieceOf-same (disk.reads c.write_at.new.disk) (disk.reads c.put.new.disk) c.write_at.new.self (c.write_at.ensures.keeps reads was.kept)
    (SameButRecords-among c.loop-index.run (entry_at (disk.reads c.args.disk.now) c.args.place) (disk.reads c.write_at.new.disk) (disk.reads c.put.new.disk)
    was.among c.put.ensures.elsewhere).log

pub returns-in_err-put-clause-sound : goal.returns-in_err-put-clause-sound
returns-in_err-put-clause-sound g c _ _ = only_disk c.from_residual-in_err-put.result c.from_residual-in_err-put.ensures.1

pub returns-in_err-put-clause-cause : goal.returns-in_err-put-clause-cause
returns-in_err-put-clause-cause g c =
    let before = c.loop-index.invariant.later in
    let later = c.write_at.ensures.cause.later in
    disk_cause _ _ _ c.from_residual-in_err-put.result c.in_err-put.field-0.0 (omega (arith, before, later)) c.in_err-put.ensures.cause

-- ---- where the rest is written
module _ (first old new : Files) (piece : Piece) (place index : ℕ) (run : Pairs) (was : IsPartWritten first old piece place index run)
    (same : SameButRecords run old new) where
  rest : SameButRecords (entry_at first place) old new
  rest = SameButRecords-among run (entry_at first place) old new was.among same

  rest_elsewhere : SameButRecords (entry_at first place) first new
  rest_elsewhere = SameButRecords-then (entry_at first place) first old new was.elsewhere rest

  rest_kept : IsPieceOf new piece
  rest_kept = IsPieceOf-same old new piece was.kept rest.log

pub returns-in_err-write-clause-elsewhere : goal.returns-in_err-write-clause-elsewhere
returns-in_err-write-clause-elsewhere g c reads at =
    rest_elsewhere _ _ _ c.loop-index.reader c.args.place c.loop-index.index c.loop-index.run (c.loop-index.invariant.part reads at) c.write.ensures.elsewhere

pub returns-in_err-write-clause-keeps : goal.returns-in_err-write-clause-keeps
returns-in_err-write-clause-keeps g c reads at =
    rest_kept _ _ _ c.loop-index.reader c.args.place c.loop-index.index c.loop-index.run (c.loop-index.invariant.part reads at) c.write.ensures.elsewhere

pub returns-in_err-write-clause-sound : goal.returns-in_err-write-clause-sound
returns-in_err-write-clause-sound g c _ _ = only_disk c.from_residual-in_err-write.result c.from_residual-in_err-write.ensures.1

pub returns-in_err-write-clause-cause : goal.returns-in_err-write-clause-cause
returns-in_err-write-clause-cause g c =
    disk_cause _ _ _ c.from_residual-in_err-write.result c.in_err-write.field-0.0 c.loop-index.invariant.later c.in_err-write.ensures.cause

pub returns-clause-elsewhere : goal.returns-clause-elsewhere
returns-clause-elsewhere g c reads at =
    rest_elsewhere _ _ _ c.loop-index.reader c.args.place c.loop-index.index c.loop-index.run (c.loop-index.invariant.part reads at) c.write.ensures.elsewhere

pub returns-clause-keeps : goal.returns-clause-keeps
returns-clause-keeps g c reads at =
    rest_kept _ _ _ c.loop-index.reader c.args.place c.loop-index.index c.loop-index.run (c.loop-index.invariant.part reads at) c.write.ensures.elsewhere

pub returns-clause-sound : goal.returns-clause-sound
returns-clause-sound g c reads at = tt

pub returns-clause-cause : goal.returns-clause-cause
returns-clause-cause g c =
    let before = c.loop-index.invariant.later in
    let later = c.write.ensures.cause.later in
    ok_cause _ _ _ (omega (arith, before, later))
