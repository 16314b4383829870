use Rattle.std.proofs.Common.{◌∙◌, arith, subst, sym}
use Rattle.std.proofs.lemmas.Result.{on_ok_weaker}
use Rattle.rec_bytes.specs.Pairs.{Pairs}
use Rattle.rec_bytes.specs.Space.{laid_over}
use Rattle.record_file.specs.Records.{record_at}
use Rattle.record_file.proofs.Written.{AreAmong, AreAmong-none, AreAmong-put, AreWritten, AreWritten-all}
use Rattle.record_file.proofs.Written.{AreWritten-more, AreWritten-none, SameButRecords-among, SameButRecords-none}
use Rattle.record_file.proofs.Written.{SameButRecords-then, find_pair-there, torn_in_records_more, torn_in_records_none}
use Rattle.recovery.proofs.writing.write_records.Goals as goal

pub loop-i-init : goal.loop-i-init
loop-i-init g c =
    let records = record_at (g.D.Disk.reads c.args.disk.now) in
    record {
      written = λ reads. subst (λ (run : Pairs). AreWritten records c.args.written.now.pairs 0 (laid_over records run)) (sym c.new-run.ensures)
          (AreWritten-none records c.args.written.now.pairs);
      among = subst (λ (run : Pairs). AreAmong run c.args.written.now.pairs) (sym c.new-run.ensures) (AreAmong-none c.args.written.now.pairs);
      elsewhere = SameButRecords-none c.args.written.now.pairs (g.D.Disk.reads c.args.disk.now);
      crash = λ images. torn_in_records_none g.D.Disk c.args.disk.now c.args.written.now.pairs g.met.D.Disk.only_now images;
      later = omega arith;
    }

pub returns-in_err-put-clause-elsewhere : goal.returns-in_err-put-clause-elsewhere
returns-in_err-put-clause-elsewhere g c =
    let disk = g.D.Disk in
    let pairs = c.args.written.now.pairs in
    SameButRecords-then pairs (disk.reads c.args.disk.now) (disk.reads c.loop-i.disk) (disk.reads c.put.new.disk) c.loop-i.invariant.elsewhere
    (SameButRecords-among c.loop-i.run pairs (disk.reads c.loop-i.disk) (disk.reads c.put.new.disk) c.loop-i.invariant.among c.put.ensures.elsewhere)

pub returns-in_err-put-clause-crash : goal.returns-in_err-put-clause-crash
returns-in_err-put-clause-crash g c images =
    torn_in_records_more g.D.Disk c.args.disk.now c.loop-i.disk c.put.new.disk c.args.written.now.pairs c.loop-i.run g.met.D.Disk.counts_now images
    (c.loop-i.invariant.crash images) (c.put.ensures.time images) (c.put.ensures.crash images) c.loop-i.invariant.among

pub loop-i-preserved : goal.loop-i-preserved
loop-i-preserved g c =
    let disk = g.D.Disk in
    let was = c.loop-i.invariant in
    let pairs = c.args.written.now.pairs in
    let rising = c.len-i-end.ensures.rising in
    record {
      written = λ reads. AreWritten-more _ pairs c.loop-i.i c.at.result (laid_over (record_at (disk.reads c.loop-i.disk)) c.loop-i.run)
          (laid_over (record_at (disk.reads c.put.new.disk)) c.put.new.self) rising c.at.ensures.value (was.written reads) (c.in_ok-put.ensures.written reads);
      among = AreAmong-put c.loop-i.run c.put.new.self pairs c.at.result.0 was.among (find_pair-there pairs c.loop-i.i c.at.result rising c.at.ensures.value)
          c.put.ensures.waits;
      elsewhere = SameButRecords-then pairs (disk.reads c.args.disk.now) (disk.reads c.loop-i.disk) (disk.reads c.put.new.disk) was.elsewhere
          (SameButRecords-among c.loop-i.run pairs (disk.reads c.loop-i.disk) (disk.reads c.put.new.disk) was.among c.put.ensures.elsewhere);
      crash = λ images.
          torn_in_records_more disk c.args.disk.now c.loop-i.disk c.put.new.disk pairs c.loop-i.run g.met.D.Disk.counts_now images
          (was.crash images) (c.put.ensures.time images) (c.put.ensures.crash images) was.among;
      later = omega (arith, was.later, c.put.ensures.cause.later);
    }

pub returns-clause-written : goal.returns-clause-written
returns-clause-written g c reads =
    let disk = g.D.Disk in
    let pairs = c.args.written.now.pairs in
    let all = AreWritten-all _ pairs c.loop-i.i (laid_over (record_at (disk.reads c.loop-i.disk)) c.loop-i.run) (c.loop-i.invariant.written reads)
    (omega (arith, c.loop-i-test.false, c.len-i-end.ensures.value)) in
    on_ok_weaker c.write.result (λ written. written ∙ all) (c.write.ensures.written reads)

pub returns-clause-elsewhere : goal.returns-clause-elsewhere
returns-clause-elsewhere g c =
    let disk = g.D.Disk in
    let pairs = c.args.written.now.pairs in
    SameButRecords-then pairs (disk.reads c.args.disk.now) (disk.reads c.loop-i.disk) (disk.reads c.write.new.disk) c.loop-i.invariant.elsewhere
    (SameButRecords-among c.loop-i.run pairs (disk.reads c.loop-i.disk) (disk.reads c.write.new.disk) c.loop-i.invariant.among c.write.ensures.elsewhere)

pub returns-clause-crash : goal.returns-clause-crash
returns-clause-crash g c images =
    torn_in_records_more g.D.Disk c.args.disk.now c.loop-i.disk c.write.new.disk c.args.written.now.pairs c.loop-i.run g.met.D.Disk.counts_now images
    (c.loop-i.invariant.crash images) (c.write.ensures.time images) (c.write.ensures.crash images) c.loop-i.invariant.among
