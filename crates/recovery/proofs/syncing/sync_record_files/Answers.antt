use Rattle.std.proofs.Common.{arith}
use Rattle.disk_model.proofs.Spans.{only_reads_call, only_reads_on}
use Rattle.recovery.proofs.Settled.{AreRecordsSettled-all, AreSettledTo-more, file_low}
use Rattle.recovery.proofs.syncing.sync_record_files.Goals as goal

pub sync-requires : goal.sync-requires
sync-requires g c = record { file = file_low c.all-entry-items.result.now c.loop-entry.entry-index _ c.all-entry-items.ensures c.loop-entry-test.true }

pub loop-entry-preserved : goal.loop-entry-preserved
loop-entry-preserved g c = record {
  settled = λ reads images.
      AreSettledTo-more g.D.Disk c.loop-entry.disk c.sync.new.self c.all-entry-items.result.now c.loop-entry.entry-index _
      (c.loop-entry.invariant.settled reads images) c.loop-entry-test.true
      c.sync.ensures.keeps (c.sync.ensures.crash images) (c.in_ok-sync.ensures.settled reads images);
  only_reads = only_reads_on g.D.Disk c.args.disk.now c.loop-entry.disk c.sync.new.self c.loop-entry.invariant.only_reads
      (only_reads_call g.D.Disk c.loop-entry.disk c.sync.new.self g.met.D.Disk.only_now c.sync.ensures.keeps c.sync.ensures.crash c.sync.ensures.time);
  later = omega (arith, c.loop-entry.invariant.later, c.sync.ensures.cause.later);
}

pub returns-clause-settled : goal.returns-clause-settled
returns-clause-settled g c reads images =
    AreRecordsSettled-all g.D.Disk c.loop-entry.disk c.all-entry-items.result.now c.loop-entry.entry-index c.all-entry-items.ensures
    (c.loop-entry.invariant.settled reads images) c.loop-entry-test.false
