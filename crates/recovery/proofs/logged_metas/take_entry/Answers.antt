use Rattle.std.proofs.Common.{◌≡◌, sym, subst, ◌+◌, ◌<◌, Some, arith}
use Rattle.std.specs.List.{slice_get}
use Rattle.disk_model.specs.Contents.{Files}
use Rattle.disk_model.proofs.Spans.{only_reads_none, only_reads_on}
use Rattle.rec_bytes.specs.declared.key.Key.{Key}
use Rattle.rec_bytes.specs.declared.record.Rec.{Rec}
use Rattle.redo_log.specs.Entries.{count_at, entry_at}
use Rattle.redo_log.proofs.Entries.{length-writes_from}
use Rattle.recovery.proofs.Metas.{IsTaken-all, IsTaken-more, IsTaken-none, same_content}
use Rattle.rec_bytes.proofs.Causes.{never_ok}
use Rattle.recovery.proofs.logged_metas.take_entry.Goals as goal

pub loop-index-init : goal.loop-index-init
loop-index-init g c = record {
  taken = λ reads at space are. IsTaken-none c.args.metas.now.records space (entry_at (g.D.Disk.reads c.args.disk.now) c.args.place) are;
  keeps = λ reads kept. kept;
  only_reads = only_reads_none g.D.Disk c.args.disk.now g.met.D.Disk.only_now;
  later = omega arith;
}

pub loop-index-preserved : goal.loop-index-preserved
loop-index-preserved g c =
    let disk = g.D.Disk in
    let first = disk.reads c.args.disk.now in
    let write = let w : Key × Rec = (c.in_ok-key.key, c.in_ok-key.rec) in w in
    record {
      taken = λ reads at space are.
          let same : disk.reads c.loop-index.disk ≡ first = same_content first (disk.reads c.loop-index.disk) c.loop-index.invariant.only_reads.keeps in
          let below : c.loop-index.index < count_at first c.args.place = omega (arith, at.count_is, c.loop-index-test.true) in
          let is : slice_get (entry_at first c.args.place) c.loop-index.index ≡ Some write =
          subst (λ (content : Files). slice_get (entry_at content c.args.place) c.loop-index.index ≡ Some write) same
          (c.in_ok-key.ensures.of_entry reads (c.loop-index.invariant.keeps reads at.kept) (subst (λ (content : Files). c.loop-index.index < count_at content
          c.args.place) (sym same) below)) in
          IsTaken-more c.loop-index.metas.records c.put.new.self.records space (entry_at first c.args.place) c.loop-index.index write at.entry.form.rising is
          (c.loop-index.invariant.taken reads at space are) c.put.ensures;
      keeps = λ reads kept. c.write_at.ensures.keeps reads (c.loop-index.invariant.keeps reads kept);
      only_reads = only_reads_on disk c.args.disk.now c.loop-index.disk c.write_at.new.disk c.loop-index.invariant.only_reads c.write_at.ensures.only_reads;
      later = omega (arith, c.loop-index.invariant.later, c.write_at.ensures.cause.later);
    }

pub returns-clause-taken : goal.returns-clause-taken
returns-clause-taken g c reads at space are =
    let first = g.D.Disk.reads c.args.disk.now in
    IsTaken-all c.loop-index.metas.records space (entry_at first c.args.place) c.loop-index.index (c.loop-index.invariant.taken reads at space are)
    (omega (arith, length-writes_from (count_at first c.args.place) (c.args.place + 3) first, at.count_is, c.loop-index-test.false))

pub returns-in_err-key-clause-taken : goal.returns-in_err-key-clause-taken
returns-in_err-key-clause-taken g c _ _ _ _ = never_ok c.from_residual.result _ _ c.from_residual.ensures.1
