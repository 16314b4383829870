use Rattle.std.proofs.Common.{◌≡◌, ◌∙◌, ap, subst, ◌+◌, arith}
use Rattle.disk_model.specs.Contents.{Files}
use Rattle.disk_model.proofs.Spans.{only_reads_on}
use Rattle.redo_log.specs.Entries.{entry_at, entry_bytes}
use Rattle.redo_log.specs.declared.entry_answer.EntryAnswer.TheVariants.{End, Entry}
use Rattle.record_file.specs.MetaFile.{AreMetasOf}
use Rattle.rec_bytes.specs.Space.{laid_over}
use Rattle.recovery.proofs.Causes.{disk_cause, ok_cause}
use Rattle.recovery.proofs.LogSteps.{IsAtEntry-read}
use Rattle.recovery.proofs.Metas.{HasEntries-read_to, IsReadTo-more, Tells-same, same_content}
use Rattle.rec_bytes.proofs.Causes.{never_ok}
use Rattle.recovery.proofs.logged_metas.find_metas.Goals as goal

pub loop-count-preserved : goal.loop-count-preserved
loop-count-preserved g c =
    let disk = g.D.Disk in
    let first = disk.reads c.args.disk.now in
    let old = disk.reads c.loop-count.disk in
    let mid = disk.reads c.entry_at.new.disk in
    let place = c.loop-count.place in
    let log = c.in-Entry.ensures.in_log in
    let was = c.loop-count.invariant in
    let to_mid = only_reads_on disk c.args.disk.now c.loop-count.disk c.entry_at.new.disk was.only_reads c.entry_at.ensures.only_reads in
    record {
      within = omega (arith, log.2, log.3);
      kept = λ reads. c.take_entry.ensures.keeps reads (c.entry_at.ensures.keeps reads (was.kept reads));
      read = λ reads.
          let tells = c.in-Entry.ensures.tells reads (was.kept reads) in
          let at = IsAtEntry-read old mid c.entry_at.new.self place c.in-Entry.count tells.0 tells.1 c.entry_at.ensures.only_reads.keeps
          (c.entry_at.ensures.keeps reads (was.kept reads)) in
          let told = Tells-same first old place (Entry c.in-Entry.count c.in-Entry.next) was.only_reads.keeps tells in
          let same : mid ≡ first = same_content first mid to_mid.keeps in
          IsReadTo-more first place c.in-Entry.next c.loop-count.metas.records c.take_entry.new.metas.records (was.read reads) told.0
          (told.2 ∙ ap (λ n. place + entry_bytes n) told.1)
          (λ space are. subst (λ (content : Files). AreMetasOf (laid_over space (entry_at content place)) c.take_entry.new.metas.records) same
          (c.in_ok-take_entry-in-Entry.ensures.taken reads at space are));
      only_reads = only_reads_on disk c.args.disk.now c.entry_at.new.disk c.take_entry.new.disk to_mid c.take_entry.ensures.only_reads;
      later = omega (arith, was.later, c.entry_at.ensures.later, c.take_entry.ensures.cause.later);
    }

pub returns-in-End-clause-found : goal.returns-in-End-clause-found
returns-in-End-clause-found g c reads =
    let first = g.D.Disk.reads c.args.disk.now in
    let was = c.loop-count.invariant in
    let read = was.read reads in
    let closed = Tells-same first (g.D.Disk.reads c.loop-count.disk) c.loop-count.place End was.only_reads.keeps
    (c.in-End.ensures.tells reads (was.kept reads)) in
    record { entries = read.entries; log = HasEntries-read_to first c.loop-count.place c.loop-count.metas.records read closed; are = read.are }

pub returns-in_err-metas-clause-found : goal.returns-in_err-metas-clause-found
returns-in_err-metas-clause-found g c _ = never_ok c.from_residual.result _ _ c.from_residual.ensures.1

pub returns-in_err-take_entry-in-Entry-clause-found : goal.returns-in_err-take_entry-in-Entry-clause-found
returns-in_err-take_entry-in-Entry-clause-found g c _ =
    never_ok c.from_residual-in_err-take_entry-in-Entry.result _ _ c.from_residual-in_err-take_entry-in-Entry.ensures.1

pub returns-in_err-metas-clause-only_reads : goal.returns-in_err-metas-clause-only_reads
returns-in_err-metas-clause-only_reads g c = c.read.ensures.only_reads

pub returns-in_err-metas-clause-cause : goal.returns-in_err-metas-clause-cause
returns-in_err-metas-clause-cause g c = disk_cause _ _ _ c.from_residual.result c.in_err-metas.field-0.0 (omega arith) c.in_err-metas.ensures.cause

pub returns-in_err-take_entry-in-Entry-clause-only_reads : goal.returns-in_err-take_entry-in-Entry-clause-only_reads
returns-in_err-take_entry-in-Entry-clause-only_reads g c =
    let disk = g.D.Disk in
    only_reads_on disk c.args.disk.now c.entry_at.new.disk c.take_entry.new.disk
    (only_reads_on disk c.args.disk.now c.loop-count.disk c.entry_at.new.disk c.loop-count.invariant.only_reads c.entry_at.ensures.only_reads)
    c.take_entry.ensures.only_reads

pub returns-in_err-take_entry-in-Entry-clause-cause : goal.returns-in_err-take_entry-in-Entry-clause-cause
returns-in_err-take_entry-in-Entry-clause-cause g c =
    let before = c.loop-count.invariant.later in
    let later = c.entry_at.ensures.later in
    disk_cause _ _ _ c.from_residual-in_err-take_entry-in-Entry.result c.in_err-take_entry-in-Entry.field-0.0 (omega (arith, before, later))
    c.in_err-take_entry-in-Entry.ensures.cause

pub returns-in-End-clause-refused : goal.returns-in-End-clause-refused
returns-in-End-clause-refused g c reads = tt

pub returns-in-End-clause-only_reads : goal.returns-in-End-clause-only_reads
returns-in-End-clause-only_reads g c =
    only_reads_on g.D.Disk c.args.disk.now c.loop-count.disk c.entry_at.new.disk c.loop-count.invariant.only_reads c.entry_at.ensures.only_reads

pub returns-in-End-clause-cause : goal.returns-in-End-clause-cause
returns-in-End-clause-cause g c =
    let before = c.loop-count.invariant.later in
    let later = c.entry_at.ensures.later in
    ok_cause _ _ _ (omega (arith, before, later))

pub returns-in-Disk-clause-found : goal.returns-in-Disk-clause-found
returns-in-Disk-clause-found g c reads = tt

pub returns-in-Disk-clause-refused : goal.returns-in-Disk-clause-refused
returns-in-Disk-clause-refused g c reads = tt

pub returns-in-Disk-clause-only_reads : goal.returns-in-Disk-clause-only_reads
returns-in-Disk-clause-only_reads g c =
    only_reads_on g.D.Disk c.args.disk.now c.loop-count.disk c.entry_at.new.disk c.loop-count.invariant.only_reads c.entry_at.ensures.only_reads

pub returns-in-Damaged-clause-found : goal.returns-in-Damaged-clause-found
returns-in-Damaged-clause-found g c reads = tt

pub returns-in-Damaged-clause-only_reads : goal.returns-in-Damaged-clause-only_reads
returns-in-Damaged-clause-only_reads g c =
    only_reads_on g.D.Disk c.args.disk.now c.loop-count.disk c.entry_at.new.disk c.loop-count.invariant.only_reads c.entry_at.ensures.only_reads
