use Rattle.std.proofs.Common.{◌≡◌, ◌≢◌, ◌∙◌, ap, refl, sym, ℕ, ◌+◌, List, [], arith}
use Rattle.std.proofs.lemmas.Bool.{false≢true}
use Rattle.std.proofs.lemmas.Result.{err_from_is_err_and}
use Rattle.disk_model.specs.Spans.{AtEachMoment, OnlyReads}
use Rattle.disk_model.proofs.Spans.{at_each_moment_now, at_each_moment_on, at_each_moment_read, only_reads_on}
use Rattle.rec_bytes.specs.Format.{log_file}
use Rattle.rec_bytes.specs.Pairs.{Pairs}
use Rattle.redo_log.specs.Entries.{HasEntries, IsEntry, count_at, entry_at, entry_bytes, open_byte}
use Rattle.redo_log.specs.Reading.{IsPieceOf, Piece, Tells}
use Rattle.redo_log.specs.declared.entry_answer.EntryAnswer.TheVariants.{Entry}
use Rattle.record_file.specs.Records.{IsTornInRecords, record_at}
use Rattle.record_file.proofs.Records.{record_at-kept}
use Rattle.recovery.specs.Redoing.{IsAtEntry, IsTornInLogged}
use Rattle.recovery.proofs.LogSteps.{IsAtEntry-read, IsNext-entry, IsRedoneTo, IsRedoneTo-end, IsRedoneTo-more}
use Rattle.recovery.proofs.LogSteps.{IsRedoneTo-read, IsTornInLogged-entry, SameButLogged-entry, SameButLogged-then}
use Rattle.recovery.proofs.LogSteps.{none_damaged, none_stands}
use Rattle.recovery.proofs.redoing.redo_entries.Given.{Over}
use Rattle.rec_bytes.proofs.Causes.{never_ok}
use Rattle.recovery.proofs.Causes.{fault_cause, ok_cause}
use Rattle.recovery.proofs.redoing.redo_entries.Goals as goal

-- with a read of the log and an entry redone
crash_more : (g : Over) (first old mid now : g.row.D.Denot) (entries : List Pairs) (tail : ℕ) (piece : Piece) (place : ℕ) → g.D.Disk.tells_images
    → IsRedoneTo entries tail (g.D.Disk.reads first) (g.D.Disk.reads mid) piece place
    → IsEntry (g.D.Disk.reads mid) place → AtEachMoment g.D.Disk first old (IsTornInLogged (g.D.Disk.may_leave first) entries) → OnlyReads g.D.Disk old mid
    → AtEachMoment g.D.Disk mid now (IsTornInRecords (g.D.Disk.may_leave mid) (entry_at (g.D.Disk.reads mid) place))
    → AtEachMoment g.D.Disk first now (IsTornInLogged (g.D.Disk.may_leave first) entries)
crash_more g first old mid now entries tail piece place images was entry before reads more =
    let disk = g.D.Disk in
    let P = IsTornInLogged (disk.may_leave first) entries in
    let at_mid = at_each_moment_read disk first old mid P g.met.D.Disk.counts_now images before reads in
    at_each_moment_on disk first mid now P (IsTornInRecords (disk.may_leave mid) (entry_at (disk.reads mid) place)) at_mid more
    (IsTornInLogged-entry (disk.may_leave first) (disk.may_leave mid) entries tail (disk.reads mid) place was.done was.left (IsNext-entry entries tail
    (disk.reads mid) place was.done was.left entry was.rest was.all)
    (at_each_moment_now disk first mid P g.met.D.Disk.counts_now images at_mid))

-- What the reader told of the place: an entry stands there, after those that are redone.
record IsTold (g : Over) (first old mid : g.row.D.Denot) (entries : List Pairs) (tail : ℕ) (piece : Piece) (place count next : ℕ) : Type 0 where
  at : IsAtEntry (g.D.Disk.reads mid) piece place count
  now : IsRedoneTo entries tail (g.D.Disk.reads first) (g.D.Disk.reads mid) piece place
  next_is : next ≡ place + entry_bytes (count_at (g.D.Disk.reads mid) place)

told : (g : Over) (first old mid : g.row.D.Denot) (entries : List Pairs) (tail : ℕ) (piece seen : Piece) (place count next : ℕ)
    → (was : IsRedoneTo entries tail (g.D.Disk.reads first) (g.D.Disk.reads old) piece place)
    → (IsPieceOf (g.D.Disk.reads old) piece → Tells (g.D.Disk.reads old) place (Entry count next)) → next ≡ place + entry_bytes count
    → OnlyReads g.D.Disk old mid
    → (IsPieceOf (g.D.Disk.reads old) piece → IsPieceOf (g.D.Disk.reads mid) seen) → IsTold g first old mid entries tail seen place count next
told g first old mid entries tail piece seen place count next was tells next_is reads keeps =
    let disk = g.D.Disk in
    let kept = keeps was.kept in
    let at = IsAtEntry-read (disk.reads old) (disk.reads mid) seen place count (tells was.kept).0 (tells was.kept).1 reads.keeps kept in
    record {
      at = at;
      now = IsRedoneTo-read entries tail (disk.reads first) (disk.reads old) (disk.reads mid) piece seen place was reads.keeps kept;
      next_is = next_is ∙ ap (λ n. place + entry_bytes n) at.count_is;
    }

-- where the first gate is closed, no entry is told of
none_entered : (g : Over) (first old mid : g.row.D.Denot) (piece seen : Piece) (place count next : ℕ) → g.D.Disk.reads first log_file 0 ≢ open_byte
    → (HasEntries (g.D.Disk.reads first) [] 0 → IsRedoneTo [] 0 (g.D.Disk.reads first) (g.D.Disk.reads old) piece place)
    → (IsPieceOf (g.D.Disk.reads old) piece → Tells (g.D.Disk.reads old) place (Entry count next)) → next ≡ place + entry_bytes count
    → OnlyReads g.D.Disk old mid
    → (IsPieceOf (g.D.Disk.reads old) piece → IsPieceOf (g.D.Disk.reads mid) seen) → ⊥
none_entered g first old mid piece seen place count next closed was tells next_is reads keeps =
    let is = told g first old mid [] 0 piece seen place count next (was (refl, closed)) tells next_is reads keeps in
    none_stands 0 (g.D.Disk.reads first) (g.D.Disk.reads mid) seen place is.now is.at.entry

pub returns-in_err-redo_entry-in-Entry-clause-closed : goal.returns-in_err-redo_entry-in-Entry-clause-closed
returns-in_err-redo_entry-in-Entry-clause-closed g c reads closed =
    absurd (none_entered g c.args.disk.now c.loop-count.disk c.entry_at.new.disk c.loop-count.reader c.entry_at.new.self c.loop-count.place c.in-Entry.count
    c.in-Entry.next closed
    (λ has. c.loop-count.invariant.made reads [] 0 has) (c.in-Entry.ensures.tells reads) c.in-Entry.ensures.in_log.2 c.entry_at.ensures.only_reads
    (c.entry_at.ensures.keeps reads))

pub returns-in_err-redo_entry-in-Entry-clause-elsewhere : goal.returns-in_err-redo_entry-in-Entry-clause-elsewhere
returns-in_err-redo_entry-in-Entry-clause-elsewhere g c reads entries tail has =
    let disk = g.D.Disk in
    let first = disk.reads c.args.disk.now in
    let mid = disk.reads c.entry_at.new.disk in
    let is = told g c.args.disk.now c.loop-count.disk c.entry_at.new.disk entries tail c.loop-count.reader c.entry_at.new.self c.loop-count.place
    c.in-Entry.count c.in-Entry.next
    (c.loop-count.invariant.made reads entries tail has) (c.in-Entry.ensures.tells reads) c.in-Entry.ensures.in_log.2 c.entry_at.ensures.only_reads
    (c.entry_at.ensures.keeps reads) in
    let next = IsNext-entry entries tail mid c.loop-count.place is.now.done is.now.left is.at.entry is.now.rest is.now.all in
    SameButLogged-then entries first mid (disk.reads c.redo_entry.new.disk) is.now.same
    (SameButLogged-entry entries is.now.done next.later (entry_at mid c.loop-count.place) mid (disk.reads c.redo_entry.new.disk) next.left_is
    (c.redo_entry.ensures.elsewhere reads is.at))

pub returns-in_err-redo_entry-in-Entry-clause-crash : goal.returns-in_err-redo_entry-in-Entry-clause-crash
returns-in_err-redo_entry-in-Entry-clause-crash g c reads images entries tail has =
    let is = told g c.args.disk.now c.loop-count.disk c.entry_at.new.disk entries tail c.loop-count.reader c.entry_at.new.self c.loop-count.place
    c.in-Entry.count c.in-Entry.next
    (c.loop-count.invariant.made reads entries tail has) (c.in-Entry.ensures.tells reads) c.in-Entry.ensures.in_log.2 c.entry_at.ensures.only_reads
    (c.entry_at.ensures.keeps reads) in
    crash_more g c.args.disk.now c.loop-count.disk c.entry_at.new.disk c.redo_entry.new.disk entries tail c.entry_at.new.self c.loop-count.place images is.now
    is.at.entry (c.loop-count.invariant.crash reads images entries tail has)
    c.entry_at.ensures.only_reads (c.redo_entry.ensures.crash reads images is.at)

pub returns-in_err-redo_entry-in-Entry-clause-sound : goal.returns-in_err-redo_entry-in-Entry-clause-sound
returns-in_err-redo_entry-in-Entry-clause-sound g c reads entries tail has =
    let p = err_from_is_err_and c.from_residual.result c.from_residual.ensures.1 in
    rw (p.1, p.2) (c.in_err-redo_entry-in-Entry.ensures.sound reads (told g c.args.disk.now c.loop-count.disk c.entry_at.new.disk entries tail
    c.loop-count.reader c.entry_at.new.self c.loop-count.place c.in-Entry.count c.in-Entry.next
    (c.loop-count.invariant.made reads entries tail has) (c.in-Entry.ensures.tells reads) c.in-Entry.ensures.in_log.2 c.entry_at.ensures.only_reads
    (c.entry_at.ensures.keeps reads)).at)

pub loop-count-preserved : goal.loop-count-preserved
loop-count-preserved g c =
    let disk = g.D.Disk in
    let log = c.in-Entry.ensures.in_log in
    record {
      within = omega (arith, log.2, log.3);
      made = λ reads entries tail has.
          let is = told g c.args.disk.now c.loop-count.disk c.entry_at.new.disk entries tail c.loop-count.reader c.entry_at.new.self c.loop-count.place
          c.in-Entry.count c.in-Entry.next
          (c.loop-count.invariant.made reads entries tail has) (c.in-Entry.ensures.tells reads) c.in-Entry.ensures.in_log.2 c.entry_at.ensures.only_reads
          (c.entry_at.ensures.keeps reads) in
          IsRedoneTo-more entries tail (disk.reads c.args.disk.now) (disk.reads c.entry_at.new.disk) (disk.reads c.redo_entry.new.disk) c.entry_at.new.self
          c.redo_entry.new.reader c.loop-count.place c.in-Entry.next is.now is.at.entry
          is.next_is (c.redo_entry.ensures.elsewhere reads is.at) (c.in_ok-redo_entry-in-Entry.ensures.written reads is.at)
          (c.redo_entry.ensures.keeps reads is.at);
      crash = λ reads images entries tail has.
          let is = told g c.args.disk.now c.loop-count.disk c.entry_at.new.disk entries tail c.loop-count.reader c.entry_at.new.self c.loop-count.place
          c.in-Entry.count c.in-Entry.next
          (c.loop-count.invariant.made reads entries tail has) (c.in-Entry.ensures.tells reads) c.in-Entry.ensures.in_log.2 c.entry_at.ensures.only_reads
          (c.entry_at.ensures.keeps reads) in
          crash_more g c.args.disk.now c.loop-count.disk c.entry_at.new.disk c.redo_entry.new.disk entries tail c.entry_at.new.self c.loop-count.place images
          is.now is.at.entry (c.loop-count.invariant.crash reads images entries tail has)
          c.entry_at.ensures.only_reads (c.redo_entry.ensures.crash reads images is.at);
      closed = λ reads closed. absurd (none_entered g c.args.disk.now c.loop-count.disk c.entry_at.new.disk c.loop-count.reader c.entry_at.new.self
          c.loop-count.place c.in-Entry.count c.in-Entry.next closed
          (λ has. c.loop-count.invariant.made reads [] 0 has) (c.in-Entry.ensures.tells reads) c.in-Entry.ensures.in_log.2 c.entry_at.ensures.only_reads
          (c.entry_at.ensures.keeps reads));
      first = λ none. absurd (false≢true (sym none));
      untouched = λ none. absurd (false≢true (sym none));
      fresh = λ reads none. absurd (false≢true (sym none));
      later = omega (arith, c.loop-count.invariant.later, c.entry_at.ensures.later, c.redo_entry.ensures.cause.later);
    }

pub returns-in-End-clause-redone : goal.returns-in-End-clause-redone
returns-in-End-clause-redone g c reads entries tail has =
    let disk = g.D.Disk in
    let was = c.loop-count.invariant.made reads entries tail has in
    let records : record_at (disk.reads c.entry_at.new.disk) ≡ record_at (disk.reads c.loop-count.disk) = λ i key.
    record_at-kept key (disk.reads c.loop-count.disk) (disk.reads c.entry_at.new.disk) c.entry_at.ensures.only_reads.keeps i in
    records ∙ IsRedoneTo-end entries tail (disk.reads c.args.disk.now) (disk.reads c.loop-count.disk) c.loop-count.reader c.loop-count.place was
    (c.in-End.ensures.tells reads was.kept)

pub returns-in-Damaged-clause-sound : goal.returns-in-Damaged-clause-sound
returns-in-Damaged-clause-sound g c reads entries tail has =
    let was = c.loop-count.invariant.made reads entries tail has in
    let tells = c.in-Damaged.ensures.tells reads was.kept in
    absurd (none_damaged was.left c.loop-count.place tail (g.D.Disk.reads c.loop-count.disk) was.rest tells.1.0 tells.1.1)

pub returns-in-End-clause-closed : goal.returns-in-End-clause-closed
returns-in-End-clause-closed g c reads closed =
    only_reads_on g.D.Disk c.args.disk.now c.loop-count.disk c.entry_at.new.disk (c.loop-count.invariant.closed reads closed) c.entry_at.ensures.only_reads

pub returns-in-Disk-clause-closed : goal.returns-in-Disk-clause-closed
returns-in-Disk-clause-closed g c reads closed =
    only_reads_on g.D.Disk c.args.disk.now c.loop-count.disk c.entry_at.new.disk (c.loop-count.invariant.closed reads closed) c.entry_at.ensures.only_reads

pub returns-in-Damaged-clause-closed : goal.returns-in-Damaged-clause-closed
returns-in-Damaged-clause-closed g c reads closed =
    only_reads_on g.D.Disk c.args.disk.now c.loop-count.disk c.entry_at.new.disk (c.loop-count.invariant.closed reads closed) c.entry_at.ensures.only_reads

-- where no entry was met
pub returns-in-End-clause-untouched : goal.returns-in-End-clause-untouched
returns-in-End-clause-untouched g c none =
    only_reads_on g.D.Disk c.args.disk.now c.loop-count.disk c.entry_at.new.disk (c.loop-count.invariant.untouched none) c.entry_at.ensures.only_reads

pub returns-in-End-clause-none : goal.returns-in-End-clause-none
returns-in-End-clause-none g c reads none is_open =
    c.in-End.ensures.tells reads (c.loop-count.invariant.fresh reads none)
    (ap (λ place. g.D.Disk.reads c.loop-count.disk log_file place) (c.loop-count.invariant.first none) ∙ (c.loop-count.invariant.untouched none).keeps log_file
    0 ∙ is_open)

pub returns-in_err-redo_entry-in-Entry-clause-redone : goal.returns-in_err-redo_entry-in-Entry-clause-redone
returns-in_err-redo_entry-in-Entry-clause-redone g c _ _ _ _ = never_ok c.from_residual.result _ _ c.from_residual.ensures.1

pub returns-in_err-redo_entry-in-Entry-clause-untouched : goal.returns-in_err-redo_entry-in-Entry-clause-untouched
returns-in_err-redo_entry-in-Entry-clause-untouched g c = never_ok c.from_residual.result _ _ c.from_residual.ensures.1

pub returns-in_err-redo_entry-in-Entry-clause-none : goal.returns-in_err-redo_entry-in-Entry-clause-none
returns-in_err-redo_entry-in-Entry-clause-none g c _ = never_ok c.from_residual.result _ _ c.from_residual.ensures.1

pub returns-in_err-redo_entry-in-Entry-clause-cause : goal.returns-in_err-redo_entry-in-Entry-clause-cause
returns-in_err-redo_entry-in-Entry-clause-cause g c =
    let before = c.loop-count.invariant.later in
    let later = c.entry_at.ensures.later in
    fault_cause _ _ _ c.from_residual.result c.in_err-redo_entry-in-Entry.field-0.0 (omega (arith, before, later)) c.in_err-redo_entry-in-Entry.ensures.cause
    c.from_residual.ensures.1

pub returns-in-End-clause-sound : goal.returns-in-End-clause-sound
returns-in-End-clause-sound g c reads entries tail has = tt

pub returns-in-End-clause-cause : goal.returns-in-End-clause-cause
returns-in-End-clause-cause g c =
    let before = c.loop-count.invariant.later in
    let later = c.entry_at.ensures.later in
    ok_cause _ _ _ (omega (arith, before, later))

pub returns-in-Disk-clause-redone : goal.returns-in-Disk-clause-redone
returns-in-Disk-clause-redone g c reads entries tail has = tt

pub returns-in-Disk-clause-untouched : goal.returns-in-Disk-clause-untouched
returns-in-Disk-clause-untouched g c = tt

pub returns-in-Disk-clause-none : goal.returns-in-Disk-clause-none
returns-in-Disk-clause-none g c reads = tt

pub returns-in-Damaged-clause-redone : goal.returns-in-Damaged-clause-redone
returns-in-Damaged-clause-redone g c reads entries tail has = tt

pub returns-in-Damaged-clause-untouched : goal.returns-in-Damaged-clause-untouched
returns-in-Damaged-clause-untouched g c = tt

pub returns-in-Damaged-clause-none : goal.returns-in-Damaged-clause-none
returns-in-Damaged-clause-none g c reads = tt

pub returns-in-Disk-clause-sound : goal.returns-in-Disk-clause-sound
returns-in-Disk-clause-sound g c reads entries tail has = refl

pub returns-in-Damaged-clause-cause : goal.returns-in-Damaged-clause-cause
returns-in-Damaged-clause-cause g c =
    let before = c.loop-count.invariant.later in
    let later = c.entry_at.ensures.later in
    let is = c.damaged_entry.ensures in
    record { later = omega (arith, before, later); disk = λ blamed. absurd (cc is) }
