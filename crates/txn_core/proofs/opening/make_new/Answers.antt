use Rattle.std.proofs.Common.{ap, arith, length, sym, subst, [], ◌∷◌, ◌+◌}
use Rattle.rec_bytes.specs.Creation.{creation_pairs}
use Rattle.rec_bytes.specs.Pairs.{Pairs, merged}
use Rattle.rec_bytes.specs.declared.record.Rec.{Rec}
use Rattle.redo_log.specs.Appending.{IsAppended}
use Rattle.redo_log.specs.Entries.{AllHaveEntries, HasEntries, IsEntryOf, entry_bytes}
use Rattle.std.proofs.Common.{List}
use Rattle.disk_model.specs.Spans.{AtEachMoment}
use Rattle.txn_core.specs.Kept.{IsKept}
use Rattle.record_file.specs.MetaFile.{blank_metas}
use Rattle.txn_core.proofs.Kept.{kept_appended}
use Rattle.rec_bytes.proofs.PairLaws.{growth_by_le}
use Rattle.txn_core.proofs.Sets.{length-merged}
use Rattle.txn_core.proofs.Making.{creation_form, kept_unmade, new_crash, new_space}
use Rattle.txn_core.proofs.Raising.{settled_appended}
use Rattle.rec_bytes.proofs.Causes.{never_ok}
use Rattle.txn_core.proofs.opening.make_new.Goals as goal

pub append-requires-clause-form : goal.append-requires-clause-form
append-requires-clause-form g c = subst IsEntryOf (sym c.requires.creation) (creation_form c.args.shape)

pub returns-in_err-tail-clause-crash : goal.returns-in_err-tail-clause-crash
returns-in_err-tail-clause-crash g c reads images unmade settled =
    let disk = g.D.Disk in
    let first = c.args.disk.now in
    new_crash disk first c.append.new.disk c.args.shape unmade settled
    (subst (λ (pairs : Pairs). (entries : List Pairs) → AllHaveEntries (disk.may_leave first) entries 0 → AtEachMoment disk first c.append.new.disk
    (IsAppended (disk.may_leave first) entries pairs 0)) c.requires.creation (c.append.ensures.crash reads images))

pub returns-clause-crash : goal.returns-clause-crash
returns-clause-crash g c reads images unmade settled =
    let disk = g.D.Disk in
    let first = c.args.disk.now in
    new_crash disk first c.append.new.disk c.args.shape unmade settled
    (subst (λ (pairs : Pairs). (entries : List Pairs) → AllHaveEntries (disk.may_leave first) entries 0 → AtEachMoment disk first c.append.new.disk
    (IsAppended (disk.may_leave first) entries pairs 0)) c.requires.creation (c.append.ensures.crash reads images))

pub returns-clause-kept : goal.returns-clause-kept
returns-clause-kept g c unmade settled =
    let disk = g.D.Disk in
    let first = c.args.disk.now in
    let blank = subst (λ (pairs : Pairs). IsKept disk first blank_metas pairs 0) (sym c.requires.changed) (kept_unmade disk first unmade settled) in
    kept_appended disk first c.append.new.disk c.blank.result.records c.args.changed.now.pairs c.args.creation.now.pairs c.merge.new.self.pairs 0
    c.in_ok-tail.tail g.met.D.Disk.counts_now
    (subst (λ (metas : List Rec). IsKept disk first metas c.args.changed.now.pairs 0) (sym c.blank.ensures) blank) c.merge.ensures.finds
    c.in_ok-tail.ensures.next (λ reads. c.in_ok-tail.ensures.appended reads) c.in_ok-tail.ensures.settled c.append.ensures.elsewhere c.append.ensures.crash

pub returns-clause-space : goal.returns-clause-space
returns-clause-space g c reads unmade =
    let disk = g.D.Disk in
    new_space (disk.reads c.args.disk.now) (disk.reads c.append.new.disk) c.args.shape c.blank.result.records c.args.changed.now.pairs c.args.creation.now.pairs
    c.merge.new.self.pairs c.blank.ensures c.requires.changed c.requires.creation unmade
    c.merge.ensures.finds (c.append.ensures.elsewhere reads)

pub returns-clause-few : goal.returns-clause-few
returns-clause-few g c =
    let creation = creation_pairs c.args.shape in
    omega (
      arith,
      ap (λ (pairs : Pairs). length pairs) c.merge.ensures.pairs,
      ap (λ (pairs : Pairs). length (merged pairs c.args.creation.now.pairs)) c.requires.changed,
      ap (λ (pairs : Pairs). length (merged [] pairs)) c.requires.creation,
      length-merged [] creation tt,
      growth_by_le [] creation,
      (creation_form c.args.shape).few,
    )

pub returns-clause-settled : goal.returns-clause-settled
returns-clause-settled g c reads images has settled =
    settled_appended g.D.Disk c.args.disk.now c.append.new.disk c.args.creation.now.pairs g.met.D.Disk.counts_now images has settled
    (c.append.ensures.crash reads images) (c.append.ensures.elsewhere reads) (c.in_ok-tail.ensures.settled reads images)

pub returns-clause-log : goal.returns-clause-log
returns-clause-log g c reads has =
    let tail = 0 + entry_bytes (length c.args.creation.now.pairs) in (
      tail,
      subst (λ (pairs : Pairs). HasEntries (g.D.Disk.reads c.append.new.disk) (pairs ∷ []) tail) c.requires.creation (c.in_ok-tail.ensures.appended reads
          [] has),
    )

pub returns-in_err-tail-clause-shape : goal.returns-in_err-tail-clause-shape
returns-in_err-tail-clause-shape g c = never_ok c.from_residual.result _ _ c.from_residual.ensures.1

pub returns-in_err-tail-clause-kept : goal.returns-in_err-tail-clause-kept
returns-in_err-tail-clause-kept g c _ _ = never_ok c.from_residual.result _ _ c.from_residual.ensures.1

pub returns-in_err-tail-clause-space : goal.returns-in_err-tail-clause-space
returns-in_err-tail-clause-space g c _ _ = never_ok c.from_residual.result _ _ c.from_residual.ensures.1

pub returns-in_err-tail-clause-settled : goal.returns-in_err-tail-clause-settled
returns-in_err-tail-clause-settled g c _ _ _ _ = never_ok c.from_residual.result _ _ c.from_residual.ensures.1

pub returns-in_err-tail-clause-log : goal.returns-in_err-tail-clause-log
returns-in_err-tail-clause-log g c _ _ = never_ok c.from_residual.result _ _ c.from_residual.ensures.1
