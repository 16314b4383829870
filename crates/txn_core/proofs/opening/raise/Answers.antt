use Rattle.std.proofs.Common.{◌≡◌, ◌∙◌, ap, sym, subst, inl, [], ◌∷◌, List, ◌<◌, ◌+◌, length, arith}
use Rattle.rec_bytes.specs.Creation.{own_key}
use Rattle.rec_bytes.specs.Format.{newest_version}
use Rattle.rec_bytes.specs.Pairs.{Pairs}
use Rattle.rec_bytes.specs.Shape.{version_of}
use Rattle.rec_bytes.specs.Space.{laid_over}
use Rattle.redo_log.specs.Entries.{HasEntries, entry_bytes}
use Rattle.record_file.specs.Records.{record_at}
use Rattle.record_file.specs.MetaFile.{with_metas}
use Rattle.txn_core.specs.Opening.{raising_entries}
use Rattle.txn_core.proofs.Kept.{appended_space, kept_appended, kept_now}
use Rattle.txn_core.proofs.Raising.{FindsMerged-first, entries_old, raise_crash, raised_old, settled_appended, version_held}
use Rattle.rec_bytes.proofs.Causes.{never_ok}
use Rattle.txn_core.proofs.opening.raise.Goals as goal

pub returns-then-version_of-ge-VERSION-clause-crash : goal.returns-then-version_of-ge-VERSION-clause-crash
returns-then-version_of-ge-VERSION-clause-crash g c reads images kept =
    kept_now g.D.Disk c.args.disk.now c.args.start.metas.records [] 0 _ g.met.D.Disk.only_now kept reads images (λ left redoes. inl redoes)

pub returns-in_err-tail-clause-crash : goal.returns-in_err-tail-clause-crash
returns-in_err-tail-clause-crash g c reads images kept =
    let metas = c.args.start.metas.records in
    let first = c.args.disk.now in
    let held = version_held metas (record_at (g.D.Disk.reads first)) c.own.result c.own.ensures in
    let old : version_of (with_metas metas (record_at (g.D.Disk.reads first)) own_key) < newest_version =
    omega (arith, held, c.version_of.ensures, c.if-version_of-ge-VERSION.false) in
    raise_crash g.D.Disk first c.append.new.disk metas c.put_raising.new.set.pairs c.args.start.shape c.put_raising.ensures.pairs old kept reads images
    (c.append.ensures.crash reads images)

pub returns-clause-crash : goal.returns-clause-crash
returns-clause-crash g c reads images kept =
    let metas = c.args.start.metas.records in
    let first = c.args.disk.now in
    let held = version_held metas (record_at (g.D.Disk.reads first)) c.own.result c.own.ensures in
    let old : version_of (with_metas metas (record_at (g.D.Disk.reads first)) own_key) < newest_version =
    omega (arith, held, c.version_of.ensures, c.if-version_of-ge-VERSION.false) in
    raise_crash g.D.Disk first c.append.new.disk metas c.put_raising.new.set.pairs c.args.start.shape c.put_raising.ensures.pairs old kept reads images
    (c.append.ensures.crash reads images)

pub returns-clause-kept : goal.returns-clause-kept
returns-clause-kept g c kept =
    let own = c.put_raising.new.set.pairs in
    kept_appended g.D.Disk c.args.disk.now c.append.new.disk c.args.start.metas.records [] own own 0 c.in_ok-tail.tail g.met.D.Disk.counts_now kept
    (FindsMerged-first own)
    c.in_ok-tail.ensures.next (λ reads. c.in_ok-tail.ensures.appended reads) c.in_ok-tail.ensures.settled c.append.ensures.elsewhere c.append.ensures.crash

pub returns-clause-space : goal.returns-clause-space
returns-clause-space g c reads kept =
    let metas = c.args.start.metas.records in
    let first = c.args.disk.now in
    let own = c.put_raising.new.set.pairs in
    let space = with_metas metas (record_at (g.D.Disk.reads first)) in
    let held = version_held metas (record_at (g.D.Disk.reads first)) c.own.result c.own.ensures in
    let old : version_of (space own_key) < newest_version = omega (arith, held, c.version_of.ensures, c.if-version_of-ge-VERSION.false) in
    appended_space g.D.Disk first c.append.new.disk metas [] own own 0 c.in_ok-tail.tail kept (returns-clause-kept g c kept) (FindsMerged-first own) reads
    (c.append.ensures.elsewhere reads)
    ∙ ap (laid_over space) c.put_raising.ensures.pairs
    ∙ sym (raised_old c.args.start.shape space old)

pub returns-clause-log : goal.returns-clause-log
returns-clause-log g c reads has =
    let metas = c.args.start.metas.records in
    let first = g.D.Disk.reads c.args.disk.now in
    let now = g.D.Disk.reads c.append.new.disk in
    let space = with_metas metas (record_at first) in
    let held = version_held metas (record_at first) c.own.result c.own.ensures in
    let old : version_of (space own_key) < newest_version = omega (arith, held, c.version_of.ensures, c.if-version_of-ge-VERSION.false) in
    let entries : c.put_raising.new.set.pairs ∷ [] ≡ raising_entries c.args.start.shape space =
    ap (λ (pairs : Pairs). let es : List Pairs = pairs ∷ [] in es) c.put_raising.ensures.pairs ∙ sym (entries_old c.args.start.shape space old) in (
      0 + entry_bytes (length c.put_raising.new.set.pairs),
      subst (λ (es : List Pairs). HasEntries now es (0 + entry_bytes (length c.put_raising.new.set.pairs)))
          entries (c.in_ok-tail.ensures.appended reads [] has),
    )

pub returns-clause-settled : goal.returns-clause-settled
returns-clause-settled g c reads images has settled =
    settled_appended g.D.Disk c.args.disk.now c.append.new.disk c.put_raising.new.set.pairs g.met.D.Disk.counts_now images has settled
    (c.append.ensures.crash reads images) (c.append.ensures.elsewhere reads) (c.in_ok-tail.ensures.settled reads images)

pub returns-in_err-tail-clause-shape : goal.returns-in_err-tail-clause-shape
returns-in_err-tail-clause-shape g c = never_ok c.from_residual.result _ _ c.from_residual.ensures.1

pub returns-in_err-tail-clause-kept : goal.returns-in_err-tail-clause-kept
returns-in_err-tail-clause-kept g c _ = never_ok c.from_residual.result _ _ c.from_residual.ensures.1

pub returns-in_err-tail-clause-space : goal.returns-in_err-tail-clause-space
returns-in_err-tail-clause-space g c _ _ = never_ok c.from_residual.result _ _ c.from_residual.ensures.1

pub returns-in_err-tail-clause-log : goal.returns-in_err-tail-clause-log
returns-in_err-tail-clause-log g c _ _ = never_ok c.from_residual.result _ _ c.from_residual.ensures.1

pub returns-in_err-tail-clause-settled : goal.returns-in_err-tail-clause-settled
returns-in_err-tail-clause-settled g c _ _ _ _ = never_ok c.from_residual.result _ _ c.from_residual.ensures.1
