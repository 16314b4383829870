use Rattle.std.proofs.Common.{◌≡◌, ◌≤◌, ◌∙◌, ⊎_elim, sym, subst, inl, inr, [], ◌∷◌, arith}
use Rattle.std.proofs.lemmas.Result.{IfErr-weaker}
use Rattle.disk_model.proofs.Spans.{at_each_moment_weaker, only_reads_on}
use Rattle.rec_bytes.specs.Creation.{creation_pairs, own_key, raised}
use Rattle.rec_bytes.specs.Format.{newest_version}
use Rattle.rec_bytes.specs.Shape.{version_of}
use Rattle.rec_bytes.specs.declared.key.Key.{Key}
use Rattle.rec_bytes.specs.declared.record.Rec.{Rec}
use Rattle.rec_bytes.specs.Space.{laid_over}
use Rattle.rec_bytes.specs.declared.shape.Shape.{Shape}
use Rattle.record_file.specs.Records.{record_at}
use Rattle.txn_core.specs.Config.{Suits}
use Rattle.record_file.specs.MetaFile.{with_metas}
use Rattle.txn_core.specs.Opening.{HasOnly, HoldsStore, OnlyDiffers, RefusesOpening, raising_entries}
use Rattle.txn_core.specs.declared.opening.Start.{Start}
use Rattle.txn_core.proofs.Finding.{differs_untouched, if_ok_all, if_ok_both, if_ok_on, made_crash, made_log}
use Rattle.txn_core.proofs.Finding.{made_opened, none_made, one_shape, redoes_own, refuses_differs, stays_read}
use Rattle.txn_core.proofs.Finding.{unmade_crash, unmade_left, unmade_mid, unmade_opened}
use Rattle.txn_core.proofs.opening.find_or_make.Given.{Over}
use Rattle.rec_bytes.proofs.Causes.{never_ok}
use Rattle.txn_core.proofs.opening.find_or_make.Goals as goal

-- the store that is found
store : (g : Over) (c : goal.After-open_made g) → g.D.Disk.tells_reads → HoldsStore (g.D.Disk.reads c.args.disk.now) c.in-Ok-Made.shape
store g c reads =
    let intact = c.in-Ok-Made.ensures.intact reads in
    record { space = intact.0; redoes = intact.1; made = rw c.in-Ok-Made.field-0-is at (c.in-Ok-Made.ensures.found reads intact.0 intact.1) }

pub returns-in-Ok-Made-clause-opened : goal.returns-in-Ok-Made-clause-opened
returns-in-Ok-Made-clause-opened g c reads =
    let disk = g.D.Disk in
    let found = c.in-Ok-Made.shape in
    let mid = disk.reads c.recover.new.disk in
    let made = store g c reads in
    let r = c.open_made.result in
    let space = λ (s : Start). laid_over (with_metas s.metas.records (record_at (disk.reads c.open_made.new.disk))) c.open_made.new.changed.pairs in
    let is = λ (s : Start). space s ≡ raised found (record_at mid) in
    let shape = λ (s : Start). s.shape ≡ found in
    let suits = λ (s : Start). Suits c.args.config found in
    if_ok_all r (λ s. is s × (shape s × suits s)) _
    (λ s of. made_opened (disk.reads c.args.disk.now) mid c.args.config s.shape found (space s) made (c.in-Ok-Made.ensures.space reads made.space made.redoes)
    of.1.0 of.1.1 of.0)
    (if_ok_both r is _ (c.open_made.ensures.space reads (c.in-Ok-Made.ensures.emptied reads) (c.in-Ok-Made.ensures.settled reads))
    (if_ok_both r shape suits c.open_made.ensures.shape c.open_made.ensures.suits))

pub returns-in-Ok-Made-clause-log : goal.returns-in-Ok-Made-clause-log
returns-in-Ok-Made-clause-log g c reads =
    let disk = g.D.Disk in
    let found = c.in-Ok-Made.shape in
    let mid = disk.reads c.recover.new.disk in
    let now = disk.reads c.open_made.new.disk in
    let made = store g c reads in
    let r = c.open_made.result in
    let log = HasOnly now (raising_entries found (record_at mid)) in
    let shape = λ (s : Start). s.shape ≡ found in
    if_ok_all r (λ s. log × shape s) _
    (λ s of. made_log (disk.reads c.args.disk.now) mid now s.shape found made (c.in-Ok-Made.ensures.space reads made.space made.redoes) of.1 of.0)
    (if_ok_both r (λ _. log) shape (if_ok_on r log (c.open_made.ensures.log reads (c.in-Ok-Made.ensures.emptied reads))) c.open_made.ensures.shape)

pub returns-in-Ok-Made-clause-kept : goal.returns-in-Ok-Made-clause-kept
returns-in-Ok-Made-clause-kept g c = c.open_made.ensures.kept c.in-Ok-Made.ensures.emptied c.in-Ok-Made.ensures.settled

pub returns-in-Ok-Made-clause-settled : goal.returns-in-Ok-Made-clause-settled
returns-in-Ok-Made-clause-settled g c reads images = c.open_made.ensures.settled reads images (c.in-Ok-Made.ensures.emptied reads)
    (c.in-Ok-Made.ensures.settled reads images)

pub returns-in-Ok-Made-clause-crash : goal.returns-in-Ok-Made-clause-crash
returns-in-Ok-Made-clause-crash g c reads images space shape redoes is =
    made_crash g.D.Disk c.args.disk.now c.recover.new.disk c.open_made.new.disk shape c.in-Ok-Made.shape space (c.in-Ok-Made.ensures.space reads space redoes)
    (one_shape (g.D.Disk.reads c.args.disk.now) space c.in-Ok-Made.shape shape (store g c reads) redoes is) (c.recover.ensures.crash reads images space redoes)
    (c.open_made.ensures.crash reads images (c.in-Ok-Made.ensures.emptied reads) (c.in-Ok-Made.ensures.settled reads images))

pub returns-in-Ok-Made-clause-crash_new : goal.returns-in-Ok-Made-clause-crash_new
returns-in-Ok-Made-clause-crash_new g c reads images unmade = absurd (none_made (g.D.Disk.reads c.args.disk.now) c.in-Ok-Made.shape unmade (store g c reads))

pub returns-in-Ok-Made-clause-refused : goal.returns-in-Ok-Made-clause-refused
returns-in-Ok-Made-clause-refused g c reads =
    let content = g.D.Disk.reads c.args.disk.now in
    IfErr-weaker c.open_made.result (OnlyDiffers c.in-Ok-Made.shape c.args.config) (RefusesOpening content c.args.config)
    (λ fault only. refuses_differs content c.args.config c.in-Ok-Made.shape fault (store g c reads) only) c.open_made.ensures.refused

pub returns-in-Ok-Made-clause-untouched : goal.returns-in-Ok-Made-clause-untouched
returns-in-Ok-Made-clause-untouched g c reads =
    IfErr-weaker c.open_made.result (OnlyDiffers c.in-Ok-Made.shape c.args.config) _
    (λ fault only is. differs_untouched c.args.config c.in-Ok-Made.shape fault only is) c.open_made.ensures.refused

pub returns-in-Ok-Made-clause-sound : goal.returns-in-Ok-Made-clause-sound
returns-in-Ok-Made-clause-sound g c reads space shape redoes has =
    let same = one_shape (g.D.Disk.reads c.args.disk.now) space c.in-Ok-Made.shape shape (store g c reads) redoes has in
    IfErr-weaker c.open_made.result (OnlyDiffers c.in-Ok-Made.shape c.args.config) (OnlyDiffers shape c.args.config)
    (λ fault. subst (λ (s : Shape). OnlyDiffers s c.args.config fault) (sym same)) c.open_made.ensures.refused

pub returns-in-Ok-Made-clause-careful : goal.returns-in-Ok-Made-clause-careful
returns-in-Ok-Made-clause-careful g c reads =
    let made = store g c reads in
    inr (made.space, made.redoes, inr (c.in-Ok-Made.shape, made.made))

pub returns-in_err-make_new-in-Ok-Unmade-clause-careful : goal.returns-in_err-make_new-in-Ok-Unmade-clause-careful
returns-in_err-make_new-in-Ok-Unmade-clause-careful g c reads =
    let intact = c.in-Ok-Unmade.ensures.intact reads in
    inr (intact.0, intact.1, inl (rw c.in-Ok-Unmade.field-0-is at (c.in-Ok-Unmade.ensures.found reads intact.0 intact.1)))

pub returns-in_ok-make_new-in-Ok-Unmade-clause-careful : goal.returns-in_ok-make_new-in-Ok-Unmade-clause-careful
returns-in_ok-make_new-in-Ok-Unmade-clause-careful g c reads =
    let intact = c.in-Ok-Unmade.ensures.intact reads in
    inr (intact.0, intact.1, inl (rw c.in-Ok-Unmade.field-0-is at (c.in-Ok-Unmade.ensures.found reads intact.0 intact.1)))

pub returns-in-Ok-Made-clause-unmade : goal.returns-in-Ok-Made-clause-unmade
returns-in-Ok-Made-clause-unmade g c reads unmade = absurd (none_made (g.D.Disk.reads c.args.disk.now) c.in-Ok-Made.shape unmade (store g c reads))

pub returns-in_err-make_new-in-Ok-Unmade-clause-crash : goal.returns-in_err-make_new-in-Ok-Unmade-clause-crash
returns-in_err-make_new-in-Ok-Unmade-clause-crash g c reads images space shape redoes is =
    let intact = c.in-Ok-Unmade.ensures.intact reads in
    let unmade = rw c.in-Ok-Unmade.field-0-is at (c.in-Ok-Unmade.ensures.found reads intact.0 intact.1) in
    absurd (none_made (g.D.Disk.reads c.args.disk.now) shape unmade (record { space = space; redoes = redoes; made = is }))

pub returns-in_ok-make_new-in-Ok-Unmade-clause-crash : goal.returns-in_ok-make_new-in-Ok-Unmade-clause-crash
returns-in_ok-make_new-in-Ok-Unmade-clause-crash g c reads images space shape redoes is =
    let intact = c.in-Ok-Unmade.ensures.intact reads in
    let unmade = rw c.in-Ok-Unmade.field-0-is at (c.in-Ok-Unmade.ensures.found reads intact.0 intact.1) in
    absurd (none_made (g.D.Disk.reads c.args.disk.now) shape unmade (record { space = space; redoes = redoes; made = is }))

pub returns-in_err-make_new-in-Ok-Unmade-clause-crash_new : goal.returns-in_err-make_new-in-Ok-Unmade-clause-crash_new
returns-in_err-make_new-in-Ok-Unmade-clause-crash_new g c reads images unmade =
    let disk = g.D.Disk in
    let content = g.D.Disk.reads c.args.disk.now in
    let same = c.in-Ok-Unmade.ensures.space reads (record_at content) (redoes_own content unmade) in
    let none_now = unmade_mid content (g.D.Disk.reads c.recover.new.disk) unmade same (c.in-Ok-Unmade.ensures.emptied reads) in
    unmade_crash disk c.args.disk.now c.recover.new.disk c.make_new.new.disk c.args.config c.shape.result unmade same c.shape.ensures images
    (c.recover.ensures.closed reads unmade.log.1)
    (c.make_new.ensures.crash reads images none_now (c.in-Ok-Unmade.ensures.settled reads images))

pub returns-in_ok-make_new-in-Ok-Unmade-clause-crash_new : goal.returns-in_ok-make_new-in-Ok-Unmade-clause-crash_new
returns-in_ok-make_new-in-Ok-Unmade-clause-crash_new g c reads images unmade =
    let disk = g.D.Disk in
    let content = g.D.Disk.reads c.args.disk.now in
    let same = c.in-Ok-Unmade.ensures.space reads (record_at content) (redoes_own content unmade) in
    let none_now = unmade_mid content (g.D.Disk.reads c.recover.new.disk) unmade same (c.in-Ok-Unmade.ensures.emptied reads) in
    unmade_crash disk c.args.disk.now c.recover.new.disk c.make_new.new.disk c.args.config c.shape.result unmade same c.shape.ensures images
    (c.recover.ensures.closed reads unmade.log.1)
    (c.make_new.ensures.crash reads images none_now (c.in-Ok-Unmade.ensures.settled reads images))

pub returns-in_ok-make_new-in-Ok-Unmade-clause-opened : goal.returns-in_ok-make_new-in-Ok-Unmade-clause-opened
returns-in_ok-make_new-in-Ok-Unmade-clause-opened g c reads =
    let disk = g.D.Disk in
    let s = c.in_ok-make_new-in-Ok-Unmade.field-0 in
    let intact = c.in-Ok-Unmade.ensures.intact reads in
    let unmade = rw c.in-Ok-Unmade.field-0-is at (c.in-Ok-Unmade.ensures.found reads intact.0 intact.1) in
    let content = g.D.Disk.reads c.args.disk.now in
    let same = c.in-Ok-Unmade.ensures.space reads (record_at content) (redoes_own content unmade) in
    let none_now = unmade_mid content (g.D.Disk.reads c.recover.new.disk) unmade same (c.in-Ok-Unmade.ensures.emptied reads) in
    unmade_opened (disk.reads c.args.disk.now) (disk.reads c.recover.new.disk) c.args.config s.shape c.shape.result _ unmade same c.shape.ensures
    c.in_ok-make_new-in-Ok-Unmade.ensures.shape
    (c.in_ok-make_new-in-Ok-Unmade.ensures.space reads none_now)

pub returns-in_ok-make_new-in-Ok-Unmade-clause-log : goal.returns-in_ok-make_new-in-Ok-Unmade-clause-log
returns-in_ok-make_new-in-Ok-Unmade-clause-log g c reads =
    let intact = c.in-Ok-Unmade.ensures.intact reads in
    let unmade = rw c.in-Ok-Unmade.field-0-is at (c.in-Ok-Unmade.ensures.found reads intact.0 intact.1) in
    inl (
      unmade,
      subst (λ (s : Shape). HasOnly (g.D.Disk.reads c.make_new.new.disk) (creation_pairs s ∷ [])) (sym c.in_ok-make_new-in-Ok-Unmade.ensures.shape)
          (c.in_ok-make_new-in-Ok-Unmade.ensures.log reads (c.in-Ok-Unmade.ensures.emptied reads)),
    )

pub returns-in_ok-make_new-in-Ok-Unmade-clause-settled : goal.returns-in_ok-make_new-in-Ok-Unmade-clause-settled
returns-in_ok-make_new-in-Ok-Unmade-clause-settled g c reads images = c.in_ok-make_new-in-Ok-Unmade.ensures.settled reads images
    (c.in-Ok-Unmade.ensures.emptied reads) (c.in-Ok-Unmade.ensures.settled reads images)

pub returns-in_ok-make_new-in-Ok-Unmade-clause-kept : goal.returns-in_ok-make_new-in-Ok-Unmade-clause-kept
returns-in_ok-make_new-in-Ok-Unmade-clause-kept g c = c.in_ok-make_new-in-Ok-Unmade.ensures.kept
    (λ reads.
    let intact = c.in-Ok-Unmade.ensures.intact reads in
    let unmade = rw c.in-Ok-Unmade.field-0-is at (c.in-Ok-Unmade.ensures.found reads intact.0 intact.1) in
    let content = g.D.Disk.reads c.args.disk.now in
    let same = c.in-Ok-Unmade.ensures.space reads (record_at content) (redoes_own content unmade) in
    let none_now = unmade_mid content (g.D.Disk.reads c.recover.new.disk) unmade same (c.in-Ok-Unmade.ensures.emptied reads) in
    none_now) c.in-Ok-Unmade.ensures.settled

pub returns-in-Err-NotAStore-clause-sound : goal.returns-in-Err-NotAStore-clause-sound
returns-in-Err-NotAStore-clause-sound g c reads space shape redoes has =
    let e = sym c.in-Err-NotAStore.field-0-is ∙ c.in-Err-NotAStore.ensures.sound reads space redoes (inr (shape, has)) in cc

pub returns-in-Err-NotAStore-clause-unmade : goal.returns-in-Err-NotAStore-clause-unmade
returns-in-Err-NotAStore-clause-unmade g c reads unmade =
    let content = g.D.Disk.reads c.args.disk.now in
    let e = sym c.in-Err-NotAStore.field-0-is ∙ c.in-Err-NotAStore.ensures.sound reads (record_at content) (redoes_own content unmade) (inl unmade) in cc

pub returns-in-Err-Damaged-clause-sound : goal.returns-in-Err-Damaged-clause-sound
returns-in-Err-Damaged-clause-sound g c reads space shape redoes has =
    let e = sym c.in-Err-Damaged.field-0-is ∙ c.in-Err-Damaged.ensures.sound reads space redoes (inr (shape, has)) in cc

pub returns-in-Err-Damaged-clause-unmade : goal.returns-in-Err-Damaged-clause-unmade
returns-in-Err-Damaged-clause-unmade g c reads unmade =
    let content = g.D.Disk.reads c.args.disk.now in
    let e = sym c.in-Err-Damaged.field-0-is ∙ c.in-Err-Damaged.ensures.sound reads (record_at content) (redoes_own content unmade) (inl unmade) in cc

pub returns-in-Err-Disk-clause-crash : goal.returns-in-Err-Disk-clause-crash
returns-in-Err-Disk-clause-crash g c reads images space shape redoes is =
    at_each_moment_weaker g.D.Disk c.args.disk.now c.recover.new.disk _ _ (c.recover.ensures.crash reads images space redoes)
    (λ left. ⊎_elim (λ was. inl was) (λ redoes. inr (inl redoes)))

pub returns-in-Err-Disk-clause-crash_new : goal.returns-in-Err-Disk-clause-crash_new
returns-in-Err-Disk-clause-crash_new g c reads images unmade = unmade_left g.D.Disk c.args.disk.now c.recover.new.disk c.args.config images
    (c.recover.ensures.closed reads unmade.log.1)

pub returns-in-Ok-Made-clause-differs : goal.returns-in-Ok-Made-clause-differs
returns-in-Ok-Made-clause-differs g c reads space redoes =
    IfErr-weaker c.open_made.result _ _ (λ fault only asked.
    stays_read g.D.Disk c.args.disk.now c.recover.new.disk c.open_made.new.disk space g.met.D.Disk.counts_now (c.recover.ensures.read reads space redoes)
    (λ images. c.recover.ensures.crash reads images space redoes) (only asked)) c.open_made.ensures.differs

pub returns-in-Ok-Made-clause-clean : goal.returns-in-Ok-Made-clause-clean
returns-in-Ok-Made-clause-clean g c reads clean =
    let same = c.in-Ok-Made.ensures.space reads clean.store.space clean.store.redoes in
    only_reads_on g.D.Disk c.args.disk.now c.recover.new.disk c.open_made.new.disk (c.recover.ensures.closed reads clean.no_entry)
    (c.open_made.ensures.newest reads (subst (λ (r : Key → Rec). newest_version ≤ version_of (r own_key)) (sym same) clean.newest))

pub returns-in_err-make_new-in-Ok-Unmade-clause-clean : goal.returns-in_err-make_new-in-Ok-Unmade-clause-clean
returns-in_err-make_new-in-Ok-Unmade-clause-clean g c reads clean =
    let intact = c.in-Ok-Unmade.ensures.intact reads in
    let unmade = rw c.in-Ok-Unmade.field-0-is at (c.in-Ok-Unmade.ensures.found reads intact.0 intact.1) in
    absurd (none_made (g.D.Disk.reads c.args.disk.now) clean.shape unmade clean.store)

pub returns-in_ok-make_new-in-Ok-Unmade-clause-clean : goal.returns-in_ok-make_new-in-Ok-Unmade-clause-clean
returns-in_ok-make_new-in-Ok-Unmade-clause-clean g c reads clean =
    let intact = c.in-Ok-Unmade.ensures.intact reads in
    let unmade = rw c.in-Ok-Unmade.field-0-is at (c.in-Ok-Unmade.ensures.found reads intact.0 intact.1) in
    absurd (none_made (g.D.Disk.reads c.args.disk.now) clean.shape unmade clean.store)

pub returns-in_err-make_new-in-Ok-Unmade-clause-opened : goal.returns-in_err-make_new-in-Ok-Unmade-clause-opened
returns-in_err-make_new-in-Ok-Unmade-clause-opened g c _ = never_ok c.from_residual.result _ _ c.from_residual.ensures.1

pub returns-in_err-make_new-in-Ok-Unmade-clause-suits : goal.returns-in_err-make_new-in-Ok-Unmade-clause-suits
returns-in_err-make_new-in-Ok-Unmade-clause-suits g c = never_ok c.from_residual.result _ _ c.from_residual.ensures.1

pub returns-in_err-make_new-in-Ok-Unmade-clause-settled : goal.returns-in_err-make_new-in-Ok-Unmade-clause-settled
returns-in_err-make_new-in-Ok-Unmade-clause-settled g c _ _ = never_ok c.from_residual.result _ _ c.from_residual.ensures.1

pub returns-in_err-make_new-in-Ok-Unmade-clause-log : goal.returns-in_err-make_new-in-Ok-Unmade-clause-log
returns-in_err-make_new-in-Ok-Unmade-clause-log g c _ = never_ok c.from_residual.result _ _ c.from_residual.ensures.1

pub returns-in_err-make_new-in-Ok-Unmade-clause-allowed : goal.returns-in_err-make_new-in-Ok-Unmade-clause-allowed
returns-in_err-make_new-in-Ok-Unmade-clause-allowed g c = never_ok c.from_residual.result _ _ c.from_residual.ensures.1

pub returns-in_err-make_new-in-Ok-Unmade-clause-kept : goal.returns-in_err-make_new-in-Ok-Unmade-clause-kept
returns-in_err-make_new-in-Ok-Unmade-clause-kept g c = never_ok c.from_residual.result _ _ c.from_residual.ensures.1

pub returns-in-Ok-Made-clause-suits : goal.returns-in-Ok-Made-clause-suits
returns-in-Ok-Made-clause-suits g c =
    let found = c.in-Ok-Made.shape in
    let r = c.open_made.result in
    let shape = λ (s : Start). s.shape ≡ found in
    let suits = λ (s : Start). Suits c.args.config found in
    if_ok_all r (λ s. shape s × suits s) _ (λ s of. subst (Suits c.args.config) (sym of.0) of.1)
    (if_ok_both r shape suits c.open_made.ensures.shape c.open_made.ensures.suits)

pub returns-in-Ok-Made-clause-no_memory : goal.returns-in-Ok-Made-clause-no_memory
returns-in-Ok-Made-clause-no_memory g c = c.open_made.ensures.no_memory

pub returns-in-Ok-Made-clause-room : goal.returns-in-Ok-Made-clause-room
returns-in-Ok-Made-clause-room g c = c.open_made.ensures.room

pub returns-in-Ok-Made-clause-few : goal.returns-in-Ok-Made-clause-few
returns-in-Ok-Made-clause-few g c = c.open_made.ensures.few

pub returns-in-Ok-Made-clause-later : goal.returns-in-Ok-Made-clause-later
returns-in-Ok-Made-clause-later g c = omega (arith, c.recover.ensures.cause.later, c.open_made.ensures.later)

pub returns-in_err-make_new-in-Ok-Unmade-clause-room : goal.returns-in_err-make_new-in-Ok-Unmade-clause-room
returns-in_err-make_new-in-Ok-Unmade-clause-room g c = c.make_new.ensures.room

pub returns-in_err-make_new-in-Ok-Unmade-clause-few : goal.returns-in_err-make_new-in-Ok-Unmade-clause-few
returns-in_err-make_new-in-Ok-Unmade-clause-few g c = c.make_new.ensures.few

pub returns-in_err-make_new-in-Ok-Unmade-clause-later : goal.returns-in_err-make_new-in-Ok-Unmade-clause-later
returns-in_err-make_new-in-Ok-Unmade-clause-later g c = omega (arith, c.recover.ensures.cause.later, c.make_new.ensures.cause.later)

pub returns-in_ok-make_new-in-Ok-Unmade-clause-room : goal.returns-in_ok-make_new-in-Ok-Unmade-clause-room
returns-in_ok-make_new-in-Ok-Unmade-clause-room g c = c.make_new.ensures.room

pub returns-in_ok-make_new-in-Ok-Unmade-clause-few : goal.returns-in_ok-make_new-in-Ok-Unmade-clause-few
returns-in_ok-make_new-in-Ok-Unmade-clause-few g c = c.make_new.ensures.few

pub returns-in_ok-make_new-in-Ok-Unmade-clause-later : goal.returns-in_ok-make_new-in-Ok-Unmade-clause-later
returns-in_ok-make_new-in-Ok-Unmade-clause-later g c = omega (arith, c.recover.ensures.cause.later, c.make_new.ensures.cause.later)
