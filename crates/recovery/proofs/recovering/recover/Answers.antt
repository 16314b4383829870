use Rattle.std.proofs.Common.{◌≡◌, ◌≢◌, ◌∙◌, ◌⊎◌, inl, inr, subst, sym}
use Rattle.std.proofs.lemmas.Result.{err_from_is_err_and}
use Rattle.disk_model.specs.Contents.{Files}
use Rattle.disk_model.specs.Spans.{AtEachMoment, OnlyReads}
use Rattle.disk_model.proofs.Spans.{at_each_moment_on, at_each_moment_weaker, only_reads_on}
use Rattle.rec_bytes.specs.declared.key.Key.{Key}
use Rattle.rec_bytes.specs.declared.record.Rec.{Rec}
use Rattle.rec_bytes.specs.Format.{log_file}
use Rattle.redo_log.specs.Entries.{open_byte}
use Rattle.record_file.specs.Records.{IsUnmade}
use Rattle.record_file.specs.Redone.{Redoes}
use Rattle.record_file.proofs.Redone.{Redoes-kept}
use Rattle.recovery.specs.Finding.{IsFound, IsIntact, IsRecoverable, Refuses}
use Rattle.recovery.specs.declared.found.Found.{Found}
use Rattle.recovery.specs.declared.recover_fault.RecoverFault.{RecoverFault}
use Rattle.recovery.specs.declared.recover_fault.RecoverFault.TheVariants as faults
use Rattle.recovery.proofs.StoreForms.{IsFound-stands, Stands-refused}
use Rattle.recovery.proofs.recovering.recover.Given.{Over}
use Rattle.rec_bytes.proofs.Causes.{never_ok}
use Rattle.recovery.proofs.recovering.recover.Goals as goal

-- while the log is redone, on a disk that was only read before
redoing : (g : Over) (first found now : g.row.D.Denot) (space : Key → Rec) → g.D.Disk.tells_images → Redoes (g.D.Disk.reads first) space
    → OnlyReads g.D.Disk first found
    → (Redoes (g.D.Disk.reads found) space → AtEachMoment g.D.Disk found now (λ content. Redoes content space))
    → AtEachMoment g.D.Disk first now (λ content. g.D.Disk.may_leave first content ⊎ Redoes content space)
redoing g first found now space images redoes reads more =
    let disk = g.D.Disk in
    let P : Files → Type 0 = λ content. disk.may_leave first content ⊎ Redoes content space in
    at_each_moment_on disk first found now P (λ content. Redoes content space)
    (at_each_moment_weaker disk first found (disk.may_leave first) P (reads.time images) (λ content left. inl left))
    (more (Redoes-kept space (disk.reads first) (disk.reads found) redoes reads.keeps)) (λ content again. inr again)

-- and where no store was made
staying : (g : Over) (first found now : g.row.D.Denot) → g.D.Disk.tells_images → IsUnmade (g.D.Disk.reads first) → OnlyReads g.D.Disk first found
    → (IsUnmade (g.D.Disk.reads found) → AtEachMoment g.D.Disk found now IsUnmade)
    → AtEachMoment g.D.Disk first now (λ content. g.D.Disk.may_leave first content ⊎ IsUnmade content)
staying g first found now images unmade redoes more =
    let disk = g.D.Disk in
    let P : Files → Type 0 = λ content. disk.may_leave first content ⊎ IsUnmade content in
    let same : disk.reads found ≡ disk.reads first = λ i file place. redoes.keeps file place i in
    at_each_moment_on disk first found now P IsUnmade (at_each_moment_weaker disk first found (disk.may_leave first) P (redoes.time images)
    (λ content left. inl left))
    (more (subst IsUnmade (sym same) unmade)) (λ content none. inr none)

pub returns-in_err-found-clause-unmade : goal.returns-in_err-found-clause-unmade
returns-in_err-found-clause-unmade g c reads images unmade =
    at_each_moment_weaker g.D.Disk c.args.disk.now c.find_store.new.disk (g.D.Disk.may_leave c.args.disk.now) _ (c.find_store.ensures.only_reads.time images)
    (λ content left. inl left)

pub returns-in_err-redo-clause-unmade : goal.returns-in_err-redo-clause-unmade
returns-in_err-redo-clause-unmade g c reads images unmade =
    staying g c.args.disk.now c.find_store.new.disk c.redo.new.disk images unmade c.find_store.ensures.only_reads
    (c.redo.ensures.unmade reads images (c.in_ok-found.ensures.settled reads images))

pub returns-clause-unmade : goal.returns-clause-unmade
returns-clause-unmade g c reads images unmade =
    staying g c.args.disk.now c.find_store.new.disk c.redo.new.disk images unmade c.find_store.ensures.only_reads
    (c.redo.ensures.unmade reads images (c.in_ok-found.ensures.settled reads images))

pub returns-in_err-found-clause-sound : goal.returns-in_err-found-clause-sound
returns-in_err-found-clause-sound g c reads space redoes stands =
    let p = err_from_is_err_and c.from_residual.result c.from_residual.ensures.1 in
    rw (p.1, p.2) (Stands-refused (g.D.Disk.reads c.args.disk.now) space _ redoes stands (c.in_err-found.ensures.refused reads))

pub returns-in_err-redo-clause-crash : goal.returns-in_err-redo-clause-crash
returns-in_err-redo-clause-crash g c reads images space redoes =
    redoing g c.args.disk.now c.find_store.new.disk c.redo.new.disk space images redoes c.find_store.ensures.only_reads
    (c.redo.ensures.crash reads images (c.in_ok-found.ensures.settled reads images) space)

pub returns-in_err-redo-clause-read : goal.returns-in_err-redo-clause-read
returns-in_err-redo-clause-read g c reads space redoes =
    c.redo.ensures.read reads space (Redoes-kept space (g.D.Disk.reads c.args.disk.now) (g.D.Disk.reads c.find_store.new.disk)
    redoes c.find_store.ensures.only_reads.keeps)

-- what is told of a fault that is the disk's
Refuses-disk : (content : Files) (fault : RecoverFault) → fault ≡ faults.Disk → Refuses content fault
Refuses-disk content fault is = subst (Refuses content) (sym is) tt

pub returns-in_err-redo-clause-refused : goal.returns-in_err-redo-clause-refused
returns-in_err-redo-clause-refused g c reads =
    let first = g.D.Disk.reads c.args.disk.now in
    let intact : IsIntact first = c.in_ok-found.ensures.intact reads in
    let p = err_from_is_err_and c.from_residual-in_err-redo.result c.from_residual-in_err-redo.ensures.1 in
    rw (p.1, p.2) (Refuses-disk first _ (c.in_err-redo.ensures.sound reads intact.0 (Redoes-kept intact.0 first (g.D.Disk.reads c.find_store.new.disk)
    intact.1 c.find_store.ensures.only_reads.keeps)))

pub returns-in_err-redo-clause-untouched : goal.returns-in_err-redo-clause-untouched
returns-in_err-redo-clause-untouched g c reads =
    let first = g.D.Disk.reads c.args.disk.now in
    let intact : IsIntact first = c.in_ok-found.ensures.intact reads in
    let p = err_from_is_err_and c.from_residual-in_err-redo.result c.from_residual-in_err-redo.ensures.1 in
    rw (p.1, p.2) (λ other. absurd (other (c.in_err-redo.ensures.sound reads intact.0 (Redoes-kept intact.0 first (g.D.Disk.reads c.find_store.new.disk)
    intact.1 c.find_store.ensures.only_reads.keeps))))

pub returns-in_err-redo-clause-sound : goal.returns-in_err-redo-clause-sound
returns-in_err-redo-clause-sound g c reads space redoes stands =
    let p = err_from_is_err_and c.from_residual-in_err-redo.result c.from_residual-in_err-redo.ensures.1 in
    rw (p.1, p.2) (c.in_err-redo.ensures.sound reads space (Redoes-kept space (g.D.Disk.reads c.args.disk.now) (g.D.Disk.reads c.find_store.new.disk)
    redoes c.find_store.ensures.only_reads.keeps))

pub returns-clause-crash : goal.returns-clause-crash
returns-clause-crash g c reads images space redoes =
    redoing g c.args.disk.now c.find_store.new.disk c.redo.new.disk space images redoes c.find_store.ensures.only_reads
    (c.redo.ensures.crash reads images (c.in_ok-found.ensures.settled reads images) space)

pub returns-clause-read : goal.returns-clause-read
returns-clause-read g c reads space redoes =
    c.redo.ensures.read reads space (Redoes-kept space (g.D.Disk.reads c.args.disk.now) (g.D.Disk.reads c.find_store.new.disk)
    redoes c.find_store.ensures.only_reads.keeps)

pub returns-clause-space : goal.returns-clause-space
returns-clause-space g c reads space redoes =
    c.in_ok-redo.ensures.space reads space (Redoes-kept space (g.D.Disk.reads c.args.disk.now) (g.D.Disk.reads c.find_store.new.disk)
    redoes c.find_store.ensures.only_reads.keeps)

-- the log is redone only over what was found
recoverable : (g : Over) (first : g.row.D.Denot) (found : Found) (intact : IsIntact (g.D.Disk.reads first)) → IsFound (g.D.Disk.reads first) intact.0 found
    → IsRecoverable (g.D.Disk.reads first)
recoverable g first found intact is = (intact.0, intact.1, IsFound-stands (g.D.Disk.reads first) intact.0 found is)

pub returns-in_err-redo-clause-careful : goal.returns-in_err-redo-clause-careful
returns-in_err-redo-clause-careful g c reads =
    let intact = c.in_ok-found.ensures.intact reads in
    inr (recoverable g c.args.disk.now _ intact (c.in_ok-found.ensures.found reads intact.0 intact.1))

pub returns-clause-careful : goal.returns-clause-careful
returns-clause-careful g c reads =
    let intact = c.in_ok-found.ensures.intact reads in
    inr (recoverable g c.args.disk.now _ intact (c.in_ok-found.ensures.found reads intact.0 intact.1))

-- where the first gate is closed
redo_closed : (g : Over) (first found now : g.row.D.Denot) → g.D.Disk.reads first log_file 0 ≢ open_byte → OnlyReads g.D.Disk first found
    → (g.D.Disk.reads found log_file 0 ≢ open_byte → OnlyReads g.D.Disk found now) → OnlyReads g.D.Disk first now
redo_closed g first found now closed only redo = only_reads_on g.D.Disk first found now only (redo (λ is_open. closed (sym (only.keeps log_file 0) ∙ is_open)))

pub returns-in_err-redo-clause-closed : goal.returns-in_err-redo-clause-closed
returns-in_err-redo-clause-closed g c reads closed = redo_closed g c.args.disk.now c.find_store.new.disk c.redo.new.disk closed c.find_store.ensures.only_reads
    (c.redo.ensures.closed reads)

pub returns-clause-closed : goal.returns-clause-closed
returns-clause-closed g c reads closed = redo_closed g c.args.disk.now c.find_store.new.disk c.redo.new.disk closed c.find_store.ensures.only_reads
    (c.redo.ensures.closed reads)

pub returns-in_err-found-clause-space : goal.returns-in_err-found-clause-space
returns-in_err-found-clause-space g c _ _ _ = never_ok c.from_residual.result _ _ c.from_residual.ensures.1

pub returns-in_err-found-clause-emptied : goal.returns-in_err-found-clause-emptied
returns-in_err-found-clause-emptied g c _ = never_ok c.from_residual.result _ _ c.from_residual.ensures.1

pub returns-in_err-found-clause-settled : goal.returns-in_err-found-clause-settled
returns-in_err-found-clause-settled g c _ _ = never_ok c.from_residual.result _ _ c.from_residual.ensures.1

pub returns-in_err-found-clause-found : goal.returns-in_err-found-clause-found
returns-in_err-found-clause-found g c _ _ _ = never_ok c.from_residual.result _ _ c.from_residual.ensures.1

pub returns-in_err-found-clause-allowed : goal.returns-in_err-found-clause-allowed
returns-in_err-found-clause-allowed g c = never_ok c.from_residual.result _ _ c.from_residual.ensures.1

pub returns-in_err-found-clause-intact : goal.returns-in_err-found-clause-intact
returns-in_err-found-clause-intact g c _ = never_ok c.from_residual.result _ _ c.from_residual.ensures.1

pub returns-in_err-redo-clause-space : goal.returns-in_err-redo-clause-space
returns-in_err-redo-clause-space g c _ _ _ = never_ok c.from_residual-in_err-redo.result _ _ c.from_residual-in_err-redo.ensures.1

pub returns-in_err-redo-clause-emptied : goal.returns-in_err-redo-clause-emptied
returns-in_err-redo-clause-emptied g c _ = never_ok c.from_residual-in_err-redo.result _ _ c.from_residual-in_err-redo.ensures.1

pub returns-in_err-redo-clause-settled : goal.returns-in_err-redo-clause-settled
returns-in_err-redo-clause-settled g c _ _ = never_ok c.from_residual-in_err-redo.result _ _ c.from_residual-in_err-redo.ensures.1

pub returns-in_err-redo-clause-found : goal.returns-in_err-redo-clause-found
returns-in_err-redo-clause-found g c _ _ _ = never_ok c.from_residual-in_err-redo.result _ _ c.from_residual-in_err-redo.ensures.1

pub returns-in_err-redo-clause-allowed : goal.returns-in_err-redo-clause-allowed
returns-in_err-redo-clause-allowed g c = never_ok c.from_residual-in_err-redo.result _ _ c.from_residual-in_err-redo.ensures.1

pub returns-in_err-redo-clause-intact : goal.returns-in_err-redo-clause-intact
returns-in_err-redo-clause-intact g c _ = never_ok c.from_residual-in_err-redo.result _ _ c.from_residual-in_err-redo.ensures.1
