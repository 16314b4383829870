use Rattle.std.proofs.Common.{arith, subst, Result, Ok, Err, IfOk, IfErr}
use Rattle.std.specs.Prelude.{OnOk}
use Rattle.disk_model.specs.Contents.{Files}
use Rattle.rec_bytes.specs.declared.key.Key.{Key}
use Rattle.rec_bytes.specs.declared.record.Rec.{Rec}
use Rattle.redo_log.specs.Redo.{redone}
use Rattle.record_file.specs.Records.{record_at}
use Rattle.record_file.specs.Unique.{Redoes-unique}
use Rattle.recovery.specs.Finding.{IsFound, RefusesRecords, Refuses}
use Rattle.recovery.specs.LoggedMetas.{HasMetas}
use Rattle.recovery.specs.declared.recover_fault.RecoverFault.{RecoverFault}
use Rattle.recovery.proofs.Metas.{same_content}
use Rattle.recovery.proofs.StoreForms.{Redoes-metas, Refuses-records}
use Rattle.rec_bytes.proofs.Causes.{never_ok}
use Rattle.disk_model.proofs.Spans.{only_reads_on}
use Rattle.recovery.proofs.Causes.{disk_cause, fault_cause}
use Rattle.recovery.proofs.finding.find_store.Goals as goal

on_ok_always : {T E P : Type 0} (result : Result T E) → P → OnOk result P
on_ok_always (Ok x) p = p
on_ok_always (Err e) p = tt

if_err_weaker : {T : Type 0} (result : Result T RecoverFault) (P Q : RecoverFault → Type 0) → ((fault : RecoverFault) → P fault → Q fault) → IfErr result P
    → IfErr result Q
if_err_weaker (Ok x) P Q weaker is = tt
if_err_weaker (Err e) P Q weaker is = weaker e is

pub returns-clause-found : goal.returns-clause-found
returns-clause-found g c reads space redoes =
    let first = g.D.Disk.reads c.args.disk.now in
    let synced = g.D.Disk.reads c.sync_files.new.disk in
    let has : HasMetas first c.in_ok-logged.logged = subst (λ (content : Files). HasMetas content c.in_ok-logged.logged)
    (same_content first synced c.sync_files.ensures.only_reads.keeps) (c.in_ok-logged.ensures.found reads) in
    subst (λ (s : Key → Rec). IfOk c.found_of.result (IsFound first s))
    (Redoes-unique first (redone (record_at first) has.entries) space (Redoes-metas first c.in_ok-logged.logged has) redoes)
    (c.found_of.ensures.found first has)

pub returns-clause-intact : goal.returns-clause-intact
returns-clause-intact g c reads =
    let first = g.D.Disk.reads c.args.disk.now in
    let synced = g.D.Disk.reads c.sync_files.new.disk in
    let has : HasMetas first c.in_ok-logged.logged = subst (λ (content : Files). HasMetas content c.in_ok-logged.logged)
    (same_content first synced c.sync_files.ensures.only_reads.keeps) (c.in_ok-logged.ensures.found reads) in
    on_ok_always c.found_of.result (redone (record_at first) has.entries, Redoes-metas first c.in_ok-logged.logged has)

pub returns-clause-refused : goal.returns-clause-refused
returns-clause-refused g c reads =
    let first = g.D.Disk.reads c.args.disk.now in
    let synced = g.D.Disk.reads c.sync_files.new.disk in
    let has : HasMetas first c.in_ok-logged.logged = subst (λ (content : Files). HasMetas content c.in_ok-logged.logged)
    (same_content first synced c.sync_files.ensures.only_reads.keeps) (c.in_ok-logged.ensures.found reads) in
    let space = redone (record_at first) has.entries in
    if_err_weaker c.found_of.result (RefusesRecords first space) (Refuses first)
    (λ fault. Refuses-records first space fault (Redoes-metas first c.in_ok-logged.logged has)) (c.found_of.ensures.refused first has)

pub returns-in_err-sync_files-clause-found : goal.returns-in_err-sync_files-clause-found
returns-in_err-sync_files-clause-found g c _ _ _ = never_ok c.from_residual.result _ _ c.from_residual.ensures.1

pub returns-in_err-sync_files-clause-allowed : goal.returns-in_err-sync_files-clause-allowed
returns-in_err-sync_files-clause-allowed g c = never_ok c.from_residual.result _ _ c.from_residual.ensures.1

pub returns-in_err-sync_files-clause-intact : goal.returns-in_err-sync_files-clause-intact
returns-in_err-sync_files-clause-intact g c _ = never_ok c.from_residual.result _ _ c.from_residual.ensures.1

pub returns-in_err-sync_files-clause-settled : goal.returns-in_err-sync_files-clause-settled
returns-in_err-sync_files-clause-settled g c _ _ = never_ok c.from_residual.result _ _ c.from_residual.ensures.1

pub returns-in_err-logged-clause-found : goal.returns-in_err-logged-clause-found
returns-in_err-logged-clause-found g c _ _ _ = never_ok c.from_residual-in_err-logged.result _ _ c.from_residual-in_err-logged.ensures.1

pub returns-in_err-logged-clause-allowed : goal.returns-in_err-logged-clause-allowed
returns-in_err-logged-clause-allowed g c = never_ok c.from_residual-in_err-logged.result _ _ c.from_residual-in_err-logged.ensures.1

pub returns-in_err-logged-clause-intact : goal.returns-in_err-logged-clause-intact
returns-in_err-logged-clause-intact g c _ = never_ok c.from_residual-in_err-logged.result _ _ c.from_residual-in_err-logged.ensures.1

pub returns-in_err-logged-clause-settled : goal.returns-in_err-logged-clause-settled
returns-in_err-logged-clause-settled g c _ _ = never_ok c.from_residual-in_err-logged.result _ _ c.from_residual-in_err-logged.ensures.1

pub returns-in_err-sync_files-clause-only_reads : goal.returns-in_err-sync_files-clause-only_reads
returns-in_err-sync_files-clause-only_reads g c = c.sync_files.ensures.only_reads

pub returns-in_err-sync_files-clause-cause : goal.returns-in_err-sync_files-clause-cause
returns-in_err-sync_files-clause-cause g c =
    disk_cause _ _ _ c.from_residual.result c.in_err-sync_files.field-0.0 (omega arith) c.in_err-sync_files.ensures.cause

pub returns-in_err-logged-clause-only_reads : goal.returns-in_err-logged-clause-only_reads
returns-in_err-logged-clause-only_reads g c =
    only_reads_on g.D.Disk c.args.disk.now c.sync_files.new.disk c.find_metas.new.disk c.sync_files.ensures.only_reads c.find_metas.ensures.only_reads

pub returns-in_err-logged-clause-cause : goal.returns-in_err-logged-clause-cause
returns-in_err-logged-clause-cause g c =
    fault_cause _ _ _ c.from_residual-in_err-logged.result c.in_err-logged.field-0.0 c.in_ok-sync_files.ensures.cause.later c.in_err-logged.ensures.cause
    c.from_residual-in_err-logged.ensures.1

pub returns-clause-allowed : goal.returns-clause-allowed
returns-clause-allowed g c = c.found_of.ensures.allowed

pub returns-clause-only_reads : goal.returns-clause-only_reads
returns-clause-only_reads g c =
    only_reads_on g.D.Disk c.args.disk.now c.sync_files.new.disk c.find_metas.new.disk c.sync_files.ensures.only_reads c.find_metas.ensures.only_reads

pub returns-clause-cause : goal.returns-clause-cause
returns-clause-cause g c =
    let before = c.in_ok-sync_files.ensures.cause.later in
    let later = c.in_ok-logged.ensures.cause.later in
    record { later = omega (arith, before, later); disk = λ blamed. absurd (c.found_of.ensures.no_fault blamed) }
