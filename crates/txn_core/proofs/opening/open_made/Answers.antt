use Rattle.std.proofs.Common.{◌∙◌, ap, refl, []}
use Rattle.rec_bytes.specs.Creation.{raised}
use Rattle.rec_bytes.specs.declared.shape.Shape.{Shape}
use Rattle.redo_log.proofs.Appends.{HasEntries-read}
use Rattle.record_file.specs.Records.{record_at}
use Rattle.txn_core.proofs.Finding.{made_kept, settled_read}
use Rattle.txn_core.proofs.Raising.{newest_reads, raised_crash, read_crash, space_read}
use Rattle.rec_bytes.proofs.Causes.{never_ok}
use Rattle.txn_core.proofs.opening.open_made.Goals as goal

pub returns-in_err-start-clause-crash : goal.returns-in_err-start-clause-crash
returns-in_err-start-clause-crash g c reads images log settled = read_crash g.D.Disk c.args.disk.now c.read_made.new.disk c.args.shape log settled
    c.read_made.ensures.only_reads images

pub returns-in_err-raise-clause-crash : goal.returns-in_err-raise-clause-crash
returns-in_err-raise-clause-crash g c reads images log settled =
    let start = c.in_ok-start.start in
    raised_crash g.D.Disk c.args.disk.now c.read_made.new.disk c.raise.new.disk start.metas.records c.args.shape start.shape log settled
    c.read_made.ensures.only_reads images (c.in_ok-start.ensures.metas reads) c.in_ok-start.ensures.shape
    (c.raise.ensures.crash reads images (made_kept g.D.Disk c.args.disk.now c.read_made.new.disk start.metas.records [] refl c.read_made.ensures.only_reads
    (λ _. log) (λ _ _. settled) c.in_ok-start.ensures.metas))

pub returns-clause-crash : goal.returns-clause-crash
returns-clause-crash g c reads images log settled =
    let start = c.in_ok-start.start in
    raised_crash g.D.Disk c.args.disk.now c.read_made.new.disk c.raise.new.disk start.metas.records c.args.shape start.shape log settled
    c.read_made.ensures.only_reads images (c.in_ok-start.ensures.metas reads) c.in_ok-start.ensures.shape
    (c.raise.ensures.crash reads images (made_kept g.D.Disk c.args.disk.now c.read_made.new.disk start.metas.records [] refl c.read_made.ensures.only_reads
    (λ _. log) (λ _ _. settled) c.in_ok-start.ensures.metas))

pub returns-clause-kept : goal.returns-clause-kept
returns-clause-kept g c log settled =
    c.in_ok-raise.ensures.kept (made_kept g.D.Disk c.args.disk.now c.read_made.new.disk c.in_ok-start.start.metas.records [] refl c.read_made.ensures.only_reads
    log settled c.in_ok-start.ensures.metas)

pub returns-clause-space : goal.returns-clause-space
returns-clause-space g c reads log settled =
    let start = c.in_ok-start.start in
    let first = g.D.Disk.reads c.args.disk.now in
    c.in_ok-raise.ensures.space reads (made_kept g.D.Disk c.args.disk.now c.read_made.new.disk start.metas.records [] refl c.read_made.ensures.only_reads
    (λ _. log) (λ _. settled) c.in_ok-start.ensures.metas)
    ∙ ap (raised start.shape) (space_read first (g.D.Disk.reads c.read_made.new.disk) start.metas.records c.read_made.ensures.only_reads.keeps
    (c.in_ok-start.ensures.metas reads))
    ∙ ap (λ (s : Shape). raised s (record_at first)) c.in_ok-start.ensures.shape

pub returns-clause-settled : goal.returns-clause-settled
returns-clause-settled g c reads images log settled =
    let first = c.args.disk.now in
    let mid = c.read_made.new.disk in
    c.in_ok-raise.ensures.settled reads images (HasEntries-read [] 0 (g.D.Disk.reads first) (g.D.Disk.reads mid) log (c.read_made.ensures.only_reads.keeps 7))
    (settled_read g.D.Disk first mid c.read_made.ensures.only_reads images settled)

pub returns-in_err-raise-clause-newest : goal.returns-in_err-raise-clause-newest
returns-in_err-raise-clause-newest g c reads newest =
    let first = c.args.disk.now in
    let mid = c.read_made.new.disk in
    let start = c.in_ok-start.start in
    newest_reads g.D.Disk first mid c.raise.new.disk start.metas.records c.read_made.ensures.only_reads (c.in_ok-start.ensures.metas reads) newest
    c.raise.ensures.newest

pub returns-clause-newest : goal.returns-clause-newest
returns-clause-newest g c reads newest =
    let first = c.args.disk.now in
    let mid = c.read_made.new.disk in
    let start = c.in_ok-start.start in
    newest_reads g.D.Disk first mid c.raise.new.disk start.metas.records c.read_made.ensures.only_reads (c.in_ok-start.ensures.metas reads) newest
    c.raise.ensures.newest

pub returns-in_err-start-clause-shape : goal.returns-in_err-start-clause-shape
returns-in_err-start-clause-shape g c = never_ok c.from_residual.result _ _ c.from_residual.ensures.1

pub returns-in_err-start-clause-suits : goal.returns-in_err-start-clause-suits
returns-in_err-start-clause-suits g c = never_ok c.from_residual.result _ _ c.from_residual.ensures.1

pub returns-in_err-start-clause-kept : goal.returns-in_err-start-clause-kept
returns-in_err-start-clause-kept g c _ _ = never_ok c.from_residual.result _ _ c.from_residual.ensures.1

pub returns-in_err-start-clause-space : goal.returns-in_err-start-clause-space
returns-in_err-start-clause-space g c _ _ _ = never_ok c.from_residual.result _ _ c.from_residual.ensures.1

pub returns-in_err-start-clause-log : goal.returns-in_err-start-clause-log
returns-in_err-start-clause-log g c _ _ = never_ok c.from_residual.result _ _ c.from_residual.ensures.1

pub returns-in_err-start-clause-settled : goal.returns-in_err-start-clause-settled
returns-in_err-start-clause-settled g c _ _ _ _ = never_ok c.from_residual.result _ _ c.from_residual.ensures.1

pub returns-in_err-raise-clause-shape : goal.returns-in_err-raise-clause-shape
returns-in_err-raise-clause-shape g c = never_ok c.from_residual-in_err-raise.result _ _ c.from_residual-in_err-raise.ensures.1

pub returns-in_err-raise-clause-suits : goal.returns-in_err-raise-clause-suits
returns-in_err-raise-clause-suits g c = never_ok c.from_residual-in_err-raise.result _ _ c.from_residual-in_err-raise.ensures.1

pub returns-in_err-raise-clause-kept : goal.returns-in_err-raise-clause-kept
returns-in_err-raise-clause-kept g c _ _ = never_ok c.from_residual-in_err-raise.result _ _ c.from_residual-in_err-raise.ensures.1

pub returns-in_err-raise-clause-space : goal.returns-in_err-raise-clause-space
returns-in_err-raise-clause-space g c _ _ _ = never_ok c.from_residual-in_err-raise.result _ _ c.from_residual-in_err-raise.ensures.1

pub returns-in_err-raise-clause-log : goal.returns-in_err-raise-clause-log
returns-in_err-raise-clause-log g c _ _ = never_ok c.from_residual-in_err-raise.result _ _ c.from_residual-in_err-raise.ensures.1

pub returns-in_err-raise-clause-settled : goal.returns-in_err-raise-clause-settled
returns-in_err-raise-clause-settled g c _ _ _ _ = never_ok c.from_residual-in_err-raise.result _ _ c.from_residual-in_err-raise.ensures.1
