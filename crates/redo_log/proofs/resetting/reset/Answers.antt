use Rattle.disk_model.proofs.Spans.{at_each_moment_no_more}
use Rattle.redo_log.specs.Resetting.{IsReset}
use Rattle.rec_bytes.proofs.Causes.{never_ok}
use Rattle.redo_log.proofs.resetting.reset.Goals as goal

pub returns-clause-crash : goal.returns-clause-crash
returns-clause-crash g c reads images entries tail all =
    at_each_moment_no_more g.D.Disk c.args.disk.now c.close_first_gate.new.disk c.sync.new.self (IsReset (g.D.Disk.may_leave c.args.disk.now) entries tail)
    g.met.D.Disk.counts_now images
    (c.close_first_gate.ensures.crash reads images entries tail all) (c.sync.ensures.time images) (c.sync.ensures.crash images)

pub returns-in_err-close_first_gate-clause-durable : goal.returns-in_err-close_first_gate-clause-durable
returns-in_err-close_first_gate-clause-durable g c _ _ = never_ok c.from_residual.result _ _ c.from_residual.ensures.1

pub returns-in_err-close_first_gate-clause-settled : goal.returns-in_err-close_first_gate-clause-settled
returns-in_err-close_first_gate-clause-settled g c _ _ = never_ok c.from_residual.result _ _ c.from_residual.ensures.1

pub returns-in_err-close_first_gate-clause-emptied : goal.returns-in_err-close_first_gate-clause-emptied
returns-in_err-close_first_gate-clause-emptied g c _ = never_ok c.from_residual.result _ _ c.from_residual.ensures.1
