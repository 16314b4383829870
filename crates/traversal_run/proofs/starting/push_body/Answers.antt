use Rattle.std.proofs.Common.{sym}
use Rattle.std.proofs.lemmas.List.{append-nil}
use Rattle.traversal_run.proofs.RowLists.{body_more}
use Rattle.rec_bytes.proofs.Causes.{never_ok}
use Rattle.traversal_run.proofs.starting.push_body.Goals as goal

pub loop-step-init : goal.loop-step-init
loop-step-init c = sym (append-nil c.args.rows.now.items)

pub loop-step-preserved : goal.loop-step-preserved
loop-step-preserved c =
    body_more c.args.rows.now.items c.loop-step.rows.items c.push_body_step.new.rows.items c.args.body.now c.loop-step.step-index c.step-item.result
    c.loop-step-test.true c.step-item.is c.loop-step.invariant c.in_ok-push_body_step.ensures

pub returns-in_err-push_body_step : goal.returns-in_err-push_body_step
returns-in_err-push_body_step c = never_ok c.from_residual.result _ _ c.from_residual.ensures.1
