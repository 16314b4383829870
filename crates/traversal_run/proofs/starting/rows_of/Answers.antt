use Rattle.traversal_run.proofs.RowLists.{rows_more}
use Rattle.rec_bytes.proofs.Causes.{never_ok}
use Rattle.traversal_run.proofs.starting.rows_of.Goals as goal

pub loop-step-init : goal.loop-step-init
loop-step-init c = c.new-rows.ensures.items

pub loop-step-preserved : goal.loop-step-preserved
loop-step-preserved c =
    rows_more c.loop-step.rows.items c.push_step.new.rows.items c.args.steps.now c.loop-step.step-index c.step-item.result c.loop-step-test.true c.step-item.is
    c.loop-step.invariant c.in_ok-push_step.ensures

pub returns-in_err-push_step : goal.returns-in_err-push_step
returns-in_err-push_step c = never_ok c.from_residual.result _ _ c.from_residual.ensures.1
