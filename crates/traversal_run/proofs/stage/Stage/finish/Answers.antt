use Rattle.rec_bytes.proofs.Causes.{never_ok}
use Rattle.traversal_run.proofs.stage.Stage.finish.Goals as goal

pub returns-in_err-outs-in-Order-clause-finishes : goal.returns-in_err-outs-in-Order-clause-finishes
returns-in_err-outs-in-Order-clause-finishes c = never_ok c.from_residual.result _ _ c.from_residual.ensures.1

pub returns-in_err-outs-in-Order-clause-limits : goal.returns-in_err-outs-in-Order-clause-limits
returns-in_err-outs-in-Order-clause-limits c = never_ok c.from_residual.result _ _ c.from_residual.ensures.1
