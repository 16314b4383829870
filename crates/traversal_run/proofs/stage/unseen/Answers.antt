use Rattle.rec_bytes.proofs.Causes.{never_ok}
use Rattle.traversal_run.proofs.stage.unseen.Goals as goal

pub returns-in_err-add : goal.returns-in_err-add
returns-in_err-add c = never_ok c.from_residual.result _ _ c.from_residual.ensures.1
