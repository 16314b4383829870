use Rattle.rec_bytes.proofs.Causes.{never_ok}
use Rattle.traversal_run.proofs.starting.push_fresh.Goals as goal

pub returns-in_err-push : goal.returns-in_err-push
returns-in_err-push c = never_ok c.from_residual.result _ _ c.from_residual.ensures.1
