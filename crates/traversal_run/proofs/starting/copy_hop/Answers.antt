use Rattle.rec_bytes.proofs.Causes.{never_ok}
use Rattle.traversal_run.proofs.starting.copy_hop.Goals as goal

pub returns-in_err-labels : goal.returns-in_err-labels
returns-in_err-labels c = never_ok c.from_residual.result _ _ c.from_residual.ensures.1
