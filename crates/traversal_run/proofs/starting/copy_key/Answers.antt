use Rattle.rec_bytes.proofs.Causes.{never_ok}
use Rattle.traversal_run.proofs.starting.copy_key.Goals as goal

pub returns-in_err-text-in-Some : goal.returns-in_err-text-in-Some
returns-in_err-text-in-Some c = never_ok c.from_residual.result _ _ c.from_residual.ensures.1
