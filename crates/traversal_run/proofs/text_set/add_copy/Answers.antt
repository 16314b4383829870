use Rattle.rec_bytes.proofs.Causes.{never_ok}
use Rattle.traversal_run.proofs.text_set.add_copy.Goals as goal

pub returns-in_err-bytes-clause-is_new : goal.returns-in_err-bytes-clause-is_new
returns-in_err-bytes-clause-is_new c = never_ok c.from_residual.result _ _ c.from_residual.ensures.1

pub returns-in_err-bytes-clause-added : goal.returns-in_err-bytes-clause-added
returns-in_err-bytes-clause-added c = never_ok c.from_residual.result _ _ c.from_residual.ensures.1
