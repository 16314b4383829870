use Rattle.rec_bytes.proofs.Causes.{never_ok}
use Rattle.traversal_run.proofs.text_set.single_text.Goals as goal

pub returns-in_err-copy : goal.returns-in_err-copy
returns-in_err-copy c = never_ok c.from_residual.result _ _ c.from_residual.ensures.1

pub returns-in_err-push : goal.returns-in_err-push
returns-in_err-push c = never_ok c.from_residual-in_err-push.result _ _ c.from_residual-in_err-push.ensures.1
