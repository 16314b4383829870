use Rattle.rec_bytes.proofs.Causes.{never_ok}
use Rattle.traversal_run.proofs.waiting.Waiting.push.Goals as goal

pub returns-in_err-push_back : goal.returns-in_err-push_back
returns-in_err-push_back c = never_ok c.from_residual.result _ _ c.from_residual.ensures.1
