use Rattle.rec_bytes.proofs.Causes.{never_ok}
use Rattle.path_find.proofs.tree.Tree.add.Goals as goal

pub returns-in_err-is_new : goal.returns-in_err-is_new
returns-in_err-is_new c = never_ok c.from_residual.result _ _ c.from_residual.ensures.1

pub returns-in_err-push : goal.returns-in_err-push
returns-in_err-push c = never_ok c.from_residual-in_err-push.result _ _ c.from_residual-in_err-push.ensures.1

pub returns-in_err-push-2 : goal.returns-in_err-push-2
returns-in_err-push-2 c = never_ok c.from_residual-in_err-push-2.result _ _ c.from_residual-in_err-push-2.ensures.1
