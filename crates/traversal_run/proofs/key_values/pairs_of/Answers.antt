use Rattle.rec_bytes.proofs.Causes.{never_ok}
use Rattle.traversal_run.proofs.key_values.pairs_of.Goals as goal

pub returns-in_err-from_slice-clause-are : goal.returns-in_err-from_slice-clause-are
returns-in_err-from_slice-clause-are c = never_ok c.from_residual.result _ _ c.from_residual.ensures.1

pub returns-in_err-from_slice-clause-kept : goal.returns-in_err-from_slice-clause-kept
returns-in_err-from_slice-clause-kept c = never_ok c.from_residual.result _ _ c.from_residual.ensures.1

pub returns-in_err-push-clause-are : goal.returns-in_err-push-clause-are
returns-in_err-push-clause-are c = never_ok c.from_residual-in_err-push.result _ _ c.from_residual-in_err-push.ensures.1

pub returns-in_err-push-clause-kept : goal.returns-in_err-push-clause-kept
returns-in_err-push-clause-kept c = never_ok c.from_residual-in_err-push.result _ _ c.from_residual-in_err-push.ensures.1
