use Rattle.rec_bytes.proofs.Causes.{never_ok}
use Rattle.traversal_run.proofs.key_values.value_numbered.Goals as goal

pub returns-in_err-value-in-Some-clause-found : goal.returns-in_err-value-in-Some-clause-found
returns-in_err-value-in-Some-clause-found c = never_ok c.from_residual.result _ _ c.from_residual.ensures.1

pub returns-in_err-value-in-Some-clause-kept : goal.returns-in_err-value-in-Some-clause-kept
returns-in_err-value-in-Some-clause-kept c = never_ok c.from_residual.result _ _ c.from_residual.ensures.1
