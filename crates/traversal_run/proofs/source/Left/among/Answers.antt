use Rattle.rec_bytes.proofs.Causes.{never_ok}
use Rattle.traversal_run.proofs.source.Left.among.Goals as goal

pub returns-in_err-ids-clause-among : goal.returns-in_err-ids-clause-among
returns-in_err-ids-clause-among c = never_ok c.from_residual.result _ _ c.from_residual.ensures.1

pub returns-in_err-ids-clause-over : goal.returns-in_err-ids-clause-over
returns-in_err-ids-clause-over c = never_ok c.from_residual.result _ _ c.from_residual.ensures.1

pub returns-in_err-ids-clause-few : goal.returns-in_err-ids-clause-few
returns-in_err-ids-clause-few c = never_ok c.from_residual.result _ _ c.from_residual.ensures.1

pub returns-clause-few : goal.returns-clause-few
returns-clause-few c = λ mark. c.in_ok-ids.ensures.few
