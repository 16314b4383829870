use Rattle.rec_bytes.proofs.Causes.{never_ok}
use Rattle.txn_core.proofs.opening.read_made.Goals as goal

pub returns-in_err-read-clause-shape : goal.returns-in_err-read-clause-shape
returns-in_err-read-clause-shape g c = never_ok c.from_residual.result _ _ c.from_residual.ensures.1

pub returns-in_err-read-clause-tail : goal.returns-in_err-read-clause-tail
returns-in_err-read-clause-tail g c = never_ok c.from_residual.result _ _ c.from_residual.ensures.1

pub returns-in_err-read-clause-metas : goal.returns-in_err-read-clause-metas
returns-in_err-read-clause-metas g c _ = never_ok c.from_residual.result _ _ c.from_residual.ensures.1

pub returns-in_err-read-clause-suits : goal.returns-in_err-read-clause-suits
returns-in_err-read-clause-suits g c = never_ok c.from_residual.result _ _ c.from_residual.ensures.1
