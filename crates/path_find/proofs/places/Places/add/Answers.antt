use Rattle.rec_bytes.proofs.Causes.{never_ok}
use Rattle.path_find.proofs.places.Places.add.Goals as goal

pub returns-in_err-is_new-clause-is_new : goal.returns-in_err-is_new-clause-is_new
returns-in_err-is_new-clause-is_new c = never_ok c.from_residual.result _ _ c.from_residual.ensures.1

pub returns-in_err-is_new-clause-added : goal.returns-in_err-is_new-clause-added
returns-in_err-is_new-clause-added c = never_ok c.from_residual.result _ _ c.from_residual.ensures.1
