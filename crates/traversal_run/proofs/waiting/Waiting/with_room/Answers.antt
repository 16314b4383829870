use Rattle.rec_bytes.proofs.Causes.{never_ok}
use Rattle.traversal_run.proofs.waiting.Waiting.with_room.Goals as goal

pub returns-in_err-later : goal.returns-in_err-later
returns-in_err-later c = never_ok c.from_residual.result _ _ c.from_residual.ensures.1
