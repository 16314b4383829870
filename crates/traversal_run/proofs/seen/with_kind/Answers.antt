use Rattle.rec_bytes.proofs.Causes.{never_ok}
use Rattle.traversal_run.proofs.seen.with_kind.Goals as goal

pub returns-in_err-push : goal.returns-in_err-push
returns-in_err-push c = never_ok c.from_residual.result _ _ c.from_residual.ensures.1

pub returns-in_err-extend_from_slice : goal.returns-in_err-extend_from_slice
returns-in_err-extend_from_slice c = never_ok c.from_residual-in_err-extend_from_slice.result _ _ c.from_residual-in_err-extend_from_slice.ensures.1
