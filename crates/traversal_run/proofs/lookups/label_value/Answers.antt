use Rattle.std.proofs.Common.{arith}
use Rattle.traversal_run.proofs.Causes.{cause_passed, memory_cause}
use Rattle.rec_bytes.proofs.Causes.{never_ok}
use Rattle.traversal_run.proofs.lookups.label_value.Goals as goal

pub returns-in_err-label-clause-cause : goal.returns-in_err-label-clause-cause
returns-in_err-label-clause-cause g c =
    cause_passed _ _ _ c.from_residual.result c.in_err-label.field-0.0 (omega arith) c.in_err-label.ensures.cause c.from_residual.ensures.1

pub returns-in_err-bytes-clause-cause : goal.returns-in_err-bytes-clause-cause
returns-in_err-bytes-clause-cause g c =
    memory_cause _ _ c.from_residual-in_err-bytes.result c.in_ok-label.ensures.cause.later c.from_residual-in_err-bytes.ensures.1

pub returns-in_err-label-clause-found : goal.returns-in_err-label-clause-found
returns-in_err-label-clause-found g c _ _ = never_ok c.from_residual.result _ _ c.from_residual.ensures.1

pub returns-in_err-bytes-clause-found : goal.returns-in_err-bytes-clause-found
returns-in_err-bytes-clause-found g c _ _ = never_ok c.from_residual-in_err-bytes.result _ _ c.from_residual-in_err-bytes.ensures.1
