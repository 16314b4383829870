use Rattle.std.proofs.Common.{arith}
use Rattle.traversal_run.proofs.Causes.{cause_passed}
use Rattle.rec_bytes.proofs.Causes.{never_ok}
use Rattle.traversal_run.proofs.mapping.filtered.Goals as goal

pub returns-in_err-passes-clause-cause : goal.returns-in_err-passes-clause-cause
returns-in_err-passes-clause-cause g c =
    cause_passed _ _ _ c.from_residual.result c.in_err-passes.field-0.0 (omega arith) c.in_err-passes.ensures.cause c.from_residual.ensures.1

pub returns-in_err-passes-clause-found : goal.returns-in_err-passes-clause-found
returns-in_err-passes-clause-found g c _ _ = never_ok c.from_residual.result _ _ c.from_residual.ensures.1
