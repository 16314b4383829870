use Rattle.std.proofs.Common.{arith}
use Rattle.traversal_run.proofs.Causes.{cause_passed}
use Rattle.rec_bytes.proofs.Causes.{never_ok, ok_cause}
use Rattle.traversal_run.proofs.finding.vertex_at.Goals as goal

pub returns-in_err-vertex_row-clause-cause : goal.returns-in_err-vertex_row-clause-cause
returns-in_err-vertex_row-clause-cause g c =
    cause_passed _ _ _ c.from_residual.result c.in_err-vertex_row.field-0.0 (omega arith) c.in_err-vertex_row.ensures.cause c.from_residual.ensures.1

pub returns-in_err-vertex_row-clause-is : goal.returns-in_err-vertex_row-clause-is
returns-in_err-vertex_row-clause-is g c _ = never_ok c.from_residual.result _ _ c.from_residual.ensures.1

pub returns-in_err-vertex_row-clause-vertex : goal.returns-in_err-vertex_row-clause-vertex
returns-in_err-vertex_row-clause-vertex g c = never_ok c.from_residual.result _ _ c.from_residual.ensures.1

pub returns-in-Some-clause-cause : goal.returns-in-Some-clause-cause
returns-in-Some-clause-cause g c = ok_cause _ _ _ _ c.in_ok-vertex_row.ensures.cause.later

pub returns-in-None-clause-cause : goal.returns-in-None-clause-cause
returns-in-None-clause-cause g c = ok_cause _ _ _ _ c.in_ok-vertex_row.ensures.cause.later
