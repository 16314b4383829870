use Rattle.std.proofs.lemmas.Result.{err_from_is_err_and}
use Rattle.traversal_run.proofs.Broken.{rel_blamed}
use Rattle.rec_bytes.proofs.Causes.{never_ok, ok_cause}
use Rattle.traversal_run.proofs.finding.is_in_use.Goals as goal

pub returns-in_err-row-clause-damaged : goal.returns-in_err-row-clause-damaged
returns-in_err-row-clause-damaged g c = λ tells.
    let s = g.R.Reads.state c.args.space.now in
    let p = err_from_is_err_and c.from_residual.result c.from_residual.ensures.1 in
    rw (p.1, p.2) (rel_blamed s c.args.id c.in_err-row.field-0.0 (c.in_err-row.ensures.damaged tells))

pub returns-in_err-row-clause-is : goal.returns-in_err-row-clause-is
returns-in_err-row-clause-is g c _ = never_ok c.from_residual.result _ _ c.from_residual.ensures.1

pub returns-in_err-row-2-clause-is : goal.returns-in_err-row-2-clause-is
returns-in_err-row-2-clause-is g c _ = never_ok c.from_residual-in_err-row-2.result _ _ c.from_residual-in_err-row-2.ensures.1

pub returns-in_ok-row-clause-cause : goal.returns-in_ok-row-clause-cause
returns-in_ok-row-clause-cause g c = ok_cause _ _ _ _ c.in_ok-row.ensures.cause.later

pub returns-in_ok-row-2-clause-cause : goal.returns-in_ok-row-2-clause-cause
returns-in_ok-row-2-clause-cause g c = ok_cause _ _ _ _ c.in_ok-row-2.ensures.cause.later
