use Rattle.std.proofs.Common.{arith, rules}
use Rattle.record_lists.proofs.Causes.{cause_passed}
use Rattle.rec_bytes.proofs.Causes.{never_ok, ok_cause}
use Rattle.record_lists.proofs.OnlyReads.{is_read-on}
use Rattle.chain_check.proofs.counts.are_as_long.Goals as goal

pub returns-in_err-out-clause-cause : goal.returns-in_err-out-clause-cause
returns-in_err-out-clause-cause g c =
    cause_passed _ _ _ c.from_residual.result c.in_err-out.field-0.0 (omega arith) c.in_err-out.ensures.cause c.from_residual.ensures.1

pub returns-in_err-into-clause-cause : goal.returns-in_err-into-clause-cause
returns-in_err-into-clause-cause g c =
    cause_passed _ _ _ c.from_residual-in_err-into.result c.in_err-into.field-0.0 c.in_ok-out.ensures.cause.later c.in_err-into.ensures.cause
    c.from_residual-in_err-into.ensures.1

pub returns-in_err-loops-clause-cause : goal.returns-in_err-loops-clause-cause
returns-in_err-loops-clause-cause g c =
    let later = c.in_ok-out.ensures.cause.later in
    let later1 = c.in_ok-into.ensures.cause.later in
    cause_passed _ _ _ c.from_residual-in_err-loops.result c.in_err-loops.field-0.0 (omega (arith, later, later1)) c.in_err-loops.ensures.cause
    c.from_residual-in_err-loops.ensures.1

pub returns-then-into-clause-told : goal.returns-then-into-clause-told
returns-then-into-clause-told g c = search rules

pub returns-in_err-into-clause-read : goal.returns-in_err-into-clause-read
returns-in_err-into-clause-read g c =
    is_read-on g.R.Reads g.met.R.Reads.further_onward _ _ _ c.in_ok-out.ensures.read c.in_err-into.ensures.read

pub returns-in_err-loops-clause-read : goal.returns-in_err-loops-clause-read
returns-in_err-loops-clause-read g c =
    is_read-on g.R.Reads g.met.R.Reads.further_onward _ _ _ (is_read-on g.R.Reads g.met.R.Reads.further_onward _ _ _ c.in_ok-out.ensures.read
    c.in_ok-into.ensures.read) c.in_err-loops.ensures.read

pub returns-then-into-clause-read : goal.returns-then-into-clause-read
returns-then-into-clause-read g c =
    is_read-on g.R.Reads g.met.R.Reads.further_onward _ _ _ (is_read-on g.R.Reads g.met.R.Reads.further_onward _ _ _ c.in_ok-out.ensures.read
    c.in_ok-into.ensures.read) c.in_ok-loops.ensures.read

pub returns-else-into-clause-read : goal.returns-else-into-clause-read
returns-else-into-clause-read g c =
    is_read-on g.R.Reads g.met.R.Reads.further_onward _ _ _ (is_read-on g.R.Reads g.met.R.Reads.further_onward _ _ _ c.in_ok-out.ensures.read
    c.in_ok-into.ensures.read) c.in_ok-loops.ensures.read

pub returns-in_err-out-clause-told : goal.returns-in_err-out-clause-told
returns-in_err-out-clause-told g c _ = never_ok c.from_residual.result _ _ c.from_residual.ensures.1

pub returns-in_err-out-clause-read : goal.returns-in_err-out-clause-read
returns-in_err-out-clause-read g c =
    c.in_err-out.ensures.read

pub returns-in_err-into-clause-told : goal.returns-in_err-into-clause-told
returns-in_err-into-clause-told g c _ = never_ok c.from_residual-in_err-into.result _ _ c.from_residual-in_err-into.ensures.1

pub returns-in_err-loops-clause-told : goal.returns-in_err-loops-clause-told
returns-in_err-loops-clause-told g c _ = never_ok c.from_residual-in_err-loops.result _ _ c.from_residual-in_err-loops.ensures.1

pub returns-else-into-clause-cause : goal.returns-else-into-clause-cause
returns-else-into-clause-cause g c = ok_cause _ _ _ _ (returns-else-into-clause-read g c).later

pub returns-then-into-clause-cause : goal.returns-then-into-clause-cause
returns-then-into-clause-cause g c = ok_cause _ _ _ _ (returns-then-into-clause-read g c).later
