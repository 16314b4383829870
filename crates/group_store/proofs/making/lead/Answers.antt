use Rattle.std.proofs.Common.{arith, rules}
use Rattle.group_store.proofs.Causes.{later_on, space_cause}
use Rattle.rec_bytes.proofs.Causes.{never_ok}
use Rattle.group_store.proofs.making.lead.Goals as goal

pub returns-in_err-put-clause-cause : goal.returns-in_err-put-clause-cause
returns-in_err-put-clause-cause g c =
    space_cause _ _ _ c.from_residual.result c.in_err-put.field-0.0 (omega arith) c.in_err-put.ensures.cause c.from_residual.ensures.1

pub returns-in_err-back-clause-cause : goal.returns-in_err-back-clause-cause
returns-in_err-back-clause-cause g c =
    space_cause _ _ _ c.from_residual-in_err-back.result c.in_err-back.field-0.0 c.in_ok-put.ensures.cause.later c.in_err-back.ensures.cause
    c.from_residual-in_err-back.ensures.1

pub returns-in_err-set_number-clause-cause : goal.returns-in_err-set_number-clause-cause
returns-in_err-set_number-clause-cause g c =
    space_cause _ _ _ c.from_residual-in_err-set_number.result c.in_err-set_number.field-0.0
    (later_on c.in_ok-put.ensures.cause.later c.in_ok-back.ensures.cause.later) c.in_err-set_number.ensures.cause
    c.from_residual-in_err-set_number.ensures.1

pub returns-in_err-put-clause-ok : goal.returns-in_err-put-clause-ok
returns-in_err-put-clause-ok g c _ = never_ok c.from_residual.result _ _ c.from_residual.ensures.1

pub returns-in_err-put-clause-onward : goal.returns-in_err-put-clause-onward
returns-in_err-put-clause-onward g c = search rules

pub returns-in_err-back-clause-ok : goal.returns-in_err-back-clause-ok
returns-in_err-back-clause-ok g c _ = never_ok c.from_residual-in_err-back.result _ _ c.from_residual-in_err-back.ensures.1

pub returns-in_err-set_number-clause-ok : goal.returns-in_err-set_number-clause-ok
returns-in_err-set_number-clause-ok g c _ = never_ok c.from_residual-in_err-set_number.result _ _ c.from_residual-in_err-set_number.ensures.1
