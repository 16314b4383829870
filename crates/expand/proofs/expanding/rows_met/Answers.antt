use Rattle.std.proofs.Common.{arith, rules}
use Rattle.expand.specs.Expanding.{rows_of}
use Rattle.rec_bytes.proofs.Causes.{never_ok, ok_cause}
use Rattle.chain_edit.proofs.Causes.{same_has}
use Rattle.expand.proofs.Causes.{expand_memory_cause, same_cause_passed}
use Rattle.expand.proofs.expanding.rows_met.Goals as goal

pub returns-clause-rows : goal.returns-clause-rows
returns-clause-rows g c = λ tells store.
    c.in_ok-found.ensures (rows_of (g.R.Reads.state c.args.space.now).records) (c.in_ok-rows.ensures.part tells store)

pub returns-in_err-rows-clause-rows : goal.returns-in_err-rows-clause-rows
returns-in_err-rows-clause-rows g c _ = never_ok c.from_residual.result _ _ c.from_residual.ensures.1

pub returns-in_err-rows-clause-onward : goal.returns-in_err-rows-clause-onward
returns-in_err-rows-clause-onward g c = search rules

pub returns-in_err-found-clause-rows : goal.returns-in_err-found-clause-rows
returns-in_err-found-clause-rows g c _ = never_ok c.from_residual-in_err-found.result _ _ c.from_residual-in_err-found.ensures.1

pub returns-clause-cause : goal.returns-clause-cause
returns-clause-cause g c = ok_cause _ _ _ _ (omega arith)

pub returns-in_err-rows-clause-cause : goal.returns-in_err-rows-clause-cause
returns-in_err-rows-clause-cause g c =
    same_cause_passed _ _ _ c.from_residual.result c.in_err-rows.field-0.0 (omega arith) c.in_err-rows.ensures.cause c.from_residual.ensures.1

pub returns-in_err-found-clause-cause : goal.returns-in_err-found-clause-cause
returns-in_err-found-clause-cause g c =
    expand_memory_cause _ _ c.from_residual-in_err-found.result c.in_ok-rows.ensures.cause.later c.from_residual-in_err-found.ensures.1

pub returns-in_err-rows-clause-damaged : goal.returns-in_err-rows-clause-damaged
returns-in_err-rows-clause-damaged g c tells = same_has _ c.from_residual.result _ c.from_residual.ensures.1 (c.in_err-rows.ensures.damaged tells)

pub returns-in_err-found-clause-damaged : goal.returns-in_err-found-clause-damaged
returns-in_err-found-clause-damaged g c _ = same_has _ c.from_residual-in_err-found.result _ c.from_residual-in_err-found.ensures.1 tt

pub returns-in_err-rows-clause-at_most : goal.returns-in_err-rows-clause-at_most
returns-in_err-rows-clause-at_most g c = c.in_err-rows.ensures.at_most

pub returns-in_err-found-clause-at_most : goal.returns-in_err-found-clause-at_most
returns-in_err-found-clause-at_most g c = c.in_ok-rows.ensures.at_most

pub returns-in_err-found-clause-onward : goal.returns-in_err-found-clause-onward
returns-in_err-found-clause-onward g c = c.in_ok-rows.ensures.onward
