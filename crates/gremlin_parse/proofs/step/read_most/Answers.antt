use Rattle.std.proofs.lemmas.Result.{err_from_is_err_and}
use Rattle.gremlin_parse.proofs.QueryReads.{stop_in_most, stop_after_most, most_read}
use Rattle.gremlin_parse.proofs.Exits.{never_ok}
use Rattle.gremlin_parse.proofs.step.read_most.Goals as goal

pub returns-in_err-most-clause-err : goal.returns-in_err-most-clause-err
returns-in_err-most-clause-err c =
    let p = err_from_is_err_and c.from_residual.result c.from_residual.ensures.1 in
    rw (p.1, p.2) (stop_in_most c.args.bytes.now c.in_err-most.field-0.0 c.in_err-most.ensures.err)

pub returns-in_err-rest-clause-err : goal.returns-in_err-rest-clause-err
returns-in_err-rest-clause-err c =
    let p = err_from_is_err_and c.from_residual-in_err-rest.result c.from_residual-in_err-rest.ensures.1 in
    rw (p.1, p.2) (stop_after_most c.args.bytes.now c.in_ok-most.after_most.now c.skip_blanks-at_close.result.now c.in_ok-most.most c.in_err-rest.field-0.0
    c.in_ok-most.ensures.ok c.skip_blanks-at_close.ensures c.in_err-rest.ensures.err)

pub returns-clause-ok : goal.returns-clause-ok
returns-clause-ok c = most_read c.args.bytes.now c.in_ok-most.after_most.now c.skip_blanks-at_close.result.now c.in_ok-rest.rest.now c.in_ok-most.most
    c.in_ok-most.ensures.ok c.skip_blanks-at_close.ensures c.in_ok-rest.ensures.ok

pub returns-in_err-most-clause-ok : goal.returns-in_err-most-clause-ok
returns-in_err-most-clause-ok c = never_ok c.from_residual.result _ _ c.from_residual.ensures.1

pub returns-in_err-most-clause-within : goal.returns-in_err-most-clause-within
returns-in_err-most-clause-within c = never_ok c.from_residual.result _ _ c.from_residual.ensures.1

pub returns-in_err-rest-clause-ok : goal.returns-in_err-rest-clause-ok
returns-in_err-rest-clause-ok c = never_ok c.from_residual-in_err-rest.result _ _ c.from_residual-in_err-rest.ensures.1

pub returns-in_err-rest-clause-within : goal.returns-in_err-rest-clause-within
returns-in_err-rest-clause-within c = never_ok c.from_residual-in_err-rest.result _ _ c.from_residual-in_err-rest.ensures.1
