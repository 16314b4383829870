use Rattle.std.proofs.Common.{sym, subst}
use Rattle.std.proofs.lemmas.Result.{err_from_is_err_and}
use Rattle.gremlin_parse.specs.Queries.{ValueOf, StopsFrom}
use Rattle.gremlin_parse.specs.Values.{value_of}
use Rattle.gremlin_parse.specs.declared.stop.Stop.{Stop}
use Rattle.gremlin_parse.proofs.QueryReads.{stop_after_plain, plain_read, stop_at_argument}
use Rattle.gremlin_parse.proofs.Exits.{never_ok}
use Rattle.gremlin_parse.proofs.comparison.read_plain.Goals as goal

pub returns-in_err-rest-in-Ok-clause-err : goal.returns-in_err-rest-in-Ok-clause-err
returns-in_err-rest-in-Ok-clause-err c =
    let p = err_from_is_err_and c.from_residual.result c.from_residual.ensures.1 in
    rw (p.1, p.2) (stop_after_plain c.args.bytes.now c.in-Ok.after.now c.skip_blanks-at_close.result.now (value_of c.in-Ok.written)
    c.in_err-rest-in-Ok.field-0.0 c.in-Ok.ensures.ok c.skip_blanks-at_close.ensures c.in_err-rest-in-Ok.ensures.err)

pub returns-in_ok-rest-in-Ok-clause-ok : goal.returns-in_ok-rest-in-Ok-clause-ok
returns-in_ok-rest-in-Ok-clause-ok c = plain_read c.args.bytes.now c.in-Ok.after.now c.skip_blanks-at_close.result.now c.in_ok-rest-in-Ok.rest.now
    (value_of c.in-Ok.written) c.in-Ok.ensures.ok c.skip_blanks-at_close.ensures c.in_ok-rest-in-Ok.ensures.ok

pub returns-in-Err-clause-err : goal.returns-in-Err-clause-err
returns-in-Err-clause-err c = λ into key.
    subst (λ (stop : Stop). StopsFrom (ValueOf into key) c.args.bytes.now stop) (sym c.later.ensures)
    (stop_at_argument c.args.bytes.now c.args.no_relation c.in-Err.no_value c.requires.no_p c.requires.no_relation c.in-Err.ensures.err into key)

pub returns-in_err-rest-in-Ok-clause-ok : goal.returns-in_err-rest-in-Ok-clause-ok
returns-in_err-rest-in-Ok-clause-ok c = never_ok c.from_residual.result _ _ c.from_residual.ensures.1

pub returns-in_err-rest-in-Ok-clause-within : goal.returns-in_err-rest-in-Ok-clause-within
returns-in_err-rest-in-Ok-clause-within c = never_ok c.from_residual.result _ _ c.from_residual.ensures.1
