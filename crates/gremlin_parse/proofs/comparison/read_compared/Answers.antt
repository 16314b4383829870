use Rattle.std.proofs.lemmas.Result.{err_from_is_err_and}
use Rattle.gremlin_parse.specs.Values.{value_of}
use Rattle.gremlin_parse.proofs.QueryReads.{stop_at_open, stop_in_compared, stop_at_inner, stop_at_outer, compared_read}
use Rattle.gremlin_parse.proofs.Exits.{never_ok}
use Rattle.gremlin_parse.proofs.comparison.read_compared.Goals as goal

pub returns-in_err-at_value-clause-err : goal.returns-in_err-at_value-clause-err
returns-in_err-at_value-clause-err c =
    let p = err_from_is_err_and c.from_residual.result c.from_residual.ensures.1 in
    rw (p.1, p.2) (λ into key. stop_at_open c.args.bytes.now c.in_err-at_value.field-0.0 c.in_err-at_value.ensures.err into key c.args.relation)

pub returns-in_err-written-clause-err : goal.returns-in_err-written-clause-err
returns-in_err-written-clause-err c =
    let p = err_from_is_err_and c.from_residual-in_err-written.result c.from_residual-in_err-written.ensures.1 in
    rw (p.1, p.2) (λ into key. stop_in_compared c.args.bytes.now c.in_ok-at_value.at_value.now c.in_err-written.field-0.0 c.in_ok-at_value.ensures.ok
    c.in_err-written.ensures.err into key c.args.relation)

pub returns-in_err-at_end-clause-err : goal.returns-in_err-at_end-clause-err
returns-in_err-at_end-clause-err c =
    let p = err_from_is_err_and c.from_residual-in_err-at_end.result c.from_residual-in_err-at_end.ensures.1 in
    rw (p.1, p.2) (λ into key. stop_at_inner c.args.bytes.now c.in_ok-at_value.at_value.now c.in_ok-written.after.now c.skip_blanks-at_close.result.now
    (value_of c.in_ok-written.written) c.in_err-at_end.field-0.0 c.in_ok-at_value.ensures.ok c.in_ok-written.ensures.ok c.skip_blanks-at_close.ensures
    c.in_err-at_end.ensures.err into key c.args.relation)

pub returns-in_err-rest-clause-err : goal.returns-in_err-rest-clause-err
returns-in_err-rest-clause-err c =
    let p = err_from_is_err_and c.from_residual-in_err-rest.result c.from_residual-in_err-rest.ensures.1 in
    rw (p.1, p.2) (λ into key. stop_at_outer c.args.bytes.now c.in_ok-at_value.at_value.now c.in_ok-written.after.now c.skip_blanks-at_close.result.now
    c.in_ok-at_end.at_end.now (value_of c.in_ok-written.written) c.in_err-rest.field-0.0 c.in_ok-at_value.ensures.ok c.in_ok-written.ensures.ok
    c.skip_blanks-at_close.ensures c.in_ok-at_end.ensures.ok c.in_err-rest.ensures.err into key c.args.relation)

pub returns-clause-ok : goal.returns-clause-ok
returns-clause-ok c = λ into key. compared_read c.args.bytes.now c.in_ok-at_value.at_value.now c.in_ok-written.after.now c.skip_blanks-at_close.result.now
    c.in_ok-at_end.at_end.now c.in_ok-rest.rest.now (value_of c.in_ok-written.written) c.in_ok-at_value.ensures.ok c.in_ok-written.ensures.ok
    c.skip_blanks-at_close.ensures c.in_ok-at_end.ensures.ok c.in_ok-rest.ensures.ok into key c.args.relation

pub returns-in_err-at_value-clause-ok : goal.returns-in_err-at_value-clause-ok
returns-in_err-at_value-clause-ok c = never_ok c.from_residual.result _ _ c.from_residual.ensures.1

pub returns-in_err-at_value-clause-within : goal.returns-in_err-at_value-clause-within
returns-in_err-at_value-clause-within c = never_ok c.from_residual.result _ _ c.from_residual.ensures.1

pub returns-in_err-written-clause-ok : goal.returns-in_err-written-clause-ok
returns-in_err-written-clause-ok c = never_ok c.from_residual-in_err-written.result _ _ c.from_residual-in_err-written.ensures.1

pub returns-in_err-written-clause-within : goal.returns-in_err-written-clause-within
returns-in_err-written-clause-within c = never_ok c.from_residual-in_err-written.result _ _ c.from_residual-in_err-written.ensures.1

pub returns-in_err-at_end-clause-ok : goal.returns-in_err-at_end-clause-ok
returns-in_err-at_end-clause-ok c = never_ok c.from_residual-in_err-at_end.result _ _ c.from_residual-in_err-at_end.ensures.1

pub returns-in_err-at_end-clause-within : goal.returns-in_err-at_end-clause-within
returns-in_err-at_end-clause-within c = never_ok c.from_residual-in_err-at_end.result _ _ c.from_residual-in_err-at_end.ensures.1

pub returns-in_err-rest-clause-ok : goal.returns-in_err-rest-clause-ok
returns-in_err-rest-clause-ok c = never_ok c.from_residual-in_err-rest.result _ _ c.from_residual-in_err-rest.ensures.1

pub returns-in_err-rest-clause-within : goal.returns-in_err-rest-clause-within
returns-in_err-rest-clause-within c = never_ok c.from_residual-in_err-rest.result _ _ c.from_residual-in_err-rest.ensures.1
