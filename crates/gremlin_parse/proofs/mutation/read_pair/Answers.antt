use Rattle.std.proofs.lemmas.Result.{err_from_is_err_and}
use Rattle.gremlin_parse.specs.Values.{value_of}
use Rattle.gremlin_parse.proofs.MutationReads.{pair_read, stop_in_pair_key, stop_after_pair_key, stop_in_pair_value, stop_after_pair_value}
use Rattle.gremlin_parse.proofs.Exits.{never_ok}
use Rattle.gremlin_parse.proofs.mutation.read_pair.Goals as goal

pub returns-in_err-key-clause-err : goal.returns-in_err-key-clause-err
returns-in_err-key-clause-err c =
    let p = err_from_is_err_and c.from_residual.result c.from_residual.ensures.1 in
    rw (p.1, p.2) (stop_in_pair_key c.args.bytes.now c.in_err-key.field-0.0 c.in_err-key.ensures.err)

pub returns-in_err-at_value-clause-err : goal.returns-in_err-at_value-clause-err
returns-in_err-at_value-clause-err c =
    let p = err_from_is_err_and c.from_residual-in_err-at_value.result c.from_residual-in_err-at_value.ensures.1 in
    rw (p.1, p.2) (stop_after_pair_key c.in_ok-key.key.now c.args.bytes.now c.in_ok-key.at_comma.now c.in_err-at_value.field-0.0 c.in_ok-key.ensures.ok
    c.in_err-at_value.ensures.err)

pub returns-in_err-value-clause-err : goal.returns-in_err-value-clause-err
returns-in_err-value-clause-err c =
    let p = err_from_is_err_and c.from_residual-in_err-value.result c.from_residual-in_err-value.ensures.1 in
    rw (p.1, p.2) (stop_in_pair_value c.in_ok-key.key.now c.args.bytes.now c.in_ok-key.at_comma.now c.in_ok-at_value.at_value.now c.in_err-value.field-0.0
    c.in_ok-key.ensures.ok c.in_ok-at_value.ensures.ok c.in_err-value.ensures.err)

pub returns-in_err-rest-clause-err : goal.returns-in_err-rest-clause-err
returns-in_err-rest-clause-err c =
    let p = err_from_is_err_and c.from_residual-in_err-rest.result c.from_residual-in_err-rest.ensures.1 in
    rw (p.1, p.2) (stop_after_pair_value c.in_ok-key.key.now c.args.bytes.now c.in_ok-key.at_comma.now c.in_ok-at_value.at_value.now
    c.in_ok-value.after_value.now c.skip_blanks-at_close.result.now (value_of c.in_ok-value.value) c.in_err-rest.field-0.0 c.in_ok-key.ensures.ok
    c.in_ok-at_value.ensures.ok c.in_ok-value.ensures.ok c.skip_blanks-at_close.ensures c.in_err-rest.ensures.err)

pub returns-clause-ok : goal.returns-clause-ok
returns-clause-ok c = pair_read c.in_ok-key.key.now c.args.bytes.now c.in_ok-key.at_comma.now c.in_ok-at_value.at_value.now c.in_ok-value.after_value.now
    c.skip_blanks-at_close.result.now c.in_ok-rest.rest.now (value_of c.in_ok-value.value) c.in_ok-key.ensures.ok c.in_ok-at_value.ensures.ok
    c.in_ok-value.ensures.ok c.skip_blanks-at_close.ensures c.in_ok-rest.ensures.ok

pub returns-in_err-key-clause-ok : goal.returns-in_err-key-clause-ok
returns-in_err-key-clause-ok c = never_ok c.from_residual.result _ _ c.from_residual.ensures.1

pub returns-in_err-key-clause-within : goal.returns-in_err-key-clause-within
returns-in_err-key-clause-within c = never_ok c.from_residual.result _ _ c.from_residual.ensures.1

pub returns-in_err-at_value-clause-ok : goal.returns-in_err-at_value-clause-ok
returns-in_err-at_value-clause-ok c = never_ok c.from_residual-in_err-at_value.result _ _ c.from_residual-in_err-at_value.ensures.1

pub returns-in_err-at_value-clause-within : goal.returns-in_err-at_value-clause-within
returns-in_err-at_value-clause-within c = never_ok c.from_residual-in_err-at_value.result _ _ c.from_residual-in_err-at_value.ensures.1

pub returns-in_err-value-clause-ok : goal.returns-in_err-value-clause-ok
returns-in_err-value-clause-ok c = never_ok c.from_residual-in_err-value.result _ _ c.from_residual-in_err-value.ensures.1

pub returns-in_err-value-clause-within : goal.returns-in_err-value-clause-within
returns-in_err-value-clause-within c = never_ok c.from_residual-in_err-value.result _ _ c.from_residual-in_err-value.ensures.1

pub returns-in_err-rest-clause-ok : goal.returns-in_err-rest-clause-ok
returns-in_err-rest-clause-ok c = never_ok c.from_residual-in_err-rest.result _ _ c.from_residual-in_err-rest.ensures.1

pub returns-in_err-rest-clause-within : goal.returns-in_err-rest-clause-within
returns-in_err-rest-clause-within c = never_ok c.from_residual-in_err-rest.result _ _ c.from_residual-in_err-rest.ensures.1
