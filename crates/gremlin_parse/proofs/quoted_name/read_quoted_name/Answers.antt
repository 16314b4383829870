use Rattle.std.proofs.lemmas.Result.{err_from_is_err_and}
use Rattle.gremlin_parse.proofs.QueryReads.{quoted_name_read, stop_in_name, quoted_within}
use Rattle.gremlin_parse.proofs.Exits.{never_ok}
use Rattle.gremlin_parse.proofs.quoted_name.read_quoted_name.Goals as goal

pub returns-in_err-double-clause-err : goal.returns-in_err-double-clause-err
returns-in_err-double-clause-err c =
    let p = err_from_is_err_and c.from_residual.result c.from_residual.ensures.1 in
    rw (p.1, p.2) (λ place quoted quotes. quotes.stops c.in_err-double.field-0.0 c.in_err-double.ensures.err)

pub returns-in_err-name-clause-err : goal.returns-in_err-name-clause-err
returns-in_err-name-clause-err c =
    let p = err_from_is_err_and c.from_residual-in_err-name.result c.from_residual-in_err-name.ensures.1 in
    rw (p.1, p.2) (stop_in_name c.args.bytes.now c.in_ok-double.at_name.now c.in_ok-double.double c.in_err-name.field-0.0 c.in_ok-double.ensures.ok
    c.in_err-name.ensures.err)

pub returns-clause-ok : goal.returns-clause-ok
returns-clause-ok c = quoted_name_read c.args.bytes.now c.in_ok-double.at_name.now c.in_ok-name.rest.now c.skip_blanks.result.now c.in_ok-name.name.now
    c.in_ok-double.double c.in_ok-double.ensures.ok c.in_ok-name.ensures.ok c.skip_blanks.ensures

pub returns-clause-within : goal.returns-clause-within
returns-clause-within c = quoted_within c.args.bytes.now c.in_ok-double.at_name.now c.in_ok-name.rest.now c.skip_blanks.result.now c.in_ok-name.name.now
    c.in_ok-double.double c.in_ok-double.ensures.ok c.in_ok-name.ensures.ok c.skip_blanks.ensures

pub returns-in_err-double-clause-ok : goal.returns-in_err-double-clause-ok
returns-in_err-double-clause-ok c = never_ok c.from_residual.result _ _ c.from_residual.ensures.1

pub returns-in_err-double-clause-within : goal.returns-in_err-double-clause-within
returns-in_err-double-clause-within c = never_ok c.from_residual.result _ _ c.from_residual.ensures.1

pub returns-in_err-name-clause-ok : goal.returns-in_err-name-clause-ok
returns-in_err-name-clause-ok c = never_ok c.from_residual-in_err-name.result _ _ c.from_residual-in_err-name.ensures.1

pub returns-in_err-name-clause-within : goal.returns-in_err-name-clause-within
returns-in_err-name-clause-within c = never_ok c.from_residual-in_err-name.result _ _ c.from_residual-in_err-name.ensures.1
