use Rattle.std.proofs.lemmas.Result.{err_from_is_err_and}
use Rattle.gremlin_parse.proofs.OrderReads.{stop_after_sort, direction_read}
use Rattle.gremlin_parse.proofs.Exits.{never_ok}
use Rattle.gremlin_parse.proofs.order.read_direction.Goals as goal

pub returns-in_err-rest-clause-err : goal.returns-in_err-rest-clause-err
returns-in_err-rest-clause-err c =
    let p = err_from_is_err_and c.from_residual-in_err-rest.result c.from_residual-in_err-rest.ensures.1 in
    rw (p.1, p.2) (stop_after_sort c.args.bytes.now c.in_ok-descending.at_close.now c.in_ok-descending.descending c.in_err-rest.field-0.0
    c.in_ok-descending.ensures.ok c.in_err-rest.ensures.err)

pub returns-clause-ok : goal.returns-clause-ok
returns-clause-ok c = direction_read c.args.bytes.now c.in_ok-descending.at_close.now c.in_ok-rest.rest.now c.in_ok-descending.descending
    c.in_ok-descending.ensures.ok c.in_ok-rest.ensures.ok

pub returns-in_err-rest-clause-ok : goal.returns-in_err-rest-clause-ok
returns-in_err-rest-clause-ok c = never_ok c.from_residual-in_err-rest.result _ _ c.from_residual-in_err-rest.ensures.1

pub returns-in_err-rest-clause-within : goal.returns-in_err-rest-clause-within
returns-in_err-rest-clause-within c = never_ok c.from_residual-in_err-rest.result _ _ c.from_residual-in_err-rest.ensures.1

pub returns-in_err-descending-clause-ok : goal.returns-in_err-descending-clause-ok
returns-in_err-descending-clause-ok c = never_ok c.from_residual.result _ _ c.from_residual.ensures.1

pub returns-in_err-descending-clause-within : goal.returns-in_err-descending-clause-within
returns-in_err-descending-clause-within c = never_ok c.from_residual.result _ _ c.from_residual.ensures.1
