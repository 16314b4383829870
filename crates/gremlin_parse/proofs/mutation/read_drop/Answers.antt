use Rattle.std.proofs.lemmas.Result.{err_from_is_err_and}
use Rattle.gremlin_parse.proofs.MutationReads.{stop_in_drop, stop_after_drop, drop_kept}
use Rattle.gremlin_parse.proofs.Exits.{never_ok}
use Rattle.gremlin_parse.proofs.mutation.read_drop.Goals as goal

pub returns-in_err-rest-clause-err : goal.returns-in_err-rest-clause-err
returns-in_err-rest-clause-err c =
    let p = err_from_is_err_and c.from_residual.result c.from_residual.ensures.1 in
    rw (p.1, p.2) (stop_in_drop c.args.bytes.now c.in_err-rest.field-0.0 c.in_err-rest.ensures.err)

pub returns-in_err-read_end-clause-err : goal.returns-in_err-read_end-clause-err
returns-in_err-read_end-clause-err c =
    let p = err_from_is_err_and c.from_residual-in_err-read_end.result c.from_residual-in_err-read_end.ensures.1 in
    rw (p.1, p.2) (stop_after_drop c.args.bytes.now c.in_ok-rest.rest.now c.in_err-read_end.field-0.0 c.in_ok-rest.ensures.ok c.in_err-read_end.ensures.err)

pub returns-clause-ok : goal.returns-clause-ok
returns-clause-ok c = drop_kept c.args.bytes.now c.in_ok-rest.rest.now c.in_ok-rest.ensures.ok c.in_ok-read_end.ensures.ok

pub returns-in_err-rest-clause-ok : goal.returns-in_err-rest-clause-ok
returns-in_err-rest-clause-ok c = never_ok c.from_residual.result _ _ c.from_residual.ensures.1

pub returns-in_err-read_end-clause-ok : goal.returns-in_err-read_end-clause-ok
returns-in_err-read_end-clause-ok c = never_ok c.from_residual-in_err-read_end.result _ _ c.from_residual-in_err-read_end.ensures.1
