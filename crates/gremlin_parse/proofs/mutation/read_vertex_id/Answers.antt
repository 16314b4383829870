use Rattle.std.proofs.lemmas.Result.{err_from_is_err_and}
use Rattle.gremlin_parse.proofs.MutationReads.{vertex_id_read, stop_before_id, stop_in_id, stop_at_id_close, stop_at_to_close}
use Rattle.gremlin_parse.proofs.Exits.{never_ok}
use Rattle.gremlin_parse.proofs.mutation.read_vertex_id.Goals as goal

pub returns-in_err-at_id-clause-err : goal.returns-in_err-at_id-clause-err
returns-in_err-at_id-clause-err c =
    let p = err_from_is_err_and c.from_residual.result c.from_residual.ensures.1 in
    rw (p.1, p.2) (stop_before_id c.args.bytes.now c.in_err-at_id.field-0.0 c.in_err-at_id.ensures.err)

pub returns-in_err-to-clause-err : goal.returns-in_err-to-clause-err
returns-in_err-to-clause-err c =
    let p = err_from_is_err_and c.from_residual-in_err-to.result c.from_residual-in_err-to.ensures.1 in
    rw (p.1, p.2) (stop_in_id c.args.bytes.now c.in_ok-at_id.at_id.now c.in_err-to.field-0.0 c.in_ok-at_id.ensures.ok c.in_err-to.ensures.err)

pub returns-in_err-at_end-clause-err : goal.returns-in_err-at_end-clause-err
returns-in_err-at_end-clause-err c =
    let p = err_from_is_err_and c.from_residual-in_err-at_end.result c.from_residual-in_err-at_end.ensures.1 in
    rw (p.1, p.2) (stop_at_id_close c.args.bytes.now c.in_ok-at_id.at_id.now c.in_ok-to.at_close.now c.in_ok-to.to c.in_err-at_end.field-0.0
    c.in_ok-at_id.ensures.ok c.in_ok-to.ensures.ok c.in_err-at_end.ensures.err)

pub returns-in_err-rest-clause-err : goal.returns-in_err-rest-clause-err
returns-in_err-rest-clause-err c =
    let p = err_from_is_err_and c.from_residual-in_err-rest.result c.from_residual-in_err-rest.ensures.1 in
    rw (p.1, p.2) (stop_at_to_close c.args.bytes.now c.in_ok-at_id.at_id.now c.in_ok-to.at_close.now c.in_ok-at_end.at_end.now c.in_ok-to.to
    c.in_err-rest.field-0.0 c.in_ok-at_id.ensures.ok c.in_ok-to.ensures.ok c.in_ok-at_end.ensures.ok c.in_err-rest.ensures.err)

pub returns-clause-ok : goal.returns-clause-ok
returns-clause-ok c = vertex_id_read c.args.bytes.now c.in_ok-at_id.at_id.now c.in_ok-to.at_close.now c.in_ok-at_end.at_end.now c.in_ok-rest.rest.now
    c.in_ok-to.to c.in_ok-at_id.ensures.ok c.in_ok-to.ensures.ok c.in_ok-at_end.ensures.ok c.in_ok-rest.ensures.ok

pub returns-in_err-at_id-clause-ok : goal.returns-in_err-at_id-clause-ok
returns-in_err-at_id-clause-ok c = never_ok c.from_residual.result _ _ c.from_residual.ensures.1

pub returns-in_err-to-clause-ok : goal.returns-in_err-to-clause-ok
returns-in_err-to-clause-ok c = never_ok c.from_residual-in_err-to.result _ _ c.from_residual-in_err-to.ensures.1

pub returns-in_err-at_end-clause-ok : goal.returns-in_err-at_end-clause-ok
returns-in_err-at_end-clause-ok c = never_ok c.from_residual-in_err-at_end.result _ _ c.from_residual-in_err-at_end.ensures.1

pub returns-in_err-rest-clause-ok : goal.returns-in_err-rest-clause-ok
returns-in_err-rest-clause-ok c = never_ok c.from_residual-in_err-rest.result _ _ c.from_residual-in_err-rest.ensures.1
