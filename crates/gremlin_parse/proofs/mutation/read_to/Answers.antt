use Rattle.std.proofs.lemmas.Result.{err_from_is_err_and, IfOk-weaker, IfErr-weaker}
use Rattle.gremlin_parse.proofs.MutationReads.{to_read, stop_before_to, stop_in_to_word, stop_after_to_word, stop_in_vertex, stop_in_vertex_id}
use Rattle.gremlin_parse.proofs.Exits.{never_ok}
use Rattle.gremlin_parse.proofs.mutation.read_to.Goals as goal

pub returns-in_err-at_word-clause-err : goal.returns-in_err-at_word-clause-err
returns-in_err-at_word-clause-err c =
    let p = err_from_is_err_and c.from_residual.result c.from_residual.ensures.1 in
    rw (p.1, p.2) (stop_before_to c.args.bytes.now c.in_err-at_word.field-0.0 c.in_err-at_word.ensures.err)

pub returns-in_err-at_open-clause-err : goal.returns-in_err-at_open-clause-err
returns-in_err-at_open-clause-err c =
    let p = err_from_is_err_and c.from_residual-in_err-at_open.result c.from_residual-in_err-at_open.ensures.1 in
    rw (p.1, p.2) (stop_in_to_word c.args.bytes.now c.in_ok-at_word.at_word.now c.in_err-at_open.field-0.0 c.in_ok-at_word.ensures.ok
    c.in_err-at_open.ensures.err)

pub returns-in_err-at_vertex-clause-err : goal.returns-in_err-at_vertex-clause-err
returns-in_err-at_vertex-clause-err c =
    let p = err_from_is_err_and c.from_residual-in_err-at_vertex.result c.from_residual-in_err-at_vertex.ensures.1 in
    rw (p.1, p.2) (stop_after_to_word c.args.bytes.now c.in_ok-at_word.at_word.now c.in_ok-at_open.at_open.now c.in_err-at_vertex.field-0.0
    c.in_ok-at_word.ensures.ok c.in_ok-at_open.ensures.ok c.in_err-at_vertex.ensures.err)

pub returns-in_err-at_id-clause-err : goal.returns-in_err-at_id-clause-err
returns-in_err-at_id-clause-err c =
    let p = err_from_is_err_and c.from_residual-in_err-at_id.result c.from_residual-in_err-at_id.ensures.1 in
    rw (p.1, p.2) (stop_in_vertex c.args.bytes.now c.in_ok-at_word.at_word.now c.in_ok-at_open.at_open.now c.in_ok-at_vertex.at_vertex.now
    c.in_err-at_id.field-0.0 c.in_ok-at_word.ensures.ok c.in_ok-at_open.ensures.ok c.in_ok-at_vertex.ensures.ok c.in_err-at_id.ensures.err)

pub returns-clause-err : goal.returns-clause-err
returns-clause-err c =
    IfErr-weaker c.read_vertex_id.result _ _
    (λ stop at. stop_in_vertex_id c.args.bytes.now c.in_ok-at_word.at_word.now c.in_ok-at_open.at_open.now c.in_ok-at_vertex.at_vertex.now
    c.in_ok-at_id.at_id.now stop c.in_ok-at_word.ensures.ok c.in_ok-at_open.ensures.ok c.in_ok-at_vertex.ensures.ok c.in_ok-at_id.ensures.ok at)
    c.read_vertex_id.ensures.err

pub returns-clause-ok : goal.returns-clause-ok
returns-clause-ok c =
    IfOk-weaker c.read_vertex_id.result _ _
    (λ r reads. to_read c.args.bytes.now c.in_ok-at_word.at_word.now c.in_ok-at_open.at_open.now c.in_ok-at_vertex.at_vertex.now c.in_ok-at_id.at_id.now r.1.now
    r.0 c.in_ok-at_word.ensures.ok c.in_ok-at_open.ensures.ok c.in_ok-at_vertex.ensures.ok c.in_ok-at_id.ensures.ok reads)
    c.read_vertex_id.ensures.ok

pub returns-in_err-at_word-clause-ok : goal.returns-in_err-at_word-clause-ok
returns-in_err-at_word-clause-ok c = never_ok c.from_residual.result _ _ c.from_residual.ensures.1

pub returns-in_err-at_open-clause-ok : goal.returns-in_err-at_open-clause-ok
returns-in_err-at_open-clause-ok c = never_ok c.from_residual-in_err-at_open.result _ _ c.from_residual-in_err-at_open.ensures.1

pub returns-in_err-at_vertex-clause-ok : goal.returns-in_err-at_vertex-clause-ok
returns-in_err-at_vertex-clause-ok c = never_ok c.from_residual-in_err-at_vertex.result _ _ c.from_residual-in_err-at_vertex.ensures.1

pub returns-in_err-at_id-clause-ok : goal.returns-in_err-at_id-clause-ok
returns-in_err-at_id-clause-ok c = never_ok c.from_residual-in_err-at_id.result _ _ c.from_residual-in_err-at_id.ensures.1
