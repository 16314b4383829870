use Rattle.std.proofs.lemmas.Result.{err_from_is_err_and, IfOk-weaker, IfErr-weaker}
use Rattle.gremlin_parse.proofs.MutationReads.{stop_at_vertex, plain_vertex, anonymous_vertex, stop_at_second_of_to, stop_at_dot_of_to, stop_at_vertex_of_to}
use Rattle.gremlin_parse.proofs.Exits.{never_ok}
use Rattle.gremlin_parse.proofs.mutation.read_vertex.Goals as goal

pub returns-in_err-anonymous-clause-err : goal.returns-in_err-anonymous-clause-err
returns-in_err-anonymous-clause-err c =
    let p = err_from_is_err_and c.from_residual.result c.from_residual.ensures.1 in
    rw (p.1, p.2) (stop_at_vertex c.args.bytes.now c.in_err-anonymous.field-0.0 c.in_err-anonymous.ensures.err)

pub returns-then-not-anonymous-clause-ok : goal.returns-then-not-anonymous-clause-ok
returns-then-not-anonymous-clause-ok c = plain_vertex c.args.bytes.now c.in_ok-anonymous.after.now c.skip_blanks.result.now c.in_ok-anonymous.anonymous
    c.if-not-anonymous.true c.in_ok-anonymous.ensures.ok c.skip_blanks.ensures

pub returns-in_err-at_dot-clause-err : goal.returns-in_err-at_dot-clause-err
returns-in_err-at_dot-clause-err c =
    let p = err_from_is_err_and c.from_residual-in_err-at_dot.result c.from_residual-in_err-at_dot.ensures.1 in
    rw (p.1, p.2) (stop_at_second_of_to c.args.bytes.now c.in_ok-anonymous.after.now c.in_ok-anonymous.anonymous c.in_err-at_dot.field-0.0
    c.if-not-anonymous.false c.in_ok-anonymous.ensures.ok c.in_err-at_dot.ensures.err)

pub returns-in_err-at_vertex-clause-err : goal.returns-in_err-at_vertex-clause-err
returns-in_err-at_vertex-clause-err c =
    let p = err_from_is_err_and c.from_residual-in_err-at_vertex.result c.from_residual-in_err-at_vertex.ensures.1 in
    rw (p.1, p.2) (stop_at_dot_of_to c.args.bytes.now c.in_ok-anonymous.after.now c.in_ok-at_dot.at_dot.now c.in_ok-anonymous.anonymous
    c.in_err-at_vertex.field-0.0 c.if-not-anonymous.false c.in_ok-anonymous.ensures.ok c.in_ok-at_dot.ensures.ok c.in_err-at_vertex.ensures.err)

pub returns-clause-err : goal.returns-clause-err
returns-clause-err c =
    IfErr-weaker c.read_token-3.result _ _
    (λ stop at. stop_at_vertex_of_to c.args.bytes.now c.in_ok-anonymous.after.now c.in_ok-at_dot.at_dot.now c.in_ok-at_vertex.at_vertex.now
    c.in_ok-anonymous.anonymous stop c.if-not-anonymous.false c.in_ok-anonymous.ensures.ok c.in_ok-at_dot.ensures.ok c.in_ok-at_vertex.ensures.ok at)
    c.read_token-3.ensures.err

pub returns-clause-ok : goal.returns-clause-ok
returns-clause-ok c =
    IfOk-weaker c.read_token-3.result _ _
    (λ rest reads. anonymous_vertex c.args.bytes.now c.in_ok-anonymous.after.now c.in_ok-at_dot.at_dot.now c.in_ok-at_vertex.at_vertex.now rest.now
    c.in_ok-anonymous.anonymous c.if-not-anonymous.false c.in_ok-anonymous.ensures.ok c.in_ok-at_dot.ensures.ok c.in_ok-at_vertex.ensures.ok reads)
    c.read_token-3.ensures.ok

pub returns-in_err-anonymous-clause-ok : goal.returns-in_err-anonymous-clause-ok
returns-in_err-anonymous-clause-ok c = never_ok c.from_residual.result _ _ c.from_residual.ensures.1

pub returns-in_err-at_dot-clause-ok : goal.returns-in_err-at_dot-clause-ok
returns-in_err-at_dot-clause-ok c = never_ok c.from_residual-in_err-at_dot.result _ _ c.from_residual-in_err-at_dot.ensures.1

pub returns-in_err-at_vertex-clause-ok : goal.returns-in_err-at_vertex-clause-ok
returns-in_err-at_vertex-clause-ok c = never_ok c.from_residual-in_err-at_vertex.result _ _ c.from_residual-in_err-at_vertex.ensures.1
