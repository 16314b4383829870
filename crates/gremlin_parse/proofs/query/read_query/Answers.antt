use Rattle.std.proofs.lemmas.Result.{err_from_is_err_and, IfOk-weaker, IfErr-weaker}
use Rattle.gremlin_parse.proofs.QueryReads.{query_is_kept, query_stops}
use Rattle.gremlin_parse.proofs.Exits.{never_ok}
use Rattle.gremlin_parse.proofs.query.read_query.Goals as goal

pub returns-in_err-kind-clause-err : goal.returns-in_err-kind-clause-err
returns-in_err-kind-clause-err c =
    let p = err_from_is_err_and c.from_residual.result c.from_residual.ensures.1 in
    rw (p.1, p.2) (query_stops c.args.bytes.now c.skip_blanks-at_source.result.now c.in_err-kind.field-0.0 c.skip_blanks-at_source.ensures
    c.in_err-kind.ensures.err)

pub returns-clause-err : goal.returns-clause-err
returns-clause-err c = IfErr-weaker c.read_from.result _ _ (λ stop at. query_stops c.args.bytes.now c.skip_blanks-at_source.result.now stop
    c.skip_blanks-at_source.ensures (c.in_ok-kind.ensures.ok.stops stop at)) c.read_from.ensures.err

pub returns-clause-ok : goal.returns-clause-ok
returns-clause-ok c = IfOk-weaker c.read_from.result _ _ (λ command kept. query_is_kept c.in_ok-kind.kind c.args.bytes.now c.skip_blanks-at_source.result.now
    c.in_ok-kind.rest.now command c.skip_blanks-at_source.ensures c.in_ok-kind.ensures.ok kept) c.read_from.ensures.ok

pub returns-in_err-kind-clause-ok : goal.returns-in_err-kind-clause-ok
returns-in_err-kind-clause-ok c = never_ok c.from_residual.result _ _ c.from_residual.ensures.1
