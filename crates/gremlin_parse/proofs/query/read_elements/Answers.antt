use Rattle.std.proofs.Common.{subst}
use Rattle.std.proofs.lemmas.Result.{err_from_is_err_and, IfOk-weaker, IfErr-weaker}
use Rattle.plain_graph.specs.declared.query.Source.{Source}
use Rattle.gremlin_parse.specs.Queries.{Steps, StopsFrom, is_loose, query_from, turn}
use Rattle.gremlin_parse.specs.Turns.{KeptFrom}
use Rattle.gremlin_parse.proofs.Exits.{never_ok}
use Rattle.gremlin_parse.proofs.query.read_elements.Goals as goal

pub returns-in_err-ids-clause-err : goal.returns-in_err-ids-clause-err
returns-in_err-ids-clause-err c =
    let p = err_from_is_err_and c.from_residual.result c.from_residual.ensures.1 in
    rw (p.1, p.2) (c.in_err-ids.ensures.err c.args.edges)

pub returns-clause-err : goal.returns-clause-err
returns-clause-err c =
    IfErr-weaker c.read_steps.result _ _
    (λ stop at. (c.in_ok-ids.ensures.ok c.args.edges).stops stop (subst (λ (source : Source). StopsFrom (Steps (query_from source)) c.in_ok-ids.at_steps.now
    stop) c.elements_of.ensures at))
    c.read_steps.ensures.err

pub returns-clause-ok : goal.returns-clause-ok
returns-clause-ok c =
    IfOk-weaker c.read_steps.result _ _
    (λ command kept. (c.in_ok-ids.ensures.ok c.args.edges).kept command (subst (λ (source : Source). KeptFrom turn is_loose command (Steps (query_from source))
    c.in_ok-ids.at_steps.now) c.elements_of.ensures kept))
    c.read_steps.ensures.ok

pub returns-in_err-ids-clause-ok : goal.returns-in_err-ids-clause-ok
returns-in_err-ids-clause-ok c = never_ok c.from_residual.result _ _ c.from_residual.ensures.1
