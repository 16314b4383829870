use Rattle.std.proofs.lemmas.Result.{err_from_is_err_and}
use Rattle.plain_graph.specs.declared.query.Step.TheVariants as steps
use Rattle.gremlin_parse.specs.Queries.{BodyFirst, AfterBody, Steps, with_step}
use Rattle.gremlin_parse.proofs.QueryReads.{on}
use Rattle.gremlin_parse.proofs.Exits.{never_ok}
use Rattle.gremlin_parse.proofs.repeat.read_repeat.Goals as goal

pub returns-in_err-times-clause-err : goal.returns-in_err-times-clause-err
returns-in_err-times-clause-err c =
    let p = err_from_is_err_and c.from_residual-in_err-times.result c.from_residual-in_err-times.ensures.1 in
    rw (p.1, p.2) (λ query same. (c.in_ok-body.ensures.ok query same).stops c.in_err-times.field-0.0 (c.in_err-times.ensures.err query c.in_ok-body.body))

pub returns-clause-ok : goal.returns-clause-ok
returns-clause-ok c = λ query same.
    on (BodyFirst query) c.args.bytes.now (AfterBody query c.in_ok-body.body) c.in_ok-body.at_dot.now
    (Steps (with_step query (steps.Repeat c.in_ok-body.body c.in_ok-times.times))) c.in_ok-times.rest.now (c.in_ok-body.ensures.ok query same)
    (c.in_ok-times.ensures.ok query c.in_ok-body.body)

pub returns-in_err-times-clause-ok : goal.returns-in_err-times-clause-ok
returns-in_err-times-clause-ok c = never_ok c.from_residual-in_err-times.result _ _ c.from_residual-in_err-times.ensures.1

pub returns-in_err-times-clause-few : goal.returns-in_err-times-clause-few
returns-in_err-times-clause-few c = never_ok c.from_residual-in_err-times.result _ _ c.from_residual-in_err-times.ensures.1

pub returns-in_err-times-clause-within : goal.returns-in_err-times-clause-within
returns-in_err-times-clause-within c = never_ok c.from_residual-in_err-times.result _ _ c.from_residual-in_err-times.ensures.1

pub returns-in_err-body-clause-ok : goal.returns-in_err-body-clause-ok
returns-in_err-body-clause-ok c = never_ok c.from_residual.result _ _ c.from_residual.ensures.1

pub returns-in_err-body-clause-few : goal.returns-in_err-body-clause-few
returns-in_err-body-clause-few c = never_ok c.from_residual.result _ _ c.from_residual.ensures.1

pub returns-in_err-body-clause-within : goal.returns-in_err-body-clause-within
returns-in_err-body-clause-within c = never_ok c.from_residual.result _ _ c.from_residual.ensures.1
