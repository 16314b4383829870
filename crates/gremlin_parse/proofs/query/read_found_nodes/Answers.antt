use Rattle.std.proofs.lemmas.Result.{IfOk-weaker, IfErr-weaker}
use Rattle.gremlin_parse.proofs.Exits.{never_ok}
use Rattle.gremlin_parse.proofs.query.read_found_nodes.Goals as goal

pub returns-clause-err : goal.returns-clause-err
returns-clause-err c = IfErr-weaker c.read_steps.result _ _ (λ stop at. c.in_ok-source.ensures.ok.stops stop at) c.read_steps.ensures.err

pub returns-clause-ok : goal.returns-clause-ok
returns-clause-ok c = IfOk-weaker c.read_steps.result _ _ (λ command kept. c.in_ok-source.ensures.ok.kept command kept) c.read_steps.ensures.ok

pub returns-in_err-source-clause-ok : goal.returns-in_err-source-clause-ok
returns-in_err-source-clause-ok c = never_ok c.from_residual.result _ _ c.from_residual.ensures.1
