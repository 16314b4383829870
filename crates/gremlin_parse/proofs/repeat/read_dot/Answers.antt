use Rattle.gremlin_parse.proofs.Exits.{never_ok}
use Rattle.gremlin_parse.proofs.repeat.read_dot.Goals as goal

pub returns-in_err-more-clause-ok : goal.returns-in_err-more-clause-ok
returns-in_err-more-clause-ok c = never_ok c.from_residual.result _ _ c.from_residual.ensures.1

pub returns-in_err-more-clause-less : goal.returns-in_err-more-clause-less
returns-in_err-more-clause-less c = never_ok c.from_residual.result _ _ c.from_residual.ensures.1
