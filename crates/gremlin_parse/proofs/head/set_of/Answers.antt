use Rattle.gremlin_parse.proofs.Exits.{never_ok}
use Rattle.gremlin_parse.proofs.head.set_of.Goals as goal

pub returns-in_err-key-clause-ok : goal.returns-in_err-key-clause-ok
returns-in_err-key-clause-ok c = never_ok c.from_residual.result _ _ c.from_residual.ensures.1

pub returns-in_err-value-clause-ok : goal.returns-in_err-value-clause-ok
returns-in_err-value-clause-ok c = never_ok c.from_residual-in_err-value.result _ _ c.from_residual-in_err-value.ensures.1
