use Rattle.gremlin_parse.proofs.Exits.{never_ok}
use Rattle.gremlin_parse.proofs.last.copy_last_name.Goals as goal

pub returns-in_err-text-in-Some-clause-ok : goal.returns-in_err-text-in-Some-clause-ok
returns-in_err-text-in-Some-clause-ok c = never_ok c.from_residual.result _ _ c.from_residual.ensures.1
