use Rattle.gremlin_parse.proofs.Exits.{never_ok}
use Rattle.gremlin_parse.proofs.source.read_id.Goals as goal

pub returns-in_err-id-clause-ok : goal.returns-in_err-id-clause-ok
returns-in_err-id-clause-ok c = never_ok c.from_residual.result _ _ c.from_residual.ensures.1

pub returns-in_err-id-clause-less : goal.returns-in_err-id-clause-less
returns-in_err-id-clause-less c = never_ok c.from_residual.result _ _ c.from_residual.ensures.1
