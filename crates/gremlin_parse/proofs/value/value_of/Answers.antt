use Rattle.gremlin_parse.proofs.Exits.{never_ok}
use Rattle.gremlin_parse.proofs.value.value_of.Goals as goal

pub returns-in_err-bytes-in-Text-clause-ok : goal.returns-in_err-bytes-in-Text-clause-ok
returns-in_err-bytes-in-Text-clause-ok c = never_ok c.from_residual.result _ _ c.from_residual.ensures.1
