use Rattle.gremlin_parse.proofs.Exits.{never_ok}
use Rattle.gremlin_parse.proofs.draft.Draft.put.Goals as goal

pub returns-in_err-push-clause-ok : goal.returns-in_err-push-clause-ok
returns-in_err-push-clause-ok c = never_ok c.from_residual.result _ _ c.from_residual.ensures.1
