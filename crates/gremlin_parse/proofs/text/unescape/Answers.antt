use Rattle.gremlin_parse.proofs.Exits.{never_ok}
use Rattle.gremlin_parse.proofs.text.unescape.Goals as goal

pub returns-in_err-text : goal.returns-in_err-text
returns-in_err-text c = never_ok c.from_residual.result _ _ c.from_residual.ensures.1

pub returns-in_err-push : goal.returns-in_err-push
returns-in_err-push c = never_ok c.from_residual-in_err-push.result _ _ c.from_residual-in_err-push.ensures.1

pub returns-in_err-push-2 : goal.returns-in_err-push-2
returns-in_err-push-2 c = never_ok c.from_residual-in_err-push-2.result _ _ c.from_residual-in_err-push-2.ensures.1
