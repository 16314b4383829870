use Rattle.rec_bytes.proofs.Causes.{never_ok}
use Rattle.graph_ops.proofs.distinct.meet.Goals as goal

pub returns-in_err-is_new-in-Node-clause-is_new : goal.returns-in_err-is_new-in-Node-clause-is_new
returns-in_err-is_new-in-Node-clause-is_new c = never_ok c.from_residual.result _ _ c.from_residual.ensures.1

pub returns-in_err-is_new-in-Node-clause-met : goal.returns-in_err-is_new-in-Node-clause-met
returns-in_err-is_new-in-Node-clause-met c = never_ok c.from_residual.result _ _ c.from_residual.ensures.1

pub returns-in_err-is_new-in-Edge-clause-is_new : goal.returns-in_err-is_new-in-Edge-clause-is_new
returns-in_err-is_new-in-Edge-clause-is_new c = never_ok c.from_residual-in_err-is_new-in-Edge.result _ _ c.from_residual-in_err-is_new-in-Edge.ensures.1

pub returns-in_err-is_new-in-Edge-clause-met : goal.returns-in_err-is_new-in-Edge-clause-met
returns-in_err-is_new-in-Edge-clause-met c = never_ok c.from_residual-in_err-is_new-in-Edge.result _ _ c.from_residual-in_err-is_new-in-Edge.ensures.1
