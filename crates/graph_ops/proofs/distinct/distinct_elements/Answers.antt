use Rattle.rec_bytes.proofs.Causes.{never_ok}
use Rattle.graph_ops.proofs.distinct.distinct_elements.Goals as goal

pub returns-in_err-add_item : goal.returns-in_err-add_item
returns-in_err-add_item c = never_ok c.from_residual.result _ _ c.from_residual.ensures.1
