use Rattle.rec_bytes.proofs.Causes.{never_ok}
use Rattle.traversal_run.proofs.edge_items.edge_item.Goals as goal

pub returns-in_err-from_slice : goal.returns-in_err-from_slice
returns-in_err-from_slice c = never_ok c.from_residual.result _ _ c.from_residual.ensures.1
