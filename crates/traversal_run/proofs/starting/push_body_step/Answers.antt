use Rattle.rec_bytes.proofs.Causes.{never_ok}
use Rattle.traversal_run.proofs.starting.push_body_step.Goals as goal

pub returns-in_err-hop-in-Neighbours : goal.returns-in_err-hop-in-Neighbours
returns-in_err-hop-in-Neighbours c = never_ok c.from_residual.result _ _ c.from_residual.ensures.1

pub returns-in_err-filter-in-Filter : goal.returns-in_err-filter-in-Filter
returns-in_err-filter-in-Filter c = never_ok c.from_residual-in_err-filter-in-Filter.result _ _ c.from_residual-in_err-filter-in-Filter.ensures.1
