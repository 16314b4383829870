use Rattle.rec_bytes.proofs.Causes.{never_ok}
use Rattle.traversal_run.proofs.starting.push_step.Goals as goal

pub returns-in_err-hop-in-Neighbours : goal.returns-in_err-hop-in-Neighbours
returns-in_err-hop-in-Neighbours c = never_ok c.from_residual.result _ _ c.from_residual.ensures.1

pub returns-in_err-hop-in-Incident : goal.returns-in_err-hop-in-Incident
returns-in_err-hop-in-Incident c = never_ok c.from_residual-in_err-hop-in-Incident.result _ _ c.from_residual-in_err-hop-in-Incident.ensures.1

pub returns-in_err-filter-in-Filter : goal.returns-in_err-filter-in-Filter
returns-in_err-filter-in-Filter c = never_ok c.from_residual-in_err-filter-in-Filter.result _ _ c.from_residual-in_err-filter-in-Filter.ensures.1

pub returns-in_err-keys-in-Values : goal.returns-in_err-keys-in-Values
returns-in_err-keys-in-Values c = never_ok c.from_residual-in_err-keys-in-Values.result _ _ c.from_residual-in_err-keys-in-Values.ensures.1

pub returns-in_err-key-in-Order : goal.returns-in_err-key-in-Order
returns-in_err-key-in-Order c = never_ok c.from_residual-in_err-key-in-Order.result _ _ c.from_residual-in_err-key-in-Order.ensures.1
