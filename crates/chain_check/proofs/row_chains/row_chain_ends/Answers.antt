use Rattle.rec_bytes.proofs.Causes.{never_ok}
use Rattle.chain_check.proofs.row_chains.row_chain_ends.Goals as goal

pub returns-in_err-ids-clause-found : goal.returns-in_err-ids-clause-found
returns-in_err-ids-clause-found c = never_ok c.from_residual.result _ _ c.from_residual.ensures.1

pub returns-in_err-ids-clause-low : goal.returns-in_err-ids-clause-low
returns-in_err-ids-clause-low c = never_ok c.from_residual.result _ _ c.from_residual.ensures.1

pub returns-in_err-ends-clause-found : goal.returns-in_err-ends-clause-found
returns-in_err-ends-clause-found c = never_ok c.from_residual-in_err-ends.result _ _ c.from_residual-in_err-ends.ensures.1

pub returns-in_err-ends-clause-low : goal.returns-in_err-ends-clause-low
returns-in_err-ends-clause-low c = never_ok c.from_residual-in_err-ends.result _ _ c.from_residual-in_err-ends.ensures.1
