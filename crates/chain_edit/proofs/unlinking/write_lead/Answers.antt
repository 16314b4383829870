use Rattle.std.proofs.Common.{rules}
use Rattle.rec_bytes.proofs.Causes.{never_ok}
use Rattle.chain_edit.proofs.unlinking.write_lead.Goals as goal

pub returns-in_err-put-clause-ok : goal.returns-in_err-put-clause-ok
returns-in_err-put-clause-ok g c = never_ok c.from_residual.result _ _ c.from_residual.ensures.1

pub returns-in_err-put-clause-onward : goal.returns-in_err-put-clause-onward
returns-in_err-put-clause-onward g c = search rules

pub returns-in_err-put-2-clause-ok : goal.returns-in_err-put-2-clause-ok
returns-in_err-put-2-clause-ok g c = never_ok c.from_residual-in_err-put-2.result _ _ c.from_residual-in_err-put-2.ensures.1
