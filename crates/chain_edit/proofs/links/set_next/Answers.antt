use Rattle.std.proofs.Common.{rules}
use Rattle.rec_bytes.proofs.Causes.{never_ok}
use Rattle.chain_edit.proofs.links.set_next.Goals as goal

pub returns-in_err-rec-clause-ok : goal.returns-in_err-rec-clause-ok
returns-in_err-rec-clause-ok g c _ = never_ok c.from_residual.result _ _ c.from_residual.ensures.1

pub returns-in_err-rec-clause-onward : goal.returns-in_err-rec-clause-onward
returns-in_err-rec-clause-onward g c = search rules
