use Rattle.std.proofs.Common.{rules}
use Rattle.rec_bytes.proofs.Causes.{never_ok}
use Rattle.group_store.proofs.links.back.Goals as goal

pub returns-in_err-set_number-clause-ok : goal.returns-in_err-set_number-clause-ok
returns-in_err-set_number-clause-ok g c _ = never_ok c.from_residual.result _ _ c.from_residual.ensures.1

pub returns-in_err-set_number-clause-onward : goal.returns-in_err-set_number-clause-onward
returns-in_err-set_number-clause-onward g c = search rules
