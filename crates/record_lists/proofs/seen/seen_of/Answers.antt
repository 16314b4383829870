use Rattle.rec_bytes.proofs.Causes.{never_ok}
use Rattle.record_lists.proofs.seen.seen_of.Goals as goal

pub returns-in_err-seen-clause-seen : goal.returns-in_err-seen-clause-seen
returns-in_err-seen-clause-seen c = never_ok c.from_residual.result _ _ c.from_residual.ensures.1

pub returns-in_err-seen-clause-len : goal.returns-in_err-seen-clause-len
returns-in_err-seen-clause-len c = never_ok c.from_residual.result _ _ c.from_residual.ensures.1
