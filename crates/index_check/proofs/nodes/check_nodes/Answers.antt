use Rattle.std.proofs.Common.{arith}
use Rattle.rec_bytes.proofs.Causes.{never_ok}
use Rattle.prop_store.proofs.Exits.{same_has}
use Rattle.prop_store.proofs.Causes.{memory_cause}
use Rattle.record_lists.proofs.OnlyReads.{is_read-none}
use Rattle.index_check.proofs.nodes.check_nodes.Goals as goal

pub returns-in_err-seen-clause-none : goal.returns-in_err-seen-clause-none
returns-in_err-seen-clause-none g c _ = never_ok c.from_residual.result _ _ c.from_residual.ensures.1

pub returns-in_err-seen-clause-found : goal.returns-in_err-seen-clause-found
returns-in_err-seen-clause-found g c _ = never_ok c.from_residual.result _ _ c.from_residual.ensures.1

pub returns-in_err-seen-clause-read : goal.returns-in_err-seen-clause-read
returns-in_err-seen-clause-read g c =
    is_read-none g.R.Reads g.met.R.Reads.stays_onward c.args.space.now

pub returns-in_err-seen-clause-not_damaged : goal.returns-in_err-seen-clause-not_damaged
returns-in_err-seen-clause-not_damaged g c _ _ = same_has _ c.from_residual.result _ c.from_residual.ensures.1 tt

pub returns-in_err-seen-clause-cause : goal.returns-in_err-seen-clause-cause
returns-in_err-seen-clause-cause g c =
    memory_cause _ _ c.from_residual.result (omega arith) c.from_residual.ensures.1
