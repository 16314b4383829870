use Rattle.std.proofs.Common.{arith}
use Rattle.record_lists.proofs.Causes.{cause_passed}
use Rattle.chain_check.proofs.Causes.{no_memory}
use Rattle.rec_bytes.proofs.Causes.{never_ok, ok_cause}
use Rattle.record_lists.proofs.OnlyReads.{is_read-none}
use Rattle.chain_check.proofs.chained.chained_groups.Goals as goal

pub returns-in_err-see_chains-clause-cause : goal.returns-in_err-see_chains-clause-cause
returns-in_err-see_chains-clause-cause g c =
    cause_passed _ _ _ c.from_residual.result c.in_err-see_chains.field-0.0 (omega arith) c.in_err-see_chains.ensures.cause c.from_residual.ensures.1

pub returns-in_err-see_chains-clause-seen : goal.returns-in_err-see_chains-clause-seen
returns-in_err-see_chains-clause-seen g c _ = never_ok c.from_residual.result _ _ c.from_residual.ensures.1

pub returns-in_err-see_chains-clause-len : goal.returns-in_err-see_chains-clause-len
returns-in_err-see_chains-clause-len g c = never_ok c.from_residual.result _ _ c.from_residual.ensures.1

pub returns-in_err-see_chains-clause-read : goal.returns-in_err-see_chains-clause-read
returns-in_err-see_chains-clause-read g c =
    c.in_err-see_chains.ensures.read

pub returns-clause-cause : goal.returns-clause-cause
returns-clause-cause g c = ok_cause _ _ _ _ c.see_chains.ensures.read.later

pub returns-clause-read : goal.returns-clause-read
returns-clause-read g c =
    c.see_chains.ensures.read

pub returns-in_default-clause-read : goal.returns-in_default-clause-read
returns-in_default-clause-read g c = is_read-none g.R.Reads g.met.R.Reads.stays_onward c.args.space.now

pub returns-in_default-clause-cause : goal.returns-in_default-clause-cause
returns-in_default-clause-cause g c = no_memory _ _ (returns-in_default-clause-read g c).later
