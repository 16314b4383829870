use Rattle.std.proofs.Common.{arith}
use Rattle.rec_bytes.proofs.Causes.{never_ok}
use Rattle.record_lists.proofs.Causes.{cause_passed}
use Rattle.chain_check.proofs.Causes.{cause_later, no_memory}
use Rattle.record_lists.proofs.OnlyReads.{is_read-on}
use Rattle.chain_check.proofs.chains.check_chains.Goals as goal

pub returns-in_err-chained-clause-decided : goal.returns-in_err-chained-clause-decided
returns-in_err-chained-clause-decided g c _ = never_ok c.from_residual.result _ _ c.from_residual.ensures.1

pub returns-in_err-chained-clause-read : goal.returns-in_err-chained-clause-read
returns-in_err-chained-clause-read g c =
    c.in_err-chained.ensures.read

pub returns-in_err-chained-clause-cause : goal.returns-in_err-chained-clause-cause
returns-in_err-chained-clause-cause g c =
    cause_passed _ _ _ c.from_residual.result c.in_err-chained.field-0.0 (omega arith) c.in_err-chained.ensures.cause c.from_residual.ensures.1

pub returns-clause-read : goal.returns-clause-read
returns-clause-read g c = is_read-on g.R.Reads g.met.R.Reads.further_onward _ _ _ c.chained_groups.ensures.read c.check_seen.ensures.read

pub returns-clause-cause : goal.returns-clause-cause
returns-clause-cause g c = cause_later _ _ _ c.check_seen.result c.chained_groups.ensures.read.later c.check_seen.ensures.cause

pub returns-in_default-clause-read : goal.returns-in_default-clause-read
returns-in_default-clause-read g c = c.chained_groups.ensures.read

pub returns-in_default-clause-cause : goal.returns-in_default-clause-cause
returns-in_default-clause-cause g c = no_memory _ _ (returns-in_default-clause-read g c).later
