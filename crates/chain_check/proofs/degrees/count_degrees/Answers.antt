use Rattle.std.proofs.Common.{arith}
use Rattle.rec_bytes.proofs.Causes.{never_ok, ok_cause}
use Rattle.record_lists.proofs.Causes.{cause_passed}
use Rattle.chain_check.proofs.Causes.{no_memory}
use Rattle.record_lists.proofs.OnlyReads.{is_read-none}
use Rattle.chain_check.proofs.degrees.count_degrees.Goals as goal

pub returns-in_err-count_ends-clause-counts : goal.returns-in_err-count_ends-clause-counts
returns-in_err-count_ends-clause-counts g c _ = never_ok c.from_residual.result _ _ c.from_residual.ensures.1

pub returns-in_err-count_ends-clause-len : goal.returns-in_err-count_ends-clause-len
returns-in_err-count_ends-clause-len g c = never_ok c.from_residual.result _ _ c.from_residual.ensures.1

pub returns-in_err-count_ends-clause-threshold : goal.returns-in_err-count_ends-clause-threshold
returns-in_err-count_ends-clause-threshold g c = never_ok c.from_residual.result _ _ c.from_residual.ensures.1

pub returns-in_err-count_ends-clause-read : goal.returns-in_err-count_ends-clause-read
returns-in_err-count_ends-clause-read g c =
    c.in_err-count_ends.ensures.read

pub returns-clause-cause : goal.returns-clause-cause
returns-clause-cause g c = ok_cause _ _ _ _ c.count_ends.ensures.read.later

pub returns-in_err-count_ends-clause-cause : goal.returns-in_err-count_ends-clause-cause
returns-in_err-count_ends-clause-cause g c =
    cause_passed _ _ _ c.from_residual.result c.in_err-count_ends.field-0.0 (omega arith) c.in_err-count_ends.ensures.cause c.from_residual.ensures.1

pub returns-clause-read : goal.returns-clause-read
returns-clause-read g c =
    c.count_ends.ensures.read

pub returns-in_default-clause-read : goal.returns-in_default-clause-read
returns-in_default-clause-read g c = is_read-none g.R.Reads g.met.R.Reads.stays_onward c.args.space.now

pub returns-in_default-clause-cause : goal.returns-in_default-clause-cause
returns-in_default-clause-cause g c = no_memory _ _ (returns-in_default-clause-read g c).later
