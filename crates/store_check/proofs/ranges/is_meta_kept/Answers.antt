use Rattle.std.proofs.Common.{arith}
use Rattle.rec_bytes.proofs.Causes.{never_ok, ok_cause}
use Rattle.record_lists.proofs.Causes.{cause_passed}
use Rattle.record_lists.proofs.OnlyReads.{is_read-get}
use Rattle.store_check.proofs.ranges.is_meta_kept.Goals as goal

pub returns-in_err-rec-clause-right : goal.returns-in_err-rec-clause-right
returns-in_err-rec-clause-right g c _ = never_ok c.from_residual.result _ _ c.from_residual.ensures.1

pub returns-in_err-rec-clause-low : goal.returns-in_err-rec-clause-low
returns-in_err-rec-clause-low g c = never_ok c.from_residual.result _ _ c.from_residual.ensures.1

pub returns-in_err-rec-clause-read : goal.returns-in_err-rec-clause-read
returns-in_err-rec-clause-read g c =
    is_read-get g.R.Reads _ _ c.in_err-rec.ensures.state c.in_err-rec.ensures.onward c.in_err-rec.ensures.cause.later

pub returns-in_err-rec-clause-cause : goal.returns-in_err-rec-clause-cause
returns-in_err-rec-clause-cause g c =
    cause_passed _ _ _ c.from_residual.result c.in_err-rec.field-0.0 (omega arith) c.in_err-rec.ensures.cause c.from_residual.ensures.1

pub returns-else-is_meta_right-clause-read : goal.returns-else-is_meta_right-clause-read
returns-else-is_meta_right-clause-read g c =
    is_read-get g.R.Reads _ _ c.in_ok-rec.ensures.state c.in_ok-rec.ensures.onward c.in_ok-rec.ensures.cause.later

pub returns-else-is_meta_right-clause-cause : goal.returns-else-is_meta_right-clause-cause
returns-else-is_meta_right-clause-cause g c = ok_cause _ _ _ _ (returns-else-is_meta_right-clause-read g c).later

pub returns-else-not-is_meta_file-clause-read : goal.returns-else-not-is_meta_file-clause-read
returns-else-not-is_meta_file-clause-read g c =
    is_read-get g.R.Reads _ _ c.in_ok-rec.ensures.state c.in_ok-rec.ensures.onward c.in_ok-rec.ensures.cause.later

pub returns-else-not-is_meta_file-clause-cause : goal.returns-else-not-is_meta_file-clause-cause
returns-else-not-is_meta_file-clause-cause g c = ok_cause _ _ _ _ (returns-else-not-is_meta_file-clause-read g c).later

pub returns-then-not-is_meta_file-clause-read : goal.returns-then-not-is_meta_file-clause-read
returns-then-not-is_meta_file-clause-read g c =
    is_read-get g.R.Reads _ _ c.in_ok-rec.ensures.state c.in_ok-rec.ensures.onward c.in_ok-rec.ensures.cause.later

pub returns-then-not-is_meta_file-clause-cause : goal.returns-then-not-is_meta_file-clause-cause
returns-then-not-is_meta_file-clause-cause g c = ok_cause _ _ _ _ (returns-then-not-is_meta_file-clause-read g c).later
