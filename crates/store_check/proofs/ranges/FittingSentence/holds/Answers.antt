use Rattle.record_lists.proofs.OnlyReads.{is_read-get}
use Rattle.rec_bytes.proofs.Causes.{ok_cause}
use Rattle.store_check.proofs.ranges.FittingSentence.holds.Goals as goal

pub returns-clause-read : goal.returns-clause-read
returns-clause-read g c = is_read-get g.R.Reads _ _ c.in_ok-rec.ensures.state c.in_ok-rec.ensures.onward c.in_ok-rec.ensures.cause.later

pub returns-clause-cause : goal.returns-clause-cause
returns-clause-cause g c = ok_cause _ _ _ _ (returns-clause-read g c).later
