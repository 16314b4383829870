use Rattle.record_lists.proofs.OnlyReads.{is_read-none}
use Rattle.chain_check.proofs.Causes.{no_memory}
use Rattle.store_check.proofs.elements.check_elements.Goals as goal

pub returns-clause-read : goal.returns-clause-read
returns-clause-read g c = c.check_seen.ensures.read

pub returns-clause-cause : goal.returns-clause-cause
returns-clause-cause g c = c.check_seen.ensures.cause

pub returns-in_default-clause-read : goal.returns-in_default-clause-read
returns-in_default-clause-read g c = is_read-none g.R.Reads g.met.R.Reads.stays_onward c.args.space.now

pub returns-in_default-clause-cause : goal.returns-in_default-clause-cause
returns-in_default-clause-cause g c = no_memory _ _ (returns-in_default-clause-read g c).later
