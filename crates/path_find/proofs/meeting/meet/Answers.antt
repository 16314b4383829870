use Rattle.std.proofs.Common.{arith}
use Rattle.rec_bytes.proofs.Causes.{never_ok}
use Rattle.chain_edit.proofs.Causes.{same_has}
use Rattle.path_find.proofs.Causes.{memory_cause}
use Rattle.path_find.proofs.OnlyReads.{is_read-none}
use Rattle.path_find.proofs.meeting.meet.Goals as goal

pub returns-in_err-ahead-clause-found : goal.returns-in_err-ahead-clause-found
returns-in_err-ahead-clause-found g c _ _ _ _ = never_ok c.from_residual.result _ _ c.from_residual.ensures.1

pub returns-in_err-ahead-clause-damaged : goal.returns-in_err-ahead-clause-damaged
returns-in_err-ahead-clause-damaged g c _ = same_has _ c.from_residual.result _ c.from_residual.ensures.1 tt

pub returns-in_err-ahead-clause-read : goal.returns-in_err-ahead-clause-read
returns-in_err-ahead-clause-read g c = is_read-none g.R.Reads g.met.R.Reads.stays_onward c.args.space.now

pub returns-in_err-ahead-clause-cause : goal.returns-in_err-ahead-clause-cause
returns-in_err-ahead-clause-cause g c =
    memory_cause _ _ c.from_residual.result (omega arith) c.from_residual.ensures.1

pub returns-in_err-behind-clause-found : goal.returns-in_err-behind-clause-found
returns-in_err-behind-clause-found g c _ _ _ _ = never_ok c.from_residual-in_err-behind.result _ _ c.from_residual-in_err-behind.ensures.1

pub returns-in_err-behind-clause-damaged : goal.returns-in_err-behind-clause-damaged
returns-in_err-behind-clause-damaged g c _ = same_has _ c.from_residual-in_err-behind.result _ c.from_residual-in_err-behind.ensures.1 tt

pub returns-in_err-behind-clause-read : goal.returns-in_err-behind-clause-read
returns-in_err-behind-clause-read g c = is_read-none g.R.Reads g.met.R.Reads.stays_onward c.args.space.now

pub returns-in_err-behind-clause-cause : goal.returns-in_err-behind-clause-cause
returns-in_err-behind-clause-cause g c =
    memory_cause _ _ c.from_residual-in_err-behind.result (omega arith) c.from_residual-in_err-behind.ensures.1

pub meet_between-requires-clause-ahead : goal.meet_between-requires-clause-ahead
meet_between-requires-clause-ahead g c = c.in_ok-ahead.ensures

pub meet_between-requires-clause-behind : goal.meet_between-requires-clause-behind
meet_between-requires-clause-behind g c = c.in_ok-behind.ensures

pub returns-clause-found : goal.returns-clause-found
returns-clause-found g c = c.meet_between.ensures.found

pub returns-clause-damaged : goal.returns-clause-damaged
returns-clause-damaged g c = c.meet_between.ensures.damaged

pub returns-clause-read : goal.returns-clause-read
returns-clause-read g c = c.meet_between.ensures.read

pub returns-clause-cause : goal.returns-clause-cause
returns-clause-cause g c = c.meet_between.ensures.cause

pub returns-in_err-ahead-clause-cost : goal.returns-in_err-ahead-clause-cost
returns-in_err-ahead-clause-cost g c _ _ _ _ = never_ok c.from_residual.result _ _ c.from_residual.ensures.1

pub returns-in_err-behind-clause-cost : goal.returns-in_err-behind-clause-cost
returns-in_err-behind-clause-cost g c _ _ _ _ = never_ok c.from_residual-in_err-behind.result _ _ c.from_residual-in_err-behind.ensures.1

pub returns-clause-cost : goal.returns-clause-cost
returns-clause-cost g c = c.meet_between.ensures.cost
