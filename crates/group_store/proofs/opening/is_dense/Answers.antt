use Rattle.std.proofs.Common.{rules}
use Rattle.group_store.proofs.ChainHeads.{only_read}
use Rattle.rec_bytes.proofs.Causes.{never_ok}
use Rattle.group_store.proofs.opening.is_dense.Goals as goal

pub returns-in_err-first-clause-state : goal.returns-in_err-first-clause-state
returns-in_err-first-clause-state g c = only_read (g.R.Reads.state c.args.space.now) (g.R.Reads.state c.first_group.new.space) 1 c.first_group.ensures.at_most

pub returns-clause-state : goal.returns-clause-state
returns-clause-state g c = only_read (g.R.Reads.state c.args.space.now) (g.R.Reads.state c.first_group.new.space) 1 c.first_group.ensures.at_most

pub returns-in_err-first-clause-is : goal.returns-in_err-first-clause-is
returns-in_err-first-clause-is g c _ = never_ok c.from_residual.result _ _ c.from_residual.ensures.1

pub returns-in_err-first-clause-onward : goal.returns-in_err-first-clause-onward
returns-in_err-first-clause-onward g c = search rules
