use Rattle.std.proofs.Common.{rules}
use Rattle.chain_edit.proofs.Walks.{reads_none, reads_one}
use Rattle.rec_bytes.proofs.Causes.{never_ok}
use Rattle.group_store.proofs.dropping.read_behind.Goals as goal

pub returns-then-after-eq-NIL-clause-at_most : goal.returns-then-after-eq-NIL-clause-at_most
returns-then-after-eq-NIL-clause-at_most g c = reads_none (g.R.Reads.state c.args.space.now) 1

pub returns-then-after-group-clause-at_most : goal.returns-then-after-group-clause-at_most
returns-then-after-group-clause-at_most g c = reads_none (g.R.Reads.state c.args.space.now) 1

pub returns-then-after-before-clause-at_most : goal.returns-then-after-before-clause-at_most
returns-then-after-before-clause-at_most g c = reads_none (g.R.Reads.state c.args.space.now) 1

pub returns-in_err-rec-clause-at_most : goal.returns-in_err-rec-clause-at_most
returns-in_err-rec-clause-at_most g c = reads_one (g.R.Reads.state c.args.space.now) (g.R.Reads.state c.get.new.self) c.in_err-rec.ensures.state

pub returns-then-number-group-clause-at_most : goal.returns-then-number-group-clause-at_most
returns-then-number-group-clause-at_most g c = reads_one (g.R.Reads.state c.args.space.now) (g.R.Reads.state c.get.new.self) c.in_ok-rec.ensures.state

pub returns-clause-at_most : goal.returns-clause-at_most
returns-clause-at_most g c = reads_one (g.R.Reads.state c.args.space.now) (g.R.Reads.state c.get.new.self) c.in_ok-rec.ensures.state

pub returns-in_err-rec-clause-got : goal.returns-in_err-rec-clause-got
returns-in_err-rec-clause-got g c _ = never_ok c.from_residual.result _ _ c.from_residual.ensures.1

pub returns-in_err-rec-clause-linked : goal.returns-in_err-rec-clause-linked
returns-in_err-rec-clause-linked g c _ = never_ok c.from_residual.result _ _ c.from_residual.ensures.1

pub returns-in_err-rec-clause-state : goal.returns-in_err-rec-clause-state
returns-in_err-rec-clause-state g c = never_ok c.from_residual.result _ _ c.from_residual.ensures.1

pub returns-in_err-rec-clause-onward : goal.returns-in_err-rec-clause-onward
returns-in_err-rec-clause-onward g c = search rules
