use Rattle.std.proofs.Common.{rules}
use Rattle.id_freelist.proofs.TakeDamages.{mark_not_in_use}
use Rattle.rec_bytes.proofs.Causes.{never_ok}
use Rattle.id_freelist.proofs.taking.take_mark.Goals as goal

pub returns-clause-fresh : goal.returns-clause-fresh
returns-clause-fresh g c = mark_not_in_use (g.S.Reads.state c.args.space.now) c.args.file c.args.meta c.requires.meta

pub returns-in_err-change_meta-clause-taken : goal.returns-in_err-change_meta-clause-taken
returns-in_err-change_meta-clause-taken g c _ = never_ok c.from_residual.result _ _ c.from_residual.ensures.1

pub returns-in_err-change_meta-clause-fresh : goal.returns-in_err-change_meta-clause-fresh
returns-in_err-change_meta-clause-fresh g c = never_ok c.from_residual.result _ _ c.from_residual.ensures.1

pub returns-in_err-change_meta-clause-is : goal.returns-in_err-change_meta-clause-is
returns-in_err-change_meta-clause-is g c = never_ok c.from_residual.result _ _ c.from_residual.ensures.1

pub returns-in_err-change_meta-clause-ok : goal.returns-in_err-change_meta-clause-ok
returns-in_err-change_meta-clause-ok g c _ = never_ok c.from_residual.result _ _ c.from_residual.ensures.1

pub returns-in_err-change_meta-clause-onward : goal.returns-in_err-change_meta-clause-onward
returns-in_err-change_meta-clause-onward g c = search rules
