use Rattle.std.proofs.Common.{arith}
use Rattle.std.proofs.lemmas.Result.{err_from_is_err_and}
use Rattle.group_store.proofs.BrokenGroups.{make_breaks}
use Rattle.group_store.proofs.OpenFaults.{open_cause}
use Rattle.rec_bytes.proofs.Causes.{never_ok}
use Rattle.chain_edit.proofs.Causes.{same_has}
use Rattle.group_store.proofs.making.make_group.Goals as goal

pub returns-in_err-own-clause-breaks : goal.returns-in_err-own-clause-breaks
returns-in_err-own-clause-breaks g c = λ tells dense.
    let p = err_from_is_err_and c.from_residual.result c.from_residual.ensures.1 in
    rw (p.1, p.2) (make_breaks (g.S.Reads.state c.args.space.now) c.args.node dense c.in_err-own.field-0.0 (c.in_err-own.ensures.damaged tells))

pub returns-in_err-own-clause-cause : goal.returns-in_err-own-clause-cause
returns-in_err-own-clause-cause g c =
    open_cause _ _ _ c.from_residual.result c.in_err-own.field-0.0 (omega arith) c.in_err-own.ensures.cause c.from_residual.ensures.1

pub returns-in_err-own-clause-made : goal.returns-in_err-own-clause-made
returns-in_err-own-clause-made g c _ = never_ok c.from_residual.result _ _ c.from_residual.ensures.1

pub returns-in_err-own-clause-ok : goal.returns-in_err-own-clause-ok
returns-in_err-own-clause-ok g c _ = never_ok c.from_residual.result _ _ c.from_residual.ensures.1

pub returns-in_err-own-clause-key : goal.returns-in_err-own-clause-key
returns-in_err-own-clause-key g c = never_ok c.from_residual.result _ _ c.from_residual.ensures.1

pub returns-in_err-own-clause-rules : goal.returns-in_err-own-clause-rules
returns-in_err-own-clause-rules g c _ = never_ok c.from_residual.result _ _ c.from_residual.ensures.1

pub returns-in_err-own-clause-wrote : goal.returns-in_err-own-clause-wrote
returns-in_err-own-clause-wrote g c = never_ok c.from_residual.result _ _ c.from_residual.ensures.1

pub returns-in_err-own-clause-damaged : goal.returns-in_err-own-clause-damaged
returns-in_err-own-clause-damaged g c tells = same_has _ c.from_residual.result _ c.from_residual.ensures.1 (c.in_err-own.ensures.damaged tells)

pub returns-in_err-own-clause-not_damaged : goal.returns-in_err-own-clause-not_damaged
returns-in_err-own-clause-not_damaged g c tells readable free xs can dense some =
    same_has _ c.from_residual.result _ c.from_residual.ensures.1 (c.in_err-own.ensures.not_damaged tells readable free xs can dense some)

pub returns-in_err-own-clause-unwritten : goal.returns-in_err-own-clause-unwritten
returns-in_err-own-clause-unwritten g c = same_has _ c.from_residual.result _ c.from_residual.ensures.1 c.in_err-own.ensures.unwritten

pub returns-in_err-own-clause-shape : goal.returns-in_err-own-clause-shape
returns-in_err-own-clause-shape g c tells = c.in_err-own.ensures.shape tells

pub returns-in_err-own-clause-writes : goal.returns-in_err-own-clause-writes
returns-in_err-own-clause-writes g c = c.in_err-own.ensures.writes

pub returns-in_err-own-clause-onward : goal.returns-in_err-own-clause-onward
returns-in_err-own-clause-onward g c = c.in_err-own.ensures.onward
