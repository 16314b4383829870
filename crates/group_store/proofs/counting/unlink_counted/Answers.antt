use Rattle.std.proofs.Common.{arith, rules}
use Rattle.std.proofs.lemmas.Result.{err_from_is_err_and}
use Rattle.group_store.proofs.Causes.{cause_passed, space_cause_passed}
use Rattle.rec_bytes.proofs.Causes.{never_ok}
use Rattle.chain_edit.proofs.Causes.{same_has, space_has}
use Rattle.group_store.proofs.counting.unlink_counted.Goals as goal

pub returns-in_err-unlink_named-clause-cause : goal.returns-in_err-unlink_named-clause-cause
returns-in_err-unlink_named-clause-cause g c =
    cause_passed _ _ _ c.from_residual.result c.in_err-unlink_named.field-0.0 (omega arith) c.in_err-unlink_named.ensures.cause c.from_residual.ensures.1

pub returns-in_err-count_less-clause-cause : goal.returns-in_err-count_less-clause-cause
returns-in_err-count_less-clause-cause g c =
    space_cause_passed _ _ _ c.from_residual-in_err-count_less.result c.in_err-count_less.field-0.0 c.in_ok-unlink_named.ensures.cause.later
    c.in_err-count_less.ensures.cause c.from_residual-in_err-count_less.ensures.1

pub returns-in_err-unlink_named-clause-breaks : goal.returns-in_err-unlink_named-clause-breaks
returns-in_err-unlink_named-clause-breaks g c = λ tells row live placed.
    let p = err_from_is_err_and c.from_residual.result c.from_residual.ensures.1 in
    rw (p.1, p.2) (c.in_err-unlink_named.ensures.breaks tells row live placed)

pub returns-in_err-unlink_named-clause-ok : goal.returns-in_err-unlink_named-clause-ok
returns-in_err-unlink_named-clause-ok g c _ = never_ok c.from_residual.result _ _ c.from_residual.ensures.1

pub returns-in_err-unlink_named-clause-linked : goal.returns-in_err-unlink_named-clause-linked
returns-in_err-unlink_named-clause-linked g c _ = never_ok c.from_residual.result _ _ c.from_residual.ensures.1

pub returns-in_err-unlink_named-clause-onward : goal.returns-in_err-unlink_named-clause-onward
returns-in_err-unlink_named-clause-onward g c = search rules

pub returns-in_err-count_less-clause-ok : goal.returns-in_err-count_less-clause-ok
returns-in_err-count_less-clause-ok g c _ = never_ok c.from_residual-in_err-count_less.result _ _ c.from_residual-in_err-count_less.ensures.1

pub returns-in_err-count_less-clause-linked : goal.returns-in_err-count_less-clause-linked
returns-in_err-count_less-clause-linked g c _ = never_ok c.from_residual-in_err-count_less.result _ _ c.from_residual-in_err-count_less.ensures.1

pub returns-in_err-unlink_named-clause-damaged : goal.returns-in_err-unlink_named-clause-damaged
returns-in_err-unlink_named-clause-damaged g c tells = same_has _ c.from_residual.result _ c.from_residual.ensures.1
    (c.in_err-unlink_named.ensures.damaged tells)

pub returns-in_err-unlink_named-clause-unwritten : goal.returns-in_err-unlink_named-clause-unwritten
returns-in_err-unlink_named-clause-unwritten g c = same_has _ c.from_residual.result _ c.from_residual.ensures.1 c.in_err-unlink_named.ensures.unwritten

pub returns-in_err-unlink_named-clause-not_damaged : goal.returns-in_err-unlink_named-clause-not_damaged
returns-in_err-unlink_named-clause-not_damaged g c tells before after xs can =
    same_has _ c.from_residual.result _ c.from_residual.ensures.1 (c.in_err-unlink_named.ensures.not_damaged tells before after xs can)

pub returns-in_err-unlink_named-clause-writes : goal.returns-in_err-unlink_named-clause-writes
returns-in_err-unlink_named-clause-writes g c = c.in_err-unlink_named.ensures.writes

pub returns-in_err-unlink_named-clause-shape : goal.returns-in_err-unlink_named-clause-shape
returns-in_err-unlink_named-clause-shape g c _ = g.met.S.Reads.onward_shape _ _ c.in_err-unlink_named.ensures.onward

pub returns-in_err-count_less-clause-damaged : goal.returns-in_err-count_less-clause-damaged
returns-in_err-count_less-clause-damaged g c _ = space_has _ tt tt c.from_residual-in_err-count_less.result c.in_err-count_less.field-0.0
    c.from_residual-in_err-count_less.ensures.1

pub returns-in_err-count_less-clause-unwritten : goal.returns-in_err-count_less-clause-unwritten
returns-in_err-count_less-clause-unwritten g c = space_has _ tt tt c.from_residual-in_err-count_less.result c.in_err-count_less.field-0.0
    c.from_residual-in_err-count_less.ensures.1

pub returns-in_err-count_less-clause-breaks : goal.returns-in_err-count_less-clause-breaks
returns-in_err-count_less-clause-breaks g c _ _ _ _ = space_has _ tt tt c.from_residual-in_err-count_less.result c.in_err-count_less.field-0.0
    c.from_residual-in_err-count_less.ensures.1

pub returns-in_err-count_less-clause-not_damaged : goal.returns-in_err-count_less-clause-not_damaged
returns-in_err-count_less-clause-not_damaged g c _ _ _ _ _ = space_has _ tt tt c.from_residual-in_err-count_less.result c.in_err-count_less.field-0.0
    c.from_residual-in_err-count_less.ensures.1

pub returns-in_err-count_less-clause-shape : goal.returns-in_err-count_less-clause-shape
returns-in_err-count_less-clause-shape g c _ = g.met.S.Reads.onward_shape _ _
    (g.met.S.Reads.further_onward _ _ _ c.in_ok-unlink_named.ensures.onward c.in_err-count_less.ensures.onward)

pub returns-in_err-count_less-clause-onward : goal.returns-in_err-count_less-clause-onward
returns-in_err-count_less-clause-onward g c =
    g.met.S.Reads.further_onward _ _ _ c.in_ok-unlink_named.ensures.onward c.in_err-count_less.ensures.onward
