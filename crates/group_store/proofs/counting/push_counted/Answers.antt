use Rattle.std.proofs.Common.{arith, rules}
use Rattle.group_store.proofs.Causes.{cause_passed, space_cause_passed}
use Rattle.rec_bytes.proofs.Causes.{never_ok}
use Rattle.chain_edit.proofs.Causes.{same_has, space_has}
use Rattle.group_store.proofs.counting.push_counted.Goals as goal

pub returns-in_err-first-clause-cause : goal.returns-in_err-first-clause-cause
returns-in_err-first-clause-cause g c =
    cause_passed _ _ _ c.from_residual.result c.in_err-first.field-0.0 (omega arith) c.in_err-first.ensures.cause c.from_residual.ensures.1

pub returns-in_err-count_more-clause-cause : goal.returns-in_err-count_more-clause-cause
returns-in_err-count_more-clause-cause g c =
    space_cause_passed _ _ _ c.from_residual-in_err-count_more.result c.in_err-count_more.field-0.0 c.in_ok-first.ensures.cause.later
    c.in_err-count_more.ensures.cause c.from_residual-in_err-count_more.ensures.1

pub returns-in_err-first-clause-ok : goal.returns-in_err-first-clause-ok
returns-in_err-first-clause-ok g c _ = never_ok c.from_residual.result _ _ c.from_residual.ensures.1

pub returns-in_err-first-clause-first : goal.returns-in_err-first-clause-first
returns-in_err-first-clause-first g c _ = never_ok c.from_residual.result _ _ c.from_residual.ensures.1

pub returns-in_err-first-clause-wrote : goal.returns-in_err-first-clause-wrote
returns-in_err-first-clause-wrote g c = never_ok c.from_residual.result _ _ c.from_residual.ensures.1

pub returns-in_err-first-clause-onward : goal.returns-in_err-first-clause-onward
returns-in_err-first-clause-onward g c = search rules

pub returns-in_err-count_more-clause-ok : goal.returns-in_err-count_more-clause-ok
returns-in_err-count_more-clause-ok g c _ = never_ok c.from_residual-in_err-count_more.result _ _ c.from_residual-in_err-count_more.ensures.1

pub returns-in_err-count_more-clause-first : goal.returns-in_err-count_more-clause-first
returns-in_err-count_more-clause-first g c _ = never_ok c.from_residual-in_err-count_more.result _ _ c.from_residual-in_err-count_more.ensures.1

pub returns-in_err-count_more-clause-wrote : goal.returns-in_err-count_more-clause-wrote
returns-in_err-count_more-clause-wrote g c = never_ok c.from_residual-in_err-count_more.result _ _ c.from_residual-in_err-count_more.ensures.1

pub returns-in_err-first-clause-damaged : goal.returns-in_err-first-clause-damaged
returns-in_err-first-clause-damaged g c tells = same_has _ c.from_residual.result _ c.from_residual.ensures.1 (c.in_err-first.ensures.damaged tells)

pub returns-in_err-first-clause-unwritten : goal.returns-in_err-first-clause-unwritten
returns-in_err-first-clause-unwritten g c = same_has _ c.from_residual.result _ c.from_residual.ensures.1 c.in_err-first.ensures.unwritten

pub returns-in_err-first-clause-breaks : goal.returns-in_err-first-clause-breaks
returns-in_err-first-clause-breaks g c tells n owns = same_has _ c.from_residual.result _ c.from_residual.ensures.1 (c.in_err-first.ensures.breaks tells n owns)

pub returns-in_err-first-clause-not_damaged : goal.returns-in_err-first-clause-not_damaged
returns-in_err-first-clause-not_damaged g c tells right = same_has _ c.from_residual.result _ c.from_residual.ensures.1
    (c.in_err-first.ensures.not_damaged tells right)

pub returns-in_err-first-clause-writes : goal.returns-in_err-first-clause-writes
returns-in_err-first-clause-writes g c = c.in_err-first.ensures.writes

pub returns-in_err-first-clause-shape : goal.returns-in_err-first-clause-shape
returns-in_err-first-clause-shape g c _ = g.met.S.Reads.onward_shape _ _ c.in_err-first.ensures.onward

pub returns-in_err-count_more-clause-damaged : goal.returns-in_err-count_more-clause-damaged
returns-in_err-count_more-clause-damaged g c _ = space_has _ tt tt c.from_residual-in_err-count_more.result c.in_err-count_more.field-0.0
    c.from_residual-in_err-count_more.ensures.1

pub returns-in_err-count_more-clause-unwritten : goal.returns-in_err-count_more-clause-unwritten
returns-in_err-count_more-clause-unwritten g c = space_has _ tt tt c.from_residual-in_err-count_more.result c.in_err-count_more.field-0.0
    c.from_residual-in_err-count_more.ensures.1

pub returns-in_err-count_more-clause-breaks : goal.returns-in_err-count_more-clause-breaks
returns-in_err-count_more-clause-breaks g c _ _ _ = space_has _ tt tt c.from_residual-in_err-count_more.result c.in_err-count_more.field-0.0
    c.from_residual-in_err-count_more.ensures.1

pub returns-in_err-count_more-clause-not_damaged : goal.returns-in_err-count_more-clause-not_damaged
returns-in_err-count_more-clause-not_damaged g c _ _ = space_has _ tt tt c.from_residual-in_err-count_more.result c.in_err-count_more.field-0.0
    c.from_residual-in_err-count_more.ensures.1

pub returns-in_err-count_more-clause-shape : goal.returns-in_err-count_more-clause-shape
returns-in_err-count_more-clause-shape g c _ = g.met.S.Reads.onward_shape _ _
    (g.met.S.Reads.further_onward _ _ _ c.in_ok-first.ensures.onward c.in_err-count_more.ensures.onward)

pub returns-in_err-count_more-clause-onward : goal.returns-in_err-count_more-clause-onward
returns-in_err-count_more-clause-onward g c =
    g.met.S.Reads.further_onward _ _ _ c.in_ok-first.ensures.onward c.in_err-count_more.ensures.onward
