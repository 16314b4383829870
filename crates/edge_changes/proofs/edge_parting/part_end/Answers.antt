use Rattle.std.proofs.Common.{rules}
use Rattle.edge_changes.proofs.EndWrites.{end_parted}
use Rattle.change_parts.proofs.DiskCauses.{space_cause_passed, later_on}
use Rattle.chain_edit.specs.Heads.{head_of}
use Rattle.change_parts.specs.ChangeFault.{IsOutside, of_fault, of_space}
use Rattle.change_parts.specs.Damage.{IfBlames}
use Rattle.change_parts.proofs.Adding.{space_blamed}
use Rattle.edge_changes.proofs.EdgeBlames.{groups_parted_by, heads_parted_by}
use Rattle.edge_changes.proofs.EdgeCuts.{cut_blamed}
use Rattle.change_parts.proofs.Exits.{fault_exit, fault_outside}
use Rattle.edge_changes.specs.EdgeDeleting.{IsCutDamage}
use Rattle.change_parts.specs.Damage.{BlamesBroken}
use Rattle.edge_changes.proofs.Broken.{break_left, few_read}
use Rattle.rec_bytes.proofs.Causes.{never_ok, ok_cause}
use Rattle.edge_changes.proofs.edge_parting.part_end.Goals as goal

pub returns-in_err-set_number-clause-writes : goal.returns-in_err-set_number-clause-writes
returns-in_err-set_number-clause-writes g c = end_parted _ _ _ c.args.rel c.args.end c.unlink_counted.ensures.writes c.set_number.ensures.writes

pub returns-clause-writes : goal.returns-clause-writes
returns-clause-writes g c = end_parted _ _ _ c.args.rel c.args.end c.unlink_counted.ensures.writes c.set_number.ensures.writes

pub returns-in_err-set_number-clause-cause : goal.returns-in_err-set_number-clause-cause
returns-in_err-set_number-clause-cause g c =
    space_cause_passed _ _ _ c.from_residual-in_err-set_number.result c.in_err-set_number.field-0.0 c.in_ok-unlink_counted.ensures.cause.later
    c.in_err-set_number.ensures.cause c.from_residual-in_err-set_number.ensures.1

pub returns-in_err-unlink_counted-clause-not_damaged : goal.returns-in_err-unlink_counted-clause-not_damaged
returns-in_err-unlink_counted-clause-not_damaged g c tells links =
    fault_exit of_fault IsOutside c.in_err-unlink_counted.field-0.0 c.from_residual.result c.from_residual.ensures.1
    (fault_outside (Unit {0}) c.in_err-unlink_counted.field-0.0 (c.in_err-unlink_counted.ensures.not_damaged tells links.0 links.1 links.2 links.3))

-- ---- which record is blamed, and heads that stay
pub returns-in_err-unlink_counted-clause-damaged : goal.returns-in_err-unlink_counted-clause-damaged
returns-in_err-unlink_counted-clause-damaged g c tells =
    let s = g.S.Reads.state c.args.space.now in
    fault_exit of_fault (IfBlames (IsCutDamage s (head_of c.args.end.head) c.args.end.node c.args.rel)) c.in_err-unlink_counted.field-0.0 c.from_residual.result
    c.from_residual.ensures.1
    (cut_blamed s (head_of c.args.end.head) c.args.end.node c.args.rel c.in_err-unlink_counted.field-0.0 (c.in_err-unlink_counted.ensures.damaged tells))

pub returns-in_err-set_number-clause-damaged : goal.returns-in_err-set_number-clause-damaged
returns-in_err-set_number-clause-damaged g c tells =
    fault_exit of_space (IfBlames (IsCutDamage (g.S.Reads.state c.args.space.now) (head_of c.args.end.head) c.args.end.node c.args.rel))
    c.in_err-set_number.field-0.0 c.from_residual-in_err-set_number.result c.from_residual-in_err-set_number.ensures.1
    (space_blamed _ c.in_err-set_number.field-0.0)

pub returns-clause-heads : goal.returns-clause-heads
returns-clause-heads g c tells owns =
    heads_parted_by (g.S.Reads.state c.args.space.now) (head_of c.args.end.head) c.args.end.node owns c.args.rel _
    (g.S.Reads.state c.unlink_counted.new.space) (g.S.Reads.state c.set_number.new.space) (c.in_ok-unlink_counted.ensures.ok tells)
    (c.in_ok-set_number.ensures.ok tells)

pub returns-clause-groups : goal.returns-clause-groups
returns-clause-groups g c tells owns =
    groups_parted_by (g.S.Reads.state c.args.space.now) (head_of c.args.end.head) c.args.end.node owns c.args.rel _
    (g.S.Reads.state c.unlink_counted.new.space) (g.S.Reads.state c.set_number.new.space) (c.in_ok-unlink_counted.ensures.ok tells)
    (c.in_ok-set_number.ensures.ok tells)

-- ---- in the space as it is left
pub returns-in_err-unlink_counted-clause-damaged_after : goal.returns-in_err-unlink_counted-clause-damaged_after
returns-in_err-unlink_counted-clause-damaged_after g c tells row live place =
    let s = g.S.Reads.state c.args.space.now in
    let t = g.S.Reads.state c.unlink_counted.new.space in
    let fault = c.in_err-unlink_counted.field-0.0 in
    fault_exit of_fault (BlamesBroken t) fault c.from_residual.result c.from_residual.ensures.1
    (break_left s t fault (c.in_err-unlink_counted.ensures.breaks tells row live place) (few_read s t _ fault c.in_err-unlink_counted.ensures.unwritten))

pub returns-in_err-set_number-clause-damaged_after : goal.returns-in_err-set_number-clause-damaged_after
returns-in_err-set_number-clause-damaged_after g c tells row live place =
    fault_exit of_space (BlamesBroken (g.S.Reads.state c.set_number.new.space)) c.in_err-set_number.field-0.0 c.from_residual-in_err-set_number.result
    c.from_residual-in_err-set_number.ensures.1 (space_blamed _ c.in_err-set_number.field-0.0)

pub returns-in_err-unlink_counted-clause-ok : goal.returns-in_err-unlink_counted-clause-ok
returns-in_err-unlink_counted-clause-ok g c _ = never_ok c.from_residual.result _ _ c.from_residual.ensures.1

pub returns-in_err-unlink_counted-clause-heads : goal.returns-in_err-unlink_counted-clause-heads
returns-in_err-unlink_counted-clause-heads g c _ _ = never_ok c.from_residual.result _ _ c.from_residual.ensures.1

pub returns-in_err-unlink_counted-clause-groups : goal.returns-in_err-unlink_counted-clause-groups
returns-in_err-unlink_counted-clause-groups g c _ _ = never_ok c.from_residual.result _ _ c.from_residual.ensures.1

pub returns-in_err-unlink_counted-clause-onward : goal.returns-in_err-unlink_counted-clause-onward
returns-in_err-unlink_counted-clause-onward g c = search rules

pub returns-in_err-set_number-clause-ok : goal.returns-in_err-set_number-clause-ok
returns-in_err-set_number-clause-ok g c _ = never_ok c.from_residual-in_err-set_number.result _ _ c.from_residual-in_err-set_number.ensures.1

pub returns-in_err-set_number-clause-heads : goal.returns-in_err-set_number-clause-heads
returns-in_err-set_number-clause-heads g c _ _ = never_ok c.from_residual-in_err-set_number.result _ _ c.from_residual-in_err-set_number.ensures.1

pub returns-in_err-set_number-clause-groups : goal.returns-in_err-set_number-clause-groups
returns-in_err-set_number-clause-groups g c _ _ = never_ok c.from_residual-in_err-set_number.result _ _ c.from_residual-in_err-set_number.ensures.1

pub returns-clause-cause : goal.returns-clause-cause
returns-clause-cause g c = ok_cause _ _ _ _ (later_on c.in_ok-unlink_counted.ensures.cause.later c.in_ok-set_number.ensures.cause.later)
