use Rattle.std.proofs.Common.{◌∙◌, rules}
use Rattle.change_parts.specs.ChangeFault.{IsOutside, of_space}
use Rattle.edge_changes.proofs.EdgeGone.{edge_given}
use Rattle.edge_changes.proofs.EdgeTaken.{links_right, parts_edge}
use Rattle.edge_changes.proofs.EndWrites.{ends_given}
use Rattle.change_parts.proofs.Exits.{fault_exit, space_outside}
use Rattle.change_parts.proofs.DiskCauses.{space_cause_passed, later_on}
use Rattle.change_parts.specs.Damage.{BlamesBroken, IfBlames}
use Rattle.edge_changes.specs.EdgeDeleting.{IsPartedDamage}
use Rattle.group_store.proofs.KeptHeads.{heads_then}
use Rattle.change_parts.proofs.Adding.{space_blamed}
use Rattle.edge_changes.proofs.EdgeBlames.{groups_given, groups_then, heads_given}
use Rattle.rec_bytes.proofs.Causes.{never_ok, ok_cause}
use Rattle.edge_changes.proofs.edge_parting.part_edge.Goals as goal

pub returns-in_err-part_ends-clause-not_damaged : goal.returns-in_err-part_ends-clause-not_damaged
returns-in_err-part_ends-clause-not_damaged g c tells names store bare =
    let s = g.S.Reads.state c.args.space.now in
    fault_exit (λ f. f) IsOutside c.in_err-part_ends.field-0.0 c.from_residual.result c.from_residual.ensures.1
    (c.in_err-part_ends.ensures.not_damaged tells (links_right s names c.args.id c.args.ends store bare c.requires.ends.apart))

pub returns-in_err-give-clause-not_damaged : goal.returns-in_err-give-clause-not_damaged
returns-in_err-give-clause-not_damaged g c tells names store bare =
    fault_exit of_space IsOutside c.in_err-give.field-0.0 c.from_residual-in_err-give.result c.from_residual-in_err-give.ensures.1
    (space_outside c.in_err-give.field-0.0)

pub returns-clause-parted : goal.returns-clause-parted
returns-clause-parted g c tells names store bare =
    parts_edge (g.S.Reads.state c.args.space.now) names c.args.id c.args.ends store bare
    (g.S.Reads.state c.part_ends.new.space) (g.S.Reads.state c.give.new.space) c.requires.ends.apart (c.in_ok-part_ends.ensures.ok tells)
    ((g.met.S.Reads.onward_shape _ _ c.give.ensures.onward) ∙ (g.met.S.Reads.onward_shape _ _ c.part_ends.ensures.onward))
    (c.in_ok-give.ensures.given tells)

pub returns-clause-writes : goal.returns-clause-writes
returns-clause-writes g c = ends_given _ _ _ c.args.ends _ c.part_ends.ensures.writes c.give.ensures.writes

pub returns-in_err-give-clause-writes : goal.returns-in_err-give-clause-writes
returns-in_err-give-clause-writes g c = ends_given _ _ _ c.args.ends _ c.part_ends.ensures.writes c.give.ensures.writes

pub returns-in_err-give-clause-cause : goal.returns-in_err-give-clause-cause
returns-in_err-give-clause-cause g c =
    space_cause_passed _ _ _ c.from_residual-in_err-give.result c.in_err-give.field-0.0 c.in_ok-part_ends.ensures.cause.later c.in_err-give.ensures.cause
    c.from_residual-in_err-give.ensures.1

-- ---- which record is blamed, and heads that stay
pub returns-in_err-part_ends-clause-damaged : goal.returns-in_err-part_ends-clause-damaged
returns-in_err-part_ends-clause-damaged g c tells row edge =
    fault_exit (λ f. f) (IfBlames (IsPartedDamage (g.S.Reads.state c.args.space.now) c.args.id row.from row.to)) c.in_err-part_ends.field-0.0
    c.from_residual.result c.from_residual.ensures.1 (c.in_err-part_ends.ensures.damaged tells row edge)

pub returns-in_err-give-clause-damaged : goal.returns-in_err-give-clause-damaged
returns-in_err-give-clause-damaged g c tells row edge =
    fault_exit of_space (IfBlames (IsPartedDamage (g.S.Reads.state c.args.space.now) c.args.id row.from row.to)) c.in_err-give.field-0.0
    c.from_residual-in_err-give.result c.from_residual-in_err-give.ensures.1 (space_blamed _ c.in_err-give.field-0.0)

pub returns-clause-heads : goal.returns-clause-heads
returns-clause-heads g c tells heads =
    let s = g.S.Reads.state c.args.space.now in
    let u = g.S.Reads.state c.part_ends.new.space in
    let t = g.S.Reads.state c.give.new.space in
    heads_then s u t (c.in_ok-part_ends.ensures.heads tells heads) (heads_given u t c.args.id (c.give.ensures.stays tells))

pub returns-clause-groups : goal.returns-clause-groups
returns-clause-groups g c tells heads =
    let s = g.S.Reads.state c.args.space.now in
    let u = g.S.Reads.state c.part_ends.new.space in
    let t = g.S.Reads.state c.give.new.space in
    groups_then s u t (c.in_ok-part_ends.ensures.groups tells heads) (groups_given u t c.args.id (g.met.S.Reads.onward_shape _ _ c.give.ensures.onward)
    (c.give.ensures.stays tells))

-- ---- in the space as it is left
pub returns-in_err-part_ends-clause-damaged_after : goal.returns-in_err-part_ends-clause-damaged_after
returns-in_err-part_ends-clause-damaged_after g c tells row edge =
    fault_exit (λ f. f) (BlamesBroken (g.S.Reads.state c.part_ends.new.space)) c.in_err-part_ends.field-0.0 c.from_residual.result c.from_residual.ensures.1
    (c.in_err-part_ends.ensures.damaged_after tells row edge)

pub returns-in_err-give-clause-damaged_after : goal.returns-in_err-give-clause-damaged_after
returns-in_err-give-clause-damaged_after g c tells row edge =
    fault_exit of_space (BlamesBroken (g.S.Reads.state c.give.new.space)) c.in_err-give.field-0.0 c.from_residual-in_err-give.result
    c.from_residual-in_err-give.ensures.1 (space_blamed _ c.in_err-give.field-0.0)

pub returns-in_err-part_ends-clause-parted : goal.returns-in_err-part_ends-clause-parted
returns-in_err-part_ends-clause-parted g c _ = never_ok c.from_residual.result _ _ c.from_residual.ensures.1

pub returns-in_err-part_ends-clause-heads : goal.returns-in_err-part_ends-clause-heads
returns-in_err-part_ends-clause-heads g c _ _ = never_ok c.from_residual.result _ _ c.from_residual.ensures.1

pub returns-in_err-part_ends-clause-groups : goal.returns-in_err-part_ends-clause-groups
returns-in_err-part_ends-clause-groups g c _ _ = never_ok c.from_residual.result _ _ c.from_residual.ensures.1

pub returns-in_err-part_ends-clause-onward : goal.returns-in_err-part_ends-clause-onward
returns-in_err-part_ends-clause-onward g c = search rules

pub returns-in_err-give-clause-parted : goal.returns-in_err-give-clause-parted
returns-in_err-give-clause-parted g c _ = never_ok c.from_residual-in_err-give.result _ _ c.from_residual-in_err-give.ensures.1

pub returns-in_err-give-clause-heads : goal.returns-in_err-give-clause-heads
returns-in_err-give-clause-heads g c _ _ = never_ok c.from_residual-in_err-give.result _ _ c.from_residual-in_err-give.ensures.1

pub returns-in_err-give-clause-groups : goal.returns-in_err-give-clause-groups
returns-in_err-give-clause-groups g c _ _ = never_ok c.from_residual-in_err-give.result _ _ c.from_residual-in_err-give.ensures.1

pub returns-clause-cause : goal.returns-clause-cause
returns-clause-cause g c = ok_cause _ _ _ _ (later_on c.in_ok-part_ends.ensures.cause.later c.in_ok-give.ensures.cause.later)

-- ---- it is in use no more
pub returns-clause-gone : goal.returns-clause-gone
returns-clause-gone g c tells =
    edge_given (g.S.Reads.state c.part_ends.new.space) (g.S.Reads.state c.give.new.space) c.args.id (c.in_ok-give.ensures.ok tells)

pub returns-in_err-part_ends-clause-gone : goal.returns-in_err-part_ends-clause-gone
returns-in_err-part_ends-clause-gone g c _ = never_ok c.from_residual.result _ _ c.from_residual.ensures.1

pub returns-in_err-give-clause-gone : goal.returns-in_err-give-clause-gone
returns-in_err-give-clause-gone g c _ = never_ok c.from_residual-in_err-give.result _ _ c.from_residual-in_err-give.ensures.1
