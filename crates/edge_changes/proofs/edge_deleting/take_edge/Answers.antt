use Rattle.change_parts.specs.ChangeFault.{IsOutside}
use Rattle.edge_changes.proofs.EndsFound.{taken_then}
use Rattle.edge_changes.proofs.EndWrites.{groups_beside, taken_after, taken_beside}
use Rattle.change_parts.proofs.Exits.{fault_exit, on_ok}
use Rattle.change_parts.specs.Damage.{IfBlames}
use Rattle.edge_changes.specs.EdgeDeleting.{IsTakenDamage, with_property}
use Rattle.edge_changes.specs.EdgeDeleting.IsTakenDamage.{Parted, Undropped}
use Rattle.std.proofs.Common.{⊎_elim, rules}
use Rattle.edge_changes.proofs.EdgeBlames.{if_blames}
use Rattle.edge_changes.proofs.EdgeSought.{row_later}
use Rattle.change_parts.specs.Damage.{BlamesBroken}
use Rattle.rec_bytes.proofs.Causes.{never_ok}
use Rattle.edge_changes.proofs.edge_deleting.take_edge.Goals as goal

-- ---- why it fails
pub returns-in_err-ends-clause-not_damaged : goal.returns-in_err-ends-clause-not_damaged
returns-in_err-ends-clause-not_damaged g c tells names store there =
    fault_exit (λ f. f) IsOutside c.in_err-ends.field-0.0 c.from_residual.result c.from_residual.ensures.1
    (c.in_err-ends.ensures.not_damaged tells names store there)

pub returns-clause-not_damaged : goal.returns-clause-not_damaged
returns-clause-not_damaged g c tells names store there =
    let found = c.in_ok-ends.ensures.found tells names store there in
    c.unlink_edge.ensures.not_damaged tells names found.store found.bare

-- ---- what it leaves
pub returns-clause-taken : goal.returns-clause-taken
returns-clause-taken g c tells = on_ok c.unlink_edge.result _ _ (λ taken names store there.
    let s = g.S.Reads.state c.args.space.now in
    let t = g.S.Reads.state c.edge_ends.new.space in
    let u = g.S.Reads.state c.unlink_edge.new.space in
    let found = c.in_ok-ends.ensures.found tells names store there in
    taken_then s t u names c.args.id c.in_ok-ends.ends found (taken names found.store found.bare)) (c.unlink_edge.ensures.taken tells)

-- ---- what it writes
pub returns-in_err-ends-clause-writes : goal.returns-in_err-ends-clause-writes
returns-in_err-ends-clause-writes g c = groups_beside _ _ c.args.id c.edge_ends.ensures.writes.0 c.edge_ends.ensures.writes.1 c.edge_ends.ensures.writes.2

pub returns-clause-writes : goal.returns-clause-writes
returns-clause-writes g c =
    let ends = c.in_ok-ends.ends in
    taken_beside _ _ c.args.id ends c.in_ok-ends.ensures.ends.each (taken_after _ _ _ c.args.id ends c.in_ok-ends.ensures.wrote c.unlink_edge.ensures.writes)

-- ---- which record is blamed
pub returns-in_err-ends-clause-damaged : goal.returns-in_err-ends-clause-damaged
returns-in_err-ends-clause-damaged g c tells has =
    let s = g.S.Reads.state c.args.space.now in
    fault_exit (λ f. f) (IfBlames (IsTakenDamage s c.args.id c.args.rel)) c.in_err-ends.field-0.0 c.from_residual.result c.from_residual.ensures.1
    (c.in_err-ends.ensures.damaged tells)

pub returns-clause-damaged : goal.returns-clause-damaged
returns-clause-damaged g c tells has =
    let s = g.S.Reads.state c.args.space.now in
    let m = g.S.Reads.state c.edge_ends.new.space in
    let left = c.in_ok-ends.ensures.counts tells in
    let now = row_later s m c.args.id left c.args.rel has in
    let row = with_property c.args.id c.args.rel now.0 in
    if_blames c.unlink_edge.result _ (IsTakenDamage s c.args.id c.args.rel)
    (λ damage told. ⊎_elim (λ k. Parted damage m left k) (λ k. Undropped damage m left k) told)
    (c.unlink_edge.ensures.damaged tells row (record {
      live = now.1;
      source = c.in_ok-ends.ensures.nodes.0;
      target = c.in_ok-ends.ensures.nodes.1;
      places =
          c.in_ok-ends.ensures.placed tells now.0;
    }))

-- ---- in the space as it is left
pub returns-in_err-ends-clause-damaged_after : goal.returns-in_err-ends-clause-damaged_after
returns-in_err-ends-clause-damaged_after g c tells has =
    fault_exit (λ f. f) (BlamesBroken (g.S.Reads.state c.edge_ends.new.space)) c.in_err-ends.field-0.0 c.from_residual.result c.from_residual.ensures.1
    (c.in_err-ends.ensures.damaged_after tells has)

pub returns-clause-damaged_after : goal.returns-clause-damaged_after
returns-clause-damaged_after g c tells has =
    let s = g.S.Reads.state c.args.space.now in
    let m = g.S.Reads.state c.edge_ends.new.space in
    let now = row_later s m c.args.id (c.in_ok-ends.ensures.counts tells) c.args.rel has in
    c.unlink_edge.ensures.damaged_after tells (with_property c.args.id c.args.rel now.0)
    (record { live = now.1; source = c.in_ok-ends.ensures.nodes.0; target = c.in_ok-ends.ensures.nodes.1; places = c.in_ok-ends.ensures.placed tells now.0 })

pub returns-in_err-ends-clause-taken : goal.returns-in_err-ends-clause-taken
returns-in_err-ends-clause-taken g c _ = never_ok c.from_residual.result _ _ c.from_residual.ensures.1

pub returns-in_err-ends-clause-onward : goal.returns-in_err-ends-clause-onward
returns-in_err-ends-clause-onward g c = search rules

-- ---- it is in use no more
pub returns-in_err-ends-clause-gone : goal.returns-in_err-ends-clause-gone
returns-in_err-ends-clause-gone g c _ = never_ok c.from_residual.result _ _ c.from_residual.ensures.1
