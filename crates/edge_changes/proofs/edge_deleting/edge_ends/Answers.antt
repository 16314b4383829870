use Rattle.std.proofs.Common.{◌∙◌, inl, inr, refl, sym}
use Rattle.rec_bytes.proofs.Spaces.{writes_then}
use Rattle.change_parts.specs.ChangeFault.{IsOutside}
use Rattle.edge_changes.proofs.EndsFound.{both_found, loop_found, there_then}
use Rattle.edge_changes.proofs.EndWrites.{one_group, one_head}
use Rattle.change_parts.proofs.Exits.{fault_exit}
use Rattle.change_parts.proofs.DiskCauses.{change_cause_passed}
use Rattle.chain_edit.specs.Heads.{head_of}
use Rattle.change_parts.specs.Damage.{IfBlames}
use Rattle.edge_changes.specs.EdgeDeleting.{IsTakenDamage, with_property}
use Rattle.group_store.proofs.AlikeGroups.{alike_back, alike_counted, placed_as}
use Rattle.change_parts.proofs.Broken.{blames_more}
use Rattle.edge_changes.proofs.EdgeFrames.{edge_counted, edge_none, edge_then, end_taken}
use Rattle.change_parts.specs.Damage.{BlamesBroken}
use Rattle.edge_changes.proofs.EdgeSought.{row_later}
use Rattle.edge_changes.proofs.edge_deleting.edge_ends.Goals as goal

-- ---- why it fails
pub returns-in_err-source-clause-not_damaged : goal.returns-in_err-source-clause-not_damaged
returns-in_err-source-clause-not_damaged g c tells names store there =
    fault_exit (λ f. f) IsOutside c.in_err-source.field-0.0 c.from_residual.result c.from_residual.ensures.1
    (c.in_err-source.ensures.not_damaged tells names store there (inl refl))

pub returns-in_err-target-clause-not_damaged : goal.returns-in_err-target-clause-not_damaged
returns-in_err-target-clause-not_damaged g c tells names store there =
    let s = g.S.Reads.state c.args.space.now in
    let t = g.S.Reads.state c.edge_end.new.space in
    let first = c.in_ok-source.ensures.found tells names store there (inl refl) in
    fault_exit (λ f. f) IsOutside c.in_err-target.field-0.0 c.from_residual-in_err-target.result c.from_residual-in_err-target.ensures.1
    (c.in_err-target.ensures.not_damaged tells names first.store
    (there_then s t names c.args.id c.args.rel there c.in_ok-source.source c.in_ok-source.ensures.node
    first) (inr refl))

-- ---- what it leaves
pub returns-then-rel-clause-found : goal.returns-then-rel-clause-found
returns-then-rel-clause-found g c tells names store there =
    let s = g.S.Reads.state c.args.space.now in
    let t = g.S.Reads.state c.edge_end.new.space in
    loop_found s t names c.args.id c.args.rel there c.in_ok-source.source c.in_ok-source.ensures.node
    (c.in_ok-source.ensures.found tells names store there (inl refl)) c.if-rel.true

pub returns-clause-found : goal.returns-clause-found
returns-clause-found g c tells names store there =
    let s = g.S.Reads.state c.args.space.now in
    let t = g.S.Reads.state c.edge_end.new.space in
    let u = g.S.Reads.state c.edge_end-2.new.space in
    let first = c.in_ok-source.ensures.found tells names store there (inl refl) in
    both_found s t names c.args.id c.args.rel there c.in_ok-source.source c.in_ok-source.ensures.node first u c.in_ok-target.target c.in_ok-target.ensures.node
    c.if-rel.false
    (c.in_ok-target.ensures.found tells names first.store (there_then s t names c.args.id c.args.rel there c.in_ok-source.source c.in_ok-source.ensures.node
    first) (inr refl))

-- ---- what it writes
pub returns-in_err-source-clause-writes : goal.returns-in_err-source-clause-writes
returns-in_err-source-clause-writes g c = (c.edge_end.ensures.writes.0, c.edge_end.ensures.writes.0, one_group _ _ _ c.edge_end.ensures.writes.1)

pub returns-then-rel-clause-writes : goal.returns-then-rel-clause-writes
returns-then-rel-clause-writes g c = (c.edge_end.ensures.writes.0, c.edge_end.ensures.writes.0, one_group _ _ _ c.edge_end.ensures.writes.1)

pub returns-in_err-target-clause-writes : goal.returns-in_err-target-clause-writes
returns-in_err-target-clause-writes g c = (
  c.edge_end.ensures.writes.0,
  c.edge_end-2.ensures.writes.0,
  writes_then _ _ _ _ _ c.edge_end.ensures.writes.1
      c.edge_end-2.ensures.writes.1,
)

pub returns-clause-writes : goal.returns-clause-writes
returns-clause-writes g c = (
  c.edge_end.ensures.writes.0,
  c.edge_end-2.ensures.writes.0,
  writes_then _ _ _ _ _ c.edge_end.ensures.writes.1
      c.edge_end-2.ensures.writes.1,
)

pub returns-then-rel-clause-wrote : goal.returns-then-rel-clause-wrote
returns-then-rel-clause-wrote g c = one_head _ _ c.in_ok-source.source.head.key c.in_ok-source.ensures.wrote

pub returns-clause-wrote : goal.returns-clause-wrote
returns-clause-wrote g c = writes_then _ _ _ _ _ c.in_ok-source.ensures.wrote c.in_ok-target.ensures.wrote

pub returns-in_err-target-clause-cause : goal.returns-in_err-target-clause-cause
returns-in_err-target-clause-cause g c =
    change_cause_passed _ _ _ c.from_residual-in_err-target.result c.in_err-target.field-0.0 c.in_ok-source.ensures.cause.later c.in_err-target.ensures.cause
    c.from_residual-in_err-target.ensures.1

-- ---- which record is blamed, and whose the heads are
pub returns-in_err-source-clause-damaged : goal.returns-in_err-source-clause-damaged
returns-in_err-source-clause-damaged g c tells =
    let s = g.S.Reads.state c.args.space.now in
    let fault = c.in_err-source.field-0.0 in
    fault_exit (λ f. f) (IfBlames (IsTakenDamage s c.args.id c.args.rel)) fault c.from_residual.result c.from_residual.ensures.1
    (blames_more _ _ (end_taken s s c.args.id c.args.rel c.args.rel.from (inl refl) (edge_none s c.args.id)) fault (c.in_err-source.ensures.damaged tells))

pub returns-in_err-target-clause-damaged : goal.returns-in_err-target-clause-damaged
returns-in_err-target-clause-damaged g c tells =
    let s = g.S.Reads.state c.args.space.now in
    let m = g.S.Reads.state c.edge_end.new.space in
    let fault = c.in_err-target.field-0.0 in
    fault_exit (λ f. f) (IfBlames (IsTakenDamage s c.args.id c.args.rel)) fault c.from_residual-in_err-target.result c.from_residual-in_err-target.ensures.1
    (blames_more _ _ (end_taken s m c.args.id c.args.rel c.args.rel.to (inr refl) (edge_counted s m c.args.id
    (g.met.S.Reads.onward_shape _ _ c.edge_end.ensures.onward) (c.in_ok-source.ensures.counts tells))) fault (c.in_err-target.ensures.damaged tells))

pub returns-then-rel-clause-heads : goal.returns-then-rel-clause-heads
returns-then-rel-clause-heads g c tells = c.in_ok-source.ensures.has tells

pub returns-clause-heads : goal.returns-clause-heads
returns-clause-heads g c tells = (
  c.in_ok-target.ensures.heads tells (head_of c.in_ok-source.source.head) c.in_ok-source.source.node (c.in_ok-source.ensures.has tells),
  c.in_ok-target.ensures.has tells,
)

pub returns-then-rel-clause-ends : goal.returns-then-rel-clause-ends
returns-then-rel-clause-ends g c = record { each = c.in_ok-source.ensures.end; apart = tt }

pub returns-clause-ends : goal.returns-clause-ends
returns-clause-ends g c = record {
  each = (c.in_ok-source.ensures.end, c.in_ok-target.ensures.end);
  apart = λ e. c.if-rel.false (sym c.in_ok-source.ensures.node
      ∙ e ∙ c.in_ok-target.ensures.node);
}

pub returns-then-rel-clause-counts : goal.returns-then-rel-clause-counts
returns-then-rel-clause-counts g c tells =
    edge_counted (g.S.Reads.state c.args.space.now) (g.S.Reads.state c.edge_end.new.space) c.args.id (g.met.S.Reads.onward_shape _ _ c.edge_end.ensures.onward)
    (c.in_ok-source.ensures.counts tells)

pub returns-clause-counts : goal.returns-clause-counts
returns-clause-counts g c tells =
    let s = g.S.Reads.state c.args.space.now in
    let m = g.S.Reads.state c.edge_end.new.space in
    let t = g.S.Reads.state c.edge_end-2.new.space in
    edge_then s m t c.args.id (edge_counted s m c.args.id (g.met.S.Reads.onward_shape _ _ c.edge_end.ensures.onward) (c.in_ok-source.ensures.counts tells))
    (edge_counted m t c.args.id (g.met.S.Reads.onward_shape _ _ c.edge_end-2.ensures.onward) (c.in_ok-target.ensures.counts tells))

pub returns-then-rel-clause-placed : goal.returns-then-rel-clause-placed
returns-then-rel-clause-placed g c tells property = c.in_ok-source.ensures.placed tells (inl refl) property

pub returns-clause-placed : goal.returns-clause-placed
returns-clause-placed g c tells property =
    let m = g.S.Reads.state c.edge_end.new.space in
    let t = g.S.Reads.state c.edge_end-2.new.space in
    let end = c.in_ok-source.source in (
      placed_as t m end.node (alike_back m t end.node (alike_counted m t end.node (g.met.S.Reads.onward_shape _ _ c.edge_end-2.ensures.onward)
          (c.in_ok-target.ensures.counts tells)))
          (head_of end.head) (with_property c.args.id c.args.rel property) (c.in_ok-source.ensures.placed tells (inl refl) property),
      c.in_ok-target.ensures.placed tells (inr refl) property,
    )

-- ---- in the space as it is left
pub returns-in_err-source-clause-damaged_after : goal.returns-in_err-source-clause-damaged_after
returns-in_err-source-clause-damaged_after g c tells has =
    fault_exit (λ f. f) (BlamesBroken (g.S.Reads.state c.edge_end.new.space)) c.in_err-source.field-0.0 c.from_residual.result c.from_residual.ensures.1
    (c.in_err-source.ensures.damaged_after tells has (inl refl))

pub returns-in_err-target-clause-damaged_after : goal.returns-in_err-target-clause-damaged_after
returns-in_err-target-clause-damaged_after g c tells has =
    let s = g.S.Reads.state c.args.space.now in
    let m = g.S.Reads.state c.edge_end.new.space in
    let left = edge_counted s m c.args.id (g.met.S.Reads.onward_shape _ _ c.edge_end.ensures.onward) (c.in_ok-source.ensures.counts tells) in
    fault_exit (λ f. f) (BlamesBroken (g.S.Reads.state c.edge_end-2.new.space)) c.in_err-target.field-0.0 c.from_residual-in_err-target.result
    c.from_residual-in_err-target.ensures.1
    (c.in_err-target.ensures.damaged_after tells (row_later s m c.args.id left c.args.rel has) (inr refl))
