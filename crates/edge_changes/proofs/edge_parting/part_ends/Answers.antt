use Rattle.std.proofs.Common.{◌≢◌, subst, sym, rules}
use Rattle.chain_edit.specs.Heads.{head_of}
use Rattle.group_store.proofs.KeptHeads.{heads_then}
use Rattle.change_parts.specs.Damage.{BlamesBroken, IfBlames}
use Rattle.edge_changes.specs.EdgeDeleting.{HasPlace, IsPartedDamage, IsPlacedEdge, WritesEnds}
use Rattle.edge_changes.specs.EdgeEnds.{AreApart, AtEach, HasHead}
use Rattle.edge_changes.specs.declared.edge_end.EdgeEnd.{EdgeEnd}
use Rattle.edge_changes.specs.declared.edge_end.Ends.{Ends}
use Rattle.edge_changes.specs.declared.edge_end.Ends.TheVariants.{Loop, Two}
use Rattle.std.specs.Prelude.{IfErr}
use Rattle.edge_changes.proofs.EdgeBlames.{groups_then, if_blames}
use Rattle.change_parts.proofs.Broken.{blames_more}
use Rattle.edge_changes.proofs.EdgeCuts.{place_later, source_cut, target_cut}
use Rattle.edge_changes.proofs.EndWrites.{ends_written}
use Rattle.change_parts.proofs.Exits.{fault_exit, on_ok}
use Rattle.rec_bytes.proofs.Causes.{never_ok}
use Rattle.edge_changes.proofs.edge_parting.part_ends.Goals as goal

pub returns-in_ok-part_end-in-Two-clause-writes : goal.returns-in_ok-part_end-in-Two-clause-writes
returns-in_ok-part_end-in-Two-clause-writes g c =
    let s = g.S.Reads.state c.args.space.now in
    let u = g.S.Reads.state c.part_end-in-Two.new.space in
    let t = g.S.Reads.state c.part_end-in-Two-2.new.space in
    subst (WritesEnds s t c.args.rel) (sym c.in-Two.is) (ends_written s u c.args.rel (Two c.in-Two.source c.in-Two.target) t c.part_end-in-Two.ensures.writes
    c.part_end-in-Two-2.ensures.writes)

-- ---- which record is blamed, and heads that stay
pub returns-in-Loop-clause-damaged : goal.returns-in-Loop-clause-damaged
returns-in-Loop-clause-damaged g c tells row =
    let s = g.S.Reads.state c.args.space.now in
    let out = c.part_end.result in
    subst (λ (e : Ends EdgeEnd). IsPlacedEdge s.records c.args.rel row e → IfErr out (IfBlames (IsPartedDamage s c.args.rel row.from row.to)))
    (sym c.in-Loop.is)
    (λ edge. if_blames out _ (IsPartedDamage s c.args.rel row.from row.to) (source_cut s c.args.rel row (Loop c.in-Loop.end) edge)
    (c.part_end.ensures.damaged tells))

pub returns-in_err-part_end-in-Two-clause-damaged : goal.returns-in_err-part_end-in-Two-clause-damaged
returns-in_err-part_end-in-Two-clause-damaged g c tells row edge =
    let s = g.S.Reads.state c.args.space.now in
    let fault = c.in_err-part_end-in-Two.field-0.0 in
    fault_exit (λ f. f) (IfBlames (IsPartedDamage s c.args.rel row.from row.to)) fault c.from_residual.result c.from_residual.ensures.1
    (blames_more _ (IsPartedDamage s c.args.rel row.from row.to)
    (source_cut s c.args.rel row (Two c.in-Two.source c.in-Two.target) (subst (IsPlacedEdge s.records c.args.rel row) c.in-Two.is edge)) fault
    (c.in_err-part_end-in-Two.ensures.damaged tells))

pub returns-in_ok-part_end-in-Two-clause-damaged : goal.returns-in_ok-part_end-in-Two-clause-damaged
returns-in_ok-part_end-in-Two-clause-damaged g c tells row edge =
    let s = g.S.Reads.state c.args.space.now in
    let u = g.S.Reads.state c.part_end-in-Two.new.space in
    let a = c.in-Two.source in
    let b = c.in-Two.target in
    let differ : a.node ≢ b.node = subst (AreApart (λ (end : EdgeEnd). end.node)) c.in-Two.is c.requires.ends.apart in
    if_blames c.part_end-in-Two-2.result _ (IsPartedDamage s c.args.rel row.from row.to)
    (target_cut s u c.args.rel row a b (subst (IsPlacedEdge s.records c.args.rel row) c.in-Two.is edge) differ (c.in_ok-part_end-in-Two.ensures.ok tells))
    (c.part_end-in-Two-2.ensures.damaged tells)

pub returns-in_ok-part_end-in-Two-clause-heads : goal.returns-in_ok-part_end-in-Two-clause-heads
returns-in_ok-part_end-in-Two-clause-heads g c tells heads =
    let s = g.S.Reads.state c.args.space.now in
    let u = g.S.Reads.state c.part_end-in-Two.new.space in
    let t = g.S.Reads.state c.part_end-in-Two-2.new.space in
    let has = subst (AtEach (HasHead s.records)) c.in-Two.is heads in
    let first = c.in_ok-part_end-in-Two.ensures.heads tells has.0 in
    on_ok c.part_end-in-Two-2.result _ _ (λ second. heads_then s u t first second)
    (c.part_end-in-Two-2.ensures.heads tells (first (head_of c.in-Two.target.head) c.in-Two.target.node has.1))

pub returns-in_ok-part_end-in-Two-clause-groups : goal.returns-in_ok-part_end-in-Two-clause-groups
returns-in_ok-part_end-in-Two-clause-groups g c tells heads =
    let s = g.S.Reads.state c.args.space.now in
    let u = g.S.Reads.state c.part_end-in-Two.new.space in
    let t = g.S.Reads.state c.part_end-in-Two-2.new.space in
    let has = subst (AtEach (HasHead s.records)) c.in-Two.is heads in
    let first = c.in_ok-part_end-in-Two.ensures.heads tells has.0 in
    on_ok c.part_end-in-Two-2.result _ _ (λ second. groups_then s u t (c.in_ok-part_end-in-Two.ensures.groups tells has.0) second)
    (c.part_end-in-Two-2.ensures.groups tells (first (head_of c.in-Two.target.head) c.in-Two.target.node has.1))

-- ---- in the space as it is left
pub returns-in-Loop-clause-damaged_after : goal.returns-in-Loop-clause-damaged_after
returns-in-Loop-clause-damaged_after g c tells row edge =
    c.part_end.ensures.damaged_after tells row edge.live (subst (AtEach (HasPlace (g.S.Reads.state c.args.space.now).records row)) c.in-Loop.is edge.places)

pub returns-in_err-part_end-in-Two-clause-damaged_after : goal.returns-in_err-part_end-in-Two-clause-damaged_after
returns-in_err-part_end-in-Two-clause-damaged_after g c tells row edge =
    let at = subst (AtEach (HasPlace (g.S.Reads.state c.args.space.now).records row)) c.in-Two.is edge.places in
    fault_exit (λ f. f) (BlamesBroken (g.S.Reads.state c.part_end-in-Two.new.space)) c.in_err-part_end-in-Two.field-0.0 c.from_residual.result
    c.from_residual.ensures.1
    (c.in_err-part_end-in-Two.ensures.damaged_after tells row edge.live at.0)

pub returns-in_ok-part_end-in-Two-clause-damaged_after : goal.returns-in_ok-part_end-in-Two-clause-damaged_after
returns-in_ok-part_end-in-Two-clause-damaged_after g c tells row edge =
    let s = g.S.Reads.state c.args.space.now in
    let u = g.S.Reads.state c.part_end-in-Two.new.space in
    let a = c.in-Two.source in
    let b = c.in-Two.target in
    let differ : a.node ≢ b.node = subst (AreApart (λ (end : EdgeEnd). end.node)) c.in-Two.is c.requires.ends.apart in
    let later = place_later s u c.args.rel row a b (subst (IsPlacedEdge s.records c.args.rel row) c.in-Two.is edge) differ
    (c.in_ok-part_end-in-Two.ensures.ok tells) in
    c.part_end-in-Two-2.ensures.damaged_after tells row later.0 later.1

pub returns-in_err-part_end-in-Two-clause-ok : goal.returns-in_err-part_end-in-Two-clause-ok
returns-in_err-part_end-in-Two-clause-ok g c _ = never_ok c.from_residual.result _ _ c.from_residual.ensures.1

pub returns-in_err-part_end-in-Two-clause-heads : goal.returns-in_err-part_end-in-Two-clause-heads
returns-in_err-part_end-in-Two-clause-heads g c _ _ = never_ok c.from_residual.result _ _ c.from_residual.ensures.1

pub returns-in_err-part_end-in-Two-clause-groups : goal.returns-in_err-part_end-in-Two-clause-groups
returns-in_err-part_end-in-Two-clause-groups g c _ _ = never_ok c.from_residual.result _ _ c.from_residual.ensures.1

pub returns-in_err-part_end-in-Two-clause-onward : goal.returns-in_err-part_end-in-Two-clause-onward
returns-in_err-part_end-in-Two-clause-onward g c = search rules
