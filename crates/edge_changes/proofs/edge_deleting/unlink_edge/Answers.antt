use Rattle.std.proofs.Common.{◌≢◌, ◌⊎◌, inl, inr, refl, subst, sym, rules}
use Rattle.chain_edit.specs.Heads.{head_of}
use Rattle.change_parts.specs.ChangeFault.{IsOutside, of_fault}
use Rattle.change_parts.specs.Damage.{BlamesBroken, IfBlames}
use Rattle.edge_changes.specs.EdgeDeleting.{IsBareEdge, IsPartedDamage, IsUndroppedDamage, PartsEdge, WritesEnds, WritesTaken}
use Rattle.edge_changes.specs.EdgeEnds.{AreApart, AtEach, HasHead}
use Rattle.edge_changes.specs.declared.edge_end.EdgeEnd.{EdgeEnd}
use Rattle.edge_changes.specs.declared.edge_end.Ends.TheVariants.{Loop, Two}
use Rattle.change_parts.proofs.Broken.{blames_more}
use Rattle.edge_changes.proofs.Broken.{break_left}
use Rattle.change_parts.proofs.DiskCauses.{fault_cause_passed, later_on}
use Rattle.edge_changes.proofs.EdgeDrops.{close_blamed, later_blamed}
use Rattle.edge_changes.proofs.EdgeCuts.{placed_heads}
use Rattle.edge_changes.proofs.EdgeClosed.{loop_taken, pair_taken, source_closes, target_closes}
use Rattle.edge_changes.proofs.EdgeGone.{edge_beside}
use Rattle.edge_changes.proofs.EndWrites.{ends_taken, source_taken, target_taken}
use Rattle.change_parts.proofs.Exits.{fault_exit, fault_outside}
use Rattle.rec_bytes.proofs.Causes.{never_ok}
use Rattle.edge_changes.proofs.edge_deleting.unlink_edge.Goals as goal

-- ---- why it fails
pub returns-in_err-part_edge-clause-not_damaged : goal.returns-in_err-part_edge-clause-not_damaged
returns-in_err-part_edge-clause-not_damaged g c tells names store bare =
    fault_exit (λ f. f) IsOutside c.in_err-part_edge.field-0.0 c.from_residual.result c.from_residual.ensures.1
    (c.in_err-part_edge.ensures.not_damaged tells names store bare)

pub returns-in_err-close_chain-in-Loop-clause-not_damaged : goal.returns-in_err-close_chain-in-Loop-clause-not_damaged
returns-in_err-close_chain-in-Loop-clause-not_damaged g c tells names store bare =
    let s = g.S.Reads.state c.args.space.now in
    let u = g.S.Reads.state c.part_edge.new.space in
    let parts = subst (PartsEdge s u names c.args.id) c.in-Loop.is (c.in_ok-part_edge.ensures.parted tells names store bare) in
    fault_exit of_fault IsOutside c.in_err-close_chain-in-Loop.field-0.0 c.from_residual-in_err-close_chain-in-Loop.result
    c.from_residual-in_err-close_chain-in-Loop.ensures.1
    (fault_outside Unit c.in_err-close_chain-in-Loop.field-0.0 (c.in_err-close_chain-in-Loop.ensures.not_damaged tells _ _
    (source_closes s u names c.args.id (Loop c.in-Loop.end) (subst (IsBareEdge s c.args.id) c.in-Loop.is bare) parts)))

pub returns-in_err-close_chain-in-Two-clause-not_damaged : goal.returns-in_err-close_chain-in-Two-clause-not_damaged
returns-in_err-close_chain-in-Two-clause-not_damaged g c tells names store bare =
    let s = g.S.Reads.state c.args.space.now in
    let u = g.S.Reads.state c.part_edge.new.space in
    let parts = subst (PartsEdge s u names c.args.id) c.in-Two.is (c.in_ok-part_edge.ensures.parted tells names store bare) in
    fault_exit of_fault IsOutside c.in_err-close_chain-in-Two.field-0.0 c.from_residual-in_err-close_chain-in-Two.result
    c.from_residual-in_err-close_chain-in-Two.ensures.1
    (fault_outside Unit c.in_err-close_chain-in-Two.field-0.0 (c.in_err-close_chain-in-Two.ensures.not_damaged tells _ _
    (source_closes s u names c.args.id (Two c.in-Two.source c.in-Two.target) (subst (IsBareEdge s c.args.id) c.in-Two.is bare) parts)))

pub returns-in_err-close_chain-in-Two-2-clause-not_damaged : goal.returns-in_err-close_chain-in-Two-2-clause-not_damaged
returns-in_err-close_chain-in-Two-2-clause-not_damaged g c tells names store bare =
    let s = g.S.Reads.state c.args.space.now in
    let u = g.S.Reads.state c.part_edge.new.space in
    let v = g.S.Reads.state c.close_chain-in-Two.new.space in
    let ends = Two c.in-Two.source c.in-Two.target in
    let here = subst (IsBareEdge s c.args.id) c.in-Two.is bare in
    let parts = subst (PartsEdge s u names c.args.id) c.in-Two.is (c.in_ok-part_edge.ensures.parted tells names store bare) in
    let differ : c.in-Two.source.node ≢ c.in-Two.target.node = subst (AreApart (λ (end : EdgeEnd). end.node)) c.in-Two.is c.requires.ends.apart in
    fault_exit of_fault IsOutside c.in_err-close_chain-in-Two-2.field-0.0 c.from_residual-in_err-close_chain-in-Two-2.result
    c.from_residual-in_err-close_chain-in-Two-2.ensures.1
    (fault_outside Unit c.in_err-close_chain-in-Two-2.field-0.0 (c.in_err-close_chain-in-Two-2.ensures.not_damaged tells _ _
    (target_closes s u names c.args.id ends here parts v (c.in_ok-close_chain-in-Two.ensures.closed tells _ _ (source_closes s u names c.args.id ends here
    parts)) differ refl)))

-- ---- what it leaves
pub returns-in_ok-close_chain-in-Loop-clause-taken : goal.returns-in_ok-close_chain-in-Loop-clause-taken
returns-in_ok-close_chain-in-Loop-clause-taken g c tells names store bare =
    let s = g.S.Reads.state c.args.space.now in
    let u = g.S.Reads.state c.part_edge.new.space in
    let v = g.S.Reads.state c.close_chain.new.space in
    let ends = Loop c.in-Loop.end in
    let here = subst (IsBareEdge s c.args.id) c.in-Loop.is bare in
    let parts = subst (PartsEdge s u names c.args.id) c.in-Loop.is (c.in_ok-part_edge.ensures.parted tells names store bare) in
    loop_taken s u names c.args.id ends here parts v (c.in_ok-close_chain-in-Loop.ensures.closed tells _ _ (source_closes s u names c.args.id ends here parts))
    refl

pub returns-in_ok-close_chain-in-Two-2-clause-taken : goal.returns-in_ok-close_chain-in-Two-2-clause-taken
returns-in_ok-close_chain-in-Two-2-clause-taken g c tells names store bare =
    let s = g.S.Reads.state c.args.space.now in
    let u = g.S.Reads.state c.part_edge.new.space in
    let v = g.S.Reads.state c.close_chain-in-Two.new.space in
    let w = g.S.Reads.state c.close_chain-in-Two-2.new.space in
    let ends = Two c.in-Two.source c.in-Two.target in
    let here = subst (IsBareEdge s c.args.id) c.in-Two.is bare in
    let parts = subst (PartsEdge s u names c.args.id) c.in-Two.is (c.in_ok-part_edge.ensures.parted tells names store bare) in
    let differ : c.in-Two.source.node ≢ c.in-Two.target.node = subst (AreApart (λ (end : EdgeEnd). end.node)) c.in-Two.is c.requires.ends.apart in
    let closed = c.in_ok-close_chain-in-Two.ensures.closed tells _ _ (source_closes s u names c.args.id ends here parts) in
    pair_taken s u names c.args.id ends here parts v closed w (c.in_ok-close_chain-in-Two-2.ensures.closed tells _ _ (target_closes s u names c.args.id ends
    here parts v closed differ refl))

-- ---- what it writes
pub returns-in_err-part_edge-clause-writes : goal.returns-in_err-part_edge-clause-writes
returns-in_err-part_edge-clause-writes g c = ends_taken _ _ c.args.id c.args.ends c.part_edge.ensures.writes

pub returns-in_err-close_chain-in-Loop-clause-writes : goal.returns-in_err-close_chain-in-Loop-clause-writes
returns-in_err-close_chain-in-Loop-clause-writes g c =
    let s = g.S.Reads.state c.args.space.now in
    let u = g.S.Reads.state c.part_edge.new.space in
    let v = g.S.Reads.state c.close_chain.new.space in
    subst (WritesTaken s v c.args.id) (sym c.in-Loop.is) (source_taken s u c.args.id (Loop c.in-Loop.end) (subst (WritesEnds s u c.args.id) c.in-Loop.is
    c.part_edge.ensures.writes) v c.close_chain.ensures.writes)

pub returns-in_ok-close_chain-in-Loop-clause-writes : goal.returns-in_ok-close_chain-in-Loop-clause-writes
returns-in_ok-close_chain-in-Loop-clause-writes g c =
    let s = g.S.Reads.state c.args.space.now in
    let u = g.S.Reads.state c.part_edge.new.space in
    let v = g.S.Reads.state c.close_chain.new.space in
    subst (WritesTaken s v c.args.id) (sym c.in-Loop.is) (source_taken s u c.args.id (Loop c.in-Loop.end) (subst (WritesEnds s u c.args.id) c.in-Loop.is
    c.part_edge.ensures.writes) v c.close_chain.ensures.writes)

pub returns-in_err-close_chain-in-Two-clause-writes : goal.returns-in_err-close_chain-in-Two-clause-writes
returns-in_err-close_chain-in-Two-clause-writes g c =
    let s = g.S.Reads.state c.args.space.now in
    let u = g.S.Reads.state c.part_edge.new.space in
    let v = g.S.Reads.state c.close_chain-in-Two.new.space in
    subst (WritesTaken s v c.args.id) (sym c.in-Two.is) (source_taken s u c.args.id (Two c.in-Two.source c.in-Two.target) (subst (WritesEnds s u c.args.id)
    c.in-Two.is c.part_edge.ensures.writes) v c.close_chain-in-Two.ensures.writes)

pub returns-in_err-close_chain-in-Two-2-clause-writes : goal.returns-in_err-close_chain-in-Two-2-clause-writes
returns-in_err-close_chain-in-Two-2-clause-writes g c =
    let s = g.S.Reads.state c.args.space.now in
    let u = g.S.Reads.state c.part_edge.new.space in
    let v = g.S.Reads.state c.close_chain-in-Two.new.space in
    let w = g.S.Reads.state c.close_chain-in-Two-2.new.space in
    subst (WritesTaken s w c.args.id) (sym c.in-Two.is)
    (target_taken s u c.args.id (Two c.in-Two.source c.in-Two.target) (subst (WritesEnds s u c.args.id) c.in-Two.is c.part_edge.ensures.writes)
    v c.close_chain-in-Two.ensures.writes w c.close_chain-in-Two-2.ensures.writes)

pub returns-in_ok-close_chain-in-Two-2-clause-writes : goal.returns-in_ok-close_chain-in-Two-2-clause-writes
returns-in_ok-close_chain-in-Two-2-clause-writes g c =
    let s = g.S.Reads.state c.args.space.now in
    let u = g.S.Reads.state c.part_edge.new.space in
    let v = g.S.Reads.state c.close_chain-in-Two.new.space in
    let w = g.S.Reads.state c.close_chain-in-Two-2.new.space in
    subst (WritesTaken s w c.args.id) (sym c.in-Two.is)
    (target_taken s u c.args.id (Two c.in-Two.source c.in-Two.target) (subst (WritesEnds s u c.args.id) c.in-Two.is c.part_edge.ensures.writes)
    v c.close_chain-in-Two.ensures.writes w c.close_chain-in-Two-2.ensures.writes)

pub returns-in_err-close_chain-in-Loop-clause-cause : goal.returns-in_err-close_chain-in-Loop-clause-cause
returns-in_err-close_chain-in-Loop-clause-cause g c =
    fault_cause_passed _ _ _ c.from_residual-in_err-close_chain-in-Loop.result c.in_err-close_chain-in-Loop.field-0.0 c.in_ok-part_edge.ensures.cause.later
    c.in_err-close_chain-in-Loop.ensures.cause c.from_residual-in_err-close_chain-in-Loop.ensures.1

pub returns-in_err-close_chain-in-Two-clause-cause : goal.returns-in_err-close_chain-in-Two-clause-cause
returns-in_err-close_chain-in-Two-clause-cause g c =
    fault_cause_passed _ _ _ c.from_residual-in_err-close_chain-in-Two.result c.in_err-close_chain-in-Two.field-0.0 c.in_ok-part_edge.ensures.cause.later
    c.in_err-close_chain-in-Two.ensures.cause c.from_residual-in_err-close_chain-in-Two.ensures.1

pub returns-in_err-close_chain-in-Two-2-clause-cause : goal.returns-in_err-close_chain-in-Two-2-clause-cause
returns-in_err-close_chain-in-Two-2-clause-cause g c =
    fault_cause_passed _ _ _ c.from_residual-in_err-close_chain-in-Two-2.result c.in_err-close_chain-in-Two-2.field-0.0
    (later_on c.in_ok-part_edge.ensures.cause.later c.in_ok-close_chain-in-Two.ensures.cause.later) c.in_err-close_chain-in-Two-2.ensures.cause
    c.from_residual-in_err-close_chain-in-Two-2.ensures.1

-- ---- which record is blamed
pub returns-in_err-part_edge-clause-damaged : goal.returns-in_err-part_edge-clause-damaged
returns-in_err-part_edge-clause-damaged g c tells row edge =
    let s = g.S.Reads.state c.args.space.now in
    fault_exit (λ f. f) (IfBlames (λ damage. IsPartedDamage s c.args.id row.from row.to damage ⊎ IsUndroppedDamage s damage)) c.in_err-part_edge.field-0.0
    c.from_residual.result c.from_residual.ensures.1
    (blames_more _ _ (λ damage told. inl told) c.in_err-part_edge.field-0.0 (c.in_err-part_edge.ensures.damaged tells row edge))

pub returns-in_err-close_chain-in-Loop-clause-damaged : goal.returns-in_err-close_chain-in-Loop-clause-damaged
returns-in_err-close_chain-in-Loop-clause-damaged g c tells row edge =
    let s = g.S.Reads.state c.args.space.now in
    let u = g.S.Reads.state c.part_edge.new.space in
    let end = c.in-Loop.end in
    let heads = placed_heads s.records row c.args.ends edge.places in
    let was = subst (AtEach (HasHead s.records)) c.in-Loop.is heads in
    let now = c.in_ok-part_edge.ensures.heads tells heads (head_of end.head) end.node was in
    let fault = c.in_err-close_chain-in-Loop.field-0.0 in
    let told = c.in_err-close_chain-in-Loop.ensures in
    fault_exit of_fault (IfBlames (λ damage. IsPartedDamage s c.args.id row.from row.to damage ⊎ IsUndroppedDamage s damage)) fault
    c.from_residual-in_err-close_chain-in-Loop.result c.from_residual-in_err-close_chain-in-Loop.ensures.1
    (blames_more _ _ (λ damage told. inr told) (of_fault fault) (close_blamed s u (head_of end.head) end.node (c.in_ok-part_edge.ensures.groups tells heads)
    was now told.grouped fault (told.damaged tells)))

pub returns-in_err-close_chain-in-Two-clause-damaged : goal.returns-in_err-close_chain-in-Two-clause-damaged
returns-in_err-close_chain-in-Two-clause-damaged g c tells row edge =
    let s = g.S.Reads.state c.args.space.now in
    let u = g.S.Reads.state c.part_edge.new.space in
    let end = c.in-Two.source in
    let heads = placed_heads s.records row c.args.ends edge.places in
    let has = subst (AtEach (HasHead s.records)) c.in-Two.is heads in
    let now = c.in_ok-part_edge.ensures.heads tells heads (head_of end.head) end.node has.0 in
    let fault = c.in_err-close_chain-in-Two.field-0.0 in
    let told = c.in_err-close_chain-in-Two.ensures in
    fault_exit of_fault (IfBlames (λ damage. IsPartedDamage s c.args.id row.from row.to damage ⊎ IsUndroppedDamage s damage)) fault
    c.from_residual-in_err-close_chain-in-Two.result c.from_residual-in_err-close_chain-in-Two.ensures.1
    (blames_more _ _ (λ damage told. inr told) (of_fault fault) (close_blamed s u (head_of end.head) end.node (c.in_ok-part_edge.ensures.groups tells heads)
    has.0 now told.grouped fault (told.damaged tells)))

pub returns-in_err-close_chain-in-Two-2-clause-damaged : goal.returns-in_err-close_chain-in-Two-2-clause-damaged
returns-in_err-close_chain-in-Two-2-clause-damaged g c tells row edge =
    let s = g.S.Reads.state c.args.space.now in
    let u = g.S.Reads.state c.part_edge.new.space in
    let v = g.S.Reads.state c.close_chain-in-Two.new.space in
    let source = c.in-Two.source in
    let end = c.in-Two.target in
    let differ : source.node ≢ end.node = subst (AreApart (λ (end : EdgeEnd). end.node)) c.in-Two.is c.requires.ends.apart in
    let heads = placed_heads s.records row c.args.ends edge.places in
    let has = subst (AtEach (HasHead s.records)) c.in-Two.is heads in
    let kept = c.in_ok-part_edge.ensures.heads tells heads in
    let first = kept (head_of source.head) source.node has.0 in
    let mid = kept (head_of end.head) end.node has.1 in
    let now = c.in_ok-close_chain-in-Two.ensures.heads tells first (head_of end.head) end.node (λ e. differ (sym e)) mid in
    let fault = c.in_err-close_chain-in-Two-2.field-0.0 in
    let told = c.in_err-close_chain-in-Two-2.ensures in
    fault_exit of_fault (IfBlames (λ damage. IsPartedDamage s c.args.id row.from row.to damage ⊎ IsUndroppedDamage s damage)) fault
    c.from_residual-in_err-close_chain-in-Two-2.result c.from_residual-in_err-close_chain-in-Two-2.ensures.1
    (blames_more _ _ (λ damage told. inr told) (of_fault fault) (later_blamed s u v (head_of end.head) source.node end.node
    (c.in_ok-part_edge.ensures.groups tells heads) (c.in_ok-close_chain-in-Two.ensures.others tells first)
    (λ e. differ (sym e)) has.1 mid now told.grouped fault (told.damaged tells)))

-- ---- in the space as it is left
pub returns-in_err-part_edge-clause-damaged_after : goal.returns-in_err-part_edge-clause-damaged_after
returns-in_err-part_edge-clause-damaged_after g c tells row edge =
    fault_exit (λ f. f) (BlamesBroken (g.S.Reads.state c.part_edge.new.space)) c.in_err-part_edge.field-0.0 c.from_residual.result c.from_residual.ensures.1
    (c.in_err-part_edge.ensures.damaged_after tells row edge)

pub returns-in_err-close_chain-in-Loop-clause-damaged_after : goal.returns-in_err-close_chain-in-Loop-clause-damaged_after
returns-in_err-close_chain-in-Loop-clause-damaged_after g c tells row edge =
    let s = g.S.Reads.state c.args.space.now in
    let v = g.S.Reads.state c.close_chain.new.space in
    let end = c.in-Loop.end in
    let heads = placed_heads s.records row c.args.ends edge.places in
    let now = c.in_ok-part_edge.ensures.heads tells heads (head_of end.head) end.node (subst (AtEach (HasHead s.records)) c.in-Loop.is heads) in
    let fault = c.in_err-close_chain-in-Loop.field-0.0 in
    fault_exit of_fault (BlamesBroken v) fault c.from_residual-in_err-close_chain-in-Loop.result c.from_residual-in_err-close_chain-in-Loop.ensures.1
    (break_left (g.S.Reads.state c.part_edge.new.space) v fault (c.in_err-close_chain-in-Loop.ensures.breaks tells now)
    c.in_err-close_chain-in-Loop.ensures.unwritten)

pub returns-in_err-close_chain-in-Two-clause-damaged_after : goal.returns-in_err-close_chain-in-Two-clause-damaged_after
returns-in_err-close_chain-in-Two-clause-damaged_after g c tells row edge =
    let s = g.S.Reads.state c.args.space.now in
    let v = g.S.Reads.state c.close_chain-in-Two.new.space in
    let end = c.in-Two.source in
    let heads = placed_heads s.records row c.args.ends edge.places in
    let now = c.in_ok-part_edge.ensures.heads tells heads (head_of end.head) end.node (subst (AtEach (HasHead s.records)) c.in-Two.is heads).0 in
    let fault = c.in_err-close_chain-in-Two.field-0.0 in
    fault_exit of_fault (BlamesBroken v) fault c.from_residual-in_err-close_chain-in-Two.result c.from_residual-in_err-close_chain-in-Two.ensures.1
    (break_left (g.S.Reads.state c.part_edge.new.space) v fault (c.in_err-close_chain-in-Two.ensures.breaks tells now)
    c.in_err-close_chain-in-Two.ensures.unwritten)

pub returns-in_err-close_chain-in-Two-2-clause-damaged_after : goal.returns-in_err-close_chain-in-Two-2-clause-damaged_after
returns-in_err-close_chain-in-Two-2-clause-damaged_after g c tells row edge =
    let s = g.S.Reads.state c.args.space.now in
    let w = g.S.Reads.state c.close_chain-in-Two-2.new.space in
    let source = c.in-Two.source in
    let end = c.in-Two.target in
    let differ : source.node ≢ end.node = subst (AreApart (λ (end : EdgeEnd). end.node)) c.in-Two.is c.requires.ends.apart in
    let heads = placed_heads s.records row c.args.ends edge.places in
    let has = subst (AtEach (HasHead s.records)) c.in-Two.is heads in
    let kept = c.in_ok-part_edge.ensures.heads tells heads in
    let others = c.in_ok-close_chain-in-Two.ensures.heads tells (kept (head_of source.head) source.node has.0) in
    let now = others (head_of end.head) end.node (λ e. differ (sym e)) (kept (head_of end.head) end.node has.1) in
    let fault = c.in_err-close_chain-in-Two-2.field-0.0 in
    fault_exit of_fault (BlamesBroken w) fault c.from_residual-in_err-close_chain-in-Two-2.result c.from_residual-in_err-close_chain-in-Two-2.ensures.1
    (break_left (g.S.Reads.state c.close_chain-in-Two.new.space) w fault (c.in_err-close_chain-in-Two-2.ensures.breaks tells now)
    c.in_err-close_chain-in-Two-2.ensures.unwritten)

pub returns-in_err-part_edge-clause-taken : goal.returns-in_err-part_edge-clause-taken
returns-in_err-part_edge-clause-taken g c _ = never_ok c.from_residual.result _ _ c.from_residual.ensures.1

pub returns-in_err-part_edge-clause-onward : goal.returns-in_err-part_edge-clause-onward
returns-in_err-part_edge-clause-onward g c = search rules

pub returns-in_err-close_chain-in-Loop-clause-taken : goal.returns-in_err-close_chain-in-Loop-clause-taken
returns-in_err-close_chain-in-Loop-clause-taken g c _ =
    never_ok c.from_residual-in_err-close_chain-in-Loop.result _ _ c.from_residual-in_err-close_chain-in-Loop.ensures.1

pub returns-in_err-close_chain-in-Two-clause-taken : goal.returns-in_err-close_chain-in-Two-clause-taken
returns-in_err-close_chain-in-Two-clause-taken g c _ =
    never_ok c.from_residual-in_err-close_chain-in-Two.result _ _ c.from_residual-in_err-close_chain-in-Two.ensures.1

pub returns-in_err-close_chain-in-Two-2-clause-taken : goal.returns-in_err-close_chain-in-Two-2-clause-taken
returns-in_err-close_chain-in-Two-2-clause-taken g c _ =
    never_ok c.from_residual-in_err-close_chain-in-Two-2.result _ _ c.from_residual-in_err-close_chain-in-Two-2.ensures.1

-- ---- it is in use no more
pub returns-in_ok-close_chain-in-Loop-clause-gone : goal.returns-in_ok-close_chain-in-Loop-clause-gone
returns-in_ok-close_chain-in-Loop-clause-gone g c tells =
    edge_beside (g.S.Reads.state c.part_edge.new.space) (g.S.Reads.state c.close_chain.new.space) c.args.id
    (c.in_ok-close_chain-in-Loop.ensures.keeps tells) (c.in_ok-part_edge.ensures.gone tells)

pub returns-in_ok-close_chain-in-Two-2-clause-gone : goal.returns-in_ok-close_chain-in-Two-2-clause-gone
returns-in_ok-close_chain-in-Two-2-clause-gone g c tells =
    let u = g.S.Reads.state c.part_edge.new.space in
    let v = g.S.Reads.state c.close_chain-in-Two.new.space in
    let w = g.S.Reads.state c.close_chain-in-Two-2.new.space in
    edge_beside v w c.args.id (c.in_ok-close_chain-in-Two-2.ensures.keeps tells)
    (edge_beside u v c.args.id (c.in_ok-close_chain-in-Two.ensures.keeps tells) (c.in_ok-part_edge.ensures.gone tells))

pub returns-in_err-part_edge-clause-gone : goal.returns-in_err-part_edge-clause-gone
returns-in_err-part_edge-clause-gone g c _ = never_ok c.from_residual.result _ _ c.from_residual.ensures.1

pub returns-in_err-close_chain-in-Loop-clause-gone : goal.returns-in_err-close_chain-in-Loop-clause-gone
returns-in_err-close_chain-in-Loop-clause-gone g c _ =
    never_ok c.from_residual-in_err-close_chain-in-Loop.result _ _ c.from_residual-in_err-close_chain-in-Loop.ensures.1

pub returns-in_err-close_chain-in-Two-clause-gone : goal.returns-in_err-close_chain-in-Two-clause-gone
returns-in_err-close_chain-in-Two-clause-gone g c _ =
    never_ok c.from_residual-in_err-close_chain-in-Two.result _ _ c.from_residual-in_err-close_chain-in-Two.ensures.1

pub returns-in_err-close_chain-in-Two-2-clause-gone : goal.returns-in_err-close_chain-in-Two-2-clause-gone
returns-in_err-close_chain-in-Two-2-clause-gone g c _ =
    never_ok c.from_residual-in_err-close_chain-in-Two-2.result _ _ c.from_residual-in_err-close_chain-in-Two-2.ensures.1
