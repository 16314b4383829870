use Rattle.std.proofs.Common.{◌≡◌, ◌≢◌, ◌+◌, ◌≤◌, ℕ, List, [], ap, sym, ◌∙◌, subst, arith, refl}
use Rattle.rec_bytes.specs.declared.shape.Shape.{Shape}
use Rattle.chain_edit.specs.Heads.{head_of}
use Rattle.group_store.specs.Opening.{OpensChain, moved_writes}
use Rattle.group_store.specs.declared.side.Side.TheVariants as sides
use Rattle.change_parts.specs.ChangeFault.{IsOutside}
use Rattle.change_parts.specs.Damage.{BlamesBroken}
use Rattle.edge_changes.specs.EdgeAdding.{IsUsedEnd}
use Rattle.edge_changes.specs.EdgeEnds.{AreApart, AtEach}
use Rattle.edge_changes.specs.EdgeJoining.{edge_row}
use Rattle.edge_changes.specs.EdgeOpening.{CanLink, OpensEnds, WritesEndsOpened, ends_moved}
use Rattle.edge_changes.specs.declared.edge_end.EdgeEnd.{EdgeEnd}
use Rattle.edge_changes.specs.declared.edge_end.EndDegree.{EndDegree}
use Rattle.edge_changes.specs.declared.edge_end.Ends.TheVariants.{Loop, Two}
use Rattle.store_rules.proofs.WriteLaws.{beside_written, more_written, then_written}
use Rattle.change_parts.proofs.DiskCauses.{change_cause_passed}
use Rattle.edge_changes.proofs.EdgeOpening.{both_opened, can_link, end_of, in_side, joint_of, loop_opened, loop_side}
use Rattle.edge_changes.proofs.EdgeOpening.{out_side, source_can, source_room, target_can, target_room}
use Rattle.change_parts.proofs.Exits.{fault_exit}
use Rattle.edge_changes.proofs.JoinBlames.{meta_beside, used_beside}
use Rattle.edge_changes.proofs.OpenWrites.{both_wrote}
use Rattle.std.proofs.Common.{inl, inr}
use Rattle.edge_changes.specs.declared.edge_end.Ends.{Ends}
use Rattle.edge_changes.specs.EdgeEnds.{source_of, target_of}
use Rattle.edge_changes.specs.EdgeAdding.{BlamesChains, IsOfEnd, groups_needed}
use Rattle.edge_changes.specs.EdgePlacing.{HadFewGroups, IsPutFault}
use Rattle.edge_changes.proofs.FullGroups.{few_more, few_then}
use Rattle.edge_changes.specs.EdgeOpening.{from_of, to_of}
use Rattle.edge_changes.proofs.EdgeFound.{end_blames, ends_found, found_then, other_beside, these_same}
use Rattle.edge_changes.proofs.HeadsFound.{kept_after, kept_before}
use Rattle.edge_changes.proofs.FileDamages.{files_beside, files_then}
use Rattle.rec_bytes.proofs.Causes.{never_ok}
use Rattle.edge_changes.proofs.FreeEdges.{free_then, head_frees}
use Rattle.edge_changes.proofs.edge_opening.open_ends.Goals as goal
use Rattle.edge_changes.proofs.edge_opening.open_ends.Goals.{In_ok-first-in-Two}
use Rattle.edge_changes.proofs.edge_opening.open_ends.Given.{Over}

-- ---- a loop
pub returns-in_err-only-in-Loop-clause-not_damaged : goal.returns-in_err-only-in-Loop-clause-not_damaged
returns-in_err-only-in-Loop-clause-not_damaged g c tells names can room =
    let s = g.S.Reads.state c.args.space.now in
    let joint = joint_of c.args.joint (Loop c.in-Loop.end) in
    let here = can_link s names c.args.joint (Loop c.in-Loop.end) c.in-Loop.is can in
    fault_exit (λ f. f) IsOutside c.in_err-only-in-Loop.field-0.0 c.from_residual.result c.from_residual.ensures.1
    (c.in_err-only-in-Loop.ensures.not_damaged tells _ [] (source_can s names joint here sides.Loop (loop_side c.in-Loop.end.node) 0)
    (source_room s names joint here room))

pub returns-in_ok-only-in-Loop-clause-opened : goal.returns-in_ok-only-in-Loop-clause-opened
returns-in_ok-only-in-Loop-clause-opened g c tells names can =
    let s = g.S.Reads.state c.args.space.now in
    let t = g.S.Reads.state c.open_end.new.space in
    let end = c.in-Loop.end in
    let joint = joint_of c.args.joint (Loop end) in
    let here = can_link s names c.args.joint (Loop end) c.in-Loop.is can in
    subst (λ (o : EdgeEnd). OpensEnds s t names c.args.joint.label (Loop o)) (sym c.in_ok-only-in-Loop.ensures.is)
    (loop_opened s names joint here t c.in_ok-only-in-Loop.only.head (λ id. c.in_ok-only-in-Loop.ensures.opened tells _ []
    (source_can s names joint here sides.Loop (loop_side end.node) id)) refl)

pub returns-in_err-only-in-Loop-clause-writes : goal.returns-in_err-only-in-Loop-clause-writes
returns-in_err-only-in-Loop-clause-writes g c =
    let count : ends_moved c.args.joint.threshold c.args.joint.ends ≡ moved_writes c.args.joint.threshold c.in-Loop.end.degree =
    ap (ends_moved c.args.joint.threshold) c.in-Loop.is in
    more_written (omega arith) (beside_written refl c.open_end.ensures.writes)

pub returns-in_ok-only-in-Loop-clause-writes : goal.returns-in_ok-only-in-Loop-clause-writes
returns-in_ok-only-in-Loop-clause-writes g c =
    let count : ends_moved c.args.joint.threshold c.args.joint.ends ≡ moved_writes c.args.joint.threshold c.in-Loop.end.degree =
    ap (ends_moved c.args.joint.threshold) c.in-Loop.is in
    more_written (omega arith) (beside_written refl c.open_end.ensures.writes)

pub returns-in_err-only-in-Loop-clause-damaged : goal.returns-in_err-only-in-Loop-clause-damaged
returns-in_err-only-in-Loop-clause-damaged g c tells used limit =
    fault_exit (λ f. f) (BlamesBroken (g.S.Reads.state c.open_end.new.space)) c.in_err-only-in-Loop.field-0.0 c.from_residual.result c.from_residual.ensures.1
    (c.in_err-only-in-Loop.ensures.damaged tells (subst (AtEach (IsUsedEnd (g.S.Reads.state c.args.space.now))) c.in-Loop.is used) (omega (arith, limit)))

pub returns-in_ok-only-in-Loop-clause-meta_record : goal.returns-in_ok-only-in-Loop-clause-meta_record
returns-in_ok-only-in-Loop-clause-meta_record g c tells = meta_beside (g.S.Reads.state c.args.space.now)
    (g.S.Reads.state c.open_end.new.space) c.in-Loop.end.node
    (c.in_ok-only-in-Loop.ensures.leaves_others tells)

pub returns-in_ok-last-in-Two-clause-meta_record : goal.returns-in_ok-last-in-Two-clause-meta_record
returns-in_ok-last-in-Two-clause-meta_record g c tells =
    let s = g.S.Reads.state c.args.space.now in
    let t = g.S.Reads.state c.open_end-in-Two.new.space in
    let u = g.S.Reads.state c.open_end-in-Two-2.new.space in
    meta_beside t u c.in-Two.target.node (c.in_ok-last-in-Two.ensures.leaves_others tells)
    ∙ meta_beside s t c.in-Two.source.node (c.in_ok-first-in-Two.ensures.leaves_others tells)

-- ---- two nodes
pub returns-in_err-first-in-Two-clause-not_damaged : goal.returns-in_err-first-in-Two-clause-not_damaged
returns-in_err-first-in-Two-clause-not_damaged g c tells names can room =
    let s = g.S.Reads.state c.args.space.now in
    let a = c.in-Two.source in
    let b = c.in-Two.target in
    let joint = joint_of c.args.joint (Two a b) in
    let here = can_link s names c.args.joint (Two a b) c.in-Two.is can in
    let differ : a.node ≢ b.node = subst (AreApart (λ (end : EndDegree). end.node)) c.in-Two.is c.requires.apart in
    fault_exit (λ f. f) IsOutside c.in_err-first-in-Two.field-0.0 c.from_residual-in_err-first-in-Two.result c.from_residual-in_err-first-in-Two.ensures.1
    (c.in_err-first-in-Two.ensures.not_damaged tells _ [] (source_can s names joint here sides.Out (out_side a.node b.node differ) 0)
    (source_room s names joint here room))

-- the ends are at two nodes
differs : (g : Over) (c : In_ok-first-in-Two g) → c.in-Two.source.node ≢ c.in-Two.target.node
differs g c = subst (AreApart (λ (end : EndDegree). end.node)) c.in-Two.is c.requires.apart

here_can : (g : Over) (c : In_ok-first-in-Two g) (names : List (List ℕ)) → CanLink (g.S.Reads.state c.args.space.now) names c.args.joint
    → CanLink (g.S.Reads.state c.args.space.now) names (joint_of c.args.joint (Two c.in-Two.source c.in-Two.target))
here_can g c names can = can_link (g.S.Reads.state c.args.space.now) names c.args.joint (Two c.in-Two.source c.in-Two.target) c.in-Two.is can

-- the source's head is open
first_open : (g : Over) (c : In_ok-first-in-Two g) → g.S.Reads.tells → (names : List (List ℕ)) → CanLink (g.S.Reads.state c.args.space.now) names c.args.joint
    → (id : ℕ)
    → OpensChain (g.S.Reads.state c.args.space.now) (g.S.Reads.state c.open_end-in-Two.new.space) (head_of c.in_ok-first-in-Two.first.head) c.in-Two.source.node
    (edge_row id c.args.joint.label c.in-Two.source.node c.in-Two.target.node) []
first_open g c tells names can id =
    c.in_ok-first-in-Two.ensures.opened tells _ [] (source_can (g.S.Reads.state c.args.space.now) names (joint_of c.args.joint
    (Two c.in-Two.source c.in-Two.target)) (here_can g c names can) sides.Out (out_side c.in-Two.source.node c.in-Two.target.node (differs g c)) id)

pub returns-in_err-last-in-Two-clause-not_damaged : goal.returns-in_err-last-in-Two-clause-not_damaged
returns-in_err-last-in-Two-clause-not_damaged g c tells names can room =
    let at = (goal.at.returns-in_err-last-in-Two-clause-not_damaged g c).In_ok-first-in-Two in
    let s = g.S.Reads.state c.args.space.now in
    let t = g.S.Reads.state c.open_end-in-Two.new.space in
    let joint = joint_of c.args.joint (Two c.in-Two.source c.in-Two.target) in
    let here = here_can g at names can in
    let head = c.in_ok-first-in-Two.first.head in
    let one = first_open g at tells names can in
    let differ = differs g at in
    fault_exit (λ f. f) IsOutside c.in_err-last-in-Two.field-0.0 c.from_residual-in_err-last-in-Two.result c.from_residual-in_err-last-in-Two.ensures.1
    (c.in_err-last-in-Two.ensures.not_damaged tells _ _ (target_can s names joint here t head one differ sides.In
    (in_side c.in-Two.source.node c.in-Two.target.node
    differ) 0) (target_room s names joint here t head one differ room))

pub returns-in_ok-last-in-Two-clause-opened : goal.returns-in_ok-last-in-Two-clause-opened
returns-in_ok-last-in-Two-clause-opened g c tells names can =
    let at = (goal.at.returns-in_ok-last-in-Two-clause-opened g c).In_ok-first-in-Two in
    let s = g.S.Reads.state c.args.space.now in
    let t = g.S.Reads.state c.open_end-in-Two.new.space in
    let u = g.S.Reads.state c.open_end-in-Two-2.new.space in
    let joint = joint_of c.args.joint (Two c.in-Two.source c.in-Two.target) in
    let here = here_can g at names can in
    let head = c.in_ok-first-in-Two.first.head in
    let one = first_open g at tells names can in
    let differ = differs g at in
    subst (λ (e : EdgeEnd). OpensEnds s u names c.args.joint.label (Two e c.in_ok-last-in-Two.last)) (sym c.in_ok-first-in-Two.ensures.is)
    (subst (λ (e : EdgeEnd). OpensEnds s u names c.args.joint.label (Two (end_of c.in-Two.source.node head c.in-Two.source.degree) e))
    (sym c.in_ok-last-in-Two.ensures.is)
    (both_opened s names joint here t head one differ u c.in_ok-last-in-Two.last.head
    (λ id. c.in_ok-last-in-Two.ensures.opened tells _ _ (target_can s names joint here t head one differ sides.In
    (in_side c.in-Two.source.node c.in-Two.target.node differ) id))))

-- ---- what is written
pub returns-in_err-first-in-Two-clause-writes : goal.returns-in_err-first-in-Two-clause-writes
returns-in_err-first-in-Two-clause-writes g c =
    let threshold = c.args.joint.threshold in
    let count : ends_moved threshold c.args.joint.ends ≡ moved_writes threshold c.in-Two.source.degree + moved_writes threshold c.in-Two.target.degree =
    ap (ends_moved threshold) c.in-Two.is in
    more_written (omega arith) (beside_written refl c.open_end-in-Two.ensures.writes)

pub returns-in_err-last-in-Two-clause-writes : goal.returns-in_err-last-in-Two-clause-writes
returns-in_err-last-in-Two-clause-writes g c =
    let threshold = c.args.joint.threshold in
    let count : ends_moved threshold c.args.joint.ends ≡ moved_writes threshold c.in-Two.source.degree + moved_writes threshold c.in-Two.target.degree =
    ap (ends_moved threshold) c.in-Two.is in
    more_written (omega arith) (then_written (beside_written refl c.open_end-in-Two.ensures.writes) (beside_written refl c.open_end-in-Two-2.ensures.writes))

pub returns-in_ok-last-in-Two-clause-writes : goal.returns-in_ok-last-in-Two-clause-writes
returns-in_ok-last-in-Two-clause-writes g c =
    let threshold = c.args.joint.threshold in
    let count : ends_moved threshold c.args.joint.ends ≡ moved_writes threshold c.in-Two.source.degree + moved_writes threshold c.in-Two.target.degree =
    ap (ends_moved threshold) c.in-Two.is in
    more_written (omega arith) (then_written (beside_written refl c.open_end-in-Two.ensures.writes) (beside_written refl c.open_end-in-Two-2.ensures.writes))

pub returns-in_ok-last-in-Two-clause-wrote : goal.returns-in_ok-last-in-Two-clause-wrote
returns-in_ok-last-in-Two-clause-wrote g c =
    let s = g.S.Reads.state c.args.space.now in
    let t = g.S.Reads.state c.open_end-in-Two.new.space in
    let u = g.S.Reads.state c.open_end-in-Two-2.new.space in
    let a = c.in-Two.source in
    let b = c.in-Two.target in
    let threshold = c.args.joint.threshold in
    let most = 2 + ends_moved threshold c.args.joint.ends in
    let count : ends_moved threshold c.args.joint.ends ≡ moved_writes threshold a.degree + moved_writes threshold b.degree =
    ap (ends_moved threshold) c.in-Two.is in
    subst (λ (e : EdgeEnd). WritesEndsOpened s u (Two e c.in_ok-last-in-Two.last) most) (sym c.in_ok-first-in-Two.ensures.is)
    (subst (λ (e : EdgeEnd). WritesEndsOpened s u (Two (end_of a.node c.in_ok-first-in-Two.first.head a.degree) e) most) (sym c.in_ok-last-in-Two.ensures.is)
    (both_wrote s t u (end_of a.node c.in_ok-first-in-Two.first.head a.degree) (end_of b.node c.in_ok-last-in-Two.last.head b.degree) (omega arith)
    c.in_ok-first-in-Two.ensures.wrote c.in_ok-last-in-Two.ensures.wrote))

pub returns-in_err-last-in-Two-clause-cause : goal.returns-in_err-last-in-Two-clause-cause
returns-in_err-last-in-Two-clause-cause g c =
    change_cause_passed _ _ _ c.from_residual-in_err-last-in-Two.result c.in_err-last-in-Two.field-0.0 c.in_ok-first-in-Two.ensures.cause.later
    c.in_err-last-in-Two.ensures.cause c.from_residual-in_err-last-in-Two.ensures.1

-- ---- which record is blamed
pub returns-in_err-first-in-Two-clause-damaged : goal.returns-in_err-first-in-Two-clause-damaged
returns-in_err-first-in-Two-clause-damaged g c tells used limit =
    let are = subst (AtEach (IsUsedEnd (g.S.Reads.state c.args.space.now))) c.in-Two.is used in
    fault_exit (λ f. f) (BlamesBroken (g.S.Reads.state c.open_end-in-Two.new.space)) c.in_err-first-in-Two.field-0.0 c.from_residual-in_err-first-in-Two.result
    c.from_residual-in_err-first-in-Two.ensures.1
    (c.in_err-first-in-Two.ensures.damaged tells are.0 (omega (arith, limit)))

pub returns-in_err-last-in-Two-clause-damaged : goal.returns-in_err-last-in-Two-clause-damaged
returns-in_err-last-in-Two-clause-damaged g c tells used limit =
    let s = g.S.Reads.state c.args.space.now in
    let m = g.S.Reads.state c.open_end-in-Two.new.space in
    let t = g.S.Reads.state c.open_end-in-Two-2.new.space in
    let a = c.in-Two.source in
    let b = c.in-Two.target in
    let are = subst (AtEach (IsUsedEnd s)) c.in-Two.is used in
    let now = subst (λ (h : Shape). h.threshold ≤ c.args.joint.threshold) (sym (g.met.S.Reads.onward_shape _ _ c.open_end-in-Two.ensures.onward))
    (omega (arith, limit)) in
    let differ = differs g (goal.at.returns-in_err-last-in-Two-clause-damaged g c).In_ok-first-in-Two in
    let still = used_beside s m a.node b.node (c.in_ok-first-in-Two.ensures.leaves_others tells) (λ (e : b.node ≡ a.node). differ (sym e)) are.1 in
    fault_exit (λ f. f) (BlamesBroken t) c.in_err-last-in-Two.field-0.0 c.from_residual-in_err-last-in-Two.result c.from_residual-in_err-last-in-Two.ensures.1
    (c.in_err-last-in-Two.ensures.damaged tells still now)

-- ---- heads
pub returns-in_ok-only-in-Loop-clause-has : goal.returns-in_ok-only-in-Loop-clause-has
returns-in_ok-only-in-Loop-clause-has g c tells used =
    c.in_ok-only-in-Loop.ensures.has tells (subst (AtEach (IsUsedEnd (g.S.Reads.state c.args.space.now))) c.in-Loop.is used)

pub returns-in_ok-last-in-Two-clause-has : goal.returns-in_ok-last-in-Two-clause-has
returns-in_ok-last-in-Two-clause-has g c tells used =
    let s = g.S.Reads.state c.args.space.now in
    let m = g.S.Reads.state c.open_end-in-Two.new.space in
    let t = g.S.Reads.state c.open_end-in-Two-2.new.space in
    let a = c.in-Two.source in
    let b = c.in-Two.target in
    let are = subst (AtEach (IsUsedEnd s)) c.in-Two.is used in
    let differ = differs g (goal.at.returns-in_ok-last-in-Two-clause-has g c).In_ok-first-in-Two in
    let still = used_beside s m a.node b.node (c.in_ok-first-in-Two.ensures.leaves_others tells) (λ (e : b.node ≡ a.node). differ (sym e)) are.1 in
    let first = c.in_ok-first-in-Two.first in
    let own : first.node ≡ a.node = ap (λ (e : EdgeEnd). e.node) c.in_ok-first-in-Two.ensures.is in (
      c.in_ok-last-in-Two.ensures.heads tells (head_of first.head) first.node (λ (e : first.node ≡ b.node). differ (sym own ∙ e))
          (c.in_ok-first-in-Two.ensures.has tells are.0),
      c.in_ok-last-in-Two.ensures.has tells still,
    )

-- ---- which records are other

pub returns-in_ok-only-in-Loop-clause-leaves : goal.returns-in_ok-only-in-Loop-clause-leaves
returns-in_ok-only-in-Loop-clause-leaves g c tells =
    let own = sym (ap (λ (e : Ends EndDegree). (source_of e).node) c.in-Loop.is) in
    ends_found (g.S.Reads.state c.args.space.now) (g.S.Reads.state c.open_end.new.space) (from_of c.args.joint) (to_of c.args.joint) c.in-Loop.end.node
    (inl own)
    (c.in_ok-only-in-Loop.ensures.leaves tells)

pub returns-in_ok-last-in-Two-clause-leaves : goal.returns-in_ok-last-in-Two-clause-leaves
returns-in_ok-last-in-Two-clause-leaves g c tells =
    let s = g.S.Reads.state c.args.space.now in
    let m = g.S.Reads.state c.open_end-in-Two.new.space in
    let t = g.S.Reads.state c.open_end-in-Two-2.new.space in
    let from = from_of c.args.joint in
    let to = to_of c.args.joint in
    let leaves = sym (ap (λ (e : Ends EndDegree). (source_of e).node) c.in-Two.is) in
    let enters = sym (ap (λ (e : Ends EndDegree). (target_of e).node) c.in-Two.is) in
    found_then s m t from to (ends_found s m from to c.in-Two.source.node (inl leaves) (c.in_ok-first-in-Two.ensures.leaves tells))
    (ends_found m t from to c.in-Two.target.node (inr enters) (c.in_ok-last-in-Two.ensures.leaves tells))

pub returns-in_err-only-in-Loop-clause-leaves : goal.returns-in_err-only-in-Loop-clause-leaves
returns-in_err-only-in-Loop-clause-leaves g c _ = never_ok c.from_residual.result _ _ c.from_residual.ensures.1

pub returns-in_err-first-in-Two-clause-leaves : goal.returns-in_err-first-in-Two-clause-leaves
returns-in_err-first-in-Two-clause-leaves g c _ = never_ok c.from_residual-in_err-first-in-Two.result _ _ c.from_residual-in_err-first-in-Two.ensures.1

pub returns-in_err-last-in-Two-clause-leaves : goal.returns-in_err-last-in-Two-clause-leaves
returns-in_err-last-in-Two-clause-leaves g c _ = never_ok c.from_residual-in_err-last-in-Two.result _ _ c.from_residual-in_err-last-in-Two.ensures.1

pub returns-in_ok-only-in-Loop-clause-files : goal.returns-in_ok-only-in-Loop-clause-files
returns-in_ok-only-in-Loop-clause-files g c tells =
    files_beside (g.S.Reads.state c.args.space.now) (g.S.Reads.state c.open_end.new.space) c.in-Loop.end.node
    (g.met.S.Reads.onward_shape _ _ c.in_ok-only-in-Loop.ensures.onward) (c.in_ok-only-in-Loop.ensures.leaves_others tells)
    (c.in_ok-only-in-Loop.ensures.lists tells)

pub returns-in_ok-last-in-Two-clause-files : goal.returns-in_ok-last-in-Two-clause-files
returns-in_ok-last-in-Two-clause-files g c tells =
    let s = g.S.Reads.state c.args.space.now in
    let m = g.S.Reads.state c.open_end-in-Two.new.space in
    let t = g.S.Reads.state c.open_end-in-Two-2.new.space in
    files_then s m t
    (files_beside s m c.in-Two.source.node (g.met.S.Reads.onward_shape _ _ c.in_ok-first-in-Two.ensures.onward)
    (c.in_ok-first-in-Two.ensures.leaves_others tells)
    (c.in_ok-first-in-Two.ensures.lists tells))
    (files_beside m t c.in-Two.target.node (g.met.S.Reads.onward_shape _ _ c.in_ok-last-in-Two.ensures.onward) (c.in_ok-last-in-Two.ensures.leaves_others tells)
    (c.in_ok-last-in-Two.ensures.lists tells))

pub returns-in_err-only-in-Loop-clause-files : goal.returns-in_err-only-in-Loop-clause-files
returns-in_err-only-in-Loop-clause-files g c _ = never_ok c.from_residual.result _ _ c.from_residual.ensures.1

pub returns-in_err-first-in-Two-clause-files : goal.returns-in_err-first-in-Two-clause-files
returns-in_err-first-in-Two-clause-files g c _ = never_ok c.from_residual-in_err-first-in-Two.result _ _ c.from_residual-in_err-first-in-Two.ensures.1

pub returns-in_err-last-in-Two-clause-files : goal.returns-in_err-last-in-Two-clause-files
returns-in_err-last-in-Two-clause-files g c _ = never_ok c.from_residual-in_err-last-in-Two.result _ _ c.from_residual-in_err-last-in-Two.ensures.1

pub returns-in_err-only-in-Loop-clause-found : goal.returns-in_err-only-in-Loop-clause-found
returns-in_err-only-in-Loop-clause-found g c tells =
    let s = g.S.Reads.state c.args.space.now in
    let t = g.S.Reads.state c.open_end.new.space in
    let from = from_of c.args.joint in
    let to = to_of c.args.joint in
    let own = sym (ap (λ (e : Ends EndDegree). (source_of e).node) c.in-Loop.is) in
    fault_exit (λ f. f) (BlamesChains s t from to) c.in_err-only-in-Loop.field-0.0
    c.from_residual.result c.from_residual.ensures.1
    (end_blames s s t from to c.in-Loop.end.node (inl own) (λ d told. told) (these_same s (IsOfEnd s c.in-Loop.end.node))
    c.in_err-only-in-Loop.field-0.0 (c.in_err-only-in-Loop.ensures.found tells))

pub returns-in_err-first-in-Two-clause-found : goal.returns-in_err-first-in-Two-clause-found
returns-in_err-first-in-Two-clause-found g c tells =
    let s = g.S.Reads.state c.args.space.now in
    let t = g.S.Reads.state c.open_end-in-Two.new.space in
    let from = from_of c.args.joint in
    let to = to_of c.args.joint in
    let leaves = sym (ap (λ (e : Ends EndDegree). (source_of e).node) c.in-Two.is) in
    fault_exit (λ f. f) (BlamesChains s t from to)
    c.in_err-first-in-Two.field-0.0 c.from_residual-in_err-first-in-Two.result
    c.from_residual-in_err-first-in-Two.ensures.1
    (end_blames s s t from to c.in-Two.source.node (inl leaves) (λ d told. told) (these_same s (IsOfEnd s c.in-Two.source.node))
    c.in_err-first-in-Two.field-0.0 (c.in_err-first-in-Two.ensures.found tells))

pub returns-in_err-last-in-Two-clause-found : goal.returns-in_err-last-in-Two-clause-found
returns-in_err-last-in-Two-clause-found g c tells =
    let s = g.S.Reads.state c.args.space.now in
    let m = g.S.Reads.state c.open_end-in-Two.new.space in
    let t = g.S.Reads.state c.open_end-in-Two-2.new.space in
    let from = from_of c.args.joint in
    let to = to_of c.args.joint in
    let enters = sym (ap (λ (e : Ends EndDegree). (target_of e).node) c.in-Two.is) in
    let fault = c.in_err-last-in-Two.field-0.0 in
    let a = c.in-Two.source.node in
    let b = c.in-Two.target.node in
    let differ : a ≢ b = subst (AreApart (λ (end : EndDegree). end.node)) c.in-Two.is c.requires.apart in
    let beside = c.in_ok-first-in-Two.ensures.leaves_others tells in
    fault_exit (λ f. f) (BlamesChains s t from to) fault
    c.from_residual-in_err-last-in-Two.result c.from_residual-in_err-last-in-Two.ensures.1
    (end_blames s m t from to b (inr enters)
    (files_beside s m a (g.met.S.Reads.onward_shape _ _ c.in_ok-first-in-Two.ensures.onward) beside (c.in_ok-first-in-Two.ensures.lists tells))
    (other_beside s m a b (λ (e : b ≡ a). differ (sym e)) beside) fault (c.in_err-last-in-Two.ensures.found tells))

-- ---- where the chains of the heads begin

pub returns-in_ok-only-in-Loop-clause-reaches : goal.returns-in_ok-only-in-Loop-clause-reaches
returns-in_ok-only-in-Loop-clause-reaches g c tells used = c.in_ok-only-in-Loop.ensures.reaches tells

pub returns-in_ok-last-in-Two-clause-reaches : goal.returns-in_ok-last-in-Two-clause-reaches
returns-in_ok-last-in-Two-clause-reaches g c tells used =
    let s = g.S.Reads.state c.args.space.now in
    let m = g.S.Reads.state c.open_end-in-Two.new.space in
    let t = g.S.Reads.state c.open_end-in-Two-2.new.space in
    let a = c.in-Two.source.node in
    let b = c.in-Two.target.node in
    let differ : a ≢ b = subst (AreApart (λ (end : EndDegree). end.node)) c.in-Two.is c.requires.apart in
    let one = c.in_ok-first-in-Two.first in
    let other = c.in_ok-last-in-Two.last in
    let first : one.node ≡ a = ap (λ (e : EdgeEnd). e.node) c.in_ok-first-in-Two.ensures.is in
    let last : other.node ≡ b = ap (λ (e : EdgeEnd). e.node) c.in_ok-last-in-Two.ensures.is in
    let has = returns-in_ok-last-in-Two-clause-has g c tells used in (
      kept_after s m t b one.node (head_of one.head) (λ (e : one.node ≡ b). differ (sym first ∙ e)) (c.in_ok-last-in-Two.ensures.leaves_others tells) has.0
          (c.in_ok-first-in-Two.ensures.reaches tells),
      kept_before s m t a other.node (head_of other.head) (λ (e : other.node ≡ a). differ (sym (sym last ∙ e)))
          (c.in_ok-first-in-Two.ensures.leaves_others tells)
          has.1 (c.in_ok-last-in-Two.ensures.reaches tells),
    )

pub returns-in_err-only-in-Loop-clause-reaches : goal.returns-in_err-only-in-Loop-clause-reaches
returns-in_err-only-in-Loop-clause-reaches g c _ _ = never_ok c.from_residual.result _ _ c.from_residual.ensures.1

pub returns-in_err-first-in-Two-clause-reaches : goal.returns-in_err-first-in-Two-clause-reaches
returns-in_err-first-in-Two-clause-reaches g c _ _ = never_ok c.from_residual-in_err-first-in-Two.result _ _ c.from_residual-in_err-first-in-Two.ensures.1

pub returns-in_err-last-in-Two-clause-reaches : goal.returns-in_err-last-in-Two-clause-reaches
returns-in_err-last-in-Two-clause-reaches g c _ _ = never_ok c.from_residual-in_err-last-in-Two.result _ _ c.from_residual-in_err-last-in-Two.ensures.1

-- ---- how many groups are counted

pub returns-in_ok-only-in-Loop-clause-room : goal.returns-in_ok-only-in-Loop-clause-room
returns-in_ok-only-in-Loop-clause-room g c tells = let one = c.in_ok-only-in-Loop.ensures.room tells in omega (arith, one)

pub returns-in_ok-last-in-Two-clause-room : goal.returns-in_ok-last-in-Two-clause-room
returns-in_ok-last-in-Two-clause-room g c tells =
    let first = c.in_ok-first-in-Two.ensures.room tells in
    let last = c.in_ok-last-in-Two.ensures.room tells in
    omega (arith, first, last)

pub returns-in_err-only-in-Loop-clause-room : goal.returns-in_err-only-in-Loop-clause-room
returns-in_err-only-in-Loop-clause-room g c _ = never_ok c.from_residual.result _ _ c.from_residual.ensures.1

pub returns-in_err-first-in-Two-clause-room : goal.returns-in_err-first-in-Two-clause-room
returns-in_err-first-in-Two-clause-room g c _ = never_ok c.from_residual-in_err-first-in-Two.result _ _ c.from_residual-in_err-first-in-Two.ensures.1

pub returns-in_err-last-in-Two-clause-room : goal.returns-in_err-last-in-Two-clause-room
returns-in_err-last-in-Two-clause-room g c _ = never_ok c.from_residual-in_err-last-in-Two.result _ _ c.from_residual-in_err-last-in-Two.ensures.1

-- ---- which relationships are free

pub returns-in_ok-only-in-Loop-clause-free : goal.returns-in_ok-only-in-Loop-clause-free
returns-in_ok-only-in-Loop-clause-free g c tells =
    head_frees (g.S.Reads.state c.args.space.now) (g.S.Reads.state c.open_end.new.space) c.in-Loop.end.node (c.in_ok-only-in-Loop.ensures.leaves_others tells)

pub returns-in_ok-last-in-Two-clause-free : goal.returns-in_ok-last-in-Two-clause-free
returns-in_ok-last-in-Two-clause-free g c tells =
    let s = g.S.Reads.state c.args.space.now in
    let t = g.S.Reads.state c.open_end-in-Two.new.space in
    let u = g.S.Reads.state c.open_end-in-Two-2.new.space in
    free_then s.records t.records u.records (head_frees s t c.in-Two.source.node (c.in_ok-first-in-Two.ensures.leaves_others tells))
    (head_frees t u c.in-Two.target.node (c.in_ok-last-in-Two.ensures.leaves_others tells))

pub returns-in_err-only-in-Loop-clause-free : goal.returns-in_err-only-in-Loop-clause-free
returns-in_err-only-in-Loop-clause-free g c _ = never_ok c.from_residual.result _ _ c.from_residual.ensures.1

pub returns-in_err-first-in-Two-clause-free : goal.returns-in_err-first-in-Two-clause-free
returns-in_err-first-in-Two-clause-free g c _ = never_ok c.from_residual-in_err-first-in-Two.result _ _ c.from_residual-in_err-first-in-Two.ensures.1

pub returns-in_err-last-in-Two-clause-free : goal.returns-in_err-last-in-Two-clause-free
returns-in_err-last-in-Two-clause-free g c _ = never_ok c.from_residual-in_err-last-in-Two.result _ _ c.from_residual-in_err-last-in-Two.ensures.1

-- ---- a full file of groups

pub returns-in_err-only-in-Loop-clause-failure : goal.returns-in_err-only-in-Loop-clause-failure
returns-in_err-only-in-Loop-clause-failure g c tells =
    fault_exit (λ f. f) (IsPutFault (g.S.Reads.state c.open_end.new.space)) c.in_err-only-in-Loop.field-0.0 c.from_residual.result
    c.from_residual.ensures.1 (c.in_err-only-in-Loop.ensures.failure tells)

pub returns-in_err-first-in-Two-clause-failure : goal.returns-in_err-first-in-Two-clause-failure
returns-in_err-first-in-Two-clause-failure g c tells =
    fault_exit (λ f. f) (IsPutFault (g.S.Reads.state c.open_end-in-Two.new.space)) c.in_err-first-in-Two.field-0.0
    c.from_residual-in_err-first-in-Two.result c.from_residual-in_err-first-in-Two.ensures.1 (c.in_err-first-in-Two.ensures.failure tells)

pub returns-in_err-last-in-Two-clause-failure : goal.returns-in_err-last-in-Two-clause-failure
returns-in_err-last-in-Two-clause-failure g c tells =
    fault_exit (λ f. f) (IsPutFault (g.S.Reads.state c.open_end-in-Two-2.new.space)) c.in_err-last-in-Two.field-0.0
    c.from_residual-in_err-last-in-Two.result c.from_residual-in_err-last-in-Two.ensures.1 (c.in_err-last-in-Two.ensures.failure tells)

pub returns-in_err-only-in-Loop-clause-short : goal.returns-in_err-only-in-Loop-clause-short
returns-in_err-only-in-Loop-clause-short g c tells =
    let s = g.S.Reads.state c.args.space.now in
    let one = c.args.joint.threshold + 1 in
    let most = groups_needed c.args.joint.threshold in
    let fault = c.in_err-only-in-Loop.field-0.0 in
    fault_exit (λ f. f) (HadFewGroups s most) fault c.from_residual.result c.from_residual.ensures.1
    (few_more one most s fault (omega arith) (c.in_err-only-in-Loop.ensures.short tells))

pub returns-in_err-first-in-Two-clause-short : goal.returns-in_err-first-in-Two-clause-short
returns-in_err-first-in-Two-clause-short g c tells =
    let s = g.S.Reads.state c.args.space.now in
    let one = c.args.joint.threshold + 1 in
    let most = groups_needed c.args.joint.threshold in
    let fault = c.in_err-first-in-Two.field-0.0 in
    fault_exit (λ f. f) (HadFewGroups s most) fault c.from_residual-in_err-first-in-Two.result c.from_residual-in_err-first-in-Two.ensures.1
    (few_more one most s fault (omega arith) (c.in_err-first-in-Two.ensures.short tells))

-- the source's groups were made before
pub returns-in_err-last-in-Two-clause-short : goal.returns-in_err-last-in-Two-clause-short
returns-in_err-last-in-Two-clause-short g c tells =
    let s = g.S.Reads.state c.args.space.now in
    let m = g.S.Reads.state c.open_end-in-Two.new.space in
    let one = c.args.joint.threshold + 1 in
    let most = groups_needed c.args.joint.threshold in
    let fault = c.in_err-last-in-Two.field-0.0 in
    fault_exit (λ f. f) (HadFewGroups s most) fault c.from_residual-in_err-last-in-Two.result c.from_residual-in_err-last-in-Two.ensures.1
    (few_more (one + one) most s fault (omega arith) (few_then one one s m fault (g.met.S.Reads.onward_shape _ _ c.in_ok-first-in-Two.ensures.onward)
    (c.in_ok-first-in-Two.ensures.room tells) (c.in_err-last-in-Two.ensures.short tells)))
