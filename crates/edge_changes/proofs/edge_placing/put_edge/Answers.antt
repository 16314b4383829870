use Rattle.std.specs.Prelude.{slice_get}
use Rattle.std.proofs.lemmas.Result.{IfErr-weaker}
use Rattle.std.proofs.Common.{◌≡◌, ◌∙◌, ◌+◌, ℕ, List, Some, ap, subst, arith}
use Rattle.rec_bytes.specs.declared.meta.Meta.{Meta}
use Rattle.rec_bytes.specs.declared.record.Rec.{Rec}
use Rattle.rec_bytes.specs.Format as format
use Rattle.rec_bytes.specs.Meta as metas
use Rattle.rel_store.specs.RelRecord.{rel_key}
use Rattle.id_freelist.specs.Taking.{taken_id}
use Rattle.store_rules.specs.Writes.{WritesBeside}
use Rattle.group_store.proofs.OwnGroups.{if_ok}
use Rattle.change_parts.specs.ChangeFault.{IsOutside}
use Rattle.edge_changes.specs.EdgeEnds.{AtEach, source_of}
use Rattle.edge_changes.specs.EdgeOpening.{ends_moved, from_of, to_of}
use Rattle.edge_changes.specs.EdgePlacing.{IsEdgeBetween, PutsEdge, TakesFirst}
use Rattle.change_parts.specs.Store.{IsMidway}
use Rattle.edge_changes.proofs.EdgeOpened.{puts_through}
use Rattle.change_parts.proofs.ElementRooms.{room_still}
use Rattle.change_parts.proofs.Exits.{fault_exit}
use Rattle.change_parts.proofs.NameNumbers.{number_in}
use Rattle.edge_changes.proofs.OpenWrites.{err_more, put_beside, put_failed}
use Rattle.store_rules.proofs.WriteLaws.{beside_more, more_written}
use Rattle.change_parts.proofs.Writes.{on_any_err}
use Rattle.edge_changes.specs.EdgeAdding.{HasEndDegree}
use Rattle.edge_changes.proofs.EdgeBlames.{if_blames}
use Rattle.edge_changes.specs.EdgeAdding.{BlamesChains, IsChainDamage, IsOfEnds, KeepsButChains, groups_needed}
use Rattle.edge_changes.specs.EdgePlacing.{HadFewGroups, IsPutFault}
use Rattle.edge_changes.proofs.FullGroups.{failure_few, failure_put}
use Rattle.edge_changes.specs.EdgeJoining.{IsOfLost}
use Rattle.edge_changes.specs.EdgeEnds.{target_of}
use Rattle.edge_changes.proofs.EdgeFound.{chain_more, chain_then, found_then, lost_ends, lost_kept, marks_kept, on_ok}
use Rattle.rec_bytes.proofs.Causes.{never_ok}
use Rattle.edge_changes.proofs.FreeEdges.{taken_after}
use Rattle.edge_changes.proofs.edge_placing.put_edge.Goals as goal

pub returns-in_err-ends-clause-not_damaged : goal.returns-in_err-ends-clause-not_damaged
returns-in_err-ends-clause-not_damaged g c tells limit names text store at degrees room =
    let s = g.S.Reads.state c.args.space.now in
    fault_exit (λ f. f) IsOutside c.in_err-ends.field-0.0 c.from_residual.result c.from_residual.ensures.1
    (c.in_err-ends.ensures.not_damaged tells names (record {
      limit = limit;
      store = store;
      named = (number_in s.records names c.args.joint.label text store.names
          at).0;
      degrees = degrees;
    }) room)

pub returns-clause-put : goal.returns-clause-put
returns-clause-put g c tells limit =
    let s = g.S.Reads.state c.args.space.now in
    let t = g.S.Reads.state c.open_ends.new.space in
    let u = g.S.Reads.state c.join_edge.new.space in
    let nodes = c.in_ok-ends.ensures.nodes in
    if_ok c.join_edge.result _
    (λ id. (names : List (List ℕ)) (text : List ℕ) → IsMidway s names → slice_get names c.args.joint.label ≡ Some text → AtEach (HasEndDegree s.records)
    c.args.joint.ends
    → PutsEdge s u names (from_of c.args.joint) text (to_of c.args.joint) id)
    (λ id joined names text store at degrees.
    let opens = c.in_ok-ends.ensures.opened tells names (record {
      limit = limit;
      store = store;
      named = (number_in s.records names c.args.joint.label text
          store.names at).0;
      degrees = degrees;
    }) in
    puts_through s t u names (from_of c.args.joint) text (to_of c.args.joint) id opens.keeps
    (subst (λ n. PutsEdge t u names n text (to_of c.args.joint) id) nodes.0 (subst (λ n. PutsEdge t u names (source_of c.in_ok-ends.ends).node text n id)
    nodes.1 (joined names text opens.can at))))
    (c.join_edge.ensures.joined tells)

-- the ends' heads are found or made before, and the relationships' meta record stays
pub returns-clause-is : goal.returns-clause-is
returns-clause-is g c tells =
    let same = ap (λ (r : Rec). taken_id (metas.meta_of r)) (c.in_ok-ends.ensures.meta_record tells) in
    if_ok c.join_edge.result _ _ (λ id taken. taken ∙ same) c.join_edge.ensures.is

pub returns-in_err-ends-clause-is : goal.returns-in_err-ends-clause-is
returns-in_err-ends-clause-is g c _ = never_ok c.from_residual.result _ _ c.from_residual.ensures.1

pub returns-clause-not_damaged : goal.returns-clause-not_damaged
returns-clause-not_damaged g c tells limit names text store at degrees room =
    let s = g.S.Reads.state c.args.space.now in
    let t = g.S.Reads.state c.open_ends.new.space in
    let opens = c.in_ok-ends.ensures.opened tells names (record {
      limit = limit;
      store = store;
      named = (number_in s.records names c.args.joint.label text
          store.names at).0;
      degrees = degrees;
    }) in
    c.join_edge.ensures.not_damaged tells names text opens.can at
    (room_still s t format.relationships_file 1 (ap (λ (m : Meta). m.live) (opens.keeps.metas format.relationships_file (λ e. omega arith))) opens.keeps.shape
    room)

pub returns-clause-writes : goal.returns-clause-writes
returns-clause-writes g c =
    let s = g.S.Reads.state c.args.space.now in
    let t = g.S.Reads.state c.open_ends.new.space in
    let u = g.S.Reads.state c.join_edge.new.space in
    let most = ends_moved c.args.joint.threshold c.args.joint.ends in
    let ends = c.in_ok-ends.ensures.ends in
    if_ok c.join_edge.result _ (λ id. WritesBeside (rel_key id) (8 + most) s u)
    (λ id joins. beside_more (omega arith) (put_beside s t u id c.in_ok-ends.ends (2 + most) ends.each c.in_ok-ends.ensures.wrote joins))
    c.join_edge.ensures.writes

pub returns-in_err-ends-clause-err_writes : goal.returns-in_err-ends-clause-err_writes
returns-in_err-ends-clause-err_writes g c = on_any_err _ _ (more_written (omega arith) c.open_ends.ensures.writes)

pub returns-clause-err_writes : goal.returns-clause-err_writes
returns-clause-err_writes g c =
    let s = g.S.Reads.state c.args.space.now in
    let u = g.S.Reads.state c.join_edge.new.space in
    let ends = c.in_ok-ends.ensures.ends in
    let most = ends_moved c.args.joint.threshold c.args.joint.ends in
    err_more ((6 + most) + 7) (13 + most) s u (omega arith) c.join_edge.result
    (put_failed s (g.S.Reads.state c.open_ends.new.space) u c.in_ok-ends.ends ends.each c.in_ok-ends.ensures.writes c.join_edge.result
    c.join_edge.ensures.err_writes)

-- ---- which record is blamed
pub returns-clause-damaged : goal.returns-clause-damaged
returns-clause-damaged g c tells used limit has =
    let s = g.S.Reads.state c.args.space.now in
    let t = g.S.Reads.state c.open_ends.new.space in
    let room = room_still s t format.relationships_file 1 (ap (λ (r : Rec). (metas.meta_of r).live) (c.in_ok-ends.ensures.meta_record tells))
    (g.met.S.Reads.onward_shape _ _ c.open_ends.ensures.onward) has in
    c.join_edge.ensures.damaged tells (c.in_ok-ends.ensures.has tells used) room

-- ---- which records are other

pub returns-clause-leaves : goal.returns-clause-leaves
returns-clause-leaves g c tells used =
    let s = g.S.Reads.state c.args.space.now in
    let t = g.S.Reads.state c.open_ends.new.space in
    let u = g.S.Reads.state c.join_edge.new.space in
    let from = from_of c.args.joint in
    let to = to_of c.args.joint in
    let ends = c.in_ok-ends.ends in
    let nodes = c.in_ok-ends.ensures.nodes in
    on_ok c.join_edge.result (KeepsButChains t u (source_of ends).node (target_of ends).node) (KeepsButChains s u from to)
    (λ keeps. found_then s t u from to (c.in_ok-ends.ensures.leaves tells)
    (subst (λ n. KeepsButChains t u n to) nodes.0 (subst (KeepsButChains t u (source_of ends).node) nodes.1 keeps)))
    (c.join_edge.ensures.leaves tells (c.in_ok-ends.ensures.has tells used))

pub returns-in_err-ends-clause-leaves : goal.returns-in_err-ends-clause-leaves
returns-in_err-ends-clause-leaves g c _ _ = never_ok c.from_residual.result _ _ c.from_residual.ensures.1

pub returns-in_err-ends-clause-found : goal.returns-in_err-ends-clause-found
returns-in_err-ends-clause-found g c tells used =
    let s = g.S.Reads.state c.args.space.now in
    let t = g.S.Reads.state c.open_ends.new.space in
    fault_exit (λ f. f) (BlamesChains s t (from_of c.args.joint) (to_of c.args.joint)) c.in_err-ends.field-0.0 c.from_residual.result
    c.from_residual.ensures.1 (c.in_err-ends.ensures.found tells)

pub returns-clause-found : goal.returns-clause-found
returns-clause-found g c tells used =
    let s = g.S.Reads.state c.args.space.now in
    let t = g.S.Reads.state c.open_ends.new.space in
    let u = g.S.Reads.state c.join_edge.new.space in
    let from = from_of c.args.joint in
    let to = to_of c.args.joint in
    let ends = c.in_ok-ends.ends in
    let nodes = c.in_ok-ends.ensures.nodes in
    let marks = marks_kept s t from to (c.in_ok-ends.ensures.leaves tells) (c.in_ok-ends.ensures.meta_record tells) in
    let has = c.in_ok-ends.ensures.has tells used in
    let keeps = lost_kept s t ends marks (c.in_ok-ends.ensures.reaches tells used) in
    if_blames c.join_edge.result (IsChainDamage t u (IsOfLost t ends)) (IsChainDamage s u (IsOfEnds from to))
    (λ damage told. chain_more s u (IsOfLost t ends) (IsOfEnds from to) (lost_ends t ends from to nodes.0 nodes.1 has) damage
    (chain_then s t u (IsOfLost t ends) (c.in_ok-ends.ensures.files tells) keeps damage told))
    (c.join_edge.ensures.found tells has)

-- ---- it is in use, leads from one node to the other, and has its type
pub returns-clause-stands : goal.returns-clause-stands
returns-clause-stands g c tells =
    let u = g.S.Reads.state c.join_edge.new.space in
    let from = from_of c.args.joint in
    let to = to_of c.args.joint in
    let ends = c.in_ok-ends.ends in
    let nodes = c.in_ok-ends.ensures.nodes in
    let label = c.args.joint.label in
    if_ok c.join_edge.result (λ id. IsEdgeBetween u.records id (source_of ends).node label (target_of ends).node)
    (λ id. IsEdgeBetween u.records id from label to)
    (λ id stands. subst (λ n. IsEdgeBetween u.records id n label to) nodes.0 (subst (IsEdgeBetween u.records id (source_of ends).node label) nodes.1 stands))
    (c.join_edge.ensures.stands tells)

pub returns-in_err-ends-clause-stands : goal.returns-in_err-ends-clause-stands
returns-in_err-ends-clause-stands g c _ = never_ok c.from_residual.result _ _ c.from_residual.ensures.1

-- ---- which relationships are free
pub returns-clause-free : goal.returns-clause-free
returns-clause-free g c tells =
    let s = g.S.Reads.state c.args.space.now in
    let t = g.S.Reads.state c.open_ends.new.space in
    let u = g.S.Reads.state c.join_edge.new.space in
    on_ok c.join_edge.result (TakesFirst t.records u.records format.relationships_file) (TakesFirst s.records u.records format.relationships_file)
    (taken_after s.records t.records u.records (c.in_ok-ends.ensures.free tells)) (c.join_edge.ensures.free tells)

pub returns-in_err-ends-clause-free : goal.returns-in_err-ends-clause-free
returns-in_err-ends-clause-free g c _ = never_ok c.from_residual.result _ _ c.from_residual.ensures.1

-- ---- a full file of groups, which only the ends tell

pub returns-in_err-ends-clause-failure : goal.returns-in_err-ends-clause-failure
returns-in_err-ends-clause-failure g c tells = fault_exit (λ f. f) (IsPutFault (g.S.Reads.state c.open_ends.new.space)) c.in_err-ends.field-0.0
    c.from_residual.result c.from_residual.ensures.1 (c.in_err-ends.ensures.failure tells)

pub returns-clause-failure : goal.returns-clause-failure
returns-clause-failure g c tells =
    let u = g.S.Reads.state c.join_edge.new.space in
    IfErr-weaker c.join_edge.result _ (IsPutFault u) (failure_put u) c.join_edge.ensures.failure

pub returns-in_err-ends-clause-short : goal.returns-in_err-ends-clause-short
returns-in_err-ends-clause-short g c tells =
    fault_exit (λ f. f) (HadFewGroups (g.S.Reads.state c.args.space.now) (groups_needed c.args.joint.threshold)) c.in_err-ends.field-0.0
    c.from_residual.result c.from_residual.ensures.1 (c.in_err-ends.ensures.short tells)

pub returns-clause-short : goal.returns-clause-short
returns-clause-short g c tells =
    let s = g.S.Reads.state c.args.space.now in
    let most = groups_needed c.args.joint.threshold in
    IfErr-weaker c.join_edge.result _ (HadFewGroups s most) (failure_few s most) c.join_edge.ensures.failure
