use Rattle.std.specs.Prelude.{IfErr}
use Rattle.std.proofs.Common.{◌≡◌, ◌+◌, true, length, ◌∙◌, sym, ap, subst, inl, inr, ⊎_elim, arith, refl, rules}
use Rattle.plain_graph.specs.Graph.{has_node}
use Rattle.plain_graph.specs.Refusals.{change_reasons}
use Rattle.plain_graph.specs.Reply.{EdgeMade}
use Rattle.plain_graph.specs.declared.command.Command.TheVariants as commands
use Rattle.plain_graph.specs.declared.command.Target.TheVariants as targets
use Rattle.rec_bytes.specs.Format as format
use Rattle.rec_bytes.specs.Space.{State, meta_of}
use Rattle.id_freelist.specs.Taking.{taken_id}
use Rattle.rec_bytes.specs.declared.shape.Shape.{Shape}
use Rattle.rel_store.specs.RelRecord.{rel_key}
use Rattle.store_rules.specs.Writes.{WritesBeside}
use Rattle.prop_store.specs.declared.owner.Owner.{Owner}
use Rattle.change_parts.specs.Assigning.{CanPut, HasPropertyRoom, IsPutCause, PutsPairs, assigned_blocks, pairs_of}
use Rattle.change_parts.specs.Change.{IsCounted, IsRefusal, MakesChange}
use Rattle.change_parts.specs.ChangeFault.{IsOutside, LeavesSpace}
use Rattle.change_parts.specs.Damage.{BlamesBroken, KeepsButNames}
use Rattle.edge_changes.specs.EdgeAdding.{BlamesAdded, BlamesChains, HasEndDegree, IsFullOfEdges, IsUsedEnd, KeepsButChains, degrees_weight, groups_needed}
use Rattle.edge_changes.specs.EdgeEnds.{AtEach, source_of, target_of}
use Rattle.edge_changes.specs.EdgePlacing.{HadFewGroups, IsEdgeBetween, PutsEdge}
use Rattle.change_parts.specs.Degrees.{HasDegree}
use Rattle.change_parts.specs.Preparing.{IsPrepared}
use Rattle.change_parts.specs.Store.{IsMidway}
use Rattle.store_rules.specs.Indexes.{AreIndexed, wanted_in}
use Rattle.edge_changes.proofs.EdgeAdded.{can_put, degree_kept, edges_refused, lacks_full, line_refused, made, not_full, put_room, room_kept}
use Rattle.change_parts.proofs.Counted.{absent_counted, counted_read, outside_counted, room_counted}
use Rattle.change_parts.proofs.Elements.{found_there}
use Rattle.change_parts.proofs.KeptIndexes.{midway}
use Rattle.edge_changes.proofs.EdgeStands.{owner_stands}
use Rattle.prop_store.specs.Touching.{LeavesElement}
use Rattle.edge_changes.proofs.EndLaws.{at_more, at_nodes, at_source, at_target}
use Rattle.change_parts.proofs.Exits.{fault_exit, late_leaves}
use Rattle.change_parts.proofs.Readings.{made_read, refused_read, store_read}
use Rattle.edge_changes.proofs.KeptFirst.{first_kept}
use Rattle.change_parts.proofs.Reasons.{outside_refused}
use Rattle.edge_changes.proofs.OpenWrites.{ends_weigh, most_threshold}
use Rattle.store_rules.proofs.WriteLaws.{beside_then, beside_written, more_written, none_written, then_written}
use Rattle.change_parts.proofs.Writes.{on_any_err}
use Rattle.change_parts.specs.Causes.{IsCaused, IsCausedAfter}
use Rattle.change_parts.proofs.Causes.{absent_caused, broken_left, caused_left, caused_read, line_edge, no_edge, node_of, put_caused, room_caused}
use Rattle.change_parts.proofs.DiskCauses.{change_cause_passed, later_on, room_refusal_cause}
use Rattle.change_parts.proofs.Adding.{line_blamed, names_harm_no_lists, no_lists_then, room_blamed}
use Rattle.edge_changes.proofs.FullGroups.{absent_few, edge_caused, few_named, line_few, put_late, room_few, values_few}
use Rattle.edge_changes.proofs.EdgeFound.{broken_added, chains_added, chains_harm_no_lists, lists_added, read_names}
use Rattle.edge_changes.proofs.JoinBlames.{absent_blamed, room_beyond, used_beyond, used_read}
use Rattle.rec_bytes.proofs.Causes.{never_ok, ok_cause}
use Rattle.edge_changes.proofs.FreeEdges.{free_then, names_free, owner_frees, read_frees, taken_after, taken_before}
use Rattle.edge_changes.proofs.edge_adding.add_edge.Goals as goal
use Rattle.edge_changes.proofs.edge_adding.add_edge.Goals.{After-put_properties, In_err-ends, In_err-id}
use Rattle.edge_changes.proofs.edge_adding.add_edge.Goals.{In_err-put_properties, In_ok-ends, In_ok-id, In_ok-prepared}
use Rattle.edge_changes.proofs.edge_adding.add_edge.Goals.{In_ok-put_properties, In_ok-test_room}
use Rattle.edge_changes.proofs.edge_adding.add_edge.Given.{Over}
use Rattle.store_rules.specs.Graph.{graph_in}

-- ---- an end is no node
pub returns-in_err-ends-clause-refused : goal.returns-in_err-ends-clause-refused
returns-in_err-ends-clause-refused g c tells whole =
    let store = midway _ _ whole in
    let s = g.S.Reads.state c.args.space.now in
    let command = commands.Edge c.args.from c.args.label.now c.args.to c.args.pairs.now in
    fault_exit (λ f. f) (IsRefusal s.shape.limit (graph_in s) command) c.in_err-ends.field-0.0 c.from_residual.result c.from_residual.ensures.1
    (c.in_err-ends.ensures.refused tells c.args.names.now.names store c.args.label.now c.args.pairs.now)

-- ---- both are

-- they were only read
degrees_now : (g : Over) (c : In_ok-ends g) → g.S.Reads.tells → AtEach (HasEndDegree (g.S.Reads.state c.end_degrees.new.space).records) c.in_ok-ends.ends
degrees_now g c tells = subst (λ (z : State). AtEach (HasEndDegree z.records) c.in_ok-ends.ends) (sym c.end_degrees.ensures.state)
    (c.in_ok-ends.ensures.found tells)

source_now : (g : Over) (c : In_ok-ends g) → g.S.Reads.tells → HasDegree (g.S.Reads.state c.end_degrees.new.space).records c.args.from
    (source_of c.in_ok-ends.ends).degree
source_now g c tells =
    let n = g.S.Reads.state c.end_degrees.new.space in
    let ends = c.in_ok-ends.ends in
    subst (λ k. HasDegree n.records k (source_of ends).degree) c.in_ok-ends.ensures.ends.leaves
    (at_source (HasEndDegree n.records) ends (degrees_now g c tells))

target_now : (g : Over) (c : In_ok-ends g) → g.S.Reads.tells → HasDegree (g.S.Reads.state c.end_degrees.new.space).records c.args.to
    (target_of c.in_ok-ends.ends).degree
target_now g c tells =
    let n = g.S.Reads.state c.end_degrees.new.space in
    let ends = c.in_ok-ends.ends in
    subst (λ k. HasDegree n.records k (target_of ends).degree) c.in_ok-ends.ensures.ends.enters
    (at_target (HasEndDegree n.records) ends (degrees_now g c tells))

module _ (g : Over) (c : In_ok-ends g) (tells : g.S.Reads.tells) (store : IsMidway (g.S.Reads.state c.args.space.now) c.args.names.now.names) where
  kept : IsMidway (g.S.Reads.state c.end_degrees.new.space) c.args.names.now.names
  kept = store_read (g.S.Reads.state c.args.space.now) (g.S.Reads.state c.end_degrees.new.space) c.args.names.now.names c.end_degrees.ensures.state store

  leaves_node : has_node (graph_in (g.S.Reads.state c.end_degrees.new.space)) c.args.from ≡ true
  leaves_node = found_there (g.S.Reads.state c.end_degrees.new.space) c.args.names.now.names c.args.from (source_of c.in_ok-ends.ends).degree kept
      (source_now g c tells)

  enters_node : has_node (graph_in (g.S.Reads.state c.end_degrees.new.space)) c.args.to ≡ true
  enters_node = found_there (g.S.Reads.state c.end_degrees.new.space) c.args.names.now.names c.args.to (target_of c.in_ok-ends.ends).degree kept
      (target_now g c tells)

pub returns-in_err-test_room-clause-refused : goal.returns-in_err-test_room-clause-refused
returns-in_err-test_room-clause-refused g c tells whole =
    let store = midway _ _ whole in
    let at = (goal.at.returns-in_err-test_room-clause-refused g c).In_ok-ends in
    let s = g.S.Reads.state c.args.space.now in
    let n = g.S.Reads.state c.end_degrees.new.space in
    let names = c.args.names.now.names in
    let command = commands.Edge c.args.from c.args.label.now c.args.to c.args.pairs.now in
    let fault = c.in_err-test_room.field-0.0 in
    let why = c.in_err-test_room.ensures.full in
    fault_exit (λ f. f) (IsRefusal s.shape.limit (graph_in s) command) fault c.from_residual-in_err-test_room.result c.from_residual-in_err-test_room.ensures.1
    (refused_read s n change_reasons command fault c.end_degrees.ensures.state
    (edges_refused n.shape.limit (graph_in n) c.args.from c.args.label.now c.args.to c.args.pairs.now (leaves_node g at tells store)
    (enters_node g at tells store)
    fault _ why.is (lacks_full n names (kept g at tells store) fault why)))

-- ---- there is room for an edge
module _ (g : Over) (c : In_ok-test_room g) (tells : g.S.Reads.tells) (store : IsMidway (g.S.Reads.state c.args.space.now) c.args.names.now.names) where
  room : ¬ IsFullOfEdges (g.S.Reads.state c.end_degrees.new.space)
  room = not_full (g.S.Reads.state c.end_degrees.new.space) c.args.names.now.names (kept g (goal.at.In_ok-test_room g c).In_ok-ends tells store)
      c.in_ok-test_room.ensures.room

pub returns-in_err-prepared-clause-refused : goal.returns-in_err-prepared-clause-refused
returns-in_err-prepared-clause-refused g c tells whole =
    let store = midway _ _ whole in
    let at = goal.at.returns-in_err-prepared-clause-refused g c in
    let s = g.S.Reads.state c.args.space.now in
    let n = g.S.Reads.state c.end_degrees.new.space in
    let pairs = c.as_slice-pairs.result.now in
    let command = commands.Edge c.args.from c.args.label.now c.args.to pairs in
    let fault = c.in_err-prepared.field-0.0 in
    subst (λ l. IfErr c.from_residual-in_err-prepared.result (IsRefusal s.shape.limit (graph_in s) (commands.Edge c.args.from c.args.label.now c.args.to l)))
    c.as_slice-pairs.ensures
    (fault_exit (λ f. f) (IsRefusal s.shape.limit (graph_in s) command) fault c.from_residual-in_err-prepared.result c.from_residual-in_err-prepared.ensures.1
    (refused_read s n change_reasons command fault c.end_degrees.ensures.state
    (line_refused n.shape.limit (graph_in n) c.args.from c.args.label.now c.args.to pairs (leaves_node g at.In_ok-ends tells store)
    (enters_node g at.In_ok-ends tells store)
    (room g at.In_ok-test_room tells store) fault (c.in_err-prepared.ensures.refused tells (kept g at.In_ok-ends tells store)))))

-- ---- the edge's record and its chains
module _ (g : Over) (c : In_ok-prepared g) (tells : g.S.Reads.tells) (store : IsMidway (g.S.Reads.state c.args.space.now) c.args.names.now.names) where
  at_hand : IsPrepared (g.S.Reads.state c.end_degrees.new.space) (g.S.Reads.state c.prepare.new.space) c.prepare.new.names.names c.args.label.now
      c.as_slice-pairs.result.now c.in_ok-prepared.prepared
  at_hand = c.in_ok-prepared.ensures.prepared tells (kept g (goal.at.In_ok-prepared g c).In_ok-ends tells store)

  degrees_kept : AtEach (HasEndDegree (g.S.Reads.state c.prepare.new.space).records) c.in_ok-ends.ends
  degrees_kept =
      let at = (goal.at.In_ok-prepared g c).In_ok-ends in
      let n = g.S.Reads.state c.end_degrees.new.space in
      let u = g.S.Reads.state c.prepare.new.space in
      at_more (HasEndDegree n.records) (HasEndDegree u.records) c.in_ok-ends.ends
      (λ end has. degree_kept n u c.args.names.now.names c.prepare.new.names.names end.node end.degree (kept g at tells store) at_hand.kept has)
      (degrees_now g at tells)

  limit_kept : c.shape-threshold.result.threshold ≡ (g.S.Reads.state c.prepare.new.space).shape.threshold
  limit_kept = ap (λ (h : Shape). h.threshold) (c.shape-threshold.ensures.is ∙ sym at_hand.kept.shape)

-- only the machine can fail
edge_outside : (g : Over) (c : In_err-id g) → g.S.Reads.tells → IsMidway (g.S.Reads.state c.args.space.now) c.args.names.now.names
    → IsOutside c.in_err-id.field-0.0
edge_outside g c tells store =
    let at = goal.at.In_err-id g c in
    let hand = at_hand g at.In_ok-prepared tells store in
    c.in_err-id.ensures.not_damaged tells (limit_kept g at.In_ok-prepared tells store) c.prepare.new.names.names c.args.label.now hand.kept.store hand.label_is
    (degrees_kept g at.In_ok-prepared tells store)
    (room_kept (g.S.Reads.state c.end_degrees.new.space) c.args.names.now.names (kept g at.In_ok-ends tells store) (g.S.Reads.state c.prepare.new.space)
    c.prepare.new.names.names hand.kept c.in_ok-test_room.ensures.room)

pub returns-in_err-id-clause-refused : goal.returns-in_err-id-clause-refused
returns-in_err-id-clause-refused g c tells whole =
    let store = midway _ _ whole in
    let s = g.S.Reads.state c.args.space.now in
    let command = commands.Edge c.args.from c.args.label.now c.args.to c.args.pairs.now in
    fault_exit (λ f. f) (IsRefusal s.shape.limit (graph_in s) command) c.in_err-id.field-0.0 c.from_residual-in_err-id.result
    c.from_residual-in_err-id.ensures.1
    (outside_refused change_reasons s.shape.limit (graph_in s) command c.in_err-id.field-0.0 (edge_outside g (goal.at.returns-in_err-id-clause-refused g
    c).In_err-id tells store))

pub returns-in_err-id-clause-leaves : goal.returns-in_err-id-clause-leaves
returns-in_err-id-clause-leaves g c tells =
    let s = g.S.Reads.state c.args.space.now in
    let v = g.S.Reads.state c.put_edge.new.space in
    fault_exit (λ f. f) (LeavesSpace s v) c.in_err-id.field-0.0 c.from_residual-in_err-id.result c.from_residual-in_err-id.ensures.1
    (late_leaves s v c.in_err-id.field-0.0 (put_late v c.in_err-id.field-0.0 (c.in_err-id.ensures.failure tells)))

pub returns-in_err-id-clause-refused_writes : goal.returns-in_err-id-clause-refused_writes
returns-in_err-id-clause-refused_writes g c =
    let read = none_written _ _ c.end_degrees.ensures.state in
    let small = c.ends_weight-moved.ensures.small in
    let allowed = most_threshold c.shape-threshold.result c.shape-threshold.ensures.allowed in
    on_any_err _ _ (more_written (omega arith) (then_written read (then_written c.prepare.ensures.few_writes c.in_err-id.ensures.err_writes)))

-- ---- its properties
puts : (g : Over) (c : In_ok-id g) → g.S.Reads.tells → IsMidway (g.S.Reads.state c.args.space.now) c.args.names.now.names
    → PutsEdge (g.S.Reads.state c.prepare.new.space) (g.S.Reads.state c.put_edge.new.space) c.prepare.new.names.names c.args.from c.args.label.now c.args.to
    c.in_ok-id.id
puts g c tells store =
    let at = (goal.at.In_ok-id g c).In_ok-prepared in
    let hand = at_hand g at tells store in
    let u = g.S.Reads.state c.prepare.new.space in
    let v = g.S.Reads.state c.put_edge.new.space in
    at_nodes (λ from to. PutsEdge u v c.prepare.new.names.names from c.args.label.now to c.in_ok-id.id) c.in_ok-ends.ends c.args.from c.args.to
    c.in_ok-ends.ensures.ends
    (c.in_ok-id.ensures.put tells (limit_kept g at tells store) c.prepare.new.names.names c.args.label.now hand.kept.store hand.label_is
    (degrees_kept g at tells store))

can : (g : Over) (c : After-put_properties g) → g.S.Reads.tells → IsMidway (g.S.Reads.state c.args.space.now) c.args.names.now.names
    → CanPut (g.S.Reads.state c.put_edge.new.space) c.prepare.new.names.names (targets.Edge c.in_ok-id.id) c.as_slice-pairs.result.now c.deref.result.now
can g c tells store =
    let at = goal.at.After-put_properties g c in
    subst (CanPut (g.S.Reads.state c.put_edge.new.space) c.prepare.new.names.names (targets.Edge c.in_ok-id.id) c.as_slice-pairs.result.now)
    (sym c.deref.ensures.0)
    (can_put (g.S.Reads.state c.end_degrees.new.space) (g.S.Reads.state c.prepare.new.space) (g.S.Reads.state c.put_edge.new.space) c.args.names.now.names
    c.prepare.new.names.names c.args.from c.args.label.now c.args.to c.as_slice-pairs.result.now c.in_ok-id.id
    c.in_ok-prepared.prepared (kept g at.In_ok-ends tells store) (at_hand g at.In_ok-prepared tells store) (puts g at.In_ok-id tells store)
    ((g.met.S.Reads.onward_shape _ _ c.put_edge.ensures.onward)))

properties_outside : (g : Over) (c : In_err-put_properties g) → g.S.Reads.tells → IsMidway (g.S.Reads.state c.args.space.now) c.args.names.now.names
    → IsOutside c.in_err-put_properties.field-0.0
properties_outside g c tells store =
    let at = goal.at.In_err-put_properties g c in
    c.in_err-put_properties.ensures.not_damaged tells c.prepare.new.names.names (targets.Edge c.in_ok-id.id) c.edge_owner.ensures
    (can g at.After-put_properties tells store)
    (subst (λ l. HasPropertyRoom (g.S.Reads.state c.put_edge.new.space) (length l) (assigned_blocks c.as_slice-pairs.result.now l)) (sym c.deref.ensures.0)
    (put_room (g.S.Reads.state c.end_degrees.new.space) (g.S.Reads.state c.prepare.new.space) (g.S.Reads.state c.put_edge.new.space) c.args.names.now.names
    c.prepare.new.names.names c.args.from c.args.label.now c.args.to c.as_slice-pairs.result.now c.in_ok-id.id
    c.in_ok-prepared.prepared (kept g at.In_ok-ends tells store) (at_hand g at.In_ok-prepared tells store) (puts g at.In_ok-id tells store)
    ((g.met.S.Reads.onward_shape _ _ c.put_edge.ensures.onward))))

pub returns-in_err-put_properties-clause-refused : goal.returns-in_err-put_properties-clause-refused
returns-in_err-put_properties-clause-refused g c tells whole =
    let store = midway _ _ whole in
    let s = g.S.Reads.state c.args.space.now in
    let command = commands.Edge c.args.from c.args.label.now c.args.to c.args.pairs.now in
    fault_exit (λ f. f) (IsRefusal s.shape.limit (graph_in s) command) c.in_err-put_properties.field-0.0 c.from_residual-in_err-put_properties.result
    c.from_residual-in_err-put_properties.ensures.1
    (outside_refused change_reasons s.shape.limit (graph_in s) command c.in_err-put_properties.field-0.0
    (properties_outside g (goal.at.returns-in_err-put_properties-clause-refused g c).In_err-put_properties tells store))

pub returns-in_err-put_properties-clause-leaves : goal.returns-in_err-put_properties-clause-leaves
returns-in_err-put_properties-clause-leaves g c tells =
    let s = g.S.Reads.state c.args.space.now in
    let w = g.S.Reads.state c.put_properties.new.space in
    fault_exit (λ f. f) (LeavesSpace s w) c.in_err-put_properties.field-0.0 c.from_residual-in_err-put_properties.result
    c.from_residual-in_err-put_properties.ensures.1
    (late_leaves s w c.in_err-put_properties.field-0.0 (c.in_err-put_properties.ensures.may_come_late tells))

pub returns-in_err-put_properties-clause-refused_writes : goal.returns-in_err-put_properties-clause-refused_writes
returns-in_err-put_properties-clause-refused_writes g c =
    let pairs = c.as_slice-pairs.result.now in
    let count = ap length c.deref.ensures.0 in
    let blocks = ap (assigned_blocks pairs) c.deref.ensures.0 in
    let weight = c.in_ok-prepared.ensures.weight in
    let light = c.in_ok-prepared.ensures.light in
    let small = c.ends_weight-moved.ensures.small in
    let allowed = most_threshold c.shape-threshold.result c.shape-threshold.ensures.allowed in
    let read = none_written _ _ c.end_degrees.ensures.state in
    on_any_err _ _ (more_written (omega arith) (then_written read (then_written c.in_ok-prepared.ensures.writes
    (then_written (beside_written refl c.in_ok-id.ensures.writes) c.in_err-put_properties.ensures.err_writes))))

-- call after call the space goes on
onward : (g : Over) (c : After-put_properties g) → g.S.Reads.onward c.args.space.now c.put_properties.new.space
onward g c =
    let on = g.met.S.Reads.further_onward in
    on c.args.space.now c.put_edge.new.space c.put_properties.new.space
    (on c.args.space.now c.prepare.new.space c.put_edge.new.space
    (on c.args.space.now c.end_degrees.new.space c.prepare.new.space c.end_degrees.ensures.onward c.prepare.ensures.onward)
    c.put_edge.ensures.onward)
    c.put_properties.ensures.onward

pub returns-in_err-put_properties-clause-onward : goal.returns-in_err-put_properties-clause-onward
returns-in_err-put_properties-clause-onward g c = onward g (goal.at.returns-in_err-put_properties-clause-onward g c).After-put_properties

-- ---- the edge is made
pub returns-clause-onward : goal.returns-clause-onward
returns-clause-onward g c = onward g (goal.at.returns-clause-onward g c).After-put_properties

pub returns-clause-full : goal.returns-clause-full
returns-clause-full g c whole full =
    let store = midway _ _ whole in
    let s = g.S.Reads.state c.args.space.now in
    let n = g.S.Reads.state c.end_degrees.new.space in
    let same = c.end_degrees.ensures.state in
    absurd (not_full n c.args.names.now.names (store_read s n c.args.names.now.names same store) c.in_ok-test_room.ensures.room (subst IsFullOfEdges (sym same)
    full))

pub returns-clause-made : goal.returns-clause-made
returns-clause-made g c tells whole =
    let store = midway _ _ whole in
    let at = goal.at.returns-clause-made g c in
    let s = g.S.Reads.state c.args.space.now in
    let n = g.S.Reads.state c.end_degrees.new.space in
    let u = g.S.Reads.state c.prepare.new.space in
    let v = g.S.Reads.state c.put_edge.new.space in
    let w = g.S.Reads.state c.put_properties.new.space in
    let names = c.prepare.new.names.names in
    let pairs = c.as_slice-pairs.result.now in
    let id = c.in_ok-id.id in
    let hand = at_hand g at.In_ok-prepared tells store in
    let ends = c.in_ok-ends.ends in
    let weight = 9 + c.in_ok-prepared.prepared.weight + c.ends_weight-moved.result in
    let put = subst (λ l. PutsPairs v w names (targets.Edge id) (pairs_of names pairs l)) c.deref.ensures.0
    (c.in_ok-put_properties.ensures.put tells names (targets.Edge id) c.edge_owner.ensures (can g at.After-put_properties tells store)) in
    made_read s n w names (commands.Edge c.args.from c.args.label.now c.args.to c.args.pairs.now) (EdgeMade id) weight c.end_degrees.ensures.state
    (subst (λ l. MakesChange (commands.Edge c.args.from c.args.label.now c.args.to l) (EdgeMade id) weight n w names) c.as_slice-pairs.ensures
    (made n u v c.args.names.now.names names c.args.from c.args.label.now c.args.to pairs id c.in_ok-prepared.prepared (kept g at.In_ok-ends tells store) hand
    (puts g at.In_ok-id tells store) ((g.met.S.Reads.onward_shape _ _ c.put_edge.ensures.onward))
    w put (room g at.In_ok-test_room tells store) (source_of ends).degree (target_of ends).degree (source_now g at.In_ok-ends tells)
    (target_now g at.In_ok-ends tells) (subst (λ (z : State). AreIndexed z.records (wanted_in z.records)) (sym c.end_degrees.ensures.state) whole.store.indexes)
    (c.in_ok-put_properties.ensures.indexes tells names id c.edge_owner.ensures (can g at.After-put_properties tells store)) weight c.ends_weight-moved.result
    refl
    (c.ends_weight-moved.ensures.is ∙ ends_weigh c.shape-threshold.result.threshold c.args.from c.args.to ends c.in_ok-ends.ensures.ends
    ∙ ap (λ (h : Shape). degrees_weight h.threshold c.args.from (source_of ends).degree c.args.to (target_of ends).degree) c.shape-threshold.ensures.is)))

-- the ends were only read before, the names were given numbers, and the relationships' meta record stayed
pub returns-clause-taken : goal.returns-clause-taken
returns-clause-taken g c tells =
    c.in_ok-id.ensures.is tells ∙ ap taken_id ((c.in_ok-prepared.ensures.metas tells).edges
    ∙ ap (λ (z : State). meta_of z format.relationships_file) c.end_degrees.ensures.state)

-- its properties leave it in its place
pub returns-clause-first : goal.returns-clause-first
returns-clause-first g c tells whole =
    let store = midway _ _ whole in
    let at = goal.at.returns-clause-first g c in
    let v = g.S.Reads.state c.put_edge.new.space in
    let w = g.S.Reads.state c.put_properties.new.space in
    let names = c.prepare.new.names.names in
    let id = c.in_ok-id.id in
    let put = c.in_ok-put_properties.ensures.put tells names (targets.Edge id) c.edge_owner.ensures (can g at.After-put_properties tells store) in
    first_kept v.records w.records id put.keeps c.args.from c.args.to (puts g at.In_ok-id tells store).first

-- ---- what is written

-- the properties are put at the relationship's record
owned : (g : Over) (c : In_ok-put_properties g)
    → WritesBeside (rel_key c.in_ok-id.id) (length c.deref.result.now + assigned_blocks c.as_slice-pairs.result.now c.deref.result.now)
    (g.S.Reads.state c.put_edge.new.space) (g.S.Reads.state c.put_properties.new.space)
owned g c = subst (λ (o : Owner). WritesBeside o.key (length c.deref.result.now + assigned_blocks c.as_slice-pairs.result.now c.deref.result.now)
    (g.S.Reads.state c.put_edge.new.space) (g.S.Reads.state c.put_properties.new.space)) c.edge_owner.ensures
    c.in_ok-put_properties.ensures.writes

-- the relationship weighs nine, and the ends what those that become dense write
pub returns-clause-writes : goal.returns-clause-writes
returns-clause-writes g c =
    let at = (goal.at.returns-clause-writes g c).In_ok-put_properties in
    let length_is = ap length c.deref.ensures.0 in
    let blocks = ap (assigned_blocks c.as_slice-pairs.result.now) c.deref.ensures.0 in
    let weight = c.in_ok-prepared.ensures.weight in
    let ends = c.ends_weight-moved.ensures.is in
    more_written (omega arith) (then_written (none_written _ _ c.end_degrees.ensures.state)
    (then_written c.in_ok-prepared.ensures.writes (beside_written refl (beside_then c.in_ok-id.ensures.writes (owned g at)))))

-- ---- what refusals count
pub returns-in_err-ends-clause-counts : goal.returns-in_err-ends-clause-counts
returns-in_err-ends-clause-counts g c tells whole =
    let s = g.S.Reads.state c.args.space.now in
    let fault = c.in_err-ends.field-0.0 in
    fault_exit (λ f. f) (IsCounted s) fault c.from_residual.result c.from_residual.ensures.1
    (⊎_elim (absent_counted s (targets.Node c.args.from) fault) (absent_counted s (targets.Node c.args.to) fault) (c.in_err-ends.ensures.absent tells))

pub returns-in_err-test_room-clause-counts : goal.returns-in_err-test_room-clause-counts
returns-in_err-test_room-clause-counts g c tells whole =
    let s = g.S.Reads.state c.args.space.now in
    let n = g.S.Reads.state c.end_degrees.new.space in
    let fault = c.in_err-test_room.field-0.0 in
    fault_exit (λ f. f) (IsCounted s) fault c.from_residual-in_err-test_room.result c.from_residual-in_err-test_room.ensures.1
    (counted_read s n c.end_degrees.ensures.state fault (room_counted n n format.relationships_file 1 refl fault c.in_err-test_room.ensures.full))

pub returns-in_err-prepared-clause-counts : goal.returns-in_err-prepared-clause-counts
returns-in_err-prepared-clause-counts g c tells whole =
    let s = g.S.Reads.state c.args.space.now in
    let n = g.S.Reads.state c.end_degrees.new.space in
    let fault = c.in_err-prepared.field-0.0 in
    fault_exit (λ f. f) (IsCounted s) fault c.from_residual-in_err-prepared.result c.from_residual-in_err-prepared.ensures.1
    (counted_read s n c.end_degrees.ensures.state fault (c.in_err-prepared.ensures.counts tells))

pub returns-in_err-id-clause-counts : goal.returns-in_err-id-clause-counts
returns-in_err-id-clause-counts g c tells whole =
    let store = midway _ _ whole in
    let s = g.S.Reads.state c.args.space.now in
    fault_exit (λ f. f) (IsCounted s) c.in_err-id.field-0.0 c.from_residual-in_err-id.result c.from_residual-in_err-id.ensures.1
    (outside_counted s c.in_err-id.field-0.0 (edge_outside g (goal.at.returns-in_err-id-clause-counts g c).In_err-id tells store))

pub returns-in_err-put_properties-clause-counts : goal.returns-in_err-put_properties-clause-counts
returns-in_err-put_properties-clause-counts g c tells whole =
    let store = midway _ _ whole in
    let s = g.S.Reads.state c.args.space.now in
    fault_exit (λ f. f) (IsCounted s) c.in_err-put_properties.field-0.0 c.from_residual-in_err-put_properties.result
    c.from_residual-in_err-put_properties.ensures.1
    (outside_counted s c.in_err-put_properties.field-0.0 (properties_outside g (goal.at.returns-in_err-put_properties-clause-counts g c).In_err-put_properties
    tells store))

-- ---- why it is refused over any records

-- an end is no node
ends_caused : (g : Over) (c : In_err-ends g) → g.S.Reads.tells → IsCaused (commands.Edge c.args.from c.args.label.now c.args.to c.args.pairs.now)
    (g.S.Reads.state c.args.space.now) (g.S.Reads.state c.end_degrees.new.space) c.args.names.now.names c.args.names.now.names c.in_err-ends.field-0.0
ends_caused g c tells =
    let s = g.S.Reads.state c.args.space.now in
    let n = g.S.Reads.state c.end_degrees.new.space in
    let names = c.args.names.now.names in
    let command = commands.Edge c.args.from c.args.label.now c.args.to c.args.pairs.now in
    ⊎_elim (absent_caused command s n names names (targets.Node c.args.from) (λ id e. inl (sym (node_of e))) (λ id e. no_edge e) c.in_err-ends.field-0.0)
    (absent_caused command s n names names (targets.Node c.args.to) (λ id e. inr (sym (node_of e))) (λ id e. no_edge e) c.in_err-ends.field-0.0)
    (c.in_err-ends.ensures.absent tells)

pub returns-in_err-ends-clause-caused : goal.returns-in_err-ends-clause-caused
returns-in_err-ends-clause-caused g c tells =
    let s = g.S.Reads.state c.args.space.now in
    let n = g.S.Reads.state c.end_degrees.new.space in
    let names = c.args.names.now.names in
    let command = commands.Edge c.args.from c.args.label.now c.args.to c.args.pairs.now in
    fault_exit (λ f. f) (IsCaused command s n names names) c.in_err-ends.field-0.0 c.from_residual.result c.from_residual.ensures.1
    (ends_caused g (goal.at.returns-in_err-ends-clause-caused g c).In_err-ends tells)

pub returns-in_err-test_room-clause-caused : goal.returns-in_err-test_room-clause-caused
returns-in_err-test_room-clause-caused g c tells =
    let s = g.S.Reads.state c.args.space.now in
    let n = g.S.Reads.state c.end_degrees.new.space in
    let names = c.args.names.now.names in
    let command = commands.Edge c.args.from c.args.label.now c.args.to c.args.pairs.now in
    let read = c.end_degrees.ensures.state in
    fault_exit (λ f. f) (IsCaused command s n names names) c.in_err-test_room.field-0.0 c.from_residual-in_err-test_room.result
    c.from_residual-in_err-test_room.ensures.1
    (caused_read command s n n names names read c.in_err-test_room.field-0.0
    (room_caused command n n names names format.relationships_file 1 (inl (refl, refl)) c.in_err-test_room.field-0.0 c.in_err-test_room.ensures.full))

pub returns-in_err-prepared-clause-caused : goal.returns-in_err-prepared-clause-caused
returns-in_err-prepared-clause-caused g c tells =
    let s = g.S.Reads.state c.args.space.now in
    let n = g.S.Reads.state c.end_degrees.new.space in
    let t = g.S.Reads.state c.prepare.new.space in
    let names = c.args.names.now.names in
    let now = c.prepare.new.names.names in
    let pairs = c.as_slice-pairs.result.now in
    let command = commands.Edge c.args.from c.args.label.now c.args.to pairs in
    let read = c.end_degrees.ensures.state in
    subst (λ l. IfErr c.from_residual-in_err-prepared.result (IsCaused (commands.Edge c.args.from c.args.label.now c.args.to l) s t names now))
    c.as_slice-pairs.ensures
    (fault_exit (λ f. f) (IsCaused command s t names now) c.in_err-prepared.field-0.0 c.from_residual-in_err-prepared.result
    c.from_residual-in_err-prepared.ensures.1
    (caused_read command s n t names now read c.in_err-prepared.field-0.0
    (line_edge n t names now c.args.label.now pairs c.args.from c.args.to c.in_err-prepared.field-0.0 (c.in_err-prepared.ensures.caused tells))))

pub returns-in_err-id-clause-caused : goal.returns-in_err-id-clause-caused
returns-in_err-id-clause-caused g c tells =
    let s = g.S.Reads.state c.args.space.now in
    let t = g.S.Reads.state c.put_edge.new.space in
    let names = c.args.names.now.names in
    let now = c.prepare.new.names.names in
    let command = commands.Edge c.args.from c.args.label.now c.args.to c.args.pairs.now in
    fault_exit (λ f. f) (IsCaused command s t names now) c.in_err-id.field-0.0 c.from_residual-in_err-id.result c.from_residual-in_err-id.ensures.1
    (edge_caused s t names now c.args.from c.args.label.now c.args.to c.args.pairs.now c.in_err-id.field-0.0 (c.in_err-id.ensures.failure tells))

pub returns-in_err-put_properties-clause-caused : goal.returns-in_err-put_properties-clause-caused
returns-in_err-put_properties-clause-caused g c tells =
    let s = g.S.Reads.state c.args.space.now in
    let t = g.S.Reads.state c.put_properties.new.space in
    let names = c.args.names.now.names in
    let now = c.prepare.new.names.names in
    let pairs = c.as_slice-pairs.result.now in
    let command = commands.Edge c.args.from c.args.label.now c.args.to pairs in
    let items = c.in_ok-prepared.prepared.assigned.items in
    let needs = c.in_ok-prepared.ensures.needs in
    let told = subst (λ l. IsPutCause t (length l) (assigned_blocks pairs l) c.in_err-put_properties.field-0.0) c.deref.ensures.0
    (c.in_err-put_properties.ensures.caused tells) in
    subst (λ l. IfErr c.from_residual-in_err-put_properties.result (IsCaused (commands.Edge c.args.from c.args.label.now c.args.to l) s t names now))
    c.as_slice-pairs.ensures
    (fault_exit (λ f. f) (IsCaused command s t names now) c.in_err-put_properties.field-0.0 c.from_residual-in_err-put_properties.result
    c.from_residual-in_err-put_properties.ensures.1
    (put_caused command s t names now pairs (length items) (assigned_blocks pairs items) needs.0 needs.1 (λ file any. inl any) c.in_err-put_properties.field-0.0
    told))

pub returns-in_err-test_room-clause-cause : goal.returns-in_err-test_room-clause-cause
returns-in_err-test_room-clause-cause g c =
    room_refusal_cause _ _ c.from_residual-in_err-test_room.result c.in_err-test_room.field-0.0 c.in_err-test_room.ensures.full c.in_ok-ends.ensures.cause.later
    c.from_residual-in_err-test_room.ensures.1

pub returns-in_err-prepared-clause-cause : goal.returns-in_err-prepared-clause-cause
returns-in_err-prepared-clause-cause g c =
    change_cause_passed _ _ _ c.from_residual-in_err-prepared.result c.in_err-prepared.field-0.0 c.in_ok-ends.ensures.cause.later
    c.in_err-prepared.ensures.cause c.from_residual-in_err-prepared.ensures.1

pub returns-in_err-id-clause-cause : goal.returns-in_err-id-clause-cause
returns-in_err-id-clause-cause g c =
    change_cause_passed _ _ _ c.from_residual-in_err-id.result c.in_err-id.field-0.0
    (later_on c.in_ok-ends.ensures.cause.later c.in_ok-prepared.ensures.cause.later) c.in_err-id.ensures.cause c.from_residual-in_err-id.ensures.1

pub returns-in_err-put_properties-clause-cause : goal.returns-in_err-put_properties-clause-cause
returns-in_err-put_properties-clause-cause g c =
    change_cause_passed _ _ _ c.from_residual-in_err-put_properties.result c.in_err-put_properties.field-0.0
    (later_on (later_on c.in_ok-ends.ensures.cause.later c.in_ok-prepared.ensures.cause.later) c.in_ok-id.ensures.cause.later)
    c.in_err-put_properties.ensures.cause c.from_residual-in_err-put_properties.ensures.1

-- ---- which record is blamed
ends_blamed : (g : Over) (c : In_err-ends g) → g.S.Reads.tells → BlamesBroken (g.S.Reads.state c.end_degrees.new.space) c.in_err-ends.field-0.0
ends_blamed g c tells =
    let s = g.S.Reads.state c.args.space.now in
    let n = g.S.Reads.state c.end_degrees.new.space in
    let fault = c.in_err-ends.field-0.0 in
    broken_left s n c.end_degrees.ensures.state fault (⊎_elim (absent_blamed s (targets.Node c.args.from) fault) (absent_blamed s (targets.Node c.args.to)
    fault) (c.in_err-ends.ensures.absent tells))

pub returns-in_err-ends-clause-damaged : goal.returns-in_err-ends-clause-damaged
returns-in_err-ends-clause-damaged g c tells =
    let s = g.S.Reads.state c.args.space.now in
    let n = g.S.Reads.state c.end_degrees.new.space in
    let fault = c.in_err-ends.field-0.0 in
    fault_exit (λ f. f) (BlamesAdded s n) fault c.from_residual.result c.from_residual.ensures.1
    (broken_added s n fault
    (⊎_elim (absent_blamed s (targets.Node c.args.from) fault) (absent_blamed s (targets.Node c.args.to) fault) (c.in_err-ends.ensures.absent tells)))

pub returns-in_err-test_room-clause-damaged : goal.returns-in_err-test_room-clause-damaged
returns-in_err-test_room-clause-damaged g c tells =
    let s = g.S.Reads.state c.args.space.now in
    let n = g.S.Reads.state c.end_degrees.new.space in
    fault_exit (λ f. f) (BlamesAdded s n) c.in_err-test_room.field-0.0 c.from_residual-in_err-test_room.result
    c.from_residual-in_err-test_room.ensures.1
    (room_blamed _ n format.relationships_file 1 c.in_err-test_room.field-0.0 c.in_err-test_room.ensures.full)

pub returns-in_err-prepared-clause-damaged : goal.returns-in_err-prepared-clause-damaged
returns-in_err-prepared-clause-damaged g c tells =
    let s = g.S.Reads.state c.args.space.now in
    let n = g.S.Reads.state c.end_degrees.new.space in
    let u = g.S.Reads.state c.prepare.new.space in
    fault_exit (λ f. f) (BlamesAdded s u) c.in_err-prepared.field-0.0 c.from_residual-in_err-prepared.result
    c.from_residual-in_err-prepared.ensures.1
    (line_blamed _ n c.args.names.now.names c.args.label.now c.as_slice-pairs.result.now c.in_err-prepared.field-0.0 (c.in_err-prepared.ensures.caused tells))

-- in the chains
put_blamed : (g : Over) (c : In_err-id g) → g.S.Reads.tells → BlamesBroken (g.S.Reads.state c.put_edge.new.space) c.in_err-id.field-0.0
put_blamed g c tells =
    let s = g.S.Reads.state c.args.space.now in
    let n = g.S.Reads.state c.end_degrees.new.space in
    let u = g.S.Reads.state c.prepare.new.space in
    let v = g.S.Reads.state c.put_edge.new.space in
    let ends = c.in_ok-ends.ends in
    let keeps = c.in_ok-prepared.ensures.stays tells in
    let used = at_more (IsUsedEnd s) (IsUsedEnd u) ends (λ end is. used_beyond n u keeps end.node (used_read s n end.node c.end_degrees.ensures.state is))
    (c.in_ok-ends.ensures.used tells) in
    let limit = ap (λ (h : Shape). h.threshold) (c.shape-threshold.ensures.is ∙ sym (g.met.S.Reads.onward_shape _ _ c.prepare.ensures.onward)) in
    c.in_err-id.ensures.damaged tells used limit (room_beyond n u keeps (g.met.S.Reads.onward_shape _ _ c.prepare.ensures.onward)
    c.in_ok-test_room.ensures.room)

-- the ends are in use where the chains are looked for
used_then : (g : Over) (c : In_ok-prepared g) → g.S.Reads.tells → AtEach (IsUsedEnd (g.S.Reads.state c.prepare.new.space)) c.in_ok-ends.ends
used_then g c tells =
    let s = g.S.Reads.state c.args.space.now in
    let n = g.S.Reads.state c.end_degrees.new.space in
    let u = g.S.Reads.state c.prepare.new.space in
    at_more (IsUsedEnd s) (IsUsedEnd u) c.in_ok-ends.ends
    (λ end is. used_beyond n u (c.in_ok-prepared.ensures.stays tells) end.node (used_read s n end.node c.end_degrees.ensures.state is))
    (c.in_ok-ends.ensures.used tells)

-- names are all that was written by then
names_then : (g : Over) (c : In_ok-prepared g) → g.S.Reads.tells → KeepsButNames (g.S.Reads.state c.args.space.now) (g.S.Reads.state c.prepare.new.space)
names_then g c tells =
    let s = g.S.Reads.state c.args.space.now in
    let u = g.S.Reads.state c.prepare.new.space in
    read_names s (g.S.Reads.state c.end_degrees.new.space) u c.end_degrees.ensures.state (c.in_ok-prepared.ensures.stays tells)

pub returns-in_err-id-clause-damaged : goal.returns-in_err-id-clause-damaged
returns-in_err-id-clause-damaged g c tells =
    let at = goal.at.returns-in_err-id-clause-damaged g c in
    let s = g.S.Reads.state c.args.space.now in
    let u = g.S.Reads.state c.prepare.new.space in
    let v = g.S.Reads.state c.put_edge.new.space in
    let fault = c.in_err-id.field-0.0 in
    let found = at_nodes (λ from to. BlamesChains u v from to fault) c.in_ok-ends.ends c.args.from c.args.to c.in_ok-ends.ensures.ends
    (c.in_err-id.ensures.found tells (used_then g at.In_ok-prepared tells)) in
    let named = g.met.S.Reads.onward_shape _ _ c.prepare.ensures.onward ∙ ap (λ (z : State). z.shape) c.end_degrees.ensures.state in
    fault_exit (λ f. f) (BlamesAdded s v) fault c.from_residual-in_err-id.result c.from_residual-in_err-id.ensures.1
    (chains_added s u v c.args.from c.args.to named (names_then g at.In_ok-prepared tells) fault (put_blamed g at.In_err-id tells) found)

pub returns-in_err-put_properties-clause-damaged : goal.returns-in_err-put_properties-clause-damaged
returns-in_err-put_properties-clause-damaged g c tells =
    let at = goal.at.returns-in_err-put_properties-clause-damaged g c in
    let s = g.S.Reads.state c.args.space.now in
    let n = g.S.Reads.state c.end_degrees.new.space in
    let u = g.S.Reads.state c.prepare.new.space in
    let v = g.S.Reads.state c.put_edge.new.space in
    let w = g.S.Reads.state c.put_properties.new.space in
    let fault = c.in_err-put_properties.field-0.0 in
    let keeps = at_nodes (λ from to. KeepsButChains u v from to) c.in_ok-ends.ends c.args.from c.args.to c.in_ok-ends.ensures.ends
    (c.in_ok-id.ensures.leaves tells (used_then g at.In_ok-prepared tells)) in
    let named = g.met.S.Reads.onward_shape _ _ c.prepare.ensures.onward ∙ ap (λ (z : State). z.shape) c.end_degrees.ensures.state in
    let harmless = no_lists_then s u v (names_harm_no_lists s u named (names_then g at.In_ok-prepared tells))
    (chains_harm_no_lists u v c.args.from c.args.to (g.met.S.Reads.onward_shape _ _ c.put_edge.ensures.onward) keeps) in
    fault_exit (λ f. f) (BlamesAdded s w) fault c.from_residual-in_err-put_properties.result
    c.from_residual-in_err-put_properties.ensures.1
    (lists_added s v w harmless fault (c.in_err-put_properties.ensures.damaged tells))

-- ---- and by the space as it is left alone

pub returns-in_err-ends-clause-caused_after : goal.returns-in_err-ends-clause-caused_after
returns-in_err-ends-clause-caused_after g c tells =
    let at = (goal.at.returns-in_err-ends-clause-caused_after g c).In_err-ends in
    let s = g.S.Reads.state c.args.space.now in
    let n = g.S.Reads.state c.end_degrees.new.space in
    let names = c.args.names.now.names in
    let command = commands.Edge c.args.from c.args.label.now c.args.to c.args.pairs.now in
    let fault = c.in_err-ends.field-0.0 in
    fault_exit (λ f. f) (IsCausedAfter command n names names) fault c.from_residual.result c.from_residual.ensures.1
    (record { caused = caused_left command s n n names names c.end_degrees.ensures.state fault (ends_caused g at tells); damaged = ends_blamed g at tells })

pub returns-in_err-test_room-clause-caused_after : goal.returns-in_err-test_room-clause-caused_after
returns-in_err-test_room-clause-caused_after g c tells =
    let n = g.S.Reads.state c.end_degrees.new.space in
    let names = c.args.names.now.names in
    let command = commands.Edge c.args.from c.args.label.now c.args.to c.args.pairs.now in
    let fault = c.in_err-test_room.field-0.0 in
    fault_exit (λ f. f) (IsCausedAfter command n names names) fault c.from_residual-in_err-test_room.result c.from_residual-in_err-test_room.ensures.1
    (record {
      caused = room_caused command n n names names format.relationships_file 1 (inl (refl, refl)) fault c.in_err-test_room.ensures.full;
      damaged = room_blamed _ n format.relationships_file 1 fault c.in_err-test_room.ensures.full;
    })

pub returns-in_err-prepared-clause-caused_after : goal.returns-in_err-prepared-clause-caused_after
returns-in_err-prepared-clause-caused_after g c tells =
    let t = g.S.Reads.state c.prepare.new.space in
    let names = c.args.names.now.names in
    let now = c.prepare.new.names.names in
    let pairs = c.as_slice-pairs.result.now in
    let command = commands.Edge c.args.from c.args.label.now c.args.to pairs in
    let fault = c.in_err-prepared.field-0.0 in
    let why = c.in_err-prepared.ensures.caused_after tells in
    subst (λ l. IfErr c.from_residual-in_err-prepared.result (IsCausedAfter (commands.Edge c.args.from c.args.label.now c.args.to l) t names now))
    c.as_slice-pairs.ensures
    (fault_exit (λ f. f) (IsCausedAfter command t names now) fault c.from_residual-in_err-prepared.result c.from_residual-in_err-prepared.ensures.1
    (record {
      caused = line_edge t t names now c.args.label.now pairs c.args.from c.args.to fault why;
      damaged = line_blamed _ t names c.args.label.now pairs
          fault why;
    }))

pub returns-in_err-id-clause-caused_after : goal.returns-in_err-id-clause-caused_after
returns-in_err-id-clause-caused_after g c tells =
    let t = g.S.Reads.state c.put_edge.new.space in
    let names = c.args.names.now.names in
    let now = c.prepare.new.names.names in
    let command = commands.Edge c.args.from c.args.label.now c.args.to c.args.pairs.now in
    let fault = c.in_err-id.field-0.0 in
    fault_exit (λ f. f) (IsCausedAfter command t names now) fault c.from_residual-in_err-id.result c.from_residual-in_err-id.ensures.1
    (record {
      caused = edge_caused t t names now c.args.from c.args.label.now c.args.to c.args.pairs.now fault (c.in_err-id.ensures.failure tells);
      damaged = put_blamed g (goal.at.returns-in_err-id-clause-caused_after g c).In_err-id tells;
    })

pub returns-in_err-put_properties-clause-caused_after : goal.returns-in_err-put_properties-clause-caused_after
returns-in_err-put_properties-clause-caused_after g c tells =
    let t = g.S.Reads.state c.put_properties.new.space in
    let names = c.args.names.now.names in
    let now = c.prepare.new.names.names in
    let pairs = c.as_slice-pairs.result.now in
    let command = commands.Edge c.args.from c.args.label.now c.args.to pairs in
    let items = c.in_ok-prepared.prepared.assigned.items in
    let needs = c.in_ok-prepared.ensures.needs in
    let fault = c.in_err-put_properties.field-0.0 in
    let told = subst (λ l. IsPutCause t (length l) (assigned_blocks pairs l) fault) c.deref.ensures.0 (c.in_err-put_properties.ensures.caused tells) in
    subst (λ l. IfErr c.from_residual-in_err-put_properties.result (IsCausedAfter (commands.Edge c.args.from c.args.label.now c.args.to l) t names now))
    c.as_slice-pairs.ensures
    (fault_exit (λ f. f) (IsCausedAfter command t names now) fault c.from_residual-in_err-put_properties.result c.from_residual-in_err-put_properties.ensures.1
    (record {
      caused = put_caused command t t names now pairs (length items) (assigned_blocks pairs items) needs.0 needs.1 (λ file any. inl any) fault told;
      damaged = c.in_err-put_properties.ensures.damaged_after tells;
    }))

pub returns-in_err-ends-clause-made : goal.returns-in_err-ends-clause-made
returns-in_err-ends-clause-made g c _ = never_ok c.from_residual.result _ _ c.from_residual.ensures.1

pub returns-in_err-ends-clause-weight : goal.returns-in_err-ends-clause-weight
returns-in_err-ends-clause-weight g c _ _ _ _ _ = never_ok c.from_residual.result _ _ c.from_residual.ensures.1

pub returns-in_err-ends-clause-taken : goal.returns-in_err-ends-clause-taken
returns-in_err-ends-clause-taken g c _ = never_ok c.from_residual.result _ _ c.from_residual.ensures.1

pub returns-in_err-ends-clause-first : goal.returns-in_err-ends-clause-first
returns-in_err-ends-clause-first g c _ = never_ok c.from_residual.result _ _ c.from_residual.ensures.1

pub returns-in_err-ends-clause-light : goal.returns-in_err-ends-clause-light
returns-in_err-ends-clause-light g c = never_ok c.from_residual.result _ _ c.from_residual.ensures.1

pub returns-in_err-ends-clause-writes : goal.returns-in_err-ends-clause-writes
returns-in_err-ends-clause-writes g c = never_ok c.from_residual.result _ _ c.from_residual.ensures.1

pub returns-in_err-ends-clause-onward : goal.returns-in_err-ends-clause-onward
returns-in_err-ends-clause-onward g c = search rules

pub returns-in_err-test_room-clause-made : goal.returns-in_err-test_room-clause-made
returns-in_err-test_room-clause-made g c _ = never_ok c.from_residual-in_err-test_room.result _ _ c.from_residual-in_err-test_room.ensures.1

pub returns-in_err-test_room-clause-weight : goal.returns-in_err-test_room-clause-weight
returns-in_err-test_room-clause-weight g c _ _ _ _ _ = never_ok c.from_residual-in_err-test_room.result _ _ c.from_residual-in_err-test_room.ensures.1

pub returns-in_err-test_room-clause-taken : goal.returns-in_err-test_room-clause-taken
returns-in_err-test_room-clause-taken g c _ = never_ok c.from_residual-in_err-test_room.result _ _ c.from_residual-in_err-test_room.ensures.1

pub returns-in_err-test_room-clause-first : goal.returns-in_err-test_room-clause-first
returns-in_err-test_room-clause-first g c _ = never_ok c.from_residual-in_err-test_room.result _ _ c.from_residual-in_err-test_room.ensures.1

pub returns-in_err-test_room-clause-light : goal.returns-in_err-test_room-clause-light
returns-in_err-test_room-clause-light g c = never_ok c.from_residual-in_err-test_room.result _ _ c.from_residual-in_err-test_room.ensures.1

pub returns-in_err-test_room-clause-writes : goal.returns-in_err-test_room-clause-writes
returns-in_err-test_room-clause-writes g c = never_ok c.from_residual-in_err-test_room.result _ _ c.from_residual-in_err-test_room.ensures.1

pub returns-in_err-prepared-clause-made : goal.returns-in_err-prepared-clause-made
returns-in_err-prepared-clause-made g c _ = never_ok c.from_residual-in_err-prepared.result _ _ c.from_residual-in_err-prepared.ensures.1

pub returns-in_err-prepared-clause-weight : goal.returns-in_err-prepared-clause-weight
returns-in_err-prepared-clause-weight g c _ _ _ _ _ = never_ok c.from_residual-in_err-prepared.result _ _ c.from_residual-in_err-prepared.ensures.1

pub returns-in_err-prepared-clause-taken : goal.returns-in_err-prepared-clause-taken
returns-in_err-prepared-clause-taken g c _ = never_ok c.from_residual-in_err-prepared.result _ _ c.from_residual-in_err-prepared.ensures.1

pub returns-in_err-prepared-clause-first : goal.returns-in_err-prepared-clause-first
returns-in_err-prepared-clause-first g c _ = never_ok c.from_residual-in_err-prepared.result _ _ c.from_residual-in_err-prepared.ensures.1

pub returns-in_err-prepared-clause-light : goal.returns-in_err-prepared-clause-light
returns-in_err-prepared-clause-light g c = never_ok c.from_residual-in_err-prepared.result _ _ c.from_residual-in_err-prepared.ensures.1

pub returns-in_err-prepared-clause-writes : goal.returns-in_err-prepared-clause-writes
returns-in_err-prepared-clause-writes g c = never_ok c.from_residual-in_err-prepared.result _ _ c.from_residual-in_err-prepared.ensures.1

pub returns-in_err-id-clause-made : goal.returns-in_err-id-clause-made
returns-in_err-id-clause-made g c _ = never_ok c.from_residual-in_err-id.result _ _ c.from_residual-in_err-id.ensures.1

pub returns-in_err-id-clause-weight : goal.returns-in_err-id-clause-weight
returns-in_err-id-clause-weight g c _ _ _ _ _ = never_ok c.from_residual-in_err-id.result _ _ c.from_residual-in_err-id.ensures.1

pub returns-in_err-id-clause-taken : goal.returns-in_err-id-clause-taken
returns-in_err-id-clause-taken g c _ = never_ok c.from_residual-in_err-id.result _ _ c.from_residual-in_err-id.ensures.1

pub returns-in_err-id-clause-first : goal.returns-in_err-id-clause-first
returns-in_err-id-clause-first g c _ = never_ok c.from_residual-in_err-id.result _ _ c.from_residual-in_err-id.ensures.1

pub returns-in_err-id-clause-light : goal.returns-in_err-id-clause-light
returns-in_err-id-clause-light g c = never_ok c.from_residual-in_err-id.result _ _ c.from_residual-in_err-id.ensures.1

pub returns-in_err-id-clause-writes : goal.returns-in_err-id-clause-writes
returns-in_err-id-clause-writes g c = never_ok c.from_residual-in_err-id.result _ _ c.from_residual-in_err-id.ensures.1

pub returns-in_err-put_properties-clause-made : goal.returns-in_err-put_properties-clause-made
returns-in_err-put_properties-clause-made g c _ = never_ok c.from_residual-in_err-put_properties.result _ _ c.from_residual-in_err-put_properties.ensures.1

pub returns-in_err-put_properties-clause-weight : goal.returns-in_err-put_properties-clause-weight
returns-in_err-put_properties-clause-weight g c _ _ _ _ _ =
    never_ok c.from_residual-in_err-put_properties.result _ _ c.from_residual-in_err-put_properties.ensures.1

pub returns-in_err-put_properties-clause-taken : goal.returns-in_err-put_properties-clause-taken
returns-in_err-put_properties-clause-taken g c _ = never_ok c.from_residual-in_err-put_properties.result _ _ c.from_residual-in_err-put_properties.ensures.1

pub returns-in_err-put_properties-clause-first : goal.returns-in_err-put_properties-clause-first
returns-in_err-put_properties-clause-first g c _ = never_ok c.from_residual-in_err-put_properties.result _ _ c.from_residual-in_err-put_properties.ensures.1

pub returns-in_err-put_properties-clause-light : goal.returns-in_err-put_properties-clause-light
returns-in_err-put_properties-clause-light g c = never_ok c.from_residual-in_err-put_properties.result _ _ c.from_residual-in_err-put_properties.ensures.1

pub returns-in_err-put_properties-clause-writes : goal.returns-in_err-put_properties-clause-writes
returns-in_err-put_properties-clause-writes g c = never_ok c.from_residual-in_err-put_properties.result _ _ c.from_residual-in_err-put_properties.ensures.1

pub returns-clause-cause : goal.returns-clause-cause
returns-clause-cause g c =
    ok_cause _ _ _ _ (later_on (later_on (later_on c.in_ok-ends.ensures.cause.later c.in_ok-prepared.ensures.cause.later) c.in_ok-id.ensures.cause.later)
    c.in_ok-put_properties.ensures.cause.later)

-- ---- whatever the records are, it is in use, and leads from one node to the other
pub returns-clause-stands : goal.returns-clause-stands
returns-clause-stands g c tells =
    let v = g.S.Reads.state c.put_edge.new.space in
    let w = g.S.Reads.state c.put_properties.new.space in
    let id = c.in_ok-id.id in
    let type = c.in_ok-prepared.prepared.label in
    owner_stands v w c.prepare.new.names.names id c.args.from type c.args.label.now c.args.to c.in_ok-prepared.ensures.label
    (subst (LeavesElement v w) c.edge_owner.ensures (c.in_ok-put_properties.ensures.leaves tells))
    (at_nodes (λ from to. IsEdgeBetween v.records id from type to) c.in_ok-ends.ends c.args.from c.args.to c.in_ok-ends.ensures.ends
    (c.in_ok-id.ensures.stands tells))

pub returns-in_err-ends-clause-stands : goal.returns-in_err-ends-clause-stands
returns-in_err-ends-clause-stands g c _ = never_ok c.from_residual.result _ _ c.from_residual.ensures.1

pub returns-in_err-test_room-clause-stands : goal.returns-in_err-test_room-clause-stands
returns-in_err-test_room-clause-stands g c _ = never_ok c.from_residual-in_err-test_room.result _ _ c.from_residual-in_err-test_room.ensures.1

pub returns-in_err-prepared-clause-stands : goal.returns-in_err-prepared-clause-stands
returns-in_err-prepared-clause-stands g c _ = never_ok c.from_residual-in_err-prepared.result _ _ c.from_residual-in_err-prepared.ensures.1

pub returns-in_err-id-clause-stands : goal.returns-in_err-id-clause-stands
returns-in_err-id-clause-stands g c _ = never_ok c.from_residual-in_err-id.result _ _ c.from_residual-in_err-id.ensures.1

pub returns-in_err-put_properties-clause-stands : goal.returns-in_err-put_properties-clause-stands
returns-in_err-put_properties-clause-stands g c _ = never_ok c.from_residual-in_err-put_properties.result _ _ c.from_residual-in_err-put_properties.ensures.1

-- ---- which identifiers are free
pub returns-clause-free : goal.returns-clause-free
returns-clause-free g c tells =
    let s = (g.S.Reads.state c.args.space.now).records in
    let n = g.S.Reads.state c.end_degrees.new.space in
    let u = g.S.Reads.state c.prepare.new.space in
    let v = g.S.Reads.state c.put_edge.new.space in
    let w = g.S.Reads.state c.put_properties.new.space in
    let left = subst (LeavesElement v w) c.edge_owner.ensures (c.in_ok-put_properties.ensures.leaves tells) in
    taken_before s v.records w.records (taken_after s u.records v.records (free_then s n.records u.records
    (read_frees (g.S.Reads.state c.args.space.now) n c.end_degrees.ensures.state) (names_free n u (c.in_ok-prepared.ensures.stays tells)))
    (c.in_ok-id.ensures.free tells)) (owner_frees v w c.in_ok-id.id left)

pub returns-in_err-ends-clause-free : goal.returns-in_err-ends-clause-free
returns-in_err-ends-clause-free g c _ = never_ok c.from_residual.result _ _ c.from_residual.ensures.1

pub returns-in_err-test_room-clause-free : goal.returns-in_err-test_room-clause-free
returns-in_err-test_room-clause-free g c _ = never_ok c.from_residual-in_err-test_room.result _ _ c.from_residual-in_err-test_room.ensures.1

pub returns-in_err-prepared-clause-free : goal.returns-in_err-prepared-clause-free
returns-in_err-prepared-clause-free g c _ = never_ok c.from_residual-in_err-prepared.result _ _ c.from_residual-in_err-prepared.ensures.1

pub returns-in_err-id-clause-free : goal.returns-in_err-id-clause-free
returns-in_err-id-clause-free g c _ = never_ok c.from_residual-in_err-id.result _ _ c.from_residual-in_err-id.ensures.1

pub returns-in_err-put_properties-clause-free : goal.returns-in_err-put_properties-clause-free
returns-in_err-put_properties-clause-free g c _ = never_ok c.from_residual-in_err-put_properties.result _ _ c.from_residual-in_err-put_properties.ensures.1

-- ---- where the file of groups is full
pub returns-in_err-ends-clause-short : goal.returns-in_err-ends-clause-short
returns-in_err-ends-clause-short g c tells =
    let s = g.S.Reads.state c.args.space.now in
    let most = groups_needed s.shape.threshold in
    let fault = c.in_err-ends.field-0.0 in
    fault_exit (λ f. f) (HadFewGroups s most) fault c.from_residual.result c.from_residual.ensures.1
    (⊎_elim (absent_few s most fault s (targets.Node c.args.from)) (absent_few s most fault s (targets.Node c.args.to)) (c.in_err-ends.ensures.absent tells))

pub returns-in_err-test_room-clause-short : goal.returns-in_err-test_room-clause-short
returns-in_err-test_room-clause-short g c tells =
    let s = g.S.Reads.state c.args.space.now in
    let n = g.S.Reads.state c.end_degrees.new.space in
    let most = groups_needed s.shape.threshold in
    let fault = c.in_err-test_room.field-0.0 in
    fault_exit (λ f. f) (HadFewGroups s most) fault c.from_residual-in_err-test_room.result c.from_residual-in_err-test_room.ensures.1
    (room_few s most fault n 1 c.in_err-test_room.ensures.full)

pub returns-in_err-prepared-clause-short : goal.returns-in_err-prepared-clause-short
returns-in_err-prepared-clause-short g c tells =
    let s = g.S.Reads.state c.args.space.now in
    let n = g.S.Reads.state c.end_degrees.new.space in
    let most = groups_needed s.shape.threshold in
    let fault = c.in_err-prepared.field-0.0 in
    fault_exit (λ f. f) (HadFewGroups s most) fault c.from_residual-in_err-prepared.result c.from_residual-in_err-prepared.ensures.1
    (line_few s most fault n c.args.names.now.names c.args.label.now c.as_slice-pairs.result.now (c.in_err-prepared.ensures.caused tells))

pub returns-in_err-id-clause-short : goal.returns-in_err-id-clause-short
returns-in_err-id-clause-short g c tells =
    let at = goal.at.returns-in_err-id-clause-short g c in
    let s = g.S.Reads.state c.args.space.now in
    let u = g.S.Reads.state c.prepare.new.space in
    let most = groups_needed s.shape.threshold in
    let fault = c.in_err-id.field-0.0 in
    let limit = ap groups_needed (ap (λ (h : Shape). h.threshold) (c.shape-threshold.ensures.is
    ∙ ap (λ (z : State). z.shape) c.end_degrees.ensures.state)) in
    let named = g.met.S.Reads.onward_shape _ _ c.prepare.ensures.onward ∙ ap (λ (z : State). z.shape) c.end_degrees.ensures.state in
    fault_exit (λ f. f) (HadFewGroups s most) fault c.from_residual-in_err-id.result c.from_residual-in_err-id.ensures.1
    (few_named s most fault u (groups_needed c.shape-threshold.result.threshold) limit refl named (names_then g at.In_ok-prepared tells)
    (c.in_err-id.ensures.short tells))

pub returns-in_err-put_properties-clause-short : goal.returns-in_err-put_properties-clause-short
returns-in_err-put_properties-clause-short g c tells =
    let s = g.S.Reads.state c.args.space.now in
    let t = g.S.Reads.state c.put_properties.new.space in
    let most = groups_needed s.shape.threshold in
    let fault = c.in_err-put_properties.field-0.0 in
    fault_exit (λ f. f) (HadFewGroups s most) fault c.from_residual-in_err-put_properties.result c.from_residual-in_err-put_properties.ensures.1
    (values_few s most fault t _ _ (c.in_err-put_properties.ensures.caused tells))
