use Rattle.std.proofs.Common.{◌≡◌, ◌∙◌, ◌+◌, ℕ, Some, List, [], ◌∷◌, sym, ap, subst, arith, refl, rules}
use Rattle.plain_graph.specs.Refusals.{change_reasons}
use Rattle.plain_graph.specs.declared.command.Command.TheVariants as commands
use Rattle.plain_graph.specs.declared.command.Target.TheVariants as targets
use Rattle.change_parts.specs.declared.change_fault.ChangeFault.TheVariants.{NoEdge}
use Rattle.prop_store.specs.Changing.{HasElement}
use Rattle.prop_store.specs.Touching.{LeavesElement, TouchesProperties}
use Rattle.prop_store.specs.declared.owner.Owner.{Owner}
use Rattle.rec_bytes.specs.Format as format
use Rattle.rec_bytes.specs.Space.{SameButReads, State}
use Rattle.store_rules.specs.Views.{kind_at}
use Rattle.rel_store.specs.Loading as rels
use Rattle.rel_store.specs.RelRecord.{rel_key}
use Rattle.store_rules.specs.Writes.{WritesAtMost, WritesBeside}
use Rattle.change_parts.specs.Change.{IsRefusal}
use Rattle.change_parts.specs.ChangeFault.{LeavesSpace, of_fault, of_row}
use Rattle.edge_changes.specs.EdgeDeleting.{HasBareRow}
use Rattle.change_parts.specs.Store.{IsMidway}
use Rattle.change_parts.proofs.KeptIndexes.{midway}
use Rattle.edge_changes.proofs.Deleting.{edge_element, edge_lacked, edge_made, left_bare, left_store}
use Rattle.change_parts.proofs.Elements.{edge_missing, same_rel}
use Rattle.change_parts.specs.Causes.{IsCaused, IsCausedAfter}
use Rattle.change_parts.proofs.Causes.{any_blamed, broken_left, caused_left, failure_caused}
use Rattle.change_parts.proofs.Exits.{failure_late, fault_exit, fault_fails, late_leaves, row_fails}
use Rattle.change_parts.proofs.KeptLinks.{dropped_kinds}
use Rattle.change_parts.proofs.Readings.{prop_refused}
use Rattle.change_parts.proofs.Reasons.{outside_refused}
use Rattle.store_rules.proofs.WriteLaws.{beside_then, beside_written, more_written, none_written, then_written}
use Rattle.change_parts.proofs.Writes.{on_any_err, touched_written}
use Rattle.change_parts.proofs.DiskCauses.{change_cause_passed, fault_cause_passed, later_on}
use Rattle.prop_store.specs.Owner.{IsInUse}
use Rattle.change_parts.specs.Owners.{owner_of}
use Rattle.change_parts.proofs.Broken.{blames_more, rel_broken, rel_in_use, unwritten_left}
use Rattle.edge_changes.proofs.EdgeBlames.{drop_blamed}
use Rattle.edge_changes.proofs.EdgeSought.{row_found, row_later, taken_told}
use Rattle.edge_changes.proofs.EdgeGone.{some_there}
use Rattle.edge_changes.proofs.EdgeFrames.{edge_left, edge_read, edge_then, taken_before}
use Rattle.change_parts.specs.Damage.{BlamesBroken}
use Rattle.rec_bytes.proofs.Causes.{never_ok, ok_cause}
use Rattle.edge_changes.proofs.edge_deleting.delete_edge.Goals as goal
use Rattle.edge_changes.proofs.edge_deleting.delete_edge.Goals.{After-drop_all, After-load, After-take_edge}
use Rattle.edge_changes.proofs.edge_deleting.delete_edge.Given.{Over}
use Rattle.store_rules.specs.Graph.{graph_in}

pub returns-in_default-clause-refused : goal.returns-in_default-clause-refused
returns-in_default-clause-refused g c tells store =
    let s = g.S.Reads.state c.args.space.now in
    edge_lacked s.shape.limit (graph_in s) c.args.id (edge_missing s c.args.id (sym c.in_default.is ∙ c.in_ok-rel.ensures.found tells))

-- it is read before its properties are taken away
module _ (g : Over) (c : After-load g) where
  loaded : SameButReads (g.S.Reads.state c.args.space.now) (g.S.Reads.state c.load.new.space)
  loaded = subst (SameButReads (g.S.Reads.state c.args.space.now)) (sym c.load.ensures.state) (same_rel (g.S.Reads.state c.args.space.now) c.args.id)

module _ (g : Over) (c : After-drop_all g) where
  found : g.S.Reads.tells → Some c.in-Some.rel ≡ rels.row_at (g.S.Reads.state c.args.space.now).records c.args.id
  found tells = sym c.in-Some.is ∙ c.in_ok-rel.ensures.found tells

  was_read : SameButReads (g.S.Reads.state c.args.space.now) (g.S.Reads.state c.load.new.space)
  was_read = loaded g (goal.at.After-drop_all g c).After-load

pub returns-in_err-dropped-clause-refused : goal.returns-in_err-dropped-clause-refused
returns-in_err-dropped-clause-refused g c tells whole =
    let store = midway _ _ whole in
    let s = g.S.Reads.state c.args.space.now in
    let v = g.S.Reads.state c.load.new.space in
    let at = (goal.at.returns-in_err-dropped-clause-refused g c).After-drop_all in
    let element = edge_element s v c.args.names.now.names c.args.id c.in-Some.rel store (found g at tells) (was_read g at) in
    fault_exit of_fault (IsRefusal s.shape.limit (graph_in s) (commands.Delete (targets.Edge c.args.id))) c.in_err-dropped.field-0.0
    c.from_residual-in_err-dropped.result c.from_residual-in_err-dropped.ensures.1
    (prop_refused s.shape.limit (graph_in s) (commands.Delete (targets.Edge c.args.id)) c.in_err-dropped.field-0.0
    (c.in_err-dropped.ensures.not_damaged tells (subst (HasElement v) (sym c.edge_owner.ensures) element)))

-- the edge before it is taken out of the chains
module _ (g : Over) (c : After-take_edge g) (tells : g.S.Reads.tells) (store : IsMidway (g.S.Reads.state c.args.space.now) c.args.names.now.names) where
  abbrev s : State
  s = g.S.Reads.state c.args.space.now

  abbrev v : State
  v = g.S.Reads.state c.load.new.space

  abbrev u : State
  u = g.S.Reads.state c.drop_all.new.space

  abbrev names : List (List ℕ)
  names = c.args.names.now.names

  there : Some c.in-Some.rel ≡ rels.row_at s.records c.args.id
  there = found g (goal.at.After-take_edge g c).After-drop_all tells

  read : SameButReads s v
  read = was_read g (goal.at.After-take_edge g c).After-drop_all

  left : IsMidway u names
  left = left_store s v names c.args.id c.in-Some.rel store there read u c.edge_owner.result c.edge_owner.ensures c.in_ok-dropped.dropped
      (c.in_ok-dropped.ensures.dropped tells)

  bare : HasBareRow u.records c.args.id c.in-Some.rel
  bare = left_bare s v names c.args.id c.in-Some.rel store there read u c.edge_owner.result c.edge_owner.ensures c.in_ok-dropped.dropped
      (c.in_ok-dropped.ensures.dropped tells)

-- failures that are met then
pub returns-in_err-take_edge-clause-refused : goal.returns-in_err-take_edge-clause-refused
returns-in_err-take_edge-clause-refused g c tells whole =
    let store = midway _ _ whole in
    let s = g.S.Reads.state c.args.space.now in
    let at = (goal.at.returns-in_err-take_edge-clause-refused g c).After-take_edge in
    fault_exit (λ f. f) (IsRefusal s.shape.limit (graph_in s) (commands.Delete (targets.Edge c.args.id))) c.in_err-take_edge.field-0.0
    c.from_residual-in_err-take_edge.result c.from_residual-in_err-take_edge.ensures.1
    (outside_refused change_reasons s.shape.limit (graph_in s) (commands.Delete (targets.Edge c.args.id)) c.in_err-take_edge.field-0.0
    (c.in_err-take_edge.ensures.not_damaged tells c.args.names.now.names (left g at tells store) (bare g at tells store)))

pub returns-in_err-take_edge-clause-leaves : goal.returns-in_err-take_edge-clause-leaves
returns-in_err-take_edge-clause-leaves g c =
    let s = g.S.Reads.state c.args.space.now in
    let t = g.S.Reads.state c.take_edge.new.space in
    fault_exit (λ f. f) (LeavesSpace s t) c.in_err-take_edge.field-0.0 c.from_residual-in_err-take_edge.result c.from_residual-in_err-take_edge.ensures.1
    (late_leaves s t c.in_err-take_edge.field-0.0 (failure_late c.in_err-take_edge.field-0.0 c.in_err-take_edge.ensures.failure))

pub returns-clause-made : goal.returns-clause-made
returns-clause-made g c tells whole =
    let store = midway _ _ whole in
    let at = (goal.at.returns-clause-made g c).After-take_edge in
    let names = c.args.names.now.names in
    edge_made (g.S.Reads.state c.args.space.now) (g.S.Reads.state c.load.new.space) names c.args.id c.in-Some.rel store (there g at tells store)
    (read g at tells store)
    (g.S.Reads.state c.drop_all.new.space) c.edge_owner.result c.edge_owner.ensures c.in_ok-dropped.dropped (c.in_ok-dropped.ensures.dropped tells)
    (g.S.Reads.state c.take_edge.new.space) whole.store.indexes (c.in_ok-take_edge.ensures.taken tells names (left g at tells store) (bare g at tells store))

pub returns-clause-kinds : goal.returns-clause-kinds
returns-clause-kinds g c tells whole n =
    let store = midway _ _ whole in
    let at = (goal.at.returns-clause-kinds g c).After-take_edge in
    let s = g.S.Reads.state c.args.space.now in
    let v = g.S.Reads.state c.load.new.space in
    let u = g.S.Reads.state c.drop_all.new.space in
    let element = edge_element s v c.args.names.now.names c.args.id c.in-Some.rel store (there g at tells store) (read g at tells store) in
    (c.in_ok-take_edge.ensures.taken tells c.args.names.now.names (left g at tells store) (bare g at tells store)).kinds n
    ∙ dropped_kinds v u c.edge_owner.result (targets.Edge c.args.id) c.in_ok-dropped.dropped c.edge_owner.ensures element
    (c.in_ok-dropped.ensures.dropped tells) n
    ∙ ap (λ (z : State). kind_at z.records format.nodes_file n) (read g at tells store)

-- what is written, besides the edge
module _ (g : Over) (c : After-take_edge g) where
  abbrev count : ℕ
  count = c.in_ok-dropped.dropped.properties + c.in_ok-dropped.dropped.blocks

  drops : WritesBeside (rel_key c.args.id) count (g.S.Reads.state c.load.new.space) (g.S.Reads.state c.drop_all.new.space)
  drops = subst (λ (o : Owner). WritesBeside o.key count (g.S.Reads.state c.load.new.space) (g.S.Reads.state c.drop_all.new.space)) c.edge_owner.ensures
      c.in_ok-dropped.ensures.writes

  written : WritesAtMost (13 + c.in_ok-dropped.dropped.properties + c.in_ok-dropped.dropped.blocks) (g.S.Reads.state c.args.space.now)
      (g.S.Reads.state c.take_edge.new.space)
  written = more_written (omega arith) (then_written (none_written _ _ (was_read g (goal.at.After-take_edge g c).After-drop_all))
      (beside_written refl (beside_then drops c.take_edge.ensures.writes)))

pub returns-clause-writes : goal.returns-clause-writes
returns-clause-writes g c = written g (goal.at.returns-clause-writes g c).After-take_edge

pub returns-in_err-dropped-clause-refused_writes : goal.returns-in_err-dropped-clause-refused_writes
returns-in_err-dropped-clause-refused_writes g c =
    let v = g.S.Reads.state c.load.new.space in
    let touched = subst (λ (o : Owner). TouchesProperties g.S.Reads.tells (o.key ∷ []) 32 704 v (g.S.Reads.state c.drop_all.new.space)) c.edge_owner.ensures
    c.drop_all.ensures.at_most in
    on_any_err _ _ (more_written (omega arith)
    (then_written (none_written _ v (was_read g (goal.at.returns-in_err-dropped-clause-refused_writes g c).After-drop_all)) (touched_written refl touched)))

pub returns-in_err-take_edge-clause-refused_writes : goal.returns-in_err-take_edge-clause-refused_writes
returns-in_err-take_edge-clause-refused_writes g c =
    let p = c.in_ok-dropped.ensures.few_properties in
    let b = c.in_ok-dropped.ensures.few_blocks in
    on_any_err _ _ (more_written (omega arith) (written g (goal.at.returns-in_err-take_edge-clause-refused_writes g c).After-take_edge))

-- ---- calls go on

pub returns-in_err-take_edge-clause-onward : goal.returns-in_err-take_edge-clause-onward
returns-in_err-take_edge-clause-onward g c =
    let on = g.met.S.Reads.further_onward in
    on _ _ _ c.load.ensures.onward (on _ _ _ c.drop_all.ensures.onward c.take_edge.ensures.onward)

pub returns-clause-onward : goal.returns-clause-onward
returns-clause-onward g c =
    let on = g.met.S.Reads.further_onward in
    on _ _ _ c.load.ensures.onward (on _ _ _ c.drop_all.ensures.onward c.take_edge.ensures.onward)

-- ---- why it is refused over any records
pub returns-in_err-rel-clause-caused : goal.returns-in_err-rel-clause-caused
returns-in_err-rel-clause-caused g c tells =
    let command = commands.Delete (targets.Edge c.args.id) in
    let s = g.S.Reads.state c.args.space.now in
    let t = g.S.Reads.state c.load.new.space in
    let names = c.args.names.now.names in
    fault_exit of_row (IsCaused command s t names names) c.in_err-rel.field-0.0 c.from_residual.result c.from_residual.ensures.1
    (failure_caused command s t names names (of_row c.in_err-rel.field-0.0) (row_fails c.in_err-rel.field-0.0))

pub returns-in_default-clause-caused : goal.returns-in_default-clause-caused
returns-in_default-clause-caused g c tells = (refl, sym (sym c.in_default.is ∙ c.in_ok-rel.ensures.found tells))

pub returns-in_err-dropped-clause-caused : goal.returns-in_err-dropped-clause-caused
returns-in_err-dropped-clause-caused g c tells =
    let command = commands.Delete (targets.Edge c.args.id) in
    let s = g.S.Reads.state c.args.space.now in
    let t = g.S.Reads.state c.drop_all.new.space in
    let names = c.args.names.now.names in
    fault_exit of_fault (IsCaused command s t names names) c.in_err-dropped.field-0.0 c.from_residual-in_err-dropped.result
    c.from_residual-in_err-dropped.ensures.1
    (failure_caused command s t names names (of_fault c.in_err-dropped.field-0.0) (fault_fails c.in_err-dropped.field-0.0))

pub returns-in_err-take_edge-clause-caused : goal.returns-in_err-take_edge-clause-caused
returns-in_err-take_edge-clause-caused g c tells =
    let command = commands.Delete (targets.Edge c.args.id) in
    let s = g.S.Reads.state c.args.space.now in
    let t = g.S.Reads.state c.take_edge.new.space in
    let names = c.args.names.now.names in
    fault_exit (λ f. f) (IsCaused command s t names names) c.in_err-take_edge.field-0.0 c.from_residual-in_err-take_edge.result
    c.from_residual-in_err-take_edge.ensures.1
    (failure_caused command s t names names c.in_err-take_edge.field-0.0 c.in_err-take_edge.ensures.failure)

pub returns-in_err-dropped-clause-cause : goal.returns-in_err-dropped-clause-cause
returns-in_err-dropped-clause-cause g c =
    fault_cause_passed _ _ _ c.from_residual-in_err-dropped.result c.in_err-dropped.field-0.0 c.in_ok-rel.ensures.cause.later c.in_err-dropped.ensures.cause
    c.from_residual-in_err-dropped.ensures.1

pub returns-in_err-take_edge-clause-cause : goal.returns-in_err-take_edge-clause-cause
returns-in_err-take_edge-clause-cause g c =
    change_cause_passed _ _ _ c.from_residual-in_err-take_edge.result c.in_err-take_edge.field-0.0
    (later_on c.in_ok-rel.ensures.cause.later c.in_ok-dropped.ensures.cause.later) c.in_err-take_edge.ensures.cause
    c.from_residual-in_err-take_edge.ensures.1

-- ---- which record is blamed
pub returns-in_err-rel-clause-damaged : goal.returns-in_err-rel-clause-damaged
returns-in_err-rel-clause-damaged g c tells =
    let s = g.S.Reads.state c.args.space.now in
    fault_exit of_row (BlamesBroken s) c.in_err-rel.field-0.0 c.from_residual.result c.from_residual.ensures.1
    (rel_broken s c.args.id c.in_err-rel.field-0.0 (c.in_err-rel.ensures.damaged tells))

pub returns-in_err-dropped-clause-damaged : goal.returns-in_err-dropped-clause-damaged
returns-in_err-dropped-clause-damaged g c tells =
    let s = g.S.Reads.state c.args.space.now in
    let v = g.S.Reads.state c.load.new.space in
    let at = (goal.at.returns-in_err-dropped-clause-damaged g c).After-drop_all in
    let same = was_read g at in
    let used = rel_in_use s (targets.Edge c.args.id) c.args.id c.in-Some.rel refl (found g at tells) in
    fault_exit of_fault (BlamesBroken s) c.in_err-dropped.field-0.0 c.from_residual-in_err-dropped.result c.from_residual-in_err-dropped.ensures.1
    (drop_blamed s v same c.in_err-dropped.field-0.0
    (c.in_err-dropped.ensures.damaged tells (subst (IsInUse v.records) (sym c.edge_owner.ensures)
    (subst (λ (z : State). IsInUse z.records (owner_of (targets.Edge c.args.id))) (sym same) used))))

pub returns-in_err-take_edge-clause-damaged : goal.returns-in_err-take_edge-clause-damaged
returns-in_err-take_edge-clause-damaged g c tells =
    let s = g.S.Reads.state c.args.space.now in
    let v = g.S.Reads.state c.load.new.space in
    let w = g.S.Reads.state c.drop_all.new.space in
    let at = (goal.at.After-take_edge g (goal.at.returns-in_err-take_edge-clause-damaged g c).After-take_edge).After-drop_all in
    let id = c.args.id in
    let rel = c.in-Some.rel in
    let row = sym (found g at tells) in
    let left = edge_then s v w id (edge_read s v id (was_read g at)) (edge_left v w id (g.met.S.Reads.onward_shape _ _ c.drop_all.ensures.onward)
    (subst (LeavesElement v w) c.edge_owner.ensures (c.drop_all.ensures.leaves tells))) in
    fault_exit (λ f. f) (BlamesBroken s) c.in_err-take_edge.field-0.0 c.from_residual-in_err-take_edge.result c.from_residual-in_err-take_edge.ensures.1
    (blames_more _ _ (λ damage told. taken_told s id rel row damage (taken_before s w id rel left damage told))
    c.in_err-take_edge.field-0.0 (c.in_err-take_edge.ensures.damaged tells (row_later s w id left rel (row_found s id rel row))))

-- ---- and by the space as it is left alone

pub returns-in_err-rel-clause-caused_after : goal.returns-in_err-rel-clause-caused_after
returns-in_err-rel-clause-caused_after g c tells =
    let t = g.S.Reads.state c.load.new.space in
    let names = c.args.names.now.names in
    let command = commands.Delete (targets.Edge c.args.id) in
    let fault = of_row c.in_err-rel.field-0.0 in
    fault_exit of_row (IsCausedAfter command t names names) c.in_err-rel.field-0.0 c.from_residual.result c.from_residual.ensures.1
    (record { caused = failure_caused command t t names names fault (row_fails c.in_err-rel.field-0.0); damaged = any_blamed _ (λ damage. tt) fault })

pub returns-in_err-dropped-clause-caused_after : goal.returns-in_err-dropped-clause-caused_after
returns-in_err-dropped-clause-caused_after g c tells =
    let t = g.S.Reads.state c.drop_all.new.space in
    let names = c.args.names.now.names in
    let command = commands.Delete (targets.Edge c.args.id) in
    let fault = of_fault c.in_err-dropped.field-0.0 in
    fault_exit of_fault (IsCausedAfter command t names names) c.in_err-dropped.field-0.0 c.from_residual-in_err-dropped.result
    c.from_residual-in_err-dropped.ensures.1 (record {
      caused = failure_caused command t t names names fault (fault_fails c.in_err-dropped.field-0.0);
      damaged =
          any_blamed _ (λ damage. tt) fault;
    })

pub returns-in_err-take_edge-clause-caused_after : goal.returns-in_err-take_edge-clause-caused_after
returns-in_err-take_edge-clause-caused_after g c tells =
    let t = g.S.Reads.state c.take_edge.new.space in
    let names = c.args.names.now.names in
    let command = commands.Delete (targets.Edge c.args.id) in
    let fault = c.in_err-take_edge.field-0.0 in
    fault_exit (λ f. f) (IsCausedAfter command t names names) c.in_err-take_edge.field-0.0 c.from_residual-in_err-take_edge.result
    c.from_residual-in_err-take_edge.ensures.1 (record {
      caused = failure_caused command t t names names fault (c.in_err-take_edge.ensures.failure);
      damaged =
          any_blamed _ (λ damage. tt) fault;
    })

pub returns-in_default-clause-caused_after : goal.returns-in_default-clause-caused_after
returns-in_default-clause-caused_after g c tells =
    let s = g.S.Reads.state c.args.space.now in
    let t = g.S.Reads.state c.load.new.space in
    let names = c.args.names.now.names in
    let read = loaded g (goal.at.returns-in_default-clause-caused_after g c).After-load in
    record {
      caused = caused_left (commands.Delete (targets.Edge c.args.id)) s t t names names read (NoEdge c.args.id)
          (refl, sym (sym c.in_default.is ∙ c.in_ok-rel.ensures.found tells));
      damaged = tt;
    }

-- ---- which record is blamed, in the space as it is left

pub returns-in_err-rel-clause-broken : goal.returns-in_err-rel-clause-broken
returns-in_err-rel-clause-broken g c tells =
    let s = g.S.Reads.state c.args.space.now in
    let t = g.S.Reads.state c.load.new.space in
    let read = loaded g (goal.at.returns-in_err-rel-clause-broken g c).After-load in
    fault_exit of_row (BlamesBroken t) c.in_err-rel.field-0.0 c.from_residual.result c.from_residual.ensures.1
    (broken_left s t read (of_row c.in_err-rel.field-0.0) (rel_broken s c.args.id c.in_err-rel.field-0.0 (c.in_err-rel.ensures.damaged tells)))

pub returns-in_err-dropped-clause-broken : goal.returns-in_err-dropped-clause-broken
returns-in_err-dropped-clause-broken g c tells =
    let s = g.S.Reads.state c.args.space.now in
    let v = g.S.Reads.state c.load.new.space in
    let t = g.S.Reads.state c.drop_all.new.space in
    let at = (goal.at.returns-in_err-dropped-clause-broken g c).After-drop_all in
    let used = rel_in_use s (targets.Edge c.args.id) c.args.id c.in-Some.rel refl (found g at tells) in
    fault_exit of_fault (BlamesBroken t) c.in_err-dropped.field-0.0 c.from_residual-in_err-dropped.result c.from_residual-in_err-dropped.ensures.1
    (unwritten_left v t c.in_err-dropped.field-0.0 (c.in_err-dropped.ensures.damaged tells (subst (IsInUse v.records) (sym c.edge_owner.ensures)
    (subst (λ (z : State). IsInUse z.records (owner_of (targets.Edge c.args.id))) (sym (was_read g at)) used)))
    c.in_err-dropped.ensures.unwritten)

pub returns-in_err-take_edge-clause-broken : goal.returns-in_err-take_edge-clause-broken
returns-in_err-take_edge-clause-broken g c tells =
    let s = g.S.Reads.state c.args.space.now in
    let v = g.S.Reads.state c.load.new.space in
    let w = g.S.Reads.state c.drop_all.new.space in
    let at = (goal.at.After-take_edge g (goal.at.returns-in_err-take_edge-clause-broken g c).After-take_edge).After-drop_all in
    let id = c.args.id in
    let left = edge_then s v w id (edge_read s v id (was_read g at)) (edge_left v w id (g.met.S.Reads.onward_shape _ _ c.drop_all.ensures.onward)
    (subst (LeavesElement v w) c.edge_owner.ensures (c.drop_all.ensures.leaves tells))) in
    fault_exit (λ f. f) (BlamesBroken (g.S.Reads.state c.take_edge.new.space)) c.in_err-take_edge.field-0.0 c.from_residual-in_err-take_edge.result
    c.from_residual-in_err-take_edge.ensures.1
    (c.in_err-take_edge.ensures.damaged_after tells (row_later s w id left c.in-Some.rel (row_found s id c.in-Some.rel (sym (found g at tells)))))

pub returns-in_err-rel-clause-made : goal.returns-in_err-rel-clause-made
returns-in_err-rel-clause-made g c _ = never_ok c.from_residual.result _ _ c.from_residual.ensures.1

pub returns-in_err-rel-clause-kinds : goal.returns-in_err-rel-clause-kinds
returns-in_err-rel-clause-kinds g c _ = never_ok c.from_residual.result _ _ c.from_residual.ensures.1

pub returns-in_err-rel-clause-light : goal.returns-in_err-rel-clause-light
returns-in_err-rel-clause-light g c = never_ok c.from_residual.result _ _ c.from_residual.ensures.1

pub returns-in_err-rel-clause-writes : goal.returns-in_err-rel-clause-writes
returns-in_err-rel-clause-writes g c = never_ok c.from_residual.result _ _ c.from_residual.ensures.1

pub returns-in_err-rel-clause-onward : goal.returns-in_err-rel-clause-onward
returns-in_err-rel-clause-onward g c = search rules

pub returns-in_err-dropped-clause-made : goal.returns-in_err-dropped-clause-made
returns-in_err-dropped-clause-made g c _ = never_ok c.from_residual-in_err-dropped.result _ _ c.from_residual-in_err-dropped.ensures.1

pub returns-in_err-dropped-clause-kinds : goal.returns-in_err-dropped-clause-kinds
returns-in_err-dropped-clause-kinds g c _ = never_ok c.from_residual-in_err-dropped.result _ _ c.from_residual-in_err-dropped.ensures.1

pub returns-in_err-dropped-clause-light : goal.returns-in_err-dropped-clause-light
returns-in_err-dropped-clause-light g c = never_ok c.from_residual-in_err-dropped.result _ _ c.from_residual-in_err-dropped.ensures.1

pub returns-in_err-dropped-clause-writes : goal.returns-in_err-dropped-clause-writes
returns-in_err-dropped-clause-writes g c = never_ok c.from_residual-in_err-dropped.result _ _ c.from_residual-in_err-dropped.ensures.1

pub returns-in_err-take_edge-clause-made : goal.returns-in_err-take_edge-clause-made
returns-in_err-take_edge-clause-made g c _ = never_ok c.from_residual-in_err-take_edge.result _ _ c.from_residual-in_err-take_edge.ensures.1

pub returns-in_err-take_edge-clause-kinds : goal.returns-in_err-take_edge-clause-kinds
returns-in_err-take_edge-clause-kinds g c _ = never_ok c.from_residual-in_err-take_edge.result _ _ c.from_residual-in_err-take_edge.ensures.1

pub returns-in_err-take_edge-clause-light : goal.returns-in_err-take_edge-clause-light
returns-in_err-take_edge-clause-light g c = never_ok c.from_residual-in_err-take_edge.result _ _ c.from_residual-in_err-take_edge.ensures.1

pub returns-in_err-take_edge-clause-writes : goal.returns-in_err-take_edge-clause-writes
returns-in_err-take_edge-clause-writes g c = never_ok c.from_residual-in_err-take_edge.result _ _ c.from_residual-in_err-take_edge.ensures.1

pub returns-clause-cause : goal.returns-clause-cause
returns-clause-cause g c =
    ok_cause _ _ _ _ (later_on (later_on c.in_ok-rel.ensures.cause.later c.in_ok-dropped.ensures.cause.later) c.in_ok-take_edge.ensures.cause.later)

-- ---- whatever the records are, it was there, and is in use no more
pub returns-clause-there : goal.returns-clause-there
returns-clause-there g c tells none =
    some_there c.in-Some.rel (found g (goal.at.returns-clause-there g c).After-drop_all tells ∙ none)

pub returns-clause-gone : goal.returns-clause-gone
returns-clause-gone g c tells = c.in_ok-take_edge.ensures.gone tells

pub returns-in_err-rel-clause-there : goal.returns-in_err-rel-clause-there
returns-in_err-rel-clause-there g c _ = never_ok c.from_residual.result _ _ c.from_residual.ensures.1

pub returns-in_err-rel-clause-gone : goal.returns-in_err-rel-clause-gone
returns-in_err-rel-clause-gone g c _ = never_ok c.from_residual.result _ _ c.from_residual.ensures.1

pub returns-in_err-dropped-clause-there : goal.returns-in_err-dropped-clause-there
returns-in_err-dropped-clause-there g c _ = never_ok c.from_residual-in_err-dropped.result _ _ c.from_residual-in_err-dropped.ensures.1

pub returns-in_err-dropped-clause-gone : goal.returns-in_err-dropped-clause-gone
returns-in_err-dropped-clause-gone g c _ = never_ok c.from_residual-in_err-dropped.result _ _ c.from_residual-in_err-dropped.ensures.1

pub returns-in_err-take_edge-clause-there : goal.returns-in_err-take_edge-clause-there
returns-in_err-take_edge-clause-there g c _ = never_ok c.from_residual-in_err-take_edge.result _ _ c.from_residual-in_err-take_edge.ensures.1

pub returns-in_err-take_edge-clause-gone : goal.returns-in_err-take_edge-clause-gone
returns-in_err-take_edge-clause-gone g c _ = never_ok c.from_residual-in_err-take_edge.result _ _ c.from_residual-in_err-take_edge.ensures.1
