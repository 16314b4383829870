use Rattle.std.proofs.Common.{◌⊎◌, inl, inr, refl, subst, sym, rules}
use Rattle.plain_graph.specs.Refusals.{change_reasons}
use Rattle.plain_graph.specs.declared.command.Command.TheVariants as commands
use Rattle.plain_graph.specs.declared.command.Target.TheVariants as targets
use Rattle.rec_bytes.specs.Space.{State}
use Rattle.change_parts.specs.Change.{IsRefusal}
use Rattle.edge_changes.specs.EdgeAdding.{IsUsedNode}
use Rattle.change_parts.specs.Degrees.{HasDegree}
use Rattle.change_parts.specs.Owners.{IsAbsent}
use Rattle.change_parts.specs.declared.change_fault.ChangeFault.{ChangeFault}
use Rattle.change_parts.proofs.Causes.{absent_read}
use Rattle.change_parts.proofs.DiskCauses.{change_cause_passed, later_on}
use Rattle.edge_changes.proofs.EdgeAdded.{source_missing, target_missing}
use Rattle.change_parts.proofs.Elements.{found_there, same_both}
use Rattle.change_parts.proofs.Exits.{fault_exit}
use Rattle.change_parts.proofs.Readings.{refused_read, store_read}
use Rattle.rec_bytes.proofs.Causes.{never_ok, ok_cause}
use Rattle.edge_changes.proofs.edge_adding.end_degrees.Goals as goal
use Rattle.store_rules.specs.Graph.{graph_in}

-- ---- an end is no node
pub returns-in_err-from_degree-clause-refused : goal.returns-in_err-from_degree-clause-refused
returns-in_err-from_degree-clause-refused g c tells names store label pairs =
    let s = g.R.Reads.state c.args.space.now in
    let fault = c.in_err-from_degree.field-0.0 in
    fault_exit (λ f. f) (IsRefusal s.shape.limit (graph_in s) (commands.Edge c.args.from label c.args.to pairs)) fault c.from_residual.result
    c.from_residual.ensures.1
    (source_missing s.shape.limit (graph_in s) c.args.from label c.args.to pairs fault (c.in_err-from_degree.ensures.refused tells names store))

pub returns-in_err-to_degree-clause-refused : goal.returns-in_err-to_degree-clause-refused
returns-in_err-to_degree-clause-refused g c tells names store label pairs =
    let s = g.R.Reads.state c.args.space.now in
    let m = g.R.Reads.state c.node_degree.new.space in
    let command = commands.Edge c.args.from label c.args.to pairs in
    let fault = c.in_err-to_degree.field-0.0 in
    let same = c.node_degree.ensures.state in
    let kept = store_read s m names same store in
    let leaves = found_there m names c.args.from c.in_ok-from_degree.from_degree kept
    (subst (λ (z : State). HasDegree z.records c.args.from c.in_ok-from_degree.from_degree) (sym same) (c.in_ok-from_degree.ensures.found tells)) in
    fault_exit (λ f. f) (IsRefusal s.shape.limit (graph_in s) command) fault c.from_residual-in_err-to_degree.result c.from_residual-in_err-to_degree.ensures.1
    (refused_read s m change_reasons command fault same
    (target_missing m.shape.limit (graph_in m) c.args.from label c.args.to pairs leaves fault (c.in_err-to_degree.ensures.refused tells names kept)))

pub returns-in_err-from_degree-clause-absent : goal.returns-in_err-from_degree-clause-absent
returns-in_err-from_degree-clause-absent g c tells =
    let s = g.R.Reads.state c.args.space.now in
    fault_exit (λ f. f) (λ (fault : ChangeFault). IsAbsent s (targets.Node c.args.from) fault ⊎ IsAbsent s (targets.Node c.args.to) fault)
    c.in_err-from_degree.field-0.0 c.from_residual.result c.from_residual.ensures.1
    (inl (c.in_err-from_degree.ensures.absent tells))

pub returns-in_err-to_degree-clause-absent : goal.returns-in_err-to_degree-clause-absent
returns-in_err-to_degree-clause-absent g c tells =
    let s = g.R.Reads.state c.args.space.now in
    let m = g.R.Reads.state c.node_degree.new.space in
    let fault = c.in_err-to_degree.field-0.0 in
    fault_exit (λ f. f) (λ (fault : ChangeFault). IsAbsent s (targets.Node c.args.from) fault ⊎ IsAbsent s (targets.Node c.args.to) fault) fault
    c.from_residual-in_err-to_degree.result c.from_residual-in_err-to_degree.ensures.1
    (inr (absent_read s m (targets.Node c.args.to) c.node_degree.ensures.state fault (c.in_err-to_degree.ensures.absent tells)))

pub returns-in_err-to_degree-clause-cause : goal.returns-in_err-to_degree-clause-cause
returns-in_err-to_degree-clause-cause g c =
    change_cause_passed _ _ _ c.from_residual-in_err-to_degree.result c.in_err-to_degree.field-0.0 c.in_ok-from_degree.ensures.cause.later
    c.in_err-to_degree.ensures.cause c.from_residual-in_err-to_degree.ensures.1

-- ---- both are
pub returns-then-from-to-clause-ends : goal.returns-then-from-to-clause-ends
returns-then-from-to-clause-ends g c = record { leaves = refl; enters = c.if-from-to.true; apart = tt }

pub returns-clause-ends : goal.returns-clause-ends
returns-clause-ends g c = record { leaves = refl; enters = refl; apart = c.if-from-to.false }

pub returns-then-from-to-clause-found : goal.returns-then-from-to-clause-found
returns-then-from-to-clause-found g c tells = c.in_ok-from_degree.ensures.found tells

pub returns-clause-found : goal.returns-clause-found
returns-clause-found g c tells = (
  c.in_ok-from_degree.ensures.found tells,
  subst (λ (z : State). HasDegree z.records c.args.to c.in_ok-to_degree.to_degree)
      c.node_degree.ensures.state (c.in_ok-to_degree.ensures.found tells),
)

pub returns-then-from-to-clause-used : goal.returns-then-from-to-clause-used
returns-then-from-to-clause-used g c tells = c.in_ok-from_degree.ensures.kind tells

pub returns-clause-used : goal.returns-clause-used
returns-clause-used g c tells = (
  c.in_ok-from_degree.ensures.kind tells,
  subst (λ (z : State). IsUsedNode z c.args.to) c.node_degree.ensures.state
      (c.in_ok-to_degree.ensures.kind tells),
)

pub returns-then-from-to-clause-keys : goal.returns-then-from-to-clause-keys
returns-then-from-to-clause-keys g c = c.in_ok-from_degree.ensures.key

pub returns-clause-keys : goal.returns-clause-keys
returns-clause-keys g c = (c.in_ok-from_degree.ensures.key, c.in_ok-to_degree.ensures.key)

pub returns-in_err-to_degree-clause-state : goal.returns-in_err-to_degree-clause-state
returns-in_err-to_degree-clause-state g c = same_both (g.R.Reads.state c.args.space.now) (g.R.Reads.state c.node_degree.new.space)
    (g.R.Reads.state c.node_degree-2.new.space) c.node_degree.ensures.state c.node_degree-2.ensures.state

pub returns-clause-state : goal.returns-clause-state
returns-clause-state g c = same_both (g.R.Reads.state c.args.space.now) (g.R.Reads.state c.node_degree.new.space) (g.R.Reads.state c.node_degree-2.new.space)
    c.node_degree.ensures.state c.node_degree-2.ensures.state

pub returns-in_err-from_degree-clause-ends : goal.returns-in_err-from_degree-clause-ends
returns-in_err-from_degree-clause-ends g c = never_ok c.from_residual.result _ _ c.from_residual.ensures.1

pub returns-in_err-from_degree-clause-keys : goal.returns-in_err-from_degree-clause-keys
returns-in_err-from_degree-clause-keys g c = never_ok c.from_residual.result _ _ c.from_residual.ensures.1

pub returns-in_err-from_degree-clause-found : goal.returns-in_err-from_degree-clause-found
returns-in_err-from_degree-clause-found g c _ = never_ok c.from_residual.result _ _ c.from_residual.ensures.1

pub returns-in_err-from_degree-clause-used : goal.returns-in_err-from_degree-clause-used
returns-in_err-from_degree-clause-used g c _ = never_ok c.from_residual.result _ _ c.from_residual.ensures.1

pub returns-in_err-from_degree-clause-onward : goal.returns-in_err-from_degree-clause-onward
returns-in_err-from_degree-clause-onward g c = search rules

pub returns-in_err-to_degree-clause-ends : goal.returns-in_err-to_degree-clause-ends
returns-in_err-to_degree-clause-ends g c = never_ok c.from_residual-in_err-to_degree.result _ _ c.from_residual-in_err-to_degree.ensures.1

pub returns-in_err-to_degree-clause-keys : goal.returns-in_err-to_degree-clause-keys
returns-in_err-to_degree-clause-keys g c = never_ok c.from_residual-in_err-to_degree.result _ _ c.from_residual-in_err-to_degree.ensures.1

pub returns-in_err-to_degree-clause-found : goal.returns-in_err-to_degree-clause-found
returns-in_err-to_degree-clause-found g c _ = never_ok c.from_residual-in_err-to_degree.result _ _ c.from_residual-in_err-to_degree.ensures.1

pub returns-in_err-to_degree-clause-used : goal.returns-in_err-to_degree-clause-used
returns-in_err-to_degree-clause-used g c _ = never_ok c.from_residual-in_err-to_degree.result _ _ c.from_residual-in_err-to_degree.ensures.1

pub returns-clause-cause : goal.returns-clause-cause
returns-clause-cause g c = ok_cause _ _ _ _ (later_on c.in_ok-from_degree.ensures.cause.later c.in_ok-to_degree.ensures.cause.later)
