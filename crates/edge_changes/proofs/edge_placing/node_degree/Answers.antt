use Rattle.std.proofs.Common.{◌∙◌, refl, sym, rules}
use Rattle.change_parts.proofs.Elements.{node_missing, used_of}
use Rattle.plain_graph.specs.declared.command.Target.TheVariants as targets
use Rattle.change_parts.specs.ChangeFault.{of_row}
use Rattle.change_parts.specs.Owners.{IsAbsent}
use Rattle.change_parts.proofs.Causes.{node_absent}
use Rattle.change_parts.proofs.Exits.{fault_exit}
use Rattle.group_store.proofs.KeptHeads.{node_known}
use Rattle.rec_bytes.proofs.Causes.{never_ok, ok_cause}
use Rattle.edge_changes.proofs.edge_placing.node_degree.Goals as goal

pub returns-in_default-clause-refused : goal.returns-in_default-clause-refused
returns-in_default-clause-refused g c tells names store =
    (refl, node_missing (g.R.Reads.state c.args.space.now) c.args.id (sym c.in_default.is ∙ c.in_ok-node.ensures.found tells))

pub returns-in_err-node-clause-absent : goal.returns-in_err-node-clause-absent
returns-in_err-node-clause-absent g c tells =
    let s = g.R.Reads.state c.args.space.now in
    fault_exit of_row (IsAbsent s (targets.Node c.args.id)) c.in_err-node.field-0.0 c.from_residual.result c.from_residual.ensures.1
    (node_absent s (targets.Node c.args.id) c.args.id c.in_err-node.field-0.0 (c.in_err-node.ensures.damaged tells))

pub returns-in_default-clause-absent : goal.returns-in_default-clause-absent
returns-in_default-clause-absent g c tells = (refl, sym (sym c.in_default.is ∙ c.in_ok-node.ensures.found tells))

pub returns-clause-kind : goal.returns-clause-kind
returns-clause-kind g c tells =
    let s = g.R.Reads.state c.args.space.now in
    node_known s c.args.id (c.in_ok-node.ensures.known tells) (used_of s c.args.id c.in-Some.node (sym c.in-Some.is ∙ c.in_ok-node.ensures.found tells)).0

pub returns-in_err-node-clause-found : goal.returns-in_err-node-clause-found
returns-in_err-node-clause-found g c _ = never_ok c.from_residual.result _ _ c.from_residual.ensures.1

pub returns-in_err-node-clause-kind : goal.returns-in_err-node-clause-kind
returns-in_err-node-clause-kind g c _ = never_ok c.from_residual.result _ _ c.from_residual.ensures.1

pub returns-in_err-node-clause-key : goal.returns-in_err-node-clause-key
returns-in_err-node-clause-key g c = never_ok c.from_residual.result _ _ c.from_residual.ensures.1

pub returns-in_err-node-clause-onward : goal.returns-in_err-node-clause-onward
returns-in_err-node-clause-onward g c = search rules

pub returns-clause-cause : goal.returns-clause-cause
returns-clause-cause g c = ok_cause _ _ _ _ c.in_ok-node.ensures.cause.later
