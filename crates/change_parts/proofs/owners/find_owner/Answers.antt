use Rattle.std.proofs.Common.{◌≡◌, true, ◌∙◌, subst, sym, rules}
use Rattle.plain_graph.specs.Graph.{has_element}
use Rattle.change_parts.specs.ChangeFault.{of_row}
use Rattle.change_parts.specs.Damage.{BlamesBroken}
use Rattle.change_parts.specs.Owners.{MayMiss}
use Rattle.change_parts.proofs.Broken.{node_broken, node_in_use, rel_broken, rel_in_use, row_misses}
use Rattle.change_parts.proofs.Exits.{fault_exit}
use Rattle.change_parts.proofs.Elements.{edge_loaded, edge_missing, node_loaded, node_missing}
use Rattle.change_parts.specs.Owners.{IsAbsent}
use Rattle.change_parts.proofs.Causes.{edge_absent, node_absent}
use Rattle.rec_bytes.proofs.Causes.{never_ok}
use Rattle.change_parts.proofs.owners.find_owner.Goals as goal
use Rattle.store_rules.specs.Graph.{graph_in}

pub returns-in-Some-clause-there : goal.returns-in-Some-clause-there
returns-in-Some-clause-there g c tells =
    let s = g.R.Reads.state c.args.space.now in
    subst (λ t. has_element (graph_in s) t ≡ true) (sym c.in-Node.is) (node_loaded s c.in-Node.id c.in-Some.field-0
    (sym c.in-Some.is ∙ c.in_ok-load-in-Node.ensures.found tells))

pub returns-in-None-clause-refused : goal.returns-in-None-clause-refused
returns-in-None-clause-refused g c tells names store =
    (c.in-Node.is, node_missing (g.R.Reads.state c.args.space.now) c.in-Node.id (sym c.in-None.is ∙ c.in_ok-load-in-Node.ensures.found tells))

pub returns-in-Some-2-clause-there : goal.returns-in-Some-2-clause-there
returns-in-Some-2-clause-there g c tells =
    let s = g.R.Reads.state c.args.space.now in
    subst (λ t. has_element (graph_in s) t ≡ true) (sym c.in-Edge.is) (edge_loaded s c.in-Edge.id c.in-Some-2.field-0
    (sym c.in-Some-2.is ∙ c.in_ok-load-in-Edge.ensures.found tells))

pub returns-in-None-2-clause-refused : goal.returns-in-None-2-clause-refused
returns-in-None-2-clause-refused g c tells names store =
    (c.in-Edge.is, edge_missing (g.R.Reads.state c.args.space.now) c.in-Edge.id (sym c.in-None-2.is ∙ c.in_ok-load-in-Edge.ensures.found tells))

-- ---- an element that is found is in use

pub returns-in-Some-clause-in_use : goal.returns-in-Some-clause-in_use
returns-in-Some-clause-in_use g c tells =
    node_in_use (g.R.Reads.state c.args.space.now) c.args.target c.in-Node.id c.in-Some.field-0 c.in-Node.is
    (sym c.in-Some.is ∙ c.in_ok-load-in-Node.ensures.found tells)

pub returns-in-Some-2-clause-in_use : goal.returns-in-Some-2-clause-in_use
returns-in-Some-2-clause-in_use g c tells =
    rel_in_use (g.R.Reads.state c.args.space.now) c.args.target c.in-Edge.id c.in-Some-2.field-0 c.in-Edge.is
    (sym c.in-Some-2.is ∙ c.in_ok-load-in-Edge.ensures.found tells)

-- ---- and one that can't be read is damaged

pub returns-in_err-load-in-Node-clause-damaged : goal.returns-in_err-load-in-Node-clause-damaged
returns-in_err-load-in-Node-clause-damaged g c tells =
    let s = g.R.Reads.state c.args.space.now in
    fault_exit of_row (BlamesBroken s) c.in_err-load-in-Node.field-0.0 c.from_residual.result c.from_residual.ensures.1
    (node_broken s c.in-Node.id c.in_err-load-in-Node.field-0.0 (c.in_err-load-in-Node.ensures.damaged tells))

pub returns-in_err-load-in-Edge-clause-damaged : goal.returns-in_err-load-in-Edge-clause-damaged
returns-in_err-load-in-Edge-clause-damaged g c tells =
    let s = g.R.Reads.state c.args.space.now in
    fault_exit of_row (BlamesBroken s) c.in_err-load-in-Edge.field-0.0 c.from_residual-in_err-load-in-Edge.result c.from_residual-in_err-load-in-Edge.ensures.1
    (rel_broken s c.in-Edge.id c.in_err-load-in-Edge.field-0.0 (c.in_err-load-in-Edge.ensures.damaged tells))

pub returns-in_err-load-in-Node-clause-missing : goal.returns-in_err-load-in-Node-clause-missing
returns-in_err-load-in-Node-clause-missing g c = fault_exit of_row MayMiss c.in_err-load-in-Node.field-0.0 c.from_residual.result c.from_residual.ensures.1
    (row_misses c.in_err-load-in-Node.field-0.0)

pub returns-in_err-load-in-Edge-clause-missing : goal.returns-in_err-load-in-Edge-clause-missing
returns-in_err-load-in-Edge-clause-missing g c = fault_exit of_row MayMiss c.in_err-load-in-Edge.field-0.0 c.from_residual-in_err-load-in-Edge.result
    c.from_residual-in_err-load-in-Edge.ensures.1 (row_misses c.in_err-load-in-Edge.field-0.0)

-- ---- why it isn't found

pub returns-in_err-load-in-Node-clause-absent : goal.returns-in_err-load-in-Node-clause-absent
returns-in_err-load-in-Node-clause-absent g c tells =
    let s = g.R.Reads.state c.args.space.now in
    fault_exit of_row (IsAbsent s c.args.target) c.in_err-load-in-Node.field-0.0 c.from_residual.result c.from_residual.ensures.1
    (node_absent s c.args.target c.in-Node.id c.in_err-load-in-Node.field-0.0 (c.in_err-load-in-Node.ensures.damaged tells))

pub returns-in_err-load-in-Edge-clause-absent : goal.returns-in_err-load-in-Edge-clause-absent
returns-in_err-load-in-Edge-clause-absent g c tells =
    let s = g.R.Reads.state c.args.space.now in
    fault_exit of_row (IsAbsent s c.args.target) c.in_err-load-in-Edge.field-0.0 c.from_residual-in_err-load-in-Edge.result
    c.from_residual-in_err-load-in-Edge.ensures.1 (edge_absent s c.args.target c.in-Edge.id c.in_err-load-in-Edge.field-0.0
    (c.in_err-load-in-Edge.ensures.damaged tells))

pub returns-in_err-load-in-Node-clause-owner : goal.returns-in_err-load-in-Node-clause-owner
returns-in_err-load-in-Node-clause-owner g c = never_ok c.from_residual.result _ _ c.from_residual.ensures.1

pub returns-in_err-load-in-Node-clause-there : goal.returns-in_err-load-in-Node-clause-there
returns-in_err-load-in-Node-clause-there g c _ = never_ok c.from_residual.result _ _ c.from_residual.ensures.1

pub returns-in_err-load-in-Node-clause-in_use : goal.returns-in_err-load-in-Node-clause-in_use
returns-in_err-load-in-Node-clause-in_use g c _ = never_ok c.from_residual.result _ _ c.from_residual.ensures.1

pub returns-in_err-load-in-Node-clause-key : goal.returns-in_err-load-in-Node-clause-key
returns-in_err-load-in-Node-clause-key g c = never_ok c.from_residual.result _ _ c.from_residual.ensures.1

pub returns-in_err-load-in-Node-clause-onward : goal.returns-in_err-load-in-Node-clause-onward
returns-in_err-load-in-Node-clause-onward g c = search rules

pub returns-in_err-load-in-Edge-clause-owner : goal.returns-in_err-load-in-Edge-clause-owner
returns-in_err-load-in-Edge-clause-owner g c = never_ok c.from_residual-in_err-load-in-Edge.result _ _ c.from_residual-in_err-load-in-Edge.ensures.1

pub returns-in_err-load-in-Edge-clause-there : goal.returns-in_err-load-in-Edge-clause-there
returns-in_err-load-in-Edge-clause-there g c _ = never_ok c.from_residual-in_err-load-in-Edge.result _ _ c.from_residual-in_err-load-in-Edge.ensures.1

pub returns-in_err-load-in-Edge-clause-in_use : goal.returns-in_err-load-in-Edge-clause-in_use
returns-in_err-load-in-Edge-clause-in_use g c _ = never_ok c.from_residual-in_err-load-in-Edge.result _ _ c.from_residual-in_err-load-in-Edge.ensures.1

pub returns-in_err-load-in-Edge-clause-key : goal.returns-in_err-load-in-Edge-clause-key
returns-in_err-load-in-Edge-clause-key g c = never_ok c.from_residual-in_err-load-in-Edge.result _ _ c.from_residual-in_err-load-in-Edge.ensures.1
