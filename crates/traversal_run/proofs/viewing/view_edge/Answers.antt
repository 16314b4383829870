use Rattle.std.specs.Prelude.{◌<◌, IfSome}
use Rattle.std.proofs.Common.{sym, subst, ◌∙◌, Option, arith}
use Rattle.plain_graph.specs.Graph.{properties_at}
use Rattle.plain_graph.specs.declared.command.Target.TheVariants as targets
use Rattle.prop_store.proofs.ReadCounts.{reads_then}
use Rattle.rec_bytes.specs.Space.{State}
use Rattle.rel_store.specs.declared.rel_row.RelRow.{RelRow}
use Rattle.store_rules.specs.Graph.{graph_of}
use Rattle.traversal_run.specs.KeyValues.{AreRead}
use Rattle.traversal_run.specs.Naming.{name_count}
use Rattle.traversal_run.proofs.OnlyReads.{is_read-on, named-read}
use Rattle.traversal_run.proofs.ViewLines.{edge-cost, edge-mapped, edge_are, edge_owns, edge_shown, view-no_edge}
use Rattle.traversal_run.proofs.ViewedElements.{element-none}
use Rattle.rec_bytes.proofs.Causes.{never_ok, ok_cause}
use Rattle.prop_store.proofs.Exits.{same_has}
use Rattle.traversal_run.proofs.Broken.{blamed_before}
use Rattle.traversal_run.proofs.Causes.{cause_passed, later_on, memory_cause}
use Rattle.traversal_run.proofs.Exits.{reads_first}
use Rattle.traversal_run.proofs.viewing.view_edge.Goals as goal

pub returns-in_default-clause-found : goal.returns-in_default-clause-found
returns-in_default-clause-found g c = λ tells store.
    let s = g.R.Reads.state c.args.space.now in
    view-no_edge s.records c.args.id (element-none s.records c.args.id (sym (c.in_ok-row.ensures.found tells) ∙ c.in_default.is))

pub read_owned-requires-clause-owns : goal.read_owned-requires-clause-owns
read_owned-requires-clause-owns g c = λ tells.
    let s = g.R.Reads.state c.args.space.now in
    let row = c.in-Some.row in (
      edge_shown s.records c.args.id row,
      edge_owns s (g.R.Reads.state c.edge_row.new.space) c.args.id row c.edge_owner.result
          (sym (c.in_ok-row.ensures.found tells) ∙ c.in-Some.is) c.edge_owner.ensures.is c.in_ok-row.ensures.read.same,
    )

pub returns-clause-found : goal.returns-clause-found
returns-clause-found g c = λ tells store.
    let s = g.R.Reads.state c.args.space.now in
    let z = g.R.Reads.state c.edge_row.new.space in
    let id = c.args.id in
    let row = c.in-Some.row in
    let names = c.args.names.now.names in
    let props = c.in_ok-props.props.items in
    let own = c.in_ok-row.ensures in
    let found = sym (own.found tells) ∙ c.in-Some.is in
    let low = subst (λ (row : Option RelRow). IfSome row (λ (edge : RelRow). edge.label < name_count s.records)) c.in-Some.is own.typed in
    let properties = properties_at (graph_of s.records) (targets.Edge id) in
    let before = named-read g.R.Reads c.args.space.now c.edge_row.new.space names own.read store in
    let read = is_read-on g.R.Reads g.met.R.Reads.further_onward c.args.space.now c.edge_row.new.space c.read_owned.new.space
    own.read c.in_ok-props.ensures.read in
    let are = edge_are s z id row c.edge_owner.result props found c.edge_owner.ensures.is own.read.same (c.in_ok-props.ensures.found tells before.store) in
    let made = c.in_ok-map.ensures.found (named-read g.R.Reads c.args.space.now c.read_owned.new.space names read store) properties
    (subst (λ (w : State). AreRead w.records props properties) (sym read.same) are) in
    edge-mapped s.records id row c.into_item.result c.in_ok-map.map c.text_of-label.result.now found
    (c.into_item.ensures.is ∙ c.in_ok-item.ensures s.records s.shape store low) (c.text_of-label.ensures.is s.records s.shape store low) made.0 made.1

pub returns-clause-cost : goal.returns-clause-cost
returns-clause-cost g c = λ tells store.
    let s = g.R.Reads.state c.args.space.now in
    let z = g.R.Reads.state c.edge_row.new.space in
    let id = c.args.id in
    let props = c.in_ok-props.props.items in
    let own = c.in_ok-row.ensures in
    let before = named-read g.R.Reads c.args.space.now c.edge_row.new.space c.args.names.now.names own.read store in
    let are = edge_are s z id c.in-Some.row c.edge_owner.result props (sym (own.found tells) ∙ c.in-Some.is) c.edge_owner.ensures.is own.read.same
    (c.in_ok-props.ensures.found tells before.store) in
    edge-cost s z (g.R.Reads.state c.read_owned.new.space) props (properties_at (graph_of s.records) (targets.Edge id)) store.store are
    own.gets c.in_ok-props.ensures.reads

pub returns-clause-at_most : goal.returns-clause-at_most
returns-clause-at_most g c =
    reads_then 1 736 737 (g.R.Reads.state c.args.space.now) (g.R.Reads.state c.edge_row.new.space) (g.R.Reads.state c.read_owned.new.space) (omega arith)
    c.in_ok-row.ensures.gets c.in_ok-props.ensures.at_most

pub returns-in_err-props-clause-at_most : goal.returns-in_err-props-clause-at_most
returns-in_err-props-clause-at_most g c =
    reads_then 1 736 737 (g.R.Reads.state c.args.space.now) (g.R.Reads.state c.edge_row.new.space) (g.R.Reads.state c.read_owned.new.space) (omega arith)
    c.in_ok-row.ensures.gets c.in_err-props.ensures.at_most

pub returns-in_err-map-clause-at_most : goal.returns-in_err-map-clause-at_most
returns-in_err-map-clause-at_most g c =
    reads_then 1 736 737 (g.R.Reads.state c.args.space.now) (g.R.Reads.state c.edge_row.new.space) (g.R.Reads.state c.read_owned.new.space) (omega arith)
    c.in_ok-row.ensures.gets c.in_ok-props.ensures.at_most

pub returns-in_err-row-clause-found : goal.returns-in_err-row-clause-found
returns-in_err-row-clause-found g c _ _ = never_ok c.from_residual.result _ _ c.from_residual.ensures.1

pub returns-in_err-row-clause-kept : goal.returns-in_err-row-clause-kept
returns-in_err-row-clause-kept g c = never_ok c.from_residual.result _ _ c.from_residual.ensures.1

pub returns-in_err-row-clause-cost : goal.returns-in_err-row-clause-cost
returns-in_err-row-clause-cost g c _ _ = never_ok c.from_residual.result _ _ c.from_residual.ensures.1

pub returns-in_err-item-clause-found : goal.returns-in_err-item-clause-found
returns-in_err-item-clause-found g c _ _ = never_ok c.from_residual-in_err-item.result _ _ c.from_residual-in_err-item.ensures.1

pub returns-in_err-item-clause-kept : goal.returns-in_err-item-clause-kept
returns-in_err-item-clause-kept g c = never_ok c.from_residual-in_err-item.result _ _ c.from_residual-in_err-item.ensures.1

pub returns-in_err-item-clause-cost : goal.returns-in_err-item-clause-cost
returns-in_err-item-clause-cost g c _ _ = never_ok c.from_residual-in_err-item.result _ _ c.from_residual-in_err-item.ensures.1

pub returns-in_err-props-clause-found : goal.returns-in_err-props-clause-found
returns-in_err-props-clause-found g c _ _ = never_ok c.from_residual-in_err-props.result _ _ c.from_residual-in_err-props.ensures.1

pub returns-in_err-props-clause-kept : goal.returns-in_err-props-clause-kept
returns-in_err-props-clause-kept g c = never_ok c.from_residual-in_err-props.result _ _ c.from_residual-in_err-props.ensures.1

pub returns-in_err-props-clause-cost : goal.returns-in_err-props-clause-cost
returns-in_err-props-clause-cost g c _ _ = never_ok c.from_residual-in_err-props.result _ _ c.from_residual-in_err-props.ensures.1

pub returns-in_err-map-clause-found : goal.returns-in_err-map-clause-found
returns-in_err-map-clause-found g c _ _ = never_ok c.from_residual-in_err-map.result _ _ c.from_residual-in_err-map.ensures.1

pub returns-in_err-map-clause-kept : goal.returns-in_err-map-clause-kept
returns-in_err-map-clause-kept g c = never_ok c.from_residual-in_err-map.result _ _ c.from_residual-in_err-map.ensures.1

pub returns-in_err-map-clause-cost : goal.returns-in_err-map-clause-cost
returns-in_err-map-clause-cost g c _ _ = never_ok c.from_residual-in_err-map.result _ _ c.from_residual-in_err-map.ensures.1

pub returns-in_default-clause-cause : goal.returns-in_default-clause-cause
returns-in_default-clause-cause g c = ok_cause _ _ _ _ c.in_ok-row.ensures.cause.later

pub returns-clause-cause : goal.returns-clause-cause
returns-clause-cause g c = ok_cause _ _ _ _ (later_on c.in_ok-row.ensures.cause.later c.in_ok-props.ensures.cause.later)

pub returns-in_err-row-clause-damaged : goal.returns-in_err-row-clause-damaged
returns-in_err-row-clause-damaged g c tells = same_has _ c.from_residual.result _ c.from_residual.ensures.1 (c.in_err-row.ensures.damaged tells)

pub returns-in_err-row-clause-read : goal.returns-in_err-row-clause-read
returns-in_err-row-clause-read g c = c.in_err-row.ensures.read

pub returns-in_err-row-clause-cause : goal.returns-in_err-row-clause-cause
returns-in_err-row-clause-cause g c =
    cause_passed _ _ _ c.from_residual.result c.in_err-row.field-0.0 (omega arith) c.in_err-row.ensures.cause c.from_residual.ensures.1

pub returns-in_default-clause-read : goal.returns-in_default-clause-read
returns-in_default-clause-read g c = c.in_ok-row.ensures.read

pub returns-in_err-item-clause-damaged : goal.returns-in_err-item-clause-damaged
returns-in_err-item-clause-damaged g c _ = same_has _ c.from_residual-in_err-item.result _ c.from_residual-in_err-item.ensures.1 tt

pub returns-in_err-item-clause-read : goal.returns-in_err-item-clause-read
returns-in_err-item-clause-read g c = c.in_ok-row.ensures.read

pub returns-in_err-item-clause-cause : goal.returns-in_err-item-clause-cause
returns-in_err-item-clause-cause g c =
    memory_cause _ _ c.from_residual-in_err-item.result c.in_ok-row.ensures.cause.later c.from_residual-in_err-item.ensures.1

pub returns-in_err-props-clause-damaged : goal.returns-in_err-props-clause-damaged
returns-in_err-props-clause-damaged g c tells =
    same_has _ c.from_residual-in_err-props.result _ c.from_residual-in_err-props.ensures.1
    (blamed_before (g.R.Reads.state c.args.space.now) (g.R.Reads.state c.edge_row.new.space) c.in_ok-row.ensures.read.same c.in_err-props.field-0.0
    (c.in_err-props.ensures.damaged tells))

pub returns-in_err-props-clause-read : goal.returns-in_err-props-clause-read
returns-in_err-props-clause-read g c =
    is_read-on g.R.Reads g.met.R.Reads.further_onward _ _ _ c.in_ok-row.ensures.read c.in_err-props.ensures.read

pub returns-in_err-props-clause-cause : goal.returns-in_err-props-clause-cause
returns-in_err-props-clause-cause g c =
    cause_passed _ _ _ c.from_residual-in_err-props.result c.in_err-props.field-0.0 c.in_ok-row.ensures.cause.later c.in_err-props.ensures.cause
    c.from_residual-in_err-props.ensures.1

pub returns-in_err-map-clause-damaged : goal.returns-in_err-map-clause-damaged
returns-in_err-map-clause-damaged g c _ = same_has _ c.from_residual-in_err-map.result _ c.from_residual-in_err-map.ensures.1 tt

pub returns-in_err-map-clause-read : goal.returns-in_err-map-clause-read
returns-in_err-map-clause-read g c =
    is_read-on g.R.Reads g.met.R.Reads.further_onward _ _ _ c.in_ok-row.ensures.read c.in_ok-props.ensures.read

pub returns-in_err-map-clause-cause : goal.returns-in_err-map-clause-cause
returns-in_err-map-clause-cause g c =
    memory_cause _ _ c.from_residual-in_err-map.result (later_on c.in_ok-row.ensures.cause.later c.in_ok-props.ensures.cause.later)
    c.from_residual-in_err-map.ensures.1

pub returns-clause-read : goal.returns-clause-read
returns-clause-read g c =
    is_read-on g.R.Reads g.met.R.Reads.further_onward _ _ _ c.in_ok-row.ensures.read c.in_ok-props.ensures.read

pub returns-in_default-clause-cost : goal.returns-in_default-clause-cost
returns-in_default-clause-cost g c _ _ = reads_first _ (g.R.Reads.state c.args.space.now) (g.R.Reads.state c.edge_row.new.space) c.in_ok-row.ensures.gets

pub returns-in_default-clause-at_most : goal.returns-in_default-clause-at_most
returns-in_default-clause-at_most g c = reads_first 736 (g.R.Reads.state c.args.space.now) (g.R.Reads.state c.edge_row.new.space) c.in_ok-row.ensures.gets
