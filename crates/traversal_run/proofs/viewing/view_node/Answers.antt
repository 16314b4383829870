use Rattle.std.proofs.Common.{◌≡◌, [], ap, arith, not, subst, ◌∙◌}
use Rattle.plain_graph.specs.ElementMaps.{element_map}
use Rattle.plain_graph.specs.Graph.{properties_at}
use Rattle.plain_graph.specs.declared.command.Target.TheVariants as targets
use Rattle.plain_graph.specs.declared.item.Item.TheVariants as items
use Rattle.rec_bytes.specs.Space.{State}
use Rattle.store_rules.specs.Graph.{graph_of}
use Rattle.store_rules.specs.Views.{Records}
use Rattle.prop_store.proofs.Exits.{same_has}
use Rattle.traversal_run.proofs.Broken.{blamed_before}
use Rattle.traversal_run.proofs.OnlyReads.{is_read-on, named-read}
use Rattle.traversal_run.proofs.ViewLines.{after_row, after_row-same, view-no_node, view-node}
use Rattle.rec_bytes.proofs.Causes.{never_ok, ok_cause}
use Rattle.traversal_run.proofs.Causes.{cause_passed, later_on}
use Rattle.traversal_run.proofs.Exits.{reads_first}
use Rattle.traversal_run.proofs.viewing.view_node.Goals as goal

pub returns-then-is_none-clause-found : goal.returns-then-is_none-clause-found
returns-then-is_none-clause-found g c = λ tells store.
    view-no_node (g.R.Reads.state c.args.space.now).records c.args.id c.in_ok-row.row (c.in_ok-row.ensures.is tells)
    (c.is_none.ensures ∙ ap not c.if-is_none.true)

pub returns-clause-found : goal.returns-clause-found
returns-clause-found g c = λ tells store.
    let s = g.R.Reads.state c.args.space.now in
    let read = c.in_ok-row.ensures.read in
    let map = c.in_ok-map.map in
    view-node s.records c.args.id c.in_ok-row.row map (c.in_ok-row.ensures.is tells) (c.is_none.ensures ∙ ap not c.if-is_none.false)
    (subst (λ (w : State). map ≡ element_map (graph_of w.records) [] (items.Vertex c.args.id)) read.same
    (c.in_ok-map.ensures.found tells (named-read g.R.Reads c.args.space.now c.vertex_row.new.space c.args.names.now.names read store)))

pub returns-clause-cost : goal.returns-clause-cost
returns-clause-cost g c = λ tells store.
    let read = c.in_ok-row.ensures.read in
    after_row-same (λ (records : Records). properties_at (graph_of records) (targets.Node c.args.id)) (g.R.Reads.state c.args.space.now)
    (g.R.Reads.state c.vertex_row.new.space) (g.R.Reads.state c.loaded_map.new.space) c.in_ok-row.row
    (c.is_none.ensures ∙ ap not c.if-is_none.false) read.same c.in_ok-row.ensures.gets
    (c.in_ok-map.ensures.cost tells (named-read g.R.Reads c.args.space.now c.vertex_row.new.space c.args.names.now.names read store))

pub returns-clause-at_most : goal.returns-clause-at_most
returns-clause-at_most g c =
    after_row 736 (g.R.Reads.state c.args.space.now)
    (g.R.Reads.state c.vertex_row.new.space) (g.R.Reads.state c.loaded_map.new.space) c.in_ok-row.row
    (c.is_none.ensures ∙ ap not c.if-is_none.false) c.in_ok-row.ensures.gets c.in_ok-map.ensures.at_most

pub returns-in_err-map-clause-at_most : goal.returns-in_err-map-clause-at_most
returns-in_err-map-clause-at_most g c =
    after_row 736 (g.R.Reads.state c.args.space.now)
    (g.R.Reads.state c.vertex_row.new.space) (g.R.Reads.state c.loaded_map.new.space) c.in_ok-row.row
    (c.is_none.ensures ∙ ap not c.if-is_none.false) c.in_ok-row.ensures.gets c.in_err-map.ensures.at_most

pub returns-in_err-row-clause-found : goal.returns-in_err-row-clause-found
returns-in_err-row-clause-found g c _ _ = never_ok c.from_residual.result _ _ c.from_residual.ensures.1

pub returns-in_err-row-clause-kept : goal.returns-in_err-row-clause-kept
returns-in_err-row-clause-kept g c = never_ok c.from_residual.result _ _ c.from_residual.ensures.1

pub returns-in_err-row-clause-cost : goal.returns-in_err-row-clause-cost
returns-in_err-row-clause-cost g c _ _ = never_ok c.from_residual.result _ _ c.from_residual.ensures.1

pub returns-in_err-map-clause-found : goal.returns-in_err-map-clause-found
returns-in_err-map-clause-found g c _ _ = never_ok c.from_residual-in_err-map.result _ _ c.from_residual-in_err-map.ensures.1

pub returns-in_err-map-clause-kept : goal.returns-in_err-map-clause-kept
returns-in_err-map-clause-kept g c = never_ok c.from_residual-in_err-map.result _ _ c.from_residual-in_err-map.ensures.1

pub returns-in_err-map-clause-cost : goal.returns-in_err-map-clause-cost
returns-in_err-map-clause-cost g c _ _ = never_ok c.from_residual-in_err-map.result _ _ c.from_residual-in_err-map.ensures.1

pub returns-then-is_none-clause-cause : goal.returns-then-is_none-clause-cause
returns-then-is_none-clause-cause g c = ok_cause _ _ _ _ c.in_ok-row.ensures.cause.later

pub returns-clause-cause : goal.returns-clause-cause
returns-clause-cause g c = ok_cause _ _ _ _ (later_on c.in_ok-row.ensures.cause.later c.in_ok-map.ensures.cause.later)

pub returns-in_err-row-clause-damaged : goal.returns-in_err-row-clause-damaged
returns-in_err-row-clause-damaged g c tells = same_has _ c.from_residual.result _ c.from_residual.ensures.1 (c.in_err-row.ensures.damaged tells)

pub returns-in_err-row-clause-read : goal.returns-in_err-row-clause-read
returns-in_err-row-clause-read g c = c.in_err-row.ensures.read

pub returns-in_err-row-clause-cause : goal.returns-in_err-row-clause-cause
returns-in_err-row-clause-cause g c =
    cause_passed _ _ _ c.from_residual.result c.in_err-row.field-0.0 (omega arith) c.in_err-row.ensures.cause c.from_residual.ensures.1

pub returns-then-is_none-clause-read : goal.returns-then-is_none-clause-read
returns-then-is_none-clause-read g c = c.in_ok-row.ensures.read

pub returns-in_err-map-clause-damaged : goal.returns-in_err-map-clause-damaged
returns-in_err-map-clause-damaged g c tells =
    same_has _ c.from_residual-in_err-map.result _ c.from_residual-in_err-map.ensures.1
    (blamed_before (g.R.Reads.state c.args.space.now) (g.R.Reads.state c.vertex_row.new.space) c.in_ok-row.ensures.read.same c.in_err-map.field-0.0
    (c.in_err-map.ensures.damaged tells))

pub returns-in_err-map-clause-read : goal.returns-in_err-map-clause-read
returns-in_err-map-clause-read g c =
    is_read-on g.R.Reads g.met.R.Reads.further_onward _ _ _ c.in_ok-row.ensures.read c.in_err-map.ensures.read

pub returns-in_err-map-clause-cause : goal.returns-in_err-map-clause-cause
returns-in_err-map-clause-cause g c =
    cause_passed _ _ _ c.from_residual-in_err-map.result c.in_err-map.field-0.0 c.in_ok-row.ensures.cause.later c.in_err-map.ensures.cause
    c.from_residual-in_err-map.ensures.1

pub returns-clause-read : goal.returns-clause-read
returns-clause-read g c =
    is_read-on g.R.Reads g.met.R.Reads.further_onward _ _ _ c.in_ok-row.ensures.read c.in_ok-map.ensures.read

pub returns-then-is_none-clause-cost : goal.returns-then-is_none-clause-cost
returns-then-is_none-clause-cost g c _ _ = reads_first _ (g.R.Reads.state c.args.space.now) (g.R.Reads.state c.vertex_row.new.space) c.in_ok-row.ensures.gets

pub returns-then-is_none-clause-at_most : goal.returns-then-is_none-clause-at_most
returns-then-is_none-clause-at_most g c = reads_first 736 (g.R.Reads.state c.args.space.now) (g.R.Reads.state c.vertex_row.new.space) c.in_ok-row.ensures.gets
