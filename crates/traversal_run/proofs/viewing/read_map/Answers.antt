use Rattle.std.proofs.Common.{◌≡◌, ap, not, sym, subst, ◌∙◌}
use Rattle.std.specs.Prelude.{IfOk}
use Rattle.plain_graph.specs.ElementMaps.{element_map}
use Rattle.plain_graph.specs.Meaning.{properties_of}
use Rattle.plain_graph.specs.declared.element_map.ElementMap.{ElementMap}
use Rattle.rec_bytes.specs.Space.{State}
use Rattle.store_rules.specs.Graph.{graph_of}
use Rattle.store_rules.specs.Views.{Records}
use Rattle.traversal_run.proofs.OnlyReads.{named-read, is_read-on}
use Rattle.traversal_run.proofs.ViewLines.{after_row, after_row-same, map-no_node, on_ok}
use Rattle.rec_bytes.proofs.Causes.{never_ok, ok_cause}
use Rattle.traversal_run.proofs.Exits.{reads_first}
use Rattle.traversal_run.proofs.Broken.{blamed_before}
use Rattle.std.proofs.lemmas.Result.{IfErr-weaker}
use Rattle.traversal_run.proofs.viewing.read_map.Goals as goal

pub returns-then-is_none-clause-found : goal.returns-then-is_none-clause-found
returns-then-is_none-clause-found g c = λ tells store.
    let s = g.R.Reads.state c.args.space.now in
    let keys = c.args.keys.now in
    map-no_node s.records c.in-Vertex.id c.in_ok-row.row keys c.new-then-is_none.result (c.in_ok-row.ensures.is tells)
    (c.is_none.ensures ∙ ap not c.if-is_none.true) (c.new-then-is_none.ensures ∙ c.new.ensures.items)
    ∙ ap (element_map (graph_of s.records) keys) (sym c.in-Vertex.is)

pub returns-clause-found : goal.returns-clause-found
returns-clause-found g c = λ tells store.
    let read = c.in_ok-row.ensures.read in
    subst (λ (w : State). IfOk c.loaded_map-2.result (λ (map : ElementMap). map ≡ element_map (graph_of w.records) c.args.keys.now c.args.item.now)) read.same
    (c.loaded_map-2.ensures.found tells (named-read g.R.Reads c.args.space.now c.vertex_row.new.space c.args.names.now.names read store))

pub returns-clause-cost : goal.returns-clause-cost
returns-clause-cost g c = λ tells store.
    let read = c.in_ok-row.ensures.read in
    on_ok c.loaded_map-2.result
    (after_row-same (λ (records : Records). properties_of (graph_of records) c.args.item.now) (g.R.Reads.state c.args.space.now)
    (g.R.Reads.state c.vertex_row.new.space) (g.R.Reads.state c.loaded_map-2.new.space) c.in_ok-row.row
    (c.is_none.ensures ∙ ap not c.if-is_none.false) read.same c.in_ok-row.ensures.gets)
    (c.loaded_map-2.ensures.cost tells (named-read g.R.Reads c.args.space.now c.vertex_row.new.space c.args.names.now.names read store))

pub returns-clause-at_most : goal.returns-clause-at_most
returns-clause-at_most g c =
    after_row 736 (g.R.Reads.state c.args.space.now)
    (g.R.Reads.state c.vertex_row.new.space) (g.R.Reads.state c.loaded_map-2.new.space) c.in_ok-row.row
    (c.is_none.ensures ∙ ap not c.if-is_none.false) c.in_ok-row.ensures.gets c.loaded_map-2.ensures.at_most

pub returns-in_err-row-clause-found : goal.returns-in_err-row-clause-found
returns-in_err-row-clause-found g c _ _ = never_ok c.from_residual.result _ _ c.from_residual.ensures.1

pub returns-in_err-row-clause-kept : goal.returns-in_err-row-clause-kept
returns-in_err-row-clause-kept g c _ = never_ok c.from_residual.result _ _ c.from_residual.ensures.1

pub returns-in_err-row-clause-cost : goal.returns-in_err-row-clause-cost
returns-in_err-row-clause-cost g c _ _ = never_ok c.from_residual.result _ _ c.from_residual.ensures.1

pub returns-then-is_none-clause-cause : goal.returns-then-is_none-clause-cause
returns-then-is_none-clause-cause g c = ok_cause _ _ _ _ c.in_ok-row.ensures.cause.later

pub returns-then-is_none-clause-cost : goal.returns-then-is_none-clause-cost
returns-then-is_none-clause-cost g c _ _ = reads_first _ (g.R.Reads.state c.args.space.now) (g.R.Reads.state c.vertex_row.new.space) c.in_ok-row.ensures.gets

pub returns-then-is_none-clause-at_most : goal.returns-then-is_none-clause-at_most
returns-then-is_none-clause-at_most g c = reads_first 736 (g.R.Reads.state c.args.space.now) (g.R.Reads.state c.vertex_row.new.space) c.in_ok-row.ensures.gets

pub returns-clause-read : goal.returns-clause-read
returns-clause-read g c = is_read-on g.R.Reads g.met.R.Reads.further_onward _ _ _ c.in_ok-row.ensures.read c.loaded_map-2.ensures.read

pub returns-clause-damaged : goal.returns-clause-damaged
returns-clause-damaged g c tells =
    IfErr-weaker _ _ _ (blamed_before (g.R.Reads.state c.args.space.now) (g.R.Reads.state c.vertex_row.new.space) c.in_ok-row.ensures.read.same)
    (c.loaded_map-2.ensures.damaged tells)
