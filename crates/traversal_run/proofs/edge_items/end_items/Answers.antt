use Rattle.std.proofs.Common.{◌∙◌, ap, map}
use mathlib.Core.List.{map-map}
use Rattle.plain_graph.specs.declared.item.Item.TheVariants as items
use Rattle.rec_bytes.proofs.Causes.{never_ok}
use Rattle.traversal_run.specs.EdgeItems.{other_end}
use Rattle.traversal_run.proofs.edge_items.end_items.Goals as goal

pub returns-in_err-ends : goal.returns-in_err-ends
returns-in_err-ends c = never_ok c.from_residual.result _ _ c.from_residual.ensures.1

pub returns : goal.returns
returns c =
    c.of_vertices.ensures ∙ ap (map items.Vertex) c.in_ok-ends.ensures ∙ map-map items.Vertex (other_end c.args.id) c.args.rows.now
