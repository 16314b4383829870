use Rattle.std.proofs.Common.{◌∷◌, List, ap, sym, ◌∙◌}
use Rattle.plain_graph.specs.Meaning.{unseen}
use Rattle.plain_graph.specs.declared.item.Item.{Item}
use Rattle.plain_graph.specs.declared.item.Item.TheVariants as items
use Rattle.traversal_run.proofs.Codes.{unseen-vertex}
use Rattle.rec_bytes.proofs.Causes.{never_ok}
use Rattle.traversal_run.proofs.seen.Seen.add_vertex.Goals as goal

pub returns : goal.returns
returns c = λ later.
    let old = c.self.inside in
    let ok = c.in_ok-is_new.ensures in
    ap (λ (seen : List Item). unseen seen (items.Vertex c.args.id ∷ later)) (sym c.self.view_is)
    ∙ unseen-vertex old.vertices old.edges old.codes c.args.id c.add.new.self c.in_ok-is_new.is_new ok.is_new ok.added later

pub returns-in_err-is_new : goal.returns-in_err-is_new
returns-in_err-is_new c = never_ok c.from_residual.result _ _ c.from_residual.ensures.1
