use Rattle.std.specs.Prelude.{IfOk}
use Rattle.std.proofs.Common.{◌≡◌, ℕ, List, subst}
use Rattle.plain_graph.specs.declared.item.Item.{Item}
use Rattle.plain_graph.specs.declared.item.Item.TheVariants as items
use Rattle.traversal_run.proofs.finding.typed_edge.Goals as goal

pub returns : goal.returns
returns c = λ records shape store low.
    let row = c.args.row.now in
    subst (λ (name : List ℕ). IfOk c.edge_item.result (λ (item : Item). item ≡ items.Edge row.id name row.from row.to))
    (c.text_of.ensures.is records shape store low) c.edge_item.ensures
