use Rattle.std.proofs.Common.{map, ap, ◌∙◌}
use Rattle.plain_graph.specs.declared.item.Item.TheVariants as items
use Rattle.rec_bytes.proofs.Causes.{never_ok}
use Rattle.traversal_run.specs.declared.kept.Numbered.{Numbered}
use Rattle.traversal_run.proofs.Ranks.{numbers_sorted}
use Rattle.traversal_run.proofs.kept.order_numbers.Goals as goal

pub returns : goal.returns
returns c =
    c.of_vertices.ensures
    ∙ ap (map items.Vertex) (c.in_ok-ids.ensures ∙ ap (map (λ (n : Numbered). n.id)) (c.deref.ensures.value ∙ c.in_ok-sort_numbers.ensures))
    ∙ numbers_sorted c.args.descending c.args.numbers.items

pub returns-in_err-sort_numbers : goal.returns-in_err-sort_numbers
returns-in_err-sort_numbers c = never_ok c.from_residual.result _ _ c.from_residual.ensures.1

pub returns-in_err-ids : goal.returns-in_err-ids
returns-in_err-ids c = never_ok c.from_residual-in_err-ids.result _ _ c.from_residual-in_err-ids.ensures.1
