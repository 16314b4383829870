use Rattle.std.proofs.Common.{ap, ◌∙◌, map}
use Rattle.plain_graph.specs.Sorting.{sorted}
use Rattle.traversal_run.specs.KeyValues.{entry_below, entry_of}
use Rattle.traversal_run.proofs.Ranks.{map-sorted}
use Rattle.rec_bytes.proofs.Causes.{never_ok}
use Rattle.traversal_run.proofs.key_values.ordered_rows.Goals as goal

pub returns : goal.returns
returns c = λ records shape store all.
    ap (map entry_of) c.in_ok-sort.ensures ∙ map-sorted entry_of entry_below c.in_ok-rows.rows.items
    ∙ ap (sorted entry_below) (c.in_ok-rows.ensures records shape store all)

pub returns-in_err-rows : goal.returns-in_err-rows
returns-in_err-rows c _ _ _ _ = never_ok c.from_residual.result _ _ c.from_residual.ensures.1

pub returns-in_err-sort : goal.returns-in_err-sort
returns-in_err-sort c _ _ _ _ = never_ok c.from_residual-in_err-sort.result _ _ c.from_residual-in_err-sort.ensures.1
