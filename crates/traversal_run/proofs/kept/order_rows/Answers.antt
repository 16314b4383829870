use Rattle.std.proofs.Common.{◌≡◌, ap, ◌∙◌, List, map, IfOk, subst}
use Rattle.plain_graph.specs.Meaning as meaning
use Rattle.rec_bytes.proofs.Causes.{never_ok}
use Rattle.traversal_run.specs.Kept.{place_of}
use Rattle.traversal_run.proofs.Ranks.{places_sorted}
use Rattle.traversal_run.proofs.kept.order_rows.Goals as goal

pub returns : goal.returns
returns c =
    subst (λ (places : List meaning.Ranked). IfOk c.items_of.result (λ items. items ≡ map (λ (r : meaning.Ranked). r.item) places))
    (ap (map place_of) c.in_ok-sort.ensures ∙ places_sorted c.args.descending c.args.rows.items) c.items_of.ensures

pub returns-in_err-sort : goal.returns-in_err-sort
returns-in_err-sort c = never_ok c.from_residual.result _ _ c.from_residual.ensures.1
