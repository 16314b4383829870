use Rattle.std.proofs.Common.{◌++◌, ◌∙◌, ap, append_assoc, map}
use Rattle.traversal_run.specs.Starting.{body_row, repeat_rows}
use Rattle.traversal_run.proofs.Begins.{repeat_more}
use Rattle.rec_bytes.proofs.Causes.{never_ok}
use Rattle.traversal_run.proofs.starting.push_repeat.Goals as goal

pub loop-preserved : goal.loop-preserved
loop-preserved c =
    let body = map body_row c.args.body.now in
    let old = c.args.rows.now.items in
    c.in_ok-push_body.ensures ∙ ap (λ rows. rows ++ body) c.loop.invariant ∙ append_assoc old (repeat_rows c.loop.counter body) body
    ∙ ap (λ rows. old ++ rows) (repeat_more c.loop.counter body)

pub returns-in_err-push_body : goal.returns-in_err-push_body
returns-in_err-push_body c = never_ok c.from_residual.result _ _ c.from_residual.ensures.1
