use Rattle.std.proofs.Common.{◌≤◌, ℕ, length, sym, ◌∙◌}
use Rattle.std.proofs.lemmas.Result.{IfOk-weaker}
use Rattle.traversal_run.specs.Source.{asked_count, left_count}
use Rattle.traversal_run.specs.declared.source.Left.{Left}
use Rattle.traversal_run.proofs.StepReads.{asked_none, asked_some}
use Rattle.traversal_run.proofs.source.Left.asked.Goals as goal

pub returns-then-is_empty-clause-few : goal.returns-then-is_empty-clause-few
returns-then-is_empty-clause-few c = λ mark. asked_none mark c.args.ids.now (sym c.is_empty.ensures ∙ c.if-is_empty.true)

pub returns-clause-few : goal.returns-clause-few
returns-clause-few c =
    let ids = c.args.ids.now in
    IfOk-weaker c.among.result (λ (left : Left). (mark : ℕ) → left_count mark left ≤ length ids)
    (λ (left : Left). (mark : ℕ) → left_count mark left ≤ asked_count mark ids)
    (λ left few mark. asked_some mark ids (sym c.is_empty.ensures ∙ c.if-is_empty.false) (left_count mark left) (few mark)) c.among.ensures.few
