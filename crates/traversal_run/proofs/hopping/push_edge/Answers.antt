use Rattle.std.proofs.Common.{◌++◌, ◌∷◌, [], List, ℕ, ap, ◌∙◌, arith}
use Rattle.plain_graph.specs.declared.item.Item.{Item}
use Rattle.plain_graph.specs.declared.item.Item.TheVariants as items
use Rattle.traversal_run.proofs.Causes.{cause_passed, memory_cause}
use Rattle.rec_bytes.proofs.Causes.{never_ok}
use Rattle.traversal_run.proofs.hopping.push_edge.Goals as goal

pub returns-then-row-mark-clause-is : goal.returns-then-row-mark-clause-is
returns-then-row-mark-clause-is g c = λ tells store typed.
    let s = g.R.Reads.state c.args.space.now in
    let row = c.args.row.now in
    let name = c.text_of.ensures.is s.records s.shape store typed in
    c.in_ok-push.ensures ∙ ap (λ (item : Item). c.args.items.now ++ item ∷ [])
    (c.in_ok-item.ensures ∙ ap (λ (label : List ℕ). items.Edge row.id label row.from row.to) name)

pub returns-in_ok-push-2-clause-is : goal.returns-in_ok-push-2-clause-is
returns-in_ok-push-2-clause-is g c = λ tells store typed.
    let mark = c.name_mark-mark.ensures in
    absurd (omega (arith, c.if-row-mark.false))

pub returns-in_default-clause-is : goal.returns-in_default-clause-is
returns-in_default-clause-is g c = λ tells store typed.
    let mark = c.name_mark-mark.ensures in
    absurd (omega (arith, c.if-row-mark.false))

pub returns-in_err-item-clause-cause : goal.returns-in_err-item-clause-cause
returns-in_err-item-clause-cause g c =
    memory_cause _ _ c.from_residual.result (omega arith) c.from_residual.ensures.1

pub returns-in_err-push-clause-cause : goal.returns-in_err-push-clause-cause
returns-in_err-push-clause-cause g c =
    memory_cause _ _ c.from_residual-in_err-push.result (omega arith) c.from_residual-in_err-push.ensures.1

pub returns-in_err-item-2-clause-cause : goal.returns-in_err-item-2-clause-cause
returns-in_err-item-2-clause-cause g c =
    cause_passed _ _ _ c.from_residual-in_err-item-2.result c.in_err-item-2.field-0.0 (omega arith) c.in_err-item-2.ensures.cause
    c.from_residual-in_err-item-2.ensures.1

pub returns-in_err-push-2-clause-cause : goal.returns-in_err-push-2-clause-cause
returns-in_err-push-2-clause-cause g c =
    memory_cause _ _ c.from_residual-in_err-push-2.result c.in_ok-item-2.ensures.cause.later c.from_residual-in_err-push-2.ensures.1

pub returns-in_err-item-clause-is : goal.returns-in_err-item-clause-is
returns-in_err-item-clause-is g c _ _ _ = never_ok c.from_residual.result _ _ c.from_residual.ensures.1

pub returns-in_err-push-clause-is : goal.returns-in_err-push-clause-is
returns-in_err-push-clause-is g c _ _ _ = never_ok c.from_residual-in_err-push.result _ _ c.from_residual-in_err-push.ensures.1

pub returns-in_err-item-2-clause-is : goal.returns-in_err-item-2-clause-is
returns-in_err-item-2-clause-is g c _ _ _ = never_ok c.from_residual-in_err-item-2.result _ _ c.from_residual-in_err-item-2.ensures.1

pub returns-in_err-push-2-clause-is : goal.returns-in_err-push-2-clause-is
returns-in_err-push-2-clause-is g c _ _ _ = never_ok c.from_residual-in_err-push-2.result _ _ c.from_residual-in_err-push-2.ensures.1

pub returns-in_err-item-2-clause-no_read : goal.returns-in_err-item-2-clause-no_read
returns-in_err-item-2-clause-no_read g c = λ tells store typed.
    let mark = c.name_mark-mark.ensures in
    absurd (omega (arith, c.if-row-mark.false))

pub returns-in_err-push-2-clause-no_read : goal.returns-in_err-push-2-clause-no_read
returns-in_err-push-2-clause-no_read g c = λ tells store typed.
    let mark = c.name_mark-mark.ensures in
    absurd (omega (arith, c.if-row-mark.false))

pub returns-in_ok-push-2-clause-no_read : goal.returns-in_ok-push-2-clause-no_read
returns-in_ok-push-2-clause-no_read g c = λ tells store typed.
    let mark = c.name_mark-mark.ensures in
    absurd (omega (arith, c.if-row-mark.false))

pub returns-in_default-clause-no_read : goal.returns-in_default-clause-no_read
returns-in_default-clause-no_read g c = λ tells store typed.
    let mark = c.name_mark-mark.ensures in
    absurd (omega (arith, c.if-row-mark.false))
