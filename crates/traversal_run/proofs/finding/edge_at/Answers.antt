use Rattle.std.proofs.Common.{ap, Option, Some, sym, ◌∙◌, subst, arith}
use Rattle.std.specs.Prelude.{◌<◌, IfSome}
use Rattle.plain_graph.specs.declared.item.Item.{Item}
use Rattle.rel_store.specs.declared.rel_row.RelRow.{RelRow}
use Rattle.traversal_run.specs.Naming.{name_count}
use Rattle.traversal_run.proofs.Causes.{cause_passed, memory_cause}
use Rattle.traversal_run.proofs.ViewedElements.{element-none, element-typed}
use Rattle.rec_bytes.proofs.Causes.{never_ok, ok_cause}
use Rattle.traversal_run.proofs.finding.edge_at.Goals as goal

pub returns-in_default-clause-is : goal.returns-in_default-clause-is
returns-in_default-clause-is g c = λ tells store.
    let s = g.R.Reads.state c.args.space.now in
    sym (element-none s.records c.args.id (sym (c.in_ok-row.ensures.found tells) ∙ c.in_default.is))

pub returns-clause-is : goal.returns-clause-is
returns-clause-is g c = λ tells store.
    let s = g.R.Reads.state c.args.space.now in
    let low = subst (λ (row : Option RelRow). IfSome row (λ (edge : RelRow). edge.label < name_count s.records)) c.in-Some.is c.in_ok-row.ensures.typed in
    ap (λ (item : Item). Some item) (c.in_ok-item.ensures s.records s.shape store low)
    ∙ sym (element-typed s.records c.args.id c.in-Some.row (sym (c.in_ok-row.ensures.found tells) ∙ c.in-Some.is))

pub returns-in_err-row-clause-cause : goal.returns-in_err-row-clause-cause
returns-in_err-row-clause-cause g c =
    cause_passed _ _ _ c.from_residual.result c.in_err-row.field-0.0 (omega arith) c.in_err-row.ensures.cause c.from_residual.ensures.1

pub returns-in_err-item-clause-cause : goal.returns-in_err-item-clause-cause
returns-in_err-item-clause-cause g c =
    memory_cause _ _ c.from_residual-in_err-item.result c.in_ok-row.ensures.cause.later c.from_residual-in_err-item.ensures.1

pub returns-in_err-row-clause-is : goal.returns-in_err-row-clause-is
returns-in_err-row-clause-is g c _ _ = never_ok c.from_residual.result _ _ c.from_residual.ensures.1

pub returns-in_err-item-clause-is : goal.returns-in_err-item-clause-is
returns-in_err-item-clause-is g c _ _ = never_ok c.from_residual-in_err-item.result _ _ c.from_residual-in_err-item.ensures.1

pub returns-in_default-clause-cause : goal.returns-in_default-clause-cause
returns-in_default-clause-cause g c = ok_cause _ _ _ _ c.in_ok-row.ensures.cause.later

pub returns-clause-cause : goal.returns-clause-cause
returns-clause-cause g c = ok_cause _ _ _ _ c.in_ok-row.ensures.cause.later
