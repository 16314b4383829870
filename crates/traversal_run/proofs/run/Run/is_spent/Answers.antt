use Rattle.std.proofs.Common.{◌-◌, not, length, slice_get, ap, sym, ◌∙◌}
use Rattle.std.specs.Prelude.{IsTrue, false}
use Rattle.std.specs.List.{list_all}
use Rattle.traversal_run.specs.Row.{stages_of}
use Rattle.traversal_run.specs.Source.{is_over}
use Rattle.traversal_run.specs.Stage.{is_count}
use Rattle.traversal_run.specs.declared.row.Row.{Row}
use Rattle.traversal_run.proofs.Limits.{allowed-zero_ready, spent-no, spent-yes}
use Rattle.traversal_run.proofs.run.Run.is_spent.Goals as goal

no_truth : {A : Type 0} → IsTrue false → A
no_truth truth = absurd cc

pub returns-then-not-is_empty : goal.returns-then-not-is_empty
returns-then-not-is_empty c = (
  λ no. no_truth no,
  λ none.
      let run = c.args.self.now in
      let empty = c.is_empty.ensures.no (allowed-zero_ready (is_over run.source.left) (stages_of run.rows.items) run.ready none) in cc,
)

pub returns-then-is_spent : goal.returns-then-is_spent
returns-then-is_spent c =
    let run = c.args.self.now in
    let last = c.in-Some.ensures.value ∙ ap (λ rows. slice_get rows (length rows - 1)) c.deref.ensures.value in
    spent-yes (is_over run.source.left) run.rows.items c.in-Some.row.now run.ready (c.is_empty.ensures.yes c.if-not-is_empty.false) last
    (sym c.is_spent.ensures ∙ c.if-is_spent.true)
    c.have_no_count.result (c.have_no_count.ensures ∙ ap (λ rows. list_all (λ (r : Row). not (is_count r.stage)) rows) c.deref-then-is_spent.ensures.value)

pub returns-else-is_spent : goal.returns-else-is_spent
returns-else-is_spent c = (
  λ yes. absurd cc,
  λ none.
      let run = c.args.self.now in
      let last = c.in-Some.ensures.value ∙ ap (λ rows. slice_get rows (length rows - 1)) c.deref.ensures.value in
      spent-no (is_over run.source.left) run.rows.items c.in-Some.row.now run.ready (c.is_empty.ensures.yes c.if-not-is_empty.false) last c.is_spent.result
      c.is_spent.ensures none,
)
