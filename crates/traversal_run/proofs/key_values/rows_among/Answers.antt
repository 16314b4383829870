use Rattle.std.proofs.Common.{◌≡◌, ◌∙◌, ◌++◌, ◌∷◌, [], Global, Option, Vec, ap, map, sym, arith}
use Rattle.std.specs.FinMap as maps
use Rattle.std.proofs.lemmas.List.{append-nil, map-append}
use Rattle.plain_graph.specs.declared.value.Value.{Value}
use Rattle.traversal_run.specs.KeyValues.{entry_of}
use Rattle.traversal_run.specs.declared.key_values.Named.{Named}
use Rattle.traversal_run.proofs.TakenRows.{first_rows, more_rows, row_if, whole_rows}
use Rattle.rec_bytes.proofs.Causes.{never_ok}
use Rattle.traversal_run.proofs.key_values.rows_among.Goals as goal
use Rattle.traversal_run.proofs.key_values.rows_among.Goals.{in-Some+in_ok-push, in_default}

pub loop-key-preserved : goal.loop-key-preserved
loop-key-preserved g c = λ store properties read.
    let before = c.loop-key.invariant store properties read in
    let value : c.in_ok-value.field-0 ≡ maps.get properties c.key-item.result = c.in_ok-value.ensures.found store properties read
    ∙ ap (maps.get properties) c.as_bytes.ensures in
    let i = c.loop-key.key-index in
    let more = more_rows properties c.args.keys.now i c.key-item.result c.in_ok-value.field-0 c.loop-key-test.true c.key-item.is value in
    elim c.match-branch-2.branch [
      | in-Some+in_ok-push w ↦ ap (λ (rows : Vec Named Global). map entry_of rows.items) w.rows-is ∙ ap (map entry_of) w.in_ok-push.ensures.items
          ∙ map-append entry_of c.loop-key.rows.items _ ∙ (λ k. before k ++ (w.as_bytes-in-Some.ensures k, w.new-value.ensures k) ∷ [])
          ∙ ap (λ (it : Option Value). first_rows properties c.args.keys.now i ++ row_if c.key-item.result it) (sym w.in-Some.is) ∙ more
      | in_default w ↦ ap (λ (rows : Vec Named Global). map entry_of rows.items) w.rows-is ∙ before ∙ sym (append-nil (first_rows properties c.args.keys.now i))
          ∙ ap (λ (it : Option Value). first_rows properties c.args.keys.now i ++ row_if c.key-item.result it) (sym w.in_default.is) ∙ more
    ]

pub returns : goal.returns
returns g c = λ store properties read. c.loop-key.invariant store properties read ∙ whole_rows properties c.args.keys.now c.loop-key.key-index (omega arith)

pub returns-in_err-value : goal.returns-in_err-value
returns-in_err-value g c _ _ _ = never_ok c.from_residual.result _ _ c.from_residual.ensures.1

pub returns-in_err-push : goal.returns-in_err-push
returns-in_err-push g c _ _ _ = never_ok c.from_residual-in_err-push.result _ _ c.from_residual-in_err-push.ensures.1
