use Rattle.std.specs.Prelude.{IfOk}
use Rattle.std.proofs.Common.{◌≡◌, ◌∙◌, ℕ, List, ap, map, sym, subst}
use Rattle.plain_graph.specs.declared.value.Value.{Value}
use Rattle.prop_store.specs.declared.prop.Prop.{Prop as PropRow}
use Rattle.traversal_run.specs.KeyValues.{AreRead, entries_of, entry_of}
use Rattle.traversal_run.proofs.MapRows.{all_rows, is_none, is_some, read_known}
use Rattle.traversal_run.proofs.TakenRows.{entries-some}
use Rattle.traversal_run.proofs.key_values.rows_of.Goals as goal

pub returns-then-is_empty : goal.returns-then-is_empty
returns-then-is_empty g c = λ store properties read.
    let s = g.R.Reads.state c.args.space.now in
    let none = is_none c.args.keys.now (sym c.is_empty.ensures ∙ c.if-is_empty.true) in
    let all = all_rows s.records s.shape store.store c.args.props.items properties read ∙ ap (entries_of properties) (sym none) in
    subst (λ (list : List (List ℕ × Value)). IfOk c.ordered_rows.result (λ rows. map entry_of rows.items ≡ list)) all
    (c.ordered_rows.ensures s.records s.shape store (read_known s.records c.args.props.items properties read))

pub returns : goal.returns
returns g c = λ store properties read.
    let s = g.R.Reads.state c.args.space.now in
    let some = is_some c.args.keys.now (sym c.is_empty.ensures ∙ c.if-is_empty.false) in
    subst (λ (list : List (List ℕ × Value)). IfOk c.rows_among.result (λ rows. map entry_of rows.items ≡ list))
    (entries-some properties c.args.keys.now some)
    (c.rows_among.ensures store properties (subst (λ (list : List PropRow). AreRead s.records list properties) (sym c.deref.ensures.value) read))
