use Rattle.std.proofs.Common.{◌≡◌, ◌+◌, [], true, not, take, drop, length, ap, sym, ◌∙◌, arith}
use Rattle.std.specs.List.{list_all}
use Rattle.traversal_run.specs.Row.{stages_of, stream, through, with_first}
use Rattle.traversal_run.specs.Run.{allowed_by}
use Rattle.traversal_run.specs.Source.{is_over, left_of}
use Rattle.traversal_run.specs.Stage.{is_count}
use Rattle.traversal_run.specs.declared.row.Row.{Row}
use Rattle.traversal_run.specs.declared.source.Left.TheVariants.{Nothing}
use Rattle.traversal_run.specs.declared.source.Source.{Source}
use Rattle.traversal_run.proofs.HeldRuns.{near-cut}
use Rattle.traversal_run.proofs.Limits.{allowed-cut}
use Rattle.traversal_run.proofs.Rows.{left_of-over, through-cut}
use Rattle.store_rules.specs.Graph.{graph_of}
use Rattle.traversal_run.specs.Owing.{rows_owe, steps_owe}
use Rattle.traversal_run.proofs.OwedRows.{owe-spent}
use Rattle.traversal_run.proofs.run.Run.cut.Goals as goal

pub returns-then-have_no_count-clause-same : goal.returns-then-have_no_count-clause-same
returns-then-have_no_count-clause-same c = λ graph.
    let run = c.args.self.now in
    let rows = run.rows.items in
    let row = c.index.result.now in
    let none : list_all (λ (r : Row). not (is_count r.stage)) (take c.args.at rows) ≡ true =
    sym (ap (λ rs. list_all (λ (r : Row). not (is_count r.stage)) (take c.args.at rs)) c.deref.ensures.value) ∙ sym c.have_no_count.ensures
    ∙ c.if-have_no_count.true in
    let nothing = ap (left_of graph) c.end.ensures ∙ left_of-over graph run.source.edges in
    (λ i. with_first run.ready (through graph (c.drop_rows.ensures i) (stream (nothing i))))
    ∙ ap (with_first run.ready) (through-cut graph rows c.args.at row row (left_of graph run.source) (omega (arith, c.requires, run.rows.ok.0)) c.index.ensures
    (sym c.is_spent.ensures ∙ c.if-is_spent.true) none)

pub returns-then-have_no_count-clause-allowed : goal.returns-then-have_no_count-clause-allowed
returns-then-have_no_count-clause-allowed c =
    let run = c.args.self.now in
    let rows = run.rows.items in
    let row = c.index.result.now in
    let none : list_all (λ (r : Row). not (is_count r.stage)) (take c.args.at rows) ≡ true =
    sym (ap (λ rs. list_all (λ (r : Row). not (is_count r.stage)) (take c.args.at rs)) c.deref.ensures.value) ∙ sym c.have_no_count.ensures
    ∙ c.if-have_no_count.true in
    (λ i. allowed_by (is_over (ap (λ (s : Source). s.left) c.end.ensures i)) (stages_of (c.drop_rows.ensures i)) (length run.ready))
    ∙ allowed-cut (is_over run.source.left) rows c.args.at row row (length run.ready) (omega (arith, c.requires, run.rows.ok.0)) c.index.ensures
    (sym c.is_spent.ensures ∙ c.if-is_spent.true) none

pub returns-then-have_no_count-clause-near : goal.returns-then-have_no_count-clause-near
returns-then-have_no_count-clause-near c = λ d most near.
    let run = c.args.self.now in
    let row = c.index.result.now in
    near-cut d most run.rows.items _ run.ready c.args.at row row (omega (arith, c.requires, run.rows.ok.0)) c.index.ensures
    (sym c.is_spent.ensures ∙ c.if-is_spent.true) c.drop_rows.ensures near

pub returns-then-have_no_count-clause-owes : goal.returns-then-have_no_count-clause-owes
returns-then-have_no_count-clause-owes c = λ records.
    let run = c.args.self.now in
    let rows = run.rows.items in
    let row = c.index.result.now in
    let later = drop (c.args.at + 1) rows in
    let ended : Source = record run.source { left = Nothing } in
    let now : rows_owe records c.end.new.self c.drop_rows.new.rows.items ≡ rows_owe records ended later =
    (λ i. rows_owe records (c.end.ensures i) (c.drop_rows.ensures i)) in
    let none : steps_owe records later (left_of (graph_of records) ended) ≡ steps_owe records later [] =
    ap (steps_owe records later) (left_of-over (graph_of records) run.source.edges) in
    let few = owe-spent records rows c.args.at row row (left_of (graph_of records) run.source) (omega (arith, c.requires, run.rows.ok.0)) c.index.ensures
    (sym c.is_spent.ensures ∙ c.if-is_spent.true) in
    omega (arith, now, none, few)
