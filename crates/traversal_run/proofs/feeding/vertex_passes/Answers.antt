use Rattle.std.proofs.Common.{◌≡◌, All, Bool, IfOk, is_some, cond, ap, arith, subst, sym, ◌∙◌}
use Rattle.std.proofs.lemmas.Result.{IfErr-weaker}
use Rattle.plain_graph.specs.Meaning.{is_some_and}
use Rattle.plain_graph.specs.declared.item.Item.TheVariants as items
use Rattle.prop_store.proofs.Causes.{cause_after}
use Rattle.prop_store.proofs.Exits.{same_has}
use Rattle.prop_store.proofs.ReadCounts.{reads_more, reads_then}
use Rattle.prop_store.specs.Reading.{ReadsAtMost}
use Rattle.rec_bytes.specs.Space.{State}
use Rattle.rec_bytes.proofs.Causes.{never_ok, ok_cause}
use Rattle.store_rules.specs.Graph.{graph_of}
use Rattle.store_rules.specs.Rules.{IsWellFormed}
use Rattle.traversal_run.specs.NumberedFilter.{IsNumbered, passes_numbered}
use Rattle.traversal_run.proofs.Broken.{blamed_before}
use Rattle.traversal_run.proofs.Causes.{cause_passed}
use Rattle.traversal_run.proofs.FilteredCounts.{no_row_passes, row_passes}
use Rattle.traversal_run.specs.Owing.{numbered_reads, vertex_reads}
use Rattle.traversal_run.proofs.StepReads.{vertex_there}
use Rattle.traversal_run.proofs.OnlyReads.{is_read-on}
use Rattle.traversal_run.proofs.feeding.vertex_passes.Goals as goal

pub returns-then-is_some-clause-found : goal.returns-then-is_some-clause-found
returns-then-is_some-clause-found g c = λ tells store numbered.
    let s = g.R.Reads.state c.args.space.now in
    let same = c.in_ok-row.ensures.read.same in
    let filters = c.args.filters.now in
    let p = passes_numbered (graph_of s.records) filters in
    let row = row_passes c.args.id c.in_ok-row.row p (sym c.is_some.ensures ∙ c.if-is_some.true) in
    subst (λ (b : Bool). IfOk c.passes_each.result (λ value. value ≡ b))
    (ap (λ (t : State). passes_numbered (graph_of t.records) filters (items.Vertex c.args.id)) same ∙ sym row ∙ ap (λ found. is_some_and found p)
    (sym (c.in_ok-row.ensures.is tells)))
    (c.passes_each.ensures.found tells (subst (λ (t : State). IsWellFormed t.records t.shape) (sym same) store)
    (subst (λ (t : State). All (IsNumbered t.records) filters) (sym same) numbered))

pub returns-then-is_some-clause-damaged : goal.returns-then-is_some-clause-damaged
returns-then-is_some-clause-damaged g c = λ tells.
    let s = g.R.Reads.state c.args.space.now in
    let z = g.R.Reads.state c.vertex_row.new.space in
    IfErr-weaker _ _ _ (blamed_before s z c.in_ok-row.ensures.read.same) (c.passes_each.ensures.damaged tells)

pub returns-then-is_some-clause-read : goal.returns-then-is_some-clause-read
returns-then-is_some-clause-read g c = is_read-on g.R.Reads g.met.R.Reads.further_onward _ _ _ c.in_ok-row.ensures.read c.passes_each.ensures.read

pub returns-then-is_some-clause-cause : goal.returns-then-is_some-clause-cause
returns-then-is_some-clause-cause g c = cause_after _ _ _ c.passes_each.result c.in_ok-row.ensures.cause.later c.passes_each.ensures.cause

pub returns-else-is_some-clause-found : goal.returns-else-is_some-clause-found
returns-else-is_some-clause-found g c = λ tells store numbered.
    let s = g.R.Reads.state c.args.space.now in
    let p = passes_numbered (graph_of s.records) c.args.filters.now in
    sym (ap (λ found. is_some_and found p) (c.in_ok-row.ensures.is tells) ∙ no_row_passes c.args.id c.in_ok-row.row p (sym c.is_some.ensures
    ∙ c.if-is_some.false))

pub returns-else-is_some-clause-read : goal.returns-else-is_some-clause-read
returns-else-is_some-clause-read g c = c.in_ok-row.ensures.read

pub returns-else-is_some-clause-cause : goal.returns-else-is_some-clause-cause
returns-else-is_some-clause-cause g c = ok_cause _ _ _ _ c.in_ok-row.ensures.cause.later

pub returns-in_err-row-clause-read : goal.returns-in_err-row-clause-read
returns-in_err-row-clause-read g c = c.in_err-row.ensures.read

pub returns-in_err-row-clause-cause : goal.returns-in_err-row-clause-cause
returns-in_err-row-clause-cause g c = cause_passed _ _ _ c.from_residual.result c.in_err-row.field-0.0 (omega arith) c.in_err-row.ensures.cause
    c.from_residual.ensures.1

pub returns-in_err-row-clause-found : goal.returns-in_err-row-clause-found
returns-in_err-row-clause-found g c _ _ _ = never_ok c.from_residual.result _ _ c.from_residual.ensures.1

pub returns-in_err-row-clause-damaged : goal.returns-in_err-row-clause-damaged
returns-in_err-row-clause-damaged g c tells = same_has _ c.from_residual.result _ c.from_residual.ensures.1 (c.in_err-row.ensures.damaged tells)

pub returns-then-is_some-clause-reads : goal.returns-then-is_some-clause-reads
returns-then-is_some-clause-reads g c = λ tells store numbered.
    let s = g.R.Reads.state c.args.space.now in
    let z = g.R.Reads.state c.vertex_row.new.space in
    let t = g.R.Reads.state c.passes_each.new.space in
    let same = c.in_ok-row.ensures.read.same in
    let filters = c.args.filters.now in
    let id = c.args.id in
    let each = numbered_reads (graph_of s.records) filters (items.Vertex id) in
    let there = ap is_some (c.in_ok-row.ensures.is tells) ∙ vertex_there id c.in_ok-row.row ∙ sym c.is_some.ensures ∙ c.if-is_some.true in
    let asked = ap (λ (b : Bool). cond b each 0) there in
    let later = subst (λ (u : State). ReadsAtMost (numbered_reads (graph_of u.records) filters (items.Vertex id)) z t) same
    (c.passes_each.ensures.reads tells (subst (λ (u : State). IsWellFormed u.records u.shape) (sym same) store)
    (subst (λ (u : State). All (IsNumbered u.records) filters) (sym same) numbered)) in
    reads_then 1 each (vertex_reads s.records filters id) s z t (omega (arith, asked)) c.in_ok-row.ensures.gets later

pub returns-else-is_some-clause-reads : goal.returns-else-is_some-clause-reads
returns-else-is_some-clause-reads g c = λ tells store numbered.
    let s = g.R.Reads.state c.args.space.now in
    reads_more 1 (vertex_reads s.records c.args.filters.now c.args.id) s (g.R.Reads.state c.vertex_row.new.space) (omega arith) c.in_ok-row.ensures.gets

pub returns-in_err-row-clause-reads : goal.returns-in_err-row-clause-reads
returns-in_err-row-clause-reads g c = λ tells store numbered.
    let s = g.R.Reads.state c.args.space.now in
    reads_more 1 (vertex_reads s.records c.args.filters.now c.args.id) s (g.R.Reads.state c.vertex_row.new.space) (omega arith) c.in_err-row.ensures.gets
