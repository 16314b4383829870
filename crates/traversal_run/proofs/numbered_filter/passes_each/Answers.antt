use Rattle.std.proofs.Common.{◌≡◌, ◌+◌, ℕ, suc, List, take, ap, subst, sym, ◌∙◌, refl, arith}
use Rattle.plain_graph.specs.Meaning.{passes}
use Rattle.plain_graph.specs.declared.item.Item.TheVariants as items
use Rattle.prop_store.proofs.ReadCounts.{reads_more, reads_none, reads_then}
use Rattle.rec_bytes.specs.Space.{State}
use Rattle.store_rules.specs.Graph.{graph_of}
use Rattle.store_rules.specs.Rules.{IsWellFormed}
use Rattle.traversal_run.specs.NumberedFilter.{IsNumbered}
use Rattle.traversal_run.specs.Owing.{filter_reads, numbered_reads}
use Rattle.traversal_run.specs.declared.numbered_filter.NumberedFilter.{NumberedFilter}
use Rattle.traversal_run.proofs.FilteredCounts.{fails_one, passes_more}
use Rattle.traversal_run.proofs.OnlyReads.{is_read-none, is_read-on}
use Rattle.traversal_run.proofs.StepReads.{numbered_one, numbered_part}
use Rattle.traversal_run.proofs.Causes.{cause_passed, later_on}
use Rattle.rec_bytes.proofs.Causes.{ok_cause}
use Rattle.traversal_run.proofs.numbered_filter.passes_each.Goals as goal

pub returns-then-not-branch-clause-found : goal.returns-then-not-branch-clause-found
returns-then-not-branch-clause-found g c = λ tells store numbered.
    let s = g.R.Reads.state c.args.space.now in
    let same = c.loop-filter.invariant.read.same in
    let at = c.loop-filter.filter-index in
    let one = c.filter-item.result in
    let vertex = items.Vertex c.args.id in
    let is = c.in_ok-passes.ensures.found tells (subst (λ (t : State). IsWellFormed t.records t.shape) (sym same) store)
    (subst (λ (t : State). IsNumbered t.records one) (sym same) (subst (IsNumbered s.records) (sym c.filter-item.is) (numbered at one c.loop-filter-test.true)))
    ∙ ap (λ (t : State). passes (graph_of t.records) one.filter.now vertex) same in
    sym (fails_one (graph_of s.records) c.args.filters.now at one vertex c.loop-filter-test.true c.filter-item.is (sym is ∙ c.if-not-branch.true))

pub loop-filter-preserved : goal.loop-filter-preserved
loop-filter-preserved g c =
    let s = g.R.Reads.state c.args.space.now in
    let same = c.loop-filter.invariant.read.same in
    let at = c.loop-filter.filter-index in
    let one = c.filter-item.result in
    let vertex = items.Vertex c.args.id in
    record {
      passed = λ tells store numbered.
          let is = c.in_ok-passes.ensures.found tells (subst (λ (t : State). IsWellFormed t.records t.shape) (sym same) store)
          (subst (λ (t : State). IsNumbered t.records one) (sym same) (subst (IsNumbered s.records) (sym c.filter-item.is)
          (numbered at one c.loop-filter-test.true)))
          ∙ ap (λ (t : State). passes (graph_of t.records) one.filter.now vertex) same in
          passes_more (graph_of s.records) c.args.filters.now at one vertex c.loop-filter-test.true c.filter-item.is
          (c.loop-filter.invariant.passed tells store numbered) (sym is ∙ c.if-not-branch.false);
      reads = λ tells store numbered.
          let past : at + 1 ≡ suc at = omega arith in
          let more = numbered_one (graph_of s.records) vertex c.args.filters.now at one c.loop-filter-test.true c.filter-item.is
          (c.loop-filter.invariant.passed tells store numbered) in
          let same_take = ap (λ (n : ℕ). numbered_reads (graph_of s.records) (take n c.args.filters.now) vertex) past in
          reads_then (numbered_reads (graph_of s.records) (take at c.args.filters.now) vertex) (filter_reads one.filter.now)
          (numbered_reads (graph_of s.records) (take (at + 1) c.args.filters.now) vertex) s (g.R.Reads.state c.loop-filter.space)
          (g.R.Reads.state c.passes.new.space) (omega (arith, more, same_take)) (c.loop-filter.invariant.reads tells store numbered)
          c.in_ok-passes.ensures.at_most;
      read = is_read-on g.R.Reads g.met.R.Reads.further_onward c.args.space.now c.loop-filter.space c.passes.new.space c.loop-filter.invariant.read
          c.in_ok-passes.ensures.read;
    }

pub returns-then-not-branch-clause-reads : goal.returns-then-not-branch-clause-reads
returns-then-not-branch-clause-reads g c = λ tells store numbered.
    let s = g.R.Reads.state c.args.space.now in
    let at = c.loop-filter.filter-index in
    let one = c.filter-item.result in
    let vertex = items.Vertex c.args.id in
    let reads = λ (list : List NumberedFilter). numbered_reads (graph_of s.records) list vertex in
    let more = numbered_one (graph_of s.records) vertex c.args.filters.now at one c.loop-filter-test.true c.filter-item.is
    (c.loop-filter.invariant.passed tells store numbered) in
    let part = numbered_part (graph_of s.records) vertex c.args.filters.now (suc at) in
    reads_then (reads (take at c.args.filters.now)) (filter_reads one.filter.now) (reads c.args.filters.now) s (g.R.Reads.state c.loop-filter.space)
    (g.R.Reads.state c.passes.new.space) (omega (arith, more, part)) (c.loop-filter.invariant.reads tells store numbered) c.in_ok-passes.ensures.at_most

pub returns-in_err-passes-clause-reads : goal.returns-in_err-passes-clause-reads
returns-in_err-passes-clause-reads g c = λ tells store numbered.
    let s = g.R.Reads.state c.args.space.now in
    let at = c.loop-filter.filter-index in
    let one = c.filter-item.result in
    let vertex = items.Vertex c.args.id in
    let reads = λ (list : List NumberedFilter). numbered_reads (graph_of s.records) list vertex in
    let more = numbered_one (graph_of s.records) vertex c.args.filters.now at one c.loop-filter-test.true c.filter-item.is
    (c.loop-filter.invariant.passed tells store numbered) in
    let part = numbered_part (graph_of s.records) vertex c.args.filters.now (suc at) in
    reads_then (reads (take at c.args.filters.now)) (filter_reads one.filter.now) (reads c.args.filters.now) s (g.R.Reads.state c.loop-filter.space)
    (g.R.Reads.state c.passes.new.space) (omega (arith, more, part)) (c.loop-filter.invariant.reads tells store numbered) c.in_err-passes.ensures.at_most

pub returns-clause-reads : goal.returns-clause-reads
returns-clause-reads g c = λ tells store numbered.
    let s = g.R.Reads.state c.args.space.now in
    let graph = graph_of s.records in
    let at = c.loop-filter.filter-index in
    let vertex = items.Vertex c.args.id in
    reads_more (numbered_reads graph (take at c.args.filters.now) vertex) (numbered_reads graph c.args.filters.now vertex) s
    (g.R.Reads.state c.loop-filter.space) (numbered_part graph vertex c.args.filters.now at) (c.loop-filter.invariant.reads tells store numbered)

pub loop-filter-init : goal.loop-filter-init
loop-filter-init g c = record {
  passed = λ tells store numbered. refl;
  reads = λ tells store numbered. reads_none 0 (g.R.Reads.state c.args.space.now);
  read = is_read-none g.R.Reads g.met.R.Reads.stays_onward c.args.space.now;
}

pub returns-in_err-passes-clause-read : goal.returns-in_err-passes-clause-read
returns-in_err-passes-clause-read g c = is_read-on g.R.Reads g.met.R.Reads.further_onward _ _ _ c.loop-filter.invariant.read c.in_err-passes.ensures.read

pub returns-then-not-branch-clause-read : goal.returns-then-not-branch-clause-read
returns-then-not-branch-clause-read g c = is_read-on g.R.Reads g.met.R.Reads.further_onward _ _ _ c.loop-filter.invariant.read c.in_ok-passes.ensures.read

pub returns-then-not-branch-clause-cause : goal.returns-then-not-branch-clause-cause
returns-then-not-branch-clause-cause g c = ok_cause _ _ _ _ (later_on c.loop-filter.invariant.read.later c.in_ok-passes.ensures.cause.later)

pub returns-in_err-passes-clause-cause : goal.returns-in_err-passes-clause-cause
returns-in_err-passes-clause-cause g c =
    cause_passed _ _ _ c.from_residual.result c.in_err-passes.field-0.0 c.loop-filter.invariant.read.later c.in_err-passes.ensures.cause
    c.from_residual.ensures.1
