use Rattle.std.proofs.Common.{arith}
use Rattle.rec_bytes.proofs.Causes.{never_ok, ok_cause}
use Rattle.store_rules.specs.Graph.{graph_of}
use Rattle.traversal_run.specs.Source.{left_of}
use Rattle.traversal_run.proofs.Causes.{fault_stop_cause, fault_stop_has, fault_stops}
use Rattle.traversal_run.proofs.FilteredCounts.{fed_count, fed_count_past, one_counts, one_still_counts}
use Rattle.traversal_run.specs.Owing.{Spends, rows_owe}
use Rattle.traversal_run.proofs.OwedRuns.{owe-counted, owe-front, owes-none}
use Rattle.traversal_run.proofs.Rows.{idle_take}
use Rattle.traversal_run.proofs.Exits.{past_blames}
use Rattle.traversal_run.proofs.run.feed_count.Goals as goal
use Rattle.traversal_run.proofs.Spending.{spends_stop}

pub returns-then-fits-given-clause-same : goal.returns-then-fits-given-clause-same
returns-then-fits-given-clause-same g c = λ tells store.
    let graph = graph_of (g.R.Reads.state c.args.space.now).records in
    let count = c.args.count in
    fed_count graph c.args.rows.now count.at count.so_far c.count_passing.new.so_far count.given c.in_ok-fits.fits c.requires.within c.requires.idle
    c.requires.filters c.index-rows-at.result c.index-rows-at.result (left_of graph c.args.source.now) (left_of graph c.count_passing.new.source)
    (c.requires.counts c.index-rows-at.result) (c.in_ok-fits.ensures.counts tells store) c.if-fits-given.true (c.in_ok-fits.ensures.over graph)

pub returns-then-fits-given-clause-counts : goal.returns-then-fits-given-clause-counts
returns-then-fits-given-clause-counts g c =
    let count = c.args.count in
    let any = c.index-rows-at.result in (
      one_counts c.args.rows.now count.at any count.so_far count.given c.requires.within (c.requires.counts any),
      one_still_counts c.args.rows.now count.at any
          c.count_passing.new.so_far count.given c.requires.within,
    )

pub returns-else-fits-given-clause-stops : goal.returns-else-fits-given-clause-stops
returns-else-fits-given-clause-stops g c = λ tells store.
    let graph = graph_of (g.R.Reads.state c.args.space.now).records in
    let count = c.args.count in
    fed_count_past graph c.args.rows.now count.at count.so_far c.count_passing.new.so_far count.given c.in_ok-fits.fits c.requires.within c.requires.idle
    c.requires.filters c.index-rows-at.result (left_of graph c.args.source.now)
    (c.requires.counts c.index-rows-at.result) (c.in_ok-fits.ensures.counts tells store) c.if-fits-given.false

pub returns-in_err-fits-clause-same : goal.returns-in_err-fits-clause-same
returns-in_err-fits-clause-same g c _ _ = never_ok c.from_residual.result _ _ c.from_residual.ensures.1

pub returns-in_err-fits-clause-counts : goal.returns-in_err-fits-clause-counts
returns-in_err-fits-clause-counts g c = never_ok c.from_residual.result _ _ c.from_residual.ensures.1

pub returns-in_err-fits-clause-damaged : goal.returns-in_err-fits-clause-damaged
returns-in_err-fits-clause-damaged g c tells = fault_stops _ _ c.from_residual.result c.in_err-fits.field-0.0 c.from_residual.ensures.1
    (c.in_err-fits.ensures.damaged tells)

pub returns-in_err-fits-clause-stops : goal.returns-in_err-fits-clause-stops
returns-in_err-fits-clause-stops g c _ _ = fault_stop_has _ tt tt (λ _. tt) c.from_residual.result c.in_err-fits.field-0.0 c.from_residual.ensures.1

pub returns-in_err-fits-clause-read : goal.returns-in_err-fits-clause-read
returns-in_err-fits-clause-read g c = c.in_err-fits.ensures.read

pub returns-in_err-fits-clause-cause : goal.returns-in_err-fits-clause-cause
returns-in_err-fits-clause-cause g c = fault_stop_cause _ _ _ c.from_residual.result c.in_err-fits.field-0.0 (omega arith) c.in_err-fits.ensures.cause
    c.from_residual.ensures.1

pub returns-then-fits-given-clause-owes : goal.returns-then-fits-given-clause-owes
returns-then-fits-given-clause-owes g c = λ tells store.
    let records = (g.R.Reads.state c.args.space.now).records in
    let graph = graph_of records in
    let rows = c.args.rows.now in
    let count = c.args.count in
    let any = c.index-rows-at.result in
    let step = c.count_passing.ensures.owes tells store c.requires.filters (idle_take rows count.at c.requires.idle) in
    let none = owes-none records c.count_passing.new.source c.in_ok-fits.ensures.over in
    let all = owe-counted records rows count.at any any (left_of graph c.args.source.now) (left_of graph c.count_passing.new.source) count.so_far
    c.count_passing.new.so_far count.given c.in_ok-fits.fits c.requires.within c.requires.idle c.requires.filters (c.requires.counts any)
    (c.in_ok-fits.ensures.counts tells store) c.if-fits-given.true (c.in_ok-fits.ensures.over graph) in
    omega (arith, step, none, all)

pub returns-else-fits-given-clause-owes : goal.returns-else-fits-given-clause-owes
returns-else-fits-given-clause-owes g c = λ tells store.
    let records = (g.R.Reads.state c.args.space.now).records in
    let rows = c.args.rows.now in
    let count = c.args.count in
    let step = c.count_passing.ensures.owes tells store c.requires.filters (idle_take rows count.at c.requires.idle) in
    let within = owe-front records rows count.at (left_of (graph_of records) c.args.source.now) in
    omega (arith, step, within)

pub returns-in_err-fits-clause-owes : goal.returns-in_err-fits-clause-owes
returns-in_err-fits-clause-owes g c = λ tells store.
    let s = g.R.Reads.state c.args.space.now in
    let t = g.R.Reads.state c.count_passing.new.space in
    let rows = c.args.rows.now in
    let count = c.args.count in
    let step = c.count_passing.ensures.owes tells store c.requires.filters (idle_take rows count.at c.requires.idle) in
    let within = owe-front s.records rows count.at (left_of (graph_of s.records) c.args.source.now) in
    let spends : Spends s t (rows_owe s.records c.args.source.now rows) 0 = omega (arith, step, within) in
    spends_stop c.from_residual.result _ s t (rows_owe s.records c.args.source.now rows) (rows_owe s.records c.count_passing.new.source rows)
    c.from_residual.ensures.1 spends

pub returns-then-fits-given-clause-cause : goal.returns-then-fits-given-clause-cause
returns-then-fits-given-clause-cause g c = ok_cause _ _ _ _ c.in_ok-fits.ensures.cause.later

pub returns-else-fits-given-clause-cause : goal.returns-else-fits-given-clause-cause
returns-else-fits-given-clause-cause g c = past_blames _ _ c.in_ok-fits.ensures.cause.later
