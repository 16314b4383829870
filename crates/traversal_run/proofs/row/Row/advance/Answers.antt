use Rattle.std.proofs.Common.{◌++◌, List, ap, ◌∙◌, arith}
use Rattle.plain_graph.specs.declared.item.Item.{Item}
use Rattle.store_rules.specs.Graph.{graph_of}
use Rattle.traversal_run.specs.Stage.{after_stage, counts_past}
use Rattle.traversal_run.specs.declared.stage.Stage.{Stage}
use Rattle.traversal_run.proofs.Counting.{counts_row, not_count, passes_all}
use Rattle.traversal_run.proofs.HeldSteps.{few_at, takes_batch}
use Rattle.traversal_run.proofs.Scans.{limit_taken}
use Rattle.rec_bytes.proofs.Causes.{never_ok, ok_cause}
use Rattle.traversal_run.proofs.Causes.{fault_stop_cause, fault_stop_has, fault_stops}
use Rattle.traversal_run.specs.Owing.{Spends, row_owes}
use Rattle.traversal_run.specs.declared.row.Row.{Row}
use Rattle.traversal_run.proofs.OwedRows.{count-owes, owe-taken}
use Rattle.traversal_run.proofs.OnlyReads.{is_read-none}
use Rattle.traversal_run.proofs.row.Row.advance.Goals as goal
use Rattle.traversal_run.proofs.Spending.{reads_count, spends_stop}

pub take-requires-clause-counts : goal.take-requires-clause-counts
take-requires-clause-counts g c = not_count c.args.self.now.stage c.in_default.not-Count

pub returns-in_ok-outs-in-Some-clause-few : goal.returns-in_ok-outs-in-Some-clause-few
returns-in_ok-outs-in-Some-clause-few g c = λ tells store d degrees plain.
    let s = g.R.Reads.state c.args.space.now in
    let out = c.in_ok-outs-in-Some in
    takes_batch (graph_of s.records) d (few_at s.records s.shape store.store d degrees) c.args.self.now.stage c.take.new.self c.in-Some.item out.outs plain
    c.take.ensures.plain (out.ensures.takes tells store)

pub returns-in_ok-outs-in-Some-clause-limit : goal.returns-in_ok-outs-in-Some-clause-limit
returns-in_ok-outs-in-Some-clause-limit g c = λ most item is.
    limit_taken _ c.args.self.now c.take.new.self c.take_first.new.self c.in_ok-outs-in-Some.outs c.in-Some.item item most is c.in-Some.ensures.some
    (c.in_ok-outs-in-Some.ensures.limit most)

pub returns-then-count_all-clause-advances : goal.returns-then-count_all-clause-advances
returns-then-count_all-clause-advances g c = λ tells store coming.
    counts_row (graph_of (g.R.Reads.state c.args.space.now).records) c.args.self.now.stage c.in-Count.given c.in-Count.so_far c.count_all.new.so_far
    c.args.self.now.waiting c.count_all.new.waiting coming c.new.result
    c.in-Count.is c.new.ensures (c.count_all.ensures.counted c.if-count_all.true) c.count_all.ensures.none

pub returns-else-count_all-clause-stops : goal.returns-else-count_all-clause-stops
returns-else-count_all-clause-stops g c = λ tells store coming.
    let past = c.count_all.ensures.past c.if-count_all.false in
    ap (λ (stage : Stage). counts_past stage (c.args.self.now.waiting ++ coming)) c.in-Count.is
    ∙ passes_all c.in-Count.so_far c.in-Count.given c.args.self.now.waiting past.0 past.1 coming

pub returns-in_ok-outs-in-Some-clause-advances : goal.returns-in_ok-outs-in-Some-clause-advances
returns-in_ok-outs-in-Some-clause-advances g c = λ tells store coming.
    let graph = graph_of (g.R.Reads.state c.args.space.now).records in
    let stage = c.args.self.now.stage in
    let takes = c.in_ok-outs-in-Some.ensures.takes tells store (c.take_first.new.self ++ coming) in (
      ap (λ (waiting : List Item). after_stage graph stage (waiting ++ coming)) c.in-Some.ensures.some ∙ takes.0,
      ap (λ (waiting : List Item). counts_past stage (waiting ++ coming)) c.in-Some.ensures.some ∙ takes.1,
    )

pub returns-in_err-outs-in-Some-clause-advances : goal.returns-in_err-outs-in-Some-clause-advances
returns-in_err-outs-in-Some-clause-advances g c _ _ = never_ok c.from_residual.result _ _ c.from_residual.ensures.1

pub returns-in_err-outs-in-Some-clause-limits : goal.returns-in_err-outs-in-Some-clause-limits
returns-in_err-outs-in-Some-clause-limits g c = never_ok c.from_residual.result _ _ c.from_residual.ensures.1

pub returns-in_err-outs-in-Some-clause-idle : goal.returns-in_err-outs-in-Some-clause-idle
returns-in_err-outs-in-Some-clause-idle g c _ = never_ok c.from_residual.result _ _ c.from_residual.ensures.1

pub returns-in_err-outs-in-Some-clause-few : goal.returns-in_err-outs-in-Some-clause-few
returns-in_err-outs-in-Some-clause-few g c _ _ _ _ _ = never_ok c.from_residual.result _ _ c.from_residual.ensures.1

pub returns-in_err-outs-in-Some-clause-limit : goal.returns-in_err-outs-in-Some-clause-limit
returns-in_err-outs-in-Some-clause-limit g c _ _ _ = never_ok c.from_residual.result _ _ c.from_residual.ensures.1

pub returns-in_err-outs-in-Some-clause-damaged : goal.returns-in_err-outs-in-Some-clause-damaged
returns-in_err-outs-in-Some-clause-damaged g c tells =
    fault_stops _ _ c.from_residual.result c.in_err-outs-in-Some.field-0.0 c.from_residual.ensures.1 (c.in_err-outs-in-Some.ensures.damaged tells)

pub returns-in_err-outs-in-Some-clause-stops : goal.returns-in_err-outs-in-Some-clause-stops
returns-in_err-outs-in-Some-clause-stops g c _ _ =
    fault_stop_has _ tt tt (λ _. tt) c.from_residual.result c.in_err-outs-in-Some.field-0.0 c.from_residual.ensures.1

pub returns-in_err-outs-in-Some-clause-read : goal.returns-in_err-outs-in-Some-clause-read
returns-in_err-outs-in-Some-clause-read g c = c.in_err-outs-in-Some.ensures.read

pub returns-in_err-outs-in-Some-clause-cause : goal.returns-in_err-outs-in-Some-clause-cause
returns-in_err-outs-in-Some-clause-cause g c =
    fault_stop_cause _ _ _ c.from_residual.result c.in_err-outs-in-Some.field-0.0 (omega arith) c.in_err-outs-in-Some.ensures.cause c.from_residual.ensures.1

pub returns-then-count_all-clause-owes : goal.returns-then-count_all-clause-owes
returns-then-count_all-clause-owes g c = λ tells store coming.
    let records = (g.R.Reads.state c.args.space.now).records in
    let none = count-owes records c.count_all.new.so_far c.in-Count.given (c.count_all.new.waiting ++ coming) in
    omega (arith, none)

pub returns-in_ok-outs-in-Some-clause-owes : goal.returns-in_ok-outs-in-Some-clause-owes
returns-in_ok-outs-in-Some-clause-owes g c = λ tells store coming.
    let s = g.R.Reads.state c.args.space.now in
    let t = g.R.Reads.state c.take.new.space in
    let row = c.args.self.now in
    let taken = owe-taken s.records row.stage c.take.new.self row.waiting c.take_first.new.self coming c.in-Some.item c.in-Some.ensures.some
    (c.take.ensures.asks s.records) in
    let read = reads_count _ s t (c.take.ensures.reads tells store) in
    omega (arith, taken, read)

pub returns-in_err-outs-in-Some-clause-owes : goal.returns-in_err-outs-in-Some-clause-owes
returns-in_err-outs-in-Some-clause-owes g c = λ tells store coming.
    let s = g.R.Reads.state c.args.space.now in
    let t = g.R.Reads.state c.take.new.space in
    let row = c.args.self.now in
    let new : Row = record { stage = c.take.new.self; waiting = c.take_first.new.self } in
    let taken = owe-taken s.records row.stage c.take.new.self row.waiting c.take_first.new.self coming c.in-Some.item c.in-Some.ensures.some
    (c.take.ensures.asks s.records) in
    let read = reads_count _ s t (c.take.ensures.reads tells store) in
    let spends : Spends s t (row_owes s.records row coming) 0 = omega (arith, taken, read) in
    spends_stop c.from_residual.result _ s t (row_owes s.records row coming) (row_owes s.records new coming) c.from_residual.ensures.1 spends

pub returns-then-count_all-clause-read : goal.returns-then-count_all-clause-read
returns-then-count_all-clause-read g c = is_read-none g.R.Reads g.met.R.Reads.stays_onward c.args.space.now

pub returns-else-count_all-clause-read : goal.returns-else-count_all-clause-read
returns-else-count_all-clause-read g c = is_read-none g.R.Reads g.met.R.Reads.stays_onward c.args.space.now

pub returns-in_ok-outs-in-Some-clause-cause : goal.returns-in_ok-outs-in-Some-clause-cause
returns-in_ok-outs-in-Some-clause-cause g c = ok_cause _ _ _ _ c.in_ok-outs-in-Some.ensures.cause.later
