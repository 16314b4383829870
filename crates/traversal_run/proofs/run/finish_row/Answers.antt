use Rattle.std.proofs.Common.{[], get_or, refl}
use Rattle.traversal_run.specs.Row.{stream}
use Rattle.traversal_run.specs.declared.row.Row.{Row}
use Rattle.traversal_run.proofs.Limits.{allowed-row}
use Rattle.traversal_run.proofs.Rows.{advanced, finished}
use Rattle.rec_bytes.proofs.Causes.{never_ok}
use Rattle.store_rules.specs.Graph.{graph_of}
use Rattle.traversal_run.proofs.OwedRows.{owe-finished}
use Rattle.traversal_run.proofs.run.finish_row.Goals as goal

pub returns-clause-same : goal.returns-clause-same
returns-clause-same c = λ graph.
    let rows = c.args.rows.now in
    let any = c.index-rows-at.result in
    let row = get_or rows c.args.at any in
    let new : Row = record { stage = c.finish.new.self; waiting = row.waiting } in
    advanced graph rows c.put.new.rows c.put.new.ready c.args.at row new any c.in_ok-outs.outs (stream []) c.requires.within refl
    (finished graph rows c.args.at row any c.in_ok-outs.outs c.finish.new.self c.requires.within refl c.requires.idle c.requires.quiet
    (c.in_ok-outs.ensures.finishes graph)) c.put.ensures.earlier (λ more. c.put.ensures.later graph more)

pub returns-clause-allowed : goal.returns-clause-allowed
returns-clause-allowed c = λ over.
    let rows = c.args.rows.now in
    let any = c.index-rows-at.result in
    let row = get_or rows c.args.at any in
    let new : Row = record { stage = c.finish.new.self; waiting = row.waiting } in
    allowed-row rows c.put.new.rows c.args.at row new any c.in_ok-outs.outs c.put.new.ready c.requires.within refl c.in_ok-outs.ensures.limits
    c.in_ok-outs.ensures.counts c.put.ensures.stages c.put.ensures.passed c.put.ensures.given over

pub returns-in_err-outs-clause-same : goal.returns-in_err-outs-clause-same
returns-in_err-outs-clause-same c = never_ok c.from_residual.result _ _ c.from_residual.ensures.1

pub returns-in_err-outs-clause-allowed : goal.returns-in_err-outs-clause-allowed
returns-in_err-outs-clause-allowed c = never_ok c.from_residual.result _ _ c.from_residual.ensures.1

pub returns-clause-owes : goal.returns-clause-owes
returns-clause-owes c = λ records.
    let rows = c.args.rows.now in
    let any = c.index-rows-at.result in
    owe-finished records rows c.put.new.rows c.args.at (get_or rows c.args.at any) any c.in_ok-outs.outs c.finish.new.self c.requires.within refl
    c.requires.idle c.requires.quiet (c.in_ok-outs.ensures.finishes (graph_of records)).0 c.put.ensures.earlier (λ more. c.put.ensures.owes records more)

pub returns-in_err-outs-clause-owes : goal.returns-in_err-outs-clause-owes
returns-in_err-outs-clause-owes c = never_ok c.from_residual.result _ _ c.from_residual.ensures.1
