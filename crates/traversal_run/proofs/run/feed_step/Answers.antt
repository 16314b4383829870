use Rattle.std.proofs.Common.{◌≡◌, List, true, get_or, refl, ◌∙◌, subst, arith, ap}
use Rattle.std.proofs.lemmas.Result.{err_from_is_err_and}
use Rattle.std.proofs.lemmas.List.{length-map}
use Rattle.plain_graph.specs.declared.item.Item.{Item}
use Rattle.store_rules.specs.Graph.{graph_of}
use Rattle.traversal_run.specs.Held.{IsNear, is_hop}
use Rattle.traversal_run.specs.Row.{stages_of, stream, through}
use Rattle.traversal_run.specs.Source.{left_of}
use Rattle.traversal_run.specs.Stage.{counts_past}
use Rattle.traversal_run.specs.declared.row.Row.{Row}
use Rattle.traversal_run.proofs.Fed.{fed, fed_past}
use Rattle.traversal_run.proofs.HeldRows.{near-fed, plain_at}
use Rattle.traversal_run.proofs.Limits.{allowed-row, allowed_any}
use Rattle.traversal_run.proofs.Stops.{may_stop}
use Rattle.rec_bytes.proofs.Causes.{never_ok, ok_cause}
use Rattle.traversal_run.proofs.Causes.{stop_cause_passed, stop_has}
use Rattle.traversal_run.proofs.HopRuns.{alone_fed}
use Rattle.traversal_run.specs.HopRun.{FeedsHop}
use Rattle.traversal_run.specs.Owing.{Spends, rows_owe}
use Rattle.traversal_run.proofs.OwedRuns.{owe-fed, owe-head}
use Rattle.traversal_run.proofs.Rows.{idle_behind}
use Rattle.traversal_run.proofs.run.feed_step.Goals as goal
use Rattle.traversal_run.proofs.Spending.{spends_stop}

pub returns-clause-same : goal.returns-clause-same
returns-clause-same g c = λ tells store.
    let graph = graph_of (g.R.Reads.state c.args.space.now).records in
    let rows = c.args.rows.now in
    let any = c.index-rows-0.result in
    fed graph c.args.source.now c.feed.new.source rows c.put.new.rows c.put.new.ready (get_or rows 0 any) any c.in_ok-outs.outs c.feed.new.stage c.requires.some
    refl c.requires.idle
    (c.in_ok-outs.ensures.feeds tells store) c.put.ensures.earlier (λ more. c.put.ensures.later graph more)

pub returns-clause-allowed : goal.returns-clause-allowed
returns-clause-allowed g c = λ before after.
    let rows = c.args.rows.now in
    let any = c.index-rows-0.result in
    let row = get_or rows 0 any in
    let new : Row = record row { stage = c.feed.new.stage } in
    let long = length-map rows (λ (r : Row). r.stage) in
    let some = c.requires.some in
    allowed-row rows c.put.new.rows 0 row new any c.in_ok-outs.outs c.put.new.ready c.requires.some refl c.in_ok-outs.ensures.limits c.feed.ensures.counts
    c.put.ensures.stages c.put.ensures.passed c.put.ensures.given after
    ∙ allowed_any (stages_of rows) 0 after before (omega arith)

pub returns-clause-near : goal.returns-clause-near
returns-clause-near g c = λ tells store d most degrees near.
    let rows = c.args.rows.now in
    let any = c.index-rows-0.result in
    let row = get_or rows 0 any in
    let new : Row = record row { stage = c.feed.new.stage } in
    near-fed d most rows c.put.new.rows row new any c.in_ok-outs.outs c.put.new.ready c.requires.some refl refl c.feed.ensures.hops c.feed.ensures.plain
    (c.in_ok-outs.ensures.few tells store d degrees (plain_at rows 0 any c.requires.some near.plain)) c.requires.idle c.put.ensures.passed c.put.ensures.given
    c.put.ensures.rows
    (subst (λ (ready : List Item). IsNear d most rows ready) c.requires.none near)

pub returns-in_err-outs-clause-stops : goal.returns-in_err-outs-clause-stops
returns-in_err-outs-clause-stops g c = λ tells store.
    let graph = graph_of (g.R.Reads.state c.args.space.now).records in
    let rows = c.args.rows.now in
    let any = c.index-rows-0.result in
    let row = get_or rows 0 any in
    let left = left_of graph c.args.source.now in
    let p = err_from_is_err_and c.from_residual.result c.from_residual.ensures.1 in
    rw (p.1, p.2) (may_stop ⊥ (counts_past row.stage left ≡ true) ⊥ ((through graph rows (stream left)).past ≡ true) c.in_err-outs.field-0.0 (λ none. none)
    (λ past. fed_past graph c.args.source.now rows row any c.requires.some refl c.requires.idle past) (c.in_err-outs.ensures.stops tells store))

pub returns-in_err-outs-clause-same : goal.returns-in_err-outs-clause-same
returns-in_err-outs-clause-same g c _ _ = never_ok c.from_residual.result _ _ c.from_residual.ensures.1

pub returns-in_err-outs-clause-near : goal.returns-in_err-outs-clause-near
returns-in_err-outs-clause-near g c _ _ _ _ _ _ = never_ok c.from_residual.result _ _ c.from_residual.ensures.1

pub returns-in_err-outs-clause-allowed : goal.returns-in_err-outs-clause-allowed
returns-in_err-outs-clause-allowed g c = never_ok c.from_residual.result _ _ c.from_residual.ensures.1

pub returns-in_err-outs-clause-damaged : goal.returns-in_err-outs-clause-damaged
returns-in_err-outs-clause-damaged g c tells =
    stop_has _ c.from_residual.result _ c.from_residual.ensures.1 (c.in_err-outs.ensures.damaged tells)

pub returns-in_err-outs-clause-read : goal.returns-in_err-outs-clause-read
returns-in_err-outs-clause-read g c = c.in_err-outs.ensures.read

pub returns-in_err-outs-clause-cause : goal.returns-in_err-outs-clause-cause
returns-in_err-outs-clause-cause g c =
    stop_cause_passed _ _ _ c.from_residual.result c.in_err-outs.field-0.0 (omega arith) c.in_err-outs.ensures.cause c.from_residual.ensures.1

pub returns-clause-hop : goal.returns-clause-hop
returns-clause-hop g c = λ alone vertices.
    let any = c.index-rows-0.result in
    let first : get_or c.args.rows.now 0 any ≡ alone.row = ap (λ (rs : List Row). get_or rs 0 any) alone.is in
    let fed = subst (λ (row : Row). FeedsHop g.R.Reads c.args.names.now.names row.stage c.args.space.now c.feed.new.space c.args.source.now c.feed.new.source)
    first
    (c.feed.ensures.hop vertices (ap (λ (row : Row). is_hop row.stage) first ∙ alone.hop)) in
    (fed, alone_fed c.args.rows.now c.put.new.rows any c.feed.new.stage c.in_ok-outs.outs alone c.feed.ensures.hops c.put.ensures.rows)

pub returns-in_err-outs-clause-hop : goal.returns-in_err-outs-clause-hop
returns-in_err-outs-clause-hop g c = λ alone vertices.
    let any = c.index-rows-0.result in
    let first : get_or c.args.rows.now 0 any ≡ alone.row = ap (λ (rs : List Row). get_or rs 0 any) alone.is in
    let fed = subst (λ (row : Row). FeedsHop g.R.Reads c.args.names.now.names row.stage c.args.space.now c.feed.new.space c.args.source.now c.feed.new.source)
    first
    (c.feed.ensures.hop vertices (ap (λ (row : Row). is_hop row.stage) first ∙ alone.hop)) in
    (fed, never_ok c.from_residual.result _ _ c.from_residual.ensures.1)

pub returns-clause-owes : goal.returns-clause-owes
returns-clause-owes g c = λ tells store.
    let records = (g.R.Reads.state c.args.space.now).records in
    let graph = graph_of records in
    let rows = c.args.rows.now in
    let any = c.index-rows-0.result in
    let step = c.in_ok-outs.ensures.owes tells store in
    let all = owe-fed records rows c.put.new.rows (get_or rows 0 any) any c.in_ok-outs.outs (left_of graph c.args.source.now)
    (left_of graph c.feed.new.source) c.feed.new.stage c.requires.some refl c.requires.idle (c.in_ok-outs.ensures.feeds tells store).0 c.put.ensures.earlier
    (λ more. c.put.ensures.owes records more) in
    omega (arith, step, all)

pub returns-in_err-outs-clause-owes : goal.returns-in_err-outs-clause-owes
returns-in_err-outs-clause-owes g c = λ tells store.
    let s = g.R.Reads.state c.args.space.now in
    let t = g.R.Reads.state c.feed.new.space in
    let rows = c.args.rows.now in
    let any = c.index-rows-0.result in
    let step = c.in_err-outs.ensures.owes tells store in
    let within = owe-head s.records rows (get_or rows 0 any) any (left_of (graph_of s.records) c.args.source.now) c.requires.some refl c.requires.idle in
    let spends : Spends s t (rows_owe s.records c.args.source.now rows) 0 = omega (arith, step, within) in
    spends_stop c.from_residual.result _ s t (rows_owe s.records c.args.source.now rows) _ c.from_residual.ensures.1 spends

pub put-requires-clause-idle : goal.put-requires-clause-idle
put-requires-clause-idle g c = idle_behind c.args.rows.now 0 _ c.requires.idle

pub returns-clause-cause : goal.returns-clause-cause
returns-clause-cause g c = ok_cause _ _ _ _ c.in_ok-outs.ensures.cause.later
