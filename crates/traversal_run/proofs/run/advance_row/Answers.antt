use Rattle.std.proofs.Common.{◌≡◌, List, [], true, cond, drop, take, get_or, refl, ap, ◌∙◌, subst, arith}
use Rattle.std.proofs.lemmas.Result.{err_from_is_err_and}
use Rattle.plain_graph.specs.declared.item.Item.{Item}
use Rattle.store_rules.specs.Graph.{graph_of}
use Rattle.traversal_run.specs.Held.{IsNear, is_plain}
use Rattle.traversal_run.specs.Row.{PassesAt, Stream, through}
use Rattle.traversal_run.proofs.HeldRows.{near-advanced, plain_at}
use Rattle.traversal_run.proofs.HeldSteps.{plain_uncounted}
use Rattle.traversal_run.proofs.Limits.{allowed-row}
use Rattle.traversal_run.proofs.Rows.{advanced, passes_through}
use Rattle.traversal_run.proofs.Scans.{limit_advanced}
use Rattle.traversal_run.proofs.Stops.{may_stop}
use Rattle.rec_bytes.proofs.Causes.{never_ok}
use Rattle.traversal_run.proofs.Causes.{stop_cause_passed, stop_has}
use Rattle.traversal_run.specs.Owing.{Spends, steps_owe}
use Rattle.traversal_run.proofs.OwedRows.{owe-advanced, owe-at, passed_on}
use Rattle.traversal_run.proofs.run.advance_row.Goals as goal
use Rattle.traversal_run.proofs.Spending.{spends_stop}

pub returns-in_err-outs-clause-stops : goal.returns-in_err-outs-clause-stops
returns-in_err-outs-clause-stops g c = λ tells store.
    let graph = graph_of (g.R.Reads.state c.args.space.now).records in
    let rows = c.args.rows.now in
    let any = c.index-rows-at.result in
    let row = get_or rows c.args.at any in
    let p = err_from_is_err_and c.from_residual.result c.from_residual.ensures.1 in
    rw (p.1, p.2) (may_stop ⊥ (PassesAt row) ⊥ ((coming : Stream) → (through graph rows coming).past ≡ true) c.in_err-outs.field-0.0 (λ none. none)
    (λ passes coming. passes_through graph rows c.args.at row any coming c.requires.within refl passes) (c.in_err-outs.ensures.stops tells store))

pub returns-clause-same : goal.returns-clause-same
returns-clause-same g c = λ tells store coming.
    let graph = graph_of (g.R.Reads.state c.args.space.now).records in
    let any = c.index-rows-at.result in
    advanced graph c.args.rows.now c.put.new.rows c.put.new.ready c.args.at (get_or c.args.rows.now c.args.at any) c.advance.new.self any c.in_ok-outs.outs
    coming c.requires.within refl (c.in_ok-outs.ensures.advances tells store (through graph (take c.args.at c.args.rows.now) coming).items)
    c.put.ensures.earlier (λ more. c.put.ensures.later graph more)

pub returns-clause-allowed : goal.returns-clause-allowed
returns-clause-allowed g c = λ over.
    let any = c.index-rows-at.result in
    allowed-row c.args.rows.now c.put.new.rows c.args.at (get_or c.args.rows.now c.args.at any) c.advance.new.self any c.in_ok-outs.outs c.put.new.ready
    c.requires.within refl c.in_ok-outs.ensures.limits c.in_ok-outs.ensures.counts c.put.ensures.stages c.put.ensures.passed c.put.ensures.given over

pub returns-clause-near : goal.returns-clause-near
returns-clause-near g c = λ tells store d most degrees near.
    let rows = c.args.rows.now in
    let any = c.index-rows-at.result in
    let out = c.in_ok-outs.ensures in
    let row = get_or rows c.args.at any in
    let plain : is_plain row.stage ≡ true = plain_at rows c.args.at any c.requires.within near.plain in
    near-advanced d most rows c.put.new.rows c.args.at row c.advance.new.self any c.in_ok-outs.outs c.put.new.ready c.requires.within refl out.hops out.plain
    (out.rest ∙ ap (λ b. cond b [] (drop 1 row.waiting)) (plain_uncounted row.stage plain)) out.idle
    (out.few tells store d degrees plain) c.requires.idle c.put.ensures.passed c.put.ensures.given c.put.ensures.rows
    (subst (λ (ready : List Item). IsNear d most rows ready) c.requires.none near)

pub returns-clause-limit : goal.returns-clause-limit
returns-clause-limit g c = λ most item only.
    let rows = c.args.rows.now in
    let any = c.index-rows-at.result in
    limit_advanced _ rows c.put.new.rows c.args.at (get_or rows c.args.at any) c.advance.new.self any c.in_ok-outs.outs c.put.new.ready most item
    c.requires.within refl only (c.in_ok-outs.ensures.limit most item) c.put.ensures.rows c.put.ensures.given

pub returns-in_err-outs-clause-same : goal.returns-in_err-outs-clause-same
returns-in_err-outs-clause-same g c _ _ = never_ok c.from_residual.result _ _ c.from_residual.ensures.1

pub returns-in_err-outs-clause-near : goal.returns-in_err-outs-clause-near
returns-in_err-outs-clause-near g c _ _ _ _ _ _ = never_ok c.from_residual.result _ _ c.from_residual.ensures.1

pub returns-in_err-outs-clause-limit : goal.returns-in_err-outs-clause-limit
returns-in_err-outs-clause-limit g c _ _ _ = never_ok c.from_residual.result _ _ c.from_residual.ensures.1

pub returns-in_err-outs-clause-allowed : goal.returns-in_err-outs-clause-allowed
returns-in_err-outs-clause-allowed g c = never_ok c.from_residual.result _ _ c.from_residual.ensures.1

pub returns-in_err-outs-clause-damaged : goal.returns-in_err-outs-clause-damaged
returns-in_err-outs-clause-damaged g c tells =
    stop_has _ c.from_residual.result _ c.from_residual.ensures.1 (c.in_err-outs.ensures.damaged tells)

pub returns-in_err-outs-clause-read : goal.returns-in_err-outs-clause-read
returns-in_err-outs-clause-read g c = c.in_err-outs.ensures.read

pub returns-in_err-outs-clause-cause : goal.returns-in_err-outs-clause-cause
returns-in_err-outs-clause-cause g c =
    stop_cause_passed _ _ _ c.from_residual.result c.in_err-outs.field-0.0 (omega arith) c.in_err-outs.ensures.cause c.from_residual.ensures.1

pub returns-clause-owes : goal.returns-clause-owes
returns-clause-owes g c = λ tells store coming.
    let records = (g.R.Reads.state c.args.space.now).records in
    let rows = c.args.rows.now in
    let any = c.index-rows-at.result in
    let comes = passed_on records (take c.args.at rows) coming in
    let step = c.in_ok-outs.ensures.owes tells store comes in
    let all = owe-advanced records rows c.put.new.rows c.args.at (get_or rows c.args.at any) c.advance.new.self any c.in_ok-outs.outs coming
    c.requires.within refl (c.in_ok-outs.ensures.advances tells store comes).0 c.put.ensures.earlier (λ more. c.put.ensures.owes records more) in
    omega (arith, step, all)

pub returns-in_err-outs-clause-owes : goal.returns-in_err-outs-clause-owes
returns-in_err-outs-clause-owes g c = λ tells store coming.
    let s = g.R.Reads.state c.args.space.now in
    let t = g.R.Reads.state c.advance.new.space in
    let rows = c.args.rows.now in
    let any = c.index-rows-at.result in
    let step = c.in_err-outs.ensures.owes tells store (passed_on s.records (take c.args.at rows) coming) in
    let within = owe-at s.records rows c.args.at (get_or rows c.args.at any) any coming c.requires.within refl in
    let spends : Spends s t (steps_owe s.records rows coming) 0 = omega (arith, step, within) in
    spends_stop c.from_residual.result _ s t (steps_owe s.records rows coming) _ c.from_residual.ensures.1 spends
