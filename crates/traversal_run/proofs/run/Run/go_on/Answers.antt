use Rattle.std.proofs.Common.{◌≡◌, ◌∷◌, List, Bool, true, false, sym, refl, ap, ◌∙◌, subst, arith}
use Rattle.std.proofs.lemmas.Result.{err_from_is_err_and}
use Rattle.plain_graph.specs.declared.item.Item.{Item}
use Rattle.rec_bytes.specs.Space.{State}
use Rattle.store_rules.specs.Graph.{graph_of}
use Rattle.traversal_run.specs.Held.{HasDegreesUpTo, IsNear}
use Rattle.traversal_run.specs.Row.{Stream}
use Rattle.traversal_run.specs.Run.{IsStopOf, still_allowed, to_come}
use Rattle.traversal_run.specs.Stop.{StopsAtBroken}
use Rattle.traversal_run.specs.declared.run.Run.{Run}
use Rattle.traversal_run.proofs.HeldRuns.{near_begins, within-taken}
use Rattle.traversal_run.proofs.Nothing.{spent-to_come}
use Rattle.traversal_run.proofs.OnlyReads.{is_read-none, is_read-on, named-read}
use Rattle.traversal_run.proofs.Scans.{ScanState, scan_gives, scan_starts, scan_turns}
use Rattle.traversal_run.proofs.Causes.{stop_cause_passed}
use Rattle.rec_bytes.proofs.Causes.{never_ok, ok_cause}
use Rattle.traversal_run.proofs.HopRuns.{hop_first, hop_gives, hop_stops, turn_on, turn_stops}
use Rattle.prop_store.proofs.ReadCounts.{reads_none}
use Rattle.traversal_run.specs.HopRun.{reads_for_hop}
use Rattle.store_rules.specs.Views.{Records}
use Rattle.traversal_run.specs.Owing.{Spends, owed}
use Rattle.traversal_run.proofs.run.Run.go_on.Goals as goal
use Rattle.traversal_run.proofs.Spending.{spends_stop}

pub returns-then-is_spent-clause-stops : goal.returns-then-is_spent-clause-stops
returns-then-is_spent-clause-stops g c = λ tells store.
    let run = c.args.self.now in
    spent-to_come (graph_of (g.R.Reads.state c.args.space.now).records) run.ready run.rows.items run.source.edges run.source.left
    (c.is_spent.ensures.0 c.if-is_spent.true)

clash : (b : Bool) → b ≡ true → b ≡ false → ⊥
clash b on off = cc

pub loop-init : goal.loop-init
loop-init g c =
    let run = c.args.self.now in
    record {
      same = λ tells store. refl;
      allowed = refl;
      near = λ tells store d most degrees within. near_begins d most run within;
      scan = λ at scan. scan_starts run at scan (λ none. clash c.is_spent.result (c.is_spent.ensures.1 none) c.if-is_spent.false)
          (g.R.Reads.state c.args.space.now).reads;
      hop = hop_first g.R.Reads c.args.names.now.names c.args.space.now run;
      owes = λ tells store. omega arith;
      stopped = refl;
      read = record { same = refl; onward = g.met.R.Reads.stays_onward c.args.space.now; later = omega arith };
    }

pub loop-preserved : goal.loop-preserved
loop-preserved g c =
    let space = g.R.Reads in
    let first = c.args.space.now in
    let now = c.loop.space in
    let inv = c.loop.invariant in
    let run : Run = c.loop.self in
    let old : Run = record run { ready = c.take_first.new.self } in
    let none = c.in_default.ensures.none in
    let same_ready : run.ready ≡ old.ready = none.0 ∙ sym none.1 in
    let turn = c.in_ok-turn.ensures in
    record {
      same = λ tells store.
          let again = turn.same tells (named-read space first now c.args.names.now.names inv.read store) in
          subst (λ (t : State). to_come (graph_of t.records) c.turn.new.self ≡ to_come (graph_of t.records) old) inv.read.same again
          ∙ ap (λ (ready : List Item). to_come (graph_of (space.state first).records) (record run { ready = ready })) (sym same_ready)
          ∙ inv.same tells store;
      allowed = turn.allowed ∙ ap (λ (ready : List Item). still_allowed (record run { ready = ready })) (sym same_ready) ∙ inv.allowed;
      near = λ tells store d most degrees within.
          turn.near tells (named-read space first now c.args.names.now.names inv.read store) d most
          (subst (λ (t : State). HasDegreesUpTo (graph_of t.records) d) (sym inv.read.same) degrees)
          (subst (λ (ready : List Item). IsNear d most run.rows.items ready) same_ready (inv.near tells store d most degrees within));
      scan = λ at scan.
          scan_turns at (space.state first).reads (space.state now).reads (space.state c.turn.new.space).reads old c.turn.new.self none.1 turn.scan
          (λ from most item w. let l = turn.limit from most item w in (ap (λ (s : g.row.R.Denot). (space.state s).reads) l.0, l.1))
          (subst (λ (ready : List Item). ScanState at (space.state first).reads (space.state now).reads (record run { ready = ready })) same_ready
          (inv.scan at scan));
      hop = turn_on space c.args.names.now.names first now c.args.self.now run inv.hop c.turn.new.space c.turn.new.self
          (λ alone vertices. (turn.hop alone vertices).0) c.turn.ensures.stopped inv.read (λ alone vertices. (turn.hop alone vertices).1);
      owes = λ tells store.
          let step = turn.owes tells (named-read space first now c.args.names.now.names inv.read store) in
          let kept : (space.state now).records ≡ (space.state first).records = ap (λ (t : State). t.records) inv.read.same in
          let before = ap (λ (records : Records). owed records run) kept in
          let after = ap (λ (records : Records). owed records c.turn.new.self) kept in
          let spent = inv.owes tells store in
          omega (arith, step, before, after, spent);
      stopped = c.turn.ensures.stopped ∙ inv.stopped;
      read = is_read-on space g.met.R.Reads.further_onward first now c.turn.new.space inv.read c.turn.ensures.read;
    }

pub returns-in-Some-clause-within : goal.returns-in-Some-clause-within
returns-in-Some-clause-within g c = λ tells store d most degrees within.
    let run : Run = c.loop.self in
    within-taken d most (record run { ready = c.take_first.new.self }) c.in-Some.item run.ready c.in-Some.ensures.some
    (c.loop.invariant.near tells store d most degrees within)

pub returns-in-Some-clause-scan : goal.returns-in-Some-clause-scan
returns-in-Some-clause-scan g c = λ at scan.
    let space = g.R.Reads in
    let run : Run = c.loop.self in
    let takes : run.ready ≡ c.into_item.result ∷ c.take_first.new.self = c.in-Some.ensures.some
    ∙ ap (λ (item : Item). item ∷ c.take_first.new.self) (sym c.into_item.ensures.is) in
    scan_gives at (space.state c.args.space.now).reads (space.state c.loop.space).reads run (record run { ready = c.take_first.new.self }) c.into_item.result
    takes refl refl
    (c.loop.invariant.stopped ∙ scan.going) (c.loop.invariant.scan at scan)

pub returns-in_err-turn-clause-damaged : goal.returns-in_err-turn-clause-damaged
returns-in_err-turn-clause-damaged g c = λ tells.
    let p = err_from_is_err_and c.from_residual.result c.from_residual.ensures.1 in
    rw (p.1, p.2) (subst (λ (t : State). StopsAtBroken t.records t.shape c.in_err-turn.field-0.0) c.loop.invariant.read.same
    (c.in_err-turn.ensures.damaged tells))

pub returns-in_err-turn-clause-cause : goal.returns-in_err-turn-clause-cause
returns-in_err-turn-clause-cause g c =
    stop_cause_passed _ _ _ c.from_residual.result c.in_err-turn.field-0.0 c.loop.invariant.read.later c.in_err-turn.ensures.cause c.from_residual.ensures.1

pub returns-in_err-turn-clause-stops : goal.returns-in_err-turn-clause-stops
returns-in_err-turn-clause-stops g c = λ tells store.
    let space = g.R.Reads in
    let first = c.args.space.now in
    let inv = c.loop.invariant in
    let run : Run = c.loop.self in
    let old : Run = record run { ready = c.take_first.new.self } in
    let fault = c.in_err-turn.field-0.0 in
    let none = c.in_default.ensures.none in
    let same_ready : run.ready ≡ old.ready = none.0 ∙ sym none.1 in
    let p = err_from_is_err_and c.from_residual.result c.from_residual.ensures.1 in
    let stops = subst (λ (t : State). IsStopOf (to_come (graph_of t.records) old) fault) inv.read.same
    (c.in_err-turn.ensures.stops tells (named-read space first c.loop.space c.args.names.now.names inv.read store)) in
    rw (p.1, p.2) (subst (λ (s : Stream). IsStopOf s fault)
    (ap (λ (ready : List Item). to_come (graph_of (space.state first).records) (record run { ready = ready })) (sym same_ready) ∙ inv.same tells store) stops)

pub returns-in_err-turn-clause-item : goal.returns-in_err-turn-clause-item
returns-in_err-turn-clause-item g c _ _ = never_ok c.from_residual.result _ _ c.from_residual.ensures.1

pub returns-in_err-turn-clause-shown : goal.returns-in_err-turn-clause-shown
returns-in_err-turn-clause-shown g c = never_ok c.from_residual.result _ _ c.from_residual.ensures.1

pub returns-in_err-turn-clause-within : goal.returns-in_err-turn-clause-within
returns-in_err-turn-clause-within g c _ _ _ _ _ _ = never_ok c.from_residual.result _ _ c.from_residual.ensures.1

pub returns-in_err-turn-clause-scan : goal.returns-in_err-turn-clause-scan
returns-in_err-turn-clause-scan g c _ _ = never_ok c.from_residual.result _ _ c.from_residual.ensures.1

pub returns-in_err-turn-clause-allowed : goal.returns-in_err-turn-clause-allowed
returns-in_err-turn-clause-allowed g c = never_ok c.from_residual.result _ _ c.from_residual.ensures.1

pub returns-then-is_spent-clause-hop : goal.returns-then-is_spent-clause-hop
returns-then-is_spent-clause-hop g c =
    let s = g.R.Reads.state c.args.space.now in
    λ id hop is. (λ tells store. reads_none (reads_for_hop s.records hop id) s, tt)

pub returns-then-is_spent-clause-ready : goal.returns-then-is_spent-clause-ready
returns-then-is_spent-clause-ready g c =
    λ is. (refl, tt)

pub returns-in-Some-clause-hop : goal.returns-in-Some-clause-hop
returns-in-Some-clause-hop g c =
    let space = g.R.Reads in
    let run : Run = c.loop.self in
    let takes : run.ready ≡ c.into_item.result ∷ c.take_first.new.self = c.in-Some.ensures.some
    ∙ ap (λ (item : Item). item ∷ c.take_first.new.self) (sym c.into_item.ensures.is) in
    let gives = hop_gives space c.args.names.now.names c.args.space.now c.loop.space c.args.self.now run (record run { ready = c.take_first.new.self })
    c.into_item.result c.take_first.new.self takes refl refl refl c.loop.invariant.hop in
    gives.0

pub returns-in-Some-clause-ready : goal.returns-in-Some-clause-ready
returns-in-Some-clause-ready g c =
    let space = g.R.Reads in
    let run : Run = c.loop.self in
    let takes : run.ready ≡ c.into_item.result ∷ c.take_first.new.self = c.in-Some.ensures.some
    ∙ ap (λ (item : Item). item ∷ c.take_first.new.self) (sym c.into_item.ensures.is) in
    let gives = hop_gives space c.args.names.now.names c.args.space.now c.loop.space c.args.self.now run (record run { ready = c.take_first.new.self })
    c.into_item.result c.take_first.new.self takes refl refl refl c.loop.invariant.hop in
    gives.1

pub returns-in_err-turn-clause-hop : goal.returns-in_err-turn-clause-hop
returns-in_err-turn-clause-hop g c =
    let stops = turn_stops g.R.Reads c.args.names.now.names c.args.space.now c.loop.space c.args.self.now c.loop.self c.loop.invariant.hop c.turn.new.space
    c.turn.new.self (λ alone vertices. (c.turn.ensures.hop alone vertices).0) c.turn.ensures.stopped c.loop.invariant.read in
    λ id hop is. (stops.one id hop is, never_ok c.from_residual.result _ _ c.from_residual.ensures.1)

pub returns-in_err-turn-clause-ready : goal.returns-in_err-turn-clause-ready
returns-in_err-turn-clause-ready g c =
    let stops = turn_stops g.R.Reads c.args.names.now.names c.args.space.now c.loop.space c.args.self.now c.loop.self c.loop.invariant.hop c.turn.new.space
    c.turn.new.self (λ alone vertices. (c.turn.ensures.hop alone vertices).0) c.turn.ensures.stopped c.loop.invariant.read in
    λ is. (stops.ready is, never_ok c.from_residual.result _ _ c.from_residual.ensures.1)

pub returns-clause-hop : goal.returns-clause-hop
returns-clause-hop g c =
    let stops = hop_stops g.R.Reads c.args.names.now.names c.args.space.now c.loop.space c.args.self.now c.loop.self c.loop.invariant.hop in
    λ id hop is. (stops.one id hop is, tt)

pub returns-clause-ready : goal.returns-clause-ready
returns-clause-ready g c =
    let stops = hop_stops g.R.Reads c.args.names.now.names c.args.space.now c.loop.space c.args.self.now c.loop.self c.loop.invariant.hop in
    λ is. (stops.ready is, tt)

pub returns-then-is_spent-clause-read : goal.returns-then-is_spent-clause-read
returns-then-is_spent-clause-read g c = is_read-none g.R.Reads g.met.R.Reads.stays_onward c.args.space.now

pub returns-in-Some-clause-read : goal.returns-in-Some-clause-read
returns-in-Some-clause-read g c = c.loop.invariant.read

pub returns-in-Some-clause-cause : goal.returns-in-Some-clause-cause
returns-in-Some-clause-cause g c = ok_cause _ _ _ _ c.loop.invariant.read.later

pub returns-in_err-turn-clause-read : goal.returns-in_err-turn-clause-read
returns-in_err-turn-clause-read g c =
    is_read-on g.R.Reads g.met.R.Reads.further_onward _ _ _ c.loop.invariant.read c.in_err-turn.ensures.read

pub returns-clause-read : goal.returns-clause-read
returns-clause-read g c = c.loop.invariant.read

pub returns-in-Some-clause-owes : goal.returns-in-Some-clause-owes
returns-in-Some-clause-owes g c = c.loop.invariant.owes

pub returns-in_err-turn-clause-owes : goal.returns-in_err-turn-clause-owes
returns-in_err-turn-clause-owes g c = λ tells store.
    let space = g.R.Reads in
    let first = c.args.space.now in
    let inv = c.loop.invariant in
    let run : Run = c.loop.self in
    let s = space.state first in
    let t = space.state c.turn.new.space in
    let step = c.in_err-turn.ensures.owes tells (named-read space first c.loop.space c.args.names.now.names inv.read store) in
    let kept : (space.state c.loop.space).records ≡ s.records = ap (λ (u : State). u.records) inv.read.same in
    let before = ap (λ (records : Records). owed records run) kept in
    let spent = inv.owes tells store in
    let spends : Spends s t (owed s.records c.args.self.now) 0 = omega (arith, step, before, spent) in
    spends_stop c.from_residual.result _ s t (owed s.records c.args.self.now) _ c.from_residual.ensures.1 spends

pub returns-clause-owes : goal.returns-clause-owes
returns-clause-owes g c = λ tells store.
    let spent = c.loop.invariant.owes tells store in
    omega (arith, spent)
