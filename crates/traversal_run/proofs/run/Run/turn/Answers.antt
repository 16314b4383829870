use Rattle.std.proofs.Common.{[], ◌∷◌, ◌++◌, ◌≡◌, ◌<◌, ◌+◌, List, Option, None, Some, Bool, true, false, get_or, length, take, set, refl, sym, ap, ◌∙◌, subst}
use Rattle.std.proofs.Common.{arith}
use Rattle.std.proofs.lemmas.Result.{err_from_is_err_and}
use Rattle.std.specs.Option.{IfSome}
use Rattle.plain_graph.specs.declared.item.Item.{Item}
use Rattle.store_rules.specs.Graph.{graph_of}
use Rattle.traversal_run.specs.Held.{ArePlain, IsNear}
use Rattle.traversal_run.specs.Row.{AreIdle, AreQuiet, Stream, stages_of, stream, through, with_first}
use Rattle.traversal_run.specs.Run.{allowed_by, to_come}
use Rattle.traversal_run.specs.Scan.{TakesVertex, limit_row}
use Rattle.traversal_run.specs.Source.{GivesFirst, is_over, left_of}
use Rattle.traversal_run.specs.Stage.{is_open}
use Rattle.traversal_run.specs.declared.row.Row.{Row}
use Rattle.traversal_run.proofs.Causes.{fault_stop_cause, memory_stop_cause, stop_cause_passed, stop_has, fault_stop_has, fault_stops}
use Rattle.traversal_run.proofs.HeldRows.{near-sourced, plain_at}
use Rattle.traversal_run.proofs.HeldSteps.{plain_quiet}
use Rattle.traversal_run.proofs.Exits.{allowed-sourced, end_blames, idle_none}
use Rattle.traversal_run.proofs.Places.{written_back}
use Rattle.traversal_run.proofs.Rows.{ends_at, idle_drop}
use Rattle.traversal_run.proofs.Scans.{cut_scan, idle_scan, quiet_scan}
use Rattle.traversal_run.proofs.Stops.{may_stop}
use Rattle.rec_bytes.proofs.Causes.{never_ok, ok_cause}
use Rattle.traversal_run.proofs.HopRuns.{feeds_nothing, idle_alone, over_none, quiet_alone}
use Rattle.traversal_run.specs.HopRun.{IsHopAlone}
use Rattle.traversal_run.proofs.run.Run.turn.Goals.{else-not-is_over-via-else-not-is_over, else-not-is_over-via-then-not-is_over+else-is_fed}
use Rattle.traversal_run.specs.Owing.{Spends, owed, rows_owe, steps_owe}
use Rattle.traversal_run.proofs.OwedRows.{all-left}
use Rattle.traversal_run.proofs.run.Run.turn.Goals as goal
use Rattle.traversal_run.proofs.Spending.{spends_stop}

pub returns-clause-stops : goal.returns-clause-stops
returns-clause-stops g c = λ tells store.
    let graph = graph_of (g.R.Reads.state c.args.space.now).records in
    let run = c.args.self.now in
    let none = subst (λ item. GivesFirst graph run.source item c.next.new.self) c.in_default-2.is (c.in_ok-item.ensures.first tells store) in
    let idle = subst AreIdle c.deref.ensures.value c.in_default.ensures.none in
    let quiet = subst AreQuiet c.deref-2.ensures.value c.in_default-first_open.ensures.none in
    ends_at graph run.ready (left_of graph run.source) run.rows.items c.requires none.0 idle quiet

clash : (b : Bool) → b ≡ true → b ≡ false → ⊥
clash b on off = cc

no_item : (item : Item) → Some item ≡ None → ⊥
no_item item none = cc

not_true : (b : Bool) → (b ≡ true → ⊥) → b ≡ false
not_true true untrue = absurd (untrue refl)
not_true false untrue = refl

pub returns-in-Some-clause-near : goal.returns-in-Some-clause-near
returns-in-Some-clause-near g c = λ tells store d most degrees near.
    let run = c.args.self.now in
    let rows : c.deref_mut.result.now ≡ run.rows.items = c.deref_mut.ensures.value in
    let back = written_back c.advance_row.new.rows run.rows.items run.rows.len (c.advance_row.auto.rows ∙ ap length rows) run.rows.ok.0 in
    c.cut.ensures.near d most (subst (λ (rs : List Row). IsNear d most rs c.advance_row.new.ready) (sym back)
    (c.in_ok-advance_row.ensures.near tells store d most degrees (subst (λ (rs : List Row). IsNear d most rs run.ready) (sym rows) near)))

pub returns-in-Some-clause-limit : goal.returns-in-Some-clause-limit
returns-in-Some-clause-limit g c = λ from most item scan.
    let run = c.args.self.now in
    let rows : c.deref_mut.result.now ≡ run.rows.items = c.deref_mut.ensures.value in
    let back = written_back c.advance_row.new.rows run.rows.items run.rows.len (c.advance_row.auto.rows ∙ ap length rows) run.rows.ok.0 in
    let step = c.in_ok-advance_row.ensures.limit (most + 1) item (rows ∙ scan.rows) in
    let lt : c.in-Some.at < 1 = subst (λ (rs : List Row). c.in-Some.at < length rs) (c.deref.ensures.value ∙ scan.rows) c.in-Some.ensures.some.0 in
    (step.2, cut_scan _ c.cut.new.self c.in-Some.at from most item lt scan.source (back ∙ step.0) step.1 c.cut.ensures.either)

pub returns-in-Some-clause-scan : goal.returns-in-Some-clause-scan
returns-in-Some-clause-scan g c = λ at most scan.
    absurd (idle_scan c.deref.result.now most c.in-Some.at (limit_row most []) (c.deref.ensures.value ∙ scan.rows) c.in-Some.ensures.some.0
    (c.in-Some.ensures.waits (limit_row most [])))

pub returns-in-Some-2-clause-near : goal.returns-in-Some-2-clause-near
returns-in-Some-2-clause-near g c = λ tells store d most degrees near.
    let run = c.args.self.now in
    let old = c.deref_mut-in-Some-2.result.now in
    let rows : old ≡ run.rows.items = c.deref_mut-in-Some-2.ensures.value in
    let back = written_back c.put.new.rows run.rows.items run.rows.len (c.put.auto.rows ∙ ap length rows) run.rows.ok.0 in
    let idle : AreIdle old = subst AreIdle (c.deref.ensures.value ∙ sym rows) c.in_default.ensures.none in
    let before : IsNear d most old [] = subst (λ (rs : List Row). IsNear d most rs []) (sym rows)
    (subst (λ (ready : List Item). IsNear d most run.rows.items ready) c.requires near) in
    subst (λ (rs : List Row). IsNear d most rs c.put.new.ready) (sym back)
    (near-sourced d most old c.put.new.rows c.in-Some-2.item c.one-outs.result c.put.new.ready c.one-outs.ensures idle c.put.ensures.passed c.put.ensures.given
    c.put.ensures.rows before)

pub returns-in-Some-2-clause-scan : goal.returns-in-Some-2-clause-scan
returns-in-Some-2-clause-scan g c = λ at most scan.
    let space = g.R.Reads in
    let run = c.args.self.now in
    let any = limit_row most [] in
    let old = c.deref_mut-in-Some-2.result.now in
    let rows : old ≡ run.rows.items = c.deref_mut-in-Some-2.ensures.value in
    let only : old ≡ any ∷ [] = rows ∙ scan.rows in
    let back = written_back c.put.new.rows run.rows.items run.rows.len (c.put.auto.rows ∙ ap length rows) run.rows.ok.0 in
    let takes = subst (λ (found : Option Item). IfSome found (λ item. TakesVertex at (space.state c.args.space.now).reads (space.state c.next.new.space).reads
    item c.next.new.self)) c.in-Some-2.is
    (c.in_ok-item.ensures.vertex at scan.source) in
    let outs : c.one-outs.result ≡ c.in-Some-2.item ∷ [] = c.one-outs.ensures in
    let one : length old ≡ 1 = ap length only in (
      c.in-Some-2.item,
      takes,
      back ∙ c.put.ensures.rows any ∙ (λ i. set (only i) 0 (record (get_or (only i) 0 any) { waiting = outs i })),
      c.put.ensures.passed
          (omega arith),
    )

pub returns-in-Some-first_open-clause-near : goal.returns-in-Some-first_open-clause-near
returns-in-Some-first_open-clause-near g c = λ tells store d most degrees near.
    let any = limit_row 0 [] in
    let rows = c.deref-2.result.now in
    let at = c.in-Some-first_open.at in
    let plain : ArePlain rows = subst ArePlain (sym c.deref-2.ensures.value) near.plain in
    let opens : is_open (get_or rows at any).stage ≡ true = c.in-Some-first_open.ensures.opens any in
    absurd (clash (is_open (get_or rows at any).stage) opens (plain_quiet (get_or rows at any).stage (plain_at rows at any c.in-Some-first_open.ensures.some.0
    plain)))

pub returns-in-Some-first_open-clause-scan : goal.returns-in-Some-first_open-clause-scan
returns-in-Some-first_open-clause-scan g c = λ at most scan.
    absurd (quiet_scan c.deref-2.result.now most c.in-Some-first_open.at (limit_row most []) (c.deref-2.ensures.value ∙ scan.rows)
    c.in-Some-first_open.ensures.some.0 (c.in-Some-first_open.ensures.opens (limit_row most [])))

pub returns-in_err-advance_row-clause-cause : goal.returns-in_err-advance_row-clause-cause
returns-in_err-advance_row-clause-cause g c =
    stop_cause_passed _ _ _ c.from_residual.result c.in_err-advance_row.field-0.0 (omega arith) c.in_err-advance_row.ensures.cause c.from_residual.ensures.1

pub returns-in_err-item-clause-cause : goal.returns-in_err-item-clause-cause
returns-in_err-item-clause-cause g c =
    fault_stop_cause _ _ _ c.from_residual-in_err-item.result c.in_err-item.field-0.0 (omega arith) c.in_err-item.ensures.cause
    c.from_residual-in_err-item.ensures.1

pub returns-in_err-finish_row-clause-cause : goal.returns-in_err-finish_row-clause-cause
returns-in_err-finish_row-clause-cause g c =
    memory_stop_cause _ _ c.from_residual-in_err-finish_row.result c.in_ok-item.ensures.cause.later c.from_residual-in_err-finish_row.ensures.1

pub returns-then-is_fed-clause-near : goal.returns-then-is_fed-clause-near
returns-then-is_fed-clause-near g c = λ tells store d most degrees near.
    let run = c.args.self.now in
    let rows : c.deref_mut-then-is_fed.result.now ≡ run.rows.items = c.deref_mut-then-is_fed.ensures.value in
    let back = written_back c.feed_rows.new.rows run.rows.items run.rows.len (c.feed_rows.auto.rows ∙ ap length rows) run.rows.ok.0 in
    subst (λ (rs : List Row). IsNear d most rs c.feed_rows.new.ready) (sym back)
    (c.in_ok-feed_rows.ensures.near tells store d most degrees (subst (λ (rs : List Row). IsNear d most rs run.ready) (sym rows) near))

pub returns-in_err-advance_row-clause-stops : goal.returns-in_err-advance_row-clause-stops
returns-in_err-advance_row-clause-stops g c = λ tells store.
    let graph = graph_of (g.R.Reads.state c.args.space.now).records in
    let run = c.args.self.now in
    let left = stream (left_of graph run.source) in
    let rows : c.deref_mut.result.now ≡ run.rows.items = c.deref_mut.ensures.value in
    let p = err_from_is_err_and c.from_residual.result c.from_residual.ensures.1 in
    rw (p.1, p.2) (may_stop ⊥ ((coming : Stream) → (through graph c.deref_mut.result.now coming).past ≡ true) (to_come graph run ≡ stream [])
    ((to_come graph run).past ≡ true) c.in_err-advance_row.field-0.0 (λ none. absurd none)
    (λ past. subst (λ (rs : List Row). (through graph rs left).past ≡ true) rows (past left)) (c.in_err-advance_row.ensures.stops tells store))

pub returns-in-Some-clause-same : goal.returns-in-Some-clause-same
returns-in-Some-clause-same g c = λ tells store.
    let graph = graph_of (g.R.Reads.state c.args.space.now).records in
    let run = c.args.self.now in
    let left = stream (left_of graph run.source) in
    let rows : c.deref_mut.result.now ≡ run.rows.items = c.deref_mut.ensures.value in
    let back = written_back c.advance_row.new.rows run.rows.items run.rows.len (c.advance_row.auto.rows ∙ ap length rows) run.rows.ok.0 in
    c.cut.ensures.same graph
    ∙ ap (λ (rs : List Row). with_first c.advance_row.new.ready (through graph rs left)) back
    ∙ c.in_ok-advance_row.ensures.same tells store left
    ∙ ap (λ (rs : List Row). through graph rs left) rows
    ∙ ap (λ (ready : List Item). with_first ready (through graph run.rows.items left)) (sym c.requires)

pub returns-then-is_fed-clause-allowed : goal.returns-then-is_fed-clause-allowed
returns-then-is_fed-clause-allowed g c =
    let run = c.args.self.now in
    let over = is_over run.source.left in
    let now = is_over c.feed_rows.new.source.left in
    let rows : c.deref_mut-then-is_fed.result.now ≡ run.rows.items = c.deref_mut-then-is_fed.ensures.value in
    let back = written_back c.feed_rows.new.rows run.rows.items run.rows.len (c.feed_rows.auto.rows ∙ ap length rows) run.rows.ok.0 in
    ap (λ (rs : List Row). allowed_by now (stages_of rs) (length c.feed_rows.new.ready)) back
    ∙ c.in_ok-feed_rows.ensures.allowed over now
    ∙ ap (λ (rs : List Row). allowed_by over (stages_of rs) 0) rows
    ∙ ap (λ (ready : List Item). allowed_by over (stages_of run.rows.items) (length ready)) (sym c.requires)

pub returns-in_err-advance_row-clause-same : goal.returns-in_err-advance_row-clause-same
returns-in_err-advance_row-clause-same g c _ _ = never_ok c.from_residual.result _ _ c.from_residual.ensures.1

pub returns-in_err-advance_row-clause-allowed : goal.returns-in_err-advance_row-clause-allowed
returns-in_err-advance_row-clause-allowed g c = never_ok c.from_residual.result _ _ c.from_residual.ensures.1

pub returns-in_err-advance_row-clause-near : goal.returns-in_err-advance_row-clause-near
returns-in_err-advance_row-clause-near g c _ _ _ _ _ _ = never_ok c.from_residual.result _ _ c.from_residual.ensures.1

pub returns-in_err-advance_row-clause-scan : goal.returns-in_err-advance_row-clause-scan
returns-in_err-advance_row-clause-scan g c _ _ _ = never_ok c.from_residual.result _ _ c.from_residual.ensures.1

pub returns-in_err-advance_row-clause-limit : goal.returns-in_err-advance_row-clause-limit
returns-in_err-advance_row-clause-limit g c _ _ _ _ = never_ok c.from_residual.result _ _ c.from_residual.ensures.1

pub returns-in_err-feed_rows-clause-same : goal.returns-in_err-feed_rows-clause-same
returns-in_err-feed_rows-clause-same g c _ _ = never_ok c.from_residual-in_err-feed_rows.result _ _ c.from_residual-in_err-feed_rows.ensures.1

pub returns-in_err-feed_rows-clause-allowed : goal.returns-in_err-feed_rows-clause-allowed
returns-in_err-feed_rows-clause-allowed g c = never_ok c.from_residual-in_err-feed_rows.result _ _ c.from_residual-in_err-feed_rows.ensures.1

pub returns-in_err-feed_rows-clause-near : goal.returns-in_err-feed_rows-clause-near
returns-in_err-feed_rows-clause-near g c _ _ _ _ _ _ = never_ok c.from_residual-in_err-feed_rows.result _ _ c.from_residual-in_err-feed_rows.ensures.1

pub returns-in_err-feed_rows-clause-scan : goal.returns-in_err-feed_rows-clause-scan
returns-in_err-feed_rows-clause-scan g c _ _ _ = never_ok c.from_residual-in_err-feed_rows.result _ _ c.from_residual-in_err-feed_rows.ensures.1

pub returns-in_err-feed_rows-clause-limit : goal.returns-in_err-feed_rows-clause-limit
returns-in_err-feed_rows-clause-limit g c _ _ _ _ = never_ok c.from_residual-in_err-feed_rows.result _ _ c.from_residual-in_err-feed_rows.ensures.1

pub returns-in_err-item-clause-same : goal.returns-in_err-item-clause-same
returns-in_err-item-clause-same g c _ _ = never_ok c.from_residual-in_err-item.result _ _ c.from_residual-in_err-item.ensures.1

pub returns-in_err-item-clause-allowed : goal.returns-in_err-item-clause-allowed
returns-in_err-item-clause-allowed g c = never_ok c.from_residual-in_err-item.result _ _ c.from_residual-in_err-item.ensures.1

pub returns-in_err-item-clause-near : goal.returns-in_err-item-clause-near
returns-in_err-item-clause-near g c _ _ _ _ _ _ = never_ok c.from_residual-in_err-item.result _ _ c.from_residual-in_err-item.ensures.1

pub returns-in_err-item-clause-scan : goal.returns-in_err-item-clause-scan
returns-in_err-item-clause-scan g c _ _ _ = never_ok c.from_residual-in_err-item.result _ _ c.from_residual-in_err-item.ensures.1

pub returns-in_err-item-clause-limit : goal.returns-in_err-item-clause-limit
returns-in_err-item-clause-limit g c _ _ _ _ = never_ok c.from_residual-in_err-item.result _ _ c.from_residual-in_err-item.ensures.1

pub returns-in_err-finish_row-clause-same : goal.returns-in_err-finish_row-clause-same
returns-in_err-finish_row-clause-same g c _ _ = never_ok c.from_residual-in_err-finish_row.result _ _ c.from_residual-in_err-finish_row.ensures.1

pub returns-in_err-finish_row-clause-allowed : goal.returns-in_err-finish_row-clause-allowed
returns-in_err-finish_row-clause-allowed g c = never_ok c.from_residual-in_err-finish_row.result _ _ c.from_residual-in_err-finish_row.ensures.1

pub returns-in_err-finish_row-clause-near : goal.returns-in_err-finish_row-clause-near
returns-in_err-finish_row-clause-near g c _ _ _ _ _ _ = never_ok c.from_residual-in_err-finish_row.result _ _ c.from_residual-in_err-finish_row.ensures.1

pub returns-in_err-finish_row-clause-scan : goal.returns-in_err-finish_row-clause-scan
returns-in_err-finish_row-clause-scan g c _ _ _ = never_ok c.from_residual-in_err-finish_row.result _ _ c.from_residual-in_err-finish_row.ensures.1

pub returns-in_err-finish_row-clause-limit : goal.returns-in_err-finish_row-clause-limit
returns-in_err-finish_row-clause-limit g c _ _ _ _ = never_ok c.from_residual-in_err-finish_row.result _ _ c.from_residual-in_err-finish_row.ensures.1

pub returns-in_err-advance_row-clause-damaged : goal.returns-in_err-advance_row-clause-damaged
returns-in_err-advance_row-clause-damaged g c tells =
    stop_has _ c.from_residual.result _ c.from_residual.ensures.1 (c.in_err-advance_row.ensures.damaged tells)

pub returns-in_err-advance_row-clause-read : goal.returns-in_err-advance_row-clause-read
returns-in_err-advance_row-clause-read g c = c.in_err-advance_row.ensures.read

pub returns-in_err-feed_rows-clause-damaged : goal.returns-in_err-feed_rows-clause-damaged
returns-in_err-feed_rows-clause-damaged g c tells =
    stop_has _ c.from_residual-in_err-feed_rows.result _ c.from_residual-in_err-feed_rows.ensures.1 (c.in_err-feed_rows.ensures.damaged tells)

pub returns-in_err-feed_rows-clause-read : goal.returns-in_err-feed_rows-clause-read
returns-in_err-feed_rows-clause-read g c = c.in_err-feed_rows.ensures.read

pub returns-in_err-feed_rows-clause-cause : goal.returns-in_err-feed_rows-clause-cause
returns-in_err-feed_rows-clause-cause g c =
    stop_cause_passed _ _ _ c.from_residual-in_err-feed_rows.result c.in_err-feed_rows.field-0.0 (omega arith) c.in_err-feed_rows.ensures.cause
    c.from_residual-in_err-feed_rows.ensures.1

pub returns-in_err-item-clause-damaged : goal.returns-in_err-item-clause-damaged
returns-in_err-item-clause-damaged g c tells =
    fault_stops _ _ c.from_residual-in_err-item.result c.in_err-item.field-0.0 c.from_residual-in_err-item.ensures.1 (c.in_err-item.ensures.damaged tells)

pub returns-in_err-item-clause-stops : goal.returns-in_err-item-clause-stops
returns-in_err-item-clause-stops g c _ _ =
    fault_stop_has _ tt tt (λ _. tt) c.from_residual-in_err-item.result c.in_err-item.field-0.0 c.from_residual-in_err-item.ensures.1

pub returns-in_err-item-clause-read : goal.returns-in_err-item-clause-read
returns-in_err-item-clause-read g c = c.in_err-item.ensures.read

pub returns-in_err-finish_row-clause-damaged : goal.returns-in_err-finish_row-clause-damaged
returns-in_err-finish_row-clause-damaged g c _ =
    stop_has _ c.from_residual-in_err-finish_row.result _ c.from_residual-in_err-finish_row.ensures.1 tt

pub returns-in_err-finish_row-clause-stops : goal.returns-in_err-finish_row-clause-stops
returns-in_err-finish_row-clause-stops g c _ _ =
    stop_has _ c.from_residual-in_err-finish_row.result _ c.from_residual-in_err-finish_row.ensures.1 tt

pub returns-in_err-finish_row-clause-read : goal.returns-in_err-finish_row-clause-read
returns-in_err-finish_row-clause-read g c = c.in_ok-item.ensures.read

pub returns-in_err-advance_row-clause-hop : goal.returns-in_err-advance_row-clause-hop
returns-in_err-advance_row-clause-hop g c = λ alone vertices.
    absurd (idle_alone c.args.self.now.rows.items alone c.in-Some.at alone.row (subst (λ (rs : List Row). c.in-Some.at < length rs) c.deref.ensures.value
    c.in-Some.ensures.some.0)
    (subst (λ (rs : List Row). ¬ ((get_or rs c.in-Some.at alone.row).waiting ≡ [])) c.deref.ensures.value (c.in-Some.ensures.waits alone.row)))

pub returns-in-Some-clause-hop : goal.returns-in-Some-clause-hop
returns-in-Some-clause-hop g c = λ alone vertices.
    absurd (idle_alone c.args.self.now.rows.items alone c.in-Some.at alone.row (subst (λ (rs : List Row). c.in-Some.at < length rs) c.deref.ensures.value
    c.in-Some.ensures.some.0)
    (subst (λ (rs : List Row). ¬ ((get_or rs c.in-Some.at alone.row).waiting ≡ [])) c.deref.ensures.value (c.in-Some.ensures.waits alone.row)))

pub returns-in_err-feed_rows-clause-hop : goal.returns-in_err-feed_rows-clause-hop
returns-in_err-feed_rows-clause-hop g c = λ alone vertices.
    let run = c.args.self.now in
    let rows : c.deref_mut-then-is_fed.result.now ≡ run.rows.items = c.deref_mut-then-is_fed.ensures.value in
    let still : IsHopAlone c.deref_mut-then-is_fed.result.now = record { row = alone.row; is = rows ∙ alone.is; idle = alone.idle; hop = alone.hop } in
    let fed = c.feed_rows.ensures.hop still vertices in
    (fed.0, never_ok c.from_residual-in_err-feed_rows.result _ _ c.from_residual-in_err-feed_rows.ensures.1)

pub returns-then-is_fed-clause-hop : goal.returns-then-is_fed-clause-hop
returns-then-is_fed-clause-hop g c = λ alone vertices.
    let run = c.args.self.now in
    let rows : c.deref_mut-then-is_fed.result.now ≡ run.rows.items = c.deref_mut-then-is_fed.ensures.value in
    let still : IsHopAlone c.deref_mut-then-is_fed.result.now = record { row = alone.row; is = rows ∙ alone.is; idle = alone.idle; hop = alone.hop } in
    let fed = c.feed_rows.ensures.hop still vertices in
    let back = written_back c.feed_rows.new.rows run.rows.items run.rows.len (c.feed_rows.auto.rows ∙ ap length rows) run.rows.ok.0 in
    (fed.0, subst IsHopAlone (sym back) (c.in_ok-feed_rows.ensures.hop still vertices).1)

pub returns-in_err-item-clause-hop : goal.returns-in_err-item-clause-hop
returns-in_err-item-clause-hop g c = λ alone vertices.
    let run = c.args.self.now in
    let over : is_over run.source.left ≡ true = elim c.else-not-is_over.branch [
      | else-not-is_over-via-then-not-is_over+else-is_fed w ↦
          absurd (clash w.is_fed.result (w.is_fed.ensures.hop (record {
            row = alone.row;
            is = w.deref-then-not-is_over.ensures.value ∙ alone.is;
            idle =
                alone.idle;
            hop = alone.hop;
          })) w.if-is_fed.false)
      | else-not-is_over-via-else-not-is_over w ↦ sym c.is_over.ensures ∙ w.if-not-is_over.false
    ] in
    let feeds = feeds_nothing g.R.Reads c.args.names.now.names alone.row.stage c.args.space.now run.source c.next.new.space c.next.new.self
    (c.next.ensures.unread over) c.next.ensures.edges (over_none run.source.left over) (over_none c.next.new.self.left (c.next.ensures.over ∙ over)) in
    (feeds, never_ok c.from_residual-in_err-item.result _ _ c.from_residual-in_err-item.ensures.1)

pub returns-in_err-finish_row-clause-hop : goal.returns-in_err-finish_row-clause-hop
returns-in_err-finish_row-clause-hop g c = λ alone vertices.
    absurd (quiet_alone c.deref-2.result.now (record { row = alone.row; is = c.deref-2.ensures.value ∙ alone.is; idle = alone.idle; hop = alone.hop })
    c.in-Some-first_open.at alone.row
    c.in-Some-first_open.ensures.some.0 (c.in-Some-first_open.ensures.opens alone.row))

pub returns-in-Some-first_open-clause-hop : goal.returns-in-Some-first_open-clause-hop
returns-in-Some-first_open-clause-hop g c = λ alone vertices.
    absurd (quiet_alone c.deref-2.result.now (record { row = alone.row; is = c.deref-2.ensures.value ∙ alone.is; idle = alone.idle; hop = alone.hop })
    c.in-Some-first_open.at alone.row
    c.in-Some-first_open.ensures.some.0 (c.in-Some-first_open.ensures.opens alone.row))

pub returns-clause-hop : goal.returns-clause-hop
returns-clause-hop g c = λ alone vertices.
    let run = c.args.self.now in
    let over : is_over run.source.left ≡ true = elim c.else-not-is_over.branch [
      | else-not-is_over-via-then-not-is_over+else-is_fed w ↦
          absurd (clash w.is_fed.result (w.is_fed.ensures.hop (record {
            row = alone.row;
            is = w.deref-then-not-is_over.ensures.value ∙ alone.is;
            idle =
                alone.idle;
            hop = alone.hop;
          })) w.if-is_fed.false)
      | else-not-is_over-via-else-not-is_over w ↦ sym c.is_over.ensures ∙ w.if-not-is_over.false
    ] in
    let feeds = feeds_nothing g.R.Reads c.args.names.now.names alone.row.stage c.args.space.now run.source c.next.new.space c.next.new.self
    (c.next.ensures.unread over) c.next.ensures.edges (over_none run.source.left over) (over_none c.next.new.self.left (c.next.ensures.over ∙ over)) in
    (feeds, tt)

pub returns-in-Some-clause-read : goal.returns-in-Some-clause-read
returns-in-Some-clause-read g c = c.in_ok-advance_row.ensures.read

pub returns-in-Some-clause-cause : goal.returns-in-Some-clause-cause
returns-in-Some-clause-cause g c = ok_cause _ _ _ _ c.in_ok-advance_row.ensures.cause.later

pub returns-in-Some-clause-allowed : goal.returns-in-Some-clause-allowed
returns-in-Some-clause-allowed g c =
    let run = c.args.self.now in
    let over = is_over run.source.left in
    let rows : c.deref_mut.result.now ≡ run.rows.items = c.deref_mut.ensures.value in
    let back = written_back c.advance_row.new.rows run.rows.items run.rows.len (c.advance_row.auto.rows ∙ ap length rows) run.rows.ok.0 in
    c.cut.ensures.allowed
    ∙ ap (λ (rs : List Row). allowed_by over (stages_of rs) (length c.advance_row.new.ready)) back
    ∙ c.in_ok-advance_row.ensures.allowed over
    ∙ ap (λ (rs : List Row). allowed_by over (stages_of rs) 0) rows
    ∙ ap (λ (ready : List Item). allowed_by over (stages_of run.rows.items) (length ready)) (sym c.requires)

pub returns-then-is_fed-clause-same : goal.returns-then-is_fed-clause-same
returns-then-is_fed-clause-same g c = λ tells store.
    let graph = graph_of (g.R.Reads.state c.args.space.now).records in
    let run = c.args.self.now in
    let left = stream (left_of graph run.source) in
    let rows : c.deref_mut-then-is_fed.result.now ≡ run.rows.items = c.deref_mut-then-is_fed.ensures.value in
    let back = written_back c.feed_rows.new.rows run.rows.items run.rows.len (c.feed_rows.auto.rows ∙ ap length rows) run.rows.ok.0 in
    ap (λ (rs : List Row). with_first c.feed_rows.new.ready (through graph rs (stream (left_of graph c.feed_rows.new.source)))) back
    ∙ c.in_ok-feed_rows.ensures.same tells store
    ∙ ap (λ (rs : List Row). through graph rs left) rows
    ∙ ap (λ (ready : List Item). with_first ready (through graph run.rows.items left)) (sym c.requires)

pub returns-then-is_fed-clause-read : goal.returns-then-is_fed-clause-read
returns-then-is_fed-clause-read g c = c.in_ok-feed_rows.ensures.read

pub returns-then-is_fed-clause-cause : goal.returns-then-is_fed-clause-cause
returns-then-is_fed-clause-cause g c = ok_cause _ _ _ _ c.in_ok-feed_rows.ensures.cause.later

pub returns-in-Some-2-clause-read : goal.returns-in-Some-2-clause-read
returns-in-Some-2-clause-read g c = c.in_ok-item.ensures.read

pub returns-in-Some-2-clause-cause : goal.returns-in-Some-2-clause-cause
returns-in-Some-2-clause-cause g c = ok_cause _ _ _ _ c.in_ok-item.ensures.cause.later

pub returns-in-Some-first_open-clause-read : goal.returns-in-Some-first_open-clause-read
returns-in-Some-first_open-clause-read g c = c.in_ok-item.ensures.read

pub returns-in-Some-first_open-clause-cause : goal.returns-in-Some-first_open-clause-cause
returns-in-Some-first_open-clause-cause g c = ok_cause _ _ _ _ c.in_ok-item.ensures.cause.later

pub returns-clause-read : goal.returns-clause-read
returns-clause-read g c = c.in_ok-item.ensures.read

pub returns-in-Some-clause-owes : goal.returns-in-Some-clause-owes
returns-in-Some-clause-owes g c = λ tells store.
    let records = (g.R.Reads.state c.args.space.now).records in
    let run = c.args.self.now in
    let left = left_of (graph_of records) run.source in
    let rows : c.deref_mut.result.now ≡ run.rows.items = c.deref_mut.ensures.value in
    let back = written_back c.advance_row.new.rows run.rows.items run.rows.len (c.advance_row.auto.rows ∙ ap length rows) run.rows.ok.0 in
    let step = c.in_ok-advance_row.ensures.owes tells store left in
    let cut = c.cut.ensures.owes records in
    let before = ap (λ (rs : List Row). steps_owe records rs left) rows in
    let after = ap (λ (rs : List Row). steps_owe records rs left) back in
    omega (arith, step, cut, before, after)

pub returns-in_err-advance_row-clause-owes : goal.returns-in_err-advance_row-clause-owes
returns-in_err-advance_row-clause-owes g c = λ tells store.
    let s = g.R.Reads.state c.args.space.now in
    let t = g.R.Reads.state c.advance_row.new.space in
    let run = c.args.self.now in
    let left = left_of (graph_of s.records) run.source in
    let rows : c.deref_mut.result.now ≡ run.rows.items = c.deref_mut.ensures.value in
    let step = c.in_err-advance_row.ensures.owes tells store left in
    let before = ap (λ (rs : List Row). steps_owe s.records rs left) rows in
    let spends : Spends s t (owed s.records run) 0 = omega (arith, step, before) in
    spends_stop c.from_residual.result _ s t (owed s.records run) _ c.from_residual.ensures.1 spends

pub returns-then-is_fed-clause-owes : goal.returns-then-is_fed-clause-owes
returns-then-is_fed-clause-owes g c = λ tells store.
    let records = (g.R.Reads.state c.args.space.now).records in
    let run = c.args.self.now in
    let rows : c.deref_mut-then-is_fed.result.now ≡ run.rows.items = c.deref_mut-then-is_fed.ensures.value in
    let back = written_back c.feed_rows.new.rows run.rows.items run.rows.len (c.feed_rows.auto.rows ∙ ap length rows) run.rows.ok.0 in
    let step = c.in_ok-feed_rows.ensures.owes tells store in
    let before = ap (λ (rs : List Row). rows_owe records run.source rs) rows in
    let after = ap (λ (rs : List Row). rows_owe records c.feed_rows.new.source rs) back in
    omega (arith, step, before, after)

pub returns-in_err-feed_rows-clause-owes : goal.returns-in_err-feed_rows-clause-owes
returns-in_err-feed_rows-clause-owes g c = λ tells store.
    let s = g.R.Reads.state c.args.space.now in
    let t = g.R.Reads.state c.feed_rows.new.space in
    let run = c.args.self.now in
    let rows : c.deref_mut-then-is_fed.result.now ≡ run.rows.items = c.deref_mut-then-is_fed.ensures.value in
    let step = c.in_err-feed_rows.ensures.owes tells store in
    let before = ap (λ (rs : List Row). rows_owe s.records run.source rs) rows in
    let spends : Spends s t (owed s.records run) 0 = omega (arith, step, before) in
    spends_stop c.from_residual-in_err-feed_rows.result _ s t (owed s.records run) _ c.from_residual-in_err-feed_rows.ensures.1 spends

pub returns-in_err-item-clause-owes : goal.returns-in_err-item-clause-owes
returns-in_err-item-clause-owes g c = λ tells store.
    let s = g.R.Reads.state c.args.space.now in
    let t = g.R.Reads.state c.next.new.space in
    let run = c.args.self.now in
    let step = c.in_err-item.ensures.owes in
    let spends : Spends s t (owed s.records run) 0 = omega (arith, step) in
    spends_stop c.from_residual-in_err-item.result _ s t (owed s.records run) _ c.from_residual-in_err-item.ensures.1 spends

pub returns-in-Some-2-clause-owes : goal.returns-in-Some-2-clause-owes
returns-in-Some-2-clause-owes g c = λ tells store.
    let records = (g.R.Reads.state c.args.space.now).records in
    let graph = graph_of records in
    let run = c.args.self.now in
    let rest = left_of graph c.next.new.self in
    let old = c.deref_mut-in-Some-2.result.now in
    let rows : old ≡ run.rows.items = c.deref_mut-in-Some-2.ensures.value in
    let back = written_back c.put.new.rows run.rows.items run.rows.len (c.put.auto.rows ∙ ap length rows) run.rows.ok.0 in
    let gives = subst (λ (found : Option Item). GivesFirst graph run.source found c.next.new.self) c.in-Some-2.is (c.in_ok-item.ensures.first tells store) in
    let outs : c.one-outs.result ≡ c.in-Some-2.item ∷ [] = c.one-outs.ensures in
    let step = c.in_ok-item.ensures.owes in
    let after : steps_owe records c.put.new.rows rest ≡ steps_owe records run.rows.items (left_of graph run.source) =
    ap (λ (rs : List Row). steps_owe records rs rest) (sym (all-left c.put.new.rows))
    ∙ c.put.ensures.owes records rest
    ∙ ap (λ (rs : List Row). steps_owe records rs (c.one-outs.result ++ rest)) (all-left old ∙ rows)
    ∙ ap (λ (list : List Item). steps_owe records run.rows.items (list ++ rest)) outs
    ∙ ap (steps_owe records run.rows.items) (sym gives) in
    let now = ap (λ (rs : List Row). steps_owe records rs rest) back in
    omega (arith, step, after, now)

pub returns-in-Some-first_open-clause-owes : goal.returns-in-Some-first_open-clause-owes
returns-in-Some-first_open-clause-owes g c = λ tells store.
    let records = (g.R.Reads.state c.args.space.now).records in
    let graph = graph_of records in
    let run = c.args.self.now in
    let old = c.deref_mut-in-Some-first_open.result.now in
    let rows : old ≡ run.rows.items = c.deref_mut-in-Some-first_open.ensures.value in
    let back = written_back c.finish_row.new.rows run.rows.items run.rows.len (c.finish_row.auto.rows ∙ ap length rows) run.rows.ok.0 in
    let none = subst (λ (found : Option Item). GivesFirst graph run.source found c.next.new.self) c.in_default-2.is (c.in_ok-item.ensures.first tells store) in
    let step = c.in_ok-item.ensures.owes in
    let now = ap (λ (rs : List Row). steps_owe records rs (left_of graph c.next.new.self)) back in
    let same : steps_owe records c.finish_row.new.rows (left_of graph c.next.new.self) ≡ steps_owe records run.rows.items (left_of graph run.source) =
    ap (steps_owe records c.finish_row.new.rows) none.1
    ∙ c.in_ok-finish_row.ensures.owes records
    ∙ ap (λ (rs : List Row). steps_owe records rs []) rows
    ∙ ap (steps_owe records run.rows.items) (sym none.0) in
    omega (arith, step, now, same)

pub returns-in_err-finish_row-clause-owes : goal.returns-in_err-finish_row-clause-owes
returns-in_err-finish_row-clause-owes g c = λ tells store.
    let s = g.R.Reads.state c.args.space.now in
    let t = g.R.Reads.state c.next.new.space in
    let run = c.args.self.now in
    let step = c.in_ok-item.ensures.owes in
    let spends : Spends s t (owed s.records run) 0 = omega (arith, step) in
    spends_stop c.from_residual-in_err-finish_row.result _ s t (owed s.records run) _ c.from_residual-in_err-finish_row.ensures.1 spends

pub returns-clause-owes : goal.returns-clause-owes
returns-clause-owes g c = λ tells store.
    let step = c.in_ok-item.ensures.owes in
    omega (arith, step)

pub returns-in-Some-2-clause-same : goal.returns-in-Some-2-clause-same
returns-in-Some-2-clause-same g c = λ tells store.
    let graph = graph_of (g.R.Reads.state c.args.space.now).records in
    let run = c.args.self.now in
    let left = stream (left_of graph run.source) in
    let rest = left_of graph c.next.new.self in
    let old = c.deref_mut-in-Some-2.result.now in
    let rows : old ≡ run.rows.items = c.deref_mut-in-Some-2.ensures.value in
    let back = written_back c.put.new.rows run.rows.items run.rows.len (c.put.auto.rows ∙ ap length rows) run.rows.ok.0 in
    let gives = subst (λ (found : Option Item). GivesFirst graph run.source found c.next.new.self) c.in-Some-2.is (c.in_ok-item.ensures.first tells store) in
    let outs : c.one-outs.result ≡ c.in-Some-2.item ∷ [] = c.one-outs.ensures in
    ap (λ (rs : List Row). with_first c.put.new.ready (through graph rs (stream rest))) (back ∙ sym (all-left c.put.new.rows))
    ∙ c.put.ensures.later graph (stream rest)
    ∙ ap (λ (rs : List Row). through graph rs (with_first c.one-outs.result (stream rest))) (all-left old ∙ rows)
    ∙ ap (λ (list : List Item). through graph run.rows.items (with_first list (stream rest))) outs
    ∙ ap (λ (list : List Item). through graph run.rows.items (stream list)) (sym gives)
    ∙ ap (λ (ready : List Item). with_first ready (through graph run.rows.items left)) (sym c.requires)

pub returns-in-Some-first_open-clause-same : goal.returns-in-Some-first_open-clause-same
returns-in-Some-first_open-clause-same g c = λ tells store.
    let graph = graph_of (g.R.Reads.state c.args.space.now).records in
    let run = c.args.self.now in
    let left = stream (left_of graph run.source) in
    let old = c.deref_mut-in-Some-first_open.result.now in
    let rows : old ≡ run.rows.items = c.deref_mut-in-Some-first_open.ensures.value in
    let back = written_back c.finish_row.new.rows run.rows.items run.rows.len (c.finish_row.auto.rows ∙ ap length rows) run.rows.ok.0 in
    let none = subst (λ (found : Option Item). GivesFirst graph run.source found c.next.new.self) c.in_default-2.is (c.in_ok-item.ensures.first tells store) in
    ap (λ (rs : List Row). with_first c.finish_row.new.ready (through graph rs (stream (left_of graph c.next.new.self)))) back
    ∙ ap (λ (list : List Item). with_first c.finish_row.new.ready (through graph c.finish_row.new.rows (stream list))) none.1
    ∙ c.in_ok-finish_row.ensures.same graph
    ∙ ap (λ (rs : List Row). through graph rs (stream [])) rows
    ∙ ap (λ (list : List Item). through graph run.rows.items (stream list)) (sym none.0)
    ∙ ap (λ (ready : List Item). with_first ready (through graph run.rows.items left)) (sym c.requires)

pub returns-in-Some-2-clause-allowed : goal.returns-in-Some-2-clause-allowed
returns-in-Some-2-clause-allowed g c =
    let run = c.args.self.now in
    let over = is_over run.source.left in
    let old = c.deref_mut-in-Some-2.result.now in
    let rows : old ≡ run.rows.items = c.deref_mut-in-Some-2.ensures.value in
    let back = written_back c.put.new.rows run.rows.items run.rows.len (c.put.auto.rows ∙ ap length rows) run.rows.ok.0 in
    let going : over ≡ false = not_true over (λ ended. no_item c.in-Some-2.item (sym c.in-Some-2.is ∙ c.in_ok-item.ensures.none ended)) in
    ap (λ (rs : List Row). allowed_by (is_over c.next.new.self.left) (stages_of rs) (length c.put.new.ready)) back
    ∙ ap (λ (b : Bool). allowed_by b (stages_of c.put.new.rows) (length c.put.new.ready)) c.next.ensures.over
    ∙ allowed-sourced over old c.put.new.rows c.put.new.ready c.put.ensures.stages going c.put.ensures.passed
    ∙ ap (λ (rs : List Row). allowed_by over (stages_of rs) 0) rows
    ∙ ap (λ (ready : List Item). allowed_by over (stages_of run.rows.items) (length ready)) (sym c.requires)

pub returns-in-Some-first_open-clause-allowed : goal.returns-in-Some-first_open-clause-allowed
returns-in-Some-first_open-clause-allowed g c =
    let run = c.args.self.now in
    let over = is_over run.source.left in
    let rows : c.deref_mut-in-Some-first_open.result.now ≡ run.rows.items = c.deref_mut-in-Some-first_open.ensures.value in
    let back = written_back c.finish_row.new.rows run.rows.items run.rows.len (c.finish_row.auto.rows ∙ ap length rows) run.rows.ok.0 in
    ap (λ (rs : List Row). allowed_by (is_over c.next.new.self.left) (stages_of rs) (length c.finish_row.new.ready)) back
    ∙ ap (λ (b : Bool). allowed_by b (stages_of c.finish_row.new.rows) (length c.finish_row.new.ready)) c.next.ensures.over
    ∙ c.in_ok-finish_row.ensures.allowed over
    ∙ ap (λ (rs : List Row). allowed_by over (stages_of rs) 0) rows
    ∙ ap (λ (ready : List Item). allowed_by over (stages_of run.rows.items) (length ready)) (sym c.requires)

pub returns-in_err-feed_rows-clause-stops : goal.returns-in_err-feed_rows-clause-stops
returns-in_err-feed_rows-clause-stops g c = λ tells store.
    let graph = graph_of (g.R.Reads.state c.args.space.now).records in
    let run = c.args.self.now in
    let left = stream (left_of graph run.source) in
    let rows : c.deref_mut-then-is_fed.result.now ≡ run.rows.items = c.deref_mut-then-is_fed.ensures.value in
    let p = err_from_is_err_and c.from_residual-in_err-feed_rows.result c.from_residual-in_err-feed_rows.ensures.1 in
    rw (p.1, p.2) (may_stop ⊥ ((through graph c.deref_mut-then-is_fed.result.now left).past ≡ true) (to_come graph run ≡ stream [])
    ((to_come graph run).past ≡ true) c.in_err-feed_rows.field-0.0 (λ none. absurd none)
    (λ past. subst (λ (rs : List Row). (through graph rs left).past ≡ true) rows past) (c.in_err-feed_rows.ensures.stops tells store))

pub returns-clause-cause : goal.returns-clause-cause
returns-clause-cause g c = end_blames _ _ c.in_ok-item.ensures.cause.later

pub returns-then-is_fed-clause-scan : goal.returns-then-is_fed-clause-scan
returns-then-is_fed-clause-scan g c = λ at most scan.
    absurd (clash c.is_fed.result c.if-is_fed.true (c.is_fed.ensures.limit most [] (c.deref-then-not-is_over.ensures.value ∙ scan.rows)))

pub returns-then-is_fed-clause-limit : goal.returns-then-is_fed-clause-limit
returns-then-is_fed-clause-limit g c = λ from most item scan.
    absurd (clash c.is_fed.result c.if-is_fed.true (c.is_fed.ensures.limit (most + 1) (item ∷ []) (c.deref-then-not-is_over.ensures.value ∙ scan.rows)))

pub returns-in-Some-2-clause-limit : goal.returns-in-Some-2-clause-limit
returns-in-Some-2-clause-limit g c = λ from most item scan.
    absurd (idle_none c.deref.result.now (most + 1) item (c.deref.ensures.value ∙ scan.rows) c.in_default.ensures.none)

pub returns-in-Some-first_open-clause-limit : goal.returns-in-Some-first_open-clause-limit
returns-in-Some-first_open-clause-limit g c = λ from most item scan.
    absurd (idle_none c.deref.result.now (most + 1) item (c.deref.ensures.value ∙ scan.rows) c.in_default.ensures.none)

pub returns-in-Some-2-clause-hop : goal.returns-in-Some-2-clause-hop
returns-in-Some-2-clause-hop g c = λ alone vertices.
    let over : is_over c.args.self.now.source.left ≡ true = elim c.else-not-is_over.branch [
      | else-not-is_over-via-then-not-is_over+else-is_fed w ↦
          absurd (clash w.is_fed.result (w.is_fed.ensures.hop (record {
            row = alone.row;
            is = w.deref-then-not-is_over.ensures.value ∙ alone.is;
            idle =
                alone.idle;
            hop = alone.hop;
          })) w.if-is_fed.false)
      | else-not-is_over-via-else-not-is_over w ↦ sym c.is_over.ensures ∙ w.if-not-is_over.false
    ] in
    absurd (no_item c.in-Some-2.item (sym c.in-Some-2.is ∙ c.in_ok-item.ensures.none over))

pub finish_row-requires-clause-quiet : goal.finish_row-requires-clause-quiet
finish_row-requires-clause-quiet g c = subst (λ (rs : List Row). AreQuiet (take c.in-Some-first_open.at rs))
    (c.deref-2.ensures.value ∙ sym c.deref_mut-in-Some-first_open.ensures.value) c.in-Some-first_open.ensures.some.1

pub finish_row-requires-clause-idle : goal.finish_row-requires-clause-idle
finish_row-requires-clause-idle g c = subst AreIdle (c.deref.ensures.value ∙ sym c.deref_mut-in-Some-first_open.ensures.value) c.in_default.ensures.none

pub feed_rows-requires-clause-idle : goal.feed_rows-requires-clause-idle
feed_rows-requires-clause-idle g c = subst AreIdle (c.deref.ensures.value ∙ sym c.deref_mut-then-is_fed.ensures.value) c.in_default.ensures.none

pub put-requires-clause-idle : goal.put-requires-clause-idle
put-requires-clause-idle g c = idle_drop c.deref_mut-in-Some-2.result.now 0
    (subst AreIdle (c.deref.ensures.value ∙ sym c.deref_mut-in-Some-2.ensures.value) c.in_default.ensures.none)
