-- What a hop at one vertex reads, from its source up to the run.
use Rattle.std.proofs.Common.{◌≡◌, ◌⊎◌, inl, inr, ⊎_elim, ◌<◌, ℕ, Bool, true, false, ◌||◌, nat_eq, None, List, [], ◌∷◌}
use Rattle.std.proofs.Common.{length, get_or, set, refl, sym, ap, ◌∙◌, subst, arith}
use Rattle.std.proofs.lemmas.Cmp.{nat_eq_equiv}
use borrow.Author.Tests.{eqb-true}
use Rattle.plain_graph.specs.Meaning.{is_asked}
use Rattle.plain_graph.specs.declared.item.Item.{Item}
use Rattle.plain_graph.specs.declared.item.Item.TheVariants as items
use Rattle.plain_graph.specs.declared.query.Hop.{Hop}
use Rattle.plain_graph.specs.declared.query.Query.{Query}
use Rattle.plain_graph.specs.declared.query.Step.TheVariants as steps
use Rattle.prop_store.specs.Reading.{ReadsAtMost}
use Rattle.prop_store.proofs.ReadCounts.{reads_more, reads_none, reads_then}
use Rattle.rec_bytes.specs.Space.{State}
use Rattle.rec_bytes.specs.declared.space.Reads.{Ghosts as SpaceGhosts}
use Rattle.traversal_run.specs.Held.{is_hop}
use Rattle.traversal_run.specs.HopRun.{FeedsHop, HasNone, HasOnly, IsHop, IsHopAlone, IsHopQuery, IsReady, MakesHop, reads_for_hop}
use Rattle.traversal_run.specs.Hopping.{hop_reads, reads_at_vertex}
use Rattle.traversal_run.specs.Owing.{stage_reads}
use Rattle.traversal_run.specs.Reading.{IsNamedStore, IsRead}
use Rattle.traversal_run.specs.Source.{TakesId, is_left, is_over}
use Rattle.traversal_run.specs.Stage.{is_open}
use Rattle.traversal_run.specs.Starting.{each, rows_of as steps_rows}
use Rattle.traversal_run.specs.declared.mapping.Mapping.TheVariants as mappings
use Rattle.traversal_run.specs.declared.row.Row.{Row}
use Rattle.traversal_run.specs.declared.run.Run.{Run}
use Rattle.traversal_run.specs.declared.source.Left.{Left}
use Rattle.traversal_run.specs.declared.source.Left.TheVariants.{Among, From, Nothing}
use Rattle.traversal_run.specs.declared.source.Source.{Source}
use Rattle.traversal_run.specs.declared.stage.Stage.{Stage}
use Rattle.traversal_run.specs.declared.stage.Stage.TheVariants as stages

-- ---- the source

same_id : (a : ℕ) → nat_eq a a ≡ true
same_id a = nat_eq_equiv.refl a

off_on : {b : Bool} → b ≡ true → b ≡ false → ⊥
off_on on off = cc

or_on : (b : Bool) → b || true ≡ true
or_on true = refl
or_on false = refl

-- none is left where one is taken of one
pub taken_only : (left rest : Left) (id x : ℕ) → HasOnly left id → TakesId left x rest → (x ≡ id) × HasNone rest
taken_only left rest id x only takes = (is, λ other. none other (is_left rest other) refl)
  where
    is : x ≡ id
    is = eqb-true x id (sym (only x) ∙ takes.among x ∙ ap (λ b. b || is_left rest x) (same_id x))

    none : (other : ℕ) (b : Bool) → is_left rest other ≡ b → is_left rest other ≡ false
    none other false e = e
    none other true e =
        let later = takes.first other e in
        let same : other ≡ id = eqb-true other id (sym (only other) ∙ takes.among other ∙ ap (λ b. nat_eq other x || b) e ∙ or_on (nat_eq other x)) in
        absurd (omega (arith, is))

pub taken_none : (left rest : Left) (x : ℕ) → HasNone left → TakesId left x rest → ⊥
taken_none left rest x none takes = off_on (takes.among x ∙ ap (λ b. b || is_left rest x) (same_id x)) (none x)

pub only_none : (left : Left) (id : ℕ) → HasOnly left id → HasNone left → ⊥
only_none left id only none = off_on (only id ∙ same_id id) (none id)

pub over_none : (left : Left) → is_over left ≡ true → HasNone left
over_none (From from) e = absurd (off_on e refl)
over_none (Among ids) e = absurd (off_on e refl)
over_none Nothing e = λ other. refl

pub ended_none : (old new : Source) → new ≡ record old { left = Nothing } → HasNone new.left
ended_none old new is = λ other. ap (λ (source : Source). is_left source.left other) is

-- ---- the vertices that a step takes

-- the vertex is still to come
pub record HopLeft {R : Type 0} (old now : R) (stage step : Stage) (left : Left) (id : ℕ) : Type 0 where
  pub same : step ≡ stage
  pub only : HasOnly left id
  pub here : now ≡ old

-- it was taken
pub record HopTaken {R : Type 0} (space : SpaceGhosts R) (names : List (List ℕ)) (old now : R) (hop : Hop) (left : Left) (id : ℕ) : Type 0 where
  pub none : HasNone left
  pub cost : space.tells → IsNamedStore (space.state old).records (space.state old).shape names
      → ReadsAtMost (reads_for_hop (space.state old).records hop id) (space.state old) (space.state now)

-- amid the loop
pub record FedHop {R : Type 0} (space : SpaceGhosts R) (names : List (List ℕ)) (stage step : Stage) (old now : R) (before rest : Left) : Type 0 where
  pub one : (id : ℕ) (hop : Hop) → MakesHop stage hop → HasOnly before id → HopLeft old now stage step rest id ⊎ HopTaken space names old now hop rest id
  pub none : HasNone before → HasNone rest × (now ≡ old)

-- an identifier was taken
pub record JustTook {R : Type 0} (space : SpaceGhosts R) (names : List (List ℕ)) (stage : Stage) (old now : R) (before rest : Left) : Type 0 where
  pub one : (id : ℕ) (hop : Hop) → MakesHop stage hop → HasOnly before id → HopTaken space names old now hop rest id
  pub none : HasNone before → ⊥

-- what a step that makes this hop reads
as_hop : (stage : Stage) (hop : Hop) (item : Item) (s t : State) → MakesHop stage hop
    → ReadsAtMost (stage_reads s.records stage item) s t → ReadsAtMost (hop_reads s.records hop item) s t
as_hop stage hop item s t makes reads =
    ⊎_elim (λ (is : stage ≡ stages.Mapped (mappings.Neighbours hop)). subst (λ (step : Stage). ReadsAtMost (stage_reads s.records step item) s t) is reads)
    (λ (is : stage ≡ stages.Mapped (mappings.Incident hop)). subst (λ (step : Stage). ReadsAtMost (stage_reads s.records step item) s t) is reads) makes

module _ {R : Type 0} (space : SpaceGhosts R) (names : List (List ℕ)) (stage : Stage) (old : R) (before : Left) where
  -- it is no vertex in use, or that was not told
  pub took_row : (step : Stage) (now mid : R) (left rest : Left) (x : ℕ) → FedHop space names stage step old now before left → TakesId left x rest
      → ReadsAtMost 1 (space.state now) (space.state mid) → JustTook space names stage old mid before rest
  took_row step now mid left rest x fed takes get = record {
    one = λ id hop makes only.
        ⊎_elim (λ (l : HopLeft old now stage step left id).
        let taken : HopTaken space names old mid hop rest id = record {
          none = (taken_only left rest id x l.only takes).1;
          cost = λ tells store. subst (λ (r : R). ReadsAtMost (reads_for_hop (space.state old).records hop id) (space.state r) (space.state mid)) l.here
              (reads_more 1 (reads_for_hop (space.state old).records hop id) (space.state now) (space.state mid) (omega arith) get);
        } in
        taken)
        (λ (t : HopTaken space names old now hop left id). absurd (taken_none left rest x t.none takes)) (fed.one id hop makes only);
    none = λ none. taken_none left rest x (fed.none none).0 takes;
  }

  -- the step took it
  pub took_step : (step : Stage) (now mid last : R) (left rest : Left) (x : ℕ) → FedHop space names stage step old now before left → TakesId left x rest
      → ReadsAtMost 1 (space.state now) (space.state mid) → IsRead space old mid
      → (space.tells → IsNamedStore (space.state mid).records (space.state mid).shape names
      → ReadsAtMost (stage_reads (space.state mid).records step (items.Vertex x)) (space.state mid) (space.state last))
      → JustTook space names stage old last before rest
  took_step step now mid last left rest x fed takes get read steps = record {
    one = λ id hop makes only.
        ⊎_elim (λ (l : HopLeft old now stage step left id).
        let taken = taken_only left rest id x l.only takes in
        let same : (space.state mid).records ≡ (space.state old).records = ap (λ (s : State). s.records) read.same in
        let done : HopTaken space names old last hop rest id = record {
          none = taken.1;
          cost = λ tells store.
              let there : IsNamedStore (space.state mid).records (space.state mid).shape names = rw read.same store in
              let hops = as_hop stage hop (items.Vertex x) (space.state mid) (space.state last) makes
              (subst (λ (st : Stage). ReadsAtMost (stage_reads (space.state mid).records st (items.Vertex x)) (space.state mid) (space.state last)) l.same
              (steps tells there)) in
              let cost : reads_at_vertex (space.state mid).records hop x ≡ reads_at_vertex (space.state old).records hop id = λ i.
              reads_at_vertex (same i) hop (taken.0 i) in
              let first : ReadsAtMost 1 (space.state old) (space.state mid) = subst (λ (r : R). ReadsAtMost 1 (space.state r) (space.state mid)) l.here get in
              reads_then 1 (reads_at_vertex (space.state old).records hop id) (reads_for_hop (space.state old).records hop id) (space.state old)
              (space.state mid) (space.state last) (omega arith) first
              (subst (λ n. ReadsAtMost n (space.state mid) (space.state last)) cost hops);
        } in
        done)
        (λ (t : HopTaken space names old now hop left id). absurd (taken_none left rest x t.none takes)) (fed.one id hop makes only);
    none = λ none. taken_none left rest x (fed.none none).0 takes;
  }

  pub fed_took : (step : Stage) (now : R) (rest : Left) → JustTook space names stage old now before rest → FedHop space names stage step old now before rest
  fed_took step now rest took = record { one = λ id hop makes only. inr (took.one id hop makes only); none = λ none. absurd (took.none none) }

module _ {R : Type 0} (space : SpaceGhosts R) (names : List (List ℕ)) (stage : Stage) (old : R) (before : Source) where
  pub feeds_took : (now : R) (after : Source) → after.edges ≡ before.edges → JustTook space names stage old now before.left after.left
      → FeedsHop space names stage old now before after
  feeds_took now after edges took = record {
    edges = edges;
    one = λ id hop makes only. let taken = took.one id hop makes only in (taken.none, taken.cost);
    none = λ none. absurd (took.none none);
  }

  -- no more is to come
  pub feeds_over : (step : Stage) (now : R) (left : Left) (after : Source) → after.edges ≡ before.edges → HasNone after.left
      → FedHop space names stage step old now before.left left → FeedsHop space names stage old now before after
  feeds_over step now left after edges none fed = record {
    edges = edges;
    one = λ id hop makes only.
        let cost : space.tells → IsNamedStore (space.state old).records (space.state old).shape names
        → ReadsAtMost (reads_for_hop (space.state old).records hop id) (space.state old) (space.state now)
        = ⊎_elim (λ (l : HopLeft old now stage step left id). λ tells store. subst (λ (r : R). ReadsAtMost (reads_for_hop (space.state old).records hop id)
        (space.state old) (space.state r)) (sym l.here) (reads_none (reads_for_hop (space.state old).records hop id) (space.state old)))
        (λ (t : HopTaken space names old now hop left id). t.cost) (fed.one id hop makes only) in
        (none, cost);
    none = λ before_none. (none, (fed.none before_none).1);
  }

  -- nothing was to come
  pub feeds_nothing : (now : R) (after : Source) → now ≡ old → after.edges ≡ before.edges → HasNone before.left → HasNone after.left
      → FeedsHop space names stage old now before after
  feeds_nothing now after same edges none over = record {
    edges = edges;
    one = λ id hop makes only. absurd (only_none before.left id only none);
    none = λ before_none. (over, same);
  }

-- ---- rows

or_none : (b : Bool) → b || false ≡ b
or_none true = refl
or_none false = refl

-- the one that is asked for
pub one_asked : (left : Left) (ids : List ℕ) (id : ℕ) → ids ≡ id ∷ [] → ((other : ℕ) → is_left left other ≡ is_asked ids other) → HasOnly left id
one_asked left ids id is asked other = asked other ∙ ap (λ list. is_asked list other) is ∙ or_none (nat_eq other id)

pub idle_alone : (rows : List Row) → IsHopAlone rows → (at : ℕ) (any : Row) → at < length rows → ¬ ((get_or rows at any).waiting ≡ []) → ⊥
idle_alone rows alone at any lt waits =
    let lt_one : at < 1 = subst (λ (rs : List Row). at < length rs) alone.is lt in
    let none : at ≡ 0 = omega arith in
    waits (ap (λ n. (get_or rows n any).waiting) none ∙ ap (λ (rs : List Row). (get_or rs 0 any).waiting) alone.is ∙ alone.idle)

-- a count and a filter are no hops
pub no_count : (stage : Stage) (so_far : ℕ) (given : Bool) → stage ≡ stages.Count so_far given → is_hop stage ≡ true → ⊥
no_count stage so_far given is hop = off_on hop (ap is_hop is)

hop_shut : (stage : Stage) → is_hop stage ≡ true → is_open stage ≡ false
hop_shut (stages.Mapped mapping) hop = refl
hop_shut (stages.Dedup seen) hop = refl
hop_shut (stages.Count so_far given) hop = absurd (off_on hop refl)
hop_shut (stages.Limit left) hop = refl
hop_shut (stages.Order key descending kept given) hop = absurd (off_on hop refl)

pub quiet_alone : (rows : List Row) → IsHopAlone rows → (at : ℕ) (any : Row) → at < length rows → is_open (get_or rows at any).stage ≡ true → ⊥
quiet_alone rows alone at any lt opens =
    let lt_one : at < 1 = subst (λ (rs : List Row). at < length rs) alone.is lt in
    let none : at ≡ 0 = omega arith in
    off_on opens (ap (λ n. is_open (get_or rows n any).stage) none ∙ ap (λ (rs : List Row). is_open (get_or rs 0 any).stage) alone.is ∙ hop_shut alone.row.stage
    alone.hop)

-- the only row is one still, after it was fed
pub alone_fed : (rows later : List Row) (any : Row) (stage : Stage) (outs : List Item) (alone : IsHopAlone rows)
    → is_hop stage ≡ is_hop (get_or rows 0 any).stage
    → ((next : Row) → later ≡ set (set rows 0 (record (get_or rows 0 any) { stage = stage })) 1
    (record (get_or (set rows 0 (record (get_or rows 0 any) { stage = stage })) 1 next) { waiting = outs }))
    → IsHopAlone later
alone_fed rows later any stage outs alone hops put = record {
  row = record alone.row { stage = stage };
  is = put any ∙ (λ i. set (set (alone.is i) 0 (record (get_or (alone.is i) 0 any) { stage = stage })) 1
      (record (get_or (set (alone.is i) 0 (record (get_or (alone.is i) 0 any) { stage = stage })) 1 any) { waiting = outs }));
  idle = alone.idle;
  hop = hops ∙ ap (λ (rs : List Row). is_hop (get_or rs 0 any).stage) alone.is ∙ alone.hop;
}

-- ---- the run

-- so many reads at most
abbrev pub HopCost : {R : Type 0} → SpaceGhosts R → List (List ℕ) → R → R → Hop → ℕ → Type 0
HopCost space names old now hop id = space.tells → IsNamedStore (space.state old).records (space.state old).shape names
    → ReadsAtMost (reads_for_hop (space.state old).records hop id) (space.state old) (space.state now)

-- amid a call that gives the first result: the hop is still to be made, or was made
pub record HopState {R : Type 0} (space : SpaceGhosts R) (names : List (List ℕ)) (old now : R) (first run : Run) : Type 0 where
  pub one : (id : ℕ) (hop : Hop) → IsHop first id hop → ((now ≡ old) × IsHop run id hop) ⊎ (HopCost space names old now hop id × IsReady run)
  pub ready : IsReady first → (now ≡ old) × IsReady run

-- what a call that stops has read
pub record HopStops {R : Type 0} (space : SpaceGhosts R) (names : List (List ℕ)) (old now : R) (first : Run) : Type 0 where
  pub one : (id : ℕ) (hop : Hop) → IsHop first id hop → HopCost space names old now hop id
  pub ready : IsReady first → now ≡ old

module _ {R : Type 0} (space : SpaceGhosts R) (names : List (List ℕ)) (old now : R) (first run : Run) where
  -- so many reads where it stops
  pub hop_stops : HopState space names old now first run → HopStops space names old now first
  hop_stops state = record {
    one = λ id hop is tells store.
        ⊎_elim (λ (here : (now ≡ old) × IsHop run id hop). subst (λ (r : R). ReadsAtMost (reads_for_hop (space.state old).records hop id) (space.state old)
        (space.state r)) (sym here.0) (reads_none (reads_for_hop (space.state old).records hop id) (space.state old)))
        (λ (made : HopCost space names old now hop id × IsReady run). made.0 tells store) (state.one id hop is);
    ready = λ is. (state.ready is).0;
  }

  -- a turn where no result is ready
  module _ (state : HopState space names old now first run) (next : R) (new : Run)
      (turn : (alone : IsHopAlone run.rows.items) → run.source.edges ≡ false → FeedsHop space names alone.row.stage now next run.source new.source)
      (same : new.stopped ≡ run.stopped) (read : IsRead space old now) where
    cost_on : (id : ℕ) (hop : Hop) → IsHop first id hop → HopCost space names old next hop id
    cost_on id hop is tells store =
        ⊎_elim (λ (here : (now ≡ old) × IsHop run id hop).
        let run_is = here.1 in
        let fed = (turn run_is.alone run_is.vertices).one id hop run_is.makes run_is.only in
        subst (λ (r : R). ReadsAtMost (reads_for_hop (space.state r).records hop id) (space.state r) (space.state next)) here.0
        (fed.1 tells (subst (λ (r : R). IsNamedStore (space.state r).records (space.state r).shape names) (sym here.0) store)))
        (λ (made : HopCost space names old now hop id × IsReady run).
        let fed = (turn made.1.alone made.1.vertices).none made.1.none in
        subst (λ (r : R). ReadsAtMost (reads_for_hop (space.state old).records hop id) (space.state old) (space.state r)) (sym fed.1)
        (made.0 tells store)) (state.one id hop is)

    pub turn_stops : HopStops space names old next first
    turn_stops = record {
      one = cost_on;
      ready = λ is. let before = state.ready is in let fed = (turn before.1.alone before.1.vertices).none before.1.none in fed.1 ∙ before.0;
    }

    ready_on : IsHopAlone new.rows.items → IsReady run → IsReady new
    ready_on alone before =
        let fed = turn before.alone before.vertices in
        record { vertices = fed.edges ∙ before.vertices; none = (fed.none before.none).0; alone = alone; going = same ∙ before.going }

    pub turn_on : ((alone : IsHopAlone run.rows.items) → run.source.edges ≡ false → IsHopAlone new.rows.items) → HopState space names old next first new
    turn_on on = record {
      one = λ id hop is.
          let cost = cost_on id hop is in
          let ready : IsReady new =
          ⊎_elim (λ (here : (now ≡ old) × IsHop run id hop).
          let run_is = here.1 in
          let fed = turn run_is.alone run_is.vertices in
          let then : IsReady new = record {
            vertices = fed.edges ∙ run_is.vertices;
            none = (fed.one id hop run_is.makes run_is.only).0;
            alone = on run_is.alone
                run_is.vertices;
            going = same ∙ run_is.going;
          } in
          then)
          (λ (made : HopCost space names old now hop id × IsReady run). ready_on (on made.1.alone made.1.vertices) made.1) (state.one id hop is) in
          inr (cost, ready);
      ready = λ is.
          let before = state.ready is in
          let fed = (turn before.1.alone before.1.vertices).none before.1.none in
          (fed.1 ∙ before.0, ready_on (on before.1.alone before.1.vertices) before.1);
    }

-- before the first turn
pub hop_first : {R : Type 0} (space : SpaceGhosts R) (names : List (List ℕ)) (old : R) (first : Run) → HopState space names old old first first
hop_first space names old first = record { one = λ id hop is. inl (refl, is); ready = λ is. (refl, is) }

-- a run that differs in what is ready alone
ready_like : (run new : Run) → new.source ≡ run.source → new.rows.items ≡ run.rows.items → new.stopped ≡ run.stopped → IsReady run → IsReady new
ready_like run new source rows stopped is = record {
  vertices = ap (λ (s : Source). s.edges) source ∙ is.vertices;
  none = λ other. ap (λ (s : Source). is_left s.left other) source ∙ is.none other;
  alone = record { row = is.alone.row; is = rows ∙ is.alone.is; idle = is.alone.idle; hop = is.alone.hop };
  going = stopped ∙ is.going;
}

-- a result that was ready is given
pub hop_gives : {R : Type 0} (space : SpaceGhosts R) (names : List (List ℕ)) (old now : R) (first run new : Run) (item : Item) (rest : List Item)
    → run.ready ≡ item ∷ rest
    → new.source ≡ run.source → new.rows.items ≡ run.rows.items → new.stopped ≡ run.stopped → HopState space names old now first run
    → ((id : ℕ) (hop : Hop) → IsHop first id hop → HopCost space names old now hop id × IsReady new) × (IsReady first → (now ≡ old) × IsReady new)
hop_gives space names old now first run new item rest takes source rows stopped state = (
  λ id hop is.
      ⊎_elim (λ (here : (now ≡ old) × IsHop run id hop). absurd (empty (sym here.1.ready ∙ takes)))
      (λ (made : HopCost space names old now hop id × IsReady run). (made.0, ready_like run new source rows stopped made.1)) (state.one id hop is),
  λ is. let before = state.ready is in (before.0, ready_like run new source rows stopped before.1),
)
  where
    empty : [] ≡ item ∷ rest → ⊥
    empty e = cc

-- the run of a hop at one vertex
pub hop_begins : (run : Run) (query : Query) (id : ℕ) (hop : Hop) → IsHopQuery query id hop → (run.source.edges ≡ false) × HasOnly run.source.left id
    → run.rows.items ≡ steps_rows query.steps → run.ready ≡ [] → run.stopped ≡ None → IsHop run id hop
hop_begins run query id hop is source rows ready going =
    ⊎_elim (λ (one : query.steps ≡ steps.Neighbours hop ∷ []).
    let there : IsHop run id hop = record {
      vertices = source.0;
      only = source.1;
      alone = record { row = each (mappings.Neighbours hop); is = rows ∙ ap steps_rows one; idle = refl; hop = refl };
      makes = inl refl;
      ready = ready;
      going = going;
    } in
    there)
    (λ (one : query.steps ≡ steps.Incident hop ∷ []).
    let there : IsHop run id hop = record {
      vertices = source.0;
      only = source.1;
      alone = record { row = each (mappings.Incident hop); is = rows ∙ ap steps_rows one; idle = refl; hop = refl };
      makes = inr refl;
      ready = ready;
      going = going;
    } in
    there) is.steps
