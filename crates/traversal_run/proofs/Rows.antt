-- Rows of steps, cut at a place.
use Rattle.std.proofs.Common.{◌≡◌, ◌<◌, ℕ, ◌+◌, suc, zero, false, List, [], ◌∷◌, ◌++◌, length, take, drop, get_or, set}
use Rattle.std.proofs.Common.{true, Bool, not, ◌&&◌, ◌||◌, map, add-one, refl, sym, ap, ◌∙◌, subst, arith}
use borrow.Author.Tests.{eqb-true}
use Rattle.std.specs.List.{filter, list_all}
use Rattle.plain_graph.specs.Graph.{Graph}
use Rattle.plain_graph.specs.Meaning.{edge_item, vertex_of}
use Rattle.plain_graph.specs.declared.item.Item.{Item}
use Rattle.traversal_run.specs.declared.row.Row.{Row}
use Rattle.traversal_run.specs.declared.stage.Stage.{Stage}
use Rattle.traversal_run.specs.declared.stage.Stage.TheVariants as stages
use Rattle.traversal_run.specs.Row.{Advances, AreIdle, AreQuiet, PassesAt, Stream, after_row, stream, through, with_first}
use Rattle.traversal_run.specs.Source.{elements_left}
use Rattle.traversal_run.specs.declared.source.Left.TheVariants.{Nothing}
use Rattle.traversal_run.specs.Stage.{Finishes, after_stage, counts_past, is_count, is_open, is_spent}

quiet_suc : (rows : List Row) (i : ℕ) (row : Row) → i < length rows → row ≡ get_or rows i row → is_open row.stage ≡ false → AreQuiet (take i rows)
    → AreQuiet (take (suc i) rows)
quiet_suc [] i row lt is quiet before = absurd (omega arith)
quiet_suc (first ∷ rows) zero row lt is quiet before = (subst (λ (r : Row). is_open r.stage ≡ false) is quiet, tt)
quiet_suc (first ∷ rows) (suc i) row lt is quiet before = (before.0, quiet_suc rows i row (omega arith) is quiet before.1)

pub quiet_more : (rows : List Row) (i : ℕ) (row : Row) → i < length rows → row ≡ get_or rows i row → is_open row.stage ≡ false → AreQuiet (take i rows)
    → AreQuiet (take (i + 1) rows)
quiet_more rows i row lt is quiet before = let same : suc i ≡ i + 1 = omega arith in
    subst (λ n. AreQuiet (take n rows)) same (quiet_suc rows i row lt is quiet before)

pub idle_more : (rows : List Row) (i : ℕ) (row : Row) → i < length rows → row ≡ get_or rows i row → row.waiting ≡ [] → AreIdle (drop (suc i) rows)
    → AreIdle (drop i rows)
idle_more [] i row lt is idle behind = absurd (omega arith)
idle_more (first ∷ rows) zero row lt is idle behind = (subst (λ (r : Row). r.waiting ≡ []) is idle, behind)
idle_more (first ∷ rows) (suc i) row lt is idle behind = idle_more rows i row (omega arith) is idle behind

pub through_cut : (graph : Graph) (rows : List Row) (at : ℕ) (coming : Stream)
    → through graph rows coming ≡ through graph (drop at rows) (through graph (take at rows) coming)
through_cut graph [] zero coming = refl
through_cut graph [] (suc at) coming = refl
through_cut graph (row ∷ rows) zero coming = refl
through_cut graph (row ∷ rows) (suc at) coming = through_cut graph rows at (after_row graph row coming)

advanced_row : (graph : Graph) (row new : Row) (outs : List Item) (coming : Stream) → Advances graph row coming.items outs new
    → after_row graph row coming ≡ with_first outs (after_row graph new coming)
advanced_row graph row new outs coming advances = λ i. record { items = advances.0 i; past = coming.past || advances.1 i }

-- behind a row that gives these items and becomes the new one
advanced_suc : (graph : Graph) (rows : List Row) (at : ℕ) (row new any : Row) (outs : List Item) (coming : Stream) → at < length rows → row ≡ get_or rows at any
    → Advances graph row (through graph (take at rows) coming).items outs new
    → through graph (drop (suc at) (set rows at new)) (with_first outs (through graph (take (suc at) (set rows at new)) coming)) ≡ through graph rows coming
advanced_suc graph [] at row new any outs coming lt is advances = absurd (omega arith)
advanced_suc graph (first ∷ rows) zero row new any outs coming lt is advances =
    ap (through graph rows) (sym (advanced_row graph row new outs coming advances) ∙ ap (λ (r : Row). after_row graph r coming) is)
advanced_suc graph (first ∷ rows) (suc at) row new any outs coming lt is advances =
    advanced_suc graph rows at row new any outs (after_row graph first coming) (omega arith) is advances

-- The rows after a step of one of them, and after its items were put before the next.
pub advanced : (graph : Graph) (rows later : List Row) (ready : List Item) (at : ℕ) (row new any : Row) (outs : List Item) (coming : Stream) → at < length rows
    → row ≡ get_or rows at any
    → Advances graph row (through graph (take at rows) coming).items outs new
    → take (at + 1) later ≡ take (at + 1) (set rows at new)
    → ((more : Stream) → with_first ready (through graph (drop (at + 1) later) more) ≡ through graph (drop (at + 1) (set rows at new)) (with_first outs more))
    → with_first ready (through graph later coming) ≡ through graph rows coming
advanced graph rows later ready at row new any outs coming lt is advances front behind =
    let next : at + 1 ≡ suc at = omega arith in
    ap (with_first ready) (through_cut graph later (at + 1) coming)
    ∙ behind (through graph (take (at + 1) later) coming)
    ∙ ap (λ list. through graph (drop (at + 1) (set rows at new)) (with_first outs (through graph list coming))) front
    ∙ ap (λ n. through graph (drop n (set rows at new)) (with_first outs (through graph (take n (set rows at new)) coming))) next
    ∙ advanced_suc graph rows at row new any outs coming lt is advances

pub nothing_after : (graph : Graph) (stage : Stage) → is_open stage ≡ false → after_stage graph stage [] ≡ []
nothing_after graph (stages.Mapped mapping) quiet = refl
nothing_after graph (stages.Dedup seen) quiet = refl
nothing_after graph (stages.Limit zero) quiet = refl
nothing_after graph (stages.Limit (suc left)) quiet = refl
nothing_after graph (stages.Order key descending kept true) quiet = refl
nothing_after graph (stages.Order key descending kept false) quiet = cc
nothing_after graph (stages.Count so_far true) quiet = refl
nothing_after graph (stages.Count so_far false) quiet = cc

no_count : (stage : Stage) → is_open stage ≡ false → counts_past stage [] ≡ false
no_count (stages.Mapped mapping) quiet = refl
no_count (stages.Dedup seen) quiet = refl
no_count (stages.Limit left) quiet = refl
no_count (stages.Order key descending kept given) quiet = refl
no_count (stages.Count so_far true) quiet = refl
no_count (stages.Count so_far false) quiet = cc

pub nothing_through : (graph : Graph) (rows : List Row) → AreIdle rows → AreQuiet rows → through graph rows (stream []) ≡ stream []
nothing_through graph [] idle quiet = refl
nothing_through graph (row ∷ rows) idle quiet =
    ap (λ waiting. through graph rows (after_row graph (record { stage = row.stage; waiting = waiting }) (stream []))) idle.0
    ∙ (λ i. through graph rows (record { items = nothing_after graph row.stage quiet.0 i; past = no_count row.stage quiet.0 i }))
    ∙ nothing_through graph rows idle.1 quiet.1

pub idle_take : (rows : List Row) (at : ℕ) → AreIdle rows → AreIdle (take at rows)
idle_take [] zero idle = tt
idle_take [] (suc at) idle = tt
idle_take (row ∷ rows) zero idle = tt
idle_take (row ∷ rows) (suc at) idle = (idle.0, idle_take rows at idle.1)

pub idle_drop : (rows : List Row) (at : ℕ) → AreIdle rows → AreIdle (drop at rows)
idle_drop [] zero idle = tt
idle_drop [] (suc at) idle = tt
idle_drop (row ∷ rows) zero idle = idle
idle_drop (row ∷ rows) (suc at) idle = idle_drop rows at idle.1

pub idle_at : (rows : List Row) (at : ℕ) (row any : Row) → at < length rows → row ≡ get_or rows at any → AreIdle rows → row.waiting ≡ []
idle_at [] at row any lt is idle = absurd (omega arith)
idle_at (first ∷ rows) zero row any lt is idle = ap (λ (r : Row). r.waiting) is ∙ idle.0
idle_at (first ∷ rows) (suc at) row any lt is idle = idle_at rows at row any (omega arith) is idle.1

-- a row that is the first open one, where nothing more comes
pub finished : (graph : Graph) (rows : List Row) (at : ℕ) (row any : Row) (outs : List Item) (stage : Stage) → at < length rows → row ≡ get_or rows at any
    → AreIdle rows → AreQuiet (take at rows) → Finishes graph row.stage outs stage
    → Advances graph row (through graph (take at rows) (stream [])).items outs (record { stage = stage; waiting = row.waiting })
finished graph rows at row any outs stage lt is idle quiet finishes =
    let nothing = nothing_through graph (take at rows) (idle_take rows at idle) quiet in
    let coming : row.waiting ++ (through graph (take at rows) (stream [])).items ≡ [] =
    ap (λ w. w ++ (through graph (take at rows) (stream [])).items) (idle_at rows at row any lt is idle) ∙ ap (λ (s : Stream). s.items) nothing in (
      ap (after_stage graph row.stage) coming ∙ finishes.0 ∙ ap (λ list. outs ++ after_stage graph stage list) (sym coming),
      ap (counts_past row.stage) coming
          ∙ finishes.1 ∙ ap (counts_past stage) (sym coming),
    )

-- Where no item waits, none does behind a row with another step.
pub idle_behind : (rows : List Row) (at : ℕ) (new : Row) → AreIdle rows → AreIdle (drop (at + 1) (set rows at new))
idle_behind rows at new idle = let next : suc at ≡ at + 1 = omega arith in subst (λ n. AreIdle (drop n (set rows at new))) next (behind_suc rows at idle)
  where
    behind_suc : (list : List Row) (i : ℕ) → AreIdle list → AreIdle (drop (suc i) (set list i new))
    behind_suc [] i are = are
    behind_suc (row ∷ list) zero are = are.1
    behind_suc (row ∷ list) (suc i) are = behind_suc list i are.1

-- the end: nothing is ready, no item waits, no step is open, and nothing comes
pub ends_at : (graph : Graph) (ready coming : List Item) (rows : List Row) → ready ≡ [] → coming ≡ [] → AreIdle rows → AreQuiet rows
    → with_first ready (through graph rows (stream coming)) ≡ stream []
ends_at graph ready coming rows none end idle quiet = ap (λ list. with_first list (through graph rows (stream coming))) none
    ∙ ap (λ list. through graph rows (stream list)) end ∙ nothing_through graph rows idle quiet

or_true : (p b : Bool) → p ≡ true → p || b ≡ true
or_true p b is = ap (λ (x : Bool). x || b) is

true_or : (p b : Bool) → b ≡ true → p || b ≡ true
true_or true b is = refl
true_or false b is = is

-- a count that passed stays passed
pub past_through : (graph : Graph) (rows : List Row) (coming : Stream) → coming.past ≡ true → (through graph rows coming).past ≡ true
past_through graph [] coming past = past
past_through graph (row ∷ rows) coming past = past_through graph rows (after_row graph row coming)
    (or_true coming.past (counts_past row.stage (row.waiting ++ coming.items)) past)

-- where a row's count passes, it does on the way through the rows
pub passes_through : (graph : Graph) (rows : List Row) (at : ℕ) (row any : Row) (coming : Stream) → at < length rows → row ≡ get_or rows at any → PassesAt row
    → (through graph rows coming).past ≡ true
passes_through graph [] at row any coming lt is passes = absurd (omega arith)
passes_through graph (first ∷ rows) zero row any coming lt is passes =
    past_through graph rows (after_row graph first coming) (true_or coming.past (counts_past first.stage (first.waiting ++ coming.items))
    (subst PassesAt is passes coming.items))
passes_through graph (first ∷ rows) (suc at) row any coming lt is passes =
    passes_through graph rows at row any (after_row graph first coming) (omega arith) is passes

pub spent_gives : (graph : Graph) (stage : Stage) (coming : List Item) → is_spent stage ≡ true → after_stage graph stage coming ≡ []
spent_gives graph (stages.Limit zero) [] spent = refl
spent_gives graph (stages.Limit zero) (item ∷ coming) spent = refl
spent_gives graph (stages.Limit (suc left)) coming spent = let none = eqb-true (suc left) 0 spent in absurd (omega (arith, none))
spent_gives graph stage coming spent = cc

spent_counts_none : (stage : Stage) (coming : List Item) → is_spent stage ≡ true → counts_past stage coming ≡ false
spent_counts_none (stages.Count so_far given) coming spent = cc
spent_counts_none stage coming spent = refl

counts_none : (stage : Stage) (coming : List Item) → is_count stage ≡ false → counts_past stage coming ≡ false
counts_none (stages.Count so_far given) coming none = cc
counts_none stage coming none = refl

or_none : (p b : Bool) → b ≡ false → p || b ≡ p
or_none true b none = refl
or_none false b none = none

both_true : (a b : Bool) → not a && b ≡ true → (a ≡ false) × (b ≡ true)
both_true true b is = cc
both_true false b is = (refl, is)

-- nothing comes through a limit that lets nothing through, and no count before it passes if there is none
pub through_spent : (graph : Graph) (rows : List Row) (at : ℕ) (row any : Row) (coming : Stream) → at < length rows → row ≡ get_or rows at any
    → is_spent row.stage ≡ true
    → list_all (λ (r : Row). not (is_count r.stage)) (take at rows) ≡ true
    → through graph (take (suc at) rows) coming ≡ record { items = []; past = coming.past }
through_spent graph [] at row any coming lt is spent none = absurd (omega arith)
through_spent graph (first ∷ rows) zero row any coming lt is spent none =
    let here : is_spent first.stage ≡ true = ap (λ (r : Row). is_spent r.stage) (sym is) ∙ spent in
    λ i. record {
      items = spent_gives graph first.stage (first.waiting ++ coming.items) here i;
      past = or_none coming.past (counts_past first.stage
          (first.waiting ++ coming.items)) (spent_counts_none first.stage (first.waiting ++ coming.items) here) i;
    }
through_spent graph (first ∷ rows) (suc at) row any coming lt is spent none =
    let both = both_true (is_count first.stage) (list_all (λ (r : Row). not (is_count r.stage)) (take at rows)) none in
    through_spent graph rows at row any (after_row graph first coming) (omega arith) is spent both.1
    ∙ (λ i. record {
      items = [];
      past = or_none coming.past (counts_past first.stage (first.waiting ++ coming.items)) (counts_none first.stage
          (first.waiting ++ coming.items) both.0) i;
    })

-- so the rows up to it may be left out
pub through-cut : (graph : Graph) (rows : List Row) (at : ℕ) (row any : Row) (coming : List Item) → at < length rows → row ≡ get_or rows at any
    → is_spent row.stage ≡ true
    → list_all (λ (r : Row). not (is_count r.stage)) (take at rows) ≡ true → through graph (drop (at + 1) rows) (stream []) ≡ through graph rows (stream coming)
through-cut graph rows at row any coming lt is spent none =
    ap (λ n. through graph (drop n rows) (stream [])) (add-one at)
    ∙ ap (through graph (drop (suc at) rows)) (sym (through_spent graph rows at row any (stream coming) lt is spent none))
    ∙ sym (through_cut graph rows (suc at) (stream coming))

none_pass : {E : Type 0} (es : List E) → filter (λ (e : E). false) es ≡ []
none_pass [] = refl
none_pass (e ∷ es) = none_pass es

-- a source that is over gives nothing
pub left_of-over : (graph : Graph) (edges : Bool) → elements_left graph edges Nothing ≡ []
left_of-over graph false = ap (map vertex_of) (none_pass graph.nodes)
left_of-over graph true = ap (map edge_item) (none_pass graph.edges)
