-- Steps that take the items of a source.
use Rattle.std.proofs.Common.{◌≡◌, cond, ◌<◌, ℕ, ◌+◌, Bool, true, false, not, ◌&&◌, List, [], ◌∷◌, ◌++◌}
use Rattle.std.proofs.Common.{length, take, drop, get_or, set, Option, Some, None, is_some, refl, sym, ap, ◌∙◌, subst}
use Rattle.std.proofs.Common.{arith}
use Rattle.std.specs.Int.{from_bool}
use Rattle.std.specs.List.{flat_map}
use Rattle.plain_graph.specs.Graph.{Graph}
use Rattle.plain_graph.specs.Meaning.{passes}
use Rattle.plain_graph.specs.declared.filter.Filter.{Filter}
use Rattle.node_store.specs.declared.node_row.NodeRow.{NodeRow}
use Rattle.plain_graph.specs.declared.item.Item.{Item}
use Rattle.plain_graph.specs.declared.item.Item.TheVariants as items
use Rattle.store_rules.specs.Rows.{option_list}
use Rattle.traversal_run.specs.Feeding.{Feeds, filter_stage}
use Rattle.store_rules.specs.Graph.{graph_of}
use Rattle.store_rules.specs.Views.{Records}
use Rattle.traversal_run.specs.Finding.{element_at, vertex_if}
use Rattle.traversal_run.specs.Held.{ArePlain}
use Rattle.traversal_run.specs.Mapping.{filtered}
use Rattle.traversal_run.specs.Row.{AreIdle, Stream, after_row, have_no_count, stages_of, stream, through, with_first}
use Rattle.traversal_run.specs.Source.{GivesFirst, TakesId, left_of}
use Rattle.traversal_run.specs.Stage.{Takes, after_stage, counted, counts_past, with_more}
use Rattle.traversal_run.specs.declared.row.Row.{Row}
use Rattle.traversal_run.specs.declared.source.Left.{Left}
use Rattle.traversal_run.specs.declared.source.Left.TheVariants.{Nothing}
use Rattle.traversal_run.specs.declared.source.Source.{Source}
use Rattle.traversal_run.specs.declared.stage.Stage.{Stage}
use Rattle.traversal_run.proofs.HeldSteps.{plain_uncounted}
use Rattle.traversal_run.proofs.LeftRows.{left-takes}
use Rattle.traversal_run.proofs.Rows.{left_of-over, past_through, through_cut}

-- a source that was ended has nothing
pub ended : (graph : Graph) (old new : Source) → new ≡ record old { left = Nothing } → left_of graph new ≡ []
ended graph old new is = ap (left_of graph) is ∙ left_of-over graph old.edges

-- ---- a count

-- an element that was taken, and one more where it is in use
counts_more : (graph : Graph) (source now rest : Source) (found : Option Item) (used : Bool) (before so_far more : ℕ)
    → so_far + length (left_of graph now) ≡ before + length (left_of graph source)
    → left_of graph now ≡ option_list found ++ left_of graph rest → used ≡ is_some found → more ≡ from_bool used
    → so_far + more + length (left_of graph rest) ≡ before + length (left_of graph source)
counts_more graph source now rest None used before so_far more same takes some one =
    let long : length (left_of graph now) ≡ length (left_of graph rest) = ap length takes in
    let none : more ≡ 0 = one ∙ ap from_bool some in
    omega arith
counts_more graph source now rest (Some item) used before so_far more same takes some one =
    let long : length (left_of graph now) ≡ length (item ∷ left_of graph rest) = ap length takes in
    let is : more ≡ 1 = one ∙ ap from_bool some in
    omega arith

pub counts_on : (graph : Graph) (source now rest : Source) (found : Option Item) (used : Bool) (before so_far more after : ℕ)
    → so_far + length (left_of graph now) ≡ before + length (left_of graph source)
    → left_of graph now ≡ option_list found ++ left_of graph rest → used ≡ is_some found → more ≡ from_bool used → after ≡ so_far + more
    → after + length (left_of graph rest) ≡ before + length (left_of graph source)
counts_on graph source now rest found used before so_far more after same takes some one counted =
    ap (λ n. n + length (left_of graph rest)) counted ∙ counts_more graph source now rest found used before so_far more same takes some one

pub counts_passes : (graph : Graph) (source now rest : Source) (found : Option Item) (used : Bool) (before so_far more : ℕ)
    → so_far + length (left_of graph now) ≡ before + length (left_of graph source)
    → left_of graph now ≡ option_list found ++ left_of graph rest → used ≡ is_some found → more ≡ from_bool used → 9223372036854775807 < so_far + more
    → 9223372036854775807 < before + length (left_of graph source)
counts_passes graph source now rest found used before so_far more same takes some one past =
    let all = counts_more graph source now rest found used before so_far more same takes some one in omega arith

pub counts_end : (graph : Graph) (source now rest : Source) (before so_far : ℕ) → so_far + length (left_of graph now) ≡ before + length (left_of graph source)
    → left_of graph now ≡ [] → rest ≡ record now { left = Nothing } → (so_far ≡ before + length (left_of graph source)) × (left_of graph rest ≡ [])
counts_end graph source now rest before so_far same none is =
    let long : length (left_of graph now) ≡ 0 = ap length none in (omega arith, ended graph now rest is)

-- ---- another step

-- the step takes one more item
pub feeds_more : (graph : Graph) (source now rest : Source) (old stage new : Stage) (item : Item) (outs : List Item) → Feeds graph source old [] now stage
    → left_of graph now ≡ item ∷ left_of graph rest → Takes graph stage item outs new → Feeds graph source old outs rest new
feeds_more graph source now rest old stage new item outs feeds gives takes =
    let more = takes (left_of graph rest) in
    (feeds.0 ∙ ap (after_stage graph stage) gives ∙ more.0, feeds.1 ∙ ap (counts_past stage) gives ∙ more.1)

-- it gave nothing
pub feeds_on : (graph : Graph) (source now : Source) (old stage : Stage) (outs : List Item) → outs ≡ [] → Feeds graph source old outs now stage
    → Feeds graph source old [] now stage
feeds_on graph source now old stage outs none feeds = subst (λ (list : List Item). Feeds graph source old list now stage) none feeds

-- nothing is left
pub feeds_end : (graph : Graph) (source now rest : Source) (old stage : Stage) (outs : List Item) → outs ≡ [] → Feeds graph source old [] now stage
    → left_of graph now ≡ [] → left_of graph rest ≡ []
    → Feeds graph source old outs rest stage
feeds_end graph source now rest old stage outs nothing feeds none end =
    let same = none ∙ sym end in
    subst (λ (list : List Item). Feeds graph source old list rest stage) (sym nothing)
    (feeds.0 ∙ ap (after_stage graph stage) same, feeds.1 ∙ ap (counts_past stage) same)

-- ---- rows

fed_row : (graph : Graph) (source rest : Source) (row : Row) (outs : List Item) (stage : Stage) → row.waiting ≡ []
    → Feeds graph source row.stage outs rest stage
    → after_row graph row (stream (left_of graph source)) ≡ with_first outs (after_row graph (record row { stage = stage }) (stream (left_of graph rest)))
fed_row graph source rest row outs stage none feeds =
    ap (λ waiting. after_row graph (record row { waiting = waiting }) (stream (left_of graph source))) none
    ∙ (λ i. record { items = feeds.0 i; past = feeds.1 i })
    ∙ ap (λ waiting. with_first outs (after_row graph (record { stage = stage; waiting = waiting }) (stream (left_of graph rest)))) (sym none)

-- the rows after the first one took of the source, and after its items were put before the next
pub fed : (graph : Graph) (source rest : Source) (rows later : List Row) (ready : List Item) (row any : Row) (outs : List Item) (stage : Stage)
    → 0 < length rows → row ≡ get_or rows 0 any → AreIdle rows
    → Feeds graph source row.stage outs rest stage
    → take 1 later ≡ take 1 (set rows 0 (record row { stage = stage }))
    → ((more : Stream) → with_first ready (through graph (drop 1 later) more) ≡ through graph (drop 1 (set rows 0 (record row { stage = stage })))
    (with_first outs more))
    → with_first ready (through graph later (stream (left_of graph rest))) ≡ through graph rows (stream (left_of graph source))
fed graph source rest [] later ready row any outs stage lt is idle feeds front behind = absurd (omega arith)
fed graph source rest (first ∷ rows) later ready row any outs stage lt is idle feeds front behind =
    let none : row.waiting ≡ [] = ap (λ (r : Row). r.waiting) is ∙ idle.0 in
    ap (with_first ready) (through_cut graph later 1 (stream (left_of graph rest)))
    ∙ behind (through graph (take 1 later) (stream (left_of graph rest)))
    ∙ ap (λ list. through graph rows (with_first outs (through graph list (stream (left_of graph rest))))) front
    ∙ ap (through graph rows) (sym (fed_row graph source rest row outs stage none feeds))
    ∙ ap (λ (r : Row). through graph rows (after_row graph r (stream (left_of graph source)))) is

-- where the first row's count passes, it does on the way through the rows
pub fed_past : (graph : Graph) (source : Source) (rows : List Row) (row any : Row) → 0 < length rows → row ≡ get_or rows 0 any → AreIdle rows
    → counts_past row.stage (left_of graph source) ≡ true
    → (through graph rows (stream (left_of graph source))).past ≡ true
fed_past graph source [] row any lt is idle past = absurd (omega arith)
fed_past graph source (first ∷ rows) row any lt is idle past =
    past_through graph rows (after_row graph first (stream (left_of graph source)))
    (ap (λ waiting. counts_past first.stage (waiting ++ left_of graph source)) idle.0 ∙ ap (λ (r : Row). counts_past r.stage (left_of graph source)) (sym is)
    ∙ past)

-- what a filter gives for an item
pub filter_takes : (graph : Graph) (test : Filter) (item : Item) (outs : List Item) (passed : Bool) → passed ≡ passes graph test item
    → outs ≡ cond passed (item ∷ []) []
    → Takes graph (filter_stage test) item outs (filter_stage test)
filter_takes graph test item outs passed is gives = λ coming.
    (ap (λ list. list ++ flat_map (filtered graph test) coming) (ap (λ b. cond b (item ∷ []) []) (sym is) ∙ sym gives), refl)

-- the source gave nothing
pub none_left : (graph : Graph) (now next rest : Source) (item : Option Item) → item ≡ None → GivesFirst graph now item next
    → rest ≡ record next { left = Nothing }
    → (left_of graph now ≡ []) × (left_of graph rest ≡ [])
none_left graph now next rest item none gives is =
    let gave = subst (λ (found : Option Item). GivesFirst graph now found next) none gives in
    (gave.0, ended graph next rest is)

-- ---- vertices

-- the identifier that was taken is that of a vertex, or of none
pub gives_vertex : (records : Records) (now : Source) (left : Left) (id : ℕ) (row : Option NodeRow) → now.edges ≡ false → TakesId now.left id left
    → element_at records false id ≡ vertex_if id row → is_some row ≡ true
    → left_of (graph_of records) now ≡ items.Vertex id ∷ left_of (graph_of records) (record now { left = left })
gives_vertex records now left id None no_edges takes is some = absurd cc
gives_vertex records now left id (Some row) no_edges takes is some =
    left-takes records now.edges now.left left id takes ∙ ap (λ found. option_list found ++ left_of (graph_of records) (record now { left = left }))
    (ap (λ e. element_at records e id) no_edges ∙ is)

pub gives_none : (records : Records) (now : Source) (left : Left) (id : ℕ) (row : Option NodeRow) → now.edges ≡ false → TakesId now.left id left
    → element_at records false id ≡ vertex_if id row → is_some row ≡ false
    → left_of (graph_of records) now ≡ left_of (graph_of records) (record now { left = left })
gives_none records now left id (Some row) no_edges takes is none = absurd cc
gives_none records now left id None no_edges takes is none =
    left-takes records now.edges now.left left id takes ∙ ap (λ found. option_list found ++ left_of (graph_of records) (record now { left = left }))
    (ap (λ e. element_at records e id) no_edges ∙ is)

-- so nothing was given
pub feeds_past : (graph : Graph) (source now rest : Source) (old stage : Stage) → left_of graph now ≡ left_of graph rest → Feeds graph source old [] now stage
    → Feeds graph source old [] rest stage
feeds_past graph source now rest old stage same feeds = (feeds.0 ∙ ap (after_stage graph stage) same, feeds.1 ∙ ap (counts_past stage) same)

-- a limit of a step that gave nothing stays
pub limit_stays : (after before : Option ℕ) (outs : List Item) → outs ≡ [] → with_more after (length outs) ≡ before → after ≡ before
limit_stays None before outs none same = same
limit_stays (Some n) before outs none same =
    let long : length outs ≡ 0 = ap length none in
    let all : n ≡ n + length outs = omega arith in
    ap (λ m. Some m) all ∙ same

-- plain steps do not count
pub plain_no_count : (rows : List Row) → ArePlain rows → have_no_count (stages_of rows) ≡ true
plain_no_count [] plain = refl
plain_no_count (row ∷ rows) plain = (λ i. not (plain_uncounted row.stage plain.0 i) && plain_no_count rows plain.1 i)
