-- What rows may still read with a source: after a step took of it, and after a count did.
use Rattle.std.proofs.Common.{◌≡◌, ◌<◌, ◌≤◌, ℕ, ◌+◌, suc, zero, Bool, true, false, ◌||◌, nat_eq, cond, List, [], ◌∷◌, ◌++◌, length, map, take, drop}
use Rattle.std.proofs.Common.{get_or, set, refl, sym, ap, ◌∙◌, arith}
use Rattle.std.proofs.lemmas.Cmp.{nat_eq_equiv}
use Rattle.std.proofs.lemmas.Bool.{le-leb}
use Rattle.std.specs.List.{filter, list_any, sum_by}
use Rattle.plain_graph.specs.Graph.{Edge, Graph, Node, empty_graph}
use Rattle.plain_graph.specs.Meaning.{edge_item, vertex_of}
use Rattle.plain_graph.specs.Properties.{no_properties}
use Rattle.plain_graph.specs.declared.item.Item.{Item}
use Rattle.store_rules.specs.Graph.{graph_of}
use Rattle.store_rules.specs.Views.{Records}
use Rattle.traversal_run.specs.Feeding.{IsCountOf, are_filters, passes_rows}
use Rattle.traversal_run.specs.Owing.{source_owes, stage_reads, steps_owe}
use Rattle.traversal_run.specs.Row.{AreIdle, AreQuiet, Stream, after_row, stream, through}
use Rattle.traversal_run.specs.Source.{elements_left, is_left, left_count, left_of}
use Rattle.traversal_run.specs.Stage.{after_stage, counted}
use Rattle.traversal_run.specs.declared.row.Row.{Row}
use Rattle.traversal_run.specs.declared.source.Left.{Left}
use Rattle.traversal_run.specs.declared.source.Left.TheVariants.{Among, From, Nothing}
use Rattle.traversal_run.specs.declared.source.Source.{Source}
use Rattle.traversal_run.specs.declared.stage.Stage.{Stage}
use Rattle.traversal_run.specs.declared.stage.Stage.TheVariants as stages
use Rattle.traversal_run.proofs.FilteredCounts.{counted_same, filters_quiet, through_filters}
use Rattle.traversal_run.proofs.OwedRows.{count-owes, owe-cut, passed_on, passed_on-quiet}
use Rattle.traversal_run.proofs.Rows.{idle_take, nothing_after}

module _ (records : Records) where
  -- ---- a step that took of a source

  owe_first : (row : Row) (rows : List Row) (list : List Item) → row.waiting ≡ []
      → steps_owe records (row ∷ rows) list
      ≡ sum_by (stage_reads records row.stage) list + steps_owe records rows (after_stage (graph_of records) row.stage list)
  owe_first row rows list idle = ap (λ (waiting : List Item). steps_owe records (record row { waiting = waiting } ∷ rows) list) idle

  pub owe-fed : (rows later : List Row) (row any : Row) (outs list rest : List Item) (stage : Stage) → 0 < length rows → row ≡ get_or rows 0 any → AreIdle rows
      → after_stage (graph_of records) row.stage list ≡ outs ++ after_stage (graph_of records) stage rest
      → take 1 later ≡ take 1 (set rows 0 (record row { stage = stage }))
      → ((more : List Item) → steps_owe records (drop 1 later) more ≡ steps_owe records (drop 1 (set rows 0 (record row { stage = stage }))) (outs ++ more))
      → steps_owe records later rest + sum_by (stage_reads records row.stage) list
      ≡ steps_owe records rows list + sum_by (stage_reads records stage) rest
  unfolding passed_on
  owe-fed [] later row any outs list rest stage lt is idle gives front behind = absurd (omega arith)
  owe-fed (first ∷ rows) later row any outs list rest stage lt is idle gives front behind =
      let new : Row = record row { stage = stage } in
      let none : row.waiting ≡ [] = ap (λ (r : Row). r.waiting) is ∙ idle.0 in
      let cut : steps_owe records later rest ≡ steps_owe records (new ∷ []) rest + steps_owe records rows (outs ++ passed_on records (new ∷ []) rest) =
      owe-cut records later 1 rest
      ∙ (λ i. steps_owe records (front i) rest + behind (passed_on records (front i) rest) i) in
      let one = owe_first new [] rest none in
      let next : passed_on records (new ∷ []) rest ≡ after_stage (graph_of records) stage rest =
      ap (λ (waiting : List Item). after_stage (graph_of records) stage (waiting ++ rest)) none in
      let later_same : steps_owe records rows (outs ++ passed_on records (new ∷ []) rest)
      ≡ steps_owe records rows (after_stage (graph_of records) row.stage list) =
      ap (λ (coming : List Item). steps_owe records rows (outs ++ coming)) next ∙ ap (steps_owe records rows) (sym gives) in
      let before = ap (λ (r : Row). steps_owe records (r ∷ rows) list) is in
      let all = owe_first row rows list none in
      omega (arith, cut, one, later_same, before, all)

  -- what the first row reads is within what all of them do
  pub owe-head : (rows : List Row) (row any : Row) (list : List Item) → 0 < length rows → row ≡ get_or rows 0 any → AreIdle rows
      → sum_by (stage_reads records row.stage) list ≤ steps_owe records rows list
  owe-head [] row any list lt is idle = absurd (omega arith)
  owe-head (first ∷ rows) row any list lt is idle =
      let none : row.waiting ≡ [] = ap (λ (r : Row). r.waiting) is ∙ idle.0 in
      let before = ap (λ (r : Row). steps_owe records (r ∷ rows) list) is in
      let all = owe_first row rows list none in
      omega (arith, before, all)

  -- ---- where nothing comes

  pub owe-nothing : (rows : List Row) → AreIdle rows → AreQuiet rows → steps_owe records rows [] ≡ 0
  owe-nothing [] idle quiet = refl
  owe-nothing (row ∷ rows) idle quiet =
      let all = owe_first row rows [] idle.0 in
      let next = ap (steps_owe records rows) (nothing_after (graph_of records) row.stage quiet.0) in
      let rest = owe-nothing rows idle.1 quiet.1 in
      omega (arith, all, next, rest)

  -- ---- a count that took all of a source

  passed_on-through : (rows : List Row) (coming : Stream) → passed_on records rows coming.items ≡ (through (graph_of records) rows coming).items
  unfolding passed_on
  passed_on-through [] coming = refl
  passed_on-through (row ∷ rows) coming = passed_on-through rows (after_row (graph_of records) row coming)

  -- A count reads nothing, and gives the rows after it the same as it would have.
  counted_at : (rows : List Row) (at : ℕ) (any last : Row) (list : List Item) (n after : ℕ) (given fits : Bool) → at < length rows → AreIdle rows
      → (get_or rows at any).stage ≡ stages.Count n given → IsCountOf list n fits after → fits || given ≡ true
      → steps_owe records (drop at (set rows at (record (get_or rows at last) { stage = stages.Count after given }))) [] ≡ steps_owe records (drop at rows) list
  counted_at [] at any last list n after given fits lt idle is counts gives = absurd (omega arith)
  counted_at (row ∷ rows) zero any last list n after given fits lt idle is counts gives =
      let now : Row = record row { stage = stages.Count after given } in
      let later = owe_first now rows [] idle.0 in
      let before = owe_first row rows list idle.0 in
      let one = ap (λ (stage : Stage). sum_by (stage_reads records stage) list) is in
      let none = count-owes records n given list in
      let next : steps_owe records rows (counted given (after + 0)) ≡ steps_owe records rows (after_stage (graph_of records) row.stage list) =
      ap (λ (s : Stream). steps_owe records rows s.items) (counted_same given fits n after list counts gives)
      ∙ ap (λ (stage : Stage). steps_owe records rows (after_stage (graph_of records) stage list)) (sym is) in
      omega (arith, later, before, one, none, next)
  counted_at (row ∷ rows) (suc at) any last list n after given fits lt idle is counts gives =
      counted_at rows at any last list n after given fits (omega arith) idle.1 is counts gives

  take_set : (rows : List Row) (at : ℕ) (new : Row) → take at (set rows at new) ≡ take at rows
  take_set [] zero new = refl
  take_set [] (suc at) new = refl
  take_set (row ∷ rows) zero new = refl
  take_set (row ∷ rows) (suc at) new = ap (λ (rest : List Row). row ∷ rest) (take_set rows at new)

  -- The rows after the count took what a source has, where nothing is left of it, and before that.
  pub owe-counted : (rows : List Row) (at : ℕ) (any last : Row) (list rest : List Item) (n after : ℕ) (given fits : Bool) → at < length rows → AreIdle rows
      → are_filters (take at rows) ≡ true → (get_or rows at any).stage ≡ stages.Count n given
      → IsCountOf (filter (passes_rows (graph_of records) (take at rows)) list) n fits after → fits || given ≡ true → rest ≡ []
      → steps_owe records (set rows at (record (get_or rows at last) { stage = stages.Count after given })) rest + steps_owe records (take at rows) list
      ≡ steps_owe records rows list
  owe-counted rows at any last list rest n after given fits lt idle are is counts gives over =
      let front = take at rows in
      let first = idle_take rows at idle in
      let quiet = filters_quiet front are in
      let new = set rows at (record (get_or rows at last) { stage = stages.Count after given }) in
      let comes : passed_on records front list ≡ filter (passes_rows (graph_of records) front) list =
      passed_on-through front (stream list) ∙ ap (λ (s : Stream). s.items) (through_filters (graph_of records) front list are first) in
      let before : steps_owe records rows list ≡ steps_owe records front list
      + steps_owe records (drop at rows) (filter (passes_rows (graph_of records) front) list) =
      owe-cut records rows at list ∙ ap (λ (coming : List Item). steps_owe records front list + steps_owe records (drop at rows) coming) comes in
      let now : steps_owe records new rest ≡ steps_owe records front [] + steps_owe records (drop at new) [] =
      ap (steps_owe records new) over ∙ owe-cut records new at []
      ∙ ap (λ (rs : List Row). steps_owe records rs [] + steps_owe records (drop at new) (passed_on records rs []))
      (take_set rows at (record (get_or rows at last) { stage = stages.Count after given }))
      ∙ ap (λ (coming : List Item). steps_owe records front [] + steps_owe records (drop at new) coming) (passed_on-quiet records front first quiet) in
      let none = owe-nothing front first quiet in
      let later = counted_at rows at any last (filter (passes_rows (graph_of records) front) list) n after given fits lt idle is counts gives in
      omega (arith, before, now, none, later)

  -- the first rows read no more than all
  pub owe-front : (rows : List Row) (at : ℕ) (list : List Item) → steps_owe records (take at rows) list ≤ steps_owe records rows list
  owe-front rows at list = let all = owe-cut records rows at list in omega (arith, all)

-- ---- a source that has nothing, whatever the graph

has_left : (edges : Bool) (left : Left) (id : ℕ) → is_left left id ≡ true → ((graph : Graph) → elements_left graph edges left ≡ []) → ⊥
has_left false left id is none =
    let node : Node = record { id = id; label = []; properties = no_properties } in
    let some : vertex_of node ∷ [] ≡ [] = ap (λ (b : Bool). map vertex_of (cond b (node ∷ []) [])) (sym is) ∙ none (record empty_graph { nodes = node ∷ [] }) in
    cc
has_left true left id is none =
    let edge : Edge = record { id = id; label = []; from = 0; to = 0; properties = no_properties } in
    let some : edge_item edge ∷ [] ≡ [] = ap (λ (b : Bool). map edge_item (cond b (edge ∷ []) [])) (sym is) ∙ none (record empty_graph { edges = edge ∷ [] }) in
    cc

none_counted : (edges : Bool) (left : Left) (mark : ℕ) → ((graph : Graph) → elements_left graph edges left ≡ []) → left_count mark left ≡ 0
none_counted edges (From from) mark none = absurd (has_left edges (From from) from (le-leb from from (omega arith)) none)
none_counted edges (Among []) mark none = refl
none_counted edges (Among (id ∷ ids)) mark none =
    absurd (has_left edges (Among (id ∷ ids)) id (ap (λ (b : Bool). b || list_any (nat_eq id) ids) (nat_eq_equiv.refl id)) none)
none_counted edges Nothing mark none = refl

-- no identifier is left of it either
pub owes-none : (records : Records) (source : Source) → ((graph : Graph) → left_of graph source ≡ []) → source_owes records source ≡ 0
owes-none records source none = none_counted source.edges source.left _ none
