-- A count of what comes through filters.
use Rattle.std.proofs.Common.{◌≡◌, ◌<◌, ◌+◌, ℕ, suc, zero, Bool, true, false, not, ◌&&◌, ◌||◌, cond, nat_lt, List, []}
use Rattle.std.proofs.Common.{◌∷◌, ◌++◌, length, take, get_or, set, Option, Some, None, is_some, refl, sym, ap, ◌∙◌}
use Rattle.std.proofs.Common.{arith}
use Rattle.std.proofs.lemmas.Bool.{lt-ltb}
use Rattle.std.proofs.lemmas.List.Folds.{list_all-append, list_all_at, list_all_more}
use Rattle.std.specs.Int.{from_bool}
use Rattle.std.specs.List.{filter, flat_map}
use Rattle.plain_graph.specs.Graph.{Graph}
use Rattle.plain_graph.specs.Meaning.{is_some_and, passes}
use Rattle.plain_graph.specs.declared.item.Item.{Item}
use Rattle.node_store.specs.declared.node_row.NodeRow.{NodeRow}
use Rattle.plain_graph.specs.declared.filter.Filter.{Filter}
use Rattle.plain_graph.specs.declared.filter.Filter.TheVariants as filters
use Rattle.plain_graph.specs.declared.item.Item.TheVariants as items
use Rattle.store_rules.specs.Rows.{option_list}
use Rattle.traversal_run.specs.Feeding.{IsCountOf, are_filters, filter_stage, is_filter, passes_rows, passes_stage}
use Rattle.traversal_run.specs.Finding.{vertex_if}
use Rattle.traversal_run.specs.NumberedFilter.{passes_numbered}
use Rattle.traversal_run.specs.Mapping.{filtered}
use Rattle.traversal_run.specs.Row.{AreIdle, AreQuiet, Stream, after_row, have_no_count, last_limit, stages_of, stream, through}
use Rattle.traversal_run.specs.Run.{allowed_by}
use Rattle.traversal_run.specs.Stage.{after_stage, counted, counts_past, is_count, is_open, with_more}
use Rattle.traversal_run.specs.declared.mapping.Mapping.TheVariants as mappings
use Rattle.traversal_run.specs.declared.numbered_filter.NumberedFilter.{NumberedFilter}
use Rattle.traversal_run.specs.declared.row.Row.{Row}
use Rattle.traversal_run.specs.declared.stage.Stage.{Stage}
use Rattle.traversal_run.specs.declared.stage.Stage.TheVariants as stages
use Rattle.traversal_run.proofs.Rows.{idle_take, nothing_through, past_through}

-- ---- rows that are filters

-- one row more
pub filters_more : (rows : List Row) (i : ℕ) (row : Row) → i < length rows → row ≡ get_or rows i row → is_filter row.stage ≡ true
    → are_filters (take i rows) ≡ true → are_filters (take (i + 1) rows) ≡ true
filters_more rows i row lt is one before =
    list_all_more (λ (r : Row). is_filter r.stage) rows i row lt
    ∙ (λ j. before j && (ap (λ (r : Row). is_filter r.stage) (sym is) ∙ one) j)

pub both : (a b : Bool) → a && b ≡ true → (a ≡ true) × (b ≡ true)
both true b is = (refl, is)
both false b is = absurd cc

filter_quiet : (stage : Stage) → is_filter stage ≡ true → is_open stage ≡ false
filter_quiet (stages.Mapped mapping) is = refl
filter_quiet stage is = cc

-- what a filter makes of what comes to it
pub filter_gives : (graph : Graph) (stage : Stage) (list : List Item) → is_filter stage ≡ true
    → after_stage graph stage list ≡ filter (passes_stage graph stage) list
filter_gives graph (stages.Mapped (mappings.Filter test)) list is = by list
  where
    by : (xs : List Item) → flat_map (filtered graph test) xs ≡ filter (passes graph test) xs
    by [] = refl
    by (x ∷ xs) = head (passes graph test x) ∙ ap (λ (rest : List Item). cond (passes graph test x) (x ∷ rest) rest) (by xs)
      where
        head : (b : Bool) → cond b (x ∷ []) [] ++ flat_map (filtered graph test) xs ≡ cond b (x ∷ flat_map (filtered graph test) xs)
            (flat_map (filtered graph test) xs)
        head true = refl
        head false = refl
filter_gives graph stage list is = absurd cc

filter_past : (stage : Stage) (list : List Item) → is_filter stage ≡ true → counts_past stage list ≡ false
filter_past (stages.Mapped mapping) list is = refl
filter_past stage list is = cc

-- one filter after another passes what passes both
filter_both : (p q : Item → Bool) (list : List Item) → filter q (filter p list) ≡ filter (λ item. p item && q item) list
filter_both p q [] = refl
filter_both p q (x ∷ xs) = by (p x) (filter_both p q xs)
  where
    by : (b : Bool) → filter q (filter p xs) ≡ filter (λ item. p item && q item) xs
        → filter q (cond b (x ∷ filter p xs) (filter p xs)) ≡ cond (b && q x) (x ∷ filter (λ item. p item && q item) xs) (filter (λ item. p item && q item) xs)
    by true rest = ap (λ (list : List Item). cond (q x) (x ∷ list) list) rest
    by false rest = rest

filter_all : (list : List Item) → filter (λ item. true) list ≡ list
filter_all [] = refl
filter_all (x ∷ xs) = ap (λ rest. x ∷ rest) (filter_all xs)

-- Passing rows that are filters, one after the other, is passing their filters in turn.
pub through_filters : (graph : Graph) (rows : List Row) (list : List Item) → are_filters rows ≡ true → AreIdle rows
    → through graph rows (stream list) ≡ stream (filter (passes_rows graph rows) list)
through_filters graph [] list are idle = ap stream (sym (filter_all list))
through_filters graph (row ∷ rows) list are idle =
    let is = both (is_filter row.stage) (are_filters rows) are in
    ap (λ waiting. through graph rows (after_row graph (record { stage = row.stage; waiting = waiting }) (stream list))) idle.0
    ∙ (λ i. through graph rows (record { items = filter_gives graph row.stage list is.0 i; past = filter_past row.stage list is.0 i }))
    ∙ through_filters graph rows (filter (passes_stage graph row.stage) list) is.1 idle.1
    ∙ ap stream (filter_both (passes_stage graph row.stage) (passes_rows graph rows) list)

pub filters_quiet : (rows : List Row) → are_filters rows ≡ true → AreQuiet rows
filters_quiet [] are = tt
filters_quiet (row ∷ rows) are = let is = both (is_filter row.stage) (are_filters rows) are in (filter_quiet row.stage is.0, filters_quiet rows is.1)

-- ---- the row that counts what comes through them

-- what a count gives
abbrev count_stream : Bool → ℕ → Stream
count_stream given n = record { items = counted given n; past = not given && nat_lt 9223372036854775807 n }

count_row : (graph : Graph) (row : Row) (n : ℕ) (given : Bool) (list : List Item) → row.stage ≡ stages.Count n given → row.waiting ≡ []
    → after_row graph row (stream list) ≡ count_stream given (n + length list)
count_row graph row n given list is idle = λ i. after_row graph (record { stage = is i; waiting = idle i }) (stream list)

pub counted_same : (given fits : Bool) (n after : ℕ) (list : List Item) → IsCountOf list n fits after → fits || given ≡ true
    → count_stream given (after + 0) ≡ count_stream given (n + length list)
counted_same true fits n after list counts gives = refl
counted_same false true n after list counts gives = let is = counts in ap (count_stream false) (omega arith)
counted_same false false n after list counts gives = absurd cc

counted_past : (given fits : Bool) (n after : ℕ) (list : List Item) → IsCountOf list n fits after → fits || given ≡ false
    → (count_stream given (n + length list)).past ≡ true
counted_past true true n after list counts gives = absurd cc
counted_past true false n after list counts gives = absurd cc
counted_past false true n after list counts gives = absurd cc
counted_past false false n after list counts gives = lt-ltb 9223372036854775807 (n + length list) counts

-- at its place behind others
counted_at : (graph : Graph) (rows : List Row) (at : ℕ) (any last : Row) (old new : Stream) (list : List Item) (n after : ℕ) (given fits : Bool)
    → at < length rows → AreIdle rows → (get_or rows at any).stage ≡ stages.Count n given
    → through graph (take at rows) old ≡ stream list → through graph (take at rows) new ≡ stream [] → IsCountOf list n fits after → fits || given ≡ true
    → through graph (set rows at (record (get_or rows at last) { stage = stages.Count after given })) new ≡ through graph rows old
counted_at graph [] at any last old new list n after given fits lt idle is comes none counts gives = absurd (omega arith)
counted_at graph (row ∷ rows) zero any last old new list n after given fits lt idle is comes none counts gives =
    ap (through graph rows)
    (ap (after_row graph (record row { stage = stages.Count after given })) none
    ∙ count_row graph (record row { stage = stages.Count after given }) after given [] refl idle.0
    ∙ counted_same given fits n after list counts gives
    ∙ sym (count_row graph row n given list is idle.0)
    ∙ ap (after_row graph row) (sym comes))
counted_at graph (row ∷ rows) (suc at) any last old new list n after given fits lt idle is comes none counts gives =
    counted_at graph rows at any last (after_row graph row old) (after_row graph row new) list n after given fits (omega arith) idle.1 is comes none counts
    gives

counted_at_past : (graph : Graph) (rows : List Row) (at : ℕ) (any : Row) (old : Stream) (list : List Item) (n after : ℕ) (given fits : Bool) → at < length rows
    → AreIdle rows → (get_or rows at any).stage ≡ stages.Count n given
    → through graph (take at rows) old ≡ stream list → IsCountOf list n fits after → fits || given ≡ false → (through graph rows old).past ≡ true
counted_at_past graph [] at any old list n after given fits lt idle is comes counts gives = absurd (omega arith)
counted_at_past graph (row ∷ rows) zero any old list n after given fits lt idle is comes counts gives =
    past_through graph rows (after_row graph row old)
    (ap (λ (s : Stream). s.past) (ap (after_row graph row) comes ∙ count_row graph row n given list is idle.0) ∙ counted_past given fits n after list counts
    gives)
counted_at_past graph (row ∷ rows) (suc at) any old list n after given fits lt idle is comes counts gives =
    counted_at_past graph rows at any (after_row graph row old) list n after given fits (omega arith) idle.1 is comes counts gives

module _ (graph : Graph) (rows : List Row) (at : ℕ) (n after : ℕ) (given fits : Bool) (lt : at < length rows) (idle : AreIdle rows)
    (are : are_filters (take at rows) ≡ true) where
  -- The rows after the count took what a source has, where nothing is left of it.
  pub fed_count : (any last : Row) (list rest : List Item) → (get_or rows at any).stage ≡ stages.Count n given
      → IsCountOf (filter (passes_rows graph (take at rows)) list) n fits after → fits || given ≡ true → rest ≡ []
      → through graph (set rows at (record (get_or rows at last) { stage = stages.Count after given })) (stream rest) ≡ through graph rows (stream list)
  fed_count any last list rest is counts gives over =
      counted_at graph rows at any last (stream list) (stream rest) (filter (passes_rows graph (take at rows)) list) n after given fits lt idle is
      (through_filters graph (take at rows) list are (idle_take rows at idle))
      (ap (λ (coming : List Item). through graph (take at rows) (stream coming)) over ∙ nothing_through graph (take at rows) (idle_take rows at idle)
      (filters_quiet (take at rows) are))
      counts gives

  -- the count passes
  pub fed_count_past : (any : Row) (list : List Item) → (get_or rows at any).stage ≡ stages.Count n given
      → IsCountOf (filter (passes_rows graph (take at rows)) list) n fits after → fits || given ≡ false
      → (through graph rows (stream list)).past ≡ true
  fed_count_past any list is counts gives =
      counted_at_past graph rows at any (stream list) (filter (passes_rows graph (take at rows)) list) n after given fits lt idle is
      (through_filters graph (take at rows) list are (idle_take rows at idle)) counts gives

-- a row that counts is one of these
pub one_counts : (rows : List Row) (at : ℕ) (any : Row) (n : ℕ) (given : Bool) → at < length rows → (get_or rows at any).stage ≡ stages.Count n given
    → have_no_count (stages_of rows) ≡ false
one_counts [] at any n given lt is = absurd (omega arith)
one_counts (row ∷ rows) zero any n given lt is = ap (λ stage. not (is_count stage) && have_no_count (stages_of rows)) is
one_counts (row ∷ rows) (suc at) any n given lt is = later (not (is_count row.stage)) (one_counts rows at any n given (omega arith) is)
  where
    later : (a : Bool) → have_no_count (stages_of rows) ≡ false → a && have_no_count (stages_of rows) ≡ false
    later true none = none
    later false none = refl

pub one_still_counts : (rows : List Row) (at : ℕ) (last : Row) (n : ℕ) (given : Bool) → at < length rows
    → have_no_count (stages_of (set rows at (record (get_or rows at last) { stage = stages.Count n given }))) ≡ false
one_still_counts [] at last n given lt = absurd (omega arith)
one_still_counts (row ∷ rows) zero last n given lt = refl
one_still_counts (row ∷ rows) (suc at) last n given lt = later (not (is_count row.stage)) (one_still_counts rows at last n given (omega arith))
  where
    rest : List Row
    rest = set rows at (record (get_or rows at last) { stage = stages.Count n given })

    later : (a : Bool) → have_no_count (stages_of rest) ≡ false → a && have_no_count (stages_of rest) ≡ false
    later true none = none
    later false none = refl

-- ---- the loop over a source

-- a vertex, where there is a row of it
pub row_passes : (id : ℕ) (row : Option NodeRow) (p : Item → Bool) → is_some row ≡ true → is_some_and (vertex_if id row) p ≡ p (items.Vertex id)
row_passes id None p some = absurd cc
row_passes id (Some row) p some = refl

pub no_row_passes : (id : ℕ) (row : Option NodeRow) (p : Item → Bool) → is_some row ≡ false → is_some_and (vertex_if id row) p ≡ false
no_row_passes id None p none = refl
no_row_passes id (Some row) p none = absurd cc

-- an identifier that was taken, and one more where its element passes
taken_more : (p : Item → Bool) (found : Option Item) (passed : Bool) (rest : List Item) (more : ℕ) → passed ≡ is_some_and found p → more ≡ from_bool passed
    → length (filter p (option_list found ++ rest)) ≡ more + length (filter p rest)
taken_more p None passed rest more is one = let none : more ≡ 0 = one ∙ ap from_bool is in omega arith
taken_more p (Some item) passed rest more is one = by (p item) (one ∙ ap from_bool is)
  where
    by : (b : Bool) → more ≡ from_bool b → length (cond b (item ∷ filter p rest) (filter p rest)) ≡ more + length (filter p rest)
    by true e = let yes : more ≡ 1 = e in omega arith
    by false e = let no : more ≡ 0 = e in omega arith

module _ (p : Item → Bool) (all now rest : List Item) (found : Option Item) (passed : Bool) (before so_far more : ℕ)
    (same : so_far + length (filter p now) ≡ before + length (filter p all)) (takes : now ≡ option_list found ++ rest) (is : passed ≡ is_some_and found p)
    (one : more ≡ from_bool passed) where
  one_more : length (filter p now) ≡ more + length (filter p rest)
  one_more = ap (λ (list : List Item). length (filter p list)) takes ∙ taken_more p found passed rest more is one

  pub count_on : (after : ℕ) → after ≡ so_far + more → after + length (filter p rest) ≡ before + length (filter p all)
  count_on after counted = let taken = one_more in omega arith

  pub count_over : 9223372036854775807 < so_far + more → 9223372036854775807 < before + length (filter p all)
  count_over past = let taken = one_more in omega arith

pub count_end : (p : Item → Bool) (all now : List Item) (before so_far : ℕ) → so_far + length (filter p now) ≡ before + length (filter p all) → now ≡ []
    → so_far ≡ before + length (filter p all)
count_end p all now before so_far same none = let long : length (filter p now) ≡ 0 = ap (λ (list : List Item). length (filter p list)) none in omega arith

-- ---- filters with the numbers of their names

and_true : (b : Bool) → b && true ≡ b
and_true true = refl
and_true false = refl

passes_other : (graph : Graph) (stage : Stage) (item : Item) → is_filter stage ≡ false → passes_stage graph stage item ≡ true
passes_other graph (stages.Mapped (mappings.Filter test)) item none = absurd cc
passes_other graph stage item none = refl

module _ (graph : Graph) (list : List NumberedFilter) (i : ℕ) (numbered : NumberedFilter) (item : Item) (lt : i < length list)
    (is : numbered ≡ get_or list i numbered) where
  here : passes graph (get_or list i numbered).filter.now item ≡ passes graph numbered.filter.now item
  here = ap (λ (n : NumberedFilter). passes graph n.filter.now item) (sym is)

  pub passes_more : passes_numbered graph (take i list) item ≡ true → passes graph numbered.filter.now item ≡ true
      → passes_numbered graph (take (i + 1) list) item ≡ true
  passes_more before one = list_all_more (λ (n : NumberedFilter). passes graph n.filter.now item) list i numbered lt ∙ (λ j. before j && (here ∙ one) j)

  pub fails_one : passes graph numbered.filter.now item ≡ false → passes_numbered graph list item ≡ false
  fails_one fails = list_all_at (λ (n : NumberedFilter). passes graph n.filter.now item) list i numbered lt (here ∙ fails)

module _ (graph : Graph) (item : Item) (list : List NumberedFilter) (rows : List Row) (i : ℕ) (row : Row) (lt : i < length rows) (is : row ≡ get_or rows i row)
    (same : passes_numbered graph list item ≡ passes_rows graph (take i rows) item) where
  row_more : passes_rows graph (take (i + 1) rows) item ≡ passes_rows graph (take i rows) item && passes_stage graph row.stage item
  row_more = list_all_more (λ (r : Row). passes_stage graph r.stage item) rows i row lt
      ∙ ap (λ (r : Row). passes_rows graph (take i rows) item && passes_stage graph r.stage item) (sym is)

  -- a row that is a filter, and its numbers
  pub numbered_more : (numbered : NumberedFilter) (test : Filter) → row.stage ≡ filter_stage test → numbered.filter.now ≡ test
      → passes_numbered graph (list ++ numbered ∷ []) item ≡ passes_rows graph (take (i + 1) rows) item
  numbered_more numbered test stage filter =
      list_all-append (λ (n : NumberedFilter). passes graph n.filter.now item) list (numbered ∷ [])
      ∙ (λ j. same j && (and_true (passes graph numbered.filter.now item) ∙ ap (λ (f : Filter). passes graph f item) filter ∙ ap
      (λ (s : Stage). passes_stage graph s item) (sym stage)) j)
      ∙ sym row_more

  -- one that is none
  pub numbered_past : is_filter row.stage ≡ false → passes_numbered graph list item ≡ passes_rows graph (take (i + 1) rows) item
  numbered_past none =
      same ∙ sym (and_true (passes_rows graph (take i rows) item)) ∙ ap (λ b. passes_rows graph (take i rows) item && b)
      (sym (passes_other graph row.stage item none)) ∙ sym row_more

-- where a step counts, it is not known how many results are let through
pub none_allowed : (rows : List Row) (over : Bool) (ready : ℕ) → have_no_count (stages_of rows) ≡ false → allowed_by over (stages_of rows) ready ≡ None
none_allowed [] over ready none = absurd cc
none_allowed (row ∷ rows) over ready none = ap (λ b. cond b (with_more (last_limit (stages_of (row ∷ rows))) ready) None) none
