-- What rows may still read: cut at a place, and after a step of one of them.
use Rattle.std.specs.Prelude.{Result, Ok, Err}
use Rattle.std.specs.Result.{IsErrAnd}
use Rattle.std.proofs.Common.{◌≡◌, ◌<◌, ◌≤◌, ℕ, ◌+◌, suc, zero, Bool, true, List, [], ◌∷◌, ◌++◌, length, take, drop, get_or, set}
use Rattle.std.proofs.Common.{add-one, refl, sym, ap, ◌∙◌, arith}
use Rattle.std.specs.List.{sum_by}
use Rattle.std.proofs.lemmas.List.Sums.{sum_by-cons}
use Rattle.plain_graph.specs.declared.item.Item.{Item}
use Rattle.prop_store.specs.Reading.{ReadsAtMost}
use Rattle.rec_bytes.specs.Space.{State, after_gets}
use Rattle.store_rules.specs.Graph.{graph_of}
use Rattle.store_rules.specs.Views.{Records}
use Rattle.traversal_run.specs.Owing.{Spends, SpendsIf, row_owes, stage_reads, steps_owe}
use Rattle.traversal_run.specs.Row.{AreIdle, AreQuiet}
use Rattle.traversal_run.specs.Stage.{after_stage, is_spent}
use Rattle.traversal_run.specs.declared.row.Row.{Row}
use Rattle.traversal_run.specs.declared.stage.Stage.{Stage}
use Rattle.traversal_run.specs.declared.stage.Stage.TheVariants as stages
use Rattle.traversal_run.proofs.Rows.{idle_at, idle_take, nothing_after, spent_gives}

-- ---- sums

-- what is asked of each item the same way
pub sum_same : (f g : Item → ℕ) (list : List Item) → ((item : Item) → f item ≡ g item) → sum_by f list ≡ sum_by g list
sum_same f g [] same = refl
sum_same f g (item ∷ list) same =
    let one = same item in
    let rest = sum_same f g list same in
    omega (arith, sum_by-cons f item list, sum_by-cons g item list, one, rest)

-- nothing is asked of any
pub sum_none : (f : Item → ℕ) (list : List Item) → ((item : Item) → f item ≡ 0) → sum_by f list ≡ 0
sum_none f [] none = refl
sum_none f (item ∷ list) none = let one = none item in let rest = sum_none f list none in omega (arith, sum_by-cons f item list, one, rest)

-- no row is left out
pub all-left : (rows : List Row) → drop 0 rows ≡ rows
all-left [] = refl
all-left (row ∷ rows) = refl

module _ (records : Records) where
  -- ---- rows cut at a place

  -- the items that come out of rows
  unfoldable pub passed_on : List Row → List Item → List Item
  passed_on [] coming = coming
  passed_on (row ∷ rows) coming = passed_on rows (after_stage (graph_of records) row.stage (row.waiting ++ coming))

  pub owe-cut : (rows : List Row) (at : ℕ) (coming : List Item)
      → steps_owe records rows coming ≡ steps_owe records (take at rows) coming + steps_owe records (drop at rows) (passed_on (take at rows) coming)
  unfolding passed_on
  owe-cut [] zero coming = refl
  owe-cut [] (suc at) coming = refl
  owe-cut (row ∷ rows) zero coming = let all = steps_owe records (row ∷ rows) coming in let same : all ≡ 0 + all = omega arith in same
  owe-cut (row ∷ rows) (suc at) coming =
      let next = after_stage (graph_of records) row.stage (row.waiting ++ coming) in
      let one = row_owes records row coming in
      let rest = owe-cut rows at next in
      let all : one + steps_owe records rows next ≡ (one + steps_owe records (take at rows) next)
      + steps_owe records (drop at rows) (passed_on (take at rows) next) = omega (arith, rest) in
      all

  -- rows at the end of all read nothing
  pub owe-past : (rows : List Row) (at : ℕ) (coming : List Item) → length rows ≤ at → steps_owe records (drop at rows) coming ≡ 0
  owe-past [] zero coming le = refl
  owe-past [] (suc at) coming le = refl
  owe-past (row ∷ rows) zero coming le = absurd (omega arith)
  owe-past (row ∷ rows) (suc at) coming le = owe-past rows at coming (omega arith)

  -- items that were put before a row are those that come to it first
  pub owe-put : (rows : List Row) (at : ℕ) (any : Row) (outs coming : List Item) → AreIdle (drop at rows)
      → steps_owe records (drop at (set rows at (record (get_or rows at any) { waiting = outs }))) coming ≡ steps_owe records (drop at rows) (outs ++ coming)
  owe-put [] zero any outs coming idle = refl
  owe-put [] (suc at) any outs coming idle = refl
  owe-put (row ∷ rows) zero any outs coming idle =
      ap (λ (waiting : List Item). steps_owe records (record row { waiting = waiting } ∷ rows) (outs ++ coming)) (sym idle.0)
  owe-put (row ∷ rows) (suc at) any outs coming idle = owe-put rows at any outs coming idle

  -- ---- after a step of one of them

  -- what a row reads is within what all of them do
  pub owe-at : (rows : List Row) (at : ℕ) (row any : Row) (coming : List Item) → at < length rows → row ≡ get_or rows at any
      → row_owes records row (passed_on (take at rows) coming) ≤ steps_owe records rows coming
  unfolding passed_on
  owe-at [] at row any coming lt is = absurd (omega arith)
  owe-at (first ∷ rows) zero row any coming lt is =
      let same = ap (λ (r : Row). row_owes records r coming) is in omega (arith, same)
  owe-at (first ∷ rows) (suc at) row any coming lt is =
      let rest = owe-at rows at row any (after_stage (graph_of records) first.stage (first.waiting ++ coming)) (omega arith) is in omega (arith, rest)

  owe_suc : (rows : List Row) (at : ℕ) (row new any : Row) (outs coming : List Item) → at < length rows → row ≡ get_or rows at any
      → after_stage (graph_of records) row.stage (row.waiting ++ passed_on (take at rows) coming)
      ≡ outs ++ after_stage (graph_of records) new.stage (new.waiting ++ passed_on (take at rows) coming)
      → (steps_owe records (take (suc at) (set rows at new)) coming
      + steps_owe records (drop (suc at) (set rows at new)) (outs ++ passed_on (take (suc at) (set rows at new)) coming))
      + row_owes records row (passed_on (take at rows) coming)
      ≡ steps_owe records rows coming + row_owes records new (passed_on (take at rows) coming)
  unfolding passed_on
  owe_suc [] at row new any outs coming lt is gives = absurd (omega arith)
  owe_suc (first ∷ rows) zero row new any outs coming lt is gives =
      let same : row_owes records row coming ≡ row_owes records first coming = ap (λ (r : Row). row_owes records r coming) is in
      let later : steps_owe records rows (outs ++ after_stage (graph_of records) new.stage (new.waiting ++ coming))
      ≡ steps_owe records rows (after_stage (graph_of records) first.stage (first.waiting ++ coming)) =
      ap (steps_owe records rows) (sym gives ∙ ap (λ (r : Row). after_stage (graph_of records) r.stage (r.waiting ++ coming)) is) in
      omega (arith, same, later)
  owe_suc (first ∷ rows) (suc at) row new any outs coming lt is gives =
      let rest = owe_suc rows at row new any outs (after_stage (graph_of records) first.stage (first.waiting ++ coming)) (omega arith) is gives in
      omega (arith, rest)

  -- The rows after a step of one of them, and after its items were put before the next.
  pub owe-advanced : (rows later : List Row) (at : ℕ) (row new any : Row) (outs coming : List Item) → at < length rows → row ≡ get_or rows at any
      → after_stage (graph_of records) row.stage (row.waiting ++ passed_on (take at rows) coming)
      ≡ outs ++ after_stage (graph_of records) new.stage (new.waiting ++ passed_on (take at rows) coming)
      → take (at + 1) later ≡ take (at + 1) (set rows at new)
      → ((more : List Item) → steps_owe records (drop (at + 1) later) more ≡ steps_owe records (drop (at + 1) (set rows at new)) (outs ++ more))
      → steps_owe records later coming + row_owes records row (passed_on (take at rows) coming)
      ≡ steps_owe records rows coming + row_owes records new (passed_on (take at rows) coming)
  owe-advanced rows later at row new any outs coming lt is gives front behind =
      let next : at + 1 ≡ suc at = omega arith in
      let all : steps_owe records later coming ≡ steps_owe records (take (suc at) (set rows at new)) coming
      + steps_owe records (drop (suc at) (set rows at new)) (outs ++ passed_on (take (suc at) (set rows at new)) coming) =
      owe-cut later (at + 1) coming
      ∙ (λ i. steps_owe records (front i) coming + behind (passed_on (front i) coming) i)
      ∙ ap (λ n. steps_owe records (take n (set rows at new)) coming
      + steps_owe records (drop n (set rows at new)) (outs ++ passed_on (take n (set rows at new)) coming)) next in
      let step = owe_suc rows at row new any outs coming lt is gives in
      omega (arith, all, step)

  -- ---- a row that takes an item

  -- a count reads nothing
  pub count-owes : (n : ℕ) (given : Bool) (list : List Item) → sum_by (stage_reads records (stages.Count n given)) list ≡ 0
  count-owes n given list = sum_none (stage_reads records (stages.Count n given)) list (λ item. refl)

  -- it pays for the first that waits
  pub owe-taken : (old new : Stage) (waiting rest coming : List Item) (item : Item) → waiting ≡ item ∷ rest
      → ((other : Item) → stage_reads records new other ≡ stage_reads records old other)
      → sum_by (stage_reads records old) (waiting ++ coming) ≡ stage_reads records old item + sum_by (stage_reads records new) (rest ++ coming)
  owe-taken old new waiting rest coming item is asks =
      ap (λ (list : List Item). sum_by (stage_reads records old) (list ++ coming)) is
      ∙ sum_by-cons (stage_reads records old) item (rest ++ coming)
      ∙ ap (λ n. stage_reads records old item + n) (sym (sum_same (stage_reads records new) (stage_reads records old) (rest ++ coming) asks))

  -- ---- where nothing comes

  pub passed_on-quiet : (rows : List Row) → AreIdle rows → AreQuiet rows → passed_on rows [] ≡ []
  unfolding passed_on
  passed_on-quiet [] idle quiet = refl
  passed_on-quiet (row ∷ rows) idle quiet =
      ap (λ (waiting : List Item). passed_on rows (after_stage (graph_of records) row.stage (waiting ++ []))) idle.0
      ∙ ap (passed_on rows) (nothing_after (graph_of records) row.stage quiet.0)
      ∙ passed_on-quiet rows idle.1 quiet.1

  -- the first open row gives what it has
  pub owe-finished : (rows later : List Row) (at : ℕ) (row any : Row) (outs : List Item) (stage : Stage) → at < length rows → row ≡ get_or rows at any
      → AreIdle rows → AreQuiet (take at rows) → after_stage (graph_of records) row.stage [] ≡ outs ++ after_stage (graph_of records) stage []
      → take (at + 1) later ≡ take (at + 1) (set rows at (record row { stage = stage }))
      → ((more : List Item) → steps_owe records (drop (at + 1) later) more
      ≡ steps_owe records (drop (at + 1) (set rows at (record row { stage = stage }))) (outs ++ more))
      → steps_owe records later [] ≡ steps_owe records rows []
  owe-finished rows later at row any outs stage lt is idle quiet gives front behind =
      let new : Row = record row { stage = stage } in
      let comes = passed_on (take at rows) [] in
      let nothing : row.waiting ++ comes ≡ [] =
      ap (λ (waiting : List Item). waiting ++ comes) (idle_at rows at row any lt is idle) ∙ passed_on-quiet (take at rows) (idle_take rows at idle) quiet in
      let all = owe-advanced rows later at row new any outs [] lt is
      (ap (after_stage (graph_of records) row.stage) nothing ∙ gives
      ∙ ap (λ (list : List Item). outs ++ after_stage (graph_of records) stage list) (sym nothing)) front behind in
      let before : row_owes records row comes ≡ 0 = ap (sum_by (stage_reads records row.stage)) nothing in
      let after : row_owes records new comes ≡ 0 = ap (sum_by (stage_reads records stage)) nothing in
      omega (arith, all, before, after)

  -- ---- where a limit lets nothing through

  passed_on_spent : (rows : List Row) (at : ℕ) (row any : Row) (coming : List Item) → at < length rows → row ≡ get_or rows at any → is_spent row.stage ≡ true
      → passed_on (take (suc at) rows) coming ≡ []
  unfolding passed_on
  passed_on_spent [] at row any coming lt is spent = absurd (omega arith)
  passed_on_spent (first ∷ rows) zero row any coming lt is spent =
      spent_gives (graph_of records) first.stage (first.waiting ++ coming) (ap (λ (r : Row). is_spent r.stage) (sym is) ∙ spent)
  passed_on_spent (first ∷ rows) (suc at) row any coming lt is spent =
      passed_on_spent rows at row any (after_stage (graph_of records) first.stage (first.waiting ++ coming)) (omega arith) is spent

  -- the rows after it read no more than all
  pub owe-spent : (rows : List Row) (at : ℕ) (row any : Row) (coming : List Item) → at < length rows → row ≡ get_or rows at any → is_spent row.stage ≡ true
      → steps_owe records (drop (at + 1) rows) [] ≤ steps_owe records rows coming
  owe-spent rows at row any coming lt is spent =
      let none : passed_on (take (at + 1) rows) coming ≡ [] = ap (λ n. passed_on (take n rows) coming) (add-one at)
      ∙ passed_on_spent rows at row any coming lt is spent in
      let all = owe-cut rows (at + 1) coming in
      let rest = ap (steps_owe records (drop (at + 1) rows)) none in
      omega (arith, all, rest)
