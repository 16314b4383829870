-- A limit that is the last step, and how many items it still lets through.
use Rattle.std.proofs.Common.{◌≡◌, ◌<◌, ◌≤◌, ℕ, ◌+◌, ◌-◌, suc, zero, Bool, true, false, not, ◌&&◌, cond, Option, None}
use Rattle.std.proofs.Common.{Some, List, [], ◌∷◌, ◌++◌, length, take, drop, get_or, set, map, add-one, add-zero}
use Rattle.std.proofs.Common.{zero-add, refl, sym, ap, ◌∙◌, ⊎_elim, arith}
use borrow.Author.Tests.{eqb-true}
use Rattle.std.proofs.Math.ListN.{get_or-map}
use Rattle.std.specs.Bool.{IsTrue}
use Rattle.std.specs.List.{list_all, slice_get}
use Rattle.std.proofs.lemmas.Option.{get_or_from_slice_get, slice_get_within}
use Rattle.std.proofs.lemmas.Bool.{cases_lt}
use Rattle.std.proofs.lemmas.List.{drop-map, length-append, length-map, length-set, map-append, map-set, take-map}
use Rattle.std.proofs.lemmas.List.Folds.{list_all-map}
use Rattle.plain_graph.specs.declared.item.Item.{Item}
use Rattle.plain_graph.specs.declared.query.BodyStep.{BodyStep}
use Rattle.plain_graph.specs.declared.query.BodyStep.TheVariants as bodies
use Rattle.plain_graph.specs.declared.query.Step.{Step}
use Rattle.plain_graph.specs.declared.query.Step.TheVariants as steps
use Rattle.traversal_run.specs.Row.{have_no_count, last_limit, stages_of}
use Rattle.traversal_run.specs.Run.{allowed_by}
use Rattle.traversal_run.specs.Stage.{is_count, is_spent, is_zero, limit_left, with_more}
use Rattle.traversal_run.specs.Starting.{body_row, is_counting, limit_of, repeat_rows, rows_of, rows_of_step, step_limit}
use Rattle.traversal_run.specs.declared.row.Row.{Row}
use Rattle.traversal_run.specs.declared.stage.Stage.{Stage}
use Rattle.traversal_run.specs.declared.stage.Stage.TheVariants as stages

with_more_none : (o : Option ℕ) → with_more o 0 ≡ o
with_more_none None = refl
with_more_none (Some n) = ap (λ m. Some m) (add-zero n)

-- a step that takes another's place counts where that did
no_count-set : (steps : List Stage) (at : ℕ) (new any : Stage) → at < length steps → is_count new ≡ is_count (get_or steps at any)
    → have_no_count (set steps at new) ≡ have_no_count steps
no_count-set [] at new any lt same = absurd (omega arith)
no_count-set (step ∷ steps) zero new any lt same = λ i. not (same i) && have_no_count steps
no_count-set (step ∷ steps) (suc at) new any lt same = ap (λ b. not (is_count step) && b) (no_count-set steps at new any (omega arith) same)

-- whether rows of steps count
pub no_count-rows : (rows : List Row) → list_all (λ (row : Row). not (is_count row.stage)) rows ≡ have_no_count (stages_of rows)
no_count-rows rows = sym (list_all-map (λ (step : Stage). not (is_count step)) (λ (row : Row). row.stage) rows)

last_behind : (step : Stage) (steps : List Stage) → 0 < length steps → last_limit (step ∷ steps) ≡ last_limit steps
last_behind step [] some = absurd (omega arith)
last_behind step (next ∷ steps) some = refl

-- the last of the steps
pub last_at : (steps : List Stage) (at : ℕ) (any : Stage) → length steps ≡ suc at → last_limit steps ≡ limit_left (get_or steps at any)
last_at [] at any long = absurd (omega arith)
last_at (step ∷ []) zero any long = refl
last_at (step ∷ []) (suc at) any long = absurd (omega arith)
last_at (step ∷ next ∷ steps) zero any long = absurd (omega arith)
last_at (step ∷ next ∷ steps) (suc at) any long = last_at (next ∷ steps) at any (omega arith)

last_set : (steps : List Stage) (at : ℕ) (new : Stage) → length steps ≡ suc at → last_limit (set steps at new) ≡ limit_left new
last_set [] at new long = absurd (omega arith)
last_set (step ∷ []) zero new long = refl
last_set (step ∷ []) (suc at) new long = absurd (omega arith)
last_set (step ∷ next ∷ steps) zero new long = absurd (omega arith)
last_set (step ∷ next ∷ steps) (suc at) new long =
    last_behind step (set (next ∷ steps) at new) (omega (arith, length-set (next ∷ steps) at new)) ∙ last_set (next ∷ steps) at new (omega arith)

-- an earlier step may change
last_other : (steps : List Stage) (at : ℕ) (new : Stage) → suc at < length steps → last_limit (set steps at new) ≡ last_limit steps
last_other [] at new lt = absurd (omega arith)
last_other (step ∷ []) at new lt = absurd (omega arith)
last_other (step ∷ next ∷ steps) zero new lt = refl
last_other (step ∷ next ∷ steps) (suc at) new lt =
    last_behind step (set (next ∷ steps) at new) (omega (arith, length-set (next ∷ steps) at new)) ∙ last_other (next ∷ steps) at new (omega arith)

pub allowed_some : (over : Bool) (steps : List Stage) (ready : ℕ) → 0 < length steps
    → allowed_by over steps ready ≡ cond (have_no_count steps) (with_more (last_limit steps) ready) None
allowed_some over [] ready some = absurd (omega arith)
allowed_some over (step ∷ steps) ready some = refl

-- A step gives items and goes on as the new one: the last step's are ready, those of another go to the next step.
module _ (steps : List Stage) (at : ℕ) (new any : Stage) (outs ready : ℕ) (within : at < length steps)
    (limits : with_more (limit_left new) outs ≡ limit_left (get_or steps at any)) (counts : is_count new ≡ is_count (get_or steps at any))
    (passed : at + 1 < length steps → ready ≡ 0) (given : length steps ≤ at + 1 → ready ≡ outs) where
  same_limit : with_more (last_limit (set steps at new)) ready ≡ with_more (last_limit steps) 0
  same_limit = ⊎_elim
      (λ (lt : at + 1 < length steps). ap (with_more (last_limit (set steps at new))) (passed lt) ∙ ap (λ o. with_more o 0) (last_other steps at new
      (omega arith)))
      (λ (le : length steps ≤ at + 1).
      let long : length steps ≡ suc at = omega arith in
      ap (with_more (last_limit (set steps at new))) (given le) ∙ ap (λ o. with_more o outs) (last_set steps at new long) ∙ limits
      ∙ sym (last_at steps at any long) ∙ sym (with_more_none (last_limit steps)))
      (cases_lt (at + 1) (length steps))

  pub allowed-set : (over : Bool) → allowed_by over (set steps at new) ready ≡ allowed_by over steps 0
  allowed-set over =
      allowed_some over (set steps at new) ready (omega (arith, length-set steps at new))
      ∙ (λ i. cond (no_count-set steps at new any within counts i) (same_limit i) None)
      ∙ sym (allowed_some over steps 0 (omega arith))

-- the step of a row
stage_at : (rows : List Row) (at : ℕ) (row any : Row) → row ≡ get_or rows at any → get_or (stages_of rows) at any.stage ≡ row.stage
stage_at rows at row any is = get_or-map (λ (r : Row). r.stage) rows at any ∙ ap (λ (r : Row). r.stage) (sym is)

-- the same of rows of steps
pub allowed-row : (rows later : List Row) (at : ℕ) (row new any : Row) (outs ready : List Item) → at < length rows → row ≡ get_or rows at any
    → with_more (limit_left new.stage) (length outs) ≡ limit_left row.stage → is_count new.stage ≡ is_count row.stage
    → stages_of later ≡ stages_of (set rows at new) → (at + 1 < length (set rows at new) → ready ≡ []) → (length (set rows at new) ≤ at + 1 → ready ≡ outs)
    → (over : Bool) → allowed_by over (stages_of later) (length ready) ≡ allowed_by over (stages_of rows) 0
allowed-row rows later at row new any outs ready within is limits counts stages passed given over =
    let long = length-map rows (λ (r : Row). r.stage) in
    let kept = length-set rows at new in
    let stage = stage_at rows at row any is in
    ap (λ steps. allowed_by over steps (length ready)) (stages ∙ map-set (λ (r : Row). r.stage) rows at new)
    ∙ allowed-set (stages_of rows) at new.stage any.stage (length outs) (length ready) (omega arith) (limits ∙ ap limit_left (sym stage))
    (counts ∙ ap is_count (sym stage))
    (λ lt. ap length (passed (omega arith))) (λ le. ap length (given (omega arith))) over

-- ---- a limit that lets nothing more through

zero_limit : (o : Option ℕ) → is_zero o ≡ true → o ≡ Some 0
zero_limit None none = cc
zero_limit (Some n) none = ap (λ m. Some m) (eqb-true n 0 none)

spent_limit : (step : Stage) → is_spent step ≡ true → limit_left step ≡ Some 0
spent_limit step spent = zero_limit (limit_left step) spent

-- a limit doesn't count
spent_no_count : (step : Stage) → is_spent step ≡ true → is_count step ≡ false
spent_no_count (stages.Count so_far given) spent = cc
spent_no_count step spent = refl

first_no_count : (a b : Bool) → not a && b ≡ true → (a ≡ false) × (b ≡ true)
first_no_count true b none = cc
first_no_count false b none = (refl, none)

-- what these steps let through is not of the first of them, unless it counts or is the only one
allowed_later : (over : Bool) (step : Stage) (steps : List Stage) (ready : ℕ) → 0 < length steps → is_count step ≡ false
    → allowed_by over (step ∷ steps) ready ≡ allowed_by over steps ready
allowed_later over step steps ready some none =
    (λ i. cond (not (none i) && have_no_count steps) (with_more (last_behind step steps some i) ready) None) ∙ sym (allowed_some over steps ready some)

allowed_one : (over : Bool) (step : Stage) (ready : ℕ) → is_spent step ≡ true → allowed_by over (step ∷ []) ready ≡ Some ready
allowed_one over step ready spent =
    (λ i. cond (not (spent_no_count step spent i) && true) (with_more (spent_limit step spent i) ready) None) ∙ ap (λ n. Some n) (zero-add ready)

pub allowed_any : (steps : List Stage) (ready : ℕ) (over other : Bool) → 0 < length steps → allowed_by over steps ready ≡ allowed_by other steps ready
allowed_any [] ready over other some = absurd (omega arith)
allowed_any (step ∷ steps) ready over other some = refl

-- the steps up to such a limit are left out, if none of them counts
allowed_cut : (over : Bool) (steps : List Stage) (at : ℕ) (any : Stage) (ready : ℕ) → at < length steps → is_spent (get_or steps at any) ≡ true
    → have_no_count (take at steps) ≡ true
    → allowed_by true (drop (suc at) steps) ready ≡ allowed_by over steps ready
allowed_cut over [] at any ready lt spent none = absurd (omega arith)
allowed_cut over (step ∷ []) zero any ready lt spent none = sym (allowed_one over step ready spent)
allowed_cut over (step ∷ next ∷ steps) zero any ready lt spent none = sym
    (allowed_later over step (next ∷ steps) ready (omega arith) (spent_no_count step spent))
allowed_cut over (step ∷ steps) (suc at) any ready lt spent none =
    let both = first_no_count (is_count step) (have_no_count (take at steps)) none in
    allowed_cut over steps at any ready (omega arith) spent both.1 ∙ sym (allowed_later over step steps ready (omega arith) both.0)

-- the same of rows of steps
pub allowed-cut : (over : Bool) (rows : List Row) (at : ℕ) (row any : Row) (ready : ℕ) → at < length rows → row ≡ get_or rows at any → is_spent row.stage ≡ true
    → list_all (λ (r : Row). not (is_count r.stage)) (take at rows) ≡ true
    → allowed_by true (stages_of (drop (at + 1) rows)) ready ≡ allowed_by over (stages_of rows) ready
allowed-cut over rows at row any ready lt is spent none =
    let long = length-map rows (λ (r : Row). r.stage) in
    let first : have_no_count (take at (stages_of rows)) ≡ true = ap have_no_count (take-map (λ (r : Row). r.stage) at rows)
    ∙ sym (no_count-rows (take at rows)) ∙ none in
    ap (λ n. allowed_by true (stages_of (drop n rows)) ready) (add-one at)
    ∙ ap (λ steps. allowed_by true steps ready) (sym (drop-map (λ (r : Row). r.stage) (suc at) rows))
    ∙ allowed_cut over (stages_of rows) at any.stage ready (omega arith) (ap is_spent (stage_at rows at row any is) ∙ spent) first

-- ---- nothing is let through any more

some_zero : (a b : ℕ) → Some (a + b) ≡ Some 0 → b ≡ 0
some_zero a b e = let n : a + b ≡ 0 = cc in omega arith

ready_none : (over : Bool) (steps : List Stage) (ready : ℕ) → allowed_by over steps ready ≡ Some 0 → ready ≡ 0
ready_none true [] ready all = cc
ready_none false [] ready all = absurd cc
ready_none over (step ∷ steps) ready all = by (have_no_count (step ∷ steps)) (last_limit (step ∷ steps)) all
  where
    by : (b : Bool) (o : Option ℕ) → cond b (with_more o ready) None ≡ Some 0 → ready ≡ 0
    by true (Some left) e = some_zero left ready e
    by true None e = absurd cc
    by false o e = absurd cc

-- then no result is ready
pub allowed-zero_ready : (over : Bool) (steps : List Stage) (ready : List Item) → allowed_by over steps (length ready) ≡ Some 0 → ready ≡ []
allowed-zero_ready over steps [] all = refl
allowed-zero_ready over steps (item ∷ ready) all = let none = ready_none over steps (suc (length ready)) all in absurd (omega (arith, none))

-- and the last step is such a limit, or no step is left
pub allowed-zero_last : (over : Bool) (rows : List Row) (at : ℕ) (row any : Row) → length rows ≡ suc at → row ≡ get_or rows at any
    → allowed_by over (stages_of rows) 0 ≡ Some 0
    → (is_spent row.stage ≡ true) × (list_all (λ (r : Row). not (is_count r.stage)) rows ≡ true)
allowed-zero_last over rows at row any long is none =
    let same = length-map rows (λ (r : Row). r.stage) in
    let last : last_limit (stages_of rows) ≡ limit_left row.stage = last_at (stages_of rows) at any.stage (omega arith)
    ∙ ap limit_left (stage_at rows at row any is) in
    let parts = by (have_no_count (stages_of rows)) (last_limit (stages_of rows)) (sym (allowed_some over (stages_of rows) 0 (omega arith)) ∙ none) in
    (ap is_zero (sym last ∙ parts.1), no_count-rows rows ∙ parts.0)
  where
    by : (b : Bool) (o : Option ℕ) → cond b (with_more o 0) None ≡ Some 0 → (b ≡ true) × (o ≡ Some 0)
    by true (Some left) e = (refl, let n : left + 0 ≡ 0 = cc in ap (λ m. Some m) (omega arith))
    by true None e = absurd cc
    by false o e = absurd cc

pub allowed-zero_is : (over : Bool) (rows : List Row) (at : ℕ) (row any : Row) → length rows ≡ suc at → row ≡ get_or rows at any → is_spent row.stage ≡ true
    → list_all (λ (r : Row). not (is_count r.stage)) rows ≡ true → allowed_by over (stages_of rows) 0 ≡ Some 0
allowed-zero_is over rows at row any long is spent none =
    let same = length-map rows (λ (r : Row). r.stage) in
    let last : last_limit (stages_of rows) ≡ limit_left row.stage = last_at (stages_of rows) at any.stage (omega arith)
    ∙ ap limit_left (stage_at rows at row any is) in
    let none_counts : have_no_count (stages_of rows) ≡ true = sym (no_count-rows rows) ∙ none in
    allowed_some over (stages_of rows) 0 (omega arith) ∙ (λ i. cond (none_counts i) (with_more ((last ∙ spent_limit row.stage spent) i) 0) None)

-- whether nothing is let through any more, by the last row
module _ (over : Bool) (rows : List Row) (row : Row) (ready : List Item) (none : ready ≡ []) (last : Some row ≡ slice_get rows (length rows - 1)) where
  last_there : length rows ≡ suc (length rows - 1)
  last_there = let lt = slice_get_within rows (length rows - 1) row (sym last) in omega arith

  last_is : row ≡ get_or rows (length rows - 1) row
  last_is = sym (get_or_from_slice_get rows (length rows - 1) row row (sym last))

  pub spent-yes : is_spent row.stage ≡ true → (counts_none : Bool) → counts_none ≡ list_all (λ (r : Row). not (is_count r.stage)) rows
      → (IsTrue counts_none → allowed_by over (stages_of rows) (length ready) ≡ Some 0)
      × (allowed_by over (stages_of rows) (length ready) ≡ Some 0 → IsTrue counts_none)
  spent-yes spent counts_none is = (
    λ yes. ap (λ (items : List Item). allowed_by over (stages_of rows) (length items)) none
        ∙ allowed-zero_is over rows (length rows - 1) row row last_there last_is spent (sym is ∙ yes),
    λ all. is ∙ (allowed-zero_last over rows (length rows - 1) row row last_there last_is
        (sym (ap (λ (items : List Item). allowed_by over (stages_of rows) (length items)) none) ∙ all)).1,
  )

  pub spent-no : (spent : Bool) → spent ≡ is_spent row.stage → allowed_by over (stages_of rows) (length ready) ≡ Some 0 → IsTrue spent
  spent-no spent is all =
      is ∙ (allowed-zero_last over rows (length rows - 1) row row last_there last_is
      (sym (ap (λ (items : List Item). allowed_by over (stages_of rows) (length items)) none) ∙ all)).0

-- ---- the steps of a query

no_count-append : (steps later : List Stage) → have_no_count steps ≡ true → have_no_count (steps ++ later) ≡ have_no_count later
no_count-append [] later none = refl
no_count-append (step ∷ steps) later none =
    let both = first_no_count (is_count step) (have_no_count steps) none in
    ap (λ b. not b && have_no_count (steps ++ later)) both.0 ∙ no_count-append steps later both.1

-- what the last steps let through, whatever doesn't count before them
allowed-append : (over : Bool) (steps later : List Stage) (ready : ℕ) → have_no_count steps ≡ true → 0 < length later
    → allowed_by over (steps ++ later) ready ≡ allowed_by over later ready
allowed-append over [] later ready none some = refl
allowed-append over (step ∷ steps) later ready none some =
    let both = first_no_count (is_count step) (have_no_count steps) none in
    allowed_later over step (steps ++ later) ready (omega (arith, length-append steps later)) both.0 ∙ allowed-append over steps later ready both.1 some

some_steps : (steps : List Stage) (ready most : ℕ) → allowed_by false steps ready ≡ Some most → 0 < length steps
some_steps [] ready most e = absurd cc
some_steps (step ∷ steps) ready most e = omega arith

body_no_count : (body : List BodyStep) → have_no_count (stages_of (map body_row body)) ≡ true
body_no_count [] = refl
body_no_count (bodies.Neighbours hop ∷ body) = body_no_count body
body_no_count (bodies.Filter test ∷ body) = body_no_count body

repeat_no_count : (times : ℕ) (rows : List Row) → have_no_count (stages_of rows) ≡ true → have_no_count (stages_of (repeat_rows times rows)) ≡ true
repeat_no_count zero rows none = refl
repeat_no_count (suc times) rows none =
    ap have_no_count (map-append (λ (r : Row). r.stage) rows (repeat_rows times rows))
    ∙ no_count-append (stages_of rows) (stages_of (repeat_rows times rows)) none ∙ repeat_no_count times rows none

step_no_count : (step : Step) → is_counting step ≡ false → have_no_count (stages_of (rows_of_step step)) ≡ true
step_no_count (steps.Repeat body times) none = repeat_no_count times (map body_row body) (body_no_count body)
step_no_count steps.Count none = absurd cc
step_no_count step none = refl

last_step : (step : Step) (most : ℕ) → step_limit step ≡ Some most → allowed_by false (stages_of (rows_of_step step ++ [])) 0 ≡ Some most
last_step (steps.Limit n) most is = ap (λ m. Some m) (add-zero n) ∙ is
last_step step most is = absurd cc

not_counting : (b : Bool) (o : Option ℕ) (most : ℕ) → cond b None o ≡ Some most → (b ≡ false) × (o ≡ Some most)
not_counting true o most e = absurd cc
not_counting false o most e = (refl, e)

-- a query whose last step is a limit, and that counts nothing, begins with what the limit lets through
pub allowed-rows_of : (list : List Step) (most : ℕ) → limit_of list ≡ Some most → allowed_by false (stages_of (rows_of list)) 0 ≡ Some most
allowed-rows_of [] most is = absurd cc
allowed-rows_of (step ∷ []) most is = last_step step most is
allowed-rows_of (step ∷ next ∷ later) most is =
    let both = not_counting (is_counting step) (limit_of (next ∷ later)) most is in
    let rest = allowed-rows_of (next ∷ later) most both.1 in
    let last = stages_of (rows_of (next ∷ later)) in
    ap (λ list. allowed_by false list 0) (map-append (λ (r : Row). r.stage) (rows_of_step step) (rows_of (next ∷ later)))
    ∙ allowed-append false (stages_of (rows_of_step step)) last 0 (step_no_count step both.0) (some_steps last 0 most rest)
    ∙ rest
