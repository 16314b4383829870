-- What comes to each step of a query, and how many steps are before it: the productions say of the written steps what the table of places says of names.
use Rattle.std.proofs.Common.{◌≡◌, ◌<◌, ◌≤◌, ◌+◌, ℕ, nat_lt, if◌then◌else◌, Bool, true, false, Option, Some, None, List}
use Rattle.std.proofs.Common.{[], ◌∷◌, ◌++◌, length, refl, sym, ap, ◌∙◌, subst, length-append, arith}
use Rattle.std.proofs.lemmas.Bool.Decides.{nat_tests}
use Rattle.plain_graph.specs.declared.query.BodyStep.{BodyStep}
use Rattle.plain_graph.specs.declared.query.Query.{Query}
use Rattle.plain_graph.specs.declared.query.Step.{Step}
use Rattle.plain_graph.specs.declared.query.Step.TheVariants as steps
use Rattle.gremlin_parse.specs.Productions.{WrittenStep, Does, Maps, takes, gives, counts, Fit, given, count_all, with_written, with_all}
use Rattle.gremlin_parse.specs.Queries.{count_before}
use Rattle.gremlin_parse.specs.Stages.{are_vertices, are_edges, are_elements, first_items, fits, is_by, items_after}
use Rattle.gremlin_parse.specs.Stages.{items_from, late_fault, mapped, maps_count, stage_of, step_count, step_fault}
use Rattle.gremlin_parse.specs.Stages.{steps_of}
use Rattle.gremlin_parse.specs.declared.bad_token.BadToken.TheVariants.{UnfitStep, LateStep}
use Rattle.gremlin_parse.specs.declared.stage.Items.{Items}
use Rattle.gremlin_parse.specs.declared.stage.Items.TheVariants as items
use Rattle.gremlin_parse.specs.declared.step_word.StepWord.{StepWord}
use Rattle.gremlin_parse.proofs.OrderLaws.{items_from-append, steps_in-append}
use Rattle.gremlin_parse.proofs.RepeatReads.{before_33rd}

-- what comes to the next step of the query
abbrev pub items_of : Query → Items
items_of query = (stage_of query).items

-- ---- what a step gives

no_vertices : (keys : List (List ℕ)) (these : Items) → are_vertices (mapped (Some keys) these) ≡ false
no_vertices keys items.Vertices = refl
no_vertices keys items.Edges = refl
no_vertices keys items.Values = refl
no_vertices keys items.Maps = refl

no_edges : (keys : List (List ℕ)) (these : Items) → are_edges (mapped (Some keys) these) ≡ false
no_edges keys items.Vertices = refl
no_edges keys items.Edges = refl
no_edges keys items.Values = refl
no_edges keys items.Maps = refl

no_elements : (keys : List (List ℕ)) (these : Items) → are_elements (mapped (Some keys) these) ≡ false
no_elements keys items.Vertices = refl
no_elements keys items.Edges = refl
no_elements keys items.Values = refl
no_elements keys items.Maps = refl

never : {A : Type 0} (t : Bool) → t ≡ false → t ≡ true → A
never t fails holds = let clash : false ≡ true = sym fails ∙ holds in cc

-- Where elements are maps, the steps that may follow leave them so.
mapped_gives : (keys : List (List ℕ)) (these : Items) (step : Step) → takes (mapped (Some keys) these) (Does step) ≡ true
    → mapped (Some keys) (items_after these step) ≡ items_after (mapped (Some keys) these) step
mapped_gives keys these (steps.Neighbours hop) fit = never (are_vertices (mapped (Some keys) these)) (no_vertices keys these) fit
mapped_gives keys these (steps.Incident hop) fit = never (are_vertices (mapped (Some keys) these)) (no_vertices keys these) fit
mapped_gives keys these steps.OutV fit = never (are_edges (mapped (Some keys) these)) (no_edges keys these) fit
mapped_gives keys these steps.InV fit = never (are_edges (mapped (Some keys) these)) (no_edges keys these) fit
mapped_gives keys these (steps.Filter filter) fit = refl
mapped_gives keys these (steps.Values names) fit = refl
mapped_gives keys these steps.Id fit = refl
mapped_gives keys these steps.Label fit = refl
mapped_gives keys these steps.Dedup fit = refl
mapped_gives keys these steps.Count fit = refl
mapped_gives keys these (steps.Limit most) fit = refl
mapped_gives keys these (steps.Order key descending) fit = refl
mapped_gives keys these (steps.Repeat body times) fit = never (are_vertices (mapped (Some keys) these)) (no_vertices keys these) fit

does_give : (maps : Option (List (List ℕ))) (these : Items) (step : Step) → takes (mapped maps these) (Does step) ≡ true
    → mapped maps (items_after these step) ≡ items_after (mapped maps these) step
does_give None these step fit = refl
does_give (Some keys) these step fit = mapped_gives keys these step fit

maps_give : (maps : Option (List (List ℕ))) (these : Items) (keys : List (List ℕ)) → are_elements (mapped maps these) ≡ true
    → mapped (Some keys) these ≡ items.Maps
maps_give None items.Vertices keys fit = refl
maps_give None items.Edges keys fit = refl
maps_give None items.Values keys fit = cc
maps_give None items.Maps keys fit = refl
maps_give (Some others) these keys fit = never (are_elements (mapped (Some others) these)) (no_elements others these) fit

-- what comes after a step that takes what comes to it
pub written_items : (query : Query) (step : WrittenStep) → takes (items_of query) step ≡ true → items_of (with_written query step) ≡ gives (items_of query) step
written_items query (Does step) fit =
    let before : Items = items_from (first_items query.source) query.steps in
    ap (mapped query.maps) (items_from-append (first_items query.source) query.steps step) ∙ does_give query.maps before step fit
written_items query (Maps keys) fit = maps_give query.maps (items_from (first_items query.source) query.steps) keys fit

-- ---- how many steps

maps_counted : (maps : Option (List (List ℕ))) (these : Items) → are_elements (mapped maps these) ≡ true → maps_count maps ≡ 0
maps_counted None these fit = refl
maps_counted (Some keys) these fit = never (are_elements (mapped (Some keys) these)) (no_elements keys these) fit

-- how many steps there are with one that takes what comes to it
pub written_steps : (query : Query) (step : WrittenStep) → takes (items_of query) step ≡ true
    → steps_of (with_written query step) ≡ steps_of query + counts step
written_steps query (Does step) fit = let one = steps_in-append query.steps step in omega (arith, one)
written_steps query (Maps keys) fit = let none = maps_counted query.maps (items_from (first_items query.source) query.steps) fit in omega (arith, none)

one_counted : (step : Step) → 1 ≤ step_count step
one_counted (steps.Neighbours hop) = omega arith
one_counted (steps.Incident hop) = omega arith
one_counted steps.OutV = omega arith
one_counted steps.InV = omega arith
one_counted (steps.Filter filter) = omega arith
one_counted (steps.Values names) = omega arith
one_counted steps.Id = omega arith
one_counted steps.Label = omega arith
one_counted steps.Dedup = omega arith
one_counted steps.Count = omega arith
one_counted (steps.Limit most) = omega arith
one_counted (steps.Order key descending) = omega arith
one_counted (steps.Repeat body times) = omega arith

-- Each step counts.
pub some_counted : (step : WrittenStep) → 1 ≤ counts step
some_counted (Does step) = one_counted step
some_counted (Maps keys) = omega arith

-- ---- lists of steps

pub all_items : (query : Query) (list : List WrittenStep) → Fit (items_of query) list → items_of (with_all query list) ≡ given (items_of query) list
all_items query [] fit = refl
all_items query (step ∷ list) fit =
    let one = written_items query step fit.0 in
    all_items (with_written query step) list (subst (λ these. Fit these list) (sym one) fit.1) ∙ ap (λ these. given these list) one

pub all_steps : (query : Query) (list : List WrittenStep) → Fit (items_of query) list → steps_of (with_all query list) ≡ steps_of query + count_all list
all_steps query [] fit = omega arith
all_steps query (step ∷ list) fit =
    let one = written_steps query step fit.0 in
    let later = all_steps (with_written query step) list (subst (λ these. Fit these list) (sym (written_items query step fit.0)) fit.1) in
    omega (arith, one, later)

-- ---- the fault of a name

in_time : (n : ℕ) → n < 32 → nat_lt n 32 ≡ true
in_time n early = grind (arith, nat_tests)

pub never_late : (n : ℕ) → n < 32 → late_fault n ≡ None
never_late n early = ap (λ (t : Bool). if t then None else Some LateStep) (in_time n early)

pub faultless_name : (query : Query) (this : StepWord) (bytes : List ℕ) → is_by this ≡ false → step_fault (stage_of query) this bytes ≡ None
    → (fits (items_of query) this bytes ≡ true) × (steps_of query < 32)
faultless_name query this bytes other none = by_word (is_by this) other none
  where
    by_fit : (t : Bool) → (if t then late_fault (steps_of query) else Some UnfitStep) ≡ None → (t ≡ true) × (steps_of query < 32)
    by_fit true none = (refl, before_33rd (steps_of query) none)
    by_fit false none = cc

    by_word : (t : Bool) → t ≡ false → (if t then None else (if fits (items_of query) this bytes then late_fault (steps_of query) else Some UnfitStep)) ≡ None
        → (fits (items_of query) this bytes ≡ true) × (steps_of query < 32)
    by_word true other none = cc
    by_word false other none = by_fit (fits (items_of query) this bytes) none

pub name_faultless : (query : Query) (this : StepWord) (bytes : List ℕ) → is_by this ≡ false → fits (items_of query) this bytes ≡ true → steps_of query < 32
    → step_fault (stage_of query) this bytes ≡ None
name_faultless query this bytes other fit early =
    ap (λ (t : Bool). if t then None else (if fits (items_of query) this bytes then late_fault (steps_of query) else Some UnfitStep)) other
    ∙ ap (λ (t : Bool). if t then late_fault (steps_of query) else Some UnfitStep) fit ∙ never_late (steps_of query) early

-- ---- steps of a body

-- The steps up to the last one of the body are at most 32.
abbrev pub InTime : Query → List BodyStep → Type 0
InTime query body = count_before query body ≤ 32

pub one_more : (query : Query) (body : List BodyStep) (step : BodyStep) → count_before query body < 32 → InTime query (body ++ step ∷ [])
one_more query body step early = let len : length (body ++ step ∷ []) ≡ length body + 1 = length-append body (step ∷ []) in omega (arith, len, early)

pub one_less : (query : Query) (body : List BodyStep) (step : BodyStep) (more : List BodyStep) → InTime query (body ++ step ∷ more)
    → count_before query body < 32
one_less query body step more early = let len : length (body ++ step ∷ more) ≡ length body + length (step ∷ more) = length-append body (step ∷ more) in
    omega (arith, len, early)
