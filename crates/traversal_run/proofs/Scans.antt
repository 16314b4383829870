-- Where a scan stands amid a call.
use Rattle.std.proofs.Common.{◌≡◌, ◌⊎◌, inl, inr, ⊎_elim, ◌<◌, ◌≤◌, ℕ, ◌+◌, ◌-◌, suc, zero, true, false, Option, None}
use Rattle.std.proofs.Common.{Some, List, [], ◌∷◌, length, drop, get_or, take, set, add-one, refl, sym, ap, ◌∙◌, subst}
use Rattle.std.proofs.Common.{arith}
use Rattle.std.specs.Option.{IfSome}
use Rattle.std.proofs.lemmas.List.{length-set}
use Rattle.plain_graph.specs.declared.item.Item.{Item}
use Rattle.plain_graph.specs.declared.item.Item.TheVariants as items
use Rattle.plain_graph.specs.declared.query.Step.{Step}
use Rattle.plain_graph.specs.declared.query.Step.TheVariants as steps
use Rattle.traversal_run.specs.Row.{stages_of}
use Rattle.traversal_run.specs.Run.{allowed_by, still_allowed}
use Rattle.traversal_run.specs.Scan.{IsLast, IsScan, IsScanReady, IsScanWith, IsScanned, TakesVertex, limit_row, vertices_from}
use Rattle.traversal_run.specs.Source.{is_over}
use Rattle.traversal_run.specs.Stage.{is_open}
use Rattle.traversal_run.specs.Starting.{rows_of}
use Rattle.traversal_run.specs.declared.row.Row.{Row}
use Rattle.traversal_run.specs.declared.run.Run.{Run}
use Rattle.traversal_run.specs.declared.source.Source.{Source}
use Rattle.traversal_run.specs.declared.stage.Stage.{Stage}
use Rattle.traversal_run.specs.declared.stage.Stage.TheVariants as stages

-- the scan begins
pub record ScanBegins (at before now : ℕ) (run : Run) : Type 0 where
  pub most : ℕ
  pub is : IsScanWith run at (most + 1) [] []
  pub reads : now ≤ before

-- a vertex waits for the limit
pub record ScanWaits (at before now : ℕ) (run : Run) : Type 0 where
  pub most : ℕ
  pub id : ℕ
  pub from : at ≤ id
  pub reads : now ≤ before + (id + 1 - at)
  pub is : IsScanWith run (id + 1) (most + 1) (items.Vertex id ∷ []) []

-- it is ready
pub record ScanReady (at before now : ℕ) (run : Run) : Type 0 where
  pub most : ℕ
  pub id : ℕ
  pub from : at ≤ id
  pub reads : now ≤ before + (id + 1 - at)
  pub is : IsScanReady run (id + 1) most (items.Vertex id)

abbrev pub ScanState : ℕ → ℕ → ℕ → Run → Type 0
ScanState at before now run = ScanBegins at before now run ⊎ (ScanWaits at before now run ⊎ ScanReady at before now run)

some_allowed : (most : ℕ) → ¬ (Some (most + 0) ≡ Some 0) → (m : ℕ) × (most ≡ m + 1)
some_allowed zero none = absurd (none refl)
some_allowed (suc m) none = (m, sym (add-one m))

-- the limit lets some item through
pub scan_starts : (run : Run) (at : ℕ) → IsScan run at → ¬ (still_allowed run ≡ Some 0) → (n : ℕ) → ScanState at n n run
scan_starts run at scan some n =
    let w = scan.is in
    let is : still_allowed run ≡ Some (scan.most + 0) = λ i. allowed_by (is_over run.source.left) (stages_of (w.rows i)) (length (w.ready i)) in
    let more = some_allowed scan.most (λ none. some (is ∙ none)) in
    inl (record { most = more.0; is = subst (λ m. IsScanWith run at m [] []) more.1 w; reads = omega arith })

no_item : (item : Item) (list : List Item) → list ≡ [] → list ≡ item ∷ [] → ⊥
no_item item list none some = cc

ready_not : (run : Run) (from most : ℕ) (item : Item) → run.ready ≡ [] → IsScanReady run from most item → ⊥
ready_not run from most item none there =
    ⊎_elim (λ (w : IsScanWith run from most [] (item ∷ [])). no_item item run.ready none w.ready)
    (λ (last : IsLast run item). no_item item run.ready none last.ready) there

-- a turn, where no item is ready
pub scan_turns : (at before now later : ℕ) (old new : Run) → old.ready ≡ []
    → ((from most : ℕ) → IsScanWith old from most [] [] → (item : Item) × TakesVertex from now later item new.source × (new.rows.items ≡ limit_row most
    (item ∷ []) ∷ []) × (new.ready ≡ []))
    → ((from most : ℕ) (item : Item) → IsScanWith old from (most + 1) (item ∷ []) [] → (later ≡ now) × IsScanReady new from most item)
    → ScanState at before now old → ScanState at before later new
scan_turns at before now later old new none scan limit state =
    ⊎_elim (λ (begins : ScanBegins at before now old).
    let next = scan at (begins.most + 1) begins.is in
    let takes = next.1 in
    let before_it = begins.reads in
    let cost = takes.reads in
    let there : IsScanWith new (takes.id + 1) (begins.most + 1) (items.Vertex takes.id ∷ []) [] = record {
      source = takes.behind;
      rows = next.2 ∙ ap (λ (item : Item). limit_row (begins.most + 1) (item ∷ []) ∷ []) takes.is;
      ready = next.3;
    } in
    let waits : ScanWaits at before later new = record { most = begins.most; id = takes.id; from = takes.from; reads = omega arith; is = there } in
    inr (inl waits))
    (⊎_elim (λ (waits : ScanWaits at before now old).
    let next = limit (waits.id + 1) waits.most (items.Vertex waits.id) waits.is in
    let same = next.0 in
    let cost = waits.reads in
    let ready : ScanReady at before later new = record { most = waits.most; id = waits.id; from = waits.from; reads = omega arith; is = next.1 } in
    inr (inr ready))
    (λ (ready : ScanReady at before now old). absurd (ready_not old (ready.id + 1) ready.most (items.Vertex ready.id) none ready.is))) state

first_is : (item first : Item) (list rest : List Item) → list ≡ item ∷ rest → list ≡ first ∷ [] → (item ≡ first) × (rest ≡ [])
first_is item first list rest one two = (cc, cc)

-- an item that was ready is given
pub scan_gives : (at before now : ℕ) (old new : Run) (item : Item) → old.ready ≡ item ∷ new.ready → new.source ≡ old.source → new.rows.items ≡ old.rows.items
    → new.stopped ≡ None
    → ScanState at before now old → IsScanned at before now item new
scan_gives at before now old new item takes source rows going state =
    ⊎_elim (λ (begins : ScanBegins at before now old). absurd (empty (sym begins.is.ready ∙ takes)))
    (⊎_elim (λ (waits : ScanWaits at before now old). absurd (empty (sym waits.is.ready ∙ takes)))
    (λ (ready : ScanReady at before now old).
    ⊎_elim (λ (w : IsScanWith old (ready.id + 1) ready.most [] (items.Vertex ready.id ∷ [])).
    let first = first_is item (items.Vertex ready.id) old.ready new.ready takes w.ready in
    let there : IsScanWith new (ready.id + 1) ready.most [] [] = record { source = source ∙ w.source; rows = rows ∙ w.rows; ready = first.1 } in
    let scan : IsScan new (ready.id + 1) = record { most = ready.most; is = there; going = going } in
    let scanned : IsScanned at before now item new = record { id = ready.id; is = first.0; from = ready.from; reads = ready.reads; on = inl scan } in
    scanned)
    (λ (last : IsLast old (items.Vertex ready.id)).
    let first = first_is item (items.Vertex ready.id) old.ready new.ready takes last.ready in
    let over : is_over new.source.left ≡ true = ap (λ (s : Source). is_over s.left) source ∙ last.over in
    let done : still_allowed new ≡ Some 0 = λ i. allowed_by (over i) (stages_of ((rows ∙ last.rows) i)) (length (first.1 i)) in
    let scanned : IsScanned at before now item new = record { id = ready.id; is = first.0; from = ready.from; reads = ready.reads; on = inr done } in
    scanned) ready.is)) state
  where
    empty : [] ≡ item ∷ new.ready → ⊥
    empty e = cc

-- the run of a limit over all vertices
pub scan_begins : (run : Run) (list : List Step) (most : ℕ) → list ≡ steps.Limit most ∷ [] → run.source ≡ vertices_from 0 → run.rows.items ≡ rows_of list
    → run.ready ≡ [] → run.stopped ≡ None → IsScan run 0
scan_begins run list most one source rows ready going =
    let w : IsScanWith run 0 most [] [] = record { source = source; rows = rows ∙ ap rows_of one; ready = ready } in
    record { most = most; is = w; going = going }

-- ---- the source

-- the vertex of the identifier that was to come next
pub scan_found : (at next before read after id : ℕ) (item : Option Item) (new : Source) → at ≤ next → read ≤ before + (next - at) → after ≤ read + 1 → id ≡ next
    → new ≡ vertices_from (next + 1)
    → IfSome item (λ found. found ≡ items.Vertex id) → IfSome item (λ found. TakesVertex at before after found new)
scan_found at next before read after id None new from reads more is source found = tt
scan_found at next before read after id (Some item) new from reads more is source found = record {
  id = next;
  is = found ∙ ap items.Vertex is;
  from = from;
  behind = source;
  reads = omega arith;
}

-- ---- a turn

-- no item waits where a scan begins, and one does where it is given to the limit
pub idle_scan : (rows : List Row) (most at : ℕ) (any : Row) → rows ≡ limit_row most [] ∷ [] → at < length rows → ¬ ((get_or rows at any).waiting ≡ []) → ⊥
idle_scan rows most at any is lt waits =
    let lt_one : at < 1 = subst (λ (rs : List Row). at < length rs) is lt in
    let none : at ≡ 0 = omega arith in
    waits (ap (λ n. (get_or rows n any).waiting) none ∙ ap (λ (rs : List Row). (get_or rs 0 any).waiting) is)

pub quiet_scan : (rows : List Row) (most at : ℕ) (any : Row) → rows ≡ limit_row most [] ∷ [] → at < length rows → is_open (get_or rows at any).stage ≡ true → ⊥
quiet_scan rows most at any is lt opens =
    let lt_one : at < 1 = subst (λ (rs : List Row). at < length rs) is lt in
    let none : at ≡ 0 = omega arith in
    let shut : is_open (get_or rows at any).stage ≡ false = ap (λ n. is_open (get_or rows n any).stage) none
    ∙ ap (λ (rs : List Row). is_open (get_or rs 0 any).stage) is in
    cc

-- what the limit made of it is ready, and maybe rows were cut
pub cut_scan : (old new : Run) (at from most : ℕ) (item : Item) → at < 1 → old.source ≡ vertices_from from → old.rows.items ≡ limit_row (most + 1 - 1) [] ∷ []
    → old.ready ≡ take (most + 1) (item ∷ [])
    → (new ≡ old) ⊎ ((new.rows.items ≡ drop (at + 1) old.rows.items) × (is_over new.source.left ≡ true) × (new.ready ≡ old.ready))
    → IsScanReady new from most item
cut_scan old new at from most item lt source rows ready either =
    let left : most + 1 - 1 ≡ most = omega arith in
    let next : most + 1 ≡ suc most = add-one most in
    let given : old.ready ≡ item ∷ [] = ready ∙ ap (λ n. take n (item ∷ [])) next ∙ took most in
    let there : IsScanWith old from most [] (item ∷ []) = record { source = source; rows = rows ∙ ap (λ n. limit_row n [] ∷ []) left; ready = given } in
    let first : at + 1 ≡ 1 = omega arith in
    ⊎_elim (λ (same : new ≡ old). inl (subst (λ (run : Run). IsScanWith run from most [] (item ∷ [])) (sym same) there))
    (λ (cut : (new.rows.items ≡ drop (at + 1) old.rows.items) × (is_over new.source.left ≡ true) × (new.ready ≡ old.ready)).
    let last : IsLast new item = record {
      rows = cut.0 ∙ ap (λ n. drop n old.rows.items) first ∙ ap (drop 1) rows;
      over = cut.1;
      ready = cut.2 ∙ given;
    } in
    inr last) either
  where
    took : (n : ℕ) → take (suc n) (item ∷ []) ≡ item ∷ []
    took zero = refl
    took (suc n) = refl

-- the only row is a limit, which took its item
pub limit_advanced : (Same : Type 0) (rows later : List Row) (at : ℕ) (row new any : Row) (outs ready : List Item) (most : ℕ) (item : Item) → at < length rows
    → row ≡ get_or rows at any → rows ≡ limit_row most (item ∷ []) ∷ []
    → (row ≡ limit_row most (item ∷ []) → (outs ≡ take most (item ∷ [])) × (new ≡ limit_row (most - 1) []) × Same)
    → ((next : Row) → later ≡ set (set rows at new) (at + 1) (record (get_or (set rows at new) (at + 1) next) { waiting = outs }))
    → (length (set rows at new) ≤ at + 1 → ready ≡ outs) → (later ≡ limit_row (most - 1) [] ∷ []) × (ready ≡ take most (item ∷ [])) × Same
limit_advanced Same rows later at row new any outs ready most item lt is only takes put given =
    let lt_one : at < 1 = subst (λ (rs : List Row). at < length rs) only lt in
    let first : at ≡ 0 = omega arith in
    let here : row ≡ limit_row most (item ∷ []) = is ∙ (λ i. get_or (only i) (first i) any) in
    let step = takes here in
    let rows_is : later ≡ new ∷ [] = put any ∙ (λ i. set (set (only i) (first i) new) (first i + 1) (record (get_or (set (only i) (first i) new) (first i + 1)
    any) { waiting = outs })) in
    let long : length (set rows at new) ≡ length rows = length-set rows at new in
    let one : length rows ≡ 1 = ap length only in
    (rows_is ∙ ap (λ r. r ∷ []) step.1, given (omega arith) ∙ step.0, step.2)

-- the limit takes the item that waits
pub limit_taken : (Same : Type 0) (old : Row) (stage : Stage) (waiting outs : List Item) (taken item : Item) (most : ℕ) → old ≡ limit_row most (item ∷ [])
    → old.waiting ≡ taken ∷ waiting
    → (old.stage ≡ stages.Limit most → (outs ≡ take most (taken ∷ [])) × (stage ≡ stages.Limit (most - 1)) × Same)
    → (outs ≡ take most (item ∷ [])) × (record { stage = stage; waiting = waiting } ≡ limit_row (most - 1) []) × Same
limit_taken Same old stage waiting outs taken item most is first takes =
    let step = takes (ap (λ (r : Row). r.stage) is) in
    let both = first_is taken item old.waiting waiting first (ap (λ (r : Row). r.waiting) is) in
    (step.0 ∙ ap (λ x. take most (x ∷ [])) both.0, (λ i. record { stage = step.1 i; waiting = both.1 i }), step.2)
