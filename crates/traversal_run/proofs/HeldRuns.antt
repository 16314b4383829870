-- How many elements a run holds: at rest, amid a call, and at its beginning.
use Rattle.std.proofs.Common.{◌≡◌, inl, ⊎_elim, ◌<◌, ◌≤◌, ℕ, ◌+◌, ◌*◌, suc, zero, Bool, true, false, cond, List, []}
use Rattle.std.proofs.Common.{◌∷◌, ◌++◌, length, map, drop, get_or, add-one, refl, sym, ap, ◌∙◌, subst, arith}
use Rattle.std.specs.List.{count_by, sum_by}
use Rattle.std.proofs.Math.Nat.{mul-le-mul_right}
use Rattle.std.proofs.lemmas.List.Sums.{sum_by-append, sum_by-cons}
use Rattle.plain_graph.specs.declared.item.Item.{Item}
use Rattle.plain_graph.specs.declared.query.BodyStep.{BodyStep}
use Rattle.plain_graph.specs.declared.query.BodyStep.TheVariants as bodies
use Rattle.plain_graph.specs.declared.query.Step.{Step}
use Rattle.plain_graph.specs.declared.query.Step.TheVariants as steps
use Rattle.traversal_run.specs.Held.{AreNear, ArePlain, ArePlainSteps, AreWithin, IsNear, IsWithin, elements_in}
use Rattle.traversal_run.specs.Held.{hops_in, hops_of, hops_of_step, is_body_hop, is_hop, is_plain_step, room_behind}
use Rattle.traversal_run.specs.Row.{AreIdle}
use Rattle.traversal_run.specs.Stage.{is_spent}
use Rattle.traversal_run.specs.Starting.{body_row, repeat_rows, rows_of, rows_of_step}
use Rattle.traversal_run.specs.declared.row.Row.{Row}
use Rattle.traversal_run.specs.declared.run.Run.{Run}
use Rattle.traversal_run.specs.declared.stage.Stage.{Stage}
use Rattle.traversal_run.specs.declared.stage.Stage.TheVariants as stages
use Rattle.traversal_run.proofs.HeldRows.{elements-later, hops-cons, hops-drop, near-idle, plain-drop}
use Rattle.traversal_run.proofs.Rows.{idle_drop}

-- ---- at rest

times_hop : (b : Bool) (n t : ℕ) → (cond b 1 0 + n) * t ≡ cond b t 0 + n * t
times_hop true n t = omega arith
times_hop false n t = omega arith

within_held : (d : ℕ) (behind : Bool) (rows : List Row) (ready : List Item) → AreWithin d behind rows ready
    → sum_by (λ (row : Row). elements_in row.waiting) rows + elements_in ready ≤ room_behind d behind + hops_in rows * (2 * d)
within_held d behind [] ready within = omega arith
within_held d behind (row ∷ rows) ready within =
    let here = within.0 in
    let rest = within_held d (is_hop row.stage) rows ready within.1 in
    let sum = sum_by-cons (λ (r : Row). elements_in r.waiting) row rows in
    let hops : hops_in (row ∷ rows) * (2 * d) ≡ room_behind d (is_hop row.stage) + hops_in rows * (2 * d) = ap (λ n. n * (2 * d)) (hops-cons row rows)
    ∙ times_hop (is_hop row.stage) (hops_in rows) (2 * d) in
    omega arith

-- so the bound follows
pub within_made : (d most : ℕ) (run : Run) → ArePlain run.rows.items → hops_in run.rows.items ≤ most → AreWithin d false run.rows.items run.ready
    → IsWithin d most run
within_made d most run plain hops rows = record {
  plain = plain;
  hops = hops;
  rows = rows;
  bound =
      let has = within_held d false run.rows.items run.ready rows in
      let more = mul-le-mul_right (2 * d) hops in
      let same : most * (2 * d) ≡ 2 * most * d = omega arith in
      omega arith;
}

pub within-near : (d : ℕ) (behind : Bool) (rows : List Row) (ready : List Item) → AreWithin d behind rows ready → AreNear d behind rows ready
within-near d behind [] ready within = inl within
within-near d behind (row ∷ rows) ready within = inl (within.0, within-near d (is_hop row.stage) rows ready within.1)

pub near_begins : (d most : ℕ) (run : Run) → IsWithin d most run → IsNear d most run.rows.items run.ready
near_begins d most run within = record { plain = within.plain; hops = within.hops; near = within-near d false run.rows.items run.ready within.rows }

-- ---- a result is given

near_taken : (d : ℕ) (behind : Bool) (rows : List Row) (item : Item) (ready : List Item) → AreNear d behind rows (item ∷ ready) → AreWithin d behind rows ready
near_taken d behind [] item ready near =
    ⊎_elim (λ (few : elements_in (item ∷ ready) ≤ room_behind d behind). let fewer = elements-later item ready in let b : elements_in ready ≤ room_behind d
    behind = omega arith in b)
    (λ (one : length (item ∷ ready) ≤ 1). none_left ready (omega arith)) near
  where
    none_left : (list : List Item) → length list ≤ 0 → elements_in list ≤ room_behind d behind
    none_left [] none = omega arith
    none_left (first ∷ list) none = absurd (omega arith)
near_taken d behind (row ∷ rows) item ready near =
    ⊎_elim (λ (few : (elements_in row.waiting ≤ room_behind d behind) × AreNear d (is_hop row.stage) rows (item ∷ ready)).
    (few.0, near_taken d (is_hop row.stage) rows item ready few.1))
    (λ (one : (length row.waiting ≤ 1) × AreIdle rows × (item ∷ ready ≡ [])). absurd (clash one.2)) near
  where
    clash : item ∷ ready ≡ [] → ⊥
    clash e = cc

pub within-taken : (d most : ℕ) (run : Run) (item : Item) (list : List Item) → list ≡ item ∷ run.ready → IsNear d most run.rows.items list → IsWithin d most run
within-taken d most run item list is near =
    within_made d most run near.plain near.hops (near_taken d false run.rows.items item run.ready (subst (AreNear d false run.rows.items) is near.near))

-- ---- rows are left out

pub spent_no_hop : (stage : Stage) → is_spent stage ≡ true → is_hop stage ≡ false
spent_no_hop (stages.Mapped mapping) spent = absurd cc
spent_no_hop stage spent = refl

near_cut : (d : ℕ) (behind : Bool) (rows : List Row) (ready : List Item) (at : ℕ) (row any : Row) → at < length rows → row ≡ get_or rows at any
    → is_hop row.stage ≡ false
    → AreNear d behind rows ready → AreNear d false (drop (suc at) rows) ready
near_cut d behind [] ready at row any lt is other near = absurd (omega arith)
near_cut d behind (first ∷ rows) ready zero row any lt is other near =
    ⊎_elim (λ (few : (elements_in first.waiting ≤ room_behind d behind) × AreNear d (is_hop first.stage) rows ready).
    subst (λ b. AreNear d b rows ready) (ap (λ (r : Row). is_hop r.stage) (sym is) ∙ other) few.1)
    (λ (one : (length first.waiting ≤ 1) × AreIdle rows × (ready ≡ [])). subst (AreNear d false rows) (sym one.2) (near-idle d false rows one.1)) near
near_cut d behind (first ∷ rows) ready (suc at) row any lt is other near =
    ⊎_elim (λ (few : (elements_in first.waiting ≤ room_behind d behind) × AreNear d (is_hop first.stage) rows ready).
    near_cut d (is_hop first.stage) rows ready at row any (omega arith) is other few.1)
    (λ (one : (length first.waiting ≤ 1) × AreIdle rows × (ready ≡ [])). subst (AreNear d false (drop (suc at) rows)) (sym one.2)
    (near-idle d false (drop (suc at) rows) (idle_drop rows (suc at) one.1))) near

pub near-cut : (d most : ℕ) (rows later : List Row) (ready : List Item) (at : ℕ) (row any : Row) → at < length rows → row ≡ get_or rows at any
    → is_spent row.stage ≡ true → later ≡ drop (at + 1) rows
    → IsNear d most rows ready → IsNear d most later ready
near-cut d most rows later ready at row any lt is spent drops near =
    let same : later ≡ drop (suc at) rows = drops ∙ ap (λ n. drop n rows) (add-one at) in
    let fewer = hops-drop rows (suc at) in
    let hops = near.hops in
    let now : hops_in later ≡ hops_in (drop (suc at) rows) = ap hops_in same in
    record {
      plain = subst ArePlain (sym same) (plain-drop rows (suc at) near.plain);
      hops = omega arith;
      near = subst (λ (list : List Row). AreNear d false list ready) (sym same)
          (near_cut d false rows ready at row any lt is (spent_no_hop row.stage spent) near.near);
    }

-- ---- the beginning

hops_append : (rows more : List Row) → hops_in (rows ++ more) ≡ hops_in rows + hops_in more
hops_append rows more = sum_by-append (λ (r : Row). cond (is_hop r.stage) 1 0) rows more

hops_body : (body : List BodyStep) → hops_in (map body_row body) ≡ count_by is_body_hop body
hops_body [] = refl
hops_body (bodies.Neighbours hop ∷ body) = hops-cons (body_row (bodies.Neighbours hop)) (map body_row body) ∙ ap (λ n. 1 + n) (hops_body body)
    ∙ sym (sum_by-cons (λ b. cond (is_body_hop b) 1 0) (bodies.Neighbours hop) body)
hops_body (bodies.Filter test ∷ body) = hops-cons (body_row (bodies.Filter test)) (map body_row body) ∙ ap (λ n. 0 + n) (hops_body body)
    ∙ sym (sum_by-cons (λ b. cond (is_body_hop b) 1 0) (bodies.Filter test) body)

hops_repeat : (times : ℕ) (rows : List Row) → hops_in (repeat_rows times rows) ≡ times * hops_in rows
hops_repeat zero rows = omega arith
hops_repeat (suc times) rows = let more = hops_repeat times rows in hops_append rows (repeat_rows times rows) ∙ omega arith

hops_step : (step : Step) → hops_in (rows_of_step step) ≡ hops_of_step step
hops_step (steps.Repeat body times) = hops_repeat times (map body_row body) ∙ ap (λ n. times * n) (hops_body body)
hops_step step = refl

hops_begin : (list : List Step) → hops_in (rows_of list) ≡ hops_of list
hops_begin [] = refl
hops_begin (step ∷ list) =
    let one = hops_step step in
    let more = hops_begin list in
    let all = sum_by-cons hops_of_step step list in
    hops_append (rows_of_step step) (rows_of list) ∙ omega arith

-- no item waits for a plain step
abbrev AreFresh : List Row → Type 0
AreFresh rows = ArePlain rows × AreIdle rows

fresh_append : (rows more : List Row) → AreFresh rows → AreFresh more → AreFresh (rows ++ more)
fresh_append [] more these those = those
fresh_append (row ∷ rows) more these those =
    let rest = fresh_append rows more (these.0.1, these.1.1) those in
    ((these.0.0, rest.0), (these.1.0, rest.1))

fresh_body : (body : List BodyStep) → AreFresh (map body_row body)
fresh_body [] = (tt, tt)
fresh_body (bodies.Neighbours hop ∷ body) = let rest = fresh_body body in ((refl, rest.0), (refl, rest.1))
fresh_body (bodies.Filter test ∷ body) = let rest = fresh_body body in ((refl, rest.0), (refl, rest.1))

fresh_repeat : (times : ℕ) (rows : List Row) → AreFresh rows → AreFresh (repeat_rows times rows)
fresh_repeat zero rows these = (tt, tt)
fresh_repeat (suc times) rows these = fresh_append rows (repeat_rows times rows) these (fresh_repeat times rows these)

fresh_step : (step : Step) → is_plain_step step ≡ true → AreFresh (rows_of_step step)
fresh_step (steps.Repeat body times) plain = fresh_repeat times (map body_row body) (fresh_body body)
fresh_step steps.Dedup plain = absurd cc
fresh_step steps.Count plain = absurd cc
fresh_step (steps.Order key descending) plain = absurd cc
fresh_step step plain = ((refl, tt), (refl, tt))

fresh_steps : (list : List Step) → ArePlainSteps list → AreFresh (rows_of list)
fresh_steps [] plain = (tt, tt)
fresh_steps (step ∷ list) plain = fresh_append (rows_of_step step) (rows_of list) (fresh_step step plain.0) (fresh_steps list plain.1)

within_idle : (d : ℕ) (behind : Bool) (rows : List Row) → AreIdle rows → AreWithin d behind rows []
within_idle d behind [] idle = omega arith
within_idle d behind (row ∷ rows) idle =
    (subst (λ (list : List Item). elements_in list ≤ room_behind d behind) (sym idle.0) (omega arith), within_idle d (is_hop row.stage) rows idle.1)

pub within-begins : (d : ℕ) (list : List Step) (run : Run) → ArePlainSteps list → run.rows.items ≡ rows_of list → run.ready ≡ [] → IsWithin d (hops_of list) run
within-begins d list run plain rows ready =
    let fresh = fresh_steps list plain in
    let same : hops_in run.rows.items ≡ hops_of list = ap hops_in rows ∙ hops_begin list in
    within_made d (hops_of list) run (subst ArePlain (sym rows) fresh.0) (omega arith)
    (subst (λ (r : List Item). AreWithin d false run.rows.items r) (sym ready) (subst (λ (rs : List Row). AreWithin d false rs []) (sym rows)
    (within_idle d false (rows_of list) fresh.1)))

-- ---- the end

pub within-none : (d most : ℕ) (run : Run) → run.rows.items ≡ [] → run.ready ≡ [] → IsWithin d most run
within-none d most run rows ready =
    let same : hops_in run.rows.items ≡ 0 = ap hops_in rows in
    within_made d most run (subst ArePlain (sym rows) tt) (omega arith)
    (subst (λ (r : List Item). AreWithin d false run.rows.items r) (sym ready) (subst (λ (rs : List Row). AreWithin d false rs []) (sym rows)
    (within_idle d false [] tt)))
