-- How many elements wait behind the steps of a run.
use Rattle.std.proofs.Common.{◌≡◌, ◌⊎◌, inl, inr, ⊎_elim, ◌<◌, ◌≤◌, ℕ, ◌+◌, suc, zero, Bool, true, false, cond, List}
use Rattle.std.proofs.Common.{[], ◌∷◌, ◌++◌, map, length, drop, get_or, set, add-one, refl, sym, ap, ◌∙◌, subst, arith}
use Rattle.std.proofs.lemmas.Bool.{cases_lt}
use Rattle.std.proofs.lemmas.List.{length-set}
use Rattle.std.proofs.lemmas.List.Sums.{count_by-le-length, sum_by-cons}
use Rattle.plain_graph.specs.declared.item.Item.{Item}
use Rattle.plain_graph.specs.declared.item.Item.TheVariants as items
use Rattle.traversal_run.specs.Held.{AreNear, ArePlain, IsBatch, IsNear, elements_in, hops_in, is_element, is_hop, is_plain, room_behind}
use Rattle.traversal_run.specs.Row.{AreIdle}
use Rattle.traversal_run.specs.Scan.{limit_row}
use Rattle.traversal_run.specs.declared.row.Row.{Row}
use Rattle.traversal_run.proofs.Rows.{idle_at}

-- ---- lists of items

pub elements-cons : (item : Item) (list : List Item) → elements_in (item ∷ list) ≡ cond (is_element item) 1 0 + elements_in list
elements-cons item list = sum_by-cons (λ x. cond (is_element x) 1 0) item list

-- vertices are elements
pub elements-vertices : (ids : List ℕ) (list : List Item) → elements_in (map items.Vertex ids ++ list) ≡ length ids + elements_in list
elements-vertices [] list = omega arith
elements-vertices (id ∷ ids) list =
    let rest = elements-vertices ids list in
    let one = elements-cons (items.Vertex id) (map items.Vertex ids ++ list) in
    omega (arith, one, rest)

pub elements-few : (list : List Item) → elements_in list ≤ length list
elements-few list = count_by-le-length is_element list

pub elements-later : (item : Item) (list : List Item) → elements_in list ≤ elements_in (item ∷ list)
elements-later item list = omega (arith, elements-cons item list)

rest_fewer : (list : List Item) → elements_in (drop 1 list) ≤ elements_in list
rest_fewer [] = omega arith
rest_fewer (item ∷ []) = elements-later item []
rest_fewer (item ∷ next ∷ list) = elements-later item (next ∷ list)

rest_none : (list : List Item) → length list ≤ 1 → elements_in (drop 1 list) ≤ 0
rest_none [] one = omega arith
rest_none (item ∷ []) one = omega arith
rest_none (item ∷ next ∷ list) one = absurd (omega arith)

nothing_left : (list : List Item) → list ≡ [] → elements_in list ≤ 0
nothing_left list none = subst (λ (l : List Item). elements_in l ≤ 0) (sym none) (omega arith)

-- ---- the steps of rows

pub hops-cons : (row : Row) (rows : List Row) → hops_in (row ∷ rows) ≡ cond (is_hop row.stage) 1 0 + hops_in rows
hops-cons row rows = sum_by-cons (λ (r : Row). cond (is_hop r.stage) 1 0) row rows

pub hops-set : (rows : List Row) (at : ℕ) (new any : Row) → is_hop new.stage ≡ is_hop (get_or rows at any).stage → hops_in (set rows at new) ≡ hops_in rows
hops-set [] at new any same = refl
hops-set (row ∷ rows) zero new any same = hops-cons new rows ∙ ap (λ b. cond b 1 0 + hops_in rows) same ∙ sym (hops-cons row rows)
hops-set (row ∷ rows) (suc at) new any same = hops-cons row (set rows at new) ∙ ap (λ n. cond (is_hop row.stage) 1 0 + n) (hops-set rows at new any same)
    ∙ sym (hops-cons row rows)

pub plain-set : (rows : List Row) (at : ℕ) (new any : Row) → is_plain new.stage ≡ is_plain (get_or rows at any).stage → ArePlain rows
    → ArePlain (set rows at new)
plain-set [] at new any same plain = plain
plain-set (row ∷ rows) zero new any same plain = (same ∙ plain.0, plain.1)
plain-set (row ∷ rows) (suc at) new any same plain = (plain.0, plain-set rows at new any same plain.1)

pub plain_at : (rows : List Row) (at : ℕ) (any : Row) → at < length rows → ArePlain rows → is_plain (get_or rows at any).stage ≡ true
plain_at [] at any lt plain = absurd (omega arith)
plain_at (row ∷ rows) zero any lt plain = plain.0
plain_at (row ∷ rows) (suc at) any lt plain = plain_at rows at any (omega arith) plain.1

pub plain-drop : (rows : List Row) (at : ℕ) → ArePlain rows → ArePlain (drop at rows)
plain-drop [] zero plain = plain
plain-drop [] (suc at) plain = plain
plain-drop (row ∷ rows) zero plain = plain
plain-drop (row ∷ rows) (suc at) plain = plain-drop rows at plain.1

pub hops-drop : (rows : List Row) (at : ℕ) → hops_in (drop at rows) ≤ hops_in rows
hops-drop [] zero = omega arith
hops-drop [] (suc at) = omega arith
hops-drop (row ∷ rows) zero = omega arith
hops-drop (row ∷ rows) (suc at) = omega (arith, hops-drop rows at, hops-cons row rows)

idle_set : (rows : List Row) (at : ℕ) (new : Row) → new.waiting ≡ [] → AreIdle rows → AreIdle (set rows at new)
idle_set [] at new none idle = idle
idle_set (row ∷ rows) zero new none idle = (none, idle.1)
idle_set (row ∷ rows) (suc at) new none idle = (idle.0, idle_set rows at new none idle.1)

-- ---- amid a call

pub near-idle : (d : ℕ) (behind : Bool) (rows : List Row) → AreIdle rows → AreNear d behind rows []
near-idle d behind [] idle = inr (omega arith)
near-idle d behind (row ∷ rows) idle =
    let none = nothing_left row.waiting idle.0 in
    inl (omega arith, near-idle d (is_hop row.stage) rows idle.1)

-- items come to a row that is idle, as all behind it
near_given : (d : ℕ) (behind : Bool) (row : Row) (rows : List Row) (outs : List Item) → AreIdle rows → IsBatch d behind outs
    → AreNear d behind (record row { waiting = outs } ∷ rows) []
near_given d behind row rows outs idle batch =
    ⊎_elim (λ (few : elements_in outs ≤ room_behind d behind). inl (few, near-idle d (is_hop row.stage) rows idle))
    (λ (one : length outs ≤ 1). inr (one, idle, refl)) batch

-- one item comes to the first row, or is ready where there is none
pub near-first : (d : ℕ) (rows : List Row) (any : Row) (outs ready : List Item) → AreIdle rows → length outs ≤ 1 → (0 < length rows → ready ≡ [])
    → (length rows ≤ 0 → ready ≡ outs) → AreNear d false (set rows 0 (record (get_or rows 0 any) { waiting = outs })) ready
near-first d [] any outs ready idle one passed given = subst (IsBatch d false) (sym (given (omega arith))) (inr one)
near-first d (row ∷ rows) any outs ready idle one passed given =
    subst (AreNear d false (record row { waiting = outs } ∷ rows)) (sym (passed (omega arith))) (near_given d false row rows outs idle.1 (inr one))

-- A row gives items for the first one that waits, and they come to the row behind it, or are ready.
module _ (d : ℕ) (row new next : Row) (outs ready : List Item)
    (hops : is_hop new.stage ≡ is_hop row.stage) (rest : new.waiting ≡ drop 1 row.waiting) (nothing : row.waiting ≡ [] → outs ≡ [])
    (batch : IsBatch d (is_hop row.stage) outs) where
  rest_within : (room : ℕ) → (elements_in row.waiting ≤ room) ⊎ (length row.waiting ≤ 1) → elements_in new.waiting ≤ room
  rest_within room here =
      let fewer = rest_fewer row.waiting in
      let same : elements_in new.waiting ≡ elements_in (drop 1 row.waiting) = ap elements_in rest in
      ⊎_elim (λ (few : elements_in row.waiting ≤ room). let b : elements_in new.waiting ≤ room = omega arith in b)
      (λ (one : length row.waiting ≤ 1). let none = rest_none row.waiting one in let b : elements_in new.waiting ≤ room = omega arith in b) here

  near_suc : (behind : Bool) (rows : List Row) (at : ℕ) (any : Row) → at < length rows → row ≡ get_or rows at any → AreIdle (drop (suc at) rows)
      → (suc at < length rows → ready ≡ []) → (length rows ≤ suc at → ready ≡ outs) → AreNear d behind rows []
      → AreNear d behind (set (set rows at new) (suc at) (record (get_or (set rows at new) (suc at) next) { waiting = outs })) ready
  near_suc behind [] at any lt is idle passed given near = absurd (omega arith)
  near_suc behind (first ∷ []) zero any lt is idle passed given near =
      let here = ⊎_elim (λ (few : (elements_in first.waiting ≤ room_behind d behind) × IsBatch d (is_hop first.stage) []). inl few.0)
      (λ (one : (length first.waiting ≤ 1) × Unit {0} × ([] ≡ [])). inr one.0) near in
      inl (
        rest_within (room_behind d behind) (subst (λ (r : Row). (elements_in r.waiting ≤ room_behind d behind) ⊎ (length r.waiting ≤ 1)) (sym is) here),
        subst (IsBatch d (is_hop new.stage)) (sym (given (omega arith))) (subst (λ b. IsBatch d b outs) (sym hops) batch),
      )
  near_suc behind (first ∷ second ∷ rows) zero any lt is idle passed given near =
      let here = ⊎_elim (λ (few : (elements_in first.waiting ≤ room_behind d behind) × AreNear d (is_hop first.stage) (second ∷ rows) []). inl few.0)
      (λ (one : (length first.waiting ≤ 1) × AreIdle (second ∷ rows) × ([] ≡ [])). inr one.0) near in
      inl (
        rest_within (room_behind d behind) (subst (λ (r : Row). (elements_in r.waiting ≤ room_behind d behind) ⊎ (length r.waiting ≤ 1)) (sym is) here),
        subst (AreNear d (is_hop new.stage) (record second { waiting = outs } ∷ rows)) (sym (passed (omega arith)))
            (near_given d (is_hop new.stage) second rows outs idle.1 (subst (λ b. IsBatch d b outs) (sym hops) batch)),
      )
  near_suc behind (first ∷ rows) (suc at) any lt is idle passed given near =
      ⊎_elim (λ (few : (elements_in first.waiting ≤ room_behind d behind) × AreNear d (is_hop first.stage) rows []).
      inl (few.0, near_suc (is_hop first.stage) rows at any (omega arith) is idle (λ l. passed (omega arith)) (λ l. given (omega arith)) few.1))
      (λ (one : (length first.waiting ≤ 1) × AreIdle rows × ([] ≡ [])).
      let none : row.waiting ≡ [] = idle_at rows at row any (omega arith) is one.1 in
      let empty : outs ≡ [] = nothing none in
      let later : new.waiting ≡ [] = rest ∙ ap (drop 1) none in
      let ends : ready ≡ [] = ⊎_elim passed (λ l. given l ∙ empty) (cases_lt (suc (suc at)) (length (first ∷ rows))) in
      inr (
        one.0,
        idle_set (set rows at new) (suc at) (record (get_or (set rows at new) (suc at) next) { waiting = outs }) empty
            (idle_set rows at new later one.1),
        ends,
      )) near

-- the same of all that is known of rows
pub near-advanced : (d most : ℕ) (rows later : List Row) (at : ℕ) (row new any : Row) (outs ready : List Item) → at < length rows → row ≡ get_or rows at any
    → is_hop new.stage ≡ is_hop row.stage → is_plain new.stage ≡ is_plain row.stage → new.waiting ≡ drop 1 row.waiting → (row.waiting ≡ [] → outs ≡ [])
    → IsBatch d (is_hop row.stage) outs
    → AreIdle (drop (at + 1) rows) → (at + 1 < length (set rows at new) → ready ≡ []) → (length (set rows at new) ≤ at + 1 → ready ≡ outs)
    → ((next : Row) → later ≡ set (set rows at new) (at + 1) (record (get_or (set rows at new) (at + 1) next) { waiting = outs }))
    → IsNear d most rows [] → IsNear d most later ready
near-advanced d most rows later at row new any outs ready lt is hops plain rest nothing batch idle passed given put near =
    let next : at + 1 ≡ suc at = add-one at in
    let back : suc at ≡ at + 1 = sym next in
    let long = length-set rows at new in
    let stage_of : is_plain new.stage ≡ is_plain (get_or rows at any).stage = plain ∙ ap (λ (r : Row). is_plain r.stage) is in
    let hop_of : is_hop new.stage ≡ is_hop (get_or rows at any).stage = hops ∙ ap (λ (r : Row). is_hop r.stage) is in
    let behind : Row = record (get_or (set rows at new) (at + 1) any) { waiting = outs } in
    let same : hops_in later ≡ hops_in rows = ap hops_in (put any) ∙ hops-set (set rows at new) (at + 1) behind any refl ∙ hops-set rows at new any hop_of in
    let most_of = near.hops in
    record {
      plain = subst ArePlain (sym (put any)) (plain-set (set rows at new) (at + 1) behind any refl (plain-set rows at new any stage_of near.plain));
      hops = omega arith;
      near = subst (λ (list : List Row). AreNear d false list ready) (sym (put any))
          (subst (λ n. AreNear d false (set (set rows at new) n (record (get_or (set rows at new) n any) { waiting = outs })) ready) back
          (near_suc d row new any outs ready hops rest nothing batch false rows at any lt is (subst (λ n. AreIdle (drop n rows)) next idle)
          (λ l. passed (omega arith)) (λ l. given (omega arith)) near.near));
    }

-- the source's item comes to the first row
pub near-sourced : (d most : ℕ) (rows later : List Row) (item : Item) (outs ready : List Item) → outs ≡ item ∷ [] → AreIdle rows
    → (0 < length rows → ready ≡ []) → (length rows ≤ 0 → ready ≡ outs)
    → ((any : Row) → later ≡ set rows 0 (record (get_or rows 0 any) { waiting = outs })) → IsNear d most rows [] → IsNear d most later ready
near-sourced d most rows later item outs ready one idle passed given put near =
    let any = limit_row 0 [] in
    let new : Row = record (get_or rows 0 any) { waiting = outs } in
    let same : hops_in later ≡ hops_in rows = ap hops_in (put any) ∙ hops-set rows 0 new any refl in
    let most_of = near.hops in
    let long : length outs ≡ 1 = ap length one in
    record {
      plain = subst ArePlain (sym (put any)) (plain-set rows 0 new any refl near.plain);
      hops = omega arith;
      near = subst (λ (list : List Row). AreNear d false list ready) (sym (put any)) (near-first d rows any outs ready idle (omega arith) passed given);
    }

-- items come to the first row, or are ready where there is none
near_put : (d : ℕ) (behind : Bool) (rows : List Row) (any : Row) (outs ready : List Item) → AreIdle rows → IsBatch d behind outs
    → (0 < length rows → ready ≡ []) → (length rows ≤ 0 → ready ≡ outs)
    → AreNear d behind (set rows 0 (record (get_or rows 0 any) { waiting = outs })) ready
near_put d behind [] any outs ready idle batch passed given = subst (IsBatch d behind) (sym (given (omega arith))) batch
near_put d behind (row ∷ rows) any outs ready idle batch passed given =
    subst (AreNear d behind (record row { waiting = outs } ∷ rows)) (sym (passed (omega arith))) (near_given d behind row rows outs idle.1 batch)

near_first_gives : (d : ℕ) (rows : List Row) (row new any : Row) (outs ready : List Item) → 0 < length rows → row ≡ get_or rows 0 any
    → new.waiting ≡ row.waiting → IsBatch d (is_hop new.stage) outs → AreIdle rows
    → (1 < length rows → ready ≡ []) → (length rows ≤ 1 → ready ≡ outs)
    → AreNear d false (set (set rows 0 new) 1 (record (get_or (set rows 0 new) 1 any) { waiting = outs })) ready
near_first_gives d [] row new any outs ready lt is same batch idle passed given = absurd (omega arith)
near_first_gives d (first ∷ rows) row new any outs ready lt is same batch idle passed given =
    let none = nothing_left new.waiting (same ∙ ap (λ (r : Row). r.waiting) is ∙ idle.0) in
    inl (none, near_put d (is_hop new.stage) rows any outs ready idle.1 batch (λ l. passed (omega arith)) (λ l. given (omega arith)))

-- the first row gives items of the source, with none that waits
pub near-fed : (d most : ℕ) (rows later : List Row) (row new any : Row) (outs ready : List Item) → 0 < length rows → row ≡ get_or rows 0 any
    → new.waiting ≡ row.waiting
    → is_hop new.stage ≡ is_hop row.stage → is_plain new.stage ≡ is_plain row.stage → IsBatch d (is_hop row.stage) outs → AreIdle rows
    → (1 < length (set rows 0 new) → ready ≡ []) → (length (set rows 0 new) ≤ 1 → ready ≡ outs)
    → ((next : Row) → later ≡ set (set rows 0 new) 1 (record (get_or (set rows 0 new) 1 next) { waiting = outs }))
    → IsNear d most rows [] → IsNear d most later ready
near-fed d most rows later row new any outs ready lt is same hops plain batch idle passed given put near =
    let long = length-set rows 0 new in
    let stage_of : is_plain new.stage ≡ is_plain (get_or rows 0 any).stage = plain ∙ ap (λ (r : Row). is_plain r.stage) is in
    let hop_of : is_hop new.stage ≡ is_hop (get_or rows 0 any).stage = hops ∙ ap (λ (r : Row). is_hop r.stage) is in
    let behind : Row = record (get_or (set rows 0 new) 1 any) { waiting = outs } in
    let count : hops_in later ≡ hops_in rows = ap hops_in (put any) ∙ hops-set (set rows 0 new) 1 behind any refl ∙ hops-set rows 0 new any hop_of in
    let most_of = near.hops in
    record {
      plain = subst ArePlain (sym (put any)) (plain-set (set rows 0 new) 1 behind any refl (plain-set rows 0 new any stage_of near.plain));
      hops = omega arith;
      near = subst (λ (list : List Row). AreNear d false list ready) (sym (put any))
          (near_first_gives d rows row new any outs ready lt is same (subst (λ b. IsBatch d b outs) (sym hops) batch) idle (λ l. passed (omega arith))
          (λ l. given (omega arith)));
    }
