-- What one more kept call does to the content, to the pending places, and to the images.
use Rattle.std.proofs.Common.{◌≡◌, ◌⊎◌, inl, inr, ◌≤◌, drop, length-append, ⊎_elim, ℕ, ◌+◌, ◌-◌, ◌<◌, Bool, true, false}
use Rattle.std.proofs.Common.{not, cond, ◌&&◌, ◌||◌, leb, ltb, eqb, List, [], ◌∷◌, ◌++◌, length, get_or, ap, ◌∙◌, refl}
use Rattle.std.proofs.Common.{sym, arith}
use Rattle.std.proofs.lemmas.Bool.{cases_Bool, cases_lt, cond-true, cond-false, or_from, and_parts, and_from, eq-eqb}
use Rattle.std.proofs.lemmas.Bool.{le-leb, lt-ltb, eqb-true, leb-true, ltb-true, false_from_ne_true, and_right}
use Rattle.std.proofs.lemmas.List.{drop-append-le, drop_all}
use Rattle.disk_model.specs.Contents.{Files, Holds, InRange, SameOutside}
use Rattle.disk_model.specs.Disk.{TornIn, NoMore, Settled}
use Rattle.disk_model.specs.Calls.{Call, Wrote, Tore, Synced, in_range, covers, syncs, is_synced, is_pending, laid}
use Rattle.disk_model.specs.Calls.{content_after, calls_at, pending_since, content_since, Allows}

-- a call more is laid over the content
pub content_after-push : (base : Files) (calls : List Call) (call : Call) → content_after base (calls ++ call ∷ []) ≡ laid call (content_after base calls)
content_after-push base [] call = refl
content_after-push base (first ∷ calls) call = content_after-push (laid first base) calls call

-- what is laid at a place is told by what stood there
pub laid-at : (call : Call) (a b : Files) (file place : ℕ) → a file place ≡ b file place → laid call a file place ≡ laid call b file place
laid-at (Wrote written at bytes) a b file place same = ap (λ x. cond (in_range written at (length bytes) file place) (get_or bytes (place - at) 0) x) same
laid-at (Tore written at n) a b file place same = same
laid-at (Synced synced) a b file place same = same

-- a call more counts at each place that was poked before it
pub content_since-push : (base pokes : Files) (calls : List Call) (call : Call) (file place : ℕ) → pokes file place ≤ length calls
    → content_since base pokes (calls ++ call ∷ []) file place ≡ laid call (content_since base pokes calls) file place
content_since-push base pokes calls call file place past =
    let here = calls_at pokes calls file place in
    ap (λ cs. content_after base cs file place) (drop-append-le (pokes file place) calls (call ∷ []) past)
    ∙ ap (λ (c : Files). c file place) (content_after-push base here call)
    ∙ laid-at call (content_after base here) (content_since base pokes calls) file place refl

-- a call more counts at a place, or no call does
push_cases : (n : ℕ) (calls : List Call) (call : Call) → (drop n (calls ++ call ∷ []) ≡ drop n calls ++ call ∷ [])
    ⊎ ((drop n (calls ++ call ∷ []) ≡ []) × (drop n calls ≡ []))
push_cases n calls call =
    ⊎_elim
    (λ past. inr (drop_all n (calls ++ call ∷ []) (omega (arith, past, length-append calls (call ∷ []))), drop_all n calls (omega (arith, past))))
    (λ within. inl (drop-append-le n calls (call ∷ []) within))
    (cases_lt (length calls) n)

pub or_false : (b : Bool) → (b || false) ≡ b
or_false true = refl
or_false false = refl

or_assoc : (a b c : Bool) → (a || (b || c)) ≡ ((a || b) || c)
or_assoc true b c = refl
or_assoc false b c = refl

is_synced-push : (calls : List Call) (call : Call) (file : ℕ) → is_synced (calls ++ call ∷ []) file ≡ (is_synced calls file || syncs call file)
is_synced-push [] call file = or_false (syncs call file)
is_synced-push (first ∷ calls) call file = ap (λ b. syncs first file || b) (is_synced-push calls call file)
    ∙ or_assoc (syncs first file) (is_synced calls file) (syncs call file)

-- p: the place is pending among the calls after; v: the first call covers it; s: one of them syncs the file
pending_step : (here syncs_here p v s : Bool) → ((here || (p && not syncs_here)) || (v && not (s || syncs_here)))
    ≡ (here || ((p || (v && not s)) && not syncs_here))
pending_step true true p v s = refl
pending_step true false p v s = refl
pending_step false true true true true = refl
pending_step false true true true false = refl
pending_step false true true false s = refl
pending_step false true false true true = refl
pending_step false true false true false = refl
pending_step false true false false s = refl
pending_step false false true v s = refl
pending_step false false false true true = refl
pending_step false false false true false = refl
pending_step false false false false s = refl

pending_start : (here syncs_here : Bool) → (here && true) ≡ (here || (false && not syncs_here))
pending_start true syncs_here = refl
pending_start false syncs_here = refl

-- pending with a call more: it covers the place, or the place was pending and the call doesn't sync the file
pub is_pending-push : (calls : List Call) (call : Call) (file place : ℕ)
    → is_pending (calls ++ call ∷ []) file place ≡ (covers call file place || (is_pending calls file place && not (syncs call file)))
is_pending-push [] call file place = pending_start (covers call file place) (syncs call file)
is_pending-push (first ∷ calls) call file place =
    ap (λ b. b || (covers first file place && not (is_synced (calls ++ call ∷ []) file))) (is_pending-push calls call file place)
    ∙ ap (λ b. (covers call file place || (is_pending calls file place && not (syncs call file))) || (covers first file place && not b))
    (is_synced-push calls call file)
    ∙ pending_step (covers call file place) (syncs call file) (is_pending calls file place) (covers first file place) (is_synced calls file)

pub in_range-holds : (file at n other place : ℕ) → in_range file at n other place ≡ true → InRange file at n other place
in_range-holds file at n other place h =
    let parts = and_parts (eqb file other) (leb at place && ltb place (at + n)) h in
    let bounds = and_parts (leb at place) (ltb place (at + n)) parts.1 in
    record { in_file = sym (eqb-true file other parts.0); at_or_behind = leb-true at place bounds.0; before_end = ltb-true place (at + n) bounds.1 }

pub in_range-is : (file at n other place : ℕ) → InRange file at n other place → in_range file at n other place ≡ true
in_range-is file at n other place range =
    and_from (eqb file other) (leb at place && ltb place (at + n)) (eq-eqb file other (sym range.in_file))
    (and_from (leb at place) (ltb place (at + n)) (le-leb at place range.at_or_behind) (lt-ltb place (at + n) range.before_end))

pub in_range-outside : (file at n other place : ℕ) → ¬ InRange file at n other place → in_range file at n other place ≡ false
in_range-outside file at n other place out = false_from_ne_true (in_range file at n other place) (λ h. out (in_range-holds file at n other place h))

pub in_range-inside : (file at n i : ℕ) → i < n → in_range file at n file (at + i) ≡ true
in_range-inside file at n i below =
    and_from (eqb file file) (leb at (at + i) && ltb (at + i) (at + n)) (eq-eqb file file refl)
    (and_from (leb at (at + i)) (ltb (at + i) (at + n)) (le-leb at (at + i) (omega arith)) (lt-ltb (at + i) (at + n) (omega arith)))

-- a call that reaches these n bytes of the file and syncs nothing
pub record Reaches (call : Call) (file at n : ℕ) : Type 0 where
  pub range : (other place : ℕ) → covers call other place ≡ in_range file at n other place
  pub no_sync : (other : ℕ) → syncs call other ≡ false
  pub outside : (content : Files) (other place : ℕ) → in_range file at n other place ≡ false → laid call content other place ≡ content other place

pub Reaches-wrote : (file at : ℕ) (bytes : List ℕ) → Reaches (Wrote file at bytes) file at (length bytes)
Reaches-wrote file at bytes = record {
  range = λ other place. refl;
  no_sync = λ other. refl;
  outside = λ content other place out. cond-false
      (in_range file at (length bytes) other place) _ _ out;
}

pub Reaches-tore : (file at n : ℕ) → Reaches (Tore file at n) file at n
Reaches-tore file at n = record { range = λ other place. refl; no_sync = λ other. refl; outside = λ content other place out. refl }

-- a place outside of the range that was not pending stays so
settled-push : (pokes : Files) (calls : List Call) (call : Call) (file at n other place : ℕ) → Reaches call file at n → in_range file at n other place ≡ false
    → pending_since pokes calls other place ≡ false → pending_since pokes (calls ++ call ∷ []) other place ≡ false
settled-push pokes calls call file at n other place reaches out settled =
    let here = calls_at pokes calls other place in
    ⊎_elim
    (λ more.
    ap (λ cs. is_pending cs other place) more
    ∙ is_pending-push here call other place
    ∙ or_from (covers call other place) (is_pending here other place && not (syncs call other)) (reaches.range other place ∙ out)
    (ap (λ b. b && not (syncs call other)) settled))
    (λ none. ap (λ cs. is_pending cs other place) none.0)
    (push_cases (pokes other place) calls call)

-- and what is read there stays
content-outside : (base pokes : Files) (calls : List Call) (call : Call) (file at n other place : ℕ) → Reaches call file at n
    → in_range file at n other place ≡ false → content_since base pokes (calls ++ call ∷ []) other place ≡ content_since base pokes calls other place
content-outside base pokes calls call file at n other place reaches out =
    let here = calls_at pokes calls other place in
    ⊎_elim
    (λ more.
    ap (λ cs. content_after base cs other place) more
    ∙ ap (λ (c : Files). c other place) (content_after-push base here call)
    ∙ reaches.outside (content_after base here) other place out)
    (λ none. ap (λ cs. content_after base cs other place) (none.0 ∙ sym none.1))
    (push_cases (pokes other place) calls call)

pub TornIn-push : (base pokes : Files) (calls : List Call) (call : Call) (file at n : ℕ) → Reaches call file at n
    → TornIn file at n (Allows base pokes calls) (Allows base pokes (calls ++ call ∷ []))
TornIn-push base pokes calls call file at n reaches image allows =
    let content = content_since base pokes calls in
    let before = λ (other place : ℕ). cond (in_range file at n other place) (content other place) (image other place) in (
      before,
      λ other place settled. ⊎_elim
          (λ inside. cond-true (in_range file at n other place) (content other place) (image other place) inside)
          (λ out.
          cond-false (in_range file at n other place) (content other place) (image other place) out
          ∙ allows other place (settled-push pokes calls call file at n other place reaches out settled)
          ∙ content-outside base pokes calls call file at n other place reaches out)
          (cases_Bool (in_range file at n other place)),
      λ other place out. sym (cond-false (in_range file at n other place) (content other place) (image other place) (in_range-outside file at n other place
          out)),
    )

pub SameOutside-push : (base pokes : Files) (calls : List Call) (call : Call) (file at n : ℕ) → Reaches call file at n
    → SameOutside file at n (content_since base pokes calls) (content_since base pokes (calls ++ call ∷ []))
SameOutside-push base pokes calls call file at n reaches other place out =
    content-outside base pokes calls call file at n other place reaches (in_range-outside file at n other place out)

-- a sync leaves each place of its file settled, and no place pending that was not
synced_settles : (pokes : Files) (calls : List Call) (file place : ℕ) → pending_since pokes (calls ++ Synced file ∷ []) file place ≡ false
synced_settles pokes calls file place =
    let here = calls_at pokes calls file place in
    ⊎_elim
    (λ more.
    ap (λ cs. is_pending cs file place) more
    ∙ is_pending-push here (Synced file) file place
    ∙ ap (λ b. is_pending here file place && not b) (eq-eqb file file refl)
    ∙ and_right (is_pending here file place) false refl)
    (λ none. ap (λ cs. is_pending cs file place) none.0)
    (push_cases (pokes file place) calls (Synced file))

synced_keeps : (pokes : Files) (calls : List Call) (file other place : ℕ) → pending_since pokes calls other place ≡ false
    → pending_since pokes (calls ++ Synced file ∷ []) other place ≡ false
synced_keeps pokes calls file other place settled =
    ⊎_elim
    (λ more.
    ap (λ cs. is_pending cs other place) more
    ∙ is_pending-push (calls_at pokes calls other place) (Synced file) other place
    ∙ ap (λ b. b && not (eqb file other)) settled)
    (λ none. ap (λ cs. is_pending cs other place) none.0)
    (push_cases (pokes other place) calls (Synced file))

pub content-synced : (base pokes : Files) (calls : List Call) (file other place : ℕ)
    → content_since base pokes (calls ++ Synced file ∷ []) other place ≡ content_since base pokes calls other place
content-synced base pokes calls file other place =
    ⊎_elim
    (λ more. ap (λ cs. content_after base cs other place) more ∙ ap (λ (c : Files). c other place) (content_after-push base (calls_at pokes calls other place)
    (Synced file)))
    (λ none. ap (λ cs. content_after base cs other place) (none.0 ∙ sym none.1))
    (push_cases (pokes other place) calls (Synced file))

pub NoMore-synced : (base pokes : Files) (calls : List Call) (file : ℕ) → NoMore (Allows base pokes calls) (Allows base pokes (calls ++ Synced file ∷ []))
NoMore-synced base pokes calls file image allows other place settled = allows other place (synced_keeps pokes calls file other place settled)
    ∙ content-synced base pokes calls file other place

pub Settled-synced : (base pokes : Files) (calls : List Call) (file : ℕ)
    → Settled file (content_since base pokes calls) (Allows base pokes (calls ++ Synced file ∷ []))
Settled-synced base pokes calls file image allows place = allows file place (synced_settles pokes calls file place)
    ∙ content-synced base pokes calls file file place

-- a write is read
pub Holds-wrote : (base pokes : Files) (calls : List Call) (file at : ℕ) (bytes : List ℕ) → ((f p : ℕ) → pokes f p ≤ length calls)
    → Holds file at bytes (content_since base pokes (calls ++ Wrote file at bytes ∷ []))
Holds-wrote base pokes calls file at bytes past i below =
    let there : (at + i) - at ≡ i = omega arith in
    sym (content_since-push base pokes calls (Wrote file at bytes) file (at + i) (past file (at + i))
    ∙ cond-true (in_range file at (length bytes) file (at + i)) _ _ (in_range-inside file at (length bytes) i below)
    ∙ ap (λ k. get_or bytes k 0) there)
