-- Bytes that are put in a range of a file where a call counts, and one byte at each pending place.
use Rattle.std.proofs.Common.{◌≡◌, ⊎_elim, ℕ, suc, ◌+◌, ◌-◌, ◌<◌, ◌≤◌, min, Bool, true, false, not, cond, ◌&&◌, ◌||◌}
use Rattle.std.proofs.Common.{leb, ltb, List, [], ◌∷◌, length, get_or, take, drop, ap, ◌∙◌, refl, sym, arith}
use Rattle.std.proofs.lemmas.Bool.{cases_lt, and_from, and_left, and_right, le-leb, lt-leb, lt-ltb, le-ltb}
use Rattle.std.proofs.lemmas.Grind.{common_steps}
use Rattle.std.specs.List.{AllByRecursion}
use Rattle.std.proofs.Math.Seq.{drop-cons}
use Rattle.disk_model.specs.declared.call_log.KeptCall.{KeptCall}
use Rattle.disk_model.specs.declared.call_log.KeptCall.TheVariants as kept
use Rattle.disk_model.specs.Calls.{covers, syncs, is_synced, is_pending, in_range}
use Rattle.disk_model.specs.CallLog.{call_of, calls_of, IsKeptWithin, kept_covers, kept_syncs, kept_synced, kept_pending}

-- a range that is cut at the end of a file
pub range-cut : (at len size i start count : ℕ) → start ≡ min at size → count ≡ min len (size - start)
    → (leb start i && ltb i (start + count)) ≡ ((leb at i && ltb i (at + len)) && ltb i size)
range-cut at len size i start count begins counts =
    ⊎_elim
    (λ before. ⊎_elim
    (λ known. and_left (leb start i) (ltb i (start + count)) (lt-leb start i (omega arith)))
    (λ past. and_right (leb start i) (ltb i (start + count)) (le-ltb i (start + count) (omega arith)))
    (cases_lt i size)
    ∙ sym (and_left (leb at i && ltb i (at + len)) (ltb i size) (and_left (leb at i) (ltb i (at + len)) (lt-leb at i before))))
    (λ from. ⊎_elim
    (λ within. ⊎_elim
    (λ known.
    and_from (leb start i) (ltb i (start + count)) (le-leb start i (omega arith)) (lt-ltb i (start + count) (omega arith))
    ∙ sym (and_from (leb at i && ltb i (at + len)) (ltb i size) (and_from (leb at i) (ltb i (at + len)) (le-leb at i from) (lt-ltb i (at + len) within))
    (lt-ltb i size known)))
    (λ past.
    and_right (leb start i) (ltb i (start + count)) (le-ltb i (start + count) (omega arith))
    ∙ sym (and_right (leb at i && ltb i (at + len)) (ltb i size) (le-ltb i size past)))
    (cases_lt i size))
    (λ behind.
    and_right (leb start i) (ltb i (start + count)) (le-ltb i (start + count) (omega arith))
    ∙ sym (and_left (leb at i && ltb i (at + len)) (ltb i size) (and_right (leb at i) (ltb i (at + len)) (le-ltb i (at + len) behind))))
    (cases_lt i (at + len)))
    (cases_lt i at)

-- these bytes have new values from one place on and before another, where a test passes
abbrev pub ArePut : ℕ → ℕ → (ℕ → Bool) → (ℕ → ℕ) → List ℕ → List ℕ → Type 0
ArePut at end test value first bytes = (k : ℕ) → get_or bytes k 0 ≡ cond ((leb at k && ltb k end) && test k) (value k) (get_or first k 0)

part-length : (bytes : List ℕ) (start len : ℕ) → start + len ≤ length bytes → length (take len (drop start bytes)) ≡ len
part-length bytes start len within = grind (arith, common_steps)

covers-is : (bytes : List ℕ) (call : KeptCall) (file place : ℕ) → IsKeptWithin (length bytes) call
    → covers (call_of bytes call) file place ≡ kept_covers call file place
covers-is bytes (kept.Wrote file at start len) other place within = ap (λ n. in_range file at n other place) (part-length bytes start len within.1)
covers-is bytes (kept.Tore file at len) other place within = refl
covers-is bytes (kept.Synced file) other place within = refl

syncs-is : (bytes : List ℕ) (call : KeptCall) (file : ℕ) → kept_syncs call file ≡ syncs (call_of bytes call) file
syncs-is bytes (kept.Wrote file at start len) other = refl
syncs-is bytes (kept.Tore file at len) other = refl
syncs-is bytes (kept.Synced file) other = refl

pub kept_synced-is : (calls : List KeptCall) (bytes : List ℕ) (file : ℕ) → kept_synced calls file ≡ is_synced (calls_of calls bytes) file
kept_synced-is [] bytes file = refl
kept_synced-is (call ∷ calls) bytes file = ap (λ b. b || kept_synced calls file) (syncs-is bytes call file)
    ∙ ap (λ b. syncs (call_of bytes call) file || b) (kept_synced-is calls bytes file)

-- the kept calls and the calls that they stand for have the same pending places
pub kept_pending-is : (calls : List KeptCall) (bytes : List ℕ) (file place : ℕ) → AllByRecursion (IsKeptWithin (length bytes)) calls
    → kept_pending calls file place ≡ is_pending (calls_of calls bytes) file place
kept_pending-is [] bytes file place within = refl
kept_pending-is (call ∷ calls) bytes file place within =
    ap (λ b. b || (kept_covers call file place && not (kept_synced calls file))) (kept_pending-is calls bytes file place within.1)
    ∙ ap (λ b. is_pending (calls_of calls bytes) file place || (b && not (kept_synced calls file))) (sym (covers-is bytes call file place within.0))
    ∙ ap (λ b. is_pending (calls_of calls bytes) file place || (covers (call_of bytes call) file place && not b)) (kept_synced-is calls bytes file)

unknown : {A : Type 0} (here later : Bool) (byte old : A) → cond (here && false) byte (cond (later && false) byte old) ≡ cond ((later || here) && false) byte
    old
unknown true true byte old = refl
unknown true false byte old = refl
unknown false true byte old = refl
unknown false false byte old = refl

-- a place is filled by a call, or was by a later one
pub fill_both : {A : Type 0} (here later known : Bool) (byte old : A) → cond (here && known) byte (cond (later && known) byte old) ≡ cond
    ((later || here) && known) byte old
fill_both here later false byte old = unknown here later byte old
fill_both true true true byte old = refl
fill_both true false true byte old = refl
fill_both false true true byte old = refl
fill_both false false true byte old = refl

pub drop_before : (calls : List KeptCall) (i : ℕ) (d : KeptCall) → 0 < i → i ≤ length calls → drop (i - 1) calls ≡ get_or calls (i - 1) d ∷ drop i calls
drop_before calls i d some within =
    let is : suc (i - 1) ≡ i = omega arith in
    drop-cons calls (i - 1) d (omega arith) ∙ ap (λ k. get_or calls (i - 1) d ∷ drop k calls) is

pub and_true : (b : Bool) → (b && true) ≡ b
and_true true = refl
and_true false = refl

or_none : (a b : Bool) → (a || (b && false)) ≡ a
or_none true b = refl
or_none false true = refl
or_none false false = refl

-- what is pending by the calls that count at a place, with a call more before them: n of the calls don't count there
pub kept_pending-before : (call : KeptCall) (later : List KeptCall) (n number file place : ℕ)
    → kept_pending (drop (n - number) (call ∷ later)) file place ≡ (kept_pending (drop (n - (number + 1)) later) file place ||
    ((kept_covers call file place && not (kept_synced later file)) && leb n number))
kept_pending-before call later n number file place =
    let here = kept_covers call file place && not (kept_synced later file) in
    ⊎_elim
    (λ uncounted.
    let more : n - number ≡ suc (n - (number + 1)) = omega arith in
    ap (λ k. kept_pending (drop k (call ∷ later)) file place) more
    ∙ sym (ap (λ b. kept_pending (drop (n - (number + 1)) later) file place || (here && b)) (lt-leb n number uncounted) ∙ or_none
    (kept_pending (drop (n - (number + 1)) later) file place) here))
    (λ counted.
    let none : n - number ≡ 0 = omega arith in
    let none_later : n - (number + 1) ≡ 0 = omega arith in
    ap (λ k. kept_pending (drop k (call ∷ later)) file place) none
    ∙ sym (ap (λ k. kept_pending (drop k later) file place || (here && leb n number)) none_later ∙ ap (λ b. kept_pending later file place || (here && b))
    (le-leb n number counted) ∙ ap (λ b. kept_pending later file place || b) (and_true here)))
    (cases_lt number n)
