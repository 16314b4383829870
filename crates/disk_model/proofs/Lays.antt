-- The files as they were at their last syncs: the writes that a later call synced, laid over the base.
use Rattle.std.proofs.Common.{◌≡◌, ⊎_elim, ℕ, zero, suc, ◌+◌, ◌-◌, ◌<◌, ◌≤◌, Bool, true, false, not, cond, ◌&&◌, ◌||◌}
use Rattle.std.proofs.Common.{ltb, eqb, leb, List, [], ◌∷◌, length, get_or, set, drop, subst, ap, ◌∙◌, refl, sym, arith}
use Rattle.std.proofs.Common.{zero-add}
use Rattle.std.specs.List.{AllByRecursion}
use Rattle.std.proofs.lemmas.Bool.{cases_Bool, cases_eq, cases_lt, cond-true, cond-false, and_left, and_right, eq-eqb}
use Rattle.std.proofs.lemmas.Bool.{ne_eqb, le-leb, lt-leb, both_ways, lt-ltb, or_parts, and_cases, not_from_false}
use Rattle.std.proofs.lemmas.List.{get_or-set_same, get_or-set_other}
use Rattle.disk_model.specs.declared.call_log.KeptCall.{KeptCall}
use Rattle.disk_model.specs.Contents.{Files}
use Rattle.disk_model.specs.PlainDisk.{file_of, rooms_of, contents}
use Rattle.disk_model.specs.Calls.{Call, Wrote, Tore, Synced, FitsFile, covers, in_range, is_synced, is_pending, laid, content_after, synced_content}
use Rattle.disk_model.specs.CallLog.{call_of, calls_of, kept_syncs, kept_synced, sync_count}
use Rattle.disk_model.proofs.Fills.{ArePut, and_true, kept_synced-is}
use Rattle.disk_model.proofs.Images.{laid-at}
use Rattle.disk_model.proofs.ReadFiles.{same_room}

one-at-most : (b : Bool) → cond b 1 0 ≤ 1
one-at-most true = omega arith
one-at-most false = omega arith

pub sync_count-most : (calls : List KeptCall) (file : ℕ) → sync_count calls file ≤ length calls
sync_count-most [] file = omega arith
sync_count-most (call ∷ calls) file = omega (arith, sync_count-most calls file, one-at-most (kept_syncs call file))

count-more : (b : Bool) (n : ℕ) → ltb 0 (cond b 1 0 + n) ≡ (b || ltb 0 n)
count-more true n = lt-ltb 0 (1 + n) (omega arith)
count-more false n = ap (λ k. ltb 0 k) (zero-add n)

-- a file was synced where the count of its syncs isn't 0
pub sync_count-some : (calls : List KeptCall) (file : ℕ) → ltb 0 (sync_count calls file) ≡ kept_synced calls file
sync_count-some [] file = refl
sync_count-some (call ∷ calls) file = count-more (kept_syncs call file) (sync_count calls file)
    ∙ ap (λ b. kept_syncs call file || b) (sync_count-some calls file)

nest : (here counts : Bool) (byte old : ℕ) → cond (here && counts) byte old ≡ cond counts (cond here byte old) old
nest true counts byte old = refl
nest false true byte old = refl
nest false false byte old = refl

either : (b : Bool) (x : ℕ) → x ≡ cond b x x
either true x = refl
either false x = refl

-- a write to a file that the test passes, laid where it counts
pub lay-one : (test : ℕ → Bool) (counts : ℕ → ℕ → Bool) (files : List (List ℕ)) (file at : ℕ) (part new : List ℕ) (other place : ℕ) → test file ≡ true
    → file < length files
    → ArePut at (at + length part) (counts file) (λ i. get_or part (i - at) 0) (file_of files file) new
    → contents (set files file new) other place ≡ cond (test other && counts other place) (laid (Wrote file at part) (contents files) other place)
    (contents files other place)
lay-one test counts files file at part new other place passes known lays =
    ⊎_elim
    (λ same.
    let here = leb at place && ltb place (at + length part) in
    let byte = get_or part (place - at) 0 in
    let old = contents files file place in
    subst (λ o. contents (set files file new) o place ≡ cond (test o && counts o place) (laid (Wrote file at part) (contents files) o place)
    (contents files o place)) (sym same)
    (ap (λ f. get_or f place 0) (get_or-set_same files file new [] known)
    ∙ lays place
    ∙ nest here (counts file place) byte old
    ∙ sym (ap (λ e. cond (counts file place) (cond (e && here) byte old) old) (eq-eqb file file refl))
    ∙ sym (ap (λ t. cond (t && counts file place) (cond (eqb file file && here) byte old) old) passes)))
    (λ differs.
    let apart : (file ≡ other → ⊥) = λ same. differs (sym same) in
    let laid_other : laid (Wrote file at part) (contents files) other place ≡ contents files other place =
    cond-false (in_range file at (length part) other place) _ _ (and_left (eqb file other) (leb at place && ltb place (at + length part))
    (ne_eqb file other apart)) in
    ap (λ f. get_or f place 0) (get_or-set_other files file other new [] differs)
    ∙ either (test other && counts other place) (contents files other place)
    ∙ sym (ap (λ x. cond (test other && counts other place) x (contents files other place)) laid_other))
    (cases_eq other file)

fits-same : (files base : List (List ℕ)) (call : Call) → rooms_of files ≡ rooms_of base → FitsFile base call → FitsFile files call
fits-same files base (Wrote file at bytes) same fits = omega (arith, same_room files base file same)
fits-same files base (Tore file at n) same fits = omega (arith, same_room files base file same)
fits-same files base (Synced file) same fits = tt

pub fits-all : (files base : List (List ℕ)) (calls : List Call) → rooms_of files ≡ rooms_of base → AllByRecursion (FitsFile base) calls
    → AllByRecursion (FitsFile files) calls
fits-all files base [] same fits = tt
fits-all files base (call ∷ calls) same fits = (fits-same files base call same fits.0, fits-all files base calls same fits.1)

-- each kept call fits its file
pub fits-at : (files base : List (List ℕ)) (bytes : List ℕ) (calls : List KeptCall) (i : ℕ) (d : KeptCall) → i < length calls → rooms_of files ≡ rooms_of base
    → AllByRecursion (FitsFile base) (calls_of calls bytes) → FitsFile files (call_of bytes (get_or calls i d))
fits-at files base bytes [] i d below same fits = absurd (omega (arith, below))
fits-at files base bytes (call ∷ calls) zero d below same fits = fits-same files base (call_of bytes call) same fits.0
fits-at files base bytes (call ∷ calls) (suc i) d below same fits = fits-at files base bytes calls i d (omega arith) same fits.1

-- what is left at a place is told by what stood there
synced_content-at : (calls : List Call) (a b : Files) (file place : ℕ) → a file place ≡ b file place
    → synced_content a calls file place ≡ synced_content b calls file place
synced_content-at [] a b file place same = same
synced_content-at (call ∷ calls) a b file place same =
    synced_content-at calls _ _ file place (ap (λ x. cond (is_synced calls file) x (a file place)) (laid-at call a b file place same) ∙ ap
    (λ x. cond (is_synced calls file) (laid call b file place) x) same)

-- one call is laid where it counts, and then those after it: n of the calls don't count at the place
pub lay-step : (call : KeptCall) (later : List KeptCall) (bytes : List ℕ) (number n : ℕ) (old new : Files) (count : ℕ → ℕ) (file place : ℕ)
    → ((f : ℕ) → count f ≡ sync_count later f)
    → new file place ≡ cond (ltb 0 (count file) && leb n number) (laid (call_of bytes call) old file place) (old file place)
    → synced_content new (drop (n - (number + 1)) (calls_of later bytes)) file place ≡ synced_content old (drop (n - number) (calls_of (call ∷ later) bytes))
    file place
lay-step call later bytes number n old new count file place counts lays =
    let calls = calls_of later bytes in
    let here = laid (call_of bytes call) old file place in
    let was = old file place in
    ⊎_elim
    (λ uncounted.
    let more : n - number ≡ suc (n - (number + 1)) = omega arith in
    synced_content-at (drop (n - (number + 1)) calls) new old file place
    (lays ∙ cond-false (ltb 0 (count file) && leb n number) here was (and_right (ltb 0 (count file)) (leb n number) (lt-leb n number uncounted)))
    ∙ sym (ap (λ k. synced_content old (drop k (calls_of (call ∷ later) bytes)) file place) more))
    (λ counted.
    let none : n - number ≡ 0 = omega arith in
    let none_later : n - (number + 1) ≡ 0 = omega arith in
    let synced : ltb 0 (count file) ≡ is_synced calls file = ap (λ k. ltb 0 k) (counts file) ∙ sync_count-some later file ∙ kept_synced-is later bytes file in
    ap (λ k. synced_content new (drop k calls) file place) none_later
    ∙ synced_content-at calls new _ file place (lays ∙ ap (λ b. cond (ltb 0 (count file) && b) here was) (le-leb n number counted) ∙ ap (λ b. cond b here was)
    (and_true (ltb 0 (count file))) ∙ ap (λ b. cond b here was) synced)
    ∙ sym (ap (λ k. synced_content old (drop k (calls_of (call ∷ later) bytes)) file place) none))
    (cases_lt number n)

pub add_cancel_left : (a b c : ℕ) → a + b ≡ a + c → b ≡ c
add_cancel_left a b c same = omega arith

laid-uncovered : (call : Call) (content : Files) (file place : ℕ) → covers call file place ≡ false → laid call content file place ≡ content file place
laid-uncovered (Wrote written at bytes) content file place out = cond-false (in_range written at (length bytes) file place) _ _ out
laid-uncovered (Tore written at n) content file place out = refl
laid-uncovered (Synced synced) content file place out = refl

-- at a place that is not pending each write that covers it is synced
pub synced_content-settled : (calls : List Call) (a b : Files) (file place : ℕ) → a file place ≡ b file place → is_pending calls file place ≡ false
    → synced_content a calls file place ≡ content_after b calls file place
synced_content-settled [] a b file place same settled = same
synced_content-settled (call ∷ calls) a b file place same settled =
    let parts = or_parts (is_pending calls file place) (covers call file place && not (is_synced calls file)) settled in
    synced_content-settled calls _ (laid call b) file place
    (⊎_elim
    (λ synced. cond-true (is_synced calls file) (laid call a file place) (a file place) synced ∙ laid-at call a b file place same)
    (λ not_synced.
    cond-false (is_synced calls file) (laid call a file place) (a file place) not_synced
    ∙ same
    ∙ sym (laid-uncovered call b file place (⊎_elim (λ out. out) (λ was. absurd (both_ways (not (is_synced calls file)) was
    (not_from_false (is_synced calls file) not_synced))) (and_cases (covers call file place) (not (is_synced calls file)) parts.1))))
    (cases_Bool (is_synced calls file)))
    parts.0

-- what each pending place had at the last sync, and what a read gives elsewhere
pub synced_content-is : (calls : List Call) (base : Files) (file place : ℕ)
    → synced_content base calls file place ≡ cond (is_pending calls file place) (synced_content base calls file place) (content_after base calls file place)
synced_content-is calls base file place =
    ⊎_elim
    (λ pending. sym (cond-true (is_pending calls file place) _ _ pending))
    (λ settled. synced_content-settled calls base base file place refl settled ∙ sym (cond-false (is_pending calls file place) _ _ settled))
    (cases_Bool (is_pending calls file place))
