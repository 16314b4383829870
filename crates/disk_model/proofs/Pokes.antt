-- A disk of which one byte is poked.
use Rattle.std.proofs.Common.{◌≡◌, ◌≢◌, ⊎_elim, ℕ, ◌+◌, ◌-◌, ◌<◌, ◌≤◌, Bool, true, false, cond, ◌&&◌, leb, ltb, eqb}
use Rattle.std.proofs.Common.{List, [], ◌∷◌, length, get_or, set, take, drop, ap, ◌∙◌, refl, sym, subst, arith}
use Rattle.std.proofs.Common.{length-take, length-append, replicate, ◌++◌}
use Rattle.std.proofs.lemmas.Bool.{cases_Bool, cases_eq, cases_lt, cond-true, cond-false, and_from, and_left, and_right}
use Rattle.std.proofs.lemmas.Bool.{eq-eqb, ne_eqb, le-leb, lt-leb, lt-ltb, le-ltb}
use Rattle.std.proofs.lemmas.Grind.{get_or-set_at}
use Rattle.std.proofs.lemmas.List.{get_or-set_same, get_or-set_other, drop_all, length-set, length-replicate}
use Rattle.std.proofs.lemmas.List.{get_or_read, append_assoc, replicate-append-replicate, set-append_left}
use Rattle.std.proofs.Math.Seq.{map-set_same}
use Rattle.disk_model.specs.Calls.{Call, Wrote, in_range, is_pending, laid, content_after, calls_at, content_since, Allows}
use Rattle.disk_model.specs.Contents.{Files, Same, poked, IsFile}
use Rattle.disk_model.specs.MemoryDisk.{ArePoked, IsRead}
use Rattle.disk_model.specs.PlainDisk.{file_of, rooms_of, rooms, contents}
use Rattle.disk_model.proofs.Files.{overwritten, rooms_of-write}
use Rattle.disk_model.proofs.Images.{laid-at}
use Rattle.disk_model.proofs.Lays.{fits-all}
use Rattle.disk_model.proofs.Moments.{Since}
use Rattle.disk_model.proofs.ReadFiles.{contents-wrote, same_room, same_count}

one_place : (at place : ℕ) → (leb at place && ltb place (at + 1)) ≡ eqb at place
one_place at place =
    ⊎_elim
    (λ same. and_from (leb at place) (ltb place (at + 1)) (le-leb at place (omega arith)) (lt-ltb place (at + 1) (omega arith)) ∙ sym (eq-eqb at place same))
    (λ differs.
    ⊎_elim
    (λ before. and_left (leb at place) (ltb place (at + 1)) (lt-leb at place before))
    (λ behind. and_right (leb at place) (ltb place (at + 1)) (le-ltb place (at + 1) (omega arith)))
    (cases_lt place at)
    ∙ sym (ne_eqb at place differs))
    (cases_eq at place)

-- a write of one byte
laid-one : (content : Files) (file at byte other place : ℕ) → laid (Wrote file at (byte ∷ [])) content other place ≡ poked file at byte content other place
laid-one content file at byte other place =
    ⊎_elim
    (λ same.
    let start : place - at ≡ 0 = omega arith in
    ap (λ here. cond (eqb file other && here) (get_or (byte ∷ []) (place - at) 0) (content other place)) (one_place at place)
    ∙ ap (λ i. cond (eqb file other && eqb at place) (get_or (byte ∷ []) i 0) (content other place)) start)
    (λ differs.
    cond-false (in_range file at 1 other place) (get_or (byte ∷ []) (place - at) 0) (content other place)
    (and_right (eqb file other) (leb at place && ltb place (at + 1)) (one_place at place ∙ ne_eqb at place differs))
    ∙ sym (cond-false (eqb file other && eqb at place) byte (content other place) (and_right (eqb file other) (eqb at place) (ne_eqb at place differs))))
    (cases_eq at place)

set_at : (xs : List ℕ) (at x place : ℕ) → at < length xs → get_or (set xs at x) place 0 ≡ cond (eqb at place) x (get_or xs place 0)
set_at xs at x place within =
    ⊎_elim
    (λ same. get_or-set_at xs at place x 0 (sym same) within ∙ sym (cond-true (eqb at place) x (get_or xs place 0) (eq-eqb at place same)))
    (λ differs. let apart : place ≢ at = λ same. differs (sym same) in get_or-set_other xs at place x 0 apart ∙ sym (cond-false (eqb at place) x
    (get_or xs place 0) (ne_eqb at place differs)))
    (cases_eq at place)

poke_past : (here : Bool) (kept old new : ℕ) → old ≤ kept → new ≡ cond here kept old → new ≤ kept
poke_past true kept old new before is = omega arith
poke_past false kept old new before is = omega arith

-- a byte is written to a file of those of a disk
pub contents-poked : (files : List (List ℕ)) (file at byte : ℕ) (new : List ℕ) → file < length files → at < length (file_of files file)
    → new ≡ overwritten (file_of files file) at (byte ∷ []) → Same (poked file at byte (contents files)) (contents (set files file new))
contents-poked files file at byte new known within is other place =
    contents-wrote files file at (byte ∷ []) new other place known (omega arith) is ∙ laid-one (contents files) file at byte other place

pub rooms_of-poked : (files : List (List ℕ)) (file at byte : ℕ) (new : List ℕ) → at < length (file_of files file)
    → new ≡ overwritten (file_of files file) at (byte ∷ []) → rooms_of (set files file new) ≡ rooms_of files
rooms_of-poked files file at byte new within is = rooms_of-write files file at (byte ∷ []) new (omega arith) is

-- the time of a poke is noted
pub contents-noted : (pokes : List (List ℕ)) (file at kept : ℕ) → file < length pokes → at < length (file_of pokes file)
    → Same (poked file at kept (contents pokes)) (contents (set pokes file (set (file_of pokes file) at kept)))
contents-noted pokes file at kept known within other place =
    let new = set (file_of pokes file) at kept in
    ⊎_elim
    (λ same.
    subst (λ o. contents (set pokes file new) o place ≡ poked file at kept (contents pokes) o place) (sym same)
    (ap (λ f. get_or f place 0) (get_or-set_same pokes file new [] known)
    ∙ set_at (file_of pokes file) at kept place within
    ∙ sym (ap (λ e. cond (e && eqb at place) kept (contents pokes file place)) (eq-eqb file file refl))))
    (λ differs.
    let apart : (file ≡ other → ⊥) = λ same. differs (sym same) in
    ap (λ f. get_or f place 0) (get_or-set_other pokes file other new [] differs)
    ∙ sym (cond-false (eqb file other && eqb at place) kept (contents pokes other place) (and_left (eqb file other) (eqb at place) (ne_eqb file other apart))))
    (cases_eq other file)

-- the contents of a disk before a byte is poked, and after, with so many calls kept
pub record Pokes (file at byte kept : ℕ) (base pokes new_base new_pokes : Files) : Type 0 where
  pub in_base : Same (poked file at byte base) new_base
  pub noted : Same (poked file at kept pokes) new_pokes

-- whether this is the place
abbrev pub is_place : ℕ → ℕ → ℕ → ℕ → Bool
is_place file at other place = eqb file other && eqb at place

-- no call counts at the place, and as many as before do at another
calls-here : (file at byte kept : ℕ) (base pokes new_base new_pokes : Files) (calls : List Call) (other place : ℕ)
    → Pokes file at byte kept base pokes new_base new_pokes → length calls ≤ kept → is_place file at other place ≡ true
    → calls_at new_pokes calls other place ≡ []
calls-here file at byte kept base pokes new_base new_pokes calls other place poke all here =
    let is : new_pokes other place ≡ kept = poke.noted other place ∙ cond-true (is_place file at other place) kept (pokes other place) here in
    ap (λ n. drop n calls) is ∙ drop_all kept calls all

calls-elsewhere : (file at byte kept : ℕ) (base pokes new_base new_pokes : Files) (calls : List Call) (other place : ℕ)
    → Pokes file at byte kept base pokes new_base new_pokes → is_place file at other place ≡ false
    → calls_at new_pokes calls other place ≡ calls_at pokes calls other place
calls-elsewhere file at byte kept base pokes new_base new_pokes calls other place poke away =
    ap (λ n. drop n calls) (poke.noted other place ∙ cond-false (is_place file at other place) kept (pokes other place) away)

content_after-at : (calls : List Call) (a b : Files) (file place : ℕ) → a file place ≡ b file place
    → content_after a calls file place ≡ content_after b calls file place
content_after-at [] a b file place same = same
content_after-at (call ∷ calls) a b file place same = content_after-at calls (laid call a) (laid call b) file place (laid-at call a b file place same)

-- what is read
pub content_since-poked : (file at byte kept : ℕ) (base pokes new_base new_pokes : Files) (calls : List Call)
    → Pokes file at byte kept base pokes new_base new_pokes → length calls ≤ kept
    → Same (poked file at byte (content_since base pokes calls)) (content_since new_base new_pokes calls)
content_since-poked file at byte kept base pokes new_base new_pokes calls poke all other place =
    let old = content_since base pokes calls other place in
    ⊎_elim
    (λ here.
    ap (λ cs. content_after new_base cs other place) (calls-here file at byte kept base pokes new_base new_pokes calls other place poke all here)
    ∙ poke.in_base other place
    ∙ cond-true (is_place file at other place) byte (base other place) here
    ∙ sym (cond-true (is_place file at other place) byte old here))
    (λ away.
    ap (λ cs. content_after new_base cs other place) (calls-elsewhere file at byte kept base pokes new_base new_pokes calls other place poke away)
    ∙ content_after-at (calls_at pokes calls other place) new_base base other place
    (poke.in_base other place ∙ cond-false (is_place file at other place) byte (base other place) away)
    ∙ sym (cond-false (is_place file at other place) byte old away))
    (cases_Bool (is_place file at other place))

-- the images
pub ArePoked-allows : (file at byte kept : ℕ) (base pokes new_base new_pokes : Files) (calls : List Call)
    → Pokes file at byte kept base pokes new_base new_pokes → length calls ≤ kept
    → ArePoked file at byte (Allows base pokes calls) (Allows new_base new_pokes calls)
ArePoked-allows file at byte kept base pokes new_base new_pokes calls poke all image =
    let content = content_since base pokes calls in
    let reads = content_since-poked file at byte kept base pokes new_base new_pokes calls poke all in
    let settled_here = λ (other place : ℕ) (here : is_place file at other place ≡ true).
    ap (λ cs. is_pending cs other place) (calls-here file at byte kept base pokes new_base new_pokes calls other place poke all here) in
    let same_pending = λ (other place : ℕ) (away : is_place file at other place ≡ false).
    ap (λ cs. is_pending cs other place) (calls-elsewhere file at byte kept base pokes new_base new_pokes calls other place poke away) in
    let before = λ (other place : ℕ). cond (is_place file at other place) (content other place) (image other place) in (
      λ allows. (
        before,
        λ other place settled. ⊎_elim
            (λ here. cond-true (is_place file at other place) (content other place) (image other place) here)
            (λ away.
            cond-false (is_place file at other place) (content other place) (image other place) away
            ∙ allows other place (same_pending other place away ∙ settled)
            ∙ reads other place
            ∙ cond-false (is_place file at other place) byte (content other place) away)
            (cases_Bool (is_place file at other place)),
        λ other place. ⊎_elim
            (λ here.
            allows other place (settled_here other place here)
            ∙ reads other place
            ∙ cond-true (is_place file at other place) byte (content other place) here
            ∙ sym (cond-true (is_place file at other place) byte (before other place) here))
            (λ away.
            sym (cond-false (is_place file at other place) byte (before other place) away
            ∙ cond-false (is_place file at other place) (content other place) (image other place) away))
            (cases_Bool (is_place file at other place)),
      ),
      λ was other place settled. ⊎_elim
          (λ here.
          was.2 other place
          ∙ cond-true (is_place file at other place) byte (was.0 other place) here
          ∙ sym (reads other place ∙ cond-true (is_place file at other place) byte (content other place) here))
          (λ away.
          was.2 other place
          ∙ cond-false (is_place file at other place) byte (was.0 other place) away
          ∙ was.1 other place (sym (same_pending other place away) ∙ settled)
          ∙ sym (reads other place ∙ cond-false (is_place file at other place) byte (content other place) away))
          (cases_Bool (is_place file at other place)),
    )

-- the images of the moments so far
pub ArePoked-since : (file at byte : ℕ) (base pokes new_base new_pokes : Files) (calls : List Call) (t : ℕ)
    → Pokes file at byte (length calls) base pokes new_base new_pokes → ArePoked file at byte (Since base pokes calls t) (Since new_base new_pokes calls t)
ArePoked-since file at byte base pokes new_base new_pokes calls t poke image =
    let each = λ (k : ℕ) (within : k ≤ length calls). ArePoked-allows file at byte (length calls) base pokes new_base new_pokes (take k calls) poke
    (omega (arith, length-take k calls)) image in (
      λ since. let was = (each since.0 since.2).0 since.3 in (was.0, (since.0, since.1, since.2, was.1), was.2),
      λ was. (was.1.0, was.1.1, was.1.2, (each was.1.0 was.1.2).1 (was.0, was.1.3, was.2)),
    )

-- the disk after its three files of this number were changed
pub record PokedDisk (base pokes files : List (List ℕ)) (calls : List Call) (file at byte : ℕ) (new_base new_pokes new_files : List ℕ) : Type 0 where
  pub read : IsRead (set base file new_base) (set pokes file new_pokes) (set files file new_files) calls
  pub poke : Pokes file at byte (length calls) (contents base) (contents pokes) (contents (set base file new_base)) (contents (set pokes file new_pokes))
  pub rooms : rooms_of (set base file new_base) ≡ rooms_of base

-- a file that is taken from the disk has the place
pub has_place : (files base : List (List ℕ)) (file at : ℕ) (old : List ℕ) → length base ≡ length (rooms 0) → rooms_of files ≡ rooms_of base → IsFile file
    → at < length (file_of base file) → old ≡ get_or files file old → at < length old
has_place files base file at old count same file_known within old_is =
    let known : file < length files = omega (arith, same_count files base same, count) in
    omega (arith, ap length (get_or_read files file old known old_is []), same_room files base file same)

pub PokedDisk-writes : (base pokes files : List (List ℕ)) (calls : List Call) (file at byte kept : ℕ)
    (old_base new_base old_files new_files old_pokes new_pokes : List ℕ) → IsRead base pokes files calls → IsFile file → at < length (file_of base file)
    → old_base ≡ get_or base file old_base → new_base ≡ overwritten old_base at (byte ∷ [])
    → old_files ≡ get_or files file old_files → new_files ≡ overwritten old_files at (byte ∷ [])
    → old_pokes ≡ get_or pokes file old_pokes → new_pokes ≡ set old_pokes at kept → kept ≡ length calls
    → PokedDisk base pokes files calls file at byte new_base new_pokes new_files
PokedDisk-writes base pokes files calls file at byte kept old_base new_base old_files new_files old_pokes new_pokes read file_known within base_was base_is
    files_was files_is pokes_was pokes_is all =
    let known : file < length base = omega (arith, read.count) in
    let files_known : file < length files = omega (arith, same_count files base read.same_rooms) in
    let pokes_known : file < length pokes = omega (arith, same_count pokes base read.poke_rooms) in
    let files_within : at < length (file_of files file) = omega (arith, same_room files base file read.same_rooms) in
    let pokes_within : at < length (file_of pokes file) = omega (arith, same_room pokes base file read.poke_rooms) in
    let in_base : new_base ≡ overwritten (file_of base file) at (byte ∷ []) = base_is
    ∙ ap (λ f. overwritten f at (byte ∷ [])) (get_or_read base file old_base known base_was []) in
    let in_files : new_files ≡ overwritten (file_of files file) at (byte ∷ []) = files_is
    ∙ ap (λ f. overwritten f at (byte ∷ [])) (get_or_read files file old_files files_known files_was []) in
    let in_pokes : new_pokes ≡ set (file_of pokes file) at (length calls) = pokes_is ∙ ap (λ n. set old_pokes at n) all
    ∙ ap (λ f. set f at (length calls)) (get_or_read pokes file old_pokes pokes_known pokes_was []) in
    let base_rooms = rooms_of-poked base file at byte new_base within in_base in
    let poke : Pokes file at byte (length calls) (contents base) (contents pokes) (contents (set base file new_base)) (contents (set pokes file new_pokes)) =
    record {
      in_base = contents-poked base file at byte new_base known within in_base;
      noted = subst (λ f. Same (poked file at (length calls) (contents pokes)) (contents (set pokes file f))) (sym in_pokes)
          (contents-noted pokes file at (length calls) pokes_known pokes_within);
    } in
    record {
      read = record {
        count = length-set base file new_base ∙ read.count;
        same_rooms = rooms_of-poked files file at byte new_files files_within in_files ∙ read.same_rooms ∙ sym base_rooms;
        poke_rooms = map-set_same length pokes file new_pokes [] (ap length in_pokes ∙ length-set (file_of pokes file) at (length calls)) ∙ read.poke_rooms
            ∙ sym base_rooms;
        past = λ other place. poke_past (is_place file at other place) (length calls) (contents pokes other place)
            (contents (set pokes file new_pokes) other place) (read.past other place) (poke.noted other place);
        reads = λ other place.
            contents-poked files file at byte new_files files_known files_within in_files other place
            ∙ ap (λ x. cond (is_place file at other place) byte x) (read.reads other place)
            ∙ sym (content_since-poked file at byte (length calls) (contents base) (contents pokes) (contents (set base file new_base))
            (contents (set pokes file new_pokes)) calls poke (omega arith) other place);
        fits = fits-all (set base file new_base) base calls base_rooms read.fits;
      };
      poke = poke;
      rooms = base_rooms;
    }

-- zeros stand behind the numbers in any case, so where they begin doesn't matter
pub set-padded : (xs new : List ℕ) (room place kept : ℕ) → place < room → length xs ≤ room → new ≡ xs ++ replicate ((place + 1) - length xs) 0
    → place < length new → set new place kept ++ replicate (room - length new) 0 ≡ set (xs ++ replicate (room - length xs) 0) place kept
set-padded xs new room place kept within fits is reached =
    let more = (place + 1) - length xs in
    let count : length new ≡ length xs + more = ap length is ∙ length-append xs (replicate more 0) ∙ ap (λ n. length xs + n) (length-replicate more 0) in
    let rest : room - length xs ≡ more + (room - length new) = omega (arith, count) in
    let padded : xs ++ replicate (room - length xs) 0 ≡ new ++ replicate (room - length new) 0 =
    ap (λ n. xs ++ replicate n 0) rest
    ∙ ap (λ zs. xs ++ zs) (sym (replicate-append-replicate more (room - length new) 0))
    ∙ sym (append_assoc xs (replicate more 0) (replicate (room - length new) 0))
    ∙ ap (λ ys. ys ++ replicate (room - length new) 0) (sym is) in
    sym (ap (λ ys. set ys place kept) padded ∙ set-append_left new (replicate (room - length new) 0) place kept reached)
