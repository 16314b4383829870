-- What a read gives, and which places are pending, as one more call is kept.
use Rattle.std.proofs.Common.{◌≡◌, ⊎_elim, ℕ, zero, suc, ◌+◌, ◌-◌, ◌<◌, ◌≤◌, true, not, cond, ◌&&◌, ltb, List, [], ◌∷◌}
use Rattle.std.proofs.Common.{◌++◌, length, length-append, get_or, set, drop, ap, ◌∙◌, refl, sym, arith}
use Rattle.std.proofs.lemmas.Bool.{cases_Bool, false≢true, cond-true, cond-false, or_cases, and_parts, both_ways, and_from, and_left, lt-ltb}
use Rattle.std.proofs.lemmas.Grind.{common_steps}
use Rattle.std.proofs.lemmas.List.{length-map, get_or_default, get_or_read}
use Rattle.std.specs.List.{AllByRecursion}
use Rattle.disk_model.specs.Contents.{Files, InRange}
use Rattle.disk_model.specs.PlainDisk.{file_of, rooms_of, rooms, contents}
use Rattle.disk_model.specs.Calls.{Call, Wrote, Tore, Synced, FitsFile, in_range, covers, is_synced, is_pending, laid, calls_at, pending_since, content_since}
use Rattle.disk_model.specs.MemoryDisk.{IsRead}
use Rattle.disk_model.proofs.Files.{overwritten, SameOutside-write, rooms_of-write}
use Rattle.disk_model.proofs.Images.{content_since-push, laid-at, in_range-holds, in_range-is}

room_at : (files : List (List ℕ)) (file : ℕ) → get_or (rooms_of files) file 0 ≡ length (file_of files file)
room_at [] file = refl
room_at (f ∷ fs) zero = refl
room_at (f ∷ fs) (suc file) = room_at fs file

-- two lists of files with the same rooms
pub same_room : (files base : List (List ℕ)) (file : ℕ) → rooms_of files ≡ rooms_of base → length (file_of files file) ≡ length (file_of base file)
same_room files base file same = sym (room_at files file) ∙ ap (λ rooms. get_or rooms file 0) same ∙ room_at base file

-- a file that is read from one of them has the room of its place in the other
pub same_room-read : (files others : List (List ℕ)) (i : ℕ) (file d : List ℕ) → rooms_of files ≡ rooms_of others → i < length files → i < length others
    → file ≡ get_or files i file → length file ≡ length (get_or others i d)
same_room-read files others i file d same below below_other is =
    ap length (get_or_read files i file below is []) ∙ same_room files others i same ∙ ap length (get_or_default others i [] d below_other)

pub same_count : (files base : List (List ℕ)) → rooms_of files ≡ rooms_of base → length files ≡ length base
same_count files base same = sym (length-map files length) ∙ ap length same ∙ length-map base length

in_room : (base : List (List ℕ)) (file at n other place : ℕ) → at + n ≤ length (file_of base file) → InRange file at n other place
    → place < length (file_of base other)
in_room base file at n other place fits inside =
    let same : length (file_of base other) ≡ length (file_of base file) = ap (λ f. length (file_of base f)) inside.in_file in
    let end = inside.before_end in
    omega arith

-- a place that a call covers lies within its file
covers_within : (base : List (List ℕ)) (call : Call) (other place : ℕ) → FitsFile base call → covers call other place ≡ true
    → place < length (file_of base other)
covers_within base (Wrote file at bytes) other place fits covered = in_room base file at (length bytes) other place fits
    (in_range-holds file at (length bytes) other place covered)
covers_within base (Tore file at n) other place fits covered = in_room base file at n other place fits (in_range-holds file at n other place covered)
covers_within base (Synced file) other place fits covered = absurd (false≢true covered)

-- a pending place lies within its file
pub pending_within : (base : List (List ℕ)) (calls : List Call) (file place : ℕ) → AllByRecursion (FitsFile base) calls → is_pending calls file place ≡ true
    → place < length (file_of base file)
pending_within base [] file place fits pending = absurd (false≢true pending)
pending_within base (call ∷ calls) file place fits pending =
    ⊎_elim
    (λ later. pending_within base calls file place fits.1 later)
    (λ here. covers_within base call file place fits.0 (and_parts (covers call file place) (not (is_synced calls file)) here).0)
    (or_cases (is_pending calls file place) (covers call file place && not (is_synced calls file)) pending)

-- what holds of each in a list holds of each in the end of it
pub all-drop : {X : Type 0} (P : X → Type 0) (n : ℕ) (xs : List X) → AllByRecursion P xs → AllByRecursion P (drop n xs)
all-drop P zero xs all = all
all-drop P (suc n) [] all = tt
all-drop P (suc n) (x ∷ xs) all = all-drop P n xs all.1

pub pending_since_within : (base : List (List ℕ)) (pokes : Files) (calls : List Call) (file place : ℕ) → AllByRecursion (FitsFile base) calls
    → pending_since pokes calls file place ≡ true → place < length (file_of base file)
pending_since_within base pokes calls file place fits pending = pending_within base (calls_at pokes calls file place) file place
    (all-drop (FitsFile base) (pokes file place) calls fits) pending

fits-push : (base : List (List ℕ)) (calls : List Call) (call : Call) → AllByRecursion (FitsFile base) calls → FitsFile base call
    → AllByRecursion (FitsFile base) (calls ++ call ∷ [])
fits-push base [] call before new = (new, tt)
fits-push base (first ∷ calls) call before new = (before.0, fits-push base calls call before.1 new)

-- a call more is kept, and these files have what it lays
IsRead-push : (base pokes files new : List (List ℕ)) (calls : List Call) (call : Call) → IsRead base pokes files calls → rooms_of new ≡ rooms_of base
    → ((f p : ℕ) → contents new f p ≡ laid call (content_since (contents base) (contents pokes) calls) f p) → FitsFile base call
    → IsRead base pokes new (calls ++ call ∷ [])
IsRead-push base pokes files new calls call read rooms lays fits = record {
  count = read.count;
  same_rooms = rooms;
  poke_rooms = read.poke_rooms;
  past = λ f p. omega (arith, read.past f p, length-append calls (call ∷ []));
  reads = λ f p. lays f p ∙ sym (content_since-push (contents base) (contents pokes) calls call f p (read.past f p));
  fits = fits-push base calls call read.fits fits;
}

pub IsRead-tore : (base pokes files : List (List ℕ)) (calls : List Call) (file at n : ℕ) → IsRead base pokes files calls → at + n ≤ length (file_of base file)
    → IsRead base pokes files (calls ++ Tore file at n ∷ [])
IsRead-tore base pokes files calls file at n read fits = IsRead-push base pokes files files calls (Tore file at n) read read.same_rooms read.reads fits

pub IsRead-synced : (base pokes files : List (List ℕ)) (calls : List Call) (file : ℕ) → IsRead base pokes files calls
    → IsRead base pokes files (calls ++ Synced file ∷ [])
IsRead-synced base pokes files calls file read = IsRead-push base pokes files files calls (Synced file) read read.same_rooms read.reads tt

byte-overwritten : (old : List ℕ) (at : ℕ) (bytes : List ℕ) (place : ℕ) → at + length bytes ≤ length old → at ≤ place → place < at + length bytes
    → get_or (overwritten old at bytes) place 0 ≡ get_or bytes (place - at) 0
byte-overwritten old at bytes place fits low high = grind (arith, common_steps)

-- a write to a file lays its bytes over what is read
pub contents-wrote : (files : List (List ℕ)) (file at : ℕ) (bytes new : List ℕ) (other place : ℕ) → file < length files
    → at + length bytes ≤ length (file_of files file) → new ≡ overwritten (file_of files file) at bytes
    → contents (set files file new) other place ≡ laid (Wrote file at bytes) (contents files) other place
contents-wrote files file at bytes new other place known fits is =
    ⊎_elim
    (λ inside.
    let range = in_range-holds file at (length bytes) other place inside in
    let same = range.in_file in
    let there : get_or (set files file new) other [] ≡ new = grind (arith, common_steps) in
    ap (λ f. get_or f place 0) (there ∙ is)
    ∙ byte-overwritten (file_of files file) at bytes place fits range.at_or_behind range.before_end
    ∙ sym (cond-true (in_range file at (length bytes) other place) _ _ inside))
    (λ out.
    SameOutside-write files file at bytes new known fits is other place (λ range. both_ways _ out (in_range-is file at (length bytes) other place range))
    ∙ sym (cond-false (in_range file at (length bytes) other place) _ _ out))
    (cases_Bool (in_range file at (length bytes) other place))

pub IsRead-wrote : (base pokes files : List (List ℕ)) (calls : List Call) (file at : ℕ) (bytes new : List ℕ) → IsRead base pokes files calls
    → file < length files → at + length bytes ≤ length (file_of base file)
    → new ≡ overwritten (file_of files file) at bytes → IsRead base pokes (set files file new) (calls ++ Wrote file at bytes ∷ [])
IsRead-wrote base pokes files calls file at bytes new read known fits is =
    let room : at + length bytes ≤ length (file_of files file) = omega (arith, same_room files base file read.same_rooms) in
    IsRead-push base pokes files (set files file new) calls (Wrote file at bytes) read
    (rooms_of-write files file at bytes new room is ∙ read.same_rooms)
    (λ other place.
    contents-wrote files file at bytes new other place known room is
    ∙ laid-at (Wrote file at bytes) (contents files) (content_since (contents base) (contents pokes) calls) other place (read.reads other place))
    fits

-- the files as they are read with one byte at each pending place
pub filled-pending : (base pokes files : List (List ℕ)) (calls : List Call) (byte file place : ℕ) → IsRead base pokes files calls
    → cond (pending_since (contents pokes) calls file place && ltb place (length (file_of files file))) byte (contents files file place) ≡ cond
    (pending_since (contents pokes) calls file place) byte (content_since (contents base) (contents pokes) calls file place)
filled-pending base pokes files calls byte file place read =
    ⊎_elim
    (λ pending.
    let known : place < length (file_of files file) = omega (
      arith,
      pending_since_within base (contents pokes) calls file place read.fits pending,
      same_room
          files base file read.same_rooms,
    ) in
    cond-true _ byte (contents files file place) (and_from (pending_since (contents pokes) calls file place) (ltb place (length (file_of files file))) pending
    (lt-ltb place (length (file_of files file)) known))
    ∙ sym (cond-true (pending_since (contents pokes) calls file place) byte (content_since (contents base) (contents pokes) calls file place) pending))
    (λ settled.
    cond-false _ byte (contents files file place) (and_left (pending_since (contents pokes) calls file place) (ltb place (length (file_of files file))) settled)
    ∙ read.reads file place
    ∙ sym (cond-false (pending_since (contents pokes) calls file place) byte (content_since (contents base) (contents pokes) calls file place) settled))
    (cases_Bool (pending_since (contents pokes) calls file place))
