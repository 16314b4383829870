-- Which files are settled, as they are synced one after the other.
use Rattle.std.proofs.Common.{◌≡◌, ◌∙◌, ap, sym, ⊎_elim, ℕ, zero, suc, ◌+◌, ◌<◌, ◌≤◌, Bool, true, false, ◌&&◌, nat_eq}
use Rattle.std.proofs.Common.{nat_lt, List, [], ◌∷◌, length, get_or, refl, arith}
use Rattle.std.proofs.lemmas.Bool.{cases_lt, false≢true}
use Rattle.std.proofs.lemmas.Bool.Decides.{nat_tests}
use Rattle.std.proofs.lemmas.List.{get_or_default}
use Rattle.std.specs.Prelude.{map, ◌||◌}
use Rattle.std.specs.List.{list_any, list_all}
use Rattle.disk_model.specs.Contents.{Files, Same, number_of_files}
use Rattle.disk_model.specs.Disk.{NoMore, Settled}
use Rattle.disk_model.specs.declared.disk.Disk.{Ghosts}
use Rattle.rec_bytes.specs.declared.record_files.RecordFile.{RecordFile}
use Rattle.rec_bytes.specs.declared.record_files.RecordRoom.TheVariants.{Limit}
use Rattle.rec_bytes.specs.RecordFiles.{Rooms, record_rooms, rooms_of}
use Rattle.rec_bytes.proofs.RecordFiles.{is_among-files}
use Rattle.recovery.specs.Syncing.{AreRecordsSettled}

-- a settled file stays so where calls only read
pub Settled-kept : (file : ℕ) (old new : Files) (images now : Files → Type 0) → Settled file old images → Same old new → NoMore images now
    → Settled file new now
Settled-kept file old new images now settled same fewer image left place = settled image (fewer image left) place ∙ sym (same file place)

-- so many files of the list are settled
abbrev pub AreSettledTo : {D : Type 0} → Ghosts D → D → List RecordFile → ℕ → Type 0
AreSettledTo g disk files n = (i : ℕ) (d : RecordFile) → i < n → Settled (get_or files i d).file (g.reads disk) (g.may_leave disk)

-- one more
pub AreSettledTo-more : {D : Type 0} (g : Ghosts D) (old new : D) (files : List RecordFile) (n : ℕ) (other : RecordFile) → AreSettledTo g old files n
    → n < length files
    → Same (g.reads old) (g.reads new) → NoMore (g.may_leave old) (g.may_leave new) → Settled (get_or files n other).file (g.reads old) (g.may_leave new)
    → AreSettledTo g new files (n + 1)
AreSettledTo-more g old new files n other before within same fewer settled i d below =
    ⊎_elim
    (λ earlier. Settled-kept (get_or files i d).file (g.reads old) (g.reads new) (g.may_leave old) (g.may_leave new) (before i d earlier) same fewer)
    (λ last.
    let here : i ≡ n = omega (arith, below, last) in
    let entry_is : get_or files n other ≡ get_or files i d = get_or_default files n other d within ∙ ap (λ k. get_or files k d) (sym here) in
    λ image left place.
    ap (λ (e : RecordFile). image e.file place) (sym entry_is) ∙ settled image left place ∙ sym (same (get_or files n other).file place)
    ∙ ap (λ (e : RecordFile). g.reads new e.file place) entry_is)
    (cases_lt i n)

-- a file that is among the list stands at a place of it
place_in : (files : List RecordFile) (file : ℕ) (d : RecordFile) → list_any (λ entry. nat_eq file entry.file) files ≡ true → (i : ℕ) × (i < length files)
    × ((get_or files i d).file ≡ file)
place_in [] file d any = absurd (false≢true any)
place_in (entry ∷ rest) file d any = pick (nat_eq file entry.file) refl (place_in rest file d) any
  where
    pick : (here : Bool) → nat_eq file entry.file ≡ here → (list_any (λ e. nat_eq file e.file) rest ≡ true → (i : ℕ) × (i < length rest) ×
        ((get_or rest i d).file ≡ file)) → (here || list_any (λ e. nat_eq file e.file) rest) ≡ true
        → (i : ℕ) × (i < length (entry ∷ rest)) × ((get_or (entry ∷ rest) i d).file ≡ file)
    pick true is later any = (0, omega arith, (let same : file ≡ entry.file = grind (arith, nat_tests) in sym same))
    pick false is later any = let at = later any in (suc at.0, omega (arith, at.1), at.2)

-- all of the list are all files of records
pub AreRecordsSettled-all : {D : Type 0} (g : Ghosts D) (disk : D) (files : List RecordFile) (n : ℕ) → rooms_of files ≡ record_rooms
    → AreSettledTo g disk files n → length files ≤ n → AreRecordsSettled g disk
AreRecordsSettled-all g disk files n is settled all file record_file image left place =
    let d : RecordFile = record { file = 0; room = Limit } in
    let at = place_in files file d (is_among-files files file ∙ ap (λ (rooms : Rooms). list_any (nat_eq file) (map (λ room. room.0) rooms)) is ∙ record_file) in
    ap (λ f. image f place) (sym at.2) ∙ settled at.0 d (omega (arith, at.1, all)) image left place ∙ ap (λ f. g.reads disk f place) at.2

-- each file of the list is one of the disk's
each_passes : (test : ℕ → Bool) (files : List RecordFile) → list_all (λ entry. test entry.file) files ≡ list_all (λ room. test room.0) (rooms_of files)
each_passes test [] = refl
each_passes test (entry ∷ rest) = ap (λ b. test entry.file && b) (each_passes test rest)

passes_at : (test : ℕ → Bool) (files : List RecordFile) (i : ℕ) (d : RecordFile) → list_all (λ entry. test entry.file) files ≡ true → i < length files
    → test (get_or files i d).file ≡ true
passes_at test [] i d all below = absurd (omega (arith, below))
passes_at test (entry ∷ rest) i d all below = pick (test entry.file) refl all i below (λ k every. passes_at test rest k d every)
  where
    pick : (ok : Bool) → test entry.file ≡ ok → (ok && list_all (λ e. test e.file) rest) ≡ true → (k : ℕ) → k < length (entry ∷ rest)
        → ((n : ℕ) → list_all (λ e. test e.file) rest ≡ true → n < length rest → test (get_or rest n d).file ≡ true)
        → test (get_or (entry ∷ rest) k d).file ≡ true
    pick true is all zero below later = is
    pick true is all (suc k) below later = later k all (omega (arith, below))
    pick false is all k below later = absurd (false≢true all)

pub file_low : (files : List RecordFile) (n : ℕ) (d : RecordFile) → rooms_of files ≡ record_rooms → n < length files → (get_or files n d).file < number_of_files
file_low files n d is below =
    let all = each_passes (λ f. nat_lt f number_of_files) files ∙ ap (λ (rooms : Rooms). list_all (λ room. nat_lt room.0 number_of_files) rooms) is in
    let low : nat_lt (get_or files n d).file number_of_files ≡ true = passes_at (λ f. nat_lt f number_of_files) files n d all below in
    grind (arith, nat_tests)
