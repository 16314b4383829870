-- The files that have meta records, and the records of the meta file, as the lists have them.
use Rattle.std.proofs.Common.{◌≡◌, ◌≢◌, ℕ, ◌+◌, ◌<◌, ◌≤◌, Bool, true, false, ◌&&◌, ◌||◌, nat_eq, cond, List, length}
use Rattle.std.proofs.Common.{take, get_or, ap, sym, subst, ◌∙◌, ⊎_elim, refl, arith}
use Rattle.std.specs.Prelude.{map}
use Rattle.std.specs.List.{list_any}
use Rattle.std.proofs.lemmas.Bool.{true≢false}
use Rattle.std.proofs.lemmas.Bool.Decides.{nat_tests}
use Rattle.std.proofs.lemmas.List.{take_all}
use Rattle.std.proofs.lemmas.List.Folds.{list_any_at, list_any_more}
use Rattle.rec_bytes.specs.declared.meta_form.MetaForm.{MetaForm}
use Rattle.rec_bytes.specs.declared.meta_form.MetaForm.TheVariants.{Own, Counts, Taken, Index}
use Rattle.rec_bytes.specs.declared.record.Rec.{Rec}
use Rattle.rec_bytes.specs.declared.record_files.RecordFile.{RecordFile}
use Rattle.rec_bytes.specs.declared.shape.Shape.{Shape}
use Rattle.rec_bytes.specs.Format as format
use Rattle.rec_bytes.specs.Meta.{IsMetaInRange}
use Rattle.rec_bytes.specs.MetaForm.{IsMetaRight, IsRightAs, form_of}
use Rattle.rec_bytes.specs.Record.{zeros_from}
use Rattle.rec_bytes.specs.RecordFiles.{Rooms, is_meta_file, meta_files, meta_rooms, rooms_of}
use Rattle.rec_bytes.proofs.RecordFiles.{is_among-files, passes}
use Rattle.store_rules.specs.Ranges.{is_reused}
use Rattle.store_rules.proofs.NumberLaws.{eq_false, eq_true, nat_cases}

-- ---- a walk of the list

-- the file is among so many of the list
abbrev pub is_before : List RecordFile → ℕ → ℕ → Bool
is_before files n file = list_any (λ entry. nat_eq file entry.file) (take n files)

-- what holds of each file of so many of the list
abbrev pub HoldsBefore : List RecordFile → ℕ → (ℕ → Type 0) → Type 0
HoldsBefore files n P = (file : ℕ) → is_before files n file ≡ true → P file

pub holds_none : (files : List RecordFile) (P : ℕ → Type 0) → HoldsBefore files 0 P
holds_none files P file before = absurd cc

pub holds_more : (files : List RecordFile) (n : ℕ) (d : RecordFile) (P : ℕ → Type 0) → n < length files → HoldsBefore files n P → P (get_or files n d).file
    → HoldsBefore files (n + 1) P
holds_more files n d P below old here file before =
    pick (is_before files n file) (nat_eq file (get_or files n d).file) (old file)
    (λ e. let same : (get_or files n d).file ≡ file = grind (arith, nat_tests) in subst P same here)
    (sym (list_any_more (λ entry. nat_eq file entry.file) files n d below) ∙ before)
  where
    pick : (earlier now : Bool) → (earlier ≡ true → P file) → (now ≡ true → P file) → (earlier || now) ≡ true → P file
    pick true now a b any = a refl
    pick false true a b any = b refl
    pick false false a b any = absurd cc

module _ (files : List RecordFile) (is : rooms_of files ≡ meta_rooms) where
  all_are : (file : ℕ) → list_any (λ entry. nat_eq file entry.file) files ≡ is_meta_file file
  all_are file = is_among-files files file ∙ ap (λ (rooms : Rooms). list_any (nat_eq file) (map (λ room. room.0) rooms)) is

  pub holds_all : (n : ℕ) (P : ℕ → Type 0) → length files ≤ n → HoldsBefore files n P → (file : ℕ) → is_meta_file file ≡ true → P file
  holds_all n P all old file known = old file (ap (λ xs. list_any (λ entry. nat_eq file entry.file) xs) (take_all n files all) ∙ all_are file ∙ known)

  pub entry_is : (n : ℕ) (d : RecordFile) → n < length files → is_meta_file (get_or files n d).file ≡ true
  entry_is n d below = sym (all_are (get_or files n d).file) ∙ list_any_at (λ entry. nat_eq (get_or files n d).file entry.file) files n d below
      (eq_true (get_or files n d).file (get_or files n d).file refl)

-- the one whose records are not used again
pub reused-of : (file : ℕ) → is_meta_file file ≡ true → file ≢ format.names_file → is_reused file ≡ true
reused-of file known other = pick (is_meta_file file) (nat_eq file format.names_file) known (eq_false file format.names_file other)
  where
    pick : (a b : Bool) → a ≡ true → b ≡ false → (a && cond b false true) ≡ true
    pick a true e f = absurd cc
    pick true false e f = refl
    pick false false e f = absurd cc

pub reused-not_names : (file : ℕ) → is_reused file ≡ true → file ≢ format.names_file
reused-not_names file is e = not_names (subst (λ f. is_reused f ≡ true) e is)
  where
    not_names : is_reused format.names_file ≡ true → ⊥
    not_names h = absurd cc

pub not_reused : (file : ℕ) → is_meta_file file ≡ true → is_reused file ≡ false → file ≡ format.names_file
not_reused file known out = ⊎_elim (λ e. e) (λ other. absurd (true≢false (sym (reused-of file known other) ∙ out))) (nat_cases file format.names_file)

-- ---- the records of the meta file

abbrev counts : MetaForm → Bool
counts Own = false
counts Counts = true
counts Taken = false
counts Index = true

in_range_as : (form : MetaForm) (shape : Shape) (id : ℕ) (r : Rec) → counts form ≡ true → IsRightAs form format.newest_version shape id r
    → IsMetaInRange shape id r
in_range_as Own shape id r c h = absurd cc
in_range_as Counts shape id r c h = h
in_range_as Taken shape id r c h = absurd cc
in_range_as Index shape id r c h = h.since (omega arith)

-- each file's record is tested as its counts
pub in_range_of : (shape : Shape) (file : ℕ) (r : Rec) → is_meta_file file ≡ true → IsMetaRight format.newest_version shape file r → IsMetaInRange shape file r
in_range_of shape file r known = in_range_as (form_of file) shape file r (passes (λ f. counts (form_of f)) meta_files file refl known)

-- where the record of the last transaction that was taken over is right it says what the rule says of it
pub taken_right : (shape : Shape) (r : Rec) → IsMetaRight format.newest_version shape format.taken_id r → zeros_from format.taken_rest r ≡ true
taken_right shape r h = h
