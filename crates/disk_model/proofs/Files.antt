-- Files of bytes after a write to one of them, and as files of zeros are added.
use Rattle.std.proofs.Common.{◌≡◌, ◌⊎◌, inl, inr, ⊎_elim, ℕ, zero, suc, ◌+◌, ◌<◌, ◌≤◌, List, [], ◌∷◌, ◌++◌, length}
use Rattle.std.proofs.Common.{get_or, set, take, drop, replicate, ap, ◌∙◌, refl, sym, arith}
use Rattle.std.proofs.lemmas.Bool.{cases_eq, cases_lt}
use Rattle.std.proofs.lemmas.Grind.{common_steps}
use Rattle.std.proofs.lemmas.List.{get_or-set_other, length-replicate, get_or-replicate, get_or_past, map_push}
use Rattle.std.proofs.Math.Seq.{map-set_same}
use Rattle.disk_model.specs.Contents.{InRange, SameOutside}
use Rattle.disk_model.specs.PlainDisk.{file_of, rooms_of, contents, AllZeros}

-- these bytes written over those from a place on
abbrev pub overwritten : List ℕ → ℕ → List ℕ → List ℕ
overwritten old at bytes = take at old ++ bytes ++ drop (at + length bytes) old

get_or-overwritten : (old : List ℕ) (at : ℕ) (bytes : List ℕ) (place : ℕ) → at + length bytes ≤ length old → (place < at) ⊎ (at + length bytes ≤ place)
    → get_or (overwritten old at bytes) place 0 ≡ get_or old place 0
get_or-overwritten old at bytes place fits (inl below) = grind (arith, common_steps)
get_or-overwritten old at bytes place fits (inr above) = grind (arith, common_steps)

length-overwritten : (old : List ℕ) (at : ℕ) (bytes : List ℕ) → at + length bytes ≤ length old → length (overwritten old at bytes) ≡ length old
length-overwritten old at bytes fits = grind (arith, common_steps)

-- a place that is in no range of the file
outside : (file at n other place : ℕ) → ¬ InRange file at n other place → other ≡ file → (place < at) ⊎ (at + n ≤ place)
outside file at n other place out same =
    ⊎_elim inl (λ behind. ⊎_elim (λ before. absurd (out (record { in_file = same; at_or_behind = behind; before_end = before }))) inr (cases_lt place (at + n)))
    (cases_lt place at)

-- a write to a file changes no place outside of its range
pub SameOutside-write : (files : List (List ℕ)) (file at : ℕ) (bytes new : List ℕ) → file < length files → at + length bytes ≤ length (file_of files file)
    → new ≡ overwritten (file_of files file) at bytes → SameOutside file at (length bytes) (contents files) (contents (set files file new))
SameOutside-write files file at bytes new known fits is other place out =
    ⊎_elim
    (λ same.
    let there : get_or (set files file new) other [] ≡ new = grind (arith, common_steps) in
    let before : get_or files other [] ≡ file_of files file = ap (λ f. file_of files f) same in
    ap (λ f. get_or f place 0) (there ∙ is) ∙ get_or-overwritten (file_of files file) at bytes place fits (outside file at (length bytes) other place out same)
    ∙ ap (λ f. get_or f place 0) (sym before))
    (λ differs. ap (λ f. get_or f place 0) (get_or-set_other files file other new [] differs))
    (cases_eq other file)

-- a write to a file keeps the rooms
pub rooms_of-write : (files : List (List ℕ)) (file at : ℕ) (bytes new : List ℕ) → at + length bytes ≤ length (file_of files file)
    → new ≡ overwritten (file_of files file) at bytes → rooms_of (set files file new) ≡ rooms_of files
rooms_of-write files file at bytes new fits is = map-set_same length files file new [] (ap length is ∙ length-overwritten (file_of files file) at bytes fits)

-- a file more has its room at the end
pub rooms_of-push : (files : List (List ℕ)) (file : List ℕ) → rooms_of (files ++ file ∷ []) ≡ rooms_of files ++ length file ∷ []
rooms_of-push files file = map_push length files file

get_or-replicate_default : (x room place : ℕ) → get_or (replicate room x) place x ≡ x
get_or-replicate_default x room place =
    ⊎_elim (λ below. get_or-replicate room place x x below) (λ past. get_or_past (replicate room x) place x (rw length-replicate past)) (cases_lt place room)

-- a file of zeros more
pub AllZeros-push : (files : List (List ℕ)) (room : ℕ) → AllZeros files → AllZeros (files ++ replicate room 0 ∷ [])
AllZeros-push [] room known zero place = get_or-replicate_default 0 room place
AllZeros-push [] room known (suc file) place = refl
AllZeros-push (f ∷ fs) room known zero place = known zero place
AllZeros-push (f ∷ fs) room known (suc file) place = AllZeros-push fs room (λ g p. known (suc g) p) file place
