-- A disk in memory: its files, how large they are, and what a read of it gives.
use Rattle.std.specs.Prelude.{◌≡◌, ℕ, ◌*◌, List, [], ◌∷◌, length, map, slice_index, slice_index_or}
use Rattle.disk_model.specs.Contents.{Files}

-- the files' bytes, by the files' numbers, and how often a write has failed
pub record PlainDiskState : Type 0 where
  pub files : List (List ℕ)
  pub faults : ℕ

-- how many bytes each file has room for, in a store of at most `limit` records of each kind
abbrev pub rooms : ℕ → List ℕ
rooms limit =
    576 ∷ (64 * limit) ∷ (64 * limit) ∷ (128 * limit) ∷ (64 * limit) ∷ (64 * limit) ∷ 262144
    ∷ 1048576 ∷ (128 * limit) ∷ []

-- the bytes of a file
abbrev pub file_of : List (List ℕ) → ℕ → List ℕ
file_of files file = slice_index_or files file []

-- how many bytes each file has room for
abbrev pub rooms_of : List (List ℕ) → List ℕ
rooms_of files = map length files

-- what a read of these files gives: zeros past the end
abbrev pub contents : List (List ℕ) → Files
contents files file place = slice_index (file_of files file) place

-- each byte of each file reads zero
abbrev pub AllZeros : List (List ℕ) → Type 0
AllZeros files = (file place : ℕ) → contents files file place ≡ 0
