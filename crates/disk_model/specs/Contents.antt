-- The files of a disk, and their contents.
use Rattle.std.specs.Prelude.{
  ◌≡◌,
  ℕ,
  zero,
  suc,
  ◌+◌,
  ◌≤◌,
  ◌<◌,
  ◌==◌,
  ◌&&◌,
  if◌then◌else◌,
  List,
  [],
  ◌∷◌,
  length,
  slice_index,
}

-- how many files a disk has
abbrev pub number_of_files : ℕ
number_of_files = 9

-- the number of a file
abbrev pub IsFile : ℕ → Type 0
IsFile file = file < number_of_files

-- A content of the disk: the byte of a file at a place, zero past what was written. Contents are
-- compared place by place.
abbrev pub Files : Type 0
Files = ℕ → ℕ → ℕ

-- these bytes stand in the file from this place on
abbrev pub Holds : ℕ → ℕ → List ℕ → Files → Type 0
Holds file at bytes content =
    (i : ℕ) → i < length bytes → slice_index bytes i ≡ content file (at + i)

-- the n bytes of a file from a place on
abbrev pub bytes_from : (ℕ → ℕ) → ℕ → ℕ → List ℕ
bytes_from file place zero = []
bytes_from file place (suc n) = file place ∷ bytes_from file (place + 1) n

-- a place in the range of n bytes of the file
pub record InRange (file at n : ℕ) (other place : ℕ) : Type 0 where
  pub in_file : other ≡ file
  pub at_or_behind : at ≤ place
  pub before_end : place < at + n

-- the same bytes everywhere but in the range
abbrev pub SameOutside : ℕ → ℕ → ℕ → Files → Files → Type 0
SameOutside file at n old new =
    (other place : ℕ) → ¬ InRange file at n other place → new other place ≡ old other place

-- the same bytes everywhere
abbrev pub Same : Files → Files → Type 0
Same old new = (file place : ℕ) → new file place ≡ old file place

-- a content with this byte at the place of the file
abbrev pub poked : ℕ → ℕ → ℕ → Files → Files
poked file at byte content other place =
    if (file == other) && (at == place) then byte else content other place
