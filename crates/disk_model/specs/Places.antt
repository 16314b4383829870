-- The places of a disk in order: the files by their numbers, and in a file the places from 0 on.
use Rattle.std.specs.Prelude.{ℕ, ◌+◌, zero, suc, Bool, if◌then◌else◌, List, length}
use Rattle.disk_model.specs.PlainDisk.{file_of}

-- how many of the first n numbers pass the test
abbrev pub count_below : (ℕ → Bool) → ℕ → ℕ
count_below test zero = 0
count_below test (suc n) = count_below test n + (if test n then 1 else 0)

-- how many places of the files before this one pass the test
abbrev pub count_in_files : (ℕ → ℕ → Bool) → List (List ℕ) → ℕ → ℕ
count_in_files test files zero = 0
count_in_files test files (suc file) =
    count_in_files test files file + count_below (test file) (length (file_of files file))

-- how many places before this one pass the test
abbrev pub count_before : (ℕ → ℕ → Bool) → List (List ℕ) → ℕ → ℕ → ℕ
count_before test files file place = count_in_files test files file + count_below (test file) place
