-- Files that mark places of other files with the same rooms, by a byte other than 0.
use Rattle.std.specs.Prelude.{ℕ, Bool, if◌then◌else◌, nat_lt, ◌%◌, List, slice_index}
use Rattle.disk_model.specs.Contents.{Files}
use Rattle.disk_model.specs.Generator.{drawn}
use Rattle.disk_model.specs.Places.{count_before}
use Rattle.disk_model.specs.PlainDisk.{file_of}

-- whether these bytes mark a place
abbrev pub is_marked : List ℕ → ℕ → Bool
is_marked marks place = nat_lt 0 (slice_index marks place)

-- whether these files mark a place of a file
abbrev pub is_marked_in : List (List ℕ) → ℕ → ℕ → Bool
is_marked_in marks file place = is_marked (file_of marks file) place

-- a content with the next byte drawn from the seed at each marked place, in order
abbrev pub with_draws : ℕ → List (List ℕ) → Files → Files
with_draws seed marks content file place =
    if is_marked_in marks file place
    then drawn seed (count_before (is_marked_in marks) marks file place) % 256
    else content file place
