-- Records that stand one behind the other in a file.
use Rattle.std.specs.Prelude.{◌≡◌, ℕ, zero, suc, ◌+◌, ◌<◌, List, [], ◌∷◌, length, take, drop}
use Rattle.rec_bytes.specs.Format.{record_bytes}
use Rattle.rec_bytes.specs.Pairs.{Pairs}
use Rattle.rec_bytes.specs.declared.key.Key.{Key}

-- a run has no more records
abbrev pub run_records : ℕ
run_records = 64

-- the key that stands n records behind another
abbrev pub key_behind : Key → ℕ → Key
key_behind key n = record { file = key.file; id = key.id + n }

-- the first n records of these bytes, with their keys from the first on
abbrev pub run_pairs : Key → List ℕ → ℕ → Pairs
run_pairs first bytes zero = []
run_pairs first bytes (suc n) =
    (first, record { bytes = take record_bytes bytes })
    ∷ run_pairs (key_behind first 1) (drop record_bytes bytes) n

-- a record of this key stands behind these, and there is room for one more
abbrev pub Takes : Pairs → Key → Type 0
Takes [] key = Unit {0}
Takes (pair ∷ rest) key =
    (key ≡ key_behind pair.0 (length (pair ∷ rest))) × (length (pair ∷ rest) < run_records)
