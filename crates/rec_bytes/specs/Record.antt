-- The numbers in a record. Each list of bytes is read as 64 of them, with zeros for those that it
-- lacks, so that the laws ask nothing of the list.
use Rattle.std.specs.Prelude.{
  ℕ,
  suc,
  Bool,
  nat_eq,
  List,
  [],
  ◌∷◌,
  ◌++◌,
  ◌%◌,
  ◌^◌,
  take,
  drop,
  replicate,
  slice_set,
}
use Rattle.std.specs.List.{list_all}
use Rattle.byteorder.specs.Endian.{little_number, little_bytes}
use Rattle.rec_bytes.specs.declared.record.Rec.{Rec}
use Rattle.rec_bytes.specs.Format.{record_bytes}

-- the record of zeros
abbrev pub zeros : Rec
zeros = record { bytes = replicate record_bytes 0 }

-- the list with these bytes from a place on
unfoldable pub with_bytes : List ℕ → ℕ → List ℕ → List ℕ
with_bytes xs at [] = xs
with_bytes xs at (b ∷ bs) = with_bytes (slice_set xs at b) (suc at) bs

-- the list as 64 bytes
unfoldable pub as_64 : List ℕ → List ℕ
as_64 xs = take 64 (xs ++ replicate 64 0)

-- the number in the n bytes from a place on, the lowest first
unfoldable pub field : ℕ → Rec → ℕ → ℕ
field n r at = little_number n (drop at r.bytes) % 256 ^ n

-- the record with another number in the n bytes from a place on
unfoldable pub with_field : ℕ → Rec → ℕ → ℕ → Rec
with_field n r at value = record { bytes = with_bytes (as_64 r.bytes) at (little_bytes n value) }

-- zeros stand from a place on
unfoldable pub zeros_from : ℕ → Rec → Bool
zeros_from at r = list_all (λ b. nat_eq b 0) (drop at (as_64 r.bytes))

-- the n bytes from a place on
unfoldable pub text_in : Rec → ℕ → ℕ → List ℕ
text_in r at n = take n (drop at (as_64 r.bytes))

-- the record with other bytes from a place on
unfoldable pub with_text : Rec → ℕ → List ℕ → Rec
with_text r at text = record { bytes = with_bytes (as_64 r.bytes) at text }
