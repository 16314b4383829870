-- A shipment: the records that a transaction wrote, under a number, as bytes.
use Rattle.std.specs.Prelude.{
  ◌≡◌,
  ◌⊎◌,
  ℕ,
  zero,
  suc,
  ◌+◌,
  ◌-◌,
  ◌*◌,
  ◌≤◌,
  ◌<◌,
  true,
  List,
  [],
  ◌∷◌,
  ◌++◌,
  length,
  take,
  drop,
  slice_index,
  Option,
  None,
  Some,
}
use Rattle.std.specs.List.{AllByRecursion}
use Rattle.byteorder.specs.Endian.{little_from}
use Rattle.rec_bytes.specs.declared.key.Key.{Key}
use Rattle.rec_bytes.specs.declared.record.Rec.{Rec}
use Rattle.rec_bytes.specs.declared.shape.Shape.{Shape}
use Rattle.rec_bytes.specs.Pairs.{Pairs}
use Rattle.redo_log.specs.Reading.{IsAbove}
use Rattle.txn_core.specs.Shipped.{is_shipped}

-- how many records a shipment may have
abbrev pub most_shipped : ℕ
most_shipped = 2047

-- the bytes before the first record: the number and the count
abbrev pub head_bytes : ℕ
head_bytes = 10

-- a record with its file and its number in the file
abbrev pub shipped_bytes : ℕ
shipped_bytes = 69

-- the number of a shipment
abbrev pub number_of : List ℕ → ℕ
number_of bytes = little_from 0 8 bytes

-- how many records it has
abbrev pub count_of : List ℕ → ℕ
count_of bytes = little_from 8 2 bytes

-- the key of the record that stands at a place: its file, and its number in the file
abbrev pub key_at : List ℕ → ℕ → Key
key_at bytes place =
    record { file = slice_index bytes place; id = little_from (place + 1) 4 bytes }

-- the record that stands at a place: its key, and its 64 bytes
abbrev pub write_in : List ℕ → ℕ → Key × Rec
write_in bytes place = (key_at bytes place, record { bytes = take 64 (drop (place + 5) bytes) })

-- so many of them, one after the other
abbrev pub writes_in : List ℕ → ℕ → ℕ → Pairs
writes_in bytes place zero = []
writes_in bytes place (suc n) = write_in bytes place ∷ writes_in bytes (place + shipped_bytes) n

-- the records of a shipment
abbrev pub writes_of : List ℕ → Pairs
writes_of bytes = writes_in bytes head_bytes (count_of bytes)

-- how many bytes a shipment of so many records has
abbrev pub shipment_length : ℕ → ℕ
shipment_length count = head_bytes + shipped_bytes * count

-- a shipment may have the record after that of the last key, where there is one
pub record IsNext (shape : Shape) (last : Option Key) (key : Key) : Type 0 where
  pub shipped : is_shipped shape key ≡ true
  pub above : IsAbove last key

-- each record may come after the one before it
abbrev pub Ascend : Shape → Option Key → Pairs → Type 0
Ascend shape last [] = Unit {0}
Ascend shape last (write ∷ later) =
    IsNext shape last write.0 × Ascend shape (Some write.0) later

-- The bytes are a shipment for a store of this shape: as many records as the count says, and
-- nothing after them.
pub record IsShipment (shape : Shape) (bytes : List ℕ) : Type 0 where
  pub few : count_of bytes ≤ most_shipped
  pub whole : length bytes ≡ shipment_length (count_of bytes)
  pub ascend : Ascend shape None (writes_of bytes)

-- The bytes stop to begin a shipment within the head: they end there, or the count is too great,
-- which its last byte says.
abbrev pub StopsInHead : List ℕ → ℕ → Type 0
StopsInHead bytes at =
    ((length bytes < head_bytes) × (at ≡ length bytes))
    ⊎ ((head_bytes ≤ length bytes) × (most_shipped < count_of bytes) × (at ≡ head_bytes - 1))

-- bytes may follow with which these are a shipment
abbrev pub BeginsShipment : Shape → List ℕ → Type 0
BeginsShipment shape bytes =
    (rest : List ℕ) × AllByRecursion (λ byte. byte < 256) rest × IsShipment shape (bytes ++ rest)

-- so many of the bytes are their longest prefix that begins a shipment
pub record IsLongestBeginning (shape : Shape) (bytes : List ℕ) (at : ℕ) : Type 0 where
  pub within : at ≤ length bytes
  pub begins : BeginsShipment shape (take at bytes)
  pub longest : (n : ℕ) → at < n → n ≤ length bytes → ¬ BeginsShipment shape (take n bytes)

-- The bytes are no shipment, and so many of them are their longest prefix that begins one.
pub record IsNoShipment (shape : Shape) (bytes : List ℕ) (at : ℕ) : Type 0 where
  pub none : ¬ IsShipment shape bytes
  pub longest : IsLongestBeginning shape bytes at
