-- The slot of a key in a shipment, and which bytes begin a key that may stand there.
use Rattle.std.specs.Prelude.{
  ◌≡◌,
  ◌⊎◌,
  ℕ,
  zero,
  suc,
  ◌+◌,
  ◌-◌,
  ◌*◌,
  ◌^◌,
  ◌≤◌,
  ◌<◌,
  nat_eq,
  nat_lt,
  if◌then◌else◌,
  List,
  length,
  slice_index,
  Option,
  None,
  Some,
}
use Rattle.byteorder.specs.Endian.{little_from}
use Rattle.rec_bytes.specs.declared.key.Key.{Key}
use Rattle.rec_bytes.specs.declared.shape.Shape.{Shape}
use Rattle.rec_bytes.specs.Format.{index_file, names_file}
use Rattle.rec_bytes.specs.RecordFiles.{room_of}
use Rattle.follower.specs.declared.slot.Slot.{Slot}
use Rattle.txn_core.specs.Shipped.{is_kept_back}
use Rattle.follower.specs.Shipment.{IsNext, shipped_bytes}

-- how many keys of this file come after a key
abbrev pub keys_in_after : Shape → ℕ → Key → ℕ
keys_in_after shape file key =
    if nat_lt key.file file then room_of shape file
    else (if nat_eq key.file file then room_of shape file - (key.id + 1) else 0)

-- How many keys of the names and of the index do. There may be more names than a shipment has
-- records, so after a key of an earlier file enough keys always may come.
abbrev pub keys_after : Shape → Key → ℕ
keys_after shape key = keys_in_after shape names_file key + keys_in_after shape index_file key

-- how many do after the last key, where there is one
abbrev pub keys_left : Shape → Option Key → ℕ
keys_left shape None = room_of shape names_file + room_of shape index_file
keys_left shape (Some last) = keys_after shape last

-- the key may come after the last one, and enough keys may come after it
pub record MayStand (slot : Slot) (key : Key) : Type 0 where
  pub next : IsNext slot.shape slot.last key
  pub left : slot.more ≤ keys_after slot.shape key

-- a key of the file may stand in the slot whose id is this low part and a multiple of the power
abbrev pub BeginsIn : Slot → ℕ → ℕ → ℕ → Type 0
BeginsIn slot file low power =
    (high : ℕ) × MayStand slot (record { file = file; id = low + power * high })

-- so many of the bytes from a place on begin a key that may stand in the slot
abbrev pub BeginsKey : Slot → List ℕ → ℕ → ℕ → Type 0
BeginsKey slot bytes place zero = Unit {0}
BeginsKey slot bytes place (suc known) =
    BeginsIn slot (slice_index bytes place) (little_from (place + 1) known bytes) (256 ^ known)

-- The bytes stop to begin a shipment here, within a record that begins at the place: some bytes of
-- its key are known and begin one, and the bytes end here, or begin none with the next one. The
-- known ones are all from the place on, or the whole key.
pub record StopsInRecord (slot : Slot) (bytes : List ℕ) (place at : ℕ) : Type 0 where
  pub known : ℕ
  pub few : known ≤ 5
  pub from : place + known ≤ at
  pub all : (at ≡ place + known) ⊎ (known ≡ 5)
  pub within : at ≤ length bytes
  pub short : at < place + shipped_bytes
  pub begins : BeginsKey slot bytes place known
  pub stops :
      (at ≡ length bytes)
      ⊎ ((known < 5) × (at ≡ place + known) × (at < length bytes)
      × ¬ BeginsKey slot bytes place (suc known))

-- what the proofs ask of a power of 256, which is what some low bytes leave open of an id
pub record IsPower (power : ℕ) : Type 0 where
  pub one_or_more : (power ≡ 1) ⊎ (256 ≤ power)
  pub small : power ≤ 2 ^ 32

-- the least id in this file whose key is above the last one, unless that is in a later file
abbrev pub least_above : Option Key → ℕ → ℕ
least_above None file = 0
least_above (Some last) file = if nat_eq last.file file then last.id + 1 else 0

-- the same, or the next one if that is kept back
abbrev pub least_next : Option Key → ℕ → ℕ
least_next last file =
    if is_kept_back (record { file = file; id = least_above last file })
    then least_above last file + 1 else least_above last file

-- the least id from the first one on that is this low part and a multiple of the power
pub record IsLeastFrom (first low power id : ℕ) : Type 0 where
  pub is : (high : ℕ) × (id ≡ low + power * high)
  pub from : first ≤ id
  pub least : (high : ℕ) → first ≤ low + power * high → id ≤ low + power * high
