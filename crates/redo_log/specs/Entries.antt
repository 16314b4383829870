-- What the log says: entries of written records from its start on, as long as their gates are open.
use Rattle.std.specs.Prelude.{◌≡◌, ◌≢◌, ℕ, zero, suc, ◌+◌, ◌*◌, ◌≤◌, ◌<◌, List, [], ◌∷◌, length}
use Rattle.std.specs.List.{AllByRecursion}
use Rattle.byteorder.specs.Endian.{little_number}
use Rattle.disk_model.specs.Contents.{Files, bytes_from}
use Rattle.rec_bytes.specs.Format.{log_file, most_writes}
use Rattle.rec_bytes.specs.declared.key.Key.{Key}
use Rattle.rec_bytes.specs.declared.record.Rec.{Rec}
use Rattle.rec_bytes.specs.Key.{IsKey}
use Rattle.rec_bytes.specs.Pairs.{Pairs, IsOrdered}

-- a gate that is open; each other byte is a closed one
abbrev pub open_byte : ℕ
open_byte = 1

-- the last place of the log that an entry or the gate after it may have
abbrev pub last_place : ℕ
last_place = 1048575

-- the n bytes of the log from a place on
abbrev pub log_bytes : Files → ℕ → ℕ → List ℕ
log_bytes content place n = bytes_from (content log_file) place n

-- the number in n bytes of the log from a place on, the lowest first
abbrev pub log_number : Files → ℕ → ℕ → ℕ
log_number content place n = little_number n (log_bytes content place n)

-- how many bytes an entry of so many records takes: its gate, their count, and 69 a record
abbrev pub entry_bytes : ℕ → ℕ
entry_bytes count = 3 + 69 * count

-- an entry of so many records fits at the place, with the gate after it
abbrev pub Fits : ℕ → ℕ → Type 0
Fits place count = place + entry_bytes count ≤ last_place

-- the record written that stands at a place: its file, its number, and its 64 bytes
abbrev pub write_at : Files → ℕ → Key × Rec
write_at content place = (
  record {
    file = content log_file place;
    id = log_number content (place + 1) 4;
  },
  record { bytes = log_bytes content (place + 5) 64 },
)

-- so many of them, one after the other
abbrev pub writes_from : Files → ℕ → ℕ → Pairs
writes_from content place zero = []
writes_from content place (suc n) = write_at content place ∷ writes_from content (place + 69) n

-- how many records the entry at a place has
abbrev pub count_at : Files → ℕ → ℕ
count_at content place = log_number content (place + 1) 2

-- the place of the entry's record of this index
abbrev pub write_place : ℕ → ℕ → ℕ
write_place place index = place + 3 + 69 * index

-- the records that the entry at a place writes
abbrev pub entry_at : Files → ℕ → Pairs
entry_at content place = writes_from content (place + 3) (count_at content place)

-- An entry may have these records: one at least and at most 2,048, each of 64 bytes, at rising keys
-- that a store can have.
pub record IsEntryOf (writes : Pairs) : Type 0 where
  pub some : 0 < length writes
  pub few : length writes ≤ most_writes
  pub keys : AllByRecursion (λ write. IsKey write.0) writes
  pub rising : IsOrdered writes

-- an entry stands at the place: its gate is open, it is of the right form, and it ends within the
-- log
pub record IsEntry (content : Files) (place : ℕ) : Type 0 where
  pub open_gate : content log_file place ≡ open_byte
  pub form : IsEntryOf (entry_at content place)
  pub fits : Fits place (count_at content place)

-- an open gate over anything else
abbrev pub IsDamaged : Files → ℕ → Type 0
IsDamaged content place = (content log_file place ≡ open_byte) × ¬ IsEntry content place

-- from the place on the log has these entries, one after the other, and ends at the tail, over a
-- closed gate
abbrev pub HasEntriesFrom : ℕ → Files → List Pairs → ℕ → Type 0
HasEntriesFrom place content [] tail = (place ≡ tail) × (content log_file place ≢ open_byte)
HasEntriesFrom place content (entry ∷ later) tail =
    IsEntry content place × (entry_at content place ≡ entry)
    × HasEntriesFrom (place + entry_bytes (length entry)) content later tail

-- the log has these entries, and ends at the tail
abbrev pub HasEntries : Files → List Pairs → ℕ → Type 0
HasEntries content entries tail = HasEntriesFrom 0 content entries tail

-- each of these contents has these entries
abbrev pub AllHaveEntries : (Files → Type 0) → List Pairs → ℕ → Type 0
AllHaveEntries images entries tail = (image : Files) → images image → HasEntries image entries tail

-- the log has entries up to this place
abbrev pub HasEntriesUpTo : ℕ → Files → List Pairs → ℕ → Type 0
HasEntriesUpTo place content [] end = place ≡ end
HasEntriesUpTo place content (entry ∷ later) end =
    IsEntry content place × (entry_at content place ≡ entry)
    × HasEntriesUpTo (place + entry_bytes (length entry)) content later end

-- After entries of the right form an open gate stands over another form. Such a log has no list of
-- entries.
pub record IsDamagedLog (content : Files) (place : ℕ) : Type 0 where
  pub entries : List Pairs
  pub before : HasEntriesUpTo 0 content entries place
  pub damaged : IsDamaged content place
