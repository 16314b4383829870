-- What a reader of the log answers, by what a read of the disk gives.
use Rattle.std.specs.Prelude.{◌≡◌, ◌≢◌, ℕ, ◌+◌, ◌≤◌, ◌<◌, List, [], ◌∷◌, length, Option, None, Some}
use Rattle.std.specs.declared.cmp.Ordering.TheVariants.{Less}
use Rattle.disk_model.specs.Contents.{Files, Holds, Same}
use Rattle.rec_bytes.specs.Format.{log_file, most_writes}
use Rattle.rec_bytes.specs.declared.key.Key.{Key}
use Rattle.rec_bytes.specs.Key.{IsKey, key_cmp}
use Rattle.rec_bytes.specs.Pairs.{Pairs}
use Rattle.redo_log.specs.Entries.{IsEntry, IsDamaged, Fits, count_at, entry_bytes, open_byte}
use Rattle.redo_log.specs.declared.entry_answer.EntryAnswer.{EntryAnswer}
use Rattle.redo_log.specs.declared.entry_answer.EntryAnswer.TheVariants.{Entry, End, Disk, Damaged}

-- the bytes of the log that a reader keeps, and the place of the first
pub record Piece : Type 0 where
  pub start : ℕ
  pub bytes : List ℕ

-- the kept bytes are those of this content
abbrev pub IsPieceOf : Files → Piece → Type 0
IsPieceOf content piece = Holds log_file piece.start piece.bytes content

-- what stands at the place of the log: an entry with so many records and the place after it, a
-- closed gate, or an open gate over anything else
abbrev pub Tells : Files → ℕ → EntryAnswer → Type 0
Tells content place (Entry count next) =
    IsEntry content place × (count ≡ count_at content place) × (next ≡ place + entry_bytes count)
Tells content place End = content log_file place ≢ open_byte
Tells content place Disk = Unit {0}
Tells content place (Damaged damaged) = (damaged ≡ place) × IsDamaged content place

-- an answer of an entry names one that fits in the log, and of damage the place that was asked for,
-- whatever the disk tells
abbrev pub IsInLog : ℕ → EntryAnswer → Type 0
IsInLog place (Entry count next) =
    (0 < count) × (count ≤ most_writes) × (next ≡ place + entry_bytes count) × Fits place count
IsInLog place End = Unit {0}
IsInLog place Disk = Unit {0}
IsInLog place (Damaged damaged) = damaged ≡ place

-- the kept bytes have the n of the log from this place on
pub record Covers (piece : Piece) (at n : ℕ) : Type 0 where
  pub begins : piece.start ≤ at
  pub ends : at + n ≤ piece.start + length piece.bytes

-- a read of the disk gives this content, and the kept bytes are those of it
pub record HasContent (content reads : Files) (piece : Piece) : Type 0 where
  pub same : Same content reads
  pub kept : IsPieceOf content piece

-- each content that the disk and the kept bytes had they have still
abbrev pub KeepsContent : Files → Files → Piece → Piece → Type 0
KeepsContent old new before now =
    (content : Files) → HasContent content old before → HasContent content new now

-- an entry of so many records can stand at the place
pub record IsEntrySize (place count : ℕ) : Type 0 where
  pub some : 0 < count
  pub few : count ≤ most_writes
  pub fits : Fits place count

-- the key is greater than this one, where there is one
abbrev pub IsAbove : Option Key → Key → Type 0
IsAbove None key = Unit {0}
IsAbove (Some last) key = key_cmp last key ≡ Less

-- a store can have the key, and it is greater than the one before, where there is one
pub record IsNextKey (last : Option Key) (key : Key) : Type 0 where
  pub valid : IsKey key
  pub above : IsAbove last key

-- the keys of the records rise from behind this one on, and a store can have each
abbrev pub AreRisingAbove : Option Key → Pairs → Type 0
AreRisingAbove last [] = Unit {0}
AreRisingAbove last (write ∷ later) = IsNextKey last write.0 × AreRisingAbove (Some write.0) later
