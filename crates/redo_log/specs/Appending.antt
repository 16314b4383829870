-- What an entry that is appended leaves.
use Rattle.std.specs.Prelude.{
  ◌≡◌,
  ◌⊎◌,
  ℕ,
  ◌+◌,
  ◌≤◌,
  ◌<◌,
  List,
  [],
  ◌∷◌,
  ◌++◌,
  length,
  flat_map,
  Some,
}
use Rattle.std.specs.List.{AllByRecursion, slice_get}
use Rattle.disk_model.specs.Contents.{Files, SameOutside}
use Rattle.rec_bytes.specs.Format.{log_file, record_bytes}
use Rattle.byteorder.specs.Endian.{little_bytes}
use Rattle.rec_bytes.specs.declared.key.Key.{Key}
use Rattle.rec_bytes.specs.declared.record.Rec.{Rec}
use Rattle.rec_bytes.specs.Pairs.{Pairs}
use Rattle.redo_log.specs.Entries.{HasEntries, entry_bytes}

-- each record has its 64 bytes
abbrev pub AreWhole : Pairs → Type 0
AreWhole writes = AllByRecursion (λ write. length write.1.bytes ≡ record_bytes) writes

-- so has each of those from one place up to another
abbrev pub AreWholeFrom : Pairs → ℕ → ℕ → Type 0
AreWholeFrom writes from end =
    (i : ℕ) (write : Key × Rec) → from ≤ i → i < end → slice_get writes i ≡ Some write
    → length write.1.bytes ≡ record_bytes

-- the bytes of a written record in an entry: its file, its number with the lowest byte first, and
-- its 64 bytes
abbrev pub write_bytes : Key × Rec → List ℕ
write_bytes write = write.0.file ∷ little_bytes 4 write.0.id ++ write.1.bytes

-- the bytes of an entry after its gate: how many records there are, and each of them
abbrev pub payload_bytes : Pairs → List ℕ
payload_bytes writes = little_bytes 2 (length writes) ++ flat_map write_bytes writes

-- a content from before, but for so many bytes of the log from a place on
abbrev pub IsTornFrom : (Files → Type 0) → ℕ → ℕ → Files → Type 0
IsTornFrom images place n content =
    (old : Files) × images old × SameOutside log_file place n old content

-- the log has these entries and one more
abbrev pub HasOneMore : Files → List Pairs → Pairs → ℕ → Type 0
HasOneMore content entries writes tail =
    HasEntries content (entries ++ writes ∷ []) (tail + entry_bytes (length writes))

-- the log has these entries, or these and one more
abbrev pub HasAtMostOneMore : Files → List Pairs → Pairs → ℕ → Type 0
HasAtMostOneMore content entries writes tail =
    HasEntries content entries tail ⊎ HasOneMore content entries writes tail

-- the same bytes but for the room of the entry at the tail and the gate after it
abbrev pub SameButEntry : ℕ → Pairs → Files → Files → Type 0
SameButEntry tail writes old new =
    SameOutside log_file tail (entry_bytes (length writes) + 1) old new

-- A content that an append may leave: one from before but for the entry, whose log has the old
-- entries or one more.
pub record IsAppended (images : Files → Type 0) (entries : List Pairs) (writes : Pairs) (tail : ℕ)
    (content : Files) : Type 0 where
  pub old : Files
  pub was_left : images old
  pub elsewhere : SameButEntry tail writes old content
  pub entries_are : HasAtMostOneMore content entries writes tail
