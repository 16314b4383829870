-- The records that stand in a content of the disk: 64 bytes each, one after the other in their
-- file.
use Rattle.std.specs.Prelude.{◌≡◌, ℕ, ◌*◌, ◌<◌, [], None, if◌then◌else◌}
use Rattle.disk_model.specs.Contents.{Files, SameOutside, bytes_from}
use Rattle.rec_bytes.specs.Format.{log_file, meta_records, record_bytes}
use Rattle.rec_bytes.specs.declared.key.Key.{Key}
use Rattle.rec_bytes.specs.declared.record.Rec.{Rec}
use Rattle.rec_bytes.specs.Pairs.{Pairs, find_pair}
use Rattle.rec_bytes.specs.Record.{zeros}
use Rattle.rec_bytes.specs.RecordFiles.{is_record_file, meta_key_of}
use Rattle.redo_log.specs.Entries.{HasEntries}

-- the first place of a record in its file
abbrev pub record_place : Key → ℕ
record_place key = record_bytes * key.id

-- the record of a key that stands in a content; no other file has records, so a key of one has
-- zeros
unfoldable pub record_at : Files → Key → Rec
record_at content key =
    if is_record_file key.file then
    (record { bytes = bytes_from (content key.file) (record_place key) record_bytes }) else zeros

-- the same bytes everywhere but in one record
abbrev pub SameButRecord : Key → Files → Files → Type 0
SameButRecord key old new = SameOutside key.file (record_place key) record_bytes old new

-- the same record at each key that is none of these
abbrev pub KeepsOthers : Pairs → Files → Files → Type 0
KeepsOthers written old new =
    (key : Key) → find_pair written key ≡ None → record_at new key ≡ record_at old key

-- The same log, and the same record at each key that is none of these.
pub record SameButRecords (written : Pairs) (old new : Files) : Type 0 where
  pub log : (place : ℕ) → new log_file place ≡ old log_file place
  pub others : KeepsOthers written old new

-- a content from before, but for these records
abbrev pub IsTornInRecords : (Files → Type 0) → Pairs → Files → Type 0
IsTornInRecords images written content =
    (old : Files) × images old × SameButRecords written old content

-- No store was made in the content: no entry stands in the log, and each record of the meta file is
-- zeros.
pub record IsUnmade (content : Files) : Type 0 where
  pub log : HasEntries content [] 0
  pub blank : (id : ℕ) → id < meta_records → record_at content (meta_key_of id) ≡ zeros
