-- The entries of the log, written into the files of records.
use Rattle.std.specs.Prelude.{◌≡◌, ℕ, List, None}
use Rattle.disk_model.specs.Contents.{Files}
use Rattle.rec_bytes.specs.Format.{log_file}
use Rattle.rec_bytes.specs.declared.key.Key.{Key}
use Rattle.rec_bytes.specs.Pairs.{Pairs}
use Rattle.redo_log.specs.Entries.{IsEntry, count_at}
use Rattle.redo_log.specs.Reading.{IsPieceOf, Piece}
use Rattle.record_file.specs.Records.{record_at}
use Rattle.record_file.specs.Redone.{last_of}

-- an entry of so many records stands at the place, and the kept bytes are those of the log
pub record IsAtEntry (content : Files) (piece : Piece) (place count : ℕ) : Type 0 where
  pub kept : IsPieceOf content piece
  pub entry : IsEntry content place
  pub count_is : count ≡ count_at content place

-- The same log, and the same record at each key that no entry has.
pub record SameButLogged (entries : List Pairs) (old new : Files) : Type 0 where
  pub log : (place : ℕ) → new log_file place ≡ old log_file place
  pub others : (key : Key) → last_of entries key ≡ None → record_at new key ≡ record_at old key

-- a content from before, but for the records of the entries
abbrev pub IsTornInLogged : (Files → Type 0) → List Pairs → Files → Type 0
IsTornInLogged images entries content =
    (old : Files) × images old × SameButLogged entries old content
