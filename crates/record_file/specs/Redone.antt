-- What the entries of the log make of the records of a content.
use Rattle.std.specs.Prelude.{◌≡◌, ℕ, List, [], ◌∷◌, Option, None}
use Rattle.std.specs.Option.{option_or}
use Rattle.disk_model.specs.Contents.{Files}
use Rattle.rec_bytes.specs.declared.key.Key.{Key}
use Rattle.rec_bytes.specs.declared.record.Rec.{Rec}
use Rattle.rec_bytes.specs.Pairs.{Pairs, find_pair}
use Rattle.redo_log.specs.Entries.{HasEntries}
use Rattle.redo_log.specs.Redo.{redone}
use Rattle.record_file.specs.Records.{SameButRecords, record_at}

-- the record that the last entry with this key has for it
abbrev pub last_of : List Pairs → Key → Option Rec
last_of [] key = None
last_of (entry ∷ later) key = option_or (last_of later key) (find_pair entry key)

-- The entries of the content's log make this space of its records.
pub record Redoes (content : Files) (space : Key → Rec) : Type 0 where
  pub entries : List Pairs
  pub tail : ℕ
  pub log : HasEntries content entries tail
  pub makes : redone (record_at content) entries ≡ space

-- each of these keys is one of an entry
abbrev pub AreLogged : List Pairs → Pairs → Type 0
AreLogged entries written = (key : Key) → last_of entries key ≡ None → find_pair written key ≡ None

-- What is read: the log ends at the tail, and its entries have the changed records, each as the
-- last entry has it.
pub record IsLogged (content : Files) (changed : Pairs) (tail : ℕ) : Type 0 where
  pub entries : List Pairs
  pub log : HasEntries content entries tail
  pub changes : (key : Key) → find_pair changed key ≡ last_of entries key

-- each image is what is read, but for the changed records
abbrev pub AreAlike : Files → Pairs → (Files → Type 0) → Type 0
AreAlike content changed images =
    (image : Files) → images image → SameButRecords changed content image
