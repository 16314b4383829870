-- What a reset of the log leaves.
use Rattle.std.specs.Prelude.{◌⊎◌, ℕ, List, []}
use Rattle.disk_model.specs.Contents.{Files, SameOutside}
use Rattle.rec_bytes.specs.Format.{log_file}
use Rattle.rec_bytes.specs.Pairs.{Pairs}
use Rattle.redo_log.specs.Entries.{HasEntries}

-- the log has these entries, or none
abbrev pub HasEntriesOrNone : Files → List Pairs → ℕ → Type 0
HasEntriesOrNone content entries tail = HasEntries content entries tail ⊎ HasEntries content [] 0

-- the same bytes but for the first gate
abbrev pub SameButGate : Files → Files → Type 0
SameButGate old new = SameOutside log_file 0 1 old new

-- A content that a reset may leave: one from before but for the first gate, whose log has the old
-- entries or none.
pub record IsReset (images : Files → Type 0) (entries : List Pairs) (tail : ℕ)
    (content : Files) : Type 0 where
  pub old : Files
  pub was_left : images old
  pub elsewhere : SameButGate old content
  pub entries_are : HasEntriesOrNone content entries tail
