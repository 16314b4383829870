-- What holds of a store at each moment between two of its calls.
use Rattle.std.specs.Prelude.{◌≡◌, ℕ, ◌+◌, ◌≤◌, Bool, false, List, length}
use Rattle.disk_model.specs.Contents.{Files}
use Rattle.disk_model.specs.declared.disk.Disk.{Ghosts}
use Rattle.rec_bytes.specs.Format.{most_changed, most_writes}
use Rattle.rec_bytes.specs.declared.record.Rec.{Rec}
use Rattle.rec_bytes.specs.Pairs.{Held, Pairs, growth_by}
use Rattle.redo_log.specs.Entries.{Fits}
use Rattle.record_file.specs.Records.{record_at}
use Rattle.record_file.specs.Redone.{AreAlike, IsLogged}
use Rattle.record_file.specs.MetaFile.{AreMetasOf}

-- how many pages of records are kept
abbrev pub kept_pages : ℕ
kept_pages = 256

-- the transaction may have these records besides its own
abbrev pub FitsTransaction : Pairs → Pairs → Type 0
FitsTransaction own more = length own + growth_by own more ≤ most_writes

-- the transaction fits as one entry at the tail of the log, and its records fit among the changed
-- ones
abbrev pub FitsCommit : ℕ → Pairs → Pairs → Type 0
FitsCommit tail changed own =
    Fits tail (length own) × (length changed + growth_by changed own ≤ most_changed)

-- There are at most as many changed records as there may be, and they have room for so many. The
-- transaction has as many as an entry may have, and none where none is open.
pub record AreBounded (in_transaction : Bool) (changed own : Held) : Type 0 where
  pub room : most_changed ≤ length changed.pairs + changed.room
  pub few : length own.pairs ≤ most_writes
  pub closed : in_transaction ≡ false → length own.pairs ≡ 0
  pub most : length changed.pairs ≤ most_changed

-- The log is what is read: its entries have the changed records, and it ends at the tail. Each
-- image is what is read, but for the changed records, and the meta records in memory are those of
-- their file.
pub record IsKept {D : Type 0} (g : Ghosts D) (disk : D) (metas : List Rec) (changed : Pairs)
    (tail : ℕ) : Type 0 where
  pub logged : g.tells_reads → IsLogged (g.reads disk) changed tail
  pub alike : g.tells_reads → g.tells_images → AreAlike (g.reads disk) changed (g.may_leave disk)
  pub held : g.tells_reads → AreMetasOf (record_at (g.reads disk)) metas

-- what is read, and each image, has the fact
pub record IsOnDisk {D : Type 0} (g : Ghosts D) (disk : D) (P : Files → Type 0) : Type 0 where
  pub read : g.tells_reads → P (g.reads disk)
  pub images : g.tells_reads → g.tells_images → (image : Files) → g.may_leave disk image → P image
