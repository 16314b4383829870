-- What calls of a disk leave, from one state of it to a later one. The ghosts of the disk are one
-- value: D.Disk.
use Rattle.std.specs.Prelude.{ℕ}
use Rattle.disk_model.specs.Contents.{Files, IsFile, Same}
use Rattle.disk_model.specs.Disk.{LeavesOnly, NoMore, Settled}
use Rattle.disk_model.specs.declared.disk.Disk.{Ghosts}

-- a crash at any moment from the one state to the other leaves a content that has P
abbrev pub AtEachMoment : {D : Type 0} → Ghosts D → D → D → (Files → Type 0) → Type 0
AtEachMoment g old new P =
    LeavesOnly (g.moment old) (g.moment new) (g.left_since old) (g.left_since new) P

-- Calls that only read leave what is read, and no image but those from before, at any moment.
pub record OnlyReads {D : Type 0} (g : Ghosts D) (old new : D) : Type 0 where
  pub keeps : Same (g.reads old) (g.reads new)
  pub crash : g.tells_images → NoMore (g.may_leave old) (g.may_leave new)
  pub time : g.tells_images → AtEachMoment g old new (g.may_leave old)

-- no file has a byte that a crash may change
abbrev pub IsAllSettled : {D : Type 0} → Ghosts D → D → Type 0
IsAllSettled g disk = (file : ℕ) → IsFile file → Settled file (g.reads disk) (g.may_leave disk)
