-- What calls of the store leave of a session, over any disk, whatever is in it. What is read, and
-- which contents a crash may leave, is said where the disk tells it.
use Rattle.std.specs.Prelude.{◌≡◌, ◌≢◌, ◌⊎◌, ◌+◌, ℕ, IsTrue, true, false, List, [], ◌++◌, take}
use Rattle.disk_model.specs.Contents.{Files}
use Rattle.disk_model.specs.Spans.{AtEachMoment, OnlyReads}
use Rattle.disk_model.specs.declared.disk.Disk.{Ghosts}
use Rattle.plain_graph.specs.Changes.{start_weight}
use Rattle.rec_bytes.specs.Format.{log_file, names_file}
use Rattle.rec_bytes.specs.declared.key.Key.{Key}
use Rattle.rec_bytes.specs.declared.record.Rec.{Rec}
use Rattle.redo_log.specs.Entries.{open_byte}
use Rattle.record_file.specs.Redone.{Redoes}
use Rattle.store_rules.specs.Graph.{names_of}
use Rattle.store_rules.specs.Views.{high}
use Rattle.graph_session.specs.Console.{BeginWith, SessionView, TellsAll}
use Rattle.graph_session.specs.declared.health.Health.TheVariants as healths

-- what is read, and each image, has the fact
pub record IsStored {D : Type 0} (g : Ghosts D) (disk : D) (holds : Files → Type 0) : Type 0 where
  pub read : g.tells_reads → holds (g.reads disk)
  pub images : TellsAll g → (image : Files) → g.may_leave disk image → holds image

-- What lies beneath the open transaction is as it was, over a disk that was only read.
pub record KeepsBeneath {D : Type 0} (g : Ghosts D) (old new : SessionView D) : Type 0 where
  pub shape : new.console.shape ≡ old.console.shape
  pub is_live : new.console.is_live ≡ old.console.is_live
  pub committed : g.tells_reads → new.console.committed ≡ old.console.committed
  pub no_draft : new.console.draft ≡ []
  pub disk : OnlyReads g old.disk new.disk

-- The session is as it was, over a disk that was only read.
pub record Stays {D : Type 0} (g : Ghosts D) (old new : SessionView D) : Type 0 where
  pub beneath : KeepsBeneath g old new
  pub health : new.console.health ≡ old.console.health
  pub is_open : new.console.is_open ≡ old.console.is_open
  pub weight : old.console.is_open ≡ true → new.console.weight ≡ old.console.weight
  pub names : new.console.names ≡ old.console.names
  pub written : new.console.written ≡ old.console.written
  pub working : g.tells_reads → new.console.working ≡ old.console.working

-- The session has an open transaction, over a disk that was not called.
pub record Begins {D : Type 0} (g : Ghosts D) (old new : SessionView D) : Type 0 where
  pub beneath : KeepsBeneath g old new
  pub same_disk : new.disk ≡ old.disk
  pub health : new.console.health ≡ old.console.health
  pub is_open : new.console.is_open ≡ true
  pub weight : new.console.weight ≡ start_weight
  pub names : new.console.names ≡ old.console.names
  pub written : new.console.written ≡ []
  pub working : g.tells_reads → new.console.working ≡ old.console.committed

-- The open transaction was dropped, with the names that it brought, over a disk that was not
-- called.
pub record Drops {D : Type 0} (g : Ghosts D) (old new : SessionView D) : Type 0 where
  pub beneath : KeepsBeneath g old new
  pub same_disk : new.disk ≡ old.disk
  pub health : new.console.health ≡ old.console.health
  pub is_open : new.console.is_open ≡ false
  pub names : new.console.names ≡ take (high new.console.committed names_file) old.console.names
  pub working : g.tells_reads → new.console.working ≡ old.console.committed

-- No transaction is open any more, over the same store.
pub record Ends {D : Type 0} (old new : SessionView D) : Type 0 where
  pub shape : new.console.shape ≡ old.console.shape
  pub is_open : new.console.is_open ≡ false
  pub no_draft : new.console.draft ≡ []

-- What the transaction had is committed.
pub record Commits {D : Type 0} (g : Ghosts D) (old new : SessionView D) : Type 0 where
  pub ends : Ends old new
  pub health : new.console.health ≡ old.console.health
  pub live : IsTrue new.console.is_live
  pub names : new.console.names ≡ old.console.names
  pub committed : g.tells_reads → new.console.committed ≡ old.console.working
  pub working : g.tells_reads → new.console.working ≡ new.console.committed
  pub stored : IsStored g new.disk (λ left. Redoes left old.console.working)

-- The disk failed, and has what was committed, or what the transaction had.
pub record IsLeftOpen {D : Type 0} (g : Ghosts D) (old new : SessionView D) : Type 0 where
  pub ends : Ends old new
  pub health : new.console.health ≡ healths.Failed
  pub failed : new.console.is_live ≡ false
  pub names : new.console.names ≡ old.console.names
  pub stored :
      IsStored g new.disk (λ left. Redoes left old.console.committed
      ⊎ Redoes left old.console.working)

-- at each moment of the commit a crash leaves the one or the other
abbrev pub LeavesEither : {D : Type 0} → Ghosts D → SessionView D → D → Type 0
LeavesEither g old new =
    TellsAll g → AtEachMoment g old.disk new (λ left. Redoes left old.console.committed
    ⊎ Redoes left old.console.working)

-- All that was committed is in its files.
pub record IsBrought {D : Type 0} (g : Ghosts D) (old new : SessionView D) : Type 0 where
  pub ends : Ends old new
  pub health : new.console.health ≡ old.console.health
  pub live : IsTrue new.console.is_live
  pub names : new.console.names ≡ old.console.names
  pub committed : g.tells_reads → new.console.committed ≡ old.console.committed
  pub working : g.tells_reads → new.console.working ≡ new.console.committed
  pub stored : IsStored g new.disk (λ left. Redoes left old.console.committed)

-- The disk failed, and has what was committed.
pub record IsStopped {D : Type 0} (g : Ghosts D) (old new : SessionView D) : Type 0 where
  pub ends : Ends old new
  pub health : new.console.health ≡ healths.Failed
  pub names : new.console.names ≡ old.console.names
  pub stored : IsStored g new.disk (λ left. Redoes left old.console.committed)

-- at each moment of the checkpoint a crash leaves what was committed
abbrev pub LeavesCommitted : {D : Type 0} → Ghosts D → SessionView D → D → Type 0
LeavesCommitted g old new =
    TellsAll g → AtEachMoment g old.disk new (λ left. Redoes left old.console.committed)

-- where the log has no entry, the disk is only read
abbrev pub ReadsClean : {D : Type 0} → Ghosts D → D → D → Type 0
ReadsClean g old new =
    g.tells_reads → g.reads old log_file 0 ≢ open_byte → OnlyReads g old new

-- The store that the disk has is served again, with the names of its graph.
pub record IsFound {D : Type 0} (g : Ghosts D) (old new : SessionView D) : Type 0 where
  pub ends : Ends old new
  pub health : new.console.health ≡ healths.Live
  pub live : IsTrue new.console.is_live
  pub names :
      g.tells_reads → (space : Key → Rec) → Redoes (g.reads old.disk) space
      → new.console.names ≡ names_of space
  pub committed :
      g.tells_reads → (space : Key → Rec) → Redoes (g.reads old.disk) space
      → new.console.committed ≡ space
  pub working : g.tells_reads → new.console.working ≡ new.console.committed
  pub read :
      g.tells_reads → (space : Key → Rec) → Redoes (g.reads old.disk) space
      → Redoes (g.reads new.disk) space
  pub images :
      TellsAll g → (image : Files) → g.may_leave new.disk image
      → Redoes image new.console.committed
  pub clean : ReadsClean g old.disk new.disk

-- It is not served again. What is read redoes to the same.
pub record IsLost {D : Type 0} (g : Ghosts D) (old new : SessionView D) : Type 0 where
  pub ends : Ends old new
  pub health : new.console.health ≡ healths.Failed
  pub names : new.console.names ≡ old.console.names
  pub read :
      g.tells_reads → (space : Key → Rec) → Redoes (g.reads old.disk) space
      → Redoes (g.reads new.disk) space
  pub clean : ReadsClean g old.disk new.disk

-- at each moment of the recovery a crash leaves a content from before, or one that redoes to
-- what was read
abbrev pub LeavesSame : {D : Type 0} → Ghosts D → D → D → Type 0
LeavesSame g old new =
    TellsAll g → (space : Key → Rec) → Redoes (g.reads old) space → AtEachMoment g old new
    (λ left. g.may_leave old left ⊎ Redoes left space)

-- The change is in the open transaction, which weighs so much more. The names grew.
pub record Keeps {D : Type 0} (g : Ghosts D) (old new : SessionView D) (weight : ℕ) : Type 0 where
  pub beneath : KeepsBeneath g old new
  pub health : new.console.health ≡ old.console.health
  pub is_open : new.console.is_open ≡ old.console.is_open
  pub weighs : new.console.weight ≡ old.console.weight + weight
  pub brought : (more : List (List ℕ)) × (new.console.names ≡ old.console.names ++ more)

-- The change is committed.
pub record CommitsAlone {D : Type 0} (g : Ghosts D) (old new : SessionView D) (now : Key → Rec)
    : Type 0 where
  pub ends : Ends old new
  pub health : new.console.health ≡ old.console.health
  pub live : IsTrue new.console.is_live
  pub committed : g.tells_reads → new.console.committed ≡ now
  pub working : g.tells_reads → new.console.working ≡ new.console.committed
  pub stored : IsStored g new.disk (λ left. Redoes left now)

-- The disk failed in the commit, and has what was committed, or the change too.
pub record IsAloneInDoubt {D : Type 0} (g : Ghosts D) (old new : SessionView D) (now : Key → Rec)
    : Type 0 where
  pub ends : Ends old new
  pub health : new.console.health ≡ healths.Failed
  pub failed : new.console.is_live ≡ false
  pub brought : BeginWith new.console.names old.console.names
  pub stored : IsStored g new.disk (λ left. Redoes left old.console.committed ⊎ Redoes left now)

-- The disk was read until a change was made, and then it was committed.
pub record CommitsFrom {D : Type 0} (g : Ghosts D) (old new : SessionView D) (now : Key → Rec)
    : Type 0 where
  pub mid : D
  pub reads : OnlyReads g old.disk mid
  pub crash :
      TellsAll g → AtEachMoment g mid new.disk (λ left. Redoes left old.console.committed
      ⊎ Redoes left now)

-- The disk failed as a change alone was drafted, or before anything of a transaction was written,
-- and was only read. The store still serves commits.
pub record FailsRead {D : Type 0} (g : Ghosts D) (old new : SessionView D) : Type 0 where
  pub ends : Ends old new
  pub health : new.console.health ≡ healths.Failed
  pub live : IsTrue new.console.is_live
  pub names : new.console.names ≡ old.console.names
  pub disk : OnlyReads g old.disk new.disk

-- The disk failed before anything of a change alone was written, and was only read. The names that
-- the change brought are in memory still. The store still serves commits.
pub record FailsDrafted {D : Type 0} (g : Ghosts D) (old new : SessionView D) : Type 0 where
  pub ends : Ends old new
  pub health : new.console.health ≡ healths.Failed
  pub live : IsTrue new.console.is_live
  pub brought : BeginWith new.console.names old.console.names
  pub disk : OnlyReads g old.disk new.disk
