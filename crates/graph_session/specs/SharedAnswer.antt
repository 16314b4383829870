-- How a line settles a session with the snapshots of all sessions.
use Rattle.std.specs.Prelude.{◌≡◌, ◌≢◌, ℕ, zero, suc, Bool, true}
use Rattle.fault_count.specs.Cause.{Rose}
use Rattle.disk_model.specs.Spans.{AtEachMoment, OnlyReads}
use Rattle.disk_model.specs.declared.disk.Disk.{Ghosts}
use Rattle.stream_io.specs.Lines.{InputLine}
use Rattle.plain_graph.specs.Reply.{Reply}
use Rattle.graph_session.specs.Console.{TellsAll}
use Rattle.graph_session.specs.DiskUse.{UsesDisk}
use Rattle.graph_session.specs.Exchange.{Exchange, told_fault}
use Rattle.graph_session.specs.SharedConsole.{IsSharedAt}
use Rattle.graph_session.specs.SharedExchange.{SharedStep}
use Rattle.graph_session.specs.SnapshotEffects.{SharedView}
use Rattle.graph_session.specs.Snapshots.{SharedState}
use Rattle.graph_session.specs.Stands.{IsAdmittedByEither}
use Rattle.graph_session.specs.State.{session_in}

-- A session went from one state of all sessions to another. It is at the second. At each moment
-- between, a crash leaves what one of the two admits.
pub record SharedComesTo {D : Type 0} (g : Ghosts D) (old new : SharedView D)
    (before after : SharedState) : Type 0 where
  pub is_at : IsSharedAt g new after
  pub crash :
      TellsAll g → AtEachMoment g old.session.disk new.session.disk
      (IsAdmittedByEither before.writer after.writer)

-- The line gets this reply, and the session comes to another state, by a step of this kind where
-- the disk tells what it reads. The reply blames the disk only where it failed in the line, and
-- then it counted a fault.
pub record SettlesShared (Step : SharedState → Exchange → SharedState → Type 0) {D : Type 0}
    (disk : Ghosts D) (line : InputLine) (old new : SharedView D) (before : SharedState)
    (reply : Reply) : Type 0 where
  pub after : SharedState
  pub arrives : SharedComesTo disk old new before after
  pub disk_failed : Bool
  pub counted :
      disk_failed ≡ true → Rose (disk.faults old.session.disk) (disk.faults new.session.disk)
  pub step :
      disk.tells_reads
      → Step before (record { line = line; disk_failed = disk_failed; reply = reply }) after
  pub blames : told_fault reply ≢ 0 → disk_failed ≡ true

-- What the call did with the disk: for the session that writes as its line may, and for one that
-- reads nothing but reads.
abbrev pub UsesAs :
    {D : Type 0} → Ghosts D → ℕ → InputLine → SharedState → Reply → D → D → Type 0
UsesAs g zero line before reply old new = UsesDisk g line before.writer reply old new
UsesAs g (suc reader) line before reply old new = OnlyReads g old new

-- A line is settled by a step of the console of all sessions, of which the line is one.
pub record SettlesLine {D : Type 0} (disk : Ghosts D) (line : InputLine) (old new : SharedView D)
    (before : SharedState) (reply : Reply) : Type 0 where
  pub shared : SettlesShared SharedStep disk line old new before reply
  pub uses :
      UsesAs disk (session_in line) line before reply old.session.disk new.session.disk
