-- How a session answers one line.
use Rattle.std.specs.Prelude.{◌≡◌, ◌≢◌, ◌↔◌, ℕ, ◌≤◌, Bool, true, List, ◌++◌}
use Rattle.fault_count.specs.Cause.{Rose}
use Rattle.disk_model.specs.declared.disk.Disk.{Ghosts as DiskGhosts}
use Rattle.stream_io.specs.Lines.{InputLine}
use Rattle.stream_io.specs.Streams.{TakesFront}
use Rattle.stream_io.specs.declared.streams.Sink.{Ghosts as SinkGhosts}
use Rattle.plain_graph.specs.Reply.{Reply, prefixed_text}
use Rattle.snap_store.specs.Snaps.{Snapshots}
use Rattle.graph_session.specs.Console.{HasNoDraft, Onward, SessionView}
use Rattle.graph_session.specs.DiskUse.{UsesDisk}
use Rattle.graph_session.specs.Exchange.{TakesStep}
use Rattle.graph_session.specs.Known.{as_known}
use Rattle.graph_session.specs.Moments.{ComesTo}
use Rattle.graph_session.specs.ReaderAnswers.{MayStepAs}
use Rattle.graph_session.specs.SharedAnswer.{SettlesLine}
use Rattle.graph_session.specs.SharedConsole.{IsSharedAt}
use Rattle.graph_session.specs.SnapshotEffects.{SharedView}
use Rattle.graph_session.specs.Snapshots.{SharedState}
use Rattle.graph_session.specs.State.{State, IsQuit, prefix_in, session_in}
use Rattle.graph_session.specs.Verdicts.{JudgesLine}
use Rattle.graph_session.specs.declared.turn.Turn.{Turn}
use Rattle.graph_session.specs.declared.turn.Turn.TheVariants.{Go, Quit, SinkFault}

-- the sink took the whole text, or failed and took a prefix of it
abbrev pub Delivers : Turn → List ℕ → List ℕ → List ℕ → Type 0
Delivers Go before after text = after ≡ before ++ text
Delivers Quit before after text = after ≡ before ++ text
Delivers SinkFault before after text = TakesFront before after text

-- The text was given to the sink. A failure is told only where the sink's count of faults rose.
pub record Gives {K : Type 0} (sink : SinkGhosts K) (text : List ℕ) (old new : K) (turn : Turn)
    : Type 0 where
  pub delivers : sink.tells → Delivers turn (sink.taken old) (sink.taken new) text
  pub goes : turn ≢ Quit
  pub cause : turn ≡ SinkFault → Rose (sink.faults old) (sink.faults new)
  pub later : sink.faults old ≤ sink.faults new

-- The line gets this reply, and the session comes to another state by a step of the console. The
-- disk counted a fault where the step says that it failed. No other line than one that may write
-- has written.
pub record Settles {D : Type 0} (disk : DiskGhosts D) (line : InputLine) (old new : SessionView D)
    (before : State) (reply : Reply) : Type 0 where
  pub after : State
  pub arrives : ComesTo disk old new before after
  pub disk_failed : Bool
  pub counted : disk_failed ≡ true → Rose (disk.faults old.disk) (disk.faults new.disk)
  pub step : TakesStep disk.tells_reads before
      (record { line = line; disk_failed = disk_failed; reply = reply }) after
  pub uses : UsesDisk disk line before reply old.disk new.disk

-- a session, what it keeps of old records for snapshots, and the sink of its replies
pub record Terminal (D K : Type 0) : Type 0 where
  pub session : SessionView D
  pub held : Snapshots
  pub output : K

-- the session with the old records
abbrev pub shared_in : {D K : Type 0} → Terminal D K → SharedView D
shared_in terminal = record { session = terminal.session; held = terminal.held }

-- What one call says of its line, of whichever session: its reply, each line of which begins with
-- the session's prefix where the line names it, and which is given to the sink where that tells
-- what it takes; what the line does over any disk, and what the reply to a question says of the
-- records that it sees; and from each state of all sessions that the session is at, how it is
-- settled, also where nothing is known of what the disk reads. Only quit ends the run.
pub record AnswersLine {D K : Type 0} (disk : DiskGhosts D) (sink : SinkGhosts K) (line : InputLine)
    (old new : Terminal D K) (turn : Turn) : Type 0 where
  pub reply : Reply
  pub text : sink.tells
      → Delivers turn (sink.taken old.output) (sink.taken new.output)
      (prefixed_text (prefix_in line) reply)
  pub quit : (turn ≡ Quit) ↔ IsQuit line
  pub may :
      HasNoDraft old.session
      → MayStepAs disk (session_in line) line (shared_in old) reply (shared_in new)
  pub judges : JudgesLine disk line (shared_in old) reply
  pub settles : (known : Bool) (state : SharedState)
      → IsSharedAt (as_known known disk) (shared_in old) state
      → SettlesLine (as_known known disk) line (shared_in old) (shared_in new) state reply
  pub cause : turn ≡ SinkFault → Rose (sink.faults old.output) (sink.faults new.output)
  pub later : sink.faults old.output ≤ sink.faults new.output
  pub onward : Onward disk old.session new.session
