-- The step of the console of all sessions: each line is of one of them.
use Rattle.std.specs.Prelude.{◌≡◌, ◌≢◌, ◌⊎◌, ℕ, zero, suc, true}
use Rattle.stream_io.specs.Lines.{InputLine}
use Rattle.plain_graph.specs.Reply.{Refused}
use Rattle.plain_graph.specs.declared.command.Command.{Command}
use Rattle.plain_graph.specs.declared.command.Command.TheVariants as commands
use Rattle.plain_graph.specs.declared.refusal.Refusal.TheVariants as refusals
use Rattle.graph_session.specs.Exchange.{Exchange, told_fault}
use Rattle.graph_session.specs.ReaderStep.{ReaderStep}
use Rattle.graph_session.specs.SharedConsoleStep.{SharedConsoleStep}
use Rattle.graph_session.specs.Snapshots.{SharedState}
use Rattle.graph_session.specs.State.{SpellsLine, session_in}

-- a command about the snapshot of a session that reads
abbrev pub IsOfSnapshots : Command → Type 0
IsOfSnapshots command = (command ≡ commands.Snapshot) ⊎ (command ≡ commands.Release)

-- the line takes a snapshot or releases one
abbrev pub AsksForSnapshot : InputLine → Type 0
AsksForSnapshot line = SpellsLine line commands.Snapshot ⊎ SpellsLine line commands.Release

-- A line of the session that writes: it is refused if it asks for a snapshot, which only sessions
-- that read have, and else it is a step of the console.
abbrev pub WriterStep : SharedState → Exchange → SharedState → Type 0
WriterStep old x new =
    (AsksForSnapshot x.line × (x.reply ≡ Refused refusals.Writer) × (new ≡ old))
    ⊎ ((¬ AsksForSnapshot x.line) × SharedConsoleStep old x new)

-- the session decides; the first one writes, and the others read
abbrev pub step_of : ℕ → SharedState → Exchange → SharedState → Type 0
step_of zero old x new = WriterStep old x new
step_of (suc reader) old x new = ReaderStep (suc reader) old x new

abbrev pub SharedStep : SharedState → Exchange → SharedState → Type 0
SharedStep old x new = step_of (session_in x.line) old x new

-- Where the disk tells what it reads, the exchange is a step of the console of all sessions. In any
-- case the reply blames the disk only where it failed in the line.
pub record TakesSharedStep (tells : Type 0) (old : SharedState) (x : Exchange) (new : SharedState)
    : Type 0 where
  pub step : tells → SharedStep old x new
  pub blames : told_fault x.reply ≢ 0 → x.disk_failed ≡ true
