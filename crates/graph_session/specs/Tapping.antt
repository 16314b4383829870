-- What a line leaves in the set that takes the records of its transaction.
use Rattle.std.specs.Prelude.{◌≡◌, ◌⊎◌, ◌≤◌, Bool, false, Option, None, Some, [], ◌∷◌, length}
use Rattle.std.proofs.Props.{props}
use Rattle.disk_model.specs.declared.disk.Disk.{Ghosts as DiskGhosts}
use Rattle.stream_io.specs.Lines.{InputLine}
use Rattle.stream_io.specs.declared.streams.Sink.{Ghosts as SinkGhosts}
use Rattle.plain_graph.specs.Changes.{IsChange}
use Rattle.plain_graph.specs.Reply.{Reply}
use Rattle.plain_graph.specs.declared.command.Command.{Command}
use Rattle.plain_graph.specs.declared.command.Command.TheVariants as commands
use Rattle.rec_bytes.specs.Format.{most_writes}
use Rattle.rec_bytes.specs.Pairs.{Held, IsOrdered, Pairs}
use Rattle.rec_bytes.specs.Space.{laid_over}
use Rattle.rec_bytes.specs.declared.shape.Shape.{Shape}
use Rattle.redo_log.specs.Appending.{AreWhole}
use Rattle.txn_core.specs.Shipped.{AllShip}
use Rattle.graph_session.specs.Answer.{AnswersLine, Terminal}
use Rattle.graph_session.specs.Console.{ConsoleView, HasNoDraft, SessionView}
use Rattle.graph_session.specs.SnapshotEffects.{Confirms, DifferJustAt, WritesAlone}
use Rattle.graph_session.specs.State.{SpellsLine, session_in}
use Rattle.graph_session.specs.declared.turn.Turn.{Turn}

-- The reply acknowledges a transaction of the session that writes: that of `commit`, or of a change
-- outside one.
abbrev pub Acknowledges : Bool → InputLine → Reply → Type 0
Acknowledges is_open line reply =
    (session_in line ≡ 0) × Confirms reply
    × (SpellsLine line commands.Commit
    ⊎ ((is_open ≡ false) × (command : Command) × IsChange command × SpellsLine line command))

-- These are the records of a transaction that was committed: at most 2,048, whose keys rise, each
-- one that a shipment may have. What is committed is what was, with them laid over it.
pub record IsTapped {D : Type 0} (g : DiskGhosts D) (old new : SessionView D) (tap : Pairs)
    : Type 0 where
  pub few : length tap ≤ most_writes
  pub rising : IsOrdered tap
  pub shipped : AllShip new.console.shape tap
  pub whole : AreWhole tap
  pub committed : g.tells_reads → new.console.committed ≡ laid_over old.console.committed tap

-- The set has what was committed where the reply acknowledges a transaction, and else nothing. For
-- `commit` that is what the open transaction had written, and for a change by itself what that has
-- written: just the records that are committed otherwise than they were.
pub record Taps {D : Type 0} (g : DiskGhosts D) (line : InputLine) (old : SessionView D)
    (reply : Reply) (new : SessionView D) (tap : Pairs) : Type 0 where
  pub taken : Acknowledges old.console.is_open line reply → IsTapped g old new tap
  pub written : Acknowledges old.console.is_open line reply → SpellsLine line commands.Commit
      → tap ≡ old.console.written
  pub alone : Acknowledges old.console.is_open line reply → (command : Command)
      → SpellsLine line command → IsChange command → WritesAlone g command old tap
  pub only : Acknowledges old.console.is_open line reply → (command : Command)
      → SpellsLine line command → IsChange command → g.tells_reads
      → DifferJustAt old.console.committed new.console.committed tap
  pub empty : ¬ Acknowledges old.console.is_open line reply → tap ≡ []

-- A line is answered, and its set has what its transaction wrote.
pub record TapsLine {D K : Type 0} (disk : DiskGhosts D) (sink : SinkGhosts K) (line : InputLine)
    (old new : Terminal D K) (turn : Turn) (tap : Pairs) : Type 0 where
  pub answers : AnswersLine disk sink line old new turn
  pub taps : HasNoDraft old.session → Taps disk line old.session answers.reply new.session tap

-- there is no set, or it is empty and has room for what a transaction writes
abbrev pub HasRoom : Option Held → Type 0
HasRoom None = Unit {0}
HasRoom (Some set) = (set.pairs ≡ []) × (most_writes ≤ set.room)

-- there is a set if there was one, and this holds of its records
abbrev pub Takes : (Pairs → Type 0) → Option Held → Option Held → Type 0
Takes holds None tap = tap ≡ None
Takes holds (Some was) None = ⊥
Takes holds (Some was) (Some set) = holds set.pairs

-- there are none
abbrev pub IsEmpty : Pairs → Type 0
IsEmpty tap = tap ≡ []

-- they are those that the open transaction has written, and a shipment may have them
pub record HasWritten (console : ConsoleView) (tap : Pairs) : Type 0 where
  pub is : tap ≡ console.written
  pub few : length tap ≤ most_writes
  pub rising : IsOrdered tap
  pub shipped : AllShip console.shape tap
  pub whole : AreWhole tap

-- the command ends a transaction where it is carried out
abbrev pub EndsOne : Bool → Command → Type 0
EndsOne is_open command =
    (command ≡ commands.Commit) ⊎ ((is_open ≡ false) × IsChange command)

-- What a command leaves in the set: what was committed where it ended a transaction, for `commit`
-- what the open one had written, for a change by itself what that has written, which is what it
-- changed, and else nothing.
pub record TapsCommand {D : Type 0} (g : DiskGhosts D) (command : Command) (old : SessionView D)
    (reply : Reply) (new : SessionView D) (tap : Pairs) : Type 0 where
  pub taken : Confirms reply → EndsOne old.console.is_open command → IsTapped g old new tap
  pub written : Confirms reply → command ≡ commands.Commit → tap ≡ old.console.written
  pub alone : Confirms reply → IsChange command → old.console.is_open ≡ false
      → WritesAlone g command old tap
  pub only : Confirms reply → IsChange command → old.console.is_open ≡ false → g.tells_reads
      → DifferJustAt old.console.committed new.console.committed tap
  pub empty : ¬ (Confirms reply × EndsOne old.console.is_open command) → tap ≡ []

-- A line is answered, and the set, where there is one, has what its transaction wrote.
abbrev pub TapsAnswer :
    {D K : Type 0} → DiskGhosts D → SinkGhosts K → InputLine → Terminal D K → Terminal D K → Turn
    → Option Held → Option Held → Type 0
TapsAnswer disk sink line old new turn was tap =
    (answers : AnswersLine disk sink line old new turn)
    × Takes (Taps disk line old.session answers.reply new.session) was tap

-- That a shipment may have the records holds in one way.
pub AllShip-prop : (shape : Shape) (pairs : Pairs) → IsProp (AllShip shape pairs)
AllShip-prop shape [] = hlevel props
AllShip-prop shape (pair ∷ later) = hlevel (props, AllShip-prop shape later)
