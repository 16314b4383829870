-- The step of a session that reads.
use Rattle.std.specs.Prelude.{◌≡◌, ◌⊎◌, ℕ, []}
use Rattle.stream_io.specs.Lines.{InputLine}
use Rattle.plain_graph.specs.Graph.{Graph}
use Rattle.plain_graph.specs.Lines.{IsQuestion}
use Rattle.plain_graph.specs.Reply.{Done, EdgeMade, Faulted, NoMemory, NodeMade, Refused, Reply}
use Rattle.plain_graph.specs.Reply.{Silent, Told}
use Rattle.plain_graph.specs.declared.command.Command.{Command}
use Rattle.plain_graph.specs.declared.command.Command.TheVariants as commands
use Rattle.graph_session.specs.Exchange.{ConsoleStep, Exchange}
use Rattle.graph_session.specs.SharedRefusals.{FirstHoldsFor, NoneHoldsFor, console_of}
use Rattle.graph_session.specs.SharedRefusals.{reader_early, reader_order}
use Rattle.graph_session.specs.Snapshots.{Sees, SharedState, with_snapshot, without_snapshot}
use Rattle.graph_session.specs.State.{IsSilent, NeverLacksMemory, SpellsLine}

-- A line that reads: the step of a console whose committed graph is the snapshot's, which it leaves
-- as it is.
abbrev pub ReadsSnapshot : SharedState → ℕ → Exchange → Type 0
ReadsSnapshot state reader x =
    NoneHoldsFor reader_early state reader x.line × (graph : Graph)
    × Sees state.readers reader graph × (command : Command) × SpellsLine x.line command
    × IsQuestion command
    × ConsoleStep (console_of state.writer graph) x (console_of state.writer graph)

-- `snapshot` or `release` is carried out.
abbrev pub HandlesSnapshot : SharedState → ℕ → InputLine → SharedState → Type 0
HandlesSnapshot old reader line new =
    NoneHoldsFor reader_order old reader line
    × ((SpellsLine line commands.Snapshot
    × (new ≡ record old { readers = with_snapshot reader old.writer.committed old.readers }))
    ⊎ (SpellsLine line commands.Release
    × (new ≡ record old { readers = without_snapshot reader old.readers })))

-- Want of memory is free for each line that may lack it. Before a snapshot is found no line of a
-- result is shown.
abbrev pub LacksMemory : InputLine → Reply → Type 0
LacksMemory line reply = (¬ NeverLacksMemory line) × (reply ≡ Faulted [] NoMemory)

-- A line of a session that reads, reply by reply. Only `snapshot` and `release` change the state.
abbrev pub ReaderStep : ℕ → SharedState → Exchange → SharedState → Type 0
ReaderStep reader old x new = elim x.reply [
  | Silent ↦ IsSilent x.line × (new ≡ old)
  | Done ↦ HandlesSnapshot old reader x.line new
  | NodeMade id ↦ ⊥
  | EdgeMade id ↦ ⊥
  | Told lines last ↦ ReadsSnapshot old reader x × (new ≡ old)
  | Faulted lines fault ↦
      (LacksMemory x.line x.reply ⊎ ReadsSnapshot old reader x) × (new ≡ old)
  | Refused why ↦ FirstHoldsFor reader_order old reader x.line why × (new ≡ old)
]
