-- Why a line of a session that reads is refused: conditions in the order in which they count.
use Rattle.std.specs.Prelude.{◌≡◌, ◌⊎◌, ℕ, None, List, [], ◌∷◌}
use Rattle.stream_io.specs.Lines.{InputLine}
use Rattle.plain_graph.specs.Graph.{Graph}
use Rattle.plain_graph.specs.Kinds.{AreOfReaders}
use Rattle.plain_graph.specs.Lines.{kind_of}
use Rattle.plain_graph.specs.Refusals.{Reason, change_reasons}
use Rattle.plain_graph.specs.declared.command.Command.{Command}
use Rattle.plain_graph.specs.declared.command.Command.TheVariants as commands
use Rattle.plain_graph.specs.declared.refusal.Refusal.{Refusal}
use Rattle.plain_graph.specs.declared.refusal.Refusal.TheVariants as refusals
use Rattle.graph_session.specs.Refusals.{Condition, grammar_fault, line_too_long, refused_by}
use Rattle.graph_session.specs.Refusals.{store_failed}
use Rattle.graph_session.specs.Snapshots.{HasEnded, IsOpenFor, Sees, SharedState}
use Rattle.graph_session.specs.State.{IsSilent, SpellsLine, State}

-- in this state the reader's line is refused so
abbrev pub ReaderCondition : Type 1
ReaderCondition = SharedState → ℕ → InputLine → Refusal → Type 0

-- a condition of the session that writes
abbrev pub of_writer : Condition → ReaderCondition
of_writer condition state reader line why = condition state.writer line why

-- What a reader's line sees: a console whose committed graph is the snapshot's, and in which no
-- transaction is open.
abbrev pub console_of : State → Graph → State
console_of writer graph = record writer { committed = graph; open_one = None }

-- a condition of that console
abbrev pub of_snapshot : Condition → ReaderCondition
of_snapshot condition state reader line why =
    (graph : Graph) × Sees state.readers reader graph
    × condition (console_of state.writer graph) line why

-- the line asks for more than to read
abbrev pub read_only : ReaderCondition
read_only state reader line why =
    (command : Command) × SpellsLine line command × (¬ AreOfReaders (kind_of command))
    × (why ≡ refusals.ReadOnly)

-- a snapshot is asked for, and one is open
abbrev pub snapshot_open : ReaderCondition
snapshot_open state reader line why =
    SpellsLine line commands.Snapshot × IsOpenFor state.readers reader
    × (why ≡ refusals.SnapshotOpen)

-- the reader has none, and the line needs one
abbrev pub no_snapshot : ReaderCondition
no_snapshot state reader line why =
    (¬ IsOpenFor state.readers reader) × (¬ HasEnded state.readers reader)
    × (¬ SpellsLine line commands.Snapshot) × (¬ IsSilent line)
    × (why ≡ refusals.NoSnapshot)

-- it has none but one that has ended, and the line asks to read
abbrev pub snapshot_ended : ReaderCondition
snapshot_ended state reader line why =
    (¬ IsOpenFor state.readers reader) × HasEnded state.readers reader
    × (¬ SpellsLine line commands.Snapshot) × (¬ SpellsLine line commands.Release)
    × (¬ IsSilent line) × (why ≡ refusals.SnapshotEnded)

abbrev pub of_snapshots : List Reason → List ReaderCondition
of_snapshots [] = []
of_snapshots (reason ∷ later) = of_snapshot (refused_by reason) ∷ of_snapshots later

-- the conditions that count before the snapshot's graph is looked at
abbrev pub reader_early : List ReaderCondition
reader_early =
    of_writer line_too_long ∷ of_writer grammar_fault ∷ read_only ∷ of_writer store_failed
    ∷ snapshot_open ∷ no_snapshot ∷ snapshot_ended ∷ []

-- the order in which they count
abbrev pub reader_order : List ReaderCondition
reader_order =
    of_writer line_too_long ∷ of_writer grammar_fault ∷ read_only ∷ of_writer store_failed
    ∷ snapshot_open ∷ no_snapshot ∷ snapshot_ended ∷ of_snapshots change_reasons

-- the first condition that holds refuses the reader's line so
abbrev pub FirstHoldsFor :
    List ReaderCondition → SharedState → ℕ → InputLine → Refusal → Type 0
FirstHoldsFor [] state reader line why = ⊥
FirstHoldsFor (condition ∷ later) state reader line why =
    condition state reader line why
    ⊎ (((other : Refusal) → ¬ condition state reader line other)
    × FirstHoldsFor later state reader line why)

abbrev pub NoneHoldsFor : List ReaderCondition → SharedState → ℕ → InputLine → Type 0
NoneHoldsFor [] state reader line = Unit {0}
NoneHoldsFor (condition ∷ later) state reader line =
    ((other : Refusal) → ¬ condition state reader line other)
    × NoneHoldsFor later state reader line
