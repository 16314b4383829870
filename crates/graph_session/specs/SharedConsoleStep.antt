-- The step of the console of the session that writes, and what it leaves of the snapshots.
use Rattle.std.specs.Prelude.{◌≡◌, ◌⊎◌, ◌+◌, ℕ, Some, None, []}
use Rattle.stream_io.specs.Lines.{InputLine}
use Rattle.plain_graph.specs.Changes.{start_weight}
use Rattle.plain_graph.specs.LineChanges.{LineWeighs}
use Rattle.plain_graph.specs.Reply.{DiskFailed, Faulted, Reply}
use Rattle.plain_graph.specs.declared.command.Command.{Command}
use Rattle.plain_graph.specs.declared.command.Command.TheVariants as commands
use Rattle.graph_session.specs.Exchange.{ConsoleStep, Exchange}
use Rattle.graph_session.specs.SnapshotEffects.{Confirms}
use Rattle.graph_session.specs.Snapshots.{Outlives, Readers, SharedState}
use Rattle.graph_session.specs.State.{SpellsLine, State, Transaction}

-- The line ends a transaction of this weight: by `commit`, or by a change outside one.
abbrev pub EndsOfWeight : State → InputLine → ℕ → Type 0
EndsOfWeight state line weight =
    ((transaction : Transaction) × (state.open_one ≡ Some transaction)
    × SpellsLine line commands.Commit × (weight ≡ transaction.weight))
    ⊎ ((state.open_one ≡ None) × (command : Command) × SpellsLine line command × (more : ℕ)
    × LineWeighs state.shape.limit state.shape.threshold state.committed command more
    × (weight ≡ start_weight + more))

-- What the readers have after a line: the snapshots that outlive the transaction that it ends; and
-- what they had, where it ends none or doesn't confirm that it did. After a fault of the disk in a
-- line that ends one, the sums have risen or not.
abbrev pub KeepsReaders : SharedState → InputLine → Reply → Readers → Type 0
KeepsReaders old line reply new =
    ((weight : ℕ) × EndsOfWeight old.writer line weight
    × (Confirms reply ⊎ (reply ≡ Faulted [] DiskFailed))
    × Outlives weight old.readers new)
    ⊎ (((weight : ℕ) → EndsOfWeight old.writer line weight → ¬ Confirms reply)
    × (new ≡ old.readers))

abbrev pub SharedConsoleStep : SharedState → Exchange → SharedState → Type 0
SharedConsoleStep old x new =
    ConsoleStep old.writer x new.writer × KeepsReaders old x.line x.reply new.readers
