-- What a line of a session that reads may do over any disk, whatever is in it.
use Rattle.std.specs.Prelude.{◌≡◌, ◌≢◌, ◌≤◌, ◌⊎◌, ℕ, zero, suc, false, true, [], length}
use Rattle.std.specs.Prelude.{slice_set}
use Rattle.fault_count.specs.Cause.{Rose}
use Rattle.disk_model.specs.declared.disk.Disk.{Ghosts}
use Rattle.stream_io.specs.Lines.{InputLine}
use Rattle.plain_graph.specs.Changes.{most_weight}
use Rattle.plain_graph.specs.Kinds.{AreOfReaders}
use Rattle.plain_graph.specs.Lines.{IsQuestion, kind_of}
use Rattle.plain_graph.specs.Reply.{DiskFailed, Done, Faulted, NoMemory, Refused, Reply, Silent}
use Rattle.plain_graph.specs.declared.command.Command.{Command}
use Rattle.plain_graph.specs.declared.command.Command.TheVariants as commands
use Rattle.plain_graph.specs.declared.refusal.Refusal.{Refusal}
use Rattle.plain_graph.specs.declared.refusal.Refusal.TheVariants as refusals
use Rattle.rec_bytes.specs.Pairs.{Pairs}
use Rattle.snap_store.specs.Keeping.{EndsFor, KeepsHeld}
use Rattle.snap_store.specs.Layers.{released}
use Rattle.snap_store.specs.Snaps.{state_of, taken}
use Rattle.snap_store.specs.declared.snap_state.SnapState.{SnapState}
use Rattle.snap_store.specs.declared.snap_state.SnapState.TheVariants as states
use Rattle.txn_core.specs.Changed.{AreChanged}
use Rattle.graph_session.specs.Effects.{Stays}
use Rattle.graph_session.specs.Exchange.{told_fault}
use Rattle.graph_session.specs.MayStep.{IsUnread, MayStep, MayTell}
use Rattle.graph_session.specs.SharedExchange.{AsksForSnapshot}
use Rattle.graph_session.specs.SnapshotEffects.{AreWeighed, Confirms, IsCommittedBy, SharedView}
use Rattle.graph_session.specs.State.{IsSilent, IsSpared, NeverLacksMemory, SpellsLine}
use Rattle.graph_session.specs.declared.health.Health.TheVariants as healths

-- The line is answered before its command is looked at: it is too long or has a fault, or lacks
-- memory and is none that never does.
abbrev pub IsUnanswered : InputLine → Reply → Type 0
IsUnanswered line reply =
    ((why : Refusal) × (reply ≡ Refused why) × IsUnread line why)
    ⊎ ((reply ≡ Faulted [] NoMemory) × ¬ NeverLacksMemory line)

-- A reader whose snapshot is in this state has none for the command, or has one where it takes one.
abbrev pub LacksSnapshot : SnapState → Command → Refusal → Type 0
LacksSnapshot state command why =
    ((command ≡ commands.Snapshot) × (state ≡ states.Open) × (why ≡ refusals.SnapshotOpen))
    ⊎ ((command ≢ commands.Snapshot) × (state ≡ states.Absent) × (why ≡ refusals.NoSnapshot))
    ⊎ ((command ≢ commands.Snapshot) × (command ≢ commands.Release) × (state ≡ states.Ended)
    × (why ≡ refusals.SnapshotEnded))

-- The snapshot serves the command: none is open for `snapshot`, there is one for `release`, and one
-- is open for a question.
abbrev pub SuitsSnapshot : SnapState → Command → Type 0
SuitsSnapshot state command =
    ((command ≡ commands.Snapshot) × (state ≢ states.Open))
    ⊎ ((command ≡ commands.Release) × (state ≢ states.Absent))
    ⊎ (IsQuestion command × (state ≡ states.Open))

module _ {D : Type 0} (reader : ℕ) (old : SharedView D) where
  -- The command, which gets a reply, is refused before a snapshot is looked at: it asks for more
  -- than to read, or the disk has failed, or there is no snapshot that serves it.
  abbrev pub RefusesReader : Command → Refusal → Type 0
  RefusesReader command why =
      ((¬ AreOfReaders (kind_of command)) × (why ≡ refusals.ReadOnly))
      ⊎ (AreOfReaders (kind_of command) × (((old.session.console.health ≡ healths.Failed)
      × (why ≡ refusals.Failed))
      ⊎ ((old.session.console.health ≡ healths.Live)
      × LacksSnapshot (state_of old.held reader) command why)))

  -- The command is served, with what the reader has.
  abbrev pub ServesReader : Command → Type 0
  ServesReader command =
      (old.session.console.health ≡ healths.Live)
      × SuitsSnapshot (state_of old.held reader) command

module _ {D : Type 0} (g : Ghosts D) (reader : ℕ) (old : SharedView D) (reply : Reply)
    (new : SharedView D) where
  -- a snapshot is taken, if memory allows
  abbrev pub MaySnap : Type 0
  MaySnap =
      ((reply ≡ Done) × (new.held ≡ taken reader old.held) × (new.session ≡ old.session))
      ⊎ ((reply ≡ Faulted [] NoMemory) × (new ≡ old))

  -- one is released
  abbrev pub MayRelease : Type 0
  MayRelease =
      (reply ≡ Done) × (new.held.open_ones ≡ released reader old.held.open_ones)
      × (new.held.ended ≡ slice_set old.held.ended reader false) × (new.session ≡ old.session)

  -- what one shows is read
  abbrev pub MayReadSnapshot : Command → Type 0
  MayReadSnapshot command =
      MayTell command reply
      × (told_fault reply ≢ 0
      → Rose (g.faults old.session.disk) (g.faults new.session.disk))
      × (new.held ≡ old.held) × Stays g old.session new.session
      × (IsSpared command → new ≡ old)

  -- a command that is served
  abbrev pub MayServeReader : Command → Type 0
  MayServeReader command =
      ((command ≡ commands.Snapshot) × MaySnap)
      ⊎ ((command ≡ commands.Release) × MayRelease)
      ⊎ (IsQuestion command × MayReadSnapshot command)

  -- A line of a session that reads.
  abbrev pub MayStepReader : InputLine → Type 0
  MayStepReader line =
      (IsSilent line × (reply ≡ Silent) × (new ≡ old))
      ⊎ (IsUnanswered line reply × (new ≡ old))
      ⊎ ((command : Command) × SpellsLine line command
      × (((why : Refusal) × RefusesReader reader old command why × (reply ≡ Refused why)
      × (new ≡ old))
      ⊎ (ServesReader reader old command × MayServeReader command)))

-- the line asks for what is read of the graph
abbrev pub AsksQuestion : InputLine → Type 0
AsksQuestion line = (command : Command) × SpellsLine line command × IsQuestion command

module _ {D : Type 0} (g : Ghosts D) (old : SharedView D) (reply : Reply) (new : SharedView D) where
  -- The records that the line commits: those of the open transaction; of a change by itself those
  -- that it changes, no more than a transaction may weigh.
  abbrev pub IsWrittenBy : InputLine → Pairs → Type 0
  IsWrittenBy line written =
      (SpellsLine line commands.Commit × (old.session.console.is_open ≡ true)
      × (written ≡ old.session.console.written))
      ⊎ ((¬ SpellsLine line commands.Commit) × (old.session.console.is_open ≡ false)
      × (weight : ℕ) × AreWeighed written weight × (weight ≤ most_weight)
      × (g.tells_reads → AreChanged old.session.console.committed written)
      × IsCommittedBy g old reply new written)

  -- Snapshots end only by a line that ends a transaction, just so many that the old records that it
  -- keeps have room.
  abbrev pub MayEnd : InputLine → Type 0
  MayEnd line =
      (new.held ≡ old.held)
      ⊎ ((Confirms reply ⊎ (reply ≡ Faulted [] DiskFailed)) × (¬ AsksQuestion line)
      × (written : Pairs) × IsWrittenBy line written × EndsFor written old.held new.held
      × KeepsHeld (length written) old.held new.held)

  -- A line of the session that writes.
  abbrev pub MayStepWriter : InputLine → Type 0
  MayStepWriter line =
      (AsksForSnapshot line × (reply ≡ Refused refusals.Writer) × (new ≡ old))
      ⊎ ((¬ AsksForSnapshot line) × MayStep g line old.session reply new.session × MayEnd line)

module _ {D : Type 0} (g : Ghosts D) where
  -- a line of the session of this number
  abbrev pub MayStepAs : ℕ → InputLine → SharedView D → Reply → SharedView D → Type 0
  MayStepAs zero line old reply new = MayStepWriter g old reply new line
  MayStepAs (suc reader) line old reply new = MayStepReader g (suc reader) old reply new line
