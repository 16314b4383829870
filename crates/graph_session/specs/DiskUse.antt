-- What a line does with the disk.
use Rattle.std.specs.Prelude.{◌≡◌, ◌⊎◌, None}
use Rattle.disk_model.specs.Spans.{OnlyReads}
use Rattle.disk_model.specs.declared.disk.Disk.{Ghosts}
use Rattle.stream_io.specs.Lines.{InputLine}
use Rattle.plain_graph.specs.Changes.{IsChange}
use Rattle.plain_graph.specs.Reply.{DamagedRecord, DiskFailed, Fault, Faulted, NoMemory, PastCount}
use Rattle.plain_graph.specs.Reply.{Refused, Reply}
use Rattle.plain_graph.specs.declared.command.Command.{Command}
use Rattle.plain_graph.specs.declared.command.Command.TheVariants as commands
use Rattle.plain_graph.specs.declared.refusal.Refusal.{Refusal}
use Rattle.graph_session.specs.Refusals.{FirstHolds, early_order}
use Rattle.graph_session.specs.State.{IsSilent, SpellsLine, State}

-- a line that may write: a change outside a transaction, `commit`, `checkpoint` or `reopen`
abbrev pub MayWrite : State → InputLine → Type 0
MayWrite state line =
    ((state.open_one ≡ None) × (command : Command) × IsChange command × SpellsLine line command)
    ⊎ SpellsLine line commands.Commit
    ⊎ SpellsLine line commands.Checkpoint
    ⊎ SpellsLine line commands.Reopen

-- Want of memory is told before anything is written, and a count that passes by a line that writes
-- nothing.
abbrev pub IsUnwritten : Fault → Type 0
IsUnwritten PastCount = Unit {0}
IsUnwritten NoMemory = Unit {0}
IsUnwritten DiskFailed = ⊥
IsUnwritten (DamagedRecord file id) = ⊥

-- a reply that says that nothing changed
abbrev pub TellsNoChange : Reply → Type 0
TellsNoChange (Faulted lines fault) = IsUnwritten fault
TellsNoChange (Refused why) = Unit {0}
TellsNoChange _ = ⊥

-- a line that needs no disk: it is refused before the graph is looked at, gets no reply, or is one
-- of three words
abbrev pub NeedsNoDisk : State → InputLine → Type 0
NeedsNoDisk state line =
    ((why : Refusal) × FirstHolds early_order state line why)
    ⊎ IsSilent line
    ⊎ SpellsLine line commands.Begin
    ⊎ SpellsLine line commands.Rollback
    ⊎ SpellsLine line commands.Stats

-- What the call did with the disk. It was only read, where the line may not write or the reply says
-- that nothing changed, and not called at all, where the line needs no disk.
pub record UsesDisk {D : Type 0} (g : Ghosts D) (line : InputLine) (before : State) (reply : Reply)
    (old new : D) : Type 0 where
  pub no_write : ¬ MayWrite before line → OnlyReads g old new
  pub no_change : TellsNoChange reply → OnlyReads g old new
  pub no_call : NeedsNoDisk before line → new ≡ old
