-- What a line that reads is answered with, over any space.
use Rattle.std.specs.Prelude.{◌≡◌, ◌≢◌, ℕ, false, List}
use Rattle.fault_count.specs.Cause.{Rose}
use Rattle.stream_io.specs.declared.streams.Sink.{Ghosts as SinkGhosts}
use Rattle.plain_graph.specs.Graph.{Graph}
use Rattle.plain_graph.specs.Lines.{Reading, Shows}
use Rattle.plain_graph.specs.Refusals.{FirstReason, NoReason, change_reasons}
use Rattle.plain_graph.specs.Reply.{DamagedRecord, DiskFailed, Fault, Faulted, NoMemory, PastCount}
use Rattle.plain_graph.specs.Reply.{Refused, Reply, Told, prefixed_text}
use Rattle.plain_graph.specs.declared.command.Command.{Command}
use Rattle.rec_bytes.specs.declared.space.Reads.{Ghosts as SpaceGhosts}
use Rattle.store_rules.specs.Graph.{graph_of}
use Rattle.traversal_run.specs.Reading.{IsNamedStore, IsRead}
use Rattle.graph_session.specs.Answer.{Gives}
use Rattle.graph_session.specs.Exchange.{ShowsPast, ShowsSome, told_fault}
use Rattle.graph_session.specs.MayStep.{MayTell}
use Rattle.graph_session.specs.State.{IsSpared}
use Rattle.graph_session.specs.Verdicts.{Judges}
use Rattle.graph_session.specs.declared.turn.Turn.{Turn}

-- all of a reading that the command asks for, in which no count passes
abbrev pub ShowsAll : Graph → Command → List (List ℕ) → List ℕ → Type 0
ShowsAll graph command lines last =
    (reading : Reading) × Shows graph command reading × (reading.is_past ≡ false)
    × (lines ≡ reading.lines) × (last ≡ reading.last)

-- The lines before a fault. That a count passes is told only where one does, and no record is said
-- to be damaged.
abbrev pub MeansFault : Graph → Command → List (List ℕ) → Fault → Type 0
MeansFault graph command lines PastCount = ShowsPast graph command lines
MeansFault graph command lines NoMemory = ShowsSome graph command lines
MeansFault graph command lines DiskFailed = ShowsSome graph command lines
MeansFault graph command lines (DamagedRecord file id) = ⊥

-- What a reply means in the graph. The graph refuses a command that is answered for no reason, and
-- one that is refused for this one before all others.
abbrev pub Means : Graph → Command → Reply → Type 0
Means graph command (Told lines last) =
    ((limit : ℕ) → NoReason change_reasons limit graph command)
    × ShowsAll graph command lines last
Means graph command (Faulted lines fault) = MeansFault graph command lines fault
Means graph command (Refused why) =
    (limit : ℕ) → FirstReason change_reasons limit graph command why
Means graph command _ = ⊥

-- A reply to the command was given to the sink, with this prefix before each line; where the sink
-- failed it is a whole one, of which a prefix was taken. Over a store with its indexes and these
-- names the reply is what the graph means. What it says of records over any space is true of them.
-- The disk is blamed only where it failed.
pub record GivesReading {R K : Type 0} (space : SpaceGhosts R) (sink : SinkGhosts K)
    (names : List (List ℕ)) (command : Command) (prefix : List ℕ) (old new : R) (before after : K)
    (turn : Turn) : Type 0 where
  pub reply : Reply
  pub form : MayTell command reply
  pub gives : Gives sink (prefixed_text prefix reply) before after turn
  pub means : space.tells
      → IsNamedStore (space.state old).records (space.state old).shape names
      → Means (graph_of (space.state old).records) command reply
  pub judges : space.tells
      → Judges (space.state old).records (space.state old).shape command reply
  pub told : told_fault reply ≢ 0 → Rose (space.faults old) (space.faults new)
  pub read : IsRead space old new
  pub idle : IsSpared command → new ≡ old
