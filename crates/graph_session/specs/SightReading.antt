-- What a line that reads a snapshot is answered with, over any committed space.
use Rattle.std.specs.Prelude.{◌≢◌, ℕ, ◌≤◌, List}
use Rattle.fault_count.specs.Cause.{Rose}
use Rattle.stream_io.specs.declared.streams.Sink.{Ghosts as SinkGhosts}
use Rattle.plain_graph.specs.Reply.{Reply, prefixed_text}
use Rattle.plain_graph.specs.declared.command.Command.{Command}
use Rattle.rec_bytes.specs.declared.shape.Shape.{Shape}
use Rattle.store_rules.specs.Graph.{graph_of}
use Rattle.store_rules.specs.Views.{Records}
use Rattle.graph_session.specs.Answer.{Gives}
use Rattle.graph_session.specs.Exchange.{told_fault}
use Rattle.traversal_run.specs.Reading.{IsNamedStore}
use Rattle.graph_session.specs.MayStep.{MayTell}
use Rattle.graph_session.specs.Questions.{Means}
use Rattle.graph_session.specs.Verdicts.{Judges}
use Rattle.graph_session.specs.declared.turn.Turn.{Turn}

-- the disk's count of faults before and after
pub record Counts : Type 0 where
  pub was : ℕ
  pub now : ℕ

abbrev pub counts : ℕ → ℕ → Counts
counts was now = record { was = was; now = now }

-- A reply to the command was given to the sink, with this prefix before each line. Where the
-- records that the snapshot sees are those of a store with its indexes, and these are its names
-- with maybe more after them, it is what the graph of that store means. What it says of records is
-- true of those that the snapshot sees, whatever they are. The disk is blamed only where it failed.
pub record GivesSight {K : Type 0} (tells : Type 0) (sink : SinkGhosts K) (seen : Records)
    (shape : Shape) (names : List (List ℕ)) (command : Command) (prefix : List ℕ)
    (faults : Counts) (before after : K) (turn : Turn) : Type 0 where
  pub reply : Reply
  pub form : MayTell command reply
  pub gives : Gives sink (prefixed_text prefix reply) before after turn
  pub means : tells → IsNamedStore seen shape names → Means (graph_of seen) command reply
  pub judges : tells → Judges seen shape command reply
  pub told : told_fault reply ≢ 0 → Rose faults.was faults.now
  pub later : faults.was ≤ faults.now
