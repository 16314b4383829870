-- What a call says that settles a line of a command.
use Rattle.std.specs.Prelude.{◌≡◌, ◌⊎◌, Bool, ℕ, Option, None, Some, List}
use Rattle.disk_model.specs.declared.disk.Disk.{Ghosts}
use Rattle.stream_io.specs.Lines.{Whole}
use Rattle.plain_graph.specs.Kinds.{AreSilent}
use Rattle.plain_graph.specs.Lines.{kind_of}
use Rattle.plain_graph.specs.Reply.{Reply, prefix_text}
use Rattle.plain_graph.specs.declared.command.Command.{Command}
use Rattle.rec_bytes.specs.declared.fault.Fault.TheVariants as faults
use Rattle.graph_session.specs.declared.job.Act.{Act}
use Rattle.graph_session.specs.declared.job.Act.TheVariants as acts
use Rattle.plain_graph.specs.declared.refusal.Refusal.{Refusal}
use Rattle.gremlin_parse.specs.Tags.{session_named, session_of}
use Rattle.gremlin_parse.specs.declared.line_fault.LineFault.{LineFault}
use Rattle.graph_session.specs.declared.answer.Answer.{Answer}
use Rattle.graph_session.specs.declared.answer.Answer.TheVariants as answers
use Rattle.graph_session.specs.Answer.{Settles}
use Rattle.graph_session.specs.Console.{ConsoleView, HasNoDraft, IsAt, Onward, SessionView}
use Rattle.graph_session.specs.Known.{as_known}
use Rattle.graph_session.specs.MayStep.{IsServed, MayAnswer}
use Rattle.graph_session.specs.Refusals.{SpellsOnly, refusal_of}
use Rattle.graph_session.specs.State.{State}
use Rattle.graph_session.specs.declared.health.Health.TheVariants as healths

-- the answer of a line that spells no command: want of memory, or a refusal
abbrev pub told_by : Option Refusal → Answer
told_by None = answers.Fault faults.Memory
told_by (Some why) = answers.Refused why

abbrev pub told_of : LineFault → Answer
told_of fault = told_by (refusal_of fault)

-- The line spells just this command, is of this session, and each line of its reply begins with the
-- prefix.
pub record IsParsed (line : List ℕ) (session : ℕ) (command : Command) (prefix : List ℕ)
    : Type 0 where
  pub only : SpellsOnly line command
  pub session_is : session_of line ≡ session
  pub prefix_is : prefix_text (session_named line) ≡ prefix

-- a command that gets a reply
abbrev pub IsLoud : Command → Type 0
IsLoud command = ¬ AreSilent (kind_of command)

-- a session that the disk has failed does no act but `reopen`
abbrev pub ServesAct : ConsoleView → Act → Type 0
ServesAct console act = (console.health ≡ healths.Live) ⊎ (act ≡ acts.Reopen)

-- A session settles each line that spells just this command, from each state that it is at. What it
-- does over any disk is said beside it.
pub record SettlesCommand {D : Type 0} (g : Ghosts D) (command : Command) (old new : SessionView D)
    (reply : Reply) : Type 0 where
  pub settles : (known : Bool) (line : List ℕ) (state : State) → SpellsOnly line command
      → IsServed old.console command → IsAt (as_known known g) old state
      → Settles (as_known known g) (Whole line) old new state reply
  pub may : HasNoDraft old → MayAnswer g command old reply new
  pub onward : Onward g old new
