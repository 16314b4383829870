-- What a whole run of the program reads and writes, exit by exit.
use Rattle.std.specs.Prelude.{◌≡◌, ◌⊎◌, ℕ, ◌^◌, ◌<◌, List, [], ◌++◌, length, codes}
use Rattle.fault_count.specs.Cause.{Rose}
use Rattle.disk_model.specs.Spans.{AtEachMoment}
use Rattle.disk_model.specs.declared.disk.Disk.{Ghosts as DiskGhosts}
use Rattle.stream_io.specs.Lines.{lines_of, ended_lines}
use Rattle.stream_io.specs.Streams.{TakesFront}
use Rattle.stream_io.specs.declared.streams.Sink.{Ghosts as SinkGhosts}
use Rattle.stream_io.specs.declared.streams.Source.{Ghosts as SourceGhosts}
use Rattle.plain_graph.specs.Reply.{NoMemory as WantOfMemory, fault_line, text_line}
use Rattle.console_words.specs.Words.{AsksFor}
use Rattle.console_words.specs.declared.asked.Asked.{Asked}
use Rattle.console_words.specs.declared.asked.Asked.TheVariants.{Follow, Sample}
use Rattle.console_words.specs.declared.run_options.RunOptions.{RunOptions}
use Rattle.console_words.specs.declared.sample_options.SampleOptions.{SampleOptions}
use Rattle.txn_core.specs.declared.config.Config.{Config}
use Rattle.txn_core.specs.declared.open_fault.OpenFault.{OpenFault}
use Rattle.graph_session.specs.Console.{TellsAll}
use Rattle.graph_session.specs.Exchange.{Exchange}
use Rattle.graph_session.specs.Opening.{IsUnopened, StandsForOne, StartsAs}
use Rattle.graph_session.specs.Snapshots.{SharedState}
use Rattle.graph_session.specs.Stands.{AreAdmitted}
use Rattle.graph_session.specs.declared.health.Health.{Health}
use Rattle.graph_session.specs.declared.health.Health.TheVariants.{Live, Failed}
use Rattle.graph_console.specs.Unopened.{EndsUnopened, FailsUnopened}
use Rattle.graph_console.specs.Run.{AreFirstOf, AreUpToQuit, CountsRises, Course, IsAdmittedInRun}
use Rattle.graph_console.specs.Run.{LacksEnd, NoQuit, RunBy, no_readers, run_lines, run_text}
use Rattle.graph_console.specs.Run.{shared_course}
use Rattle.graph_console.specs.declared.exit.Exit.{Exit}
use Rattle.graph_console.specs.declared.exit.Exit.TheVariants.{Done, StoreFailed, Usage, InputFault}
use Rattle.graph_console.specs.declared.exit.Exit.TheVariants.{OutputFault, NoMemory, BadFiles}
use Rattle.graph_console.specs.declared.exit.Exit.TheVariants.{ConfigDiffers, DiskFault}
use Rattle.graph_console.specs.declared.exit.Exit.TheVariants.{InputTooLong}

-- the words ask for nothing that the program does
abbrev pub AskForNothing : List (List ℕ) → Type 0
AskForNothing words = (asked : Asked) → ¬ AsksFor words asked

-- the words ask for a sample, or for one that a follower takes over
abbrev pub AskForSample : List (List ℕ) → Type 0
AskForSample words =
    (options : SampleOptions) × (AsksFor words (Sample options) ⊎ AsksFor words (Follow options))

-- the store that the options ask for
abbrev pub config_for : RunOptions → Config
config_for options = record { threshold = options.threshold; limit = options.limit }

abbrev pub usage_line : List ℕ
usage_line =
    text_line
    (codes "usage: run [--threshold N] [--limit N] | sample SEED COUNT | follow SEED COUNT")

abbrev pub memory_line : List ℕ
memory_line = fault_line WantOfMemory

-- The run took all lines that a newline ends among the bytes that were taken from the input, and
-- none is quit.
pub record ServesEnded (input left : List ℕ) (run : List Exchange) : Type 0 where
  pub taken : List ℕ
  pub input_is : input ≡ taken ++ left
  pub lines : run_lines run ≡ ended_lines taken
  pub no_quit : NoQuit (run_lines run)

-- The terms of a run on a course: the states that it may start with, what holds of it at its end,
-- and the reasons why there is none.
pub record Terms {V : Type 0} (course : Course V) : Type 1 where
  pub starts : V → Type 0
  pub ends : V → List Exchange → V → Type 0
  pub unopened : OpenFault → Type 0

-- A run on these terms, with more that holds of it.
pub record RunTo {V : Type 0} {course : Course V} (terms : Terms course)
    (P : List Exchange → V → Type 0) : Type 0 where
  pub first : V
  pub begins : terms.starts first
  pub run : List Exchange
  pub last : V
  pub steps : RunBy course.step first run last
  pub arrives : terms.ends first run last
  pub says : P run last

-- The run took all lines of the input, or those up to quit, and ended in this health. All replies
-- were written. Where none of its lines is quit, the input had fewer than 2^30 bytes.
abbrev pub ServesAll :
    {V : Type 0} {course : Course V} → Terms course → Health → List ℕ → List ℕ → Type 0
ServesAll {course = course} terms health input written =
    RunTo terms (λ run last.
    (course.health last ≡ health) × AreUpToQuit (lines_of input) (run_lines run)
    × (NoQuit (run_lines run) → length input < 2 ^ 30) × (written ≡ run_text run))

-- What was written by a program that was asked to run, with what it had read: input is what the
-- source had left at the start, and left what it has left at the end. Where the store was not
-- opened for a reason, nothing was read.
abbrev pub Serves :
    {V : Type 0} {course : Course V} → Terms course → Exit → List ℕ → List ℕ → List ℕ → Type 0
Serves terms Done input left written = ServesAll terms Live input written
Serves terms StoreFailed input left written = ServesAll terms Failed input written
Serves terms InputFault input left written =
    RunTo terms (λ run last. ServesEnded input left run × (written ≡ run_text run))
Serves terms InputTooLong input left written =
    RunTo terms (λ run last.
    (ended : ServesEnded input left run) × (length ended.taken ≡ 2 ^ 30) × (written ≡ run_text run))
Serves terms OutputFault input left written =
    RunTo terms (λ run last.
    AreFirstOf (lines_of input) (run_lines run) × NoQuit (run_lines run) × LacksEnd run written)
    ⊎ FailsUnopened terms.unopened written
Serves terms NoMemory input left written = EndsUnopened terms.unopened NoMemory written
Serves terms BadFiles input left written = EndsUnopened terms.unopened BadFiles written
Serves terms (ConfigDiffers stored asked) input left written =
    EndsUnopened terms.unopened (ConfigDiffers stored asked) written
Serves terms DiskFault input left written = EndsUnopened terms.unopened DiskFault written
Serves terms Usage input left written = ⊥

-- What holds of a run, from one state of the disk to a later one. At the end each content that a
-- crash leaves stands for a graph that the last state admits. At each moment it left a content from
-- before, or one that is admitted before or after a line of the run. Both are said where the disk
-- tells it. And the faults that were told were counted.
pub record EndsAs {D : Type 0} (disk : DiskGhosts D) (old new : D)
    (first : SharedState) (run : List Exchange) (last : SharedState) : Type 0 where
  pub durable : TellsAll disk → AreAdmitted last.writer (disk.may_leave new)
  pub crash :
      TellsAll disk
      → AtEachMoment disk old new (λ content.
      disk.may_leave old content ⊎ IsAdmittedInRun disk.tells_reads first run last content)
  pub counts : CountsRises (disk.faults old) (disk.faults new) run

-- the terms of a run from this state, in a store that is open
abbrev pub terms_from : {D : Type 0} (disk : DiskGhosts D) → SharedState → D → D
    → Terms (shared_course disk.tells_reads)
terms_from disk first old new =
    record {
      starts = λ state. state ≡ first;
      ends = EndsAs disk old new;
      unopened = λ why. ⊥;
    }

-- A run of the program starts as a session over this disk does, and no session that reads has a
-- snapshot.
pub record StartsRun {D : Type 0} (disk : DiskGhosts D) (now : D) (config : Config)
    (state : SharedState) : Type 0 where
  pub writer : StartsAs disk now config state.writer
  pub readers : state.readers ≡ no_readers

-- the terms of a run over this disk, for these options
abbrev pub terms_for : {D : Type 0} (disk : DiskGhosts D) → RunOptions → D → D
    → Terms (shared_course disk.tells_reads)
terms_for disk options old new = record {
  starts = StartsRun disk old (config_for options);
  ends = EndsAs disk old new;
  unopened = IsUnopened disk (config_for options) old new;
}

-- where the disk tells what it reads, that stands for a graph
abbrev pub HoldsGraph : {D : Type 0} → DiskGhosts D → D → Type 0
HoldsGraph disk now = disk.tells_reads → StandsForOne disk now

-- a source and a sink
pub record Streams (S K : Type 0) : Type 0 where
  pub input : S
  pub output : K

abbrev pub streams : {S K : Type 0} → S → K → Streams S K
streams input output = record { input = input; output = output }

-- new is old with bytes after it that are so
abbrev pub Writes : List ℕ → List ℕ → (List ℕ → Type 0) → Type 0
Writes old new P = (written : List ℕ) × (new ≡ old ++ written) × P written

-- A run on these terms, where the source tells what it has left and the sink what it took.
abbrev pub ServesOn :
    {S K V : Type 0} {course : Course V} → SourceGhosts S → SinkGhosts K → Terms course → Exit
    → Streams S K → Streams S K → Type 0
ServesOn source sink terms exit old new =
    source.tells → sink.tells
    → Writes (sink.taken old.output) (sink.taken new.output)
    (Serves terms exit (source.left old.input) (source.left new.input))

-- An exit tells a fault of a stream only where that stream counted one.
pub record HasStreamCause {S K : Type 0} (source : SourceGhosts S) (sink : SinkGhosts K)
    (exit : Exit) (old new : Streams S K) : Type 0 where
  pub input_fault : exit ≡ InputFault → Rose (source.faults old.input) (source.faults new.input)
  pub output_fault : exit ≡ OutputFault → Rose (sink.faults old.output) (sink.faults new.output)

-- What was written by a program that was asked for anything else. Reading the words may lack
-- memory.
abbrev pub Refuses : Exit → List ℕ → Type 0
Refuses exit written =
    ((exit ≡ Usage) × (written ≡ usage_line))
    ⊎ ((exit ≡ NoMemory) × (written ≡ memory_line))
    ⊎ ((exit ≡ OutputFault)
    × (TakesFront [] written usage_line ⊎ TakesFront [] written memory_line))

-- The program ended with this line and this exit. Where the sink failed, it took a prefix of the
-- line.
pub record EndsWithLine {K : Type 0} (sink : SinkGhosts K) (line : List ℕ) (exit : Exit)
    (old new : K) (result : Exit) : Type 0 where
  pub written :
      sink.tells
      → ((result ≡ exit) × (sink.taken new ≡ sink.taken old ++ line))
      ⊎ ((result ≡ OutputFault) × TakesFront (sink.taken old) (sink.taken new) line)
  pub cause :
      (result ≡ exit) ⊎ ((result ≡ OutputFault) × Rose (sink.faults old) (sink.faults new))
