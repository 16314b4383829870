-- How far a sample has come.
use Rattle.std.specs.Prelude.{◌≡◌, ◌⊎◌, ℕ, List, ◌++◌, length, false, Option, Some, None}
use Rattle.disk_model.specs.declared.disk.Disk.{Ghosts as DiskGhosts}
use Rattle.stream_io.specs.Lines.{Whole}
use Rattle.stream_io.specs.Streams.{TakesFront}
use Rattle.plain_graph.specs.Reply.{EdgeMade, NoMemory as WantOfMemory, NodeMade, fault_line}
use Rattle.plain_graph.specs.Reply.{reply_text}
use Rattle.console_words.specs.declared.sample_options.SampleOptions.{SampleOptions}
use Rattle.graph_session.specs.Exchange.{Exchange}
use Rattle.graph_session.specs.SharedConsole.{IsSharedAt}
use Rattle.graph_session.specs.SharedExchange.{TakesSharedStep}
use Rattle.graph_session.specs.SnapshotEffects.{SharedView}
use Rattle.graph_session.specs.Snapshots.{SharedState}
use Rattle.graph_console.specs.Run.{Run, exchange_text, run_text}
use Rattle.graph_console.specs.Sample.{GivesNone, SampleRun, SampleState, TakesTurns, sample_store}
use Rattle.graph_console.specs.Sample.{sample_start, tells_failure}
use Rattle.graph_console.specs.declared.exit.Exit.{Exit}
use Rattle.graph_console.specs.declared.exit.Exit.TheVariants.{NoMemory, OutputFault}
use Rattle.graph_console.specs.declared.sample.made.Made.{Made}
use Rattle.graph_console.specs.declared.sample.made.Made.TheVariants as made

-- the text is that of the reply that made it, or of none that gives an identifier
abbrev pub Tells : List ℕ → Made → Type 0
Tells text (made.Node id) = text ≡ reply_text (NodeMade id)
Tells text (made.Edge id) = text ≡ reply_text (EdgeMade id)
Tells text made.Nothing = GivesNone text

-- The line was answered with this text, which tells no failure, and the session is at the state
-- that it leads to.
pub record AnswersWell {D : Type 0} (disk : DiskGhosts D) (line text : List ℕ)
    (before : SharedState) (new : SharedView D) : Type 0 where
  pub exchange : Exchange
  pub after : SharedState
  pub line_is : exchange.line ≡ Whole line
  pub text_is : exchange_text exchange ≡ text
  pub step : TakesSharedStep disk.tells_reads before exchange after
  pub is_at : IsSharedAt disk new after
  pub well : tells_failure text ≡ false

-- the session has come through so many turns from the seed, to this state of the sample
pub record TookTurns {D : Type 0} (disk : DiskGhosts D) (options : SampleOptions) (turns : ℕ)
    (sample : SampleState) (now : SharedView D) : Type 0 where
  pub run : List Exchange
  pub last : SharedState
  pub steps : Run disk.tells_reads (sample_store options) run last
  pub is_at : IsSharedAt disk now last
  pub turned : TakesTurns (sample_start options.seed) run sample
  pub many : length run ≡ turns

-- The session is at the end of a sample that asked these lines after its turns, and whose replies
-- to them are the text.
pub record SampledTo {D : Type 0} (disk : DiskGhosts D) (options : SampleOptions)
    (asked : List (List ℕ)) (now : SharedView D) (text : List ℕ) : Type 0 where
  pub answered : List Exchange
  pub last : SharedState
  pub run : SampleRun disk.tells_reads options options.count asked answered last
  pub is_at : IsSharedAt disk now last
  pub text_is : text ≡ run_text answered

-- The line was answered and the reply written; or the sample ends: for want of memory, which a line
-- told, or since the sink failed in that line or in the reply.
abbrev pub Asks : {D : Type 0} → DiskGhosts D → List ℕ → SharedState → SharedView D → List ℕ
    → List ℕ → Option Exit → Type 0
Asks disk line before new old_taken new_taken None =
    (text : List ℕ) × AnswersWell disk line text before new × (new_taken ≡ old_taken ++ text)
Asks disk line before new old_taken new_taken (Some exit) =
    ((exit ≡ NoMemory) × (new_taken ≡ old_taken ++ fault_line WantOfMemory))
    ⊎ ((exit ≡ OutputFault) × (TakesFront old_taken new_taken (fault_line WantOfMemory)
    ⊎ ((text : List ℕ) × AnswersWell disk line text before new
    × TakesFront old_taken new_taken text)))
