-- What one turn of the program's loop does.
use Rattle.std.specs.Prelude.{◌≡◌, ◌≢◌, ◌⊎◌, ℕ, ◌^◌, Bool, false, true, List, [], ◌++◌, Option}
use Rattle.std.specs.Prelude.{Some, None}
use Rattle.fault_count.specs.Cause.{Rose}
use Rattle.disk_model.specs.declared.disk.Disk.{Ghosts as DiskGhosts}
use Rattle.stream_io.specs.Answers.{TakesLine, Drops, Stops}
use Rattle.stream_io.specs.Reading.{Reading, ahead}
use Rattle.stream_io.specs.Streams.{TakesFront}
use Rattle.stream_io.specs.declared.streams.Sink.{Ghosts as SinkGhosts}
use Rattle.stream_io.specs.declared.streams.Source.{Ghosts as SourceGhosts}
use Rattle.graph_session.specs.Exchange.{Exchange}
use Rattle.graph_session.specs.Known.{as_known}
use Rattle.graph_session.specs.SharedAnswer.{SharedComesTo}
use Rattle.graph_session.specs.SharedConsole.{IsSharedAt}
use Rattle.graph_session.specs.SnapshotEffects.{SharedView}
use Rattle.graph_session.specs.Snapshots.{SharedState}
use Rattle.graph_session.specs.State.{IsQuit}
use Rattle.graph_session.specs.declared.health.Health.{Health}
use Rattle.graph_session.specs.declared.health.Health.TheVariants.{Live, Failed}
use Rattle.graph_session.specs.declared.turn.Turn.{Turn}
use Rattle.graph_session.specs.declared.turn.Turn.TheVariants.{Go, Quit, SinkFault}
use Rattle.graph_console.specs.AnyDisk.{over_disk}
use Rattle.graph_console.specs.Program.{Streams, streams}
use Rattle.graph_console.specs.Run.{Course, exchange_text, shared_course}
use Rattle.graph_console.specs.Unopened.{IsUnopenedExit}
use Rattle.graph_console.specs.declared.exit.Exit.{Exit}
use Rattle.graph_console.specs.declared.exit.Exit.TheVariants.{Done, StoreFailed, Usage, InputFault}
use Rattle.graph_console.specs.declared.exit.Exit.TheVariants.{OutputFault, NoMemory, BadFiles}
use Rattle.graph_console.specs.declared.exit.Exit.TheVariants.{ConfigDiffers, DiskFault}
use Rattle.graph_console.specs.declared.exit.Exit.TheVariants.{InputTooLong}

-- how the program ends where the run has come to its end
abbrev pub exit_at_end : Health → Exit
exit_at_end Live = Done
exit_at_end Failed = StoreFailed

-- how the program ends with a turn, if it does
abbrev pub exit_after_turn : Turn → Health → Option Exit
exit_after_turn Go health = None
exit_after_turn Quit health = Some (exit_at_end health)
exit_after_turn SinkFault health = Some OutputFault

-- one of the exits of a run
abbrev pub IsRunExit : Exit → Type 0
IsRunExit exit = (exit ≢ Usage) × ¬ IsUnopenedExit exit

-- How far the loop has come: what was read, what the source has left, what the sink has taken, and
-- how often the disk has failed.
pub record Progress : Type 0 where
  pub reader : Reading
  pub left : List ℕ
  pub taken : List ℕ
  pub faults : ℕ

-- the bytes that are still to be read
abbrev pub bytes_ahead : Progress → List ℕ
bytes_ahead now = ahead now.reader now.left

-- what the loop works on
pub record Loop (S K D : Type 0) : Type 0 where
  pub reader : Reading
  pub streams : Streams S K
  pub session : SharedView D

abbrev pub loop : {S K D : Type 0} → Reading → S → K → SharedView D → Loop S K D
loop reader input output session =
    record { reader = reader; streams = streams input output; session = session }

module _ {S K D : Type 0}
    (source : SourceGhosts S) (sink : SinkGhosts K) (disk : DiskGhosts D) where
  abbrev pub progress : Loop S K D → Progress
  progress now = record {
    reader = now.reader;
    left = source.left now.streams.input;
    taken = sink.taken now.streams.output;
    faults = disk.faults now.session.session.disk;
  }

-- A turn from a state of the course, to one that the session comes to.
module _ {V : Type 0} (course : Course V) (before : V) (comes_to : V → Type 0)
    (old new : Progress) where
  -- A line was read, and its session made one step. More is said of the state that it leads to and
  -- of the exchange.
  pub record Exchanges (says : V → Exchange → Type 0) : Type 0 where
    pub exchange : Exchange
    pub after : V
    pub takes : TakesLine exchange.line (bytes_ahead old) (bytes_ahead new) new.reader.ended
    pub step : course.step before exchange after
    pub counted : exchange.disk_failed ≡ true → Rose old.faults new.faults
    pub arrives : comes_to after
    pub more : says after exchange

  -- The unfinished line was dropped. The state and the output stay.
  pub record Breaks : Type 0 where
    pub drops : Drops (bytes_ahead old) (bytes_ahead new)
    pub stops : Stops old.reader new.reader
    pub arrives : comes_to before
    pub output : new.taken ≡ old.taken

  -- The run has come to the end of the input, which the source has answered, or to quit, in this
  -- health.
  abbrev pub Ends : Health → Type 0
  Ends health =
      ((bytes_ahead old ≡ []) × (course.health before ≡ health) × comes_to before
      × (new.taken ≡ old.taken) × (new.reader.ended ≡ true))
      ⊎ Exchanges (λ after x.
      IsQuit x.line × (course.health after ≡ health)
      × (new.taken ≡ old.taken ++ exchange_text x))

  -- The turn, and how the program ends with it if it does.
  abbrev pub TurnSays : Option Exit → Type 0
  TurnSays None =
      Exchanges (λ after x. (¬ IsQuit x.line) × (new.taken ≡ old.taken ++ exchange_text x))
  TurnSays (Some Done) = Ends Live
  TurnSays (Some StoreFailed) = Ends Failed
  TurnSays (Some OutputFault) =
      Exchanges (λ after x. (¬ IsQuit x.line) × TakesFront old.taken new.taken (exchange_text x))
  TurnSays (Some InputFault) = Breaks
  TurnSays (Some InputTooLong) = Breaks × (new.reader.taken ≡ 2 ^ 30)
  TurnSays (Some Usage) = ⊥
  TurnSays (Some NoMemory) = ⊥
  TurnSays (Some BadFiles) = ⊥
  TurnSays (Some (ConfigDiffers stored asked)) = ⊥
  TurnSays (Some DiskFault) = ⊥

-- The session has this view, and without knowledge of what the disk reads it is at a state.
pub record IsViewedAs {D : Type 0} (disk : DiskGhosts D) (session view : SharedView D)
    : Type 0 where
  pub is : view ≡ session
  pub state : SharedState
  pub is_at : IsSharedAt (as_known false disk) session state

-- What a turn says from each state that the session is at, where source and sink tell their bytes.
module _ {S K D : Type 0}
    (source : SourceGhosts S) (sink : SinkGhosts K) (disk : DiskGhosts D) where
  abbrev pub Turns : Option Exit → Loop S K D → Loop S K D → Type 0
  Turns exit old new =
      (known : Bool) (state : SharedState) → IsSharedAt (as_known known disk) old.session state
      → source.tells → sink.tells
      → TurnSays (shared_course (as_known known disk).tells_reads) state
      (SharedComesTo (as_known known disk) old.session new.session state)
      (progress source sink disk old) (progress source sink disk new) exit

  -- What a turn says over any disk, from the view that the session has.
  abbrev pub TurnsOver : Option Exit → Loop S K D → Loop S K D → Type 0
  TurnsOver exit old new =
      (state : SharedState) → IsSharedAt (as_known false disk) old.session state
      → source.tells → sink.tells
      → TurnSays (over_disk disk) old.session (IsViewedAs disk new.session)
      (progress source sink disk old) (progress source sink disk new) exit
