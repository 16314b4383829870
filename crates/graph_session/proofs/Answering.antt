-- A line that is settled, and its reply given.
use Rattle.std.proofs.Common.{◌≡◌, ◌≢◌, ◌↔◌, ℕ, zero, suc, Bool, true, false, List, [], inl, inr, refl, sym, subst, true≢false, arith}
use Rattle.std.proofs.lemmas.List.{append-nil}
use Rattle.fault_count.specs.Cause.{Rose}
use Rattle.disk_model.specs.declared.disk.Disk.{Ghosts as DiskGhosts}
use Rattle.disk_model.proofs.Spans.{OnlyNow, only_reads_none}
use Rattle.stream_io.specs.Lines.{InputLine}
use Rattle.stream_io.specs.declared.streams.Sink.{Ghosts as SinkGhosts}
use Rattle.plain_graph.specs.Reply.{DamagedRecord, Done, EdgeMade, Faulted, NoMemory, NodeMade, Refused, Reply, Silent, Told, prefixed_text}
use Rattle.plain_graph.specs.declared.refusal.Refusal.{Refusal}
use Rattle.snap_store.specs.Snaps.{Snapshots}
use Rattle.graph_session.specs.Answer.{AnswersLine, Delivers, Gives, Settles, Terminal, shared_in}
use Rattle.graph_session.specs.Console.{HasNoDraft, IsAt, Onward, SessionView}
use Rattle.graph_session.specs.DiskUse.{TellsNoChange, UsesDisk}
use Rattle.graph_session.specs.Effects.{Stays}
use Rattle.graph_session.specs.Exchange.{ConsoleStep, Exchange, IsDone, told_fault}
use Rattle.graph_session.specs.Known.{as_known}
use Rattle.graph_session.specs.Moments.{ComesTo}
use Rattle.graph_session.specs.ReaderAnswers.{AsksQuestion, MayStepAs}
use Rattle.graph_session.specs.Refusals.{IsRefused}
use Rattle.graph_session.specs.SharedAnswer.{SettlesLine, SettlesShared, UsesAs}
use Rattle.graph_session.specs.SharedConsole.{IsSharedAt}
use Rattle.graph_session.specs.SharedConsoleStep.{SharedConsoleStep}
use Rattle.graph_session.specs.SharedExchange.{AsksForSnapshot, SharedStep, step_of}
use Rattle.graph_session.specs.SnapshotEffects.{SharedView}
use Rattle.graph_session.specs.Snapshots.{SharedState}
use Rattle.graph_session.specs.State.{IsQuit, NeverLacksMemory, State, prefix_in, session_in}
use Rattle.graph_session.specs.Verdicts.{JudgesLine}
use Rattle.graph_session.specs.declared.turn.Turn.{Turn}
use Rattle.graph_session.specs.declared.turn.Turn.TheVariants.{Go, Quit, SinkFault}
use Rattle.graph_session.proofs.DiskUse.{uses-none}
use Rattle.graph_session.proofs.Judged.{judges-none}
use Rattle.graph_session.proofs.Staying.{comes-stays, crash-kept, stays-none}

-- the reply says that the command was carried out
abbrev pub IsGood : Reply → Type 0
IsGood Silent = ⊥
IsGood Done = Unit {0}
IsGood (NodeMade id) = Unit {0}
IsGood (EdgeMade id) = Unit {0}
IsGood (Told lines last) = Unit {0}
IsGood (Faulted lines fault) = ⊥
IsGood (Refused why) = ⊥

abbrev pub exchange : InputLine → Bool → Reply → Exchange
exchange line disk_failed reply = record { line = line; disk_failed = disk_failed; reply = reply }

good-step : (old new : State) (line : InputLine) (disk_failed : Bool) (reply : Reply) → IsGood reply → IsDone old (exchange line disk_failed reply) new
    → ConsoleStep old (exchange line disk_failed reply) new
good-step old new line disk_failed Silent good done = absurd good
good-step old new line disk_failed Done good done = done
good-step old new line disk_failed (NodeMade id) good done = done
good-step old new line disk_failed (EdgeMade id) good done = done
good-step old new line disk_failed (Told lines last) good done = done
good-step old new line disk_failed (Faulted lines fault) good done = absurd good
good-step old new line disk_failed (Refused why) good done = absurd good

good-told : (reply : Reply) → IsGood reply → told_fault reply ≡ 0
good-told Silent good = refl
good-told Done good = refl
good-told (NodeMade id) good = refl
good-told (EdgeMade id) good = refl
good-told (Told lines last) good = refl
good-told (Faulted lines fault) good = absurd good
good-told (Refused why) good = refl

-- and not that nothing changed
pub good-changed : (reply : Reply) → IsGood reply → ¬ TellsNoChange reply
good-changed Silent good none = good
good-changed Done good none = none
good-changed (NodeMade id) good none = none
good-changed (EdgeMade id) good none = none
good-changed (Told lines last) good none = none
good-changed (Faulted lines fault) good none = good
good-changed (Refused why) good none = good

module _ {D : Type 0} {g : DiskGhosts D} {old new : SessionView D} where
  module _ {line : InputLine} {before : State} where
    -- the disk is not blamed
    pub settles-given : (reply : Reply) (after : State) → ComesTo g old new before after → told_fault reply ≡ 0
        → (g.tells_reads → ConsoleStep before (exchange line false reply) after) → UsesDisk g line before reply old.disk new.disk
        → Settles g line old new before reply
    settles-given reply after arrives quiet step uses = record {
      after = after;
      arrives = arrives;
      disk_failed = false;
      counted = λ e. absurd (true≢false (sym e));
      step = record { step = step; blames = λ blames. absurd (blames quiet) };
      uses = uses;
    }

    -- the command was carried out
    pub settles-done : (reply : Reply) (after : State) → IsGood reply → ComesTo g old new before after
        → (g.tells_reads → IsDone before (exchange line false reply) after) → UsesDisk g line before reply old.disk new.disk
        → Settles g line old new before reply
    settles-done reply after good arrives done uses =
        settles-given reply after arrives (good-told reply good) (λ told. good-step before after line false reply good (done told)) uses

    -- the disk failed
    pub settles-fault : (reply : Reply) (after : State) → ComesTo g old new before after → Rose (g.faults old.disk) (g.faults new.disk)
        → (g.tells_reads → ConsoleStep before (exchange line true reply) after) → UsesDisk g line before reply old.disk new.disk
        → Settles g line old new before reply
    settles-fault reply after arrives rose step uses =
        record {
          after = after;
          arrives = arrives;
          disk_failed = true;
          counted = λ e. rose;
          step = record { step = step; blames = λ blames. refl };
          uses = uses;
        }

    -- a refused line changes nothing
    pub settles-refused : IsAt g old before → Stays g old new → (why : Refusal) → (g.tells_reads → IsRefused before line why)
        → UsesDisk g line before (Refused why) old.disk new.disk
        → Settles g line old new before (Refused why)
    settles-refused at stays why is uses = settles-given (Refused why) before (comes-stays at stays) refl (λ told. (is told, refl)) uses

    -- and so does one that lacks memory
    pub settles-memory : IsAt g old before → Stays g old new → ¬ NeverLacksMemory line → UsesDisk g line before (Faulted [] NoMemory) old.disk new.disk
        → Settles g line old new before (Faulted [] NoMemory)
    settles-memory at stays may uses = settles-given (Faulted [] NoMemory) before (comes-stays at stays) refl (λ told. (may, refl, inl refl)) uses

    -- where the disk tells what it reads no record is damaged
    pub settles-damaged : (file id : ℕ) (after : State) → ComesTo g old new before after → (g.tells_reads → ⊥)
        → UsesDisk g line before (Faulted [] (DamagedRecord file id)) old.disk new.disk
        → Settles g line old new before (Faulted [] (DamagedRecord file id))
    settles-damaged file id after arrives sound uses = settles-given (Faulted [] (DamagedRecord file id)) after arrives refl (λ told. absurd (sound told)) uses

module _ {D : Type 0} {g : DiskGhosts D} (only : OnlyNow g) {session : SessionView D} where
  -- nothing was called
  pub onward-none : Onward g session session
  onward-none = record { disk_later = omega arith }

  pub settles-refused_at_once : {line : InputLine} {before : State} → IsAt g session before → (why : Refusal) → (g.tells_reads → IsRefused before line why)
      → Settles g line session session before (Refused why)
  settles-refused_at_once at why is = settles-refused at (stays-none only session at.no_draft) why is (uses-none only session.disk)

-- ---- a line of whichever session

module _ {D : Type 0} {g : DiskGhosts D} {line : InputLine} {state : SharedState} {reply : Reply} where
  -- a line of the session that writes, which asks for no snapshot
  pub settles-written : {old new : SharedView D} → session_in line ≡ 0 → ¬ AsksForSnapshot line
      → UsesDisk g line state.writer reply old.session.disk new.session.disk → SettlesShared SharedConsoleStep g line old new state reply
      → SettlesLine g line old new state reply
  settles-written {old = old} {new = new} writes none uses shares = record {
    shared = record {
      after = shares.after;
      arrives = shares.arrives;
      disk_failed = shares.disk_failed;
      counted = shares.counted;
      step = λ told. subst (λ (n : ℕ). step_of n state (exchange line shares.disk_failed reply) shares.after) (sym writes) (inr (none, shares.step told));
      blames = shares.blames;
    };
    uses = subst (λ (n : ℕ). UsesAs g n line state reply old.session.disk new.session.disk) (sym writes) uses;
  }

  -- a line that changes nothing and makes no call of the disk
  pub settles-unchanged : OnlyNow g → {view : SharedView D} → IsSharedAt g view state → told_fault reply ≡ 0
      → SharedStep state (exchange line false reply) state → SettlesLine g line view view state reply
  settles-unchanged only {view = view} at quiet step = record {
    shared = record {
      after = state;
      arrives = record { is_at = at; crash = crash-kept at.writer state.writer view.session.disk (only_reads_none g view.session.disk only) };
      disk_failed = false;
      counted = λ e. absurd (true≢false (sym e));
      step = λ told. step;
      blames = λ blames. absurd (blames quiet);
    };
    uses = by (session_in line);
  }
    where
      by : (n : ℕ) → UsesAs g n line state reply view.session.disk view.session.disk
      by zero = uses-none only view.session.disk
      by (suc reader) = only_reads_none g view.session.disk only

-- a line is answered with this reply
abbrev pub AnswersWith : {D K : Type 0} → DiskGhosts D → SinkGhosts K → InputLine → Terminal D K → Terminal D K → Turn → Reply → Type 0
AnswersWith disk sink line old new turn reply = (answers : AnswersLine disk sink line old new turn) × (answers.reply ≡ reply)

module _ {D K : Type 0} {g : DiskGhosts D} {sink : SinkGhosts K} {line : InputLine} {old new : Terminal D K} {turn : Turn} where
  -- the reply of a settled line was given to the sink
  pub given-with : (reply : Reply) → Gives sink (prefixed_text (prefix_in line) reply) old.output new.output turn → ¬ IsQuit line
      → Onward g old.session new.session
      → (HasNoDraft old.session → MayStepAs g (session_in line) line (shared_in old) reply (shared_in new)) → JudgesLine g line (shared_in old) reply
      → ((known : Bool) (state : SharedState) → IsSharedAt (as_known known g) (shared_in old) state → SettlesLine (as_known known g) line (shared_in old)
      (shared_in new) state reply) → AnswersWith g sink line old new turn reply
  given-with reply gives runs onward may judges settles = (
    record {
      reply = reply;
      text = gives.delivers;
      quit = (λ e. absurd (gives.goes e), λ h. absurd (runs h));
      may = may;
      judges = judges;
      settles = settles;
      cause = gives.cause;
      later = gives.later;
      onward = onward;
    },
    refl,
  )

-- a turn without a fault of the sink delivers nothing
delivers-nothing : (turn : Turn) (text : List ℕ) → turn ≢ SinkFault → Delivers turn text text []
delivers-nothing Go text goes = sym (append-nil text)
delivers-nothing Quit text goes = sym (append-nil text)
delivers-nothing SinkFault text goes = absurd (goes refl)

module _ {D K : Type 0} {g : DiskGhosts D} (only : OnlyNow g) {sink : SinkGhosts K} {line : InputLine} where
  -- the line gets no reply
  pub answers-silent : {terminal : Terminal D K} {turn : Turn} → turn ≢ SinkFault → ((turn ≡ Quit) ↔ IsQuit line)
      → MayStepAs g (session_in line) line (shared_in terminal) Silent (shared_in terminal) → ¬ AsksQuestion line
      → ((state : SharedState) → SharedStep state (exchange line false Silent) state) → AnswersLine g sink line terminal terminal turn
  answers-silent {terminal = terminal} {turn = turn} goes quit may unasked step = record {
    reply = Silent;
    text = λ told. delivers-nothing turn (sink.taken terminal.output) goes;
    quit = quit;
    may = λ none. may;
    judges = judges-none g (shared_in terminal) line Silent unasked;
    settles = λ known state at. settles-unchanged {g = as_known known g} only at refl (step state);
    cause = λ e. absurd (goes e);
    later = omega arith;
    onward = onward-none only;
  }

  -- it gets one, and changes nothing
  pub unchanged-with : {session : SessionView D} {held : Snapshots} {before after : K} {turn : Turn} (reply : Reply) → told_fault reply ≡ 0
      → Gives sink (prefixed_text (prefix_in line) reply) before after turn → ¬ IsQuit line
      → MayStepAs g (session_in line) line (record { session = session; held = held }) reply (record { session = session; held = held })
      → JudgesLine g line (record { session = session; held = held }) reply
      → ((known : Bool) (state : SharedState) → IsSharedAt (as_known known g) (record { session = session; held = held }) state → SharedStep state
      (exchange line false reply) state)
      → AnswersWith g sink line (record { session = session; held = held; output = before }) (record { session = session; held = held; output = after }) turn
      reply
  unchanged-with reply quiet gives runs may judges step =
      given-with {line = line} reply gives runs (onward-none only) (λ none. may) judges
      (λ known state at. settles-unchanged {g = as_known known g} only at quiet (step known state at))

  pub answers-unchanged : {session : SessionView D} {held : Snapshots} {before after : K} {turn : Turn} (reply : Reply) → told_fault reply ≡ 0
      → Gives sink (prefixed_text (prefix_in line) reply) before after turn → ¬ IsQuit line
      → MayStepAs g (session_in line) line (record { session = session; held = held }) reply (record { session = session; held = held })
      → JudgesLine g line (record { session = session; held = held }) reply
      → ((known : Bool) (state : SharedState) → IsSharedAt (as_known known g) (record { session = session; held = held }) state → SharedStep state
      (exchange line false reply) state)
      → AnswersLine g sink line (record { session = session; held = held; output = before }) (record { session = session; held = held; output = after }) turn
  answers-unchanged reply quiet gives runs may judges step = (unchanged-with reply quiet gives runs may judges step).0
