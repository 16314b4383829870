-- What a line's answer says of a turn of the program's loop.
use Rattle.std.proofs.Common.{◌≡◌, ◌↔◌, ℕ, Bool, true, false, inl, inr, List, [], Some, refl, sym}
use Rattle.fault_count.specs.Cause.{Rose}
use Rattle.disk_model.specs.declared.disk.Disk.{Ghosts as DiskGhosts}
use Rattle.disk_model.proofs.Spans.{OnlyNow}
use Rattle.stream_io.specs.Lines.{InputLine}
use Rattle.plain_graph.specs.Reply.{Reply, prefixed_text}
use Rattle.stream_io.specs.Answers.{TakesLine}
use Rattle.stream_io.specs.declared.streams.Sink.{Ghosts as SinkGhosts}
use Rattle.graph_session.specs.Answer.{AnswersLine, Delivers, Terminal, shared_in}
use Rattle.graph_session.specs.Exchange.{Exchange}
use Rattle.graph_session.specs.Known.{as_known}
use Rattle.graph_session.specs.SharedAnswer.{SharedComesTo}
use Rattle.graph_session.specs.SharedConsole.{IsSharedAt}
use Rattle.graph_session.specs.SnapshotEffects.{SharedView}
use Rattle.graph_session.specs.Snapshots.{SharedState}
use Rattle.graph_session.specs.State.{IsQuit, prefix_in}
use Rattle.graph_session.specs.declared.health.Health.{Health}
use Rattle.graph_session.specs.declared.health.Health.TheVariants.{Live, Failed}
use Rattle.graph_session.specs.declared.turn.Turn.{Turn}
use Rattle.graph_session.specs.declared.turn.Turn.TheVariants.{Go, Quit, SinkFault}
use Rattle.graph_session.proofs.Staying.{comes-stays, stays-none}
use Rattle.graph_console.specs.AnyDisk.{over_disk}
use Rattle.graph_console.specs.Run.{Course, shared_course}
use Rattle.graph_console.specs.Serve.{Exchanges, IsViewedAs, Progress, TurnSays, bytes_ahead, exit_after_turn, exit_at_end}

-- The line was answered by a step of the course from this state, and its reply given to the sink. The session comes to the state
-- after it, and has this health.
pub record Answers {V : Type 0} (course : Course V) (comes_to : V → Type 0) (line : InputLine) (old_faults new_faults : ℕ) (old_taken new_taken : List ℕ)
    (health : Health) (turn : Turn) (before : V) : Type 0 where
  pub reply : Reply
  pub disk_failed : Bool
  pub after : V
  pub step : course.step before (record { line = line; disk_failed = disk_failed; reply = reply }) after
  pub counted : disk_failed ≡ true → Rose old_faults new_faults
  pub arrives : comes_to after
  pub health_is : course.health after ≡ health
  pub text : Delivers turn old_taken new_taken (prefixed_text (prefix_in line) reply)
  pub quit : (turn ≡ Quit) ↔ IsQuit line

module _ {D K : Type 0} {disk : DiskGhosts D} {sink : SinkGhosts K} (told : sink.tells) {line : InputLine} {old new : Terminal D K} {turn : Turn}
    (answers : AnswersLine disk sink line old new turn) where
  -- from each state of all sessions that the session is at
  pub answers_at : (known : Bool) (state : SharedState) → IsSharedAt (as_known known disk) (shared_in old) state
      → Answers (shared_course (as_known known disk).tells_reads) (SharedComesTo (as_known known disk) (shared_in old) (shared_in new) state) line
      (disk.faults old.session.disk) (disk.faults new.session.disk) (sink.taken old.output) (sink.taken new.output) new.session.console.health turn state
  answers_at known state at = let s = (answers.settles known state at).shared in record {
    reply = answers.reply;
    disk_failed = s.disk_failed;
    after = s.after;
    step = record { step = s.step; blames = s.blames };
    counted = s.counted;
    arrives = s.arrives;
    health_is = sym s.arrives.is_at.writer.health;
    text = answers.text told;
    quit = answers.quit;
  }

  -- over any disk from the view that it has
  pub answers_over : (state : SharedState) → IsSharedAt (as_known false disk) (shared_in old) state
      → Answers (over_disk disk) (IsViewedAs disk (shared_in new)) line
      (disk.faults old.session.disk) (disk.faults new.session.disk) (sink.taken old.output) (sink.taken new.output) new.session.console.health turn
      (shared_in old)
  answers_over state at = let s = (answers.settles false state at).shared in record {
    reply = answers.reply;
    disk_failed = s.disk_failed;
    after = shared_in new;
    step = record { may = answers.may at.writer.no_draft; judges = answers.judges; counted = s.counted; blames = s.blames; onward = answers.onward };
    counted = s.counted;
    arrives = record { is = refl; state = s.after; is_at = s.arrives.is_at };
    health_is = refl;
    text = answers.text told;
    quit = answers.quit;
  }

module _ {V : Type 0} {course : Course V} {comes_to : V → Type 0} {line : InputLine} {health : Health} {before : V} (old new : Progress)
    (takes : TakesLine line (bytes_ahead old) (bytes_ahead new) new.reader.ended) where
  -- the answer as an exchange, of which more is said
  exchange_of : (turn : Turn) (says : V → Exchange → Type 0) (a : Answers course comes_to line old.faults new.faults old.taken new.taken health turn before)
      → says a.after (record { line = line; disk_failed = a.disk_failed; reply = a.reply }) → Exchanges course before comes_to old new says
  exchange_of turn says a more = record {
    exchange = record { line = line; disk_failed = a.disk_failed; reply = a.reply };
    after = a.after;
    takes = takes;
    step = a.step;
    counted = a.counted;
    arrives = a.arrives;
    more = more;
  }

  pub says_after : (turn : Turn) → Answers course comes_to line old.faults new.faults old.taken new.taken health turn before
      → TurnSays course before comes_to old new (exit_after_turn turn health)
  says_after turn a = by turn health a a.health_is
    where
      by : (t : Turn) (h : Health) (answer : Answers course comes_to line old.faults new.faults old.taken new.taken health t before)
          → course.health answer.after ≡ h
          → TurnSays course before comes_to old new (exit_after_turn t h)
      by Go h answer is = exchange_of Go _ answer (λ is_quit. absurd (cc (answer.quit.1 is_quit)), answer.text)
      by Quit Live answer is = inr (exchange_of Quit _ answer (answer.quit.0 refl, is, answer.text))
      by Quit Failed answer is = inr (exchange_of Quit _ answer (answer.quit.0 refl, is, answer.text))
      by SinkFault h answer is = exchange_of SinkFault _ answer (λ is_quit. absurd (cc (answer.quit.1 is_quit)), answer.text)

-- a session that is not called stays at its state
pub comes_none : {D : Type 0} (disk : DiskGhosts D) → OnlyNow disk → (session : SharedView D) (state : SharedState) → IsSharedAt disk session state
    → SharedComesTo disk session session state state
comes_none disk only session state is_at = record {
  is_at = is_at;
  crash = (comes-stays is_at.writer (stays-none {g = disk} only session.session is_at.writer.no_draft)).crash;
}

-- at the end of the input the run ends in the session's health
pub says_at_end : {V : Type 0} (course : Course V) (before : V) (comes_to : V → Type 0) (old new : Progress) (health : Health) → bytes_ahead old ≡ []
    → health ≡ course.health before → comes_to before → new.taken ≡ old.taken → new.reader.ended ≡ true
    → TurnSays course before comes_to old new (Some (exit_at_end health))
says_at_end course before comes_to old new Live none is at same ended = inl (none, cc, at, same, ended)
says_at_end course before comes_to old new Failed none is at same ended = inl (none, cc, at, same, ended)
