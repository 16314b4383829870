-- A line is answered by its command, or by its fault.
use Rattle.std.proofs.Common.{◌≡◌, ◌≢◌, ◌↔◌, ◌∙◌, ℕ, Option, None, Some, List, [], inl, inr, refl, sym, ap, subst}
use Rattle.disk_model.specs.declared.disk.Disk.{Ghosts as DiskGhosts}
use Rattle.disk_model.proofs.Spans.{OnlyNow}
use Rattle.stream_io.specs.Lines.{Long, Whole}
use Rattle.stream_io.specs.declared.streams.Sink.{Ghosts as SinkGhosts}
use Rattle.plain_graph.specs.Lines.{IsQuestion}
use Rattle.plain_graph.specs.Reply.{Faulted, NoMemory, Refused, Reply, prefixed_text}
use Rattle.plain_graph.specs.declared.command.Command.{Command}
use Rattle.plain_graph.specs.declared.command.Command.TheVariants as commands
use Rattle.plain_graph.specs.declared.refusal.Refusal.{Refusal}
use Rattle.plain_graph.specs.declared.refusal.Refusal.TheVariants as refusals
use Rattle.snap_store.specs.Snaps.{Snapshots}
use Rattle.gremlin_parse.specs.Commands.{NeedsNoMemory}
use Rattle.gremlin_parse.specs.Lines.{IsLeftmostFault, Spells}
use Rattle.gremlin_parse.specs.Tags.{session_of}
use Rattle.gremlin_parse.specs.declared.line_fault.LineFault.{LineFault}
use Rattle.gremlin_parse.specs.declared.line_fault.LineFault.TheVariants as faults
use Rattle.graph_session.specs.Answer.{AnswersLine, Gives, Terminal, shared_in}
use Rattle.graph_session.specs.Answering.{reply_of}
use Rattle.graph_session.specs.Console.{SessionView}
use Rattle.graph_session.specs.MayStep.{IsServed}
use Rattle.graph_session.specs.Refusals.{SpellsOnly, refusal_of}
use Rattle.graph_session.specs.Settling.{IsLoud, IsParsed, SettlesCommand, told_by, told_of}
use Rattle.graph_session.specs.SharedExchange.{AsksForSnapshot, IsOfSnapshots}
use Rattle.graph_session.specs.SnapshotEffects.{KeepsOlds}
use Rattle.graph_session.specs.State.{IsQuit, IsSilent, prefix_in}
use Rattle.graph_session.specs.declared.health.Health.TheVariants as healths
use Rattle.graph_session.specs.declared.turn.Turn.{Turn}
use Rattle.graph_session.specs.declared.turn.Turn.TheVariants as turns
use Rattle.graph_session.proofs.Anyhow.{keeps-end, may-served, may-write}
use Rattle.graph_session.proofs.Answering.{AnswersWith, answers-silent, answers-unchanged, given-with, settles-written, unchanged-with}
use Rattle.graph_session.proofs.AtOnce.{apart-only, asks-only, may-silent, may-turn_away, may-unanswered, may-writer}
use Rattle.graph_session.proofs.AtOnce.{step-fault, step-memory, step-refused, step-silent, step-writer}
use Rattle.graph_session.proofs.Conditions.{failed-refused, long-refused}
use Rattle.graph_session.proofs.Judged.{JudgesCommand, judges-failed, judges-memory, judges-none, judges-parsed, unasked}
use Rattle.graph_session.proofs.SharedSettling.{settles-shared}
use Rattle.graph_session.proofs.Spelling.{IsMute, lacks-memory, quit-only, silent-mute, spells-same}
use Rattle.graph_session.proofs.States.{is_failed}

-- only want of memory is no refusal
memory-only : (fault : LineFault) → refusal_of fault ≡ None → fault ≡ faults.Memory
memory-only faults.Memory is = refl
memory-only _ is = cc

refused-other : (fault : LineFault) (why : Refusal) → refusal_of fault ≡ Some why → fault ≢ faults.Memory
refused-other fault why is e = absurd (clash (sym (ap refusal_of e) ∙ is))
  where
    clash : None ≡ Some why → ⊥
    clash same = cc

-- a line with a fault spells no command that needs no memory
pub spells-none : (line : List ℕ) (fault : LineFault) → (fault ≢ faults.Memory → (command : Command) → ¬ Spells line command)
    → (fault ≡ faults.Memory → (command : Command) → NeedsNoMemory command → ¬ Spells line command)
    → (command : Command) → NeedsNoMemory command → ¬ Spells line command
spells-none line faults.Memory none memory command needs = memory refl command needs
spells-none line _ none memory command needs = none (λ e. cc) command

fault-apart : (line : List ℕ) → ((command : Command) → NeedsNoMemory command → ¬ Spells line command) → ¬ AsksForSnapshot (Whole line)
fault-apart line none (inl h) = none commands.Snapshot tt h
fault-apart line none (inr h) = none commands.Release tt h

-- ---- a line of the session that writes

-- a command that gets a reply
loud-not_mute : (command : Command) → IsLoud command → ¬ IsMute command
loud-not_mute command loud (inl e) = subst IsLoud e loud tt
loud-not_mute command loud (inr e) = subst IsLoud e loud tt

-- a command about snapshots reads nothing of the graph
sight-unasked : (command : Command) → IsOfSnapshots command → ¬ IsQuestion command
sight-unasked command (inl is) asks = subst IsQuestion is asks
sight-unasked command (inr is) asks = subst IsQuestion is asks

-- the reply has the line's prefix
pub given-prefixed : {K : Type 0} {sink : SinkGhosts K} {line : List ℕ} {session : ℕ} {command : Command} {prefix : List ℕ}
    → IsParsed line session command prefix
    → {before after : K} {turn : Turn} (reply : Reply)
    → Gives sink (prefixed_text prefix reply) before after turn → Gives sink (prefixed_text (prefix_in (Whole line)) reply) before after turn
given-prefixed {sink = sink} parsed {before = before} {after = after} {turn = turn} reply gives =
    subst (λ (m : List ℕ). Gives sink (prefixed_text m reply) before after turn) (sym parsed.prefix_is) gives

module _ {D K : Type 0} {g : DiskGhosts D} {sink : SinkGhosts K} {line : List ℕ} {session : ℕ} {command : Command} {prefix : List ℕ}
    (parsed : IsParsed line session command prefix) where
  -- a command that was settled, and whose reply was given
  pub settled-with : {old new : Terminal D K} {turn : Turn} (reply : Reply) → session ≡ 0 → IsLoud command → ¬ IsOfSnapshots command
      → IsServed old.session.console command → SettlesCommand g command old.session new.session reply
      → KeepsOlds g command (shared_in old) reply (shared_in new) → JudgesCommand g session command (shared_in old) reply
      → Gives sink (prefixed_text prefix reply) old.output new.output turn → AnswersWith g sink (Whole line) old new turn reply
  settled-with {old = old} {new = new} reply writes loud apart served settles keeps judges gives =
      let first = parsed.session_is ∙ writes in
      let none = apart-only parsed.only apart in
      given-with {line = Whole line} reply (given-prefixed parsed reply gives) (quit-only parsed.only (λ e. loud-not_mute command loud (inr e))) settles.onward
      (λ free. may-write (shared_in old) (shared_in new) (session_of line) first none (may-served parsed.only served (settles.may free))
      (keeps-end (shared_in old) (shared_in new) parsed.only keeps))
      (judges-parsed g (shared_in old) parsed reply judges)
      (λ known state at.
      let done = settles.settles known line state.writer parsed.only served at.writer in
      settles-written {line = Whole line} first none done.uses (settles-shared known parsed.only at served done (settles.may at.writer.no_draft) keeps))

module _ {D K : Type 0} (g : DiskGhosts D) (only_now : OnlyNow g) (sink : SinkGhosts K) {session : SessionView D} {held : Snapshots} {before after : K}
    {turn : Turn} {line : List ℕ} {named : ℕ} {command : Command} {prefix : List ℕ}
    (parsed : IsParsed line named command prefix) (writes : named ≡ 0) (loud : IsLoud command) where
  -- the disk has failed the session
  pub failed-with : session.console.health ≡ healths.Failed → ¬ IsOfSnapshots command → command ≢ commands.Reopen
      → Gives sink (prefixed_text prefix (Refused refusals.Failed)) before after turn
      → AnswersWith g sink (Whole line) (record { session = session; held = held; output = before }) (record { session = session; held = held; output = after })
      turn (Refused refusals.Failed)
  failed-with failed apart again gives =
      let only = parsed.only in
      let mute = loud-not_mute command loud in
      let first = parsed.session_is ∙ writes in
      let none = apart-only only apart in
      unchanged-with {g = g} only_now {line = Whole line} (Refused refusals.Failed) refl (given-prefixed parsed (Refused refusals.Failed) gives)
      (quit-only only (λ e. mute (inr e)))
      (may-turn_away g (record { session = session; held = held }) (session_of line) first (Whole line) (Refused refusals.Failed) none
      (inr (inr (refl, failed, (λ silent. mute (silent-mute only silent)), λ spells. again (spells-same only commands.Reopen spells)))))
      (judges-failed g (record { session = session; held = held }) (Whole line) (Refused refusals.Failed) failed)
      (λ known state at. step-refused (session_of line) first state (Whole line) none refusals.Failed (failed-refused state.writer only
      (is_failed at.writer failed) mute again))

  -- it has no snapshots
  pub answers-writer : IsOfSnapshots command → Gives sink (prefixed_text prefix (Refused refusals.Writer)) before after turn
      → AnswersLine g sink (Whole line) (record { session = session; held = held; output = before }) (record { session = session; held = held; output = after })
      turn
  answers-writer about gives =
      let first = parsed.session_is ∙ writes in
      let asks = asks-only parsed.only about in
      answers-unchanged {g = g} only_now {line = Whole line} (Refused refusals.Writer) refl (given-prefixed parsed (Refused refusals.Writer) gives)
      (quit-only parsed.only (λ e. loud-not_mute command loud (inr e)))
      (may-writer g (record { session = session; held = held }) (session_of line) first (Whole line) asks)
      (judges-none g (record { session = session; held = held }) (Whole line) (Refused refusals.Writer) (unasked parsed.only (sight-unasked command about)))
      (λ known state at. step-writer (session_of line) first state (Whole line) asks)

-- ---- a line of whichever session

blank-not_quit : ¬ (commands.Quit ≡ commands.Blank)
blank-not_quit e = cc

blank-apart : ¬ IsOfSnapshots commands.Blank
blank-apart (inl e) = cc
blank-apart (inr e) = cc

quit-apart : ¬ IsOfSnapshots commands.Quit
quit-apart (inl e) = cc
quit-apart (inr e) = cc

module _ {D K : Type 0} (g : DiskGhosts D) (only_now : OnlyNow g) (sink : SinkGhosts K) where
  module _ {line : List ℕ} {terminal : Terminal D K} where
    silent_line : {command : Command} {turn : Turn} → SpellsOnly line command → ¬ IsOfSnapshots command → ¬ IsQuestion command → turn ≢ turns.SinkFault
        → IsSilent (Whole line) → ((turn ≡ turns.Quit) ↔ IsQuit (Whole line)) → AnswersLine g sink (Whole line) terminal terminal turn
    silent_line only apart reads goes silent quit =
        let none = apart-only only apart in
        answers-silent {g = g} only_now {line = Whole line} goes quit (may-silent g (shared_in terminal) (session_of line) (Whole line) none silent)
        (unasked only reads) (λ state. step-silent (session_of line) state (Whole line) none silent)

    -- a line of blanks
    pub answers-blank : SpellsOnly line commands.Blank → AnswersLine g sink (Whole line) terminal terminal turns.Go
    answers-blank only = silent_line only blank-apart (λ asks. asks) (λ e. cc) (inl only.spelled)
        ((λ e. cc), λ h. absurd (blank-not_quit (only.only commands.Quit h)))

    -- the end of the run
    pub answers-quit : SpellsOnly line commands.Quit → AnswersLine g sink (Whole line) terminal terminal turns.Quit
    answers-quit only = silent_line only quit-apart (λ asks. asks) (λ e. cc) (inr only.spelled) ((λ e. only.spelled), λ h. refl)

  module _ {session : SessionView D} {held : Snapshots} {before after : K} {turn : Turn} where
    -- the line is too long
    pub answers-long : Gives sink (prefixed_text [] (Refused refusals.LongLine)) before after turn
        → AnswersLine g sink Long (record { session = session; held = held; output = before }) (record { session = session; held = held; output = after }) turn
    answers-long gives =
        answers-unchanged {g = g} only_now {line = Long} (Refused refusals.LongLine) refl gives (λ quit. quit)
        (may-unanswered g (record { session = session; held = held }) 0 Long (Refused refusals.LongLine) long-apart
        (inl (refusals.LongLine, refl, inl (refl, refl))))
        (judges-none g (record { session = session; held = held }) Long (Refused refusals.LongLine) (λ asks. asks.1))
        (λ known state at. step-refused 0 refl state Long long-apart refusals.LongLine (long-refused state.writer))
      where
        long-apart : ¬ AsksForSnapshot Long
        long-apart (inl h) = h
        long-apart (inr h) = h

    module _ (line : List ℕ) (fault : LineFault) (none : fault ≢ faults.Memory → (command : Command) → ¬ Spells line command)
        (memory : fault ≡ faults.Memory → (command : Command) → NeedsNoMemory command → ¬ Spells line command) where
      -- the line spells no command
      pub fault-with : (fault ≢ faults.Memory → IsLeftmostFault line fault)
          → Gives sink (prefixed_text (prefix_in (Whole line)) (reply_of (told_of fault))) before after turn
          → AnswersWith g sink (Whole line) (record { session = session; held = held; output = before })
          (record { session = session; held = held; output = after }) turn (reply_of (told_of fault))
      fault-with leftmost gives = by (refusal_of fault) refl gives
        where
          by : (told : Option Refusal) → refusal_of fault ≡ told → Gives sink (prefixed_text (prefix_in (Whole line)) (reply_of (told_by told)))
              before after turn
              → AnswersWith g sink (Whole line) (record { session = session; held = held; output = before })
              (record { session = session; held = held; output = after }) turn (reply_of (told_by told))
          by None is given =
              let lacks = lacks-memory line (memory (memory-only fault is)) in
              let apart = fault-apart line (spells-none line fault none memory) in
              unchanged-with {g = g} only_now {line = Whole line} (Faulted [] NoMemory) refl given (spells-none line fault none memory commands.Quit tt)
              (may-unanswered g (record { session = session; held = held }) (session_of line) (Whole line) (Faulted [] NoMemory) apart (inr (refl, lacks)))
              (judges-memory g (record { session = session; held = held }) (Whole line))
              (λ known state at. step-memory (session_of line) state (Whole line) apart lacks)
          by (Some why) is given =
              let first = leftmost (refused-other fault why is) in
              let apart = fault-apart line (spells-none line fault none memory) in
              unchanged-with {g = g} only_now {line = Whole line} (Refused why) refl given (spells-none line fault none memory commands.Quit tt)
              (may-unanswered g (record { session = session; held = held }) (session_of line) (Whole line) (Refused why) apart
              (inl (why, refl, inr (line, refl, fault, first, is))))
              (judges-none g (record { session = session; held = held }) (Whole line) (Refused why) (λ asks. none (refused-other fault why is) asks.0 asks.1))
              (λ known state at. step-fault (session_of line) state line apart fault why first is)
