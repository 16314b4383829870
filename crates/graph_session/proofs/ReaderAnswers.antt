-- A line of a session that reads is answered.
use Rattle.std.proofs.Common.{◌≡◌, ◌∙◌, ℕ, zero, suc, Bool, true, List, inl, inr, refl, sym, ap, subst, arith}
use Rattle.disk_model.specs.Spans.{OnlyReads}
use Rattle.disk_model.specs.declared.disk.Disk.{Ghosts as DiskGhosts}
use Rattle.disk_model.proofs.Spans.{OnlyNow, only_reads_none}
use Rattle.stream_io.specs.Lines.{Whole}
use Rattle.stream_io.specs.declared.streams.Sink.{Ghosts as SinkGhosts}
use Rattle.plain_graph.specs.Lines.{IsQuestion, kind_of}
use Rattle.plain_graph.specs.Reply.{Refused, Reply, prefixed_text}
use Rattle.plain_graph.specs.declared.command.Command.{Command}
use Rattle.plain_graph.specs.declared.command.Command.TheVariants as commands
use Rattle.plain_graph.specs.declared.refusal.Refusal.{Refusal}
use Rattle.gremlin_parse.specs.Tags.{session_of}
use Rattle.snap_store.specs.Layers.{SameSights, is_open, sees}
use Rattle.snap_store.specs.Snaps.{IsReader, state_of}
use Rattle.snap_store.specs.declared.snap_state.SnapState.TheVariants as states
use Rattle.store_rules.specs.Views.{Records}
use Rattle.graph_session.specs.Answer.{AnswersLine, Delivers, Gives, Terminal, shared_in}
use Rattle.graph_session.specs.Console.{HasNoDraft, Onward, SessionView}
use Rattle.graph_session.specs.Effects.{Stays}
use Rattle.graph_session.specs.Known.{as_known}
use Rattle.graph_session.specs.ReaderAnswers.{MayRelease, MaySnap, MayStepAs, MayStepReader, RefusesReader, ServesReader}
use Rattle.graph_session.specs.ReaderStep.{ReaderStep}
use Rattle.graph_session.specs.Settling.{IsLoud, IsParsed}
use Rattle.graph_session.specs.SharedAnswer.{SettlesLine, SettlesShared, UsesAs}
use Rattle.graph_session.specs.SharedConsole.{IsSharedAt}
use Rattle.graph_session.specs.SharedExchange.{step_of}
use Rattle.graph_session.specs.SightReading.{GivesSight, counts}
use Rattle.graph_session.specs.SnapshotEffects.{SharedView}
use Rattle.graph_session.specs.Snapshots.{SharedState}
use Rattle.graph_session.specs.State.{IsSpared}
use Rattle.graph_session.specs.Verdicts.{Judges, SeesRecords}
use Rattle.graph_session.specs.declared.health.Health.TheVariants as healths
use Rattle.graph_session.specs.declared.turn.Turn.{Turn}
use Rattle.graph_session.proofs.Answering.{exchange, onward-none}
use Rattle.graph_session.proofs.Jobs.{asks-read}
use Rattle.graph_session.proofs.Judged.{JudgesCommand, judges-parsed}
use Rattle.graph_session.proofs.Knowing.{reads-known}
use Rattle.graph_session.proofs.ReaderLines.{settles-asks, settles-refuses, settles-release, settles-snapshot}
use Rattle.graph_session.proofs.ReaderRefusals.{opened-state, suits-snapshot}
use Rattle.graph_session.proofs.Spelling.{quit-only}

-- a line of a session that reads is a line of all sessions
settles-line : {D : Type 0} {g : DiskGhosts D} {line : List ℕ} (reader : ℕ) → IsReader reader → session_of line ≡ reader
    → {old new : SharedView D} {state : SharedState} {reply : Reply}
    → SettlesShared (ReaderStep reader) g (Whole line) old new state reply → OnlyReads g old.session.disk new.session.disk
    → SettlesLine g (Whole line) old new state reply
settles-line zero seven is settles reads = absurd (omega (arith, seven.first))
settles-line {g = g} {line = line} (suc one) seven is {old = old} {new = new} {state = state} {reply = reply} settles reads = record {
  shared = record {
    after = settles.after;
    arrives = settles.arrives;
    disk_failed = settles.disk_failed;
    counted = settles.counted;
    step = λ told. subst (λ (s : ℕ). step_of s state (exchange (Whole line) settles.disk_failed reply) settles.after) (sym is) (settles.step told);
    blames = settles.blames;
  };
  uses = subst (λ (s : ℕ). UsesAs g s (Whole line) state reply old.session.disk new.session.disk) (sym is) reads;
}

may-reader : {D : Type 0} {g : DiskGhosts D} {line : List ℕ} {session : ℕ} (reader : ℕ) → IsReader reader → session ≡ reader
    → {old new : SharedView D} {reply : Reply}
    → MayStepReader g reader old reply new (Whole line) → MayStepAs g session (Whole line) old reply new
may-reader zero seven is may = absurd (omega (arith, seven.first))
may-reader {g = g} {line = line} (suc one) seven is {old = old} {new = new} {reply = reply} may =
    subst (λ (s : ℕ). MayStepAs g s (Whole line) old reply new) (sym is) may

-- the records that a reader sees are those of its open snapshot
seen-through : {D : Type 0} (view : SharedView D) (reader : ℕ) → IsReader reader → (records : Records) → SeesRecords view reader records
    → (is_open reader view.held.open_ones ≡ true) × (records ≡ sees view.held.open_ones reader view.session.console.committed)
seen-through view zero seven records seen = absurd (omega (arith, seven.first))
seen-through view (suc one) seven records seen = seen

-- a question is not refused before a snapshot is looked at, where one is open
question-served : {D : Type 0} (view : SharedView D) {reader : ℕ} → IsReader reader → {command : Command} → IsQuestion command → (records : Records)
    → SeesRecords view reader records → view.session.console.health ≡ healths.Live → (why : Refusal)
    → ¬ RefusesReader reader view command why
question-served view seven {command = command} asks records seen live why (inl (other, told)) = other (asks-read (kind_of command) asks)
question-served view seven asks records seen live why (inr (reads, inl (failed, told))) = let clash : healths.Failed ≡ healths.Live = sym failed ∙ live in cc
question-served view seven asks records seen live why (inr (reads, inr (alive, inl (snaps, opened, told)))) = subst IsQuestion snaps asks
question-served view {reader = reader} seven asks records seen live why (inr (reads, inr (alive, inr (inl (other, absent, told))))) =
    let clash : states.Open ≡ states.Absent = sym (opened-state view.held reader (seen-through view reader seven records seen).0) ∙ absent in cc
question-served view {reader = reader} seven asks records seen live why (inr (reads, inr (alive, inr (inr (other, keeps, ended, told))))) =
    let clash : states.Open ≡ states.Ended = sym (opened-state view.held reader (seen-through view reader seven records seen).0) ∙ ended in cc

module _ {D K : Type 0} {g : DiskGhosts D} {sink : SinkGhosts K} {reader : ℕ} (seven : IsReader reader) {line : List ℕ} {command : Command} {prefix : List ℕ}
    (parsed : IsParsed line reader command prefix) (loud : IsLoud command)
    {old new : Terminal D K} {turn : Turn} where
  -- its reply was given to the sink
  answers-reader : (reply : Reply) → Gives sink (prefixed_text prefix reply) old.output new.output turn → OnlyReads g old.session.disk new.session.disk
      → Onward g old.session new.session
      → (HasNoDraft old.session → MayStepReader g reader (shared_in old) reply (shared_in new) (Whole line))
      → JudgesCommand g reader command (shared_in old) reply
      → ((known : Bool) (state : SharedState) → IsSharedAt (as_known known g) (shared_in old) state
      → SettlesShared (ReaderStep reader) (as_known known g) (Whole line) (shared_in old) (shared_in new) state reply)
      → AnswersLine g sink (Whole line) old new turn
  answers-reader reply gives reads onward may judges settles = record {
    reply = reply;
    text = λ told. subst (λ (m : List ℕ). Delivers turn (sink.taken old.output) (sink.taken new.output) (prefixed_text m reply)) (sym parsed.prefix_is)
        (gives.delivers told);
    quit = (λ e. absurd (gives.goes e), λ h. absurd (quit-only parsed.only (λ is. subst IsLoud is loud tt) h));
    may = λ none. may-reader reader seven parsed.session_is (may none);
    judges = judges-parsed g (shared_in old) parsed reply judges;
    settles = λ known state at. settles-line {g = as_known known g} reader seven parsed.session_is (settles known state at) (reads-known known reads);
    cause = gives.cause;
    later = gives.later;
    onward = onward;
  }

module _ {D K : Type 0} where
  -- all sessions, with the sink of their replies
  abbrev pub terminal : SharedView D → K → Terminal D K
  terminal view output = record { session = view.session; held = view.held; output = output }

  module _ (g : DiskGhosts D) (only_now : OnlyNow g) (sink : SinkGhosts K) {reader : ℕ} (seven : IsReader reader) {line : List ℕ} {command : Command}
      {prefix : List ℕ} (parsed : IsParsed line reader command prefix) (loud : IsLoud command)
      {before after : K} {turn : Turn} where
    -- a line that is refused before a snapshot is looked at
    pub answers-refuses : (view : SharedView D) (why : Refusal) → RefusesReader reader view command why
        → Gives sink (prefixed_text prefix (Refused why)) before after turn → AnswersLine g sink (Whole line) (terminal view before) (terminal view after) turn
    answers-refuses view why refuses gives =
        answers-reader seven parsed loud {old = terminal view before} {new = terminal view after} (Refused why) gives
        (only_reads_none g view.session.disk only_now) (onward-none only_now)
        (λ none. inr (inr (command, parsed.only.spelled, inl (why, refuses, refl, refl))))
        (λ told live asks records seen. absurd (question-served view {reader = reader} seven {command = command} asks records seen live why refuses))
        (λ known state at. settles-refuses (as_known known g) only_now reader parsed.only at loud why refuses)

    -- a line that makes no call of the disk
    module _ (old new : SharedView D) (served : ServesReader reader old command) (reply : Reply)
        (gives : Gives sink (prefixed_text prefix reply) before after turn)
      where
        uncalled : new.session ≡ old.session → ¬ IsQuestion command → MayStepReader g reader old reply new (Whole line)
            → ((known : Bool) (state : SharedState) → IsSharedAt (as_known known g) old state → SettlesShared (ReaderStep reader) (as_known known g)
            (Whole line) old new state reply)
            → AnswersLine g sink (Whole line) (terminal old before) (terminal new after) turn
        uncalled same unasked may settles =
            answers-reader seven parsed loud {old = terminal old before} {new = terminal new after} reply gives
            (subst (λ (session : SessionView D). OnlyReads g old.session.disk session.disk) (sym same) (only_reads_none g old.session.disk only_now))
            (subst (λ (session : SessionView D). Onward g old.session session) (sym same) (onward-none only_now)) (λ none. may)
            (λ told live asks. absurd (unasked asks)) settles

        snapped-same : MaySnap g reader old reply new → new.session ≡ old.session
        snapped-same (inl (done, held, same)) = same
        snapped-same (inr (lacks, same)) = ap (λ (view : SharedView D). view.session) same

        -- a snapshot is taken, or memory lacks
        pub answers-snapshot : command ≡ commands.Snapshot → MaySnap g reader old reply new
            → AnswersLine g sink (Whole line) (terminal old before) (terminal new after) turn
        answers-snapshot is may =
            uncalled (snapped-same may) (λ asks. subst IsQuestion is asks) (inr (inr (command, parsed.only.spelled, inr (served, inl (is, may)))))
            (λ known state at. settles-snapshot (as_known known g) only_now reader parsed.only at seven served is (suits-snapshot (state_of old.held reader)
            command served.1 is) reply new may)

        -- one is released
        pub answers-release : command ≡ commands.Release → MayRelease g reader old reply new → SameSights old.held.open_ones new.held.open_ones
            → AnswersLine g sink (Whole line) (terminal old before) (terminal new after) turn
        answers-release is may sights =
            uncalled may.3 (λ asks. subst IsQuestion is asks) (inr (inr (command, parsed.only.spelled, inr (served, inr (inl (is, may))))))
            (λ known state at. settles-release (as_known known g) only_now reader parsed.only at seven served is reply new may sights)

    -- what one shows was read
    pub answers-sight : (old new : SharedView D) → ServesReader reader old command → IsQuestion command → is_open reader old.held.open_ones ≡ true
        → new.held ≡ old.held → OnlyReads g old.session.disk new.session.disk
        → (HasNoDraft old.session → Stays g old.session new.session) → (IsSpared command → new ≡ old)
        → GivesSight g.tells_reads sink (sees old.held.open_ones reader old.session.console.committed) old.session.console.shape old.session.console.names
        command prefix (counts (g.faults old.session.disk) (g.faults new.session.disk)) before after turn
        → AnswersLine g sink (Whole line) (terminal old before) (terminal new after) turn
    answers-sight old new served asks opened same reads stays idle given =
        answers-reader seven parsed loud {old = terminal old before} {new = terminal new after} given.reply given.gives reads
        (record { disk_later = given.later })
        (λ none. inr (inr (command, parsed.only.spelled, inr (served, inr (inr (asks, (given.form, given.told, same, stays none, idle)))))))
        (λ told live _ records seen. subst (λ (found : Records). Judges found old.session.console.shape command given.reply)
        (sym (seen-through old reader seven records seen).1) (given.judges told))
        (λ known state at. settles-asks known reader parsed.only asks at served opened (stays at.writer.no_draft) same given.reply given.form given.told
        given.means)
