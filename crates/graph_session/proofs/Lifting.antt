-- A reply to a line that reads, as the line of a session.
use Rattle.std.proofs.Common.{◌≡◌, ◌≢◌, ◌∙◌, ⊎_elim, ℕ, List, [], inl, inr, refl, sym, ap, subst, arith}
use Rattle.std.proofs.lemmas.List.{append-nil}
use Rattle.fault_count.specs.Cause.{Rose}
use Rattle.disk_model.specs.declared.disk.Disk.{Ghosts as DiskGhosts}
use Rattle.stream_io.specs.Lines.{Whole}
use Rattle.stream_io.specs.declared.streams.Sink.{Ghosts as SinkGhosts}
use Rattle.plain_graph.specs.Graph.{Graph}
use Rattle.plain_graph.specs.Kinds.{AreQuestions, Blanks, Bound, Change, Ending, Kind, Question, Sight, Upkeep}
use Rattle.plain_graph.specs.Lines.{IsQuestion, kind_of}
use Rattle.plain_graph.specs.Reply.{DamagedRecord, DiskFailed, Done, EdgeMade, Faulted, NoMemory, NodeMade, PastCount, Refused, Reply, Silent, Told}
use Rattle.plain_graph.specs.declared.command.Command.{Command}
use Rattle.rec_bytes.specs.declared.shape.Shape.{Shape}
use Rattle.rec_bytes.specs.declared.space.Reads.{Ghosts as SpaceGhosts}
use Rattle.store_rules.specs.Graph.{graph_of, names_of}
use Rattle.store_rules.specs.Indexes.{IsIndexed}
use Rattle.store_rules.specs.Views.{Records}
use Rattle.graph_session.specs.Answer.{Settles}
use Rattle.graph_session.specs.Console.{IsAt, SessionView}
use Rattle.graph_session.specs.DiskUse.{UsesDisk}
use Rattle.graph_session.specs.Effects.{Stays}
use Rattle.graph_session.specs.Exchange.{CarriesKind, CarriesOut, LeavesKind, LeavesOpen, told_fault}
use Rattle.traversal_run.specs.Reading.{IsNamedStore}
use Rattle.graph_session.specs.MayStep.{MayTell}
use Rattle.graph_session.specs.Questions.{GivesReading, Means, ShowsAll}
use Rattle.graph_session.specs.Refusals.{IsReached, SpellsOnly}
use Rattle.graph_session.specs.State.{IsSpared, State, seen}
use Rattle.graph_session.specs.declared.health.Health.TheVariants as healths
use Rattle.graph_session.specs.declared.turn.Turn.{Turn}
use Rattle.graph_session.proofs.Answering.{settles-done, settles-fault, settles-given, settles-refused}
use Rattle.graph_session.proofs.Conditions.{NeedsNone, NeedsOne, idle-accepted, reached, single-refused}
use Rattle.graph_session.proofs.DiskUse.{asks-needs, uses-reads, uses-same}
use Rattle.graph_session.proofs.Held.{held, names-working}
use Rattle.graph_session.proofs.Spelling.{asks-unchanging, spared-only}
use Rattle.graph_session.proofs.States.{not_failed}
use Rattle.graph_session.proofs.Staying.{comes-stays}

-- ---- what a line that reads is not

pub asks-none : (command : Command) → IsQuestion command → ¬ NeedsNone command
asks-none command asks (inl e) = subst IsQuestion e asks
asks-none command asks (inr (inl e)) = subst IsQuestion e asks
asks-none command asks (inr (inr e)) = subst IsQuestion e asks

pub asks-one : (command : Command) → IsQuestion command → ¬ NeedsOne command
asks-one command asks (inl e) = subst IsQuestion e asks
asks-one command asks (inr e) = subst IsQuestion e asks

-- ---- what it is told

pub carries-told : (state : State) (command : Command) → IsQuestion command → (lines : List (List ℕ)) (last : List ℕ) → ShowsAll (seen state) command lines last
    → CarriesOut state command (Told lines last) state
carries-told state command asks lines last (reading, shows, none, these, ends) = by (kind_of command) asks
  where
    by : (kind : Kind) → AreQuestions kind → CarriesKind kind state command (Told lines last) state
    by Blanks is = absurd is
    by Ending is = absurd is
    by Bound is = absurd is
    by Upkeep is = absurd is
    by Sight is = absurd is
    by Change is = absurd is
    by Question is = (reading, shows, none, (λ i. Told (these i) (ends i)), refl)

pub leaves-same : (state : State) (line : List ℕ) (command : Command) → IsQuestion command → LeavesOpen state (Whole line) command state
leaves-same state line command asks = by (kind_of command) asks
  where
    by : (kind : Kind) → AreQuestions kind → LeavesKind kind state (Whole line) command state
    by Blanks is = absurd is
    by Ending is = absurd is
    by Bound is = absurd is
    by Upkeep is = absurd is
    by Sight is = absurd is
    by Change is = absurd is
    by Question is = refl

module _ {D : Type 0} {g : DiskGhosts D} {old new : SessionView D} {state : State} (at : IsAt g old state) (live : old.console.health ≡ healths.Live)
    {line : List ℕ} {command : Command} (only : SpellsOnly line command) (asks : IsQuestion command)
    (stays : Stays g old new) (idle : IsSpared command → new ≡ old) where
  asks-reached : IsReached state (Whole line)
  asks-reached = reached state only (inl (not_failed at live)) (λ needs. absurd (asks-none command asks needs)) (λ needs. absurd (asks-one command asks needs))

  asks-uses : (reply : Reply) → UsesDisk g (Whole line) state reply old.disk new.disk
  asks-uses reply = ⊎_elim (λ needs. uses-reads state only needs asks-reached stays.beneath.disk)
      (λ spared. uses-same old.disk new.disk stays.beneath.disk (ap (λ (s : SessionView D). s.disk) (idle spared))) (asks-needs command asks)

  -- by its reply
  settles-reading : (reply : Reply) → MayTell command reply → (told_fault reply ≢ 0 → Rose (g.faults old.disk) (g.faults new.disk))
      → (g.tells_reads → Means (seen state) command reply) → Settles g (Whole line) old new state reply
  settles-reading Silent form rose means = absurd form
  settles-reading Done form rose means = absurd form
  settles-reading (NodeMade id) form rose means = absurd form
  settles-reading (EdgeMade id) form rose means = absurd form
  settles-reading (Told lines last) form rose means =
      settles-done {line = Whole line} {before = state} (Told lines last) state tt (comes-stays at stays)
      (λ told. (
        idle-accepted state only (asks-unchanging command asks) ((means told).0 state.shape.limit) asks-reached,
        command,
        only.spelled,
        carries-told state command asks lines last (means told).1,
      ))
      (asks-uses (Told lines last))
  settles-reading (Faulted lines PastCount) form rose means =
      settles-given {line = Whole line} {before = state} (Faulted lines PastCount) state (comes-stays at stays) refl
      (λ told. (asks-reached, command, only.spelled, means told, refl)) (asks-uses (Faulted lines PastCount))
  settles-reading (Faulted lines NoMemory) form rose means =
      settles-given {line = Whole line} {before = state} (Faulted lines NoMemory) state (comes-stays at stays) refl
      (λ told. ((λ spared. form.0 (spared-only only spared)), refl, inr (command, only.spelled, asks-reached, means told)))
      (asks-uses (Faulted lines NoMemory))
  settles-reading (Faulted lines DiskFailed) form rose means =
      settles-fault {line = Whole line} {before = state} (Faulted lines DiskFailed) state (comes-stays at stays) (rose (λ e. absurd (omega (arith, e))))
      (λ told. (refl, asks-reached, command, only.spelled, means told, leaves-same state line command asks))
      (asks-uses (Faulted lines DiskFailed))
  settles-reading (Faulted lines (DamagedRecord file id)) form rose means =
      settles-given {line = Whole line} {before = state} (Faulted lines (DamagedRecord file id)) state (comes-stays at stays) refl (λ told. absurd (means told))
      (asks-uses (Faulted lines (DamagedRecord file id)))
  settles-reading (Refused why) form rose means =
      settles-refused {line = Whole line} at stays why (λ told. single-refused state only asks-reached why (means told state.shape.limit))
      (asks-uses (Refused why))

-- the records that a live session sees are those of a store with its indexes and its names
pub named-working : {D : Type 0} {g : DiskGhosts D} {session : SessionView D} {state : State} → IsAt g session state → session.console.health ≡ healths.Live
    → g.tells_reads
    → IsNamedStore session.console.working session.console.shape session.console.names
named-working {session = session} at live told =
    let store : IsIndexed session.console.working session.console.shape = rw (sym at.shape) (held at live told).working in
    record { store = store.store; indexes = store.indexes; more = []; named = names-working at live told ∙ sym (append-nil (names_of session.console.working)) }

module _ {D : Type 0} {g : DiskGhosts D} {session : SessionView D} {state : State} (at : IsAt g session state) (live : session.console.health ≡ healths.Live)
    (T : Type 0) (tells : g.tells_reads → T) (here : Records) (shape : Shape)
    (records : here ≡ session.console.working) (shapes : shape ≡ session.console.shape) where
  -- what is said of the graph of the records holds of the graph that the line sees
  seen-now : (P : Graph → Type 0) → (T → IsNamedStore here shape session.console.names → P (graph_of here)) → g.tells_reads → P (seen state)
  seen-now P says told =
      let store : IsNamedStore here shape session.console.names = rw (records, shapes) (named-working at live told) in
      subst P (ap graph_of records ∙ (held at live told).working_graph) (says (tells told) store)

module _ {D : Type 0} {g : DiskGhosts D} {old new : SessionView D} {state : State} (at : IsAt g old state) (live : old.console.health ≡ healths.Live)
    {line : List ℕ} {command : Command} (only : SpellsOnly line command) (asks : IsQuestion command)
    (stays : Stays g old new) where
  -- the reply that was given to a line that reads
  pub settles-asked : {R K : Type 0} {space : SpaceGhosts R} {sink : SinkGhosts K} {prefix : List ℕ} {a b : R} {before after : K} {turn : Turn}
      (given : GivesReading space sink old.console.names command prefix a b before after turn) → (g.tells_reads → space.tells)
      → (space.state a).records ≡ old.console.working → (space.state a).shape ≡ old.console.shape
      → (Rose (space.faults a) (space.faults b) → Rose (g.faults old.disk) (g.faults new.disk)) → (b ≡ a → new ≡ old)
      → Settles g (Whole line) old new state given.reply
  settles-asked {space = space} {a = a} given tells records shape rose same =
      settles-reading at live only asks stays (λ spared. same (given.idle spared)) given.reply given.form (λ blames. rose (given.told blames))
      (seen-now at live space.tells tells (space.state a).records (space.state a).shape records shape (λ found. Means found command given.reply) given.means)
