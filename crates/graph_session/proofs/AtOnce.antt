-- Lines that are answered before their command is looked at, and those that the session that writes refuses at once.
use Rattle.std.proofs.Common.{◌≡◌, ℕ, zero, suc, false, Some, List, [], inl, inr, refl, sym, subst}
use Rattle.disk_model.specs.declared.disk.Disk.{Ghosts}
use Rattle.stream_io.specs.Lines.{InputLine, Whole}
use Rattle.plain_graph.specs.Reply.{Faulted, NoMemory, Refused, Reply, Silent}
use Rattle.plain_graph.specs.declared.command.Command.{Command}
use Rattle.plain_graph.specs.declared.command.Command.TheVariants as commands
use Rattle.plain_graph.specs.declared.refusal.Refusal.{Refusal}
use Rattle.plain_graph.specs.declared.refusal.Refusal.TheVariants as refusals
use Rattle.gremlin_parse.specs.Lines.{IsLeftmostFault}
use Rattle.gremlin_parse.specs.declared.line_fault.LineFault.{LineFault}
use Rattle.graph_session.specs.Exchange.{ConsoleStep}
use Rattle.graph_session.specs.MayStep.{IsTurnedAway}
use Rattle.graph_session.specs.ReaderAnswers.{IsUnanswered, MayStepAs}
use Rattle.graph_session.specs.Refusals.{IsRefused, SpellsOnly, refusal_of}
use Rattle.graph_session.specs.SharedExchange.{AsksForSnapshot, IsOfSnapshots, WriterStep, step_of}
use Rattle.graph_session.specs.SnapshotEffects.{Confirms, SharedView}
use Rattle.graph_session.specs.Snapshots.{SharedState}
use Rattle.graph_session.specs.State.{IsSilent, NeverLacksMemory, SpellsLine}
use Rattle.graph_session.proofs.Answering.{exchange}
use Rattle.graph_session.proofs.Conditions.{fault-refused, whole}
use Rattle.graph_session.proofs.Spelling.{spells-same}

module _ {line : List ℕ} {command : Command} (only : SpellsOnly line command) where
  -- the line spells a command that is none about snapshots
  pub apart-only : ¬ IsOfSnapshots command → ¬ AsksForSnapshot (Whole line)
  apart-only apart (inl h) = apart (inl (spells-same only commands.Snapshot h))
  apart-only apart (inr h) = apart (inr (spells-same only commands.Release h))

  -- or one that is
  pub asks-only : IsOfSnapshots command → AsksForSnapshot (Whole line)
  asks-only (inl e) = inl (subst (λ (c : Command). SpellsLine (Whole line) c) e only.spelled)
  asks-only (inr e) = inr (subst (λ (c : Command). SpellsLine (Whole line) c) e only.spelled)

-- ---- the step of the console of all sessions

-- a step that changes nothing and confirms nothing keeps the readers as they are
still : (state : SharedState) (line : InputLine) (reply : Reply) → ¬ AsksForSnapshot line → ¬ Confirms reply
    → ConsoleStep state.writer (exchange line false reply) state.writer → WriterStep state (exchange line false reply) state
still state line reply apart unconfirmed step = inr (apart, (step, inr ((λ weight ends. unconfirmed), refl)))

-- no reply
pub step-silent : (session : ℕ) (state : SharedState) (line : InputLine) → ¬ AsksForSnapshot line → IsSilent line
    → step_of session state (exchange line false Silent) state
step-silent zero state line apart silent = still state line Silent apart (λ confirms. confirms) (silent, refl)
step-silent (suc reader) state line apart silent = (silent, refl)

-- a fault of the grammar
pub step-fault : (session : ℕ) (state : SharedState) (line : List ℕ) → ¬ AsksForSnapshot (Whole line) → (fault : LineFault) (why : Refusal)
    → IsLeftmostFault line fault → refusal_of fault ≡ Some why
    → step_of session state (exchange (Whole line) false (Refused why)) state
step-fault zero state line apart fault why leftmost is = still state (Whole line) (Refused why) apart (λ confirms. confirms)
    (fault-refused state.writer line fault why leftmost is, refl)
step-fault (suc reader) state line apart fault why leftmost is = (inr (whole state.writer line, inl (line, refl, fault, leftmost, is)), refl)

-- want of memory
pub step-memory : (session : ℕ) (state : SharedState) (line : InputLine) → ¬ AsksForSnapshot line → ¬ NeverLacksMemory line
    → step_of session state (exchange line false (Faulted [] NoMemory)) state
step-memory zero state line apart lacks = still state line (Faulted [] NoMemory) apart (λ confirms. confirms) (lacks, refl, inl refl)
step-memory (suc reader) state line apart lacks = (inl (lacks, refl), refl)

-- a refusal of the session that writes
pub step-refused : (session : ℕ) → session ≡ 0 → (state : SharedState) (line : InputLine) → ¬ AsksForSnapshot line → (why : Refusal)
    → IsRefused state.writer line why → step_of session state (exchange line false (Refused why)) state
step-refused session writes state line apart why is =
    subst (λ (n : ℕ). step_of n state (exchange line false (Refused why)) state) (sym writes)
    (still state line (Refused why) apart (λ confirms. confirms) (is, refl))

-- it takes no snapshot
pub step-writer : (session : ℕ) → session ≡ 0 → (state : SharedState) (line : InputLine) → AsksForSnapshot line
    → step_of session state (exchange line false (Refused refusals.Writer)) state
step-writer session writes state line asks = subst (λ (n : ℕ). step_of n state (exchange line false (Refused refusals.Writer)) state) (sym writes)
    (inl (asks, refl, refl))

-- ---- over any disk

turned-away : {line : InputLine} {reply : Reply} {D : Type 0} (view : SharedView D) → IsUnanswered line reply → IsTurnedAway line view.session.console reply
turned-away view (inl unread) = inl unread
turned-away view (inr lacks) = inr (inl lacks)

module _ {D : Type 0} (g : Ghosts D) (view : SharedView D) where
  pub may-silent : (session : ℕ) (line : InputLine) → ¬ AsksForSnapshot line → IsSilent line → MayStepAs g session line view Silent view
  may-silent zero line apart silent = inr (apart, inl (silent, refl, refl), inl refl)
  may-silent (suc reader) line apart silent = inl (silent, refl, refl)

  pub may-unanswered : (session : ℕ) (line : InputLine) (reply : Reply) → ¬ AsksForSnapshot line → IsUnanswered line reply
      → MayStepAs g session line view reply view
  may-unanswered zero line reply apart none = inr (apart, inr (inl (turned-away view none, refl)), inl refl)
  may-unanswered (suc reader) line reply apart none = inr (inl (none, refl))

  pub may-turn_away : (session : ℕ) → session ≡ 0 → (line : InputLine) (reply : Reply) → ¬ AsksForSnapshot line → IsTurnedAway line view.session.console reply
      → MayStepAs g session line view reply view
  may-turn_away session writes line reply apart away = subst (λ (n : ℕ). MayStepAs g n line view reply view) (sym writes)
      (inr (apart, inr (inl (away, refl)), inl refl))

  pub may-writer : (session : ℕ) → session ≡ 0 → (line : InputLine) → AsksForSnapshot line → MayStepAs g session line view (Refused refusals.Writer) view
  may-writer session writes line asks = subst (λ (n : ℕ). MayStepAs g n line view (Refused refusals.Writer) view) (sym writes) (inl (asks, refl, refl))
