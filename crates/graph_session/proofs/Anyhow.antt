-- What a line does over any disk.
use Rattle.std.proofs.Common.{◌≡◌, ◌∙◌, ◌+◌, ℕ, zero, suc, List, length, ap, inl, inr, refl, sym, subst, arith}
use Rattle.fault_count.specs.Cause.{Rose}
use Rattle.disk_model.specs.declared.disk.Disk.{Ghosts}
use Rattle.stream_io.specs.Lines.{InputLine, Whole}
use Rattle.plain_graph.specs.Changes.{IsChange, start_weight}
use Rattle.plain_graph.specs.Kinds.{AreChanges, AreQuestions, Blanks, Bound, Change, Ending, Kind, Question, Sight, Upkeep}
use Rattle.plain_graph.specs.Lines.{IsQuestion, kind_of}
use Rattle.plain_graph.specs.Reply.{Reply}
use Rattle.plain_graph.specs.declared.command.Command.{Command}
use Rattle.plain_graph.specs.declared.command.Command.TheVariants as commands
use Rattle.rec_bytes.specs.Pairs.{Pairs}
use Rattle.rec_bytes.specs.declared.damage.Damage.{Damage}
use Rattle.rec_bytes.specs.declared.fault.Fault.TheVariants as faults
use Rattle.graph_session.specs.Answering.{reply_of}
use Rattle.graph_session.specs.ChangeDamage.{IsSeenDamage}
use Rattle.graph_session.specs.Console.{HasNoDraft, SessionView}
use Rattle.graph_session.specs.Drafting.{BlamesSeen, IsStopped}
use Rattle.graph_session.specs.Effects.{Stays}
use Rattle.graph_session.specs.MayStep.{HasFailedChange, IsServed, MayAnswer, MayAnswerKind, MayBound, MayChange, MayKeep, MayRead, MayStep, TellsMade}
use Rattle.graph_session.specs.ReaderAnswers.{AsksQuestion, IsWrittenBy, MayEnd, MayServeReader, MayStepAs}
use Rattle.graph_session.specs.Refusals.{SpellsOnly}
use Rattle.graph_session.specs.Session.{view}
use Rattle.graph_session.specs.State.{SpellsLine}
use Rattle.graph_session.specs.SharedExchange.{AsksForSnapshot}
use Rattle.graph_session.specs.SnapshotEffects.{KeepsBound, KeepsFor, KeepsKind, KeepsOlds, SharedView}
use Rattle.graph_session.specs.declared.answer.Answer.{Answer}
use Rattle.graph_session.specs.declared.answer.Answer.TheVariants as answers
use Rattle.graph_session.specs.declared.session.Session.{Session}
use Rattle.graph_session.proofs.Answering.{IsGood}

-- a change that is made is told so
pub made-good : (command : Command) (reply : Reply) → TellsMade command reply → IsGood reply
made-good (commands.Node label pairs) reply tells = subst IsGood (sym tells.1) tt
made-good (commands.Edge from label to pairs) reply tells = subst IsGood (sym tells.1) tt
made-good (commands.Set target key value) reply tells = subst IsGood (sym tells) tt
made-good (commands.Unset target key) reply tells = subst IsGood (sym tells) tt
made-good (commands.Delete target) reply tells = subst IsGood (sym tells) tt
made-good (commands.Index label key) reply tells = subst IsGood (sym tells) tt
made-good (commands.Mutate reading mutation) reply tells = subst IsGood (sym tells.1) tt
made-good _ reply tells = absurd tells

module _ {D : Type 0} (g : Ghosts D) (old : SessionView D) (reply : Reply) (new : SessionView D) where
  -- what is said of a change by its kind
  pub may-change : (command : Command) → IsChange command → MayChange g old reply new command → MayAnswer g command old reply new
  may-change command change may = by (kind_of command) change
    where
      by : (kind : Kind) → AreChanges kind → MayAnswerKind g old reply new kind command
      by Blanks is = absurd is
      by Ending is = absurd is
      by Bound is = absurd is
      by Upkeep is = absurd is
      by Sight is = absurd is
      by Change is = may
      by Question is = absurd is

  -- and of what reads
  pub may-read : (command : Command) → IsQuestion command → MayRead g old reply new command → MayAnswer g command old reply new
  may-read command asks may = by (kind_of command) asks
    where
      by : (kind : Kind) → AreQuestions kind → MayAnswerKind g old reply new kind command
      by Blanks is = absurd is
      by Ending is = absurd is
      by Bound is = absurd is
      by Upkeep is = absurd is
      by Sight is = absurd is
      by Change is = absurd is
      by Question is = may

module _ {D : Type 0} {g : Ghosts D} {old new : SessionView D} (command : Command) (base : Session D g) (now : D) where
  -- no change was drafted
  pub may-stopped : (why : Answer) → IsStopped command base now why → (¬ (why ≡ answers.Fault faults.Disk) → Stays g old new)
      → (why ≡ answers.Fault faults.Disk → Rose (g.faults base.store.base.disk.now) (g.faults now)
      → Rose (g.faults old.disk) (g.faults new.disk) × HasFailedChange g old new)
      → BlamesSeen command base why → HasNoDraft (view base)
      → ((damage : Damage) → IsSeenDamage command (view base).console damage → IsSeenDamage command old.console damage)
      → MayChange g old (reply_of why) new command
  may-stopped answers.Done stopped stays fault blames none seen = absurd stopped
  may-stopped (answers.NodeMade id) stopped stays fault blames none seen = absurd stopped
  may-stopped (answers.EdgeMade id) stopped stays fault blames none seen = absurd stopped
  may-stopped (answers.Results results) stopped stays fault blames none seen = absurd stopped
  may-stopped (answers.Refused why) stopped stays fault blames none seen = inr (inl ((why, refl), stays (λ e. cc)))
  may-stopped (answers.Fault faults.Memory) stopped stays fault blames none seen = inr (inr (inl (refl, stays (λ e. cc))))
  may-stopped (answers.Fault faults.Disk) stopped stays fault blames none seen =
      let failed = fault refl stopped in inr (inr (inr (inr ((refl, failed.0), failed.1))))
  may-stopped (answers.Fault (faults.Damaged damage)) stopped stays fault blames none seen =
      inr (inr (inr (inl ((damage, refl, λ told. seen damage (blames told none)), stays (λ e. cc)))))

module _ {D : Type 0} {g : Ghosts D} {line : List ℕ} {command : Command} (only : SpellsOnly line command) {old new : SessionView D} {reply : Reply} where
  -- the line spells a command that is served
  pub may-served : IsServed old.console command → MayAnswer g command old reply new → MayStep g (Whole line) old reply new
  may-served served may = inr (inr (command, only.spelled, served, may))

-- a session without a draft has none after a line
kept_none : {D : Type 0} (old new : SessionView D) → HasNoDraft old → new ≡ old → HasNoDraft new
kept_none {D = D} old new none same = ap (λ (s : SessionView D). s.console.draft) same ∙ none

module _ {D : Type 0} (g : Ghosts D) (old : SessionView D) (reply : Reply) (new : SessionView D) (none : HasNoDraft old) where
  change_none : (command : Command) → MayChange g old reply new command → HasNoDraft new
  change_none command (inl (tells, inl made, left)) = made.2.beneath.no_draft
  change_none command (inl (tells, inr made, left)) = made.3.ends.no_draft
  change_none command (inr (inl (is, stays))) = stays.beneath.no_draft
  change_none command (inr (inr (inl (is, stays)))) = stays.beneath.no_draft
  change_none command (inr (inr (inr (inl (is, stays))))) = stays.beneath.no_draft
  change_none command (inr (inr (inr (inr (is, inl stays))))) = stays.1.beneath.no_draft
  change_none command (inr (inr (inr (inr (is, inr (closed, inl fails)))))) = fails.ends.no_draft
  change_none command (inr (inr (inr (inr (is, inr (closed, inr (inl fails))))))) = fails.ends.no_draft
  change_none command (inr (inr (inr (inr (is, inr (closed, inr (inr doubts))))))) = doubts.2.ends.no_draft

  bound_none : (command : Command) → MayBound g old reply new command → HasNoDraft new
  bound_none commands.Begin (inl refused) = kept_none old new none refused.2
  bound_none commands.Begin (inr done) = done.2.beneath.no_draft
  bound_none commands.Commit (inl refused) = kept_none old new none refused.2
  bound_none commands.Commit (inr (opened, leaves, idle, inl done)) = done.1.ends.no_draft
  bound_none commands.Commit (inr (opened, leaves, idle, inr (fault, inl fails))) = fails.ends.no_draft
  bound_none commands.Commit (inr (opened, leaves, idle, inr (fault, inr left))) = left.ends.no_draft
  bound_none commands.Rollback (inl refused) = kept_none old new none refused.2
  bound_none commands.Rollback (inr done) = done.2.beneath.no_draft
  bound_none _ may = absurd may

  keep_none : (command : Command) → MayKeep g old reply new command → HasNoDraft new
  keep_none commands.Checkpoint (inl refused) = kept_none old new none refused.2
  keep_none commands.Checkpoint (inr (closed, leaves, inl done)) = done.1.ends.no_draft
  keep_none commands.Checkpoint (inr (closed, leaves, inr failed)) = failed.1.ends.no_draft
  keep_none commands.Reopen (inl refused) = kept_none old new none refused.2
  keep_none commands.Reopen (inr (closed, leaves, inl done)) = done.1.ends.no_draft
  keep_none commands.Reopen (inr (closed, leaves, inr (inl failed))) = failed.1.ends.no_draft
  keep_none commands.Reopen (inr (closed, leaves, inr (inr damaged))) = damaged.2.ends.no_draft
  keep_none _ may = absurd may

  answer_none : (kind : Kind) (command : Command) → MayAnswerKind g old reply new kind command → HasNoDraft new
  answer_none Blanks command may = absurd may
  answer_none Ending command may = absurd may
  answer_none Bound command may = bound_none command may
  answer_none Upkeep command may = keep_none command may
  answer_none Sight command may = absurd may
  answer_none Change command may = change_none command may
  answer_none Question command may = may.2.beneath.no_draft

  pub may-no_draft : (line : InputLine) → MayStep g line old reply new → HasNoDraft new
  may-no_draft line (inl silent) = kept_none old new none silent.2
  may-no_draft line (inr (inl away)) = kept_none old new none away.1
  may-no_draft line (inr (inr may)) = answer_none (kind_of may.0) may.0 may.3

-- ---- by the session

module _ {D : Type 0} {g : Ghosts D} {reply : Reply} (old new : SharedView D) where
  -- snapshots end only by a line that ends a transaction
  pub keeps-end : {line : List ℕ} {command : Command} → SpellsOnly line command → KeepsOlds g command old reply new → MayEnd g old reply new (Whole line)
  keeps-end {line = line} {command = command} only keeps = by (kind_of command) refl keeps.held
    where
      -- a line of another kind asks no question
      unasked : ¬ IsQuestion command → ¬ AsksQuestion (Whole line)
      unasked none (c, spelled, asks) = none (subst IsQuestion (only.only c spelled) asks)

      kept : ¬ IsQuestion command → (written : Pairs) → IsWrittenBy g old reply new (Whole line) written → KeepsFor g old reply new written
          → MayEnd g old reply new (Whole line)
      kept none written by done = inr (done.ends, unasked none, written, by, done.ended, done.held (length written) (omega arith))

      bound : (c : Command) → command ≡ c → ¬ IsQuestion command → KeepsBound g old reply new c → MayEnd g old reply new (Whole line)
      bound commands.Commit is none (inl (same, closed)) = inl same
      bound commands.Commit is none (inr (opened, done)) =
          kept none old.session.console.written (inl (subst (λ (c : Command). SpellsLine (Whole line) c) is only.spelled, opened, refl)) done
      bound c is none same = inl same

      -- a change is no commit
      uncommitted : kind_of command ≡ Change → ¬ SpellsLine (Whole line) commands.Commit
      uncommitted change spelled = let clash : Bound ≡ Change = ap kind_of (only.only commands.Commit spelled) ∙ change in cc

      by : (kind : Kind) → kind_of command ≡ kind → KeepsKind g old reply new kind command → MayEnd g old reply new (Whole line)
      by Blanks is same = inl same
      by Ending is same = inl same
      by Bound is done = bound command refl (λ asks. subst AreQuestions is asks) done
      by Upkeep is same = inl same
      by Sight is same = inl same
      by Change is (inl (same, none)) = inl same
      by Change is (inr (closed, written, writes, committed, done)) =
          kept (λ asks. subst AreQuestions is asks) written
          (inr (uncommitted is, closed, start_weight + writes.more, writes.weighed, writes.light, writes.changed, committed)) done
      by Question is same = inl same

  -- a line of the session that writes, which asks for no snapshot
  pub may-write : {line : InputLine} (session : ℕ) → session ≡ 0 → ¬ AsksForSnapshot line → MayStep g line old.session reply new.session
      → MayEnd g old reply new line → MayStepAs g session line old reply new
  may-write {line = line} session writes apart may ends = subst (λ (n : ℕ). MayStepAs g n line old reply new) (sym writes) (inr (apart, may, ends))

shared_none : {D : Type 0} (old new : SharedView D) → HasNoDraft old.session → new ≡ old → HasNoDraft new.session
shared_none {D = D} old new none same = kept_none old.session new.session none (ap (λ (v : SharedView D). v.session) same)

module _ {D : Type 0} (g : Ghosts D) (old : SharedView D) (reply : Reply) (new : SharedView D) (none : HasNoDraft old.session) where
  serve-none : (reader : ℕ) (command : Command) → MayServeReader g reader old reply new command → HasNoDraft new.session
  serve-none reader command (inl (is, inl taken)) = kept_none old.session new.session none taken.2
  serve-none reader command (inl (is, inr lacks)) = shared_none old new none lacks.1
  serve-none reader command (inr (inl (is, released))) = kept_none old.session new.session none released.3
  serve-none reader command (inr (inr (asks, read))) = read.3.beneath.no_draft

  -- no session's line leaves a draft
  pub as-no_draft : (session : ℕ) (line : InputLine) → MayStepAs g session line old reply new → HasNoDraft new.session
  as-no_draft zero line (inl asks) = shared_none old new none asks.2
  as-no_draft zero line (inr (apart, may, ends)) = may-no_draft g old.session reply new.session none line may
  as-no_draft (suc reader) line (inl silent) = shared_none old new none silent.2
  as-no_draft (suc reader) line (inr (inl away)) = shared_none old new none away.1
  as-no_draft (suc reader) line (inr (inr (command, spelled, inl (why, refuses, is, same)))) = shared_none old new none same
  as-no_draft (suc reader) line (inr (inr (command, spelled, inr (serves, may)))) = serve-none (suc reader) command may
