-- What a line leaves in the set that takes the records of its transaction.
use Rattle.std.proofs.Common.{◌≡◌, ◌≢◌, ◌∙◌, Bool, true, false, Option, None, Some, List, ℕ, Ok, Err, Result, inl, inr, refl, sym, ap, subst, true≢false}
use Rattle.disk_model.specs.declared.disk.Disk.{Ghosts as DiskGhosts}
use Rattle.stream_io.specs.Lines.{InputLine, Whole}
use Rattle.stream_io.specs.declared.streams.Sink.{Ghosts as SinkGhosts}
use Rattle.plain_graph.specs.Changes.{IsChange}
use Rattle.plain_graph.specs.Lines.{IsQuestion, kind_of}
use Rattle.plain_graph.specs.Kinds.{AreChanges, AreQuestions, Blanks, Bound, Change, Ending, Kind, Question, Sight, Upkeep}
use Rattle.plain_graph.specs.Reply.{Reply}
use Rattle.plain_graph.specs.declared.command.Command.{Command}
use Rattle.plain_graph.specs.declared.command.Command.TheVariants as commands
use Rattle.plain_graph.specs.declared.refusal.Refusal.{Refusal}
use Rattle.rec_bytes.specs.declared.shape.Shape.{Shape}
use Rattle.rec_bytes.specs.Pairs.{Held, Pairs}
use Rattle.rec_bytes.specs.Space.{laid_over}
use Rattle.gremlin_parse.specs.Lines.{Spells}
use Rattle.gremlin_parse.specs.Tags.{session_of}
use Rattle.gremlin_parse.specs.declared.line_fault.LineFault.{LineFault}
use Rattle.txn_core.specs.Shipped.{AllShip}
use Rattle.txn_core.proofs.StoreRecords.{committed-beneath, committed-read}
use Rattle.graph_session.specs.Answer.{AnswersLine, Terminal}
use Rattle.graph_session.specs.Answering.{reply_of}
use Rattle.graph_session.specs.Console.{SessionView}
use Rattle.graph_session.specs.Drafting.{BeginsChange, Drafts, DraftsChanged, OnlyDrafts}
use Rattle.graph_session.specs.Refusals.{SpellsOnly, refusal_of}
use Rattle.graph_session.specs.Session.{view}
use Rattle.graph_session.specs.Settling.{told_by, told_of}
use Rattle.graph_session.specs.SharedExchange.{IsOfSnapshots}
use Rattle.graph_session.specs.SnapshotEffects.{Confirms, WritesAlone}
use Rattle.graph_session.specs.TapEnds.{TapsAlone, TapsChange, TapsCommit}
use Rattle.graph_session.specs.Tapping.{Acknowledges, EndsOne, HasRoom, HasWritten, IsEmpty, IsTapped, Takes, Taps, TapsAnswer, TapsCommand}
use Rattle.graph_session.specs.declared.answer.Answer.{Answer}
use Rattle.graph_session.specs.declared.changing.Begun.{Begun}
use Rattle.graph_session.specs.declared.changing.Drafted.{Drafted}
use Rattle.graph_session.specs.declared.health.Health.TheVariants as healths
use Rattle.graph_session.specs.declared.session.Session.{Session}
use Rattle.graph_session.specs.declared.turn.Turn.{Turn}
use Rattle.graph_session.proofs.Answering.{AnswersWith}
use Rattle.graph_session.proofs.ChangedDrafts.{differ-just_at}
use Rattle.graph_session.proofs.KeptChanges.{made-confirmed, stopped-unconfirmed, unkept-unconfirmed, writes-alone}

-- ---- the set

pub takes-weaker : {P Q : Pairs → Type 0} (was tap : Option Held) → ((pairs : Pairs) → P pairs → Q pairs) → Takes P was tap → Takes Q was tap
takes-weaker None tap on takes = takes
takes-weaker (Some was) None on takes = absurd takes
takes-weaker (Some was) (Some set) on takes = on set.pairs takes

pub takes-then : (P Q : Pairs → Type 0) (was mid tap : Option Held) → Takes P was mid → Takes Q mid tap → Takes Q was tap
takes-then P Q None mid tap first more = subst (λ (set : Option Held). Takes Q set tap) first more
takes-then P Q (Some was) None tap first more = absurd first
takes-then P Q (Some was) (Some mid) None first more = absurd more
takes-then P Q (Some was) (Some mid) (Some set) first more = more

-- a set that was not touched is empty
pub takes-nothing : (was : Option Held) → HasRoom was → Takes IsEmpty was was
takes-nothing None room = refl
takes-nothing (Some set) room = room.0

-- ---- its records

module _ {D : Type 0} {g : DiskGhosts D} where
  -- what was written is what was committed
  pub tapped-written : (old new : SessionView D) (pairs : Pairs) → HasWritten old.console pairs → new.console.shape ≡ old.console.shape
      → (g.tells_reads → new.console.committed ≡ laid_over old.console.committed old.console.written) → IsTapped g old new pairs
  tapped-written old new pairs has shape is = record {
    few = has.few;
    rising = has.rising;
    shipped = subst (λ (s : Shape). AllShip s pairs) (sym shape) has.shipped;
    whole = has.whole;
    committed = λ told. is told ∙ ap (laid_over old.console.committed) (sym has.is);
  }

  pub tapped-from : (old mid new : SessionView D) → mid.console.committed ≡ old.console.committed → (pairs : Pairs) → IsTapped g mid new pairs
      → IsTapped g old new pairs
  tapped-from old mid new same pairs tapped = record {
    few = tapped.few;
    rising = tapped.rising;
    shipped = tapped.shipped;
    whole = tapped.whole;
    committed = λ told. tapped.committed told ∙ ap (λ (records : _). laid_over records pairs) same;
  }

pub commit-from : {D : Type 0} (g : DiskGhosts D) (old mid new : SessionView D) (written from : Pairs) (made answer : Answer) (was tap : Option Held)
    → mid.console.committed ≡ old.console.committed → written ≡ from
    → TapsCommit g mid new written made answer was tap → TapsCommit g old new from made answer was tap
commit-from g old mid new written from made answer was tap same is_from (inl (is, takes)) =
    inl (is, takes-weaker was tap (λ pairs tapped. (tapped.0 ∙ is_from, tapped-from old mid new same pairs tapped.1)) takes)
commit-from g old mid new written from made answer was tap same is_from (inr failed) = inr failed

-- ---- a command

module _ {D : Type 0} {g : DiskGhosts D} {command : Command} {old new : SessionView D} {reply : Reply} where
  -- the reply does not acknowledge a transaction, or the command ends none
  pub taps-unconfirmed : ¬ Confirms reply → (pairs : Pairs) → IsEmpty pairs → TapsCommand g command old reply new pairs
  taps-unconfirmed refused pairs none = record {
    taken = λ confirms ends. absurd (refused confirms);
    written = λ confirms commits. absurd (refused confirms);
    alone = λ confirms change closed. absurd (refused confirms);
    only = λ confirms change closed told. absurd (refused confirms);
    empty = λ no. none;
  }

  pub taps-other : ¬ EndsOne old.console.is_open command → (pairs : Pairs) → IsEmpty pairs → TapsCommand g command old reply new pairs
  taps-other other pairs none = record {
    taken = λ confirms ends. absurd (other ends);
    written = λ confirms commits. absurd (other (inl commits));
    alone = λ confirms change closed. absurd (other (inr (closed, change)));
    only = λ confirms change closed told. absurd (other (inr (closed, change)));
    empty = λ no. none;
  }

  pub taps-ended : Confirms reply → EndsOne old.console.is_open command → (pairs : Pairs) → (command ≡ commands.Commit → pairs ≡ old.console.written)
      → (IsChange command → WritesAlone g command old pairs) → IsTapped g old new pairs
      → TapsCommand g command old reply new pairs
  taps-ended confirms ends pairs written alone tapped = record {
    taken = λ also so. tapped;
    written = λ also. written;
    alone = λ also change closed. alone change;
    only = λ also change closed told.
        differ-just_at old.console.committed new.console.committed pairs (tapped.committed told) ((alone change).changed told);
    empty = λ no. absurd (no (confirms, ends));
  }

-- a command of another kind ends no transaction
pub apart-ends : (command : Command) → ¬ IsChange command → command ≢ commands.Commit → (is_open : Bool) → ¬ EndsOne is_open command
apart-ends command still other is_open (inl is) = other is
apart-ends command still other is_open (inr (closed, change)) = still change

question-apart : ¬ IsQuestion commands.Commit
question-apart asks = asks

pub question-ends : (command : Command) → IsQuestion command → (is_open : Bool) → ¬ EndsOne is_open command
question-ends command asks is_open (inl is) = question-apart (subst IsQuestion is asks)
question-ends command asks is_open (inr (closed, change)) = by (kind_of command) asks change
  where
    by : (kind : Kind) → AreQuestions kind → AreChanges kind → ⊥
    by Blanks is change = is
    by Ending is change = is
    by Bound is change = is
    by Upkeep is change = is
    by Sight is change = is
    by Change is change = is
    by Question is change = change

pub commit-still : ¬ IsChange commands.Commit
commit-still change = change

-- the commands that end none
pub blank-ends : (is_open : Bool) → ¬ EndsOne is_open commands.Blank
blank-ends = apart-ends commands.Blank (λ change. change) (λ e. cc)

pub quit-ends : (is_open : Bool) → ¬ EndsOne is_open commands.Quit
quit-ends = apart-ends commands.Quit (λ change. change) (λ e. cc)

pub begin-ends : (is_open : Bool) → ¬ EndsOne is_open commands.Begin
begin-ends = apart-ends commands.Begin (λ change. change) (λ e. cc)

pub rollback-ends : (is_open : Bool) → ¬ EndsOne is_open commands.Rollback
rollback-ends = apart-ends commands.Rollback (λ change. change) (λ e. cc)

pub checkpoint-ends : (is_open : Bool) → ¬ EndsOne is_open commands.Checkpoint
checkpoint-ends = apart-ends commands.Checkpoint (λ change. change) (λ e. cc)

pub reopen-ends : (is_open : Bool) → ¬ EndsOne is_open commands.Reopen
reopen-ends = apart-ends commands.Reopen (λ change. change) (λ e. cc)

pub sight-ends : (command : Command) → IsOfSnapshots command → (is_open : Bool) → ¬ EndsOne is_open command
sight-ends command (inl is) is_open = subst (λ (c : Command). ¬ EndsOne is_open c) (sym is) (apart-ends commands.Snapshot (λ change. change) (λ e. cc) is_open)
sight-ends command (inr is) is_open = subst (λ (c : Command). ¬ EndsOne is_open c) (sym is) (apart-ends commands.Release (λ change. change) (λ e. cc) is_open)

-- the answer of a fault acknowledges nothing
pub fault-unconfirmed : (fault : LineFault) → ¬ Confirms (reply_of (told_of fault))
fault-unconfirmed fault = by (refusal_of fault)
  where
    by : (why : Option Refusal) → ¬ Confirms (reply_of (told_by why))
    by None confirms = confirms
    by (Some why) confirms = confirms

inside-apart : (command : Command) → IsChange command → (is_open : Bool) → is_open ≡ true → ¬ EndsOne is_open command
inside-apart command change is_open opened (inl is) = commit-still (subst IsChange is change)
inside-apart command change is_open opened (inr (closed, also)) = true≢false (sym opened ∙ closed)

module _ {D : Type 0} {g : DiskGhosts D} (command : Command) (change : IsChange command) {old : Session D g} (live : old.health ≡ healths.Live)
    {mid then : Session D g} (new : Session D g) (begun : Begun) where
  -- a change, from its beginning to its end
  pub taps-change : BeginsChange old mid begun → OnlyDrafts mid then → (drafted : Result Drafted Answer) → Drafts command mid then drafted
      → (begun.alone ≡ true → DraftsChanged drafted then) → (answer : Answer) (was tap : Option Held)
      → TapsChange g begun drafted (view then) (view new) answer was tap → Takes (TapsCommand g command (view old) (reply_of answer) (view new)) was tap
  taps-change (counts, inl (within, opened, same)) only drafted drafts changed answer was tap (inl (is, none)) =
      takes-weaker was tap (taps-other (inside-apart command change old.store.base.in_transaction opened)) none
  taps-change (counts, inl (within, opened, same)) only drafted drafts changed answer was tap (inr (is, taps)) = absurd (true≢false (sym is ∙ within))
  taps-change (counts, inr (alone, begins)) only drafted drafts changed answer was tap (inl (is, none)) = absurd (true≢false (sym alone ∙ is))
  taps-change (counts, inr (alone, begins)) only drafted drafts changed answer was tap (inr (is, taps)) = by drafted drafts (changed alone) taps
    where
      by : (drafted : Result Drafted Answer) → Drafts command mid then drafted → DraftsChanged drafted then
          → TapsAlone g drafted (view then) (view new) answer was tap → Takes (TapsCommand g command (view old) (reply_of answer) (view new)) was tap
      by (Ok made) drafts changed (inl (light, inl (told, takes))) =
          takes-weaker was tap (λ pairs tapped.
          taps-ended (subst (λ (a : Answer). Confirms (reply_of a)) (sym told) (made-confirmed command (reply_of made.answer) drafts.0))
          (inr (begins.closed, change)) pairs
          (λ commits. absurd (commit-still (subst IsChange commits change)))
          (λ also. subst (WritesAlone g command (view old)) (sym tapped.0)
          (writes-alone change old new live begins.closed begins.idle begins.same begins.own begins.draft begins.names begins.health begins.snaps only made
          light drafts (changed light)))
          (tapped-from (view old) (view then) (view new) (committed-read mid.store.base then.store.base only.base ∙ committed-beneath old.store.base
          mid.store.base begins.same) pairs tapped.1)) takes
      by (Ok made) drafts changed (inl (light, inr (told, none))) = takes-weaker was tap
          (taps-unconfirmed (λ confirms. subst (λ (a : Answer). Confirms (reply_of a)) told confirms)) none
      by (Ok made) drafts changed (inr (unkept, none)) = takes-weaker was tap (taps-unconfirmed (unkept-unconfirmed made.weight answer unkept)) none
      by (Err why) drafts changed (told, none) =
          takes-weaker was tap (taps-unconfirmed (subst (λ (a : Answer). ¬ Confirms (reply_of a)) (sym told)
          (stopped-unconfirmed command mid then.store.base.disk.now why drafts))) none

-- ---- a line

module _ {line : List ℕ} {command : Command} (only : SpellsOnly line command) (is_open : Bool) (reply : Reply) where
  acknowledges-ends : Acknowledges is_open (Whole line) reply → Confirms reply × EndsOne is_open command
  acknowledges-ends (first, confirms, inl spells) = (confirms, inl (sym (only.only commands.Commit spells)))
  acknowledges-ends (first, confirms, inr (closed, other, change, spells)) = (confirms, inr (closed, subst IsChange (only.only other spells) change))

  ends-acknowledges : session_of line ≡ 0 → Confirms reply → EndsOne is_open command → Acknowledges is_open (Whole line) reply
  ends-acknowledges first confirms (inl is) = (first, confirms, inl (subst (λ (c : Command). Spells line c) is only.spelled))
  ends-acknowledges first confirms (inr (closed, change)) = (first, confirms, inr (closed, command, change, only.spelled))

-- a change ends a transaction where none is open
closed-by : {is_open : Bool} {command : Command} → IsChange command → EndsOne is_open command → is_open ≡ false
closed-by change (inl is) = absurd (commit-still (subst IsChange is change))
closed-by change (inr (closed, also)) = closed

-- a command that ends no transaction is acknowledged by no reply
pub unended : {line : List ℕ} {command : Command} → SpellsOnly line command → (is_open : Bool) → ¬ EndsOne is_open command → (reply : Reply)
    → ¬ Acknowledges is_open (Whole line) reply
unended only is_open other reply ends = other (acknowledges-ends only is_open reply ends).1

module _ {D : Type 0} {g : DiskGhosts D} {old new : SessionView D} where
  taps-line : {line : List ℕ} {command : Command} {reply : Reply} → SpellsOnly line command → session_of line ≡ 0 → (pairs : Pairs)
      → TapsCommand g command old reply new pairs → Taps g (Whole line) old reply new pairs
  taps-line {reply = reply} only first pairs taps = record {
    taken = λ ends. let both = acknowledges-ends only old.console.is_open reply ends in taps.taken both.0 both.1;
    written = λ ends commits. taps.written ends.1 (sym (only.only commands.Commit commits));
    alone = λ ends other spells change. let is = only.only other spells in let both = acknowledges-ends only old.console.is_open reply ends in
        subst (λ (c : Command). WritesAlone g c old pairs) (sym is) (taps.alone both.0 (subst IsChange is change) (closed-by (subst IsChange is change)
        both.1));
    only = λ ends other spells change. let is = only.only other spells in let both = acknowledges-ends only old.console.is_open reply ends in
        taps.only both.0 (subst IsChange is change) (closed-by (subst IsChange is change) both.1);
    empty = λ no. taps.empty (λ both. no (ends-acknowledges only old.console.is_open reply first both.0 both.1));
  }

  taps-none : {line : InputLine} {reply : Reply} → ¬ Acknowledges old.console.is_open line reply → (pairs : Pairs) → IsEmpty pairs
      → Taps g line old reply new pairs
  taps-none never pairs none = record {
    taken = λ ends. absurd (never ends);
    written = λ ends commits. absurd (never ends);
    alone = λ ends command spells change. absurd (never ends);
    only = λ ends command spells change told. absurd (never ends);
    empty = λ so. none;
  }

module _ {D K : Type 0} {g : DiskGhosts D} {sink : SinkGhosts K} {line : InputLine} {old new : Terminal D K} {turn : Turn} where
  -- a line that acknowledges nothing, whatever its reply
  pub taps-nothing : (was tap : Option Held) → Takes IsEmpty was tap → ((reply : Reply) → ¬ Acknowledges old.session.console.is_open line reply)
      → AnswersLine g sink line old new turn → TapsAnswer g sink line old new turn was tap
  taps-nothing was tap none never answers = (answers, takes-weaker was tap (taps-none (never answers.reply)) none)

  -- one whose reply acknowledges nothing
  pub taps-refused : {reply : Reply} (was tap : Option Held) → Takes IsEmpty was tap → ¬ Confirms reply → AnswersWith g sink line old new turn reply
      → TapsAnswer g sink line old new turn was tap
  taps-refused was tap none refused (answers, is) = (answers, takes-weaker was tap (taps-none (λ ends. refused (subst Confirms is ends.1))) none)

module _ {D K : Type 0} {g : DiskGhosts D} {sink : SinkGhosts K} {line : List ℕ} {command : Command} {old new : Terminal D K} {turn : Turn} where
  -- one that was settled
  pub taps-settled : {reply : Reply} → SpellsOnly line command → session_of line ≡ 0 → (was tap : Option Held)
      → Takes (TapsCommand g command old.session reply new.session) was tap
      → AnswersWith g sink (Whole line) old new turn reply → TapsAnswer g sink (Whole line) old new turn was tap
  taps-settled only first was tap takes (answers, is) = (
    answers,
    takes-weaker was tap (λ pairs taps. subst (λ (r : Reply). Taps g (Whole line) old.session r new.session pairs) (sym is)
        (taps-line only first pairs taps)) takes,
  )
