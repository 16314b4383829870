-- How a command of the session that writes settles a line with the snapshots of all sessions.
use Rattle.std.proofs.Common.{◌≡◌, ◌⊎◌, ◌∙◌, ℕ, ◌+◌, ◌≤◌, Bool, true, false, Some, None, is_some, List, length, inl, inr, refl, sym, ap, subst}
use Rattle.disk_model.specs.declared.disk.Disk.{Ghosts}
use Rattle.stream_io.specs.Lines.{Whole}
use Rattle.plain_graph.specs.Changes.{start_weight}
use Rattle.plain_graph.specs.Graph.{Graph}
use Rattle.plain_graph.specs.Kinds.{Blanks, Bound, Change, Ending, Kind, Question, Sight, Upkeep}
use Rattle.plain_graph.specs.LineChanges.{LineWeighs}
use Rattle.plain_graph.specs.Lines.{kind_of}
use Rattle.plain_graph.specs.Reply.{Reply}
use Rattle.plain_graph.specs.declared.command.Command.{Command}
use Rattle.plain_graph.specs.declared.command.Command.TheVariants as commands
use Rattle.rec_bytes.specs.Pairs.{Pairs}
use Rattle.rec_bytes.specs.declared.key.Key.{Key}
use Rattle.rec_bytes.specs.declared.record.Rec.{Rec}
use Rattle.record_file.specs.Redone.{Redoes}
use Rattle.rec_bytes.specs.declared.shape.Shape.{Shape}
use Rattle.store_rules.specs.Graph.{graph_of, names_of}
use Rattle.store_rules.specs.Indexes.{IsIndexed}
use Rattle.graph_session.specs.Answer.{Settles}
use Rattle.graph_session.specs.Console.{BeginWith}
use Rattle.graph_session.specs.Known.{as_known}
use Rattle.graph_session.specs.MayStep.{IsServed, MayAnswer, MayAnswerKind}
use Rattle.graph_session.specs.Refusals.{SpellsOnly}
use Rattle.graph_session.specs.SharedAnswer.{SettlesShared}
use Rattle.graph_session.specs.SharedConsole.{HoldsSnapshots, IsSharedAt}
use Rattle.graph_session.specs.SnapshotEffects.{Confirms, KeepsFor, KeepsKind, KeepsOlds, SharedView}
use Rattle.graph_session.specs.Snapshots.{SharedState}
use Rattle.graph_session.specs.State.{Failed, IsFailed, Live, SpellsLine, Standing}
use Rattle.graph_session.specs.SharedConsoleStep.{EndsOfWeight, SharedConsoleStep}
use Rattle.graph_session.specs.declared.health.Health.TheVariants as healths
use Rattle.graph_session.proofs.Held.{held, seen_closed, seen_open}
use Rattle.graph_session.proofs.Knowing.{told_of}
use Rattle.graph_session.proofs.SharedDisks.{IsStoredNow, ReadsSame, same-bound, same-change, same-commit, same-keep, same-read, stored-answer}
use Rattle.graph_session.proofs.SharedNames.{BringsNames, GoesOn, step-goes}
use Rattle.graph_session.proofs.SnapshotLaws.{HoldsAfter, holds-kept, holds-still}
use Rattle.graph_session.proofs.States.{is_closed, is_live, is_open}
use Rattle.graph_session.proofs.Weighing.{length-weighed}

-- only a change has a weight
weighs-kind : (limit threshold : ℕ) (graph : Graph) (command : Command) (weight : ℕ) → LineWeighs limit threshold graph command weight
    → kind_of command ≡ Change
weighs-kind limit threshold graph (commands.Node label pairs) weight weighs = refl
weighs-kind limit threshold graph (commands.Edge from label to pairs) weight weighs = refl
weighs-kind limit threshold graph (commands.Set target key value) weight weighs = refl
weighs-kind limit threshold graph (commands.Unset target key) weight weighs = refl
weighs-kind limit threshold graph (commands.Delete target) weight weighs = refl
weighs-kind limit threshold graph (commands.Index label key) weight weighs = refl
weighs-kind limit threshold graph (commands.Mutate reading mutation) weight weighs = refl
weighs-kind limit threshold graph command weight never = absurd never

module _ {D : Type 0} {g : Ghosts D} (known : Bool) {line : List ℕ} {command : Command} (only : SpellsOnly line command) {old new : SharedView D}
    {state : SharedState} {reply : Reply}
    (at : IsSharedAt (as_known known g) old state) (served : IsServed old.session.console command)
    (settles : Settles (as_known known g) (Whole line) old.session new.session state.writer reply)
    (may : MayAnswer g command old.session reply new.session) (keeps : KeepsOlds g command old reply new) where
  served-state : (state.writer.standing ≡ Live) ⊎ (command ≡ commands.Reopen)
  served-state = by served
    where
      by : IsServed old.session.console command → (state.writer.standing ≡ Live) ⊎ (command ≡ commands.Reopen)
      by (inl live) = inl (is_live at.writer live)
      by (inr is) = inr is

  served-live : ¬ (command ≡ commands.Reopen) → old.session.console.health ≡ healths.Live
  served-live other = by served
    where
      by : IsServed old.session.console command → old.session.console.health ≡ healths.Live
      by (inl live) = live
      by (inr is) = absurd (other is)

  -- an open transaction has first the committed graph's names
  brings : (as_known known g).tells_reads → BringsNames state.writer
  brings told transaction is = by state.writer.standing refl
    where
      by : (standing : Standing) → state.writer.standing ≡ standing → BeginWith transaction.graph.names state.writer.committed.names
      by Live live =
          let had = at.writer.holds told live in
          (had.brought.0, sym (had.names ∙ ap (λ (graph : Graph). graph.names) (seen_open state.writer transaction is)) ∙ had.brought.1)
      by (Failed graphs) failed =
          let clash : true ≡ false = sym (ap is_some is) ∙ at.writer.closed (subst IsFailed (sym failed) tt) in cc

  goes : (as_known known g).tells_reads → GoesOn state.writer settles.after
  goes told = step-goes state.writer line command only served-state (brings told) settles.after settles.disk_failed reply (settles.step.step told)

  -- what was read of the disk
  was : (as_known known g).tells_reads → (space : Key → Rec) × Redoes (g.reads old.session.disk) space
  was told = let found = at.writer.reads told in (found.2.space, found.2.redoes)

  stored : (told : (as_known known g).tells_reads) → IsStoredNow g old.session new.session (told_of known g told) new.session
  stored told = stored-answer g old.session reply new.session (told_of known g told) (at.stored told) (was told) (kind_of command) command served-live may

  -- the snapshots are as they were
  module _ (same : new.held ≡ old.held) (reads : (told : (as_known known g).tells_reads) → ReadsSame g old.session new.session (told_of known g told))
      (none : (weight : ℕ) → EndsOfWeight state.writer (Whole line) weight → ¬ Confirms reply) where
    settled-same : SettlesShared SharedConsoleStep (as_known known g) (Whole line) old new state reply
    settled-same = record {
      after = record { writer = settles.after; readers = state.readers };
      arrives = record {
        is_at = record {
          writer = settles.arrives.is_at;
          stored = stored;
          weighed = keeps.weighed at.writer.no_draft at.weighed;
          snapshots = subst (λ held. HoldsSnapshots (as_known known g) held new.session.disk (record { writer = settles.after; readers = state.readers }))
              (sym same)
              (holds-still (as_known known g) old.held old.session.disk state at.snapshots new.session.disk settles.after (λ told. (goes told).shape)
              (λ told. (goes told).names) (λ told. reads told));
        };
        crash = settles.arrives.crash;
      };
      disk_failed = settles.disk_failed;
      counted = settles.counted;
      step = λ told. (settles.step.step told, inr (none, refl));
      blames = settles.step.blames;
    }

  -- old records were kept for a transaction of this weight
  module _ (live : old.session.console.health ≡ healths.Live) (written : Pairs) (kept : KeepsFor g old reply new written) (weight : ℕ)
      (few : length written ≤ weight) (ends : (as_known known g).tells_reads → EndsOfWeight state.writer (Whole line) weight) where
    after : HoldsAfter (as_known known g) old.held old.session.disk state at.snapshots new.session.disk settles.after (λ told. (goes told).shape)
        (λ told. (goes told).names) weight new.held
    after = holds-kept (as_known known g) old.held old.session.disk state at.snapshots new.session.disk settles.after (λ told. (goes told).shape)
        (λ told. (goes told).names)
        old.session.console.committed (λ told. at.stored told live) new.held (λ told. kept.sights (told_of known g told)) written kept.ended weight
        (kept.held weight few)

    settled-kept : SettlesShared SharedConsoleStep (as_known known g) (Whole line) old new state reply
    settled-kept = record {
      after = record { writer = settles.after; readers = after.readers };
      arrives = record {
        is_at = record {
          writer = settles.arrives.is_at;
          stored = stored;
          weighed = keeps.weighed at.writer.no_draft at.weighed;
          snapshots = after.are_held;
        };
        crash = settles.arrives.crash;
      };
      disk_failed = settles.disk_failed;
      counted = settles.counted;
      step = λ told. (settles.step.step told, inl (weight, ends told, kept.ends, after.outlives));
      blames = settles.step.blames;
    }

  -- ---- which line ends a transaction

  ends-none : ¬ (command ≡ commands.Commit) → ¬ (kind_of command ≡ Change) → (weight : ℕ) → EndsOfWeight state.writer (Whole line) weight → ¬ Confirms reply
  ends-none commits changes weight (inl (transaction, opened, spelled, is)) confirms = commits (sym (only.only commands.Commit spelled))
  ends-none commits changes weight (inr (closed, c, spelled, more, weighs, is)) confirms =
      changes (ap kind_of (sym (only.only c spelled)) ∙ weighs-kind state.writer.shape.limit state.writer.shape.threshold state.writer.committed c more weighs)

  ends-closed : old.session.console.is_open ≡ false → command ≡ commands.Commit → (weight : ℕ) → EndsOfWeight state.writer (Whole line) weight
      → ¬ Confirms reply
  ends-closed closed commit weight (inl (transaction, opened, spelled, is)) confirms = let clash : None ≡ Some transaction = sym (is_closed at.writer closed)
      ∙ opened in cc
  ends-closed closed commit weight (inr (none, c, spelled, more, weighs, is)) confirms =
      let clash : Bound ≡ Change = ap kind_of (sym commit ∙ sym (only.only c spelled))
      ∙ weighs-kind state.writer.shape.limit state.writer.shape.threshold state.writer.committed c more weighs in cc

  ends-open : old.session.console.is_open ≡ true → kind_of command ≡ Change → (weight : ℕ) → EndsOfWeight state.writer (Whole line) weight → ¬ Confirms reply
  ends-open opened change weight (inl (transaction, is_one, spelled, is)) confirms = let clash : Bound ≡ Change = ap kind_of (only.only commands.Commit spelled)
      ∙ change in cc
  ends-open opened change weight (inr (none, c, spelled, more, weighs, is)) confirms =
      let one = is_open at.writer opened in let clash : None ≡ Some one.0 = sym none ∙ one.1 in cc

  -- ---- by the command

  of-bound : (c : Command) → c ≡ command → kind_of c ≡ Bound → KeepsKind g old reply new Bound c → MayAnswerKind g old.session reply new.session Bound c
      → SettlesShared SharedConsoleStep (as_known known g) (Whole line) old new state reply
  of-bound commands.Commit is kind (inl (same, closed)) answer =
      settled-same same (λ told. same-commit g old.session reply new.session (told_of known g told) (at.stored told) (was told) closed answer)
      (ends-closed closed (sym is))
  of-bound commands.Commit is kind (inr (opened, kept)) answer =
      let one = is_open at.writer opened in
      settled-kept (served-live (λ e. let clash : commands.Commit ≡ commands.Reopen = is ∙ e in cc)) old.session.console.written kept old.session.console.weight
      (length-weighed old.session.console.written old.session.console.weight (at.weighed opened))
      (λ told. inl (one.0, one.1, subst (λ (c : Command). SpellsLine (Whole line) c) (sym is) only.spelled, at.writer.weight one.0 one.1))
  of-bound commands.Begin is kind same answer =
      settled-same same (λ told. same-bound g old.session reply new.session (told_of known g told) (at.stored told) (was told) commands.Begin (λ e. cc) answer)
      (ends-none (λ e. let clash : commands.Begin ≡ commands.Commit = is ∙ e in cc) (λ change. let clash : Bound ≡ Change = ap kind_of is ∙ change in cc))
  of-bound commands.Rollback is kind same answer =
      settled-same same (λ told. same-bound g old.session reply new.session (told_of known g told) (at.stored told) (was told) commands.Rollback (λ e. cc)
      answer)
      (ends-none (λ e. let clash : commands.Rollback ≡ commands.Commit = is ∙ e in cc) (λ change. let clash : Bound ≡ Change = ap kind_of is ∙ change in cc))
  of-bound c is kind same answer = absurd answer

  of-change : kind_of command ≡ Change → KeepsKind g old reply new Change command → MayAnswerKind g old.session reply new.session Change command
      → SettlesShared SharedConsoleStep (as_known known g) (Whole line) old new state reply
  of-change kind (inl (same, inl opened)) answer =
      settled-same same (λ told. same-change g old.session reply new.session (told_of known g told) (at.stored told) (was told) command (inl opened) answer)
      (ends-open opened kind)
  of-change kind (inl (same, inr (unconfirmed, reads))) answer =
      settled-same same (λ told. same-change g old.session reply new.session (told_of known g told) (at.stored told) (was told) command (inr reads) answer)
      (λ weight ends. unconfirmed)
  of-change kind (inr (closed, written, writes, committed, kept)) answer =
      let live = served-live (λ e. let clash : Change ≡ Upkeep = sym kind ∙ ap kind_of e in cc) in
      settled-kept live written kept (start_weight + writes.more) (length-weighed written (start_weight + writes.more) writes.weighed)
      (λ told. inr (
        is_closed at.writer closed,
        command,
        only.spelled,
        writes.more,
        weighed-so told live closed writes.more
            (writes.weighs (told_of known g told)),
        refl,
      ))
    where
      weighed-so : (told : (as_known known g).tells_reads) → old.session.console.health ≡ healths.Live → old.session.console.is_open ≡ false → (more : ℕ)
          → (IsIndexed old.session.console.committed old.session.console.shape → old.session.console.names ≡ names_of old.session.console.committed
          → LineWeighs old.session.console.shape.limit old.session.console.shape.threshold (graph_of old.session.console.committed) command more)
          → LineWeighs state.writer.shape.limit state.writer.shape.threshold state.writer.committed command more
      weighed-so told live closed more weighs =
          let had = held at.writer live told in
          let there = weighs (subst (λ (shape : Shape). IsIndexed old.session.console.committed shape) at.writer.shape had.committed)
          (had.names ∙ ap (λ (graph : Graph). graph.names) (seen_closed state.writer (is_closed at.writer closed) ∙ sym had.committed_graph)) in
          subst (λ (shape : Shape). LineWeighs shape.limit shape.threshold state.writer.committed command more) (sym at.writer.shape)
          (subst (λ (graph : Graph). LineWeighs old.session.console.shape.limit old.session.console.shape.threshold graph command more) had.committed_graph
          there)

  pub settles-shared : SettlesShared SharedConsoleStep (as_known known g) (Whole line) old new state reply
  settles-shared = by (kind_of command) refl keeps.held may
    where
      by : (kind : Kind) → kind_of command ≡ kind → KeepsKind g old reply new kind command → MayAnswerKind g old.session reply new.session kind command
          → SettlesShared SharedConsoleStep (as_known known g) (Whole line) old new state reply
      by Blanks is same answer = absurd answer
      by Ending is same answer = absurd answer
      by Bound is kept answer = of-bound command refl is kept answer
      by Upkeep is same answer =
          settled-same same (λ told. same-keep g old.session reply new.session (told_of known g told) (at.stored told) (was told) command served-live answer)
          (ends-none (λ e. let clash : Upkeep ≡ Bound = sym is ∙ ap kind_of e in cc) (λ change. let clash : Upkeep ≡ Change = sym is ∙ change in cc))
      by Sight is same answer = absurd answer
      by Change is kept answer = of-change is kept answer
      by Question is same answer =
          settled-same same (λ told. same-read g old.session reply new.session (told_of known g told) (at.stored told) (was told) command answer)
          (ends-none (λ e. let clash : Question ≡ Bound = sym is ∙ ap kind_of e in cc) (λ change. let clash : Question ≡ Change = sym is ∙ change in cc))
