-- The records of a store over the lines of a run, whatever is in it: they stay as they were until a transaction is acknowledged, or a
-- line says that the disk failed.
use Rattle.std.proofs.Common.{◌≡◌, ◌≢◌, ◌⊎◌, ⊎_elim, ◌∙◌, inl, inr, ℕ, zero, suc, List, [], ◌∷◌, ◌++◌, refl, sym, ap, subst, true, false}
use Rattle.disk_model.specs.Contents.{Files}
use Rattle.disk_model.specs.Spans.{AtEachMoment, OnlyReads}
use Rattle.disk_model.specs.declared.disk.Disk.{Ghosts}
use Rattle.disk_model.proofs.Spans.{CountsNow, OnlyNow, at_each_moment_now, at_each_moment_on, at_each_moment_weaker, only_reads_none}
use Rattle.stream_io.specs.Lines.{InputLine}
use Rattle.plain_graph.specs.Changes.{IsChange}
use Rattle.plain_graph.specs.Kinds.{AreChanges, Blanks, Bound, Change, Ending, Kind, Question, Sight, Upkeep}
use Rattle.plain_graph.specs.Lines.{kind_of}
use Rattle.plain_graph.specs.Reply as replies
use Rattle.plain_graph.specs.Reply.{DiskFailed, Faulted, Reply}
use Rattle.plain_graph.specs.declared.command.Command.{Command}
use Rattle.plain_graph.specs.declared.command.Command.TheVariants as commands
use Rattle.rec_bytes.specs.Creation.{raised}
use Rattle.rec_bytes.specs.declared.key.Key.{Key}
use Rattle.rec_bytes.specs.declared.record.Rec.{Rec}
use Rattle.rec_bytes.specs.declared.shape.Shape.{Shape}
use Rattle.record_file.specs.Redone.{Redoes}
use Rattle.record_file.specs.Unique.{Redoes-unique}
use Rattle.record_file.proofs.Redone.{Redoes-kept}
use Rattle.txn_core.specs.Opening.{HoldsStore, IsOldOrRaised, StaysAsItWas}
use Rattle.txn_core.specs.Opening as store
use Rattle.txn_core.specs.declared.config.Config.{Config}
use Rattle.txn_core.proofs.Finding.{none_made, one_shape}
use Rattle.graph_session.specs.Console.{SessionView}
use Rattle.graph_session.specs.Effects.{IsStored, KeepsBeneath, Stays}
use Rattle.graph_session.specs.Exchange.{Exchange, told_fault}
use Rattle.graph_session.specs.MayStep.{IsServed, MayAnswerKind, MayBound, MayChange, MayKeep, MayStep}
use Rattle.graph_session.specs.Opening.{LeavesOldOrSame}
use Rattle.graph_session.specs.ReaderAnswers.{MayServeReader, MayStepAs}
use Rattle.graph_session.specs.SnapshotEffects.{Confirms, SharedView}
use Rattle.graph_session.specs.State.{SpellsLine, session_in}
use Rattle.graph_session.specs.Tapping.{Acknowledges}
use Rattle.graph_session.specs.declared.health.Health.{Health}
use Rattle.graph_session.specs.declared.health.Health.TheVariants as healths
use Rattle.graph_session.proofs.Answering.{IsGood}
use Rattle.graph_session.proofs.Anyhow.{made-good}
use Rattle.graph_console.specs.AnyDisk.{EndsOver, StepsOver, StepsQuietly}
use Rattle.graph_console.specs.Sending.{OpensSession}
use Rattle.graph_console.specs.Run.{RunBy, RunComesBy}

good-confirms : (reply : Reply) → IsGood reply → Confirms reply
good-confirms replies.Silent good = absurd good
good-confirms replies.Done good = tt
good-confirms (replies.NodeMade id) good = tt
good-confirms (replies.EdgeMade id) good = tt
good-confirms (replies.Told lines last) good = tt
good-confirms (replies.Faulted lines fault) good = absurd good
good-confirms (replies.Refused why) good = absurd good

-- a reply that says that the disk failed
told-failed : (reply : Reply) → reply ≡ Faulted [] DiskFailed → ¬ (told_fault reply ≡ 0)
told-failed reply is none = let one : told_fault reply ≡ 1 = ap told_fault is in cc

-- a failed console is not live
absurd-live : {T : Type 0} (health : Health) → health ≡ healths.Failed → health ≡ healths.Live → T
absurd-live health failed live = let clash : healths.Failed ≡ healths.Live = sym failed ∙ live in absurd cc

module _ {D : Type 0} (disk : Ghosts D) where
  -- What is read redoes to these records, and a live console has them committed.
  pub record HasRecords (space : Key → Rec) (session : SessionView D) : Type 0 where
    pub read : Redoes (disk.reads session.disk) space
    pub committed : session.console.health ≡ healths.Live → session.console.committed ≡ space

  -- They stay, at each moment.
  pub record KeepsRecords (space : Key → Rec) (old new : SessionView D) : Type 0 where
    pub stays : StaysAsItWas disk old.disk new.disk space
    pub committed : new.console.health ≡ healths.Live → new.console.committed ≡ space

  -- The line acknowledges a transaction, or says that the disk failed.
  abbrev pub IsLoud : InputLine → SessionView D → Reply → Type 0
  IsLoud line old reply = Acknowledges old.console.is_open line reply ⊎ ¬ (told_fault reply ≡ 0)

  -- The records stay, or the line is loud and there are others.
  abbrev pub EndsRecords : (Key → Rec) → InputLine → SessionView D → Reply → SessionView D → Type 0
  EndsRecords space line old reply new = KeepsRecords space old new ⊎ (IsLoud line old reply × (other : Key → Rec) × HasRecords other new)

  pub has_kept : (space : Key → Rec) (old new : SessionView D) → KeepsRecords space old new → HasRecords space new
  has_kept space old new keeps = record { read = keeps.stays.read; committed = keeps.committed }

  module _ (told : disk.tells_reads) (only : OnlyNow disk) (counts : CountsNow disk) where
    -- a disk that was only read
    stays-read : (space : Key → Rec) (old new : D) → Redoes (disk.reads old) space → OnlyReads disk old new → StaysAsItWas disk old new space
    stays-read space old new redoes reads = record {
      read = Redoes-kept space (disk.reads old) (disk.reads new) redoes reads.keeps;
      crash = λ images. at_each_moment_weaker disk old new (disk.may_leave old) (λ left. disk.may_leave old left ⊎ Redoes left space) (reads.time images)
          (λ content was. inl was);
    }

    -- one stretch after the other
    pub stays-on : (space : Key → Rec) (first old new : D) → StaysAsItWas disk first old space → StaysAsItWas disk old new space
        → StaysAsItWas disk first new space
    stays-on space first old new before more =
        let P : Files → Type 0 = λ left. disk.may_leave first left ⊎ Redoes left space in
        record {
          read = more.read;
          crash = λ images.
              at_each_moment_on disk first old new P (λ left. disk.may_leave old left ⊎ Redoes left space) (before.crash images) (more.crash images)
              (λ content h. ⊎_elim (λ was. at_each_moment_now disk first old P counts images (before.crash images) content was) (λ redoes. inr redoes) h);
        }

    module _ (space : Key → Rec) (line : InputLine) (old : SessionView D) (reply : Reply) (new : SessionView D) (has : HasRecords space old) where
      abbrev Ends : Type 0
      Ends = EndsRecords space line old reply new

      same-records : new ≡ old → KeepsRecords space old new
      same-records same =
          subst (λ (now : SessionView D). KeepsRecords space old now) (sym same)
          (record { stays = stays-read space old.disk old.disk has.read (only_reads_none disk old.disk only); committed = has.committed })

      beneath-records : KeepsBeneath disk old new → new.console.health ≡ old.console.health → KeepsRecords space old new
      beneath-records beneath health = record {
        stays = stays-read space old.disk new.disk has.read beneath.disk;
        committed = λ live. beneath.committed told ∙ has.committed (sym health ∙ live);
      }

      stays-records : Stays disk old new → KeepsRecords space old new
      stays-records stays = beneath-records stays.beneath stays.health

      -- the disk has failed the session
      failed-records : new.console.health ≡ healths.Failed → (other : Key → Rec) → Redoes (disk.reads new.disk) other → HasRecords other new
      failed-records failed other redoes = record { read = redoes; committed = absurd-live new.console.health failed }

      -- and was only read, as the line says
      failed-read : reply ≡ Faulted [] DiskFailed → new.console.health ≡ healths.Failed → OnlyReads disk old.disk new.disk → Ends
      failed-read is failed reads = inr (
        inr (told-failed reply is),
        space,
        failed-records failed space (stays-read space old.disk new.disk has.read
            reads).read,
      )

      -- or has the one or the other
      failed-either : reply ≡ Faulted [] DiskFailed → new.console.health ≡ healths.Failed → (a b : Key → Rec) → Redoes (disk.reads new.disk) a
          ⊎ Redoes (disk.reads new.disk) b → Ends
      failed-either is failed a b (inl redoes) = inr (inr (told-failed reply is), a, failed-records failed a redoes)
      failed-either is failed a b (inr redoes) = inr (inr (told-failed reply is), b, failed-records failed b redoes)

      module _ (own : session_in line ≡ 0) where
        bound-records : (command : Command) → SpellsLine line command → MayBound disk old reply new command → Ends
        bound-records commands.Begin spelled (inl refused) = inl (same-records refused.2)
        bound-records commands.Begin spelled (inr (is, closed, begins)) = inl (beneath-records begins.beneath begins.health)
        bound-records commands.Commit spelled (inl refused) = inl (same-records refused.2)
        bound-records commands.Commit spelled (inr (opened, leaves, idle, inl (is, commits))) =
            inr (
              inl (own, subst Confirms (sym is) tt, inl spelled),
              old.console.working,
              record {
                read = commits.stored.read told;
                committed = λ live.
                    commits.committed told;
              },
            )
        bound-records commands.Commit spelled (inr (opened, leaves, idle, inr (fault, inl fails))) = failed-read fault.0 fails.health fails.disk
        bound-records commands.Commit spelled (inr (opened, leaves, idle, inr (fault, inr left))) =
            failed-either fault.0 left.health old.console.committed old.console.working (left.stored.read told)
        bound-records commands.Rollback spelled (inl refused) = inl (same-records refused.2)
        bound-records commands.Rollback spelled (inr (is, opened, drops)) = inl (beneath-records drops.beneath drops.health)
        bound-records _ spelled may = absurd may

        -- a checkpoint, of a live console
        brought-read : IsServed old.console commands.Checkpoint → old.console.committed ≡ space
        brought-read (inl live) = has.committed live
        brought-read (inr reopens) = let clash : commands.Checkpoint ≡ commands.Reopen = reopens in absurd cc

        keep-records : (command : Command) → IsServed old.console command → MayKeep disk old reply new command → Ends
        keep-records commands.Checkpoint served (inl refused) = inl (same-records refused.2)
        keep-records commands.Checkpoint served (inr (closed, leaves, inl (is, brought))) =
            let same : old.console.committed ≡ space = brought-read served in
            inl (record {
              stays = record {
                read = subst (λ (s : Key → Rec). Redoes (disk.reads new.disk) s) same (brought.stored.read told);
                crash = λ images.
                    at_each_moment_weaker disk old.disk new.disk (λ left. Redoes left old.console.committed)
                    (λ left. disk.may_leave old.disk left ⊎ Redoes left space) (leaves (told, images))
                    (λ content redoes. inr (subst (λ (s : Key → Rec). Redoes content s) same redoes));
              };
              committed = λ live. brought.committed told ∙ same;
            })
        keep-records commands.Checkpoint served (inr (closed, leaves, inr (fault, stopped))) =
            inr (inr (told-failed reply fault.0), old.console.committed, failed-records stopped.health old.console.committed (stopped.stored.read told))
        keep-records commands.Reopen served (inl refused) = inl (same-records refused.2)
        keep-records commands.Reopen served (inr (closed, leaves, inl (is, found))) = inl (record {
          stays = record { read = found.read told space has.read; crash = λ images. leaves (told, images) space has.read };
          committed = λ live. found.committed told space has.read;
        })
        keep-records commands.Reopen served (inr (closed, leaves, inr (inl (fault, lost)))) =
            inr (inr (told-failed reply fault.0), space, failed-records lost.health space (lost.read told space has.read))
        keep-records commands.Reopen served (inr (closed, leaves, inr (inr (damage, is, lost, found)))) = inl (record {
          stays = record { read = lost.read told space has.read; crash = λ images. leaves (told, images) space has.read };
          committed = absurd-live new.console.health lost.health;
        })
        keep-records _ served may = absurd may

        change-records : (command : Command) → SpellsLine line command → IsChange command → MayChange disk old reply new command → Ends
        change-records command spelled change (inl (tells, inl (opened, weight, keeps, light), left)) = inl (beneath-records keeps.beneath keeps.health)
        change-records command spelled change (inl (tells, inr (closed, now, from, commits), left)) = inr (
          inl (own, good-confirms reply (made-good command reply tells), inr (closed, command, change, spelled)),
          now,
          record { read = commits.stored.read told; committed = λ live. commits.committed told },
        )
        change-records command spelled change (inr (inl (refused, stays))) = inl (stays-records stays)
        change-records command spelled change (inr (inr (inl (lacks, stays)))) = inl (stays-records stays)
        change-records command spelled change (inr (inr (inr (inl (damage, stays))))) = inl (stays-records stays)
        change-records command spelled change (inr (inr (inr (inr (fault, inl (opened, stays)))))) = inl (stays-records stays)
        change-records command spelled change (inr (inr (inr (inr (fault, inr (closed, inl fails)))))) = failed-read fault.0 fails.health fails.disk
        change-records command spelled change (inr (inr (inr (inr (fault, inr (closed, inr (inl fails))))))) = failed-read fault.0 fails.health fails.disk
        change-records command spelled change (inr (inr (inr (inr (fault, inr (closed, inr (inr (now, from, doubt)))))))) =
            failed-either fault.0 doubt.health old.console.committed now (doubt.stored.read told)

        answer-records : (kind : Kind) (command : Command) → kind_of command ≡ kind → SpellsLine line command → IsServed old.console command
            → MayAnswerKind disk old reply new kind command → Ends
        answer-records Blanks command is spelled served may = absurd may
        answer-records Ending command is spelled served may = absurd may
        answer-records Bound command is spelled served may = bound-records command spelled may
        answer-records Upkeep command is spelled served may = keep-records command served may
        answer-records Sight command is spelled served may = absurd may
        answer-records Change command is spelled served may = change-records command spelled (subst AreChanges (sym is) tt) may
        answer-records Question command is spelled served may = inl (stays-records may.2)

        step-records : MayStep disk line old reply new → Ends
        step-records (inl silent) = inl (same-records silent.2)
        step-records (inr (inl away)) = inl (same-records away.1)
        step-records (inr (inr (command, spelled, served, may))) = answer-records (kind_of command) command refl spelled served may

    module _ (space : Key → Rec) (line : InputLine) (old : SharedView D) (reply : Reply) (new : SharedView D) (has : HasRecords space old.session) where
      none-called : new.session ≡ old.session → EndsRecords space line old.session reply new.session
      none-called same = inl (same-records space line old.session reply new.session has same)

      same-view : new ≡ old → EndsRecords space line old.session reply new.session
      same-view same = none-called (ap (λ (v : SharedView D). v.session) same)

      reader-records : (reader : ℕ) (command : Command) → MayServeReader disk reader old reply new command
          → EndsRecords space line old.session reply new.session
      reader-records reader command (inl (is, inl taken)) = none-called taken.2
      reader-records reader command (inl (is, inr lacks)) = same-view lacks.1
      reader-records reader command (inr (inl (is, released))) = none-called released.3
      reader-records reader command (inr (inr (asks, read))) = inl (stays-records space line old.session reply new.session has read.3)

      as-records : (session : ℕ) → session_in line ≡ session → MayStepAs disk session line old reply new → EndsRecords space line old.session reply new.session
      as-records zero own (inl asks) = same-view asks.2
      as-records zero own (inr (apart, may, ends)) = step-records space line old.session reply new.session has own may
      as-records (suc reader) own (inl silent) = same-view silent.2
      as-records (suc reader) own (inr (inl away)) = same-view away.1
      as-records (suc reader) own (inr (inr (command, spelled, inl (why, refuses, is, same)))) = same-view same
      as-records (suc reader) own (inr (inr (command, spelled, inr (serves, may)))) = reader-records (suc reader) command may

      line-records : MayStepAs disk (session_in line) line old reply new → EndsRecords space line old.session reply new.session
      line-records may = as-records (session_in line) refl may

    -- ---- over a run

    -- after any lines there are some records
    pub run-records : (first : SharedView D) (run : List Exchange) (last : SharedView D) → RunBy (StepsOver disk) first run last → (space : Key → Rec)
        → HasRecords space first.session
        → (other : Key → Rec) × HasRecords other last.session
    run-records first [] last same space has = (space, subst (λ (v : SharedView D). HasRecords space v.session) (sym same) has)
    run-records first (x ∷ later) last steps space has = elim (line-records space x.line first x.reply steps.0 has steps.1.may) [
      | inl keeps ↦ run-records steps.0 later last steps.2 space (has_kept space first.session steps.0.session keeps)
      | inr loud ↦ run-records steps.0 later last steps.2 loud.1 loud.2
    ]

    quiet-not_loud : (line : InputLine) (old : SessionView D) (reply : Reply) → ¬ Acknowledges old.console.is_open line reply → told_fault reply ≡ 0
        → ¬ IsLoud line old reply
    quiet-not_loud line old reply none untold (inl acknowledges) = none acknowledges
    quiet-not_loud line old reply none untold (inr tells) = tells untold

    -- after quiet ones they are the same
    pub quiet-records : (first : SharedView D) (run : List Exchange) (last : SharedView D) → RunBy (StepsQuietly disk) first run last → (space : Key → Rec)
        → HasRecords space first.session
        → StaysAsItWas disk first.session.disk last.session.disk space
    quiet-records first [] last same space has =
        subst (λ (v : SharedView D). StaysAsItWas disk first.session.disk v.session.disk space) (sym same)
        (stays-read space first.session.disk first.session.disk has.read (only_reads_none disk first.session.disk only))
    quiet-records first (x ∷ later) last steps space has = elim (line-records space x.line first x.reply steps.0 has steps.1.step.may) [
      | inl keeps ↦
          stays-on space first.session.disk steps.0.session.disk last.session.disk keeps.stays
          (quiet-records steps.0 later last steps.2 space (has_kept space first.session steps.0.session keeps))
      | inr loud ↦ absurd (quiet-not_loud x.line first.session x.reply steps.1.unacknowledged steps.1.untold loud.0)
    ]

    -- records that a view has are those that what is read redoes to
    pub same-has : (space other : Key → Rec) (session : SessionView D) → HasRecords other session → Redoes (disk.reads session.disk) space
        → HasRecords space session
    same-has space other session has redoes = record {
      read = redoes;
      committed = λ live. has.committed live ∙ Redoes-unique (disk.reads session.disk) other space has.read redoes;
    }

    -- ---- over a run that opened its store

    module _ (config : Config) (old new : D) (first : SharedView D) (starts : OpensSession disk config old first) (run : List Exchange) (last : SharedView D)
        (left : last.session.disk ≡ new) where
      begun : HasRecords first.session.console.committed first.session
      begun = record { read = starts.stored told; committed = λ live. refl }

      kept-from : (view : SharedView D) (by : RunComesBy (StepsOver disk) first run last view) → RunBy (StepsQuietly disk) view by.later last
          → (space : Key → Rec) → Redoes (disk.reads view.session.disk) space
          → StaysAsItWas disk view.session.disk new space
      kept-from view by quiet space redoes =
          let at = run-records first by.before view by.leads first.session.console.committed begun in
          subst (λ (now : D). StaysAsItWas disk view.session.disk now space) left
          (quiet-records view by.later last quiet space (same-has space at.0 view.session at.1 redoes))

      module _ (shape : Shape) (made : HoldsStore (disk.reads old) shape) where
        -- what opening committed are the store's records in the newest version
        opened-records : store.Opens (disk.reads old) config first.session.console.shape first.session.console.committed
            → first.session.console.committed ≡ raised shape made.space
        opened-records (inl (unmade, shape_is, space_is)) = absurd (none_made (disk.reads old) shape unmade made)
        opened-records (inr (before, redoes, has, suits, is)) =
            is
            ∙ ap (λ (s : Shape). raised s before) (one_shape (disk.reads old) before shape first.session.console.shape made redoes has)
            ∙ ap (λ (records : Key → Rec). raised shape records) (Redoes-unique (disk.reads old) before made.space redoes made.redoes)

        -- and what a crash left meanwhile are they
        opened-left : (content : Files) → LeavesOldOrSame (disk.reads old) (disk.may_leave old) config content → disk.may_leave old content
            ⊎ IsOldOrRaised shape made.space content
        opened-left content (inl was) = inl was
        opened-left content (inr (inl (unmade, stands))) = absurd (none_made (disk.reads old) shape unmade made)
        opened-left content (inr (inr (there, other, found, is))) =
            let same_shape : other ≡ shape = one_shape (disk.reads old) found.space shape other made found.redoes found.made in
            let same_space : found.space ≡ made.space = Redoes-unique (disk.reads old) found.space made.space found.redoes made.redoes in
            inr (subst (λ (s : Shape). IsOldOrRaised s made.space content) same_shape (subst (λ (records : Key → Rec). IsOldOrRaised other records content)
            same_space is))

        abbrev WasOrIs : Files → Type 0
        WasOrIs content = disk.may_leave old content ⊎ IsOldOrRaised shape made.space content

        none-lost : RunBy (StepsQuietly disk) first run last → IsOldOrRaised shape made.space (disk.reads new)
            × (disk.tells_images → AtEachMoment disk old new WasOrIs)
        none-lost quiet =
            let committed : first.session.console.committed ≡ raised shape made.space = opened-records (starts.records told) in
            let stays : StaysAsItWas disk first.session.disk new first.session.console.committed =
            subst (λ (now : D). StaysAsItWas disk first.session.disk now first.session.console.committed) left
            (quiet-records first run last quiet first.session.console.committed begun) in (
              inr (subst (λ (records : Key → Rec). Redoes (disk.reads new) records) committed stays.read),
              λ images.
                  let opening : AtEachMoment disk old first.session.disk WasOrIs =
                  at_each_moment_weaker disk old first.session.disk (LeavesOldOrSame (disk.reads old) (disk.may_leave old) config) WasOrIs
                  (starts.opens.crash (told, images) (starts.opens.recoverable told)) opened-left in
                  at_each_moment_on disk old first.session.disk new WasOrIs
                  (λ content. disk.may_leave first.session.disk content ⊎ Redoes content first.session.console.committed) opening (stays.crash images)
                  (λ content h.
                  ⊎_elim (λ was. at_each_moment_now disk old first.session.disk WasOrIs counts images opening content was)
                  (λ redoes. inr (inr (subst (λ (records : Key → Rec). Redoes content records) committed redoes))) h),
            )

-- what holds at the end of a run over any disk
pub ends_over : {D : Type 0} (disk : Ghosts D) → OnlyNow disk → CountsNow disk → (config : Config) (old new : D) (first : SharedView D)
    → OpensSession disk config old first
    → (run : List Exchange) (last : SharedView D) → last.session.disk ≡ new → EndsOver disk old new first run last
ends_over disk only counts config old new first starts run last left = record {
  left = left;
  kept = λ told. kept-from disk told only counts config old new first starts run last left;
  lossless = λ told. none-lost disk told only counts config old new first starts run last left;
}
