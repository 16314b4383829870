-- What is read of the disk after a command that keeps no old records, and what it then is that is committed.
use Rattle.std.proofs.Common.{◌≡◌, ◌⊎◌, ◌∙◌, ℕ, true, false, inl, inr, refl, sym, subst}
use Rattle.disk_model.specs.Contents.{Files, Same}
use Rattle.disk_model.specs.Spans.{OnlyReads}
use Rattle.disk_model.specs.declared.disk.Disk.{Ghosts}
use Rattle.plain_graph.specs.Kinds.{Blanks, Bound, Change, Ending, Kind, Question, Sight, Upkeep}
use Rattle.plain_graph.specs.Reply.{Reply}
use Rattle.plain_graph.specs.declared.command.Command.{Command}
use Rattle.plain_graph.specs.declared.command.Command.TheVariants as commands
use Rattle.rec_bytes.specs.declared.key.Key.{Key}
use Rattle.rec_bytes.specs.declared.record.Rec.{Rec}
use Rattle.record_file.specs.Redone.{Redoes}
use Rattle.record_file.proofs.Redone.{Redoes-kept}
use Rattle.record_file.specs.Unique.{Redoes-unique}
use Rattle.graph_session.specs.Console.{SessionView}
use Rattle.graph_session.specs.Effects.{Begins, Commits, CommitsAlone, Drops, FailsDrafted, FailsRead, IsAloneInDoubt}
use Rattle.graph_session.specs.Effects.{IsBrought, IsFound, IsLeftOpen, IsLost, IsStopped, Keeps, KeepsBeneath, Stays}
use Rattle.graph_session.specs.MayStep.{MayAnswerKind, MayBound, MayChange, MayKeep, MayRead}
use Rattle.graph_session.specs.declared.health.Health.{Health}
use Rattle.graph_session.specs.declared.health.Health.TheVariants as healths

same-back : (old new : Files) → Same old new → Same new old
same-back old new same = λ file place. sym (same file place)

failed-live : (health : Health) → health ≡ healths.Failed → ¬ (health ≡ healths.Live)
failed-live health failed live = let clash : healths.Failed ≡ healths.Live = sym failed ∙ live in cc

module _ {D : Type 0} (g : Ghosts D) (old new : SessionView D) (told : g.tells_reads) where
  -- what is read of the disk while the session is live is what is committed
  abbrev pub IsStoredNow : SessionView D → Type 0
  IsStoredNow view = view.console.health ≡ healths.Live → Redoes (g.reads view.disk) view.console.committed

  -- what is read now was read before
  abbrev pub ReadsSame : Type 0
  ReadsSame = (space : Key → Rec) → Redoes (g.reads new.disk) space → Redoes (g.reads old.disk) space

  only-same : OnlyReads g old.disk new.disk → ReadsSame
  only-same reads space redoes = Redoes-kept space (g.reads new.disk) (g.reads old.disk) redoes (same-back (g.reads old.disk) (g.reads new.disk) reads.keeps)

  only-stored : OnlyReads g old.disk new.disk → new.console.committed ≡ old.console.committed → new.console.health ≡ old.console.health → IsStoredNow old
      → IsStoredNow new
  only-stored reads committed health stored = λ live.
      subst (λ (space : Key → Rec). Redoes (g.reads new.disk) space) (sym committed)
      (Redoes-kept old.console.committed (g.reads old.disk) (g.reads new.disk) (stored (sym health ∙ live)) reads.keeps)

  -- What is said of a command that keeps no old records.
  pub record IsQuiet : Type 0 where
    pub same : ReadsSame
    pub stored : IsStoredNow new

  quiet-beneath : KeepsBeneath g old new → new.console.health ≡ old.console.health → IsStoredNow old → IsQuiet
  quiet-beneath beneath health stored = record { same = only-same beneath.disk; stored = only-stored beneath.disk (beneath.committed told) health stored }

  quiet-failed : OnlyReads g old.disk new.disk → new.console.health ≡ healths.Failed → IsQuiet
  quiet-failed reads failed = record { same = only-same reads; stored = λ live. absurd (failed-live new.console.health failed live) }

  pub quiet-none : new ≡ old → IsStoredNow old → IsQuiet
  quiet-none is stored = record {
    same = λ space redoes. subst (λ (view : SessionView D). Redoes (g.reads view.disk) space) is redoes;
    stored = subst IsStoredNow (sym is) stored;
  }

  pub quiet-stays : Stays g old new → IsStoredNow old → IsQuiet
  quiet-stays stays stored = quiet-beneath stays.beneath stays.health stored

  pub quiet-begins : Begins g old new → IsStoredNow old → IsQuiet
  quiet-begins begins stored = quiet-beneath begins.beneath begins.health stored

  pub quiet-drops : Drops g old new → IsStoredNow old → IsQuiet
  quiet-drops drops stored = quiet-beneath drops.beneath drops.health stored

  pub quiet-keeps : (weight : ℕ) → Keeps g old new weight → IsStoredNow old → IsQuiet
  quiet-keeps weight keeps stored = quiet-beneath keeps.beneath keeps.health stored

  pub quiet-fails : FailsRead g old new → IsQuiet
  quiet-fails fails = quiet-failed fails.disk fails.health

  pub quiet-drafted : FailsDrafted g old new → IsQuiet
  quiet-drafted fails = quiet-failed fails.disk fails.health

  -- the disk has what was committed
  back : old.console.health ≡ healths.Live → IsStoredNow old → Redoes (g.reads new.disk) old.console.committed → ReadsSame
  back live stored now space redoes =
      subst (λ (records : Key → Rec). Redoes (g.reads old.disk) records) (Redoes-unique (g.reads new.disk) old.console.committed space now redoes) (stored live)

  pub quiet-brought : IsBrought g old new → old.console.health ≡ healths.Live → IsStoredNow old → IsQuiet
  quiet-brought brought live stored = record {
    same = back live stored (brought.stored.read told);
    stored = λ is. subst (λ (records : Key → Rec). Redoes (g.reads new.disk) records) (sym (brought.committed told)) (brought.stored.read told);
  }

  pub quiet-stopped : IsStopped g old new → old.console.health ≡ healths.Live → IsStoredNow old → IsQuiet
  quiet-stopped stopped live stored = record {
    same = back live stored (stopped.stored.read told);
    stored = λ is. absurd
        (failed-live new.console.health stopped.health is);
  }

  -- what was read is found again
  module _ (space : Key → Rec) (was : Redoes (g.reads old.disk) space) where
    found-same : Redoes (g.reads new.disk) space → ReadsSame
    found-same now other redoes = subst (λ (records : Key → Rec). Redoes (g.reads old.disk) records) (Redoes-unique (g.reads new.disk) space other now redoes)
        was

    pub quiet-found : IsFound g old new → IsQuiet
    quiet-found found = record {
      same = found-same (found.read told space was);
      stored = λ is. subst (λ (records : Key → Rec). Redoes (g.reads new.disk) records) (sym (found.committed told space was)) (found.read told space was);
    }

    pub quiet-lost : IsLost g old new → IsQuiet
    quiet-lost lost = record { same = found-same (lost.read told space was); stored = λ is. absurd (failed-live new.console.health lost.health is) }

  -- a transaction was ended
  pub stored-commits : Commits g old new → IsStoredNow new
  stored-commits commits = λ is. subst (λ (records : Key → Rec). Redoes (g.reads new.disk) records) (sym (commits.committed told)) (commits.stored.read told)

  pub stored-open : IsLeftOpen g old new → IsStoredNow new
  stored-open left = λ is. absurd (failed-live new.console.health left.health is)

  pub stored-alone : (now : Key → Rec) → CommitsAlone g old new now → IsStoredNow new
  stored-alone now commits = λ is. subst (λ (records : Key → Rec). Redoes (g.reads new.disk) records) (sym (commits.committed told)) (commits.stored.read told)

  pub stored-doubt : (now : Key → Rec) → IsAloneInDoubt g old new now → IsStoredNow new
  stored-doubt now doubt = λ is. absurd (failed-live new.console.health doubt.health is)

-- ---- by the command

module _ {D : Type 0} (g : Ghosts D) (old : SessionView D) (reply : Reply) (new : SessionView D) (told : g.tells_reads)
    (stored : IsStoredNow g old new told old) (was : (space : Key → Rec) × Redoes (g.reads old.disk) space) where
  -- a command that keeps no old records
  quiet-bound : (command : Command) → ¬ (command ≡ commands.Commit) → MayBound g old reply new command → IsQuiet g old new told
  quiet-bound commands.Begin other (inl refused) = quiet-none g old new told refused.2 stored
  quiet-bound commands.Begin other (inr done) = quiet-begins g old new told done.2 stored
  quiet-bound commands.Commit other may = absurd (other refl)
  quiet-bound commands.Rollback other (inl refused) = quiet-none g old new told refused.2 stored
  quiet-bound commands.Rollback other (inr done) = quiet-drops g old new told done.2 stored
  quiet-bound command other never = absurd never

  quiet-keep : (command : Command) → (¬ (command ≡ commands.Reopen) → old.console.health ≡ healths.Live) → MayKeep g old reply new command
      → IsQuiet g old new told
  quiet-keep commands.Checkpoint live (inl refused) = quiet-none g old new told refused.2 stored
  quiet-keep commands.Checkpoint live (inr (closed, leaves, inl done)) = quiet-brought g old new told done.1 (live (λ e. cc)) stored
  quiet-keep commands.Checkpoint live (inr (closed, leaves, inr failed)) = quiet-stopped g old new told failed.1 (live (λ e. cc)) stored
  quiet-keep commands.Reopen live (inl refused) = quiet-none g old new told refused.2 stored
  quiet-keep commands.Reopen live (inr (closed, leaves, inl done)) = quiet-found g old new told was.0 was.1 done.1
  quiet-keep commands.Reopen live (inr (closed, leaves, inr (inl failed))) = quiet-lost g old new told was.0 was.1 failed.1
  quiet-keep commands.Reopen live (inr (closed, leaves, inr (inr damaged))) = quiet-lost g old new told was.0 was.1 damaged.2
  quiet-keep command live never = absurd never

  stored-commit : MayBound g old reply new commands.Commit → IsStoredNow g old new told new
  stored-commit (inl refused) = (quiet-none g old new told refused.2 stored).stored
  stored-commit (inr (opened, leaves, empty, inl done)) = stored-commits g old new told done.1
  stored-commit (inr (opened, leaves, empty, inr (fault, inl fails))) = (quiet-fails g old new told fails).stored
  stored-commit (inr (opened, leaves, empty, inr (fault, inr left))) = stored-open g old new told left

  stored-change : (command : Command) → MayChange g old reply new command → IsStoredNow g old new told new
  stored-change command (inl (tells, inl (opened, weight, keeps, light), left)) = (quiet-keeps g old new told weight keeps stored).stored
  stored-change command (inl (tells, inr (closed, now, from, commits), left)) = stored-alone g old new told now commits
  stored-change command (inr (inl refused)) = (quiet-stays g old new told refused.1 stored).stored
  stored-change command (inr (inr (inl lacks))) = (quiet-stays g old new told lacks.1 stored).stored
  stored-change command (inr (inr (inr (inl damaged)))) = (quiet-stays g old new told damaged.1 stored).stored
  stored-change command (inr (inr (inr (inr (fault, inl (opened, stays)))))) = (quiet-stays g old new told stays stored).stored
  stored-change command (inr (inr (inr (inr (fault, inr (closed, inl fails)))))) = (quiet-fails g old new told fails).stored
  stored-change command (inr (inr (inr (inr (fault, inr (closed, inr (inl fails))))))) = (quiet-drafted g old new told fails).stored
  stored-change command (inr (inr (inr (inr (fault, inr (closed, inr (inr (now, from, doubt)))))))) = stored-doubt g old new told now doubt

  -- a change in an open transaction, or over a disk that was only read
  same-open : (command : Command) → old.console.is_open ≡ true → MayChange g old reply new command → ReadsSame g old new told
  same-open command is (inl (tells, inl (opened, weight, keeps, light), left)) = (quiet-keeps g old new told weight keeps stored).same
  same-open command is (inl (tells, inr (closed, now, from, commits), left)) = let clash : true ≡ false = sym is ∙ closed in cc
  same-open command is (inr (inl refused)) = (quiet-stays g old new told refused.1 stored).same
  same-open command is (inr (inr (inl lacks))) = (quiet-stays g old new told lacks.1 stored).same
  same-open command is (inr (inr (inr (inl damaged)))) = (quiet-stays g old new told damaged.1 stored).same
  same-open command is (inr (inr (inr (inr (fault, inl (opened, stays)))))) = (quiet-stays g old new told stays stored).same
  same-open command is (inr (inr (inr (inr (fault, inr (closed, failed)))))) = let clash : true ≡ false = sym is ∙ closed in cc

  pub stored-answer : (kind : Kind) (command : Command) → (¬ (command ≡ commands.Reopen) → old.console.health ≡ healths.Live)
      → MayAnswerKind g old reply new kind command → IsStoredNow g old new told new
  stored-answer Blanks command live never = absurd never
  stored-answer Ending command live never = absurd never
  stored-answer Bound commands.Commit live may = stored-commit may
  stored-answer Bound commands.Begin live may = (quiet-bound commands.Begin (λ e. cc) may).stored
  stored-answer Bound commands.Rollback live may = (quiet-bound commands.Rollback (λ e. cc) may).stored
  stored-answer Bound command live never = absurd never
  stored-answer Upkeep command live may = (quiet-keep command live may).stored
  stored-answer Sight command live never = absurd never
  stored-answer Change command live may = stored-change command may
  stored-answer Question command live may = (quiet-stays g old new told may.2 stored).stored

  pub same-bound : (command : Command) → ¬ (command ≡ commands.Commit) → MayBound g old reply new command → ReadsSame g old new told
  same-bound command other may = (quiet-bound command other may).same

  pub same-commit : old.console.is_open ≡ false → MayBound g old reply new commands.Commit → ReadsSame g old new told
  same-commit closed (inl refused) = (quiet-none g old new told refused.2 stored).same
  same-commit closed (inr done) = let clash : true ≡ false = sym done.0 ∙ closed in cc

  pub same-keep : (command : Command) → (¬ (command ≡ commands.Reopen) → old.console.health ≡ healths.Live) → MayKeep g old reply new command
      → ReadsSame g old new told
  same-keep command live may = (quiet-keep command live may).same

  pub same-change : (command : Command) → (old.console.is_open ≡ true) ⊎ OnlyReads g old.disk new.disk → MayChange g old reply new command
      → ReadsSame g old new told
  same-change command (inl opened) may = same-open command opened may
  same-change command (inr reads) may = only-same g old new told reads

  pub same-read : (command : Command) → MayRead g old reply new command → ReadsSame g old new told
  same-read command may = (quiet-stays g old new told may.2 stored).same
