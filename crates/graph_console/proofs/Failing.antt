-- A run that ends failed has told of a fault of the disk, where the disk tells what it reads.
use Rattle.std.proofs.Common.{◌≡◌, ◌⊎◌, ⊎_elim, inl, inr, ℕ, ◌+◌, ◌-◌, ◌^◌, ◌≤◌, List, [], ◌∷◌, refl, ap, subst, ◌∙◌, arith}
use Rattle.fault_count.specs.Cause.{Rose}
use Rattle.disk_model.specs.declared.disk.Disk.{Ghosts}
use Rattle.plain_graph.specs.Kinds.{Blanks, Bound, Change, Ending, Kind, Question, Sight, Upkeep}
use Rattle.plain_graph.specs.Lines.{kind_of}
use Rattle.plain_graph.specs.Reply as replies
use Rattle.plain_graph.specs.Reply.{Fault, Reply}
use Rattle.plain_graph.specs.declared.command.Command.{Command}
use Rattle.plain_graph.specs.declared.command.Command.TheVariants as commands
use Rattle.console_words.specs.declared.run_options.RunOptions.{RunOptions}
use Rattle.graph_session.specs.Exchange.{CarriesKind, CarriesOut, ConsoleStep, DoesUpkeep, Exchange, MakesChange, MovesBound, Stops, told_fault, told_in}
use Rattle.graph_session.specs.SharedExchange.{SharedStep}
use Rattle.graph_session.specs.Snapshots.{SharedState}
use Rattle.graph_session.specs.State.{Failed, Live, Standing, State, health_of}
use Rattle.graph_session.specs.declared.health.Health.TheVariants as healths
use Rattle.graph_console.specs.Program.{Serves, Writes, terms_for}
use Rattle.graph_console.specs.Run.{Run, told_faults}
use Rattle.graph_console.specs.declared.exit.Exit.{Exit}
use Rattle.graph_console.specs.declared.exit.Exit.TheVariants.{StoreFailed}
use Rattle.graph_console.proofs.SharedSteps.{writes_or_stays}

module _ (old new : State) (live : old.standing ≡ Live) where
  stays_live : new ≡ old → new.standing ≡ Live
  stays_live same = ap (λ (s : State). s.standing) same ∙ live

  changed_live : (command : Command) (reply : Reply) → MakesChange old command reply new → new.standing ≡ Live
  changed_live command reply (inl (transaction, opened, graph, weight, changes, weighs, is)) = ap (λ (s : State). s.standing) is ∙ live
  changed_live command reply (inr (closed, graph, changes, is)) = ap (λ (s : State). s.standing) is ∙ live

  bound_live : (command : Command) (reply : Reply) → MovesBound old command reply new → new.standing ≡ Live
  bound_live commands.Begin reply done = ap (λ (s : State). s.standing) done.1 ∙ live
  bound_live commands.Commit reply done = ap (λ (s : State). s.standing) done.3 ∙ live
  bound_live commands.Rollback reply done = ap (λ (s : State). s.standing) done.1 ∙ live
  bound_live command reply never = absurd never

  kept_live : (command : Command) (reply : Reply) → DoesUpkeep old command reply new → new.standing ≡ Live
  kept_live commands.Checkpoint reply done = stays_live done.1
  kept_live commands.Reopen reply done = ap (λ (s : State). s.standing) done.3
  kept_live command reply never = absurd never

  -- a command that is carried out fails no console
  carried_live : (command : Command) (reply : Reply) → CarriesOut old command reply new → new.standing ≡ Live
  carried_live command reply = by (kind_of command)
    where
      by : (kind : Kind) → CarriesKind kind old command reply new → new.standing ≡ Live
      by Blanks never = absurd never
      by Ending never = absurd never
      by Bound done = bound_live command reply done
      by Upkeep done = kept_live command reply done
      by Sight never = absurd never
      by Change done = changed_live command reply done
      by Question done = stays_live done.4

  stopped_live : (x : Exchange) (lines : List (List ℕ)) (fault : Fault) → Stops old x.line x.disk_failed lines fault new → (told_in fault ≡ 1)
      ⊎ (new.standing ≡ Live)
  stopped_live x lines replies.PastCount stops = inr (stays_live stops.4)
  stopped_live x lines replies.NoMemory stops = inr (stays_live stops.1)
  stopped_live x lines replies.DiskFailed stops = inl refl
  stopped_live x lines (replies.DamagedRecord file id) never = absurd never

  -- a step that fails a console tells of the disk
  step_told : (x : Exchange) → ConsoleStep old x new → (told_fault x.reply ≡ 1) ⊎ (new.standing ≡ Live)
  step_told x step = by x.reply step
    where
      by : (reply : Reply) → ConsoleStep old (record x { reply = reply }) new → (told_fault reply ≡ 1) ⊎ (new.standing ≡ Live)
      by replies.Silent s = inr (stays_live s.1)
      by (replies.Faulted lines fault) s = stopped_live x lines fault s
      by (replies.Refused why) s = inr (stays_live s.1)
      by reply s = inr (carried_live s.1 reply s.3)

-- so does a step of the console of all sessions: a line of a session that reads fails no console
shared_told : (old new : SharedState) → old.writer.standing ≡ Live → (x : Exchange) → SharedStep old x new → (told_fault x.reply ≡ 1)
    ⊎ (new.writer.standing ≡ Live)
shared_told old new live x step = elim (writes_or_stays old x new step) [
  | inl writes ↦ step_told old.writer new.writer live x writes.1
  | inr stays ↦ inr (stays_live old.writer new.writer live stays.1)
]

run_told : (tells : Type 0) → tells → (first : SharedState) (run : List Exchange) (last : SharedState) → Run tells first run last → first.writer.standing ≡ Live
    → (1 ≤ told_faults run) ⊎ (last.writer.standing ≡ Live)
run_told tells told first [] last same live = inr (ap (λ (s : SharedState). s.writer.standing) same ∙ live)
run_told tells told first (x ∷ later) last steps live = elim (shared_told first steps.0 live x (steps.1.step told)) [
  | inl one ↦ inl (omega (arith, one))
  | inr still ↦ ⊎_elim (λ more. inl (omega (arith, more))) (λ ends. inr ends) (run_told tells told steps.0 later last steps.2 still)
]

live-not_failed : (standing : Standing) → standing ≡ Live → ¬ (health_of standing ≡ healths.Failed)
live-not_failed Live is failed = cc
live-not_failed (Failed graphs) is failed = cc

count_rose : (before after told : ℕ) → (1 ≤ told) → (told + before ≤ after) ⊎ (2 ^ 64 - 1 ≤ after) → Rose before after
count_rose before after told one (inl counts) = omega arith
count_rose before after told one (inr last) = omega arith

-- where a program served its store and ended failed, the disk counted a fault
pub failed_rose : {D : Type 0} (g : Ghosts D) (options : RunOptions) (old new : D) → g.tells_reads → (exit : Exit) (before after input left : List ℕ)
    → Writes before after (Serves (terms_for g options old new) exit input left) → exit ≡ StoreFailed → Rose (g.faults old) (g.faults new)
failed_rose g options old new told exit before after input left serves is =
    let r = (subst (λ (x : Exit). Writes before after (Serves (terms_for g options old new) x input left)) is serves).2 in
    let counted : 1 ≤ told_faults r.run =
    ⊎_elim (λ one. one) (λ live. absurd (live-not_failed r.last.writer.standing live r.says.0))
    (run_told g.tells_reads told r.first r.run r.last r.steps r.begins.writer.live) in
    count_rose (g.faults old) (g.faults new) (told_faults r.run) counted r.arrives.counts
