-- Each run has the list of its transactions: a console that failed holds the committed graph and at most one more.
use Rattle.std.proofs.Common.{◌≡◌, ◌≢◌, ◌⊎◌, ⊎_elim, ◌∙◌, ℕ, zero, suc, Bool, true, false, is_some, List, [], ◌∷◌, ◌++◌}
use Rattle.std.proofs.Common.{Contains, inl, inr, refl, sym, ap, subst, arith}
use Rattle.stream_io.specs.Lines.{InputLine}
use Rattle.plain_graph.specs.Changes.{IsChange}
use Rattle.plain_graph.specs.Graph.{Graph}
use Rattle.plain_graph.specs.Kinds.{AreChanges, Blanks, Bound, Change, Ending, Kind, Question, Sight, Upkeep}
use Rattle.plain_graph.specs.Lines.{kind_of}
use Rattle.plain_graph.specs.Reply as replies
use Rattle.plain_graph.specs.Reply.{Fault, Reply}
use Rattle.plain_graph.specs.declared.command.Command.{Command}
use Rattle.plain_graph.specs.declared.command.Command.TheVariants as commands
use Rattle.plain_graph.specs.declared.refusal.Refusal.TheVariants as refusals
use Rattle.graph_session.specs.Exchange.{CarriesKind, CarriesOut, ConsoleStep, DoesUpkeep, Exchange, LeavesBound}
use Rattle.graph_session.specs.Exchange.{LeavesChange, LeavesKind, LeavesOpen, LeavesStore, MakesChange, MovesBound}
use Rattle.graph_session.specs.Exchange.{Stops}
use Rattle.graph_session.specs.Refusals.{IsAccepted}
use Rattle.graph_session.specs.SharedExchange.{SharedStep}
use Rattle.graph_session.specs.SnapshotEffects.{Confirms}
use Rattle.graph_session.specs.Snapshots.{SharedState}
use Rattle.graph_session.specs.State.{Failed, IsFailed, IsSilent, Live, SpellsLine, Standing, State, graphs_from}
use Rattle.graph_session.proofs.OneCommand.{line_agrees}
use Rattle.graph_console.specs.History.{AcknowledgesFrom, Adds, FindsSecond, IsOfWriter, IsSecondOf, Transactions}
use Rattle.graph_console.specs.Run.{Run}
use Rattle.graph_console.proofs.SharedSteps.{writes_or_stays}

-- ---- what a console that failed holds

-- what is left open begins with the committed graph, and is at most one more
abbrev OpensWith : Graph → Standing → Type 0
OpensWith graph Live = Unit {0}
OpensWith graph (Failed []) = ⊥
OpensWith graph (Failed (a ∷ [])) = a ≡ graph
OpensWith graph (Failed (a ∷ b ∷ [])) = a ≡ graph
OpensWith graph (Failed (a ∷ b ∷ c ∷ more)) = ⊥

abbrev IsWell : State → Type 0
IsWell state = OpensWith state.committed state.standing

-- a graph that is admitted is the committed one, or the second that was left open
first_or_second : (graph committed : Graph) (standing : Standing) → OpensWith committed standing → Contains (graphs_from committed standing) graph
    → (graph ≡ committed) ⊎ IsSecondOf standing graph
first_or_second graph committed Live well (zero, low, is) = inl (sym is)
first_or_second graph committed Live well (suc k, low, is) = absurd (omega (arith, low))
first_or_second graph committed (Failed []) well has = absurd well
first_or_second graph committed (Failed (a ∷ [])) well (zero, low, is) = inl (sym is ∙ well)
first_or_second graph committed (Failed (a ∷ [])) well (suc k, low, is) = absurd (omega (arith, low))
first_or_second graph committed (Failed (a ∷ b ∷ [])) well (zero, low, is) = inl (sym is ∙ well)
first_or_second graph committed (Failed (a ∷ b ∷ [])) well (suc zero, low, is) = inr (sym is)
first_or_second graph committed (Failed (a ∷ b ∷ [])) well (suc (suc k), low, is) = absurd (omega (arith, low))
first_or_second graph committed (Failed (a ∷ b ∷ c ∷ more)) well has = absurd well

admitted_well : (committed : Graph) (standing : Standing) → OpensWith committed standing → OpensWith committed (Failed (graphs_from committed standing))
admitted_well committed Live well = refl
admitted_well committed (Failed []) well = absurd well
admitted_well committed (Failed (a ∷ [])) well = well
admitted_well committed (Failed (a ∷ b ∷ [])) well = well
admitted_well committed (Failed (a ∷ b ∷ c ∷ more)) well = absurd well

not_failed : (standing : Standing) → ¬ IsFailed standing → standing ≡ Live
not_failed Live none = refl
not_failed (Failed graphs) none = absurd (none tt)

-- ---- what an exchange adds

-- what it adds, and that the console of the session that writes holds no more than it may after it
record Goes (old : State) (x : Exchange) (new : State) : Type 0 where
  graphs : List Graph
  adds : Adds old x new graphs
  well : IsWell new

module _ (old : State) (well : IsWell old) (line : InputLine) (own : IsOfWriter line) (disk_failed : Bool) (new : State) where
  abbrev replied : Reply → Exchange
  replied reply = record { line = line; disk_failed = disk_failed; reply = reply }

  -- no transaction is acknowledged, and the committed graph stays
  quiet : {mid : State} (reply : Reply) → ¬ AcknowledgesFrom old (replied reply) → new ≡ mid → mid.committed ≡ old.committed → IsWell mid
      → Goes old (replied reply) new
  quiet {mid} reply none is committed mid_well = record {
    graphs = [];
    adds = inr (inr (none, ap (λ (s : State). s.committed) is ∙ committed, refl));
    well = subst IsWell (sym is) mid_well;
  }

  acknowledged : {mid : State} (reply : Reply) → AcknowledgesFrom old (replied reply) → new ≡ mid → IsWell mid → Goes old (replied reply) new
  acknowledged {mid} reply told is mid_well = record { graphs = new.committed ∷ []; adds = inl (told, refl); well = subst IsWell (sym is) mid_well }

  -- a reply that doesn't say that a line was carried out
  untold : (reply : Reply) → ¬ Confirms reply → ¬ AcknowledgesFrom old (replied reply)
  untold reply none = λ acknowledges. none acknowledges.1

  module _ (command : Command) (spelled : SpellsLine line command) where
    -- the line spells no command of another kind
    apart : (other : Command) → kind_of command ≢ kind_of other → ¬ SpellsLine line other
    apart other differ = λ spells. differ (sym (ap kind_of (line_agrees line command other spelled spells)))

    -- a line that spells no commit, and no change outside a transaction
    other : (reply : Reply) → ¬ SpellsLine line commands.Commit → (is_some old.open_one ≡ false → ¬ IsChange command) → ¬ AcknowledgesFrom old (replied reply)
    other reply no_commit no_change = λ acknowledges. ⊎_elim
        (λ (commit : SpellsLine line commands.Commit). no_commit commit)
        (λ (change : (is_some old.open_one ≡ false) × (c : Command) × IsChange c × SpellsLine line c).
        no_change change.0 (subst IsChange (line_agrees line command change.1 spelled change.3) change.2))
        acknowledges.2

    -- the disk has not failed a console that carries such a line out
    live_at : IsAccepted old line → kind_of command ≢ Blanks → kind_of command ≢ Ending → kind_of command ≢ Upkeep → old.standing ≡ Live
    live_at accepted no_blanks no_end no_upkeep =
        not_failed old.standing (λ failed. accepted.1.1.0 refusals.Failed (failed, not_silent, apart commands.Reopen no_upkeep, refl))
      where
        not_silent : ¬ IsSilent line
        not_silent (inl blank) = apart commands.Blank no_blanks blank
        not_silent (inr quit) = apart commands.Quit no_end quit

    change_goes : (reply : Reply) → kind_of command ≡ Change → IsAccepted old line → Confirms reply → MakesChange old command reply new
        → Goes old (replied reply) new
    change_goes reply is accepted told (inl (transaction, opened, graph, weight, changes, weighs, same)) =
        quiet reply (other reply (apart commands.Commit (λ e. let clash : Change ≡ Bound = sym is ∙ e in cc)) (λ closed change. let clash : false ≡ true = sym
        closed ∙ ap is_some opened in cc)) same refl well
    change_goes reply is accepted told (inr (closed, graph, changes, same)) =
        let live = live_at accepted (λ e. let clash : Change ≡ Blanks = sym is ∙ e in cc) (λ e. let clash : Change ≡ Ending = sym is ∙ e in cc)
        (λ e. let clash : Change ≡ Upkeep = sym is ∙ e in cc) in
        acknowledged reply (own, told, inr (ap is_some closed, command, subst AreChanges (sym is) tt, spelled)) same (subst (OpensWith graph) (sym live) tt)

    question_goes : (reply : Reply) → kind_of command ≡ Question → new ≡ old → Goes old (replied reply) new
    question_goes reply is same =
        quiet reply (other reply (apart commands.Commit (λ e. let clash : Question ≡ Bound = sym is ∙ e in cc)) (λ closed change. let clash : AreChanges
        Question = subst AreChanges is change in absurd clash)) same refl well

  bound_goes : (command : Command) (reply : Reply) → SpellsLine line command → IsAccepted old line → Confirms reply → MovesBound old command reply new
      → Goes old (replied reply) new
  bound_goes commands.Begin reply spelled accepted told done =
      quiet reply (other commands.Begin spelled reply (λ commit. let clash : commands.Commit ≡ commands.Begin = line_agrees line commands.Begin commands.Commit
      spelled commit in cc) (λ closed change. change)) done.1 refl well
  bound_goes commands.Commit reply spelled accepted told done =
      let live = live_at commands.Commit spelled accepted (λ e. cc) (λ e. cc) (λ e. cc) in
      acknowledged reply (own, told, inl spelled) done.3 (subst (OpensWith done.1.graph) (sym live) tt)
  bound_goes commands.Rollback reply spelled accepted told done =
      quiet reply (other commands.Rollback spelled reply (λ commit. let clash : commands.Commit ≡ commands.Rollback = line_agrees line commands.Rollback
      commands.Commit spelled commit in cc) (λ closed change. change)) done.1 refl well
  bound_goes command reply spelled accepted told never = absurd never

  -- `reopen` finds the committed graph, or the second that was left open
  reopen_goes : (reply : Reply) → SpellsLine line commands.Reopen → Confirms reply → DoesUpkeep old commands.Reopen reply new → Goes old (replied reply) new
  reopen_goes reply spelled told (done, graph, admits, is) =
      let none : ¬ AcknowledgesFrom old (replied reply) = other commands.Reopen spelled reply (apart commands.Reopen spelled commands.Commit (λ e. cc))
      (λ closed change. change) in
      ⊎_elim
      (λ (first : graph ≡ old.committed). quiet reply none is first tt)
      (λ (second : IsSecondOf old.standing graph).
      let finds : FindsSecond old (replied reply) new = (own, told, spelled, subst (IsSecondOf old.standing) (sym (ap (λ (s : State). s.committed) is)) second)
      in
      let goes : Goes old (replied reply) new = record { graphs = new.committed ∷ []; adds = inr (inl (none, finds, refl)); well = subst IsWell (sym is) tt } in
      goes)
      (first_or_second graph old.committed old.standing well admits)

  upkeep_goes : (command : Command) (reply : Reply) → SpellsLine line command → Confirms reply → DoesUpkeep old command reply new → Goes old (replied reply) new
  upkeep_goes commands.Checkpoint reply spelled told done =
      quiet reply (other commands.Checkpoint spelled reply (apart commands.Checkpoint spelled commands.Commit (λ e. cc)) (λ closed change. change)) done.1 refl
      well
  upkeep_goes commands.Reopen reply spelled told done = reopen_goes reply spelled told done
  upkeep_goes command reply spelled told never = absurd never

  done_goes : (command : Command) (reply : Reply) → IsAccepted old line → SpellsLine line command → Confirms reply → CarriesOut old command reply new
      → Goes old (replied reply) new
  done_goes command reply accepted spelled told done = by (kind_of command) refl done
    where
      by : (kind : Kind) → kind_of command ≡ kind → CarriesKind kind old command reply new → Goes old (replied reply) new
      by Blanks is never = absurd never
      by Ending is never = absurd never
      by Bound is here = bound_goes command reply spelled accepted told here
      by Upkeep is here = upkeep_goes command reply spelled told here
      by Sight is never = absurd never
      by Change is here = change_goes command spelled reply is accepted told here
      by Question is here = question_goes command spelled reply is here.4

  -- what a failed disk leaves
  leaves_goes : (command : Command) (reply : Reply) → ¬ Confirms reply → LeavesOpen old line command new → Goes old (replied reply) new
  leaves_goes command reply none leaves = by (kind_of command) leaves
    where
      stays : ¬ AcknowledgesFrom old (replied reply)
      stays = untold reply none

      bound : (c : Command) → LeavesBound old c new → Goes old (replied reply) new
      bound commands.Commit (transaction, opened, inl left) = quiet reply stays left refl refl
      bound commands.Commit (transaction, opened, inr left) = quiet reply stays left refl refl
      bound c never = absurd never

      store : (c : Command) → LeavesStore old c new → Goes old (replied reply) new
      store commands.Checkpoint left = quiet reply stays left refl refl
      store commands.Reopen left = quiet reply stays left refl (admitted_well old.committed old.standing well)
      store c never = absurd never

      change : LeavesChange old line command new → Goes old (replied reply) new
      change (inl (transaction, opened, same)) = quiet reply stays same refl well
      change (inr (closed, inl left)) = quiet reply stays left refl refl
      change (inr (closed, inr (accepted, told, graph, changes, left))) = quiet reply stays left refl refl

      by : (kind : Kind) → LeavesKind kind old line command new → Goes old (replied reply) new
      by Blanks never = absurd never
      by Ending never = absurd never
      by Bound left = bound command left
      by Upkeep left = store command left
      by Sight never = absurd never
      by Change left = change left
      by Question same = quiet reply stays same refl well

  stops_goes : (lines : List (List ℕ)) (fault : Fault) → Stops old line disk_failed lines fault new → Goes old (replied (replies.Faulted lines fault)) new
  stops_goes lines replies.PastCount stops = quiet (replies.Faulted lines replies.PastCount) (λ acknowledges. acknowledges.1) stops.4 refl well
  stops_goes lines replies.NoMemory stops = quiet (replies.Faulted lines replies.NoMemory) (λ acknowledges. acknowledges.1) stops.1 refl well
  stops_goes lines replies.DiskFailed stops = leaves_goes stops.2 (replies.Faulted lines replies.DiskFailed) (λ told. told) stops.5
  stops_goes lines (replies.DamagedRecord file id) never = absurd never

  -- each step adds what it adds
  step_goes : (reply : Reply) → ConsoleStep old (replied reply) new → Goes old (replied reply) new
  step_goes replies.Silent step = quiet replies.Silent (λ acknowledges. acknowledges.1) step.1 refl well
  step_goes (replies.Faulted lines fault) step = stops_goes lines fault step
  step_goes (replies.Refused why) step = quiet (replies.Refused why) (λ acknowledges. acknowledges.1) step.1 refl well
  step_goes replies.Done step = done_goes step.1 replies.Done step.0 step.2 tt step.3
  step_goes (replies.NodeMade id) step = done_goes step.1 (replies.NodeMade id) step.0 step.2 tt step.3
  step_goes (replies.EdgeMade id) step = done_goes step.1 (replies.EdgeMade id) step.0 step.2 tt step.3
  step_goes (replies.Told lines last) step = done_goes step.1 (replies.Told lines last) step.0 step.2 tt step.3

-- a step of the console of all sessions adds what it adds: a line of a session that reads adds nothing
shared_goes : (old : SharedState) → IsWell old.writer → (x : Exchange) (new : SharedState) → SharedStep old x new → Goes old.writer x new.writer
shared_goes old well x new step = elim (writes_or_stays old x new step) [
  | inl writes ↦ step_goes old.writer well x.line writes.0 x.disk_failed new.writer x.reply writes.1
  | inr stays ↦ record { graphs = []; adds = inr (inr (stays.0, ap (λ (s : State). s.committed) stays.1, refl)); well = subst IsWell (sym stays.1) well }
]

run_recorded : (tells : Type 0) → tells → (first : SharedState) → IsWell first.writer → (run : List Exchange) (last : SharedState) → Run tells first run last
    → (graphs : List Graph) × Transactions tells first run last graphs
run_recorded tells told first well [] last same = ([], (same, refl))
run_recorded tells told first well (x ∷ later) last steps =
    let goes = shared_goes first well x steps.0 (steps.1.step told) in
    let rest = run_recorded tells told steps.0 goes.well later last steps.2 in
    (goes.graphs ++ rest.0, (steps.0, steps.1, goes.graphs, rest.0, goes.adds, rest.1, refl))

-- a run from a console that has not failed
pub transactions_of : (tells : Type 0) → tells → (first : SharedState) (run : List Exchange) (last : SharedState) → first.writer.standing ≡ Live
    → Run tells first run last → (graphs : List Graph) × Transactions tells first run last graphs
transactions_of tells told first run last live steps = run_recorded tells told first (subst (OpensWith first.writer.committed) (sym live) tt) run last steps
