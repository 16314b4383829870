-- What a crash leaves, by the run so far: a content that is admitted before or after one of its lines.
use Rattle.std.proofs.Common.{◌⊎◌, ⊎_elim, inl, inr, List, [], ◌∷◌, ◌++◌, refl, sym, ap, ◌∙◌, append_assoc}
use Rattle.std.proofs.lemmas.List.{append-nil}
use Rattle.disk_model.specs.Contents.{Files}
use Rattle.disk_model.specs.Spans.{AtEachMoment}
use Rattle.disk_model.specs.declared.disk.Disk.{Ghosts}
use Rattle.disk_model.proofs.Spans.{at_each_moment_on, at_each_moment_weaker}
use Rattle.graph_session.specs.Console.{TellsAll}
use Rattle.graph_session.specs.Exchange.{Exchange}
use Rattle.graph_session.specs.SharedAnswer.{SharedComesTo}
use Rattle.graph_session.specs.SharedConsole.{IsSharedAt}
use Rattle.graph_session.specs.SharedExchange.{TakesSharedStep}
use Rattle.graph_session.specs.SnapshotEffects.{SharedView}
use Rattle.graph_session.specs.Snapshots.{SharedState}
use Rattle.graph_session.specs.Stands.{IsAdmittedByEither}
use Rattle.graph_console.specs.Run.{ComesBy, IsAdmittedInRun, Run, shared_course}
use Rattle.graph_console.proofs.Runs.{Carries, run_on}

-- The session is at the state that the run has come to. At each moment since the start a crash left a content from before, or one
-- that is admitted in the run.
pub record IsAtSince {D : Type 0} (g : Ghosts D) (start now : SharedView D) (first : SharedState) (run : List Exchange) (last : SharedState) : Type 0 where
  pub is_at : IsSharedAt g now last
  pub crash : TellsAll g → AtEachMoment g start.session.disk now.session.disk
      (λ content. g.may_leave start.session.disk content ⊎ IsAdmittedInRun g.tells_reads first run last content)

-- a run comes by its last state
ends_by : (tells : Type 0) (first : SharedState) (run : List Exchange) (last : SharedState) → Run tells first run last → ComesBy tells first run last last
ends_by tells first run last steps = record { before = run; later = []; run_is = sym (append-nil run); leads = steps; goes_on = refl }

module _ (tells : Type 0) (first : SharedState) (run : List Exchange) (middle : SharedState) (x : Exchange) (last : SharedState)
    (step : TakesSharedStep tells middle x last) where
  -- with one exchange more it comes by the states that it came by before
  comes_by_on : (state : SharedState) → ComesBy tells first run middle state → ComesBy tells first (run ++ x ∷ []) last state
  comes_by_on state by = record {
    before = by.before;
    later = by.later ++ x ∷ [];
    run_is = ap (λ (xs : List Exchange). xs ++ x ∷ []) by.run_is ∙ append_assoc by.before by.later (x ∷ []);
    leads = by.leads;
    goes_on = run_on (TakesSharedStep tells) state middle last by.later x by.goes_on step;
  }

  admitted_on : (content : Files) → IsAdmittedInRun tells first run middle content → IsAdmittedInRun tells first (run ++ x ∷ []) last content
  admitted_on content a = (a.0, comes_by_on a.0 a.1, a.2)

  admitted_either : Run tells first run middle → (content : Files) → IsAdmittedByEither middle.writer last.writer content
      → IsAdmittedInRun tells first (run ++ x ∷ []) last content
  admitted_either steps content (inl a) = (middle, comes_by_on middle (ends_by tells first run middle steps), a)
  admitted_either steps content (inr a) = (
    last,
    ends_by tells first (run ++ x ∷ []) last (run_on (TakesSharedStep tells) first middle last run x steps step),
    a,
  )

-- a turn carries on what a crash leaves
module _ {D : Type 0} {g : Ghosts D} {start old : SharedView D} (new : SharedView D) {first : SharedState} {run : List Exchange} {state : SharedState}
    (steps : Run g.tells_reads first run state) (so_far : IsAtSince g start old first run state) where
  carried : (all : List Exchange) (last : SharedState) → ((content : Files) → IsAdmittedInRun g.tells_reads first run state content → IsAdmittedInRun
      g.tells_reads first all last content)
      → ((content : Files) → IsAdmittedByEither state.writer last.writer content → IsAdmittedInRun g.tells_reads first all last content)
      → SharedComesTo g old new state last → IsAtSince g start new first all last
  carried all last earlier turn comes =
      let before : Files → Type 0 = λ content. g.may_leave start.session.disk content ⊎ IsAdmittedInRun g.tells_reads first run state content in
      let after : Files → Type 0 = λ content. g.may_leave start.session.disk content ⊎ IsAdmittedInRun g.tells_reads first all last content in
      record {
        is_at = comes.is_at;
        crash = λ told.
            at_each_moment_on g start.session.disk old.session.disk new.session.disk after (IsAdmittedByEither state.writer last.writer)
            (at_each_moment_weaker g start.session.disk old.session.disk before after (so_far.crash told) (λ content h. ⊎_elim (λ o. inl o)
            (λ a. inr (earlier content a)) h))
            (comes.crash told)
            (λ content h. inr (turn content h));
      }

  pub carries : Carries (shared_course g.tells_reads) run state (SharedComesTo g old new state) (IsAtSince g start new first)
  carries = record {
    on = λ x last step comes. carried (run ++ x ∷ []) last (admitted_on g.tells_reads first run state x last step)
        (admitted_either g.tells_reads first run state x last step steps) comes;
    stays = λ comes. carried run state (λ content a. a) (λ content h. (state, ends_by g.tells_reads first run state steps, ⊎_elim (λ a. a) (λ a. a) h)) comes;
  }
