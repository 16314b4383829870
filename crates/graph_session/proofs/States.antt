-- How a console stands whose state is known.
use Rattle.std.proofs.Common.{◌≡◌, ◌∙◌, true, false, Option, Some, None, is_some, refl, sym}
use Rattle.disk_model.specs.declared.disk.Disk.{Ghosts}
use Rattle.graph_session.specs.Console.{IsAt, SessionView}
use Rattle.graph_session.specs.State.{Failed, IsFailed, IsOpen, Live, Standing, State, Transaction, health_of}
use Rattle.graph_session.specs.declared.health.Health.TheVariants as healths

-- a console whose health is live stands so
standing_live : (standing : Standing) → healths.Live ≡ health_of standing → standing ≡ Live
standing_live Live e = refl
standing_live (Failed graphs) e = cc

standing_failed : (standing : Standing) → healths.Failed ≡ health_of standing → IsFailed standing
standing_failed Live e = cc
standing_failed (Failed graphs) e = tt

live-not_failed : (standing : Standing) → standing ≡ Live → ¬ IsFailed standing
live-not_failed Live e failed = failed
live-not_failed (Failed graphs) e failed = cc

some_one : {T : Type 0} (o : Option T) → is_some o ≡ true → (t : T) × (o ≡ Some t)
some_one None e = cc
some_one (Some t) e = (t, refl)

pub no_one : {T : Type 0} (o : Option T) → is_some o ≡ false → o ≡ None
no_one None e = refl
no_one (Some t) e = cc

pub same_one : {T : Type 0} (a b : T) → Some a ≡ Some b → a ≡ b
same_one a b e = cc

pub closed-not_open : (state : State) → state.open_one ≡ None → ¬ IsOpen state
closed-not_open state none (transaction, is) = cc

module _ {D : Type 0} {g : Ghosts D} {session : SessionView D} {state : State} (at : IsAt g session state) where
  pub is_failed : session.console.health ≡ healths.Failed → IsFailed state.standing
  is_failed e = standing_failed state.standing (sym e ∙ at.health)

  pub is_live : session.console.health ≡ healths.Live → state.standing ≡ Live
  is_live e = standing_live state.standing (sym e ∙ at.health)

  pub not_failed : session.console.health ≡ healths.Live → ¬ IsFailed state.standing
  not_failed e = live-not_failed state.standing (is_live e)

  -- the open transaction
  pub is_open : session.console.is_open ≡ true → (transaction : Transaction) × (state.open_one ≡ Some transaction)
  is_open e = some_one state.open_one (at.opened ∙ e)

  pub is_closed : session.console.is_open ≡ false → state.open_one ≡ None
  is_closed e = no_one state.open_one (at.opened ∙ e)

  pub not_open : session.console.is_open ≡ false → ¬ IsOpen state
  not_open e = closed-not_open state (is_closed e)
