-- What the program says of one call is an event of a list.
use Rattle.std.proofs.Common.{ℕ, List, inl, inr, refl}
use Rattle.disk_model.specs.declared.disk.Disk.{Ghosts}
use Rattle.console_words.specs.declared.run_options.RunOptions.{RunOptions}
use Rattle.graph_session.specs.Exchange.{Exchange}
use Rattle.graph_session.specs.Snapshots.{SharedState}
use Rattle.graph_console.specs.Lives.{Event, IsCall, Refuses, Runs, terms_of}
use Rattle.graph_console.specs.Program.{RunTo, Serves, terms_for}
use Rattle.graph_console.specs.Unopened.{EndsUnopened}
use Rattle.graph_console.specs.declared.exit.Exit.{Exit}
use Rattle.graph_console.specs.declared.exit.Exit.TheVariants as exits

module _ {D : Type 0} (g : Ghosts D) (options : RunOptions) (old new : D) where
  -- a call with this exit, input and output is some event
  abbrev IsEvent : Exit → List ℕ → List ℕ → List ℕ → Type 0
  IsEvent exit input left written = (event : Event D) × IsCall g options old new exit input left written event

  module _ (P : List Exchange → SharedState → Type 0) (r : RunTo (terms_for g options old new) P) where
    abbrev run_event : Event D
    run_event = Runs options r.first r.run r.last new

    -- the run is on the terms of its event
    on_its_terms : RunTo (terms_of g run_event) P
    on_its_terms = record { first = r.first; begins = refl; run = r.run; last = r.last; steps = r.steps; arrives = (refl, refl); says = r.says }

    ran : (exit : Exit) (input left written : List ℕ) → Serves (terms_of g run_event) exit input left written → IsEvent exit input left written
    ran exit input left written serves = (
      run_event,
      record {
        called = refl;
        may = λ since. (r.begins, r.steps, r.arrives);
        leads = λ since. refl;
        serves =
            serves;
      },
    )

  refused : (exit : Exit) (input left written : List ℕ) (e : EndsUnopened (terms_for g options old new).unopened exit written)
      → (EndsUnopened (terms_of g (Refuses options e.0 new)).unopened exit written → Serves (terms_of g (Refuses options e.0 new)) exit input left written)
      → IsEvent exit input left written
  refused exit input left written e serves =
      (Refuses options e.0 new, record { called = refl; may = λ since. e.1; leads = λ since. refl; serves = serves (e.0, refl, e.2, e.3) })

  pub served : (exit : Exit) (input left written : List ℕ) → Serves (terms_for g options old new) exit input left written → IsEvent exit input left written
  served exits.Done input left written s = ran _ s exits.Done input left written (on_its_terms _ s)
  served exits.StoreFailed input left written s = ran _ s exits.StoreFailed input left written (on_its_terms _ s)
  served exits.Usage input left written s = absurd s
  served exits.InputFault input left written s = ran _ s exits.InputFault input left written (on_its_terms _ s)
  served exits.OutputFault input left written (inl s) = ran _ s exits.OutputFault input left written (inl (on_its_terms _ s))
  served exits.OutputFault input left written (inr e) =
      (Refuses options e.0 new, record { called = refl; may = λ since. e.1; leads = λ since. refl; serves = inr (e.0, refl, e.2) })
  served exits.NoMemory input left written e = refused exits.NoMemory input left written e (λ ends. ends)
  served exits.BadFiles input left written e = refused exits.BadFiles input left written e (λ ends. ends)
  served (exits.ConfigDiffers stored asked) input left written e = refused (exits.ConfigDiffers stored asked) input left written e (λ ends. ends)
  served exits.DiskFault input left written e = refused exits.DiskFault input left written e (λ ends. ends)
  served exits.InputTooLong input left written s = ran _ s exits.InputTooLong input left written (on_its_terms _ s)
