-- The whole run, by what opening the store came to.
use Rattle.std.proofs.Common.{◌≡◌, ◌≢◌, ◌⊎◌, ⊎_elim, inl, inr, ℕ, ◌≤◌, [], List, ◌++◌, take, refl, sym, ◌∙◌, subst, arith}
use Rattle.disk_model.specs.Contents.{Files}
use Rattle.disk_model.specs.Spans.{AtEachMoment}
use Rattle.disk_model.specs.declared.disk.Disk.{Ghosts}
use Rattle.disk_model.proofs.Spans.{OnlyNow, at_each_moment_none, at_each_moment_on, at_each_moment_weaker, only_reads_none}
use Rattle.stream_io.specs.Streams.{TakesFront}
use Rattle.rec_bytes.specs.declared.shape.Shape.{Shape}
use Rattle.txn_core.specs.Config.{Suits}
use Rattle.txn_core.specs.Opening.{IsRefusal, OnlyDiffers}
use Rattle.txn_core.specs.declared.config.Config.{Config}
use Rattle.txn_core.specs.declared.open_fault.OpenFault.{OpenFault}
use Rattle.txn_core.specs.declared.open_fault.OpenFault.TheVariants as faults
use Rattle.console_words.specs.declared.run_options.RunOptions.{RunOptions}
use Rattle.graph_session.specs.Console.{IsAt, SessionView}
use Rattle.graph_session.specs.Exchange.{Exchange}
use Rattle.graph_session.specs.Opening.{IsUnopened, LeavesByOpening, LeavesOldOrSame, StartsAs}
use Rattle.graph_session.specs.Snapshots.{SharedState}
use Rattle.graph_session.specs.Stands.{IsAdmitted}
use Rattle.graph_session.specs.State.{State}
use Rattle.graph_session.proofs.Openings.{opens_admitted}
use Rattle.graph_console.specs.Program.{HoldsGraph, Refuses, RunTo, Serves, Terms, Writes, config_for, terms_for, terms_from, usage_line}
use Rattle.graph_console.specs.Unopened.{EndsUnopened, HasOtherShape, IsUnopenedExit, exit_of, line_of}
use Rattle.graph_console.specs.Run.{Course, IsAdmittedInRun, Run, RunBy, begins_with}
use Rattle.graph_console.specs.declared.exit.Exit.{Exit}
use Rattle.graph_console.specs.declared.exit.Exit.TheVariants as exits
use Rattle.graph_console.proofs.Runs.{counts_within}

-- a content that the first state admits is admitted in each run that begins with it
admitted_first : (tells : Type 0) (first : SharedState) (run : List Exchange) (last : SharedState) → Run tells first run last → (content : Files)
    → IsAdmitted first.writer content → IsAdmittedInRun tells first run last content
admitted_first tells first run last steps content is = (first, record { before = []; later = run; run_is = refl; leads = refl; goes_on = steps }, is)

-- what opening left, and what the run left after it
leaves_from : {D : Type 0} (g : Ghosts D) (old opened new : D) (first : SharedState) (run : List Exchange) (last : SharedState)
    → Run g.tells_reads first run last
    → AtEachMoment g old opened (λ content. g.may_leave old content ⊎ IsAdmitted first.writer content)
    → ((content : Files) → g.may_leave opened content → IsAdmitted first.writer content)
    → AtEachMoment g opened new (λ content. g.may_leave opened content ⊎ IsAdmittedInRun g.tells_reads first run last content)
    → AtEachMoment g old new (λ content. g.may_leave old content ⊎ IsAdmittedInRun g.tells_reads first run last content)
leaves_from g old opened new first run last steps opening opens serving =
    let P : Files → Type 0 = λ content. g.may_leave old content ⊎ IsAdmittedInRun g.tells_reads first run last content in
    at_each_moment_on g old opened new P (λ content. g.may_leave opened content ⊎ IsAdmittedInRun g.tells_reads first run last content)
    (at_each_moment_weaker g old opened (λ content. g.may_leave old content ⊎ IsAdmitted first.writer content) P opening (λ content h. ⊎_elim (λ o. inl o)
    (λ a. inr (admitted_first g.tells_reads first run last steps content a)) h))
    serving
    (λ content h. ⊎_elim (λ o. inr (admitted_first g.tells_reads first run last steps content (opens content o))) (λ a. inr a) h)

-- what is served on terms is served on wider ones
module _ {V : Type 0} {course : Course V} (terms wider : Terms course) (begins : (state : V) → terms.starts state → wider.starts state)
    (closes : (first : V) (run : List Exchange) (last : V) → terms.starts first → RunBy course.step first run last → terms.ends first run last → wider.ends
    first run last)
    (refuses : (why : OpenFault) → terms.unopened why → wider.unopened why) where
  runs_wider : (P : List Exchange → V → Type 0) → RunTo terms P → RunTo wider P
  runs_wider P r = record {
    first = r.first;
    begins = begins r.first r.begins;
    run = r.run;
    last = r.last;
    steps = r.steps;
    arrives = closes r.first r.run r.last r.begins r.steps r.arrives;
    says = r.says;
  }

  ends_wider : (exit : Exit) (written : List ℕ) → EndsUnopened terms.unopened exit written → EndsUnopened wider.unopened exit written
  ends_wider exit written e = (e.0, refuses e.0 e.1, e.2, e.3)

  pub serves_wider : (exit : Exit) (input left written : List ℕ) → Serves terms exit input left written → Serves wider exit input left written
  serves_wider exits.Done input left written s = runs_wider _ s
  serves_wider exits.StoreFailed input left written s = runs_wider _ s
  serves_wider exits.Usage input left written s = absurd s
  serves_wider exits.InputFault input left written s = runs_wider _ s
  serves_wider exits.OutputFault input left written (inl s) = inl (runs_wider _ s)
  serves_wider exits.OutputFault input left written (inr e) = inr (e.0, refuses e.0 e.1, e.2)
  serves_wider exits.NoMemory input left written e = ends_wider exits.NoMemory written e
  serves_wider exits.BadFiles input left written e = ends_wider exits.BadFiles written e
  serves_wider (exits.ConfigDiffers stored asked) input left written e = ends_wider (exits.ConfigDiffers stored asked) written e
  serves_wider exits.DiskFault input left written e = ends_wider exits.DiskFault written e
  serves_wider exits.InputTooLong input left written s = runs_wider _ s

-- What a session served is served by the program that opened it.
pub serves_opened : {D : Type 0} (g : Ghosts D) (options : RunOptions) (old : D) (session : SessionView D) (new : D)
    → LeavesByOpening g (config_for options) old session.disk → g.faults old ≤ g.faults session.disk → HoldsGraph g old
    → (state : State) → StartsAs g old (config_for options) state → IsAt g session state → (exit : Exit) (old_taken new_taken input left : List ℕ)
    → Writes old_taken new_taken (Serves (terms_from g (begins_with state) session.disk new) exit input left)
    → Writes old_taken new_taken (Serves (terms_for g options old new) exit input left)
serves_opened g options old session new leaves later holds state starts is_at exit old_taken new_taken input left w = (
  w.0,
  w.1,
  serves_wider (terms_from g (begins_with state) session.disk new) (terms_for g options old new)
      (λ first is. subst (λ (s : SharedState). (terms_for g options old new).starts s) (sym is) (record { writer = starts; readers = refl }))
      (λ first run last is steps ends. record {
        durable = ends.durable;
        crash = λ told.
            leaves_from g old session.disk new first run last steps
            (subst (λ (s : SharedState). AtEachMoment g old session.disk (λ content. g.may_leave old content ⊎ IsAdmitted s.writer content)) (sym is)
            (opens_admitted g old (config_for options) state starts session.disk leaves told (holds told.0)))
            (λ content left. subst (λ (s : SharedState). IsAdmitted s.writer content) (sym is) (is_at.images told content left))
            (ends.crash told);
        counts = counts_within (g.faults old) (g.faults session.disk) (g.faults new) (g.faults new) run later ends.counts (omega arith);
      })
      (λ why never. absurd never) exit input left w.0 w.2,
)

-- a line was written whole, or a prefix of it
abbrev WritesLine : List ℕ → Exit → Exit → List ℕ → List ℕ → Type 0
WritesLine line exit result old new = ((result ≡ exit) × (new ≡ old ++ line)) ⊎ ((result ≡ exits.OutputFault) × TakesFront old new line)

module _ {V : Type 0} {course : Course V} (terms : Terms course) where
  reason_serves : (why : OpenFault) → terms.unopened why → (input left : List ℕ) → Serves terms (exit_of why) input left (line_of why)
  reason_serves faults.Memory is input left = (faults.Memory, is, refl, refl)
  reason_serves faults.Disk is input left = (faults.Disk, is, refl, refl)
  reason_serves faults.NotAStore is input left = (faults.NotAStore, is, refl, refl)
  reason_serves (faults.Damaged damage) is input left = (faults.Damaged damage, is, refl, refl)
  reason_serves (faults.ConfigDiffers stored asked) is input left = (faults.ConfigDiffers stored asked, is, refl, refl)

  pub serves_unopened : (why : OpenFault) → terms.unopened why → (old new : List ℕ) (result : Exit) (input left : List ℕ)
      → WritesLine (line_of why) (exit_of why) result old new
      → Writes old new (Serves terms result input left)
  serves_unopened why is old new result input left (inl whole) =
      (line_of why, whole.1, subst (λ (exit : Exit). Serves terms exit input left (line_of why)) (sym whole.0) (reason_serves why is input left))
  serves_unopened why is old new result input left (inr front) = let written : List ℕ = take front.1.0 (line_of why) in (
    written,
    front.1.2,
    subst (λ (exit : Exit). Serves terms exit input left written) (sym front.0) (inr (why, is, (front.1.0, front.1.1, refl))),
  )

unopened-not_output : (result : Exit) → result ≡ exits.OutputFault → ¬ IsUnopenedExit result
unopened-not_output result failed (inl is) = cc
unopened-not_output result failed (inr (inl is)) = cc
unopened-not_output result failed (inr (inr (inl (stored, asked, is)))) = cc
unopened-not_output result failed (inr (inr (inr is))) = cc

-- a program with the exit of a reason wrote the whole line of it
pub ends_unopened : (P : OpenFault → Type 0) (why : OpenFault) → P why → (old new : List ℕ) (result : Exit) → IsUnopenedExit result
    → WritesLine (line_of why) (exit_of why) result old new
    → Writes old new (EndsUnopened P result)
ends_unopened P why is old new result ends (inl whole) = (line_of why, whole.1, (why, is, sym whole.0, refl))
ends_unopened P why is old new result ends (inr failed) = absurd (unopened-not_output result failed.0 ends)

-- there was no memory before the disk was used
pub unopened_memory : {D : Type 0} (g : Ghosts D) → OnlyNow g → (config : Config) (disk : D) → IsUnopened g config disk disk faults.Memory
unopened_memory g only config disk = record {
  refused = λ told. inl tt;
  sound = λ told shape graph stands. tt;
  crash = λ told recoverable. at_each_moment_none g disk (LeavesOldOrSame (g.reads disk) (g.may_leave disk) config) only told.1 (λ left was. inl was);
  careful = λ told. inl (only_reads_none g disk only);
  untouched = λ told refusal. absurd refusal;
  differs = λ told space redoes other. absurd other;
  clean = λ told clean. only_reads_none g disk only;
  later = omega arith;
  cause = λ is. cc;
}

-- the usage line was written, or a prefix of it
pub refuses_usage : (result : Exit) (old new : List ℕ) → WritesLine usage_line exits.Usage result old new → Writes old new (Refuses result)
refuses_usage result old new (inl whole) = (usage_line, whole.1, inl (whole.0, refl))
refuses_usage result old new (inr prefix) = (take prefix.1.0 usage_line, prefix.1.2, inr (inr (prefix.0, inl (prefix.1.0, prefix.1.1, refl))))

-- how a program that opened no store ended, whatever its sink tells
abbrev EndsFor : OpenFault → Exit → Type 0 → Type 0
EndsFor why result rose = (result ≡ exit_of why) ⊎ ((result ≡ exits.OutputFault) × rose)

-- an exit has one pair of shapes
differs_same : (a b : Shape) (c d : Config) (result : Exit) → result ≡ exits.ConfigDiffers a c → result ≡ exits.ConfigDiffers b d → (a ≡ b) × (c ≡ d)
differs_same a b c d result one two = (cc (one, two), cc (one, two))

-- a reason that only differs is no damage, and tells that the shape doesn't suit
pub sound_for : (shape : Shape) (config : Config) (why : OpenFault) → OnlyDiffers shape config why → (result : Exit) {rose : Type 0} → EndsFor why result rose
    → (result ≢ exits.BadFiles) × ((stored : Shape) (asked : Config) → result ≡ exits.ConfigDiffers stored asked → (stored ≡ shape) × ¬ Suits config shape)
sound_for shape config why only result (inr failed) = (λ is. cc (failed.0, is), λ stored asked is. absurd (cc (failed.0, is)))
sound_for shape config faults.Memory only result (inl ends) = (λ is. cc (ends, is), λ stored asked is. absurd (cc (ends, is)))
sound_for shape config faults.Disk only result (inl ends) = (λ is. cc (ends, is), λ stored asked is. absurd (cc (ends, is)))
sound_for shape config faults.NotAStore only result (inl ends) = absurd only
sound_for shape config (faults.Damaged damage) only result (inl ends) = absurd only
sound_for shape config (faults.ConfigDiffers found given) only result (inl ends) =
    (λ is. cc (ends, is), λ stored asked is. let same = differs_same found stored given asked result ends is in (sym same.0 ∙ only.0, only.2))

-- the exit of a failed disk comes of that reason
pub disk_failed : (why : OpenFault) (result : Exit) {rose : Type 0} → EndsFor why result rose → result ≡ exits.DiskFault → why ≡ faults.Disk
disk_failed why result (inr failed) is = absurd (cc (failed.0, is))
disk_failed faults.Memory result (inl ends) is = absurd (cc (ends, is))
disk_failed faults.Disk result (inl ends) is = refl
disk_failed faults.NotAStore result (inl ends) is = absurd (cc (ends, is))
disk_failed (faults.Damaged damage) result (inl ends) is = absurd (cc (ends, is))
disk_failed (faults.ConfigDiffers stored asked) result (inl ends) is = absurd (cc (ends, is))

-- and the exit of files that are refused comes of what they hold
pub bad_files : (why : OpenFault) (result : Exit) {rose : Type 0} → EndsFor why result rose → result ≡ exits.BadFiles → IsRefusal why
bad_files why result (inr failed) is = absurd (cc (failed.0, is))
bad_files faults.Memory result (inl ends) is = absurd (cc (ends, is))
bad_files faults.Disk result (inl ends) is = absurd (cc (ends, is))
bad_files faults.NotAStore result (inl ends) is = tt
bad_files (faults.Damaged damage) result (inl ends) is = tt
bad_files (faults.ConfigDiffers stored asked) result (inl ends) is = absurd (cc (ends, is))

-- what holds of a value holds of its equal
pub at_equal : {T : Type 0} (P : T → Type 0) (x y : T) → P x → y ≡ x → P y
at_equal P x y holds same = subst P (sym same) holds

-- that of another shape comes of one that is asked for
pub asked_other : (why : OpenFault) (result : Exit) {rose : Type 0} → EndsFor why result rose → (stored : Shape) (asked : Config)
    → result ≡ exits.ConfigDiffers stored asked → why ≡ faults.ConfigDiffers stored asked
asked_other why result (inr failed) stored asked is = absurd (cc (failed.0, is))
asked_other faults.Memory result (inl ends) stored asked is = absurd (cc (ends, is))
asked_other faults.Disk result (inl ends) stored asked is = absurd (cc (ends, is))
asked_other faults.NotAStore result (inl ends) stored asked is = absurd (cc (ends, is))
asked_other (faults.Damaged damage) result (inl ends) stored asked is = absurd (cc (ends, is))
asked_other (faults.ConfigDiffers found given) result (inl ends) stored asked is = let same = differs_same found stored given asked result ends is in
    cc (same.0, same.1)

-- and then the disk has a store of that shape
pub other_shape : {D : Type 0} (g : Ghosts D) (config : Config) (old new : D) (why : OpenFault) (stored : Shape) (asked : Config)
    → IsUnopened g config old new why → g.tells_reads → why ≡ faults.ConfigDiffers stored asked
    → HasOtherShape g config old new stored asked
other_shape g config old new why stored asked unopened told is =
    let u = subst (IsUnopened g config old new) is unopened in
    elim (u.refused told) [
      | inl refuses ↦ record { store = refuses.0; asked_is = refuses.1; unsuited = refuses.2; kept = λ space redoes. u.differs told space redoes tt }
      | inr damaged ↦ absurd (cc damaged.1)
    ]
