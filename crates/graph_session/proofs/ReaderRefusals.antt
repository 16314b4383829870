-- Which of the conditions of a refusal hold of a line of a session that reads.
use Rattle.std.proofs.Common.{◌≡◌, ◌≢◌, ◌⊎◌, ◌∙◌, ℕ, Bool, true, false, if◌then◌else◌, ◌||◌, nat_eq, List, [], ◌∷◌, ◌++◌, inl, inr, refl, sym, ap, subst}
use mathlib.Core.Bool.{false≢true}
use Rattle.std.specs.List.{list_any}
use Rattle.disk_model.specs.declared.disk.Disk.{Ghosts}
use Rattle.stream_io.specs.Lines.{Whole}
use Rattle.plain_graph.specs.Graph.{Graph}
use Rattle.plain_graph.specs.Kinds.{AreOfReaders, AreQuestions, Blanks, Bound, Change, Ending, Kind, Question, Sight, Upkeep}
use Rattle.plain_graph.specs.Lines.{IsQuestion, kind_of}
use Rattle.plain_graph.specs.Refusals.{FirstReason, NoReason, Reason, change_reasons}
use Rattle.plain_graph.specs.declared.command.Command.{Command}
use Rattle.plain_graph.specs.declared.command.Command.TheVariants as commands
use Rattle.plain_graph.specs.declared.refusal.Refusal.{Refusal}
use Rattle.snap_store.specs.Layers.{is_open}
use Rattle.snap_store.specs.Snaps.{Snapshots, has_ended, state_of}
use Rattle.snap_store.specs.declared.snap_state.SnapState.{SnapState}
use Rattle.snap_store.specs.declared.snap_state.SnapState.TheVariants as states
use Rattle.graph_session.specs.ReaderAnswers.{LacksSnapshot, RefusesReader, ServesReader, SuitsSnapshot}
use Rattle.graph_session.specs.Refusals.{SpellsOnly, refused_by}
use Rattle.graph_session.specs.Settling.{IsLoud}
use Rattle.graph_session.specs.SharedConsole.{IsSharedAt, snapshot_readers}
use Rattle.graph_session.specs.SharedRefusals.{FirstHoldsFor, NoneHoldsFor, ReaderCondition, no_snapshot, of_snapshot}
use Rattle.graph_session.specs.SharedRefusals.{of_snapshots, read_only, reader_early, reader_order, snapshot_ended}
use Rattle.graph_session.specs.SharedRefusals.{snapshot_open}
use Rattle.graph_session.specs.SnapshotEffects.{SharedView}
use Rattle.graph_session.specs.Snapshots.{HasEnded, IsOpenFor, Sees, SeesAmong, SharedState, Snapshot, is_of}
use Rattle.graph_session.specs.State.{IsSilent, SpellsLine}
use Rattle.graph_session.specs.declared.health.Health.TheVariants as healths
use Rattle.graph_session.proofs.Conditions.{faultless, serves, whole}
use Rattle.graph_session.proofs.Reasons.{unchanging-free}
use Rattle.graph_session.proofs.SnapshotLists.{AreApart, apart-of, open-any, or_right, own_number}
use Rattle.graph_session.proofs.SnapshotTaking.{symmetric}
use Rattle.graph_session.proofs.Spelling.{IsMute, silent-mute, spells-same}
use Rattle.graph_session.proofs.States.{is_failed, not_failed}

-- ---- what a reader has

-- the state, by whether one is open and whether one has ended
abbrev state_by : Bool → Bool → SnapState
state_by opened ended = if opened then states.Open else (if ended then states.Ended else states.Absent)

opened-by : (opened ended : Bool) → state_by opened ended ≡ states.Open → opened ≡ true
opened-by true ended is = refl
opened-by false true is = cc
opened-by false false is = cc

closed-by : (opened ended : Bool) → state_by opened ended ≢ states.Open → opened ≡ false
closed-by true ended other = absurd (other refl)
closed-by false ended other = refl

ended-by : (opened ended : Bool) → state_by opened ended ≡ states.Ended → (opened ≡ false) × (ended ≡ true)
ended-by true ended is = cc
ended-by false true is = (refl, refl)
ended-by false false is = cc

absent-by : (opened ended : Bool) → state_by opened ended ≡ states.Absent → (opened ≡ false) × (ended ≡ false)
absent-by true ended is = cc
absent-by false true is = cc
absent-by false false is = (refl, refl)

some-by : (opened ended : Bool) → state_by opened ended ≢ states.Absent → (opened ≡ true) ⊎ (ended ≡ true)
some-by true ended other = inl refl
some-by false true other = inr refl
some-by false false other = absurd (other refl)

module _ (held : Snapshots) (reader : ℕ) where
  -- one is open
  pub opened-in : state_of held reader ≡ states.Open → is_open reader held.open_ones ≡ true
  opened-in = opened-by (is_open reader held.open_ones) (has_ended held reader)

  -- none is
  pub closed-in : state_of held reader ≢ states.Open → is_open reader held.open_ones ≡ false
  closed-in = closed-by (is_open reader held.open_ones) (has_ended held reader)

  -- where one is open, none is missing or has ended
  pub opened-state : is_open reader held.open_ones ≡ true → state_of held reader ≡ states.Open
  opened-state is = ap (λ (opened : Bool). state_by opened (has_ended held reader)) is

-- where the snapshot serves `snapshot`, none is open
pub suits-snapshot : (state : SnapState) (command : Command) → SuitsSnapshot state command → command ≡ commands.Snapshot → state ≢ states.Open
suits-snapshot state command (inl (is, other)) snaps = other
suits-snapshot state command (inr (inl (is, other))) snaps = let clash : commands.Release ≡ commands.Snapshot = sym is ∙ snaps in cc
suits-snapshot state command (inr (inr (asks, opened))) snaps = absurd (subst IsQuestion snaps asks)

-- the test of a snapshot's reader is that of its number
own-any : (reader : ℕ) (snapshots : List Snapshot) → list_any (is_of reader) snapshots ≡ list_any (nat_eq reader) (snapshot_readers snapshots)
own-any reader [] = refl
own-any reader (snapshot ∷ later) =
    ap (λ (b : Bool). b || list_any (is_of reader) later) (symmetric snapshot.reader reader)
    ∙ ap (λ (b : Bool). nat_eq reader snapshot.reader || b) (own-any reader later)

not_true : (b : Bool) → b ≡ false → ¬ (b ≡ true)
not_true b is other = absurd (false≢true (sym is ∙ other))

module _ {D : Type 0} {g : Ghosts D} {view : SharedView D} {state : SharedState} (at : IsSharedAt g view state) (reader : ℕ) where
  opened-same : list_any (is_of reader) state.readers.open_ones ≡ is_open reader view.held.open_ones
  opened-same = own-any reader state.readers.open_ones ∙ ap (list_any (nat_eq reader)) (sym at.snapshots.readers) ∙ sym (open-any reader view.held.open_ones)

  ended-same : list_any (nat_eq reader) state.readers.ended ≡ has_ended view.held reader
  ended-same = sym (at.snapshots.ended reader)

  pub is-opened : state_of view.held reader ≡ states.Open → IsOpenFor state.readers reader
  is-opened is = opened-same ∙ opened-in view.held reader is

  pub not-opened : state_of view.held reader ≢ states.Open → ¬ IsOpenFor state.readers reader
  not-opened other = not_true (list_any (is_of reader) state.readers.open_ones) (opened-same ∙ closed-in view.held reader other)

  is-ended : state_of view.held reader ≡ states.Ended → (¬ IsOpenFor state.readers reader) × HasEnded state.readers reader
  is-ended is =
      let by = ended-by (is_open reader view.held.open_ones) (has_ended view.held reader) is in
      (not_true (list_any (is_of reader) state.readers.open_ones) (opened-same ∙ by.0), ended-same ∙ by.1)

  is-absent : state_of view.held reader ≡ states.Absent → (¬ IsOpenFor state.readers reader) × (¬ HasEnded state.readers reader)
  is-absent is =
      let by = absent-by (is_open reader view.held.open_ones) (has_ended view.held reader) is in (
        not_true (list_any (is_of reader) state.readers.open_ones) (opened-same ∙ by.0),
        not_true (list_any (nat_eq reader) state.readers.ended) (ended-same ∙ by.1),
      )

  has-some : state_of view.held reader ≢ states.Absent → IsOpenFor state.readers reader ⊎ HasEnded state.readers reader
  has-some other = by (some-by (is_open reader view.held.open_ones) (has_ended view.held reader) other)
    where
      by : (is_open reader view.held.open_ones ≡ true) ⊎ (has_ended view.held reader ≡ true) → IsOpenFor state.readers reader ⊎ HasEnded state.readers reader
      by (inl is) = inl (opened-same ∙ is)
      by (inr is) = inr (ended-same ∙ is)

-- ---- the reader's snapshot is one

sees-any : (snapshots : List Snapshot) (reader : ℕ) (graph : Graph) → SeesAmong snapshots reader graph
    → list_any (nat_eq reader) (snapshot_readers snapshots) ≡ true
sees-any [] reader graph sees = absurd sees
sees-any (snapshot ∷ younger) reader graph (inl own) =
    ap (λ (b : Bool). b || list_any (nat_eq reader) (snapshot_readers younger)) (ap (nat_eq reader) own.0 ∙ own_number reader)
sees-any (snapshot ∷ younger) reader graph (inr more) = or_right (nat_eq reader snapshot.reader) (list_any (nat_eq reader) (snapshot_readers younger))
    (sees-any younger reader graph more)

sees-one : (snapshots : List Snapshot) → AreApart (snapshot_readers snapshots) → (reader : ℕ) (a b : Graph) → SeesAmong snapshots reader a
    → SeesAmong snapshots reader b → a ≡ b
sees-one [] apart reader a b one other = absurd one
sees-one (snapshot ∷ younger) apart reader a b (inl one) (inl other) = sym one.1 ∙ other.1
sees-one (snapshot ∷ younger) apart reader a b (inl one) (inr more) =
    absurd (false≢true (sym apart.0 ∙ ap (λ n. list_any (nat_eq n) (snapshot_readers younger)) one.0 ∙ sees-any younger reader b more))
sees-one (snapshot ∷ younger) apart reader a b (inr more) (inl other) =
    absurd (false≢true (sym apart.0 ∙ ap (λ n. list_any (nat_eq n) (snapshot_readers younger)) other.0 ∙ sees-any younger reader a more))
sees-one (snapshot ∷ younger) apart reader a b (inr more) (inr other) = sees-one younger apart.1 reader a b more other

-- it sees one graph
pub sees-only : {D : Type 0} {g : Ghosts D} {view : SharedView D} {state : SharedState} → IsSharedAt g view state → (reader : ℕ) (a b : Graph)
    → Sees state.readers reader a → Sees state.readers reader b → a ≡ b
sees-only {view = view} {state = state} at reader =
    sees-one state.readers.open_ones (subst AreApart at.snapshots.readers (apart-of view.held.open_ones at.snapshots.form.distinct)) reader

-- ---- conditions one after the other

-- none of two lists holds
none-both : (front later : List ReaderCondition) (state : SharedState) (reader : ℕ) (line : List ℕ) → NoneHoldsFor front state reader (Whole line)
    → NoneHoldsFor later state reader (Whole line)
    → NoneHoldsFor (front ++ later) state reader (Whole line)
none-both [] later state reader line none more = more
none-both (condition ∷ front) later state reader line none more = (none.0, none-both front later state reader line none.1 more)

-- the first of a list, where none of those before it holds
first-after : (front later : List ReaderCondition) (state : SharedState) (reader : ℕ) (line : List ℕ) (why : Refusal)
    → NoneHoldsFor front state reader (Whole line)
    → FirstHoldsFor later state reader (Whole line) why → FirstHoldsFor (front ++ later) state reader (Whole line) why
first-after [] later state reader line why none first = first
first-after (condition ∷ front) later state reader line why none first = inr (none.0, first-after front later state reader line why none.1 first)

-- the condition doesn't hold of the reader's line, whatever it would tell
abbrev FailsFor : ReaderCondition → SharedState → ℕ → List ℕ → Type 0
FailsFor condition state reader line = (why : Refusal) → ¬ condition state reader (Whole line) why

module _ (state : SharedState) (reader : ℕ) {line : List ℕ} {command : Command} (only : SpellsOnly line command) where
  reads_only : AreOfReaders (kind_of command) → FailsFor read_only state reader line
  reads_only is why (other, spelled, none, told) = none (subst (λ (c : Command). AreOfReaders (kind_of c)) (spells-same only other spelled) is)

  not_snapped : (command ≡ commands.Snapshot → ¬ IsOpenFor state.readers reader) → FailsFor snapshot_open state reader line
  not_snapped none why (spelled, opened, told) = none (spells-same only commands.Snapshot spelled) opened

  spells : (other : Command) → command ≡ other → SpellsLine (Whole line) other
  spells other is = subst (λ (c : Command). SpellsLine (Whole line) c) is only.spelled

  has_one : (command ≡ commands.Snapshot) ⊎ IsOpenFor state.readers reader ⊎ HasEnded state.readers reader → FailsFor no_snapshot state reader line
  has_one (inl is) why (closed, unended, other, loud, told) = other (spells commands.Snapshot is)
  has_one (inr (inl opened)) why (closed, unended, other, loud, told) = closed opened
  has_one (inr (inr ended)) why (closed, unended, other, loud, told) = unended ended

  not_ended : (command ≡ commands.Snapshot) ⊎ (command ≡ commands.Release) ⊎ IsOpenFor state.readers reader → FailsFor snapshot_ended state reader line
  not_ended (inl is) why (closed, ended, snaps, releases, loud, told) = snaps (spells commands.Snapshot is)
  not_ended (inr (inl is)) why (closed, ended, snaps, releases, loud, told) = releases (spells commands.Release is)
  not_ended (inr (inr opened)) why (closed, ended, snaps, releases, loud, told) = closed opened

  -- no reason refuses the command, whatever graph it sees
  unreasoned : (reasons : List Reason) → ((graph : Graph) → NoReason reasons state.writer.shape.limit graph command)
      → NoneHoldsFor (of_snapshots reasons) state reader (Whole line)
  unreasoned [] free = tt
  unreasoned (reason ∷ later) free = (
    λ why (graph, sees_it, (other, spelled, holds)). (free graph).0 why
        (subst (λ (c : Command). reason state.writer.shape.limit graph c why) (sym (spells-same only other spelled)) holds),
    unreasoned later (λ graph. (free graph).1),
  )

module _ {D : Type 0} {g : Ghosts D} {view : SharedView D} {state : SharedState} (at : IsSharedAt g view state) (reader : ℕ) {line : List ℕ} {command : Command}
    (only : SpellsOnly line command) where
  -- the first reason that the snapshot's graph has refuses the line
  pub reasoned : (reasons : List Reason) (graph : Graph) → Sees state.readers reader graph → (why : Refusal)
      → FirstReason reasons state.writer.shape.limit graph command why
      → FirstHoldsFor (of_snapshots reasons) state reader (Whole line) why
  reasoned [] graph sees_it why first = absurd first
  reasoned (reason ∷ later) graph sees_it why (inl holds) = inl (graph, sees_it, (command, only.spelled, holds))
  reasoned (reason ∷ later) graph sees_it why (inr more) = inr (none, reasoned later graph sees_it why more.1)
    where
      none : (other : Refusal) → ¬ of_snapshot (refused_by reason) state reader (Whole line) other
      none other (found, sees_other, (c, spelled, holds)) =
          more.0 other
          (subst (λ (a : Command). reason state.writer.shape.limit graph a other) (sym (spells-same only c spelled))
          (subst (λ (a : Graph). reason state.writer.shape.limit a c other) (sees-only at reader found graph sees_other sees_it) holds))

  module _ (loud : IsLoud command) where
    not-silent : ¬ IsSilent (Whole line)
    not-silent silent = by (silent-mute only silent)
      where
        by : IsMute command → ⊥
        by (inl is) = subst IsLoud is loud tt
        by (inr is) = subst IsLoud is loud tt

    lacks-first : (why : Refusal) → AreOfReaders (kind_of command) → view.session.console.health ≡ healths.Live
        → LacksSnapshot (state_of view.held reader) command why
        → FirstHoldsFor (snapshot_open ∷ no_snapshot ∷ snapshot_ended ∷ of_snapshots change_reasons) state reader (Whole line) why
    lacks-first why reads live (inl (is, opened, told)) = inl (spells state reader only commands.Snapshot is, is-opened at reader opened, told)
    lacks-first why reads live (inr (inl (other, absent, told))) =
        let has = is-absent at reader absent in
        inr (
          not_snapped state reader only (λ is. absurd (other is)),
          inl (has.0, has.1, (λ spelled. other (spells-same only commands.Snapshot spelled)), not-silent, told),
        )
    lacks-first why reads live (inr (inr (other, keeps, ended, told))) =
        let has = is-ended at reader ended in
        inr (
          not_snapped state reader only (λ is. absurd (other is)),
          inr (
            has_one state reader only (inr (inr has.1)),
            inl (
              has.0,
              has.1,
              (λ spelled. other (spells-same only commands.Snapshot spelled)),
              (λ spelled. keeps (spells-same only commands.Release spelled)),
              not-silent,
              told,
            ),
          ),
        )

    -- a command that is refused before a snapshot is looked at
    pub refuses-first : (why : Refusal) → RefusesReader reader view command why → FirstHoldsFor reader_order state reader (Whole line) why
    refuses-first why (inl (other, told)) = inr (whole state.writer line, inr (faultless state.writer only, inl (command, only.spelled, other, told)))
    refuses-first why (inr (reads, inl (failed, told))) =
        inr (
          whole state.writer line,
          inr (
            faultless state.writer only,
            inr (
              reads_only state reader only reads,
              inl (
                is_failed at.writer failed,
                not-silent,
                (λ spelled. subst (λ (c : Command). AreOfReaders (kind_of c)) (spells-same only commands.Reopen spelled) reads),
                told,
              ),
            ),
          ),
        )
    refuses-first why (inr (reads, inr (live, lacks))) =
        inr (
          whole state.writer line,
          inr (
            faultless state.writer only,
            inr (
              reads_only state reader only reads,
              inr (serves state.writer only (inl (not_failed at.writer live)), lacks-first why reads live lacks),
            ),
          ),
        )

  -- none refuses a command that is served
  none-early : view.session.console.health ≡ healths.Live → AreOfReaders (kind_of command) → (command ≡ commands.Snapshot → ¬ IsOpenFor state.readers reader)
      → (command ≡ commands.Snapshot) ⊎ IsOpenFor state.readers reader ⊎ HasEnded state.readers reader → (command ≡ commands.Snapshot)
      ⊎ (command ≡ commands.Release) ⊎ IsOpenFor state.readers reader
      → NoneHoldsFor reader_early state reader (Whole line)
  none-early live reads closed one ended = (
    whole state.writer line,
    (
      faultless state.writer only,
      (
        reads_only state reader only reads,
        (
          serves state.writer only (inl (not_failed at.writer live)),
          (not_snapped state reader only closed, (has_one state reader only one, (not_ended state reader only ended, tt))),
        ),
      ),
    ),
  )

  asks-reads : IsQuestion command → AreOfReaders (kind_of command)
  asks-reads asks = by (kind_of command) asks
    where
      by : (kind : Kind) → AreQuestions kind → AreOfReaders kind
      by Blanks is = tt
      by Ending is = tt
      by Bound is = is
      by Upkeep is = is
      by Sight is = tt
      by Change is = is
      by Question is = tt

  -- a command that is served
  pub serves-early : ServesReader reader view command → NoneHoldsFor reader_early state reader (Whole line)
  serves-early (live, inl (is, other)) =
      none-early live (subst (λ (c : Command). AreOfReaders (kind_of c)) (sym is) tt) (λ snaps. not-opened at reader other) (inl is) (inl is)
  serves-early (live, inr (inl (is, other))) =
      none-early live (subst (λ (c : Command). AreOfReaders (kind_of c)) (sym is) tt)
      (λ snaps. let clash : commands.Release ≡ commands.Snapshot = sym is ∙ snaps in cc) (inr (has-some at reader other)) (inr (inl is))
  serves-early (live, inr (inr (asks, opened))) =
      none-early live (asks-reads asks) (λ snaps. absurd (subst IsQuestion snaps asks)) (inr (inl (is-opened at reader opened)))
      (inr (inr (is-opened at reader opened)))

  -- no reason refuses a command about a snapshot
  pub serves-none : ServesReader reader view command → (command ≡ commands.Snapshot) ⊎ (command ≡ commands.Release)
      → NoneHoldsFor reader_order state reader (Whole line)
  serves-none served about = none-both reader_early (of_snapshots change_reasons) state reader line (serves-early served)
      (unreasoned state reader only change_reasons (free about))
    where
      free : (command ≡ commands.Snapshot) ⊎ (command ≡ commands.Release) → (graph : Graph) → NoReason change_reasons state.writer.shape.limit graph command
      free (inl is) graph = subst (NoReason change_reasons state.writer.shape.limit graph) (sym is)
          (unchanging-free commands.Snapshot (λ h. h) state.writer.shape.limit graph tt tt)
      free (inr is) graph = subst (NoReason change_reasons state.writer.shape.limit graph) (sym is)
          (unchanging-free commands.Release (λ h. h) state.writer.shape.limit graph tt tt)

  -- a reason of the snapshot's graph refuses a command that is served
  pub serves-refused : ServesReader reader view command → (graph : Graph) → Sees state.readers reader graph → (why : Refusal)
      → FirstReason change_reasons state.writer.shape.limit graph command why
      → FirstHoldsFor reader_order state reader (Whole line) why
  serves-refused served graph sees_it why first =
      first-after reader_early (of_snapshots change_reasons) state reader line why (serves-early served) (reasoned change_reasons graph sees_it why first)
