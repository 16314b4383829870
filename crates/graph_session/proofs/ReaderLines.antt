-- How a line of a session that reads settles all sessions.
use Rattle.std.proofs.Common.{◌≡◌, ◌≢◌, ◌∙◌, ℕ, ◌<◌, Bool, true, false, nat_lt, List, [], inl, inr, refl, sym, subst, true≢false, arith}
use Rattle.std.proofs.lemmas.Bool.Decides.{nat_tests}
use Rattle.fault_count.specs.Cause.{Rose}
use Rattle.disk_model.specs.Spans.{OnlyReads}
use Rattle.disk_model.specs.declared.disk.Disk.{Ghosts}
use Rattle.disk_model.proofs.Spans.{OnlyNow, only_reads_none}
use Rattle.stream_io.specs.Lines.{Whole}
use Rattle.plain_graph.specs.Graph.{Graph}
use Rattle.plain_graph.specs.Lines.{IsQuestion}
use Rattle.plain_graph.specs.Reply.{Done, EdgeMade, Faulted, NoMemory, NodeMade, Refused, Reply, Silent, Told}
use Rattle.plain_graph.specs.declared.command.Command.{Command}
use Rattle.plain_graph.specs.declared.command.Command.TheVariants as commands
use Rattle.plain_graph.specs.declared.refusal.Refusal.{Refusal}
use Rattle.rec_bytes.specs.Pairs.{Pairs}
use Rattle.store_rules.specs.Graph.{graph_of}
use Rattle.snap_store.specs.Layers.{SameSights, is_open, sees}
use Rattle.snap_store.specs.Snaps.{IsReader, Snapshots, state_of, taken}
use Rattle.snap_store.specs.declared.snap_state.SnapState.TheVariants as states
use Rattle.snap_store.specs.Sums.{AreCovered}
use Rattle.snap_store.proofs.LayerLaws.{sees-taken, sees-taker}
use Rattle.snap_store.proofs.ShapeLaws.{covered-released}
use Rattle.graph_session.specs.Effects.{Stays}
use Rattle.graph_session.specs.Exchange.{told_fault}
use Rattle.traversal_run.specs.Reading.{IsNamedStore}
use Rattle.graph_session.specs.Known.{as_known}
use Rattle.graph_session.specs.MayStep.{MayTell}
use Rattle.graph_session.specs.Questions.{Means}
use Rattle.graph_session.specs.ReaderAnswers.{MayRelease, MaySnap, RefusesReader, ServesReader}
use Rattle.graph_session.specs.ReaderStep.{ReaderStep, ReadsSnapshot}
use Rattle.graph_session.specs.Refusals.{IsReached, SpellsOnly}
use Rattle.graph_session.specs.Settling.{IsLoud}
use Rattle.graph_session.specs.SharedAnswer.{SettlesShared}
use Rattle.graph_session.specs.SharedConsole.{HoldsSnapshots, IsSharedAt}
use Rattle.graph_session.specs.SharedRefusals.{console_of}
use Rattle.graph_session.specs.SnapshotEffects.{AreWeighed, IsWeighed, SharedView}
use Rattle.graph_session.specs.Snapshots.{SharedState, with_snapshot, without_snapshot}
use Rattle.graph_session.specs.State.{IsSpared, NeverLacksMemory}
use Rattle.graph_session.proofs.Answering.{exchange}
use Rattle.graph_session.proofs.Conditions.{reached}
use Rattle.graph_session.proofs.Knowing.{reads-known, stays-known, told_of}
use Rattle.graph_session.proofs.Known.{begin-all}
use Rattle.graph_session.proofs.Lifting.{asks-none, asks-one}
use Rattle.graph_session.proofs.ReaderRefusals.{closed-in, refuses-first, serves-early, serves-none, serves-refused}
use Rattle.graph_session.proofs.ReaderSteps.{asked-step, means-own, own-named, own-snapshot, own_records}
use Rattle.graph_session.proofs.SharedDisks.{quiet-stays}
use Rattle.graph_session.proofs.SnapshotLaws.{holds-still}
use Rattle.graph_session.proofs.SnapshotTaking.{holds-released, holds-taken}
use Rattle.graph_session.proofs.Spelling.{spared-only}
use Rattle.graph_session.proofs.States.{is_live, not_failed}
use Rattle.graph_session.proofs.Staying.{crash-kept, stays-at}

module _ {D : Type 0} {g : Ghosts D} {reader : ℕ} {line : List ℕ} {old new : SharedView D} {before : SharedState} (at : IsSharedAt g old before) where
  -- a line that only reads the disk, and doesn't blame it
  settles-quiet : (reply : Reply) (after : SharedState) → IsSharedAt g new after → OnlyReads g old.session.disk new.session.disk → told_fault reply ≡ 0
      → (g.tells_reads → ReaderStep reader before (exchange (Whole line) false reply) after)
      → SettlesShared (ReaderStep reader) g (Whole line) old new before reply
  settles-quiet reply after is_at reads quiet step = record {
    after = after;
    arrives = record { is_at = is_at; crash = crash-kept at.writer after.writer new.session.disk reads };
    disk_failed = false;
    counted = λ e. absurd (true≢false (sym e));
    step = step;
    blames = λ blames. absurd (blames quiet);
  }

module _ {D : Type 0} (g : Ghosts D) (only_now : OnlyNow g) (reader : ℕ) {line : List ℕ} {command : Command} (only : SpellsOnly line command)
    {old : SharedView D} {state : SharedState} (at : IsSharedAt g old state) where
  -- the disk was not called
  idle : OnlyReads g old.session.disk old.session.disk
  idle = only_reads_none g old.session.disk only_now

  -- a line that is refused before a snapshot is looked at
  pub settles-refuses : IsLoud command → (why : Refusal) → RefusesReader reader old command why
      → SettlesShared (ReaderStep reader) g (Whole line) old old state (Refused why)
  settles-refuses loud why refuses = settles-quiet at (Refused why) state at idle refl (λ told. (refuses-first at reader only loud why refuses, refl))

  -- the view with other snapshots
  abbrev holding : Snapshots → SharedView D
  holding held = record { session = old.session; held = held }

  view-is : (new : SharedView D) (held : Snapshots) → new.held ≡ held → new.session ≡ old.session → new ≡ holding held
  view-is new held is same = λ i. record { session = same i; held = is i }

  -- a snapshot is taken
  settles-taken : IsReader reader → ServesReader reader old command → command ≡ commands.Snapshot → state_of old.held reader ≢ states.Open
      → SettlesShared (ReaderStep reader) g (Whole line) old (holding (taken reader old.held)) state Done
  settles-taken seven served is other =
      let closed = closed-in old.held reader other in
      let live = is_live at.writer served.0 in
      let low : reader < 8 = omega (arith, seven.last) in
      settles-quiet at Done (record { writer = state.writer; readers = with_snapshot reader state.writer.committed state.readers })
      (record {
        writer = at.writer;
        stored = at.stored;
        weighed = at.weighed;
        snapshots = holds-taken g old.held old.session.disk state at.snapshots reader low closed live at.writer.reads
            (λ committed. sees-taker old.held.open_ones reader committed closed)
            (λ other committed opened i q. sees-taken old.held.open_ones reader other committed q i);
      })
      idle refl (λ told. (serves-none at reader only served (inl is), inl ((subst (λ (c : Command). SpellsOnly line c) is only).spelled, refl)))

  -- or there is no memory for it
  settles-lacks : ¬ NeverLacksMemory (Whole line) → SettlesShared (ReaderStep reader) g (Whole line) old old state (Faulted [] NoMemory)
  settles-lacks lacks = settles-quiet at (Faulted [] NoMemory) state at idle refl (λ told. (inl (lacks, refl), refl))

  snapshot-spared : command ≡ commands.Snapshot → ¬ NeverLacksMemory (Whole line)
  snapshot-spared is spared = by (subst IsSpared is (spared-only only spared))
    where
      by : IsSpared commands.Snapshot → ⊥
      by (inl none) = none
      by (inr (inl stats)) = cc
      by (inr (inr release)) = cc

  -- what becomes of `snapshot`
  pub settles-snapshot : IsReader reader → ServesReader reader old command → command ≡ commands.Snapshot → state_of old.held reader ≢ states.Open
      → (reply : Reply) (new : SharedView D) → MaySnap g reader old reply new
      → SettlesShared (ReaderStep reader) g (Whole line) old new state reply
  settles-snapshot seven served is other reply new (inl (done, held, same)) =
      subst (λ (r : Reply). SettlesShared (ReaderStep reader) g (Whole line) old new state r) (sym done)
      (subst (λ (view : SharedView D). SettlesShared (ReaderStep reader) g (Whole line) old view state Done)
      (sym (view-is new (taken reader old.held) held same)) (settles-taken seven served is other))
  settles-snapshot seven served is other reply new (inr (lacks, same)) =
      subst (λ (r : Reply). SettlesShared (ReaderStep reader) g (Whole line) old new state r) (sym lacks)
      (subst (λ (view : SharedView D). SettlesShared (ReaderStep reader) g (Whole line) old view state (Faulted [] NoMemory)) (sym same)
      (settles-lacks (snapshot-spared is)))

  -- and of `release`
  pub settles-release : IsReader reader → ServesReader reader old command → command ≡ commands.Release → (reply : Reply) (new : SharedView D)
      → MayRelease g reader old reply new → SameSights old.held.open_ones new.held.open_ones
      → SettlesShared (ReaderStep reader) g (Whole line) old new state reply
  settles-release seven served is reply new (done, open_ones, ended, same) sights =
      let low : reader < 8 = omega (arith, seven.last) in
      subst (λ (r : Reply). SettlesShared (ReaderStep reader) g (Whole line) old new state r) (sym done)
      (subst (λ (view : SharedView D). SettlesShared (ReaderStep reader) g (Whole line) old view state Done) (sym (view-is new new.held refl same))
      (settles-quiet at Done (record { writer = state.writer; readers = without_snapshot reader state.readers })
      (record {
        writer = at.writer;
        stored = at.stored;
        weighed = at.weighed;
        snapshots = holds-released g old.held old.session.disk state at.snapshots reader low new.held open_ones ended sights
            (λ sums covered. subst (AreCovered sums) (sym open_ones) (covered-released sums reader old.held.open_ones covered));
      })
      idle refl (λ told. (serves-none at reader only served (inr is), inr ((subst (λ (c : Command). SpellsOnly line c) is only).spelled, refl)))))

-- a fault is told
not_none : (n : ℕ) → nat_lt 0 n ≡ true → n ≢ 0
not_none n some none = grind (arith, nat_tests)

is_some : (n : ℕ) → n ≢ 0 → nat_lt 0 n ≡ true
is_some n some = grind (arith, nat_tests)

module _ {D : Type 0} {g : Ghosts D} (known : Bool) (reader : ℕ) {line : List ℕ} {command : Command} (only : SpellsOnly line command)
    (asks : IsQuestion command) {old new : SharedView D} {state : SharedState}
    (at : IsSharedAt (as_known known g) old state) (served : ServesReader reader old command) (opened : is_open reader old.held.open_ones ≡ true)
    (stays : Stays g old.session new.session) (same : new.held ≡ old.held) where
  weighed-on : IsWeighed new.session.console
  weighed-on opened_now =
      let was = sym stays.is_open ∙ opened_now in
      subst (λ (pairs : Pairs). AreWeighed pairs new.session.console.weight) (sym stays.written)
      (subst (λ (n : ℕ). AreWeighed old.session.console.written n) (sym (stays.weight was)) (at.weighed was))

  -- what is read leaves the session at its state
  read-at : IsSharedAt (as_known known g) new state
  read-at = record {
    writer = stays-at at.writer (stays-known known stays);
    stored = λ told. (quiet-stays (as_known known g) old.session new.session told (stays-known known stays) (at.stored told)).stored;
    weighed = weighed-on;
    snapshots =
        subst (λ (held : Snapshots). HoldsSnapshots (as_known known g) held new.session.disk state) (sym same)
        (holds-still (as_known known g) old.held old.session.disk state at.snapshots new.session.disk state.writer (λ told. refl)
        (λ told graph admits. (graph, admits, begin-all graph.names graph.names refl))
        (λ told. (quiet-stays (as_known known g) old.session new.session told (stays-known known stays) (at.stored told)).same));
  }

  -- the graph is looked at
  here-reached : (graph : Graph) → IsReached (console_of state.writer graph) (Whole line)
  here-reached graph = reached (console_of state.writer graph) only (inl (not_failed at.writer served.0)) (λ needs. absurd (asks-none command asks needs))
      (λ needs. absurd (asks-one command asks needs))

  read-step : (failed : Bool) (reply : Reply) → MayTell command reply → (told_fault reply ≢ 0 → failed ≡ true) → (told : (as_known known g).tells_reads)
      → Means (graph_of (own_records at served.0 told reader opened)) command reply → ReaderStep reader state (exchange (Whole line) failed reply) state
  read-step failed reply form blames told means = by reply form (means-own at served.0 told reader opened command reply means) step
    where
      graph : Graph
      graph = (own-snapshot at served.0 told reader opened).snapshot.graph

      step : ReadsSnapshot state reader (exchange (Whole line) failed reply)
      step = (
        serves-early at reader only served,
        graph,
        (own-snapshot at served.0 told reader opened).sees_it,
        command,
        only.spelled,
        asks,
        asked-step (console_of state.writer graph) only asks (here-reached graph) failed reply form blames
            (means-own at served.0 told reader opened command reply means),
      )

      by : (r : Reply) → MayTell command r → Means graph command r → ReadsSnapshot state reader (exchange (Whole line) failed r)
          → ReaderStep reader state (exchange (Whole line) failed r) state
      by Silent may meant reads = absurd may
      by Done may meant reads = absurd may
      by (NodeMade id) may meant reads = absurd may
      by (EdgeMade id) may meant reads = absurd may
      by (Told lines last) may meant reads = (reads, refl)
      by (Faulted lines fault) may meant reads = (inr reads, refl)
      by (Refused why) may meant reads =
          (serves-refused at reader only served graph (own-snapshot at served.0 told reader opened).sees_it why (meant state.writer.shape.limit), refl)

  -- a line that reads a snapshot, by its reply
  pub settles-asks : (reply : Reply) → MayTell command reply → (told_fault reply ≢ 0 → Rose (g.faults old.session.disk) (g.faults new.session.disk))
      → (g.tells_reads → IsNamedStore (sees old.held.open_ones reader old.session.console.committed) old.session.console.shape old.session.console.names
      → Means (graph_of (sees old.held.open_ones reader old.session.console.committed)) command reply)
      → SettlesShared (ReaderStep reader) (as_known known g) (Whole line) old new state reply
  settles-asks reply form rose means = record {
    after = state;
    arrives = record { is_at = read-at; crash = crash-kept at.writer state.writer new.session.disk (reads-known known stays.beneath.disk) };
    disk_failed = nat_lt 0 (told_fault reply);
    counted = λ failed. rose (not_none (told_fault reply) failed);
    step = λ told. read-step (nat_lt 0 (told_fault reply)) reply form (is_some (told_fault reply)) told
        (means (told_of known g told) (own-named at served.0 told reader opened));
    blames = is_some (told_fault reply);
  }
