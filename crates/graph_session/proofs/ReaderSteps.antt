-- A line that reads a snapshot: a step of a console with the snapshot's graph, and what is known of the snapshot.
use Rattle.std.proofs.Common.{◌≡◌, ◌≢◌, ◌∙◌, ℕ, Bool, true, false, ◌||◌, nat_eq, List, [], ◌∷◌, ◌++◌, inl, inr, refl, sym, ap, subst, arith}
use mathlib.Core.Bool.{false≢true}
use Rattle.std.specs.List.{AllByRecursion, list_any}
use Rattle.disk_model.specs.declared.disk.Disk.{Ghosts}
use Rattle.stream_io.specs.Lines.{Whole}
use Rattle.plain_graph.specs.Graph.{Graph}
use Rattle.plain_graph.specs.Lines.{IsQuestion}
use Rattle.plain_graph.specs.Reply.{DamagedRecord, DiskFailed, Done, EdgeMade, Faulted, NoMemory, NodeMade, PastCount, Refused, Reply, Silent, Told}
use Rattle.plain_graph.specs.declared.command.Command.{Command}
use Rattle.rec_bytes.specs.declared.key.Key.{Key}
use Rattle.rec_bytes.specs.declared.record.Rec.{Rec}
use Rattle.rec_bytes.specs.declared.shape.Shape.{Shape}
use Rattle.store_rules.specs.Graph.{graph_of}
use Rattle.store_rules.specs.Indexes.{IsIndexed}
use Rattle.snap_store.specs.Layers.{is_open, sees}
use Rattle.graph_session.specs.Console.{BeginWith}
use Rattle.graph_session.specs.Exchange.{ConsoleStep, told_fault}
use Rattle.traversal_run.specs.Reading.{IsNamedStore}
use Rattle.graph_session.specs.MayStep.{MayTell}
use Rattle.graph_session.specs.Questions.{Means}
use Rattle.graph_session.specs.Refusals.{IsReached, SpellsOnly}
use Rattle.graph_session.specs.SharedConsole.{IsSharedAt, ShowsGraph, snapshot_readers}
use Rattle.graph_session.specs.SnapshotEffects.{SharedView}
use Rattle.graph_session.specs.Snapshots.{SeesAmong, SharedState, Snapshot}
use Rattle.graph_session.specs.State.{State, seen}
use Rattle.graph_session.specs.declared.health.Health.TheVariants as healths
use Rattle.graph_session.proofs.Conditions.{idle-accepted, single-refused}
use Rattle.graph_session.proofs.Lifting.{carries-told, leaves-same}
use Rattle.graph_session.proofs.SnapshotLaws.{begin-on}
use Rattle.graph_session.proofs.SnapshotLists.{all_both, open-any, same_number}
use Rattle.graph_session.proofs.Spelling.{asks-unchanging, spared-only}
use Rattle.graph_session.proofs.Stands.{admits-own}
use Rattle.graph_session.proofs.States.{is_live}

-- ---- a line that reads, over the graph of a console

module _ (state : State) {line : List ℕ} {command : Command} (only : SpellsOnly line command) (asks : IsQuestion command) (reach : IsReached state (Whole line))
  where
    pub asked-step : (failed : Bool) (reply : Reply) → MayTell command reply → (told_fault reply ≢ 0 → failed ≡ true) → Means (seen state) command reply
        → ConsoleStep state (record { line = Whole line; disk_failed = failed; reply = reply }) state
    asked-step failed Silent form blames means = absurd form
    asked-step failed Done form blames means = absurd form
    asked-step failed (NodeMade id) form blames means = absurd form
    asked-step failed (EdgeMade id) form blames means = absurd form
    asked-step failed (Told lines last) form blames means = (
      idle-accepted state only (asks-unchanging command asks) (means.0 state.shape.limit) reach,
      command,
      only.spelled,
      carries-told state command asks lines last means.1,
    )
    asked-step failed (Faulted lines PastCount) form blames means = (reach, command, only.spelled, means, refl)
    asked-step failed (Faulted lines NoMemory) form blames means = (
      (λ spared. form.0 (spared-only only spared)),
      refl,
      inr
          (command, only.spelled, reach, means),
    )
    asked-step failed (Faulted lines DiskFailed) form blames means =
        (blames (λ e. absurd (omega (arith, e))), reach, command, only.spelled, means, leaves-same state line command asks)
    asked-step failed (Faulted lines (DamagedRecord file id)) form blames means = absurd means
    asked-step failed (Refused why) form blames means = (single-refused state only reach why (means state.shape.limit), refl)

-- ---- the reader's snapshot

-- The reader's open snapshot, which has P.
pub record HasSnapshot (P : Snapshot → Type 0) (snapshots : List Snapshot) (reader : ℕ) : Type 0 where
  pub snapshot : Snapshot
  pub is_own : snapshot.reader ≡ reader
  pub sees_it : SeesAmong snapshots reader snapshot.graph
  pub says : P snapshot

find-snapshot : (P : Snapshot → Type 0) (snapshots : List Snapshot) (reader : ℕ) → list_any (nat_eq reader) (snapshot_readers snapshots) ≡ true
    → AllByRecursion P snapshots → HasSnapshot P snapshots reader
find-snapshot P [] reader has each = absurd (false≢true has)
find-snapshot P (first ∷ later) reader has each = by (nat_eq reader first.reader) refl has (λ more. find-snapshot P later reader more each.1)
  where
    by : (t : Bool) → nat_eq reader first.reader ≡ t → (t || list_any (nat_eq reader) (snapshot_readers later)) ≡ true
        → (list_any (nat_eq reader) (snapshot_readers later) ≡ true → HasSnapshot P later reader) → HasSnapshot P (first ∷ later) reader
    by true e h more = let own = sym (same_number reader first.reader e) in record { snapshot = first; is_own = own; sees_it = inl (own, refl); says = each.0 }
    by false e h more = let found = more h in record { snapshot = found.snapshot; is_own = found.is_own; sees_it = inr found.sees_it; says = found.says }

module _ {D : Type 0} {g : Ghosts D} {view : SharedView D} {state : SharedState} (at : IsSharedAt g view state)
    (live : view.session.console.health ≡ healths.Live) (told : g.tells_reads) (reader : ℕ)
    (opened : is_open reader view.held.open_ones ≡ true) where
  -- What a snapshot sees over what is committed: a store of its graph, whose names are the first of the session's.
  abbrev pub IsSeen : Snapshot → Type 0
  IsSeen snapshot =
      ShowsGraph view.held.open_ones state.writer.shape view.session.console.committed snapshot × BeginWith state.writer.committed.names snapshot.graph.names

  pub own-snapshot : HasSnapshot IsSeen state.readers.open_ones reader
  own-snapshot =
      find-snapshot IsSeen state.readers.open_ones reader
      (ap (list_any (nat_eq reader)) (sym at.snapshots.readers) ∙ sym (open-any reader view.held.open_ones) ∙ opened)
      (all_both (ShowsGraph view.held.open_ones state.writer.shape view.session.console.committed) (λ (snapshot : Snapshot).
      BeginWith state.writer.committed.names snapshot.graph.names) IsSeen state.readers.open_ones
      (λ snapshot shows begins. (shows, begins)) (at.snapshots.shows told view.session.console.committed (at.stored told live))
      (at.snapshots.names told state.writer.committed (admits-own state.writer (is_live at.writer live))))

  -- the records that the reader sees
  abbrev pub own_records : Key → Rec
  own_records = sees view.held.open_ones reader view.session.console.committed

  seen-as : sees view.held.open_ones own-snapshot.snapshot.reader view.session.console.committed ≡ own_records
  seen-as = ap (λ r. sees view.held.open_ones r view.session.console.committed) own-snapshot.is_own

  pub own-graph : graph_of own_records ≡ own-snapshot.snapshot.graph
  own-graph = ap graph_of (sym seen-as) ∙ own-snapshot.says.0.graph

  pub own-named : IsNamedStore own_records view.session.console.shape view.session.console.names
  own-named =
      let had = at.writer.holds told (is_live at.writer live) in
      let begins = begin-on view.session.console.names state.writer.committed.names own-snapshot.snapshot.graph.names had.brought own-snapshot.says.1 in
      let store = subst (λ (shape : Shape). IsIndexed own_records shape) at.writer.shape
      (subst (λ (records : Key → Rec). IsIndexed records state.writer.shape) seen-as own-snapshot.says.0.store) in
      record {
        store = store.store;
        indexes = store.indexes;
        more = begins.0;
        named = begins.1 ∙ ap (λ (graph : Graph). graph.names ++ begins.0) (sym own-graph);
      }

  -- what a reply means in the graph of the records it means in the snapshot's
  pub means-own : (command : Command) (reply : Reply) → Means (graph_of own_records) command reply → Means own-snapshot.snapshot.graph command reply
  means-own command reply = subst (λ (graph : Graph). Means graph command reply) own-graph
