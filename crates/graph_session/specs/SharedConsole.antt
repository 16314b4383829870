-- Which state of the console of all sessions a session is at.
use Rattle.std.specs.Prelude.{◌≡◌, ◌<◌, ℕ, nat_eq, List, length, map}
use Rattle.std.specs.List.{AllByRecursion, list_any}
use Rattle.disk_model.specs.declared.disk.Disk.{Ghosts}
use Rattle.rec_bytes.specs.declared.key.Key.{Key}
use Rattle.rec_bytes.specs.declared.record.Rec.{Rec}
use Rattle.rec_bytes.specs.declared.shape.Shape.{Shape}
use Rattle.record_file.specs.Redone.{Redoes}
use Rattle.plain_graph.specs.Graph.{Graph}
use Rattle.store_rules.specs.Graph.{graph_of}
use Rattle.store_rules.specs.Indexes.{IsIndexed}
use Rattle.snap_store.specs.Layers.{AreDistinct, Layer, Layers, readers_of, sees}
use Rattle.snap_store.specs.Snaps.{Snapshots, has_ended}
use Rattle.snap_store.specs.Sums.{AreCovered}
use Rattle.graph_session.specs.Console.{BeginWith, IsAt}
use Rattle.graph_session.specs.SnapshotEffects.{IsWeighed, SharedView}
use Rattle.graph_session.specs.Snapshots.{SharedState, Snapshot}
use Rattle.graph_session.specs.State.{Admits}
use Rattle.graph_session.specs.declared.health.Health.TheVariants as healths

-- the readers of these snapshots
abbrev pub snapshot_readers : List Snapshot → List ℕ
snapshot_readers snapshots = map (λ (snapshot : Snapshot). snapshot.reader) snapshots

-- Through the layers over these committed records the snapshot sees its graph, in a store that
-- keeps all rules.
pub record ShowsGraph (layers : Layers) (shape : Shape) (committed : Key → Rec)
    (snapshot : Snapshot) : Type 0 where
  pub store : IsIndexed (sees layers snapshot.reader committed) shape
  pub graph : graph_of (sees layers snapshot.reader committed) ≡ snapshot.graph

-- Of each snapshot, no more records are kept in its layer and in younger ones than its sum says.
pub record AreWithinSums (layers : Layers) (snapshots : List Snapshot) : Type 0 where
  pub sums : ℕ → ℕ
  pub each : AllByRecursion (λ (snapshot : Snapshot). sums snapshot.reader ≡ snapshot.sum) snapshots
  pub covered : AreCovered sums layers

-- No reader has two layers, and each is one of the eight sessions.
pub record AreOfSessions (held : Snapshots) : Type 0 where
  pub distinct : AreDistinct held.open_ones
  pub few : AllByRecursion (λ (layer : Layer). layer.reader < 8) held.open_ones
  pub width : length held.ended ≡ 8

-- What is kept of the snapshots is what the state says. Whatever records are read of the disk, each
-- snapshot sees its graph over them. No name is ever removed, so each graph that the disk may hold
-- has the snapshot's names first.
pub record HoldsSnapshots {D : Type 0} (g : Ghosts D) (held : Snapshots) (disk : D)
    (state : SharedState) : Type 0 where
  pub form : AreOfSessions held
  pub readers : readers_of held.open_ones ≡ snapshot_readers state.readers.open_ones
  pub ended :
      (reader : ℕ) → has_ended held reader ≡ list_any (nat_eq reader) state.readers.ended
  pub within : AreWithinSums held.open_ones state.readers.open_ones
  pub shows :
      g.tells_reads → (committed : Key → Rec) → Redoes (g.reads disk) committed
      → AllByRecursion (ShowsGraph held.open_ones state.writer.shape committed)
      state.readers.open_ones
  pub names :
      g.tells_reads → (graph : Graph) → Admits state.writer graph
      → AllByRecursion (λ (snapshot : Snapshot). BeginWith graph.names snapshot.graph.names)
      state.readers.open_ones

-- The session is at the state: its console as before, and what it keeps of the snapshots. While it
-- is live, what is read of the disk is what is committed, and the open transaction has written no
-- more records than it weighs.
pub record IsSharedAt {D : Type 0} (g : Ghosts D) (view : SharedView D) (state : SharedState)
    : Type 0 where
  pub writer : IsAt g view.session state.writer
  pub stored :
      g.tells_reads → view.session.console.health ≡ healths.Live
      → Redoes (g.reads view.session.disk) view.session.console.committed
  pub weighed : IsWeighed view.session.console
  pub snapshots : HoldsSnapshots g view.held view.session.disk state
