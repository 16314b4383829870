-- What a session keeps of the snapshots, after a line.
use Rattle.std.proofs.Common.{◌≡◌, ℕ, ◌+◌, ◌<◌, Bool, true, false, List, ◌++◌, length, slice_index_or, refl, ap, sym, subst, ◌∙◌}
use Rattle.std.proofs.lemmas.List.{append_assoc}
use Rattle.std.specs.List.{AllByRecursion}
use Rattle.disk_model.specs.declared.disk.Disk.{Ghosts}
use Rattle.plain_graph.specs.Graph.{Graph}
use Rattle.rec_bytes.specs.Pairs.{Pairs}
use Rattle.rec_bytes.specs.declared.key.Key.{Key}
use Rattle.rec_bytes.specs.declared.record.Rec.{Rec}
use Rattle.rec_bytes.specs.declared.shape.Shape.{Shape}
use Rattle.record_file.specs.Redone.{Redoes}
use Rattle.store_rules.specs.Graph.{graph_of}
use Rattle.store_rules.specs.Indexes.{IsIndexed}
use Rattle.snap_store.specs.Keeping.{EndsFor, KeepsHeld, lacked}
use Rattle.snap_store.specs.Layers.{Layers, is_open, readers_of, sees}
use Rattle.snap_store.specs.Snaps.{Snapshots, with_room}
use Rattle.snap_store.specs.Sums.{risen}
use Rattle.txn_core.specs.Sights.{KeepsSights}
use Rattle.graph_session.specs.Console.{BeginWith}
use Rattle.graph_session.specs.SharedConsole.{AreOfSessions, HoldsSnapshots, ShowsGraph, snapshot_readers}
use Rattle.graph_session.specs.Snapshots.{Outlives, Readers, SharedState, Snapshot}
use Rattle.graph_session.specs.State.{Admits, State}
use Rattle.graph_session.proofs.SnapshotLists.{AreApart, IsLeft, all-layers, all-left, all-open, all-readers, all_both}
use Rattle.graph_session.proofs.SnapshotLists.{all_more, apart-of, distinct-of, outlives-with_room, width-with_room}

-- The state admits graphs that have first the names of one that the other admits.
abbrev pub NamesGoOn : Type 0 → State → State → Type 0
NamesGoOn tells old new = tells → (graph : Graph) → Admits new graph → (before : Graph) × Admits old before × BeginWith graph.names before.names

pub begin-on : (a b c : List (List ℕ)) → BeginWith a b → BeginWith b c → BeginWith a c
begin-on a b c (more, is) (less, was) = (less ++ more, is ∙ ap (λ xs. xs ++ more) was ∙ append_assoc c less more)

-- the snapshot sees its graph where it sees what it saw
pub shows-on : (before after : Layers) (old new : Shape) (earlier later : Key → Rec) (snapshot : Snapshot) → new ≡ old
    → sees after snapshot.reader later ≡ sees before snapshot.reader earlier → ShowsGraph before old earlier snapshot → ShowsGraph after new later snapshot
shows-on before after old new earlier later snapshot shape sight shows = record {
  store = subst (λ (records : Key → Rec). IsIndexed records new) (sym sight) (subst (IsIndexed (sees before snapshot.reader earlier)) (sym shape) shows.store);
  graph = ap graph_of sight ∙ shows.graph;
}

module _ {D : Type 0} (g : Ghosts D) (held : Snapshots) (old : D) (state : SharedState) (holds : HoldsSnapshots g held old state) (new : D) (writer : State)
    (shape : g.tells_reads → writer.shape ≡ state.writer.shape)
    (names : NamesGoOn g.tells_reads state.writer writer) where
  names-on : (snapshots : List Snapshot) → (told : g.tells_reads) → ((graph : Graph) → Admits state.writer graph → AllByRecursion (λ (snapshot : Snapshot).
      BeginWith graph.names snapshot.graph.names) snapshots)
      → (graph : Graph) → Admits writer graph → AllByRecursion (λ (snapshot : Snapshot). BeginWith graph.names snapshot.graph.names) snapshots
  names-on snapshots told had graph admits =
      let found = names told graph admits in
      all_more (λ (snapshot : Snapshot). BeginWith found.0.names snapshot.graph.names) (λ (snapshot : Snapshot). BeginWith graph.names snapshot.graph.names)
      snapshots
      (λ snapshot begins. begin-on graph.names found.0.names snapshot.graph.names found.2 begins) (had found.0 found.1)

  -- no old record was kept, and what is read of the disk is what was read
  pub holds-still : (g.tells_reads → (space : Key → Rec) → Redoes (g.reads new) space → Redoes (g.reads old) space)
      → HoldsSnapshots g held new (record { writer = writer; readers = state.readers })
  holds-still same = record {
    form = holds.form;
    readers = holds.readers;
    ended = holds.ended;
    within = holds.within;
    shows = λ told committed redoes.
        all_more (ShowsGraph held.open_ones state.writer.shape committed) (ShowsGraph held.open_ones writer.shape committed) state.readers.open_ones
        (λ snapshot shows. shows-on held.open_ones held.open_ones state.writer.shape writer.shape committed committed snapshot (shape told) refl shows)
        (holds.shows told committed (same told committed redoes));
    names = λ told. names-on state.readers.open_ones told (holds.names told);
  }

  -- What the readers have after a transaction of this weight.
  pub record HoldsAfter (weight : ℕ) (kept : Snapshots) : Type 0 where
    pub readers : Readers
    pub outlives : Outlives weight state.readers readers
    pub are_held : HoldsSnapshots g kept new (record { writer = writer; readers = readers })

  module _ (committed : Key → Rec) (stored : g.tells_reads → Redoes (g.reads old) committed) (kept : Snapshots) (sights : KeepsSights g committed new held kept)
      (written : Pairs) (ends : EndsFor written held kept) (weight : ℕ) (keeps : KeepsHeld weight held kept) where
    left : IsLeft weight state.readers.open_ones state.readers.ended (with_room (lacked written held.open_ones) held.open_ones held.ended)
    left = outlives-with_room weight (lacked written held.open_ones) held.open_ones state.readers.open_ones held.ended state.readers.ended holds.within.sums
        holds.readers holds.within.each (apart-of held.open_ones holds.form.distinct)
        (subst (λ n. AllByRecursion (λ reader. reader < n) (readers_of held.open_ones)) (sym holds.form.width) (all-readers (λ reader. reader < 8)
        held.open_ones holds.form.few)) holds.ended
        (λ reader was gone. keeps.overfull holds.within.sums holds.within.covered reader was (ends.open_ones reader ∙ gone))

    order : readers_of kept.open_ones ≡ snapshot_readers left.readers.open_ones
    order = ends.order ∙ left.same

    width : length kept.ended ≡ 8
    width = ap (λ (flags : List Bool). length flags) ends.ended ∙ width-with_room (lacked written held.open_ones) held.open_ones held.ended ∙ holds.form.width

    form : AreOfSessions kept
    form = record {
      distinct = distinct-of kept.open_ones (subst AreApart (sym ends.order) left.apart);
      few = all-layers (λ reader. reader < 8) kept.open_ones
          (subst (λ (xs : List ℕ). AllByRecursion (λ reader. reader < 8) xs) (sym ends.order)
          (subst (λ n. AllByRecursion (λ reader. reader < n) (readers_of (with_room (lacked written held.open_ones) held.open_ones held.ended).open_ones))
          (width-with_room (lacked written held.open_ones) held.open_ones held.ended ∙ holds.form.width) left.few));
      width = width;
    }

    -- old records were kept, and the oldest snapshots may have ended
    pub holds-kept : HoldsAfter weight kept
    holds-kept = record {
      readers = left.readers;
      outlives = left.outlive;
      are_held = record {
        form = form;
        readers = order;
        ended = λ reader. ap (λ (flags : List Bool). slice_index_or flags reader false) ends.ended ∙ left.flags reader;
        within = record {
          sums = risen weight holds.within.sums;
          each = all-left (λ (snapshot : Snapshot). holds.within.sums snapshot.reader ≡ snapshot.sum)
              (λ (snapshot : Snapshot). risen weight holds.within.sums snapshot.reader ≡ snapshot.sum)
              weight state.readers.open_ones state.readers.ended left.readers (λ snapshot is. ap (λ n. n + weight) is) holds.within.each left.outlive;
          covered = keeps.covered holds.within.sums holds.within.covered;
        };
        shows = λ told later redoes.
            all_both (ShowsGraph held.open_ones state.writer.shape committed) (λ (snapshot : Snapshot). is_open snapshot.reader kept.open_ones ≡ true)
            (ShowsGraph kept.open_ones writer.shape later) left.readers.open_ones
            (λ snapshot shows is. shows-on held.open_ones kept.open_ones state.writer.shape writer.shape committed later snapshot (shape told)
            (sights told later redoes snapshot.reader is) shows)
            (all-left (ShowsGraph held.open_ones state.writer.shape committed) (ShowsGraph held.open_ones state.writer.shape committed)
            weight state.readers.open_ones state.readers.ended left.readers
            (λ snapshot shows. record { store = shows.store; graph = shows.graph }) (holds.shows told committed (stored told)) left.outlive)
            (all-open kept.open_ones left.readers.open_ones order);
        names = λ told. names-on left.readers.open_ones told (λ graph admits.
            all-left (λ (snapshot : Snapshot). BeginWith graph.names snapshot.graph.names) (λ (snapshot : Snapshot). BeginWith graph.names snapshot.graph.names)
            weight state.readers.open_ones state.readers.ended left.readers (λ snapshot begins. begins) (holds.names told graph admits) left.outlive);
      };
    }
