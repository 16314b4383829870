-- A snapshot is taken, or released.
use Rattle.std.proofs.Common.{◌≡◌, ℕ, zero, suc, ◌+◌, ◌<◌, Bool, true, false, cond, not, ◌||◌, nat_eq, replicate, None}
use Rattle.std.proofs.Common.{is_some, List, [], ◌∷◌, ◌++◌, length, filter, slice_index_or, slice_set, refl, ap, sym}
use Rattle.std.proofs.Common.{subst, ◌∙◌, arith}
use mathlib.Core.Bool.{false≢true}
use Rattle.std.proofs.lemmas.Bool.Decides.{nat_tests}
use Rattle.std.proofs.lemmas.List.{append-nil, length-set, map-append}
use Rattle.std.specs.List.{AllByRecursion, list_any}
use Rattle.disk_model.specs.declared.disk.Disk.{Ghosts}
use Rattle.plain_graph.specs.Graph.{Graph}
use Rattle.rec_bytes.specs.declared.key.Key.{Key}
use Rattle.rec_bytes.specs.declared.record.Rec.{Rec}
use Rattle.record_file.specs.Redone.{Redoes}
use Rattle.record_file.specs.Unique.{Redoes-unique}
use Rattle.store_rules.specs.Graph.{graph_of}
use Rattle.store_rules.specs.Indexes.{IsIndexed}
use Rattle.snap_store.specs.Layers.{AreDistinct, Layer, Layers, SameSights, is_open, joined, readers_of, released, released_behind, sees, total}
use Rattle.snap_store.specs.Snaps.{Snapshots, no_snapshots, taken}
use Rattle.snap_store.specs.Sums.{AreCovered}
use Rattle.snap_store.proofs.ShapeLaws.{distinct-released, distinct-taken}
use Rattle.graph_session.specs.Console.{BeginWith, IsAt}
use Rattle.graph_session.specs.SharedConsole.{HoldsSnapshots, IsSharedAt, ShowsGraph, snapshot_readers}
use Rattle.graph_session.specs.SnapshotEffects.{SharedView}
use Rattle.graph_session.specs.Snapshots.{SharedState, Snapshot, is_of, with_snapshot, without_reader, without_snapshot}
use Rattle.graph_session.specs.Stands.{HoldsAdmitted}
use Rattle.graph_session.specs.State.{Live, State}
use Rattle.graph_session.proofs.SnapshotLaws.{shows-on}
use Rattle.graph_session.proofs.SnapshotLists.{AreApart, all-layers, all-open, all-readers, all_both, all_end}
use Rattle.graph_session.proofs.SnapshotLists.{all_filtered, all_more, apart-of, flag-set, opens, own_number}
use Rattle.graph_session.proofs.SnapshotLists.{same_number}
use Rattle.graph_session.proofs.Stands.{admits-only}

pub symmetric : (m n : ℕ) → nat_eq m n ≡ nat_eq n m
symmetric m n = grind (arith, nat_tests)

-- ---- the readers but one

abbrev but : ℕ → List ℕ → List ℕ
but reader readers = filter (λ other. not (nat_eq other reader)) readers

pub without-any : (r reader : ℕ) (xs : List ℕ) → cond (nat_eq r reader) false (list_any (nat_eq r) xs) ≡ list_any (nat_eq r) (but reader xs)
without-any r reader [] = by (nat_eq r reader)
  where
    by : (t : Bool) → cond t false false ≡ false
    by true = refl
    by false = refl
without-any r reader (x ∷ xs) = by (nat_eq x reader) (nat_eq r reader) refl refl (without-any r reader xs)
  where
    -- the number is the first one and not the reader, or the reader and not the first one
    misses : nat_eq x reader ≡ true → nat_eq r reader ≡ false → nat_eq r x ≡ false
    misses e f = grind (arith, nat_tests)

    passes : nat_eq x reader ≡ false → nat_eq r reader ≡ true → nat_eq r x ≡ false
    passes e f = grind (arith, nat_tests)

    by : (u t : Bool) → nat_eq x reader ≡ u → nat_eq r reader ≡ t → cond (nat_eq r reader) false (list_any (nat_eq r) xs) ≡ list_any (nat_eq r) (but reader xs)
        → cond t false (nat_eq r x || list_any (nat_eq r) xs) ≡ list_any (nat_eq r) (cond (not u) (x ∷ but reader xs) (but reader xs))
    by true true e f later = ap (λ (t : Bool). cond t false (list_any (nat_eq r) xs)) (sym f) ∙ later
    by true false e f later = ap (λ (b : Bool). b || list_any (nat_eq r) xs) (misses e f) ∙ ap (λ (t : Bool). cond t false (list_any (nat_eq r) xs)) (sym f)
        ∙ later
    by false true e f later = sym (ap (λ (b : Bool). b || list_any (nat_eq r) (but reader xs)) (passes e f) ∙ sym later ∙ ap (λ (t : Bool). cond t false
        (list_any (nat_eq r) xs)) f)
    by false false e f later = ap (λ (b : Bool). nat_eq r x || b) (ap (λ (t : Bool). cond t false (list_any (nat_eq r) xs)) (sym f) ∙ later)

-- one that isn't there takes none away
but-none : (reader : ℕ) (xs : List ℕ) → list_any (nat_eq reader) xs ≡ false → but reader xs ≡ xs
but-none reader [] h = refl
but-none reader (x ∷ xs) h = by (nat_eq reader x) (nat_eq x reader) (symmetric reader x) h (but-none reader xs)
  where
    by : (s t : Bool) → s ≡ t → (s || list_any (nat_eq reader) xs) ≡ false → (list_any (nat_eq reader) xs ≡ false → but reader xs ≡ xs)
        → cond (not t) (x ∷ but reader xs) (but reader xs) ≡ x ∷ xs
    by true t e k more = absurd (false≢true (sym k))
    by false true e k more = absurd (false≢true e)
    by false false e k more = ap (λ ys. x ∷ ys) (more k)

but-first : (reader x : ℕ) (xs : List ℕ) → nat_eq reader x ≡ true → list_any (nat_eq x) xs ≡ false → but reader (x ∷ xs) ≡ xs
but-first reader x xs is none =
    ap (λ (t : Bool). cond (not t) (x ∷ but reader xs) (but reader xs)) (symmetric x reader ∙ is)
    ∙ but-none reader xs (ap (λ n. list_any (nat_eq n) xs) (same_number reader x is) ∙ none)

but-other : (reader x : ℕ) (xs : List ℕ) → nat_eq reader x ≡ false → but reader (x ∷ xs) ≡ x ∷ but reader xs
but-other reader x xs is = ap (λ (t : Bool). cond (not t) (x ∷ but reader xs) (but reader xs)) (symmetric x reader ∙ is)

behind-readers : (reader : ℕ) (older : Layer) (layers : Layers) → AreApart (readers_of layers)
    → readers_of (released_behind reader older layers) ≡ older.reader ∷ but reader (readers_of layers)
behind-readers reader older [] apart = refl
behind-readers reader older (layer ∷ younger) apart = by (nat_eq reader layer.reader) refl (behind-readers reader layer younger apart.1)
  where
    by : (t : Bool) → nat_eq reader layer.reader ≡ t → readers_of (released_behind reader layer younger) ≡ layer.reader ∷ but reader (readers_of younger)
        → readers_of (cond t (joined older layer ∷ younger) (older ∷ released_behind reader layer younger)) ≡ older.reader ∷ but reader
        (layer.reader ∷ readers_of younger)
    by true e more = ap (λ xs. older.reader ∷ xs) (sym (but-first reader layer.reader (readers_of younger) e apart.0))
    by false e more = ap (λ xs. older.reader ∷ xs) (more ∙ sym (but-other reader layer.reader (readers_of younger) e))

pub released-readers : (reader : ℕ) (layers : Layers) → AreApart (readers_of layers) → readers_of (released reader layers) ≡ but reader (readers_of layers)
released-readers reader [] apart = refl
released-readers reader (layer ∷ younger) apart = by (nat_eq reader layer.reader) refl
  where
    by : (t : Bool) → nat_eq reader layer.reader ≡ t → readers_of (cond t younger (released_behind reader layer younger)) ≡ but reader
        (layer.reader ∷ readers_of younger)
    by true e = sym (but-first reader layer.reader (readers_of younger) e apart.0)
    by false e = behind-readers reader layer younger apart.1 ∙ sym (but-other reader layer.reader (readers_of younger) e)

kept-readers : (reader : ℕ) (snapshots : List Snapshot) → but reader (snapshot_readers snapshots) ≡ snapshot_readers
    (filter (λ (snapshot : Snapshot). not (is_of reader snapshot)) snapshots)
kept-readers reader [] = refl
kept-readers reader (snapshot ∷ later) = by (nat_eq snapshot.reader reader) (kept-readers reader later)
  where
    by : (t : Bool) → but reader (snapshot_readers later) ≡ snapshot_readers (filter (λ (s : Snapshot). not (is_of reader s)) later)
        → cond (not t) (snapshot.reader ∷ but reader (snapshot_readers later)) (but reader (snapshot_readers later))
        ≡ snapshot_readers (cond (not t) (snapshot ∷ filter (λ (s : Snapshot). not (is_of reader s)) later) (filter (λ (s : Snapshot). not (is_of reader s))
        later))
    by true more = more
    by false more = ap (λ xs. snapshot.reader ∷ xs) more

-- ---- one reader more

total-end : (reader : ℕ) (layers : Layers) → total (layers ++ record { reader = reader; kept = [] } ∷ []) ≡ total layers
total-end reader [] = refl
total-end reader (layer ∷ younger) = ap (λ n. length layer.kept + n) (total-end reader younger)

covered-end : (old new : ℕ → ℕ) (reader : ℕ) (layers : Layers) → AllByRecursion (λ (layer : Layer). new layer.reader ≡ old layer.reader) layers
    → AreCovered old layers
    → AreCovered new (layers ++ record { reader = reader; kept = [] } ∷ [])
covered-end old new reader [] same covered = (omega arith, tt)
covered-end old new reader (layer ∷ younger) same covered =
    (omega (arith, same.0, covered.0, total-end reader (layer ∷ younger)), covered-end old new reader younger same.1 covered.1)

-- one that is open is none that isn't
pub not-closed : (reader other : ℕ) (layers : Layers) → is_open reader layers ≡ false → is_open other layers ≡ true → nat_eq other reader ≡ false
not-closed reader other layers closed is = by (nat_eq other reader) refl
  where
    by : (t : Bool) → nat_eq other reader ≡ t → t ≡ false
    by true e = absurd (false≢true (sym closed ∙ ap (λ n. is_open n layers) (sym (same_number other reader e)) ∙ is))
    by false e = refl

all-opens : (layers : Layers) → AllByRecursion (λ (layer : Layer). is_open layer.reader layers ≡ true) layers
all-opens layers = all-layers (λ reader. is_open reader layers ≡ true) layers (opens layers)

-- ---- what the session keeps of them

module _ {D : Type 0} (g : Ghosts D) (held : Snapshots) (disk : D) (state : SharedState) (holds : HoldsSnapshots g held disk state) (reader : ℕ)
    (low : reader < 8) where
  flags-cleared : (ended : List Bool) → ended ≡ slice_set held.ended reader false → (r : ℕ)
      → slice_index_or ended r false ≡ list_any (nat_eq r) (without_reader reader state.readers.ended)
  flags-cleared ended is r =
      ap (λ (flags : List Bool). slice_index_or flags r false) is ∙ flag-set held.ended reader r false (subst (λ n. reader < n) (sym holds.form.width) low)
      ∙ ap (λ (b : Bool). cond (nat_eq r reader) false b) (holds.ended r) ∙ without-any r reader state.readers.ended

  module _ (closed : is_open reader held.open_ones ≡ false) (live : state.writer.standing ≡ Live)
      (stored : g.tells_reads → HoldsAdmitted state.writer (g.reads disk))
      (own : (committed : Key → Rec) → sees (taken reader held).open_ones reader committed ≡ committed)
      (sights : (other : ℕ) (committed : Key → Rec) → is_open other held.open_ones ≡ true → sees (taken reader held).open_ones other committed ≡ sees
      held.open_ones other committed) where
    abbrev snapshot : Snapshot
    snapshot = record { reader = reader; graph = state.writer.committed; sum = 0 }

    others-open : AllByRecursion (λ (s : Snapshot). is_open s.reader held.open_ones ≡ true) state.readers.open_ones
    others-open = all-open held.open_ones state.readers.open_ones holds.readers

    abbrev sums : ℕ → ℕ
    sums r = cond (nat_eq r reader) 0 (holds.within.sums r)

    sums-other : (other : ℕ) → is_open other held.open_ones ≡ true → sums other ≡ holds.within.sums other
    sums-other other is = ap (λ (t : Bool). cond t 0 (holds.within.sums other)) (not-closed reader other held.open_ones closed is)

    shows-own : (committed : Key → Rec) → g.tells_reads → Redoes (g.reads disk) committed
        → ShowsGraph (taken reader held).open_ones state.writer.shape committed snapshot
    shows-own committed told redoes =
        let found = stored told in
        let same : committed ≡ found.2.space = Redoes-unique (g.reads disk) committed found.2.space redoes found.2.redoes in
        record {
          store = subst (λ (records : Key → Rec). IsIndexed records state.writer.shape) (sym (own committed ∙ same)) found.2.store;
          graph = ap graph_of (own committed ∙ same) ∙ sym found.2.graph_is ∙ admits-only state.writer found.0 live found.1;
        }

    pub holds-taken : HoldsSnapshots g (taken reader held) disk (record {
      writer = state.writer;
      readers = with_snapshot reader state.writer.committed
          state.readers;
    })
    holds-taken = record {
      form = record {
        distinct = distinct-taken held.open_ones reader closed holds.form.distinct;
        few = all_end (λ (layer : Layer). layer.reader < 8) held.open_ones (record { reader = reader; kept = [] }) holds.form.few low;
        width = length-set held.ended reader false ∙ holds.form.width;
      };
      readers = map-append (λ (layer : Layer). layer.reader) held.open_ones (record { reader = reader; kept = [] } ∷ [])
          ∙ ap (λ xs. xs ++ reader ∷ []) holds.readers ∙ sym (map-append (λ (s : Snapshot). s.reader) state.readers.open_ones (snapshot ∷ []));
      ended = flags-cleared (taken reader held).ended refl;
      within = record {
        sums = sums;
        each = all_end (λ (s : Snapshot). sums s.reader ≡ s.sum) state.readers.open_ones snapshot
            (all_both (λ (s : Snapshot). is_open s.reader held.open_ones ≡ true) (λ (s : Snapshot). holds.within.sums s.reader ≡ s.sum)
            (λ (s : Snapshot). sums s.reader ≡ s.sum) state.readers.open_ones
            (λ s is sum. sums-other s.reader is ∙ sum) others-open holds.within.each)
            (ap (λ (t : Bool). cond t 0 (holds.within.sums reader)) (own_number reader));
        covered = covered-end holds.within.sums sums reader held.open_ones
            (all_more (λ (layer : Layer). is_open layer.reader held.open_ones ≡ true) (λ (layer : Layer). sums layer.reader ≡ holds.within.sums layer.reader)
            held.open_ones
            (λ layer is. sums-other layer.reader is) (all-opens held.open_ones)) holds.within.covered;
      };
      shows = λ told committed redoes.
          all_end (ShowsGraph (taken reader held).open_ones state.writer.shape committed) state.readers.open_ones snapshot
          (all_both (λ (s : Snapshot). is_open s.reader held.open_ones ≡ true) (ShowsGraph held.open_ones state.writer.shape committed)
          (ShowsGraph (taken reader held).open_ones state.writer.shape committed)
          state.readers.open_ones (λ s is shows. shows-on held.open_ones (taken reader held).open_ones state.writer.shape state.writer.shape committed committed
          s refl (sights s.reader committed is) shows)
          others-open (holds.shows told committed redoes))
          (shows-own committed told redoes);
      names = λ told graph admits.
          all_end (λ (s : Snapshot). BeginWith graph.names s.graph.names) state.readers.open_ones snapshot (holds.names told graph admits)
          ([], ap (λ (found : Graph). found.names) (admits-only state.writer graph live admits) ∙ sym (append-nil state.writer.committed.names));
    }

  module _ (kept : Snapshots) (open_ones : kept.open_ones ≡ released reader held.open_ones) (ended : kept.ended ≡ slice_set held.ended reader false)
      (sights : SameSights held.open_ones kept.open_ones)
      (covered : (sums : ℕ → ℕ) → AreCovered sums held.open_ones → AreCovered sums kept.open_ones) where
    order : readers_of kept.open_ones ≡ but reader (readers_of held.open_ones)
    order = ap readers_of open_ones ∙ released-readers reader held.open_ones (apart-of held.open_ones holds.form.distinct)

    abbrev left : List Snapshot
    left = filter (λ (s : Snapshot). not (is_of reader s)) state.readers.open_ones

    same : readers_of kept.open_ones ≡ snapshot_readers left
    same = order ∙ ap (but reader) holds.readers ∙ kept-readers reader state.readers.open_ones

    pub holds-released : HoldsSnapshots g kept disk (record { writer = state.writer; readers = without_snapshot reader state.readers })
    holds-released = record {
      form = record {
        distinct = subst AreDistinct (sym open_ones) (distinct-released reader held.open_ones holds.form.distinct);
        few = all-layers (λ r. r < 8) kept.open_ones
            (subst (λ (xs : List ℕ). AllByRecursion (λ r. r < 8) xs) (sym order)
            (all_filtered (λ r. r < 8) (λ r. not (nat_eq r reader)) (readers_of held.open_ones) (all-readers (λ r. r < 8) held.open_ones holds.form.few)));
        width = ap (λ (flags : List Bool). length flags) ended ∙ length-set held.ended reader false ∙ holds.form.width;
      };
      readers = same;
      ended = flags-cleared kept.ended ended;
      within = record {
        sums = holds.within.sums;
        each = all_filtered (λ (s : Snapshot). holds.within.sums s.reader ≡ s.sum) (λ (s : Snapshot). not (is_of reader s)) state.readers.open_ones
            holds.within.each;
        covered = covered holds.within.sums holds.within.covered;
      };
      shows = λ told committed redoes.
          all_both (λ (s : Snapshot). is_open s.reader kept.open_ones ≡ true) (ShowsGraph held.open_ones state.writer.shape committed)
          (ShowsGraph kept.open_ones state.writer.shape committed) left
          (λ s is shows. shows-on held.open_ones kept.open_ones state.writer.shape state.writer.shape committed committed s refl (sights s.reader committed is)
          shows)
          (all-open kept.open_ones left same)
          (all_filtered (ShowsGraph held.open_ones state.writer.shape committed) (λ (s : Snapshot). not (is_of reader s)) state.readers.open_ones
          (holds.shows told committed redoes));
      names = λ told graph admits.
          all_filtered (λ (s : Snapshot). BeginWith graph.names s.graph.names) (λ (s : Snapshot). not (is_of reader s)) state.readers.open_ones
          (holds.names told graph admits);
    }

-- ---- a session that is opened has none

none-flagged : (n reader : ℕ) → slice_index_or (replicate n false) reader false ≡ false
none-flagged zero reader = refl
none-flagged (suc n) zero = refl
none-flagged (suc n) (suc reader) = none-flagged n reader

pub holds-none : {D : Type 0} (g : Ghosts D) (disk : D) (writer : State)
    → HoldsSnapshots g no_snapshots disk (record { writer = writer; readers = record { open_ones = []; ended = [] } })
holds-none g disk writer = record {
  form = record { distinct = tt; few = tt; width = refl };
  readers = refl;
  ended = none-flagged 8;
  within = record { sums = λ reader. 0; each = tt; covered = tt };
  shows = λ told committed redoes. tt;
  names = λ told graph admits. tt;
}

pub opens-shared : {D : Type 0} (g : Ghosts D) (view : SharedView D) (state : State) → IsAt g view.session state
    → (g.tells_reads → Redoes (g.reads view.session.disk) view.session.console.committed)
    → state.open_one ≡ None → view.held ≡ no_snapshots → IsSharedAt g view (record { writer = state; readers = record { open_ones = []; ended = [] } })
opens-shared g view state at stored closed none = record {
  writer = at;
  stored = λ told live. stored told;
  weighed = λ opened. absurd (false≢true (sym (ap is_some closed) ∙ at.opened ∙ opened));
  snapshots =
      subst (λ (held : Snapshots). HoldsSnapshots g held view.session.disk (record { writer = state; readers = record { open_ones = []; ended = [] } }))
      (sym none) (holds-none g view.session.disk state);
}
