-- Snapshots beside the layers of their old records.
use Rattle.std.proofs.Common.{◌≡◌, ◌≢◌, ⊎_elim, inl, inr, ℕ, ◌+◌, ◌<◌, Bool, true, false, cond, ◌||◌, nat_eq, List, []}
use Rattle.std.proofs.Common.{◌∷◌, ◌++◌, length, map, filter, slice_index_or, slice_set, refl, ap, sym, subst, ◌∙◌}
use Rattle.std.proofs.Common.{arith}
use mathlib.Core.Bool.{false≢true}
use Rattle.std.proofs.lemmas.Bool.Decides.{nat_tests}
use Rattle.std.proofs.lemmas.List.{get_or-set_other, get_or-set_same, length-set}
use Rattle.std.specs.List.{AllByRecursion, list_any}
use Rattle.rec_bytes.specs.Format.{most_kept}
use Rattle.snap_store.specs.Layers.{AreDistinct, Layer, Layers, is_open, lacks_room, readers_of}
use Rattle.snap_store.specs.Snaps.{Snapshots, with_room}
use Rattle.snap_store.specs.Sums.{EndsOverfull}
use Rattle.graph_session.specs.SharedConsole.{snapshot_readers}
use Rattle.graph_session.specs.Snapshots.{Outlive, Readers, Snapshot, heavier}

-- ---- lists

abbrev first : List ℕ → ℕ
first [] = 0
first (x ∷ xs) = x

abbrev rest : List ℕ → List ℕ
rest [] = []
rest (x ∷ xs) = xs

pub same_number : (m n : ℕ) → nat_eq m n ≡ true → m ≡ n
same_number m n t = grind (arith, nat_tests)

pub other_number : (m n : ℕ) → nat_eq m n ≡ false → m ≢ n
other_number m n t = grind (arith, nat_tests)

pub own_number : (n : ℕ) → nat_eq n n ≡ true
own_number n = grind (arith, nat_tests)

pub or_right : (a b : Bool) → b ≡ true → (a || b) ≡ true
or_right true b h = refl
or_right false b h = h

or_left : (a b : Bool) → a ≡ true → (a || b) ≡ true
or_left true b h = refl
or_left false b h = absurd (false≢true h)

pub all_more : {X : Type 0} (P Q : X → Type 0) (xs : List X) → ((x : X) → P x → Q x) → AllByRecursion P xs → AllByRecursion Q xs
all_more P Q [] f h = tt
all_more P Q (x ∷ xs) f h = (f x h.0, all_more P Q xs f h.1)

pub all_both : {X : Type 0} (P Q R : X → Type 0) (xs : List X) → ((x : X) → P x → Q x → R x) → AllByRecursion P xs → AllByRecursion Q xs → AllByRecursion R xs
all_both P Q R [] f h k = tt
all_both P Q R (x ∷ xs) f h k = (f x h.0 k.0, all_both P Q R xs f h.1 k.1)

pub all_end : {X : Type 0} (P : X → Type 0) (xs : List X) (y : X) → AllByRecursion P xs → P y → AllByRecursion P (xs ++ y ∷ [])
all_end P [] y h k = (k, tt)
all_end P (x ∷ xs) y h k = (h.0, all_end P xs y h.1 k)

pub all_filtered : {X : Type 0} (P : X → Type 0) (test : X → Bool) (xs : List X) → AllByRecursion P xs → AllByRecursion P (filter test xs)
all_filtered P test [] h = tt
all_filtered P test (x ∷ xs) h = by (test x) (all_filtered P test xs h.1)
  where
    by : (t : Bool) → AllByRecursion P (filter test xs) → AllByRecursion P (cond t (x ∷ filter test xs) (filter test xs))
    by true more = (h.0, more)
    by false more = more

-- ---- layers by their readers

pub open-any : (reader : ℕ) (layers : Layers) → is_open reader layers ≡ list_any (nat_eq reader) (readers_of layers)
open-any reader [] = refl
open-any reader (layer ∷ younger) = ap (λ (b : Bool). nat_eq reader layer.reader || b) (open-any reader younger)

-- no number stands twice
abbrev pub AreApart : List ℕ → Type 0
AreApart [] = Unit {0}
AreApart (x ∷ xs) = (list_any (nat_eq x) xs ≡ false) × AreApart xs

pub apart-of : (layers : Layers) → AreDistinct layers → AreApart (readers_of layers)
apart-of [] h = tt
apart-of (layer ∷ younger) h = (sym (open-any layer.reader younger) ∙ h.0, apart-of younger h.1)

pub distinct-of : (layers : Layers) → AreApart (readers_of layers) → AreDistinct layers
distinct-of [] h = tt
distinct-of (layer ∷ younger) h = (open-any layer.reader younger ∙ h.0, distinct-of younger h.1)

pub all-readers : (P : ℕ → Type 0) (layers : Layers) → AllByRecursion (λ (layer : Layer). P layer.reader) layers → AllByRecursion P (readers_of layers)
all-readers P [] h = tt
all-readers P (layer ∷ younger) h = (h.0, all-readers P younger h.1)

pub all-layers : (P : ℕ → Type 0) (layers : Layers) → AllByRecursion P (readers_of layers) → AllByRecursion (λ (layer : Layer). P layer.reader) layers
all-layers P [] h = tt
all-layers P (layer ∷ younger) h = (h.0, all-layers P younger h.1)

pub all-snapshots : (P : ℕ → Type 0) (snapshots : List Snapshot) → AllByRecursion P (snapshot_readers snapshots)
    → AllByRecursion (λ (snapshot : Snapshot). P snapshot.reader) snapshots
all-snapshots P [] h = tt
all-snapshots P (snapshot ∷ later) h = (h.0, all-snapshots P later h.1)

-- each reader of the layers has one
pub opens : (layers : Layers) → AllByRecursion (λ reader. is_open reader layers ≡ true) (readers_of layers)
opens [] = tt
opens (layer ∷ younger) = (
  or_left (nat_eq layer.reader layer.reader) (is_open layer.reader younger) (own_number layer.reader),
  all_more (λ reader. is_open reader younger ≡ true) (λ reader. is_open reader (layer ∷ younger) ≡ true) (readers_of younger)
      (λ reader h. or_right (nat_eq reader layer.reader) (is_open reader younger) h) (opens younger),
)

-- and so has each snapshot beside them
pub all-open : (layers : Layers) (snapshots : List Snapshot) → readers_of layers ≡ snapshot_readers snapshots
    → AllByRecursion (λ (snapshot : Snapshot). is_open snapshot.reader layers ≡ true) snapshots
all-open layers snapshots same = all-snapshots (λ reader. is_open reader layers ≡ true) snapshots
    (subst (AllByRecursion (λ reader. is_open reader layers ≡ true)) same (opens layers))

-- ---- the flags of the readers whose snapshot has ended

pub flag-set : (flags : List Bool) (at reader : ℕ) (value : Bool) → at < length flags
    → slice_index_or (slice_set flags at value) reader false ≡ cond (nat_eq reader at) value (slice_index_or flags reader false)
flag-set flags at reader value low = by (nat_eq reader at) refl
  where
    by : (t : Bool) → nat_eq reader at ≡ t → slice_index_or (slice_set flags at value) reader false ≡ cond t value (slice_index_or flags reader false)
    by true e = ap (λ n. slice_index_or (slice_set flags at value) n false) (same_number reader at e) ∙ get_or-set_same flags at value false low
    by false e = get_or-set_other flags at reader value false (other_number reader at e)

-- ---- where the oldest snapshots end

-- What is left of the snapshots where these layers are left.
pub record IsLeft (weight : ℕ) (snapshots : List Snapshot) (ended : List ℕ) (held : Snapshots) : Type 0 where
  pub readers : Readers
  pub outlive : Outlive weight snapshots ended readers
  pub same : readers_of held.open_ones ≡ snapshot_readers readers.open_ones
  pub flags : (reader : ℕ) → slice_index_or held.ended reader false ≡ list_any (nat_eq reader) readers.ended
  pub apart : AreApart (readers_of held.open_ones)
  pub few : AllByRecursion (λ reader. reader < length held.ended) (readers_of held.open_ones)

heavier-readers : (weight : ℕ) (snapshots : List Snapshot) → snapshot_readers snapshots ≡ snapshot_readers (map (heavier weight) snapshots)
heavier-readers weight [] = refl
heavier-readers weight (snapshot ∷ later) = ap (λ xs. snapshot.reader ∷ xs) (heavier-readers weight later)

-- none is left that wasn't there
pub not-left : (count : ℕ) (layers : Layers) (flags : List Bool) (reader : ℕ) → is_open reader layers ≡ false
    → is_open reader (with_room count layers flags).open_ones ≡ false
not-left count [] flags reader closed = closed
not-left count (layer ∷ younger) flags reader closed =
    by (lacks_room count (layer ∷ younger)) (not-left count younger (slice_set flags layer.reader true) reader)
  where
    later : (t b : Bool) → (t || b) ≡ false → b ≡ false
    later true b h = absurd (false≢true (sym h))
    later false b h = h

    by : (t : Bool) → (is_open reader younger ≡ false → is_open reader (with_room count younger (slice_set flags layer.reader true)).open_ones ≡ false)
        → is_open reader (cond t (with_room count younger (slice_set flags layer.reader true))
        (record { open_ones = layer ∷ younger; ended = flags })).open_ones ≡ false
    by true more = more (later (nat_eq reader layer.reader) (is_open reader younger) closed)
    by false more = closed

pub outlives-with_room : (weight count : ℕ) (layers : Layers) (snapshots : List Snapshot) (flags : List Bool) (ended : List ℕ) (sums : ℕ → ℕ)
    → readers_of layers ≡ snapshot_readers snapshots → AllByRecursion (λ (snapshot : Snapshot). sums snapshot.reader ≡ snapshot.sum) snapshots
    → AreApart (readers_of layers) → AllByRecursion (λ reader. reader < length flags) (readers_of layers)
    → ((reader : ℕ) → slice_index_or flags reader false ≡ list_any (nat_eq reader) ended)
    → EndsOverfull weight sums layers (with_room count layers flags).open_ones
    → IsLeft weight snapshots ended (with_room count layers flags)
outlives-with_room weight count [] [] flags ended sums same sum apart few is over =
    record { readers = record { open_ones = []; ended = ended }; outlive = refl; same = refl; flags = is; apart = tt; few = tt }
outlives-with_room weight count [] (snapshot ∷ later) flags ended sums same sum apart few is over = absurd (cc)
outlives-with_room weight count (layer ∷ younger) [] flags ended sums same sum apart few is over = absurd (cc)
outlives-with_room weight count (layer ∷ younger) (snapshot ∷ later) flags ended sums same sum apart few is over =
    by (lacks_room count (layer ∷ younger)) refl
    (outlives-with_room weight count younger later (slice_set flags layer.reader true) (snapshot.reader ∷ ended) sums (ap rest same) sum.1 apart.1
    (subst (λ n. AllByRecursion (λ reader. reader < n) (readers_of younger)) (sym set_length) few.1) flagged)
  where
    reader_is : layer.reader ≡ snapshot.reader
    reader_is = ap first same

    set_length : length (slice_set flags layer.reader true) ≡ length flags
    set_length = length-set flags layer.reader true

    flagged : (reader : ℕ) → slice_index_or (slice_set flags layer.reader true) reader false ≡ (nat_eq reader snapshot.reader || list_any (nat_eq reader) ended)
    flagged reader = flag-set flags layer.reader reader true few.0 ∙ at (nat_eq reader layer.reader) (nat_eq reader snapshot.reader)
        (ap (nat_eq reader) reader_is)
      where
        at : (s t : Bool) → s ≡ t → cond s true (slice_index_or flags reader false) ≡ (t || list_any (nat_eq reader) ended)
        at true true e = refl
        at false false e = is reader
        at true false e = absurd (false≢true (sym e))
        at false true e = absurd (false≢true e)

    -- the oldest layer has ended, and others may have
    by : (t : Bool) → lacks_room count (layer ∷ younger) ≡ t
        → (EndsOverfull weight sums younger (with_room count younger (slice_set flags layer.reader true)).open_ones
        → IsLeft weight later (snapshot.reader ∷ ended) (with_room count younger (slice_set flags layer.reader true)))
        → IsLeft weight (snapshot ∷ later) ended (cond t (with_room count younger (slice_set flags layer.reader true))
        (record { open_ones = layer ∷ younger; ended = flags }))
    by true e further =
        let ends : EndsOverfull weight sums (layer ∷ younger) (with_room count younger (slice_set flags layer.reader true)).open_ones =
        subst (λ (t : Bool). EndsOverfull weight sums (layer ∷ younger) (cond t (with_room count younger (slice_set flags layer.reader true))
        (record { open_ones = layer ∷ younger; ended = flags })).open_ones) e over in
        let more = further (λ reader was gone. ends reader (or_right (nat_eq reader layer.reader) (is_open reader younger) was) gone) in
        let gone = not-left count younger (slice_set flags layer.reader true) layer.reader (open-any layer.reader younger ∙ apart.0) in
        let over_one = ends layer.reader (or_left (nat_eq layer.reader layer.reader) (is_open layer.reader younger) (own_number layer.reader)) gone in
        let more_than : most_kept < snapshot.sum + weight = subst (λ n. most_kept < n + weight) (ap sums reader_is ∙ sum.0) over_one in
        record { readers = more.readers; outlive = inr (more_than, more.outlive); same = more.same; flags = more.flags; apart = more.apart; few = more.few }
    by false e further = record {
      readers = record { open_ones = map (heavier weight) (snapshot ∷ later); ended = ended };
      outlive = inl refl;
      same = same ∙ heavier-readers weight (snapshot ∷ later);
      flags = is;
      apart = apart;
      few = few;
    }

-- those that are left were there, with smaller sums
pub all-left : (P Q : Snapshot → Type 0) (weight : ℕ) (snapshots : List Snapshot) (ended : List ℕ) (new : Readers)
    → ((snapshot : Snapshot) → P snapshot → Q (heavier weight snapshot))
    → AllByRecursion P snapshots → Outlive weight snapshots ended new → AllByRecursion Q new.open_ones
all-left P Q weight [] ended new f h is = subst (λ (r : Readers). AllByRecursion Q r.open_ones) (sym is) tt
all-left P Q weight (x ∷ xs) ended new f h is = ⊎_elim
    (λ e. subst (λ (r : Readers). AllByRecursion Q r.open_ones) (sym e) (risen_all (x ∷ xs) h))
    (λ e. all-left P Q weight xs (x.reader ∷ ended) new f h.1 e.1) is
  where
    risen_all : (ys : List Snapshot) → AllByRecursion P ys → AllByRecursion Q (map (heavier weight) ys)
    risen_all [] h = tt
    risen_all (y ∷ ys) h = (f y h.0, risen_all ys h.1)

-- how many readers' flags there are
pub width-with_room : (count : ℕ) (layers : Layers) (flags : List Bool) → length (with_room count layers flags).ended ≡ length flags
width-with_room count [] flags = refl
width-with_room count (layer ∷ younger) flags =
    by (lacks_room count (layer ∷ younger)) (width-with_room count younger (slice_set flags layer.reader true))
  where
    by : (t : Bool) → length (with_room count younger (slice_set flags layer.reader true)).ended ≡ length (slice_set flags layer.reader true)
        → length (cond t (with_room count younger (slice_set flags layer.reader true)) (record { open_ones = layer ∷ younger; ended = flags })).ended ≡ length
        flags
    by true more = more ∙ length-set flags layer.reader true
    by false more = refl
