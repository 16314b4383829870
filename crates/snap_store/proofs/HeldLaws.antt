-- The code's list of layers, and the layers that it stands for.
use Rattle.std.proofs.Common.{◌≡◌, ℕ, zero, suc, ◌+◌, ◌<◌, ◌≤◌, Bool, true, false, cond, nat_eq, List, [], ◌∷◌, ◌++◌}
use Rattle.std.proofs.Common.{length, get_or, set, drop, None, refl, ap, sym, subst, ◌∙◌, arith}
use mathlib.Core.Bool.{false≢true}
use Rattle.std.specs.List.{AllByRecursion, remove}
use Rattle.rec_bytes.specs.Format.{most_kept}
use Rattle.rec_bytes.specs.declared.record.Rec.{Rec}
use Rattle.rec_bytes.specs.declared.key.Key.{Key}
use Rattle.rec_bytes.specs.Pairs.{IsOrdered, find_pair, growth, with_pair}
use Rattle.rec_bytes.proofs.PairLaws.{growth_le, ordered_with}
use Rattle.snap_store.specs.declared.layer.Layer.{Layer as HeldLayer}
use Rattle.snap_store.specs.Layers.{AreDistinct, AreRising, Layer, Layers, any_open, from, is_open, joined}
use Rattle.snap_store.specs.Layers.{released, released_behind, total, with_kept, youngest}
use Rattle.snap_store.proofs.ShapeLaws.{distinct-taken, distinct-with_kept, first_false, length-with_new, second_false, total-taken, total-with_kept}
use Rattle.snap_store.specs.Snaps.{AreLayers, IsLayer, IsPlaceOf, IsReader, layer_of, layers_of}

pub rising_all : (xs : List HeldLayer) → AllByRecursion IsLayer xs → AreRising (layers_of xs)
rising_all [] h = tt
rising_all (x ∷ xs) h = (h.0.rising, rising_all xs h.1)

pub length-layers_of : (xs : List HeldLayer) → length (layers_of xs) ≡ length xs
length-layers_of [] = refl
length-layers_of (x ∷ xs) = ap suc (length-layers_of xs)

pub layers_of-append : (xs ys : List HeldLayer) → layers_of (xs ++ ys) ≡ layers_of xs ++ layers_of ys
layers_of-append [] ys = refl
layers_of-append (x ∷ xs) ys = ap (λ zs. layer_of x ∷ zs) (layers_of-append xs ys)

pub some_open : (layers : Layers) → any_open layers ≡ true → 0 < length layers
some_open [] h = absurd (false≢true h)
some_open (layer ∷ younger) h = omega arith

-- what holds of each layer
pub all_get : (P : HeldLayer → Type 0) (xs : List HeldLayer) (i : ℕ) (d : HeldLayer) → AllByRecursion P xs → i < length xs → P (get_or xs i d)
all_get P [] i d h lt = absurd (omega arith)
all_get P (x ∷ xs) zero d h lt = h.0
all_get P (x ∷ xs) (suc i) d h lt = all_get P xs i d h.1 (omega arith)

pub all_set : (P : HeldLayer → Type 0) (xs : List HeldLayer) (i : ℕ) (y : HeldLayer) → AllByRecursion P xs → P y → AllByRecursion P (set xs i y)
all_set P [] i y h new = tt
all_set P (x ∷ xs) zero y h new = (new, h.1)
all_set P (x ∷ xs) (suc i) y h new = (h.0, all_set P xs i y h.1 new)

pub all_remove : (P : HeldLayer → Type 0) (xs : List HeldLayer) (i : ℕ) → AllByRecursion P xs → AllByRecursion P (remove xs i)
all_remove P [] zero h = tt
all_remove P [] (suc i) h = tt
all_remove P (x ∷ xs) zero h = h.1
all_remove P (x ∷ xs) (suc i) h = (h.0, all_remove P xs i h.1)

pub all_push : (P : HeldLayer → Type 0) (xs : List HeldLayer) (y : HeldLayer) → AllByRecursion P xs → P y → AllByRecursion P (xs ++ y ∷ [])
all_push P [] y h new = (new, tt)
all_push P (x ∷ xs) y h new = (h.0, all_push P xs y h.1 new)

-- the last layer is the youngest one
pub youngest_last : (xs : List HeldLayer) (i : ℕ) (d : HeldLayer) → length xs ≡ i + 1 → youngest (layers_of xs) ≡ (get_or xs i d).set.pairs
youngest_last [] i d e = absurd (omega arith)
youngest_last (x ∷ []) zero d e = refl
youngest_last (x ∷ []) (suc i) d e = absurd (omega arith)
youngest_last (x ∷ y ∷ xs) zero d e = absurd (omega arith)
youngest_last (x ∷ y ∷ xs) (suc i) d e = youngest_last (y ∷ xs) i d (omega arith)

pub set_last : (xs : List HeldLayer) (i : ℕ) (d y : HeldLayer) (key : Key) (rec : Rec) → length xs ≡ i + 1 → y.reader ≡ (get_or xs i d).reader
    → y.set.pairs ≡ with_pair (get_or xs i d).set.pairs key rec → layers_of (set xs i y) ≡ with_kept (layers_of xs) key rec
set_last [] i d y key rec e r p = absurd (omega arith)
set_last (x ∷ []) zero d y key rec e r p = λ i. record { reader = r i; kept = p i } ∷ []
set_last (x ∷ []) (suc i) d y key rec e r p = absurd (omega arith)
set_last (x ∷ y' ∷ xs) zero d y key rec e r p = absurd (omega arith)
set_last (x ∷ y' ∷ xs) (suc i) d y key rec e r p = ap (λ zs. layer_of x ∷ zs) (set_last (y' ∷ xs) i d y key rec (omega arith) r p)

-- a place is within the layers
pub place_within : (reader : ℕ) (xs : List HeldLayer) (place : ℕ) → IsPlaceOf reader (layers_of xs) place → place < length xs
place_within reader [] place h = absurd h
place_within reader (x ∷ xs) zero h = omega arith
place_within reader (x ∷ xs) (suc place) h = omega (arith, place_within reader xs place h.1)

pub from_place : (reader : ℕ) (xs : List HeldLayer) (place : ℕ) → IsPlaceOf reader (layers_of xs) place → layers_of (drop place xs) ≡ from reader (layers_of xs)
from_place reader [] place h = absurd h
from_place reader (x ∷ xs) zero h = ap (λ (t : Bool). cond t (layers_of (x ∷ xs)) (from reader (layers_of xs))) (sym h)
from_place reader (x ∷ xs) (suc place) h = from_place reader xs place h.1
    ∙ ap (λ (t : Bool). cond t (layers_of (x ∷ xs)) (from reader (layers_of xs))) (sym h.0)

-- one layer, and two at different places, have no more records than all together
pub length_one : (xs : List HeldLayer) (i : ℕ) (d : HeldLayer) → i < length xs → length (get_or xs i d).set.pairs ≤ total (layers_of xs)
length_one [] i d lt = absurd (omega arith)
length_one (x ∷ xs) zero d lt = omega arith
length_one (x ∷ xs) (suc i) d lt = omega (arith, length_one xs i d (omega arith))

two_at : (xs : List HeldLayer) (i : ℕ) (d e : HeldLayer) → suc i < length xs
    → length (get_or xs i d).set.pairs + length (get_or xs (suc i) e).set.pairs ≤ total (layers_of xs)
two_at [] i d e lt = absurd (omega arith)
two_at (x ∷ []) i d e lt = absurd (omega arith)
two_at (x ∷ y ∷ xs) zero d e lt = omega arith
two_at (x ∷ y ∷ xs) (suc i) d e lt = omega (arith, two_at (y ∷ xs) i d e (omega arith))

pub two_layers : (xs : List HeldLayer) (i j : ℕ) (d e : HeldLayer) → j ≡ suc i → j < length xs
    → length (get_or xs i d).set.pairs + length (get_or xs j e).set.pairs ≤ total (layers_of xs)
two_layers xs i j d e is lt =
    subst (λ n. length (get_or xs i d).set.pairs + length (get_or xs n e).set.pairs ≤ total (layers_of xs)) (sym is) (two_at xs i d e (omega arith))

-- the layer behind the first place is released
released_at : (xs : List HeldLayer) (x : HeldLayer) (reader place : ℕ) (d e y : HeldLayer) → IsPlaceOf reader (layers_of xs) place
    → layer_of y ≡ joined (layer_of (get_or (x ∷ xs) place d)) (layer_of (get_or xs place e))
    → layers_of (set (remove (x ∷ xs) (suc place)) place y) ≡ released_behind reader (layer_of x) (layers_of xs)
released_at [] x reader place d e y h is = absurd h
released_at (z ∷ zs) x reader zero d e y h is =
    ap (λ l. l ∷ layers_of zs) is ∙ ap (λ (t : Bool). cond t (joined (layer_of x) (layer_of z) ∷ layers_of zs) (layer_of x ∷ released_behind reader (layer_of z)
    (layers_of zs))) (sym h)
released_at (z ∷ zs) x reader (suc place) d e y h is =
    ap (λ ls. layer_of x ∷ ls) (released_at zs z reader place d e y h.1 is)
    ∙ ap (λ (t : Bool). cond t (joined (layer_of x) (layer_of z) ∷ layers_of zs) (layer_of x ∷ released_behind reader (layer_of z) (layers_of zs))) (sym h.0)

pub released_later : (xs : List HeldLayer) (reader place before : ℕ) (d e y : HeldLayer) → place ≡ suc before → IsPlaceOf reader (layers_of xs) place
    → layer_of y ≡ joined (layer_of (get_or xs before d)) (layer_of (get_or xs place e))
    → layers_of (set (remove xs place) before y) ≡ released reader (layers_of xs)
released_later xs reader place before d e y is h made =
    subst (λ n. layers_of (set (remove xs n) before y) ≡ released reader (layers_of xs)) (sym is)
    (at xs (subst (λ n. IsPlaceOf reader (layers_of xs) n) is h) (subst (λ n. layer_of y ≡ joined (layer_of (get_or xs before d)) (layer_of (get_or xs n e)))
    is made))
  where
    at : (xs : List HeldLayer) → IsPlaceOf reader (layers_of xs) (suc before)
        → layer_of y ≡ joined (layer_of (get_or xs before d)) (layer_of (get_or xs (suc before) e))
        → layers_of (set (remove xs (suc before)) before y) ≡ released reader (layers_of xs)
    at [] h made = absurd h
    at (x ∷ xs) h made =
        released_at xs x reader before d e y h.1 made ∙ ap (λ (t : Bool). cond t (layers_of xs) (released_behind reader (layer_of x) (layers_of xs))) (sym h.0)

none_behind : (reader : ℕ) (older : Layer) (layers : Layers) → is_open reader layers ≡ false → released_behind reader older layers ≡ older ∷ layers
none_behind reader older [] h = refl
none_behind reader older (layer ∷ younger) h =
    ap (λ (t : Bool). cond t (joined older layer ∷ younger) (older ∷ released_behind reader layer younger))
    (first_false (nat_eq reader layer.reader) (is_open reader younger) h)
    ∙ ap (λ ls. older ∷ ls) (none_behind reader layer younger (second_false (nat_eq reader layer.reader) (is_open reader younger) h))

pub no_place : (reader : ℕ) (layers : Layers) → is_open reader layers ≡ false → released reader layers ≡ layers
no_place reader [] h = refl
no_place reader (layer ∷ younger) h =
    ap (λ (t : Bool). cond t younger (released_behind reader layer younger)) (first_false (nat_eq reader layer.reader) (is_open reader younger) h)
    ∙ none_behind reader layer younger (second_false (nat_eq reader layer.reader) (is_open reader younger) h)

-- the last layer with a record more
pub put_last : (xs : List HeldLayer) (n : ℕ) (l y : HeldLayer) (key : Key) (rec : Rec) → length xs ≡ n + 1 → l ≡ get_or xs n l → y.reader ≡ l.reader
    → y.set.pairs ≡ with_pair l.set.pairs key rec → layers_of (set xs n y) ≡ with_kept (layers_of xs) key rec
put_last xs n l y key rec e is r p =
    set_last xs n l y key rec e (r ∙ ap (λ (z : HeldLayer). z.reader) is) (p ∙ ap (λ (z : HeldLayer). with_pair z.set.pairs key rec) is)

pub room_last : (xs : List HeldLayer) (n : ℕ) (l : HeldLayer) → length xs ≡ n + 1 → l ≡ get_or xs n l → AreLayers xs → total (layers_of xs) < most_kept
    → 0 < l.set.room
room_last xs n l e is h few =
    let each : IsLayer l = subst IsLayer (sym is) (all_get IsLayer xs n l h.each (omega arith)) in
    let most : length (get_or xs n l).set.pairs ≤ total (layers_of xs) = length_one xs n l (omega arith) in
    let same : length l.set.pairs ≡ length (get_or xs n l).set.pairs = ap (λ (z : HeldLayer). length z.set.pairs) is in
    omega (arith, each.room, most, same)

pub right_last : (xs : List HeldLayer) (n : ℕ) (l y : HeldLayer) (key : Key) (rec : Rec) → length xs ≡ n + 1 → l ≡ get_or xs n l → y.reader ≡ l.reader
    → y.set.pairs ≡ with_pair l.set.pairs key rec → l.set.room ≡ y.set.room + growth l.set.pairs key → find_pair (youngest (layers_of xs)) key ≡ None
    → total (layers_of xs) < most_kept → AreLayers xs → AreLayers (set xs n y)
right_last xs n l y key rec e is r p room none few h =
    let old : IsLayer l = subst IsLayer (sym is) (all_get IsLayer xs n l h.each (omega arith)) in
    let absent : find_pair l.set.pairs key ≡ None = ap (λ (z : HeldLayer). find_pair z.set.pairs key) is
    ∙ ap (λ ps. find_pair ps key) (sym (youngest_last xs n l e)) ∙ none in
    let longer : length y.set.pairs ≡ length l.set.pairs + 1 = ap length p ∙ length-with_new l.set.pairs key rec absent in
    let made = put_last xs n l y key rec e is r p in
    let more : total (layers_of (set xs n y)) ≡ total (with_kept (layers_of xs) key rec) = ap total made in
    record {
      each = all_set IsLayer xs n y h.each (record {
        reader = subst IsReader (sym r) old.reader;
        rising = subst IsOrdered (sym p) (ordered_with l.set.pairs key rec old.rising);
        room = omega (arith, old.room, longer, room, growth_le l.set.pairs key);
      });
      distinct = subst AreDistinct (sym made) (distinct-with_kept (layers_of xs) key rec h.distinct);
      few = omega (arith, more, total-with_kept (layers_of xs) key rec, few);
    }

-- one more layer
pub layers_taken : (xs : List HeldLayer) (y : HeldLayer) (reader : ℕ) → y.reader ≡ reader → y.set.pairs ≡ []
    → layers_of (xs ++ y ∷ []) ≡ layers_of xs ++ record { reader = reader; kept = [] } ∷ []
layers_taken xs y reader r p = layers_of-append xs (y ∷ []) ∙ (λ i. layers_of xs ++ record { reader = r i; kept = p i } ∷ [])

pub right_taken : (xs : List HeldLayer) (y : HeldLayer) (reader : ℕ) → AreLayers xs → y.reader ≡ reader → y.set.pairs ≡ [] → most_kept ≤ y.set.room
    → IsReader reader
    → is_open reader (layers_of xs) ≡ false → AreLayers (xs ++ y ∷ [])
right_taken xs y reader h r p room is_reader closed =
    let made = layers_taken xs y reader r p in
    let more : total (layers_of (xs ++ y ∷ [])) ≡ total (layers_of xs) = ap total made ∙ total-taken (layers_of xs) reader in
    record {
      each = all_push IsLayer xs y h.each (record {
        reader = subst IsReader (sym r) is_reader;
        rising = subst IsOrdered (sym p) tt;
        room = omega (arith, room);
      });
      distinct = subst AreDistinct (sym made) (distinct-taken (layers_of xs) reader closed h.distinct);
      few = omega (arith, more, h.few);
    }
