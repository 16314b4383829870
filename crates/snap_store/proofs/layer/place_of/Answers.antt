use Rattle.std.proofs.Common.{add-one, drop-cons, ◌≡◌, ◌≢◌, ℕ, zero, suc, ◌+◌, ◌<◌, Bool, true, false, nat_eq, List, []}
use Rattle.std.proofs.Common.{◌∷◌, length, get_or, drop, ap, sym, ◌∙◌, subst, arith, ◌||◌, refl}
use mathlib.Core.Bool.{false≢true}
use Rattle.std.proofs.lemmas.Bool.Decides.{nat_tests}
use Rattle.snap_store.specs.declared.layer.Layer.{Layer as HeldLayer}
use Rattle.snap_store.specs.Layers.{is_open}
use Rattle.snap_store.specs.Snaps.{IsPlaceOf, layers_of}
use Rattle.snap_store.proofs.layer.place_of.Goals as goal

-- a reader with one of the layers from a place on
within : (reader : ℕ) (xs : List HeldLayer) (i : ℕ) → is_open reader (layers_of (drop i xs)) ≡ true → i < length xs
within reader [] zero h = absurd (false≢true h)
within reader [] (suc i) h = absurd (false≢true h)
within reader (x ∷ xs) zero h = omega arith
within reader (x ∷ xs) (suc i) h = omega (arith, within reader xs i h)

-- the first of the other layers
next_layer : (xs : List HeldLayer) (i : ℕ) (d : HeldLayer) → i < length xs → drop i xs ≡ get_or xs i d ∷ drop (i + 1) xs
next_layer xs i d lt = rw (add-one, drop-cons xs i d) refl

here : (reader : ℕ) (xs : List HeldLayer) (i : ℕ) (d : HeldLayer) → i < length xs → (get_or xs i d).reader ≡ reader → IsPlaceOf reader (layers_of (drop i xs)) 0
here reader xs i d lt e = subst (λ ls. IsPlaceOf reader (layers_of ls) 0) (sym (next_layer xs i d lt)) (same reader (get_or xs i d).reader e)
  where
    same : (m n : ℕ) → n ≡ m → nat_eq m n ≡ true
    same m n e = grind (arith, nat_tests)

apart : (m n : ℕ) → n ≢ m → nat_eq m n ≡ false
apart m n ne = grind (arith, nat_tests, ne)

later : (reader : ℕ) (xs : List HeldLayer) (i : ℕ) (d : HeldLayer) → i < length xs → (get_or xs i d).reader ≢ reader → (k : ℕ)
    → IsPlaceOf reader (layers_of (drop (i + 1) xs)) k → IsPlaceOf reader (layers_of (drop i xs)) (suc k)
later reader xs i d lt ne k h = subst (λ ls. IsPlaceOf reader (layers_of ls) (suc k)) (sym (next_layer xs i d lt)) (apart reader (get_or xs i d).reader ne, h)

left : (reader : ℕ) (xs : List HeldLayer) (i : ℕ) (d : HeldLayer) → i < length xs → (get_or xs i d).reader ≢ reader
    → is_open reader (layers_of (drop (i + 1) xs)) ≡ is_open reader (layers_of (drop i xs))
left reader xs i d lt ne =
    ap (λ (t : Bool). t || is_open reader (layers_of (drop (i + 1) xs))) (sym (apart reader (get_or xs i d).reader ne))
    ∙ ap (λ ls. is_open reader (layers_of ls)) (sym (next_layer xs i d lt))

pub loop-place-preserved : goal.loop-place-preserved
loop-place-preserved c =
    let xs = c.args.layers.now in
    let i = c.loop-place.place in
    let lt = within c.args.reader xs i c.loop-place.invariant.left in
    record {
      places = λ k h.
          let sum : i + suc k ≡ i + 1 + k = omega arith in
          subst (IsPlaceOf c.args.reader (layers_of xs)) sum
          (c.loop-place.invariant.places (suc k) (later c.args.reader xs i c.index-layers-place.result lt c.loop-place-test.true k h));
      left = left c.args.reader xs i c.index-layers-place.result lt c.loop-place-test.true ∙ c.loop-place.invariant.left;
    }

pub returns : goal.returns
returns c =
    let xs = c.args.layers.now in
    let i = c.loop-place.place in
    let sum : i + 0 ≡ i = omega arith in
    subst (IsPlaceOf c.args.reader (layers_of xs)) sum
    (c.loop-place.invariant.places 0 (here c.args.reader xs i c.index-layers-place.result (within c.args.reader xs i c.loop-place.invariant.left)
    c.loop-place-test.false))
