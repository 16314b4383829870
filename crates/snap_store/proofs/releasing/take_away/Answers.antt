use Rattle.std.proofs.Common.{◌≡◌, ℕ, ◌-◌, ◌<◌, suc, length, get_or, set, arith, ap, sym, subst, ◌∙◌, List}
use Rattle.std.specs.List.{AllByRecursion, remove}
use Rattle.std.proofs.lemmas.List.Edits.{get_or-remove_below}
use Rattle.snap_store.specs.declared.layer.Layer.{Layer as HeldLayer}
use Rattle.snap_store.specs.Layers.{AreDistinct, joined, released, total}
use Rattle.snap_store.specs.Snaps.{AreLayers, IsLayer, IsPlaceOf, layer_of, layers_of}
use Rattle.snap_store.proofs.HeldLaws.{all_remove, all_set, place_within, released_later, two_layers}
use Rattle.snap_store.proofs.ShapeLaws.{distinct-released, total-released}
use Rattle.snap_store.proofs.releasing.take_away.Goals as goal

-- the layers that are left are as they should be
right : (old new : List HeldLayer) (reader : ℕ) → AreLayers old → AllByRecursion IsLayer new → layers_of new ≡ released reader (layers_of old) → AreLayers new
right old new reader h each is = record {
  each = each;
  distinct = subst AreDistinct (sym is) (distinct-released reader (layers_of old) h.distinct);
  few = let more : total (layers_of new) ≡ total (released reader (layers_of old)) = ap total is in
      omega (arith, more, total-released reader (layers_of old), h.few);
}

-- the next older layer is where it was
older_is : (xs : List HeldLayer) (place before : ℕ) (gone older : HeldLayer) (left : List HeldLayer) → place ≡ suc before → place < length xs
    → left ≡ remove xs place
    → older ≡ get_or left before older → older ≡ get_or xs before older
older_is xs place before gone older left is lt e at = at ∙ ap (λ ls. get_or ls before older) e ∙ get_or-remove_below xs place older before (omega arith) lt

-- what is left
left_is : (xs : List HeldLayer) (reader place before : ℕ) (gone older y : HeldLayer) (left : List HeldLayer) → place ≡ suc before
    → IsPlaceOf reader (layers_of xs) place
    → left ≡ remove xs place → gone ≡ get_or xs place gone → older ≡ get_or left before older → layer_of y ≡ joined (layer_of older) (layer_of gone)
    → layers_of (set left before y) ≡ released reader (layers_of xs)
left_is xs reader place before gone older y left is h e from at made =
    ap (λ ls. layers_of (set ls before y)) e
    ∙ released_later xs reader place before older gone y is h
    (made ∙ ap (λ l. joined (layer_of l) (layer_of gone)) (older_is xs place before gone older left is (place_within reader xs place h) e at)
    ∙ ap (λ l. joined (layer_of (get_or xs before older)) (layer_of l)) from)

pub remove-gone-requires : goal.remove-gone-requires
remove-gone-requires c = omega (arith, place_within c.args.reader c.args.layers.now.items c.args.place c.requires.place, c.args.layers.now.ok.0)

pub join-requires-clause-few : goal.join-requires-clause-few
join-requires-clause-few c =
    let xs = c.args.layers.now.items in
    let before = c.args.place - 1 in
    let is : c.args.place ≡ suc before = omega (arith, c.if-place-gt0.true) in
    let lt = place_within c.args.reader xs c.args.place c.requires.place in
    let older = older_is xs c.args.place before c.remove-gone.result c.index_mut-older.result.now c.remove-gone.new.self.items is lt c.remove-gone.ensures.items
    c.index_mut-older.ensures.value in
    let a : length c.index_mut-older.result.now.set.pairs ≡ length (get_or xs before c.index_mut-older.result.now).set.pairs =
    ap (λ (l : HeldLayer). length l.set.pairs) older in
    let b : length c.remove-gone.result.set.pairs ≡ length (get_or xs c.args.place c.remove-gone.result).set.pairs =
    ap (λ (l : HeldLayer). length l.set.pairs) c.remove-gone.ensures.value in
    omega (arith, a, b, two_layers xs before c.args.place c.index_mut-older.result.now c.remove-gone.result is lt, c.requires.right.few)

pub returns-then-place-gt0-clause-right : goal.returns-then-place-gt0-clause-right
returns-then-place-gt0-clause-right c =
    let xs = c.args.layers.now.items in
    let before = c.args.place - 1 in
    let is : c.args.place ≡ suc before = omega (arith, c.if-place-gt0.true) in
    right xs _ c.args.reader c.requires.right
    (all_set IsLayer c.remove-gone.new.self.items before c.join.new.older (subst (AllByRecursion IsLayer) (sym c.remove-gone.ensures.items)
    (all_remove IsLayer xs c.args.place c.requires.right.each)) c.join.ensures.right)
    (left_is xs c.args.reader c.args.place before c.remove-gone.result c.index_mut-older.result.now c.join.new.older c.remove-gone.new.self.items is
    c.requires.place
    c.remove-gone.ensures.items c.remove-gone.ensures.value c.index_mut-older.ensures.value c.join.ensures.joined)

pub returns-then-place-gt0-clause-layers : goal.returns-then-place-gt0-clause-layers
returns-then-place-gt0-clause-layers c =
    let xs = c.args.layers.now.items in
    let before = c.args.place - 1 in
    let is : c.args.place ≡ suc before = omega (arith, c.if-place-gt0.true) in
    left_is xs c.args.reader c.args.place before c.remove-gone.result c.index_mut-older.result.now c.join.new.older c.remove-gone.new.self.items is
    c.requires.place
    c.remove-gone.ensures.items c.remove-gone.ensures.value c.index_mut-older.ensures.value c.join.ensures.joined
