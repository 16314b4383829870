-- Lists in order, and what is made of each of their elements.
use Rattle.std.proofs.Common.{◌≡◌, Bool, true, false, cond, List, [], ◌∷◌, map, refl, sym, ap, ◌∙◌}
use Rattle.plain_graph.specs.Meaning as meaning
use Rattle.plain_graph.specs.Sorting.{placed, sorted}
use Rattle.std.proofs.lemmas.Simd.{map-map}
use Rattle.plain_graph.specs.declared.item.Item.TheVariants as items
use Rattle.traversal_run.specs.Kept.{number_place, number_ranks_below, place_of, row_ranks_below}
use Rattle.traversal_run.specs.declared.kept.Numbered.{Numbered}
use Rattle.traversal_run.specs.declared.kept.Ranked.{Ranked}

module _ {X Y : Type 0} (f : X → Y) (less : Y → Y → Bool) where
  -- as what is made of the elements is in order, so are they
  abbrev pub under : X → X → Bool
  under a b = less (f a) (f b)

  map-placed : (x : X) (xs : List X) → map f (placed under x xs) ≡ placed less (f x) (map f xs)
  map-placed x [] = refl
  map-placed x (y ∷ ys) = by (map-placed x ys) (under y x)
    where
      by : map f (placed under x ys) ≡ placed less (f x) (map f ys) → (b : Bool)
          → map f (cond b (y ∷ placed under x ys) (x ∷ y ∷ ys)) ≡ cond b (f y ∷ placed less (f x) (map f ys)) (f x ∷ f y ∷ map f ys)
      by same true = ap (λ rest. f y ∷ rest) same
      by same false = refl

  pub map-sorted : (xs : List X) → map f (sorted under xs) ≡ sorted less (map f xs)
  map-sorted [] = refl
  map-sorted (x ∷ xs) = map-placed x (sorted under xs) ∙ ap (placed less (f x)) (map-sorted xs)

-- the rows of an order are in the order of their places
pub places_sorted : (descending : Bool) (rows : List Ranked) → map place_of (sorted (row_ranks_below descending) rows) ≡ sorted (meaning.ranks_below descending)
    (map place_of rows)
places_sorted descending rows = map-sorted place_of (meaning.ranks_below descending) rows

-- the vertices with numbers that are put in order are the items of their places in order
pub numbers_sorted : (descending : Bool) (rows : List Numbered) → map items.Vertex (map (λ (n : Numbered). n.id) (sorted (number_ranks_below descending) rows))
    ≡ map (λ (r : meaning.Ranked). r.item) (sorted (meaning.ranks_below descending) (map number_place rows))
numbers_sorted descending rows =
    let ordered = sorted (number_ranks_below descending) rows in
    map-map items.Vertex (λ (n : Numbered). n.id) ordered
    ∙ sym (map-map (λ (r : meaning.Ranked). r.item) number_place ordered)
    ∙ ap (map (λ (r : meaning.Ranked). r.item)) (map-sorted number_place (meaning.ranks_below descending) rows)
