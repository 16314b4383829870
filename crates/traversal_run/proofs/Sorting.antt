-- What a stable sort leaves is one list: the one that the model puts in order.
use Rattle.std.proofs.Common.{◌≡◌, ◌<◌, ℕ, ◌+◌, suc, Bool, true, false, not, ◌&&◌, cond, List, [], ◌∷◌, length, get_or}
use Rattle.std.proofs.Common.{refl, sym, ap, ◌∙◌, subst, ⊎_elim, arith}
use Rattle.std.specs.List.{filter, AllByRecursion}
use Rattle.std.specs.List.Sorted.{IsSortedBy, IsStableBy, ties}
use Rattle.std.specs.Cmp.{IsStrictWeakOrder}
use Rattle.std.proofs.lemmas.Bool.{cases_Bool, cond-true}
use Rattle.std.proofs.lemmas.List.Sorted.{sorted_far}
use Rattle.plain_graph.specs.Sorting.{placed, sorted}

module _ {X : Type 0} (less : X → X → Bool) (order : IsStrictWeakOrder less) where
  -- no later element is less than an earlier one
  abbrev Rises : List X → Type 0
  Rises [] = Unit {0}
  Rises (x ∷ xs) = AllByRecursion (λ y. less y x ≡ false) xs × Rises xs

  -- so it is said of each of them
  above : (x : X) (xs : List X) → ((j : ℕ) → j < length xs → less (get_or xs j x) x ≡ false) → AllByRecursion (λ y. less y x ≡ false) xs
  above x [] far = tt
  above x (y ∷ ys) far = (far 0 (omega arith), above x ys (λ j lt. far (suc j) (omega arith)))

  -- the tail of a list in order is in order
  shift : (x : X) (xs : List X) → IsSortedBy less (x ∷ xs) → IsSortedBy less xs
  shift x xs up = λ k d low high.
      let next : suc k + 1 ≡ suc (k + 1) = omega arith in
      subst (λ n. less (get_or (x ∷ xs) n d) (get_or xs k d) ≡ false) next (up (suc k) d (omega arith) (omega arith))

  -- so it is of each element against all later ones
  rises : (xs : List X) → IsSortedBy less xs → Rises xs
  rises [] up = tt
  rises (x ∷ xs) up = (above x xs (λ j lt. sorted_far less order (x ∷ xs) up 0 (suc j) x (omega arith) (omega arith)), rises xs (shift x xs up))

  -- nothing is less than itself
  itself : (x : X) → less x x ≡ false
  itself x = ⊎_elim (λ (yes : less x x ≡ true). order.one_way x x yes) (λ (no : less x x ≡ false). no) (cases_Bool (less x x))

  -- where neither is less, the two tie
  ties_of : (x y : X) → less x y ≡ false → less y x ≡ false → ties less x y ≡ true
  ties_of x y one two = (λ i. not (one i) && not (two i))

  -- of two that tie, neither is less
  ties_first : (a b : Bool) → not a && not b ≡ true → a ≡ false
  ties_first true b is = cc
  ties_first false b is = refl

  ties_second : (a b : Bool) → not a && not b ≡ true → b ≡ false
  ties_second true b is = cc
  ties_second false true is = cc
  ties_second false false is = refl

  -- what all have, and the new one
  all_placed : (P : X → Type 0) (x : X) (ys : List X) → P x → AllByRecursion P ys → AllByRecursion P (placed less x ys)
  all_placed P x [] p all = (p, tt)
  all_placed P x (y ∷ ys) p all = all_cond (all_placed P x ys p all.1) (less y x)
    where
      all_cond : AllByRecursion P (placed less x ys) → (b : Bool) → AllByRecursion P (cond b (y ∷ placed less x ys) (x ∷ y ∷ ys))
      all_cond behind true = (all.0, behind)
      all_cond behind false = (p, all)

  -- what isn't less than one isn't less than one before it
  all_more : (x y : X) (ys : List X) → less y x ≡ false → AllByRecursion (λ z. less z y ≡ false) ys → AllByRecursion (λ z. less z x ≡ false) ys
  all_more x y [] under all = tt
  all_more x y (z ∷ ys) under all = (order.chain z y x all.0 under, all_more x y ys under all.1)

  -- an element put at its place leaves a list in order
  placed_rises : (x : X) (ys : List X) → Rises ys → Rises (placed less x ys)
  placed_rises x [] up = (tt, tt)
  placed_rises x (y ∷ ys) up = rises_cond (placed_rises x ys up.1) (less y x) refl
    where
      rises_cond : Rises (placed less x ys) → (b : Bool) → less y x ≡ b → Rises (cond b (y ∷ placed less x ys) (x ∷ y ∷ ys))
      rises_cond behind true is = (all_placed (λ z. less z y ≡ false) x ys (order.one_way y x is) up.0, behind)
      rises_cond behind false is = ((is, all_more x y ys is up.0), up)

  -- two that are not both kept may change places
  exchanged : (x y : X) (rest : List X) (a b : Bool) → ((a ≡ true) → (b ≡ true) → ⊥)
      → cond b (y ∷ cond a (x ∷ rest) rest) (cond a (x ∷ rest) rest) ≡ cond a (x ∷ cond b (y ∷ rest) rest) (cond b (y ∷ rest) rest)
  exchanged x y rest true true apart = absurd (apart refl refl)
  exchanged x y rest true false apart = refl
  exchanged x y rest false true apart = refl
  exchanged x y rest false false apart = refl

  -- and those that tie in their order
  placed_stable : (z x : X) (ys : List X) → filter (ties less z) (placed less x ys) ≡ filter (ties less z) (x ∷ ys)
  placed_stable z x [] = refl
  placed_stable z x (y ∷ ys) = stable_cond (placed_stable z x ys) (less y x) refl
    where
      stable_cond : filter (ties less z) (placed less x ys) ≡ filter (ties less z) (x ∷ ys) → (b : Bool) → less y x ≡ b
          → filter (ties less z) (cond b (y ∷ placed less x ys) (x ∷ y ∷ ys)) ≡ filter (ties less z) (x ∷ y ∷ ys)
      stable_cond behind true is =
          ap (λ list. cond (ties less z y) (y ∷ list) list) behind
          ∙ exchanged x y (filter (ties less z) ys) (ties less z x) (ties less z y) (λ with_x with_y.
          let under : less y x ≡ false = order.chain y z x (ties_second (less z y) (less y z) with_y) (ties_first (less z x) (less x z) with_x) in
          cc)
      stable_cond behind false is = refl

  -- so does a sort
  sorted_rises : (xs : List X) → Rises (sorted less xs)
  sorted_rises [] = tt
  sorted_rises (x ∷ xs) = placed_rises x (sorted less xs) (sorted_rises xs)

  sorted_stable : (z : X) (xs : List X) → filter (ties less z) (sorted less xs) ≡ filter (ties less z) xs
  sorted_stable z [] = refl
  sorted_stable z (x ∷ xs) = placed_stable z x (sorted less xs) ∙ ap (λ list. cond (ties less z x) (x ∷ list) list) (sorted_stable z xs)

  -- what is kept first has what all have
  first_kept : (P : X → Type 0) (test : X → Bool) (xs : List X) (x : X) (rest : List X) → filter test xs ≡ x ∷ rest → AllByRecursion P xs → P x
  first_kept P test [] x rest is all = cc
  first_kept P test (y ∷ ys) x rest is all = kept_cond (λ same. first_kept P test ys x rest same all.1) (test y) is
    where
      kept_cond : (filter test ys ≡ x ∷ rest → P x) → (b : Bool) → cond b (y ∷ filter test ys) (filter test ys) ≡ x ∷ rest → P x
      kept_cond later true same = let head : y ≡ x = cc in subst P head all.0
      kept_cond later false same = later same

  -- an element ties with itself
  kept_itself : (x : X) (xs : List X) → filter (ties less x) (x ∷ xs) ≡ x ∷ filter (ties less x) xs
  kept_itself x xs = cond-true (ties less x x) (x ∷ filter (ties less x) xs) (filter (ties less x) xs) (ties_of x x (itself x) (itself x))

  -- lists that are the same after one element more or none
  rests : (b : Bool) (x : X) (xs ys : List X) → cond b (x ∷ xs) xs ≡ cond b (x ∷ ys) ys → xs ≡ ys
  rests true x xs ys same = cc
  rests false x xs ys same = same

  -- two lists in order, whose ties stand alike, are one
  one_stable_order : (xs ys : List X) → Rises xs → Rises ys → ((z : X) → filter (ties less z) xs ≡ filter (ties less z) ys) → xs ≡ ys
  one_stable_order [] [] up rise same = refl
  one_stable_order [] (y ∷ ys) up rise same = let e = same y ∙ kept_itself y ys in cc
  one_stable_order (x ∷ xs) [] up rise same = let e = sym (kept_itself x xs) ∙ same x in cc
  one_stable_order (x ∷ xs) (y ∷ ys) up rise same =
      let x_first : filter (ties less x) (y ∷ ys) ≡ x ∷ filter (ties less x) xs = sym (same x) ∙ kept_itself x xs in
      let y_first : filter (ties less y) (x ∷ xs) ≡ y ∷ filter (ties less y) ys = same y ∙ kept_itself y ys in
      let x_over : less x y ≡ false = first_kept (λ z. less z y ≡ false) (ties less x) (y ∷ ys) x (filter (ties less x) xs) x_first (itself y, rise.0) in
      let y_over : less y x ≡ false = first_kept (λ z. less z x ≡ false) (ties less y) (x ∷ xs) y (filter (ties less y) ys) y_first (itself x, up.0) in
      let tied = ties_of x y x_over y_over in
      let heads : y ∷ filter (ties less x) ys ≡ x ∷ filter (ties less x) xs =
      sym (cond-true (ties less x y) (y ∷ filter (ties less x) ys) (filter (ties less x) ys) tied) ∙ x_first in
      let head : y ≡ x = cc in
      let tails : xs ≡ ys = one_stable_order xs ys up.1 rise.1 (λ z. rests (ties less z x) x (filter (ties less z) xs) (filter (ties less z) ys)
      (same z ∙ ap (λ w. filter (ties less z) (w ∷ ys)) head)) in
      (λ i. sym head i ∷ tails i)

  -- what a stable sort leaves
  pub stable_sort_is : (xs ys : List X) → IsSortedBy less ys → IsStableBy less xs ys → ys ≡ sorted less xs
  stable_sort_is xs ys up stable = one_stable_order ys (sorted less xs) (rises ys up) (sorted_rises xs) (λ z. stable z ∙ sym (sorted_stable z xs))
