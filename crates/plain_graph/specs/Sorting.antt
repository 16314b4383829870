-- Lists in order. What is equal keeps its order.
use Rattle.std.specs.Prelude.{Bool, cond, List, [], ◌∷◌}

-- the item before the first that isn't less
abbrev pub placed : {X : Type 0} → (X → X → Bool) → X → List X → List X
placed less x [] = x ∷ []
placed less x (y ∷ ys) = cond (less y x) (y ∷ placed less x ys) (x ∷ y ∷ ys)

abbrev pub sorted : {X : Type 0} → (X → X → Bool) → List X → List X
sorted less [] = []
sorted less (x ∷ xs) = placed less x (sorted less xs)
