-- Identifiers that a query names.
use Rattle.std.specs.Prelude.{◌<◌, ℕ, List, [], ◌∷◌}
use Rattle.std.specs.List.{AllByRecursion}

-- each is below all later ones
abbrev pub Ascends : List ℕ → Type 0
Ascends [] = Unit {0}
Ascends (id ∷ ids) = AllByRecursion (λ later. id < later) ids × Ascends ids
