-- The direction of an order, at each place where one may stand.
use Rattle.std.specs.Prelude.{◌≡◌, ℕ, Bool, Option, List, codes}
use Rattle.plain_graph.specs.declared.query.Query.{Query}
use Rattle.gremlin_parse.specs.Comparisons.{later}
use Rattle.gremlin_parse.specs.Queries.{Place, StopsFrom, turn, direction_of, sort_names, sort_name}
use Rattle.gremlin_parse.specs.Symbols.{Sign, OneWord, AnyBlanks, Reads, Leaves}
use Rattle.gremlin_parse.specs.declared.stop.Stop.{Stop}

-- one of the two words for a direction, and any blanks
abbrev pub ReadsSort : Bool → List ℕ → List ℕ → Type 0
ReadsSort descending bytes rest =
    (middle : List ℕ) × Reads (OneWord sort_names) (sort_name descending) bytes middle
    × Reads AnyBlanks tt middle rest

-- A direction may stand at the place, and reading stops there where none stands.
pub record DirectsAt (place : Place) (query : Query) (key : Option (List ℕ)) (bytes : List ℕ)
    : Type 0 where
  pub other : (turn place).other ≡ direction_of query key
  pub stops :
      (one two : Stop) → Leaves (OneWord sort_names) bytes one
      → Leaves (Sign (codes "Order")) bytes two → StopsFrom place bytes (later one two)
