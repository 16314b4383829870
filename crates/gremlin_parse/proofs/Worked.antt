-- Lines with and without the name of a session, read by the definitions.
use Rattle.std.proofs.Common.{◌≡◌, ℕ, Option, Some, None, List, codes, refl}
use Rattle.gremlin_parse.specs.Tags.{after_tag, session_named, session_of}

-- a line, the session that it names, its session, and what stands after the name
abbrev IsRow : List ℕ → Option ℕ → ℕ → List ℕ → Type 0
IsRow line named session rest = (session_named line ≡ named) × (session_of line ≡ session) × (after_tag line ≡ rest)

named-worked : IsRow (codes " @1 g.V()") (Some 1) 1 (codes "g.V()")
named-worked = (refl, refl, refl)

first-worked : IsRow (codes "@0 g.V()") (Some 0) 0 (codes "g.V()")
first-worked = (refl, refl, refl)

blank-worked : IsRow (codes "@7   ") (Some 7) 7 (codes "  ")
blank-worked = (refl, refl, refl)

plain-worked : IsRow (codes "g.V()") None 0 (codes "g.V()")
plain-worked = (refl, refl, refl)

alone-worked : IsRow (codes "@1") None 0 (codes "@1")
alone-worked = (refl, refl, refl)

eighth-worked : IsRow (codes "@8 x") None 0 (codes "@8 x")
eighth-worked = (refl, refl, refl)
