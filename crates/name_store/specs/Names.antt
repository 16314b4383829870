-- Names that are kept.
use Rattle.std.specs.Prelude.{ℕ, ◌≤◌, List, [], ◌∷◌, length, map, Vec, Contains}
use Rattle.std.specs.List.{AllByRecursion}
use Rattle.std.specs.declared.alloc.Global.{Global}
use Rattle.plain_graph.specs.Names.{IsShortName}
use Rattle.rec_bytes.specs.Format.{most_names}

-- the names by number, and for how many more there is room
pub record HeldNames : Type 0 where
  pub names : List (List ℕ)
  pub room : ℕ

-- the bytes of each name
abbrev pub name_bytes : List (Vec ℕ Global) → List (List ℕ)
name_bytes names = map (λ name. name.items) names

-- no text comes twice
abbrev pub AreDistinct : List (List ℕ) → Type 0
AreDistinct [] = Unit {0}
AreDistinct (text ∷ texts) = (¬ Contains texts text) × AreDistinct texts

-- Names are distinct, each is one that a store may have, and there are no more than there may be.
pub record AreHeldNames (names : List (List ℕ)) : Type 0 where
  pub distinct : AreDistinct names
  pub short : AllByRecursion IsShortName names
  pub few : length names ≤ most_names
