-- Items that were seen: elements by their identifiers, values each by a code of bytes.
use Rattle.std.specs.Prelude.{◌≡◌, ℕ, nat_eq, Bool, false, cond, if◌then◌else◌, List, []}
use Rattle.std.specs.Prelude.{◌∷◌, ◌++◌, map}
use Rattle.std.specs.Int.{cast_signed, cast_unsigned, from_le_bytes, to_le_bytes}
use Rattle.std.specs.Int.RustNames.{FitsSigned}
use Rattle.std.specs.List.{AllByRecursion}
use mir.Syntax.{w64}
use Rattle.plain_graph.specs.declared.item.Item.{Item}
use Rattle.plain_graph.specs.declared.item.Item.TheVariants as items
use Rattle.plain_graph.specs.declared.value.Value.{Value}
use Rattle.plain_graph.specs.declared.value.Value.TheVariants as values

-- the type of a value, and its content
abbrev pub code_of : Value → List ℕ
code_of (values.Int number) = 0 ∷ to_le_bytes w64 (cast_unsigned w64 number)
code_of (values.Bool truth) = 1 ∷ (if truth then 1 else 0) ∷ []
code_of (values.Text text) = 2 ∷ text

abbrev pub is_one : List ℕ → Bool
is_one [] = false
is_one (byte ∷ bytes) = nat_eq byte 1

-- the value of a code
abbrev pub value_by : ℕ → List ℕ → Value
value_by kind bytes =
    cond (nat_eq kind 0) (values.Int (cast_signed w64 (from_le_bytes w64 bytes)))
    (cond (nat_eq kind 1) (values.Bool (is_one bytes)) (values.Text bytes))

abbrev pub value_of : List ℕ → Value
value_of [] = values.Text []
value_of (kind ∷ bytes) = value_by kind bytes

-- its number has the range of its type
abbrev pub IsInRange : Value → Type 0
IsInRange (values.Int number) = FitsSigned w64 number
IsInRange (values.Bool truth) = Unit {0}
IsInRange (values.Text text) = Unit {0}

-- the code of a value
pub record IsCode (code : List ℕ) : Type 0 where
  pub is : code_of (value_of code) ≡ code
  pub range : IsInRange (value_of code)

abbrev pub AreCodes : List (List ℕ) → Type 0
AreCodes codes = AllByRecursion IsCode codes

-- an edge by its identifier alone, without its type and its ends
abbrev pub bare_edge : ℕ → Item
bare_edge id = items.Edge id [] 0 0

abbrev pub value_item : List ℕ → Item
value_item code = items.Value (value_of code)

-- the vertices and the edges of these identifiers, and the values of these codes
abbrev pub seen_items : List ℕ → List ℕ → List (List ℕ) → List Item
seen_items vertices edges codes =
    map items.Vertex vertices ++ (map bare_edge edges ++ map value_item codes)
