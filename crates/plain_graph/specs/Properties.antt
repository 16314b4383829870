-- The properties of an element: a value for each of its keys, in the order of the keys' bytes.
use Rattle.std.specs.Prelude.{ℕ, ◌+◌, ◌/◌, nat_le, if◌then◌else◌, Option, None, Some, List, [], ◌∷◌}
use Rattle.std.specs.Prelude.{length, map}
use Rattle.std.specs.List.{sum_by}
use Rattle.std.specs.Cmp.Lexicographic.{slice_cmp}
use Rattle.std.specs.FinMap as maps
use Rattle.std.specs.Ordering.{nat_cmp}
use Rattle.plain_graph.specs.declared.pairs.Pair.{Pair}
use Rattle.plain_graph.specs.declared.value.Value.{Value}
use Rattle.plain_graph.specs.declared.value.Value.TheVariants as values

abbrev pub Properties : Type 0
Properties = maps.FinMap (slice_cmp nat_cmp) Value

abbrev pub no_properties : Properties
no_properties = maps.empty

-- Pairs apply from left to right, so the last value of a key stands.
abbrev pub with_pairs : Properties → List Pair → Properties
with_pairs properties [] = properties
with_pairs properties (pair ∷ later) = with_pairs (maps.insert properties pair.key pair.value) later

abbrev pub keys_in : List Pair → List (List ℕ)
keys_in pairs = map (λ pair. pair.key) pairs

-- how many blocks of 48 bytes a value takes: a text of more than 40 bytes is kept in blocks
abbrev pub blocks_of : Value → ℕ
blocks_of (values.Int number) = 0
blocks_of (values.Bool truth) = 0
blocks_of (values.Text text) = if nat_le (length text) 40 then 0 else (length text + 47) / 48

-- how many blocks the values take together
abbrev pub blocks_in : Properties → ℕ
blocks_in properties = sum_by blocks_of (maps.values properties)

abbrev pub blocks_if : Option Value → ℕ
blocks_if None = 0
blocks_if (Some value) = blocks_of value

-- how many blocks the value of a key takes, where there is one
abbrev pub blocks_at : Properties → List ℕ → ℕ
blocks_at properties key = blocks_if (maps.get properties key)
