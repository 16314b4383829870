-- The forms that names, values and pairs have in a store.
use Rattle.std.specs.Prelude.{◌≤◌, ℕ, Option, Some, None, List, [], ◌∷◌, All, length}
use Rattle.std.specs.Int.RustNames.{FitsSigned}
use mir.Syntax.{w64}
use Rattle.plain_graph.specs.Names.{IsShortName}
use Rattle.plain_graph.specs.declared.item.Item.{Item}
use Rattle.plain_graph.specs.declared.item.Item.TheVariants as items
use Rattle.plain_graph.specs.declared.mutation.Mutation.{Mutation}
use Rattle.plain_graph.specs.declared.mutation.Mutation.TheVariants as mutations
use Rattle.plain_graph.specs.declared.pairs.Pair.{Pair}
use Rattle.plain_graph.specs.declared.value.Value.{Value}
use Rattle.plain_graph.specs.declared.value.Value.TheVariants as values

-- a value that a store may keep: a number of 64 bits, or a text of at most 1,024 bytes
abbrev pub IsKept : Value → Type 0
IsKept (values.Int number) = FitsSigned w64 number
IsKept (values.Bool truth) = Unit {0}
IsKept (values.Text text) = length text ≤ 1024

-- a result that has a line: a value is one that a store may keep
abbrev pub IsShown : Item → Type 0
IsShown (items.Vertex id) = Unit {0}
IsShown (items.Edge id label from to) = length label ≤ 48
IsShown (items.Value value) = IsKept value

-- a value that is shown, and those of pairs beside it, are ones that a store may keep
abbrev pub HasKept : Item → List Pair → Type 0
HasKept item pairs = IsShown item × All (λ (pair : Pair). IsKept pair.value) pairs

-- keys are names, and values ones that a store may keep
abbrev pub ArePairs : List Pair → Type 0
ArePairs [] = Unit {0}
ArePairs (pair ∷ later) = IsShortName pair.key × IsKept pair.value × ArePairs later

-- a name, or none
abbrev pub IsMaybeName : Option (List ℕ) → Type 0
IsMaybeName None = Unit {0}
IsMaybeName (Some name) = IsShortName name

-- labels and keys of the steps are names, and their values ones that a store may keep
abbrev pub HasMutationForm : Mutation → Type 0
HasMutationForm (mutations.AddV label pairs) = IsShortName label × ArePairs pairs
HasMutationForm (mutations.AddE label to pairs) = IsShortName label × ArePairs pairs
HasMutationForm (mutations.Property pairs) = ArePairs pairs
HasMutationForm mutations.Drop = Unit {0}
