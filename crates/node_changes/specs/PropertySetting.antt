-- A value that is set or taken away, by the records alone.
use Rattle.std.specs.Prelude.{◌≡◌, ◌⊎◌, ℕ, Some, List, Contains, slice_get}
use Rattle.plain_graph.specs.declared.command.Target.{Target}
use Rattle.plain_graph.specs.declared.value.Value.{Value}
use Rattle.prop_store.specs.Finding.{FreesMet, GivesMet}
use Rattle.store_rules.specs.Views.{Records}
use Rattle.change_parts.specs.Owners.{owner_of}

-- The key is no name, or the property with its number that the records of the element led to, if
-- any, is in use no more.
abbrev pub LosesKey : Records → Records → List (List ℕ) → Target → List ℕ → Type 0
LosesKey old new names target key =
    (¬ Contains names key)
    ⊎ ((number : ℕ) × (slice_get names number ≡ Some key)
    × FreesMet old new (owner_of target) number)

-- the property with the key's number that the records of the element lead to has the value
abbrev pub GivesKey : Records → List (List ℕ) → Target → List ℕ → Value → Type 0
GivesKey records names target key value =
    (number : ℕ) × (slice_get names number ≡ Some key)
    × GivesMet records (owner_of target) number value
