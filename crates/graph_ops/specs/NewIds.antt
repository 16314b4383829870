-- Which identifiers the elements get that a list of changes makes, whatever the records are.
use Rattle.std.specs.Prelude.{◌≡◌, ℕ, zero, suc, ◌+◌, ◌-◌, Option, None, Some}
use Rattle.std.specs.Prelude.{List, [], ◌∷◌, ◌++◌, length, drop}
use Rattle.std.specs.List.{filter_map}
use Rattle.plain_graph.specs.declared.item.Item.{Item}
use Rattle.plain_graph.specs.declared.item.Item.TheVariants as items
use Rattle.plain_graph.specs.declared.mutation.Mutation.{Mutation}
use Rattle.plain_graph.specs.declared.mutation.Mutation.TheVariants as mutations
use Rattle.rec_bytes.specs.Format as format
use Rattle.store_rules.specs.Views.{Records, high}
use Rattle.id_freelist.specs.FreeLists.{IsFreeList}

-- so many identifiers: first those of the list, and then those from the mark on
abbrev pub free_then : List ℕ → ℕ → ℕ → List ℕ
free_then free mark zero = []
free_then [] mark (suc n) = mark ∷ free_then [] (mark + 1) n
free_then (id ∷ later) mark (suc n) = id ∷ free_then later mark n

-- the identifier of a result that is an element
abbrev pub id_of : Item → Option ℕ
id_of (items.Vertex id) = Some id
id_of (items.Edge id label from to) = Some id
id_of (items.Value value) = None

abbrev pub ids_of : List Item → List ℕ
ids_of results = filter_map id_of results

-- All of these are elements. They have the identifiers of the file's free list, in its order, and
-- once it is empty those from its mark on.
abbrev pub HaveFreeIds : Records → ℕ → List Item → Type 0
HaveFreeIds old file made = (free : List ℕ) → IsFreeList old file free
    → ids_of made ≡ free_then free (high old file) (length made)

-- The new nodes or edges that the steps show have the free identifiers of their file.
abbrev pub GetsFreeIds : Mutation → List Item → Records → Type 0
GetsFreeIds (mutations.AddV label pairs) made old = HaveFreeIds old format.nodes_file made
GetsFreeIds (mutations.AddE label to pairs) made old =
    HaveFreeIds old format.relationships_file made
GetsFreeIds _ made old = Unit {0}

-- ---- one part after another

-- Besides, they are taken: the others on the list are free still, and the mark is past the rest.
abbrev pub TakesIds : Records → Records → ℕ → List Item → Type 0
TakesIds old new file made = (free : List ℕ) → IsFreeList old file free
    → (ids_of made ≡ free_then free (high old file) (length made))
    × IsFreeList new file (drop (length made) free)
    × (high new file ≡ high old file + (length made - length free))

-- some elements more are shown, and these identifiers are taken
abbrev pub ShowsIds : Records → Records → ℕ → List Item → List Item → Type 0
ShowsIds old new file before now =
    (made : List Item) × (now ≡ before ++ made) × TakesIds old new file made
