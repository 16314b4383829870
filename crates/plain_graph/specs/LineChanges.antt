-- What a line changes of the graph, its weight, and why it is refused: by one change, or by those
-- of a mutating query.
use Rattle.std.specs.Prelude.{◌≡◌, ℕ, Option, Some, None, List, [], ◌∷◌, ◌++◌, map}
use Rattle.plain_graph.specs.Changes.{Changes, Weighs}
use Rattle.plain_graph.specs.Graph.{Graph}
use Rattle.plain_graph.specs.Meaning.{meaning}
use Rattle.plain_graph.specs.Mutations.{ChangesEach, RefusesEach, WeighsEach, changes_of}
use Rattle.plain_graph.specs.Mutations.{results_of}
use Rattle.plain_graph.specs.Refusals.{Reason, change_reasons}
use Rattle.plain_graph.specs.Reply.{Reply, Told, end_text, item_line}
use Rattle.plain_graph.specs.declared.command.Command.{Command}
use Rattle.plain_graph.specs.declared.command.Command.TheVariants as commands
use Rattle.plain_graph.specs.declared.item.Item.{Item}
use Rattle.plain_graph.specs.declared.mutation.Mutation.{Mutation}
use Rattle.plain_graph.specs.declared.query.Query.{Query}

-- the results of the reading part; a new node has none
abbrev pub read_items : Graph → Option Query → List Item
read_items graph None = []
read_items graph (Some query) = meaning graph query

-- the changes of a mutating query on the graph that the line sees
abbrev pub asked_changes : Graph → Option Query → Mutation → List Command
asked_changes graph reading mutation = changes_of mutation (read_items graph reading)

-- what a mutating query is answered with: its results, and the end
abbrev pub mutated_reply : List Item → Reply
mutated_reply results = Told (map item_line results) end_text

-- The line changes the graph so, with this reply: by one change, or by those of a mutating query.
abbrev pub LineChanges : ℕ → Graph → Command → Reply → Graph → Type 0
LineChanges limit old (commands.Mutate reading mutation) reply new =
    (replies : List Reply)
    × (reply ≡ mutated_reply (results_of mutation (read_items old reading) replies))
    × ChangesEach limit old (asked_changes old reading mutation) replies new
LineChanges limit old command reply new = Changes limit old command reply new

-- what the line weighs
abbrev pub LineWeighs : ℕ → ℕ → Graph → Command → ℕ → Type 0
LineWeighs limit threshold old (commands.Mutate reading mutation) weight =
    WeighsEach limit threshold old (asked_changes old reading mutation) weight
LineWeighs limit threshold old command weight = Weighs threshold old command weight

-- the first change of a mutating query that is refused
abbrev pub first_refused : Reason
first_refused limit graph (commands.Mutate reading mutation) why =
    RefusesEach limit graph (asked_changes graph reading mutation) why
first_refused limit graph _ why = ⊥

-- the reasons that refuse a line, in the order in which they count
abbrev pub line_reasons : List Reason
line_reasons = change_reasons ++ first_refused ∷ []
