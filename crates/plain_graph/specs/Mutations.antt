-- Mutating steps: a list of changes as one change.
use Rattle.std.specs.Prelude.{◌≡◌, ◌⊎◌, ℕ, ◌+◌, nat_eq, cond, Bool, false, Option, Some, None}
use Rattle.std.specs.Prelude.{List, [], ◌∷◌, ◌++◌, map}
use Rattle.std.specs.List.{filter_map, flat_map, list_any}
use Rattle.plain_graph.specs.Changes.{Changes, Weighs}
use Rattle.plain_graph.specs.Graph.{Graph}
use Rattle.plain_graph.specs.Refusals.{FirstReason, NoReason, change_reasons}
use Rattle.plain_graph.specs.Reply.{EdgeMade, NodeMade, Reply}
use Rattle.plain_graph.specs.declared.command.Command.{Command}
use Rattle.plain_graph.specs.declared.command.Command.TheVariants as commands
use Rattle.plain_graph.specs.declared.command.Target.{Target}
use Rattle.plain_graph.specs.declared.command.Target.TheVariants as targets
use Rattle.plain_graph.specs.declared.item.Item.{Item}
use Rattle.plain_graph.specs.declared.item.Item.TheVariants as items
use Rattle.plain_graph.specs.declared.mutation.Mutation.{Mutation}
use Rattle.plain_graph.specs.declared.mutation.Mutation.TheVariants as mutations
use Rattle.plain_graph.specs.declared.pairs.Pair.{Pair}
use Rattle.plain_graph.specs.declared.refusal.Refusal.{Refusal}

-- ---- the elements that a query gives; a value stands for none

-- the element that a result is
abbrev pub target_of : Item → Option Target
target_of (items.Vertex id) = Some (targets.Node id)
target_of (items.Edge id label from to) = Some (targets.Edge id)
target_of (items.Value value) = None

-- the elements among the results
abbrev pub elements_of : List Item → List Target
elements_of results = filter_map target_of results

-- the vertex that a result is
abbrev pub vertex_id : Item → Option ℕ
vertex_id (items.Vertex id) = Some id
vertex_id (items.Edge id label from to) = None
vertex_id (items.Value value) = None

-- the vertices among the results
abbrev pub vertices_of : List Item → List ℕ
vertices_of results = filter_map vertex_id results

-- both are the same element
abbrev pub is_target : Target → Target → Bool
is_target (targets.Node id) (targets.Node other) = nat_eq id other
is_target (targets.Node id) (targets.Edge other) = false
is_target (targets.Edge id) (targets.Node other) = false
is_target (targets.Edge id) (targets.Edge other) = nat_eq id other

-- those that are none of the ones seen, each once, where it first stands
abbrev pub targets_once : List Target → List Target → List Target
targets_once seen [] = []
targets_once seen (target ∷ later) =
    cond (list_any (is_target target) seen) (targets_once seen later)
    (target ∷ targets_once (seen ++ target ∷ []) later)

-- ---- the changes

-- a value for each pair's key of an element
abbrev pub settings : List Pair → Target → List Command
settings pairs target = map (λ (pair : Pair). commands.Set target pair.key pair.value) pairs

-- each of these elements taken away
abbrev pub deletions : List Target → List Command
deletions targets = map commands.Delete targets

-- The changes that the steps ask for, in their order: a node; an edge from each vertex in turn; on
-- each element in turn the pairs from left to right; and each different element taken away once.
abbrev pub changes_of : Mutation → List Item → List Command
changes_of (mutations.AddV label pairs) results = commands.Node label pairs ∷ []
changes_of (mutations.AddE label to pairs) results =
    map (λ from. commands.Edge from label to pairs) (vertices_of results)
changes_of (mutations.Property pairs) results = flat_map (settings pairs) (elements_of results)
changes_of mutations.Drop results = deletions (targets_once [] (elements_of results))

-- Each is made in the graph that the one before left, with these replies.
abbrev pub ChangesEach : ℕ → Graph → List Command → List Reply → Graph → Type 0
ChangesEach limit old [] replies new = (replies ≡ []) × (new ≡ old)
ChangesEach limit old (command ∷ later) replies new =
    (reply : Reply) × (rest : List Reply) × (between : Graph) × (replies ≡ reply ∷ rest)
    × Changes limit old command reply between × ChangesEach limit between later rest new

-- The first of them that is refused is refused so, in the graph that those before it left.
abbrev pub RefusesEach : ℕ → Graph → List Command → Refusal → Type 0
RefusesEach limit old [] why = ⊥
RefusesEach limit old (command ∷ later) why =
    FirstReason change_reasons limit old command why
    ⊎ (NoReason change_reasons limit old command × (reply : Reply) × (between : Graph)
    × Changes limit old command reply between × RefusesEach limit between later why)

-- They weigh so much together, each in the graph that the one before left.
abbrev pub WeighsEach : ℕ → ℕ → Graph → List Command → ℕ → Type 0
WeighsEach limit threshold old [] weight = weight ≡ 0
WeighsEach limit threshold old (command ∷ later) weight =
    (first : ℕ) × (rest : ℕ) × (reply : Reply) × (between : Graph) × (weight ≡ first + rest)
    × Weighs threshold old command first × Changes limit old command reply between
    × WeighsEach limit threshold between later rest

-- The command changes the graph so, with this reply and this weight, and no reason refuses it.
pub record MakesOne (limit threshold : ℕ) (old : Graph) (command : Command) (reply : Reply)
    (weight : ℕ) (new : Graph) : Type 0 where
  pub changes : Changes limit old command reply new
  pub weighs : Weighs threshold old command weight
  pub free : NoReason change_reasons limit old command

-- so each of them does, in the graph that the one before left; they weigh so much together
abbrev pub MakesEach : ℕ → ℕ → Graph → List Command → List Reply → ℕ → Graph → Type 0
MakesEach limit threshold old [] replies weight new =
    (replies ≡ []) × (weight ≡ 0) × (new ≡ old)
MakesEach limit threshold old (command ∷ later) replies weight new =
    (reply : Reply) × (first : ℕ) × (between : Graph) × (rest : List Reply) × (more : ℕ)
    × (replies ≡ reply ∷ rest) × (weight ≡ first + more)
    × MakesOne limit threshold old command reply first between
    × MakesEach limit threshold between later rest more new

-- ---- the results

-- the vertex that a reply tells of
abbrev pub new_vertex : Reply → List Item
new_vertex (NodeMade id) = items.Vertex id ∷ []
new_vertex _ = []

-- the edge that a reply tells of, with its type and its ends
abbrev pub new_edge : ℕ → List ℕ → ℕ → Reply → List Item
new_edge from label to (EdgeMade id) = items.Edge id label from to ∷ []
new_edge from label to _ = []

-- the element that a change has made
abbrev pub new_element : Command → Reply → List Item
new_element (commands.Node label pairs) reply = new_vertex reply
new_element (commands.Edge from label to pairs) reply = new_edge from label to reply
new_element _ reply = []

-- those of some changes, by their replies
abbrev pub new_elements : List Command → List Reply → List Item
new_elements [] replies = []
new_elements (command ∷ later) [] = []
new_elements (command ∷ later) (reply ∷ replies) =
    new_element command reply ++ new_elements later replies

-- The results that are shown: the new elements, or those whose properties were set, or none.
abbrev pub results_of : Mutation → List Item → List Reply → List Item
results_of (mutations.AddV label pairs) results replies =
    new_elements (changes_of (mutations.AddV label pairs) results) replies
results_of (mutations.AddE label to pairs) results replies =
    new_elements (changes_of (mutations.AddE label to pairs) results) replies
results_of (mutations.Property pairs) results replies = results
results_of mutations.Drop results replies = []
