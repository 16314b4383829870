-- What a line that asks for a change makes of the graph, its reply and its weight.
use Rattle.std.specs.Prelude.{◌≡◌, ℕ, ◌+◌, ◌*◌, nat_eq, if◌then◌else◌, true, [], ◌∷◌}
use Rattle.std.specs.FinMap as maps
use Rattle.plain_graph.specs.Graph.{AddsEdge, AddsNode, Graph, NeedsNames, RemovesEdge, RemovesNode}
use Rattle.plain_graph.specs.Graph.{SetsProperty, UnsetsProperty, degree_in, properties_at}
use Rattle.plain_graph.specs.Indexes.{AddsIndex, element_weight, entries_weight, indexed_count}
use Rattle.plain_graph.specs.Kinds.{AreChanges}
use Rattle.plain_graph.specs.Lines.{kind_of}
use Rattle.plain_graph.specs.Properties.{Properties, blocks_at, blocks_in, blocks_of, keys_in}
use Rattle.plain_graph.specs.Properties.{no_properties, with_pairs}
use Rattle.plain_graph.specs.Reply.{Done, EdgeMade, NodeMade, Reply}
use Rattle.plain_graph.specs.Values.{is_text}
use Rattle.plain_graph.specs.declared.command.Command.{Command}
use Rattle.plain_graph.specs.declared.command.Command.TheVariants as commands
use Rattle.plain_graph.specs.declared.command.Target.TheVariants as targets

-- the line asks for a change of the graph
abbrev pub IsChange : Command → Type 0
IsChange command = AreChanges (kind_of command)

-- The single change of the command changes the graph so, with this reply. The limit says how many
-- nodes, and how many edges, there may be. A mutating query makes several, so it has no row here.
abbrev pub Changes : ℕ → Graph → Command → Reply → Graph → Type 0
Changes limit old (commands.Node label pairs) reply new =
    (id : ℕ) × (reply ≡ NodeMade id) × AddsNode limit old label pairs id new
Changes limit old (commands.Edge from label to pairs) reply new =
    (id : ℕ) × (reply ≡ EdgeMade id) × AddsEdge limit old from label to pairs id new
Changes limit old (commands.Set target key value) reply new =
    (reply ≡ Done) × SetsProperty old target key value new
Changes limit old (commands.Unset target key) reply new =
    (reply ≡ Done) × UnsetsProperty old target key new
Changes limit old (commands.Delete (targets.Node id)) reply new =
    (reply ≡ Done) × RemovesNode old id new
Changes limit old (commands.Delete (targets.Edge id)) reply new =
    (reply ≡ Done) × RemovesEdge old id new
Changes limit old (commands.Index label key) reply new =
    (reply ≡ Done) × AddsIndex old label key new
Changes limit old _ reply new = ⊥

-- What an end of a new edge weighs: where the node has as many edges as the threshold, each of its
-- edges comes into a group.
abbrev pub end_weight : ℕ → Graph → ℕ → ℕ
end_weight threshold graph node =
    if nat_eq (degree_in graph node) threshold then 2 * (threshold + 1) else 0

-- What both ends weigh; a loop has one.
abbrev pub ends_weight : ℕ → Graph → ℕ → ℕ → ℕ
ends_weight threshold graph from to =
    end_weight threshold graph from + (if nat_eq from to then 0 else end_weight threshold graph to)

-- what properties weigh: 1 for each, and 1 for each block of a text
abbrev pub properties_weight : Properties → ℕ
properties_weight properties = maps.len properties + blocks_in properties

-- What the change weighs at this threshold: 1 for a node that is made or deleted, 9 for an edge
-- that is made with what its ends weigh, 13 for one that is deleted, 2 for a value that is set or
-- taken away, and 13 for an index that is made with 1 for each of its nodes. A property of an
-- element that is made or deleted weighs 1 more, each block that is taken or given back 1, a new
-- name 1, and an entry of an index that a change of its nodes takes out or adds 3.
abbrev pub Weighs : ℕ → Graph → Command → ℕ → Type 0
Weighs threshold old (commands.Node label pairs) weight =
    (new_names : ℕ) × NeedsNames old.names (label ∷ keys_in pairs) new_names
    × (weight
    ≡ 1 + properties_weight (with_pairs no_properties pairs) + new_names
    + entries_weight old label (λ key. true) no_properties (with_pairs no_properties pairs))
Weighs threshold old (commands.Edge from label to pairs) weight =
    (new_names : ℕ) × NeedsNames old.names (label ∷ keys_in pairs) new_names
    × (weight
    ≡ 9 + properties_weight (with_pairs no_properties pairs) + new_names
    + ends_weight threshold old from to)
Weighs threshold old (commands.Set target key value) weight =
    (new_names : ℕ) × NeedsNames old.names (key ∷ []) new_names
    × (weight
    ≡ 2 + blocks_of value + blocks_at (properties_at old target) key + new_names
    + element_weight old target (is_text key) (maps.insert (properties_at old target) key value))
Weighs threshold old (commands.Unset target key) weight =
    weight
    ≡ 2 + blocks_at (properties_at old target) key
    + element_weight old target (is_text key) (maps.remove (properties_at old target) key)
Weighs threshold old (commands.Delete (targets.Node id)) weight =
    weight
    ≡ 1 + properties_weight (properties_at old (targets.Node id))
    + element_weight old (targets.Node id) (λ key. true) no_properties
Weighs threshold old (commands.Delete (targets.Edge id)) weight =
    weight ≡ 13 + properties_weight (properties_at old (targets.Edge id))
Weighs threshold old (commands.Index label key) weight =
    (new_names : ℕ) × NeedsNames old.names (label ∷ key ∷ []) new_names
    × (weight ≡ 13 + new_names + indexed_count old label key)
Weighs threshold old _ weight = ⊥

-- what a transaction weighs before its first change
abbrev pub start_weight : ℕ
start_weight = 7

-- what a transaction weighs at most
abbrev pub most_weight : ℕ
most_weight = 2048
