-- Why the graph refuses a line: reasons in the order in which they count.
use Rattle.std.specs.Prelude.{◌≡◌, ◌≢◌, ◌⊎◌, ℕ, ◌+◌, ◌*◌, ◌<◌, ◌≤◌, false, true}
use Rattle.std.specs.Prelude.{Option, None, Some, List}
use Rattle.std.specs.Prelude.{[], ◌∷◌, length}
use Rattle.std.specs.FinMap as maps
use Rattle.plain_graph.specs.Graph.{Graph, Index, UsesNames, block_count, degree_in}
use Rattle.plain_graph.specs.Graph.{has_edge, has_node}
use Rattle.plain_graph.specs.Graph.{properties_at, property_count, with_value}
use Rattle.plain_graph.specs.Indexes.{entry_count, has_index, index_records, indexed_count}
use Rattle.plain_graph.specs.Indexes.{most_indexed, most_indexes}
use Rattle.plain_graph.specs.Lines.{Asked, At, AtEdge, Between, asked_of, index_of}
use Rattle.plain_graph.specs.Properties.{Properties, blocks_in, keys_in, no_properties, with_pairs}
use Rattle.plain_graph.specs.declared.command.Command.{Command}
use Rattle.plain_graph.specs.declared.command.Command.TheVariants as commands
use Rattle.plain_graph.specs.declared.command.Target.TheVariants as targets
use Rattle.plain_graph.specs.declared.refusal.Refusal.{Refusal}
use Rattle.plain_graph.specs.declared.refusal.Refusal.TheVariants as refusals

-- A graph of this limit refuses the command so. The limit says how many there may be of nodes, of
-- edges, of properties and of blocks.
abbrev pub Reason : Type 1
Reason = ℕ → Graph → Command → Refusal → Type 0

-- how many names a store may have, and how many properties an element
abbrev pub most_names : ℕ
most_names = 4096

abbrev pub most_properties : ℕ
most_properties = 32

-- a node more would be more than the limit
abbrev pub nodes_full : Reason
nodes_full limit graph (commands.Node label pairs) why =
    (length graph.nodes ≡ limit) × (why ≡ refusals.FullNodes)
nodes_full limit graph _ why = ⊥

-- no node has the identifier
abbrev pub lacks_node : Graph → ℕ → Refusal → Type 0
lacks_node graph id why = (has_node graph id ≡ false) × (why ≡ refusals.NoNode id)

-- no node has the identifier of the first of two nodes, of the second, or of the only one
abbrev pub lacks_source : Asked → Graph → Refusal → Type 0
lacks_source (Between from to) graph why = lacks_node graph from why
lacks_source _ graph why = ⊥

abbrev pub lacks_target : Asked → Graph → Refusal → Type 0
lacks_target (Between from to) graph why = lacks_node graph to why
lacks_target _ graph why = ⊥

abbrev pub lacks_only : Asked → Graph → Refusal → Type 0
lacks_only (At id) graph why = lacks_node graph id why
lacks_only _ graph why = ⊥

-- no node has the identifier that the new edge, or a walk, is to leave
abbrev pub no_source : Reason
no_source limit graph (commands.Edge from label to pairs) why = lacks_node graph from why
no_source limit graph command why = lacks_source (asked_of command) graph why

-- no node has the identifier that it is to come to
abbrev pub no_target : Reason
no_target limit graph (commands.Edge from label to pairs) why = lacks_node graph to why
no_target limit graph command why = lacks_target (asked_of command) graph why

-- an edge more would be more than the limit
abbrev pub edges_full : Reason
edges_full limit graph (commands.Edge from label to pairs) why =
    (length graph.edges ≡ limit) × (why ≡ refusals.FullEdges)
edges_full limit graph _ why = ⊥

-- none has the identifier of the line
abbrev pub no_node : Reason
no_node limit graph (commands.Set (targets.Node id) key value) why = lacks_node graph id why
no_node limit graph (commands.Unset (targets.Node id) key) why = lacks_node graph id why
no_node limit graph (commands.Delete (targets.Node id)) why = lacks_node graph id why
no_node limit graph command why = lacks_only (asked_of command) graph why

-- no edge has the identifier
abbrev pub lacks_edge : Graph → ℕ → Refusal → Type 0
lacks_edge graph id why = (has_edge graph id ≡ false) × (why ≡ refusals.NoEdge id)

-- no edge has the identifier of the only one that is asked of
abbrev pub lacks_only_edge : Asked → Graph → Refusal → Type 0
lacks_only_edge (AtEdge id) graph why = lacks_edge graph id why
lacks_only_edge _ graph why = ⊥

abbrev pub no_edge : Reason
no_edge limit graph (commands.Set (targets.Edge id) key value) why = lacks_edge graph id why
no_edge limit graph (commands.Unset (targets.Edge id) key) why = lacks_edge graph id why
no_edge limit graph (commands.Delete (targets.Edge id)) why = lacks_edge graph id why
no_edge limit graph command why = lacks_only_edge (asked_of command) graph why

-- edges are at the node
abbrev pub has_relationships : Reason
has_relationships limit graph (commands.Delete (targets.Node id)) why =
    (degree_in graph id ≢ 0) × (why ≡ refusals.HasRelationships id)
has_relationships limit graph _ why = ⊥

-- with the names of the line there would be more than a store may have
abbrev pub lacks_names : Graph → List (List ℕ) → Refusal → Type 0
lacks_names graph line why =
    (names : List (List ℕ)) × UsesNames graph.names line names × (most_names < length names)
    × (why ≡ refusals.FullNames)

abbrev pub names_full : Reason
names_full limit graph (commands.Node label pairs) why =
    lacks_names graph (label ∷ keys_in pairs) why
names_full limit graph (commands.Edge from label to pairs) why =
    lacks_names graph (label ∷ keys_in pairs) why
names_full limit graph (commands.Set target key value) why = lacks_names graph (key ∷ []) why
names_full limit graph (commands.Index label key) why =
    lacks_names graph (label ∷ key ∷ []) why
names_full limit graph _ why = ⊥

-- the element would have more properties than it may
abbrev pub has_too_many : Properties → Refusal → Type 0
has_too_many properties why =
    (most_properties < maps.len properties) × (why ≡ refusals.TooManyProperties)

abbrev pub too_many_properties : Reason
too_many_properties limit graph (commands.Node label pairs) why =
    has_too_many (with_pairs no_properties pairs) why
too_many_properties limit graph (commands.Edge from label to pairs) why =
    has_too_many (with_pairs no_properties pairs) why
too_many_properties limit graph (commands.Set target key value) why =
    has_too_many (maps.insert (properties_at graph target) key value) why
too_many_properties limit graph _ why = ⊥

-- there would be more than the limit
abbrev pub lacks_room : ℕ → ℕ → Refusal → Refusal → Type 0
lacks_room limit count full why = (limit < count) × (why ≡ full)

-- the graph would have more properties than the limit; a value that is replaced counts no longer
abbrev pub properties_full : Reason
properties_full limit graph (commands.Node label pairs) why =
    lacks_room limit (property_count graph + maps.len (with_pairs no_properties pairs))
    refusals.FullProperties why
properties_full limit graph (commands.Edge from label to pairs) why =
    lacks_room limit (property_count graph + maps.len (with_pairs no_properties pairs))
    refusals.FullProperties why
properties_full limit graph (commands.Set target key value) why =
    lacks_room limit (property_count (with_value graph target key value))
    refusals.FullProperties why
properties_full limit graph _ why = ⊥

-- or more blocks of long texts
abbrev pub strings_full : Reason
strings_full limit graph (commands.Node label pairs) why =
    lacks_room limit (block_count graph + blocks_in (with_pairs no_properties pairs))
    refusals.FullStrings why
strings_full limit graph (commands.Edge from label to pairs) why =
    lacks_room limit (block_count graph + blocks_in (with_pairs no_properties pairs))
    refusals.FullStrings why
strings_full limit graph (commands.Set target key value) why =
    lacks_room limit (block_count (with_value graph target key value)) refusals.FullStrings why
strings_full limit graph _ why = ⊥

-- the label and the key have an index
abbrev pub index_there : Reason
index_there limit graph (commands.Index label key) why =
    (has_index graph label key ≡ true) × (why ≡ refusals.IndexThere)
index_there limit graph _ why = ⊥

-- the store has as many indexes as it may
abbrev pub too_many_indexes : Reason
too_many_indexes limit graph (commands.Index label key) why =
    (most_indexes ≤ length graph.indexes) × (why ≡ refusals.TooManyIndexes)
too_many_indexes limit graph _ why = ⊥

-- the index would begin with more nodes than it may
abbrev pub index_too_large : Reason
index_too_large limit graph (commands.Index label key) why =
    (most_indexed < indexed_count graph label key)
    × (why ≡ refusals.IndexTooLarge (indexed_count graph label key))
index_too_large limit graph _ why = ⊥

-- the indexes would take more records than twice the limit
abbrev pub index_full : Reason
index_full limit graph (commands.Index label key) why =
    lacks_room (2 * limit) (index_records graph + 13 + indexed_count graph label key)
    refusals.FullIndex why
index_full limit graph (commands.Node label pairs) why =
    lacks_room (2 * limit)
    (index_records graph + entry_count graph label (with_pairs no_properties pairs))
    refusals.FullIndex why
index_full limit graph (commands.Set (targets.Node id) key value) why =
    lacks_room (2 * limit) (index_records (with_value graph (targets.Node id) key value))
    refusals.FullIndex why
index_full limit graph _ why = ⊥

-- the label and the key that are asked of have no index
abbrev pub lacks_index : Option Index → Graph → Refusal → Type 0
lacks_index None graph why = ⊥
lacks_index (Some index) graph why =
    (has_index graph index.label index.key ≡ false) × (why ≡ refusals.NoIndex)

abbrev pub no_index : Reason
no_index limit graph command why = lacks_index (index_of command) graph why

-- the reasons of changes, and of lines that name elements or an index, in the order in which they
-- count
abbrev pub change_reasons : List Reason
change_reasons =
    nodes_full ∷ no_source ∷ no_target ∷ edges_full ∷ no_node ∷ no_edge ∷ has_relationships
    ∷ index_there ∷ too_many_indexes ∷ no_index
    ∷ names_full ∷ too_many_properties
    ∷ properties_full ∷ strings_full ∷ index_too_large ∷ index_full ∷ []

-- no reason refuses the command
abbrev pub NoReason : List Reason → ℕ → Graph → Command → Type 0
NoReason [] limit graph command = Unit {0}
NoReason (reason ∷ later) limit graph command =
    ((other : Refusal) → ¬ reason limit graph command other) × NoReason later limit graph command

-- the first reason that holds refuses the command so
abbrev pub FirstReason : List Reason → ℕ → Graph → Command → Refusal → Type 0
FirstReason [] limit graph command why = ⊥
FirstReason (reason ∷ later) limit graph command why =
    reason limit graph command why
    ⊎ (((other : Refusal) → ¬ reason limit graph command other)
    × FirstReason later limit graph command why)
