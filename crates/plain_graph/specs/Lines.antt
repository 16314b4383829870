-- The table of lines: of each its kind, the form of its names and values, the elements and the
-- index that it asks of, what it shows of a graph, and the form of its answer over any files.
use Rattle.std.specs.Prelude.{◌≡◌, ◌⊎◌, ℕ, Bool, false, Option, Some, None, List, [], ◌∷◌, ◌++◌}
use Rattle.std.specs.Prelude.{codes, decimal, find, length, map, nat_eq}
use Rattle.std.specs.Option.{option_map}
use Rattle.plain_graph.specs.Adjacency.{adjacency_in}
use Rattle.plain_graph.specs.Counts.{counts_of}
use Rattle.plain_graph.specs.Forms.{ArePairs, HasMutationForm, IsKept, IsMaybeName}
use Rattle.plain_graph.specs.ElementMaps.{element_map, making_text, map_line, shown_line}
use Rattle.plain_graph.specs.Graph.{Graph, Index, edge_number, node_number}
use Rattle.plain_graph.specs.Indexes.{scan}
use Rattle.plain_graph.specs.Kinds.{AreQuestions, Blanks, Bound, Change, Ending, Kind, Question}
use Rattle.plain_graph.specs.Kinds.{Sight, Upkeep}
use Rattle.plain_graph.specs.Meaning.{edge_item, edges_at, has_past_count, meaning, vertex_of}
use Rattle.plain_graph.specs.Names.{IsShortName}
use Rattle.plain_graph.specs.Reached.{IsAnswer, IsLeastOrNone}
use Rattle.plain_graph.specs.Reply.{end_text, file_name, index_line, item_line}
use Rattle.plain_graph.specs.declared.command.Command.{Command}
use Rattle.plain_graph.specs.declared.command.Command.TheVariants as commands
use Rattle.plain_graph.specs.declared.command.Target.{Target}
use Rattle.plain_graph.specs.declared.command.Target.TheVariants as targets
use Rattle.plain_graph.specs.declared.counts.Counts.{Counts}
use Rattle.plain_graph.specs.declared.direction.Direction.{Direction}
use Rattle.plain_graph.specs.declared.element_map.ElementMap.{ElementMap}
use Rattle.plain_graph.specs.declared.item.Item.{Item}
use Rattle.plain_graph.specs.declared.item.Item.TheVariants as items
use Rattle.plain_graph.specs.declared.node_level.NodeLevel.{NodeLevel}
use Rattle.plain_graph.specs.declared.query.Query.{Query}
use Rattle.plain_graph.specs.declared.query.Source.{Source}
use Rattle.plain_graph.specs.declared.query.Source.TheVariants as sources
use Rattle.plain_graph.specs.declared.value.Value.TheVariants as values

-- ---- what an answer is

-- the lines of the answer, the line that ends it, and whether more results come to a count in it
-- than a number holds
pub record Reading : Type 0 where
  pub lines : List (List ℕ)
  pub last : List ℕ
  pub is_past : Bool

-- one line
abbrev pub one_line : List ℕ → Reading
one_line text = record { lines = []; last = text; is_past = false }

-- these lines, and the end
abbrev pub listed : List (List ℕ) → Reading
listed lines = record { lines = lines; last = end_text; is_past = false }

-- ---- the lines of answers

-- all rules of the store hold
abbrev pub sound_text : List ℕ
sound_text = codes "sound"

-- this record of the file breaks the rule of the store of this number, the least that is broken
abbrev pub broken_text : ℕ → ℕ → ℕ → List ℕ
broken_text file id rule =
    codes "broken " ++ file_name file ++ codes " " ++ decimal id ++ codes " " ++ decimal rule

-- how many there are of each part of the graph
abbrev pub counts_text : Counts → List ℕ
counts_text counts =
    codes "nodes " ++ decimal counts.nodes ++ codes " edges " ++ decimal counts.edges
    ++ codes " properties " ++ decimal counts.properties ++ codes " blocks "
    ++ decimal counts.blocks
    ++ codes " names " ++ decimal counts.names

-- how many edges a node has
abbrev pub degree_text : ℕ → List ℕ
degree_text edges = codes "degree " ++ decimal edges

-- how many edges a walk has, or that none leads there
abbrev pub path_text : ℕ → List ℕ
path_text edges = codes "path " ++ decimal edges

abbrev pub no_path_text : List ℕ
no_path_text = codes "no path"

-- a node and the least number of edges that lead to it
abbrev pub level_text : NodeLevel → List ℕ
level_text row = codes "==>v[" ++ decimal row.node ++ codes "] " ++ decimal row.level

-- ---- what is read of a graph

-- the types that a line names: one, or none for all
abbrev pub types_of : Option (List ℕ) → List (List ℕ)
types_of None = []
types_of (Some name) = name ∷ []

-- the edges of a type at a node
abbrev pub expansion : Graph → ℕ → Direction → List ℕ → List Item
expansion graph id direction label = map edge_item (edges_at graph direction (label ∷ []) id)

-- how many edges it has, of one type or of all
abbrev pub degree_at : Graph → ℕ → Direction → Option (List ℕ) → ℕ
degree_at graph id direction label = length (edges_at graph direction (types_of label) id)

-- the nodes of a walk, or that there is none
abbrev pub walk_reading : List ℕ → Reading
walk_reading [] = one_line no_path_text
walk_reading (first ∷ later) =
    listed (path_text (length later)
    ∷ map (λ (id : ℕ). item_line (items.Vertex id)) (first ∷ later))

-- a least walk of the shortest, with the levels of the nodes that are reached
abbrev pub IsFound : Graph → ℕ → ℕ → Direction → Option (List ℕ) → List ℕ → List NodeLevel → Type 0
IsFound graph from to direction label walk levels =
    IsAnswer (adjacency_in graph direction (types_of label)) from to walk levels

-- The elements that a question asks of, and is refused without: none, a node, two nodes, of which
-- the first counts first, or an edge.
pub data Asked : Type 0 where
  Nowhere : Asked
  At : (id : ℕ) → Asked
  Between : (from to : ℕ) → Asked
  AtEdge : (id : ℕ) → Asked

-- the names of a graph, each as a value
abbrev pub name_items : Graph → List Item
name_items graph = map (λ (name : List ℕ). items.Value (values.Text name)) graph.names

-- the element of the graph that a line names, as a result
abbrev pub item_at : Graph → Target → Option Item
item_at graph (targets.Node id) =
    option_map vertex_of (find (λ node. nat_eq (node_number node) id) graph.nodes)
item_at graph (targets.Edge id) =
    option_map edge_item (find (λ edge. nat_eq (edge_number edge) id) graph.edges)

-- the lines of a query's results over any files: as they are, or as maps
abbrev pub AreResults : Option (List (List ℕ)) → List (List ℕ) → Type 0
AreResults None lines = (results : List Item) × (lines ≡ map item_line results)
AreResults (Some keys) lines = (rows : List (Item × ElementMap)) × (lines ≡ map map_line rows)

-- the index that a query begins with
abbrev pub index_of_source : Source → Option Index
index_of_source (sources.Vertices ids) = None
index_of_source (sources.Edges ids) = None
index_of_source (sources.Found label key value) = Some (record { label = label; key = key })

-- the same where there is a query
abbrev pub index_of_reading : Option Query → Option Index
index_of_reading None = None
index_of_reading (Some query) = index_of_source query.source

-- ---- the table

-- the kind of the line
abbrev pub kind_of : Command → Kind
kind_of commands.Blank = Blanks
kind_of commands.Quit = Ending
kind_of commands.Begin = Bound
kind_of commands.Commit = Bound
kind_of commands.Rollback = Bound
kind_of commands.Checkpoint = Upkeep
kind_of commands.Reopen = Upkeep
kind_of commands.Snapshot = Sight
kind_of commands.Release = Sight
kind_of (commands.Node label pairs) = Change
kind_of (commands.Edge from label to pairs) = Change
kind_of (commands.Set target key value) = Change
kind_of (commands.Unset target key) = Change
kind_of (commands.Delete target) = Change
kind_of (commands.Index label key) = Change
kind_of (commands.Mutate reading mutation) = Change
kind_of commands.Check = Question
kind_of commands.Stats = Question
kind_of (commands.Expand id direction label) = Question
kind_of (commands.Degree id direction label) = Question
kind_of (commands.Path from to direction label) = Question
kind_of (commands.Levels from to direction label) = Question
kind_of (commands.Find label key value) = Question
kind_of (commands.View target) = Question
kind_of commands.ViewNames = Question
kind_of commands.ViewIndexes = Question
kind_of (commands.Query query) = Question

-- labels, types and keys of the command are names, and its values ones that a store may keep
abbrev pub HasForm : Command → Type 0
HasForm (commands.Node label pairs) = IsShortName label × ArePairs pairs
HasForm (commands.Edge from label to pairs) = IsShortName label × ArePairs pairs
HasForm (commands.Set target key value) = IsShortName key × IsKept value
HasForm (commands.Unset target key) = IsShortName key
HasForm (commands.Index label key) = IsShortName label × IsShortName key
HasForm (commands.Find label key value) = IsShortName label × IsShortName key × IsKept value
HasForm (commands.Expand id direction label) = IsShortName label
HasForm (commands.Degree id direction label) = IsMaybeName label
HasForm (commands.Path from to direction label) = IsMaybeName label
HasForm (commands.Levels from to direction label) = IsMaybeName label
HasForm (commands.Mutate reading mutation) = HasMutationForm mutation
HasForm _ = Unit {0}

-- the elements that a question asks of
abbrev pub asked_of : Command → Asked
asked_of (commands.Expand id direction label) = At id
asked_of (commands.Degree id direction label) = At id
asked_of (commands.Path from to direction label) = Between from to
asked_of (commands.Levels from to direction label) = Between from to
asked_of (commands.View (targets.Node id)) = At id
asked_of (commands.View (targets.Edge id)) = AtEdge id
asked_of _ = Nowhere

-- the index that a line asks of, and is refused without
abbrev pub index_of : Command → Option Index
index_of (commands.Find label key value) = Some (record { label = label; key = key })
index_of (commands.Query query) = index_of_source query.source
index_of (commands.Mutate reading mutation) = index_of_reading reading
index_of _ = None

-- The line asks for this reading of the graph. Other lines ask for none.
abbrev pub Shows : Graph → Command → Reading → Type 0
Shows graph commands.Check reading = reading ≡ one_line sound_text
Shows graph commands.Stats reading = reading ≡ one_line (counts_text (counts_of graph))
Shows graph (commands.Expand id direction label) reading =
    reading ≡ listed (map item_line (expansion graph id direction label))
Shows graph (commands.Degree id direction label) reading =
    reading ≡ one_line (degree_text (degree_at graph id direction label))
Shows graph (commands.Path from to direction label) reading =
    (walk : List ℕ) × IsLeastOrNone (adjacency_in graph direction (types_of label)) from to walk
    × (reading ≡ walk_reading walk)
Shows graph (commands.Levels from to direction label) reading =
    (walk : List ℕ) × (levels : List NodeLevel)
    × IsFound graph from to direction label walk levels
    × (reading ≡ listed (map level_text levels))
Shows graph (commands.Find label key value) reading =
    reading ≡ listed (map item_line (meaning graph (scan label key value)))
Shows graph (commands.View target) reading =
    (item : Item) × (item_at graph target ≡ Some item)
    × (reading ≡ one_line (making_text item (element_map graph [] item)))
Shows graph commands.ViewNames reading = reading ≡ listed (map item_line (name_items graph))
Shows graph commands.ViewIndexes reading =
    reading
    ≡ listed (map (λ (index : Index). index_line index.label index.key) graph.indexes)
Shows graph (commands.Query query) reading =
    reading
    ≡ record {
      lines = map (shown_line graph query.maps) (meaning graph query);
      last = end_text;
      is_past = has_past_count graph query;
    }
Shows graph _ reading = ⊥

-- The form of what a line that reads is answered with, whatever is read.
abbrev pub IsFormed : Command → Reading → Type 0
IsFormed commands.Check reading =
    (reading ≡ one_line sound_text)
    ⊎ ((file : ℕ) × (id : ℕ) × (rule : ℕ) × (reading ≡ one_line (broken_text file id rule)))
IsFormed commands.Stats reading = (counts : Counts) × (reading ≡ one_line (counts_text counts))
IsFormed (commands.Expand id direction label) reading =
    (edges : List Item) × (reading ≡ listed (map item_line edges))
IsFormed (commands.Degree id direction label) reading =
    (edges : ℕ) × (reading ≡ one_line (degree_text edges))
IsFormed (commands.Path from to direction label) reading =
    (walk : List ℕ) × (reading ≡ walk_reading walk)
IsFormed (commands.Levels from to direction label) reading =
    (levels : List NodeLevel) × (reading ≡ listed (map level_text levels))
IsFormed (commands.Find label key value) reading =
    (nodes : List ℕ)
    × (reading ≡ listed (map (λ (id : ℕ). item_line (items.Vertex id)) nodes))
IsFormed (commands.View target) reading =
    (item : Item) × (element : ElementMap) × (reading ≡ one_line (making_text item element))
IsFormed commands.ViewNames reading =
    (names : List (List ℕ))
    × (reading
    ≡ listed (map (λ (name : List ℕ). item_line (items.Value (values.Text name))) names))
IsFormed commands.ViewIndexes reading =
    (indexes : List Index)
    × (reading
    ≡ listed (map (λ (index : Index). index_line index.label index.key) indexes))
IsFormed (commands.Query query) reading =
    (lines : List (List ℕ)) × AreResults query.maps lines × (is_past : Bool)
    × (reading ≡ record { lines = lines; last = end_text; is_past = is_past })
IsFormed _ reading = ⊥

-- the line asks for what is read of the graph
abbrev pub IsQuestion : Command → Type 0
IsQuestion command = AreQuestions (kind_of command)
