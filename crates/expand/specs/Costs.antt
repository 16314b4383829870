-- What the edges of a node cost.
use Rattle.std.specs.Prelude.{ℕ, ◌+◌, nat_eq, nat_lt, if◌then◌else◌, Bool, false, not, ◌||◌}
use Rattle.std.specs.Prelude.{List, [], ◌∷◌, length, map}
use Rattle.std.specs.List.{filter, list_any}
use Rattle.std.specs.Set.{distinct_count}
use Rattle.plain_graph.specs.Graph.{Edge, Graph, degree_in, is_at}
use Rattle.plain_graph.specs.Meaning.{enters_by, is_named, leaves_by}
use Rattle.plain_graph.specs.Values.{is_text}
use Rattle.plain_graph.specs.declared.direction.Direction.{Direction}
use Rattle.plain_graph.specs.declared.direction.Direction.TheVariants as directions
use Rattle.rec_bytes.specs.Format as format
use Rattle.rec_bytes.specs.Space.{State}
use Rattle.store_rules.specs.Graph.{graph_in, names_of}
use Rattle.store_rules.specs.Views.{Records, high, kind_at}
use Rattle.expand.specs.Expanding.{name_of}

-- how many types the edges at a node have
abbrev pub type_count : Graph → ℕ → ℕ
type_count graph node =
    distinct_count is_text (map (λ (edge : Edge). edge.label) (filter (is_at node) graph.edges))

-- an edge of these types is at the node, in a direction
abbrev pub is_met_edge : Direction → List (List ℕ) → ℕ → Edge → Bool
is_met_edge directions.Outgoing names node edge = leaves_by names node edge
is_met_edge directions.Incoming names node edge = enters_by names node edge
is_met_edge directions.Both names node edge = leaves_by names node edge || enters_by names node edge

-- how many there are; a loop counts once
abbrev pub met_count : Graph → Direction → List (List ℕ) → ℕ → ℕ
met_count graph direction names node =
    length (filter (is_met_edge direction names node) graph.edges)

-- a read for the node, one for each type at it, and one for each edge that is met
abbrev pub dense_reads : State → Direction → List ℕ → ℕ → ℕ
dense_reads s direction labels node =
    type_count (graph_in s) node
    + met_count (graph_in s) direction (map (name_of s.records) labels) node + 1

-- So it is of a dense node. Of a sparse one each edge at it costs a read.
abbrev pub most_reads : State → Direction → List ℕ → ℕ → ℕ
most_reads s direction labels node =
    if nat_eq (kind_at s.records format.nodes_file node) format.dense
    then dense_reads s direction labels node else degree_in (graph_in s) node + 1

-- ---- types that are no names of the store

abbrev pub is_below : ℕ → ℕ → Bool
is_below mark label = nat_lt label mark

-- types are given by their numbers, and none of these is a name's
abbrev pub are_no_names : Records → List ℕ → Bool
are_no_names records [] = false
are_no_names records (label ∷ labels) =
    not (list_any (is_below (high records format.names_file)) (label ∷ labels))

-- types are written, and none of them is a name of the store
abbrev pub are_unknown : Records → List (List ℕ) → Bool
are_unknown records [] = false
are_unknown records (text ∷ texts) = not (list_any (is_named (text ∷ texts)) (names_of records))
