-- The neighbours of nodes by the records of a space.
use Rattle.std.specs.Prelude.{◌≡◌, ℕ, ◌<◌, List, map}
use Rattle.rec_bytes.specs.Format.{names_file}
use Rattle.rec_bytes.specs.Space.{State}
use Rattle.plain_graph.specs.Adjacency.{Adjacency, adjacency_in}
use Rattle.plain_graph.specs.Graph.{has_node}
use Rattle.plain_graph.specs.Meaning.{is_named}
use Rattle.plain_graph.specs.declared.direction.Direction.{Direction}
use Rattle.store_rules.specs.Views.{Records, high}
use Rattle.expand.specs.Expanding.{name_of, rows_of}
use Rattle.expand.specs.Matching.{is_wanted, rows_at}
use Rattle.path_find.specs.Ends.{row_end}
use Rattle.store_rules.specs.Graph.{graph_in}

-- A name of the store is among the numbers exactly where its text is among the types, so all are
-- meant where none is given. A number that is no name's stands for a type that is none.
abbrev pub StandFor : Records → List ℕ → List (List ℕ) → Type 0
StandFor records labels types =
    (x : ℕ) → x < high records names_file → is_wanted labels x ≡ is_named types (name_of records x)

-- the neighbours by the rows of the store
abbrev pub neighbours_at : State → Direction → List ℕ → Adjacency
neighbours_at s direction labels = record {
  is_node = has_node (graph_in s);
  next = λ node. map (row_end node) (rows_at direction labels node (rows_of s.records));
}

-- those of the store's graph
abbrev pub adjacency_of : State → Direction → List (List ℕ) → Adjacency
adjacency_of s direction types = adjacency_in (graph_in s) direction types
