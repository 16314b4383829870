-- The types that a hop names, and what its edges cost.
use Rattle.std.specs.Prelude.{◌≡◌, ◌<◌, ℕ, ◌+◌, nat_eq, if◌then◌else◌, List, [], All}
use Rattle.expand.specs.Costs.{are_unknown, met_count, type_count}
use Rattle.plain_graph.specs.Graph.{degree_in}
use Rattle.plain_graph.specs.declared.item.Item.{Item}
use Rattle.plain_graph.specs.declared.item.Item.TheVariants as items
use Rattle.plain_graph.specs.declared.query.Hop.{Hop}
use Rattle.rec_bytes.specs.Format as format
use Rattle.store_rules.specs.Graph.{graph_of}
use Rattle.store_rules.specs.Views.{Records, kind_at}
use Rattle.traversal_run.specs.Naming.{FindsNames, name_count}

-- The numbers are those of the names with one of these texts. There are none only for no text.
pub record AreTypeNumbers (records : Records) (numbers : List ℕ)
    (texts : List (List ℕ)) : Type 0 where
  pub finds : FindsNames records numbers texts
  pub below : All (λ number. number < name_count records) numbers
  pub none : numbers ≡ [] → texts ≡ []

-- What a hop of known types reads at a vertex, as `expand` does. A dense one costs a read, one for
-- each type at it, and one for each edge that the hop takes. A sparse one costs a read, and one for
-- each edge at it.
abbrev pub walk_reads : Records → Hop → ℕ → ℕ
walk_reads records hop id =
    if nat_eq (kind_at records format.nodes_file id) format.dense
    then type_count (graph_of records) id
    + met_count (graph_of records) hop.direction hop.labels id + 1
    else degree_in (graph_of records) id + 1

-- Of a hop whose types are no names of the store nothing is read.
abbrev pub reads_at_vertex : Records → Hop → ℕ → ℕ
reads_at_vertex records hop id =
    if are_unknown records hop.labels then 0 else walk_reads records hop id

-- and what it reads at an item: nothing at one that is no vertex
abbrev pub hop_reads : Records → Hop → Item → ℕ
hop_reads records hop (items.Vertex id) = reads_at_vertex records hop id
hop_reads records hop (items.Edge id label from to) = 0
hop_reads records hop (items.Value value) = 0
