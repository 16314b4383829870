-- How many records a run may still read: one for each identifier that its source may still come to,
-- and what each step reads for the items that come to it.
use Rattle.std.specs.Prelude.{ℕ, ◌+◌, ◌≤◌, true, false, cond, is_some, Option, None, Some}
use Rattle.std.specs.Prelude.{Result, Ok, Err, List, [], ◌∷◌, ◌++◌, length, sum_by}
use Rattle.plain_graph.specs.Graph.{Graph}
use Rattle.plain_graph.specs.Meaning.{passes, source_of}
use Rattle.plain_graph.specs.declared.filter.Filter.{Filter}
use Rattle.plain_graph.specs.declared.filter.Filter.TheVariants as filters
use Rattle.plain_graph.specs.declared.item.Item.{Item}
use Rattle.plain_graph.specs.declared.item.Item.TheVariants as items
use Rattle.plain_graph.specs.declared.query.Query.{Query}
use Rattle.plain_graph.specs.declared.query.Source.{Source as Asked}
use Rattle.plain_graph.specs.declared.query.Source.TheVariants as sources
use Rattle.rec_bytes.specs.Space.{State}
use Rattle.store_rules.specs.Graph.{graph_of}
use Rattle.store_rules.specs.Views.{Records}
use Rattle.traversal_run.specs.Finding.{element_at, element_mark}
use Rattle.traversal_run.specs.Hopping.{hop_reads}
use Rattle.traversal_run.specs.Source.{left_count, left_of}
use Rattle.traversal_run.specs.Stage.{after_stage}
use Rattle.traversal_run.specs.Starting.{rows_of}
use Rattle.traversal_run.specs.declared.mapping.Mapping.{Mapping}
use Rattle.traversal_run.specs.declared.mapping.Mapping.TheVariants as mappings
use Rattle.traversal_run.specs.declared.numbered_filter.NumberedFilter.{NumberedFilter}
use Rattle.traversal_run.specs.declared.row.Row.{Row}
use Rattle.traversal_run.specs.declared.run.Run.{Run}
use Rattle.traversal_run.specs.declared.source.Source.{Source}
use Rattle.traversal_run.specs.declared.stage.Stage.{Stage}
use Rattle.traversal_run.specs.declared.stage.Stage.TheVariants as stages

-- ---- what a step reads for one item, at most

-- for the value of a key of an element: its own record, 32 properties, and 22 blocks of a text
abbrev pub key_reads : ℕ
key_reads = 55

-- for all its values: 704 blocks
abbrev pub values_reads : ℕ
values_reads = 737

abbrev pub filter_reads : Filter → ℕ
filter_reads (filters.Has key) = key_reads
filter_reads (filters.HasValue key relation value) = key_reads
filter_reads (filters.HasLabel labels) = 1

-- for the values of these keys
abbrev pub keys_reads : List (List ℕ) → ℕ
keys_reads (key ∷ []) = key_reads
keys_reads keys = values_reads

-- for its place in an order
abbrev pub rank_reads : Option (List ℕ) → ℕ
rank_reads None = 0
rank_reads (Some key) = key_reads

-- A hop reads what its walk costs, and the other steps what they ask of the element.
abbrev pub mapping_reads : Records → Mapping → Item → ℕ
mapping_reads records (mappings.Neighbours hop) item = hop_reads records hop item
mapping_reads records (mappings.Incident hop) item = hop_reads records hop item
mapping_reads records mappings.OutV item = 0
mapping_reads records mappings.InV item = 0
mapping_reads records (mappings.Filter test) item = filter_reads test
mapping_reads records (mappings.Values keys) item = keys_reads keys
mapping_reads records mappings.Id item = 0
mapping_reads records mappings.Label item = 1

abbrev pub stage_reads : Records → Stage → Item → ℕ
stage_reads records (stages.Mapped mapping) item = mapping_reads records mapping item
stage_reads records (stages.Dedup seen) item = 0
stage_reads records (stages.Count so_far given) item = 0
stage_reads records (stages.Limit left) item = 0
stage_reads records (stages.Order key descending kept given) item = rank_reads key

-- ---- what a run may still read

-- for these items, and those that its steps make of them
abbrev pub steps_owe : Records → List Row → List Item → ℕ
steps_owe records [] coming = 0
steps_owe records (row ∷ rows) coming =
    sum_by (stage_reads records row.stage) (row.waiting ++ coming)
    + steps_owe records rows (after_stage (graph_of records) row.stage (row.waiting ++ coming))

-- one read for each identifier that the source may still come to
abbrev pub source_owes : Records → Source → ℕ
source_owes records source = left_count (element_mark records source.edges) source.left

-- with steps that take what the source still has
abbrev pub rows_owe : Records → Source → List Row → ℕ
rows_owe records source rows =
    source_owes records source + steps_owe records rows (left_of (graph_of records) source)

abbrev pub owed : Records → Run → ℕ
owed records run = rows_owe records run.source run.rows.items

-- the identifiers that a query comes to: all that were given out, those that are written, or those
-- of the nodes that are found
abbrev pub asked_reads : Records → Asked → ℕ
asked_reads records (sources.Vertices []) = element_mark records false
asked_reads records (sources.Vertices (id ∷ ids)) = length (id ∷ ids)
asked_reads records (sources.Edges []) = element_mark records true
asked_reads records (sources.Edges (id ∷ ids)) = length (id ∷ ids)
asked_reads records (sources.Found label key value) =
    length (source_of (graph_of records) (sources.Found label key value))

-- What a query reads at most, but for finding the nodes that it begins with: for the identifiers
-- that it comes to, and for each step, a repeat written out, what that reads for each item that
-- comes to it.
abbrev pub query_reads : Records → Query → ℕ
query_reads records query = asked_reads records query.source
    + steps_owe records (rows_of query.steps) (source_of (graph_of records) query.source)

-- ---- what was read

-- What was read, with what may still be read, is no more than what could be read before.
abbrev pub Spends : State → State → ℕ → ℕ → Type 0
Spends old new before after = new.reads + after ≤ old.reads + before

-- So it is, and after an error nothing more is read.
abbrev pub SpendsIf : {T E : Type 0} → Result T E → State → State → ℕ → ℕ → Type 0
SpendsIf (Ok value) old new before after = Spends old new before after
SpendsIf (Err fault) old new before after = Spends old new before 0

-- ---- amid a call

-- what one row reads for the items that wait and those that come
abbrev pub row_owes : Records → Row → List Item → ℕ
row_owes records row coming = sum_by (stage_reads records row.stage) (row.waiting ++ coming)

-- one step alone, with none that waits, that takes what the source still has
abbrev pub feed_owes : Records → Source → Stage → ℕ
feed_owes records source stage = source_owes records source
    + sum_by (stage_reads records stage) (left_of (graph_of records) source)

-- what filters read for an item: each for one that passes those before it
abbrev pub numbered_reads : Graph → List NumberedFilter → Item → ℕ
numbered_reads graph [] item = 0
numbered_reads graph (numbered ∷ list) item = filter_reads numbered.filter.now
    + cond (passes graph numbered.filter.now item) (numbered_reads graph list item) 0

-- what they read for the vertex of an identifier, which is read first
abbrev pub vertex_reads : Records → List NumberedFilter → ℕ → ℕ
vertex_reads records list id = 1 + cond (is_some (element_at records false id))
    (numbered_reads (graph_of records) list (items.Vertex id)) 0

-- what they read for all that the source still has
abbrev pub count_owes : Records → List NumberedFilter → Source → ℕ
count_owes records list source = source_owes records source
    + sum_by (numbered_reads (graph_of records) list) (left_of (graph_of records) source)
