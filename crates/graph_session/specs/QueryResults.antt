-- The line of a result of a query, as it is or as a map.
use Rattle.std.specs.Prelude.{◌≡◌, ℕ, ◌+◌, ◌*◌, Option, None, Some, List, length}
use Rattle.fault_count.specs.Cause.{Rose}
use Rattle.stream_io.specs.declared.streams.Sink.{Ghosts as SinkGhosts}
use Rattle.plain_graph.specs.ElementMaps.{map_line, shown_line}
use Rattle.plain_graph.specs.Graph.{Graph}
use Rattle.plain_graph.specs.Meaning.{meaning, properties_of}
use Rattle.plain_graph.specs.Reply.{item_line, text_line}
use Rattle.plain_graph.specs.declared.element_map.ElementMap.{ElementMap}
use Rattle.plain_graph.specs.declared.item.Item.{Item}
use Rattle.plain_graph.specs.declared.query.Query.{Query}
use Rattle.prop_store.specs.Fault.{BlamesBroken}
use Rattle.rec_bytes.specs.declared.fault.Fault.{Fault}
use Rattle.rec_bytes.specs.declared.fault.Fault.TheVariants as faults
use Rattle.rec_bytes.specs.declared.space.Reads.{Ghosts as SpaceGhosts}
use Rattle.store_rules.specs.Graph.{graph_of}
use Rattle.store_rules.specs.Views.{Records}
use Rattle.traversal_run.specs.Owing.{query_reads, values_reads}
use Rattle.traversal_run.specs.Reading.{IsNamedStore}
use Rattle.traversal_run.specs.Viewing.{view_reads}
use Rattle.graph_session.specs.ReplyLines.{AddsLine}
use Rattle.graph_session.specs.declared.reply_lines.ReplyLines.{ReplyLines}
use Rattle.graph_session.specs.declared.turn.Turn.{Turn}

-- the line of a result over any files
abbrev pub IsResultLine : Option (List (List ℕ)) → Item → List ℕ → Type 0
IsResultLine None item line = line ≡ item_line item
IsResultLine (Some keys) item line = (element : ElementMap) × (line ≡ map_line (item, element))

-- A line of the result was gathered, which over a store is what the graph shows.
pub record AddsShown {R K : Type 0} (space : SpaceGhosts R) (sink : SinkGhosts K)
    (names : List (List ℕ)) (maps : Option (List (List ℕ))) (item : Item) (at : R)
    (old new : ReplyLines K) (turn : Turn) : Type 0 where
  pub line : List ℕ
  pub form : IsResultLine maps item line
  pub shown : space.tells
      → IsNamedStore (space.state at).records (space.state at).shape names
      → line ≡ shown_line (graph_of (space.state at).records) maps item
  pub adds : AddsLine sink (text_line line) old new turn

-- No line was gathered. The disk is blamed only where it failed, and a record only where it breaks
-- a rule.
pub record AddsNone {R K : Type 0} (space : SpaceGhosts R) (at now : R) (old new : ReplyLines K)
    (fault : Fault) : Type 0 where
  pub same : new ≡ old
  pub disk : fault ≡ faults.Disk → Rose (space.faults at) (space.faults now)
  pub blames : space.tells → BlamesBroken (space.state at).records (space.state at).shape fault

-- What a result's line reads: nothing where it is shown as it is, and else its element, and each
-- property and each block of their texts.
abbrev pub reads_to_show : Graph → Option (List (List ℕ)) → Item → ℕ
reads_to_show graph None item = 0
reads_to_show graph (Some keys) item = view_reads (properties_of graph item)

-- What a result's line reads at most, whatever element it is: nothing where it is shown as it is,
-- and else what all values of an element cost.
abbrev pub map_reads : Option (List (List ℕ)) → ℕ
map_reads None = 0
map_reads (Some keys) = values_reads

-- What the line of a query reads at most, but for finding the nodes that it begins with: what the
-- query reads, and for each result what showing it costs.
abbrev pub line_reads : Records → Query → ℕ
line_reads records query =
    query_reads records query + map_reads query.maps * length (meaning (graph_of records) query)
