-- Elements of a store by their identifiers.
use Rattle.std.specs.Prelude.{ℕ, Bool, true, false, Option, None, Some}
use Rattle.std.specs.Option.{option_map}
use Rattle.plain_graph.specs.Meaning.{edge_item, vertex_of}
use Rattle.node_store.specs.declared.node_row.NodeRow.{NodeRow}
use Rattle.plain_graph.specs.declared.item.Item.{Item}
use Rattle.plain_graph.specs.declared.item.Item.TheVariants as items
use Rattle.rec_bytes.specs.Format.{nodes_file, relationships_file}
use Rattle.rel_store.specs.declared.rel_row.RelRow.{RelRow}
use Rattle.store_rules.specs.Graph.{edge_of, node_of}
use Rattle.store_rules.specs.Views.{Records, high}
use Rattle.traversal_run.specs.Naming.{name_at}

-- the vertex or the edge of an identifier, where it is in use
abbrev pub element_at : Records → Bool → ℕ → Option Item
element_at records false id = option_map vertex_of (node_of records id)
element_at records true id = option_map edge_item (edge_of records id)

-- how many vertices or edges were given out
abbrev pub element_mark : Records → Bool → ℕ
element_mark records false = high records nodes_file
element_mark records true = high records relationships_file

-- the vertex of an identifier, where it has a row
abbrev pub vertex_if : ℕ → Option NodeRow → Option Item
vertex_if id None = None
vertex_if id (Some row) = Some (items.Vertex id)

-- the edge of a row, with the name of its type
abbrev pub typed_edge : Records → RelRow → Item
typed_edge records row = items.Edge row.id (name_at records row.label) row.from row.to
