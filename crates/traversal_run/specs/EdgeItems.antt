-- The items of the rows of edges.
use Rattle.std.specs.Prelude.{◌<◌, ℕ, nat_eq, if◌then◌else◌, List, All}
use Rattle.plain_graph.specs.declared.item.Item.{Item}
use Rattle.plain_graph.specs.declared.item.Item.TheVariants as items
use Rattle.rel_store.specs.declared.edge_row.EdgeRow.{EdgeRow}
use Rattle.store_rules.specs.Views.{Records}
use Rattle.traversal_run.specs.Naming.{name_at, name_count}

-- the number of its type is a name's
abbrev pub IsTyped : Records → EdgeRow → Type 0
IsTyped records row = row.label < name_count records

abbrev pub AreTyped : Records → List EdgeRow → Type 0
AreTyped records rows = All (λ (row : EdgeRow). row.label < name_count records) rows

-- the edge, with the name of its type
abbrev pub row_item : Records → EdgeRow → Item
row_item records row = items.Edge row.id (name_at records row.label) row.from row.to

-- the vertex at the other end of an edge at a vertex; a loop has the vertex at both
abbrev pub other_end : ℕ → EdgeRow → ℕ
other_end id row = if nat_eq row.from id then row.to else row.from

abbrev pub end_item : ℕ → EdgeRow → Item
end_item id row = items.Vertex (other_end id row)
