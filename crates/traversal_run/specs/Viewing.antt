-- An element with its label and its properties.
use Rattle.std.specs.Prelude.{ℕ, ◌+◌, Option, []}
use Rattle.std.specs.FinMap as maps
use Rattle.std.specs.Option.{option_map}
use Rattle.plain_graph.specs.ElementMaps.{element_map}
use Rattle.plain_graph.specs.Graph.{Graph}
use Rattle.plain_graph.specs.Lines.{item_at}
use Rattle.plain_graph.specs.Properties.{Properties, blocks_in}
use Rattle.plain_graph.specs.declared.command.Target.{Target}
use Rattle.plain_graph.specs.declared.element_map.ElementMap.{ElementMap}
use Rattle.plain_graph.specs.declared.item.Item.{Item}

-- the element that a line names, with all its properties; none where it isn't there
abbrev pub view_of : Graph → Target → Option (Item × ElementMap)
view_of graph target = option_map (λ item. (item, element_map graph [] item)) (item_at graph target)

-- the reads for properties: one for each, and one for each block of their texts
abbrev pub property_reads : Properties → ℕ
property_reads properties = maps.len properties + blocks_in properties

-- those for an element: one for itself, and those for its properties
abbrev pub view_reads : Properties → ℕ
view_reads properties = 1 + property_reads properties
