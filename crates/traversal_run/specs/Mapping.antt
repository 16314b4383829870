-- A step that makes of each item what that item alone gives.
use Rattle.std.specs.Prelude.{ℕ, Bool, true, false, cond, List, [], ◌∷◌, map}
use Rattle.std.specs.FinMap as maps
use Rattle.std.specs.List.{filter_map}
use Rattle.plain_graph.specs.Graph.{Graph}
use Rattle.plain_graph.specs.Meaning.{identifier, in_vertex, incident, label_value, neighbours}
use Rattle.plain_graph.specs.Meaning.{out_vertex, passes, properties_of}
use Rattle.plain_graph.specs.declared.filter.Filter.{Filter}
use Rattle.plain_graph.specs.declared.item.Item.{Item}
use Rattle.plain_graph.specs.declared.item.Item.TheVariants as items
use Rattle.traversal_run.specs.declared.mapping.Mapping.{Mapping}
use Rattle.traversal_run.specs.declared.mapping.Mapping.TheVariants as mappings

-- the item, where it passes a filter
abbrev pub filtered : Graph → Filter → Item → List Item
filtered graph test item = cond (passes graph test item) (item ∷ []) []

-- the values of these keys, each of which is written once, or of all keys where none is written
abbrev pub distinct_values : Graph → List (List ℕ) → Item → List Item
distinct_values graph [] item = map items.Value (maps.values (properties_of graph item))
distinct_values graph (key ∷ keys) item =
    map items.Value (filter_map (maps.get (properties_of graph item)) (key ∷ keys))

-- what the step makes of an item
abbrev pub mapped : Graph → Mapping → Item → List Item
mapped graph (mappings.Neighbours hop) item = neighbours graph hop item
mapped graph (mappings.Incident hop) item = incident graph hop item
mapped graph mappings.OutV item = out_vertex item
mapped graph mappings.InV item = in_vertex item
mapped graph (mappings.Filter test) item = filtered graph test item
mapped graph (mappings.Values keys) item = distinct_values graph keys item
mapped graph mappings.Id item = identifier item
mapped graph mappings.Label item = label_value graph item

-- it gives neighbours or edges
abbrev pub gives_edges : Mapping → Bool
gives_edges (mappings.Neighbours hop) = true
gives_edges (mappings.Incident hop) = true
gives_edges mapping = false
