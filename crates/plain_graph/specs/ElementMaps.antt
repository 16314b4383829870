-- How an element is shown with its label and its properties: as a map, or as the line that makes it
-- again.
use Rattle.std.specs.Prelude.{ℕ, Option, Some, None, List, [], ◌∷◌, ◌++◌, codes, decimal, flat_map}
use Rattle.std.specs.Prelude.{map}
use Rattle.std.specs.FinMap as maps
use Rattle.std.specs.List.{filter_map}
use Rattle.std.specs.Option.{option_map}
use Rattle.plain_graph.specs.Graph.{Graph}
use Rattle.plain_graph.specs.Meaning.{label_of, properties_of, texts_once}
use Rattle.plain_graph.specs.Properties.{Properties}
use Rattle.plain_graph.specs.Reply.{item_line, value_text}
use Rattle.plain_graph.specs.declared.element_map.ElementMap.{ElementMap}
use Rattle.plain_graph.specs.declared.item.Item.{Item}
use Rattle.plain_graph.specs.declared.item.Item.TheVariants as items
use Rattle.plain_graph.specs.declared.pairs.Pair.{Pair}
use Rattle.plain_graph.specs.declared.value.Value.{Value}

-- ---- what is read of the element

abbrev pub pair_of : List ℕ × Value → Pair
pair_of entry = record { key = entry.0; value = entry.1 }

-- the pair of a key, where it has a value
abbrev pub pair_at : Properties → List ℕ → Option Pair
pair_at properties key =
    option_map (λ value. pair_of (key, value)) (maps.get properties key)

-- the pairs of these keys, in the order written, or where none is written of all keys in their own
-- order
abbrev pub pairs_of : Properties → List (List ℕ) → List Pair
pairs_of properties [] = map pair_of (maps.entries properties)
pairs_of properties (key ∷ keys) = filter_map (pair_at properties) (texts_once [] (key ∷ keys))

-- the label of the element, and its pairs of these keys
abbrev pub element_map : Graph → List (List ℕ) → Item → ElementMap
element_map graph keys item = record {
  label = label_of graph item;
  pairs = pairs_of (properties_of graph item) keys;
}

-- ---- its text

-- a pair after one sign, with another between key and value
abbrev pub paired : List ℕ → List ℕ → Pair → List ℕ
paired before between pair = before ++ pair.key ++ between ++ value_text pair.value

-- pairs as in a map
abbrev pub mapped : List Pair → List ℕ
mapped pairs = flat_map (paired (codes ",") (codes ":")) pairs

-- pairs as in a line
abbrev pub assigned : List Pair → List ℕ
assigned pairs = flat_map (paired (codes " ") (codes "=")) pairs

-- the label after a word, where there is one
abbrev pub label_after : List ℕ → Option (List ℕ) → List ℕ
label_after word None = []
label_after word (Some label) = word ++ label

-- an element as a map; a value is shown as it is
abbrev pub map_text : Item → ElementMap → List ℕ
map_text (items.Vertex id) element =
    codes "[id:" ++ decimal id ++ label_after (codes ",label:") element.label
    ++ mapped element.pairs ++ codes "]"
map_text (items.Edge id label from to) element =
    codes "[id:" ++ decimal id ++ codes ",label:" ++ label ++ codes ",OUT:" ++ decimal from
    ++ codes ",IN:" ++ decimal to ++ mapped element.pairs ++ codes "]"
map_text (items.Value value) element = value_text value

-- The line that makes an element again, with another identifier. A value is none.
abbrev pub making_text : Item → ElementMap → List ℕ
making_text (items.Vertex id) element =
    codes "node" ++ label_after (codes " ") element.label ++ assigned element.pairs
making_text (items.Edge id label from to) element =
    codes "edge " ++ decimal from ++ codes " " ++ label ++ codes " " ++ decimal to
    ++ assigned element.pairs
making_text (items.Value value) element = value_text value

-- ---- the results of a query

-- the line of a result that is shown as a map
abbrev pub map_line : Item × ElementMap → List ℕ
map_line row = codes "==>" ++ map_text row.0 row.1

-- the line of a result: as it is, or where keys are asked for as a map
abbrev pub shown_line : Graph → Option (List (List ℕ)) → Item → List ℕ
shown_line graph None item = item_line item
shown_line graph (Some keys) item = map_line (item, element_map graph keys item)
