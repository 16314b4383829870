-- Items that are kept to be put into order.
use Rattle.std.specs.Prelude.{Bool}
use Rattle.plain_graph.specs.Meaning as meaning
use Rattle.plain_graph.specs.declared.item.Item.TheVariants as items
use Rattle.plain_graph.specs.declared.value.Value.TheVariants as values
use Rattle.traversal_run.specs.declared.kept.Numbered.{Numbered}
use Rattle.traversal_run.specs.declared.kept.Ranked.{Ranked}

-- the item and its rank
abbrev pub place_of : Ranked → meaning.Ranked
place_of r = record { rank = r.rank; item = r.item }

-- one comes before another
abbrev pub row_ranks_below : Bool → Ranked → Ranked → Bool
row_ranks_below descending a b = meaning.ranks_below descending (place_of a) (place_of b)

-- the same of a vertex and its number
abbrev pub number_place : Numbered → meaning.Ranked
number_place n = record { rank = values.Int n.rank; item = items.Vertex n.id }

abbrev pub number_ranks_below : Bool → Numbered → Numbered → Bool
number_ranks_below descending a b =
    meaning.ranks_below descending (number_place a) (number_place b)
