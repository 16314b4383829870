-- The indexes of a graph: what the line that asks for them is told.
use Rattle.std.proofs.Common.{◌≡◌, ◌*◌, ◌/◌, ◌%◌, ℕ, List, [], ◌∷◌, get_or, map, inl, inr, refl, ap}
use Rattle.plain_graph.specs.Graph.{Index}
use Rattle.plain_graph.specs.Lines.{listed}
use Rattle.plain_graph.specs.declared.command.Command.TheVariants as commands
use Rattle.prop_index.specs.declared.listing.IndexPair.{IndexPair}
use Rattle.store_rules.specs.Rows.{ids}
use Rattle.graph_session.specs.IndexLists.{index_lines, is_taken, place_line}
use Rattle.graph_session.specs.State.{IsSpared}
use Rattle.graph_session.proofs.GraphIndexes.{line_of}
use Rattle.graph_session.proofs.Questioned.{Asks}

indexes-unspared : ¬ IsSpared commands.ViewIndexes
indexes-unspared (inl spared) = spared
indexes-unspared (inr (inl e)) = cc
indexes-unspared (inr (inr e)) = cc

pub asks-indexes : Asks commands.ViewIndexes
asks-indexes = record { question = tt; unspared = indexes-unspared; unchecked = λ e. cc; reading = listed []; formed = ([], refl) }

-- each line is that of an index
pub lines-formed : (names : List (List ℕ)) (count : ℕ) (pairs : List IndexPair) → (indexes : List Index)
    × (listed (index_lines names count pairs) ≡ listed (map line_of indexes))
lines-formed names count pairs = (map at (ids (is_taken count pairs) (count * count)), ap listed (by (ids (is_taken count pairs) (count * count))))
  where
    at : ℕ → Index
    at place = record { label = get_or names (place / count) []; key = get_or names (place % count) [] }

    by : (places : List ℕ) → map (place_line names count) places ≡ map line_of (map at places)
    by [] = refl
    by (place ∷ later) = ap (λ (lines : List (List ℕ)). line_of (at place) ∷ lines) (by later)
