-- Pairs of a key and a value, one after the other to the line's end.
use Rattle.std.specs.Prelude.{ℕ, List, [], ◌∷◌, codes}
use Rattle.plain_graph.specs.declared.pairs.Pair.{Pair}
use Rattle.plain_graph.specs.declared.value.Value.{Value}
use Rattle.gremlin_parse.specs.Grammar.{pairs_to_end}
use Rattle.gremlin_parse.specs.Symbols.{Symbol, AnyGap, AnyName, Sign, AnyValue, Contents}
use Rattle.gremlin_parse.specs.Stopping.{Bads, IsOneOf, BadInOne}

-- the symbols of a pair
abbrev pub pair_symbols : List Symbol
pair_symbols = AnyGap ∷ AnyName ∷ Sign (codes "=") ∷ AnyValue ∷ []

abbrev pub pair_contents : List ℕ → Value → Contents pair_symbols
pair_contents key value = (tt, (key, (tt, (value, tt))))

-- the pair of these contents
abbrev pub pair_of : Contents pair_symbols → Pair
pair_of contents = record { key = contents.1.0; value = contents.1.1.1.0 }

-- the bytes are pairs to the line's end
abbrev pub SpellsPairs : List ℕ → Type 0
SpellsPairs bytes = IsOneOf pairs_to_end bytes

abbrev pub BadInPairs : Bads
BadInPairs kind left bytes = BadInOne pairs_to_end kind left bytes
