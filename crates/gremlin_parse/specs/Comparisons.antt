-- The argument of has that says how a value compares.
use Rattle.std.specs.Prelude.{ℕ, min, List}
use Rattle.plain_graph.specs.declared.filter.Relation.{Relation}
use Rattle.gremlin_parse.specs.Queries.{relation_names, relation_name}
use Rattle.gremlin_parse.specs.Symbols.{OneWord, AnyBlanks, Reads}
use Rattle.gremlin_parse.specs.declared.stop.Stop.{Stop}
use Rattle.gremlin_parse.specs.declared.stop.Stop.TheVariants as stops

-- the word for a relation and any blanks
abbrev pub ReadsRelation : Relation → List ℕ → List ℕ → Type 0
ReadsRelation relation bytes rest =
    (middle : List ℕ) × Reads (OneWord relation_names) (relation_name relation) bytes middle
    × Reads AnyBlanks tt middle rest

-- of two stops the later one, if both are faults of syntax, or the second one
abbrev pub later : Stop → Stop → Stop
later (stops.Syntax left) (stops.Syntax other) = stops.Syntax (min left other)
later one two = two
