-- What stands after a command's arguments, to the line's end: nothing, pairs, a name or none, what
-- is viewed, or a query, which may change the graph.
use Rattle.std.specs.Prelude.{ℕ, Bool, true, false, Option, Some, None, List, [], ◌∷◌}
use Rattle.std.specs.Borrow.{Bor}
use Rattle.plain_graph.specs.declared.command.Command.{Command}
use Rattle.plain_graph.specs.declared.command.Command.TheVariants as commands
use Rattle.plain_graph.specs.declared.pairs.Pair.{Pair}
use Rattle.gremlin_parse.specs.Grammar.{Part, Blanks, IsMadeOf, pairs_to_end, name_to_end}
use Rattle.gremlin_parse.specs.Stopping.{Bads, BadInOne}
use Rattle.gremlin_parse.specs.Queries.{QueryTo, BadQuery}
use Rattle.gremlin_parse.specs.Views.{viewed_to_end}
use Rattle.gremlin_parse.specs.declared.last.LastPart.{LastPart}
use Rattle.gremlin_parse.specs.declared.last.LastPart.TheVariants as lasts
use Rattle.gremlin_parse.specs.declared.last.Last.{Last}
use Rattle.gremlin_parse.specs.declared.viewed.Viewed.{Viewed}

abbrev pub is_query : LastPart → Bool
is_query lasts.Query = true
is_query _ = false

-- what tells one from another
abbrev pub LastContentOf : LastPart → Type 0
LastContentOf lasts.End = Unit {0}
LastContentOf lasts.Pairs = List Pair
LastContentOf lasts.MaybeName = Option (List ℕ)
LastContentOf lasts.Viewed = Viewed
LastContentOf lasts.Query = Command

abbrev pub now_of : Option (Bor (List ℕ)) → Option (List ℕ)
now_of None = None
now_of (Some name) = Some name.now

-- what a line has there; the query is read by a reader of its own
abbrev pub last_content : (kind : LastPart) → Last → LastContentOf kind
last_content lasts.End last = tt
last_content lasts.Pairs last = last.pairs
last_content lasts.MaybeName last = now_of last.name
last_content lasts.Viewed last = last.viewed
last_content lasts.Query last = commands.Blank

abbrev pub last_parts : (kind : LastPart) → LastContentOf kind → List Part
last_parts lasts.End last = Blanks ∷ []
last_parts lasts.Pairs pairs = pairs_to_end pairs
last_parts lasts.MaybeName name = name_to_end name
last_parts lasts.Viewed viewed = viewed_to_end viewed
last_parts lasts.Query command = []

-- the bytes are this content, to the line's end
abbrev pub LastIs : (kind : LastPart) → LastContentOf kind → List ℕ → Type 0
LastIs lasts.Query command rest = QueryTo command rest
LastIs kind last rest = IsMadeOf (last_parts kind last) rest

abbrev pub SomeLast : LastPart → List ℕ → Type 0
SomeLast kind rest = (last : LastContentOf kind) × LastIs kind last rest

abbrev pub BadInLast : LastPart → Bads
BadInLast lasts.Query kind left rest = BadQuery kind left rest
BadInLast part kind left rest = BadInOne (last_parts part) kind left rest

-- Pairs alone ask for memory where they are read.
abbrev pub Lacks : LastPart → Type 0
Lacks lasts.Pairs = Unit {0}
Lacks _ = ⊥
