-- What a command has after its first word: arguments, each after one blank or more.
use Rattle.std.specs.Prelude.{ℕ, nat_eq, cond, pos, List, [], ◌∷◌, codes}
use Rattle.std.specs.Cmp.Lexicographic.{pointwise}
use Rattle.plain_graph.specs.declared.command.Target.{Target}
use Rattle.plain_graph.specs.declared.command.Target.TheVariants as targets
use Rattle.plain_graph.specs.declared.direction.Direction.{Direction}
use Rattle.plain_graph.specs.declared.direction.Direction.TheVariants as directions
use Rattle.plain_graph.specs.declared.value.Value.{Value}
use Rattle.plain_graph.specs.declared.value.Value.TheVariants as values
use Rattle.gremlin_parse.specs.Grammar.{direction_name, most_id}
use Rattle.gremlin_parse.specs.Values.{value_of}
use Rattle.gremlin_parse.specs.Keywords.{Entry}
use Rattle.gremlin_parse.specs.Symbols.{Symbol, AnyGap, OneWord, AnyName, AnyNumber, AnyValue}
use Rattle.gremlin_parse.specs.Symbols.{Content, Contents, Reads}
use Rattle.gremlin_parse.specs.declared.target.TargetWord.{TargetWord}
use Rattle.gremlin_parse.specs.declared.target.TargetWord.TheVariants as target_kinds
use Rattle.gremlin_parse.specs.declared.argument.Argument.{Argument}
use Rattle.gremlin_parse.specs.declared.argument.Argument.TheVariants as arguments
use Rattle.gremlin_parse.specs.declared.argument.Given.{Given}
use Rattle.gremlin_parse.specs.declared.argument.Given.TheVariants as given
use Rattle.gremlin_parse.specs.declared.argument.Givens.{Givens}

-- the words for what a command changes
abbrev pub target_words : List (Entry TargetWord)
target_words = (codes "node", target_kinds.Node) ∷ (codes "edge", target_kinds.Edge) ∷ []

abbrev pub target_names : List (List ℕ)
target_names = codes "node" ∷ codes "edge" ∷ []

abbrev pub target_word : TargetWord → List ℕ
target_word target_kinds.Node = codes "node"
target_word target_kinds.Edge = codes "edge"

-- what one of the two names stands for
abbrev pub kind_named : List ℕ → TargetWord
kind_named name = cond (pointwise nat_eq (codes "node") name) target_kinds.Node target_kinds.Edge

-- the element of an identifier
abbrev pub target_of : TargetWord → ℕ → Target
target_of target_kinds.Node id = targets.Node id
target_of target_kinds.Edge id = targets.Edge id

-- the words for a direction
abbrev pub direction_words : List (Entry Direction)
direction_words =
    (codes "out", directions.Outgoing) ∷ (codes "in", directions.Incoming)
    ∷ (codes "both", directions.Both) ∷ []

abbrev pub direction_names : List (List ℕ)
direction_names = codes "out" ∷ codes "in" ∷ codes "both" ∷ []

-- the direction that one of the three names stands for
abbrev pub direction_named : List ℕ → Direction
direction_named name =
    cond (pointwise nat_eq (codes "out") name) directions.Outgoing
    (cond (pointwise nat_eq (codes "in") name) directions.Incoming directions.Both)

abbrev pub symbol_of : Argument → Symbol
symbol_of arguments.Element = OneWord target_names
symbol_of arguments.Direction = OneWord direction_names
symbol_of arguments.Name = AnyName
symbol_of arguments.Number = AnyNumber most_id
symbol_of arguments.Value = AnyValue

-- the arguments, each after one blank or more
abbrev pub spaced : List Argument → List Symbol
spaced [] = []
spaced (argument ∷ list) = AnyGap ∷ symbol_of argument ∷ spaced list

-- ---- what a line has there, where it has another kind of argument or none the default

abbrev pub element_word : Given → List ℕ
element_word (given.Element word) = target_word word
element_word _ = []

abbrev pub direction_word : Given → List ℕ
direction_word (given.Direction direction) = direction_name direction
direction_word _ = []

abbrev pub name_in : Given → List ℕ
name_in (given.Name name) = name.now
name_in _ = []

abbrev pub number_in : Given → ℕ
number_in (given.Number number) = number
number_in _ = 0

abbrev pub value_in : Given → Value
value_in (given.Value value) = value_of value
value_in _ = values.Int (pos 0)

abbrev pub content_in : (argument : Argument) → Given → Content (symbol_of argument)
content_in arguments.Element one = element_word one
content_in arguments.Direction one = direction_word one
content_in arguments.Name one = name_in one
content_in arguments.Number one = number_in one
content_in arguments.Value one = value_in one

-- the argument stands there, and is this
abbrev pub ReadsArgument : Argument → Given → List ℕ → List ℕ → Type 0
ReadsArgument argument one bytes rest =
    Reads (symbol_of argument) (content_in argument one) bytes rest

abbrev pub contents_in : (list : List Argument) → List Given → Contents (spaced list)
contents_in [] all = tt
contents_in (argument ∷ list) [] =
    (tt, (content_in argument (given.Number 0), contents_in list []))
contents_in (argument ∷ list) (one ∷ all) = (tt, (content_in argument one, contents_in list all))

abbrev pub listed : Givens → List Given
listed all = all.first ∷ all.second ∷ all.third ∷ all.fourth ∷ []
