-- What stands after `view`: a word, and an identifier where it is the word for an element.
use Rattle.std.specs.Prelude.{ℕ, List, [], ◌∷◌, ◌++◌, codes, map}
use Rattle.plain_graph.specs.declared.command.Command.{Command}
use Rattle.plain_graph.specs.declared.command.Command.TheVariants as commands
use Rattle.gremlin_parse.specs.Arguments.{target_of, target_word}
use Rattle.gremlin_parse.specs.Grammar.{Part, Blanks, Exactly, Gap, target_parts}
use Rattle.gremlin_parse.specs.Keywords.{Entry}
use Rattle.gremlin_parse.specs.declared.argument.Argument.{Argument}
use Rattle.gremlin_parse.specs.declared.argument.Argument.TheVariants as arguments
use Rattle.gremlin_parse.specs.declared.target.TargetWord.TheVariants as target_kinds
use Rattle.gremlin_parse.specs.declared.viewed.ViewWord.{ViewWord}
use Rattle.gremlin_parse.specs.declared.viewed.ViewWord.TheVariants as view_kinds
use Rattle.gremlin_parse.specs.declared.viewed.Viewed.{Viewed}
use Rattle.gremlin_parse.specs.declared.viewed.Viewed.TheVariants as views

-- the parts after `view`, to the line's end
abbrev pub viewed_to_end : Viewed → List Part
viewed_to_end (views.Element target) = Gap ∷ target_parts target ++ Blanks ∷ []
viewed_to_end views.Names = Gap ∷ Exactly (codes "names") ∷ Blanks ∷ []
viewed_to_end views.Indexes = Gap ∷ Exactly (codes "indexes") ∷ Blanks ∷ []

-- the command that views this
abbrev pub view_command : Viewed → Command
view_command (views.Element target) = commands.View target
view_command views.Names = commands.ViewNames
view_command views.Indexes = commands.ViewIndexes

-- ---- the table of words

-- the word for what is viewed
abbrev pub view_word : ViewWord → List ℕ
view_word (view_kinds.Element kind) = target_word kind
view_word view_kinds.Names = codes "names"
view_word view_kinds.Indexes = codes "indexes"

abbrev pub all_views : List ViewWord
all_views =
    view_kinds.Element target_kinds.Node ∷ view_kinds.Element target_kinds.Edge
    ∷ view_kinds.Names ∷ view_kinds.Indexes ∷ []

-- the words for what is viewed
abbrev pub view_words : List (Entry ViewWord)
view_words = map (λ word. (view_word word, word)) all_views

-- what stands after the word
abbrev pub view_arguments : ViewWord → List Argument
view_arguments (view_kinds.Element kind) = arguments.Number ∷ []
view_arguments _ = []

-- what the word views, with its number where it has one
abbrev pub viewed_of : ViewWord → ℕ → Viewed
viewed_of (view_kinds.Element kind) id = views.Element (target_of kind id)
viewed_of view_kinds.Names id = views.Names
viewed_of view_kinds.Indexes id = views.Indexes
