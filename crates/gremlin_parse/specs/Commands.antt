-- The table of commands: the parts that spell each, its first word, what stands after it, and what
-- it is built of.
use Rattle.std.specs.Prelude.{◌≡◌, ◌⊎◌, ℕ, false, List, [], ◌∷◌, ◌++◌, map, codes}
use Rattle.std.specs.List.{AllByRecursion}
use Rattle.plain_graph.specs.declared.command.Command.{Command}
use Rattle.plain_graph.specs.declared.command.Command.TheVariants as commands
use Rattle.plain_graph.specs.declared.command.Target.{Target}
use Rattle.gremlin_parse.specs.Grammar.{Blanks, Exactly, Gap, IsBounded, Name, Number, Part}
use Rattle.gremlin_parse.specs.Grammar.{Written, alone, between_parts, direction_name, most_id}
use Rattle.gremlin_parse.specs.Grammar.{name_to_end, pairs_to_end, target_parts}
use Rattle.gremlin_parse.specs.Keywords.{Entry, ThenWord}
use Rattle.gremlin_parse.specs.Symbols.{Symbol, Contents, Follows, BadFollows}
use Rattle.gremlin_parse.specs.Stopping.{Bads, IsStop}
use Rattle.gremlin_parse.specs.Reading.{Then}
use Rattle.gremlin_parse.specs.Queries.{IsKeptQuery}
use Rattle.gremlin_parse.specs.Arguments.{contents_in, direction_named, kind_named, listed}
use Rattle.gremlin_parse.specs.Arguments.{spaced, target_of}
use Rattle.gremlin_parse.specs.Lasts.{is_query, LastContentOf, LastIs, SomeLast, BadInLast}
use Rattle.gremlin_parse.specs.Lasts.{last_content}
use Rattle.gremlin_parse.specs.Views.{view_command, viewed_to_end}
use Rattle.gremlin_parse.specs.declared.argument.Givens.{Givens}
use Rattle.gremlin_parse.specs.declared.last.Last.{Last}
use Rattle.gremlin_parse.specs.declared.argument.Argument.{Argument}
use Rattle.gremlin_parse.specs.declared.argument.Argument.TheVariants as arguments
use Rattle.gremlin_parse.specs.declared.last.LastPart.{LastPart}
use Rattle.gremlin_parse.specs.declared.last.LastPart.TheVariants as lasts
use Rattle.gremlin_parse.specs.declared.word.Word.{Word}
use Rattle.gremlin_parse.specs.declared.word.Word.TheVariants as words
use Rattle.gremlin_parse.specs.declared.head.Head.{Head}
use Rattle.gremlin_parse.specs.declared.head.Head.TheVariants as heads
use Rattle.gremlin_parse.specs.declared.stop.Stop.{Stop}
use Rattle.gremlin_parse.specs.declared.viewed.Viewed.{Viewed}
use Rattle.gremlin_parse.specs.declared.viewed.Viewed.TheVariants as views

-- the parts of a line that views this
abbrev pub viewing : Viewed → List Part
viewing viewed = Exactly (codes "view") ∷ viewed_to_end viewed

-- the parts that spell a command, from its first letter
abbrev pub parts_of : Command → List Part
parts_of commands.Blank = []
parts_of commands.Begin = alone (codes "begin")
parts_of commands.Commit = alone (codes "commit")
parts_of commands.Rollback = alone (codes "rollback")
parts_of commands.Checkpoint = alone (codes "checkpoint")
parts_of commands.Check = alone (codes "check")
parts_of commands.Stats = alone (codes "stats")
parts_of commands.Reopen = alone (codes "reopen")
parts_of commands.Snapshot = alone (codes "snapshot")
parts_of commands.Release = alone (codes "release")
parts_of commands.Quit = alone (codes "quit")
parts_of (commands.Node label pairs) =
    Exactly (codes "node") ∷ Gap ∷ Name label ∷ pairs_to_end pairs
parts_of (commands.Edge from label to pairs) =
    Exactly (codes "edge") ∷ Gap ∷ Number most_id from ∷ Gap ∷ Name label ∷ Gap
    ∷ Number most_id to
    ∷ pairs_to_end pairs
parts_of (commands.Set target key value) =
    (Exactly (codes "set") ∷ Gap ∷ []) ++ target_parts target
    ++ Gap ∷ Name key ∷ Gap ∷ Written value ∷ Blanks ∷ []
parts_of (commands.Unset target key) =
    (Exactly (codes "unset") ∷ Gap ∷ []) ++ target_parts target
    ++ Gap ∷ Name key ∷ Blanks ∷ []
parts_of (commands.Delete target) =
    (Exactly (codes "delete") ∷ Gap ∷ []) ++ target_parts target ++ Blanks ∷ []
parts_of (commands.Index label key) =
    Exactly (codes "index") ∷ Gap ∷ Name label ∷ Gap ∷ Name key ∷ Blanks ∷ []
parts_of (commands.Find label key value) =
    Exactly (codes "find") ∷ Gap ∷ Name label ∷ Gap ∷ Name key ∷ Gap ∷ Written value ∷ Blanks ∷ []
parts_of (commands.Expand id direction label) =
    Exactly (codes "expand") ∷ Gap ∷ Number most_id id ∷ Gap
    ∷ Exactly (direction_name direction)
    ∷ Gap ∷ Name label ∷ Blanks ∷ []
parts_of (commands.Degree id direction label) =
    (Exactly (codes "degree") ∷ Gap ∷ Number most_id id ∷ Gap
    ∷ Exactly (direction_name direction)
    ∷ []) ++ name_to_end label
parts_of (commands.Path from to direction label) =
    between_parts (codes "path") from to direction ++ name_to_end label
parts_of (commands.Levels from to direction label) =
    between_parts (codes "levels") from to direction ++ name_to_end label
parts_of (commands.View target) = viewing (views.Element target)
parts_of commands.ViewNames = viewing views.Names
parts_of commands.ViewIndexes = viewing views.Indexes
parts_of (commands.Query query) = []
parts_of (commands.Mutate reading mutation) = []

-- The command is spelled by its parts; a query is spelled from place to place, and so is one that
-- changes the graph.
abbrev pub IsCommand : Command → Type 0
IsCommand (commands.Query query) = ⊥
IsCommand (commands.Mutate reading mutation) = ⊥
IsCommand _ = Unit {0}

abbrev pub KeepsBounds : Command → Type 0
KeepsBounds command = AllByRecursion IsBounded (parts_of command)

-- The command is read without asking for memory.
abbrev pub NeedsNoMemory : Command → Type 0
NeedsNoMemory (commands.Node label pairs) = ⊥
NeedsNoMemory (commands.Edge from label to pairs) = ⊥
NeedsNoMemory (commands.Set target key value) = ⊥
NeedsNoMemory (commands.Unset target key) = ⊥
NeedsNoMemory (commands.Index label key) = ⊥
NeedsNoMemory (commands.Find label key value) = ⊥
NeedsNoMemory (commands.Expand id direction label) = ⊥
NeedsNoMemory (commands.Degree id direction label) = ⊥
NeedsNoMemory (commands.Path from to direction label) = ⊥
NeedsNoMemory (commands.Levels from to direction label) = ⊥
NeedsNoMemory (commands.Query query) = ⊥
NeedsNoMemory (commands.Mutate reading mutation) = ⊥
NeedsNoMemory _ = Unit {0}

-- what a command or a query begins with
abbrev pub word_of : Head → List ℕ
word_of (heads.Alone words.Begin) = codes "begin"
word_of (heads.Alone words.Commit) = codes "commit"
word_of (heads.Alone words.Rollback) = codes "rollback"
word_of (heads.Alone words.Checkpoint) = codes "checkpoint"
word_of (heads.Alone words.Check) = codes "check"
word_of (heads.Alone words.Stats) = codes "stats"
word_of (heads.Alone words.Reopen) = codes "reopen"
word_of (heads.Alone words.Snapshot) = codes "snapshot"
word_of (heads.Alone words.Release) = codes "release"
word_of (heads.Alone words.Quit) = codes "quit"
word_of heads.Node = codes "node"
word_of heads.Edge = codes "edge"
word_of heads.Set = codes "set"
word_of heads.Unset = codes "unset"
word_of heads.Delete = codes "delete"
word_of heads.Index = codes "index"
word_of heads.Find = codes "find"
word_of heads.Expand = codes "expand"
word_of heads.Degree = codes "degree"
word_of heads.Path = codes "path"
word_of heads.Levels = codes "levels"
word_of heads.View = codes "view"
word_of heads.Query = codes "g"

abbrev pub all_heads : List Head
all_heads =
    heads.Alone words.Begin ∷ heads.Alone words.Commit ∷ heads.Alone words.Rollback
    ∷ heads.Alone words.Checkpoint ∷ heads.Alone words.Check ∷ heads.Alone words.Stats
    ∷ heads.Alone words.Reopen ∷ heads.Alone words.Snapshot ∷ heads.Alone words.Release
    ∷ heads.Alone words.Quit ∷ heads.Node ∷ heads.Edge ∷ heads.Set ∷ heads.Unset ∷ heads.Delete
    ∷ heads.Index ∷ heads.Find ∷ heads.Expand ∷ heads.Degree ∷ heads.Path ∷ heads.Levels
    ∷ heads.View ∷ heads.Query ∷ []

-- the words with which a command or a query begins
abbrev pub head_words : List (Entry Head)
head_words = map (λ head. (word_of head, head)) all_heads

-- the element of a name and an identifier
abbrev pub element_of : List ℕ → ℕ → Target
element_of name id = target_of (kind_named name) id

-- the arguments after the first word
abbrev pub arguments_of : Head → List Argument
arguments_of heads.Node = arguments.Name ∷ []
arguments_of heads.Edge = arguments.Number ∷ arguments.Name ∷ arguments.Number ∷ []
arguments_of heads.Set =
    arguments.Element ∷ arguments.Number ∷ arguments.Name ∷ arguments.Value ∷ []
arguments_of heads.Unset = arguments.Element ∷ arguments.Number ∷ arguments.Name ∷ []
arguments_of heads.Delete = arguments.Element ∷ arguments.Number ∷ []
arguments_of heads.Index = arguments.Name ∷ arguments.Name ∷ []
arguments_of heads.Find = arguments.Name ∷ arguments.Name ∷ arguments.Value ∷ []
arguments_of heads.Expand = arguments.Number ∷ arguments.Direction ∷ arguments.Name ∷ []
arguments_of heads.Degree = arguments.Number ∷ arguments.Direction ∷ []
arguments_of heads.Path = arguments.Number ∷ arguments.Number ∷ arguments.Direction ∷ []
arguments_of heads.Levels = arguments.Number ∷ arguments.Number ∷ arguments.Direction ∷ []
arguments_of _ = []

-- what stands after them
abbrev pub last_part : Head → LastPart
last_part heads.Node = lasts.Pairs
last_part heads.Edge = lasts.Pairs
last_part heads.Degree = lasts.MaybeName
last_part heads.Path = lasts.MaybeName
last_part heads.Levels = lasts.MaybeName
last_part heads.View = lasts.Viewed
last_part heads.Query = lasts.Query
last_part _ = lasts.End

abbrev pub production : Head → List Symbol
production head = spaced (arguments_of head)

abbrev pub LastContent : Head → Type 0
LastContent head = LastContentOf (last_part head)

abbrev pub plain_command : Word → Command
plain_command words.Begin = commands.Begin
plain_command words.Commit = commands.Commit
plain_command words.Rollback = commands.Rollback
plain_command words.Checkpoint = commands.Checkpoint
plain_command words.Check = commands.Check
plain_command words.Stats = commands.Stats
plain_command words.Reopen = commands.Reopen
plain_command words.Snapshot = commands.Snapshot
plain_command words.Release = commands.Release
plain_command words.Quit = commands.Quit

-- the command of a first word and the contents after it
abbrev pub command_of : (head : Head) → Contents (production head) → LastContent head → Command
command_of (heads.Alone word) contents last = plain_command word
command_of heads.Node contents pairs = commands.Node contents.1.0 pairs
command_of heads.Edge contents pairs =
    commands.Edge contents.1.0 contents.1.1.1.0 contents.1.1.1.1.1.0 pairs
command_of heads.Set contents last =
    commands.Set (element_of contents.1.0 contents.1.1.1.0) contents.1.1.1.1.1.0
    contents.1.1.1.1.1.1.1.0
command_of heads.Unset contents last =
    commands.Unset (element_of contents.1.0 contents.1.1.1.0) contents.1.1.1.1.1.0
command_of heads.Delete contents last =
    commands.Delete (element_of contents.1.0 contents.1.1.1.0)
command_of heads.Index contents last = commands.Index contents.1.0 contents.1.1.1.0
command_of heads.Find contents last =
    commands.Find contents.1.0 contents.1.1.1.0 contents.1.1.1.1.1.0
command_of heads.Expand contents last =
    commands.Expand contents.1.0 (direction_named contents.1.1.1.0) contents.1.1.1.1.1.0
command_of heads.Degree contents label =
    commands.Degree contents.1.0 (direction_named contents.1.1.1.0) label
command_of heads.Path contents label =
    commands.Path contents.1.0 contents.1.1.1.0 (direction_named contents.1.1.1.1.1.0) label
command_of heads.Levels contents label =
    commands.Levels contents.1.0 contents.1.1.1.0 (direction_named contents.1.1.1.1.1.0) label
command_of heads.View contents viewed = view_command viewed
command_of heads.Query contents command = command

-- the command of a first word and of what a line has after it
unfoldable pub built : Head → Givens → Last → Command
built head givens last =
    command_of head (contents_in (arguments_of head) (listed givens))
    (last_content (last_part head) last)

-- all but a query is spelled by parts
abbrev pub IsPlain : Head → Type 0
IsPlain head = is_query (last_part head) ≡ false

-- Memory is asked for to keep what stands there.
abbrev pub Asks : Head → Type 0
Asks (heads.Alone word) = ⊥
Asks heads.Delete = ⊥
Asks heads.View = ⊥
Asks _ = Unit {0}

abbrev pub LastOf : (head : Head) → LastContent head → List ℕ → Type 0
LastOf head last rest = LastIs (last_part head) last rest

abbrev pub IsLast : Head → List ℕ → Type 0
IsLast head rest = SomeLast (last_part head) rest

abbrev pub BadLast : Head → Bads
BadLast head kind left rest = BadInLast (last_part head) kind left rest

-- after the first word, some command or query
abbrev pub IsAfter : Head → List ℕ → Type 0
IsAfter head bytes = Follows (production head) (λ _. IsLast head) bytes

abbrev pub BadAfter : Head → Bads
BadAfter head kind left bytes = BadFollows (production head) (BadLast head) kind left bytes

-- what stands last, of this command
abbrev pub IsLastOf : Command → (head : Head) → Contents (production head) → List ℕ → Type 0
IsLastOf command head contents rest =
    (last : LastContent head) × (command ≡ command_of head contents last)
    × LastOf head last rest

-- Reading stops after the first word.
abbrev pub StopsAfter : Head → Type 0 → List ℕ → Stop → Type 0
StopsAfter head Lack bytes stop = IsStop (IsAfter head) (BadAfter head) Lack bytes stop

-- after the first word, this command
abbrev pub SpellsAfter : Command → Head → List ℕ → Type 0
SpellsAfter command head bytes = Follows (production head) (IsLastOf command head) bytes

-- nothing, or a command or query from its first letter
abbrev pub IsSomeTail : List ℕ → Type 0
IsSomeTail bytes = (bytes ≡ []) ⊎ ThenWord head_words IsAfter bytes

abbrev pub BadTail : Bads
BadTail kind left bytes = ThenWord head_words (λ head. BadAfter head kind left) bytes

-- this command from its first letter
abbrev pub IsTail : Command → List ℕ → Type 0
IsTail command bytes =
    ((command ≡ commands.Blank) × (bytes ≡ [])) ⊎ ThenWord head_words (SpellsAfter command) bytes

-- What was read of the command is within its bounds.
abbrev pub KeepsTail : Command → List ℕ → Type 0
KeepsTail (commands.Query query) bytes =
    Then (Exactly (codes "g")) (IsKeptQuery (commands.Query query)) bytes
KeepsTail (commands.Mutate reading mutation) bytes =
    Then (Exactly (codes "g")) (IsKeptQuery (commands.Mutate reading mutation)) bytes
KeepsTail command bytes = KeepsBounds command

-- no command that needs no memory
abbrev pub LacksMemory : List ℕ → Type 0
LacksMemory bytes = (command : Command) → NeedsNoMemory command → ¬ IsTail command bytes
