-- Which lines spell which commands, and the faults of a line that spells none.
use Rattle.std.specs.Prelude.{◌≡◌, ◌⊎◌, ℕ, ◌+◌, ◌≤◌, List, length, codes}
use Rattle.plain_graph.specs.declared.command.Command.{Command}
use Rattle.plain_graph.specs.declared.command.Command.TheVariants as commands
use Rattle.gremlin_parse.specs.Commands.{IsCommand, KeepsBounds, NeedsNoMemory, parts_of}
use Rattle.gremlin_parse.specs.Grammar.{Blanks, Exactly, IsMadeOf}
use Rattle.gremlin_parse.specs.Faults.{StopsAt}
use Rattle.gremlin_parse.specs.Reading.{Then, BadParts}
use Rattle.gremlin_parse.specs.Queries.{QueryTo, IsKeptQuery, BadQuery}
use Rattle.gremlin_parse.specs.Stopping.{Bads}
use Rattle.gremlin_parse.specs.Tags.{after_tag}
use Rattle.gremlin_parse.specs.declared.bad_token.BadToken.{BadToken}
use Rattle.gremlin_parse.specs.declared.bad_token.BadToken.TheVariants.{LongName, LongText}
use Rattle.gremlin_parse.specs.declared.bad_token.BadToken.TheVariants.{WideNumber, UnfitStep}
use Rattle.gremlin_parse.specs.declared.bad_token.BadToken.TheVariants.{LateStep, WrongTimes}
use Rattle.gremlin_parse.specs.declared.line_fault.LineFault.{LineFault}
use Rattle.gremlin_parse.specs.declared.line_fault.LineFault.TheVariants.{Memory, Syntax}
use Rattle.gremlin_parse.specs.declared.line_fault.LineFault.TheVariants.{NameLength, TextLength}
use Rattle.gremlin_parse.specs.declared.line_fault.LineFault.TheVariants.{NumberRange, StepKind}
use Rattle.gremlin_parse.specs.declared.line_fault.LineFault.TheVariants.{TooManySteps, TimesRange}

-- what stands in a line before a command: any blanks
abbrev pub AfterFront : (List ℕ → Type 0) → List ℕ → Type 0
AfterFront Tail line = Then Blanks Tail line

-- g, and bytes of the language after it
abbrev pub AfterG : (List ℕ → Type 0) → List ℕ → Type 0
AfterG Language bytes = Then (Exactly (codes "g")) Language bytes

-- the bytes spell the command but for the bounds, from its first letter
abbrev pub IsLooseTail : Command → List ℕ → Type 0
IsLooseTail (commands.Query query) bytes = AfterG (QueryTo (commands.Query query)) bytes
IsLooseTail (commands.Mutate reading mutation) bytes =
    AfterG (QueryTo (commands.Mutate reading mutation)) bytes
IsLooseTail command bytes = IsMadeOf (parts_of command) bytes

-- the bytes spell the command, from its first letter
abbrev pub IsKeptTail : Command → List ℕ → Type 0
IsKeptTail (commands.Query query) bytes = AfterG (IsKeptQuery (commands.Query query)) bytes
IsKeptTail (commands.Mutate reading mutation) bytes =
    AfterG (IsKeptQuery (commands.Mutate reading mutation)) bytes
IsKeptTail command bytes = IsMadeOf (parts_of command) bytes × KeepsBounds command

-- A token with such a fault stands whole `left` bytes from the end, where the grammar has it.
abbrev pub IsFaultyTail : BadToken → ℕ → List ℕ → Type 0
IsFaultyTail kind left bytes =
    ((command : Command) × IsCommand command × BadParts (parts_of command) kind left bytes)
    ⊎ AfterG (BadQuery kind left) bytes

-- the line spells the command but for the bounds, after what names its session
abbrev pub SpellsLoosely : List ℕ → Command → Type 0
SpellsLoosely line command = AfterFront (IsLooseTail command) (after_tag line)

-- the line spells the command, after what names its session
abbrev pub Spells : List ℕ → Command → Type 0
Spells line command = AfterFront (IsKeptTail command) (after_tag line)

-- a line of the loose grammar
abbrev pub IsLine : List ℕ → Type 0
IsLine line = (command : Command) × SpellsLoosely line command

-- A token with such a fault stands whole in the line at this place, where the grammar has it.
abbrev pub HasBad : BadToken → List ℕ → ℕ → Type 0
HasBad kind line at =
    (left : ℕ) × (at + left ≡ length line) × AfterFront (IsFaultyTail kind left) (after_tag line)

-- the same, so many bytes from the line's end
abbrev pub BadLine : Bads
BadLine kind left line = (at : ℕ) × (at + left ≡ length line) × HasBad kind line at

-- The line has the fault at its place.
abbrev pub HasFault : List ℕ → LineFault → Type 0
HasFault line (Syntax at) = (¬ IsLine line) × StopsAt IsLine line at
HasFault line (NameLength at) = HasBad LongName line at
HasFault line (TextLength at) = HasBad LongText line at
HasFault line (NumberRange at) = HasBad WideNumber line at
HasFault line (TimesRange at) = HasBad WrongTimes line at
HasFault line (StepKind at) = HasBad UnfitStep line at
HasFault line (TooManySteps at) = HasBad LateStep line at
HasFault line Memory = ⊥

-- The line spells no command that is read without asking for memory.
abbrev pub NeedsMemory : List ℕ → Type 0
NeedsMemory line = (command : Command) → NeedsNoMemory command → ¬ Spells line command

-- the place of a fault
abbrev pub place_of : LineFault → ℕ
place_of (Syntax at) = at
place_of (NameLength at) = at
place_of (TextLength at) = at
place_of (NumberRange at) = at
place_of (TimesRange at) = at
place_of (StepKind at) = at
place_of (TooManySteps at) = at
place_of Memory = 0

-- the leftmost of the faults that the line has
pub record IsLeftmostFault (line : List ℕ) (fault : LineFault) : Type 0 where
  pub has : HasFault line fault
  pub leftmost : (other : LineFault) → HasFault line other → place_of fault ≤ place_of other
