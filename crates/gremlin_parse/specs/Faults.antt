-- The faults of a line that spells no command, with their places.
use Rattle.std.specs.Prelude.{◌≡◌, ◌⊎◌, ℕ, ◌≤◌, ◌<◌, Bool, false, Some, List, [], ◌∷◌, ◌++◌, length}
use Rattle.std.specs.Prelude.{take}
use Rattle.std.specs.Int.RustNames.{FitsSigned}
use mir.Syntax.{w64}
use Rattle.plain_graph.specs.declared.value.Value.{Value}
use Rattle.plain_graph.specs.declared.value.Value.TheVariants as values
use Rattle.plain_graph.specs.Names.{is_name_byte}
use Rattle.gremlin_parse.specs.Numbers.{is_digit}
use Rattle.gremlin_parse.specs.Grammar.{Part, Name, Number, Times, Written, Closed, Called}
use Rattle.gremlin_parse.specs.Grammar.{most_name_bytes}
use Rattle.gremlin_parse.specs.Grammar.{most_text_bytes}
use Rattle.gremlin_parse.specs.declared.bad_token.BadToken.{BadToken}
use Rattle.gremlin_parse.specs.declared.bad_token.BadToken.TheVariants.{LongName, LongText}
use Rattle.gremlin_parse.specs.declared.bad_token.BadToken.TheVariants.{WideNumber, WrongTimes}

-- some line of the language begins with these bytes
abbrev pub IsViable : (List ℕ → Type 0) → List ℕ → Type 0
IsViable Language bytes = (more : List ℕ) × Language (bytes ++ more)

-- The longest prefix of the line with which some line of the language begins has this many bytes.
pub record StopsAt (Language : List ℕ → Type 0) (line : List ℕ) (at : ℕ) : Type 0 where
  pub within : at ≤ length line
  pub viable : IsViable Language (take at line)
  pub longest :
      (longer : ℕ) → at < longer → longer ≤ length line → ¬ IsViable Language (take longer line)

-- The bytes begin with no byte that passes.
abbrev pub EndsRun : (ℕ → Bool) → List ℕ → Type 0
EndsRun p [] = Unit {0}
EndsRun p (b ∷ bytes) = p b ≡ false

-- What stands after a number of a value ends it; a text is ended by its quote.
abbrev pub EndsValue : Value → List ℕ → Type 0
EndsValue (values.Int number) rest = EndsRun is_digit rest
EndsValue (values.Bool truth) rest = ⊥
EndsValue (values.Text text) rest = Unit {0}

-- What stands after a name, a number or a value ends it; the number 0 is ended by anything.
abbrev pub EndsToken : Part → List ℕ → Type 0
EndsToken (Name name) rest = EndsRun is_name_byte rest
EndsToken (Number most number) rest = EndsRun is_digit rest
EndsToken (Times number) rest = (number ≡ 0) ⊎ EndsRun is_digit rest
EndsToken (Written value) rest = EndsValue value rest
EndsToken (Closed double name) rest = Unit {0}
EndsToken _ rest = ⊥

-- The value is out of its bounds.
abbrev pub IsBadValue : Value → BadToken → Type 0
IsBadValue (values.Int number) WideNumber = ¬ FitsSigned w64 number
IsBadValue (values.Text text) LongText = most_text_bytes < length text
IsBadValue _ _ = ⊥

-- The part is a token out of its bounds.
abbrev pub IsOutOfBounds : Part → BadToken → Type 0
IsOutOfBounds (Name name) LongName = most_name_bytes < length name
IsOutOfBounds (Closed double name) LongName = most_name_bytes < length name
IsOutOfBounds (Number most number) WideNumber = most < number
IsOutOfBounds (Times number) WrongTimes = (number < 1) ⊎ (16 < number)
IsOutOfBounds (Written value) kind = IsBadValue value kind
IsOutOfBounds (Called word fault) kind = fault ≡ Some kind
IsOutOfBounds _ _ = ⊥
