-- Where and why reading stops, in one fact for every fault.
use Rattle.std.specs.Prelude.{◌≡◌, ◌≤◌, ℕ, ◌-◌, List, [], ◌++◌, length}
use Rattle.gremlin_parse.specs.Grammar.{Part, IsMadeOf}
use Rattle.gremlin_parse.specs.Faults.{IsViable}
use Rattle.gremlin_parse.specs.Reading.{StopsBefore, BadParts}
use Rattle.gremlin_parse.specs.declared.bad_token.BadToken.{BadToken}
use Rattle.gremlin_parse.specs.declared.bad_token.BadToken.TheVariants.{LongName, LongText}
use Rattle.gremlin_parse.specs.declared.bad_token.BadToken.TheVariants.{WideNumber, UnfitStep}
use Rattle.gremlin_parse.specs.declared.bad_token.BadToken.TheVariants.{LateStep, WrongTimes}
use Rattle.gremlin_parse.specs.declared.line_fault.LineFault.{LineFault}
use Rattle.gremlin_parse.specs.declared.line_fault.LineFault.TheVariants as faults
use Rattle.gremlin_parse.specs.declared.stop.Stop.{Stop}
use Rattle.gremlin_parse.specs.declared.stop.Stop.TheVariants as stops

-- A bad token begins `left` bytes from the end, and the bytes before it are spelled: a language for
-- each kind and place.
abbrev pub Bads : Type 1
Bads = BadToken → ℕ → List ℕ → Type 0

-- A bad token is there, none is further left, and some line of the language begins with the bytes
-- before it.
pub record BadStop (Line : List ℕ → Type 0) (Bad : Bads) (kind : BadToken)
    (bytes : List ℕ) (left : ℕ) : Type 0 where
  pub has : Bad kind left bytes
  pub first : (other : BadToken) (place : ℕ) → Bad other place bytes → place ≤ left
  pub read : List ℕ
  pub unread : List ℕ
  pub bytes_are : bytes ≡ read ++ unread
  pub left_is : left ≡ length unread
  pub viable : IsViable Line read

-- What a reader promises of a stop; Lack is what holds where there was no memory.
abbrev pub IsStop : (List ℕ → Type 0) → Bads → Type 0 → List ℕ → Stop → Type 0
IsStop Line Bad Lack bytes stops.Memory = Lack
IsStop Line Bad Lack bytes (stops.Syntax left) =
    StopsBefore Line bytes left × ((kind : BadToken) (place : ℕ) → ¬ Bad kind place bytes)
IsStop Line Bad Lack bytes (stops.Bad kind left) = BadStop Line Bad kind bytes left

-- a fault of syntax, with a fact on its place
abbrev pub StopsWith : (ℕ → Type 0) → Stop → Type 0
StopsWith Fact stops.Memory = ⊥
StopsWith Fact (stops.Syntax left) = Fact left
StopsWith Fact (stops.Bad kind left) = ⊥

-- the line ends
abbrev pub IsEnd : List ℕ → Type 0
IsEnd bytes = bytes ≡ []

abbrev pub NoBad : Bads
NoBad kind left bytes = ⊥

module _ {X : Type 0} (parts : X → List Part) where
  -- the bytes are the parts of one of several values
  abbrev pub IsOneOf : List ℕ → Type 0
  IsOneOf bytes = (x : X) × IsMadeOf (parts x) bytes

  -- a bad token among the parts of one of several values
  abbrev pub BadInOne : Bads
  BadInOne kind left bytes = (x : X) × BadParts (parts x) kind left bytes

-- how many bytes from the end
abbrev pub left_of : Stop → ℕ
left_of stops.Memory = 0
left_of (stops.Syntax left) = left
left_of (stops.Bad kind left) = left

abbrev pub bad_fault : BadToken → ℕ → LineFault
bad_fault LongName at = faults.NameLength at
bad_fault LongText at = faults.TextLength at
bad_fault WideNumber at = faults.NumberRange at
bad_fault WrongTimes at = faults.TimesRange at
bad_fault UnfitStep at = faults.StepKind at
bad_fault LateStep at = faults.TooManySteps at

-- the fault of a line of so many bytes
abbrev pub fault_of : Stop → ℕ → LineFault
fault_of stops.Memory len = faults.Memory
fault_of (stops.Syntax left) len = faults.Syntax (len - left)
fault_of (stops.Bad kind left) len = bad_fault kind (len - left)
