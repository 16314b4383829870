-- Productions: symbols of the grammar, one after the other, and what readers of symbols promise.
use Rattle.std.specs.Prelude.{◌≡◌, ◌≢◌, ◌⊎◌, ℕ, ◌==◌, ◌||◌, Bool, true, false, Some}
use Rattle.std.specs.Prelude.{List, [], ◌∷◌, ◌++◌, length, codes}
use Rattle.plain_graph.specs.declared.value.Value.{Value}
use Rattle.plain_graph.specs.declared.value.Value.TheVariants as values
use Rattle.plain_graph.specs.Names.{IsName, is_name_byte}
use Rattle.gremlin_parse.specs.Numbers.{is_digit}
use Rattle.gremlin_parse.specs.Values.{is_quote}
use Rattle.gremlin_parse.specs.Texts.{LeavesQuoted}
use Rattle.gremlin_parse.specs.Grammar.{Part, Blanks, Gap, Exactly, Name, Number, Times, Written}
use Rattle.gremlin_parse.specs.Grammar.{Closed, quote_byte, IsPart, IsBounded, is_blank, most_id}
use Rattle.gremlin_parse.specs.Faults.{EndsRun, IsOutOfBounds}
use Rattle.gremlin_parse.specs.Reading.{first_byte, Passes, LeavesWord, Then, StartsName}
use Rattle.gremlin_parse.specs.Reading.{StartsNumber}
use Rattle.gremlin_parse.specs.Keywords.{Entry, InTable, LeavesTable, plain}
use Rattle.gremlin_parse.specs.declared.bad_token.BadToken.{BadToken}
use Rattle.gremlin_parse.specs.declared.stop.Stop.{Stop}
use Rattle.gremlin_parse.specs.declared.stop.Stop.TheVariants as stops

-- A symbol stands for parts: any blanks, one blank or more, a sign, one of several words, a name,
-- a number of at most so much, a number of times, a value, or a name and its closing quote.
pub data Symbol : Type 0 where
  AnyBlanks : Symbol
  AnyGap : Symbol
  Sign : (sign : List ℕ) → Symbol
  OneWord : (words : List (List ℕ)) → Symbol
  AnyName : Symbol
  AnyNumber : (most : ℕ) → Symbol
  AnyTimes : Symbol
  AnyValue : Symbol
  AnyClosed : (double : Bool) → Symbol

-- what tells the parts of a symbol apart
abbrev pub Content : Symbol → Type 0
Content AnyBlanks = Unit {0}
Content AnyGap = Unit {0}
Content (Sign sign) = Unit {0}
Content (OneWord words) = List ℕ
Content AnyName = List ℕ
Content (AnyNumber most) = ℕ
Content AnyTimes = ℕ
Content AnyValue = Value
Content (AnyClosed double) = List ℕ

abbrev pub part : (symbol : Symbol) → Content symbol → Part
part AnyBlanks content = Blanks
part AnyGap content = Gap
part (Sign sign) content = Exactly sign
part (OneWord words) word = Exactly word
part AnyName name = Name name
part (AnyNumber most) number = Number most number
part AnyTimes number = Times number
part AnyValue value = Written value
part (AnyClosed double) name = Closed double name

-- The symbol has a part of this content.
abbrev pub Allows : (symbol : Symbol) → Content symbol → Type 0
Allows AnyBlanks content = Unit {0}
Allows AnyGap content = Unit {0}
Allows (Sign sign) content = Unit {0}
Allows (OneWord words) word = InTable (word, tt) (plain words)
Allows AnyName name = Unit {0}
Allows (AnyNumber most) number = Unit {0}
Allows AnyTimes number = Unit {0}
Allows AnyValue value = Unit {0}
Allows (AnyClosed double) name = Unit {0}

-- what stands after the bytes of a value ends it
abbrev pub EndsWritten : Value → List ℕ → List ℕ → Type 0
EndsWritten (values.Int number) prefix rest =
    (prefix ≡ codes "0") ⊎ (prefix ≡ codes "-0") ⊎ EndsRun is_digit rest
EndsWritten (values.Bool truth) prefix rest = EndsRun is_name_byte rest
EndsWritten (values.Text text) prefix rest = Unit {0}

-- what stands after the bytes of a symbol ends it
abbrev pub Ends : (symbol : Symbol) → Content symbol → List ℕ → List ℕ → Type 0
Ends AnyBlanks content prefix rest = EndsRun is_blank rest
Ends AnyGap content prefix rest = EndsRun is_blank rest
Ends (Sign sign) content prefix rest = Unit {0}
Ends (OneWord words) word prefix rest = Passes is_name_byte prefix × EndsRun is_name_byte rest
Ends AnyName name prefix rest = EndsRun is_name_byte rest
Ends (AnyNumber most) number prefix rest = (prefix ≡ codes "0") ⊎ EndsRun is_digit rest
Ends AnyTimes number prefix rest = (prefix ≡ codes "0") ⊎ EndsRun is_digit rest
Ends AnyValue value prefix rest = EndsWritten value prefix rest
Ends (AnyClosed double) name prefix rest = Unit {0}

-- The symbol stands whole at the head, with this content, before the rest.
pub record Takes (symbol : Symbol) (content : Content symbol) (bytes rest : List ℕ) : Type 0 where
  pub prefix : List ℕ
  pub bytes_are : bytes ≡ prefix ++ rest
  pub is : IsPart (part symbol content) prefix
  pub ends : Ends symbol content prefix rest

-- The symbol stands there whole and is within its bounds.
pub record Reads (symbol : Symbol) (content : Content symbol) (bytes rest : List ℕ) : Type 0 where
  pub takes : Takes symbol content bytes rest
  pub allowed : Allows symbol content
  pub bounded : IsBounded (part symbol content)

-- a token out of its bounds at the head, `left` bytes from the end
abbrev pub IsBad : Symbol → BadToken → ℕ → List ℕ → Type 0
IsBad symbol kind left bytes =
    (content : Content symbol) × IsOutOfBounds (part symbol content) kind
    × (rest : List ℕ) × Takes symbol content bytes rest × (left ≡ length bytes)

abbrev pub truth_words : List (Entry Bool)
truth_words = (codes "true", true) ∷ (codes "false", false) ∷ []

-- a digit or a minus
abbrev pub is_integer_start : ℕ → Bool
is_integer_start b = is_digit b || b == 45

-- The bytes begin with a minus that no number follows.
abbrev pub LeavesNegative : List ℕ → ℕ → Type 0
LeavesNegative bytes left =
    (after : List ℕ) × (bytes ≡ 45 ∷ after) × (left ≡ length after) × (¬ StartsNumber after)

-- The bytes begin with a quote that no text follows.
abbrev pub LeavesText : List ℕ → ℕ → Type 0
LeavesText bytes left =
    (quote : ℕ) × (after : List ℕ) × (is_quote quote ≡ true) × (bytes ≡ quote ∷ after)
    × LeavesQuoted quote after left

-- The bytes begin with no number, with no quote, and with no word of the two.
abbrev pub LeavesTruth : List ℕ → ℕ → Type 0
LeavesTruth bytes left =
    EndsRun is_integer_start bytes × EndsRun is_quote bytes × LeavesTable truth_words bytes left

-- The bytes begin with no name, or with one that no such quote follows.
abbrev pub LeavesClosed : Bool → List ℕ → ℕ → Type 0
LeavesClosed double bytes left =
    ((left ≡ length bytes) × (¬ StartsName bytes))
    ⊎ ((name : List ℕ) × (rest : List ℕ) × (bytes ≡ name ++ rest) × IsName name
    × EndsRun is_name_byte rest × (first_byte rest ≢ Some (quote_byte double))
    × (left ≡ length rest))

-- No part of the symbol goes on so before the last `left` bytes.
abbrev pub LeavesAt : Symbol → List ℕ → ℕ → Type 0
LeavesAt AnyBlanks bytes left = ⊥
LeavesAt AnyGap bytes left = (left ≡ length bytes) × EndsRun is_blank bytes
LeavesAt (Sign sign) bytes left = LeavesWord sign bytes left
LeavesAt (OneWord words) bytes left = LeavesTable (plain words) bytes left
LeavesAt AnyName bytes left = (left ≡ length bytes) × (¬ StartsName bytes)
LeavesAt (AnyNumber most) bytes left = (left ≡ length bytes) × (¬ StartsNumber bytes)
LeavesAt AnyTimes bytes left = (left ≡ length bytes) × (¬ StartsNumber bytes)
LeavesAt AnyValue bytes left =
    LeavesNegative bytes left ⊎ LeavesText bytes left ⊎ LeavesTruth bytes left
LeavesAt (AnyClosed double) bytes left = LeavesClosed double bytes left

-- No part of the symbol stands there, or one that is out of its bounds.
abbrev pub Leaves : Symbol → List ℕ → Stop → Type 0
Leaves symbol bytes stops.Memory = ⊥
Leaves symbol bytes (stops.Syntax left) = LeavesAt symbol bytes left
Leaves symbol bytes (stops.Bad kind left) = IsBad symbol kind left bytes

-- No number without a minus goes on so, or one that is out of its bounds.
abbrev pub LeavesPositive : List ℕ → Stop → Type 0
LeavesPositive bytes stops.Memory = ⊥
LeavesPositive bytes (stops.Syntax left) = (left ≡ length bytes) × (¬ StartsNumber bytes)
LeavesPositive bytes (stops.Bad kind left) = IsBad AnyValue kind left bytes

-- No number goes on so, or one that is out of its bounds.
abbrev pub LeavesInteger : List ℕ → Stop → Type 0
LeavesInteger bytes stops.Memory = ⊥
LeavesInteger bytes (stops.Syntax left) =
    LeavesNegative bytes left ⊎ ((left ≡ length bytes) × EndsRun is_integer_start bytes)
LeavesInteger bytes (stops.Bad kind left) = IsBad AnyValue kind left bytes

-- a sign and any blanks
abbrev pub ReadsToken : List ℕ → List ℕ → List ℕ → Type 0
ReadsToken sign bytes rest =
    (middle : List ℕ) × Reads (Sign sign) tt bytes middle × Reads AnyBlanks tt middle rest

-- an identifier and any blanks
abbrev pub ReadsId : ℕ → List ℕ → List ℕ → Type 0
ReadsId id bytes rest =
    (middle : List ℕ) × Reads (AnyNumber most_id) id bytes middle × Reads AnyBlanks tt middle rest

abbrev pub Contents : List Symbol → Type 0
Contents [] = Unit {0}
Contents (symbol ∷ symbols) = Content symbol × Contents symbols

-- the symbols stand there, with these contents
abbrev pub ReadsAll : (symbols : List Symbol) → Contents symbols → List ℕ → List ℕ → Type 0
ReadsAll [] contents bytes rest = bytes ≡ rest
ReadsAll (symbol ∷ symbols) contents bytes rest =
    (middle : List ℕ) × Reads symbol contents.0 bytes middle
    × ReadsAll symbols contents.1 middle rest

-- some of the symbols stand there, and the next one doesn't
abbrev pub LeavesOne : List Symbol → List ℕ → Stop → Type 0
LeavesOne [] bytes stop = ⊥
LeavesOne (symbol ∷ symbols) bytes stop =
    Leaves symbol bytes stop
    ⊎ ((content : Content symbol) × (middle : List ℕ) × Reads symbol content bytes middle
    × LeavesOne symbols middle stop)

-- parts of the symbols, and after them bytes of the language that their contents have
abbrev pub Follows : (symbols : List Symbol) → (Contents symbols → List ℕ → Type 0) → List ℕ
    → Type 0
Follows [] Last bytes = Last tt bytes
Follows (symbol ∷ symbols) Last bytes =
    (content : Content symbol) × Allows symbol content
    × Then (part symbol content) (Follows symbols (λ contents. Last (content, contents))) bytes

-- a bad token in one of the symbols, or after them
abbrev pub BadFollows :
    List Symbol → (BadToken → ℕ → List ℕ → Type 0) → BadToken → ℕ → List ℕ → Type 0
BadFollows [] Bad kind left bytes = Bad kind left bytes
BadFollows (symbol ∷ symbols) Bad kind left bytes =
    IsBad symbol kind left bytes
    ⊎ ((content : Content symbol) × Allows symbol content
    × Then (part symbol content) (BadFollows symbols Bad kind left) bytes)
