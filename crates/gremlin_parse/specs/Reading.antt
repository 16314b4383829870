-- What is left to read of a line: a reader is given the bytes from some place to the line's end.
use Rattle.std.specs.Prelude.{◌≡◌, ◌≢◌, ◌⊎◌, ℕ, Bool, true, Option, Some, None}
use Rattle.std.specs.Prelude.{List, [], ◌∷◌, ◌++◌}
use Rattle.std.specs.Prelude.{length}
use Rattle.std.specs.List.{AllByRecursion}
use Rattle.plain_graph.specs.Names.{is_name_start}
use Rattle.gremlin_parse.specs.Numbers.{is_digit}
use Rattle.gremlin_parse.specs.Grammar.{Part, IsPart}
use Rattle.gremlin_parse.specs.Faults.{IsViable, EndsRun, EndsToken, IsOutOfBounds}
use Rattle.gremlin_parse.specs.declared.bad_token.BadToken.{BadToken}

abbrev pub first_byte : List ℕ → Option ℕ
first_byte [] = None
first_byte (b ∷ bytes) = Some b

-- Each byte passes.
abbrev pub Passes : (ℕ → Bool) → List ℕ → Type 0
Passes p bytes = AllByRecursion (λ b. p b ≡ true) bytes

-- The bytes are a run of bytes that pass, as long as it can be, and the rest.
pub record CutsRun (p : ℕ → Bool) (bytes run rest : List ℕ) : Type 0 where
  pub bytes_are : bytes ≡ run ++ rest
  pub passes : Passes p run
  pub ends : EndsRun p rest

-- The bytes begin with a prefix of the word, and go on with another byte than the word, or end.
pub record LeavesWord (word bytes : List ℕ) (left : ℕ) : Type 0 where
  pub read : List ℕ
  pub next : ℕ
  pub more : List ℕ
  pub unread : List ℕ
  pub word_is : word ≡ read ++ next ∷ more
  pub bytes_are : bytes ≡ read ++ unread
  pub left_is : left ≡ length unread
  pub differs : first_byte unread ≢ Some next

-- Some line of the language begins with the bytes before the last `left` ones, and none goes on
-- with the same byte, or ends if none is left.
pub record StopsBefore (Language : List ℕ → Type 0) (bytes : List ℕ) (left : ℕ) : Type 0 where
  pub read : List ℕ
  pub unread : List ℕ
  pub bytes_are : bytes ≡ read ++ unread
  pub left_is : left ≡ length unread
  pub viable : IsViable Language read
  pub none : (more : List ℕ) → first_byte more ≡ first_byte unread → ¬ Language (read ++ more)

-- the bytes of a part, and after them bytes of the language
abbrev pub Then : Part → (List ℕ → Type 0) → List ℕ → Type 0
Then part Language bytes =
    (prefix : List ℕ) × (rest : List ℕ) × (bytes ≡ prefix ++ rest) × IsPart part prefix
    × Language rest

-- the part is a token out of its bounds, whole at the head, `left` bytes from the end
abbrev pub IsBadPart : Part → BadToken → ℕ → List ℕ → Type 0
IsBadPart part kind left bytes =
    (token : List ℕ) × (rest : List ℕ) × (bytes ≡ token ++ rest) × IsPart part token
    × EndsToken part rest × IsOutOfBounds part kind × (left ≡ length bytes)

-- One of these parts is such a token, or one after them is; the parts before it stand before it.
abbrev pub BadThen :
    List Part → (BadToken → ℕ → List ℕ → Type 0) → BadToken → ℕ → List ℕ → Type 0
BadThen [] Bad kind left bytes = Bad kind left bytes
BadThen (part ∷ parts) Bad kind left bytes =
    IsBadPart part kind left bytes ⊎ Then part (BadThen parts Bad kind left) bytes

-- one of these parts is such a token
abbrev pub BadParts : List Part → BadToken → ℕ → List ℕ → Type 0
BadParts parts kind left bytes = BadThen parts (λ _ _ _. ⊥) kind left bytes

abbrev pub StartsName : List ℕ → Type 0
StartsName [] = ⊥
StartsName (b ∷ bytes) = is_name_start b ≡ true

abbrev pub StartsNumber : List ℕ → Type 0
StartsNumber [] = ⊥
StartsNumber (b ∷ bytes) = is_digit b ≡ true
