-- Texts as a reader meets them, byte by byte, from the byte after the opening quote on.
use Rattle.std.specs.Prelude.{◌≡◌, ◌⊎◌, ℕ, Some, IsSome, List, [], ◌∷◌, ◌++◌, length}
use Rattle.gremlin_parse.specs.Values.{escaped, IsPiece, ArePieces, unescaped}

-- The bytes begin with one byte of a text, and go on with the rest.
pub record TakesPiece (quote : ℕ) (bytes rest : List ℕ) : Type 0 where
  pub b : ℕ
  pub piece : List ℕ
  pub bytes_are : bytes ≡ piece ++ rest
  pub is : IsPiece quote b piece

abbrev pub StartsEscape : List ℕ → Type 0
StartsEscape [] = ⊥
StartsEscape (letter ∷ bytes) = IsSome (escaped letter)

-- The bytes end, or begin with a backslash that no letter of an escape follows.
abbrev pub LeavesPiece : List ℕ → ℕ → Type 0
LeavesPiece bytes left =
    ((bytes ≡ []) × (left ≡ 0))
    ⊎ ((after : List ℕ) × (bytes ≡ 92 ∷ after) × (left ≡ length after) × (¬ StartsEscape after))

-- The bytes are those of a text, so many after escapes, the closing quote, and the rest.
pub record ReadsQuoted (quote : ℕ) (inside : List ℕ) (len : ℕ) (bytes rest : List ℕ) : Type 0 where
  pub bytes_are : bytes ≡ inside ++ quote ∷ rest
  pub pieces : ArePieces quote (unescaped inside) inside
  pub len_is : len ≡ length (unescaped inside)

-- The bytes begin with some bytes of a text, and go on with none and no closing quote.
pub record LeavesQuoted (quote : ℕ) (bytes : List ℕ) (left : ℕ) : Type 0 where
  pub text : List ℕ
  pub inside : List ℕ
  pub rest : List ℕ
  pub bytes_are : bytes ≡ inside ++ rest
  pub pieces : ArePieces quote text inside
  pub leaves : LeavesPiece rest left

abbrev pub StartsWith : ℕ → List ℕ → Type 0
StartsWith quote bytes = (rest : List ℕ) × (bytes ≡ quote ∷ rest)

-- The bytes begin with a letter of an escape, and go on with the rest.
abbrev pub TakesLetter : List ℕ → List ℕ → Type 0
TakesLetter bytes rest =
    (letter : ℕ) × (b : ℕ) × (bytes ≡ letter ∷ rest) × (escaped letter ≡ Some b)
