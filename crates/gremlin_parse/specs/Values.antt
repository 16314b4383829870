-- Values as a line has them: a number, true or false, or a text between quotes.
use Rattle.std.specs.Prelude.{◌≡◌, ◌≢◌, ◌⊎◌, ℕ, ℤ, pos, neg_ℤ, Bool, true, false, ◌==◌, ◌||◌}
use Rattle.std.specs.Prelude.{if◌then◌else◌, Option, Some, None, unwrap_or}
use Rattle.std.specs.Prelude.{List, [], ◌∷◌, ◌++◌, codes}
use Rattle.plain_graph.specs.declared.value.Value.{Value}
use Rattle.plain_graph.specs.declared.value.Value.TheVariants as values
use Rattle.gremlin_parse.specs.Numbers.{IsNumber}
use Rattle.gremlin_parse.specs.declared.value.WrittenValue.{WrittenValue}
use Rattle.gremlin_parse.specs.declared.value.WrittenValue.TheVariants as written

-- The bytes are this number: its digits, or a minus and the digits of how far it is below 0.
abbrev pub IsInteger : ℤ → List ℕ → Type 0
IsInteger number bytes =
    ((size : ℕ) × (number ≡ pos size) × IsNumber size bytes)
    ⊎ ((size : ℕ) × (digits : List ℕ) × (number ≡ neg_ℤ (pos size)) × (bytes ≡ 45 ∷ digits)
    × IsNumber size digits)

abbrev pub truth_word : Bool → List ℕ
truth_word true = codes "true"
truth_word false = codes "false"

-- a single or a double quote
abbrev pub is_quote : ℕ → Bool
is_quote b = b == 39 || b == 34

-- the byte that a letter stands for after a backslash: the two quotes and the backslash (92) for
-- themselves, n for a new line, r for a carriage return, t for a tab
abbrev pub escaped : ℕ → Option ℕ
escaped letter =
    if is_quote letter || letter == 92 then Some letter
    else (if letter == 110 then Some 10
    else (if letter == 114 then Some 13 else (if letter == 116 then Some 9 else None)))

-- A byte of a text as it stands between these quotes: any byte but the quote and a backslash, or
-- a backslash and a letter.
abbrev pub IsPiece : ℕ → ℕ → List ℕ → Type 0
IsPiece quote b piece =
    ((piece ≡ b ∷ []) × (b ≢ quote) × (b ≢ 92))
    ⊎ ((letter : ℕ) × (piece ≡ 92 ∷ letter ∷ []) × (escaped letter ≡ Some b))

-- the bytes of a text, one after the other
abbrev pub ArePieces : ℕ → List ℕ → List ℕ → Type 0
ArePieces quote [] inside = inside ≡ []
ArePieces quote (b ∷ text) inside =
    (piece : List ℕ) × (rest : List ℕ) × (inside ≡ piece ++ rest) × IsPiece quote b piece
    × ArePieces quote text rest

-- a quote, the text, and the same quote
abbrev pub IsQuoted : List ℕ → List ℕ → Type 0
IsQuoted text bytes =
    (quote : ℕ) × (inside : List ℕ) × (is_quote quote ≡ true)
    × (bytes ≡ quote ∷ (inside ++ quote ∷ [])) × ArePieces quote text inside

-- the bytes are this value
abbrev pub IsWritten : Value → List ℕ → Type 0
IsWritten (values.Int number) bytes = IsInteger number bytes
IsWritten (values.Bool truth) bytes = bytes ≡ truth_word truth
IsWritten (values.Text text) bytes = IsQuoted text bytes

-- the bytes of a text from what stands between its quotes, where a backslash stands before that
-- or not
abbrev pub unescaped_after : Bool → List ℕ → List ℕ
unescaped_after is_escape [] = []
unescaped_after true (letter ∷ inside) =
    unwrap_or (escaped letter) letter ∷ unescaped_after false inside
unescaped_after false (b ∷ inside) =
    if b == 92 then unescaped_after true inside else b ∷ unescaped_after false inside

-- the bytes of a text from what stands between its quotes
abbrev pub unescaped : List ℕ → List ℕ
unescaped inside = unescaped_after false inside

-- the value that a reader has met
abbrev pub value_of : WrittenValue → Value
value_of (written.Int number) = values.Int number
value_of (written.Bool truth) = values.Bool truth
value_of (written.Text quoted) = values.Text (unescaped quoted.inside.now)
