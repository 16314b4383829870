-- The lines of a list of bytes.
use Rattle.std.specs.Prelude.{
  ℕ,
  List,
  [],
  ◌∷◌,
  ◌++◌,
  length,
  map,
  nat_lt,
  ◌==◌,
  ◌-◌,
  if◌then◌else◌,
  slice_index,
  take,
}

-- a line's bytes, or that the line is too long to be read
pub data InputLine : Type 0 where
  Whole : (bytes : List ℕ) → InputLine
  Long : InputLine

-- The bytes as pieces: those that a newline ends, and the bytes behind the last newline.
pub record Pieces : Type 0 where
  pub ended : List (List ℕ)
  pub rest : List ℕ

-- a byte more at the front of the first piece
abbrev pub onto_first : ℕ → List (List ℕ) → List ℕ → Pieces
onto_first b [] rest = record { ended = []; rest = b ∷ rest }
onto_first b (p ∷ ps) rest = record { ended = (b ∷ p) ∷ ps; rest = rest }

abbrev pub pieces_of : List ℕ → Pieces
pieces_of [] = record { ended = []; rest = [] }
pieces_of (b ∷ bs) =
    if b == 10 then record { ended = [] ∷ (pieces_of bs).ended; rest = (pieces_of bs).rest }
    else onto_first b (pieces_of bs).ended (pieces_of bs).rest

-- the piece without one carriage return at its end
abbrev pub without_return : List ℕ → List ℕ
without_return piece =
    if slice_index piece (length piece - 1) == 13 then take (length piece - 1) piece else piece

-- a piece of more than 8,192 bytes, a carriage return counted, is a long line
abbrev pub line_of : List ℕ → InputLine
line_of piece = if nat_lt 8192 (length piece) then Long else Whole (without_return piece)

-- the lines that a newline ends
abbrev pub ended_lines : List ℕ → List InputLine
ended_lines bytes = map line_of (pieces_of bytes).ended

-- the last bytes, which no newline ends, are a line; no bytes are none
abbrev pub last_line : List ℕ → List InputLine
last_line [] = []
last_line (b ∷ bs) = line_of (b ∷ bs) ∷ []

-- all lines, in order
abbrev pub lines_of : List ℕ → List InputLine
lines_of bytes = ended_lines bytes ++ last_line (pieces_of bytes).rest
