-- How a reader ends once the line that it lent is given back.
use Rattle.std.specs.Prelude.{⊤}
use Rattle.std.specs.Borrow.{MutBor, Fml, follows_so}
use mathlib.Core.Option.{none}
use Rattle.stream_io.specs.Reading.{Reading}
use Rattle.stream_io.specs.contracts.line_reader.LineReader.{the_row}

-- the reader that was lent ends with this fact
abbrev pub EndsWith : MutBor Reading → (Reading → Type 0) → Fml
EndsWith reader P = follows_so the_row the_row reader.ghost_name none (λ _ _. ⊤) P
