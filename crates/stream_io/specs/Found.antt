-- What the parts of a reader's call find.
use Rattle.std.specs.Prelude.{
  ◌≡◌,
  ◌⊎◌,
  ℕ,
  Bool,
  true,
  false,
  List,
  [],
  ◌∷◌,
  ◌++◌,
  ◌+◌,
  ◌^◌,
  ◌≤◌,
  ◌↔◌,
  length,
}
use Rattle.stream_io.specs.Lines.{Whole, Long, line_of}
use Rattle.stream_io.specs.Answers.{IsPiece}
use Rattle.stream_io.specs.Reading.{Reading}
use Rattle.stream_io.specs.declared.line_reader.Found.{Found}
use Rattle.stream_io.specs.declared.line_reader.Found.TheVariants.{Line, TooLong}

-- What is found of a piece, of which a part that is too long may have been dropped before.
abbrev pub IsFound : Found → Bool → List ℕ → List ℕ → Type 0
IsFound Line dropped piece line = (dropped ≡ false) × (line_of piece ≡ Whole line)
IsFound TooLong dropped piece line = (dropped ≡ true) ⊎ (line_of piece ≡ Long)

-- The first piece held was taken, with the newline that ends it.
pub record TakesPiece (found : Found) (dropped : Bool) (old new : Reading) : Type 0 where
  pub piece : List ℕ
  pub no_newline : IsPiece piece
  pub split : old.held ≡ piece ++ 10 ∷ new.held
  pub is_found : IsFound found dropped piece new.line
  pub taken : new.taken ≡ old.taken
  pub ended : new.ended ≡ old.ended

-- All that was held was taken, as the last piece.
pub record TakesRest (found : Found) (dropped : Bool) (old new : Reading) : Type 0 where
  pub is_found : IsFound found dropped old.held new.line
  pub none_held : new.held ≡ []
  pub taken : new.taken ≡ old.taken
  pub ended : new.ended ≡ old.ended

-- These many bytes came behind those held, the next that the source had left; none came only at its
-- end.
pub record Grows (tells : Type 0) (old new left_before left_after : List ℕ)
    (count : ℕ) : Type 0 where
  pub more : List ℕ
  pub count_is : length more ≡ count
  pub held : new ≡ old ++ more
  pub given : tells → left_before ≡ more ++ left_after
  pub at_end : tells → count ≡ 0 → left_before ≡ []

-- More bytes were taken behind those held, or the source answered its end.
pub record Fills (old new : Reading) : Type 0 where
  pub more : List ℕ
  pub held : new.held ≡ old.held ++ more
  pub taken : new.taken ≡ old.taken + length more
  pub ended : (new.ended ≡ true) ↔ (more ≡ [])
  pub limit : new.taken ≤ 2 ^ 30
