-- What each answer of a reader of lines says.
use Rattle.std.specs.Prelude.{
  ◌≡◌,
  ◌≢◌,
  ◌⊎◌,
  ℕ,
  ◌+◌,
  ◌^◌,
  ◌<◌,
  ◌≤◌,
  Bool,
  true,
  false,
  List,
  [],
  ◌∷◌,
  ◌++◌,
  length,
}
use Rattle.std.specs.List.{AllByRecursion}
use Rattle.stream_io.specs.Lines.{InputLine, Whole, Long, line_of}
use Rattle.stream_io.specs.Reading.{HasNoneLeft, Reading, ahead, used}
use Rattle.stream_io.specs.declared.line_reader.LineAnswer.{LineAnswer}
use Rattle.stream_io.specs.declared.line_reader.LineAnswer.TheVariants.{
  Line,
  TooLong,
  End,
  SourceFault,
  Exhausted,
}

-- no byte of the piece is a newline
abbrev pub IsPiece : List ℕ → Type 0
IsPiece piece = AllByRecursion (λ b. b ≢ 10) piece

-- The line was the next one: its piece and a newline were ahead, or its piece alone at the end of
-- the input.
pub record TakesLine (line : InputLine) (before after : List ℕ) (ended : Bool) : Type 0 where
  pub piece : List ℕ
  pub no_newline : IsPiece piece
  pub line_is : line_of piece ≡ line
  pub split : (before ≡ piece ++ 10 ∷ after)
      ⊎ ((before ≡ piece) × (piece ≢ []) × (after ≡ []) × (ended ≡ true))

-- The first bytes are dropped. No newline is among them.
pub record Drops (before after : List ℕ) : Type 0 where
  pub piece : List ℕ
  pub no_newline : IsPiece piece
  pub split : before ≡ piece ++ after

-- What an answer says of the bytes ahead before and after it, where the source tells what it has
-- left.
abbrev pub TakesFrom : LineAnswer → List ℕ → List ℕ → Bool → Type 0
TakesFrom (Line bytes) before after ended = TakesLine (Whole bytes.now) before after ended
TakesFrom TooLong before after ended = TakesLine Long before after ended
TakesFrom End before after ended = (before ≡ []) × (after ≡ []) × (ended ≡ true)
TakesFrom SourceFault before after ended = Drops before after
TakesFrom Exhausted before after ended = Drops before after

-- The unfinished line is gone, and the source hasn't answered its end.
pub record Stops (old new : Reading) : Type 0 where
  pub had_not_ended : old.ended ≡ false
  pub has_not_ended : new.ended ≡ false
  pub none_held : new.held ≡ []

-- What an answer says of what the reader holds and counts, whatever the source tells.
abbrev pub Counts : LineAnswer → Reading → Reading → Type 0
Counts (Line bytes) old new = used old < used new
Counts TooLong old new = used old < used new
Counts End old new = new.ended ≡ true
Counts SourceFault old new = Stops old new × (new.taken < 2 ^ 30)
Counts Exhausted old new = Stops old new × (new.taken ≡ 2 ^ 30)

-- A call of next. The source is asked only where fewer than 2^30 bytes were taken, and has nothing
-- left once it has answered its end.
pub record Answers (tells : Type 0) (answer : LineAnswer) (old : Reading)
    (left_before left_after : List ℕ) (new : Reading) : Type 0 where
  pub takes : tells → TakesFrom answer (ahead old left_before) (ahead new left_after) new.ended
  pub source_counted : tells → new.taken + length left_after ≡ old.taken + length left_before
  pub counts : Counts answer old new
  pub held_counted : length new.held ≤ new.taken
  pub limit : new.taken ≤ 2 ^ 30
  pub stays_ended : new.ended ≡ false → old.ended ≡ false
  pub asked_below_limit : old.ended ≡ false → new.ended ≡ true → new.taken < 2 ^ 30
  pub none_left : tells → HasNoneLeft old left_before → HasNoneLeft new left_after
