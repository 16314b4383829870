-- What a step of a reader's call does, and the whole call.
use Rattle.std.specs.Prelude.{
  ◌≡◌,
  ◌≢◌,
  ◌⊎◌,
  ℕ,
  ◌^◌,
  ◌<◌,
  ◌≤◌,
  Bool,
  true,
  false,
  List,
  [],
  ◌∷◌,
  ◌++◌,
  length,
}
use Rattle.stream_io.specs.Lines.{Whole, Long}
use Rattle.stream_io.specs.Answers.{IsPiece, TakesLine, Drops, Stops}
use Rattle.stream_io.specs.Found.{IsFound}
use Rattle.stream_io.specs.Reading.{Reading, used}
use Rattle.stream_io.specs.declared.line_reader.Found.{Found}
use Rattle.stream_io.specs.declared.line_reader.Found.TheVariants as founds
use Rattle.stream_io.specs.declared.line_reader.Outcome.{Outcome}
use Rattle.stream_io.specs.declared.line_reader.Outcome.TheVariants as outcomes
use Rattle.stream_io.specs.declared.line_reader.Step.{Step}
use Rattle.stream_io.specs.declared.line_reader.Step.TheVariants as steps

-- The counts of a reading are in range.
pub record IsCounted (r : Reading) : Type 0 where
  pub held : length r.held ≤ r.taken
  pub limit : r.taken ≤ 2 ^ 30

-- The end of a line was found, a part of which may have been dropped before.
pub record FindsPiece (found : Found) (dropped : Bool) (before after : List ℕ)
    (new : Reading) : Type 0 where
  pub piece : List ℕ
  pub no_newline : IsPiece piece
  pub split : (before ≡ piece ++ 10 ∷ after)
      ⊎ ((before ≡ piece) × (after ≡ []) × (new.ended ≡ true) × (dropped ≡ false → piece ≢ []))
  pub is_found : IsFound found dropped piece new.line

-- A part of a line was dropped that is too long by itself, or nothing was.
pub record PassesPart (before_dropped after_dropped : Bool) (before after : List ℕ) : Type 0 where
  pub part : List ℕ
  pub split : before ≡ part ++ after
  pub is_part : ((part ≡ []) × (after_dropped ≡ before_dropped))
      ⊎ (IsPiece part × (8192 < length part) × (after_dropped ≡ true))

-- More was read, or the source answered its end.
pub record ReadsOn (old new : Reading) : Type 0 where
  pub had_not_ended : old.ended ≡ false
  pub below_limit : old.taken < 2 ^ 30
  pub goes_on : ((new.ended ≡ false) × (old.taken < new.taken))
      ⊎ ((new.ended ≡ true) × (new.taken ≡ old.taken))

-- what a step says of the bytes ahead
abbrev pub StepTakes : Step → Bool → List ℕ → List ℕ → Reading → Type 0
StepTakes (steps.Ended (outcomes.Found found)) dropped before after new =
    FindsPiece found dropped before after new
StepTakes (steps.Ended outcomes.End) dropped before after new =
    (dropped ≡ false) × (before ≡ []) × (after ≡ []) × (new.ended ≡ true)
StepTakes (steps.Ended outcomes.SourceFault) dropped before after new = Drops before after
StepTakes (steps.Ended outcomes.Exhausted) dropped before after new = Drops before after
StepTakes (steps.GoOn now_dropped) dropped before after new =
    PassesPart dropped now_dropped before after

-- what a step says of the counts
abbrev pub StepCounts : Step → Bool → Reading → Reading → Type 0
StepCounts (steps.Ended (outcomes.Found found)) dropped old new =
    (used old ≤ used new) × (dropped ≡ false → used old < used new) × (new.ended ≡ old.ended)
    × (new.taken ≡ old.taken)
StepCounts (steps.Ended outcomes.End) dropped old new = (new ≡ old) × (new.ended ≡ true)
StepCounts (steps.Ended outcomes.SourceFault) dropped old new = Stops old new × (new.taken < 2 ^ 30)
StepCounts (steps.Ended outcomes.Exhausted) dropped old new = Stops old new × (new.taken ≡ 2 ^ 30)
StepCounts (steps.GoOn now_dropped) dropped old new =
    ReadsOn old new × (used old ≤ used new)
    × (now_dropped ≡ true → (dropped ≡ true) ⊎ (used old < used new))

-- what an outcome says of the bytes ahead before the call and after it
abbrev pub OutcomeTakes : Outcome → List ℕ → List ℕ → Reading → Type 0
OutcomeTakes (outcomes.Found founds.Line) before after new =
    TakesLine (Whole new.line) before after new.ended
OutcomeTakes (outcomes.Found founds.TooLong) before after new =
    TakesLine Long before after new.ended
OutcomeTakes outcomes.End before after new = (before ≡ []) × (after ≡ []) × (new.ended ≡ true)
OutcomeTakes outcomes.SourceFault before after new = Drops before after
OutcomeTakes outcomes.Exhausted before after new = Drops before after

-- what an outcome says of the counts
abbrev pub OutcomeCounts : Outcome → Reading → Reading → Type 0
OutcomeCounts (outcomes.Found found) old new = used old < used new
OutcomeCounts outcomes.End old new = new.ended ≡ true
OutcomeCounts outcomes.SourceFault old new = Stops old new × (new.taken < 2 ^ 30)
OutcomeCounts outcomes.Exhausted old new = Stops old new × (new.taken ≡ 2 ^ 30)
