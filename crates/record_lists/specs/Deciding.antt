-- What a decider of one rule answers, and what it may ask for.
use Rattle.std.specs.Prelude.{◌≡◌, ℕ, ◌≤◌, Option, None, Some, true}
use Rattle.rec_bytes.specs.declared.damage.Damage.{Damage}
use Rattle.rec_bytes.specs.declared.shape.Shape.{Shape}
use Rattle.rec_bytes.specs.RecordFiles.{is_meta_file}
use Rattle.rec_bytes.specs.Format.{most_ids}
use Rattle.store_rules.specs.Views.{Records, high}
use Rattle.store_rules.specs.Breaking.{BreaksAny, Keeps}

-- The record breaks the rule of this number.
pub record BreaksRule (records : Records) (shape : Shape) (rule : ℕ) (damage : Damage)
    : Type 0 where
  pub rule_is : damage.rule ≡ rule
  pub breaks : BreaksAny records shape damage

-- One rule is decided: it is kept, or a record breaks it.
abbrev pub DecidesRule : Records → Shape → ℕ → Option Damage → Type 0
DecidesRule records shape rule None = Keeps records shape rule
DecidesRule records shape rule (Some damage) = BreaksRule records shape rule damage

-- no mark is past the numbers that there may be
abbrev pub AreMarksLow : Records → Type 0
AreMarksLow records = (file : ℕ) → is_meta_file file ≡ true → high records file ≤ most_ids
