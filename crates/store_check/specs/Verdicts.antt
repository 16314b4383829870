-- A verdict on a store: it keeps the rules, or the least one that it doesn't and a record that
-- breaks it.
use Rattle.std.specs.Prelude.{ℕ, ◌<◌, ◌≤◌}
use Rattle.rec_bytes.specs.declared.damage.Damage.{Damage}
use Rattle.rec_bytes.specs.declared.shape.Shape.{Shape}
use Rattle.store_rules.specs.Views.{Records}
use Rattle.store_check.specs.declared.verdict.Verdict.{Verdict}
use Rattle.store_check.specs.declared.verdict.Verdict.TheVariants.{Sound, Broken}
use Rattle.store_rules.specs.Breaking.{BreaksAny, Keeps}

-- The record breaks a rule from the first one asked for on. All such rules below it are kept.
pub record IsLeastBroken (records : Records) (shape : Shape) (from : ℕ) (damage : Damage)
    : Type 0 where
  pub low : from ≤ damage.rule
  pub lesser : (n : ℕ) → from ≤ n → n < damage.rule → Keeps records shape n
  pub breaks : BreaksAny records shape damage

-- a verdict that a rule is broken names the least such rule and a record that breaks it
abbrev pub BrokenIs : Records → Shape → Verdict → Type 0
BrokenIs records shape Sound = Unit {0}
BrokenIs records shape (Broken damage) = IsLeastBroken records shape 1 damage
