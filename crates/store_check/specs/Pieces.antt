-- A text cut into pieces of 48 bytes, by their lengths.
use Rattle.std.specs.Prelude.{◌≡◌, ℕ, ◌+◌, ◌/◌, ◌<◌, List, length}
use Rattle.std.specs.List.{sum}
use Rattle.std.proofs.Common.{get_or}

-- as many as are needed, all but the last of 48 bytes, and together as long as the text
pub record AreLengths (text : ℕ) (lengths : List ℕ) : Type 0 where
  pub count : length lengths ≡ (text + 47) / 48
  pub full : (k : ℕ) → k + 1 < length lengths → get_or lengths k 0 ≡ 48
  pub total : sum lengths ≡ text
