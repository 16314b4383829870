-- Which numbers the sessions of lines have.
use Rattle.std.proofs.Common.{◌≡◌, ℕ, ◌-◌, ◌≤◌, Bool, true, false, ◌&&◌, cond, Option, Some, None, unwrap_or, List, [], ◌∷◌, refl, arith}
use Rattle.std.proofs.lemmas.Bool.Decides.{nat_tests}
use Rattle.gremlin_parse.specs.Grammar.{is_blank}
use Rattle.gremlin_parse.specs.Tags.{is_at, is_session, named_by, session_first, session_of, tag_first, tag_in}

abbrev IsLow : Option (ℕ × List ℕ) → Type 0
IsLow None = Unit {0}
IsLow (Some tag) = tag.0 ≤ 7

digit-low : (digit : ℕ) → is_session digit ≡ true → digit - 48 ≤ 7
digit-low digit is = grind (arith, nat_tests)

first-low : (bytes : List ℕ) → IsLow (session_first bytes)
first-low [] = tt
first-low (digit ∷ []) = tt
first-low (digit ∷ blank ∷ rest) = by (is_session digit) refl (is_blank blank)
  where
    by : (is : Bool) → is_session digit ≡ is → (ends : Bool) → IsLow (cond (is && ends) (Some (digit - 48, rest)) None)
    by true is true = digit-low digit is
    by true is false = tt
    by false is ends = tt

tag-low : (bytes : List ℕ) → IsLow (tag_first bytes)
tag-low [] = tt
tag-low (b ∷ bytes) = by (is_at b)
  where
    by : (at : Bool) → IsLow (cond at (session_first bytes) None)
    by true = first-low bytes
    by false = tt

tag_in-low : (bytes : List ℕ) → IsLow (tag_in bytes)
tag_in-low [] = tt
tag_in-low (b ∷ bytes) = by (is_blank b) (tag_in-low bytes)
  where
    by : (blank : Bool) → IsLow (tag_in bytes) → IsLow (cond blank (tag_in bytes) (tag_first (b ∷ bytes)))
    by true low = low
    by false low = tag-low (b ∷ bytes)

-- each line is of one of eight sessions
pub session-low : (line : List ℕ) → session_of line ≤ 7
session-low line = by (tag_in line) (tag_in-low line)
  where
    by : (tag : Option (ℕ × List ℕ)) → IsLow tag → unwrap_or (named_by tag) 0 ≤ 7
    by None low = omega arith
    by (Some tag) low = low
