-- The number of times of a repeat.
use Rattle.std.proofs.Common.{◌≡◌, ◌⊎◌, ◌<◌, ◌+◌, ◌-◌, ◌*◌, ℕ, nat_eq, true, false, not, ◌&&◌, List, [], ◌∷◌, length, codes, sym, ◌∙◌, arith}
use Rattle.std.proofs.lemmas.Bool.Decides.{nat_tests}
use Rattle.gremlin_parse.specs.Grammar.{most_id}
use Rattle.gremlin_parse.specs.Numbers.{is_digit, are_digits, IsNumber}
use Rattle.gremlin_parse.specs.Symbols.{AnyNumber, AnyTimes, Takes, IsBad}
use Rattle.gremlin_parse.specs.declared.bad_token.BadToken.TheVariants.{WrongTimes}
use Rattle.gremlin_parse.proofs.Runs.{both, turned}
use Rattle.gremlin_parse.proofs.Decimals.{stays_above}

zero_digit : (b : ℕ) → is_digit b ≡ true → 0 * 10 + (b - 48) ≡ 0 → b ≡ 48
zero_digit b is zero = grind (arith, nat_tests)

other_digit : (b : ℕ) → is_digit b ≡ true → nat_eq b 48 ≡ false → 0 < 0 * 10 + (b - 48)
other_digit b is other = grind (arith, nat_tests)

-- The number 0 has one spelling.
pub zero_number : (number : ℕ) (bytes : List ℕ) → IsNumber number bytes → number ≡ 0 → bytes ≡ codes "0"
zero_number number [] is zero = let clash = is.0 in cc
zero_number number (b ∷ []) is zero = let same : b ≡ 48 = zero_digit b is.0 (sym is.1 ∙ zero) in λ i. same i ∷ []
zero_number number (b ∷ c ∷ bytes) is zero =
    let two = both (is_digit b) (not (nat_eq b 48) && are_digits (c ∷ bytes)) is.0 in
    let other = turned (nat_eq b 48) (both (not (nat_eq b 48)) (are_digits (c ∷ bytes)) two.1).0 in
    let above = stays_above 0 (0 * 10 + (b - 48)) (c ∷ bytes) (other_digit b two.0 other) in
    let value = is.1 in
    absurd (omega (arith, above, value, zero))

-- a number of times out of its bounds
pub bad_times : (number left : ℕ) (bytes rest : List ℕ) → Takes (AnyNumber most_id) number bytes rest → (number < 1) ⊎ (16 < number) → left ≡ length bytes
    → IsBad AnyTimes WrongTimes left bytes
bad_times number left bytes rest takes wrong left_is = (
  number,
  wrong,
  rest,
  record {
    prefix = takes.prefix;
    bytes_are = takes.bytes_are;
    is = takes.is;
    ends =
        takes.ends;
  },
  left_is,
)
