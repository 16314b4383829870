-- Numbers of values, with a minus or without: they stand whole in one way, and fit 64 bits or don't.
use Rattle.std.proofs.Common.{◌≡◌, ◌≤◌, ◌<◌, ◌⊎◌, inl, inr, ℕ, suc, zero, true, false, List, ◌∷◌, ◌++◌, length, get_or}
use Rattle.std.proofs.Common.{codes, ℤ, pos, neg_ℤ, refl, sym, ap, ◌∙◌, subst, arith}
use Rattle.std.specs.Int.RustNames.{FitsSigned}
use mir.Syntax.{w64}
use Rattle.plain_graph.specs.declared.value.Value.TheVariants as values
use Rattle.gremlin_parse.specs.Grammar.{most_id}
use Rattle.gremlin_parse.specs.Numbers.{is_digit, is_number, value_after}
use Rattle.gremlin_parse.specs.Values.{IsInteger}
use Rattle.gremlin_parse.specs.Faults.{EndsRun}
use Rattle.gremlin_parse.specs.Reading.{StartsNumber}
use Rattle.gremlin_parse.specs.Symbols.{AnyNumber, AnyValue, Takes, Reads, IsBad}
use Rattle.gremlin_parse.specs.declared.bad_token.BadToken.TheVariants.{WideNumber}
use Rattle.gremlin_parse.proofs.Decimals.{number_starts, one_number}

-- digits without a minus
pub plain_integer : (size : ℕ) (bytes rest : List ℕ) → Takes (AnyNumber most_id) size bytes rest → Takes AnyValue (values.Int (pos size)) bytes rest
plain_integer size bytes rest takes = record {
  prefix = takes.prefix;
  bytes_are = takes.bytes_are;
  is = inl (size, refl, takes.is);
  ends = plain_ends takes.ends;
}
  where
    plain_ends : (takes.prefix ≡ codes "0") ⊎ EndsRun is_digit rest → (takes.prefix ≡ codes "0") ⊎ (takes.prefix ≡ codes "-0") ⊎ EndsRun is_digit rest
    plain_ends (inl zero_is) = inl zero_is
    plain_ends (inr stops) = inr (inr stops)

-- a minus and digits
pub negative_integer : (size : ℕ) (digits rest : List ℕ) → Takes (AnyNumber most_id) size digits rest
    → Takes AnyValue (values.Int (neg_ℤ (pos size))) (45 ∷ digits) rest
negative_integer size digits rest takes = record {
  prefix = 45 ∷ takes.prefix;
  bytes_are = ap (λ d. 45 ∷ d) takes.bytes_are;
  is = inr
      (size, takes.prefix, refl, refl, takes.is);
  ends = negative_ends takes.ends;
}
  where
    negative_ends : (takes.prefix ≡ codes "0") ⊎ EndsRun is_digit rest → (45 ∷ takes.prefix ≡ codes "0") ⊎ (45 ∷ takes.prefix ≡ codes "-0")
        ⊎ EndsRun is_digit rest
    negative_ends (inl zero_is) = inr (inl (ap (λ d. 45 ∷ d) zero_is))
    negative_ends (inr stops) = inr (inr stops)

-- ---- one way

-- The number that stands there is the digits at the head, or a minus and the digits after it.
abbrev pub IntegerView : ℤ → List ℕ → List ℕ → Type 0
IntegerView number bytes rest =
    ((size : ℕ) × (number ≡ pos size) × Takes (AnyNumber most_id) size bytes rest)
    ⊎ ((size : ℕ) × (digits : List ℕ) × (number ≡ neg_ℤ (pos size)) × (bytes ≡ 45 ∷ digits) × Takes (AnyNumber most_id) size digits rest)

pub integer_view : (number : ℤ) (bytes rest : List ℕ) → Takes AnyValue (values.Int number) bytes rest → IntegerView number bytes rest
integer_view number bytes rest takes = view takes.is takes.ends
  where
    view : IsInteger number takes.prefix → (takes.prefix ≡ codes "0") ⊎ (takes.prefix ≡ codes "-0") ⊎ EndsRun is_digit rest → IntegerView number bytes rest
    view (inl (size, is, digits)) (inl zero_is) = inl (size, is, record { prefix = takes.prefix; bytes_are = takes.bytes_are; is = digits; ends = inl zero_is })
    view (inl (size, is, digits)) (inr (inl minus)) = let clash : true ≡ false = sym digits.0 ∙ ap is_number minus in cc
    view (inl (size, is, digits)) (inr (inr stops)) = inl (
      size,
      is,
      record {
        prefix = takes.prefix;
        bytes_are = takes.bytes_are;
        is = digits;
        ends = inr stops;
      },
    )
    view (inr (size, digits, is, prefix_is, number_is)) (inl zero_is) = let clash : false ≡ true =
        ap (λ bytes. is_digit (get_or bytes 0 0)) (sym prefix_is ∙ zero_is) in cc
    view (inr (size, digits, is, prefix_is, number_is)) (inr (inl minus)) =
        let same : 45 ∷ digits ≡ codes "-0" = sym prefix_is ∙ minus in
        inr (
          size,
          digits ++ rest,
          is,
          takes.bytes_are ∙ ap (λ p. p ++ rest) prefix_is,
          record {
            prefix = digits;
            bytes_are = refl;
            is = number_is;
            ends = inl
                cc;
          },
        )
    view (inr (size, digits, is, prefix_is, number_is)) (inr (inr stops)) =
        inr (
          size,
          digits ++ rest,
          is,
          takes.bytes_are ∙ ap (λ p. p ++ rest) prefix_is,
          record {
            prefix = digits;
            bytes_are = refl;
            is = number_is;
            ends = inr
                stops;
          },
        )

-- No digits begin with a minus.
pub minus_no_digit : (size : ℕ) (bytes digits rest : List ℕ) → Takes (AnyNumber most_id) size bytes rest → bytes ≡ 45 ∷ digits → ⊥
minus_no_digit size bytes digits rest takes minus =
    let starts : StartsNumber (45 ∷ digits) = subst StartsNumber (sym takes.bytes_are ∙ minus) (number_starts takes.prefix rest takes.is.0) in
    let clash : false ≡ true = starts in cc

-- The number that stands whole at the head is the only one.
pub one_integer : (number other : ℤ) (bytes rest more : List ℕ) → Takes AnyValue (values.Int number) bytes rest → Takes AnyValue (values.Int other) bytes more
    → (number ≡ other) × (rest ≡ more)
one_integer number other bytes rest more one two = both (integer_view number bytes rest one) (integer_view other bytes more two)
  where
    both : IntegerView number bytes rest → IntegerView other bytes more → (number ≡ other) × (rest ≡ more)
    both (inl (size, is, takes)) (inl (second, is_other, taken)) =
        let same = one_number size second bytes rest more takes taken in
        (is ∙ ap (λ n. pos n) same.0 ∙ sym is_other, same.1)
    both (inl (size, is, takes)) (inr (second, digits, is_other, minus, taken)) = absurd (minus_no_digit size bytes digits rest takes minus)
    both (inr (size, digits, is, minus, takes)) (inl (second, is_other, taken)) = absurd (minus_no_digit second bytes digits more taken minus)
    both (inr (size, digits, is, minus, takes)) (inr (second, others, is_other, minus_other, taken)) =
        let heads : 45 ∷ digits ≡ 45 ∷ others = sym minus ∙ minus_other in
        let tails : others ≡ digits = cc in
        let same = one_number size second digits rest more takes (subst (λ d. Takes (AnyNumber most_id) second d more) tails taken) in
        (is ∙ ap (λ n. neg_ℤ (pos n)) same.0 ∙ sym is_other, same.1)

-- ---- the range

fits_plain : (size : ℕ) → size ≤ 9223372036854775807 → FitsSigned w64 (pos size)
fits_plain size within = record { sfits = omega arith }

fits_negative : (size : ℕ) → size ≤ 9223372036854775808 → FitsSigned w64 (neg_ℤ (pos size))
fits_negative zero within = record { sfits = omega arith }
fits_negative (suc size) within = record { sfits = omega arith }

-- 0 is in the range, with a minus or without.
pub zero_fits : (number : ℤ) (bytes : List ℕ) → IsInteger number bytes → (bytes ≡ codes "0") ⊎ (bytes ≡ codes "-0") → FitsSigned w64 number
zero_fits number bytes (inl (size, is, digits)) (inl zero_is) = subst (FitsSigned w64) (sym (is ∙ ap (λ n. pos n) (digits.1 ∙ ap (value_after 0) zero_is)))
    (fits_plain 0 (omega arith))
zero_fits number bytes (inl (size, is, digits)) (inr minus) = let clash : true ≡ false = sym digits.0 ∙ ap is_number minus in cc
zero_fits number bytes (inr (size, digits, is, minus, digits_are)) (inl zero_is) = let clash : false ≡ true =
    ap (λ bytes. is_digit (get_or bytes 0 0)) (sym minus ∙ zero_is) in cc
zero_fits number bytes (inr (size, digits, is, minus, digits_are)) (inr minus_zero) =
    let same : 45 ∷ digits ≡ codes "-0" = sym minus ∙ minus_zero in
    let zero_is : digits ≡ codes "0" = cc in
    subst (FitsSigned w64) (sym (is ∙ ap (λ n. neg_ℤ (pos n)) (digits_are.1 ∙ ap (value_after 0) zero_is))) (fits_negative 0 (omega arith))

wide_plain : (size : ℕ) → 9223372036854775807 < size → ¬ FitsSigned w64 (pos size)
wide_plain size above = λ fits. let less = fits.sfits in absurd (omega arith)

wide_negative : (size : ℕ) → 9223372036854775808 < size → ¬ FitsSigned w64 (neg_ℤ (pos size))
wide_negative zero above = absurd (omega arith)
wide_negative (suc size) above = λ fits. let less = fits.sfits in absurd (omega arith)

-- ---- what the readers have read

pub reads_negative : (number : ℤ) (size value : ℕ) (digits rest : List ℕ) → number ≡ neg_ℤ (pos size) → size ≡ value → size ≤ 9223372036854775808
    → Takes (AnyNumber most_id) value digits rest → Reads AnyValue (values.Int number) (45 ∷ digits) rest
reads_negative number size value digits rest is same within takes =
    let here : Takes (AnyNumber most_id) size digits rest = subst (λ n. Takes (AnyNumber most_id) n digits rest) (sym same) takes in
    subst (λ (z : ℤ). Reads AnyValue (values.Int z) (45 ∷ digits) rest) (sym is)
    (record { takes = negative_integer size digits rest here; allowed = tt; bounded = fits_negative size within })

pub bad_plain : (size left : ℕ) (bytes rest : List ℕ) → Takes (AnyNumber most_id) size bytes rest → 9223372036854775807 < size → left ≡ length bytes
    → IsBad AnyValue WideNumber left bytes
bad_plain size left bytes rest takes above left_is = (values.Int (pos size), wide_plain size above, rest, plain_integer size bytes rest takes, left_is)

pub bad_negative : (size left : ℕ) (digits rest : List ℕ) → Takes (AnyNumber most_id) size digits rest → 9223372036854775808 < size
    → left ≡ length (45 ∷ digits) → IsBad AnyValue WideNumber left (45 ∷ digits)
bad_negative size left digits rest takes above left_is = (
  values.Int (neg_ℤ (pos size)),
  wide_negative size above,
  rest,
  negative_integer size digits rest
      takes,
  left_is,
)

-- a number above the greatest one
pub bad_number : (most size left : ℕ) (bytes rest : List ℕ) → Takes (AnyNumber most_id) size bytes rest → most < size → left ≡ length bytes
    → IsBad (AnyNumber most) WideNumber left bytes
bad_number most size left bytes rest takes above left_is = (
  size,
  above,
  rest,
  record {
    prefix = takes.prefix;
    bytes_are = takes.bytes_are;
    is = takes.is;
    ends = takes.ends;
  },
  left_is,
)
