-- The texts that are numbers, and those that an option of `run` takes.
use Rattle.std.proofs.Common.{◌≡◌, ◌∙◌, ◌<◌, ◌≤◌, ◌==◌, ◌&&◌, ◌^◌, ℕ, Bool, true, false, cond, refl, sym, ap, subst, arith, List, [], ◌∷◌, None}
use Rattle.std.specs.Prelude.{pos}
use Rattle.std.specs.Str.{bytes_eq}
use Rattle.std.specs.Str.Parse.{IsNumeral, digits_value, starts_with_minus, without_leading_plus}
use Rattle.std.proofs.lemmas.Bool.{eqb-true}
use Rattle.std.proofs.lemmas.Int.{ints}
use Rattle.clap.specs.Kinds.{Kinds, or_else}
use Rattle.clap.specs.Lexer.{long_of, short_of, without_minus}
use Rattle.clap.specs.Values.{IsSignedIn, IsUnsignedIn, refused_kind}
use Rattle.clap.specs.ValueTests.{accepts}
use Rattle.clap.specs.Walk.{Row, Text, has_row}
use Rattle.clap.specs.Faults.{use_fault}
use Rattle.clap.specs.declared.builder.value_parser.ValueParser.TheVariants as parsers
use Rattle.clap.specs.declared.error.kind.ErrorKind.TheVariants.{ArgumentConflict}
use Rattle.clap.proofs.ValueTestLemmas.{Accepts-accepts, accepts-Accepts}
use Rattle.console_words.proofs.Turns.{chosen, escape, least_of, most_of, name_of}

-- the text is a decimal number from low to high
pub record IsNumberIn (low high : ℕ) (text : Text) : Type 0 where
  pub numeral : IsNumeral 10 (without_leading_plus text)
  pub least : low ≤ digits_value 10 (without_leading_plus text)
  pub most : digits_value 10 (without_leading_plus text) ≤ high

-- the text is a number in the option's range
abbrev pub IsOptionText : Bool → Text → Type 0
IsOptionText which text = IsNumberIn (least_of which) (most_of which) text

-- a word that doesn't begin with a hyphen
pub record IsPlainWord (word : Text) : Type 0 where
  pub other : bytes_eq word escape ≡ false
  pub no_long : long_of word ≡ None
  pub no_short : short_of word ≡ None

no_minus : (text : Text) → IsNumeral 10 (without_leading_plus text) → starts_with_minus text ≡ false
no_minus [] h = refl
no_minus (x ∷ xs) h = go (x == 45) refl
  where
    go : (b : Bool) → (x == 45) ≡ b → b ≡ false
    go false e = refl
    go true e =
        let at : IsNumeral 10 (without_leading_plus (45 ∷ xs)) = subst (λ n. IsNumeral 10 (without_leading_plus (n ∷ xs))) (eqb-true x 45 e) h in
        let digit : 36 < 10 = at.1.0 in
        absurd (omega arith)

plain_word : (text : Text) → starts_with_minus text ≡ false → IsPlainWord text
plain_word [] e = record { other = refl; no_long = refl; no_short = refl }
plain_word (x ∷ xs) e = record { other = rw e refl; no_long = rw e refl; no_short = rw e refl }

pub number_is_plain : {low high : ℕ} (text : Text) → IsNumberIn low high text → IsPlainWord text
number_is_plain text t = plain_word text (no_minus text t.numeral)

-- the text that a typed getter reads
pub without_minus-text : {low high : ℕ} (text : Text) → IsNumberIn low high text → without_minus text ≡ text
without_minus-text text t = go text (no_minus text t.numeral)
  where
    go : (text : Text) → starts_with_minus text ≡ false → without_minus text ≡ text
    go [] e = refl
    go (x ∷ xs) e = rw e refl

pub signed_from : (low high : ℕ) (text : Text) → 0 < low → IsSignedIn (pos low) (pos high) text → IsNumberIn low high text
signed_from low high text some h = go (starts_with_minus text) refl
  where
    go : (b : Bool) → starts_with_minus text ≡ b → IsNumberIn low high text
    go true minus =
        let low_ok = rw minus at h.2 in
        absurd (omega (arith, ints))
    go false minus =
        let numeral_ok = rw minus at h.0 in
        let low_ok = rw minus at h.2 in
        let high_ok = rw minus at h.3 in
        record { numeral = numeral_ok; least = omega (arith, ints); most = omega (arith, ints) }

pub signed_back : (low high : ℕ) (text : Text) → high < 2 ^ 63 → IsNumberIn low high text → IsSignedIn (pos low) (pos high) text
signed_back low high text small t =
    let minus = no_minus text t.numeral in
    let low_ok = t.least in
    let high_ok = t.most in
    rw minus (t.numeral, record { sfits = omega arith }, omega (arith, ints), omega (arith, ints))

pub unsigned_from : (low high : ℕ) (text : Text) → IsUnsignedIn low high text → IsNumberIn low high text
unsigned_from low high text h = record { numeral = h.0; least = h.2; most = h.3 }

pub unsigned_back : (low high : ℕ) (text : Text) → high < 2 ^ 64 → IsNumberIn low high text → IsUnsignedIn low high text
unsigned_back low high text small t =
    let most = t.most in
    (t.numeral, omega arith, t.least, t.most)

positive : (which : Bool) → 0 < least_of which
positive true = omega arith
positive false = omega arith

small : (which : Bool) → most_of which < 2 ^ 63
small true = omega arith
small false = omega arith

abbrev takes_text : Bool → Text → Bool
takes_text which text = accepts false (parsers.Signed (pos (least_of which)) (pos (most_of which))) text

abbrev fault_by : Bool → Bool → Bool → Kinds
fault_by which again fits = or_else (cond (again && true) (ArgumentConflict ∷ []) [])
    (or_else (cond fits [] (refused_kind (parsers.Signed (pos (least_of which)) (pos (most_of which))) ∷ [])) [])

use_fault_is : (which : Bool) (rows : List Row) (text : Text) → use_fault false (chosen which) (text ∷ []) rows ≡ fault_by which (has_row (name_of which) rows)
    (takes_text which text)
use_fault_is true rows text = refl
use_fault_is false rows text = refl

-- what a use that passes tells
pub record Fits (which : Bool) (rows : List Row) (text : Text) : Type 0 where
  pub is_first : has_row (name_of which) rows ≡ false
  pub is_text : IsOptionText which text

pub use_fits : (which : Bool) (rows : List Row) (text : Text) → use_fault false (chosen which) (text ∷ []) rows ≡ [] → Fits which rows text
use_fits which rows text e = go (has_row (name_of which) rows) (takes_text which text) refl refl (sym (use_fault_is which rows text) ∙ e)
  where
    go : (again fits : Bool) → has_row (name_of which) rows ≡ again → takes_text which text ≡ fits → fault_by which again fits ≡ [] → Fits which rows text
    go true fits f g h = cc
    go false false f g h = cc
    go false true f g h = record {
      is_first = f;
      is_text = signed_from (least_of which) (most_of which) text (positive which) (accepts-Accepts false
          (parsers.Signed (pos (least_of which)) (pos (most_of which))) text g);
    }

pub use_text : (which : Bool) (rows : List Row) (text : Text) → use_fault false (chosen which) (text ∷ []) rows ≡ [] → IsOptionText which text
use_text which rows text e = (use_fits which rows text e).is_text

pub use_from : (which : Bool) (rows : List Row) (text : Text) → has_row (name_of which) rows ≡ false → IsOptionText which text
    → use_fault false (chosen which) (text ∷ []) rows ≡ []
use_from which rows text first t =
    let fits = Accepts-accepts false (parsers.Signed (pos (least_of which)) (pos (most_of which))) text
    (signed_back (least_of which) (most_of which) text (small which) t) in
    use_fault_is which rows text ∙ (ap (λ b. fault_by which b (takes_text which text)) first ∙ ap (fault_by which false) fits)
