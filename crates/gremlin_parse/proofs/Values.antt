-- Values that stand whole: each in one way, told apart by their first byte; and where reading stops in one.
use Rattle.std.proofs.Common.{◌≡◌, ◌≤◌, inl, inr, ℕ, ◌||◌, eqb, get_or, Bool, true, false, List, [], ◌∷◌, ◌++◌, length}
use Rattle.std.proofs.Common.{refl, sym, ap, ◌∙◌, subst, append_assoc, arith}
use Rattle.std.proofs.lemmas.Bool.Decides.{nat_tests}
use Rattle.std.proofs.lemmas.Bool.{true≢false}
use Rattle.plain_graph.specs.Names.{is_name_byte, is_name_start}
use Rattle.plain_graph.specs.declared.value.Value.{Value}
use Rattle.plain_graph.specs.declared.value.Value.TheVariants as values
use Rattle.gremlin_parse.specs.Numbers.{is_digit}
use Rattle.gremlin_parse.specs.Values.{is_quote, truth_word, ArePieces, IsWritten, unescaped}
use Rattle.gremlin_parse.specs.Faults.{EndsRun, EndsValue, IsBadValue}
use Rattle.gremlin_parse.specs.Reading.{first_byte, Passes, StartsNumber}
use Rattle.gremlin_parse.specs.Texts.{ReadsQuoted}
use Rattle.gremlin_parse.specs.Keywords.{LeavesTable}
use Rattle.gremlin_parse.specs.Symbols.{AnyValue, Takes, Leaves, LeavesInteger, EndsWritten, is_integer_start, truth_words}
use Rattle.gremlin_parse.specs.Stopping.{StopsWith}
use Rattle.gremlin_parse.specs.declared.bad_token.BadToken.{BadToken}
use Rattle.gremlin_parse.specs.declared.bad_token.BadToken.TheVariants.{LongName, LongText, WideNumber, WrongTimes, UnfitStep, LateStep}
use Rattle.gremlin_parse.specs.declared.stop.Stop.{Stop}
use Rattle.gremlin_parse.specs.declared.stop.Stop.TheVariants as stops
use Rattle.gremlin_parse.proofs.Runs.{run_is_unique, EndsRun-first_byte}
use Rattle.gremlin_parse.proofs.Decimals.{number_starts}
use Rattle.gremlin_parse.proofs.Tables.{word_passes}
use Rattle.gremlin_parse.proofs.Texts.{one_text}
use Rattle.gremlin_parse.proofs.Integers.{one_integer, zero_fits}

-- ---- the first byte of a value

-- the bytes with which a value of this kind begins
abbrev pub starts_kind : Value → ℕ → Bool
starts_kind (values.Int number) b = is_integer_start b
starts_kind (values.Bool truth) b = is_name_start b
starts_kind (values.Text text) b = is_quote b

abbrev pub StartsKind : Value → List ℕ → Type 0
StartsKind value [] = ⊥
StartsKind value (b ∷ bytes) = starts_kind value b ≡ true

-- a value before any bytes
pub value_starts : (value : Value) (prefix rest : List ℕ) → IsWritten value prefix → StartsKind value (prefix ++ rest)
value_starts (values.Int number) prefix rest (inl (size, is, digits)) = digits_start (prefix ++ rest) (number_starts prefix rest digits.0)
  where
    digits_start : (bytes : List ℕ) → StartsNumber bytes → StartsKind (values.Int number) bytes
    digits_start [] starts = starts
    digits_start (b ∷ bytes) starts = ap (λ t. t || eqb b 45) starts
value_starts (values.Int number) prefix rest (inr (size, digits, is, minus, digits_are)) =
    subst (λ p. StartsKind (values.Int number) (p ++ rest)) (sym minus) refl
value_starts (values.Bool true) prefix rest is = subst (λ p. StartsKind (values.Bool true) (p ++ rest)) (sym is) refl
value_starts (values.Bool false) prefix rest is = subst (λ p. StartsKind (values.Bool false) (p ++ rest)) (sym is) refl
value_starts (values.Text text) prefix rest (quote, inside, is, whole, pieces) = subst (λ p. StartsKind (values.Text text) (p ++ rest)) (sym whole) is

pub integer_no_name : (b : ℕ) → is_integer_start b ≡ true → is_name_start b ≡ true → ⊥
integer_no_name b one two = grind (arith, nat_tests)

pub integer_no_quote : (b : ℕ) → is_integer_start b ≡ true → is_quote b ≡ true → ⊥
integer_no_quote b one two = grind (arith, nat_tests)

pub name_no_quote : (b : ℕ) → is_name_start b ≡ true → is_quote b ≡ true → ⊥
name_no_quote b one two = grind (arith, nat_tests)

-- the two values are of one kind
abbrev pub SameKind : Value → Value → Type 0
SameKind (values.Int number) (values.Int other) = Unit {0}
SameKind (values.Bool truth) (values.Bool other) = Unit {0}
SameKind (values.Text text) (values.Text other) = Unit {0}
SameKind _ _ = ⊥

same_kind : (value other : Value) (b : ℕ) → starts_kind value b ≡ true → starts_kind other b ≡ true → SameKind value other
same_kind (values.Int number) (values.Int other) b one two = tt
same_kind (values.Int number) (values.Bool other) b one two = integer_no_name b one two
same_kind (values.Int number) (values.Text other) b one two = integer_no_quote b one two
same_kind (values.Bool truth) (values.Int other) b one two = integer_no_name b two one
same_kind (values.Bool truth) (values.Bool other) b one two = tt
same_kind (values.Bool truth) (values.Text other) b one two = name_no_quote b one two
same_kind (values.Text text) (values.Int other) b one two = integer_no_quote b two one
same_kind (values.Text text) (values.Bool other) b one two = name_no_quote b two one
same_kind (values.Text text) (values.Text other) b one two = tt

-- Two values that begin with one byte are of one kind.
pub kind_of_start : (value other : Value) (bytes : List ℕ) → StartsKind value bytes → StartsKind other bytes → SameKind value other
kind_of_start value other [] one two = absurd one
kind_of_start value other (b ∷ bytes) one two = same_kind value other b one two

-- ---- true and false

pub truth_passes : (truth : Bool) → Passes is_name_byte (truth_word truth)
truth_passes true = word_passes (truth_word true) refl
truth_passes false = word_passes (truth_word false) refl

same_truth : (truth other : Bool) → truth_word truth ≡ truth_word other → truth ≡ other
same_truth true true same = refl
same_truth true false same = cc
same_truth false true same = cc
same_truth false false same = refl

one_truth : (truth other : Bool) (bytes rest more : List ℕ) → Takes AnyValue (values.Bool truth) bytes rest → Takes AnyValue (values.Bool other) bytes more
    → (truth ≡ other) × (rest ≡ more)
one_truth truth other bytes rest more one two =
    let same = run_is_unique is_name_byte one.prefix two.prefix rest more (subst (Passes is_name_byte) (sym one.is) (truth_passes truth))
    (subst (Passes is_name_byte) (sym two.is) (truth_passes other)) one.ends two.ends (sym one.bytes_are ∙ two.bytes_are) in
    (same_truth truth other (sym one.is ∙ same.0 ∙ two.is), same.1)

-- ---- texts

-- a text that stands whole, by its quote
pub record TextView (text bytes rest : List ℕ) : Type 0 where
  pub quote : ℕ
  pub inside : List ℕ
  pub is : is_quote quote ≡ true
  pub bytes_are : bytes ≡ quote ∷ (inside ++ quote ∷ rest)
  pub pieces : ArePieces quote text inside

-- a text's bytes before others
pub quoted_bytes : (quote : ℕ) (inside rest : List ℕ) → (quote ∷ (inside ++ quote ∷ [])) ++ rest ≡ quote ∷ (inside ++ quote ∷ rest)
quoted_bytes quote inside rest = ap (λ b. quote ∷ b) (append_assoc inside (quote ∷ []) rest)

pub text_view : (text bytes rest : List ℕ) → Takes AnyValue (values.Text text) bytes rest → TextView text bytes rest
text_view text bytes rest takes =
    let (quote, inside, is, prefix_is, pieces) = takes.is in
    record {
      quote = quote;
      inside = inside;
      is = is;
      bytes_are = takes.bytes_are ∙ ap (λ p. p ++ rest) prefix_is ∙ quoted_bytes quote inside rest;
      pieces =
          pieces;
    }

-- the text that was read
pub takes_text : (quote : ℕ) (inside : List ℕ) (len : ℕ) (after rest : List ℕ) → is_quote quote ≡ true → ReadsQuoted quote inside len after rest
    → Takes AnyValue (values.Text (unescaped inside)) (quote ∷ after) rest
takes_text quote inside len after rest is reads = record {
  prefix = quote ∷ (inside ++ quote ∷ []);
  bytes_are = ap (λ b. quote ∷ b) reads.bytes_are ∙ sym (quoted_bytes quote inside rest);
  is = (quote, inside, is, refl, reads.pieces);
  ends = tt;
}

one_quoted : (text other bytes rest more : List ℕ) → Takes AnyValue (values.Text text) bytes rest → Takes AnyValue (values.Text other) bytes more
    → (text ≡ other) × (rest ≡ more)
one_quoted text other bytes rest more takes taken =
    let one = text_view text bytes rest takes in
    let two = text_view other bytes more taken in
    let here : one.quote ∷ (one.inside ++ one.quote ∷ rest) ≡ two.quote ∷ (two.inside ++ two.quote ∷ more) = sym one.bytes_are ∙ two.bytes_are in
    let quotes : two.quote ≡ one.quote = cc in
    let tails : one.inside ++ one.quote ∷ rest ≡ two.inside ++ two.quote ∷ more = cc in
    let whole : one.inside ++ one.quote ∷ rest ≡ two.inside ++ one.quote ∷ more = tails ∙ ap (λ q. two.inside ++ q ∷ more) quotes in
    one_text one.quote one.is text one.inside other two.inside rest more one.pieces (subst (λ q. ArePieces q other two.inside) quotes two.pieces) whole

-- ---- one way

-- The value that stands whole at the head is the only one.
pub one_value : (value other : Value) (bytes rest more : List ℕ) → Takes AnyValue value bytes rest → Takes AnyValue other bytes more → (value ≡ other)
    × (rest ≡ more)
one_value value other bytes rest more one two =
    let starts : StartsKind value bytes = subst (StartsKind value) (sym one.bytes_are) (value_starts value one.prefix rest one.is) in
    let others : StartsKind other bytes = subst (StartsKind other) (sym two.bytes_are) (value_starts other two.prefix more two.is) in
    of_kind value other (kind_of_start value other bytes starts others) one two
  where
    of_kind : (value other : Value) → SameKind value other → Takes AnyValue value bytes rest → Takes AnyValue other bytes more → (value ≡ other) × (rest ≡ more)
    of_kind (values.Int number) (values.Int other) same one two = let found = one_integer number other bytes rest more one two in
        (ap (λ z. values.Int z) found.0, found.1)
    of_kind (values.Int number) (values.Bool other) same one two = absurd same
    of_kind (values.Int number) (values.Text other) same one two = absurd same
    of_kind (values.Bool truth) (values.Int other) same one two = absurd same
    of_kind (values.Bool truth) (values.Bool other) same one two = let found = one_truth truth other bytes rest more one two in
        (ap (λ t. values.Bool t) found.0, found.1)
    of_kind (values.Bool truth) (values.Text other) same one two = absurd same
    of_kind (values.Text text) (values.Int other) same one two = absurd same
    of_kind (values.Text text) (values.Bool other) same one two = absurd same
    of_kind (values.Text text) (values.Text other) same one two = let found = one_quoted text other bytes rest more one two in
        (ap (λ t. values.Text t) found.0, found.1)

-- what ends a value depends on the first byte only
pub EndsWritten-first_byte : (value : Value) (prefix rest more : List ℕ) → first_byte more ≡ first_byte rest → EndsWritten value prefix rest
    → EndsWritten value prefix more
EndsWritten-first_byte (values.Int number) prefix rest more same (inl zero_is) = inl zero_is
EndsWritten-first_byte (values.Int number) prefix rest more same (inr (inl minus)) = inr (inl minus)
EndsWritten-first_byte (values.Int number) prefix rest more same (inr (inr stops)) = inr (inr (EndsRun-first_byte is_digit rest more same stops))
EndsWritten-first_byte (values.Bool truth) prefix rest more same ends = EndsRun-first_byte is_name_byte rest more same ends
EndsWritten-first_byte (values.Text text) prefix rest more same ends = tt

digit_is_name_byte : (b : ℕ) → is_name_byte b ≡ false → is_digit b ≡ false
digit_is_name_byte b fails = grind (arith, nat_tests)

-- What begins with no byte of a name ends a value.
pub ends_value : (value : Value) (prefix rest : List ℕ) → EndsRun is_name_byte rest → EndsWritten value prefix rest
ends_value (values.Int number) prefix [] ends = inr (inr tt)
ends_value (values.Int number) prefix (b ∷ rest) ends = inr (inr (digit_is_name_byte b ends))
ends_value (values.Bool truth) prefix rest ends = ends
ends_value (values.Text text) prefix rest ends = tt

-- What ends a value that is out of its bounds ends it as a token, too.
pub bad_value_ends : (value : Value) (kind : BadToken) (prefix rest : List ℕ) → IsWritten value prefix → IsBadValue value kind → EndsWritten value prefix rest
    → EndsValue value rest
bad_value_ends (values.Int number) LongName prefix rest written bad ends = absurd bad
bad_value_ends (values.Int number) LongText prefix rest written bad ends = absurd bad
bad_value_ends (values.Int number) WrongTimes prefix rest written bad ends = absurd bad
bad_value_ends (values.Int number) UnfitStep prefix rest written bad ends = absurd bad
bad_value_ends (values.Int number) LateStep prefix rest written bad ends = absurd bad
bad_value_ends (values.Int number) WideNumber prefix rest written bad (inl zero_is) = absurd (bad (zero_fits number prefix written (inl zero_is)))
bad_value_ends (values.Int number) WideNumber prefix rest written bad (inr (inl minus)) = absurd (bad (zero_fits number prefix written (inr minus)))
bad_value_ends (values.Int number) WideNumber prefix rest written bad (inr (inr stops)) = stops
bad_value_ends (values.Bool truth) kind prefix rest written bad ends = absurd bad
bad_value_ends (values.Text text) kind prefix rest written bad ends = tt

pub value_ends_token : (value : Value) (prefix rest : List ℕ) → EndsValue value rest → EndsWritten value prefix rest
value_ends_token (values.Int number) prefix rest ends = inr (inr ends)
value_ends_token (values.Bool truth) prefix rest ends = absurd ends
value_ends_token (values.Text text) prefix rest ends = tt

-- ---- what the readers have read

-- Where a number begins and doesn't go on, no value goes on.
pub integer_leaves : (bytes : List ℕ) (stop : Stop) → 1 ≤ length bytes → is_integer_start (get_or bytes 0 0) ≡ true → LeavesInteger bytes stop
    → Leaves AnyValue bytes stop
integer_leaves bytes stops.Memory some starts leaves = absurd leaves
integer_leaves bytes (stops.Syntax left) some starts (inl negative) = inl negative
integer_leaves [] (stops.Syntax left) some starts (inr (left_is, none)) = absurd (omega arith)
integer_leaves (b ∷ bytes) (stops.Syntax left) some starts (inr (left_is, none)) = let clash : true ≡ false = sym starts ∙ none in absurd (true≢false clash)
integer_leaves bytes (stops.Bad kind left) some starts leaves = leaves

-- Where no number and no text begins, and no word of the two stands, no value goes on.
pub truth_leaves : (bytes : List ℕ) (stop : Stop) → 1 ≤ length bytes → is_quote (get_or bytes 0 0) ≡ false → is_integer_start (get_or bytes 0 0) ≡ false
    → StopsWith (LeavesTable truth_words bytes) stop → Leaves AnyValue bytes stop
truth_leaves bytes stops.Memory some quoteless numberless leaves = absurd leaves
truth_leaves [] (stops.Syntax left) some quoteless numberless leaves = absurd (omega arith)
truth_leaves (b ∷ bytes) (stops.Syntax left) some quoteless numberless leaves = inr (inr (numberless, quoteless, leaves))
truth_leaves bytes (stops.Bad kind left) some quoteless numberless leaves = absurd leaves
