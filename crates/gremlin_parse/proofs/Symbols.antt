-- Each symbol of a production: it stands whole in one way, and what may follow it is told by a byte.
use Rattle.std.proofs.Common.{◌≡◌, ◌≢◌, ◌<◌, inl, inr, ℕ, Bool, true, false, not, ◌&&◌, Some, None, List, [], ◌∷◌, ◌++◌}
use Rattle.std.proofs.Common.{codes, pos, refl, sym, ap, ◌∙◌, subst, ⊎_elim, append_assoc, arith}
use Rattle.std.proofs.lemmas.List.{append_cancel_left}
use Rattle.std.proofs.lemmas.Bool.Decides.{nat_tests}
use Rattle.plain_graph.specs.Names.{IsName, is_name_byte, is_name_start}
use Rattle.gremlin_parse.specs.Numbers.{is_digit}
use Rattle.plain_graph.specs.declared.value.Value.{Value}
use Rattle.plain_graph.specs.declared.value.Value.TheVariants as values
use Rattle.gremlin_parse.specs.Grammar.{Part, Blanks, Gap, Exactly, Name, Number, Times, Written, Closed, Called}
use Rattle.gremlin_parse.specs.Grammar.{quote_byte, IsPart, IsBounded, AreBlanks, is_blank}
use Rattle.gremlin_parse.specs.Faults.{EndsRun, IsOutOfBounds}
use Rattle.gremlin_parse.specs.Reading.{first_byte, Passes, Then, StartsName, StartsNumber}
use Rattle.gremlin_parse.specs.Keywords.{Entry, InTable, plain}
use Rattle.gremlin_parse.specs.Symbols.{Symbol, AnyBlanks, AnyGap, Sign, OneWord, AnyName, AnyNumber, AnyTimes}
use Rattle.gremlin_parse.specs.Symbols.{AnyValue, AnyClosed, Content, part, Allows, Ends, Takes, IsBad}
use Rattle.gremlin_parse.specs.declared.bad_token.BadToken.{BadToken}
use Rattle.gremlin_parse.specs.declared.bad_token.BadToken.TheVariants.{LongName, LongText, WideNumber, WrongTimes, UnfitStep, LateStep}
use Rattle.gremlin_parse.proofs.Runs.{both, turned, Halts, run_is_unique, EndsRun-first_byte}
use Rattle.gremlin_parse.proofs.Names.{name_start_is_no_blank, blank_is_no_name_byte, IsName-passes, name_starts}
use Rattle.gremlin_parse.proofs.Decimals.{one_number, number_starts}
use Rattle.gremlin_parse.proofs.Tables.{is_word, word_passes}
use Rattle.gremlin_parse.proofs.Values.{StartsKind, starts_kind, value_starts, one_value, EndsWritten-first_byte, ends_value}

-- ---- one way

unit : (content other : Unit {0}) → content ≡ other
unit content other = refl

quote_is_no_name_byte : (double : Bool) → is_name_byte (quote_byte double) ≡ false
quote_is_no_name_byte true = refl
quote_is_no_name_byte false = refl

pub closed_bytes : (double : Bool) (name bytes prefix rest : List ℕ) → prefix ≡ name ++ quote_byte double ∷ [] → bytes ≡ prefix ++ rest
    → bytes ≡ name ++ quote_byte double ∷ rest
closed_bytes double name bytes prefix rest is whole = whole ∙ ap (λ p. p ++ rest) is ∙ append_assoc name (quote_byte double ∷ []) rest

-- A name before a closing quote is the run of name bytes.
pub closed_run : (double : Bool) (name run rest more : List ℕ) → IsName name → IsName run → EndsRun is_name_byte more
    → name ++ quote_byte double ∷ rest ≡ run ++ more → (name ≡ run) × (quote_byte double ∷ rest ≡ more)
closed_run double name run rest more is runs ends whole = run_is_unique is_name_byte name run (quote_byte double ∷ rest) more (IsName-passes name is)
    (IsName-passes run runs) (quote_is_no_name_byte double) ends whole

closed_unique : (double : Bool) (name other rest more : List ℕ) → IsName name → IsName other
    → name ++ quote_byte double ∷ rest ≡ other ++ quote_byte double ∷ more → (name ≡ other) × (rest ≡ more)
closed_unique double name other rest more is others whole =
    let same = closed_run double name other rest (quote_byte double ∷ more) is others (quote_is_no_name_byte double) whole in
    (same.0, tails (quote_byte double) rest more same.1)
  where
    tails : (b : ℕ) (rest more : List ℕ) → b ∷ rest ≡ b ∷ more → rest ≡ more
    tails b rest more same = cc

-- The symbol that stands whole at the head has one content, and one rest.
pub takes_unique : (symbol : Symbol) (content other : Content symbol) (bytes rest more : List ℕ) → Takes symbol content bytes rest
    → Takes symbol other bytes more → (content ≡ other) × (rest ≡ more)
takes_unique AnyBlanks content other bytes rest more one two =
    (unit content other, (run_is_unique is_blank one.prefix two.prefix rest more one.is two.is one.ends two.ends (sym one.bytes_are ∙ two.bytes_are)).1)
takes_unique AnyGap content other bytes rest more one two =
    (unit content other, (run_is_unique is_blank one.prefix two.prefix rest more one.is.0 two.is.0 one.ends two.ends (sym one.bytes_are ∙ two.bytes_are)).1)
takes_unique (Sign sign) content other bytes rest more one two =
    (unit content other, append_cancel_left sign rest more (ap (λ w. w ++ rest) (sym one.is) ∙ sym one.bytes_are ∙ two.bytes_are ∙ ap (λ w. w ++ more) two.is))
takes_unique (OneWord words) word other bytes rest more one two =
    let same = run_is_unique is_name_byte one.prefix two.prefix rest more one.ends.0 two.ends.0 one.ends.1 two.ends.1 (sym one.bytes_are ∙ two.bytes_are) in
    (sym one.is ∙ same.0 ∙ two.is, same.1)
takes_unique AnyName name other bytes rest more one two =
    let passes : Passes is_name_byte one.prefix = IsName-passes one.prefix (subst IsName (sym one.is.0) one.is.1) in
    let others : Passes is_name_byte two.prefix = IsName-passes two.prefix (subst IsName (sym two.is.0) two.is.1) in
    let same = run_is_unique is_name_byte one.prefix two.prefix rest more passes others one.ends two.ends (sym one.bytes_are ∙ two.bytes_are) in
    (sym one.is.0 ∙ same.0 ∙ two.is.0, same.1)
takes_unique (AnyNumber most) number other bytes rest more one two =
    one_number number other bytes rest more (record { prefix = one.prefix; bytes_are = one.bytes_are; is = one.is; ends = one.ends })
    (record { prefix = two.prefix; bytes_are = two.bytes_are; is = two.is; ends = two.ends })
takes_unique AnyTimes number other bytes rest more one two =
    one_number number other bytes rest more (record { prefix = one.prefix; bytes_are = one.bytes_are; is = one.is; ends = one.ends })
    (record { prefix = two.prefix; bytes_are = two.bytes_are; is = two.is; ends = two.ends })
takes_unique (AnyClosed double) name other bytes rest more one two =
    let same = closed_unique double name other rest more one.is.1 two.is.1
    (sym (closed_bytes double name bytes one.prefix rest one.is.0 one.bytes_are) ∙ closed_bytes double other bytes two.prefix more two.is.0 two.bytes_are)
    in
    same
takes_unique AnyValue value other bytes rest more one two = one_value value other bytes rest more one two

-- what ends a symbol depends on the first byte only
pub Ends-first_byte : (symbol : Symbol) (content : Content symbol) (prefix rest more : List ℕ) → first_byte more ≡ first_byte rest
    → Ends symbol content prefix rest → Ends symbol content prefix more
Ends-first_byte AnyBlanks content prefix rest more same ends = EndsRun-first_byte is_blank rest more same ends
Ends-first_byte AnyGap content prefix rest more same ends = EndsRun-first_byte is_blank rest more same ends
Ends-first_byte (Sign sign) content prefix rest more same ends = tt
Ends-first_byte (OneWord words) word prefix rest more same ends = (ends.0, EndsRun-first_byte is_name_byte rest more same ends.1)
Ends-first_byte AnyName name prefix rest more same ends = EndsRun-first_byte is_name_byte rest more same ends
Ends-first_byte (AnyNumber most) number prefix rest more same ends =
    ⊎_elim (λ (zero : prefix ≡ codes "0"). inl zero) (λ (stops : EndsRun is_digit rest). inr (EndsRun-first_byte is_digit rest more same stops)) ends
Ends-first_byte AnyTimes number prefix rest more same ends =
    ⊎_elim (λ (zero : prefix ≡ codes "0"). inl zero) (λ (stops : EndsRun is_digit rest). inr (EndsRun-first_byte is_digit rest more same stops)) ends
Ends-first_byte (AnyClosed double) name prefix rest more same ends = tt
Ends-first_byte AnyValue value prefix rest more same ends = EndsWritten-first_byte value prefix rest more same ends

-- bytes of the symbol, and then of the language
abbrev pub One : Symbol → (List ℕ → Type 0) → List ℕ → Type 0
One symbol After bytes = (content : Content symbol) × Allows symbol content × Then (part symbol content) After bytes

-- ---- the byte after a symbol

-- The kinds of bytes with which a symbol can go on.
pub data Class : Type 0 where
  NoByte : Class
  Blank : Class
  NameByte : Class
  Digit : Class

abbrev pub passes : Class → ℕ → Bool
passes NoByte b = false
passes Blank b = is_blank b
passes NameByte b = is_name_byte b
passes Digit b = is_digit b

abbrev pub class_of : Symbol → Class
class_of AnyBlanks = Blank
class_of AnyGap = Blank
class_of (Sign sign) = NoByte
class_of (OneWord words) = NameByte
class_of AnyName = NameByte
class_of (AnyNumber most) = Digit
class_of AnyTimes = Digit
class_of AnyValue = NameByte
class_of (AnyClosed double) = NoByte

-- the word is one of name bytes and has some
abbrev pub is_keyword : List ℕ → Bool
is_keyword [] = false
is_keyword (b ∷ word) = is_word (b ∷ word)

abbrev pub are_keywords : List (List ℕ) → Bool
are_keywords [] = true
are_keywords (word ∷ words) = is_keyword word && are_keywords words

-- A symbol of a production: one of several words is some word, of name bytes.
abbrev pub is_symbol : Symbol → Bool
is_symbol AnyBlanks = true
is_symbol AnyGap = true
is_symbol (Sign sign) = true
is_symbol (OneWord []) = false
is_symbol (OneWord (word ∷ words)) = are_keywords (word ∷ words)
is_symbol AnyName = true
is_symbol (AnyNumber most) = true
is_symbol AnyTimes = true
is_symbol AnyValue = true
is_symbol (AnyClosed double) = true

keyword_passes : (words : List (List ℕ)) → are_keywords words ≡ true → (word : List ℕ) → InTable (word, tt) (plain words) → Passes is_name_byte word
keyword_passes [] are word within = absurd within
keyword_passes ([] ∷ words) are word within = cc
keyword_passes ((b ∷ first) ∷ words) are word within =
    let two = both (is_word (b ∷ first)) (are_keywords words) are in
    ⊎_elim
    (λ (same : (word, tt) ≡ (b ∷ first, tt)). subst (Passes is_name_byte) (sym (ap (λ (e : Entry (Unit {0})). e.0) same)) (word_passes (b ∷ first) two.0))
    (λ (later : InTable (word, tt) (plain words)). keyword_passes words two.1 word later)
    within

some_keywords : (words : List (List ℕ)) → is_symbol (OneWord words) ≡ true → are_keywords words ≡ true
some_keywords [] is = cc
some_keywords (word ∷ words) is = is

-- What begins with no byte with which the symbol can go on ends it.
pub ends_symbol : (symbol : Symbol) → is_symbol symbol ≡ true → (content : Content symbol) → Allows symbol content → (prefix : List ℕ)
    → IsPart (part symbol content) prefix → (rest : List ℕ) → EndsRun (passes (class_of symbol)) rest → Ends symbol content prefix rest
ends_symbol AnyBlanks is content allows prefix part_is rest ends = ends
ends_symbol AnyGap is content allows prefix part_is rest ends = ends
ends_symbol (Sign sign) is content allows prefix part_is rest ends = tt
ends_symbol (OneWord words) is word allows prefix part_is rest ends =
    (subst (Passes is_name_byte) (sym part_is) (keyword_passes words (some_keywords words is) word allows), ends)
ends_symbol AnyName is content allows prefix part_is rest ends = ends
ends_symbol (AnyNumber most) is number allows prefix part_is rest ends = inr ends
ends_symbol AnyTimes is number allows prefix part_is rest ends = inr ends
ends_symbol (AnyClosed double) is name allows prefix part_is rest ends = tt
ends_symbol AnyValue is value allows prefix part_is rest ends = ends_value value prefix rest ends

-- a symbol that stands whole, and bytes of the language after it
pub record Whole (symbol : Symbol) (content : Content symbol) (After : List ℕ → Type 0) (bytes : List ℕ) : Type 0 where
  pub rest : List ℕ
  pub takes : Takes symbol content bytes rest
  pub after : After rest

module _ (symbol : Symbol) (is : is_symbol symbol ≡ true) (After : List ℕ → Type 0) (halts : Halts (passes (class_of symbol)) After) where
  pub whole : (content : Content symbol) → Allows symbol content → (bytes : List ℕ) → Then (part symbol content) After bytes → Whole symbol content After bytes
  whole content allows bytes (prefix, rest, bytes_are, part_is, after) = record {
    rest = rest;
    takes = record { prefix = prefix; bytes_are = bytes_are; is = part_is; ends = ends_symbol symbol is content allows prefix part_is rest (halts rest after) };
    after = after;
  }

  -- After the symbol that stands there, the bytes are of the language.
  pub after_symbol : (content other : Content symbol) → Allows symbol other → (bytes rest : List ℕ) → Takes symbol content bytes rest
      → Then (part symbol other) After bytes → (content ≡ other) × After rest
  after_symbol content other allows bytes rest takes then =
      let there = whole other allows bytes then in
      let same = takes_unique symbol content other bytes rest there.rest takes there.takes in
      (same.0, subst After (sym same.1) there.after)

-- the same symbol before other bytes that begin alike
pub takes_again : (symbol : Symbol) (content : Content symbol) (bytes rest more : List ℕ) → (takes : Takes symbol content bytes rest)
    → first_byte more ≡ first_byte rest → Takes symbol content (takes.prefix ++ more) more
takes_again symbol content bytes rest more takes same = record {
  prefix = takes.prefix;
  bytes_are = refl;
  is = takes.is;
  ends = Ends-first_byte symbol content
      takes.prefix rest more same takes.ends;
}

-- ---- the first byte of a symbol

abbrev pub first_fails : (ℕ → Bool) → List ℕ → Bool
first_fails p [] = false
first_fails p (b ∷ bytes) = not (p b)

abbrev pub all_fail : (ℕ → Bool) → List (List ℕ) → Bool
all_fail p [] = true
all_fail p (word ∷ words) = first_fails p word && all_fail p words

-- which classes have no blank, no byte that a name begins with, no digit, no byte that a value begins with
abbrev pub no_blanks : Class → Bool
no_blanks NoByte = true
no_blanks Blank = false
no_blanks NameByte = true
no_blanks Digit = true

abbrev pub no_names : Class → Bool
no_names NoByte = true
no_names Blank = true
no_names NameByte = false
no_names Digit = true

abbrev pub no_digits : Class → Bool
no_digits NoByte = true
no_digits Blank = true
no_digits NameByte = false
no_digits Digit = false

abbrev pub no_values : Class → Bool
no_values NoByte = true
no_values Blank = true
no_values NameByte = false
no_values Digit = false

pub blank_fails : (class : Class) → no_blanks class ≡ true → (b : ℕ) → is_blank b ≡ true → passes class b ≡ false
blank_fails NoByte none b is = refl
blank_fails Blank none b is = cc
blank_fails NameByte none b is = blank_is_no_name_byte b is
blank_fails Digit none b is = grind (arith, nat_tests)

name_fails : (class : Class) → no_names class ≡ true → (b : ℕ) → is_name_start b ≡ true → passes class b ≡ false
name_fails NoByte none b is = refl
name_fails Blank none b is = name_start_is_no_blank b is
name_fails NameByte none b is = cc
name_fails Digit none b is = grind (arith, nat_tests)

digit_fails : (class : Class) → no_digits class ≡ true → (b : ℕ) → is_digit b ≡ true → passes class b ≡ false
digit_fails NoByte none b is = refl
digit_fails Blank none b is = grind (arith, nat_tests)
digit_fails NameByte none b is = cc
digit_fails Digit none b is = cc

value_fails : (class : Class) → no_values class ≡ true → (value : Value) (b : ℕ) → starts_kind value b ≡ true → passes class b ≡ false
value_fails NoByte none value b is = refl
value_fails Blank none (values.Int number) b is = grind (arith, nat_tests)
value_fails Blank none (values.Bool truth) b is = name_start_is_no_blank b is
value_fails Blank none (values.Text text) b is = grind (arith, nat_tests)
value_fails NameByte none value b is = cc
value_fails Digit none value b is = cc

pub first_ends : (p : ℕ → Bool) (word rest : List ℕ) → first_fails p word ≡ true → EndsRun p (word ++ rest)
first_ends p [] rest fails = cc
first_ends p (b ∷ word) rest fails = turned (p b) fails

word_ends : (p : ℕ → Bool) (words : List (List ℕ)) → all_fail p words ≡ true → (word rest : List ℕ) → InTable (word, tt) (plain words)
    → EndsRun p (word ++ rest)
word_ends p [] fail word rest within = absurd within
word_ends p (first ∷ words) fail word rest within =
    let two = both (first_fails p first) (all_fail p words) fail in
    ⊎_elim
    (λ (same : (word, tt) ≡ (first, tt)). subst (λ w. EndsRun p (w ++ rest)) (sym (ap (λ (e : Entry (Unit {0})). e.0) same)) (first_ends p first rest two.0))
    (λ (later : InTable (word, tt) (plain words)). word_ends p words two.1 word rest later)
    within

pub blanks_end : (p : ℕ → Bool) → ((b : ℕ) → is_blank b ≡ true → p b ≡ false) → (blanks rest : List ℕ) → AreBlanks blanks → EndsRun p rest
    → EndsRun p (blanks ++ rest)
blanks_end p fails [] rest are ends = ends
blanks_end p fails (b ∷ blanks) rest are ends = fails b are.0

gap_ends : (p : ℕ → Bool) → ((b : ℕ) → is_blank b ≡ true → p b ≡ false) → (blanks rest : List ℕ) → AreBlanks blanks → blanks ≢ [] → EndsRun p (blanks ++ rest)
gap_ends p fails [] rest are some = absurd (some refl)
gap_ends p fails (b ∷ blanks) rest are some = fails b are.0

name_ends : (p : ℕ → Bool) → ((b : ℕ) → is_name_start b ≡ true → p b ≡ false) → (bytes : List ℕ) → StartsName bytes → EndsRun p bytes
name_ends p fails [] starts = absurd starts
name_ends p fails (b ∷ bytes) starts = fails b starts

number_ends : (p : ℕ → Bool) → ((b : ℕ) → is_digit b ≡ true → p b ≡ false) → (bytes : List ℕ) → StartsNumber bytes → EndsRun p bytes
number_ends p fails [] starts = absurd starts
number_ends p fails (b ∷ bytes) starts = fails b starts

value_ends : (class : Class) → no_values class ≡ true → (value : Value) (bytes : List ℕ) → StartsKind value bytes → EndsRun (passes class) bytes
value_ends class none value [] starts = absurd starts
value_ends class none value (b ∷ bytes) starts = value_fails class none value b starts

-- Symbols begin with no byte of the class; one that may be empty hands the question on, and the last one to what follows them.
abbrev pub halts : Class → Bool → List Symbol → Bool
halts class end [] = end
halts class end (AnyBlanks ∷ symbols) = no_blanks class && halts class end symbols
halts class end (AnyGap ∷ symbols) = no_blanks class
halts class end (Sign sign ∷ symbols) = first_fails (passes class) sign
halts class end (OneWord words ∷ symbols) = all_fail (passes class) words
halts class end (AnyName ∷ symbols) = no_names class
halts class end (AnyNumber most ∷ symbols) = no_digits class
halts class end (AnyTimes ∷ symbols) = no_digits class
halts class end (AnyValue ∷ symbols) = no_values class
halts class end (AnyClosed double ∷ symbols) = no_names class

pub closed_starts : (double : Bool) (name bytes prefix rest : List ℕ) → (prefix ≡ name ++ quote_byte double ∷ []) × IsName name → bytes ≡ prefix ++ rest
    → StartsName bytes
closed_starts double name bytes prefix rest (same, is) whole = subst StartsName (sym (closed_bytes double name bytes prefix rest same whole))
    (name_starts name (quote_byte double ∷ rest) is)

-- the first byte of a symbol and of what follows it
pub part_halts : (class : Class) (end : Bool) (symbol : Symbol) (symbols : List Symbol) → halts class end (symbol ∷ symbols) ≡ true → (content : Content symbol)
    → Allows symbol content → (prefix rest : List ℕ) → IsPart (part symbol content) prefix → (halts class end symbols ≡ true → EndsRun (passes class) rest)
    → EndsRun (passes class) (prefix ++ rest)
part_halts class end AnyBlanks symbols is content allows prefix rest part_is later =
    let two = both (no_blanks class) (halts class end symbols) is in
    blanks_end (passes class) (blank_fails class two.0) prefix rest part_is (later two.1)
part_halts class end AnyGap symbols is content allows prefix rest part_is later = gap_ends (passes class) (blank_fails class is) prefix rest part_is.0 part_is.1
part_halts class end (Sign sign) symbols is content allows prefix rest part_is later =
    subst (λ w. EndsRun (passes class) (w ++ rest)) (sym part_is) (first_ends (passes class) sign rest is)
part_halts class end (OneWord words) symbols is word allows prefix rest part_is later =
    subst (λ w. EndsRun (passes class) (w ++ rest)) (sym part_is) (word_ends (passes class) words is word rest allows)
part_halts class end AnyName symbols is name allows prefix rest part_is later =
    name_ends (passes class) (name_fails class is) (prefix ++ rest) (name_starts prefix rest (subst IsName (sym part_is.0) part_is.1))
part_halts class end (AnyNumber most) symbols is number allows prefix rest part_is later =
    number_ends (passes class) (digit_fails class is) (prefix ++ rest) (number_starts prefix rest part_is.0)
part_halts class end AnyTimes symbols is number allows prefix rest part_is later =
    number_ends (passes class) (digit_fails class is) (prefix ++ rest) (number_starts prefix rest part_is.0)
part_halts class end (AnyClosed double) symbols is name allows prefix rest part_is later =
    name_ends (passes class) (name_fails class is) (prefix ++ rest) (closed_starts double name (prefix ++ rest) prefix rest part_is refl)
part_halts class end AnyValue symbols is value allows prefix rest part_is later =
    value_ends class is value (prefix ++ rest) (value_starts value prefix rest part_is)

-- A bad token begins with no byte of the class.
pub bad_halts : (class : Class) (end : Bool) (symbol : Symbol) (symbols : List Symbol) → halts class end (symbol ∷ symbols) ≡ true
    → (kind : BadToken) (left : ℕ) (bytes : List ℕ) → IsBad symbol kind left bytes → EndsRun (passes class) bytes
bad_halts class end AnyBlanks symbols is kind left bytes (content, bad, rest, takes, place) = absurd bad
bad_halts class end AnyGap symbols is kind left bytes (content, bad, rest, takes, place) = absurd bad
bad_halts class end (Sign sign) symbols is kind left bytes (content, bad, rest, takes, place) = absurd bad
bad_halts class end (OneWord words) symbols is kind left bytes (content, bad, rest, takes, place) = absurd bad
bad_halts class end AnyName symbols is kind left bytes (name, bad, rest, takes, place) =
    subst (EndsRun (passes class)) (sym takes.bytes_are) (name_ends (passes class) (name_fails class is) (takes.prefix ++ rest) (name_starts takes.prefix rest
    (subst IsName (sym takes.is.0) takes.is.1)))
bad_halts class end (AnyNumber most) symbols is kind left bytes (number, bad, rest, takes, place) =
    subst (EndsRun (passes class)) (sym takes.bytes_are) (number_ends (passes class) (digit_fails class is) (takes.prefix ++ rest)
    (number_starts takes.prefix rest takes.is.0))
bad_halts class end AnyTimes symbols is kind left bytes (number, bad, rest, takes, place) =
    subst (EndsRun (passes class)) (sym takes.bytes_are) (number_ends (passes class) (digit_fails class is) (takes.prefix ++ rest)
    (number_starts takes.prefix rest takes.is.0))
bad_halts class end (AnyClosed double) symbols is kind left bytes (name, bad, rest, takes, place) =
    name_ends (passes class) (name_fails class is) bytes (closed_starts double name bytes takes.prefix rest takes.is takes.bytes_are)
bad_halts class end AnyValue symbols is kind left bytes (value, bad, rest, takes, place) =
    subst (EndsRun (passes class)) (sym takes.bytes_are) (value_ends class is value (takes.prefix ++ rest) (value_starts value takes.prefix rest takes.is))

-- ---- bounds and examples

-- A part within its bounds is not out of them.
pub not_bad : (kind : BadToken) (this : Part) → IsBounded this → ¬ IsOutOfBounds this kind
not_bad kind Blanks within = λ bad. bad
not_bad kind Gap within = λ bad. bad
not_bad kind (Exactly word) within = λ bad. bad
not_bad LongName (Name name) within = λ bad. absurd (omega arith)
not_bad LongText (Name name) within = λ bad. bad
not_bad WideNumber (Name name) within = λ bad. bad
not_bad WrongTimes (Name name) within = λ bad. bad
not_bad UnfitStep (Name name) within = λ bad. bad
not_bad LateStep (Name name) within = λ bad. bad
not_bad LongName (Number most number) within = λ bad. bad
not_bad LongText (Number most number) within = λ bad. bad
not_bad WideNumber (Number most number) within = λ bad. absurd (omega arith)
not_bad WrongTimes (Number most number) within = λ bad. bad
not_bad UnfitStep (Number most number) within = λ bad. bad
not_bad LateStep (Number most number) within = λ bad. bad
not_bad LongName (Times number) within = λ bad. bad
not_bad LongText (Times number) within = λ bad. bad
not_bad WideNumber (Times number) within = λ bad. bad
not_bad WrongTimes (Times number) within = λ bad. ⊎_elim (λ (below : number < 1). absurd (omega (arith, within.0)))
    (λ (above : 16 < number). absurd (omega (arith, within.1))) bad
not_bad UnfitStep (Times number) within = λ bad. bad
not_bad LateStep (Times number) within = λ bad. bad
not_bad LongName (Written (values.Int number)) within = λ bad. bad
not_bad LongText (Written (values.Int number)) within = λ bad. bad
not_bad WideNumber (Written (values.Int number)) within = λ bad. bad within
not_bad WrongTimes (Written (values.Int number)) within = λ bad. bad
not_bad UnfitStep (Written (values.Int number)) within = λ bad. bad
not_bad LateStep (Written (values.Int number)) within = λ bad. bad
not_bad kind (Written (values.Bool truth)) within = λ bad. bad
not_bad LongName (Written (values.Text text)) within = λ bad. bad
not_bad LongText (Written (values.Text text)) within = λ bad. absurd (omega arith)
not_bad WideNumber (Written (values.Text text)) within = λ bad. bad
not_bad WrongTimes (Written (values.Text text)) within = λ bad. bad
not_bad UnfitStep (Written (values.Text text)) within = λ bad. bad
not_bad LateStep (Written (values.Text text)) within = λ bad. bad
not_bad LongName (Closed double name) within = λ bad. absurd (omega arith)
not_bad LongText (Closed double name) within = λ bad. bad
not_bad WideNumber (Closed double name) within = λ bad. bad
not_bad WrongTimes (Closed double name) within = λ bad. bad
not_bad UnfitStep (Closed double name) within = λ bad. bad
not_bad LateStep (Closed double name) within = λ bad. bad
not_bad kind (Called word fault) within = λ bad. let clash : None ≡ Some kind = sym within ∙ bad in cc

-- some part of the symbol
pub record Example (symbol : Symbol) : Type 0 where
  pub content : Content symbol
  pub allowed : Allows symbol content
  pub prefix : List ℕ
  pub is : IsPart (part symbol content) prefix

pub example : (symbol : Symbol) → is_symbol symbol ≡ true → Example symbol
example AnyBlanks is = record { content = tt; allowed = tt; prefix = []; is = tt }
example AnyGap is = record { content = tt; allowed = tt; prefix = codes " "; is = ((refl, tt), λ none. cc) }
example (Sign sign) is = record { content = tt; allowed = tt; prefix = sign; is = refl }
example (OneWord []) is = cc
example (OneWord (word ∷ words)) is = record { content = word; allowed = inl refl; prefix = word; is = refl }
example AnyName is = record { content = codes "a"; allowed = tt; prefix = codes "a"; is = (refl, (refl, tt)) }
example AnyTimes is = record { content = 1; allowed = tt; prefix = codes "1"; is = (refl, refl) }
example (AnyNumber most) is = record { content = 0; allowed = tt; prefix = codes "0"; is = (refl, refl) }
example (AnyClosed double) is = record { content = codes "a"; allowed = tt; prefix = codes "a" ++ quote_byte double ∷ []; is = (refl, (refl, tt)) }
example AnyValue is = record { content = values.Int (pos 0); allowed = tt; prefix = codes "0"; is = inl (0, refl, (refl, refl)) }
