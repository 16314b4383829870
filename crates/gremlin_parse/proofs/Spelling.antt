-- Spelled by parts, and spelled by the symbols of a production, is one.
use Rattle.std.proofs.Common.{ap, ◌∙◌, ℕ, arith, codes, ◌≡◌, ◌⊎◌, inl, inr, true, List, [], ◌∷◌, ◌++◌, sym, subst, ⊎_elim}
use Rattle.std.specs.List.{AllByRecursion}
use Rattle.gremlin_parse.specs.Numbers.{is_digit, value_after, IsNumber}
use Rattle.gremlin_parse.specs.Grammar.{Number, Part, IsMadeOf, IsBounded}
use Rattle.gremlin_parse.specs.Faults.{EndsRun, IsOutOfBounds}
use Rattle.gremlin_parse.specs.Reading.{Then, IsBadPart, BadThen, BadParts}
use Rattle.gremlin_parse.specs.Symbols.{Symbol, AnyBlanks, AnyGap, Sign, OneWord, AnyName, AnyNumber, AnyTimes}
use Rattle.gremlin_parse.specs.Symbols.{AnyValue, AnyClosed, Content, Contents, part, Allows, IsBad, ReadsAll, Follows}
use Rattle.gremlin_parse.specs.Symbols.{BadFollows}
use Rattle.gremlin_parse.specs.Stopping.{Bads, BadInOne}
use Rattle.gremlin_parse.specs.declared.bad_token.BadToken.{BadToken}
use Rattle.gremlin_parse.specs.declared.bad_token.BadToken.TheVariants.{LongName, LongText, WideNumber, WrongTimes, UnfitStep, LateStep}
use Rattle.gremlin_parse.proofs.TimesLaws.{zero_number}
use Rattle.gremlin_parse.proofs.Values.{bad_value_ends, value_ends_token}
use Rattle.gremlin_parse.proofs.Symbols.{One, class_of, whole, after_symbol, takes_unique, not_bad, example}
use Rattle.gremlin_parse.proofs.Productions.{Enders, is_production, split, HaltsAt, follows_halts, bad_follows_halts}

abbrev pub parts_with : (symbols : List Symbol) → Contents symbols → List Part
parts_with [] contents = []
parts_with (symbol ∷ symbols) contents = part symbol contents.0 ∷ parts_with symbols contents.1

abbrev pub AllowsAll : (symbols : List Symbol) → Contents symbols → Type 0
AllowsAll [] contents = Unit {0}
AllowsAll (symbol ∷ symbols) contents = Allows symbol contents.0 × AllowsAll symbols contents.1

-- parts, and after them bytes of a language
abbrev pub ThenParts : List Part → (List ℕ → Type 0) → List ℕ → Type 0
ThenParts [] After bytes = After bytes
ThenParts (this ∷ parts) After bytes = Then this (ThenParts parts After) bytes

pub made_of_then : (parts more : List Part) (bytes : List ℕ) → ThenParts parts (IsMadeOf more) bytes → IsMadeOf (parts ++ more) bytes
made_of_then [] more bytes is = is
made_of_then (this ∷ parts) more bytes (prefix, rest, whole, part_is, is) = (prefix, rest, whole, part_is, made_of_then parts more rest is)

pub then_of_made : (parts more : List Part) (bytes : List ℕ) → IsMadeOf (parts ++ more) bytes → ThenParts parts (IsMadeOf more) bytes
then_of_made [] more bytes is = is
then_of_made (this ∷ parts) more bytes (prefix, rest, whole, part_is, is) = (prefix, rest, whole, part_is, then_of_made parts more rest is)

pub then_parts_map : (From To : List ℕ → Type 0) → ((bytes : List ℕ) → From bytes → To bytes) → (parts : List Part) (bytes : List ℕ)
    → ThenParts parts From bytes → ThenParts parts To bytes
then_parts_map From To step [] bytes is = step bytes is
then_parts_map From To step (this ∷ parts) bytes (prefix, rest, whole, part_is, is) = (prefix, rest, whole, part_is, then_parts_map From To step parts rest is)

-- parts before one of several languages
pub then_parts_choice : (X : Type 0) (Family : X → List ℕ → Type 0) (parts : List Part) (bytes : List ℕ)
    → ThenParts parts (λ rest. (x : X) × Family x rest) bytes → (x : X) × ThenParts parts (Family x) bytes
then_parts_choice X Family [] bytes is = is
then_parts_choice X Family (this ∷ parts) bytes (prefix, rest, whole, part_is, is) =
    let (x, one) = then_parts_choice X Family parts rest is in
    (x, (prefix, rest, whole, part_is, one))

pub follows_of_parts : (symbols : List Symbol) (contents : Contents symbols) (Last : Contents symbols → List ℕ → Type 0) → AllowsAll symbols contents
    → (bytes : List ℕ) → ThenParts (parts_with symbols contents) (Last contents) bytes → Follows symbols Last bytes
follows_of_parts [] contents Last allows bytes is = is
follows_of_parts (symbol ∷ symbols) contents Last allows bytes (prefix, rest, whole, part_is, is) =
    (contents.0, allows.0, (prefix, rest, whole, part_is, follows_of_parts symbols contents.1 (λ others. Last (contents.0, others)) allows.1 rest is))

-- the parts of what was read, and what follows them
pub read_parts : (symbols : List Symbol) (contents : Contents symbols) (After : List ℕ → Type 0) (bytes rest : List ℕ) → ReadsAll symbols contents bytes rest
    → After rest → ThenParts (parts_with symbols contents) After bytes
read_parts [] contents After bytes rest same after = subst After (sym same) after
read_parts (symbol ∷ symbols) contents After bytes rest (middle, reads, later) after =
    (reads.takes.prefix, middle, reads.takes.bytes_are, reads.takes.is, read_parts symbols contents.1 After middle rest later after)

pub read_allowed : (symbols : List Symbol) (contents : Contents symbols) (bytes rest : List ℕ) → ReadsAll symbols contents bytes rest
    → AllowsAll symbols contents
read_allowed [] contents bytes rest same = tt
read_allowed (symbol ∷ symbols) contents bytes rest (middle, reads, later) = (reads.allowed, read_allowed symbols contents.1 middle rest later)

-- what was read is within its bounds, and so are the parts after it
pub read_bounded : (symbols : List Symbol) (contents : Contents symbols) (bytes rest : List ℕ) → ReadsAll symbols contents bytes rest → (more : List Part)
    → AllByRecursion IsBounded more → AllByRecursion IsBounded (parts_with symbols contents ++ more)
read_bounded [] contents bytes rest same more within = within
read_bounded (symbol ∷ symbols) contents bytes rest (middle, reads, later) more within =
    (reads.bounded, read_bounded symbols contents.1 middle rest later more within)

-- the contents with which the parts of a production stand there
pub record Parts (symbols : List Symbol) (Last : Contents symbols → List ℕ → Type 0) (bytes : List ℕ) : Type 0 where
  pub contents : Contents symbols
  pub allowed : AllowsAll symbols contents
  pub is : ThenParts (parts_with symbols contents) (Last contents) bytes

pub parts_of_follows : (symbols : List Symbol) (Last : Contents symbols → List ℕ → Type 0) (bytes : List ℕ) → Follows symbols Last bytes
    → Parts symbols Last bytes
parts_of_follows [] Last bytes is = record { contents = tt; allowed = tt; is = is }
parts_of_follows (symbol ∷ symbols) Last bytes (content, allows, (prefix, rest, whole, part_is, is)) =
    let later = parts_of_follows symbols (λ others. Last (content, others)) rest is in
    record { contents = (content, later.contents); allowed = (allows, later.allowed); is = (prefix, rest, whole, part_is, later.is) }

-- One line is of one list of contents.
pub record Agrees (symbols : List Symbol) (One Two : Contents symbols → List ℕ → Type 0) : Type 0 where
  pub contents : Contents symbols
  pub rest : List ℕ
  pub one : One contents rest
  pub two : Two contents rest

pub follows_agree : (enders : Enders) (symbols : List Symbol) → is_production enders symbols ≡ true → (One Two : Contents symbols → List ℕ → Type 0)
    → ((contents : Contents symbols) → HaltsAt enders (One contents)) → ((contents : Contents symbols) → HaltsAt enders (Two contents)) → (bytes : List ℕ)
    → Follows symbols One bytes → Follows symbols Two bytes → Agrees symbols One Two
follows_agree enders [] is One Two ones twos bytes one two = record { contents = tt; rest = bytes; one = one; two = two }
follows_agree enders (symbol ∷ symbols) is One Two ones twos bytes (content, allows, one) (other, others, two) =
    let all = split enders symbol symbols is in
    let class = class_of symbol in
    let After : List ℕ → Type 0 = Follows symbols (λ contents. One (content, contents)) in
    let Other : List ℕ → Type 0 = Follows symbols (λ contents. Two (other, contents)) in
    let here = whole symbol all.head After (follows_halts class (enders class) symbols all.ended (λ contents. One (content, contents))
    (λ contents. ones (content, contents) class)) content allows bytes one in
    let there = after_symbol symbol all.head Other (follows_halts class (enders class) symbols all.ended (λ contents. Two (other, contents))
    (λ contents. twos (other, contents) class)) content other others bytes here.rest here.takes two in
    let Same : Content symbol → Type 0 = λ v. Follows symbols (λ contents. Two (v, contents)) here.rest in
    let later = follows_agree enders symbols all.later (λ contents. One (content, contents)) (λ contents. Two (content, contents))
    (λ contents. ones (content, contents)) (λ contents. twos (content, contents)) here.rest here.after (subst Same (sym there.0) there.1) in
    record { contents = (content, later.contents); rest = later.rest; one = later.one; two = later.two }

-- ---- bad tokens

-- a bad token of all parts, by the first ones
pub bad_then_of_parts : (parts more : List Part) (kind : BadToken) (left : ℕ) (bytes : List ℕ) → BadParts (parts ++ more) kind left bytes
    → BadThen parts (BadParts more) kind left bytes
bad_then_of_parts [] more kind left bytes bad = bad
bad_then_of_parts (this ∷ parts) more kind left bytes (inl here) = inl here
bad_then_of_parts (this ∷ parts) more kind left bytes (inr (prefix, rest, whole, part_is, later)) =
    inr (prefix, rest, whole, part_is, bad_then_of_parts parts more kind left rest later)

pub bad_then_map : (From To : Bads) (kind : BadToken) (left : ℕ) → ((bytes : List ℕ) → From kind left bytes → To kind left bytes)
    → (parts : List Part) (bytes : List ℕ) → BadThen parts From kind left bytes → BadThen parts To kind left bytes
bad_then_map From To kind left step [] bytes bad = step bytes bad
bad_then_map From To kind left step (this ∷ parts) bytes (inl here) = inl here
bad_then_map From To kind left step (this ∷ parts) bytes (inr (prefix, rest, whole, part_is, later)) =
    inr (prefix, rest, whole, part_is, bad_then_map From To kind left step parts rest later)

-- one of several lists of parts after the first ones
pub bad_parts_choice : (X : Type 0) (more : X → List Part) → X → (parts : List Part) (kind : BadToken) (left : ℕ) (bytes : List ℕ)
    → BadThen parts (BadInOne more) kind left bytes → (x : X) × BadParts (parts ++ more x) kind left bytes
bad_parts_choice X more some [] kind left bytes bad = bad
bad_parts_choice X more some (this ∷ parts) kind left bytes (inl here) = (some, inl here)
bad_parts_choice X more some (this ∷ parts) kind left bytes (inr (prefix, rest, whole, part_is, later)) =
    let (x, found) = bad_parts_choice X more some parts kind left rest later in
    (x, inr (prefix, rest, whole, part_is, found))

-- A number out of its bounds is not 0.
wide_ends : (kind : BadToken) (most number : ℕ) (prefix rest : List ℕ) → IsOutOfBounds (Number most number) kind → number ≡ value_after 0 prefix
    → (prefix ≡ codes "0") ⊎ EndsRun is_digit rest → EndsRun is_digit rest
wide_ends LongName most number prefix rest bad is ends = absurd bad
wide_ends LongText most number prefix rest bad is ends = absurd bad
wide_ends WrongTimes most number prefix rest bad is ends = absurd bad
wide_ends UnfitStep most number prefix rest bad is ends = absurd bad
wide_ends LateStep most number prefix rest bad is ends = absurd bad
wide_ends WideNumber most number prefix rest bad is ends =
    ⊎_elim (λ (zero : prefix ≡ codes "0"). let none : number ≡ 0 = is ∙ ap (value_after 0) zero in absurd (omega arith))
    (λ (stops : EndsRun is_digit rest). stops) ends

-- what stands after a number of times ends it
times_end : (number : ℕ) (prefix rest : List ℕ) → number ≡ value_after 0 prefix → (prefix ≡ codes "0") ⊎ EndsRun is_digit rest → (number ≡ 0)
    ⊎ EndsRun is_digit rest
times_end number prefix rest is (inl zero) = inl (is ∙ ap (value_after 0) zero)
times_end number prefix rest is (inr stops) = inr stops

end_times : (number : ℕ) (prefix rest : List ℕ) → IsNumber number prefix → (number ≡ 0) ⊎ EndsRun is_digit rest → (prefix ≡ codes "0") ⊎ EndsRun is_digit rest
end_times number prefix rest is (inl zero) = inl (zero_number number prefix is zero)
end_times number prefix rest is (inr stops) = inr stops

bad_part : (symbol : Symbol) (kind : BadToken) (left : ℕ) (bytes : List ℕ) → (bad : IsBad symbol kind left bytes)
    → IsBadPart (part symbol bad.0) kind left bytes
bad_part AnyBlanks kind left bytes bad = absurd bad.1
bad_part AnyGap kind left bytes bad = absurd bad.1
bad_part (Sign sign) kind left bytes bad = absurd bad.1
bad_part (OneWord words) kind left bytes bad = absurd bad.1
bad_part AnyName kind left bytes (name, bad, rest, takes, place) = (takes.prefix, rest, takes.bytes_are, takes.is, takes.ends, bad, place)
bad_part (AnyNumber most) kind left bytes (number, bad, rest, takes, place) =
    (takes.prefix, rest, takes.bytes_are, takes.is, wide_ends kind most number takes.prefix rest bad takes.is.1 takes.ends, bad, place)
bad_part AnyTimes kind left bytes (number, bad, rest, takes, place) = (
  takes.prefix,
  rest,
  takes.bytes_are,
  takes.is,
  times_end number takes.prefix rest
      takes.is.1 takes.ends,
  bad,
  place,
)
bad_part (AnyClosed double) kind left bytes (name, bad, rest, takes, place) = (takes.prefix, rest, takes.bytes_are, takes.is, tt, bad, place)
bad_part AnyValue kind left bytes (value, bad, rest, takes, place) = (
  takes.prefix,
  rest,
  takes.bytes_are,
  takes.is,
  bad_value_ends value kind takes.prefix rest
      takes.is bad takes.ends,
  bad,
  place,
)

part_bad : (symbol : Symbol) (content : Content symbol) (kind : BadToken) (left : ℕ) (bytes : List ℕ) → IsBadPart (part symbol content) kind left bytes
    → IsBad symbol kind left bytes
part_bad AnyBlanks content kind left bytes bad = absurd bad.5
part_bad AnyGap content kind left bytes bad = absurd bad.5
part_bad (Sign sign) content kind left bytes bad = absurd bad.5
part_bad (OneWord words) content kind left bytes bad = absurd bad.5
part_bad AnyName name kind left bytes (token, rest, whole, part_is, ends, bad, place) =
    (name, bad, rest, record { prefix = token; bytes_are = whole; is = part_is; ends = ends }, place)
part_bad (AnyNumber most) number kind left bytes (token, rest, whole, part_is, ends, bad, place) =
    (number, bad, rest, record { prefix = token; bytes_are = whole; is = part_is; ends = inr ends }, place)
part_bad AnyTimes number kind left bytes (token, rest, whole, part_is, ends, bad, place) =
    (number, bad, rest, record { prefix = token; bytes_are = whole; is = part_is; ends = end_times number token rest part_is ends }, place)
part_bad (AnyClosed double) name kind left bytes (token, rest, whole, part_is, ends, bad, place) =
    (name, bad, rest, record { prefix = token; bytes_are = whole; is = part_is; ends = tt }, place)
part_bad AnyValue value kind left bytes (token, rest, whole, part_is, ends, bad, place) =
    (value, bad, rest, record { prefix = token; bytes_are = whole; is = part_is; ends = value_ends_token value token rest ends }, place)

abbrev pub HasNoBad : List Part → Type 0
HasNoBad parts = (kind : BadToken) (left : ℕ) (bytes : List ℕ) → ¬ BadParts parts kind left bytes

-- a bad token among the parts of a production, or after them
pub bad_follows_of_then : (symbols : List Symbol) (contents : Contents symbols) → AllowsAll symbols contents
    → (Bad : Bads) (kind : BadToken) (left : ℕ) (bytes : List ℕ) → BadThen (parts_with symbols contents) Bad kind left bytes
    → BadFollows symbols Bad kind left bytes
bad_follows_of_then [] contents allows Bad kind left bytes bad = bad
bad_follows_of_then (symbol ∷ symbols) contents allows Bad kind left bytes (inl here) = inl (part_bad symbol contents.0 kind left bytes here)
bad_follows_of_then (symbol ∷ symbols) contents allows Bad kind left bytes (inr (prefix, rest, whole, part_is, later)) =
    inr (contents.0, allows.0, (prefix, rest, whole, part_is, bad_follows_of_then symbols contents.1 allows.1 Bad kind left rest later))

examples : (enders : Enders) (symbols : List Symbol) → is_production enders symbols ≡ true → (contents : Contents symbols) × AllowsAll symbols contents
examples enders [] is = (tt, tt)
examples enders (symbol ∷ symbols) is =
    let all = split enders symbol symbols is in
    let one = example symbol all.head in
    let later = examples enders symbols all.later in
    ((one.content, later.0), (one.allowed, later.1))

-- contents of a production with such a token
pub record BadContents (symbols : List Symbol) (Bad : Bads) (kind : BadToken) (left : ℕ) (bytes : List ℕ) : Type 0 where
  pub contents : Contents symbols
  pub allowed : AllowsAll symbols contents
  pub bad : BadThen (parts_with symbols contents) Bad kind left bytes

pub then_of_bad_follows : (enders : Enders) (symbols : List Symbol) → is_production enders symbols ≡ true
    → (Bad : Bads) (kind : BadToken) (left : ℕ) (bytes : List ℕ) → BadFollows symbols Bad kind left bytes → BadContents symbols Bad kind left bytes
then_of_bad_follows enders [] is Bad kind left bytes bad = record { contents = tt; allowed = tt; bad = bad }
then_of_bad_follows enders (symbol ∷ symbols) is Bad kind left bytes bad =
    let all = split enders symbol symbols is in
    ⊎_elim
    (λ (here : IsBad symbol kind left bytes).
    let others = examples enders symbols all.later in
    let found : BadContents (symbol ∷ symbols) Bad kind left bytes = record
    { contents = (here.0, others.0); allowed = (allowed symbol here, others.1); bad = inl (bad_part symbol kind left bytes here) } in
    found)
    (λ ((content, allows, (prefix, rest, whole, part_is, later)) : One symbol (BadFollows symbols Bad kind left) bytes).
    let others = then_of_bad_follows enders symbols all.later Bad kind left rest later in
    let found : BadContents (symbol ∷ symbols) Bad kind left bytes = record
    { contents = (content, others.contents); allowed = (allows, others.allowed); bad = inr (prefix, rest, whole, part_is, others.bad) } in
    found)
    bad
  where
    allowed : (this : Symbol) → (bad : IsBad this kind left bytes) → Allows this bad.0
    allowed AnyBlanks here = tt
    allowed AnyGap here = tt
    allowed (Sign sign) here = tt
    allowed (OneWord words) here = absurd here.1
    allowed AnyName here = tt
    allowed (AnyNumber most) here = tt
    allowed AnyTimes here = tt
    allowed (AnyClosed double) here = tt
    allowed AnyValue here = tt

-- Parts within their bounds leave no bad token, where none is left after them.
pub no_bad_within : (enders : Enders) (symbols : List Symbol) → is_production enders symbols ≡ true → (contents : Contents symbols) → AllowsAll symbols contents
    → AllByRecursion IsBounded (parts_with symbols contents) → (Last : List ℕ → Type 0) → HaltsAt enders Last → (Bad : Bads) (kind : BadToken) (left : ℕ)
    → HaltsAt enders (Bad kind left) → ((rest : List ℕ) → Last rest → ¬ Bad kind left rest) → (bytes : List ℕ)
    → ThenParts (parts_with symbols contents) Last bytes → ¬ BadFollows symbols Bad kind left bytes
no_bad_within enders [] is contents allows within Last last Bad kind left bads none bytes made = none bytes made
no_bad_within enders (symbol ∷ symbols) is contents allows within Last last Bad kind left bads none bytes made = λ bad.
    let all = split enders symbol symbols is in
    let class = class_of symbol in
    let After : List ℕ → Type 0 = ThenParts (parts_with symbols contents.1) Last in
    let line : (rest : List ℕ) → After rest → Follows symbols (λ _. Last) rest = λ rest is_after.
    follows_of_parts symbols contents.1 (λ _. Last) allows.1 rest is_after in
    let ends = follows_halts class (enders class) symbols all.ended (λ _. Last) (λ _. last class) in
    let here = whole symbol all.head After (λ rest is_after. ends rest (line rest is_after)) contents.0 allows.0 bytes made in
    ⊎_elim
    (λ ((other, out, more, takes, place) : IsBad symbol kind left bytes).
    let same = takes_unique symbol contents.0 other bytes here.rest more here.takes takes in
    let is_out : IsOutOfBounds (part symbol contents.0) kind = subst (λ v. IsOutOfBounds (part symbol v) kind) (sym same.0) out in
    not_bad kind (part symbol contents.0) within.0 is_out)
    (λ ((other, others, then) : One symbol (BadFollows symbols Bad kind left) bytes).
    let bads_end = bad_follows_halts class (enders class) symbols all.ended Bad kind left (bads class) in
    no_bad_within enders symbols all.later contents.1 allows.1 within.1 Last last Bad kind left bads none here.rest here.after
    (after_symbol symbol all.head (BadFollows symbols Bad kind left) bads_end contents.0 other others bytes here.rest here.takes then).1)
    bad
