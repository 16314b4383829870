-- Where reading stops in a production, from what is left to the whole, for every fault at once.
use Rattle.std.proofs.Common.{◌≡◌, ◌≢◌, ◌≤◌, ◌+◌, inl, inr, ℕ, nat_eq, cond, Bool, true, false, ◌&&◌, Some, List, []}
use Rattle.std.proofs.Common.{◌∷◌, ◌++◌, length, codes, refl, sym, ap, ◌∙◌, subst, ⊎_elim, append_assoc, length-append}
use Rattle.std.proofs.Common.{arith}
use Rattle.std.specs.List.{AllByRecursion}
use Rattle.std.specs.Cmp.Lexicographic.{pointwise}
use Rattle.plain_graph.specs.Names.{IsName, is_name_byte}
use Rattle.gremlin_parse.specs.Grammar.{Gap, Exactly, Name, Number, Times, AreBlanks, is_blank, quote_byte}
use Rattle.gremlin_parse.specs.Faults.{EndsRun, IsOutOfBounds}
use Rattle.gremlin_parse.specs.Reading.{first_byte, StopsBefore, Then, StartsName, StartsNumber}
use Rattle.gremlin_parse.specs.Keywords.{Entry, InTable, lookup, ThenWord, plain}
use Rattle.gremlin_parse.specs.Symbols.{Symbol, AnyBlanks, AnyGap, Sign, OneWord, AnyName, AnyNumber, AnyTimes}
use Rattle.gremlin_parse.specs.Symbols.{AnyValue, AnyClosed, Content, Contents, part, Takes, Reads, ReadsAll, IsBad}
use Rattle.gremlin_parse.specs.Symbols.{LeavesAt, Leaves, LeavesOne, Follows, BadFollows}
use Rattle.gremlin_parse.specs.Stopping.{Bads, IsStop}
use Rattle.gremlin_parse.specs.declared.bad_token.BadToken.{BadToken}
use Rattle.gremlin_parse.specs.declared.stop.Stop.{Stop}
use Rattle.gremlin_parse.specs.declared.stop.Stop.TheVariants as stops
use Rattle.gremlin_parse.proofs.Runs.{both, Halts, EndsRun-first_byte}
use Rattle.gremlin_parse.proofs.Stops.{Continues, stops_after, stops_here, stops_in_word, stops_of_same}
use Rattle.gremlin_parse.proofs.Differing.{LeavesWord-refuses}
use Rattle.gremlin_parse.proofs.Names.{name_starts, StartsName-first_byte}
use Rattle.gremlin_parse.proofs.Decimals.{number_starts, StartsNumber-first_byte}
use Rattle.gremlin_parse.proofs.Tables.{pointwise_same, all_of, IsWordTable, is_word, stops_in_table, no_word}
use Rattle.gremlin_parse.proofs.ValueStops.{value_stops, value_refuses, no_bad_value}
use Rattle.gremlin_parse.proofs.Symbols.{One, Class, passes, class_of, are_keywords, is_symbol, halts, takes_unique}
use Rattle.gremlin_parse.proofs.Symbols.{closed_bytes, closed_run, closed_starts, takes_again, after_symbol, part_halts}
use Rattle.gremlin_parse.proofs.Symbols.{bad_halts, not_bad, example}

-- ---- productions

-- Which classes what stands after the last symbol begins with no byte of.
abbrev pub Enders : Type 0
Enders = Class → Bool

-- Each symbol is ended by what follows it.
abbrev pub is_production : Enders → List Symbol → Bool
is_production enders [] = true
is_production enders (symbol ∷ symbols) = is_symbol symbol && (halts (class_of symbol) (enders (class_of symbol)) symbols && is_production enders symbols)

pub record IsProduction (enders : Enders) (symbol : Symbol) (symbols : List Symbol) : Type 0 where
  pub head : is_symbol symbol ≡ true
  pub ended : halts (class_of symbol) (enders (class_of symbol)) symbols ≡ true
  pub later : is_production enders symbols ≡ true

pub split : (enders : Enders) (symbol : Symbol) (symbols : List Symbol) → is_production enders (symbol ∷ symbols) ≡ true → IsProduction enders symbol symbols
split enders symbol symbols is =
    let one = both (is_symbol symbol) (halts (class_of symbol) (enders (class_of symbol)) symbols && is_production enders symbols) is in
    let two = both (halts (class_of symbol) (enders (class_of symbol)) symbols) (is_production enders symbols) one.1 in
    record { head = one.0; ended = two.0; later = two.1 }

-- The language begins with no byte of these classes.
abbrev pub HaltsAt : Enders → (List ℕ → Type 0) → Type 0
HaltsAt enders Language = (class : Class) → enders class ≡ true → Halts (passes class) Language

abbrev pub AreWithin : Bads → Type 0
AreWithin Bad = (kind : BadToken) (place : ℕ) (bytes : List ℕ) → Bad kind place bytes → place ≤ length bytes

-- What may stand after the last symbol of a production.
pub record Closes (enders : Enders) (Last : List ℕ → Type 0) (Bad : Bads) : Type 0 where
  pub ends : HaltsAt enders Last
  pub bads_end : (kind : BadToken) (left : ℕ) → HaltsAt enders (Bad kind left)
  pub within : AreWithin Bad
  pub line : List ℕ
  pub some : Last line

pub follows_halts : (class : Class) (end : Bool) (symbols : List Symbol) → halts class end symbols ≡ true → (Last : Contents symbols → List ℕ → Type 0)
    → ((contents : Contents symbols) → end ≡ true → Halts (passes class) (Last contents)) → Halts (passes class) (Follows symbols Last)
follows_halts class end [] is Last last = λ bytes at. last tt is bytes at
follows_halts class end (symbol ∷ symbols) is Last last = λ bytes (content, allows, (prefix, rest, bytes_are, part_is, later)).
    subst (EndsRun (passes class)) (sym bytes_are) (part_halts class end symbol symbols is content allows prefix rest part_is
    (λ more. follows_halts class end symbols more (λ contents. Last (content, contents)) (λ contents. last (content, contents)) rest later))

pub bad_follows_halts : (class : Class) (end : Bool) (symbols : List Symbol) → halts class end symbols ≡ true → (Bad : Bads) (kind : BadToken) (left : ℕ)
    → (end ≡ true → Halts (passes class) (Bad kind left)) → Halts (passes class) (BadFollows symbols Bad kind left)
bad_follows_halts class end [] is Bad kind left bads = bads is
bad_follows_halts class end (symbol ∷ symbols) is Bad kind left bads = λ bytes at.
    ⊎_elim
    (λ (here : IsBad symbol kind left bytes). bad_halts class end symbol symbols is kind left bytes here)
    (λ ((content, allows, (prefix, rest, bytes_are, part_is, later)) : One symbol (BadFollows symbols Bad kind left) bytes).
    subst (EndsRun (passes class)) (sym bytes_are) (part_halts class end symbol symbols is content allows prefix rest part_is
    (λ more. bad_follows_halts class end symbols more Bad kind left bads rest later)))
    at

-- some line of a production
pub some_line : (enders : Enders) (symbols : List Symbol) → is_production enders symbols ≡ true → (Last : Contents symbols → List ℕ → Type 0)
    → ((contents : Contents symbols) → (line : List ℕ) × Last contents line) → (line : List ℕ) × Follows symbols Last line
some_line enders [] is Last some = some tt
some_line enders (symbol ∷ symbols) is Last some =
    let all = split enders symbol symbols is in
    let one = example symbol all.head in
    let later = some_line enders symbols all.later (λ contents. Last (one.content, contents)) (λ contents. some (one.content, contents)) in
    (one.prefix ++ later.0, (one.content, one.allowed, (one.prefix, later.0, refl, one.is, later.1)))

follows_within : (symbols : List Symbol) (Bad : Bads) → AreWithin Bad → AreWithin (BadFollows symbols Bad)
follows_within [] Bad within = within
follows_within (symbol ∷ symbols) Bad within = λ kind place bytes at.
    ⊎_elim
    (λ ((content, bad, rest, takes, place_is) : IsBad symbol kind place bytes). omega (arith, place_is))
    (λ ((content, allows, (prefix, rest, bytes_are, part_is, later)) : One symbol (BadFollows symbols Bad kind place) bytes).
    let le = follows_within symbols Bad within kind place rest later in
    let len : length bytes ≡ length prefix + length rest = ap length bytes_are ∙ length-append prefix rest in
    omega (arith, le, len))
    at

-- what was read and what follows it
pub read_follows : (symbols : List Symbol) (contents : Contents symbols) (Last : Contents symbols → List ℕ → Type 0) (bytes rest : List ℕ)
    → ReadsAll symbols contents bytes rest → Last contents rest → Follows symbols Last bytes
read_follows [] contents Last bytes rest same last = subst (Last tt) (sym same) last
read_follows (symbol ∷ symbols) contents Last bytes rest (middle, reads, later) last = (
  contents.0,
  reads.allowed,
  (
    reads.takes.prefix,
    middle,
    reads.takes.bytes_are,
    reads.takes.is,
    read_follows symbols contents.1
        (λ others. Last (contents.0, others)) middle rest later last,
  ),
)

-- ---- symbols, and others after them

abbrev pub joined : (one two : List Symbol) → Contents one → Contents two → Contents (one ++ two)
joined [] two contents others = others
joined (symbol ∷ one) two contents others = (contents.0, joined one two contents.1 others)

pub reads_after : (one two : List Symbol) (contents : Contents one) (others : Contents two) (bytes middle rest : List ℕ) → ReadsAll one contents bytes middle
    → ReadsAll two others middle rest → ReadsAll (one ++ two) (joined one two contents others) bytes rest
reads_after [] two contents others bytes middle rest same reads = subst (λ b. ReadsAll two others b rest) (sym same) reads
reads_after (symbol ∷ one) two contents others bytes middle rest (next, here, later) reads =
    (next, here, reads_after one two contents.1 others next middle rest later reads)

pub leaves_first : (one two : List Symbol) (bytes : List ℕ) (stop : Stop) → LeavesOne one bytes stop → LeavesOne (one ++ two) bytes stop
leaves_first [] two bytes stop leaves = absurd leaves
leaves_first (symbol ∷ one) two bytes stop (inl here) = inl here
leaves_first (symbol ∷ one) two bytes stop (inr (content, middle, reads, later)) = inr (content, middle, reads, leaves_first one two middle stop later)

-- What was read is part of the bytes.
pub read_within : (symbols : List Symbol) (contents : Contents symbols) (bytes rest : List ℕ) → ReadsAll symbols contents bytes rest
    → length rest ≤ length bytes
read_within [] contents bytes rest same = let len = ap length same in omega (arith, len)
read_within (symbol ∷ symbols) contents bytes rest (middle, reads, later) =
    let after = read_within symbols contents.1 middle rest later in
    let len : length bytes ≡ length reads.takes.prefix + length middle = ap length reads.takes.bytes_are ∙ length-append reads.takes.prefix middle in
    omega (arith, after, len)

-- ---- from what is left to the whole

-- After the read bytes, a language and its bad tokens go on as another language and its bad tokens.
pub record Goes (Line : List ℕ → Type 0) (Bad : Bads) (read : List ℕ) (Left : List ℕ → Type 0) (BadLeft : Bads) (rest : List ℕ) : Type 0 where
  pub line : Continues Line read Left rest
  pub onto : (kind : BadToken) (left : ℕ) → BadLeft kind left rest → Bad kind left (read ++ rest)
  pub back : (kind : BadToken) (left : ℕ) → Bad kind left (read ++ rest) → BadLeft kind left rest

-- a stop after what was read
pub stop_after : (Line : List ℕ → Type 0) (Bad : Bads) (Lack : Type 0) (Left : List ℕ → Type 0) (BadLeft : Bads) (LackLeft : Type 0) (bytes read rest : List ℕ)
    (stop : Stop) → bytes ≡ read ++ rest → (LackLeft → Lack) → Goes Line Bad read Left BadLeft rest → IsStop Left BadLeft LackLeft rest stop
    → IsStop Line Bad Lack bytes stop
stop_after Line Bad Lack Left BadLeft LackLeft bytes read rest stops.Memory bytes_are lack goes stop = lack stop
stop_after Line Bad Lack Left BadLeft LackLeft bytes read rest (stops.Syntax left) bytes_are lack goes stop = (
  stops_after Line Left bytes read rest left bytes_are goes.line stop.0,
  λ kind place bad. stop.1 kind place (goes.back kind place (subst (Bad kind place)
      bytes_are bad)),
)
stop_after Line Bad Lack Left BadLeft LackLeft bytes read rest (stops.Bad kind left) bytes_are lack goes stop = record {
  has = subst (Bad kind left) (sym bytes_are) (goes.onto kind left stop.has);
  first = λ other place bad. stop.first other place (goes.back other place (subst (Bad other place) bytes_are bad));
  read = read ++ stop.read;
  unread = stop.unread;
  bytes_are = bytes_are ∙ ap (λ r. read ++ r) stop.bytes_are ∙ sym (append_assoc read stop.read stop.unread);
  left_is = stop.left_is;
  viable = (stop.viable.0, subst Line (sym (append_assoc read stop.read stop.viable.0)) (goes.line.onto (stop.read ++ stop.viable.0) stop.viable.1));
}

-- ---- a stop at a symbol

no_blank : (prefix rest : List ℕ) → EndsRun is_blank (prefix ++ rest) → AreBlanks prefix → prefix ≢ [] → ⊥
no_blank [] rest ends are some = some refl
no_blank (b ∷ prefix) rest ends are some = let clash : true ≡ false = sym are.0 ∙ ends in cc

no_gap : (After : List ℕ → Type 0) (bytes : List ℕ) → EndsRun is_blank bytes → ¬ Then Gap After bytes
no_gap After bytes ends = λ (prefix, rest, whole, part_is, after). no_blank prefix rest (subst (EndsRun is_blank) whole ends) part_is.0 part_is.1

pub Then-name-starts : (After : List ℕ → Type 0) (name bytes : List ℕ) → Then (Name name) After bytes → StartsName bytes
Then-name-starts After name bytes (prefix, rest, whole, part_is, after) =
    subst StartsName (sym whole) (name_starts prefix rest (subst IsName (sym part_is.0) part_is.1))

Then-number-starts : (After : List ℕ → Type 0) (most number : ℕ) (bytes : List ℕ) → Then (Number most number) After bytes → StartsNumber bytes
Then-number-starts After most number bytes (prefix, rest, whole, part_is, after) = subst StartsNumber (sym whole) (number_starts prefix rest part_is.0)

Then-times-starts : (After : List ℕ → Type 0) (number : ℕ) (bytes : List ℕ) → Then (Times number) After bytes → StartsNumber bytes
Then-times-starts After number bytes (prefix, rest, whole, part_is, after) = subst StartsNumber (sym whole) (number_starts prefix rest part_is.0)

-- words that stand for themselves are a table
listed : (words : List (List ℕ)) (entry : Entry (Unit {0})) → InTable entry (plain words) → lookup (plain words) entry.0 ≡ Some entry.1
listed [] entry within = absurd within
listed (word ∷ words) entry within =
    ⊎_elim
    (λ (same : entry ≡ (word, tt)). here entry.0 (ap (λ (e : Entry (Unit {0})). e.0) same))
    (λ (later : InTable entry (plain words)). there (listed words entry later) (pointwise nat_eq word entry.0))
    within
  where
    here : (run : List ℕ) → run ≡ word → lookup (plain (word ∷ words)) run ≡ Some tt
    here run same = subst (λ w. lookup (plain (word ∷ words)) w ≡ Some tt) (sym same)
        (ap (λ t. cond t (Some tt) (lookup (plain words) word)) (pointwise_same word))

    there : lookup (plain words) entry.0 ≡ Some entry.1 → (t : Bool) → cond t (Some tt) (lookup (plain words) entry.0) ≡ Some entry.1
    there later true = refl
    there later false = later

keywords_are_words : (words : List (List ℕ)) → are_keywords words ≡ true → AllByRecursion (λ (entry : Entry (Unit {0})). is_word entry.0 ≡ true) (plain words)
keywords_are_words [] are = tt
keywords_are_words ([] ∷ words) are = cc
keywords_are_words ((b ∷ word) ∷ words) are = let two = both (is_word (b ∷ word)) (are_keywords words) are in (two.0, keywords_are_words words two.1)

plain_table : (words : List (List ℕ)) → are_keywords words ≡ true → IsWordTable (plain words)
plain_table words are = record {
  words = keywords_are_words words are;
  named = all_of (λ entry. lookup (plain words) entry.0 ≡ Some entry.1) (plain words)
      (listed words);
}

-- Where no part of the symbol goes on so, no line of it and no bad token stands there.
pub record Refuses (symbol : Symbol) (After : List ℕ → Type 0) (bytes : List ℕ) (left : ℕ) : Type 0 where
  pub stop : StopsBefore (One symbol After) bytes left
  pub no_bad : (kind : BadToken) (place : ℕ) → ¬ IsBad symbol kind place bytes

abbrev pub Ended : Symbol → (List ℕ → Type 0) → Type 0
Ended symbol After = Halts (passes (class_of symbol)) After

pub refuses_at : (symbol : Symbol) (After : List ℕ → Type 0) → is_symbol symbol ≡ true → Ended symbol After → (line : List ℕ) → After line
    → (bytes : List ℕ) (left : ℕ) → LeavesAt symbol bytes left → Refuses symbol After bytes left
refuses_at AnyBlanks After is ends line some bytes left leaves = absurd leaves
refuses_at AnyGap After is ends line some bytes left (left_is, blankless) = record {
  stop = subst (StopsBefore (One AnyGap After) bytes) (sym left_is) (stops_here (One AnyGap After) bytes (codes " " ++ line)
      (tt, tt, (codes " ", line, refl, ((refl, tt), λ none. cc), some)) (λ more same (content, allows, then). no_gap After more
      (EndsRun-first_byte is_blank bytes more same blankless) then));
  no_bad = λ kind place bad. bad.1;
}
refuses_at (Sign sign) After is ends line some bytes left leaves = record {
  stop = stops_of_same (One (Sign sign) After) (Then (Exactly sign) After) bytes left (λ more then. (tt, tt, then)) (λ more same (content, allows, then). then)
      (stops_in_word After sign bytes line left some leaves);
  no_bad = λ kind place bad. bad.1;
}
refuses_at (OneWord []) After is ends line some bytes left leaves = cc
refuses_at (OneWord (word ∷ words)) After is ends line some bytes left leaves = record {
  stop = stops_of_same (One (OneWord (word ∷ words)) After) (ThenWord (plain (word ∷ words)) (λ _. After)) bytes left
      (λ more (entry, within, then). (entry.0, within, then))
      (λ more same (this, within, then). ((this, tt), within, then))
      (stops_in_table (word, tt) (plain words) (plain_table (word ∷ words) is) (λ _. After) (λ _. ends) (λ _. (line, some)) bytes left leaves);
  no_bad = λ kind place bad. bad.1;
}
refuses_at AnyName After is ends line some bytes left (left_is, nameless) = record {
  stop = subst (StopsBefore (One AnyName After) bytes) (sym left_is) (stops_here (One AnyName After) bytes (codes "a" ++ line)
      (codes "a", tt, (codes "a", line, refl, (refl, (refl, tt)), some)) (λ more same (name, allows, then). nameless (StartsName-first_byte more bytes same
      (Then-name-starts After name more then))));
  no_bad = λ kind place (name, bad, rest, takes, at). nameless (subst StartsName (sym takes.bytes_are) (name_starts takes.prefix rest
      (subst IsName (sym takes.is.0) takes.is.1)));
}
refuses_at (AnyNumber most) After is ends line some bytes left (left_is, numberless) = record {
  stop = subst (StopsBefore (One (AnyNumber most) After) bytes) (sym left_is)
      (stops_here (One (AnyNumber most) After) bytes (codes "0" ++ line) (0, tt, (codes "0", line, refl, (refl, refl), some))
      (λ more same (number, allows, then). numberless (StartsNumber-first_byte more bytes same (Then-number-starts After most number more then))));
  no_bad = λ kind place (number, bad, rest, takes, at). numberless (subst StartsNumber (sym takes.bytes_are) (number_starts takes.prefix rest takes.is.0));
}
refuses_at AnyTimes After is ends line some bytes left (left_is, numberless) = record {
  stop = subst (StopsBefore (One AnyTimes After) bytes) (sym left_is) (stops_here (One AnyTimes After) bytes (codes "0" ++ line)
      (0, tt, (codes "0", line, refl, (refl, refl), some)) (λ more same (number, allows, then). numberless (StartsNumber-first_byte more bytes same
      (Then-times-starts After number more then))));
  no_bad = λ kind place (number, bad, rest, takes, at). numberless (subst StartsNumber (sym takes.bytes_are) (number_starts takes.prefix rest takes.is.0));
}
refuses_at (AnyClosed double) After is ends line some bytes left (inl (left_is, nameless)) = record {
  stop = subst (StopsBefore (One (AnyClosed double) After) bytes) (sym left_is)
      (stops_here (One (AnyClosed double) After) bytes ((codes "a" ++ quote_byte double ∷ []) ++ line)
      (codes "a", tt, (codes "a" ++ quote_byte double ∷ [], line, refl, (refl, (refl, tt)), some))
      (λ more same (name, allows, (prefix, rest, whole, part_is, after)). nameless (StartsName-first_byte more bytes same
      (closed_starts double name more prefix rest part_is whole))));
  no_bad = λ kind place (name, bad, rest, takes, at). nameless (closed_starts double name bytes takes.prefix rest takes.is takes.bytes_are);
}
refuses_at (AnyClosed double) After is ends line some bytes left (inr (name, unread, whole, name_is, stops, differs, left_is)) = record {
  stop = record {
    read = name;
    unread = unread;
    bytes_are = whole;
    left_is = left_is;
    viable = (
      quote_byte double ∷ line,
      (
        name,
        tt,
        (
          name ++ quote_byte double ∷ [],
          line,
          sym (append_assoc name (quote_byte double ∷ []) line),
          (refl, name_is),
          some,
        ),
      ),
    );
    none = λ more same (other, allows, (prefix, rest, there, part_is, after)).
        let run = closed_run double other name rest more part_is.1 name_is (EndsRun-first_byte is_name_byte unread more same stops)
        (sym (closed_bytes double other (name ++ more) prefix rest part_is.0 there)) in
        differs (sym same ∙ sym (ap first_byte run.1));
  };
  no_bad = λ kind place (other, bad, rest, takes, at).
      let run = closed_run double other name rest unread takes.is.1 name_is stops
      (sym (closed_bytes double other bytes takes.prefix rest takes.is.0 takes.bytes_are) ∙ whole) in
      differs (sym (ap first_byte run.1));
}
refuses_at AnyValue After is ends line some bytes left leaves = record {
  stop = value_stops After ends line bytes left some leaves;
  no_bad = no_bad_value bytes
      left leaves;
}

-- No line of the symbol stands where reading stops in it.
pub no_one : (symbol : Symbol) (After : List ℕ → Type 0) → is_symbol symbol ≡ true → Ended symbol After → (bytes : List ℕ) (left : ℕ)
    → LeavesAt symbol bytes left → ¬ One symbol After bytes
no_one AnyBlanks After is ends bytes left leaves = λ one. leaves
no_one AnyGap After is ends bytes left leaves = λ (content, allows, then). no_gap After bytes leaves.1 then
no_one (Sign sign) After is ends bytes left leaves = λ (content, allows, (prefix, rest, whole, part_is, after)).
    LeavesWord-refuses sign bytes rest left leaves (whole ∙ ap (λ w. w ++ rest) part_is)
no_one (OneWord []) After is ends bytes left leaves = cc
no_one (OneWord (word ∷ words)) After is ends bytes left leaves = λ (this, within, then).
    no_word (plain (word ∷ words)) (plain_table (word ∷ words) is) (λ _. After) (λ _. ends) bytes left leaves ((this, tt), within, then)
no_one AnyName After is ends bytes left leaves = λ (name, allows, then). leaves.1 (Then-name-starts After name bytes then)
no_one (AnyNumber most) After is ends bytes left leaves = λ (number, allows, then). leaves.1 (Then-number-starts After most number bytes then)
no_one AnyTimes After is ends bytes left leaves = λ (number, allows, then). leaves.1 (Then-times-starts After number bytes then)
no_one (AnyClosed double) After is ends bytes left (inl (left_is, nameless)) = λ (name, allows, (prefix, rest, whole, part_is, after)).
    nameless (closed_starts double name bytes prefix rest part_is whole)
no_one (AnyClosed double) After is ends bytes left (inr (name, unread, whole, name_is, stops, differs, left_is)) =
    λ (other, allows, (prefix, rest, there, part_is, after)).
    let run = closed_run double other name rest unread part_is.1 name_is stops (sym (closed_bytes double other bytes prefix rest part_is.0 there) ∙ whole) in
    differs (sym (ap first_byte run.1))
no_one AnyValue After is ends bytes left leaves = value_refuses After ends bytes left leaves

module _ (enders : Enders) (symbol : Symbol) (symbols : List Symbol) (is : is_production enders (symbol ∷ symbols) ≡ true) (Last : List ℕ → Type 0) (Bad : Bads)
    (closes : Closes enders Last Bad) where
  -- after a symbol within its bounds
  goes_symbol : (content : Content symbol) (bytes rest : List ℕ) → (reads : Reads symbol content bytes rest)
      → Goes (Follows (symbol ∷ symbols) (λ _. Last)) (BadFollows (symbol ∷ symbols) Bad) reads.takes.prefix (Follows symbols (λ _. Last))
      (BadFollows symbols Bad) rest
  goes_symbol content bytes rest reads =
      let all = split enders symbol symbols is in
      let takes = reads.takes in
      let ends : Ended symbol (Follows symbols (λ _. Last)) = follows_halts (class_of symbol) (enders (class_of symbol)) symbols all.ended (λ _. Last)
      (λ _. closes.ends (class_of symbol)) in
      let bads : (kind : BadToken) (left : ℕ) → Ended symbol (BadFollows symbols Bad kind left) = λ kind left.
      bad_follows_halts (class_of symbol) (enders (class_of symbol)) symbols all.ended Bad kind left (closes.bads_end kind left (class_of symbol)) in
      let here : Takes symbol content (takes.prefix ++ rest) rest = takes_again symbol content bytes rest rest takes refl in
      record {
        line = record {
          onto = λ more after. (content, reads.allowed, (takes.prefix, more, refl, takes.is, after));
          back = λ more same (other, allows, then). (after_symbol symbol all.head (Follows symbols (λ _. Last)) ends content other allows (takes.prefix ++ more)
              more (takes_again symbol content bytes rest more takes same) then).1;
        };
        onto = λ kind left bad. inr (content, reads.allowed, (takes.prefix, rest, refl, takes.is, bad));
        back = λ kind left bad. ⊎_elim
            (λ ((other, out, more, there, place) : IsBad symbol kind left (takes.prefix ++ rest)).
            let same = takes_unique symbol content other (takes.prefix ++ rest) rest more here there in
            let is_out : IsOutOfBounds (part symbol content) kind = subst (λ v. IsOutOfBounds (part symbol v) kind) (sym same.0) out in
            absurd (not_bad kind (part symbol content) reads.bounded is_out))
            (λ ((other, allows, then) : One symbol (BadFollows symbols Bad kind left) (takes.prefix ++ rest)).
            (after_symbol symbol all.head (BadFollows symbols Bad kind left) (bads kind left) content other allows (takes.prefix ++ rest) rest here then).1)
            bad;
      }

  stop_at_symbol : (Lack : Type 0) (bytes : List ℕ) (stop : Stop) → Leaves symbol bytes stop
      → IsStop (Follows (symbol ∷ symbols) (λ _. Last)) (BadFollows (symbol ∷ symbols) Bad) Lack bytes stop
  stop_at_symbol Lack bytes stops.Memory leaves = absurd leaves
  stop_at_symbol Lack bytes (stops.Syntax left) leaves =
      let all = split enders symbol symbols is in
      let ends : Ended symbol (Follows symbols (λ _. Last)) = follows_halts (class_of symbol) (enders (class_of symbol)) symbols all.ended (λ _. Last)
      (λ _. closes.ends (class_of symbol)) in
      let bads : (kind : BadToken) (place : ℕ) → Ended symbol (BadFollows symbols Bad kind place) = λ kind place.
      bad_follows_halts (class_of symbol) (enders (class_of symbol)) symbols all.ended Bad kind place (closes.bads_end kind place (class_of symbol)) in
      let line = some_line enders symbols all.later (λ _. Last) (λ _. (closes.line, closes.some)) in
      let refuses = refuses_at symbol (Follows symbols (λ _. Last)) all.head ends line.0 line.1 bytes left leaves in (
        refuses.stop,
        λ kind place bad. ⊎_elim
            (λ (here : IsBad symbol kind place bytes). refuses.no_bad kind place here)
            (λ (one : One symbol (BadFollows symbols Bad kind place) bytes). no_one symbol (BadFollows symbols Bad kind place) all.head (bads kind place)
            bytes left leaves one)
            bad,
      )
  stop_at_symbol Lack bytes (stops.Bad kind left) leaves =
      let line = some_line enders (symbol ∷ symbols) is (λ _. Last) (λ _. (closes.line, closes.some)) in
      let left_is : left ≡ length bytes = leaves.4 in
      record {
        has = inl leaves;
        first = λ other place bad. let le = follows_within (symbol ∷ symbols) Bad closes.within other place bytes bad in omega (arith, le, left_is);
        read = [];
        unread = bytes;
        bytes_are = refl;
        left_is = left_is;
        viable = line;
      }

-- where reading stops in a symbol of a production
pub stop_among : (enders : Enders) (symbols : List Symbol) → is_production enders symbols ≡ true → (Last : List ℕ → Type 0) (Bad : Bads)
    → Closes enders Last Bad → (Lack : Type 0) (bytes : List ℕ) (stop : Stop) → LeavesOne symbols bytes stop
    → IsStop (Follows symbols (λ _. Last)) (BadFollows symbols Bad) Lack bytes stop
stop_among enders [] is Last Bad closes Lack bytes stop leaves = absurd leaves
stop_among enders (symbol ∷ symbols) is Last Bad closes Lack bytes stop leaves =
    ⊎_elim
    (λ (here : Leaves symbol bytes stop). stop_at_symbol enders symbol symbols is Last Bad closes Lack bytes stop here)
    (λ ((content, middle, reads, later) : (content : Content symbol) × (middle : List ℕ) × Reads symbol content bytes middle × LeavesOne symbols middle stop).
    stop_after (Follows (symbol ∷ symbols) (λ _. Last)) (BadFollows (symbol ∷ symbols) Bad) Lack (Follows symbols (λ _. Last)) (BadFollows symbols Bad) Lack
    bytes reads.takes.prefix middle stop reads.takes.bytes_are (λ lack. lack)
    (goes_symbol enders symbol symbols is Last Bad closes content bytes middle reads)
    (stop_among enders symbols (split enders symbol symbols is).later Last Bad closes Lack middle stop later))
    leaves

-- where reading stops after a production
pub stop_after_all : (enders : Enders) (symbols : List Symbol) → is_production enders symbols ≡ true → (Last : List ℕ → Type 0) (Bad : Bads)
    → Closes enders Last Bad → (Lack : Type 0) (contents : Contents symbols) (bytes rest : List ℕ) (stop : Stop) → ReadsAll symbols contents bytes rest
    → IsStop Last Bad Lack rest stop → IsStop (Follows symbols (λ _. Last)) (BadFollows symbols Bad) Lack bytes stop
stop_after_all enders [] is Last Bad closes Lack contents bytes rest stop same at = subst (λ b. IsStop Last Bad Lack b stop) (sym same) at
stop_after_all enders (symbol ∷ symbols) is Last Bad closes Lack contents bytes rest stop (middle, reads, later) at =
    stop_after (Follows (symbol ∷ symbols) (λ _. Last)) (BadFollows (symbol ∷ symbols) Bad) Lack (Follows symbols (λ _. Last)) (BadFollows symbols Bad) Lack
    bytes reads.takes.prefix middle stop reads.takes.bytes_are (λ lack. lack)
    (goes_symbol enders symbol symbols is Last Bad closes contents.0 bytes middle reads)
    (stop_after_all enders symbols (split enders symbol symbols is).later Last Bad closes Lack contents.1 middle rest stop later at)
