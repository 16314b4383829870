-- From the bytes after the blanks to the whole line.
use Rattle.std.proofs.Common.{◌≡◌, ◌+◌, ◌-◌, ◌≤◌, ◌⊎◌, inl, inr, ℕ, true, false, codes, Option, Some, None, List, []}
use Rattle.std.proofs.Common.{◌∷◌, ◌++◌, length, refl, sym, ap, ◌∙◌, subst, ⊎_elim, append_assoc, length-append, arith}
use Rattle.std.proofs.lemmas.List.{append-nil}
use Rattle.std.specs.List.{AllByRecursion}
use Rattle.plain_graph.specs.declared.command.Command.{Command}
use Rattle.plain_graph.specs.declared.command.Command.TheVariants as commands
use Rattle.gremlin_parse.specs.Commands.{BadAfter, BadLast, BadTail, IsAfter, IsCommand, IsPlain, IsSomeTail, IsTail}
use Rattle.gremlin_parse.specs.Commands.{KeepsBounds, KeepsTail, LacksMemory, LastContent, LastOf, SpellsAfter}
use Rattle.gremlin_parse.specs.Commands.{command_of, head_words, last_part, parts_of, production, word_of}
use Rattle.gremlin_parse.specs.Grammar.{Part, Blanks, Exactly, IsMadeOf, IsBounded, AreBlanks, is_blank}
use Rattle.gremlin_parse.specs.Lines.{AfterFront, AfterG, BadLine, IsLooseTail, IsKeptTail, IsFaultyTail, NeedsMemory, SpellsLoosely, Spells, IsLine}
use Rattle.gremlin_parse.specs.Tags.{IsTag, LeavesTag, ReadsTag, after_tag, is_at, session_first}
use Rattle.gremlin_parse.specs.Queries.{Start, turn, is_loose, QueryTo, IsKeptQuery}
use Rattle.gremlin_parse.specs.Keywords.{ThenWord}
use Rattle.plain_graph.specs.Names.{is_name_byte}
use Rattle.gremlin_parse.proofs.Walks.{loose_within}
use Rattle.gremlin_parse.proofs.QueryPlaces.{are, some}
use Rattle.gremlin_parse.proofs.QueryLaws.{IsAsked, query_halts, query_is_asked, query_of_kept, kept_query_no_bad}
use Rattle.gremlin_parse.specs.Faults.{EndsRun}
use Rattle.gremlin_parse.specs.Reading.{Then, BadParts, first_byte}
use Rattle.gremlin_parse.specs.Symbols.{AnyBlanks, Takes}
use Rattle.gremlin_parse.specs.Stopping.{IsStop, StopsWith, BadInOne}
use Rattle.gremlin_parse.specs.Lasts.{last_parts}
use Rattle.gremlin_parse.specs.declared.bad_token.BadToken.{BadToken}
use Rattle.gremlin_parse.specs.declared.head.Head.{Head}
use Rattle.gremlin_parse.specs.declared.head.Head.TheVariants as heads
use Rattle.gremlin_parse.specs.declared.stop.Stop.{Stop}
use Rattle.gremlin_parse.specs.declared.stop.Stop.TheVariants as stops
use Rattle.gremlin_parse.proofs.Runs.{EndsRun-first_byte, Halts, run_is_unique}
use Rattle.gremlin_parse.proofs.Tables.{lookup_in, words_agree}
use Rattle.gremlin_parse.proofs.Symbols.{NameByte, no_blanks, takes_again, after_symbol}
use Rattle.gremlin_parse.proofs.Productions.{Goes, stop_after}
use Rattle.gremlin_parse.proofs.Spelling.{parts_with, made_of_then, then_of_made, then_parts_map, bad_then_of_parts}
use Rattle.gremlin_parse.proofs.Spelling.{bad_then_map, bad_parts_choice, bad_follows_of_then, then_of_bad_follows}
use Rattle.gremlin_parse.proofs.Spelling.{no_bad_within}
use Rattle.gremlin_parse.proofs.Repeats.{all_split, bad_parts_within}
use Rattle.gremlin_parse.proofs.Lasts.{some_last, last_no_bad, last_made, made_last, bad_last, last_bad}
use Rattle.gremlin_parse.proofs.Heads.{named, entry_word, production_is, last_closes, bad_after_halts, word_halts}
use Rattle.gremlin_parse.proofs.Heads.{word_untagged, head_table, no_word_in_nothing}
use Rattle.gremlin_parse.proofs.Tags.{after_tagged, after_unfinished, after_untagged, rest_is, unfinished_of}
use Rattle.gremlin_parse.proofs.Commands.{spells_halts, Spelled, spelled_of_contents, contents_of_spelled, some_spelled}
use Rattle.gremlin_parse.proofs.Commands.{spelled_is_some, tail_parts, command_parts, is_command, Sentence, sentence_of}
use Rattle.gremlin_parse.proofs.Commands.{sentence_parts}

-- ---- spelled by parts, and by the table

query_or_plain : (head : Head) → (head ≡ heads.Query) ⊎ IsPlain head
query_or_plain heads.Query = inl refl
query_or_plain head = inr refl

-- a command's tail, by the table
tail_plain : (command : Command) → IsCommand command → (bytes : List ℕ) → IsMadeOf (parts_of command) bytes → IsTail command bytes
tail_plain command is bytes made =
    ⊎_elim
    (λ (blank : command ≡ commands.Blank). let found : IsTail command bytes = inl (blank, subst (λ c. IsMadeOf (parts_of c) bytes) blank made) in found)
    (λ (sentence : Sentence command).
    let head = sentence.head in
    let parts = parts_with (production head) sentence.contents in
    let these : IsMadeOf (Exactly (word_of head) ∷ tail_parts head sentence.contents sentence.last) bytes =
    subst (λ parts. IsMadeOf parts bytes) (sentence_parts command sentence) made in
    let (word, after, whole, word_is, tail) = these in
    let last = then_parts_map (IsMadeOf (last_parts (last_part head) sentence.last)) (LastOf head sentence.last)
    (made_last (last_part head) sentence.plain sentence.last) parts after (then_of_made parts (last_parts (last_part head) sentence.last) after tail) in
    let spelled : Spelled command head after = record {
      contents = sentence.contents;
      allowed = sentence.allowed;
      last = sentence.last;
      is = sentence.is;
      made =
          last;
    } in
    let found : IsTail command bytes = inr (
      (word_of head, head),
      lookup_in head_words (word_of head) head (named head),
      (word, after, whole, word_is, spelled_of_contents command head after spelled),
    ) in
    found)
    (sentence_of command is)

loose_tail : (command : Command) (bytes : List ℕ) → IsLooseTail command bytes → IsTail command bytes
loose_tail (commands.Query query) bytes (word, rest, whole, word_is, to) =
    inr (
      (codes "g", heads.Query),
      lookup_in head_words (codes "g") heads.Query (named heads.Query),
      (
        word,
        rest,
        whole,
        word_is,
        (commands.Query query, refl, to),
      ),
    )
loose_tail (commands.Mutate reading mutation) bytes (word, rest, whole, word_is, to) =
    inr (
      (codes "g", heads.Query),
      lookup_in head_words (codes "g") heads.Query (named heads.Query),
      (
        word,
        rest,
        whole,
        word_is,
        (commands.Mutate reading mutation, refl, to),
      ),
    )
loose_tail command bytes made = tail_plain command tt bytes made

loosely : (command : Command) → IsCommand command → (bytes : List ℕ) → IsMadeOf (parts_of command) bytes → IsLooseTail command bytes
loosely (commands.Query query) is bytes made = absurd is
loosely (commands.Mutate reading mutation) is bytes made = absurd is
loosely command is bytes made = made

-- What a query asks for is spelled by no parts.
asked_is_none : (command : Command) → IsAsked command → ¬ IsCommand command
asked_is_none (commands.Query query) is = λ none. none
asked_is_none (commands.Mutate reading mutation) is = λ none. none
asked_is_none command is = absurd is

-- what a query asks for, by its places
asked_loosely : (command : Command) → IsAsked command → (bytes : List ℕ) → AfterG (QueryTo command) bytes → IsLooseTail command bytes
asked_loosely (commands.Query query) is bytes to = to
asked_loosely (commands.Mutate reading mutation) is bytes to = to
asked_loosely command is bytes to = absurd is

tail_loose : (command : Command) (bytes : List ℕ) → IsTail command bytes → IsLooseTail command bytes
tail_loose command bytes (inl (blank, end)) = subst (λ c. IsLooseTail c bytes) (sym blank) end
tail_loose command bytes (inr (entry, within, (word, after, whole, word_is, spells))) = ⊎_elim
    (λ (query : entry.1 ≡ heads.Query).
    let (asked, is, to) = subst (λ (h : Head). SpellsAfter command h after) query spells in
    subst (λ c. IsLooseTail c bytes) (sym is) (asked_loosely asked (query_is_asked asked after to) bytes (
      word,
      after,
      whole,
      word_is ∙ entry_word entry within
          ∙ ap word_of query,
      to,
    )))
    (λ (plain : IsPlain entry.1).
    let head = entry.1 in
    let spelled = contents_of_spelled command head after spells in
    let parts = parts_with (production head) spelled.contents in
    let tail : IsMadeOf (tail_parts head spelled.contents spelled.last) after =
    made_of_then parts (last_parts (last_part head) spelled.last) after
    (then_parts_map (LastOf head spelled.last) (IsMadeOf (last_parts (last_part head) spelled.last)) (last_made (last_part head) plain spelled.last)
    parts after spelled.made) in
    let these : IsMadeOf (Exactly (word_of head) ∷ tail_parts head spelled.contents spelled.last) bytes =
    (word, after, whole, word_is ∙ entry_word entry within, tail) in
    let made : IsMadeOf (parts_of (command_of head spelled.contents spelled.last)) bytes =
    subst (λ parts. IsMadeOf parts bytes) (sym (command_parts head spelled.contents spelled.last plain spelled.allowed)) these in
    subst (λ c. IsLooseTail c bytes) (sym spelled.is) (loosely (command_of head spelled.contents spelled.last) (is_command head spelled.contents spelled.last
    plain) bytes made))
    (query_or_plain entry.1)

front_map : (From To : List ℕ → Type 0) → ((bytes : List ℕ) → From bytes → To bytes) → (line : List ℕ) → AfterFront From line → AfterFront To line
front_map From To step line (blanks, bytes, whole, are, from) = (blanks, bytes, whole, are, step bytes from)

tail_halts : (command : Command) → Halts is_blank (IsTail command)
tail_halts command = λ bytes tail. ends bytes tail
  where
    ends : (bytes : List ℕ) → IsTail command bytes → EndsRun is_blank bytes
    ends bytes (inl (blank, end)) = subst (EndsRun is_blank) (sym end) tt
    ends bytes (inr word) = word_halts (SpellsAfter command) bytes word

-- the tail after the blanks
pub tail_after : (command : Command) (rest bytes : List ℕ) → Takes AnyBlanks tt rest bytes → AfterFront (IsLooseTail command) rest → IsTail command bytes
tail_after command rest bytes takes spelled = (after_symbol AnyBlanks refl (IsTail command) (tail_halts command) tt tt tt rest bytes takes
    (front_map (IsLooseTail command) (IsTail command) (loose_tail command) rest spelled)).1

pub spelled_after : (command : Command) (rest bytes : List ℕ) → Takes AnyBlanks tt rest bytes → IsTail command bytes → AfterFront (IsLooseTail command) rest
spelled_after command rest bytes takes tail = (takes.prefix, bytes, takes.bytes_are, takes.is, tail_loose command bytes tail)

some_tail : (command : Command) (bytes : List ℕ) → IsTail command bytes → IsSomeTail bytes
some_tail command bytes (inl (blank, end)) = inl end
some_tail command bytes (inr (entry, within, (word, after, whole, word_is, spells))) =
    inr (entry, within, (word, after, whole, word_is, spelled_is_some command entry.1 after spells))

tail_some : (bytes : List ℕ) → IsSomeTail bytes → (command : Command) × IsTail command bytes
tail_some bytes (inl end) = (commands.Blank, inl (refl, end))
tail_some bytes (inr (entry, within, (word, after, whole, word_is, is))) =
    let found = some_spelled entry.1 after is in
    (found.0, inr (entry, within, (word, after, whole, word_is, found.1)))

-- ---- bad tokens of the line

faulty_of_bad : (kind : BadToken) (left : ℕ) (bytes : List ℕ) → BadTail kind left bytes → IsFaultyTail kind left bytes
faulty_of_bad kind left bytes (entry, within, (word, after, whole, word_is, bad)) = ⊎_elim
    (λ (query : entry.1 ≡ heads.Query). inr (
      word,
      after,
      whole,
      word_is ∙ entry_word entry within ∙ ap word_of query,
      subst (λ (h : Head). BadAfter h kind left
          after) query bad,
    ))
    (λ (plain : IsPlain entry.1).
    let head = entry.1 in
    let found = then_of_bad_follows no_blanks (production head) (production_is head) (BadLast head) kind left after bad in
    let parts = parts_with (production head) found.contents in
    let (last, tail) = bad_parts_choice (LastContent head) (last_parts (last_part head)) (some_last (last_part head)) parts kind left after
    (bad_then_map (BadLast head) (BadInOne (last_parts (last_part head))) kind left (bad_last (last_part head) plain kind left) parts after found.bad) in
    let these : BadParts (Exactly (word_of head) ∷ tail_parts head found.contents last) kind left bytes =
    inr (word, after, whole, word_is ∙ entry_word entry within, tail) in
    inl (
      command_of head found.contents last,
      is_command head found.contents last plain,
      subst (λ parts. BadParts parts kind left bytes)
          (sym (command_parts head found.contents last plain found.allowed)) these,
    ))
    (query_or_plain entry.1)

faulty_within : (kind : BadToken) (left : ℕ) (bytes : List ℕ) → IsFaultyTail kind left bytes → left ≤ length bytes
faulty_within kind left bytes (inl (command, is, bad)) = bad_parts_within (parts_of command) kind left bytes bad
faulty_within kind left bytes (inr (word, rest, whole, word_is, bad)) =
    let le = loose_within turn is_loose are some Start kind left rest bad in
    let len : length bytes ≡ length word + length rest = ap length whole ∙ length-append word rest in
    omega (arith, le, len)

-- a bad token after what names the session, and the blanks
bad_onto : (kind : BadToken) (left : ℕ) (front blanks bytes : List ℕ) → AreBlanks blanks → after_tag (front ++ (blanks ++ bytes)) ≡ blanks ++ bytes
    → BadTail kind left bytes → BadLine kind left (front ++ (blanks ++ bytes))
bad_onto kind left front blanks bytes are_blanks rest_is bad =
    let line : List ℕ = front ++ (blanks ++ bytes) in
    let faulty = faulty_of_bad kind left bytes bad in
    let le = faulty_within kind left bytes faulty in
    let rest : length (blanks ++ bytes) ≡ length blanks + length bytes = length-append blanks bytes in
    let all : length (front ++ (blanks ++ bytes)) ≡ length front + length (blanks ++ bytes) = length-append front (blanks ++ bytes) in
    let place : (length (front ++ (blanks ++ bytes)) - left) + left ≡ length (front ++ (blanks ++ bytes)) = omega (arith, le, rest, all) in
    let there : AfterFront (IsFaultyTail kind left) (blanks ++ bytes) = (blanks, bytes, refl, are_blanks, faulty) in
    (length line - left, place, (left, place, subst (AfterFront (IsFaultyTail kind left)) (sym rest_is) there))

tail_of_sentence : (command : Command) (kind : BadToken) (left : ℕ) (bytes : List ℕ) → Sentence command → BadParts (parts_of command) kind left bytes
    → BadTail kind left bytes
tail_of_sentence command kind left bytes sentence bad = word_first (subst (λ parts. BadParts parts kind left bytes) (sentence_parts command sentence) bad)
  where
    word_first : BadParts (Exactly (word_of sentence.head) ∷ tail_parts sentence.head sentence.contents sentence.last) kind left bytes → BadTail kind left bytes
    word_first (inl here) = absurd here.5
    word_first (inr (word, after, whole, word_is, later)) =
        let head = sentence.head in
        let parts = parts_with (production head) sentence.contents in
        let then = bad_then_map (BadParts (last_parts (last_part head) sentence.last)) (BadLast head) kind left
        (λ rest these. last_bad (last_part head) sentence.plain kind left rest (sentence.last, these)) parts after
        (bad_then_of_parts parts (last_parts (last_part head) sentence.last) kind left after later) in (
          (word_of head, head),
          lookup_in head_words (word_of head) head (named head),
          (
            word,
            after,
            whole,
            word_is,
            bad_follows_of_then (production head)
                sentence.contents sentence.allowed (BadLast head) kind left after then,
          ),
        )

bad_of_faulty : (kind : BadToken) (left : ℕ) (bytes : List ℕ) → IsFaultyTail kind left bytes → BadTail kind left bytes
bad_of_faulty kind left bytes (inl (command, is, bad)) =
    ⊎_elim
    (λ (blank : command ≡ commands.Blank). absurd (subst (λ c. BadParts (parts_of c) kind left bytes) blank bad))
    (λ (sentence : Sentence command). tail_of_sentence command kind left bytes sentence bad)
    (sentence_of command is)
bad_of_faulty kind left bytes (inr (word, rest, whole, word_is, bad)) =
    ((codes "g", heads.Query), lookup_in head_words (codes "g") heads.Query (named heads.Query), (word, rest, whole, word_is, bad))

bad_tail_of_line : (kind : BadToken) (left : ℕ) (line : List ℕ) → BadLine kind left line → Then Blanks (BadTail kind left) (after_tag line)
bad_tail_of_line kind left line (at, place, (other, there, front)) =
    let same : other ≡ left = omega (arith, place, there) in
    front_map (IsFaultyTail kind left) (BadTail kind left) (bad_of_faulty kind left) (after_tag line)
    (subst (λ (n : ℕ). AfterFront (IsFaultyTail kind n) (after_tag line)) same front)

pub bad_tail_after : (kind : BadToken) (left : ℕ) (line rest bytes : List ℕ) → rest ≡ after_tag line → Takes AnyBlanks tt rest bytes → BadLine kind left line
    → BadTail kind left bytes
bad_tail_after kind left line rest bytes rest_is takes bad =
    let behind : Then Blanks (BadTail kind left) rest = subst (Then Blanks (BadTail kind left)) (sym rest_is) (bad_tail_of_line kind left line bad) in
    (after_symbol AnyBlanks refl (BadTail kind left) (word_halts (λ head. BadAfter head kind left)) tt tt tt rest bytes takes behind).1

-- ---- within the bounds

kept_loose : (command : Command) (bytes : List ℕ) → IsKeptTail command bytes → IsLooseTail command bytes
kept_loose (commands.Query query) bytes (word, rest, whole, word_is, kept) = (word, rest, whole, word_is, query_of_kept (commands.Query query) rest kept)
kept_loose (commands.Mutate reading mutation) bytes (word, rest, whole, word_is, kept) =
    (word, rest, whole, word_is, query_of_kept (commands.Mutate reading mutation) rest kept)
kept_loose command bytes tail = tail.0

pub spelled_loosely : (line : List ℕ) (command : Command) → Spells line command → SpellsLoosely line command
spelled_loosely line command spells = front_map (IsKeptTail command) (IsLooseTail command) (kept_loose command) (after_tag line) spells

-- ---- stops and faults of the line

-- After the front, what names a session is over: for all that begins like these bytes, and for all that some command has after blanks.
abbrev IsBehind : List ℕ → List ℕ → List ℕ → Type 0
IsBehind front blanks bytes = (more : List ℕ) → IsSomeTail more ⊎ (first_byte more ≡ first_byte bytes) → after_tag (front ++ (blanks ++ more)) ≡ blanks ++ more

goes_line : (front rest bytes : List ℕ) → (takes : Takes AnyBlanks tt rest bytes) → IsBehind front takes.prefix bytes
    → Goes IsLine BadLine (front ++ takes.prefix) IsSomeTail BadTail bytes
goes_line front rest bytes takes behind = record {
  line = record {
    onto = λ more some.
        let found = tail_some more some in
        let spelled : AfterFront (IsLooseTail found.0) (takes.prefix ++ more) = (takes.prefix, more, refl, takes.is, tail_loose found.0 more found.1) in
        (found.0, subst (AfterFront (IsLooseTail found.0)) (sym (rest_of more (inl some))) spelled);
    back = λ more same (command, spelled).
        some_tail command more (tail_after command (takes.prefix ++ more) more (takes_again AnyBlanks tt rest bytes more takes same)
        (subst (AfterFront (IsLooseTail command)) (rest_of more (inr same)) spelled));
  };
  onto = λ kind left bad. subst (BadLine kind left) (sym (append_assoc front takes.prefix bytes))
      (bad_onto kind left front takes.prefix bytes takes.is (behind bytes (inr refl)) bad);
  back = λ kind left bad.
      bad_tail_after kind left ((front ++ takes.prefix) ++ bytes) (takes.prefix ++ bytes) bytes (sym (rest_of bytes (inr refl)))
      (takes_again AnyBlanks tt rest bytes bytes takes refl) bad;
}
  where
    rest_of : (more : List ℕ) → IsSomeTail more ⊎ (first_byte more ≡ first_byte bytes) → after_tag ((front ++ takes.prefix) ++ more) ≡ takes.prefix ++ more
    rest_of more either = ap after_tag (append_assoc front takes.prefix more) ∙ behind more either

stop_behind : (Lack LackLeft : Type 0) (front rest bytes : List ℕ) (stop : Stop) → (takes : Takes AnyBlanks tt rest bytes) → IsBehind front takes.prefix bytes
    → (LackLeft → Lack) → IsStop IsSomeTail BadTail LackLeft bytes stop → IsStop IsLine BadLine Lack (front ++ rest) stop
stop_behind Lack LackLeft front rest bytes stop takes behind lack at =
    stop_after IsLine BadLine Lack IsSomeTail BadTail LackLeft (front ++ rest) (front ++ takes.prefix) bytes stop
    (ap (λ (r : List ℕ). front ++ r) takes.bytes_are ∙ sym (append_assoc front takes.prefix bytes)) lack (goes_line front rest bytes takes behind) at

-- ---- the sign before a session

some_untagged : (bytes : List ℕ) → IsSomeTail bytes → EndsRun is_at bytes
some_untagged bytes (inl end) = subst (EndsRun is_at) (sym end) tt
some_untagged bytes (inr word) = word_untagged IsAfter bytes word

some_starts : (bytes : List ℕ) → IsSomeTail bytes → EndsRun is_blank bytes
some_starts bytes (inl end) = subst (EndsRun is_blank) (sym end) tt
some_starts bytes (inr word) = word_halts IsAfter bytes word

-- No command is spelled from the sign on.
no_tail_at : (bytes : List ℕ) → ¬ IsSomeTail (64 ∷ bytes)
no_tail_at bytes = λ some. let clash : true ≡ false = some_untagged (64 ∷ bytes) some in cc

-- blanks before the sign
takes_at : (blanks bytes : List ℕ) → AreBlanks blanks → Takes AnyBlanks tt (blanks ++ 64 ∷ bytes) (64 ∷ bytes)
takes_at blanks bytes are = record { prefix = blanks; bytes_are = refl; is = are; ends = refl }

-- No line has the sign and no whole name of a session after it.
no_line_at : (blanks bytes : List ℕ) → AreBlanks blanks → session_first bytes ≡ None → ¬ IsLine (blanks ++ 64 ∷ bytes)
no_line_at blanks bytes are none = λ (command, spelled).
    no_tail_at bytes (some_tail command (64 ∷ bytes) (tail_after command (blanks ++ 64 ∷ bytes) (64 ∷ bytes) (takes_at blanks bytes are)
    (subst (AfterFront (IsLooseTail command)) (after_unfinished blanks bytes are none) spelled)))

no_bad_at : (blanks bytes : List ℕ) → AreBlanks blanks → session_first bytes ≡ None → (kind : BadToken) (left : ℕ) → ¬ BadLine kind left (blanks ++ 64 ∷ bytes)
no_bad_at blanks bytes are none kind left = λ bad.
    let tail = bad_tail_after kind left (blanks ++ 64 ∷ bytes) (blanks ++ 64 ∷ bytes) (64 ∷ bytes) (sym (after_unfinished blanks bytes are none))
    (takes_at blanks bytes are) bad in
    let clash : true ≡ false = word_untagged (λ head. BadAfter head kind left) (64 ∷ bytes) tail in cc

-- a line of blanks after the name of a session
named_blank : (line : List ℕ) → after_tag line ≡ [] → IsLine line
named_blank line same = (commands.Blank, subst (AfterFront (IsLooseTail commands.Blank)) (sym same) ([], [], refl, tt, refl))

-- Reading stops in a name of a session that is not whole.
pub stop_in_tag : (Lack : Type 0) (line : List ℕ) (stop : Stop) → StopsWith (LeavesTag line) stop → IsStop IsLine BadLine Lack line stop
stop_in_tag Lack line stops.Memory leaves = absurd leaves
stop_in_tag Lack line (stops.Bad kind left) leaves = absurd leaves
stop_in_tag Lack line (stops.Syntax left) leaves =
    let here = unfinished_of leaves.bytes left leaves.leaves in
    let blanks = leaves.blanks in
    let read : List ℕ = blanks ++ 64 ∷ here.read in
    let onto : (other : List ℕ) → read ++ other ≡ blanks ++ 64 ∷ (here.read ++ other) = λ other. append_assoc blanks (64 ∷ here.read) other in
    let tag : IsTag (read ++ here.more) (here.digit - 48) = record {
      blanks = blanks;
      digit = here.digit;
      blank = here.blank;
      front_is = onto here.more ∙ ap (λ (b : List ℕ). blanks ++ 64 ∷ b) here.whole;
      are_blanks = leaves.are_blanks;
      is_digit = here.is_digit;
      ends = here.ends;
      session_is = refl;
    } in
    let all : line ≡ blanks ++ 64 ∷ leaves.bytes = leaves.line_is in
    let nothing : session_first leaves.bytes ≡ None = ap session_first here.bytes_are ∙ here.none here.unread refl in (
      record {
        read = read;
        unread = here.unread;
        bytes_are = all ∙ ap (λ (b : List ℕ). blanks ++ 64 ∷ b) here.bytes_are ∙ sym (onto here.unread);
        left_is = here.left_is;
        viable = (
          here.more,
          named_blank (read ++ here.more) (ap after_tag (sym (append-nil (read ++ here.more))) ∙ after_tagged (read ++ here.more)
              (here.digit - 48) tag []),
        );
        none = λ other same is. no_line_at blanks (here.read ++ other) leaves.are_blanks (here.none other same) (subst IsLine (onto other) is);
      },
      λ kind place bad. no_bad_at blanks leaves.bytes leaves.are_blanks nothing kind place (subst (BadLine kind place) all bad),
    )

-- ---- after what names the session

-- the line spells no command that needs no memory, where its tail is none
lacks_line : (line rest bytes : List ℕ) → rest ≡ after_tag line → Takes AnyBlanks tt rest bytes → LacksMemory bytes → NeedsMemory line
lacks_line line rest bytes rest_is takes lacks = λ command none spells.
    let loosely : AfterFront (IsLooseTail command) rest = subst (AfterFront (IsLooseTail command)) (sym rest_is) (spelled_loosely line command spells) in
    lacks command none (tail_after command rest bytes takes loosely)

-- where reading stops in the line
pub stop_of_line : (line : List ℕ) (session : Option ℕ) (rest bytes : List ℕ) (stop : Stop) → ReadsTag line session rest → Takes AnyBlanks tt rest bytes
    → IsStop IsSomeTail BadTail (LacksMemory bytes) bytes stop → IsStop IsLine BadLine (NeedsMemory line) line stop
stop_of_line line None rest bytes stop (plain, same) takes at = subst (λ (l : List ℕ). IsStop IsLine BadLine (NeedsMemory line) l stop) same
    (stop_behind (NeedsMemory line) (LacksMemory bytes) [] rest bytes stop takes behind (lacks_line line rest bytes (rest_is line None rest (plain, same))
    takes) at)
  where
    starts : EndsRun is_at bytes
    starts = starts_after plain.blanks plain.bytes plain.are_blanks plain.starts plain.plain (same ∙ plain.line_is)
      where
        starts_after : (blanks more : List ℕ) → AreBlanks blanks → EndsRun is_blank more → EndsRun is_at more → rest ≡ blanks ++ more → EndsRun is_at bytes
        starts_after blanks more are ends plain whole = subst (EndsRun is_at)
            (run_is_unique is_blank blanks takes.prefix more bytes are takes.is ends takes.ends (sym whole ∙ takes.bytes_are)).1 plain

    behind : IsBehind [] takes.prefix bytes
    behind more (inl some) = after_untagged takes.prefix more takes.is (some_starts more some) (some_untagged more some)
    behind more (inr alike) = after_untagged takes.prefix more takes.is (EndsRun-first_byte is_blank bytes more alike takes.ends)
        (EndsRun-first_byte is_at bytes more alike starts)
stop_of_line line (Some session) rest bytes stop (front, whole, tag) takes at =
    subst (λ (l : List ℕ). IsStop IsLine BadLine (NeedsMemory line) l stop) (sym whole)
    (stop_behind (NeedsMemory line) (LacksMemory bytes) front rest bytes stop takes (λ more either. after_tagged front session tag (takes.prefix ++ more))
    (lacks_line line rest bytes (rest_is line (Some session) rest (front, whole, tag)) takes) at)

plain_no_bad : (command : Command) → IsCommand command → (bytes : List ℕ) → IsTail command bytes → KeepsBounds command → (kind : BadToken) (left : ℕ)
    → ¬ BadTail kind left bytes
plain_no_bad command is bytes (inl (blank, end)) keeps kind left = λ bad. no_word_in_nothing (λ head. BadAfter head kind left) bytes end bad
plain_no_bad command is bytes (inr word) keeps kind left = λ bad.
    let both = words_agree head_words head_table (SpellsAfter command) (λ head. BadAfter head kind left) (spells_halts command) (bad_after_halts kind left)
    bytes word bad in
    let head = both.kind in
    ⊎_elim
    (λ (query : head ≡ heads.Query). let (asked, same, to) = subst (λ (h : Head). SpellsAfter command h both.rest) query both.one in absurd
    (asked_is_none asked (query_is_asked asked both.rest to) (subst IsCommand same is)))
    (λ (plain : IsPlain head).
    let spelled = contents_of_spelled command head both.rest both.one in
    let parts = parts_with (production head) spelled.contents in
    let last : List Part = last_parts (last_part head) spelled.last in
    let all : AllByRecursion IsBounded (Exactly (word_of head) ∷ (parts ++ last)) =
    subst (AllByRecursion IsBounded) (ap parts_of spelled.is ∙ command_parts head spelled.contents spelled.last plain spelled.allowed) keeps in
    let within = all_split parts last all.1 in
    let closes = last_closes head in
    no_bad_within no_blanks (production head) (production_is head) spelled.contents spelled.allowed within.0 (LastOf head spelled.last)
    (λ class halts rest made. closes.ends class halts rest (spelled.last, made)) (BadLast head) kind left (closes.bads_end kind left)
    (last_no_bad (last_part head) plain spelled.last within.1 kind left) both.rest spelled.made both.two)
    (query_or_plain head)

-- the query that is kept, by the word
abbrev KeptAfter : Command → Head → List ℕ → Type 0
KeptAfter command heads.Query rest = IsKeptQuery command rest
KeptAfter command _ rest = ⊥

kept_halts : (command : Command) (head : Head) → Halts is_name_byte (KeptAfter command head)
kept_halts command heads.Query = λ rest kept. query_halts NameByte refl rest (command, query_of_kept command rest kept)
kept_halts command head = λ rest none. absurd none

kept_no_bad_after : (command : Command) (head : Head) (rest : List ℕ) (kind : BadToken) (left : ℕ) → KeptAfter command head rest
    → ¬ BadAfter head kind left rest
kept_no_bad_after command heads.Query rest kind left kept = kept_query_no_bad command rest kept kind left
kept_no_bad_after command head rest kind left none = absurd none

no_bad_query : (command : Command) (bytes : List ℕ) → AfterG (IsKeptQuery command) bytes → (kind : BadToken) (left : ℕ) → ¬ BadTail kind left bytes
no_bad_query command bytes (word, rest, bytes_are, word_is, kept) kind left = λ bad.
    let here : ThenWord head_words (KeptAfter command) bytes = (
      (codes "g", heads.Query),
      lookup_in head_words (codes "g") heads.Query (named heads.Query),
      (word, rest, bytes_are, word_is, kept),
    ) in
    let both = words_agree head_words head_table (KeptAfter command) (λ head. BadAfter head kind left) (kept_halts command) (bad_after_halts kind left) bytes
    here bad in
    kept_no_bad_after command both.kind both.rest kind left both.one both.two

-- A command within its bounds leaves no bad token.
pub no_bad_tail : (command : Command) (bytes : List ℕ) → IsTail command bytes → KeepsTail command bytes → (kind : BadToken) (left : ℕ)
    → ¬ BadTail kind left bytes
no_bad_tail (commands.Query query) bytes tail keeps kind left = no_bad_query (commands.Query query) bytes keeps kind left
no_bad_tail (commands.Mutate reading mutation) bytes tail keeps kind left = no_bad_query (commands.Mutate reading mutation) bytes keeps kind left
no_bad_tail command bytes tail keeps kind left = plain_no_bad command tt bytes tail keeps kind left

-- ---- what is kept of the line

g_halts : (After : List ℕ → Type 0) → Halts is_blank (Then (Exactly (codes "g")) After)
g_halts After = λ bytes (prefix, rest, bytes_are, same, after). subst (EndsRun is_blank) (sym (bytes_are ∙ ap (λ w. w ++ rest) same)) refl

keeps_after : (command : Command) (rest bytes : List ℕ) → Takes AnyBlanks tt rest bytes → AfterFront (AfterG (IsKeptQuery command)) rest
    → AfterG (IsKeptQuery command) bytes
keeps_after command rest bytes takes spells = (after_symbol AnyBlanks refl (Then (Exactly (codes "g")) (IsKeptQuery command)) (g_halts (IsKeptQuery command))
    tt tt tt rest bytes takes spells).1

pub spelled_keeps : (rest bytes : List ℕ) (command : Command) → Takes AnyBlanks tt rest bytes → AfterFront (IsKeptTail command) rest → KeepsTail command bytes
spelled_keeps rest bytes (commands.Query query) takes spells = keeps_after (commands.Query query) rest bytes takes spells
spelled_keeps rest bytes (commands.Mutate reading mutation) takes spells = keeps_after (commands.Mutate reading mutation) rest bytes takes spells
spelled_keeps rest bytes command takes (blanks, last, whole, are_blanks, tail) = tail.1

spelled_of_tail : (rest bytes : List ℕ) (command : Command) → Takes AnyBlanks tt rest bytes → IsTail command bytes → KeepsTail command bytes
    → AfterFront (IsKeptTail command) rest
spelled_of_tail rest bytes (commands.Query query) takes tail keeps = (takes.prefix, bytes, takes.bytes_are, takes.is, keeps)
spelled_of_tail rest bytes (commands.Mutate reading mutation) takes tail keeps = (takes.prefix, bytes, takes.bytes_are, takes.is, keeps)
spelled_of_tail rest bytes command takes tail keeps = (takes.prefix, bytes, takes.bytes_are, takes.is, (tail_loose command bytes tail, keeps))

pub spells_of_tail : (line rest bytes : List ℕ) (command : Command) → rest ≡ after_tag line → Takes AnyBlanks tt rest bytes → IsTail command bytes
    → KeepsTail command bytes → Spells line command
spells_of_tail line rest bytes command rest_is takes tail keeps = subst (AfterFront (IsKeptTail command)) rest_is
    (spelled_of_tail rest bytes command takes tail keeps)
