-- Commands and queries by their first word: the table of words, and where reading stops at one and after it.
use Rattle.std.proofs.Common.{◌≡◌, ◌≢◌, inr, ℕ, Some, Bool, true, false, not, List, [], ◌∷◌, ◌++◌, refl, sym, ap, ◌∙◌}
use Rattle.plain_graph.specs.Names.{is_name_byte}
use Rattle.gremlin_parse.specs.Grammar.{is_blank}
use Rattle.gremlin_parse.specs.Keywords.{Entry, InTable, lookup, TakesWord, LeavesTable, ThenWord}
use Rattle.gremlin_parse.specs.Symbols.{Contents, ReadsAll, LeavesOne}
use Rattle.gremlin_parse.specs.Stopping.{Bads, IsStop, StopsWith}
use Rattle.gremlin_parse.specs.Commands.{StopsAfter, word_of, head_words, arguments_of, last_part, production, IsLast}
use Rattle.gremlin_parse.specs.Commands.{BadLast, IsAfter, BadAfter, IsSomeTail, BadTail}
use Rattle.gremlin_parse.specs.Lasts.{is_query}
use Rattle.gremlin_parse.specs.Tags.{is_at}
use Rattle.gremlin_parse.specs.declared.bad_token.BadToken.{BadToken}
use Rattle.gremlin_parse.specs.declared.head.Head.{Head}
use Rattle.gremlin_parse.specs.declared.head.Head.TheVariants as heads
use Rattle.gremlin_parse.specs.declared.word.Word.TheVariants as words
use Rattle.gremlin_parse.specs.declared.stop.Stop.{Stop}
use Rattle.gremlin_parse.specs.declared.stop.Stop.TheVariants as stops
use Rattle.gremlin_parse.proofs.Runs.{Halts}
use Rattle.gremlin_parse.proofs.Tables.{IsWordTable, word_table, passes_in}
use Rattle.gremlin_parse.proofs.Words.{are_named, entry_named}
use Rattle.gremlin_parse.proofs.Symbols.{NameByte, no_blanks, halts, first_fails}
use Rattle.gremlin_parse.proofs.Productions.{is_production, Closes, follows_halts, bad_follows_halts, some_line, stop_after, stop_among, stop_after_all}
use Rattle.gremlin_parse.proofs.Repeats.{stop_of_second}
use Rattle.gremlin_parse.proofs.Arguments.{spaced_is, spaced_halts}
use Rattle.gremlin_parse.proofs.WordLines.{goes_word, starts_halts, stop_at_word}
use Rattle.gremlin_parse.proofs.Lasts as of_kind

-- ---- the table

pub named : (head : Head) → lookup head_words (word_of head) ≡ Some head
named (heads.Alone words.Begin) = refl
named head = refl

pub entry_word : (entry : Entry Head) → InTable entry head_words → entry.0 ≡ word_of entry.1
entry_word = entry_named word_of head_words (are_named word_of head_words refl)

pub head_table : IsWordTable head_words
head_table = word_table head_words refl

-- Each word begins with a byte that is no blank, and not the sign before a session.
word_starts : (entry : Entry Head) → InTable entry head_words → first_fails is_blank entry.0 ≡ true
word_starts = passes_in (λ (e : Entry Head). first_fails is_blank e.0) head_words refl

word_plain : (entry : Entry Head) → InTable entry head_words → first_fails is_at entry.0 ≡ true
word_plain = passes_in (λ (e : Entry Head). first_fails is_at e.0) head_words refl

pub word_halts : (After : Head → List ℕ → Type 0) → Halts is_blank (ThenWord head_words After)
word_halts After = starts_halts is_blank head_words word_starts After

pub word_untagged : (After : Head → List ℕ → Type 0) → Halts is_at (ThenWord head_words After)
word_untagged After = starts_halts is_at head_words word_plain After

-- ---- what stands after each word

-- what stands last begins with a blank, or the line ends
pub production_is : (head : Head) → is_production no_blanks (production head) ≡ true
production_is head = spaced_is (arguments_of head)

pub production_halts : (head : Head) → halts NameByte (no_blanks NameByte) (production head) ≡ true
production_halts head = spaced_halts (arguments_of head)

pub last_closes : (head : Head) → Closes no_blanks (IsLast head) (BadLast head)
last_closes head = of_kind.last_closes (last_part head)

after_halts : (head : Head) → Halts is_name_byte (IsAfter head)
after_halts head = follows_halts NameByte (no_blanks NameByte) (production head) (production_halts head) (λ _. IsLast head)
    (λ _. (last_closes head).ends NameByte)

pub bad_after_halts : (kind : BadToken) (left : ℕ) (head : Head) → Halts is_name_byte (BadAfter head kind left)
bad_after_halts kind left head = bad_follows_halts NameByte (no_blanks NameByte) (production head) (production_halts head) (BadLast head) kind left
    ((last_closes head).bads_end kind left NameByte)

after_line : (head : Head) → (line : List ℕ) × IsAfter head line
after_line head = some_line no_blanks (production head) (production_is head) (λ _. IsLast head) (λ _. ((last_closes head).line, (last_closes head).some))

-- ---- stops after the first word

-- a stop in one of the symbols after the word
pub stop_in_head : (head : Head) (Lack : Type 0) (bytes : List ℕ) (stop : Stop) → LeavesOne (production head) bytes stop → StopsAfter head Lack bytes stop
stop_in_head head Lack bytes stop leaves = stop_among no_blanks (production head) (production_is head) (IsLast head) (BadLast head) (last_closes head) Lack
    bytes stop leaves

-- a stop after all of them
pub stop_after_head : (head : Head) (Lack : Type 0) (contents : Contents (production head)) (bytes rest : List ℕ) (stop : Stop)
    → ReadsAll (production head) contents bytes rest → IsStop (IsLast head) (BadLast head) Lack rest stop → StopsAfter head Lack bytes stop
stop_after_head head Lack contents bytes rest stop reads at = stop_after_all no_blanks (production head) (production_is head) (IsLast head) (BadLast head)
    (last_closes head) Lack contents bytes rest stop reads at

-- where less is known of a want of memory
pub stop_lacks : (Line : List ℕ → Type 0) (Bad : Bads) (Less More : Type 0) (bytes : List ℕ) (stop : Stop) → (Less → More) → IsStop Line Bad Less bytes stop
    → IsStop Line Bad More bytes stop
stop_lacks Line Bad Less More bytes stops.Memory lacks at = lacks at
stop_lacks Line Bad Less More bytes (stops.Syntax left) lacks at = at
stop_lacks Line Bad Less More bytes (stops.Bad kind left) lacks at = at

pub is_not : (query plain : Bool) → plain ≡ not query → plain ≡ false → query ≡ true
is_not true plain is none = refl
is_not false plain is none = let clash : true ≡ false = sym is ∙ none in cc

pub is_so : (query plain : Bool) → plain ≡ not query → plain ≡ true → query ≡ false
is_so true plain is so = let clash : false ≡ true = sym is ∙ so in cc
is_so false plain is so = refl

-- what is no command is the query
pub query_head : (head : Head) → is_query (last_part head) ≡ true → head ≡ heads.Query
query_head heads.Query query = refl
query_head head query = cc

-- ---- stops at and after the first word

-- Where there are bytes, they are those of a command or a query.
stop_of_some : (Lack : Type 0) (bytes : List ℕ) (stop : Stop) → bytes ≢ [] → IsStop (ThenWord head_words IsAfter) BadTail Lack bytes stop
    → IsStop IsSomeTail BadTail Lack bytes stop
stop_of_some Lack bytes stop some at =
    stop_of_second (λ b. b ≡ []) (ThenWord head_words IsAfter) IsSomeTail BadTail BadTail (λ b line. inr line) (λ b tail. tail)
    (λ read b more end. absurd (no_end read b more end)) Lack bytes stop some (λ kind left bad. bad) (λ kind left bad. bad) at
  where
    no_end : (read : List ℕ) (b : ℕ) (more : List ℕ) → read ++ b ∷ more ≡ [] → ⊥
    no_end [] b more end = cc
    no_end (c ∷ read) b more end = cc

pub tail_at_word : (Lack : Type 0) (bytes : List ℕ) (stop : Stop) → bytes ≢ [] → StopsWith (LeavesTable head_words bytes) stop
    → IsStop IsSomeTail BadTail Lack bytes stop
tail_at_word Lack bytes stop some at = stop_of_some Lack bytes stop some
    (stop_at_word _ _ head_table IsAfter BadAfter after_halts bad_after_halts after_line Lack bytes stop at)

pub tail_after_word : (Lack LackLeft : Type 0) (bytes rest : List ℕ) (head : Head) (stop : Stop) → bytes ≢ [] → (LackLeft → Lack)
    → TakesWord head_words bytes head rest → StopsAfter head LackLeft rest stop → IsStop IsSomeTail BadTail Lack bytes stop
tail_after_word Lack LackLeft bytes rest head stop some lack takes at =
    stop_of_some Lack bytes stop some (stop_after (ThenWord head_words IsAfter) BadTail Lack (IsAfter head) (BadAfter head) LackLeft bytes takes.0 rest stop
    takes.1.bytes_are lack (goes_word _ _ head_table IsAfter BadAfter after_halts bad_after_halts head bytes rest takes) at)

-- No word of the table stands in nothing.
pub no_word_in_nothing : (After : Head → List ℕ → Type 0) (bytes : List ℕ) → bytes ≡ [] → ¬ ThenWord head_words After bytes
no_word_in_nothing After bytes end = λ (entry, within, (prefix, rest, whole, word_is, after)).
    let starts = word_starts entry within in
    nothing entry.0 rest starts (sym end ∙ whole ∙ ap (λ w. w ++ rest) word_is)
  where
    nothing : (word rest : List ℕ) → first_fails is_blank word ≡ true → [] ≡ word ++ rest → ⊥
    nothing [] rest some whole = cc
    nothing (b ∷ word) rest some whole = cc
