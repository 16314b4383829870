-- What is viewed: a word after one blank or more, and an identifier where it is the word for an element.
use Rattle.std.proofs.Common.{◌≡◌, inl, inr, ℕ, true, false, List, [], ◌∷◌, ◌++◌, codes, refl, sym, ap, ◌∙◌, subst}
use Rattle.std.specs.List.{AllByRecursion}
use Rattle.plain_graph.specs.Names.{is_name_byte}
use Rattle.plain_graph.specs.declared.command.Target.TheVariants as targets
use Rattle.gremlin_parse.specs.Arguments.{contents_in, listed, number_in, spaced}
use Rattle.gremlin_parse.specs.Grammar.{Part, Exactly, Gap, IsBounded, IsMadeOf, is_blank}
use Rattle.gremlin_parse.specs.Keywords.{Entry, InTable, LeavesTable, TakesWord, ThenWord}
use Rattle.gremlin_parse.specs.Reading.{BadParts}
use Rattle.gremlin_parse.specs.Stopping.{Bads, BadInOne, IsEnd, IsOneOf, IsStop, NoBad, StopsWith}
use Rattle.gremlin_parse.specs.Symbols.{AnyBlanks, AnyGap, Symbol, BadFollows, Contents, Follows, Leaves, LeavesOne, Reads, ReadsAll}
use Rattle.gremlin_parse.specs.Views.{view_arguments, view_word, view_words, viewed_of, viewed_to_end}
use Rattle.gremlin_parse.specs.declared.argument.Givens.{Givens}
use Rattle.gremlin_parse.specs.declared.bad_token.BadToken.{BadToken}
use Rattle.gremlin_parse.specs.declared.stop.Stop.{Stop}
use Rattle.gremlin_parse.specs.declared.target.TargetWord.TheVariants as target_kinds
use Rattle.gremlin_parse.specs.declared.viewed.ViewWord.{ViewWord}
use Rattle.gremlin_parse.specs.declared.viewed.ViewWord.TheVariants as view_kinds
use Rattle.gremlin_parse.specs.declared.viewed.Viewed.{Viewed}
use Rattle.gremlin_parse.specs.declared.viewed.Viewed.TheVariants as views
use Rattle.gremlin_parse.proofs.Runs.{Halts}
use Rattle.gremlin_parse.proofs.Tables.{IsWordTable, lookup_in, passes_in, word_table, words_agree}
use Rattle.gremlin_parse.proofs.Words.{are_named, entry_named}
use Rattle.gremlin_parse.proofs.Symbols.{Blank, Digit, NameByte, NoByte, first_fails, halts, no_blanks}
use Rattle.gremlin_parse.proofs.Productions.{Closes, Enders, HaltsAt, bad_follows_halts, follows_halts, is_production}
use Rattle.gremlin_parse.proofs.Productions.{joined, leaves_first, reads_after, some_line, stop_after, stop_after_all}
use Rattle.gremlin_parse.proofs.Productions.{stop_among}
use Rattle.gremlin_parse.proofs.Spelling.{AllowsAll, bad_follows_of_then, bad_then_map, bad_then_of_parts}
use Rattle.gremlin_parse.proofs.Spelling.{follows_agree, follows_of_parts, no_bad_within, parts_of_follows, parts_with}
use Rattle.gremlin_parse.proofs.Spelling.{read_bounded, read_parts, then_of_bad_follows, then_parts_map, ThenParts}
use Rattle.gremlin_parse.proofs.Repeats.{all_split, bad_parts_within, stop_of_second}
use Rattle.gremlin_parse.proofs.Pairs.{some_byte}
use Rattle.gremlin_parse.proofs.Ends.{every, end_halts, line_closes, stop_at_end}
use Rattle.gremlin_parse.proofs.Ends as line_end
use Rattle.gremlin_parse.proofs.WordLines.{BadWords, goes_word, starts_halts, stop_at_word}

-- ---- after the word

-- what stands after the word, to the line's end
abbrev after_view : ViewWord → List Symbol
after_view word = spaced (view_arguments word) ++ AnyBlanks ∷ []

abbrev After : ViewWord → List ℕ → Type 0
After word bytes = Follows (after_view word) (λ _. IsEnd) bytes

abbrev BadAfter : ViewWord → Bads
BadAfter word kind left bytes = BadFollows (after_view word) NoBad kind left bytes

after_is : (word : ViewWord) → is_production every (after_view word) ≡ true
after_is (view_kinds.Element kind) = refl
after_is view_kinds.Names = refl
after_is view_kinds.Indexes = refl

ends_word : (word : ViewWord) → halts NameByte true (after_view word) ≡ true
ends_word (view_kinds.Element kind) = refl
ends_word view_kinds.Names = refl
ends_word view_kinds.Indexes = refl

after_halts : (word : ViewWord) → Halts is_name_byte (After word)
after_halts word = follows_halts NameByte true (after_view word) (ends_word word) (λ _. IsEnd) (λ contents same. end_halts NameByte refl)

bad_after_halts : (kind : BadToken) (left : ℕ) (word : ViewWord) → Halts is_name_byte (BadAfter word kind left)
bad_after_halts kind left word = bad_follows_halts NameByte true (after_view word) (ends_word word) NoBad kind left (λ same bytes none. absurd none)

after_line : (word : ViewWord) → (line : List ℕ) × After word line
after_line word = some_line every (after_view word) (after_is word) (λ _. IsEnd) (λ contents. ([], refl))

-- the contents after the word, with its number
abbrev contents_of : (word : ViewWord) → ℕ → Contents (after_view word)
contents_of (view_kinds.Element kind) id = (tt, (id, (tt, tt)))
contents_of view_kinds.Names id = (tt, tt)
contents_of view_kinds.Indexes id = (tt, tt)

abbrev id_of : (word : ViewWord) → Contents (after_view word) → ℕ
id_of (view_kinds.Element kind) contents = contents.1.0
id_of view_kinds.Names contents = 0
id_of view_kinds.Indexes contents = 0

allowed : (word : ViewWord) (id : ℕ) → AllowsAll (after_view word) (contents_of word id)
allowed (view_kinds.Element kind) id = (tt, (tt, (tt, tt)))
allowed view_kinds.Names id = (tt, tt)
allowed view_kinds.Indexes id = (tt, tt)

-- the parts after the word
abbrev after_parts : ViewWord → ℕ → List Part
after_parts word id = parts_with (after_view word) (contents_of word id)

parts_are : (word : ViewWord) (contents : Contents (after_view word)) → parts_with (after_view word) contents ≡ after_parts word (id_of word contents)
parts_are (view_kinds.Element kind) contents = refl
parts_are view_kinds.Names contents = refl
parts_are view_kinds.Indexes contents = refl

-- what is viewed, by its word
view_parts : (word : ViewWord) (id : ℕ) → viewed_to_end (viewed_of word id) ≡ Gap ∷ Exactly (view_word word) ∷ after_parts word id
view_parts (view_kinds.Element target_kinds.Node) id = refl
view_parts (view_kinds.Element target_kinds.Edge) id = refl
view_parts view_kinds.Names id = refl
view_parts view_kinds.Indexes id = refl

named : (viewed : Viewed) → (word : ViewWord) × (id : ℕ) × (viewed ≡ viewed_of word id)
named (views.Element (targets.Node id)) = (view_kinds.Element target_kinds.Node, id, refl)
named (views.Element (targets.Edge id)) = (view_kinds.Element target_kinds.Edge, id, refl)
named views.Names = (view_kinds.Names, 0, refl)
named views.Indexes = (view_kinds.Indexes, 0, refl)

-- ---- the words

view_table : IsWordTable view_words
view_table = word_table view_words refl

entry_word : (entry : Entry ViewWord) → InTable entry view_words → entry.0 ≡ view_word entry.1
entry_word = entry_named view_word view_words (are_named view_word view_words refl)

in_views : (word : ViewWord) → InTable (view_word word, word) view_words
in_views (view_kinds.Element target_kinds.Node) = inl refl
in_views (view_kinds.Element target_kinds.Edge) = inr (inl refl)
in_views view_kinds.Names = inr (inr (inl refl))
in_views view_kinds.Indexes = inr (inr (inr (inl refl)))

word_starts : (entry : Entry ViewWord) → InTable entry view_words → first_fails is_blank entry.0 ≡ true
word_starts = passes_in (λ (e : Entry ViewWord). first_fails is_blank e.0) view_words refl

abbrev BadWord : Bads
BadWord kind left bytes = BadWords view_words BadAfter kind left bytes

-- blanks alone
abbrev blanks : Enders
blanks NoByte = false
blanks Blank = true
blanks NameByte = false
blanks Digit = false

no_blank : (Next : ViewWord → List ℕ → Type 0) → HaltsAt blanks (ThenWord view_words Next)
no_blank Next NoByte is = cc
no_blank Next Blank is = starts_halts is_blank view_words word_starts Next
no_blank Next NameByte is = cc
no_blank Next Digit is = cc

words_close : Closes blanks (ThenWord view_words After) BadWord
words_close = record {
  ends = no_blank After;
  bads_end = λ kind left. no_blank (λ word. BadAfter word kind left);
  within = λ kind place rest (entry, at, (prefix, more, whole, is, bad)).
      let found = then_of_bad_follows every (after_view entry.1) (after_is entry.1) NoBad kind place more bad in
      bad_parts_within (Exactly prefix ∷ parts_with (after_view entry.1) found.contents) kind place rest (inr (prefix, more, whole, refl, found.bad));
  line = codes "names";
  some = ((codes "names", view_kinds.Names), in_views view_kinds.Names, (codes "names", [], refl, refl, (tt, tt, ([], [], refl, tt, refl))));
}

-- ---- from the blanks before the word on

abbrev gap : List Symbol
gap = AnyGap ∷ []

abbrev Views : List ℕ → Type 0
Views bytes = Follows gap (λ _. ThenWord view_words After) bytes

abbrev BadViews : Bads
BadViews kind left bytes = BadFollows gap BadWord kind left bytes

-- parts to the line's end
made_ends : (parts : List Part) (bytes : List ℕ) → IsMadeOf parts bytes → ThenParts parts IsEnd bytes
made_ends [] bytes made = made
made_ends (part ∷ parts) bytes (prefix, rest, whole, is, made) = (prefix, rest, whole, is, made_ends parts rest made)

ends_made : (parts : List Part) (bytes : List ℕ) → ThenParts parts IsEnd bytes → IsMadeOf parts bytes
ends_made [] bytes made = made
ends_made (part ∷ parts) bytes (prefix, rest, whole, is, made) = (prefix, rest, whole, is, ends_made parts rest made)

-- what is viewed, with its word and its number
pub record ByWord (viewed : Viewed) (bytes : List ℕ) : Type 0 where
  pub word : ViewWord
  pub id : ℕ
  pub is : viewed ≡ viewed_of word id
  pub made : IsMadeOf (Gap ∷ Exactly (view_word word) ∷ after_parts word id) bytes

by_word : (viewed : Viewed) (bytes : List ℕ) → IsMadeOf (viewed_to_end viewed) bytes → ByWord viewed bytes
by_word viewed bytes made =
    let (word, id, is) = named viewed in
    record { word = word; id = id; is = is; made = subst (λ (parts : List Part). IsMadeOf parts bytes) (ap viewed_to_end is ∙ view_parts word id) made }

of_word : (word : ViewWord) (id : ℕ) (bytes : List ℕ) → IsMadeOf (Gap ∷ Exactly (view_word word) ∷ after_parts word id) bytes
    → IsMadeOf (viewed_to_end (viewed_of word id)) bytes
of_word word id bytes made = subst (λ (parts : List Part). IsMadeOf parts bytes) (sym (view_parts word id)) made

-- after the word, with this number
abbrev Numbered : Viewed → (word : ViewWord) → Contents (after_view word) → List ℕ → Type 0
Numbered viewed word contents rest = (viewed ≡ viewed_of word (id_of word contents)) × (rest ≡ [])

abbrev SpelledBy : Viewed → ViewWord → List ℕ → Type 0
SpelledBy viewed word bytes = Follows (after_view word) (Numbered viewed word) bytes

numbered_halts : (viewed : Viewed) (word : ViewWord) (contents : Contents (after_view word)) → HaltsAt every (Numbered viewed word contents)
numbered_halts viewed word contents class is rest (same, end) = end_halts class is rest end

spelled_halts : (viewed : Viewed) (word : ViewWord) → Halts is_name_byte (SpelledBy viewed word)
spelled_halts viewed word = follows_halts NameByte true (after_view word) (ends_word word) (Numbered viewed word)
    (λ contents same. numbered_halts viewed word contents NameByte refl)

id_again : (word : ViewWord) (id : ℕ) → viewed_of word id ≡ viewed_of word (id_of word (contents_of word id))
id_again (view_kinds.Element kind) id = refl
id_again view_kinds.Names id = refl
id_again view_kinds.Indexes id = refl

spelled_by : (viewed : Viewed) (bytes : List ℕ) → IsMadeOf (viewed_to_end viewed) bytes → Follows gap (λ _. ThenWord view_words (SpelledBy viewed)) bytes
spelled_by viewed bytes made =
    let found = by_word viewed bytes made in
    let (blank, a, whole, blank_is, (run, b, a_is, run_is, after)) = found.made in
    let contents = contents_of found.word found.id in
    let last = then_parts_map IsEnd (Numbered viewed found.word contents) (λ rest end. (found.is ∙ id_again found.word found.id, end))
    (after_parts found.word found.id) b (made_ends (after_parts found.word found.id) b after) in (
      tt,
      tt,
      (
        blank,
        a,
        whole,
        blank_is,
        (
          (view_word found.word, found.word),
          in_views found.word,
          (
            run,
            b,
            a_is,
            run_is,
            follows_of_parts
                (after_view found.word) contents (Numbered viewed found.word) (allowed found.word found.id) b last,
          ),
        ),
      ),
    )

views_of : (bytes : List ℕ) → IsOneOf viewed_to_end bytes → Views bytes
views_of bytes (viewed, made) =
    let found = by_word viewed bytes made in
    let (blank, a, whole, blank_is, (run, b, a_is, run_is, after)) = found.made in (
      tt,
      tt,
      (
        blank,
        a,
        whole,
        blank_is,
        (
          (view_word found.word, found.word),
          in_views found.word,
          (
            run,
            b,
            a_is,
            run_is,
            follows_of_parts
                (after_view found.word) (contents_of found.word found.id) (λ _. IsEnd) (allowed found.word found.id) b (made_ends
                (after_parts found.word found.id)
                b after),
          ),
        ),
      ),
    )

of_views : (bytes : List ℕ) → Views bytes → IsOneOf viewed_to_end bytes
of_views bytes (content, allows, (blank, a, whole, blank_is, (entry, within, (run, b, a_is, run_is, after)))) =
    let found = parts_of_follows (after_view entry.1) (λ _. IsEnd) b after in
    let id : ℕ = id_of entry.1 found.contents in
    let made = subst (λ (parts : List Part). IsMadeOf parts b) (parts_are entry.1 found.contents)
    (ends_made (parts_with (after_view entry.1) found.contents) b found.is) in
    (viewed_of entry.1 id, of_word entry.1 id bytes (blank, a, whole, blank_is, (run, b, a_is, run_is ∙ entry_word entry within, made)))

-- ---- bad tokens

bad_word : (word : ViewWord) (id : ℕ) (kind : BadToken) (left : ℕ) (bytes : List ℕ) → BadParts (Exactly (view_word word) ∷ after_parts word id) kind left bytes
    → BadWord kind left bytes
bad_word word id kind left bytes (inl (token, rest, whole, is, ends, out, place)) = absurd out
bad_word word id kind left bytes (inr (run, rest, whole, run_is, later)) = (
  (view_word word, word),
  in_views word,
  (
    run,
    rest,
    whole,
    run_is,
    bad_follows_of_then (after_view word) (contents_of word id) (allowed word id)
        NoBad kind left rest later,
  ),
)

bads_of : (kind : BadToken) (left : ℕ) (bytes : List ℕ) → BadInOne viewed_to_end kind left bytes → BadViews kind left bytes
bads_of kind left bytes (viewed, bad) =
    let (word, id, is) = named viewed in
    let parts : viewed_to_end viewed ≡ (Gap ∷ []) ++ (Exactly (view_word word) ∷ after_parts word id) = ap viewed_to_end is ∙ view_parts word id in
    let here = subst (λ (p : List Part). BadParts p kind left bytes) parts bad in
    bad_follows_of_then gap (tt, tt) (tt, tt) BadWord kind left bytes (bad_then_map (BadParts (Exactly (view_word word) ∷ after_parts word id)) BadWord kind
    left (bad_word word id kind left) (Gap ∷ []) bytes (bad_then_of_parts (Gap ∷ []) (Exactly (view_word word) ∷ after_parts word id) kind left bytes here))

of_bads : (kind : BadToken) (left : ℕ) (bytes : List ℕ) → BadViews kind left bytes → BadInOne viewed_to_end kind left bytes
of_bads kind left bytes (inl here) = absurd here.1
of_bads kind left bytes (inr (content, allows, (blank, a, whole, blank_is, (entry, within, (run, b, a_is, run_is, later))))) =
    let found = then_of_bad_follows every (after_view entry.1) (after_is entry.1) NoBad kind left b later in
    let id : ℕ = id_of entry.1 found.contents in
    let bad : BadParts (after_parts entry.1 id) kind left b = subst (λ (p : List Part). BadParts p kind left b) (parts_are entry.1 found.contents) found.bad in
    let made : BadParts (Gap ∷ Exactly (view_word entry.1) ∷ after_parts entry.1 id) kind left bytes =
    inr (blank, a, whole, blank_is, inr (run, b, a_is, run_is ∙ entry_word entry within, bad)) in
    (viewed_of entry.1 id, subst (λ (p : List Part). BadParts p kind left bytes) (sym (view_parts entry.1 id)) made)

pub views_close : Closes no_blanks (IsOneOf viewed_to_end) (BadInOne viewed_to_end)
views_close = record {
  ends = λ class halts rest last. follows_halts class false gap halts (λ _. ThenWord view_words After) (λ these impossible. cc) rest (views_of rest last);
  bads_end = λ kind left class halts rest bad. bad_follows_halts class false gap halts BadWord kind left (λ impossible. cc) rest (bads_of kind left rest bad);
  within = λ kind place rest (viewed, bad). bad_parts_within (viewed_to_end viewed) kind place rest bad;
  line = 32 ∷ codes "names";
  some = (views.Names, (32 ∷ [], codes "names", refl, ((refl, tt), some_byte [] 32), (codes "names", [], refl, refl, ([], [], refl, tt, refl))));
}

same_numbered : (word : ViewWord) (contents : Contents (after_view word)) (one two : Viewed) (rest : List ℕ) → Numbered one word contents rest
    → Numbered two word contents rest → two ≡ one
same_numbered word contents one two rest first second = second.0 ∙ sym first.0

-- The same bytes are of one view.
pub views_agree : (one two : Viewed) (bytes : List ℕ) → IsMadeOf (viewed_to_end one) bytes → IsMadeOf (viewed_to_end two) bytes → two ≡ one
views_agree one two bytes made other =
    let gaps = follows_agree blanks gap refl (λ _. ThenWord view_words (SpelledBy one)) (λ _. ThenWord view_words (SpelledBy two))
    (λ contents. no_blank (SpelledBy one)) (λ contents. no_blank (SpelledBy two)) bytes (spelled_by one bytes made) (spelled_by two bytes other) in
    let words = words_agree view_words view_table (SpelledBy one) (SpelledBy two) (spelled_halts one) (spelled_halts two) gaps.rest gaps.one gaps.two in
    let found = follows_agree every (after_view words.kind) (after_is words.kind) (Numbered one words.kind) (Numbered two words.kind)
    (numbered_halts one words.kind) (numbered_halts two words.kind) words.rest words.one words.two in
    same_numbered words.kind found.contents one two found.rest found.one found.two

-- after this word, these bytes
abbrev OfWord : ViewWord → ℕ → ViewWord → List ℕ → Type 0
OfWord word id other bytes = (other ≡ word) × IsMadeOf (after_parts word id) bytes

of_word_halts : (word : ViewWord) (id : ℕ) (other : ViewWord) → Halts is_name_byte (OfWord word id other)
of_word_halts word id other = λ bytes (same, made).
    after_halts word bytes (follows_of_parts (after_view word) (contents_of word id) (λ _. IsEnd) (allowed word id) bytes (made_ends (after_parts word id)
    bytes made))

word_no_bad : (word : ViewWord) (id : ℕ) → AllByRecursion IsBounded (after_parts word id) → (kind : BadToken) (left : ℕ) (bytes : List ℕ)
    → ThenWord view_words (OfWord word id) bytes → ¬ BadWord kind left bytes
word_no_bad word id within kind left bytes made = λ bad.
    let words = words_agree view_words view_table (OfWord word id) (λ other. BadAfter other kind left) (of_word_halts word id) (bad_after_halts kind left) bytes
    made bad in
    no_bad_within every (after_view word) (after_is word) (contents_of word id) (allowed word id) within IsEnd end_halts NoBad kind left
    (λ class is bytes none. absurd none) (λ rest end none. none) words.rest (made_ends (after_parts word id) words.rest words.one.1)
    (subst (λ other. BadAfter other kind left words.rest) words.one.0 words.two)

-- A view within its bounds leaves no bad token.
pub no_bad_views : (viewed : Viewed) (bytes : List ℕ) → AllByRecursion IsBounded (viewed_to_end viewed) → IsMadeOf (viewed_to_end viewed) bytes
    → (kind : BadToken) (left : ℕ) → ¬ BadInOne viewed_to_end kind left bytes
no_bad_views viewed bytes within made kind left = λ bad.
    let found = by_word viewed bytes made in
    let (blank, a, whole, blank_is, (run, b, a_is, run_is, after)) = found.made in
    let bounds = subst (λ (parts : List Part). AllByRecursion IsBounded parts) (ap viewed_to_end found.is ∙ view_parts found.word found.id) within in
    no_bad_within blanks gap refl (tt, tt) (tt, tt) (tt, tt) (ThenWord view_words (OfWord found.word found.id)) (no_blank (OfWord found.word found.id)) BadWord
    kind left (no_blank (λ word. BadAfter word kind left)) (word_no_bad found.word found.id bounds.1.1 kind left) bytes
    (blank, a, whole, blank_is, ((view_word found.word, found.word), in_views found.word, (run, b, a_is, run_is, (refl, after))))
    (bads_of kind left bytes bad)

-- ---- where reading stops

stop_of_views : (Lack : Type 0) (bytes : List ℕ) (stop : Stop) → IsStop Views BadViews Lack bytes stop
    → IsStop (IsOneOf viewed_to_end) (BadInOne viewed_to_end) Lack bytes stop
stop_of_views Lack bytes stop at =
    stop_of_second (λ _. ⊥) Views (IsOneOf viewed_to_end) BadViews (BadInOne viewed_to_end)
    of_views (λ b one. inr (views_of b one)) (λ read b more none. absurd none)
    Lack bytes stop (λ none. none)
    (λ kind left bad. of_bads kind left bytes bad)
    (λ kind left bad. bads_of kind left bytes bad)
    at

after_gap : (Lack : Type 0) (bytes at_word : List ℕ) (stop : Stop) → Reads AnyGap tt bytes at_word
    → IsStop (ThenWord view_words After) BadWord Lack at_word stop → IsStop (IsOneOf viewed_to_end) (BadInOne viewed_to_end) Lack bytes stop
after_gap Lack bytes at_word stop blank at =
    stop_of_views Lack bytes stop (stop_after_all blanks gap refl (ThenWord view_words After) BadWord words_close Lack (tt, tt) bytes at_word stop
    (at_word, blank, refl) at)

after_word : (Lack : Type 0) (bytes at_word after : List ℕ) (word : ViewWord) (stop : Stop) → Reads AnyGap tt bytes at_word
    → (takes : TakesWord view_words at_word word after) → IsStop (After word) (BadAfter word) Lack after stop
    → IsStop (IsOneOf viewed_to_end) (BadInOne viewed_to_end) Lack bytes stop
after_word Lack bytes at_word after word stop blank takes at =
    after_gap Lack bytes at_word stop blank (stop_after (ThenWord view_words After) BadWord Lack (After word) (BadAfter word) Lack at_word takes.0 after stop
    takes.1.bytes_are (λ lack. lack) (goes_word _ _ view_table After BadAfter after_halts bad_after_halts word at_word after takes) at)

pub stop_at_gap : (Lack : Type 0) (bytes : List ℕ) (stop : Stop) → Leaves AnyGap bytes stop
    → IsStop (IsOneOf viewed_to_end) (BadInOne viewed_to_end) Lack bytes stop
stop_at_gap Lack bytes stop leaves = stop_of_views Lack bytes stop (stop_among blanks gap refl (ThenWord view_words After) BadWord words_close Lack bytes stop
    (inl leaves))

pub stop_at_view_word : (Lack : Type 0) (bytes at_word : List ℕ) (stop : Stop) → Reads AnyGap tt bytes at_word → StopsWith (LeavesTable view_words at_word) stop
    → IsStop (IsOneOf viewed_to_end) (BadInOne viewed_to_end) Lack bytes stop
stop_at_view_word Lack bytes at_word stop blank leaves =
    after_gap Lack bytes at_word stop blank (stop_at_word _ _ view_table After BadAfter after_halts bad_after_halts after_line Lack at_word stop leaves)

pub stop_in_number : (Lack : Type 0) (bytes at_word after : List ℕ) (word : ViewWord) (stop : Stop) → Reads AnyGap tt bytes at_word
    → TakesWord view_words at_word word after → LeavesOne (spaced (view_arguments word)) after stop
    → IsStop (IsOneOf viewed_to_end) (BadInOne viewed_to_end) Lack bytes stop
stop_in_number Lack bytes at_word after word stop blank takes leaves =
    after_word Lack bytes at_word after word stop blank takes (stop_among every (after_view word) (after_is word) IsEnd NoBad line_closes Lack after stop
    (leaves_first (spaced (view_arguments word)) (AnyBlanks ∷ []) after stop leaves))

pub stop_at_view_end : (Lack : Type 0) (bytes at_word after rest end : List ℕ) (word : ViewWord) (givens : Givens) (stop : Stop) → Reads AnyGap tt bytes at_word
    → TakesWord view_words at_word word after → ReadsAll (spaced (view_arguments word)) (contents_in (view_arguments word) (listed givens)) after rest
    → Reads AnyBlanks tt rest end → StopsWith (line_end.AtEnd end) stop → IsStop (IsOneOf viewed_to_end) (BadInOne viewed_to_end) Lack bytes stop
stop_at_view_end Lack bytes at_word after rest end word givens stop blank takes reads skips at =
    let contents = contents_in (view_arguments word) (listed givens) in
    after_word Lack bytes at_word after word stop blank takes (stop_after_all every (after_view word) (after_is word) IsEnd NoBad line_closes Lack
    (joined (spaced (view_arguments word)) (AnyBlanks ∷ []) contents (tt, tt)) after end stop (reads_after (spaced (view_arguments word)) (AnyBlanks ∷ [])
    contents (tt, tt) after rest end reads (end, skips, refl)) (stop_at_end Lack end stop at))

-- ---- what was read

read_contents : (word : ViewWord) (givens : Givens) → joined (spaced (view_arguments word)) (AnyBlanks ∷ []) (contents_in (view_arguments word) (listed givens))
    (tt, tt) ≡ contents_of word (number_in givens.first)
read_contents (view_kinds.Element kind) givens = refl
read_contents view_kinds.Names givens = refl
read_contents view_kinds.Indexes givens = refl

reads_to_end : (word : ViewWord) (givens : Givens) (after rest end : List ℕ)
    → ReadsAll (spaced (view_arguments word)) (contents_in (view_arguments word) (listed givens)) after rest → Reads AnyBlanks tt rest end
    → ReadsAll (after_view word) (contents_of word (number_in givens.first)) after end
reads_to_end word givens after rest end reads skips =
    subst (λ (contents : Contents (after_view word)). ReadsAll (after_view word) contents after end) (read_contents word givens)
    (reads_after (spaced (view_arguments word)) (AnyBlanks ∷ []) (contents_in (view_arguments word) (listed givens)) (tt, tt) after rest end reads
    (end, skips, refl))

pub view_read : (bytes at_word after rest end : List ℕ) (word : ViewWord) (givens : Givens) → Reads AnyGap tt bytes at_word
    → TakesWord view_words at_word word after → ReadsAll (spaced (view_arguments word)) (contents_in (view_arguments word) (listed givens)) after rest
    → Reads AnyBlanks tt rest end → end ≡ [] → IsMadeOf (viewed_to_end (viewed_of word (number_in givens.first))) bytes
view_read bytes at_word after rest end word givens blank (run, cut, is) reads skips none =
    let id : ℕ = number_in givens.first in
    let made = ends_made (after_parts word id) after (read_parts (after_view word) (contents_of word id) IsEnd after end (reads_to_end word givens after rest
    end reads skips) none) in
    of_word word id bytes (
      blank.takes.prefix,
      at_word,
      blank.takes.bytes_are,
      blank.takes.is,
      (
        run,
        after,
        cut.bytes_are,
        entry_word (run, word)
            (lookup_in view_words run word is),
        made,
      ),
    )

pub view_bounded : (after rest end : List ℕ) (word : ViewWord) (givens : Givens)
    → ReadsAll (spaced (view_arguments word)) (contents_in (view_arguments word) (listed givens)) after rest → Reads AnyBlanks tt rest end
    → AllByRecursion IsBounded (viewed_to_end (viewed_of word (number_in givens.first)))
view_bounded after rest end word givens reads skips =
    let id : ℕ = number_in givens.first in
    let within = read_bounded (after_view word) (contents_of word id) after end (reads_to_end word givens after rest end reads skips) [] tt in
    subst (λ (parts : List Part). AllByRecursion IsBounded parts) (sym (view_parts word id)) (tt, (tt, (all_split (after_parts word id) [] within).0))
