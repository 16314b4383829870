-- Whether an order has a key, by its tokens: what the look ahead over its bytes finds.
use Rattle.std.proofs.Common.{◌≡◌, inl, inr, ℕ, Bool, true, false, Option, Some, None, List, [], ◌∷◌, ◌++◌, map, codes, refl, sym, ap, ◌∙◌, subst}
use Rattle.std.specs.Prelude.{option_and_then, unwrap_or}
use Rattle.gremlin_parse.specs.Grammar.{is_blank}
use Rattle.gremlin_parse.specs.Faults.{EndsRun}
use Rattle.gremlin_parse.specs.OrderKeys.{after_blanks, after_token, after_tokens, has_key, key_tokens, starts_quote}
use Rattle.gremlin_parse.specs.Productions.{Token, Quoted, AreFrom, word, dot, comma, closing, call, IsDirection, IsBy, IsOrder}
use Rattle.gremlin_parse.specs.Queries.{sort_name}
use Rattle.gremlin_parse.specs.Values.{is_quote}
use Rattle.gremlin_parse.proofs.OrderTokens.{after_blanks-run, after_token-append}
use Rattle.gremlin_parse.proofs.StepNames.{Follows, name_starts, step_letters}

-- The bytes of these tokens begin with no blank.
abbrev Bare : List Token → Type 0
Bare tokens = (bytes : List ℕ) → AreFrom tokens bytes → EndsRun is_blank bytes

bare_none : Bare []
bare_none bytes none = subst (EndsRun is_blank) (sym none) tt

bare_word : (c : ℕ) (letters : List ℕ) (tokens : List Token) → is_blank c ≡ false → Bare (word (c ∷ letters) ∷ tokens)
bare_word c letters tokens solid bytes (text, rest, whole, (same, none), later) =
    subst (EndsRun is_blank) (sym (whole ∙ ap (λ (t : List ℕ). t ++ rest) same)) solid

-- Each word begins with a byte that is no blank.
abbrev AreBare : List (List ℕ) → Type 0
AreBare [] = Unit {0}
AreBare ([] ∷ these) = ⊥
AreBare ((c ∷ letters) ∷ these) = (is_blank c ≡ false) × AreBare these

bare_words : (these : List (List ℕ)) (tokens : List Token) → AreBare these → Bare tokens → Bare (map word these ++ tokens)
bare_words [] tokens are bare = bare
bare_words ([] ∷ these) tokens are bare = absurd are
bare_words ((c ∷ letters) ∷ these) tokens are bare = bare_word c letters (map word these ++ tokens) are.0

-- These words stand first, and are gone over, up to the tokens after them.
abbrev GoneOver : List (List ℕ) → List Token → List ℕ → Type 0
GoneOver these tokens bytes = (rest : List ℕ) × AreFrom tokens rest × ((more : List (List ℕ)) → after_tokens (these ++ more) bytes ≡ after_tokens more rest)

word_gone : (letters : List ℕ) (tokens : List Token) → Bare tokens → (bytes : List ℕ) → AreFrom (word letters ∷ tokens) bytes → (rest : List ℕ)
    × AreFrom tokens rest × (after_token letters bytes ≡ Some rest)
word_gone letters tokens bare bytes (text, more, whole, (same, none), (blanks, rest, cut, are, from)) =
    let at : bytes ≡ letters ++ more = whole ∙ ap (λ (t : List ℕ). t ++ more) same in
    let left : after_blanks more ≡ rest = ap after_blanks cut ∙ after_blanks-run blanks rest are (bare rest from) in
    (rest, from, ap (after_token letters) at ∙ after_token-append letters more ∙ ap (λ (r : List ℕ). Some r) left)

words_gone : (these : List (List ℕ)) (tokens : List Token) → AreBare these → Bare tokens → (bytes : List ℕ) → AreFrom (map word these ++ tokens) bytes
    → GoneOver these tokens bytes
words_gone [] tokens are bare bytes from = (bytes, from, (λ more. refl))
words_gone ([] ∷ these) tokens are bare bytes from = absurd are
words_gone ((c ∷ letters) ∷ these) tokens are bare bytes from =
    let (next, later, first) = word_gone (c ∷ letters) (map word these ++ tokens) (bare_words these tokens are.1 bare) bytes from in
    let (rest, last, gone) = words_gone these tokens are.1 bare next later in
    (rest, last, (λ more. ap (option_and_then (λ r. after_tokens (these ++ more) r)) first ∙ gone more))

-- ---- the key

abbrev pub is_keyed : Option (List ℕ) → Bool
is_keyed None = false
is_keyed (Some key) = true

-- The bytes of these tokens begin with a quote or not, and with no blank.
abbrev Begins : Bool → List Token → Type 0
Begins quoted tokens = Bare tokens × ((bytes : List ℕ) → AreFrom tokens bytes → starts_quote bytes ≡ quoted)

word_begins : (c : ℕ) (letters : List ℕ) (tokens : List Token) → is_blank c ≡ false → is_quote c ≡ false → Begins false (word (c ∷ letters) ∷ tokens)
word_begins c letters tokens solid unquoted = (
  bare_word c letters tokens solid,
  λ bytes (text, rest, whole, (same, none), later). ap starts_quote (whole ∙ ap (λ (t : List ℕ). t ++ rest) same) ∙ unquoted,
)

quoted_bare : (name : List ℕ) (tokens : List Token) → Bare (Quoted name ∷ tokens)
quoted_bare name tokens bytes (text, rest, whole, (true, same, named, within), later) =
    subst (EndsRun is_blank) (sym (whole ∙ ap (λ (t : List ℕ). t ++ rest) same)) refl
quoted_bare name tokens bytes (text, rest, whole, (false, same, named, within), later) =
    subst (EndsRun is_blank) (sym (whole ∙ ap (λ (t : List ℕ). t ++ rest) same)) refl

quoted_starts : (name : List ℕ) (tokens : List Token) (bytes : List ℕ) → AreFrom (Quoted name ∷ tokens) bytes → starts_quote bytes ≡ true
quoted_starts name tokens bytes (text, rest, whole, (true, same, named, within), later) = ap starts_quote (whole ∙ ap (λ (t : List ℕ). t ++ rest) same)
quoted_starts name tokens bytes (text, rest, whole, (false, same, named, within), later) = ap starts_quote (whole ∙ ap (λ (t : List ℕ). t ++ rest) same)

sort_begins : (descending : Bool) (tokens : List Token) → Begins false (word (sort_name descending) ∷ tokens)
sort_begins false tokens = word_begins 97 (codes "sc") tokens refl refl
sort_begins true tokens = word_begins 100 (codes "esc") tokens refl refl

direction_begins : (descending : Bool) (text rest : List Token) → IsDirection descending text → Begins false ((text ++ closing ∷ []) ++ rest)
direction_begins descending text rest (inl is) = subst (λ (t : List Token). Begins false ((t ++ closing ∷ []) ++ rest)) (sym is)
    (sort_begins descending (closing ∷ rest))
direction_begins descending text rest (inr is) = subst (λ (t : List Token). Begins false ((t ++ closing ∷ []) ++ rest)) (sym is)
    (word_begins 79 (codes "rder") (dot ∷ word (sort_name descending) ∷ closing ∷ rest) refl refl)

by_begins : (key : Option (List ℕ)) (descending : Bool) (text rest : List Token) → IsBy key descending text
    → Begins (is_keyed key) ((text ++ closing ∷ []) ++ rest)
by_begins None descending text rest (inl (ascends, is)) = subst (λ (t : List Token). Begins false ((t ++ closing ∷ []) ++ rest)) (sym is)
    (word_begins 41 [] rest refl refl)
by_begins None descending text rest (inr is) = direction_begins descending text rest is
by_begins (Some key) descending text rest (inl (ascends, is)) =
    subst (λ (t : List Token). Begins true ((t ++ closing ∷ []) ++ rest)) (sym is) (quoted_bare key (closing ∷ rest), quoted_starts key (closing ∷ rest))
by_begins (Some key) descending text rest (inr (direction, are, is)) =
    subst (λ (t : List Token). Begins true ((t ++ closing ∷ []) ++ rest)) (sym is)
    (quoted_bare key (comma ∷ ((direction ++ closing ∷ []) ++ rest)), quoted_starts key (comma ∷ ((direction ++ closing ∷ []) ++ rest)))

-- what the look ahead finds of what follows so many tokens
abbrev Found : Option (List ℕ) → Bool
Found after = starts_quote (unwrap_or after [])

keyed_bytes : (quoted : Bool) (tokens : List Token) → Begins quoted tokens → (bytes : List ℕ) → AreFrom (map word key_tokens ++ tokens) bytes
    → has_key bytes ≡ quoted
unfolding has_key
keyed_bytes quoted tokens begins bytes from =
    let (rest, last, gone) = words_gone key_tokens tokens (refl, (refl, (refl, (refl, (refl, (refl, tt)))))) begins.0 bytes from in
    ap Found (gone []) ∙ begins.1 rest last

-- An order without a `by` has no key.
plain_bytes : (rest : List Token) → Follows rest → (bytes : List ℕ) → AreFrom (call (codes "order") [] ++ rest) bytes → has_key bytes ≡ false
unfolding has_key
plain_bytes rest (inl none) bytes from =
    let ends : AreFrom (call (codes "order") []) bytes = subst (λ (r : List Token). AreFrom (call (codes "order") [] ++ r) bytes) none from in
    let (last, empty, gone) = words_gone (codes "order" ∷ codes "(" ∷ codes ")" ∷ []) [] (refl, (refl, (refl, tt))) bare_none bytes ends in
    ap Found (gone (codes "." ∷ codes "by" ∷ codes "(" ∷ []) ∙ ap (after_tokens (codes "." ∷ codes "by" ∷ codes "(" ∷ [])) empty)
plain_bytes rest (inr (this, later, other, is)) bytes from =
    let goes : AreFrom (call (codes "order") [] ++ dot ∷ word (step_letters this) ∷ later) bytes =
    subst (λ (r : List Token). AreFrom (call (codes "order") [] ++ r) bytes) is from in
    let bare : Bare (word (step_letters this) ∷ later) = λ these (text, more, whole, (same, none), after).
    subst (EndsRun is_blank) (sym (whole ∙ ap (λ (t : List ℕ). t ++ more) same)) (name_starts this other more).1 in
    let (last, named, gone) = words_gone (codes "order" ∷ codes "(" ∷ codes ")" ∷ codes "." ∷ []) (word (step_letters this) ∷ later)
    (refl, (refl, (refl, (refl, tt)))) bare bytes goes in
    let (text, more, whole, (same, none), after) = named in
    let at : last ≡ step_letters this ++ more = whole ∙ ap (λ (t : List ℕ). t ++ more) same in
    let fails : after_token (codes "by") last ≡ None = ap (after_token (codes "by")) at ∙ (name_starts this other more).0 in
    ap Found (gone (codes "by" ∷ codes "(" ∷ []) ∙ ap (option_and_then (λ r. after_tokens (codes "(" ∷ []) r)) fails)

-- The look ahead over the bytes of an order finds whether it has a key.
pub order_keyed : (key : Option (List ℕ)) (descending : Bool) (text rest : List Token) → IsOrder key descending text → Follows rest → (bytes : List ℕ)
    → AreFrom (text ++ rest) bytes → has_key bytes ≡ is_keyed key
order_keyed key descending text rest (inl (none, ascends, is)) follows bytes from =
    plain_bytes rest follows bytes (subst (λ (t : List Token). AreFrom (t ++ rest) bytes) is from) ∙ ap is_keyed (sym none)
order_keyed key descending text rest (inr (inner, by, is)) follows bytes from =
    keyed_bytes (is_keyed key) ((inner ++ closing ∷ []) ++ rest) (by_begins key descending inner rest by) bytes
    (subst (λ (t : List Token). AreFrom (t ++ rest) bytes) is from)
