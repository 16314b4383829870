-- Queries by their tokens: tokens that lead from a place to a line's end, and that what the table of places makes of bytes they make of tokens.
use Rattle.std.proofs.Common.{◌≡◌, ◌⊎◌, inl, inr, ℕ, zero, suc, nat_eq, cond, Bool, true, false, Option, Some, None}
use Rattle.std.proofs.Common.{List, [], ◌∷◌, ◌++◌, codes, refl, sym, ap, ◌∙◌, subst}
use Rattle.plain_graph.specs.declared.command.Command.{Command}
use Rattle.gremlin_parse.specs.Grammar.{Blanks, Exactly, Closed, IsBounded, quote_byte}
use Rattle.gremlin_parse.specs.Keywords.{Entry, InTable}
use Rattle.gremlin_parse.specs.Productions.{Token, Whole, Quoted, AreFrom, word}
use Rattle.gremlin_parse.specs.Queries.{Into, OfQuery, OfBody, NamesFor, OfStep, OfMaps, OfHop, OfLabels, PairFor}
use Rattle.gremlin_parse.specs.Queries.{OfChange, OfSource, OneName, Key, OrderKey, VertexLabel, EdgeType, FoundLabel}
use Rattle.gremlin_parse.specs.Queries.{PairKey, Place, SourceName, Opening, FirstId, AfterId, NextId, StepName, Opens}
use Rattle.gremlin_parse.specs.Queries.{FirstName, AfterName, AfterKey, ValueOf, RelationName, Compared, ClosesFilter}
use Rattle.gremlin_parse.specs.Queries.{Most, OrderedName, ByFirst, AfterOrderKey, OrderDirection, DirectionName, Quote}
use Rattle.gremlin_parse.specs.Queries.{InQuotes, BodyFirst, Underscore, AfterAnonymous, BodyName, OpensBody, InBody}
use Rattle.gremlin_parse.specs.Queries.{TimesWord, TimesOf, ToWord, ToFirst, ToUnderscore, ToAnonymous, ToId, Dropped}
use Rattle.gremlin_parse.specs.Queries.{PropertyName, PairValue, PairCloses}
use Rattle.gremlin_parse.specs.Queries.{Quoted as Purpose, after_filter, after_names, after_pair, after_quoted}
use Rattle.gremlin_parse.specs.Queries.{is_loose, opened, opened_body, opened_source, turn}
use Rattle.plain_graph.specs.declared.filter.Filter.{Filter}
use Rattle.plain_graph.specs.declared.query.Query.{Query}
use Rattle.plain_graph.specs.declared.value.Value.{Value}
use Rattle.gremlin_parse.specs.Reading.{Then}
use Rattle.gremlin_parse.specs.Symbols.{Content, Allows, part}
use Rattle.gremlin_parse.specs.Turns.{Other, Nothing, Words, Token as Symbolic, Either, AtTurn, ThenSign, ThenOther, Loosely, Leads, sign_at}
use Rattle.gremlin_parse.specs.declared.bad_token.BadToken.{BadToken}
use Rattle.gremlin_parse.specs.declared.source.SourceKind.{SourceKind}
use Rattle.gremlin_parse.specs.declared.source.SourceKind.TheVariants as sources
use Rattle.gremlin_parse.specs.declared.step_word.BodyWord.{BodyWord}
use Rattle.gremlin_parse.specs.declared.step_word.BodyWord.TheVariants as of_body
use Rattle.gremlin_parse.specs.declared.step_word.ChangeWord.TheVariants as changes
use Rattle.gremlin_parse.specs.declared.step_word.StepWord.{StepWord}
use Rattle.gremlin_parse.specs.declared.step_word.StepWord.TheVariants as words
use borrow.Author.Tests.{eqb-true}
use Rattle.gremlin_parse.proofs.Turns.{sign_map, other_map, blanks_map}

-- ---- tokens from place to place

-- the token of a sign to a place, and what comes from the place after that token
abbrev pub SignTo : ℕ → Place → (Place → Type 0) → Token → Type 0
SignTo b (InQuotes quoted double) After token = (name : List ℕ) × (token ≡ Quoted name) × After (after_quoted quoted name)
SignTo b (Underscore query) After token = (token ≡ word (codes "__")) × After (AfterAnonymous query)
SignTo b (ToUnderscore query label) After token = (token ≡ word (codes "__")) × After (ToAnonymous query label)
SignTo b to After token = (token ≡ word (b ∷ [])) × After to

abbrev pub SignWalk : List (ℕ × Place) → (Place → Type 0) → Token → Type 0
SignWalk [] After token = ⊥
SignWalk (sign ∷ signs) After token = SignTo sign.0 sign.1 After token ⊎ SignWalk signs After token

-- the token of another part, where the fault of a word is free: none at its bytes
abbrev pub OtherWalk : Other StepWord Place → ((List ℕ → Option BadToken) → Type 0) → (Place → Type 0) → Token → Type 0
OtherWalk Nothing Free After token = ⊥
OtherWalk (Words table fault to) Free After token = (entry : Entry StepWord) × InTable entry table × (token ≡ word entry.0) × Free (fault entry.1)
    × After (to entry.1)
OtherWalk (Symbolic symbol to) Free After token = (content : Content symbol) × Allows symbol content × (token ≡ Whole (part symbol content))
    × After (to content)
OtherWalk (Either one two) Free After token = OtherWalk one Free After token ⊎ OtherWalk two Free After token

-- There is no such fault at some bytes of these tokens.
abbrev pub SomeFree : List Token → (List ℕ → Option BadToken) → Type 0
SomeFree tokens fault = (bytes : List ℕ) × AreFrom tokens bytes × (fault bytes ≡ None)

-- The tokens lead from the place to a line's end, which is this.
abbrev pub Walks : Command → Place → List Token → Type 0
Walks end place [] = (turn place).ends ≡ Some end
Walks end place (token ∷ tokens) =
    SignWalk (turn place).signs (λ next. Walks end next tokens) token ⊎ OtherWalk (turn place).other (SomeFree (token ∷ tokens)) (λ next. Walks end next tokens)
    token

-- ---- what each place has

-- A quote is the sign before a name in such quotes, and an underscore before another one.
abbrev IsSign : ℕ → Place → Type 0
IsSign b (InQuotes quoted double) = b ≡ quote_byte double
IsSign b (Underscore query) = b ≡ 95
IsSign b (ToUnderscore query label) = b ≡ 95
IsSign b to = Unit {0}

abbrev AreSigns : List (ℕ × Place) → Type 0
AreSigns [] = Unit {0}
AreSigns (sign ∷ signs) = IsSign sign.0 sign.1 × AreSigns signs

abbrev pub IsLooseAfter : Other StepWord Place → Type 0
IsLooseAfter Nothing = Unit {0}
IsLooseAfter (Words table fault to) = (word : StepWord) → is_loose (to word) ≡ true
IsLooseAfter (Symbolic symbol to) = (content : Content symbol) → is_loose (to content) ≡ true
IsLooseAfter (Either one two) = IsLooseAfter one × IsLooseAfter two

pub loose_quoted : (quoted : Purpose) (name : List ℕ) → is_loose (after_quoted quoted name) ≡ true
loose_quoted (OneName purpose names) name = refl
loose_quoted (Key into) name = refl
loose_quoted (OrderKey query) name = refl
loose_quoted VertexLabel name = refl
loose_quoted (EdgeType query) name = refl
loose_quoted FoundLabel name = refl
loose_quoted (PairKey purpose) name = refl

source_sign : (b : ℕ) (kind : SourceKind) → IsSign b (opened_source kind)
source_sign b sources.Vertices = tt
source_sign b sources.Edges = tt
source_sign b sources.NewVertex = tt
source_sign b sources.Found = tt

body_sign : (b : ℕ) (into : Into) (word : BodyWord) → IsSign b (opened_body into word)
body_sign b into (of_body.Neighbours direction) = tt
body_sign b into of_body.HasLabel = tt
body_sign b into of_body.Has = tt

opened_sign : (b : ℕ) (query : Query) (word : StepWord) → IsSign b (opened query word)
opened_sign b query (words.Bare bare) = tt
opened_sign b query (words.Names step) = tt
opened_sign b query (words.Body word) = body_sign b (OfQuery query) word
opened_sign b query words.ElementMap = tt
opened_sign b query words.Limit = tt
opened_sign b query words.Order = tt
opened_sign b query words.By = tt
opened_sign b query words.Repeat = tt
opened_sign b query (words.Change changes.AddE) = tt
opened_sign b query (words.Change changes.Property) = tt
opened_sign b query (words.Change changes.Drop) = tt

filter_sign : (b : ℕ) (into : Into) (filter : Filter) → IsSign b (after_filter into filter)
filter_sign b (OfQuery query) filter = tt
filter_sign b (OfBody query body) filter = tt

names_sign : (b : ℕ) (purpose : NamesFor) (names : List (List ℕ)) → IsSign b (after_names purpose names)
names_sign b (OfStep query step) names = tt
names_sign b (OfMaps query) names = tt
names_sign b (OfHop (OfQuery query) direction) names = tt
names_sign b (OfHop (OfBody query body) direction) names = tt
names_sign b (OfLabels into) names = filter_sign b into _

pair_sign : (b : ℕ) (purpose : PairFor) (key : List ℕ) (value : Value) → IsSign b (after_pair purpose key value)
pair_sign b (OfChange subject pairs) key value = tt
pair_sign b (OfSource label) key value = tt

are_signs : (place : Place) → AreSigns (turn place).signs
are_signs (SourceName) = (tt, (tt, tt))
are_signs (Opening kind) = (source_sign 40 kind, tt)
are_signs (AfterId edges ids) = (tt, (tt, tt))
are_signs (NextId edges ids) = tt
are_signs (StepName query) = tt
are_signs (Opens query word) = (opened_sign 40 query word, tt)
are_signs (FirstName purpose) = (names_sign 41 purpose [], (refl, (refl, tt)))
are_signs (AfterName purpose names) = (tt, (names_sign 41 purpose names, tt))
are_signs (AfterKey into key) = (tt, (filter_sign 41 into _, tt))
are_signs (RelationName into key) = tt
are_signs (Compared into key relation) = tt
are_signs (ClosesFilter into filter) = (filter_sign 41 into filter, tt)
are_signs (Most query) = tt
are_signs (OrderedName query) = tt
are_signs (ByFirst query) = (tt, (refl, (refl, tt)))
are_signs (AfterOrderKey query key) = (tt, (tt, tt))
are_signs (OrderDirection query key) = tt
are_signs (DirectionName query key) = tt
are_signs (Quote quoted) = (refl, (refl, tt))
are_signs (InQuotes quoted double) = tt
are_signs (BodyFirst query) = (refl, tt)
are_signs (BodyName query body) = tt
are_signs (OpensBody query body word) = (body_sign 40 (OfBody query body) word, tt)
are_signs (InBody query body) = (tt, (tt, tt))
are_signs (TimesWord query body) = tt
are_signs (TimesOf query body) = tt
are_signs (ToWord query label) = tt
are_signs (ToFirst query label) = (refl, (tt, tt))
are_signs (ToId query label) = tt
are_signs (Dropped query) = tt
are_signs (PropertyName subject pairs) = tt
are_signs (PairValue purpose key) = tt
are_signs (PairCloses purpose key value) = (pair_sign 41 purpose key value, tt)
are_signs place = (tt, tt)

pub loose_after : (place : Place) → IsLooseAfter (turn place).other
loose_after SourceName = ((λ content. refl), (λ content. refl))
loose_after (FirstId edges) = λ content. refl
loose_after (NextId edges ids) = λ content. refl
loose_after (StepName query) = λ word. refl
loose_after (ValueOf into key) = ((λ content. refl), (λ content. refl))
loose_after (RelationName into key) = λ content. refl
loose_after (Compared into key relation) = λ content. refl
loose_after (Most query) = λ content. refl
loose_after (OrderedName query) = λ word. refl
loose_after (ByFirst query) = ((λ content. refl), (λ content. refl))
loose_after (OrderDirection query key) = ((λ content. refl), (λ content. refl))
loose_after (DirectionName query key) = λ content. refl
loose_after (InQuotes quoted double) = loose_quoted quoted
loose_after (BodyFirst query) = λ word. refl
loose_after (BodyName query body) = λ word. refl
loose_after (TimesWord query body) = λ content. refl
loose_after (TimesOf query body) = λ content. refl
loose_after (ToWord query label) = λ content. refl
loose_after (ToId query label) = λ content. refl
loose_after (PropertyName subject pairs) = λ word. refl
loose_after (PairValue purpose key) = λ content. refl
loose_after place = tt

-- ---- from bytes to tokens

abbrev pub Tokened : Command → Place → List ℕ → Type 0
Tokened end place bytes = (tokens : List Token) × Walks end place tokens × AreFrom tokens bytes

-- what stands from the place on, by tokens; inside a token the rest of it first
abbrev pub Spelled : Command → Place → List ℕ → Type 0
Spelled end (InQuotes quoted double) bytes = (name : List ℕ) × IsBounded (Closed double name)
    × Then (Closed double name) (Then Blanks (Tokened end (after_quoted quoted name))) bytes
Spelled end (Underscore query) bytes = Then (Exactly (95 ∷ [])) (Then Blanks (Tokened end (AfterAnonymous query))) bytes
Spelled end (ToUnderscore query label) bytes = Then (Exactly (95 ∷ [])) (Then Blanks (Tokened end (ToAnonymous query label))) bytes
Spelled end place bytes = Tokened end place bytes

abbrev LooselySpelled : Command → Place → List ℕ → Type 0
LooselySpelled end = Loosely turn is_loose (Spelled end)

loosened : (end : Command) (place : Place) → is_loose place ≡ true → (bytes : List ℕ) → LooselySpelled end place bytes → Then Blanks (Tokened end place) bytes
loosened end (InQuotes quoted double) loose bytes at = cc
loosened end (Underscore query) loose bytes at = cc
loosened end (ToUnderscore query label) loose bytes at = cc
loosened end place loose bytes at = at

-- A token that these languages have, and tokens after it, are the bytes.
abbrev Found : ((Place → Type 0) → Token → Type 0) → Command → List ℕ → Type 0
Found Walk end bytes = (token : Token) × (tokens : List Token) × Walk (λ next. Walks end next tokens) token × AreFrom (token ∷ tokens) bytes

after_sign : (end : Command) (b : ℕ) (to : Place) → IsSign b to → (rest : List ℕ) → LooselySpelled end to rest → Found (SignTo b to) end (b ∷ rest)
after_sign end b (InQuotes quoted double) is rest at =
    let (name, bounded, then) = at in
    let (prefix, more, whole, part_is, loose) = then in
    let (blanks, last, cut, are, (tokens, walks, from)) = loose in (
      Quoted name,
      tokens,
      (name, refl, walks),
      (
        b ∷ prefix,
        more,
        ap (λ (r : List ℕ). b ∷ r) whole,
        (double, (λ i. is i ∷ part_is.0 i), part_is.1, bounded),
        (blanks, last, cut, are, from),
      ),
    )
after_sign end b (Underscore query) is rest at =
    let (prefix, more, whole, same, loose) = at in
    let (blanks, last, cut, are, (tokens, walks, from)) = loose in
    (word (codes "__"), tokens, (refl, walks), (b ∷ prefix, more, ap (λ (r : List ℕ). b ∷ r) whole, ((λ i. is i ∷ same i), tt), (blanks, last, cut, are, from)))
after_sign end b (ToUnderscore query label) is rest at =
    let (prefix, more, whole, same, loose) = at in
    let (blanks, last, cut, are, (tokens, walks, from)) = loose in
    (word (codes "__"), tokens, (refl, walks), (b ∷ prefix, more, ap (λ (r : List ℕ). b ∷ r) whole, ((λ i. is i ∷ same i), tt), (blanks, last, cut, are, from)))
after_sign end b to is rest at =
    let (blanks, last, cut, are, (tokens, walks, from)) = at in
    (word (b ∷ []), tokens, (refl, walks), (b ∷ [], rest, refl, (refl, tt), (blanks, last, cut, are, from)))

-- the same of another part
abbrev OtherFound : Other StepWord Place → Command → List ℕ → Type 0
OtherFound other end bytes = (token : Token) × (tokens : List Token) × OtherWalk other (SomeFree (token ∷ tokens)) (λ next. Walks end next tokens) token
    × AreFrom (token ∷ tokens) bytes

sign_walk : (end : Command) (signs : List (ℕ × Place)) → AreSigns signs → (b : ℕ) (next : Place) → sign_at signs b ≡ Some next → (rest : List ℕ)
    → LooselySpelled end next rest → Found (SignWalk signs) end (b ∷ rest)
sign_walk end [] all b next is rest at = cc
sign_walk end (sign ∷ signs) all b next is rest at = here (λ later. sign_walk end signs all.1 b next later rest at) (nat_eq sign.0 b) refl is
  where
    here : (sign_at signs b ≡ Some next → Found (SignWalk signs) end (b ∷ rest)) → (t : Bool) → nat_eq sign.0 b ≡ t
        → cond t (Some sign.1) (sign_at signs b) ≡ Some next → Found (SignWalk (sign ∷ signs)) end (b ∷ rest)
    here later true same found =
        let to : sign.1 ≡ next = cc in
        let (token, tokens, walk, from) = after_sign end sign.0 sign.1 all.0 rest (subst (λ p. LooselySpelled end p rest) (sym to) at) in
        subst (λ c. Found (SignWalk (sign ∷ signs)) end (c ∷ rest)) (eqb-true sign.0 b same) (token, tokens, inl walk, from)
    here later false same found = let (token, tokens, walk, from) = later found in (token, tokens, inr walk, from)

other_walk : (end : Command) (other : Other StepWord Place) → IsLooseAfter other → (bytes : List ℕ) → ThenOther IsBounded other (LooselySpelled end) bytes
    → OtherFound other end bytes
other_walk end Nothing loose bytes none = absurd none
other_walk end (Words table fault to) loose bytes (entry, within, bound, (prefix, rest, whole, same, after)) =
    let (blanks, last, cut, are, (tokens, walks, from)) = loosened end (to entry.1) (loose entry.1) rest after in
    let these : AreFrom (word entry.0 ∷ tokens) bytes = (prefix, rest, whole, (same, tt), (blanks, last, cut, are, from)) in
    (word entry.0, tokens, (entry, within, refl, (bytes, these, bound), walks), these)
other_walk end (Symbolic symbol to) loose bytes (content, allows, bound, (prefix, rest, whole, is, after)) =
    let (blanks, last, cut, are, (tokens, walks, from)) = loosened end (to content) (loose content) rest after in
    (Whole (part symbol content), tokens, (content, allows, refl, walks), (prefix, rest, whole, (is, bound), (blanks, last, cut, are, from)))
other_walk end (Either one two) loose bytes (inl then) = let (token, tokens, walk, from) = other_walk end one loose.0 bytes then in
    (token, tokens, inl walk, from)
other_walk end (Either one two) loose bytes (inr then) = let (token, tokens, walk, from) = other_walk end two loose.1 bytes then in
    (token, tokens, inr walk, from)

tokened : (end : Command) (place : Place) (bytes : List ℕ) → AtTurn IsBounded (turn place) (LooselySpelled end) bytes → Tokened end place bytes
tokened end place bytes (inl (b, next, is, (prefix, rest, whole, same, after))) =
    let (token, tokens, walk, from) = sign_walk end (turn place).signs (are_signs place) b next is rest after in
    let bytes_are : b ∷ rest ≡ bytes = sym (whole ∙ ap (λ (p : List ℕ). p ++ rest) same) in
    (token ∷ tokens, inl walk, subst (AreFrom (token ∷ tokens)) bytes_are from)
tokened end place bytes (inr other) =
    let (token, tokens, walk, from) = other_walk end (turn place).other (loose_after place) bytes other in
    (token ∷ tokens, inr walk, from)

-- the only sign of a place
only_sign : (end : Command) (to : Place) → is_loose to ≡ true → (bytes : List ℕ) → ThenSign ((95, to) ∷ []) (LooselySpelled end) bytes
    → Then (Exactly (95 ∷ [])) (Then Blanks (Tokened end to)) bytes
only_sign end to loose bytes (b, next, is, (prefix, rest, whole, same, after)) = here (nat_eq 95 b) refl is
  where
    here : (t : Bool) → nat_eq 95 b ≡ t → cond t (Some to) None ≡ Some next → Then (Exactly (95 ∷ [])) (Then Blanks (Tokened end to)) bytes
    here true byte found =
        let place : to ≡ next = cc in
        let sign : 95 ≡ b = eqb-true 95 b byte in
        (prefix, rest, whole, same ∙ ap (λ (c : ℕ). c ∷ []) (sym sign), loosened end to loose rest (subst (λ p. LooselySpelled end p rest) (sym place) after))
    here false byte found = cc

turn_spelled : (end : Command) (place : Place) (bytes : List ℕ) → AtTurn IsBounded (turn place) (LooselySpelled end) bytes → Spelled end place bytes
turn_spelled end (InQuotes quoted double) bytes (inl (b, next, is, then)) = cc
turn_spelled end (InQuotes quoted double) bytes (inr (name, allows, bounded, (prefix, rest, whole, is, after))) =
    (name, bounded, (prefix, rest, whole, is, loosened end (after_quoted quoted name) (loose_quoted quoted name) rest after))
turn_spelled end (Underscore query) bytes (inl sign) = only_sign end (AfterAnonymous query) refl bytes sign
turn_spelled end (Underscore query) bytes (inr none) = absurd none
turn_spelled end (ToUnderscore query label) bytes (inl sign) = only_sign end (ToAnonymous query label) refl bytes sign
turn_spelled end (ToUnderscore query label) bytes (inr none) = absurd none
turn_spelled end place bytes at = tokened end place bytes at

end_spelled : (end : Command) (place : Place) (bytes : List ℕ) → (turn place).ends ≡ Some end → bytes ≡ [] → Spelled end place bytes
end_spelled end (InQuotes quoted double) bytes is none = cc
end_spelled end (Underscore query) bytes is none = cc
end_spelled end (ToUnderscore query label) bytes is none = cc
end_spelled end place bytes is none = ([], is, none)

-- What leads from a place to a line's end does so by tokens.
pub leads_spelled : (end : Command) (n : ℕ) (place : Place) (bytes : List ℕ) → Leads turn is_loose IsBounded end n place bytes → Spelled end place bytes
leads_spelled end zero place bytes (is, none) = end_spelled end place bytes is none
leads_spelled end (suc n) place bytes (inl sign) =
    turn_spelled end place bytes (inl (sign_map (Loosely turn is_loose (λ next rest. Leads turn is_loose IsBounded end n next rest)) (LooselySpelled end)
    (λ next rest. blanks_map (is_loose next) (Leads turn is_loose IsBounded end n next) (Spelled end next) (λ these leads. leads_spelled end n next these
    leads) rest) (turn place).signs bytes sign))
leads_spelled end (suc n) place bytes (inr other) =
    turn_spelled end place bytes (inr (other_map IsBounded IsBounded (λ this bound. bound) (Loosely turn is_loose (λ next rest. Leads turn is_loose IsBounded
    end n next rest)) (LooselySpelled end) (λ next rest. blanks_map (is_loose next) (Leads turn is_loose IsBounded end n next) (Spelled end next)
    (λ these leads. leads_spelled end n next these leads) rest) (turn place).other bytes other))
