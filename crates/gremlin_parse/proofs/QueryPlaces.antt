-- The places of queries: what may follow each ends it, and each has a line.
use Rattle.std.proofs.Common.{◌≡◌, inl, inr, ℕ, zero, nat_eq, cond, Bool, true, false, ◌||◌, Option, Some, None, List}
use Rattle.std.proofs.Common.{[], ◌∷◌, ◌++◌, map, codes, pos, refl, sym, ap, ◌∙◌, subst, ⊎_elim}
use Rattle.std.proofs.lemmas.Bool.Decides.{nat_tests}
use Rattle.std.proofs.Common.{arith}
use Rattle.plain_graph.specs.declared.command.Command.{Command}
use Rattle.plain_graph.specs.declared.command.Command.TheVariants as commands
use Rattle.plain_graph.specs.declared.direction.Direction.TheVariants as directions
use Rattle.plain_graph.specs.declared.mutation.Mutation.TheVariants as mutations
use Rattle.plain_graph.specs.declared.pairs.Pair.{Pair}
use Rattle.plain_graph.specs.declared.query.BodyStep.{BodyStep}
use Rattle.plain_graph.specs.declared.query.BodyStep.TheVariants as bodies
use Rattle.plain_graph.specs.declared.query.Query.{Query}
use Rattle.plain_graph.specs.declared.query.Source.TheVariants as origins
use Rattle.plain_graph.specs.declared.query.Step.{Step}
use Rattle.plain_graph.specs.declared.filter.Filter.{Filter}
use Rattle.plain_graph.specs.declared.filter.Filter.TheVariants as filters
use Rattle.plain_graph.specs.declared.query.Step.TheVariants as steps
use Rattle.gremlin_parse.specs.Numbers.{is_digit}
use Rattle.gremlin_parse.specs.Grammar.{most_id, quote_byte}
use Rattle.gremlin_parse.specs.Keywords.{Entry, InTable, plain}
use Rattle.gremlin_parse.specs.Symbols.{Sign, OneWord, AnyNumber, AnyValue, is_integer_start}
use Rattle.gremlin_parse.specs.Values.{is_quote, IsWritten}
use Rattle.plain_graph.specs.declared.value.Value.{Value}
use Rattle.plain_graph.specs.declared.filter.Relation.{Relation}
use Rattle.gremlin_parse.specs.Reading.{StartsNumber}
use Rattle.gremlin_parse.specs.Turns.{Turn, Other, Nothing, Token, ThenOther, WithBlanks, Loosely, LineFrom, sign_at}
use Rattle.gremlin_parse.specs.Queries.{step_words, body_words, as_step_word, bare_step, Into, OfQuery, OfBody}
use Rattle.gremlin_parse.specs.Queries.{NamesFor, OfStep, OfMaps, OfHop, OfLabels, Quoted, OneName, Key, OrderKey}
use Rattle.gremlin_parse.specs.Queries.{Place, Start, SourceName, Opening, FirstId, AfterId, NextId, Steps, StepName}
use Rattle.gremlin_parse.specs.Queries.{Opens, Closing, FirstName, AfterName, AfterKey, ValueOf, AfterP, RelationName}
use Rattle.gremlin_parse.specs.Queries.{OpensValue, Compared, ClosesValue, ClosesFilter, relation_names, relation_of}
use Rattle.gremlin_parse.specs.Queries.{relation_filter, Most, OrderCloses, Ordered, OrderedName, ByFirst}
use Rattle.gremlin_parse.specs.Queries.{AfterOrderKey, OrderDirection, AfterOrderWord, DirectionName, ByCloses}
use Rattle.gremlin_parse.specs.Queries.{ordered_words, sort_names, is_descending, direction_of, plain_order, reordered}
use Rattle.gremlin_parse.specs.Queries.{Quote, InQuotes, BodyFirst, Underscore, AfterAnonymous, BodyName, OpensBody}
use Rattle.gremlin_parse.specs.Queries.{InBody, AfterBody, TimesWord, OpensTimes, TimesOf, Subject, NewVertex, NewEdges}
use Rattle.gremlin_parse.specs.Queries.{Elements, VertexLabel, EdgeType, PairKey, AfterFoundLabel, VertexCloses}
use Rattle.gremlin_parse.specs.Queries.{TypeCloses, AfterType, ToWord, OpensTo, ToFirst, ToUnderscore, ToAnonymous}
use Rattle.gremlin_parse.specs.Queries.{ToVertex, OpensId, ToId, IdCloses, ToCloses, DropCloses, Dropped, Changed}
use Rattle.gremlin_parse.specs.Queries.{PropertyName, OpensProperty, AfterPairKey, PairValue, PairCloses}
use Rattle.gremlin_parse.specs.Queries.{property_words, changed, with_pair, body_name, query_from, with_step, opened}
use Rattle.gremlin_parse.specs.Queries.{opened_names, opened_body, after_step, after_filter, after_names, after_quoted}
use Rattle.gremlin_parse.specs.Queries.{value_filter, turn, is_loose, FoundLabel, PairFor, OfChange, OfSource}
use Rattle.gremlin_parse.specs.Queries.{after_pair, elements_of, named_source, opened_source, shown}
use Rattle.plain_graph.specs.declared.value.Value.TheVariants as values
use Rattle.gremlin_parse.specs.declared.source.SourceKind.{SourceKind}
use Rattle.gremlin_parse.specs.declared.source.SourceKind.TheVariants as sources
use Rattle.gremlin_parse.specs.declared.step_word.BareStep.TheVariants as bare
use Rattle.gremlin_parse.specs.declared.step_word.BodyWord.{BodyWord}
use Rattle.gremlin_parse.specs.declared.step_word.BodyWord.TheVariants as of_body
use Rattle.gremlin_parse.specs.declared.step_word.ChangeWord.TheVariants as changes
use Rattle.gremlin_parse.specs.declared.step_word.StepWord.{StepWord}
use Rattle.gremlin_parse.specs.declared.step_word.StepWord.TheVariants as words
use Rattle.gremlin_parse.proofs.Decimals.{number_starts}
use Rattle.gremlin_parse.proofs.Tables.{word_table, IsWordTable, StandsWhole, all_in}
use Rattle.gremlin_parse.proofs.Values.{StartsKind, value_starts}
use Rattle.gremlin_parse.proofs.Symbols.{NoByte, Blank}
use Rattle.gremlin_parse.proofs.Turns.{Language, Begins, NoSign, StartsApart, turn_halts, IsEnded, IsPlace, place_halts}
use Rattle.gremlin_parse.proofs.Moves.{line_join}

-- ---- a line of each place

abbrev pub Line : Place → Language
Line place = LineFrom turn is_loose place

-- no blanks before a line
loose_line : (place : Place) (line : List ℕ) → Line place line → Loosely turn is_loose Line place line
loose_line place line at = first (is_loose place) (Line place) line at
  where
    first : (t : Bool) (At : Language) (bytes : List ℕ) → At bytes → WithBlanks t At bytes
    first true At bytes at = ([], bytes, refl, tt, at)
    first false At bytes at = at

by_sign : (place : Place) (b : ℕ) (next : Place) (line : List ℕ) → sign_at (turn place).signs b ≡ Some next → Line next line → Line place (b ∷ line)
by_sign place b next line is later = line_join turn is_loose place (b ∷ line) (inl (b, next, is, (b ∷ [], line, refl, refl, loose_line next line later)))

steps_line : (query : Query) → Line (Steps query) []
steps_line query = (zero, commands.Query (shown query), (refl, refl))

ordered_line : (query : Query) → Line (Ordered query) []
ordered_line query = (zero, commands.Query (shown query), (refl, refl))

closes_line : (query : Query) (step : Step) → Line (Closing query step) (41 ∷ [])
closes_line query step = by_sign (Closing query step) 41 (Steps (with_step query step)) [] refl (steps_line (with_step query step))

after_id_line : (edges : Bool) (ids : List ℕ) → Line (AfterId edges ids) (41 ∷ [])
after_id_line edges ids = by_sign (AfterId edges ids) 41 (Steps (query_from (elements_of edges ids))) [] refl (steps_line (query_from (elements_of edges ids)))

-- the rest of a repeat after the dot that follows its body
abbrev times_rest : List ℕ
times_rest = codes "times" ++ 40 ∷ 49 ∷ 41 ∷ []

times_of_line : (query : Query) (body : List BodyStep) → Line (TimesOf query body) (49 ∷ 41 ∷ [])
times_of_line query body = line_join turn is_loose (TimesOf query body) (49 ∷ 41 ∷ [])
    (inr (
      1,
      tt,
      tt,
      (
        codes "1",
        41 ∷ [],
        refl,
        (refl, refl),
        loose_line (Closing query (steps.Repeat body 1)) (41 ∷ [])
            (closes_line query (steps.Repeat body 1)),
      ),
    ))

opens_times_line : (query : Query) (body : List BodyStep) → Line (OpensTimes query body) (40 ∷ 49 ∷ 41 ∷ [])
opens_times_line query body = by_sign (OpensTimes query body) 40 (TimesOf query body) (49 ∷ 41 ∷ []) refl (times_of_line query body)

times_word_line : (query : Query) (body : List BodyStep) → Line (TimesWord query body) times_rest
times_word_line query body = line_join turn is_loose (TimesWord query body) times_rest
    (inr (tt, tt, tt, (codes "times", 40 ∷ 49 ∷ 41 ∷ [], refl, refl, loose_line (OpensTimes query body) (40 ∷ 49 ∷ 41 ∷ []) (opens_times_line query body))))

after_body_line : (query : Query) (body : List BodyStep) → Line (AfterBody query body) (46 ∷ times_rest)
after_body_line query body = by_sign (AfterBody query body) 46 (TimesWord query body) times_rest refl (times_word_line query body)

in_body_line : (query : Query) (body : List BodyStep) → Line (InBody query body) (41 ∷ 46 ∷ times_rest)
in_body_line query body = by_sign (InBody query body) 41 (AfterBody query body) (46 ∷ times_rest) refl (after_body_line query body)

-- a rest after a step of a query, or of a body
abbrev rest_after : Into → List ℕ
rest_after (OfQuery query) = []
rest_after (OfBody query body) = 41 ∷ 46 ∷ times_rest

after_step_line : (into : Into) (step : BodyStep) → Line (after_step into step) (rest_after into)
after_step_line (OfQuery query) step = steps_line _
after_step_line (OfBody query body) step = in_body_line query (body ++ step ∷ [])

after_filter_line : (into : Into) (filter : Filter) → Line (after_filter into filter) (rest_after into)
after_filter_line into filter = after_step_line into (bodies.Filter filter)

closes_filter_line : (into : Into) (filter : Filter) → Line (ClosesFilter into filter) (41 ∷ rest_after into)
closes_filter_line into filter = by_sign (ClosesFilter into filter) 41 (after_filter into filter) (rest_after into) refl (after_filter_line into filter)

-- a rest after the names of a step
abbrev rest_of_names : NamesFor → List ℕ
rest_of_names (OfStep query step) = []
rest_of_names (OfMaps query) = []
rest_of_names (OfHop into direction) = rest_after into
rest_of_names (OfLabels into) = rest_after into

after_names_line : (purpose : NamesFor) (names : List (List ℕ)) → Line (after_names purpose names) (rest_of_names purpose)
after_names_line (OfStep query step) names = steps_line _
after_names_line (OfMaps query) names = steps_line _
after_names_line (OfHop into direction) names = after_step_line into _
after_names_line (OfLabels into) names = after_filter_line into _

-- ---- changes

changed_line : (subject : Subject) (pairs : List Pair) → Line (Changed subject pairs) []
changed_line subject pairs = (zero, changed subject pairs, (refl, refl))

vertex_line : (label : List ℕ) → Line (VertexCloses label) (41 ∷ [])
vertex_line label = by_sign (VertexCloses label) 41 (Changed (NewVertex label) []) [] refl (changed_line (NewVertex label) [])

to_closes_line : (query : Query) (label : List ℕ) (to : ℕ) → Line (ToCloses query label to) (41 ∷ [])
to_closes_line query label to = by_sign (ToCloses query label to) 41 (Changed (NewEdges query label to) []) [] refl (changed_line (NewEdges query label to) [])

id_closes_line : (query : Query) (label : List ℕ) (to : ℕ) → Line (IdCloses query label to) (41 ∷ 41 ∷ [])
id_closes_line query label to = by_sign (IdCloses query label to) 41 (ToCloses query label to) (41 ∷ []) refl (to_closes_line query label to)

to_id_line : (query : Query) (label : List ℕ) → Line (ToId query label) (48 ∷ 41 ∷ 41 ∷ [])
to_id_line query label = line_join turn is_loose (ToId query label) (48 ∷ 41 ∷ 41 ∷ [])
    (inr (0, tt, tt, (codes "0", 41 ∷ 41 ∷ [], refl, (refl, refl), loose_line (IdCloses query label 0) (41 ∷ 41 ∷ []) (id_closes_line query label 0))))

-- the rest of `to` from the parenthesis of its vertex on, and from the vertex on
abbrev id_rest : List ℕ
id_rest = 40 ∷ 48 ∷ 41 ∷ 41 ∷ []

abbrev vertex_rest : List ℕ
vertex_rest = 86 ∷ id_rest

opens_id_line : (query : Query) (label : List ℕ) → Line (OpensId query label) id_rest
opens_id_line query label = by_sign (OpensId query label) 40 (ToId query label) (48 ∷ 41 ∷ 41 ∷ []) refl (to_id_line query label)

to_vertex_line : (query : Query) (label : List ℕ) → Line (ToVertex query label) vertex_rest
to_vertex_line query label = by_sign (ToVertex query label) 86 (OpensId query label) id_rest refl (opens_id_line query label)

to_first_line : (query : Query) (label : List ℕ) → Line (ToFirst query label) vertex_rest
to_first_line query label = by_sign (ToFirst query label) 86 (OpensId query label) id_rest refl (opens_id_line query label)

opens_to_line : (query : Query) (label : List ℕ) → Line (OpensTo query label) (40 ∷ vertex_rest)
opens_to_line query label = by_sign (OpensTo query label) 40 (ToFirst query label) vertex_rest refl (to_first_line query label)

-- the rest after the dot after the type of new edges
abbrev to_rest : List ℕ
to_rest = codes "to" ++ 40 ∷ vertex_rest

to_word_line : (query : Query) (label : List ℕ) → Line (ToWord query label) to_rest
to_word_line query label = line_join turn is_loose (ToWord query label) to_rest
    (inr (tt, tt, tt, (codes "to", 40 ∷ vertex_rest, refl, refl, loose_line (OpensTo query label) (40 ∷ vertex_rest) (opens_to_line query label))))

after_type_line : (query : Query) (label : List ℕ) → Line (AfterType query label) (46 ∷ to_rest)
after_type_line query label = by_sign (AfterType query label) 46 (ToWord query label) to_rest refl (to_word_line query label)

type_line : (query : Query) (label : List ℕ) → Line (TypeCloses query label) (41 ∷ 46 ∷ to_rest)
type_line query label = by_sign (TypeCloses query label) 41 (AfterType query label) (46 ∷ to_rest) refl (after_type_line query label)

after_pair_line : (purpose : PairFor) (key : List ℕ) (value : Value) → Line (after_pair purpose key value) []
after_pair_line (OfChange subject pairs) key value = changed_line subject (with_pair pairs key value)
after_pair_line (OfSource label) key value = steps_line (query_from (origins.Found label key value))

pair_closes_line : (purpose : PairFor) (key : List ℕ) (value : Value) → Line (PairCloses purpose key value) (41 ∷ [])
pair_closes_line purpose key value = by_sign (PairCloses purpose key value) 41 (after_pair purpose key value) [] refl (after_pair_line purpose key value)

pair_value_line : (purpose : PairFor) (key : List ℕ) → Line (PairValue purpose key) (48 ∷ 41 ∷ [])
pair_value_line purpose key =
    let zero_value : Value = values.Int (pos 0) in
    line_join turn is_loose (PairValue purpose key) (48 ∷ 41 ∷ []) (inr (
      zero_value,
      tt,
      tt,
      (
        codes "0",
        41 ∷ [],
        refl,
        inl (0, refl, (refl, refl)),
        loose_line
            (PairCloses purpose key zero_value) (41 ∷ []) (pair_closes_line purpose key zero_value),
      ),
    ))

pair_key_line : (purpose : PairFor) (key : List ℕ) → Line (AfterPairKey purpose key) (44 ∷ 48 ∷ 41 ∷ [])
pair_key_line purpose key = by_sign (AfterPairKey purpose key) 44 (PairValue purpose key) (48 ∷ 41 ∷ []) refl (pair_value_line purpose key)

drop_line : (query : Query) → Line (DropCloses query) (41 ∷ [])
drop_line query = by_sign (DropCloses query) 41 (Dropped query) [] refl (zero, commands.Mutate (Some query) mutations.Drop, (refl, refl))

-- ---- names between quotes

-- a rest after a name between quotes
abbrev rest_of_quoted : Quoted → List ℕ
rest_of_quoted (OneName purpose names) = 41 ∷ rest_of_names purpose
rest_of_quoted (Key into) = 41 ∷ rest_after into
rest_of_quoted (OrderKey query) = 41 ∷ []
rest_of_quoted VertexLabel = 41 ∷ []
rest_of_quoted (EdgeType query) = 41 ∷ 46 ∷ to_rest
rest_of_quoted FoundLabel = 44 ∷ 39 ∷ 97 ∷ 39 ∷ 44 ∷ 48 ∷ 41 ∷ []
rest_of_quoted (PairKey purpose) = 44 ∷ 48 ∷ 41 ∷ []

-- a line of the key of a pair between quotes
quoted_pair_line : (purpose : PairFor) → Line (Quote (PairKey purpose)) (39 ∷ 97 ∷ 39 ∷ 44 ∷ 48 ∷ 41 ∷ [])
quoted_pair_line purpose =
    let rest : List ℕ = 44 ∷ 48 ∷ 41 ∷ [] in
    by_sign (Quote (PairKey purpose)) 39 (InQuotes (PairKey purpose) false) (97 ∷ 39 ∷ rest) refl
    (line_join turn is_loose (InQuotes (PairKey purpose) false) (97 ∷ 39 ∷ rest) (inr (
      codes "a",
      tt,
      tt,
      (
        codes "a" ++ 39 ∷ [],
        rest,
        refl,
        (refl, (refl, tt)),
        loose_line (AfterPairKey purpose (codes "a")) rest (pair_key_line purpose (codes "a")),
      ),
    )))

found_label_line : (label : List ℕ) → Line (AfterFoundLabel label) (44 ∷ 39 ∷ 97 ∷ 39 ∷ 44 ∷ 48 ∷ 41 ∷ [])
found_label_line label = by_sign (AfterFoundLabel label) 44 (Quote (PairKey (OfSource label))) (39 ∷ 97 ∷ 39 ∷ 44 ∷ 48 ∷ 41 ∷ []) refl
    (quoted_pair_line (OfSource label))

after_quoted_line : (quoted : Quoted) (name : List ℕ) → Line (after_quoted quoted name) (rest_of_quoted quoted)
after_quoted_line (OneName purpose names) name = by_sign (AfterName purpose (names ++ name ∷ [])) 41 (after_names purpose (names ++ name ∷ []))
    (rest_of_names purpose) refl (after_names_line purpose (names ++ name ∷ []))
after_quoted_line (Key into) name = by_sign (AfterKey into name) 41 (after_filter into (filters.Has name)) (rest_after into) refl
    (after_filter_line into (filters.Has name))
after_quoted_line (OrderKey query) name = by_sign (AfterOrderKey query name) 41 (Steps (reordered query (Some name) false)) [] refl
    (steps_line (reordered query (Some name) false))
after_quoted_line VertexLabel name = vertex_line name
after_quoted_line (EdgeType query) name = type_line query name
after_quoted_line FoundLabel name = found_label_line name
after_quoted_line (PairKey purpose) name = pair_key_line purpose name

in_quotes_line : (quoted : Quoted) (double : Bool) → Line (InQuotes quoted double) (97 ∷ quote_byte double ∷ rest_of_quoted quoted)
in_quotes_line quoted double = line_join turn is_loose (InQuotes quoted double) (97 ∷ quote_byte double ∷ rest_of_quoted quoted)
    (inr (
      codes "a",
      tt,
      tt,
      (
        codes "a" ++ quote_byte double ∷ [],
        rest_of_quoted quoted,
        refl,
        (refl, (refl, tt)),
        loose_line (after_quoted quoted (codes "a"))
            (rest_of_quoted quoted) (after_quoted_line quoted (codes "a")),
      ),
    ))

quote_line : (quoted : Quoted) → Line (Quote quoted) (39 ∷ 97 ∷ 39 ∷ rest_of_quoted quoted)
quote_line quoted = by_sign (Quote quoted) 39 (InQuotes quoted false) (97 ∷ 39 ∷ rest_of_quoted quoted) refl (in_quotes_line quoted false)

-- ---- what has to hold of each

pub no_signs : (bytes : List ℕ) → NoSign {Place = Place} [] bytes
no_signs [] = tt
no_signs (b ∷ bytes) = refl

not_close : (b : ℕ) → is_digit b ≡ true → nat_eq 41 b ≡ false
not_close b is = grind (arith, nat_tests)

number_apart : (next : Place) (bytes : List ℕ) → StartsNumber bytes → NoSign ((41, next) ∷ []) bytes
number_apart next [] starts = tt
number_apart next (b ∷ bytes) starts = ap (λ (t : Bool). cond t (Some next) None) (not_close b starts)

pub step_table : IsWordTable step_words
step_table = word_table step_words refl

pub ordered_table : IsWordTable ordered_words
ordered_table = word_table ordered_words refl

pub property_table : IsWordTable property_words
property_table = word_table property_words refl

-- the words of a body among those of steps
pub body_table : IsWordTable (map as_step_word body_words)
body_table = word_table (map as_step_word body_words) refl

body_apart : (next : Place) (bytes : List ℕ) → StandsWhole (map as_step_word body_words) bytes → NoSign ((95, next) ∷ []) bytes
body_apart next bytes stands = subst (NoSign ((95, next) ∷ [])) (sym stands.bytes_are)
    (all_in (λ (e : Entry StepWord). NoSign ((95, next) ∷ []) (e.0 ++ stands.rest)) (map as_step_word body_words) stands.entry
    (refl, (refl, (refl, (refl, (refl, tt))))) stands.within)

quoted_halts : (quoted : Quoted) (name : List ℕ) → place_halts turn is_loose NoByte (after_quoted quoted name) ≡ true
quoted_halts (OneName purpose names) name = refl
quoted_halts (Key into) name = refl
quoted_halts (OrderKey query) name = refl
quoted_halts VertexLabel name = refl
quoted_halts (EdgeType query) name = refl
quoted_halts FoundLabel name = refl
quoted_halts (PairKey purpose) name = refl

-- ---- what an argument of has begins with

-- a letter with which a word for a relation begins
abbrev starts_relation : ℕ → Bool
starts_relation b = nat_eq b 101 || (nat_eq b 110 || (nat_eq b 103 || nat_eq b 108))

-- a byte with which a value begins
abbrev starts_value : ℕ → Bool
starts_value b = is_integer_start b || (is_quote b || (nat_eq b 116 || nat_eq b 102))

abbrev Starts : (ℕ → Bool) → List ℕ → Type 0
Starts p [] = ⊥
Starts p (b ∷ bytes) = p b ≡ true

abbrev BeginsRelation : Into → List ℕ → List ℕ → Type 0
BeginsRelation into key bytes = Begins {Word = StepWord} (Token (OneWord relation_names) (λ word. OpensValue into key (relation_of word))) bytes

abbrev BeginsValue : Into → List ℕ → List ℕ → Type 0
BeginsValue into key bytes = Begins {Word = StepWord} (Token AnyValue (λ value. ClosesFilter into (value_filter key value))) bytes

relation_starts : (word rest : List ℕ) → InTable (word, tt) (plain relation_names) → Starts starts_relation (word ++ rest)
relation_starts word rest within = all_in (λ (e : Entry (Unit {0})). Starts starts_relation (e.0 ++ rest)) (plain relation_names) (word, tt)
    (refl, (refl, (refl, (refl, (refl, (refl, tt)))))) within

begins_relation : (into : Into) (key bytes : List ℕ) → BeginsRelation into key bytes → Starts starts_relation bytes
begins_relation into key bytes (inl (word, within, (prefix, rest, whole, is, after))) =
    subst (Starts starts_relation) (sym (whole ∙ ap (λ p. p ++ rest) is)) (relation_starts word rest within)
begins_relation into key bytes (inr (kind, left, (word, bad, rest, takes, at))) = absurd bad

integer_starts : (b : ℕ) → is_integer_start b ≡ true → starts_value b ≡ true
integer_starts b is = ap (λ (t : Bool). t || (is_quote b || (nat_eq b 116 || nat_eq b 102))) is

quote_starts : (b : ℕ) → is_quote b ≡ true → starts_value b ≡ true
quote_starts b is = grind (arith, nat_tests)

written_starts : (value : Value) (prefix rest : List ℕ) → IsWritten value prefix → Starts starts_value (prefix ++ rest)
written_starts (values.Int number) prefix rest is = by_kind (prefix ++ rest) (value_starts (values.Int number) prefix rest is)
  where
    by_kind : (bytes : List ℕ) → StartsKind (values.Int number) bytes → Starts starts_value bytes
    by_kind [] starts = starts
    by_kind (b ∷ bytes) starts = integer_starts b starts
written_starts (values.Bool true) prefix rest is = subst (λ p. Starts starts_value (p ++ rest)) (sym is) refl
written_starts (values.Bool false) prefix rest is = subst (λ p. Starts starts_value (p ++ rest)) (sym is) refl
written_starts (values.Text text) prefix rest is = by_kind (prefix ++ rest) (value_starts (values.Text text) prefix rest is)
  where
    by_kind : (bytes : List ℕ) → StartsKind (values.Text text) bytes → Starts starts_value bytes
    by_kind [] starts = starts
    by_kind (b ∷ bytes) starts = quote_starts b starts

begins_value : (into : Into) (key bytes : List ℕ) → BeginsValue into key bytes → Starts starts_value bytes
begins_value into key bytes (inl (value, allows, (prefix, rest, whole, is, after))) =
    subst (Starts starts_value) (sym whole) (written_starts value prefix rest is)
begins_value into key bytes (inr (kind, left, (value, bad, rest, takes, at))) =
    subst (Starts starts_value) (sym takes.bytes_are) (written_starts value takes.prefix rest takes.is)

relation_no_p : (b : ℕ) → starts_relation b ≡ true → nat_eq 80 b ≡ false
relation_no_p b is = grind (arith, nat_tests)

value_no_p : (b : ℕ) → starts_value b ≡ true → nat_eq 80 b ≡ false
value_no_p b is = grind (arith, nat_tests)

no_relation_value : (bytes : List ℕ) → Starts starts_relation bytes → Starts starts_value bytes → ⊥
no_relation_value [] word value = word
no_relation_value (b ∷ bytes) word value = grind (arith, nat_tests)

relation_apart : (next : Place) (bytes : List ℕ) → Starts starts_relation bytes → NoSign ((80, next) ∷ []) bytes
relation_apart next [] starts = tt
relation_apart next (b ∷ bytes) starts = ap (λ (t : Bool). cond t (Some next) None) (relation_no_p b starts)

value_apart : (next : Place) (bytes : List ℕ) → Starts starts_value bytes → NoSign ((80, next) ∷ []) bytes
value_apart next [] starts = tt
value_apart next (b ∷ bytes) starts = ap (λ (t : Bool). cond t (Some next) None) (value_no_p b starts)

closes_value_line : (into : Into) (filter : Filter) → Line (ClosesValue into filter) (41 ∷ 41 ∷ rest_after into)
closes_value_line into filter = by_sign (ClosesValue into filter) 41 (ClosesFilter into filter) (41 ∷ rest_after into) refl (closes_filter_line into filter)

compared_line : (into : Into) (key : List ℕ) (relation : Relation) → Line (Compared into key relation) (48 ∷ 41 ∷ 41 ∷ rest_after into)
compared_line into key relation =
    let filter = relation_filter key relation (values.Int (pos 0)) in
    line_join turn is_loose (Compared into key relation) (48 ∷ 41 ∷ 41 ∷ rest_after into)
    (inr (
      values.Int (pos 0),
      tt,
      tt,
      (
        codes "0",
        41 ∷ 41 ∷ rest_after into,
        refl,
        inl (0, refl, (refl, refl)),
        loose_line (ClosesValue into filter)
            (41 ∷ 41 ∷ rest_after into) (closes_value_line into filter),
      ),
    ))

opens_value_line : (into : Into) (key : List ℕ) (relation : Relation) → Line (OpensValue into key relation) (40 ∷ 48 ∷ 41 ∷ 41 ∷ rest_after into)
opens_value_line into key relation = by_sign (OpensValue into key relation) 40 (Compared into key relation) (48 ∷ 41 ∷ 41 ∷ rest_after into) refl
    (compared_line into key relation)

relation_line : (into : Into) (key : List ℕ) → Line (RelationName into key) (codes "eq" ++ 40 ∷ 48 ∷ 41 ∷ 41 ∷ rest_after into)
relation_line into key = line_join turn is_loose (RelationName into key) (codes "eq" ++ 40 ∷ 48 ∷ 41 ∷ 41 ∷ rest_after into)
    (inr (
      codes "eq",
      inl refl,
      tt,
      (
        codes "eq",
        40 ∷ 48 ∷ 41 ∷ 41 ∷ rest_after into,
        refl,
        refl,
        loose_line (OpensValue into key (relation_of (codes "eq")))
            (40 ∷ 48 ∷ 41 ∷ 41 ∷ rest_after into) (opens_value_line into key (relation_of (codes "eq"))),
      ),
    ))

-- ---- what a direction of an order begins with

-- a letter with which a word for a direction begins
abbrev starts_sort : ℕ → Bool
starts_sort b = nat_eq b 97 || nat_eq b 100

abbrev BeginsSort : Query → Option (List ℕ) → List ℕ → Type 0
BeginsSort query key bytes = Begins {Word = StepWord} (Token (OneWord sort_names) (λ word. ByCloses query key (is_descending word))) bytes

abbrev BeginsOrder : Query → Option (List ℕ) → List ℕ → Type 0
BeginsOrder query key bytes = Begins {Word = StepWord} (Token (Sign (codes "Order")) (λ _. AfterOrderWord query key)) bytes

begins_sort : (query : Query) (key : Option (List ℕ)) (bytes : List ℕ) → BeginsSort query key bytes → Starts starts_sort bytes
begins_sort query key bytes (inl (word, within, (prefix, rest, whole, is, after))) =
    subst (Starts starts_sort) (sym (whole ∙ ap (λ p. p ++ rest) is)) (all_in (λ (e : Entry (Unit {0})). Starts starts_sort (e.0 ++ rest)) (plain sort_names)
    (word, tt) (refl, (refl, tt)) within)
begins_sort query key bytes (inr (kind, left, (word, bad, rest, takes, at))) = absurd bad

begins_order : (query : Query) (key : Option (List ℕ)) (bytes : List ℕ) → BeginsOrder query key bytes → Starts (λ b. nat_eq b 79) bytes
begins_order query key bytes (inl (content, allows, (prefix, rest, whole, is, after))) =
    subst (Starts (λ b. nat_eq b 79)) (sym (whole ∙ ap (λ p. p ++ rest) is)) refl
begins_order query key bytes (inr (kind, left, (content, bad, rest, takes, at))) = absurd bad

no_sort_order : (bytes : List ℕ) → Starts starts_sort bytes → Starts (λ b. nat_eq b 79) bytes → ⊥
no_sort_order [] sort order = sort
no_sort_order (b ∷ bytes) sort order = grind (arith, nat_tests)

-- Of what a query begins with, the words begin with no sign, and with other letters.
abbrev BeginsFind : List ℕ → Type 0
BeginsFind bytes = Begins {Word = StepWord} (Token (Sign (codes "find")) (λ _. Opening sources.Found)) bytes

abbrev BeginsVertex : List ℕ → Type 0
BeginsVertex bytes = Begins {Word = StepWord} (Token (Sign (codes "addV")) (λ _. Opening sources.NewVertex)) bytes

begins_find : (bytes : List ℕ) → BeginsFind bytes → Starts (λ b. nat_eq b 102) bytes
begins_find bytes (inl (content, allows, (prefix, rest, whole, is, after))) = subst (Starts (λ b. nat_eq b 102)) (sym (whole ∙ ap (λ p. p ++ rest) is)) refl
begins_find bytes (inr (kind, left, (content, bad, rest, takes, at))) = absurd bad

begins_vertex : (bytes : List ℕ) → BeginsVertex bytes → Starts (λ b. nat_eq b 97) bytes
begins_vertex bytes (inl (content, allows, (prefix, rest, whole, is, after))) = subst (Starts (λ b. nat_eq b 97)) (sym (whole ∙ ap (λ p. p ++ rest) is)) refl
begins_vertex bytes (inr (kind, left, (content, bad, rest, takes, at))) = absurd bad

find_no_vertex : (bytes : List ℕ) → Starts (λ b. nat_eq b 102) bytes → Starts (λ b. nat_eq b 97) bytes → ⊥
find_no_vertex [] find vertex = find
find_no_vertex (b ∷ bytes) find vertex = grind (arith, nat_tests)

find_no_sign : (b : ℕ) → nat_eq b 102 ≡ true → sign_at (turn SourceName).signs b ≡ None
find_no_sign b is =
    let vertices : nat_eq 86 b ≡ false = grind (arith, nat_tests) in
    let edges : nat_eq 69 b ≡ false = grind (arith, nat_tests) in
    rw (vertices, edges)

vertex_no_sign : (b : ℕ) → nat_eq b 97 ≡ true → sign_at (turn SourceName).signs b ≡ None
vertex_no_sign b is =
    let vertices : nat_eq 86 b ≡ false = grind (arith, nat_tests) in
    let edges : nat_eq 69 b ≡ false = grind (arith, nat_tests) in
    rw (vertices, edges)

source_apart : (bytes : List ℕ) → Begins named_source bytes → NoSign (turn SourceName).signs bytes
source_apart [] begins = tt
source_apart (b ∷ bytes) (inl find) = find_no_sign b (begins_find (b ∷ bytes) find)
source_apart (b ∷ bytes) (inr vertex) = vertex_no_sign b (begins_vertex (b ∷ bytes) vertex)

first_id_line : (edges : Bool) → Line (FirstId edges) (41 ∷ [])
first_id_line edges = by_sign (FirstId edges) 41 (Steps (query_from (elements_of edges []))) [] refl (steps_line (query_from (elements_of edges [])))

opened_source_some : (kind : SourceKind) → (line : List ℕ) × Line (opened_source kind) line
opened_source_some sources.Vertices = (_, first_id_line false)
opened_source_some sources.Edges = (_, first_id_line true)
opened_source_some sources.NewVertex = (_, quote_line VertexLabel)
opened_source_some sources.Found = (_, quote_line FoundLabel)

opening_line : (kind : SourceKind) → Line (Opening kind) (40 ∷ (opened_source_some kind).0)
opening_line kind = by_sign (Opening kind) 40 (opened_source kind) (opened_source_some kind).0 refl (opened_source_some kind).1

-- a word for a source, and what follows it
source_ended : (kind : SourceKind) → (line : List ℕ) × (Unit {0} → Loosely turn is_loose (Line) (Opening kind) line)
source_ended kind = (40 ∷ (opened_source_some kind).0, λ content. loose_line (Opening kind) (40 ∷ (opened_source_some kind).0) (opening_line kind))

abbrev by_signs : Query → List (ℕ × Place)
by_signs query = (turn (ByFirst query)).signs

sort_no_sign : (query : Query) (b : ℕ) → starts_sort b ≡ true → sign_at (by_signs query) b ≡ None
sort_no_sign query b is =
    let close : nat_eq 41 b ≡ false = grind (arith, nat_tests) in
    let single : nat_eq 39 b ≡ false = grind (arith, nat_tests) in
    let double : nat_eq 34 b ≡ false = grind (arith, nat_tests) in
    rw (close, single, double)

order_no_sign : (query : Query) (b : ℕ) → nat_eq b 79 ≡ true → sign_at (by_signs query) b ≡ None
order_no_sign query b is =
    let close : nat_eq 41 b ≡ false = grind (arith, nat_tests) in
    let single : nat_eq 39 b ≡ false = grind (arith, nat_tests) in
    let double : nat_eq 34 b ≡ false = grind (arith, nat_tests) in
    rw (close, single, double)

direction_apart : (query : Query) (bytes : List ℕ) → Begins (direction_of query None) bytes → NoSign (by_signs query) bytes
direction_apart query [] begins = tt
direction_apart query (b ∷ bytes) (inl sort) = sort_no_sign query b (begins_sort query None (b ∷ bytes) sort)
direction_apart query (b ∷ bytes) (inr order) = order_no_sign query b (begins_order query None (b ∷ bytes) order)

by_closes_line : (query : Query) (key : Option (List ℕ)) (descending : Bool) → Line (ByCloses query key descending) (41 ∷ [])
by_closes_line query key descending = by_sign (ByCloses query key descending) 41 (Steps (reordered query key descending)) [] refl
    (steps_line (reordered query key descending))

sort_line : (query : Query) (key : Option (List ℕ)) → Line (DirectionName query key) (codes "asc" ++ 41 ∷ [])
sort_line query key = line_join turn is_loose (DirectionName query key) (codes "asc" ++ 41 ∷ [])
    (inr (codes "asc", inl refl, tt, (codes "asc", 41 ∷ [], refl, refl, loose_line (ByCloses query key false) (41 ∷ []) (by_closes_line query key false))))

after_order_word_line : (query : Query) (key : Option (List ℕ)) → Line (AfterOrderWord query key) (46 ∷ (codes "asc" ++ 41 ∷ []))
after_order_word_line query key = by_sign (AfterOrderWord query key) 46 (DirectionName query key) (codes "asc" ++ 41 ∷ []) refl (sort_line query key)

abbrev SortEnded : Query → Option (List ℕ) → Type 0
SortEnded query key = IsEnded {Word = StepWord} turn is_loose (Token (OneWord sort_names) (λ word. ByCloses query key (is_descending word)))

sort_ended : (query : Query) (key : Option (List ℕ)) → SortEnded query key
sort_ended query key = (
  refl,
  λ word. refl,
  (
    41 ∷ [],
    λ word. loose_line (ByCloses query key (is_descending word)) (41 ∷ []) (by_closes_line query key
        (is_descending word)),
  ),
)

direction_ended : (query : Query) (key : Option (List ℕ)) → IsEnded turn is_loose (direction_of query key)
direction_ended query key = (
  sort_ended query key,
  (
    refl,
    λ content. refl,
    (
      46 ∷ (codes "asc" ++ 41 ∷ []),
      λ content. loose_line (AfterOrderWord query key) (46 ∷ (codes "asc" ++ 41 ∷ []))
          (after_order_word_line query key),
    ),
  ),
  λ bytes sort order. no_sort_order bytes (begins_sort query key bytes sort) (begins_order query key bytes order),
  tt,
  tt,
)

begins_number : (bytes : List ℕ) → Begins {Word = StepWord} {Place = Place} (Token (AnyNumber most_id) (λ id. Start)) bytes → StartsNumber bytes
begins_number bytes (inl (number, allows, (prefix, rest, whole, is, after))) = subst StartsNumber (sym whole) (number_starts prefix rest is.0)
begins_number bytes (inr (kind, left, (number, bad, rest, takes, at))) = subst StartsNumber (sym takes.bytes_are) (number_starts takes.prefix rest takes.is.0)

-- a place where no sign stands
other_is : (place : Place) (other : Other StepWord Place) → turn place ≡ record { ends = None; signs = []; other = other }
    → turn_halts Blank (turn place) ≡ true → IsEnded turn is_loose other → IsPlace turn is_loose place
other_is place other is halts ended = record {
  no_blank = halts;
  apart = subst (λ (t : Turn StepWord Place Command). StartsApart turn is_loose t.signs t.other) (sym is) (λ bytes begins. no_signs bytes);
  ended = subst (λ (t : Turn StepWord Place Command). IsEnded turn is_loose t.other) (sym is) ended;
  alone = subst (λ (t : Turn StepWord Place Command). (end : Command) → t.ends ≡ Some end → t.other ≡ Nothing) (sym is) (λ end ends. cc);
}

pub are : (place : Place) → IsPlace turn is_loose place
are SourceName = record {
  no_blank = refl;
  apart = λ bytes begins. source_apart bytes begins;
  ended = (
    (refl, λ content. refl, source_ended sources.Found),
    (refl, λ content. refl, source_ended sources.NewVertex),
    λ bytes find vertex. find_no_vertex bytes (begins_find bytes find) (begins_vertex bytes vertex),
    tt,
    tt,
  );
  alone = λ end ends. cc;
}
are (FirstId edges) = record {
  no_blank = refl;
  apart = λ bytes begins. number_apart (Steps (query_from (elements_of edges []))) bytes (begins_number bytes begins);
  ended = (refl, λ id. refl, (41 ∷ [], λ id. loose_line (AfterId edges (id ∷ [])) (41 ∷ []) (after_id_line edges (id ∷ []))));
  alone = λ end ends. cc;
}
are (NextId edges ids) = other_is _ _ refl refl (
  refl,
  λ id. refl,
  (
    41 ∷ [],
    λ id. loose_line (AfterId edges (ids ++ id ∷ [])) (41 ∷ [])
        (after_id_line edges (ids ++ id ∷ [])),
  ),
)
are (StepName query) = other_is _ _ refl refl (step_table, λ word. refl)
are (ValueOf into key) = record {
  no_blank = refl;
  apart = λ bytes begins. ⊎_elim
      (λ (word : BeginsRelation into key bytes). relation_apart (AfterP into key) bytes (begins_relation into key bytes word))
      (λ (value : BeginsValue into key bytes). value_apart (AfterP into key) bytes (begins_value into key bytes value))
      begins;
  ended = (
    (
      refl,
      λ word. refl,
      (
        40 ∷ 48 ∷ 41 ∷ 41 ∷ rest_after into,
        λ word. loose_line (OpensValue into key (relation_of word)) (40 ∷ 48 ∷ 41 ∷ 41 ∷ rest_after into)
            (opens_value_line into key (relation_of word)),
      ),
    ),
    (
      refl,
      λ value. refl,
      (
        41 ∷ rest_after into,
        λ value. loose_line (ClosesFilter into (value_filter key value)) (41 ∷ rest_after into)
            (closes_filter_line into (value_filter key value)),
      ),
    ),
    λ bytes word value. no_relation_value bytes (begins_relation into key bytes word) (begins_value into key bytes value),
    tt,
    tt,
  );
  alone = λ end ends. cc;
}
are (RelationName into key) = other_is _ _ refl refl (
  refl,
  λ word. refl,
  (
    40 ∷ 48 ∷ 41 ∷ 41 ∷ rest_after into,
    λ word. loose_line
        (OpensValue into key (relation_of word)) (40 ∷ 48 ∷ 41 ∷ 41 ∷ rest_after into) (opens_value_line into key (relation_of word)),
  ),
)
are (Compared into key relation) = other_is _ _ refl refl (
  refl,
  λ value. refl,
  (
    41 ∷ 41 ∷ rest_after into,
    λ value. loose_line
        (ClosesValue into (relation_filter key relation value)) (41 ∷ 41 ∷ rest_after into) (closes_value_line into (relation_filter key relation value)),
  ),
)
are (Most query) = other_is _ _ refl refl (
  refl,
  λ most. refl,
  (
    41 ∷ [],
    λ most. loose_line (Closing query (steps.Limit most)) (41 ∷ [])
        (closes_line query (steps.Limit most)),
  ),
)
are (OrderedName query) = other_is _ _ refl refl (ordered_table, λ word. refl)
are (ByFirst query) = record {
  no_blank = refl;
  apart = λ bytes begins. direction_apart query bytes begins;
  ended = direction_ended query None;
  alone = λ end ends. cc;
}
are (OrderDirection query key) = other_is _ _ refl refl (direction_ended query key)
are (DirectionName query key) = other_is _ _ refl refl (sort_ended query key)
are (InQuotes quoted double) = other_is _ _ refl refl (
  refl,
  quoted_halts quoted,
  (
    rest_of_quoted quoted,
    λ name. loose_line (after_quoted quoted name)
        (rest_of_quoted quoted) (after_quoted_line quoted name),
  ),
)
are (BodyFirst query) = record {
  no_blank = refl;
  apart = λ bytes begins. body_apart (Underscore query) bytes begins;
  ended = (body_table, λ word. refl);
  alone = λ end ends. cc;
}
are (BodyName query body) = other_is _ _ refl refl (body_table, λ word. refl)
are (TimesWord query body) = other_is _ _ refl refl (
  refl,
  λ word. refl,
  (
    40 ∷ 49 ∷ 41 ∷ [],
    λ word. loose_line (OpensTimes query body) (40 ∷ 49 ∷ 41 ∷ [])
        (opens_times_line query body),
  ),
)
are (TimesOf query body) = other_is _ _ refl refl (
  refl,
  λ times. refl,
  (
    41 ∷ [],
    λ times. loose_line (Closing query (steps.Repeat body times)) (41 ∷ [])
        (closes_line query (steps.Repeat body times)),
  ),
)
are (ToWord query label) = other_is _ _ refl refl (
  refl,
  λ word. refl,
  (
    40 ∷ vertex_rest,
    λ word. loose_line (OpensTo query label) (40 ∷ vertex_rest)
        (opens_to_line query label),
  ),
)
are (ToId query label) = other_is _ _ refl refl (
  refl,
  λ to. refl,
  (
    41 ∷ 41 ∷ [],
    λ to. loose_line (IdCloses query label to) (41 ∷ 41 ∷ [])
        (id_closes_line query label to),
  ),
)
are (PropertyName subject pairs) = other_is _ _ refl refl (property_table, λ word. refl)
are (PairValue purpose key) = other_is _ _ refl refl (
  refl,
  λ value. refl,
  (
    41 ∷ [],
    λ value. loose_line (PairCloses purpose key value) (41 ∷ [])
        (pair_closes_line purpose key value),
  ),
)
are place = record { no_blank = refl; apart = λ bytes none. absurd none; ended = tt; alone = λ end ends. refl }

-- ---- a line of each of the other places

most_line : (query : Query) → Line (Most query) (48 ∷ 41 ∷ [])
most_line query = line_join turn is_loose (Most query) (48 ∷ 41 ∷ []) (inr (
  0,
  tt,
  tt,
  (
    codes "0",
    41 ∷ [],
    refl,
    (refl, refl),
    loose_line
        (Closing query (steps.Limit 0)) (41 ∷ []) (closes_line query (steps.Limit 0)),
  ),
))

first_name_line : (purpose : NamesFor) → Line (FirstName purpose) (41 ∷ rest_of_names purpose)
first_name_line purpose = by_sign (FirstName purpose) 41 (after_names purpose []) (rest_of_names purpose) refl (after_names_line purpose [])

opened_names_some : (purpose : NamesFor) → (line : List ℕ) × Line (opened_names purpose) line
opened_names_some (OfStep query step) = (_, first_name_line (OfStep query step))
opened_names_some (OfMaps query) = (_, first_name_line (OfMaps query))
opened_names_some (OfHop into direction) = (_, first_name_line (OfHop into direction))
opened_names_some (OfLabels into) = (_, quote_line (OneName (OfLabels into) []))

opened_body_some : (into : Into) (word : BodyWord) → (line : List ℕ) × Line (opened_body into word) line
opened_body_some into (of_body.Neighbours direction) = opened_names_some (OfHop into direction)
opened_body_some into of_body.HasLabel = opened_names_some (OfLabels into)
opened_body_some into of_body.Has = (_, quote_line (Key into))

opens_body_some : (query : Query) (body : List BodyStep) (word : BodyWord) → (line : List ℕ) × Line (OpensBody query body word) line
opens_body_some query body word = let later = opened_body_some (OfBody query body) word in
    (40 ∷ later.0, by_sign (OpensBody query body word) 40 (opened_body (OfBody query body) word) later.0 refl later.1)

-- a line from a place where the first word of a body may stand
body_some : (place : Place) (query : Query) (body : List BodyStep) → (turn place).other ≡ body_name query body → (line : List ℕ) × Line place line
body_some place query body is =
    let out = of_body.Neighbours directions.Outgoing in
    let later = opens_body_some query body out in
    let other : ThenOther (λ _. Unit {0}) (body_name query body) (Loosely turn is_loose (LineFrom turn is_loose)) (codes "out" ++ later.0) =
    (as_step_word (codes "out", out), inl refl, tt, (codes "out", later.0, refl, refl, loose_line (OpensBody query body out) later.0 later.1)) in (
      codes "out" ++ later.0,
      line_join turn is_loose place (codes "out" ++ later.0)
          (inr (subst (λ o. ThenOther (λ _. Unit {0}) o (Loosely turn is_loose (LineFrom turn is_loose)) (codes "out" ++ later.0)) (sym is) other)),
    )

order_closes_line : (query : Query) → Line (OrderCloses query) (41 ∷ [])
order_closes_line query = by_sign (OrderCloses query) 41 (Ordered (with_step query plain_order)) [] refl (ordered_line (with_step query plain_order))

by_first_line : (query : Query) → Line (ByFirst query) (41 ∷ [])
by_first_line query = by_sign (ByFirst query) 41 (Steps (reordered query None false)) [] refl (steps_line (reordered query None false))

opened_some : (query : Query) (word : StepWord) → (line : List ℕ) × Line (opened query word) line
opened_some query (words.Bare bare) = (41 ∷ [], closes_line query (bare_step bare))
opened_some query (words.Names step) = opened_names_some (OfStep query step)
opened_some query (words.Body word) = opened_body_some (OfQuery query) word
opened_some query words.ElementMap = opened_names_some (OfMaps query)
opened_some query words.Limit = (_, most_line query)
opened_some query words.Order = (_, order_closes_line query)
opened_some query words.By = (_, by_first_line query)
opened_some query words.Repeat = body_some (BodyFirst query) query [] refl
opened_some query (words.Change changes.AddE) = (_, quote_line (EdgeType query))
opened_some query (words.Change changes.Property) = (_, quote_line (PairKey (OfChange (Elements query) [])))
opened_some query (words.Change changes.Drop) = (_, drop_line query)

opens_some : (query : Query) (word : StepWord) → (line : List ℕ) × Line (Opens query word) line
opens_some query word = let later = opened_some query word in (40 ∷ later.0, by_sign (Opens query word) 40 (opened query word) later.0 refl later.1)

to_anonymous_line : (query : Query) (label : List ℕ) → Line (ToAnonymous query label) (46 ∷ vertex_rest)
to_anonymous_line query label = by_sign (ToAnonymous query label) 46 (ToVertex query label) vertex_rest refl (to_vertex_line query label)

-- the rest after the name `property`
abbrev opened_property : List ℕ
opened_property = 40 ∷ 39 ∷ 97 ∷ 39 ∷ 44 ∷ 48 ∷ 41 ∷ []

opens_property_line : (subject : Subject) (pairs : List Pair) → Line (OpensProperty subject pairs) opened_property
opens_property_line subject pairs = by_sign (OpensProperty subject pairs) 40 (Quote (PairKey (OfChange subject pairs))) (39 ∷ 97 ∷ 39 ∷ 44 ∷ 48 ∷ 41 ∷ []) refl
    (quote_line (PairKey (OfChange subject pairs)))

source_line : Line SourceName (86 ∷ 40 ∷ 41 ∷ [])
unfolding opened_source_some
source_line = by_sign SourceName 86 (Opening sources.Vertices) (40 ∷ 41 ∷ []) refl (opening_line sources.Vertices)

pub some : (place : Place) → (line : List ℕ) × Line place line
some Start = (_, by_sign Start 46 SourceName (86 ∷ 40 ∷ 41 ∷ []) refl source_line)
some SourceName = (_, source_line)
some (Opening kind) = (_, opening_line kind)
some (FirstId edges) = (_, first_id_line edges)
some (AfterId edges ids) = (_, after_id_line edges ids)
some (NextId edges ids) = (
  48 ∷ 41 ∷ [],
  line_join turn is_loose (NextId edges ids) (48 ∷ 41 ∷ [])
      (inr (0, tt, tt, (codes "0", 41 ∷ [], refl, (refl, refl), loose_line (AfterId edges (ids ++ 0 ∷ [])) (41 ∷ []) (after_id_line edges (ids ++ 0 ∷ []))))),
)
some (Steps query) = (_, steps_line query)
some (StepName query) =
    let later = opens_some query (words.Bare bare.Count) in (
      codes "count" ++ later.0,
      line_join turn is_loose (StepName query) (codes "count" ++ later.0) (inr (
        (codes "count", words.Bare bare.Count),
        inr
            (inr (inr (inr (inr (inr (inr (inr (inr (inr (inr (inr (inr (inr (inr (inl refl))))))))))))))),
        tt,
        (
          codes "count",
          later.0,
          refl,
          refl,
          loose_line
              (Opens query (words.Bare bare.Count)) later.0 later.1,
        ),
      )),
    )
some (Opens query word) = opens_some query word
some (Closing query step) = (_, closes_line query step)
some (FirstName purpose) = (_, first_name_line purpose)
some (AfterName purpose names) = (
  _,
  by_sign (AfterName purpose names) 41 (after_names purpose names) (rest_of_names purpose) refl
      (after_names_line purpose names),
)
some (AfterKey into key) = (
  _,
  by_sign (AfterKey into key) 41 (after_filter into (filters.Has key)) (rest_after into) refl (after_filter_line into
      (filters.Has key)),
)
some (ValueOf into key) = (
  48 ∷ 41 ∷ rest_after into,
  line_join turn is_loose (ValueOf into key) (48 ∷ 41 ∷ rest_after into)
      (inr (inr (
        values.Int (pos 0),
        tt,
        tt,
        (
          codes "0",
          41 ∷ rest_after into,
          refl,
          inl (0, refl, (refl, refl)),
          loose_line
              (ClosesFilter into (value_filter key (values.Int (pos 0)))) (41 ∷ rest_after into) (closes_filter_line into (value_filter key (values.Int
              (pos 0)))),
        ),
      ))),
)
some (AfterP into key) = (
  _,
  by_sign (AfterP into key) 46 (RelationName into key) (codes "eq" ++ 40 ∷ 48 ∷ 41 ∷ 41 ∷ rest_after into) refl
      (relation_line into key),
)
some (RelationName into key) = (_, relation_line into key)
some (OpensValue into key relation) = (_, opens_value_line into key relation)
some (Compared into key relation) = (_, compared_line into key relation)
some (ClosesValue into filter) = (_, closes_value_line into filter)
some (ClosesFilter into filter) = (_, closes_filter_line into filter)
some (Most query) = (_, most_line query)
some (OrderCloses query) = (_, order_closes_line query)
some (Ordered query) = (_, ordered_line query)
some (OrderedName query) =
    let later = opens_some query words.By in (
      codes "by" ++ later.0,
      line_join turn is_loose (OrderedName query) (codes "by" ++ later.0)
          (inr ((codes "by", words.By), inl refl, tt, (codes "by", later.0, refl, refl, loose_line (Opens query words.By) later.0 later.1))),
    )
some (ByFirst query) = (_, by_first_line query)
some (AfterOrderKey query key) = (
  _,
  by_sign (AfterOrderKey query key) 41 (Steps (reordered query (Some key) false)) [] refl
      (steps_line (reordered query (Some key) false)),
)
some (OrderDirection query key) = (
  codes "asc" ++ 41 ∷ [],
  line_join turn is_loose (OrderDirection query key) (codes "asc" ++ 41 ∷ [])
      (inr (inl (
        codes "asc",
        inl refl,
        tt,
        (
          codes "asc",
          41 ∷ [],
          refl,
          refl,
          loose_line (ByCloses query key false) (41 ∷ [])
              (by_closes_line query key false),
        ),
      ))),
)
some (AfterOrderWord query key) = (_, after_order_word_line query key)
some (DirectionName query key) = (_, sort_line query key)
some (ByCloses query key descending) = (_, by_closes_line query key descending)
some (Quote quoted) = (_, quote_line quoted)
some (InQuotes quoted double) = (_, in_quotes_line quoted double)
some (BodyFirst query) = body_some (BodyFirst query) query [] refl
some (Underscore query) = let later = body_some (BodyName query []) query [] refl in (
  95 ∷ 46 ∷ later.0,
  by_sign (Underscore query) 95 (AfterAnonymous query) (46 ∷ later.0) refl (by_sign (AfterAnonymous query) 46 (BodyName query [])
      later.0 refl later.1),
)
some (AfterAnonymous query) = let later = body_some (BodyName query []) query [] refl in
    (46 ∷ later.0, by_sign (AfterAnonymous query) 46 (BodyName query []) later.0 refl later.1)
some (BodyName query body) = body_some (BodyName query body) query body refl
some (OpensBody query body word) = opens_body_some query body word
some (InBody query body) = (_, in_body_line query body)
some (AfterBody query body) = (_, after_body_line query body)
some (TimesWord query body) = (_, times_word_line query body)
some (OpensTimes query body) = (_, opens_times_line query body)
some (TimesOf query body) = (_, times_of_line query body)
some (AfterFoundLabel label) = (_, found_label_line label)
some (VertexCloses label) = (_, vertex_line label)
some (TypeCloses query label) = (_, type_line query label)
some (AfterType query label) = (_, after_type_line query label)
some (ToWord query label) = (_, to_word_line query label)
some (OpensTo query label) = (_, opens_to_line query label)
some (ToFirst query label) = (_, to_first_line query label)
some (ToUnderscore query label) = (_, by_sign (ToUnderscore query label) 95 (ToAnonymous query label) (46 ∷ vertex_rest) refl (to_anonymous_line query label))
some (ToAnonymous query label) = (_, to_anonymous_line query label)
some (ToVertex query label) = (_, to_vertex_line query label)
some (OpensId query label) = (_, opens_id_line query label)
some (ToId query label) = (_, to_id_line query label)
some (IdCloses query label to) = (_, id_closes_line query label to)
some (ToCloses query label to) = (_, to_closes_line query label to)
some (DropCloses query) = (_, drop_line query)
some (Dropped query) = ([], (zero, commands.Mutate (Some query) mutations.Drop, (refl, refl)))
some (Changed subject pairs) = (_, changed_line subject pairs)
some (PropertyName subject pairs) = (
  codes "property" ++ opened_property,
  line_join turn is_loose (PropertyName subject pairs)
      (codes "property" ++ opened_property) (inr (
        (codes "property", words.Change changes.Property),
        inl refl,
        tt,
        (
          codes "property",
          opened_property,
          refl,
          refl,
          loose_line (OpensProperty subject pairs) opened_property (opens_property_line subject pairs),
        ),
      )),
)
some (OpensProperty subject pairs) = (_, opens_property_line subject pairs)
some (AfterPairKey purpose key) = (_, pair_key_line purpose key)
some (PairValue purpose key) = (_, pair_value_line purpose key)
some (PairCloses purpose key value) = (_, pair_closes_line purpose key value)
