-- Queries by their tokens: what the productions make, the table of places makes within its bounds.
use Rattle.std.proofs.Common.{◌≡◌, ◌≢◌, ◌⊎◌, ◌<◌, ◌≤◌, ◌+◌, inl, inr, ℕ, zero, suc, Bool, true, false, Option, Some}
use Rattle.std.proofs.Common.{None, List, [], ◌∷◌, ◌++◌, length, map, codes, refl, sym, ap, ◌∙◌, subst, append_assoc}
use Rattle.std.proofs.Common.{append-nil, length-append, arith}
use Rattle.plain_graph.specs.Names.{IsName}
use Rattle.plain_graph.specs.declared.command.Command.{Command}
use Rattle.plain_graph.specs.declared.command.Command.TheVariants as commands
use Rattle.plain_graph.specs.declared.direction.Direction.{Direction}
use Rattle.plain_graph.specs.declared.direction.Direction.TheVariants as directions
use Rattle.plain_graph.specs.declared.filter.Filter.{Filter}
use Rattle.plain_graph.specs.declared.filter.Filter.TheVariants as filters
use Rattle.plain_graph.specs.declared.filter.Relation.{Relation}
use Rattle.plain_graph.specs.declared.filter.Relation.TheVariants as relations
use Rattle.plain_graph.specs.declared.mutation.Mutation.{Mutation}
use Rattle.plain_graph.specs.declared.mutation.Mutation.TheVariants as mutations
use Rattle.plain_graph.specs.declared.pairs.Pair.{Pair}
use Rattle.plain_graph.specs.declared.query.BodyStep.{BodyStep}
use Rattle.plain_graph.specs.declared.query.BodyStep.TheVariants as bodies
use Rattle.plain_graph.specs.declared.query.Query.{Query}
use Rattle.plain_graph.specs.declared.query.Source.{Source}
use Rattle.plain_graph.specs.declared.query.Source.TheVariants as origins
use Rattle.plain_graph.specs.declared.query.Step.TheVariants as steps
use Rattle.plain_graph.specs.declared.value.Value.{Value}
use Rattle.gremlin_parse.specs.Grammar.{Blanks, IsBounded, most_limit, most_name_bytes, Number, Times, quote_byte}
use Rattle.gremlin_parse.specs.Keywords.{Entry, InTable, plain}
use Rattle.gremlin_parse.specs.Productions.{Token, Whole, Quoted, IsToken, AreFrom, word, dot, comma, opening, closing}
use Rattle.gremlin_parse.specs.Productions.{identifier, literal, call, after_commas, names_of, ids_of, source_of}
use Rattle.gremlin_parse.specs.Productions.{IsCompared, IsFilter, IsBodyStep, AreBodySteps, IsAnonymous, IsDirection}
use Rattle.gremlin_parse.specs.Productions.{IsBy, IsOrder, IsRepeat, WrittenStep, Does, Maps, IsWrittenStep, AreSteps}
use Rattle.gremlin_parse.specs.Productions.{with_written, with_all, properties_of, property_of, IsTo, IsChange}
use Rattle.gremlin_parse.specs.Productions.{IsMutating, IsReading, IsQueryOf, IsProduced, Fit, count_all, takes_change}
use Rattle.gremlin_parse.specs.Productions.{change_count}
use Rattle.gremlin_parse.specs.Queries.{Into, OfQuery, OfBody, NamesFor, OfStep, OfMaps, OfHop, OfLabels, Subject}
use Rattle.gremlin_parse.specs.Queries.{NewVertex, NewEdges, Elements, PairFor, OfChange, OfSource, OneName, Key}
use Rattle.gremlin_parse.specs.Queries.{OrderKey, EdgeType, FoundLabel, VertexLabel, PairKey, Place, Start, SourceName}
use Rattle.gremlin_parse.specs.Queries.{Opening, FirstId, AfterId, NextId, Steps, StepName, Opens, FirstName, AfterName}
use Rattle.gremlin_parse.specs.Queries.{ValueOf, AfterP, RelationName, OpensValue, Compared, ClosesFilter, Ordered}
use Rattle.gremlin_parse.specs.Queries.{OrderedName, ByFirst, OrderDirection, DirectionName, ByCloses, Quote, InQuotes}
use Rattle.gremlin_parse.specs.Queries.{BodyFirst, Underscore, AfterAnonymous, BodyName, InBody, AfterBody, TimesWord}
use Rattle.gremlin_parse.specs.Queries.{TimesOf, AfterType, ToWord, ToFirst, ToUnderscore, ToAnonymous, ToVertex}
use Rattle.gremlin_parse.specs.Queries.{OpensId, ToId, ToCloses, Dropped, Changed, PropertyName, PairValue}
use Rattle.gremlin_parse.specs.Queries.{Quoted as Purpose, IsKeptQuery, after_filter, after_names, after_pair}
use Rattle.gremlin_parse.specs.Queries.{after_quoted, after_step, bare_step, body_name, body_words, as_step_word}
use Rattle.gremlin_parse.specs.Queries.{changed, count_before, direction_of, elements_of, is_descending, is_loose}
use Rattle.gremlin_parse.specs.Queries.{opened, opened_body, plain_order, query_from, relation_name, relation_names}
use Rattle.gremlin_parse.specs.Queries.{relation_of, reordered, shown, sort_name, sort_names, step_of, step_words}
use Rattle.gremlin_parse.specs.Queries.{steps_before, turn, with_step}
use Rattle.gremlin_parse.specs.Reading.{Then}
use Rattle.gremlin_parse.specs.Turns.{ThenOther, WithBlanks, Loosely, Leads, sign_at}
use Rattle.gremlin_parse.specs.Turns.{Other, Nothing, Words, Token as Symbolic, Either}
use Rattle.gremlin_parse.specs.Stages.{fits, is_by, stage_of, step_fault, steps_of}
use Rattle.gremlin_parse.specs.Symbols.{part}
use Rattle.gremlin_parse.specs.declared.bad_token.BadToken.{BadToken}
use Rattle.gremlin_parse.specs.declared.stage.Items.{Items}
use Rattle.gremlin_parse.specs.declared.source.SourceKind.TheVariants as sources
use Rattle.gremlin_parse.specs.declared.step_word.BareStep.{BareStep}
use Rattle.gremlin_parse.specs.declared.step_word.BareStep.TheVariants as bare
use Rattle.gremlin_parse.specs.declared.step_word.BodyWord.{BodyWord}
use Rattle.gremlin_parse.specs.declared.step_word.BodyWord.TheVariants as of_body
use Rattle.gremlin_parse.specs.declared.step_word.ChangeWord.TheVariants as changes
use Rattle.gremlin_parse.specs.declared.step_word.NamesStep.TheVariants as of_names
use Rattle.gremlin_parse.specs.declared.step_word.StepWord.{StepWord}
use Rattle.gremlin_parse.specs.declared.step_word.StepWord.TheVariants as words
use Rattle.gremlin_parse.proofs.OrderLaws.{replace_last-append}
use Rattle.gremlin_parse.proofs.Turns.{Language}
use Rattle.gremlin_parse.proofs.TokenWalks.{OtherWalk, IsLooseAfter, loose_after, loose_quoted}
use Rattle.gremlin_parse.proofs.Fitting.{InTime, items_of, written_items, written_steps, some_counted, all_items}
use Rattle.gremlin_parse.proofs.Fitting.{all_steps, name_faultless, never_late, one_less}
use Rattle.gremlin_parse.proofs.KeyTokens.{order_keyed}
use Rattle.gremlin_parse.proofs.StepNames.{Follows, letters_of, step_letters, step_word}
use Rattle.gremlin_parse.proofs.TokenSteps.{TakesAs, loose_filter, loose_names, loose_body}
use Rattle.gremlin_parse.proofs.TokenQueries.{AllFit, AreEarly, Fits, IsNext, bare_takes, loose_pair, loose_opened, order_takes}

-- ---- tokens from place to place, as they are put there

abbrev SignGo : Place → (Place → Type 0) → Token → Type 0
SignGo place After token = (b : ℕ) × (next : Place) × (sign_at (turn place).signs b ≡ Some next) × (is_loose next ≡ true) × (token ≡ word (b ∷ [])) × After next

abbrev QuoteGo : Place → (Place → Type 0) → Token → Type 0
QuoteGo place After token =
    (quoted : Purpose) × (name : List ℕ) × (sign_at (turn place).signs 39 ≡ Some (InQuotes quoted false))
    × (sign_at (turn place).signs 34 ≡ Some (InQuotes quoted true))
    × (token ≡ Quoted name) × After (after_quoted quoted name)

abbrev DoubleGo : Place → (Place → Type 0) → Token → Type 0
DoubleGo place After token =
    (middle : Place) × (next : Place) × (sign_at (turn place).signs 95 ≡ Some middle) × (is_loose middle ≡ false) × (sign_at (turn middle).signs 95 ≡ Some next)
    × (is_loose next ≡ true) × (token ≡ word (codes "__")) × After next

-- There is no such fault at any bytes of these tokens.
abbrev AllFree : List Token → (List ℕ → Option BadToken) → Type 0
AllFree tokens fault = (bytes : List ℕ) → AreFrom tokens bytes → fault bytes ≡ None

abbrev PlaceGo : Place → ((List ℕ → Option BadToken) → Type 0) → (Place → Type 0) → Token → Type 0
PlaceGo place Free After token = SignGo place After token ⊎ QuoteGo place After token ⊎ DoubleGo place After token
    ⊎ OtherWalk (turn place).other Free After token

abbrev Goes : Command → Place → List Token → Type 0
Goes end place [] = (turn place).ends ≡ Some end
Goes end place (token ∷ tokens) = PlaceGo place (AllFree (token ∷ tokens)) (λ next. Goes end next tokens) token

-- ---- from tokens to bytes

abbrev Loose : Command → ℕ → Place → Language
Loose end n = Loosely turn is_loose (λ next rest. Leads turn is_loose IsBounded end n next rest)

-- any blanks where they may stand
blanked : (t : Bool) (At : Language) (bytes : List ℕ) → t ≡ true → Then Blanks At bytes → WithBlanks t At bytes
blanked true At bytes loose at = at
blanked false At bytes loose at = cc

tight : (t : Bool) (At : Language) (bytes : List ℕ) → t ≡ false → At bytes → WithBlanks t At bytes
tight true At bytes loose at = cc
tight false At bytes loose at = at

-- Tokens from the place on lead to the end.
abbrev LeadsAll : Command → List Token → Type 0
LeadsAll end tokens = (place : Place) (bytes : List ℕ) → Goes end place tokens → AreFrom tokens bytes → (n : ℕ)
    × Leads turn is_loose IsBounded end n place bytes

go_on : (end : Command) (tokens : List Token) (next : Place) (rest : List ℕ) → is_loose next ≡ true → LeadsAll end tokens → Goes end next tokens
    → Then Blanks (AreFrom tokens) rest → (n : ℕ) × Loose end n next rest
go_on end tokens next rest loose all goes (blanks, last, cut, are, from) =
    let (n, leads) = all next last goes from in
    (n, blanked (is_loose next) (Leads turn is_loose IsBounded end n next) rest loose (blanks, last, cut, are, leads))

other_go : (end : Command) (tokens : List Token) (token : Token) (other : Other StepWord Place) → IsLooseAfter other → LeadsAll end tokens
    → OtherWalk other (AllFree (token ∷ tokens)) (λ next. Goes end next tokens) token → (text rest bytes : List ℕ) → bytes ≡ text ++ rest → IsToken token text
    → Then Blanks (AreFrom tokens) rest → (n : ℕ) × ThenOther IsBounded other (Loose end n) bytes
other_go end tokens token Nothing loose all none text rest bytes whole is from = absurd none
other_go end tokens token (Words table fault to) loose all (entry, within, same, free, goes) text rest bytes whole is from =
    let (n, at) = go_on end tokens (to entry.1) rest (loose entry.1) all goes from in
    let this : IsToken (word entry.0) text = subst (λ t. IsToken t text) same is in
    (n, (entry, within, free bytes (text, rest, whole, is, from), (text, rest, whole, this.0, at)))
other_go end tokens token (Symbolic symbol to) loose all (content, allows, same, goes) text rest bytes whole is from =
    let (n, at) = go_on end tokens (to content) rest (loose content) all goes from in
    let this : IsToken (Whole (part symbol content)) text = subst (λ t. IsToken t text) same is in
    (n, (content, allows, this.1, (text, rest, whole, this.0, at)))
other_go end tokens token (Either one two) loose all (inl go) text rest bytes whole is from = let (n, at) =
    other_go end tokens token one loose.0 all go text rest bytes whole is from in (n, inl at)
other_go end tokens token (Either one two) loose all (inr go) text rest bytes whole is from = let (n, at) =
    other_go end tokens token two loose.1 all go text rest bytes whole is from in (n, inr at)

-- a name and the quote that closes it
quoted_go : (end : Command) (tokens : List Token) (quoted : Purpose) (double : Bool) (name rest : List ℕ) → LeadsAll end tokens
    → Goes end (after_quoted quoted name) tokens → (bytes : List ℕ) → bytes ≡ (name ++ quote_byte double ∷ []) ++ rest → IsName name
    → length name ≤ most_name_bytes → Then Blanks (AreFrom tokens) rest → (n : ℕ) × Leads turn is_loose IsBounded end n (InQuotes quoted double) bytes
quoted_go end tokens quoted double name rest all goes bytes whole is bounded from =
    let (n, at) = go_on end tokens (after_quoted quoted name) rest (loose_quoted quoted name) all goes from in
    (suc n, inr (name, tt, bounded, (name ++ quote_byte double ∷ [], rest, whole, (refl, is), at)))

quote_go : (end : Command) (place : Place) (tokens : List Token) (token : Token) → LeadsAll end tokens → QuoteGo place (λ next. Goes end next tokens) token
    → (text rest bytes : List ℕ) → bytes ≡ text ++ rest → IsToken token text → Then Blanks (AreFrom tokens) rest → (n : ℕ)
    × Leads turn is_loose IsBounded end n place bytes
quote_go end place tokens token all (quoted, name, single, double, same, goes) text rest bytes whole is from =
    here (subst (λ t. IsToken t text) same is)
  where
    here : IsToken (Quoted name) text → (n : ℕ) × Leads turn is_loose IsBounded end n place bytes
    here (false, text_is, named, bounded) =
        let (n, leads) = quoted_go end tokens quoted false name rest all goes ((name ++ 39 ∷ []) ++ rest) refl named bounded from in
        (suc n, inl (39, InQuotes quoted false, single, (39 ∷ [], (name ++ 39 ∷ []) ++ rest, whole ∙ ap (λ (t : List ℕ). t ++ rest) text_is, refl, leads)))
    here (true, text_is, named, bounded) =
        let (n, leads) = quoted_go end tokens quoted true name rest all goes ((name ++ 34 ∷ []) ++ rest) refl named bounded from in
        (suc n, inl (34, InQuotes quoted true, double, (34 ∷ [], (name ++ 34 ∷ []) ++ rest, whole ∙ ap (λ (t : List ℕ). t ++ rest) text_is, refl, leads)))

goes_lead : (end : Command) (tokens : List Token) → LeadsAll end tokens
goes_lead end [] place bytes is none = (zero, (is, none))
goes_lead end (token ∷ tokens) place bytes (inl (b, next, is, loose, same, goes)) (text, rest, whole, this, from) =
    let (n, at) = go_on end tokens next rest loose (goes_lead end tokens) goes from in
    let text_is : IsToken (word (b ∷ [])) text = subst (λ t. IsToken t text) same this in
    (suc n, inl (b, next, is, (text, rest, whole, text_is.0, at)))
goes_lead end (token ∷ tokens) place bytes (inr (inl quotes)) (text, rest, whole, this, from) =
    quote_go end place tokens token (goes_lead end tokens) quotes text rest bytes whole this from
goes_lead end (token ∷ tokens) place bytes (inr (inr (inl (middle, next, first, no_blanks, second, loose, same, goes)))) (text, rest, whole, this, from) =
    let (n, at) = go_on end tokens next rest loose (goes_lead end tokens) goes from in
    let text_is : IsToken (word (codes "__")) text = subst (λ t. IsToken t text) same this in
    let inner : Leads turn is_loose IsBounded end (suc n) middle (95 ∷ rest) = inl (95, next, second, (95 ∷ [], rest, refl, refl, at)) in (
      suc (suc n),
      inl (
        95,
        middle,
        first,
        (
          95 ∷ [],
          95 ∷ rest,
          whole ∙ ap (λ (t : List ℕ). t ++ rest) text_is.0,
          refl,
          tight (is_loose middle)
              (Leads turn is_loose IsBounded end (suc n) middle) (95 ∷ rest) no_blanks inner,
        ),
      ),
    )
goes_lead end (token ∷ tokens) place bytes (inr (inr (inr other))) (text, rest, whole, this, from) =
    let (n, at) = other_go end tokens token (turn place).other (loose_after place) (goes_lead end tokens) other text rest bytes whole this from in
    (suc n, inr at)

-- ---- names

later_names_go : (end : Command) (purpose : NamesFor) (names more : List (List ℕ)) (rest : List Token) → Goes end (after_names purpose (names ++ more)) rest
    → Goes end (AfterName purpose names) ((after_commas (map Quoted more) ++ closing ∷ []) ++ rest)
later_names_go end purpose names [] rest goes = inl (
  41,
  (after_names purpose names),
  refl,
  (loose_names purpose names),
  refl,
  (subst (λ l. Goes end (after_names purpose l) rest) (append-nil names) goes),
)
later_names_go end purpose names (name ∷ more) rest goes =
    inl (
      44,
      (Quote (OneName purpose names)),
      refl,
      refl,
      refl,
      (inr (inl (
        (OneName purpose names),
        name,
        refl,
        refl,
        refl,
        (later_names_go end purpose (names ++ name ∷ []) more rest
            (subst (λ l. Goes end (after_names purpose l) rest) (sym (append_assoc names (name ∷ []) more)) goes)),
      ))),
    )

names_go : (end : Command) (purpose : NamesFor) (names : List (List ℕ)) (rest : List Token) → Goes end (after_names purpose names) rest
    → Goes end (FirstName purpose) ((names_of names ++ closing ∷ []) ++ rest)
names_go end purpose [] rest goes = inl (41, (after_names purpose []), refl, (loose_names purpose []), refl, goes)
names_go end purpose (name ∷ names) rest goes = inr (inl (
  (OneName purpose []),
  name,
  refl,
  refl,
  refl,
  (later_names_go end purpose (name ∷ [])
      names rest goes),
))

some_names_go : (end : Command) (purpose : NamesFor) (names : List (List ℕ)) (rest : List Token) → names ≢ [] → Goes end (after_names purpose names) rest
    → Goes end (Quote (OneName purpose [])) ((names_of names ++ closing ∷ []) ++ rest)
some_names_go end purpose [] rest some goes = absurd (some refl)
some_names_go end purpose (name ∷ names) rest some goes = inr (inl (
  (OneName purpose []),
  name,
  refl,
  refl,
  refl,
  (later_names_go end purpose (name ∷ [])
      names rest goes),
))

-- ---- filters

relation_in : (relation : Relation) → InTable (relation_name relation, tt) (plain relation_names)
relation_in relations.Eq = inl refl
relation_in relations.Neq = inr (inl refl)
relation_in relations.Gt = inr (inr (inl refl))
relation_in relations.Gte = inr (inr (inr (inl refl)))
relation_in relations.Lt = inr (inr (inr (inr (inl refl))))
relation_in relations.Lte = inr (inr (inr (inr (inr (inl refl)))))

relation_back : (relation : Relation) → relation_of (relation_name relation) ≡ relation
relation_back relations.Eq = refl
relation_back relations.Neq = refl
relation_back relations.Gt = refl
relation_back relations.Gte = refl
relation_back relations.Lt = refl
relation_back relations.Lte = refl

closes_go : (end : Command) (into : Into) (filter : Filter) (rest : List Token) → Goes end (after_filter into filter) rest
    → Goes end (ClosesFilter into filter) (closing ∷ rest)
closes_go end into filter rest goes = inl (41, (after_filter into filter), refl, (loose_filter into filter), refl, goes)

opens_value_go : (end : Command) (into : Into) (key : List ℕ) (relation : Relation) (value : Value) (rest : List Token)
    → Goes end (after_filter into (filters.HasValue key relation value)) rest
    → Goes end (OpensValue into key (relation_of (relation_name relation))) (opening ∷ literal value ∷ closing ∷ closing ∷ rest)
opens_value_go end into key relation value rest goes =
    subst (λ r. Goes end (OpensValue into key r) (opening ∷ literal value ∷ closing ∷ closing ∷ rest)) (sym (relation_back relation))
    (inl (
      40,
      (Compared into key relation),
      refl,
      refl,
      refl,
      (inr (inr (inr (
        value,
        tt,
        refl,
        inl (
          41,
          (ClosesFilter into (filters.HasValue key relation value)),
          refl,
          refl,
          refl,
          (closes_go end into (filters.HasValue key relation value) rest goes),
        ),
      )))),
    ))

compared_go : (end : Command) (into : Into) (key : List ℕ) (relation : Relation) (value : Value) (text rest : List Token) → IsCompared relation value text
    → Goes end (after_filter into (filters.HasValue key relation value)) rest → Goes end (ValueOf into key) ((text ++ closing ∷ []) ++ rest)
compared_go end into key relation value text rest (inl (equal, is)) goes =
    subst (λ (t : List Token). Goes end (ValueOf into key) ((t ++ closing ∷ []) ++ rest)) (sym is)
    (inr (inr (inr (inr (
      value,
      tt,
      refl,
      closes_go end into (filters.HasValue key relations.Eq value) rest
          (subst (λ r. Goes end (after_filter into (filters.HasValue key r value)) rest) equal goes),
    )))))
compared_go end into key relation value text rest (inr (inl is)) goes =
    subst (λ (t : List Token). Goes end (ValueOf into key) ((t ++ closing ∷ []) ++ rest)) (sym is)
    (inr (inr (inr (inl (relation_name relation, relation_in relation, refl, opens_value_go end into key relation value rest goes)))))
compared_go end into key relation value text rest (inr (inr is)) goes =
    subst (λ (t : List Token). Goes end (ValueOf into key) ((t ++ closing ∷ []) ++ rest)) (sym is)
    (inl (
      80,
      (AfterP into key),
      refl,
      refl,
      refl,
      (inl (
        46,
        (RelationName into key),
        refl,
        refl,
        refl,
        (inr (inr (inr (relation_name relation, relation_in relation, refl, opens_value_go end into key relation value rest goes)))),
      )),
    ))

-- what stands after the parenthesis of a step of a query or of a body, and the word of the step
abbrev BodyGo : Command → Into → BodyStep → List Token → List Token → Type 0
BodyGo end into step text rest = (this : BodyWord) × (arguments : List Token) × (text ≡ word (letters_of this) ∷ opening ∷ arguments)
    × TakesAs (words.Body this) (Does (step_of step)) × Goes end (opened_body into this) (arguments ++ rest)

filter_go : (end : Command) (into : Into) (filter : Filter) (text rest : List Token) → IsFilter filter text → Goes end (after_filter into filter) rest
    → BodyGo end into (bodies.Filter filter) text rest
filter_go end into (filters.Has key) text rest is goes = (
  of_body.Has,
  Quoted key ∷ closing ∷ [],
  is,
  (λ these bytes. refl),
  inr
      (inl ((Key into), key, refl, refl, refl, (inl (41, (after_filter into (filters.Has key)), refl, (loose_filter into (filters.Has key)), refl, goes)))),
)
filter_go end into (filters.HasValue key relation value) text rest (compared, are, is) goes = (
  of_body.Has,
  Quoted key ∷ comma ∷ (compared ++ closing ∷ []),
  is,
  (λ these bytes. refl),
  inr
      (inl (
        (Key into),
        key,
        refl,
        refl,
        refl,
        (inl (
          44,
          (ValueOf into key),
          refl,
          refl,
          refl,
          (compared_go end into key relation value compared rest are
              goes),
        )),
      )),
)
filter_go end into (filters.HasLabel labels) text rest (some, is) goes =
    (of_body.HasLabel, names_of labels ++ closing ∷ [], is, (λ these bytes. refl), some_names_go end (OfLabels into) labels rest some goes)

body_go : (end : Command) (into : Into) (step : BodyStep) (text rest : List Token) → IsBodyStep step text → Goes end (after_step into step) rest
    → BodyGo end into step text rest
body_go end into (bodies.Neighbours hop) text rest is goes = (
  of_body.Neighbours hop.direction,
  names_of hop.labels ++ closing ∷ [],
  is,
  (λ these bytes. refl),
  names_go end (OfHop into hop.direction) hop.labels rest goes,
)
body_go end into (bodies.Filter filter) text rest is goes = filter_go end into filter text rest is goes

-- ---- repeats

body_entry : (this : BodyWord) → InTable (letters_of this, words.Body this) (map as_step_word body_words)
body_entry (of_body.Neighbours directions.Outgoing) = inl refl
body_entry (of_body.Neighbours directions.Incoming) = inr (inl refl)
body_entry (of_body.Neighbours directions.Both) = inr (inr (inl refl))
body_entry of_body.HasLabel = inr (inr (inr (inl refl)))
body_entry of_body.Has = inr (inr (inr (inr (inl refl))))

-- the first step of a body, or a later one
abbrev NamedGo : Command → Query → List BodyStep → List Token → Type 0
NamedGo end query body tokens = (token : Token) × (later : List Token) × (tokens ≡ token ∷ later)
    × OtherWalk (body_name query body) (AllFree (token ∷ later)) (λ next. Goes end next later) token

named_go : (end : Command) (query : Query) (body : List BodyStep) (step : BodyStep) (text rest : List Token) → IsBodyStep step text
    → count_before query body < 32 → Goes end (InBody query (body ++ step ∷ [])) rest → NamedGo end query body (text ++ rest)
named_go end query body step text rest is early goes =
    let (this, arguments, cut, same, opened) = body_go end (OfBody query body) step text rest is goes in (
      word (letters_of this),
      opening ∷ (arguments ++ rest),
      ap (λ (t : List Token). t ++ rest) cut,
      (
        (letters_of this, words.Body this),
        body_entry this,
        refl,
        (λ bytes from. never_late (count_before query body) early),
        inl (
          40,
          (opened_body (OfBody query body) this),
          refl,
          (loose_body (OfBody query body)
              this),
          refl,
          opened,
        ),
      ),
    )

later_body_go : (end : Command) (query : Query) (body more : List BodyStep) (text rest : List Token) → AreBodySteps more text → InTime query (body ++ more)
    → Goes end (AfterBody query (body ++ more)) rest → Goes end (InBody query body) (text ++ (closing ∷ rest))
later_body_go end query body [] text rest none early goes =
    subst (λ (t : List Token). Goes end (InBody query body) (t ++ (closing ∷ rest))) (sym none)
    (inl (41, (AfterBody query body), refl, refl, refl, (subst (λ b. Goes end (AfterBody query b) rest) (append-nil body) goes)))
later_body_go end query body (step ∷ more) text rest (first, later, is, step_is, are) early goes =
    let after = later_body_go end query (body ++ step ∷ []) more later rest are (subst (InTime query) (sym (append_assoc body (step ∷ []) more)) early)
    (subst (λ b. Goes end (AfterBody query b) rest) (sym (append_assoc body (step ∷ []) more)) goes) in
    let (token, tokens, cut, other) = named_go end query body step first (later ++ (closing ∷ rest)) step_is (one_less query body step more early) after in
    let all : text ++ (closing ∷ rest) ≡ dot ∷ token ∷ tokens = ap (λ (t : List Token). t ++ (closing ∷ rest)) is
    ∙ ap (λ (t : List Token). dot ∷ t) (append_assoc first later (closing ∷ rest) ∙ cut) in
    subst (Goes end (InBody query body)) (sym all) (inl (46, (BodyName query body), refl, refl, refl, (inr (inr (inr other)))))

abbrev SomeBodyGo : Command → Query → List BodyStep → List Token → List Token → Type 0
SomeBodyGo end query body text rest = NamedGo end query [] (text ++ (closing ∷ rest))

some_body_go : (end : Command) (query : Query) (body : List BodyStep) (text rest : List Token) → AreBodySteps body (dot ∷ text) → InTime query body
    → Goes end (AfterBody query body) rest → SomeBodyGo end query body text rest
some_body_go end query [] text rest none early goes = cc
some_body_go end query (step ∷ more) text rest (first, later, is, step_is, are) early goes =
    let after = later_body_go end query (step ∷ []) more later rest are early goes in
    let (token, tokens, cut, other) = named_go end query [] step first (later ++ (closing ∷ rest)) step_is (one_less query [] step more early) after in
    let text_is : text ≡ first ++ later = cc in
    (token, tokens, ap (λ (t : List Token). t ++ (closing ∷ rest)) text_is ∙ append_assoc first later (closing ∷ rest) ∙ cut, other)

first_body_go : (end : Command) (query : Query) (body : List BodyStep) (front text rest : List Token) → IsAnonymous front → AreBodySteps body (dot ∷ text)
    → InTime query body → Goes end (AfterBody query body) rest → Goes end (BodyFirst query) (front ++ (text ++ (closing ∷ rest)))
first_body_go end query body front text rest (inl none) are early goes =
    let (token, tokens, cut, other) = some_body_go end query body text rest are early goes in
    subst (λ (f : List Token). Goes end (BodyFirst query) (f ++ (text ++ (closing ∷ rest)))) (sym none)
    (subst (Goes end (BodyFirst query)) (sym cut) (inr (inr (inr other))))
first_body_go end query body front text rest (inr is) are early goes =
    let (token, tokens, cut, other) = some_body_go end query body text rest are early goes in
    subst (λ (f : List Token). Goes end (BodyFirst query) (f ++ (text ++ (closing ∷ rest)))) (sym is)
    (inr (inr (inl (
      Underscore query,
      AfterAnonymous query,
      refl,
      refl,
      refl,
      refl,
      refl,
      inl (
        46,
        (BodyName query []),
        refl,
        refl,
        refl,
        (subst (Goes end (BodyName query [])) (sym cut) (inr (inr (inr other)))),
      ),
    ))))

times_go : (end : Command) (query : Query) (body : List BodyStep) (times : ℕ) (rest : List Token)
    → Goes end (Steps (with_step query (steps.Repeat body times))) rest
    → Goes end (AfterBody query body) (dot ∷ word (codes "times") ∷ opening ∷ Whole (Times times) ∷ closing ∷ rest)
times_go end query body times rest goes =
    inl (
      46,
      (TimesWord query body),
      refl,
      refl,
      refl,
      (inr (inr (inr (
        tt,
        tt,
        refl,
        inl (
          40,
          (TimesOf query body),
          refl,
          refl,
          refl,
          (inr (inr (inr (times, tt, refl, inl (41, (Steps (with_step query (steps.Repeat body times))), refl, refl, refl, goes))))),
        ),
      )))),
    )

regrouped : (front text tail rest : List Token) → (((front ++ text) ++ closing ∷ []) ++ tail) ++ rest ≡ front ++ (text ++ (closing ∷ (tail ++ rest)))
regrouped front text tail rest = append_assoc ((front ++ text) ++ closing ∷ []) tail rest ∙ append_assoc (front ++ text) (closing ∷ []) (tail ++ rest)
    ∙ append_assoc front text (closing ∷ (tail ++ rest))

-- ---- orders

sort_in : (descending : Bool) → InTable (sort_name descending, tt) (plain sort_names)
sort_in false = inl refl
sort_in true = inr (inl refl)

sort_back : (descending : Bool) → is_descending (sort_name descending) ≡ descending
sort_back false = refl
sort_back true = refl

abbrev DirectionGo : Command → Query → Option (List ℕ) → List Token → Type 0
DirectionGo end query key tokens = (token : Token) × (later : List Token) × (tokens ≡ token ∷ later)
    × OtherWalk (direction_of query key) (AllFree (token ∷ later)) (λ next. Goes end next later) token

direction_go : (end : Command) (query : Query) (key : Option (List ℕ)) (descending : Bool) (text rest : List Token) → IsDirection descending text
    → Goes end (ByCloses query key descending) rest → DirectionGo end query key (text ++ rest)
direction_go end query key descending text rest (inl is) goes = (
  word (sort_name descending),
  rest,
  ap (λ (t : List Token). t ++ rest) is,
  inl (
    sort_name descending,
    sort_in descending,
    refl,
    subst
        (λ d. Goes end (ByCloses query key d) rest) (sym (sort_back descending)) goes,
  ),
)
direction_go end query key descending text rest (inr is) goes = (
  word (codes "Order"),
  dot ∷ word (sort_name descending) ∷ rest,
  ap (λ (t : List Token). t ++ rest) is,
  inr (
    tt,
    tt,
    refl,
    inl (
      46,
      (DirectionName query key),
      refl,
      refl,
      refl,
      (inr (inr (inr (
        sort_name descending,
        sort_in descending,
        refl,
        subst (λ d. Goes end (ByCloses query key d) rest) (sym (sort_back descending))
            goes,
      )))),
    ),
  ),
)

by_closes_go : (end : Command) (query : Query) (key : Option (List ℕ)) (descending : Bool) (rest : List Token)
    → Goes end (Steps (reordered query key descending)) rest → Goes end (ByCloses query key descending) (closing ∷ rest)
by_closes_go end query key descending rest goes = inl (41, (Steps (reordered query key descending)), refl, refl, refl, goes)

by_go : (end : Command) (query : Query) (key : Option (List ℕ)) (descending : Bool) (text rest : List Token) → IsBy key descending text
    → Goes end (Steps (reordered query key descending)) rest → Goes end (ByFirst query) (text ++ (closing ∷ rest))
by_go end query None descending text rest (inl (ascends, is)) goes =
    subst (λ (t : List Token). Goes end (ByFirst query) (t ++ (closing ∷ rest))) (sym is)
    (inl (41, (Steps (reordered query None false)), refl, refl, refl, (subst (λ d. Goes end (Steps (reordered query None d)) rest) ascends goes)))
by_go end query None descending text rest (inr is) goes =
    let (token, later, cut, other) = direction_go end query None descending text (closing ∷ rest) is (by_closes_go end query None descending rest goes) in
    subst (Goes end (ByFirst query)) (sym cut) (inr (inr (inr other)))
by_go end query (Some key) descending text rest (inl (ascends, is)) goes =
    subst (λ (t : List Token). Goes end (ByFirst query) (t ++ (closing ∷ rest))) (sym is)
    (inr (inl (
      (OrderKey query),
      key,
      refl,
      refl,
      refl,
      (inl (
        41,
        (Steps (reordered query (Some key) false)),
        refl,
        refl,
        refl,
        (subst (λ d. Goes end (Steps (reordered query (Some key) d)) rest) ascends goes),
      )),
    )))
by_go end query (Some key) descending text rest (inr (direction, are, is)) goes =
    let (token, later, cut, other) = direction_go end query (Some key) descending direction (closing ∷ rest) are
    (by_closes_go end query (Some key) descending rest goes) in
    let at : Goes end (OrderDirection query (Some key)) (direction ++ (closing ∷ rest)) =
    subst (Goes end (OrderDirection query (Some key))) (sym cut) (inr (inr (inr other))) in
    subst (λ (t : List Token). Goes end (ByFirst query) (t ++ (closing ∷ rest))) (sym is)
    (inr (inl ((OrderKey query), key, refl, refl, refl, (inl (44, (OrderDirection query (Some key)), refl, refl, refl, at)))))

-- ---- steps

-- after steps, the last of them an order without a `by` or not
abbrev AfterSteps : Command → Query → List Token → Type 0
AfterSteps end query tokens = Goes end (Steps query) tokens × Goes end (Ordered query) tokens × Follows tokens

-- The name of a step, its parenthesis and what leads on from there are these tokens.
abbrev NameGo : Command → Query → List Token → Type 0
NameGo end query tokens = (this : StepWord) × (arguments : List Token) × InTable (step_letters this, this) step_words
    × (tokens ≡ word (step_letters this) ∷ opening ∷ arguments) × AllFree tokens (step_fault (stage_of query) this) × Goes end (opened query this) arguments

-- what the name of a step has no fault from
free_name : (query : Query) (this : StepWord) (tokens : List Token) → is_by this ≡ false
    → ((bytes : List ℕ) → AreFrom tokens bytes → fits (items_of query) this bytes ≡ true) → steps_of query < 32
    → AllFree tokens (step_fault (stage_of query) this)
free_name query this tokens other fit early bytes from = name_faultless query this bytes other (fit bytes from) early

before_last : (query : Query) (step : WrittenStep) → IsNext query step → steps_of query < 32
before_last query step next = let one = some_counted step in let most = next.1 in omega (arith, one, most)

name_go : (end : Command) (query : Query) (tokens : List Token) → NameGo end query tokens → AfterSteps end query (dot ∷ tokens)
name_go end query tokens (this, arguments, within, is, free, goes) =
    let opens : Goes end (Opens query this) (opening ∷ arguments) = inl (40, (opened query this), refl, (loose_opened query this), refl, goes) in
    let these : AllFree (word (step_letters this) ∷ opening ∷ arguments) (step_fault (stage_of query) this) =
    subst (λ (t : List Token). AllFree t (step_fault (stage_of query) this)) is free in (
      subst (λ (t : List Token). Goes end (Steps query) (dot ∷ t)) (sym is)
          (inl (46, (StepName query), refl, refl, refl, (inr (inr (inr ((step_letters this, this), within, refl, these, opens)))))),
      subst (λ (t : List Token). Goes end (Ordered query) (dot ∷ t)) (sym is)
          (inl (46, (OrderedName query), refl, refl, refl, (inr (inr (inr ((step_letters this, this), inr within, refl, these, opens)))))),
      inr (this, opening ∷ arguments, (step_word (step_letters this, this) within).1, ap (λ (t : List Token). dot ∷ t) is),
    )

body_in : (this : BodyWord) → InTable (letters_of this, words.Body this) step_words
body_in (of_body.Neighbours directions.Outgoing) = inl refl
body_in (of_body.Neighbours directions.Incoming) = inr (inl refl)
body_in (of_body.Neighbours directions.Both) = inr (inr (inl refl))
body_in of_body.HasLabel = inr (inr (inr (inr (inr (inr (inr (inr (inl refl))))))))
body_in of_body.Has = inr (inr (inr (inr (inr (inr (inr (inr (inr (inl refl)))))))))

incident_in : (direction : Direction) → InTable (step_letters (words.Names (of_names.Incident direction)), words.Names (of_names.Incident direction)) step_words
incident_in directions.Outgoing = inr (inr (inr (inl refl)))
incident_in directions.Incoming = inr (inr (inr (inr (inl refl))))
incident_in directions.Both = inr (inr (inr (inr (inr (inl refl)))))

-- from the tenth name of a step on
after_ten : (entry : Entry StepWord) → InTable entry ((codes "outV", words.Bare bare.OutV) ∷ (codes "inV", words.Bare bare.InV) ∷
    (codes "id", words.Bare bare.Id) ∷ (codes "label", words.Bare bare.Label) ∷ (codes "dedup", words.Bare bare.Dedup) ∷ (codes "count", words.Bare bare.Count)
    ∷ (codes "limit", words.Limit) ∷ (codes "order", words.Order) ∷ (codes "repeat", words.Repeat) ∷ (codes "addE", words.Change changes.AddE) ∷
    (codes "property", words.Change changes.Property) ∷ (codes "drop", words.Change changes.Drop) ∷ []) → InTable entry step_words
after_ten entry within = inr (inr (inr (inr (inr (inr (inr (inr (inr (inr within)))))))))

bare_in : (this : BareStep) → InTable (step_letters (words.Bare this), words.Bare this) step_words
bare_in bare.OutV = after_ten _ (inl refl)
bare_in bare.InV = after_ten _ (inr (inl refl))
bare_in bare.Id = after_ten _ (inr (inr (inl refl)))
bare_in bare.Label = after_ten _ (inr (inr (inr (inl refl))))
bare_in bare.Dedup = after_ten _ (inr (inr (inr (inr (inl refl)))))
bare_in bare.Count = after_ten _ (inr (inr (inr (inr (inr (inl refl))))))

bare_go : (end : Command) (query : Query) (this : BareStep) (text rest : List Token) → text ≡ word (step_letters (words.Bare this)) ∷ opening ∷ closing ∷ []
    → IsNext query (Does (bare_step this)) → Goes end (Steps (with_step query (bare_step this))) rest → NameGo end query (text ++ rest)
bare_go end query this text rest is next goes =
    let free = free_name query (words.Bare this) (text ++ rest) refl (λ bytes from. sym (bare_takes this (items_of query) bytes) ∙ next.0)
    (before_last query (Does (bare_step this)) next) in (
      words.Bare this,
      closing ∷ rest,
      bare_in this,
      ap (λ (t : List Token). t ++ rest) is,
      free,
      inl (
        41,
        (Steps (with_step query (bare_step this))),
        refl,
        refl,
        refl,
        goes,
      ),
    )

step_body_go : (end : Command) (query : Query) (step : BodyStep) (text rest : List Token) → IsBodyStep step text → IsNext query (Does (step_of step))
    → Goes end (Steps (with_step query (step_of step))) rest → NameGo end query (text ++ rest)
step_body_go end query step text rest is next goes =
    let (this, arguments, cut, same, opened) = body_go end (OfQuery query) step text rest is goes in
    let free = free_name query (words.Body this) (text ++ rest) refl (λ bytes from. sym (same (items_of query) bytes) ∙ next.0)
    (before_last query (Does (step_of step)) next) in
    (words.Body this, arguments ++ rest, body_in this, ap (λ (t : List Token). t ++ rest) cut, free, opened)

order_free : (query : Query) (key : Option (List ℕ)) (descending : Bool) (text rest : List Token) → IsOrder key descending text → Follows rest
    → IsNext query (Does (steps.Order key descending)) → AllFree (text ++ rest) (step_fault (stage_of query) words.Order)
order_free query key descending text rest is follows next =
    free_name query words.Order (text ++ rest) refl (λ bytes from. sym (order_takes key descending (items_of query) bytes (order_keyed key descending text rest
    is follows bytes from)) ∙ next.0) (before_last query (Does (steps.Order key descending)) next)

order_go : (end : Command) (query : Query) (key : Option (List ℕ)) (descending : Bool) (text rest : List Token) → IsOrder key descending text
    → AllFree (text ++ rest) (step_fault (stage_of query) words.Order) → AfterSteps end (with_step query (steps.Order key descending)) rest
    → NameGo end query (text ++ rest)
order_go end query key descending text rest (inl (no_key, ascends, is)) free (goes, ordered, follows) =
    let plain_is : Goes end (Ordered (with_step query plain_order)) rest =
    subst (λ s. Goes end (Ordered (with_step query s)) rest) (λ i. steps.Order (no_key i) (ascends i)) ordered in (
      words.Order,
      closing ∷ rest,
      after_ten _ (inr (inr (inr (inr (inr (inr (inr (inl refl)))))))),
      ap (λ (t : List Token). t ++ rest) is,
      free,
      inl
          (41, (Ordered (with_step query plain_order)), refl, refl, refl, plain_is),
    )
order_go end query key descending text rest (inr (by, are, is)) free (goes, ordered, follows) =
    let put = replace_last-append query.steps plain_order (steps.Order key descending) in
    let by_is = by_go end (with_step query plain_order) key descending by rest are
    (subst (λ l. Goes end (Steps (record query { steps = l })) rest) (sym put) goes) in
    let cut : text ++ rest ≡ word (codes "order") ∷ opening ∷ closing ∷ dot ∷ word (codes "by") ∷ opening ∷ (by ++ (closing ∷ rest)) =
    ap (λ (t : List Token). t ++ rest) is ∙ (λ i. word (codes "order") ∷ opening ∷ closing ∷ dot ∷ word (codes "by") ∷ opening ∷ append_assoc by (closing ∷ [])
    rest i) in (
      words.Order,
      closing ∷ dot ∷ word (codes "by") ∷ opening ∷ (by ++ (closing ∷ rest)),
      after_ten _ (inr (inr (inr (inr (inr (inr (inr (inl refl)))))))),
      cut,
      free,
      inl (
        41,
        (Ordered (with_step query plain_order)),
        refl,
        refl,
        refl,
        (inl (
          46,
          (OrderedName (with_step query plain_order)),
          refl,
          refl,
          refl,
          (inr (inr (inr (
            (codes "by", words.By),
            inl refl,
            refl,
            (λ bytes from. refl),
            inl (
              40,
              (ByFirst (with_step query plain_order)),
              refl,
              refl,
              refl,
              by_is,
            ),
          )))),
        )),
      ),
    )

repeat_go : (end : Command) (query : Query) (body : List BodyStep) (times : ℕ) (text rest : List Token) → IsRepeat body times text
    → IsNext query (Does (steps.Repeat body times)) → Goes end (Steps (with_step query (steps.Repeat body times))) rest → NameGo end query (text ++ rest)
repeat_go end query body times text rest (front, inner, anonymous, are, is) next goes =
    let most = next.1 in
    let early : InTime query body = omega (arith, most) in
    let tail : List Token = dot ∷ call (codes "times") (Whole (Times times) ∷ []) in
    let first = first_body_go end query body front inner (tail ++ rest) anonymous are early (times_go end query body times rest goes) in
    let cut : text ++ rest ≡ word (codes "repeat") ∷ opening ∷ (front ++ (inner ++ (closing ∷ (tail ++ rest)))) =
    ap (λ (t : List Token). t ++ rest) is ∙ (λ i. word (codes "repeat") ∷ opening ∷ regrouped front inner tail rest i) in
    let free = free_name query words.Repeat (text ++ rest) refl (λ bytes from. next.0) (before_last query (Does (steps.Repeat body times)) next) in
    (words.Repeat, front ++ (inner ++ (closing ∷ (tail ++ rest))), after_ten _ (inr (inr (inr (inr (inr (inr (inr (inr (inl refl))))))))), cut, free, first)

written_go : (end : Command) (query : Query) (step : WrittenStep) (text rest : List Token) → IsWrittenStep step text → IsNext query step
    → AfterSteps end (with_written query step) rest → NameGo end query (text ++ rest)
written_go end query (Does (steps.Neighbours hop)) text rest is next goes = step_body_go end query (bodies.Neighbours hop) text rest is next goes.0
written_go end query (Does (steps.Incident hop)) text rest is next goes =
    let free = free_name query (words.Names (of_names.Incident hop.direction)) (text ++ rest) refl (λ bytes from. next.0)
    (before_last query (Does (steps.Incident hop)) next) in (
      words.Names (of_names.Incident hop.direction),
      (names_of hop.labels ++ closing ∷ []) ++ rest,
      incident_in hop.direction,
      ap (λ (t : List Token). t ++ rest)
          is,
      free,
      names_go end (OfStep query (of_names.Incident hop.direction)) hop.labels rest goes.0,
    )
written_go end query (Does steps.OutV) text rest is next goes = bare_go end query bare.OutV text rest is next goes.0
written_go end query (Does steps.InV) text rest is next goes = bare_go end query bare.InV text rest is next goes.0
written_go end query (Does (steps.Filter filter)) text rest is next goes = step_body_go end query (bodies.Filter filter) text rest is next goes.0
written_go end query (Does (steps.Values keys)) text rest is next goes =
    let free = free_name query (words.Names of_names.Values) (text ++ rest) refl (λ bytes from. next.0) (before_last query (Does (steps.Values keys)) next) in (
      words.Names of_names.Values,
      (names_of keys ++ closing ∷ []) ++ rest,
      inr (inr (inr (inr (inr (inr (inl refl)))))),
      ap (λ (t : List Token). t ++ rest)
          is,
      free,
      names_go end (OfStep query of_names.Values) keys rest goes.0,
    )
written_go end query (Does steps.Id) text rest is next goes = bare_go end query bare.Id text rest is next goes.0
written_go end query (Does steps.Label) text rest is next goes = bare_go end query bare.Label text rest is next goes.0
written_go end query (Does steps.Dedup) text rest is next goes = bare_go end query bare.Dedup text rest is next goes.0
written_go end query (Does steps.Count) text rest is next goes = bare_go end query bare.Count text rest is next goes.0
written_go end query (Does (steps.Limit most)) text rest is next goes = (
  words.Limit,
  Whole (Number most_limit most) ∷ closing ∷ rest,
  after_ten _ (inr (inr (inr (inr (inr (inr (inl refl))))))),
  ap (λ (t : List Token). t ++ rest) is,
  free_name query words.Limit (text ++ rest) refl (λ bytes from. refl) (before_last query (Does (steps.Limit most)) next),
  inr (inr (inr (most, tt, refl, inl (41, (Steps (with_step query (steps.Limit most))), refl, refl, refl, goes.0)))),
)
written_go end query (Does (steps.Order key descending)) text rest is next goes =
    order_go end query key descending text rest is (order_free query key descending text rest is goes.2 next) goes
written_go end query (Does (steps.Repeat body times)) text rest is next goes = repeat_go end query body times text rest is next goes.0
written_go end query (Maps keys) text rest is next goes =
    let free = free_name query words.ElementMap (text ++ rest) refl (λ bytes from. next.0) (before_last query (Maps keys) next) in (
      words.ElementMap,
      (names_of keys ++ closing ∷ []) ++ rest,
      inr (inr (inr (inr (inr (inr (inr (inl refl))))))),
      ap (λ (t : List Token). t ++ rest)
          is,
      free,
      names_go end (OfMaps query) keys rest goes.0,
    )

steps_go : (end : Command) (query : Query) (list : List WrittenStep) (text rest : List Token) → AreSteps list text → AllFit query list
    → AfterSteps end (with_all query list) rest → AfterSteps end query (text ++ rest)
steps_go end query [] text rest none fit goes = subst (λ (t : List Token). AfterSteps end query (t ++ rest)) (sym none) goes
steps_go end query (step ∷ list) text rest (first, later, is, step_is, are) (fit, most) goes =
    let same = written_items query step fit.0 in
    let len = written_steps query step fit.0 in
    let others : AllFit (with_written query step) list = (subst (λ these. Fit these list) (sym same) fit.1, omega (arith, len, most)) in
    let next : IsNext query step = (fit.0, omega (arith, most)) in
    let after = steps_go end (with_written query step) list later rest are others goes in
    let cut : text ++ rest ≡ dot ∷ (first ++ (later ++ rest)) = ap (λ (t : List Token). t ++ rest) is
    ∙ ap (λ (t : List Token). dot ∷ t) (append_assoc first later rest) in
    subst (AfterSteps end query) (sym cut) (name_go end query (first ++ (later ++ rest)) (written_go end query step first (later ++ rest) step_is next after))

-- ---- changes

pair_go : (end : Command) (purpose : PairFor) (key : List ℕ) (value : Value) (rest : List Token) → Goes end (after_pair purpose key value) rest
    → Goes end (Quote (PairKey purpose)) (Quoted key ∷ comma ∷ literal value ∷ closing ∷ rest)
pair_go end purpose key value rest goes =
    inr (inl (
      (PairKey purpose),
      key,
      refl,
      refl,
      refl,
      (inl (
        44,
        (PairValue purpose key),
        refl,
        refl,
        refl,
        (inr (inr (inr (value, tt, refl, inl (41, (after_pair purpose key value), refl, (loose_pair purpose key value), refl, goes))))),
      )),
    ))

pair_in_time : (subject : Subject) (pairs : List Pair) (pair : Pair) (more : List Pair) → AreEarly subject (pairs ++ pair ∷ more)
    → steps_before subject + length pairs < 32
pair_in_time subject pairs pair more early = let len : length (pairs ++ pair ∷ more) ≡ length pairs + length (pair ∷ more) =
    length-append pairs (pair ∷ more) in omega (arith, len, early)

properties_go : (end : Command) (subject : Subject) (pairs more : List Pair) → end ≡ changed subject (pairs ++ more) → AreEarly subject (pairs ++ more)
    → Goes end (Changed subject pairs) (properties_of more)
properties_go end subject pairs [] is early = ap (λ (c : Command). Some c) (sym (is ∙ ap (λ (l : List Pair). changed subject l) (append-nil pairs)))
properties_go end subject pairs (pair ∷ more) is early =
    let joined : pairs ++ pair ∷ more ≡ (pairs ++ pair ∷ []) ++ more = sym (append_assoc pairs (pair ∷ []) more) in
    let later = properties_go end subject (pairs ++ pair ∷ []) more (is ∙ ap (λ (l : List Pair). changed subject l) joined)
    (subst (AreEarly subject) joined early) in
    let soon = pair_in_time subject pairs pair more early in
    inl (
      46,
      (PropertyName subject pairs),
      refl,
      refl,
      refl,
      (inr (inr (inr (
        (codes "property", words.Change changes.Property),
        inl refl,
        refl,
        (λ bytes from. never_late (steps_before subject + length pairs)
            soon),
        inl (
          40,
          (Quote (PairKey (OfChange subject pairs))),
          refl,
          refl,
          refl,
          (pair_go end (OfChange subject pairs) pair.key pair.value
              (properties_of more) later),
        ),
      )))),
    )

vertex_to_go : (end : Command) (query : Query) (label : List ℕ) (to : ℕ) (rest : List Token) → Goes end (Changed (NewEdges query label to) []) rest
    → Goes end (OpensId query label) (opening ∷ identifier to ∷ closing ∷ closing ∷ rest)
vertex_to_go end query label to rest goes =
    inl (
      40,
      (ToId query label),
      refl,
      refl,
      refl,
      (inr (inr (inr (
        to,
        tt,
        refl,
        inl (
          41,
          (ToCloses query label to),
          refl,
          refl,
          refl,
          (inl (
            41,
            (Changed (NewEdges query label to) []),
            refl,
            refl,
            refl,
            goes,
          )),
        ),
      )))),
    )

-- from after the parenthesis of `to`
to_go : (end : Command) (query : Query) (label : List ℕ) (to : ℕ) (text rest : List Token) → IsTo to text → Goes end (Changed (NewEdges query label to) []) rest
    → Goes end (ToWord query label) (text ++ rest)
to_go end query label to text rest (front, inl none, is) goes =
    let cut : text ≡ call (codes "to") (call (codes "V") (identifier to ∷ [])) = is
    ∙ ap (λ (f : List Token). call (codes "to") (f ++ call (codes "V") (identifier to ∷ []))) none in
    subst (λ (t : List Token). Goes end (ToWord query label) (t ++ rest)) (sym cut)
    (inr (inr (inr (
      tt,
      tt,
      refl,
      inl (
        40,
        (ToFirst query label),
        refl,
        refl,
        refl,
        (inl (
          86,
          (OpensId query label),
          refl,
          refl,
          refl,
          (vertex_to_go end query label to rest goes),
        )),
      ),
    ))))
to_go end query label to text rest (front, inr some, is) goes =
    let cut : text ≡ call (codes "to") (word (codes "__") ∷ dot ∷ call (codes "V") (identifier to ∷ [])) = is
    ∙ ap (λ (f : List Token). call (codes "to") (f ++ call (codes "V") (identifier to ∷ []))) some in
    subst (λ (t : List Token). Goes end (ToWord query label) (t ++ rest)) (sym cut)
    (inr (inr (inr (
      tt,
      tt,
      refl,
      inl (
        40,
        (ToFirst query label),
        refl,
        refl,
        refl,
        (inr (inr (inl (
          ToUnderscore query label,
          ToAnonymous query label,
          refl,
          refl,
          refl,
          refl,
          refl,
          inl (
            46,
            (ToVertex query label),
            refl,
            refl,
            refl,
            (inl (86, (OpensId query label), refl, refl, refl, (vertex_to_go end query label to rest goes))),
          ),
        )))),
      ),
    ))))

change_go : (end : Command) (query : Query) (mutation : Mutation) (text : List Token) → IsChange mutation text → Fits query mutation
    → end ≡ commands.Mutate (Some query) mutation → NameGo end query text
change_go end query (mutations.AddV label pairs) text none fit is = absurd none
change_go end query (mutations.AddE label to pairs) text (last, to_is, cut) (fit, early) is = (
  words.Change changes.AddE,
  Quoted label ∷ closing ∷ dot ∷ (last ++ properties_of pairs),
  after_ten _ (inr (inr (inr (inr (inr (inr (inr (inr (inr (inl refl)))))))))),
  cut,
  free_name query (words.Change changes.AddE) text refl (λ bytes from. fit) (omega (arith, early)),
  inr (inl (
    (EdgeType query),
    label,
    refl,
    refl,
    refl,
    (inl (
      41,
      (AfterType query label),
      refl,
      refl,
      refl,
      (inl (
        46,
        (ToWord query label),
        refl,
        refl,
        refl,
        (to_go end query label to last (properties_of pairs) to_is (properties_go end (NewEdges query label to) [] pairs is (omega (arith, early)))),
      )),
    )),
  )),
)
change_go end query (mutations.Property []) text cut fit is = cc
change_go end query (mutations.Property (pair ∷ pairs)) text cut (fit, early) is =
    let text_is : text ≡ property_of pair ++ properties_of pairs = cc in (
      words.Change changes.Property,
      Quoted pair.key ∷ comma ∷ literal pair.value ∷ closing ∷ properties_of pairs,
      after_ten _ (inr (inr (inr (inr (inr (inr (inr (inr (inr (inr (inl refl))))))))))),
      text_is,
      free_name query (words.Change changes.Property) text refl (λ bytes from. fit) (omega (arith, early)),
      pair_go end (OfChange (Elements query) []) pair.key pair.value (properties_of pairs) (properties_go end (Elements query) (pair ∷ []) pairs is early),
    )
change_go end query mutations.Drop text cut (fit, early) is = (
  words.Change changes.Drop,
  closing ∷ [],
  after_ten _ (inr (inr (inr (inr (inr (inr (inr (inr (inr (inr (inr (inl refl)))))))))))),
  cut,
  free_name query
      (words.Change changes.Drop) text refl (λ bytes from. fit) (omega (arith, early)),
  inl (
    41,
    (Dropped query),
    refl,
    refl,
    refl,
    (ap (λ (c : Command). Some c) (sym is)),
  ),
)

-- ---- sources

later_ids_go : (end : Command) (edges : Bool) (ids more : List ℕ) (rest : List Token) → Goes end (Steps (query_from (elements_of edges (ids ++ more)))) rest
    → Goes end (AfterId edges ids) ((after_commas (map identifier more) ++ closing ∷ []) ++ rest)
later_ids_go end edges ids [] rest goes = inl (
  41,
  (Steps (query_from (elements_of edges ids))),
  refl,
  refl,
  refl,
  (subst (λ l. Goes end (Steps (query_from (elements_of edges l))) rest) (append-nil ids) goes),
)
later_ids_go end edges ids (id ∷ more) rest goes =
    inl (
      44,
      (NextId edges ids),
      refl,
      refl,
      refl,
      (inr (inr (inr (
        id,
        tt,
        refl,
        later_ids_go end edges (ids ++ id ∷ []) more rest (subst (λ l. Goes end (Steps (query_from (elements_of edges l))) rest)
            (sym (append_assoc ids (id ∷ []) more)) goes),
      )))),
    )

ids_go : (end : Command) (edges : Bool) (ids : List ℕ) (rest : List Token) → Goes end (Steps (query_from (elements_of edges ids))) rest
    → Goes end (FirstId edges) ((ids_of ids ++ closing ∷ []) ++ rest)
ids_go end edges [] rest goes = inl (41, (Steps (query_from (elements_of edges []))), refl, refl, refl, goes)
ids_go end edges (id ∷ ids) rest goes = inr (inr (inr (id, tt, refl, later_ids_go end edges (id ∷ []) ids rest goes)))

source_go : (end : Command) (source : Source) (rest : List Token) → Goes end (Steps (query_from source)) rest → Goes end SourceName (source_of source ++ rest)
source_go end (origins.Vertices ids) rest goes = inl (
  86,
  (Opening sources.Vertices),
  refl,
  refl,
  refl,
  (inl (
    40,
    (FirstId false),
    refl,
    refl,
    refl,
    (ids_go end false ids rest goes),
  )),
)
source_go end (origins.Edges ids) rest goes = inl (
  69,
  (Opening sources.Edges),
  refl,
  refl,
  refl,
  (inl (40, (FirstId true), refl, refl, refl, (ids_go end true ids rest goes))),
)
source_go end (origins.Found label key value) rest goes =
    inr (inr (inr (inl (
      tt,
      tt,
      refl,
      inl (
        40,
        (Quote FoundLabel),
        refl,
        refl,
        refl,
        (inr (inl (
          FoundLabel,
          label,
          refl,
          refl,
          refl,
          (inl (
            44,
            (Quote (PairKey (OfSource label))),
            refl,
            refl,
            refl,
            (pair_go end (OfSource label)
                key value rest goes),
          )),
        ))),
      ),
    ))))

reading_go : (end : Command) (query : Query) (these : Items) (count : ℕ) (text rest : List Token) → IsReading query these count text → count ≤ 32
    → AfterSteps end query rest → Goes end SourceName (text ++ rest)
reading_go end query these count text rest (source, list, later, cut, are, fit, is, these_are, count_is) most goes =
    let all_are : AllFit (query_from source) list = (fit, omega (arith, count_is, most)) in
    let all_go = steps_go end (query_from source) list later rest are all_are (subst (λ q. AfterSteps end q rest) is goes) in
    subst (Goes end SourceName) (sym (ap (λ (t : List Token). t ++ rest) cut ∙ append_assoc (source_of source) later rest))
    (source_go end source (later ++ rest) all_go.0)

-- what the reading part gives and counts
reading_fits : (query : Query) (these : Items) (count : ℕ) (text : List Token) (mutation : Mutation) → IsReading query these count text
    → takes_change these mutation ≡ true → count + change_count mutation ≤ 32 → Fits query mutation
reading_fits query these count text mutation (source, list, later, cut, are, fit, is, these_are, count_is) takes_it most =
    let items_are : items_of query ≡ these = ap items_of is ∙ all_items (query_from source) list fit ∙ sym these_are in
    let len : steps_of query ≡ count_all list = ap steps_of is ∙ all_steps (query_from source) list fit ∙ omega arith in
    (ap (λ (i : Items). takes_change i mutation) items_are ∙ takes_it, omega (arith, len, count_is, most))

vertex_go : (end : Command) (label : List ℕ) (pairs : List Pair) → end ≡ commands.Mutate None (mutations.AddV label pairs) → length pairs ≤ 32
    → Goes end SourceName (call (codes "addV") (Quoted label ∷ []) ++ properties_of pairs)
vertex_go end label pairs is most =
    inr (inr (inr (inr (
      tt,
      tt,
      refl,
      inl (
        40,
        (Quote VertexLabel),
        refl,
        refl,
        refl,
        (inr (inl (
          VertexLabel,
          label,
          refl,
          refl,
          refl,
          (inl (
            41,
            (Changed (NewVertex label) []),
            refl,
            refl,
            refl,
            (properties_go end (NewVertex label)
                [] pairs is (omega (arith, most))),
          )),
        ))),
      ),
    ))))

start_go : (end : Command) (text tokens : List Token) → tokens ≡ dot ∷ text → Goes end SourceName text → Goes end Start tokens
start_go end text tokens is goes = subst (Goes end Start) (sym is) (inl (46, SourceName, refl, refl, refl, goes))

mutating_go : (reading : Option Query) (mutation : Mutation) (text : List Token) → IsMutating reading mutation text
    → Goes (commands.Mutate reading mutation) SourceName text
mutating_go None (mutations.AddV label pairs) text (is, most) = subst (Goes (commands.Mutate None (mutations.AddV label pairs)) SourceName) (sym is)
    (vertex_go (commands.Mutate None (mutations.AddV label pairs)) label pairs refl most)
mutating_go None (mutations.AddE label to pairs) text none = absurd none
mutating_go None (mutations.Property pairs) text none = absurd none
mutating_go None mutations.Drop text none = absurd none
mutating_go (Some query) mutation text (these, count, first, last, cut, reading, change, takes_it, most) =
    let end : Command = commands.Mutate (Some query) mutation in
    subst (Goes end SourceName) (sym cut) (reading_go end query these count first (dot ∷ last) reading (omega (arith, most)) (name_go end query last
    (change_go end query mutation last change (reading_fits query these count first mutation reading takes_it most) refl)))

query_go : (command : Command) (tokens : List Token) → IsQueryOf command tokens → Goes command Start tokens
query_go (commands.Query query) tokens (reading, these, count, text, cut, is, most, query_is) =
    let end : Command = commands.Query query in
    let ends : Some (commands.Query (shown reading)) ≡ Some end = ap (λ (q : Query). Some (commands.Query q)) (sym query_is) in
    start_go end text tokens cut (subst (Goes end SourceName) (append-nil text) (reading_go end reading these count text [] is most (ends, ends, inl refl)))
query_go (commands.Mutate reading mutation) tokens (text, cut, is) = start_go (commands.Mutate reading mutation) text tokens cut
    (mutating_go reading mutation text is)
query_go command tokens none = absurd none

pub produced_spelled : (command : Command) (bytes : List ℕ) → IsProduced command bytes → IsKeptQuery command bytes
produced_spelled command bytes (tokens, is, (blanks, rest, whole, are, from)) =
    let (n, leads) = goes_lead command tokens Start rest (query_go command tokens is) from in
    (blanks, rest, whole, are, (n, leads))
