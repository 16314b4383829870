-- Queries by their tokens: what stands between the parentheses of a step is what its production has there.
use Rattle.std.proofs.Common.{◌≡◌, ◌≢◌, ◌⊎◌, ◌≤◌, ◌+◌, inl, inr, ℕ, zero, suc, Bool, true, false, Option, Some, None}
use Rattle.std.proofs.Common.{List, [], ◌∷◌, ◌++◌, length, map, codes, refl, sym, ap, ◌∙◌, subst, append_assoc}
use Rattle.std.proofs.Common.{append-nil, length-append, arith}
use Rattle.plain_graph.specs.declared.command.Command.{Command}
use Rattle.plain_graph.specs.declared.filter.Filter.{Filter}
use Rattle.plain_graph.specs.declared.filter.Filter.TheVariants as filters
use Rattle.plain_graph.specs.declared.filter.Relation.{Relation}
use Rattle.plain_graph.specs.declared.filter.Relation.TheVariants as relations
use Rattle.plain_graph.specs.declared.query.BodyStep.{BodyStep}
use Rattle.plain_graph.specs.declared.query.BodyStep.TheVariants as bodies
use Rattle.plain_graph.specs.declared.query.Query.{Query}
use Rattle.plain_graph.specs.declared.query.Step.{Step}
use Rattle.plain_graph.specs.declared.query.Step.TheVariants as steps
use Rattle.plain_graph.specs.declared.value.Value.{Value}
use Rattle.gremlin_parse.specs.Grammar.{Times}
use Rattle.gremlin_parse.specs.Keywords.{Entry, InTable, plain}
use Rattle.gremlin_parse.specs.Productions.{Token, Whole, Quoted, word, dot, comma, opening, closing, literal, call}
use Rattle.gremlin_parse.specs.Productions.{after_commas, names_of, IsCompared, IsFilter, IsBodyStep, AreBodySteps}
use Rattle.gremlin_parse.specs.Productions.{IsAnonymous, IsDirection, IsBy, IsOrder, IsRepeat, WrittenStep, Does, takes}
use Rattle.gremlin_parse.specs.Queries.{Into, OfQuery, OfBody, NamesFor, OfStep, OfMaps, OfHop, OfLabels, OneName, Key}
use Rattle.gremlin_parse.specs.Queries.{Place, Steps, Opens, Closing, FirstName, AfterName, AfterKey, ValueOf, AfterP}
use Rattle.gremlin_parse.specs.Queries.{RelationName, OpensValue, Compared, ClosesValue, ClosesFilter, OrderCloses}
use Rattle.gremlin_parse.specs.Queries.{Ordered, ByFirst, AfterOrderKey, AfterOrderWord, DirectionName, ByCloses, Quote}
use Rattle.gremlin_parse.specs.Queries.{BodyFirst, AfterAnonymous, BodyName, OpensBody, InBody, AfterBody, TimesWord}
use Rattle.gremlin_parse.specs.Queries.{OpensTimes, TimesOf}
use Rattle.gremlin_parse.specs.Queries.{Quoted as Purpose, after_filter, after_names, after_quoted, after_step}
use Rattle.gremlin_parse.specs.Queries.{as_step_word, body_name, body_word_of, body_words, count_before, direction_of}
use Rattle.gremlin_parse.specs.Queries.{is_descending, is_loose, opened_body, plain_order, relation_name}
use Rattle.gremlin_parse.specs.Queries.{relation_names, relation_of, relation_filter, reordered, sort_name, sort_names}
use Rattle.gremlin_parse.specs.Queries.{step_of, turn, value_filter, with_step}
use Rattle.gremlin_parse.specs.Stages.{fits}
use Rattle.gremlin_parse.specs.declared.stage.Items.{Items}
use Rattle.gremlin_parse.specs.declared.step_word.BodyWord.{BodyWord}
use Rattle.gremlin_parse.specs.declared.step_word.BodyWord.TheVariants as of_body
use Rattle.gremlin_parse.specs.declared.step_word.StepWord.{StepWord}
use Rattle.gremlin_parse.specs.declared.step_word.StepWord.TheVariants as words
use Rattle.gremlin_parse.proofs.OrderLaws.{replace_last-append}
use Rattle.gremlin_parse.proofs.Fitting.{InTime, one_more}
use Rattle.gremlin_parse.proofs.RepeatReads.{before_33rd}
use Rattle.gremlin_parse.proofs.StepNames.{letters_of}
use Rattle.gremlin_parse.proofs.TokenWalks.{OtherWalk, SignTo, SomeFree, Walks}

-- ---- one token

pub only : {A : Type 0} → (A ⊎ ⊥) ⊎ ⊥ → A
only (inl (inl a)) = a
only (inl (inr none)) = absurd none
only (inr none) = absurd none

-- The token stands first, and the tokens after it lead from the next place.
abbrev pub Next : Command → Token → Place → List Token → Type 0
Next end token to tokens = (rest : List Token) × (tokens ≡ token ∷ rest) × Walks end to rest

pub next_is : (end : Command) (place to : Place) (token : Token) → (turn place).ends ≡ None
    → ((t : Token) (ts : List Token) → Walks end place (t ∷ ts) → (t ≡ token) × Walks end to ts) → (tokens : List Token) → Walks end place tokens
    → Next end token to tokens
next_is end place to token none step [] walks = let clash : None ≡ Some end = sym none ∙ walks in cc
next_is end place to token none step (t ∷ ts) walks = let (same, later) = step t ts walks in (ts, (λ i. same i ∷ ts), later)

pub and_then : {token : Token} {tokens rest more : List Token} → tokens ≡ token ∷ rest → rest ≡ more → tokens ≡ token ∷ more
and_then {token} first later = first ∙ ap (λ (r : List Token). token ∷ r) later

pub plain_sign : (b : ℕ) (to : Place) (After : Place → Type 0) (token : Token) → is_loose to ≡ true → SignTo b to After token → (token ≡ word (b ∷ []))
    × After to
plain_sign b (Place.InQuotes quoted double) After token loose at = cc
plain_sign b (Place.Underscore query) After token loose at = cc
plain_sign b (Place.ToUnderscore query label) After token loose at = cc
plain_sign b to After token loose at = at

-- a name between quotes
abbrev pub NextName : Command → Purpose → List Token → Type 0
NextName end quoted tokens = (name : List ℕ) × (rest : List Token) × (tokens ≡ Quoted name ∷ rest) × Walks end (after_quoted quoted name) rest

pub next_name : (end : Command) (quoted : Purpose) (tokens : List Token) → Walks end (Quote quoted) tokens → NextName end quoted tokens
next_name end quoted [] walks = cc
next_name end quoted (t ∷ ts) (inl (inl (name, same, later))) = (name, ts, (λ i. same i ∷ ts), later)
next_name end quoted (t ∷ ts) (inl (inr (inl (name, same, later)))) = (name, ts, (λ i. same i ∷ ts), later)
next_name end quoted (t ∷ ts) (inl (inr (inr none))) = absurd none
next_name end quoted (t ∷ ts) (inr none) = absurd none

-- ---- names

pub loose_filter : (into : Into) (filter : Filter) → is_loose (after_filter into filter) ≡ true
loose_filter (OfQuery query) filter = refl
loose_filter (OfBody query body) filter = refl

pub loose_names : (purpose : NamesFor) (names : List (List ℕ)) → is_loose (after_names purpose names) ≡ true
loose_names (OfStep query step) names = refl
loose_names (OfMaps query) names = refl
loose_names (OfHop (OfQuery query) direction) names = refl
loose_names (OfHop (OfBody query body) direction) names = refl
loose_names (OfLabels into) names = loose_filter into _

-- The names and the parenthesis stand first.
abbrev pub NextNames : Command → NamesFor → List Token → Type 0
NextNames end purpose tokens = (names : List (List ℕ)) × (rest : List Token) × (tokens ≡ (names_of names ++ closing ∷ []) ++ rest)
    × Walks end (after_names purpose names) rest

abbrev LaterNames : Command → NamesFor → List (List ℕ) → List Token → Type 0
LaterNames end purpose names tokens = (more : List (List ℕ)) × (rest : List Token) × (tokens ≡ (after_commas (map Quoted more) ++ closing ∷ []) ++ rest)
    × Walks end (after_names purpose (names ++ more)) rest

later_names : (end : Command) (purpose : NamesFor) (names : List (List ℕ)) (tokens : List Token) → Walks end (AfterName purpose names) tokens
    → LaterNames end purpose names tokens
later_names end purpose names [] walks = cc
later_names end purpose names (t ∷ []) (inl (inl (same, quoted))) = cc
later_names end purpose names (t ∷ u ∷ us) (inl (inl (same, inl (inl (name, is, later))))) =
    let (more, rest, whole, at) = later_names end purpose (names ++ name ∷ []) us later in
    (name ∷ more, rest, (λ i. same i ∷ is i ∷ whole i), subst (λ l. Walks end (after_names purpose l) rest) (append_assoc names (name ∷ []) more) at)
later_names end purpose names (t ∷ u ∷ us) (inl (inl (same, inl (inr (inl (name, is, later)))))) =
    let (more, rest, whole, at) = later_names end purpose (names ++ name ∷ []) us later in
    (name ∷ more, rest, (λ i. same i ∷ is i ∷ whole i), subst (λ l. Walks end (after_names purpose l) rest) (append_assoc names (name ∷ []) more) at)
later_names end purpose names (t ∷ u ∷ us) (inl (inl (same, inl (inr (inr none))))) = absurd none
later_names end purpose names (t ∷ u ∷ us) (inl (inl (same, inr none))) = absurd none
later_names end purpose names (t ∷ ts) (inl (inr (inl closes))) =
    let (same, at) = plain_sign 41 (after_names purpose names) (λ next. Walks end next ts) t (loose_names purpose names) closes in
    ([], ts, (λ i. same i ∷ ts), subst (λ l. Walks end (after_names purpose l) ts) (sym (append-nil names)) at)
later_names end purpose names (t ∷ ts) (inl (inr (inr none))) = absurd none
later_names end purpose names (t ∷ ts) (inr none) = absurd none

first_name : (end : Command) (purpose : NamesFor) (t : Token) (ts : List Token) (name : List ℕ) → t ≡ Quoted name → Walks end (AfterName purpose (name ∷ [])) ts
    → NextNames end purpose (t ∷ ts)
first_name end purpose t ts name same later = let (more, rest, whole, at) = later_names end purpose (name ∷ []) ts later in
    (name ∷ more, rest, (λ i. same i ∷ whole i), at)

pub next_names : (end : Command) (purpose : NamesFor) (tokens : List Token) → Walks end (FirstName purpose) tokens → NextNames end purpose tokens
next_names end purpose [] walks = cc
next_names end purpose (t ∷ ts) (inl (inl closes)) = let (same, at) = plain_sign 41 (after_names purpose []) (λ next. Walks end next ts) t
    (loose_names purpose []) closes in ([], ts, (λ i. same i ∷ ts), at)
next_names end purpose (t ∷ ts) (inl (inr (inl (name, same, later)))) = first_name end purpose t ts name same later
next_names end purpose (t ∷ ts) (inl (inr (inr (inl (name, same, later))))) = first_name end purpose t ts name same later
next_names end purpose (t ∷ ts) (inl (inr (inr (inr none)))) = absurd none
next_names end purpose (t ∷ ts) (inr none) = absurd none

-- at least one name
abbrev pub SomeNames : Command → NamesFor → List Token → Type 0
SomeNames end purpose tokens = (names : List (List ℕ)) × (rest : List Token) × (names ≢ []) × (tokens ≡ (names_of names ++ closing ∷ []) ++ rest)
    × Walks end (after_names purpose names) rest

pub some_names : (end : Command) (purpose : NamesFor) (tokens : List Token) → Walks end (Quote (OneName purpose [])) tokens → SomeNames end purpose tokens
some_names end purpose tokens walks =
    let (name, rest, whole, later) = next_name end (OneName purpose []) tokens walks in
    let (more, last, names, at) = later_names end purpose (name ∷ []) rest later in
    (name ∷ more, last, (λ same. cc), and_then whole names, at)

-- ---- filters

relation_named : (letters : List ℕ) → InTable (letters, tt) (plain relation_names) → relation_name (relation_of letters) ≡ letters
relation_named letters (inl same) = subst (λ (e : Entry (Unit {0})). relation_name (relation_of e.0) ≡ e.0) (sym same) refl
relation_named letters (inr (inl same)) = subst (λ (e : Entry (Unit {0})). relation_name (relation_of e.0) ≡ e.0) (sym same) refl
relation_named letters (inr (inr (inl same))) = subst (λ (e : Entry (Unit {0})). relation_name (relation_of e.0) ≡ e.0) (sym same) refl
relation_named letters (inr (inr (inr (inl same)))) = subst (λ (e : Entry (Unit {0})). relation_name (relation_of e.0) ≡ e.0) (sym same) refl
relation_named letters (inr (inr (inr (inr (inl same))))) = subst (λ (e : Entry (Unit {0})). relation_name (relation_of e.0) ≡ e.0) (sym same) refl
relation_named letters (inr (inr (inr (inr (inr (inl same)))))) = subst (λ (e : Entry (Unit {0})). relation_name (relation_of e.0) ≡ e.0) (sym same) refl
relation_named letters (inr (inr (inr (inr (inr (inr none)))))) = absurd none

closes_filter : (end : Command) (into : Into) (filter : Filter) (tokens : List Token) → Walks end (ClosesFilter into filter) tokens
    → Next end closing (after_filter into filter) tokens
closes_filter end into filter tokens walks = next_is end (ClosesFilter into filter) (after_filter into filter) closing refl
    (λ t ts at. plain_sign 41 (after_filter into filter) (λ next. Walks end next ts) t (loose_filter into filter) (only at)) tokens walks

-- The text stands first, and a filter of these tokens is done after it.
abbrev pub NextFilter : Command → Into → (Filter → List Token → Type 0) → List Token → Type 0
NextFilter end into Text tokens = (filter : Filter) × (text : List Token) × (rest : List Token) × (tokens ≡ text ++ rest) × Text filter text
    × Walks end (after_filter into filter) rest

-- what is compared with, and the parenthesis
abbrev IsRelated : List ℕ → Filter → List Token → Type 0
IsRelated key filter text = (relation : Relation) × (value : Value) × (filter ≡ filters.HasValue key relation value)
    × ((compared : List Token) × IsCompared relation value compared × (text ≡ compared ++ closing ∷ []))

related : (end : Command) (into : Into) (key : List ℕ) (relation : Relation) (tokens : List Token) → Walks end (OpensValue into key relation) tokens
    → (value : Value) × (rest : List Token) × (tokens ≡ opening ∷ literal value ∷ closing ∷ closing ∷ rest)
    × Walks end (after_filter into (relation_filter key relation value)) rest
related end into key relation tokens walks =
    let (one, opens, at) = next_is end (OpensValue into key relation) (Compared into key relation) opening refl (λ t ts at. only at) tokens walks in
    let (value, (two, is, later)) = valued one at in
    let (three, closes, last) = next_is end (ClosesValue into (relation_filter key relation value)) (ClosesFilter into (relation_filter key relation value))
    closing refl (λ t ts at. only at) two later in
    let (four, ends, more) = closes_filter end into (relation_filter key relation value) three last in (
      value,
      four,
      and_then {tokens = tokens} {rest = one} opens (and_then {tokens = one} {rest = two} is (and_then {tokens = two} {rest = three} closes ends)),
      more,
    )
  where
    valued : (tokens : List Token) → Walks end (Compared into key relation) tokens → (value : Value)
        × Next end (literal value) (ClosesValue into (relation_filter key relation value)) tokens
    valued [] walks = cc
    valued (t ∷ ts) (inl none) = absurd none
    valued (t ∷ ts) (inr (value, allows, same, later)) = (value, (ts, (λ i. same i ∷ ts), later))

related_after : (end : Command) (into : Into) (key : List ℕ) (letters : List ℕ) → InTable (letters, tt) (plain relation_names) → (tokens rest : List Token)
    → tokens ≡ word letters ∷ rest → Walks end (OpensValue into key (relation_of letters)) rest → NextFilter end into (IsRelated key) tokens
related_after end into key letters within tokens rest is walks =
    let (value, last, whole, at) = related end into key (relation_of letters) rest walks in
    let name : word letters ≡ word (relation_name (relation_of letters)) = ap (λ (l : List ℕ). word l) (sym (relation_named letters within)) in
    let compared : List Token = call (relation_name (relation_of letters)) (literal value ∷ []) in (
      filters.HasValue key (relation_of letters) value,
      compared ++ closing ∷ [],
      last,
      is ∙ (λ i. name i ∷ whole i),
      (
        relation_of letters,
        value,
        refl,
        (compared, inr (inl refl), refl),
      ),
      at,
    )

value_walk : (end : Command) (into : Into) (key : List ℕ) (tokens : List Token) → Walks end (ValueOf into key) tokens
    → NextFilter end into (IsRelated key) tokens
value_walk end into key [] walks = cc
value_walk end into key (t ∷ ts) (inl (inl (same, at))) =
    let (one, dots, later) = next_is end (AfterP into key) (RelationName into key) dot refl (λ t ts at. only at) ts at in
    let (letters, within, (two, is, last)) = named one later in
    let (value, rest, whole, more) = related end into key (relation_of letters) two last in
    let name : word letters ≡ word (relation_name (relation_of letters)) = ap (λ (l : List ℕ). word l) (sym (relation_named letters within)) in
    let compared : List Token = word (codes "P") ∷ dot ∷ call (relation_name (relation_of letters)) (literal value ∷ []) in (
      filters.HasValue key (relation_of letters) value,
      compared ++ closing ∷ [],
      rest,
      (λ i. same i ∷ and_then dots (is ∙ (λ i. name i ∷ whole i)) i),
      (relation_of letters, value, refl, (compared, inr (inr refl), refl)),
      more,
    )
  where
    named : (tokens : List Token) → Walks end (RelationName into key) tokens → (letters : List ℕ) × InTable (letters, tt) (plain relation_names)
        × Next end (word letters) (OpensValue into key (relation_of letters)) tokens
    named [] walks = cc
    named (t ∷ ts) (inl none) = absurd none
    named (t ∷ ts) (inr (letters, within, same, later)) = (letters, within, (ts, (λ i. same i ∷ ts), later))
value_walk end into key (t ∷ ts) (inl (inr none)) = absurd none
value_walk end into key (t ∷ ts) (inr (inl (letters, within, same, later))) = related_after end into key letters within (t ∷ ts) ts (λ i. same i ∷ ts) later
value_walk end into key (t ∷ ts) (inr (inr (value, allows, same, later))) =
    let (rest, closes, at) = closes_filter end into (value_filter key value) ts later in (
      value_filter key value,
      literal value ∷ closing ∷ [],
      rest,
      (λ i. same i ∷ closes i),
      (
        relations.Eq,
        value,
        refl,
        (
          literal value ∷ [],
          inl (refl, refl),
          refl,
        ),
      ),
      at,
    )

-- the key of `has` and what may stand after it
abbrev pub IsHas : Filter → List Token → Type 0
IsHas filter text = IsFilter filter (word (codes "has") ∷ opening ∷ text)

has_related : (key : List ℕ) (filter : Filter) (text : List Token) → IsRelated key filter text → IsHas filter (Quoted key ∷ comma ∷ text)
has_related key filter text (relation, value, is, (compared, are, whole)) =
    subst (λ f. IsHas f (Quoted key ∷ comma ∷ text)) (sym is) (
      compared,
      are,
      ap (λ (t : List Token). word (codes "has") ∷ opening ∷ Quoted key ∷ comma ∷ t)
          whole,
    )

pub has_walk : (end : Command) (into : Into) (tokens : List Token) → Walks end (Quote (Key into)) tokens → NextFilter end into IsHas tokens
has_walk end into tokens walks = let (key, rest, is, later) = next_name end (Key into) tokens walks in keyed key rest is later
  where
    keyed : (key : List ℕ) (rest : List Token) → tokens ≡ Quoted key ∷ rest → Walks end (AfterKey into key) rest → NextFilter end into IsHas tokens
    keyed key [] is at = cc
    keyed key (t ∷ ts) is (inl (inl (same, at))) =
        let (filter, text, last, whole, has, more) = value_walk end into key ts at in
        (filter, Quoted key ∷ comma ∷ text, last, and_then is (λ i. same i ∷ whole i), has_related key filter text has, more)
    keyed key (t ∷ ts) is (inl (inr (inl closes))) =
        let (same, at) = plain_sign 41 (after_filter into (filters.Has key)) (λ next. Walks end next ts) t (loose_filter into (filters.Has key)) closes in
        (filters.Has key, Quoted key ∷ closing ∷ [], ts, and_then is (λ i. same i ∷ ts), refl, at)
    keyed key (t ∷ ts) is (inl (inr (inr none))) = absurd none
    keyed key (t ∷ ts) is (inr none) = absurd none

-- ---- steps of a body

-- The step takes what its name takes.
abbrev pub TakesAs : StepWord → WrittenStep → Type 0
TakesAs this step = (these : Items) (bytes : List ℕ) → takes these step ≡ fits these this bytes

abbrev pub NextStep : Command → Into → BodyWord → List Token → Type 0
NextStep end into body tokens = (step : BodyStep) × (text : List Token) × (rest : List Token) × (tokens ≡ text ++ rest)
    × IsBodyStep step (word (letters_of body) ∷ opening ∷ text) × TakesAs (words.Body body) (Does (step_of step)) × Walks end (after_step into step) rest

pub body_walk : (end : Command) (into : Into) (body : BodyWord) (tokens : List Token) → Walks end (opened_body into body) tokens → NextStep end into body tokens
body_walk end into (of_body.Neighbours direction) tokens walks =
    let (names, rest, whole, at) = next_names end (OfHop into direction) tokens walks in
    (bodies.Neighbours (record { direction = direction; labels = names }), names_of names ++ closing ∷ [], rest, whole, refl, (λ these bytes. refl), at)
body_walk end into of_body.HasLabel tokens walks =
    let (names, rest, some, whole, at) = some_names end (OfLabels into) tokens walks in
    (bodies.Filter (filters.HasLabel names), names_of names ++ closing ∷ [], rest, whole, (some, refl), (λ these bytes. refl), at)
body_walk end into of_body.Has tokens walks =
    let (filter, text, rest, whole, is, at) = has_walk end into tokens walks in
    (bodies.Filter filter, text, rest, whole, is, (λ these bytes. refl), at)

-- ---- repeats

pub only_other : {A : Type 0} → ⊥ ⊎ A → A
only_other (inl none) = absurd none
only_other (inr a) = a

pub loose_body : (into : Into) (body : BodyWord) → is_loose (opened_body into body) ≡ true
loose_body into (of_body.Neighbours direction) = refl
loose_body into of_body.HasLabel = refl
loose_body into of_body.Has = refl

body_letters : (entry : Entry StepWord) → InTable entry (map as_step_word body_words) → letters_of (body_word_of entry.1) ≡ entry.0
body_letters entry (inl same) = subst (λ (e : Entry StepWord). letters_of (body_word_of e.1) ≡ e.0) (sym same) refl
body_letters entry (inr (inl same)) = subst (λ (e : Entry StepWord). letters_of (body_word_of e.1) ≡ e.0) (sym same) refl
body_letters entry (inr (inr (inl same))) = subst (λ (e : Entry StepWord). letters_of (body_word_of e.1) ≡ e.0) (sym same) refl
body_letters entry (inr (inr (inr (inl same)))) = subst (λ (e : Entry StepWord). letters_of (body_word_of e.1) ≡ e.0) (sym same) refl
body_letters entry (inr (inr (inr (inr (inl same))))) = subst (λ (e : Entry StepWord). letters_of (body_word_of e.1) ≡ e.0) (sym same) refl
body_letters entry (inr (inr (inr (inr (inr none))))) = absurd none

abbrev NamedStep : Command → Query → List BodyStep → List Token → Type 0
NamedStep end query body tokens = (step : BodyStep) × (text : List Token) × (rest : List Token) × (tokens ≡ text ++ rest) × IsBodyStep step text
    × InTime query (body ++ step ∷ []) × Walks end (InBody query (body ++ step ∷ [])) rest

named_step : (end : Command) (query : Query) (body : List BodyStep) (t : Token) (ts : List Token)
    → OtherWalk (body_name query body) (SomeFree (t ∷ ts)) (λ next. Walks end next ts) t → NamedStep end query body (t ∷ ts)
named_step end query body t ts (entry, within, same, (bytes, from, none), later) =
    let this = body_word_of entry.1 in
    let (one, opens, at) = next_is end (OpensBody query body this) (opened_body (OfBody query body) this) opening refl
    (λ u us at. plain_sign 40 (opened_body (OfBody query body) this) (λ next. Walks end next us) u (loose_body (OfBody query body) this) (only at)) ts
    later in
    let (step, text, rest, whole, is, fit, last) = body_walk end (OfBody query body) this one at in
    let name : t ≡ word (letters_of this) = same ∙ ap (λ (l : List ℕ). word l) (sym (body_letters entry within)) in (
      step,
      word (letters_of this) ∷ opening ∷ text,
      rest,
      (λ i. name i ∷ and_then opens whole i),
      is,
      one_more query body step
          (before_33rd (count_before query body) none),
      last,
    )

next_step : (end : Command) (query : Query) (body : List BodyStep) (tokens : List Token) → Walks end (BodyName query body) tokens
    → NamedStep end query body tokens
next_step end query body [] walks = cc
next_step end query body (t ∷ ts) walks = named_step end query body t ts (only_other walks)

pub rest_within : (tokens text rest : List Token) → tokens ≡ text ++ rest → length rest ≤ length tokens
rest_within tokens text rest whole = let len : length tokens ≡ length text + length rest = ap length whole ∙ length-append text rest in omega (arith, len)

abbrev LaterBody : Command → Query → List BodyStep → List Token → Type 0
LaterBody end query body tokens = (more : List BodyStep) × (text : List Token) × (rest : List Token) × (tokens ≡ text ++ closing ∷ rest)
    × AreBodySteps more text × InTime query (body ++ more) × Walks end (AfterBody query (body ++ more)) rest

later_body : (k : ℕ) (end : Command) (query : Query) (body : List BodyStep) (tokens : List Token) → length tokens ≤ k → InTime query body
    → Walks end (InBody query body) tokens → LaterBody end query body tokens
later_body k end query body [] within early walks = cc
later_body zero end query body (t ∷ ts) within early walks = absurd (omega (arith, within))
later_body (suc k) end query body (t ∷ ts) within early (inl (inl (same, at))) =
    let (step, text, rest, whole, is, next, later) = next_step end query body ts at in
    let short = rest_within ts text rest whole in
    let less : length rest ≤ k = omega (arith, short, within) in
    let (more, texts, last, wholes, are, all_early, final) = later_body k end query (body ++ step ∷ []) rest less next later in
    let all : ts ≡ (text ++ texts) ++ closing ∷ last = whole ∙ ap (λ (r : List Token). text ++ r) wholes ∙ sym (append_assoc text texts (closing ∷ last)) in (
      step ∷ more,
      dot ∷ text ++ texts,
      last,
      (λ i. same i ∷ all i),
      (text, texts, refl, is, are),
      subst (InTime query) (append_assoc body (step ∷ []) more)
          all_early,
      subst (λ b. Walks end (AfterBody query b) last) (append_assoc body (step ∷ []) more) final,
    )
later_body (suc k) end query body (t ∷ ts) within early (inl (inr (inl (same, at)))) = (
  [],
  [],
  ts,
  (λ i. same i ∷ ts),
  refl,
  subst (InTime query) (sym (append-nil body)) early,
  subst (λ b. Walks end (AfterBody query b) ts)
      (sym (append-nil body)) at,
)
later_body (suc k) end query body (t ∷ ts) within early (inl (inr (inr none))) = absurd none
later_body (suc k) end query body (t ∷ ts) within early (inr none) = absurd none

abbrev SomeBody : Command → Query → List Token → Type 0
SomeBody end query tokens = (body : List BodyStep) × (text : List Token) × (rest : List Token) × (tokens ≡ text ++ closing ∷ rest)
    × (AreBodySteps body (dot ∷ text)) × InTime query body × Walks end (AfterBody query body) rest

some_body : (end : Command) (query : Query) (tokens : List Token) → NamedStep end query [] tokens → SomeBody end query tokens
some_body end query tokens (step, text, rest, whole, is, early, later) =
    let (more, texts, last, wholes, are, all_early, final) = later_body (length rest) end query (step ∷ []) rest (omega arith) early later in
    let all : tokens ≡ (text ++ texts) ++ closing ∷ last = whole ∙ ap (λ (r : List Token). text ++ r) wholes ∙ sym (append_assoc text texts (closing ∷ last)) in
    (step ∷ more, text ++ texts, last, all, (text, texts, refl, is, are), all_early, final)

abbrev FirstBody : Command → Query → List Token → Type 0
FirstBody end query tokens = (front : List Token) × (body : List BodyStep) × (text : List Token) × (rest : List Token)
    × (tokens ≡ front ++ (text ++ (closing ∷ rest))) × IsAnonymous front × (AreBodySteps body (dot ∷ text)) × InTime query body
    × Walks end (AfterBody query body) rest

first_body : (end : Command) (query : Query) (tokens : List Token) → Walks end (BodyFirst query) tokens → FirstBody end query tokens
first_body end query [] walks = cc
first_body end query (t ∷ ts) (inl (inl (same, at))) =
    let (one, dots, later) = next_is end (AfterAnonymous query) (BodyName query []) dot refl (λ u us at. only at) ts at in
    let (body, text, rest, whole, are, early, last) = some_body end query one (next_step end query [] one later) in
    (word (codes "__") ∷ dot ∷ [], body, text, rest, (λ i. same i ∷ and_then dots whole i), inr refl, are, early, last)
first_body end query (t ∷ ts) (inl (inr none)) = absurd none
first_body end query (t ∷ ts) (inr other) =
    let (body, text, rest, whole, are, early, last) = some_body end query (t ∷ ts) (named_step end query [] t ts other) in
    ([], body, text, rest, whole, inl refl, are, early, last)

times_of : (end : Command) (query : Query) (body : List BodyStep) (tokens : List Token) → Walks end (TimesOf query body) tokens → (times : ℕ)
    × Next end (Whole (Times times)) (Closing query (steps.Repeat body times)) tokens
times_of end query body [] walks = cc
times_of end query body (t ∷ ts) (inl none) = absurd none
times_of end query body (t ∷ ts) (inr (times, allows, same, later)) = (times, (ts, (λ i. same i ∷ ts), later))

pub closing_walk : (end : Command) (query : Query) (step : Step) (tokens : List Token) → Walks end (Closing query step) tokens
    → Next end closing (Steps (with_step query step)) tokens
closing_walk end query step tokens walks = next_is end (Closing query step) (Steps (with_step query step)) closing refl (λ t ts at. only at) tokens walks

times_walk : (end : Command) (query : Query) (body : List BodyStep) (tokens : List Token) → Walks end (AfterBody query body) tokens → (times : ℕ)
    × (rest : List Token) × (tokens ≡ (dot ∷ call (codes "times") (Whole (Times times) ∷ [])) ++ rest)
    × Walks end (Steps (with_step query (steps.Repeat body times))) rest
times_walk end query body tokens walks =
    let (one, dots, at) = next_is end (AfterBody query body) (TimesWord query body) dot refl (λ t ts at. only at) tokens walks in
    let (two, word_is, later) = next_is end (TimesWord query body) (OpensTimes query body) (word (codes "times")) refl
    (λ t ts at. let (none, allows, same, last) = only_other at in (same, last)) one at in
    let (three, opens, last) = next_is end (OpensTimes query body) (TimesOf query body) opening refl (λ t ts at. only at) two later in
    let (times, (four, is, more)) = times_of end query body three last in
    let (five, closes, rest) = closing_walk end query (steps.Repeat body times) four more in
    (times, five, and_then dots (and_then word_is (and_then opens (and_then is closes))), rest)

regroup : (front text tail rest : List Token) → (((front ++ text) ++ closing ∷ []) ++ tail) ++ rest ≡ front ++ (text ++ (closing ∷ (tail ++ rest)))
regroup front text tail rest = append_assoc ((front ++ text) ++ closing ∷ []) tail rest ∙ append_assoc (front ++ text) (closing ∷ []) (tail ++ rest)
    ∙ append_assoc front text (closing ∷ (tail ++ rest))

abbrev pub NextRepeat : Command → Query → List Token → Type 0
NextRepeat end query tokens = (body : List BodyStep) × (times : ℕ) × (text : List Token) × (rest : List Token) × (tokens ≡ text ++ rest)
    × IsRepeat body times (word (codes "repeat") ∷ opening ∷ text) × InTime query body × Walks end (Steps (with_step query (steps.Repeat body times))) rest

pub repeat_walk : (end : Command) (query : Query) (tokens : List Token) → Walks end (BodyFirst query) tokens → NextRepeat end query tokens
repeat_walk end query tokens walks =
    let (front, body, text, one, whole, anonymous, are, early, at) = first_body end query tokens walks in
    let (times, rest, is, later) = times_walk end query body one at in
    let tail : List Token = dot ∷ call (codes "times") (Whole (Times times) ∷ []) in
    let all : tokens ≡ (((front ++ text) ++ closing ∷ []) ++ tail) ++ rest = whole ∙ ap (λ (r : List Token). front ++ (text ++ (closing ∷ r))) is
    ∙ sym (regroup front text tail rest) in
    (body, times, ((front ++ text) ++ closing ∷ []) ++ tail, rest, all, (front, text, anonymous, are, refl), early, later)

-- ---- orders

sort_named : (letters : List ℕ) → InTable (letters, tt) (plain sort_names) → sort_name (is_descending letters) ≡ letters
sort_named letters (inl same) = subst (λ (e : Entry (Unit {0})). sort_name (is_descending e.0) ≡ e.0) (sym same) refl
sort_named letters (inr (inl same)) = subst (λ (e : Entry (Unit {0})). sort_name (is_descending e.0) ≡ e.0) (sym same) refl
sort_named letters (inr (inr none)) = absurd none

abbrev NextDirection : Command → Query → Option (List ℕ) → List Token → Type 0
NextDirection end query key tokens = (descending : Bool) × (text : List Token) × (rest : List Token) × (tokens ≡ text ++ rest) × IsDirection descending text
    × Walks end (ByCloses query key descending) rest

direction_walk : (end : Command) (query : Query) (key : Option (List ℕ)) (t : Token) (ts : List Token)
    → OtherWalk (direction_of query key) (SomeFree (t ∷ ts)) (λ next. Walks end next ts) t → NextDirection end query key (t ∷ ts)
direction_walk end query key t ts (inl (letters, within, same, later)) =
    let name : t ≡ word (sort_name (is_descending letters)) = same ∙ ap (λ (l : List ℕ). word l) (sym (sort_named letters within)) in
    (is_descending letters, word (sort_name (is_descending letters)) ∷ [], ts, (λ i. name i ∷ ts), inl refl, later)
direction_walk end query key t ts (inr (none, allows, same, later)) =
    let (one, dots, at) = next_is end (AfterOrderWord query key) (DirectionName query key) dot refl (λ u us at. only at) ts later in
    let (letters, within, (two, is, last)) = named one at in
    let name : word letters ≡ word (sort_name (is_descending letters)) = ap (λ (l : List ℕ). word l) (sym (sort_named letters within)) in (
      is_descending letters,
      word (codes "Order") ∷ dot ∷ word (sort_name (is_descending letters)) ∷ [],
      two,
      (λ i. same i ∷ and_then dots
          (is ∙ (λ j. name j ∷ two)) i),
      inr refl,
      last,
    )
  where
    named : (tokens : List Token) → Walks end (DirectionName query key) tokens → (letters : List ℕ) × InTable (letters, tt) (plain sort_names)
        × Next end (word letters) (ByCloses query key (is_descending letters)) tokens
    named [] walks = cc
    named (u ∷ us) (inl none) = absurd none
    named (u ∷ us) (inr (letters, within, same, later)) = (letters, within, (us, (λ i. same i ∷ us), later))

abbrev NextBy : Command → Query → List Token → Type 0
NextBy end query tokens = (key : Option (List ℕ)) × (descending : Bool) × (text : List Token) × (rest : List Token) × (tokens ≡ (text ++ closing ∷ []) ++ rest)
    × IsBy key descending text × Walks end (Steps (reordered query key descending)) rest

-- the parenthesis after a direction
directed : (end : Command) (query : Query) (key : Option (List ℕ)) (tokens : List Token) → NextDirection end query key tokens → (descending : Bool)
    × (text : List Token) × (rest : List Token) × (tokens ≡ (text ++ closing ∷ []) ++ rest) × IsDirection descending text
    × Walks end (Steps (reordered query key descending)) rest
directed end query key tokens (descending, text, one, whole, is, at) =
    let (rest, closes, later) = next_is end (ByCloses query key descending) (Steps (reordered query key descending)) closing refl (λ u us at. only at) one at in
    (descending, text, rest, whole ∙ ap (λ (r : List Token). text ++ r) closes ∙ sym (append_assoc text (closing ∷ []) rest), is, later)

keyed_by : (end : Command) (query : Query) (key : List ℕ) (tokens rest : List Token) → tokens ≡ Quoted key ∷ rest → Walks end (AfterOrderKey query key) rest
    → NextBy end query tokens
keyed_by end query key tokens [] whole walks = cc
keyed_by end query key tokens (t ∷ []) whole (inl (inl (same, at))) = cc
keyed_by end query key tokens (t ∷ u ∷ us) whole (inl (inl (same, at))) =
    let (descending, text, rest, all, is, later) = directed end query (Some key) (u ∷ us) (direction_walk end query (Some key) u us (only_other at)) in
    (Some key, descending, Quoted key ∷ comma ∷ text, rest, and_then whole (λ i. same i ∷ all i), inr (text, is, refl), later)
keyed_by end query key tokens (t ∷ ts) whole (inl (inr (inl (same, at)))) =
    (Some key, false, Quoted key ∷ [], ts, and_then whole (λ i. same i ∷ ts), inl (refl, refl), at)
keyed_by end query key tokens (t ∷ ts) whole (inl (inr (inr none))) = absurd none
keyed_by end query key tokens (t ∷ ts) whole (inr none) = absurd none

by_walk : (end : Command) (query : Query) (tokens : List Token) → Walks end (ByFirst query) tokens → NextBy end query tokens
by_walk end query [] walks = cc
by_walk end query (t ∷ ts) (inl (inl (same, at))) = (None, false, [], ts, (λ i. same i ∷ ts), inl (refl, refl), at)
by_walk end query (t ∷ ts) (inl (inr (inl (name, same, later)))) = keyed_by end query name (t ∷ ts) ts (λ i. same i ∷ ts) later
by_walk end query (t ∷ ts) (inl (inr (inr (inl (name, same, later))))) = keyed_by end query name (t ∷ ts) ts (λ i. same i ∷ ts) later
by_walk end query (t ∷ ts) (inl (inr (inr (inr none)))) = absurd none
by_walk end query (t ∷ ts) (inr other) =
    let (descending, text, rest, all, is, later) = directed end query None (t ∷ ts) (direction_walk end query None t ts other) in
    (None, descending, text, rest, all, inr is, later)

-- After an order stands its `by`, or what stands after any step.
ordered_walk : (end : Command) (query : Query) (tokens : List Token) → Walks end (Ordered query) tokens → Walks end (Steps query) tokens
    ⊎ ((rest : List Token) × (tokens ≡ dot ∷ word (codes "by") ∷ rest) × Walks end (Opens query words.By) rest)
ordered_walk end query [] walks = inl walks
ordered_walk end query (t ∷ []) (inl (inl (same, at))) = cc
ordered_walk end query (t ∷ u ∷ us) (inl (inl (same, inl none))) = absurd none
ordered_walk end query (t ∷ u ∷ us) (inl (inl (same, inr (entry, inl by, is, free, later)))) =
    let name : u ≡ word (codes "by") = is ∙ ap (λ (e : Entry StepWord). word e.0) by in
    inr (us, (λ i. same i ∷ name i ∷ us), subst (λ (e : Entry StepWord). Walks end (Opens query e.1) us) by later)
ordered_walk end query (t ∷ u ∷ us) (inl (inl (same, inr (entry, inr within, is, free, later)))) = inl (inl (inl (same, inr (entry, within, is, free, later))))
ordered_walk end query (t ∷ ts) (inl (inr none)) = absurd none
ordered_walk end query (t ∷ ts) (inr none) = absurd none

abbrev pub NextOrder : Command → Query → List Token → Type 0
NextOrder end query tokens = (key : Option (List ℕ)) × (descending : Bool) × (text : List Token) × (rest : List Token) × (tokens ≡ text ++ rest)
    × IsOrder key descending (word (codes "order") ∷ opening ∷ text) × Walks end (Steps (with_step query (steps.Order key descending))) rest

pub order_walk : (end : Command) (query : Query) (tokens : List Token) → Walks end (OrderCloses query) tokens → NextOrder end query tokens
order_walk end query tokens walks =
    let (one, closes, at) = next_is end (OrderCloses query) (Ordered (with_step query plain_order)) closing refl (λ t ts at. only at) tokens walks in
    here one closes (ordered_walk end (with_step query plain_order) one at)
  where
    here : (one : List Token) → tokens ≡ closing ∷ one → Walks end (Steps (with_step query plain_order)) one
        ⊎ ((rest : List Token) × (one ≡ dot ∷ word (codes "by") ∷ rest) × Walks end (Opens (with_step query plain_order) words.By) rest)
        → NextOrder end query tokens
    here one closes (inl later) = (None, false, closing ∷ [], one, closes, inl (refl, refl, refl), later)
    here one closes (inr (two, by, later)) =
        let (three, opens, at) = next_is end (Opens (with_step query plain_order) words.By) (ByFirst (with_step query plain_order)) opening refl
        (λ t ts at. only at) two later in
        let (key, descending, text, rest, whole, is, last) = by_walk end (with_step query plain_order) three at in
        let put = replace_last-append query.steps plain_order (steps.Order key descending) in (
          key,
          descending,
          closing ∷ dot ∷ word (codes "by") ∷ opening ∷ text ++ closing ∷ [],
          rest,
          and_then closes
              (by ∙ (λ i. dot ∷ word (codes "by") ∷ and_then opens whole i)),
          inr (text, is, refl),
          subst (λ l. Walks end (Steps (record query { steps = l }))
              rest) put last,
        )
