-- Queries: what may stand at each place, and the query and the change that what stands before it
-- makes.
use Rattle.std.specs.Prelude.{◌≡◌, ◌≢◌, ℕ, ◌+◌, ◌-◌, Bool, true, false, cond, Option, Some, None}
use Rattle.std.specs.Prelude.{unwrap_or, List, [], ◌∷◌, ◌++◌, length, take, map, codes}
use Rattle.plain_graph.specs.declared.command.Command.{Command}
use Rattle.plain_graph.specs.declared.command.Command.TheVariants as commands
use Rattle.plain_graph.specs.declared.direction.Direction.{Direction}
use Rattle.plain_graph.specs.declared.direction.Direction.TheVariants as directions
use Rattle.plain_graph.specs.declared.filter.Filter.{Filter}
use Rattle.plain_graph.specs.declared.filter.Filter.TheVariants as filters
use Rattle.plain_graph.specs.declared.filter.Relation.{Relation}
use Rattle.plain_graph.specs.declared.filter.Relation.TheVariants as relations
use Rattle.plain_graph.specs.declared.mutation.Mutation.{Mutation}
use Rattle.plain_graph.specs.declared.mutation.Mutation.TheVariants as mutations
use Rattle.plain_graph.specs.declared.pairs.Pair.{Pair}
use Rattle.plain_graph.specs.declared.query.BodyStep.{BodyStep}
use Rattle.plain_graph.specs.declared.query.BodyStep.TheVariants as bodies
use Rattle.plain_graph.specs.declared.query.Query.{Query}
use Rattle.plain_graph.specs.declared.query.Source.{Source}
use Rattle.plain_graph.specs.declared.query.Source.TheVariants as origins
use Rattle.plain_graph.specs.declared.query.Step.{Step}
use Rattle.plain_graph.specs.declared.query.Step.TheVariants as steps
use Rattle.plain_graph.specs.declared.value.Value.{Value}
use Rattle.gremlin_parse.specs.Grammar.{most_id, most_limit}
use Rattle.gremlin_parse.specs.Keywords.{Entry, lookup}
use Rattle.gremlin_parse.specs.Symbols.{Sign, OneWord, AnyClosed, AnyNumber, AnyTimes, AnyValue}
use Rattle.gremlin_parse.specs.Stages.{are_elements, first_items, is_by, items_from, late_fault}
use Rattle.gremlin_parse.specs.Stages.{stage_of, step_fault, steps_of}
use Rattle.gremlin_parse.specs.Stopping.{Bads, IsStop, StopsWith}
use Rattle.gremlin_parse.specs.Turns.{Other, Nothing, Words, Token, Either, Turn, LineFrom}
use Rattle.gremlin_parse.specs.Turns.{BadFrom, BadLoosely, KeptFrom, Leads, Loosely, Reaches}
use Rattle.gremlin_parse.specs.Turns.{sign_at}
use Rattle.gremlin_parse.specs.declared.step_word.BareStep.{BareStep}
use Rattle.gremlin_parse.specs.declared.step_word.BareStep.TheVariants as bare
use Rattle.gremlin_parse.specs.declared.step_word.BodyWord.{BodyWord}
use Rattle.gremlin_parse.specs.declared.step_word.BodyWord.TheVariants as of_body
use Rattle.gremlin_parse.specs.declared.source.SourceKind.{SourceKind}
use Rattle.gremlin_parse.specs.declared.source.SourceKind.TheVariants as sources
use Rattle.gremlin_parse.specs.declared.step_word.ChangeWord.TheVariants as changes
use Rattle.gremlin_parse.specs.declared.step_word.NamesStep.{NamesStep}
use Rattle.gremlin_parse.specs.declared.step_word.NamesStep.TheVariants as of_names
use Rattle.gremlin_parse.specs.declared.step_word.StepWord.{StepWord}
use Rattle.gremlin_parse.specs.declared.step_word.StepWord.TheVariants as words
use Rattle.gremlin_parse.specs.declared.stop.Stop.{Stop}

-- the names of steps
abbrev pub step_words : List (Entry StepWord)
step_words =
    (codes "out", words.Body (of_body.Neighbours directions.Outgoing))
    ∷ (codes "in", words.Body (of_body.Neighbours directions.Incoming))
    ∷ (codes "both", words.Body (of_body.Neighbours directions.Both))
    ∷ (codes "outE", words.Names (of_names.Incident directions.Outgoing))
    ∷ (codes "inE", words.Names (of_names.Incident directions.Incoming))
    ∷ (codes "bothE", words.Names (of_names.Incident directions.Both))
    ∷ (codes "values", words.Names of_names.Values) ∷ (codes "elementMap", words.ElementMap)
    ∷ (codes "hasLabel", words.Body of_body.HasLabel) ∷ (codes "has", words.Body of_body.Has)
    ∷ (codes "outV", words.Bare bare.OutV) ∷ (codes "inV", words.Bare bare.InV)
    ∷ (codes "id", words.Bare bare.Id) ∷ (codes "label", words.Bare bare.Label)
    ∷ (codes "dedup", words.Bare bare.Dedup) ∷ (codes "count", words.Bare bare.Count)
    ∷ (codes "limit", words.Limit) ∷ (codes "order", words.Order)
    ∷ (codes "repeat", words.Repeat) ∷ (codes "addE", words.Change changes.AddE)
    ∷ (codes "property", words.Change changes.Property)
    ∷ (codes "drop", words.Change changes.Drop) ∷ []

-- what may stand after the dot after an order without a `by`
abbrev pub ordered_words : List (Entry StepWord)
ordered_words = (codes "by", words.By) ∷ step_words

-- the names that may stand after the dot, after such an order or not
abbrev pub words_after : Bool → List (Entry StepWord)
words_after is_ordered = cond is_ordered ordered_words step_words

-- the name that may stand after the dot after a step that changes the graph
abbrev pub property_words : List (Entry StepWord)
property_words = (codes "property", words.Change changes.Property) ∷ []

-- whether the order is descending, by the words for it
abbrev pub sort_words : List (Entry Bool)
sort_words = (codes "asc", false) ∷ (codes "desc", true) ∷ []

-- the words for the direction of an order
abbrev pub sort_names : List (List ℕ)
sort_names = codes "asc" ∷ codes "desc" ∷ []

-- the word for a direction
abbrev pub sort_name : Bool → List ℕ
sort_name descending = cond descending (codes "desc") (codes "asc")

-- what one of the words stands for
abbrev pub is_descending : List ℕ → Bool
is_descending word = unwrap_or (lookup sort_words word) false

-- the names of the steps of a body
abbrev pub body_words : List (Entry BodyWord)
body_words =
    (codes "out", of_body.Neighbours directions.Outgoing)
    ∷ (codes "in", of_body.Neighbours directions.Incoming)
    ∷ (codes "both", of_body.Neighbours directions.Both)
    ∷ (codes "hasLabel", of_body.HasLabel) ∷ (codes "has", of_body.Has) ∷ []

-- a word of a body among the words of steps
abbrev pub as_step_word : Entry BodyWord → Entry StepWord
as_step_word entry = (entry.0, words.Body entry.1)

-- what one of the words of a body stands for
abbrev pub body_word_of : StepWord → BodyWord
body_word_of (words.Body word) = word
body_word_of _ = of_body.Has

-- how a value compares, by the words for it
abbrev pub relation_words : List (Entry Relation)
relation_words =
    (codes "eq", relations.Eq) ∷ (codes "neq", relations.Neq) ∷ (codes "gt", relations.Gt)
    ∷ (codes "gte", relations.Gte) ∷ (codes "lt", relations.Lt) ∷ (codes "lte", relations.Lte) ∷ []

abbrev pub relation_names : List (List ℕ)
relation_names =
    codes "eq" ∷ codes "neq" ∷ codes "gt" ∷ codes "gte" ∷ codes "lt" ∷ codes "lte" ∷ []

abbrev pub relation_name : Relation → List ℕ
relation_name relations.Eq = codes "eq"
relation_name relations.Neq = codes "neq"
relation_name relations.Gt = codes "gt"
relation_name relations.Gte = codes "gte"
relation_name relations.Lt = codes "lt"
relation_name relations.Lte = codes "lte"

-- what one of the words stands for
abbrev pub relation_of : List ℕ → Relation
relation_of word = unwrap_or (lookup relation_words word) relations.Eq

abbrev pub bare_step : BareStep → Step
bare_step bare.OutV = steps.OutV
bare_step bare.InV = steps.InV
bare_step bare.Id = steps.Id
bare_step bare.Label = steps.Label
bare_step bare.Dedup = steps.Dedup
bare_step bare.Count = steps.Count

-- the step with these names
abbrev pub names_step : NamesStep → List (List ℕ) → Step
names_step (of_names.Incident direction) names =
    steps.Incident (record { direction = direction; labels = names })
names_step of_names.Values names = steps.Values names

-- a step of a body as one of a query
abbrev pub step_of : BodyStep → Step
step_of (bodies.Neighbours hop) = steps.Neighbours hop
step_of (bodies.Filter filter) = steps.Filter filter

-- What the arguments of a step are read for: a query, or the body of a repeat in it, each with the
-- steps before this one.
pub data Into : Type 0 where
  OfQuery : (query : Query) → Into
  OfBody : (query : Query) → (body : List BodyStep) → Into

-- What names are read for: a step of a query alone, the maps of its elements, a hop, or labels.
pub data NamesFor : Type 0 where
  OfStep : (query : Query) → (step : NamesStep) → NamesFor
  OfMaps : (query : Query) → NamesFor
  OfHop : (into : Into) → (direction : Direction) → NamesFor
  OfLabels : (into : Into) → NamesFor

-- A label is written after hasLabel; the others may have no name.
abbrev pub needs_name : NamesFor → Bool
needs_name (OfStep query step) = false
needs_name (OfMaps query) = false
needs_name (OfHop into direction) = false
needs_name (OfLabels into) = true

-- What properties are written for: a new vertex, a new edge from each vertex of a query to this
-- one, or each element of a query.
pub data Subject : Type 0 where
  NewVertex : (label : List ℕ) → Subject
  NewEdges : (query : Query) → (label : List ℕ) → (to : ℕ) → Subject
  Elements : (query : Query) → Subject

-- What a key and its value are read for: a property of a change after others, or a source after
-- its label.
pub data PairFor : Type 0 where
  OfChange : (subject : Subject) → (pairs : List Pair) → PairFor
  OfSource : (label : List ℕ) → PairFor

-- What a name between quotes is read for: one of the names of a step, the key of `has` or of an
-- order, the label of a new vertex, the type of new edges, the label of the nodes that are found,
-- or the key of a pair.
pub data Quoted : Type 0 where
  OneName : (purpose : NamesFor) → (names : List (List ℕ)) → Quoted
  Key : (into : Into) → Quoted
  OrderKey : (query : Query) → Quoted
  VertexLabel : Quoted
  EdgeType : (query : Query) → Quoted
  FoundLabel : Quoted
  PairKey : (purpose : PairFor) → Quoted

-- A place of a query, with what was read before it.
pub data Place : Type 0 where
  Start : Place
  SourceName : Place
  Opening : (kind : SourceKind) → Place
  FirstId : (edges : Bool) → Place
  AfterId : (edges : Bool) → (ids : List ℕ) → Place
  NextId : (edges : Bool) → (ids : List ℕ) → Place
  Steps : (query : Query) → Place
  StepName : (query : Query) → Place
  Opens : (query : Query) → (word : StepWord) → Place
  Closing : (query : Query) → (step : Step) → Place
  FirstName : (purpose : NamesFor) → Place
  AfterName : (purpose : NamesFor) → (names : List (List ℕ)) → Place
  AfterKey : (into : Into) → (key : List ℕ) → Place
  ValueOf : (into : Into) → (key : List ℕ) → Place
  AfterP : (into : Into) → (key : List ℕ) → Place
  RelationName : (into : Into) → (key : List ℕ) → Place
  OpensValue : (into : Into) → (key : List ℕ) → (relation : Relation) → Place
  Compared : (into : Into) → (key : List ℕ) → (relation : Relation) → Place
  ClosesValue : (into : Into) → (filter : Filter) → Place
  ClosesFilter : (into : Into) → (filter : Filter) → Place
  Most : (query : Query) → Place
  OrderCloses : (query : Query) → Place
  Ordered : (query : Query) → Place
  OrderedName : (query : Query) → Place
  ByFirst : (query : Query) → Place
  AfterOrderKey : (query : Query) → (key : List ℕ) → Place
  OrderDirection : (query : Query) → (key : Option (List ℕ)) → Place
  AfterOrderWord : (query : Query) → (key : Option (List ℕ)) → Place
  DirectionName : (query : Query) → (key : Option (List ℕ)) → Place
  ByCloses : (query : Query) → (key : Option (List ℕ)) → (descending : Bool) → Place
  Quote : (quoted : Quoted) → Place
  InQuotes : (quoted : Quoted) → (double : Bool) → Place
  BodyFirst : (query : Query) → Place
  Underscore : (query : Query) → Place
  AfterAnonymous : (query : Query) → Place
  BodyName : (query : Query) → (body : List BodyStep) → Place
  OpensBody : (query : Query) → (body : List BodyStep) → (word : BodyWord) → Place
  InBody : (query : Query) → (body : List BodyStep) → Place
  AfterBody : (query : Query) → (body : List BodyStep) → Place
  TimesWord : (query : Query) → (body : List BodyStep) → Place
  OpensTimes : (query : Query) → (body : List BodyStep) → Place
  TimesOf : (query : Query) → (body : List BodyStep) → Place
  AfterFoundLabel : (label : List ℕ) → Place
  VertexCloses : (label : List ℕ) → Place
  TypeCloses : (query : Query) → (label : List ℕ) → Place
  AfterType : (query : Query) → (label : List ℕ) → Place
  ToWord : (query : Query) → (label : List ℕ) → Place
  OpensTo : (query : Query) → (label : List ℕ) → Place
  ToFirst : (query : Query) → (label : List ℕ) → Place
  ToUnderscore : (query : Query) → (label : List ℕ) → Place
  ToAnonymous : (query : Query) → (label : List ℕ) → Place
  ToVertex : (query : Query) → (label : List ℕ) → Place
  OpensId : (query : Query) → (label : List ℕ) → Place
  ToId : (query : Query) → (label : List ℕ) → Place
  IdCloses : (query : Query) → (label : List ℕ) → (to : ℕ) → Place
  ToCloses : (query : Query) → (label : List ℕ) → (to : ℕ) → Place
  DropCloses : (query : Query) → Place
  Dropped : (query : Query) → Place
  Changed : (subject : Subject) → (pairs : List Pair) → Place
  PropertyName : (subject : Subject) → (pairs : List Pair) → Place
  OpensProperty : (subject : Subject) → (pairs : List Pair) → Place
  AfterPairKey : (purpose : PairFor) → (key : List ℕ) → Place
  PairValue : (purpose : PairFor) → (key : List ℕ) → Place
  PairCloses : (purpose : PairFor) → (key : List ℕ) → (value : Value) → Place

-- the vertices or edges of these identifiers
abbrev pub elements_of : Bool → List ℕ → Source
elements_of edges ids = cond edges (origins.Edges ids) (origins.Vertices ids)

abbrev pub query_of : Source → List Step → Option (List (List ℕ)) → Query
query_of source list maps = record { source = source; steps = list; maps = maps }

abbrev pub query_from : Source → Query
query_from source = query_of source [] None

-- the query with these steps
abbrev pub with_steps : Query → List Step → Query
with_steps query list = query_of query.source list query.maps

-- the query with one step more
abbrev pub with_step : Query → Step → Query
with_step query step = with_steps query (query.steps ++ step ∷ [])

-- the query whose elements are shown as maps of these keys
abbrev pub with_maps : Query → List (List ℕ) → Query
with_maps query keys = query_of query.source query.steps (Some keys)

-- The query that was read: maps are shown of elements, and of values none.
abbrev pub shown : Query → Query
shown query =
    query_of query.source query.steps
    (cond (are_elements (items_from (first_items query.source) query.steps)) query.maps None)

-- after a step of a query or of a body
abbrev pub after_step : Into → BodyStep → Place
after_step (OfQuery query) step = Steps (with_step query (step_of step))
after_step (OfBody query body) step = InBody query (body ++ step ∷ [])

-- after a filter
abbrev pub after_filter : Into → Filter → Place
after_filter into filter = after_step into (bodies.Filter filter)

-- after the names of a step and the parenthesis
abbrev pub after_names : NamesFor → List (List ℕ) → Place
after_names (OfStep query step) names = Steps (with_step query (names_step step names))
after_names (OfMaps query) names = Steps (with_maps query names)
after_names (OfHop into direction) names =
    after_step into (bodies.Neighbours (record { direction = direction; labels = names }))
after_names (OfLabels into) names = after_filter into (filters.HasLabel names)

-- after the parenthesis of a step with names
abbrev pub opened_names : NamesFor → Place
opened_names purpose = cond (needs_name purpose) (Quote (OneName purpose [])) (FirstName purpose)

-- after the parenthesis of a step of a query or of a body
abbrev pub opened_body : Into → BodyWord → Place
opened_body into (of_body.Neighbours direction) = opened_names (OfHop into direction)
opened_body into of_body.HasLabel = opened_names (OfLabels into)
opened_body into of_body.Has = Quote (Key into)

-- the list with this step in place of its last one
abbrev pub replace_last : List Step → Step → List Step
replace_last list step = take (length list - 1) list ++ step ∷ []

-- an order without a `by`
abbrev pub plain_order : Step
plain_order = steps.Order None false

-- the query with this order in place of its last step
abbrev pub reordered : Query → Option (List ℕ) → Bool → Query
reordered query key descending =
    with_steps query (replace_last query.steps (steps.Order key descending))

-- the query whose elements a change is for, if it begins with one
abbrev pub reading_of : Subject → Option Query
reading_of (NewVertex label) = None
reading_of (NewEdges query label to) = Some query
reading_of (Elements query) = Some query

-- the change that has these properties
abbrev pub mutation_of : Subject → List Pair → Mutation
mutation_of (NewVertex label) pairs = mutations.AddV label pairs
mutation_of (NewEdges query label to) pairs = mutations.AddE label to pairs
mutation_of (Elements query) pairs = mutations.Property pairs

-- what a line with these properties asks for
abbrev pub changed : Subject → List Pair → Command
changed subject pairs = commands.Mutate (reading_of subject) (mutation_of subject pairs)

-- How many steps are before the first property: `addV` and `to` are no steps.
abbrev pub steps_before : Subject → ℕ
steps_before (NewVertex label) = 0
steps_before (NewEdges query label to) = steps_of query + 1
steps_before (Elements query) = steps_of query

-- the pairs with one more
abbrev pub with_pair : List Pair → List ℕ → Value → List Pair
with_pair pairs key value = pairs ++ record { key = key; value = value } ∷ []

-- after a key and its value
abbrev pub after_pair : PairFor → List ℕ → Value → Place
after_pair (OfChange subject pairs) key value = Changed subject (with_pair pairs key value)
after_pair (OfSource label) key value = Steps (query_from (origins.Found label key value))

-- after the parenthesis of what a query begins with
abbrev pub opened_source : SourceKind → Place
opened_source sources.Vertices = FirstId false
opened_source sources.Edges = FirstId true
opened_source sources.NewVertex = Quote VertexLabel
opened_source sources.Found = Quote FoundLabel

-- after the parenthesis of a step, or of the `by` of an order
abbrev pub opened : Query → StepWord → Place
opened query (words.Bare bare) = Closing query (bare_step bare)
opened query (words.Names step) = opened_names (OfStep query step)
opened query (words.Body word) = opened_body (OfQuery query) word
opened query words.ElementMap = opened_names (OfMaps query)
opened query words.Limit = Most query
opened query words.Order = OrderCloses query
opened query words.By = ByFirst query
opened query words.Repeat = BodyFirst query
opened query (words.Change changes.AddE) = Quote (EdgeType query)
opened query (words.Change changes.Property) = Quote (PairKey (OfChange (Elements query) []))
opened query (words.Change changes.Drop) = DropCloses query

-- how many steps are before the next one of a body: those of the query, the repeat and the body's
abbrev pub count_before : Query → List BodyStep → ℕ
count_before query body = steps_of query + 1 + length body

-- after a name and its closing quote
abbrev pub after_quoted : Quoted → List ℕ → Place
after_quoted (OneName purpose names) name = AfterName purpose (names ++ name ∷ [])
after_quoted (Key into) name = AfterKey into name
after_quoted (OrderKey query) name = AfterOrderKey query name
after_quoted VertexLabel name = VertexCloses name
after_quoted (EdgeType query) name = TypeCloses query name
after_quoted FoundLabel name = AfterFoundLabel name
after_quoted (PairKey purpose) name = AfterPairKey purpose name

abbrev pub value_filter : List ℕ → Value → Filter
value_filter key value = filters.HasValue key relations.Eq value

-- the elements whose value of the key compares so with this one
abbrev pub relation_filter : List ℕ → Relation → Value → Filter
relation_filter key relation value = filters.HasValue key relation value

-- one of these signs alone
abbrev pub one_of : List (ℕ × Place) → Turn StepWord Place Command
one_of signs = record { ends = None; signs = signs; other = Nothing }

-- a direction of an order: one of its two words, alone or after Order and a dot
abbrev pub direction_of : Query → Option (List ℕ) → Other StepWord Place
direction_of query key =
    Either
    (Token (OneWord sort_names) (λ word. ByCloses query key (is_descending word)))
    (Token (Sign (codes "Order")) (λ _. AfterOrderWord query key))

-- a word for what a query begins with, where no sign stands for it
abbrev pub named_source : Other StepWord Place
named_source =
    Either
    (Token (Sign (codes "find")) (λ _. Opening sources.Found))
    (Token (Sign (codes "addV")) (λ _. Opening sources.NewVertex))

-- What may stand in a body with these steps before: the name of a step, and nothing else.
abbrev pub body_name : Query → List BodyStep → Other StepWord Place
body_name query body =
    Words (map as_step_word body_words) (λ _ _. late_fault (count_before query body))
    (λ word. OpensBody query body (body_word_of word))

-- What may stand at each place. The signs are . (46), V (86), E (69), P (80), ( (40), ) (41),
-- , (44), _ (95) and the two quotes (39 and 34).
abbrev pub turn : Place → Turn StepWord Place Command
turn Start = one_of ((46, SourceName) ∷ [])
turn SourceName =
    record {
      ends = None;
      signs = (86, Opening sources.Vertices) ∷ (69, Opening sources.Edges) ∷ [];
      other = named_source;
    }
turn (Opening kind) = one_of ((40, opened_source kind) ∷ [])
turn (FirstId edges) =
    record {
      ends = None;
      signs = (41, Steps (query_from (elements_of edges []))) ∷ [];
      other = Token (AnyNumber most_id) (λ id. AfterId edges (id ∷ []));
    }
turn (AfterId edges ids) =
    one_of ((44, NextId edges ids) ∷ (41, Steps (query_from (elements_of edges ids))) ∷ [])
turn (NextId edges ids) =
    record {
      ends = None;
      signs = [];
      other = Token (AnyNumber most_id) (λ id. AfterId edges (ids ++ id ∷ []));
    }
turn (Steps query) =
    record {
      ends = Some (commands.Query (shown query));
      signs = (46, StepName query) ∷ [];
      other = Nothing;
    }
turn (StepName query) =
    record {
      ends = None;
      signs = [];
      other = Words step_words (step_fault (stage_of query)) (Opens query);
    }
turn (Opens query word) = one_of ((40, opened query word) ∷ [])
turn (Closing query step) = one_of ((41, Steps (with_step query step)) ∷ [])
turn (FirstName purpose) =
    one_of
    ((41, after_names purpose []) ∷ (39, InQuotes (OneName purpose []) false)
    ∷ (34, InQuotes (OneName purpose []) true) ∷ [])
turn (AfterName purpose names) =
    one_of ((44, Quote (OneName purpose names)) ∷ (41, after_names purpose names) ∷ [])
turn (AfterKey into key) =
    one_of ((44, ValueOf into key) ∷ (41, after_filter into (filters.Has key)) ∷ [])
turn (ValueOf into key) =
    record {
      ends = None;
      signs = (80, AfterP into key) ∷ [];
      other =
          Either
          (Token (OneWord relation_names) (λ word. OpensValue into key (relation_of word)))
          (Token AnyValue (λ value. ClosesFilter into (value_filter key value)));
    }
turn (AfterP into key) = one_of ((46, RelationName into key) ∷ [])
turn (RelationName into key) =
    record {
      ends = None;
      signs = [];
      other = Token (OneWord relation_names) (λ word. OpensValue into key (relation_of word));
    }
turn (OpensValue into key relation) = one_of ((40, Compared into key relation) ∷ [])
turn (Compared into key relation) =
    record {
      ends = None;
      signs = [];
      other = Token AnyValue (λ value. ClosesValue into (relation_filter key relation value));
    }
turn (ClosesValue into filter) = one_of ((41, ClosesFilter into filter) ∷ [])
turn (ClosesFilter into filter) = one_of ((41, after_filter into filter) ∷ [])
turn (Most query) =
    record {
      ends = None;
      signs = [];
      other = Token (AnyNumber most_limit) (λ most. Closing query (steps.Limit most));
    }
turn (OrderCloses query) = one_of ((41, Ordered (with_step query plain_order)) ∷ [])
turn (Ordered query) =
    record {
      ends = Some (commands.Query (shown query));
      signs = (46, OrderedName query) ∷ [];
      other = Nothing;
    }
turn (OrderedName query) =
    record {
      ends = None;
      signs = [];
      other = Words ordered_words (step_fault (stage_of query)) (Opens query);
    }
turn (ByFirst query) =
    record {
      ends = None;
      signs =
          (41, Steps (reordered query None false)) ∷ (39, InQuotes (OrderKey query) false)
          ∷ (34, InQuotes (OrderKey query) true) ∷ [];
      other = direction_of query None;
    }
turn (AfterOrderKey query key) =
    one_of
    ((44, OrderDirection query (Some key)) ∷ (41, Steps (reordered query (Some key) false)) ∷ [])
turn (OrderDirection query key) =
    record { ends = None; signs = []; other = direction_of query key }
turn (AfterOrderWord query key) = one_of ((46, DirectionName query key) ∷ [])
turn (DirectionName query key) =
    record {
      ends = None;
      signs = [];
      other = Token (OneWord sort_names) (λ word. ByCloses query key (is_descending word));
    }
turn (ByCloses query key descending) =
    one_of ((41, Steps (reordered query key descending)) ∷ [])
turn (Quote quoted) = one_of ((39, InQuotes quoted false) ∷ (34, InQuotes quoted true) ∷ [])
turn (InQuotes quoted double) =
    record { ends = None; signs = []; other = Token (AnyClosed double) (after_quoted quoted) }
turn (BodyFirst query) =
    record { ends = None; signs = (95, Underscore query) ∷ []; other = body_name query [] }
turn (Underscore query) = one_of ((95, AfterAnonymous query) ∷ [])
turn (AfterAnonymous query) = one_of ((46, BodyName query []) ∷ [])
turn (BodyName query body) = record { ends = None; signs = []; other = body_name query body }
turn (OpensBody query body word) = one_of ((40, opened_body (OfBody query body) word) ∷ [])
turn (InBody query body) =
    one_of ((46, BodyName query body) ∷ (41, AfterBody query body) ∷ [])
turn (AfterBody query body) = one_of ((46, TimesWord query body) ∷ [])
turn (TimesWord query body) =
    record {
      ends = None;
      signs = [];
      other = Token (Sign (codes "times")) (λ _. OpensTimes query body);
    }
turn (OpensTimes query body) = one_of ((40, TimesOf query body) ∷ [])
turn (TimesOf query body) =
    record {
      ends = None;
      signs = [];
      other = Token AnyTimes (λ times. Closing query (steps.Repeat body times));
    }
turn (AfterFoundLabel label) = one_of ((44, Quote (PairKey (OfSource label))) ∷ [])
turn (VertexCloses label) = one_of ((41, Changed (NewVertex label) []) ∷ [])
turn (TypeCloses query label) = one_of ((41, AfterType query label) ∷ [])
turn (AfterType query label) = one_of ((46, ToWord query label) ∷ [])
turn (ToWord query label) =
    record {
      ends = None;
      signs = [];
      other = Token (Sign (codes "to")) (λ _. OpensTo query label);
    }
turn (OpensTo query label) = one_of ((40, ToFirst query label) ∷ [])
turn (ToFirst query label) =
    one_of ((95, ToUnderscore query label) ∷ (86, OpensId query label) ∷ [])
turn (ToUnderscore query label) = one_of ((95, ToAnonymous query label) ∷ [])
turn (ToAnonymous query label) = one_of ((46, ToVertex query label) ∷ [])
turn (ToVertex query label) = one_of ((86, OpensId query label) ∷ [])
turn (OpensId query label) = one_of ((40, ToId query label) ∷ [])
turn (ToId query label) =
    record {
      ends = None;
      signs = [];
      other = Token (AnyNumber most_id) (λ to. IdCloses query label to);
    }
turn (IdCloses query label to) = one_of ((41, ToCloses query label to) ∷ [])
turn (ToCloses query label to) = one_of ((41, Changed (NewEdges query label to) []) ∷ [])
turn (DropCloses query) = one_of ((41, Dropped query) ∷ [])
turn (Dropped query) =
    record {
      ends = Some (commands.Mutate (Some query) mutations.Drop);
      signs = [];
      other = Nothing;
    }
turn (Changed subject pairs) =
    record {
      ends = Some (changed subject pairs);
      signs = (46, PropertyName subject pairs) ∷ [];
      other = Nothing;
    }
turn (PropertyName subject pairs) =
    record {
      ends = None;
      signs = [];
      other =
          Words property_words (λ _ _. late_fault (steps_before subject + length pairs))
          (λ _. OpensProperty subject pairs);
    }
turn (OpensProperty subject pairs) =
    one_of ((40, Quote (PairKey (OfChange subject pairs))) ∷ [])
turn (AfterPairKey purpose key) = one_of ((44, PairValue purpose key) ∷ [])
turn (PairValue purpose key) =
    record { ends = None; signs = []; other = Token AnyValue (PairCloses purpose key) }
turn (PairCloses purpose key value) = one_of ((41, after_pair purpose key value) ∷ [])

-- Blanks may stand before all but a name between quotes, its closing quote, and the second of two
-- underscores.
abbrev pub is_loose : Place → Bool
is_loose (InQuotes quoted double) = false
is_loose (Underscore query) = false
is_loose (ToUnderscore query label) = false
is_loose _ = true

-- the bytes after g are some query, or one that changes the graph
abbrev pub IsQuery : List ℕ → Type 0
IsQuery bytes = Loosely turn is_loose (LineFrom turn is_loose) Start bytes

-- so many tokens lead from the place to the end of what asks for this
abbrev pub LineTo : Command → Place → List ℕ → Type 0
LineTo command place bytes =
    (n : ℕ) × Leads turn is_loose (λ _. Unit {0}) command n place bytes

-- the bytes after g ask for this, but for the bounds
abbrev pub QueryTo : Command → List ℕ → Type 0
QueryTo command bytes = Loosely turn is_loose (LineTo command) Start bytes

-- Reading stops, from this place on.
abbrev pub StopsFrom : Place → List ℕ → Stop → Type 0
StopsFrom place bytes stop =
    IsStop (LineFrom turn is_loose place) (BadFrom turn is_loose place) (Unit {0}) bytes stop

-- What was read leads from the place to the next one.
abbrev pub LeadsTo : Place → List ℕ → Place → List ℕ → Type 0
LeadsTo place bytes next rest = Reaches turn is_loose place bytes next rest

-- the place after steps, the last of them an order without a `by` or not
abbrev pub steps_place : Bool → Query → Place
steps_place is_ordered query = cond is_ordered (Ordered query) (Steps query)

-- It is the name of a step that changes the graph.
abbrev pub is_change : StepWord → Bool
is_change (words.Change word) = true
is_change _ = false

-- It is the name of a step of a query, as neither of one that changes the graph nor of maps.
abbrev pub is_step : StepWord → Bool
is_step (words.Change word) = false
is_step words.ElementMap = false
is_step _ = true

-- It is an order, after which its `by` may stand.
abbrev pub is_order : StepWord → Bool
is_order words.Order = true
is_order _ = false

-- An order has no `by` yet, and a `by` gives an order.
abbrev pub IsOrderStep : StepWord → Step → Type 0
IsOrderStep words.Order step = step ≡ plain_order
IsOrderStep words.By step =
    (key : Option (List ℕ)) × (descending : Bool) × (step ≡ steps.Order key descending)
IsOrderStep _ step = Unit {0}

-- the steps with one more, or with the order of a `by` in place of the last
abbrev pub put_step : StepWord → List Step → Step → List Step
put_step word list step = cond (is_by word) (replace_last list step) (list ++ step ∷ [])

-- the place after the step of this word
abbrev pub after_word : StepWord → Query → Step → Place
after_word word query step =
    steps_place (is_order word) (with_steps query (put_step word query.steps step))

-- The bytes begin with neither of the two.
abbrev pub NeitherFirst : ℕ → ℕ → List ℕ → Type 0
NeitherFirst one two [] = Unit {0}
NeitherFirst one two (b ∷ bytes) = (b ≢ one) × (b ≢ two)

-- The bytes begin with neither of the two, and are all left.
abbrev pub LeavesBoth : ℕ → ℕ → List ℕ → Stop → Type 0
LeavesBoth one two bytes stop =
    StopsWith (λ left. (left ≡ length bytes) × NeitherFirst one two bytes) stop

-- A name between quotes may stand at the place, and reading stops there where no quote stands.
pub record QuotesAt (place : Place) (quoted : Quoted) (bytes : List ℕ) : Type 0 where
  pub single : sign_at (turn place).signs 39 ≡ Some (InQuotes quoted false)
  pub double : sign_at (turn place).signs 34 ≡ Some (InQuotes quoted true)
  pub stops : (stop : Stop) → LeavesBoth 34 39 bytes stop → StopsFrom place bytes stop

-- the bytes after g ask for this, within its bounds
abbrev pub IsKeptQuery : Command → List ℕ → Type 0
IsKeptQuery command bytes = Loosely turn is_loose (KeptFrom turn is_loose command) Start bytes

-- a bad token of a query, after g
abbrev pub BadQuery : Bads
BadQuery kind left bytes = BadLoosely turn is_loose Start kind left bytes

-- Reading stops after g.
abbrev pub StopsInQuery : List ℕ → Stop → Type 0
StopsInQuery bytes stop = IsStop IsQuery BadQuery (Unit {0}) bytes stop
