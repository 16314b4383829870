-- That a line asks for a change of the right form: what its places have read is a name of at most 48 bytes or a value that a store may keep.
use Rattle.std.proofs.Common.{◌≡◌, ℕ, Some, List, [], ◌∷◌, subst}
use Rattle.plain_graph.specs.Forms.{ArePairs, HasMutationForm, IsKept}
use Rattle.plain_graph.specs.Lines.{HasForm}
use Rattle.plain_graph.specs.Names.{IsShortName}
use Rattle.plain_graph.specs.declared.command.Command.{Command}
use Rattle.plain_graph.specs.declared.command.Command.TheVariants as commands
use Rattle.plain_graph.specs.declared.filter.Filter.{Filter}
use Rattle.plain_graph.specs.declared.filter.Filter.TheVariants as filters
use Rattle.plain_graph.specs.declared.mutation.Mutation.TheVariants as mutations
use Rattle.plain_graph.specs.declared.pairs.Pair.{Pair}
use Rattle.plain_graph.specs.declared.query.BodyStep.{BodyStep}
use Rattle.plain_graph.specs.declared.query.Query.{Query}
use Rattle.plain_graph.specs.declared.value.Value.{Value}
use Rattle.gremlin_parse.specs.Grammar.{IsBounded}
use Rattle.gremlin_parse.specs.Queries.{Into, OfQuery, OfBody, NamesFor, OfStep, OfHop, OfLabels, Subject, NewVertex}
use Rattle.gremlin_parse.specs.Queries.{NewEdges, Elements, Quoted, OneName, Key, OrderKey, VertexLabel, EdgeType}
use Rattle.gremlin_parse.specs.Queries.{PairKey, Place, Start, SourceName, FirstId, AfterId, NextId, Steps, StepName}
use Rattle.gremlin_parse.specs.Queries.{Opens, FirstName, AfterName, AfterKey, ValueOf, RelationName, Compared}
use Rattle.gremlin_parse.specs.Queries.{ClosesFilter, Most, Ordered, OrderedName, ByFirst, AfterOrderKey}
use Rattle.gremlin_parse.specs.Queries.{OrderDirection, DirectionName, Quote, InQuotes, BodyFirst, BodyName, OpensBody}
use Rattle.gremlin_parse.specs.Queries.{InBody, TimesWord, TimesOf, VertexCloses, TypeCloses, AfterType, ToWord}
use Rattle.gremlin_parse.specs.Queries.{OpensTo, ToFirst, ToUnderscore, ToAnonymous, ToVertex, OpensId, ToId, IdCloses}
use Rattle.gremlin_parse.specs.Queries.{ToCloses, Dropped, Changed, PropertyName, OpensProperty, AfterPairKey}
use Rattle.gremlin_parse.specs.Queries.{PairValue, PairCloses, after_filter, after_names, after_quoted, after_step}
use Rattle.gremlin_parse.specs.Queries.{changed, is_loose, mutation_of, opened, opened_body, opened_names, turn}
use Rattle.gremlin_parse.specs.Queries.{with_pair, IsKeptQuery, FoundLabel, Opening, OfMaps, PairFor, OfChange}
use Rattle.gremlin_parse.specs.Queries.{OfSource, after_pair, opened_source, shown}
use Rattle.gremlin_parse.specs.declared.source.SourceKind.{SourceKind}
use Rattle.gremlin_parse.specs.declared.source.SourceKind.TheVariants as sources
use Rattle.gremlin_parse.specs.declared.step_word.BodyWord.{BodyWord}
use Rattle.gremlin_parse.specs.declared.step_word.BodyWord.TheVariants as of_body
use Rattle.gremlin_parse.specs.declared.step_word.ChangeWord.TheVariants as changes
use Rattle.gremlin_parse.specs.declared.step_word.StepWord.{StepWord}
use Rattle.gremlin_parse.specs.declared.step_word.StepWord.TheVariants as words
use Rattle.gremlin_parse.proofs.Kept.{EachSign, EachOther, leads_keep}

-- ---- what was read before a place has its form

abbrev SubjectForm : Subject → Type 0
SubjectForm (NewVertex label) = IsShortName label
SubjectForm (NewEdges query label to) = IsShortName label
SubjectForm (Elements query) = Unit {0}

abbrev ChangeForm : Subject → List Pair → Type 0
ChangeForm subject pairs = SubjectForm subject × ArePairs pairs

abbrev PairForm : PairFor → Type 0
PairForm (OfChange subject pairs) = ChangeForm subject pairs
PairForm (OfSource label) = Unit {0}

abbrev QuotedForm : Quoted → Type 0
QuotedForm (PairKey purpose) = PairForm purpose
QuotedForm _ = Unit {0}

abbrev PlaceForm : Place → Type 0
PlaceForm (Quote quoted) = QuotedForm quoted
PlaceForm (InQuotes quoted double) = QuotedForm quoted
PlaceForm (VertexCloses label) = IsShortName label
PlaceForm (TypeCloses query label) = IsShortName label
PlaceForm (AfterType query label) = IsShortName label
PlaceForm (ToWord query label) = IsShortName label
PlaceForm (OpensTo query label) = IsShortName label
PlaceForm (ToFirst query label) = IsShortName label
PlaceForm (ToUnderscore query label) = IsShortName label
PlaceForm (ToAnonymous query label) = IsShortName label
PlaceForm (ToVertex query label) = IsShortName label
PlaceForm (OpensId query label) = IsShortName label
PlaceForm (ToId query label) = IsShortName label
PlaceForm (IdCloses query label to) = IsShortName label
PlaceForm (ToCloses query label to) = IsShortName label
PlaceForm (Changed subject pairs) = ChangeForm subject pairs
PlaceForm (PropertyName subject pairs) = ChangeForm subject pairs
PlaceForm (OpensProperty subject pairs) = ChangeForm subject pairs
PlaceForm (AfterPairKey purpose key) = PairForm purpose × IsShortName key
PlaceForm (PairValue purpose key) = PairForm purpose × IsShortName key
PlaceForm (PairCloses purpose key value) = PairForm purpose × IsShortName key × IsKept value
PlaceForm _ = Unit {0}

-- ---- places that read

after_step_form : (into : Into) (step : BodyStep) → PlaceForm (after_step into step)
after_step_form (OfQuery query) step = tt
after_step_form (OfBody query body) step = tt

after_filter_form : (into : Into) (filter : Filter) → PlaceForm (after_filter into filter)
after_filter_form (OfQuery query) filter = tt
after_filter_form (OfBody query body) filter = tt

after_names_form : (purpose : NamesFor) (names : List (List ℕ)) → PlaceForm (after_names purpose names)
after_names_form (OfStep query step) names = tt
after_names_form (OfMaps query) names = tt
after_names_form (OfHop into direction) names = after_step_form into _
after_names_form (OfLabels into) names = after_filter_form into _

opened_names_form : (purpose : NamesFor) → PlaceForm (opened_names purpose)
opened_names_form (OfStep query step) = tt
opened_names_form (OfMaps query) = tt
opened_names_form (OfHop into direction) = tt
opened_names_form (OfLabels into) = tt

opened_body_form : (into : Into) (word : BodyWord) → PlaceForm (opened_body into word)
opened_body_form into (of_body.Neighbours direction) = opened_names_form (OfHop into direction)
opened_body_form into of_body.HasLabel = opened_names_form (OfLabels into)
opened_body_form into of_body.Has = tt

opened_form : (query : Query) (word : StepWord) → PlaceForm (opened query word)
opened_form query (words.Names step) = opened_names_form (OfStep query step)
opened_form query (words.Body word) = opened_body_form (OfQuery query) word
opened_form query words.ElementMap = opened_names_form (OfMaps query)
opened_form query (words.Change changes.AddE) = tt
opened_form query (words.Change changes.Property) = (tt, tt)
opened_form query (words.Change changes.Drop) = tt
opened_form query word = tt

-- ---- from a place to the next ones

after_quoted_form : (quoted : Quoted) (name : List ℕ) → QuotedForm quoted → IsShortName name → PlaceForm (after_quoted quoted name)
after_quoted_form (OneName purpose names) name form short = tt
after_quoted_form (Key into) name form short = tt
after_quoted_form (OrderKey query) name form short = tt
after_quoted_form VertexLabel name form short = short
after_quoted_form (EdgeType query) name form short = short
after_quoted_form FoundLabel name form short = tt
after_quoted_form (PairKey purpose) name form short = (form, short)

one_pair_more : (pairs : List Pair) (key : List ℕ) (value : Value) → ArePairs pairs → IsShortName key → IsKept value → ArePairs (with_pair pairs key value)
one_pair_more [] key value are short kept = (short, kept, tt)
one_pair_more (pair ∷ pairs) key value are short kept = (are.0, are.1, one_pair_more pairs key value are.2 short kept)

opened_source_form : (kind : SourceKind) → PlaceForm (opened_source kind)
opened_source_form sources.Vertices = tt
opened_source_form sources.Edges = tt
opened_source_form sources.NewVertex = tt
opened_source_form sources.Found = tt

after_pair_form : (purpose : PairFor) (key : List ℕ) (value : Value) → PairForm purpose × IsShortName key × IsKept value
    → PlaceForm (after_pair purpose key value)
after_pair_form (OfChange subject pairs) key value (form, short, kept) = (form.0, one_pair_more pairs key value form.1 short kept)
after_pair_form (OfSource label) key value form = tt

signs_form : (place : Place) → PlaceForm place → EachSign PlaceForm (turn place).signs
signs_form SourceName form = (tt, (tt, tt))
signs_form (Opening kind) form = (opened_source_form kind, tt)
signs_form (AfterId edges ids) form = (tt, (tt, tt))
signs_form (NextId edges ids) form = tt
signs_form (StepName query) form = tt
signs_form (Opens query word) form = (opened_form query word, tt)
signs_form (FirstName purpose) form = (after_names_form purpose [], (tt, (tt, tt)))
signs_form (AfterName purpose names) form = (tt, (after_names_form purpose names, tt))
signs_form (AfterKey into key) form = (tt, (after_filter_form into (filters.Has key), tt))
signs_form (RelationName into key) form = tt
signs_form (Compared into key relation) form = tt
signs_form (ClosesFilter into filter) form = (after_filter_form into filter, tt)
signs_form (Most query) form = tt
signs_form (OrderedName query) form = tt
signs_form (ByFirst query) form = (tt, (tt, (tt, tt)))
signs_form (AfterOrderKey query key) form = (tt, (tt, tt))
signs_form (OrderDirection query key) form = tt
signs_form (DirectionName query key) form = tt
signs_form (Quote quoted) form = (form, (form, tt))
signs_form (InQuotes quoted double) form = tt
signs_form (BodyName query body) form = tt
signs_form (OpensBody query body word) form = (opened_body_form (OfBody query body) word, tt)
signs_form (InBody query body) form = (tt, (tt, tt))
signs_form (TimesWord query body) form = tt
signs_form (TimesOf query body) form = tt
signs_form (VertexCloses label) form = ((form, tt), tt)
signs_form (ToWord query label) form = tt
signs_form (ToFirst query label) form = (form, (form, tt))
signs_form (ToId query label) form = tt
signs_form (ToCloses query label to) form = ((form, tt), tt)
signs_form (Dropped query) form = tt
signs_form (PropertyName subject pairs) form = tt
signs_form (PairValue purpose key) form = tt
signs_form (PairCloses purpose key value) form = (after_pair_form purpose key value form, tt)
signs_form place form = (form, tt)

others_form : (place : Place) → PlaceForm place → EachOther IsBounded PlaceForm (turn place).other
others_form SourceName form = (λ content bound bytes is. tt, λ content bound bytes is. tt)
others_form (FirstId edges) form = λ id bound bytes is. tt
others_form (NextId edges ids) form = λ id bound bytes is. tt
others_form (StepName query) form = λ word. tt
others_form (ValueOf into key) form = (λ word bound bytes is. tt, λ value bound bytes is. tt)
others_form (RelationName into key) form = λ word bound bytes is. tt
others_form (Compared into key relation) form = λ value bound bytes is. tt
others_form (Most query) form = λ most bound bytes is. tt
others_form (OrderedName query) form = λ word. tt
others_form (ByFirst query) form = (λ word bound bytes is. tt, λ word bound bytes is. tt)
others_form (OrderDirection query key) form = (λ word bound bytes is. tt, λ word bound bytes is. tt)
others_form (DirectionName query key) form = λ word bound bytes is. tt
others_form (InQuotes quoted double) form = λ name bound bytes is. after_quoted_form quoted name form (is.1, bound)
others_form (BodyFirst query) form = λ word. tt
others_form (BodyName query body) form = λ word. tt
others_form (TimesWord query body) form = λ word bound bytes is. tt
others_form (TimesOf query body) form = λ times bound bytes is. tt
others_form (ToWord query label) form = λ word bound bytes is. form
others_form (ToId query label) form = λ to bound bytes is. form
others_form (PropertyName subject pairs) form = λ word. form
others_form (PairValue purpose key) form = λ value bound bytes is. (form.0, form.1, bound)
others_form place form = tt

-- ---- the line's end

mutation_form : (subject : Subject) (pairs : List Pair) → ChangeForm subject pairs → HasMutationForm (mutation_of subject pairs)
mutation_form (NewVertex label) pairs form = form
mutation_form (NewEdges query label to) pairs form = form
mutation_form (Elements query) pairs form = form.1

end_form : (place : Place) (end : Command) → PlaceForm place → (turn place).ends ≡ Some end → HasForm end
end_form (Steps query) end form ends = let same : commands.Query (shown query) ≡ end = cc in subst HasForm same tt
end_form (Ordered query) end form ends = let same : commands.Query (shown query) ≡ end = cc in subst HasForm same tt
end_form (Dropped query) end form ends = let same : commands.Mutate (Some query) mutations.Drop ≡ end = cc in subst HasForm same tt
end_form (Changed subject pairs) end form ends = let same : changed subject pairs ≡ end = cc in subst HasForm same (mutation_form subject pairs form)
end_form place end form ends = cc

-- What a query asks for within its bounds has its form.
pub query_form : (command : Command) (bytes : List ℕ) → IsKeptQuery command bytes → HasForm command
query_form command bytes (prefix, rest, whole, are_blanks, (n, leads)) =
    leads_keep turn is_loose IsBounded PlaceForm HasForm (λ place form. (signs_form place form, others_form place form)) end_form command n Start rest tt leads
