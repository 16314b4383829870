-- What the readers of queries have read, from place to place.
use Rattle.std.proofs.Common.{◌≡◌, ◌≢◌, ◌≤◌, ◌<◌, ◌+◌, inl, inr, ℕ, nat_eq, cond, Bool, true, false, Some, None}
use Rattle.std.proofs.Common.{List, [], ◌∷◌, ◌++◌, length, codes, refl, sym, ap, ◌∙◌, subst, ⊎_elim}
use Rattle.std.proofs.Common.{length-append, arith}
use Rattle.std.proofs.lemmas.Bool.{cases_Bool}
use borrow.Author.Tests.{eqb-true}
use Rattle.plain_graph.specs.declared.command.Command.{Command}
use Rattle.plain_graph.specs.declared.command.Command.TheVariants as commands
use Rattle.gremlin_parse.specs.Grammar.{most_id, most_limit, quote_byte}
use Rattle.gremlin_parse.specs.Reading.{first_byte}
use Rattle.gremlin_parse.specs.Symbols.{OneWord, AnyClosed, AnyNumber, AnyValue, AnyBlanks, Sign, Reads, ReadsToken, ReadsId, Leaves}
use Rattle.gremlin_parse.specs.Keywords.{Entry, TakesWord}
use Rattle.gremlin_parse.specs.Stopping.{StopsWith}
use Rattle.plain_graph.specs.declared.mutation.Mutation.{Mutation}
use Rattle.plain_graph.specs.declared.query.BodyStep.{BodyStep}
use Rattle.plain_graph.specs.declared.query.BodyStep.TheVariants as bodies
use Rattle.plain_graph.specs.declared.query.Query.{Query}
use Rattle.plain_graph.specs.declared.query.Step.TheVariants as steps
use Rattle.plain_graph.specs.declared.filter.Filter.{Filter}
use Rattle.plain_graph.specs.declared.filter.Filter.TheVariants as filters
use Rattle.plain_graph.specs.declared.filter.Relation.{Relation}
use Rattle.plain_graph.specs.declared.filter.Relation.TheVariants as relations
use Rattle.plain_graph.specs.declared.value.Value.{Value}
use Rattle.gremlin_parse.specs.Comparisons.{ReadsRelation, later}
use Rattle.gremlin_parse.specs.declared.source.SourceKind.{SourceKind}
use Rattle.gremlin_parse.specs.declared.source.SourceKind.TheVariants as sources
use Rattle.gremlin_parse.specs.declared.step_word.BareStep.{BareStep}
use Rattle.gremlin_parse.specs.declared.step_word.BodyWord.{BodyWord}
use Rattle.gremlin_parse.specs.declared.step_word.BodyWord.TheVariants as of_body
use Rattle.gremlin_parse.specs.declared.step_word.ChangeWord.{ChangeWord}
use Rattle.gremlin_parse.specs.declared.step_word.ChangeWord.TheVariants as changes
use Rattle.gremlin_parse.specs.declared.step_word.StepWord.TheVariants as words
use Rattle.gremlin_parse.specs.Stages.{is_by, stage_of, step_fault, steps_of}
use Rattle.gremlin_parse.specs.Turns.{Turn, LeavesWords, sign_at, KeptFrom}
use Rattle.gremlin_parse.specs.Queries.{Into, OfQuery, OfBody, NamesFor, OfStep, OfHop, OfLabels, Quoted, OneName, Key}
use Rattle.gremlin_parse.specs.Queries.{OrderKey, Place, Start, SourceName, Opening, FirstId, AfterId, NextId, Steps}
use Rattle.gremlin_parse.specs.Queries.{query_from, StepName, Opens, Closing, FirstName, AfterName, AfterKey, ValueOf}
use Rattle.gremlin_parse.specs.Queries.{AfterP, RelationName, OpensValue, Compared, ClosesValue, ClosesFilter}
use Rattle.gremlin_parse.specs.Queries.{relation_names, relation_name, relation_of, relation_filter, Most, Ordered}
use Rattle.gremlin_parse.specs.Queries.{OrderedName, VertexLabel, EdgeType, PairKey, opened_source, opened}
use Rattle.gremlin_parse.specs.Queries.{opened_names, opened_body, after_step, after_filter, after_names, words_after}
use Rattle.gremlin_parse.specs.Queries.{step_words, steps_place, with_step, bare_step, needs_name, value_filter, Quote}
use Rattle.gremlin_parse.specs.Queries.{InQuotes, one_of, QuotesAt, LeavesBoth, NeitherFirst, LeadsTo, StopsFrom}
use Rattle.gremlin_parse.specs.Queries.{after_quoted, IsKeptQuery, StopsInQuery, turn, is_loose, FoundLabel, OfMaps}
use Rattle.gremlin_parse.specs.Queries.{elements_of, shown}
use Rattle.gremlin_parse.specs.declared.step_word.StepWord.{StepWord}
use Rattle.gremlin_parse.specs.declared.stage.Stage.{Stage}
use Rattle.gremlin_parse.specs.declared.stop.Stop.{Stop}
use Rattle.gremlin_parse.specs.declared.stop.Stop.TheVariants as stops
use Rattle.gremlin_parse.proofs.Turns.{NoSign}
use Rattle.gremlin_parse.proofs.Walks.{kept_end, stop_after_blanks, Skips, LeavesOther, LeavesPlace, reaches_next, reaches_on, stop_at_place}
use Rattle.gremlin_parse.proofs.Tables.{IsWordTable, all_in, lookup_in}
use Rattle.gremlin_parse.proofs.Later.{leaves_either}
use Rattle.gremlin_parse.proofs.QueryPlaces.{are, some, step_table, ordered_table, no_signs}

pub on : (place : Place) (bytes : List ℕ) (middle : Place) (left : List ℕ) (next : Place) (rest : List ℕ) → LeadsTo place bytes middle left
    → LeadsTo middle left next rest → LeadsTo place bytes next rest
on place bytes middle left next rest one two = reaches_on turn is_loose are some place bytes middle left next rest one two

pub stop_at : (place : Place) (bytes : List ℕ) (stop : Stop) → LeavesPlace turn is_loose are some place bytes stop → StopsFrom place bytes stop
stop_at place bytes stop leaves = stop_at_place turn is_loose are some place bytes stop leaves

-- ---- signs

-- a sign, and any blanks after it
pub token_leads : (place : Place) (b : ℕ) (next : Place) (bytes rest : List ℕ) → sign_at (turn place).signs b ≡ Some next → is_loose next ≡ true
    → ReadsToken (b ∷ []) bytes rest → LeadsTo place bytes next rest
token_leads place b next bytes rest is loose (middle, reads, blanks) =
    reaches_next turn is_loose are some place bytes next middle rest
    (record { prefix = reads.takes.prefix; bytes_are = reads.takes.bytes_are; how = inl (b, is, reads.takes.is) })
    (subst (λ t. Skips t middle rest) (sym loose) blanks)

-- a sign, and nothing skipped
pub sign_leads : (place : Place) (b : ℕ) (next : Place) (bytes rest : List ℕ) → sign_at (turn place).signs b ≡ Some next → is_loose next ≡ false
    → Reads (Sign (b ∷ [])) tt bytes rest → LeadsTo place bytes next rest
sign_leads place b next bytes rest is tight reads =
    reaches_next turn is_loose are some place bytes next rest rest
    (record { prefix = reads.takes.prefix; bytes_are = reads.takes.bytes_are; how = inl (b, is, reads.takes.is) })
    (subst (λ t. Skips t rest rest) (sym tight) refl)

pub other_byte : (b c : ℕ) → c ≢ b → nat_eq b c ≡ false
other_byte b c differs = ⊎_elim (λ (same : nat_eq b c ≡ true). absurd (differs (sym (eqb-true b c same)))) (λ (other : nat_eq b c ≡ false). other)
    (cases_Bool (nat_eq b c))

pub no_one_sign : (b : ℕ) (next : Place) (bytes : List ℕ) → first_byte bytes ≢ Some b → NoSign ((b, next) ∷ []) bytes
no_one_sign b next [] differs = tt
no_one_sign b next (c ∷ bytes) differs = ap (λ (t : Bool). cond t (Some next) None) (other_byte b c (λ same. differs (ap (λ (n : ℕ). Some n) same)))

-- Where the one sign doesn't stand, no sign does, and all bytes are left.
pub leaves_sign : (b : ℕ) (next : Place) (bytes : List ℕ) (stop : Stop) → Leaves (Sign (b ∷ [])) bytes stop → NoSign ((b, next) ∷ []) bytes
    × StopsWith (λ left. left ≡ length bytes) stop
leaves_sign b next bytes stops.Memory leaves = absurd leaves
leaves_sign b next bytes (stops.Syntax left) leaves = at leaves.read leaves.word_is leaves.bytes_are
  where
    at : (read : List ℕ) → b ∷ [] ≡ read ++ leaves.next ∷ leaves.more → bytes ≡ read ++ leaves.unread → NoSign ((b, next) ∷ []) bytes × (left ≡ length bytes)
    at [] word whole =
        let same : leaves.next ≡ b = cc in (
          no_one_sign b next bytes (λ first. leaves.differs (ap first_byte (sym whole) ∙ first ∙ ap (λ (n : ℕ). Some n) (sym same))),
          leaves.left_is ∙ ap length
              (sym whole),
        )
    at (c ∷ []) word whole = cc
    at (c ∷ d ∷ read) word whole = cc
leaves_sign b next bytes (stops.Bad kind left) leaves = absurd leaves.1

no_two_signs : (one two : ℕ) (first second : Place) (bytes : List ℕ) → NeitherFirst one two bytes → NoSign ((one, first) ∷ (two, second) ∷ []) bytes
no_two_signs one two first second [] neither = tt
no_two_signs one two first second (c ∷ bytes) neither =
    ap (λ (t : Bool). cond t (Some first) (sign_at ((two, second) ∷ []) c)) (other_byte one c neither.0)
    ∙ ap (λ (t : Bool). cond t (Some second) None) (other_byte two c neither.1)

-- Where neither of the two signs stands, no sign does, and all bytes are left.
pub leaves_both : (one two : ℕ) (first second : Place) (bytes : List ℕ) (stop : Stop) → LeavesBoth one two bytes stop
    → NoSign ((one, first) ∷ (two, second) ∷ []) bytes × StopsWith (λ left. left ≡ length bytes) stop
leaves_both one two first second bytes stops.Memory leaves = absurd leaves
leaves_both one two first second bytes (stops.Syntax left) leaves = (no_two_signs one two first second bytes leaves.1, leaves.0)
leaves_both one two first second bytes (stops.Bad kind left) leaves = absurd leaves

pub token_shorter : (b : ℕ) (bytes rest : List ℕ) → ReadsToken (b ∷ []) bytes rest → length rest < length bytes
token_shorter b bytes rest (middle, reads, blanks) =
    let len : length bytes ≡ length reads.takes.prefix + length middle = ap length reads.takes.bytes_are ∙ length-append reads.takes.prefix middle in
    let one : length reads.takes.prefix ≡ 1 = ap length reads.takes.is in
    let after : length middle ≡ length blanks.takes.prefix + length rest = ap length blanks.takes.bytes_are ∙ length-append blanks.takes.prefix rest in
    omega (arith, len, one, after)

-- ---- a name between quotes

quote_at : (place : Place) (quoted : Quoted) (bytes : List ℕ) (double : Bool) → QuotesAt place quoted bytes
    → sign_at (turn place).signs (quote_byte double) ≡ Some (InQuotes quoted double)
quote_at place quoted bytes true quotes = quotes.double
quote_at place quoted bytes false quotes = quotes.single

quote_leads : (place : Place) (quoted : Quoted) (double : Bool) (bytes rest : List ℕ) → QuotesAt place quoted bytes
    → Reads (Sign (quote_byte double ∷ [])) tt bytes rest → LeadsTo place bytes (InQuotes quoted double) rest
quote_leads place quoted double bytes rest quotes reads = sign_leads place (quote_byte double) (InQuotes quoted double) bytes rest
    (quote_at place quoted bytes double quotes) refl reads

after_is_loose : (quoted : Quoted) (name : List ℕ) → is_loose (after_quoted quoted name) ≡ true
after_is_loose (OneName purpose names) name = refl
after_is_loose (Key into) name = refl
after_is_loose (OrderKey query) name = refl
after_is_loose VertexLabel name = refl
after_is_loose (EdgeType query) name = refl
after_is_loose FoundLabel name = refl
after_is_loose (PairKey purpose) name = refl

name_leads : (quoted : Quoted) (name : List ℕ) (double : Bool) (bytes middle rest : List ℕ) → Reads (AnyClosed double) name bytes middle
    → Reads AnyBlanks tt middle rest → LeadsTo (InQuotes quoted double) bytes (after_quoted quoted name) rest
name_leads quoted name double bytes middle rest reads blanks =
    reaches_next turn is_loose are some (InQuotes quoted double) bytes (after_quoted quoted name) middle rest
    (record { prefix = reads.takes.prefix; bytes_are = reads.takes.bytes_are; how = inr (name, refl, tt, reads.bounded, reads.takes.is, reads.takes.ends) })
    (subst (λ (t : Bool). Skips t middle rest) (sym (after_is_loose quoted name)) blanks)

pub quoted_name_read : (bytes at_name middle rest name : List ℕ) (double : Bool) → Reads (Sign (quote_byte double ∷ [])) tt bytes at_name
    → Reads (AnyClosed double) name at_name middle → Reads AnyBlanks tt middle rest → (place : Place) (quoted : Quoted) → QuotesAt place quoted bytes
    → LeadsTo place bytes (after_quoted quoted name) rest
quoted_name_read bytes at_name middle rest name double sign reads blanks place quoted quotes =
    on place bytes (InQuotes quoted double) at_name (after_quoted quoted name) rest (quote_leads place quoted double bytes at_name quotes sign)
    (name_leads quoted name double at_name middle rest reads blanks)

pub stop_in_name : (bytes at_name : List ℕ) (double : Bool) (stop : Stop) → Reads (Sign (quote_byte double ∷ [])) tt bytes at_name
    → Leaves (AnyClosed double) at_name stop → (place : Place) (quoted : Quoted) → QuotesAt place quoted bytes → StopsFrom place bytes stop
stop_in_name bytes at_name double stop sign leaves place quoted quotes =
    (quote_leads place quoted double bytes at_name quotes sign).stops stop
    (stop_at (InQuotes quoted double) at_name stop (record { no_end = λ end ends. cc; no_sign = no_signs at_name; other = leaves }))

pub quoted_within : (bytes at_name middle rest name : List ℕ) (double : Bool) → Reads (Sign (quote_byte double ∷ [])) tt bytes at_name
    → Reads (AnyClosed double) name at_name middle → Reads AnyBlanks tt middle rest → length rest ≤ length bytes
quoted_within bytes at_name middle rest name double sign reads blanks =
    let first : length bytes ≡ length sign.takes.prefix + length at_name = ap length sign.takes.bytes_are ∙ length-append sign.takes.prefix at_name in
    let second : length at_name ≡ length reads.takes.prefix + length middle = ap length reads.takes.bytes_are ∙ length-append reads.takes.prefix middle in
    let third : length middle ≡ length blanks.takes.prefix + length rest = ap length blanks.takes.bytes_are ∙ length-append blanks.takes.prefix rest in
    omega (arith, first, second, third)

-- ---- the source

-- A comma, or a closing parenthesis, leads on.
pub comma_leads : (place : Place) (on_comma on_close : Place) (bytes rest : List ℕ) (more : Bool) → sign_at (turn place).signs 44 ≡ Some on_comma
    → sign_at (turn place).signs 41 ≡ Some on_close → is_loose on_comma ≡ true → is_loose on_close ≡ true → ReadsToken (cond more 44 41 ∷ []) bytes rest
    → LeadsTo place bytes (cond more on_comma on_close) rest
comma_leads place on_comma on_close bytes rest true comma close loose free token = token_leads place 44 on_comma bytes rest comma loose token
comma_leads place on_comma on_close bytes rest false comma close loose free token = token_leads place 41 on_close bytes rest close free token

pub find_leads : (bytes rest : List ℕ) → ReadsToken (codes "find") bytes rest → LeadsTo SourceName bytes (Opening sources.Found) rest
find_leads bytes rest (middle, reads, blanks) =
    reaches_next turn is_loose are some SourceName bytes (Opening sources.Found) middle rest
    (record { prefix = reads.takes.prefix; bytes_are = reads.takes.bytes_are; how = inr (inl (tt, refl, tt, tt, reads.takes.is, tt)) })
    blanks

pub vertex_leads : (bytes rest : List ℕ) → ReadsToken (codes "addV") bytes rest → LeadsTo SourceName bytes (Opening sources.NewVertex) rest
vertex_leads bytes rest (middle, reads, blanks) =
    reaches_next turn is_loose are some SourceName bytes (Opening sources.NewVertex) middle rest
    (record { prefix = reads.takes.prefix; bytes_are = reads.takes.bytes_are; how = inr (inr (tt, refl, tt, tt, reads.takes.is, tt)) })
    blanks

-- Where neither sign of the source stands, nor a word for one.
pub stop_at_source : (bytes : List ℕ) (no_find no_vertex : Stop) → first_byte bytes ≢ Some 86 → first_byte bytes ≢ Some 69
    → Leaves (Sign (codes "find")) bytes no_find → Leaves (Sign (codes "addV")) bytes no_vertex → StopsFrom SourceName bytes (later no_find no_vertex)
stop_at_source bytes no_find no_vertex no_vertices no_edges find vertex =
    stop_at SourceName bytes (later no_find no_vertex) (record {
      no_end = λ end ends. cc;
      no_sign = no_two_signs 86 69 (Opening sources.Vertices) (Opening sources.Edges) bytes (neither bytes no_vertices no_edges);
      other = leaves_either (Leaves (Sign (codes "find")) bytes) (Leaves (Sign (codes "addV")) bytes) (λ none. none) (λ none. none) (λ kind left bad. bad.1)
          no_find no_vertex find vertex;
    })
  where
    neither : (these : List ℕ) → first_byte these ≢ Some 86 → first_byte these ≢ Some 69 → NeitherFirst 86 69 these
    neither [] one two = tt
    neither (b ∷ these) one two = (λ same. one (ap (λ (n : ℕ). Some n) same), λ same. two (ap (λ (n : ℕ). Some n) same))

-- the one sign of a place, where it doesn't stand
pub stop_at_sign : (place : Place) (b : ℕ) (next : Place) (bytes : List ℕ) (stop : Stop) → turn place ≡ one_of ((b, next) ∷ [])
    → Leaves (Sign (b ∷ [])) bytes stop → StopsFrom place bytes stop
stop_at_sign place b next bytes stop is leaves =
    let left = leaves_sign b next bytes stop leaves in
    stop_at place bytes stop (record {
      no_end = λ end ends. let clash : None ≡ Some end = ap (λ (t : Turn StepWord Place Command). t.ends) (sym is) ∙ ends in cc;
      no_sign = subst (λ (t : Turn StepWord Place Command). NoSign t.signs bytes) (sym is) left.0;
      other = subst (λ (t : Turn StepWord Place Command). LeavesOther turn is_loose are some t.other bytes stop) (sym is) left.1;
    })

-- a comma and a closing parenthesis, where neither stands
pub stop_at_comma : (place : Place) (on_comma on_close : Place) (bytes : List ℕ) (stop : Stop) → turn place ≡ one_of ((44, on_comma) ∷ (41, on_close) ∷ [])
    → LeavesBoth 44 41 bytes stop → StopsFrom place bytes stop
stop_at_comma place on_comma on_close bytes stop is leaves =
    let left = leaves_both 44 41 on_comma on_close bytes stop leaves in
    stop_at place bytes stop (record {
      no_end = λ end ends. let clash : None ≡ Some end = ap (λ (t : Turn StepWord Place Command). t.ends) (sym is) ∙ ends in cc;
      no_sign = subst (λ (t : Turn StepWord Place Command). NoSign t.signs bytes) (sym is) left.0;
      other = subst (λ (t : Turn StepWord Place Command). LeavesOther turn is_loose are some t.other bytes stop) (sym is) left.1;
    })

-- Quotes alone may stand at the place of a name.
pub quotes_at : (quoted : Quoted) (bytes : List ℕ) → QuotesAt (Quote quoted) quoted bytes
quotes_at quoted bytes = record {
  single = refl;
  double = refl;
  stops = λ stop leaves.
      let left = leaves_both 39 34 (InQuotes quoted false) (InQuotes quoted true) bytes stop (turned stop leaves) in
      stop_at (Quote quoted) bytes stop (record { no_end = λ end ends. cc; no_sign = left.0; other = left.1 });
}
  where
    swapped : (these : List ℕ) → NeitherFirst 34 39 these → NeitherFirst 39 34 these
    swapped [] neither = tt
    swapped (b ∷ these) neither = (neither.1, neither.0)

    turned : (stop : Stop) → LeavesBoth 34 39 bytes stop → LeavesBoth 39 34 bytes stop
    turned stops.Memory leaves = leaves
    turned (stops.Syntax left) leaves = (leaves.0, swapped bytes leaves.1)
    turned (stops.Bad kind left) leaves = leaves

-- ---- identifiers

-- an identifier, and any blanks after it, at a place where one may stand
pub first_id_leads : (edges : Bool) (id : ℕ) (bytes middle rest : List ℕ) → Reads (AnyNumber most_id) id bytes middle → Reads AnyBlanks tt middle rest
    → LeadsTo (FirstId edges) bytes (AfterId edges (id ∷ [])) rest
first_id_leads edges id bytes middle rest reads blanks =
    reaches_next turn is_loose are some (FirstId edges) bytes (AfterId edges (id ∷ [])) middle rest
    (record { prefix = reads.takes.prefix; bytes_are = reads.takes.bytes_are; how = inr (id, refl, tt, reads.bounded, reads.takes.is, reads.takes.ends) })
    blanks

pub next_id_leads : (edges : Bool) (ids : List ℕ) (id : ℕ) (bytes middle rest : List ℕ) → Reads (AnyNumber most_id) id bytes middle
    → Reads AnyBlanks tt middle rest → LeadsTo (NextId edges ids) bytes (AfterId edges (ids ++ id ∷ [])) rest
next_id_leads edges ids id bytes middle rest reads blanks =
    reaches_next turn is_loose are some (NextId edges ids) bytes (AfterId edges (ids ++ id ∷ [])) middle rest
    (record { prefix = reads.takes.prefix; bytes_are = reads.takes.bytes_are; how = inr (id, refl, tt, reads.bounded, reads.takes.is, reads.takes.ends) })
    blanks

-- where an identifier doesn't stand, and no parenthesis closes
pub stop_at_first_id : (edges : Bool) (bytes : List ℕ) (stop : Stop) → first_byte bytes ≢ Some 41 → Leaves (AnyNumber most_id) bytes stop
    → StopsFrom (FirstId edges) bytes stop
stop_at_first_id edges bytes stop unclosed leaves = stop_at (FirstId edges) bytes stop
    (record { no_end = λ end ends. cc; no_sign = no_one_sign 41 (Steps (query_from (elements_of edges []))) bytes unclosed; other = leaves })

pub stop_at_next_id : (edges : Bool) (ids : List ℕ) (bytes : List ℕ) (stop : Stop) → Leaves (AnyNumber most_id) bytes stop
    → StopsFrom (NextId edges ids) bytes stop
stop_at_next_id edges ids bytes stop leaves = stop_at (NextId edges ids) bytes stop
    (record { no_end = λ end ends. cc; no_sign = no_signs bytes; other = leaves })

-- ---- the whole source

opened_source_loose : (kind : SourceKind) → is_loose (opened_source kind) ≡ true
opened_source_loose sources.Vertices = refl
opened_source_loose sources.Edges = refl
opened_source_loose sources.NewVertex = refl
opened_source_loose sources.Found = refl

source_opens : (kind : SourceKind) (bytes rest : List ℕ) → ReadsToken (40 ∷ []) bytes rest → LeadsTo (Opening kind) bytes (opened_source kind) rest
source_opens kind bytes rest token = token_leads (Opening kind) 40 (opened_source kind) bytes rest refl (opened_source_loose kind) token

stop_at_opening_of : (kind : SourceKind) (bytes : List ℕ) (stop : Stop) → Leaves (Sign (40 ∷ [])) bytes stop → StopsFrom (Opening kind) bytes stop
stop_at_opening_of kind bytes stop leaves = stop_at_sign (Opening kind) 40 (opened_source kind) bytes stop refl leaves

kind_read : (bytes at_kind at_open : List ℕ) (kind : SourceKind) → ReadsToken (46 ∷ []) bytes at_kind → LeadsTo SourceName at_kind (Opening kind) at_open
    → LeadsTo Start bytes (Opening kind) at_open
kind_read bytes at_kind at_open kind dot named = on Start bytes SourceName at_kind (Opening kind) at_open
    (token_leads Start 46 SourceName bytes at_kind refl refl dot) named

pub source_read : (bytes at_kind at_open rest : List ℕ) (kind : SourceKind) → ReadsToken (46 ∷ []) bytes at_kind
    → LeadsTo SourceName at_kind (Opening kind) at_open → ReadsToken (40 ∷ []) at_open rest → LeadsTo Start bytes (opened_source kind) rest
source_read bytes at_kind at_open rest kind dot named parenthesis = on Start bytes (Opening kind) at_open (opened_source kind) rest
    (kind_read bytes at_kind at_open kind dot named) (source_opens kind at_open rest parenthesis)

pub stop_in_kind : (bytes at_kind : List ℕ) (stop : Stop) → ReadsToken (46 ∷ []) bytes at_kind → StopsFrom SourceName at_kind stop → StopsFrom Start bytes stop
stop_in_kind bytes at_kind stop dot at = (token_leads Start 46 SourceName bytes at_kind refl refl dot).stops stop at

pub stop_in_opening : (bytes at_kind at_open : List ℕ) (kind : SourceKind) (stop : Stop) → ReadsToken (46 ∷ []) bytes at_kind
    → LeadsTo SourceName at_kind (Opening kind) at_open → Leaves (Sign (40 ∷ [])) at_open stop → StopsFrom Start bytes stop
stop_in_opening bytes at_kind at_open kind stop dot named leaves = (kind_read bytes at_kind at_open kind dot named).stops stop
    (stop_at_opening_of kind at_open stop leaves)

-- ---- identifiers up to the parenthesis

pub no_ids : (bytes rest : List ℕ) (edges : Bool) → ReadsToken (41 ∷ []) bytes rest
    → LeadsTo (FirstId edges) bytes (Steps (query_from (elements_of edges []))) rest
no_ids bytes rest edges closed = token_leads (FirstId edges) 41 (Steps (query_from (elements_of edges []))) bytes rest refl refl closed

-- what a comma, or a parenthesis, after an identifier leads to
abbrev pub after_comma : Bool → List ℕ → Bool → Place
after_comma edges ids more = cond more (NextId edges ids) (Steps (query_from (elements_of edges ids)))

pub ids_on : (edges : Bool) (ids : List ℕ) (bytes rest : List ℕ) (more : Bool) → ReadsToken (cond more 44 41 ∷ []) bytes rest
    → LeadsTo (AfterId edges ids) bytes (after_comma edges ids more) rest
ids_on edges ids bytes rest more token = comma_leads (AfterId edges ids) (NextId edges ids) (Steps (query_from (elements_of edges ids))) bytes rest more refl
    refl refl refl token

pub first_ids : (bytes after rest : List ℕ) (id : ℕ) (more : Bool) → ReadsId id bytes after → ReadsToken (cond more 44 41 ∷ []) after rest → (edges : Bool)
    → LeadsTo (FirstId edges) bytes (after_comma edges (id ∷ []) more) rest
first_ids bytes after rest id more (middle, reads, blanks) token edges =
    on (FirstId edges) bytes (AfterId edges (id ∷ [])) after (after_comma edges (id ∷ []) more) rest (first_id_leads edges id bytes middle after reads blanks)
    (ids_on edges (id ∷ []) after rest more token)

pub stop_after_first_id : (bytes after : List ℕ) (id : ℕ) (stop : Stop) → ReadsId id bytes after → LeavesBoth 44 41 after stop → (edges : Bool)
    → StopsFrom (FirstId edges) bytes stop
stop_after_first_id bytes after id stop (middle, reads, blanks) leaves edges =
    (first_id_leads edges id bytes middle after reads blanks).stops stop
    (stop_at_comma (AfterId edges (id ∷ [])) (NextId edges (id ∷ [])) (Steps (query_from (elements_of edges (id ∷ [])))) after stop refl leaves)

-- What is kept while identifiers are read.
abbrev pub IdsSoFar : List ℕ → Bool → List ℕ → List ℕ → Type 0
IdsSoFar bytes more ids rest = (edges : Bool) → LeadsTo (FirstId edges) bytes (after_comma edges ids more) rest

to_next_id : (bytes rest : List ℕ) (ids : List ℕ) (more : Bool) → more ≡ true → IdsSoFar bytes more ids rest → (edges : Bool)
    → LeadsTo (FirstId edges) bytes (NextId edges ids) rest
to_next_id bytes rest ids more goes so_far edges = subst (λ (t : Bool). LeadsTo (FirstId edges) bytes (after_comma edges ids t) rest) goes (so_far edges)

pub ids_more : (bytes rest after later : List ℕ) (ids : List ℕ) (id : ℕ) (more again : Bool) → more ≡ true → IdsSoFar bytes more ids rest
    → ReadsId id rest after → ReadsToken (cond again 44 41 ∷ []) after later → IdsSoFar bytes again (ids ++ id ∷ []) later
ids_more bytes rest after later ids id more again goes so_far (middle, reads, blanks) token = λ edges.
    let one = on (FirstId edges) bytes (NextId edges ids) rest (AfterId edges (ids ++ id ∷ [])) after (to_next_id bytes rest ids more goes so_far edges)
    (next_id_leads edges ids id rest middle after reads blanks) in
    on (FirstId edges) bytes (AfterId edges (ids ++ id ∷ [])) after (after_comma edges (ids ++ id ∷ []) again) later one
    (ids_on edges (ids ++ id ∷ []) after later again token)

pub stop_in_ids : (bytes rest : List ℕ) (ids : List ℕ) (more : Bool) (stop : Stop) → more ≡ true → IdsSoFar bytes more ids rest
    → Leaves (AnyNumber most_id) rest stop → (edges : Bool) → StopsFrom (FirstId edges) bytes stop
stop_in_ids bytes rest ids more stop goes so_far leaves edges = (to_next_id bytes rest ids more goes so_far edges).stops stop
    (stop_at_next_id edges ids rest stop leaves)

pub stop_after_id : (bytes rest after : List ℕ) (ids : List ℕ) (id : ℕ) (more : Bool) (stop : Stop) → more ≡ true → IdsSoFar bytes more ids rest
    → ReadsId id rest after → LeavesBoth 44 41 after stop → (edges : Bool) → StopsFrom (FirstId edges) bytes stop
stop_after_id bytes rest after ids id more stop goes so_far (middle, reads, blanks) leaves edges =
    let one = on (FirstId edges) bytes (NextId edges ids) rest (AfterId edges (ids ++ id ∷ [])) after (to_next_id bytes rest ids more goes so_far edges)
    (next_id_leads edges ids id rest middle after reads blanks) in
    one.stops stop (stop_at_comma (AfterId edges (ids ++ id ∷ [])) (NextId edges (ids ++ id ∷ [])) (Steps (query_from (elements_of edges (ids ++ id ∷ []))))
    after stop refl leaves)

pub ids_done : (bytes rest : List ℕ) (ids : List ℕ) (more : Bool) → more ≡ false → IdsSoFar bytes more ids rest → (edges : Bool)
    → LeadsTo (FirstId edges) bytes (Steps (query_from (elements_of edges ids))) rest
ids_done bytes rest ids more stops so_far edges = subst (λ (t : Bool). LeadsTo (FirstId edges) bytes (after_comma edges ids t) rest) stops (so_far edges)

pub stop_of_memory : (place : Place) (bytes : List ℕ) (stop : Stop) → stop ≡ stops.Memory → StopsFrom place bytes stop
stop_of_memory place bytes stop memory = subst (StopsFrom place bytes) (sym memory) tt

-- ---- the name of a step

-- the words that may stand there, each once
pub table_after : (is_ordered : Bool) → IsWordTable (words_after is_ordered)
table_after true = ordered_table
table_after false = step_table

-- No step has the name `by`.
pub by_is_ordered : (is_ordered : Bool) (bytes rest : List ℕ) (word : StepWord) → TakesWord (words_after is_ordered) bytes word rest → word ≡ words.By
    → is_ordered ≡ true
by_is_ordered true bytes rest word takes by = refl
by_is_ordered false bytes rest word (run, cut, is) by =
    let other : is_by word ≡ false = all_in (λ (e : Entry StepWord). is_by e.1 ≡ false) step_words (run, word) (
      refl,
      (
        refl,
        (
          refl,
          (
            refl,
            (
              refl,
              (refl, (refl, (refl, (refl, (refl, (refl, (refl, (refl, (refl, (refl, (refl, (refl, (refl, (refl, (refl, (refl, (refl, tt))))))))))))))))),
            ),
          ),
        ),
      ),
    )
    (lookup_in step_words run word is) in
    let clash : true ≡ false = ap is_by (sym by) ∙ other in
    cc

-- the place of a name after its dot
abbrev names_place : Bool → Query → Place
names_place is_ordered query = cond is_ordered (OrderedName query) (StepName query)

word_leads : (is_ordered : Bool) (query : Query) (word : StepWord) (bytes middle rest : List ℕ) → step_fault (stage_of query) word bytes ≡ None
    → TakesWord (words_after is_ordered) bytes word middle → Reads AnyBlanks tt middle rest
    → LeadsTo (names_place is_ordered query) bytes (Opens query word) rest
word_leads true query word bytes middle rest no_fault (run, cut, is) blanks =
    reaches_next turn is_loose are some (OrderedName query) bytes (Opens query word) middle rest
    (record {
      prefix = run;
      bytes_are = cut.bytes_are;
      how = inr (
        word,
        refl,
        subst (λ b. step_fault (stage_of query) word b ≡ None) cut.bytes_are no_fault,
        is,
        cut.passes,
        cut.ends,
      );
    })
    blanks
word_leads false query word bytes middle rest no_fault (run, cut, is) blanks =
    reaches_next turn is_loose are some (StepName query) bytes (Opens query word) middle rest
    (record {
      prefix = run;
      bytes_are = cut.bytes_are;
      how = inr (
        word,
        refl,
        subst (λ b. step_fault (stage_of query) word b ≡ None) cut.bytes_are no_fault,
        is,
        cut.passes,
        cut.ends,
      );
    })
    blanks

pub after_step_loose : (into : Into) (step : BodyStep) → is_loose (after_step into step) ≡ true
after_step_loose (OfQuery query) step = refl
after_step_loose (OfBody query body) step = refl

after_filter_loose : (into : Into) (filter : Filter) → is_loose (after_filter into filter) ≡ true
after_filter_loose into filter = after_step_loose into (bodies.Filter filter)

after_names_loose : (purpose : NamesFor) (names : List (List ℕ)) → is_loose (after_names purpose names) ≡ true
after_names_loose (OfStep query step) names = refl
after_names_loose (OfMaps query) names = refl
after_names_loose (OfHop into direction) names = after_step_loose into _
after_names_loose (OfLabels into) names = after_filter_loose into _

pub opened_body_loose : (into : Into) (word : BodyWord) → is_loose (opened_body into word) ≡ true
opened_body_loose into (of_body.Neighbours direction) = refl
opened_body_loose into of_body.HasLabel = refl
opened_body_loose into of_body.Has = refl

opened_is_loose : (query : Query) (word : StepWord) → is_loose (opened query word) ≡ true
opened_is_loose query (words.Bare bare) = refl
opened_is_loose query (words.Names step) = refl
opened_is_loose query (words.Body word) = opened_body_loose (OfQuery query) word
opened_is_loose query words.ElementMap = refl
opened_is_loose query words.Limit = refl
opened_is_loose query words.Order = refl
opened_is_loose query words.By = refl
opened_is_loose query words.Repeat = refl
opened_is_loose query (words.Change changes.AddE) = refl
opened_is_loose query (words.Change changes.Property) = refl
opened_is_loose query (words.Change changes.Drop) = refl

pub stop_at_dot : (is_ordered : Bool) (query : Query) (bytes : List ℕ) (stop : Stop) → bytes ≢ [] → Leaves (Sign (46 ∷ [])) bytes stop
    → StopsFrom (steps_place is_ordered query) bytes stop
stop_at_dot true query bytes stop some_bytes leaves =
    let left = leaves_sign 46 (OrderedName query) bytes stop leaves in
    stop_at (Ordered query) bytes stop (record { no_end = λ end ends. some_bytes; no_sign = left.0; other = left.1 })
stop_at_dot false query bytes stop some_bytes leaves =
    let left = leaves_sign 46 (StepName query) bytes stop leaves in
    stop_at (Steps query) bytes stop (record { no_end = λ end ends. some_bytes; no_sign = left.0; other = left.1 })

dot_leads : (is_ordered : Bool) (query : Query) (bytes at_name : List ℕ) → ReadsToken (46 ∷ []) bytes at_name
    → LeadsTo (steps_place is_ordered query) bytes (names_place is_ordered query) at_name
dot_leads true query bytes at_name token = token_leads (Ordered query) 46 (OrderedName query) bytes at_name refl refl token
dot_leads false query bytes at_name token = token_leads (Steps query) 46 (StepName query) bytes at_name refl refl token

stop_at_name : (is_ordered : Bool) (query : Query) (at_name : List ℕ) (stop : Stop)
    → LeavesWords (words_after is_ordered) (step_fault (stage_of query)) at_name stop → StopsFrom (names_place is_ordered query) at_name stop
stop_at_name true query at_name stop leaves = stop_at (OrderedName query) at_name stop
    (record { no_end = λ end ends. cc; no_sign = no_signs at_name; other = leaves })
stop_at_name false query at_name stop leaves = stop_at (StepName query) at_name stop
    (record { no_end = λ end ends. cc; no_sign = no_signs at_name; other = leaves })

pub stop_at_step_name : (stage : Stage) (is_ordered : Bool) (bytes at_name : List ℕ) (stop : Stop) → ReadsToken (46 ∷ []) bytes at_name
    → LeavesWords (words_after is_ordered) (step_fault stage) at_name stop → (query : Query) → stage_of query ≡ stage
    → StopsFrom (steps_place is_ordered query) bytes stop
stop_at_step_name stage is_ordered bytes at_name stop token leaves query same =
    (dot_leads is_ordered query bytes at_name token).stops stop (stop_at_name is_ordered query at_name stop
    (subst (λ (s : Stage). LeavesWords (words_after is_ordered) (step_fault s) at_name stop) (sym same) leaves))

-- The name has no fault after the query so far.
faultless : (stage : Stage) (word : StepWord) (bytes : List ℕ) (query : Query) → step_fault stage word bytes ≡ None → stage_of query ≡ stage
    → step_fault (stage_of query) word bytes ≡ None
faultless stage word bytes query no_fault same = ap (λ (s : Stage). step_fault s word bytes) same ∙ no_fault

opens_read : (stage : Stage) (is_ordered : Bool) (bytes at_name after_name at_open : List ℕ) (word : StepWord) → ReadsToken (46 ∷ []) bytes at_name
    → step_fault stage word at_name ≡ None → TakesWord (words_after is_ordered) at_name word after_name → Reads AnyBlanks tt after_name at_open
    → (query : Query) → stage_of query ≡ stage → LeadsTo (steps_place is_ordered query) bytes (Opens query word) at_open
opens_read stage is_ordered bytes at_name after_name at_open word token no_fault takes blanks query same =
    on (steps_place is_ordered query) bytes (names_place is_ordered query) at_name (Opens query word) at_open (dot_leads is_ordered query bytes at_name token)
    (word_leads is_ordered query word at_name after_name at_open (faultless stage word at_name query no_fault same) takes blanks)

pub stop_at_opening : (stage : Stage) (is_ordered : Bool) (bytes at_name after_name at_open : List ℕ) (word : StepWord) (stop : Stop)
    → ReadsToken (46 ∷ []) bytes at_name → step_fault stage word at_name ≡ None → TakesWord (words_after is_ordered) at_name word after_name
    → Reads AnyBlanks tt after_name at_open → Leaves (Sign (40 ∷ [])) at_open stop → (query : Query) → stage_of query ≡ stage
    → StopsFrom (steps_place is_ordered query) bytes stop
stop_at_opening stage is_ordered bytes at_name after_name at_open word stop token no_fault takes blanks leaves query same =
    (opens_read stage is_ordered bytes at_name after_name at_open word token no_fault takes blanks query same).stops stop
    (stop_at_sign (Opens query word) 40 (opened query word) at_open stop refl leaves)

pub opening_read : (stage : Stage) (is_ordered : Bool) (bytes at_name after_name at_open rest : List ℕ) (word : StepWord) → ReadsToken (46 ∷ []) bytes at_name
    → step_fault stage word at_name ≡ None → TakesWord (words_after is_ordered) at_name word after_name → Reads AnyBlanks tt after_name at_open
    → ReadsToken (40 ∷ []) at_open rest → (query : Query) → stage_of query ≡ stage → LeadsTo (steps_place is_ordered query) bytes (opened query word) rest
opening_read stage is_ordered bytes at_name after_name at_open rest word token no_fault takes blanks opening query same =
    on (steps_place is_ordered query) bytes (Opens query word) at_open (opened query word) rest
    (opens_read stage is_ordered bytes at_name after_name at_open word token no_fault takes blanks query same)
    (token_leads (Opens query word) 40 (opened query word) at_open rest refl (opened_is_loose query word) opening)

pub opening_shorter : (table : List (Entry StepWord)) (bytes at_name after_name at_open rest : List ℕ) (word : StepWord) → ReadsToken (46 ∷ []) bytes at_name
    → TakesWord table at_name word after_name → Reads AnyBlanks tt after_name at_open → ReadsToken (40 ∷ []) at_open rest → length rest < length bytes
opening_shorter table bytes at_name after_name at_open rest word token (run, cut, is) blanks opening =
    let first = token_shorter 46 bytes at_name token in
    let second : length at_name ≡ length run + length after_name = ap length cut.bytes_are ∙ length-append run after_name in
    let third : length after_name ≡ length blanks.takes.prefix + length at_open = ap length blanks.takes.bytes_are
    ∙ length-append blanks.takes.prefix at_open in
    let fourth = token_shorter 40 at_open rest opening in
    omega (arith, first, second, third, fourth)

-- ---- names of a step

-- what a comma, or a parenthesis, after a name leads to
abbrev pub after_name : NamesFor → List (List ℕ) → Bool → Place
after_name purpose names more = cond more (Quote (OneName purpose names)) (after_names purpose names)

names_on : (purpose : NamesFor) (names : List (List ℕ)) (bytes rest : List ℕ) (more : Bool) → ReadsToken (cond more 44 41 ∷ []) bytes rest
    → LeadsTo (AfterName purpose names) bytes (after_name purpose names more) rest
names_on purpose names bytes rest more token = comma_leads (AfterName purpose names) (Quote (OneName purpose names)) (after_names purpose names) bytes rest more
    refl refl refl (after_names_loose purpose names) token

-- What a quoted name promises: from each place of it, to what follows.
abbrev pub NameReads : List ℕ → List ℕ → List ℕ → Type 0
NameReads name bytes rest = (place : Place) (quoted : Quoted) → QuotesAt place quoted bytes → LeadsTo place bytes (after_quoted quoted name) rest

abbrev pub NameStops : List ℕ → Stop → Type 0
NameStops bytes stop = (place : Place) (quoted : Quoted) → QuotesAt place quoted bytes → StopsFrom place bytes stop

-- What a name of a list promises, with the comma or the parenthesis after it: it stands after those before it.
abbrev pub ListedName : List ℕ → List ℕ → Bool → List ℕ → Type 0
ListedName bytes name more rest = (purpose : NamesFor) (names : List (List ℕ)) (place : Place) → QuotesAt place (OneName purpose names) bytes
    → LeadsTo place bytes (after_name purpose (names ++ name ∷ []) more) rest

abbrev pub StopsInList : List ℕ → Stop → Type 0
StopsInList bytes stop = (purpose : NamesFor) (names : List (List ℕ)) (place : Place) → QuotesAt place (OneName purpose names) bytes
    → StopsFrom place bytes stop

pub name_listed : (bytes after rest name : List ℕ) (more : Bool) → NameReads name bytes after → ReadsToken (cond more 44 41 ∷ []) after rest
    → ListedName bytes name more rest
name_listed bytes after rest name more reads token = λ purpose names place quotes.
    on place bytes (AfterName purpose (names ++ name ∷ [])) after (after_name purpose (names ++ name ∷ []) more) rest
    (reads place (OneName purpose names) quotes) (names_on purpose (names ++ name ∷ []) after rest more token)

pub stop_after_name : (bytes after name : List ℕ) (stop : Stop) → NameReads name bytes after → LeavesBoth 44 41 after stop → StopsInList bytes stop
stop_after_name bytes after name stop reads leaves purpose names place quotes =
    (reads place (OneName purpose names) quotes).stops stop (stop_at_comma (AfterName purpose (names ++ name ∷ []))
    (Quote (OneName purpose (names ++ name ∷ []))) (after_names purpose (names ++ name ∷ [])) after stop refl leaves)

-- After these names one more stands at some place, or none.
abbrev pub NextName : Bool → NamesFor → List (List ℕ) → Place → List ℕ → List ℕ → Type 0
NextName true purpose names place bytes rest = (here : Place) × LeadsTo place bytes here rest × QuotesAt here (OneName purpose names) rest
NextName false purpose names place bytes rest = LeadsTo place bytes (after_names purpose names) rest

-- What is kept while names are read.
abbrev pub NamesSoFar : List ℕ → Bool → List (List ℕ) → List ℕ → Type 0
NamesSoFar bytes more names rest = (purpose : NamesFor) (place : Place) → QuotesAt place (OneName purpose []) bytes
    → NextName more purpose names place bytes rest

pub before_names : (bytes : List ℕ) → NamesSoFar bytes true [] bytes
before_names bytes purpose place quotes = (place, record { stops = λ stop at. at; kept = λ end kept. kept }, quotes)

to_next_name : (bytes rest : List ℕ) (names : List (List ℕ)) (more : Bool) → more ≡ true → NamesSoFar bytes more names rest → NamesSoFar bytes true names rest
to_next_name bytes rest names more goes so_far = subst (λ (t : Bool). NamesSoFar bytes t names rest) goes so_far

pub names_more : (bytes rest later name : List ℕ) (names : List (List ℕ)) (more again : Bool) → more ≡ true → NamesSoFar bytes more names rest
    → ListedName rest name again later → NamesSoFar bytes again (names ++ name ∷ []) later
names_more bytes rest later name names more again goes so_far listed purpose place quotes =
    let (here, leads, at) = to_next_name bytes rest names more goes so_far purpose place quotes in
    by_comma again (on place bytes here rest (after_name purpose (names ++ name ∷ []) again) later leads (listed purpose names here at))
  where
    by_comma : (t : Bool) → LeadsTo place bytes (after_name purpose (names ++ name ∷ []) t) later → NextName t purpose (names ++ name ∷ []) place bytes later
    by_comma true leads = (Quote (OneName purpose (names ++ name ∷ [])), leads, quotes_at (OneName purpose (names ++ name ∷ [])) later)
    by_comma false leads = leads

pub stop_in_names : (bytes rest : List ℕ) (names : List (List ℕ)) (more : Bool) (stop : Stop) → more ≡ true → NamesSoFar bytes more names rest
    → StopsInList rest stop → (purpose : NamesFor) (place : Place) → QuotesAt place (OneName purpose []) bytes → StopsFrom place bytes stop
stop_in_names bytes rest names more stop goes so_far stops purpose place quotes =
    let (here, leads, at) = to_next_name bytes rest names more goes so_far purpose place quotes in
    leads.stops stop (stops purpose names here at)

pub names_done : (bytes rest : List ℕ) (names : List (List ℕ)) (more : Bool) → more ≡ false → NamesSoFar bytes more names rest
    → (purpose : NamesFor) (place : Place) → QuotesAt place (OneName purpose []) bytes → LeadsTo place bytes (after_names purpose names) rest
names_done bytes rest names more stops so_far = subst (λ (t : Bool). NamesSoFar bytes t names rest) stops so_far

-- Where no parenthesis closes, quotes alone may stand at the place of a first name.
quotes_first : (purpose : NamesFor) (bytes : List ℕ) → first_byte bytes ≢ Some 41 → QuotesAt (FirstName purpose) (OneName purpose []) bytes
quotes_first purpose bytes unclosed = record {
  single = refl;
  double = refl;
  stops = λ stop leaves. stop_first stop leaves;
}
  where
    none : (these : List ℕ) → first_byte these ≢ Some 41 → NeitherFirst 34 39 these
        → NoSign ((41, after_names purpose []) ∷ (39, InQuotes (OneName purpose []) false) ∷ (34, InQuotes (OneName purpose []) true) ∷ []) these
    none [] unclosed neither = tt
    none (c ∷ these) unclosed neither =
        ap (λ (t : Bool). cond t (Some (after_names purpose [])) (sign_at ((39, InQuotes (OneName purpose []) false) ∷ (34, InQuotes (OneName purpose []) true)
        ∷ []) c)) (other_byte 41 c (λ same. unclosed (ap (λ (n : ℕ). Some n) same)))
        ∙ no_two_signs 39 34 (InQuotes (OneName purpose []) false) (InQuotes (OneName purpose []) true) (c ∷ these) (neither.1, neither.0)

    stop_first : (stop : Stop) → LeavesBoth 34 39 bytes stop → StopsFrom (FirstName purpose) bytes stop
    stop_first stops.Memory leaves = absurd leaves
    stop_first (stops.Syntax left) leaves = stop_at (FirstName purpose) bytes (stops.Syntax left)
        (record { no_end = λ end ends. cc; no_sign = none bytes unclosed leaves.1; other = leaves.0 })
    stop_first (stops.Bad kind left) leaves = absurd leaves

-- the place of a first name
pub quotes_needed : (purpose : NamesFor) (bytes : List ℕ) → needs_name purpose ≡ true → QuotesAt (opened_names purpose) (OneName purpose []) bytes
quotes_needed (OfStep query step) bytes needs = cc
quotes_needed (OfMaps query) bytes needs = cc
quotes_needed (OfHop into direction) bytes needs = cc
quotes_needed (OfLabels into) bytes needs = quotes_at (OneName (OfLabels into) []) bytes

pub quotes_unclosed : (purpose : NamesFor) (bytes : List ℕ) → needs_name purpose ≡ false → first_byte bytes ≢ Some 41
    → QuotesAt (opened_names purpose) (OneName purpose []) bytes
quotes_unclosed (OfStep query step) bytes free unclosed = quotes_first (OfStep query step) bytes unclosed
quotes_unclosed (OfMaps query) bytes free unclosed = quotes_first (OfMaps query) bytes unclosed
quotes_unclosed (OfHop into direction) bytes free unclosed = quotes_first (OfHop into direction) bytes unclosed
quotes_unclosed (OfLabels into) bytes free unclosed = cc

-- no names
pub no_names : (purpose : NamesFor) (bytes rest : List ℕ) → needs_name purpose ≡ false → ReadsToken (41 ∷ []) bytes rest
    → LeadsTo (opened_names purpose) bytes (after_names purpose []) rest
no_names (OfStep query step) bytes rest free token = token_leads (FirstName (OfStep query step)) 41 (after_names (OfStep query step) []) bytes rest refl refl
    token
no_names (OfMaps query) bytes rest free token = token_leads (FirstName (OfMaps query)) 41 (after_names (OfMaps query) []) bytes rest refl refl token
no_names (OfHop into direction) bytes rest free token = token_leads (FirstName (OfHop into direction)) 41 (after_names (OfHop into direction) []) bytes rest
    refl (after_names_loose (OfHop into direction) []) token
no_names (OfLabels into) bytes rest free token = cc

-- ---- the step without an argument

pub bare_read : (query : Query) (bare : BareStep) (bytes rest : List ℕ) → ReadsToken (41 ∷ []) bytes rest
    → LeadsTo (opened query (words.Bare bare)) bytes (Steps (with_step query (bare_step bare))) rest
bare_read query bare bytes rest token = token_leads (Closing query (bare_step bare)) 41 (Steps (with_step query (bare_step bare))) bytes rest refl refl token

pub stop_in_bare : (query : Query) (bare : BareStep) (bytes : List ℕ) (stop : Stop) → Leaves (Sign (41 ∷ [])) bytes stop
    → StopsFrom (opened query (words.Bare bare)) bytes stop
stop_in_bare query bare bytes stop leaves = stop_at_sign (Closing query (bare_step bare)) 41 (Steps (with_step query (bare_step bare))) bytes stop refl leaves

-- ---- limit

most_leads : (query : Query) (most : ℕ) (bytes middle rest : List ℕ) → Reads (AnyNumber most_limit) most bytes middle → Reads AnyBlanks tt middle rest
    → LeadsTo (Most query) bytes (Closing query (steps.Limit most)) rest
most_leads query most bytes middle rest reads blanks =
    reaches_next turn is_loose are some (Most query) bytes (Closing query (steps.Limit most)) middle rest
    (record { prefix = reads.takes.prefix; bytes_are = reads.takes.bytes_are; how = inr (most, refl, tt, reads.bounded, reads.takes.is, reads.takes.ends) })
    blanks

pub stop_in_most : (bytes : List ℕ) (stop : Stop) → Leaves (AnyNumber most_limit) bytes stop → (query : Query) → StopsFrom (Most query) bytes stop
stop_in_most bytes stop leaves query = stop_at (Most query) bytes stop (record { no_end = λ end ends. cc; no_sign = no_signs bytes; other = leaves })

pub stop_after_most : (bytes middle at_close : List ℕ) (most : ℕ) (stop : Stop) → Reads (AnyNumber most_limit) most bytes middle
    → Reads AnyBlanks tt middle at_close → Leaves (Sign (41 ∷ [])) at_close stop → (query : Query) → StopsFrom (Most query) bytes stop
stop_after_most bytes middle at_close most stop reads blanks leaves query =
    (most_leads query most bytes middle at_close reads blanks).stops stop
    (stop_at_sign (Closing query (steps.Limit most)) 41 (Steps (with_step query (steps.Limit most))) at_close stop refl leaves)

pub most_read : (bytes middle at_close rest : List ℕ) (most : ℕ) → Reads (AnyNumber most_limit) most bytes middle → Reads AnyBlanks tt middle at_close
    → ReadsToken (41 ∷ []) at_close rest → (query : Query) → LeadsTo (Most query) bytes (Steps (with_step query (steps.Limit most))) rest
most_read bytes middle at_close rest most reads blanks close query =
    on (Most query) bytes (Closing query (steps.Limit most)) at_close (Steps (with_step query (steps.Limit most))) rest
    (most_leads query most bytes middle at_close reads blanks) (token_leads (Closing query (steps.Limit most)) 41 (Steps (with_step query (steps.Limit most)))
    at_close rest refl refl close)

-- ---- has

key_leads : (into : Into) (name bytes after : List ℕ) → NameReads name bytes after → LeadsTo (Quote (Key into)) bytes (AfterKey into name) after
key_leads into name bytes after reads = reads (Quote (Key into)) (Key into) (quotes_at (Key into) bytes)

pub stop_in_key : (bytes : List ℕ) (stop : Stop) → NameStops bytes stop → (into : Into) → StopsFrom (Quote (Key into)) bytes stop
stop_in_key bytes stop at into = at (Quote (Key into)) (Key into) (quotes_at (Key into) bytes)

pub stop_after_key : (name bytes after : List ℕ) (stop : Stop) → NameReads name bytes after → LeavesBoth 44 41 after stop → (into : Into)
    → StopsFrom (Quote (Key into)) bytes stop
stop_after_key name bytes after stop reads leaves into =
    (key_leads into name bytes after reads).stops stop (stop_at_comma (AfterKey into name) (ValueOf into name) (after_filter into (filters.Has name))
    after stop refl leaves)

comma_after_key : (into : Into) (name bytes after rest : List ℕ) (more : Bool) → NameReads name bytes after → ReadsToken (cond more 44 41 ∷ []) after rest
    → LeadsTo (Quote (Key into)) bytes (cond more (ValueOf into name) (after_filter into (filters.Has name))) rest
comma_after_key into name bytes after rest more reads token =
    on (Quote (Key into)) bytes (AfterKey into name) after (cond more (ValueOf into name) (after_filter into (filters.Has name))) rest
    (key_leads into name bytes after reads)
    (comma_leads (AfterKey into name) (ValueOf into name) (after_filter into (filters.Has name)) after rest more refl refl refl (after_filter_loose into
    (filters.Has name)) token)

pub has_read : (name bytes after rest : List ℕ) (more : Bool) → more ≡ false → NameReads name bytes after → ReadsToken (cond more 44 41 ∷ []) after rest
    → (into : Into) → LeadsTo (Quote (Key into)) bytes (after_filter into (filters.Has name)) rest
has_read name bytes after rest more ends reads token into =
    subst (λ (t : Bool). LeadsTo (Quote (Key into)) bytes (cond t (ValueOf into name) (after_filter into (filters.Has name))) rest) ends
    (comma_after_key into name bytes after rest more reads token)

at_value_leads : (into : Into) (name bytes after at_value : List ℕ) (more : Bool) → more ≡ true → NameReads name bytes after
    → ReadsToken (cond more 44 41 ∷ []) after at_value → LeadsTo (Quote (Key into)) bytes (ValueOf into name) at_value
at_value_leads into name bytes after at_value more goes reads token =
    subst (λ (t : Bool). LeadsTo (Quote (Key into)) bytes (cond t (ValueOf into name) (after_filter into (filters.Has name))) at_value) goes
    (comma_after_key into name bytes after at_value more reads token)

-- the argument after the key
pub stop_in_comparison : (name bytes after at_value : List ℕ) (more : Bool) (stop : Stop) → more ≡ true → NameReads name bytes after
    → ReadsToken (cond more 44 41 ∷ []) after at_value → ((into : Into) (key : List ℕ) → StopsFrom (ValueOf into key) at_value stop) → (into : Into)
    → StopsFrom (Quote (Key into)) bytes stop
stop_in_comparison name bytes after at_value more stop goes reads token at into =
    (at_value_leads into name bytes after at_value more goes reads token).stops stop (at into name)

pub comparison_read : (name bytes after at_value rest : List ℕ) (relation : Relation) (value : Value) (more : Bool) → more ≡ true → NameReads name bytes after
    → ReadsToken (cond more 44 41 ∷ []) after at_value → ((into : Into) (key : List ℕ) → LeadsTo (ValueOf into key) at_value
    (after_filter into (relation_filter key relation value)) rest) → (into : Into) → LeadsTo (Quote (Key into)) bytes
    (after_filter into (relation_filter name relation value)) rest
comparison_read name bytes after at_value rest relation value more goes reads token argument into =
    on (Quote (Key into)) bytes (ValueOf into name) at_value (after_filter into (relation_filter name relation value)) rest
    (at_value_leads into name bytes after at_value more goes reads token) (argument into name)

-- ---- a value without a predicate

plain_value_leads : (into : Into) (key : List ℕ) (value : Value) (bytes middle rest : List ℕ) → Reads AnyValue value bytes middle
    → Reads AnyBlanks tt middle rest → LeadsTo (ValueOf into key) bytes (ClosesFilter into (value_filter key value)) rest
plain_value_leads into key value bytes middle rest reads blanks =
    reaches_next turn is_loose are some (ValueOf into key) bytes (ClosesFilter into (value_filter key value)) middle rest
    (record {
      prefix = reads.takes.prefix;
      bytes_are = reads.takes.bytes_are;
      how = inr (inr (value, refl, tt, reads.bounded, reads.takes.is, reads.takes.ends));
    })
    blanks

pub stop_after_plain : (bytes middle at_close : List ℕ) (value : Value) (stop : Stop) → Reads AnyValue value bytes middle → Reads AnyBlanks tt middle at_close
    → Leaves (Sign (41 ∷ [])) at_close stop → (into : Into) (key : List ℕ) → StopsFrom (ValueOf into key) bytes stop
stop_after_plain bytes middle at_close value stop reads blanks leaves into key =
    (plain_value_leads into key value bytes middle at_close reads blanks).stops stop
    (stop_at_sign (ClosesFilter into (value_filter key value)) 41 (after_filter into (value_filter key value)) at_close stop refl leaves)

pub plain_read : (bytes middle at_close rest : List ℕ) (value : Value) → Reads AnyValue value bytes middle → Reads AnyBlanks tt middle at_close
    → ReadsToken (41 ∷ []) at_close rest → (into : Into) (key : List ℕ) → LeadsTo (ValueOf into key) bytes (after_filter into (value_filter key value)) rest
plain_read bytes middle at_close rest value reads blanks close into key =
    on (ValueOf into key) bytes (ClosesFilter into (value_filter key value)) at_close (after_filter into (value_filter key value)) rest
    (plain_value_leads into key value bytes middle at_close reads blanks)
    (token_leads (ClosesFilter into (value_filter key value)) 41 (after_filter into (value_filter key value)) at_close rest refl (after_filter_loose into
    (value_filter key value)) close)

-- Where neither a word for a relation nor a value stands, reading stops at the later place.
pub stop_at_argument : (bytes : List ℕ) (one two : Stop) → first_byte bytes ≢ Some 80 → Leaves (OneWord relation_names) bytes one → Leaves AnyValue bytes two
    → (into : Into) (key : List ℕ) → StopsFrom (ValueOf into key) bytes (later one two)
stop_at_argument bytes one two no_p first second into key =
    stop_at (ValueOf into key) bytes (later one two) (record {
      no_end = λ end ends. cc;
      no_sign = no_one_sign 80 (AfterP into key) bytes no_p;
      other = leaves_either (Leaves (OneWord relation_names) bytes) (Leaves AnyValue bytes) (λ none. none) (λ none. none) (λ kind left bad. bad.1) one two first
          second;
    })

-- ---- a predicate

named_relation : (relation : Relation) → relation_of (relation_name relation) ≡ relation
named_relation relations.Eq = refl
named_relation relations.Neq = refl
named_relation relations.Gt = refl
named_relation relations.Gte = refl
named_relation relations.Lt = refl
named_relation relations.Lte = refl

pub relation_leads : (into : Into) (key : List ℕ) (relation : Relation) (bytes rest : List ℕ) → ReadsRelation relation bytes rest
    → LeadsTo (ValueOf into key) bytes (OpensValue into key relation) rest
relation_leads into key relation bytes rest (middle, reads, blanks) =
    reaches_next turn is_loose are some (ValueOf into key) bytes (OpensValue into key relation) middle rest
    (record {
      prefix = reads.takes.prefix;
      bytes_are = reads.takes.bytes_are;
      how = inr (inl (
        relation_name relation,
        ap (OpensValue into key)
            (sym (named_relation relation)),
        reads.allowed,
        tt,
        reads.takes.is,
        reads.takes.ends,
      ));
    })
    blanks

p_leads : (into : Into) (key bytes at_dot at_relation : List ℕ) → ReadsToken (80 ∷ []) bytes at_dot → ReadsToken (46 ∷ []) at_dot at_relation
    → LeadsTo (ValueOf into key) bytes (RelationName into key) at_relation
p_leads into key bytes at_dot at_relation p dot =
    on (ValueOf into key) bytes (AfterP into key) at_dot (RelationName into key) at_relation
    (token_leads (ValueOf into key) 80 (AfterP into key) bytes at_dot refl refl p)
    (token_leads (AfterP into key) 46 (RelationName into key) at_dot at_relation refl refl dot)

pub stop_after_p : (bytes at_dot : List ℕ) (stop : Stop) → ReadsToken (80 ∷ []) bytes at_dot → Leaves (Sign (46 ∷ [])) at_dot stop
    → (into : Into) (key : List ℕ) → StopsFrom (ValueOf into key) bytes stop
stop_after_p bytes at_dot stop p leaves into key = (token_leads (ValueOf into key) 80 (AfterP into key) bytes at_dot refl refl p).stops stop
    (stop_at_sign (AfterP into key) 46 (RelationName into key) at_dot stop refl leaves)

pub stop_at_relation : (bytes at_dot at_relation : List ℕ) (stop : Stop) → ReadsToken (80 ∷ []) bytes at_dot → ReadsToken (46 ∷ []) at_dot at_relation
    → Leaves (OneWord relation_names) at_relation stop → (into : Into) (key : List ℕ) → StopsFrom (ValueOf into key) bytes stop
stop_at_relation bytes at_dot at_relation stop p dot leaves into key =
    (p_leads into key bytes at_dot at_relation p dot).stops stop (stop_at (RelationName into key) at_relation stop
    (record { no_end = λ end ends. cc; no_sign = no_signs at_relation; other = leaves }))

pub relation_within : (relation : Relation) (bytes rest : List ℕ) → ReadsRelation relation bytes rest → length rest ≤ length bytes
relation_within relation bytes rest (middle, reads, blanks) =
    let one : length bytes ≡ length reads.takes.prefix + length middle = ap length reads.takes.bytes_are ∙ length-append reads.takes.prefix middle in
    let after : length middle ≡ length blanks.takes.prefix + length rest = ap length blanks.takes.bytes_are ∙ length-append blanks.takes.prefix rest in
    omega (arith, one, after)

pub p_relation_leads : (bytes at_dot at_relation rest : List ℕ) (relation : Relation) → ReadsToken (80 ∷ []) bytes at_dot
    → ReadsToken (46 ∷ []) at_dot at_relation → ReadsRelation relation at_relation rest → (into : Into) (key : List ℕ)
    → LeadsTo (ValueOf into key) bytes (OpensValue into key relation) rest
p_relation_leads bytes at_dot at_relation rest relation p dot (middle, reads, blanks) into key =
    on (ValueOf into key) bytes (RelationName into key) at_relation (OpensValue into key relation) rest (p_leads into key bytes at_dot at_relation p dot)
    (reaches_next turn is_loose are some (RelationName into key) at_relation (OpensValue into key relation) middle rest
    (record {
      prefix = reads.takes.prefix;
      bytes_are = reads.takes.bytes_are;
      how = inr (
        relation_name relation,
        ap (OpensValue into key)
            (sym (named_relation relation)),
        reads.allowed,
        tt,
        reads.takes.is,
        reads.takes.ends,
      );
    })
    blanks)

opens_leads : (into : Into) (key : List ℕ) (relation : Relation) (bytes at_value : List ℕ) → ReadsToken (40 ∷ []) bytes at_value
    → LeadsTo (OpensValue into key relation) bytes (Compared into key relation) at_value
opens_leads into key relation bytes at_value token = token_leads (OpensValue into key relation) 40 (Compared into key relation) bytes at_value refl refl token

compared_leads : (into : Into) (key : List ℕ) (relation : Relation) (value : Value) (bytes at_value middle at_close : List ℕ)
    → ReadsToken (40 ∷ []) bytes at_value → Reads AnyValue value at_value middle → Reads AnyBlanks tt middle at_close
    → LeadsTo (OpensValue into key relation) bytes (ClosesValue into (relation_filter key relation value)) at_close
compared_leads into key relation value bytes at_value middle at_close token reads blanks =
    on (OpensValue into key relation) bytes (Compared into key relation) at_value (ClosesValue into (relation_filter key relation value)) at_close
    (opens_leads into key relation bytes at_value token)
    (reaches_next turn is_loose are some (Compared into key relation) at_value (ClosesValue into (relation_filter key relation value)) middle at_close
    (record { prefix = reads.takes.prefix; bytes_are = reads.takes.bytes_are; how = inr (value, refl, tt, reads.bounded, reads.takes.is, reads.takes.ends) })
    blanks)

inner_closed : (into : Into) (key : List ℕ) (relation : Relation) (value : Value) (bytes at_value middle at_close at_end : List ℕ)
    → ReadsToken (40 ∷ []) bytes at_value → Reads AnyValue value at_value middle → Reads AnyBlanks tt middle at_close → ReadsToken (41 ∷ []) at_close at_end
    → LeadsTo (OpensValue into key relation) bytes (ClosesFilter into (relation_filter key relation value)) at_end
inner_closed into key relation value bytes at_value middle at_close at_end token reads blanks close =
    let filter = relation_filter key relation value in
    on (OpensValue into key relation) bytes (ClosesValue into filter) at_close (ClosesFilter into filter) at_end
    (compared_leads into key relation value bytes at_value middle at_close token reads blanks)
    (token_leads (ClosesValue into filter) 41 (ClosesFilter into filter) at_close at_end refl refl close)

pub stop_at_open : (bytes : List ℕ) (stop : Stop) → Leaves (Sign (40 ∷ [])) bytes stop → (into : Into) (key : List ℕ) (relation : Relation)
    → StopsFrom (OpensValue into key relation) bytes stop
stop_at_open bytes stop leaves into key relation = stop_at_sign (OpensValue into key relation) 40 (Compared into key relation) bytes stop refl leaves

pub stop_in_compared : (bytes at_value : List ℕ) (stop : Stop) → ReadsToken (40 ∷ []) bytes at_value → Leaves AnyValue at_value stop
    → (into : Into) (key : List ℕ) (relation : Relation) → StopsFrom (OpensValue into key relation) bytes stop
stop_in_compared bytes at_value stop token leaves into key relation =
    (opens_leads into key relation bytes at_value token).stops stop (stop_at (Compared into key relation) at_value stop
    (record { no_end = λ end ends. cc; no_sign = no_signs at_value; other = leaves }))

pub stop_at_inner : (bytes at_value middle at_close : List ℕ) (value : Value) (stop : Stop) → ReadsToken (40 ∷ []) bytes at_value
    → Reads AnyValue value at_value middle → Reads AnyBlanks tt middle at_close → Leaves (Sign (41 ∷ [])) at_close stop
    → (into : Into) (key : List ℕ) (relation : Relation) → StopsFrom (OpensValue into key relation) bytes stop
stop_at_inner bytes at_value middle at_close value stop token reads blanks leaves into key relation =
    let filter = relation_filter key relation value in
    (compared_leads into key relation value bytes at_value middle at_close token reads blanks).stops stop
    (stop_at_sign (ClosesValue into filter) 41 (ClosesFilter into filter) at_close stop refl leaves)

pub stop_at_outer : (bytes at_value middle at_close at_end : List ℕ) (value : Value) (stop : Stop) → ReadsToken (40 ∷ []) bytes at_value
    → Reads AnyValue value at_value middle → Reads AnyBlanks tt middle at_close → ReadsToken (41 ∷ []) at_close at_end → Leaves (Sign (41 ∷ [])) at_end stop
    → (into : Into) (key : List ℕ) (relation : Relation) → StopsFrom (OpensValue into key relation) bytes stop
stop_at_outer bytes at_value middle at_close at_end value stop token reads blanks close leaves into key relation =
    let filter = relation_filter key relation value in
    (inner_closed into key relation value bytes at_value middle at_close at_end token reads blanks close).stops stop
    (stop_at_sign (ClosesFilter into filter) 41 (after_filter into filter) at_end stop refl leaves)

pub compared_read : (bytes at_value middle at_close at_end rest : List ℕ) (value : Value) → ReadsToken (40 ∷ []) bytes at_value
    → Reads AnyValue value at_value middle → Reads AnyBlanks tt middle at_close → ReadsToken (41 ∷ []) at_close at_end → ReadsToken (41 ∷ []) at_end rest
    → (into : Into) (key : List ℕ) (relation : Relation) → LeadsTo (OpensValue into key relation) bytes (after_filter into (relation_filter key relation value))
    rest
compared_read bytes at_value middle at_close at_end rest value token reads blanks close end into key relation =
    let filter = relation_filter key relation value in
    on (OpensValue into key relation) bytes (ClosesFilter into filter) at_end (after_filter into filter) rest
    (inner_closed into key relation value bytes at_value middle at_close at_end token reads blanks close)
    (token_leads (ClosesFilter into filter) 41 (after_filter into filter) at_end rest refl (after_filter_loose into filter) end)

-- ---- the steps

-- What the name of a step promises after the steps so far, with its parenthesis.
abbrev pub OpensStep : Stage → Bool → StepWord → List ℕ → List ℕ → Type 0
OpensStep stage is_ordered word rest at_arguments = (query : Query) → stage_of query ≡ stage
    → LeadsTo (steps_place is_ordered query) rest (opened query word) at_arguments

steps_end : (is_ordered : Bool) (query : Query) → (turn (steps_place is_ordered query)).ends ≡ Some (commands.Query (shown query))
steps_end true query = refl
steps_end false query = refl

-- the query at the line's end
pub query_kept : (place : Place) (query : Query) (bytes rest : List ℕ) (is_ordered : Bool) → LeadsTo place bytes (steps_place is_ordered query) rest → rest ≡ []
    → KeptFrom turn is_loose (commands.Query (shown query)) place bytes
query_kept place query bytes rest is_ordered leads none =
    leads.kept (commands.Query (shown query)) (kept_end turn is_loose are some (steps_place is_ordered query) (commands.Query (shown query)) rest
    (steps_end is_ordered query) none)

-- a step that changes the graph
pub stop_in_change : (place : Place) (query : Query) (stage : Stage) (is_ordered : Bool) (word : StepWord) (change : ChangeWord)
    (bytes rest at_arguments : List ℕ) (stop : Stop) → LeadsTo place bytes (steps_place is_ordered query) rest → stage_of query ≡ stage
    → OpensStep stage is_ordered word rest at_arguments → word ≡ words.Change change
    → ((query : Query) → steps_of query ≡ stage.steps → StopsFrom (opened query (words.Change change)) at_arguments stop) → StopsFrom place bytes stop
stop_in_change place query stage is_ordered word change bytes rest at_arguments stop leads same opens is at =
    leads.stops stop ((opens query same).stops stop (subst (λ (w : StepWord). StopsFrom (opened query w) at_arguments stop) (sym is)
    (at query (ap (λ (s : Stage). s.steps) same))))

pub change_kept : (place : Place) (query : Query) (stage : Stage) (is_ordered : Bool) (word : StepWord) (change : ChangeWord) (mutation : Mutation)
    (bytes rest at_arguments : List ℕ) → LeadsTo place bytes (steps_place is_ordered query) rest → stage_of query ≡ stage
    → OpensStep stage is_ordered word rest at_arguments → word ≡ words.Change change
    → ((query : Query) → steps_of query ≡ stage.steps → KeptFrom turn is_loose (commands.Mutate (Some query) mutation) (opened query (words.Change change))
    at_arguments) → KeptFrom turn is_loose (commands.Mutate (Some query) mutation) place bytes
change_kept place query stage is_ordered word change mutation bytes rest at_arguments leads same opens is kept =
    let command : Command = commands.Mutate (Some query) mutation in
    let here = subst (λ (w : StepWord). KeptFrom turn is_loose command (opened query w) at_arguments) (sym is)
    (kept query (ap (λ (s : Stage). s.steps) same)) in
    leads.kept command ((opens query same).kept command here)

-- the whole query
pub query_is_kept : (kind : SourceKind) (bytes at_source rest : List ℕ) (command : Command) → Reads AnyBlanks tt bytes at_source
    → LeadsTo Start at_source (opened_source kind) rest → KeptFrom turn is_loose command (opened_source kind) rest → IsKeptQuery command bytes
query_is_kept kind bytes at_source rest command blanks source kept = (
  blanks.takes.prefix,
  at_source,
  blanks.takes.bytes_are,
  blanks.takes.is,
  source.kept
      command kept,
)

-- a stop after the blanks
pub query_stops : (bytes at_source : List ℕ) (stop : Stop) → Reads AnyBlanks tt bytes at_source → StopsFrom Start at_source stop → StopsInQuery bytes stop
query_stops bytes at_source stop blanks at = stop_after_blanks turn is_loose are some Start bytes at_source stop blanks at
