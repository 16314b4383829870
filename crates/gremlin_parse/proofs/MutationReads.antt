-- What the readers of steps that change the graph have read, from place to place.
use Rattle.std.proofs.Common.{◌≡◌, ◌≢◌, ◌≤◌, ◌<◌, ◌+◌, inr, ℕ, cond, Bool, true, false, Some, None, List, [], ◌∷◌}
use Rattle.std.proofs.Common.{length, codes, refl, sym, ap, ◌∙◌, subst, length-append, arith}
use Rattle.plain_graph.specs.declared.command.Command.TheVariants as commands
use Rattle.plain_graph.specs.declared.mutation.Mutation.TheVariants as mutations
use Rattle.plain_graph.specs.declared.pairs.Pair.{Pair}
use Rattle.plain_graph.specs.declared.query.Query.{Query}
use Rattle.plain_graph.specs.declared.value.Value.{Value}
use Rattle.gremlin_parse.specs.Grammar.{most_id}
use Rattle.gremlin_parse.specs.Keywords.{TakesWord}
use Rattle.gremlin_parse.specs.Queries.{Subject, NewVertex, NewEdges, Elements, VertexLabel, EdgeType, PairKey}
use Rattle.gremlin_parse.specs.Queries.{VertexCloses, TypeCloses, AfterType, ToWord, OpensTo, ToFirst, ToUnderscore}
use Rattle.gremlin_parse.specs.Queries.{ToAnonymous, ToVertex, OpensId, ToId, IdCloses, ToCloses, DropCloses, Dropped}
use Rattle.gremlin_parse.specs.Queries.{Changed, PropertyName, OpensProperty, AfterPairKey, PairValue, PairCloses}
use Rattle.gremlin_parse.specs.Queries.{Quote, LeavesBoth, LeadsTo, StopsFrom, changed, is_loose, property_words}
use Rattle.gremlin_parse.specs.Queries.{steps_before, turn, with_pair, PairFor, OfChange, OfSource, after_pair}
use Rattle.gremlin_parse.specs.Stages.{late_fault}
use Rattle.gremlin_parse.specs.Stopping.{StopsWith}
use Rattle.gremlin_parse.specs.Symbols.{AnyBlanks, AnyNumber, AnyValue, Sign, Reads, ReadsToken, ReadsId, Leaves}
use Rattle.gremlin_parse.specs.Turns.{IsBadWord, KeptFrom, LeavesWords}
use Rattle.gremlin_parse.specs.declared.bad_token.BadToken.{BadToken}
use Rattle.gremlin_parse.specs.declared.step_word.StepWord.{StepWord}
use Rattle.gremlin_parse.specs.declared.stop.Stop.{Stop}
use Rattle.gremlin_parse.specs.declared.stop.Stop.TheVariants as stops
use Rattle.gremlin_parse.proofs.Walks.{kept_end, reaches_here, reaches_next}
use Rattle.gremlin_parse.proofs.QueryPlaces.{are, some, no_signs, property_table}
use Rattle.gremlin_parse.proofs.QueryReads.{on, stop_at, token_leads, sign_leads, leaves_sign, leaves_both, stop_at_sign, quotes_at, NameReads, NameStops}
use Rattle.gremlin_parse.proofs.RepeatReads.{read_in_time}

-- ---- a property: its key and its value

after_pair_loose : (purpose : PairFor) (key : List ℕ) (value : Value) → is_loose (after_pair purpose key value) ≡ true
after_pair_loose (OfChange subject pairs) key value = refl
after_pair_loose (OfSource label) key value = refl

pair_key_leads : (purpose : PairFor) (key bytes at_comma : List ℕ) → NameReads key bytes at_comma
    → LeadsTo (Quote (PairKey purpose)) bytes (AfterPairKey purpose key) at_comma
pair_key_leads purpose key bytes at_comma reads = reads (Quote (PairKey purpose)) (PairKey purpose) (quotes_at (PairKey purpose) bytes)

to_pair_value : (purpose : PairFor) (key bytes at_comma at_value : List ℕ) → NameReads key bytes at_comma → ReadsToken (44 ∷ []) at_comma at_value
    → LeadsTo (Quote (PairKey purpose)) bytes (PairValue purpose key) at_value
to_pair_value purpose key bytes at_comma at_value reads comma =
    on (Quote (PairKey purpose)) bytes (AfterPairKey purpose key) at_comma (PairValue purpose key) at_value (pair_key_leads purpose key bytes at_comma reads)
    (token_leads (AfterPairKey purpose key) 44 (PairValue purpose key) at_comma at_value refl refl comma)

pair_value_leads : (purpose : PairFor) (key : List ℕ) (value : Value) (bytes middle rest : List ℕ) → Reads AnyValue value bytes middle
    → Reads AnyBlanks tt middle rest → LeadsTo (PairValue purpose key) bytes (PairCloses purpose key value) rest
pair_value_leads purpose key value bytes middle rest reads blanks =
    reaches_next turn is_loose are some (PairValue purpose key) bytes (PairCloses purpose key value) middle rest
    (record { prefix = reads.takes.prefix; bytes_are = reads.takes.bytes_are; how = inr (value, refl, tt, reads.bounded, reads.takes.is, reads.takes.ends) })
    blanks

to_pair_close : (purpose : PairFor) (key : List ℕ) (value : Value) (bytes at_comma at_value middle at_close : List ℕ) → NameReads key bytes at_comma
    → ReadsToken (44 ∷ []) at_comma at_value → Reads AnyValue value at_value middle → Reads AnyBlanks tt middle at_close
    → LeadsTo (Quote (PairKey purpose)) bytes (PairCloses purpose key value) at_close
to_pair_close purpose key value bytes at_comma at_value middle at_close reads comma valued blanks =
    on (Quote (PairKey purpose)) bytes (PairValue purpose key) at_value (PairCloses purpose key value) at_close
    (to_pair_value purpose key bytes at_comma at_value reads comma) (pair_value_leads purpose key value at_value middle at_close valued blanks)

pub pair_read : (key bytes at_comma at_value middle at_close rest : List ℕ) (value : Value) → NameReads key bytes at_comma
    → ReadsToken (44 ∷ []) at_comma at_value → Reads AnyValue value at_value middle → Reads AnyBlanks tt middle at_close → ReadsToken (41 ∷ []) at_close rest
    → (purpose : PairFor) → LeadsTo (Quote (PairKey purpose)) bytes (after_pair purpose key value) rest
pair_read key bytes at_comma at_value middle at_close rest value reads comma valued blanks close purpose =
    on (Quote (PairKey purpose)) bytes (PairCloses purpose key value) at_close (after_pair purpose key value) rest
    (to_pair_close purpose key value bytes at_comma at_value middle at_close reads comma valued blanks)
    (token_leads (PairCloses purpose key value) 41 (after_pair purpose key value) at_close rest refl (after_pair_loose purpose key value) close)

pub stop_in_pair_key : (bytes : List ℕ) (stop : Stop) → NameStops bytes stop → (purpose : PairFor) → StopsFrom (Quote (PairKey purpose)) bytes stop
stop_in_pair_key bytes stop at purpose = at (Quote (PairKey purpose)) (PairKey purpose) (quotes_at (PairKey purpose) bytes)

pub stop_after_pair_key : (key bytes at_comma : List ℕ) (stop : Stop) → NameReads key bytes at_comma → Leaves (Sign (44 ∷ [])) at_comma stop
    → (purpose : PairFor) → StopsFrom (Quote (PairKey purpose)) bytes stop
stop_after_pair_key key bytes at_comma stop reads leaves purpose =
    (pair_key_leads purpose key bytes at_comma reads).stops stop (stop_at_sign (AfterPairKey purpose key) 44 (PairValue purpose key) at_comma stop refl leaves)

pub stop_in_pair_value : (key bytes at_comma at_value : List ℕ) (stop : Stop) → NameReads key bytes at_comma → ReadsToken (44 ∷ []) at_comma at_value
    → Leaves AnyValue at_value stop → (purpose : PairFor) → StopsFrom (Quote (PairKey purpose)) bytes stop
stop_in_pair_value key bytes at_comma at_value stop reads comma leaves purpose =
    (to_pair_value purpose key bytes at_comma at_value reads comma).stops stop
    (stop_at (PairValue purpose key) at_value stop (record { no_end = λ end ends. cc; no_sign = no_signs at_value; other = leaves }))

pub stop_after_pair_value : (key bytes at_comma at_value middle at_close : List ℕ) (value : Value) (stop : Stop) → NameReads key bytes at_comma
    → ReadsToken (44 ∷ []) at_comma at_value → Reads AnyValue value at_value middle → Reads AnyBlanks tt middle at_close → Leaves (Sign (41 ∷ [])) at_close stop
    → (purpose : PairFor) → StopsFrom (Quote (PairKey purpose)) bytes stop
stop_after_pair_value key bytes at_comma at_value middle at_close value stop reads comma valued blanks leaves purpose =
    (to_pair_close purpose key value bytes at_comma at_value middle at_close reads comma valued blanks).stops stop
    (stop_at_sign (PairCloses purpose key value) 41 (after_pair purpose key value) at_close stop refl leaves)

-- ---- the name of a property's step

-- A name that was read without a fault is none of a 33rd step.
pub property_in_time : (before : ℕ) (bytes rest : List ℕ) (word : StepWord)
    → ((kind : BadToken) (place : ℕ) → ¬ IsBadWord property_words (λ _ _. late_fault before) kind place bytes) → TakesWord property_words bytes word rest
    → late_fault before ≡ None
property_in_time = read_in_time property_words property_table

property_dot_leads : (subject : Subject) (pairs : List Pair) (bytes at_name : List ℕ) → ReadsToken (46 ∷ []) bytes at_name
    → LeadsTo (Changed subject pairs) bytes (PropertyName subject pairs) at_name
property_dot_leads subject pairs bytes at_name dot = token_leads (Changed subject pairs) 46 (PropertyName subject pairs) bytes at_name refl refl dot

property_word_leads : (before : ℕ) (bytes middle rest : List ℕ) (word : StepWord) → late_fault before ≡ None → TakesWord property_words bytes word middle
    → Reads AnyBlanks tt middle rest → (subject : Subject) (pairs : List Pair) → steps_before subject + length pairs ≡ before
    → LeadsTo (PropertyName subject pairs) bytes (OpensProperty subject pairs) rest
property_word_leads before bytes middle rest word early (run, cut, is) blanks subject pairs same =
    reaches_next turn is_loose are some (PropertyName subject pairs) bytes (OpensProperty subject pairs) middle rest
    (record { prefix = run; bytes_are = cut.bytes_are; how = inr (word, refl, ap late_fault same ∙ early, is, cut.passes, cut.ends) })
    blanks

to_property_opening : (before : ℕ) (bytes at_name after_name at_open : List ℕ) (word : StepWord) → ReadsToken (46 ∷ []) bytes at_name → late_fault before ≡ None
    → TakesWord property_words at_name word after_name → Reads AnyBlanks tt after_name at_open → (subject : Subject) (pairs : List Pair)
    → steps_before subject + length pairs ≡ before → LeadsTo (Changed subject pairs) bytes (OpensProperty subject pairs) at_open
to_property_opening before bytes at_name after_name at_open word dot early takes blanks subject pairs same =
    on (Changed subject pairs) bytes (PropertyName subject pairs) at_name (OpensProperty subject pairs) at_open
    (property_dot_leads subject pairs bytes at_name dot) (property_word_leads before at_name after_name at_open word early takes blanks subject pairs same)

pub property_name_read : (before : ℕ) (bytes at_name after_name at_open rest : List ℕ) (word : StepWord) → ReadsToken (46 ∷ []) bytes at_name
    → late_fault before ≡ None → TakesWord property_words at_name word after_name → Reads AnyBlanks tt after_name at_open → ReadsToken (40 ∷ []) at_open rest
    → (subject : Subject) (pairs : List Pair) → steps_before subject + length pairs ≡ before
    → LeadsTo (Changed subject pairs) bytes (Quote (PairKey (OfChange subject pairs))) rest
property_name_read before bytes at_name after_name at_open rest word dot early takes blanks opening subject pairs same =
    on (Changed subject pairs) bytes (OpensProperty subject pairs) at_open (Quote (PairKey (OfChange subject pairs))) rest
    (to_property_opening before bytes at_name after_name at_open word dot early takes blanks subject pairs same)
    (token_leads (OpensProperty subject pairs) 40 (Quote (PairKey (OfChange subject pairs))) at_open rest refl refl opening)

pub stop_at_property_dot : (bytes : List ℕ) (stop : Stop) → bytes ≢ [] → Leaves (Sign (46 ∷ [])) bytes stop → (subject : Subject) (pairs : List Pair)
    → StopsFrom (Changed subject pairs) bytes stop
stop_at_property_dot bytes stop some_bytes leaves subject pairs =
    let left = leaves_sign 46 (PropertyName subject pairs) bytes stop leaves in
    stop_at (Changed subject pairs) bytes stop (record { no_end = λ end ends. some_bytes; no_sign = left.0; other = left.1 })

pub stop_at_property_name : (before : ℕ) (bytes at_name : List ℕ) (stop : Stop) → ReadsToken (46 ∷ []) bytes at_name
    → LeavesWords property_words (λ _ _. late_fault before) at_name stop → (subject : Subject) (pairs : List Pair)
    → steps_before subject + length pairs ≡ before → StopsFrom (Changed subject pairs) bytes stop
stop_at_property_name before bytes at_name stop dot leaves subject pairs same =
    (property_dot_leads subject pairs bytes at_name dot).stops stop (stop_at (PropertyName subject pairs) at_name stop (record {
      no_end = λ end ends. cc;
      no_sign = no_signs at_name;
      other = subst (λ n. LeavesWords property_words (λ _ _. late_fault n) at_name stop) (sym same) leaves;
    }))

pub stop_at_property_opening : (before : ℕ) (bytes at_name after_name at_open : List ℕ) (word : StepWord) (stop : Stop) → ReadsToken (46 ∷ []) bytes at_name
    → late_fault before ≡ None → TakesWord property_words at_name word after_name → Reads AnyBlanks tt after_name at_open → Leaves (Sign (40 ∷ [])) at_open stop
    → (subject : Subject) (pairs : List Pair) → steps_before subject + length pairs ≡ before → StopsFrom (Changed subject pairs) bytes stop
stop_at_property_opening before bytes at_name after_name at_open word stop dot early takes blanks leaves subject pairs same =
    (to_property_opening before bytes at_name after_name at_open word dot early takes blanks subject pairs same).stops stop
    (stop_at_sign (OpensProperty subject pairs) 40 (Quote (PairKey (OfChange subject pairs))) at_open stop refl leaves)

-- ---- properties to the line's end

-- What is kept while properties are read.
pub record PropertiesSoFar (before : ℕ) (first : List Pair) (bytes : List ℕ) (pairs : List Pair) (count : ℕ) (rest : List ℕ) : Type 0 where
  pub few : count ≤ 32
  pub counted : count + length first ≡ before + length pairs
  pub leads : (subject : Subject) → steps_before subject + length first ≡ before → LeadsTo (Changed subject first) bytes (Changed subject pairs) rest

pub no_properties : (before : ℕ) (first : List Pair) (bytes : List ℕ) → before ≤ 32 → PropertiesSoFar before first bytes first before bytes
no_properties before first bytes few = record {
  few = few;
  counted = refl;
  leads = λ subject same. reaches_here turn is_loose are some (Changed subject first)
      bytes;
}

-- A step `property` leads on, whatever the properties are for.
abbrev pub NameLeads : ℕ → List ℕ → List ℕ → Type 0
NameLeads count bytes rest = (subject : Subject) (pairs : List Pair) → steps_before subject + length pairs ≡ count
    → LeadsTo (Changed subject pairs) bytes (Quote (PairKey (OfChange subject pairs))) rest

abbrev pub NamesStop : ℕ → List ℕ → Stop → Type 0
NamesStop count bytes stop = (subject : Subject) (pairs : List Pair) → steps_before subject + length pairs ≡ count
    → StopsFrom (Changed subject pairs) bytes stop

abbrev pub PairLeads : List ℕ → Value → List ℕ → List ℕ → Type 0
PairLeads key value bytes rest = (purpose : PairFor) → LeadsTo (Quote (PairKey purpose)) bytes (after_pair purpose key value) rest

count_is : (before : ℕ) (first : List Pair) (bytes : List ℕ) (pairs : List Pair) (count : ℕ) (rest : List ℕ)
    → PropertiesSoFar before first bytes pairs count rest → (subject : Subject) → steps_before subject + length first ≡ before
    → steps_before subject + length pairs ≡ count
count_is before first bytes pairs count rest so_far subject same = let counted = so_far.counted in omega (arith, same, counted)

to_key : (before : ℕ) (first : List Pair) (bytes : List ℕ) (pairs : List Pair) (count : ℕ) (rest at_key : List ℕ)
    → PropertiesSoFar before first bytes pairs count rest → NameLeads count rest at_key → (subject : Subject) → steps_before subject + length first ≡ before
    → LeadsTo (Changed subject first) bytes (Quote (PairKey (OfChange subject pairs))) at_key
to_key before first bytes pairs count rest at_key so_far named subject same =
    on (Changed subject first) bytes (Changed subject pairs) rest (Quote (PairKey (OfChange subject pairs))) at_key (so_far.leads subject same)
    (named subject pairs (count_is before first bytes pairs count rest so_far subject same))

pub one_property_more : (before : ℕ) (first : List Pair) (bytes : List ℕ) (pairs : List Pair) (count : ℕ) (rest at_key after key : List ℕ) (value : Value)
    → PropertiesSoFar before first bytes pairs count rest → count < 32 → NameLeads count rest at_key → PairLeads key value at_key after
    → PropertiesSoFar before first bytes (with_pair pairs key value) (count + 1) after
one_property_more before first bytes pairs count rest at_key after key value so_far early named paired =
    let len : length (with_pair pairs key value) ≡ length pairs + 1 = length-append pairs (record { key = key; value = value } ∷ []) in
    let counted = so_far.counted in
    record {
      few = omega (arith, early);
      counted = omega (arith, len, counted);
      leads = λ subject same. on (Changed subject first) bytes (Quote (PairKey (OfChange subject pairs))) at_key (Changed subject (with_pair pairs key value))
          after (to_key before first bytes pairs count rest at_key so_far named subject same) (paired (OfChange subject pairs));
    }

pub stop_in_names_of_properties : (before : ℕ) (first : List Pair) (bytes : List ℕ) (pairs : List Pair) (count : ℕ) (rest : List ℕ) (stop : Stop)
    → PropertiesSoFar before first bytes pairs count rest → NamesStop count rest stop → (subject : Subject) → steps_before subject + length first ≡ before
    → StopsFrom (Changed subject first) bytes stop
stop_in_names_of_properties before first bytes pairs count rest stop so_far at subject same =
    (so_far.leads subject same).stops stop (at subject pairs (count_is before first bytes pairs count rest so_far subject same))

pub stop_in_property : (before : ℕ) (first : List Pair) (bytes : List ℕ) (pairs : List Pair) (count : ℕ) (rest at_key : List ℕ) (stop : Stop)
    → PropertiesSoFar before first bytes pairs count rest → NameLeads count rest at_key
    → ((purpose : PairFor) → StopsFrom (Quote (PairKey purpose)) at_key stop) → (subject : Subject) → steps_before subject + length first ≡ before
    → StopsFrom (Changed subject first) bytes stop
stop_in_property before first bytes pairs count rest at_key stop so_far named at subject same =
    (to_key before first bytes pairs count rest at_key so_far named subject same).stops stop (at (OfChange subject pairs))

-- What readers promise of properties, after the first ones.
abbrev pub PropertiesKept : ℕ → List Pair → List Pair → List ℕ → Type 0
PropertiesKept before first pairs bytes = (subject : Subject) → steps_before subject + length first ≡ before
    → KeptFrom turn is_loose (changed subject pairs) (Changed subject first) bytes

abbrev pub PropertiesStop : ℕ → List Pair → List ℕ → Stop → Type 0
PropertiesStop before first bytes stop = (subject : Subject) → steps_before subject + length first ≡ before → StopsFrom (Changed subject first) bytes stop

pub properties_kept : (before : ℕ) (first : List Pair) (bytes : List ℕ) (pairs : List Pair) (count : ℕ) (rest : List ℕ)
    → PropertiesSoFar before first bytes pairs count rest → rest ≡ [] → PropertiesKept before first pairs bytes
properties_kept before first bytes pairs count rest so_far none subject same =
    (so_far.leads subject same).kept (changed subject pairs) (kept_end turn is_loose are some (Changed subject pairs) (changed subject pairs) rest refl none)

-- how many steps are before the next property where there is none yet, or one
pub none_yet : (steps before : ℕ) → steps ≡ before → (steps + 1) + length {A = Pair} [] ≡ before + 1
none_yet steps before same = omega (arith, same)

pub one_so_far : (steps before : ℕ) (key : List ℕ) (value : Value) → steps ≡ before → steps + length (with_pair [] key value) ≡ before + 1
one_so_far steps before key value same = let one : length (with_pair [] key value) ≡ 1 = refl in omega (arith, same, one)

-- ---- a new vertex

label_leads : (name bytes at_close : List ℕ) → NameReads name bytes at_close → LeadsTo (Quote VertexLabel) bytes (VertexCloses name) at_close
label_leads name bytes at_close reads = reads (Quote VertexLabel) VertexLabel (quotes_at VertexLabel bytes)

vertex_closed : (name bytes at_close rest : List ℕ) → NameReads name bytes at_close → ReadsToken (41 ∷ []) at_close rest
    → LeadsTo (Quote VertexLabel) bytes (Changed (NewVertex name) []) rest
vertex_closed name bytes at_close rest reads close = on (Quote VertexLabel) bytes (VertexCloses name) at_close (Changed (NewVertex name) []) rest
    (label_leads name bytes at_close reads) (token_leads (VertexCloses name) 41 (Changed (NewVertex name) []) at_close rest refl refl close)

pub stop_in_vertex_label : (bytes : List ℕ) (stop : Stop) → NameStops bytes stop → StopsFrom (Quote VertexLabel) bytes stop
stop_in_vertex_label bytes stop at = at (Quote VertexLabel) VertexLabel (quotes_at VertexLabel bytes)

pub stop_after_vertex_label : (name bytes at_close : List ℕ) (stop : Stop) → NameReads name bytes at_close → Leaves (Sign (41 ∷ [])) at_close stop
    → StopsFrom (Quote VertexLabel) bytes stop
stop_after_vertex_label name bytes at_close stop reads leaves = (label_leads name bytes at_close reads).stops stop
    (stop_at_sign (VertexCloses name) 41 (Changed (NewVertex name) []) at_close stop refl leaves)

pub stop_in_vertex_properties : (name bytes at_close rest : List ℕ) (stop : Stop) → NameReads name bytes at_close → ReadsToken (41 ∷ []) at_close rest
    → PropertiesStop 0 [] rest stop → StopsFrom (Quote VertexLabel) bytes stop
stop_in_vertex_properties name bytes at_close rest stop reads close at =
    (vertex_closed name bytes at_close rest reads close).stops stop (at (NewVertex name) refl)

pub vertex_kept : (name bytes at_close rest : List ℕ) (pairs : List Pair) → NameReads name bytes at_close → ReadsToken (41 ∷ []) at_close rest
    → PropertiesKept 0 [] pairs rest → KeptFrom turn is_loose (commands.Mutate None (mutations.AddV name pairs)) (Quote VertexLabel) bytes
vertex_kept name bytes at_close rest pairs reads close kept = (vertex_closed name bytes at_close rest reads close).kept (changed (NewVertex name) pairs)
    (kept (NewVertex name) refl)

-- ---- the vertex to which new edges lead

abbrev pub VertexReads : List ℕ → List ℕ → Type 0
VertexReads bytes rest = (query : Query) (label : List ℕ) → LeadsTo (ToFirst query label) bytes (OpensId query label) rest

pub stop_at_vertex : (bytes : List ℕ) (stop : Stop) → LeavesBoth 95 86 bytes stop → (query : Query) (label : List ℕ)
    → StopsFrom (ToFirst query label) bytes stop
stop_at_vertex bytes stop leaves query label =
    let left = leaves_both 95 86 (ToUnderscore query label) (OpensId query label) bytes stop leaves in
    stop_at (ToFirst query label) bytes stop (record { no_end = λ end ends. cc; no_sign = left.0; other = left.1 })

pub plain_vertex : (bytes middle rest : List ℕ) (anonymous : Bool) → anonymous ≡ false → Reads (Sign (cond anonymous 95 86 ∷ [])) tt bytes middle
    → Reads AnyBlanks tt middle rest → VertexReads bytes rest
plain_vertex bytes middle rest true is reads blanks = cc
plain_vertex bytes middle rest false is reads blanks = λ query label. token_leads (ToFirst query label) 86 (OpensId query label) bytes rest refl refl
    (middle, reads, blanks)

underscore_leads : (bytes after : List ℕ) (anonymous : Bool) → anonymous ≡ true → Reads (Sign (cond anonymous 95 86 ∷ [])) tt bytes after
    → (query : Query) (label : List ℕ) → LeadsTo (ToFirst query label) bytes (ToUnderscore query label) after
underscore_leads bytes after false is reads query label = cc
underscore_leads bytes after true is reads query label = sign_leads (ToFirst query label) 95 (ToUnderscore query label) bytes after refl refl reads

anonymous_leads : (bytes after at_dot : List ℕ) (anonymous : Bool) → anonymous ≡ true → Reads (Sign (cond anonymous 95 86 ∷ [])) tt bytes after
    → ReadsToken (95 ∷ []) after at_dot → (query : Query) (label : List ℕ) → LeadsTo (ToFirst query label) bytes (ToAnonymous query label) at_dot
anonymous_leads bytes after at_dot anonymous is reads second query label =
    on (ToFirst query label) bytes (ToUnderscore query label) after (ToAnonymous query label) at_dot
    (underscore_leads bytes after anonymous is reads query label) (token_leads (ToUnderscore query label) 95 (ToAnonymous query label) after at_dot refl refl
    second)

dotted_leads : (bytes after at_dot at_vertex : List ℕ) (anonymous : Bool) → anonymous ≡ true → Reads (Sign (cond anonymous 95 86 ∷ [])) tt bytes after
    → ReadsToken (95 ∷ []) after at_dot → ReadsToken (46 ∷ []) at_dot at_vertex → (query : Query) (label : List ℕ)
    → LeadsTo (ToFirst query label) bytes (ToVertex query label) at_vertex
dotted_leads bytes after at_dot at_vertex anonymous is reads second dot query label =
    on (ToFirst query label) bytes (ToAnonymous query label) at_dot (ToVertex query label) at_vertex
    (anonymous_leads bytes after at_dot anonymous is reads second query label)
    (token_leads (ToAnonymous query label) 46 (ToVertex query label) at_dot at_vertex refl refl dot)

pub anonymous_vertex : (bytes after at_dot at_vertex rest : List ℕ) (anonymous : Bool) → anonymous ≡ true
    → Reads (Sign (cond anonymous 95 86 ∷ [])) tt bytes after → ReadsToken (95 ∷ []) after at_dot → ReadsToken (46 ∷ []) at_dot at_vertex
    → ReadsToken (86 ∷ []) at_vertex rest → VertexReads bytes rest
anonymous_vertex bytes after at_dot at_vertex rest anonymous is reads second dot vertex = λ query label.
    on (ToFirst query label) bytes (ToVertex query label) at_vertex (OpensId query label) rest
    (dotted_leads bytes after at_dot at_vertex anonymous is reads second dot query label)
    (token_leads (ToVertex query label) 86 (OpensId query label) at_vertex rest refl refl vertex)

pub stop_at_second_of_to : (bytes after : List ℕ) (anonymous : Bool) (stop : Stop) → anonymous ≡ true → Reads (Sign (cond anonymous 95 86 ∷ [])) tt bytes after
    → Leaves (Sign (95 ∷ [])) after stop → (query : Query) (label : List ℕ) → StopsFrom (ToFirst query label) bytes stop
stop_at_second_of_to bytes after anonymous stop is reads leaves query label =
    (underscore_leads bytes after anonymous is reads query label).stops stop
    (stop_at_sign (ToUnderscore query label) 95 (ToAnonymous query label) after stop refl leaves)

pub stop_at_dot_of_to : (bytes after at_dot : List ℕ) (anonymous : Bool) (stop : Stop) → anonymous ≡ true
    → Reads (Sign (cond anonymous 95 86 ∷ [])) tt bytes after → ReadsToken (95 ∷ []) after at_dot → Leaves (Sign (46 ∷ [])) at_dot stop
    → (query : Query) (label : List ℕ) → StopsFrom (ToFirst query label) bytes stop
stop_at_dot_of_to bytes after at_dot anonymous stop is reads second leaves query label =
    (anonymous_leads bytes after at_dot anonymous is reads second query label).stops stop
    (stop_at_sign (ToAnonymous query label) 46 (ToVertex query label) at_dot stop refl leaves)

pub stop_at_vertex_of_to : (bytes after at_dot at_vertex : List ℕ) (anonymous : Bool) (stop : Stop) → anonymous ≡ true
    → Reads (Sign (cond anonymous 95 86 ∷ [])) tt bytes after → ReadsToken (95 ∷ []) after at_dot → ReadsToken (46 ∷ []) at_dot at_vertex
    → Leaves (Sign (86 ∷ [])) at_vertex stop → (query : Query) (label : List ℕ) → StopsFrom (ToFirst query label) bytes stop
stop_at_vertex_of_to bytes after at_dot at_vertex anonymous stop is reads second dot leaves query label =
    (dotted_leads bytes after at_dot at_vertex anonymous is reads second dot query label).stops stop
    (stop_at_sign (ToVertex query label) 86 (OpensId query label) at_vertex stop refl leaves)

-- ---- its identifier

to_id : (bytes at_id : List ℕ) → ReadsToken (40 ∷ []) bytes at_id → (query : Query) (label : List ℕ)
    → LeadsTo (OpensId query label) bytes (ToId query label) at_id
to_id bytes at_id opening query label = token_leads (OpensId query label) 40 (ToId query label) bytes at_id refl refl opening

to_id_close : (bytes at_id at_close : List ℕ) (to : ℕ) → ReadsToken (40 ∷ []) bytes at_id → ReadsId to at_id at_close → (query : Query) (label : List ℕ)
    → LeadsTo (OpensId query label) bytes (IdCloses query label to) at_close
to_id_close bytes at_id at_close to opening (middle, reads, blanks) query label =
    on (OpensId query label) bytes (ToId query label) at_id (IdCloses query label to) at_close (to_id bytes at_id opening query label)
    (reaches_next turn is_loose are some (ToId query label) at_id (IdCloses query label to) middle at_close
    (record { prefix = reads.takes.prefix; bytes_are = reads.takes.bytes_are; how = inr (to, refl, tt, reads.bounded, reads.takes.is, reads.takes.ends) })
    blanks)

to_outer_close : (bytes at_id at_close at_end : List ℕ) (to : ℕ) → ReadsToken (40 ∷ []) bytes at_id → ReadsId to at_id at_close
    → ReadsToken (41 ∷ []) at_close at_end → (query : Query) (label : List ℕ) → LeadsTo (OpensId query label) bytes (ToCloses query label to) at_end
to_outer_close bytes at_id at_close at_end to opening id close query label =
    on (OpensId query label) bytes (IdCloses query label to) at_close (ToCloses query label to) at_end
    (to_id_close bytes at_id at_close to opening id query label) (token_leads (IdCloses query label to) 41 (ToCloses query label to) at_close at_end refl refl
    close)

pub vertex_id_read : (bytes at_id at_close at_end rest : List ℕ) (to : ℕ) → ReadsToken (40 ∷ []) bytes at_id → ReadsId to at_id at_close
    → ReadsToken (41 ∷ []) at_close at_end → ReadsToken (41 ∷ []) at_end rest → (query : Query) (label : List ℕ)
    → LeadsTo (OpensId query label) bytes (Changed (NewEdges query label to) []) rest
vertex_id_read bytes at_id at_close at_end rest to opening id close end query label =
    on (OpensId query label) bytes (ToCloses query label to) at_end (Changed (NewEdges query label to) []) rest
    (to_outer_close bytes at_id at_close at_end to opening id close query label)
    (token_leads (ToCloses query label to) 41 (Changed (NewEdges query label to) []) at_end rest refl refl end)

pub stop_before_id : (bytes : List ℕ) (stop : Stop) → Leaves (Sign (40 ∷ [])) bytes stop → (query : Query) (label : List ℕ)
    → StopsFrom (OpensId query label) bytes stop
stop_before_id bytes stop leaves query label = stop_at_sign (OpensId query label) 40 (ToId query label) bytes stop refl leaves

pub stop_in_id : (bytes at_id : List ℕ) (stop : Stop) → ReadsToken (40 ∷ []) bytes at_id → Leaves (AnyNumber most_id) at_id stop
    → (query : Query) (label : List ℕ) → StopsFrom (OpensId query label) bytes stop
stop_in_id bytes at_id stop opening leaves query label = (to_id bytes at_id opening query label).stops stop
    (stop_at (ToId query label) at_id stop (record { no_end = λ end ends. cc; no_sign = no_signs at_id; other = leaves }))

pub stop_at_id_close : (bytes at_id at_close : List ℕ) (to : ℕ) (stop : Stop) → ReadsToken (40 ∷ []) bytes at_id → ReadsId to at_id at_close
    → Leaves (Sign (41 ∷ [])) at_close stop → (query : Query) (label : List ℕ) → StopsFrom (OpensId query label) bytes stop
stop_at_id_close bytes at_id at_close to stop opening id leaves query label =
    (to_id_close bytes at_id at_close to opening id query label).stops stop
    (stop_at_sign (IdCloses query label to) 41 (ToCloses query label to) at_close stop refl leaves)

pub stop_at_to_close : (bytes at_id at_close at_end : List ℕ) (to : ℕ) (stop : Stop) → ReadsToken (40 ∷ []) bytes at_id → ReadsId to at_id at_close
    → ReadsToken (41 ∷ []) at_close at_end → Leaves (Sign (41 ∷ [])) at_end stop → (query : Query) (label : List ℕ) → StopsFrom (OpensId query label) bytes stop
stop_at_to_close bytes at_id at_close at_end to stop opening id close leaves query label =
    (to_outer_close bytes at_id at_close at_end to opening id close query label).stops stop
    (stop_at_sign (ToCloses query label to) 41 (Changed (NewEdges query label to) []) at_end stop refl leaves)

-- ---- `to` with its vertex

abbrev pub IdReads : ℕ → List ℕ → List ℕ → Type 0
IdReads to bytes rest = (query : Query) (label : List ℕ) → LeadsTo (OpensId query label) bytes (Changed (NewEdges query label to) []) rest

to_word : (bytes at_word : List ℕ) → ReadsToken (46 ∷ []) bytes at_word → (query : Query) (label : List ℕ)
    → LeadsTo (AfterType query label) bytes (ToWord query label) at_word
to_word bytes at_word dot query label = token_leads (AfterType query label) 46 (ToWord query label) bytes at_word refl refl dot

to_opening : (bytes at_word at_open : List ℕ) → ReadsToken (46 ∷ []) bytes at_word → ReadsToken (codes "to") at_word at_open → (query : Query) (label : List ℕ)
    → LeadsTo (AfterType query label) bytes (OpensTo query label) at_open
to_opening bytes at_word at_open dot (middle, reads, blanks) query label =
    on (AfterType query label) bytes (ToWord query label) at_word (OpensTo query label) at_open (to_word bytes at_word dot query label)
    (reaches_next turn is_loose are some (ToWord query label) at_word (OpensTo query label) middle at_open
    (record { prefix = reads.takes.prefix; bytes_are = reads.takes.bytes_are; how = inr (tt, refl, tt, tt, reads.takes.is, tt) })
    blanks)

to_first : (bytes at_word at_open at_vertex : List ℕ) → ReadsToken (46 ∷ []) bytes at_word → ReadsToken (codes "to") at_word at_open
    → ReadsToken (40 ∷ []) at_open at_vertex → (query : Query) (label : List ℕ) → LeadsTo (AfterType query label) bytes (ToFirst query label) at_vertex
to_first bytes at_word at_open at_vertex dot word opening query label =
    on (AfterType query label) bytes (OpensTo query label) at_open (ToFirst query label) at_vertex (to_opening bytes at_word at_open dot word query label)
    (token_leads (OpensTo query label) 40 (ToFirst query label) at_open at_vertex refl refl opening)

to_vertex_id : (bytes at_word at_open at_vertex at_id : List ℕ) → ReadsToken (46 ∷ []) bytes at_word → ReadsToken (codes "to") at_word at_open
    → ReadsToken (40 ∷ []) at_open at_vertex → VertexReads at_vertex at_id → (query : Query) (label : List ℕ)
    → LeadsTo (AfterType query label) bytes (OpensId query label) at_id
to_vertex_id bytes at_word at_open at_vertex at_id dot word opening vertex query label =
    on (AfterType query label) bytes (ToFirst query label) at_vertex (OpensId query label) at_id
    (to_first bytes at_word at_open at_vertex dot word opening query label) (vertex query label)

pub to_read : (bytes at_word at_open at_vertex at_id rest : List ℕ) (to : ℕ) → ReadsToken (46 ∷ []) bytes at_word → ReadsToken (codes "to") at_word at_open
    → ReadsToken (40 ∷ []) at_open at_vertex → VertexReads at_vertex at_id → IdReads to at_id rest → (query : Query) (label : List ℕ)
    → LeadsTo (AfterType query label) bytes (Changed (NewEdges query label to) []) rest
to_read bytes at_word at_open at_vertex at_id rest to dot word opening vertex id query label =
    on (AfterType query label) bytes (OpensId query label) at_id (Changed (NewEdges query label to) []) rest
    (to_vertex_id bytes at_word at_open at_vertex at_id dot word opening vertex query label) (id query label)

pub stop_before_to : (bytes : List ℕ) (stop : Stop) → Leaves (Sign (46 ∷ [])) bytes stop → (query : Query) (label : List ℕ)
    → StopsFrom (AfterType query label) bytes stop
stop_before_to bytes stop leaves query label = stop_at_sign (AfterType query label) 46 (ToWord query label) bytes stop refl leaves

pub stop_in_to_word : (bytes at_word : List ℕ) (stop : Stop) → ReadsToken (46 ∷ []) bytes at_word → Leaves (Sign (codes "to")) at_word stop
    → (query : Query) (label : List ℕ) → StopsFrom (AfterType query label) bytes stop
stop_in_to_word bytes at_word stop dot leaves query label = (to_word bytes at_word dot query label).stops stop
    (stop_at (ToWord query label) at_word stop (record { no_end = λ end ends. cc; no_sign = no_signs at_word; other = leaves }))

pub stop_after_to_word : (bytes at_word at_open : List ℕ) (stop : Stop) → ReadsToken (46 ∷ []) bytes at_word → ReadsToken (codes "to") at_word at_open
    → Leaves (Sign (40 ∷ [])) at_open stop → (query : Query) (label : List ℕ) → StopsFrom (AfterType query label) bytes stop
stop_after_to_word bytes at_word at_open stop dot word leaves query label =
    (to_opening bytes at_word at_open dot word query label).stops stop (stop_at_sign (OpensTo query label) 40 (ToFirst query label) at_open stop refl leaves)

pub stop_in_vertex : (bytes at_word at_open at_vertex : List ℕ) (stop : Stop) → ReadsToken (46 ∷ []) bytes at_word → ReadsToken (codes "to") at_word at_open
    → ReadsToken (40 ∷ []) at_open at_vertex → ((query : Query) (label : List ℕ) → StopsFrom (ToFirst query label) at_vertex stop)
    → (query : Query) (label : List ℕ) → StopsFrom (AfterType query label) bytes stop
stop_in_vertex bytes at_word at_open at_vertex stop dot word opening at query label =
    (to_first bytes at_word at_open at_vertex dot word opening query label).stops stop (at query label)

pub stop_in_vertex_id : (bytes at_word at_open at_vertex at_id : List ℕ) (stop : Stop) → ReadsToken (46 ∷ []) bytes at_word
    → ReadsToken (codes "to") at_word at_open → ReadsToken (40 ∷ []) at_open at_vertex → VertexReads at_vertex at_id
    → ((query : Query) (label : List ℕ) → StopsFrom (OpensId query label) at_id stop) → (query : Query) (label : List ℕ)
    → StopsFrom (AfterType query label) bytes stop
stop_in_vertex_id bytes at_word at_open at_vertex at_id stop dot word opening vertex at query label =
    (to_vertex_id bytes at_word at_open at_vertex at_id dot word opening vertex query label).stops stop (at query label)

-- ---- new edges

abbrev pub ToReads : ℕ → List ℕ → List ℕ → Type 0
ToReads to bytes rest = (query : Query) (label : List ℕ) → LeadsTo (AfterType query label) bytes (Changed (NewEdges query label to) []) rest

type_leads : (query : Query) (name bytes at_close : List ℕ) → NameReads name bytes at_close
    → LeadsTo (Quote (EdgeType query)) bytes (TypeCloses query name) at_close
type_leads query name bytes at_close reads = reads (Quote (EdgeType query)) (EdgeType query) (quotes_at (EdgeType query) bytes)

to_type_end : (query : Query) (name bytes at_close at_dot : List ℕ) → NameReads name bytes at_close → ReadsToken (41 ∷ []) at_close at_dot
    → LeadsTo (Quote (EdgeType query)) bytes (AfterType query name) at_dot
to_type_end query name bytes at_close at_dot reads close = on (Quote (EdgeType query)) bytes (TypeCloses query name) at_close (AfterType query name) at_dot
    (type_leads query name bytes at_close reads) (token_leads (TypeCloses query name) 41 (AfterType query name) at_close at_dot refl refl close)

to_edges : (query : Query) (name bytes at_close at_dot rest : List ℕ) (to : ℕ) → NameReads name bytes at_close → ReadsToken (41 ∷ []) at_close at_dot
    → ToReads to at_dot rest → LeadsTo (Quote (EdgeType query)) bytes (Changed (NewEdges query name to) []) rest
to_edges query name bytes at_close at_dot rest to reads close leads = on (Quote (EdgeType query)) bytes (AfterType query name) at_dot
    (Changed (NewEdges query name to) []) rest (to_type_end query name bytes at_close at_dot reads close) (leads query name)

pub stop_in_type : (bytes : List ℕ) (stop : Stop) → NameStops bytes stop → (query : Query) → StopsFrom (Quote (EdgeType query)) bytes stop
stop_in_type bytes stop at query = at (Quote (EdgeType query)) (EdgeType query) (quotes_at (EdgeType query) bytes)

pub stop_after_type : (name bytes at_close : List ℕ) (stop : Stop) → NameReads name bytes at_close → Leaves (Sign (41 ∷ [])) at_close stop → (query : Query)
    → StopsFrom (Quote (EdgeType query)) bytes stop
stop_after_type name bytes at_close stop reads leaves query = (type_leads query name bytes at_close reads).stops stop
    (stop_at_sign (TypeCloses query name) 41 (AfterType query name) at_close stop refl leaves)

pub stop_in_to : (name bytes at_close at_dot : List ℕ) (stop : Stop) → NameReads name bytes at_close → ReadsToken (41 ∷ []) at_close at_dot
    → ((query : Query) (label : List ℕ) → StopsFrom (AfterType query label) at_dot stop) → (query : Query) → StopsFrom (Quote (EdgeType query)) bytes stop
stop_in_to name bytes at_close at_dot stop reads close at query = (to_type_end query name bytes at_close at_dot reads close).stops stop (at query name)

pub stop_in_edge_properties : (query : Query) (before : ℕ) (name bytes at_close at_dot rest : List ℕ) (to : ℕ) (stop : Stop) → NameReads name bytes at_close
    → ReadsToken (41 ∷ []) at_close at_dot → ToReads to at_dot rest → PropertiesStop before [] rest stop
    → steps_before (NewEdges query name to) + length {A = Pair} [] ≡ before → StopsFrom (Quote (EdgeType query)) bytes stop
stop_in_edge_properties query before name bytes at_close at_dot rest to stop reads close leads at same =
    (to_edges query name bytes at_close at_dot rest to reads close leads).stops stop (at (NewEdges query name to) same)

pub edges_kept : (query : Query) (before : ℕ) (name bytes at_close at_dot rest : List ℕ) (to : ℕ) (pairs : List Pair) → NameReads name bytes at_close
    → ReadsToken (41 ∷ []) at_close at_dot → ToReads to at_dot rest → PropertiesKept before [] pairs rest
    → steps_before (NewEdges query name to) + length {A = Pair} [] ≡ before
    → KeptFrom turn is_loose (commands.Mutate (Some query) (mutations.AddE name to pairs)) (Quote (EdgeType query)) bytes
edges_kept query before name bytes at_close at_dot rest to pairs reads close leads kept same =
    (to_edges query name bytes at_close at_dot rest to reads close leads).kept (changed (NewEdges query name to) pairs) (kept (NewEdges query name to) same)

-- ---- values

pub stop_in_later_values : (query : Query) (before : ℕ) (key bytes rest : List ℕ) (value : Value) (stop : Stop) → PairLeads key value bytes rest
    → PropertiesStop before (with_pair [] key value) rest stop → steps_before (Elements query) + length (with_pair [] key value) ≡ before
    → StopsFrom (Quote (PairKey (OfChange (Elements query) []))) bytes stop
stop_in_later_values query before key bytes rest value stop leads at same = (leads (OfChange (Elements query) [])).stops stop (at (Elements query) same)

pub values_kept : (query : Query) (before : ℕ) (key bytes rest : List ℕ) (value : Value) (pairs : List Pair) → PairLeads key value bytes rest
    → PropertiesKept before (with_pair [] key value) pairs rest → steps_before (Elements query) + length (with_pair [] key value) ≡ before
    → KeptFrom turn is_loose (commands.Mutate (Some query) (mutations.Property pairs)) (Quote (PairKey (OfChange (Elements query) []))) bytes
values_kept query before key bytes rest value pairs leads kept same = (leads (OfChange (Elements query) [])).kept (changed (Elements query) pairs)
    (kept (Elements query) same)

-- ---- a drop

drop_leads : (query : Query) (bytes rest : List ℕ) → ReadsToken (41 ∷ []) bytes rest → LeadsTo (DropCloses query) bytes (Dropped query) rest
drop_leads query bytes rest close = token_leads (DropCloses query) 41 (Dropped query) bytes rest refl refl close

pub stop_in_drop : (bytes : List ℕ) (stop : Stop) → Leaves (Sign (41 ∷ [])) bytes stop → (query : Query) → StopsFrom (DropCloses query) bytes stop
stop_in_drop bytes stop leaves query = stop_at_sign (DropCloses query) 41 (Dropped query) bytes stop refl leaves

stop_where_line_goes_on : (query : Query) (bytes : List ℕ) (stop : Stop) → StopsWith (λ left. (left ≡ length bytes) × (bytes ≢ [])) stop
    → StopsFrom (Dropped query) bytes stop
stop_where_line_goes_on query bytes stops.Memory at = absurd at
stop_where_line_goes_on query bytes (stops.Syntax left) at = stop_at (Dropped query) bytes (stops.Syntax left)
    (record { no_end = λ end ends. at.1; no_sign = no_signs bytes; other = at.0 })
stop_where_line_goes_on query bytes (stops.Bad kind left) at = absurd at

pub stop_after_drop : (bytes rest : List ℕ) (stop : Stop) → ReadsToken (41 ∷ []) bytes rest → StopsWith (λ left. (left ≡ length rest) × (rest ≢ [])) stop
    → (query : Query) → StopsFrom (DropCloses query) bytes stop
stop_after_drop bytes rest stop close at query = (drop_leads query bytes rest close).stops stop (stop_where_line_goes_on query rest stop at)

pub drop_kept : (bytes rest : List ℕ) → ReadsToken (41 ∷ []) bytes rest → rest ≡ [] → (query : Query)
    → KeptFrom turn is_loose (commands.Mutate (Some query) mutations.Drop) (DropCloses query) bytes
drop_kept bytes rest close none query =
    let command = commands.Mutate (Some query) mutations.Drop in
    (drop_leads query bytes rest close).kept command (kept_end turn is_loose are some (Dropped query) command rest refl none)
