-- Queries by their tokens: what the table of places makes of a query, the productions make.
use Rattle.std.proofs.Common.{◌≡◌, ◌⊎◌, ◌≤◌, ◌<◌, ◌+◌, inl, inr, ℕ, zero, suc, if◌then◌else◌, Bool, true, false, not}
use Rattle.std.proofs.Common.{Option, Some, None, List, [], ◌∷◌, ◌++◌, length, map, codes, refl, sym, ap, ◌∙◌, subst}
use Rattle.std.proofs.Common.{append_assoc, append-nil, length-append, arith}
use Rattle.plain_graph.specs.declared.command.Command.{Command}
use Rattle.plain_graph.specs.declared.command.Command.TheVariants as commands
use Rattle.plain_graph.specs.declared.mutation.Mutation.{Mutation}
use Rattle.plain_graph.specs.declared.mutation.Mutation.TheVariants as mutations
use Rattle.plain_graph.specs.declared.pairs.Pair.{Pair}
use Rattle.plain_graph.specs.declared.query.BodyStep.{BodyStep}
use Rattle.plain_graph.specs.declared.query.BodyStep.TheVariants as bodies
use Rattle.plain_graph.specs.declared.query.Query.{Query}
use Rattle.plain_graph.specs.declared.query.Source.{Source}
use Rattle.plain_graph.specs.declared.query.Source.TheVariants as origins
use Rattle.plain_graph.specs.declared.query.Step.TheVariants as steps
use Rattle.plain_graph.specs.declared.value.Value.{Value}
use Rattle.gremlin_parse.specs.Grammar.{most_limit, Number}
use Rattle.gremlin_parse.specs.Keywords.{Entry}
use Rattle.gremlin_parse.specs.Productions.{Token, Whole, Quoted, word, dot, comma, opening, closing, identifier}
use Rattle.gremlin_parse.specs.Productions.{literal, call, after_commas, names_of, ids_of, source_of, IsTo, IsBodyStep}
use Rattle.gremlin_parse.specs.Productions.{IsStep, WrittenStep, Does, Maps, IsWrittenStep, AreSteps, with_written}
use Rattle.gremlin_parse.specs.Productions.{with_all, property_of, properties_of, IsChange, IsQueryOf, IsProduced}
use Rattle.gremlin_parse.specs.Productions.{AreFrom, takes, counts, Fit, given, count_all, takes_change, change_count}
use Rattle.gremlin_parse.specs.Queries.{OfQuery, OfStep, OfMaps, Subject, NewVertex, NewEdges, Elements, PairFor}
use Rattle.gremlin_parse.specs.Queries.{OfChange, OfSource, EdgeType, FoundLabel, VertexLabel, PairKey, Start, Opening}
use Rattle.gremlin_parse.specs.Queries.{FirstId, AfterId, Steps, StepName, Opens, Most, Closing, Quote}
use Rattle.gremlin_parse.specs.Queries.{AfterFoundLabel, VertexCloses, TypeCloses, AfterType, ToWord, OpensTo, ToFirst}
use Rattle.gremlin_parse.specs.Queries.{ToAnonymous, ToVertex, OpensId, ToId, IdCloses, ToCloses, DropCloses, Dropped}
use Rattle.gremlin_parse.specs.Queries.{Changed, PropertyName, OpensProperty, AfterPairKey, PairValue, PairCloses}
use Rattle.gremlin_parse.specs.Queries.{IsKeptQuery, after_pair, bare_step, changed, elements_of, is_loose, opened}
use Rattle.gremlin_parse.specs.Queries.{opened_source, query_from, shown, step_of, steps_before, with_pair, with_step}
use Rattle.gremlin_parse.specs.OrderKeys.{has_key}
use Rattle.gremlin_parse.specs.Stages.{are_elements, are_maps, are_vertices, first_items, fits, is_by, steps_of}
use Rattle.gremlin_parse.specs.declared.stage.Items.{Items}
use Rattle.gremlin_parse.specs.declared.source.SourceKind.{SourceKind}
use Rattle.gremlin_parse.specs.declared.source.SourceKind.TheVariants as sources
use Rattle.gremlin_parse.specs.declared.step_word.BareStep.{BareStep}
use Rattle.gremlin_parse.specs.declared.step_word.BareStep.TheVariants as bare
use Rattle.gremlin_parse.specs.declared.step_word.BodyWord.TheVariants as of_body
use Rattle.gremlin_parse.specs.declared.step_word.ChangeWord.TheVariants as changes
use Rattle.gremlin_parse.specs.declared.step_word.NamesStep.TheVariants as of_names
use Rattle.gremlin_parse.specs.declared.step_word.StepWord.{StepWord}
use Rattle.gremlin_parse.specs.declared.step_word.StepWord.TheVariants as words
use Rattle.gremlin_parse.proofs.Fitting.{items_of, written_items, written_steps, all_items, all_steps, faultless_name}
use Rattle.gremlin_parse.proofs.KeyTokens.{is_keyed, order_keyed}
use Rattle.gremlin_parse.proofs.RepeatReads.{before_33rd}
use Rattle.gremlin_parse.proofs.StepNames.{Follows, step_letters, step_word}
use Rattle.gremlin_parse.proofs.TokenWalks.{Walks, leads_spelled}
use Rattle.gremlin_parse.proofs.TokenSteps.{only, only_other, Next, next_is, and_then, plain_sign, next_name}
use Rattle.gremlin_parse.proofs.TokenSteps.{next_names, rest_within, TakesAs, body_walk, closing_walk, repeat_walk}
use Rattle.gremlin_parse.proofs.TokenSteps.{order_walk}

-- ---- keys and values

pub loose_pair : (purpose : PairFor) (key : List ℕ) (value : Value) → is_loose (after_pair purpose key value) ≡ true
loose_pair (OfChange subject pairs) key value = refl
loose_pair (OfSource label) key value = refl

abbrev NextPair : Command → PairFor → List Token → Type 0
NextPair end purpose tokens = (key : List ℕ) × (value : Value) × (rest : List Token) × (tokens ≡ Quoted key ∷ comma ∷ literal value ∷ closing ∷ rest)
    × Walks end (after_pair purpose key value) rest

pair_value : (end : Command) (purpose : PairFor) (key : List ℕ) (tokens : List Token) → Walks end (PairValue purpose key) tokens → (value : Value)
    × Next end (literal value) (PairCloses purpose key value) tokens
pair_value end purpose key [] walks = cc
pair_value end purpose key (t ∷ ts) (inl none) = absurd none
pair_value end purpose key (t ∷ ts) (inr (value, allows, same, later)) = (value, (ts, (λ i. same i ∷ ts), later))

pair_walk : (end : Command) (purpose : PairFor) (tokens : List Token) → Walks end (Quote (PairKey purpose)) tokens → NextPair end purpose tokens
pair_walk end purpose tokens walks =
    let (key, one, is, at) = next_name end (PairKey purpose) tokens walks in
    let (two, commas, later) = next_is end (AfterPairKey purpose key) (PairValue purpose key) comma refl (λ t ts at. only at) one at in
    let (value, (three, are, last)) = pair_value end purpose key two later in
    let (four, closes, more) = next_is end (PairCloses purpose key value) (after_pair purpose key value) closing refl
    (λ t ts at. plain_sign 41 (after_pair purpose key value) (λ next. Walks end next ts) t (loose_pair purpose key value) (only at)) three last in
    (key, value, four, and_then is (and_then commas (and_then are closes)), more)

-- ---- properties

-- The steps up to the last of these properties are at most 32.
abbrev pub AreEarly : Subject → List Pair → Type 0
AreEarly subject pairs = steps_before subject + length pairs ≤ 32

one_pair_more : (subject : Subject) (pairs : List Pair) (pair : Pair) → steps_before subject + length pairs < 32 → AreEarly subject (pairs ++ pair ∷ [])
one_pair_more subject pairs pair early = let len : length (pairs ++ pair ∷ []) ≡ length pairs + 1 = length-append pairs (pair ∷ []) in omega (arith, len, early)

abbrev Properties : Command → Subject → List Pair → List Token → Type 0
Properties end subject pairs tokens = (more : List Pair) × (tokens ≡ properties_of more) × (end ≡ changed subject (pairs ++ more))
    × AreEarly subject (pairs ++ more)

property_name : (end : Command) (subject : Subject) (pairs : List Pair) (tokens : List Token) → Walks end (PropertyName subject pairs) tokens
    → (steps_before subject + length pairs < 32) × Next end (word (codes "property")) (OpensProperty subject pairs) tokens
property_name end subject pairs [] walks = cc
property_name end subject pairs (t ∷ ts) (inl none) = absurd none
property_name end subject pairs (t ∷ ts) (inr (entry, inl entry_is, same, (bytes, from, none), later)) =
    (before_33rd (steps_before subject + length pairs) none, (ts, (λ i. (same ∙ ap (λ (e : Entry StepWord). word e.0) entry_is) i ∷ ts), later))
property_name end subject pairs (t ∷ ts) (inr (entry, inr none, same, free, later)) = absurd none

property_walk : (end : Command) (subject : Subject) (pairs : List Pair) (tokens : List Token) → Walks end (PropertyName subject pairs) tokens → (pair : Pair)
    × (rest : List Token) × (tokens ≡ property_of pair ++ rest) × AreEarly subject (pairs ++ pair ∷ []) × Walks end (Changed subject (pairs ++ pair ∷ [])) rest
property_walk end subject pairs tokens walks =
    let (early, (one, is, at)) = property_name end subject pairs tokens walks in
    let (two, opens, later) = next_is end (OpensProperty subject pairs) (Quote (PairKey (OfChange subject pairs))) opening refl (λ t ts at. only at) one at in
    let (key, value, rest, whole, last) = pair_walk end (OfChange subject pairs) two later in
    let pair : Pair = record { key = key; value = value } in
    (pair, rest, and_then is (and_then opens whole), one_pair_more subject pairs pair early, last)

properties_walk : (k : ℕ) (end : Command) (subject : Subject) (pairs : List Pair) (tokens : List Token) → length tokens ≤ k → AreEarly subject pairs
    → Walks end (Changed subject pairs) tokens → Properties end subject pairs tokens
properties_walk k end subject pairs [] within early walks =
    let ended : end ≡ changed subject pairs = cc in
    ([], refl, ended ∙ ap (λ (l : List Pair). changed subject l) (sym (append-nil pairs)), subst (AreEarly subject) (sym (append-nil pairs)) early)
properties_walk zero end subject pairs (t ∷ ts) within early walks = absurd (omega (arith, within))
properties_walk (suc k) end subject pairs (t ∷ ts) within early (inl (inl (same, at))) =
    let (pair, rest, whole, next, later) = property_walk end subject pairs ts at in
    let short = rest_within ts (property_of pair) rest whole in
    let (more, are, ended, all_early) = properties_walk k end subject (pairs ++ pair ∷ []) rest (omega (arith, short, within)) next later in
    let joined : (pairs ++ pair ∷ []) ++ more ≡ pairs ++ pair ∷ more = append_assoc pairs (pair ∷ []) more in (
      pair ∷ more,
      (λ i. same i ∷ (whole ∙ ap (λ (r : List Token). property_of pair ++ r) are) i),
      ended ∙ ap (λ (l : List Pair). changed subject l)
          joined,
      subst (AreEarly subject) joined all_early,
    )
properties_walk (suc k) end subject pairs (t ∷ ts) within early (inl (inr none)) = absurd none
properties_walk (suc k) end subject pairs (t ∷ ts) within early (inr none) = absurd none

all_properties : (end : Command) (subject : Subject) (pairs : List Pair) (tokens : List Token) → AreEarly subject pairs
    → Walks end (Changed subject pairs) tokens → Properties end subject pairs tokens
all_properties end subject pairs tokens early walks = properties_walk (length tokens) end subject pairs tokens (omega arith) early walks

-- ---- changes

-- The change takes what comes to it, and the steps up to its last one are at most 32.
abbrev pub Fits : Query → Mutation → Type 0
Fits query mutation = (takes_change (items_of query) mutation ≡ true) × (steps_of query + change_count mutation ≤ 32)

-- A change with these letters stands to the line's end, which is this.
abbrev Changes : Command → Query → List ℕ → List Token → Type 0
Changes end query letters tokens = (mutation : Mutation) × (end ≡ commands.Mutate (Some query) mutation) × IsChange mutation (word letters ∷ opening ∷ tokens)
    × Fits query mutation

drop_walk : (end : Command) (query : Query) (tokens : List Token) → are_elements (items_of query) ≡ true → steps_of query < 32
    → Walks end (DropCloses query) tokens → Changes end query (codes "drop") tokens
drop_walk end query tokens fit early walks = let (rest, closes, at) = next_is end (DropCloses query) (Dropped query) closing refl (λ t ts at. only at) tokens
    walks in here rest closes at
  where
    here : (rest : List Token) → tokens ≡ closing ∷ rest → Walks end (Dropped query) rest → Changes end query (codes "drop") tokens
    here [] closes at = let ended : end ≡ commands.Mutate (Some query) mutations.Drop = cc in
        (mutations.Drop, ended, ap (λ (r : List Token). word (codes "drop") ∷ opening ∷ r) closes, (fit, omega (arith, early)))
    here (t ∷ ts) closes (inl none) = absurd none
    here (t ∷ ts) closes (inr none) = absurd none

elements_walk : (end : Command) (query : Query) (tokens : List Token) → are_elements (items_of query) ≡ true → steps_of query < 32
    → Walks end (Quote (PairKey (OfChange (Elements query) []))) tokens → Changes end query (codes "property") tokens
elements_walk end query tokens fit early walks =
    let (key, value, rest, whole, at) = pair_walk end (OfChange (Elements query) []) tokens walks in
    let (more, are, ended, all_early) = all_properties end (Elements query) (with_pair [] key value) rest (omega (arith, early)) at in (
      mutations.Property (record { key = key; value = value } ∷ more),
      ended,
      (λ i. dot ∷ word (codes "property") ∷ opening ∷
          (whole ∙ ap (λ (r : List Token). Quoted key ∷ comma ∷ literal value ∷ closing ∷ r) are) i),
      (fit, all_early),
    )

abbrev NextVertex : Command → Query → List ℕ → List Token → Type 0
NextVertex end query label tokens = (to : ℕ) × (rest : List Token) × (tokens ≡ call (codes "V") (identifier to ∷ []) ++ closing ∷ rest)
    × Walks end (Changed (NewEdges query label to) []) rest

to_id : (end : Command) (query : Query) (label : List ℕ) (tokens : List Token) → Walks end (ToId query label) tokens → (to : ℕ)
    × Next end (identifier to) (IdCloses query label to) tokens
to_id end query label [] walks = cc
to_id end query label (t ∷ ts) (inl none) = absurd none
to_id end query label (t ∷ ts) (inr (to, allows, same, later)) = (to, (ts, (λ i. same i ∷ ts), later))

-- from after V on
to_vertex : (end : Command) (query : Query) (label : List ℕ) (tokens rest : List Token) → tokens ≡ word (codes "V") ∷ rest
    → Walks end (OpensId query label) rest → NextVertex end query label tokens
to_vertex end query label tokens rest is walks =
    let (one, opens, at) = next_is end (OpensId query label) (ToId query label) opening refl (λ t ts at. only at) rest walks in
    let (to, (two, are, later)) = to_id end query label one at in
    let (three, closes, last) = next_is end (IdCloses query label to) (ToCloses query label to) closing refl (λ t ts at. only at) two later in
    let (four, ends, more) = next_is end (ToCloses query label to) (Changed (NewEdges query label to) []) closing refl (λ t ts at. only at) three last in
    (to, four, and_then is (and_then opens (and_then are (and_then closes ends))), more)

abbrev NextTo : Command → Query → List ℕ → List Token → Type 0
NextTo end query label tokens = (to : ℕ) × (text : List Token) × (rest : List Token) × (tokens ≡ text ++ rest) × IsTo to (word (codes "to") ∷ opening ∷ text)
    × Walks end (Changed (NewEdges query label to) []) rest

to_first : (end : Command) (query : Query) (label : List ℕ) (tokens : List Token) → Walks end (ToFirst query label) tokens → NextTo end query label tokens
to_first end query label [] walks = cc
to_first end query label (t ∷ ts) (inl (inl (same, at))) =
    let (one, dots, later) = next_is end (ToAnonymous query label) (ToVertex query label) dot refl (λ u us at. only at) ts at in
    let (two, is, last) = next_is end (ToVertex query label) (OpensId query label) (word (codes "V")) refl (λ u us at. only at) one later in
    let (to, rest, whole, more) = to_vertex end query label one two is last in (
      to,
      word (codes "__") ∷ dot ∷ call (codes "V") (identifier to ∷ []) ++ closing ∷ [],
      rest,
      (λ i. same i ∷ and_then dots whole i),
      (word (codes "__") ∷ dot ∷ [], inr refl, refl),
      more,
    )
to_first end query label (t ∷ ts) (inl (inr (inl (same, at)))) =
    let (to, rest, whole, more) = to_vertex end query label (t ∷ ts) ts (λ i. same i ∷ ts) at in
    (to, call (codes "V") (identifier to ∷ []) ++ closing ∷ [], rest, whole, ([], inl refl, refl), more)
to_first end query label (t ∷ ts) (inl (inr (inr none))) = absurd none
to_first end query label (t ∷ ts) (inr none) = absurd none

edges_walk : (end : Command) (query : Query) (tokens : List Token) → are_vertices (items_of query) ≡ true → steps_of query < 32
    → Walks end (Quote (EdgeType query)) tokens → Changes end query (codes "addE") tokens
edges_walk end query tokens fit early walks =
    let (label, one, is, at) = next_name end (EdgeType query) tokens walks in
    let (two, closes, later) = next_is end (TypeCloses query label) (AfterType query label) closing refl (λ t ts at. only at) one at in
    let (three, dots, last) = next_is end (AfterType query label) (ToWord query label) dot refl (λ t ts at. only at) two later in
    let (four, word_is, more) = next_is end (ToWord query label) (OpensTo query label) (word (codes "to")) refl
    (λ t ts at. let (none, allows, same, last) = only_other at in (same, last)) three last in
    let (five, opens, rest) = next_is end (OpensTo query label) (ToFirst query label) opening refl (λ t ts at. only at) four more in
    let (to, text, six, whole, is_to, all) = to_first end query label five rest in
    let (pairs, are, ended, all_early) = all_properties end (NewEdges query label to) [] six (omega (arith, early)) all in
    let these : tokens ≡ Quoted label ∷ closing ∷ dot ∷ word (codes "to") ∷ opening ∷ (text ++ properties_of pairs) =
    and_then is (and_then closes (and_then dots (and_then word_is (and_then opens (whole ∙ ap (λ (r : List Token). text ++ r) are))))) in (
      mutations.AddE label to pairs,
      ended,
      (word (codes "to") ∷ opening ∷ text, is_to, (λ i. word (codes "addE") ∷ opening ∷ these i)),
      (fit, omega (arith, all_early)),
    )

-- ---- steps

-- The step takes what comes to it, and the steps up to it are at most 32.
abbrev pub IsNext : Query → WrittenStep → Type 0
IsNext query step = (takes (items_of query) step ≡ true) × (steps_of query + counts step ≤ 32)

abbrev Stepped : Command → Query → List ℕ → List Token → Type 0
Stepped end query letters tokens = (step : WrittenStep) × (text : List Token) × (rest : List Token) × (tokens ≡ text ++ rest)
    × IsWrittenStep step (word letters ∷ opening ∷ text) × IsNext query step × Walks end (Steps (with_written query step)) rest

bare_is : (this : BareStep) → IsStep (bare_step this) (word (step_letters (words.Bare this)) ∷ opening ∷ closing ∷ [])
bare_is bare.OutV = refl
bare_is bare.InV = refl
bare_is bare.Id = refl
bare_is bare.Label = refl
bare_is bare.Dedup = refl
bare_is bare.Count = refl

body_is : (step : BodyStep) (text : List Token) → IsBodyStep step text → IsStep (step_of step) text
body_is (bodies.Neighbours hop) text is = is
body_is (bodies.Filter filter) text is = is

most_walk : (end : Command) (query : Query) (tokens : List Token) → Walks end (Most query) tokens → (most : ℕ)
    × Next end (Whole (Number most_limit most)) (Closing query (steps.Limit most)) tokens
most_walk end query [] walks = cc
most_walk end query (t ∷ ts) (inl none) = absurd none
most_walk end query (t ∷ ts) (inr (most, allows, same, later)) = (most, (ts, (λ i. same i ∷ ts), later))

pub bare_takes : (this : BareStep) → TakesAs (words.Bare this) (Does (bare_step this))
bare_takes bare.OutV these bytes = refl
bare_takes bare.InV these bytes = refl
bare_takes bare.Id these bytes = refl
bare_takes bare.Label these bytes = refl
bare_takes bare.Dedup these bytes = refl
bare_takes bare.Count these bytes = refl

bare_counts : (this : BareStep) → counts (Does (bare_step this)) ≡ 1
bare_counts bare.OutV = refl
bare_counts bare.InV = refl
bare_counts bare.Id = refl
bare_counts bare.Label = refl
bare_counts bare.Dedup = refl
bare_counts bare.Count = refl

body_counts : (step : BodyStep) → counts (Does (step_of step)) ≡ 1
body_counts (bodies.Neighbours hop) = refl
body_counts (bodies.Filter filter) = refl

-- What stands after steps may stand there.
pub steps_follow : (end : Command) (query : Query) (tokens : List Token) → Walks end (Steps query) tokens → Follows tokens
steps_follow end query [] walks = inl refl
steps_follow end query (t ∷ []) (inl (inl (same, at))) = cc
steps_follow end query (t ∷ u ∷ us) (inl (inl (same, inl none))) = absurd none
steps_follow end query (t ∷ u ∷ us) (inl (inl (same, inr (entry, within, is, free, later)))) =
    let named = step_word entry within in
    let name : u ≡ word (step_letters entry.1) = is ∙ ap (λ (l : List ℕ). word l) (sym named.0) in
    inr (entry.1, us, named.1, (λ i. same i ∷ name i ∷ us))
steps_follow end query (t ∷ ts) (inl (inr none)) = absurd none
steps_follow end query (t ∷ ts) (inr none) = absurd none

-- An order by a key takes elements, and a plain one no maps.
pub order_takes : (key : Option (List ℕ)) (descending : Bool) (these : Items) (bytes : List ℕ) → has_key bytes ≡ is_keyed key
    → takes these (Does (steps.Order key descending)) ≡ fits these words.Order bytes
order_takes None descending these bytes is = sym (ap (λ (t : Bool). if t then are_elements these else not (are_maps these)) is)
order_takes (Some key) descending these bytes is = sym (ap (λ (t : Bool). if t then are_elements these else not (are_maps these)) is)

arguments_walk : (end : Command) (query : Query) (this : StepWord) → is_by this ≡ false → (tokens : List Token) → (bytes : List ℕ)
    → AreFrom (word (step_letters this) ∷ opening ∷ tokens) bytes → fits (items_of query) this bytes ≡ true → steps_of query < 32
    → Walks end (opened query this) tokens → Stepped end query (step_letters this) tokens ⊎ Changes end query (step_letters this) tokens
arguments_walk end query (words.Bare this) other tokens bytes from fit early walks =
    let (rest, closes, at) = closing_walk end query (bare_step this) tokens walks in
    let one = bare_counts this in
    inl (Does (bare_step this), closing ∷ [], rest, closes, bare_is this, (bare_takes this (items_of query) bytes ∙ fit, omega (arith, one, early)), at)
arguments_walk end query (words.Names (of_names.Incident direction)) other tokens bytes from fit early walks =
    let (names, rest, whole, at) = next_names end (OfStep query (of_names.Incident direction)) tokens walks in
    inl (
      Does (steps.Incident (record { direction = direction; labels = names })),
      names_of names ++ closing ∷ [],
      rest,
      whole,
      refl,
      (fit, omega (arith, early)),
      at,
    )
arguments_walk end query (words.Names of_names.Values) other tokens bytes from fit early walks =
    let (names, rest, whole, at) = next_names end (OfStep query of_names.Values) tokens walks in
    inl (Does (steps.Values names), names_of names ++ closing ∷ [], rest, whole, refl, (fit, omega (arith, early)), at)
arguments_walk end query (words.Body body) other tokens bytes from fit early walks =
    let (step, text, rest, whole, is, same, at) = body_walk end (OfQuery query) body tokens walks in
    let one = body_counts step in
    inl (Does (step_of step), text, rest, whole, body_is step _ is, (same (items_of query) bytes ∙ fit, omega (arith, one, early)), at)
arguments_walk end query words.ElementMap other tokens bytes from fit early walks =
    let (names, rest, whole, at) = next_names end (OfMaps query) tokens walks in
    inl (Maps names, names_of names ++ closing ∷ [], rest, whole, refl, (fit, omega (arith, early)), at)
arguments_walk end query words.Limit other tokens bytes from fit early walks =
    let (most, (one, is, at)) = most_walk end query tokens walks in
    let (rest, closes, later) = closing_walk end query (steps.Limit most) one at in
    inl (Does (steps.Limit most), Whole (Number most_limit most) ∷ closing ∷ [], rest, and_then is closes, refl, (refl, omega (arith, early)), later)
arguments_walk end query words.Order other tokens bytes from fit early walks =
    let (key, descending, text, rest, whole, is, at) = order_walk end query tokens walks in
    let follows = steps_follow end (with_step query (steps.Order key descending)) rest at in
    let these : AreFrom (word (codes "order") ∷ opening ∷ (text ++ rest)) bytes =
    subst (λ (t : List Token). AreFrom (word (codes "order") ∷ opening ∷ t) bytes) whole from in
    let keyed = order_keyed key descending (word (codes "order") ∷ opening ∷ text) rest is follows bytes these in
    inl (Does (steps.Order key descending), text, rest, whole, is, (order_takes key descending (items_of query) bytes keyed ∙ fit, omega (arith, early)), at)
arguments_walk end query words.By other tokens bytes from fit early walks = cc
arguments_walk end query words.Repeat other tokens bytes from fit early walks =
    let (body, times, text, rest, whole, is, all_early, at) = repeat_walk end query tokens walks in
    inl (Does (steps.Repeat body times), text, rest, whole, is, (fit, omega (arith, all_early)), at)
arguments_walk end query (words.Change changes.AddE) other tokens bytes from fit early walks = inr (edges_walk end query tokens fit early walks)
arguments_walk end query (words.Change changes.Property) other tokens bytes from fit early walks = inr (elements_walk end query tokens fit early walks)
arguments_walk end query (words.Change changes.Drop) other tokens bytes from fit early walks = inr (drop_walk end query tokens fit early walks)

pub loose_opened : (query : Query) (this : StepWord) → is_loose (opened query this) ≡ true
loose_opened query (words.Bare this) = refl
loose_opened query (words.Names this) = refl
loose_opened query (words.Body (of_body.Neighbours direction)) = refl
loose_opened query (words.Body of_body.HasLabel) = refl
loose_opened query (words.Body of_body.Has) = refl
loose_opened query words.ElementMap = refl
loose_opened query words.Limit = refl
loose_opened query words.Order = refl
loose_opened query words.By = refl
loose_opened query words.Repeat = refl
loose_opened query (words.Change changes.AddE) = refl
loose_opened query (words.Change changes.Property) = refl
loose_opened query (words.Change changes.Drop) = refl

-- the name of a step and what follows it
abbrev NextWritten : Command → Query → List Token → Type 0
NextWritten end query tokens =
    ((step : WrittenStep) × (text : List Token) × (rest : List Token) × (tokens ≡ text ++ rest) × IsWrittenStep step text × IsNext query step × Walks end
    (Steps (with_written query step)) rest)
    ⊎ ((mutation : Mutation) × (end ≡ commands.Mutate (Some query) mutation) × IsChange mutation tokens × Fits query mutation)

name_walk : (end : Command) (query : Query) (tokens : List Token) → Walks end (StepName query) tokens → NextWritten end query tokens
name_walk end query [] walks = cc
name_walk end query (t ∷ ts) (inl none) = absurd none
name_walk end query (t ∷ ts) (inr (entry, within, same, (bytes, from, none), later)) =
    let is = step_word entry within in
    let (rest, opens, at) = next_is end (Opens query entry.1) (opened query entry.1) opening refl
    (λ u us at. plain_sign 40 (opened query entry.1) (λ next. Walks end next us) u (loose_opened query entry.1) (only at)) ts later in
    let name : t ≡ word (step_letters entry.1) = same ∙ ap (λ (l : List ℕ). word l) (sym is.0) in
    let whole : t ∷ ts ≡ word (step_letters entry.1) ∷ opening ∷ rest = λ i. name i ∷ opens i in
    let free = faultless_name query entry.1 bytes is.1 none in
    here (step_letters entry.1) rest whole (arguments_walk end query entry.1 is.1 rest bytes (subst (λ (l : List Token). AreFrom l bytes) whole from)
    free.0 free.1 at)
  where
    here : (letters : List ℕ) (rest : List Token) → t ∷ ts ≡ word letters ∷ opening ∷ rest → Stepped end query letters rest ⊎ Changes end query letters rest
        → NextWritten end query (t ∷ ts)
    here letters rest whole (inl (step, text, last, cut, is, next, at)) =
        inl (step, word letters ∷ opening ∷ text, last, whole ∙ ap (λ (r : List Token). word letters ∷ opening ∷ r) cut, is, next, at)
    here letters rest whole (inr (mutation, ended, is, fit)) = inr (mutation, ended, subst (IsChange mutation) (sym whole) is, fit)

-- What the line is after its reading part: it ends there, or a change stands there.
abbrev Ended : Command → Query → List Token → Type 0
Ended end query tokens =
    ((tokens ≡ []) × (end ≡ commands.Query (shown query)))
    ⊎ ((mutation : Mutation) × (change : List Token) × (tokens ≡ dot ∷ change) × (end ≡ commands.Mutate (Some query) mutation) × IsChange mutation change
    × Fits query mutation)

-- The steps fit after the query, and are at most 32 with those before.
abbrev pub AllFit : Query → List WrittenStep → Type 0
AllFit query list = Fit (items_of query) list × (steps_of query + count_all list ≤ 32)

all_fit : (query : Query) (step : WrittenStep) (list : List WrittenStep) → IsNext query step → AllFit (with_written query step) list
    → AllFit query (step ∷ list)
all_fit query step list (fit, early) (later, all) =
    let same = written_items query step fit in
    let len = written_steps query step fit in
    ((fit, subst (λ these. Fit these list) same later), omega (arith, len, all))

abbrev Read : Command → Query → List Token → Type 0
Read end query tokens = (list : List WrittenStep) × (text : List Token) × (rest : List Token) × (tokens ≡ text ++ rest) × AreSteps list text × AllFit query list
    × Ended end (with_all query list) rest

steps_walk : (k : ℕ) (end : Command) (query : Query) (tokens : List Token) → length tokens ≤ k → steps_of query ≤ 32 → Walks end (Steps query) tokens
    → Read end query tokens
steps_walk k end query [] within early walks = let ended : end ≡ commands.Query (shown query) = cc in
    ([], [], [], refl, refl, (tt, omega (arith, early)), inl (refl, ended))
steps_walk zero end query (t ∷ ts) within early walks = absurd (omega (arith, within))
steps_walk (suc k) end query (t ∷ ts) within early (inl (inl (same, at))) =
    here (λ step rest short soon later. steps_walk k end (with_written query step) rest (omega (arith, short, within)) soon later) (name_walk end query ts at)
  where
    here : ((step : WrittenStep) (rest : List Token) → length rest ≤ length ts → steps_of (with_written query step) ≤ 32 → Walks end
        (Steps (with_written query step)) rest → Read end (with_written query step) rest) → NextWritten end query ts → Read end query (t ∷ ts)
    here later (inl (step, text, rest, whole, is, next, walks)) =
        let len = written_steps query step next.0 in
        let most = next.1 in
        let soon : steps_of (with_written query step) ≤ 32 = omega (arith, len, most) in
        let (list, texts, last, cut, are, fit, ended) = later step rest (rest_within ts text rest whole) soon walks in
        let all : ts ≡ (text ++ texts) ++ last = whole ∙ ap (λ (r : List Token). text ++ r) cut ∙ sym (append_assoc text texts last) in
        (step ∷ list, dot ∷ text ++ texts, last, (λ i. same i ∷ all i), (text, texts, refl, is, are), all_fit query step list next fit, ended)
    here later (inr (mutation, ended, is, fit)) = (
      [],
      [],
      t ∷ ts,
      refl,
      refl,
      (tt, omega (arith, early)),
      inr (
        mutation,
        ts,
        (λ i. same i ∷ ts),
        ended,
        is,
        fit,
      ),
    )
steps_walk (suc k) end query (t ∷ ts) within early (inl (inr none)) = absurd none
steps_walk (suc k) end query (t ∷ ts) within early (inr none) = absurd none

-- ---- sources

abbrev LaterIds : Command → Bool → List ℕ → List Token → Type 0
LaterIds end edges ids tokens = (more : List ℕ) × (rest : List Token) × (tokens ≡ (after_commas (map identifier more) ++ closing ∷ []) ++ rest)
    × Walks end (Steps (query_from (elements_of edges (ids ++ more)))) rest

later_ids : (end : Command) (edges : Bool) (ids : List ℕ) (tokens : List Token) → Walks end (AfterId edges ids) tokens → LaterIds end edges ids tokens
later_ids end edges ids [] walks = cc
later_ids end edges ids (t ∷ []) (inl (inl (same, at))) = cc
later_ids end edges ids (t ∷ u ∷ us) (inl (inl (same, inl none))) = absurd none
later_ids end edges ids (t ∷ u ∷ us) (inl (inl (same, inr (id, allows, is, later)))) =
    let (more, rest, whole, at) = later_ids end edges (ids ++ id ∷ []) us later in (
      id ∷ more,
      rest,
      (λ i. same i ∷ is i ∷ whole i),
      subst (λ l. Walks end (Steps (query_from (elements_of edges l))) rest) (append_assoc ids (id ∷ []) more)
          at,
    )
later_ids end edges ids (t ∷ ts) (inl (inr (inl (same, at)))) = (
  [],
  ts,
  (λ i. same i ∷ ts),
  subst (λ l. Walks end (Steps (query_from (elements_of edges l)))
      ts) (sym (append-nil ids)) at,
)
later_ids end edges ids (t ∷ ts) (inl (inr (inr none))) = absurd none
later_ids end edges ids (t ∷ ts) (inr none) = absurd none

abbrev NextIds : Command → Bool → List Token → Type 0
NextIds end edges tokens = (ids : List ℕ) × (rest : List Token) × (tokens ≡ (ids_of ids ++ closing ∷ []) ++ rest)
    × Walks end (Steps (query_from (elements_of edges ids))) rest

ids_walk : (end : Command) (edges : Bool) (tokens : List Token) → Walks end (FirstId edges) tokens → NextIds end edges tokens
ids_walk end edges [] walks = cc
ids_walk end edges (t ∷ ts) (inl (inl (same, at))) = ([], ts, (λ i. same i ∷ ts), at)
ids_walk end edges (t ∷ ts) (inl (inr none)) = absurd none
ids_walk end edges (t ∷ ts) (inr (id, allows, same, later)) = let (more, rest, whole, at) = later_ids end edges (id ∷ []) ts later in
    (id ∷ more, rest, (λ i. same i ∷ whole i), at)

-- what a change takes and counts, after all steps
change_fits : (query : Query) (list : List WrittenStep) (mutation : Mutation) → Fit (items_of query) list → Fits (with_all query list) mutation
    → (takes_change (given (items_of query) list) mutation ≡ true) × ((steps_of query + count_all list) + change_count mutation ≤ 32)
change_fits query list mutation fit (takes_it, early) =
    let len = all_steps query list fit in
    (ap (λ these. takes_change these mutation) (sym (all_items query list fit)) ∙ takes_it, omega (arith, len, early))

-- what a query reads, from the text of its source on
reading_walk : (end : Command) (source : Source) (tokens rest : List Token) → tokens ≡ source_of source ++ rest → Walks end (Steps (query_from source)) rest
    → IsQueryOf end (dot ∷ tokens)
reading_walk end source tokens rest whole walks = ended (steps_walk (length rest) end (query_from source) rest (omega arith) (omega arith) walks)
  where
    ended : Read end (query_from source) rest → IsQueryOf end (dot ∷ tokens)
    ended (list, text, last, cut, are, fit, inl (none, is)) =
        let all : tokens ≡ source_of source ++ text = whole ∙ ap (λ (r : List Token). source_of source ++ r)
        (cut ∙ ap (λ (r : List Token). text ++ r) none ∙ append-nil text) in
        let early = fit.1 in
        let most : count_all list ≤ 32 = omega (arith, early) in
        subst (λ e. IsQueryOf e (dot ∷ tokens)) (sym is) (
          with_all (query_from source) list,
          given (first_items source) list,
          count_all list,
          tokens,
          refl,
          (
            source,
            list,
            text,
            all,
            are,
            fit.0,
            refl,
            refl,
            refl,
          ),
          most,
          refl,
        )
    ended (list, text, last, cut, are, fit, inr (mutation, change, dots, is, changes, fits_it)) =
        let all : tokens ≡ (source_of source ++ text) ++ dot ∷ change = whole
        ∙ ap (λ (r : List Token). source_of source ++ r) (cut ∙ ap (λ (r : List Token). text ++ r) dots)
        ∙ sym (append_assoc (source_of source) text (dot ∷ change)) in
        let last_fits = change_fits (query_from source) list mutation fit.0 fits_it in
        let early = last_fits.1 in
        let most : count_all list + change_count mutation ≤ 32 = omega (arith, early) in
        subst (λ e. IsQueryOf e (dot ∷ tokens)) (sym is) (
          tokens,
          refl,
          (
            given (first_items source) list,
            count_all list,
            source_of source ++ text,
            change,
            all,
            (
              source,
              list,
              text,
              refl,
              are,
              fit.0,
              refl,
              refl,
              refl,
            ),
            changes,
            last_fits.0,
            most,
          ),
        )

found_walk : (end : Command) (tokens : List Token) → Walks end (Quote FoundLabel) tokens → IsQueryOf end (dot ∷ word (codes "find") ∷ opening ∷ tokens)
found_walk end tokens walks =
    let (label, one, is, at) = next_name end FoundLabel tokens walks in
    let (two, commas, later) = next_is end (AfterFoundLabel label) (Quote (PairKey (OfSource label))) comma refl (λ t ts at. only at) one at in
    let (key, value, rest, whole, last) = pair_walk end (OfSource label) two later in
    reading_walk end (origins.Found label key value) (word (codes "find") ∷ opening ∷ tokens) rest
    (λ i. word (codes "find") ∷ opening ∷ and_then is (and_then commas whole) i) last

vertex_walk : (end : Command) (tokens : List Token) → Walks end (Quote VertexLabel) tokens → IsQueryOf end (dot ∷ word (codes "addV") ∷ opening ∷ tokens)
vertex_walk end tokens walks =
    let (label, one, is, at) = next_name end VertexLabel tokens walks in
    let (two, closes, later) = next_is end (VertexCloses label) (Changed (NewVertex label) []) closing refl (λ t ts at. only at) one at in
    let (pairs, are, ended, early) = all_properties end (NewVertex label) [] two (omega arith) later in
    let all : word (codes "addV") ∷ opening ∷ tokens ≡ call (codes "addV") (Quoted label ∷ []) ++ properties_of pairs = λ i.
    word (codes "addV") ∷ opening ∷ and_then is (and_then closes are) i in
    subst (λ e. IsQueryOf e (dot ∷ word (codes "addV") ∷ opening ∷ tokens)) (sym ended)
    (word (codes "addV") ∷ opening ∷ tokens, refl, (all, omega (arith, early)))

-- how what a query begins with is written
abbrev source_letters : SourceKind → List ℕ
source_letters sources.Vertices = codes "V"
source_letters sources.Edges = codes "E"
source_letters sources.NewVertex = codes "addV"
source_letters sources.Found = codes "find"

source_walk : (end : Command) (kind : SourceKind) (tokens : List Token) → Walks end (opened_source kind) tokens
    → IsQueryOf end (dot ∷ word (source_letters kind) ∷ opening ∷ tokens)
source_walk end sources.Vertices tokens walks = let (ids, rest, whole, at) = ids_walk end false tokens walks in
    reading_walk end (origins.Vertices ids) (word (codes "V") ∷ opening ∷ tokens) rest (λ i. word (codes "V") ∷ opening ∷ whole i) at
source_walk end sources.Edges tokens walks = let (ids, rest, whole, at) = ids_walk end true tokens walks in
    reading_walk end (origins.Edges ids) (word (codes "E") ∷ opening ∷ tokens) rest (λ i. word (codes "E") ∷ opening ∷ whole i) at
source_walk end sources.NewVertex tokens walks = vertex_walk end tokens walks
source_walk end sources.Found tokens walks = found_walk end tokens walks

pub loose_source : (kind : SourceKind) → is_loose (opened_source kind) ≡ true
loose_source sources.Vertices = refl
loose_source sources.Edges = refl
loose_source sources.NewVertex = refl
loose_source sources.Found = refl

opening_walk : (end : Command) (kind : SourceKind) (t : Token) (ts : List Token) → t ≡ word (source_letters kind) → Walks end (Opening kind) ts
    → IsQueryOf end (dot ∷ t ∷ ts)
opening_walk end kind t ts same walks =
    let (rest, opens, at) = next_is end (Opening kind) (opened_source kind) opening refl
    (λ u us at. plain_sign 40 (opened_source kind) (λ next. Walks end next us) u (loose_source kind) (only at)) ts walks in
    subst (λ l. IsQueryOf end (dot ∷ l)) (sym (λ i. same i ∷ opens i)) (source_walk end kind rest at)

-- What the table of places makes of the tokens after g, the productions make of them.
start_walk : (end : Command) (tokens : List Token) → Walks end Start tokens → IsQueryOf end tokens
start_walk end [] walks = cc
start_walk end (d ∷ []) (inl (inl (same, at))) = cc
start_walk end (d ∷ t ∷ ts) (inl (inl (dots, inl (inl (same, at))))) = subst (λ s. IsQueryOf end (s ∷ t ∷ ts)) (sym dots)
    (opening_walk end sources.Vertices t ts same at)
start_walk end (d ∷ t ∷ ts) (inl (inl (dots, inl (inr (inl (same, at)))))) =
    subst (λ s. IsQueryOf end (s ∷ t ∷ ts)) (sym dots) (opening_walk end sources.Edges t ts same at)
start_walk end (d ∷ t ∷ ts) (inl (inl (dots, inl (inr (inr none))))) = absurd none
start_walk end (d ∷ t ∷ ts) (inl (inl (dots, inr (inl (none, allows, same, at))))) =
    subst (λ s. IsQueryOf end (s ∷ t ∷ ts)) (sym dots) (opening_walk end sources.Found t ts same at)
start_walk end (d ∷ t ∷ ts) (inl (inl (dots, inr (inr (none, allows, same, at))))) =
    subst (λ s. IsQueryOf end (s ∷ t ∷ ts)) (sym dots) (opening_walk end sources.NewVertex t ts same at)
start_walk end (d ∷ ts) (inl (inr none)) = absurd none
start_walk end (d ∷ ts) (inr none) = absurd none

pub query_produced : (command : Command) (bytes : List ℕ) → IsKeptQuery command bytes → IsProduced command bytes
query_produced command bytes (blanks, rest, whole, are, (n, leads)) =
    let (tokens, walks, from) = leads_spelled command n Start rest leads in
    (tokens, start_walk command tokens walks, (blanks, rest, whole, are, from))
