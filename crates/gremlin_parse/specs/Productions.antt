-- The grammar of queries by its productions: which tokens spell a query, and which bytes are these
-- tokens. Above each definition stands its production, as the documents have it.
use Rattle.std.specs.Prelude.{◌≡◌, ◌≢◌, ◌⊎◌, ℕ, ◌+◌, ◌≤◌, Bool, true, false, not}
use Rattle.std.specs.Prelude.{Option, Some, None, List, [], ◌∷◌, ◌++◌, length, map, codes}
use Rattle.plain_graph.specs.Names.{IsName}
use Rattle.plain_graph.specs.declared.command.Command.{Command}
use Rattle.plain_graph.specs.declared.command.Command.TheVariants as commands
use Rattle.plain_graph.specs.declared.filter.Filter.{Filter}
use Rattle.plain_graph.specs.declared.filter.Filter.TheVariants as filters
use Rattle.plain_graph.specs.declared.filter.Relation.{Relation}
use Rattle.plain_graph.specs.declared.filter.Relation.TheVariants as relations
use Rattle.plain_graph.specs.declared.mutation.Mutation.{Mutation}
use Rattle.plain_graph.specs.declared.mutation.Mutation.TheVariants as mutations
use Rattle.plain_graph.specs.declared.pairs.Pair.{Pair}
use Rattle.plain_graph.specs.declared.query.BodyStep.{BodyStep}
use Rattle.plain_graph.specs.declared.query.BodyStep.TheVariants as bodies
use Rattle.plain_graph.specs.declared.query.Hop.{Hop}
use Rattle.plain_graph.specs.declared.query.Query.{Query}
use Rattle.plain_graph.specs.declared.query.Source.{Source}
use Rattle.plain_graph.specs.declared.query.Source.TheVariants as origins
use Rattle.plain_graph.specs.declared.query.Step.{Step}
use Rattle.plain_graph.specs.declared.query.Step.TheVariants as steps
use Rattle.plain_graph.specs.declared.value.Value.{Value}
use Rattle.gremlin_parse.specs.Grammar.{Part, Blanks, Exactly, IsBounded, IsPart, Number, Times}
use Rattle.gremlin_parse.specs.Grammar.{Written, direction_name, most_id, most_limit}
use Rattle.gremlin_parse.specs.Grammar.{most_name_bytes, quote_byte}
use Rattle.gremlin_parse.specs.Lines.{AfterFront, AfterG}
use Rattle.gremlin_parse.specs.Queries.{query_from, relation_name, shown, sort_name, with_maps}
use Rattle.gremlin_parse.specs.Queries.{with_step}
use Rattle.gremlin_parse.specs.Reading.{Then}
use Rattle.gremlin_parse.specs.Stages.{are_edges, are_elements, are_maps, are_vertices}
use Rattle.gremlin_parse.specs.Stages.{first_items, items_after, step_count}
use Rattle.gremlin_parse.specs.Tags.{after_tag}
use Rattle.gremlin_parse.specs.declared.stage.Items.{Items}
use Rattle.gremlin_parse.specs.declared.stage.Items.TheVariants as items

-- A token of a query: a word, a sign, a number or a value, as a part of a line has it, or a name
-- between two quotes.
pub data Token : Type 0 where
  Whole : (part : Part) → Token
  Quoted : (name : List ℕ) → Token

-- The bytes are the token, within its bounds. No blanks stand in it.
abbrev pub IsToken : Token → List ℕ → Type 0
IsToken (Whole part) bytes = IsPart part bytes × IsBounded part
IsToken (Quoted name) bytes =
    (double : Bool) × (bytes ≡ quote_byte double ∷ name ++ quote_byte double ∷ []) × IsName name
    × (length name ≤ most_name_bytes)

-- the tokens, with any blanks after each
abbrev pub AreFrom : List Token → List ℕ → Type 0
AreFrom [] bytes = bytes ≡ []
AreFrom (token ∷ tokens) bytes =
    (text : List ℕ) × (rest : List ℕ) × (bytes ≡ text ++ rest) × IsToken token text
    × Then Blanks (AreFrom tokens) rest

-- the tokens, with any blanks before each and after the last one
abbrev pub AreTokens : List Token → List ℕ → Type 0
AreTokens tokens bytes = Then Blanks (AreFrom tokens) bytes

-- a word or a sign
abbrev pub word : List ℕ → Token
word letters = Whole (Exactly letters)

abbrev pub dot : Token
dot = word (codes ".")

abbrev pub comma : Token
comma = word (codes ",")

abbrev pub opening : Token
opening = word (codes "(")

abbrev pub closing : Token
closing = word (codes ")")

-- ID
abbrev pub identifier : ℕ → Token
identifier id = Whole (Number most_id id)

-- VALUE
abbrev pub literal : Value → Token
literal value = Whole (Written value)

-- a word with its arguments: word "(" arguments ")"
abbrev pub call : List ℕ → List Token → List Token
call letters arguments = word letters ∷ opening ∷ arguments ++ closing ∷ []

-- { "," token }
abbrev pub after_commas : List Token → List Token
after_commas [] = []
after_commas (token ∷ tokens) = comma ∷ token ∷ after_commas tokens

-- [ token { "," token } ]
abbrev pub separated : List Token → List Token
separated [] = []
separated (token ∷ tokens) = token ∷ after_commas tokens

-- names = name { "," name }, or none
abbrev pub names_of : List (List ℕ) → List Token
names_of names = separated (map Quoted names)

-- ID { "," ID }, or none
abbrev pub ids_of : List ℕ → List Token
ids_of ids = separated (map identifier ids)

-- source = ( "V" | "E" ) "(" [ ID { "," ID } ] ")" | "find" "(" name "," name "," VALUE ")"
abbrev pub source_of : Source → List Token
source_of (origins.Vertices ids) = call (codes "V") (ids_of ids)
source_of (origins.Edges ids) = call (codes "E") (ids_of ids)
source_of (origins.Found label key value) =
    call (codes "find") (Quoted label ∷ comma ∷ Quoted key ∷ comma ∷ literal value ∷ [])

-- hop = ( "out" | "in" | "both" ) "(" [ names ] ")"
abbrev pub hop_of : Hop → List Token
hop_of hop = call (direction_name hop.direction) (names_of hop.labels)

-- incident = ( "outE" | "inE" | "bothE" ) "(" [ names ] ")"
abbrev pub incident_of : Hop → List Token
incident_of hop = call (direction_name hop.direction ++ codes "E") (names_of hop.labels)

-- pred = [ "P" "." ] ( "eq" | "neq" | "gt" | "gte" | "lt" | "lte" ) "(" VALUE ")"
abbrev pub IsPredicate : Relation → Value → List Token → Type 0
IsPredicate relation value tokens =
    (tokens ≡ call (relation_name relation) (literal value ∷ []))
    ⊎ (tokens ≡ word (codes "P") ∷ dot ∷ call (relation_name relation) (literal value ∷ []))

-- VALUE | pred: a value alone is one that is equal
abbrev pub IsCompared : Relation → Value → List Token → Type 0
IsCompared relation value tokens =
    ((relation ≡ relations.Eq) × (tokens ≡ literal value ∷ []))
    ⊎ IsPredicate relation value tokens

-- filter = "hasLabel" "(" names ")" | "has" "(" name [ "," ( VALUE | pred ) ] ")"
abbrev pub IsFilter : Filter → List Token → Type 0
IsFilter (filters.Has key) tokens = tokens ≡ call (codes "has") (Quoted key ∷ [])
IsFilter (filters.HasValue key relation value) tokens =
    (text : List Token) × IsCompared relation value text
    × (tokens ≡ call (codes "has") (Quoted key ∷ comma ∷ text))
IsFilter (filters.HasLabel labels) tokens =
    (labels ≢ []) × (tokens ≡ call (codes "hasLabel") (names_of labels))

-- body = hop | filter
abbrev pub IsBodyStep : BodyStep → List Token → Type 0
IsBodyStep (bodies.Neighbours hop) tokens = tokens ≡ hop_of hop
IsBodyStep (bodies.Filter filter) tokens = IsFilter filter tokens

-- { "." body }
abbrev pub AreBodySteps : List BodyStep → List Token → Type 0
AreBodySteps [] tokens = tokens ≡ []
AreBodySteps (step ∷ list) tokens =
    (text : List Token) × (later : List Token) × (tokens ≡ dot ∷ text ++ later)
    × IsBodyStep step text × AreBodySteps list later

-- body { "." body }
abbrev pub IsBody : List BodyStep → List Token → Type 0
IsBody body tokens = AreBodySteps body (dot ∷ tokens)

-- [ "__" "." ]
abbrev pub IsAnonymous : List Token → Type 0
IsAnonymous tokens = (tokens ≡ []) ⊎ (tokens ≡ word (codes "__") ∷ dot ∷ [])

-- dir = [ "Order" "." ] ( "asc" | "desc" )
abbrev pub IsDirection : Bool → List Token → Type 0
IsDirection descending tokens =
    (tokens ≡ word (sort_name descending) ∷ [])
    ⊎ (tokens ≡ word (codes "Order") ∷ dot ∷ word (sort_name descending) ∷ [])

-- [ dir | name [ "," dir ] ]: an order without a direction ascends
abbrev pub IsBy : Option (List ℕ) → Bool → List Token → Type 0
IsBy None descending tokens =
    ((descending ≡ false) × (tokens ≡ [])) ⊎ IsDirection descending tokens
IsBy (Some key) descending tokens =
    ((descending ≡ false) × (tokens ≡ Quoted key ∷ []))
    ⊎ ((text : List Token) × IsDirection descending text × (tokens ≡ Quoted key ∷ comma ∷ text))

-- order = "order" "(" ")" [ "." "by" "(" [ dir | name [ "," dir ] ] ")" ]
abbrev pub IsOrder : Option (List ℕ) → Bool → List Token → Type 0
IsOrder key descending tokens =
    ((key ≡ None) × (descending ≡ false) × (tokens ≡ call (codes "order") []))
    ⊎ ((text : List Token) × IsBy key descending text
    × (tokens ≡ call (codes "order") [] ++ dot ∷ call (codes "by") text))

-- repeat = "repeat" "(" [ "__" "." ] body { "." body } ")" "." "times" "(" TIMES ")"
abbrev pub IsRepeat : List BodyStep → ℕ → List Token → Type 0
IsRepeat body times tokens =
    (front : List Token) × (text : List Token) × IsAnonymous front × IsBody body text
    × (tokens ≡ call (codes "repeat") (front ++ text) ++ dot
    ∷ call (codes "times") (Whole (Times times) ∷ []))

-- step = hop | incident | filter | order | repeat | "values" "(" [ names ] ")"
--      | ( "outV" | "inV" | "id" | "label" | "dedup" | "count" ) "(" ")" | "limit" "(" NUMBER ")"
abbrev pub IsStep : Step → List Token → Type 0
IsStep (steps.Neighbours hop) tokens = tokens ≡ hop_of hop
IsStep (steps.Incident hop) tokens = tokens ≡ incident_of hop
IsStep steps.OutV tokens = tokens ≡ call (codes "outV") []
IsStep steps.InV tokens = tokens ≡ call (codes "inV") []
IsStep (steps.Filter filter) tokens = IsFilter filter tokens
IsStep (steps.Values keys) tokens = tokens ≡ call (codes "values") (names_of keys)
IsStep steps.Id tokens = tokens ≡ call (codes "id") []
IsStep steps.Label tokens = tokens ≡ call (codes "label") []
IsStep steps.Dedup tokens = tokens ≡ call (codes "dedup") []
IsStep steps.Count tokens = tokens ≡ call (codes "count") []
IsStep (steps.Limit most) tokens =
    tokens ≡ call (codes "limit") (Whole (Number most_limit most) ∷ [])
IsStep (steps.Order key descending) tokens = IsOrder key descending tokens
IsStep (steps.Repeat body times) tokens = IsRepeat body times tokens

-- A step of the reading part as it is written: a step of the query, or that its elements are shown
-- as maps of these keys.
pub data WrittenStep : Type 0 where
  Does : (step : Step) → WrittenStep
  Maps : (keys : List (List ℕ)) → WrittenStep

-- a step as it is written: one of those above, or "elementMap" "(" [ names ] ")"
abbrev pub IsWrittenStep : WrittenStep → List Token → Type 0
IsWrittenStep (Does step) tokens = IsStep step tokens
IsWrittenStep (Maps keys) tokens = tokens ≡ call (codes "elementMap") (names_of keys)

-- { "." step }
abbrev pub AreSteps : List WrittenStep → List Token → Type 0
AreSteps [] tokens = tokens ≡ []
AreSteps (step ∷ list) tokens =
    (text : List Token) × (later : List Token) × (tokens ≡ dot ∷ text ++ later)
    × IsWrittenStep step text × AreSteps list later

-- The step takes these results.
abbrev pub takes : Items → WrittenStep → Bool
takes these (Does (steps.Neighbours hop)) = are_vertices these
takes these (Does (steps.Incident hop)) = are_vertices these
takes these (Does steps.OutV) = are_edges these
takes these (Does steps.InV) = are_edges these
takes these (Does (steps.Filter filter)) = are_elements these
takes these (Does (steps.Values keys)) = are_elements these
takes these (Does steps.Id) = are_elements these
takes these (Does steps.Label) = are_elements these
takes these (Does steps.Dedup) = not (are_maps these)
takes these (Does steps.Count) = true
takes these (Does (steps.Limit most)) = true
takes these (Does (steps.Order None descending)) = not (are_maps these)
takes these (Does (steps.Order (Some key) descending)) = are_elements these
takes these (Does (steps.Repeat body times)) = are_vertices these
takes these (Maps keys) = are_elements these

-- what it gives of them
abbrev pub gives : Items → WrittenStep → Items
gives these (Does step) = items_after these step
gives these (Maps keys) = items.Maps

-- how many steps it counts: a repeat, and each step of its body
abbrev pub counts : WrittenStep → ℕ
counts (Does step) = step_count step
counts (Maps keys) = 1

-- Each step takes what those before it give.
abbrev pub Fit : Items → List WrittenStep → Type 0
Fit these [] = Unit {0}
Fit these (step ∷ list) = (takes these step ≡ true) × Fit (gives these step) list

-- what they give, one after the other
abbrev pub given : Items → List WrittenStep → Items
given these [] = these
given these (step ∷ list) = given (gives these step) list

-- how many steps they count
abbrev pub count_all : List WrittenStep → ℕ
count_all [] = 0
count_all (step ∷ list) = counts step + count_all list

-- the query with this step after the others
abbrev pub with_written : Query → WrittenStep → Query
with_written query (Does step) = with_step query step
with_written query (Maps keys) = with_maps query keys

-- the query with these steps after the others
abbrev pub with_all : Query → List WrittenStep → Query
with_all query [] = query
with_all query (step ∷ list) = with_all (with_written query step) list

-- reading = source { "." step }: steps that fit, which give these results and count so many
abbrev pub IsReading : Query → Items → ℕ → List Token → Type 0
IsReading query these count tokens =
    (source : Source) × (list : List WrittenStep) × (text : List Token)
    × (tokens ≡ source_of source ++ text) × AreSteps list text × Fit (first_items source) list
    × (query ≡ with_all (query_from source) list) × (these ≡ given (first_items source) list)
    × (count ≡ count_all list)

-- property = "property" "(" name "," VALUE ")"
abbrev pub property_of : Pair → List Token
property_of pair = call (codes "property") (Quoted pair.key ∷ comma ∷ literal pair.value ∷ [])

-- { "." property }
abbrev pub properties_of : List Pair → List Token
properties_of [] = []
properties_of (pair ∷ pairs) = dot ∷ property_of pair ++ properties_of pairs

-- to = "to" "(" [ "__" "." ] "V" "(" ID ")" ")"
abbrev pub IsTo : ℕ → List Token → Type 0
IsTo to tokens =
    (front : List Token) × IsAnonymous front
    × (tokens ≡ call (codes "to") (front ++ call (codes "V") (identifier to ∷ [])))

-- change = "addE" "(" name ")" "." to { "." property } | property { "." property }
--        | "drop" "(" ")"
abbrev pub IsChange : Mutation → List Token → Type 0
IsChange (mutations.AddV label pairs) tokens = ⊥
IsChange (mutations.AddE label to pairs) tokens =
    (text : List Token) × IsTo to text
    × (tokens ≡ call (codes "addE") (Quoted label ∷ []) ++ dot ∷ text ++ properties_of pairs)
IsChange (mutations.Property pairs) tokens = dot ∷ tokens ≡ properties_of pairs
IsChange mutations.Drop tokens = tokens ≡ call (codes "drop") []

-- The change takes these results; `addV` is made of none.
abbrev pub takes_change : Items → Mutation → Bool
takes_change these (mutations.AddV label pairs) = false
takes_change these (mutations.AddE label to pairs) = are_vertices these
takes_change these (mutations.Property pairs) = are_elements these
takes_change these mutations.Drop = are_elements these

-- how many steps it counts: `addV` and `to` are no steps
abbrev pub change_count : Mutation → ℕ
change_count (mutations.AddV label pairs) = length pairs
change_count (mutations.AddE label to pairs) = 1 + length pairs
change_count (mutations.Property pairs) = length pairs
change_count mutations.Drop = 1

-- how many steps a line has at most
abbrev pub most_steps : ℕ
most_steps = 32

-- mutating = "addV" "(" name ")" { "." property } | reading "." change
abbrev pub IsMutating : Option Query → Mutation → List Token → Type 0
IsMutating None (mutations.AddV label pairs) tokens =
    (tokens ≡ call (codes "addV") (Quoted label ∷ []) ++ properties_of pairs)
    × (change_count (mutations.AddV label pairs) ≤ most_steps)
IsMutating None mutation tokens = ⊥
IsMutating (Some query) mutation tokens =
    (these : Items) × (count : ℕ) × (text : List Token) × (last : List Token)
    × (tokens ≡ text ++ dot ∷ last) × IsReading query these count text × IsChange mutation last
    × (takes_change these mutation ≡ true) × (count + change_count mutation ≤ most_steps)

-- query = "g" "." ( reading | mutating ), from its dot on
abbrev pub IsQueryOf : Command → List Token → Type 0
IsQueryOf (commands.Query query) tokens =
    (reading : Query) × (these : Items) × (count : ℕ) × (text : List Token)
    × (tokens ≡ dot ∷ text) × IsReading reading these count text × (count ≤ most_steps)
    × (query ≡ shown reading)
IsQueryOf (commands.Mutate reading mutation) tokens =
    (text : List Token) × (tokens ≡ dot ∷ text) × IsMutating reading mutation text
IsQueryOf _ tokens = ⊥

-- The productions make these bytes, after g, of the query or the change.
abbrev pub IsProduced : Command → List ℕ → Type 0
IsProduced command bytes =
    (tokens : List Token) × IsQueryOf command tokens × AreTokens tokens bytes

-- The productions make the line, after what names its session, of the query or the change.
abbrev pub IsProducedLine : List ℕ → Command → Type 0
IsProducedLine line command = AfterFront (AfterG (IsProduced command)) (after_tag line)
