-- Queries as a language: where reading stops in one, that bytes ask for one thing, and its bad tokens.
use Rattle.std.proofs.Common.{◌≡◌, inl, inr, ℕ, zero, suc, true, Some, List, [], ◌++◌, refl, sym, subst, ⊎_elim}
use Rattle.plain_graph.specs.declared.command.Command.{Command}
use Rattle.plain_graph.specs.declared.command.Command.TheVariants as commands
use Rattle.plain_graph.specs.declared.mutation.Mutation.TheVariants as mutations
use Rattle.gremlin_parse.specs.Grammar.{Part, IsBounded}
use Rattle.gremlin_parse.specs.Stopping.{IsStop}
use Rattle.gremlin_parse.specs.Turns.{ThenSign, ThenOther, Loosely, Leads, LineFrom, KeptFrom, BadFrom}
use Rattle.gremlin_parse.specs.Queries.{Place, Start, Steps, Ordered, Dropped, Changed, changed, turn, is_loose, LineTo}
use Rattle.gremlin_parse.specs.Queries.{QueryTo, IsQuery, IsKeptQuery, BadQuery, StopsInQuery, shown}
use Rattle.gremlin_parse.specs.declared.bad_token.BadToken.{BadToken}
use Rattle.gremlin_parse.specs.declared.stop.Stop.{Stop}
use Rattle.gremlin_parse.specs.declared.stop.Stop.TheVariants as stops
use Rattle.gremlin_parse.proofs.Runs.{Halts}
use Rattle.gremlin_parse.proofs.Stops.{stops_of_same}
use Rattle.gremlin_parse.proofs.Symbols.{Class, NoByte, Blank, NameByte, Digit, passes, no_blanks}
use Rattle.gremlin_parse.proofs.Productions.{Closes, HaltsAt}
use Rattle.gremlin_parse.proofs.Turns.{Language, place_halts, loose_ending, leads_bare, bad_bare, sign_map, other_map, blanks_map}
use Rattle.gremlin_parse.proofs.Moves.{line_ending, bad_ending}
use Rattle.gremlin_parse.proofs.Walks.{blanks_agree, leads_agree, kept_no_bad, loose_within}
use Rattle.gremlin_parse.proofs.QueryPlaces.{are, some}
use Rattle.gremlin_parse.proofs.Kept.{leads_keep, each_sign_any, each_other_any}

-- ---- a query, and some query

abbrev pub SomeQuery : Language
SomeQuery bytes = (command : Command) × QueryTo command bytes

pub some_of_query : (bytes : List ℕ) → IsQuery bytes → SomeQuery bytes
some_of_query bytes (prefix, rest, whole, are_blanks, (n, query, leads)) = (query, (prefix, rest, whole, are_blanks, (n, leads)))

pub query_of_some : (bytes : List ℕ) → SomeQuery bytes → IsQuery bytes
query_of_some bytes (query, (prefix, rest, whole, are_blanks, (n, leads))) = (prefix, rest, whole, are_blanks, (n, query, leads))

-- a stop of the one language is one of the other
pub stops_in_some : (bytes : List ℕ) (stop : Stop) → StopsInQuery bytes stop → IsStop SomeQuery BadQuery (Unit {0}) bytes stop
stops_in_some bytes stops.Memory at = tt
stops_in_some bytes (stops.Syntax left) (stop, none) = (
  stops_of_same SomeQuery IsQuery bytes left some_of_query (λ more same is. query_of_some more is)
      stop,
  none,
)
stops_in_some bytes (stops.Bad kind left) stop = record {
  has = stop.has;
  first = stop.first;
  read = stop.read;
  unread = stop.unread;
  bytes_are = stop.bytes_are;
  left_is = stop.left_is;
  viable = (stop.viable.0, some_of_query (stop.read ++ stop.viable.0) stop.viable.1);
}

start_halts : (class : Class) → no_blanks class ≡ true → place_halts turn is_loose class Start ≡ true
start_halts NoByte free = refl
start_halts Blank free = cc
start_halts NameByte free = refl
start_halts Digit free = refl

pub query_halts : HaltsAt no_blanks SomeQuery
query_halts class free bytes is = loose_ending turn is_loose (LineFrom turn is_loose) (line_ending turn is_loose) class Start (start_halts class free) bytes
    (query_of_some bytes is)

bad_query_halts : (kind : BadToken) (left : ℕ) → HaltsAt no_blanks (BadQuery kind left)
bad_query_halts kind left class free bytes bad = loose_ending turn is_loose (λ next rest. BadFrom turn is_loose next kind left rest)
    (bad_ending turn is_loose kind left) class Start (start_halts class free) bytes bad

pub queries_close : Closes no_blanks SomeQuery BadQuery
queries_close = record {
  ends = query_halts;
  bads_end = bad_query_halts;
  within = loose_within turn is_loose are some Start;
  line = (some Start).0;
  some = some_of_query (some Start).0 ([], (some Start).0, refl, tt, (some Start).1);
}

-- ---- one query

no_blank_starts : (Bound : Part → Type 0) (end : Command) (n : ℕ) → Halts (passes Blank) (Leads turn is_loose Bound end n Start)
no_blank_starts Bound end n = leads_bare turn is_loose Bound end n Blank Start refl

pub queries_agree : (one two : Command) (bytes : List ℕ) → QueryTo one bytes → QueryTo two bytes → two ≡ one
queries_agree one two bytes first second =
    let ends : (command : Command) → Halts (passes Blank) (LineTo command Start) = λ command rest (n, leads).
    no_blank_starts (λ _. Unit {0}) command n rest leads in
    let (rest, (n, leads), (m, again)) = blanks_agree true (LineTo one Start) (LineTo two Start) (ends one) (ends two) bytes first second in
    sym (leads_agree turn is_loose are some (λ _. Unit {0}) (λ _. Unit {0}) one two n m Start rest leads again)

-- A query within its bounds has no bad token.
pub kept_query_no_bad : (command : Command) (bytes : List ℕ) → IsKeptQuery command bytes → (kind : BadToken) (left : ℕ) → ¬ BadQuery kind left bytes
kept_query_no_bad command bytes kept kind left = λ bad.
    let (rest, (n, leads), (m, bads)) = blanks_agree true (KeptFrom turn is_loose command Start) (BadFrom turn is_loose Start kind left)
    (λ rest (n, leads). no_blank_starts IsBounded command n rest leads) (λ rest (m, bads). bad_bare turn is_loose kind left m Blank Start refl rest bads)
    bytes kept bad in
    kept_no_bad turn is_loose are some command kind left n m Start rest leads bads

loosen : (end : Command) (n : ℕ) (place : Place) (bytes : List ℕ) → Leads turn is_loose IsBounded end n place bytes
    → Leads turn is_loose (λ _. Unit {0}) end n place bytes
loosen end zero place bytes at = at
loosen end (suc n) place bytes at =
    let From : Place → Language = Loosely turn is_loose (λ next rest. Leads turn is_loose IsBounded end n next rest) in
    let To : Place → Language = Loosely turn is_loose (λ next rest. Leads turn is_loose (λ _. Unit {0}) end n next rest) in
    let step : (next : Place) (rest : List ℕ) → From next rest → To next rest = λ next rest.
    blanks_map (is_loose next) (Leads turn is_loose IsBounded end n next) (Leads turn is_loose (λ _. Unit {0}) end n next)
    (λ these leads. loosen end n next these leads) rest in
    ⊎_elim
    (λ (sign : ThenSign (turn place).signs From bytes). inl (sign_map From To step (turn place).signs bytes sign))
    (λ (other : ThenOther IsBounded (turn place).other From bytes). inr (other_map IsBounded (λ _. Unit {0}) (λ this bound. tt) From To step (turn place).other
    bytes other))
    at

pub query_of_kept : (command : Command) (bytes : List ℕ) → IsKeptQuery command bytes → QueryTo command bytes
query_of_kept command bytes (prefix, rest, whole, are_blanks, (n, leads)) = (prefix, rest, whole, are_blanks, (n, loosen command n Start rest leads))

-- ---- what a query asks for

-- A query asks for its results, or for a change.
abbrev pub IsAsked : Command → Type 0
IsAsked (commands.Query query) = Unit {0}
IsAsked (commands.Mutate reading mutation) = Unit {0}
IsAsked _ = ⊥

end_is_asked : (place : Place) (end : Command) → Unit {0} → (turn place).ends ≡ Some end → IsAsked end
end_is_asked (Steps query) end none ends = let same : commands.Query (shown query) ≡ end = cc in subst IsAsked same tt
end_is_asked (Ordered query) end none ends = let same : commands.Query (shown query) ≡ end = cc in subst IsAsked same tt
end_is_asked (Dropped query) end none ends = let same : commands.Mutate (Some query) mutations.Drop ≡ end = cc in subst IsAsked same tt
end_is_asked (Changed subject pairs) end none ends = let same : changed subject pairs ≡ end = cc in subst IsAsked same tt
end_is_asked place end none ends = cc

pub query_is_asked : (command : Command) (bytes : List ℕ) → QueryTo command bytes → IsAsked command
query_is_asked command bytes (prefix, rest, whole, are_blanks, (n, leads)) =
    leads_keep turn is_loose (λ _. Unit {0}) (λ _. Unit {0}) IsAsked (λ place none. (
      each_sign_any (turn place).signs,
      each_other_any (λ _. Unit {0})
          (turn place).other,
    )) end_is_asked command n Start rest tt leads
