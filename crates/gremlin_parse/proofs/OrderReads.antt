-- What the readers of an order's `by` have read, from place to place.
use Rattle.std.proofs.Common.{◌≡◌, ◌≢◌, inl, inr, ℕ, nat_eq, cond, Bool, true, false, Option, Some, None, List, [], ◌∷◌, codes, refl, sym, ap, subst, arith}
use Rattle.std.proofs.lemmas.Bool.Decides.{nat_tests}
use Rattle.plain_graph.specs.declared.query.Query.{Query}
use Rattle.gremlin_parse.specs.Comparisons.{later}
use Rattle.gremlin_parse.specs.Grammar.{IsBounded}
use Rattle.gremlin_parse.specs.OrderKeys.{starts_quote}
use Rattle.gremlin_parse.specs.Orders.{ReadsSort, DirectsAt}
use Rattle.gremlin_parse.specs.Queries.{Place, Steps, Ordered, OrderCloses, ByFirst, AfterOrderKey, OrderDirection}
use Rattle.gremlin_parse.specs.Queries.{AfterOrderWord, DirectionName, ByCloses, OrderKey, QuotesAt, LeavesBoth}
use Rattle.gremlin_parse.specs.Queries.{NeitherFirst, LeadsTo, StopsFrom, direction_of, is_descending, opened}
use Rattle.gremlin_parse.specs.Queries.{plain_order, reordered, sort_name, sort_names, turn, is_loose, with_step}
use Rattle.gremlin_parse.specs.Reading.{first_byte}
use Rattle.gremlin_parse.specs.Symbols.{Sign, OneWord, ReadsToken, Leaves}
use Rattle.gremlin_parse.specs.Turns.{Other}
use Rattle.gremlin_parse.specs.declared.step_word.StepWord.{StepWord}
use Rattle.gremlin_parse.specs.declared.step_word.StepWord.TheVariants as words
use Rattle.gremlin_parse.specs.declared.stop.Stop.{Stop}
use Rattle.gremlin_parse.specs.declared.stop.Stop.TheVariants as stops
use Rattle.gremlin_parse.proofs.Turns.{NoSign}
use Rattle.gremlin_parse.proofs.Moves.{HowOther}
use Rattle.gremlin_parse.proofs.Walks.{LeavesOther, reaches_next}
use Rattle.gremlin_parse.proofs.QueryPlaces.{are, some, no_signs}
use Rattle.gremlin_parse.proofs.Later.{leaves_either}
use Rattle.gremlin_parse.proofs.QueryReads.{on, stop_at, token_leads, other_byte, stop_at_sign, stop_at_comma, comma_leads, NameReads, NameStops}

-- ---- an order without a `by`

pub order_read : (query : Query) (bytes rest : List ℕ) → ReadsToken (41 ∷ []) bytes rest
    → LeadsTo (opened query words.Order) bytes (Ordered (with_step query plain_order)) rest
order_read query bytes rest token = token_leads (OrderCloses query) 41 (Ordered (with_step query plain_order)) bytes rest refl refl token

pub stop_in_order : (query : Query) (bytes : List ℕ) (stop : Stop) → Leaves (Sign (41 ∷ [])) bytes stop → StopsFrom (opened query words.Order) bytes stop
stop_in_order query bytes stop leaves = stop_at_sign (OrderCloses query) 41 (Ordered (with_step query plain_order)) bytes stop refl leaves

-- ---- a word for a direction

named_sort : (descending : Bool) → is_descending (sort_name descending) ≡ descending
named_sort true = refl
named_sort false = refl

pub sort_leads : (bytes rest : List ℕ) (descending : Bool) → ReadsSort descending bytes rest → (place : Place) (query : Query) (key : Option (List ℕ))
    → DirectsAt place query key bytes → LeadsTo place bytes (ByCloses query key descending) rest
sort_leads bytes rest descending (middle, reads, blanks) place query key at =
    reaches_next turn is_loose are some place bytes (ByCloses query key descending) middle rest
    (record {
      prefix = reads.takes.prefix;
      bytes_are = reads.takes.bytes_are;
      how = inr (subst (λ (o : Other StepWord Place). HowOther IsBounded o reads.takes.prefix (ByCloses query key descending) middle) (sym at.other)
          (inl (sort_name descending, ap (ByCloses query key) (sym (named_sort descending)), reads.allowed, tt, reads.takes.is, reads.takes.ends)));
    })
    blanks

order_word_leads : (bytes at_dot : List ℕ) → ReadsToken (codes "Order") bytes at_dot → (place : Place) (query : Query) (key : Option (List ℕ))
    → DirectsAt place query key bytes → LeadsTo place bytes (AfterOrderWord query key) at_dot
order_word_leads bytes at_dot (middle, reads, blanks) place query key at =
    reaches_next turn is_loose are some place bytes (AfterOrderWord query key) middle at_dot
    (record {
      prefix = reads.takes.prefix;
      bytes_are = reads.takes.bytes_are;
      how = inr (subst (λ (o : Other StepWord Place). HowOther IsBounded o reads.takes.prefix (AfterOrderWord query key) middle) (sym at.other)
          (inr (tt, refl, tt, tt, reads.takes.is, tt)));
    })
    blanks

order_dot_leads : (bytes at_dot at_name : List ℕ) → ReadsToken (codes "Order") bytes at_dot → ReadsToken (46 ∷ []) at_dot at_name
    → (place : Place) (query : Query) (key : Option (List ℕ)) → DirectsAt place query key bytes → LeadsTo place bytes (DirectionName query key) at_name
order_dot_leads bytes at_dot at_name word dot place query key at =
    on place bytes (AfterOrderWord query key) at_dot (DirectionName query key) at_name (order_word_leads bytes at_dot word place query key at)
    (token_leads (AfterOrderWord query key) 46 (DirectionName query key) at_dot at_name refl refl dot)

pub stop_after_order_word : (bytes at_dot : List ℕ) (stop : Stop) → ReadsToken (codes "Order") bytes at_dot → Leaves (Sign (46 ∷ [])) at_dot stop
    → (place : Place) (query : Query) (key : Option (List ℕ)) → DirectsAt place query key bytes → StopsFrom place bytes stop
stop_after_order_word bytes at_dot stop word leaves place query key at =
    (order_word_leads bytes at_dot word place query key at).stops stop (stop_at_sign (AfterOrderWord query key) 46 (DirectionName query key) at_dot stop refl
    leaves)

pub stop_at_sort_name : (bytes at_dot at_name : List ℕ) (stop : Stop) → ReadsToken (codes "Order") bytes at_dot → ReadsToken (46 ∷ []) at_dot at_name
    → Leaves (OneWord sort_names) at_name stop → (place : Place) (query : Query) (key : Option (List ℕ)) → DirectsAt place query key bytes
    → StopsFrom place bytes stop
stop_at_sort_name bytes at_dot at_name stop word dot leaves place query key at =
    (order_dot_leads bytes at_dot at_name word dot place query key at).stops stop
    (stop_at (DirectionName query key) at_name stop (record { no_end = λ end ends. cc; no_sign = no_signs at_name; other = leaves }))

pub qualified_leads : (bytes at_dot at_name rest : List ℕ) (descending : Bool) → ReadsToken (codes "Order") bytes at_dot → ReadsToken (46 ∷ []) at_dot at_name
    → ReadsSort descending at_name rest → (place : Place) (query : Query) (key : Option (List ℕ)) → DirectsAt place query key bytes
    → LeadsTo place bytes (ByCloses query key descending) rest
qualified_leads bytes at_dot at_name rest descending word dot (middle, reads, blanks) place query key at =
    on place bytes (DirectionName query key) at_name (ByCloses query key descending) rest (order_dot_leads bytes at_dot at_name word dot place query key at)
    (reaches_next turn is_loose are some (DirectionName query key) at_name (ByCloses query key descending) middle rest
    (record {
      prefix = reads.takes.prefix;
      bytes_are = reads.takes.bytes_are;
      how = inr (
        sort_name descending,
        ap (ByCloses query key)
            (sym (named_sort descending)),
        reads.allowed,
        tt,
        reads.takes.is,
        reads.takes.ends,
      );
    })
    blanks)

-- ---- up to the closing parenthesis

-- What a direction promises: from each place of it, to what follows.
abbrev pub SortReads : Bool → List ℕ → List ℕ → Type 0
SortReads descending bytes rest = (place : Place) (query : Query) (key : Option (List ℕ)) → DirectsAt place query key bytes
    → LeadsTo place bytes (ByCloses query key descending) rest

abbrev pub DirectionReads : Bool → List ℕ → List ℕ → Type 0
DirectionReads descending bytes rest = (place : Place) (query : Query) (key : Option (List ℕ)) → DirectsAt place query key bytes
    → LeadsTo place bytes (Steps (reordered query key descending)) rest

abbrev pub DirectionStops : List ℕ → Stop → Type 0
DirectionStops bytes stop = (place : Place) (query : Query) (key : Option (List ℕ)) → DirectsAt place query key bytes → StopsFrom place bytes stop

pub stop_after_sort : (bytes at_close : List ℕ) (descending : Bool) (stop : Stop) → SortReads descending bytes at_close → Leaves (Sign (41 ∷ [])) at_close stop
    → DirectionStops bytes stop
stop_after_sort bytes at_close descending stop reads leaves place query key at =
    (reads place query key at).stops stop (stop_at_sign (ByCloses query key descending) 41 (Steps (reordered query key descending)) at_close stop refl leaves)

pub direction_read : (bytes at_close rest : List ℕ) (descending : Bool) → SortReads descending bytes at_close → ReadsToken (41 ∷ []) at_close rest
    → DirectionReads descending bytes rest
direction_read bytes at_close rest descending reads close place query key at =
    on place bytes (ByCloses query key descending) at_close (Steps (reordered query key descending)) rest (reads place query key at)
    (token_leads (ByCloses query key descending) 41 (Steps (reordered query key descending)) at_close rest refl refl close)

-- ---- the places of a direction

-- Where neither a word for a direction nor Order stands, reading stops at the later place.
no_direction : (query : Query) (key : Option (List ℕ)) (bytes : List ℕ) (one two : Stop) → Leaves (OneWord sort_names) bytes one
    → Leaves (Sign (codes "Order")) bytes two → LeavesOther turn is_loose are some (direction_of query key) bytes (later one two)
no_direction query key bytes one two first second = leaves_either (Leaves (OneWord sort_names) bytes) (Leaves (Sign (codes "Order")) bytes) (λ none. none)
    (λ none. none) (λ kind left bad. bad.1) one two first second

pub directs_after_comma : (query : Query) (key : Option (List ℕ)) (bytes : List ℕ) → DirectsAt (OrderDirection query key) query key bytes
directs_after_comma query key bytes = record {
  other = refl;
  stops = λ one two first second. stop_at (OrderDirection query key) bytes (later one two)
      (record { no_end = λ end ends. cc; no_sign = no_signs bytes; other = no_direction query key bytes one two first second });
}

by_no_sign : (query : Query) (bytes : List ℕ) → starts_quote bytes ≡ false → first_byte bytes ≢ Some 41 → NoSign (turn (ByFirst query)).signs bytes
by_no_sign query [] unquoted unclosed = tt
by_no_sign query (b ∷ bytes) unquoted unclosed =
    let close : nat_eq 41 b ≡ false = other_byte 41 b (λ same. unclosed (ap (λ (n : ℕ). Some n) same)) in
    let single : nat_eq 39 b ≡ false = grind (arith, nat_tests) in
    let double : nat_eq 34 b ≡ false = grind (arith, nat_tests) in
    rw (close, single, double)

-- where neither a quote stands nor a parenthesis closes
pub directs_first : (query : Query) (bytes : List ℕ) → starts_quote bytes ≡ false → first_byte bytes ≢ Some 41 → DirectsAt (ByFirst query) query None bytes
directs_first query bytes unquoted unclosed = record {
  other = refl;
  stops = λ one two first second. stop_at (ByFirst query) bytes (later one two)
      (record { no_end = λ end ends. cc; no_sign = by_no_sign query bytes unquoted unclosed; other = no_direction query None bytes one two first second });
}

-- ---- the key

quotes_at_by : (query : Query) (bytes : List ℕ) → starts_quote bytes ≡ true → QuotesAt (ByFirst query) (OrderKey query) bytes
quotes_at_by query bytes quoted = record { single = refl; double = refl; stops = none }
  where
    clash : (these : List ℕ) → starts_quote these ≡ true → NeitherFirst 34 39 these → ⊥
    clash [] quoted neither = cc
    clash (b ∷ these) quoted (no_double, no_single) = grind (arith, nat_tests)

    none : (stop : Stop) → LeavesBoth 34 39 bytes stop → StopsFrom (ByFirst query) bytes stop
    none stops.Memory leaves = absurd leaves
    none (stops.Syntax left) leaves = absurd (clash bytes quoted leaves.1)
    none (stops.Bad kind left) leaves = absurd leaves

order_key_leads : (query : Query) (name bytes after : List ℕ) → starts_quote bytes ≡ true → NameReads name bytes after
    → LeadsTo (ByFirst query) bytes (AfterOrderKey query name) after
order_key_leads query name bytes after quoted reads = reads (ByFirst query) (OrderKey query) (quotes_at_by query bytes quoted)

pub stop_in_order_key : (bytes : List ℕ) (stop : Stop) → starts_quote bytes ≡ true → NameStops bytes stop → (query : Query)
    → StopsFrom (ByFirst query) bytes stop
stop_in_order_key bytes stop quoted at query = at (ByFirst query) (OrderKey query) (quotes_at_by query bytes quoted)

pub stop_after_order_key : (name bytes after : List ℕ) (stop : Stop) → starts_quote bytes ≡ true → NameReads name bytes after → LeavesBoth 44 41 after stop
    → (query : Query) → StopsFrom (ByFirst query) bytes stop
stop_after_order_key name bytes after stop quoted reads leaves query =
    (order_key_leads query name bytes after quoted reads).stops stop (stop_at_comma (AfterOrderKey query name) (OrderDirection query (Some name))
    (Steps (reordered query (Some name) false)) after stop refl leaves)

-- what a comma, or a parenthesis, after the key leads to
abbrev after_key : Query → List ℕ → Bool → Place
after_key query name more = cond more (OrderDirection query (Some name)) (Steps (reordered query (Some name) false))

comma_after_order_key : (query : Query) (name bytes after rest : List ℕ) (more : Bool) → starts_quote bytes ≡ true → NameReads name bytes after
    → ReadsToken (cond more 44 41 ∷ []) after rest → LeadsTo (ByFirst query) bytes (after_key query name more) rest
comma_after_order_key query name bytes after rest more quoted reads token =
    on (ByFirst query) bytes (AfterOrderKey query name) after (after_key query name more) rest (order_key_leads query name bytes after quoted reads)
    (comma_leads (AfterOrderKey query name) (OrderDirection query (Some name)) (Steps (reordered query (Some name) false)) after rest more refl refl refl refl
    token)

pub key_read : (name bytes after rest : List ℕ) (more : Bool) → more ≡ false → starts_quote bytes ≡ true → NameReads name bytes after
    → ReadsToken (cond more 44 41 ∷ []) after rest → (query : Query) → LeadsTo (ByFirst query) bytes (Steps (reordered query (Some name) false)) rest
key_read name bytes after rest more ends quoted reads token query =
    subst (λ (t : Bool). LeadsTo (ByFirst query) bytes (after_key query name t) rest) ends
    (comma_after_order_key query name bytes after rest more quoted reads token)

at_direction_leads : (query : Query) (name bytes after rest : List ℕ) (more : Bool) → more ≡ true → starts_quote bytes ≡ true → NameReads name bytes after
    → ReadsToken (cond more 44 41 ∷ []) after rest → LeadsTo (ByFirst query) bytes (OrderDirection query (Some name)) rest
at_direction_leads query name bytes after rest more goes quoted reads token =
    subst (λ (t : Bool). LeadsTo (ByFirst query) bytes (after_key query name t) rest) goes
    (comma_after_order_key query name bytes after rest more quoted reads token)

pub stop_after_key_comma : (name bytes after at_direction : List ℕ) (more : Bool) (stop : Stop) → more ≡ true → starts_quote bytes ≡ true
    → NameReads name bytes after → ReadsToken (cond more 44 41 ∷ []) after at_direction → DirectionStops at_direction stop → (query : Query)
    → StopsFrom (ByFirst query) bytes stop
stop_after_key_comma name bytes after at_direction more stop goes quoted reads token at query =
    (at_direction_leads query name bytes after at_direction more goes quoted reads token).stops stop
    (at (OrderDirection query (Some name)) query (Some name) (directs_after_comma query (Some name) at_direction))

pub keyed_read : (name bytes after at_direction rest : List ℕ) (more descending : Bool) → more ≡ true → starts_quote bytes ≡ true → NameReads name bytes after
    → ReadsToken (cond more 44 41 ∷ []) after at_direction → DirectionReads descending at_direction rest → (query : Query)
    → LeadsTo (ByFirst query) bytes (Steps (reordered query (Some name) descending)) rest
keyed_read name bytes after at_direction rest more descending goes quoted reads token direction query =
    on (ByFirst query) bytes (OrderDirection query (Some name)) at_direction (Steps (reordered query (Some name) descending)) rest
    (at_direction_leads query name bytes after at_direction more goes quoted reads token)
    (direction (OrderDirection query (Some name)) query (Some name) (directs_after_comma query (Some name) at_direction))

-- ---- no key

pub empty_by_read : (bytes rest : List ℕ) → ReadsToken (41 ∷ []) bytes rest → (query : Query)
    → LeadsTo (ByFirst query) bytes (Steps (reordered query None false)) rest
empty_by_read bytes rest close query = token_leads (ByFirst query) 41 (Steps (reordered query None false)) bytes rest refl refl close

pub stop_in_direction : (bytes : List ℕ) (stop : Stop) → starts_quote bytes ≡ false → first_byte bytes ≢ Some 41 → DirectionStops bytes stop → (query : Query)
    → StopsFrom (ByFirst query) bytes stop
stop_in_direction bytes stop unquoted unclosed at query = at (ByFirst query) query None (directs_first query bytes unquoted unclosed)

pub keyless_read : (bytes rest : List ℕ) (descending : Bool) → starts_quote bytes ≡ false → first_byte bytes ≢ Some 41 → DirectionReads descending bytes rest
    → (query : Query) → LeadsTo (ByFirst query) bytes (Steps (reordered query None descending)) rest
keyless_read bytes rest descending unquoted unclosed direction query = direction (ByFirst query) query None (directs_first query bytes unquoted unclosed)
