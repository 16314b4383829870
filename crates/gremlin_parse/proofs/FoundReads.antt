-- What the reader of the nodes that an index finds has read, from place to place.
use Rattle.std.proofs.Common.{ℕ, List, [], ◌∷◌, refl}
use Rattle.plain_graph.specs.declared.query.Source.TheVariants as origins
use Rattle.plain_graph.specs.declared.value.Value.{Value}
use Rattle.gremlin_parse.specs.Symbols.{Leaves, ReadsToken, Sign}
use Rattle.gremlin_parse.specs.Queries.{AfterFoundLabel, FoundLabel, LeadsTo, OfSource, PairFor, PairKey, Quote, Steps, StopsFrom, query_from}
use Rattle.gremlin_parse.specs.declared.stop.Stop.{Stop}
use Rattle.gremlin_parse.proofs.QueryReads.{NameReads, NameStops, on, quotes_at, stop_at_sign, token_leads}
use Rattle.gremlin_parse.proofs.MutationReads.{PairLeads}

label_leads : (label bytes at_comma : List ℕ) → NameReads label bytes at_comma → LeadsTo (Quote FoundLabel) bytes (AfterFoundLabel label) at_comma
label_leads label bytes at_comma reads = reads (Quote FoundLabel) FoundLabel (quotes_at FoundLabel bytes)

to_key : (label bytes at_comma at_key : List ℕ) → NameReads label bytes at_comma → ReadsToken (44 ∷ []) at_comma at_key
    → LeadsTo (Quote FoundLabel) bytes (Quote (PairKey (OfSource label))) at_key
to_key label bytes at_comma at_key reads comma =
    on (Quote FoundLabel) bytes (AfterFoundLabel label) at_comma (Quote (PairKey (OfSource label))) at_key (label_leads label bytes at_comma reads)
    (token_leads (AfterFoundLabel label) 44 (Quote (PairKey (OfSource label))) at_comma at_key refl refl comma)

pub stop_in_label : (bytes : List ℕ) (stop : Stop) → NameStops bytes stop → StopsFrom (Quote FoundLabel) bytes stop
stop_in_label bytes stop at = at (Quote FoundLabel) FoundLabel (quotes_at FoundLabel bytes)

pub stop_after_label : (label bytes at_comma : List ℕ) (stop : Stop) → NameReads label bytes at_comma → Leaves (Sign (44 ∷ [])) at_comma stop
    → StopsFrom (Quote FoundLabel) bytes stop
stop_after_label label bytes at_comma stop reads leaves =
    (label_leads label bytes at_comma reads).stops stop (stop_at_sign (AfterFoundLabel label) 44 (Quote (PairKey (OfSource label))) at_comma stop refl leaves)

pub stop_in_pair : (label bytes at_comma at_key : List ℕ) (stop : Stop) → NameReads label bytes at_comma → ReadsToken (44 ∷ []) at_comma at_key
    → ((purpose : PairFor) → StopsFrom (Quote (PairKey purpose)) at_key stop) → StopsFrom (Quote FoundLabel) bytes stop
stop_in_pair label bytes at_comma at_key stop reads comma at = (to_key label bytes at_comma at_key reads comma).stops stop (at (OfSource label))

pub found_read : (label key bytes at_comma at_key rest : List ℕ) (value : Value) → NameReads label bytes at_comma → ReadsToken (44 ∷ []) at_comma at_key
    → PairLeads key value at_key rest → LeadsTo (Quote FoundLabel) bytes (Steps (query_from (origins.Found label key value))) rest
found_read label key bytes at_comma at_key rest value reads comma leads =
    on (Quote FoundLabel) bytes (Quote (PairKey (OfSource label))) at_key (Steps (query_from (origins.Found label key value))) rest
    (to_key label bytes at_comma at_key reads comma) (leads (OfSource label))
