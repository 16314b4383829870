-- What a filter asks of an item, by its key or by its label.
use Rattle.std.specs.Prelude.{ℕ, Bool, true, false, Option, None, Some, List}
use Rattle.std.specs.List.{list_any}
use Rattle.plain_graph.specs.Meaning.{is_some_and}
use Rattle.plain_graph.specs.Values.{is_related, is_text}
use Rattle.plain_graph.specs.declared.filter.Filter.{Filter}
use Rattle.plain_graph.specs.declared.filter.Filter.TheVariants as filters
use Rattle.plain_graph.specs.declared.value.Value.{Value}

-- the key whose value decides, unless the label does
abbrev pub asked_key : Filter → Option (List ℕ)
asked_key (filters.Has key) = Some key
asked_key (filters.HasValue key relation written) = Some key
asked_key (filters.HasLabel labels) = None

-- an item with this value of the key, or with none, passes
abbrev pub passes_value : Filter → Option Value → Bool
passes_value (filters.Has key) value = is_some_and value (λ own. true)
passes_value (filters.HasValue key relation written) value =
    is_some_and value (λ own. is_related relation own written)
passes_value (filters.HasLabel labels) value = false

-- an item with this label, or with none, passes
abbrev pub passes_label : Filter → Option (List ℕ) → Bool
passes_label (filters.Has key) label = false
passes_label (filters.HasValue key relation written) label = false
passes_label (filters.HasLabel labels) label =
    is_some_and label (λ own. list_any (λ other. is_text other own) labels)
