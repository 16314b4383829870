-- Filters with the numbers of their names.
use Rattle.std.specs.Prelude.{◌<◌, ℕ, Bool, Option, List, map}
use Rattle.std.specs.List.{list_all}
use Rattle.std.specs.Option.{IfSome}
use Rattle.plain_graph.specs.Graph.{Graph}
use Rattle.plain_graph.specs.Meaning.{passes}
use Rattle.plain_graph.specs.declared.filter.Filter.{Filter}
use Rattle.plain_graph.specs.declared.filter.Filter.TheVariants as filters
use Rattle.plain_graph.specs.declared.item.Item.{Item}
use Rattle.store_rules.specs.Views.{Records}
use Rattle.traversal_run.specs.Feeding.{filter_stage}
use Rattle.traversal_run.specs.Naming.{FindsName, FindsNames, name_count}
use Rattle.traversal_run.specs.declared.numbered_filter.NumberedFilter.{NumberedFilter}
use Rattle.traversal_run.specs.declared.stage.Stage.{Stage}

-- It is the number of the name with this text, or none where there is no such name.
pub record HasNumber (records : Records) (number : Option ℕ) (text : List ℕ) : Type 0 where
  pub finds : FindsName records number text
  pub below : IfSome number (λ found. found < name_count records)

-- these are the numbers of the filter's key, or of its labels
abbrev pub HasNumbers : Records → Filter → Option ℕ → List ℕ → Type 0
HasNumbers records (filters.Has key) number labels = HasNumber records number key
HasNumbers records (filters.HasValue key relation written) number labels =
    HasNumber records number key
HasNumbers records (filters.HasLabel texts) number labels = FindsNames records labels texts

abbrev pub IsNumbered : Records → NumberedFilter → Type 0
IsNumbered records numbered =
    HasNumbers records numbered.filter.now numbered.key numbered.labels.items

-- the item passes each of these filters
abbrev pub passes_numbered : Graph → List NumberedFilter → Item → Bool
passes_numbered graph list item =
    list_all (λ (numbered : NumberedFilter). passes graph numbered.filter.now item) list

-- the steps of these filters
abbrev pub stages_numbered : List NumberedFilter → List Stage
stages_numbered list = map (λ (numbered : NumberedFilter). filter_stage numbered.filter.now) list
