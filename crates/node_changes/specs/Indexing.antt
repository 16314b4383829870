-- An index that is made for a label and a key.
use Rattle.std.specs.Prelude.{◌≡◌, ◌⊎◌, ℕ, ◌<◌, false, Some, List, [], ◌∷◌, length, slice_get}
use Rattle.std.specs.Prelude.{Contains}
use Rattle.plain_graph.specs.Graph.{UsesName}
use Rattle.plain_graph.specs.Indexes.{most_indexes}
use Rattle.plain_graph.specs.Refusals.{NoReason, Reason, index_there, too_many_indexes}
use Rattle.plain_graph.specs.declared.command.Command.TheVariants as commands
use Rattle.prop_index.specs.Listing.{ArePairsMet}
use Rattle.prop_index.specs.declared.listing.IndexPair.{IndexPair}
use Rattle.rec_bytes.specs.Space.{State}
use Rattle.store_rules.specs.Views.{Records}
use Rattle.node_changes.specs.Entries.{is_listed}
use Rattle.store_rules.specs.Graph.{graph_in}

-- the reasons that come before those of the names
abbrev pub pair_reasons : List Reason
pair_reasons = index_there ∷ too_many_indexes ∷ []

-- neither refuses an index of the label and the key
abbrev pub MayIndex : State → List ℕ → List ℕ → Type 0
MayIndex s label key =
    NoReason pair_reasons s.shape.limit (graph_in s) (commands.Index label key)

-- the number of a text among the names, or the one that it gets if it becomes the next name
abbrev pub IsNumberOf : List (List ℕ) → List ℕ → ℕ → Type 0
IsNumberOf names text number =
    (slice_get names number ≡ Some text) ⊎ ((¬ Contains names text) × (number ≡ length names))

-- The pair has the number of the label, and that of the key once the label is a name.
pub record IsPairOf (names : List (List ℕ)) (label key : List ℕ) (pair : IndexPair) : Type 0 where
  pub label_is : IsNumberOf names label pair.label
  pub key_is : (named : List (List ℕ)) → UsesName names label named
      → IsNumberOf named key pair.key

-- By the records the pair of the label and the key has no index, and there may be one more.
pub record LacksIndex (records : Records) (names : List (List ℕ)) (label key : List ℕ)
    : Type 0 where
  pub pair : IndexPair
  pub pair_is : IsPairOf names label key pair
  pub pairs : List IndexPair
  pub met : ArePairsMet records pairs
  pub unlisted : is_listed pairs pair.label pair.key ≡ false
  pub few : length pairs < most_indexes
