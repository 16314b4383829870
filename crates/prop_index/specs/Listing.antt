-- The pairs that have an index.
use Rattle.std.specs.Prelude.{◌≡◌, ℕ, List, map}
use Rattle.rec_bytes.specs.Format as format
use Rattle.store_rules.specs.Chains.{In, IsWalk}
use Rattle.store_rules.specs.Indexes.{first_definition, indexed_key, indexed_label}
use Rattle.store_rules.specs.Indexes.{next_definition}
use Rattle.store_rules.specs.Views.{Records, kind_at}
use Rattle.prop_index.specs.declared.listing.IndexPair.{IndexPair}

-- the pair of a definition
abbrev pub pair_of : Records → ℕ → IndexPair
pair_of records d = record { label = indexed_label records d; key = indexed_key records d }

-- The pairs are those of the definitions to which the chain leads, each in use, in its order.
pub record ArePairsMet (records : Records) (pairs : List IndexPair) : Type 0 where
  pub definitions : List ℕ
  pub walk : IsWalk (next_definition records) (first_definition records) definitions
  pub defined : (d : ℕ) → In d definitions
      → kind_at records format.index_file d ≡ format.definition
  pub pairs_are : pairs ≡ map (pair_of records) definitions
