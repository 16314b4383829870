-- What a read of properties answers and leaves.
use Rattle.std.specs.Prelude.{◌≡◌, ℕ, ◌≤◌, List, map}
use Rattle.std.specs.List.{sum_by}
use Rattle.plain_graph.specs.Properties.{blocks_of}
use Rattle.rec_bytes.specs.Format as format
use Rattle.rec_bytes.specs.Space.{State, after_gets}
use Rattle.store_rules.specs.Properties.{Property, property_at, property_ids, property_records}
use Rattle.store_rules.specs.Views.{Records, rec_at}
use Rattle.prop_store.specs.Owner.{first_of}
use Rattle.prop_store.specs.declared.owner.Owner.{Owner}
use Rattle.prop_store.specs.declared.prop.Prop.{Prop}

-- at most so many reads, and nothing else
pub record ReadsAtMost (most : ℕ) (old new : State) : Type 0 where
  pub count : ℕ
  pub within : count ≤ most
  pub is : new ≡ after_gets count old

-- a property as it is answered
abbrev pub prop_of : Property → Prop
prop_of e = record { key = e.key; value = e.value }

-- how many blocks their values have
abbrev pub block_total : List Prop → ℕ
block_total props = sum_by (λ prop. blocks_of prop.value) props

-- the properties that an element's records lead through, as they say them, with no rule in mind
abbrev pub properties_met : Records → Owner → List Property
properties_met records owner =
    map (property_at (property_records records))
    (property_ids (rec_at records format.properties_file) (first_of records owner))
