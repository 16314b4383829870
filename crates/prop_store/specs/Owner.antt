-- Elements that have properties.
use Rattle.std.specs.Prelude.{◌≡◌, ◌≢◌, ◌⊎◌, ℕ, List}
use Rattle.rec_bytes.specs.Format as format
use Rattle.rec_bytes.specs.Key.{IsKey}
use Rattle.rec_bytes.specs.Record.{field}
use Rattle.store_rules.specs.Properties.{AreProperties, Property, blocks_of, ids_of}
use Rattle.store_rules.specs.Properties.{property_records}
use Rattle.store_rules.specs.PropertyChange.{property_place}
use Rattle.store_rules.specs.Views.{Records, high, kind_at}
use Rattle.prop_store.specs.BlockList.{AreBelow}
use Rattle.prop_store.specs.declared.owner.Owner.{Owner}

-- the place of the first property in the record of a node or a relationship
pub record IsOwner (owner : Owner) : Type 0 where
  pub key : IsKey owner.key
  pub file : (owner.key.file ≡ format.nodes_file) ⊎ (owner.key.file ≡ format.relationships_file)
  pub place : owner.field ≡ property_place owner.key.file

-- its first property, or none
abbrev pub first_of : Records → Owner → ℕ
first_of records owner = field 4 (records owner.key) owner.field

-- the element has these properties, whose records and blocks were given out
pub record HasProperties (records : Records) (owner : Owner) (es : List Property) : Type 0 where
  pub are : AreProperties (property_records records) (first_of records owner) es
  pub ids_low : AreBelow (high records format.properties_file) (ids_of es)
  pub blocks_low : AreBelow (high records format.strings_file) (blocks_of es)

-- the element is in use
abbrev pub IsInUse : Records → Owner → Type 0
IsInUse records owner = kind_at records owner.key.file owner.key.id ≢ format.free_kind
