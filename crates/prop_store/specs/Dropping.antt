-- Properties given back with their blocks.
use Rattle.std.specs.Prelude.{◌≡◌, ◌≢◌, ℕ, List, [], ◌∷◌, length}
use Rattle.rec_bytes.specs.declared.key.Key.{Key}
use Rattle.rec_bytes.specs.declared.shape.Shape.{Shape}
use Rattle.rec_bytes.specs.Format as format
use Rattle.rec_bytes.specs.RecordFiles.{meta_key_of}
use Rattle.rec_bytes.specs.Space.{State}
use Rattle.store_rules.specs.Properties.{AreOnce, AreProperties, Property, blocks_of, ids_of}
use Rattle.store_rules.specs.Properties.{property_records}
use Rattle.store_rules.specs.PropertyChange.{ChangesFile}
use Rattle.store_rules.specs.Views.{Records, rec_at}
use Rattle.prop_store.specs.PropertyRow.{HasValue}
use Rattle.prop_store.specs.declared.changing.Dropped.{Dropped}
use Rattle.prop_store.specs.declared.property_row.PropertyRow.{PropertyRow}

-- Records of properties and of blocks were given back, and others are in use in their place. No
-- other file changed.
pub record ChangesRecords (s t : Records) (shape : Shape) (ids new_ids blocks new_blocks : List ℕ)
    : Type 0 where
  pub properties : ChangesFile s t shape format.properties_file ids new_ids
  pub strings : ChangesFile s t shape format.strings_file blocks new_blocks
  pub others : (key : Key) → key.file ≢ format.properties_file → key.file ≢ format.strings_file
      → key ≢ meta_key_of format.properties_file → key ≢ meta_key_of format.strings_file
      → t key ≡ s key

-- The row is of the property, which is in use with its blocks.
pub record IsHeld (s : State) (row : PropertyRow) (e : Property) : Type 0 where
  pub id_is : row.id ≡ e.id
  pub value : HasValue (rec_at s.records format.strings_file) row.rec e.value e.blocks
  pub once : AreOnce e.blocks
  pub properties : ChangesFile s.records s.records s.shape format.properties_file
      (e.id ∷ []) (e.id ∷ [])
  pub strings : ChangesFile s.records s.records s.shape format.strings_file e.blocks e.blocks

-- The property and its blocks, of which there were so many, were given back.
pub record DropsProperty (old new : State) (e : Property) (released : ℕ) : Type 0 where
  pub released_is : released ≡ length e.blocks
  pub changes : ChangesRecords old.records new.records old.shape (e.id ∷ []) [] e.blocks []

-- These are properties in use, the first of them here, with their blocks.
pub record AreHeld (s : State) (first : ℕ) (es : List Property) : Type 0 where
  pub are : AreProperties (property_records s.records) first es
  pub properties : ChangesFile s.records s.records s.shape format.properties_file (ids_of es)
      (ids_of es)
  pub strings : ChangesFile s.records s.records s.shape format.strings_file (blocks_of es)
      (blocks_of es)

-- All of them and their blocks were given back, so many.
pub record DropsProperties (old new : State) (es : List Property) (dropped : Dropped) : Type 0 where
  pub properties : dropped.properties ≡ length es
  pub blocks : dropped.blocks ≡ length (blocks_of es)
  pub changes : ChangesRecords old.records new.records old.shape (ids_of es) [] (blocks_of es) []
