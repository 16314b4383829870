-- Which records a change of properties touches.
use Rattle.std.specs.Prelude.{◌≡◌, ◌≢◌, ℕ, ◌+◌, ◌≤◌, List, [], ◌∷◌, ◌++◌, length, map}
use Rattle.rec_bytes.specs.declared.key.Key.{Key}
use Rattle.rec_bytes.specs.Format as format
use Rattle.rec_bytes.specs.Record.{field}
use Rattle.rec_bytes.specs.RecordFiles.{meta_key_of}
use Rattle.rec_bytes.specs.Space.{State, WritesOnly}
use Rattle.store_rules.specs.PropertyChange.{Apart}
use Rattle.store_rules.specs.Views.{key_in}
use Rattle.store_rules.specs.Writes.{ChangesOnly}
use Rattle.prop_store.specs.declared.owner.Owner.{Owner}

-- What became written is among these keys, and so is what changed, where the space tells.
pub record TouchesOnly (tells : Type 0) (old new : State) (keys : List Key) : Type 0 where
  pub writes : WritesOnly old new keys
  pub stays : tells → ChangesOnly old new keys

-- the records of these properties and of these blocks, and the meta records of their two files
abbrev pub property_keys : List ℕ → List ℕ → List Key
property_keys ids blocks =
    map (key_in format.properties_file) ids
    ++ (map (key_in format.strings_file) blocks
    ++ meta_key_of format.properties_file ∷ meta_key_of format.strings_file ∷ [])

-- Only these links are touched, the records of at most so many properties and so many blocks, and
-- the meta records of their two files.
pub record TouchesProperties (tells : Type 0) (links : List Key) (properties blocks : ℕ)
    (old new : State) : Type 0 where
  pub ids : List ℕ
  pub block_ids : List ℕ
  pub few_ids : length ids ≤ properties
  pub few_blocks : length block_ids ≤ blocks
  pub only : TouchesOnly tells old new (links ++ property_keys ids block_ids)

-- No record is other but those of properties and blocks, the meta records of their two files, and
-- the element's own. Of that one only the place of its first property is.
pub record LeavesElement (old new : State) (owner : Owner) : Type 0 where
  pub others : (key : Key) → key.file ≢ format.properties_file → key.file ≢ format.strings_file
      → key ≢ meta_key_of format.properties_file → key ≢ meta_key_of format.strings_file
      → key ≢ owner.key → new.records key ≡ old.records key
  pub own : (n at : ℕ) → at + n ≤ format.record_bytes → Apart n at 4 owner.field
      → field n (new.records owner.key) at ≡ field n (old.records owner.key) at
