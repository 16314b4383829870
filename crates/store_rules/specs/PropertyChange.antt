-- What is known of a change of one element's properties, before it is known that the rules are
-- kept.
use Rattle.std.specs.Prelude.{◌≡◌, ◌≢◌, ◌⊎◌, ℕ, ◌+◌, ◌<◌, ◌≤◌, nat_eq, true, false, cond, List}
use Rattle.plain_graph.specs.declared.command.Target.{Target}
use Rattle.plain_graph.specs.declared.command.Target.TheVariants as targets
use Rattle.rec_bytes.specs.declared.key.Key.{Key}
use Rattle.rec_bytes.specs.declared.shape.Shape.{Shape}
use Rattle.rec_bytes.specs.Format as format
use Rattle.rec_bytes.specs.Meta.{IsMetaInRange}
use Rattle.rec_bytes.specs.Record.{field}
use Rattle.rec_bytes.specs.RecordFiles.{meta_key_of}
use Rattle.store_rules.specs.Chains.{In}
use Rattle.store_rules.specs.Properties.{AreProperties, Property, blocks_of, ids_of, keys_of}
use Rattle.store_rules.specs.Properties.{property_records}
use Rattle.store_rules.specs.Ranges.{Fits}
use Rattle.store_rules.specs.Rules.{IsSplit}
use Rattle.store_rules.specs.Views.{Records, high, is_live, key_in, kind_at, rec_at}

-- the n bytes from one place on, and the m from another, have none in common
abbrev pub Apart : ℕ → ℕ → ℕ → ℕ → Type 0
Apart n at m other = (at + n ≤ other) ⊎ (other + m ≤ at)

-- the place of the first property in the record of an element of this file
abbrev pub property_place : ℕ → ℕ
property_place file =
    cond (nat_eq file format.nodes_file)
    format.node_first_property format.relationship_first_property

-- the first property of an element
abbrev pub property_from : Records → ℕ → ℕ → ℕ
property_from records file x = field 4 (rec_at records file x) (property_place file)

-- the element of this file and identifier
abbrev pub target_in : ℕ → ℕ → Target
target_in file x = cond (nat_eq file format.nodes_file) (targets.Node x) (targets.Edge x)

-- In a file of properties or of blocks these records were given back, and these are in use in their
-- place. Those of others stay.
pub record ChangesFile (s t : Records) (shape : Shape) (file : ℕ) (old new : List ℕ) : Type 0 where
  pub grows : high s file ≤ high t file
  pub meta : IsMetaInRange shape file (t (meta_key_of file))
  pub fits : (x : ℕ) → x < high t file → Fits (high t) file (rec_at t file x)
  pub free : List ℕ
  pub split : IsSplit t file (is_live t file) free
  pub live : (x : ℕ) → In x new → is_live t file x ≡ true
  pub from : (x : ℕ) → In x new → In x old ⊎ (is_live s file x ≡ false)
  pub kept : (x : ℕ) → is_live s file x ≡ true → ¬ In x old
      → (is_live t file x ≡ true) × (rec_at t file x ≡ rec_at s file x)
  pub only : (x : ℕ) → is_live t file x ≡ true
      → In x new ⊎ ((is_live s file x ≡ true) × (¬ In x old))

-- An element in use had these properties, and has those. Nothing changed but the place of its first
-- property in its record, and records of properties and of blocks that were its own or free.
pub record ChangesProperties (s t : Records) (shape : Shape) (file x : ℕ)
    (old new : List Property) : Type 0 where
  pub element : (file ≡ format.nodes_file) ⊎ (file ≡ format.relationships_file)
  pub used : kind_at s file x ≢ format.free_kind
  pub was : AreProperties (property_records s) (property_from s file x) old
  pub now : AreProperties (property_records t) (property_from t file x) new
  pub known : (k : ℕ) → In k (keys_of new) → k < high s format.names_file
  pub own : (n at : ℕ) → at + n ≤ 64 → Apart n at 4 (property_place file)
      → field n (rec_at t file x) at ≡ field n (rec_at s file x) at
  pub fits : Fits (high t) file (rec_at t file x)
  pub properties : ChangesFile s t shape format.properties_file (ids_of old) (ids_of new)
  pub strings : ChangesFile s t shape format.strings_file (blocks_of old) (blocks_of new)
  pub others : (key : Key) → key.file ≢ format.properties_file → key.file ≢ format.strings_file
      → key ≢ meta_key_of format.properties_file → key ≢ meta_key_of format.strings_file
      → key ≢ key_in file x → t key ≡ s key
