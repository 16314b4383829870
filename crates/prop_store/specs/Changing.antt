-- Changes of the properties of one element of a store.
use Rattle.std.specs.Prelude.{◌≡◌, ◌≢◌, ◌⊎◌, ℕ, ◌<◌, ◌≤◌, List, Option, Some, None}
use Rattle.std.specs.FinMap as maps
use Rattle.plain_graph.specs.Graph.{block_count, properties_at, property_count, with_properties}
use Rattle.plain_graph.specs.Graph.{with_value, without_value}
use Rattle.plain_graph.specs.Properties.{Properties, blocks_at, blocks_in, no_properties}
use Rattle.plain_graph.specs.declared.command.Target.{Target}
use Rattle.plain_graph.specs.declared.value.Value.{Value}
use Rattle.rec_bytes.specs.Format as format
use Rattle.rec_bytes.specs.Space.{SameButReads, State}
use Rattle.store_rules.specs.Graph.{graph_of}
use Rattle.store_rules.specs.Properties.{Property}
use Rattle.store_rules.specs.PropertyChange.{ChangesProperties, target_in}
use Rattle.store_rules.specs.Rules.{IsWellFormed}
use Rattle.store_rules.specs.Views.{high, kind_at, rec_at, text_of}
use Rattle.prop_store.specs.Owner.{first_of}
use Rattle.prop_store.specs.declared.changing.Dropped.{Dropped}
use Rattle.prop_store.specs.declared.owner.Owner.{Owner}
use Rattle.prop_store.specs.declared.set_fault.SetFault.{SetFault}
use Rattle.prop_store.specs.declared.set_fault.SetFault.TheVariants.{Damaged, Disk, Full, Memory}
use Rattle.prop_store.specs.declared.set_fault.SetFault.TheVariants.{PropsFull}

-- the element as the graph has it
abbrev pub target_of : Owner → Target
target_of owner = target_in owner.key.file owner.key.id

-- its properties in the graph
abbrev pub properties_of : State → Owner → Properties
properties_of s owner = properties_at (graph_of s.records) (target_of owner)

-- the text of a key
abbrev pub text_at : State → ℕ → List ℕ
text_at s key = text_of (rec_at s.records format.names_file key)

-- The element is in use in a store.
pub record HasElement (s : State) (owner : Owner) : Type 0 where
  pub store : IsWellFormed s.records s.shape
  pub used : kind_at s.records owner.key.file owner.key.id ≢ format.free_kind

-- besides, the key is one of the store's names
pub record HasKey (s : State) (owner : Owner) (key : ℕ) : Type 0 where
  pub element : HasElement s owner
  pub known : key < high s.records format.names_file

-- The store has other properties of the element, and nothing else changed.
pub record ChangesElement (old new : State) (owner : Owner) : Type 0 where
  pub before : List Property
  pub after : List Property
  pub changes : ChangesProperties old.records new.records old.shape owner.key.file owner.key.id
      before after
  pub store : IsWellFormed new.records new.shape

-- The key of the element has the value now. The value that it had is gone, with so many blocks.
pub record SetsValue (old new : State) (owner : Owner) (key : ℕ) (value : Value) (released : ℕ)
    : Type 0 where
  pub changes : ChangesElement old new owner
  pub graph : graph_of new.records
      ≡ with_value (graph_of old.records) (target_of owner) (text_at old key) value
  pub released_is : released ≡ blocks_at (properties_of old owner) (text_at old key)
  pub few : maps.len (maps.insert (properties_of old owner) (text_at old key) value) ≤ 32

-- The value of the key is gone, with so many blocks.
pub record RemovesValue (old new : State) (owner : Owner) (key released : ℕ) : Type 0 where
  pub changes : ChangesElement old new owner
  pub graph : graph_of new.records
      ≡ without_value (graph_of old.records) (target_of owner) (text_at old key)
  pub released_is : released ≡ blocks_at (properties_of old owner) (text_at old key)

-- the same, or the element hadn't the key and nothing changed
abbrev pub UnsetsValue : State → State → Owner → ℕ → Option ℕ → Type 0
UnsetsValue old new owner key None =
    (maps.get (properties_of old owner) (text_at old key) ≡ None) × SameButReads old new
UnsetsValue old new owner key (Some released) = RemovesValue old new owner key released

-- The element has no properties any more.
pub record DropsAll (old new : State) (owner : Owner) (dropped : Dropped) : Type 0 where
  pub changes : ChangesElement old new owner
  pub graph : graph_of new.records
      ≡ with_properties (graph_of old.records) (target_of owner) (λ _. no_properties)
  pub bare : first_of new.records owner ≡ format.nil
  pub properties : dropped.properties ≡ maps.len (properties_of old owner)
  pub blocks : dropped.blocks ≡ blocks_in (properties_of old owner)

-- the element's properties with the value at the key
abbrev pub set_properties : State → Owner → ℕ → Value → Properties
set_properties s owner key value = maps.insert (properties_of s owner) (text_at s key) value

-- how many properties and blocks the graph would have with the value
abbrev pub properties_with : State → Owner → ℕ → Value → ℕ
properties_with s owner key value =
    property_count (with_value (graph_of s.records) (target_of owner) (text_at s key) value)

abbrev pub blocks_with : State → Owner → ℕ → Value → ℕ
blocks_with s owner key value =
    block_count (with_value (graph_of s.records) (target_of owner) (text_at s key) value)

-- The element would have too many properties; else the graph would, or else it would have too many
-- blocks.
abbrev pub IsSetRefusal : State → Owner → ℕ → Value → SetFault → Type 0
IsSetRefusal s owner key value (PropsFull count) =
    (count ≡ 32) × (32 < maps.len (set_properties s owner key value))
IsSetRefusal s owner key value (Full file live) =
    (maps.len (set_properties s owner key value) ≤ 32)
    × (((file ≡ format.properties_file) × (s.shape.limit < properties_with s owner key value))
    ⊎ ((file ≡ format.strings_file) × (properties_with s owner key value ≤ s.shape.limit)
    × (s.shape.limit < blocks_with s owner key value)))
IsSetRefusal s owner key value Memory = Unit {0}
IsSetRefusal s owner key value Disk = Unit {0}
IsSetRefusal s owner key value (Damaged damage) = ⊥

-- how many blocks were given back
abbrev pub released_blocks : Option ℕ → ℕ
released_blocks None = 0
released_blocks (Some released) = released
