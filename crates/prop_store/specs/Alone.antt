-- Changes of the properties of one element, over what they touch alone. Besides, the store may be
-- in the middle of a change.
use Rattle.std.specs.Prelude.{◌≡◌, ◌≢◌, ◌⊎◌, ℕ, ◌+◌, ◌<◌, List, [], ◌∷◌, ◌++◌, length}
use Rattle.std.specs.Prelude.{Option, Some, None}
use Rattle.plain_graph.specs.Properties as plain
use Rattle.plain_graph.specs.declared.value.Value.{Value}
use Rattle.rec_bytes.specs.Format as format
use Rattle.rec_bytes.specs.RecordFiles.{room_of}
use Rattle.rec_bytes.specs.Space.{SameButReads, State, meta_of}
use Rattle.store_rules.specs.Chains.{In}
use Rattle.store_rules.specs.Properties.{Property, blocks_of, keys_of}
use Rattle.store_rules.specs.PropertyChange.{ChangesProperties}
use Rattle.store_rules.specs.Ranges.{Fits}
use Rattle.store_rules.specs.Views.{high, kind_at}
use Rattle.prop_store.specs.Dropping.{AreHeld}
use Rattle.prop_store.specs.Finding.{property_of}
use Rattle.prop_store.specs.Owner.{first_of}
use Rattle.prop_store.specs.declared.changing.Dropped.{Dropped}
use Rattle.prop_store.specs.declared.owner.Owner.{Owner}
use Rattle.prop_store.specs.declared.set_fault.SetFault.{SetFault}
use Rattle.prop_store.specs.declared.set_fault.SetFault.TheVariants as faults

-- the key is the number of one of the store's names
abbrev pub IsKnownKey : State → ℕ → Type 0
IsKnownKey s key = key < high s.records format.names_file

-- The element is in use and its record fits. It has these properties, which are in use with their
-- blocks, and each key is a name's.
pub record OwnsProperties (s : State) (owner : Owner) (es : List Property) : Type 0 where
  pub used : kind_at s.records owner.key.file owner.key.id ≢ format.free_kind
  pub fits : Fits (high s.records) owner.key.file (s.records owner.key)
  pub held : AreHeld s (first_of s.records owner) es
  pub known : (k : ℕ) → In k (keys_of es) → IsKnownKey s k

-- The element had these properties and has those, and nothing else changed.
abbrev pub ChangesAlone : State → State → Owner → List Property → List Property → Type 0
ChangesAlone old new owner es after =
    ChangesProperties old.records new.records old.shape owner.key.file owner.key.id es after

-- ---- a property of a key

-- none of them has the key
abbrev pub LacksKey : List Property → ℕ → Type 0
LacksKey es key = property_of es key ≡ None

-- This one has the key, after some and before the rest.
pub record HasKeyAt (es before : List Property) (e : Property) (rest : List Property) (key : ℕ)
    : Type 0 where
  pub all : es ≡ before ++ e ∷ rest
  pub key_is : e.key ≡ key

-- how many blocks the key has among them
abbrev pub blocks_held : Option Property → ℕ
blocks_held None = 0
blocks_held (Some e) = length e.blocks

abbrev pub blocks_at_key : List Property → ℕ → ℕ
blocks_at_key es key = blocks_held (property_of es key)

-- ---- a value set

-- The property is a new one before the others, none of which had its key.
pub record IsAdded (es after : List Property) (e : Property) (released : ℕ) : Type 0 where
  pub lacked : LacksKey es e.key
  pub all : after ≡ e ∷ es
  pub released_is : released ≡ 0

-- The property stands in the place of the one that had its key, and has its identifier. The old
-- value's blocks are gone, so many.
pub record IsReplaced (es after : List Property) (e : Property) (released : ℕ) : Type 0 where
  pub before : List Property
  pub was : Property
  pub rest : List Property
  pub found : HasKeyAt es before was rest e.key
  pub all : after ≡ before ++ e ∷ rest
  pub id_is : e.id ≡ was.id
  pub released_is : released ≡ length was.blocks

-- The key has the value now, and its old one is gone, with so many blocks.
pub record SetsAlone (old new : State) (owner : Owner) (es : List Property) (key : ℕ)
    (value : Value) (released : ℕ) : Type 0 where
  pub after : List Property
  pub changes : ChangesAlone old new owner es after
  pub property : Property
  pub key_is : property.key ≡ key
  pub value_is : property.value ≡ value
  pub place : IsAdded es after property released ⊎ IsReplaced es after property released

-- ---- values taken away

-- The property of the key is gone, with so many blocks.
pub record RemovesAlone (old new : State) (owner : Owner) (es : List Property) (key released : ℕ)
    : Type 0 where
  pub before : List Property
  pub was : Property
  pub rest : List Property
  pub found : HasKeyAt es before was rest key
  pub changes : ChangesAlone old new owner es (before ++ rest)
  pub released_is : released ≡ length was.blocks

-- the same, or no property had the key and nothing changed
abbrev pub UnsetsAlone : State → State → Owner → List Property → ℕ → Option ℕ → Type 0
UnsetsAlone old new owner es key None = LacksKey es key × SameButReads old new
UnsetsAlone old new owner es key (Some released) = RemovesAlone old new owner es key released

-- The element has no properties any more. All were given back with their blocks, so many.
pub record DropsAllAlone (old new : State) (owner : Owner) (es : List Property) (dropped : Dropped)
    : Type 0 where
  pub changes : ChangesAlone old new owner es []
  pub properties : dropped.properties ≡ length es
  pub blocks : dropped.blocks ≡ length (blocks_of es)

-- ---- why a value is not set

-- the file of properties has room for one more
abbrev pub HasRoomForOne : State → Type 0
HasRoomForOne s = (meta_of s format.properties_file).live < room_of s.shape format.properties_file

-- A property has the key, or there may be one more: the element has fewer than 32, and their file
-- has room.
abbrev pub MayHaveKey : State → List Property → ℕ → Type 0
MayHaveKey s es key = LacksKey es key → (length es < 32) × HasRoomForOne s

-- There is no room for so many blocks, even once those that the key has are given back.
abbrev pub LacksBlocks : State → List Property → ℕ → ℕ → Type 0
LacksBlocks s es key needed =
    room_of s.shape format.strings_file + blocks_at_key es key
    < (meta_of s format.strings_file).live + needed

-- The key is new, and the element has 32 properties or their file has no room. Else there is no
-- room for the blocks of the value.
abbrev pub IsSetRefusalAlone : State → List Property → ℕ → Value → SetFault → Type 0
IsSetRefusalAlone s es key value (faults.PropsFull count) =
    (count ≡ 32) × LacksKey es key × (length es ≡ 32)
IsSetRefusalAlone s es key value (faults.Full file live) =
    ((file ≡ format.properties_file) × LacksKey es key × (length es < 32) × (¬ HasRoomForOne s))
    ⊎ ((file ≡ format.strings_file) × MayHaveKey s es key
    × LacksBlocks s es key (plain.blocks_of value))
IsSetRefusalAlone s es key value faults.Memory = Unit {0}
IsSetRefusalAlone s es key value faults.Disk = Unit {0}
IsSetRefusalAlone s es key value (faults.Damaged damage) = ⊥
