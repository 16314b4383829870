-- The entries that a change of the values of a node takes out of the indexes and adds to them.
use Rattle.std.specs.Prelude.{◌≡◌, ℕ, ◌+◌, ◌*◌, ◌<◌, ◌≤◌, nat_eq, Bool, true, false, ◌&&◌, not}
use Rattle.std.specs.Prelude.{if◌then◌else◌, ◌⊎◌, Option, None, Some, is_some, List, [], ◌∷◌}
use Rattle.std.specs.Prelude.{length, map, slice_get}
use Rattle.std.specs.List.{filter, list_any, sum_by}
use Rattle.plain_graph.specs.Properties.{no_properties, with_pairs}
use Rattle.plain_graph.specs.Changes.{properties_weight}
use Rattle.plain_graph.specs.declared.command.Target.{Target}
use Rattle.plain_graph.specs.declared.command.Target.TheVariants as targets
use Rattle.plain_graph.specs.declared.pairs.Pair.{Pair}
use Rattle.plain_graph.specs.declared.value.Value.{Value}
use Rattle.prop_index.specs.Entering.{entry_of}
use Rattle.prop_index.specs.Listing.{pair_of}
use Rattle.prop_index.specs.declared.listing.IndexPair.{IndexPair}
use Rattle.prop_store.specs.Finding.{value_of}
use Rattle.prop_store.specs.Reading.{properties_met}
use Rattle.rec_bytes.specs.Format as format
use Rattle.rec_bytes.specs.Record.{field}
use Rattle.rec_bytes.specs.RecordFiles.{room_of}
use Rattle.rec_bytes.specs.Space.{State}
use Rattle.store_rules.specs.Chains.{IsWalk}
use Rattle.store_rules.specs.IndexChange.{WantsValue, with_value, without_value}
use Rattle.store_rules.specs.Indexes.{AreIndexed, Entries, first_definition, next_definition}
use Rattle.store_rules.specs.Indexes.{node_value}
use Rattle.store_rules.specs.Properties.{AreOnce}
use Rattle.store_rules.specs.Views.{Records, rec_at}
use Rattle.change_parts.specs.ChangeFault.{IsOutside}
use Rattle.change_parts.specs.Owners.{owner_of}
use Rattle.change_parts.specs.Rooms.{LacksRoom}
use Rattle.change_parts.specs.declared.assigning.Assignment.{Assignment}
use Rattle.change_parts.specs.declared.change_fault.ChangeFault.{ChangeFault}
use Rattle.change_parts.specs.declared.change_fault.ChangeFault.TheVariants.{NoNode, NoEdge}
use Rattle.change_parts.specs.declared.change_fault.ChangeFault.TheVariants.{HasRelationships, Full}
use Rattle.change_parts.specs.declared.change_fault.ChangeFault.TheVariants.{IndexThere}
use Rattle.change_parts.specs.declared.change_fault.ChangeFault.TheVariants.{TooManyIndexes}
use Rattle.change_parts.specs.declared.change_fault.ChangeFault.TheVariants.{IndexTooLarge}
use Rattle.change_parts.specs.declared.change_fault.ChangeFault.TheVariants.{NamesFull, PropsFull}
use Rattle.change_parts.specs.declared.change_fault.ChangeFault.TheVariants.{Memory, Disk, Damaged}
use Rattle.node_changes.specs.declared.entries.IndexedValue.{IndexedValue}
use Rattle.store_rules.specs.Rules.{IsWhole}

-- ---- the pairs that have an index

abbrev pub is_pair : ℕ → ℕ → IndexPair → Bool
is_pair label key pair = nat_eq pair.label label && nat_eq pair.key key

abbrev pub is_listed : List IndexPair → ℕ → ℕ → Bool
is_listed pairs label key = list_any (is_pair label key) pairs

-- The indexes of the store are right, and these are their pairs.
pub record ArePairsOf (s : State) (wanted : Entries) (pairs : List IndexPair) : Type 0 where
  pub kept : IsWhole s
  pub indexed : AreIndexed s.records wanted
  pub are : pairs ≡ map (pair_of s.records) indexed.definitions

-- ---- the values of a new node

-- the assignments whose keys have an index with the label
abbrev pub indexed_of : List IndexPair → ℕ → List Assignment → List Assignment
indexed_of listed label assigned =
    filter (λ (assignment : Assignment). is_listed listed label assignment.key) assigned

-- no entry of the node is wanted
abbrev pub LacksEntries : Entries → ℕ → Type 0
LacksEntries wanted node = (label key hash : ℕ)
    → wanted (record { label = label; key = key; node = node; hash = hash }) ≡ false

-- no key is assigned twice
abbrev pub AreKeysOnce : List Assignment → Type 0
AreKeysOnce assigned = AreOnce (map (λ (assignment : Assignment). assignment.key) assigned)

-- ---- the values of a node that is deleted

abbrev pub without_node : Entries → ℕ → Entries
without_node wanted node e = not (nat_eq e.node node) && wanted e

-- ---- one value

-- A value has an index where it is the value of a node, whose label and the key have one.
abbrev pub IsIndexedValue : Records → List IndexPair → Target → ℕ → Option IndexedValue → Type 0
IsIndexedValue records listed (targets.Edge id) key held = held ≡ None
IsIndexedValue records listed (targets.Node id) key None =
    is_listed listed (field 4 (rec_at records format.nodes_file id) format.node_label) key ≡ false
IsIndexedValue records listed (targets.Node id) key (Some held) =
    (held.node ≡ id) × (held.key ≡ key)
    × (held.label ≡ field 4 (rec_at records format.nodes_file id) format.node_label)
    × (is_listed listed held.label key ≡ true)
    × (held.value ≡ node_value records held.label key id)

-- the entries without that of the old value
abbrev pub without_old : Entries → Option IndexedValue → Entries
without_old wanted None = wanted
without_old wanted (Some held) = without_value wanted held.label held.key held.node held.value

-- the entries with that of the new value
abbrev pub with_new : Entries → Option IndexedValue → Value → Entries
with_new wanted None value = wanted
with_new wanted (Some held) value =
    with_value wanted held.label held.key held.node (Some value)

-- it isn't wanted yet
abbrev pub LacksHeld : Entries → Option IndexedValue → Value → Type 0
LacksHeld wanted None value = Unit {0}
LacksHeld wanted (Some held) value =
    wanted (entry_of held.label held.key held.node value) ≡ false

-- the node has just the entry of the old value
abbrev pub WantsHeld : Entries → Option IndexedValue → Type 0
WantsHeld wanted None = Unit {0}
WantsHeld wanted (Some held) = WantsValue wanted held.label held.key held.node held.value

-- the value that was held is that to which the records of the element lead
abbrev pub HasMet : State → Target → ℕ → IndexedValue → Type 0
HasMet s target key held =
    held.value ≡ value_of (properties_met s.records (owner_of target)) key

-- ---- what entries weigh

-- an index of the pair has an entry of the node, whose label this is
abbrev pub is_held : Records → ℕ → ℕ → IndexPair → Bool
is_held records label node pair =
    nat_eq pair.label label && is_some (node_value records label pair.key node)

-- the entry of the node in the index of a pair, and those in all indexes
abbrev pub pair_weight : Records → ℕ → ℕ → IndexPair → ℕ
pair_weight records label node pair = if is_held records label node pair then 3 else 0

abbrev pub node_weight : Records → ℕ → ℕ → List IndexPair → ℕ
node_weight records label node pairs = 3 * length (filter (is_held records label node) pairs)

abbrev pub value_weight : Option Value → ℕ
value_weight None = 0
value_weight (Some value) = 3

abbrev pub old_weight : Option IndexedValue → ℕ
old_weight None = 0
old_weight (Some held) = value_weight held.value

abbrev pub new_weight : Option IndexedValue → ℕ
new_weight None = 0
new_weight (Some held) = 3

-- ---- the values of a node that is deleted

-- the values that a node of the label has of the keys of the pairs
abbrev pub held_of : Records → ℕ → ℕ → List IndexPair → List IndexedValue
held_of records label node [] = []
held_of records label node (pair ∷ pairs) =
    if is_held records label node pair
    then record {
      label = label;
      key = pair.key;
      node = node;
      value = node_value records label pair.key node;
    } ∷ held_of records label node pairs
    else held_of records label node pairs

-- the one of a pair
abbrev pub held_at : Records → ℕ → ℕ → IndexPair → Option IndexedValue
held_at records label node pair =
    if is_held records label node pair
    then Some (record {
      label = label;
      key = pair.key;
      node = node;
      value = node_value records label pair.key node;
    })
    else None

-- the entries without those of these values
abbrev pub without_held : Entries → List IndexedValue → Entries
without_held wanted [] = wanted
without_held wanted (held ∷ later) = without_held (without_old wanted (Some held)) later

-- what these weigh
abbrev pub held_weight : List IndexedValue → ℕ
held_weight held = sum_by (λ (h : IndexedValue). old_weight (Some h)) held

-- Where an entry isn't added, the file of the indexes is full by the space as it was. Or it is a
-- failure.
abbrev pub IsEntryFault : State → ChangeFault → Type 0
IsEntryFault s (NoNode id) = ⊥
IsEntryFault s (NoEdge id) = ⊥
IsEntryFault s (HasRelationships id degree) = ⊥
IsEntryFault s IndexThere = ⊥
IsEntryFault s TooManyIndexes = ⊥
IsEntryFault s (IndexTooLarge count) = ⊥
IsEntryFault s (Full file live) =
    (file ≡ format.index_file) × LacksRoom s file 1 (Full file live)
    × (live ≡ room_of s.shape format.index_file)
IsEntryFault s (NamesFull count) = ⊥
IsEntryFault s (PropsFull count) = ⊥
IsEntryFault s Memory = Unit {0}
IsEntryFault s Disk = Unit {0}
IsEntryFault s (Damaged damage) = Unit {0}

-- In a store that keeps the rules, no record is blamed.
abbrev pub IsEntryUndamaged : State → ChangeFault → Type 0
IsEntryUndamaged s (NoNode id) = ⊥
IsEntryUndamaged s (NoEdge id) = ⊥
IsEntryUndamaged s (HasRelationships id degree) = ⊥
IsEntryUndamaged s IndexThere = ⊥
IsEntryUndamaged s TooManyIndexes = ⊥
IsEntryUndamaged s (IndexTooLarge count) = ⊥
IsEntryUndamaged s (Full file live) =
    (file ≡ format.index_file) × LacksRoom s file 1 (Full file live)
IsEntryUndamaged s (NamesFull count) = ⊥
IsEntryUndamaged s (PropsFull count) = ⊥
IsEntryUndamaged s Memory = Unit {0}
IsEntryUndamaged s Disk = Unit {0}
IsEntryUndamaged s (Damaged damage) = ⊥

-- a node is in the index of the pair where it gets the key, and it had none
abbrev pub LacksValue : Option IndexedValue → Type 0
LacksValue None = ⊥
LacksValue (Some held) = held.value ≡ None

-- Where an entry isn't added to indexes that keep the rules, there was none of the value before,
-- and the file of the indexes was full. Or only the machine fails.
abbrev pub IsEntryRefusal : State → Option IndexedValue → ChangeFault → Type 0
IsEntryRefusal s held fault =
    IsOutside fault ⊎ (LacksValue held × LacksRoom s format.index_file 1 fault)

-- an index has the label and the key of the value
abbrev pub held_is_listed : List IndexPair → Option IndexedValue → Bool
held_is_listed pairs None = true
held_is_listed pairs (Some held) = is_listed pairs held.label held.key

-- What a new node weighs over any records: besides its record, its properties and new names 3 for
-- each entry, of which there are at most as many as properties.
pub record WeighsNode (pairs : List Pair) (new_names weight : ℕ) : Type 0 where
  pub entries : ℕ
  pub few : entries ≤ 32
  pub is : weight ≡ 1 + properties_weight (with_pairs no_properties pairs) + new_names + 3 * entries
