-- The pairs of a line by the numbers of their keys, each key once.
use Rattle.std.specs.Prelude.{◌≡◌, ◌≢◌, ◌⊎◌, ℕ, ◌+◌, ◌<◌, ◌≤◌, nat_eq, true, if◌then◌else◌}
use Rattle.std.specs.Prelude.{None, List, []}
use Rattle.std.specs.Prelude.{◌∷◌, length, map, slice_index_or}
use Rattle.std.specs.FinMap as maps
use Rattle.std.specs.List.{All, sum_by}
use Rattle.plain_graph.specs.Graph.{UsesNames, has_element, properties_at, with_properties}
use Rattle.plain_graph.specs.Properties.{Properties, blocks_of, keys_in, no_properties, with_pairs}
use Rattle.plain_graph.specs.Refusals.{most_names, most_properties}
use Rattle.plain_graph.specs.declared.command.Target.{Target}
use Rattle.plain_graph.specs.declared.pairs.Pair.{Pair}
use Rattle.plain_graph.specs.declared.value.Value.TheVariants as values
use Rattle.prop_store.specs.SetFault.{IsFullFile, IsNeeded}
use Rattle.prop_store.specs.declared.owner.Owner.{Owner}
use Rattle.rec_bytes.specs.declared.key.Key.{Key}
use Rattle.rec_bytes.specs.Format as format
use Rattle.rec_bytes.specs.Record.{field}
use Rattle.rec_bytes.specs.RecordFiles.{meta_key_of}
use Rattle.rec_bytes.specs.Space.{State}
use Rattle.store_rules.specs.PropertyChange.{Apart, property_place}
use Rattle.store_rules.specs.Views.{Records, key_in, rec_at}
use Rattle.change_parts.specs.Owners.{owner_of}
use Rattle.change_parts.specs.Rooms.{HasRoom, LacksRoom}
use Rattle.change_parts.specs.Store.{IsMidway}
use Rattle.change_parts.specs.declared.assigning.Assignment.{Assignment}
use Rattle.change_parts.specs.declared.change_fault.ChangeFault.{ChangeFault}
use Rattle.change_parts.specs.declared.change_fault.ChangeFault.TheVariants.{NoNode, NoEdge}
use Rattle.change_parts.specs.declared.change_fault.ChangeFault.TheVariants.{HasRelationships, Full}
use Rattle.change_parts.specs.declared.change_fault.ChangeFault.TheVariants.{IndexThere}
use Rattle.change_parts.specs.declared.change_fault.ChangeFault.TheVariants.{TooManyIndexes}
use Rattle.change_parts.specs.declared.change_fault.ChangeFault.TheVariants.{IndexTooLarge}
use Rattle.change_parts.specs.declared.change_fault.ChangeFault.TheVariants.{NamesFull, PropsFull}
use Rattle.change_parts.specs.declared.change_fault.ChangeFault.TheVariants.{Memory, Disk, Damaged}
use Rattle.store_rules.specs.Graph.{graph_in}

-- the pair at a place
abbrev pub pair_at : List Pair → ℕ → Pair
pair_at pairs place = slice_index_or pairs place (record { key = []; value = values.Text [] })

-- the key and the value that an assignment stands for
abbrev pub pair_of : List (List ℕ) → List Pair → Assignment → Pair
pair_of names pairs assignment = record {
  key = slice_index_or names assignment.key [];
  value = (pair_at pairs assignment.pair).value;
}

abbrev pub pairs_of : List (List ℕ) → List Pair → List Assignment → List Pair
pairs_of names pairs assigned = map (pair_of names pairs) assigned

-- the assignments with a place for a key: in that of the key, or at the end where the key is new
abbrev pub with_place : List Assignment → ℕ → ℕ → List Assignment
with_place [] key place = record { key = key; pair = place } ∷ []
with_place (first ∷ later) key place =
    if nat_eq first.key key then record { key = key; pair = place } ∷ later
    else first ∷ with_place later key place

-- each assignment takes its value from one of the pairs
abbrev pub ArePlaced : List Pair → List Assignment → Type 0
ArePlaced pairs assigned = All (λ assignment. assignment.pair < length pairs) assigned

-- no pair has a key of the properties, or of a pair before it
abbrev pub AreNew : Properties → List Pair → Type 0
AreNew properties [] = Unit {0}
AreNew properties (pair ∷ later) =
    (maps.get properties pair.key ≡ None)
    × AreNew (maps.insert properties pair.key pair.value) later

-- The assignments are those of the pairs: each different key once, by its number among the names,
-- with the value that stands.
pub record AreAssigned (names : List (List ℕ)) (pairs : List Pair) (assigned : List Assignment)
    : Type 0 where
  pub known : All (λ assignment. assignment.key < length names) assigned
  pub placed : ArePlaced pairs assigned
  pub once : AreNew no_properties (pairs_of names pairs assigned)
  pub same : with_pairs no_properties (pairs_of names pairs assigned)
      ≡ with_pairs no_properties pairs

-- how many blocks the values of assignments take
abbrev pub assigned_blocks : List Pair → List Assignment → ℕ
assigned_blocks pairs assigned =
    sum_by (λ (assignment : Assignment). blocks_of (pair_at pairs assignment.pair).value) assigned

-- the keys of the pairs need more names than there may be
abbrev pub LacksNames : List (List ℕ) → List (List ℕ) → Type 0
LacksNames names line =
    (used : List (List ℕ)) × UsesNames names line used × (most_names < length used)

-- the pairs have more different keys than an element may have
abbrev pub HasTooMany : List Pair → Type 0
HasTooMany pairs = most_properties < maps.len (with_pairs no_properties pairs)

-- why pairs aren't assigned: for want of names, or else for their keys are too many
abbrev pub IsAssignFault : List (List ℕ) → List Pair → ChangeFault → Type 0
IsAssignFault names pairs (NoNode id) = ⊥
IsAssignFault names pairs (NoEdge id) = ⊥
IsAssignFault names pairs (HasRelationships id degree) = ⊥
IsAssignFault names pairs IndexThere = ⊥
IsAssignFault names pairs TooManyIndexes = ⊥
IsAssignFault names pairs (IndexTooLarge count) = ⊥
IsAssignFault names pairs (Full file live) = ⊥
IsAssignFault names pairs (NamesFull count) = LacksNames names (keys_in pairs)
IsAssignFault names pairs (PropsFull count) =
    (new : List (List ℕ)) × UsesNames names (keys_in pairs) new × (length new ≤ most_names)
    × HasTooMany pairs
IsAssignFault names pairs Memory = Unit {0}
IsAssignFault names pairs Disk = Unit {0}
IsAssignFault names pairs (Damaged damage) = ⊥

-- what such a fault counts is so
abbrev pub IsAssignCount : ChangeFault → Type 0
IsAssignCount (NoNode id) = ⊥
IsAssignCount (NoEdge id) = ⊥
IsAssignCount (HasRelationships id degree) = ⊥
IsAssignCount IndexThere = ⊥
IsAssignCount TooManyIndexes = ⊥
IsAssignCount (IndexTooLarge count) = ⊥
IsAssignCount (Full file live) = ⊥
IsAssignCount (NamesFull count) = count ≡ most_names
IsAssignCount (PropsFull count) = count ≡ most_properties
IsAssignCount Memory = Unit {0}
IsAssignCount Disk = Unit {0}
IsAssignCount (Damaged damage) = ⊥

-- Why an element isn't given so many values, with so many blocks, once there was room for them: by
-- the space as it is left a file is full of which a record is needed. Or it is a failure.
abbrev pub IsPutCause : State → ℕ → ℕ → ChangeFault → Type 0
IsPutCause t count blocks (NoNode id) = ⊥
IsPutCause t count blocks (NoEdge id) = ⊥
IsPutCause t count blocks (HasRelationships id degree) = ⊥
IsPutCause t count blocks IndexThere = ⊥
IsPutCause t count blocks TooManyIndexes = ⊥
IsPutCause t count blocks (IndexTooLarge count_of) = ⊥
IsPutCause t count blocks (Full file live) =
    IsFullFile t file live × IsNeeded (0 < count) blocks file
IsPutCause t count blocks (NamesFull count_of) = ⊥
IsPutCause t count blocks (PropsFull count_of) = ⊥
IsPutCause t count blocks Memory = Unit {0}
IsPutCause t count blocks Disk = Unit {0}
IsPutCause t count blocks (Damaged damage) = Unit {0}

-- the store has room for so many properties and blocks more
pub record HasPropertyRoom (s : State) (count block_count : ℕ) : Type 0 where
  pub properties : HasRoom s format.properties_file count
  pub blocks : HasRoom s format.strings_file block_count

-- why it has none: for want of properties, or else of blocks
abbrev pub IsReserveFault : State → ℕ → ℕ → ChangeFault → Type 0
IsReserveFault s count block_count fault =
    LacksRoom s format.properties_file count fault
    ⊎ (HasRoom s format.properties_file count × LacksRoom s format.strings_file block_count fault)

-- The element is there without properties, and the assignments are for it.
pub record CanPut (s : State) (names : List (List ℕ)) (target : Target) (pairs : List Pair)
    (assigned : List Assignment) : Type 0 where
  pub store : IsMidway s names
  pub there : has_element (graph_in s) target ≡ true
  pub bare : properties_at (graph_in s) target ≡ no_properties
  pub are : AreAssigned names pairs assigned

-- Nothing changed but records of properties and of blocks, and the place of the first property in
-- the record of the element.
pub record KeepsLinks (old new : Records) (owner : Owner) : Type 0 where
  pub own : (n at : ℕ) → at + n ≤ 64 → Apart n at 4 (property_place owner.key.file)
      → field n (rec_at new owner.key.file owner.key.id) at
      ≡ field n (rec_at old owner.key.file owner.key.id) at
  pub others : (key : Key) → key.file ≢ format.properties_file → key.file ≢ format.strings_file
      → key ≢ meta_key_of format.properties_file → key ≢ meta_key_of format.strings_file
      → key ≢ key_in owner.key.file owner.key.id → new key ≡ old key

-- The element has these pairs now.
pub record PutsPairs (s t : State) (names : List (List ℕ)) (target : Target) (pairs : List Pair)
    : Type 0 where
  pub store : IsMidway t names
  pub graph : graph_in t
      ≡ with_properties (graph_in s) target (λ properties. with_pairs properties pairs)
  pub keeps : KeepsLinks s.records t.records (owner_of target)
