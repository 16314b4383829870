-- Why a change is refused, by what the records say, whether or not they keep the rules.
use Rattle.std.specs.Prelude.{◌≡◌, ◌≢◌, ◌⊎◌, ◌+◌, ◌<◌, ◌≤◌, ℕ, List, [], ◌∷◌, None, Some, length}
use Rattle.std.specs.Prelude.{slice_get}
use Rattle.std.specs.FinMap as maps
use Rattle.plain_graph.specs.Graph.{UsesNames}
use Rattle.plain_graph.specs.Indexes.{most_indexed, most_indexes}
use Rattle.plain_graph.specs.Properties.{blocks_of, keys_in, no_properties, with_pairs}
use Rattle.plain_graph.specs.Refusals.{most_names, most_properties}
use Rattle.plain_graph.specs.declared.command.Command.{Command}
use Rattle.plain_graph.specs.declared.command.Command.TheVariants as commands
use Rattle.plain_graph.specs.declared.command.Target.{Target}
use Rattle.plain_graph.specs.declared.command.Target.TheVariants as targets
use Rattle.plain_graph.specs.declared.pairs.Pair.{Pair}
use Rattle.prop_index.specs.Making.{count_of}
use Rattle.prop_store.specs.Finding.{IsCrowded, LacksMet}
use Rattle.prop_store.specs.SetFault.{IsFullFile, IsNeeded}
use Rattle.rec_bytes.specs.declared.damage.Damage.{Damage}
use Rattle.rec_bytes.specs.Format as format
use Rattle.rec_bytes.specs.Space.{State}
use Rattle.store_rules.specs.Chains.{IsWalk}
use Rattle.store_rules.specs.Indexes.{first_definition, indexed_key, indexed_label, next_definition}
use Rattle.store_rules.specs.Views.{Records, kind_at}
use Rattle.node_store.specs.Loading as nodes
use Rattle.rel_store.specs.Loading as rels
use Rattle.change_parts.specs.Assigning.{HasTooMany, LacksNames}
use Rattle.change_parts.specs.Damage.{IfBlames, IsBroken}
use Rattle.change_parts.specs.Degrees.{HasDegree}
use Rattle.change_parts.specs.Owners.{owner_of}
use Rattle.change_parts.specs.Preparing.{NeedForPairs}
use Rattle.change_parts.specs.Rooms.{LacksRoom}
use Rattle.change_parts.specs.declared.change_fault.ChangeFault.{ChangeFault}
use Rattle.change_parts.specs.declared.change_fault.ChangeFault.TheVariants.{NoNode, NoEdge}
use Rattle.change_parts.specs.declared.change_fault.ChangeFault.TheVariants.{HasRelationships, Full}
use Rattle.change_parts.specs.declared.change_fault.ChangeFault.TheVariants.{IndexThere}
use Rattle.change_parts.specs.declared.change_fault.ChangeFault.TheVariants.{TooManyIndexes}
use Rattle.change_parts.specs.declared.change_fault.ChangeFault.TheVariants.{IndexTooLarge}
use Rattle.change_parts.specs.declared.change_fault.ChangeFault.TheVariants.{NamesFull, PropsFull}
use Rattle.change_parts.specs.declared.change_fault.ChangeFault.TheVariants.{Memory, Disk, Damaged}

-- the command makes an index, and this is so of its label and its key
abbrev pub AsksIndex : Command → (List ℕ → List ℕ → Type 0) → Type 0
AsksIndex (commands.Index label key) Holds = Holds label key
AsksIndex _ Holds = ⊥

-- a definition has the label and the key, by their numbers among the names
abbrev pub HasDefinition : Records → List (List ℕ) → List ℕ → List ℕ → Type 0
HasDefinition records names label key =
    (d : ℕ) × (kind_at records format.index_file d ≡ format.definition)
    × (slice_get names (indexed_label records d) ≡ Some label)
    × (slice_get names (indexed_key records d) ≡ Some key)

-- so one has, by the numbers that they have, or get as they become names
abbrev pub HasIndexOf : Records → List (List ℕ) → List ℕ → List ℕ → Type 0
HasIndexOf records names label key =
    (used : List (List ℕ)) × UsesNames names (label ∷ key ∷ []) used
    × HasDefinition records used label key

-- So many nodes of the label have the key, by their numbers among the names.
pub record HasCount (records : Records) (names : List (List ℕ)) (label key : List ℕ) (count : ℕ)
    : Type 0 where
  pub label_number : ℕ
  pub key_number : ℕ
  pub label_named : slice_get names label_number ≡ Some label
  pub key_named : slice_get names key_number ≡ Some key
  pub count_is : count ≡ count_of records label_number key_number

-- there are as many definitions as there may be
abbrev pub HasManyDefinitions : Records → Type 0
HasManyDefinitions records =
    (definitions : List ℕ)
    × IsWalk (next_definition records) (first_definition records) definitions
    × (most_indexes ≤ length definitions)

-- the command is about the node
abbrev pub AsksNode : Command → ℕ → Type 0
AsksNode (commands.Edge from label to pairs) id = (id ≡ from) ⊎ (id ≡ to)
AsksNode (commands.Set target key value) id = target ≡ targets.Node id
AsksNode (commands.Unset target key) id = target ≡ targets.Node id
AsksNode (commands.Delete target) id = target ≡ targets.Node id
AsksNode _ id = ⊥

-- it is about the edge
abbrev pub AsksEdge : Command → ℕ → Type 0
AsksEdge (commands.Set target key value) id = target ≡ targets.Edge id
AsksEdge (commands.Unset target key) id = target ≡ targets.Edge id
AsksEdge (commands.Delete target) id = target ≡ targets.Edge id
AsksEdge _ id = ⊥

-- with its names there would be more than a store may have
abbrev pub AsksNames : List (List ℕ) → Command → Type 0
AsksNames names (commands.Node label pairs) = LacksNames names (label ∷ keys_in pairs)
AsksNames names (commands.Edge from label to pairs) = LacksNames names (label ∷ keys_in pairs)
AsksNames names (commands.Set target key value) = LacksNames names (key ∷ [])
AsksNames names (commands.Index label key) = LacksNames names (label ∷ key ∷ [])
AsksNames names _ = ⊥

-- A new element needs so many records of the file: its own one, or those of its properties, and a
-- node at most one of the indexes for each. An index needs one for its definition, twelve for its
-- buckets, and one for each node of the label that has the key.
abbrev pub AsksRoom : Command → Records → List (List ℕ) → ℕ → ℕ → Type 0
AsksRoom (commands.Node label pairs) records names file count =
    ((file ≡ format.nodes_file) × (count ≡ 1))
    ⊎ (NeedForPairs pairs file count
    ⊎ ((file ≡ format.index_file) × (count ≤ maps.len (with_pairs no_properties pairs))))
AsksRoom (commands.Edge from label to pairs) records names file count =
    ((file ≡ format.relationships_file) × (count ≡ 1)) ⊎ NeedForPairs pairs file count
AsksRoom (commands.Index label key) records names file count =
    (file ≡ format.index_file)
    × ((n : ℕ) × HasCount records names label key n × (count ≡ 13 + n))
AsksRoom _ records names file count = ⊥

-- The records of the element lead to no property with the key, by its number among these names.
pub record LacksKey (records : Records) (names : List (List ℕ)) (target : Target) (key : List ℕ)
    : Type 0 where
  pub number : ℕ
  pub named : slice_get names number ≡ Some key
  pub lacks : LacksMet records (owner_of target) number

-- Besides, they lead to as many as an element may have.
pub record IsCrowdedFor (records : Records) (names : List (List ℕ)) (target : Target)
    (key : List ℕ) : Type 0 where
  pub number : ℕ
  pub named : slice_get names number ≡ Some key
  pub crowded : IsCrowded records (owner_of target) number

-- the pairs need some record of the file
abbrev pub NeedsAny : List Pair → ℕ → Type 0
NeedsAny pairs file = (count : ℕ) × NeedForPairs pairs file count × (0 < count)

-- nodes alone have entries in indexes
abbrev pub IsNodeTarget : Target → Type 0
IsNodeTarget (targets.Node id) = Unit {0}
IsNodeTarget (targets.Edge id) = ⊥

-- What the command gives an element needs a record of the file. A new edge may need groups, too.
abbrev pub AsksRecord : Command → Records → List (List ℕ) → ℕ → Type 0
AsksRecord (commands.Node label pairs) records names file =
    NeedsAny pairs file ⊎ ((file ≡ format.index_file) × (pairs ≢ []))
AsksRecord (commands.Edge from label to pairs) records names file =
    NeedsAny pairs file ⊎ (file ≡ format.groups_file)
AsksRecord (commands.Set target key value) records names file =
    IsNeeded (LacksKey records names target key) (blocks_of value) file
    ⊎ ((file ≡ format.index_file) × IsNodeTarget target)
AsksRecord _ records names file = ⊥

-- an element would have more properties than it may have
abbrev pub AsksTooMany : Command → Records → List (List ℕ) → Type 0
AsksTooMany (commands.Node label pairs) records names = HasTooMany pairs
AsksTooMany (commands.Edge from label to pairs) records names = HasTooMany pairs
AsksTooMany (commands.Set target key value) records names = IsCrowdedFor records names target key
AsksTooMany _ records names = ⊥

-- The file had no room for what a new element needs, as counted before its record is written. Or it
-- is told as what is given needs a record of it: by the space as it is left it is full.
abbrev pub IsFull : Command → State → State → List (List ℕ) → ℕ → ℕ → Type 0
IsFull command s t now file live =
    ((count : ℕ) × AsksRoom command s.records now file count
    × LacksRoom s file count (Full file live))
    ⊎ (AsksRecord command s.records now file × IsFullFile t file live)

-- Why the command is refused, by the space and the names as they were and as they are left. A
-- record that is called damaged has a clause of its own.
abbrev pub IsCaused : Command → State → State → List (List ℕ) → List (List ℕ) → ChangeFault → Type 0
IsCaused command s t names now (NoNode id) =
    AsksNode command id × (nodes.row_at s.records id ≡ None)
IsCaused command s t names now (NoEdge id) =
    AsksEdge command id × (rels.row_at s.records id ≡ None)
IsCaused command s t names now (HasRelationships id degree) =
    (command ≡ commands.Delete (targets.Node id)) × HasDegree s.records id degree × (degree ≢ 0)
IsCaused command s t names now IndexThere = AsksIndex command (HasIndexOf s.records names)
IsCaused command s t names now TooManyIndexes =
    AsksIndex command (λ label key. HasManyDefinitions s.records)
IsCaused command s t names now (IndexTooLarge count) =
    AsksIndex command
    (λ label key. (most_indexed < count) × HasCount s.records now label key count)
IsCaused command s t names now (Full file live) = IsFull command s t now file live
IsCaused command s t names now (NamesFull count) = AsksNames names command × (count ≡ most_names)
IsCaused command s t names now (PropsFull count) =
    AsksTooMany command s.records now × (count ≡ most_properties)
IsCaused command s t names now Memory = Unit {0}
IsCaused command s t names now Disk = Unit {0}
IsCaused command s t names now (Damaged damage) = Unit {0}

-- A record that is blamed is so in the space as it is left. Of a deletion that isn't said: a record
-- that it tells may be gone by then.
abbrev pub IsDamageAfter : Command → State → Damage → Type 0
IsDamageAfter (commands.Node label pairs) t damage = IsBroken t damage
IsDamageAfter (commands.Edge from label to pairs) t damage = IsBroken t damage
IsDamageAfter (commands.Set target key value) t damage = IsBroken t damage
IsDamageAfter (commands.Index label key) t damage = IsBroken t damage
IsDamageAfter _ t damage = Unit {0}

-- Why the command is refused, by the space as it is left alone.
pub record IsCausedAfter (command : Command) (t : State) (names now : List (List ℕ))
    (fault : ChangeFault) : Type 0 where
  pub caused : IsCaused command t t names now fault
  pub damaged : IfBlames (IsDamageAfter command t) fault
