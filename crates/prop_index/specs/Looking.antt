-- What a lookup answers and reads.
use Rattle.std.specs.Prelude.{◌⊎◌, ℕ, ◌+◌, ◌*◌, ◌<◌, Bool, ◌&&◌, List, Result, length, map}
use Rattle.std.specs.List.{filter}
use Rattle.std.specs.FinMap as maps
use Rattle.plain_graph.specs.Graph.{Graph, Node, node_number}
use Rattle.plain_graph.specs.Values.{is_text}
use Rattle.plain_graph.specs.declared.value.Value.{Value}
use Rattle.rec_bytes.specs.Cause.{HasDiskCause}
use Rattle.rec_bytes.specs.Format as format
use Rattle.rec_bytes.specs.Space.{State}
use Rattle.rec_bytes.specs.declared.shape.Shape.{Shape}
use Rattle.store_rules.specs.Breaking.{BreaksAny}
use Rattle.store_rules.specs.Chains.{In, IsWalk}
use Rattle.store_rules.specs.Graph.{graph_of}
use Rattle.store_rules.specs.Hashes.{bucket_of, hash_of}
use Rattle.store_rules.specs.Indexes.{first_definition, first_entry, has_value}
use Rattle.store_rules.specs.Indexes.{next_definition, next_entry, node_value}
use Rattle.store_rules.specs.Rows.{ids}
use Rattle.store_rules.specs.Views.{Records, high, rec_at, text_of}
use Rattle.prop_index.specs.Finding.{AreOfOthers, IsPair, LeadsToNone}
use Rattle.prop_index.specs.Gathering.{count_hashed}
use Rattle.prop_index.specs.declared.lookup_fault.LookupFault.{LookupFault}
use Rattle.prop_index.specs.declared.lookup_fault.LookupFault.TheVariants as lookups
use Rattle.prop_store.specs.Reading.{ReadsAtMost}
use Rattle.rec_bytes.specs.declared.fault.Fault.{Fault}
use Rattle.rec_bytes.specs.declared.fault.Fault.TheVariants as faults

-- the nodes of the label whose key has the value
abbrev pub found_in : Records → ℕ → ℕ → Value → List ℕ
found_in records label key value =
    ids (λ n. has_value value (node_value records label key n)) (high records format.nodes_file)

-- the node has the label, and a value of the key that compares equal to this one
abbrev pub has_labelled : List ℕ → List ℕ → Value → Node → Bool
has_labelled label key value node =
    is_text node.label label && has_value value (maps.get node.properties key)

-- the identifiers of such nodes, in the order of the graph
abbrev pub nodes_having : Graph → List ℕ → List ℕ → Value → List ℕ
nodes_having graph label key value =
    map node_number (filter (has_labelled label key value) graph.nodes)

abbrev pub name_text : Records → ℕ → List ℕ
name_text records number = text_of (rec_at records format.names_file number)

-- those of the graph of the records, by the numbers of the label's name and the key's
abbrev pub nodes_in : Records → ℕ → ℕ → Value → List ℕ
nodes_in records label key value =
    nodes_having (graph_of records) (name_text records label) (name_text records key) value

-- the numbers are those of names
pub record AreNumbered (records : Records) (label key : ℕ) : Type 0 where
  pub label_low : label < high records format.names_file
  pub key_low : key < high records format.names_file

-- no definition is of the label and the key
abbrev pub IsUnlisted : Records → ℕ → ℕ → Type 0
IsUnlisted records label key =
    (ds : List ℕ) → IsWalk (next_definition records) (first_definition records) ds
    → AreOfOthers records ds label key

-- The reads of a lookup for a pair that has an index: two, one for each definition, one for each
-- entry of the bucket, and 55 for each of these with the value's hash.
pub record ReadsForLookup (label key : ℕ) (value : Value) (old new : State) : Type 0 where
  pub definitions : List ℕ
  pub walk : IsWalk (next_definition old.records) (first_definition old.records) definitions
  pub definition : ℕ
  pub listed : In definition definitions
  pub pair : IsPair old.records label key definition
  pub entries : List ℕ
  pub bucket : IsWalk (next_entry old.records)
      (first_entry old.records definition (bucket_of (hash_of value))) entries
  pub reads : ReadsAtMost (2 + length definitions + length entries
      + 55 * count_hashed old.records (hash_of value) entries) old new

-- Those for a pair that has none: one, and one for each definition.
pub record ReadsForNone (label key : ℕ) (old new : State) : Type 0 where
  pub definitions : List ℕ
  pub walk : IsWalk (next_definition old.records) (first_definition old.records) definitions
  pub none : AreOfOthers old.records definitions label key
  pub reads : ReadsAtMost (1 + length definitions) old new

-- those of one or the other, by whether the pair has an index
abbrev pub ReadsForEither : ℕ → ℕ → Value → State → State → Type 0
ReadsForEither label key value old new =
    ReadsForLookup label key value old new ⊎ ReadsForNone label key old new

-- Those of a lookup that is refused: no more where memory or the disk fails.
abbrev pub ReadsForRefusal : ℕ → ℕ → Value → State → State → LookupFault → Type 0
ReadsForRefusal label key value old new lookups.NoIndex = ReadsForNone label key old new
ReadsForRefusal label key value old new lookups.Memory = ReadsForEither label key value old new
ReadsForRefusal label key value old new lookups.Disk = ReadsForEither label key value old new
ReadsForRefusal label key value old new (lookups.Damaged damage) =
    ReadsForEither label key value old new

-- a fault of records that are read as one of a lookup
abbrev pub of_fault : Fault → LookupFault
of_fault faults.Memory = lookups.Memory
of_fault faults.Disk = lookups.Disk
of_fault (faults.Damaged damage) = lookups.Damaged damage

-- In a store there is no index where it is said so, and no record is damaged.
abbrev pub IsRefusal : Records → ℕ → ℕ → LookupFault → Type 0
IsRefusal records label key lookups.NoIndex = IsUnlisted records label key
IsRefusal records label key lookups.Memory = Unit {0}
IsRefusal records label key lookups.Disk = Unit {0}
IsRefusal records label key (lookups.Damaged damage) = ⊥

-- Whatever the records are, there is no index where it is said so.
abbrev pub IsLookupCause : Records → ℕ → ℕ → LookupFault → Type 0
IsLookupCause records label key lookups.NoIndex = LeadsToNone records label key
IsLookupCause records label key lookups.Memory = Unit {0}
IsLookupCause records label key lookups.Disk = Unit {0}
IsLookupCause records label key (lookups.Damaged damage) = Unit {0}

-- the disk is blamed only where it failed
abbrev pub HasLookupCause : {T : Type 0} → ℕ → ℕ → Result T LookupFault → Type 0
HasLookupCause before now result = HasDiskCause lookups.Disk before now result

-- a record that is blamed breaks the rule
abbrev pub BlamesBroken : Records → Shape → LookupFault → Type 0
BlamesBroken records shape lookups.NoIndex = Unit {0}
BlamesBroken records shape lookups.Memory = Unit {0}
BlamesBroken records shape lookups.Disk = Unit {0}
BlamesBroken records shape (lookups.Damaged damage) = BreaksAny records shape damage
