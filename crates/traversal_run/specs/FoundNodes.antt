-- The nodes that an index finds, and the index that a query begins with.
use Rattle.std.specs.Prelude.{◌≡◌, ℕ, true, false, List}
use Rattle.plain_graph.specs.Graph.{Graph}
use Rattle.plain_graph.specs.Indexes.{has_index}
use Rattle.plain_graph.specs.Lines.{index_of_source}
use Rattle.plain_graph.specs.Refusals.{lacks_index}
use Rattle.plain_graph.specs.declared.query.Source.{Source}
use Rattle.plain_graph.specs.declared.query.Source.TheVariants as sources
use Rattle.plain_graph.specs.declared.refusal.Refusal.{Refusal}
use Rattle.plain_graph.specs.declared.refusal.Refusal.TheVariants as refusals
use Rattle.plain_graph.specs.declared.value.Value.{Value}
use Rattle.prop_index.specs.Looking.{AreNumbered, ReadsForEither, name_text}
use Rattle.prop_index.specs.declared.lookup_fault.LookupFault.{LookupFault}
use Rattle.prop_index.specs.declared.lookup_fault.LookupFault.TheVariants as faults
use Rattle.rec_bytes.specs.Space.{State}

-- ---- the nodes of a label whose key has a value

-- the graph has an index of the label and the key
abbrev pub HasIndex : Graph → List ℕ → List ℕ → Type 0
HasIndex graph label key = has_index graph label key ≡ true

-- In a store there is no such index where it is said so, and no record is damaged.
abbrev pub IsIndexRefusal : Graph → List ℕ → List ℕ → LookupFault → Type 0
IsIndexRefusal graph label key faults.NoIndex = has_index graph label key ≡ false
IsIndexRefusal graph label key faults.Memory = Unit {0}
IsIndexRefusal graph label key faults.Disk = Unit {0}
IsIndexRefusal graph label key (faults.Damaged damage) = ⊥

-- What a find reads: nothing where the label or the key is no name, and else no more than a lookup
-- of their numbers.
pub data ReadsForFind (label key : List ℕ) (value : Value) (old new : State) : Type 0 where
  NoName : new ≡ old → ReadsForFind label key value old new
  ByIndex : (l k : ℕ) → AreNumbered old.records l k → label ≡ name_text old.records l
      → key ≡ name_text old.records k → ReadsForEither l k value old new
      → ReadsForFind label key value old new

-- ---- what a query begins with

-- the graph lacks no index that the query begins with
abbrev pub HasIndexOf : Graph → Source → Type 0
HasIndexOf graph source = (why : Refusal) → ¬ lacks_index (index_of_source source) graph why

-- There is no index where it is said so.
abbrev pub IsSourceRefusal : Graph → Source → LookupFault → Type 0
IsSourceRefusal graph source faults.NoIndex =
    lacks_index (index_of_source source) graph refusals.NoIndex
IsSourceRefusal graph source faults.Memory = Unit {0}
IsSourceRefusal graph source faults.Disk = Unit {0}
IsSourceRefusal graph source (faults.Damaged damage) = Unit {0}

-- What is read before the first result: nothing, but for nodes that are found.
abbrev pub ReadsToBegin : Source → State → State → Type 0
ReadsToBegin (sources.Vertices ids) old new = new ≡ old
ReadsToBegin (sources.Edges ids) old new = new ≡ old
ReadsToBegin (sources.Found label key value) old new = ReadsForFind label key value old new
