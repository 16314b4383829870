-- The nodes of the entries of an index.
use Rattle.std.specs.Prelude.{◌≡◌, ◌⊎◌, ℕ, ◌<◌, Bool, true, false, Some, List, [], ◌∷◌, map}
use Rattle.std.specs.List.{All}
use Rattle.plain_graph.specs.declared.value.Value.{Value}
use Rattle.store_rules.specs.Chains.{In}
use Rattle.store_rules.specs.Indexes.{Entry, entry_hash, entry_node, node_value, wanted_in}
use Rattle.store_rules.specs.Properties.{AreOnce}
use Rattle.store_rules.specs.Views.{Records}
use Rattle.index_check.specs.declared.definitions.Definition.{Definition}
use Rattle.index_check.specs.declared.nodes.Entered.{Entered}
use Rattle.index_check.specs.declared.nodes.Entered.TheVariants.{Nodes, Unwanted}

-- what the record of an entry of this definition says
abbrev pub said_by : Records → Definition → ℕ → Entry
said_by records d x = record {
  label = d.label;
  key = d.key;
  node = entry_node records x;
  hash = entry_hash records x;
}

-- it is the entry's node, which has a value of the hash
pub record IsNodeOf (records : Records) (d : Definition) (x n : ℕ) : Type 0 where
  pub is : n ≡ entry_node records x
  pub wanted : wanted_in records (said_by records d x) ≡ true

-- these are the nodes of entries that are all wanted, or one of them isn't
abbrev pub AreNodesOf : Records → Definition → List ℕ → Entered → Type 0
AreNodesOf records d entries (Nodes v) =
    (v.items ≡ map (entry_node records) entries)
    × ((x : ℕ) → In x entries → wanted_in records (said_by records d x) ≡ true)
AreNodesOf records d entries (Unwanted x) =
    In x entries × (wanted_in records (said_by records d x) ≡ false)

abbrev pub AreNodesLow : ℕ → Entered → Type 0
AreNodesLow mark (Nodes v) = All (λ n. n < mark) v.items
AreNodesLow mark (Unwanted x) = Unit {0}

-- the number comes twice
abbrev pub IsTwice : ℕ → List ℕ → Type 0
IsTwice n [] = ⊥
IsTwice n (m ∷ ms) = ((n ≡ m) × In n ms) ⊎ IsTwice n ms

-- the node is of the label, and has a value of the key
pub record HasValue (records : Records) (d : Definition) (n : ℕ) : Type 0 where
  pub value : Value
  pub is : node_value records d.label d.key n ≡ Some value

-- besides, it wasn't met
pub record IsMissing (records : Records) (d : Definition) (n : ℕ) (met : Bool) : Type 0 where
  pub unmet : met ≡ false
  pub has : HasValue records d n

-- No node is twice among these, and each that has a value is one of them.
pub record AreNodesRight (records : Records) (d : Definition) (nodes : List ℕ) : Type 0 where
  pub once : AreOnce nodes
  pub all : (n : ℕ) → HasValue records d n → In n nodes

-- a node that is twice among these, or has a value and is none of them
pub data IsWrongNode (records : Records) (d : Definition) (nodes : List ℕ) (n : ℕ) : Type 0 where
  Twice : IsTwice n nodes → IsWrongNode records d nodes n
  Lacking : HasValue records d n → ¬ In n nodes → IsWrongNode records d nodes n
