-- The indexes of a graph: which nodes each has, what they find, and how many records they take.
use Rattle.std.specs.Prelude.{◌≡◌, ℕ, suc, ◌+◌, nat_lt, Bool, false, ◌&&◌, ◌||◌, cond}
use Rattle.std.specs.Prelude.{if◌then◌else◌, Option, None, Some, is_some, find, nat_eq, List, []}
use Rattle.std.specs.Prelude.{◌∷◌, length}
use Rattle.std.specs.List.{filter, list_any, sum_by}
use Rattle.std.specs.FinMap as maps
use Rattle.plain_graph.specs.Graph.{Graph, Index, Node, UsesNames, node_number}
use Rattle.plain_graph.specs.Properties.{Properties}
use Rattle.plain_graph.specs.Values.{is_text}
use Rattle.plain_graph.specs.declared.command.Target.{Target}
use Rattle.plain_graph.specs.declared.command.Target.TheVariants as targets
use Rattle.plain_graph.specs.declared.filter.Filter.TheVariants as filters
use Rattle.plain_graph.specs.declared.filter.Relation.TheVariants as relations
use Rattle.plain_graph.specs.declared.query.Query.{Query}
use Rattle.plain_graph.specs.declared.query.Source.TheVariants as sources
use Rattle.plain_graph.specs.declared.query.Step.TheVariants as steps
use Rattle.plain_graph.specs.declared.value.Value.{Value}

-- ---- the list of indexes

-- how many indexes a store may have, and how many nodes an index has at most when it is made
abbrev pub most_indexes : ℕ
most_indexes = 16

abbrev pub most_indexed : ℕ
most_indexed = 1024

-- the index is of this label and key
abbrev pub is_of : List ℕ → List ℕ → Index → Bool
is_of label key index = is_text index.label label && is_text index.key key

abbrev pub has_index : Graph → List ℕ → List ℕ → Bool
has_index graph label key = list_any (is_of label key) graph.indexes

-- the place of a name among the names
abbrev pub place_in : List (List ℕ) → List ℕ → ℕ
place_in [] name = 0
place_in (first ∷ later) name = if is_text first name then 0 else suc (place_in later name)

-- An index stands before another one by the place of its label among the names, and of two of one
-- label by that of its key.
abbrev pub is_before : List (List ℕ) → Index → Index → Bool
is_before names a b =
    nat_lt (place_in names a.label) (place_in names b.label)
    || (is_text a.label b.label && nat_lt (place_in names a.key) (place_in names b.key))

-- the indexes with one more, at its place
abbrev pub with_index : List (List ℕ) → Index → List Index → List Index
with_index names index [] = index ∷ []
with_index names index (first ∷ later) =
    cond (is_before names index first) (index ∷ first ∷ later)
    (first ∷ with_index names index later)

-- The new graph has one more index. Nodes and edges stay.
pub record AddsIndex (old : Graph) (label key : List ℕ) (new : Graph) : Type 0 where
  pub fresh : has_index old label key ≡ false
  pub nodes : new.nodes ≡ old.nodes
  pub edges : new.edges ≡ old.edges
  pub names : UsesNames old.names (label ∷ key ∷ []) new.names
  pub indexes : new.indexes
      ≡ with_index new.names (record { label = label; key = key }) old.indexes

-- ---- the nodes of an index

abbrev pub has_key : Properties → List ℕ → Bool
has_key properties key = is_some (maps.get properties key)

-- the nodes of the index's label that have its key
abbrev pub indexed_nodes : Graph → Index → List Node
indexed_nodes graph index =
    filter (λ (node : Node). is_text index.label node.label && has_key node.properties index.key)
    graph.nodes

abbrev pub indexed_count : Graph → List ℕ → List ℕ → ℕ
indexed_count graph label key =
    length (indexed_nodes graph (record { label = label; key = key }))

-- how many records the indexes take: 13 for each, and one for each node in it
abbrev pub index_records : Graph → ℕ
index_records graph =
    sum_by (λ (index : Index). 13 + length (indexed_nodes graph index)) graph.indexes

-- in how many indexes a node of this label with these properties is
abbrev pub entry_count : Graph → List ℕ → Properties → ℕ
entry_count graph label properties =
    length (filter (λ (index : Index). is_text index.label label && has_key properties index.key)
    graph.indexes)

-- the query that reads all nodes, and gives those of the label whose key has the value
abbrev pub scan : List ℕ → List ℕ → Value → Query
scan label key value = record {
  source = sources.Vertices [];
  steps = steps.Filter (filters.HasLabel (label ∷ []))
      ∷ steps.Filter (filters.HasValue key relations.Eq value) ∷ [];
  maps = None;
}

-- ---- what a change of properties weighs for the indexes

-- what an entry weighs where there is one
abbrev pub entry_weight : Properties → List ℕ → ℕ
entry_weight properties key = if has_key properties key then 3 else 0

-- For each index of the label whose key is touched: the entry of what the node had before, and that
-- of what it has then.
abbrev pub entries_weight : Graph → List ℕ → (List ℕ → Bool) → Properties → Properties → ℕ
entries_weight graph label is_touched before after =
    sum_by (λ (index : Index). if is_text index.label label && is_touched index.key
    then entry_weight before index.key + entry_weight after index.key else 0)
    graph.indexes

-- the same for a node, where it is there
abbrev pub node_weight : Graph → Option Node → (List ℕ → Bool) → Properties → ℕ
node_weight graph None is_touched after = 0
node_weight graph (Some node) is_touched after =
    entries_weight graph node.label is_touched node.properties after

-- and for an element: edges are in no index
abbrev pub element_weight : Graph → Target → (List ℕ → Bool) → Properties → ℕ
element_weight graph (targets.Node id) is_touched after =
    node_weight graph (find (λ node. nat_eq (node_number node) id) graph.nodes) is_touched after
element_weight graph (targets.Edge id) is_touched after = 0
