-- Worked cases of indexes.
use Rattle.std.proofs.Common.{◌≡◌, ℕ, false, [], ◌∷◌, None, Some, refl, arith}
use Rattle.plain_graph.specs.Graph.{Graph}
use Rattle.plain_graph.specs.Indexes.{element_weight, has_index, index_records, indexed_count, scan, with_index}
use Rattle.plain_graph.specs.Meaning.{meaning}
use Rattle.plain_graph.specs.Properties.{Properties, no_properties, with_pairs}
use Rattle.plain_graph.specs.Refusals.{index_full}
use Rattle.plain_graph.specs.Values.{is_text}
use Rattle.plain_graph.specs.declared.command.Command.TheVariants as commands
use Rattle.plain_graph.specs.declared.command.Target.TheVariants as targets
use Rattle.plain_graph.specs.declared.item.Item.TheVariants as items
use Rattle.plain_graph.specs.declared.refusal.Refusal.TheVariants as refusals
use Rattle.plain_graph.specs.declared.value.Value.TheVariants as values
use Rattle.std.specs.Prelude.{pos}
use Rattle.std.specs.FinMap as maps
use Rattle.std.specs.FinMap.{get-empty, get-insert}
use Rattle.std.proofs.lemmas.Cmp.{nat_list_cmp_total}
use Rattle.std.specs.Cmp.Lexicographic.{slice_cmp}
use Rattle.std.specs.Ordering.{nat_cmp}

-- x, with a number
abbrev x_is : ℕ → Properties
x_is n = with_pairs no_properties (record { key = 120 ∷ []; value = values.Int (pos n) } ∷ [])

has_x : (n : ℕ) → maps.get (x_is n) (120 ∷ []) ≡ Some (values.Int (pos n))
has_x n = get-insert nat_list_cmp_total maps.empty (120 ∷ []) (values.Int (pos n)) (120 ∷ [])

has_none : maps.get no_properties (120 ∷ []) ≡ None
has_none = get-empty (slice_cmp nat_cmp) (120 ∷ [])

-- two nodes `p` with x, one without, a node `q` with x, and an index of `p` by x
abbrev four_nodes : Graph
four_nodes = record {
  nodes = record { id = 0; label = 112 ∷ []; properties = x_is 1 } ∷ record { id = 1; label = 112 ∷ []; properties = x_is 2 } ∷ record
      { id = 2; label = 112 ∷ []; properties = no_properties }
      ∷ record { id = 3; label = 113 ∷ []; properties = x_is 2 } ∷ [];
  edges = [];
  names = (112 ∷ []) ∷ (120 ∷ []) ∷ (113 ∷ []) ∷ [];
  indexes = record { label = 112 ∷ []; key = 120 ∷ [] } ∷ [];
}

-- the nodes that are found are those of the label with the value
found : meaning four_nodes (scan (112 ∷ []) (120 ∷ []) (values.Int (pos 2))) ≡ items.Vertex 1 ∷ []
found = simp (has_x 1, has_x 2, has_none) refl

-- an index has the nodes with the key, whatever its value
counted : indexed_count four_nodes (112 ∷ []) (120 ∷ []) ≡ 2
counted = simp (has_x 1, has_x 2, has_none) refl

records_counted : index_records four_nodes ≡ 15
records_counted = simp (has_x 1, has_x 2, has_none) refl

no_other_index : has_index four_nodes (112 ∷ []) (121 ∷ []) ≡ false
no_other_index = refl

-- a value that replaces one takes an entry out and adds one; the first value of a key adds one
replaced_weighs : element_weight four_nodes (targets.Node 0) (is_text (120 ∷ [])) (x_is 2) ≡ 6
replaced_weighs = simp (has_x 1, has_x 2) refl

first_weighs : element_weight four_nodes (targets.Node 2) (is_text (120 ∷ [])) (x_is 2) ≡ 3
first_weighs = simp (has_x 2, has_none) refl

-- another key, another label and an edge touch no entry
other_key_weighs : element_weight four_nodes (targets.Node 0) (is_text (121 ∷ [])) (x_is 1) ≡ 0
other_key_weighs = refl

other_label_weighs : element_weight four_nodes (targets.Node 3) (is_text (120 ∷ [])) (x_is 1) ≡ 0
other_label_weighs = refl

edge_weighs : element_weight four_nodes (targets.Edge 0) (is_text (120 ∷ [])) (x_is 1) ≡ 0
edge_weighs = refl

-- of two indexes of one label the one whose key was named first stands first
in_place : with_index ((97 ∷ []) ∷ (120 ∷ []) ∷ (121 ∷ []) ∷ []) (record { label = 97 ∷ []; key = 120 ∷ [] }) (record { label = 97 ∷ []; key = 121 ∷ [] } ∷ [])
    ≡ record { label = 97 ∷ []; key = 120 ∷ [] } ∷ record { label = 97 ∷ []; key = 121 ∷ [] } ∷ []
in_place = refl

-- Where 28 records fit, an index of one node is one too many beside one of two.
full : index_full 14 four_nodes (commands.Index (113 ∷ []) (120 ∷ [])) refusals.FullIndex
full = let records = records_counted in let count : indexed_count four_nodes (113 ∷ []) (120 ∷ []) ≡ 1 = simp (has_x 2) refl in
    (omega (arith, records, count), refl)
