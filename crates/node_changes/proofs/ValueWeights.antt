-- What a change of one key at one node weighs for the indexes, by the numbers of the records.
use Rattle.std.specs.FinMap as maps
use Rattle.std.specs.Prelude.{is_some}
use Rattle.std.specs.List.{sum_by}
use Rattle.std.proofs.Common.{◌≡◌, ◌≢◌, ℕ, ◌+◌, ◌<◌, nat_eq, Bool, true, false, ◌&&◌, if◌then◌else◌, cond, Option, None}
use Rattle.std.proofs.Common.{Some, List, [], ◌∷◌, find, ap, sym, ◌∙◌, arith, refl}
use Rattle.std.proofs.lemmas.List.Sums.{sum_by-cons}
use Rattle.plain_graph.specs.Graph.{Graph, Index, Node, node_number, node_properties, properties_at}
use Rattle.plain_graph.specs.Indexes.{element_weight, entries_weight, entry_weight, node_weight}
use Rattle.plain_graph.specs.Properties.{Properties}
use Rattle.plain_graph.specs.Values.{is_text}
use Rattle.plain_graph.specs.declared.command.Target.{Target}
use Rattle.plain_graph.specs.declared.command.Target.TheVariants as targets
use Rattle.plain_graph.proofs.PropertyLaws.{same_key}
use Rattle.rec_bytes.specs.declared.shape.Shape.{Shape}
use Rattle.rec_bytes.specs.Format as format
use Rattle.rec_bytes.specs.Record.{field}
use Rattle.store_rules.specs.Graph.{graph_of, node_from, node_of}
use Rattle.store_rules.specs.Indexes.{AreIndexed, Entries}
use Rattle.store_rules.specs.Properties.{property_records}
use Rattle.store_rules.specs.Rules.{IsWellFormed}
use Rattle.store_rules.specs.Views.{Records, high, kind_at, node_in, rec_at}
use Rattle.store_rules.proofs.NodeChange.{nodes_numbered}
use Rattle.store_rules.proofs.RowChange.{find_collect}
use Rattle.store_rules.proofs.ViewLaws.{kind_below, row_some}
use Rattle.change_parts.proofs.GraphPairs.{is_among, text}
use Rattle.node_changes.proofs.PairWeights.{pair_weight}

-- ---- a key that the element has neither before nor after

none_weighs : (f : Index → ℕ) (xs : List Index) → ((x : Index) → f x ≡ 0) → sum_by f xs ≡ 0
none_weighs f [] none = refl
none_weighs f (x ∷ xs) none = let here = none x in let later = none_weighs f xs none in let all = sum_by-cons f x xs in omega (arith, here, later, all)

module _ (g : Graph) (key : List ℕ) (after : Properties) (gone : maps.get after key ≡ None) where
  lacked_entries : (label : List ℕ) (before : Properties) → maps.get before key ≡ None → entries_weight g label (is_text key) before after ≡ 0
  lacked_entries label before none = none_weighs _ g.indexes (λ index. by index (is_text index.label label) (is_text key index.key) refl)
    where
      by : (index : Index) (a b : Bool) → is_text key index.key ≡ b → (if a && b then entry_weight before index.key + entry_weight after index.key else 0) ≡ 0
      by index false b is = refl
      by index true false is = refl
      by index true true is =
          let k = same_key key index.key is in
          let one : entry_weight before index.key ≡ 0 = ap (entry_weight before) (sym k) ∙ ap (λ o. if is_some o then 3 else 0) none in
          let two : entry_weight after index.key ≡ 0 = ap (entry_weight after) (sym k) ∙ ap (λ o. if is_some o then 3 else 0) gone in
          omega (arith, one, two)

  lacked_node : (o : Option Node) → maps.get (node_properties o) key ≡ None → node_weight g o (is_text key) after ≡ 0
  lacked_node None none = refl
  lacked_node (Some node) none = lacked_entries node.label node.properties none

  pub lacked_weighs : (target : Target) → maps.get (properties_at g target) key ≡ None → element_weight g target (is_text key) after ≡ 0
  lacked_weighs (targets.Node id) none = lacked_node (find (λ node. nat_eq (node_number node) id) g.nodes) none
  lacked_weighs (targets.Edge id) none = refl

-- ---- a node

module _ (s : Records) (id : ℕ) (used : kind_at s format.nodes_file id ≢ format.free_kind) where
  -- its label, by its number
  abbrev pub label_number : ℕ
  label_number = field 4 (rec_at s format.nodes_file id) format.node_label

  pub node_is : find (λ node. nat_eq (node_number node) id) (graph_of s).nodes ≡ node_from (rec_at s format.names_file) (property_records s)
      (Some (node_in (rec_at s format.nodes_file id) id))
  node_is =
      find_collect node_number (node_of s) (high s format.nodes_file) id (nodes_numbered s)
      (kind_below (high s format.nodes_file) (rec_at s format.nodes_file id) id used)
      ∙ ap (node_from (rec_at s format.names_file) (property_records s))
      (row_some (kind_at s format.nodes_file id) (node_in (rec_at s format.nodes_file id) id) used)

  pub node_weighs : (is_touched : List ℕ → Bool) (after : Properties) → element_weight (graph_of s) (targets.Node id) is_touched after ≡ entries_weight
      (graph_of s) (text s label_number) is_touched (properties_at (graph_of s) (targets.Node id)) after
  node_weighs is_touched after =
      ap (λ o. node_weight (graph_of s) o is_touched after) node_is
      ∙ ap (λ p. entries_weight (graph_of s) (text s label_number) is_touched p after) (sym (ap node_properties node_is))

  module _ (shape : Shape) (store : IsWellFormed s shape) (wanted : Entries) (ix : AreIndexed s wanted) (key : ℕ) (key_low : key < high s format.names_file)
    where
      label_low : label_number < high s format.names_file
      label_low = store.named.nodes_named id (node_in (rec_at s format.nodes_file id) id)
          (row_some (kind_at s format.nodes_file id) (node_in (rec_at s format.nodes_file id) id) used)

      -- A change of the key weighs what it does where the pair has an index, and else nothing.
      pub key_weighs : (after : Properties) → element_weight (graph_of s) (targets.Node id) (is_text (text s key)) after
          ≡ cond (is_among s ix.definitions label_number key) (entry_weight (properties_at (graph_of s) (targets.Node id)) (text s key) + entry_weight after
          (text s key)) 0
      key_weighs after =
          node_weighs (is_text (text s key)) after
          ∙ pair_weight s shape store wanted ix label_number key label_low key_low
          (λ k. entry_weight (properties_at (graph_of s) (targets.Node id)) k + entry_weight after k)
