-- What all entries of a node weigh, by the numbers of the records.
use Rattle.std.specs.FinMap as maps
use Rattle.std.specs.Prelude.{is_some}
use Rattle.std.specs.List.{filter, sum_by}
use Rattle.std.proofs.Common.{◌≡◌, ℕ, suc, ◌+◌, ◌*◌, ◌<◌, nat_eq, Bool, true, false, ◌&&◌, if◌then◌else◌, cond, None}
use Rattle.std.proofs.Common.{List, [], ◌∷◌, length, map, ap, sym, ◌∙◌, arith, refl}
use Rattle.std.proofs.lemmas.List.Sums.{sum_by-cons}
use Rattle.plain_graph.specs.Graph.{Index, properties_at}
use Rattle.plain_graph.specs.Indexes.{element_weight, entry_weight}
use Rattle.plain_graph.specs.Properties.{no_properties}
use Rattle.plain_graph.specs.Values.{is_text}
use Rattle.plain_graph.proofs.PropertyLaws.{order}
use Rattle.plain_graph.specs.declared.command.Target.TheVariants as targets
use Rattle.rec_bytes.specs.Format as format
use Rattle.rec_bytes.specs.Space.{State}
use Rattle.store_rules.specs.Chains.{In}
use Rattle.store_rules.specs.Graph.{graph_of}
use Rattle.store_rules.specs.Indexes.{IsIndexed, indexed_key, indexed_label, node_value, row_value, value_in, wanted_in}
use Rattle.store_rules.specs.Views.{Records, high, kind_at, node_in, rec_at}
use Rattle.store_rules.proofs.PropertyLists.{properties_read}
use Rattle.store_rules.specs.Properties.{property_records}
use Rattle.store_rules.proofs.NumberLaws.{eq_true}
use Rattle.store_rules.proofs.ViewLaws.{row_some}
use Rattle.prop_index.specs.Listing.{pair_of}
use Rattle.prop_store.specs.Changing.{HasElement}
use Rattle.prop_store.specs.Owner.{IsOwner}
use Rattle.prop_store.proofs.ElementGraphs.{listed_at, owns_listed}
use Rattle.node_changes.specs.Entries.{is_held}
use Rattle.change_parts.specs.Owners.{owner_of}
use Rattle.change_parts.proofs.GraphPairs.{apart, of_definition, sum_indexes, text}
use Rattle.node_changes.proofs.HeldWeights.{value_known}
use Rattle.node_changes.proofs.PairWeights.{sum_same, text_test}
use Rattle.change_parts.proofs.PairsPut.{label_at}
use Rattle.node_changes.proofs.ValueWeights.{node_weighs}

-- an element without properties has no key
pub no_key : (k : List ℕ) → is_some (maps.get no_properties k) ≡ false
no_key k = ap is_some (maps.get-empty order k)

-- three for each that passes a test
pub threes : (test : ℕ → Bool) (xs : List ℕ) → sum_by (λ x. if test x then 3 else 0) xs ≡ 3 * length (filter test xs)
threes test [] = refl
threes test (x ∷ xs) = by (test x) (threes test xs) (sum_by-cons (λ x. if test x then 3 else 0) x xs)
  where
    by : (b : Bool) → sum_by (λ x. if test x then 3 else 0) xs ≡ 3 * length (filter test xs)
        → sum_by (λ x. if test x then 3 else 0) (x ∷ xs) ≡ (if b then 3 else 0) + sum_by (λ x. if test x then 3 else 0) xs
        → sum_by (λ x. if test x then 3 else 0) (x ∷ xs) ≡ 3 * length (cond b (x ∷ filter test xs) (filter test xs))
    by true rest all = omega (arith, rest, all)
    by false rest all = omega (arith, rest, all)

module _ (s : State) (id : ℕ) (store : IsIndexed s.records s.shape) (owned : IsOwner (owner_of (targets.Node id)))
    (has : HasElement s (owner_of (targets.Node id))) where
  abbrev label : ℕ
  label = label_at s.records id

  abbrev row_first : ℕ
  row_first = (node_in (rec_at s.records format.nodes_file id) id).property

  -- a value of the node by the records is one of its properties
  pub value_listed : (l k : ℕ) → node_value s.records l k id ≡ cond (nat_eq label l) (value_in (listed_at s (owner_of (targets.Node id)) owned has) k) None
  value_listed l k =
      ap (λ o. row_value (property_records s.records) l k o) (row_some (kind_at s.records format.nodes_file id) (node_in (rec_at s.records format.nodes_file id)
      id) has.used)
      ∙ ap (λ ps. cond (nat_eq label l) (value_in ps k) None) (properties_read (property_records s.records) row_first (listed_at s (owner_of (targets.Node id))
      owned has) (owns_listed s (owner_of (targets.Node id)) owned has).held.are)

  -- it has the key in the graph where it has it in the records
  pub key_held : (k : ℕ) → k < high s.records format.names_file → is_some
      (maps.get (properties_at (graph_of s.records) (targets.Node id)) (text s.records k)) ≡ is_some (node_value s.records label k id)
  key_held k low = value_known s (owner_of (targets.Node id)) owned has k low
      ∙ sym (ap is_some (value_listed label k ∙ ap (λ b. cond b (value_in (listed_at s (owner_of (targets.Node id)) owned has) k) None)
      (eq_true label label refl)))

  -- the node is in the index of a definition
  abbrev pub is_in : ℕ → Bool
  is_in d = nat_eq (indexed_label s.records d) label && is_some (node_value s.records label (indexed_key s.records d) id)

  abbrev weigh : Index → ℕ
  weigh index = if is_text index.label (text s.records label) && true then entry_weight (properties_at (graph_of s.records) (targets.Node id))
      index.key + entry_weight no_properties index.key else 0

  one_in : (d : ℕ) → In d store.indexes.definitions → of_definition s.records weigh d ≡ (if is_in d then 3 else 0)
  one_in d i =
      let low = (apart s.records store.store.defined (wanted_in s.records) store.indexes).named d i in
      rw (
        text_test (rec_at s.records format.names_file) (high s.records format.names_file) store.store.names (indexed_label s.records d) label low.0 label_low,
        key_held (indexed_key s.records d) low.1,
        no_key (text s.records (indexed_key s.records d)),
      )
      (by (nat_eq (indexed_label s.records d) label) (is_some (node_value s.records label (indexed_key s.records d) id)))
    where
      label_low : label < high s.records format.names_file
      label_low = store.store.named.nodes_named id (node_in (rec_at s.records format.nodes_file id) id)
          (row_some (kind_at s.records format.nodes_file id) (node_in (rec_at s.records format.nodes_file id) id) has.used)

      by : (a b : Bool) → (if a && true then (if b then 3 else 0) + 0 else 0) ≡ (if a && b then 3 else 0)
      by true true = refl
      by true false = refl
      by false b = refl

  -- Its entries weigh three for each definition that it is in the index of.
  pub node_entries : element_weight (graph_of s.records) (targets.Node id) (λ key. true) no_properties ≡ 3 * length (filter is_in store.indexes.definitions)
  node_entries =
      node_weighs s.records id has.used (λ key. true) no_properties
      ∙ sum_indexes s.records store.store.defined (wanted_in s.records) store.indexes weigh
      ∙ sum_same (of_definition s.records weigh) (λ d. if is_in d then 3 else 0) store.indexes.definitions one_in
      ∙ threes is_in store.indexes.definitions

-- the pairs of the definitions whose index the node is in
pub held_same : (s : Records) (l id : ℕ) (ds : List ℕ) → length (filter (is_held s l id) (map (pair_of s) ds)) ≡ length
    (filter (λ d. nat_eq (indexed_label s d) l && is_some (node_value s l (indexed_key s d) id)) ds)
held_same s l id [] = refl
held_same s l id (d ∷ ds) = by (is_held s l id (pair_of s d)) (held_same s l id ds)
  where
    by : (b : Bool) → length (filter (is_held s l id) (map (pair_of s) ds)) ≡ length
        (filter (λ d. nat_eq (indexed_label s d) l && is_some (node_value s l (indexed_key s d) id)) ds)
        → length (cond b (pair_of s d ∷ filter (is_held s l id) (map (pair_of s) ds)) (filter (is_held s l id) (map (pair_of s) ds)))
        ≡ length (cond b (d ∷ filter (λ d. nat_eq (indexed_label s d) l && is_some (node_value s l (indexed_key s d) id)) ds)
        (filter (λ d. nat_eq (indexed_label s d) l && is_some (node_value s l (indexed_key s d) id)) ds))
    by true rest = ap suc rest
    by false rest = rest
