-- The live records of the file of the indexes are as many as the indexes of the graph take.
use Rattle.std.specs.FinMap as maps
use Rattle.std.specs.Prelude.{is_some}
use Rattle.std.specs.List.{sum_by}
use Rattle.std.proofs.Common.{◌≡◌, ◌≢◌, ◌⊎◌, inl, inr, ℕ, ◌+◌, ◌*◌, ◌<◌, ◌≤◌, nat_eq, Bool, true, false, ◌&&◌, cond}
use Rattle.std.proofs.Common.{Option, None, Some, List, [], ◌∷◌, length, map, ap, sym, ◌∙◌, subst, arith, refl}
use Rattle.std.proofs.lemmas.Bool.{false≢true}
use Rattle.std.proofs.lemmas.List.{length-map}
use Rattle.std.proofs.lemmas.List.Concat.{length-flat_map}
use Rattle.std.proofs.lemmas.List.Sums.{sum_by-cons}
use Rattle.plain_graph.specs.Graph.{Index, Node, node_properties}
use Rattle.plain_graph.specs.Indexes.{has_key, index_records, indexed_nodes}
use Rattle.plain_graph.specs.Values.{is_text}
use Rattle.plain_graph.specs.declared.command.Target.TheVariants as targets
use Rattle.plain_graph.specs.declared.value.Value.{Value}
use Rattle.rec_bytes.specs.Format as format
use Rattle.rec_bytes.specs.RecordFiles.{room_of}
use Rattle.rec_bytes.specs.Space.{State, meta_of}
use Rattle.store_rules.specs.Chains.{In}
use Rattle.store_rules.specs.Graph.{graph_of, node_from, node_of}
use Rattle.store_rules.specs.Hashes.{bucket_of, hash_of}
use Rattle.store_rules.specs.Indexes.{AreIndexed, Entry, IsIndexed, entry_hash, entry_node, has_hash, indexed_key}
use Rattle.store_rules.specs.Indexes.{indexed_label, node_value, row_value, value_in, wanted_in}
use Rattle.store_rules.specs.Properties.{property_records}
use Rattle.store_rules.specs.Rows.{ids}
use Rattle.store_rules.specs.Rules.{IsWellFormed}
use Rattle.store_rules.specs.Views.{NodeRow, Records, high, is_live, kind_at, node_at, node_in, rec_at}
use Rattle.store_rules.proofs.Counts.{ids_in, in_ids, length-filter, length-ids, once_ids, row_passes}
use Rattle.store_rules.proofs.NumberLaws.{eq_false, eq_true, nat_cases}
use Rattle.store_rules.proofs.OnceLaws.{flat_map_in, in_flat_map, length_same, map_in, once_map}
use Rattle.store_rules.proofs.ViewLaws.{kind_below, row_none, row_some, some_row}
use Rattle.prop_index.proofs.IndexCounts.{down, down_in, entries_of, entries_once, in_down, index_count}
use Rattle.prop_store.specs.Changing.{HasElement}
use Rattle.prop_store.specs.Owner.{IsOwner}
use Rattle.prop_store.proofs.ElementGraphs.{listed_at}
use Rattle.store_rules.proofs.Shapes.{high_most}
use Rattle.change_parts.specs.Owners.{owner_of}
use Rattle.change_parts.proofs.GraphPairs.{apart, index_at, of_definition, same_number, sum_indexes, text}
use Rattle.node_changes.proofs.HeldWeights.{value_known}
use Rattle.node_changes.proofs.NodeWeights.{value_listed}
use Rattle.node_changes.proofs.ValueWeights.{node_is}
use Rattle.node_changes.proofs.PairWeights.{sum_same, text_test}
use Rattle.change_parts.proofs.PairsPut.{label_at, owner_is}

image_in : (f : ℕ → ℕ) (x : ℕ) (ps : List ℕ) → In x ps → In (f x) (map f ps)
image_in f x [] i = elim i [ ]
image_in f x (y ∷ ps) (inl e) = inl (ap f e)
image_in f x (y ∷ ps) (inr i) = inr (image_in f x ps i)

-- a node with a value is one that was given out
value_low : (s : Records) (label key n : ℕ) → is_some (node_value s label key n) ≡ true → n < high s format.nodes_file
value_low s label key n has = by (node_at s n) refl
  where
    by : (o : Option NodeRow) → node_at s n ≡ o → n < high s format.nodes_file
    by (Some row) is = kind_below (high s format.nodes_file) (rec_at s format.nodes_file n) n
        (some_row (kind_at s format.nodes_file n) (node_in (rec_at s format.nodes_file n) n) row is).0
    by None is = absurd (false≢true (sym (ap (λ o. is_some (row_value (property_records s) label key o)) is) ∙ has))

hash_some : (hash : ℕ) (o : Option Value) → has_hash hash o ≡ true → is_some o ≡ true
hash_some hash None e = absurd (false≢true e)
hash_some hash (Some v) e = refl

hash_is : (hash : ℕ) (v : Value) → has_hash hash (Some v) ≡ true → hash_of v ≡ hash
hash_is hash v e = same_number (hash_of v) hash e

-- two entries of one value have one hash
one_hash : (a b : ℕ) (o : Option Value) → has_hash a o ≡ true → has_hash b o ≡ true → a ≡ b
one_hash a b None p q = absurd (false≢true p)
one_hash a b (Some v) p q = sym (hash_is a v p) ∙ hash_is b v q

-- the identifier of a node in use is one that a key may have
pub node_owned : (s : State) → IsWellFormed s.records s.shape → (n : ℕ) → kind_at s.records format.nodes_file n ≢ format.free_kind
    → IsOwner (owner_of (targets.Node n))
node_owned s store n used =
    let lt = kind_below (high s.records format.nodes_file) (rec_at s.records format.nodes_file n) n used in
    let most = high_most s.records s.shape format.nodes_file store.ranges refl in
    owner_is (targets.Node n) (record { file = refl; id = omega (arith, lt, most) })

-- a node in use is of the index by the graph where it has a value by the records
module _ (s : State) (store : IsIndexed s.records s.shape) (l k : ℕ) (l_low : l < high s.records format.names_file)
    (k_low : k < high s.records format.names_file) (n : ℕ) (used : kind_at s.records format.nodes_file n ≢ format.free_kind) where
  has : HasElement s (owner_of (targets.Node n))
  has = record { store = store.store; used = used }

  owned : IsOwner (owner_of (targets.Node n))
  owned = node_owned s store.store n used

  pass_used : row_passes (λ (node : Node). is_text (text s.records l) node.label && has_key node.properties (text s.records k)) (node_of s.records n) ≡ is_some
      (node_value s.records l k n)
  pass_used =
      ap (λ o. row_passes (λ (node : Node). is_text (text s.records l) node.label && has_key node.properties (text s.records k))
      (node_from (rec_at s.records format.names_file) (property_records s.records) o)) row
      ∙ (λ i. text_test (rec_at s.records format.names_file) (high s.records format.names_file) store.store.names l (label_at s.records n) l_low label_low i &&
      is_some (maps.get (ap node_properties (sym (node_is s.records n used)) i) (text s.records k)))
      ∙ ap (λ b. nat_eq l (label_at s.records n) && b) (value_known s (owner_of (targets.Node n)) owned has k k_low)
      ∙ by (nat_cases l (label_at s.records n))
    where
      row : node_at s.records n ≡ Some (node_in (rec_at s.records format.nodes_file n) n)
      row = row_some (kind_at s.records format.nodes_file n) (node_in (rec_at s.records format.nodes_file n) n) used

      label_low : label_at s.records n < high s.records format.names_file
      label_low = store.store.named.nodes_named n (node_in (rec_at s.records format.nodes_file n) n) row

      by : (l ≡ label_at s.records n) ⊎ (l ≢ label_at s.records n) → (nat_eq l (label_at s.records n) && is_some
          (value_in (listed_at s (owner_of (targets.Node n)) owned has) k)) ≡ is_some (node_value s.records l k n)
      by (inl e) = ap (λ b. b && is_some (value_in (listed_at s (owner_of (targets.Node n)) owned has) k)) (eq_true l (label_at s.records n) e)
          ∙ sym (ap is_some (value_listed s n store owned has l k) ∙ ap (λ b. is_some (cond b (value_in (listed_at s (owner_of (targets.Node n)) owned has) k)
          None)) (eq_true (label_at s.records n) l (sym e)))
      by (inr ne) = ap (λ b. b && is_some (value_in (listed_at s (owner_of (targets.Node n)) owned has) k)) (eq_false l (label_at s.records n) ne)
          ∙ sym (ap is_some (value_listed s n store owned has l k) ∙ ap (λ b. is_some (cond b (value_in (listed_at s (owner_of (targets.Node n)) owned has) k)
          None)) (eq_false (label_at s.records n) l (λ e. ne (sym e))))

-- and so is each node, or none
module _ (s : State) (store : IsIndexed s.records s.shape) (l k : ℕ) (l_low : l < high s.records format.names_file)
    (k_low : k < high s.records format.names_file) where
  abbrev is_node_of : Node → Bool
  is_node_of node = is_text (text s.records l) node.label && has_key node.properties (text s.records k)

  pub node_passes : (n : ℕ) → row_passes is_node_of (node_of s.records n) ≡ is_some (node_value s.records l k n)
  node_passes n = by (nat_eq (kind_at s.records format.nodes_file n) 0) refl
    where
      by : (b : Bool) → nat_eq (kind_at s.records format.nodes_file n) 0 ≡ b
          → row_passes is_node_of (node_of s.records n) ≡ is_some (node_value s.records l k n)
      by true free =
          let none = row_none (kind_at s.records format.nodes_file n) (node_in (rec_at s.records format.nodes_file n) n)
          (same_number (kind_at s.records format.nodes_file n) 0 free) in
          ap (λ o. row_passes is_node_of (node_from (rec_at s.records format.names_file) (property_records s.records) o)) none
          ∙ sym (ap (λ o. is_some (row_value (property_records s.records) l k o)) none)
      by false live = pass_used s store l k l_low k_low n (λ e. false≢true (sym live ∙ eq_true (kind_at s.records format.nodes_file n) 0 e))

  -- as many as have a value by the records
  pub count_passes : length (indexed_nodes (graph_of s.records) (index_at s.records l k)) ≡ length
      (ids (λ n. is_some (node_value s.records l k n)) (high s.records format.nodes_file))
  count_passes = length-filter Node (node_of s.records) is_node_of (λ n. is_some (node_value s.records l k n)) (high s.records format.nodes_file) node_passes

module _ (s : State) (store : IsIndexed s.records s.shape) where
  abbrev ix : AreIndexed s.records (wanted_in s.records)
  ix = store.indexes

  abbrev entries : ℕ → List ℕ
  entries d = entries_of s.records (wanted_in s.records) ix d

  abbrev holds : ℕ → ℕ → Bool
  holds d n = is_some (node_value s.records (indexed_label s.records d) (indexed_key s.records d) n)

  abbrev held : ℕ → List ℕ
  held d = ids (holds d) (high s.records format.nodes_file)

  -- ---- one index: an entry for each node that has a value

  module _ (d : ℕ) (i : In d ix.definitions) where
    wanted : (x : ℕ) → In x (entries d) → has_hash (entry_hash s.records x)
        (node_value s.records (indexed_label s.records d) (indexed_key s.records d) (entry_node s.records x)) ≡ true
    wanted x m = let r = flat_map_in (ix.lists d) x (down 180) m in (ix.buckets d r.0 i (down_in 180 r.0 r.1)).wanted_is x r.2

    node_held : (x : ℕ) → In x (entries d) → In (entry_node s.records x) (held d)
    node_held x m =
        let some = hash_some (entry_hash s.records x) (node_value s.records (indexed_label s.records d) (indexed_key s.records d) (entry_node s.records x))
        (wanted x m) in
        in_ids (holds d) (high s.records format.nodes_file) (entry_node s.records x)
        (value_low s.records (indexed_label s.records d) (indexed_key s.records d) (entry_node s.records x) some) some

    has_entry : (n : ℕ) → In n (held d) → (x : ℕ) × In x (entries d) × (entry_node s.records x ≡ n)
    has_entry n m = by (node_value s.records (indexed_label s.records d) (indexed_key s.records d) n) refl
        (ids_in (holds d) (high s.records format.nodes_file) n m).1
      where
        by : (o : Option Value) → node_value s.records (indexed_label s.records d) (indexed_key s.records d) n ≡ o
            → is_some (node_value s.records (indexed_label s.records d) (indexed_key s.records d) n) ≡ true → (x : ℕ) × In x (entries d)
            × (entry_node s.records x ≡ n)
        by None is some = absurd (false≢true (sym (ap is_some is) ∙ some))
        by (Some v) is some =
            let e : Entry = record { label = indexed_label s.records d; key = indexed_key s.records d; node = n; hash = hash_of v } in
            let w : wanted_in s.records e ≡ true = ap (has_hash (hash_of v)) is ∙ eq_true (hash_of v) (hash_of v) refl in
            let has = ix.all d e i refl refl w in
            let low : bucket_of (hash_of v) < 180 = omega arith in (
              has.id,
              in_flat_map (ix.lists d) has.id (bucket_of (hash_of v)) (down 180) (in_down 180 (bucket_of (hash_of v)) low) has.member,
              ap
                  (λ (e : Entry). e.node) has.is,
            )

    nodes_once : (x y : ℕ) → In x (entries d) → In y (entries d) → entry_node s.records x ≡ entry_node s.records y → x ≡ y
    nodes_once x y m k same =
        let r = flat_map_in (ix.lists d) x (down 180) m in
        let q = flat_map_in (ix.lists d) y (down 180) k in
        let value : ℕ → Option Value = λ n. node_value s.records (indexed_label s.records d) (indexed_key s.records d) n in
        let hash : entry_hash s.records x ≡ entry_hash s.records y = one_hash (entry_hash s.records x) (entry_hash s.records y) (value (entry_node s.records y))
        (subst (λ n. has_hash (entry_hash s.records x) (value n) ≡ true) same (wanted x m)) (wanted y k) in
        let bucket : q.0 ≡ r.0 = sym ((ix.buckets d q.0 i (down_in 180 q.0 q.1)).hash y q.2) ∙ ap bucket_of (sym hash)
        ∙ (ix.buckets d r.0 i (down_in 180 r.0 r.1)).hash x r.2 in
        ix.once d r.0 x y i (down_in 180 r.0 r.1) r.2 (subst (λ b. In y (ix.lists d b)) bucket q.2) same hash

    count : length (entries d) ≡ length (held d)
    count =
        sym (length-map (entries d) (entry_node s.records))
        ∙ length_same (map (entry_node s.records) (entries d)) (held d)
        (once_map (entry_node s.records) (entries d) (entries_once s.records (wanted_in s.records) ix d i) nodes_once)
        (once_ids (holds d) (high s.records format.nodes_file))
        (λ n m. let r = map_in (entry_node s.records) n (entries d) m in subst (λ z. In z (held d)) (sym r.2) (node_held r.0 r.1))
        (λ n m. let r = has_entry n m in subst (λ z. In z (map (entry_node s.records) (entries d))) r.2 (image_in (entry_node s.records) r.0 (entries d) r.1))

    -- ---- they are the index's nodes in the graph

    low : (indexed_label s.records d < high s.records format.names_file) × (indexed_key s.records d < high s.records format.names_file)
    low = (apart s.records store.store.defined (wanted_in s.records) ix).named d i

    abbrev index : Index
    index = index_at s.records (indexed_label s.records d) (indexed_key s.records d)

    abbrev test : Node → Bool
    test node = is_text index.label node.label && has_key node.properties index.key

    passes : (n : ℕ) → row_passes test (node_of s.records n) ≡ holds d n
    passes n = node_passes s store (indexed_label s.records d) (indexed_key s.records d) low.0 low.1 n

    nodes_count : length (indexed_nodes (graph_of s.records) index) ≡ length (entries d)
    nodes_count = length-filter Node (node_of s.records) test (holds d) (high s.records format.nodes_file) passes ∙ sym count

  -- thirteen records for each index, and one for each of its nodes
  pub live_indexes : (meta_of s format.index_file).live ≡ index_records (graph_of s.records)
  live_indexes =
      let split = store.store.split format.index_file refl in
      index_count s.records (wanted_in s.records) ix split.0 split.1
      ∙ ap (λ n. 13 * length ix.definitions + n) (length-flat_map entries ix.definitions)
      ∙ both ix.definitions
      ∙ sym (sum_same (of_definition s.records (λ (index : Index). 13 + length (indexed_nodes (graph_of s.records) index))) (λ d. 13 + length (entries d))
      ix.definitions (λ d i. ap (λ n. 13 + n) (nodes_count d i)))
      ∙ sym (sum_indexes s.records store.store.defined (wanted_in s.records) ix (λ (index : Index). 13 + length (indexed_nodes (graph_of s.records) index)))
    where
      both : (ds : List ℕ) → 13 * length ds + sum_by (λ d. length (entries d)) ds ≡ sum_by (λ d. 13 + length (entries d)) ds
      both [] = refl
      both (d ∷ ds) =
          let rest = both ds in
          let one = sum_by-cons (λ d. length (entries d)) d ds in
          let two = sum_by-cons (λ d. 13 + length (entries d)) d ds in
          omega (arith, rest, one, two)

  -- their file has room for them
  pub indexes_fit : index_records (graph_of s.records) ≤ room_of s.shape format.index_file
  indexes_fit =
      let live = live_indexes in
      let exact = (store.store.split format.index_file refl).1.exact in
      let few = length-ids (is_live s.records format.index_file) (high s.records format.index_file) in
      let most = (store.store.ranges.metas format.index_file refl).high in
      omega arith
