-- The counts of properties and of blocks that a store keeps are those of its graph.
use Rattle.std.specs.List.{flat_map, sum_by}
use Rattle.std.proofs.Common.{◌≡◌, ◌≢◌, ◌⊎◌, ℕ, ◌+◌, ◌/◌, ◌<◌, ◌≤◌, nat_eq, nat_le, Bool, true, false, not, cond, None}
use Rattle.std.proofs.Common.{Some, List, [], ◌∷◌, ◌++◌, length, map, sym, ap, ◌∙◌, subst, inl, inr, ⊎_elim, arith}
use Rattle.std.proofs.Common.{refl}
use Rattle.std.proofs.lemmas.Bool.{eqb-false, eqb-true, true≢false}
use Rattle.std.proofs.lemmas.List.{length-append, length-map}
use Rattle.std.proofs.lemmas.List.Concat.{length-flat_map}
use Rattle.std.proofs.lemmas.List.Sums.{sum_by-cons}
use Rattle.std.specs.FinMap as maps
use Rattle.std.specs.Ordering.{eq_by_cmp}
use Rattle.plain_graph.specs.Graph.{Edge, Node, block_count, property_count}
use Rattle.plain_graph.specs.Properties as plain
use Rattle.plain_graph.specs.Properties.{Properties}
use Rattle.plain_graph.specs.declared.value.Value.{Value}
use Rattle.plain_graph.specs.declared.value.Value.TheVariants as values
use Rattle.plain_graph.proofs.PropertyLaws.{AreApart, blocks_in-from_entries, len-from_entries, order, same_key}
use Rattle.rec_bytes.specs.declared.record.Rec.{Rec}
use Rattle.rec_bytes.specs.declared.shape.Shape.{Shape}
use Rattle.rec_bytes.specs.Format as format
use Rattle.rec_bytes.specs.Space.{meta_in}
use Rattle.store_rules.specs.Chains.{In}
use Rattle.store_rules.specs.Graph.{edge_from, edge_of, graph_of, node_from, node_of}
use Rattle.store_rules.specs.Properties.{AreBlocks, long_text, AreLinked, AreOnce, IsProperty, Property}
use Rattle.store_rules.specs.Properties.{PropertyRecords, blocks_of, first_property, keys_of, map_of, named_property}
use Rattle.store_rules.specs.Properties.{next_property, properties_from, property_at, property_records}
use Rattle.store_rules.specs.Rows.{ids, option_list}
use Rattle.store_rules.specs.Rules.{AreNames, KeepsRules, node_first, rel_first}
use Rattle.store_rules.specs.Views.{NodeRow, Records, RelRow, high, is_live, kind_at, node_at, node_in, rec_at, rel_at, rel_in, row_if, text_of}
use Rattle.store_rules.proofs.BlockLists.{length-blocks, no_blocks}
use Rattle.store_rules.proofs.Counts.{ids_in, in_ids, length-ids, once_ids, sum_by-collect}
use Rattle.store_rules.proofs.OnceLaws.{flat_map_in, in_flat_map, in_left, in_parts, in_right, length_same, once_both, once_flat_map, once_walk}
use Rattle.store_rules.specs.PropertyChange.{property_from}
use Rattle.store_rules.proofs.PropertyLists.{block_live, block_owned_once, block_there, in_listed, key_known, listed}
use Rattle.store_rules.proofs.PropertyLists.{owner_in, owner_in-used, properties_from-is, properties_right}
use Rattle.store_rules.proofs.ViewLaws.{kind_below, live_false, live_true, row_none}

-- ---- one element

module _ (name_file : ℕ → Rec) (names : ℕ) (named : AreNames name_file names) where
  -- a key that is none of a list's has another text
  not_named : (key : ℕ) (es : List Property) → key < names → ((k : ℕ) → In k (keys_of es) → k < names) → ¬ In key (keys_of es)
      → maps.find order (text_of (name_file key)) (map (named_property name_file) es) ≡ None
  not_named key [] low known out = refl
  not_named key (e ∷ es) low known out =
      by (eq_by_cmp order (text_of (name_file key)) (text_of (name_file e.key))) (same_key (text_of (name_file key)) (text_of (name_file e.key)))
      (not_named key es low (λ k i. known k (inr i)) (λ i. out (inr i)))
    where
      by : (b : Bool) → (b ≡ true → text_of (name_file key) ≡ text_of (name_file e.key))
          → maps.find order (text_of (name_file key)) (map (named_property name_file) es) ≡ None
          → cond b (Some e.value) (maps.find order (text_of (name_file key)) (map (named_property name_file) es)) ≡ None
      by true f later = absurd (out (inl (named.distinct key e.key low (known e.key (inl refl)) (f refl))))
      by false f later = later

  -- no text comes twice among the keys of an element
  are_apart : (es : List Property) → ((k : ℕ) → In k (keys_of es) → k < names) → AreOnce (keys_of es) → AreApart (map (named_property name_file) es)
  are_apart [] known once = tt
  are_apart (e ∷ es) known once = (not_named e.key es (known e.key (inl refl)) (λ k i. known k (inr i)) once.0, are_apart es (λ k i. known k (inr i)) once.1)

  -- the map of an element's properties has as many as its list
  pub len-map_of : (es : List Property) → ((k : ℕ) → In k (keys_of es) → k < names) → AreOnce (keys_of es) → maps.len (map_of name_file es) ≡ length es
  len-map_of es known once = len-from_entries (map (named_property name_file) es) (are_apart es known once) ∙ length-map es (named_property name_file)

  -- as many blocks as its value takes
  pub length-property_blocks : (files : PropertyRecords) (e : Property) (next : ℕ) → IsProperty files e next → length e.blocks ≡ plain.blocks_of e.value
  length-property_blocks files e next h = by e.value e.blocks h.blocks
    where
      by : (value : Value) (blocks : List ℕ) → AreBlocks files.strings (long_text value) blocks → length blocks ≡ plain.blocks_of value
      by (values.Int number) blocks are = ap length (no_blocks files.strings blocks are)
      by (values.Bool truth) blocks are = ap length (no_blocks files.strings blocks are)
      by (values.Text text) blocks are = on (nat_le (length text) 40) are
        where
          on : (short : Bool) → AreBlocks files.strings (cond short [] text) blocks → length blocks ≡ cond short 0 ((length text + 47) / 48)
          on true h = ap length (no_blocks files.strings blocks h)
          on false h = length-blocks files.strings text blocks h

  -- and as many blocks
  pub blocks_in-map_of : (files : PropertyRecords) (es : List Property) → AreLinked files es → ((k : ℕ) → In k (keys_of es) → k < names) → AreOnce (keys_of es)
      → plain.blocks_in (map_of name_file es) ≡ length (blocks_of es)
  blocks_in-map_of files es linked known once = blocks_in-from_entries (map (named_property name_file) es) (are_apart es known once) ∙ all es linked
    where
      all : (ds : List Property) → AreLinked files ds → sum_by plain.blocks_of (map (λ (p : List ℕ × Value). p.1) (map (named_property name_file) ds)) ≡ length
          (blocks_of ds)
      all [] h = refl
      all (d ∷ ds) h =
          let first = length-property_blocks files d (first_property ds) h.0 in
          let rest = all ds h.1 in
          let more = sum_by-cons plain.blocks_of d.value (map (λ (p : List ℕ × Value). p.1) (map (named_property name_file) ds)) in
          let both = length-append d.blocks (blocks_of ds) in
          omega arith

-- ---- all elements

-- An owner of properties is an element in use.
record IsElement (s : Records) (file x first : ℕ) : Type 0 where
  file_is : (file ≡ format.nodes_file) ⊎ (file ≡ format.relationships_file)
  live : is_live s file x ≡ true
  low : x < high s file

-- the record of an owner says so
is_element : (s : Records) (file x first : ℕ) → owner_in s file x ≡ Some first → IsElement s file x first
is_element s file x first owned = by (nat_eq file format.nodes_file) (nat_eq file format.relationships_file) (eqb-true file format.nodes_file)
    (eqb-true file format.relationships_file) owned
  where
    used : (f : ℕ) → (f ≡ format.nodes_file) ⊎ (f ≡ format.relationships_file) → kind_at s f x ≢ 0 → file ≡ f → IsElement s file x first
    used f which some e = subst (λ g. IsElement s g x first) (sym e) (record {
      file_is = which;
      live = live_true (kind_at s f x) some;
      low = kind_below
          (high s f) (rec_at s f x) x some;
    })

    of_node : (row : NodeRow) (k : ℕ) → node_first (row_if k row) ≡ Some first → k ≢ 0
    of_node row k e z = let w : None ≡ Some first = sym (ap node_first (row_none k row z)) ∙ e in cc

    of_rel : (row : RelRow) (k : ℕ) → rel_first (row_if k row) ≡ Some first → k ≢ 0
    of_rel row k e z = let w : None ≡ Some first = sym (ap rel_first (row_none k row z)) ∙ e in cc

    by : (a b : Bool) → (a ≡ true → file ≡ format.nodes_file) → (b ≡ true → file ≡ format.relationships_file)
        → cond a (node_first (node_at s x)) (cond b (rel_first (rel_at s x)) None) ≡ Some first → IsElement s file x first
    by true b f g e = used format.nodes_file (inl refl) (of_node (node_in (rec_at s format.nodes_file x) x) (kind_at s format.nodes_file x) e) (f refl)
    by false true f g e = used format.relationships_file (inr refl) (of_rel (rel_in (rec_at s format.relationships_file x) x)
        (kind_at s format.relationships_file x) e) (g refl)
    by false false f g e = absurd cc

module _ (s : Records) (lists : ℕ → ℕ → List ℕ) where
  -- the identifiers in use of a file
  abbrev used_ids : ℕ → List ℕ
  used_ids file = ids (is_live s file) (high s file)

  -- what the lists of the elements of a file have, one after the other
  abbrev of_file : ℕ → List ℕ
  of_file file = flat_map (lists file) (used_ids file)

  -- and those of all nodes and relationships in use
  abbrev all_of : List ℕ
  all_of = of_file format.nodes_file ++ of_file format.relationships_file

  -- an element in use is an owner
  owner_of : (file x : ℕ) → (file ≡ format.nodes_file) ⊎ (file ≡ format.relationships_file) → In x (used_ids file)
      → owner_in s file x ≡ Some (property_from s file x)
  owner_of file x which i = owner_in-used s file x which (λ e. true≢false (sym (ids_in (is_live s file) (high s file) x i).1 ∙ live_false (kind_at s file x) e))

  -- what an owner's list has is among what all have
  in_all : (file x first p : ℕ) → owner_in s file x ≡ Some first → In p (lists file x) → In p all_of
  in_all file x first p owned i =
      let element = is_element s file x first owned in
      ⊎_elim
      (λ (e : file ≡ format.nodes_file). in_left p (of_file format.nodes_file) (of_file format.relationships_file) (subst (λ f. In p (of_file f)) e
      (here element)))
      (λ (e : file ≡ format.relationships_file). in_right p (of_file format.nodes_file) (of_file format.relationships_file) (subst (λ f. In p (of_file f)) e
      (here element))) element.file_is
    where
      here : IsElement s file x first → In p (of_file file)
      here element = in_flat_map (lists file) p x (used_ids file) (in_ids (is_live s file) (high s file) x element.low element.live) i

  -- an owner's list has the number
  abbrev InOwned : ℕ → Type 0
  InOwned p = (file : ℕ) × (x : ℕ) × (first : ℕ) × ((owner_in s file x ≡ Some first) × In p (lists file x))

  -- and what all have is in the list of an owner
  all_in : (p : ℕ) → In p all_of → InOwned p
  all_in p i = ⊎_elim (λ k. of format.nodes_file (inl refl) k) (λ k. of format.relationships_file (inr refl) k)
      (in_parts p (of_file format.nodes_file) (of_file format.relationships_file) i)
    where
      of : (file : ℕ) → (file ≡ format.nodes_file) ⊎ (file ≡ format.relationships_file) → In p (of_file file) → InOwned p
      of file which i = let r = flat_map_in (lists file) p (used_ids file) i in (file, r.0, property_from s file r.0, (owner_of file r.0 which r.1, r.2))

  -- Where no list has a number twice and no two have one in common, all have none twice.
  once_all : ((file x first : ℕ) → owner_in s file x ≡ Some first → AreOnce (lists file x))
      → ((file x first other y second p : ℕ) → owner_in s file x ≡ Some first → owner_in s other y ≡ Some second → In p (lists file x) → In p (lists other y) →
      (file ≡ other) × (x ≡ y))
      → AreOnce all_of
  once_all each apart = once_both (of_file format.nodes_file) (of_file format.relationships_file) (of format.nodes_file (inl refl))
      (of format.relationships_file (inr refl))
      (λ p i j.
      let a = flat_map_in (lists format.nodes_file) p (used_ids format.nodes_file) i in
      let b = flat_map_in (lists format.relationships_file) p (used_ids format.relationships_file) j in
      let same = (apart format.nodes_file a.0 _ format.relationships_file b.0 _ p (owner_of format.nodes_file a.0 (inl refl) a.1)
      (owner_of format.relationships_file b.0 (inr refl) b.1) a.2 b.2).0 in
      omega arith)
    where
      of : (file : ℕ) → (file ≡ format.nodes_file) ⊎ (file ≡ format.relationships_file) → AreOnce (of_file file)
      of file which = once_flat_map (lists file) (used_ids file) (once_ids (is_live s file) (high s file)) (λ x i. each file x _ (owner_of file x which i))
          (λ x y p i j k l. (apart file x _ file y _ p (owner_of file x which i) (owner_of file y which j) k l).1)

  -- as many as the lists of the nodes and of the relationships have together
  length_all : length all_of ≡ sum_by (λ x. length (lists format.nodes_file x)) (used_ids format.nodes_file) + sum_by
      (λ x. length (lists format.relationships_file x)) (used_ids format.relationships_file)
  length_all = length-append (of_file format.nodes_file) (of_file format.relationships_file)
      ∙ (λ i. length-flat_map (lists format.nodes_file) (used_ids format.nodes_file) i + length-flat_map (lists format.relationships_file)
      (used_ids format.relationships_file) i)

  -- a sum over the graph's elements is how many the lists of all have, where it is so for each
  sum_all : (measure : Properties → ℕ)
      → ((file x first : ℕ) → owner_in s file x ≡ Some first → measure (properties_from (rec_at s format.names_file) (property_records s) first) ≡ length
      (lists file x))
      → sum_by (λ (node : Node). measure node.properties) (graph_of s).nodes + sum_by (λ (edge : Edge). measure edge.properties) (graph_of s).edges ≡ length
      all_of
  sum_all measure each = (λ i. nodes i + edges i) ∙ sym length_all
    where
      of : (file x : ℕ) → (file ≡ format.nodes_file) ⊎ (file ≡ format.relationships_file) → nat_eq (kind_at s file x) 0 ≡ false
          → measure (properties_from (rec_at s format.names_file) (property_records s) (property_from s file x)) ≡ length (lists file x)
      of file x which used = each file x (property_from s file x) (owner_in-used s file x which (λ e. eqb-false (kind_at s file x) 0 used e))

      node_sum : (x : ℕ) (b : Bool) → (b ≡ false → measure (properties_from (rec_at s format.names_file) (property_records s) (property_from s format.nodes_file
          x)) ≡ length (lists format.nodes_file x))
          → sum_by (λ (node : Node). measure node.properties) (option_list (node_from (rec_at s format.names_file) (property_records s)
          (cond b None (Some (node_in (rec_at s format.nodes_file x) x)))))
          ≡ sum_by (λ z. length (lists format.nodes_file z)) (option_list (cond (not b) (Some x) None))
      node_sum x true h = refl
      node_sum x false h = ap (λ n. 0 + n) (h refl)

      edge_sum : (x : ℕ) (b : Bool) → (b ≡ false → measure (properties_from (rec_at s format.names_file) (property_records s)
          (property_from s format.relationships_file x)) ≡ length (lists format.relationships_file x))
          → sum_by (λ (edge : Edge). measure edge.properties) (option_list (edge_from (rec_at s format.names_file) (property_records s)
          (cond b None (Some (rel_in (rec_at s format.relationships_file x) x)))))
          ≡ sum_by (λ z. length (lists format.relationships_file z)) (option_list (cond (not b) (Some x) None))
      edge_sum x true h = refl
      edge_sum x false h = ap (λ n. 0 + n) (h refl)

      nodes : sum_by (λ (node : Node). measure node.properties) (graph_of s).nodes ≡ sum_by (λ x. length (lists format.nodes_file x))
          (used_ids format.nodes_file)
      nodes = sum_by-collect (node_of s) (is_live s format.nodes_file) (λ (node : Node). measure node.properties) (λ x. length (lists format.nodes_file x))
          (high s format.nodes_file)
          (λ x. node_sum x (nat_eq (kind_at s format.nodes_file x) 0) (of format.nodes_file x (inl refl)))

      edges : sum_by (λ (edge : Edge). measure edge.properties) (graph_of s).edges ≡ sum_by (λ x. length (lists format.relationships_file x))
          (used_ids format.relationships_file)
      edges = sum_by-collect (edge_of s) (is_live s format.relationships_file) (λ (edge : Edge). measure edge.properties)
          (λ x. length (lists format.relationships_file x)) (high s format.relationships_file)
          (λ x. edge_sum x (nat_eq (kind_at s format.relationships_file x) 0) (of format.relationships_file x (inr refl)))

-- ---- the counts

module _ (s : Records) (shape : Shape) {most : ℕ} {empty : List ℕ} (keeps : KeepsRules s shape most empty) where
  abbrev files : PropertyRecords
  files = property_records s

  -- the identifiers of an element's properties
  abbrev held : ℕ → ℕ → List ℕ
  held file x = keeps.properties.held.lists file x

  -- the blocks of an element
  abbrev held_blocks : ℕ → ℕ → List ℕ
  held_blocks file x = blocks_of (listed s shape keeps file x)

  -- the graph has as many properties of an element as its list
  len-element : (file x first : ℕ) → owner_in s file x ≡ Some first → maps.len (properties_from (rec_at s format.names_file) files first) ≡ length (held file x)
  len-element file x first owned =
      let right = properties_right s shape keeps file x first owned in
      ap maps.len (properties_from-is files (rec_at s format.names_file) first (listed s shape keeps file x) right)
      ∙ len-map_of (rec_at s format.names_file) (high s format.names_file) keeps.names (listed s shape keeps file x)
      (key_known s shape keeps file x first (listed s shape keeps file x) owned right) right.keys_once
      ∙ length-map (held file x) (property_at files)

  -- and as many blocks as those of its list take
  blocks-element : (file x first : ℕ) → owner_in s file x ≡ Some first → plain.blocks_in (properties_from (rec_at s format.names_file) files first) ≡ length
      (held_blocks file x)
  blocks-element file x first owned =
      let right = properties_right s shape keeps file x first owned in
      ap plain.blocks_in (properties_from-is files (rec_at s format.names_file) first (listed s shape keeps file x) right)
      ∙ blocks_in-map_of (rec_at s format.names_file) (high s format.names_file) keeps.names files (listed s shape keeps file x) right.linked
      (key_known s shape keeps file x first (listed s shape keeps file x) owned right) right.keys_once

  -- what is in use is among the identifiers in use
  used_in : (file p : ℕ) → is_live s file p ≡ true → In p (ids (is_live s file) (high s file))
  used_in file p live = in_ids (is_live s file) (high s file) p (kind_below (high s file) (rec_at s file p) p
      (λ e. true≢false (sym live ∙ live_false (kind_at s file p) e))) live

  -- the properties in use are those of the lists
  length-properties : length (ids (is_live s format.properties_file) (high s format.properties_file)) ≡ length (all_of s held)
  length-properties = length_same (ids (is_live s format.properties_file) (high s format.properties_file)) (all_of s held)
      (once_ids (is_live s format.properties_file) (high s format.properties_file))
      (once_all s held (λ file x first owned. once_walk (next_property files.properties) first (held file x) (keeps.properties.held.walk file x first owned))
      keeps.properties.held.once)
      (λ p i. let k = keeps.properties.held.held p (ids_in (is_live s format.properties_file) (high s format.properties_file) p i).1 in in_all s held k.0 k.1
      k.2 p k.3.0 k.3.1)
      (λ p i. let k = all_in s held p i in used_in format.properties_file p (keeps.properties.held.only k.0 k.1 k.2 p k.3.0 k.3.1))

  -- and the blocks in use those of the properties of the lists
  length-blocks_in_use : length (ids (is_live s format.strings_file) (high s format.strings_file)) ≡ length (all_of s held_blocks)
  length-blocks_in_use = length_same (ids (is_live s format.strings_file) (high s format.strings_file)) (all_of s held_blocks)
      (once_ids (is_live s format.strings_file) (high s format.strings_file))
      (once_all s held_blocks (λ file x first owned. (properties_right s shape keeps file x first owned).blocks_once)
      (λ file x first other y second b owned too i j. block_owned_once s shape keeps file x first other y second (listed s shape keeps file x)
      (listed s shape keeps other y) owned too
      (properties_right s shape keeps file x first owned) (properties_right s shape keeps other y second too) b i j))
      (λ b i.
      let there = block_there s shape keeps b (ids_in (is_live s format.strings_file) (high s format.strings_file) b i).1 in
      let k = keeps.properties.held.held there.0 there.1 in
      in_all s held_blocks k.0 k.1 k.2 b k.3.0 (in_listed s shape keeps k.0 k.1 there.0 b k.3.1 there.2))
      (λ b i. let k = all_in s held_blocks b i in used_in format.strings_file b (block_live s shape keeps k.0 k.1 k.2 (listed s shape keeps k.0 k.1) k.3.0
      (properties_right s shape keeps k.0 k.1 k.2 k.3.0) b k.3.1))

  -- the count of properties is that of their file
  pub count_properties : (meta_in s format.properties_file).live ≡ property_count (graph_of s)
  count_properties = (keeps.split format.properties_file refl).1.exact ∙ length-properties ∙ sym (sum_all s held maps.len len-element)

  -- the count of blocks is that of theirs
  pub count_blocks : (meta_in s format.strings_file).live ≡ block_count (graph_of s)
  count_blocks = (keeps.split format.strings_file refl).1.exact ∙ length-blocks_in_use ∙ sym (sum_all s held_blocks plain.blocks_in blocks-element)

  -- the properties are no more than the limit
  pub property_count-limit : property_count (graph_of s) ≤ shape.limit
  property_count-limit =
      let count = sym count_properties ∙ (keeps.split format.properties_file refl).1.exact in
      let few = length-ids (is_live s format.properties_file) (high s format.properties_file) in
      let most = (keeps.ranges.metas format.properties_file refl).high in
      omega arith

  -- nor are the blocks
  pub block_count-limit : block_count (graph_of s) ≤ shape.limit
  block_count-limit =
      let count = sym count_blocks ∙ (keeps.split format.strings_file refl).1.exact in
      let few = length-ids (is_live s format.strings_file) (high s format.strings_file) in
      let most = (keeps.ranges.metas format.strings_file refl).high in
      omega arith
