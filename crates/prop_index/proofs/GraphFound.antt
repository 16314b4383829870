-- What a lookup gives are nodes of the graph.
use Rattle.std.proofs.Common.{◌≡◌, ◌≢◌, ◌<◌, ◌&&◌, ℕ, zero, suc, Bool, true, false, cond, nat_eq, Option, None, Some}
use Rattle.std.proofs.Common.{List, [], ◌∷◌, ◌++◌, map, option_map, inl, inr, refl, sym, ap, ◌∙◌, subst}
use Rattle.std.specs.List.{filter}
use Rattle.std.specs.Cmp.{eq_by_cmp_equiv}
use Rattle.std.specs.Cmp.Lexicographic.{nat_list_cmp_total}
use Rattle.std.specs.FinMap as maps
use Rattle.std.specs.Ordering.{eq_by_cmp}
use Rattle.std.proofs.lemmas.Cmp.{nat_eq_equiv}
use Rattle.std.proofs.lemmas.List.{map-append}
use Rattle.std.proofs.lemmas.List.Elements.{filter-append}
use borrow.Author.Tests.{eqb-true}
use Rattle.plain_graph.specs.Graph.{Node, node_number}
use Rattle.plain_graph.specs.Values.{is_text}
use Rattle.plain_graph.specs.declared.value.Value.{Value}
use Rattle.plain_graph.proofs.PropertyLaws.{order, same_key}
use Rattle.rec_bytes.specs.declared.record.Rec.{Rec}
use Rattle.rec_bytes.specs.declared.shape.Shape.{Shape}
use Rattle.rec_bytes.specs.Format as format
use Rattle.store_rules.specs.Chains.{In}
use Rattle.store_rules.specs.Graph.{graph_of, node_from, node_of}
use Rattle.store_rules.specs.Indexes.{has_value, listed_from, node_value, row_value, value_in}
use Rattle.store_rules.specs.Properties.{AreProperties, Property, keys_of, named_property, properties_from, property_records}
use Rattle.store_rules.specs.Rows.{collect, if_test, ids, option_list}
use Rattle.store_rules.specs.Rules.{AreNamed, AreNames, IsWellFormed}
use Rattle.store_rules.specs.Views.{NodeRow, Records, high, kind_at, node_at, node_in, rec_at, rel_at, text_of}
use Rattle.store_rules.proofs.PropertyLists.{key_known, listed, owner_in, owner_in-used, properties_from-is, properties_read, properties_right}
use Rattle.store_rules.proofs.ViewLaws.{some_row}
use Rattle.prop_store.specs.Finding.{property_of, value_of}
use Rattle.prop_index.specs.Looking.{found_in, has_labelled, nodes_having}
use Rattle.prop_index.proofs.Values.{value_in-is}

-- ---- texts of names

same_tests : (a b : Bool) → (a ≡ true → b ≡ true) → (b ≡ true → a ≡ true) → a ≡ b
same_tests true true f g = refl
same_tests true false f g = sym (f refl)
same_tests false true f g = g refl
same_tests false false f g = refl

module _ (name_file : ℕ → Rec) (names : ℕ) (named : AreNames name_file names) where
  -- the tests of two names' texts are those of their numbers
  text_test : (a b : ℕ) → a < names → b < names → is_text (text_of (name_file a)) (text_of (name_file b)) ≡ nat_eq a b
  text_test a b low below = same_tests (is_text (text_of (name_file a)) (text_of (name_file b))) (nat_eq a b)
      (λ h. subst (λ k. nat_eq a k ≡ true) (named.distinct a b low below (same_key (text_of (name_file a)) (text_of (name_file b)) h)) (nat_eq_equiv.refl a))
      (λ h. subst (λ k. is_text (text_of (name_file a)) (text_of (name_file k)) ≡ true) (eqb-true a b h) ((eq_by_cmp_equiv nat_list_cmp_total).refl
      (text_of (name_file a))))

  -- of a name's text is found what has the name's number
  find_named : (es : List Property) (key : ℕ) → key < names → ((k : ℕ) → In k (keys_of es) → k < names)
      → maps.find order (text_of (name_file key)) (map (named_property name_file) es) ≡ value_of es key
  find_named [] key low known = refl
  find_named (e ∷ es) key low known =
      let test : eq_by_cmp order (text_of (name_file key)) (text_of (name_file e.key)) ≡ nat_eq e.key key =
      same_tests (eq_by_cmp order (text_of (name_file key)) (text_of (name_file e.key))) (nat_eq e.key key)
      (λ h. subst (λ k. nat_eq k key ≡ true) (named.distinct key e.key low (known e.key (inl refl)) (same_key (text_of (name_file key))
      (text_of (name_file e.key)) h)) (nat_eq_equiv.refl key))
      (λ h. subst (λ k. eq_by_cmp order (text_of (name_file key)) (text_of (name_file k)) ≡ true) (sym (eqb-true e.key key h))
      ((eq_by_cmp_equiv nat_list_cmp_total).refl (text_of (name_file key)))) in
      ap (λ b. cond b (Some e.value) (maps.find order (text_of (name_file key)) (map (named_property name_file) es))) test
      ∙ by (nat_eq e.key key) (find_named es key low (λ k i. known k (inr i)))
    where
      by : (b : Bool) → maps.find order (text_of (name_file key)) (map (named_property name_file) es) ≡ value_of es key
          → cond b (Some e.value) (maps.find order (text_of (name_file key)) (map (named_property name_file) es)) ≡ option_map (λ (d : Property). d.value)
          (cond b (Some e) (property_of es key))
      by true later = refl
      by false later = later

-- ---- the nodes

module _ (s : Records) (shape : Shape) (store : IsWellFormed s shape) (label key : ℕ) (value : Value) (label_low : label < high s format.names_file)
    (key_low : key < high s format.names_file) where
  abbrev names : ℕ → Rec
  names = rec_at s format.names_file

  abbrev mark : ℕ
  mark = high s format.names_file

  named : AreNames names mark
  named = store.names

  labelled : AreNamed (node_at s) (rel_at s) mark
  labelled = store.named

  -- the value of a key at a node in use is that of its properties in the graph
  value_same : (n : ℕ) → kind_at s format.nodes_file n ≢ format.free_kind → let first = (node_in (rec_at s format.nodes_file n) n).property in
      maps.get (properties_from names (property_records s) first) (text_of (names key)) ≡ value_in (listed_from (property_records s) first) key
  value_same n used =
      let first = (node_in (rec_at s format.nodes_file n) n).property in
      let owned : owner_in s format.nodes_file n ≡ Some first = owner_in-used s format.nodes_file n (inl refl) used in
      let es = listed s shape store format.nodes_file n in
      let are : AreProperties (property_records s) first es = properties_right s shape store format.nodes_file n first owned in
      let known : (k : ℕ) → In k (keys_of es) → k < mark = key_known s shape store format.nodes_file n first es owned are in
      ap (λ m. maps.get m (text_of (names key))) (properties_from-is (property_records s) names first es are)
      ∙ maps.get-from_entries nat_list_cmp_total (map (named_property names) es) (text_of (names key))
      ∙ find_named names mark named es key key_low known ∙ sym (value_in-is es key)
      ∙ ap (λ (ps : List Property). value_in ps key) (sym (properties_read (property_records s) first es are))

  abbrev test : Node → Bool
  test = has_labelled (text_of (names label)) (text_of (names key)) value

  abbrev holds : ℕ → Bool
  holds n = has_value value (node_value s label key n)

  one_node : (n : ℕ) → map node_number (filter test (option_list (node_of s n))) ≡ option_list (if_test holds n)
  one_node n = by (node_at s n) refl
    where
      by : (o : Option NodeRow) → node_at s n ≡ o → map node_number (filter test (option_list (node_from names (property_records s) o))) ≡ option_list
          (cond (has_value value (row_value (property_records s) label key o)) (Some n) None)
      by None is = refl
      by (Some row) is =
          let at = some_row (kind_at s format.nodes_file n) (node_in (rec_at s format.nodes_file n) n) row is in
          let numbered : row.id ≡ n = ap (λ (r : NodeRow). r.id) (sym at.1) in
          let labels : is_text (text_of (names row.label)) (text_of (names label)) ≡ nat_eq row.label label =
          text_test names mark named row.label label (labelled.nodes_named n row is) label_low in
          let values : maps.get (properties_from names (property_records s) row.property) (text_of (names key)) ≡ value_in
          (listed_from (property_records s) row.property) key
          = subst (λ (r : NodeRow). maps.get (properties_from names (property_records s) r.property) (text_of (names key)) ≡ value_in
          (listed_from (property_records s) r.property) key) at.1 (value_same n at.0) in
          rw (labels, values) (pick (nat_eq row.label label) (value_in (listed_from (property_records s) row.property) key) row numbered)
        where
          pick : (b : Bool) (o : Option Value) (row : NodeRow) → row.id ≡ n
              → map node_number (cond (b && has_value value o) (record {
                id = row.id;
                label = text_of (names row.label);
                properties = properties_from names
                    (property_records s) row.property;
              } ∷ []) [])
              ≡ option_list (cond (has_value value (cond b o None)) (Some n) None)
          pick false o row same = refl
          pick true o row same = on (has_value value o)
            where
              on : (t : Bool) → map node_number (cond t (record {
                id = row.id;
                label = text_of (names row.label);
                properties = properties_from names
                    (property_records s) row.property;
              } ∷ []) []) ≡ option_list (cond t (Some n) None)
              on true = λ i. same i ∷ []
              on false = refl

  below : (m : ℕ) → map node_number (filter test (collect (node_of s) m)) ≡ ids holds m
  below zero = refl
  below (suc m) =
      ap (map node_number) (filter-append test (collect (node_of s) m) (option_list (node_of s m)))
      ∙ map-append node_number (filter test (collect (node_of s) m)) (filter test (option_list (node_of s m)))
      ∙ (λ i. below m i ++ one_node m i)

  -- They are the nodes of the label whose key has the value, in the order of the graph.
  pub graph_found : nodes_having (graph_of s) (text_of (names label)) (text_of (names key)) value ≡ found_in s label key value
  graph_found = below (high s format.nodes_file)
