-- What the entries of a new node weigh: three for each of its keys that has an index with its label.
use Rattle.std.specs.FinMap as maps
use Rattle.std.specs.FinMap.{get-insert}
use Rattle.std.specs.Cmp.Lexicographic.{nat_list_cmp_total}
use Rattle.std.specs.Ordering.{eq_by_cmp}
use Rattle.std.specs.Prelude.{is_some}
use Rattle.std.specs.List.{All, filter, list_any, sum_by}
use Rattle.std.proofs.Common.{◌≡◌, inl, inr, ℕ, suc, ◌+◌, ◌*◌, ◌<◌, nat_eq, Bool, true, false, ◌&&◌, ◌||◌}
use Rattle.std.proofs.Common.{if◌then◌else◌, cond, Some, List, [], ◌∷◌, length, map, ap, sym, ◌∙◌, subst, arith, refl}
use Rattle.std.proofs.lemmas.Bool.{false≢true}
use Rattle.std.proofs.lemmas.List.{length-map}
use Rattle.std.proofs.lemmas.List.Sums.{sum_by-cons}
use Rattle.plain_graph.specs.Graph.{Index}
use Rattle.plain_graph.specs.Indexes.{entries_weight, entry_count, entry_weight}
use Rattle.plain_graph.specs.Properties.{Properties, no_properties, with_pairs}
use Rattle.plain_graph.specs.Values.{is_text}
use Rattle.plain_graph.specs.declared.pairs.Pair.{Pair}
use Rattle.plain_graph.proofs.PropertyLaws.{order, same_key}
use Rattle.rec_bytes.specs.Format as format
use Rattle.store_rules.specs.Chains.{In}
use Rattle.store_rules.specs.Graph.{graph_in, indexes_of}
use Rattle.store_rules.specs.Indexes.{indexed_key, indexed_label, wanted_in}
use Rattle.store_rules.specs.Properties.{AreOnce}
use Rattle.store_rules.specs.Views.{high, rec_at}
use Rattle.rec_bytes.specs.Space.{State}
use Rattle.store_rules.proofs.NumberLaws.{and_parts, eq_true}
use Rattle.store_rules.proofs.OnceLaws.{length_same, map_in, once_map}
use Rattle.prop_index.specs.Listing.{pair_of}
use Rattle.prop_store.specs.Changing.{text_at}
use Rattle.change_parts.specs.Assigning.{AreAssigned, AreNew, pair_of as pair_in, pairs_of}
use Rattle.node_changes.specs.Entries.{AreKeysOnce, indexed_of, is_listed}
use Rattle.change_parts.specs.Store.{IsMidway, IsStore}
use Rattle.change_parts.specs.declared.assigning.Assignment.{Assignment}
use Rattle.change_parts.proofs.GraphPairs.{apart, has_pair, any_in, in_any, of_definition, pair_is, same_number, sum_indexes, text}
use Rattle.node_changes.proofs.HeldWeights.{listed_among}
use Rattle.change_parts.proofs.KeptIndexes.{midway}
use Rattle.node_changes.proofs.NodeWeights.{no_key, threes}
use Rattle.node_changes.proofs.PairWeights.{sum_same, text_test}
use Rattle.change_parts.proofs.PairsPut.{text_known}

-- ---- members that pass a test

in_filter : (test : ℕ → Bool) (x : ℕ) (xs : List ℕ) → In x (filter test xs) → In x xs × (test x ≡ true)
in_filter test x [] i = elim i [ ]
in_filter test x (y ∷ xs) i = by (test y) refl (λ k. in_filter test x xs k) i
  where
    by : (b : Bool) → test y ≡ b → (In x (filter test xs) → In x xs × (test x ≡ true)) → In x (cond b (y ∷ filter test xs) (filter test xs)) → In x (y ∷ xs)
        × (test x ≡ true)
    by true pass later (inl e) = (inl e, ap test e ∙ pass)
    by true pass later (inr k) = let r = later k in (inr r.0, r.1)
    by false pass later k = let r = later k in (inr r.0, r.1)

filter_in : (test : ℕ → Bool) (x : ℕ) (xs : List ℕ) → In x xs → test x ≡ true → In x (filter test xs)
filter_in test x [] i pass = elim i [ ]
filter_in test x (y ∷ xs) (inl e) pass = subst (λ b. In x (cond b (y ∷ filter test xs) (filter test xs))) (sym (ap test (sym e) ∙ pass)) (inl e)
filter_in test x (y ∷ xs) (inr i) pass = by (test y) (filter_in test x xs i pass)
  where
    by : (b : Bool) → In x (filter test xs) → In x (cond b (y ∷ filter test xs) (filter test xs))
    by true k = inr k
    by false k = k

once_filter : (test : ℕ → Bool) (xs : List ℕ) → AreOnce xs → AreOnce (filter test xs)
once_filter test [] once = tt
once_filter test (x ∷ xs) once = by (test x) (once_filter test xs once.1)
  where
    by : (b : Bool) → AreOnce (filter test xs) → AreOnce (cond b (x ∷ filter test xs) (filter test xs))
    by true rest = ((λ i. once.0 (in_filter test x xs i).0), rest)
    by false rest = rest

map_filter : (test : ℕ → Bool) (xs : List Assignment) → map (λ (a : Assignment). a.key) (filter (λ (a : Assignment). test a.key) xs) ≡ filter test
    (map (λ (a : Assignment). a.key) xs)
map_filter test [] = refl
map_filter test (a ∷ xs) = by (test a.key) (map_filter test xs)
  where
    by : (b : Bool) → map (λ (a : Assignment). a.key) (filter (λ (a : Assignment). test a.key) xs) ≡ filter test (map (λ (a : Assignment). a.key) xs)
        → map (λ (a : Assignment). a.key) (cond b (a ∷ filter (λ (a : Assignment). test a.key) xs) (filter (λ (a : Assignment). test a.key) xs)) ≡ cond b
        (a.key ∷ filter test (map (λ (a : Assignment). a.key) xs)) (filter test (map (λ (a : Assignment). a.key) xs))
    by true rest = ap (λ l. a.key ∷ l) rest
    by false rest = rest

-- ---- the keys of pairs that are put

or_true : (b : Bool) → (b || true) ≡ true
or_true true = refl
or_true false = refl

key_put : (m : Properties) (ps : List Pair) (k : List ℕ) → is_some (maps.get (with_pairs m ps) k)
    ≡ (list_any (λ (p : Pair). eq_by_cmp order k p.key) ps || is_some (maps.get m k))
key_put m [] k = refl
key_put m (p ∷ ps) k =
    key_put (maps.insert m p.key p.value) ps k
    ∙ ap (λ o. list_any (λ (p : Pair). eq_by_cmp order k p.key) ps || is_some o) (get-insert nat_list_cmp_total m p.key p.value k)
    ∙ by (eq_by_cmp order k p.key)
  where
    by : (b : Bool) → (list_any (λ (p : Pair). eq_by_cmp order k p.key) ps || is_some (cond b (Some p.value) (maps.get m k)))
        ≡ ((b || list_any (λ (p : Pair). eq_by_cmp order k p.key) ps) || is_some (maps.get m k))
    by true = or_true (list_any (λ (p : Pair). eq_by_cmp order k p.key) ps)
    by false = refl

-- what is new lacks the keys that were there
new_lacks : (m : Properties) (ps : List Pair) (k : List ℕ) → AreNew m ps → list_any (λ (p : Pair). eq_by_cmp order k p.key) ps ≡ true
    → is_some (maps.get m k) ≡ false
new_lacks m [] k new any = absurd (false≢true any)
new_lacks m (p ∷ ps) k new any = by (eq_by_cmp order k p.key) refl (λ later. new_lacks (maps.insert m p.key p.value) ps k new.1 later) any
  where
    by : (b : Bool) → eq_by_cmp order k p.key ≡ b → (list_any (λ (p : Pair). eq_by_cmp order k p.key) ps ≡ true → is_some
        (maps.get (maps.insert m p.key p.value) k) ≡ false) → (b || list_any (λ (p : Pair). eq_by_cmp order k p.key) ps) ≡ true → is_some (maps.get m k) ≡ false
    by true same later any = ap (λ q. is_some (maps.get m q)) (same_key k p.key same) ∙ ap is_some new.0
    by false other later any = ap is_some (sym (get-insert nat_list_cmp_total m p.key p.value k ∙ ap (λ b. cond b (Some p.value) (maps.get m k)) other))
        ∙ later any

-- one for each that passes a test
counted : (test : Index → Bool) (xs : List Index) → length (filter test xs) ≡ sum_by (λ (x : Index). if test x then 1 else 0) xs
counted test [] = refl
counted test (x ∷ xs) = by (test x) (counted test xs) (sum_by-cons (λ (x : Index). if test x then 1 else 0) x xs)
  where
    by : (b : Bool) → length (filter test xs) ≡ sum_by (λ (x : Index). if test x then 1 else 0) xs
        → sum_by (λ (x : Index). if test x then 1 else 0) (x ∷ xs) ≡ (if b then 1 else 0) + sum_by (λ (x : Index). if test x then 1 else 0) xs
        → length (cond b (x ∷ filter test xs) (filter test xs)) ≡ sum_by (λ (x : Index). if test x then 1 else 0) (x ∷ xs)
    by true rest all = omega (arith, rest, all)
    by false rest all = omega (arith, rest, all)

units : (test : ℕ → Bool) (xs : List ℕ) → sum_by (λ x. if test x then 1 else 0) xs ≡ length (filter test xs)
units test [] = refl
units test (x ∷ xs) = by (test x) (units test xs) (sum_by-cons (λ x. if test x then 1 else 0) x xs)
  where
    by : (b : Bool) → sum_by (λ x. if test x then 1 else 0) xs ≡ length (filter test xs)
        → sum_by (λ x. if test x then 1 else 0) (x ∷ xs) ≡ (if b then 1 else 0) + sum_by (λ x. if test x then 1 else 0) xs
        → sum_by (λ x. if test x then 1 else 0) (x ∷ xs) ≡ length (cond b (x ∷ filter test xs) (filter test xs))
    by true rest all = omega (arith, rest, all)
    by false rest all = omega (arith, rest, all)

image_in : (f : ℕ → ℕ) (x : ℕ) (ps : List ℕ) → In x ps → In (f x) (map f ps)
image_in f x [] i = elim i [ ]
image_in f x (y ∷ ps) (inl e) = inl (ap f e)
image_in f x (y ∷ ps) (inr i) = inr (image_in f x ps i)

-- ---- keys by their numbers

module _ (s : State) (names : List (List ℕ)) (store : IsMidway s names) (pairs : List Pair) where
  key_test : (k : ℕ) → k < high s.records format.names_file → (a : Assignment) → a.key < length names
      → eq_by_cmp order (text s.records k) (pair_in names pairs a).key ≡ nat_eq k a.key
  key_test k low a known =
      let text = text_known s names a.key store known in
      ap (eq_by_cmp order (text_at s k)) (sym text.1) ∙ text_test (rec_at s.records format.names_file) (high s.records format.names_file) store.store.names k
      a.key low text.0

  keys_same : (k : ℕ) → k < high s.records format.names_file → (xs : List Assignment) → All (λ (a : Assignment). a.key < length names) xs
      → list_any (λ (p : Pair). eq_by_cmp order (text s.records k) p.key) (map (pair_in names pairs) xs) ≡ list_any (λ (a : Assignment). nat_eq k a.key) xs
  keys_same k low [] known = refl
  keys_same k low (a ∷ xs) known = λ i. key_test k low a (known 0 a (omega arith)) i || keys_same k low xs (λ j d lt. known (suc j) d (omega (arith, lt))) i

  in_assigned : (k : ℕ) (xs : List Assignment) → In k (map (λ (a : Assignment). a.key) xs) → list_any (λ (a : Assignment). nat_eq k a.key) xs ≡ true
  in_assigned k [] i = elim i [ ]
  in_assigned k (a ∷ xs) (inl e) = ap (λ b. b || list_any (λ (a : Assignment). nat_eq k a.key) xs) (eq_true k a.key e)
  in_assigned k (a ∷ xs) (inr i) = ap (λ b. nat_eq k a.key || b) (in_assigned k xs i) ∙ or_true (nat_eq k a.key)

  assigned_in : (k : ℕ) (xs : List Assignment) → list_any (λ (a : Assignment). nat_eq k a.key) xs ≡ true → In k (map (λ (a : Assignment). a.key) xs)
  assigned_in k [] any = absurd (false≢true any)
  assigned_in k (a ∷ xs) any = by (nat_eq k a.key) refl (λ later. assigned_in k xs later) any
    where
      by : (b : Bool) → nat_eq k a.key ≡ b → (list_any (λ (a : Assignment). nat_eq k a.key) xs ≡ true → In k (map (λ (a : Assignment). a.key) xs))
          → (b || list_any (λ (a : Assignment). nat_eq k a.key) xs) ≡ true → In k (map (λ (a : Assignment). a.key) (a ∷ xs))
      by true is later any = inl (same_number k a.key is)
      by false is later any = inr (later any)

  keys_once : (m : Properties) (xs : List Assignment) → All (λ (a : Assignment). a.key < length names) xs → AreNew m (map (pair_in names pairs) xs)
      → AreKeysOnce xs
  keys_once m [] known new = tt
  keys_once m (a ∷ xs) known new = (twice, keys_once (maps.insert m p.key p.value) xs (λ j d lt. known (suc j) d (omega (arith, lt))) new.1)
    where
      p : Pair
      p = pair_in names pairs a

      twice : In a.key (map (λ (a : Assignment). a.key) xs) → ⊥
      twice i =
          let low = (text_known s names a.key store (known 0 a (omega arith))).0 in
          let any = keys_same a.key low xs (λ j d lt. known (suc j) d (omega (arith, lt))) ∙ in_assigned a.key xs i in
          let none = new_lacks (maps.insert m (pair_in names pairs a).key (pair_in names pairs a).value) (map (pair_in names pairs) xs) (text s.records a.key)
          new.1 any in
          let here = ap is_some (get-insert nat_list_cmp_total m (pair_in names pairs a).key (pair_in names pairs a).value (text s.records a.key) ∙ ap
          (λ b. cond b (Some (pair_in names pairs a).value) (maps.get m (text s.records a.key))) (key_test a.key low a (known 0 a (omega arith))
          ∙ eq_true a.key a.key refl)) in
          false≢true (sym none ∙ here)

pub assigned_once : (s : State) (names : List (List ℕ)) (pairs : List Pair) (assigned : List Assignment) → IsMidway s names → AreAssigned names pairs assigned
    → AreKeysOnce assigned
assigned_once s names pairs assigned store are = keys_once s names store pairs no_properties assigned are.known are.once

-- ---- the entries of a new node

module _ (s : State) (names : List (List ℕ)) (store : IsStore s names) (label : ℕ) (label_low : label < high s.records format.names_file) (pairs : List Pair)
    (assigned : List Assignment) (are : AreAssigned names pairs assigned) where
  abbrev ds : List ℕ
  ds = store.store.indexes.definitions

  abbrev given : ℕ → Bool
  given k = list_any (λ (a : Assignment). nat_eq k a.key) assigned

  abbrev gets : ℕ → Bool
  gets d = nat_eq (indexed_label s.records d) label && given (indexed_key s.records d)

  abbrev weigh : Index → ℕ
  weigh index = if is_text index.label (text s.records label) && true then entry_weight no_properties index.key + entry_weight (with_pairs no_properties pairs)
      index.key else 0

  has_given : (k : ℕ) → k < high s.records format.names_file → is_some (maps.get (with_pairs no_properties pairs) (text s.records k)) ≡ given k
  has_given k low =
      ap (λ m. is_some (maps.get m (text s.records k))) (sym are.same)
      ∙ key_put no_properties (pairs_of names pairs assigned) (text s.records k)
      ∙ ap (λ b. list_any (λ (p : Pair). eq_by_cmp order (text s.records k) p.key) (pairs_of names pairs assigned) || b) (no_key (text s.records k))
      ∙ or_none (list_any (λ (p : Pair). eq_by_cmp order (text s.records k) p.key) (pairs_of names pairs assigned))
      ∙ keys_same s names (midway s names store) pairs k low assigned are.known
    where
      or_none : (b : Bool) → (b || false) ≡ b
      or_none true = refl
      or_none false = refl

  one_gets : (d : ℕ) → In d ds → of_definition s.records weigh d ≡ (if gets d then 3 else 0)
  one_gets d i =
      let low = (apart s.records store.store.store.defined (wanted_in s.records) store.store.indexes).named d i in
      rw (
        text_test (rec_at s.records format.names_file) (high s.records format.names_file) store.store.store.names (indexed_label s.records d)
            label low.0 label_low,
        has_given (indexed_key s.records d) low.1,
        no_key (text s.records (indexed_key s.records d)),
      )
      (by (nat_eq (indexed_label s.records d) label) (given (indexed_key s.records d)))
    where
      by : (a b : Bool) → (if a && true then 0 + (if b then 3 else 0) else 0) ≡ (if a && b then 3 else 0)
      by true true = refl
      by true false = refl
      by false b = refl

  abbrev listed : ℕ → Bool
  listed k = is_listed (map (pair_of s.records) ds) label k

  -- xs many definitions xs assignments
  as_many : length (filter gets ds) ≡ length (indexed_of (map (pair_of s.records) ds) label assigned)
  as_many =
      sym (length-map (filter gets ds) (indexed_key s.records))
      ∙ length_same (map (indexed_key s.records) (filter gets ds)) (filter listed (map (λ (a : Assignment). a.key) assigned)) once
      (once_filter listed (map (λ (a : Assignment). a.key) assigned) (assigned_once s names pairs assigned (midway s names store) are)) there back
      ∙ sym (ap length (map_filter listed assigned)) ∙ length-map (indexed_of (map (pair_of s.records) ds) label assigned) (λ (a : Assignment). a.key)
    where
      once : AreOnce (map (indexed_key s.records) (filter gets ds))
      once = once_map (indexed_key s.records) (filter gets ds) (once_filter gets ds (apart s.records store.store.store.defined (wanted_in s.records)
          store.store.indexes).once)
          (λ d e i j same.
          let p = in_filter gets d ds i in
          let q = in_filter gets e ds j in
          let a = same_number (indexed_label s.records d) label (and_parts _ _ p.1).0 in
          let b = same_number (indexed_label s.records e) label (and_parts _ _ q.1).0 in
          store.store.indexes.distinct d e p.0 q.0 (a ∙ sym b) same)

      there : (k : ℕ) → In k (map (indexed_key s.records) (filter gets ds)) → In k (filter listed (map (λ (a : Assignment). a.key) assigned))
      there k m =
          let r = map_in (indexed_key s.records) k (filter gets ds) m in
          let p = in_filter gets r.0 ds r.1 in
          let both = and_parts (nat_eq (indexed_label s.records r.0) label) (given (indexed_key s.records r.0)) p.1 in
          let given_k = subst (λ z. given z ≡ true) (sym r.2) both.1 in
          filter_in listed k (map (λ (a : Assignment). a.key) assigned) (assigned_in s names (midway s names store) pairs k assigned given_k)
          (listed_among s.records ds label k ∙ in_any (has_pair s.records label k) r.0 ds p.0 (rw (both.0, eq_true (indexed_key s.records r.0) k (sym r.2))
          refl))

      back : (k : ℕ) → In k (filter listed (map (λ (a : Assignment). a.key) assigned)) → In k (map (indexed_key s.records) (filter gets ds))
      back k m =
          let p = in_filter listed k (map (λ (a : Assignment). a.key) assigned) m in
          let found = any_in (has_pair s.records label k) ds (sym (listed_among s.records ds label k) ∙ p.1) in
          let q = pair_is s.records label k found.0 found.2 in
          let own = in_assigned s names (midway s names store) pairs k assigned p.0 in
          subst (λ z. In z (map (indexed_key s.records) (filter gets ds))) q.1
          (image_in (indexed_key s.records) found.0 (filter gets ds) (filter_in gets found.0 ds found.1 (rw (
            eq_true (indexed_label s.records found.0)
                label q.0,
            ap given q.1 ∙ own,
          ) refl)))

  pub added_weighs : entries_weight (graph_in s) (text s.records label) (λ key. true) no_properties (with_pairs no_properties pairs) ≡ 3 * length
      (indexed_of (map (pair_of s.records) ds) label assigned)
  added_weighs =
      sum_indexes s.records store.store.store.defined (wanted_in s.records) store.store.indexes weigh
      ∙ sum_same (of_definition s.records weigh) (λ d. if gets d then 3 else 0) ds one_gets
      ∙ threes gets ds
      ∙ ap (λ n. 3 * n) as_many

  -- so many indexes get one node more
  pub added_count : entry_count (graph_in s) (text s.records label) (with_pairs no_properties pairs) ≡ length
      (indexed_of (map (pair_of s.records) ds) label assigned)
  added_count =
      counted (λ (index : Index). is_text index.label (text s.records label) && is_some (maps.get (with_pairs no_properties pairs) index.key))
      (indexes_of s.records)
      ∙ sum_indexes s.records store.store.store.defined (wanted_in s.records) store.store.indexes
      (λ (index : Index). if is_text index.label (text s.records label) && is_some (maps.get (with_pairs no_properties pairs) index.key) then 1 else 0)
      ∙ sum_same (of_definition s.records (λ (index : Index). if is_text index.label (text s.records label) && is_some
      (maps.get (with_pairs no_properties pairs) index.key) then 1 else 0)) (λ d. if gets d then 1 else 0) ds one_counts
      ∙ units gets ds
      ∙ as_many
    where
      one_counts : (d : ℕ) → In d ds → of_definition s.records (λ (index : Index). if is_text index.label (text s.records label) && is_some
          (maps.get (with_pairs no_properties pairs) index.key) then 1 else 0) d ≡ (if gets d then 1 else 0)
      one_counts d i =
          let low = (apart s.records store.store.store.defined (wanted_in s.records) store.store.indexes).named d i in
          rw (
            text_test (rec_at s.records format.names_file) (high s.records format.names_file) store.store.store.names (indexed_label s.records d)
                label low.0 label_low,
            has_given (indexed_key s.records d) low.1,
          ) refl
