-- The nodes of a bucket that have the value are those of the label that have it.
use Rattle.std.specs.List.{AllPairs, Contains, filter}
use Rattle.std.specs.List.Sorted.{IsNonDecreasing, IsPermutation}
use Rattle.std.specs.Cmp.{Equal-is}
use Rattle.std.specs.Cmp.Lexicographic.{slice_cmp}
use Rattle.std.specs.FinMap.{int_cmp-IsAntisymmetric, nat_cmp-IsAntisymmetric, slice_cmp-IsAntisymmetric}
use Rattle.std.specs.Ordering.{bool_cmp, int_cmp, is_eq, nat_cmp}
use Rattle.std.proofs.Common.{◌≡◌, ◌≢◌, ◌<◌, ◌&&◌, ℕ, Bool, true, false, cond, nat_eq, Option, None, Some, List, []}
use Rattle.std.proofs.Common.{◌∷◌, refl, ap, sym, ◌∙◌, subst, inl, inr, arith}
use Rattle.std.proofs.lemmas.Bool.{true≢false}
use borrow.Author.Tests.{eqb-true}
use Rattle.plain_graph.specs.Values.{value_cmp}
use Rattle.plain_graph.specs.declared.value.Value.{Value}
use Rattle.plain_graph.specs.declared.value.Value.TheVariants as values
use Rattle.rec_bytes.specs.Format as format
use Rattle.rec_bytes.specs.Space.{State}
use Rattle.store_rules.specs.Chains.{In, IsWalk}
use Rattle.store_rules.specs.Hashes.{bucket_of, hash_of}
use Rattle.store_rules.specs.Indexes.{Entry, IsBucket, IsIndexed, entry_hash, entry_node, has_hash, has_value}
use Rattle.store_rules.specs.Indexes.{indexed_key, indexed_label, listed_from, next_entry, node_value, row_value}
use Rattle.store_rules.specs.Indexes.{value_in, wanted_in, first_entry}
use Rattle.store_rules.specs.Properties.{AreOnce, property_records}
use Rattle.store_rules.specs.Rows.{ids, if_test}
use Rattle.store_rules.specs.Views.{NodeRow, Records, high, kind_at, node_at, node_in, rec_at}
use Rattle.store_rules.proofs.ChainLaws.{walk_of_chain}
use Rattle.store_rules.proofs.IndexParts.{hash_had}
use Rattle.store_rules.proofs.OnceLaws.{once_walk}
use Rattle.store_rules.proofs.NumberLaws.{and_parts, eq_true}
use Rattle.store_rules.proofs.ViewLaws.{kind_below, some_row}
use Rattle.prop_store.specs.Reading.{properties_met}
use Rattle.prop_index.specs.Gathering.{is_hashed, is_picked, node_owner, nodes_with}
use Rattle.prop_index.specs.Looking.{found_in}
use Rattle.prop_index.proofs.Ascending.{Differs, sorted_is}
use Rattle.store_rules.proofs.Members.{ascends_collect, collect_contains, contains_collect, contains_map, map_contains, pairs_map, pairs_once}

-- ---- values

same_truth : (a b : Bool) → is_eq (bool_cmp a b) ≡ true → a ≡ b
same_truth true true h = refl
same_truth false false h = refl
same_truth true false h = absurd cc
same_truth false true h = absurd cc

-- values that compare so are one
pub value_one : (a b : Value) → is_eq (value_cmp a b) ≡ true → a ≡ b
value_one (values.Bool a) (values.Bool b) h = ap (λ t. values.Bool t) (same_truth a b h)
value_one (values.Bool a) (values.Int b) h = absurd (true≢false (sym h))
value_one (values.Bool a) (values.Text b) h = absurd (true≢false (sym h))
value_one (values.Int a) (values.Bool b) h = absurd (true≢false (sym h))
value_one (values.Int a) (values.Int b) h = ap (λ t. values.Int t) (int_cmp-IsAntisymmetric a b ((Equal-is (int_cmp a b)).0 h))
value_one (values.Int a) (values.Text b) h = absurd (true≢false (sym h))
value_one (values.Text a) (values.Bool b) h = absurd (true≢false (sym h))
value_one (values.Text a) (values.Int b) h = absurd (true≢false (sym h))
value_one (values.Text a) (values.Text b) h = ap (λ t. values.Text t) (slice_cmp-IsAntisymmetric nat_cmp-IsAntisymmetric a b
    ((Equal-is (slice_cmp nat_cmp a b)).0 h))

pub has_value-is : (value : Value) (o : Option Value) → has_value value o ≡ true → o ≡ Some value
has_value-is value None h = absurd (true≢false (sym h))
has_value-is value (Some other) h = ap (λ v. Some v) (value_one other value h)

-- a value of a key at a node of a label: the node is in use, and its properties have the value
pub record HasNodeValue (records : Records) (label key n : ℕ) (value : Value) : Type 0 where
  pub used : kind_at records format.nodes_file n ≢ format.free_kind
  pub met : value_in (properties_met records (node_owner n)) key ≡ Some value

pub node_value-some : (records : Records) (label key n : ℕ) (value : Value) → node_value records label key n ≡ Some value
    → HasNodeValue records label key n value
node_value-some records label key n value = by (node_at records n) refl
  where
    by : (o : Option NodeRow) → node_at records n ≡ o → row_value (property_records records) label key o ≡ Some value → HasNodeValue records label key n value
    by None is h = absurd cc
    by (Some row) is h =
        let at = some_row (kind_at records format.nodes_file n) (node_in (rec_at records format.nodes_file n) n) row is in
        let on = labelled (nat_eq row.label label) h in
        record { used = at.0; met = ap (λ (r : NodeRow). value_in (listed_from (property_records records) r.property) key) at.1 ∙ on }
      where
        labelled : (b : Bool) → cond b (value_in (listed_from (property_records records) row.property) key) None ≡ Some value
            → value_in (listed_from (property_records records) row.property) key ≡ Some value
        labelled true e = e
        labelled false e = absurd cc

-- ---- lists of entries

in_filter : (p : ℕ → Bool) (xs : List ℕ) (x : ℕ) → In x (filter p xs) → In x xs × (p x ≡ true)
in_filter p [] x i = elim i [ ]
in_filter p (y ∷ ys) x i = by (in_filter p ys x) (p y) refl i
  where
    by : (In x (filter p ys) → In x ys × (p x ≡ true)) → (b : Bool) → p y ≡ b → In x (cond b (y ∷ filter p ys) (filter p ys)) → In x (y ∷ ys) × (p x ≡ true)
    by rest true e (inl same) = (inl same, ap p same ∙ e)
    by rest true e (inr later) = let k = rest later in (inr k.0, k.1)
    by rest false e later = let k = rest later in (inr k.0, k.1)

filter_in : (p : ℕ → Bool) (xs : List ℕ) (x : ℕ) → In x xs → p x ≡ true → In x (filter p xs)
filter_in p [] x i e = i
filter_in p (y ∷ ys) x i e = by (λ k. filter_in p ys x k e) (p y) refl i
  where
    by : (In x ys → In x (filter p ys)) → (b : Bool) → p y ≡ b → In x (y ∷ ys) → In x (cond b (y ∷ filter p ys) (filter p ys))
    by rest true is (inl same) = inl same
    by rest true is (inr later) = inr (rest later)
    by rest false is (inl same) = absurd (true≢false (sym e ∙ ap p same ∙ is))
    by rest false is (inr later) = rest later

once_filter : (p : ℕ → Bool) (xs : List ℕ) → AreOnce xs → AreOnce (filter p xs)
once_filter p [] once = tt
once_filter p (y ∷ ys) once = by (once_filter p ys once.1) (p y)
  where
    by : AreOnce (filter p ys) → (b : Bool) → AreOnce (cond b (y ∷ filter p ys) (filter p ys))
    by rest true = (λ i. once.0 (in_filter p ys y i).0, rest)
    by rest false = rest

-- ---- a bucket of a store

module _ (s : State) (store : IsIndexed s.records s.shape) (d : ℕ) (listed : In d store.indexes.definitions) (value : Value) where
  abbrev records : Records
  records = s.records

  abbrev pub bucket : ℕ
  bucket = bucket_of (hash_of value)

  bucket_low : bucket < 180
  bucket_low = omega arith

  abbrev pub entries : List ℕ
  entries = store.indexes.lists d bucket

  is_bucket : IsBucket records (wanted_in records) d bucket entries
  is_bucket = store.indexes.buckets d bucket listed bucket_low

  abbrev label : ℕ
  label = indexed_label records d

  abbrev key : ℕ
  key = indexed_key records d

  pub walk : IsWalk (next_entry records) (first_entry records d bucket) entries
  walk = walk_of_chain _ _ _ _ entries is_bucket.chain

  entries_once : AreOnce entries
  entries_once = once_walk _ _ entries walk

  -- each entry's node has a value of the entry's hash
  pub has_one : (x : ℕ) → In x entries → (v : Value) × (node_value records label key (entry_node records x) ≡ Some v) × (hash_of v ≡ entry_hash records x)
  has_one x i = hash_had (entry_hash records x) (node_value records label key (entry_node records x)) (is_bucket.wanted_is x i)

  pub node_of_entry : (x : ℕ) → In x entries → kind_at records format.nodes_file (entry_node records x) ≢ format.free_kind
  node_of_entry x i = let v = has_one x i in (node_value-some records label key (entry_node records x) v.0 v.1).used

  -- what is read of it is what it has
  read_is : (x : ℕ) → In x entries → value_in (properties_met records (node_owner (entry_node records x))) key ≡ node_value records label key
      (entry_node records x)
  read_is x i = let v = has_one x i in (node_value-some records label key (entry_node records x) v.0 v.1).met ∙ sym v.1

  abbrev holds : ℕ → Bool
  holds n = has_value value (node_value records label key n)

  abbrev picked : ℕ → Bool
  picked x = is_picked records key (hash_of value) value x

  abbrev nodes : List ℕ
  nodes = nodes_with records key (hash_of value) value entries

  holds_low : (n : ℕ) → holds n ≡ true → n < high records format.nodes_file
  holds_low n h = kind_below (high records format.nodes_file) (rec_at records format.nodes_file n) n
      (node_value-some records label key n value (has_value-is value _ h)).used

  picked_holds : (x : ℕ) → In x entries → picked x ≡ true → holds (entry_node records x) ≡ true
  picked_holds x i h = ap (has_value value) (sym (read_is x i)) ∙ (and_parts (is_hashed records (hash_of value) x) _ h).1

  picked_hash : (x : ℕ) → picked x ≡ true → entry_hash records x ≡ hash_of value
  picked_hash x h = eqb-true (entry_hash records x) (hash_of value) (and_parts (is_hashed records (hash_of value) x) _ h).0

  test_some : (n : ℕ) → holds n ≡ true → if_test holds n ≡ Some n
  test_some n h = rw h refl

  some_test : (n m : ℕ) → if_test holds n ≡ Some m → (holds n ≡ true) × (n ≡ m)
  some_test n m = by (holds n)
    where
      by : (b : Bool) → cond b (Some n) None ≡ Some m → (b ≡ true) × (n ≡ m)
      by true e = (refl, cc)
      by false e = absurd cc

  onto : (n : ℕ) → Contains nodes n → Contains (ids holds (high records format.nodes_file)) n
  onto n is =
      let image = contains_map (entry_node records) (filter picked entries) n is in
      let kept = in_filter picked entries image.0 image.1 in
      let h : holds n ≡ true = ap holds image.2 ∙ picked_holds image.0 kept.0 kept.1 in
      collect_contains (if_test holds) (high records format.nodes_file) n n (holds_low n h) (test_some n h)

  back : (n : ℕ) → Contains (ids holds (high records format.nodes_file)) n → Contains nodes n
  back n is =
      let row = contains_collect (if_test holds) (high records format.nodes_file) n is in
      let test = some_test row.0 n row.2 in
      let h : holds n ≡ true = ap holds (sym test.1) ∙ test.0 in
      let has = has_value-is value (node_value records label key n) h in
      let e : Entry = record { label = label; key = key; node = n; hash = hash_of value } in
      let wanted : wanted_in records e ≡ true = ap (has_hash (hash_of value)) has ∙ eq_true (hash_of value) (hash_of value) refl in
      let found = store.indexes.all d e listed refl refl wanted in
      let at : entry_node records found.id ≡ n = ap (λ (z : Entry). z.node) found.is in
      let hashed : entry_hash records found.id ≡ hash_of value = ap (λ (z : Entry). z.hash) found.is in
      let reads : has_value value (value_in (properties_met records (node_owner (entry_node records found.id))) key) ≡ true
      = ap (has_value value) (read_is found.id found.member) ∙ ap holds at ∙ h in
      let is_one : picked found.id ≡ true = both (is_hashed records (hash_of value) found.id) _ (eq_true (entry_hash records found.id) (hash_of value) hashed)
      reads in
      subst (λ z. Contains nodes z) at (map_contains (entry_node records) (filter picked entries) found.id (filter_in picked entries found.id found.member
      is_one))
    where
      both : (a b : Bool) → a ≡ true → b ≡ true → (a && b) ≡ true
      both true true p q = refl
      both true false p q = q
      both false b p q = p

  distinct : AllPairs Differs nodes
  distinct = pairs_map Differs (entry_node records) (filter picked entries)
      (pairs_once (λ x y. entry_node records x ≢ entry_node records y) (filter picked entries) (once_filter picked entries entries_once)
      (λ x y i j ne e. let a = in_filter picked entries x i in let b = in_filter picked entries y j in
      ne (store.indexes.once d bucket x y listed bucket_low a.0 b.0 e (picked_hash x a.1 ∙ sym (picked_hash y b.1)))))

  -- sorted, the nodes of the bucket are those of the label whose key has the value
  pub found_sorted : (found : List ℕ) → IsPermutation nodes found → IsNonDecreasing found → found ≡ found_in records label key value
  found_sorted found moved sorted = sorted_is nodes found (ids holds (high records format.nodes_file)) distinct moved sorted
      (ascends_collect (λ n. n) (if_test holds) (high records format.nodes_file) (λ x z e. sym (some_test x z e).1)) onto back
