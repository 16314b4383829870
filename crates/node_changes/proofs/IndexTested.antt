-- What the test of a label and a key finds among the definitions.
use Rattle.std.proofs.Common.{◌≡◌, ⊎_elim, inl, inr, ℕ, ◌+◌, ◌<◌, ◌≤◌, nat_eq, nat_lt, Bool, true, false, ◌&&◌, ◌||◌}
use Rattle.std.proofs.Common.{cond, Some, List, [], ◌∷◌, length, map, slice_get, Contains, ap, sym, ◌∙◌, arith, refl}
use Rattle.std.specs.List.{list_any, sum_by}
use Rattle.std.proofs.lemmas.Bool.{false≢true}
use Rattle.std.proofs.lemmas.List.Sums.{sum_by-cons}
use Rattle.std.proofs.lemmas.List.{length-map}
use Rattle.plain_graph.specs.Graph.{Index}
use Rattle.plain_graph.proofs.PropertyLaws.{same_key}
use Rattle.plain_graph.specs.Indexes.{has_index, is_of}
use Rattle.plain_graph.specs.Refusals.{FirstReason, index_there}
use Rattle.plain_graph.specs.Values.{is_text}
use Rattle.plain_graph.specs.declared.command.Command.TheVariants as commands
use Rattle.plain_graph.specs.declared.refusal.Refusal.{Refusal}
use Rattle.plain_graph.specs.declared.refusal.Refusal.TheVariants as refusals
use Rattle.rec_bytes.specs.Format as format
use Rattle.rec_bytes.specs.Space.{State}
use Rattle.store_rules.specs.Chains.{In}
use Rattle.store_rules.specs.Indexes.{indexed_key, indexed_label, wanted_in}
use Rattle.store_rules.specs.Views.{Records, high, rec_at}
use Rattle.store_rules.proofs.NumberLaws.{and_parts, lt_true}
use Rattle.name_store.proofs.FirstNames.{contains_at, first-names_of, length-names_of}
use Rattle.prop_index.specs.Listing.{ArePairsMet, pair_of}
use Rattle.prop_index.specs.declared.listing.IndexPair.{IndexPair}
use Rattle.change_parts.specs.Causes.{HasIndexOf, HasManyDefinitions}
use Rattle.node_changes.specs.Entries.{is_listed, is_pair}
use Rattle.node_changes.specs.Indexing.{IsPairOf, MayIndex, pair_reasons}
use Rattle.change_parts.specs.Store.{IsStore}
use Rattle.change_parts.proofs.GraphPairs.{any_in, apart, index_at, is_among, same_number, sum_indexes, text}
use Rattle.node_changes.proofs.IndexNumbers.{key_number, pair_named}
use Rattle.change_parts.proofs.LineNames.{some_names}
use Rattle.change_parts.proofs.NameNumbers.{number_in}
use Rattle.node_changes.proofs.PairWeights.{text_test}
use Rattle.store_rules.specs.Graph.{graph_in}

-- ---- pairs that are listed, and definitions

pub listed_among : (s : Records) (ds : List ℕ) (l k : ℕ) → is_listed (map (pair_of s) ds) l k ≡ is_among s ds l k
listed_among s [] l k = refl
listed_among s (d ∷ ds) l k = ap (λ b. is_pair l k (pair_of s d) || b) (listed_among s ds l k)

-- a pair that is listed has a definition
pub listed_has : (s : Records) (ds : List ℕ) (l k : ℕ) → is_listed (map (pair_of s) ds) l k ≡ true → (d : ℕ) × In d ds × (indexed_label s d ≡ l)
    × (indexed_key s d ≡ k)
listed_has s ds l k is =
    let found = any_in (λ d. nat_eq (indexed_label s d) l && nat_eq (indexed_key s d) k) ds (sym (listed_among s ds l k) ∙ is) in
    let both = and_parts (nat_eq (indexed_label s found.0) l) (nat_eq (indexed_key s found.0) k) found.2 in
    (found.0, found.1, same_number (indexed_label s found.0) l both.0, same_number (indexed_key s found.0) k both.1)

-- ---- over any records

pub there_caused : (s : Records) (names : List (List ℕ)) (pairs : List IndexPair) (label key : List ℕ) (pair : IndexPair) → ArePairsMet s pairs
    → IsPairOf names label key pair → is_listed pairs pair.label pair.key ≡ true → HasIndexOf s names label key
there_caused s names pairs label key pair met numbers is =
    let used = some_names names (label ∷ key ∷ []) in
    let at = pair_named names label key pair numbers used.0 used.1 in
    let found = listed_has s met.definitions pair.label pair.key (ap (λ xs. is_listed xs pair.label pair.key) (sym met.pairs_are) ∙ is) in
    (used.0, used.1, (found.0, met.defined found.0 found.1, ap (slice_get used.0) found.2 ∙ at.0, ap (slice_get used.0) found.3 ∙ at.1))

pub many_caused : (s : Records) (pairs : List IndexPair) → ArePairsMet s pairs → 16 ≤ length pairs → HasManyDefinitions s
many_caused s pairs met many = (met.definitions, met.walk, let n = ap length met.pairs_are ∙ length-map met.definitions (pair_of s) in omega (arith, n, many))

-- ---- in a store

some_text : (a b : List ℕ) → Some a ≡ Some b → a ≡ b
some_text a b e = cc

ones : (xs : List ℕ) → sum_by (λ x. 1) xs ≡ length xs
ones [] = refl
ones (x ∷ xs) = let rest = ones xs in let here = sum_by-cons (λ (x : ℕ). 1) x xs in omega arith

index_ones : (xs : List Index) → sum_by (λ x. 1) xs ≡ length xs
index_ones [] = refl
index_ones (x ∷ xs) = let rest = index_ones xs in let here = sum_by-cons (λ (x : Index). 1) x xs in omega arith

-- a list has an element that passes where as many as pass are some
any_sum : {E : Type 0} (test : E → Bool) (xs : List E) → list_any test xs ≡ nat_lt 0 (sum_by (λ x. cond (test x) 1 0) xs)
any_sum test [] = refl
any_sum test (x ∷ xs) = step (test x) (any_sum test xs) ∙ sym (ap (nat_lt 0) (sum_by-cons (λ x. cond (test x) 1 0) x xs))
  where
    step : (b : Bool) → list_any test xs ≡ nat_lt 0 (sum_by (λ x. cond (test x) 1 0) xs)
        → (b || list_any test xs) ≡ nat_lt 0 (cond b 1 0 + sum_by (λ x. cond (test x) 1 0) xs)
    step true rest = sym (lt_true 0 (1 + sum_by (λ x. cond (test x) 1 0) xs) (omega arith))
    step false rest = rest ∙ ap (nat_lt 0) (plus (sum_by (λ x. cond (test x) 1 0) xs))
      where
        plus : (n : ℕ) → n ≡ 0 + n
        plus n = omega arith

any_same : (f g : ℕ → Bool) (xs : List ℕ) → ((x : ℕ) → In x xs → f x ≡ g x) → list_any f xs ≡ list_any g xs
any_same f g [] same = refl
any_same f g (x ∷ xs) same = λ i. same x (inl refl) i || any_same f g xs (λ y j. same y (inr j)) i

any_none : (f : ℕ → Bool) (xs : List ℕ) → ((x : ℕ) → In x xs → f x ≡ true → ⊥) → list_any f xs ≡ false
any_none f [] none = refl
any_none f (x ∷ xs) none = by (f x) (none x (inl refl)) (any_none f xs (λ y j. none y (inr j)))
  where
    by : (b : Bool) → (b ≡ true → ⊥) → list_any f xs ≡ false → (b || list_any f xs) ≡ false
    by true clash rest = absurd (clash refl)
    by false clash rest = rest

module _ (s : State) (names : List (List ℕ)) (whole : IsStore s names) where
  abbrev ds : List ℕ
  ds = whole.store.indexes.definitions

  low : (d : ℕ) → In d ds → (indexed_label s.records d < high s.records format.names_file) × (indexed_key s.records d < high s.records format.names_file)
  low d i = (apart s.records whole.store.store.defined (wanted_in s.records) whole.store.indexes).named d i

  sums : (f : Index → ℕ) → sum_by f (graph_in s).indexes ≡ sum_by (λ d. f (index_at s.records (indexed_label s.records d) (indexed_key s.records d))) ds
  sums f = sum_indexes s.records whole.store.store.defined (wanted_in s.records) whole.store.indexes f

  pub index_count_is : length (graph_in s).indexes ≡ length ds
  index_count_is = sym (index_ones (graph_in s).indexes) ∙ sums (λ x. 1) ∙ ones ds

  module _ (label key : List ℕ) where
    abbrev is_index_of : ℕ → Bool
    is_index_of d = is_of label key (index_at s.records (indexed_label s.records d) (indexed_key s.records d))

    has_among : has_index (graph_in s) label key ≡ list_any is_index_of ds
    has_among = any_sum (is_of label key) (graph_in s).indexes ∙ ap (nat_lt 0) (sums (λ x. cond (is_of label key x) 1 0)) ∙ sym (any_sum is_index_of ds)

    -- by the numbers of the names
    pub known_index : (l k : ℕ) → slice_get names l ≡ Some label → slice_get names k ≡ Some key → has_index (graph_in s) label key ≡ is_among s.records ds l k
    known_index l k label_at key_at =
        has_among
        ∙ any_same is_index_of (λ d. nat_eq (indexed_label s.records d) l && nat_eq (indexed_key s.records d) k) ds (λ d i.
        let own = low d i in
        let first = number_in s.records names l label whole.names label_at in
        let second = number_in s.records names k key whole.names key_at in
        let test = text_test (rec_at s.records format.names_file) (high s.records format.names_file) whole.store.store.names in
        λ j. (ap (is_text (text s.records (indexed_label s.records d))) (sym first.1) ∙ test (indexed_label s.records d) l own.0 first.0) j
        && (ap (is_text (text s.records (indexed_key s.records d))) (sym second.1) ∙ test (indexed_key s.records d) k own.1 second.0) j)

    known : (x : ℕ) (name : List ℕ) → x < high s.records format.names_file → is_text (text s.records x) name ≡ true → Contains names name
    known x name lt same =
        contains_at names x name (ap (λ ns. slice_get ns x) whole.names ∙ first-names_of s.records x lt ∙ ap (λ n. Some n) (same_key (text s.records x)
        name same))

    -- a text that is no name has no index
    pub label_unknown : ¬ Contains names label → has_index (graph_in s) label key ≡ false
    label_unknown lacks = has_among ∙ any_none is_index_of ds (λ d i is. lacks (known (indexed_label s.records d) label (low d i).0
        (and_parts (is_text (text s.records (indexed_label s.records d)) label) _ is).0))

    pub key_unknown : ¬ Contains names key → has_index (graph_in s) label key ≡ false
    key_unknown lacks = has_among ∙ any_none is_index_of ds (λ d i is. lacks (known (indexed_key s.records d) key (low d i).1
        (and_parts (is_text (text s.records (indexed_label s.records d)) label) _ is).1))

    -- ---- by the pairs that are listed

    module _ (pairs : List IndexPair) (are : pairs ≡ map (pair_of s.records) ds) where
      listed_is : (l k : ℕ) → is_among s.records ds l k ≡ is_listed pairs l k
      listed_is l k = sym (listed_among s.records ds l k) ∙ ap (λ xs. is_listed xs l k) (sym are)

      names_high : length names ≡ high s.records format.names_file
      names_high = ap length whole.names ∙ length-names_of s.records

      module _ (pair : IndexPair) (numbers : IsPairOf names label key pair) where
        -- the numbers of a pair that is listed are those of names
        pub listed_there : is_listed pairs pair.label pair.key ≡ true → has_index (graph_in s) label key ≡ true
        listed_there is =
            let found = listed_has s.records ds pair.label pair.key (ap (λ xs. is_listed xs pair.label pair.key) (sym are) ∙ is) in
            let own = low found.0 found.1 in
            let n = names_high in
            let label_same = found.2 in
            let key_same = found.3 in
            let label_at : slice_get names pair.label ≡ Some label = ⊎_elim (λ (at : slice_get names pair.label ≡ Some label). at)
            (λ (new : (¬ Contains names label) × (pair.label ≡ length names)). let e = new.1 in let lt = own.0 in absurd (omega (arith, n, e, lt, label_same)))
            numbers.label_is in
            let key_at : slice_get names pair.key ≡ Some key = ⊎_elim (λ (at : slice_get names pair.key ≡ Some key). at)
            (λ (new : (¬ Contains names key) × (pair.key ≡ length names)). let e = new.1 in let lt = own.1 in absurd (omega (arith, n, e, lt, key_same)))
            (key_number names label key pair numbers label_at) in
            known_index pair.label pair.key label_at key_at ∙ listed_is pair.label pair.key ∙ is

        pub unlisted_free : is_listed pairs pair.label pair.key ≡ false → has_index (graph_in s) label key ≡ false
        unlisted_free is = ⊎_elim
            (λ (label_at : slice_get names pair.label ≡ Some label). ⊎_elim
            (λ (key_at : slice_get names pair.key ≡ Some key). known_index pair.label pair.key label_at key_at ∙ listed_is pair.label pair.key ∙ is)
            (λ (new : (¬ Contains names key) × (pair.key ≡ length names)). key_unknown new.0) (key_number names label key pair numbers label_at))
            (λ (new : (¬ Contains names label) × (pair.label ≡ length names)). label_unknown new.0) numbers.label_is

      pub pairs_long : length pairs ≡ length ds
      pairs_long = ap length are ∙ length-map ds (pair_of s.records)

    -- ---- the answers

    none_there : has_index (graph_in s) label key ≡ false → (other : Refusal) → ¬ index_there s.shape.limit (graph_in s) (commands.Index label key) other
    none_there free other why = false≢true (sym free ∙ why.0)

    pub may_index : has_index (graph_in s) label key ≡ false → length ds < 16 → MayIndex s label key
    may_index free few = (none_there free, ((λ other why. let n = index_count_is in let many = why.0 in absurd (omega (arith, n, many, few))), tt))

    pub there_first : has_index (graph_in s) label key ≡ true → FirstReason pair_reasons s.shape.limit (graph_in s) (commands.Index label key)
        refusals.IndexThere
    there_first has = inl (has, refl)

    pub many_first : has_index (graph_in s) label key ≡ false → 16 ≤ length ds
        → FirstReason pair_reasons s.shape.limit (graph_in s) (commands.Index label key) refusals.TooManyIndexes
    many_first free many = inr (none_there free, inl (let n = index_count_is in omega (arith, n, many), refl))
