-- The indexes of the graph are those of the definitions, one for one.
use Rattle.std.proofs.Common.{◌≡◌, ◌≢◌, ⊎_elim, inl, inr, ℕ, zero, suc, ◌+◌, ◌<◌, nat_eq, nat_lt, Bool, true, false}
use Rattle.std.proofs.Common.{◌&&◌, ◌||◌, if◌then◌else◌, cond, Option, None, Some, List, [], ◌∷◌, length, ap, sym, ◌∙◌}
use Rattle.std.proofs.Common.{subst, arith, refl}
use Rattle.std.specs.List.{flat_map, list_any, sum_by}
use Rattle.std.proofs.lemmas.Bool.{false≢true}
use Rattle.std.proofs.lemmas.List.Sums.{sum_by-append, sum_by-cons}
use Rattle.plain_graph.specs.Graph.{Index}
use Rattle.rec_bytes.specs.Format as format
use Rattle.store_rules.specs.Chains.{In}
use Rattle.store_rules.specs.Graph.{index_from, indexes_of, is_definition_of}
use Rattle.store_rules.specs.Indexes.{AreIndexed, Entries, IsDefinition, IsEntry, IsHeads, IsOfIndex, first_definition}
use Rattle.store_rules.specs.Indexes.{indexed_key, indexed_label, next_definition}
use Rattle.store_rules.specs.Properties.{AreOnce}
use Rattle.rec_bytes.specs.Meta as metas
use Rattle.store_rules.specs.RuleList.{IsSameFile}
use Rattle.store_rules.specs.Rows.{collect, ids, option_list}
use Rattle.store_rules.specs.Views.{Records, high, kind_at, kind_in, rec_at, text_of}
use Rattle.store_rules.proofs.Counts.{ids_in, in_ids}
use Rattle.store_rules.proofs.DefinedStays.{Defines}
use Rattle.store_rules.proofs.NumberLaws.{and_parts, eq_false, eq_true, lt_true, nat_cases}
use Rattle.store_rules.proofs.OnceLaws.{once_walk}
use Rattle.store_rules.proofs.ViewLaws.{kind_below, live_true}

-- ---- sums over the numbers below a mark

abbrev pub total : (ℕ → ℕ) → ℕ → ℕ
total f zero = 0
total f (suc n) = total f n + f n

total_both : (f g h : ℕ → ℕ) (n : ℕ) → ((x : ℕ) → h x ≡ f x + g x) → total h n ≡ total f n + total g n
total_both f g h zero each = refl
total_both f g h (suc n) each = let rest = total_both f g h n each in let here = each n in omega arith

total_none : (f : ℕ → ℕ) (n : ℕ) → ((x : ℕ) → f x ≡ 0) → total f n ≡ 0
total_none f zero none = refl
total_none f (suc n) none = let rest = total_none f n none in let here = none n in omega arith

total_below : (f : ℕ → ℕ) (n : ℕ) → ((x : ℕ) → x < n → f x ≡ 0) → total f n ≡ 0
total_below f zero none = refl
total_below f (suc n) none = let rest = total_below f n (λ x lt. none x (omega arith)) in let here = none n (omega arith) in omega arith

-- where one number alone counts
total_one : (f : ℕ → ℕ) (n x : ℕ) → x < n → ((y : ℕ) → y ≢ x → f y ≡ 0) → total f n ≡ f x
total_one f zero x lt others = absurd (omega arith)
total_one f (suc n) x lt others = ⊎_elim
    (λ (e : x ≡ n). let rest = total_below f n (λ y low. others y (λ q. omega (arith, low, q, e))) in let here = ap f e in omega arith)
    (λ (ne : x ≢ n). let rest = total_one f n x (omega arith) others in let here = others n (λ e. ne (sym e)) in omega arith)
    (nat_cases x n)

-- ---- what a test finds in a list

pub any_in : (test : ℕ → Bool) (xs : List ℕ) → list_any test xs ≡ true → (x : ℕ) × In x xs × (test x ≡ true)
any_in test [] e = absurd cc
any_in test (x ∷ xs) e = by (test x) refl (λ rest. any_in test xs rest) e
  where
    by : (b : Bool) → test x ≡ b → (list_any test xs ≡ true → (y : ℕ) × In y xs × (test y ≡ true)) → (b || list_any test xs) ≡ true → (y : ℕ) × In y (x ∷ xs)
        × (test y ≡ true)
    by true is later e = (x, inl refl, is)
    by false is later e = let found = later e in (found.0, inr found.1, found.2)

pub in_any : (test : ℕ → Bool) (x : ℕ) (xs : List ℕ) → In x xs → test x ≡ true → list_any test xs ≡ true
in_any test x [] i pass = elim i [ ]
in_any test x (y ∷ xs) (inl e) pass = rw (ap test (sym e) ∙ pass) refl
in_any test x (y ∷ xs) (inr i) pass = by (test y) (in_any test x xs i pass)
  where
    by : (b : Bool) → list_any test xs ≡ true → (b || list_any test xs) ≡ true
    by true later = refl
    by false later = later

pub same_number : (a b : ℕ) → nat_eq a b ≡ true → a ≡ b
same_number a b e = ⊎_elim (λ q. q) (λ ne. absurd (false≢true (sym (eq_false a b ne) ∙ e))) (nat_cases a b)

pub same_truth : (a b : Bool) → (a ≡ true → b ≡ true) → (b ≡ true → a ≡ true) → a ≡ b
same_truth true b one two = sym (one refl)
same_truth false true one two = two refl
same_truth false false one two = refl

-- ---- the indexes of a graph

module _ (s : Records) where
  abbrev pub count : ℕ
  count = high s format.names_file

  abbrev pub text : ℕ → List ℕ
  text x = text_of (rec_at s format.names_file x)

  abbrev pub index_at : ℕ → ℕ → Index
  index_at l k = record { label = text l; key = text k }

  abbrev defines : ℕ → ℕ → ℕ → Bool
  defines = is_definition_of (kind_at s format.index_file) (rec_at s format.index_file)

  abbrev pub is_defined : ℕ → ℕ → Bool
  is_defined l k = nat_lt 0 (length (ids (defines l k) (high s format.index_file)))

  abbrev row : ℕ → ℕ → Option Index
  row = index_from (kind_at s format.index_file) (rec_at s format.index_file) (high s format.index_file) (rec_at s format.names_file)

  -- what a pair counts, if it passes a test
  abbrev counted : (Index → ℕ) → (ℕ → ℕ → Bool) → ℕ → ℕ → ℕ
  counted f test l k = cond (test l k) (f (index_at l k)) 0

  sum_row : (f : Index → ℕ) (l n : ℕ) → sum_by f (collect (row l) n) ≡ total (counted f is_defined l) n
  sum_row f l zero = refl
  sum_row f l (suc n) = sum_by-append f (collect (row l) n) (option_list (row l n)) ∙ (λ i. sum_row f l n i + one (is_defined l n) i)
    where
      one : (b : Bool) → sum_by f (option_list (if b then Some (index_at l n) else None)) ≡ cond b (f (index_at l n)) 0
      one true = omega arith
      one false = refl

  sum_rows : (f : Index → ℕ) (xs : List ℕ) → sum_by f (flat_map (λ l. collect (row l) count) xs) ≡ sum_by (λ l. total (counted f is_defined l) count) xs
  sum_rows f [] = refl
  sum_rows f (l ∷ xs) =
      let both = sum_by-append f (collect (row l) count) (flat_map (λ l. collect (row l) count) xs) in
      let here = sum_row f l count in
      let later = sum_rows f xs in
      let first = sum_by-cons (λ l. total (counted f is_defined l) count) l xs in
      omega arith

  sum_ids : (h : ℕ → ℕ) (n : ℕ) → sum_by h (ids (λ x. true) n) ≡ total h n
  sum_ids h zero = refl
  sum_ids h (suc n) = let rest = sum_ids h n in let more = sum_by-append h (ids (λ x. true) n) (n ∷ []) in omega arith

  -- a sum over the indexes is one over the pairs of names that are defined
  sum_pairs : (f : Index → ℕ) → sum_by f (indexes_of s) ≡ total (λ l. total (counted f is_defined l) count) count
  sum_pairs f = sum_rows f (ids (λ x. true) count) ∙ sum_ids (λ l. total (counted f is_defined l) count) count

  -- ---- by definitions

  abbrev pub has_pair : ℕ → ℕ → ℕ → Bool
  has_pair l k d = nat_eq (indexed_label s d) l && nat_eq (indexed_key s d) k

  abbrev pub is_among : List ℕ → ℕ → ℕ → Bool
  is_among ds l k = list_any (has_pair l k) ds

  abbrev pub of_definition : (Index → ℕ) → ℕ → ℕ
  of_definition f d = f (index_at (indexed_label s d) (indexed_key s d))

  -- each has its own pair, of names
  pub record AreApart (ds : List ℕ) : Type 0 where
    pub named : (d : ℕ) → In d ds → (indexed_label s d < count) × (indexed_key s d < count)
    pub distinct : (d e : ℕ) → In d ds → In e ds → indexed_label s d ≡ indexed_label s e → indexed_key s d ≡ indexed_key s e → d ≡ e
    pub once : AreOnce ds

  pub pair_is : (l k d : ℕ) → has_pair l k d ≡ true → (indexed_label s d ≡ l) × (indexed_key s d ≡ k)
  pair_is l k d e = let both = and_parts (nat_eq (indexed_label s d) l) (nat_eq (indexed_key s d) k) e in
      (same_number (indexed_label s d) l both.0, same_number (indexed_key s d) k both.1)

  -- a sum over definitions is one over their pairs
  sum_among : (f : Index → ℕ) (ds : List ℕ) → AreApart ds → total (λ l. total (counted f (is_among ds) l) count) count ≡ sum_by (of_definition f) ds
  sum_among f [] apart = total_none (λ l. total (counted f (is_among []) l) count) count (λ l. total_none (counted f (is_among []) l) count (λ k. refl))
  sum_among f (d ∷ ds) apart =
      total_both (λ l. total (counted f (λ l k. has_pair l k d) l) count) (λ l. total (counted f (is_among ds) l) count)
      (λ l. total (counted f (is_among (d ∷ ds)) l) count) count
      (λ l. total_both (counted f (λ l k. has_pair l k d) l) (counted f (is_among ds) l) (counted f (is_among (d ∷ ds)) l) count
      (λ k. parts l k (has_pair l k d) (is_among ds l k) refl refl))
      ∙ (let first = sum_by-cons (of_definition f) d ds in let here = mine in let later = sum_among f ds rest in omega arith)
    where
      rest : AreApart ds
      rest = record { named = λ e i. apart.named e (inr i); distinct = λ e g i j. apart.distinct e g (inr i) (inr j); once = apart.once.1 }

      -- no other one has the pair
      parts : (l k : ℕ) (a b : Bool) → has_pair l k d ≡ a → is_among ds l k ≡ b
          → cond (a || b) (f (index_at l k)) 0 ≡ cond a (f (index_at l k)) 0 + cond b (f (index_at l k)) 0
      parts l k false b is other = omega arith
      parts l k true false is other = omega arith
      parts l k true true is other =
          let found = any_in (has_pair l k) ds other in
          let p = pair_is l k d is in
          let q = pair_is l k found.0 found.2 in
          absurd (apart.once.0 (subst (λ z. In z ds) (sym (apart.distinct d found.0 (inl refl) (inr found.1) (p.0 ∙ sym q.0) (p.1 ∙ sym q.1))) found.1))

      low : (indexed_label s d < count) × (indexed_key s d < count)
      low = apart.named d (inl refl)

      mine : total (λ l. total (counted f (λ l k. has_pair l k d) l) count) count ≡ of_definition f d
      mine =
          total_one (λ l. total (counted f (λ l k. has_pair l k d) l) count) count (indexed_label s d) low.0
          (λ l ne. total_none (counted f (λ l k. has_pair l k d) l) count (λ k. off (nat_eq (indexed_label s d) l) (nat_eq (indexed_key s d) k)
          (f (index_at l k)) (eq_false (indexed_label s d) l (λ e. ne (sym e)))))
          ∙ total_one (counted f (λ l k. has_pair l k d) (indexed_label s d)) count (indexed_key s d) low.1
          (λ k ne. off_key (nat_eq (indexed_label s d) (indexed_label s d)) (nat_eq (indexed_key s d) k) (f (index_at (indexed_label s d) k))
          (eq_false (indexed_key s d) k (λ e. ne (sym e))))
          ∙ rw (eq_true (indexed_label s d) (indexed_label s d) refl, eq_true (indexed_key s d) (indexed_key s d) refl) refl
        where
          off : (a b : Bool) (n : ℕ) → a ≡ false → cond (a && b) n 0 ≡ 0
          off a b n is = ap (λ z. cond (z && b) n 0) is

          off_key : (a b : Bool) (n : ℕ) → b ≡ false → cond (a && b) n 0 ≡ 0
          off_key true b n is = ap (λ z. cond z n 0) is
          off_key false b n is = refl

  -- ---- in a store

  module _ (wanted : Entries) (ix : AreIndexed s wanted) where
    -- a pair is defined where a definition has it
    pub defined_among : (l k : ℕ) → is_defined l k ≡ is_among ix.definitions l k
    defined_among l k = same_truth (is_defined l k) (is_among ix.definitions l k) one two
      where
        marks : ℕ
        marks = high s format.index_file

        of_length : (n : ℕ) → nat_lt 0 n ≡ true → n ≢ 0
        of_length zero e q = absurd cc
        of_length (suc n) e q = omega arith

        of_test : (d : ℕ) → defines l k d ≡ true → (kind_at s format.index_file d ≡ format.definition) × (has_pair l k d ≡ true)
        of_test d is = let both = and_parts (nat_eq (kind_at s format.index_file d) format.definition) (has_pair l k d) is in
            (same_number (kind_at s format.index_file d) format.definition both.0, both.1)

        -- one of the definitions
        is_one : (d : ℕ) → defines l k d ≡ true → IsOfIndex s ix.definitions ix.lists d → In d ix.definitions
        is_one d is (IsDefinition i) = i
        is_one d is (IsHeads e c i lt q) = absurd (let a = (of_test d is).0 in let b = ix.heads e c i lt in let z = ap (kind_at s format.index_file) q in omega
            (arith, a, b, z))
        is_one d is (IsEntry e b i lt m) = absurd (let a = (of_test d is).0 in let z = (ix.buckets e b i lt).kind d m in omega (arith, a, z))

        one : is_defined l k ≡ true → is_among ix.definitions l k ≡ true
        one is = by (ids (defines l k) marks) refl is
          where
            by : (xs : List ℕ) → ids (defines l k) marks ≡ xs → nat_lt 0 (length xs) ≡ true → is_among ix.definitions l k ≡ true
            by [] e q = absurd cc
            by (d ∷ xs) e q =
                let found = ids_in (defines l k) marks d (subst (In d) (sym e) (inl refl)) in
                let test = of_test d found.1 in
                in_any (has_pair l k) d ix.definitions (is_one d found.1 (ix.held d (live_true (kind_at s format.index_file d)
                (λ z. let k = sym z ∙ test.0 in omega arith)))) test.1

        two : is_among ix.definitions l k ≡ true → is_defined l k ≡ true
        two is =
            let found = any_in (has_pair l k) ix.definitions is in
            let kind = ix.defined found.0 found.1 in
            let lt = kind_below marks (rec_at s format.index_file found.0) found.0 (λ e. let q = sym e ∙ kind in omega arith) in
            some (ids (defines l k) marks) found.0 (in_ids (defines l k) marks found.0 lt (rw (eq_true (kind_at s format.index_file found.0) format.definition
            kind) found.2))
          where
            some : (xs : List ℕ) (d : ℕ) → In d xs → nat_lt 0 (length xs) ≡ true
            some [] d i = elim i [ ]
            some (x ∷ xs) d i = lt_true 0 (suc (length xs)) (omega arith)

  module _ (defined : Defines s) (wanted : Entries) (ix : AreIndexed s wanted) where
    pub apart : AreApart ix.definitions
    apart = record {
      named = λ d i. let kind = ix.defined d i in (defined.labels d kind, defined.keys d kind);
      distinct = ix.distinct;
      once = once_walk (next_definition s) (first_definition s) ix.definitions ix.walk;
    }

    -- A sum over the indexes of the graph is one over the definitions.
    pub sum_indexes : (f : Index → ℕ) → sum_by f (indexes_of s) ≡ sum_by (of_definition f) ix.definitions
    sum_indexes f =
        sum_pairs f
        ∙ (λ i. total (λ l. total (λ k. cond (defined_among wanted ix l k i) (f (index_at l k)) 0) count) count)
        ∙ sum_among f ix.definitions apart

-- the pairs are those of the file of the indexes
pub defined_same : (s t : Records) → IsSameFile s t format.index_file → (l k : ℕ) → is_defined t l k ≡ is_defined s l k
defined_same s t same l k = λ i. nat_lt 0 (length (ids (is_definition_of (λ x. kind_in (metas.meta_of (same.meta i)).high (same.records i x) x) (same.records i)
    l k) (metas.meta_of (same.meta i)).high))
