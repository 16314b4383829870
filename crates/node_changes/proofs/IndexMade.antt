-- The graph has the index that is made.
use Rattle.std.proofs.Common.{◌≡◌, ◌≢◌, ◌⊎◌, ⊎_elim, ℕ, zero, suc, ◌<◌, nat_eq, nat_lt, Bool, true, false, ◌&&◌, ◌||◌}
use Rattle.std.proofs.Common.{if◌then◌else◌, Option, None, Some, List, [], ◌∷◌, slice_get, ap, sym, ◌∙◌, arith, refl}
use Rattle.std.specs.List.{flat_map}
use Rattle.plain_graph.specs.Graph.{Index}
use Rattle.plain_graph.specs.Indexes.{is_before, place_in, with_index}
use Rattle.plain_graph.specs.Values.{is_text}
use Rattle.rec_bytes.specs.Format as format
use Rattle.rec_bytes.specs.Space.{State}
use Rattle.store_rules.specs.Graph.{indexes_of, names_of}
use Rattle.store_rules.specs.Indexes.{IsIndexed, wanted_in}
use Rattle.store_rules.specs.Rows.{collect, ids}
use Rattle.store_rules.specs.Views.{high, rec_at, text_of}
use Rattle.store_rules.proofs.NumberLaws.{eq_false, eq_true, lt_false, lt_true}
use Rattle.name_store.proofs.FirstNames.{first-names_of}
use Rattle.prop_index.specs.Making.{WritesIndex}
use Rattle.node_changes.specs.Entries.{is_listed}
use Rattle.change_parts.proofs.GraphPairs.{defined_among, index_at, is_defined, text}
use Rattle.node_changes.proofs.IndexBeside.{KeepsBesideIndex, file_same, mark_same}
use Rattle.node_changes.proofs.IndexPlaced.{table_placed}
use Rattle.node_changes.proofs.IndexTested.{listed_among}
use Rattle.node_changes.proofs.PairWeights.{text_test}

-- the place of a name among distinct ones is its number
place_at : (names : List (List ℕ)) (i : ℕ) (name : List ℕ) → slice_get names i ≡ Some name → is_text name name ≡ true
    → ((j : ℕ) (other : List ℕ) → j < i → slice_get names j ≡ Some other → is_text other name ≡ false) → place_in names name ≡ i
place_at [] i name at own others = absurd cc
place_at (x ∷ names) zero name at own others = ap (λ b. if b then 0 else suc (place_in names name)) (ap (λ y. is_text y name) (inner x name at) ∙ own)
  where
    inner : (a b : List ℕ) → Some a ≡ Some b → a ≡ b
    inner a b e = cc
place_at (x ∷ names) (suc i) name at own others =
    ap (λ b. if b then 0 else suc (place_in names name)) (others 0 x (omega arith) refl)
    ∙ ap suc (place_at names i name at own (λ j other lt is. others (suc j) other (omega arith) is))

module _ (m t : State) (l k : ℕ) (was : IsIndexed m.records m.shape) (made : WritesIndex m t l k was) where
  beside : KeepsBesideIndex m.records t.records
  beside = record { others = λ key file meta. made.others key file meta }

  name_file : rec_at t.records format.names_file ≡ rec_at m.records format.names_file
  name_file = file_same m.records t.records beside format.names_file refl (λ e. omega arith)

  name_mark : high t.records format.names_file ≡ high m.records format.names_file
  name_mark = mark_same m.records t.records beside format.names_file (λ e. omega arith)

  abbrev mark : ℕ
  mark = high m.records format.names_file

  defined_now : (a b : ℕ) → is_defined t.records a b ≡ ((nat_eq l a && nat_eq k b) || is_defined m.records a b)
  defined_now a b =
      defined_among t.records (wanted_in t.records) made.store.indexes a b
      ∙ sym (listed_among t.records made.store.indexes.definitions a b)
      ∙ ap (λ ps. is_listed ps a b) made.pairs
      ∙ ap (λ z. (nat_eq l a && nat_eq k b) || z) (listed_among m.records was.indexes.definitions a b ∙ sym (defined_among m.records (wanted_in m.records)
      was.indexes a b))

  -- rows of the table of pairs
  abbrev old : ℕ → ℕ → Option Index
  old a b = if is_defined m.records a b then Some (index_at m.records a b) else None

  abbrev now : ℕ → ℕ → Option Index
  now a b = if (nat_eq l a && nat_eq k b) || is_defined m.records a b then Some (index_at m.records a b) else None

  places : (x : ℕ) → x < mark → place_in (names_of m.records) (text m.records x) ≡ x
  places x lt =
      place_at (names_of m.records) x (text m.records x) (first-names_of m.records x lt) (test x x lt lt ∙ eq_true x x refl)
      (λ j other low at. ap (λ y. is_text y (text m.records x)) (inner other (text m.records j) (sym at ∙ first-names_of m.records j (omega (arith, low, lt))))
      ∙ test j x (omega (arith, low, lt)) lt ∙ eq_false j x (λ e. omega (arith, low, e)))
    where
      test : (a b : ℕ) → a < mark → b < mark → is_text (text m.records a) (text m.records b) ≡ nat_eq a b
      test = text_test (rec_at m.records format.names_file) mark was.store.names

      inner : (a b : List ℕ) → Some a ≡ Some b → a ≡ b
      inner a b e = cc

  module _ (l_low : l < mark) (k_low : k < mark) (fresh : is_defined m.records l k ≡ false) where
    abbrev one : Index
    one = index_at m.records l k

    before : (a b : ℕ) → a < mark → b < mark → is_before (names_of m.records) one (index_at m.records a b) ≡ (nat_lt l a || (nat_eq l a && nat_lt k b))
    before a b al bl = λ i. nat_lt (places l l_low i) (places a al i) ||
        (text_test (rec_at m.records format.names_file) mark was.store.names l a l_low al i && nat_lt (places k k_low i) (places b bl i))

    some_index : (o : Bool) (a b : ℕ) (e : Index) → (if o then Some (index_at m.records a b) else None) ≡ Some e → index_at m.records a b ≡ e
    some_index true a b e is = cc
    some_index false a b e is = absurd cc

    is_below : (a b : ℕ) (e : Index) → a < mark → b < mark → old a b ≡ Some e → (a < l) ⊎ ((a ≡ l) × (b < k)) → is_before (names_of m.records) one e ≡ false
    is_below a b e al bl is lower = ap (is_before (names_of m.records) one) (sym (some_index (is_defined m.records a b) a b e is)) ∙ before a b al bl ∙ ⊎_elim
        (λ (lt : a < l). λ i. lt_false l a (omega arith) i || (eq_false l a (λ e. omega (arith, lt, e)) i && nat_lt k b))
        (λ (q : (a ≡ l) × (b < k)). let qa = q.0 in let qb = q.1 in (λ i. lt_false l a (omega (arith, qa)) i || (nat_eq l a && lt_false k b (omega (arith, qb))
        i)) ∙ last (nat_eq l a)) lower
      where
        last : (z : Bool) → (false || (z && false)) ≡ false
        last true = refl
        last false = refl

    is_above : (a b : ℕ) (e : Index) → a < mark → b < mark → old a b ≡ Some e → (l < a) ⊎ ((a ≡ l) × (k < b)) → is_before (names_of m.records) one e ≡ true
    is_above a b e al bl is higher = ap (is_before (names_of m.records) one) (sym (some_index (is_defined m.records a b) a b e is)) ∙ before a b al bl ∙ ⊎_elim
        (λ (lt : l < a). ap (λ z. z || (nat_eq l a && nat_lt k b)) (lt_true l a lt))
        (λ (q : (a ≡ l) × (k < b)). (λ i. nat_lt l a || (eq_true l a (sym q.0) i && lt_true k b q.1 i)) ∙ last (nat_lt l a)) higher
      where
        last : (z : Bool) → (z || true) ≡ true
        last true = refl
        last false = refl

    off : (a b : ℕ) → (a ≢ l) ⊎ (b ≢ k) → now a b ≡ old a b
    off a b other = ap (λ z. if z || is_defined m.records a b then Some (index_at m.records a b) else None) (⊎_elim
        (λ (ne : a ≢ l). ap (λ z. z && nat_eq k b) (eq_false l a (λ e. ne (sym e))))
        (λ (ne : b ≢ k). ap (λ z. nat_eq l a && z) (eq_false k b (λ e. ne (sym e))) ∙ last (nat_eq l a)) other)
      where
        last : (z : Bool) → (z && false) ≡ false
        last true = refl
        last false = refl

    come : now l k ≡ Some one
    come = λ i. if (eq_true l l refl i && eq_true k k refl i) || is_defined m.records l k then Some one else None

    -- the new index has its place among those that were there
    pub index_placed : indexes_of t.records ≡ with_index (names_of m.records) one (indexes_of m.records)
    index_placed =
        (λ i. flat_map (λ a. collect (λ b. if defined_now a b i then Some (record { label = text_of (name_file i a); key = text_of (name_file i b) }) else None)
        (name_mark i)) (ids (λ a. true) (name_mark i)))
        ∙ table_placed (names_of m.records) one old now l k mark off (ap (λ z. if z then Some one else None) fresh) come is_below is_above l_low k_low
