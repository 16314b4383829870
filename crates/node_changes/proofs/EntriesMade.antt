-- The entries of a new node come into the indexes, one after another.
use Rattle.std.proofs.Common.{◌≡◌, ◌≢◌, ⊎_elim, inl, inr, ℕ, zero, suc, ◌+◌, ◌*◌, ◌<◌, ◌≤◌, nat_eq, Bool, true, false}
use Rattle.std.proofs.Common.{◌&&◌, ◌||◌, not, cond, List, [], ◌∷◌, ◌++◌, length, map, take, get_or, refl, ap, sym, ◌∙◌}
use Rattle.std.proofs.Common.{subst, arith}
use Rattle.std.specs.List.{filter, list_any}
use Rattle.std.proofs.lemmas.List.Filters.{length-filter_more}
use Rattle.std.proofs.lemmas.List.{take_all}
use Rattle.std.proofs.lemmas.List.Elements.{filter_more}
use Rattle.std.proofs.lemmas.List.Folds.{list_any-append}
use Rattle.std.proofs.lemmas.Map.Views.{any-filter_same}
use Rattle.std.proofs.lemmas.Bool.{true≢false}
use Rattle.plain_graph.specs.declared.pairs.Pair.{Pair}
use Rattle.plain_graph.specs.declared.value.Value.{Value}
use Rattle.prop_index.specs.Entering.{entry_of}
use Rattle.prop_index.specs.Listing.{pair_of}
use Rattle.prop_index.specs.Sparing.{SparesDefinitions}
use Rattle.prop_index.specs.Touching.{TouchesIndex}
use Rattle.prop_index.specs.declared.listing.IndexPair.{IndexPair}
use Rattle.rec_bytes.specs.Format as format
use Rattle.rec_bytes.specs.Space.{State, meta_of}
use Rattle.store_rules.specs.Chains.{In}
use Rattle.store_rules.specs.Graph.{indexes_of}
use Rattle.store_rules.specs.Hashes.{hash_of}
use Rattle.store_rules.specs.Indexes.{AreIndexed, Entries, Entry, is_entry, with_entry}
use Rattle.store_rules.specs.Views.{Records, high}
use Rattle.store_rules.proofs.IndexFrames.{indexed_same}
use Rattle.store_rules.proofs.NumberLaws.{eq_false, eq_true, nat_cases}
use Rattle.change_parts.specs.Assigning.{pair_at}
use Rattle.node_changes.specs.Entries.{AreKeysOnce, ArePairsOf, LacksEntries, indexed_of, is_listed}
use Rattle.change_parts.specs.GivenValues.{gives_hash, with_assigned}
use Rattle.change_parts.specs.declared.assigning.Assignment.{Assignment}
use Rattle.node_changes.proofs.EntriesGone.{eq_of, listed_in}
use Rattle.store_rules.specs.Rules.{IsWhole}

-- ---- tests of lists

flip : (a b : ℕ) → nat_eq a b ≡ nat_eq b a
flip a b = ⊎_elim (λ (p : a ≡ b). rw (eq_true a b p, eq_true b a (sym p)) refl) (λ (p : a ≢ b). rw (eq_false a b p, eq_false b a (λ q. p (sym q))) refl)
    (nat_cases a b)

or_assoc : (a b c : Bool) → ((a || b) || c) ≡ (a || (b || c))
or_assoc true b c = refl
or_assoc false b c = refl

or_between : (a b c : Bool) → (a || (b || c)) ≡ (b || (a || c))
or_between true true c = refl
or_between true false c = refl
or_between false b c = refl

-- those that pass and those that don't are all
any_parts : {X : Type 0} (p q : X → Bool) (xs : List X) → (list_any p (filter q xs) || list_any p (filter (λ x. not (q x)) xs)) ≡ list_any p xs
any_parts p q [] = refl
any_parts p q (x ∷ xs) = by (q x) (any_parts p q xs)
  where
    by : (b : Bool) → (list_any p (filter q xs) || list_any p (filter (λ x. not (q x)) xs)) ≡ list_any p xs
        → (list_any p (cond b (x ∷ filter q xs) (filter q xs)) || list_any p (cond (not b) (x ∷ filter (λ x. not (q x)) xs) (filter (λ x. not (q x)) xs)))
        ≡ (p x || list_any p xs)
    by true rest = or_assoc (p x) (list_any p (filter q xs)) (list_any p (filter (λ x. not (q x)) xs)) ∙ ap (λ b. p x || b) rest
    by false rest = or_between (list_any p (filter q xs)) (p x) (list_any p (filter (λ x. not (q x)) xs)) ∙ ap (λ b. p x || b) rest

-- the key of an assignment isn't that of one before it
abbrev has_key : ℕ → Assignment → Bool
has_key key a = nat_eq a.key key

key_in_keys : (xs : List Assignment) (i : ℕ) (d : Assignment) → i < length xs → In (get_or xs i d).key (map (λ (a : Assignment). a.key) xs)
key_in_keys [] i d lt = absurd (omega (arith, lt))
key_in_keys (x ∷ xs) zero d lt = inl refl
key_in_keys (x ∷ xs) (suc i) d lt = inr (key_in_keys xs i d (omega (arith, lt)))

fresh_key : (xs : List Assignment) (i : ℕ) (d : Assignment) → i < length xs → AreKeysOnce xs → list_any (has_key (get_or xs i d).key) (take i xs) ≡ false
fresh_key [] i d lt once = absurd (omega (arith, lt))
fresh_key (x ∷ xs) zero d lt once = refl
fresh_key (x ∷ xs) (suc i) d lt once =
    let ne : nat_eq x.key (get_or xs i d).key ≡ false = eq_false x.key (get_or xs i d).key
    (λ e. once.0 (subst (λ k. In k (map (λ (a : Assignment). a.key) xs)) (sym e) (key_in_keys xs i d (omega (arith, lt))))) in
    rw (ne, fresh_key xs i d (omega (arith, lt)) once.1) refl

-- the first assignments that have an index with the label, and all that have none
abbrev pub settled : List IndexPair → ℕ → List Assignment → ℕ → List Assignment
settled listed label assigned i =
    indexed_of listed label (take i assigned) ++ filter (λ (a : Assignment). not (is_listed listed label a.key)) assigned

module _ (listed : List IndexPair) (label node : ℕ) (pairs : List Pair) where
  abbrev is_indexed : Assignment → Bool
  is_indexed a = is_listed listed label a.key

  -- those that no index has
  abbrev others_of : List Assignment → List Assignment
  others_of assigned = filter (λ (a : Assignment). not (is_indexed a)) assigned

  abbrev gives : ℕ → ℕ → Assignment → Bool
  gives key hash a = nat_eq a.key key && nat_eq (hash_of (pair_at pairs a.pair).value) hash

  -- assignments without the key give it nothing
  gives_no : (xs : List Assignment) (p : Assignment → Bool) (key hash : ℕ) → list_any (has_key key) xs ≡ false → gives_hash pairs (filter p xs) key hash ≡ false
  gives_no [] p key hash none = refl
  gives_no (x ∷ xs) p key hash none = by (p x) (nat_eq x.key key) refl none (gives_no xs p key hash)
    where
      by : (b k : Bool) → nat_eq x.key key ≡ k → (k || list_any (has_key key) xs) ≡ false
          → (list_any (has_key key) xs ≡ false → list_any (gives key hash) (filter p xs) ≡ false)
          → list_any (gives key hash) (cond b (x ∷ filter p xs) (filter p xs)) ≡ false
      by b true is h rest = absurd (true≢false h)
      by true false is h rest = rw (is, rest h) refl
      by false false is h rest = rest h

  -- those that no index has give nothing to a key that has one
  others_none : (xs : List Assignment) (key hash : ℕ) → is_listed listed label key ≡ true → gives_hash pairs (others_of xs) key hash ≡ false
  others_none xs key hash there = any-filter_same (gives key hash) (λ (a : Assignment). not (is_indexed a)) false at xs
    where
      at : (a : Assignment) → gives key hash a ≡ true → not (is_indexed a) ≡ false
      at a is = by (nat_eq a.key key) refl is
        where
          by : (b : Bool) → nat_eq a.key key ≡ b → (b && nat_eq (hash_of (pair_at pairs a.pair).value) hash) ≡ true → not (is_indexed a) ≡ false
          by true same h = ap not (ap (is_listed listed label) (eq_of a.key key same) ∙ there)
          by false same h = absurd (true≢false (sym h))

  -- ---- one assignment after another
  module _ (wanted : Entries) (assigned : List Assignment) where
    -- the entries with those of the first assignments that have an index, and of all that have none
    abbrev entries_at : ℕ → Entries
    entries_at i = with_assigned wanted label node pairs (settled listed label assigned i)

    given_at : (i key hash : ℕ) → gives_hash pairs (settled listed label assigned i) key
        hash ≡ (list_any (gives key hash) (indexed_of listed label (take i assigned)) || list_any (gives key hash) (others_of assigned))
    given_at i key hash = list_any-append (gives key hash) (indexed_of listed label (take i assigned)) (others_of assigned)

    -- before any has come
    pub entered_none : (s : Records) (ix : AreIndexed s wanted) → listed ≡ map (pair_of s) ix.definitions → AreIndexed s (entries_at 0)
    entered_none s ix are = indexed_same s wanted (entries_at 0) ix (λ d e i l k. by e (nat_eq e.label label) refl (ap (λ ps. is_listed ps e.label e.key) are
        ∙ listed_in s ix.definitions d e.label e.key i l k))
      where
        and_none : (b w : Bool) → ((b && false) || w) ≡ w
        and_none true w = refl
        and_none false w = refl

        by : (e : Entry) (b : Bool) → nat_eq e.label label ≡ b → is_listed listed e.label e.key ≡ true
            → ((b && (nat_eq e.node node && gives_hash pairs (others_of assigned) e.key e.hash)) || wanted e) ≡ wanted e
        by e true is there = ap (λ g. (nat_eq e.node node && g) || wanted e)
            (others_none assigned e.key e.hash (ap (λ l. is_listed listed l e.key) (sym (eq_of e.label label is)) ∙ there))
            ∙ and_none (nat_eq e.node node) (wanted e)
        by e false is there = refl

    module _ (i : ℕ) (d : Assignment) (lt : i < length assigned) where
      abbrev this : Assignment
      this = get_or assigned i d

      -- the entry of the next one isn't there yet
      pub entered_lacks : is_indexed this ≡ true → LacksEntries wanted node → AreKeysOnce assigned → (v : Value)
          → entries_at i (entry_of label this.key node v) ≡ false
      entered_lacks there lacks once v =
          let none : gives_hash pairs (settled listed label assigned i) this.key (hash_of v) ≡ false
          = given_at i this.key (hash_of v) ∙ (λ k. gives_no (take i assigned) is_indexed this.key (hash_of v) (fresh_key assigned i d lt once) k || others_none
          assigned this.key (hash_of v) there k) in
          rw (eq_true label label refl, eq_true node node refl, none) (lacks label this.key (hash_of v))

      more : (l k n h a u w : Bool) → ((l && (k && (n && h))) || ((l && (n && (a || u))) || w)) ≡ ((l && (n && ((a || ((k && h) || false)) || u))) || w)
      more false k n h a u w = refl
      more true true false h a u w = refl
      more true false false h a u w = refl
      more true true true true true u w = refl
      more true true true true false u w = refl
      more true true true false true u w = refl
      more true true true false false u w = refl
      more true false true h true u w = refl
      more true false true h false u w = refl

      -- it came
      pub entered_more : is_indexed this ≡ true → (v : Value) → v ≡ (pair_at pairs this.pair).value → (t : Records)
          → AreIndexed t (with_entry (entries_at i) (entry_of label this.key node v)) → AreIndexed t (entries_at (i + 1))
      entered_more there v is t ix = subst (AreIndexed t) (λ k e. same e k) ix
        where
          given : (key hash : ℕ) → gives key hash this ≡ (nat_eq key this.key && nat_eq hash (hash_of v))
          given key hash = λ k. flip this.key key k && (ap (λ u. nat_eq (hash_of u) hash) (sym is) ∙ flip (hash_of v) hash) k

          now : (key hash : ℕ) → gives_hash pairs (settled listed label assigned (i + 1)) key hash
              ≡ ((list_any (gives key hash) (indexed_of listed label (take i assigned)) || ((nat_eq key this.key && nat_eq hash (hash_of v)) || false))
              || list_any (gives key hash) (others_of assigned))
          now key hash = given_at (i + 1) key hash ∙ ap (λ (xs : List Assignment). list_any (gives key hash) xs || list_any (gives key hash)
              (others_of assigned))
              (filter_more is_indexed assigned i d lt ∙ ap (λ b. indexed_of listed label (take i assigned) ++ cond b (this ∷ []) []) there)
              ∙ ap (λ b. b || list_any (gives key hash) (others_of assigned))
              (list_any-append (gives key hash) (indexed_of listed label (take i assigned)) (this ∷ [])
              ∙ ap (λ g. list_any (gives key hash) (indexed_of listed label (take i assigned)) || (g || false)) (given key hash))

          same : (e : Entry) → with_entry (entries_at i) (entry_of label this.key node v) e ≡ entries_at (i + 1) e
          same e = ap (λ g. is_entry e (entry_of label this.key node v) || ((nat_eq e.label label && (nat_eq e.node node && g)) || wanted e))
              (given_at i e.key e.hash)
              ∙ more (nat_eq e.label label) (nat_eq e.key this.key) (nat_eq e.node node) (nat_eq e.hash (hash_of v))
              (list_any (gives e.key e.hash) (indexed_of listed label (take i assigned))) (list_any (gives e.key e.hash) (others_of assigned)) (wanted e)
              ∙ ap (λ g. (nat_eq e.label label && (nat_eq e.node node && g)) || wanted e) (sym (now e.key e.hash))

      -- one that has no index is passed over
      pub settled_skip : is_indexed this ≡ false → settled listed label assigned (i + 1) ≡ settled listed label assigned i
      settled_skip none = ap (λ (xs : List Assignment). xs ++ others_of assigned)
          (filter_more is_indexed assigned i d lt ∙ ap (λ b. indexed_of listed label (take i assigned) ++ cond b (this ∷ []) []) none ∙ append_nil
          (indexed_of listed label (take i assigned)))
        where
          append_nil : (xs : List Assignment) → (xs ++ []) ≡ xs
          append_nil [] = refl
          append_nil (x ∷ xs) = ap (λ ys. x ∷ ys) (append_nil xs)

      pub entered_skip : is_indexed this ≡ false → (t : Records) → AreIndexed t (entries_at i) → AreIndexed t (entries_at (i + 1))
      entered_skip none t ix = subst (λ (xs : List Assignment). AreIndexed t (with_assigned wanted label node pairs xs)) (sym (settled_skip none)) ix

    -- all have come
    pub entered_all : (i : ℕ) → length assigned ≤ i → (t : Records) → AreIndexed t (entries_at i)
        → AreIndexed t (with_assigned wanted label node pairs assigned)
    entered_all i le t ix = subst (AreIndexed t) (λ k e. ap (λ g. (nat_eq e.label label && (nat_eq e.node node && g)) || wanted e) (all e.key e.hash) k) ix
      where
        all : (key hash : ℕ) → gives_hash pairs (settled listed label assigned i) key hash ≡ gives_hash pairs assigned key hash
        all key hash = given_at i key hash ∙ ap (λ (xs : List Assignment). list_any (gives key hash) (indexed_of listed label xs) || list_any (gives key hash)
            (others_of assigned)) (take_all i assigned le)
            ∙ any_parts (gives key hash) is_indexed assigned

-- the first assignments are in the indexes
pub record IsEntering (tells onward : Type 0) (s t : State) (before now : ℕ) (listed : List IndexPair) (label node : ℕ) (assigned : List Assignment)
    (pairs : List Pair) (i : ℕ) : Type 0 where
  pub entered : tells → (wanted : Entries) → ArePairsOf s wanted listed → node < high s.records format.nodes_file → LacksEntries wanted node
      → AreKeysOnce assigned
      → AreIndexed t.records (with_assigned wanted label node pairs (settled listed label assigned i)) × IsWhole t
      × (indexes_of t.records ≡ indexes_of s.records)
  pub counted : tells → (meta_of t format.index_file).live ≤ (meta_of s format.index_file).live + length (indexed_of listed label (take i assigned))
  pub touched : TouchesIndex tells (3 * length (indexed_of listed label (take i assigned))) s t
  pub spared : tells → SparesDefinitions s t
  pub onward_is : onward
  pub later : before ≤ now

-- how many have come, one more
pub count_more : (listed : List IndexPair) (label : ℕ) (assigned : List Assignment) (i : ℕ) (d : Assignment) → i < length assigned → (b : Bool)
    → is_listed listed label (get_or assigned i d).key ≡ b
    → length (indexed_of listed label (take (i + 1) assigned)) ≡ length (indexed_of listed label (take i assigned)) + cond b 1 0
count_more listed label assigned i d lt b is = length-filter_more (λ (a : Assignment). is_listed listed label a.key) assigned i d lt
    ∙ ap (λ c. length (indexed_of listed label (take i assigned)) + cond c 1 0) is

-- they are no more than all
filter_few : (p : Assignment → Bool) (xs : List Assignment) (i : ℕ) → length (filter p (take i xs)) ≤ length (filter p xs)
filter_few p [] zero = omega arith
filter_few p [] (suc i) = omega arith
filter_few p (x ∷ xs) zero = omega arith
filter_few p (x ∷ xs) (suc i) = by (p x) (filter_few p xs i)
  where
    by : (b : Bool) → length (filter p (take i xs)) ≤ length (filter p xs)
        → length (cond b (x ∷ filter p (take i xs)) (filter p (take i xs))) ≤ length (cond b (x ∷ filter p xs) (filter p xs))
    by true le = omega (arith, le)
    by false le = le

pub count_few : (listed : List IndexPair) (label : ℕ) (assigned : List Assignment) (i : ℕ)
    → length (indexed_of listed label (take i assigned)) ≤ length (indexed_of listed label assigned)
count_few listed label assigned i = filter_few (λ (a : Assignment). is_listed listed label a.key) assigned i
