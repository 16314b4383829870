-- A definition that is made with empty buckets.
use Rattle.std.proofs.Common.{◌≡◌, ◌≢◌, ◌⊎◌, ⊎_elim, ℕ, zero, suc, ◌+◌, ◌*◌, ◌/◌, ◌%◌, ◌<◌, ◌≤◌, true, false, cond}
use Rattle.std.proofs.Common.{nat_eq, List, [], ◌∷◌, length, refl, ap, sym, ◌∙◌, subst, inl, inr, arith}
use Rattle.std.proofs.lemmas.Bool.{cases_lt, true≢false}
use Rattle.rec_bytes.specs.declared.record.Rec.{Rec}
use Rattle.rec_bytes.specs.Format as format
use Rattle.rec_bytes.specs.Record.{field}
use Rattle.store_rules.specs.Chains.{In, IsChain, IsWalk}
use Rattle.store_rules.specs.Hashes.{bucket_of}
use Rattle.store_rules.specs.Indexes.{AreIndexed, Entries, Entry, HasEntry, IsBucket, IsDefinition, IsEntry, IsHeads}
use Rattle.store_rules.specs.Indexes.{IsOfIndex, entry_hash, entry_in, entry_node, first_definition, first_entry}
use Rattle.store_rules.specs.Indexes.{heads_of, index_rec, indexed_key, indexed_label, next_definition, next_entry}
use Rattle.store_rules.specs.Indexes.{previous_entry}
use Rattle.store_rules.specs.IndexChange.{IsDefinitionMade}
use Rattle.store_rules.specs.Views.{Records, high, is_live, kind_at}
use Rattle.store_rules.proofs.BucketChange.{SameEntry, SameLinks}
use Rattle.store_rules.proofs.ChainLaws.{chain_stays, walk_stays}
use Rattle.store_rules.proofs.MetaLaws.{high_fits}
use Rattle.store_rules.proofs.NumberLaws.{eq_false, eq_true, nat_cases}
use Rattle.store_rules.proofs.PropertyOwners.{used_of_live}
use Rattle.store_rules.proofs.ViewLaws.{kind_below, live_true}

-- a number is one of the first values of a function, or none of them
image_cases : (f : ℕ → ℕ) (x n : ℕ) → ((c : ℕ) × (c < n) × (f c ≡ x)) ⊎ ((c : ℕ) → c < n → x ≢ f c)
image_cases f x zero = inr (λ c lt. absurd (omega arith))
image_cases f x (suc n) = ⊎_elim
    (λ (k : (c : ℕ) × (c < n) × (f c ≡ x)). inl (k.0, (let lt = k.1 in omega arith), k.2))
    (λ (out : (c : ℕ) → c < n → x ≢ f c). ⊎_elim
    (λ (p : f n ≡ x). inl (n, omega arith, p))
    (λ (ne : f n ≢ x). inr (λ c lt. ⊎_elim (λ (u : c < n). out c u) (λ (u : n ≤ c). λ e. let same : n ≡ c = omega arith in ne (ap f same ∙ sym e))
    (cases_lt c n)))
    (nat_cases (f n) x)) (image_cases f x n)

module _ (s t : Records) (wanted : Entries) (ix : AreIndexed s wanted) (d label key : ℕ) (h : IsDefinitionMade s t d label key) where
  -- a record that was in use is none of the thirteen
  not_new : (y : ℕ) → kind_at s format.index_file y ≢ format.free_kind → y ≢ d
  not_new y used e = used (ap (kind_at s format.index_file) e ∙ h.fresh)

  not_heads : (y : ℕ) → kind_at s format.index_file y ≢ format.free_kind → (c : ℕ) → c < 12 → y ≢ heads_of t d c
  not_heads y used c lt e = used (ap (kind_at s format.index_file) e ∙ h.heads_fresh c lt)

  rec_old : (y : ℕ) → kind_at s format.index_file y ≢ format.free_kind → index_rec t y ≡ index_rec s y
  rec_old y used = h.others y (not_new y used) (not_heads y used)

  kind_old : (y : ℕ) → kind_at s format.index_file y ≢ format.free_kind → kind_at t format.index_file y ≡ kind_at s format.index_file y
  kind_old y used = h.kinds y (not_new y used) (not_heads y used)

  used_of : (y kind : ℕ) → kind_at s format.index_file y ≡ kind → kind ≢ format.free_kind → kind_at s format.index_file y ≢ format.free_kind
  used_of y kind is some e = some (sym is ∙ e)

  definition_used : (e : ℕ) → In e ix.definitions → kind_at s format.index_file e ≢ format.free_kind
  definition_used e i = used_of e format.definition (ix.defined e i) (λ q. omega (arith, q))

  -- the definitions that there were say what they said
  pub definition_old : (e : ℕ) → In e ix.definitions → index_rec t e ≡ index_rec s e
  definition_old e i = rec_old e (definition_used e i)

  other : (e : ℕ) → In e ix.definitions → e ≢ d
  other e i = not_new e (definition_used e i)

  heads_old : (e c : ℕ) → In e ix.definitions → heads_of t e c ≡ heads_of s e c
  heads_old e c i = ap (λ (r : Rec). field 4 r (format.definition_heads + 4 * c)) (definition_old e i)

  heads_used : (e c : ℕ) → In e ix.definitions → c < 12 → kind_at s format.index_file (heads_of s e c) ≢ format.free_kind
  heads_used e c i lt = used_of (heads_of s e c) format.heads (ix.heads e c i lt) (λ q. omega (arith, q))

  first_old : (e b : ℕ) → In e ix.definitions → b < 180 → first_entry t e b ≡ first_entry s e b
  first_old e b i lt =
      ap (λ y. field 4 (index_rec t y) (format.heads_first + 4 * (b % 15))) (heads_old e (b / 15) i)
      ∙ ap (λ (r : Rec). field 4 r (format.heads_first + 4 * (b % 15))) (rec_old (heads_of s e (b / 15)) (heads_used e (b / 15) i (omega arith)))

  -- ---- the definition is there

  some : d ≢ format.nil
  some e =
      let k = h.kind in
      let under = kind_below (high t format.index_file) (index_rec t d) d (λ q. omega (arith, k, q)) in
      let fits = high_fits t format.index_file in omega (arith, e, under, fits)

  abbrev pub definitions : List ℕ
  definitions = d ∷ ix.definitions

  walk : IsWalk (next_definition t) (first_definition t) definitions
  walk = (
    h.first,
    some,
    subst (λ f. IsWalk (next_definition t) f ix.definitions) (sym h.next)
        (walk_stays (next_definition s) (next_definition t) (first_definition s) ix.definitions (λ e i. ap (λ (r : Rec). field 4 r format.definition_next)
        (definition_old e i)) ix.walk),
  )

  abbrev pub lists : ℕ → ℕ → List ℕ
  lists e b = cond (nat_eq e d) [] (ix.lists e b)

  -- a fact of the list of a bucket: it is empty, or the one that it was
  on : (P : List ℕ → Type 0) (e b : ℕ) → In e definitions → (e ≡ d → P []) → (In e ix.definitions → P (ix.lists e b)) → P (lists e b)
  on P e b i here there = ⊎_elim
      (λ (p : e ≡ d). subst (λ z. P (cond z [] (ix.lists e b))) (sym (eq_true e d p)) (here p))
      (λ (ne : e ≢ d). subst (λ z. P (cond z [] (ix.lists e b))) (sym (eq_false e d ne)) (there (⊎_elim (λ (p : e ≡ d). absurd (ne p))
      (λ (j : In e ix.definitions). j) i)))
      (nat_cases e d)

  old_list : (e b : ℕ) → In e ix.definitions → lists e b ≡ ix.lists e b
  old_list e b i = rw (eq_false e d (other e i)) refl

  -- ---- entries

  entry_old : (y : ℕ) → kind_at s format.index_file y ≡ format.indexed → SameEntry s t y × SameLinks s t y
  entry_old y k =
      let used = used_of y format.indexed k (λ q. omega (arith, q)) in
      let rec = rec_old y used in (
        record {
          kind = kind_old y used;
          node = ap (λ (r : Rec). field 4 r format.indexed_node) rec;
          hash = ap (λ (r : Rec). field 8 r format.indexed_hash)
              rec;
        },
        record { next = ap (λ (r : Rec). field 4 r format.indexed_next) rec; previous = ap (λ (r : Rec). field 4 r format.indexed_previous) rec },
      )

  entry_same : (e y : ℕ) → In e ix.definitions → SameEntry s t y → entry_in t e y ≡ entry_in s e y
  entry_same e y i k = let f = definition_old e i in
      λ j. record { label = field 4 (f j) format.definition_label; key = field 4 (f j) format.definition_key; node = k.node j; hash = k.hash j }

  kept_bucket : (e b : ℕ) → In e ix.definitions → b < 180 → IsBucket t wanted e b (ix.lists e b)
  kept_bucket e b i lt =
      let was = ix.buckets e b i lt in
      let same : (y : ℕ) → In y (ix.lists e b) → SameEntry s t y × SameLinks s t y = λ y m. entry_old y (was.kind y m) in
      record {
        chain = subst (λ f. IsChain (next_entry t) (previous_entry t) format.nil f (ix.lists e b)) (sym (first_old e b i lt))
            (chain_stays (next_entry s) (previous_entry s) (next_entry t) (previous_entry t) format.nil (first_entry s e b) (ix.lists e b)
            (λ y m. (same y m).1.next) (λ y m. (same y m).1.previous) was.chain);
        kind = λ y m. (same y m).0.kind ∙ was.kind y m;
        hash = λ y m. ap bucket_of (same y m).0.hash ∙ was.hash y m;
        wanted_is = λ y m. ap wanted (entry_same e y i (same y m).0) ∙ was.wanted_is y m;
      }

  empty_bucket : (b : ℕ) → b < 180 → IsBucket t wanted d b []
  empty_bucket b lt = record {
    chain = h.empty (b / 15) (b % 15) (omega arith) (omega arith);
    kind = λ y m. elim m [ ];
    hash = λ y m. elim m [ ];
    wanted_is = λ y m. elim m [ ];
  }

  new_bucket : (e b : ℕ) → In e definitions → b < 180 → IsBucket t wanted e b (lists e b)
  new_bucket e b i lt = on (IsBucket t wanted e b) e b i (λ p. subst (λ z. IsBucket t wanted z b []) (sym p) (empty_bucket b lt)) (λ j. kept_bucket e b j lt)

  -- what is in a list is in the list that there was
  was_in : (e b x : ℕ) → In e definitions → In x (lists e b) → In e ix.definitions × In x (ix.lists e b)
  was_in e b x i = on (λ xs. In x xs → In e ix.definitions × In x (ix.lists e b)) e b i (λ p m. elim m [ ]) (λ j m. (j, m))

  module _ (few : length ix.definitions < 16) (lacked : (e : ℕ) → In e ix.definitions → indexed_label s e ≡ label → indexed_key s e ≡ key → ⊥)
      (unwanted : (e : Entry) → e.label ≡ label → e.key ≡ key → wanted e ≡ false) where
    label_at : (e : ℕ) → In e ix.definitions → indexed_label t e ≡ indexed_label s e
    label_at e i = ap (λ (r : Rec). field 4 r format.definition_label) (definition_old e i)

    key_at : (e : ℕ) → In e ix.definitions → indexed_key t e ≡ indexed_key s e
    key_at e i = ap (λ (r : Rec). field 4 r format.definition_key) (definition_old e i)

    -- two definitions, each of which is the new one or not
    pairs : (P : Type 0) (e f : ℕ) → In e definitions → In f definitions → (e ≡ d → f ≡ d → P) → (e ≡ d → In f ix.definitions → P)
        → (In e ix.definitions → f ≡ d → P) → (In e ix.definitions → In f ix.definitions → P) → P
    pairs P e f i j both left right none = ⊎_elim
        (λ (p : e ≡ d). ⊎_elim (λ (q : f ≡ d). both p q) (λ (q : In f ix.definitions). left p q) j)
        (λ (p : In e ix.definitions). ⊎_elim (λ (q : f ≡ d). right p q) (λ (q : In f ix.definitions). none p q) j) i

    distinct : (e f : ℕ) → In e definitions → In f definitions → indexed_label t e ≡ indexed_label t f → indexed_key t e ≡ indexed_key t f → e ≡ f
    distinct e f i j l k = pairs (e ≡ f) e f i j (λ p q. p ∙ sym q)
        (λ p q. absurd (lacked f q (sym (label_at f q) ∙ sym l ∙ ap (indexed_label t) p ∙ h.label_is) (sym (key_at f q) ∙ sym k ∙ ap (indexed_key t) p
        ∙ h.key_is)))
        (λ p q. absurd (lacked e p (sym (label_at e p) ∙ l ∙ ap (indexed_label t) q ∙ h.label_is) (sym (key_at e p) ∙ k ∙ ap (indexed_key t) q ∙ h.key_is)))
        (λ p q. ix.distinct e f p q (sym (label_at e p) ∙ l ∙ label_at f q) (sym (key_at e p) ∙ k ∙ key_at f q))

    heads_kinds : (e c : ℕ) → In e definitions → c < 12 → kind_at t format.index_file (heads_of t e c) ≡ format.heads
    heads_kinds e c i lt = ⊎_elim
        (λ (p : e ≡ d). ap (λ z. kind_at t format.index_file (heads_of t z c)) p ∙ h.heads c lt)
        (λ (j : In e ix.definitions). ap (kind_at t format.index_file) (heads_old e c j) ∙ kind_old (heads_of s e c) (heads_used e c j lt) ∙ ix.heads e c j lt)
        i

    -- heads that there were are none of the new ones
    heads_apart : (e c k : ℕ) → In e ix.definitions → c < 12 → k < 12 → heads_of t e c ≡ heads_of t d k → ⊥
    heads_apart e c k i lt le q = not_heads (heads_of s e c) (heads_used e c i lt) k le (sym (heads_old e c i) ∙ q)

    heads_once : (e c f k : ℕ) → In e definitions → In f definitions → c < 12 → k < 12 → heads_of t e c ≡ heads_of t f k → (e ≡ f) × (c ≡ k)
    heads_once e c f k i j lt le q = pairs ((e ≡ f) × (c ≡ k)) e f i j
        (λ p r. (p ∙ sym r, h.heads_once c k lt le (ap (λ z. heads_of t z c) (sym p) ∙ q ∙ ap (λ z. heads_of t z k) r)))
        (λ p r. absurd (heads_apart f k c r le lt (sym q ∙ ap (λ z. heads_of t z c) p)))
        (λ p r. absurd (heads_apart e c k p lt le (q ∙ ap (λ z. heads_of t z k) r)))
        (λ p r. ix.heads_once e c f k p r lt le (sym (heads_old e c p) ∙ q ∙ heads_old f k r))

    all : (e : ℕ) (one : Entry) → In e definitions → one.label ≡ indexed_label t e → one.key ≡ indexed_key t e → wanted one ≡ true
        → HasEntry t e one (lists e (bucket_of one.hash))
    all e one i l k w = ⊎_elim
        (λ (p : e ≡ d). absurd (true≢false (sym w ∙ unwanted one (l ∙ ap (indexed_label t) p ∙ h.label_is) (k ∙ ap (indexed_key t) p ∙ h.key_is))))
        (λ (j : In e ix.definitions).
        let has = ix.all e one j (l ∙ label_at e j) (k ∙ key_at e j) w in
        let lt : bucket_of one.hash < 180 = omega arith in
        let kind = (ix.buckets e (bucket_of one.hash) j lt).kind has.id has.member in
        record {
          id = has.id;
          member = subst (In has.id) (sym (old_list e (bucket_of one.hash) j)) has.member;
          is = entry_same e has.id j (entry_old has.id kind).0 ∙ has.is;
        }) i

    once : (e b x y : ℕ) → In e definitions → b < 180 → In x (lists e b) → In y (lists e b) → entry_node t x ≡ entry_node t y → entry_hash t x ≡ entry_hash t y
        → x ≡ y
    once e b x y i lt m n p q =
        let a = was_in e b x i m in let c = was_in e b y i n in
        let f = (entry_old x ((ix.buckets e b a.0 lt).kind x a.1)).0 in let g = (entry_old y ((ix.buckets e b a.0 lt).kind y c.1)).0 in
        ix.once e b x y a.0 lt a.1 c.1 (sym f.node ∙ p ∙ g.node) (sym f.hash ∙ q ∙ g.hash)

    one : (e b f c x : ℕ) → In e definitions → In f definitions → b < 180 → c < 180 → In x (lists e b) → In x (lists f c) → e ≡ f
    one e b f c x i j lt le m n = let a = was_in e b x i m in let k = was_in f c x j n in ix.one e b f c x a.0 k.0 lt le a.1 k.1

    held : (x : ℕ) → is_live t format.index_file x ≡ true → IsOfIndex t definitions lists x
    held x live = ⊎_elim
        (λ (p : x ≡ d). IsDefinition (inl p))
        (λ (ne : x ≢ d). ⊎_elim
        (λ (k : (c : ℕ) × (c < 12) × (heads_of t d c ≡ x)). IsHeads d k.0 (inl refl) k.1 k.2)
        (λ (out : (c : ℕ) → c < 12 → x ≢ heads_of t d c).
        let used = used_of_live t format.index_file x live in
        of_old (ix.held x (live_true (kind_at s format.index_file x) (λ q. used (h.kinds x ne out ∙ q)))))
        (image_cases (heads_of t d) x 12))
        (nat_cases x d)
      where
        of_old : IsOfIndex s ix.definitions ix.lists x → IsOfIndex t definitions lists x
        of_old (IsDefinition i) = IsDefinition (inr i)
        of_old (IsHeads e c i lt is) = IsHeads e c (inr i) lt (heads_old e c i ∙ is)
        of_old (IsEntry e b i lt m) = IsEntry e b (inr i) lt (subst (In x) (sym (old_list e b i)) m)

    -- One definition more keeps the rule, for the same entries.
    pub definition_made : AreIndexed t wanted
    definition_made = record {
      definitions = definitions;
      walk = walk;
      few = omega arith;
      defined = λ e i. ⊎_elim (λ (p : e ≡ d). ap (kind_at t format.index_file) p ∙ h.kind)
          (λ (j : In e ix.definitions). kind_old e (definition_used e j) ∙ ix.defined e j) i;
      distinct = distinct;
      heads = heads_kinds;
      heads_once = heads_once;
      lists = lists;
      buckets = new_bucket;
      all = all;
      once = once;
      one = one;
      held = held;
    }
