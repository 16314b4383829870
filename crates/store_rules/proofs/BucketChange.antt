-- One bucket of one index changed: what the eighth rule needs to know of it.
use Rattle.std.proofs.Common.{◌≡◌, ◌≢◌, ◌⊎◌, ⊎_elim, ℕ, ◌<◌, true, false, ◌&&◌, cond, nat_eq, List, refl, ap, sym, ◌∙◌, subst, arith}
use Rattle.rec_bytes.specs.Format as format
use Rattle.store_rules.specs.Chains.{In, IsChain, IsWalk}
use Rattle.store_rules.specs.Hashes.{bucket_of}
use Rattle.store_rules.specs.Indexes.{AreIndexed, Entries, Entry, HasEntry, IsBucket, IsDefinition, IsEntry, IsHeads}
use Rattle.store_rules.specs.Indexes.{IsOfIndex, entry_hash, entry_in, entry_node, first_definition, first_entry}
use Rattle.store_rules.specs.Indexes.{heads_of, indexed_key, indexed_label, next_definition, next_entry, previous_entry}
use Rattle.store_rules.specs.Views.{Records, is_live, kind_at}
use Rattle.store_rules.proofs.ChainLaws.{chain_stays, walk_stays}
use Rattle.store_rules.proofs.NumberLaws.{eq_false, eq_true, nat_cases}

-- a definition says what it said
pub record SameDefinition (s t : Records) (d : ℕ) : Type 0 where
  pub kind : kind_at t format.index_file d ≡ kind_at s format.index_file d
  pub label : indexed_label t d ≡ indexed_label s d
  pub key : indexed_key t d ≡ indexed_key s d
  pub next : next_definition t d ≡ next_definition s d
  pub heads : (c : ℕ) → c < 12 → heads_of t d c ≡ heads_of s d c

-- an entry is what it was, and so are its links
pub record SameEntry (s t : Records) (x : ℕ) : Type 0 where
  pub kind : kind_at t format.index_file x ≡ kind_at s format.index_file x
  pub node : entry_node t x ≡ entry_node s x
  pub hash : entry_hash t x ≡ entry_hash s x

pub record SameLinks (s t : Records) (x : ℕ) : Type 0 where
  pub next : next_entry t x ≡ next_entry s x
  pub previous : previous_entry t x ≡ previous_entry s x

-- another bucket than this one
abbrev pub IsOther : ℕ → ℕ → ℕ → ℕ → Type 0
IsOther d b e c = e ≡ d → c ≡ b → ⊥

-- The bucket has other entries now. Nothing else changed that the indexes read.
pub record IsBucketChanged (s t : Records) (wanted now : Entries) (ix : AreIndexed s wanted) (d b : ℕ) (xs : List ℕ) : Type 0 where
  pub first : first_definition t ≡ first_definition s
  pub definitions : (e : ℕ) → In e ix.definitions → SameDefinition s t e
  pub heads : (e c : ℕ) → In e ix.definitions → c < 12 → kind_at t format.index_file (heads_of s e c) ≡ kind_at s format.index_file (heads_of s e c)
  pub others : (e c : ℕ) → In e ix.definitions → c < 180 → IsOther d b e c → first_entry t e c ≡ first_entry s e c
  pub entries : (e c x : ℕ) → In e ix.definitions → c < 180 → IsOther d b e c → In x (ix.lists e c) → SameEntry s t x × SameLinks s t x
  pub bucket : IsBucket t now d b xs
  pub still : (e c x : ℕ) → In e ix.definitions → c < 180 → IsOther d b e c → In x (ix.lists e c) → now (entry_in s e x) ≡ true
  pub here : (e : Entry) → e.label ≡ indexed_label s d → e.key ≡ indexed_key s d → now e ≡ true → bucket_of e.hash ≡ b → HasEntry t d e xs
  pub there : (f : ℕ) (e : Entry) → In f ix.definitions → e.label ≡ indexed_label s f → e.key ≡ indexed_key s f → now e ≡ true
      → IsOther d b f (bucket_of e.hash) → wanted e ≡ true
  pub once : (x y : ℕ) → In x xs → In y xs → entry_node t x ≡ entry_node t y → entry_hash t x ≡ entry_hash t y → x ≡ y
  pub apart : (e c x : ℕ) → In e ix.definitions → c < 180 → e ≢ d → In x xs → In x (ix.lists e c) → ⊥
  pub held : (x : ℕ) → is_live t format.index_file x ≡ true → In x xs ⊎ ((is_live s format.index_file x ≡ true) × (¬ In x (ix.lists d b)))

module _ (s t : Records) (wanted now : Entries) (ix : AreIndexed s wanted) (d b : ℕ) (listed : In d ix.definitions) (low : b < 180) (xs : List ℕ)
    (h : IsBucketChanged s t wanted now ix d b xs) where
  abbrev lists : ℕ → ℕ → List ℕ
  lists e c = cond (nat_eq e d && nat_eq c b) xs (ix.lists e c)

  -- a fact of the list of a bucket
  on : (P : List ℕ → Type 0) (e c : ℕ) → (e ≡ d → c ≡ b → P xs) → (IsOther d b e c → P (ix.lists e c)) → P (lists e c)
  on P e c here other = ⊎_elim
      (λ (p : e ≡ d). ⊎_elim
      (λ (q : c ≡ b). subst (λ z. P (cond z xs (ix.lists e c))) (sym (both p q)) (here p q))
      (λ (ne : c ≢ b). subst (λ z. P (cond z xs (ix.lists e c))) (sym (right p ne)) (other (λ p q. ne q)))
      (nat_cases c b))
      (λ (ne : e ≢ d). subst (λ z. P (cond z xs (ix.lists e c))) (sym (left ne)) (other (λ p q. ne p)))
      (nat_cases e d)
    where
      both : e ≡ d → c ≡ b → (nat_eq e d && nat_eq c b) ≡ true
      both p q = rw (eq_true e d p) (eq_true c b q)

      right : e ≡ d → c ≢ b → (nat_eq e d && nat_eq c b) ≡ false
      right p ne = rw (eq_true e d p) (eq_false c b ne)

      left : e ≢ d → (nat_eq e d && nat_eq c b) ≡ false
      left ne = rw (eq_false e d ne) refl

  -- the entry of an index is the one that it was
  entry_same : (e x : ℕ) → In e ix.definitions → SameEntry s t x → entry_in t e x ≡ entry_in s e x
  entry_same e x i k = let f = h.definitions e i in λ j. record { label = f.label j; key = f.key j; node = k.node j; hash = k.hash j }

  new_bucket : (e c : ℕ) → In e ix.definitions → c < 180 → IsBucket t now e c (lists e c)
  new_bucket e c i lt = on (IsBucket t now e c) e c
      (λ p q. subst (λ z. IsBucket t now z c xs) (sym p) (subst (λ z. IsBucket t now d z xs) (sym q) h.bucket))
      (λ other.
      let was = ix.buckets e c i lt in
      let xs_were = ix.lists e c in
      let same : (x : ℕ) → In x xs_were → SameEntry s t x × SameLinks s t x = λ x m. h.entries e c x i lt other m in
      record {
        chain = subst (λ f. IsChain (next_entry t) (previous_entry t) format.nil f xs_were) (sym (h.others e c i lt other))
            (chain_stays (next_entry s) (previous_entry s) (next_entry t) (previous_entry t) format.nil (first_entry s e c) xs_were (λ x m. (same x m).1.next)
            (λ x m. (same x m).1.previous) was.chain);
        kind = λ x m. (same x m).0.kind ∙ was.kind x m;
        hash = λ x m. ap bucket_of (same x m).0.hash ∙ was.hash x m;
        wanted_is = λ x m. ap now (entry_same e x i (same x m).0) ∙ h.still e c x i lt other m;
      })

  -- where a member of a bucket was or is
  pub bucket_changed : AreIndexed t now
  bucket_changed = record {
    definitions = ix.definitions;
    walk = subst (λ f. IsWalk (next_definition t) f ix.definitions) (sym h.first)
        (walk_stays (next_definition s) (next_definition t) (first_definition s) ix.definitions (λ e i. (h.definitions e i).next) ix.walk);
    few = ix.few;
    defined = λ e i. (h.definitions e i).kind ∙ ix.defined e i;
    distinct = λ e f i j p q. ix.distinct e f i j (sym (h.definitions e i).label ∙ p ∙ (h.definitions f j).label)
        (sym (h.definitions e i).key ∙ q ∙ (h.definitions f j).key);
    heads = λ e c i lt. ap (kind_at t format.index_file) ((h.definitions e i).heads c lt) ∙ h.heads e c i lt ∙ ix.heads e c i lt;
    heads_once = λ e c f k i j lt le p. ix.heads_once e c f k i j lt le (sym ((h.definitions e i).heads c lt) ∙ p ∙ (h.definitions f j).heads k le);
    lists = lists;
    buckets = new_bucket;
    all = λ f e i p q w.
        let l : e.label ≡ indexed_label s f = p ∙ (h.definitions f i).label in
        let k : e.key ≡ indexed_key s f = q ∙ (h.definitions f i).key in
        on (HasEntry t f e) f (bucket_of e.hash)
        (λ p q. subst (λ z. HasEntry t z e xs) (sym p) (h.here e (l ∙ ap (indexed_label s) p) (k ∙ ap (indexed_key s) p) w q))
        (λ other.
        let lt : bucket_of e.hash < 180 = omega arith in
        let was = ix.all f e i l k (h.there f e i l k w other) in
        record { id = was.id; member = was.member; is = entry_same f was.id i (h.entries f (bucket_of e.hash) was.id i lt other was.member).0 ∙ was.is });
    once = λ e c x y i lt. on (λ zs. In x zs → In y zs → entry_node t x ≡ entry_node t y → entry_hash t x ≡ entry_hash t y → x ≡ y) e c
        (λ p q m n. h.once x y m n)
        (λ other m n p q.
        let f = h.entries e c x i lt other m in let g = h.entries e c y i lt other n in
        ix.once e c x y i lt m n (sym f.0.node ∙ p ∙ g.0.node) (sym f.0.hash ∙ q ∙ g.0.hash));
    one = λ e c f k x i j lt le.
        on (λ zs. In x zs → In x (lists f k) → e ≡ f) e c
        (λ p q m. on (λ zs. In x zs → e ≡ f) f k (λ p' q' n. p ∙ sym p') (λ other n.
        ⊎_elim (λ (g : f ≡ d). p ∙ sym g) (λ (ne : f ≢ d). absurd (h.apart f k x j le ne m n)) (nat_cases f d)))
        (λ other m. on (λ zs. In x zs → e ≡ f) f k (λ p' q' n.
        ⊎_elim (λ (g : e ≡ d). g ∙ sym p') (λ (ne : e ≢ d). absurd (h.apart e c x i lt ne n m)) (nat_cases e d))
        (λ other' n. ix.one e c f k x i j lt le m n));
    held = λ x live. ⊎_elim
        (λ (m : In x xs). IsEntry d b listed low (on (λ zs. In x zs) d b (λ p q. m) (λ other. absurd (other refl refl))))
        (λ (k : (is_live s format.index_file x ≡ true) × (¬ In x (ix.lists d b))). of_old x k.1 (ix.held x k.0))
        (h.held x live);
  }
    where
      of_old : (x : ℕ) → (¬ In x (ix.lists d b)) → IsOfIndex s ix.definitions ix.lists x → IsOfIndex t ix.definitions lists x
      of_old x out (IsDefinition i) = IsDefinition i
      of_old x out (IsHeads e c i lt is) = IsHeads e c i lt ((h.definitions e i).heads c lt ∙ is)
      of_old x out (IsEntry e c i lt m) = IsEntry e c i lt (on (λ zs. In x zs) e c
          (λ p q. absurd (out (subst (λ z. In x (ix.lists z b)) p (subst (λ z. In x (ix.lists e z)) q m)))) (λ other. m))
