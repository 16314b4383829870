-- An entry that is put in front of its bucket.
use Rattle.std.proofs.Common.{◌≡◌, ◌≢◌, ◌⊎◌, ⊎_elim, ℕ, ◌+◌, ◌*◌, ◌/◌, ◌%◌, ◌<◌, ◌≤◌, Bool, true, false, ◌||◌, cond}
use Rattle.std.proofs.Common.{nat_eq, List, ◌∷◌, refl, ap, sym, ◌∙◌, subst, inl, inr, arith}
use Rattle.std.proofs.lemmas.Bool.{cases_lt, true≢false}
use Rattle.rec_bytes.specs.declared.record.Rec.{Rec}
use Rattle.rec_bytes.specs.Format as format
use Rattle.rec_bytes.specs.Record.{field}
use Rattle.rec_bytes.proofs.Numbers.{field-with_field_other, field-with_field_same}
use Rattle.store_rules.specs.Chains.{In, IsChain, IsWalk}
use Rattle.store_rules.specs.Hashes.{bucket_of}
use Rattle.store_rules.specs.Indexes.{AreIndexed, Entries, Entry, IsBucket, entry_hash, entry_in, entry_node}
use Rattle.store_rules.specs.Indexes.{first_entry, heads_of, index_rec, is_entry, indexed_key, indexed_label}
use Rattle.store_rules.specs.Indexes.{next_entry, previous_entry, with_entry}
use Rattle.store_rules.specs.IndexChange.{IsEntryMade}
use Rattle.store_rules.specs.Views.{Records, high, is_live, kind_at}
use Rattle.store_rules.proofs.BucketChange.{bucket_changed, IsBucketChanged, IsOther, SameDefinition, SameEntry, SameLinks}
use Rattle.store_rules.proofs.ChainLaws.{chain_stays, walk_of_chain}
use Rattle.store_rules.proofs.ChainSteps.{chain_push, first_in}
use Rattle.store_rules.proofs.EntryGone.{entry_cases, entry_itself}
use Rattle.store_rules.proofs.MemberLaws.{in_cases}
use Rattle.store_rules.proofs.MetaLaws.{high_fits}
use Rattle.store_rules.proofs.NumberLaws.{eq_false, eq_true, nat_cases}
use Rattle.store_rules.proofs.PropertyOwners.{used_of_live}
use Rattle.store_rules.proofs.ViewLaws.{kind_below, kind_low, live_true}

pub more_wanted : (wanted : Entries) (e one : Entry) → wanted e ≡ true → with_entry wanted one e ≡ true
more_wanted wanted e one w = by (is_entry e one)
  where
    by : (t : Bool) → (t || wanted e) ≡ true
    by true = refl
    by false = w

pub one_wanted : (wanted : Entries) (one : Entry) → with_entry wanted one one ≡ true
one_wanted wanted one = rw (entry_itself one) refl

pub wanted_or_one : (wanted : Entries) (e one : Entry) → with_entry wanted one e ≡ true → (e ≡ one) ⊎ (wanted e ≡ true)
wanted_or_one wanted e one h = by (entry_cases e one)
  where
    by : (e ≡ one) ⊎ (is_entry e one ≡ false) → (e ≡ one) ⊎ (wanted e ≡ true)
    by (inl p) = inl p
    by (inr p) = inr (sym (ap (λ t. t || wanted e) p) ∙ h)

module _ (s t : Records) (wanted : Entries) (ix : AreIndexed s wanted) (d x node hash : ℕ) (listed : In d ix.definitions)
    (h : IsEntryMade s t x (heads_of s d (bucket_of hash / 15)) (format.heads_first + 4 * (bucket_of hash % 15)) node hash) where
  abbrev b : ℕ
  b = bucket_of hash

  abbrev xs : List ℕ
  xs = ix.lists d b

  abbrev hid : ℕ
  hid = heads_of s d (b / 15)

  abbrev place : ℕ
  place = format.heads_first + 4 * (b % 15)

  -- the one that stood first
  abbrev old : ℕ
  old = first_entry s d b

  abbrev one : Entry
  one = record { label = indexed_label s d; key = indexed_key s d; node = node; hash = hash }

  low : b < 180
  low = omega arith

  was : IsBucket s wanted d b xs
  was = ix.buckets d b listed low

  walk : IsWalk (next_entry s) old xs
  walk = walk_of_chain _ _ _ _ xs was.chain

  old_there : (old ≡ format.nil) ⊎ In old xs
  old_there = first_in (next_entry s) old xs walk

  live_some : (y : ℕ) → kind_at s format.index_file y ≢ format.free_kind → y ≢ format.nil
  live_some y used e = let under = kind_below (high s format.index_file) (index_rec s y) y used in let fits = high_fits s format.index_file in omega arith

  not_new : (y : ℕ) → kind_at s format.index_file y ≢ format.free_kind → y ≢ x
  not_new y used e = used (ap (kind_at s format.index_file) e ∙ h.fresh)

  not_old : (y : ℕ) → kind_at s format.index_file y ≢ format.indexed → y ≢ format.nil → y ≢ old
  not_old y ne some e = ⊎_elim (λ (n : old ≡ format.nil). some (e ∙ n)) (λ (m : In old xs). ne (ap (kind_at s format.index_file) e ∙ was.kind old m)) old_there

  hid_kind : kind_at s format.index_file hid ≡ format.heads
  hid_kind = ix.heads d (b / 15) listed (omega arith)

  not_hid : (y : ℕ) → kind_at s format.index_file y ≢ format.heads → y ≢ hid
  not_hid y ne q = ne (ap (kind_at s format.index_file) q ∙ hid_kind)

  new_not_hid : x ≢ hid
  new_not_hid = not_hid x (λ q. let f = h.fresh in omega (arith, q, f))

  -- a record in use whose first byte stays
  kind_used : (y : ℕ) → kind_at s format.index_file y ≢ format.free_kind → field 1 (index_rec t y) format.kind ≡ field 1 (index_rec s y) format.kind
      → kind_at t format.index_file y ≡ kind_at s format.index_file y
  kind_used y used byte =
      let under = kind_below (high s format.index_file) (index_rec s y) y used in
      let grows = h.grows in
      kind_low (high t format.index_file) (index_rec t y) y (omega arith) ∙ byte ∙ sym (kind_low (high s format.index_file) (index_rec s y) y under)

  rec_definition : (e : ℕ) → In e ix.definitions → index_rec t e ≡ index_rec s e
  rec_definition e i =
      let k = ix.defined e i in
      let used : kind_at s format.index_file e ≢ format.free_kind = λ q. omega (arith, k, q) in
      h.others e (not_new e used) (not_old e (λ q. omega (arith, k, q)) (live_some e used)) (not_hid e (λ q. omega (arith, k, q)))

  heads_field : (g n at : ℕ) → kind_at s format.index_file g ≡ format.heads → at + n ≤ 64 → (g ≡ hid → (place + 4 ≤ at) ⊎ (at + n ≤ place))
      → field n (index_rec t g) at ≡ field n (index_rec s g) at
  heads_field g n at k fits apart =
      let used : kind_at s format.index_file g ≢ format.free_kind = λ q. omega (arith, k, q) in
      ⊎_elim
      (λ (p : g ≡ hid). ap (λ (r : Rec). field n r at) (ap (index_rec t) p ∙ h.head) ∙ field-with_field_other 4 (index_rec s hid) place x n at fits (apart p)
      ∙ ap (λ y. field n (index_rec s y) at) (sym p))
      (λ (p : g ≢ hid). ap (λ (r : Rec). field n r at) (h.others g (not_new g used) (not_old g (λ q. omega (arith, k, q)) (live_some g used)) p))
      (nat_cases g hid)

  definition_same : (e : ℕ) → In e ix.definitions → SameDefinition s t e
  definition_same e i =
      let k = ix.defined e i in
      let rec = rec_definition e i in
      record {
        kind = kind_used e (λ q. omega (arith, k, q)) (ap (λ (r : Rec). field 1 r format.kind) rec);
        label = ap (λ (r : Rec). field 4 r format.definition_label) rec;
        key = ap (λ (r : Rec). field 4 r format.definition_key) rec;
        next = ap (λ (r : Rec). field 4 r format.definition_next) rec;
        heads = λ c lt. ap (λ (r : Rec). field 4 r (format.definition_heads + 4 * c)) rec;
      }

  heads_kept : (e c : ℕ) → In e ix.definitions → c < 12 → kind_at t format.index_file (heads_of s e c) ≡ kind_at s format.index_file (heads_of s e c)
  heads_kept e c i lt =
      let k = ix.heads e c i lt in
      kind_used (heads_of s e c) (λ q. omega (arith, k, q)) (heads_field (heads_of s e c) 1 format.kind k (omega arith) (λ p. inr (omega arith)))

  first_kept : (e c : ℕ) → In e ix.definitions → c < 180 → IsOther d b e c → first_entry t e c ≡ first_entry s e c
  first_kept e c i lt other =
      ap (λ y. field 4 (index_rec t y) (format.heads_first + 4 * (c % 15))) ((definition_same e i).heads (c / 15) (omega arith))
      ∙ heads_field (heads_of s e (c / 15)) 4 (format.heads_first + 4 * (c % 15)) (ix.heads e (c / 15) i (omega arith)) (omega arith)
      (λ p. let q = ix.heads_once e (c / 15) d (b / 15) i listed (omega arith) (omega arith) p in
      let ne : c % 15 ≢ b % 15 = λ m. other q.0 (let division = q.1 in omega arith) in
      ⊎_elim (λ (u : c % 15 < b % 15). inr (omega arith)) (λ (u : b % 15 < c % 15). inl (omega arith)) (less_cases (c % 15) (b % 15) ne))
    where
      less_cases : (m n : ℕ) → m ≢ n → (m < n) ⊎ (n < m)
      less_cases m n ne = ⊎_elim (λ (u : m < n). inl u) (λ (u : n ≤ m). inr (omega arith)) (cases_lt m n)

  -- ---- entries

  -- what an entry keeps, whatever became of its link to the one before it
  fields_kept : (y n at : ℕ) → kind_at s format.index_file y ≡ format.indexed → at + n ≤ 64 → (at + n ≤ format.indexed_previous)
      ⊎ (format.indexed_previous + 4 ≤ at) → field n (index_rec t y) at ≡ field n (index_rec s y) at
  fields_kept y n at k fits apart =
      let used : kind_at s format.index_file y ≢ format.free_kind = λ q. omega (arith, k, q) in
      ⊎_elim
      (λ (q : y ≡ old). ap (λ (r : Rec). field n r at) (ap (index_rec t) q ∙ h.after (λ z. live_some y used (q ∙ z)))
      ∙ field-with_field_other 4 (index_rec s old) format.indexed_previous x n at fits
      (⊎_elim (λ (u : at + n ≤ format.indexed_previous). inr u) (λ (u : format.indexed_previous + 4 ≤ at). inl u) apart)
      ∙ ap (λ z. field n (index_rec s z) at) (sym q))
      (λ (q : y ≢ old). ap (λ (r : Rec). field n r at) (h.others y (not_new y used) q (not_hid y (λ z. omega (arith, k, z))))) (nat_cases y old)

  entry_still : (y : ℕ) → kind_at s format.index_file y ≡ format.indexed → SameEntry s t y
  entry_still y k = record {
    kind = kind_used y (λ q. omega (arith, k, q)) (fields_kept y 1 format.kind k (omega arith) (inl (omega arith)));
    node = fields_kept y 4 format.indexed_node k (omega arith) (inl (omega arith));
    hash = fields_kept y 8 format.indexed_hash k (omega arith) (inr (omega arith));
  }

  other_out : (e c y : ℕ) → In e ix.definitions → c < 180 → IsOther d b e c → In y (ix.lists e c) → In y xs → ⊥
  other_out e c y i lt other m n = other (ix.one e c d b y i listed lt low m n) (sym ((ix.buckets e c i lt).hash y m) ∙ was.hash y n)

  entries_kept : (e c y : ℕ) → In e ix.definitions → c < 180 → IsOther d b e c → In y (ix.lists e c) → SameEntry s t y × SameLinks s t y
  entries_kept e c y i lt other m =
      let k = (ix.buckets e c i lt).kind y m in
      let used : kind_at s format.index_file y ≢ format.free_kind = λ q. omega (arith, k, q) in
      let rec = h.others y (not_new y used)
      (λ q. ⊎_elim (λ (n : old ≡ format.nil). live_some y used (q ∙ n)) (λ (n : In old xs). other_out e c y i lt other m (subst (λ z. In z xs) (sym q) n))
      old_there)
      (not_hid y (λ q. omega (arith, k, q))) in (
        entry_still y k,
        record {
          next = ap (λ (r : Rec). field 4 r format.indexed_next) rec;
          previous = ap (λ (r : Rec). field 4 r format.indexed_previous)
              rec;
        },
      )

  -- ---- the chain of the bucket

  masked : (ℕ → ℕ) → (ℕ → ℕ) → ℕ → ℕ
  masked was now y = cond (nat_eq y hid) (was y) (cond (nat_eq y format.nil) (was y) (now y))

  masked_at : (was now : ℕ → ℕ) (y : ℕ) → y ≢ hid → y ≢ format.nil → masked was now y ≡ now y
  unfolding masked
  masked_at was now y a n = rw (eq_false y hid a, eq_false y format.nil n) refl

  masked_same : (was now : ℕ → ℕ) (y : ℕ) → (y ≢ hid → y ≢ format.nil → now y ≡ was y) → masked was now y ≡ was y
  unfolding masked
  masked_same was now y same = ⊎_elim
      (λ (p : y ≡ hid). rw (eq_true y hid p) refl)
      (λ (a : y ≢ hid). ⊎_elim (λ (p : y ≡ format.nil). rw (eq_false y hid a, eq_true y format.nil p) refl)
      (λ (n : y ≢ format.nil). rw (eq_false y hid a, eq_false y format.nil n) (same a n)) (nat_cases y format.nil))
      (nat_cases y hid)

  old_in : old ≢ format.nil → In old xs
  old_in some = ⊎_elim (λ (e : old ≡ format.nil). absurd (some e)) (λ (m : In old xs). m) old_there

  old_not_hid : old ≢ format.nil → old ≢ hid
  old_not_hid some = let k = was.kind old (old_in some) in not_hid old (λ q. omega (arith, k, q))

  new_out : In x xs → ⊥
  new_out m = let k = was.kind x m in let f = h.fresh in omega (arith, k, f)

  chain_masked : IsChain (masked (next_entry s) (next_entry t)) (masked (previous_entry s) (previous_entry t)) format.nil x (x ∷ xs)
  chain_masked = chain_push (next_entry s) (previous_entry s) (masked (next_entry s) (next_entry t)) (masked (previous_entry s) (previous_entry t)) old x xs
      was.chain new_out h.some
      (masked_at (next_entry s) (next_entry t) x new_not_hid h.some ∙ h.next)
      (masked_at (previous_entry s) (previous_entry t) x new_not_hid h.some ∙ h.previous)
      (λ some. masked_at (previous_entry s) (previous_entry t) old (old_not_hid some) some ∙ ap (λ (r : Rec). field 4 r format.indexed_previous) (h.after some)
      ∙ field-with_field_same 4 (index_rec s old) format.indexed_previous x (omega arith) (let u = h.small in omega arith))
      (λ y ne. masked_same (next_entry s) (next_entry t) y (λ a n. ⊎_elim
      (λ (q : y ≡ old). ap (λ (r : Rec). field 4 r format.indexed_next) (ap (index_rec t) q ∙ h.after (λ z. n (q ∙ z)))
      ∙ field-with_field_other 4 (index_rec s old) format.indexed_previous x 4 format.indexed_next (omega arith) (inl (omega arith))
      ∙ ap (next_entry s) (sym q))
      (λ (q : y ≢ old). ap (λ (r : Rec). field 4 r format.indexed_next) (h.others y ne q a)) (nat_cases y old)))
      (λ y ne p. masked_same (previous_entry s) (previous_entry t) y (λ a n. ap (λ (r : Rec). field 4 r format.indexed_previous) (h.others y ne p a)))

  member_kind : (y : ℕ) → In y (x ∷ xs) → (y ≢ hid) × (y ≢ format.nil)
  member_kind y (inl e) = ((λ q. new_not_hid (sym e ∙ q)), (λ q. h.some (sym e ∙ q)))
  member_kind y (inr m) = let k = was.kind y m in (not_hid y (λ q. omega (arith, k, q)), live_some y (λ q. omega (arith, k, q)))

  first_now : first_entry t d b ≡ x
  first_now = ap (λ y. field 4 (index_rec t y) place) ((definition_same d listed).heads (b / 15) (omega arith)) ∙ ap (λ (r : Rec). field 4 r place) h.head
      ∙ field-with_field_same 4 (index_rec s hid) place x (omega arith) (let u = h.small in omega arith)

  entry_is : (e y : ℕ) → In e ix.definitions → SameEntry s t y → entry_in t e y ≡ entry_in s e y
  entry_is e y i k = let f = definition_same e i in λ j. record { label = f.label j; key = f.key j; node = k.node j; hash = k.hash j }

  entry_new : entry_in t d x ≡ one
  entry_new = let f = definition_same d listed in λ j. record { label = f.label j; key = f.key j; node = h.node_is j; hash = h.hash_is j }

  bucket_now : IsBucket t (with_entry wanted one) d b (x ∷ xs)
  bucket_now = record {
    chain = subst (λ f. IsChain (next_entry t) (previous_entry t) format.nil f (x ∷ xs)) (sym first_now)
        (chain_stays (masked (next_entry s) (next_entry t)) (masked (previous_entry s) (previous_entry t)) (next_entry t) (previous_entry t) format.nil x
        (x ∷ xs)
        (λ y m. let k = member_kind y m in sym (masked_at (next_entry s) (next_entry t) y k.0 k.1))
        (λ y m. let k = member_kind y m in sym (masked_at (previous_entry s) (previous_entry t) y k.0 k.1))
        chain_masked);
    kind = λ y m. ⊎_elim (λ (e : y ≡ x). ap (kind_at t format.index_file) e ∙ h.kind) (λ (n : In y xs). (entry_still y (was.kind y n)).kind ∙ was.kind y n) m;
    hash = λ y m. ⊎_elim (λ (e : y ≡ x). ap (λ z. bucket_of (entry_hash t z)) e ∙ ap bucket_of h.hash_is)
        (λ (n : In y xs). ap bucket_of (entry_still y (was.kind y n)).hash ∙ was.hash y n) m;
    wanted_is = λ y m. ⊎_elim
        (λ (e : y ≡ x). ap (with_entry wanted one) (ap (entry_in t d) e ∙ entry_new) ∙ one_wanted wanted one)
        (λ (n : In y xs). ap (with_entry wanted one) (entry_is d y listed (entry_still y (was.kind y n))) ∙ more_wanted wanted (entry_in s d y) one
        (was.wanted_is y n)) m;
  }

  module _ (unwanted : wanted one ≡ false) where
    -- no entry of the bucket is the new one
    not_one : (y : ℕ) → In y xs → entry_node s y ≡ node → entry_hash s y ≡ hash → ⊥
    not_one y n p q =
        let same : entry_in s d y ≡ one = λ j. record { label = indexed_label s d; key = indexed_key s d; node = p j; hash = q j } in
        true≢false (sym (was.wanted_is y n) ∙ ap wanted same ∙ unwanted)

    -- What the indexes have to have is the old and the entry.
    pub entry_made : IsBucketChanged s t wanted (with_entry wanted one) ix d b (x ∷ xs)
    entry_made = record {
      first = h.first;
      definitions = definition_same;
      heads = heads_kept;
      others = first_kept;
      entries = entries_kept;
      bucket = bucket_now;
      still = λ e c y i lt other m. more_wanted wanted (entry_in s e y) one ((ix.buckets e c i lt).wanted_is y m);
      here = λ e l k w in_b. ⊎_elim
          (λ (p : e ≡ one). record { id = x; member = inl refl; is = entry_new ∙ sym p })
          (λ (v : wanted e ≡ true).
          let has = ix.all d e listed l k v in
          let m : In has.id xs = subst (λ c. In has.id (ix.lists d c)) in_b has.member in
          record { id = has.id; member = inr m; is = entry_is d has.id listed (entry_still has.id (was.kind has.id m)) ∙ has.is })
          (wanted_or_one wanted e one w);
      there = λ f e i l k w other. ⊎_elim
          (λ (p : e ≡ one). absurd (other
          (ix.distinct f d i listed (sym l ∙ ap (λ (z : Entry). z.label) p) (sym k ∙ ap (λ (z : Entry). z.key) p))
          (ap (λ (z : Entry). bucket_of z.hash) p)))
          (λ (v : wanted e ≡ true). v) (wanted_or_one wanted e one w);
      once = λ y z m n p q. ⊎_elim
          (λ (e : y ≡ x). ⊎_elim (λ (f : z ≡ x). e ∙ sym f)
          (λ (j : In z xs). let k = entry_still z (was.kind z j) in
          absurd (not_one z j (sym k.node ∙ sym p ∙ ap (entry_node t) e ∙ h.node_is) (sym k.hash ∙ sym q ∙ ap (entry_hash t) e ∙ h.hash_is))) n)
          (λ (i : In y xs). ⊎_elim
          (λ (f : z ≡ x). let k = entry_still y (was.kind y i) in
          absurd (not_one y i (sym k.node ∙ p ∙ ap (entry_node t) f ∙ h.node_is) (sym k.hash ∙ q ∙ ap (entry_hash t) f ∙ h.hash_is)))
          (λ (j : In z xs). let u = entry_still y (was.kind y i) in let v = entry_still z (was.kind z j) in
          ix.once d b y z listed low i j (sym u.node ∙ p ∙ v.node) (sym u.hash ∙ q ∙ v.hash)) n) m;
      apart = λ e c y i lt ne m n. ⊎_elim
          (λ (p : y ≡ x). let k = (ix.buckets e c i lt).kind y n in let f = ap (kind_at s format.index_file) p ∙ h.fresh in omega (arith, k, f))
          (λ (j : In y xs). ne (ix.one e c d b y i listed lt low n j)) m;
      held = λ y live. ⊎_elim (λ (p : y ≡ x). inl (inl p))
          (λ (ne : y ≢ x). ⊎_elim (λ (m : In y xs). inl (inr m)) (λ (out : ¬ In y xs). inr (live_then y ne out live, out)) (in_cases y xs)) (nat_cases y x);
    }
      where
        live_then : (y : ℕ) → y ≢ x → (¬ In y xs) → is_live t format.index_file y ≡ true → is_live s format.index_file y ≡ true
        live_then y ne out live = ⊎_elim
            (λ (p : y ≡ hid). let k = hid_kind in ap (λ z. is_live s format.index_file z) p ∙ live_true (kind_at s format.index_file hid)
            (λ q. omega (arith, k, q)))
            (λ (a : y ≢ hid).
            let used = used_of_live t format.index_file y live in
            let under = kind_below (high t format.index_file) (index_rec t y) y used in
            let fits = high_fits t format.index_file in
            let rec = h.others y ne (λ q. ⊎_elim (λ (n : old ≡ format.nil). let z = q ∙ n in omega (arith, z)) (λ (m : In old xs). out
            (subst (λ z. In z xs) (sym q) m)) old_there) a in
            let same : kind_at s format.index_file y ≡ kind_at t format.index_file y
            = kind_low (high s format.index_file) (index_rec s y) y (h.only y ne under) ∙ ap (λ (r : Rec). field 1 r format.kind) (sym rec)
            ∙ sym (kind_low (high t format.index_file) (index_rec t y) y under) in
            live_true (kind_at s format.index_file y) (λ q. used (sym same ∙ q)))
            (nat_cases y hid)

    -- After an enter the rule holds, for one entry more.
    pub enters : AreIndexed t (with_entry wanted one)
    enters = bucket_changed s t wanted (with_entry wanted one) ix d b listed low (x ∷ xs) entry_made
