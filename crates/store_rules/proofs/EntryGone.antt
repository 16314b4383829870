-- An entry that is taken out of its bucket and given back.
use Rattle.std.proofs.Common.{◌≡◌, ◌≢◌, ◌⊎◌, ⊎_elim, ℕ, ◌+◌, ◌*◌, ◌/◌, ◌%◌, ◌<◌, ◌≤◌, Bool, true, false, ◌&&◌, not}
use Rattle.std.proofs.Common.{cond, nat_eq, List, refl, ap, sym, ◌∙◌, subst, inl, inr, arith}
use Rattle.std.proofs.lemmas.Bool.{cases_lt, true≢false}
use borrow.Author.Tests.{eqb-true}
use Rattle.rec_bytes.specs.declared.record.Rec.{Rec}
use Rattle.rec_bytes.specs.Format as format
use Rattle.rec_bytes.specs.Record.{field}
use Rattle.rec_bytes.proofs.Numbers.{field-lt, field-with_field_other, field-with_field_same}
use Rattle.store_rules.specs.Chains.{In, IsChain, IsWalk, without}
use Rattle.store_rules.specs.Hashes.{bucket_of}
use Rattle.store_rules.specs.Indexes.{AreIndexed, Entries, Entry, IsBucket, entry_in, first_entry, heads_of, index_rec}
use Rattle.store_rules.specs.Indexes.{is_entry, next_entry, previous_entry, without_entry}
use Rattle.store_rules.specs.IndexChange.{IsEntryGone}
use Rattle.store_rules.specs.Views.{Records, high, is_live, kind_at, kind_in}
use Rattle.store_rules.proofs.BucketChange.{bucket_changed, IsBucketChanged, IsOther, SameDefinition, SameEntry, SameLinks}
use Rattle.store_rules.proofs.ChainLaws.{chain_stays, walk_of_chain}
use Rattle.store_rules.proofs.ChainSteps.{after_in, before_in, chain_unlink, first_before, gone, in_without, nil_out, stays_without}
use Rattle.store_rules.proofs.NumberLaws.{and_parts, eq_false, eq_true, nat_cases}
use Rattle.store_rules.proofs.MetaLaws.{high_fits}
use Rattle.store_rules.proofs.MemberLaws.{in_cases}
use Rattle.store_rules.proofs.PropertyOwners.{used_of_live}
use Rattle.store_rules.proofs.ViewLaws.{kind_below, live_false, live_true}

-- ---- the same for each law

-- the kind of a record whose first byte stays
pub kind_kept : (s t : Records) (x : ℕ) → high t format.index_file ≡ high s format.index_file
    → field 1 (index_rec t x) format.kind ≡ field 1 (index_rec s x) format.kind
    → kind_at t format.index_file x ≡ kind_at s format.index_file x
unfolding kind_in
kind_kept s t x mark byte = rw (mark, byte) refl

pub entry_kept : (a b : Entry) → is_entry a b ≡ true → a ≡ b
entry_kept a b h =
    let l = and_parts (nat_eq a.label b.label) (nat_eq a.key b.key && (nat_eq a.node b.node && nat_eq a.hash b.hash)) h in
    let k = and_parts (nat_eq a.key b.key) (nat_eq a.node b.node && nat_eq a.hash b.hash) l.1 in
    let n = and_parts (nat_eq a.node b.node) (nat_eq a.hash b.hash) k.1 in
    let pl = eqb-true a.label b.label l.0 in let pk = eqb-true a.key b.key k.0 in let pn = eqb-true a.node b.node n.0 in let ph = eqb-true a.hash b.hash n.1 in
    λ i. record { label = pl i; key = pk i; node = pn i; hash = ph i }

pub entry_itself : (a : Entry) → is_entry a a ≡ true
entry_itself a = rw (eq_true a.label a.label refl, eq_true a.key a.key refl, eq_true a.node a.node refl, eq_true a.hash a.hash refl) refl

pub entry_cases : (a b : Entry) → (a ≡ b) ⊎ (is_entry a b ≡ false)
entry_cases a b = by (is_entry a b) refl
  where
    by : (t : Bool) → is_entry a b ≡ t → (a ≡ b) ⊎ (is_entry a b ≡ false)
    by true e = inl (entry_kept a b e)
    by false e = inr e

-- a wanted entry other than one that is not
pub still_wanted : (wanted : Entries) (e one : Entry) → (e ≡ one → ⊥) → wanted e ≡ true → without_entry wanted one e ≡ true
still_wanted wanted e one ne w = ⊎_elim (λ (p : e ≡ one). absurd (ne p)) (λ (f : is_entry e one ≡ false). rw f w) (entry_cases e one)

pub was_wanted : (wanted : Entries) (e one : Entry) → without_entry wanted one e ≡ true → (wanted e ≡ true) × (e ≡ one → ⊥)
was_wanted wanted e one h =
    let p = and_parts (not (is_entry e one)) (wanted e) h in
    (p.1, λ q. true≢false (sym p.0 ∙ ap (λ z. not (is_entry z one)) q ∙ ap not (entry_itself one)))

module _ (s t : Records) (wanted : Entries) (ix : AreIndexed s wanted) (d b x : ℕ) (listed : In d ix.definitions) (low : b < 180) (member : In x (ix.lists d b))
    (h : IsEntryGone s t x (heads_of s d (b / 15)) (format.heads_first + 4 * (b % 15))) where
  abbrev xs : List ℕ
  xs = ix.lists d b

  abbrev hid : ℕ
  hid = heads_of s d (b / 15)

  abbrev place : ℕ
  place = format.heads_first + 4 * (b % 15)

  abbrev one : Entry
  one = entry_in s d x

  was : IsBucket s wanted d b xs
  was = ix.buckets d b listed low

  walk : IsWalk (next_entry s) (first_entry s d b) xs
  walk = walk_of_chain _ _ _ _ xs was.chain

  -- what is next to the entry is in its bucket, or none
  after_there : (next_entry s x ≡ format.nil) ⊎ In (next_entry s x) xs
  after_there = after_in (next_entry s) (first_entry s d b) xs x walk member

  before_there : (first_entry s d b ≡ x) ⊎ In (previous_entry s x) xs
  before_there = before_in (next_entry s) (previous_entry s) format.nil (first_entry s d b) xs x was.chain member

  nil_no : In format.nil xs → ⊥
  nil_no = nil_out (next_entry s) (first_entry s d b) xs walk

  -- a record of another kind than an entry's is not next to it
  not_next : (y : ℕ) → kind_at s format.index_file y ≢ format.indexed → y ≢ format.nil → y ≢ next_entry s x
  not_next y ne some e = ⊎_elim (λ (n : next_entry s x ≡ format.nil). some (e ∙ n))
      (λ (m : In (next_entry s x) xs). ne (ap (kind_at s format.index_file) e ∙ was.kind (next_entry s x) m)) after_there

  before_none : first_entry s d b ≡ x → previous_entry s x ≡ format.nil
  before_none e = first_before (next_entry s) (previous_entry s) format.nil (first_entry s d b) xs x was.chain member e

  not_before : (y : ℕ) → kind_at s format.index_file y ≢ format.indexed → y ≢ format.nil → y ≢ previous_entry s x
  not_before y ne some e = ⊎_elim (λ (n : first_entry s d b ≡ x). some (e ∙ before_none n))
      (λ (m : In (previous_entry s x) xs). ne (ap (kind_at s format.index_file) e ∙ was.kind (previous_entry s x) m)) before_there

  hid_kind : kind_at s format.index_file hid ≡ format.heads
  hid_kind = ix.heads d (b / 15) listed (omega arith)

  -- nothing is known of the record of none, but no kind is
  rec_definition : (e : ℕ) → In e ix.definitions → e ≢ format.nil → index_rec t e ≡ index_rec s e
  rec_definition e i some =
      let k = ix.defined e i in
      h.others e (λ q. let m = was.kind x member in let z = ap (kind_at s format.index_file) q in omega (arith, k, m, z))
      (not_next e (λ q. omega (arith, k, q)) some) (not_before e (λ q. omega (arith, k, q)) some)
      (λ n q. let z = ap (kind_at s format.index_file) q in let m = hid_kind in omega (arith, k, m, z))

  -- a field of the heads' record that is not the bucket's
  heads_field : (g n at : ℕ) → kind_at s format.index_file g ≡ format.heads → g ≢ format.nil → at + n ≤ 64 → (g ≡ hid → (place + 4 ≤ at) ⊎ (at + n ≤ place))
      → field n (index_rec t g) at ≡ field n (index_rec s g) at
  heads_field g n at k some fits apart = ⊎_elim
      (λ (p : (previous_entry s x ≡ format.nil) × (g ≡ hid)).
      ap (λ (r : Rec). field n r at) (ap (index_rec t) p.1 ∙ h.head p.0)
      ∙ field-with_field_other 4 (index_rec s hid) place (next_entry s x) n at fits (apart p.1) ∙ ap (λ y. field n (index_rec s y) at) (sym p.1))
      (λ (p : previous_entry s x ≡ format.nil → g ≢ hid).
      ap (λ (r : Rec). field n r at) (h.others g (λ q. let m = was.kind x member in let z = ap (kind_at s format.index_file) q in omega (arith, k, m, z))
      (not_next g (λ q. omega (arith, k, q)) some) (not_before g (λ q. omega (arith, k, q)) some) p))
      (⊎_elim (λ (n : previous_entry s x ≡ format.nil). ⊎_elim (λ (q : g ≡ hid). inl (n, q)) (λ (q : g ≢ hid). inr (λ m. q)) (nat_cases g hid))
      (λ (n : previous_entry s x ≢ format.nil). inr (λ m. absurd (n m))) (nat_cases (previous_entry s x) format.nil))

  -- a record in use is none's
  live_some : (y : ℕ) → kind_at s format.index_file y ≢ format.free_kind → y ≢ format.nil
  live_some y used e = let under = kind_below (high s format.index_file) (index_rec s y) y used in let fits = high_fits s format.index_file in omega arith

  definition_same : (e : ℕ) → In e ix.definitions → SameDefinition s t e
  definition_same e i =
      let k = ix.defined e i in
      let rec = rec_definition e i (live_some e (λ q. omega (arith, k, q))) in
      record {
        kind = kind_kept s t e h.mark (ap (λ (r : Rec). field 1 r format.kind) rec);
        label = ap (λ (r : Rec). field 4 r format.definition_label) rec;
        key = ap (λ (r : Rec). field 4 r format.definition_key) rec;
        next = ap (λ (r : Rec). field 4 r format.definition_next) rec;
        heads = λ c lt. ap (λ (r : Rec). field 4 r (format.definition_heads + 4 * c)) rec;
      }

  heads_kept : (e c : ℕ) → In e ix.definitions → c < 12 → kind_at t format.index_file (heads_of s e c) ≡ kind_at s format.index_file (heads_of s e c)
  heads_kept e c i lt =
      let k = ix.heads e c i lt in
      kind_kept s t (heads_of s e c) h.mark (heads_field (heads_of s e c) 1 format.kind k (live_some (heads_of s e c) (λ q. omega (arith, k, q))) (omega arith)
      (λ p. inr (omega arith)))

  first_kept : (e c : ℕ) → In e ix.definitions → c < 180 → IsOther d b e c → first_entry t e c ≡ first_entry s e c
  first_kept e c i lt other =
      let k = ix.heads e (c / 15) i (omega arith) in
      let g = heads_of s e (c / 15) in
      ap (λ y. field 4 (index_rec t y) (format.heads_first + 4 * (c % 15))) ((definition_same e i).heads (c / 15) (omega arith))
      ∙ heads_field g 4 (format.heads_first + 4 * (c % 15)) k (live_some g (λ q. omega (arith, k, q))) (omega arith)
      (λ p. let q = ix.heads_once e (c / 15) d (b / 15) i listed (omega arith) (omega arith) p in
      let ne : c % 15 ≢ b % 15 = λ m. other q.0 (let division = q.1 in omega arith) in
      ⊎_elim (λ (u : c % 15 < b % 15). inr (omega arith)) (λ (u : b % 15 < c % 15). inl (omega arith)) (less_cases (c % 15) (b % 15) ne))
    where
      less_cases : (m n : ℕ) → m ≢ n → (m < n) ⊎ (n < m)
      less_cases m n ne = ⊎_elim (λ (u : m < n). inl u) (λ (u : n ≤ m). inr (omega arith)) (cases_lt m n)

  -- ---- entries

  -- an entry that is not next to it
  entry_far : (y : ℕ) → kind_at s format.index_file y ≡ format.indexed → y ≢ x → y ≢ next_entry s x → y ≢ previous_entry s x → index_rec t y ≡ index_rec s y
  entry_far y k a n p = h.others y a n p (λ m q. let z = ap (kind_at s format.index_file) q in let u = hid_kind in omega (arith, k, u, z))

  whole : (y : ℕ) → index_rec t y ≡ index_rec s y → SameEntry s t y × SameLinks s t y
  whole y rec = (
    record {
      kind = kind_kept s t y h.mark (ap (λ (r : Rec). field 1 r format.kind) rec);
      node = ap (λ (r : Rec). field 4 r format.indexed_node) rec;
      hash = ap (λ (r : Rec). field 8 r format.indexed_hash) rec;
    },
    record { next = ap (λ (r : Rec). field 4 r format.indexed_next) rec; previous = ap (λ (r : Rec). field 4 r format.indexed_previous) rec },
  )

  -- members of other buckets are none of this one
  other_out : (e c y : ℕ) → In e ix.definitions → c < 180 → IsOther d b e c → In y (ix.lists e c) → In y xs → ⊥
  other_out e c y i lt other m n =
      let same = ix.one e c d b y i listed lt low m n in
      let hash = (ix.buckets e c i lt).hash y m in
      other same (sym hash ∙ was.hash y n)

  entries_kept : (e c y : ℕ) → In e ix.definitions → c < 180 → IsOther d b e c → In y (ix.lists e c) → SameEntry s t y × SameLinks s t y
  entries_kept e c y i lt other m =
      let k = (ix.buckets e c i lt).kind y m in
      let some = live_some y (λ q. omega (arith, k, q)) in
      let out = other_out e c y i lt other m in
      whole y (entry_far y k (λ q. out (subst (λ z. In z xs) (sym q) member))
      (λ q. ⊎_elim (λ (n : next_entry s x ≡ format.nil). some (q ∙ n)) (λ (n : In (next_entry s x) xs). out (subst (λ z. In z xs) (sym q) n)) after_there)
      (λ q. ⊎_elim (λ (n : first_entry s d b ≡ x). some (q ∙ before_none n)) (λ (n : In (previous_entry s x) xs). out (subst (λ z. In z xs) (sym q) n))
      before_there))

  -- what an entry of the bucket keeps, whatever became of its links
  fields_kept : (y n at : ℕ) → In y xs → y ≢ x → at + n ≤ 64 → (at + n ≤ format.indexed_previous) ⊎ (format.indexed_next + 4 ≤ at)
      → field n (index_rec t y) at ≡ field n (index_rec s y) at
  fields_kept y n at m ne fits apart =
      let k = was.kind y m in
      let some = live_some y (λ q. omega (arith, k, q)) in
      ⊎_elim
      (λ (q : y ≡ next_entry s x). ap (λ (r : Rec). field n r at) (ap (index_rec t) q ∙ h.after (λ z. some (q ∙ z)))
      ∙ field-with_field_other 4 (index_rec s (next_entry s x)) format.indexed_previous (previous_entry s x) n at fits
      (⊎_elim (λ (u : at + n ≤ format.indexed_previous). inr u) (λ (u : format.indexed_next + 4 ≤ at). inl (omega arith)) apart)
      ∙ ap (λ z. field n (index_rec s z) at) (sym q))
      (λ (a : y ≢ next_entry s x). ⊎_elim
      (λ (q : y ≡ previous_entry s x). ap (λ (r : Rec). field n r at) (ap (index_rec t) q ∙ h.before (λ z. some (q ∙ z)))
      ∙ field-with_field_other 4 (index_rec s (previous_entry s x)) format.indexed_next (next_entry s x) n at fits
      (⊎_elim (λ (u : at + n ≤ format.indexed_previous). inr (omega arith)) (λ (u : format.indexed_next + 4 ≤ at). inl u) apart)
      ∙ ap (λ z. field n (index_rec s z) at) (sym q))
      (λ (p : y ≢ previous_entry s x). ap (λ (r : Rec). field n r at) (entry_far y k ne a p)) (nat_cases y (previous_entry s x)))
      (nat_cases y (next_entry s x))

  entry_still : (y : ℕ) → In y xs → y ≢ x → SameEntry s t y
  entry_still y m ne = record {
    kind = kind_kept s t y h.mark (fields_kept y 1 format.kind m ne (omega arith) (inl (omega arith)));
    node = fields_kept y 4 format.indexed_node m ne (omega arith) (inl (omega arith));
    hash = fields_kept y 8 format.indexed_hash m ne (omega arith) (inr (omega arith));
  }

  -- ---- the chain of the bucket

  -- links, but for the two numbers of which no entry's record is known
  masked : (ℕ → ℕ) → (ℕ → ℕ) → ℕ → ℕ
  masked old new y = cond (nat_eq y hid) (old y) (cond (nat_eq y format.nil) (old y) (new y))

  masked_at : (old new : ℕ → ℕ) (y : ℕ) → y ≢ hid → y ≢ format.nil → masked old new y ≡ new y
  unfolding masked
  masked_at old new y a n = rw (eq_false y hid a, eq_false y format.nil n) refl

  masked_same : (old new : ℕ → ℕ) (y : ℕ) → (y ≢ hid → y ≢ format.nil → new y ≡ old y) → masked old new y ≡ old y
  unfolding masked
  masked_same old new y same = ⊎_elim
      (λ (p : y ≡ hid). rw (eq_true y hid p) refl)
      (λ (a : y ≢ hid). ⊎_elim (λ (p : y ≡ format.nil). rw (eq_false y hid a, eq_true y format.nil p) refl)
      (λ (n : y ≢ format.nil). rw (eq_false y hid a, eq_false y format.nil n) (same a n)) (nat_cases y format.nil))
      (nat_cases y hid)

  not_hid : (y : ℕ) → kind_at s format.index_file y ≡ format.indexed → y ≢ hid
  not_hid y k q = let z = ap (kind_at s format.index_file) q in let u = hid_kind in omega (arith, k, u, z)

  next_other : (y : ℕ) → y ≢ x → y ≢ previous_entry s x → y ≢ hid → y ≢ format.nil → next_entry t y ≡ next_entry s y
  next_other y ne p a n = ⊎_elim
      (λ (q : y ≡ next_entry s x). ap (λ (r : Rec). field 4 r format.indexed_next) (ap (index_rec t) q ∙ h.after (λ z. n (q ∙ z)))
      ∙ field-with_field_other 4 (index_rec s (next_entry s x)) format.indexed_previous (previous_entry s x) 4 format.indexed_next (omega arith)
      (inl (omega arith)) ∙ ap (next_entry s) (sym q))
      (λ (q : y ≢ next_entry s x). ap (λ (r : Rec). field 4 r format.indexed_next) (h.others y ne q p (λ m. a))) (nat_cases y (next_entry s x))

  previous_other : (y : ℕ) → y ≢ x → y ≢ next_entry s x → y ≢ hid → y ≢ format.nil → previous_entry t y ≡ previous_entry s y
  previous_other y ne p a n = ⊎_elim
      (λ (q : y ≡ previous_entry s x). ap (λ (r : Rec). field 4 r format.indexed_previous) (ap (index_rec t) q ∙ h.before (λ z. n (q ∙ z)))
      ∙ field-with_field_other 4 (index_rec s (previous_entry s x)) format.indexed_next (next_entry s x) 4 format.indexed_previous (omega arith)
      (inr (omega arith)) ∙ ap (previous_entry s) (sym q))
      (λ (q : y ≢ previous_entry s x). ap (λ (r : Rec). field 4 r format.indexed_previous) (h.others y ne p q (λ m. a))) (nat_cases y (previous_entry s x))

  before_in_bucket : previous_entry s x ≢ format.nil → In (previous_entry s x) xs
  before_in_bucket some = ⊎_elim (λ (e : first_entry s d b ≡ x). absurd (some (before_none e))) (λ (m : In (previous_entry s x) xs). m) before_there

  after_in_bucket : next_entry s x ≢ format.nil → In (next_entry s x) xs
  after_in_bucket some = ⊎_elim (λ (e : next_entry s x ≡ format.nil). absurd (some e)) (λ (m : In (next_entry s x) xs). m) after_there

  chain_masked : IsChain (masked (next_entry s) (next_entry t)) (masked (previous_entry s) (previous_entry t)) format.nil
      (cond (nat_eq (first_entry s d b) x) (next_entry s x) (first_entry s d b)) (without x xs)
  chain_masked = chain_unlink (next_entry s) (previous_entry s) (masked (next_entry s) (next_entry t)) (masked (previous_entry s) (previous_entry t)) x
      (λ some. masked_at (next_entry s) (next_entry t) (previous_entry s x) (not_hid (previous_entry s x) (was.kind (previous_entry s x)
      (before_in_bucket some))) some
      ∙ ap (λ (r : Rec). field 4 r format.indexed_next) (h.before some)
      ∙ field-with_field_same 4 (index_rec s (previous_entry s x)) format.indexed_next (next_entry s x) (omega arith)
      (field-lt 4 (index_rec s x) format.indexed_next))
      (λ some. masked_at (previous_entry s) (previous_entry t) (next_entry s x) (not_hid (next_entry s x) (was.kind (next_entry s x) (after_in_bucket some)))
      some
      ∙ ap (λ (r : Rec). field 4 r format.indexed_previous) (h.after some)
      ∙ field-with_field_same 4 (index_rec s (next_entry s x)) format.indexed_previous (previous_entry s x) (omega arith)
      (field-lt 4 (index_rec s x) format.indexed_previous))
      (λ y a p. masked_same (next_entry s) (next_entry t) y (next_other y a p))
      (λ y a p. masked_same (previous_entry s) (previous_entry t) y (previous_other y a p))
      format.nil (first_entry s d b) xs nil_no was.chain member

  first_now : first_entry t d b ≡ cond (nat_eq (first_entry s d b) x) (next_entry s x) (first_entry s d b)
  first_now = ap (λ y. field 4 (index_rec t y) place) ((definition_same d listed).heads (b / 15) (omega arith)) ∙ ⊎_elim
      (λ (p : first_entry s d b ≡ x). ap (λ (r : Rec). field 4 r place) (h.head (before_none p)) ∙ field-with_field_same 4 (index_rec s hid) place
      (next_entry s x) (omega arith) (field-lt 4 (index_rec s x) format.indexed_next)
      ∙ rw (eq_true (first_entry s d b) x p) refl)
      (λ (ne : first_entry s d b ≢ x).
      let m = ⊎_elim (λ (q : first_entry s d b ≡ x). absurd (ne q)) (λ (i : In (previous_entry s x) xs). i) before_there in
      let k = hid_kind in
      let some : previous_entry s x ≢ format.nil = λ e. nil_no (subst (λ z. In z xs) e m) in
      ap (λ (r : Rec). field 4 r place) (h.others hid (λ q. let a = was.kind x member in let z = ap (kind_at s format.index_file) q in omega (arith, k, a, z))
      (not_next hid (λ q. omega (arith, k, q)) (live_some hid (λ q. omega (arith, k, q))))
      (not_before hid (λ q. omega (arith, k, q)) (live_some hid (λ q. omega (arith, k, q)))) (λ e. absurd (some e)))
      ∙ rw (eq_false (first_entry s d b) x ne) refl)
      (nat_cases (first_entry s d b) x)

  left_out : (y : ℕ) → In y (without x xs) → In y xs × (y ≢ x)
  left_out y m = (in_without x xs y m, λ e. gone (next_entry s) x (first_entry s d b) xs walk (subst (λ z. In z (without x xs)) e m))

  entry_is : (e y : ℕ) → In e ix.definitions → SameEntry s t y → entry_in t e y ≡ entry_in s e y
  entry_is e y i k = let f = definition_same e i in λ j. record { label = f.label j; key = f.key j; node = k.node j; hash = k.hash j }

  -- another member of the bucket is another entry
  other_entry : (y : ℕ) → In y xs → y ≢ x → entry_in s d y ≡ one → ⊥
  other_entry y m ne p = ne (ix.once d b y x listed low m member (ap (λ (e : Entry). e.node) p) (ap (λ (e : Entry). e.hash) p))

  bucket_now : IsBucket t (without_entry wanted one) d b (without x xs)
  bucket_now = record {
    chain = subst (λ f. IsChain (next_entry t) (previous_entry t) format.nil f (without x xs)) (sym first_now)
        (chain_stays (masked (next_entry s) (next_entry t)) (masked (previous_entry s) (previous_entry t)) (next_entry t) (previous_entry t) format.nil _
        (without x xs)
        (λ y m. let k = was.kind y (left_out y m).0 in sym (masked_at (next_entry s) (next_entry t) y (not_hid y k) (live_some y (λ q. omega (arith, k, q)))))
        (λ y m. let k = was.kind y (left_out y m).0 in sym (masked_at (previous_entry s) (previous_entry t) y (not_hid y k)
        (live_some y (λ q. omega (arith, k, q)))))
        chain_masked);
    kind = λ y m. let l = left_out y m in (entry_still y l.0 l.1).kind ∙ was.kind y l.0;
    hash = λ y m. let l = left_out y m in ap bucket_of (entry_still y l.0 l.1).hash ∙ was.hash y l.0;
    wanted_is = λ y m.
        let l = left_out y m in
        let e = entry_is d y listed (entry_still y l.0 l.1) in
        ap (without_entry wanted one) e ∙ still_wanted wanted (entry_in s d y) one (other_entry y l.0 l.1) (was.wanted_is y l.0);
  }

  -- What the indexes have to have is the old without the entry.
  pub entry_gone : IsBucketChanged s t wanted (without_entry wanted one) ix d b (without x xs)
  entry_gone = record {
    first = h.first;
    definitions = definition_same;
    heads = heads_kept;
    others = first_kept;
    entries = entries_kept;
    bucket = bucket_now;
    still = λ e c y i lt other m. still_wanted wanted (entry_in s e y) one
        (λ p. other (ix.distinct e d i listed (ap (λ (z : Entry). z.label) p) (ap (λ (z : Entry). z.key) p))
        (sym ((ix.buckets e c i lt).hash y m) ∙ ap (λ (z : Entry). bucket_of z.hash) p ∙ was.hash x member))
        ((ix.buckets e c i lt).wanted_is y m);
    here = λ e l k w in_b.
        let old = was_wanted wanted e one w in
        let has = ix.all d e listed l k old.0 in
        let m : In has.id xs = subst (λ c. In has.id (ix.lists d c)) in_b has.member in
        let ne : has.id ≢ x = λ q. old.1 (sym has.is ∙ ap (entry_in s d) q) in
        record { id = has.id; member = stays_without x xs has.id ne m; is = entry_is d has.id listed (entry_still has.id m ne) ∙ has.is };
    there = λ f e i l k w other. (was_wanted wanted e one w).0;
    once = λ y z m n p q.
        let a = left_out y m in let c = left_out z n in
        let u = entry_still y a.0 a.1 in let v = entry_still z c.0 c.1 in
        ix.once d b y z listed low a.0 c.0 (sym u.node ∙ p ∙ v.node) (sym u.hash ∙ q ∙ v.hash);
    apart = λ e c y i lt ne m n. ne (ix.one e c d b y i listed lt low n (left_out y m).0);
    held = λ y live. ⊎_elim
        (λ (m : In y xs). ⊎_elim
        (λ (p : y ≡ x). absurd (true≢false (sym live ∙ live_false (kind_at t format.index_file y) (ap (kind_at t format.index_file) p ∙ h.gone))))
        (λ (ne : y ≢ x). inl (stays_without x xs y ne m)) (nat_cases y x))
        (λ (out : ¬ In y xs). inr (live_then y out live, out)) (in_cases y xs);
  }
    where
      -- a record in use was in use
      live_then : (y : ℕ) → (¬ In y xs) → is_live t format.index_file y ≡ true → is_live s format.index_file y ≡ true
      live_then y out live = ⊎_elim
          (λ (p : y ≡ hid). let k = hid_kind in ap (λ z. is_live s format.index_file z) p ∙ live_true (kind_at s format.index_file hid)
          (λ q. omega (arith, k, q)))
          (λ (a : y ≢ hid).
          ap (λ k. not (nat_eq k 0)) (sym (kind_kept s t y h.mark (ap (λ (r : Rec). field 1 r format.kind)
          (h.others y (λ q. out (subst (λ z. In z xs) (sym q) member))
          (λ q. ⊎_elim (λ (n : next_entry s x ≡ format.nil). none_live (q ∙ n)) (λ (m : In (next_entry s x) xs). out (subst (λ z. In z xs) (sym q) m))
          after_there)
          (λ q. ⊎_elim (λ (n : first_entry s d b ≡ x). none_live (q ∙ before_none n)) (λ (m : In (previous_entry s x) xs). out (subst (λ z. In z xs) (sym q) m))
          before_there)
          (λ m. a))))) ∙ live)
          (nat_cases y hid)
        where
          none_live : y ≡ format.nil → ⊥
          none_live p = let u = used_of_live t format.index_file y live in let under = kind_below (high t format.index_file) (index_rec t y) y u in let fits =
              high_fits t format.index_file in omega arith

  -- After a leave the rule holds, for the entries but one.
  pub leaves : AreIndexed t (without_entry wanted one)
  leaves = bucket_changed s t wanted (without_entry wanted one) ix d b listed low (without x xs) entry_gone
