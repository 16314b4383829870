-- The eighth rule where its file stays, and what a change of one value of one node makes of it.
use Rattle.std.proofs.Common.{◌≡◌, ◌≢◌, ◌⊎◌, ⊎_elim, ℕ, Bool, true, false, ◌&&◌, ◌||◌, not, nat_eq, Option, None, Some, refl, ap, sym, ◌∙◌, inl, inr}
use Rattle.plain_graph.specs.declared.value.Value.{Value}
use Rattle.store_rules.specs.Chains.{In}
use Rattle.store_rules.specs.Hashes.{hash_of}
use Rattle.store_rules.specs.IndexChange.{ChangesValue, with_value, without_value}
use Rattle.store_rules.specs.Indexes.{AreIndexed, Entries, Entry, entry_in, has_hash, is_entry, indexed_key, indexed_label, node_value, wanted_in}
use Rattle.store_rules.specs.Views.{Records}
use Rattle.store_rules.proofs.NumberLaws.{eq_false, eq_true, nat_cases}

-- The same entries are wanted, of the pairs that have an index.
pub indexed_same : (s : Records) (wanted now : Entries) (ix : AreIndexed s wanted)
    → ((d : ℕ) (e : Entry) → In d ix.definitions → e.label ≡ indexed_label s d → e.key ≡ indexed_key s d → now e ≡ wanted e) → AreIndexed s now
indexed_same s wanted now ix same = record {
  definitions = ix.definitions;
  walk = ix.walk;
  few = ix.few;
  defined = ix.defined;
  distinct = ix.distinct;
  heads = ix.heads;
  heads_once = ix.heads_once;
  lists = ix.lists;
  buckets = λ d b i lt. let was = ix.buckets d b i lt in record {
    chain = was.chain;
    kind = was.kind;
    hash = was.hash;
    wanted_is = λ x m. same d (entry_in s d x) i refl refl ∙ was.wanted_is x m;
  };
  all = λ d e i l k w. ix.all d e i l k (sym (same d e i l k) ∙ w);
  once = ix.once;
  one = ix.one;
  held = ix.held;
}

-- ---- one value

-- the tests of an entry of the pair and the node are those of its hash
hash_test : (e : Entry) (label key n hash : ℕ) → e.label ≡ label → e.key ≡ key → e.node ≡ n
    → is_entry e (record { label = label; key = key; node = n; hash = hash }) ≡ nat_eq e.hash hash
hash_test e label key n hash l k m = rw (eq_true e.label label l, eq_true e.key key k, eq_true e.node n m) refl

flip : (a b : ℕ) → nat_eq a b ≡ nat_eq b a
flip a b = ⊎_elim (λ (p : a ≡ b). rw (eq_true a b p, eq_true b a (sym p)) refl) (λ (p : a ≢ b). rw (eq_false a b p, eq_false b a (λ q. p (sym q))) refl)
    (nat_cases a b)

not_entry : (e one : Entry) → (e.label ≢ one.label) ⊎ ((e.key ≢ one.key) ⊎ (e.node ≢ one.node)) → is_entry e one ≡ false
not_entry e one (inl p) = rw (eq_false e.label one.label p) refl
not_entry e one (inr (inl p)) = by (nat_eq e.label one.label) (eq_false e.key one.key p)
  where
    by : (a : Bool) → nat_eq e.key one.key ≡ false → (a && (nat_eq e.key one.key && (nat_eq e.node one.node && nat_eq e.hash one.hash))) ≡ false
    by true q = rw q refl
    by false q = refl
not_entry e one (inr (inr p)) = by (nat_eq e.label one.label) (nat_eq e.key one.key) (eq_false e.node one.node p)
  where
    by : (a b : Bool) → nat_eq e.node one.node ≡ false → (a && (b && (nat_eq e.node one.node && nat_eq e.hash one.hash))) ≡ false
    by true true q = rw q refl
    by true false q = refl
    by false b q = refl

module _ (label key n : ℕ) (e : Entry) where
  -- elsewhere nothing is other
  without_value-other : (wanted : Entries) (old : Option Value) → (e.label ≢ label) ⊎ ((e.key ≢ key) ⊎ (e.node ≢ n))
      → without_value wanted label key n old e ≡ wanted e
  without_value-other wanted None p = refl
  without_value-other wanted (Some v) p = ap (λ t. not t && wanted e) (not_entry e (record { label = label; key = key; node = n; hash = hash_of v }) p)

  with_value-other : (wanted : Entries) (new : Option Value) → (e.label ≢ label) ⊎ ((e.key ≢ key) ⊎ (e.node ≢ n))
      → with_value wanted label key n new e ≡ wanted e
  with_value-other wanted None p = refl
  with_value-other wanted (Some v) p = ap (λ t. t || wanted e) (not_entry e (record { label = label; key = key; node = n; hash = hash_of v }) p)

  -- here nothing is left
  without_value-here : (wanted : Entries) (old : Option Value) → e.label ≡ label → e.key ≡ key → e.node ≡ n → wanted e ≡ has_hash e.hash old
      → without_value wanted label key n old e ≡ false
  without_value-here wanted None l k m w = w
  without_value-here wanted (Some v) l k m w = ap (λ t. not t && wanted e) (hash_test e label key n (hash_of v) l k m ∙ flip e.hash (hash_of v))
      ∙ ap (λ t. not (nat_eq (hash_of v) e.hash) && t) w ∙ by (nat_eq (hash_of v) e.hash)
    where
      by : (t : Bool) → (not t && t) ≡ false
      by true = refl
      by false = refl

  with_value-here : (wanted : Entries) (new : Option Value) → e.label ≡ label → e.key ≡ key → e.node ≡ n → wanted e ≡ false
      → with_value wanted label key n new e ≡ has_hash e.hash new
  with_value-here wanted None l k m w = w
  with_value-here wanted (Some v) l k m w = ap (λ t. t || wanted e) (hash_test e label key n (hash_of v) l k m ∙ flip e.hash (hash_of v))
      ∙ ap (λ t. nat_eq (hash_of v) e.hash || t) w ∙ by (nat_eq (hash_of v) e.hash)
    where
      by : (t : Bool) → (t || false) ≡ t
      by true = refl
      by false = refl

-- After the old value's entry left and the new one's was entered, what is wanted is what the nodes have.
pub value_changed : (s t : Records) (label key n : ℕ) (old new : Option Value) → ChangesValue s t label key n old new
    → (e : Entry) → wanted_in t e ≡ with_value (without_value (wanted_in s) label key n old) label key n new e
value_changed s t label key n old new h e = ⊎_elim
    (λ (l : e.label ≡ label). ⊎_elim
    (λ (k : e.key ≡ key). ⊎_elim
    (λ (m : e.node ≡ n).
    let at : (r : Records) → node_value r e.label e.key e.node ≡ node_value r label key n = λ r i. node_value r (l i) (k i) (m i) in
    let before : wanted_in s e ≡ has_hash e.hash old = ap (has_hash e.hash) (at s ∙ h.was) in
    let after : wanted_in t e ≡ has_hash e.hash new = ap (has_hash e.hash) (at t ∙ h.now) in
    after ∙ sym (with_value-here label key n e (without_value (wanted_in s) label key n old) new l k m (without_value-here label key n e (wanted_in s)
    old l k m before)))
    (λ (m : e.node ≢ n). elsewhere (inr (inr m))) (nat_cases e.node n))
    (λ (k : e.key ≢ key). elsewhere (inr (inl k))) (nat_cases e.key key))
    (λ (l : e.label ≢ label). elsewhere (inl l)) (nat_cases e.label label)
  where
    elsewhere : (e.label ≢ label) ⊎ ((e.key ≢ key) ⊎ (e.node ≢ n)) → wanted_in t e ≡ with_value (without_value (wanted_in s) label key n old) label key n new e
    elsewhere p = ap (has_hash e.hash) (h.others e.label e.key e.node p)
        ∙ sym (with_value-other label key n e (without_value (wanted_in s) label key n old) new p ∙ without_value-other label key n e (wanted_in s) old p)

-- So the rule holds again.
pub indexed_again : (s t : Records) (label key n : ℕ) (old new : Option Value) → ChangesValue s t label key n old new
    → AreIndexed t (with_value (without_value (wanted_in s) label key n old) label key n new) → AreIndexed t (wanted_in t)
indexed_again s t label key n old new h ix = indexed_same t _ (wanted_in t) ix (λ d e i l k. value_changed s t label key n old new h e)
