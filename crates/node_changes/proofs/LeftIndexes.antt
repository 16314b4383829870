-- A node's entries that leave the indexes are those of its values.
use Rattle.std.specs.Prelude.{is_some}
use Rattle.std.specs.List.{filter, list_any}
use Rattle.std.proofs.Common.{◌≡◌, ◌≢◌, ⊎_elim, ℕ, ◌*◌, nat_eq, Bool, true, false, ◌&&◌, ◌||◌, not, if◌then◌else◌, cond}
use Rattle.std.proofs.Common.{Option, None, Some, List, [], ◌∷◌, length, ap, sym, ◌∙◌, arith, refl}
use Rattle.std.proofs.lemmas.Bool.{false≢true, true≢false}
use Rattle.std.proofs.lemmas.List.Sums.{sum_by-cons}
use Rattle.plain_graph.specs.declared.value.Value.{Value}
use Rattle.store_rules.specs.Hashes.{hash_of}
use Rattle.store_rules.specs.Indexes.{Entries, Entry, has_hash, is_entry, node_value, wanted_in}
use Rattle.store_rules.specs.Views.{Records}
use Rattle.store_rules.proofs.NumberLaws.{and_parts, eq_false, eq_true, nat_cases}
use Rattle.prop_index.specs.declared.listing.IndexPair.{IndexPair}
use Rattle.node_changes.specs.Entries.{held_of, held_weight, is_held, is_pair, node_weight, old_weight, without_held, without_node, without_old}
use Rattle.node_changes.specs.declared.entries.IndexedValue.{IndexedValue}
use Rattle.change_parts.proofs.GraphPairs.{same_number}

-- the value of a node in the index of a pair
abbrev held_entry : Records → ℕ → ℕ → IndexPair → IndexedValue
held_entry s label id pair = record { label = label; key = pair.key; node = id; value = node_value s label pair.key id }

-- ---- what they weigh

pub held_weighs_all : (s : Records) (label id : ℕ) (pairs : List IndexPair) → held_weight (held_of s label id pairs) ≡ node_weight s label id pairs
held_weighs_all s label id [] = refl
held_weighs_all s label id (pair ∷ pairs) = by (is_held s label id pair) refl (held_weighs_all s label id pairs)
  where
    three : (o : Option Value) → is_some o ≡ true → old_weight (Some (record { label = label; key = pair.key; node = id; value = o })) ≡ 3
    three None e = absurd (false≢true e)
    three (Some v) e = refl

    by : (b : Bool) → is_held s label id pair ≡ b → held_weight (held_of s label id pairs) ≡ 3 * length (filter (is_held s label id) pairs)
        → held_weight (if b then held_entry s label id pair ∷ held_of s label id pairs else held_of s label id pairs) ≡ 3 * length
        (cond b (pair ∷ filter (is_held s label id) pairs) (filter (is_held s label id) pairs))
    by true is rest =
        let all = sum_by-cons (λ (h : IndexedValue). old_weight (Some h)) (held_entry s label id pair) (held_of s label id pairs) in
        let one = three (node_value s label pair.key id) (and_parts (nat_eq pair.label label) (is_some (node_value s label pair.key id)) is).1 in
        omega (arith, rest, all, one)
    by false is rest = rest

-- ---- which entries are left

and_false : (b : Bool) → (b && false) ≡ false
and_false true = refl
and_false false = refl

none_old : (w : Entries) (h : IndexedValue) (e : Entry) → w e ≡ false → without_old w (Some h) e ≡ false
none_old w h e none = by h.value
  where
    by : (o : Option Value) → without_old w (Some (record { label = h.label; key = h.key; node = h.node; value = o })) e ≡ false
    by None = none
    by (Some v) = ap (λ b. not (is_entry e (record { label = h.label; key = h.key; node = h.node; hash = hash_of v })) && b) none
        ∙ and_false (not (is_entry e (record { label = h.label; key = h.key; node = h.node; hash = hash_of v })))

-- what isn't wanted is not wanted once more are gone
none_held : (w : Entries) (hs : List IndexedValue) (e : Entry) → w e ≡ false → without_held w hs e ≡ false
none_held w [] e none = none
none_held w (h ∷ hs) e none = none_held (without_old w (Some h)) hs e (none_old w h e none)

other_old : (w : Entries) (h : IndexedValue) (e : Entry) → e.node ≢ h.node → without_old w (Some h) e ≡ w e
other_old w h e ne = by h.value
  where
    apart : (hash : ℕ) (a b : Bool) → (a && (b && (nat_eq e.node h.node && nat_eq e.hash hash))) ≡ false
    apart hash true true = ap (λ c. c && nat_eq e.hash hash) (eq_false e.node h.node ne)
    apart hash true false = refl
    apart hash false b = refl

    by : (o : Option Value) → without_old w (Some (record { label = h.label; key = h.key; node = h.node; value = o })) e ≡ w e
    by None = refl
    by (Some v) = ap (λ c. not c && w e) (apart (hash_of v) (nat_eq e.label h.label) (nat_eq e.key h.key))

module _ (s : Records) (label id : ℕ) (e : Entry) where
  -- another node's entry stays
  other_held : (w : Entries) (pairs : List IndexPair) → e.node ≢ id → without_held w (held_of s label id pairs) e ≡ w e
  other_held w [] ne = refl
  other_held w (pair ∷ pairs) ne = by (is_held s label id pair) (other_held w pairs ne)
      (other_held (without_old w (Some (held_entry s label id pair))) pairs ne)
    where
      by : (b : Bool) → without_held w (held_of s label id pairs) e ≡ w e
          → without_held (without_old w (Some (held_entry s label id pair))) (held_of s label id pairs) e ≡ without_old w (Some (held_entry s label id pair)) e
          → without_held w (if b then held_entry s label id pair ∷ held_of s label id pairs else held_of s label id pairs) e ≡ w e
      by true plain less = less ∙ other_old w (held_entry s label id pair) e ne
      by false plain less = plain

  -- the node's own entry of a pair that is listed is gone
  own_held : (w : Entries) (pairs : List IndexPair) (v : Value) → e.label ≡ label → e.node ≡ id → node_value s label e.key id ≡ Some v → hash_of v ≡ e.hash
      → list_any (is_pair label e.key) pairs ≡ true
      → without_held w (held_of s label id pairs) e ≡ false
  own_held w [] v l n is hash listed = absurd (false≢true listed)
  own_held w (pair ∷ pairs) v l n is hash listed =
      by (is_pair label e.key pair) refl (is_held s label id pair) refl (λ later. own_held w pairs v l n is hash later)
      (λ later. own_held (without_old w (Some (held_entry s label id pair))) pairs v l n is hash later) listed
    where
      -- the entry is that of the value
      taken : pair.key ≡ e.key → without_old w (Some (held_entry s label id pair)) e ≡ false
      taken k =
          ap (λ (o : Option Value). without_old w (Some (record { label = label; key = pair.key; node = id; value = o })) e)
          (ap (λ x. node_value s label x id) k ∙ is)
          ∙ ap (λ c. not c && w e) same
        where
          same : is_entry e (record { label = label; key = pair.key; node = id; hash = hash_of v }) ≡ true
          same = rw (eq_true e.label label l, eq_true e.key pair.key (sym k), eq_true e.node id n, eq_true e.hash (hash_of v) (sym hash)) refl

      by : (a : Bool) → is_pair label e.key pair ≡ a → (b : Bool) → is_held s label id pair ≡ b
          → (list_any (is_pair label e.key) pairs ≡ true → without_held w (held_of s label id pairs) e ≡ false)
          → (list_any (is_pair label e.key) pairs ≡ true → without_held (without_old w (Some (held_entry s label id pair))) (held_of s label id pairs)
          e ≡ false) → (a || list_any (is_pair label e.key) pairs) ≡ true
          → without_held w (if b then held_entry s label id pair ∷ held_of s label id pairs else held_of s label id pairs) e ≡ false
      by true p true q plain less any = none_held (without_old w (Some (held_entry s label id pair))) (held_of s label id pairs) e
          (taken (same_number pair.key e.key (and_parts (nat_eq pair.label label) (nat_eq pair.key e.key) p).1))
      by true p false q plain less any =
          let both = and_parts (nat_eq pair.label label) (nat_eq pair.key e.key) p in
          let there : is_some (node_value s label pair.key id) ≡ true =
          ap is_some (ap (λ x. node_value s label x id) (same_number pair.key e.key both.1) ∙ is) in
          absurd (true≢false (sym (rw (both.0, there) refl) ∙ q))
      by false p true q plain less any = less any
      by false p false q plain less any = plain any

  -- Of pairs that have an index, the entries without those held are those without the node's.
  pub held_left : (pairs : List IndexPair) → (e.label ≡ label → list_any (is_pair label e.key) pairs ≡ true)
      → (e.label ≢ label → e.node ≡ id → wanted_in s e ≡ false) → without_node (wanted_in s) id e ≡ without_held (wanted_in s) (held_of s label id pairs) e
  held_left pairs listed elsewhere = ⊎_elim
      (λ (n : e.node ≡ id). ap (λ b. not b && wanted_in s e) (eq_true e.node id n) ∙ sym (⊎_elim
      (λ (l : e.label ≡ label). own l n (node_value s label e.key id) refl)
      (λ (l : e.label ≢ label). none_held (wanted_in s) (held_of s label id pairs) e (elsewhere l n)) (nat_cases e.label label)))
      (λ (n : e.node ≢ id). ap (λ b. not b && wanted_in s e) (eq_false e.node id n) ∙ sym (other_held (wanted_in s) pairs n)) (nat_cases e.node id)
    where
      own : e.label ≡ label → e.node ≡ id → (o : Option Value) → node_value s label e.key id ≡ o
          → without_held (wanted_in s) (held_of s label id pairs) e ≡ false
      own l n None is = none_held (wanted_in s) (held_of s label id pairs) e (ap (has_hash e.hash) ((λ i. node_value s (l i) e.key (n i)) ∙ is))
      own l n (Some v) is = by (nat_eq (hash_of v) e.hash) refl
        where
          by : (b : Bool) → nat_eq (hash_of v) e.hash ≡ b → without_held (wanted_in s) (held_of s label id pairs) e ≡ false
          by true same = own_held (wanted_in s) pairs v l n is (same_number (hash_of v) e.hash same) (listed l)
          by false other = none_held (wanted_in s) (held_of s label id pairs) e (ap (has_hash e.hash) ((λ i. node_value s (l i) e.key (n i)) ∙ is) ∙ other)
