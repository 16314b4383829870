-- The values that a new node has, one after the other, and the entries that are wanted of them.
use Rattle.std.proofs.Common.{◌≡◌, ◌≢◌, ◌⊎◌, inl, inr, ℕ, ◌+◌, ◌<◌, nat_eq, Bool, true, false, ◌&&◌, ◌||◌, None, Some, List, [], ◌∷◌, length, take, get_or, ap}
use Rattle.std.proofs.Common.{sym, ◌∙◌, refl}
use Rattle.std.specs.List.{list_any}
use Rattle.std.proofs.lemmas.Bool.{false≢true}
use Rattle.std.proofs.lemmas.List.{take_more}
use Rattle.std.proofs.lemmas.List.Folds.{list_any-append}
use Rattle.plain_graph.specs.declared.pairs.Pair.{Pair}
use Rattle.plain_graph.specs.declared.value.Value.{Value}
use Rattle.store_rules.specs.Hashes.{hash_of}
use Rattle.store_rules.specs.IndexChange.{ChangesValue}
use Rattle.store_rules.specs.Indexes.{Entries, Entry, has_hash, node_value, wanted_in}
use Rattle.store_rules.specs.Views.{Records}
use Rattle.store_rules.proofs.NumberLaws.{eq_true}
use Rattle.change_parts.specs.Assigning.{pair_at}
use Rattle.change_parts.specs.GivenValues.{with_assigned}
use Rattle.change_parts.specs.declared.assigning.Assignment.{Assignment}
use Rattle.change_parts.proofs.GraphPairs.{same_number}

other_number : (a b : ℕ) → nat_eq a b ≡ false → a ≢ b
other_number a b is e = false≢true (sym is ∙ eq_true a b e)

-- none yet
pub none_given : (wanted : Entries) (label id : ℕ) (pairs : List Pair) (e : Entry) → wanted e ≡ with_assigned wanted label id pairs [] e
none_given wanted label id pairs e = by (nat_eq e.label label) (nat_eq e.node id)
  where
    by : (a b : Bool) → wanted e ≡ ((a && (b && false)) || wanted e)
    by true true = refl
    by true false = refl
    by false b = refl

or_false : (b : Bool) → (b || false) ≡ b
or_false true = refl
or_false false = refl

-- a node that lacked a key has a value of it
pub one_given : (t u : Records) (label key id : ℕ) (value : Value) → ChangesValue t u label key id None (Some value) → (e : Entry)
    → wanted_in u e ≡ ((nat_eq e.label label && (nat_eq e.node id && (nat_eq key e.key && nat_eq (hash_of value) e.hash))) || wanted_in t e)
one_given t u label key id value change e = by (nat_eq e.label label) refl (nat_eq e.node id) refl (nat_eq key e.key) refl
  where
    other : (e.label ≢ label) ⊎ ((e.key ≢ key) ⊎ (e.node ≢ id)) → wanted_in u e ≡ wanted_in t e
    other apart = ap (has_hash e.hash) (change.others e.label e.key e.node apart)

    by : (a : Bool) → nat_eq e.label label ≡ a → (b : Bool) → nat_eq e.node id ≡ b → (c : Bool) → nat_eq key e.key ≡ c
        → wanted_in u e ≡ ((a && (b && (c && nat_eq (hash_of value) e.hash))) || wanted_in t e)
    by false p b q c r = other (inl (other_number e.label label p))
    by true p false q c r = other (inr (inr (other_number e.node id q)))
    by true p true q false r = other (inr (inl (λ z. other_number key e.key r (sym z))))
    by true p true q true r =
        let l = same_number e.label label p in
        let n = same_number e.node id q in
        let k = same_number key e.key r in
        let now : wanted_in u e ≡ nat_eq (hash_of value) e.hash = ap (has_hash e.hash) ((λ i. node_value u (l i) (sym k i) (n i)) ∙ change.now) in
        let was : wanted_in t e ≡ false = ap (has_hash e.hash) ((λ i. node_value t (l i) (sym k i) (n i)) ∙ change.was) in
        now ∙ sym (or_false (nat_eq (hash_of value) e.hash)) ∙ ap (λ b. nat_eq (hash_of value) e.hash || b) (sym was)

join : (l n g o w : Bool) → ((l && (n && o)) || ((l && (n && g)) || w)) ≡ ((l && (n && (g || o))) || w)
join false n g o w = refl
join true false g o w = refl
join true true true true w = refl
join true true true false w = refl
join true true false true w = refl
join true true false false w = refl

-- so one assignment more has its entry
module _ (t u : Records) (wanted : Entries) (label id : ℕ) (pairs : List Pair) (assigned : List Assignment) (i : ℕ) (any : Assignment) (value : Value)
    (lt : i < length assigned) where
  abbrev a : Assignment
  a = get_or assigned i any

  abbrev gives : Entry → Assignment → Bool
  gives e x = nat_eq x.key e.key && nat_eq (hash_of (pair_at pairs x.pair).value) e.hash

  pub more_given : value ≡ (pair_at pairs a.pair).value → ChangesValue t u label a.key id None (Some value)
      → ((e : Entry) → wanted_in t e ≡ with_assigned wanted label id pairs (take i assigned) e) → (e : Entry)
      → wanted_in u e ≡ with_assigned wanted label id pairs (take (i + 1) assigned) e
  more_given is change before e =
      one_given t u label a.key id value change e
      ∙ (λ j. (nat_eq e.label label && (nat_eq e.node id && (nat_eq a.key e.key && nat_eq (hash_of (is j)) e.hash))) || before e j)
      ∙ join (nat_eq e.label label) (nat_eq e.node id) (list_any (gives e) (take i assigned)) (gives e a) (wanted e)
      ∙ ap (λ g. (nat_eq e.label label && (nat_eq e.node id && g)) || wanted e)
      (sym (ap (list_any (gives e)) (take_more assigned i any lt) ∙ list_any-append (gives e) (take i assigned) (a ∷ []) ∙ ap (λ b. list_any (gives e)
      (take i assigned) || b) (or_false (gives e a))))
