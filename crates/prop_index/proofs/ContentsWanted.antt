-- The entries of the nodes of a label that have a key are those that its index is to have.
use Rattle.std.proofs.Common.{◌≡◌, ◌≢◌, ⊎_elim, ℕ, zero, suc, ◌<◌, ◌≤◌, Bool, true, false, ◌&&◌, ◌||◌, not, nat_eq}
use Rattle.std.proofs.Common.{nat_lt, Option, None, Some, List, [], ◌∷◌, option_map, refl, ap, sym, ◌∙◌, arith}
use Rattle.std.specs.List.{list_any}
use Rattle.std.proofs.lemmas.Bool.{cases_lt}
use Rattle.std.proofs.lemmas.List.Folds.{list_any-append}
use Rattle.plain_graph.specs.declared.value.Value.{Value}
use Rattle.rec_bytes.specs.declared.key.Key.{Key}
use Rattle.rec_bytes.specs.Format as format
use Rattle.rec_bytes.specs.Meta as metas
use Rattle.rec_bytes.specs.RecordFiles.{meta_key_of}
use Rattle.store_rules.specs.Hashes.{hash_of}
use Rattle.store_rules.specs.Indexes.{Entries, Entry, has_hash, is_entry, node_value, row_value, wanted_in}
use Rattle.store_rules.specs.Properties.{property_records}
use Rattle.store_rules.specs.Rows.{option_list}
use Rattle.store_rules.specs.Views.{Records, high, key_in, kind_at, kind_in, node_at, node_in, rec_at, row_if}
use Rattle.store_rules.proofs.Members.{ascends_collect, contains_collect}
use Rattle.store_rules.proofs.NumberLaws.{eq_false, eq_true, lt_false, lt_true, nat_cases}
use Rattle.store_rules.proofs.ViewLaws.{kind_high, row_none}
use Rattle.prop_index.specs.Collecting.{content_at, content_of, contents_in, hash_at}
use Rattle.prop_index.specs.Defining.{SameElsewhere}
use Rattle.prop_index.specs.Filling.{AreFillable, entry_for, with_contents}
use Rattle.prop_index.specs.declared.entry_row.Content.{Content}

-- the entries but those of a pair
abbrev pub is_pair : ℕ → ℕ → Entry → Bool
is_pair label key e = nat_eq e.label label && nat_eq e.key key

abbrev pub lacking : ℕ → ℕ → Entries → Entries
lacking label key wanted e = not (is_pair label key e) && wanted e

pub lacking-here : (label key : ℕ) (wanted : Entries) (e : Entry) → e.label ≡ label → e.key ≡ key → lacking label key wanted e ≡ false
lacking-here label key wanted e l k = rw (eq_true e.label label l, eq_true e.key key k) refl

pub lacking-other : (label key : ℕ) (wanted : Entries) (e : Entry) → (e.label ≡ label → e.key ≡ key → ⊥) → lacking label key wanted e ≡ wanted e
lacking-other label key wanted e other = ⊎_elim
    (λ (l : e.label ≡ label). rw (eq_true e.label label l, eq_false e.key key (other l)) refl)
    (λ (l : e.label ≢ label). rw (eq_false e.label label l) refl)
    (nat_cases e.label label)

-- ---- an entry, and one of a pair

flip : (a b : ℕ) → nat_eq a b ≡ nat_eq b a
flip a b = ⊎_elim (λ (p : a ≡ b). rw (eq_true a b p, eq_true b a (sym p)) refl) (λ (p : a ≢ b). rw (eq_false a b p, eq_false b a (λ q. p (sym q))) refl)
    (nat_cases a b)

entry_at : (e : Entry) (label key n hash : ℕ) → e.label ≡ label → e.key ≡ key
    → is_entry e (record { label = label; key = key; node = n; hash = hash }) ≡ (nat_eq e.node n && nat_eq e.hash hash)
entry_at e label key n hash l k = rw (eq_true e.label label l, eq_true e.key key k) refl

entry_elsewhere : (e : Entry) (label key n hash : ℕ) → (e.label ≡ label → e.key ≡ key → ⊥)
    → is_entry e (record { label = label; key = key; node = n; hash = hash }) ≡ false
entry_elsewhere e label key n hash other = ⊎_elim
    (λ (l : e.label ≡ label). rw (eq_true e.label label l, eq_false e.key key (other l)) refl)
    (λ (l : e.label ≢ label). rw (eq_false e.label label l) refl) (nat_cases e.label label)

module _ (records : Records) (label key : ℕ) (e : Entry) where
  -- it is that of one of these
  abbrev is_among : List Content → Bool
  is_among contents = list_any (λ c. is_entry e (entry_for label key c)) contents

  -- of another pair
  pub among-other : (e.label ≡ label → e.key ≡ key → ⊥) → (contents : List Content) → is_among contents ≡ false
  among-other other [] = refl
  among-other other (c ∷ cs) =
      let apart : is_entry e (entry_for label key c) ≡ false = entry_elsewhere e label key c.node c.hash other in
      rw (apart, among-other other cs) refl

  module _ (l : e.label ≡ label) (k : e.key ≡ key) where
    lt_next : (n : ℕ) → e.node ≢ n → nat_lt e.node (suc n) ≡ nat_lt e.node n
    lt_next n ne = ⊎_elim
        (λ (lt : e.node < n). lt_true e.node (suc n) (omega arith) ∙ sym (lt_true e.node n lt))
        (λ (le : n ≤ e.node). lt_false e.node (suc n) (omega arith) ∙ sym (lt_false e.node n le))
        (cases_lt e.node n)

    -- of the nodes below a mark
    pub among-below : (n : ℕ) → is_among (contents_in records label key n) ≡ (nat_lt e.node n && has_hash e.hash (node_value records label key e.node))
    among-below zero = rw (lt_false e.node 0 (omega arith)) refl
    among-below (suc n) = list_any-append (λ c. is_entry e (entry_for label key c)) (contents_in records label key n)
        (option_list (content_at records label key n))
        ∙ ap (λ b. b || is_among (option_list (content_at records label key n))) (among-below n) ∙ ⊎_elim here there (nat_cases e.node n)
      where
        one : (o : Option Value) → e.node ≡ n → is_among (option_list (option_map (content_of n) (option_map hash_of o))) ≡ has_hash e.hash o
        one None at = refl
        one (Some v) at = ap (λ b. b || false) (entry_at e label key n (hash_of v) l k ∙ ap (λ b. b && nat_eq e.hash (hash_of v)) (eq_true e.node n at)
            ∙ flip e.hash (hash_of v)) ∙ by (nat_eq (hash_of v) e.hash)
          where
            by : (b : Bool) → (b || false) ≡ b
            by true = refl
            by false = refl

        none : (o : Option Value) → e.node ≢ n → is_among (option_list (option_map (content_of n) (option_map hash_of o))) ≡ false
        none None ne = refl
        none (Some v) ne = rw (entry_at e label key n (hash_of v) l k, eq_false e.node n ne) refl

        here : e.node ≡ n → ((nat_lt e.node n && has_hash e.hash (node_value records label key e.node)) || is_among
            (option_list (content_at records label key n))) ≡ (nat_lt e.node (suc n) && has_hash e.hash (node_value records label key e.node))
        here at = rw (lt_false e.node n (omega arith), lt_true e.node (suc n) (omega arith))
            (one (node_value records label key n) at ∙ ap (λ m. has_hash e.hash (node_value records label key m)) (sym at))

        there : e.node ≢ n → ((nat_lt e.node n && has_hash e.hash (node_value records label key e.node)) || is_among
            (option_list (content_at records label key n))) ≡ (nat_lt e.node (suc n) && has_hash e.hash (node_value records label key e.node))
        there ne = rw (none (node_value records label key n) ne, lt_next n ne) (by (nat_lt e.node n && has_hash e.hash (node_value records label key e.node)))
          where
            by : (b : Bool) → (b || false) ≡ b
            by true = refl
            by false = refl

    above : high records format.nodes_file ≤ e.node → has_hash e.hash (node_value records label key e.node) ≡ false
    above le = ap (λ o. has_hash e.hash (row_value (property_records records) label key o))
        (row_none (kind_at records format.nodes_file e.node) (node_in (rec_at records format.nodes_file e.node) e.node)
        (kind_high (high records format.nodes_file) (rec_at records format.nodes_file e.node) e.node le))

    pub among-all : is_among (contents_in records label key (high records format.nodes_file)) ≡ wanted_in records e
    among-all = among-below (high records format.nodes_file) ∙ ⊎_elim
        (λ (lt : e.node < high records format.nodes_file). ap (λ b. b && has_hash e.hash (node_value records label key e.node))
        (lt_true e.node (high records format.nodes_file) lt))
        (λ (le : high records format.nodes_file ≤ e.node). ap (λ b. b && has_hash e.hash (node_value records label key e.node))
        (lt_false e.node (high records format.nodes_file) le) ∙ sym (above le))
        (cases_lt e.node (high records format.nodes_file))
        ∙ (λ i. has_hash e.hash (node_value records (sym l i) (sym k i) e.node))

-- With the entries of its nodes the index of a pair has what it is to have.
pub wanted_again : (records : Records) (label key : ℕ) (e : Entry) → with_contents (lacking label key (wanted_in records)) label key
    (contents_in records label key (high records format.nodes_file)) e ≡ wanted_in records e
wanted_again records label key e = ⊎_elim
    (λ (l : e.label ≡ label). ⊎_elim
    (λ (k : e.key ≡ key). ap (λ b. is_among records label key e (contents_in records label key (high records format.nodes_file)) || b) (lacking-here label key
    (wanted_in records) e l k) ∙ by (is_among records label key e (contents_in records label key (high records format.nodes_file))) ∙ among-all records
    label key e l k)
    (λ (k : e.key ≢ key). other (λ _. k)) (nat_cases e.key key))
    (λ (l : e.label ≢ label). other (λ m. absurd (l m))) (nat_cases e.label label)
  where
    by : (b : Bool) → (b || false) ≡ b
    by true = refl
    by false = refl

    other : (e.label ≡ label → e.key ≡ key → ⊥) → with_contents (lacking label key (wanted_in records)) label key
        (contents_in records label key (high records format.nodes_file)) e ≡ wanted_in records e
    other apart = rw (
      among-other records label key e apart (contents_in records label key (high records format.nodes_file)),
      lacking-other label key
          (wanted_in records) e apart,
    ) refl

-- ---- where only the file of the indexes changed

module _ (s t : Records) (same : SameElsewhere s t) where
  at_file : (file x : ℕ) → file ≢ format.index_file → file ≢ format.meta_file → rec_at t file x ≡ rec_at s file x
  at_file file x ne no_meta = same (key_in file x) ne (λ e. no_meta (ap (λ (q : Key). q.file) e))

  pub node_mark : high t format.nodes_file ≡ high s format.nodes_file
  node_mark = ap (λ r. (metas.meta_of r).high) (same (meta_key_of format.nodes_file) (λ e. omega arith) (λ e. let f = ap (λ (q : Key). q.id) e in omega
      (arith, f)))

  properties_same : property_records t ≡ property_records s
  properties_same = λ i. record {
    properties = λ x. at_file format.properties_file x (λ e. omega arith) (λ e. omega arith) i;
    strings = λ x. at_file format.strings_file x (λ e. omega arith) (λ e. omega arith) i;
  }

  node_same : (n : ℕ) → node_at t n ≡ node_at s n
  node_same n =
      let rec = at_file format.nodes_file n (λ e. omega arith) (λ e. omega arith) in
      λ i. row_if (kind_in (node_mark i) (rec i) n) (node_in (rec i) n)

  -- nodes have the values that they had
  pub wanted_same : (e : Entry) → wanted_in t e ≡ wanted_in s e
  wanted_same e = λ i. has_hash e.hash (row_value (properties_same i) e.label e.key (node_same e.node i))

-- ---- an index can be filled with them

pub contents_fillable : (s t : Records) (label key : ℕ) → SameElsewhere s t → AreFillable t (contents_in s label key (high s format.nodes_file))
contents_fillable s t label key same = record {
  ascend = ascends_collect (λ (c : Content). c.node) (content_at s label key) (high s format.nodes_file) numbered;
  low = λ c i.
      let k = contains_collect (content_at s label key) (high s format.nodes_file) c i in
      let lt = k.1 in let n = numbered k.0 c k.2 in let m = node_mark s t same in omega (arith, lt, n, m);
}
  where
    numbered : (x : ℕ) (c : Content) → content_at s label key x ≡ Some c → c.node ≡ x
    numbered x c = by (hash_at s label key x)
      where
        inner : (a b : Content) → Some a ≡ Some b → a ≡ b
        inner a b e = cc

        by : (o : Option ℕ) → option_map (content_of x) o ≡ Some c → c.node ≡ x
        by None e = absurd cc
        by (Some h) e = sym (ap (λ (z : Content). z.node) (inner (content_of x h) c e))
