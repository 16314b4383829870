-- What each rule keeps where what it reads is as it was.
use Rattle.std.proofs.Common.{◌≡◌, ◌≢◌, ◌⊎◌, ℕ, ◌<◌, nat_eq, Bool, not, cond, ◌&&◌, Option, Some, List, [], ◌∷◌, length}
use Rattle.std.proofs.Common.{sym, ap, ◌∙◌, subst, inl, inr, ⊎_elim, arith, refl}
use Rattle.rec_bytes.specs.declared.record.Rec.{Rec}
use Rattle.rec_bytes.specs.declared.meta.Meta.{Meta}
use Rattle.rec_bytes.specs.Format as format
use Rattle.rec_bytes.specs.Record.{field}
use Rattle.rec_bytes.specs.Space.{meta_in}
use Rattle.store_rules.specs.Chains.{IsWalk, In}
use Rattle.store_rules.specs.Properties.{property_records}
use Rattle.store_rules.specs.Rows.{ids}
use Rattle.store_rules.specs.Views.{GroupRow, NodeRow, Records, RelRow, high, is_live, kind_at, kind_in, rec_at}
use Rattle.store_rules.specs.Rules.{AreHeld, HasGroups, HaveKeys, HaveProperties, IsGrouped, IsSplit, PropertyFiles}
use Rattle.store_rules.specs.Rules.{next_free, node_first, property_files, property_owner, rel_first}
use Rattle.store_rules.proofs.ChainLaws.{walk_stays}
use Rattle.store_rules.proofs.NumberLaws.{nat_cases, eq_true, eq_false}

-- a file is as it was
pub record IsSame (s t : Records) (f : ℕ) : Type 0 where
  pub meta : meta_in t f ≡ meta_in s f
  pub each : (x : ℕ) → rec_at t f x ≡ rec_at s f x

pub kind_same : (s t : Records) (f : ℕ) → IsSame s t f → (x : ℕ) → kind_at t f x ≡ kind_at s f x
kind_same s t f h x = ap (λ (m : Meta). kind_in m.high (rec_at t f x) x) h.meta ∙ ap (λ r. kind_in (high s f) r x) (h.each x)

pub live_same : (s t : Records) (f : ℕ) → IsSame s t f → is_live t f ≡ is_live s f
live_same s t f h = λ i x. not (nat_eq (kind_same s t f h x i) 0)

-- what the fifth rule and the graph read of the files of properties and of blocks
module _ (s t : Records) (properties : IsSame s t format.properties_file) (strings : IsSame s t format.strings_file) where
  pub files_same : property_files t ≡ property_files s
  files_same = λ i. record {
    kind = λ x. kind_same s t format.properties_file properties x i;
    property = λ x. properties.each x i;
    string = λ x. strings.each x i;
    property_live = live_same s t format.properties_file properties i;
    string_live = live_same s t format.strings_file strings i;
  }

  pub records_same : property_records t ≡ property_records s
  records_same = λ i. record { properties = λ x. properties.each x i; strings = λ x. strings.each x i }

pub split_same : (s t : Records) (f : ℕ) (free : List ℕ) → IsSame s t f → IsSplit s f (is_live s f) free → IsSplit t f (is_live t f) free
split_same s t f free h k = subst (λ l. IsSplit t f l free) (sym (live_same s t f h)) (record {
  walk = subst (λ (m : Meta). IsWalk (next_free t f) m.free free) (sym h.meta)
      (walk_stays (next_free s f) (next_free t f) (meta_in s f).free free (λ x _. ap (λ r. field 4 r format.free_next) (h.each x)) k.walk);
  low = λ x i. subst (λ (m : Meta). x < m.high) (sym h.meta) (k.low x i);
  only = k.only;
  all = λ x lt. k.all x (subst (λ (m : Meta). x < m.high) h.meta lt);
  exact = ap (λ (m : Meta). m.live) h.meta ∙ k.exact ∙ ap (λ (m : Meta). length (ids (is_live s f) m.high)) (sym h.meta);
})

-- the fourth rule reads dense nodes alone
pub grouped_stays : (kind now first then : ℕ → ℕ) (group_file : ℕ → Rec) (groups : ℕ → Option GroupRow) {empty : List ℕ}
    → ((n g : ℕ) (row : GroupRow) → groups g ≡ Some row → row.owner ≡ n → kind n ≡ format.dense → now n ≡ format.dense)
    → ((n : ℕ) → now n ≡ format.dense → (kind n ≡ format.dense) × (then n ≡ first n)) → IsGrouped kind first group_file groups empty
    → IsGrouped now then group_file groups empty
grouped_stays kind now first then group_file groups {empty} there back h = record {
  owned = λ g row e. there row.owner g row e refl (h.owned g row e);
  each = λ n d. let k = back n d in subst (λ f. HasGroups f n group_file groups empty) (sym k.1) (h.each n k.0);
}

-- ---- owners that come and go

-- the lists of the owners, of which one has none
abbrev pub with_none : (ℕ → ℕ → List ℕ) → ℕ → ℕ → ℕ → ℕ → List ℕ
with_none lists file id f x = cond (nat_eq f file && nat_eq x id) [] (lists f x)

module _ (lists : ℕ → ℕ → List ℕ) (file id : ℕ) where
  pub none_here : (f x : ℕ) → f ≡ file → x ≡ id → with_none lists file id f x ≡ []
  none_here f x p q = rw (eq_true f file p, eq_true x id q) refl

  pub none_there : (f x : ℕ) → (f ≡ file → x ≢ id) → with_none lists file id f x ≡ lists f x
  none_there f x ne = ⊎_elim (λ (p : f ≡ file). rw (eq_true f file p, eq_false x id (ne p)) refl) (λ (p : f ≢ file). rw (eq_false f file p) refl)
      (nat_cases f file)

-- the pair is the one, or another
pub pair_cases : {P : Type 0} (file id f x : ℕ) → (f ≡ file → x ≡ id → P) → ((f ≡ file → x ≢ id) → P) → P
pair_cases file id f x same other = ⊎_elim (λ (p : f ≡ file). ⊎_elim (λ (q : x ≡ id). same p q) (λ (q : x ≢ id). other (λ _. q)) (nat_cases x id))
    (λ (p : f ≢ file). other (λ e. absurd (p e))) (nat_cases f file)

-- an owner that isn't there, or has none
abbrev pub HoldsNone : Option ℕ → Type 0
HoldsNone owner = (first : ℕ) → owner ≡ Some first → first ≡ format.nil

-- an owner that holds nothing comes, goes or stays
pub held_bare : (owner now : ℕ → ℕ → Option ℕ) (next : ℕ → ℕ) (live : ℕ → Bool) (file id : ℕ) → HoldsNone (owner file id) → HoldsNone (now file id)
    → ((f x : ℕ) → (f ≡ file → x ≢ id) → now f x ≡ owner f x) → AreHeld owner next live → AreHeld now next live
held_bare owner now next live file id was is same h = record {
  lists = with_none h.lists file id;
  walk = λ f x first e. pair_cases file id f x
      (λ p q. rw (none_here h.lists file id f x p q) (is first (at now p q ∙ e)))
      (λ ne. rw (none_there h.lists file id f x ne) (h.walk f x first (sym (same f x ne) ∙ e)));
  only = λ f x first p e i. pair_cases file id f x
      (λ a b. absurd (subst (In p) (none_here h.lists file id f x a b) i))
      (λ ne. h.only f x first p (sym (same f x ne) ∙ e) (subst (In p) (none_there h.lists file id f x ne) i));
  held = λ p l.
      let k = h.held p l in
      let ne : k.0 ≡ file → k.1 ≢ id = λ a b. empty (h.lists k.0 k.1) (subst (λ z. IsWalk next z (h.lists k.0 k.1)) (was k.2 (at owner a b ∙ k.3.0))
      (h.walk k.0 k.1 k.2 k.3.0)) p k.3.1 in
      (k.0, k.1, k.2, (same k.0 k.1 ne ∙ k.3.0, subst (In p) (sym (none_there h.lists file id k.0 k.1 ne)) k.3.1));
  once = λ f x first g y second p e d i j. pair_cases file id f x
      (λ a b. absurd (subst (In p) (none_here h.lists file id f x a b) i))
      (λ ne. pair_cases file id g y
      (λ a b. absurd (subst (In p) (none_here h.lists file id g y a b) j))
      (λ mo. h.once f x first g y second p (sym (same f x ne) ∙ e) (sym (same g y mo) ∙ d) (subst (In p) (none_there h.lists file id f x ne) i)
      (subst (In p) (none_there h.lists file id g y mo) j)));
}
  where
    at : (o : ℕ → ℕ → Option ℕ) {f x : ℕ} → f ≡ file → x ≡ id → o file id ≡ o f x
    at o p q = λ i. o (sym p i) (sym q i)

    empty : (xs : List ℕ) → IsWalk next format.nil xs → (p : ℕ) → In p xs → ⊥
    empty [] w p i = i
    empty (y ∷ ys) w p i = w.1 (sym w.0)

-- keys stay right where each owner's list is one that was there, or has none
pub keys_stay : (owner now : ℕ → ℕ → Option ℕ) (lists then : ℕ → ℕ → List ℕ) (property_file : ℕ → Rec) (names : ℕ)
    → ((f x first : ℕ) → now f x ≡ Some first → (then f x ≡ []) ⊎ ((owner f x ≡ Some first) × (then f x ≡ lists f x)))
    → HaveKeys owner lists property_file names → HaveKeys now then property_file names
keys_stay owner now lists then property_file names way h = record {
  few = λ f x first e. ⊎_elim (λ (k : then f x ≡ []). let z = ap length k in omega arith)
      (λ k. let z = ap length k.1 in let b = h.few f x first k.0 in omega arith) (way f x first e);
  named = λ f x first p e i. ⊎_elim (λ (k : then f x ≡ []). absurd (subst (In p) k i)) (λ k. h.named f x first p k.0 (subst (In p) k.1 i)) (way f x first e);
  distinct = λ f x first p q e i j. ⊎_elim (λ (k : then f x ≡ []). absurd (subst (In p) k i))
      (λ k. h.distinct f x first p q k.0 (subst (In p) k.1 i) (subst (In q) k.1 j)) (way f x first e);
}

-- an element without properties comes, goes or stays
pub properties_bare : (files : PropertyFiles) (nodes nodes' : ℕ → Option NodeRow) (rels rels' : ℕ → Option RelRow) (names file id : ℕ)
    → HoldsNone (property_owner nodes rels file id) → HoldsNone (property_owner nodes' rels' file id)
    → ((f x : ℕ) → (f ≡ file → x ≢ id) → property_owner nodes' rels' f x ≡ property_owner nodes rels f x) → HaveProperties files nodes rels names
    → HaveProperties files nodes' rels' names
unfolding held_bare
properties_bare files nodes nodes' rels rels' names file id was is same h = record {
  held = held_bare (property_owner nodes rels) (property_owner nodes' rels') (λ p. field 4 (files.property p) format.property_next) files.property_live file id
      was is same h.held;
  keys = keys_stay (property_owner nodes rels) (property_owner nodes' rels') h.held.lists (with_none h.held.lists file id) files.property names
      (λ f x first e. pair_cases file id f x (λ p q. inl (none_here h.held.lists file id f x p q)) (λ ne. inr (
        sym (same f x ne) ∙ e,
        none_there h.held.lists
            file id f x ne,
      ))) h.keys;
  blocks = h.blocks;
  texts = h.texts;
}

-- the other owners stay where one node changed
pub owner_beside_node : (nodes now : ℕ → Option NodeRow) (rels : ℕ → Option RelRow) (id : ℕ) → ((x : ℕ) → x ≢ id → now x ≡ nodes x)
    → (f x : ℕ) → (f ≡ format.nodes_file → x ≢ id) → property_owner now rels f x ≡ property_owner nodes rels f x
owner_beside_node nodes now rels id same f x ne = ⊎_elim
    (λ (e : f ≡ format.nodes_file). rw (eq_true f format.nodes_file e) (ap node_first (same x (ne e))))
    (λ (k : f ≢ format.nodes_file). rw (eq_false f format.nodes_file k) refl) (nat_cases f format.nodes_file)

-- and where one relationship did
pub owner_beside_rel : (nodes : ℕ → Option NodeRow) (rels now : ℕ → Option RelRow) (id : ℕ) → ((x : ℕ) → x ≢ id → now x ≡ rels x)
    → (f x : ℕ) → (f ≡ format.relationships_file → x ≢ id) → property_owner nodes now f x ≡ property_owner nodes rels f x
owner_beside_rel nodes rels now id same f x ne = ⊎_elim
    (λ (e : f ≡ format.relationships_file). rw (eq_true f format.relationships_file e) (ap (λ o. cond (nat_eq f format.nodes_file) (node_first (nodes x))
    (rel_first o)) (same x (ne e))))
    (λ (k : f ≢ format.relationships_file). rw (eq_false f format.relationships_file k) refl) (nat_cases f format.relationships_file)
