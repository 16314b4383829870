-- What the entries of one value weigh, and that the indexes are right with them.
use Rattle.std.specs.FinMap as maps
use Rattle.std.specs.Prelude.{is_some}
use Rattle.std.proofs.Common.{◌≡◌, ◌≢◌, ℕ, ◌+◌, ◌<◌, nat_eq, Bool, true, false, ◌||◌, if◌then◌else◌, cond, Option, None}
use Rattle.std.proofs.Common.{Some, List, [], ◌∷◌, map, ap, sym, ◌∙◌, subst, refl}
use Rattle.plain_graph.specs.Graph.{properties_at}
use Rattle.plain_graph.specs.Indexes.{element_weight, entry_weight}
use Rattle.plain_graph.specs.Properties.{Properties}
use Rattle.plain_graph.specs.Values.{is_text}
use Rattle.plain_graph.specs.declared.command.Target.TheVariants as targets
use Rattle.plain_graph.specs.declared.value.Value.{Value}
use Rattle.rec_bytes.specs.Format as format
use Rattle.rec_bytes.specs.Space.{State}
use Rattle.store_rules.specs.Graph.{graph_of}
use Rattle.store_rules.specs.IndexChange.{ChangesValue, with_value, without_value}
use Rattle.store_rules.specs.Indexes.{AreIndexed, Entries, IsIndexed, node_value, value_in, wanted_in}
use Rattle.store_rules.specs.Properties.{Property}
use Rattle.store_rules.specs.RuleList.{IsSameFile}
use Rattle.store_rules.specs.Views.{Records, high, kind_at}
use Rattle.prop_index.specs.Listing.{pair_of}
use Rattle.prop_store.specs.Changing.{HasElement, properties_of, text_at}
use Rattle.prop_store.specs.Finding.{property_of}
use Rattle.prop_store.specs.Owner.{IsOwner}
use Rattle.prop_store.specs.declared.owner.Owner.{Owner}
use Rattle.prop_store.proofs.ElementGraphs.{absent_value, lacks_key, listed_at}
use Rattle.node_changes.specs.Entries.{IsIndexedValue, is_listed, is_pair, old_weight, value_weight, with_new, without_old}
use Rattle.node_changes.specs.declared.entries.IndexedValue.{IndexedValue}
use Rattle.change_parts.proofs.GraphPairs.{is_among, text}
use Rattle.node_changes.proofs.HeldValues.{among_same, listed_again, unlisted_again}
use Rattle.node_changes.proofs.IndexBeside.{KeepsBesideIndex}
use Rattle.change_parts.proofs.PairsPut.{label_at, lacked_value}
use Rattle.node_changes.proofs.ValueWeights.{key_weighs}

-- ---- an element has a value of a key by the graph where it has one by the records

module _ (s : State) (owner : Owner) (owned : IsOwner owner) (has : HasElement s owner) (key : ℕ) (low : key < high s.records format.names_file) where
  abbrev es : List Property
  es = listed_at s owner owned has

  value_there : (es : List Property) (e : Property) → property_of es key ≡ Some e → is_some (value_in es key) ≡ true
  value_there [] e is = absurd cc
  value_there (p ∷ ps) e is = by (nat_eq p.key key) (λ later. value_there ps e later) is
    where
      by : (b : Bool) → (property_of ps key ≡ Some e → is_some (value_in ps key) ≡ true) → (if b then Some p else property_of ps key) ≡ Some e
          → is_some (cond b (Some p.value) (value_in ps key)) ≡ true
      by true later is = refl
      by false later is = later is

  pub value_known : is_some (maps.get (properties_of s owner) (text_at s key)) ≡ is_some (value_in es key)
  value_known = by (property_of es key) refl (maps.get (properties_of s owner) (text_at s key)) refl
    where
      by : (o : Option Property) → property_of es key ≡ o → (v : Option Value) → maps.get (properties_of s owner) (text_at s key) ≡ v
          → is_some v ≡ is_some (value_in es key)
      by None is v got = ap is_some (sym got ∙ absent_value s owner owned has key low is) ∙ sym (ap is_some (lacked_value es key is))
      by (Some e) is (Some v) got = sym (value_there es e is)
      by (Some e) is None got = absurd (clash e (sym is ∙ lacks_key s owner owned has key got))
        where
          clash : (e : Property) → Some e ≡ None → ⊥
          clash e q = cc

-- ---- the pairs that are listed are those of the definitions

pub listed_among : (s : Records) (ds : List ℕ) (l k : ℕ) → is_listed (map (pair_of s) ds) l k ≡ is_among s ds l k
listed_among s [] l k = refl
listed_among s (d ∷ ds) l k = ap (λ b. is_pair l k (pair_of s d) || b) (listed_among s ds l k)

-- ---- one value that was held

-- the entries with that of the new value, if any, in the place of that of the old one
abbrev pub with_held : Entries → Option IndexedValue → Option Value → Entries
with_held wanted None new = wanted
with_held wanted (Some held) new = with_value (without_value wanted held.label held.key held.node held.value) held.label held.key held.node new

pub old_held : (wanted : Entries) (held : Option IndexedValue) → without_old wanted held ≡ with_held wanted held None
old_held wanted None = refl
old_held wanted (Some held) = refl

pub new_held : (wanted : Entries) (held : Option IndexedValue) (value : Value)
    → with_new (without_old wanted held) held value ≡ with_held wanted held (Some value)
new_held wanted None value = refl
new_held wanted (Some held) value = refl

module _ (s u v : State) (id key : ℕ) (old new : Option Value) (ix : AreIndexed s.records (wanted_in s.records))
    (change : ChangesValue s.records u.records (label_at s.records id) key id old new) (beside : KeepsBesideIndex u.records v.records) where
  -- the indexes are right again
  pub held_again : (held : Option IndexedValue) → IsIndexedValue s.records (map (pair_of s.records) ix.definitions) (targets.Node id) key held
      → (held ≡ None → IsSameFile s.records v.records format.index_file)
      → AreIndexed v.records (with_held (wanted_in s.records) held new) → AreIndexed v.records (wanted_in v.records)
  held_again None is same iy =
      unlisted_again s.records u.records v.records (label_at s.records id) key id old new change beside iy
      (among_same s.records v.records (same refl) (wanted_in s.records) (wanted_in s.records) ix iy (label_at s.records id) key ∙ sym
      (listed_among s.records ix.definitions (label_at s.records id) key) ∙ is)
  held_again (Some held) is same iy =
      listed_again s.records u.records v.records (label_at s.records id) key id old new change beside
      (subst (AreIndexed v.records) (λ i. with_value (without_value (wanted_in s.records) (label_is i) (is.1 i) (is.0 i) (value_is i)) (label_is i) (is.1 i)
      (is.0 i) new) iy)
    where
      label_is : held.label ≡ label_at s.records id
      label_is = is.2

      value_is : held.value ≡ old
      value_is = is.4 ∙ ap (λ l. node_value s.records l key id) label_is ∙ change.was

-- what the entries weigh
module _ (s : State) (id key : ℕ) (used : kind_at s.records format.nodes_file id ≢ format.free_kind) (store : IsIndexed s.records s.shape)
    (low : key < high s.records format.names_file)
    (known : is_some (maps.get (properties_at (graph_of s.records) (targets.Node id)) (text s.records key)) ≡ is_some
    (node_value s.records (label_at s.records id) key id)) where
  abbrev before : Properties
  before = properties_at (graph_of s.records) (targets.Node id)

  pub held_weighs : (after : Properties) (held : Option IndexedValue) → IsIndexedValue s.records (map (pair_of s.records) store.indexes.definitions)
      (targets.Node id) key held
      → element_weight (graph_of s.records) (targets.Node id) (is_text (text s.records key)) after ≡ old_weight held + cond (is_some held)
      (entry_weight after (text s.records key)) 0
  held_weighs after None is =
      key_weighs s.records id used s.shape store.store (wanted_in s.records) store.indexes key low after
      ∙ ap (λ b. cond b (entry_weight before (text s.records key) + entry_weight after (text s.records key)) 0)
      (sym (listed_among s.records store.indexes.definitions (label_at s.records id) key) ∙ is)
  held_weighs after (Some held) is =
      key_weighs s.records id used s.shape store.store (wanted_in s.records) store.indexes key low after
      ∙ ap (λ b. cond b (entry_weight before (text s.records key) + entry_weight after (text s.records key)) 0)
      (sym (listed_among s.records store.indexes.definitions (label_at s.records id) key) ∙ ap
      (λ l. is_listed (map (pair_of s.records) store.indexes.definitions) l key) (sym is.2) ∙ is.3)
      ∙ ap (λ n. n + entry_weight after (text s.records key)) (ap (λ b. if b then 3 else 0) known ∙ by (node_value s.records (label_at s.records id) key id)
      ∙ ap value_weight (sym (is.4 ∙ ap (λ l. node_value s.records l key id) is.2)))
    where
      by : (o : Option Value) → (if is_some o then 3 else 0) ≡ value_weight o
      by None = refl
      by (Some v) = refl
