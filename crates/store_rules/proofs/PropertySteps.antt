-- What a key of an element has in the graph, and the changes of its properties that a store makes: one more, another value, one less, and
-- none any more.
use Rattle.std.proofs.Common.{◌≡◌, ◌≢◌, ◌⊎◌, ℕ, ◌<◌, Some, None, List, [], ◌∷◌, ◌++◌, map, sym, ap, ◌∙◌, subst, inl, inr, refl}
use Rattle.std.proofs.lemmas.List.{map-append}
use Rattle.std.specs.FinMap as maps
use Rattle.plain_graph.specs.Graph.{Graph, properties_at, with_properties, with_value, without_value}
use Rattle.plain_graph.specs.Properties.{Properties, no_properties}
use Rattle.rec_bytes.specs.declared.record.Rec.{Rec}
use Rattle.rec_bytes.specs.declared.shape.Shape.{Shape}
use Rattle.rec_bytes.specs.Format as format
use Rattle.store_rules.specs.Chains.{In}
use Rattle.store_rules.specs.Graph.{graph_of}
use Rattle.store_rules.specs.Properties.{AreOnce, AreProperties, Property, keys_of, map_of, property_records}
use Rattle.store_rules.specs.Rules.{IsWellFormed}
use Rattle.store_rules.specs.Views.{Records, high, kind_at, rec_at, text_of}
use Rattle.store_rules.proofs.ElementProperties.{graph_kept, properties_at-is}
use Rattle.store_rules.proofs.MemberLaws.{once_apart, once_right}
use Rattle.store_rules.proofs.OnceLaws.{in_left, in_right}
use Rattle.store_rules.specs.PropertyChange.{ChangesProperties, property_from, target_in}
use Rattle.store_rules.proofs.PropertyGraph.{graph_changed}
use Rattle.store_rules.proofs.PropertyLists.{key_known, owner_in-used}
use Rattle.store_rules.proofs.PropertyMaps.{LackKey, get-map_of_none, get-map_of_some, lack_key, map_of-lacking}
use Rattle.store_rules.proofs.PropertyMaps.{map_of-none, map_of-pushed, map_of-removed, map_of-replaced}
use Rattle.store_rules.proofs.PropertyRules.{properties_well}

-- the text of a property's key, in a store
abbrev pub key_in : Records → Property → List ℕ
key_in s e = text_of (rec_at s format.names_file e.key)

-- the key of a property among others is none of theirs
key_apart : (front : List Property) (e : Property) (back : List Property) → AreOnce (keys_of (front ++ e ∷ back)) → (¬ In e.key (keys_of front))
    × (¬ In e.key (keys_of back))
key_apart front e back once =
    let parts = subst AreOnce (map-append (λ (z : Property). z.key) front (e ∷ back)) once in
    ((λ i. once_apart e.key (keys_of front) (e.key ∷ keys_of back) parts i (inl refl)), (once_right (keys_of front) (e.key ∷ keys_of back) parts).0)

-- ---- an element in use
module _ (s : Records) (shape : Shape) (store : IsWellFormed s shape) (file x : ℕ) (element : (file ≡ format.nodes_file) ⊎ (file ≡ format.relationships_file))
    (used : kind_at s file x ≢ format.free_kind) where
  -- the records of names
  abbrev names : ℕ → Rec
  names = rec_at s format.names_file

  -- the properties around one have other keys
  pub lack_around : (front : List Property) (e : Property) (back : List Property)
      → AreProperties (property_records s) (property_from s file x) (front ++ e ∷ back) → LackKey names front (key_in s e) × LackKey names back (key_in s e)
  lack_around front e back are =
      let old = front ++ e ∷ back in
      let known : (k : ℕ) → In k (keys_of old) → k < high s format.names_file =
      key_known s shape store file x (property_from s file x) old (owner_in-used s file x element used) are in
      let in_old : (k : ℕ) → In k (map (λ (z : Property). z.key) front ++ (e.key ∷ keys_of back))
      → k < high s format.names_file = λ k i. known k (subst (In k) (sym (map-append (λ (z : Property). z.key) front (e ∷ back))) i) in
      let apart = key_apart front e back are.keys_once in
      let mine = in_old e.key (in_right e.key (keys_of front) (e.key ∷ keys_of back) (inl refl)) in (
        lack_key names (high s format.names_file) store.names front e.key mine (λ k i. in_old k (in_left k (keys_of front) (e.key ∷ keys_of back) i)) apart.0,
        lack_key names (high s format.names_file) store.names back e.key mine (λ k i. in_old k (in_right k (keys_of front) (e.key ∷ keys_of back) (inr i)))
            apart.1,
      )

  -- a property is the value of its key
  pub value_found : (front : List Property) (e : Property) (back : List Property)
      → AreProperties (property_records s) (property_from s file x) (front ++ e ∷ back)
      → maps.get (properties_at (graph_of s) (target_in file x)) (key_in s e) ≡ Some e.value
  value_found front e back are = ap (λ m. maps.get m (key_in s e)) (properties_at-is s file x (front ++ e ∷ back) element used are)
      ∙ get-map_of_some names front e back (lack_around front e back are).0

  -- a text that is no property's key has no value, and there is nothing to take away
  module _ (es : List Property) (text : List ℕ) (are : AreProperties (property_records s) (property_from s file x) es) (lack : LackKey names es text) where
    pub value_lacked : maps.get (properties_at (graph_of s) (target_in file x)) text ≡ None
    value_lacked = ap (λ m. maps.get m text) (properties_at-is s file x es element used are) ∙ get-map_of_none names es text lack

-- ---- changes
-- The records are a well-formed store, and their graph is this one.
pub record IsStoreOf (t : Records) (shape : Shape) (graph : Graph) : Type 0 where
  pub store : IsWellFormed t shape
  pub graph_is : graph_of t ≡ graph

module _ (s t : Records) (shape : Shape) (file x : ℕ) (store : IsWellFormed s shape) where
  -- a change of the list that is a change of the map is that change of the graph
  step : (old new : List Property) → ChangesProperties s t shape file x old new → (change : Properties → Properties)
      → change (map_of (rec_at s format.names_file) old) ≡ map_of (rec_at s format.names_file) new
      → IsStoreOf t shape (with_properties (graph_of s) (target_in file x) change)
  step old new h change is = record {
    store = properties_well s t shape file x old new h store;
    graph_is = graph_changed s t shape file x old new h store change
        is;
  }

  -- one more, in front of the others
  pub property_added : (e : Property) (old : List Property) → ChangesProperties s t shape file x old (e ∷ old)
      → IsStoreOf t shape (with_value (graph_of s) (target_in file x) (key_in s e) e.value)
  property_added e old h = step old (e ∷ old) h (λ properties. maps.insert properties (key_in s e) e.value)
      (sym (map_of-pushed (rec_at s format.names_file) e old))

  -- another value of the same key, in the place of the one that was there
  pub property_replaced : (front : List Property) (e now : Property) (back : List Property)
      → ChangesProperties s t shape file x (front ++ e ∷ back) (front ++ now ∷ back) → now.key ≡ e.key
      → IsStoreOf t shape (with_value (graph_of s) (target_in file x) (key_in s e) now.value)
  property_replaced front e now back h same =
      let lack = lack_around s shape store file x h.element h.used front e back h.was in
      step (front ++ e ∷ back) (front ++ now ∷ back) h (λ properties. maps.insert properties (key_in s e) now.value)
      (sym (map_of-replaced (rec_at s format.names_file) front e now back lack.0 same))

  -- one less
  pub property_removed : (front : List Property) (e : Property) (back : List Property) → ChangesProperties s t shape file x (front ++ e ∷ back) (front ++ back)
      → IsStoreOf t shape (without_value (graph_of s) (target_in file x) (key_in s e))
  property_removed front e back h =
      let lack = lack_around s shape store file x h.element h.used front e back h.was in
      step (front ++ e ∷ back) (front ++ back) h (λ properties. maps.remove properties (key_in s e))
      (sym (map_of-removed (rec_at s format.names_file) front e back lack.0 lack.1))

  -- none any more
  pub properties_dropped : (old : List Property) → ChangesProperties s t shape file x old []
      → IsStoreOf t shape (with_properties (graph_of s) (target_in file x) (λ _. no_properties))
  properties_dropped old h = step old [] h (λ _. no_properties) (sym (map_of-none (rec_at s format.names_file)))
