-- What a change of one element's properties makes of a store that keeps its rules, and of its graph.
use Rattle.std.proofs.Common.{◌≡◌, ℕ, ◌+◌, ◌<◌, ◌≤◌, cond, Option, Some, None, List, [], ◌∷◌, ◌++◌, length, sym, ap, ◌∙◌, subst, inl, inr, ⊎_elim, arith, refl}
use Rattle.std.specs.Prelude.{is_some}
use Rattle.std.specs.FinMap as maps
use Rattle.plain_graph.specs.Graph.{with_value, without_value}
use Rattle.plain_graph.specs.Properties as plain
use Rattle.plain_graph.specs.declared.value.Value.{Value}
use Rattle.plain_graph.proofs.PropertyLaws.{len-insert}
use Rattle.rec_bytes.specs.declared.record.Rec.{Rec}
use Rattle.rec_bytes.specs.Format as format
use Rattle.rec_bytes.specs.Space.{State, meta_in, meta_of}
use Rattle.store_rules.specs.Graph.{graph_of}
use Rattle.store_rules.specs.Properties.{AreProperties, Property, blocks_of, first_property, ids_of, map_of, property_records}
use Rattle.store_rules.specs.PropertyChange.{ChangesProperties, property_from}
use Rattle.store_rules.specs.Rules.{IsWellFormed}
use Rattle.store_rules.specs.Views.{high, rec_at}
use Rattle.store_rules.proofs.ElementProperties.{properties_at-is}
use Rattle.store_rules.proofs.PropertyCounts.{blocks_in-map_of, count_properties, len-map_of, length-property_blocks, property_count-limit}
use Rattle.store_rules.proofs.PropertyLists.{block_live, key_known, listed, owner_in, owner_in-used, properties_right, property_live}
use Rattle.store_rules.proofs.PropertyMaps.{lack_key}
use Rattle.store_rules.proofs.PropertySteps.{properties_dropped, property_added, property_removed, property_replaced, value_found, value_lacked}
use Rattle.store_rules.proofs.ViewLaws.{kind_below}
use Rattle.prop_store.specs.Alone.{DropsAllAlone, HasKeyAt, IsAdded, IsReplaced, IsSetRefusalAlone, LacksKey}
use Rattle.prop_store.specs.Alone.{MayHaveKey, OwnsProperties, RemovesAlone, SetsAlone, blocks_held}
use Rattle.prop_store.specs.Changing.{ChangesElement, DropsAll, HasElement, IsSetRefusal, RemovesValue, SetsValue}
use Rattle.prop_store.specs.Changing.{properties_of, properties_with, set_properties, target_of, text_at}
use Rattle.prop_store.specs.Finding.{property_of}
use Rattle.prop_store.specs.Owner.{IsOwner}
use Rattle.prop_store.specs.declared.changing.Dropped.{Dropped}
use Rattle.prop_store.specs.declared.owner.Owner.{Owner}
use Rattle.prop_store.specs.declared.set_fault.SetFault.{SetFault}
use Rattle.prop_store.specs.declared.set_fault.SetFault.TheVariants.{Damaged, Disk, Full, Memory, PropsFull}
use Rattle.prop_store.proofs.ElementCounts.{blocks_with-live, properties_with-live}
use Rattle.prop_store.proofs.ElementSteps.{meta_of_element}
use Rattle.prop_store.proofs.FileSteps.{file_now, keeps_in_store}
use Rattle.prop_store.proofs.Keys.{no_key, placed}
use Rattle.prop_store.proofs.OwnerPlaces.{first_of-is}
use Rattle.prop_store.proofs.PropertyParts.{linked_after}

module _ (s : State) (owner : Owner) (is : IsOwner owner) (has : HasElement s owner) where
  abbrev file : ℕ
  file = owner.key.file

  abbrev x : ℕ
  x = owner.key.id

  abbrev first : ℕ
  first = property_from s.records file x

  -- the texts of names
  abbrev names : ℕ → Rec
  names = rec_at s.records format.names_file

  abbrev mark : ℕ
  mark = high s.records format.names_file

  -- its properties
  abbrev pub listed_at : List Property
  listed_at = listed s.records s.shape has.store file x

  owned : owner_in s.records file x ≡ Some first
  owned = owner_in-used s.records file x is.file has.used

  are_listed : AreProperties (property_records s.records) first listed_at
  are_listed = properties_right s.records s.shape has.store file x first owned

  -- it has them, and nothing else is asked
  pub owns_listed : OwnsProperties s owner listed_at
  owns_listed = record {
    used = has.used;
    fits = has.store.ranges.fit file x (meta_of_element file is.file) (kind_below (high s.records file) (rec_at s.records file x) x has.used);
    held = record {
      are = subst (λ f. AreProperties (property_records s.records) f listed_at) (sym (first_of-is s.records owner is)) are_listed;
      properties = file_now s.records s.records s.shape format.properties_file [] []
          (keeps_in_store s.records s.shape format.properties_file (inl refl) has.store) (ids_of listed_at)
          (property_live s.records s.shape has.store file x first listed_at owned are_listed);
      strings = file_now s.records s.records s.shape format.strings_file [] [] (keeps_in_store s.records s.shape format.strings_file (inr refl) has.store)
          (blocks_of listed_at)
          (block_live s.records s.shape has.store file x first listed_at owned are_listed);
    };
    known = key_known s.records s.shape has.store file x first listed_at owned are_listed;
  }

  -- the graph has them
  properties_are : properties_of s owner ≡ map_of names listed_at
  properties_are = properties_at-is s.records file x listed_at is.file has.used are_listed

  -- as many, with as many blocks
  pub count_is : maps.len (properties_of s owner) ≡ length listed_at
  count_is = ap maps.len properties_are ∙ len-map_of names mark has.store.names listed_at owns_listed.known are_listed.keys_once

  blocks_are : plain.blocks_in (properties_of s owner) ≡ length (blocks_of listed_at)
  blocks_are = ap plain.blocks_in properties_are ∙ blocks_in-map_of names mark has.store.names (property_records s.records) listed_at are_listed.linked
      owns_listed.known are_listed.keys_once

  -- ---- one key

  -- one more than it has, or as many
  len_with : (key : ℕ) (value : Value) (o : Option Value) → maps.get (properties_of s owner) (text_at s key) ≡ o
      → maps.len (set_properties s owner key value) ≡ cond (is_some o) (maps.len (properties_of s owner)) (maps.len (properties_of s owner) + 1)
  len_with key value o got = len-insert (properties_of s owner) (text_at s key) value
      ∙ ap (λ v. cond (is_some v) (maps.len (properties_of s owner)) (maps.len (properties_of s owner) + 1)) got

  count_with : (key : ℕ) (value : Value) (o : Option Value) → maps.get (properties_of s owner) (text_at s key) ≡ o
      → properties_with s owner key value ≡ (meta_of s format.properties_file).live + cond (is_some o) 0 1
  count_with key value o got = properties_with-live s owner is has key value
      ∙ ap (λ v. (meta_in s.records format.properties_file).live + cond (is_some v) 0 1) got

  live_limit : (meta_of s format.properties_file).live ≤ s.shape.limit
  live_limit = let count = count_properties s.records s.shape has.store in let most = property_count-limit s.records s.shape has.store in omega arith

  -- a name that is none of their keys has no value
  pub absent_value : (key : ℕ) → key < mark → LacksKey listed_at key → maps.get (properties_of s owner) (text_at s key) ≡ None
  absent_value key low none = value_lacked s.records s.shape has.store file x is.file has.used listed_at (text_at s key) are_listed
      (lack_key names mark has.store.names listed_at key low owns_listed.known (no_key listed_at key none))

  -- and one of theirs has
  module _ (front : List Property) (e : Property) (back : List Property) (key : ℕ) (at : HasKeyAt listed_at front e back key) where
    parts : AreProperties (property_records s.records) first (front ++ e ∷ back)
    parts = subst (AreProperties (property_records s.records) first) at.all are_listed

    found_value : maps.get (properties_of s owner) (text_at s key) ≡ Some e.value
    found_value = subst (λ k. maps.get (properties_of s owner) (text_at s k) ≡ Some e.value) at.key_is
        (value_found s.records s.shape has.store file x is.file has.used front e back parts)

    found_blocks : length e.blocks ≡ plain.blocks_at (properties_of s owner) (text_at s key)
    found_blocks = sym (ap plain.blocks_if found_value
        ∙ sym (length-property_blocks names mark has.store.names (property_records s.records) e (first_property back) (linked_after (property_records s.records)
        front (e ∷ back) parts.linked).0))

    as_many : (value : Value) → maps.len (set_properties s owner key value) ≤ 32
    as_many value = let same = len_with key value (Some e.value) found_value in let n = count_is in let few = are_listed.few in omega arith

  -- a key that has no value is none of theirs
  pub lacks_key : (key : ℕ) → maps.get (properties_of s owner) (text_at s key) ≡ None → LacksKey listed_at key
  lacks_key key none = by (property_of listed_at key) refl
    where
      both : (v : Value) → None ≡ Some v → ⊥
      both v e = cc

      by : (o : Option Property) → property_of listed_at key ≡ o → o ≡ None
      by None is = refl
      by (Some e) is = let p = placed listed_at e key is in absurd (both e.value (sym none ∙ found_value p.before e p.rest key p.at))

  -- ---- what a change makes

  changed : (t : State) (after : List Property) → ChangesProperties s.records t.records s.shape file x listed_at after → t.shape ≡ s.shape
      → IsWellFormed t.records s.shape → ChangesElement s t owner
  changed t after changes shape store = record {
    before = listed_at;
    after = after;
    changes = changes;
    store = subst (IsWellFormed t.records) (sym shape)
        store;
  }

  pub drops_graph : (t : State) (dropped : Dropped) → DropsAllAlone s t owner listed_at dropped → t.shape ≡ s.shape → DropsAll s t owner dropped
  drops_graph t dropped drops shape =
      let steps = properties_dropped s.records t.records s.shape file x has.store listed_at drops.changes in
      record {
        changes = changed t [] drops.changes shape steps.store;
        graph = steps.graph_is;
        bare = first_of-is t.records owner is ∙ drops.changes.now.first_is;
        properties = drops.properties ∙ sym count_is;
        blocks = drops.blocks ∙ sym blocks_are;
      }

  pub removes_graph : (t : State) (key released : ℕ) → RemovesAlone s t owner listed_at key released → t.shape ≡ s.shape → RemovesValue s t owner key released
  removes_graph t key released r shape =
      let steps = property_removed s.records t.records s.shape file x has.store r.before r.was r.rest
      (subst (λ z. ChangesProperties s.records t.records s.shape file x z (r.before ++ r.rest)) r.found.all r.changes) in
      record {
        changes = changed t (r.before ++ r.rest) r.changes shape steps.store;
        graph = subst (λ k. graph_of t.records ≡ without_value (graph_of s.records) (target_of owner) (text_at s k)) r.found.key_is steps.graph_is;
        released_is = r.released_is ∙ found_blocks r.before r.was r.rest key r.found;
      }

  -- ---- a key that is one of the store's names
  module _ (key : ℕ) (known : key < mark) where
    -- one more
    added_graph : (t : State) (after : List Property) (e : Property) (released : ℕ) → e.key ≡ key
        → ChangesProperties s.records t.records s.shape file x listed_at after → IsAdded listed_at after e released → t.shape ≡ s.shape
        → SetsValue s t owner key e.value released
    added_graph t after e released key_is changes a shape =
        let none = absent_value key known (subst (LacksKey listed_at) key_is a.lacked) in
        let now = subst (ChangesProperties s.records t.records s.shape file x listed_at) a.all changes in
        let steps = property_added s.records t.records s.shape file x has.store e listed_at now in
        let more = len_with key e.value None none in
        let n = count_is in
        let few = now.now.few in
        record {
          changes = changed t after changes shape steps.store;
          graph = subst (λ k. graph_of t.records ≡ with_value (graph_of s.records) (target_of owner) (text_at s k) e.value) key_is steps.graph_is;
          released_is = a.released_is ∙ sym (ap plain.blocks_if none);
          few = omega arith;
        }

    -- another value
    replaced_graph : (t : State) (after : List Property) (e : Property) (released : ℕ) → e.key ≡ key
        → ChangesProperties s.records t.records s.shape file x listed_at after → IsReplaced listed_at after e released → t.shape ≡ s.shape
        → SetsValue s t owner key e.value released
    replaced_graph t after e released key_is changes r shape =
        let at = subst (HasKeyAt listed_at r.before r.was r.rest) key_is r.found in
        let now = subst (λ z. ChangesProperties s.records t.records s.shape file x z (r.before ++ e ∷ r.rest)) at.all
        (subst (ChangesProperties s.records t.records s.shape file x listed_at) r.all changes) in
        let steps = property_replaced s.records t.records s.shape file x has.store r.before r.was e r.rest now (sym r.found.key_is) in
        record {
          changes = changed t after changes shape steps.store;
          graph = subst (λ k. graph_of t.records ≡ with_value (graph_of s.records) (target_of owner) (text_at s k) e.value) at.key_is steps.graph_is;
          released_is = r.released_is ∙ found_blocks r.before r.was r.rest key at;
          few = as_many r.before r.was r.rest key at e.value;
        }

    pub sets_graph : (t : State) (value : Value) (released : ℕ) → SetsAlone s t owner listed_at key value released → t.shape ≡ s.shape
        → SetsValue s t owner key value released
    sets_graph t value released sets shape = subst (λ v. SetsValue s t owner key v released) sets.value_is (⊎_elim
        (λ a. added_graph t sets.after sets.property released sets.key_is sets.changes a shape)
        (λ r. replaced_graph t sets.after sets.property released sets.key_is sets.changes r shape) sets.place)

    -- ---- why it is not
    few_with : (value : Value) (o : Option Property) → property_of listed_at key ≡ o → MayHaveKey s listed_at key
        → (maps.len (set_properties s owner key value) ≤ 32) × (properties_with s owner key value ≤ s.shape.limit)
        × (blocks_held o ≡ plain.blocks_at (properties_of s owner) (text_at s key))
    few_with value None lacks may =
        let none = absent_value key known lacks in
        let room = may lacks in
        let few = room.0 in
        let less = room.1 in
        let len = len_with key value None none in
        let all = count_with key value None none in
        let n = count_is in
        (omega arith, omega arith, sym (ap plain.blocks_if none))
    few_with value (Some e) found may =
        let p = placed listed_at e key found in
        let all = count_with key value (Some e.value) (found_value p.before e p.rest key p.at) in
        let most = live_limit in
        (as_many p.before e p.rest key p.at value, omega arith, found_blocks p.before e p.rest key p.at)

    pub refusal_graph : (value : Value) (fault : SetFault) → IsSetRefusalAlone s listed_at key value fault → IsSetRefusal s owner key value fault
    refusal_graph value (PropsFull count) h =
        let more = len_with key value None (absent_value key known h.1) in
        let n = count_is in
        let full = h.2 in
        (h.0, omega arith)
    refusal_graph value (Full file live) (inl h) =
        let none = absent_value key known h.1 in
        let len = len_with key value None none in
        let all = count_with key value None none in
        let n = count_is in
        let few = h.2 in
        let full = h.3 in
        (omega arith, inl (h.0, omega arith))
    refusal_graph value (Full file live) (inr h) =
        let few = few_with value (property_of listed_at key) refl h.1 in
        let lack = h.2 in
        let gone = few.2 in
        let all = blocks_with-live s owner is has key value in
        (few.0, inr (h.0, few.1, omega arith))
    refusal_graph value Memory h = tt
    refusal_graph value Disk h = tt
    refusal_graph value (Damaged damage) h = h
