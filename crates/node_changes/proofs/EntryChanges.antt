-- A value that is set or taken away, with its entries in the indexes.
use Rattle.std.specs.FinMap as maps
use Rattle.std.specs.Cmp.{eq_by_cmp_equiv}
use Rattle.std.specs.FinMap.{get-insert, get-remove}
use Rattle.std.specs.Cmp.Lexicographic.{nat_list_cmp_total}
use Rattle.std.specs.Prelude.{IfSome, is_some, slice_get}
use Rattle.std.proofs.Common.{◌≡◌, ℕ, ◌+◌, ◌-◌, ◌<◌, ◌≤◌, Bool, true, false, if◌then◌else◌, cond, Option, None, Some}
use Rattle.std.proofs.Common.{List, length, map, ap, sym, ◌∙◌, subst, arith, refl}
use Rattle.plain_graph.specs.Graph.{Graph, UsesName, has_element, properties_at, with_value, without_value}
use Rattle.plain_graph.specs.Indexes.{element_weight, entry_weight}
use Rattle.plain_graph.specs.Properties.{Properties, blocks_of}
use Rattle.plain_graph.specs.Refusals.{index_full, most_names}
use Rattle.plain_graph.specs.declared.refusal.Refusal.{Refusal}
use Rattle.plain_graph.specs.Reply.{Done}
use Rattle.plain_graph.specs.Values.{is_text}
use Rattle.plain_graph.specs.declared.command.Command.TheVariants as commands
use Rattle.plain_graph.specs.declared.command.Target.{Target}
use Rattle.plain_graph.specs.declared.command.Target.TheVariants as targets
use Rattle.plain_graph.specs.declared.value.Value.{Value}
use Rattle.rec_bytes.specs.Format as format
use Rattle.rec_bytes.specs.Space.{SameButReads, State}
use Rattle.store_rules.specs.Graph.{graph_in, graph_of, indexes_of}
use Rattle.store_rules.specs.IndexChange.{ChangesValue}
use Rattle.store_rules.specs.Indexes.{AreIndexed, Entries, has_hash, node_value, value_in, wanted_in}
use Rattle.store_rules.specs.RuleList.{IsSameFile}
use Rattle.store_rules.specs.Views.{Records, high, rec_at}
use Rattle.store_rules.proofs.ViewLaws.{kind_below}
use Rattle.prop_index.specs.declared.listing.IndexPair.{IndexPair}
use Rattle.store_rules.proofs.IndexKept.{properties_index}
use Rattle.store_rules.proofs.IndexStays.{indexes_stay}
use Rattle.prop_index.specs.Listing.{pair_of}
use Rattle.prop_store.specs.Alone.{RemovesAlone, SetsAlone}
use Rattle.prop_store.specs.Changing.{ChangesElement, HasElement, RemovesValue, SetsValue, target_of, text_at}
use Rattle.prop_store.specs.declared.owner.Owner.{Owner}
use Rattle.prop_store.specs.Owner.{IsInUse, IsOwner}
use Rattle.prop_store.proofs.ElementGraphs.{listed_at}
use Rattle.prop_store.proofs.ValueSteps.{removes_value, sets_value}
use Rattle.change_parts.specs.Change.{MakesChange}
use Rattle.node_changes.specs.Entries.{IsIndexedValue, WantsHeld, new_weight, old_weight, with_new, without_old}
use Rattle.change_parts.specs.Owners.{owner_of}
use Rattle.change_parts.specs.Store.{IsMidway, IsStore, KeepsElements}
use Rattle.node_changes.specs.declared.entries.IndexedValue.{IndexedValue}
use Rattle.node_changes.proofs.HeldWeights.{held_again, held_weighs, new_held, old_held, value_known}
use Rattle.node_changes.proofs.IndexBeside.{KeepsBesideIndex, graph_beside, names_beside}
use Rattle.plain_graph.specs.Indexes.{index_records}
use Rattle.rec_bytes.specs.declared.shape.Shape.{Shape}
use Rattle.change_parts.proofs.KeptIndexes.{midway, properties_keep, store_now}
use Rattle.node_changes.proofs.LiveIndexes.{indexes_fit}
use Rattle.change_parts.proofs.PairsPut.{label_at}
use Rattle.node_changes.proofs.Setting.{number_low, number_text, set_value, unset_value}
use Rattle.store_rules.specs.Rules.{IsWhole}

-- what the change of the entries left of the space
pub record MakesEntries (u v : State) (held : Option IndexedValue) (after : Entries) : Type 0 where
  pub beside : KeepsBesideIndex u.records v.records
  pub graph : indexes_of v.records ≡ indexes_of u.records
  pub idle : held ≡ None → v ≡ u
  pub keeps : IsWhole v
  pub indexed : AreIndexed v.records after

-- the file of the indexes stays where the pair has none
file_idle : (s u v : State) (held : Option IndexedValue) → IsSameFile s.records u.records format.index_file → (held ≡ None → v ≡ u) → held ≡ None
    → IsSameFile s.records v.records format.index_file
file_idle s u v held same idle none = subst (λ (z : State). IsSameFile s.records z.records format.index_file) (sym (idle none)) same

-- ---- a value that is taken away

module _ (n u v : State) (names : List (List ℕ)) (target : Target) (key : List ℕ) (number : ℕ) (store : IsStore n names)
    (there : has_element (graph_in n) target ≡ true) (at : slice_get names number ≡ Some key)
    (owned : IsOwner (owner_of target)) (has : HasElement n (owner_of target)) (released : ℕ) (removes : RemovesValue n u (owner_of target) number released)
    (alone : RemovesAlone n u (owner_of target) (listed_at n (owner_of target) owned has) number released)
    (held : Option IndexedValue) (made : MakesEntries u v held (without_old (wanted_in n.records) held)) where
  abbrev after : Properties
  after = maps.remove (properties_at (graph_in n) target) key

  index : IsSameFile n.records u.records format.index_file
  index = properties_index n.records u.records n.shape (owner_of target).key.file (owner_of target).key.id removes.changes.before removes.changes.after
      removes.changes.changes

  low : number < high n.records format.names_file
  low = number_low n names number key (midway n names store) at

  text_is : text_at n number ≡ key
  text_is = number_text n names number key (midway n names store) at

  gone : maps.get after key ≡ None
  gone = get-remove nat_list_cmp_total (properties_at (graph_in n) target) key key
      ∙ ap (λ b. cond b None (maps.get (properties_at (graph_in n) target) key)) ((eq_by_cmp_equiv nat_list_cmp_total).refl key)

  -- the store is one again
  rest : IsMidway v names
  rest = record {
    store = made.keeps;
    names = store.names ∙ sym (names_beside u.records v.records made.beside ∙ ap (λ (g : Graph). g.names) removes.graph
        ∙ without_names (target_of (owner_of target)) (text_at n number));
  }
    where
      without_names : (t : Target) (k : List ℕ) → (without_value (graph_in n) t k).names ≡ (graph_in n).names
      without_names (targets.Node x) k = refl
      without_names (targets.Edge x) k = refl

  same : graph_in v ≡ graph_in u
  same = graph_beside u.records v.records made.beside made.graph

  -- what the parts of the target say
  record Ends (t : Target) : Type 0 where
    pub indexed : AreIndexed v.records (wanted_in v.records)
    pub weighs : element_weight (graph_in n) t (is_text key) after ≡ old_weight held

  unset_made : Ends target → MakesChange (commands.Unset target key) Done (2 + released + old_weight held) n v names
  unset_made ends = unset_value n names target key (midway n names store) there u v (owner_of target) number released (old_weight held) refl at removes
      (store_now v names rest ends.indexed) same ends.weighs

-- of a node
pub unset_node : (n u v : State) (names : List (List ℕ)) (id : ℕ) (key : List ℕ) (number : ℕ) (store : IsStore n names)
    (there : has_element (graph_in n) (targets.Node id) ≡ true) (at : slice_get names number ≡ Some key)
    (owned : IsOwner (owner_of (targets.Node id))) (has : HasElement n (owner_of (targets.Node id))) (released : ℕ)
    (removes : RemovesValue n u (owner_of (targets.Node id)) number released)
    (alone : RemovesAlone n u (owner_of (targets.Node id)) (listed_at n (owner_of (targets.Node id)) owned has) number released)
    (held : Option IndexedValue) (made : MakesEntries u v held (without_old (wanted_in n.records) held))
    → IsIndexedValue n.records (map (pair_of n.records) store.store.indexes.definitions) (targets.Node id) number held
    → MakesChange (commands.Unset (targets.Node id) key) Done (2 + released + old_weight held) n v names
unset_node n u v names id key number store there at owned has released removes alone held made is =
    unset_made n u v names (targets.Node id) key number store there at owned has released removes alone held made (record {
      indexed = held_again n u v id number old None store.store.indexes change made.beside held is
          (file_idle n u v held (index n u v names (targets.Node id) key number store there at owned has released removes alone held made) made.idle)
          (subst (AreIndexed v.records) (old_held (wanted_in n.records) held) made.indexed);
      weighs = ap (λ k. element_weight (graph_in n) (targets.Node id) (is_text k) rest) (sym text)
          ∙ held_weighs n id number has.used store.store low known rest held is
          ∙ ap (λ w. old_weight held + w) (ap (λ k. cond (is_some held) (entry_weight rest k) 0) text ∙ none (is_some held))
          ∙ zero_more (old_weight held);
    })
  where
    rest : Properties
    rest = maps.remove (properties_at (graph_in n) (targets.Node id)) key

    text : text_at n number ≡ key
    text = number_text n names number key (midway n names store) at

    low : number < high n.records format.names_file
    low = number_low n names number key (midway n names store) at

    old : Option Value
    old = value_in (listed_at n (owner_of (targets.Node id)) owned has) number

    change : ChangesValue n.records u.records (label_at n.records id) number id old None
    change = removes_value n u (owner_of (targets.Node id)) (listed_at n (owner_of (targets.Node id)) owned has) number refl has.store released alone

    known : is_some (maps.get (properties_at (graph_of n.records) (targets.Node id)) (text_at n number)) ≡ is_some
        (node_value n.records (label_at n.records id) number id)
    known = value_known n (owner_of (targets.Node id)) owned has number low ∙ sym (ap is_some change.was)

    none : (b : Bool) → cond b (entry_weight rest key) 0 ≡ 0
    none true = ap (λ o. if is_some o then 3 else 0) (gone n u v names (targets.Node id) key number store there at owned has released removes alone held made)
    none false = refl

    zero_more : (w : ℕ) → w + 0 ≡ w
    zero_more w = omega arith

-- of an edge, which is in no index
pub unset_edge : (n u v : State) (names : List (List ℕ)) (id : ℕ) (key : List ℕ) (number : ℕ) (store : IsStore n names)
    (there : has_element (graph_in n) (targets.Edge id) ≡ true) (at : slice_get names number ≡ Some key)
    (owned : IsOwner (owner_of (targets.Edge id))) (has : HasElement n (owner_of (targets.Edge id))) (released : ℕ)
    (removes : RemovesValue n u (owner_of (targets.Edge id)) number released)
    (alone : RemovesAlone n u (owner_of (targets.Edge id)) (listed_at n (owner_of (targets.Edge id)) owned has) number released)
    (held : Option IndexedValue) (made : MakesEntries u v held (without_old (wanted_in n.records) held)) → held ≡ None
    → MakesChange (commands.Unset (targets.Edge id) key) Done (2 + released + old_weight held) n v names
unset_edge n u v names id key number store there at owned has released removes alone held made none =
    unset_made n u v names (targets.Edge id) key number store there at owned has released removes alone held made (record {
      indexed = subst (λ (z : State). AreIndexed z.records (wanted_in z.records)) (sym (made.idle none))
          (properties_keep n u n.shape format.relationships_file id removes.changes.before removes.changes.after removes.changes.changes refl store.store.store
          store.store.indexes);
      weighs = sym (ap old_weight none);
    })

-- ---- a value that is set

-- The key has its number in the space n, whose nodes, edges and indexes are those of the space s.
module _ (s : State) (old : List (List ℕ)) (target : Target) (key : List ℕ) (value : Value) (store : IsMidway s old)
    (there : has_element (graph_in s) target ≡ true)
    (n u v : State) (new : List (List ℕ)) (number : ℕ) (uses : UsesName old key new) (kept : KeepsElements s n new) (few : length new ≤ most_names)
    (at : slice_get new number ≡ Some key)
    (indexes : AreIndexed n.records (wanted_in n.records)) (owned : IsOwner (owner_of target)) (has : HasElement n (owner_of target)) (released : ℕ)
    (sets : SetsValue n u (owner_of target) number value released) (shape : u.shape ≡ n.shape)
    (held : Option IndexedValue) (made : MakesEntries u v held (with_new (without_old (wanted_in n.records) held) held value)) where
  abbrev set_after : Properties
  set_after = maps.insert (properties_at (graph_in n) target) key value

  set_index : IsSameFile n.records u.records format.index_file
  set_index = properties_index n.records u.records n.shape (owner_of target).key.file (owner_of target).key.id sets.changes.before sets.changes.after
      sets.changes.changes

  set_low : number < high n.records format.names_file
  set_low = number_low n new number key kept.store at

  set_text : text_at n number ≡ key
  set_text = number_text n new number key kept.store at

  set_rest : IsMidway v new
  set_rest = record {
    store = made.keeps;
    names = kept.store.names ∙ sym (names_beside u.records v.records made.beside ∙ ap (λ (g : Graph). g.names) sets.graph
        ∙ with_names (target_of (owner_of target)) (text_at n number));
  }
    where
      with_names : (t : Target) (k : List ℕ) → (with_value (graph_in n) t k value).names ≡ (graph_in n).names
      with_names (targets.Node x) k = refl
      with_names (targets.Edge x) k = refl

  set_same : graph_in v ≡ graph_in u
  set_same = graph_beside u.records v.records made.beside made.graph

  -- the element has in s what it has in n
  weighs_same : (t : Target) → element_weight (graph_in s) t (is_text key) (maps.insert (properties_at (graph_in s) t) key value) ≡ element_weight (graph_in n)
      t (is_text key) (maps.insert (properties_at (graph_in n) t) key value)
  weighs_same (targets.Node id) = λ i. element_weight (record {
    nodes = sym kept.nodes i;
    edges = (graph_in n).edges;
    names = (graph_in n).names;
    indexes = sym
        kept.indexes i;
  }) (targets.Node id) (is_text key)
      (maps.insert (properties_at (record { nodes = sym kept.nodes i; edges = (graph_in n).edges; names = (graph_in n).names; indexes = sym kept.indexes i })
      (targets.Node id)) key value)
  weighs_same (targets.Edge id) = refl

  record SetEnds (t : Target) : Type 0 where
    pub indexed : AreIndexed v.records (wanted_in v.records)
    pub weighs : element_weight (graph_in n) t (is_text key) (maps.insert (properties_at (graph_in n) t) key value) ≡ old_weight held + new_weight held
    pub fits : IsStore v new → graph_in v ≡ record (with_value (graph_in s) t key value) { names = (graph_in n).names } → (o : Refusal)
        → ¬ index_full s.shape.limit (graph_in s) (commands.Set t key value) o

  set_made : SetEnds target → (weight : ℕ) → weight ≡ 2 + blocks_of value + released + (length new - length old) + (old_weight held + new_weight held)
      → MakesChange (commands.Set target key value) Done weight s v new
  set_made ends weight is =
      let whole = store_now v new set_rest ends.indexed in
      set_value s old target key value store there n new number (owner_of target) refl uses kept few at u v released (old_weight held + new_weight held) weight
      sets shape is whole set_same (weighs_same target ∙ ends.weighs) (ends.fits whole)

-- of a node
module _ (s : State) (old : List (List ℕ)) (id : ℕ) (key : List ℕ) (value : Value) (store : IsMidway s old)
    (there : has_element (graph_in s) (targets.Node id) ≡ true)
    (n u v : State) (new : List (List ℕ)) (number : ℕ) (uses : UsesName old key new) (kept : KeepsElements s n new) (few : length new ≤ most_names)
    (at : slice_get new number ≡ Some key)
    (whole : IsStore n new) (owned : IsOwner (owner_of (targets.Node id))) (has : HasElement n (owner_of (targets.Node id))) (released : ℕ)
    (sets : SetsValue n u (owner_of (targets.Node id)) number value released) (shape : u.shape ≡ n.shape)
    (alone : SetsAlone n u (owner_of (targets.Node id)) (listed_at n (owner_of (targets.Node id)) owned has) number value released)
    (held : Option IndexedValue) (made : MakesEntries u v held (with_new (without_old (wanted_in n.records) held) held value))
    (is : IsIndexedValue n.records (map (pair_of n.records) whole.store.indexes.definitions) (targets.Node id) number held) where
  abbrev old_value : Option Value
  old_value = value_in (listed_at n (owner_of (targets.Node id)) owned has) number

  put_change : ChangesValue n.records u.records (label_at n.records id) number id old_value (Some value)
  put_change = sets_value n u (owner_of (targets.Node id)) (listed_at n (owner_of (targets.Node id)) owned has) number refl has.store value released alone

  put_text : text_at n number ≡ key
  put_text = set_text s old (targets.Node id) key value store there n u v new number uses kept few at whole.store.indexes owned has released sets shape held
      made

  put_low : number < high n.records format.names_file
  put_low = set_low s old (targets.Node id) key value store there n u v new number uses kept few at whole.store.indexes owned has released sets shape held made

  put_known : is_some (maps.get (properties_at (graph_of n.records) (targets.Node id)) (text_at n number)) ≡ is_some
      (node_value n.records (label_at n.records id) number id)
  put_known = value_known n (owner_of (targets.Node id)) owned has number put_low ∙ sym (ap is_some put_change.was)

  abbrev put : Properties
  put = maps.insert (properties_at (graph_in n) (targets.Node id)) key value

  three : entry_weight put key ≡ 3
  three = ap (λ o. if is_some o then 3 else 0) (get-insert nat_list_cmp_total (properties_at (graph_in n) (targets.Node id)) key value key ∙ ap
      (λ b. cond b (Some value) (maps.get (properties_at (graph_in n) (targets.Node id)) key)) ((eq_by_cmp_equiv nat_list_cmp_total).refl key))

  new_weighs : (h : Option IndexedValue) → cond (is_some h) 3 0 ≡ new_weight h
  new_weighs None = refl
  new_weighs (Some h) = refl

  pub set_node : v.shape ≡ u.shape → (weight : ℕ) → weight ≡ 2 + blocks_of value + released + (length new - length old) + (old_weight held + new_weight held)
      → MakesChange (commands.Set (targets.Node id) key value) Done weight s v new
  set_node last_shape = set_made s old (targets.Node id) key value store there n u v new number uses kept few at whole.store.indexes owned has released sets
      shape held made (record {
        indexed = held_again n u v id number old_value (Some value) whole.store.indexes put_change made.beside held is
            (file_idle n u v held (set_index s old (targets.Node id) key value store there n u v new number uses kept few at whole.store.indexes owned has
            released sets shape held made) made.idle)
            (subst (AreIndexed v.records) (new_held (wanted_in n.records) held value) made.indexed);
        weighs = ap (λ k. element_weight (graph_in n) (targets.Node id) (is_text k) put) (sym put_text)
            ∙ held_weighs n id number has.used whole.store put_low put_known put held is
            ∙ ap (λ w. old_weight held + w) (ap (λ k. cond (is_some held) (entry_weight put k) 0) put_text ∙ ap (λ w. cond (is_some held) w 0) three
            ∙ new_weighs held);
        fits = λ last graph o full.
            let room = indexes_fit v last.store in
            let is = ap index_records graph in
            let limit = ap (λ (h : Shape). h.limit) (last_shape ∙ shape ∙ kept.shape) in
            let more = full.0 in
            absurd (omega (arith, room, is, limit, more));
      })

-- of an edge
pub set_edge : (s : State) (old : List (List ℕ)) (id : ℕ) (key : List ℕ) (value : Value) (store : IsMidway s old)
    (there : has_element (graph_in s) (targets.Edge id) ≡ true)
    (n u v : State) (new : List (List ℕ)) (number : ℕ) (uses : UsesName old key new) (kept : KeepsElements s n new) (few : length new ≤ most_names)
    (at : slice_get new number ≡ Some key)
    (whole : IsStore n new) (owned : IsOwner (owner_of (targets.Edge id))) (has : HasElement n (owner_of (targets.Edge id))) (released : ℕ)
    (sets : SetsValue n u (owner_of (targets.Edge id)) number value released) (shape : u.shape ≡ n.shape)
    (held : Option IndexedValue) (made : MakesEntries u v held (with_new (without_old (wanted_in n.records) held) held value)) → held ≡ None → (weight : ℕ)
    → weight ≡ 2 + blocks_of value + released + (length new - length old) + (old_weight held + new_weight held)
    → MakesChange (commands.Set (targets.Edge id) key value) Done weight s v new
set_edge s old id key value store there n u v new number uses kept few at whole owned has released sets shape held made none =
    set_made s old (targets.Edge id) key value store there n u v new number uses kept few at whole.store.indexes owned has released sets shape held made
    (record {
      indexed = subst (λ (z : State). AreIndexed z.records (wanted_in z.records)) (sym (made.idle none))
          (properties_keep n u n.shape format.relationships_file id sets.changes.before sets.changes.after sets.changes.changes refl whole.store.store
          whole.store.indexes);
      weighs = sym (ap (λ h. old_weight h + new_weight h) none);
      fits = λ last graph o full. full;
    })

-- ---- whichever the element is

-- the indexes are of what the nodes had before the element's properties changed
pub indexes_between : (n u : State) (owner : Owner) → ChangesElement n u owner → AreIndexed n.records (wanted_in n.records)
    → AreIndexed u.records (wanted_in n.records)
indexes_between n u owner change = indexes_stay n.records u.records (properties_index n.records u.records n.shape owner.key.file owner.key.id change.before
    change.after change.changes) (wanted_in n.records)

pub unset_any : (n u v : State) (names : List (List ℕ)) (target : Target) (key : List ℕ) (number : ℕ) (store : IsStore n names)
    (there : has_element (graph_in n) target ≡ true) (at : slice_get names number ≡ Some key)
    (owned : IsOwner (owner_of target)) (has : HasElement n (owner_of target)) (released : ℕ) (removes : RemovesValue n u (owner_of target) number released)
    (alone : RemovesAlone n u (owner_of target) (listed_at n (owner_of target) owned has) number released)
    (held : Option IndexedValue) (made : MakesEntries u v held (without_old (wanted_in n.records) held))
    → IsIndexedValue n.records (map (pair_of n.records) store.store.indexes.definitions) target number held
    → MakesChange (commands.Unset target key) Done (2 + released + old_weight held) n v names
unset_any n u v names (targets.Node id) key number store there at owned has released removes alone held made is =
    unset_node n u v names id key number store there at owned has released removes alone held made is
unset_any n u v names (targets.Edge id) key number store there at owned has released removes alone held made is =
    unset_edge n u v names id key number store there at owned has released removes alone held made is

pub set_any : (s : State) (old : List (List ℕ)) (target : Target) (key : List ℕ) (value : Value) (store : IsMidway s old)
    (there : has_element (graph_in s) target ≡ true)
    (n u v : State) (new : List (List ℕ)) (number : ℕ) (uses : UsesName old key new) (kept : KeepsElements s n new) (few : length new ≤ most_names)
    (at : slice_get new number ≡ Some key)
    (whole : IsStore n new) (owned : IsOwner (owner_of target)) (has : HasElement n (owner_of target)) (released : ℕ)
    (sets : SetsValue n u (owner_of target) number value released) (shape : u.shape ≡ n.shape)
    (alone : SetsAlone n u (owner_of target) (listed_at n (owner_of target) owned has) number value released)
    (held : Option IndexedValue) (made : MakesEntries u v held (with_new (without_old (wanted_in n.records) held) held value))
    → IsIndexedValue n.records (map (pair_of n.records) whole.store.indexes.definitions) target number held
    → v.shape ≡ u.shape → (weight : ℕ) → weight ≡ 2 + blocks_of value + released + (length new - length old) + (old_weight held + new_weight held)
    → MakesChange (commands.Set target key value) Done weight s v new
set_any s old (targets.Node id) key value store there n u v new number uses kept few at whole owned has released sets shape alone held made is last_shape =
    set_node s old id key value store there n u v new number uses kept few at whole owned has released sets shape alone held made is last_shape
set_any s old (targets.Edge id) key value store there n u v new number uses kept few at whole owned has released sets shape alone held made is last_shape =
    set_edge s old id key value store there n u v new number uses kept few at whole owned has released sets shape held made is

-- the elements are kept where the space was read then
pub kept_read : (s t n : State) (names : List (List ℕ)) → SameButReads t n → KeepsElements s t names → KeepsElements s n names
kept_read s t n names same kept = subst (λ z. KeepsElements s z names) (sym same) (record {
  store = record { store = kept.store.store; names = kept.store.names };
  shape = kept.shape;
  nodes = kept.nodes;
  edges = kept.edges;
  indexes = kept.indexes;
  keeps = kept.keeps;
})

-- the node has the entry of the value that was held, and no other of the key
pub wants_held : (n : Records) (target : Target) (key : ℕ) (listed : List IndexPair) (held : Option IndexedValue) → IsIndexedValue n listed target key held
    → WantsHeld (wanted_in n) held
wants_held n target key listed None is = tt
wants_held n (targets.Edge id) key listed (Some held) is = absurd cc
wants_held n (targets.Node id) key listed (Some held) is = λ hash. ap (has_hash hash) ((λ i. node_value n held.label (is.1 i) (is.0 i)) ∙ sym is.4)

-- its node was given out
pub held_low : (n : Records) (target : Target) (key : ℕ) (listed : List IndexPair) (held : Option IndexedValue) → IsIndexedValue n listed target key held
    → IsInUse n (owner_of target) → IfSome held (λ h. h.node < high n format.nodes_file)
held_low n target key listed None is used = tt
held_low n (targets.Edge id) key listed (Some held) is used = absurd cc
held_low n (targets.Node id) key listed (Some held) is used = subst (λ z. z < high n format.nodes_file) (sym is.0)
    (kind_below (high n format.nodes_file) (rec_at n format.nodes_file id) id used)
