-- Properties that a new element gets, one after another.
use Rattle.std.specs.FinMap as maps
use Rattle.std.proofs.Common.{◌≡◌, ℕ, ◌+◌, ◌<◌, ◌≤◌, nat_eq, Bool, true, false, if◌then◌else◌, cond, Option, None, Some, List, [], ◌∷◌, ◌++◌, length, take}
use Rattle.std.proofs.Common.{get_or, sym, ap, ◌∙◌, subst, inl, inr, ⊎_elim, arith, refl}
use Rattle.std.proofs.lemmas.List.{get_or-map, length-map, length-take-le, take_all, take_more}
use Rattle.std.proofs.lemmas.List.Sums.{sum_by-take-le}
use Rattle.std.proofs.lemmas.Option.{slice_get-get_or}
use Rattle.plain_graph.specs.Graph.{Graph, block_count, has_element, properties_at, property_count, with_properties, with_value}
use Rattle.plain_graph.specs.Properties.{Properties, blocks_in, blocks_of, no_properties, with_pairs}
use Rattle.plain_graph.specs.declared.command.Target.{Target}
use Rattle.plain_graph.specs.declared.command.Target.TheVariants as targets
use Rattle.plain_graph.specs.declared.pairs.Pair.{Pair}
use Rattle.plain_graph.specs.declared.value.Value.{Value}
use Rattle.plain_graph.proofs.PropertyLaws.{blocks_in-empty, order}
use Rattle.prop_store.specs.Changing.{ChangesElement, HasKey, IsSetRefusal, SetsValue, properties_of, target_of, text_at}
use Rattle.prop_store.specs.Owner.{IsOwner}
use Rattle.prop_store.specs.Touching.{LeavesElement}
use Rattle.prop_store.specs.declared.owner.Owner.{Owner}
use Rattle.prop_store.specs.declared.set_fault.SetFault.{SetFault}
use Rattle.prop_store.specs.declared.set_fault.SetFault.TheVariants as set
use Rattle.prop_store.proofs.ElementCounts.{block_count-with_properties, distinct_in_store, property_count-with_properties}
use Rattle.rec_bytes.specs.declared.shape.Shape.{Shape}
use Rattle.rec_bytes.specs.Format as format
use Rattle.rec_bytes.specs.Key.{IsKey}
use Rattle.rec_bytes.specs.Space.{State}
use Rattle.store_rules.specs.Views.{Records, high, key_in, rec_at}
use Rattle.store_rules.specs.Writes.{WritesBeside}
use Rattle.store_rules.proofs.PropertyCounts.{count_blocks, count_properties}
use Rattle.change_parts.specs.Assigning.{CanPut, HasPropertyRoom, KeepsLinks, PutsPairs, assigned_blocks, pair_of, pairs_of}
use Rattle.change_parts.specs.ChangeFault.{IsOutside, of_set}
use Rattle.prop_store.specs.Setting.{HarmsNoLists}
use Rattle.change_parts.specs.Damage.{LeavesIndexes}
use Rattle.change_parts.specs.Owners.{owner_of}
use Rattle.change_parts.specs.GivenValues.{with_assigned}
use Rattle.change_parts.specs.Store.{IsMidway, KeepsIndexes}
use Rattle.prop_store.proofs.ElementGraphs.{lacks_key, listed_at}
use Rattle.prop_store.proofs.ValueSteps.{sets_value}
use Rattle.prop_store.specs.Finding.{property_of}
use Rattle.store_rules.specs.Indexes.{value_in, Entry, wanted_in}
use Rattle.store_rules.specs.Properties.{Property}
use Rattle.prop_store.specs.Alone.{SetsAlone}
use Rattle.rec_bytes.specs.Record.{field}
use Rattle.rec_bytes.specs.RecordFiles.{meta_key_of}
use Rattle.rec_bytes.specs.declared.key.Key.{Key}
use Rattle.store_rules.specs.IndexChange.{ChangesValue}
use Rattle.store_rules.specs.RuleList.{IsSameFile}
use Rattle.store_rules.proofs.MetaLaws.{not_meta_key}
use Rattle.change_parts.specs.declared.assigning.Assignment.{Assignment}
use Rattle.change_parts.proofs.Assigned.{sums}
use Rattle.change_parts.proofs.ElementChanges.{has_element-with_properties, names-with_properties, properties_at-with_properties, with_properties_same}
use Rattle.change_parts.proofs.ElementChanges.{with_properties_twice}
use Rattle.change_parts.proofs.LastPairs.{blocks_in-with_pairs, len-with_pairs, new_at, new_take, with_pairs-push}
use Rattle.change_parts.proofs.NameNumbers.{number_in}
use Rattle.change_parts.proofs.Elements.{element_used}
use Rattle.store_rules.specs.Graph.{graph_in}

-- ---- elements as owners

-- an element is the one that its owner's place is of
pub target_of-owner_of : (target : Target) → target_of (owner_of target) ≡ target
target_of-owner_of (targets.Node id) = refl
target_of-owner_of (targets.Edge id) = refl

pub owner_is : (target : Target) → IsKey (owner_of target).key → IsOwner (owner_of target)
owner_is (targets.Node id) key = record { key = key; file = inl refl; place = refl }
owner_is (targets.Edge id) key = record { key = key; file = inr refl; place = refl }

-- the text of a key that is one of a store's names
pub text_known : (s : State) (names : List (List ℕ)) (key : ℕ) → IsMidway s names → key < length names → (key < high s.records format.names_file)
    × (text_at s key ≡ get_or names key [])
text_known s names key store low = number_in s.records names key (get_or names key []) store.names (slice_get-get_or names key [] low)

-- ---- no pair yet
pub none_put : (s : State) (names : List (List ℕ)) (target : Target) (ps : List Pair) → IsMidway s names → PutsPairs s s names target (take 0 ps)
none_put s names target ps store = record {
  store = store;
  graph = sym (with_properties_same (graph_in s) target);
  keeps = record { own = λ n at inside apart. refl; others = λ key a b c d e. refl };
}

-- so it is after one change of the element's properties, and after several
pub links_kept : (s t : State) (owner : Owner) → ChangesElement s t owner → KeepsLinks s.records t.records owner
links_kept s t owner change = record { own = change.changes.own; others = change.changes.others }

pub links_twice : (s t u : Records) (owner : Owner) → KeepsLinks s t owner → KeepsLinks t u owner → KeepsLinks s u owner
links_twice s t u owner a b = record {
  own = λ n at inside apart. b.own n at inside apart ∙ a.own n at inside apart;
  others = λ key p q m n ne. b.others key p q m n ne ∙ a.others key p q m n ne;
}

-- ---- one pair more
module _ (s t : State) (names : List (List ℕ)) (target : Target) (pairs : List Pair) (assigned : List Assignment) (i : ℕ)
    (can : CanPut s names target pairs assigned) (few : length assigned ≤ 32)
    (put : PutsPairs s t names target (take i (pairs_of names pairs assigned))) (lt : i < length assigned) (shape : t.shape ≡ s.shape) where
  abbrev a : Assignment
  a = get_or assigned i (record { key = 0; pair = 0 })

  abbrev ps : List Pair
  ps = pairs_of names pairs assigned

  abbrev p : Pair
  p = pair_of names pairs a

  abbrev owner : Owner
  owner = owner_of target

  long : length ps ≡ length assigned
  long = length-map assigned (pair_of names pairs)

  here : get_or ps i (pair_of names pairs (record { key = 0; pair = 0 })) ≡ p
  here = get_or-map (pair_of names pairs) assigned i (record { key = 0; pair = 0 }) (pair_of names pairs (record { key = 0; pair = 0 })) lt

  next_pairs : take (i + 1) ps ≡ take i ps ++ p ∷ []
  next_pairs = take_more ps i (pair_of names pairs (record { key = 0; pair = 0 })) (omega (arith, long)) ∙ ap (λ z. take i ps ++ z ∷ []) here

  low : a.key < length names
  low = can.are.known i (record { key = 0; pair = 0 }) lt

  text_is : text_at t a.key ≡ p.key
  text_is = (text_known t names a.key put.store low).1

  of_target : properties_of t owner ≡ with_pairs no_properties (take i ps)
  of_target = ap (properties_at (graph_in t)) (target_of-owner_of target) ∙ ap (λ g. properties_at g target) put.graph
      ∙ properties_at-with_properties (graph_in s) target (λ m. with_pairs m (take i ps)) can.there
      ∙ ap (λ m. with_pairs m (take i ps)) can.bare

  there_now : has_element (graph_in t) target ≡ true
  there_now = ap (λ g. has_element g target) put.graph ∙ has_element-with_properties (graph_in s) target (λ m. with_pairs m (take i ps)) ∙ can.there

  -- what `add` asks of the element
  pub key_there : HasKey t owner a.key
  key_there = record {
    element = record { store = put.store.store; used = element_used t target there_now };
    known = (text_known t names a.key put.store low).0;
  }

  pub key_new : maps.get (properties_of t owner) (text_at t a.key) ≡ None
  key_new = (λ j. maps.get (of_target j) (text_is j)) ∙ ap (λ (q : Pair). maps.get (with_pairs no_properties (take i ps)) q.key) (sym here)
      ∙ new_at no_properties i ps (pair_of names pairs (record { key = 0; pair = 0 })) can.are.once (omega (arith, long))

  count_then : (n : ℕ) → n ≤ length assigned → maps.len (with_pairs no_properties (take n ps)) ≡ n
  count_then n le =
      let all = len-with_pairs no_properties (take n ps) (new_take no_properties n ps can.are.once) in
      let none = maps.len-empty order Value in
      let cut = length-take-le n ps (omega (arith, long)) in
      omega arith

  pub key_fits : maps.len (properties_of t owner) < 32
  key_fits = let same = ap (λ (m : Properties). maps.len m) of_target in let n = count_then i (omega arith) in omega arith

  -- the graph with the value is that with one pair more
  next_graph : (value : Value) → value ≡ p.value → with_value (graph_in t) (target_of owner) (text_at t a.key) value ≡ with_properties (graph_in s) target
      (λ m. with_pairs m (take (i + 1) ps))
  next_graph value is =
      (λ j. with_value (put.graph j) (target_of-owner_of target j) (text_is j) (is j))
      ∙ with_properties_twice (graph_in s) target (λ m. with_pairs m (take i ps)) (λ m. maps.insert m p.key p.value)
      ∙ (λ j. with_properties (graph_in s) target (λ m. (sym (with_pairs-push m (take i ps) p) ∙ ap (with_pairs m) (sym next_pairs)) j))

  pub put_more : (u : State) (value : Value) → value ≡ p.value → SetsValue t u owner a.key value 0 → PutsPairs s u names target (take (i + 1) ps)
  put_more u value is sets = record {
    store = record {
      store = sets.changes.store;
      names = put.store.names ∙ sym (ap (λ (g : Graph). g.names) sets.graph ∙ names-with_properties (graph_in t) (target_of owner)
          (λ m. maps.insert m (text_at t a.key) value));
    };
    graph = sets.graph ∙ next_graph value is;
    keeps = links_twice s.records t.records u.records owner put.keeps (links_kept t u owner sets.changes);
  }

  -- ---- a value for which there is room
  module _ (room : HasPropertyRoom s (length assigned) (assigned_blocks pairs assigned)) (value : Value) (is : value ≡ p.value) where
    bare_len : maps.len (properties_at (graph_in s) target) ≡ 0
    bare_len = ap (λ (m : Properties). maps.len m) can.bare ∙ maps.len-empty order Value

    bare_blocks : blocks_in (properties_at (graph_in s) target) ≡ 0
    bare_blocks = ap blocks_in can.bare ∙ blocks_in-empty

    abbrev more : Properties → Properties
    more m = with_pairs m (take (i + 1) ps)

    fits_properties : property_count (with_value (graph_in t) (target_of owner) (text_at t a.key) value) ≤ s.shape.limit
    fits_properties =
        let all = property_count-with_properties (graph_in s) target more (distinct_in_store s.records) can.there in
        let same = ap property_count (next_graph value is) in
        let live = count_properties s.records s.shape can.store.store in
        let none = bare_len in
        let n = ap (λ m. maps.len (more m)) can.bare ∙ count_then (i + 1) (omega arith) in
        let fits = room.properties in
        omega arith

    fits_blocks : block_count (with_value (graph_in t) (target_of owner) (text_at t a.key) value) ≤ s.shape.limit
    fits_blocks =
        let all = block_count-with_properties (graph_in s) target more (distinct_in_store s.records) can.there in
        let same = ap block_count (next_graph value is) in
        let live = count_blocks s.records s.shape can.store.store in
        let none = bare_blocks in
        let b = ap (λ m. blocks_in (more m)) can.bare ∙ blocks_in-with_pairs no_properties (take (i + 1) ps) (new_take no_properties (i + 1) ps can.are.once) in
        let empty = blocks_in-empty in
        let part = sum_by-take-le (λ (q : Pair). blocks_of q.value) ps (i + 1) in
        let total = sums names pairs assigned can.are assigned in
        let fits = room.blocks in
        omega arith

    fits_element : maps.len (maps.insert (properties_of t owner) (text_at t a.key) value) ≤ 32
    fits_element =
        let same : maps.insert (properties_of t owner) (text_at t a.key) value ≡ with_pairs no_properties (take (i + 1) ps)
        = (λ j. maps.insert (of_target j) (text_is j) (is j)) ∙ sym (with_pairs-push no_properties (take i ps) p)
        ∙ ap (with_pairs no_properties) (sym next_pairs) in
        let n = ap (λ (m : Properties). maps.len m) same ∙ count_then (i + 1) (omega arith) in
        omega arith

    pub put_outside : (fault : SetFault) → IsSetRefusal t owner a.key value fault → IsOutside (of_set fault)
    put_outside (set.PropsFull count) why = absurd (let a = why.1 in let b = fits_element in omega arith)
    put_outside (set.Full file live) why = absurd (let same = ap (λ (z : Shape). z.limit) shape in ⊎_elim
        (λ k. let a = k.1 in let b = fits_properties in omega arith)
        (λ k. let a = k.2 in let b = fits_blocks in omega arith) why.1)
    put_outside set.Memory why = tt
    put_outside set.Disk why = tt
    put_outside (set.Damaged damage) why = absurd why

-- ---- the end of the assignments
pub all_put : (s t : State) (names : List (List ℕ)) (target : Target) (pairs : List Pair) (assigned : List Assignment) (n : ℕ) → length assigned ≤ n
    → PutsPairs s t names target (take n (pairs_of names pairs assigned)) → PutsPairs s t names target (pairs_of names pairs assigned)
all_put s t names target pairs assigned n le = subst (PutsPairs s t names target)
    (take_all n (pairs_of names pairs assigned) (omega (arith, length-map assigned (pair_of names pairs))))

-- ---- what is wanted of the indexes

-- the label of a node, by its number
abbrev pub label_at : Records → ℕ → ℕ
label_at records id = field 4 (rec_at records format.nodes_file id) format.node_label

-- the file of the indexes stays
pub index_kept : (s t : Records) (target : Target) → KeepsLinks s t (owner_of target) → IsSameFile s t format.index_file
index_kept s t (targets.Node id) keeps = record {
  records = λ i x. keeps.others (key_in format.index_file x) (λ e. omega arith) (λ e. omega arith)
      (not_meta_key format.index_file x format.properties_file refl) (not_meta_key format.index_file x format.strings_file refl)
      (λ e. let f = ap (λ (k : Key). k.file) e in omega arith) i;
  meta = keeps.others (meta_key_of format.index_file) (λ e. omega arith) (λ e. omega arith) (λ e. let f = ap (λ (k : Key). k.id) e in omega arith)
      (λ e. let f = ap (λ (k : Key). k.id) e in omega arith) (λ e. let f = ap (λ (k : Key). k.file) e in omega arith);
}
index_kept s t (targets.Edge id) keeps = record {
  records = λ i x. keeps.others (key_in format.index_file x) (λ e. omega arith) (λ e. omega arith)
      (not_meta_key format.index_file x format.properties_file refl) (not_meta_key format.index_file x format.strings_file refl)
      (λ e. let f = ap (λ (k : Key). k.file) e in omega arith) i;
  meta = keeps.others (meta_key_of format.index_file) (λ e. omega arith) (λ e. omega arith) (λ e. let f = ap (λ (k : Key). k.id) e in omega arith)
      (λ e. let f = ap (λ (k : Key). k.id) e in omega arith) (λ e. let f = ap (λ (k : Key). k.file) e in omega arith);
}

-- so does the label of the node
pub label_kept : (s t : Records) (id : ℕ) → KeepsLinks s t (owner_of (targets.Node id)) → label_at t id ≡ label_at s id
label_kept s t id keeps = keeps.own 4 format.node_label (omega arith) (inl (omega arith))

pub lacked_value : (es : List Property) (key : ℕ) → property_of es key ≡ None → value_in es key ≡ None
lacked_value [] key none = refl
lacked_value (e ∷ es) key none = by (nat_eq e.key key) (λ later. lacked_value es key later) none
  where
    by : (b : Bool) → (property_of es key ≡ None → value_in es key ≡ None) → (if b then Some e else property_of es key) ≡ None
        → cond b (Some e.value) (value_in es key) ≡ None
    by true later is = absurd cc
    by false later is = later is

-- A property that was added to a node gave it one value.
pub added_value : (s t : State) (id key : ℕ) (value : Value) (owned : IsOwner (owner_of (targets.Node id))) (has : HasKey s (owner_of (targets.Node id)) key)
    → maps.get (properties_of s (owner_of (targets.Node id))) (text_at s key) ≡ None
    → SetsAlone s t (owner_of (targets.Node id)) (listed_at s (owner_of (targets.Node id)) owned has.element) key value 0
    → ChangesValue s.records t.records (label_at s.records id) key id None (Some value)
added_value s t id key value owned has none sets =
    subst (λ (o : Option Value). ChangesValue s.records t.records (label_at s.records id) key id o (Some value))
    (lacked_value (listed_at s (owner_of (targets.Node id)) owned has.element) key (lacks_key s (owner_of (targets.Node id)) owned has.element key none))
    (sets_value s t (owner_of (targets.Node id)) (listed_at s (owner_of (targets.Node id)) owned has.element) key refl has.element.store value 0 sets)

-- ---- the loop's invariant
pub record IsPutting (tells onward : Type 0) (s t : State) (before now : ℕ) (owner : Owner) (pairs : List Pair) (assigned : List Assignment) (i : ℕ) : Type 0
  where
    pub put : tells → (names : List (List ℕ)) (target : Target) → owner ≡ owner_of target → CanPut s names target pairs assigned
        → PutsPairs s t names target (take i (pairs_of names pairs assigned))
    pub values : tells → (names : List (List ℕ)) (id : ℕ) → owner ≡ owner_of (targets.Node id) → CanPut s names (targets.Node id) pairs assigned
        → (e : Entry) → wanted_in t.records e ≡ with_assigned (wanted_in s.records) (label_at s.records id) id pairs (take i assigned) e
    pub indexes : tells → (names : List (List ℕ)) (id : ℕ) → owner ≡ owner_of (targets.Edge id) → CanPut s names (targets.Edge id) pairs assigned
        → KeepsIndexes s t
    pub shape : tells → t.shape ≡ s.shape
    pub harmless : tells → HarmsNoLists s t
    pub beside : tells → LeavesIndexes s t
    pub leaves : tells → LeavesElement s t owner
    pub writes : WritesBeside owner.key (i + assigned_blocks pairs (take i assigned)) s t
    pub onward_is : onward
    pub later : before ≤ now
