-- Values that are set for keys of elements, and taken away.
use Rattle.std.specs.FinMap as maps
use Rattle.std.specs.FinMap.{get-remove, same_map, slice_cmp-IsAntisymmetric, nat_cmp-IsAntisymmetric}
use Rattle.std.specs.Cmp.Lexicographic.{nat_list_cmp_total}
use Rattle.std.specs.Ordering.{eq_by_cmp}
use Rattle.std.specs.Prelude.{Contains, slice_get}
use Rattle.std.proofs.Common.{◌≡◌, ◌≢◌, ◌⊎◌, ℕ, ◌+◌, ◌-◌, ◌/◌, ◌<◌, ◌≤◌, nat_le, Bool, true, false, cond, Some, None, List, [], ◌∷◌, length, sym, ap, ◌∙◌}
use Rattle.std.proofs.Common.{subst, inl, inr, ⊎_elim, arith, refl}
use Rattle.std.proofs.lemmas.Option.{slice_get_within}
use Rattle.plain_graph.proofs.PropertyLaws.{order, same_key}
use Rattle.plain_graph.specs.Graph.{Graph, UsesName, UsesNames, block_count, has_element, properties_at, property_count, with_value, without_value}
use Rattle.plain_graph.specs.Forms.{IsKept}
use Rattle.plain_graph.specs.Properties.{Properties, blocks_at, blocks_if, blocks_of}
use Rattle.plain_graph.specs.Refusals.{FirstReason, NoReason, change_reasons, index_full, most_names, names_full, no_edge, no_node, properties_full}
use Rattle.plain_graph.specs.Refusals.{too_many_properties}
use Rattle.plain_graph.specs.Reply.{Done}
use Rattle.plain_graph.specs.declared.command.Command.TheVariants as commands
use Rattle.plain_graph.specs.declared.command.Target.{Target}
use Rattle.plain_graph.specs.declared.command.Target.TheVariants as targets
use Rattle.plain_graph.specs.declared.refusal.Refusal.{Refusal}
use Rattle.plain_graph.specs.declared.refusal.Refusal.TheVariants as refusals
use Rattle.plain_graph.specs.declared.value.Value.{Value}
use Rattle.plain_graph.specs.declared.value.Value.TheVariants as values
use Rattle.prop_store.specs.Changing.{HasElement, HasKey, IsSetRefusal, RemovesValue, SetsValue, UnsetsValue, blocks_with, properties_of, properties_with}
use Rattle.prop_store.specs.Changing.{set_properties, target_of, text_at}
use Rattle.prop_store.specs.declared.owner.Owner.{Owner}
use Rattle.prop_store.specs.declared.set_fault.SetFault.{SetFault}
use Rattle.prop_store.specs.declared.set_fault.SetFault.TheVariants as sets
use Rattle.rec_bytes.specs.declared.shape.Shape.{Shape}
use Rattle.rec_bytes.specs.Format as format
use Rattle.rec_bytes.specs.Space.{SameButReads, State}
use Rattle.store_rules.specs.Graph.{graph_in, names_of}
use Rattle.store_rules.specs.Properties.{AreProperties, Property, map_of, property_records}
use Rattle.store_rules.specs.PropertyChange.{property_from}
use Rattle.store_rules.specs.Views.{high, kind_at, rec_at}
use Rattle.store_rules.proofs.ElementProperties.{graph_kept, properties_at-is}
use Rattle.store_rules.proofs.PropertyCounts.{block_count-limit, property_count-limit}
use Rattle.store_rules.proofs.PropertyLists.{key_known, listed, owner_in-used, properties_right}
use Rattle.store_rules.proofs.PropertyMaps.{LackKey}
use Rattle.store_rules.proofs.PropertySteps.{value_lacked}
use Rattle.name_store.specs.Interning.{IsFullFault}
use Rattle.name_store.specs.declared.intern_fault.InternFault.{InternFault}
use Rattle.name_store.specs.declared.intern_fault.InternFault.TheVariants as intern
use Rattle.name_store.proofs.FirstNames.{contains_at, first-names_of, length-names_of}
use Rattle.change_parts.specs.Change.{IsRefusal, MakesChange}
use Rattle.change_parts.specs.ChangeFault.{of_intern, of_set}
use Rattle.change_parts.specs.Owners.{IsMissing, owner_of}
use Rattle.change_parts.specs.Preparing.{line_reasons}
use Rattle.change_parts.specs.Store.{IsMidway, IsStore, KeepsElements}
use Rattle.change_parts.specs.declared.change_fault.ChangeFault.{ChangeFault}
use Rattle.change_parts.specs.declared.change_fault.ChangeFault.TheVariants.{NoNode, NoEdge, HasRelationships, IndexThere, TooManyIndexes, IndexTooLarge, Full}
use Rattle.change_parts.specs.declared.change_fault.ChangeFault.TheVariants.{NamesFull, PropsFull, Memory, Disk, Damaged}
use Rattle.change_parts.proofs.LineNames.{first_lacks, needs_names, uses_once}
use Rattle.change_parts.proofs.Elements.{element_used, has_owner}
use Rattle.change_parts.proofs.KeptIndexes.{whole_read}
use Rattle.change_parts.proofs.Reasons.{None as Never, index_reasons}
use Rattle.node_changes.proofs.ValueWeights.{lacked_weighs}
use Rattle.plain_graph.proofs.LineLaws.{first_after, first_front, none_both}
use Rattle.plain_graph.specs.Indexes.{element_weight}
use Rattle.plain_graph.specs.Values.{is_text}

-- ---- a value takes 22 blocks at most
pub few_blocks : (value : Value) → IsKept value → blocks_of value ≤ 22
few_blocks (values.Int number) kept = omega arith
few_blocks (values.Bool truth) kept = omega arith
few_blocks (values.Text text) kept = by (nat_le (length text) 40)
  where
    by : (b : Bool) → cond b 0 ((length text + 47) / 48) ≤ 22
    by true = omega arith
    by false = omega arith

-- ---- the owner that an element is
pub target_is : (target : Target) → target_of (owner_of target) ≡ target
target_is (targets.Node id) = refl
target_is (targets.Edge id) = refl

owner_file : (target : Target) → ((owner_of target).key.file ≡ format.nodes_file) ⊎ ((owner_of target).key.file ≡ format.relationships_file)
owner_file (targets.Node id) = inl refl
owner_file (targets.Edge id) = inr refl

-- a name that has a number is that of the key
module _ (s : State) (names : List (List ℕ)) (number : ℕ) (key : List ℕ) (store : IsMidway s names) (at : slice_get names number ≡ Some key) where
  pub number_low : number < high s.records format.names_file
  number_low =
      let lt = slice_get_within names number key at in
      let long = ap length store.names ∙ length-names_of s.records in
      omega arith

  pub number_text : text_at s number ≡ key
  number_text = some (text_at s number) key (sym (first-names_of s.records number number_low) ∙ ap (λ l. slice_get l number) (sym store.names) ∙ at)
    where
      some : (a b : List ℕ) → Some a ≡ Some b → a ≡ b
      some a b e = cc

-- ---- no reason, and the first one
pub unset_free : (limit : ℕ) (graph : Graph) (target : Target) (key : List ℕ) → has_element graph target ≡ true
    → NoReason change_reasons limit graph (commands.Unset target key)
unset_free limit graph (targets.Node id) key there = (
  λ o z. z,
  (
    λ o z. z,
    (
      λ o z. z,
      (
        λ o z. z,
        (
          λ o z. clash (sym there ∙ z.0),
          (λ o z. z, (λ o z. z, (λ o z. z, (λ o z. z, (λ o z. z, (λ o z. z, (λ o z. z, (λ o z. z, (λ o z. z, (λ o z. z, (λ o z. z, tt))))))))))),
        ),
      ),
    ),
  ),
)
  where
    clash : true ≡ false → ⊥
    clash e = cc
unset_free limit graph (targets.Edge id) key there = (
  λ o z. z,
  (
    λ o z. z,
    (
      λ o z. z,
      (
        λ o z. z,
        (
          λ o z. z,
          (
            λ o z. clash (sym there ∙ z.0),
            (λ o z. z, (λ o z. z, (λ o z. z, (λ o z. z, (λ o z. z, (λ o z. z, (λ o z. z, (λ o z. z, (λ o z. z, (λ o z. z, tt)))))))))),
          ),
        ),
      ),
    ),
  ),
)
  where
    clash : true ≡ false → ⊥
    clash e = cc

pub unset_missing : (limit : ℕ) (graph : Graph) (target : Target) (key : List ℕ) (fault : ChangeFault) → IsMissing graph target fault
    → IsRefusal limit graph (commands.Unset target key) fault
unset_missing limit graph target key (NoNode id) h =
    subst (λ t. IsRefusal limit graph (commands.Unset t key) (NoNode id)) (sym h.0)
    (inr (λ o z. z, inr (λ o z. z, inr (λ o z. z, inr (λ o z. z, inl (h.1, refl))))))
unset_missing limit graph target key (NoEdge id) h =
    subst (λ t. IsRefusal limit graph (commands.Unset t key) (NoEdge id)) (sym h.0)
    (inr (λ o z. z, inr (λ o z. z, inr (λ o z. z, inr (λ o z. z, inr (λ o z. z, inl (h.1, refl)))))))
unset_missing limit graph target key (HasRelationships id degree) h = absurd h
unset_missing limit graph target key IndexThere h = absurd h
unset_missing limit graph target key TooManyIndexes h = absurd h
unset_missing limit graph target key (IndexTooLarge count) h = absurd h
unset_missing limit graph target key (Full file live) h = absurd h
unset_missing limit graph target key (NamesFull count) h = absurd h
unset_missing limit graph target key (PropsFull count) h = absurd h
unset_missing limit graph target key Memory h = absurd h
unset_missing limit graph target key Disk h = tt
unset_missing limit graph target key (Damaged damage) h = absurd h

-- ---- a key without a value
remove_none : (m : Properties) (key : List ℕ) → maps.get m key ≡ None → maps.remove m key ≡ m
remove_none m key none = same_map nat_list_cmp_total (λ x y e. slice_cmp-IsAntisymmetric nat_cmp-IsAntisymmetric x y e) (maps.remove m key) m
    (λ q. get-remove nat_list_cmp_total m key q ∙ by q (eq_by_cmp order q key) refl)
  where
    by : (q : List ℕ) (b : Bool) → eq_by_cmp order q key ≡ b → cond b None (maps.get m q) ≡ maps.get m q
    by q true e = sym (ap (maps.get m) (same_key q key e) ∙ none)
    by q false e = refl

module _ (s : State) (names : List (List ℕ)) (target : Target) (key : List ℕ) (store : IsMidway s names) (there : has_element (graph_in s) target ≡ true) where
  abbrev element_file : ℕ
  element_file = (owner_of target).key.file

  abbrev element_id : ℕ
  element_id = (owner_of target).key.id

  used : kind_at s.records element_file element_id ≢ format.free_kind
  used = element_used s target there

  es : List Property
  es = listed s.records s.shape store.store element_file element_id

  are : AreProperties (property_records s.records) (property_from s.records element_file element_id) es
  unfolding es
  are = properties_right s.records s.shape store.store element_file element_id (property_from s.records element_file element_id)
      (owner_in-used s.records element_file element_id (owner_file target) used)

  -- what is no name is no key
  lacks_key : ¬ Contains names key → LackKey (rec_at s.records format.names_file) es key
  lacks_key lacks k i e =
      let low = key_known s.records s.shape store.store element_file element_id (property_from s.records element_file element_id) es
      (owner_in-used s.records element_file element_id (owner_file target) used) are k i in
      lacks (subst (λ l. Contains l key) (sym store.names) (contains_at (names_of s.records) k key (first-names_of s.records k low ∙ ap Some e)))

  pub unnamed_none : ¬ Contains names key → maps.get (properties_at (graph_in s) target) key ≡ None
  unnamed_none lacks =
      ap (λ t. maps.get (properties_at (graph_in s) t) key) (sym (target_is target))
      ∙ value_lacked s.records s.shape store.store element_file element_id (owner_file target) used es key are (lacks_key lacks)

  nothing_gone : maps.get (properties_at (graph_in s) target) key ≡ None → without_value (graph_in s) target key ≡ graph_in s
  nothing_gone none =
      let is : properties_at (graph_in s) target ≡ map_of (rec_at s.records format.names_file) es = ap (properties_at (graph_in s)) (sym (target_is target))
      ∙ properties_at-is s.records element_file element_id es (owner_file target) used are in
      ap (λ t. without_value (graph_in s) t key) (sym (target_is target))
      ∙ graph_kept s.records element_file element_id es (owner_file target) used are (λ properties. maps.remove properties key)
      (remove_none (map_of (rec_at s.records format.names_file) es) key (sym (ap (λ m. maps.get m key) is) ∙ none))

  -- a key that it hasn't has no entry in an index
  unset_weighs : maps.get (properties_at (graph_in s) target) key ≡ None
      → element_weight (graph_in s) target (is_text key) (maps.remove (properties_at (graph_in s) target) key) ≡ 0
  unset_weighs none =
      let properties = properties_at (graph_in s) target in
      lacked_weighs (graph_in s) key (maps.remove properties key) (ap (λ m. maps.get m key) (remove_none properties key none) ∙ none) target none

  -- nothing changes where the element hasn't the key
  pub unset_nothing : (u : State) → IsStore s names → SameButReads s u → maps.get (properties_at (graph_in s) target) key ≡ None
      → MakesChange (commands.Unset target key) Done 2 s u names
  unset_nothing u whole same none = record {
    store = whole_read s u names same whole;
    changes = (
      refl,
      let gone = nothing_gone none in let graph : graph_in u ≡ graph_in s = ap graph_in same in record {
        there = there;
        nodes = ap (λ (z : Graph). z.nodes) (graph ∙ sym gone);
        edges = ap (λ (z : Graph). z.edges) (graph ∙ sym gone);
        names = ap (λ (z : Graph). z.names) graph;
        indexes = ap (λ (z : Graph). z.indexes) graph;
      },
    );
    weighs = let e = ap blocks_if none in let w = unset_weighs none in omega arith;
    free = unset_free s.shape.limit (graph_in s) target key there;
  }

  without_indexes : (t : Target) → (without_value (graph_in s) t key).indexes ≡ (graph_in s).indexes
  without_indexes (targets.Node x) = refl
  without_indexes (targets.Edge x) = refl

  without_names : (t : Target) → (without_value (graph_in s) t key).names ≡ (graph_in s).names
  without_names (targets.Node x) = refl
  without_names (targets.Edge x) = refl

  -- the value is gone
  pub unset_value : (u v : State) (owner : Owner) (number released entries : ℕ) → owner ≡ owner_of target → slice_get names number ≡ Some key
      → RemovesValue s u owner number released
      → IsStore v names → graph_in v ≡ graph_in u → element_weight (graph_in s) target (is_text key)
      (maps.remove (properties_at (graph_in s) target) key) ≡ entries
      → MakesChange (commands.Unset target key) Done (2 + released + entries) s v names
  unset_value u v owner number released entries is at h whole last w =
      let text = number_text s names number key store at in
      let whose : target_of owner ≡ target = ap target_of is ∙ target_is target in
      let graph : graph_in v ≡ without_value (graph_in s) target key = last ∙ h.graph ∙ ap (λ t. without_value (graph_in s) t (text_at s number)) whose
      ∙ ap (without_value (graph_in s) target) text in
      record {
        store = whole;
        changes = (
          refl,
          record {
            there = there;
            nodes = ap (λ (z : Graph). z.nodes) graph;
            edges = ap (λ (z : Graph). z.edges) graph;
            names = ap (λ (z : Graph). z.names) graph ∙ without_names target;
            indexes = ap (λ (z : Graph). z.indexes) graph ∙ without_indexes target;
          },
        );
        weighs = let e = h.released_is ∙ ap (λ t. blocks_if (maps.get (properties_at (graph_in s) t) (text_at s number))) whose
            ∙ ap (λ k. blocks_if (maps.get (properties_at (graph_in s) target) k)) text in omega arith;
        free = unset_free s.shape.limit (graph_in s) target key there;
      }

  -- the key was a name, and the element hadn't it
  pub unset_absent : (u : State) (owner : Owner) (number : ℕ) → IsStore s names → owner ≡ owner_of target → slice_get names number ≡ Some key
      → UnsetsValue s u owner number None
      → MakesChange (commands.Unset target key) Done 2 s u names
  unset_absent u owner number whole is at h =
      let text = number_text s names number key store at in
      let whose : target_of owner ≡ target = ap target_of is ∙ target_is target in
      unset_nothing u whole h.1 (sym (ap (λ t. maps.get (properties_at (graph_in s) t) (text_at s number)) whose ∙ ap
      (maps.get (properties_at (graph_in s) target)) text) ∙ h.0)

  -- the key is known of the element
  pub has_key : (owner : Owner) (number : ℕ) → owner ≡ owner_of target → slice_get names number ≡ Some key → HasKey s owner number
  has_key owner number is at = record {
    element = subst (HasElement s) (sym is) (has_owner s names target store there);
    known = number_low s names number key
        store at;
  }

-- ---- reasons against a value

-- the element that is there gives none
set_there : (limit : ℕ) (graph : Graph) (target : Target) (key : List ℕ) (value : Value) → has_element graph target ≡ true
    → ((o : Refusal) → ¬ no_node limit graph (commands.Set target key value) o) × ((o : Refusal) → ¬ no_edge limit graph (commands.Set target key value) o)
set_there limit graph (targets.Node id) key value there = (λ o z. clash (sym there ∙ z.0), λ o z. z)
  where
    clash : true ≡ false → ⊥
    clash e = cc
set_there limit graph (targets.Edge id) key value there = (λ o z. z, λ o z. clash (sym there ∙ z.0))
  where
    clash : true ≡ false → ⊥
    clash e = cc

set_first : (limit : ℕ) (graph : Graph) (target : Target) (key : List ℕ) (value : Value) (why : Refusal) → has_element graph target ≡ true
    → FirstReason line_reasons limit graph (commands.Set target key value) why
    → FirstReason change_reasons limit graph (commands.Set target key value) why
set_first limit graph target key value why there first =
    let k = set_there limit graph target key value there in inr (
      λ o z. z,
      inr (
        λ o z. z,
        inr (
          λ o z. z,
          inr (
            λ o z. z,
            inr (
              k.0,
              inr (
                k.1,
                inr (
                  λ o z. z,
                  inr (
                    λ o z. z,
                    inr (
                      λ o z. z,
                      inr (
                        λ o z. z,
                        first_front line_reasons index_reasons limit graph
                            (commands.Set target key value) why first,
                      ),
                    ),
                  ),
                ),
              ),
            ),
          ),
        ),
      ),
    )

-- the indexes have no room
set_full : (limit : ℕ) (graph : Graph) (target : Target) (key : List ℕ) (value : Value) → has_element graph target ≡ true
    → NoReason line_reasons limit graph (commands.Set target key value)
    → index_full limit graph (commands.Set target key value) refusals.FullIndex
    → FirstReason change_reasons limit graph (commands.Set target key value) refusals.FullIndex
set_full limit graph target key value there free full =
    let k = set_there limit graph target key value there in
    inr (
      λ o z. z,
      inr (
        λ o z. z,
        inr (
          λ o z. z,
          inr (
            λ o z. z,
            inr (
              k.0,
              inr (
                k.1,
                inr (
                  λ o z. z,
                  inr (
                    λ o z. z,
                    inr (
                      λ o z. z,
                      inr (
                        λ o z. z,
                        first_after line_reasons index_reasons limit graph (commands.Set target key value)
                            refusals.FullIndex free (inr (λ o z. z, inl full)),
                      ),
                    ),
                  ),
                ),
              ),
            ),
          ),
        ),
      ),
    )

set_free : (limit : ℕ) (graph : Graph) (target : Target) (key : List ℕ) (value : Value) → has_element graph target ≡ true
    → Never (index_full limit graph (commands.Set target key value)) → NoReason line_reasons limit graph (commands.Set target key value)
    → NoReason change_reasons limit graph (commands.Set target key value)
set_free limit graph target key value there fits free =
    let k = set_there limit graph target key value there in (
      λ o z. z,
      (
        λ o z. z,
        (
          λ o z. z,
          (
            λ o z. z,
            (
              k.0,
              (
                k.1,
                (
                  λ o z. z,
                  (
                    λ o z. z,
                    (
                      λ o z. z,
                      (
                        λ o z. z,
                        none_both line_reasons index_reasons limit graph (commands.Set target key value) free
                            (λ o z. z, (fits, tt)),
                      ),
                    ),
                  ),
                ),
              ),
            ),
          ),
        ),
      ),
    )

pub set_missing : (limit : ℕ) (graph : Graph) (target : Target) (key : List ℕ) (value : Value) (fault : ChangeFault) → IsMissing graph target fault
    → IsRefusal limit graph (commands.Set target key value) fault
set_missing limit graph target key value (NoNode id) h =
    subst (λ t. IsRefusal limit graph (commands.Set t key value) (NoNode id)) (sym h.0)
    (inr (λ o z. z, inr (λ o z. z, inr (λ o z. z, inr (λ o z. z, inl (h.1, refl))))))
set_missing limit graph target key value (NoEdge id) h =
    subst (λ t. IsRefusal limit graph (commands.Set t key value) (NoEdge id)) (sym h.0)
    (inr (λ o z. z, inr (λ o z. z, inr (λ o z. z, inr (λ o z. z, inr (λ o z. z, inl (h.1, refl)))))))
set_missing limit graph target key value (HasRelationships id degree) h = absurd h
set_missing limit graph target key value IndexThere h = absurd h
set_missing limit graph target key value TooManyIndexes h = absurd h
set_missing limit graph target key value (IndexTooLarge count) h = absurd h
set_missing limit graph target key value (Full file live) h = absurd h
set_missing limit graph target key value (NamesFull count) h = absurd h
set_missing limit graph target key value (PropsFull count) h = absurd h
set_missing limit graph target key value Memory h = absurd h
set_missing limit graph target key value Disk h = tt
set_missing limit graph target key value (Damaged damage) h = absurd h

-- ---- elements don't know the names of the graph
has_renamed : (g : Graph) (names : List (List ℕ)) (target : Target) → has_element (record g { names = names }) target ≡ has_element g target
has_renamed g names (targets.Node id) = refl
has_renamed g names (targets.Edge id) = refl

properties_renamed : (g : Graph) (names : List (List ℕ)) (target : Target) → properties_at (record g { names = names }) target ≡ properties_at g target
properties_renamed g names (targets.Node id) = refl
properties_renamed g names (targets.Edge id) = refl

value_renamed : (g : Graph) (names : List (List ℕ)) (target : Target) (key : List ℕ) (value : Value)
    → with_value (record g { names = names }) target key value ≡ record (with_value g target key value) { names = names }
value_renamed g names (targets.Node id) key value = refl
value_renamed g names (targets.Edge id) key value = refl

-- ---- a value that is set
module _ (s : State) (old : List (List ℕ)) (target : Target) (key : List ℕ) (value : Value) (store : IsMidway s old)
    (there : has_element (graph_in s) target ≡ true) where
  -- a key that is one name too many
  pub set_unnamed : (fault : InternFault) → IsFullFault old key fault → IsRefusal s.shape.limit (graph_in s) (commands.Set target key value) (of_intern fault)
  set_unnamed (intern.NamesFull count) why =
      let lacks = first_lacks old key [] why.all why.new in
      set_first s.shape.limit (graph_in s) target key value refusals.FullNames there
      (inl (lacks.0, subst (λ l. UsesNames l (key ∷ []) lacks.0) store.names lacks.1, lacks.2, refl))
  set_unnamed intern.Memory why = tt
  set_unnamed intern.Disk why = tt

  -- the key has its number
  module _ (t : State) (new : List (List ℕ)) (number : ℕ) (owner : Owner) (is : owner ≡ owner_of target) (uses : UsesName old key new)
      (kept : KeepsElements s t new) (few : length new ≤ most_names)
      (at : slice_get new number ≡ Some key) where
    graph_same : graph_in t ≡ record (graph_in s) { names = (graph_in t).names }
    graph_same = λ i. record { nodes = kept.nodes i; edges = kept.edges i; names = (graph_in t).names; indexes = kept.indexes i }

    text : text_at t number ≡ key
    text = number_text t new number key kept.store at

    whose : target_of owner ≡ target
    whose = ap target_of is ∙ target_is target

    properties_same : properties_at (graph_in t) target ≡ properties_at (graph_in s) target
    properties_same = ap (λ g. properties_at g target) graph_same ∙ properties_renamed (graph_in s) (graph_in t).names target

    there_still : has_element (graph_in t) target ≡ true
    there_still = ap (λ g. has_element g target) graph_same ∙ has_renamed (graph_in s) (graph_in t).names target ∙ there

    pub set_known : HasKey t owner number
    set_known = record {
      element = subst (HasElement t) (sym is) (has_owner t new target kept.store there_still);
      known = number_low t new number key kept.store
          at;
    }

    properties_are : properties_of t owner ≡ properties_at (graph_in s) target
    properties_are = ap (properties_at (graph_in t)) whose ∙ properties_same

    -- the element's properties, and the graph, with the value
    element_with : set_properties t owner number value ≡ maps.insert (properties_at (graph_in s) target) key value
    element_with = ap (λ m. maps.insert m (text_at t number) value) properties_are ∙ ap (λ k. maps.insert (properties_at (graph_in s) target) k value) text

    graph_with : with_value (graph_in t) (target_of owner) (text_at t number) value ≡ record (with_value (graph_in s) target key value)
        { names = (graph_in t).names }
    graph_with =
        ap (λ z. with_value (graph_in t) z (text_at t number) value) whose ∙ ap (λ k. with_value (graph_in t) target k value) text
        ∙ ap (λ g. with_value g target key value) graph_same ∙ value_renamed (graph_in s) (graph_in t).names target key value

    names_used : UsesNames (graph_in s).names (key ∷ []) new
    names_used = subst (λ l. UsesNames l (key ∷ []) new) store.names (new, uses, refl)

    names_free : (o : Refusal) → ¬ names_full s.shape.limit (graph_in s) (commands.Set target key value) o
    names_free o z = let e = ap length (uses_once (graph_in s).names (key ∷ []) z.0 new z.1 names_used) in let more = z.2 in absurd (omega arith)

    few_free : maps.len (set_properties t owner number value) ≤ 32 → (o : Refusal)
        → ¬ too_many_properties s.shape.limit (graph_in s) (commands.Set target key value) o
    few_free fits o z = let e = ap maps.len element_with in let more = z.0 in absurd (omega arith)

    -- there is no room for the value
    pub set_refused : (fault : SetFault) → IsSetRefusal t owner number value fault
        → IsRefusal s.shape.limit (graph_in s) (commands.Set target key value) (of_set fault)
    set_refused (sets.PropsFull count) h =
        set_first s.shape.limit (graph_in s) target key value refusals.TooManyProperties there
        (inr (names_free, inl (let e = ap maps.len element_with in let more = h.1 in omega arith, refl)))
    set_refused (sets.Full file live) h = ⊎_elim
        (λ (k : (file ≡ format.properties_file) × (t.shape.limit < properties_with t owner number value)). subst (λ f. IsRefusal s.shape.limit (graph_in s)
        (commands.Set target key value) (Full f live)) (sym k.0) (
          λ e. omega arith,
          set_first s.shape.limit (graph_in s) target key value refusals.FullProperties there
              (inr (
                names_free,
                inr (
                  few_free h.0,
                  inl (
                    subst (λ n. n < property_count (with_value (graph_in s) target key value)) limit_same
                        (subst (λ n. t.shape.limit < n) (ap property_count graph_with) k.1),
                    refl,
                  ),
                ),
              )),
        ))
        (λ (k : (file ≡ format.strings_file) × (properties_with t owner number value ≤ t.shape.limit) × (t.shape.limit < blocks_with t owner number value)).
        subst (λ f. IsRefusal s.shape.limit (graph_in s) (commands.Set target key value) (Full f live)) (sym k.0) (
          λ e. omega arith,
          set_first s.shape.limit (graph_in s) target key value refusals.FullStrings there
              (inr (
                names_free,
                inr (
                  few_free h.0,
                  inr (
                    room_free k.1,
                    inl (
                      subst (λ n. n < block_count (with_value (graph_in s) target key value)) limit_same
                          (subst (λ n. t.shape.limit < n) (ap block_count graph_with) k.2),
                      refl,
                    ),
                  ),
                ),
              )),
        ))
        h.1
      where
        limit_same : t.shape.limit ≡ s.shape.limit
        limit_same = ap (λ (z : Shape). z.limit) kept.shape

        room_free : properties_with t owner number value ≤ t.shape.limit → (o : Refusal)
            → ¬ properties_full s.shape.limit (graph_in s) (commands.Set target key value) o
        room_free fits o z = let e = ap property_count graph_with in let l = limit_same in let more = z.0 in absurd (omega arith)
    set_refused sets.Memory h = tt
    set_refused sets.Disk h = tt
    set_refused (sets.Damaged damage) h = absurd h

    with_indexes : (x : Target) → (with_value (graph_in s) x key value).indexes ≡ (graph_in s).indexes
    with_indexes (targets.Node id) = refl
    with_indexes (targets.Edge id) = refl

    -- the value stands at the key
    -- there is no room for its entry
    pub entry_refused : (u : State) (released : ℕ) → SetsValue t u owner number value released → u.shape ≡ t.shape
        → index_full s.shape.limit (graph_in s) (commands.Set target key value) refusals.FullIndex
        → (live : ℕ) → IsRefusal s.shape.limit (graph_in s) (commands.Set target key value) (Full format.index_file live)
    entry_refused u released h shape full live =
        let put : graph_in u ≡ record (with_value (graph_in s) target key value) { names = (graph_in t).names } = h.graph ∙ graph_with in
        let limit : u.shape.limit ≡ s.shape.limit = ap (λ (z : Shape). z.limit) (shape ∙ kept.shape) in
        let properties = property_count-limit u.records u.shape h.changes.store in
        let blocks = block_count-limit u.records u.shape h.changes.store in (
          λ e. omega arith,
          set_full s.shape.limit (graph_in s) target key value there (
            names_free,
            (
              few_free h.few,
              (
                λ o z. let e = ap property_count put in let more = z.0 in absurd (omega arith),
                (λ o z. let e = ap block_count put in let more = z.0 in absurd (omega arith), tt),
              ),
            ),
          ) full,
        )

    pub set_value : (u v : State) (released entries weight : ℕ) → SetsValue t u owner number value released → u.shape ≡ t.shape
        → weight ≡ 2 + blocks_of value + released + (length new - length old) + entries
        → IsStore v new → graph_in v ≡ graph_in u → element_weight (graph_in s) target (is_text key)
        (maps.insert (properties_at (graph_in s) target) key value) ≡ entries
        → (graph_in v ≡ record (with_value (graph_in s) target key value) { names = (graph_in t).names } → Never (index_full s.shape.limit (graph_in s)
        (commands.Set target key value))) → MakesChange (commands.Set target key value) Done weight s v new
    set_value u v released entries weight h shape weighs whole last w fits =
        let put : graph_in u ≡ record (with_value (graph_in s) target key value) { names = (graph_in t).names } = h.graph ∙ graph_with in
        let graph : graph_in v ≡ record (with_value (graph_in s) target key value) { names = (graph_in t).names } = last ∙ put in
        let names : (graph_in v).names ≡ new = ap (λ (z : Graph). z.names) graph ∙ sym kept.store.names in
        let limit : u.shape.limit ≡ s.shape.limit = ap (λ (z : Shape). z.limit) (shape ∙ kept.shape) in
        let properties = property_count-limit u.records u.shape h.changes.store in
        let blocks = block_count-limit u.records u.shape h.changes.store in
        record {
          store = whole;
          changes = (
            refl,
            record {
              there = there;
              nodes = ap (λ (z : Graph). z.nodes) graph;
              edges = ap (λ (z : Graph). z.edges) graph;
              names = subst (UsesName (graph_in s).names key) (sym names) (subst (λ l. UsesName l key new) store.names uses);
              indexes = ap (λ (z : Graph). z.indexes) graph ∙ with_indexes target;
            },
          );
          weighs = (
            length new - length (graph_in s).names,
            needs_names (graph_in s).names (key ∷ []) new names_used,
            let all = weighs ∙ ap (λ n. 2 + blocks_of value + n + (length new - length old) + entries)
                (h.released_is ∙ ap (λ m. blocks_at m (text_at t number)) properties_are ∙ ap (blocks_at (properties_at (graph_in s) target)) text)
                ∙ ap (λ (l : List (List ℕ)). 2 + blocks_of value + blocks_at (properties_at (graph_in s) target) key + (length new - length l) + entries)
                store.names in
                omega arith,
          );
          free = set_free s.shape.limit (graph_in s) target key value there (fits graph) (
            names_free,
            (
              few_free h.few,
              (
                λ o z. let e = ap property_count put in let more = z.0 in absurd (omega arith),
                (λ o z. let e = ap block_count put in let more = z.0 in absurd (omega arith), tt),
              ),
            ),
          );
        }
