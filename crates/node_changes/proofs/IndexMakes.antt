-- An index that is made is the graph's new one, and why none is made is why the graph has none.
use Rattle.std.specs.Option.{option_map}
use Rattle.std.specs.Prelude.{Contains, is_some, slice_get}
use Rattle.std.specs.List.{filter, list_any, sum_by}
use Rattle.std.proofs.Common.{◌≡◌, ◌≢◌, ⊎_elim, inl, inr, ℕ, ◌+◌, ◌-◌, ◌<◌, ◌≤◌, Bool, true, false, ◌&&◌, Option, None}
use Rattle.std.proofs.Common.{Some, List, [], ◌∷◌, length, ap, sym, ◌∙◌, subst, arith, refl}
use Rattle.std.proofs.lemmas.Bool.{cases_lt, false≢true}
use Rattle.plain_graph.specs.Changes.{Changes, Weighs}
use Rattle.plain_graph.specs.Graph.{Index, Node, UsesName, UsesNames}
use Rattle.plain_graph.specs.Indexes.{has_index, has_key, index_records, indexed_count, is_of, with_index}
use Rattle.plain_graph.specs.Names.{IsShortName}
use Rattle.plain_graph.specs.Refusals.{FirstReason, NoReason, Reason, change_reasons, index_full, index_too_large}
use Rattle.plain_graph.specs.Refusals.{lacks_names, most_names, names_full, no_index, properties_full, strings_full}
use Rattle.plain_graph.specs.Refusals.{too_many_properties}
use Rattle.plain_graph.specs.Reply.{Done}
use Rattle.plain_graph.specs.Values.{is_text}
use Rattle.plain_graph.specs.declared.command.Command.{Command}
use Rattle.plain_graph.specs.declared.command.Command.TheVariants as commands
use Rattle.plain_graph.specs.declared.refusal.Refusal.{Refusal}
use Rattle.plain_graph.specs.declared.refusal.Refusal.TheVariants as refusals
use Rattle.plain_graph.specs.declared.value.Value.{Value}
use Rattle.rec_bytes.specs.Format as format
use Rattle.rec_bytes.specs.RecordFiles.{room_of}
use Rattle.rec_bytes.specs.Space.{SameButReads, State, meta_of}
use Rattle.rec_bytes.specs.declared.shape.Shape.{Shape}
use Rattle.store_rules.specs.Graph.{graph_in, names_of}
use Rattle.store_rules.specs.Hashes.{hash_of}
use Rattle.store_rules.specs.Indexes.{IsIndexed, indexed_key, indexed_label, node_value, wanted_in}
use Rattle.store_rules.specs.Chains.{In}
use Rattle.store_rules.specs.Views.{high, rec_at, text_of}
use Rattle.store_rules.proofs.Counts.{length-collect}
use Rattle.store_rules.proofs.NumberLaws.{eq_true}
use Rattle.name_store.specs.Interning.{IsFullFault, interned}
use Rattle.name_store.specs.declared.intern_fault.InternFault.{InternFault}
use Rattle.name_store.specs.declared.intern_fault.InternFault.TheVariants as intern
use Rattle.name_store.proofs.FirstNames.{length-names_of}
use Rattle.prop_index.specs.Collecting.{content_at, content_of}
use Rattle.prop_index.specs.Defining.{AreNamesOf}
use Rattle.prop_index.specs.Making.{IsMakeRefusal, MakesIndex, count_of}
use Rattle.prop_index.specs.declared.make_fault.MakeFault.{MakeFault}
use Rattle.prop_index.specs.declared.make_fault.MakeFault.TheVariants as makes
use Rattle.change_parts.specs.Assigning.{LacksNames}
use Rattle.change_parts.specs.Change.{IsRefusal, IsRefusedBy, MakesChange}
use Rattle.change_parts.specs.ChangeFault.{of_intern, of_make}
use Rattle.node_changes.specs.Indexing.{MayIndex, pair_reasons}
use Rattle.change_parts.specs.declared.change_fault.ChangeFault.{ChangeFault}
use Rattle.change_parts.specs.Store.{IsStore, KeepsElements}
use Rattle.change_parts.proofs.GraphPairs.{defined_among, has_pair, in_any, is_among, is_defined}
use Rattle.node_changes.proofs.IndexBeside.{KeepsBesideIndex, graph_edges_beside, graph_nodes_beside, names_beside}
use Rattle.node_changes.proofs.IndexMade.{index_placed}
use Rattle.node_changes.proofs.IndexNumbers.{number_stays}
use Rattle.node_changes.proofs.IndexRefused.{second_lacks}
use Rattle.node_changes.proofs.IndexTested.{index_count_is, known_index}
use Rattle.change_parts.proofs.Interned.{keeps_interned, keeps_then}
use Rattle.change_parts.proofs.KeptIndexes.{midway, store_now, whole_read}
use Rattle.change_parts.proofs.LineNames.{first_lacks, needs_names, uses_once}
use Rattle.node_changes.proofs.LiveIndexes.{count_passes, live_indexes}
use Rattle.change_parts.proofs.NameNumbers.{number_in}
use Rattle.change_parts.proofs.Reasons.{refused_more}
use Rattle.plain_graph.proofs.LineLaws.{first_front}

-- ---- the reasons of an index

none_of : (other : Refusal) → ⊥ → ⊥
none_of other h = h

-- those after the reasons of the pair
abbrev rest_reasons : List Reason
rest_reasons = names_full ∷ too_many_properties ∷ properties_full ∷ strings_full ∷ index_too_large ∷ index_full ∷ []

-- why the test of the pair refuses is why the change is refused
pub index_refused_pair : (s : State) (label key : List ℕ) (fault : ChangeFault)
    → IsRefusedBy pair_reasons s.shape.limit (graph_in s) (commands.Index label key) fault
    → IsRefusal s.shape.limit (graph_in s) (commands.Index label key) fault
index_refused_pair s label key = refused_more pair_reasons change_reasons s.shape.limit (graph_in s) (commands.Index label key) (commands.Index label key)
    (λ why h.
    inr (
      none_of,
      inr (
        none_of,
        inr (
          none_of,
          inr (
            none_of,
            inr (
              none_of,
              inr (
                none_of,
                inr (
                  none_of,
                  first_front pair_reasons (no_index ∷ rest_reasons)
                      s.shape.limit (graph_in s) (commands.Index label key) why h,
                ),
              ),
            ),
          ),
        ),
      ),
    ))

module _ (s : State) (label key : List ℕ) (may : MayIndex s label key) where
  abbrev command : Command
  command = commands.Index label key

  lacked : has_index (graph_in s) label key ≡ false
  lacked = by (has_index (graph_in s) label key) (λ is. may.0 refusals.IndexThere (is, refl))
    where
      by : (b : Bool) → (b ≡ true → ⊥) → b ≡ false
      by true not = absurd (not refl)
      by false not = refl

  rest_first : (why : Refusal) → FirstReason rest_reasons s.shape.limit (graph_in s) command why
      → FirstReason change_reasons s.shape.limit (graph_in s) command why
  rest_first why h = inr (
    none_of,
    inr
        (none_of, inr (none_of, inr (none_of, inr (none_of, inr (none_of, inr (none_of, inr (may.0, inr (may.1.0, inr (none_of, h))))))))),
  )

  rest_free : NoReason rest_reasons s.shape.limit (graph_in s) command → NoReason change_reasons s.shape.limit (graph_in s) command
  rest_free h = (none_of, (none_of, (none_of, (none_of, (none_of, (none_of, (none_of, (may.0, (may.1.0, (none_of, h))))))))))

  lacks_refused : LacksNames (graph_in s).names (label ∷ key ∷ []) → FirstReason change_reasons s.shape.limit (graph_in s) command refusals.FullNames
  lacks_refused lacks = rest_first refusals.FullNames (inl (lacks.0, lacks.1, lacks.2, refl))

-- ---- names that the store has no room for

module _ (old : State) (names : List (List ℕ)) (label key : List ℕ) (store : IsStore old names) (may : MayIndex old label key) where
  lacking : LacksNames names (label ∷ key ∷ []) → FirstReason change_reasons old.shape.limit (graph_in old) (commands.Index label key) refusals.FullNames
  lacking lacks = lacks_refused old label key may (subst (λ ns. LacksNames ns (label ∷ key ∷ [])) store.names lacks)

  -- The label is one more than there may be.
  pub index_refused_label : (fault : InternFault) → IsFullFault names label fault
      → IsRefusal old.shape.limit (graph_in old) (commands.Index label key) (of_intern fault)
  index_refused_label (intern.NamesFull count) why = lacking (first_lacks names label (key ∷ []) why.all why.new)
  index_refused_label intern.Memory why = tt
  index_refused_label intern.Disk why = tt

  -- So is the key, after the label.
  pub index_refused_key : (first : List (List ℕ)) → UsesName names label first → (fault : InternFault) → IsFullFault first key fault
      → IsRefusal old.shape.limit (graph_in old) (commands.Index label key) (of_intern fault)
  index_refused_key first uses (intern.NamesFull count) why = lacking (second_lacks names first label key uses why.all why.new)
  index_refused_key first uses intern.Memory why = tt
  index_refused_key first uses intern.Disk why = tt

-- ---- the label and the key are names

-- They became names of a space one after the other, and have these numbers.
pub record AreNumbered (s a b : State) (names first last : List (List ℕ)) (label key : List ℕ) (l k : ℕ) : Type 0 where
  pub label_short : IsShortName label
  pub key_short : IsShortName key
  pub label_is : a ≡ interned s names label
  pub key_is : b ≡ interned a first key
  pub label_uses : UsesName names label first
  pub key_uses : UsesName first key last
  pub label_room : ¬ Contains names label → length names ≢ format.most_names
  pub key_room : ¬ Contains first key → length first ≢ format.most_names
  pub label_at : slice_get first l ≡ Some label
  pub key_at : slice_get last k ≡ Some key

some_content : (n : ℕ) (o : Option Value) → is_some (option_map (content_of n) (option_map hash_of o)) ≡ is_some o
some_content n None = refl
some_content n (Some value) = refl

module _ (old s a b : State) (names first last : List (List ℕ)) (label key : List ℕ) (l k : ℕ) (same : SameButReads old s) (store : IsStore old names)
    (given : AreNumbered s a b names first last label key l k) where
  read : IsStore s names
  read = whole_read old s names same store

  kept_label : KeepsElements s a first
  kept_label = keeps_interned s a names first label given.label_is given.label_uses given.label_short given.label_room (midway s names read)

  kept : KeepsElements s b last
  kept = keeps_then s a b first last kept_label (keeps_interned a b first last key given.key_is given.key_uses given.key_short given.key_room kept_label.store)

  pub numbered_store : IsStore b last
  numbered_store = store_now b last kept.store (kept.keeps read.store.indexes)

  label_last : slice_get last l ≡ Some label
  label_last = number_stays first key last l label given.label_at given.key_uses

  abbrev label_in : (l < high b.records format.names_file) × (text_of (rec_at b.records format.names_file l) ≡ label)
  label_in = number_in b.records last l label kept.store.names label_last

  abbrev key_in : (k < high b.records format.names_file) × (text_of (rec_at b.records format.names_file k) ≡ key)
  key_in = number_in b.records last k key kept.store.names given.key_at

  pub numbered_names : AreNamesOf b.records l k
  numbered_names = record { label_low = label_in.0; key_low = key_in.0 }

  uses : UsesNames names (label ∷ key ∷ []) last
  uses = (first, given.label_uses, (last, given.key_uses, refl))

  graph_uses : UsesNames (graph_in s).names (label ∷ key ∷ []) last
  graph_uses = subst (λ ns. UsesNames ns (label ∷ key ∷ []) last) read.names uses

  module _ (was : IsIndexed b.records b.shape) where
    abbrev whole : IsStore b last
    whole = record { store = was; names = kept.store.names }

    few_names : length last ≤ most_names
    few_names = let long = ap length kept.store.names ∙ length-names_of b.records in let most = (was.store.ranges.metas format.names_file refl).high in
        omega arith

    names_free : (other : Refusal) → ¬ lacks_names (graph_in s) (label ∷ key ∷ []) other
    names_free other lacks = let n = ap length (uses_once (graph_in s).names (label ∷ key ∷ []) last lacks.0 graph_uses lacks.1) in let many = lacks.2 in
        let few = few_names in absurd (omega (arith, n, many, few))

    -- as many nodes as the graph has of the label with the key
    counted : count_of b.records l k ≡ indexed_count (graph_in s) label key
    counted =
        length-collect _ (content_at b.records l k) (λ n. is_some (node_value b.records l k n)) (high b.records format.nodes_file)
        (λ n. some_content n (node_value b.records l k n))
        ∙ sym (count_passes b was l k label_in.0 key_in.0)
        ∙ (λ i. length (filter (λ (node : Node). is_text (label_in.1 i) node.label && has_key node.properties (key_in.1 i)) (kept.nodes i)))

    -- the indexes take the records that the graph counts
    records : (meta_of b format.index_file).live ≡ index_records (graph_in s)
    records = live_indexes b was ∙ (λ i. sum_by (λ (index : Index). 13 + length (filter (λ (node : Node). is_text index.label node.label && has_key
        node.properties index.key) (kept.nodes i))) (kept.indexes i))

    limit_same : b.shape.limit ≡ s.shape.limit
    limit_same = ap (λ (h : Shape). h.limit) kept.shape

    module _ (may_old : MayIndex old label key) where
      may : MayIndex s label key
      may = subst (λ (z : State). MayIndex z label key) (sym same) may_old

      none_among : is_among b.records was.indexes.definitions l k ≡ false
      none_among = sym (known_index b last whole label key l k label_last given.key_at) ∙ ap (list_any (is_of label key)) kept.indexes ∙ lacked s label key may

      -- ---- why none is made

      none_there : (d : ℕ) → In d was.indexes.definitions → (indexed_label b.records d ≡ l) × (indexed_key b.records d ≡ k) → ⊥
      none_there d i pair =
          false≢true (sym none_among ∙ in_any (has_pair b.records l k) d was.indexes.definitions i (λ i. eq_true (indexed_label b.records d) l pair.0 i &&
          eq_true (indexed_key b.records d) k pair.1 i))

      few_defined : ¬ (length was.indexes.definitions ≡ 16)
      few_defined many =
          let n = index_count_is b last whole in
          let same_count = ap length kept.indexes in
          may.1.0 refusals.TooManyIndexes (omega (arith, n, many, same_count), refl)

      refused_here : (fault : MakeFault) → IsMakeRefusal b was l k fault → IsRefusal s.shape.limit (graph_in s) (commands.Index label key) (of_make fault)
      refused_here makes.There why = absurd (none_there why.definition why.listed why.pair)
      refused_here makes.Many why = absurd (few_defined why.1)
      refused_here (makes.TooLarge count) why =
          let n = counted in
          let is = why.1 in
          let many = why.2 in
          rest_first s label key may (refusals.IndexTooLarge count)
          (inr (names_free, inr (none_of, inr (none_of, inr (none_of, inl (omega (arith, n, is, many), ap refusals.IndexTooLarge (is ∙ n)))))))
      refused_here (makes.Full live) why =
          let n = counted in
          let few = why.1 in
          let taken = records in
          let room = limit_same in
          let past = ⊎_elim (λ (lt : room_of b.shape format.index_file < (meta_of b format.index_file).live + (13 + count_of b.records l k)). lt)
          (λ (fits : (meta_of b format.index_file).live + (13 + count_of b.records l k) ≤ room_of b.shape format.index_file). absurd (why.3 fits))
          (cases_lt (room_of b.shape format.index_file) ((meta_of b format.index_file).live + (13 + count_of b.records l k))) in (
            λ e. omega arith,
            rest_first s label key may refusals.FullIndex
                (inr (
                  names_free,
                  inr (
                    none_of,
                    inr (
                      none_of,
                      inr (
                        none_of,
                        inr (
                          (λ other large. let lt = large.0 in absurd (omega (arith, n, few, lt))),
                          inl
                              (omega (arith, n, taken, room, past), refl),
                        ),
                      ),
                    ),
                  ),
                )),
          )
      refused_here makes.Memory why = tt
      refused_here makes.Disk why = tt
      refused_here (makes.Damaged damage) why = why

      pub index_refused_make : (fault : MakeFault) → IsMakeRefusal b was l k fault
          → IsRefusal old.shape.limit (graph_in old) (commands.Index label key) (of_make fault)
      index_refused_make fault why = subst (λ (z : State). IsRefusal z.shape.limit (graph_in z) (commands.Index label key) (of_make fault)) same
          (refused_here fault why)

      -- ---- one is made

      module _ (t : State) (count : ℕ) (made : MakesIndex b t l k was count) where
        beside : KeepsBesideIndex b.records t.records
        beside = record { others = λ q file meta. made.written.others q file meta }

        names_now : names_of t.records ≡ last
        names_now = names_beside b.records t.records beside ∙ sym kept.store.names

        fresh : is_defined b.records l k ≡ false
        fresh = defined_among b.records (wanted_in b.records) was.indexes l k ∙ none_among

        placed : (graph_in t).indexes ≡ with_index (graph_in t).names (record { label = label; key = key }) (graph_in s).indexes
        placed =
            index_placed b t l k was made.written label_in.0 key_in.0 fresh
            ∙ (λ i. with_index (sym (names_beside b.records t.records beside) i) (record { label = label_in.1 i; key = key_in.1 i }) (kept.indexes i))

        count_is : count ≡ indexed_count (graph_in s) label key
        count_is = made.count_is ∙ counted

        changes : Changes s.shape.limit (graph_in s) (commands.Index label key) Done (graph_in t)
        changes = (
          refl,
          record {
            fresh = lacked s label key may;
            nodes = graph_nodes_beside b.records t.records beside ∙ kept.nodes;
            edges = graph_edges_beside b.records t.records beside ∙ kept.edges;
            names = subst (UsesNames (graph_in s).names (label ∷ key ∷ [])) (sym names_now) graph_uses;
            indexes = placed;
          },
        )

        free : NoReason change_reasons s.shape.limit (graph_in s) (commands.Index label key)
        free =
            let n = count_is in
            let few = made.few in
            let taken = records in
            let room = made.room in
            let limit = limit_same in
            rest_free s label key may (
              names_free,
              (
                none_of,
                (
                  none_of,
                  (
                    none_of,
                    (
                      (λ other large. let lt = large.0 in absurd (omega (arith, n, few, lt))),
                      ((λ other full. let lt = full.0 in absurd (omega (arith, n, taken, room, limit, lt))), tt),
                    ),
                  ),
                ),
              ),
            )

        weighs : (weight : ℕ) → weight ≡ 13 + (length last - length names) + count → Weighs s.shape.threshold (graph_in s) (commands.Index label key) weight
        weighs weight is = (
          length last - length (graph_in s).names,
          needs_names (graph_in s).names (label ∷ key ∷ []) last graph_uses,
          is ∙ (λ i. 13 + (length last - length (read.names i)) + count_is i),
        )

        pub index_makes : (weight : ℕ) → weight ≡ 13 + (length last - length names) + count → MakesChange (commands.Index label key) Done weight old t last
        index_makes weight is = record {
          store = record { store = made.written.store; names = sym names_now };
          changes = subst (λ (z : State). Changes z.shape.limit (graph_in z) (commands.Index label key) Done (graph_in t)) same changes;
          weighs = subst (λ (z : State). Weighs z.shape.threshold (graph_in z) (commands.Index label key) weight) same (weighs weight is);
          free = subst (λ (z : State). NoReason change_reasons z.shape.limit (graph_in z) (commands.Index label key)) same free;
        }
