-- A node that is deleted: its entries leave the indexes when the rest is gone.
use Rattle.std.specs.List.{list_any, sum_by}
use Rattle.std.proofs.Common.{◌≡◌, ◌≢◌, ⊎_elim, ℕ, ◌+◌, ◌-◌, ◌*◌, ◌<◌, nat_eq, nat_lt, Bool, true, false, ◌&&◌, not, if◌then◌else◌}
use Rattle.std.proofs.Common.{cond, Option, None, Some, List, map, ap, sym, ◌∙◌, subst, arith, refl}
use Rattle.plain_graph.specs.Graph.{Graph, Index}
use Rattle.plain_graph.specs.Reply.{Done}
use Rattle.plain_graph.specs.Values.{is_text}
use Rattle.plain_graph.specs.declared.command.Command.TheVariants as commands
use Rattle.plain_graph.specs.declared.command.Target.TheVariants as targets
use Rattle.plain_graph.specs.declared.value.Value.{Value}
use Rattle.rec_bytes.specs.declared.shape.Shape.{Shape}
use Rattle.rec_bytes.specs.declared.record.Rec.{Rec}
use Rattle.rec_bytes.specs.Format as format
use Rattle.rec_bytes.specs.Meta.{with_meta}
use Rattle.rec_bytes.specs.Record.{field}
use Rattle.rec_bytes.specs.RecordFiles.{meta_key_of}
use Rattle.rec_bytes.specs.Space.{State, after_put, meta_of}
use Rattle.rec_bytes.proofs.Spaces.{put_other, put_same}
use Rattle.id_freelist.specs.FreeLists.{free_record}
use Rattle.id_freelist.specs.Giving.{CanGive, HasGiven, given}
use Rattle.id_freelist.proofs.Leaving.{free_is_free}
use Rattle.store_rules.specs.Chains.{In}
use Rattle.store_rules.specs.Graph.{graph_in, indexes_of, names_of}
use Rattle.store_rules.specs.Indexes.{AreIndexed, Entries, Entry, has_hash, indexed_key, indexed_label, node_value, row_value, value_in, wanted_in}
use Rattle.store_rules.specs.Properties.{property_records}
use Rattle.store_rules.specs.RuleList.{IsSameFile}
use Rattle.store_rules.specs.Rules.{IsWellFormed, IsWhole}
use Rattle.store_rules.specs.Views.{Records, degree, high, key_in, kind_at, kind_in, node_at, node_in, rec_at, text_of}
use Rattle.store_rules.proofs.IndexFrames.{indexed_same}
use Rattle.store_rules.proofs.IndexKept.{changed_index, properties_index}
use Rattle.store_rules.proofs.IndexStays.{indexes_stay}
use Rattle.store_rules.proofs.MetaLaws.{not_meta_key}
use Rattle.store_rules.proofs.NodeChange as nc
use Rattle.store_rules.proofs.PropertyFrames as fr
use Rattle.store_rules.proofs.NumberLaws.{eq_false, eq_true, nat_cases}
use Rattle.store_rules.proofs.ViewLaws.{row_none}
use Rattle.node_store.specs.Loading as nodes
use Rattle.node_store.specs.declared.node_row.NodeRow.{NodeRow}
use Rattle.node_store.proofs.Rows as node_rows
use Rattle.prop_index.specs.Listing.{pair_of}
use Rattle.prop_store.specs.Alone.{DropsAllAlone}
use Rattle.prop_store.specs.Changing.{DropsAll, HasElement}
use Rattle.prop_store.specs.Owner.{IsOwner}
use Rattle.prop_store.specs.declared.changing.Dropped.{Dropped}
use Rattle.prop_store.proofs.ElementGraphs.{listed_at}
use Rattle.prop_store.proofs.ValueSteps.{drops_values}
use Rattle.change_parts.specs.Change.{MakesChange}
use Rattle.node_changes.specs.Entries.{held_of, held_weight, is_pair, without_held, without_node}
use Rattle.node_changes.specs.NodeDeleting.{IsUnused, KeepsOtherKinds}
use Rattle.change_parts.specs.Owners.{owner_of}
use Rattle.change_parts.specs.Store.{IsMidway, IsStore}
use Rattle.node_changes.specs.declared.entries.IndexedValue.{IndexedValue}
use Rattle.node_changes.proofs.Deleting.{node_deleted, node_gone, node_kinds, node_left}
use Rattle.change_parts.proofs.GraphPairs.{apart, has_pair, in_any, is_among}
use Rattle.node_changes.proofs.HeldWeights.{listed_among}
use Rattle.node_changes.proofs.IndexBeside.{KeepsBesideIndex, file_same, graph_beside, kinds_beside, mark_same, names_beside, wanted_beside}
use Rattle.change_parts.proofs.KeptIndexes.{midway, node_graph_indexes}
use Rattle.node_changes.proofs.LeftIndexes.{held_left, held_weighs_all}
use Rattle.node_changes.proofs.NodeWeights.{held_same, node_entries, value_listed}
use Rattle.node_changes.proofs.PairWeights.{pair_weight}
use Rattle.change_parts.proofs.PairsPut.{label_at}

-- the row of a node in use has the label of its record
pub label_found : (s : State) (id : ℕ) (node : NodeRow) → Some node ≡ nodes.row_at s.records id → node.label ≡ label_at s.records id
label_found s id node found = ap (λ (n : NodeRow). n.label) (node_rows.kind-row_at-Some s.records id node (sym found)).1

-- ---- a node whose identifier was given back, whatever the records are

-- the record of a free identifier says so, below the mark and past it
free_in : (mark : ℕ) (r : Rec) (x : ℕ) → field 1 r format.kind ≡ format.free_kind → kind_in mark r x ≡ format.free_kind
unfolding kind_in
free_in mark r x is = by (nat_lt x mark)
  where
    by : (low : Bool) → cond low (field 1 r format.kind) 0 ≡ format.free_kind
    by true = is
    by false = refl

unused_given : (u : State) (id : ℕ) → IsUnused (given u format.nodes_file id).records id
unused_given u id =
    let m = meta_of u format.nodes_file in
    let put = after_put u (key_in format.nodes_file id) (free_record m.free) in
    let here : rec_at (given u format.nodes_file id).records format.nodes_file id ≡ free_record m.free =
    put_other put.records (meta_key_of format.nodes_file) (with_meta (put.records (meta_key_of format.nodes_file))
    (record { high = m.high; free = id; live = m.live - 1 })) (key_in format.nodes_file id) (not_meta_key format.nodes_file id format.nodes_file refl)
    ∙ put_same u.records (key_in format.nodes_file id) (free_record m.free) in
    free_in (high (given u format.nodes_file id).records format.nodes_file) (rec_at (given u format.nodes_file id).records format.nodes_file id) id
    (ap (λ r. field 1 r format.kind) here ∙ free_is_free m.free)

-- so it is when its entries have left the indexes
pub unused_left : (u t v : State) (id : ℕ) → t ≡ given u format.nodes_file id → KeepsBesideIndex t.records v.records → IsUnused v.records id
unused_left u t v id is beside =
    ap (λ (f : ℕ → ℕ). f id) (kinds_beside t.records v.records beside format.nodes_file refl (λ e. omega arith))
    ∙ ap (λ (z : State). kind_at z.records format.nodes_file id) is ∙ unused_given u id

-- ---- stores whose graphs have the same indexes, and the same names

one_zero : (a b : Bool) → ◌≡◌ {A = ℕ} (cond a 1 0) (cond b 1 0) → a ≡ b
one_zero true true e = refl
one_zero true false e = absurd (omega (arith, e))
one_zero false true e = absurd (omega (arith, e))
one_zero false false e = refl

-- have the same pairs
pub pairs_same : (n v : Records) (shape other : Shape) → IsWellFormed n shape → IsWellFormed v other
    → (wanted now : Entries) (ix : AreIndexed n wanted) (iy : AreIndexed v now) → indexes_of v ≡ indexes_of n
    → rec_at v format.names_file ≡ rec_at n format.names_file → high v format.names_file ≡ high n format.names_file → (label key : ℕ)
    → label < high n format.names_file → key < high n format.names_file → is_among v iy.definitions label key ≡ is_among n ix.definitions label key
pairs_same n v shape other store after wanted now ix iy graph names mark label key label_low key_low =
    one_zero (is_among v iy.definitions label key) (is_among n ix.definitions label key)
    (sym (pair_weight v other after now iy label key (subst (λ m. label < m) (sym mark) label_low) (subst (λ m. key < m) (sym mark) key_low) (λ k. 1))
    ∙ (λ i. sum_by (λ (index : Index). if is_text index.label (text_of (names i label)) && is_text (text_of (names i key)) index.key then 1 else 0) (graph i))
    ∙ pair_weight n shape store wanted ix label key label_low key_low (λ k. 1))

-- ---- the node

module _ (n u t : State) (names : List (List ℕ)) (id : ℕ) (store : IsStore n names) (used : kind_at n.records format.nodes_file id ≢ format.free_kind)
    (lone : degree n.records id ≡ 0) (dropped : Dropped) (owned : IsOwner (owner_of (targets.Node id)))
    (drops : DropsAll n u (owner_of (targets.Node id)) dropped) (before : u.shape ≡ n.shape) (after : t.shape ≡ u.shape)
    (given : (free : List ℕ) → CanGive u format.nodes_file id free → HasGiven u.records t.records format.nodes_file id free) where
  abbrev element : HasElement n (owner_of (targets.Node id))
  element = record { store = store.store.store; used = used }

  index : IsSameFile n.records t.records format.index_file
  index =
      let one = properties_index n.records u.records n.shape format.nodes_file id drops.changes.before drops.changes.after drops.changes.changes in
      let two = changed_index u.records t.records format.nodes_file id (node_gone n u names dropped (midway n names store) id drops t used lone before after
      given).change (λ e. omega arith) in
      record { records = two.records ∙ one.records; meta = two.meta ∙ one.meta }

  -- the indexes are of what the nodes had
  pub gone_between : AreIndexed t.records (wanted_in n.records)
  gone_between = indexes_stay n.records t.records index (wanted_in n.records) store.store.indexes

  pub gone_left : IsMidway t names
  gone_left = node_left n u names dropped (midway n names store) id drops t used lone before after given

  gone_indexes : indexes_of t.records ≡ indexes_of n.records
  gone_indexes = node_graph_indexes u.records t.records id (node_gone n u names dropped (midway n names store) id drops t used lone before after given).change
      ∙ ap (λ (g : Graph). g.indexes) drops.graph

  gone_names : rec_at t.records format.names_file ≡ rec_at n.records format.names_file
  gone_names = nc.name_file u.records t.records id (node_gone n u names dropped (midway n names store) id drops t used lone before after given).change
      ∙ fr.name_file n.records u.records n.shape format.nodes_file id drops.changes.before drops.changes.after drops.changes.changes

  gone_mark : high t.records format.names_file ≡ high n.records format.names_file
  gone_mark = nc.name_mark u.records t.records id (node_gone n u names dropped (midway n names store) id drops t used lone before after given).change
      ∙ fr.name_mark n.records u.records n.shape format.nodes_file id drops.changes.before drops.changes.after drops.changes.changes

  pub gone_kinds : (v : State) → KeepsBesideIndex t.records v.records → KeepsOtherKinds n v id
  gone_kinds v beside x ne = ap (λ (f : ℕ → ℕ). f x) (kinds_beside t.records v.records beside format.nodes_file refl (λ e. omega arith))
      ∙ node_kinds n u names dropped (midway n names store) id drops t used lone before after given x ne

  module _ (alone : DropsAllAlone n u (owner_of (targets.Node id)) (listed_at n (owner_of (targets.Node id)) owned element) dropped) where
    -- now the node has no value, and the others have what they had
    value_gone : (l k x : ℕ) → node_value t.records l k x ≡ cond (nat_eq x id) None (node_value n.records l k x)
    value_gone l k x =
        let gone = node_gone n u names dropped (midway n names store) id drops t used lone before after given in
        ⊎_elim
        (λ (e : x ≡ id). ap (λ o. row_value (property_records t.records) l k o) (ap (node_at t.records) e ∙ row_none (kind_at t.records format.nodes_file id)
        (node_in (rec_at t.records format.nodes_file id) id) gone.gone) ∙ sym (ap (λ b. cond b None (node_value n.records l k x)) (eq_true x id e)))
        (λ (ne : x ≢ id). (λ i. row_value (nc.files_stay u.records t.records id gone.change i) l k (nc.node_other u.records t.records id gone.change x ne i))
        ∙ drops_values n u (owner_of (targets.Node id)) (listed_at n (owner_of (targets.Node id)) owned element) dropped refl store.store.store alone l k x)
        (nat_cases x id)

    wanted_gone : wanted_in t.records ≡ without_node (wanted_in n.records) id
    wanted_gone = λ i e. each e i
      where
        by : (b : Bool) (hash : ℕ) (o : Option Value) → has_hash hash (cond b None o) ≡ (not b && has_hash hash o)
        by true hash o = refl
        by false hash o = refl

        each : (e : Entry) → wanted_in t.records e ≡ without_node (wanted_in n.records) id e
        each e = ap (has_hash e.hash) (value_gone e.label e.key e.node) ∙ by (nat_eq e.node id) e.hash (node_value n.records e.label e.key e.node)

    module _ (v : State) (beside : KeepsBesideIndex t.records v.records) (graph : indexes_of v.records ≡ indexes_of t.records) (keeps : IsWhole v)
        (held : List IndexedValue)
        (is : held ≡ held_of n.records (label_at n.records id) id (map (pair_of n.records) store.store.indexes.definitions))
        (left : AreIndexed v.records (without_held (wanted_in n.records) held)) where
      gone : graph_in v ≡ graph_in t
      gone = graph_beside t.records v.records beside graph

      names_left : names ≡ names_of v.records
      names_left = gone_left.names ∙ sym (names_beside t.records v.records beside)

      -- a pair of the definitions then was one before
      listed_then : (d : ℕ) → In d left.definitions → list_any (is_pair (indexed_label v.records d) (indexed_key v.records d))
          (map (pair_of n.records) store.store.indexes.definitions) ≡ true
      listed_then d i =
          let low = (apart v.records keeps.defined (without_held (wanted_in n.records) held) left).named d i in
          let mark = mark_same t.records v.records beside format.names_file (λ e. omega arith) ∙ gone_mark in
          listed_among n.records store.store.indexes.definitions (indexed_label v.records d) (indexed_key v.records d)
          ∙ sym (pairs_same n.records v.records n.shape v.shape store.store.store keeps (wanted_in n.records) (without_held (wanted_in n.records) held)
          store.store.indexes left (graph ∙ gone_indexes) (file_same t.records v.records beside format.names_file refl (λ e. omega arith) ∙ gone_names) mark
          (indexed_label v.records d) (indexed_key v.records d) (subst (λ m. indexed_label v.records d < m) mark low.0)
          (subst (λ m. indexed_key v.records d < m) mark low.1))
          ∙ in_any (has_pair v.records (indexed_label v.records d) (indexed_key v.records d)) d left.definitions i
          (rw (eq_true (indexed_label v.records d) (indexed_label v.records d) refl, eq_true (indexed_key v.records d) (indexed_key v.records d) refl) refl)

      left_then : AreIndexed v.records (without_node (wanted_in n.records) id)
      left_then = indexed_same v.records (without_held (wanted_in n.records) held) (without_node (wanted_in n.records) id) left (λ d e i l k.
          held_left n.records (label_at n.records id) id e (map (pair_of n.records) store.store.indexes.definitions)
          (λ own. (λ j. list_any (is_pair ((sym own ∙ l) j) (k j)) (map (pair_of n.records) store.store.indexes.definitions)) ∙ listed_then d i)
          (λ ne at. ap (has_hash e.hash) (ap (node_value n.records e.label e.key) at ∙ value_listed n id store.store owned element e.label e.key
          ∙ ap (λ b. cond b (value_in (listed_at n (owner_of (targets.Node id)) owned element) e.key) None)
          (eq_false (label_at n.records id) e.label (λ z. ne (sym z)))))
          ∙ ap (λ hs. without_held (wanted_in n.records) hs e) (sym is))

      indexed_left : AreIndexed v.records (wanted_in v.records)
      indexed_left = subst (AreIndexed v.records) (sym (wanted_beside t.records v.records beside ∙ wanted_gone)) left_then

      pub gone_made : (entries : ℕ) → entries ≡ held_weight held → MakesChange (commands.Delete (targets.Node id)) Done
          (1 + dropped.properties + dropped.blocks + entries) n v names
      gone_made entries weight =
          let pairs = map (pair_of n.records) store.store.indexes.definitions in
          node_deleted n u names dropped (midway n names store) id drops t used lone before after given v entries
          (record { store = record { store = keeps; indexes = indexed_left }; names = names_left }) gone
          (node_entries n id store.store owned element ∙ ap (λ n. 3 * n) (sym (held_same n.records (label_at n.records id) id store.store.indexes.definitions))
          ∙ sym (held_weighs_all n.records (label_at n.records id) id pairs) ∙ ap held_weight (sym is) ∙ sym weight)
