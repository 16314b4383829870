-- A new node with its entries in the indexes.
use Rattle.std.proofs.Common.{◌≡◌, ℕ, ◌+◌, ◌*◌, ◌<◌, true, List, length, map, ap, sym, ◌∙◌, subst, inl, inr, arith, refl}
use Rattle.plain_graph.specs.Graph.{has_element}
use Rattle.plain_graph.specs.Indexes.{entries_weight, entry_count, index_records}
use Rattle.plain_graph.specs.Properties.{no_properties, with_pairs}
use Rattle.plain_graph.specs.Refusals.{change_reasons, index_full}
use Rattle.plain_graph.specs.Reply.{NodeMade}
use Rattle.plain_graph.specs.declared.command.Command.TheVariants as commands
use Rattle.plain_graph.specs.declared.command.Target.TheVariants as targets
use Rattle.plain_graph.specs.declared.pairs.Pair.{Pair}
use Rattle.plain_graph.specs.declared.refusal.Refusal.{Refusal}
use Rattle.plain_graph.specs.declared.refusal.Refusal.TheVariants as refusals
use Rattle.plain_graph.proofs.LineLaws.{first_after}
use Rattle.rec_bytes.specs.declared.record.Rec.{Rec}
use Rattle.rec_bytes.specs.declared.shape.Shape.{Shape}
use Rattle.rec_bytes.specs.Format as format
use Rattle.rec_bytes.specs.Meta as metas
use Rattle.rec_bytes.specs.Record.{field}
use Rattle.rec_bytes.specs.Space.{SameButReads, State, meta_of}
use Rattle.store_rules.specs.Chains.{IsWalk}
use Rattle.store_rules.specs.Graph.{graph_in, indexes_of}
use Rattle.store_rules.specs.Indexes.{AreIndexed, first_definition, next_definition, wanted_in}
use Rattle.store_rules.specs.Views.{high, rec_at}
use Rattle.store_rules.proofs.IndexStays.{indexes_stay}
use Rattle.store_rules.proofs.PropertyWalks.{walk_is}
use Rattle.store_rules.proofs.ViewLaws.{kind_below}
use Rattle.prop_index.specs.Listing.{pair_of}
use Rattle.prop_index.specs.declared.listing.IndexPair.{IndexPair}
use Rattle.change_parts.specs.Assigning.{HasPropertyRoom, PutsPairs, assigned_blocks, pairs_of}
use Rattle.change_parts.specs.Change.{IsRefusedBy, MakesChange}
use Rattle.node_changes.specs.Entries.{AreKeysOnce, ArePairsOf, indexed_of}
use Rattle.change_parts.specs.GivenValues.{GivesValues, with_assigned}
use Rattle.node_changes.specs.NodeAdding.{IsFullOfNodes, PutsNode}
use Rattle.change_parts.specs.Preparing.{IsPrepared, line_reasons}
use Rattle.change_parts.specs.Rooms.{HasRoom, LacksRoom}
use Rattle.change_parts.specs.Store.{IsStore}
use Rattle.change_parts.specs.declared.assigning.Assignment.{Assignment}
use Rattle.change_parts.specs.declared.change_fault.ChangeFault.{ChangeFault}
use Rattle.change_parts.specs.declared.preparing.Prepared.{Prepared}
use Rattle.node_changes.proofs.AddedWeights.{added_count, added_weighs, assigned_once}
use Rattle.change_parts.proofs.ElementChanges.{has_element-with_properties}
use Rattle.change_parts.proofs.Elements.{element_used}
use Rattle.node_changes.proofs.EntryChanges.{kept_read}
use Rattle.change_parts.proofs.GraphPairs.{text}
use Rattle.node_changes.proofs.IndexBeside.{KeepsBesideIndex, graph_beside, names_beside, wanted_beside}
use Rattle.change_parts.proofs.KeptIndexes.{midway, store_now}
use Rattle.node_changes.proofs.LiveIndexes.{live_indexes}
use Rattle.node_changes.proofs.NodeAdded.{can_put, made, no_full}
use Rattle.change_parts.proofs.Reasons.{None as Never, index_reasons}
use Rattle.node_changes.proofs.Setting.{number_low, number_text}
use Rattle.store_rules.specs.Rules.{IsWhole}

-- the line is at hand still where the space was read then
pub prepared_read : (s t u : State) (c : List (List ℕ)) (label : List ℕ) (pairs : List Pair) (prepared : Prepared) → SameButReads t u
    → IsPrepared s t c label pairs prepared → IsPrepared s u c label pairs prepared
prepared_read s t u c label pairs prepared same h = record {
  kept = kept_read s t u c same h.kept;
  label_is = h.label_is;
  assigned = h.assigned;
  room = subst (λ (z : State). HasPropertyRoom z (length prepared.assigned.items) (assigned_blocks pairs prepared.assigned.items)) (sym same)
      (record { properties = h.room.properties; blocks = h.room.blocks });
  uses = h.uses;
  weighs = h.weighs;
  free = h.free;
}

module _ (s u : State) (names c : List (List ℕ)) (label : List ℕ) (pairs : List Pair) (prepared : Prepared) (store : IsStore s names)
    (at_hand : IsPrepared s u c label pairs prepared) where
  abbrev items : List Assignment
  items = prepared.assigned.items

  -- all rules hold before the node comes
  pub whole_before : IsStore u c
  whole_before = store_now u c at_hand.kept.store (at_hand.kept.keeps store.store.indexes)

  abbrev pub listed : List IndexPair
  listed = map (pair_of u.records) whole_before.store.indexes.definitions

  abbrev pub entries : ℕ
  entries = length (indexed_of listed prepared.label items)

  label_low : prepared.label < high u.records format.names_file
  label_low = number_low u c prepared.label label at_hand.kept.store at_hand.label_is

  label_text : text u.records prepared.label ≡ label
  label_text = number_text u c prepared.label label at_hand.kept.store at_hand.label_is

  weighs : entries_weight (graph_in s) label (λ key. true) no_properties (with_pairs no_properties pairs) ≡ 3 * entries
  weighs =
      (λ i. entries_weight (record (graph_in s) { indexes = sym at_hand.kept.indexes i }) (sym label_text i) (λ key. true) no_properties
      (with_pairs no_properties pairs))
      ∙ added_weighs u c whole_before prepared.label label_low pairs items at_hand.assigned

  count : entry_count (graph_in s) label (with_pairs no_properties pairs) ≡ entries
  count =
      (λ i. entry_count (record (graph_in s) { indexes = sym at_hand.kept.indexes i }) (sym label_text i) (with_pairs no_properties pairs))
      ∙ added_count u c whole_before prepared.label label_low pairs items at_hand.assigned

  live : (meta_of u format.index_file).live ≡ index_records (graph_in s)
  live = live_indexes u whole_before.store ∙ (λ i. index_records (record {
    nodes = at_hand.kept.nodes i;
    edges = (graph_in s).edges;
    names = (graph_in s).names;
    indexes = at_hand.kept.indexes i;
  }))

  -- where there is room for the entries, they are no reason against the node
  pub entries_fit : HasRoom u format.index_file entries → Never (index_full s.shape.limit (graph_in s) (commands.Node label pairs))
  entries_fit room o full =
      let lives = live in
      let counts = count in
      let limit = ap (λ (h : Shape). h.limit) at_hand.kept.shape in
      let more = full.0 in
      absurd (omega (arith, room, lives, counts, limit, more))

  -- and where there is none, they are the first
  pub entries_refused : ¬ IsFullOfNodes s → (fault : ChangeFault) → LacksRoom u format.index_file entries fault
      → IsRefusedBy change_reasons s.shape.limit (graph_in s) (commands.Node label pairs) fault
  entries_refused room fault why = subst (IsRefusedBy change_reasons s.shape.limit (graph_in s) (commands.Node label pairs)) (sym why.is) (
    λ e. omega arith,
    inr (
      no_full s label pairs room,
      inr (
        none_of,
        inr (
          none_of,
          inr (
            none_of,
            inr (
              none_of,
              inr (
                none_of,
                inr (
                  none_of,
                  inr (
                    none_of,
                    inr (
                      none_of,
                      inr (
                        none_of,
                        first_after line_reasons index_reasons s.shape.limit (graph_in s) (commands.Node label pairs) refusals.FullIndex at_hand.free
                            (inr (none_of, inl (lacks, refl))),
                      ),
                    ),
                  ),
                ),
              ),
            ),
          ),
        ),
      ),
    ),
  )
    where
      none_of : (other : Refusal) → ⊥ → ⊥
      none_of other h = h

      lacks : 2 * s.shape.limit < index_records (graph_in s) + entry_count (graph_in s) label (with_pairs no_properties pairs)
      lacks =
          let lives = live in
          let counts = count in
          let limit = ap (λ (h : Shape). h.limit) at_hand.kept.shape in
          let lt = why.lacks in
          omega (arith, lives, counts, limit, lt)

  -- ---- the node comes

  module _ (v : State) (id : ℕ) (puts : PutsNode u v c prepared.label label id) (same : v.shape ≡ u.shape) where
    indexed_then : AreIndexed v.records (wanted_in v.records)
    indexed_then = puts.keeps whole_before.store.indexes

    same_definitions : indexed_then.definitions ≡ whole_before.store.indexes.definitions
    same_definitions = walk_is (next_definition u.records) (first_definition u.records) indexed_then.definitions whole_before.store.indexes.definitions
        (subst (λ (p : (ℕ → Rec) × Rec). IsWalk (λ d. field 4 (p.0 d) format.definition_next) (field 4 p.1 format.meta_definition) indexed_then.definitions)
        (λ i. (puts.file.records i, puts.file.meta i)) indexed_then.walk) whole_before.store.indexes.walk

    module _ (w : State) (put : PutsPairs v w c (targets.Node id) (pairs_of c pairs items)) (given : GivesValues v w id pairs items) where
      indexed_last : AreIndexed w.records (wanted_in v.records)
      indexed_last = indexes_stay v.records w.records given.file (wanted_in v.records) indexed_then

      last_definitions : indexed_last.definitions ≡ whole_before.store.indexes.definitions
      last_definitions = walk_is (next_definition v.records) (first_definition v.records) indexed_last.definitions indexed_then.definitions
          (subst (λ (p : (ℕ → Rec) × Rec). IsWalk (λ d. field 4 (p.0 d) format.definition_next) (field 4 p.1 format.meta_definition) indexed_last.definitions)
          (λ i. (given.file.records i, given.file.meta i)) indexed_last.walk) indexed_then.walk
          ∙ same_definitions

      -- what the entries are added to
      pub pairs_then : ArePairsOf w (wanted_in v.records) listed
      pairs_then = record {
        kept = put.store.store;
        indexed = indexed_last;
        are = λ i. map (λ d. record {
          label = field 4 (sym (given.file.records ∙ puts.file.records) i d) format.definition_label;
          key = field 4
              (sym (given.file.records ∙ puts.file.records) i d) format.definition_key;
        }) (sym last_definitions i);
      }

      there : has_element (graph_in w) (targets.Node id) ≡ true
      there = ap (λ g. has_element g (targets.Node id)) put.graph ∙ has_element-with_properties (graph_in v) (targets.Node id)
          (λ m. with_pairs m (pairs_of c pairs items))
          ∙ (can_put s u v names c label pairs id prepared (midway s names store) at_hand puts same).there

      pub node_low : id < high w.records format.nodes_file
      node_low = kind_below (high w.records format.nodes_file) (rec_at w.records format.nodes_file id) id (element_used w (targets.Node id) there)

      pub keys_once : AreKeysOnce items
      keys_once = assigned_once v c pairs items puts.store at_hand.assigned

      -- the index file has room still
      pub room_then : w.shape ≡ v.shape → HasRoom u format.index_file entries → HasRoom w format.index_file entries
      room_then shape room =
          let meta = ap (λ (r : Rec). (metas.meta_of r).live) (given.file.meta ∙ puts.file.meta) in
          let limit = ap (λ (h : Shape). h.limit) (shape ∙ same) in
          omega (arith, room, meta, limit)

      -- ---- its entries are added

      module _ (x : State) (beside : KeepsBesideIndex w.records x.records) (graph : indexes_of x.records ≡ indexes_of w.records) (keeps : IsWhole x)
          (entered : AreIndexed x.records (with_assigned (wanted_in v.records) prepared.label id pairs items)) where
        wanted_then : wanted_in x.records ≡ with_assigned (wanted_in v.records) prepared.label id pairs items
        wanted_then = wanted_beside w.records x.records beside
            ∙ (λ i e. (given.values e ∙ ap (λ l. with_assigned (wanted_in v.records) l id pairs items e) puts.numbered) i)

        pub whole_after : IsStore x c
        whole_after = record {
          store = record { store = keeps; indexes = subst (AreIndexed x.records) (sym wanted_then) entered };
          names = put.store.names ∙ sym (names_beside w.records x.records beside);
        }

        pub added_made : ¬ IsFullOfNodes s → HasRoom u format.index_file entries → (weight : ℕ) → weight ≡ 1 + prepared.weight + 3 * entries
            → MakesChange (commands.Node label pairs) (NodeMade id) weight s x c
        added_made room fits weight is = made s u v names c label pairs id prepared (midway s names store) at_hand puts same w put room x entries weight
            whole_after (graph_beside w.records x.records beside graph) weighs (entries_fit fits) is
