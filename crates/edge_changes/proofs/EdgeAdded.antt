-- The whole of adding an edge, by what the calls left.
use Rattle.std.specs.List.{list_any}
use Rattle.std.proofs.Common.{◌≡◌, ◌≢◌, ℕ, ◌+◌, ◌<◌, nat_eq, true, false, Option, None, Some, List, ◌∷◌, filter, find}
use Rattle.std.proofs.Common.{length, sym, ap, ◌∙◌, subst, inl, inr, arith, refl}
use Rattle.plain_graph.specs.Changes.{ends_weight}
use Rattle.plain_graph.specs.Graph.{Edge, Graph, UsesNames, change_edge, degree_in, edge_number, edge_properties}
use Rattle.plain_graph.specs.Graph.{has_node, is_at, node_number, with_change, with_row}
use Rattle.plain_graph.specs.Properties.{keys_in, no_properties, with_pairs}
use Rattle.plain_graph.specs.Refusals.{FirstReason, NoReason, change_reasons, edges_full, no_source, no_target}
use Rattle.plain_graph.specs.Reply.{EdgeMade}
use Rattle.plain_graph.specs.declared.command.Command.TheVariants as commands
use Rattle.plain_graph.specs.declared.command.Target.TheVariants as targets
use Rattle.plain_graph.specs.declared.pairs.Pair.{Pair}
use Rattle.plain_graph.specs.declared.refusal.Refusal.{Refusal}
use Rattle.plain_graph.specs.declared.refusal.Refusal.TheVariants as refusals
use Rattle.rec_bytes.specs.declared.shape.Shape.{Shape}
use Rattle.rec_bytes.specs.Format as format
use Rattle.rec_bytes.specs.Space.{State, meta_of}
use Rattle.store_rules.proofs.GraphRows.{count_edges}
use Rattle.node_store.specs.declared.node_row.NodeRow.{NodeRow}
use Rattle.node_store.specs.Loading as nodes
use Rattle.change_parts.specs.Assigning.{CanPut, HasPropertyRoom, PutsPairs, assigned_blocks, pairs_of}
use Rattle.change_parts.specs.Change.{IsRefusedBy, MakesChange}
use Rattle.edge_changes.specs.EdgeAdding.{IsFullOfEdges, degrees_weight}
use Rattle.edge_changes.specs.EdgePlacing.{PutsEdge}
use Rattle.change_parts.specs.Degrees.{HasDegree}
use Rattle.change_parts.specs.Owners.{IsMissing}
use Rattle.change_parts.specs.Preparing.{IsPrepared, line_reasons}
use Rattle.change_parts.specs.Rooms.{HasRoom, LacksRoom}
use Rattle.store_rules.specs.Indexes.{AreIndexed, wanted_in}
use Rattle.change_parts.specs.Store.{IsMidway, KeepsElements, KeepsIndexes}
use Rattle.change_parts.specs.declared.change_fault.ChangeFault.{ChangeFault}
use Rattle.change_parts.specs.declared.change_fault.ChangeFault.TheVariants.{NoNode, NoEdge, HasRelationships, IndexThere}
use Rattle.change_parts.specs.declared.change_fault.ChangeFault.TheVariants.{TooManyIndexes, IndexTooLarge, Full}
use Rattle.change_parts.specs.declared.change_fault.ChangeFault.TheVariants.{NamesFull, PropsFull, Memory, Disk, Damaged}
use Rattle.change_parts.specs.declared.preparing.Prepared.{Prepared}
use Rattle.change_parts.proofs.ElementRooms as rooms
use Rattle.change_parts.proofs.ElementChanges.{new_edge_changed, new_edge_properties, new_edge_there}
use Rattle.change_parts.proofs.Elements.{found_in, found_there, node_missing}
use Rattle.change_parts.proofs.LineNames.{needs_names}
use Rattle.change_parts.proofs.Reasons.{None as Never, refused_more}
use Rattle.change_parts.proofs.KeptIndexes.{store_now}
use Rattle.change_parts.proofs.Reasons.{index_reasons}
use Rattle.plain_graph.proofs.LineLaws.{first_front, none_both}
use Rattle.store_rules.specs.Graph.{graph_in}

-- ---- room for an edge
module _ (s : State) (names : List (List ℕ)) (store : IsMidway s names) where
  live_edges : (meta_of s format.relationships_file).live ≡ length (graph_in s).edges
  live_edges = count_edges s.records s.shape store.store

  pub not_full : HasRoom s format.relationships_file 1 → ¬ IsFullOfEdges s
  not_full = rooms.not_full s names store format.relationships_file (length (graph_in s).edges) refl refl refl live_edges

  pub lacks_full : (fault : ChangeFault) → LacksRoom s format.relationships_file 1 fault → IsFullOfEdges s
  lacks_full = rooms.lacks_full s names store format.relationships_file (length (graph_in s).edges) refl refl refl live_edges

  -- a space with the same edges has room for one more, too
  pub room_kept : (u : State) (c : List (List ℕ)) → KeepsElements s u c → HasRoom s format.relationships_file 1 → HasRoom u format.relationships_file 1
  room_kept u c kept = rooms.room_still s u format.relationships_file 1 (count_edges u.records u.shape kept.store.store ∙ ap length kept.edges ∙ sym live_edges)
      kept.shape

-- ---- the ends
clash : true ≡ false → ⊥
clash e = cc

none_of : (other : Refusal) → ⊥ → ⊥
none_of other h = h

node_is : (a b : ℕ) → targets.Node a ≡ targets.Node b → a ≡ b
node_is a b e = cc

no_edge_is : (a b : ℕ) → targets.Node a ≡ targets.Edge b → ⊥
no_edge_is a b e = cc

-- the reasons of an edge that come before those of its names and properties
module _ (limit : ℕ) (graph : Graph) (from : ℕ) (label : List ℕ) (to : ℕ) (pairs : List Pair) where
  -- no node is where the edge is to begin
  pub source_missing : (fault : ChangeFault) → IsMissing graph (targets.Node from) fault
      → IsRefusedBy change_reasons limit graph (commands.Edge from label to pairs) fault
  source_missing (NoNode id) why = let e = node_is from id why.0 in inr (none_of, inl (ap (has_node graph) e ∙ why.1, sym (ap refusals.NoNode e)))
  source_missing (NoEdge id) why = absurd (no_edge_is from id why.0)
  source_missing (HasRelationships id degree) why = absurd why
  source_missing IndexThere why = absurd why
  source_missing TooManyIndexes why = absurd why
  source_missing (IndexTooLarge count) why = absurd why
  source_missing (Full file live) why = absurd why
  source_missing (NamesFull count) why = absurd why
  source_missing (PropsFull count) why = absurd why
  source_missing Memory why = absurd why
  source_missing Disk why = tt
  source_missing (Damaged damage) why = absurd why

  module _ (leaves : has_node graph from ≡ true) where
    has_source : Never (no_source limit graph (commands.Edge from label to pairs))
    has_source other why = clash (sym leaves ∙ why.0)

    -- or where it is to end
    pub target_missing : (fault : ChangeFault) → IsMissing graph (targets.Node to) fault
        → IsRefusedBy change_reasons limit graph (commands.Edge from label to pairs) fault
    target_missing (NoNode id) why = let e = node_is to id why.0 in inr
        (none_of, inr (has_source, inl (ap (has_node graph) e ∙ why.1, sym (ap refusals.NoNode e))))
    target_missing (NoEdge id) why = absurd (no_edge_is to id why.0)
    target_missing (HasRelationships id degree) why = absurd why
    target_missing IndexThere why = absurd why
    target_missing TooManyIndexes why = absurd why
    target_missing (IndexTooLarge count) why = absurd why
    target_missing (Full file live) why = absurd why
    target_missing (NamesFull count) why = absurd why
    target_missing (PropsFull count) why = absurd why
    target_missing Memory why = absurd why
    target_missing Disk why = tt
    target_missing (Damaged damage) why = absurd why

    module _ (enters : has_node graph to ≡ true) where
      has_target : Never (no_target limit graph (commands.Edge from label to pairs))
      has_target other why = clash (sym enters ∙ why.0)

      -- there are as many edges as there may be
      edges_first : length graph.edges ≡ limit → FirstReason change_reasons limit graph (commands.Edge from label to pairs) refusals.FullEdges
      edges_first full = inr (none_of, inr (has_source, inr (has_target, inl (full, refl))))

      pub edges_refused : (fault : ChangeFault) (live : ℕ) → fault ≡ Full format.relationships_file live → length graph.edges ≡ limit
          → IsRefusedBy change_reasons limit graph (commands.Edge from label to pairs) fault
      edges_refused fault live is full = subst (IsRefusedBy change_reasons limit graph (commands.Edge from label to pairs)) (sym is)
          (λ e. omega arith, edges_first full)

      module _ (room : length graph.edges ≢ limit) where
        has_room : Never (edges_full limit graph (commands.Edge from label to pairs))
        has_room other why = room why.0

        line_first : (why : Refusal) → FirstReason line_reasons limit graph (commands.Node label pairs) why
            → FirstReason change_reasons limit graph (commands.Edge from label to pairs) why
        line_first why h = inr (
          none_of,
          inr (
            has_source,
            inr (
              has_target,
              inr (
                has_room,
                inr (
                  none_of,
                  inr (
                    none_of,
                    inr (
                      none_of,
                      inr (
                        none_of,
                        inr (
                          none_of,
                          inr (
                            none_of,
                            first_front line_reasons index_reasons limit graph
                                (commands.Edge from label to pairs) why h,
                          ),
                        ),
                      ),
                    ),
                  ),
                ),
              ),
            ),
          ),
        )

        -- the names or the properties refuse it
        pub line_refused : (fault : ChangeFault) → IsRefusedBy line_reasons limit graph (commands.Node label pairs) fault
            → IsRefusedBy change_reasons limit graph (commands.Edge from label to pairs) fault
        line_refused = refused_more line_reasons change_reasons limit graph (commands.Node label pairs) (commands.Edge from label to pairs) line_first

        -- nothing refuses it
        edge_free : NoReason line_reasons limit graph (commands.Node label pairs) → NoReason change_reasons limit graph (commands.Edge from label to pairs)
        edge_free free = (
          none_of,
          (
            has_source,
            (
              has_target,
              (
                has_room,
                (
                  none_of,
                  (
                    none_of,
                    (
                      none_of,
                      (
                        none_of,
                        (
                          none_of,
                          (
                            none_of,
                            none_both line_reasons index_reasons limit graph (commands.Edge from label to pairs) free
                                (none_of, (none_of, tt)),
                          ),
                        ),
                      ),
                    ),
                  ),
                ),
              ),
            ),
          ),
        )

-- ---- the degrees of the ends
-- a node of a store has the degree that it has in the graph
has_degree : (s : State) (names : List (List ℕ)) (id : ℕ) → IsMidway s names → has_node (graph_in s) id ≡ true
    → HasDegree s.records id (degree_in (graph_in s) id)
has_degree s names id store there = by (nodes.row_at s.records id) refl
  where
    by : (row : Option NodeRow) → nodes.row_at s.records id ≡ row → HasDegree s.records id (degree_in (graph_in s) id)
    by None is = absurd (clash (sym there ∙ node_missing s id (sym is)))
    by (Some row) is = record { row = row; found = is; is = found_in s names id row.degree store (record { row = row; found = is; is = refl }) }

-- it keeps it where the elements stay
pub degree_kept : (s u : State) (names c : List (List ℕ)) (id n : ℕ) → IsMidway s names → KeepsElements s u c → HasDegree s.records id n
    → HasDegree u.records id n
degree_kept s u names c id n store kept has =
    let there = ap (list_any (λ e. nat_eq (node_number e) id)) kept.nodes ∙ found_there s names id n store has in
    let same = ap (λ l. length (filter (is_at id) l)) kept.edges ∙ sym (found_in s names id n store has) in
    subst (HasDegree u.records id) same (has_degree u c id kept.store there)

-- ---- the change
module _ (s u v : State) (names c : List (List ℕ)) (from : ℕ) (label : List ℕ) (to : ℕ) (pairs : List Pair) (id : ℕ) (prepared : Prepared)
    (store : IsMidway s names) (at_hand : IsPrepared s u c label pairs prepared)
    (puts : PutsEdge u v c from label to id) (same : v.shape ≡ u.shape) where
  abbrev bare : Edge
  bare = record { id = id; label = label; from = from; to = to; properties = no_properties }

  fresh : list_any (λ e. nat_eq (edge_number e) id) (graph_in u).edges ≡ false
  fresh = puts.fresh

  -- what the properties are put at
  pub can_put : CanPut v c (targets.Edge id) pairs prepared.assigned.items
  can_put = record {
    store = puts.store;
    there = ap (list_any (λ e. nat_eq (edge_number e) id)) puts.edges ∙ new_edge_there bare (graph_in u).edges;
    bare = ap (λ es. edge_properties (find (λ e. nat_eq (edge_number e) id) es)) puts.edges ∙ new_edge_properties bare (graph_in u).edges fresh;
    are = at_hand.assigned;
  }

  pub put_room : HasPropertyRoom v (length prepared.assigned.items) (assigned_blocks pairs prepared.assigned.items)
  put_room = rooms.properties_still u v (length prepared.assigned.items) (assigned_blocks pairs prepared.assigned.items)
      (puts.metas format.properties_file (λ e. omega arith) (λ e. omega arith)) (puts.metas format.strings_file (λ e. omega arith) (λ e. omega arith)) same
      at_hand.room

  module _ (w : State) (put : PutsPairs v w c (targets.Edge id) (pairs_of c pairs prepared.assigned.items)) (room : ¬ IsFullOfEdges s) (source target : ℕ)
      (source_has : HasDegree s.records from source)
      (target_has : HasDegree s.records to target) (are : AreIndexed s.records (wanted_in s.records)) (last : KeepsIndexes v w) where
    abbrev ps : List Pair
    ps = pairs_of c pairs prepared.assigned.items

    abbrev full : Edge
    full = record { id = id; label = label; from = from; to = to; properties = with_pairs no_properties pairs }

    edges_are : (graph_in w).edges ≡ with_row edge_number full (graph_in s).edges
    edges_are =
        ap (λ (g : Graph). g.edges) put.graph ∙ ap (with_change edge_number id (change_edge (λ m. with_pairs m ps))) puts.edges
        ∙ new_edge_changed (λ m. with_pairs m ps) bare (graph_in u).edges fresh
        ∙ (λ i. with_row edge_number (record { id = id; label = label; from = from; to = to; properties = at_hand.assigned.same i }) (at_hand.kept.edges i))

    leaves : has_node (graph_in s) from ≡ true
    leaves = found_there s names from source store source_has

    enters : has_node (graph_in s) to ≡ true
    enters = found_there s names to target store target_has

    ends_are : degrees_weight s.shape.threshold from source to target ≡ ends_weight s.shape.threshold (graph_in s) from to
    ends_are = (λ i. degrees_weight s.shape.threshold from (found_in s names from source store source_has i) to (found_in s names to target store target_has i))

    pub made : (weight ends : ℕ) → weight ≡ 9 + prepared.weight + ends → ends ≡ degrees_weight s.shape.threshold from source to target
        → MakesChange (commands.Edge from label to pairs) (EdgeMade id) weight s w c
    made weight ends is weighs = record {
      store = store_now w c put.store (last (puts.keeps (at_hand.kept.keeps are)));
      changes = (
        id,
        refl,
        record {
          leaves = leaves;
          enters = enters;
          below = subst (λ (h : Shape). id < h.limit) at_hand.kept.shape puts.below;
          fresh = ap (list_any (λ e. nat_eq (edge_number e) id)) (sym at_hand.kept.edges) ∙ fresh;
          nodes = ap (λ (g : Graph). g.nodes) put.graph ∙ puts.nodes ∙ at_hand.kept.nodes;
          edges = edges_are;
          names = subst (UsesNames (graph_in s).names (label ∷ keys_in pairs)) put.store.names at_hand.uses;
          indexes = ap (λ (g : Graph). g.indexes) put.graph ∙ puts.indexes ∙ at_hand.kept.indexes;
        },
      );
      weighs = (_, needs_names (graph_in s).names (label ∷ keys_in pairs) c at_hand.uses, let k = at_hand.weighs in let e = weighs ∙ ends_are in omega arith);
      free = edge_free s.shape.limit (graph_in s) from label to pairs leaves enters room at_hand.free;
    }
