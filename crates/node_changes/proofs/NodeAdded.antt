-- The whole of adding a node, by what the calls left.
use Rattle.std.specs.List.{list_any}
use Rattle.std.proofs.Common.{◌≡◌, ℕ, ◌+◌, ◌*◌, ◌<◌, nat_eq, false, true, List, ◌∷◌, find, length, sym, ap, ◌∙◌, subst, inl, inr, arith, refl}
use Rattle.plain_graph.specs.Graph.{Graph, Node, UsesNames, change_node, node_number, node_properties, with_change, with_row}
use Rattle.plain_graph.specs.Properties.{keys_in, no_properties, with_pairs}
use Rattle.plain_graph.specs.Refusals.{FirstReason, change_reasons, index_full, nodes_full}
use Rattle.plain_graph.specs.Reply.{NodeMade}
use Rattle.plain_graph.specs.declared.command.Command.TheVariants as commands
use Rattle.plain_graph.specs.declared.command.Target.TheVariants as targets
use Rattle.plain_graph.specs.declared.pairs.Pair.{Pair}
use Rattle.plain_graph.specs.declared.refusal.Refusal.{Refusal}
use Rattle.rec_bytes.specs.declared.shape.Shape.{Shape}
use Rattle.rec_bytes.specs.Format as format
use Rattle.rec_bytes.specs.Space.{State, meta_of}
use Rattle.store_rules.proofs.NodeChange.{count_nodes}
use Rattle.change_parts.specs.Assigning.{CanPut, HasPropertyRoom, PutsPairs, assigned_blocks, pairs_of}
use Rattle.change_parts.specs.Change.{IsRefusedBy, MakesChange}
use Rattle.node_changes.specs.NodeAdding.{IsFullOfNodes, PutsNode}
use Rattle.change_parts.specs.Preparing.{IsPrepared, line_reasons}
use Rattle.change_parts.specs.Rooms.{HasRoom, LacksRoom}
use Rattle.change_parts.specs.Store.{IsMidway, IsStore, KeepsElements}
use Rattle.change_parts.specs.declared.change_fault.ChangeFault.{ChangeFault}
use Rattle.change_parts.specs.declared.change_fault.ChangeFault.TheVariants.{Full}
use Rattle.change_parts.specs.declared.preparing.Prepared.{Prepared}
use Rattle.change_parts.proofs.ElementRooms as rooms
use Rattle.change_parts.proofs.ElementChanges.{new_node_changed, new_node_properties, new_node_there}
use Rattle.change_parts.proofs.LineNames.{needs_names}
use Rattle.change_parts.proofs.Reasons.{None, index_reasons, refused_more}
use Rattle.plain_graph.specs.Indexes.{entries_weight}
use Rattle.plain_graph.proofs.LineLaws.{first_front, none_both}
use Rattle.store_rules.specs.Graph.{graph_in}

-- ---- room for a node
module _ (s : State) (names : List (List ℕ)) (store : IsMidway s names) where
  live_nodes : (meta_of s format.nodes_file).live ≡ length (graph_in s).nodes
  live_nodes = count_nodes s.records s.shape store.store

  pub not_full : HasRoom s format.nodes_file 1 → ¬ IsFullOfNodes s
  not_full = rooms.not_full s names store format.nodes_file (length (graph_in s).nodes) refl refl refl live_nodes

  pub lacks_full : (fault : ChangeFault) → LacksRoom s format.nodes_file 1 fault → IsFullOfNodes s
  lacks_full = rooms.lacks_full s names store format.nodes_file (length (graph_in s).nodes) refl refl refl live_nodes

  pub full_fault : (fault : ChangeFault) → LacksRoom s format.nodes_file 1 fault → fault ≡ Full format.nodes_file s.shape.limit
  full_fault fault why = why.is ∙ ap (λ n. Full format.nodes_file n) (live_nodes ∙ lacks_full fault why)

  -- a space with the same nodes has room for one more, too
  pub room_kept : (u : State) (c : List (List ℕ)) → KeepsElements s u c → HasRoom s format.nodes_file 1 → HasRoom u format.nodes_file 1
  room_kept u c kept = rooms.room_still s u format.nodes_file 1 (count_nodes u.records u.shape kept.store.store ∙ ap length kept.nodes ∙ sym live_nodes)
      kept.shape

-- ---- refusals
none_of : (other : Refusal) → ⊥ → ⊥
none_of other h = h

pub full_refused : (s : State) (names : List (List ℕ)) (label : List ℕ) (pairs : List Pair) → IsMidway s names → (fault : ChangeFault)
    → LacksRoom s format.nodes_file 1 fault → IsRefusedBy change_reasons s.shape.limit (graph_in s) (commands.Node label pairs) fault
full_refused s names label pairs store fault why =
    subst (IsRefusedBy change_reasons s.shape.limit (graph_in s) (commands.Node label pairs)) (sym why.is)
    (λ e. omega arith, inl (lacks_full s names store fault why, refl))

-- the reasons before those of the line aren't a node's, but for want of a node's room
module _ (s : State) (label : List ℕ) (pairs : List Pair) (room : ¬ IsFullOfNodes s) where
  pub no_full : None (nodes_full s.shape.limit (graph_in s) (commands.Node label pairs))
  no_full other why = room why.0

  line_first : (why : Refusal) → FirstReason line_reasons s.shape.limit (graph_in s) (commands.Node label pairs) why
      → FirstReason change_reasons s.shape.limit (graph_in s) (commands.Node label pairs) why
  line_first why h = inr (
    no_full,
    inr (
      none_of,
      inr (
        none_of,
        inr (
          none_of,
          inr (
            none_of,
            inr (
              none_of,
              inr (
                none_of,
                inr (
                  none_of,
                  inr (
                    none_of,
                    inr (
                      none_of,
                      first_front line_reasons index_reasons s.shape.limit (graph_in s)
                          (commands.Node label pairs) why h,
                    ),
                  ),
                ),
              ),
            ),
          ),
        ),
      ),
    ),
  )

  pub line_refused : (fault : ChangeFault) → IsRefusedBy line_reasons s.shape.limit (graph_in s) (commands.Node label pairs) fault
      → IsRefusedBy change_reasons s.shape.limit (graph_in s) (commands.Node label pairs) fault
  line_refused = refused_more line_reasons change_reasons s.shape.limit (graph_in s) (commands.Node label pairs) (commands.Node label pairs) line_first

-- ---- the change
module _ (s u v : State) (names c : List (List ℕ)) (label : List ℕ) (pairs : List Pair) (id : ℕ) (prepared : Prepared) (store : IsMidway s names)
    (at_hand : IsPrepared s u c label pairs prepared) (puts : PutsNode u v c prepared.label label id) (same : v.shape ≡ u.shape) where
  abbrev bare : Node
  bare = record { id = id; label = label; properties = no_properties }

  fresh : list_any (λ e. nat_eq (node_number e) id) (graph_in u).nodes ≡ false
  fresh = puts.fresh

  -- what the properties are put at
  pub can_put : CanPut v c (targets.Node id) pairs prepared.assigned.items
  can_put = record {
    store = puts.store;
    there = ap (list_any (λ e. nat_eq (node_number e) id)) puts.nodes ∙ new_node_there bare (graph_in u).nodes;
    bare = ap (λ ns. node_properties (find (λ e. nat_eq (node_number e) id) ns)) puts.nodes ∙ new_node_properties bare (graph_in u).nodes fresh;
    are = at_hand.assigned;
  }

  pub put_room : HasPropertyRoom v (length prepared.assigned.items) (assigned_blocks pairs prepared.assigned.items)
  put_room = rooms.properties_still u v (length prepared.assigned.items) (assigned_blocks pairs prepared.assigned.items)
      (puts.metas format.properties_file (λ e. omega arith)) (puts.metas format.strings_file (λ e. omega arith)) same at_hand.room

  module _ (w : State) (put : PutsPairs v w c (targets.Node id) (pairs_of c pairs prepared.assigned.items)) (room : ¬ IsFullOfNodes s) where
    abbrev ps : List Pair
    ps = pairs_of c pairs prepared.assigned.items

    abbrev full : Node
    full = record { id = id; label = label; properties = with_pairs no_properties pairs }

    nodes_are : (x : State) → graph_in x ≡ graph_in w → (graph_in x).nodes ≡ with_row node_number full (graph_in s).nodes
    nodes_are x last =
        ap (λ (g : Graph). g.nodes) (last ∙ put.graph) ∙ ap (with_change node_number id (change_node (λ m. with_pairs m ps))) puts.nodes
        ∙ new_node_changed (λ m. with_pairs m ps) bare (graph_in u).nodes fresh
        ∙ (λ i. with_row node_number (record { id = id; label = label; properties = at_hand.assigned.same i }) (at_hand.kept.nodes i))

    -- Its entries were added then, which no reason refuses.
    pub made : (x : State) (entries weight : ℕ) → IsStore x c → graph_in x ≡ graph_in w
        → entries_weight (graph_in s) label (λ key. true) no_properties (with_pairs no_properties pairs) ≡ 3 * entries
        → None (index_full s.shape.limit (graph_in s) (commands.Node label pairs)) → weight ≡ 1 + prepared.weight + 3 * entries
        → MakesChange (commands.Node label pairs) (NodeMade id) weight s x c
    made x entries weight whole last e fits is = record {
      store = whole;
      changes = (
        id,
        refl,
        record {
          below = subst (λ (h : Shape). id < h.limit) at_hand.kept.shape puts.below;
          fresh = ap (list_any (λ e. nat_eq (node_number e) id)) (sym at_hand.kept.nodes) ∙ fresh;
          nodes = nodes_are x last;
          edges = ap (λ (g : Graph). g.edges) (last ∙ put.graph) ∙ puts.edges ∙ at_hand.kept.edges;
          names = subst (UsesNames (graph_in s).names (label ∷ keys_in pairs)) whole.names at_hand.uses;
          indexes = ap (λ (g : Graph). g.indexes) (last ∙ put.graph) ∙ puts.indexes ∙ at_hand.kept.indexes;
        },
      );
      weighs = (_, needs_names (graph_in s).names (label ∷ keys_in pairs) c at_hand.uses, let k = at_hand.weighs in omega arith);
      free = (
        no_full s label pairs room,
        (
          none_of,
          (
            none_of,
            (
              none_of,
              (
                none_of,
                (
                  none_of,
                  (
                    none_of,
                    (
                      none_of,
                      (
                        none_of,
                        (
                          none_of,
                          none_both line_reasons index_reasons s.shape.limit (graph_in s) (commands.Node label pairs) at_hand.free
                              (none_of, (fits, tt)),
                        ),
                      ),
                    ),
                  ),
                ),
              ),
            ),
          ),
        ),
      );
    }
