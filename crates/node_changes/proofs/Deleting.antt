-- Nodes that are deleted with their properties.
use Rattle.std.proofs.Common.{◌≡◌, ◌≢◌, ℕ, ◌+◌, true, false, List, sym, ap, ◌∙◌, subst, inl, inr, arith, refl}
use Rattle.plain_graph.specs.Graph.{Graph, change_node, degree_in, has_node, node_number, without_row}
use Rattle.plain_graph.specs.Properties.{no_properties}
use Rattle.plain_graph.specs.Refusals.{NoReason, change_reasons}
use Rattle.plain_graph.specs.Reply.{Done}
use Rattle.plain_graph.specs.declared.command.Command.TheVariants as commands
use Rattle.plain_graph.specs.declared.command.Target.TheVariants as targets
use Rattle.rec_bytes.specs.Format as format
use Rattle.rec_bytes.specs.Space.{State}
use Rattle.store_rules.specs.Rules.{IsWellFormed}
use Rattle.store_rules.specs.Views.{degree, kind_at}
use Rattle.store_rules.proofs.GraphRows.{degree_in-degree, node_there}
use Rattle.store_rules.proofs.Made.{IsGone}
use Rattle.store_rules.proofs.NodeChange as nc
use Rattle.store_rules.proofs.NodeChange.{edges_stay, names_stay}
use Rattle.store_rules.proofs.NodeGone.{IsBare, gone_well, node_removed}
use Rattle.store_rules.proofs.NodeStores.{is_bare}
use Rattle.store_rules.proofs.PropertyFrames as fr
use Rattle.id_freelist.specs.Giving.{CanGive, HasGiven}
use Rattle.id_freelist.proofs.Leaving.{is_gone, not_free_id}
use Rattle.prop_store.specs.Changing.{DropsAll}
use Rattle.prop_store.specs.declared.changing.Dropped.{Dropped}
use Rattle.change_parts.specs.Change.{IsRefusal, MakesChange}
use Rattle.node_changes.specs.NodeDeleting.{KeepsOtherKinds}
use Rattle.change_parts.specs.Owners.{owner_of}
use Rattle.change_parts.specs.Store.{IsMidway, IsStore}
use Rattle.change_parts.specs.declared.change_fault.ChangeFault.TheVariants.{NoNode, HasRelationships}
use Rattle.change_parts.proofs.KeptLinks.{drop_kinds}
use Rattle.plain_graph.specs.Indexes.{element_weight}
use Rattle.change_parts.proofs.KeptIndexes.{node_graph_indexes}
use Rattle.store_rules.proofs.Shapes.{room_small}
use Rattle.change_parts.proofs.ElementChanges.{without_changed}
use Rattle.store_rules.specs.Graph.{graph_in}

-- ---- why a node isn't deleted

pub node_lacked : (limit : ℕ) (graph : Graph) (id : ℕ) → has_node graph id ≡ false → IsRefusal limit graph (commands.Delete (targets.Node id)) (NoNode id)
node_lacked limit graph id lacks = inr (λ o z. z, inr (λ o z. z, inr (λ o z. z, inr (λ o z. z, inl (lacks, refl)))))

clash : true ≡ false → ⊥
clash e = cc

pub node_joined : (limit : ℕ) (graph : Graph) (id d : ℕ) → has_node graph id ≡ true → degree_in graph id ≢ 0
    → IsRefusal limit graph (commands.Delete (targets.Node id)) (HasRelationships id d)
node_joined limit graph id d there some = inr
    (λ o z. z, inr (λ o z. z, inr (λ o z. z, inr (λ o z. z, inr (λ o z. clash (sym there ∙ z.0), inr (λ o z. z, inl (some, refl)))))))

node_free : (limit : ℕ) (graph : Graph) (id : ℕ) → has_node graph id ≡ true → degree_in graph id ≡ 0
    → NoReason change_reasons limit graph (commands.Delete (targets.Node id))
node_free limit graph id there lone = (
  λ o z. z,
  (
    λ o z. z,
    (
      λ o z. z,
      (
        λ o z. z,
        (
          λ o z. clash (sym there ∙ z.0),
          (λ o z. z, (λ o z. z.0 lone, (λ o z. z, (λ o z. z, (λ o z. z, (λ o z. z, (λ o z. z, (λ o z. z, (λ o z. z, (λ o z. z, (λ o z. z, tt))))))))))),
        ),
      ),
    ),
  ),
)

-- ---- the store after the properties of an element were taken away
module _ (s u : State) (names : List (List ℕ)) (dropped : Dropped) (store : IsMidway s names) where
  -- of a node without relationships, whose identifier is given back then
  module _ (id : ℕ) (h : DropsAll s u (owner_of (targets.Node id)) dropped) where
    node_store : IsMidway u names
    node_store = record { store = h.changes.store; names = store.names ∙ sym (ap (λ (z : Graph). z.names) h.graph) }

    module _ (t : State) (used : kind_at s.records format.nodes_file id ≢ format.free_kind) (lone : degree s.records id ≡ 0) (before : u.shape ≡ s.shape)
        (after : t.shape ≡ u.shape)
        (given : (free : List ℕ) → CanGive u format.nodes_file id free → HasGiven u.records t.records format.nodes_file id free) where
      used_still : kind_at u.records format.nodes_file id ≢ format.free_kind
      used_still = fr.used_now s.records u.records s.shape format.nodes_file id h.changes.before h.changes.after h.changes.changes

      bare : IsBare u.records id
      bare = is_bare u.records u.shape node_store.store id used_still (fr.degrees_same s.records u.records s.shape format.nodes_file id h.changes.before
          h.changes.after h.changes.changes id ∙ lone) h.bare

      pub node_gone : IsGone u.records t.records u.shape format.nodes_file id
      node_gone =
          let split = node_store.store.split format.nodes_file refl in
          is_gone u.records t.records u.shape format.nodes_file id split.0 refl split.1 used_still
          (given split.0 (record { list = split.1.walk; fresh = not_free_id u.records format.nodes_file id split.0 split.1 used_still }))
          (room_small u.records u.shape format.nodes_file node_store.store.ranges) (node_store.store.ranges.metas format.nodes_file refl)

      pub node_kinds : KeepsOtherKinds s t id
      node_kinds n ne = nc.kind_other u.records t.records id node_gone.change n ne ∙ drop_kinds s u (targets.Node id) dropped h n

      pub node_left : IsMidway t names
      node_left = record {
        store = subst (IsWellFormed t.records) (sym after) (gone_well u.records t.records u.shape id node_gone bare node_store.store);
        names = node_store.names ∙ sym (names_stay u.records t.records id node_gone.change);
      }

      -- its entries leave the indexes then
      pub node_deleted : (v : State) (entries : ℕ) → IsStore v names → graph_in v ≡ graph_in t
          → element_weight (graph_in s) (targets.Node id) (λ key. true) no_properties ≡ entries
          → MakesChange (commands.Delete (targets.Node id)) Done (1 + dropped.properties + dropped.blocks + entries) s v names
      node_deleted v entries whole last w =
          let there = node_there s.records id used in
          let alone = degree_in-degree s.records s.shape store.store id used ∙ lone in
          record {
            store = whole;
            changes = (
              refl,
              record {
                there = there;
                lone = alone;
                nodes = ap (λ (z : Graph). z.nodes) last ∙ node_removed u.records t.records u.shape id node_gone bare node_store.store
                    ∙ ap (λ (z : Graph). without_row node_number id z.nodes) h.graph
                    ∙ without_changed node_number id (change_node (λ _. no_properties)) (λ e. refl) (graph_in s).nodes;
                edges = ap (λ (z : Graph). z.edges) last ∙ edges_stay u.records t.records id node_gone.change ∙ ap (λ (z : Graph). z.edges) h.graph;
                names = ap (λ (z : Graph). z.names) last ∙ names_stay u.records t.records id node_gone.change ∙ ap (λ (z : Graph). z.names) h.graph;
                indexes = ap (λ (z : Graph). z.indexes) last ∙ node_graph_indexes u.records t.records id node_gone.change
                    ∙ ap (λ (z : Graph). z.indexes) h.graph;
              },
            );
            weighs = let p = h.properties in let b = h.blocks in omega arith;
            free = node_free s.shape.limit (graph_in s) id there alone;
          }
