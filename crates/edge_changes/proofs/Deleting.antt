-- Edges that are deleted with their properties.
use Rattle.std.proofs.Common.{◌≡◌, ℕ, ◌+◌, ◌≤◌, true, false, Some, List, sym, ap, ◌∙◌, subst, inl, inr, arith, refl}
use Rattle.plain_graph.specs.Graph.{Graph, change_edge, edge_number, has_edge, without_row}
use Rattle.plain_graph.specs.Properties.{no_properties}
use Rattle.plain_graph.specs.Refusals.{NoReason, change_reasons}
use Rattle.plain_graph.specs.Reply.{Done}
use Rattle.plain_graph.specs.declared.command.Command.TheVariants as commands
use Rattle.plain_graph.specs.declared.command.Target.TheVariants as targets
use Rattle.rec_bytes.specs.Format as format
use Rattle.rec_bytes.specs.Record.{field}
use Rattle.rec_bytes.specs.Space.{SameButReads, State}
use Rattle.store_rules.specs.Views as views
use Rattle.store_rules.specs.Views.{kind_at, rec_at, rel_at, rel_in}
use Rattle.store_rules.proofs.GraphRows.{edge_there}
use Rattle.store_rules.proofs.PropertyFrames as fr
use Rattle.store_rules.proofs.ViewLaws.{row_some, some_row}
use Rattle.prop_store.specs.Changing.{DropsAll, HasElement}
use Rattle.prop_store.specs.declared.changing.Dropped.{Dropped}
use Rattle.prop_store.specs.declared.owner.Owner.{Owner}
use Rattle.rel_store.specs.declared.rel_row.RelRow.{RelRow}
use Rattle.rel_store.specs.Loading as rels
use Rattle.rel_store.proofs.Rows as rel_rows
use Rattle.change_parts.specs.Change.{IsRefusal, MakesChange}
use Rattle.edge_changes.specs.EdgeDeleting.{HasBareRow, TakesEdge}
use Rattle.change_parts.specs.Owners.{owner_of}
use Rattle.change_parts.specs.Store.{IsMidway}
use Rattle.change_parts.specs.declared.change_fault.ChangeFault.TheVariants.{NoEdge}
use Rattle.change_parts.proofs.Elements.{edge_loaded, has_owner}
use Rattle.change_parts.proofs.Readings.{made_read, store_read}
use Rattle.store_rules.specs.Indexes.{AreIndexed, wanted_in}
use Rattle.change_parts.proofs.KeptIndexes.{properties_keep, store_now}
use Rattle.change_parts.proofs.ElementChanges.{without_changed}
use Rattle.store_rules.specs.Graph.{graph_in}

-- ---- why an edge isn't deleted

pub edge_lacked : (limit : ℕ) (graph : Graph) (id : ℕ) → has_edge graph id ≡ false → IsRefusal limit graph (commands.Delete (targets.Edge id)) (NoEdge id)
edge_lacked limit graph id lacks = inr (λ o z. z, inr (λ o z. z, inr (λ o z. z, inr (λ o z. z, inr (λ o z. z, inl (lacks, refl))))))

clash : true ≡ false → ⊥
clash e = cc

edge_free : (limit : ℕ) (graph : Graph) (id : ℕ) → has_edge graph id ≡ true → NoReason change_reasons limit graph (commands.Delete (targets.Edge id))
edge_free limit graph id there = (
  λ o z. z,
  (
    λ o z. z,
    (
      λ o z. z,
      (
        λ o z. z,
        (
          λ o z. z,
          (
            λ o z. clash (sym there ∙ z.0),
            (λ o z. z, (λ o z. z, (λ o z. z, (λ o z. z, (λ o z. z, (λ o z. z, (λ o z. z, (λ o z. z, (λ o z. z, (λ o z. z, tt)))))))))),
          ),
        ),
      ),
    ),
  ),
)

-- ---- the store after the properties of an edge were taken away
module _ (s u : State) (names : List (List ℕ)) (dropped : Dropped) (store : IsMidway s names) where
  -- of an edge, which is taken out of the chains of its ends then
  module _ (id : ℕ) (h : DropsAll s u (owner_of (targets.Edge id)) dropped) (rel : RelRow) (found : Some rel ≡ rels.row_at s.records id) where
    edge_store : IsMidway u names
    edge_store = record { store = h.changes.store; names = store.names ∙ sym (ap (λ (z : Graph). z.names) h.graph) }

    rel_number : (at : ℕ) → at + 4 ≤ 32 → field 4 (rec_at u.records format.relationships_file id) at ≡ field 4 (rec_at s.records format.relationships_file id)
        at
    rel_number at low = fr.rel_field s.records u.records s.shape format.relationships_file id h.changes.before h.changes.after h.changes.changes id at (inl low)
        (omega arith)

    bare_row : (r : views.RelRow) → rel_at s.records id ≡ Some r → rel_at u.records id ≡ Some (record r { property = format.nil })
    bare_row r is =
        let k = some_row (kind_at s.records format.relationships_file id) (rel_in (rec_at s.records format.relationships_file id) id) r is in
        let still = fr.used_now s.records u.records s.shape format.relationships_file id h.changes.before h.changes.after h.changes.changes in
        let number = ap (λ (z : views.RelRow). record z { property = format.nil }) k.1 in
        row_some (kind_at u.records format.relationships_file id) (rel_in (rec_at u.records format.relationships_file id) id) still
        ∙ (λ i. Some (record {
          id = id;
          label = rel_number format.relationship_type (omega arith) i;
          from = rel_number format.relationship_source (omega arith) i;
          to = rel_number format.relationship_target (omega arith) i;
          property = h.bare i;
        })) ∙ ap (λ z. Some z) number

    edge_bare : HasBareRow u.records id rel
    edge_bare = bare_row (rel_rows.rule_row rel) (rel_rows.rel_at-Some s.records id rel (sym found))
        ∙ (λ i. Some (record { id = numbered i; label = rel.label; from = rel.from; to = rel.to; property = format.nil }))
      where
        numbered : rel.id ≡ id
        numbered = sym (ap (λ (r : RelRow). r.id) (rel_rows.kind-row_at-Some s.records id rel (sym found)).1)

    edge_deleted : (t : State) → AreIndexed s.records (wanted_in s.records) → TakesEdge u t names id
        → MakesChange (commands.Delete (targets.Edge id)) Done (13 + dropped.properties + dropped.blocks) s t names
    edge_deleted t are takes =
        let there = edge_there s.records id (rel_rows.kind-row_at-Some s.records id rel (sym found)).0 in
        record {
          store = store_now t names takes.store (takes.indexes (properties_keep s u s.shape format.relationships_file id h.changes.before h.changes.after
              h.changes.changes refl store.store are));
          changes = (
            refl,
            record {
              there = there;
              nodes = takes.removes.nodes ∙ ap (λ (z : Graph). z.nodes) h.graph;
              edges = takes.removes.edges ∙ ap (λ (z : Graph). without_row edge_number id z.edges) h.graph
                  ∙ without_changed edge_number id (change_edge (λ _. no_properties)) (λ e. refl) (graph_in s).edges;
              names = takes.removes.names ∙ ap (λ (z : Graph). z.names) h.graph;
              indexes = takes.removes.indexes ∙ ap (λ (z : Graph). z.indexes) h.graph;
            },
          );
          weighs = let p = h.properties in let b = h.blocks in omega arith;
          free = edge_free s.shape.limit (graph_in s) id there;
        }

-- ---- the edge, after it was read
module _ (s v : State) (names : List (List ℕ)) (id : ℕ) (rel : RelRow) (store : IsMidway s names) (found : Some rel ≡ rels.row_at s.records id)
    (same : SameButReads s v) where
  store_then : IsMidway v names
  store_then = store_read s v names same store

  found_then : Some rel ≡ rels.row_at v.records id
  found_then = subst (λ z. Some rel ≡ rels.row_at z.records id) (sym same) found

  pub edge_element : HasElement v (owner_of (targets.Edge id))
  edge_element = has_owner v names (targets.Edge id) store_then (edge_loaded v id rel found_then)

  -- its properties are taken away, and then it is taken out of the chains of its ends
  module _ (u : State) (owner : Owner) (is : owner ≡ owner_of (targets.Edge id)) (dropped : Dropped) (drops : HasElement v owner → DropsAll v u owner dropped)
    where
      gone_properties : DropsAll v u (owner_of (targets.Edge id)) dropped
      gone_properties = subst (λ o. HasElement v o → DropsAll v u o dropped) is drops edge_element

      pub left_store : IsMidway u names
      left_store = edge_store v u names dropped store_then id gone_properties rel found_then

      pub left_bare : HasBareRow u.records id rel
      left_bare = edge_bare v u names dropped store_then id gone_properties rel found_then

      pub edge_made : (t : State) → AreIndexed s.records (wanted_in s.records) → TakesEdge u t names id
          → MakesChange (commands.Delete (targets.Edge id)) Done (13 + dropped.properties + dropped.blocks) s t names
      edge_made t are takes = made_read s v t names (commands.Delete (targets.Edge id)) Done (13 + dropped.properties + dropped.blocks) same
          (edge_deleted v u names dropped store_then id gone_properties rel found_then t (subst (λ (z : State). AreIndexed z.records (wanted_in z.records))
          (sym same) are) takes)
