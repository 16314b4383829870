-- A new edge that stands in the records, whatever they are.
use Rattle.std.specs.Prelude.{slice_get}
use Rattle.std.proofs.Common.{◌≡◌, ◌≢◌, ◌∙◌, ℕ, ◌+◌, ◌≤◌, nat_lt, cond, List, Some, sym, ap, subst, inl, arith, refl}
use Rattle.plain_graph.specs.declared.command.Target.TheVariants as targets
use Rattle.rec_bytes.specs.declared.key.Key.{Key}
use Rattle.rec_bytes.specs.declared.record.Rec.{Rec}
use Rattle.rec_bytes.specs.Format as format
use Rattle.rec_bytes.specs.Meta as metas
use Rattle.rec_bytes.specs.Record.{field, with_field}
use Rattle.rec_bytes.specs.RecordFiles.{meta_key_of}
use Rattle.rec_bytes.specs.Space.{State, after_get}
use Rattle.rec_bytes.proofs.Spaces.{put_other_file}
use Rattle.store_rules.specs.Rules.{Head, first_of}
use Rattle.store_rules.specs.Views.{Records, high, key_in, kind_in, rec_at}
use Rattle.store_rules.proofs.MetaLaws.{not_meta_key}
use Rattle.prop_store.specs.Touching.{LeavesElement}
use Rattle.chain_edit.specs.Chains.{next_place}
use Rattle.chain_edit.specs.Heads.{head_of}
use Rattle.chain_edit.specs.Links.{backed, next_set}
use Rattle.chain_edit.specs.Pushing.{pushed}
use Rattle.chain_edit.proofs.Edits.{field-backed}
use Rattle.chain_edit.proofs.LinkLaws.{field-set_other, place_low, rel_rec}
use Rattle.group_store.specs.Counting.{one_more as counted_more, tallied}
use Rattle.group_store.proofs.Tallies.{file-tallied}
use Rattle.change_parts.specs.Owners.{owner_of}
use Rattle.edge_changes.specs.declared.edge_end.EdgeEnd.{EdgeEnd}
use Rattle.edge_changes.specs.declared.edge_end.Ends.{Ends}
use Rattle.edge_changes.specs.declared.edge_end.Ends.TheVariants.{Loop, Two}
use Rattle.edge_changes.specs.EdgeEnds.{AtEach, IsEdgeEnd, joined}
use Rattle.edge_changes.specs.EdgeJoining.{end_joined, ends_joined}
use Rattle.edge_changes.specs.EdgePlacing.{IsEdgeBetween, IsEdgeLabelled}
use Rattle.edge_changes.proofs.EdgeSteps.{record_joined}

-- a record below the same mark with the same kind
kind_stays : (mark other x : ℕ) (r q : Rec) → other ≡ mark → field 1 q format.kind ≡ field 1 r format.kind → kind_in other q x ≡ kind_in mark r x
unfolding kind_in
kind_stays mark other x r q marks kinds = λ i. cond (nat_lt x (marks i)) (kinds i) 0

-- where its kind, its type and its ends are as they were, and as many were given out
edge_stays : (s t : Records) (id from type to : ℕ) → high t format.relationships_file ≡ high s format.relationships_file
    → ((n at : ℕ) → at + n ≤ 16 → field n (rec_at t format.relationships_file id) at ≡ field n (rec_at s format.relationships_file id) at)
    → IsEdgeBetween s id from type to → IsEdgeBetween t id from type to
edge_stays s t id from type to mark number is = record {
  used = λ e. is.used (sym (kind_stays (high s format.relationships_file) (high t format.relationships_file) id (rec_at s format.relationships_file id)
      (rec_at t format.relationships_file id) mark (number 1 format.kind (omega arith))) ∙ e);
  from_is = number 4 format.relationship_source (omega arith) ∙ is.from_is;
  type_is = number 4 format.relationship_type (omega arith) ∙ is.type_is;
  to_is = number 4 format.relationship_target (omega arith) ∙ is.to_is;
}

-- ---- it joins the chains of its ends

-- none of the first numbers of a relationship is other
pub rel_joined : (s : State) (head : Head) (node rel d : ℕ) → head.key.file ≢ format.relationships_file → (x n at : ℕ) → at + n ≤ 16
    → field n (rec_at (joined s head node rel d).records format.relationships_file x) at ≡ field n (rec_at s.records format.relationships_file x) at
unfolding joined pushed
rel_joined s head node rel d apart x n at low =
    let q = key_in format.relationships_file x in
    let old = first_of s.records head in
    let back = backed (after_get s) node old rel in
    let linked = next_set back node rel old in
    let told = tallied counted_more (pushed s head node rel) head in
    let to_next = place_low (rel_rec back.records rel) node in
    let to_back = place_low (rel_rec s.records old) node in
    ap (λ r. field n r at) (put_other_file told.records (key_in format.nodes_file node)
    (with_field 4 (told.records (key_in format.nodes_file node)) format.node_degree d) q (λ e. omega arith))
    ∙ ap (λ r. field n r at) (file-tallied counted_more (pushed s head node rel) head q (λ e. omega arith))
    ∙ ap (λ r. field n r at) (put_other_file linked.records head.key (with_field 4 (s.records head.key) head.field rel) q (λ e. apart (sym e)))
    ∙ field-set_other back.records (next_place back.records node rel) old q n at (omega (arith, low)) (λ _. inl (omega (arith, low, to_next)))
    ∙ field-backed (after_get s) node old rel q n at (omega (arith, low)) (λ _. inl (omega (arith, low, to_back)))

-- nor is the meta record of the relationships
pub meta_joined : (s : State) (end : EdgeEnd) (rel : ℕ) → IsEdgeEnd end
    → (end_joined s end rel).records (meta_key_of format.relationships_file) ≡ s.records (meta_key_of format.relationships_file)
meta_joined s end rel is = record_joined s (head_of end.head) end.node rel _ (meta_key_of format.relationships_file) (λ e. omega arith)
    (λ e. not_meta_key end.head.key.file end.head.key.id format.relationships_file is.own (sym e)) (λ e. let f = ap (λ (k : Key). k.file) e in omega arith)

end_stands : (s : State) (end : EdgeEnd) (rel : ℕ) → IsEdgeEnd end → (id from type to : ℕ) → IsEdgeBetween s.records id from type to
    → IsEdgeBetween (end_joined s end rel).records id from type to
end_stands s end rel is id from type to stands =
    edge_stays s.records (end_joined s end rel).records id from type to
    (ap (λ r. (metas.meta_of r).high) (meta_joined s end rel is)) (rel_joined s (head_of end.head) end.node rel _ is.head.place.elsewhere id) stands

pub ends_stand : (s t : State) (ends : Ends EdgeEnd) (rel : ℕ) → AtEach IsEdgeEnd ends → t ≡ ends_joined s ends rel → (id from type to : ℕ)
    → IsEdgeBetween s.records id from type to → IsEdgeBetween t.records id from type to
ends_stand s t ends rel each is id from type to stands =
    subst (λ (z : State). IsEdgeBetween z.records id from type to) (sym is) (by ends each)
  where
    by : (ends : Ends EdgeEnd) → AtEach IsEdgeEnd ends → IsEdgeBetween (ends_joined s ends rel).records id from type to
    by (Loop end) each = end_stands s end rel each id from type to stands
    by (Two source target) each =
        end_stands (end_joined s source rel) target rel each.1 id from type to (end_stands s source rel each.0 id from type to stands)

-- ---- it gets its properties

pub meta_owned : (s t : State) (id : ℕ) → LeavesElement s t (owner_of (targets.Edge id))
    → t.records (meta_key_of format.relationships_file) ≡ s.records (meta_key_of format.relationships_file)
meta_owned s t id left = left.others (meta_key_of format.relationships_file) (λ e. omega arith) (λ e. omega arith)
    (λ e. let f = ap (λ (k : Key). k.id) e in omega arith) (λ e. let f = ap (λ (k : Key). k.id) e in omega arith)
    (λ e. let f = ap (λ (k : Key). k.file) e in omega arith)

pub owner_stands : (s t : State) (names : List (List ℕ)) (id from type : ℕ) (label : List ℕ) (to : ℕ) → slice_get names type ≡ Some label
    → LeavesElement s t (owner_of (targets.Edge id)) → IsEdgeBetween s.records id from type to → IsEdgeLabelled t.records names id from label to
owner_stands s t names id from type label to at left stands = (
  type,
  at,
  edge_stays s.records t.records id from type to (ap (λ r. (metas.meta_of r).high) (meta_owned s t id left))
      (λ n at low. left.own n at (omega (arith, low)) (inl (omega (arith, low)))) stands,
)
