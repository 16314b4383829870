-- Which identifiers of relationships are free while an edge is added, whatever the records are.
use Rattle.std.proofs.Common.{◌≡◌, ◌∙◌, ℕ, List, sym, ap, subst, inl, ⊎_elim, arith}
use Rattle.plain_graph.specs.declared.command.Target.TheVariants as targets
use Rattle.rec_bytes.specs.declared.key.Key.{Key}
use Rattle.rec_bytes.specs.declared.meta.Meta.{Meta}
use Rattle.rec_bytes.specs.declared.record.Rec.{Rec}
use Rattle.rec_bytes.specs.Format as format
use Rattle.rec_bytes.specs.Meta as metas
use Rattle.rec_bytes.specs.Record.{field}
use Rattle.rec_bytes.specs.RecordFiles.{meta_key_of}
use Rattle.rec_bytes.specs.Space.{SameButReads, State, meta_in, put}
use Rattle.rec_bytes.proofs.Spaces.{put_other, put_other_file}
use Rattle.store_rules.specs.Chains.{In, IsWalk}
use Rattle.store_rules.specs.Rules.{next_free}
use Rattle.store_rules.specs.Views.{Records, high, key_in}
use Rattle.store_rules.proofs.ChainLaws.{walk_stays}
use Rattle.store_rules.proofs.NumberLaws.{nat_cases}
use Rattle.id_freelist.specs.FreeLists.{IsFreeList}
use Rattle.id_freelist.specs.Taking.{mark_after, rest_of}
use Rattle.rel_store.specs.RelRecord.{rel_key, rel_record}
use Rattle.chain_edit.specs.Heads.{head_of}
use Rattle.group_store.specs.Leaving.{LeavesBeside}
use Rattle.group_store.proofs.Makes.{rest_once}
use Rattle.prop_store.specs.Touching.{LeavesElement}
use Rattle.change_parts.specs.Damage.{KeepsButNames}
use Rattle.change_parts.specs.Owners.{owner_of}
use Rattle.edge_changes.specs.declared.edge_end.EdgeEnd.{EdgeEnd}
use Rattle.edge_changes.specs.declared.edge_end.Ends.{Ends}
use Rattle.edge_changes.specs.declared.edge_end.Ends.TheVariants.{Loop, Two}
use Rattle.edge_changes.specs.EdgeEnds.{AtEach, IsEdgeEnd}
use Rattle.edge_changes.specs.EdgeJoining.{HasPlaced, end_joined, ends_joined, new_row}
use Rattle.edge_changes.specs.EdgePlacing.{KeepsFreeEdges, TakesFirst}
use Rattle.edge_changes.proofs.EdgeStands.{meta_joined, meta_owned, rel_joined}
use Rattle.edge_changes.proofs.JoinBlames.{meta_beside}

-- ---- before and after

kept_list : (s t : Records) → KeepsFreeEdges s t → (free : List ℕ) → IsFreeList s format.relationships_file free → IsFreeList t format.relationships_file free
kept_list s t keeps free list = subst (λ (m : Meta). IsWalk (next_free t format.relationships_file) m.free free) (sym keeps.meta)
    (walk_stays (next_free s format.relationships_file) (next_free t format.relationships_file) (meta_in s format.relationships_file).free free
    (λ x _. keeps.next x) list)

pub free_then : (s t u : Records) → KeepsFreeEdges s t → KeepsFreeEdges t u → KeepsFreeEdges s u
free_then s t u one other = record { meta = other.meta ∙ one.meta; next = λ x. other.next x ∙ one.next x }

pub taken_after : (s t u : Records) → KeepsFreeEdges s t → TakesFirst t u format.relationships_file → TakesFirst s u format.relationships_file
taken_after s t u keeps takes free list =
    let took = takes free (kept_list s t keeps free list) in
    (took.0, took.1 ∙ ap (λ (m : Meta). mark_after free m.high) keeps.meta)

pub taken_before : (s t u : Records) → TakesFirst s t format.relationships_file → KeepsFreeEdges t u → TakesFirst s u format.relationships_file
taken_before s t u takes keeps free list =
    let took = takes free list in
    (kept_list t u keeps (rest_of free) took.0, ap (λ (m : Meta). m.high) keeps.meta ∙ took.1)

-- ---- where they stay

pub read_frees : (s t : State) → SameButReads s t → KeepsFreeEdges s.records t.records
read_frees s t same = record {
  meta = ap (λ (z : State). meta_in z.records format.relationships_file) same;
  next = λ x. ap (λ (z : State). next_free z.records format.relationships_file x) same;
}

-- names were made
pub names_free : (s t : State) → KeepsButNames s t → KeepsFreeEdges s.records t.records
names_free s t keeps = record {
  meta = ap metas.meta_of (keeps (meta_key_of format.relationships_file) (λ e. omega arith) (λ e. let f = ap (λ (k : Key). k.id) e in omega arith));
  next = λ x. ap (λ r. field 4 r format.free_next)
      (keeps (key_in format.relationships_file x) (λ e. omega arith) (λ e. let f = ap (λ (k : Key). k.file) e in omega arith));
}

-- a head was found or made
pub head_frees : (s t : State) (node : ℕ) → LeavesBeside s.records t.records node → KeepsFreeEdges s.records t.records
head_frees s t node beside = record {
  meta = ap metas.meta_of (meta_beside s t node beside);
  next = λ x. beside.rels x 4 format.free_next (omega arith) (inl (omega arith));
}

-- a relationship joined the chains of its ends
end_frees : (s : State) (end : EdgeEnd) (rel : ℕ) → IsEdgeEnd end → KeepsFreeEdges s.records (end_joined s end rel).records
end_frees s end rel is = record {
  meta = ap metas.meta_of (meta_joined s end rel is);
  next = λ x. rel_joined s (head_of end.head) end.node rel _ is.head.place.elsewhere x 4 format.free_next (omega arith);
}

pub ends_free : (s t : State) (ends : Ends EdgeEnd) (rel : ℕ) → AtEach IsEdgeEnd ends → t ≡ ends_joined s ends rel → KeepsFreeEdges s.records t.records
ends_free s t ends rel each is = subst (λ (z : State). KeepsFreeEdges s.records z.records) (sym is) (by ends each)
  where
    by : (ends : Ends EdgeEnd) → AtEach IsEdgeEnd ends → KeepsFreeEdges s.records (ends_joined s ends rel).records
    by (Loop end) each = end_frees s end rel each
    by (Two source target) each = free_then s.records (end_joined s source rel).records (end_joined (end_joined s source rel) target rel).records
        (end_frees s source rel each.0) (end_frees (end_joined s source rel) target rel each.1)

-- an edge got its properties
pub owner_frees : (s t : State) (id : ℕ) → LeavesElement s t (owner_of (targets.Edge id)) → KeepsFreeEdges s.records t.records
owner_frees s t id left = record { meta = ap metas.meta_of (meta_owned s t id left); next = next }
  where
    next : (x : ℕ) → next_free t.records format.relationships_file x ≡ next_free s.records format.relationships_file x
    next x = ⊎_elim
        (λ (e : x ≡ id). subst (λ n. next_free t.records format.relationships_file n ≡ next_free s.records format.relationships_file n) (sym e)
        (left.own 4 format.free_next (omega arith) (inl (omega arith))))
        (λ ne. ap (λ r. field 4 r format.free_next) (left.others (key_in format.relationships_file x) (λ e. omega arith) (λ e. omega arith)
        (λ e. let f = ap (λ (k : Key). k.file) e in omega arith) (λ e. let f = ap (λ (k : Key). k.file) e in omega arith)
        (λ e. ne (ap (λ (k : Key). k.id) e)))) (nat_cases x id)

-- ---- one is taken

pub placed_takes : (s t : State) (label from to id : ℕ) → HasPlaced s t label from to id → TakesFirst s.records t.records format.relationships_file
placed_takes s t label from to id placed free list =
    let took = placed.taken free list in
    let rec : Rec = rel_record (new_row id label from to) in
    let mid = placed.took.records in
    let now = put mid (rel_key id) rec in
    let meta : meta_in now format.relationships_file ≡ meta_in mid format.relationships_file = ap metas.meta_of
    (put_other_file mid (rel_key id) rec (meta_key_of format.relationships_file) (λ e. omega arith)) in
    let next : (x : ℕ) → In x (rest_of free) → next_free now format.relationships_file x ≡ next_free mid format.relationships_file x
    = λ x i. ap (λ r. field 4 r format.free_next) (put_other mid (rel_key id) rec (key_in format.relationships_file x) (λ e. rest_once
    (next_free s.records format.relationships_file) (meta_in s.records format.relationships_file).free
    (high s.records format.relationships_file) id free took.is
    list (subst (λ z. In z (rest_of free)) (ap (λ (k : Key). k.id) e) i))) in
    subst (λ (z : State). IsFreeList z.records format.relationships_file (rest_of free) × (high z.records format.relationships_file ≡ mark_after free
    (high s.records format.relationships_file))) (sym placed.saved) (
      subst (λ (m : Meta). IsWalk (next_free now format.relationships_file) m.free (rest_of free)) (sym meta)
          (walk_stays (next_free mid format.relationships_file) (next_free now format.relationships_file) (meta_in mid format.relationships_file).free
          (rest_of free) next took.list),
      ap (λ (m : Meta). m.high) meta ∙ took.mark,
    )
