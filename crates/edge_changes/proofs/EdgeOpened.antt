-- The heads where a new edge is to stand, which were opened one after the other.
use Rattle.std.proofs.Common.{◌≡◌, ◌≢◌, ℕ, ◌<◌, Some, List, [], ◌++◌, sym, ap, ◌∙◌, subst, inl, inr, ⊎_elim, arith}
use Rattle.plain_graph.specs.Graph.{Graph, edge_number, has_edge, has_node, with_row}
use Rattle.plain_graph.specs.Properties.{no_properties}
use Rattle.rec_bytes.specs.declared.key.Key.{Key}
use Rattle.rec_bytes.specs.declared.shape.Shape.{Shape}
use Rattle.rec_bytes.specs.Format as format
use Rattle.rec_bytes.specs.Space.{State}
use Rattle.store_rules.specs.Ends.{IsEndHead, Regroups, group_of_head}
use Rattle.store_rules.specs.Graph.{names_of}
use Rattle.store_rules.specs.Rules.{Head, IsOn, Owns}
use Rattle.store_rules.specs.Views.{GroupRow, RelRow, degree, group_at, kind_at}
use Rattle.store_rules.proofs.GroupLaws.{same_group}
use Rattle.store_rules.proofs.OnceLaws.{in_parts}
use Rattle.chain_edit.specs.Heads.{head_of}
use Rattle.group_store.specs.Opening.{IsCountedHead, OpensChain}
use Rattle.edge_changes.specs.declared.edge_end.EdgeEnd.{EdgeEnd}
use Rattle.edge_changes.specs.declared.edge_end.Ends.TheVariants.{Loop, Two}
use Rattle.edge_changes.specs.EdgeJoining.{CanJoin, MayStandAt, edge_row}
use Rattle.edge_changes.specs.EdgePlacing.{KeepsGraph, PutsEdge}
use Rattle.change_parts.proofs.KeptIndexes.{regroups_keep}

-- ---- what a change of another node's groups leaves
module _ (s t : State) (m : ℕ) (change : Regroups s t m) (h : Head) (n : ℕ) (ne : n ≢ m) where
  owns_stays : Owns (kind_at s.records format.nodes_file) (group_at s.records) h n → Owns (kind_at t.records format.nodes_file) (group_at t.records) h n
  owns_stays (inl o) = inl (record { sparse = change.kinds n ne ∙ o.sparse; is = o.is })
  owns_stays (inr o) = inr (record {
    dense = change.kinds n ne ∙ o.dense;
    row = o.row;
    group = change.groups o.row.id o.row o.group (λ e. ne (sym o.owner ∙ e));
    owner = o.owner;
    key = o.key;
    field = o.field;
  })

  on_stays : (row : RelRow) → Owns (kind_at s.records format.nodes_file) (group_at s.records) h n → IsOn (group_at s.records) h row
      → IsOn (group_at t.records) h row
  on_stays row o (inl b) = inl b
  on_stays row (inl o) (inr b) = absurd (let f = b.0 in let k = ap (λ (z : Head). z.key.file) o.is in omega arith)
  on_stays row (inr o) (inr b) =
      let same : b.1.row ≡ o.row = same_group b.1.row o.row (sym b.1.group ∙ ap (λ (z : Key). group_at s.records z.id) o.key ∙ o.group) in
      inr (
        b.0,
        record {
          row = b.1.row;
          group = change.groups h.key.id b.1.row b.1.group (λ e. ne (sym o.owner ∙ ap (λ (r : GroupRow). r.owner) (sym same) ∙ e));
          label = b.1.label;
          side = b.1.side;
        },
      )

  pub end_stays : (row : RelRow) → IsEndHead s.records h n row → IsEndHead t.records h n row
  end_stays row end = record { owns = owns_stays end.owns; on = on_stays row end.owns end.on }

-- its group is counted still
counted_stays : (s t : State) (m : ℕ) → ((g : ℕ) (row : GroupRow) → group_at s.records g ≡ Some row → row.owner ≢ m → kind_at t.records format.groups_file g ≡
    kind_at s.records format.groups_file g)
    → (h : Head) (n : ℕ) → n ≢ m → Owns (kind_at s.records format.nodes_file) (group_at s.records) h n → IsCountedHead s.records h → IsCountedHead t.records h
counted_stays s t m kinds h n ne (inl o) counted file = absurd (let e = ap (λ (z : Head). z.key.file) o.is in omega arith)
counted_stays s t m kinds h n ne (inr o) counted file =
    ap (λ (k : Key). kind_at t.records format.groups_file k.id) o.key ∙ kinds o.row.id o.row o.group (λ e. ne (sym o.owner ∙ e))
    ∙ ap (λ (k : Key). kind_at s.records format.groups_file k.id) (sym o.key) ∙ counted file

-- ---- the graph stays
pub keeps_graph : (s t : State) (n : ℕ) → Regroups s t n → KeepsGraph s t
keeps_graph s t n change = record { shape = change.shape; graph = change.graph; indexes = regroups_keep s t n change; metas = change.metas }

pub graph_twice : (s t u : State) → KeepsGraph s t → KeepsGraph t u → KeepsGraph s u
graph_twice s t u a b = record {
  shape = b.shape ∙ a.shape;
  graph = b.graph ∙ a.graph;
  indexes = λ are. b.indexes (a.indexes are);
  metas = λ file ne.
      b.metas file ne ∙ a.metas file ne;
}

-- an edge that is put then was put into the store before
pub puts_through : (s t u : State) (names : List (List ℕ)) (from : ℕ) (label : List ℕ) (to id : ℕ) → KeepsGraph s t → PutsEdge t u names from label to id
    → PutsEdge s u names from label to id
puts_through s t u names from label to id keeps puts = record {
  store = puts.store;
  keeps = λ are. puts.keeps (keeps.indexes are);
  indexes = puts.indexes ∙ ap (λ (g : Graph). g.indexes) keeps.graph;
  leaves = ap (λ g. has_node g from) (sym keeps.graph) ∙ puts.leaves;
  enters = ap (λ g. has_node g to) (sym keeps.graph) ∙ puts.enters;
  below = subst (λ (h : Shape). id < h.limit) keeps.shape puts.below;
  fresh = ap (λ g. has_edge g id) (sym keeps.graph) ∙ puts.fresh;
  nodes = puts.nodes ∙ ap (λ (g : Graph). g.nodes) keeps.graph;
  edges = puts.edges ∙ ap (λ (g : Graph). with_row edge_number (record { id = id; label = label; from = from; to = to; properties = no_properties }) g.edges)
      keeps.graph;
  first = puts.first;
  metas = λ file a b. puts.metas file a b ∙ keeps.metas file b;
}

-- ---- the head of a loop
pub opened_loop : (s t : State) (names : List (List ℕ)) (label : ℕ) (end : EdgeEnd) → names ≡ names_of s.records → degree s.records end.node ≡ end.degree
    → ((id : ℕ) → OpensChain s t (head_of end.head) end.node (edge_row id label end.node end.node) []) → CanJoin t names label (Loop end)
opened_loop s t names label end named degree_is opened = record {
  empty = group_of_head (head_of end.head) ++ [];
  keeps = (opened 0).keeps;
  into = λ g i. inl (⊎_elim (λ k. k) (λ k. absurd k) (in_parts g (group_of_head (head_of end.head)) [] i));
  named = named ∙ ap (λ (g : Graph). g.names) (sym (opened 0).regroups.graph);
  stands = λ id. record {
    head = (opened id).stands;
    degree = (opened id).regroups.degrees end.node ∙ degree_is;
    few = λ sparse. subst (λ n. n < t.shape.threshold) ((opened id).regroups.degrees end.node ∙ degree_is) ((opened id).few sparse);
    counted = (opened id).counted;
  };
}

-- ---- the heads of two nodes
module _ (s : State) (names : List (List ℕ)) (label : ℕ) (source target : EdgeEnd) (named : names ≡ names_of s.records)
    (leaves : degree s.records source.node ≡ source.degree) (enters : degree s.records target.node ≡ target.degree) where
  abbrev row : ℕ → RelRow
  row id = edge_row id label source.node target.node

  module _ (t u : State) (differ : source.node ≢ target.node) (first : (id : ℕ) → OpensChain s t (head_of source.head) source.node (row id) [])
      (second : (id : ℕ) → OpensChain t u (head_of target.head) target.node (row id) (group_of_head (head_of source.head) ++ [])) where
    source_stands : (id : ℕ) → MayStandAt u source (row id)
    source_stands id =
        let a = (first id).regroups in
        let b = (second id).regroups in
        record {
          head = end_stays t u target.node b (head_of source.head) source.node differ (row id) (first id).stands;
          degree = b.degrees source.node ∙ a.degrees source.node ∙ leaves;
          few = λ sparse. subst (λ (h : Shape). source.degree < h.threshold) (sym b.shape)
              (subst (λ n. n < t.shape.threshold) (a.degrees source.node ∙ leaves) ((first id).few (sym (b.kinds source.node differ) ∙ sparse)));
          counted = counted_stays t u target.node (second id).group_kinds (head_of source.head) source.node differ (first id).stands.owns (first id).counted;
        }

    target_stands : (id : ℕ) → MayStandAt u target (row id)
    target_stands id =
        let a = (first id).regroups in
        let b = (second id).regroups in
        let same = b.degrees target.node ∙ a.degrees target.node ∙ enters in
        record {
          head = (second id).stands;
          degree = same;
          few = λ sparse. subst (λ n. n < u.shape.threshold) same ((second id).few sparse);
          counted =
              (second id).counted;
        }

    pub opened_both : CanJoin u names label (Two source target)
    opened_both = record {
      empty = group_of_head (head_of target.head) ++ (group_of_head (head_of source.head) ++ []);
      keeps = (second 0).keeps;
      into = λ g i. ⊎_elim (λ k. inr k) (λ k. inl (⊎_elim (λ j. j) (λ j. absurd j) (in_parts g (group_of_head (head_of source.head)) [] k)))
          (in_parts g (group_of_head (head_of target.head)) (group_of_head (head_of source.head) ++ []) i);
      named = named ∙ ap (λ (g : Graph). g.names) (sym ((second 0).regroups.graph ∙ (first 0).regroups.graph));
      stands = λ id. (source_stands id, target_stands id);
    }
